-- Values of an associative array, read by position.
use Rattle.std.proofs.Common.{◌≡◌, ℕ, ◌<◌, List, map, length, get_or, Option, Some, sym, ap, ◌∙◌, subst}
use Rattle.std.specs.Prelude.{slice_get, option_map}
use Rattle.std.proofs.lemmas.Option.{slice_get-map, slice_get-get_or}
use Rattle.heap_meaning.specs.Cells.{Content, Pairs}
use Rattle.heap_meaning.specs.Reading.{children_in}
use Rattle.heap_meaning.specs.Values.{Value, Entry as Shown}
use Rattle.brs_heap.specs.declared.cell.Entry.{Entry}
use Rattle.brs_heap.specs.Content.{entry_of}

pub child_in : (o : Option Content) (es xs : List Entry) (i : ℕ) (e : Entry) → Some (Pairs (map entry_of es)) ≡ o → xs ≡ es → i < length xs → e ≡ get_or xs i e → Some e.value ≡ slice_get (children_in o) i
child_in o es xs i e p q l r =
    let there : slice_get es i ≡ Some e = subst (λ ys. slice_get ys i ≡ Some e) q (slice_get-get_or xs i e l ∙ ap Some (sym r)) in
    subst (λ o. Some e.value ≡ slice_get (children_in o) i) p (sym (slice_get-map (λ (x : Shown Value). x.value) (map entry_of es) i ∙ ap (option_map (λ (x : Shown Value). x.value)) (slice_get-map entry_of es i ∙ ap (option_map entry_of) there)))
