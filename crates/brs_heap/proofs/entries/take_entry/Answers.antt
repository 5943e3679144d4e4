use Rattle.std.proofs.Common.{rules, ◌≡◌, ◌<◌, Some, map, ap, sym, refl, ◌∙◌, subst, length, arith}
use Rattle.std.specs.Prelude.{slice_get, slice_index_or}
use Rattle.chan_values.specs.Portable.{IsKeyList}
use Rattle.heap_meaning.specs.Values.{filler}
use Rattle.heap_meaning.specs.Keys.{without_key}
use Rattle.heap_meaning.specs.Reading.{keys_in, children_in, length_in}
use Rattle.heap_meaning.proofs.Lists.{map_length}
use Rattle.brs_heap.specs.declared.cell.Entry.{Entry}
use Rattle.brs_heap.specs.declared.cell.Content.TheVariants.{Pairs as Entries}
use Rattle.brs_heap.specs.Content.{content_of, entry_of}
use Rattle.brs_heap.proofs.Calls.{entries_changed, pairs_there, entry_removed, child_got}
use Rattle.brs_heap.proofs.entries.take_entry.Goals as goal

pub returns-clause-written : goal.returns-clause-written
returns-clause-written c = λ key q l.
    let t = pairs_there c.args.cells.now.slots c.args.place c.in-Some.cell.now (map entry_of c.in-Pairs.entries.items) (search rules) (ap content_of c.in-Pairs.is) in
    let q' = subst (λ o. slice_get (keys_in o) c.args.at ≡ Some key) t q in
    let l' = subst (λ o. IsKeyList (keys_in o)) t l in
    entries_changed c.args.cells.now.slots c.args.place c.in-Some.cell.now (Entries c.remove.new.self) (map entry_of c.in-Pairs.entries.items) (map entry_of c.remove.new.self.items) (λ es. without_key es key) (search rules) (ap content_of c.in-Pairs.is) refl
    (entry_removed c.in-Pairs.entries.items c.remove.new.self.items c.args.at key l' q' c.remove.ensures.items)

pub returns-clause-was : goal.returns-clause-was
returns-clause-was c =
    let t = pairs_there c.args.cells.now.slots c.args.place c.in-Some.cell.now (map entry_of c.in-Pairs.entries.items) (search rules) (ap content_of c.in-Pairs.is) in
    let l = subst (λ o. c.args.at < length_in o) t c.requires.at in
    let n = map_length entry_of c.in-Pairs.entries.items in
    c.value_of_entry.ensures ∙ ap (λ (x : Entry). x.value) c.remove.ensures.value ∙ child_got c.in-Pairs.entries.items c.args.at c.remove.result filler (omega (arith, l, n)) ∙ ap (λ o. slice_index_or (children_in o) c.args.at filler) (sym t)
