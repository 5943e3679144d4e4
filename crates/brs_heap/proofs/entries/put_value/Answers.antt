use Rattle.std.proofs.Common.{rules, ◌≡◌, ◌<◌, Some, map, ap, sym, refl, ◌∙◌, subst, length, arith}
use Rattle.std.specs.Prelude.{slice_get, slice_set, slice_index_or}
use Rattle.std.specs.Vec.{with_item}
use Rattle.chan_values.specs.Portable.{IsKeyList}
use Rattle.heap_meaning.specs.Values.{filler}
use Rattle.heap_meaning.specs.Keys.{with_key, keys_of}
use Rattle.heap_meaning.specs.Reading.{keys_in, children_in, length_in}
use Rattle.heap_meaning.proofs.Lists.{map_length}
use Rattle.brs_heap.specs.declared.cell.Content.TheVariants.{Pairs as Entries}
use Rattle.brs_heap.specs.declared.cell.Entry.{Entry}
use Rattle.brs_heap.specs.Content.{content_of, entry_of}
use Rattle.brs_heap.proofs.Calls.{entries_changed, pairs_there, value_put, key_got, child_got}
use Rattle.brs_heap.proofs.entries.put_value.Goals as goal

pub returns-clause-written : goal.returns-clause-written
returns-clause-written c = λ key q l.
    let t = pairs_there c.args.cells.now.slots c.args.place c.in-Some.cell.now (map entry_of c.in-Pairs.entries.items) (search rules) (ap content_of c.in-Pairs.is) in
    let q' = subst (λ o. slice_get (keys_in o) c.args.at ≡ Some key) t q in
    let l' = subst (λ o. IsKeyList (keys_in o)) t l in
    let new : Entry = record { key = c.index_mut.result.now.key; value = c.replace.new.dest } in
    entries_changed c.args.cells.now.slots c.args.place c.in-Some.cell.now (Entries (with_item c.in-Pairs.entries c.args.at new)) (map entry_of c.in-Pairs.entries.items) (map entry_of (slice_set c.in-Pairs.entries.items c.args.at new)) (λ es. with_key es key c.args.item) (search rules) (ap content_of c.in-Pairs.is) refl
    (value_put c.in-Pairs.entries.items c.args.at new key l' q' (ap (λ (x : Entry). x.key) c.index_mut.ensures.value ∙ key_got c.in-Pairs.entries.items c.args.at c.index_mut.result.now key q') ∙ ap (with_key (map entry_of c.in-Pairs.entries.items) key) c.replace.ensures.after)

pub returns-clause-was : goal.returns-clause-was
returns-clause-was c =
    let t = pairs_there c.args.cells.now.slots c.args.place c.in-Some.cell.now (map entry_of c.in-Pairs.entries.items) (search rules) (ap content_of c.in-Pairs.is) in
    let l = subst (λ o. c.args.at < length_in o) t c.requires.at in
    let n = map_length entry_of c.in-Pairs.entries.items in
    c.replace.ensures.value ∙ ap (λ (x : Entry). x.value) c.index_mut.ensures.value ∙ child_got c.in-Pairs.entries.items c.args.at c.index_mut.result.now filler (omega (arith, l, n)) ∙ ap (λ o. slice_index_or (children_in o) c.args.at filler) (sym t)
