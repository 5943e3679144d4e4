use Rattle.std.proofs.Common.{◌∙◌, ap, sym, [], List, ℕ, ◌<◌, length, map, take, get_or, arith, Bor}
use Rattle.std.specs.Option.{option_or}
use Rattle.folder_rules.specs.Names.{place_of}
use Rattle.folder_rules.proofs.Lists.{get_or_self, map_more, taken}
use Rattle.ordered_names.specs.Values.{value_in}
use Rattle.kind_tables.proofs.Named.{one, place_added}
use Rattle.kind_tables.proofs.kinds.word_places.Goals as goal

pub loop-place-preserved : goal.loop-place-preserved
loop-place-preserved c =
    let words : List (Bor (List ℕ)) = c.args.words.now in
    let i = c.loop-place.place in
    let here : i < length words = omega arith in
    let none : Bor (List ℕ) = record { ref_ptr = (0, 0); now = [] } in
    let word : Bor (List ℕ) = get_or words i none in
    λ name.
    place_added c.loop-place.names c.add.new.self (map (λ w. w.now) (take i words)) word.now i (sym (taken (λ w. w.now) words i here)) c.loop-place.invariant
    (λ other. c.in_ok-add.ensures.ok other ∙ ap (λ l. option_or (value_in c.loop-place.names other) (one l i other)) c.in_ok-name.ensures) name
    ∙ ap (λ l. place_of l name) (sym (map_more (λ (w : Bor (List ℕ)). w.now) words i word here (get_or_self words i none here)))
