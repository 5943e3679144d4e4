use Rattle.std.proofs.Common.{◌≡◌, ◌∙◌, ap, sym, refl, [], List, ℕ, ◌<◌, length, map, take, get_or, arith, Bor}
use Rattle.folder_rules.specs.Names.{place_of}
use Rattle.folder_rules.proofs.Lists.{get_or_self, map_more, taken}
use Rattle.folder_rules.proofs.Tables.{places_more}
use Rattle.component_faults.proofs.names.table_of.Goals as goal

pub loop-place-preserved : goal.loop-place-preserved
loop-place-preserved c =
    let words : List (Bor (List ℕ)) = c.args.words.now in
    let here : c.loop-place.place < length words = omega arith in
    let word : Bor (List ℕ) = get_or words c.loop-place.place (record { ref_ptr = (0, 0); now = [] }) in
    λ name.
    places_more c.loop-place.names c.add_word.new.names (map (λ w. w.now) (take c.loop-place.place words)) word.now c.loop-place.place (sym (taken (λ w. w.now) words c.loop-place.place here)) c.loop-place.invariant c.in_ok-add_word.ensures name
    ∙ ap (λ l. place_of l name) (sym (map_more (λ (w : Bor (List ℕ)). w.now) words c.loop-place.place word here (get_or_self words c.loop-place.place (record { ref_ptr = (0, 0); now = [] }) here)))
