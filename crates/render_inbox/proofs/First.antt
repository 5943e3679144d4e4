-- The first post of an actor, by its place.
use Rattle.std.proofs.Common.{◌≡◌, ℕ, zero, suc, ◌<◌, true, false, List, [], ◌∷◌, get_or, length, None, Some, refl, ap, arith}
use Rattle.std.proofs.Common.{◌≤◌, sym, ◌∙◌}
use Rattle.std.proofs.lemmas.Grind.{common_steps}
use Rattle.std.proofs.lemmas.List.Quantifiers.{position-Some}
use Rattle.std.proofs.lemmas.List.Sums.{fails_before_first}
use Rattle.std.specs.List.{remove, position, position_or_len}
use Rattle.render_inbox.specs.declared.entry.Entry.{Entry}
use Rattle.render_inbox.specs.Inbox.{is_post_of, number_of, without_first, first_number}

pub first_cut : (actor : ℕ) (es : List Entry) (at : ℕ) (d : Entry)
    → at < length es → is_post_of actor (get_or es at d) ≡ true
    → ((k : ℕ) → k < at → is_post_of actor (get_or es k d) ≡ false)
    → (without_first actor es ≡ remove es at) × (first_number actor es ≡ Some (number_of (get_or es at d)))
first_cut actor [] at d within passes fails = absurd (omega (arith, within))
first_cut actor (e ∷ es) zero d within passes fails = (rw passes refl, rw passes refl)
first_cut actor (e ∷ es) (suc at) d within passes fails =
    let rest = first_cut actor es at d (omega (arith, within)) passes (λ k h. fails (suc k) (omega (arith, h))) in
    let none : is_post_of actor e ≡ false = fails 0 (omega arith) in
    (rw none (ap (λ xs. e ∷ xs) rest.0), rw none rest.1)

pub none_first : (actor : ℕ) (es : List Entry)
    → ((k : ℕ) (d : Entry) → k < length es → is_post_of actor (get_or es k d) ≡ false)
    → (without_first actor es ≡ es) × (first_number actor es ≡ None)
none_first actor [] fails = (refl, refl)
none_first actor (e ∷ es) fails =
    let rest = none_first actor es (λ k d h. fails (suc k) d (omega (arith, h))) in
    let none : is_post_of actor e ≡ false = fails 0 e (omega arith) in
    (rw none (ap (λ xs. e ∷ xs) rest.0), rw none rest.1)

pub first_there : (actor : ℕ) (es : List Entry) (at : ℕ) (e : Entry)
    → position (is_post_of actor) es ≡ Some at → e ≡ get_or es at e
    → (without_first actor es ≡ remove es at) × (first_number actor es ≡ Some (number_of e))
first_there actor es at e found is =
    let there = position-Some (is_post_of actor) es at e found in
    let cut = first_cut actor es at e there.0 there.1 there.2 in
    (cut.0, cut.1 ∙ ap (λ x. Some (number_of x)) (sym is))

pub none_there : (actor : ℕ) (es : List Entry)
    → position (is_post_of actor) es ≡ None → (without_first actor es ≡ es) × (first_number actor es ≡ None)
none_there actor es found =
    let all : length es ≤ position_or_len (is_post_of actor) es = grind (arith, common_steps) in
    none_first actor es (λ k d h. fails_before_first (is_post_of actor) es k d (omega (arith, all, h)))
