-- A walk gives the order that its start is to have.
use Rattle.std.proofs.Common.{◌≡◌, ℕ, zero, suc, ◌+◌, ◌*◌, ◌<◌, ◌≤◌, Bool, true, false, ◌⊎◌, inl, inr, List, [], ◌∷◌, ◌++◌, Option, Some, None, fold, map, reverse, length, refl, sym, ap, ◌∙◌, arith, subst, length-append}
use Rattle.std.specs.List.{Contains}
use Rattle.std.proofs.Math.ListN.{set}
use Rattle.std.proofs.lemmas.List.{reverse-append, length-set}
use Rattle.std.proofs.lemmas.List.Elements.{Contains-append_left, Contains-push, Contains-push_cases}
use Rattle.std.proofs.lemmas.List.Sums.{fold-append}
use Rattle.component_cycles.specs.Search.{unmarked}
use Rattle.component_cycles.proofs.Members.{no_member, first_member, later_member, member_cases}
use Rattle.kind_order.specs.Graph.{Leads, at_once, IsWithoutCycle}
use Rattle.kind_order.specs.Order.{is_listed, put}
use Rattle.kind_order.specs.Walk.{Begun, Walk, first_of, go_on, is_marked, next_unmarked, AreMarked}
use Rattle.kind_order.proofs.Built.{step_behind}
use Rattle.kind_order.proofs.Listed.{listed_member, member_listed, not_listed}
use Rattle.kind_order.proofs.Marks.{one_fewer, off_below, at_most_all, marked_here, marked_still, marked_before, none_left, NextAt, next_is}
use Rattle.kind_order.proofs.Puts.{put_new, fold_listed}

-- the order that is there when all that is begun, the last first, is put behind it
abbrev pub finished : (ℕ → List ℕ) → ℕ → List Begun → List ℕ → List ℕ
finished named depth [] order = order
finished named depth (v ∷ vs) order = finished named (suc depth) vs (fold (put depth named) order v.left ++ v.place ∷ [])

abbrev pub places_of : List Begun → List ℕ
places_of frames = map (λ (v : Begun). v.place) frames

-- of what is begun, the last first, each leads to those that were begun later
pub record IsLast (count : ℕ) (named : ℕ → List ℕ) (v : Begun) (below : List Begun) : Type 0 where
  pub here : v.place < count
  pub left : (q : ℕ) → Contains v.left q → Contains (named v.place) q
  pub led : (y : ℕ) → Contains (places_of below) y → Leads named y v.place

abbrev pub AreBegun : ℕ → (ℕ → List ℕ) → List Begun → Type 0
AreBegun count named [] = Unit {0}
AreBegun count named (v ∷ vs) = IsLast count named v vs × AreBegun count named vs

-- what is begun, the last first, leads to the order
pub record IsWalking (count : ℕ) (named : ℕ → List ℕ) (target : List ℕ) (marks : List Bool) (frames : List Begun) (order : List ℕ) : Type 0 where
  pub depth : ℕ
  pub size : length marks ≡ count
  pub few : unmarked marks ≤ depth
  pub gives : finished named depth frames order ≡ target
  pub begun : AreBegun count named frames
  pub inside : (p : ℕ) → Contains order p → p < count
  pub in_order : (p : ℕ) → Contains order p → is_marked marks p ≡ true
  pub in_frames : (p : ℕ) → Contains (places_of frames) p → is_marked marks p ≡ true
  pub only : (p : ℕ) → p < count → is_marked marks p ≡ true → Contains order p ⊎ Contains (places_of frames) p

module _ (count : ℕ) (named : ℕ → List ℕ) (graph : IsWithoutCycle count named) (target : List ℕ) where
  -- ---- the first step

  pub walk_begins : (start : ℕ) (marks : List Bool) (order : List ℕ) → AreMarked count marks order → is_marked marks start ≡ false → target ≡ put count named order start
      → IsWalking count named target (set marks start true) (first_of named start ∷ []) order
  walk_begins start marks order are off is = go count refl
    where
      there : start < length marks
      there = off_below marks start off

      listed : (p : ℕ) → Contains order p → is_marked marks p ≡ true
      listed p m = are.same p (are.inside p m) ∙ member_listed order p m

      new : start < count → is_listed order start ≡ false
      new l = sym (are.same start l) ∙ off

      in_frames : (p : ℕ) → Contains (start ∷ []) p → is_marked (set marks start true) p ≡ true
      in_frames p m = case (member_cases start p [] m)
        where
          case : (start ≡ p) ⊎ Contains [] p → is_marked (set marks start true) p ≡ true
          case (inl e) = subst (λ k. is_marked (set marks start true) k ≡ true) e (marked_here marks start there)
          case (inr n) = absurd (no_member p n)

      only : (p : ℕ) → p < count → (start ≡ p) ⊎ (is_marked marks p ≡ true) → Contains order p ⊎ Contains (start ∷ []) p
      only p l (inl e) = inr (subst (Contains (start ∷ [])) e (first_member start []))
      only p l (inr m) = inl (listed_member order p (sym (are.same p l) ∙ m))

      go : (n : ℕ) → count ≡ n → IsWalking count named target (set marks start true) (first_of named start ∷ []) order
      go zero e = let s = are.size in absurd (omega (arith, there))
      go (suc d) e =
          let s = are.size in
          let fewer = one_fewer marks start off in
          let most = at_most_all marks in
          record {
            depth = d;
            size = length-set marks start true ∙ are.size;
            few = omega (arith, fewer, most);
            gives = sym (is ∙ ap (λ k. put k named order start) e ∙ put_new named d order start (new (omega (arith, there))));
            begun = (record { here = omega (arith, there); left = λ q m. m; led = λ y m. absurd (no_member y m) }, tt);
            inside = are.inside;
            in_order = λ p m. marked_still marks start there p (listed p m);
            in_frames = in_frames;
            only = λ p l m. only p l (marked_before marks start there p m);
          }

  -- ---- a step

  module _ (marks : List Bool) (v : Begun) (vs : List Begun) (order : List ℕ) (w : IsWalking count named target marks (v ∷ vs) order) where
    -- what is marked and named by the last is in the order
    passed : (q : ℕ) → Contains (named v.place) q → is_marked marks q ≡ true → is_listed order q ≡ true
    passed q n m = go (w.only q (graph.inside v.place q n) m)
      where
        round : (v.place ≡ q) ⊎ Contains (places_of vs) q → ⊥
        round (inl e) = graph.no_way_back v.place (at_once (subst (Contains (named v.place)) (sym e) n))
        round (inr y) = graph.no_way_back q (step_behind named q v.place q (w.begun.0.led q y) n)

        go : Contains order q ⊎ Contains (v.place ∷ places_of vs) q → is_listed order q ≡ true
        go (inl l) = member_listed order q l
        go (inr c) = absurd (round (member_cases v.place q (places_of vs) c))

    pub walk_puts : next_unmarked marks v.left ≡ None → IsWalking count named target marks vs (order ++ v.place ∷ [])
    walk_puts none = record {
      depth = suc w.depth;
      size = w.size;
      few = let f = w.few in omega arith;
      gives = ap (λ l. finished named (suc w.depth) vs (l ++ v.place ∷ [])) (sym all) ∙ w.gives;
      begun = w.begun.1;
      inside = λ p m. inside p (Contains-push_cases order v.place p m);
      in_order = λ p m. in_order p (Contains-push_cases order v.place p m);
      in_frames = λ p m. w.in_frames p (later_member v.place p (places_of vs) m);
      only = λ p l m. only p (w.only p l m);
    }
      where
        all : fold (put w.depth named) order v.left ≡ order
        all = fold_listed named w.depth order v.left (λ q m. passed q (w.begun.0.left q m) (none_left marks v.left none q m))

        inside : (p : ℕ) → Contains order p ⊎ (v.place ≡ p) → p < count
        inside p (inl m) = w.inside p m
        inside p (inr e) = subst (λ k. k < count) e w.begun.0.here

        in_order : (p : ℕ) → Contains order p ⊎ (v.place ≡ p) → is_marked marks p ≡ true
        in_order p (inl m) = w.in_order p m
        in_order p (inr e) = w.in_frames p (subst (Contains (v.place ∷ places_of vs)) e (first_member v.place (places_of vs)))

        only_last : (p : ℕ) → (v.place ≡ p) ⊎ Contains (places_of vs) p → Contains (order ++ v.place ∷ []) p ⊎ Contains (places_of vs) p
        only_last p (inl e) = inl (subst (Contains (order ++ v.place ∷ [])) e (Contains-push order v.place))
        only_last p (inr m) = inr m

        only : (p : ℕ) → Contains order p ⊎ Contains (v.place ∷ places_of vs) p → Contains (order ++ v.place ∷ []) p ⊎ Contains (places_of vs) p
        only p (inl m) = inl (Contains-append_left order (v.place ∷ []) p m)
        only p (inr m) = only_last p (member_cases v.place p (places_of vs) m)

    module _ (place : ℕ) (behind : List ℕ) (next : next_unmarked marks v.left ≡ Some (place, behind)) where
      at : NextAt marks v.left place behind
      at = next_is marks v.left place behind next

      abbrev rest : Begun
      rest = record { place = v.place; left = behind }

      there : place < length marks
      there = off_below marks place at.off

      in_left : (q : ℕ) → Contains (at.skipped ++ place ∷ behind) q → Contains (named v.place) q
      in_left q m = w.begun.0.left q (subst (λ l. Contains l q) (sym at.split) m)

      named_here : Contains (named v.place) place
      named_here = in_left place (in_middle at.skipped place behind)
        where
          in_middle : (xs : List ℕ) (x : ℕ) (ys : List ℕ) → Contains (xs ++ x ∷ ys) x
          in_middle [] x ys = first_member x ys
          in_middle (z ∷ zs) x ys = later_member z x (zs ++ x ∷ ys) (in_middle zs x ys)

      new : is_listed order place ≡ false
      new = not_listed order place (λ m. let t : false ≡ true = sym at.off ∙ w.in_order place m in absurd cc)

      -- what is left is put behind the order, the marked ones first
      left_is : (depth : ℕ) → fold (put depth named) order v.left ≡ fold (put depth named) (put depth named order place) behind
      left_is depth =
          ap (fold (put depth named) order) at.split
          ∙ fold-append (put depth named) order at.skipped (place ∷ behind)
          ∙ ap (λ o. fold (put depth named) o (place ∷ behind)) (fold_listed named depth order at.skipped (λ q m. passed q (in_left q (Contains-append_left at.skipped (place ∷ behind) q m)) (at.all q m)))

      left_behind : (q : ℕ) → Contains behind q → Contains (named v.place) q
      left_behind q m = in_left q (far at.skipped q m)
        where
          far : (xs : List ℕ) (x : ℕ) → Contains behind x → Contains (xs ++ place ∷ behind) x
          far [] x n = later_member place x behind n
          far (z ∷ zs) x n = later_member z x (zs ++ place ∷ behind) (far zs x n)

      led : (y : ℕ) → (v.place ≡ y) ⊎ Contains (places_of vs) y → Leads named y place
      led y (inl e) = subst (λ k. Leads named k place) e (at_once named_here)
      led y (inr m) = step_behind named y v.place place (w.begun.0.led y m) named_here

      in_frames : (p : ℕ) → (place ≡ p) ⊎ Contains (v.place ∷ places_of vs) p → is_marked (set marks place true) p ≡ true
      in_frames p (inl e) = subst (λ k. is_marked (set marks place true) k ≡ true) e (marked_here marks place there)
      in_frames p (inr m) = marked_still marks place there p (w.in_frames p m)

      only_before : (p : ℕ) → Contains order p ⊎ Contains (v.place ∷ places_of vs) p → Contains order p ⊎ Contains (place ∷ (v.place ∷ places_of vs)) p
      only_before p (inl m) = inl m
      only_before p (inr m) = inr (later_member place p (v.place ∷ places_of vs) m)

      only : (p : ℕ) → p < count → (place ≡ p) ⊎ (is_marked marks p ≡ true) → Contains order p ⊎ Contains (place ∷ (v.place ∷ places_of vs)) p
      only p l (inl e) = inr (subst (Contains (place ∷ (v.place ∷ places_of vs))) e (first_member place (v.place ∷ places_of vs)))
      only p l (inr m) = only_before p (w.only p l m)

      deeper : (depth : ℕ) → unmarked marks ≤ depth → finished named depth (v ∷ vs) order ≡ target → IsWalking count named target (set marks place true) (first_of named place ∷ (rest ∷ vs)) order
      deeper zero few gives = let fewer = one_fewer marks place at.off in absurd (omega (arith, fewer))
      deeper (suc d) few gives =
          let fewer = one_fewer marks place at.off in
          record {
            depth = d;
            size = length-set marks place true ∙ w.size;
            few = omega (arith, fewer);
            gives = ap (λ o. finished named (suc (suc d)) vs (fold (put (suc d) named) o behind ++ v.place ∷ [])) (sym (put_new named d order place new))
                ∙ ap (λ l. finished named (suc (suc d)) vs (l ++ v.place ∷ [])) (sym (left_is (suc d))) ∙ gives;
            begun = (record { here = graph.inside v.place place named_here; left = λ q m. m; led = λ y m. led y (member_cases v.place y (places_of vs) m) }, (record { here = w.begun.0.here; left = left_behind; led = w.begun.0.led }, w.begun.1));
            inside = w.inside;
            in_order = λ p m. marked_still marks place there p (w.in_order p m);
            in_frames = λ p m. in_frames p (member_cases place p (v.place ∷ places_of vs) m);
            only = λ p l m. only p l (marked_before marks place there p m);
          }

      pub walk_begins_next : IsWalking count named target (set marks place true) (first_of named place ∷ (rest ∷ vs)) order
      walk_begins_next = deeper w.depth w.few w.gives

  -- ---- the end

  pub walk_ends : (marks : List Bool) (order : List ℕ) → IsWalking count named target marks [] order → (order ≡ target) × AreMarked count marks order
  walk_ends marks order w = (w.gives, record { size = w.size; inside = w.inside; same = λ p l. same p l (is_marked marks p) refl (is_listed order p) refl })
    where
      in_list : (p : ℕ) → Contains order p ⊎ Contains [] p → is_listed order p ≡ true
      in_list p (inl m) = member_listed order p m
      in_list p (inr m) = absurd (no_member p m)

      same : (p : ℕ) → p < count → (a : Bool) → is_marked marks p ≡ a → (b : Bool) → is_listed order p ≡ b → is_marked marks p ≡ is_listed order p
      same p l true s b t = s ∙ sym (in_list p (w.only p l s))
      same p l false s true t = let u : true ≡ false = sym (w.in_order p (listed_member order p t)) ∙ s in absurd cc
      same p l false s false t = s ∙ sym t

-- ---- as the code keeps it: what is begun stands with the last at the end

abbrev pub IsGoingOn : (count : ℕ) (named : ℕ → List ℕ) (target : List ℕ) → Walk → Type 0
IsGoingOn count named target w = IsWalking count named target w.marks (reverse w.stack) w.order

-- two steps for each that isn't marked, and one for each that is begun
abbrev pub steps_left : Walk → ℕ
steps_left w = 2 * unmarked w.marks + length w.stack

module _ (count : ℕ) (named : ℕ → List ℕ) (graph : IsWithoutCycle count named) (target : List ℕ) where
  pub going_on : (before after : Walk) (v : Begun) → IsWalking count named target before.marks (v ∷ reverse before.stack) before.order
      → after ≡ go_on named v.place (next_unmarked before.marks v.left) before → IsGoingOn count named target after
  going_on before after v w e = subst (IsGoingOn count named target) (sym e) (go (next_unmarked before.marks v.left) refl)
    where
      turned : (xs : List Begun) (x y : Begun) → y ∷ (x ∷ reverse xs) ≡ reverse ((xs ++ x ∷ []) ++ y ∷ [])
      turned xs x y = sym (reverse-append (xs ++ x ∷ []) (y ∷ []) ∙ ap (λ l. y ∷ l) (reverse-append xs (x ∷ [])))

      go : (o : Option (ℕ × List ℕ)) → next_unmarked before.marks v.left ≡ o → IsGoingOn count named target (go_on named v.place o before)
      go None n = walk_puts count named graph target before.marks v (reverse before.stack) before.order w n
      go (Some next) n =
          subst (λ l. IsWalking count named target (set before.marks next.0 true) l before.order) (turned before.stack (record { place = v.place; left = next.1 }) (first_of named next.0))
          (walk_begins_next count named graph target before.marks v (reverse before.stack) before.order w next.0 next.1 n)

pub fewer_steps : (named : ℕ → List ℕ) (before after : Walk) (place : ℕ) (left : List ℕ) → after ≡ go_on named place (next_unmarked before.marks left) before → steps_left after < suc (steps_left before)
fewer_steps named before after place left e = subst (λ w. steps_left w < suc (steps_left before)) (sym e) (go (next_unmarked before.marks left) refl)
  where
    go : (o : Option (ℕ × List ℕ)) → next_unmarked before.marks left ≡ o → steps_left (go_on named place o before) < suc (steps_left before)
    go None n = omega arith
    go (Some next) n =
        let fewer = one_fewer before.marks next.0 (next_is before.marks left next.0 next.1 n).off in
        let one = length-append before.stack (record { place = place; left = next.1 } ∷ []) in
        let two = length-append (before.stack ++ record { place = place; left = next.1 } ∷ []) (first_of named next.0 ∷ []) in
        omega (arith, fewer, one, two)

-- the same, from the stack with the last that was taken
pub fewer_left : (named : ℕ → List ℕ) (marks : List Bool) (order : List ℕ) (rest stack : List Begun) → length stack ≡ suc (length rest) → (after : Walk) (place : ℕ) (left : List ℕ)
    → after ≡ go_on named place (next_unmarked marks left) (record { marks = marks; stack = rest; order = order }) → steps_left after < steps_left (record { marks = marks; stack = stack; order = order })
fewer_left named marks order rest stack one after place left e =
    let fewer = fewer_steps named (record { marks = marks; stack = rest; order = order }) after place left e in
    omega (arith, fewer, one)
