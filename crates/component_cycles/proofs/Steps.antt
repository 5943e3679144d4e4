-- The steps of components, one component more.
use Rattle.std.proofs.Common.{◌≡◌, ◌≢◌, ℕ, ◌+◌, ◌<◌, Bool, true, false, ◌⊎◌, inl, inr, List, [], ◌∷◌, ◌++◌, Option, Some, None, suc, length, map, take, drop, refl, sym, ap, ◌∙◌, subst, arith}
use Rattle.std.specs.List.{Contains, filter_map}
use Rattle.std.proofs.lemmas.List.Elements.{Contains-append_left, Contains-append_right, Contains-append_cases, Contains-push, Contains-push_cases}
use Rattle.folder_rules.specs.declared.component.PathedComponent.{PathedComponent}
use Rattle.folder_rules.specs.declared.names.NameTable.{NameTable}
use Rattle.folder_rules.specs.KindFaults.{named_kinds}
use Rattle.folder_rules.specs.Kinds.{built_in_names, component_name, kind_names}
use Rattle.folder_rules.specs.Names.{number_in, place_of, HasPlaces}
use Rattle.std.proofs.lemmas.List.{append-nil, take_all}
use Rattle.folder_rules.proofs.Lists.{drop_end}
use Rattle.component_cycles.specs.declared.graph.NamedKinds.{NamedKinds}
use Rattle.component_cycles.specs.Graph.{named_at, Names, ComponentNames, HasStepsOf, HasStepsMore, HasMoreAt, IsWithoutSteps}
use Rattle.component_cycles.proofs.Members.{no_member, among_member, member_among, place_below, given_member, member_given, GivenBy}
use Rattle.component_cycles.proofs.Searches.{same_or_not}

pub no_steps : (names : List (List ℕ)) (graph : List NamedKinds) → IsWithoutSteps (length names) graph → HasStepsOf names [] graph
no_steps names graph w = record {
  size = w.size;
  only = λ p q n. absurd (no_member q (subst (λ l. Contains l q) (w.none p) n));
  all = λ p q c. absurd (no_member c.component c.listed);
}

is_or_not : (o : Option ℕ) (place : ℕ) → (o ≡ Some place) ⊎ (o ≢ Some place)
is_or_not None place = inr (λ e. absurd cc)
is_or_not (Some k) place = go (same_or_not k place)
  where
    go : (k ≡ place) ⊎ (k ≢ place) → (Some k ≡ Some place) ⊎ (Some k ≢ Some place)
    go (inl e) = inl (ap Some e)
    go (inr n) = inr (λ e. n cc)

module _ (table : NameTable) (names : List (List ℕ)) (has : HasPlaces table names) (cs : List PathedComponent) (c : PathedComponent) (before after : List NamedKinds)
    (steps : HasStepsOf names cs before) (more : HasStepsMore table c before after) where
  below : (place : ℕ) → number_in table (component_name c) ≡ Some place → place < length before
  below place e = subst (λ k. place < k) (sym steps.size) (place_below names (component_name c) place (sym (has (component_name c)) ∙ e))

  longer : (p q : ℕ) → ComponentNames names cs p q → ComponentNames names (cs ++ c ∷ []) p q
  longer p q n = record { component = n.component; listed = Contains-append_left cs (c ∷ []) n.component n.listed; is_at = n.is_at; kind = n.kind; names_it = n.names_it; kind_is_at = n.kind_is_at }

  by_this : (p q : ℕ) → number_in table (component_name c) ≡ Some p → GivenBy (number_in table) (named_kinds c) q → ComponentNames names (cs ++ c ∷ []) p q
  by_this p q e g = record {
    component = c;
    listed = Contains-push cs c;
    is_at = sym (has (component_name c)) ∙ e;
    kind = g.item;
    names_it = member_among (named_kinds c) g.item g.listed;
    kind_is_at = sym (has g.item) ∙ g.gives;
  }

  only_at : (p q : ℕ) → number_in table (component_name c) ≡ Some p → Contains (named_at before p) q ⊎ Contains (filter_map (number_in table) (named_kinds c)) q → ComponentNames names (cs ++ c ∷ []) p q
  only_at p q e (inl n) = longer p q (steps.only p q n)
  only_at p q e (inr n) = by_this p q e (member_given (number_in table) (named_kinds c) q n)

  only : (p q : ℕ) → Names after p q → (number_in table (component_name c) ≡ Some p) ⊎ (number_in table (component_name c) ≢ Some p) → ComponentNames names (cs ++ c ∷ []) p q
  only p q n (inl e) = only_at p q e (Contains-append_cases (named_at before p) (filter_map (number_in table) (named_kinds c)) q (subst (λ l. Contains l q) (more.there p e (below p e)) n))
  only p q n (inr d) = longer p q (steps.only p q (subst (λ l. Contains l q) (more.others p d) n))

  kept : (p q : ℕ) → Names before p q → (number_in table (component_name c) ≡ Some p) ⊎ (number_in table (component_name c) ≢ Some p) → Names after p q
  kept p q n (inl e) = subst (λ l. Contains l q) (sym (more.there p e (below p e))) (Contains-append_left (named_at before p) (filter_map (number_in table) (named_kinds c)) q n)
  kept p q n (inr d) = subst (λ l. Contains l q) (sym (more.others p d)) n

  here : (p q : ℕ) (n : ComponentNames names (cs ++ c ∷ []) p q) → c ≡ n.component → Names after p q
  here p q n same =
      let e : number_in table (component_name c) ≡ Some p = has (component_name c) ∙ ap (λ x. place_of names (component_name x)) same ∙ n.is_at in
      let g : number_in table n.kind ≡ Some q = has n.kind ∙ n.kind_is_at in
      subst (λ l. Contains l q) (sym (more.there p e (below p e)))
      (Contains-append_right (named_at before p) (filter_map (number_in table) (named_kinds c)) q
      (given_member (number_in table) (named_kinds c) n.kind q (subst (λ x. Contains (named_kinds x) n.kind) (sym same) (among_member (named_kinds n.component) n.kind n.names_it)) g))

  all : (p q : ℕ) (n : ComponentNames names (cs ++ c ∷ []) p q) → Contains cs n.component ⊎ (c ≡ n.component) → Names after p q
  all p q n (inl l) = kept p q (steps.all p q (record { component = n.component; listed = l; is_at = n.is_at; kind = n.kind; names_it = n.names_it; kind_is_at = n.kind_is_at })) (is_or_not (number_in table (component_name c)) p)
  all p q n (inr same) = here p q n same

  pub steps_more : HasStepsOf names (cs ++ c ∷ []) after
  steps_more = record {
    size = more.size ∙ steps.size;
    only = λ p q n. only p q n (is_or_not (number_in table (component_name c)) p);
    all = λ p q n. all p q n (Contains-push_cases cs c n.component n.listed);
  }

-- more at the place of a component's name
pub more_of_component : (table : NameTable) (c : PathedComponent) (place : ℕ) (before after : List NamedKinds) → number_in table (component_name c) ≡ Some place → HasMoreAt place (filter_map (number_in table) (named_kinds c)) before after → HasStepsMore table c before after
more_of_component table c place before after e more = record {
  size = more.size;
  there = λ p f l. let same : place ≡ p = cc in subst (λ k. named_at after k ≡ named_at before k ++ filter_map (number_in table) (named_kinds c)) same (more.there (subst (λ k. k < length before) (sym same) l));
  others = λ p d. more.others p (λ s. d (e ∙ ap Some (sym s)));
}

pub none_of_component : (table : NameTable) (c : PathedComponent) (before : List NamedKinds) → number_in table (component_name c) ≡ None → HasStepsMore table c before before
none_of_component table c before e = record { size = refl; there = λ p f l. absurd cc; others = λ p d. refl }

-- ---- the graph before the first component

names_of : (cs : List PathedComponent) → length (map component_name cs) ≡ length cs
names_of [] = refl
names_of (c ∷ cs) = ap suc (names_of cs)

pub names_count : (cs : List PathedComponent) → 9 + length cs ≡ length (kind_names cs)
unfolding built_in_names
names_count cs = let n = names_of cs in omega (arith, n)

-- a whole that was written through a slice
pub whole : {A : Type 0} (n : ℕ) (after before : List A) → length after ≡ n → length before ≡ n → take n (after ++ drop (length after) before) ≡ after
whole n after before e f =
    ap (λ l. take n (after ++ l)) (drop_end before (length after) (omega arith))
    ∙ ap (take n) (append-nil after) ∙ take_all n after (omega arith)
