-- Places of components lead to one another as their names reach one another.
use Rattle.std.proofs.Common.{◌≡◌, ℕ, zero, suc, ◌+◌, ◌-◌, ◌≤◌, nat_lt, Bool, true, false, cond, if◌then◌else◌, ◌⊎◌, inl, inr, List, [], ◌∷◌, ◌++◌, Option, Some, None, option_map, slice_get, length, map, refl, sym, ap, ◌∙◌, subst, arith}
use Rattle.std.specs.List.{Contains}
use Rattle.std.specs.Str.{bytes_eq}
use Rattle.std.proofs.lemmas.Option.{slice_get-map, slice_get_within, get_or_from_slice_get}
use Rattle.std.proofs.lemmas.Bool.{ltb-false}
use Rattle.std.proofs.lemmas.Slice.Eq.{bytes_eq-Decides}
use Rattle.chan_values.specs.declared.folder_fault.FolderFault.{FolderFault}
use Rattle.folder_rules.specs.declared.component.PathedComponent.{PathedComponent}
use Rattle.folder_rules.specs.FirstFault.{IsFirstWrong}
use Rattle.folder_rules.specs.KindFaults as f
use Rattle.folder_rules.specs.KindFaults.{named_kinds, IsInCycle, Reaches, cycle_fault}
use Rattle.folder_rules.specs.Kinds.{component_name, built_in_names, kind_names}
use Rattle.folder_rules.specs.Names.{place_from, place_of}
use Rattle.component_cycles.proofs.Members.{no_member, member_cases, member_given, member_among}
use Rattle.kind_order.specs.Graph.{Leads, at_once, by_way_of, IsWithoutCycle}
use Rattle.kind_order.specs.GoodOrder.{HasNoCycle}
use Rattle.kind_order.specs.Named.{behind_built_in, component_place, named_of, named_at}

-- ---- places of names

-- a name is found where it stands
pub record FoundAt (start : ℕ) (names : List (List ℕ)) (name : List ℕ) (place : ℕ) : Type 0 where
  pub at : ℕ
  pub behind : place ≡ start + at
  pub is : slice_get names at ≡ Some name

found : (n : ℕ) (names : List (List ℕ)) (name : List ℕ) (place : ℕ) → place_from n names name ≡ Some place → FoundAt n names name place
found n [] name place e = absurd cc
found n (x ∷ xs) name place e = go (bytes_eq x name) (λ s. (bytes_eq-Decides x name).0 s) (λ r. found (n + 1) xs name place r) e
  where
    go : (b : Bool) → (b ≡ true → x ≡ name) → (place_from (n + 1) xs name ≡ Some place → FoundAt (n + 1) xs name place)
        → cond b (Some n) (place_from (n + 1) xs name) ≡ Some place → FoundAt n (x ∷ xs) name place
    go true h r t = let same : n ≡ place = cc in record { at = zero; behind = omega arith; is = ap Some (h refl) }
    go false h r t = let m = r t in let b = m.behind in record { at = suc m.at; behind = omega arith; is = m.is }

-- the place of a component is nine less than that of its name
nine_less : (o : Option ℕ) (place : ℕ) → behind_built_in o ≡ Some place → o ≡ Some (9 + place)
nine_less None place e = absurd cc
nine_less (Some k) place e = go (nat_lt k 9) refl e
  where
    go : (b : Bool) → nat_lt k 9 ≡ b → (if b then None else Some (k - 9)) ≡ Some place → Some k ≡ Some (9 + place)
    go true s t = absurd cc
    go false s t = let same : k - 9 ≡ place = cc in let l : 9 ≤ k = ltb-false k 9 s in ap Some (omega arith)

behind_nine : (names : List (List ℕ)) (k place : ℕ) (name : List ℕ) → k ≡ 9 + place → slice_get (built_in_names ++ names) k ≡ Some name → slice_get names place ≡ Some name
unfolding built_in_names
behind_nine names k place name e g =
    let nine : k ≡ suc (suc (suc (suc (suc (suc (suc (suc (suc place)))))))) = omega arith in
    subst (λ m. slice_get (built_in_names ++ names) m ≡ Some name) nine g

-- a component's place is that of a component of the name
pub record NamedAt (components : List PathedComponent) (name : List ℕ) (place : ℕ) : Type 0 where
  pub component : PathedComponent
  pub is : slice_get components place ≡ Some component
  pub is_named : component_name component ≡ name

given_name : (o : Option PathedComponent) (name : List ℕ) → option_map component_name o ≡ Some name → (c : PathedComponent) × (o ≡ Some c) × (component_name c ≡ name)
given_name None name e = absurd cc
given_name (Some c) name e = (c, refl, cc)

module _ (components : List PathedComponent) where
  pub named_there : (name : List ℕ) (place : ℕ) → component_place components name ≡ Some place → NamedAt components name place
  named_there name place e =
      let m = found 0 (kind_names components) name (9 + place) (nine_less (place_of (kind_names components) name) place e) in
      let b = m.behind in
      let g = behind_nine (map component_name components) m.at place name (omega arith) m.is in
      let c = given_name (slice_get components place) name (sym (slice_get-map component_name components place) ∙ g) in
      record { component = c.0; is = c.1; is_named = c.2 }

  -- what is named has the place of a component that is there
  pub record Step (place other : ℕ) : Type 0 where
    pub component : PathedComponent
    pub is : slice_get components place ≡ Some component
    pub target : PathedComponent
    pub target_is : slice_get components other ≡ Some target
    pub names_it : Contains (named_kinds component) (component_name target)

  step_of : (place other : ℕ) (o : Option PathedComponent) → slice_get components place ≡ o → Contains (named_of components o) other → Step place other
  step_of place other None e n = absurd (no_member other n)
  step_of place other (Some c) e n =
      let g = member_given (component_place components) (named_kinds c) other n in
      let t = named_there g.item other g.gives in
      record { component = c; is = e; target = t.component; target_is = t.is; names_it = subst (Contains (named_kinds c)) (sym t.is_named) g.listed }

  step : (place other : ℕ) → Contains (named_at components place) other → Step place other
  step place other n = step_of place other (slice_get components place) refl n

  listed : (place : ℕ) (c : PathedComponent) → slice_get components place ≡ Some c → Contains components c
  listed place c e = (place, slice_get_within components place c e, get_or_from_slice_get components place c c e)

  one : (place : ℕ) (c d : PathedComponent) → slice_get components place ≡ Some c → slice_get components place ≡ Some d → c ≡ d
  one place c d e g = let same : Some c ≡ Some d = sym e ∙ g in cc

  by_name : (place other : ℕ) (c d : PathedComponent) → slice_get components place ≡ Some c → slice_get components other ≡ Some d → Contains (named_at components place) other → f.Leads components (component_name c) (component_name d)
  by_name place other c d e g n =
      let s = step place other n in
      record {
        component = c;
        listed = listed place c e;
        is_named = refl;
        names_it = member_among (named_kinds c) (component_name d)
            (subst (λ x. Contains (named_kinds x) (component_name d)) (one place s.component c s.is e)
            (subst (λ x. Contains (named_kinds s.component) (component_name x)) (one other s.target d s.target_is g) s.names_it));
      }

  first_of : (place other : ℕ) → Leads (named_at components) place other → (c : PathedComponent) × (slice_get components place ≡ Some c)
  first_of place other (at_once n) = let s = step place other n in (s.component, s.is)
  first_of place other (by_way_of {next = m} n more) = let s = step place m n in (s.component, s.is)

  reaches : (place other : ℕ) → Leads (named_at components) place other → (c d : PathedComponent) → slice_get components place ≡ Some c → slice_get components other ≡ Some d → Reaches components (component_name c) (component_name d)
  reaches place other (at_once n) c d e g = f.at_once (by_name place other c d e g n)
  reaches place other (by_way_of {next = m} n more) c d e g =
      let w = first_of m other more in
      f.by_way_of (by_name place m c w.0 e w.1 n) (reaches m other more w.0 d w.1 g)

-- where none is wrong, none of the list is
none_wrong : {A : Type 0} (wrong : A → Type 0) (fault : A → FolderFault) (xs : List A) → IsFirstWrong wrong fault xs None → (x : A) → Contains xs x → wrong x → ⊥
none_wrong wrong fault [] none x m = absurd (no_member x m)
none_wrong wrong fault (y ∷ ys) (inl w) x m = λ bad. absurd cc
none_wrong {A} wrong fault (y ∷ ys) (inr n) x m = λ bad. go (λ l. none_wrong wrong fault ys n.1 x l bad) (member_cases y x ys m) bad
  where
    go : (Contains ys x → ⊥) → (y ≡ x) ⊎ Contains ys x → wrong x → ⊥
    go r (inl e) bad = n.0 (subst wrong (sym e) bad)
    go r (inr l) bad = r l

pub without_cycle : (components : List PathedComponent) → HasNoCycle components → IsWithoutCycle (length components) (named_at components)
without_cycle components none = record {
  inside = λ place other n. let s = step components place other n in slice_get_within components other s.target s.target_is;
  no_way_back = λ place l. let w = first_of components place place l in
      none_wrong (IsInCycle components) cycle_fault components none w.0 (listed components place w.0 w.1) (reaches components place place l w.0 w.0 w.1 w.1);
}
