-- Texts that were looked at one after another.
use Rattle.std.proofs.Common.{◌≡◌, ℕ, Bool, true, false, inl, inr, List, [], ◌∷◌, ◌++◌, Option, Some, None, map, refl, sym, ap, ◌∙◌, subst}
use Rattle.std.proofs.lemmas.List.{map-append}
use Rattle.field_types.specs.declared.types.FieldType.{FieldType}
use Rattle.folder_rules.specs.FieldFaults.{ValueText, IsUnread, text_for}
use Rattle.field_faults.specs.declared.values.Unread.{Unread}
use Rattle.field_faults.specs.Values.{shown, earliest, earlier_of, AreUnread, HavePath, LooksAt, Says}

pub looks_at_none : (path : List ℕ) (first : Option Unread) → LooksAt path [] first first
looks_at_none path first = record { unread = []; are = refl; paths = tt; is = refl }

pub looks_at_read : (path : List ℕ) (v : ValueText) (first : Option Unread) → (IsUnread v → ⊥) → LooksAt path (v ∷ []) first first
looks_at_read path v first read = record { unread = []; are = inr (read, refl); paths = tt; is = refl }

pub looks_at_unread : (path : List ℕ) (v : ValueText) (first after : Option Unread) → IsUnread v → v.path ≡ path → after ≡ earlier_of first (shown v) → LooksAt path (v ∷ []) first after
looks_at_unread path v first after unread same is = record { unread = v ∷ []; are = inl (unread, [], refl, refl); paths = (same, tt); is = is }

are_more : (xs ys us vs : List ValueText) → AreUnread xs us → AreUnread ys vs → AreUnread (xs ++ ys) (us ++ vs)
are_more [] ys us vs a b = subst (λ l. AreUnread ys (l ++ vs)) (sym a) b
are_more (x ∷ xs) ys us vs (inl a) b = inl (a.0, a.1 ++ vs, ap (λ l. l ++ vs) a.2, are_more xs ys a.1 vs a.3 b)
are_more (x ∷ xs) ys us vs (inr a) b = inr (a.0, are_more xs ys us vs a.1 b)

paths_more : (path : List ℕ) (us vs : List ValueText) → HavePath path us → HavePath path vs → HavePath path (us ++ vs)
paths_more path [] vs a b = b
paths_more path (u ∷ us) vs a b = (a.0, paths_more path us vs a.1 b)

earliest_more : (first : Option Unread) (us vs : List Unread) → earliest first (us ++ vs) ≡ earliest (earliest first us) vs
earliest_more first [] vs = refl
earliest_more first (u ∷ us) vs = earliest_more (earlier_of first u) us vs

pub looks_more : (path : List ℕ) (xs ys : List ValueText) (a b c : Option Unread) → LooksAt path xs a b → LooksAt path ys b c → LooksAt path (xs ++ ys) a c
looks_more path xs ys a b c f g = record {
  unread = f.unread ++ g.unread;
  are = are_more xs ys f.unread g.unread f.are g.are;
  paths = paths_more path f.unread g.unread f.paths g.paths;
  is = g.is ∙ ap (λ o. earliest o (map shown g.unread)) f.is ∙ sym (earliest_more a (map shown f.unread) (map shown g.unread)) ∙ ap (earliest a) (sym (map-append shown f.unread g.unread));
}

-- ---- one text

module _ (path : List ℕ) (line column : ℕ) (id text : List ℕ) where
  no_text_for : (holds : Option FieldType) → text_for path line column id holds None ≡ []
  no_text_for None = refl
  no_text_for (Some h) = refl

  pub looks_at_no_text : (holds : Option FieldType) (value : Option (List ℕ)) → value ≡ None → (first : Option Unread) → LooksAt path (text_for path line column id holds value) first first
  looks_at_no_text holds value none first = subst (λ l. LooksAt path l first first) (sym (ap (text_for path line column id holds) none ∙ no_text_for holds)) (looks_at_none path first)

  module _ (holds : Option FieldType) (type : FieldType) (is : holds ≡ Some type) (read : Bool) (says : Says type text read) where
    pub looks_at_good : read ≡ true → (first : Option Unread) → LooksAt path (text_for path line column id holds (Some text)) first first
    looks_at_good good first =
        let s : Says type text true = subst (Says type text) good says in
        subst (λ o. LooksAt path (text_for path line column id o (Some text)) first first) (sym is) (looks_at_read path (record { path = path; line = line; column = column; id = id; holds = type; text = text }) first (λ u. u s.0 s.1))

    pub looks_at_bad : read ≡ false → (first after : Option Unread) → after ≡ earlier_of first (record { line = line; column = column; id = id }) → LooksAt path (text_for path line column id holds (Some text)) first after
    looks_at_bad bad first after now =
        subst (λ o. LooksAt path (text_for path line column id o (Some text)) first after) (sym is)
        (looks_at_unread path (record { path = path; line = line; column = column; id = id; holds = type; text = text }) first after (subst (Says type text) bad says) refl now)
