-- The earliest of the texts that are not read is the first of them in order.
use Rattle.std.proofs.Common.{◌≡◌, ℕ, Bool, true, false, cond, ◌⊎◌, inl, inr, List, [], ◌∷◌, Option, Some, None, map, refl, sym, ap, ◌∙◌, subst, arith}
use Rattle.std.specs.Option.{option_map}
use Rattle.std.proofs.lemmas.Bool.Decides.{nat_tests}
use Rattle.chan_values.specs.declared.folder_fault.FolderFault.{FolderFault}
use Rattle.folder_rules.specs.Faults.{fault_on, is_before, put_in_order, in_order}
use Rattle.folder_rules.specs.FieldFaults.{ValueText, is_earlier_text, unread_fault, IsUnread}
use Rattle.folder_rules.specs.FirstFault.{IsFirstWrong}
use Rattle.field_faults.specs.declared.values.Unread.{Unread}
use Rattle.field_faults.specs.Values.{shown, fault_at, earliest, earlier_of, AreUnread, HavePath, LooksAt}

-- ---- places in order

before_trans : (a b c d e f : ℕ) → is_before (a, b) (c, d) ≡ true → is_before (c, d) (e, f) ≡ true → is_before (a, b) (e, f) ≡ true
before_trans a b c d e f p q = grind (arith, nat_tests)

before_cotrans : (a b c d e f : ℕ) → is_before (a, b) (c, d) ≡ false → is_before (c, d) (e, f) ≡ false → is_before (a, b) (e, f) ≡ false
before_cotrans a b c d e f p q = grind (arith, nat_tests)

before_once : (a b c d : ℕ) → is_before (a, b) (c, d) ≡ true → is_before (c, d) (a, b) ≡ false
before_once a b c d p = grind (arith, nat_tests)

text_trans : (u v w : ValueText) → is_earlier_text u v ≡ true → is_earlier_text v w ≡ true → is_earlier_text u w ≡ true
text_trans u v w p q = before_trans u.line u.column v.line v.column w.line w.column p q

text_cotrans : (u v w : ValueText) → is_earlier_text u v ≡ false → is_earlier_text v w ≡ false → is_earlier_text u w ≡ false
text_cotrans u v w p q = before_cotrans u.line u.column v.line v.column w.line w.column p q

text_once : (u v : ValueText) → is_earlier_text u v ≡ true → is_earlier_text v u ≡ false
text_once u v p = before_once u.line u.column v.line v.column p

-- ---- a list in order

-- none of these is earlier than this one
abbrev NoneBefore : ValueText → List ValueText → Type 0
NoneBefore x [] = Unit {0}
NoneBefore x (y ∷ ys) = (is_earlier_text y x ≡ false) × NoneBefore x ys

abbrev InOrder : List ValueText → Type 0
InOrder [] = Unit {0}
InOrder (y ∷ ys) = NoneBefore y ys × InOrder ys

none_before_less : (x y : ValueText) (ys : List ValueText) → is_earlier_text y x ≡ false → NoneBefore y ys → NoneBefore x ys
none_before_less x y [] e n = tt
none_before_less x y (z ∷ zs) e n = (text_cotrans z y x n.0 e, none_before_less x y zs e n.1)

none_before_put : (z x : ValueText) (ys : List ValueText) → is_earlier_text x z ≡ false → NoneBefore z ys → NoneBefore z (put_in_order is_earlier_text x ys)
none_before_put z x [] e n = (e, tt)
none_before_put z x (y ∷ ys) e n = go (is_earlier_text y x) (none_before_put z x ys e n.1)
  where
    go : (b : Bool) → NoneBefore z (put_in_order is_earlier_text x ys) → NoneBefore z (cond b (y ∷ put_in_order is_earlier_text x ys) (x ∷ (y ∷ ys)))
    go true r = (n.0, r)
    go false r = (e, n)

put_keeps_order : (x : ValueText) (ys : List ValueText) → InOrder ys → InOrder (put_in_order is_earlier_text x ys)
put_keeps_order x [] o = (tt, tt)
put_keeps_order x (y ∷ ys) o = go (is_earlier_text y x) refl (put_keeps_order x ys o.1)
  where
    go : (b : Bool) → is_earlier_text y x ≡ b → InOrder (put_in_order is_earlier_text x ys) → InOrder (cond b (y ∷ put_in_order is_earlier_text x ys) (x ∷ (y ∷ ys)))
    go true e r = (none_before_put y x ys (text_once y x e) o.0, r)
    go false e r = ((e, none_before_less x y ys e o.0), o)

ordered : (xs : List ValueText) → InOrder (in_order is_earlier_text xs)
ordered [] = tt
ordered (x ∷ xs) = put_keeps_order x (in_order is_earlier_text xs) (ordered xs)

-- ---- the first that is not read

abbrev FirstText : List ValueText → Option ValueText → Type 0
FirstText [] found = found ≡ None
FirstText (x ∷ xs) found = (IsUnread x × (found ≡ Some x)) ⊎ ((IsUnread x → ⊥) × FirstText xs found)

-- of two, the first counts where the second isn't earlier
abbrev sooner : ValueText → Option ValueText → Option ValueText
sooner x None = Some x
sooner x (Some y) = cond (is_earlier_text y x) (Some y) (Some x)

sooner_first : (x : ValueText) (ys : List ValueText) → NoneBefore x ys → (found : Option ValueText) → FirstText ys found → sooner x found ≡ Some x
sooner_first x [] n found f = ap (sooner x) f
sooner_first x (y ∷ ys) n found (inl f) = ap (sooner x) f.1 ∙ ap (λ b. cond b (Some y) (Some x)) n.0
sooner_first x (y ∷ ys) n found (inr f) = sooner_first x ys n.1 found f.1

put_unread : (x : ValueText) → IsUnread x → (ys : List ValueText) → InOrder ys → (found : Option ValueText) → FirstText ys found → FirstText (put_in_order is_earlier_text x ys) (sooner x found)
put_unread x u [] o found f = inl (u, ap (sooner x) f)
put_unread x u (y ∷ ys) o found f = go (is_earlier_text y x) refl f (λ g. put_unread x u ys o.1 found g)
  where
    first : is_earlier_text y x ≡ true → (FirstText ys found → FirstText (put_in_order is_earlier_text x ys) (sooner x found)) → (IsUnread y × (found ≡ Some y)) ⊎ ((IsUnread y → ⊥) × FirstText ys found)
        → FirstText (y ∷ put_in_order is_earlier_text x ys) (sooner x found)
    first e r (inl g) = inl (g.0, ap (sooner x) g.1 ∙ ap (λ b. cond b (Some y) (Some x)) e)
    first e r (inr g) = inr (g.0, r g.1)

    go : (b : Bool) → is_earlier_text y x ≡ b → (IsUnread y × (found ≡ Some y)) ⊎ ((IsUnread y → ⊥) × FirstText ys found) → (FirstText ys found → FirstText (put_in_order is_earlier_text x ys) (sooner x found))
        → FirstText (cond b (y ∷ put_in_order is_earlier_text x ys) (x ∷ (y ∷ ys))) (sooner x found)
    go true e g r = first e r g
    go false e g r = inl (u, sooner_first x (y ∷ ys) (e, none_before_less x y ys e o.0) found g)

put_read : (x : ValueText) → (IsUnread x → ⊥) → (ys : List ValueText) (found : Option ValueText) → FirstText ys found → FirstText (put_in_order is_earlier_text x ys) found
put_read x r [] found f = inr (r, f)
put_read x r (y ∷ ys) found f = go (is_earlier_text y x) f (λ g. put_read x r ys found g)
  where
    first : (FirstText ys found → FirstText (put_in_order is_earlier_text x ys) found) → (IsUnread y × (found ≡ Some y)) ⊎ ((IsUnread y → ⊥) × FirstText ys found) → FirstText (y ∷ put_in_order is_earlier_text x ys) found
    first h (inl g) = inl g
    first h (inr g) = inr (g.0, h g.1)

    go : (b : Bool) → (IsUnread y × (found ≡ Some y)) ⊎ ((IsUnread y → ⊥) × FirstText ys found) → (FirstText ys found → FirstText (put_in_order is_earlier_text x ys) found) → FirstText (cond b (y ∷ put_in_order is_earlier_text x ys) (x ∷ (y ∷ ys))) found
    go true g h = first h g
    go false g h = inr (r, g)

abbrev least : List ValueText → Option ValueText
least [] = None
least (x ∷ xs) = sooner x (least xs)

first_is_least : (xs unread : List ValueText) → AreUnread xs unread → FirstText (in_order is_earlier_text xs) (least unread)
first_is_least [] unread a = ap least a
first_is_least (x ∷ xs) unread (inl a) = subst (λ l. FirstText (put_in_order is_earlier_text x (in_order is_earlier_text xs)) (least l)) (sym a.2) (put_unread x a.0 (in_order is_earlier_text xs) (ordered xs) (least a.1) (first_is_least xs a.1 a.3))
first_is_least (x ∷ xs) unread (inr a) = put_read x a.0 (in_order is_earlier_text xs) (least unread) (first_is_least xs unread a.1)

-- ---- from the front

abbrev after : Option ValueText → Option ValueText → Option ValueText
after None found = found
after (Some x) found = sooner x found

by_three : (e1 e2 e3 : Bool) (x y z : ValueText) → (e1 ≡ true → e2 ≡ true → e3 ≡ true) → (e1 ≡ false → e2 ≡ false → e3 ≡ false)
    → cond e1 (cond e2 (Some z) (Some y)) (cond e3 (Some z) (Some x)) ≡ cond e2 (cond e3 (Some z) (Some x)) (cond e1 (Some y) (Some x))
by_three true true e3 x y z t f = sym (ap (λ b. cond b (Some z) (Some x)) (t refl refl))
by_three true false e3 x y z t f = refl
by_three false true e3 x y z t f = refl
by_three false false e3 x y z t f = ap (λ b. cond b (Some z) (Some x)) (f refl refl)

first_of : (b : Bool) (y x z : ValueText) → after (cond b (Some y) (Some x)) (Some z) ≡ cond b (cond (is_earlier_text z y) (Some z) (Some y)) (cond (is_earlier_text z x) (Some z) (Some x))
first_of true y x z = refl
first_of false y x z = refl

last_of : (b : Bool) (x y z : ValueText) → sooner x (cond b (Some z) (Some y)) ≡ cond b (cond (is_earlier_text z x) (Some z) (Some x)) (cond (is_earlier_text y x) (Some y) (Some x))
last_of true x y z = refl
last_of false x y z = refl

sooner_assoc : (x y : ValueText) (found : Option ValueText) → after (sooner x (Some y)) found ≡ sooner x (sooner y found)
sooner_assoc x y None = go (is_earlier_text y x)
  where
    go : (b : Bool) → after (cond b (Some y) (Some x)) None ≡ cond b (Some y) (Some x)
    go true = refl
    go false = refl
sooner_assoc x y (Some z) =
    first_of (is_earlier_text y x) y x z
    ∙ by_three (is_earlier_text y x) (is_earlier_text z y) (is_earlier_text z x) x y z (λ e1 e2. text_trans z y x e2 e1) (λ e1 e2. text_cotrans z y x e2 e1)
    ∙ sym (last_of (is_earlier_text z y) x y z)

-- what the walk from the front holds
abbrev kept : Option ValueText → ValueText → Option ValueText
kept None y = Some y
kept (Some x) y = sooner x (Some y)

kept_shown : (o : Option ValueText) (y : ValueText) → earlier_of (option_map shown o) (shown y) ≡ option_map shown (kept o y)
kept_shown None y = refl
kept_shown (Some x) y = go (is_earlier_text y x)
  where
    go : (b : Bool) → cond b (Some (shown y)) (Some (shown x)) ≡ option_map shown (cond b (Some y) (Some x))
    go true = refl
    go false = refl

kept_after : (o : Option ValueText) (y : ValueText) (found : Option ValueText) → after (kept o y) found ≡ after o (sooner y found)
kept_after None y found = refl
kept_after (Some x) y found = sooner_assoc x y found

after_none : (o : Option ValueText) → after o None ≡ o
after_none None = refl
after_none (Some x) = refl

walked : (o : Option ValueText) (unread : List ValueText) → earliest (option_map shown o) (map shown unread) ≡ option_map shown (after o (least unread))
walked o [] = ap (option_map shown) (sym (after_none o))
walked o (y ∷ ys) = ap (λ p. earliest p (map shown ys)) (kept_shown o y) ∙ walked (kept o y) ys ∙ ap (option_map shown) (kept_after o y (least ys))

-- ---- its path

abbrev HasPath : List ℕ → Option ValueText → Type 0
HasPath path None = Unit {0}
HasPath path (Some v) = v.path ≡ path

sooner_path : (path : List ℕ) (x : ValueText) → x.path ≡ path → (o : Option ValueText) → HasPath path o → HasPath path (sooner x o)
sooner_path path x e None h = e
sooner_path path x e (Some y) h = go (is_earlier_text y x)
  where
    go : (b : Bool) → HasPath path (cond b (Some y) (Some x))
    go true = h
    go false = e

least_path : (path : List ℕ) (unread : List ValueText) → HavePath path unread → HasPath path (least unread)
least_path path [] h = tt
least_path path (v ∷ vs) h = sooner_path path v h.0 (least vs) (least_path path vs h.1)

-- ---- what was found

first_wrong : (fault : ValueText → FolderFault) (xs : List ValueText) (found : Option ValueText) → FirstText xs found → IsFirstWrong IsUnread fault xs (option_map fault found)
first_wrong fault [] found f = ap (option_map fault) f
first_wrong fault (x ∷ xs) found (inl f) = inl (f.0, ap (option_map fault) f.1)
first_wrong fault (x ∷ xs) found (inr f) = inr (f.0, first_wrong fault xs found f.1)

-- the text that was found, where one was
record FoundText (path : List ℕ) (texts : List ValueText) (found : Option Unread) : Type 0 where
  text : Option ValueText
  is : found ≡ option_map shown text
  has_path : HasPath path text
  first : (fault : ValueText → FolderFault) → IsFirstWrong IsUnread fault (in_order is_earlier_text texts) (option_map fault text)

found_text : (path : List ℕ) (texts : List ValueText) (found : Option Unread) → LooksAt path texts None found → FoundText path texts found
found_text path texts found l = record {
  text = least l.unread;
  is = l.is ∙ walked None l.unread;
  has_path = least_path path l.unread l.paths;
  first = λ fault. first_wrong fault (in_order is_earlier_text texts) (least l.unread) (first_is_least texts l.unread l.are);
}

pub first_found : (path : List ℕ) (texts : List ValueText) (found : Option Unread) → LooksAt path texts None found → IsFirstWrong IsUnread unread_fault (in_order is_earlier_text texts) (option_map (fault_at path) found)
first_found path texts found l = let f = found_text path texts found l in go f.text f.is f.has_path (f.first unread_fault)
  where
    go : (text : Option ValueText) → found ≡ option_map shown text → HasPath path text → IsFirstWrong IsUnread unread_fault (in_order is_earlier_text texts) (option_map unread_fault text) → IsFirstWrong IsUnread unread_fault (in_order is_earlier_text texts) (option_map (fault_at path) found)
    go None e h w = subst (λ o. IsFirstWrong IsUnread unread_fault (in_order is_earlier_text texts) (option_map (fault_at path) o)) (sym e) w
    go (Some v) e h w =
        subst (λ o. IsFirstWrong IsUnread unread_fault (in_order is_earlier_text texts) (option_map (fault_at path) o)) (sym e)
        (subst (λ p. IsFirstWrong IsUnread unread_fault (in_order is_earlier_text texts) (Some (fault_on 16 p v.line v.id))) h w)
