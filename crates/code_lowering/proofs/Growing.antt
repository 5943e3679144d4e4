-- Lists and tables that grow at their end.
use Rattle.std.proofs.Common.{◌≡◌, ℕ, zero, suc, ◌+◌, ◌<◌, ◌≤◌, Bool, true, false, List, [], ◌∷◌, ◌++◌, length, take, drop, get_or, Some, refl, sym, ap, ◌∙◌, append_assoc, arith, if◌then◌else◌, subst}
use Rattle.std.specs.Prelude.{slice_get}
use Rattle.std.specs.List.{list_any}
use Rattle.std.proofs.lemmas.List.{append-nil}
use Rattle.brs_code.specs.declared.function.Function.{Function}
use Rattle.brs_code.specs.declared.function.Mark.{Mark}
use Rattle.lowering_parts.specs.declared.tables.Tables.{Tables}
use Rattle.lowering_parts.specs.Names.{is_name, with_name}
use Rattle.code_lowering.specs.Lowered.{Begins, Grows, Reads}

-- ---- lists

pub begins_self : {A : Type 0} (xs : List A) → Begins A xs xs
begins_self xs = record { more = []; is = sym (append-nil xs) }

pub begins_same : {A : Type 0} (xs ys : List A) → ys ≡ xs → Begins A xs ys
begins_same xs ys e = record { more = []; is = e ∙ sym (append-nil xs) }

pub begins_with : {A : Type 0} (xs zs ys : List A) → ys ≡ xs ++ zs → Begins A xs ys
begins_with xs zs ys e = record { more = zs; is = e }

pub begins_on : {A : Type 0} (xs ys zs : List A) → Begins A xs ys → Begins A ys zs → Begins A xs zs
begins_on xs ys zs a b = record { more = a.more ++ b.more; is = b.is ∙ ap (λ l. l ++ b.more) a.is ∙ append_assoc xs a.more b.more }

-- an entry of the shorter list
pub begins_get : {A : Type 0} (xs ys : List A) (k : ℕ) (x : A) → Begins A xs ys → slice_get xs k ≡ Some x → slice_get ys k ≡ Some x
begins_get {A = A} xs ys k x b e = ap (λ l. slice_get l k) b.is ∙ go xs k e
  where
    go : (l : List A) (j : ℕ) → slice_get l j ≡ Some x → slice_get (l ++ b.more) j ≡ Some x
    go [] j h = absurd (cc)
    go (y ∷ l) zero h = h
    go (y ∷ l) (suc j) h = go l j h

-- what comes directly behind a list
pub begins_behind : {A : Type 0} (xs ys : List A) (x : A) → Begins A (xs ++ x ∷ []) ys → slice_get ys (length xs) ≡ Some x
begins_behind {A = A} xs ys x b = ap (λ l. slice_get l (length xs)) b.is ∙ go xs
  where
    go : (l : List A) → slice_get ((l ++ x ∷ []) ++ b.more) (length l) ≡ Some x
    go [] = refl
    go (y ∷ l) = go l

-- entries that come directly behind a list
pub begins_range : {A : Type 0} (xs ws ys : List A) → Begins A (xs ++ ws) ys → take (length ws) (drop (length xs) ys) ≡ ws
begins_range {A = A} xs ws ys b = ap (λ l. take (length ws) (drop (length xs) l)) b.is ∙ ap (λ l. take (length ws) l) (over xs) ∙ front ws
  where
    over : (l : List A) → drop (length l) ((l ++ ws) ++ b.more) ≡ ws ++ b.more
    over [] = refl
    over (y ∷ l) = over l

    front : (l : List A) → take (length l) (l ++ b.more) ≡ l
    front [] = refl
    front (y ∷ l) = ap (λ r. y ∷ r) (front l)

pub begins_name : (names : List (List ℕ)) (x : List ℕ) → Begins (List ℕ) names (with_name names x)
begins_name names x = go (list_any (is_name x) names)
  where
    go : (b : Bool) → Begins (List ℕ) names (if b then names else names ++ x ∷ [])
    go true = begins_self names
    go false = begins_with names (x ∷ []) (names ++ x ∷ []) refl

-- ---- tables

pub grows_self : (t : Tables) → Grows t t
grows_self t = record { slots = begins_self t.slots; texts = begins_self t.texts; marks = begins_self t.marks }

pub grows_same : (t u : Tables) → u ≡ t → Grows t u
grows_same t u e = subst (λ w. Grows t w) (sym e) (grows_self t)

pub grows_on : (t u w : Tables) → Grows t u → Grows u w → Grows t w
grows_on t u w a b = record {
  slots = begins_on t.slots u.slots w.slots a.slots b.slots;
  texts = begins_on t.texts u.texts w.texts a.texts b.texts;
  marks = begins_on t.marks u.marks w.marks a.marks b.marks;
}

pub grows_slot : (t u : Tables) (x : List ℕ) → u ≡ record t { slots = with_name t.slots x } → Grows t u
grows_slot t u x e = subst (λ w. Grows t w) (sym e) (record { slots = begins_name t.slots x; texts = begins_self t.texts; marks = begins_self t.marks })

pub grows_texts : (t u : Tables) (xs : List (List ℕ)) → u ≡ record t { texts = t.texts ++ xs } → Grows t u
grows_texts t u xs e = subst (λ w. Grows t w) (sym e) (record { slots = begins_self t.slots; texts = begins_with t.texts xs (t.texts ++ xs) refl; marks = begins_self t.marks })

pub grows_marks : (t u : Tables) (ms : List Mark) → u ≡ record t { marks = t.marks ++ ms } → Grows t u
grows_marks t u ms e = subst (λ w. Grows t w) (sym e) (record { slots = begins_self t.slots; texts = begins_self t.texts; marks = begins_with t.marks ms (t.marks ++ ms) refl })

pub reads_on : (t u : Tables) (f : Function) → Grows t u → Reads u f → Reads t f
reads_on t u f g r = record {
  names = begins_on t.slots u.slots f.names g.slots r.names;
  texts = begins_on t.texts u.texts f.texts g.texts r.texts;
  marks = begins_on t.marks u.marks f.marks g.marks r.marks;
}
