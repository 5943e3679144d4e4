-- What is known of the bytes of an output after one write and another.
use Rattle.std.proofs.Common.{◌≡◌, ℕ, ◌+◌, ◌-◌, ◌≤◌, ◌<◌, ◌⊎◌, inl, inr, List, ◌++◌, length, take, drop, Option, None, Some, sym, ◌∙◌, subst, arith, length-drop, append-nil, Result, Ok, Err, OnOk, OnErr}
use Rattle.std.proofs.Math.Seq.{take-add, take-append-add}
use Rattle.std.proofs.lemmas.List.{take_all, take-append-le}
use Rattle.std.proofs.lemmas.Bool.Decides.{leb_tells}
use Rattle.std.proofs.KnownBytes.{Appends-trans, Appends-kept}
use Rattle.std.specs.Io.KnownBytes.{Appends, Keeps}
use Rattle.channel_run.specs.Output.{AppendsPrefix}

le_or_less : (a b : ℕ) → (a ≤ b) ⊎ (b < a)
le_or_less a b = elim (leb_tells a b) [ inl t ↦ inl t.1 | inr t ↦ inr t.1 ]

-- nothing was written yet
pub appends_none : (a : Option (List ℕ)) (bytes : List ℕ) → Appends a a (take 0 bytes)
appends_none None bytes = tt
appends_none (Some xs) bytes = sym (append-nil xs)

pub appends_two : (a b c : Option (List ℕ)) (xs ys : List ℕ) → Appends a b xs → Appends b c ys → Appends a c (xs ++ ys)
appends_two = Appends-trans

-- a front was written, and n bytes more of `&bytes[w..]`
pub appends_more : (a b c : Option (List ℕ)) (bytes : List ℕ) (w n : ℕ) → Appends a b (take w bytes) → Appends b c (take n (take (length bytes - w) (drop w bytes))) → Appends a c (take (w + n) bytes)
appends_more a b c bytes w n before more =
    let rest : take (length bytes - w) (drop w bytes) ≡ drop w bytes = take_all _ _ (omega (arith, length-drop w bytes)) in
    let next = subst (λ l. Appends b c (take n l)) rest more in
    subst (Appends a c) (sym (take-add w n bytes)) (appends_two a b c _ _ before next)

-- a front was written, and then nothing
pub appends_front : (a b c : Option (List ℕ)) (bytes : List ℕ) (w : ℕ) → Appends a b (take w bytes) → Keeps b c → AppendsPrefix a c bytes
appends_front a b c bytes w before kept = record { count = w; front = Appends-kept a b c _ before kept }

-- a front that is all
pub appends_whole : (a b : Option (List ℕ)) (bytes : List ℕ) (w : ℕ) → length bytes ≤ w → Appends a b (take w bytes) → Appends a b bytes
appends_whole a b bytes w all before = subst (Appends a b) (take_all w bytes all) before

-- all is a front
pub prefix_whole : (a b : Option (List ℕ)) (bytes : List ℕ) → Appends a b bytes → AppendsPrefix a b bytes
prefix_whole a b bytes all = record { count = length bytes; front = subst (Appends a b) (sym (take_all (length bytes) bytes (omega arith))) all }

-- a text was written, and a front of what comes after it
pub prefix_after : (a b c : Option (List ℕ)) (xs ys : List ℕ) → Appends a b xs → AppendsPrefix b c ys → AppendsPrefix a c (xs ++ ys)
prefix_after a b c xs ys before more = record {
  count = length xs + more.count;
  front = subst (Appends a c) (sym (take-append-add xs ys more.count)) (appends_two a b c xs _ before more.front);
}

-- a front of the first part is a front of the whole
pub prefix_more : (a b : Option (List ℕ)) (xs ys : List ℕ) → AppendsPrefix a b xs → AppendsPrefix a b (xs ++ ys)
prefix_more a b xs ys before =
    elim (le_or_less before.count (length xs)) [
      | inl within ↦ record { count = before.count; front = subst (Appends a b) (sym (take-append-le before.count xs ys within)) before.front }
      | inr past ↦ record { count = length xs; front = subst (Appends a b) (take_all before.count xs (omega arith) ∙ sym (take-append-le (length xs) xs ys (omega arith) ∙ take_all (length xs) xs (omega arith))) before.front }
    ]

-- what a write says of a front, whether it failed or not
pub prefix_either : {T E : Type 0} (r : Result T E) (a b : Option (List ℕ)) (bytes : List ℕ) → OnOk r (Appends a b bytes) → OnErr r (AppendsPrefix a b bytes) → AppendsPrefix a b bytes
prefix_either (Ok x) a b bytes whole front = prefix_whole a b bytes whole
prefix_either (Err e) a b bytes whole front = front

-- what was written at the end, in whole
pub whole_after : {T E : Type 0} (r : Result T E) (a b c : Option (List ℕ)) (xs ys : List ℕ) → Appends a b xs → OnOk r (Appends b c ys) → OnOk r (Appends a c (xs ++ ys))
whole_after (Ok x) a b c xs ys before more = appends_two a b c xs ys before more
whole_after (Err e) a b c xs ys before more = tt

pub front_after : {T E : Type 0} (r : Result T E) (a b c : Option (List ℕ)) (xs ys : List ℕ) → Appends a b xs → OnErr r (AppendsPrefix b c ys) → OnErr r (AppendsPrefix a c (xs ++ ys))
front_after (Ok x) a b c xs ys before more = tt
front_after (Err e) a b c xs ys before more = prefix_after a b c xs ys before more
