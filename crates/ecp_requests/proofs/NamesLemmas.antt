-- Names without regard to the case of their letters.
use Rattle.std.proofs.Common.{◌≡◌, ◌↔◌, ℕ, Bool, true, false, List, [], ◌∷◌, Option, Some, IfSome, subst, IsTrue, sym, refl, ◌∙◌}
use Rattle.std.specs.Str.{bytes_eq}
use Rattle.std.proofs.lemmas.Bool.{false≢true, false_from_ne_true}
use Rattle.std.proofs.lemmas.Slice.Eq.{bytes_eq-Decides}
use Rattle.std.proofs.lemmas.Bool.{cond_both}
use Rattle.std.specs.List.{find}
use Rattle.ecp_requests.specs.KeyNames.{lowered, small_name, IsNameOf}
use Rattle.ecp_requests.specs.declared.key_name.KeyName.{KeyName}
use Rattle.ecp_requests.specs.declared.key_name.TheConstants.{WORDS}

pub same_letters : (r : Bool) (a b : List ℕ) → IsTrue r ↔ (lowered a ≡ lowered b) → r ≡ bytes_eq (lowered a) (lowered b)
same_letters true a b h = sym ((bytes_eq-Decides (lowered a) (lowered b)).1 (h.0 refl))
same_letters false a b h =
    sym (false_from_ne_true _ (λ e. false≢true (h.1 ((bytes_eq-Decides (lowered a) (lowered b)).0 e))))

-- names that are words

abbrev pub has_name : List ℕ → KeyName → Bool
has_name text name = bytes_eq (lowered (small_name name)) (lowered text)

-- each of the names is a word in small letters
abbrev pub AreWords : List KeyName → Type 0
AreWords [] = Unit {0}
AreWords (name ∷ names) =
    ((lowered (small_name name) ≡ small_name name) × ((text : List ℕ) → lowered text ≡ small_name name → IsNameOf text name)) × AreWords names

find_named : (text : List ℕ) (names : List KeyName) → AreWords names → IfSome (find (has_name text) names) (λ name. IsNameOf text name)
find_named text [] words = tt
find_named text (name ∷ names) words =
    cond_both (has_name text name) (Some name) (find (has_name text) names) (λ r. IfSome r (λ name. IsNameOf text name))
    (λ e. words.0.1 text (sym ((bytes_eq-Decides (lowered (small_name name)) (lowered text)).0 e) ∙ words.0.0))
    (λ _. find_named text names words.1)

are_words : AreWords WORDS
are_words = (
  (refl, λ _ h. h),
  (
    (refl, λ _ h. h),
    (
      (refl, λ _ h. h),
      (
        (refl, λ _ h. h),
        (
          (refl, λ _ h. h),
          (
            (refl, λ _ h. h),
            (
              (refl, λ _ h. h),
              (
                (refl, λ _ h. h),
                (
                  (refl, λ _ h. h),
                  (
                    (refl, λ _ h. h),
                    (
                      (refl, λ _ h. h),
                      (
                        (refl, λ _ h. h),
                        (
                          (refl, λ _ h. h),
                          (
                            (refl, λ _ h. h),
                            ((refl, λ _ h. h), tt),
                          ),
                        ),
                      ),
                    ),
                  ),
                ),
              ),
            ),
          ),
        ),
      ),
    ),
  ),
)

pub word_named : (text : List ℕ) (r : Option KeyName) → r ≡ find (has_name text) WORDS → IfSome r (λ name. IsNameOf text name)
word_named text r is = subst (λ o. IfSome o (λ name. IsNameOf text name)) (sym is) (find_named text WORDS are_words)
