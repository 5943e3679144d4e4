-- Lists of texts, written one after another.
use Rattle.std.proofs.Common.{◌≡◌, ℕ, suc, ◌+◌, ◌<◌, List, [], ◌∷◌, ◌++◌, map, length, get_or, take, refl, sym, ap, ◌∙◌, arith, codes}
use Rattle.std.proofs.lemmas.Bool.Decides.{nat_tests}
use Rattle.std.proofs.lemmas.List.{append-nil, append_assoc, map-append, length-map, length-take-le}
use Rattle.chan_values.specs.Tree.{Tree, trees, TreePair, keys_of, values_of, array_of, pairs_of}
use Rattle.chan_values.specs.ValueText.{value_text, texts, keyed_texts, pair_text, listed, behind_first, separator}
use Rattle.chan_values.proofs.Walk.{walked}

behind_more : (xs : List (List ℕ)) (x : List ℕ) → behind_first (xs ++ x ∷ []) ≡ behind_first xs ++ (codes ", " ++ x)
behind_more [] x = ap (λ r. codes ", " ++ r) (append-nil x)
behind_more (y ∷ xs) x = ap (λ r. codes ", " ++ (y ++ r)) (behind_more xs x) ∙ (ap (λ r. codes ", " ++ r) (sym (append_assoc y (behind_first xs) (codes ", " ++ x))) ∙ sym (append_assoc (codes ", ") (y ++ behind_first xs) (codes ", " ++ x)))

comes_between : (n : ℕ) → separator (suc n) ≡ codes ", "
comes_between n = grind (arith, nat_tests)

listed_more : (xs : List (List ℕ)) (x : List ℕ) (n : ℕ) → n ≡ length xs → listed (xs ++ x ∷ []) ≡ listed xs ++ (separator n ++ x)
listed_more xs x n e = go xs ∙ ap (λ k. listed xs ++ (separator k ++ x)) (sym e)
  where
    go : (xs : List (List ℕ)) → listed (xs ++ x ∷ []) ≡ listed xs ++ (separator (length xs) ++ x)
    go [] = append-nil x
    go (y ∷ ys) = ap (λ r. y ++ r) (behind_more ys x) ∙ sym (append_assoc y (behind_first ys) (codes ", " ++ x)) ∙ ap (λ s. (y ++ behind_first ys) ++ (s ++ x)) (sym (comes_between (length ys)))

-- one text more is written behind the others
pub written_more : (out a b d : List ℕ) (done : List (List ℕ)) (x : List ℕ) (n : ℕ) → n ≡ length done → a ≡ out ++ listed done → b ≡ a ++ separator n → d ≡ b ++ x → d ≡ out ++ listed (done ++ x ∷ [])
written_more out a b d done x n l e f g =
    g ∙ ap (λ r. r ++ x) (f ∙ ap (λ r. r ++ separator n) e) ∙ append_assoc (out ++ listed done) (separator n) x ∙ append_assoc out (listed done) (separator n ++ x) ∙ ap (λ r. out ++ r) (sym (listed_more done x n l))

pub texts_walked : {A B : Type 0} (f : A → B) (g : B → List ℕ) (xs : List A) (ts : List B) (i : ℕ) (x : A) → map f xs ≡ ts → i < length xs → x ≡ get_or xs i x → (map g (take i ts) ++ g (f x) ∷ [] ≡ map g (take (i + 1) ts)) × (i ≡ length (map g (take i ts)))
texts_walked f g xs ts i x m l e =
    let n : length xs ≡ length ts = sym (length-map xs f) ∙ ap length m in
    (sym (ap (map g) (walked f xs ts i x m l e) ∙ map-append g (take i ts) (f x ∷ [])), sym (length-map (take i ts) g ∙ length-take-le i ts (omega arith)))

-- a text between two bytes
pub enclosed : (out a b body : List ℕ) (left right : ℕ) → a ≡ out ++ left ∷ [] → b ≡ a ++ body → b ++ right ∷ [] ≡ out ++ (left ∷ (body ++ right ∷ []))
enclosed out a b body left right e f = ap (λ r. r ++ right ∷ []) (f ∙ ap (λ r. r ++ body) e) ∙ append_assoc (out ++ left ∷ []) body (right ∷ []) ∙ append_assoc out (left ∷ []) (body ++ right ∷ [])

texts_are : (ts : List Tree) → texts (trees ts) ≡ map value_text ts
texts_are [] = refl
texts_are (t ∷ ts) = ap (λ r. value_text t ∷ r) (texts_are ts)

keyed_are : (ps : List TreePair) → keyed_texts (keys_of ps) (trees (values_of ps)) ≡ map pair_text ps
keyed_are [] = refl
keyed_are (p ∷ ps) = ap (λ r. pair_text p ∷ r) (keyed_are ps)

pub items_text : (ts : List Tree) → 91 ∷ (listed (map value_text ts) ++ 93 ∷ []) ≡ value_text (array_of ts)
items_text ts = ap (λ r. 91 ∷ (listed r ++ 93 ∷ [])) (sym (texts_are ts))

pub pairs_text : (ps : List TreePair) → 123 ∷ (listed (map pair_text ps) ++ 125 ∷ []) ≡ value_text (pairs_of ps)
pairs_text ps = ap (λ r. 123 ∷ (listed r ++ 125 ∷ [])) (sym (keyed_are ps))
