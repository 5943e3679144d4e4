-- Lists that are gone through from the last element to the first.
use Rattle.std.proofs.Common.{◌≡◌, ℕ, suc, ◌+◌, ◌-◌, ◌<◌, List, [], ◌∷◌, ◌++◌, length, map, drop, drop-cons, get_or, refl, sym, ap, ◌∙◌, append_assoc, arith}
use Rattle.brs_grammar.specs.View.{Step, Choice, todos}
use Rattle.code_relation.specs.declared.exits.Exits.{Exits}
use Rattle.code_drafts.specs.declared.draft.Draft.{Draft}
use Rattle.code_drafts.specs.DraftCode.{flat, forms_code, doing_code, todo_code, step_code, farther}
use Rattle.code_drafts.specs.StatementCode.{choice_code, choices_code}
use Rattle.code_relation.specs.Heads.{count}

-- ---- each in front of the next

pub back_more : {A : Type 0} (g : A → List Draft) (base code code' : List Draft) (xs : List A) (i k : ℕ) (x : A) → i < length xs → k ≡ length xs - 1 - i → x ≡ get_or xs k x
    → code ≡ flat g (drop (length xs - i) xs) ++ base → code' ≡ g x ++ code → code' ≡ flat g (drop (length xs - (i + 1)) xs) ++ base
back_more g base code code' xs i k x h at is was new =
    let a : length xs - (i + 1) ≡ k = omega arith in
    let b : length xs - i ≡ suc k = omega arith in
    let c : k < length xs = omega arith in
    let rest = flat g (drop (suc k) xs) in
    new ∙ ap (λ l. g x ++ l) (was ∙ ap (λ n. flat g (drop n xs) ++ base) b)
    ∙ sym (append_assoc (g x) rest base)
    ∙ ap (λ y. (g y ++ rest) ++ base) is
    ∙ ap (λ l. flat g l ++ base) (sym (drop-cons xs k x c))
    ∙ ap (λ n. flat g (drop n xs) ++ base) (sym a)

-- ---- statements

todos_first : (x : Exits) (s : Step) (ss : List Step) → todo_code x (todos (s ∷ ss)) ≡ step_code (farther (length (todo_code x (todos ss))) x) s ++ todo_code x (todos ss)
todos_first x s ss =
    let y = farther (length (todo_code x (todos ss))) x in
    sym (append_assoc (forms_code s.operands) (doing_code y s.doing s.place.line (count s.operands)) (todo_code x (todos ss)))

-- one more statement in front of those behind it
pub todos_more : {A : Type 0} (part : A → Step) (x y : Exits) (n : ℕ) (code code' : List Draft) (xs : List A) (i k : ℕ) (s : A) → i < length xs → k ≡ length xs - 1 - i → s ≡ get_or xs k s
    → code ≡ todo_code x (todos (map part (drop (length xs - i) xs))) → n ≡ length code → y ≡ farther n x → code' ≡ step_code y (part s) ++ code
    → code' ≡ todo_code x (todos (map part (drop (length xs - (i + 1)) xs)))
todos_more part x y n code code' xs i k s h at is was len far new =
    let a : length xs - (i + 1) ≡ k = omega arith in
    let b : length xs - i ≡ suc k = omega arith in
    let c : k < length xs = omega arith in
    let rest = map part (drop (suc k) xs) in
    let was' : code ≡ todo_code x (todos rest) = was ∙ ap (λ n. todo_code x (todos (map part (drop n xs)))) b in
    new ∙ ap (λ z. step_code z (part s) ++ code) (far ∙ ap (λ m. farther m x) len)
    ∙ ap (λ l. step_code (farther (length l) x) (part s) ++ l) was'
    ∙ sym (todos_first x (part s) rest)
    ∙ ap (λ z. todo_code x (todos (part z ∷ rest))) is
    ∙ ap (λ l. todo_code x (todos (map part l))) (sym (drop-cons xs k s c))
    ∙ ap (λ n. todo_code x (todos (map part (drop n xs)))) (sym a)

-- ---- arms

-- one more arm in front of those behind it
pub arms_more : {A : Type 0} (part : A → Choice) (x : Exits) (start rest rest' : List Draft) (xs : List A) (i k : ℕ) (a : A) → i < length xs → k ≡ length xs - 1 - i → a ≡ get_or xs k a
    → rest ≡ choices_code x (map part (drop (length xs - i) xs)) start → rest' ≡ choice_code x (part a) rest
    → rest' ≡ choices_code x (map part (drop (length xs - (i + 1)) xs)) start
arms_more part x start rest rest' xs i k a h at is was new =
    let d : length xs - (i + 1) ≡ k = omega arith in
    let b : length xs - i ≡ suc k = omega arith in
    let c : k < length xs = omega arith in
    new ∙ ap (choice_code x (part a)) (was ∙ ap (λ n. choices_code x (map part (drop n xs)) start) b)
    ∙ ap (λ y. choice_code x (part y) (choices_code x (map part (drop (suc k) xs)) start)) is
    ∙ ap (λ l. choices_code x (map part l) start) (sym (drop-cons xs k a c))
    ∙ ap (λ n. choices_code x (map part (drop n xs)) start) (sym d)
