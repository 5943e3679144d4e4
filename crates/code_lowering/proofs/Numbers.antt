-- The anonymous functions of forms in the order in which their code ends, and the numbers that they have.
use Rattle.std.proofs.Common.{◌≡◌, ℕ, zero, suc, ◌+◌, ◌<◌, List, [], ◌∷◌, ◌++◌, length, Some, refl, sym, ap, ◌∙◌, arith, subst, length-append, ◌⊎◌, inl, inr}
use Rattle.std.specs.Prelude.{slice_get}
use Rattle.std.proofs.lemmas.List.{append-nil}
use Rattle.brs_grammar.specs.Form as g
use Rattle.brs_grammar.specs.Form.{Head, Form, Node, Forms, none, more, Params, unnamed, required, optional, Doing, Todo, finish, first}
use Rattle.brs_code.specs.declared.function.Function.{Function}
use Rattle.code_relation.specs.Standing.{FunctionForm, FunctionAt}

abbrev mutual
  pub form_functions : Form → List FunctionForm
  form_functions (Node h at xs) = forms_functions xs ++ head_functions h at.line

  pub head_functions : Head → (line : ℕ) → List FunctionForm
  head_functions (g.Anonymous kind ps type body) line = (params_functions ps ++ todo_functions body) ++ record { line = line; callee = record { params = ps; value = type; body = body } } ∷ []
  head_functions h line = []

  pub forms_functions : Forms → List FunctionForm
  forms_functions none = []
  forms_functions (more x xs) = form_functions x ++ forms_functions xs

  pub params_functions : Params → List FunctionForm
  params_functions unnamed = []
  params_functions (required at x type ps) = params_functions ps
  params_functions (optional at x type e ps) = form_functions e ++ params_functions ps

  pub doing_functions : Doing → List FunctionForm
  doing_functions (g.Update aim sign at e) = form_functions e
  doing_functions (g.If a b) = todo_functions a ++ todo_functions b
  doing_functions (g.While c body) = form_functions c ++ todo_functions body
  doing_functions (g.For at name body) = todo_functions body
  doing_functions (g.ForEach at name body) = todo_functions body
  doing_functions d = []

  pub todo_functions : Todo → List FunctionForm
  todo_functions finish = []
  todo_functions (first d at xs rest) = forms_functions xs ++ (doing_functions d ++ todo_functions rest)

-- ---- numbers

-- from n on these functions stand in the list
abbrev pub Slice : List FunctionForm → ℕ → List FunctionForm → Type 0
Slice fs n xs = (k : ℕ) (x : FunctionForm) → slice_get xs k ≡ Some x → slice_get fs (n + k) ≡ Some x

-- each of them has its code
abbrev pub Each : List Function → List FunctionForm → ℕ → List FunctionForm → Type 0
Each all fs n xs = (k : ℕ) (x : FunctionForm) → slice_get xs k ≡ Some x → (g : Function) × (slice_get all (n + k) ≡ Some g) × FunctionAt fs g x

-- Code whose anonymous functions are these, numbered from n to m, stands as it says where they stand in the list from n on.
pub record Law (all : List Function) (fs : List FunctionForm) (n : ℕ) (xs : List FunctionForm) (m : ℕ) (Stands : Type 0) : Type 0 where
  pub numbers : m ≡ n + length xs
  pub stands : Slice fs n xs → Stands
  pub each : Slice fs n xs → Each all fs n xs

get_front : (xs ys : List FunctionForm) (k : ℕ) (x : FunctionForm) → slice_get xs k ≡ Some x → slice_get (xs ++ ys) k ≡ Some x
get_front [] ys k x e = absurd (cc)
get_front (y ∷ xs) ys zero x e = e
get_front (y ∷ xs) ys (suc k) x e = get_front xs ys k x e

get_back : (xs ys : List FunctionForm) (k j : ℕ) (x : FunctionForm) → j ≡ length xs + k → slice_get ys k ≡ Some x → slice_get (xs ++ ys) j ≡ Some x
get_back [] ys k j x h e =
    let same : j ≡ k = omega (arith, h) in
    ap (slice_get ys) same ∙ e
get_back (y ∷ xs) ys k zero x h e = absurd (omega (arith, h))
get_back (y ∷ xs) ys k (suc j) x h e = get_back xs ys k j x (omega (arith, h)) e

get_either : (xs ys : List FunctionForm) (k : ℕ) (x : FunctionForm) → slice_get (xs ++ ys) k ≡ Some x → (slice_get xs k ≡ Some x) ⊎ ((j : ℕ) × (k ≡ length xs + j) × (slice_get ys j ≡ Some x))
get_either [] ys k x e = inr (k, omega arith, e)
get_either (y ∷ xs) ys zero x e = inl e
get_either (y ∷ xs) ys (suc k) x e = elim (get_either xs ys k x e) [
  | inl h ↦ inl h
  | inr h ↦ inr (h.0, omega (arith, h.1), h.2)
]

slice_front : (fs : List FunctionForm) (n : ℕ) (xs ys : List FunctionForm) → Slice fs n (xs ++ ys) → Slice fs n xs
slice_front fs n xs ys s k x e = s k x (get_front xs ys k x e)

slice_back : (fs : List FunctionForm) (n m : ℕ) (xs ys : List FunctionForm) → m ≡ n + length xs → Slice fs n (xs ++ ys) → Slice fs m ys
slice_back fs n m xs ys e s k x h =
    let at : m + k ≡ n + (length xs + k) = omega (arith, e) in
    ap (slice_get fs) at ∙ s (length xs + k) x (get_back xs ys k (length xs + k) x refl h)

each_both : (all : List Function) (fs : List FunctionForm) (n m : ℕ) (xs ys : List FunctionForm) → m ≡ n + length xs → Each all fs n xs → Each all fs m ys → Each all fs n (xs ++ ys)
each_both all fs n m xs ys e a b k x h = elim (get_either xs ys k x h) [
  | inl w ↦ a k x w
  | inr w ↦
      let at : m + w.0 ≡ n + k = omega (arith, e, w.1) in
      let one = b w.0 x w.2 in
      (one.0, ap (slice_get all) (sym at) ∙ one.1, one.2)
]

pub law_none : (all : List Function) (fs : List FunctionForm) (n m : ℕ) (A : Type 0) → n ≡ m → A → Law all fs n [] m A
law_none all fs n m A e a = record { numbers = omega (arith, e); stands = λ s. a; each = λ s k x h. absurd (cc) }

pub law_map : (all : List Function) (fs : List FunctionForm) (n : ℕ) (xs : List FunctionForm) (m : ℕ) (A B : Type 0) → Law all fs n xs m A → (A → B) → Law all fs n xs m B
law_map all fs n xs m A B a f = record { numbers = a.numbers; stands = λ s. f (a.stands s); each = a.each }

pub law_both : (all : List Function) (fs : List FunctionForm) (n : ℕ) (xs : List FunctionForm) (k : ℕ) (ys : List FunctionForm) (m : ℕ) (A B : Type 0) → Law all fs n xs k A → Law all fs k ys m B → Law all fs n (xs ++ ys) m (A × B)
law_both all fs n xs k ys m A B a b =
    let l : length (xs ++ ys) ≡ length xs + length ys = length-append xs ys in
    record {
      numbers = omega (arith, a.numbers, b.numbers, l);
      stands = λ s. (a.stands (slice_front fs n xs ys s), b.stands (slice_back fs n k xs ys a.numbers s));
      each = λ s. each_both all fs n k xs ys a.numbers (a.each (slice_front fs n xs ys s)) (b.each (slice_back fs n k xs ys a.numbers s));
    }

-- a law between numbers that are told in another way
pub law_from : (all : List Function) (fs : List FunctionForm) (n k : ℕ) (xs : List FunctionForm) (j m : ℕ) (A : Type 0) → n ≡ k → j ≡ m → Law all fs k xs j A → Law all fs n xs m A
law_from all fs n k xs j m A e z a = subst (λ i. Law all fs n xs i A) z (subst (λ i. Law all fs i xs j A) (sym e) a)

-- a law whose functions are told in another way
pub law_as : (all : List Function) (fs : List FunctionForm) (n : ℕ) (xs ys : List FunctionForm) (m : ℕ) (A : Type 0) → xs ≡ ys → Law all fs n xs m A → Law all fs n ys m A
law_as all fs n xs ys m A e a = subst (λ l. Law all fs n l m A) e a

-- an anonymous function behind those inside it
pub law_function : (all : List Function) (fs : List FunctionForm) (n : ℕ) (xs : List FunctionForm) (k m : ℕ) (g : Function) (x : FunctionForm) → m ≡ k + 1 → slice_get all k ≡ Some g → Law all fs n xs k (FunctionAt fs g x)
    → Law all fs n (xs ++ x ∷ []) m (slice_get fs k ≡ Some x)
law_function all fs n xs k m g x last at a =
    let l : length (xs ++ x ∷ []) ≡ length xs + 1 = length-append xs (x ∷ []) in
    let z : k + 0 ≡ k = omega arith in
    record {
      numbers = omega (arith, a.numbers, last, l);
      stands = λ s. ap (slice_get fs) (sym z) ∙ slice_back fs n k xs (x ∷ []) a.numbers s 0 x refl;
      each = λ s. each_both all fs n k xs (x ∷ []) a.numbers (a.each (slice_front fs n xs (x ∷ []) s)) (one (a.stands (slice_front fs n xs (x ∷ []) s)));
    }
  where
    one : FunctionAt fs g x → Each all fs k (x ∷ [])
    one stands zero y h =
        let z : k + 0 ≡ k = omega arith in
        let same : x ≡ y = cc in
        (g, ap (slice_get all) z ∙ at, subst (λ u. FunctionAt fs g u) same stands)
    one stands (suc j) y h = absurd (cc)
