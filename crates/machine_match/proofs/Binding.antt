-- A call begins in the machine where it begins in the tree, on the same arguments.
use Rattle.std.proofs.Common.{◌≡◌, ℕ, zero, suc, ◌+◌, ◌<◌, ◌≤◌, List, [], ◌∷◌, ◌++◌, length, Option, Some, None, Bool, true, false, cond, refl, sym, ap, ◌∙◌, subst, arith, ◌⊎◌, inl, inr}
use Rattle.std.specs.Prelude.{slice_get, nat_le, replicate}
use Rattle.std.proofs.lemmas.List.{length-replicate}
use Rattle.std.proofs.lemmas.Bool.Decides.{leb_tells}
use Rattle.chan_values.specs.declared.error_code.ErrorCode.TheVariants.{E6, E8}
use Rattle.heap_meaning.specs.Values.{StoreValue}
use Rattle.brs_grammar.specs.Form.{Text, Params, unnamed, required, optional}
use Rattle.brs_code.specs.declared.function.Function as code
use Rattle.brs_code.specs.declared.function.Parameter.{Parameter}
use Rattle.code_relation.specs.Heads.{needed_from}
use Rattle.code_relation.specs.Standing.{AreDistinct, ParametersAt, no_loops}
use Rattle.brs_meaning.specs.Program.{Program, Function}
use Rattle.brs_meaning.specs.Locals.{Locals}
use Rattle.brs_meaning.specs.Binding as tb
use Rattle.brs_meaning.specs.Binding.{suits, defaults, most_calls}
use Rattle.brs_meaning.specs.Running.{Kind, Task, before}
use Rattle.machine_meaning.specs.Image.{Image}
use Rattle.machine_meaning.specs.Frame.{Slots, slot_value}
use Rattle.machine_meaning.specs.Statements.{typed}
use Rattle.machine_meaning.specs.Entering as me
use Rattle.machine_meaning.specs.Entering.{takes, unset, entry}
use Rattle.machine_match.specs.Compiled.{Compiled, ParamsAre}
use Rattle.machine_match.specs.Places.{here, kept, RestAt}
use Rattle.machine_match.specs.Stands.{FunctionStands, SlotsAre, compiled}
use Rattle.machine_match.proofs.Control.{block_rest, kept_before, rest_next}
use Rattle.machine_match.proofs.Words.{local_assigned, slots_set, room_set}
use Rattle.machine_match.proofs.Statements.{typed_same}
use Rattle.machine_match.proofs.Going.{BegunStands}

-- ---- how many arguments

abbrev how_many : Params → ℕ
how_many unnamed = 0
how_many (required at x kind rest) = suc (how_many rest)
how_many (optional at x kind default rest) = suc (how_many rest)

-- the arguments are at least those needed, which are those up to the last parameter without a default
needed_grows : (ps : Params) (n found : ℕ) → found ≤ n → (needed_from n found ps ≡ found) ⊎ (n < needed_from n found ps)
needed_grows unnamed n found h = inl refl
needed_grows (required at x kind rest) n found h = elim (needed_grows rest (n + 1) (n + 1) (omega arith)) [ inl e ↦ inr (omega (arith, e)) | inr l ↦ inr (omega (arith, l)) ]
needed_grows (optional at x kind default rest) n found h = elim (needed_grows rest (n + 1) found (omega (arith, h))) [ inl e ↦ inl e | inr l ↦ inr (omega (arith, l)) ]

-- a call of so many arguments suits where they are between these bounds
abbrev Between : ℕ → ℕ → ℕ → Type 0
Between low n high = (low ≤ n) × (n ≤ high)

suits_within : (ps : Params) (m n found : ℕ) → found ≤ m → suits ps n ≡ true → Between (needed_from m found ps) (m + n) (m + how_many ps)
suits_within unnamed m zero found h e = (omega (arith, h), omega arith)
suits_within unnamed m (suc n) found h e = absurd cc
suits_within (required at x kind rest) m zero found h e = absurd cc
suits_within (required at x kind rest) m (suc n) found h e = let b = suits_within rest (m + 1) n (m + 1) (omega arith) e in (let l = b.0 in omega (arith, l), let l = b.1 in omega (arith, l))
suits_within (optional at x kind default rest) m zero found h e =
    let b = suits_within rest (m + 1) zero found (omega (arith, h)) e in
    let l = b.0 in
    elim (needed_grows rest (m + 1) found (omega (arith, h))) [ inl same ↦ (omega (arith, same, h), omega arith) | inr less ↦ absurd (omega (arith, less, l)) ]
suits_within (optional at x kind default rest) m (suc n) found h e = let b = suits_within rest (m + 1) n found (omega (arith, h)) e in (let l = b.0 in omega (arith, l), let l = b.1 in omega (arith, l))

within_suits : (ps : Params) (m n found : ℕ) → found ≤ m → Between (needed_from m found ps) (m + n) (m + how_many ps) → suits ps n ≡ true
within_suits unnamed m zero found h b = refl
within_suits unnamed m (suc n) found h b = let l = b.1 in absurd (omega (arith, l))
within_suits (required at x kind rest) m zero found h b =
    let l = b.0 in
    elim (needed_grows rest (m + 1) (m + 1) (omega arith)) [ inl same ↦ absurd (omega (arith, same, l)) | inr less ↦ absurd (omega (arith, less, l)) ]
within_suits (required at x kind rest) m (suc n) found h b =
    let l = b.0 in let k = b.1 in within_suits rest (m + 1) n (m + 1) (omega arith) (omega (arith, l), omega (arith, k))
within_suits (optional at x kind default rest) m zero found h b =
    let l = b.0 in within_suits rest (m + 1) zero found (omega (arith, h)) (omega (arith, l), omega arith)
within_suits (optional at x kind default rest) m (suc n) found h b =
    let l = b.0 in let k = b.1 in within_suits rest (m + 1) n found (omega (arith, h)) (omega (arith, l), omega (arith, k))

-- both tests decide the same
both_ways : (a b : Bool) → (a ≡ true → b ≡ true) → (b ≡ true → a ≡ true) → a ≡ b
both_ways true true f g = refl
both_ways true false f g = sym (f refl)
both_ways false true f g = g refl
both_ways false false f g = refl

le_both : (low n high : ℕ) → cond (nat_le low n) (nat_le n high) false ≡ true → Between low n high
le_both low n high e = elim (leb_tells low n) [
  | inl l ↦ elim (leb_tells n high) [
    | inl k ↦ (l.1, k.1)
    | inr k ↦ let z : false ≡ true = sym (ap (λ z. cond z (nat_le n high) false) l.0 ∙ k.0) ∙ e in absurd cc
  ]
  | inr l ↦ let z : false ≡ true = sym (ap (λ z. cond z (nat_le n high) false) l.0) ∙ e in absurd cc
]

both_le : (low n high : ℕ) → Between low n high → cond (nat_le low n) (nat_le n high) false ≡ true
both_le low n high b = elim (leb_tells low n) [
  | inl l ↦ elim (leb_tells n high) [
    | inl k ↦ ap (λ z. cond z (nat_le n high) false) l.0 ∙ k.0
    | inr k ↦ let less = k.1 in let most = b.1 in absurd (omega (arith, less, most))
  ]
  | inr l ↦ let less = l.1 in let most = b.0 in absurd (omega (arith, less, most))
]

-- ---- parameters

abbrev BoundStand : code.Function → Option Slots → Option Locals → Type 0
BoundStand f None None = Unit {0}
BoundStand f (Some slots) (Some locals) = SlotsAre f slots locals × (length slots ≡ length f.names)
BoundStand f _ _ = ⊥

unset_value : (k n : ℕ) → slot_value (replicate k None) n ≡ None
unset_value zero n = refl
unset_value (suc k) zero = refl
unset_value (suc k) (suc n) = unset_value k n

unset_are : (f : code.Function) → SlotsAre f (unset f) []
unset_are f n x named = sym (unset_value (length f.names) n)

before_stands : (f : code.Function) (n : ℕ) (name : Text) (o : Option StoreValue) (s : Option Slots) (l : Option Locals) → AreDistinct f.names → slice_get f.names n ≡ Some name
    → BoundStand f s l → BoundStand f (me.bound_before n o s) (tb.bound_before name o l)
before_stands f n name (Some v) (Some slots) (Some locals) distinct named are =
    ((λ k y at. sym (local_assigned y name v locals) ∙ slots_set f slots locals n name v distinct are.1 named are.0 k y at), room_set f slots n v are.1)
before_stands f n name (Some v) (Some slots) None distinct named are = absurd are
before_stands f n name (Some v) None (Some locals) distinct named are = absurd are
before_stands f n name (Some v) None None distinct named are = tt
before_stands f n name None s l distinct named are = tt

module _ (c : Compiled) where
  parameters_length : (ps : Params) (xs : List Parameter) (number p q : ℕ) → ParametersAt c.function c.forms number p xs ps q → length xs ≡ how_many ps
  parameters_length unnamed [] number p q at = refl
  parameters_length unnamed (x ∷ xs) number p q at = absurd at
  parameters_length (required place name kind rest) [] number p q at = absurd at
  parameters_length (required place name kind rest) (x ∷ xs) number p q at = ap suc (parameters_length rest xs (number + 1) p q at.3)
  parameters_length (optional place name kind default rest) [] number p q at = absurd at
  parameters_length (optional place name kind default rest) (x ∷ xs) number p q at = ap suc (parameters_length rest xs (number + 1) at.5 q at.7)

  bound_stands : (ps : Params) (xs : List Parameter) (vs : List StoreValue) (number p q : ℕ) → AreDistinct c.function.names → ParametersAt c.function c.forms number p xs ps q
      → BoundStand c.function (me.bound xs vs (unset c.function)) (tb.bound ps vs)
  bound_stands unnamed [] vs number p q distinct at = (unset_are c.function, length-replicate (length c.function.names) None)
  bound_stands unnamed (x ∷ xs) vs number p q distinct at = absurd at
  bound_stands (required place name kind rest) [] vs number p q distinct at = absurd at
  bound_stands (required place name kind rest) (x ∷ xs) [] number p q distinct at = (unset_are c.function, length-replicate (length c.function.names) None)
  bound_stands (required place name kind rest) (x ∷ xs) (v ∷ vs) number p q distinct at =
      subst (λ o. BoundStand c.function (me.bound_before x.slot (typed x.kind v) (me.bound xs vs (unset c.function))) (tb.bound_before name o (tb.bound rest vs))) (typed_same x.kind kind v at.1)
      (before_stands c.function x.slot name (typed x.kind v) (me.bound xs vs (unset c.function)) (tb.bound rest vs) distinct at.2 (bound_stands rest xs vs (number + 1) p q distinct at.3))
  bound_stands (optional place name kind default rest) [] vs number p q distinct at = absurd at
  bound_stands (optional place name kind default rest) (x ∷ xs) [] number p q distinct at = (unset_are c.function, length-replicate (length c.function.names) None)
  bound_stands (optional place name kind default rest) (x ∷ xs) (v ∷ vs) number p q distinct at =
      subst (λ o. BoundStand c.function (me.bound_before x.slot (typed x.kind v) (me.bound xs vs (unset c.function))) (tb.bound_before name o (tb.bound rest vs))) (typed_same x.kind kind v at.1)
      (before_stands c.function x.slot name (typed x.kind v) (me.bound xs vs (unset c.function)) (tb.bound rest vs) distinct at.2 (bound_stands rest xs vs (number + 1) at.5 q distinct at.7))

  -- ---- defaults

  -- the parameters from this one on
  abbrev From : (number : ℕ) → List Parameter → Type 0
  From number xs = (k : ℕ) → slice_get xs k ≡ slice_get c.function.parameters (number + k)

  later : (number : ℕ) (x : Parameter) (xs : List Parameter) → From number (x ∷ xs) → From (number + 1) xs
  later number x xs from k = let e : number + suc k ≡ number + 1 + k = omega arith in from (suc k) ∙ ap (slice_get c.function.parameters) e

  from_first : (ps : Params) (xs : List Parameter) (number p q end : ℕ) (tasks : List Task) → From number xs → ParametersAt c.function c.forms number p xs ps q → ParamsAre c ps
      → RestAt c (no_loops end) q tasks → RestAt c (no_loops end) p (defaults ps zero ++ tasks)
  from_first unnamed [] number p q end tasks from at are rest = subst (λ r. RestAt c (no_loops end) r tasks) (sym at) rest
  from_first unnamed (x ∷ xs) number p q end tasks from at are rest = absurd at
  from_first (required place name kind after) [] number p q end tasks from at are rest = absurd at
  from_first (required place name kind after) (x ∷ xs) number p q end tasks from at are rest = from_first after xs (number + 1) p q end tasks (later number x xs from) at.3 are rest
  from_first (optional place name kind default after) [] number p q end tasks from at are rest = absurd at
  from_first (optional place name kind default after) (x ∷ xs) number p q end tasks from at are rest =
      let e : number + 0 ≡ number = omega arith in
      let there = sym (from zero ∙ ap (slice_get c.function.parameters) e) in (
        tt,
        no_loops end,
        at.5,
        record { start = p; leads = here; middle = at.3; operands = (at.3, at.4, refl); job = (number, x, there, at.2, at.1, at.6); operands_are = (are.0, tt); job_is = tt },
        refl,
        from_first after xs (number + 1) at.5 q end tasks (later number x xs from) at.7 are.1 rest,
      )

  from_entry : (n : ℕ) (ps : Params) (xs : List Parameter) (number p end : ℕ) (tasks : List Task) → From number xs → ParametersAt c.function c.forms number p xs ps c.function.start → ParamsAre c ps
      → RestAt c (no_loops end) c.function.start tasks → RestAt c (no_loops end) (entry c.function (slice_get xs n)) (defaults ps n ++ tasks)
  from_entry n unnamed [] number p end tasks from at are rest = rest
  from_entry n unnamed (x ∷ xs) number p end tasks from at are rest = absurd at
  from_entry n (required place name kind after) [] number p end tasks from at are rest = absurd at
  from_entry zero (required place name kind after) (x ∷ xs) number p end tasks from at are rest =
      subst (λ r. RestAt c (no_loops end) r (defaults after zero ++ tasks)) (sym at.0) (from_first (required place name kind after) (x ∷ xs) number p c.function.start end tasks from at are rest)
  from_entry (suc n) (required place name kind after) (x ∷ xs) number p end tasks from at are rest = from_entry n after xs (number + 1) p end tasks (later number x xs from) at.3 are rest
  from_entry n (optional place name kind default after) [] number p end tasks from at are rest = absurd at
  from_entry zero (optional place name kind default after) (x ∷ xs) number p end tasks from at are rest =
      subst (λ r. RestAt c (no_loops end) r (defaults (optional place name kind default after) zero ++ tasks)) (sym at.0) (from_first (optional place name kind default after) (x ∷ xs) number p c.function.start end tasks from at are rest)
  from_entry (suc n) (optional place name kind default after) (x ∷ xs) number p end tasks from at are rest = from_entry n after xs (number + 1) at.5 end tasks (later number x xs from) at.7 are.1 rest

  -- defaults keep nothing
  kept_defaults : (ps : Params) (n : ℕ) (tasks : List Task) → kept (defaults ps n ++ tasks) ≡ kept tasks
  kept_defaults unnamed n tasks = refl
  kept_defaults (required place name kind rest) zero tasks = kept_defaults rest zero tasks
  kept_defaults (required place name kind rest) (suc n) tasks = kept_defaults rest n tasks
  kept_defaults (optional place name kind default rest) zero tasks = kept_defaults rest zero tasks
  kept_defaults (optional place name kind default rest) (suc n) tasks = kept_defaults rest n tasks

-- ---- a call

module _ (image : Image) (q : Program) (f : code.Function) (source : Function) (function : FunctionStands image q f source) where
  takes_same : (n : ℕ) → takes f n ≡ suits source.callee.params n
  takes_same n =
      let ps = source.callee.params in
      let l = parameters_length (compiled function) ps f.parameters 0 function.code.entry f.start function.code.parameters in
      let needed : f.needed ≡ needed_from 0 0 ps = function.code.needed in
      both_ways (takes f n) (suits ps n)
      (λ e. let b = le_both f.needed n (length f.parameters) e in let k = b.0 in let m = b.1 in within_suits ps 0 n 0 (omega arith) (omega (arith, k, needed), omega (arith, m, l)))
      (λ e. let b = suits_within ps 0 n 0 (omega arith) e in let k = b.0 in let m = b.1 in both_le f.needed n (length f.parameters) (omega (arith, k, needed), omega (arith, m, l)))

  judged : (kind : Kind) (home : ℕ) (m : StoreValue) (n : ℕ) (b d : Bool) (s : Option Slots) (l : Option Locals) → BoundStand f s l
      → BegunStands image q (cond b (cond d (me.Refuses E8) (me.begun_with kind f home m n s)) (me.Refuses E6))
      (cond b (cond d (tb.Refuses E8) (tb.begun_with kind source home m l (defaults source.callee.params n ++ before source.callee.body []))) (tb.Refuses E6))
  judged kind home m n false d s l are = refl
  judged kind home m n true true s l are = refl
  judged kind home m n true false None None are = refl
  judged kind home m n true false None (Some locals) are = absurd are
  judged kind home m n true false (Some slots) None are = absurd are
  judged kind home m n true false (Some slots) (Some locals) are =
      let ps = source.callee.params in
      let tasks = before source.callee.body [] in
      let end = function.code.end in
      let body = block_rest (compiled function) source.callee.body (no_loops end) f.start end [] function.code.body function.body (end, here, function.code.leaves, refl) in
      let from : From (compiled function) 0 f.parameters = λ k. let e : k ≡ 0 + k = omega arith in ap (slice_get f.parameters) e in
      let rest = from_entry (compiled function) n ps f.parameters 0 function.code.entry end tasks from function.code.parameters function.params body in (
        record { function = function; same = refl; slots = are.0; room = are.1 },
        sym (kept_defaults (compiled function) ps n tasks ∙ kept_before source.callee.body []),
        rest_next (compiled function) (no_loops end) (entry f (slice_get f.parameters n)) (defaults ps n ++ tasks) rest,
      )

  -- a call begins, or is refused with the same error
  pub begun_stands : (kind : Kind) (home : ℕ) (m : StoreValue) (vs : List StoreValue) (calls : ℕ) → BegunStands image q (me.begun kind f home m vs calls) (tb.begun kind source home m vs calls)
  begun_stands kind home m vs calls =
      let tasks = defaults source.callee.params (length vs) ++ before source.callee.body [] in
      subst (λ b. BegunStands image q (me.begun kind f home m vs calls) (cond b (cond (nat_le most_calls calls) (tb.Refuses E8) (tb.begun_with kind source home m (tb.bound source.callee.params vs) tasks)) (tb.Refuses E6))) (takes_same (length vs))
      (judged kind home m (length vs) (takes f (length vs)) (nat_le most_calls calls) (me.bound f.parameters vs (unset f)) (tb.bound source.callee.params vs)
      (bound_stands (compiled function) source.callee.params f.parameters vs 0 function.code.entry f.start function.code.names function.code.parameters))
