-- Where code stands to forms, the next redex stands at the next place.
use Rattle.std.proofs.Common.{◌≡◌, ℕ, suc, ◌+◌, ◌≤◌, List, [], ◌∷◌, length, Some, None, Bool, true, false, cond, refl, sym, ap, ◌∙◌, subst, arith}
use Rattle.brs_tokens.specs.declared.place.Place.{Place}
use Rattle.heap_meaning.specs.Values.{StoreValue}
use Rattle.brs_grammar.specs.Form.{Head, And, Or, Form, Node, Forms, none, more, Todo, finish, first}
use Rattle.brs_code.specs.declared.function.Function.{Function}
use Rattle.brs_code.specs.declared.instr.Instr.TheVariants as i
use Rattle.code_relation.specs.declared.exits.Exits.{Exits}
use Rattle.code_relation.specs.Heads.{count}
use Rattle.code_relation.specs.Standing.{Has, HeadAt, BetweenAt, FormAt, FormsAt, BlockAt}
use Rattle.brs_meaning.specs.Running.{Job, Task, before, Around, around, Under, under, Spot, AtDecided}
use Rattle.brs_meaning.specs.Moving.{decides, down, begin, give_under, give}
use Rattle.machine_meaning.specs.Frame.{Operand, Holds}
use Rattle.machine_meaning.specs.Stepping.{free_from}
use Rattle.machine_match.specs.Compiled.{Compiled, HeadIs, FormIs, FormsAre, JobIs, TodoIs}
use Rattle.machine_match.specs.Places.{Leads, here, jump, Flows, there, over, held_by, kept, JobAt, RestAt, NextAt, HoleAt, SpotAt}

-- ---- free ways

pub flows_of : (f : Function) (ops : List Operand) (p q : ℕ) → Leads f p q → Flows f ops p q
flows_of f ops p q here = there
flows_of f ops p q (jump {r = r} has leads) = over (ap (λ x. free_from x ops p) has.1) (flows_of f ops r q leads)

-- a test that doesn't decide is free, and nothing else stands between operands
between_flows : (f : Function) (h : Head) (line p e n : ℕ) (v : StoreValue) (ops : List Operand) → BetweenAt f p h line e n → decides h v ≡ false → Flows f (Holds v ∷ ops) p n
between_flows f And line p e n v ops at undecided =
    over (ap (λ x. free_from x (Holds v ∷ ops) p) at.has.1 ∙ ap (λ b. cond b None (Some (p + 1))) undecided ∙ ap Some at.next) there
between_flows f Or line p e n v ops at undecided =
    over (ap (λ x. free_from x (Holds v ∷ ops) p) at.has.1 ∙ ap (λ b. cond b None (Some (p + 1))) undecided ∙ ap Some at.next) there
between_flows f _ line p e n v ops at undecided = subst (λ q. Flows f (Holds v ∷ ops) p q) at there

-- a block in front keeps nothing
pub kept_before : (b : Todo) (tasks : List Task) → kept (before b tasks) ≡ kept tasks
kept_before finish tasks = refl
kept_before (first doing at fs after) tasks = kept_before after tasks

module _ (c : Compiled) where
  -- a third operand has no test before it
  between_same : (h : Head) (line p q m k n : ℕ) → BetweenAt c.function p h line q n → HeadAt c.function c.forms m h line k q → 3 ≤ k → p ≡ n
  between_same And line p q m k n at head three = let two : 2 ≡ k = head.instr.takes in absurd (omega (arith, two, three))
  between_same Or line p q m k n at head three = let two : 2 ≡ k = head.instr.takes in absurd (omega (arith, two, three))
  between_same _ line p q m k n at head three = at

  -- ---- into a form, and on from a value

  pub down_stands : (f : Form) (x : Exits) (p q : ℕ) (context : List Around) (base : Under) (ops : List Operand) (e : ℕ) (tasks : List Task)
      → FormAt c.function c.forms p f q → FormIs c f → HoleAt c x q context base ops (kept tasks) e → RestAt c x e tasks → SpotAt c x p (down f context base) ops tasks
  down_stands (Node h at none) x p q context base ops e tasks f is hole rest =
      (ops, refl, q, subst (λ r. HeadAt c.function c.forms r h at.line 0 q) (sym f.1) f.2, is.0, e, hole, rest)
  down_stands (Node h at (more g gs)) x p q context base ops e tasks f is hole rest =
      down_stands g x p f.1.0 (around h at [] gs ∷ context) base ops e tasks f.1.1 is.1.0 (ops, refl, suc (count gs), omega arith, f.0, q, f.1.2, is.1.1, f.2, is.0, hole) rest

  pub begin_stands : (job : Job) (at : Place) (fs : Forms) (x : Exits) (p m n : ℕ) (tasks : List Task)
      → FormsAt c.function c.forms p fs m → FormsAre c fs → JobAt c x m job at.line (count fs) n → JobIs c job → RestAt c x n tasks → SpotAt c x p (begin job at fs) (held_by job (kept tasks)) tasks
  begin_stands job at none x p m n tasks fs are does is rest = (refl, n, subst (λ m. JobAt c x m job at.line 0 n) (sym fs) does, is, rest)
  begin_stands job at (more f fs) x p m n tasks at_p are does is rest =
      down_stands f x p at_p.0 [] (under job at [] fs) (held_by job (kept tasks)) n tasks at_p.1 are.0 (refl, suc (count fs), omega arith, m, at_p.2, are.1, does, is) rest

  under_stands : (v : StoreValue) (base : Under) (x : Exits) (p : ℕ) (ops : List Operand) (e : ℕ) (tasks : List Task)
      → HoleAt c x p [] base ops (kept tasks) e → RestAt c x e tasks → SpotAt c x p (give_under v base) (Holds v ∷ ops) tasks
  under_stands v (under job at done none) x p ops e tasks hole rest =
      let k : hole.1 ≡ suc (length done) = omega (arith, hole.2) in
      (ap (λ l. Holds v ∷ l) hole.0, e, subst (λ j. JobAt c x p job at.line j e) k (subst (λ m. JobAt c x m job at.line hole.1 e) (sym hole.4) hole.6), hole.7, rest)
  under_stands v (under job at done (more f fs)) x p ops e tasks hole rest =
      let k : hole.1 ≡ length (v ∷ done) + suc (count fs) = omega (arith, hole.2) in
      down_stands f x p hole.4.0 [] (under job at (v ∷ done) fs) (Holds v ∷ ops) e tasks hole.4.1 hole.5.0 (ap (λ l. Holds v ∷ l) hole.0, hole.1, k, hole.3, hole.4.2, hole.5.1, hole.6, hole.7) rest

  -- where a value is given, free ways lead to the next redex
  pub record Landed (x : Exits) (p : ℕ) (spot : Spot) (ops : List Operand) (tasks : List Task) : Type 0 where
    pub place : ℕ
    pub flows : Flows c.function ops p place
    pub at : SpotAt c x place spot ops tasks

  go_on_stands : (b : Bool) (v : StoreValue) (h : Head) (at : Place) (f : Form) (fs : Forms) (context : List Around) (base : Under) (x : Exits) (p : ℕ) (ops : List Operand) (e : ℕ) (tasks : List Task)
      → decides h v ≡ b → HoleAt c x p (around h at [] (more f fs) ∷ context) base ops (kept tasks) e → RestAt c x e tasks
      → Landed x p (cond b (AtDecided h at v f fs context base) (down f (around h at (v ∷ []) fs ∷ context) base)) (Holds v ∷ ops) tasks
  go_on_stands true v h at f fs context base x p ops e tasks decided hole rest =
      record { place = p; flows = there; at = (hole.0, ap (λ l. Holds v ∷ l) hole.1, decided, hole.5, hole.6.0, hole.6.1, e, hole.10, rest) }
  go_on_stands false v h at f fs context base x p ops e tasks decided hole rest =
      let k : hole.2 ≡ length (v ∷ []) + suc (count fs) = omega (arith, hole.3) in
      let deeper : HoleAt c x hole.6.2 (around h at (v ∷ []) fs ∷ context) base (Holds v ∷ ops) (kept tasks) e = (hole.0, ap (λ l. Holds v ∷ l) hole.1, hole.2, k, hole.4, hole.5, hole.6.4, hole.7.1, hole.8, hole.9, hole.10) in
      record {
        place = hole.6.0;
        flows = between_flows c.function h at.line p hole.5 hole.6.0 v ops hole.6.1 decided;
        at = down_stands f x hole.6.0 hole.6.2 (around h at (v ∷ []) fs ∷ context) base (Holds v ∷ ops) e tasks hole.6.3 hole.7.0 deeper rest;
      }

  pub give_stands : (v : StoreValue) (context : List Around) (base : Under) (x : Exits) (p : ℕ) (ops : List Operand) (e : ℕ) (tasks : List Task)
      → HoleAt c x p context base ops (kept tasks) e → RestAt c x e tasks → Landed x p (give v context base) (Holds v ∷ ops) tasks
  give_stands v [] base x p ops e tasks hole rest = record { place = p; flows = there; at = under_stands v base x p ops e tasks hole rest }
  give_stands v (around h at done none ∷ context) base x p ops e tasks hole rest =
      let k : hole.2 ≡ suc (length done) = omega (arith, hole.3) in
      let head = subst (λ j. HeadAt c.function c.forms p h at.line j hole.5) k (subst (λ m. HeadAt c.function c.forms m h at.line hole.2 hole.5) (sym hole.6) hole.8) in
      record { place = p; flows = there; at = (hole.0, ap (λ l. Holds v ∷ l) hole.1, hole.5, head, subst (λ j. HeadIs c h at j) k hole.9, e, hole.10, rest) }
  give_stands v (around h at [] (more f fs) ∷ context) base x p ops e tasks hole rest = go_on_stands (decides h v) v h at f fs context base x p ops e tasks refl hole rest
  give_stands v (around h at (w ∷ done) (more f fs) ∷ context) base x p ops e tasks hole rest =
      let three : 3 ≤ hole.2 = omega (arith, hole.3) in
      let same = between_same h at.line p hole.5 hole.4 hole.2 hole.6.0 hole.6.1 hole.8 three in
      let k : hole.2 ≡ length (v ∷ w ∷ done) + suc (count fs) = omega (arith, hole.3) in
      let deeper : HoleAt c x hole.6.2 (around h at (v ∷ w ∷ done) fs ∷ context) base (Holds v ∷ ops) (kept tasks) e = (hole.0, ap (λ l. Holds v ∷ l) hole.1, hole.2, k, hole.4, hole.5, hole.6.4, hole.7.1, hole.8, hole.9, hole.10) in
      let f_at = subst (λ n. FormAt c.function c.forms n f hole.6.2) (sym same) hole.6.3 in
      record { place = p; flows = there; at = down_stands f x p hole.6.2 (around h at (v ∷ w ∷ done) fs ∷ context) base (Holds v ∷ ops) e tasks f_at hole.7.0 deeper rest }

  -- ---- what is still to do

  pub block_rest : (b : Todo) (x : Exits) (p q : ℕ) (tasks : List Task) → BlockAt c.function c.forms x p b q → TodoIs c b → RestAt c x q tasks → RestAt c x p (before b tasks)
  block_rest finish x p q tasks b is rest = subst (λ n. RestAt c x n tasks) (sym b) rest
  block_rest (first doing at fs after) x p q tasks b is rest =
      (tt, x, b.2, record { start = p; leads = here; middle = b.0; operands = b.1; job = b.3; operands_are = is.1; job_is = is.0 }, refl, block_rest after x b.2 q tasks b.4 is.2 rest)

  pub jump_rest : (x : Exits) (p q line : ℕ) (tasks : List Task) → Has c.function p (i.Jump q) line → RestAt c x q tasks → RestAt c x p tasks
  jump_rest x p q line [] has rest = (rest.0, jump has rest.1, rest.2, rest.3)
  jump_rest x p q line (t ∷ tasks) has rest =
      let at = rest.3 in
      (rest.0, rest.1, rest.2, record { start = at.start; leads = jump has at.leads; middle = at.middle; operands = at.operands; job = at.job; operands_are = at.operands_are; job_is = at.job_is }, rest.4, rest.5)

  pub rest_next : (x : Exits) (p : ℕ) (tasks : List Task) → RestAt c x p tasks → NextAt c p tasks
  rest_next x p [] rest = (x, rest)
  rest_next x p (t ∷ tasks) rest = (rest.1, rest.2, rest.3, rest.5)
