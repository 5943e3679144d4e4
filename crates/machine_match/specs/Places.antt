-- What the code does from a place on, and which operands stand there.
use Rattle.std.specs.Prelude.{◌≡◌, true, ℕ, suc, ◌+◌, List, [], ◌∷◌, ◌++◌, length, map, Some, slice_get}
use Rattle.brs_code.specs.declared.function.Function.{Function}
use Rattle.brs_code.specs.declared.function.Parameter.{Parameter}
use Rattle.brs_code.specs.declared.instr.Instr.TheVariants as i
use Rattle.code_relation.specs.declared.exits.Exits.{Exits}
use Rattle.code_relation.specs.Heads.{count, update_operator, value_type}
use Rattle.code_relation.specs.Standing.{Has, InstrAt, HeadAt, BetweenAt, FormAt, OthersAt, FormsAt, SetAt, DoingAt, BlockAt, inside_for, inside_while, no_loops}
use Rattle.brs_meaning.specs.Running.{Job, Does, Combines, Tests, Again, Compares, Increases, NextItem, NextKey, Binds, Task, Around, around, Under, under, Spot, AtHead, AtDecided, AtJob, AtEnd, AtFailure}
use Rattle.brs_meaning.specs.Moving.{decides}
use Rattle.machine_meaning.specs.Frame.{Operand, Holds, Items, Keys}
use Rattle.machine_meaning.specs.Stepping.{free_from}
use Rattle.machine_match.specs.Compiled.{Compiled, HeadIs, FormsAre, JobIs}

-- ---- free ways

-- jumps lead from one place to another
pub data Leads (f : Function) : ℕ → ℕ → Type 0 where
  here : {p : ℕ} → Leads f p p
  jump : {p r q line : ℕ} → Has f p (i.Jump r) line → Leads f r q → Leads f p q

-- so do jumps and tests that don't decide, on these operands
pub data Flows (f : Function) (ops : List Operand) : ℕ → ℕ → Type 0 where
  there : {p : ℕ} → Flows f ops p p
  over : {p r q : ℕ} → free_from (slice_get f.code p) ops p ≡ Some r → Flows f ops r q → Flows f ops p q

-- ---- statements of a running call

-- what a loop that is under way keeps on the operands
abbrev pub held_by : Job → (floor : List Operand) → List Operand
held_by (Compares x end step body) floor = Holds step ∷ Holds end ∷ floor
held_by (Increases x end step body) floor = Holds step ∷ Holds end ∷ floor
held_by (NextItem x array next body) floor = Items array next ∷ floor
held_by (NextKey x keys body) floor = Keys keys ∷ floor
held_by job floor = floor

abbrev pub kept : List Task → List Operand
kept [] = []
kept (t ∷ tasks) = held_by t.job (kept tasks)

module _ (c : Compiled) where
  -- from p to q the code does what is at work, after its k operands
  abbrev pub JobAt : Exits → ℕ → Job → (line k q : ℕ) → Type 0
  JobAt x p (Does doing) line k q = DoingAt c.function c.forms x p doing line k q
  JobAt x p (Combines aim sign at) line k q =
      (j : ℕ) × (k ≡ j + 2) × (n : ℕ) × InstrAt c.function p (i.Binary (update_operator sign)) at.line 2 n × SetAt c.function n aim line (j + 1) q
  JobAt x p (Tests f body) line k q =
      (k ≡ 1) × (s : ℕ) × FormAt c.function c.forms s f p × Has c.function p (i.Branch q) line × (e : ℕ) × BlockAt c.function c.forms (inside_while q x) (p + 1) body e × InstrAt c.function e (i.Again s) line 0 q
  JobAt x p (Again f body) line k q =
      (k ≡ 0) × (s : ℕ) × InstrAt c.function p (i.Again s) line 0 q × (m : ℕ) × FormAt c.function c.forms s f m × Has c.function m (i.Branch q) line × BlockAt c.function c.forms (inside_while q x) (m + 1) body p
  JobAt x p (Compares name end step body) line k q =
      (k ≡ 0) × (n : ℕ) × (slice_get c.function.names n ≡ Some name) × Has c.function p (i.ForTest n q) line × (e : ℕ) × BlockAt c.function c.forms (inside_for 2 q x) (p + 1) body e × InstrAt c.function e (i.ForNext n p) line 2 q
  JobAt x p (Increases name end step body) line k q =
      (k ≡ 0) × (n : ℕ) × (slice_get c.function.names n ≡ Some name) × (s : ℕ) × Has c.function s (i.ForTest n q) line × BlockAt c.function c.forms (inside_for 2 q x) (s + 1) body p × InstrAt c.function p (i.ForNext n s) line 2 q
  JobAt x p (NextItem name array next body) line k q =
      (k ≡ 0) × (n : ℕ) × (slice_get c.function.names n ≡ Some name) × (s : ℕ) × BlockAt c.function c.forms (inside_for 1 q x) s body p × InstrAt c.function p (i.EachNext n s) line 1 q
  JobAt x p (NextKey name keys body) line k q =
      (k ≡ 0) × (n : ℕ) × (slice_get c.function.names n ≡ Some name) × (s : ℕ) × BlockAt c.function c.forms (inside_for 1 q x) s body p × InstrAt c.function p (i.EachNext n s) line 1 q
  JobAt x p (Binds name kind) line k q =
      (n : ℕ) × (parameter : Parameter) × (slice_get c.function.parameters n ≡ Some parameter) × (slice_get c.function.names parameter.slot ≡ Some name) × (parameter.kind ≡ value_type kind) × InstrAt c.function p (i.Bind n) line k q

-- what a loop has still to do stands behind its body, where the exits are those of the body; other statements change none
abbrev pub round : Job → (end : ℕ) → Exits → Exits
round (Again f body) end x = inside_while end x
round (Increases name limit step body) end x = inside_for 2 end x
round (NextItem name array next body) end x = inside_for 1 end x
round (NextKey name keys body) end x = inside_for 1 end x
round job end x = x

-- a condition, a comparison and the second half of `+=` are at work at once, and so never stand among what is still to do
abbrev pub Stays : Job → Type 0
Stays (Combines aim sign at) = ⊥
Stays (Tests f body) = ⊥
Stays (Compares name end step body) = ⊥
Stays job = Unit {0}

-- from p the code does a task, and at q it is done
pub record TaskAt (c : Compiled) (x : Exits) (p : ℕ) (t : Task) (q : ℕ) : Type 0 where
  pub start : ℕ
  pub leads : Leads c.function p start
  pub middle : ℕ
  pub operands : FormsAt c.function c.forms start t.operands middle
  pub job : JobAt c x middle t.job t.place.line (count t.operands) q
  pub operands_are : FormsAre c t.operands
  pub job_is : JobIs c t.job

module _ (c : Compiled) where
  -- from p on the code does these tasks, with these exits from the loops round the first, and then ends the function
  abbrev pub RestAt : Exits → ℕ → List Task → Type 0
  RestAt x p [] = (q : ℕ) × Leads c.function p q × Has c.function q i.End 0 × (x ≡ no_loops q)
  RestAt x p (t ∷ tasks) = Stays t.job × (y : Exits) × (q : ℕ) × TaskAt c y p t q × (x ≡ round t.job q y) × RestAt y q tasks

  -- the same of tasks of which the first may be at work at once
  abbrev pub NextAt : ℕ → List Task → Type 0
  NextAt p [] = (x : Exits) × RestAt x p []
  NextAt p (t ∷ tasks) = (y : Exits) × (q : ℕ) × TaskAt c y p t q × RestAt y q tasks

  -- ---- operands

  -- at p a value comes on these operands, and at e the statement is done, whose loops keep the floor
  abbrev pub HoleAt : Exits → ℕ → List Around → Under → List Operand → (floor : List Operand) → (e : ℕ) → Type 0
  HoleAt x p [] (under job at done after) ops floor e =
      (ops ≡ map Holds done ++ held_by job floor) × (k : ℕ) × (k ≡ length done + suc (count after)) × (m : ℕ) × FormsAt c.function c.forms p after m × FormsAre c after
      × JobAt c x m job at.line k e × JobIs c job
  HoleAt x p (around h at done after ∷ context) base ops floor e =
      (rest : List Operand) × (ops ≡ map Holds done ++ rest) × (k : ℕ) × (k ≡ length done + suc (count after)) × (m : ℕ) × (q : ℕ) × OthersAt c.function c.forms p h at.line after q m
      × FormsAre c after × HeadAt c.function c.forms m h at.line k q × HeadIs c h at k × HoleAt x q context base rest floor e

  -- at p the redex is at work on these operands
  abbrev pub SpotAt : Exits → ℕ → Spot → List Operand → List Task → Type 0
  SpotAt x p (AtHead h at vs context base) ops tasks =
      (rest : List Operand) × (ops ≡ map Holds vs ++ rest) × (q : ℕ) × HeadAt c.function c.forms p h at.line (length vs) q × HeadIs c h at (length vs)
      × (e : ℕ) × HoleAt x q context base rest (kept tasks) e × RestAt x e tasks
  SpotAt x p (AtDecided h at v f fs context base) ops tasks =
      (rest : List Operand) × (ops ≡ Holds v ∷ rest) × (decides h v ≡ true) × (q : ℕ) × (n : ℕ) × BetweenAt c.function p h at.line q n
      × (e : ℕ) × HoleAt x q context base rest (kept tasks) e × RestAt x e tasks
  SpotAt x p (AtJob job at vs) ops tasks =
      (ops ≡ map Holds vs ++ held_by job (kept tasks)) × (e : ℕ) × JobAt c x p job at.line (length vs) e × JobIs c job × RestAt x e tasks
  SpotAt x p AtEnd ops tasks = (tasks ≡ []) × (ops ≡ []) × Has c.function p i.End 0
  -- an error that was handed back stands at no instruction
  SpotAt x p (AtFailure error at) ops tasks = ⊥
