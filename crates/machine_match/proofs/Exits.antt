-- Where an `exit` leads, the code does what is to do behind the loop, and the loops that are left keep what it drops.
use Rattle.std.proofs.Common.{◌≡◌, ℕ, ◌+◌, List, [], ◌∷◌, ◌++◌, length, cond, refl, sym, ap, ◌∙◌, subst, arith}
use Rattle.brs_grammar.specs.declared.tree.LoopKind.{LoopKind}
use Rattle.brs_grammar.specs.declared.tree.LoopKind.TheVariants as loop
use Rattle.code_relation.specs.declared.exits.Exits.{Exits}
use Rattle.code_relation.specs.Standing.{inside_for, inside_while, no_loops}
use Rattle.brs_meaning.specs.Running.{Job, Does, Combines, Tests, Again, Compares, Increases, NextItem, NextKey, Binds, Task}
use Rattle.brs_meaning.specs.Statements.{is_loop, left}
use Rattle.machine_meaning.specs.Frame.{Operand, Holds, Items, Keys}
use Rattle.machine_match.specs.Compiled.{Compiled}
use Rattle.machine_match.specs.Places.{here, held_by, kept, round, Stays, RestAt}

abbrev pub exit_to : LoopKind → Exits → ℕ
exit_to loop.For x = x.for_to
exit_to loop.While x = x.while_to

abbrev pub exit_keeps : LoopKind → Exits → ℕ
exit_keeps loop.For x = x.for_keeps
exit_keeps loop.While x = x.while_keeps

-- the operands that are left behind, and the code behind the loop
pub record LeftAt (c : Compiled) (kind : LoopKind) (x : Exits) (tasks : List Task) (ops : List Operand) : Type 0 where
  pub front : List Operand
  pub operands : ops ≡ front ++ kept tasks
  pub counts : exit_keeps kind x ≡ length front
  pub exits : Exits
  pub behind : RestAt c exits (exit_to kind x) tasks

module _ (c : Compiled) where
  -- one more loop that is left
  past : (kind : LoopKind) (x y : Exits) (tasks : List Task) (more ops : List Operand)
      → exit_to kind y ≡ exit_to kind x → exit_keeps kind x ≡ exit_keeps kind y + length more → LeftAt c kind y tasks ops → LeftAt c kind x tasks (more ++ ops)
  past kind x y tasks more ops to keeps l =
      record {
        front = more ++ l.front;
        operands = ap (λ o. more ++ o) l.operands ∙ sym (associated more l.front (kept tasks));
        counts = let n = counted more l.front in omega (arith, keeps, l.counts, n);
        exits = l.exits;
        behind = subst (λ p. RestAt c l.exits p tasks) to l.behind;
      }
    where
      associated : (xs ys zs : List Operand) → (xs ++ ys) ++ zs ≡ xs ++ (ys ++ zs)
      associated [] ys zs = refl
      associated (o ∷ xs) ys zs = ap (λ l. o ∷ l) (associated xs ys zs)

      counted : (xs ys : List Operand) → length (xs ++ ys) ≡ length xs + length ys
      counted [] ys = omega arith
      counted (o ∷ xs) ys = let n = counted xs ys in omega (arith, n)

  -- the loop itself
  itself : (kind : LoopKind) (x y : Exits) (q : ℕ) (tasks : List Task) (front : List Operand)
      → exit_to kind x ≡ q → exit_keeps kind x ≡ length front → RestAt c y q tasks → LeftAt c kind x tasks (front ++ kept tasks)
  itself kind x y q tasks front to keeps rest =
      record { front = front; operands = refl; counts = keeps; exits = y; behind = subst (λ p. RestAt c y p tasks) (sym to) rest }

  job_left : (kind : LoopKind) (job : Job) (y : Exits) (q : ℕ) (tasks : List Task) → Stays job → RestAt c y q tasks → LeftAt c kind y (left kind tasks) (kept tasks)
      → LeftAt c kind (round job q y) (cond (is_loop kind job) tasks (left kind tasks)) (held_by job (kept tasks))
  job_left loop.While (Does doing) y q tasks stays rest l = l
  job_left loop.While (Again f body) y q tasks stays rest l = itself loop.While (inside_while q y) y q tasks [] refl refl rest
  job_left loop.While (Increases name end step body) y q tasks stays rest l =
      past loop.While (inside_for 2 q y) y (left loop.While tasks) (Holds step ∷ Holds end ∷ []) (kept tasks) refl refl l
  job_left loop.While (NextItem name array next body) y q tasks stays rest l =
      past loop.While (inside_for 1 q y) y (left loop.While tasks) (Items array next ∷ []) (kept tasks) refl refl l
  job_left loop.While (NextKey name keys body) y q tasks stays rest l =
      past loop.While (inside_for 1 q y) y (left loop.While tasks) (Keys keys ∷ []) (kept tasks) refl refl l
  job_left loop.While (Binds name kind) y q tasks stays rest l = l
  job_left loop.For (Does doing) y q tasks stays rest l = l
  job_left loop.For (Again f body) y q tasks stays rest l =
      record { front = l.front; operands = l.operands; counts = l.counts; exits = l.exits; behind = l.behind }
  job_left loop.For (Increases name end step body) y q tasks stays rest l = itself loop.For (inside_for 2 q y) y q tasks (Holds step ∷ Holds end ∷ []) refl refl rest
  job_left loop.For (NextItem name array next body) y q tasks stays rest l = itself loop.For (inside_for 1 q y) y q tasks (Items array next ∷ []) refl refl rest
  job_left loop.For (NextKey name keys body) y q tasks stays rest l = itself loop.For (inside_for 1 q y) y q tasks (Keys keys ∷ []) refl refl rest
  job_left loop.For (Binds name kind) y q tasks stays rest l = l
  job_left kind (Combines aim sign at) y q tasks stays rest l = absurd stays
  job_left kind (Tests f body) y q tasks stays rest l = absurd stays
  job_left kind (Compares name end step body) y q tasks stays rest l = absurd stays

  none_left : (kind : LoopKind) (q : ℕ) → RestAt c (no_loops q) q [] → LeftAt c kind (no_loops q) [] []
  none_left loop.For q rest = record { front = []; operands = refl; counts = refl; exits = no_loops q; behind = rest }
  none_left loop.While q rest = record { front = []; operands = refl; counts = refl; exits = no_loops q; behind = rest }

  pub left_at : (kind : LoopKind) (x : Exits) (p : ℕ) (tasks : List Task) → RestAt c x p tasks → LeftAt c kind x (left kind tasks) (kept tasks)
  left_at kind x p [] rest = subst (λ y. LeftAt c kind y [] []) (sym rest.3) (none_left kind rest.0 (rest.0, here, rest.2, refl))
  left_at kind x p (t ∷ tasks) rest =
      let l = left_at kind rest.1 rest.2 tasks rest.5 in
      subst (λ y. LeftAt c kind y (left kind (t ∷ tasks)) (held_by t.job (kept tasks))) (sym rest.4) (job_left kind t.job rest.1 rest.2 tasks rest.0 rest.5 l)
