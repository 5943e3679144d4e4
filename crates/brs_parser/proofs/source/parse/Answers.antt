use Rattle.std.proofs.Common.{◌≡◌, refl, sym, ap, ◌∙◌, subst}
use Rattle.brs_grammar.proofs.Whole.{file_ok, one_tree, never_both, one_fault}
use Rattle.brs_grammar.specs.Grammar.{IsFirstFault}
use Rattle.brs_parser.specs.FaultPlace.{fault_at}
use Rattle.brs_parser.proofs.Top.{fault_token}
use Rattle.brs_parser.proofs.source.parse.Goals as goal

pub returns-in-Ok-clause-tree : goal.returns-in-Ok-clause-tree
returns-in-Ok-clause-tree c = let read = rw c.new-cursor.ensures at c.in-Ok.ensures in file_ok _ _ _ read

pub returns-in-Ok-clause-all : goal.returns-in-Ok-clause-all
returns-in-Ok-clause-all c functions s = let read = rw c.new-cursor.ensures at c.in-Ok.ensures in one_tree _ _ _ (file_ok _ _ _ read) s

pub returns-in-Ok-clause-first : goal.returns-in-Ok-clause-first
returns-in-Ok-clause-first c k f = let read = rw c.new-cursor.ensures at c.in-Ok.ensures in never_both _ _ k (file_ok _ _ _ read) f

pub returns-in-Err-Fault-clause-fault : goal.returns-in-Err-Fault-clause-fault
returns-in-Err-Fault-clause-fault c fault e =
    let read = rw c.new-cursor.ensures at (rw c.in-Err-Fault.field-0-is at c.in-Err-Fault.ensures) in
    let f : IsFirstFault c.args.tokens.now c.saturating_sub-at.result = fault_token _ _ _ _ _ read c.len.ensures c.left.ensures c.saturating_sub-at.ensures in
    let same : c.fault_at.result ≡ fault = cc in
    subst (λ x. IsFirstFault c.args.tokens.now x.token × (x ≡ fault_at c.args.tokens.now x.token)) (sym c.fault_at.ensures ∙ same) (f, refl)

pub returns-in-Err-Fault-clause-all : goal.returns-in-Err-Fault-clause-all
returns-in-Err-Fault-clause-all c functions s =
    let read = rw c.new-cursor.ensures at (rw c.in-Err-Fault.field-0-is at c.in-Err-Fault.ensures) in
    let f : IsFirstFault c.args.tokens.now c.saturating_sub-at.result = fault_token _ _ _ _ _ read c.len.ensures c.left.ensures c.saturating_sub-at.ensures in
    never_both _ _ _ s f

pub returns-in-Err-Fault-clause-first : goal.returns-in-Err-Fault-clause-first
returns-in-Err-Fault-clause-first c k g =
    let read = rw c.new-cursor.ensures at (rw c.in-Err-Fault.field-0-is at c.in-Err-Fault.ensures) in
    let f : IsFirstFault c.args.tokens.now c.saturating_sub-at.result = fault_token _ _ _ _ _ read c.len.ensures c.left.ensures c.saturating_sub-at.ensures in
    c.fault_at.ensures ∙ ap (fault_at c.args.tokens.now) (one_fault _ _ _ f g)
