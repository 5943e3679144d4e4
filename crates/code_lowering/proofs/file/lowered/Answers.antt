use Rattle.std.proofs.Common.{sym, subst, arith}
use Rattle.std.specs.Prelude.{length}
use Rattle.code_lowering.specs.Lowered.{IsFunction}
use Rattle.code_lowering.proofs.Snoc.{file_begin, file_more, file_done}
use Rattle.code_lowering.proofs.Files as files
use Rattle.code_lowering.proofs.file.lowered.Goals as goal

pub named-requires : goal.named-requires
named-requires c = subst IsFunction (sym c.draft-item.is) (c.requires c.loop-draft.draft-index _ (omega arith))

pub loop-draft-init : goal.loop-draft-init
loop-draft-init c = record {
  scopes = c.new-code.ensures.scopes;
  stands = file_begin c.args.drafts.now _ _ c.new-code.ensures.named c.new-code.ensures.anonymous;
}

pub loop-draft-preserved : goal.loop-draft-preserved
loop-draft-preserved c = record {
  scopes = c.loop-draft.invariant.scopes;
  stands = file_more _ _ _ _ _ _ _ _ (omega arith) c.draft-item.is c.loop-draft.invariant.stands c.in_ok-made.ensures.file c.in_ok-made.ensures.stands c.in_ok-push.ensures.ok;
}

pub returns-clause-functions : goal.returns-clause-functions
returns-clause-functions c = file_done _ _ _ _ (omega arith) c.loop-draft.invariant.stands

pub returns-clause-stands : goal.returns-clause-stands
returns-clause-stands c = files.stands _ _ (file_done _ _ _ _ (omega arith) c.loop-draft.invariant.stands)
