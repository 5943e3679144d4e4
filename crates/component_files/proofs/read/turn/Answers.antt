use Rattle.component_files.proofs.Turns.{piece_shorter, on_ok}
use Rattle.component_files.proofs.read.turn.Goals as goal

pub returns-clause-shorter : goal.returns-clause-shorter
returns-clause-shorter c = on_ok c.advance.result _ (piece_shorter _ _ _ c.in_ok-piece.ensures)
