use Rattle.xml_pieces.proofs.Pieces.{piece_again}
use Rattle.xml_pieces.proofs.laws.written_pieces_are_read.Goals as goal

pub returns : goal.returns
returns c = piece_again
