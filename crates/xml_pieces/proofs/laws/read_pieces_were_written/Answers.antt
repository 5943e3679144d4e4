use Rattle.xml_pieces.proofs.Pieces.{piece_taken}
use Rattle.xml_pieces.proofs.laws.read_pieces_were_written.Goals as goal

pub returns : goal.returns
returns c = piece_taken
