use Rattle.ecp_requests.proofs.Later.{front_answer}
use Rattle.ecp_requests.proofs.laws.pieces_make_no_difference.Goals as goal

pub returns : goal.returns
returns c bytes answer connection n = front_answer bytes answer connection n
