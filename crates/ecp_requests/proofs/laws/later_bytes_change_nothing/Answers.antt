use Rattle.ecp_requests.proofs.Later.{answer_later}
use Rattle.ecp_requests.proofs.laws.later_bytes_change_nothing.Goals as goal

pub returns : goal.returns
returns c bytes later answer is decided = answer_later bytes later answer is decided
