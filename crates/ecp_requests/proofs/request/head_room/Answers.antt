use Rattle.std.proofs.Common.{sym, arith}
use Rattle.std.proofs.lemmas.List.{length-take-le, take_all}
use Rattle.ecp_requests.proofs.request.head_room.Goals as goal

pub slice_bounds-result-end : goal.slice_bounds-result-end
slice_bounds-result-end c = sym (length-take-le 4096 c.args.bytes.now (omega arith))

pub returns-else-bytes-gt-LONGEST_HEAD : goal.returns-else-bytes-gt-LONGEST_HEAD
returns-else-bytes-gt-LONGEST_HEAD c = sym (take_all 4096 c.args.bytes.now (omega arith))
