use Rattle.machine_match.proofs.Replies.{idle_same, work_same, want_place_same, want_home_same}
use Rattle.machine_match.proofs.Waiting.{wait_same}
use Rattle.machine_match.proofs.laws.both_tell_the_same.Goals as goal

pub returns-clause-idle : goal.returns-clause-idle
returns-clause-idle c = idle_same

pub returns-clause-work : goal.returns-clause-work
returns-clause-work c = work_same

pub returns-clause-place : goal.returns-clause-place
returns-clause-place c = want_place_same

pub returns-clause-home : goal.returns-clause-home
returns-clause-home c = want_home_same

pub returns-clause-wait : goal.returns-clause-wait
returns-clause-wait c = wait_same
