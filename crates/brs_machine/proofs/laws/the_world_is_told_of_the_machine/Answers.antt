use Rattle.brs_machine.proofs.Telling.{idle_alike, at_work_alike, place_alike, home_alike}
use Rattle.brs_machine.proofs.laws.the_world_is_told_of_the_machine.Goals as goal

pub returns-clause-idle : goal.returns-clause-idle
returns-clause-idle c = idle_alike

pub returns-clause-at_work : goal.returns-clause-at_work
returns-clause-at_work c = at_work_alike

pub returns-clause-place : goal.returns-clause-place
returns-clause-place c = place_alike

pub returns-clause-home : goal.returns-clause-home
returns-clause-home c = home_alike
