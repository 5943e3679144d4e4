use Rattle.std.proofs.Common.{◌≡◌, [], ◌++◌, sym, subst}
use Rattle.std.proofs.lemmas.Result.{err_from_is_err_and}
use Rattle.channel_folder.specs.Contents.{Hold}
use Rattle.channel_folder.proofs.FileTurns.{halves_of, halves_hold, first_half, second_half}
use Rattle.channel_folder.proofs.files.read_files.Goals as goal

pub returns-in_err-answer-clause-fault : goal.returns-in_err-answer-clause-fault
returns-in_err-answer-clause-fault g c = λ f e.
    let first = c.split_at.result.0.now in
    let second = c.split_at.result.1.now in
    let halves = halves_of c.args.files.now first second _ c.split_at.ensures.front c.split_at.ensures.back in
    let p = err_from_is_err_and c.from_residual.result c.from_residual.ensures.1 in
    first_half c.args.files.now first second halves f (c.in_err-answer.ensures.fault f [] second (cc (p.1, p.2, e)) c.new-contents.ensures)

pub returns-in_err-add_files-clause-fault : goal.returns-in_err-add_files-clause-fault
returns-in_err-add_files-clause-fault g c = λ f e.
    let first = c.split_at.result.0.now in
    let second = c.split_at.result.1.now in
    let halves = halves_of c.args.files.now first second _ c.split_at.ensures.front c.split_at.ensures.back in
    let p = err_from_is_err_and c.from_residual-in_err-add_files.result c.from_residual-in_err-add_files.ensures.1 in
    second_half c.args.files.now first second halves f
    (c.in_err-add_files.ensures.fault f first [] (cc (p.1, p.2, e)) (c.in_ok-answer.ensures.held [] c.new-contents.ensures))

pub returns-clause-held : goal.returns-clause-held
returns-clause-held g c =
    let first = c.split_at.result.0.now in
    let second = c.split_at.result.1.now in
    let halves = halves_of c.args.files.now first second _ c.split_at.ensures.front c.split_at.ensures.back in
    halves_hold c.args.files.now first second halves c.add_files-answer.new.contents c.add_files.new.contents
    (λ before none. c.in_ok-answer.ensures.held before (subst (Hold before) (sym c.new-contents.ensures) none))
    (λ before hold. c.in_ok-add_files.ensures.held before hold)
