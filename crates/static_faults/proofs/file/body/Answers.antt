use Rattle.std.proofs.Common.{sym, ap, ◌∙◌}
use Rattle.static_faults.specs.First.{first_by_place}
use Rattle.static_faults.specs.Parts.{body_faults, rest_faults}
use Rattle.static_faults.proofs.Walked.{named_function_is, named_sub_is}
use Rattle.static_faults.proofs.file.body.Goals as goal

pub returns-in-Function : goal.returns-in-Function
returns-in-Function c =
    let a = c.in-Function in
    c.function.ensures
    ∙ ap (λ gives. first_by_place (rest_faults gives a.rest)) c.function_gives_value.ensures
    ∙ ap first_by_place (sym (ap body_faults a.is ∙ named_function_is a.field-0 a.field-1 a.rest))

pub returns-in-Sub : goal.returns-in-Sub
returns-in-Sub c =
    let a = c.in-Sub in
    c.function-in-Sub.ensures
    ∙ ap (λ gives. first_by_place (rest_faults gives a.rest)) c.sub_gives_value.ensures
    ∙ ap first_by_place (sym (ap body_faults a.is ∙ named_sub_is a.field-0 a.field-1 a.rest))
