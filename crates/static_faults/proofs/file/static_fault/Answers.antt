use Rattle.std.proofs.Common.{◌≡◌, ◌↔◌, [], IsNone, IfSome, Option, subst, sym, ap, ◌∙◌}
use Rattle.static_faults.specs.declared.fault.StaticFault.{StaticFault}
use Rattle.static_faults.specs.Faults.{faults}
use Rattle.static_faults.specs.First.{first_by_place, StandsFirst}
use Rattle.static_faults.proofs.Files.{none_is, first_stands}
use Rattle.static_faults.proofs.file.static_fault.Goals as goal

pub returns-clause-none : goal.returns-clause-none
returns-clause-none c =
    let all = faults c.args.tree.now.functions in
    let P : Option StaticFault → Type 0 = λ found. IsNone found ↔ (all ≡ []) in
    subst P (sym (c.first_of.ensures ∙ ap (λ functions. first_by_place (faults functions)) c.as_slice.ensures)) (none_is all)

pub returns-clause-first : goal.returns-clause-first
returns-clause-first c =
    let all = faults c.args.tree.now.functions in
    let P : Option StaticFault → Type 0 = λ found. IfSome found (λ fault. StandsFirst fault all) in
    subst P (sym (c.first_of.ensures ∙ ap (λ functions. first_by_place (faults functions)) c.as_slice.ensures)) (first_stands all)
