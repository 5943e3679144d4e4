use Rattle.std.proofs.Common.{◌≡◌, subst}
use Rattle.std.specs.Prelude.{IfOk}
use Rattle.channel_folder.specs.declared.contents.Contents.{Contents}
use Rattle.channel_folder.specs.Answers.{Finds}
use Rattle.channel_folder.specs.Contents.{Hold}
use Rattle.channel_folder.specs.FolderFaults.{IsFirstFault}
use Rattle.channel_folder.proofs.FewFunctions.{few_in}
use Rattle.channel_folder.proofs.OneFault.{finds_the_one}
use Rattle.channel_folder.proofs.check.check_folder.Goals as goal

pub returns-clause-few : goal.returns-clause-few
returns-clause-few g c =
    let hold = subst (λ fs. IfOk c.channel_of.result (Hold fs)) c.as_slice.ensures.files c.channel_of.ensures.held in
    few_in c.args.listing.now c.channel_of.result (c.few_functions.ensures c.args.listing.now) c.requires.sizes hold

pub returns-clause-all : goal.returns-clause-all
returns-clause-all g c found is =
    let first = subst (λ fs. Finds (IsFirstFault fs) c.channel_of.result) c.as_slice.ensures.files c.channel_of.ensures.first in
    finds_the_one Contents c.args.listing.now c.channel_of.result (c.one_first_fault.ensures c.args.listing.now) first found is
