use Rattle.channel_folder.proofs.FewFunctions.{few_functions}
use Rattle.channel_folder.proofs.laws.few_functions.Goals as goal

pub returns : goal.returns
returns c =
    few_functions
    (record {
      are = c.tokens_are_spelled.ensures;
      stand = c.tokens_stand_in_order.ensures;
      spelled = c.tokens_are_the_longest_pieces.ensures;
    })
