use Rattle.std.proofs.Common.{ap, [], ◌∷◌, ◌++◌, ◌∙◌}
use Rattle.object_operations.proofs.Listing.{only_one}
use Rattle.object_operations.proofs.TypeLaws.{names_type}
use Rattle.object_operations.proofs.Told.{with_arguments}
use Rattle.object_operations.proofs.types.call_type.Goals as goal

pub returns-clause-answer : goal.returns-clause-answer
returns-clause-answer c =
    let list = only_one c.args.arguments.now c.v-item.result c.in-len1.len_at_least c.in-len1.len_below c.v-item.is in
    let says = c.in_ok-push_str.ensures.ok in
    with_arguments (c.v-item.result ∷ []) list (names_type c.args.heap.now c.make_text.new.self c.v-item.result c.in_ok-make_text.field-0 _ (says ∙ ap (λ t. t ++ c.type_name_of.result.now) c.new-text.ensures ∙ c.type_name_of.ensures) c.in_ok-make_text.ensures.made)
