use Rattle.field_plans.proofs.Read.{is_read, read_is}
use Rattle.field_plans.proofs.laws.a_value_is_what_the_type_reads.Goals as goal

pub returns : goal.returns
returns c = λ holds text value. (is_read holds text value, read_is holds text value)
