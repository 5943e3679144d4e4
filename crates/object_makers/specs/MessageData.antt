-- `getData()` of a message: what it carries, laid down anew.
use Rattle.std.specs.Prelude.{List, []}
use Rattle.chan_values.specs.View.{tree_of}
use Rattle.chan_values.specs.declared.error_code.ErrorCode.TheVariants.{E6}
use Rattle.chan_values.specs.declared.message.Message as m
use Rattle.heap_meaning.specs.Values.{StoreValue}
use Rattle.heap_meaning.specs.Store.{Store}
use Rattle.copy_meaning.specs.Laying.{with_tree, value_of_tree}
use Rattle.object_operations.specs.Answer.{Answer, Gives, Raises}

abbrev pub data_row : m.Message → List StoreValue → Store → Answer
data_row message [] store = Gives (value_of_tree store (tree_of message.payload)) (with_tree store (tree_of message.payload))
data_row message _ store = Raises E6
