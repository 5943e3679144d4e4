-- The table of operations: what each gives of its arguments and a store, a value and the store after it, or an error.
use Rattle.std.specs.Prelude.{List}
use Rattle.heap_meaning.specs.Values.{StoreValue}
use Rattle.heap_meaning.specs.Store.{Store}
use Rattle.plain_operations.specs.Functions.{function_result}
use Rattle.object_operations.specs.Answer.{Answer}
use Rattle.object_operations.specs.Arrays.{array_row}
use Rattle.object_operations.specs.Maps.{map_row, keys_row, append_keys_row}
use Rattle.object_operations.specs.Receivers.{on_map, on_message}
use Rattle.object_operations.specs.Members.{read_member_row, write_member_row, read_index_row, write_index_row}
use Rattle.object_operations.specs.Messages.{message_row}
use Rattle.object_operations.specs.Types.{type_row, create_row}
use Rattle.object_makers.specs.MessageData.{data_row}
use Rattle.brs_builtins.specs.Outcomes.{on_operands, operator_outcome, unary_outcome, method_outcome}
use Rattle.brs_builtins.specs.declared.operation.Operation.{Operation}
use Rattle.brs_builtins.specs.declared.operation.Operation.TheVariants.{Operator, UnaryOperator, ReadMember, WriteMember, ReadIndex, WriteIndex, Function, TypeName, CreateObject, PlainMethod, ArrayMethod, MapMethod, Keys, AppendEntries, MessageMethod, MessageData}

abbrev pub applied : Operation → List StoreValue → Store → Answer
applied (Operator op) = on_operands (operator_outcome op)
applied (UnaryOperator op) = on_operands (unary_outcome op)
applied ReadMember = read_member_row
applied WriteMember = write_member_row
applied ReadIndex = read_index_row
applied WriteIndex = write_index_row
applied (Function f) = on_operands (function_result f)
applied TypeName = type_row
applied CreateObject = create_row
applied (PlainMethod m) = on_operands (method_outcome m)
applied (ArrayMethod m) = array_row m
applied (MapMethod m) = map_row m
applied Keys = on_map keys_row
applied AppendEntries = on_map append_keys_row
applied (MessageMethod m) = message_row m
applied MessageData = on_message data_row
