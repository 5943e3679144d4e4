-- What the redex of a statement does.
use Rattle.std.specs.Prelude.{List}
use Rattle.brs_tokens.specs.declared.place.Place.{Place}
use Rattle.chan_values.specs.declared.error_code.ErrorCode.{ErrorCode}
use Rattle.brs_grammar.specs.Form.{Text}
use Rattle.heap_meaning.specs.Values.{StoreValue}
use Rattle.heap_meaning.specs.Store.{Store}
use Rattle.brs_meaning.specs.Locals.{Locals}
use Rattle.brs_meaning.specs.Request.{Request}
use Rattle.brs_meaning.specs.Running.{Under, Hole, Task}

pub data Did : Type 0 where
  -- the statement is over: the locals, the store, and what is still to do
  Goes : Locals → Store → List Task → Did
  -- a value becomes an operand of this statement
  Continues : StoreValue → Under → Store → Did
  -- an answer is asked for, which stands there
  Awaits : Request → Hole → Did
  Prints : Text → Did
  Returns : StoreValue → Did
  Breaks : ErrorCode → Place → Did
