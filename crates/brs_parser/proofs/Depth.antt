-- Nothing stands inside at the nesting number 0.
use Rattle.std.proofs.Common.{List, Err, refl}
use Rattle.brs_tokens.specs.Tok.{Tok}
use Rattle.brs_grammar.specs.ReadFunctions.{inside}
use Rattle.token_cursor.specs.declared.cursor.ParseError.TheVariants.{Fault}
use Rattle.expression_parser.specs.Nests.{Comes}
use Rattle.expression_parser.specs.declared.level.Part.{Part}
use Rattle.expression_parser.specs.declared.level.Part.TheVariants as part

pub nothing : (p : Part) (ts : List Tok) → Comes (inside 0) p ts (Err Fault) ts
unfolding inside
nothing part.Expression ts = refl
nothing part.Arguments ts = refl
nothing part.Items ts = refl
nothing part.Pairs ts = refl
nothing part.Negation ts = refl
nothing part.Minus ts = refl
nothing part.Block ts = refl
nothing part.Rest ts = refl
