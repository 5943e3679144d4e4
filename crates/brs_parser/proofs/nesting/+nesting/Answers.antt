use Rattle.std.proofs.Common.{◌≡◌, Err, sym, subst, arith}
use Rattle.brs_grammar.specs.ReadFunctions.{inside}
use Rattle.token_cursor.specs.declared.cursor.ParseError.TheVariants.{Fault}
use Rattle.expression_parser.specs.Nests.{Comes}
use Rattle.brs_parser.proofs.Depth.{nothing}
use Rattle.brs_parser.proofs.nesting.+nesting.Goals as goal

pub returns-then-depth-eq0 : goal.returns-then-depth-eq0
returns-then-depth-eq0 t c =
    let none : c.args.depth ≡ 0 = omega arith in
    rw c.refuse.ensures (subst (λ n. Comes (inside n) c.args.part c.args.tokens.now (Err Fault) c.args.tokens.now) (sym none) (nothing c.args.part c.args.tokens.now))
