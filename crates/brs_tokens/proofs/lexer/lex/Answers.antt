use Rattle.std.proofs.Common.{◌≡◌, [], sym, arith}
use Rattle.std.proofs.lemmas.Grind.{common_steps}
use Rattle.std.proofs.lemmas.List.{nil_from_length}
use Rattle.brs_tokens.proofs.Lexing.{lexing-bad, lexing-pass, lexing-end, lexing-stop, lexing-fault, lexing-piece}
use Rattle.brs_tokens.proofs.lexer.lex.Goals as goal

pub returns-in-Err : goal.returns-in-Err
returns-in-Err c = lexing-bad _ _ _ _ _ _ _ _ _ c.pieces.invariant c.split_at.ensures.front c.in-Err.ensures.bad c.in-Err.ensures.err

pub returns-then-is_empty : goal.returns-then-is_empty
returns-then-is_empty c =
    let h = c.in-Ok.ensures in
    let is = lexing-pass _ _ _ _ _ _ _ _ _ _ c.pieces.invariant c.split_at.ensures.front c.split_at.ensures.back h.good h.ok h.some h.line h.column in
    let none : c.split_at.result.1.now ≡ [] = nil_from_length _ (grind (arith, common_steps)) in
    lexing-end _ _ _ _ _ _ is none

pub returns-then-good-eq0 : goal.returns-then-good-eq0
returns-then-good-eq0 c =
    let h = c.in-Ok.ensures in
    let is = lexing-pass _ _ _ _ _ _ _ _ _ _ c.pieces.invariant c.split_at.ensures.front c.split_at.ensures.back h.good h.ok h.some h.line h.column in
    lexing-stop _ _ _ _ _ _ _ is c.if-good-eq0.true (grind (arith, common_steps)) c.fault_at.ensures

pub returns-in-Err-piece_at : goal.returns-in-Err-piece_at
returns-in-Err-piece_at c =
    let h = c.in-Ok.ensures in
    let is = lexing-pass _ _ _ _ _ _ _ _ _ _ c.pieces.invariant c.split_at.ensures.front c.split_at.ensures.back h.good h.ok h.some h.line h.column in
    lexing-fault _ _ _ _ _ _ _ _ is c.if-good-eq0.false (grind (arith, common_steps)) (sym c.in-Err-piece_at.ensures.piece) c.fault_at-in-Err-piece_at.ensures

pub pieces-preserved : goal.pieces-preserved
pieces-preserved c =
    let h = c.in-Ok.ensures in
    let g = c.in-Ok-piece_at.ensures in
    let is = lexing-pass _ _ _ _ _ _ _ _ _ _ c.pieces.invariant c.split_at.ensures.front c.split_at.ensures.back h.good h.ok h.some h.line h.column in
    lexing-piece _ _ _ _ _ _ _ _ is c.if-good-eq0.false (grind (arith, common_steps)) (sym g.piece) g.some g.within (grind (arith, common_steps))
