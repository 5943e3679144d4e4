use Rattle.std.proofs.Common.{◌≡◌, ◌+◌, ◌<◌, ◌^◌, List, ◌++◌, length, map, subst, sym, ap, ◌∙◌, arith}
use Rattle.brs_code.specs.declared.function.Function.{Function}
use Rattle.brs_code.specs.Join.{moved}
use Rattle.brs_code.specs.Rule.{IsFilePart}
use Rattle.brs_code.proofs.Joined.{joined_keeps}
use Rattle.brs_code.proofs.code.Code.join.Goals as goal

pub returns-in-Ok-clause-file_part : goal.returns-in-Ok-clause-file_part
returns-in-Ok-clause-file_part c a b =
    let code = c.args.self.now in
    let file = c.args.file in
    let more = map (moved c.args.path (length code.anonymous)) in
    let named : c.append.new.self ≡ code.named ++ more file.named =
    c.in_ok-append.ensures.ok ∙ ap (λ l. code.named ++ l) (c.move_behind.ensures ∙ ap (λ before. map (moved c.args.path before) file.named) c.len-before.ensures) in
    let anonymous : c.append-2.new.self ≡ code.anonymous ++ more file.anonymous =
    c.in-Ok.ensures.ok ∙ ap (λ l. code.anonymous ++ l) (c.move_behind-2.ensures ∙ ap (λ before. map (moved c.args.path before) file.anonymous) c.len-before.ensures) in
    let fits : length code.anonymous + length file.anonymous < 2 ^ 64 = omega (arith, c.requires) in
    let N : List Function → Type 0 = λ l. IsFilePart (record { named = l; anonymous = c.append-2.new.self; scopes = code.scopes }) in
    let A : List Function → Type 0 = λ l. IsFilePart (record { named = code.named ++ more file.named; anonymous = l; scopes = code.scopes }) in
    subst N (sym named) (subst A (sym anonymous) (joined_keeps code c.args.path file fits a b))
