use Rattle.std.proofs.Common.{◌≡◌, false, eqb, drop, get_or, sym, ◌∙◌, arith}
use Rattle.std.proofs.lemmas.Grind.{common_steps}
use Rattle.std.specs.List.{list_any}
use Rattle.folder_files.specs.Manifest.{is_space}
use Rattle.folder_files.proofs.ManifestLines.{good_from_front, comment_line, other_line, empty_line}
use Rattle.folder_files.proofs.manifest.is_good_line.Goals as goal

pub returns-then-first-eq35 : goal.returns-then-first-eq35
returns-then-first-eq35 c =
    let line = c.loop-rest.rest.now in
    let no_space : is_space (get_or line 0 0) ≡ false = cc in
    comment_line line c.in-len1-up.len_at_least no_space c.if-first-eq35.true ∙ sym (good_from_front c.args.line.now ∙ c.loop-rest.invariant)

pub returns-else-first-eq35 : goal.returns-else-first-eq35
returns-else-first-eq35 c =
    let line = c.loop-rest.rest.now in
    let no_space : is_space (get_or line 0 0) ≡ false = cc in
    let equals : c.has_equals.result ≡ list_any (λ b. eqb b 61) (drop 1 line) = grind (arith, common_steps) in
    equals
    ∙ other_line line c.in-len1-up.len_at_least no_space c.if-first-eq35.false
    ∙ sym (good_from_front c.args.line.now ∙ c.loop-rest.invariant)

pub returns : goal.returns
returns c = empty_line c.loop-rest.rest.now c.in_default.len_below ∙ sym (good_from_front c.args.line.now ∙ c.loop-rest.invariant)
