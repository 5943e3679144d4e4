use Rattle.std.proofs.Common.{sym, ◌∙◌, arith}
use Rattle.std.proofs.lemmas.Grind.{common_steps}
use Rattle.brs_tokens.proofs.LengthsLemmas.{text_at-plain, text_at-line, text_at-pair, text_at-close, text_at-last, text_at-end}
use Rattle.brs_tokens.proofs.scan.text_len.Goals as goal
use Rattle.brs_tokens.proofs.scan.text_len.Goals.{else-at-bytes-via-then-at-bytes+else-bytes-at-eq34-2, else-at-bytes-via-else-at-bytes}

pub loop-at-preserved-then-bytes-at-eq34-2 : goal.loop-at-preserved-then-bytes-at-eq34-2
loop-at-preserved-then-bytes-at-eq34-2 c =
    let bs = c.args.bytes.now in
    let step = text_at-pair bs c.loop-at.at c.loop-at.found (omega arith) (grind (arith, common_steps)) (grind (arith, common_steps)) in
    (omega arith, omega arith, sym step ∙ c.loop-at.invariant.2)

pub returns-else-at-bytes-clause-len : goal.returns-else-at-bytes-clause-len
returns-else-at-bytes-clause-len c =
    let bs = c.args.bytes.now in
    let kept = c.loop-at.invariant.2 in
    elim c.else-at-bytes.branch [
      | else-at-bytes-via-then-at-bytes+else-bytes-at-eq34-2 w ↦
          let step = text_at-close bs c.loop-at.at (omega arith) (grind (arith, common_steps)) (grind (arith, common_steps)) in
          rw step at kept
      | else-at-bytes-via-else-at-bytes w ↦
          let step = text_at-last bs c.loop-at.at (omega arith) (omega arith) (grind (arith, common_steps)) in
          rw step at kept
    ]

pub returns-then-bytes-at-eq10-clause-len : goal.returns-then-bytes-at-eq10-clause-len
returns-then-bytes-at-eq10-clause-len c =
    let step = text_at-line c.args.bytes.now c.loop-at.at (omega arith) (grind (arith, common_steps)) in
    let kept = c.loop-at.invariant.2 in
    rw step at kept

pub loop-at-preserved : goal.loop-at-preserved
loop-at-preserved c =
    let bs = c.args.bytes.now in
    let step = text_at-plain bs c.loop-at.at c.loop-at.found (omega arith) (grind (arith, common_steps)) (grind (arith, common_steps)) in
    (omega arith, c.loop-at.invariant.1, sym step ∙ c.loop-at.invariant.2)

pub returns-clause-len : goal.returns-clause-len
returns-clause-len c =
    let step = text_at-end c.args.bytes.now c.loop-at.at (omega arith) in
    let kept = c.loop-at.invariant.2 in
    rw step at kept
