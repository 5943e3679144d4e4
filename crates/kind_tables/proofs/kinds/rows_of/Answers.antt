use Rattle.std.proofs.Common.{◌<◌, [], ◌∷◌, ◌+◌, ◌++◌, List, ℕ, Option, None, sym, subst, length, map, take, get_or, arith, Bor}
use Rattle.folder_rules.proofs.Lists.{get_or_self, map_more}
use Rattle.script_faults.specs.Rows.{Each}
use Rattle.script_faults.proofs.KindRows.{each_more}
use Rattle.kind_tables.specs.Rows.{IsOfBase, base_of}
use Rattle.kind_tables.proofs.kinds.rows_of.Goals as goal

pub loop-base-preserved : goal.loop-base-preserved
loop-base-preserved c =
    let bases : List (Option (ℕ × Bor (List ℕ))) = c.args.bases.now in
    let i : ℕ = c.loop-base.base-index in
    let here : i < length bases = omega arith in
    let base : Option (ℕ × Bor (List ℕ)) = get_or bases i None in
    subst (λ l. Each IsOfBase l (map base_of (take (i + 1) bases))) (sym c.in_ok-push_row.ensures)
    (subst (Each IsOfBase (c.loop-base.rows.items ++ c.in_ok-row.row ∷ [])) (sym (map_more base_of bases i base here (get_or_self bases i None here)))
    (each_more IsOfBase c.loop-base.rows.items (map base_of (take i bases)) c.in_ok-row.row (base_of base) c.loop-base.invariant c.in_ok-row.ensures))
