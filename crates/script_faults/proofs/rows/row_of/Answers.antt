use Rattle.script_faults.proofs.rows.row_of.Goals as goal

pub returns : goal.returns
returns c = record { functions = c.in_ok-names.ensures; base = c.in_ok-base.ensures }
