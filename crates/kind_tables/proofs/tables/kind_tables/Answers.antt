use Rattle.std.proofs.Common.{◌∙◌, ap, sym, subst, map}
use Rattle.folder_rules.specs.Kinds.{all_kinds, kind_names}
use Rattle.folder_rules.specs.Scripts.{source_functions}
use Rattle.ordered_names.specs.Values.{value_of}
use Rattle.script_faults.specs.Rows.{Each}
use Rattle.kind_tables.specs.Rows.{AreFew, IsRow, named_number}
use Rattle.kind_tables.proofs.Along.{are_tables}
use Rattle.kind_tables.proofs.Numbers.{few}
use Rattle.kind_tables.proofs.tables.kind_tables.Goals as goal

pub kind_rows-requires-clause-few : goal.kind_rows-requires-clause-few
kind_rows-requires-clause-few c = subst AreFew (sym c.in_ok-table.ensures.all) (few c.args.sources.now c.requires.few)

pub source_names-requires : goal.source_names-requires
source_names-requires c = subst AreFew (sym c.in_ok-table.ensures.all) (few c.args.sources.now c.requires.few)

pub returns : goal.returns
returns c =
    let all = c.args.components.now in
    are_tables all c.args.sources.now _
    (record {
      rows = subst (λ sources. Each (IsRow sources all (kind_names all)) c.in_ok-rows.rows.items (all_kinds all)) c.in_ok-table.ensures.all c.in_ok-rows.ensures;
      places = c.in_ok-places.ensures;
      components_are = c.in_ok-components.ensures;
      source = λ name. c.in_ok-source.ensures name ∙ ap (λ sources. value_of (map named_number (source_functions sources)) name) c.in_ok-table.ensures.all;
    })
