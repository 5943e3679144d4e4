use Rattle.std.proofs.Common.{◌≡◌, ◌∙◌, ℕ, List, ap, map}
use Rattle.std.proofs.lemmas.Result.{IfOk-weaker}
use Rattle.folder_rules.specs.Names.{is_among, is_known}
use Rattle.folder_rules.specs.Scripts.{own_functions}
use Rattle.script_faults.specs.Functions.{functions_of}
use Rattle.script_faults.specs.Sources.{all_sources}
use Rattle.script_faults.proofs.rows.own_names.Goals as goal

pub returns : goal.returns
returns c =
    IfOk-weaker c.names_of.result (λ names. (name : List ℕ) → is_known names name ≡ is_among (map (λ f. f.name) (functions_of c.as_slice.result.now)) name)
    (λ names. (name : List ℕ) → is_known names name ≡ is_among (map (λ f. f.name) (own_functions (all_sources c.args.table.now) c.args.component.now)) name)
    (λ names e name. e name ∙ ap (λ l. is_among (map (λ f. f.name) (functions_of l)) name) c.as_slice.ensures.value ∙ ap (λ l. is_among (map (λ f. f.name) l) name) c.in_ok-own.ensures)
    c.names_of.ensures
