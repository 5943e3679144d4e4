use Rattle.std.proofs.Common.{◌||◌, true, ap, ◌∙◌}
use Rattle.std.specs.Str.{bytes_eq}
use Rattle.std.specs.String.{string_bytes}
use Rattle.std.specs.BTreeSet.{contains_text}
use Rattle.std.proofs.lemmas.Map.Text.{btree_set_updates_text}
use Rattle.first_form.proofs.KnownNames.{or_from_cond}
use Rattle.first_form.proofs.names.add.Goals as goal
use Rattle.first_form.proofs.names.add.Goals.{in-Ok-insert, in-Err-insert}

pub returns : goal.returns
returns c = elim c.match-insert.branch [
  | in-Ok-insert w ↦
      rw w.result-is (λ name.
      btree_set_updates_text (string_bytes c.in-Ok.name) c.args.known.now c.insert.new.self true w.in-Ok-insert.ensures.updates name
      ∙ or_from_cond (bytes_eq (string_bytes c.in-Ok.name) name) (contains_text c.args.known.now name)
      ∙ ap (λ t. bytes_eq t name || contains_text c.args.known.now name) c.in-Ok.ensures.ok)
  | in-Err-insert w ↦ rw w.result-is tt
]
