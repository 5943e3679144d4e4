use Rattle.std.proofs.Common.{string_bytes}
use Rattle.std.proofs.lemmas.Map.Text.{btree_map_updates_text}
use Rattle.ordered_names.proofs.draft.NameDraft.put.Goals as goal

pub returns-in-Ok-clause-ok : goal.returns-in-Ok-clause-ok
returns-in-Ok-clause-ok g c = λ name. rw c.into_string.ensures at (btree_map_updates_text (string_bytes c.into_string.result) c.args.self.now.values c.insert.new.self _ c.in-Ok.ensures.updates name)
