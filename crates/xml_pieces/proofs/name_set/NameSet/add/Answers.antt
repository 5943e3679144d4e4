use Rattle.std.proofs.Common.{◌≡◌, ◌∙◌, ◌||◌, true, false, cond, ap, refl, string_bytes, Bool, not}
use Rattle.std.specs.HashSet.{contains_text}
use Rattle.std.specs.Str.{bytes_eq}
use Rattle.std.proofs.lemmas.Map.Text.{hash_set_updates_text}
use Rattle.xml_pieces.specs.Names.{is_in}
use Rattle.xml_pieces.proofs.name_set.NameSet.add.Goals as goal
use Rattle.xml_pieces.proofs.name_set.NameSet.add.Goals.{in-Ok, in-Err}

cond_or : (a b : Bool) → cond a true b ≡ (a || b)
cond_or true b = refl
cond_or false b = refl

pub returns-clause-answer : goal.returns-clause-answer
returns-clause-answer c =
    elim c.match-insert.branch [
      | in-Ok w ↦ rw w.result-is (w.in-Ok.ensures.added ∙ ap (λ bs. not (contains_text c.args.self.now.names bs)) c.into_string.ensures)
      | in-Err w ↦ rw w.result-is tt
    ]

pub returns-clause-after : goal.returns-clause-after
returns-clause-after c =
    elim c.match-insert.branch [
      | in-Ok w ↦ rw w.result-is (λ name. rw c.into_string.ensures at (hash_set_updates_text (string_bytes c.into_string.result) c.args.self.now.names c.insert.new.self _ w.in-Ok.ensures.updates name) ∙ cond_or (bytes_eq c.args.name name) (is_in c.args.self.now name))
      | in-Err w ↦ rw w.result-is tt
    ]
