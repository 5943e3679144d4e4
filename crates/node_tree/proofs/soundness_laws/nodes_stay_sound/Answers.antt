use Rattle.node_tree.specs.declared.children.Place.TheVariants.{Last}
use Rattle.node_tree.specs.Fields.{fields_after_set}
use Rattle.node_tree.proofs.Sound.{fields_sound}
use Rattle.node_tree.proofs.SoundLaws.{add_sound, moved_sound, inserted_sound, taken_sound}
use Rattle.node_tree.proofs.MadeSound.{made_sound}
use Rattle.node_tree.proofs.Gifts.{given_sound}
use Rattle.node_tree.proofs.soundness_laws.nodes_stay_sound.Goals as goal

pub returns-clause-set : goal.returns-clause-set
returns-clause-set c = λ nodes n name v. fields_sound (fields_after_set name v) nodes n

pub returns-clause-add : goal.returns-clause-add
returns-clause-add c = add_sound

pub returns-clause-append : goal.returns-clause-append
returns-clause-append c = moved_sound Last

pub returns-clause-insert : goal.returns-clause-insert
returns-clause-insert c = inserted_sound

pub returns-clause-remove : goal.returns-clause-remove
returns-clause-remove c = taken_sound

pub returns-clause-make : goal.returns-clause-make
returns-clause-make c = λ nodes plans place owner. made_sound plans owner nodes place

pub returns-clause-give : goal.returns-clause-give
returns-clause-give c = given_sound
