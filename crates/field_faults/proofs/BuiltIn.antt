-- The words of the built-in kinds say what their table says.
use Rattle.std.proofs.Common.{ℕ, List, [], ◌∷◌, ◌++◌, Option, Some, None, refl, codes}
use Rattle.field_types.specs.declared.types.FieldType.TheVariants as t
use Rattle.folder_rules.specs.Kinds.{Field, field, built_in_kinds, built_in_names}
use Rattle.field_faults.proofs.KindRows.{SayKinds}

abbrev pub built_in_words : List (Option ℕ × List Field)
built_in_words =
    (None, field (codes "id") t.String ∷ (field (codes "focusable") t.Boolean ∷ (field (codes "focusedchild") t.Node ∷ [])))
    ∷ ((Some 0, field (codes "visible") t.Boolean ∷ [])
    ∷ ((Some 1, [])
    ∷ ((Some 1, [])
    ∷ ((Some 1, field (codes "text") t.String ∷ (field (codes "color") t.String ∷ []))
    ∷ ((Some 1, field (codes "width") t.Integer ∷ (field (codes "height") t.Integer ∷ (field (codes "color") t.String ∷ [])))
    ∷ ((Some 1, field (codes "uri") t.String ∷ (field (codes "width") t.Integer ∷ (field (codes "height") t.Integer ∷ [])))
    ∷ ((Some 0, field (codes "title") t.String ∷ (field (codes "description") t.String ∷ (field (codes "url") t.String ∷ [])))
    ∷ ((Some 0, field (codes "functionname") t.String ∷ (field (codes "control") t.String ∷ (field (codes "state") t.String ∷ []))) ∷ []))))))))

pub built_in_say : (names : List (List ℕ)) → SayKinds (built_in_names ++ names) built_in_words built_in_kinds
unfolding built_in_kinds built_in_names
built_in_say names = ((refl, refl), ((refl, refl), ((refl, refl), ((refl, refl), ((refl, refl), ((refl, refl), ((refl, refl), ((refl, refl), ((refl, refl), tt)))))))))
