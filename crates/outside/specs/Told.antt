-- What the laws of the forms in memory rest on: that what is told is what they hold. These lemmas stand here and not in proofs/
-- because ghost members of src/ cite them.
use Rattle.std.specs.Prelude.{◌≡◌, List, [], None, Some, unwrap_or}
use Rattle.std.proofs.Common.{ap, subst}
use Rattle.outside.specs.declared.files.FileBytes.{FileBytes}
use Rattle.outside.specs.declared.door.DoorState.{DoorState}
use Rattle.outside.specs.Folder.{IsMap}
use Rattle.outside.specs.Door.{Connections, IsKept}

pub told_map : (files told : List FileBytes) → IsMap files → Some files ≡ Some told → IsMap told
told_map files told up is = subst IsMap (ap (λ o. unwrap_or o []) is) up

pub told_connections : (state : DoorState) (held told : Connections) → IsKept state held → Some held ≡ Some told → IsKept state told
told_connections state held told kept is = subst (IsKept state) (ap (λ o. unwrap_or o held) is) kept

pub told_of_none : (told : List FileBytes) → None ≡ Some told → IsMap told
told_of_none told is = cc
