-- Manifests, good and bad, computed.
use Rattle.std.proofs.Common.{◌≡◌, true, false, [], ◌∷◌, ◌++◌, refl}
use Rattle.std.specs.Prelude.{codes}
use Rattle.folder_files.specs.Manifest.{is_good_manifest}

empty_manifest : is_good_manifest [] ≡ true
empty_manifest = refl

pair_and_comment : is_good_manifest (codes "title=Demo" ++ 13 ∷ 10 ∷ 9 ∷ 10 ∷ codes " # about") ≡ true
pair_and_comment = refl

value_missing : is_good_manifest (codes "title=") ≡ true
value_missing = refl

key_missing : is_good_manifest (codes "a=b" ++ 10 ∷ codes " =b") ≡ false
key_missing = refl

sign_missing : is_good_manifest (codes "title" ++ 10 ∷ codes "a=b") ≡ false
sign_missing = refl

not_utf8 : is_good_manifest (255 ∷ 61 ∷ []) ≡ true
not_utf8 = refl
