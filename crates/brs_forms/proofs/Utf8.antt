-- The test for UTF-8.
use Rattle.std.proofs.Common.{◌≡◌, ℕ, Bool, true, false, List, [], refl, sym, ap, ◌∙◌}
use Rattle.std.specs.Str.{IsUtf8, is_utf8}
use Rattle.std.proofs.lemmas.Str.{IsUtf8-from_is_utf8, is_utf8-from_IsUtf8}

pub is_text : (bs : List ℕ) → IsUtf8 bs → true ≡ is_utf8 bs
is_text bs h = sym (is_utf8-from_IsUtf8 bs h)

not_true : (bs : List ℕ) (b : Bool) → is_utf8 bs ≡ b → ¬ (IsUtf8 bs) → b ≡ false
not_true bs true e h = absurd (h (IsUtf8-from_is_utf8 bs e))
not_true bs false e h = refl

pub is_no_text : (bs : List ℕ) → ¬ (IsUtf8 bs) → false ≡ is_utf8 bs
is_no_text bs h = sym (not_true bs (is_utf8 bs) refl h)

pub from_text : (bs : List ℕ) → is_utf8 bs ≡ true → IsUtf8 bs
from_text = IsUtf8-from_is_utf8
