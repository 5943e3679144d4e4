-- The names of keys in a request.
-- Source: External Control Protocol (ECP), "Keypress key values".
use Rattle.std.specs.Prelude.{◌≡◌, ◌≢◌, ℕ, ◌≤◌, List, map, take, drop, codes, encode_utf8}
use Rattle.std.specs.Char.{IsScalar, to_ascii_lowercase}
use Rattle.percent_encoding.specs.Percent.{percent_decode}
use Rattle.chan_values.specs.declared.key.Key.TheVariants.{Up, Down, Left, Right, Back, Play, Ok, Rewind, FastForward, Replay, Options, Literal}
use Rattle.ecp_requests.specs.declared.key_name.KeyName.{KeyName}
use Rattle.ecp_requests.specs.declared.key_name.KeyName.TheVariants.{Key, Home, Backspace, Search, Enter}

-- a text with small letters for its ASCII capital letters
abbrev pub lowered : List ℕ → List ℕ
lowered text = map to_ascii_lowercase text

-- a name in small letters, and what stands before the character of a literal
abbrev pub small_name : KeyName → List ℕ
small_name (Key Up) = codes "up"
small_name (Key Down) = codes "down"
small_name (Key Left) = codes "left"
small_name (Key Right) = codes "right"
small_name (Key Back) = codes "back"
small_name (Key Play) = codes "play"
small_name (Key Ok) = codes "select"
small_name (Key Rewind) = codes "rev"
small_name (Key FastForward) = codes "fwd"
small_name (Key Replay) = codes "instantreplay"
small_name (Key Options) = codes "info"
small_name (Key (Literal c)) = codes "lit_"
small_name Home = codes "home"
small_name Backspace = codes "backspace"
small_name Search = codes "search"
small_name Enter = codes "enter"

-- a character from U+0020 on and other than U+007F
abbrev pub IsTyped : ℕ → Type 0
IsTyped c = IsScalar c × (32 ≤ c) × (c ≢ 127)

-- The text names this, whatever the case of its letters. The character of a literal stands as it is, or its bytes in percent-encoding.
abbrev pub IsNameOf : List ℕ → KeyName → Type 0
IsNameOf text (Key (Literal c)) = (lowered (take 4 text) ≡ codes "lit_") × IsTyped c × (percent_decode (drop 4 text) ≡ encode_utf8 c)
IsNameOf text name = lowered text ≡ small_name name
