-- What a handler of keys gets as a key's text.
use Rattle.std.specs.Prelude.{ℕ, List, ◌++◌, codes, encode_utf8}
use Rattle.chan_values.specs.declared.key.Key.{Key}
use Rattle.chan_values.specs.declared.key.Key.TheVariants as key

abbrev pub text_of : Key → List ℕ
text_of key.Up = codes "up"
text_of key.Down = codes "down"
text_of key.Left = codes "left"
text_of key.Right = codes "right"
text_of key.Back = codes "back"
text_of key.Play = codes "play"
text_of key.Ok = codes "OK"
text_of key.Rewind = codes "rewind"
text_of key.FastForward = codes "fastforward"
text_of key.Replay = codes "replay"
text_of key.Options = codes "options"
-- a typed character as it is
text_of (key.Literal c) = codes "Lit_" ++ encode_utf8 c
