-- The keys of the remote control as a script line spells them.
-- Source: External Control Protocol (ECP), "Keypress key values"; onKeyEvent, "Key values".
use Rattle.std.specs.Prelude.{ℕ, List, ◌++◌, codes, encode_utf8}
use Rattle.std.specs.Char.{IsScalar}
use Rattle.script_text.specs.Literals.{escaped}
use Rattle.chan_values.specs.declared.key.Key.{Key}
use Rattle.chan_values.specs.declared.key.Key.TheVariants.{Up, Down, Left, Right, Back, Play, Ok, Rewind, FastForward, Replay, Options, Literal}

-- the word of a key, and what stands before the character of a literal
abbrev pub key_word : Key → List ℕ
key_word Up = codes "up"
key_word Down = codes "down"
key_word Left = codes "left"
key_word Right = codes "right"
key_word Back = codes "back"
key_word Play = codes "play"
key_word Ok = codes "OK"
key_word Rewind = codes "rewind"
key_word FastForward = codes "fastforward"
key_word Replay = codes "replay"
key_word Options = codes "options"
key_word (Literal c) = codes "Lit_"

-- a key as a script line spells it
abbrev pub key_text : Key → List ℕ
key_text (Literal c) = codes "Lit_" ++ escaped (encode_utf8 c)
key_text key = key_word key

-- the number of a literal is that of a character
abbrev pub IsKey : Key → Type 0
IsKey (Literal c) = IsScalar c
IsKey key = Unit {0}
