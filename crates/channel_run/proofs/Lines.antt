-- One line of a script after another.
use Rattle.std.proofs.Common.{◌≡◌, ℕ, suc, Bool, true, false, cond, ◌+◌, ◌-◌, ◌<◌, ◌≤◌, nat_lt, List, [], ◌∷◌, ◌++◌, length, take, drop, Option, None, Some, if◌then◌else◌, not, refl, sym, ap, ◌∙◌, arith, append_assoc, append-nil, length-drop, subst}
use Rattle.std.specs.List.{before_first, after_first, position_or_len, position}
use Rattle.std.proofs.lemmas.Grind.{common_steps}
use Rattle.std.proofs.lemmas.List.{take_all, nil_from_length}
use Rattle.chan_values.specs.declared.event.Event.{Event}
use Rattle.channel_run.specs.Answer.{is_key}
use Rattle.channel_run.specs.Script.{is_line_feed, with_byte, lines_of, IsLineOf, IsBadLine, LinesSay, IsScriptOf}

take_one : (b : ℕ) (bytes : List ℕ) (n : ℕ) → take (1 + n) (b ∷ bytes) ≡ b ∷ take n bytes
take_one b bytes n = let e : 1 + n ≡ suc n = omega arith in ap (λ k. take k (b ∷ bytes)) e

drop_one : (b : ℕ) (bytes : List ℕ) (n : ℕ) → drop (1 + n + 1) (b ∷ bytes) ≡ drop (n + 1) bytes
drop_one b bytes n = let e : 1 + n + 1 ≡ suc (n + 1) = omega arith in ap (λ k. drop k (b ∷ bytes)) e

-- a byte before a first line and the lines after it
byte_before : (t : Bool) (b : ℕ) (bytes : List ℕ) (n : ℕ) → lines_of bytes ≡ take n bytes ∷ lines_of (drop (n + 1) bytes)
    → (if t then [] ∷ lines_of bytes else with_byte b (lines_of bytes))
    ≡ take (cond (not t) (1 + n) 0) (b ∷ bytes) ∷ lines_of (drop (cond (not t) (1 + n) 0 + 1) (b ∷ bytes))
byte_before true b bytes n e = refl
byte_before false b bytes n e =
    ap (with_byte b) e ∙ ap (λ line. line ∷ lines_of (drop (n + 1) bytes)) (sym (take_one b bytes n))
    ∙ ap (λ rest. take (1 + n) (b ∷ bytes) ∷ lines_of rest) (sym (drop_one b bytes n))

byte_alone : (t : Bool) (b : ℕ) → (if t then [] ∷ lines_of [] else with_byte b (lines_of []))
    ≡ take (cond (not t) (1 + 0) 0) (b ∷ []) ∷ lines_of (drop (cond (not t) (1 + 0) 0 + 1) (b ∷ []))
byte_alone true b = refl
byte_alone false b = refl

-- the first line, and the lines after it
pub lines-first : (bytes : List ℕ) → 0 < length bytes → lines_of bytes ≡ before_first is_line_feed bytes ∷ lines_of (after_first is_line_feed bytes)
lines-first [] h = absurd (omega arith)
lines-first (b ∷ []) h = byte_alone (is_line_feed b) b
lines-first (b ∷ c ∷ bytes) h =
    byte_before (is_line_feed b) b (c ∷ bytes) (position_or_len is_line_feed (c ∷ bytes)) (lines-first (c ∷ bytes) (omega arith))

found_at : (t : Bool) (n at : ℕ) → (if t then Some n else None) ≡ Some at → n ≡ at
found_at true n at e = cc
found_at false n at e = cc

not_found : (n all : ℕ) → (if nat_lt n all then Some n else None) ≡ None → all ≤ n
not_found n all e = grind (arith, common_steps)

-- the events before the first key
pub front_found : (events : List Event) (at : ℕ) → position is_key events ≡ Some at → take at events ≡ before_first is_key events
front_found events at e = ap (λ n. take n events) (sym (found_at _ _ at e))

pub front_missing : (events : List Event) → position is_key events ≡ None → events ≡ before_first is_key events
front_missing events e = sym (take_all _ events (not_found _ _ e))

pub line_found : (script : List ℕ) (at : ℕ) → position is_line_feed script ≡ Some at → take at script ≡ before_first is_line_feed script
line_found script at e = ap (λ n. take n script) (sym (found_at _ _ at e))

pub lines_found : (script : List ℕ) (at : ℕ) → position is_line_feed script ≡ Some at
    → take (length script - (at + 1)) (drop (at + 1) script) ≡ after_first is_line_feed script
lines_found script at e =
    take_all _ _ (omega (arith, length-drop (at + 1) script)) ∙ ap (λ n. drop (n + 1) script) (sym (found_at _ _ at e))

pub line_last : (script : List ℕ) → position is_line_feed script ≡ None → script ≡ before_first is_line_feed script
line_last script e = sym (take_all _ script (not_found _ _ e))

pub lines_last : (script : List ℕ) → position is_line_feed script ≡ None
    → take (length script - length script) (drop (length script) script) ≡ after_first is_line_feed script
lines_last script e =
    let passed : length script ≤ position_or_len is_line_feed script = not_found _ _ e in
    grind (arith, common_steps)

pub lines_shorter : (script : List ℕ) → 0 < length script → length (after_first is_line_feed script) < length script
lines_shorter script h = omega (arith, length-drop (position_or_len is_line_feed script + 1) script)

-- lines say these events, and nothing else
pub record Settles (lines : List (List ℕ)) (events : List Event) (bad : Bool) : Type 0 where
  pub says : LinesSay lines events bad
  pub only : (others : List Event) (b : Bool) → LinesSay lines others b → (others ≡ events) × (b ≡ bad)

settles_none : Settles [] [] false
settles_none = record { says = refl; only = only }
  where
    only : (others : List Event) (b : Bool) → LinesSay [] others b → (others ≡ []) × (b ≡ false)
    only [] b h = (refl, h)
    only (other ∷ others) b h = absurd h

settles_bad : (line : List ℕ) (lines : List (List ℕ)) → IsBadLine line → Settles (line ∷ lines) [] true
settles_bad line lines is_bad = record { says = (is_bad, refl); only = only }
  where
    only : (others : List Event) (b : Bool) → LinesSay (line ∷ lines) others b → (others ≡ []) × (b ≡ true)
    only [] b h = (refl, h.1)
    only (other ∷ others) b h = absurd (is_bad other h.0)

settles_more : (line : List ℕ) (lines : List (List ℕ)) (event : Event) (events : List Event) (bad : Bool) → IsLineOf event line → ((other : Event) → IsLineOf other line → other ≡ event)
    → Settles lines events bad → Settles (line ∷ lines) (event ∷ events) bad
settles_more line lines event events bad is unique rest = record { says = (is, rest.says); only = only }
  where
    only : (others : List Event) (b : Bool) → LinesSay (line ∷ lines) others b → (others ≡ event ∷ events) × (b ≡ bad)
    only [] b h = absurd (h.0 event is)
    only (other ∷ others) b h =
        let same = rest.only others b h.1 in
        (ap (λ e. e ∷ others) (unique other h.0) ∙ ap (λ es. event ∷ es) same.0, same.1)

-- what the rest of a script settles, settles the script, after these events
abbrev pub Leads : List Event → List ℕ → List ℕ → Type 0
Leads done rest all = (events : List Event) (bad : Bool) → Settles (lines_of rest) events bad → Settles (lines_of all) (done ++ events) bad

pub leads_none : (done : List Event) (all : List ℕ) → done ≡ [] → Leads done all all
leads_none done all none = λ events bad settles. subst (λ es. Settles (lines_of all) (es ++ events) bad) (sym none) settles

first_line : (rest line lines : List ℕ) → 0 < length rest → line ≡ before_first is_line_feed rest → lines ≡ after_first is_line_feed rest → lines_of rest ≡ line ∷ lines_of lines
first_line rest line lines some is more =
    lines-first rest some ∙ ap (λ l. l ∷ lines_of (after_first is_line_feed rest)) (sym is) ∙ ap (λ ls. line ∷ lines_of ls) (sym more)

pub leads_more : (done : List Event) (rest all line lines : List ℕ) (event : Event) → Leads done rest all → 0 < length rest → line ≡ before_first is_line_feed rest → lines ≡ after_first is_line_feed rest
    → IsLineOf event line → ((other : Event) → IsLineOf other line → Some event ≡ Some other) → Leads (done ++ event ∷ []) lines all
leads_more done rest all line lines event before some is more says found = λ events bad settles.
    let here = settles_more line (lines_of lines) event events bad says (λ other h. let e : other ≡ event = cc (found other h) in e) settles in
    subst (λ es. Settles (lines_of all) es bad) (sym (append_assoc done (event ∷ []) events))
    (before (event ∷ events) bad (subst (λ ls. Settles ls (event ∷ events) bad) (sym (first_line rest line lines some is more)) here))

settled : (bytes : List ℕ) (events : List Event) (bad : Bool) → Settles (lines_of bytes) events bad → IsScriptOf bytes (record { events = events; has_bad_line = bad })
settled bytes events bad settles = record {
  says = settles.says;
  only = λ other h.
      let same = settles.only other.events other.has_bad_line h in
      ap (λ es. record { events = es; has_bad_line = other.has_bad_line }) same.0 ∙ ap (λ b. record { events = events; has_bad_line = b }) same.1;
}

-- a bad line ends what the script says
pub ends_bad : (done : List Event) (rest all line lines : List ℕ) → Leads done rest all → 0 < length rest → line ≡ before_first is_line_feed rest → lines ≡ after_first is_line_feed rest
    → ((other : Event) → IsLineOf other line → ◌≡◌ {A = Option Event} None (Some other)) → IsScriptOf all (record { events = done; has_bad_line = true })
ends_bad done rest all line lines before some is more found =
    let here = settles_bad line (lines_of lines) (λ other h. let e : None ≡ Some other = found other h in absurd (cc)) in
    settled all done true
    (subst (λ es. Settles (lines_of all) es true) (append-nil done)
    (before [] true (subst (λ ls. Settles ls [] true) (sym (first_line rest line lines some is more)) here)))

-- the end of the script
pub ends_whole : (done : List Event) (rest all : List ℕ) → Leads done rest all → length rest ≡ 0 → IsScriptOf all (record { events = done; has_bad_line = false })
ends_whole done rest all before none =
    settled all done false
    (subst (λ es. Settles (lines_of all) es false) (append-nil done)
    (before [] false (subst (λ r. Settles (lines_of r) [] false) (sym (nil_from_length rest none)) settles_none)))
