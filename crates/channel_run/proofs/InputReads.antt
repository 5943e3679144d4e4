-- What one read after another takes of the input.
use Rattle.std.proofs.Common.{◌≡◌, ℕ, Bool, true, false, ◌+◌, ◌<◌, ◌⊎◌, inl, inr, if◌then◌else◌, List, [], ◌∷◌, ◌++◌, length, take, Option, None, Some, Result, refl, sym, ap, ◌∙◌, subst, arith, append-nil}
use Rattle.std.proofs.KnownBytes.{Consumes-trans, Consumes-nil}
use Rattle.std.proofs.lemmas.List.Sums.{fold-append}
use Rattle.std.proofs.lemmas.Grind.{common_steps}
use Rattle.std.specs.Io.KnownBytes.{Consumes, IsAtEnd}
use Rattle.channel_run.specs.Input.{ReadsAll, ReadsLongLine}
use Rattle.chan_values.specs.declared.event.Event.{Event}
use Rattle.channel_run.specs.declared.script.Script.{Script}
use Rattle.channel_run.specs.Script.{is_line_feed, with_byte, lines_of, IsLineOf, IsBadLine, LinesSay, IsScriptOf, unended_after, unended_length}
use Rattle.std.specs.Option.{ForSome}
use Rattle.outside.specs.Causes.{CountsFault}
use Rattle.outside.specs.declared.faults.FilesFault.{FilesFault}

pub consumes_none : (a : Option (List ℕ)) → Consumes a a []
consumes_none = Consumes-nil

pub consumes_more : (a b c : Option (List ℕ)) (xs ys : List ℕ) → Consumes a b xs → Consumes b c ys → Consumes a c (xs ++ ys)
consumes_more = Consumes-trans

-- a read of nothing, at the end
pub reads_all : (a b c : Option (List ℕ)) (bytes piece : List ℕ) → Consumes a b bytes → Consumes b c (take 0 piece) → IsAtEnd c → ReadsAll a c bytes
reads_all a b c bytes piece before none end =
    record { consumed = subst (Consumes a c) (append-nil bytes) (consumes_more a b c bytes [] before none); end = end }

pub reads_long : (a b : Option (List ℕ)) (bytes : List ℕ) (unended : ℕ) → Consumes a b bytes → unended ≡ unended_length bytes → 16777216 < unended → ReadsLongLine a b bytes
reads_long a b bytes unended before is long = record { consumed = before; long = subst (λ n. 16777216 < n) is long }

pub open_more : (bytes piece : List ℕ) (unended : ℕ) → unended ≡ unended_length bytes → unended_after unended piece ≡ unended_length (bytes ++ piece)
open_more bytes piece unended is = ap (λ n. unended_after n piece) is ∙ sym (fold-append _ 0 bytes piece)

-- the lines of a front and of the whole, where this many more bytes stand before the first, and a line that the front doesn't end
-- is too long
abbrev LongIn : ℕ → List (List ℕ) → List (List ℕ) → Type 0
LongIn n [] all = 16777216 < n
LongIn n (line ∷ lines) [] = ⊥
LongIn n (line ∷ lines) (other ∷ all) = ((line ≡ other) × LongIn 0 lines all) ⊎ ((16777216 < n + length line) × (16777216 < n + length other))

long_byte : (n b : ℕ) (lines all : List (List ℕ)) → LongIn (n + 1) lines all → LongIn n (with_byte b lines) (with_byte b all)
long_byte n b [] [] long = inr (omega arith, omega arith)
long_byte n b [] (other ∷ all) long = inr (omega arith, omega arith)
long_byte n b (line ∷ lines) [] long = absurd long
long_byte n b (line ∷ lines) (other ∷ all) (inl same) = inl (ap (λ l. b ∷ l) same.0, same.1)
long_byte n b (line ∷ lines) (other ∷ all) (inr long) = inr (omega (arith, long.0), omega (arith, long.1))

long_step : (t : Bool) (n b : ℕ) (bytes : List ℕ) (lines all : List (List ℕ)) → (16777216 < unended_after 0 bytes → LongIn 0 lines all)
    → (16777216 < unended_after (n + 1) bytes → LongIn (n + 1) lines all) → 16777216 < unended_after (if t then 0 else n + 1) bytes
    → LongIn n (if t then [] ∷ lines else with_byte b lines) (if t then [] ∷ all else with_byte b all)
long_step true n b bytes lines all ended going long = inl (refl, ended long)
long_step false n b bytes lines all ended going long = long_byte n b lines all (going long)

long_lines : (n : ℕ) (taken rest : List ℕ) → 16777216 < unended_after n taken → LongIn n (lines_of taken) (lines_of (taken ++ rest))
long_lines n [] rest long = long
long_lines n (b ∷ taken) rest long =
    long_step (is_line_feed b) n b taken (lines_of taken) (lines_of (taken ++ rest)) (long_lines 0 taken rest) (long_lines (n + 1) taken rest) long

long_bad : (line : List ℕ) → 16777216 < 0 + length line → IsBadLine line
long_bad line long event is = omega (arith, is.short)

-- both say the same
front_says : (lines all : List (List ℕ)) → LongIn 0 lines all → (events : List Event) (bad : Bool) → LinesSay lines events bad → LinesSay all events bad
front_says [] all long events bad h = absurd (omega arith)
front_says (line ∷ lines) [] long events bad h = absurd long
front_says (line ∷ lines) (other ∷ all) (inl same) [] bad h = (λ event is. h.0 event (subst (IsLineOf event) (sym same.0) is), h.1)
front_says (line ∷ lines) (other ∷ all) (inl same) (event ∷ events) bad h = (subst (IsLineOf event) same.0 h.0, front_says lines all same.1 events bad h.1)
front_says (line ∷ lines) (other ∷ all) (inr long) [] bad h = (long_bad other long.1, h.1)
front_says (line ∷ lines) (other ∷ all) (inr long) (event ∷ events) bad h = absurd (long_bad line long.0 event h.0)

whole_says : (lines all : List (List ℕ)) → LongIn 0 lines all → (events : List Event) (bad : Bool) → LinesSay all events bad → LinesSay lines events bad
whole_says [] all long events bad h = absurd (omega arith)
whole_says (line ∷ lines) [] long events bad h = absurd long
whole_says (line ∷ lines) (other ∷ all) (inl same) [] bad h = (λ event is. h.0 event (subst (IsLineOf event) same.0 is), h.1)
whole_says (line ∷ lines) (other ∷ all) (inl same) (event ∷ events) bad h = (subst (IsLineOf event) (sym same.0) h.0, whole_says lines all same.1 events bad h.1)
whole_says (line ∷ lines) (other ∷ all) (inr long) [] bad h = (long_bad line long.0, h.1)
whole_says (line ∷ lines) (other ∷ all) (inr long) (event ∷ events) bad h = absurd (long_bad other long.1 event h.0)

-- the long line is a bad one, if none before it is
front_bad : (lines all : List (List ℕ)) → LongIn 0 lines all → (events : List Event) (bad : Bool) → LinesSay lines events bad → bad ≡ true
front_bad [] all long events bad h = absurd (omega arith)
front_bad (line ∷ lines) [] long events bad h = absurd long
front_bad (line ∷ lines) (other ∷ all) (inl same) [] bad h = h.1
front_bad (line ∷ lines) (other ∷ all) (inl same) (event ∷ events) bad h = front_bad lines all same.1 events bad h.1
front_bad (line ∷ lines) (other ∷ all) (inr long) [] bad h = h.1
front_bad (line ∷ lines) (other ∷ all) (inr long) (event ∷ events) bad h = absurd (long_bad line long.0 event h.0)

all_told : (all bytes : List ℕ) (new : Option (List ℕ)) → Consumes (Some all) new bytes → IsAtEnd new → all ≡ bytes
all_told all bytes None taken end = absurd taken
all_told all bytes (Some left) taken end = taken ∙ ap (λ l. bytes ++ l) end ∙ append-nil bytes

pub script_told : (old new : Option (List ℕ)) (bytes : List ℕ) (script : Script) → ReadsAll old new bytes → IsScriptOf bytes script → ForSome old (λ all. IsScriptOf all script)
script_told old new bytes script read is all told =
    subst (λ b. IsScriptOf b script) (sym (all_told all bytes new (subst (λ o. Consumes o new bytes) told read.consumed) read.end)) is

long_script : (taken rest : List ℕ) (script : Script) → 16777216 < unended_length taken → IsScriptOf taken script → IsScriptOf (taken ++ rest) script
long_script taken rest script long is =
    let lines = long_lines 0 taken rest long in
    record {
      says = front_says (lines_of taken) (lines_of (taken ++ rest)) lines script.events script.has_bad_line is.says;
      only = λ other h. is.only other (whole_says (lines_of taken) (lines_of (taken ++ rest)) lines other.events other.has_bad_line h);
    }

long_front : (all taken : List ℕ) (new : Option (List ℕ)) (script : Script) → Consumes (Some all) new taken → 16777216 < unended_length taken → IsScriptOf taken script → IsScriptOf all script
long_front all taken None script before long is = absurd before
long_front all taken (Some left) script before long is = subst (λ b. IsScriptOf b script) (sym before) (long_script taken left script long is)

pub long_script_told : (old new : Option (List ℕ)) (bytes : List ℕ) (script : Script) → ReadsLongLine old new bytes → IsScriptOf bytes script → ForSome old (λ all. IsScriptOf all script)
long_script_told old new bytes script read is all told = long_front all bytes new script (subst (λ o. Consumes o new bytes) told read.consumed) read.long is

pub long_is_bad : (old new : Option (List ℕ)) (bytes : List ℕ) (script : Script) → ReadsLongLine old new bytes → IsScriptOf bytes script → script.has_bad_line ≡ true
long_is_bad old new bytes script read is = front_bad (lines_of bytes) (lines_of (bytes ++ [])) (long_lines 0 bytes [] read.long) script.events script.has_bad_line is.says

-- what no fault comes from, after a read
pub cause_after : {T : Type 0} (r : Result T FilesFault) (before now : ℕ) → now ≡ before → ((faults : ℕ) → CountsFault faults faults r) → CountsFault before now r
cause_after r before now same cause = subst (λ n. CountsFault n now r) same (cause now)
