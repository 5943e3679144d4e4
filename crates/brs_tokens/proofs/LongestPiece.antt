-- The longest piece, by its first byte.
use Rattle.std.proofs.Common.{◌≡◌, ◌≢◌, ℕ, zero, suc, ◌+◌, ◌<◌, true, false, List, ◌∷◌, take, Option, Some, None, refl, ap, ◌∙◌, arith}
use Rattle.std.proofs.lemmas.Bool.{ne_eqb}
use Rattle.std.specs.List.{prefix_len, list_all}
use Rattle.brs_tokens.specs.Classes.{is_blank, stays_in_line, is_digit, begins_name, is_name_byte}
use Rattle.brs_tokens.specs.Pieces.{piece_kind, where_, is_empty, is_digits, is_hex_end, is_text_end, is_sign, word_kind}
use Rattle.brs_tokens.specs.Lengths.{digits_len, hex_len, text_len, sign_len, word_piece}
use Rattle.brs_tokens.specs.Spelling.{longest_piece}
use Rattle.brs_tokens.proofs.Longest.{longest-some, longest-none, run, alone, digits}
use Rattle.brs_tokens.proofs.LongestText.{hex-some, hex-none, text-some, text-none, sign-some, sign-none}
use Rattle.brs_tokens.proofs.LongestWord.{longest-word}
use Rattle.brs_tokens.specs.declared.piece.Piece.{Piece}
use Rattle.brs_tokens.specs.declared.piece.PieceKind.{PieceKind}
use Rattle.brs_tokens.specs.declared.piece.PieceKind.TheVariants.{Blank, Comment, Token}
use Rattle.brs_tokens.specs.declared.token.TokenKind.TheVariants.{Newline, Number, Text, Sign}

abbrev pub piece : PieceKind → ℕ → Piece
piece kind len = record { kind = kind; len = len }

-- which row the first byte is in
pub record IsOther (b : ℕ) : Type 0 where
  pub blank : is_blank b ≡ false
  pub newline : b ≢ 10
  pub apostrophe : b ≢ 39

pub record IsUnnamed (b : ℕ) : Type 0 where
  pub other : IsOther b
  pub name : begins_name b ≡ false

pub record IsUndigited (b : ℕ) : Type 0 where
  pub unnamed : IsUnnamed b
  pub digit : is_digit b ≡ false

one_more : (kind : PieceKind) (n : ℕ) → Some (piece kind (suc n)) ≡ Some (piece kind (1 + n))
one_more kind n = let e : suc n ≡ 1 + n = omega arith in rw e refl

pub kind-blank : (b : ℕ) (cs : List ℕ) → is_blank b ≡ true → piece_kind (b ∷ cs) ≡ where_ (is_empty cs) Blank
unfolding piece_kind
kind-blank b cs h = rw h refl

pub piece-blank : (b : ℕ) (bs : List ℕ) → is_blank b ≡ true → longest_piece (b ∷ bs) ≡ Some (piece Blank 1)
piece-blank b bs h = longest-some b bs is_empty Blank 0 (λ cs. kind-blank b cs h) (alone bs)

pub kind-newline : (cs : List ℕ) → piece_kind (10 ∷ cs) ≡ where_ (is_empty cs) (Token Newline)
unfolding piece_kind
kind-newline cs = refl

pub piece-newline : (bs : List ℕ) → longest_piece (10 ∷ bs) ≡ Some (piece (Token Newline) 1)
piece-newline bs = longest-some 10 bs is_empty (Token Newline) 0 kind-newline (alone bs)

pub kind-comment : (cs : List ℕ) → piece_kind (39 ∷ cs) ≡ where_ (list_all stays_in_line cs) Comment
unfolding piece_kind
kind-comment cs = refl

pub piece-comment : (bs : List ℕ) → longest_piece (39 ∷ bs) ≡ Some (piece Comment (1 + prefix_len stays_in_line bs))
piece-comment bs = longest-some 39 bs (list_all stays_in_line) Comment (prefix_len stays_in_line bs) kind-comment (run stays_in_line bs) ∙ one_more Comment (prefix_len stays_in_line bs)

pub kind-word : (b : ℕ) (cs : List ℕ) → IsOther b → begins_name b ≡ true → piece_kind (b ∷ cs) ≡ word_kind (b ∷ cs)
unfolding piece_kind
kind-word b cs is h = rw (is.blank, ne_eqb b 10 is.newline, ne_eqb b 39 is.apostrophe, h) refl

begins-len : (b : ℕ) (bs : List ℕ) → begins_name b ≡ true → 0 < prefix_len is_name_byte (b ∷ bs)
begins-len b bs h = rw h (omega arith)

pub piece-word : (b : ℕ) (bs : List ℕ) → IsOther b → begins_name b ≡ true → longest_piece (b ∷ bs) ≡ Some (word_piece (b ∷ bs))
piece-word b bs is h = longest-word (b ∷ bs) spells (begins-len b bs h)
  where
    spells : (m : ℕ) → 0 < m → piece_kind (take m (b ∷ bs)) ≡ word_kind (take m (b ∷ bs))
    spells zero l = absurd (omega arith)
    spells (suc m) l = kind-word b (take m bs) is h

pub kind-decimal : (b : ℕ) (cs : List ℕ) → IsUnnamed b → is_digit b ≡ true → piece_kind (b ∷ cs) ≡ where_ (is_digits is_digit cs) (Token Number)
unfolding piece_kind
kind-decimal b cs is h = rw (is.other.blank, ne_eqb b 10 is.other.newline, ne_eqb b 39 is.other.apostrophe, is.name, h) refl

pub piece-decimal : (b : ℕ) (bs : List ℕ) → IsUnnamed b → is_digit b ≡ true → longest_piece (b ∷ bs) ≡ Some (piece (Token Number) (1 + digits_len is_digit bs))
piece-decimal b bs is h =
    longest-some b bs (is_digits is_digit) (Token Number) (digits_len is_digit bs) (λ cs. kind-decimal b cs is h) (digits is_digit bs) ∙ one_more (Token Number) (digits_len is_digit bs)

pub kind-hex : (cs : List ℕ) → piece_kind (38 ∷ cs) ≡ where_ (is_hex_end cs) (Token Number)
unfolding piece_kind
kind-hex cs = refl

-- a piece of the first byte and n more, or none where n is 0
abbrev pub first_and : PieceKind → ℕ → Option Piece
first_and kind zero = None
first_and kind (suc n) = Some (piece kind (1 + suc n))

pub piece-hex : (bs : List ℕ) → longest_piece (38 ∷ bs) ≡ first_and (Token Number) (hex_len bs)
piece-hex bs = by_len (hex_len bs) refl
  where
    by_len : (n : ℕ) → hex_len bs ≡ n → longest_piece (38 ∷ bs) ≡ first_and (Token Number) n
    by_len zero e = longest-none 38 bs is_hex_end (Token Number) kind-hex (hex-none bs e)
    by_len (suc n) e = longest-some 38 bs is_hex_end (Token Number) (suc n) kind-hex (hex-some bs n e) ∙ one_more (Token Number) (suc n)

pub kind-text : (cs : List ℕ) → piece_kind (34 ∷ cs) ≡ where_ (is_text_end cs) (Token Text)
unfolding piece_kind
kind-text cs = refl

pub piece-text : (bs : List ℕ) → longest_piece (34 ∷ bs) ≡ first_and (Token Text) (text_len bs)
piece-text bs = by_len (text_len bs) refl
  where
    by_len : (n : ℕ) → text_len bs ≡ n → longest_piece (34 ∷ bs) ≡ first_and (Token Text) n
    by_len zero e = longest-none 34 bs is_text_end (Token Text) kind-text (text-none bs e)
    by_len (suc n) e = longest-some 34 bs is_text_end (Token Text) (suc n) kind-text (text-some bs n e) ∙ one_more (Token Text) (suc n)

pub kind-sign : (b : ℕ) (cs : List ℕ) → IsUndigited b → b ≢ 38 → b ≢ 34 → piece_kind (b ∷ cs) ≡ where_ (is_sign (b ∷ cs)) (Token Sign)
unfolding piece_kind
kind-sign b cs is amp quote =
    rw (is.unnamed.other.blank, ne_eqb b 10 is.unnamed.other.newline, ne_eqb b 39 is.unnamed.other.apostrophe, is.unnamed.name, is.digit, ne_eqb b 38 amp, ne_eqb b 34 quote) refl

-- a piece of n bytes, or none where n is 0
abbrev pub whole : PieceKind → ℕ → Option Piece
whole kind zero = None
whole kind (suc n) = Some (piece kind (suc n))

pub piece-sign : (b : ℕ) (bs : List ℕ) → IsUndigited b → b ≢ 38 → b ≢ 34 → longest_piece (b ∷ bs) ≡ whole (Token Sign) (sign_len (b ∷ bs))
piece-sign b bs is amp quote = by_len (sign_len (b ∷ bs)) refl
  where
    by_len : (n : ℕ) → sign_len (b ∷ bs) ≡ n → longest_piece (b ∷ bs) ≡ whole (Token Sign) n
    by_len zero e = longest-none b bs (λ cs. is_sign (b ∷ cs)) (Token Sign) (λ cs. kind-sign b cs is amp quote) (sign-none b bs e)
    by_len (suc n) e = longest-some b bs (λ cs. is_sign (b ∷ cs)) (Token Sign) n (λ cs. kind-sign b cs is amp quote) (sign-some b bs n e)

pub first_and-from_cases : (r : Option Piece) (kind : PieceKind) (n : ℕ) → (n ≡ 0 → r ≡ None) → (0 < n → r ≡ Some (piece kind (1 + n))) → r ≡ first_and kind n
first_and-from_cases r kind zero none some = none refl
first_and-from_cases r kind (suc n) none some = some (omega arith)

pub piece-sign-none : (b : ℕ) (bs : List ℕ) → IsUndigited b → b ≢ 38 → b ≢ 34 → sign_len (b ∷ bs) ≡ 0 → longest_piece (b ∷ bs) ≡ None
piece-sign-none b bs is amp quote e = piece-sign b bs is amp quote ∙ ap (whole (Token Sign)) e

pub piece-sign-some : (b : ℕ) (bs : List ℕ) (n : ℕ) → IsUndigited b → b ≢ 38 → b ≢ 34 → sign_len (b ∷ bs) ≡ n → n ≢ 0 → longest_piece (b ∷ bs) ≡ Some (piece (Token Sign) n)
piece-sign-some b bs zero is amp quote e some = absurd (some refl)
piece-sign-some b bs (suc n) is amp quote e some = piece-sign b bs is amp quote ∙ ap (whole (Token Sign)) e
