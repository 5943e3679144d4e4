-- The spelling of a source is what its longest pieces and the table of lexical faults say.
use Rattle.std.proofs.Common.{◌≡◌, ◌≢◌, ℕ, ◌+◌, ◌-◌, ◌<◌, ◌≤◌, ◌⊎◌, inl, inr, List, [], ◌∷◌, ◌++◌, length, get_or, take, drop, Result, Ok, Err, refl, sym, ap, ◌∙◌, subst, append_assoc, append-nil, length-append, arith}
use Rattle.std.specs.Prelude.{IsUtf8}
use Rattle.std.specs.Char.{encode_utf8}
use Rattle.std.specs.Str.Lossy.{utf8_valid_len}
use Rattle.std.proofs.Math.Seq.{take-append_seam, drop-append_seam}
use Rattle.std.proofs.lemmas.Bool.Decides.{eqb_tells}
use Rattle.std.proofs.lemmas.Grind.{flat_map-append}
use Rattle.std.proofs.lemmas.List.{take-append-drop, length-drop, length-take-le, take_all}
use Rattle.std.proofs.lemmas.Str.{IsUtf8-nil, utf8_valid_len-IsUtf8}
use Rattle.brs_tokens.specs.Tok.{Tok}
use Rattle.brs_tokens.specs.Kinds.{Begins}
use Rattle.brs_tokens.specs.FaultTable.{IsCharacter, Row}
use Rattle.brs_tokens.specs.Cuts.{WrittenPiece, slices, Cut, place_behind, tokens_of, mark_of, behind_mark, AreTokens, IsPieceStart, IsLookedFor, StandsAt, ReachTo, IsFirstFault}
use Rattle.brs_tokens.specs.Spelling.{piece_at, place_after, fault_at, with_tokens, spelling_from, spelling, mark_len}
use Rattle.brs_tokens.specs.declared.piece.Piece.{Piece}
use Rattle.brs_tokens.specs.declared.place.Place.{Place}
use Rattle.brs_tokens.specs.declared.lex_fault.LexFault.{LexFault}
use Rattle.brs_tokens.specs.declared.lex_fault.LexKind.{LexKind}
use Rattle.brs_tokens.specs.declared.lex_fault.LexKind.TheVariants.{NotUtf8, BadCharacter, OpenText, FloatLiteral, Slash, NumberTooLarge}
use Rattle.brs_tokens.proofs.SpellingLemmas.{spelling-nil, spelling-pass, spelling-fault}
use Rattle.brs_tokens.proofs.TokensLemmas.{mark-within}
use Rattle.brs_tokens.proofs.Rows.{kind_tells, row-found, row-begins, fault-meant}
use Rattle.brs_tokens.proofs.Places.{place-more, place-start}
use Rattle.brs_tokens.proofs.Fronts.{IsTextFront, nothing-begins, text-front, front-split, text-further, text-stops, text-goes_on}
use Rattle.brs_tokens.proofs.Cutting.{piece-within, over-cut, cut-bytes, cut-reaches, IsOver, IsFaulty, Outcome, outcome, over-spelled, over-short, cut-more}
use Rattle.brs_tokens.proofs.CutText.{cut-text}

-- the byte order mark

bom : (src : List ℕ) → get_or src 0 0 ≡ 0xEF → get_or src 1 0 ≡ 0xBB → get_or src 2 0 ≡ 0xBF → take 3 src ≡ 0xEF ∷ 0xBB ∷ 0xBF ∷ []
bom [] a b c = absurd (omega arith)
bom (x ∷ []) a b c = absurd (omega arith)
bom (x ∷ y ∷ []) a b c = absurd (omega arith)
bom (x ∷ y ∷ z ∷ src) a b c = cc

bom-text : IsUtf8 (0xEF ∷ 0xBB ∷ 0xBF ∷ [])
unfolding encode_utf8
bom-text = (0xFEFF ∷ [], (refl, refl))

mark-text : (src : List ℕ) → IsUtf8 (mark_of src)
mark-text src = elim (eqb_tells (get_or src 0 0) 0xEF) [
  | inr other ↦ rw other.0 IsUtf8-nil
  | inl first ↦ elim (eqb_tells (get_or src 1 0) 0xBB) [
    | inr other ↦ rw (first.0, other.0) IsUtf8-nil
    | inl second ↦ elim (eqb_tells (get_or src 2 0) 0xBF) [
      | inr other ↦ rw (first.0, second.0, other.0) IsUtf8-nil
      | inl third ↦ rw (first.0, second.0, third.0) (subst IsUtf8 (sym (bom src first.1 second.1 third.1)) bom-text)
    ]
  ]
]

mark-fits : (src : List ℕ) → mark_len src ≤ utf8_valid_len src
mark-fits src = by_order (grind arith)
  where
    by_order : (mark_len src ≤ utf8_valid_len src) ⊎ (utf8_valid_len src < mark_len src) → mark_len src ≤ utf8_valid_len src
    by_order (inl fits) = fits
    by_order (inr past) = absurd ((text-front src).longest (mark_len src) past (mark-within src) (mark-text src))

mark-size : (src : List ℕ) → length (mark_of src) ≡ mark_len src
mark-size src = length-take-le (mark_len src) src (mark-within src)

mark-split : (src : List ℕ) → src ≡ mark_of src ++ behind_mark src
mark-split src = sym (take-append-drop (mark_len src) src)

-- how many bytes behind the mark are text
abbrev good_len : List ℕ → ℕ
good_len src = utf8_valid_len src - mark_len src

spelling-behind : (src : List ℕ) (first_line : ℕ) → spelling src first_line ≡ spelling_from (good_len src) 0 (place_behind first_line (mark_of src)) (behind_mark src)
spelling-behind src first_line =
    spelling-pass (mark_len src) (utf8_valid_len src) (record { line = first_line; column = 1 }) src (mark-within src) (mark-fits src)
    ∙ ap (λ p. spelling_from (good_len src) 0 (place_after p (mark_of src)) (behind_mark src)) (place-start first_line)
    ∙ ap (λ p. spelling_from (good_len src) 0 p (behind_mark src)) (place-more first_line [] (mark_of src))

spelling-cut : (src : List ℕ) (first_line : ℕ) (pieces : List WrittenPiece) (rest : List ℕ) → Cut (behind_mark src) pieces rest → length (slices pieces) ≤ good_len src
    → spelling src first_line
    ≡ with_tokens (tokens_of first_line (mark_of src) pieces) (spelling_from (good_len src - length (slices pieces)) 0 (place_behind first_line (mark_of src ++ slices pieces)) rest)
spelling-cut src first_line pieces rest cut fits =
    spelling-behind src first_line ∙ over-cut first_line (good_len src) (mark_of src) (behind_mark src) pieces rest cut fits

-- the source is what is cut and its rest
cut-split : (src : List ℕ) (pieces : List WrittenPiece) (rest : List ℕ) → Cut (behind_mark src) pieces rest → src ≡ (mark_of src ++ slices pieces) ++ rest
cut-split src pieces rest cut =
    mark-split src ∙ ap (λ t. mark_of src ++ t) (cut-bytes (behind_mark src) pieces rest cut) ∙ sym (append_assoc (mark_of src) (slices pieces) rest)

cut-size : (src : List ℕ) (pieces : List WrittenPiece) → length (mark_of src ++ slices pieces) ≡ mark_len src + length (slices pieces)
cut-size src pieces = length-append (mark_of src) (slices pieces) ∙ ap (λ n. n + length (slices pieces)) (mark-size src)

-- all tokens

spelling-all : (src : List ℕ) (first_line : ℕ) (pieces : List WrittenPiece) → Cut (behind_mark src) pieces [] → length (slices pieces) ≤ good_len src
    → spelling src first_line ≡ Ok (tokens_of first_line (mark_of src) pieces)
spelling-all src first_line pieces cut fits =
    spelling-cut src first_line pieces [] cut fits
    ∙ ap (with_tokens (tokens_of first_line (mark_of src) pieces)) (spelling-nil (good_len src - length (slices pieces)) 0 (place_behind first_line (mark_of src ++ slices pieces)))
    ∙ ap Ok (append-nil (tokens_of first_line (mark_of src) pieces))

pub tokens-spelled : (src : List ℕ) (first_line : ℕ) (tokens : List Tok) → AreTokens src first_line tokens → spelling src first_line ≡ Ok tokens
tokens-spelled src first_line tokens are =
    let whole = utf8_valid_len-IsUtf8 src are.utf8 in
    let split = ap length (cut-split src are.pieces [] are.cut) in
    let size = cut-size src are.pieces in
    let more = length-append (mark_of src ++ slices are.pieces) [] in
    spelling-all src first_line are.pieces are.cut (omega arith) ∙ ap Ok (sym are.tokens_are)

whole-text : (src : List ℕ) (pieces : List WrittenPiece) → Cut (behind_mark src) pieces [] → length (slices pieces) ≤ good_len src → IsUtf8 src
whole-text src pieces cut fits =
    let split = ap length (cut-split src pieces [] cut) in
    let size = cut-size src pieces in
    let more = length-append (mark_of src ++ slices pieces) [] in
    let mark = mark-fits src in
    subst IsUtf8 (take_all (utf8_valid_len src) src (omega arith)) (text-front src).text

-- a fault

faulty-spelled : (src : List ℕ) (first_line : ℕ) (o : Outcome (good_len src) (behind_mark src)) (f : IsFaulty (good_len src - length (slices o.pieces)) o.rest)
    → spelling src first_line ≡ Err (fault_at f.kind (place_behind first_line (mark_of src ++ slices o.pieces)))
faulty-spelled src first_line o f =
    spelling-cut src first_line o.pieces o.rest o.cut o.within
    ∙ ap (with_tokens (tokens_of first_line (mark_of src) o.pieces))
    (spelling-fault (good_len src - length (slices o.pieces)) (place_behind first_line (mark_of src ++ slices o.pieces)) o.rest f.kind f.more f.some f.at)

bad-spelled : (src : List ℕ) (first_line : ℕ) (o : Outcome (good_len src) (behind_mark src)) → IsOver (good_len src - length (slices o.pieces)) o.rest
    → spelling src first_line ≡ Err (fault_at NotUtf8 (place_behind first_line (take (utf8_valid_len src) src)))
bad-spelled src first_line o over =
    let size = cut-size src o.pieces in
    let mark = mark-fits src in
    let left : utf8_valid_len src - length (mark_of src ++ slices o.pieces) ≡ good_len src - length (slices o.pieces) = omega arith in
    let front : take (utf8_valid_len src) src ≡ (mark_of src ++ slices o.pieces) ++ take (good_len src - length (slices o.pieces)) o.rest =
    ap (take (utf8_valid_len src)) (cut-split src o.pieces o.rest o.cut)
    ∙ front-split (mark_of src ++ slices o.pieces) o.rest (utf8_valid_len src) (omega (arith, o.within))
    ∙ ap (λ n. (mark_of src ++ slices o.pieces) ++ take n o.rest) left in
    spelling-cut src first_line o.pieces o.rest o.cut o.within
    ∙ ap (with_tokens (tokens_of first_line (mark_of src) o.pieces))
    (over-spelled (good_len src - length (slices o.pieces)) (place_behind first_line (mark_of src ++ slices o.pieces)) o.rest over)
    ∙ ap (λ p. Err (fault_at NotUtf8 p)) (place-more first_line (mark_of src ++ slices o.pieces) (take (good_len src - length (slices o.pieces)) o.rest))
    ∙ ap (λ t. Err (fault_at NotUtf8 (place_behind first_line t))) (sym front)

looked-for : (kind : LexKind) (src before rest : List ℕ) → kind ≢ NotUtf8 → IsPieceStart src before rest → IsLookedFor kind src before rest
looked-for NotUtf8 src before rest other start = absurd (other refl)
looked-for BadCharacter src before rest other start = start
looked-for OpenText src before rest other start = start
looked-for FloatLiteral src before rest other start = start
looked-for Slash src before rest other start = start
looked-for NumberTooLarge src before rest other start = start

-- what a fault that stands somewhere is
stands-cases : (src : List ℕ) (kind : LexKind) (before rest : List ℕ) → StandsAt src kind before rest
    → ((kind ≡ NotUtf8) × (length before ≡ utf8_valid_len src)) ⊎ ((kind ≢ NotUtf8) × IsPieceStart src before rest)
stands-cases src NotUtf8 before rest at =
    inl (refl, text-stops before rest (utf8_valid_len src) (subst (λ t. IsTextFront t (utf8_valid_len src)) at.src_is (text-front src)) at.place at.row.1)
stands-cases src BadCharacter before rest at = inr (λ same. absurd (cc), at.place)
stands-cases src OpenText before rest at = inr (λ same. absurd (cc), at.place)
stands-cases src FloatLiteral before rest at = inr (λ same. absurd (cc), at.place)
stands-cases src Slash before rest at = inr (λ same. absurd (cc), at.place)
stands-cases src NumberTooLarge before rest at = inr (λ same. absurd (cc), at.place)

-- the byte that begins no character is a fault
bad-stands : (src : List ℕ) → utf8_valid_len src < length src → StandsAt src NotUtf8 (take (utf8_valid_len src) src) (drop (utf8_valid_len src) src)
bad-stands src short =
    let is = text-front src in
    let split = sym (take-append-drop (utf8_valid_len src) src) in
    record {
      src_is = split;
      place = is.text;
      row = (
        λ none. absurd (omega (arith, ap length none, length-drop (utf8_valid_len src) src)),
        λ b. text-further (take (utf8_valid_len src) src) (drop (utf8_valid_len src) src) (utf8_valid_len src) (subst (λ t. IsTextFront t (utf8_valid_len src)) split is) is.text b
            (length-take-le (utf8_valid_len src) src is.within),
      );
    }

faulty-stands : (src : List ℕ) (o : Outcome (good_len src) (behind_mark src)) (f : IsFaulty (good_len src - length (slices o.pieces)) o.rest)
    → StandsAt src f.kind (mark_of src ++ slices o.pieces) o.rest
faulty-stands src o f =
    let split = cut-split src o.pieces o.rest o.cut in
    let size = cut-size src o.pieces in
    let front = subst (λ t. IsTextFront t (utf8_valid_len src)) split (text-front src) in
    let mark = mark-fits src in
    let utf8 = cut-text (mark_of src) (behind_mark src) o.pieces o.rest (utf8_valid_len src) o.cut (subst (λ t. IsTextFront t (utf8_valid_len src)) (mark-split src) (text-front src)) (mark-text src)
    (omega (arith, o.within, size)) in
    let begins = text-goes_on (mark_of src ++ slices o.pieces) o.rest (utf8_valid_len src) front utf8 (omega (arith, f.more, size)) in
    let row = fault-meant o.rest f.kind f.some begins f.at in
    record {
      src_is = split;
      place = looked-for f.kind src (mark_of src ++ slices o.pieces) o.rest row.1 (record { pieces = o.pieces; cut = o.cut; before_is = refl });
      row = row.0;
    }

-- a fault stands no earlier than pieces reach
no-earlier : (src : List ℕ) (pieces : List WrittenPiece) (rest : List ℕ) (kind : LexKind) (less more : List ℕ) → Cut (behind_mark src) pieces rest → IsPieceStart src less more → Row kind more
    → length (mark_of src ++ slices pieces) ≤ length less
no-earlier src pieces rest kind less more cut start row =
    let reaches = cut-reaches (behind_mark src) pieces start.pieces rest more kind cut start.cut row in
    omega (arith, cut-size src pieces, cut-size src start.pieces, ap length start.before_is)

-- the pieces up to a byte that begins no character
reach-bad : (src : List ℕ) (o : Outcome (good_len src) (behind_mark src)) → IsOver (good_len src - length (slices o.pieces)) o.rest → ReachTo src (utf8_valid_len src)
reach-bad src o over = by_case over.at
  where
    by_case : (good_len src - length (slices o.pieces) ≡ 0)
        ⊎ ((q : Piece) × (piece_at o.rest ≡ Ok q) × (0 < good_len src - length (slices o.pieces)) × (good_len src - length (slices o.pieces) < q.len)) → ReachTo src (utf8_valid_len src)
    by_case (inl none) = record { pieces = o.pieces; rest = o.rest; cut = o.cut; reach = omega (arith, cut-size src o.pieces, mark-fits src) }
    by_case (inr (q, at, more, less)) =
        let sum : slices (o.pieces ++ record { kind = q.kind; slice = take q.len o.rest } ∷ []) ≡ slices o.pieces ++ (take q.len o.rest ++ []) =
        flat_map-append (λ (p : WrittenPiece). p.slice) o.pieces (record { kind = q.kind; slice = take q.len o.rest } ∷ []) in
        let fits = piece-within o.rest q at in
        record {
          pieces = o.pieces ++ record { kind = q.kind; slice = take q.len o.rest } ∷ [];
          rest = drop q.len o.rest;
          cut = cut-more (behind_mark src) o.pieces o.rest q o.cut at;
          reach = omega (
            arith,
            cut-size src (o.pieces ++ record { kind = q.kind; slice = take q.len o.rest } ∷ []),
            ap length sum,
            length-append (slices o.pieces) (take q.len o.rest ++ []),
            ap length (append-nil (take q.len o.rest)),
            length-take-le q.len o.rest fits,
            mark-fits src,
          );
        }

over-more : (src : List ℕ) (o : Outcome (good_len src) (behind_mark src)) → IsOver (good_len src - length (slices o.pieces)) o.rest → utf8_valid_len src < length src
over-more src o over =
    omega (arith, over-short _ _ over, o.within, ap length (cut-split src o.pieces o.rest o.cut), length-append (mark_of src ++ slices o.pieces) o.rest, cut-size src o.pieces, mark-fits src)

bad-first : (src : List ℕ) (first_line : ℕ) (o : Outcome (good_len src) (behind_mark src)) → IsOver (good_len src - length (slices o.pieces)) o.rest
    → IsFirstFault src first_line (fault_at NotUtf8 (place_behind first_line (take (utf8_valid_len src) src)))
bad-first src first_line o over =
    let reach = reach-bad src o over in
    let size : length (take (utf8_valid_len src) src) ≡ utf8_valid_len src = length-take-le (utf8_valid_len src) src (text-front src).within in
    record {
      before = take (utf8_valid_len src) src;
      rest = drop (utf8_valid_len src) src;
      stands = bad-stands src (over-more src o over);
      pieces = subst (ReachTo src) (sym size) reach;
      first = λ kind less more at. elim (stands-cases src kind less more at) [
        | inl bad ↦ omega (arith, size, bad.1)
        | inr other ↦ omega (arith, size, reach.reach, no-earlier src reach.pieces reach.rest kind less more reach.cut other.1 at.row)
      ];
      place = refl;
    }

faulty-first : (src : List ℕ) (first_line : ℕ) (o : Outcome (good_len src) (behind_mark src)) (f : IsFaulty (good_len src - length (slices o.pieces)) o.rest)
    → IsFirstFault src first_line (fault_at f.kind (place_behind first_line (mark_of src ++ slices o.pieces)))
faulty-first src first_line o f = record {
  before = mark_of src ++ slices o.pieces;
  rest = o.rest;
  stands = faulty-stands src o f;
  pieces = record { pieces = o.pieces; rest = o.rest; cut = o.cut; reach = omega arith };
  first = λ kind less more at. elim (stands-cases src kind less more at) [
    | inl bad ↦ omega (arith, cut-size src o.pieces, f.more, bad.1)
    | inr other ↦ no-earlier src o.pieces o.rest kind less more o.cut other.1 at.row
  ];
  place = refl;
}

-- no fault stands in a source that is cut whole

row-some : (kind : LexKind) (bs : List ℕ) → Row kind bs → 0 < length bs
row-some kind [] row = elim (kind_tells kind) [
  | inl none ↦ absurd ((subst (λ k. Row k []) none row).0 refl)
  | inr other ↦ absurd (nothing-begins (row-begins kind [] other row))
]
row-some kind (b ∷ bs) row = omega arith

no-fault : (src : List ℕ) (kind : LexKind) (before rest : List ℕ) (pieces : List WrittenPiece) → Cut (behind_mark src) pieces [] → length (slices pieces) ≤ good_len src
    → StandsAt src kind before rest → ⊥
no-fault src kind before rest pieces cut fits at =
    let some = row-some kind rest at.row in
    let size = cut-size src pieces in
    let whole : length src ≡ length (mark_of src ++ slices pieces) = ap length (cut-split src pieces [] cut) ∙ ap length (append-nil (mark_of src ++ slices pieces)) in
    let split : length src ≡ length before + length rest = ap length at.src_is ∙ length-append before rest in
    let mark = mark-fits src in
    elim (stands-cases src kind before rest at) [
      | inl bad ↦ omega (arith, bad.1)
      | inr other ↦ omega (arith, no-earlier src pieces [] kind before rest cut other.1 at.row)
    ]

bad-alone : {bs : List ℕ} → Row NotUtf8 bs → Begins IsCharacter bs → ⊥
bad-alone row begins = row.1 begins

-- both ways

spelled-none : (src : List ℕ) (first_line : ℕ) (tokens : List Tok) (fault : LexFault) → spelling src first_line ≡ Err fault → spelling src first_line ≡ Ok tokens → ⊥
spelled-none src first_line tokens fault bad good = let same : ◌≡◌ {A = Result (List Tok) LexFault} (Err fault) (Ok tokens) = sym bad ∙ good in absurd (cc)

pub spelled-tokens : (src : List ℕ) (first_line : ℕ) (tokens : List Tok) → spelling src first_line ≡ Ok tokens → AreTokens src first_line tokens
spelled-tokens src first_line tokens e = by_end (outcome (length (behind_mark src)) (good_len src) (behind_mark src) (omega arith))
  where
    by_end : Outcome (good_len src) (behind_mark src) → AreTokens src first_line tokens
    by_end o = elim o.end [
      | inl none ↦
          let cut : Cut (behind_mark src) o.pieces [] = subst (Cut (behind_mark src) o.pieces) none o.cut in
          let made = sym (spelling-all src first_line o.pieces cut o.within) ∙ e in
          let same : tokens_of first_line (mark_of src) o.pieces ≡ tokens = ok_same made in
          record { utf8 = whole-text src o.pieces cut o.within; pieces = o.pieces; cut = cut; tokens_are = sym same }
      | inr (inl over) ↦ absurd (spelled-none src first_line tokens _ (bad-spelled src first_line o over) e)
      | inr (inr faulty) ↦ absurd (spelled-none src first_line tokens _ (faulty-spelled src first_line o faulty) e)
    ]
      where
        ok_same : {a b : List Tok} → ◌≡◌ {A = Result (List Tok) LexFault} (Ok a) (Ok b) → a ≡ b
        ok_same same = cc

err-same : {a b : LexFault} → ◌≡◌ {A = Result (List Tok) LexFault} (Err a) (Err b) → a ≡ b
err-same same = cc

pub spelled-fault : (src : List ℕ) (first_line : ℕ) (fault : LexFault) → spelling src first_line ≡ Err fault → IsFirstFault src first_line fault
spelled-fault src first_line fault e = by_end (outcome (length (behind_mark src)) (good_len src) (behind_mark src) (omega arith))
  where
    by_end : Outcome (good_len src) (behind_mark src) → IsFirstFault src first_line fault
    by_end o = elim o.end [
      | inl none ↦
          let cut : Cut (behind_mark src) o.pieces [] = subst (Cut (behind_mark src) o.pieces) none o.cut in
          absurd (spelled-none src first_line (tokens_of first_line (mark_of src) o.pieces) fault e (spelling-all src first_line o.pieces cut o.within))
      | inr (inl over) ↦
          subst (IsFirstFault src first_line) (err-same (sym (bad-spelled src first_line o over) ∙ e)) (bad-first src first_line o over)
      | inr (inr faulty) ↦
          subst (IsFirstFault src first_line) (err-same (sym (faulty-spelled src first_line o faulty) ∙ e)) (faulty-first src first_line o faulty)
    ]

-- two faults behind as many bytes stand at one place
same-place : (before less rest more : List ℕ) → before ++ rest ≡ less ++ more → length before ≡ length less → (before ≡ less) × (rest ≡ more)
same-place before less rest more split size = (
  sym (take-append_seam before rest) ∙ ap (take (length before)) split ∙ ap (λ n. take n (less ++ more)) size ∙ take-append_seam less more,
  sym (drop-append_seam before rest) ∙ ap (drop (length before)) split ∙ ap (λ n. drop n (less ++ more)) size ∙ drop-append_seam less more,
)

-- the first fault is what is computed where another first fault is
pub fault-once : (src : List ℕ) (first_line : ℕ) (one two : LexFault) → IsFirstFault src first_line one → IsFirstFault src first_line two → one ≡ two
fault-once src first_line one two a b =
    let size : length a.before ≡ length b.before = order (a.first two.kind b.before b.rest b.stands) (b.first one.kind a.before a.rest a.stands) in
    let same = same-place a.before b.before a.rest b.rest (sym a.stands.src_is ∙ b.stands.src_is) size in
    fault-same one two (kind-same one.kind two.kind a.rest a.stands.row (subst (Row two.kind) (sym same.1) b.stands.row))
    (sym a.place ∙ ap (place_behind first_line) same.0 ∙ b.place)
  where
    order : {n m : ℕ} → n ≤ m → m ≤ n → n ≡ m
    order l u = omega arith

    fault-same : (one two : LexFault) → one.kind ≡ two.kind → ◌≡◌ {A = Place} (record { line = one.line; column = one.column }) (record { line = two.line; column = two.column }) → one ≡ two
    fault-same one two kind place = ap (λ k. fault_at k (record { line = one.line; column = one.column })) kind ∙ ap (fault_at two.kind) place

    kind-same : (k l : LexKind) (bs : List ℕ) → Row k bs → Row l bs → k ≡ l
    kind-same k l bs first second = by_kind (kind_tells k) (kind_tells l)
      where
        by_kind : (k ≡ NotUtf8) ⊎ (k ≢ NotUtf8) → (l ≡ NotUtf8) ⊎ (l ≢ NotUtf8) → k ≡ l
        by_kind (inl none) (inl also) = none ∙ sym also
        by_kind (inl none) (inr other) = absurd (bad-alone (subst (λ m. Row m bs) none first) (row-begins l bs other second))
        by_kind (inr other) (inl none) = absurd (bad-alone (subst (λ m. Row m bs) none second) (row-begins k bs other first))
        by_kind (inr other) (inr also) = err_same (sym (row-found k bs other first) ∙ row-found l bs also second)
          where
            err_same : {m n : LexKind} → ◌≡◌ {A = Result Piece LexKind} (Err m) (Err n) → m ≡ n
            err_same same = cc

-- a source that is cut whole has no fault
pub fault-spelled : (src : List ℕ) (first_line : ℕ) (fault : LexFault) → IsFirstFault src first_line fault → spelling src first_line ≡ Err fault
fault-spelled src first_line fault is = by_end (outcome (length (behind_mark src)) (good_len src) (behind_mark src) (omega arith))
  where
    by_end : Outcome (good_len src) (behind_mark src) → spelling src first_line ≡ Err fault
    by_end o = elim o.end [
      | inl none ↦
          let cut : Cut (behind_mark src) o.pieces [] = subst (Cut (behind_mark src) o.pieces) none o.cut in
          absurd (no-fault src fault.kind is.before is.rest o.pieces cut o.within is.stands)
      | inr (inl over) ↦
          bad-spelled src first_line o over ∙ ap Err (fault-once src first_line _ fault (bad-first src first_line o over) is)
      | inr (inr faulty) ↦
          faulty-spelled src first_line o faulty ∙ ap Err (fault-once src first_line _ fault (faulty-first src first_line o faulty) is)
    ]
