-- Later bytes leave an answer as it is.
use Rattle.std.proofs.Common.{◌≡◌, ◌≢◌, ℕ, ◌+◌, ◌-◌, ◌<◌, ◌≤◌, true, ◌&&◌, ◌||◌, ◌==◌, List, [], ◌∷◌, ◌++◌, length, take, drop, sym, ap, ◌∙◌, subst, arith, append_assoc, length-append, append-nil, ◌⊎◌, length-drop, length-take, take-append-drop, inl, inr, ⊎_elim}
use Rattle.std.proofs.Math.Seq.{take-append_seam, take-append-add}
use Rattle.std.proofs.lemmas.Bool.{false≢true, and_parts, and_from, or_cases, or_left, eqb-true, cases_lt}
use Rattle.std.proofs.lemmas.List.{take_all, take-append-le, drop-append-le, get_or-take, get_or_append_left, drop_all}
use Rattle.httparse.specs.Grammar.{LineEnd, crlf, lf, print_end, print_request}
use Rattle.httparse.proofs.GrammarLemmas.{ReadsRequest-append}
use Rattle.ecp_requests.specs.Answers.{IsConnectionAnswer, IsAnswer, head, bad_head, more, IsOver, head_room}
use Rattle.ecp_requests.specs.EmptyLines.{is_text, begins_empty_line, IsEmptyLineAt, HasEmptyLine}
use Rattle.ecp_requests.specs.Heads.{IsFront, HasNoFront}
use Rattle.ecp_requests.specs.declared.request.Request.{Request}
use Rattle.ecp_requests.specs.declared.request.Request.TheVariants.{More}
use Rattle.ecp_requests.proofs.HeadEnds.{head_ends, HasText}

front_later : (bytes later method target : List ℕ) → IsFront bytes method target → IsFront (bytes ++ later) method target
front_later bytes later method target f = (f.0, (f.1.0 ++ later, ReadsRequest-append bytes f.0 f.1.0 later f.1.1, f.1.2), f.2, f.3)

-- the first bytes of more bytes begin with the first bytes
room_later : (n : ℕ) (bytes later : List ℕ) → (further : List ℕ) × (take n (bytes ++ later) ≡ take n bytes ++ further)
room_later n bytes later =
    ⊎_elim
    (λ long. ([], take-append-le n bytes later (omega arith) ∙ sym (append-nil (take n bytes))))
    (λ short.
    let sum : n ≡ length bytes + (n - length bytes) = omega arith in (
      take (n - length bytes) later,
      ap (λ k. take k (bytes ++ later)) sum ∙ take-append-add bytes later (n - length bytes)
          ∙ ap (λ f. f ++ take (n - length bytes) later) (sym (take_all n bytes short)),
    ))
    (cases_lt n (length bytes))

-- empty lines

begins_later : (bytes later : List ℕ) → begins_empty_line bytes ≡ true → begins_empty_line (bytes ++ later) ≡ true
begins_later [] later h = absurd (false≢true h)
begins_later (a ∷ []) later h = absurd (false≢true h)
begins_later (a ∷ b ∷ []) [] h = h
begins_later (a ∷ b ∷ []) (c ∷ cs) h = let parts = and_parts (a == 10) (b == 10) h in and_from _ _ parts.0 (or_left _ _ parts.1)
begins_later (a ∷ b ∷ c ∷ rest) later h = h

-- where an empty line begins, the bytes are an LF and a line end
begins_split : (bytes : List ℕ) → begins_empty_line bytes ≡ true → (end : LineEnd) × (after : List ℕ) × (bytes ≡ 10 ∷ (print_end end ++ after))
begins_split [] h = absurd (false≢true h)
begins_split (a ∷ []) h = absurd (false≢true h)
begins_split (a ∷ b ∷ []) h =
    let parts = and_parts (a == 10) (b == 10) h in
    let first = eqb-true a 10 parts.0 in
    let second = eqb-true b 10 parts.1 in
    (lf, [], cc)
begins_split (a ∷ b ∷ c ∷ rest) h =
    let parts = and_parts (a == 10) (b == 10 || (b == 13 && c == 10)) h in
    let first = eqb-true a 10 parts.0 in
    ⊎_elim
    (λ t. let second = eqb-true b 10 t in (lf, c ∷ rest, cc))
    (λ t. let both = and_parts (b == 13) (c == 10) t in
    let second = eqb-true b 13 both.0 in
    let third = eqb-true c 10 both.1 in
    (crlf, rest, cc))
    (or_cases (b == 10) (b == 13 && c == 10) parts.1)

line_within : (bytes : List ℕ) (line : ℕ) → begins_empty_line (drop line bytes) ≡ true → line < length bytes
line_within bytes line h =
    ⊎_elim (λ within. within) (λ past. absurd (false≢true (sym (ap begins_empty_line (drop_all line bytes past)) ∙ h))) (cases_lt line (length bytes))

line_later : (bytes later : List ℕ) (line : ℕ) → IsEmptyLineAt bytes line → IsEmptyLineAt (bytes ++ later) line
line_later bytes later line h =
    let within = line_within bytes line h.line_is in
    let text_within : h.text < length bytes = let before = h.before in omega arith in
    record {
      text = h.text;
      before = h.before;
      text_is = ap is_text (get_or_append_left bytes later 0 h.text text_within) ∙ h.text_is;
      line_is = ap begins_empty_line (drop-append-le line bytes later (omega arith)) ∙ begins_later (drop line bytes) later h.line_is;
    }

-- no head of more bytes goes on past an empty line
no_front_past : (bytes later : List ℕ) → HasNoFront bytes → HasEmptyLine bytes → HasNoFront (bytes ++ later)
no_front_past bytes later none found h begins =
    let line = found.0 in
    let at = found.1 in
    let within = line_within bytes line at.line_is in
    let split = begins_split (drop line bytes) at.line_is in
    let front_length : length (take line bytes) ≡ line = omega (arith, length-take line bytes) in
    let text_before = at.before in
    let text : HasText (take line bytes) = (at.text, omega arith, ap is_text (get_or-take line bytes at.text 0 at.before) ∙ at.text_is) in
    let parts : bytes ++ later ≡ take line bytes ++ 10 ∷ (print_end split.0 ++ (split.1 ++ later)) =
    ap (λ l. l ++ later) (sym (take-append-drop line bytes) ∙ ap (λ d. take line bytes ++ d) split.2)
    ∙ append_assoc (take line bytes) (10 ∷ (print_end split.0 ++ split.1)) later
    ∙ ap (λ t. take line bytes ++ 10 ∷ t) (append_assoc (print_end split.0) split.1 later) in
    let ends = head_ends h begins.0 (take line bytes) (split.1 ++ later) split.0 begins.1.0 text (sym begins.1.1 ∙ parts) in
    let short : length (print_request h) ≤ length bytes =
    omega (arith, ends, length-drop line bytes, ap length split.2, length-append (print_end split.0) split.1) in
    let n = length (print_request h) in
    let front : take n bytes ≡ print_request h =
    sym (take-append-le n bytes later short) ∙ ap (take n) begins.1.1 ∙ take-append_seam (print_request h) begins.0 in
    let whole : bytes ≡ print_request h ++ drop n bytes = sym (take-append-drop n bytes) ∙ ap (λ f. f ++ drop n bytes) front in
    none h (drop n bytes, (begins.1.0, whole), begins.2)

over_later : (bytes later : List ℕ) → IsOver bytes → IsOver (bytes ++ later)
over_later bytes later (inl long) = inl (omega (arith, length-append bytes later))
over_later bytes later (inr line) = inr (line.0, line_later bytes later line.0 line.1)

no_front_later : (bytes later : List ℕ) → HasNoFront (head_room bytes) → IsOver bytes → HasNoFront (head_room (bytes ++ later))
no_front_later bytes later none (inl long) = subst HasNoFront (sym (take-append-le 4096 bytes later (omega arith))) none
no_front_later bytes later none (inr line) =
    ⊎_elim
    (λ long. subst HasNoFront (sym (take-append-le 4096 bytes later (omega arith))) none)
    (λ short.
    let further = room_later 4096 bytes later in
    let all = take_all 4096 bytes short in
    subst HasNoFront (ap (λ f. f ++ further.0) (sym all) ∙ sym further.1) (no_front_past bytes further.0 (subst HasNoFront all none) line))
    (cases_lt 4096 (length bytes))

pub answer_later : (bytes later : List ℕ) (answer : Request) → IsAnswer bytes answer → answer ≢ More → IsAnswer (bytes ++ later) answer
answer_later bytes later answer (head method target front is) decided =
    let further = room_later 4096 bytes later in
    head method target (subst (λ b. IsFront b method target) (sym further.1) (front_later (head_room bytes) further.0 method target front)) is
answer_later bytes later answer (bad_head none over is) decided = bad_head (no_front_later bytes later none over) (over_later bytes later over) is
answer_later bytes later answer (more none over is) decided = absurd (decided is)

front_of_front : (bytes : List ℕ) (len n : ℕ) → len ≤ length bytes → len ≤ n → take n bytes ≡ take len bytes ++ take (n - len) (drop len bytes)
front_of_front bytes len n within beyond =
    let long : length (take len bytes) ≡ len = omega (arith, length-take len bytes) in
    let sum : n ≡ length (take len bytes) + (n - len) = omega arith in
    ap (take n) (sym (take-append-drop len bytes)) ∙ ap (λ k. take k (take len bytes ++ drop len bytes)) sum
    ∙ take-append-add (take len bytes) (drop len bytes) (n - len)

pub front_answer : (bytes : List ℕ) (answer : Request) → IsConnectionAnswer bytes answer → (n : ℕ)
    → IsAnswer (take n bytes) More ⊎ IsAnswer (take n bytes) answer
front_answer bytes answer c n =
    ⊎_elim
    (λ short. inl (c.shortest n short))
    (λ beyond. inr (subst (λ b. IsAnswer b answer) (sym (front_of_front bytes c.len n c.within beyond))
    (answer_later (take c.len bytes) (take (n - c.len) (drop c.len bytes)) answer c.front c.decides)))
    (cases_lt n c.len)
