-- That the first form is read by its rules.
use Rattle.std.proofs.Common.{◌≡◌, ℕ, Bool, true, false, ◌&&◌, ◌||◌, not, inl, inr, List, [], ◌∷◌, Option, Some, None, cond, refl, sym, ap, ◌∙◌, append-nil, subst, codes}
use Rattle.std.specs.Str.{bytes_eq}
use Rattle.std.proofs.lemmas.Slice.Eq.{bytes_eq-Decides}
use Rattle.brs_tokens.specs.Tok.{Tok}
use Rattle.brs_tokens.specs.declared.token.TokenKind.{TokenKind}
use Rattle.brs_tokens.specs.declared.token.TokenKind.TheVariants as kind
use Rattle.chan_values.specs.Folded.{folded}
use Rattle.first_form.specs.FirstForm.{is_kind_newline, is_kind_name, is_kind_keyword, is_kind_text, is_kind_sign, is_newline, is_name, is_text, is_keyword, is_named, is_sign, operand_value, the, name_of, words_of, sign_of, operand_of, One, Pure, Splits, AnOperand, ATerm, ASum, Words, PrintedSum, AnItem, AFurtherItem, Items, ABlankLine, AnAssignment, APrint, ALine, APossibleNewline, AHead, AnEnd, AMain, names_good, IsFirst}
use Rattle.first_form.specs.FirstReading.{Outcome, and_then, pure, one, at, at_operator, at_print, at_line, read_term, read_sum, read_words, read_printed_sum, read_item, read_further_item, read_items, read_blank_line, read_assignment, read_print, read_line, read_possible_newline, read_head, read_end, read_main, checked, first_of}
use Rattle.first_form.specs.declared.tree.FirstMain.{FirstMain}
use Rattle.first_form.specs.declared.tree.Line.{Line}
use Rattle.first_form.specs.declared.tree.PrintItem.{PrintItem}
use Rattle.first_form.specs.declared.tree.Sum.{Sum}
use Rattle.first_form.specs.declared.tree.Term.{Term}
use Rattle.first_form.specs.declared.tree.Sign.{Sign}
use Rattle.first_form.specs.declared.tree.Sign.TheVariants.{Plus, Minus}
use Rattle.first_form.specs.declared.tree.Operand.{Operand}
use Rattle.first_form.proofs.Meets.{Meets, Ahead, Within, Apart, Takes, any, one_meets, pure_meets, then_meets, either_meets, meets_as, then_takes, many_meets}

-- ---- tests of one token

on_token : (f g : Tok → Bool) → ((t : Tok) → f t ≡ true → g t ≡ true) → Within (at f) (at g)
on_token f g h [] e = absurd (cc)
on_token f g h (t ∷ ts) e = h t e

off_token : (f g : Tok → Bool) → ((t : Tok) → f t ≡ true → g t ≡ false) → Apart (at f) (at g)
off_token f g h [] e = refl
off_token f g h (t ∷ ts) e = h t e

and_parts : (a b : Bool) → (a && b) ≡ true → (a ≡ true) × (b ≡ true)
and_parts true b e = (refl, e)
and_parts false b e = absurd (cc)

not_true : (a : Bool) → not a ≡ true → a ≡ false
not_true true e = absurd (cc)
not_true false e = refl

not_of_false : (a : Bool) → a ≡ false → not a ≡ true
not_of_false true e = absurd (cc)
not_of_false false e = refl

neither : (a b : Bool) → a ≡ false → b ≡ false → (a || b) ≡ false
neither true b e d = e
neither false b e d = d

same_bytes : (xs ys : List ℕ) → bytes_eq xs ys ≡ true → xs ≡ ys
same_bytes xs ys e = (bytes_eq-Decides xs ys).0 e

when_passes : {A : Type 0} (b : Bool) (o : Option A) (a : A) → cond b o None ≡ Some a → b ≡ true
when_passes true o a e = refl
when_passes false o a e = absurd (cc)

operator_passes : (plus minus : Bool) (a : Sign) → cond plus (Some Plus) (cond minus (Some Minus) None) ≡ Some a → (plus || minus) ≡ true
operator_passes true minus a e = refl
operator_passes false true a e = refl
operator_passes false false a e = absurd (cc)

operand_passes : (k : TokenKind) (slice : List ℕ) (a : Operand) → operand_value k slice ≡ Some a → not (is_kind_text k) ≡ true
operand_passes kind.Newline slice a e = refl
operand_passes kind.Name slice a e = refl
operand_passes kind.Keyword slice a e = refl
operand_passes kind.Number slice a e = refl
operand_passes kind.Text slice a e = absurd (cc)
operand_passes kind.Sign slice a e = refl

-- a token of one kind is none of another
newline_no_sign : (k : TokenKind) → is_kind_newline k ≡ true → is_kind_sign k ≡ false
newline_no_sign kind.Newline e = refl
newline_no_sign kind.Name e = refl
newline_no_sign kind.Keyword e = refl
newline_no_sign kind.Number e = refl
newline_no_sign kind.Text e = refl
newline_no_sign kind.Sign e = absurd (cc)

name_no_keyword : (k : TokenKind) → is_kind_name k ≡ true → is_kind_keyword k ≡ false
name_no_keyword kind.Newline e = refl
name_no_keyword kind.Name e = refl
name_no_keyword kind.Keyword e = absurd (cc)
name_no_keyword kind.Number e = refl
name_no_keyword kind.Text e = refl
name_no_keyword kind.Sign e = refl

keyword_no_newline : (k : TokenKind) → is_kind_keyword k ≡ true → is_kind_newline k ≡ false
keyword_no_newline kind.Newline e = absurd (cc)
keyword_no_newline kind.Name e = refl
keyword_no_newline kind.Keyword e = refl
keyword_no_newline kind.Number e = refl
keyword_no_newline kind.Text e = refl
keyword_no_newline kind.Sign e = refl

keyword_no_name : (k : TokenKind) → is_kind_keyword k ≡ true → is_kind_name k ≡ false
keyword_no_name kind.Newline e = refl
keyword_no_name kind.Name e = absurd (cc)
keyword_no_name kind.Keyword e = refl
keyword_no_name kind.Number e = refl
keyword_no_name kind.Text e = refl
keyword_no_name kind.Sign e = refl

name_no_newline : (k : TokenKind) → is_kind_name k ≡ true → is_kind_newline k ≡ false
name_no_newline kind.Newline e = absurd (cc)
name_no_newline kind.Name e = refl
name_no_newline kind.Keyword e = refl
name_no_newline kind.Number e = refl
name_no_newline kind.Text e = refl
name_no_newline kind.Sign e = refl

-- where the kind doesn't fit, the spelling doesn't matter
and_false : (a b : Bool) → a ≡ false → (a && b) ≡ false
and_false true b e = absurd (cc)
and_false false b e = refl

-- a sign is no other sign, and a keyword no other keyword
other_sign : (t : Tok) (one_ two : List ℕ) → bytes_eq one_ two ≡ false → is_sign one_ t ≡ true → is_sign two t ≡ false
other_sign t one_ two differ e =
    let x = and_parts (is_kind_sign t.kind) (bytes_eq t.slice one_) e in
    let same = same_bytes t.slice one_ x.1 in
    ap (λ k. k && bytes_eq t.slice two) x.0 ∙ ap (λ s. bytes_eq s two) same ∙ differ

other_keyword : (t : Tok) (one_ two : List ℕ) → bytes_eq (folded one_) (folded two) ≡ false → is_keyword one_ t ≡ true → is_keyword two t ≡ false
other_keyword t one_ two differ e =
    let x = and_parts (is_kind_keyword t.kind) (bytes_eq (folded t.slice) (folded one_)) e in
    let same = same_bytes (folded t.slice) (folded one_) x.1 in
    ap (λ k. k && bytes_eq (folded t.slice) (folded two)) x.0 ∙ ap (λ s. bytes_eq s (folded two)) same ∙ differ

-- ---- what may stand behind

abbrev ends_sum : Ahead
ends_sum ts = not (at_operator ts)

abbrev ends_print : Ahead
ends_print ts = not (at (is_sign (codes ";")) ts) && ends_sum ts

abbrev at_no_text : Ahead
at_no_text = at (λ t. not (is_text t))

abbrev at_end : Ahead
at_end [] = true
at_end (t ∷ ts) = false

operator_ahead : Within (at (λ t. is_sign (codes "+") t || is_sign (codes "-") t)) at_operator
operator_ahead [] e = absurd (cc)
operator_ahead (t ∷ ts) e = e

semicolon_ends_sum : Within (at (is_sign (codes ";"))) ends_sum
semicolon_ends_sum [] e = refl
semicolon_ends_sum (t ∷ ts) e =
    not_of_false (at_operator (t ∷ ts)) (neither _ _ (other_sign t (codes ";") (codes "+") refl e) (other_sign t (codes ";") (codes "-") refl e))

newline_no_sign_ahead : (spelling : List ℕ) → Apart (at is_newline) (at (is_sign spelling))
newline_no_sign_ahead spelling = off_token is_newline (is_sign spelling) (λ t e. and_false _ _ (newline_no_sign t.kind e))

newline_ends_sum : Within (at is_newline) ends_sum
newline_ends_sum ts e = not_of_false (at_operator ts) (neither _ _ (newline_no_sign_ahead (codes "+") ts e) (newline_no_sign_ahead (codes "-") ts e))

and_both : (a b : Bool) → a ≡ true → b ≡ true → (a && b) ≡ true
and_both true b e f = f
and_both false b e f = absurd (cc)

newline_ends_print : Within (at is_newline) ends_print
newline_ends_print ts e = and_both _ _ (not_of_false _ (newline_no_sign_ahead (codes ";") ts e)) (newline_ends_sum ts e)

-- what holds in both cases
either_way : (a b c : Bool) → (a || b) ≡ true → (a ≡ true → c ≡ true) → (b ≡ true → c ≡ true) → c ≡ true
either_way true b c e f g = f refl
either_way false b c e f g = g e

print_no_newline : Apart at_print (at is_newline)
print_no_newline = off_token (is_keyword (codes "print")) is_newline (λ t e. keyword_no_newline t.kind (and_parts _ _ e).0)

name_no_newline_ahead : Apart (at is_name) (at is_newline)
name_no_newline_ahead = off_token is_name is_newline (λ t e. name_no_newline t.kind e)

name_no_print : Apart (at is_name) at_print
name_no_print = off_token is_name (is_keyword (codes "print")) (λ t e. and_false _ _ (name_no_keyword t.kind e))

statement_no_newline : Apart (λ ts. at_print ts || at is_name ts) (at is_newline)
statement_no_newline ts e =
    not_true (at is_newline ts)
    (either_way (at_print ts) (at is_name ts) (not (at is_newline ts)) e
    (λ p. not_of_false _ (print_no_newline ts p)) (λ n. not_of_false _ (name_no_newline_ahead ts n)))

end_no_line : Apart (at (is_keyword (codes "end"))) at_line
end_no_line [] e = refl
end_no_line (t ∷ ts) e =
    let keyword = (and_parts _ _ e).0 in
    neither _ _ (keyword_no_newline t.kind keyword) (neither _ _ (other_keyword t (codes "end") (codes "print") refl e) (keyword_no_name t.kind keyword))

end_no_newline : Apart at_end (at is_newline)
end_no_newline [] e = refl
end_no_newline (t ∷ ts) e = absurd (cc)

-- ---- the rules

the_meets : (test : Tok → Bool) → Meets (Unit {0}) (One (the test)) (at test) any (one (the test))
the_meets test = one_meets (the test) test (λ t a e. when_passes (test t) (Some tt) a e)

operand_meets : Meets Operand AnOperand at_no_text any (one operand_of)
operand_meets = one_meets operand_of (λ t. not (is_text t)) (λ t a e. operand_passes t.kind t.slice a e)

term_meets : Meets (List Term) ATerm at_operator any read_term
unfolding ATerm read_term
term_meets =
    meets_as at_operator any operator_ahead (λ ts e. e)
    (then_meets (one_meets sign_of (λ t. is_sign (codes "+") t || is_sign (codes "-") t) (λ t a e. operator_passes (is_sign (codes "+") t) (is_sign (codes "-") t) a e))
    (λ sign. then_meets operand_meets (λ operand. pure_meets _ any) (λ ts e. refl)) (λ ts e. refl))

term_takes : Takes ATerm
unfolding ATerm
term_takes = then_takes sign_of _

sum_meets : Meets Sum ASum at_no_text ends_sum read_sum
unfolding ASum read_sum
sum_meets =
    then_meets operand_meets
    (λ first. then_meets (many_meets ends_sum term_meets term_takes (λ ts e. not_true (at_operator ts) e) (λ ts e. refl) (λ ts e. refl)) (λ more. pure_meets _ ends_sum) (λ ts e. e))
    (λ ts e. refl)

words_meets : Meets PrintItem Words (at is_text) ends_sum read_words
unfolding Words read_words
words_meets = then_meets (one_meets words_of is_text (λ t a e. when_passes (is_text t) _ a e)) (λ words. pure_meets _ ends_sum) (λ ts e. refl)

printed_sum_meets : Meets PrintItem PrintedSum at_no_text ends_sum read_printed_sum
unfolding PrintedSum read_printed_sum
printed_sum_meets = then_meets sum_meets (λ sum. pure_meets _ ends_sum) (λ ts e. e)

item_meets : Meets PrintItem AnItem any ends_sum read_item
unfolding read_item
item_meets =
    meets_as any ends_sum (λ ts e. refl) (λ ts e. e)
    (either_meets (at is_text) words_meets printed_sum_meets (λ ts e. e) (off_token (λ t. not (is_text t)) is_text (λ t e. not_true (is_text t) e)))

further_item_meets : Meets (List PrintItem) AFurtherItem (at (is_sign (codes ";"))) ends_sum read_further_item
unfolding AFurtherItem read_further_item
further_item_meets = then_meets (the_meets (is_sign (codes ";"))) (λ _. then_meets item_meets (λ x. pure_meets _ ends_sum) (λ ts e. e)) (λ ts e. refl)

further_item_takes : Takes AFurtherItem
unfolding AFurtherItem
further_item_takes = then_takes (the (is_sign (codes ";"))) _

newline_last : (lines : List Line) → Meets (List Line) (Splits _ _ (One (the is_newline)) (λ _. Pure lines)) (at is_newline) any (λ ts. and_then (one (the is_newline) ts) (λ _. pure lines))
newline_last lines = then_meets (the_meets is_newline) (λ _. pure_meets lines any) (λ ts e. refl)

blank_line_meets : Meets (List Line) ABlankLine (at is_newline) any read_blank_line
unfolding ABlankLine read_blank_line
blank_line_meets = newline_last []

assignment_meets : Meets (List Line) AnAssignment (at is_name) any read_assignment
unfolding AnAssignment read_assignment
assignment_meets =
    then_meets (one_meets name_of is_name (λ t a e. when_passes (is_name t) _ a e))
    (λ target. then_meets (the_meets (is_sign (codes "="))) (λ _. then_meets sum_meets (λ sum. newline_last _) newline_ends_sum) (λ ts e. refl))
    (λ ts e. refl)

items_meets : Meets (List PrintItem) Items any ends_print read_items
unfolding Items read_items
items_meets =
    then_meets item_meets
    (λ first. then_meets
    (many_meets ends_print further_item_meets further_item_takes (λ ts e. not_true _ (and_parts _ _ e).0) semicolon_ends_sum (λ ts e. (and_parts _ _ e).1))
    (λ more. pure_meets _ ends_print) (λ ts e. e))
    (λ ts e. either_way _ _ (ends_sum ts) e (semicolon_ends_sum ts) (λ p. (and_parts _ _ p).1))

print_meets : Meets (List Line) APrint at_print any read_print
unfolding APrint read_print
print_meets =
    then_meets (the_meets (is_keyword (codes "print")))
    (λ _. then_meets items_meets (λ items. newline_last _) newline_ends_print) (λ ts e. refl)

line_meets : Meets (List Line) ALine at_line any read_line
unfolding read_line
line_meets =
    either_meets (at is_newline) blank_line_meets (either_meets at_print print_meets assignment_meets (λ ts e. e) name_no_print) (λ ts e. e) statement_no_newline

line_takes : Takes ALine
unfolding ABlankLine APrint AnAssignment
line_takes u a (inl z) = then_takes (the is_newline) _ u a z
line_takes u a (inr (inl z)) = then_takes (the (is_keyword (codes "print"))) _ u a z
line_takes u a (inr (inr z)) = then_takes name_of _ u a z

possible_newline_meets : Meets (Unit {0}) APossibleNewline any at_end read_possible_newline
unfolding read_possible_newline
possible_newline_meets =
    meets_as any at_end (λ ts e. refl) (λ ts e. e)
    (either_meets (at is_newline) (meets_as (at is_newline) at_end (λ ts e. e) (λ ts e. refl) (the_meets is_newline)) (pure_meets tt at_end) (λ ts e. e) end_no_newline)

head_meets : Meets (Unit {0}) AHead (at (is_keyword (codes "sub"))) any read_head
unfolding AHead read_head
head_meets =
    then_meets (the_meets (is_keyword (codes "sub")))
    (λ _. then_meets (the_meets (is_named (codes "main")))
    (λ _. then_meets (the_meets (is_sign (codes "(")))
    (λ _. then_meets (the_meets (is_sign (codes ")"))) (λ _. the_meets is_newline) (λ ts e. refl)) (λ ts e. refl)) (λ ts e. refl))
    (λ ts e. refl)

end_meets : Meets (Unit {0}) AnEnd (at (is_keyword (codes "end"))) at_end read_end
unfolding AnEnd read_end
end_meets =
    then_meets (the_meets (is_keyword (codes "end")))
    (λ _. then_meets (the_meets (is_keyword (codes "sub"))) (λ _. possible_newline_meets) (λ ts e. refl)) (λ ts e. refl)

main_meets : Meets (List Line) AMain (at (is_keyword (codes "sub"))) at_end read_main
unfolding AMain read_main
main_meets =
    then_meets head_meets
    (λ _. then_meets (many_meets (at (is_keyword (codes "end"))) line_meets line_takes end_no_line (λ ts e. refl) (λ ts e. refl))
    (λ lines. then_meets end_meets (λ _. pure_meets lines at_end) (λ ts e. e)) (λ ts e. e))
    (λ ts e. refl)

-- ---- the whole

abbrev whole : List Line → Option FirstMain
whole lines = Some (record { lines = lines })

abbrev all : List Line → Outcome (List Line)
all lines = Some (lines, [])

checked_some : (o : Outcome (List Line)) (tree : FirstMain) → checked o ≡ Some tree → (o ≡ all tree.lines) × (names_good tree.lines ≡ true)
checked_some None tree e = absurd (cc)
checked_some (Some (lines, [])) tree e = go (names_good lines) refl e
  where
    go : (b : Bool) → names_good lines ≡ b → cond b (whole lines) None ≡ Some tree → (all lines ≡ all tree.lines) × (names_good tree.lines ≡ true)
    go true good d = let same : lines ≡ tree.lines = ap (λ t. t.lines) (the_same (record { lines = lines }) tree d) in (ap all same, ap names_good (sym same) ∙ good)
      where
        the_same : (a b : FirstMain) → Some a ≡ Some b → a ≡ b
        the_same a b x = cc
    go false good d = absurd (cc)
checked_some (Some (lines, t ∷ ts)) tree e = absurd (cc)

-- what is read is of the first form
pub first_sound : (ts : List Tok) (tree : FirstMain) → first_of ts ≡ Some tree → IsFirst ts tree
unfolding first_of
first_sound ts tree e =
    let x = checked_some (read_main ts) tree e in
    let y = main_meets.sound ts [] tree.lines x.0 in
    record { spelled = subst (λ z. AMain z tree.lines) (sym (y.1 ∙ append-nil y.0)) y.2; names = x.1 }

-- what is of the first form is read
pub first_complete : (ts : List Tok) (tree : FirstMain) → IsFirst ts tree → first_of ts ≡ Some tree
unfolding first_of
first_complete ts tree z =
    ap (λ us. checked (read_main us)) (sym (append-nil ts))
    ∙ ap checked (main_meets.complete ts [] tree.lines z.spelled refl)
    ∙ ap (λ b. cond b (whole tree.lines) None) z.names
