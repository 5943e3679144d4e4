-- The reading of a few token lists, computed.
use Rattle.std.proofs.Common.{◌≡◌, ℕ, List, [], ◌∷◌, ◌++◌, map, Some, None, pos, refl}
use Rattle.std.specs.Prelude.{codes}
use Rattle.brs_tokens.specs.Tok.{Tok}
use Rattle.brs_tokens.specs.declared.token.TokenKind.{TokenKind}
use Rattle.brs_tokens.specs.declared.token.TokenKind.TheVariants as kind
use Rattle.first_form.specs.declared.tree.FirstMain.{FirstMain}
use Rattle.first_form.specs.declared.tree.Line.TheVariants as line
use Rattle.first_form.specs.declared.tree.PrintItem.TheVariants as item
use Rattle.first_form.specs.declared.tree.Operand.TheVariants as operand
use Rattle.first_form.specs.declared.tree.Sign.TheVariants.{Plus, Minus}
use Rattle.first_form.specs.FirstForm.{IsFirst}
use Rattle.first_form.specs.FirstReading.{many_from, many, read_term, read_sum, read_words, read_printed_sum, read_item, read_further_item, read_items, read_blank_line, read_assignment, read_print, read_line, read_possible_newline, read_head, read_end, read_main, first_of}
use Rattle.first_form.proofs.FirstRules.{first_sound, first_complete}

abbrev token : TokenKind → List ℕ → Tok
token kind slice = record { kind = kind; slice = slice; line = 1; column = 1 }

abbrev name : List ℕ → Tok
name = token kind.Name

abbrev keyword : List ℕ → Tok
keyword = token kind.Keyword

abbrev number : List ℕ → Tok
number = token kind.Number

abbrev sign : List ℕ → Tok
sign = token kind.Sign

abbrev newline : Tok
newline = token kind.Newline (10 ∷ [])

-- a text with this between its quotes
abbrev text : List ℕ → Tok
text words = token kind.Text ((34 ∷ words) ++ 34 ∷ [])

abbrev head : List Tok
head = keyword (codes "Sub") ∷ name (codes "Main") ∷ sign (codes "(") ∷ sign (codes ")") ∷ newline ∷ []

abbrev end : List Tok
end = keyword (codes "END") ∷ keyword (codes "sub") ∷ []

-- a file with these tokens between the first line and the last
abbrev file : List Tok → List Tok
file tokens = (head ++ tokens) ++ end

-- `X = 007`, a blank line, and `print "a"; x - 2 + X; "b"`
abbrev lines : List Tok
lines =
    (name (codes "X") ∷ sign (codes "=") ∷ number (codes "007") ∷ newline ∷ [])
    ++ (newline ∷ [])
    ++ (keyword (codes "print") ∷ text (codes "a") ∷ sign (codes ";") ∷ name (codes "x") ∷ sign (codes "-") ∷ number (codes "2") ∷ sign (codes "+") ∷ name (codes "X")
    ∷ sign (codes ";") ∷ text (codes "b") ∷ newline ∷ [])

abbrev lines_tree : FirstMain
lines_tree = record {
  lines = line.Assign (codes "x") (record { first = operand.Number (pos 7); more = [] })
      ∷ line.Print (item.Words (codes "a")
      ∷ item.Sum (record {
        first = operand.Name (codes "x");
        more = record { sign = Minus; operand = operand.Number (pos 2) } ∷ record { sign = Plus; operand = operand.Name (codes "x") } ∷ [];
      })
      ∷ item.Words (codes "b")
      ∷ [])
      ∷ [];
}

abbrev printed : List ℕ → List Tok
printed digits = keyword (codes "print") ∷ number digits ∷ newline ∷ []

abbrev assigned : Tok → Tok → List Tok
assigned target value = target ∷ sign (codes "=") ∷ value ∷ newline ∷ []

lines_read : first_of (file lines) ≡ Some lines_tree
unfolding many_from many read_term read_sum read_words read_printed_sum read_item read_further_item read_items read_blank_line read_assignment read_print read_line read_possible_newline read_head read_end read_main first_of
lines_read = refl

-- One newline may follow the last line; and the largest number.
others_read : map first_of (file [] ∷ (file [] ++ newline ∷ []) ∷ file (printed (codes "2147483647")) ∷ [])
    ≡ Some (record { lines = [] })
    ∷ Some (record { lines = [] })
    ∷ Some (record { lines = line.Print (item.Sum (record { first = operand.Number (pos 2147483647); more = [] }) ∷ []) ∷ [] })
    ∷ []
unfolding many_from many read_term read_sum read_words read_printed_sum read_item read_further_item read_items read_blank_line read_assignment read_print read_line read_possible_newline read_head read_end read_main first_of
others_read = refl

-- a second newline at the end, a name before its assignment, `m` as a target, a keyword as one, and a number that is too large
none_read : map first_of
    ((file [] ++ newline ∷ newline ∷ [])
    ∷ file (assigned (name (codes "x")) (name (codes "x")))
    ∷ file (assigned (name (codes "M")) (number (codes "1")))
    ∷ file (assigned (keyword (codes "next")) (number (codes "1")))
    ∷ file (printed (codes "2147483648"))
    ∷ [])
    ≡ None ∷ None ∷ None ∷ None ∷ None ∷ []
unfolding many_from many read_term read_sum read_words read_printed_sum read_item read_further_item read_items read_blank_line read_assignment read_print read_line read_possible_newline read_head read_end read_main first_of
none_read = refl

-- What is read is spelled, and for what isn't read there is no tree.
lines_spelled : IsFirst (file lines) lines_tree
lines_spelled = first_sound (file lines) lines_tree lines_read

no_tree : (tree : FirstMain) → IsFirst (file (printed (codes "2147483648"))) tree → ⊥
no_tree tree spelled =
    let none : first_of (file (printed (codes "2147483648"))) ≡ None = cc none_read in
    let some = first_complete (file (printed (codes "2147483648"))) tree spelled in
    cc
