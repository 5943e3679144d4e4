-- The marks and the values of a print, and how many arguments a function needs.
use Rattle.std.proofs.Common.{◌≡◌, ℕ, zero, suc, ◌+◌, ◌<◌, List, [], ◌∷◌, ◌++◌, length, map, take, drop, drop-cons, get_or, Option, None, Some, refl, sym, ap, ◌∙◌, arith}
use Rattle.std.proofs.lemmas.List.{map-append, take_more}
use Rattle.brs_grammar.specs.declared.tree.Expression.{Expression}
use Rattle.brs_grammar.specs.declared.tree.Parameter.{Parameter, out-Parameter}
use Rattle.brs_grammar.specs.declared.tree.PrintItem.{PrintItem}
use Rattle.brs_grammar.specs.declared.tree.PrintItem.TheVariants as printed
use Rattle.brs_grammar.specs.View.{Formal, Printed, semicolon, comma, value, mark, shown, params, parameter_of, print_item_of, expression_of}
use Rattle.brs_grammar.proofs.Views as v
use Rattle.brs_code.specs.declared.function.Mark.{Mark}
use Rattle.brs_code.specs.declared.function.Mark.TheVariants as m
use Rattle.code_relation.specs.Heads.{count, mark_of, needed_from}

pub mark_semicolon : mark_of (mark (print_item_of printed.Semicolon)) ≡ m.Semicolon
mark_semicolon = ap (λ x. mark_of (mark x)) v.print-item-Semicolon

pub mark_comma : mark_of (mark (print_item_of printed.Comma)) ≡ m.Comma
mark_comma = ap (λ x. mark_of (mark x)) v.print-item-Comma

pub mark_value : (e : Expression) → mark_of (mark (print_item_of (printed.Value e))) ≡ m.Value
mark_value e = ap (λ x. mark_of (mark x)) (v.print-item-Value e)

marks_map : (xs : List PrintItem) → map mark_of (map mark (map print_item_of xs)) ≡ map (λ y. mark_of (mark (print_item_of y))) xs
marks_map [] = refl
marks_map (x ∷ xs) = ap (λ l. mark_of (mark (print_item_of x)) ∷ l) (marks_map xs)

pub ruleset mark_rules = (mark_semicolon, mark_comma, mark_value)

-- one more of a list
pub marks_more : (ms ms' : List Mark) (xs : List PrintItem) (i : ℕ) (x : PrintItem) (one : Mark) → i < length xs → x ≡ get_or xs i x → ms ≡ map mark_of (map mark (map print_item_of (take i xs)))
    → one ≡ mark_of (mark (print_item_of x)) → ms' ≡ ms ++ one ∷ [] → ms' ≡ map mark_of (map mark (map print_item_of (take (i + 1) xs)))
marks_more ms ms' xs i x one h at was is new =
    let f : PrintItem → Mark = λ y. mark_of (mark (print_item_of y)) in
    new ∙ ap (λ l. l ++ one ∷ []) (was ∙ marks_map (take i xs)) ∙ ap (λ k. map f (take i xs) ++ k ∷ []) is
    ∙ sym (map-append f (take i xs) (x ∷ [])) ∙ ap (λ y. map f (take i xs ++ y ∷ [])) at ∙ ap (map f) (sym (take_more xs i x h))
    ∙ sym (marks_map (take (i + 1) xs))

-- ---- values

shown_more : (xs : List Printed) (y : Printed) → count (shown (xs ++ y ∷ [])) ≡ count (shown xs) + count (shown (y ∷ []))
shown_more [] y = omega arith
shown_more (semicolon ∷ xs) y = shown_more xs y
shown_more (comma ∷ xs) y = shown_more xs y
shown_more (value e ∷ xs) y = omega (arith, shown_more xs y)

pub count_semicolon : count (shown (print_item_of printed.Semicolon ∷ [])) ≡ 0
count_semicolon = ap (λ x. count (shown (x ∷ []))) v.print-item-Semicolon

pub count_comma : count (shown (print_item_of printed.Comma ∷ [])) ≡ 0
count_comma = ap (λ x. count (shown (x ∷ []))) v.print-item-Comma

pub count_value : (e : Expression) → count (shown (print_item_of (printed.Value e) ∷ [])) ≡ 1
count_value e = ap (λ x. count (shown (x ∷ []))) (v.print-item-Value e)

pub ruleset count_rules = (count_semicolon, count_comma, count_value)

pub values_more : (n one : ℕ) (xs : List PrintItem) (i : ℕ) (x : PrintItem) → i < length xs → x ≡ get_or xs i x → n ≡ count (shown (map print_item_of (take i xs)))
    → one ≡ count (shown (print_item_of x ∷ [])) → n + one ≡ count (shown (map print_item_of (take (i + 1) xs)))
values_more n one xs i x h at was is =
    let front = map print_item_of (take i xs) in
    ap (λ k. k + one) was ∙ ap (λ k. count (shown front) + k) is ∙ sym (shown_more front (print_item_of x))
    ∙ ap (λ l. count (shown l)) (sym (map-append print_item_of (take i xs) (x ∷ [])))
    ∙ ap (λ y. count (shown (map print_item_of (take i xs ++ y ∷ [])))) at
    ∙ ap (λ l. count (shown (map print_item_of l))) (sym (take_more xs i x h))

-- ---- how many arguments are needed

pub needed_none : (xs : List Parameter) (i found : ℕ) (x : Parameter) → i < length xs → x ≡ get_or xs i x → (out-Parameter x).default ≡ None
    → needed_from i found (params (map parameter_of (drop i xs))) ≡ needed_from (i + 1) (i + 1) (params (map parameter_of (drop (i + 1) xs)))
needed_none xs i found x h at e =
    let s : i + 1 ≡ suc i = omega arith in
    ap (λ l. needed_from i found (params (map parameter_of l))) (drop-cons xs i x h ∙ ap (λ y. y ∷ drop (suc i) xs) (sym at))
    ∙ ap (λ f. needed_from i found (params (f ∷ map parameter_of (drop (suc i) xs)))) (v.parameter-out x ∙ ap (λ d. v.formal_of (out-Parameter x).name d (out-Parameter x).kind) e)
    ∙ ap (λ j. needed_from (i + 1) (i + 1) (params (map parameter_of (drop j xs)))) (sym s)

pub needed_some : (xs : List Parameter) (i found : ℕ) (x : Parameter) (d : Expression) → i < length xs → x ≡ get_or xs i x → (out-Parameter x).default ≡ Some d
    → needed_from i found (params (map parameter_of (drop i xs))) ≡ needed_from (i + 1) found (params (map parameter_of (drop (i + 1) xs)))
needed_some xs i found x d h at e =
    let s : i + 1 ≡ suc i = omega arith in
    ap (λ l. needed_from i found (params (map parameter_of l))) (drop-cons xs i x h ∙ ap (λ y. y ∷ drop (suc i) xs) (sym at))
    ∙ ap (λ f. needed_from i found (params (f ∷ map parameter_of (drop (suc i) xs)))) (v.parameter-out x ∙ ap (λ d. v.formal_of (out-Parameter x).name d (out-Parameter x).kind) e)
    ∙ ap (λ j. needed_from (i + 1) found (params (map parameter_of (drop j xs)))) (sym s)
