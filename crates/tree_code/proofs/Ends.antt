-- What the code of a function, of a target and of a `for` with a step comes to.
use Rattle.std.proofs.Common.{◌≡◌, ℕ, ◌+◌, ◌-◌, List, [], ◌∷◌, ◌++◌, Option, None, Some, length, map, take, get_or, refl, sym, ap, ◌∙◌, append_assoc}
use Rattle.std.specs.Prelude.{reverse}
use Rattle.chan_values.specs.Folded.{folded}
use Rattle.brs_tokens.specs.declared.place.Place.{Place}
use Rattle.brs_grammar.specs.declared.tree.Expression.{Expression}
use Rattle.brs_grammar.specs.declared.tree.Name.{Name}
use Rattle.brs_grammar.specs.declared.tree.Parameter.{Parameter}
use Rattle.brs_grammar.specs.declared.tree.Postfix.{Postfix}
use Rattle.brs_grammar.specs.declared.tree.Rest.{Rest, out-Rest}
use Rattle.brs_grammar.specs.declared.tree.Statement.{Statement}
use Rattle.brs_grammar.specs.declared.tree.Statement.TheVariants as statement
use Rattle.brs_grammar.specs.View.{params, parameter_of, postfix_of, rest_of}
use Rattle.brs_code.specs.declared.function.ValueType.{ValueType}
use Rattle.brs_code.specs.declared.instr.Instr.TheVariants as i
use Rattle.code_relation.specs.declared.exits.Exits.{Exits}
use Rattle.code_relation.specs.Heads.{needed_of, value_type}
use Rattle.code_drafts.specs.declared.draft.Draft.{Draft}
use Rattle.code_drafts.specs.declared.draft.Draft.TheVariants.{Plain, Function}
use Rattle.code_drafts.specs.declared.draft.DraftParameter.{DraftParameter}
use Rattle.code_drafts.specs.DraftCode.{params_code, params_drafts, function_draft, no_loops, name_draft, tails_code, for_code, inside_for}
use Rattle.code_drafts.specs.StatementCode.{last_code, operands_of}
use Rattle.code_drafts.specs.TreeCode.{expression_code}
use Rattle.code_drafts.proofs.Targets.{some_operands}
use Rattle.tree_code.specs.FileCode.{block_code, statement_code}
use Rattle.tree_code.proofs.Callees.{function_is}
use Rattle.tree_code.proofs.Steps.{for_step_is}

-- what the code of a function's parts comes to
pub function_done : (line : ℕ) (r : Rest) (x : Exits) (b : List Statement) (all : List Parameter) (start code0 body code1 code2 items : List Draft) (drafts : List DraftParameter) (needed size : ℕ) (value : ValueType)
    → x ≡ no_loops → b ≡ (out-Rest r).body → all ≡ (out-Rest r).parameters → start ≡ [] → code0 ≡ Plain i.End 0 ∷ start → body ≡ block_code x b → code1 ≡ body ++ code0 → size ≡ length code1
    → code2 ≡ params_code 0 (params (map parameter_of all)) code1 → drafts ≡ reverse (params_drafts 0 (params (map parameter_of all)) code1) → value ≡ value_type (out-Rest r).value → needed ≡ needed_of (params (map parameter_of all))
    → items ≡ reverse code2 → Function line drafts needed value size items ≡ function_draft line (rest_of r)
function_done line r x b all start code0 body code1 code2 items drafts needed size value ex eb ea es e0 eblock e1 esize e2 ed ev en ei =
    let ps = params (map parameter_of (out-Rest r).parameters) in
    let rest = block_code no_loops (out-Rest r).body ++ Plain i.End 0 ∷ [] in
    let same : params (map parameter_of all) ≡ ps = ap (λ l. params (map parameter_of l)) ea in
    let whole : code1 ≡ rest = e1 ∙ ap (λ l. body ++ l) (e0 ∙ ap (λ l. Plain i.End 0 ∷ l) es) ∙ ap (λ l. l ++ Plain i.End 0 ∷ []) (eblock ∙ ap (λ y. block_code y b) ex ∙ ap (block_code no_loops) eb) in
    let drafts_are : drafts ≡ reverse (params_drafts 0 ps rest) = ed ∙ ap (λ l. reverse (params_drafts 0 l code1)) same ∙ ap (λ l. reverse (params_drafts 0 ps l)) whole in
    let items_are : items ≡ reverse (params_code 0 ps rest) = ei ∙ ap reverse (e2 ∙ ap (λ l. params_code 0 l code1) same ∙ ap (params_code 0 ps) whole) in
    let size_is : size ≡ length rest = esize ∙ ap length whole in
    let needed_is : needed ≡ needed_of ps = en ∙ ap needed_of same in
    ap (λ d. Function line d needed value size items) drafts_are ∙ ap (λ n. Function line (reverse (params_drafts 0 ps rest)) n value size items) needed_is
    ∙ ap (λ v. Function line (reverse (params_drafts 0 ps rest)) (needed_of ps) v size items) ev
    ∙ ap (λ k. Function line (reverse (params_drafts 0 ps rest)) (needed_of ps) (value_type (out-Rest r).value) k items) size_is
    ∙ ap (λ l. Function line (reverse (params_drafts 0 ps rest)) (needed_of ps) (value_type (out-Rest r).value) (length rest) l) items_are
    ∙ sym (function_is line r)

-- what the operands of a target with something behind its name come to
pub operands_done : (n : Name) (xs : List Postfix) (y : Postfix) (k : ℕ) (code code1 code2 code3 : List Draft) (d : Draft) → (length xs ≡ 0 → ⊥) → k ≡ length xs - 1 → y ≡ get_or xs k y
    → code1 ≡ last_code (postfix_of y) ++ code → code2 ≡ tails_code None (take k (map postfix_of xs)) ++ code1 → d ≡ name_draft (folded n.text) n.place.line → code3 ≡ d ∷ code2 → code3 ≡ operands_of n xs ++ code
operands_done n xs y k code code1 code2 code3 d ne ke is e1 e2 ed e3 = some_operands n xs y k code code1 code2 code3 ne ke is e1 e2 (e3 ∙ ap (λ z. z ∷ code2) ed)

-- what the code of a `for` with a step comes to
pub step_done : (x y : Exits) (s : Statement) (at : Place) (n : Name) (a b c : Expression) (o : Option Expression) (inner items : List Statement) (body code0 code1 code2 code3 code4 : List Draft) (a' b' c' : Expression)
    → s ≡ statement.For at n a b o inner → o ≡ Some c → y ≡ inside_for 2 x → items ≡ inner → body ≡ block_code y items → code1 ≡ for_code at.line 3 (folded n.text) body ++ code0 → c' ≡ c → code2 ≡ expression_code c' ++ code1 → b' ≡ b
    → code3 ≡ expression_code b' ++ code2 → a' ≡ a → code4 ≡ expression_code a' ++ code3 → code4 ≡ statement_code x s ++ code0
step_done x y s at n a b c o inner items body code0 code1 code2 code3 code4 a' b' c' es eo ey ei eb e1 ec e2 eb' e3 ea e4 =
    let loop = for_code at.line 3 (folded n.text) (block_code (inside_for 2 x) inner) in
    let is : s ≡ statement.For at n a b (Some c) inner = es ∙ ap (λ w. statement.For at n a b w inner) eo in
    let block : body ≡ block_code (inside_for 2 x) inner = eb ∙ ap (λ z. block_code z items) ey ∙ ap (block_code (inside_for 2 x)) ei in
    let one : code1 ≡ loop ++ code0 = e1 ∙ ap (λ l. for_code at.line 3 (folded n.text) l ++ code0) block in
    let two : code2 ≡ expression_code c ++ (loop ++ code0) = e2 ∙ ap (λ z. expression_code z ++ code1) ec ∙ ap (λ l. expression_code c ++ l) one in
    let three : code3 ≡ expression_code b ++ (expression_code c ++ (loop ++ code0)) = e3 ∙ ap (λ z. expression_code z ++ code2) eb' ∙ ap (λ l. expression_code b ++ l) two in
    let four : code4 ≡ expression_code a ++ (expression_code b ++ (expression_code c ++ (loop ++ code0))) = e4 ∙ ap (λ z. expression_code z ++ code3) ea ∙ ap (λ l. expression_code a ++ l) three in
    let together : (expression_code a ++ (expression_code b ++ (expression_code c ++ loop))) ++ code0 ≡ expression_code a ++ (expression_code b ++ (expression_code c ++ (loop ++ code0))) =
    append_assoc (expression_code a) (expression_code b ++ (expression_code c ++ loop)) code0
    ∙ ap (λ l. expression_code a ++ l) (append_assoc (expression_code b) (expression_code c ++ loop) code0 ∙ ap (λ l. expression_code b ++ l) (append_assoc (expression_code c) loop code0)) in
    four ∙ sym together ∙ ap (λ l. l ++ code0) (sym (for_step_is x at n a b c inner)) ∙ ap (λ z. statement_code x z ++ code0) (sym is)
