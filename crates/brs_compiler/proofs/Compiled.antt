-- The code of a file stands to its tree.
use Rattle.std.proofs.Common.{◌≡◌, List, [], ◌∷◌, map, refl, sym, ap, ◌∙◌, subst}
use Rattle.std.specs.Prelude.{All}
use Rattle.std.proofs.lemmas.List.Elements.{All-nil, All-cons}
use Rattle.brs_grammar.specs.declared.tree.FileTree.{FileTree}
use Rattle.brs_grammar.specs.declared.tree.NamedFunction.{NamedFunction}
use Rattle.brs_code.specs.declared.code.Code.{Code}
use Rattle.code_drafts.specs.declared.draft.Draft.{Draft}
use Rattle.code_relation.specs.Standing.{FunctionForm, CodeAt, named_form}
use Rattle.tree_code.specs.FileCode.{named_draft}
use Rattle.code_lowering.specs.Lowered.{IsFunction}
use Rattle.code_lowering.specs.Takes.{FunctionTakes, form_draft, StandsTo}
use Rattle.code_lowering.proofs.Split.{opens_function}

pub drafts_of : (xs : List NamedFunction) → map named_draft xs ≡ map form_draft (map named_form xs)
drafts_of [] = refl
drafts_of (x ∷ xs) = ap (λ l. named_draft x ∷ l) (drafts_of xs)

pub stands : (code : Code) (tree : FileTree) (drafts : List Draft) → drafts ≡ map named_draft tree.functions → ((forms : List FunctionForm) → drafts ≡ map form_draft forms → All FunctionTakes forms → StandsTo code forms)
    → All FunctionTakes (map named_form tree.functions) → CodeAt code tree
stands code tree drafts e law t =
    let s = law (map named_form tree.functions) (e ∙ drafts_of tree.functions) t in
    record { functions = s.functions; named = s.named; anonymous = s.anonymous }

-- the drafts of a file are those of functions
is_function : (x : NamedFunction) → IsFunction (named_draft x)
is_function x = record { line = _; parameters = _; needed = _; value = _; size = _; code = _; is = opens_function _ _ _ _ _ _ }

pub all_functions : (xs : List NamedFunction) (drafts : List Draft) → drafts ≡ map named_draft xs → All IsFunction drafts
all_functions xs drafts e = subst (All IsFunction) (sym e) (go xs)
  where
    go : (l : List NamedFunction) → All IsFunction (map named_draft l)
    go [] = All-nil IsFunction
    go (x ∷ l) = All-cons IsFunction (named_draft x) (map named_draft l) (is_function x) (go l)
