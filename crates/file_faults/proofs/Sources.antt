-- A source file has a tree without a static fault or a first fault, one of the two and only one.
use Rattle.std.proofs.Common.{◌≡◌, ℕ, ◌⊎◌, inl, inr, List, [], Result, Ok, Err, Option, Some, None, refl, sym, ap, ◌∙◌, subst}
use Rattle.std.specs.Prelude.{◌↔◌, IsNone, IfOk}
use Rattle.brs_tokens.specs.Cuts as t
use Rattle.brs_tokens.specs.Cuts.{AreTokens}
use Rattle.brs_tokens.specs.Spelling.{spelling}
use Rattle.brs_tokens.specs.Tok.{Tok}
use Rattle.brs_tokens.specs.declared.lex_fault.LexFault.{LexFault}
use Rattle.brs_grammar.specs.declared.tree.NamedFunction.{NamedFunction}
use Rattle.brs_grammar.specs.Grammar as g
use Rattle.brs_grammar.specs.Grammar.{IsFile}
use Rattle.brs_grammar.proofs.Whole as whole
use Rattle.brs_parser.specs.FaultPlace.{fault_at}
use Rattle.brs_parser.specs.declared.fault.SyntaxFault.{SyntaxFault}
use Rattle.static_faults.specs.Faults.{faults}
use Rattle.static_faults.specs.First.{first_by_place}
use Rattle.static_faults.specs.declared.fault.StaticFault.{StaticFault}
use Rattle.static_faults.proofs.Files.{none_is}
use Rattle.file_faults.specs.SourceFaults.{IsGoodSource, HasSyntaxFault, HasStaticFault, IsSourceFault}
use Rattle.file_faults.specs.Answers.{IsRead, IsRefused}
use Rattle.file_faults.specs.declared.source.SourceAnswer.{SourceAnswer}
use Rattle.file_faults.specs.declared.source.SourceAnswer.TheVariants as s
use Rattle.file_faults.specs.declared.source.SourceFault.{SourceFault}
use Rattle.file_faults.specs.declared.source.SourceFault.TheVariants.{Lexical, Syntax, Static}

ok_same : {A B : Type 0} (r : Result A B) (a b : A) → r ≡ Ok a → r ≡ Ok b → a ≡ b
ok_same r a b d e = cc

err_same : {A B : Type 0} (r : Result A B) (a b : B) → r ≡ Err a → r ≡ Err b → a ≡ b
err_same r a b d e = cc

some_same : {A : Type 0} (o : Option A) (a b : A) → o ≡ Some a → o ≡ Some b → a ≡ b
some_same o a b d e = cc

ok_or_err : {A B : Type 0} (r : Result A B) (a : A) (b : B) → r ≡ Ok a → r ≡ Err b → ⊥
ok_or_err r a b d e = absurd (cc)

abbrev pub TokensLaw : Type 0
TokensLaw = (src : List ℕ) (n : ℕ) (tokens : List Tok) → (spelling src n ≡ Ok tokens) ↔ AreTokens src n tokens

abbrev pub FaultLaw : Type 0
FaultLaw = (src : List ℕ) (n : ℕ) (fault : LexFault) → (spelling src n ≡ Err fault) ↔ t.IsFirstFault src n fault

abbrev pub GrammarLaw : Type 0
GrammarLaw = (tokens : List Tok) → ((a : List NamedFunction) × IsFile tokens a) ⊎ ((k : ℕ) × g.IsFirstFault tokens k)

one_tokens : TokensLaw → (src : List ℕ) (n : ℕ) (a b : List Tok) → AreTokens src n a → AreTokens src n b → a ≡ b
one_tokens law src n a b x y = ok_same (spelling src n) a b ((law src n a).1 x) ((law src n b).1 y)

pub one_tree : TokensLaw → (src : List ℕ) (n : ℕ) (a b : List NamedFunction) → IsGoodSource src n a → IsGoodSource src n b → a ≡ b
one_tree law src n a b x y =
    let same = one_tokens law src n x.tokens y.tokens x.spelled y.spelled in
    whole.one_tree y.tokens a b (subst (λ ts. IsFile ts a) same x.file) y.file

-- a source file with tokens has no lexical fault
not_both : TokensLaw → FaultLaw → (src : List ℕ) (n : ℕ) (tokens : List Tok) (fault : LexFault) → AreTokens src n tokens → t.IsFirstFault src n fault → ⊥
not_both tokens_law fault_law src n tokens fault x y = ok_or_err (spelling src n) tokens fault ((tokens_law src n tokens).1 x) ((fault_law src n fault).1 y)

same_syntax : TokensLaw → (src : List ℕ) (n : ℕ) (a b : SyntaxFault) → HasSyntaxFault src n a → HasSyntaxFault src n b → a ≡ b
same_syntax law src n a b x y =
    let same = one_tokens law src n x.tokens y.tokens x.spelled y.spelled in
    let token = whole.one_fault y.tokens a.token b.token (subst (λ ts. g.IsFirstFault ts a.token) same x.first) y.first in
    x.place ∙ (ap (λ ts. fault_at ts a.token) same ∙ (ap (fault_at y.tokens) token ∙ sym y.place))

no_syntax : TokensLaw → (src : List ℕ) (n : ℕ) (tokens : List Tok) (functions : List NamedFunction) (b : SyntaxFault) → AreTokens src n tokens → IsFile tokens functions → HasSyntaxFault src n b → ⊥
no_syntax law src n tokens functions b are file y =
    let same = one_tokens law src n tokens y.tokens are y.spelled in
    whole.never_both y.tokens functions b.token (subst (λ ts. IsFile ts functions) same file) y.first

same_static : TokensLaw → (src : List ℕ) (n : ℕ) (a b : StaticFault) → HasStaticFault src n a → HasStaticFault src n b → a ≡ b
same_static law src n a b x y =
    let same = one_tokens law src n x.tokens y.tokens x.spelled y.spelled in
    let functions = whole.one_tree y.tokens x.functions y.functions (subst (λ ts. IsFile ts x.functions) same x.file) y.file in
    some_same (first_by_place (faults y.functions)) a b (sym (ap (λ fs. first_by_place (faults fs)) functions) ∙ x.first) y.first

pub one_fault : TokensLaw → FaultLaw → (src : List ℕ) (n : ℕ) (a b : SourceFault) → IsSourceFault src n a → IsSourceFault src n b → a ≡ b
one_fault tl fl src n (Lexical a) (Lexical b) x y = ap Lexical (err_same (spelling src n) a b ((fl src n a).1 x) ((fl src n b).1 y))
one_fault tl fl src n (Lexical a) (Syntax b) x y = absurd (not_both tl fl src n y.tokens a y.spelled x)
one_fault tl fl src n (Lexical a) (Static b) x y = absurd (not_both tl fl src n y.tokens a y.spelled x)
one_fault tl fl src n (Syntax a) (Lexical b) x y = absurd (not_both tl fl src n x.tokens b x.spelled y)
one_fault tl fl src n (Syntax a) (Syntax b) x y = ap Syntax (same_syntax tl src n a b x y)
one_fault tl fl src n (Syntax a) (Static b) x y = absurd (no_syntax tl src n y.tokens y.functions a y.spelled y.file x)
one_fault tl fl src n (Static a) (Lexical b) x y = absurd (not_both tl fl src n x.tokens b x.spelled y)
one_fault tl fl src n (Static a) (Syntax b) x y = absurd (no_syntax tl src n x.tokens x.functions b x.spelled x.file y)
one_fault tl fl src n (Static a) (Static b) x y = ap Static (same_static tl src n a b x y)

no_first : (functions : List NamedFunction) (fault : StaticFault) → faults functions ≡ [] → first_by_place (faults functions) ≡ Some fault → ⊥
no_first functions fault none e =
    let clash : None ≡ Some fault = sym (ap first_by_place none) ∙ e in
    absurd (cc)

no_static : TokensLaw → (src : List ℕ) (n : ℕ) (functions : List NamedFunction) (b : StaticFault) → IsGoodSource src n functions → HasStaticFault src n b → ⊥
no_static law src n functions b x y =
    let same = one_tokens law src n x.tokens y.tokens x.spelled y.spelled in
    let trees = whole.one_tree y.tokens functions y.functions (subst (λ ts. IsFile ts functions) same x.file) y.file in
    no_first y.functions b (subst (λ fs. faults fs ≡ []) trees x.faultless) y.first

pub never_both : TokensLaw → FaultLaw → (src : List ℕ) (n : ℕ) (functions : List NamedFunction) (fault : SourceFault) → IsGoodSource src n functions → IsSourceFault src n fault → ⊥
never_both tl fl src n functions (Lexical f) x y = not_both tl fl src n x.tokens f x.spelled y
never_both tl fl src n functions (Syntax f) x y = no_syntax tl src n x.tokens functions f x.spelled x.file y
never_both tl fl src n functions (Static f) x y = no_static tl src n functions f x y

-- a source file has one of the two
module _ (tl : TokensLaw) (fl : FaultLaw) (gl : GrammarLaw) (src : List ℕ) (n : ℕ) where
  abbrev Either_ : Type 0
  Either_ = ((functions : List NamedFunction) × IsGoodSource src n functions) ⊎ ((fault : SourceFault) × IsSourceFault src n fault)

  of_tree : (tokens : List Tok) (functions : List NamedFunction) → AreTokens src n tokens → IsFile tokens functions → (found : Option StaticFault) → first_by_place (faults functions) ≡ found → Either_
  of_tree tokens functions are file None e =
      let none : IsNone (first_by_place (faults functions)) = rw e in
      inl (functions, record { tokens = tokens; spelled = are; file = file; faultless = (none_is (faults functions)).0 none })
  of_tree tokens functions are file (Some f) e = inr (Static f, record { tokens = tokens; functions = functions; spelled = are; file = file; first = e })

  of_tokens : (tokens : List Tok) → AreTokens src n tokens → ((a : List NamedFunction) × IsFile tokens a) ⊎ ((k : ℕ) × g.IsFirstFault tokens k) → Either_
  of_tokens tokens are (inl (a, file)) = of_tree tokens a are file (first_by_place (faults a)) refl
  of_tokens tokens are (inr (k, first)) = inr (Syntax (fault_at tokens k), record { tokens = tokens; spelled = are; first = first; place = refl })

  of_spelling : (read : Result (List Tok) LexFault) → spelling src n ≡ read → Either_
  of_spelling (Ok tokens) e = of_tokens tokens ((tl src n tokens).0 e) (gl tokens)
  of_spelling (Err fault) e = inr (Lexical fault, (fl src n fault).0 e)

  pub tree_or_fault : Either_
  tree_or_fault = of_spelling (spelling src n) refl

-- ---- reading

pub syntax_fault : (tokens : List Tok) (fault : SyntaxFault) (found : SourceFault) (src : List ℕ) (n : ℕ)
    → g.IsFirstFault tokens fault.token × (fault ≡ fault_at tokens fault.token) → Syntax fault ≡ found → AreTokens src n tokens → IsSourceFault src n found
syntax_fault tokens fault found src n first same are =
    subst (IsSourceFault src n) same (record { tokens = tokens; spelled = are; first = first.0; place = first.1 })

-- what is answered is right, so what is right is answered
pub all_read : (src : List ℕ) (n : ℕ) (r : Result (List NamedFunction) SourceAnswer)
    → ((a b : List NamedFunction) → IsGoodSource src n a → IsGoodSource src n b → a ≡ b)
    → ((functions : List NamedFunction) (fault : SourceFault) → IsGoodSource src n functions → IsSourceFault src n fault → ⊥)
    → IfOk r (IsGoodSource src n) → ((f : SourceFault) → r ≡ Err (s.Fault f) → IsSourceFault src n f)
    → (functions : List NamedFunction) → IsGoodSource src n functions → IsRead functions r
all_read src n (Ok found) one never tree fault functions good = one found functions tree good
all_read src n (Err (s.Fault f)) one never tree fault functions good = never functions f good (fault f refl)
all_read src n (Err s.NoMemory) one never tree fault functions good = tt

pub all_refused : (src : List ℕ) (n : ℕ) (r : Result (List NamedFunction) SourceAnswer)
    → ((a b : SourceFault) → IsSourceFault src n a → IsSourceFault src n b → a ≡ b)
    → ((functions : List NamedFunction) (fault : SourceFault) → IsGoodSource src n functions → IsSourceFault src n fault → ⊥)
    → IfOk r (IsGoodSource src n) → ((f : SourceFault) → r ≡ Err (s.Fault f) → IsSourceFault src n f)
    → (f : SourceFault) → IsSourceFault src n f → IsRefused f r
all_refused src n (Ok found) one never tree fault f is = never found f tree is
all_refused src n (Err (s.Fault g)) one never tree fault f is = one g f (fault g refl) is
all_refused src n (Err s.NoMemory) one never tree fault f is = tt
