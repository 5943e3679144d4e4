-- The fault of a source file, or of the text of an inline script: its lexical fault; else its first token such that no file begins with the
-- tokens up to and including it, where the end counts as a token; else the first static fault of its tree.
use Rattle.std.specs.Prelude.{◌≡◌, ℕ, List, [], Some}
use Rattle.brs_tokens.specs.Cuts as t
use Rattle.brs_tokens.specs.Cuts.{AreTokens}
use Rattle.brs_tokens.specs.Tok.{Tok}
use Rattle.brs_grammar.specs.declared.tree.NamedFunction.{NamedFunction}
use Rattle.brs_grammar.specs.Grammar as g
use Rattle.brs_grammar.specs.Grammar.{IsFile}
use Rattle.brs_parser.specs.FaultPlace.{fault_at}
use Rattle.brs_parser.specs.declared.fault.SyntaxFault.{SyntaxFault}
use Rattle.static_faults.specs.Faults.{faults}
use Rattle.static_faults.specs.First.{first_by_place}
use Rattle.static_faults.specs.declared.fault.StaticFault.{StaticFault}
use Rattle.file_faults.specs.declared.source.SourceFault.{SourceFault}
use Rattle.file_faults.specs.declared.source.SourceFault.TheVariants.{Lexical, Syntax, Static}

-- The bytes, whose first line has this number, are a file of these functions, and it has no static fault.
pub record IsGoodSource (src : List ℕ) (first_line : ℕ) (functions : List NamedFunction) : Type 0 where
  pub tokens : List Tok
  pub spelled : AreTokens src first_line tokens
  pub file : IsFile tokens functions
  pub faultless : faults functions ≡ []

pub record HasSyntaxFault (src : List ℕ) (first_line : ℕ) (fault : SyntaxFault) : Type 0 where
  pub tokens : List Tok
  pub spelled : AreTokens src first_line tokens
  pub first : g.IsFirstFault tokens fault.token
  pub place : fault ≡ fault_at tokens fault.token

pub record HasStaticFault (src : List ℕ) (first_line : ℕ) (fault : StaticFault) : Type 0 where
  pub tokens : List Tok
  pub functions : List NamedFunction
  pub spelled : AreTokens src first_line tokens
  pub file : IsFile tokens functions
  pub first : first_by_place (faults functions) ≡ Some fault

-- this is the fault of the bytes, whose first line has this number
abbrev pub IsSourceFault : (src : List ℕ) → (first_line : ℕ) → SourceFault → Type 0
IsSourceFault src first_line (Lexical fault) = t.IsFirstFault src first_line fault
IsSourceFault src first_line (Syntax fault) = HasSyntaxFault src first_line fault
IsSourceFault src first_line (Static fault) = HasStaticFault src first_line fault
