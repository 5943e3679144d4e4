-- What the answer of a reading is worth.
use Rattle.std.proofs.Common.{◌≡◌, ℕ, List, length, length-append, ◌≤◌, arith, Some, Result, Ok, Err, ap, sym, ◌∙◌, subst}
use Rattle.std.specs.Prelude.{IfOk}
use Rattle.component_files.specs.declared.place.Place.{Place}
use Rattle.component_files.specs.declared.element.ComponentFile.{ComponentFile}
use Rattle.component_files.specs.declared.read.ComponentAnswer.{ComponentAnswer}
use Rattle.component_files.specs.declared.read.ComponentAnswer.TheVariants.{Fault, NoMemory}
use Rattle.component_files.specs.declared.state.Progress.TheVariants.{Start}
use Rattle.component_files.specs.ComponentGrammar.{IsText, IsFirstFaultOf, order_mark, start_of_file, text_of_file}
use Rattle.component_files.specs.Scan.{scan, Finds, IsRead, IsFault}
use Rattle.xml_pieces.specs.Written.{strip}
use Rattle.xml_pieces.proofs.Basics.{strip_taken}
use Rattle.component_files.proofs.Top.{found, right, faulty, fault_found}

pub answers_file : (place : Place) (text : List ℕ) (r : Result ComponentFile ComponentAnswer) → Finds (scan (length text) Start place text) r → IfOk r (λ f. IsText place text f)
answers_file place text (Ok f) e = right place text f e
answers_file place text (Err (Fault at)) e = tt
answers_file place text (Err NoMemory) e = tt

pub answers_fault : (place : Place) (text : List ℕ) (r : Result ComponentFile ComponentAnswer) (n : ℕ) → Finds (scan (length text) Start place text) r → r ≡ Err (Fault (record { line = n })) → IsFirstFaultOf place text n
answers_fault place text (Ok f) n e is = absurd (cc)
answers_fault place text (Err (Fault at)) n e is = let same : at ≡ record { line = n } = cc in faulty place text n (e ∙ ap (λ z. Err z.line) same)
answers_fault place text (Err NoMemory) n e is = absurd (cc)

pub answers_all : (place : Place) (text : List ℕ) (r : Result ComponentFile ComponentAnswer) (f : ComponentFile) → Finds (scan (length text) Start place text) r → IsText place text f → IsRead f r
answers_all place text (Ok g) f e is = let both : ◌≡◌ {A = Result ComponentFile ℕ} (Ok g) (Ok f) = sym e ∙ found place text f is in cc
answers_all place text (Err (Fault at)) f e is = let both : ◌≡◌ {A = Result ComponentFile ℕ} (Err at.line) (Ok f) = sym e ∙ found place text f is in absurd (cc)
answers_all place text (Err NoMemory) f e is = tt

pub answers_first : (place : Place) (text : List ℕ) (r : Result ComponentFile ComponentAnswer) (n : ℕ) → Finds (scan (length text) Start place text) r → IsFirstFaultOf place text n → IsFault n r
answers_first place text (Ok g) n e is = let both : ◌≡◌ {A = Result ComponentFile ℕ} (Ok g) (Err n) = sym e ∙ fault_found place text n is in absurd (cc)
answers_first place text (Err (Fault at)) n e is = let both : ◌≡◌ {A = Result ComponentFile ℕ} (Err at.line) (Err n) = sym e ∙ fault_found place text n is in cc
answers_first place text (Err NoMemory) n e is = tt

-- what was found from where the text begins on was found in the file
pub finds_in_file : (bytes text : List ℕ) (place : Place) (r : Result ComponentFile ComponentAnswer) → place ≡ start_of_file bytes → text ≡ text_of_file bytes → Finds (scan (length text) Start place text) r
    → Finds (scan (length (text_of_file bytes)) Start (start_of_file bytes) (text_of_file bytes)) r
finds_in_file bytes text place r a b e =
    subst (λ p. Finds (scan (length (text_of_file bytes)) Start p (text_of_file bytes)) r) a (subst (λ t. Finds (scan (length t) Start place t) r) b e)

-- the text behind a mark is no longer than the bytes
pub mark_shorter : (bytes text : List ℕ) → Some text ≡ strip order_mark bytes → length text ≤ length bytes
mark_shorter bytes text e = let whole = strip_taken order_mark bytes text (sym e) in omega (arith, ap length whole, length-append order_mark text)
