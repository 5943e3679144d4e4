-- Where pieces lead, and where their marks do.
use Rattle.std.proofs.Common.{◌≡◌, ℕ, Bool, true, false, List, [], ◌∷◌, ◌++◌, Some, None, Option, cond, refl, ap, sym, ◌∙◌, append_assoc}
use Rattle.std.specs.List.{flat_map}
use Rattle.xml_pieces.specs.declared.piece.Piece.{Piece}
use Rattle.xml_pieces.specs.Written.{Written, spelled, piece_of}
use Rattle.xml_pieces.specs.Reading.{bind}
use Rattle.xml_pieces.proofs.Basics.{bind_some}
use Rattle.component_files.specs.declared.place.Place.{Place}
use Rattle.component_files.specs.declared.element.ComponentFile.{ComponentFile}
use Rattle.component_files.specs.declared.state.State.{State}
use Rattle.component_files.specs.declared.state.State.TheVariants as state
use Rattle.component_files.specs.declared.state.Progress.{Progress}
use Rattle.component_files.specs.declared.state.Progress.TheVariants.{Start, Inside}
use Rattle.component_files.specs.Places.{after_byte, place_after}
use Rattle.component_files.specs.Steps.{step, is_declaration, first_step, advance}
use Rattle.component_files.specs.ComponentGrammar.{marks_of, marks, first_marks, text_marks, IsFile}
use Rattle.component_files.proofs.Machine.{run, step_run, run_append, file_runs}
use Rattle.component_files.proofs.Sound.{runs_file}

pub place_append : (place : Place) (a b : List ℕ) → place_after place (a ++ b) ≡ place_after (place_after place a) b
place_append place [] b = refl
place_append place (x ∷ a) b = place_append (after_byte place x) a b

pub marks_append : (place : Place) (a b : List Written) → marks place (a ++ b) ≡ marks place a ++ marks (place_after place (flat_map spelled a)) b
marks_append place [] b = refl
marks_append place (w ∷ a) b =
    let p = place_after place (spelled w) in
    let e = place_append place (spelled w) (flat_map spelled a) in
    ap (λ z. marks_of (piece_of w) place ++ z) (marks_append p a b ∙ ap (λ k. marks p a ++ marks k b) (sym e))
    ∙ sym (append_assoc (marks_of (piece_of w) place) (marks p a) (marks (place_after place (spelled w ++ flat_map spelled a)) b))

pub text_append : (place : Place) (w : Written) (a b : List Written) → text_marks place ((w ∷ a) ++ b) ≡ text_marks place (w ∷ a) ++ marks (place_after place (flat_map spelled (w ∷ a))) b
text_append place w a b =
    let p = place_after place (spelled w) in
    let e = place_append place (spelled w) (flat_map spelled a) in
    ap (λ z. first_marks (piece_of w) place ++ z) (marks_append p a b ∙ ap (λ k. marks p a ++ marks k b) (sym e))
    ∙ sym (append_assoc (first_marks (piece_of w) place) (marks p a) (marks (place_after place (spelled w ++ flat_map spelled a)) b))

-- where pieces lead that begin at a place
abbrev pub leads : Progress → Place → List Written → Option Progress
leads s place [] = Some s
leads s place (w ∷ ws) = bind (advance s (piece_of w) place) (λ next. leads next (place_after place (spelled w)) ws)

pub leads_more : (s next : Progress) (place : Place) (w : Written) (ws : List Written) → advance s (piece_of w) place ≡ Some next → leads s place (w ∷ ws) ≡ leads next (place_after place (spelled w)) ws
leads_more s next place w ws e = ap (λ z. bind z (λ next. leads next (place_after place (spelled w)) ws)) e

pub leads_append : (s : Progress) (place : Place) (a b : List Written) → leads s place (a ++ b) ≡ bind (leads s place a) (λ next. leads next (place_after place (flat_map spelled a)) b)
leads_append s place [] b = refl
leads_append s place (w ∷ a) b = at (advance s (piece_of w) place) (λ next. leads_append next (place_after place (spelled w)) a b)
  where
    P : Place
    P = place_after place (spelled w)

    at : (o : Option Progress) → ((next : Progress) → leads next P (a ++ b) ≡ bind (leads next P a) (λ z. leads z (place_after P (flat_map spelled a)) b))
        → bind o (λ next. leads next P (a ++ b)) ≡ bind (bind o (λ next. leads next P a)) (λ z. leads z (place_after place (spelled w ++ flat_map spelled a)) b)
    at (Some next) ih = ih next ∙ ap (λ k. bind (leads next P a) (λ z. leads z k b)) (sym (place_append place (spelled w) (flat_map spelled a)))
    at None ih = refl

pub inside_leads : (s : State) (place : Place) (ws : List Written) → leads (Inside s) place ws ≡ bind (run s (marks place ws)) (λ z. Some (Inside z))
unfolding advance
inside_leads s place [] = refl
inside_leads s place (w ∷ ws) =
    let P = place_after place (spelled w) in
    let M = marks_of (piece_of w) place in
    ap (λ o. bind (bind o (λ z. Some (Inside z))) (λ next. leads next P ws)) (step_run s (piece_of w) place)
    ∙ at (run s M) (λ next. inside_leads next P ws)
    ∙ ap (λ o. bind o (λ z. Some (Inside z))) (sym (run_append s M (marks P ws)))
  where
    at : (o : Option State) → ((next : State) → leads (Inside next) (place_after place (spelled w)) ws ≡ bind (run next (marks (place_after place (spelled w)) ws)) (λ z. Some (Inside z)))
        → bind (bind o (λ z. Some (Inside z))) (λ next. leads next (place_after place (spelled w)) ws) ≡ bind (bind o (λ next. run next (marks (place_after place (spelled w)) ws))) (λ z. Some (Inside z))
    at (Some next) ih = ih next
    at None ih = refl

first_run : (p : Piece) (place : Place) → first_step p place ≡ run state.Before (first_marks p place)
unfolding first_step
first_run p place = at (is_declaration p)
  where
    at : (v : Bool) → cond v (Some state.Before) (step state.Before p place) ≡ run state.Before (cond v [] (marks_of p place))
    at true = refl
    at false = step_run state.Before p place

pub start_leads : (place : Place) (w : Written) (ws : List Written) → leads Start place (w ∷ ws) ≡ bind (run state.Before (text_marks place (w ∷ ws))) (λ z. Some (Inside z))
unfolding advance
start_leads place w ws =
    let P = place_after place (spelled w) in
    let M = first_marks (piece_of w) place in
    ap (λ o. bind (bind o (λ z. Some (Inside z))) (λ next. leads next P ws)) (first_run (piece_of w) place)
    ∙ at (run state.Before M)
    ∙ ap (λ o. bind o (λ z. Some (Inside z))) (sym (run_append state.Before M (marks P ws)))
  where
    at : (o : Option State) → bind (bind o (λ z. Some (Inside z))) (λ next. leads next (place_after place (spelled w)) ws) ≡ bind (bind o (λ next. run next (marks (place_after place (spelled w)) ws))) (λ z. Some (Inside z))
    at (Some next) = inside_leads next (place_after place (spelled w)) ws
    at None = refl

-- ---- the grammar

pub file_leads : (place : Place) (ws : List Written) (f : ComponentFile) → IsFile (text_marks place ws) f → leads Start place ws ≡ Some (Inside (state.After f))
file_leads place [] f is = let bad = is.cut in absurd (cc)
file_leads place (w ∷ ws) f is = start_leads place w ws ∙ ap (λ o. bind o (λ z. Some (Inside z))) (file_runs (text_marks place (w ∷ ws)) f is)

-- what led inside led there by its marks
pub led_marks : (place : Place) (w : Written) (ws : List Written) (next : Progress) → leads Start place (w ∷ ws) ≡ Some next → (s : State) × (run state.Before (text_marks place (w ∷ ws)) ≡ Some s) × (Some (Inside s) ≡ Some next)
led_marks place w ws next e = bind_some (run state.Before (text_marks place (w ∷ ws))) (λ z. Some (Inside z)) next (sym (start_leads place w ws) ∙ e)

is_inside : (s t : State) → Some (Inside s) ≡ Some (Inside t) → s ≡ t
is_inside s t e = cc

pub leads_file : (place : Place) (ws : List Written) (f : ComponentFile) → leads Start place ws ≡ Some (Inside (state.After f)) → IsFile (text_marks place ws) f
leads_file place [] f e = absurd (cc)
leads_file place (w ∷ ws) f e =
    let b = led_marks place w ws (Inside (state.After f)) e in
    runs_file (text_marks place (w ∷ ws)) f (b.1 ∙ ap Some (is_inside b.0 (state.After f) b.2))
