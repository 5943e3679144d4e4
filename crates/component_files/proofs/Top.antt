-- Whole texts: the reading finds the file that stands to a text, or the line of its first fault.
use Rattle.std.proofs.Common.{◌≡◌, ℕ, zero, suc, ◌-◌, ◌<◌, ◌≤◌, false, List, [], ◌∷◌, ◌++◌, length, length-append, take, Some, None, Option, Result, Ok, Err, cond, refl, ap, sym, ◌∙◌, subst, arith}
use Rattle.std.proofs.Math.Seq.{take-append_seam}
use Rattle.std.specs.List.{flat_map}
use Rattle.xml_pieces.specs.declared.piece.Piece.{Piece}
use Rattle.xml_pieces.specs.Written.{is_empty, Written, spelled, piece_of, IsWritten, MayPrecede, StandsFirst, Cut}
use Rattle.xml_pieces.specs.Reading.{Outcome, and_then, bind, a_piece}
use Rattle.xml_pieces.proofs.Basics.{done_parts, bind_some}
use Rattle.xml_pieces.proofs.Pieces.{piece_again, piece_taken, some_spelled}
use Rattle.component_files.specs.declared.place.Place.{Place}
use Rattle.component_files.specs.declared.element.ComponentFile.{ComponentFile}
use Rattle.component_files.specs.declared.state.State.TheVariants as state
use Rattle.component_files.specs.declared.state.Progress.{Progress}
use Rattle.component_files.specs.declared.state.Progress.TheVariants.{Start, Inside}
use Rattle.component_files.specs.Places.{place_after}
use Rattle.component_files.specs.Steps.{advance}
use Rattle.component_files.specs.ComponentGrammar.{IsText, Begins, IsFirstFaultOf}
use Rattle.component_files.specs.Scan.{finish, turn, goes_on, before, scan}
use Rattle.component_files.proofs.Leads.{place_append, leads, leads_more, leads_append, file_leads, leads_file}
use Rattle.component_files.proofs.Turns.{piece_shorter}
use Rattle.component_files.proofs.Viable.{cut_append, begins}

-- ---- one turn

before_is : (u v : List ℕ) → before (u ++ v) v ≡ u
before_is u v = let n : length (u ++ v) - length v ≡ length u = omega (arith, length-append u v) in ap (λ k. take k (u ++ v)) n ∙ take-append_seam u v

not_empty : (u v : List ℕ) → 0 < length u → is_empty (u ++ v) ≡ false
not_empty [] v some = absurd (omega arith)
not_empty (b ∷ u) v some = refl

-- a scan at a piece that leads on
pub scan_piece : (n : ℕ) (place : Place) (s next : Progress) (w : Written) (behind : List ℕ) → IsWritten w → MayPrecede w behind → advance s (piece_of w) place ≡ Some next
    → scan (suc n) s place (spelled w ++ behind) ≡ scan n next (place_after place (spelled w)) behind
unfolding scan turn
scan_piece n place s next w behind good stops e =
    let bs = spelled w ++ behind in
    let p = piece_again w behind good stops in
    let some = not_empty (spelled w) behind (some_spelled w good) in
    let on : Progress → List ℕ → Result ComponentFile ℕ = λ next rest. scan n next (place_after place (before bs rest)) rest in
    ap (λ z. cond z (finish s place.line) (goes_on (turn s place bs) on place.line)) some
    ∙ ap (λ z. goes_on (and_then z (λ p rest. bind (advance s p place) (λ next. Some (next, rest)))) on place.line) p
    ∙ ap (λ z. goes_on (bind z (λ next. Some (next, behind))) on place.line) e
    ∙ ap (λ z. scan n next (place_after place z) behind) (before_is (spelled w) behind)

-- a scan at a piece that leads nowhere
scan_stuck : (n : ℕ) (place : Place) (s : Progress) (w : Written) (behind : List ℕ) → IsWritten w → MayPrecede w behind → advance s (piece_of w) place ≡ None → scan (suc n) s place (spelled w ++ behind) ≡ Err place.line
unfolding scan turn
scan_stuck n place s w behind good stops e =
    let bs = spelled w ++ behind in
    let p = piece_again w behind good stops in
    let some = not_empty (spelled w) behind (some_spelled w good) in
    let on : Progress → List ℕ → Result ComponentFile ℕ = λ next rest. scan n next (place_after place (before bs rest)) rest in
    ap (λ z. cond z (finish s place.line) (goes_on (turn s place bs) on place.line)) some
    ∙ ap (λ z. goes_on (and_then z (λ p rest. bind (advance s p place) (λ next. Some (next, rest)))) on place.line) p
    ∙ ap (λ z. goes_on (bind z (λ next. Some (next, behind))) on place.line) e

-- a scan where no piece stands
scan_none : (n : ℕ) (place : Place) (s : Progress) (b : ℕ) (bs : List ℕ) → a_piece (b ∷ bs) ≡ None → scan (suc n) s place (b ∷ bs) ≡ Err place.line
unfolding scan turn
scan_none n place s b bs e =
    let on : Progress → List ℕ → Result ComponentFile ℕ = λ next rest. scan n next (place_after place (before (b ∷ bs) rest)) rest in
    ap (λ z. goes_on (and_then z (λ p rest. bind (advance s p place) (λ next. Some (next, rest)))) on place.line) e

scan_end : (n : ℕ) (place : Place) (s : Progress) → scan n s place [] ≡ finish s place.line
unfolding scan
scan_end zero place s = refl
scan_end (suc n) place s = refl

finish_ok : (s : Progress) (line : ℕ) (f : ComponentFile) → finish s line ≡ Ok f → s ≡ Inside (state.After f)
finish_ok Start line f e = absurd (cc)
finish_ok (Inside state.Before) line f e = absurd (cc)
finish_ok (Inside (state.Component g)) line f e = absurd (cc)
finish_ok (Inside (state.Interface g)) line f e = absurd (cc)
finish_ok (Inside (state.Member g k)) line f e = absurd (cc)
finish_ok (Inside (state.Script g s)) line f e = absurd (cc)
finish_ok (Inside (state.Children g os)) line f e = absurd (cc)
finish_ok (Inside (state.After g)) line f e = cc

finish_err : (s : Progress) (line m : ℕ) → finish s line ≡ Err m → line ≡ m
finish_err Start line m e = cc
finish_err (Inside state.Before) line m e = cc
finish_err (Inside (state.Component g)) line m e = cc
finish_err (Inside (state.Interface g)) line m e = cc
finish_err (Inside (state.Member g k)) line m e = cc
finish_err (Inside (state.Script g s)) line m e = cc
finish_err (Inside (state.Children g os)) line m e = cc
finish_err (Inside (state.After g)) line m e = absurd (cc)

-- ---- what the reading gives

-- the pieces so far, and where they led
pub record Led (s : Progress) (place : Place) (text : List ℕ) (next : Progress) (now : Place) (rest : List ℕ) : Type 0 where
  pub pieces : List Written
  pub cut : Cut text pieces rest
  pub led : leads s place pieces ≡ Some next
  pub is_now : now ≡ place_after place (flat_map spelled pieces)

first_led : (place : Place) (text : List ℕ) (s mid next : Progress) (w : Written) (behind rest : List ℕ) (now : Place) → text ≡ spelled w ++ behind → IsWritten w → MayPrecede w behind → advance s (piece_of w) place ≡ Some mid
    → Led mid (place_after place (spelled w)) behind next now rest → Led s place text next now rest
first_led place text s mid next w behind rest now whole good stops e l = record {
  pieces = w ∷ l.pieces;
  cut = (behind, whole, good, stops, l.cut);
  led = leads_more s mid place w l.pieces e ∙ l.led;
  is_now = l.is_now ∙ sym (place_append place (spelled w) (flat_map spelled l.pieces));
}

here_led : (s : Progress) (place : Place) (text : List ℕ) → Led s place text s place text
here_led s place text = record { pieces = []; cut = refl; led = refl; is_now = refl }

-- a scan that stops
pub record Stopped (s : Progress) (place : Place) (text : List ℕ) (line : ℕ) : Type 0 where
  pub next : Progress
  pub rest : List ℕ
  pub now : Place
  pub led : Led s place text next now rest
  pub is_line : now.line ≡ line
  pub here : (w : Written) (behind : List ℕ) → Cut rest (w ∷ []) behind → advance next (piece_of w) now ≡ None

-- a piece that was taken, and what was led to behind it
taken_led : (place : Place) (s mid next : Progress) (text : List ℕ) (p : Piece) (behind rest : List ℕ) (now : Place) → a_piece text ≡ Some (p, behind) → advance s p place ≡ Some mid
    → Led mid (place_after place (before text behind)) behind next now rest → Led s place text next now rest
taken_led place s mid next text p behind rest now a x l =
    let t = piece_taken text p behind a in
    let w = t.written in
    let front : before text behind ≡ spelled w = ap (λ z. before z behind) t.whole ∙ before_is (spelled w) behind in
    first_led place text s mid next w behind rest now t.whole t.good t.stops (ap (λ z. advance s z place) t.same ∙ x) (subst (λ z. Led mid (place_after place z) behind next now rest) front l)

pub scan_ok : (n : ℕ) (place : Place) (s : Progress) (text : List ℕ) (f : ComponentFile) → scan n s place text ≡ Ok f → (now : Place) × Led s place text (Inside (state.After f)) now []
unfolding scan turn
scan_ok n place s [] f e =
    let same = finish_ok s place.line f (sym (scan_end n place s) ∙ e) in
    (place, subst (λ z. Led s place [] z place []) same (here_led s place []))
scan_ok zero place s (b ∷ bs) f e = absurd (cc)
scan_ok (suc n) place s (b ∷ bs) f e = taken (a_piece (b ∷ bs)) refl e (scan_ok n)
  where
    on : Progress → List ℕ → Result ComponentFile ℕ
    on next rest = scan n next (place_after place (before (b ∷ bs) rest)) rest

    Below : Type 0
    Below = (place : Place) (s : Progress) (text : List ℕ) (f : ComponentFile) → scan n s place text ≡ Ok f → (now : Place) × Led s place text (Inside (state.After f)) now []

    at : (p : Piece) (behind : List ℕ) (o : Option Progress) → a_piece (b ∷ bs) ≡ Some (p, behind) → advance s p place ≡ o → goes_on (bind o (λ next. Some (next, behind))) on place.line ≡ Ok f → Below
        → (now : Place) × Led s place (b ∷ bs) (Inside (state.After f)) now []
    at p behind (Some mid) a x h ih =
        let more = ih (place_after place (before (b ∷ bs) behind)) mid behind f h in
        (more.0, taken_led place s mid (Inside (state.After f)) (b ∷ bs) p behind [] more.0 a x more.1)
    at p behind None a x h ih = absurd (cc)

    taken : (o : Outcome Piece) → a_piece (b ∷ bs) ≡ o → goes_on (and_then o (λ p rest. bind (advance s p place) (λ next. Some (next, rest)))) on place.line ≡ Ok f → Below
        → (now : Place) × Led s place (b ∷ bs) (Inside (state.After f)) now []
    taken (Some x) a h ih = at x.0 x.1 (advance s x.0 place) a refl h ih
    taken None a h ih = absurd (cc)

-- what stands next is what was taken
same_piece : (text : List ℕ) (p : Piece) (behind : List ℕ) (w : Written) (other : List ℕ) → a_piece text ≡ Some (p, behind) → Cut text (w ∷ []) other → piece_of w ≡ p
same_piece text p behind w other a cut =
    let b = piece_again w cut.0 cut.2 cut.3 in
    let c : Some (piece_of w, cut.0) ≡ Some (p, behind) = sym b ∙ ap a_piece (sym cut.1) ∙ a in
    (done_parts (piece_of w) p cut.0 behind c).0

no_piece : (text : List ℕ) (w : Written) (other : List ℕ) → a_piece text ≡ None → Cut text (w ∷ []) other → ⊥
no_piece text w other a cut =
    let b = piece_again w cut.0 cut.2 cut.3 in
    let c : Some (piece_of w, cut.0) ≡ None = sym b ∙ ap a_piece (sym cut.1) ∙ a in
    absurd (cc)

no_text : (w : Written) (other : List ℕ) → Cut [] (w ∷ []) other → ⊥
no_text w other cut = absurd (omega (arith, ap length cut.1, length-append (spelled w) cut.0, some_spelled w cut.2))

pub scan_err : (n : ℕ) (place : Place) (s : Progress) (text : List ℕ) (m : ℕ) → length text ≤ n → scan n s place text ≡ Err m → Stopped s place text m
unfolding scan turn
scan_err n place s [] m fits e =
    let same = finish_err s place.line m (sym (scan_end n place s) ∙ e) in
    record { next = s; rest = []; now = place; led = here_led s place []; is_line = same; here = λ w behind cut. absurd (no_text w behind cut) }
scan_err zero place s (b ∷ bs) m fits e = absurd (omega arith)
scan_err (suc n) place s (b ∷ bs) m fits e = taken (a_piece (b ∷ bs)) refl e (scan_err n)
  where
    on : Progress → List ℕ → Result ComponentFile ℕ
    on next rest = scan n next (place_after place (before (b ∷ bs) rest)) rest

    Below : Type 0
    Below = (place : Place) (s : Progress) (text : List ℕ) (m : ℕ) → length text ≤ n → scan n s place text ≡ Err m → Stopped s place text m

    stuck : ((w : Written) (behind : List ℕ) → Cut (b ∷ bs) (w ∷ []) behind → advance s (piece_of w) place ≡ None) → ◌≡◌ {A = Result ComponentFile ℕ} (Err place.line) (Err m) → Stopped s place (b ∷ bs) m
    stuck none h = let same : place.line ≡ m = cc in record { next = s; rest = b ∷ bs; now = place; led = here_led s place (b ∷ bs); is_line = same; here = none }

    at : (p : Piece) (behind : List ℕ) (o : Option Progress) → a_piece (b ∷ bs) ≡ Some (p, behind) → advance s p place ≡ o → goes_on (bind o (λ next. Some (next, behind))) on place.line ≡ Err m → Below → Stopped s place (b ∷ bs) m
    at p behind (Some mid) a x h ih =
        let less = piece_shorter (b ∷ bs) p behind a in
        let more = ih (place_after place (before (b ∷ bs) behind)) mid behind m (omega arith) h in
        record { next = more.next; rest = more.rest; now = more.now; led = taken_led place s mid more.next (b ∷ bs) p behind more.rest more.now a x more.led; is_line = more.is_line; here = more.here }
    at p behind None a x h ih = stuck (λ w other cut. ap (λ z. advance s z place) (same_piece (b ∷ bs) p behind w other a cut) ∙ x) h

    taken : (o : Outcome Piece) → a_piece (b ∷ bs) ≡ o → goes_on (and_then o (λ p rest. bind (advance s p place) (λ next. Some (next, rest)))) on place.line ≡ Err m → Below → Stopped s place (b ∷ bs) m
    taken (Some x) a h ih = at x.0 x.1 (advance s x.0 place) a refl h ih
    taken None a h ih = stuck (λ w other cut. absurd (no_piece (b ∷ bs) w other a cut)) h

-- ---- what stands to a text is found

-- a scan goes through the pieces of a text
pub record Through (n : ℕ) (place : Place) (s : Progress) (text : List ℕ) (ws : List Written) (rest : List ℕ) (next : Progress) : Type 0 where
  pub left : ℕ
  pub enough : length rest ≤ left
  pub same : scan n s place text ≡ scan left next (place_after place (flat_map spelled ws)) rest

pub through : (n : ℕ) (place : Place) (s next : Progress) (text : List ℕ) (ws : List Written) (rest : List ℕ) → length text ≤ n → Cut text ws rest → leads s place ws ≡ Some next → Through n place s text ws rest next
through n place s next text [] rest fits cut e =
    let same : s ≡ next = cc in
    record { left = n; enough = subst (λ z. length z ≤ n) cut fits; same = ap (scan n s place) cut ∙ ap (λ z. scan n z place rest) same }
through zero place s next text (w ∷ ws) rest fits cut e = absurd (omega (arith, ap length cut.1, length-append (spelled w) cut.0, some_spelled w cut.2))
through (suc n) place s next text (w ∷ ws) rest fits cut e =
    let parts = bind_some (advance s (piece_of w) place) (λ z. leads z (place_after place (spelled w)) ws) next e in
    let less : length cut.0 ≤ n = omega (arith, ap length cut.1, length-append (spelled w) cut.0, some_spelled w cut.2) in
    let one = scan_piece n place s parts.0 w cut.0 cut.2 cut.3 parts.1 in
    let more = through n (place_after place (spelled w)) parts.0 next cut.0 ws rest less cut.4 parts.2 in
    let places = sym (place_append place (spelled w) (flat_map spelled ws)) in
    record { left = more.left; enough = more.enough; same = ap (scan (suc n) s place) cut.1 ∙ one ∙ more.same ∙ ap (λ k. scan more.left next k rest) places }

pub found : (place : Place) (text : List ℕ) (f : ComponentFile) → IsText place text f → scan (length text) Start place text ≡ Ok f
found place text f is =
    let t = through (length text) place Start (Inside (state.After f)) text is.pieces [] (omega arith) is.cut (file_leads place is.pieces f is.file) in
    t.same ∙ scan_end t.left (place_after place (flat_map spelled is.pieces)) (Inside (state.After f))

pub right : (place : Place) (text : List ℕ) (f : ComponentFile) → scan (length text) Start place text ≡ Ok f → IsText place text f
right place text f e =
    let l = scan_ok (length text) place Start text f e in
    record { pieces = l.1.pieces; cut = l.1.cut; file = leads_file place l.1.pieces f l.1.led }

-- a scan that finds a file has a state behind each piece
pub passes : (n : ℕ) (place : Place) (s : Progress) (text : List ℕ) (ws : List Written) (rest : List ℕ) (f : ComponentFile) → Cut text ws rest → scan n s place text ≡ Ok f → (next : Progress) × (leads s place ws ≡ Some next)
unfolding scan
passes n place s text [] rest f cut e = (s, refl)
passes zero place s text (w ∷ ws) rest f cut e =
    let some = not_empty (spelled w) cut.0 (some_spelled w cut.2) in
    let bad : ◌≡◌ {A = Result ComponentFile ℕ} (Err place.line) (Ok f) = sym (ap (λ z. cond z (finish s place.line) (Err place.line)) some) ∙ ap (scan zero s place) (sym cut.1) ∙ e in
    absurd (cc)
passes (suc n) place s text (w ∷ ws) rest f cut e = at (advance s (piece_of w) place) refl (passes n)
  where
    at : (o : Option Progress) → advance s (piece_of w) place ≡ o
        → ((place : Place) (s : Progress) (text : List ℕ) (ws : List Written) (rest : List ℕ) (f : ComponentFile) → Cut text ws rest → scan n s place text ≡ Ok f → (next : Progress) × (leads s place ws ≡ Some next))
        → (next : Progress) × (leads s place (w ∷ ws) ≡ Some next)
    at (Some mid) x ih =
        let one = scan_piece n place s mid w cut.0 cut.2 cut.3 x in
        let more = ih (place_after place (spelled w)) mid cut.0 ws rest f cut.4 (sym one ∙ ap (scan (suc n) s place) (sym cut.1) ∙ e) in
        (more.0, leads_more s mid place w ws x ∙ more.1)
    at None x ih =
        let bad : ◌≡◌ {A = Result ComponentFile ℕ} (Err place.line) (Ok f) = sym (scan_stuck n place s w cut.0 cut.2 cut.3 x) ∙ ap (scan (suc n) s place) (sym cut.1) ∙ e in
        absurd (cc)

pub begun : (place : Place) (ws : List Written) → Begins place ws → (next : Progress) × (leads Start place ws ≡ Some next)
begun place ws b = passes (length b.text) place Start b.text ws b.rest b.file b.cut (found place b.text b.file b.good)

-- ---- the first fault

bind_unit : {A : Type 0} (o : Option A) → bind o (λ a. Some a) ≡ o
bind_unit (Some a) = refl
bind_unit None = refl

-- where one piece more leads
last_leads : (place : Place) (ws : List Written) (w : Written) (next : Progress) → leads Start place ws ≡ Some next → leads Start place (ws ++ w ∷ []) ≡ advance next (piece_of w) (place_after place (flat_map spelled ws))
last_leads place ws w next e =
    leads_append Start place ws (w ∷ [])
    ∙ ap (λ o. bind o (λ z. leads z (place_after place (flat_map spelled ws)) (w ∷ []))) e
    ∙ bind_unit (advance next (piece_of w) (place_after place (flat_map spelled ws)))

pub faulty : (place : Place) (text : List ℕ) (line : ℕ) → scan (length text) Start place text ≡ Err line → IsFirstFaultOf place text line
faulty place text line e =
    let st = scan_err (length text) place Start text line (omega arith) e in
    let ws = st.led.pieces in
    record {
      pieces = ws;
      rest = st.rest;
      cut = st.led.cut;
      is_line = sym st.is_line ∙ ap (λ z. z.line) st.led.is_now;
      before = begins place text ws st.rest st.next st.led.cut st.led.led;
      here = λ w behind cut b.
          let r = begun place (ws ++ w ∷ []) b in
          let stuck : advance st.next (piece_of w) (place_after place (flat_map spelled ws)) ≡ None = ap (advance st.next (piece_of w)) (sym st.led.is_now) ∙ st.here w behind cut in
          let bad : None ≡ Some r.0 = sym stuck ∙ sym (last_leads place ws w st.next st.led.led) ∙ r.1 in
          absurd (cc);
      at_end = λ none f is. let bad : ◌≡◌ {A = Result ComponentFile ℕ} (Ok f) (Err line) = sym (found place text f is) ∙ e in absurd (cc);
    }

finish_here : (s : Progress) (line : ℕ) → ((f : ComponentFile) → s ≡ Inside (state.After f) → ⊥) → finish s line ≡ Err line
finish_here Start line h = refl
finish_here (Inside state.Before) line h = refl
finish_here (Inside (state.Component g)) line h = refl
finish_here (Inside (state.Interface g)) line h = refl
finish_here (Inside (state.Member g k)) line h = refl
finish_here (Inside (state.Script g s)) line h = refl
finish_here (Inside (state.Children g os)) line h = refl
finish_here (Inside (state.After g)) line h = absurd (h g refl)

-- no piece stands next that leads on
scan_here : (n : ℕ) (place : Place) (s : Progress) (rest : List ℕ) → length rest ≤ n → ((w : Written) (behind : List ℕ) (next : Progress) → Cut rest (w ∷ []) behind → advance s (piece_of w) place ≡ Some next → ⊥)
    → (rest ≡ [] → (f : ComponentFile) → s ≡ Inside (state.After f) → ⊥) → scan n s place rest ≡ Err place.line
scan_here n place s [] fits none end_ = scan_end n place s ∙ finish_here s place.line (end_ refl)
scan_here zero place s (b ∷ bs) fits none end_ = absurd (omega arith)
scan_here (suc n) place s (b ∷ bs) fits none end_ = taken (a_piece (b ∷ bs)) refl
  where
    at : (p : Piece) (behind : List ℕ) (k : StandsFirst (b ∷ bs) p behind) (o : Option Progress) → advance s (piece_of k.written) place ≡ o → scan (suc n) s place (b ∷ bs) ≡ Err place.line
    at p behind k (Some next) x = absurd (none k.written behind next (behind, k.whole, k.good, k.stops, refl) x)
    at p behind k None x = ap (scan (suc n) s place) k.whole ∙ scan_stuck n place s k.written behind k.good k.stops x

    taken : (o : Outcome Piece) → a_piece (b ∷ bs) ≡ o → scan (suc n) s place (b ∷ bs) ≡ Err place.line
    taken (Some x) a = let k = piece_taken (b ∷ bs) x.0 x.1 a in at x.0 x.1 k (advance s (piece_of k.written) place) refl
    taken None a = scan_none n place s b bs a

pub fault_found : (place : Place) (text : List ℕ) (line : ℕ) → IsFirstFaultOf place text line → scan (length text) Start place text ≡ Err line
fault_found place text line is =
    let ws = is.pieces in
    let m = place_after place (flat_map spelled ws) in
    let b = begun place ws is.before in
    let t = through (length text) place Start b.0 text ws is.rest (omega arith) is.cut b.1 in
    let stuck : (w : Written) (behind : List ℕ) (next : Progress) → Cut is.rest (w ∷ []) behind → advance b.0 (piece_of w) m ≡ Some next → ⊥ = λ w behind next cut x.
    is.here w behind cut (begins place text (ws ++ w ∷ []) behind next (cut_append text ws (w ∷ []) is.rest behind is.cut cut) (last_leads place ws w b.0 b.1 ∙ x)) in
    let end_ : is.rest ≡ [] → (f : ComponentFile) → b.0 ≡ Inside (state.After f) → ⊥ = λ none f same.
    is.at_end none f (record { pieces = ws; cut = subst (λ z. Cut text ws z) none is.cut; file = leads_file place ws f (b.1 ∙ ap Some same) }) in
    t.same ∙ scan_here t.left m b.0 is.rest t.enough stuck end_ ∙ ap Err (sym is.is_line)
