-- The states that marks lead to, and the grammar.
use Rattle.std.proofs.Common.{◌≡◌, ℕ, zero, suc, ◌+◌, ◌<◌, ◌≤◌, Bool, true, List, [], ◌∷◌, ◌++◌, length, codes, Some, None, Option, cond, refl, ap, sym, ◌∙◌, subst, append_assoc, append-nil, arith, lit≤}
use Rattle.std.specs.Prelude.{nat_eq, nat_lt}
use Rattle.xml_pieces.specs.declared.piece.Tag.{Tag}
use Rattle.xml_pieces.specs.declared.piece.Piece.{Piece}
use Rattle.xml_pieces.specs.declared.piece.Piece.TheVariants as piece
use Rattle.xml_pieces.specs.Reading.{bind}
use Rattle.xml_pieces.proofs.Basics.{and_parts, and_both}
use Rattle.std.proofs.lemmas.Bool.{eqb-true}
use borrow.Author.Tests.{lt-ltb}
use Rattle.component_files.specs.declared.place.Place.{Place}
use Rattle.component_files.specs.declared.element.ComponentFile.{ComponentFile}
use Rattle.component_files.specs.declared.element.InlineScript.{InlineScript}
use Rattle.component_files.specs.declared.element.ChildElement.{ChildElement}
use Rattle.component_files.specs.declared.stack.OpenChild.{OpenChild}
use Rattle.component_files.specs.declared.state.State.{State}
use Rattle.component_files.specs.declared.state.State.TheVariants as state
use Rattle.component_files.specs.declared.state.MemberKind.{MemberKind}
use Rattle.component_files.specs.declared.state.MemberKind.TheVariants as kind
use Rattle.component_files.specs.Elements.{same, alike, header, field, function, script, is_whole, are_unlike, child, opening_child}
use Rattle.component_files.specs.Steps.{with_child, opened_part, opened_member, member_name, opened, shut, closes, ended, with_data, step}
use Rattle.component_files.specs.ComponentGrammar.{Mark, Open, Close, Data, Wrong, marks_of, fits, Each, Member, Field, Function, Members, with_member, with_members, data_marks, Child, Part, Interface, Script, Children, Parts, with_part, with_parts, IsFile}

-- the state behind a mark
abbrev pub closed : State → Option (List ℕ) → Option State
closed s None = shut s
closed s (Some n) = ended s n

abbrev pub move : State → Mark → Option State
move s (Open t place) = opened s t place
move s (Close close) = closed s close
move s (Data d) = with_data s d.text d.first_line
move s Wrong = None

abbrev pub run : State → List Mark → Option State
run s [] = Some s
run s (m ∷ ms) = bind (move s m) (λ next. run next ms)

bind_unit : {A : Type 0} (o : Option A) → bind o (λ a. Some a) ≡ o
bind_unit (Some a) = refl
bind_unit None = refl

-- a piece leads where its marks do
pub step_run : (s : State) (p : Piece) (place : Place) → step s p place ≡ run s (marks_of p place)
unfolding step
step_run s piece.Declaration place = refl
step_run s piece.Comment place = refl
step_run s piece.Blank place = refl
step_run s piece.Stray place = refl
step_run s (piece.Data text) place = sym (bind_unit (with_data s text place.line))
step_run s (piece.Start t) place = sym (bind_unit (opened s t place))
step_run s (piece.Empty t) place = at (opened s t place)
  where
    at : (o : Option State) → bind o shut ≡ bind o (λ next. bind (shut next) (λ z. Some z))
    at (Some next) = sym (bind_unit (shut next))
    at None = refl
step_run s (piece.End n) place = sym (bind_unit (ended s n))

pub run_append : (s : State) (a b : List Mark) → run s (a ++ b) ≡ bind (run s a) (λ next. run next b)
run_append s [] b = refl
run_append s (m ∷ a) b = at (move s m) (λ next. run_append next a b)
  where
    at : (o : Option State) → ((next : State) → run next (a ++ b) ≡ bind (run next a) (λ z. run z b)) → bind o (λ next. run next (a ++ b)) ≡ bind (bind o (λ next. run next a)) (λ z. run z b)
    at (Some next) ih = ih next
    at None ih = refl

-- what leads on, in two parts
pub runs_on : (s t u : State) (a b : List Mark) → run s a ≡ Some t → run t b ≡ Some u → run s (a ++ b) ≡ Some u
runs_on s t u a b e f = run_append s a b ∙ ap (λ o. bind o (λ next. run next b)) e ∙ f

pub same_fits : (test : List ℕ → Bool) (s next : State) (close : Option (List ℕ)) → ((n : List ℕ) → closes s n ≡ test n) → fits test close ≡ true → shut s ≡ Some next → move s (Close close) ≡ Some next
same_fits test s next None h e f = f
same_fits test s next (Some n) h e f = ap (λ z. cond z (shut s) None) (h n ∙ e) ∙ f

pub same_moves : (s next : State) (m : Mark) (ms : List Mark) (o : Option State) → move s m ≡ Some next → run next ms ≡ o → run s (m ∷ ms) ≡ o
same_moves s next m ms o e f = ap (λ z. bind z (λ next. run next ms)) e ∙ f

-- ---- what the grammar relates is led to

pub each_runs : {A : Type 0} (at : List A → State) (r : List Mark → A → Type 0) → ((found : List A) (ms : List Mark) (x : A) → r ms x → run (at found) ms ≡ Some (at (found ++ x ∷ [])))
    → (found : List A) (ms : List Mark) (xs : List A) → Each r ms xs → run (at found) ms ≡ Some (at (found ++ xs))
each_runs at r turn found ms [] e = ap (run (at found)) e ∙ ap (λ z. Some (at z)) (sym (append-nil found))
each_runs at r turn found ms (x ∷ xs) (front, back, cut, one, more) =
    ap (run (at found)) cut
    ∙ runs_on (at found) (at (found ++ x ∷ [])) (at ((found ++ x ∷ []) ++ xs)) front back (turn found front x one) (each_runs at r turn (found ++ x ∷ []) back xs more)
    ∙ ap (λ z. Some (at z)) (append_assoc found (x ∷ []) xs)

-- names that pass the test are the same
pub same_is : (a b : List ℕ) → same a b ≡ true → a ≡ b
same_is [] [] e = refl
same_is [] (y ∷ b) e = absurd (cc)
same_is (x ∷ a) [] e = absurd (cc)
same_is (x ∷ a) (y ∷ b) e = let parts = and_parts (nat_eq x y) (same a b) e in ap (λ z. z ∷ a) (eqb-true x y parts.0) ∙ ap (λ z. y ∷ z) (same_is a b parts.1)

pub members_more : (f : ComponentFile) (found : List Member) (m : Member) → with_members f (found ++ m ∷ []) ≡ with_member (with_members f found) m
members_more f [] m = refl
members_more f (x ∷ found) m = members_more (with_member f x) found m

abbrev in_members : ComponentFile → List Member → State
in_members f ms = state.Interface (with_members f ms)

-- a member that is opened and closed
empty_runs : (g : ComponentFile) (k : MemberKind) (s : State) (t : Tag) (place : Place) (close : Option (List ℕ)) → opened s t place ≡ Some (state.Member g k) → fits (same (member_name k)) close ≡ true
    → run s (Open t place ∷ (Close close ∷ [])) ≡ Some (state.Interface g)
empty_runs g k s t place close e named =
    same_moves s (state.Member g k) (Open t place) (Close close ∷ []) _ e
    (same_moves (state.Member g k) (state.Interface g) (Close close) [] _ (same_fits (same (member_name k)) (state.Member g k) (state.Interface g) close (λ n. refl) named refl) refl)

opens_field : (f : ComponentFile) (t : Tag) (place : Place) → same t.name (codes "field") ≡ true → opened_member f t place ≡ bind (field t place) (λ e. Some (state.Member (record f { fields = f.fields ++ e ∷ [] }) kind.Field))
unfolding opened_member
opens_field f t place e = let is = same_is t.name (codes "field") e in rw is refl

opens_function : (f : ComponentFile) (t : Tag) (place : Place) → same t.name (codes "function") ≡ true
    → opened_member f t place ≡ bind (function t place) (λ e. Some (state.Member (record f { functions = f.functions ++ e ∷ [] }) kind.Function))
unfolding opened_member
opens_function f t place e = let is = same_is t.name (codes "function") e in rw is refl

member_runs : (f : ComponentFile) (found : List Member) (ms : List Mark) (m : Member) → Members ms m → run (in_members f found) ms ≡ Some (in_members f (found ++ m ∷ []))
member_runs f found ms (Field e) is =
    let g = with_members f found in
    ap (run (state.Interface g)) is.cut
    ∙ empty_runs (with_member g (Field e)) kind.Field (state.Interface g) is.tag is.place is.close
    (opens_field g is.tag is.place is.begins ∙ ap (λ z. bind z (λ e. Some (state.Member (record g { fields = g.fields ++ e ∷ [] }) kind.Field))) is.says) is.named
    ∙ ap (λ z. Some (state.Interface z)) (sym (members_more f found (Field e)))
member_runs f found ms (Function e) is =
    let g = with_members f found in
    ap (run (state.Interface g)) is.cut
    ∙ empty_runs (with_member g (Function e)) kind.Function (state.Interface g) is.tag is.place is.close
    (opens_function g is.tag is.place is.begins ∙ ap (λ z. bind z (λ e. Some (state.Member (record g { functions = g.functions ++ e ∷ [] }) kind.Function))) is.says) is.named
    ∙ ap (λ z. Some (state.Interface z)) (sym (members_more f found (Function e)))

-- an open child, or the file, with more children
abbrev pub in_children : ComponentFile → List OpenChild → List ChildElement → State
in_children f [] cs = state.Children (record f { children = f.children ++ cs }) []
in_children f (o ∷ os) cs = state.Children f (record o { children = o.children ++ cs } ∷ os)

no_more : (f : ComponentFile) (os : List OpenChild) → in_children f os [] ≡ state.Children f os
no_more f [] = ap (λ z. state.Children (record f { children = z }) []) (append-nil f.children)
no_more f (o ∷ os) = ap (λ z. state.Children f (record o { children = z } ∷ os)) (append-nil o.children)

pub child_opens : (f : ComponentFile) (os : List OpenChild) (t : Tag) (place : Place) → length os < 64 → are_unlike t.attributes ≡ true
    → opened (state.Children f os) t place ≡ Some (state.Children f (opening_child t place ∷ os))
child_opens f os t place below distinct =
    let e = and_both (nat_lt (length os) 64) (are_unlike t.attributes) (lt-ltb (length os) 64 below) distinct in
    ap (λ z. cond z (Some (state.Children f (opening_child t place ∷ os))) None) e

shuts : (f : ComponentFile) (os : List OpenChild) (c c' : ChildElement) → c ≡ c' → with_child f os c' ≡ in_children f os (c ∷ [])
shuts f [] c c' e = ap (λ z. in_children f [] (z ∷ [])) (sym e)
shuts f (o ∷ os) c c' e = ap (λ z. in_children f (o ∷ os) (z ∷ [])) (sym e)

pub child_runs : (n : ℕ) (f : ComponentFile) (os : List OpenChild) (ms : List Mark) (c : ChildElement) → length os + n ≤ 64 → Child n ms c → run (state.Children f os) ms ≡ Some (in_children f os (c ∷ []))
unfolding Child
child_runs zero f os ms c fits_ is = absurd is
child_runs (suc n) f os ms c fits_ is =
    let o = opening_child is.tag is.place in
    let inner : State = state.Children f (o ∷ os) in
    let full : State = in_children f (o ∷ os) is.children in
    let below : length os < 64 = omega arith in
    let deeper : length (o ∷ os) + n ≤ 64 = omega arith in
    let body = each_runs (in_children f (o ∷ os)) (Child n) (λ found ms x inside. child_runs n f (record o { children = found } ∷ os) ms x deeper inside) [] is.body is.children is.inside in
    ap (run (state.Children f os)) is.cut
    ∙ same_moves (state.Children f os) inner (Open is.tag is.place) (is.body ++ Close is.close ∷ []) _ (child_opens f os is.tag is.place below is.distinct)
    (runs_on inner full (in_children f os (c ∷ [])) is.body (Close is.close ∷ []) body
    (same_moves full (in_children f os (c ∷ [])) (Close is.close) [] _
    (same_fits (alike is.tag.name) full (in_children f os (c ∷ [])) is.close (λ n. refl) is.named (ap Some (shuts f os c (child o is.children) is.says))) refl))

opens_interface : (f : ComponentFile) (t : Tag) (place : Place) → same t.name (codes "interface") ≡ true → opened_part f t place ≡ Some (state.Interface f)
unfolding opened_part
opens_interface f t place e = let is = same_is t.name (codes "interface") e in rw is refl

opens_script : (f : ComponentFile) (t : Tag) (place : Place) → same t.name (codes "script") ≡ true → opened_part f t place ≡ Some (state.Script f (script t place))
unfolding opened_part
opens_script f t place e = let is = same_is t.name (codes "script") e in rw is refl

opens_children : (f : ComponentFile) (t : Tag) (place : Place) → same t.name (codes "children") ≡ true → opened_part f t place ≡ Some (state.Children f [])
unfolding opened_part
opens_children f t place e = let is = same_is t.name (codes "children") e in rw is refl

script_runs : (f : ComponentFile) (t : Tag) (place : Place) (text : Option InlineScript) (close : Option (List ℕ)) → fits (same (codes "script")) close ≡ true → is_whole (record (script t place) { inline = text }) ≡ true
    → run (state.Script f (script t place)) (data_marks text ++ Close close ∷ []) ≡ Some (state.Component (record f { scripts = f.scripts ++ record (script t place) { inline = text } ∷ [] }))
script_runs f t place None close named whole =
    let s = script t place in
    let next = state.Component (record f { scripts = f.scripts ++ s ∷ [] }) in
    same_moves (state.Script f s) next (Close close) [] _ (same_fits (same (codes "script")) (state.Script f s) next close (λ n. refl) named (ap (λ z. cond z (Some next) None) whole)) refl
script_runs f t place (Some text) close named whole =
    let s = record (script t place) { inline = Some text } in
    let next = state.Component (record f { scripts = f.scripts ++ s ∷ [] }) in
    same_moves (state.Script f s) next (Close close) [] _ (same_fits (same (codes "script")) (state.Script f s) next close (λ n. refl) named (ap (λ z. cond z (Some next) None) whole)) refl

part_runs : (f : ComponentFile) (ms : List Mark) (p : Part) → Parts ms p → run (state.Component f) ms ≡ Some (state.Component (with_part f p))
part_runs f ms (Interface all) is =
    let full = in_members f all in
    ap (run (state.Component f)) is.cut
    ∙ same_moves (state.Component f) (state.Interface f) (Open is.tag is.place) (is.body ++ Close is.close ∷ []) _ (opens_interface f is.tag is.place is.begins)
    (runs_on (in_members f []) full (state.Component (with_part f (Interface all))) is.body (Close is.close ∷ []) (each_runs (in_members f) Members (member_runs f) [] is.body all is.inside)
    (same_moves full (state.Component (with_part f (Interface all))) (Close is.close) [] _ (same_fits (same (codes "interface")) full (state.Component (with_part f (Interface all))) is.close (λ n. refl) is.named refl) refl))
part_runs f ms (Script s) is =
    ap (run (state.Component f)) is.cut
    ∙ same_moves (state.Component f) (state.Script f (script is.tag is.place)) (Open is.tag is.place) (data_marks is.inline ++ Close is.close ∷ []) _ (opens_script f is.tag is.place is.begins)
    (script_runs f is.tag is.place is.inline is.close is.named (subst (λ z. is_whole z ≡ true) is.says is.whole))
    ∙ ap (λ z. Some (state.Component (record f { scripts = f.scripts ++ z ∷ [] }))) (sym is.says)
part_runs f ms (Children cs) is =
    let full = in_children f [] cs in
    ap (run (state.Component f)) is.cut
    ∙ same_moves (state.Component f) (state.Children f []) (Open is.tag is.place) (is.body ++ Close is.close ∷ []) _ (opens_children f is.tag is.place is.begins)
    (ap (λ z. run z (is.body ++ Close is.close ∷ [])) (sym (no_more f []))
    ∙ runs_on (in_children f [] []) full (state.Component (with_part f (Children cs))) is.body (Close is.close ∷ [])
    (each_runs (in_children f []) (Child 64) (λ found ms x inside. child_runs 64 (record f { children = f.children ++ found }) [] ms x (lit≤ tt) inside ∙ ap (λ z. Some (state.Children (record f { children = z }) [])) (append_assoc f.children found (x ∷ []))) [] is.body cs is.inside)
    (same_moves full (state.Component (with_part f (Children cs))) (Close is.close) [] _ (same_fits (same (codes "children")) full (state.Component (with_part f (Children cs))) is.close (λ n. refl) is.named refl) refl))

parts_more : (f : ComponentFile) (found : List Part) (p : Part) → with_parts f (found ++ p ∷ []) ≡ with_part (with_parts f found) p
parts_more f [] p = refl
parts_more f (q ∷ found) p = parts_more (with_part f q) found p

opens_component : (t : Tag) (place : Place) → same t.name (codes "component") ≡ true → opened state.Before t place ≡ bind (header t place) (λ f. Some (state.Component f))
opens_component t place e = ap (λ v. cond v (bind (header t place) (λ f. Some (state.Component f))) None) e

pub file_runs : (ms : List Mark) (f : ComponentFile) → IsFile ms f → run state.Before ms ≡ Some (state.After f)
file_runs ms f is =
    let at : List Part → State = λ ps. state.Component (with_parts is.head ps) in
    let full = at is.parts in
    let done = state.After (with_parts is.head is.parts) in
    ap (run state.Before) is.cut
    ∙ same_moves state.Before (state.Component is.head) (Open is.tag is.place) (is.body ++ Close is.close ∷ []) _ (opens_component is.tag is.place is.begins ∙ ap (λ z. bind z (λ f. Some (state.Component f))) is.heads)
    (runs_on (state.Component is.head) full done is.body (Close is.close ∷ [])
    (each_runs at Parts (λ found ms p inside. part_runs (with_parts is.head found) ms p inside ∙ ap (λ z. Some (state.Component z)) (sym (parts_more is.head found p))) [] is.body is.parts is.inside)
    (same_moves full done (Close is.close) [] _ (same_fits (same (codes "component")) full done is.close (λ n. refl) is.named refl) refl))
    ∙ ap (λ z. Some (state.After z)) (sym is.says)
