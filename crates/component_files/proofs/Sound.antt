-- What leads to the end is related by the grammar: for each state, what the marks that lead from it to the end have to be.
use Rattle.std.proofs.Common.{◌≡◌, ℕ, suc, ◌-◌, ◌<◌, Bool, true, ◌⊎◌, inl, inr, List, [], ◌∷◌, ◌++◌, length, codes, Some, None, Option, refl, ap, sym, ◌∙◌, subst, append_assoc, append-nil, arith}
use Rattle.std.specs.Prelude.{nat_lt, ◌&&◌}
use Rattle.xml_pieces.specs.declared.piece.Tag.{Tag}
use Rattle.xml_pieces.specs.Reading.{bind}
use Rattle.xml_pieces.proofs.Basics.{and_parts, bind_some, chosen}
use borrow.Author.Tests.{ltb-true}
use Rattle.component_files.specs.declared.place.Place.{Place}
use Rattle.component_files.specs.declared.element.ComponentFile.{ComponentFile}
use Rattle.component_files.specs.declared.element.InlineScript.{InlineScript}
use Rattle.component_files.specs.declared.element.ScriptElement.{ScriptElement}
use Rattle.component_files.specs.declared.element.ChildElement.{ChildElement}
use Rattle.component_files.specs.declared.stack.OpenChild.{OpenChild}
use Rattle.component_files.specs.declared.state.State.{State}
use Rattle.component_files.specs.declared.state.State.TheVariants as state
use Rattle.component_files.specs.declared.state.MemberKind.{MemberKind}
use Rattle.component_files.specs.declared.state.MemberKind.TheVariants as kind
use Rattle.component_files.specs.Elements.{same, alike, header, field, function, script, is_whole, are_unlike, child, opening_child}
use Rattle.component_files.specs.Steps.{with_child, opened_part, opened_member, member_name, shut, closes, added}
use Rattle.component_files.specs.ComponentGrammar.{Mark, Open, Close, Data, Wrong, fits, Each, Member, Field, Function, Members, with_member, with_members, Child, Part, Interface, Script, Children, Parts, with_parts, IsFile}
use Rattle.component_files.proofs.Machine.{closed, move, run}

-- elements one after another, a closing mark, and more
record Elements (A : Type 0) (inner : List Mark → A → Type 0) (test : List ℕ → Bool) (after : List A → List Mark → Type 0) (ms : List Mark) : Type 0 where
  pub body : List Mark
  pub all : List A
  pub close : Option (List ℕ)
  pub more : List Mark
  pub cut : ms ≡ body ++ Close close ∷ more
  pub named : fits test close ≡ true
  pub inside : Each inner body all
  pub rest : after all more

one_more : {A : Type 0} {inner : List Mark → A → Type 0} {test : List ℕ → Bool} {after after' : List A → List Mark → Type 0} {ms : List Mark} (front : List Mark) (x : A) → inner front x
    → ((all : List A) (more : List Mark) → after all more → after' (x ∷ all) more) → Elements A inner test after ms → Elements A inner test after' (front ++ ms)
one_more front x is on e = record {
  body = front ++ e.body;
  all = x ∷ e.all;
  close = e.close;
  more = e.more;
  cut = ap (λ z. front ++ z) e.cut ∙ sym (append_assoc front e.body (Close e.close ∷ e.more));
  named = e.named;
  inside = (front, e.body, refl, is, e.inside);
  rest = on e.all e.more e.rest;
}

none_more : {A : Type 0} {inner : List Mark → A → Type 0} {test : List ℕ → Bool} {after : List A → List Mark → Type 0} (close : Option (List ℕ)) (more : List Mark) → fits test close ≡ true → after [] more
    → Elements A inner test after (Close close ∷ more)
none_more close more named rest = record { body = []; all = []; close = close; more = more; cut = refl; named = named; inside = refl; rest = rest }

onward : {A : Type 0} {inner : List Mark → A → Type 0} {test : List ℕ → Bool} {after after' : List A → List Mark → Type 0} {ms : List Mark}
    → ((all : List A) (more : List Mark) → after all more → after' all more) → Elements A inner test after ms → Elements A inner test after' ms
onward on e = record { body = e.body; all = e.all; close = e.close; more = e.more; cut = e.cut; named = e.named; inside = e.inside; rest = on e.all e.more e.rest }

RestComponent : ComponentFile → List Mark → ComponentFile → Type 0
RestComponent f ms g = Elements Part Parts (same (codes "component")) (λ ps more. (more ≡ []) × (g ≡ with_parts f ps)) ms

RestInterface : ComponentFile → List Mark → ComponentFile → Type 0
RestInterface f ms g = Elements Member Members (same (codes "interface")) (λ all more. RestComponent (with_members f all) more g) ms

record RestMember (f : ComponentFile) (k : MemberKind) (ms : List Mark) (g : ComponentFile) : Type 0 where
  pub close : Option (List ℕ)
  pub more : List Mark
  pub cut : ms ≡ Close close ∷ more
  pub named : fits (same (member_name k)) close ≡ true
  pub rest : RestInterface f more g

record ScriptShut (f : ComponentFile) (s : ScriptElement) (ms : List Mark) (g : ComponentFile) : Type 0 where
  pub close : Option (List ℕ)
  pub more : List Mark
  pub cut : ms ≡ Close close ∷ more
  pub named : fits (same (codes "script")) close ≡ true
  pub whole : is_whole s ≡ true
  pub rest : RestComponent (record f { scripts = f.scripts ++ s ∷ [] }) more g

RestScript : ComponentFile → ScriptElement → List Mark → ComponentFile → Type 0
RestScript f s ms g = ScriptShut f s ms g ⊎ ((text : InlineScript) × (more : List Mark) × (s.inline ≡ None) × (ms ≡ Data text ∷ more) × ScriptShut f (record s { inline = Some text }) more g)

-- `extra` are children that the innermost open element has besides
RestChildren : ComponentFile → List ChildElement → List OpenChild → List Mark → ComponentFile → Type 0
RestChildren f extra [] ms g = Elements ChildElement (Child 64) (same (codes "children")) (λ cs more. RestComponent (record f { children = f.children ++ (extra ++ cs) }) more g) ms
RestChildren f extra (o ∷ os) ms g =
    Elements ChildElement (Child (64 - suc (length os))) (alike o.kind) (λ cs more. RestChildren f (child o (o.children ++ (extra ++ cs)) ∷ []) os more g) ms

Rest : State → List Mark → ComponentFile → Type 0
Rest state.Before ms g = IsFile ms g
Rest (state.Component f) ms g = RestComponent f ms g
Rest (state.Interface f) ms g = RestInterface f ms g
Rest (state.Member f k) ms g = RestMember f k ms g
Rest (state.Script f s) ms g = RestScript f s ms g
Rest (state.Children f os) ms g = RestChildren f [] os ms g
Rest (state.After f) ms g = (ms ≡ []) × (g ≡ f)

closed_parts : (test : List ℕ → Bool) (s next : State) (close : Option (List ℕ)) → ((n : List ℕ) → closes s n ≡ test n) → closed s close ≡ Some next → (fits test close ≡ true) × (shut s ≡ Some next)
closed_parts test s next None h e = (refl, e)
closed_parts test s next (Some n) h e = elim (chosen (closes s n) (shut s) None (Some next) e) [
  | inl x ↦ (sym (h n) ∙ x.0, x.1)
  | inr x ↦ absurd (cc)
]

is_next : (s next : State) → Some s ≡ Some next → s ≡ next
is_next s next e = cc

at_interface : (f : ComponentFile) (next : State) (ms : List Mark) (g : ComponentFile) → Some (state.Interface f) ≡ Some next → Rest next ms g → RestInterface f ms g
unfolding Rest
at_interface f next ms g e rest = subst (λ z. Rest z ms g) (sym (is_next (state.Interface f) next e)) rest

at_script : (f : ComponentFile) (s : ScriptElement) (next : State) (ms : List Mark) (g : ComponentFile) → Some (state.Script f s) ≡ Some next → Rest next ms g → RestScript f s ms g
unfolding Rest
at_script f s next ms g e rest = subst (λ z. Rest z ms g) (sym (is_next (state.Script f s) next e)) rest

at_children : (f : ComponentFile) (os : List OpenChild) (next : State) (ms : List Mark) (g : ComponentFile) → Some (state.Children f os) ≡ Some next → Rest next ms g → RestChildren f [] os ms g
unfolding Rest
at_children f os next ms g e rest = subst (λ z. Rest z ms g) (sym (is_next (state.Children f os) next e)) rest

end_component : (f : ComponentFile) (next : State) (ms : List Mark) (g : ComponentFile) (close : Option (List ℕ)) → fits (same (codes "component")) close ≡ true → shut (state.Component f) ≡ Some next → Rest next ms g → RestComponent f (Close close ∷ ms) g
unfolding Rest RestComponent
end_component f next ms g close named e rest = none_more close ms named (subst (λ z. Rest z ms g) (sym (is_next (state.After f) next e)) rest)

after_data : (f : ComponentFile) (s : ScriptElement) (next : State) (text : InlineScript) (ms : List Mark) (g : ComponentFile) → s.inline ≡ None → Some (state.Script f (record s { inline = Some text })) ≡ Some next → Rest next ms g
    → RestScript f s (Data text ∷ ms) g
unfolding RestScript
after_data f s next text ms g none e rest = elim (at_script f (record s { inline = Some text }) next ms g e rest) [
  | inl r ↦ inr (text, ms, none, refl, r)
  | inr x ↦ let bad : Some text ≡ None = x.2 in absurd (cc)
]

rest_end : (g : ComponentFile) → Rest (state.After g) [] g
unfolding Rest
rest_end g = (refl, refl)

-- ---- one mark back, state by state

from_before : (next : State) (m : Mark) (ms : List Mark) (g : ComponentFile) → move state.Before m ≡ Some next → Rest next ms g → IsFile (m ∷ ms) g
unfolding Rest RestComponent
from_before next (Open t place) ms g e rest =
    let n = chosen (same t.name (codes "component")) (bind (header t place) (λ f. Some (state.Component f))) None (Some next) e in
    elim n [
      | inl x ↦
          let h = bind_some (header t place) (λ f. Some (state.Component f)) next x.1 in
          let r = subst (λ z. Rest z ms g) (sym (is_next (state.Component h.0) next h.2)) rest in
          record {
            tag = t;
            place = place;
            body = r.body;
            parts = r.all;
            close = r.close;
            head = h.0;
            cut = ap (λ z. Open t place ∷ z) r.cut ∙ ap (λ z. Open t place ∷ (r.body ++ Close r.close ∷ z)) r.rest.0;
            begins = x.0;
            heads = h.1;
            named = r.named;
            inside = r.inside;
            says = r.rest.1;
          }
      | inr x ↦ absurd (cc)
    ]
from_before next (Close None) ms g e rest = absurd (cc)
from_before next (Close (Some n)) ms g e rest = absurd (cc)
from_before next (Data text) ms g e rest = absurd (cc)
from_before next Wrong ms g e rest = absurd (cc)

interface_part : (f : ComponentFile) (t : Tag) (place : Place) (ms : List Mark) (g : ComponentFile) → same t.name (codes "interface") ≡ true → RestInterface f ms g → RestComponent f (Open t place ∷ ms) g
unfolding RestComponent RestInterface
interface_part f t place ms g named r =
    let front = Open t place ∷ (r.body ++ Close r.close ∷ []) in
    let shape : Open t place ∷ ms ≡ front ++ r.more = ap (λ z. Open t place ∷ z) (r.cut ∙ sym (append_assoc r.body (Close r.close ∷ []) r.more)) in
    let part : Parts front (Interface r.all) = record { tag = t; place = place; body = r.body; close = r.close; cut = refl; begins = named; named = r.named; inside = r.inside } in
    subst (λ z. RestComponent f z g) (sym shape) (one_more front (Interface r.all) part (λ all more h. h) r.rest)

script_part : (f : ComponentFile) (t : Tag) (place : Place) (ms : List Mark) (g : ComponentFile) → same t.name (codes "script") ≡ true → RestScript f (script t place) ms g → RestComponent f (Open t place ∷ ms) g
unfolding RestComponent RestScript
script_part f t place ms g named (inl r) =
    let front = Open t place ∷ (Close r.close ∷ []) in
    let s = script t place in
    let shape : Open t place ∷ ms ≡ front ++ r.more = ap (λ z. Open t place ∷ z) r.cut in
    let part : Parts front (Script s) = record { tag = t; place = place; inline = None; close = r.close; cut = refl; begins = named; named = r.named; says = refl; whole = r.whole } in
    subst (λ z. RestComponent f z g) (sym shape) (one_more front (Script s) part (λ all more h. h) r.rest)
script_part f t place ms g named (inr x) =
    let r = x.4 in
    let front = Open t place ∷ (Data x.0 ∷ (Close r.close ∷ [])) in
    let s = record (script t place) { inline = Some x.0 } in
    let shape : Open t place ∷ ms ≡ front ++ r.more = ap (λ z. Open t place ∷ z) x.3 ∙ ap (λ z. Open t place ∷ (Data x.0 ∷ z)) r.cut in
    let part : Parts front (Script s) = record { tag = t; place = place; inline = Some x.0; close = r.close; cut = refl; begins = named; named = r.named; says = refl; whole = r.whole } in
    subst (λ z. RestComponent f z g) (sym shape) (one_more front (Script s) part (λ all more h. h) r.rest)

children_part : (f : ComponentFile) (t : Tag) (place : Place) (ms : List Mark) (g : ComponentFile) → same t.name (codes "children") ≡ true → RestChildren f [] [] ms g → RestComponent f (Open t place ∷ ms) g
unfolding RestComponent RestChildren
children_part f t place ms g named r =
    let front = Open t place ∷ (r.body ++ Close r.close ∷ []) in
    let shape : Open t place ∷ ms ≡ front ++ r.more = ap (λ z. Open t place ∷ z) (r.cut ∙ sym (append_assoc r.body (Close r.close ∷ []) r.more)) in
    let part : Parts front (Children r.all) = record { tag = t; place = place; body = r.body; close = r.close; cut = refl; begins = named; named = r.named; inside = r.inside } in
    subst (λ z. RestComponent f z g) (sym shape) (one_more front (Children r.all) part (λ all more h. h) r.rest)

from_component : (f : ComponentFile) (next : State) (m : Mark) (ms : List Mark) (g : ComponentFile) → move (state.Component f) m ≡ Some next → Rest next ms g → RestComponent f (m ∷ ms) g
unfolding opened_part
from_component f next (Open t place) ms g e rest = elim (chosen (same t.name (codes "interface")) (Some (state.Interface f)) _ (Some next) e) [
  | inl x ↦ interface_part f t place ms g x.0 (at_interface f next ms g x.1 rest)
  | inr x ↦ elim (chosen (same t.name (codes "script")) (Some (state.Script f (script t place))) _ (Some next) x.1) [
    | inl y ↦ script_part f t place ms g y.0 (at_script f (script t place) next ms g y.1 rest)
    | inr y ↦ elim (chosen (same t.name (codes "children")) (Some (state.Children f [])) None (Some next) y.1) [
      | inl z ↦ children_part f t place ms g z.0 (at_children f [] next ms g z.1 rest)
      | inr z ↦ absurd (cc)
    ]
  ]
]
from_component f next (Close close) ms g e rest =
    let c = closed_parts (same (codes "component")) (state.Component f) next close (λ n. refl) e in
    end_component f next ms g close c.0 c.1 rest
from_component f next (Data text) ms g e rest = absurd (cc)
from_component f next Wrong ms g e rest = absurd (cc)

opened_rest : (g' : ComponentFile) (k : MemberKind) (next : State) (ms : List Mark) (g : ComponentFile) → Some (state.Member g' k) ≡ Some next → Rest next ms g → RestMember g' k ms g
unfolding Rest
opened_rest g' k next ms g e rest = subst (λ z. Rest z ms g) (sym (is_next (state.Member g' k) next e)) rest

member_front : (f : ComponentFile) (t : Tag) (place : Place) (k : MemberKind) (m : Member) (ms : List Mark) (g : ComponentFile)
    → ((close : Option (List ℕ)) → fits (same (member_name k)) close ≡ true → Members (Open t place ∷ (Close close ∷ [])) m) → RestMember (with_member f m) k ms g → RestInterface f (Open t place ∷ ms) g
unfolding RestInterface
member_front f t place k m ms g is r =
    let front = Open t place ∷ (Close r.close ∷ []) in
    let shape : Open t place ∷ ms ≡ front ++ r.more = ap (λ z. Open t place ∷ z) r.cut in
    subst (λ z. RestInterface f z g) (sym shape) (one_more front m (is r.close r.named) (λ all more h. h) r.rest)

from_interface : (f : ComponentFile) (next : State) (m : Mark) (ms : List Mark) (g : ComponentFile) → move (state.Interface f) m ≡ Some next → Rest next ms g → RestInterface f (m ∷ ms) g
unfolding Rest RestInterface opened_member
from_interface f next (Open t place) ms g e rest = elim (chosen (same t.name (codes "field")) (bind (field t place) (λ x. Some (state.Member (record f { fields = f.fields ++ x ∷ [] }) kind.Field))) _ (Some next) e) [
  | inl x ↦
      let h = bind_some (field t place) (λ x. Some (state.Member (record f { fields = f.fields ++ x ∷ [] }) kind.Field)) next x.1 in
      member_front f t place kind.Field (Field h.0) ms g (λ close named. record { tag = t; place = place; close = close; cut = refl; begins = x.0; named = named; says = h.1 })
      (opened_rest (with_member f (Field h.0)) kind.Field next ms g h.2 rest)
  | inr x ↦ elim (chosen (same t.name (codes "function")) (bind (function t place) (λ x. Some (state.Member (record f { functions = f.functions ++ x ∷ [] }) kind.Function))) None (Some next) x.1) [
    | inl y ↦
        let h = bind_some (function t place) (λ x. Some (state.Member (record f { functions = f.functions ++ x ∷ [] }) kind.Function)) next y.1 in
        member_front f t place kind.Function (Function h.0) ms g (λ close named. record { tag = t; place = place; close = close; cut = refl; begins = y.0; named = named; says = h.1 })
        (opened_rest (with_member f (Function h.0)) kind.Function next ms g h.2 rest)
    | inr y ↦ absurd (cc)
  ]
]
from_interface f next (Close close) ms g e rest =
    let c = closed_parts (same (codes "interface")) (state.Interface f) next close (λ n. refl) e in
    let r = subst (λ z. Rest z ms g) (sym (is_next (state.Component f) next c.1)) rest in
    none_more close ms c.0 r
from_interface f next (Data text) ms g e rest = absurd (cc)
from_interface f next Wrong ms g e rest = absurd (cc)

from_member : (f : ComponentFile) (k : MemberKind) (next : State) (m : Mark) (ms : List Mark) (g : ComponentFile) → move (state.Member f k) m ≡ Some next → Rest next ms g → RestMember f k (m ∷ ms) g
unfolding Rest
from_member f k next (Open t place) ms g e rest = absurd (cc)
from_member f k next (Close close) ms g e rest =
    let c = closed_parts (same (member_name k)) (state.Member f k) next close (λ n. refl) e in
    record { close = close; more = ms; cut = refl; named = c.0; rest = subst (λ z. Rest z ms g) (sym (is_next (state.Interface f) next c.1)) rest }
from_member f k next (Data text) ms g e rest = absurd (cc)
from_member f k next Wrong ms g e rest = absurd (cc)

from_script : (f : ComponentFile) (s : ScriptElement) (next : State) (m : Mark) (ms : List Mark) (g : ComponentFile) → move (state.Script f s) m ≡ Some next → Rest next ms g → RestScript f s (m ∷ ms) g
unfolding Rest RestScript
from_script f s next (Open t place) ms g e rest = absurd (cc)
from_script f s next (Close close) ms g e rest =
    let c = closed_parts (same (codes "script")) (state.Script f s) next close (λ n. refl) e in
    let at = state.Component (record f { scripts = f.scripts ++ s ∷ [] }) in
    elim (chosen (is_whole s) (Some at) None (Some next) c.1) [
      | inl x ↦ inl (record { close = close; more = ms; cut = refl; named = c.0; whole = x.0; rest = subst (λ z. Rest z ms g) (sym (is_next at next x.1)) rest })
      | inr x ↦ absurd (cc)
    ]
from_script f s next (Data text) ms g e rest = data_rest (s.inline) refl e
  where
    data_rest : (o : Option InlineScript) → s.inline ≡ o → added o f s text.text text.first_line ≡ Some next → RestScript f s (Data text ∷ ms) g
    data_rest None none d = after_data f s next text ms g none d rest
    data_rest (Some x) some d = absurd (cc)
from_script f s next Wrong ms g e rest = absurd (cc)

child_front : (f : ComponentFile) (c : ChildElement) (os : List OpenChild) (front ms : List Mark) (g : ComponentFile) → Child (64 - length os) front c → RestChildren f (c ∷ []) os ms g → RestChildren f [] os (front ++ ms) g
unfolding RestChildren
child_front f c [] front ms g is r = one_more front c is (λ all more h. h) r
child_front f c (o ∷ os) front ms g is r = one_more front c is (λ all more h. h) r

child_opened : (f : ComponentFile) (os : List OpenChild) (t : Tag) (place : Place) (ms : List Mark) (g : ComponentFile) → length os < 64 → are_unlike t.attributes ≡ true → RestChildren f [] (opening_child t place ∷ os) ms g → RestChildren f [] os (Open t place ∷ ms) g
unfolding RestChildren Child
child_opened f os t place ms g below distinct r =
    let n = 64 - suc (length os) in
    let o = opening_child t place in
    let c = child o r.all in
    let front = Open t place ∷ (r.body ++ Close r.close ∷ []) in
    let shape : Open t place ∷ ms ≡ front ++ r.more = ap (λ z. Open t place ∷ z) (r.cut ∙ sym (append_assoc r.body (Close r.close ∷ []) r.more)) in
    let level : suc n ≡ 64 - length os = omega arith in
    let is : Child (suc n) front c = record { tag = t; place = place; body = r.body; children = r.all; close = r.close; cut = refl; distinct = distinct; named = r.named; inside = r.inside; says = refl } in
    subst (λ z. RestChildren f [] os z g) (sym shape) (child_front f c os front r.more g (subst (λ k. Child k front c) level is) r.rest)

-- the child that was closed last is one of those that stand
child_closed : (f : ComponentFile) (os : List OpenChild) (c : ChildElement) (ms : List Mark) (g : ComponentFile) → Rest (with_child f os c) ms g → RestChildren f (c ∷ []) os ms g
unfolding Rest RestChildren
child_closed f [] c ms g r = onward (λ all more h. subst (λ z. RestComponent (record f { children = z }) more g) (append_assoc f.children (c ∷ []) all) h) r
child_closed f (o ∷ os) c ms g r = onward (λ all more h. subst (λ z. RestChildren f (child o z ∷ []) os more g) (append_assoc o.children (c ∷ []) all) h) r

from_children : (f : ComponentFile) (os : List OpenChild) (next : State) (m : Mark) (ms : List Mark) (g : ComponentFile) → move (state.Children f os) m ≡ Some next → Rest next ms g → RestChildren f [] os (m ∷ ms) g
unfolding Rest RestChildren
from_children f os next (Open t place) ms g e rest =
    let at = state.Children f (opening_child t place ∷ os) in
    elim (chosen (nat_lt (length os) 64 && are_unlike t.attributes) (Some at) None (Some next) e) [
      | inl x ↦
          let both = and_parts (nat_lt (length os) 64) (are_unlike t.attributes) x.0 in
          child_opened f os t place ms g (ltb-true (length os) 64 both.0) both.1 (subst (λ z. Rest z ms g) (sym (is_next at next x.1)) rest)
      | inr x ↦ absurd (cc)
    ]
from_children f [] next (Close close) ms g e rest =
    let c = closed_parts (same (codes "children")) (state.Children f []) next close (λ n. refl) e in
    let r = subst (λ z. Rest z ms g) (sym (is_next (state.Component f) next c.1)) rest in
    none_more close ms c.0 (subst (λ z. RestComponent (record f { children = z }) ms g) (sym (append-nil f.children)) r)
from_children f (o ∷ os) next (Close close) ms g e rest =
    let c = closed_parts (alike o.kind) (state.Children f (o ∷ os)) next close (λ n. refl) e in
    let r = subst (λ z. Rest z ms g) (sym (is_next (with_child f os (child o o.children)) next c.1)) rest in
    none_more close ms c.0 (child_closed f os (child o (o.children ++ [])) ms g (subst (λ z. Rest (with_child f os (child o z)) ms g) (sym (append-nil o.children)) r))
from_children f os next (Data text) ms g e rest = absurd (cc)
from_children f os next Wrong ms g e rest = absurd (cc)

back : (s next : State) (m : Mark) (ms : List Mark) (g : ComponentFile) → move s m ≡ Some next → Rest next ms g → Rest s (m ∷ ms) g
unfolding Rest
back state.Before next m ms g e rest = from_before next m ms g e rest
back (state.Component f) next m ms g e rest = from_component f next m ms g e rest
back (state.Interface f) next m ms g e rest = from_interface f next m ms g e rest
back (state.Member f k) next m ms g e rest = from_member f k next m ms g e rest
back (state.Script f s) next m ms g e rest = from_script f s next m ms g e rest
back (state.Children f os) next m ms g e rest = from_children f os next m ms g e rest
back (state.After f) next (Open t place) ms g e rest = absurd (cc)
back (state.After f) next (Close None) ms g e rest = absurd (cc)
back (state.After f) next (Close (Some n)) ms g e rest = absurd (cc)
back (state.After f) next (Data text) ms g e rest = absurd (cc)
back (state.After f) next Wrong ms g e rest = absurd (cc)

rests : (s : State) (ms : List Mark) (g : ComponentFile) → run s ms ≡ Some (state.After g) → Rest s ms g
rests s [] g e = let same = is_next s (state.After g) e in subst (λ z. Rest z [] g) (sym same) (rest_end g)
rests s (m ∷ ms) g e =
    let b = bind_some (move s m) (λ next. run next ms) (state.After g) e in
    back s b.0 m ms g b.1 (rests b.0 ms g b.2)

pub runs_file : (ms : List Mark) (g : ComponentFile) → run state.Before ms ≡ Some (state.After g) → IsFile ms g
unfolding Rest
runs_file ms g e = rests state.Before ms g e
