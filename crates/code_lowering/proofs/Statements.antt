-- The code of statements put together from that of their parts.
use Rattle.std.proofs.Common.{◌≡◌, ℕ, zero, suc, ◌+◌, ◌-◌, List, [], ◌∷◌, ◌++◌, length, map, take, drop, Some, refl, sym, ap, ◌∙◌, arith, subst}
use Rattle.std.specs.Prelude.{slice_get}
use Rattle.std.proofs.lemmas.List.{append-nil, length-map}
use Rattle.brs_tokens.specs.declared.place.Place.{Place}
use Rattle.brs_grammar.specs.declared.tree.LoopKind.{LoopKind}
use Rattle.brs_grammar.specs.declared.tree.LoopKind.TheVariants as loops
use Rattle.brs_grammar.specs.declared.tree.UpdateSign.{UpdateSign}
use Rattle.brs_grammar.specs.Form as g
use Rattle.brs_grammar.specs.Form.{Text, Form, Forms, Doing, Todo, finish, first}
use Rattle.brs_code.specs.declared.function.Function.{Function}
use Rattle.brs_code.specs.declared.function.Mark.{Mark}
use Rattle.brs_code.specs.declared.instr.Instr.{Instr}
use Rattle.brs_code.specs.declared.instr.Instr.TheVariants as i
use Rattle.brs_code.specs.Instruction.{pops}
use Rattle.code_drafts.specs.declared.draft.Draft.{Draft, out-Draft}
use Rattle.code_drafts.specs.declared.draft.Draft.TheVariants as draft
use Rattle.code_drafts.specs.DraftCode.{form_code, forms_code, doing_code, todo_code, keep_draft, set_draft, farther, inside_for, inside_while, if_code, while_code, for_code, each_code}
use Rattle.code_relation.specs.declared.exits.Exits.{Exits}
use Rattle.code_relation.specs.Heads.{count, set_instr, keep_instr, return_instr, for_instr, mark_of, exit_instr, update_operator}
use Rattle.code_relation.specs.Standing as standing
use Rattle.code_relation.specs.Standing.{FunctionForm, Has, InstrAt, Aims, SetAt, KeepAt, MarksAt, FormAt, FormsAt, DoingAt, BlockAt, AreDistinct}
use Rattle.lowering_parts.specs.Places.{at_place, with_index}
use Rattle.code_lowering.specs.Lowered.{OneAt, CodeOf}
use Rattle.code_lowering.proofs.Numbers.{form_functions, forms_functions, doing_functions, todo_functions, Law, law_none, law_map, law_both, law_from, law_as}
use Rattle.code_lowering.proofs.Split.{Parts, parts, First, first_of, nothing, code_ends, plain_one, slot_one, marks_one}
use Rattle.code_lowering.proofs.Heads.{Alone, alone, first_alone, has_as, Set, set, Keep, keep}
use Rattle.code_lowering.proofs.Joined.{FormLaw, FormsLaw}

-- Where an `exit` leads: told by how many instructions stand from q to there, and by its place.
pub record Leads (q : ℕ) (x y : Exits) : Type 0 where
  pub for_place : y.for_to ≡ q + x.for_to
  pub for_count : y.for_keeps ≡ x.for_keeps
  pub while_place : y.while_to ≡ q + x.while_to
  pub while_count : y.while_keeps ≡ x.while_keeps

pub leads_farther : (q n p : ℕ) (x y : Exits) → q ≡ p + n → Leads q x y → Leads p (farther n x) y
leads_farther q n p x y e l = record {
  for_place = omega (arith, e, l.for_place);
  for_count = l.for_count;
  while_place = omega (arith, e, l.while_place);
  while_count = l.while_count;
}

leads_for : (n q e : ℕ) (x y : Exits) → q ≡ e + 1 → Leads q x y → Leads e (inside_for n x) (standing.inside_for n q y)
leads_for n q e x y h l = record {
  for_place = h;
  for_count = refl;
  while_place = omega (arith, h, l.while_place);
  while_count = ap (λ k. k + n) l.while_count;
}

leads_while : (q e : ℕ) (x y : Exits) → q ≡ e + 1 → Leads q x y → Leads e (inside_while x) (standing.inside_while q y)
leads_while q e x y h l = record {
  for_place = omega (arith, h, l.for_place);
  for_count = l.for_count;
  while_place = h;
  while_count = refl;
}

-- ---- what the code of statements gives, wherever it stands

abbrev pub TodoLaw : List Function → List FunctionForm → Function → Todo → Type 0
TodoLaw all fs f todo = (x y : Exits) (p n o q m r : ℕ) → Leads q x y → CodeOf all f p n o (todo_code x todo) q m r → Law all fs n (todo_functions todo) m (BlockAt f fs y p todo q)

abbrev pub DoingLaw : List Function → List FunctionForm → Function → Doing → (line k : ℕ) → Type 0
DoingLaw all fs f d line k = (x y : Exits) (p n o q m r : ℕ) → Leads q x y → CodeOf all f p n o (doing_code x d line k) q m r → Law all fs n (doing_functions d) m (DoingAt f fs y p d line k q)

module _ (all : List Function) (fs : List FunctionForm) (f : Function) where
  pub finish_law : TodoLaw all fs f finish
  finish_law x y p n o q m r l c =
      let z = nothing all f p n o q m r c in
      law_none all fs n m (BlockAt f fs y p finish q) z.number z.place

  pub first_law : (d : Doing) (at : Place) (xs : Forms) (rest : Todo) → FormsLaw all fs f xs → DoingLaw all fs f d at.line (count xs) → TodoLaw all fs f rest → TodoLaw all fs f (first d at xs rest)
  first_law d at xs rest a b e x y p n o q m r l c =
      let behind = todo_code x rest in
      let there = farther (length behind) x in
      let s = parts all f p n o (forms_code xs) (doing_code there d at.line (count xs) ++ behind) q m r c in
      let t = parts all f s.at s.number s.operands (doing_code there d at.line (count xs)) behind q m r s.back in
      let ends : q ≡ t.at + length behind = code_ends all f t.at t.number t.operands behind q m r t.back in
      law_map all fs n (forms_functions xs ++ (doing_functions d ++ todo_functions rest)) m _ (BlockAt f fs y p (first d at xs rest) q)
      (law_both all fs n (forms_functions xs) s.number (doing_functions d ++ todo_functions rest) m (FormsAt f fs p xs s.at) (DoingAt f fs y s.at d at.line (count xs) t.at × BlockAt f fs y t.at rest q)
      (a p n o s.at s.number s.operands s.front)
      (law_both all fs s.number (doing_functions d) t.number (todo_functions rest) m (DoingAt f fs y s.at d at.line (count xs) t.at) (BlockAt f fs y t.at rest q)
      (b there y s.at s.number s.operands t.at t.number t.operands (leads_farther q (length behind) t.at x y ends l) t.front)
      (e x y t.at t.number t.operands q m r l t.back)))
      (λ w. (s.at, w.0, t.at, w.1.0, w.1.1))

  -- ---- statements of one instruction

  -- an instruction that names nothing
  plain_law : (d : Doing) (line k : ℕ) (x : Instr) (z : Instr) (y : Exits) (p n o q m r : ℕ) → at_place p x ≡ z → (Has f p z line → p + 1 ≡ q → DoingAt f fs y p d line k q) → CodeOf all f p n o (draft.Plain x line ∷ []) q m r
      → Law all fs n [] m (DoingAt f fs y p d line k q)
  plain_law d line k x z y p n o q m r stays gives c =
      let a = alone all f p n o (draft.Plain x line) q m r c in
      let w = plain_one all f p n o x line m r a.one in
      law_none all fs n m (DoingAt f fs y p d line k q) w.number (gives (has_as f p line (at_place p x) z stays w.has) a.next_place)

  pub set_law : (aim : g.Aim) (line k : ℕ) → ((j : ℕ) → pops (set_instr aim j) ≡ k) → DoingLaw all fs f (g.Set aim) line k
  set_law aim line k takes x y p n o q m r l c =
      let s = set all f p n o aim line k q m r takes c in
      law_none all fs n m (DoingAt f fs y p (g.Set aim) line k q) s.number s.stands

  pub drop_law : (line k : ℕ) → 1 ≡ k → DoingLaw all fs f g.Drop line k
  drop_law line k takes x y p n o q m r l c =
      plain_law g.Drop line k i.Drop i.Drop y p n o q m r refl (λ h e. record { has = h; takes = takes; next = e }) c

  return_stays : (p k : ℕ) → at_place p (return_instr k) ≡ return_instr k
  return_stays p zero = refl
  return_stays p (suc k) = refl

  pub return_law : (line k : ℕ) → pops (return_instr k) ≡ k → DoingLaw all fs f g.Return line k
  return_law line k takes x y p n o q m r l c =
      plain_law g.Return line k (return_instr k) (return_instr k) y p n o q m r (return_stays p k) (λ h e. record { has = h; takes = takes; next = e }) c

  exit_leads : (kind : LoopKind) (p q : ℕ) (x y : Exits) → p + 1 ≡ q → Leads q x y → at_place p (exit_instr x kind) ≡ exit_instr y kind
  exit_leads loops.For p q x y e l =
      let to : p + 1 + x.for_to ≡ y.for_to = omega (arith, e, l.for_place) in
      ap (λ k. i.Exit k (p + 1 + x.for_to)) (sym l.for_count) ∙ ap (λ j. i.Exit y.for_keeps j) to
  exit_leads loops.While p q x y e l =
      let to : p + 1 + x.while_to ≡ y.while_to = omega (arith, e, l.while_place) in
      ap (λ k. i.Exit k (p + 1 + x.while_to)) (sym l.while_count) ∙ ap (λ j. i.Exit y.while_keeps j) to

  pub exit_law : (kind : LoopKind) (line k : ℕ) → k ≡ 0 → DoingLaw all fs f (g.Exit kind) line k
  exit_law kind line k takes x y p n o q m r l c =
      let a = alone all f p n o (draft.Plain (exit_instr x kind) line) q m r c in
      plain_law (g.Exit kind) line k (exit_instr x kind) (exit_instr y kind) y p n o q m r (exit_leads kind p q x y a.next_place l) (λ h e. (takes, h, e)) c

  pub print_law : (marks : List g.Mark) (line k : ℕ) → DoingLaw all fs f (g.Print marks) line k
  print_law marks line k x y p n o q m r l c =
      let print = i.Print 0 (length marks) k in
      let a = alone all f p n o (draft.Marks print line (map mark_of marks)) q m r c in
      let w = marks_one all f p n o print line (map mark_of marks) m r a.one in
      law_none all fs n m (DoingAt f fs y p (g.Print marks) line k q) w.number (
        w.index,
        ap (λ j. take j (drop w.index f.marks)) (sym (length-map marks mark_of)) ∙ w.names,
        record { has = w.has; takes = refl; next = a.next_place },
      )

  -- ---- statements of several

  pub update_law : (aim : g.Aim) (sign : UpdateSign) (at : Place) (e : Form) (line k : ℕ) → ((j : ℕ) → pops (keep_instr aim j) ≡ k) → ((j : ℕ) → pops (set_instr aim j) ≡ k + 1) → FormLaw all fs f e
      → DoingLaw all fs f (g.Update aim sign at e) line k
  update_law aim sign at e line k keeps sets a x y p n o q m r l c =
      let apply = draft.Plain (i.Binary (update_operator sign)) at.line in
      let last = apply ∷ set_draft aim line ∷ [] in
      let s = first_of all f p n o (keep_draft aim line) (form_code e ++ last) q m r c in
      let t = parts all f (p + 1) s.number s.operands (form_code e) last q m r s.rest in
      let u = first_of all f t.at t.number t.operands apply (set_draft aim line ∷ []) q m r t.back in
      let w = plain_one all f t.at t.number t.operands (i.Binary (update_operator sign)) at.line u.number u.operands u.one in
      let v = set all f (t.at + 1) u.number u.operands aim line (k + 1) q m r sets u.rest in
      let b = keep all f p n o aim line k (p + 1) s.number s.operands keeps (first_alone all f p n o (keep_draft aim line) s.number s.operands s.one) in
      law_map all fs n (form_functions e) m _ (DoingAt f fs y p (g.Update aim sign at e) line k q)
      (law_from all fs n s.number (form_functions e) t.number m (FormAt f fs (p + 1) e t.at) b.number (w.number ∙ v.number)
      (a (p + 1) s.number s.operands t.at t.number t.operands t.front))
      (λ h. (p + 1, b.stands v.stands.index v.stands.aims, t.at, h, t.at + 1, record { has = w.has; takes = refl; next = refl }, v.stands))

  pub if_law : (a b : Todo) (line k : ℕ) → k ≡ 1 → TodoLaw all fs f a → TodoLaw all fs f b → DoingLaw all fs f (g.If a b) line k
  if_law a b line k takes la lb x y p n o q m r l c =
      let other = todo_code x b in
      let there = farther (length other + 1) x in
      let block = todo_code there a in
      let branch = i.Branch (length block + 1) in
      let jump = i.Jump (length other) in
      let s = first_of all f p n o (draft.Plain branch line) (block ++ draft.Plain jump 0 ∷ other) q m r c in
      let w = plain_one all f p n o branch line s.number s.operands s.one in
      let t = parts all f (p + 1) s.number s.operands block (draft.Plain jump 0 ∷ other) q m r s.rest in
      let u = first_of all f t.at t.number t.operands (draft.Plain jump 0) other q m r t.back in
      let v = plain_one all f t.at t.number t.operands jump 0 u.number u.operands u.one in
      let block_ends : t.at ≡ p + 1 + length block = code_ends all f (p + 1) s.number s.operands block t.at t.number t.operands t.front in
      let other_ends : q ≡ t.at + 1 + length other = code_ends all f (t.at + 1) u.number u.operands other q m r u.rest in
      let over : p + 1 + (length block + 1) ≡ t.at + 1 = omega (arith, block_ends) in
      let to : t.at + (length other + 1) ≡ q = omega (arith, other_ends) in
      law_map all fs n (todo_functions a ++ todo_functions b) m _ (DoingAt f fs y p (g.If a b) line k q)
      (law_both all fs n (todo_functions a) u.number (todo_functions b) m (BlockAt f fs y (p + 1) a t.at) (BlockAt f fs y (t.at + 1) b q)
      (law_from all fs n s.number (todo_functions a) t.number u.number (BlockAt f fs y (p + 1) a t.at) w.number v.number
      (la there y (p + 1) s.number s.operands t.at t.number t.operands (leads_farther q (length other + 1) t.at x y (sym to) l) t.front))
      (lb x y (t.at + 1) u.number u.operands q m r l u.rest))
      (λ h. (takes, t.at, has_as f p line (at_place p branch) (i.Branch (t.at + 1)) (ap i.Branch over) w.has, h.0, has_as f t.at 0 (at_place t.at jump) (i.Jump q) (ap i.Jump (sym other_ends)) v.has, h.1))

  pub while_law : (e : Form) (body : Todo) (line k : ℕ) → 0 ≡ k → FormLaw all fs f e → TodoLaw all fs f body → DoingLaw all fs f (g.While e body) line k
  while_law e body line k takes le lb x y p n o q m r l c =
      let test = form_code e in
      let block = todo_code (inside_while x) body in
      let branch = i.Branch (length block + 1) in
      let again = i.Again (length test + 1 + length block) in
      let s = first_of all f p n o (draft.Plain i.While line) (test ++ draft.Plain branch line ∷ (block ++ draft.Plain again line ∷ [])) q m r c in
      let w = plain_one all f p n o i.While line s.number s.operands s.one in
      let t = parts all f (p + 1) s.number s.operands test (draft.Plain branch line ∷ (block ++ draft.Plain again line ∷ [])) q m r s.rest in
      let u = first_of all f t.at t.number t.operands (draft.Plain branch line) (block ++ draft.Plain again line ∷ []) q m r t.back in
      let v = plain_one all f t.at t.number t.operands branch line u.number u.operands u.one in
      let b = parts all f (t.at + 1) u.number u.operands block (draft.Plain again line ∷ []) q m r u.rest in
      let d = alone all f b.at b.number b.operands (draft.Plain again line) q m r b.back in
      let z = plain_one all f b.at b.number b.operands again line m r d.one in
      let test_ends : t.at ≡ p + 1 + length test = code_ends all f (p + 1) s.number s.operands test t.at t.number t.operands t.front in
      let block_ends : b.at ≡ t.at + 1 + length block = code_ends all f (t.at + 1) u.number u.operands block b.at b.number b.operands b.front in
      let over : t.at + 1 + (length block + 1) ≡ q = omega (arith, block_ends, d.next_place) in
      let back : b.at - (length test + 1 + length block) ≡ p + 1 = omega (arith, test_ends, block_ends) in
      law_map all fs n (form_functions e ++ todo_functions body) m _ (DoingAt f fs y p (g.While e body) line k q)
      (law_both all fs n (form_functions e) u.number (todo_functions body) m (FormAt f fs (p + 1) e t.at) (BlockAt f fs (standing.inside_while q y) (t.at + 1) body b.at)
      (law_from all fs n s.number (form_functions e) t.number u.number (FormAt f fs (p + 1) e t.at) w.number v.number (le (p + 1) s.number s.operands t.at t.number t.operands t.front))
      (law_from all fs u.number u.number (todo_functions body) b.number m (BlockAt f fs (standing.inside_while q y) (t.at + 1) body b.at) refl z.number
      (lb (inside_while x) (standing.inside_while q y) (t.at + 1) u.number u.operands b.at b.number b.operands (leads_while q b.at x y (sym d.next_place) l) b.front)))
      (λ h. (
        p + 1,
        record { has = w.has; takes = takes; next = refl },
        t.at,
        h.0,
        has_as f t.at line (at_place t.at branch) (i.Branch q) (ap i.Branch over) v.has,
        b.at,
        h.1,
        record { has = has_as f b.at line (at_place b.at again) (i.Again (p + 1)) (ap i.Again back) z.has; takes = refl; next = d.next_place },
      ))

  for_stays : (p k j : ℕ) → with_index j (at_place p (for_instr k 0)) ≡ for_instr k j
  for_stays p zero j = refl
  for_stays p (suc zero) j = refl
  for_stays p (suc (suc zero)) j = refl
  for_stays p (suc (suc (suc k))) j = refl

  pub for_law : AreDistinct f.names → (at : Place) (name : Text) (body : Todo) (line k : ℕ) → ((j : ℕ) → pops (for_instr k j) ≡ k) → TodoLaw all fs f body → DoingLaw all fs f (g.For at name body) line k
  for_law distinct at name body line k takes lb x y p n o q m r l c =
      let block = todo_code (inside_for 2 x) body in
      let begin = draft.Slot (for_instr k 0) line name in
      let test = i.ForTest 0 (length block + 1) in
      let again = i.ForNext 0 (length block + 1) in
      let s = first_of all f p n o begin (draft.Slot test line name ∷ (block ++ draft.Slot again line name ∷ [])) q m r c in
      let w = slot_one all f p n o (for_instr k 0) line name s.number s.operands s.one in
      let t = first_of all f (p + 1) s.number s.operands (draft.Slot test line name) (block ++ draft.Slot again line name ∷ []) q m r s.rest in
      let v = slot_one all f (p + 1) s.number s.operands test line name t.number t.operands t.one in
      let b = parts all f (p + 1 + 1) t.number t.operands block (draft.Slot again line name ∷ []) q m r t.rest in
      let d = alone all f b.at b.number b.operands (draft.Slot again line name) q m r b.back in
      let z = slot_one all f b.at b.number b.operands again line name m r d.one in
      let block_ends : b.at ≡ p + 1 + 1 + length block = code_ends all f (p + 1 + 1) t.number t.operands block b.at b.number b.operands b.front in
      let over : p + 1 + 1 + (length block + 1) ≡ q = omega (arith, block_ends, d.next_place) in
      let back : b.at - (length block + 1) ≡ p + 1 = omega (arith, block_ends) in
      let test_slot : v.index ≡ w.index = distinct v.index w.index name v.names w.names in
      let again_slot : z.index ≡ w.index = distinct z.index w.index name z.names w.names in
      law_map all fs n (todo_functions body) m _ (DoingAt f fs y p (g.For at name body) line k q)
      (law_from all fs n t.number (todo_functions body) b.number m (BlockAt f fs (standing.inside_for 2 q y) (p + 1 + 1) body b.at) (w.number ∙ v.number) z.number
      (lb (inside_for 2 x) (standing.inside_for 2 q y) (p + 1 + 1) t.number t.operands b.at b.number b.operands (leads_for 2 q b.at x y (sym d.next_place) l) b.front))
      (λ h. (
        w.index,
        w.names,
        p + 1,
        record { has = has_as f p line (with_index w.index (at_place p (for_instr k 0))) (for_instr k w.index) (for_stays p k w.index) w.has; takes = takes w.index; next = refl },
        has_as f (p + 1) line (with_index v.index (at_place (p + 1) test)) (i.ForTest w.index q) (ap (λ j. i.ForTest j (p + 1 + 1 + (length block + 1))) test_slot ∙ ap (i.ForTest w.index) over) v.has,
        b.at,
        h,
        record { has = has_as f b.at line (with_index z.index (at_place b.at again)) (i.ForNext w.index (p + 1)) (ap (λ j. i.ForNext j (b.at - (length block + 1))) again_slot ∙ ap (i.ForNext w.index) back) z.has; takes = refl; next = d.next_place },
      ))

  pub each_law : AreDistinct f.names → (at : Place) (name : Text) (body : Todo) (line k : ℕ) → 1 ≡ k → TodoLaw all fs f body → DoingLaw all fs f (g.ForEach at name body) line k
  each_law distinct at name body line k takes lb x y p n o q m r l c =
      let block = todo_code (inside_for 1 x) body in
      let begin = i.ForEach (length block) in
      let again = i.EachNext 0 (length block) in
      let s = first_of all f p n o (draft.Plain begin line) (block ++ draft.Slot again line name ∷ []) q m r c in
      let w = plain_one all f p n o begin line s.number s.operands s.one in
      let b = parts all f (p + 1) s.number s.operands block (draft.Slot again line name ∷ []) q m r s.rest in
      let d = alone all f b.at b.number b.operands (draft.Slot again line name) q m r b.back in
      let z = slot_one all f b.at b.number b.operands again line name m r d.one in
      let block_ends : b.at ≡ p + 1 + length block = code_ends all f (p + 1) s.number s.operands block b.at b.number b.operands b.front in
      let back : b.at - length block ≡ p + 1 = omega (arith, block_ends) in
      law_map all fs n (todo_functions body) m _ (DoingAt f fs y p (g.ForEach at name body) line k q)
      (law_from all fs n s.number (todo_functions body) b.number m (BlockAt f fs (standing.inside_for 1 q y) (p + 1) body b.at) w.number z.number
      (lb (inside_for 1 x) (standing.inside_for 1 q y) (p + 1) s.number s.operands b.at b.number b.operands (leads_for 1 q b.at x y (sym d.next_place) l) b.front))
      (λ h. (
        z.index,
        z.names,
        b.at,
        p + 1,
        record { has = has_as f p line (at_place p begin) (i.ForEach b.at) (ap i.ForEach (sym block_ends)) w.has; takes = takes; next = refl },
        h,
        record { has = has_as f b.at line (with_index z.index (at_place b.at again)) (i.EachNext z.index (p + 1)) (ap (i.EachNext z.index) back) z.has; takes = refl; next = d.next_place },
      ))
