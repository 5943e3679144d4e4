-- The code of statements keeps the rule.
use Rattle.std.proofs.Common.{◌≡◌, ℕ, zero, suc, ◌+◌, ◌-◌, ◌<◌, ◌≤◌, Bool, true, false, List, [], ◌∷◌, ◌++◌, length, map, None, Some, refl, sym, ap, ◌∙◌, arith, subst, if◌then◌else◌}
use Rattle.std.specs.Prelude.{count_by}
use Rattle.std.proofs.lemmas.List.{length-map}
use Rattle.std.proofs.lemmas.Option.{slice_get_within}
use Rattle.brs_tokens.specs.declared.place.Place.{Place}
use Rattle.brs_grammar.specs.declared.tree.LoopKind.{LoopKind}
use Rattle.brs_grammar.specs.declared.tree.LoopKind.TheVariants as loops
use Rattle.brs_grammar.specs.declared.tree.UpdateSign.{UpdateSign}
use Rattle.brs_grammar.specs.Form as g
use Rattle.brs_grammar.specs.Form.{Text, Form, Forms, Doing, Todo, finish, first}
use Rattle.brs_forms.specs.Words.{is_m, readable}
use Rattle.brs_code.specs.declared.function.Function.{Function}
use Rattle.brs_code.specs.declared.function.Mark.{Mark}
use Rattle.brs_code.specs.declared.instr.Instr.{Instr}
use Rattle.brs_code.specs.declared.instr.Instr.TheVariants as i
use Rattle.brs_code.specs.Instruction.{pops, goes_on, turn}
use Rattle.brs_code.specs.Rule.{LeadsTo, NamesExist, is_value}
use Rattle.code_drafts.specs.declared.draft.Draft.{Draft}
use Rattle.code_drafts.specs.declared.draft.Draft.TheVariants as draft
use Rattle.code_drafts.specs.DraftCode.{form_code, forms_code, doing_code, todo_code, keep_draft, set_draft, farther, inside_for, inside_while}
use Rattle.code_relation.specs.declared.exits.Exits.{Exits}
use Rattle.code_relation.specs.Heads.{count, set_instr, keep_instr, return_instr, for_instr, mark_of, update_operator}
use Rattle.lowering_parts.specs.Places.{at_place, with_index}
use Rattle.code_lowering.specs.Lowered.{Stands, CodeOf}
use Rattle.code_lowering.proofs.Split.{parts, first_of, nothing, code_ends, plain_one, slot_one, marks_one}
use Rattle.code_lowering.proofs.Heads.{alone, first_alone}
use Rattle.brs_compiler.proofs.RuleParts.{Keeps, keeps_both, keeps_at, leads_front, leads_here, leads_as, Functions, functions_none, functions_both, Ruled, ruled_as, ruled_any, ruled_none, ruled_both, ruled_one}
use Rattle.brs_compiler.proofs.RuleForms.{FormRule, FormsRule, OneRule, plain_rule, word_rule, slot_rule, name_rule}

-- ---- where an `exit` leads

-- An `exit` from before q, with o operands there, takes no more than there are, and leads to where the others stand.
pub record Ways (f : Function) (q o : ℕ) (x : Exits) : Type 0 where
  pub for_count : x.for_keeps ≤ o
  pub for_leads : LeadsTo f.code (q + x.for_to) (o - x.for_keeps)
  pub while_count : x.while_keeps ≤ o
  pub while_leads : LeadsTo f.code (q + x.while_to) (o - x.while_keeps)

pub ways_farther : (f : Function) (p q o n : ℕ) (x : Exits) → q ≡ p + n → Ways f q o x → Ways f p o (farther n x)
ways_farther f p q o n x e w = record {
  for_count = w.for_count;
  for_leads = leads_as f (q + x.for_to) (p + (x.for_to + n)) (o - x.for_keeps) (o - x.for_keeps) (omega (arith, e)) refl w.for_leads;
  while_count = w.while_count;
  while_leads = leads_as f (q + x.while_to) (p + (x.while_to + n)) (o - x.while_keeps) (o - x.while_keeps) (omega (arith, e)) refl w.while_leads;
}

-- from the body of a loop that ends at e, directly before q
pub ways_for : (f : Function) (e q o n : ℕ) (x : Exits) → q ≡ e + 1 → LeadsTo f.code q o → Ways f q o x → Ways f e (o + n) (inside_for n x)
ways_for f e q o n x z l w = record {
  for_count = omega arith;
  for_leads = leads_as f q (e + 1) o (o + n - n) z (omega arith) l;
  while_count = omega (arith, w.while_count);
  while_leads = leads_as f (q + x.while_to) (e + (x.while_to + 1)) (o - x.while_keeps) (o + n - (x.while_keeps + n)) (omega (arith, z)) (omega (arith, w.while_count)) w.while_leads;
}

pub ways_while : (f : Function) (e q o : ℕ) (x : Exits) → q ≡ e + 1 → LeadsTo f.code q o → Ways f q o x → Ways f e o (inside_while x)
ways_while f e q o x z l w = record {
  for_count = w.for_count;
  for_leads = leads_as f (q + x.for_to) (e + (x.for_to + 1)) (o - x.for_keeps) (o - x.for_keeps) (omega (arith, z)) refl w.for_leads;
  while_count = omega arith;
  while_leads = leads_as f q (e + 1) o (o - 0) z (omega arith) l;
}

ways_as : (f : Function) (q o r : ℕ) (x : Exits) → o ≡ r → Ways f q o x → Ways f q r x
ways_as f q o r x e w = subst (λ k. Ways f q k x) e w

-- ---- what the code of a part keeps, wherever it stands

abbrev pub TodoRule : List Function → Function → Todo → Type 0
TodoRule all f todo = (x : Exits) (p n o q m r : ℕ) → CodeOf all f p n o (todo_code x todo) q m r → Ruled all f (Ways f q o x) p n q m r o

-- with k operands above o others
abbrev pub DoingRule : List Function → Function → Doing → (line k : ℕ) → Type 0
DoingRule all f d line k = (x : Exits) (p n w o q m r : ℕ) → w ≡ o + k → CodeOf all f p n w (doing_code x d line k) q m r → Ruled all f (Ways f q o x) p n q m r o

module _ (all : List Function) (f : Function) where
  pub finish_rule : TodoRule all f finish
  finish_rule x p n o q m r c =
      let z = nothing all f p n o q m r c in
      ruled_none all f (Ways f q o x) p n q m r o z.place z.number (sym z.operands)

  pub first_rule : (d : Doing) (at : Place) (xs : Forms) (rest : Todo) → FormsRule all f xs → DoingRule all f d at.line (count xs) → TodoRule all f rest → TodoRule all f (first d at xs rest)
  first_rule d at xs rest a b e x p n o q m r c =
      let behind = todo_code x rest in
      let there = farther (length behind) x in
      let doing = doing_code there d at.line (count xs) in
      let s = parts all f p n o (forms_code xs) (doing ++ behind) q m r c in
      let t = parts all f s.at s.number s.operands doing behind q m r s.back in
      let ends : q ≡ t.at + length behind = code_ends all f t.at t.number t.operands behind q m r t.back in
      let one = a p n o s.at s.number s.operands s.front in
      let two = b there s.at s.number s.operands o t.at t.number t.operands one.leaves t.front in
      let three = e x t.at t.number t.operands q m r t.back in
      record {
        order = omega (arith, one.order, two.order, three.order);
        functions = functions_both all n s.number m one.functions (functions_both all s.number t.number m two.functions three.functions);
        leaves = three.leaves ∙ two.leaves;
        keeps = λ l w.
            let lt = leads_front all f t.at t.number t.operands behind q m r t.back l in
            let ls = leads_front all f s.at s.number s.operands doing t.at t.number t.operands t.front lt in
            keeps_both f (length all) p s.at q (one.keeps ls tt)
            (keeps_both f (length all) s.at t.at q (two.keeps lt (ways_farther f t.at q o (length behind) x ends w)) (three.keeps l (ways_as f q o t.operands x (sym two.leaves) w)));
      }

  -- ---- statements of one instruction

  one_rule : (d : Draft) (k : ℕ) → OneRule all f d k 0 → (W : Type 0) (p n w o q m r : ℕ) → w ≡ o + k → CodeOf all f p n w (d ∷ []) q m r → Ruled all f W p n q m r o
  one_rule d k a W p n w o q m r e c =
      ruled_any all f W p n q m r o (ruled_as all f (Unit {0}) p n q m r (w - k + 0) o (omega (arith, e)) (a p n w q m r (omega (arith, e)) c))

  pub set_one : (aim : g.Aim) (line k : ℕ) → ((j : ℕ) → pops (set_instr aim j) ≡ k) → OneRule all f (set_draft aim line) k 0
  set_one (g.ToName x) line k takes = slot_rule all f (i.Store 0) x line k 0 i.Store (λ p j. refl) (λ j. refl) (λ j. refl) takes (λ j h. h)
  set_one (g.ToMember x) line k takes = word_rule all f (i.StoreMember 0) (readable x) line k 0 i.StoreMember (λ p j. refl) (λ j. refl) (λ j. refl) takes (λ j h. h)
  set_one g.ToIndex line k takes = plain_rule all f i.StoreIndex line k 0 (λ p. refl) refl refl (takes 0) tt

  pub set_rule : (aim : g.Aim) (line k : ℕ) → ((j : ℕ) → pops (set_instr aim j) ≡ k) → DoingRule all f (g.Set aim) line k
  set_rule aim line k takes x p n w o q m r e c = one_rule (set_draft aim line) k (set_one aim line k takes) (Ways f q o x) p n w o q m r e c

  pub drop_rule : (line k : ℕ) → 1 ≡ k → DoingRule all f g.Drop line k
  drop_rule line k takes x p n w o q m r e c =
      one_rule (draft.Plain i.Drop line) k (plain_rule all f i.Drop line k 0 (λ p. refl) refl refl takes tt) (Ways f q o x) p n w o q m r e c

  print_one : (ms : List Mark) (line k : ℕ) → count_by is_value ms ≡ k → OneRule all f (draft.Marks (i.Print 0 (length ms) k) line ms) k 0
  print_one ms line k same p n o q m r most c =
      let print = i.Print 0 (length ms) k in
      let a = alone all f p n o (draft.Marks print line ms) q m r c in
      let w = marks_one all f p n o print line ms m r a.one in
      ruled_one all f (Unit {0}) p n o (i.Print w.index (length ms) k) line q m r k 0 refl refl refl most (w.within, ap (count_by is_value) w.names ∙ same) w.stands a.next_place w.number

  pub print_rule : (marks : List g.Mark) (line k : ℕ) → count_by is_value (map mark_of marks) ≡ k → DoingRule all f (g.Print marks) line k
  print_rule marks line k same x p n w o q m r e c =
      let many : length marks ≡ length (map mark_of marks) = sym (length-map marks mark_of) in
      one_rule (draft.Marks (i.Print 0 (length (map mark_of marks)) k) line (map mark_of marks)) k (print_one (map mark_of marks) line k same) (Ways f q o x) p n w o q m r e
      (subst (λ j. CodeOf all f p n w (draft.Marks (i.Print 0 j k) line (map mark_of marks) ∷ []) q m r) many c)

  -- an instruction behind which nothing goes on
  ends_here : (W : Type 0) (p n w o q m r line : ℕ) (x y : Instr) → CodeOf all f p n w (draft.Plain x line ∷ []) q m r → at_place p x ≡ y → ((s : Stands f p w y line r) → r ≡ o)
      → ((s : Stands f p w y line r) → p + 1 ≡ q → LeadsTo f.code q r → W → Keeps f (length all) p q) → Ruled all f W p n q m r o
  ends_here W p n w o q m r line x y c is left keep =
      let a = alone all f p n w (draft.Plain x line) q m r c in
      let v = plain_one all f p n w x line m r a.one in
      let s : Stands f p w y line r = subst (λ j. Stands f p w j line r) is v.stands in
      record {
        order = omega (arith, v.number);
        functions = functions_none all n m (omega (arith, v.number));
        leaves = left s;
        keeps = λ l h. keep s a.next_place l h;
      }

  returned : (r w o : ℕ) → r ≡ w → w ≡ o → r ≡ o
  returned r w o a b = a ∙ b

  nothing_taken : (w : ℕ) → 0 ≤ w
  nothing_taken w = omega arith

  pub return_rule : (line k : ℕ) → pops (return_instr k) ≡ k → DoingRule all f g.Return line k
  return_rule line zero takes x p n w o q m r e c =
      ends_here (Ways f q o x) p n w o q m r line i.ReturnInvalid i.ReturnInvalid c refl (λ s. returned r w o s.leaves (omega (arith, e)))
      (λ s z l h. keeps_at f (length all) p w i.ReturnInvalid line r q s z (nothing_taken w) tt tt (λ j. tt) tt)
  return_rule line (suc k) takes x p n w o q m r e c =
      let single : 1 ≡ suc k = takes in
      let some : 1 ≤ w = omega (arith, e) in
      ends_here (Ways f q o x) p n w o q m r line i.Return i.Return c refl (λ s. returned r (w - 1) o s.leaves (omega (arith, e, single)))
      (λ s z l h. keeps_at f (length all) p w i.Return line r q s z some tt tt (λ j. tt) tt)

  exit_one : (keeps to line p n w o q m r k : ℕ) (W : Type 0) → k ≡ 0 → w ≡ o + k → (W → (keeps ≤ o) × LeadsTo f.code (q + to) (o - keeps)) → CodeOf all f p n w (draft.Plain (i.Exit keeps to) line ∷ []) q m r → Ruled all f W p n q m r o
  exit_one keeps to line p n w o q m r k W none e way c =
      ends_here W p n w o q m r line (i.Exit keeps to) (i.Exit keeps (p + 1 + to)) c refl (λ s. returned r w o s.leaves (omega (arith, e, none)))
      (λ s z l h. let v = way h in
      let most : keeps ≤ w = omega (arith, v.0, e) in
      keeps_at f (length all) p w (i.Exit keeps (p + 1 + to)) line r q s z most tt
      (leads_as f (q + to) (p + 1 + to) (o - keeps) (w - keeps + 0) (omega (arith, z)) (omega (arith, e, none)) v.1) (λ j. absurd (cc)) tt)

  pub exit_rule : (kind : LoopKind) (line k : ℕ) → k ≡ 0 → DoingRule all f (g.Exit kind) line k
  exit_rule loops.For line k none x p n w o q m r e c = exit_one x.for_keeps x.for_to line p n w o q m r k (Ways f q o x) none e (λ h. (h.for_count, h.for_leads)) c
  exit_rule loops.While line k none x p n w o q m r e c = exit_one x.while_keeps x.while_to line p n w o q m r k (Ways f q o x) none e (λ h. (h.while_count, h.while_leads)) c

  -- ---- statements of several

  -- what reads a target leaves its operands and the value
  keep_one : (aim : g.Aim) (line k : ℕ) → ((j : ℕ) → pops (keep_instr aim j) ≡ k) → OneRule all f (keep_draft aim line) k (k + 1)
  keep_one (g.ToName x) line k takes p n o q m r most c =
      let none : k ≡ 0 = no_operands (is_m x) (takes 0) in
      ruled_as all f (Unit {0}) p n q m r (o - k + 1) (o - k + (k + 1)) (omega (arith, none)) (name_rule all f x line k (takes 0) p n o q m r most c)
    where
      no_operands : (b : Bool) → pops (if b then i.LoadM else i.Load 0) ≡ k → k ≡ 0
      no_operands true h = sym h
      no_operands false h = sym h
  keep_one (g.ToMember x) line k takes p n o q m r most c =
      let one : 1 ≡ k = takes 0 in
      ruled_as all f (Unit {0}) p n q m r (o - k + 2) (o - k + (k + 1)) (omega (arith, one))
      (word_rule all f (i.KeepMember 0) (readable x) line k 2 i.KeepMember (λ p j. refl) (λ j. refl) (λ j. refl) takes (λ j h. h) p n o q m r most c)
  keep_one g.ToIndex line k takes p n o q m r most c =
      let two : 2 ≡ k = takes 0 in
      ruled_as all f (Unit {0}) p n q m r (o - k + 3) (o - k + (k + 1)) (omega (arith, two)) (plain_rule all f i.KeepIndex line k 3 (λ p. refl) refl refl (takes 0) tt p n o q m r most c)

  pub update_rule : (aim : g.Aim) (sign : UpdateSign) (at : Place) (e : Form) (line k : ℕ) → ((j : ℕ) → pops (keep_instr aim j) ≡ k) → ((j : ℕ) → pops (set_instr aim j) ≡ k + 1) → FormRule all f e
      → DoingRule all f (g.Update aim sign at e) line k
  update_rule aim sign at e line k keeps sets a x p n w o q m r z c =
      let W = Unit {0} in
      let apply = draft.Plain (i.Binary (update_operator sign)) at.line in
      let set = set_draft aim line in
      let s = first_of all f p n w (keep_draft aim line) (form_code e ++ apply ∷ set ∷ []) q m r c in
      let t = parts all f (p + 1) s.number s.operands (form_code e) (apply ∷ set ∷ []) q m r s.rest in
      let u = first_of all f t.at t.number t.operands apply (set ∷ []) q m r t.back in
      let one = keep_one aim line k keeps p n w (p + 1) s.number s.operands (omega (arith, z)) (first_alone all f p n w (keep_draft aim line) s.number s.operands s.one) in
      let two = a (p + 1) s.number s.operands t.at t.number t.operands t.front in
      let three = plain_rule all f (i.Binary (update_operator sign)) at.line 2 1 (λ p. refl) refl refl refl tt t.at t.number t.operands (t.at + 1) u.number u.operands (omega (arith, one.leaves, two.leaves, z))
      (first_alone all f t.at t.number t.operands apply u.number u.operands u.one) in
      let four = set_one aim line (k + 1) sets (t.at + 1) u.number u.operands q m r (omega (arith, one.leaves, two.leaves, three.leaves, z)) u.rest in
      let last = ruled_both all f W t.at t.number (t.at + 1) u.number u.operands q m r (t.operands - 2 + 1) (u.operands - (k + 1) + 0) (set ∷ []) three u.rest four in
      let back = ruled_both all f W (p + 1) s.number t.at t.number t.operands q m r (s.operands + 1) (u.operands - (k + 1) + 0) (apply ∷ set ∷ []) two t.back last in
      ruled_any all f (Ways f q o x) p n q m r o (ruled_as all f W p n q m r (u.operands - (k + 1) + 0) o (omega (arith, one.leaves, two.leaves, three.leaves, z))
      (ruled_both all f W p n (p + 1) s.number s.operands q m r (w - k + (k + 1)) (u.operands - (k + 1) + 0) (form_code e ++ apply ∷ set ∷ []) one s.rest back))

  pub if_rule : (a b : Todo) (line k : ℕ) → k ≡ 1 → TodoRule all f a → TodoRule all f b → DoingRule all f (g.If a b) line k
  if_rule a b line k single ra rb x p n w o q m r e c =
      let other = todo_code x b in
      let there = farther (length other + 1) x in
      let block = todo_code there a in
      let branch = i.Branch (length block + 1) in
      let jump = i.Jump (length other) in
      let s = first_of all f p n w (draft.Plain branch line) (block ++ draft.Plain jump 0 ∷ other) q m r c in
      let v = plain_one all f p n w branch line s.number s.operands s.one in
      let t = parts all f (p + 1) s.number s.operands block (draft.Plain jump 0 ∷ other) q m r s.rest in
      let u = first_of all f t.at t.number t.operands (draft.Plain jump 0) other q m r t.back in
      let y = plain_one all f t.at t.number t.operands jump 0 u.number u.operands u.one in
      let block_ends : t.at ≡ p + 1 + length block = code_ends all f (p + 1) s.number s.operands block t.at t.number t.operands t.front in
      let other_ends : q ≡ t.at + 1 + length other = code_ends all f (t.at + 1) u.number u.operands other q m r u.rest in
      let branched : s.operands ≡ w - 1 + 0 = v.stands.leaves in
      let most : 1 ≤ w = omega (arith, e, single) in
      let tested : s.operands ≡ o = omega (arith, branched, e, single) in
      let one = ra there (p + 1) s.number s.operands t.at t.number t.operands t.front in
      let two = rb x (t.at + 1) u.number u.operands q m r u.rest in
      let jumped : u.operands ≡ t.operands = y.stands.leaves in
      let same : u.operands ≡ o = omega (arith, jumped, one.leaves, tested) in
      record {
        order = omega (arith, v.number, one.order, y.number, two.order);
        functions = functions_both all n t.number m (subst (λ j. Functions all j t.number) (sym v.number) one.functions) (subst (λ j. Functions all j m) (sym y.number) two.functions);
        leaves = two.leaves ∙ same;
        keeps = λ l h.
            let lu = leads_front all f (t.at + 1) u.number u.operands other q m r u.rest l in
            let lt = leads_here f t.at t.operands (at_place t.at jump) 0 u.operands y.stands in
            let ls = leads_front all f (p + 1) s.number s.operands block t.at t.number t.operands t.front lt in
            let forward : t.at < t.at + 1 + length other = omega arith in
            let there_ways = ways_farther f t.at q o (length other + 1) x (omega (arith, other_ends)) h in
            keeps_both f (length all) p (p + 1) q
            (keeps_at f (length all) p w (at_place p branch) line s.operands (p + 1) v.stands refl most
            (leads_as f (p + 1) (p + 1) s.operands (w - 1 + 0) refl branched ls)
            (leads_as f (t.at + 1) (p + 1 + (length block + 1)) u.operands (w - 1 + 0) (omega (arith, block_ends)) (omega (arith, same, e, single)) lu)
            (λ j. absurd (cc)) tt)
            (keeps_both f (length all) (p + 1) t.at q (one.keeps lt (ways_as f t.at o s.operands there (sym tested) there_ways))
            (keeps_both f (length all) t.at (t.at + 1) q
            (keeps_at f (length all) t.at t.operands (at_place t.at jump) 0 u.operands (t.at + 1) y.stands refl (nothing_taken t.operands) tt
            (leads_as f q (t.at + 1 + length other) r (t.operands - 0 + 0) other_ends (omega (arith, two.leaves, jumped)) l)
            (λ j. forward) tt)
            (two.keeps l (ways_as f q o u.operands x (sym same) h))));
      }

  pub while_rule : (e : Form) (body : Todo) (line k : ℕ) → 0 ≡ k → FormRule all f e → TodoRule all f body → DoingRule all f (g.While e body) line k
  while_rule e body line k none re rb x p n w o q m r e' c =
      let test = form_code e in
      let block = todo_code (inside_while x) body in
      let branch = i.Branch (length block + 1) in
      let again = i.Again (length test + 1 + length block) in
      let s = first_of all f p n w (draft.Plain i.While line) (test ++ draft.Plain branch line ∷ (block ++ draft.Plain again line ∷ [])) q m r c in
      let v = plain_one all f p n w i.While line s.number s.operands s.one in
      let t = parts all f (p + 1) s.number s.operands test (draft.Plain branch line ∷ (block ++ draft.Plain again line ∷ [])) q m r s.rest in
      let u = first_of all f t.at t.number t.operands (draft.Plain branch line) (block ++ draft.Plain again line ∷ []) q m r t.back in
      let y = plain_one all f t.at t.number t.operands branch line u.number u.operands u.one in
      let b = parts all f (t.at + 1) u.number u.operands block (draft.Plain again line ∷ []) q m r u.rest in
      let d = alone all f b.at b.number b.operands (draft.Plain again line) q m r b.back in
      let z = plain_one all f b.at b.number b.operands again line m r d.one in
      let test_ends : t.at ≡ p + 1 + length test = code_ends all f (p + 1) s.number s.operands test t.at t.number t.operands t.front in
      let block_ends : b.at ≡ t.at + 1 + length block = code_ends all f (t.at + 1) u.number u.operands block b.at b.number b.operands b.front in
      let begun : s.operands ≡ w - 0 + 0 = v.stands.leaves in
      let started : s.operands ≡ o = omega (arith, begun, e', none) in
      let one = re (p + 1) s.number s.operands t.at t.number t.operands t.front in
      let branched : u.operands ≡ t.operands - 1 + 0 = y.stands.leaves in
      let most : 1 ≤ t.operands = omega (arith, one.leaves) in
      let tested : u.operands ≡ o = omega (arith, branched, one.leaves, started) in
      let two = rb (inside_while x) (t.at + 1) u.number u.operands b.at b.number b.operands b.front in
      let turned : b.operands ≡ o = omega (arith, two.leaves, tested) in
      let again_left : r ≡ b.operands = z.stands.leaves in
      let left : r ≡ o = again_left ∙ turned in
      record {
        order = omega (arith, v.number, one.order, y.number, two.order, z.number);
        functions = functions_both all n t.number m (subst (λ j. Functions all j t.number) (sym v.number) one.functions)
            (subst (λ j. Functions all j m) (sym y.number) (subst (λ j. Functions all u.number j) z.number two.functions));
        leaves = left;
        keeps = λ l h.
            let lb = leads_here f b.at b.operands (at_place b.at again) line r z.stands in
            let lu = leads_front all f (t.at + 1) u.number u.operands block b.at b.number b.operands b.front lb in
            let lt = leads_here f t.at t.operands (at_place t.at branch) line u.operands y.stands in
            let ls = leads_front all f (p + 1) s.number s.operands test t.at t.number t.operands t.front lt in
            let inside = ways_while f b.at q o x (sym d.next_place) (leads_as f q q r o refl left l) h in
            keeps_both f (length all) p (p + 1) q
            (keeps_at f (length all) p w i.While line s.operands (p + 1) v.stands refl (nothing_taken w) (leads_as f (p + 1) (p + 1) s.operands (w - 0 + 0) refl begun ls) tt (λ j. tt) tt)
            (keeps_both f (length all) (p + 1) t.at q (one.keeps lt tt)
            (keeps_both f (length all) t.at (t.at + 1) q
            (keeps_at f (length all) t.at t.operands (at_place t.at branch) line u.operands (t.at + 1) y.stands refl most
            (leads_as f (t.at + 1) (t.at + 1) u.operands (t.operands - 1 + 0) refl branched lu)
            (leads_as f q (t.at + 1 + (length block + 1)) r (t.operands - 1 + 0) (omega (arith, block_ends, d.next_place)) (omega (arith, left, one.leaves, started)) l)
            (λ j. absurd (cc)) tt)
            (keeps_both f (length all) (t.at + 1) b.at q (two.keeps lb (ways_as f b.at o u.operands (inside_while x) (sym tested) inside))
            (keeps_at f (length all) b.at b.operands (at_place b.at again) line r q z.stands d.next_place (nothing_taken b.operands) tt
            (leads_as f (p + 1) (b.at - (length test + 1 + length block)) s.operands (b.operands - 0 + 0) (omega (arith, test_ends, block_ends)) (omega (arith, started, turned)) ls)
            (λ j. absurd (cc)) tt))));
      }

  for_stays : (p k j : ℕ) → with_index j (at_place p (for_instr k 0)) ≡ for_instr k j
  for_stays p zero j = refl
  for_stays p (suc zero) j = refl
  for_stays p (suc (suc zero)) j = refl
  for_stays p (suc (suc (suc k))) j = refl

  for_goes : (k j : ℕ) → goes_on (for_instr k j) ≡ Some 2
  for_goes zero j = refl
  for_goes (suc zero) j = refl
  for_goes (suc (suc zero)) j = refl
  for_goes (suc (suc (suc k))) j = refl

  for_turns : (k j : ℕ) → turn (for_instr k j) ≡ None
  for_turns zero j = refl
  for_turns (suc zero) j = refl
  for_turns (suc (suc zero)) j = refl
  for_turns (suc (suc (suc k))) j = refl

  for_names : (k j : ℕ) → j < length f.names → NamesExist f (length all) (for_instr k j)
  for_names zero j h = h
  for_names (suc zero) j h = h
  for_names (suc (suc zero)) j h = h
  for_names (suc (suc (suc k))) j h = h

  pub for_rule : (at : Place) (name : Text) (body : Todo) (line k : ℕ) → ((j : ℕ) → pops (for_instr k j) ≡ k) → TodoRule all f body → DoingRule all f (g.For at name body) line k
  for_rule at name body line k takes rb x p n w o q m r e c =
      let block = todo_code (inside_for 2 x) body in
      let begin = draft.Slot (for_instr k 0) line name in
      let test = i.ForTest 0 (length block + 1) in
      let again = i.ForNext 0 (length block + 1) in
      let s = first_of all f p n w begin (draft.Slot test line name ∷ (block ++ draft.Slot again line name ∷ [])) q m r c in
      let t = first_of all f (p + 1) s.number s.operands (draft.Slot test line name) (block ++ draft.Slot again line name ∷ []) q m r s.rest in
      let v = slot_one all f (p + 1) s.number s.operands test line name t.number t.operands t.one in
      let b = parts all f (p + 1 + 1) t.number t.operands block (draft.Slot again line name ∷ []) q m r t.rest in
      let d = alone all f b.at b.number b.operands (draft.Slot again line name) q m r b.back in
      let z = slot_one all f b.at b.number b.operands again line name m r d.one in
      let block_ends : b.at ≡ p + 1 + 1 + length block = code_ends all f (p + 1 + 1) t.number t.operands block b.at b.number b.operands b.front in
      let one = slot_rule all f (for_instr k 0) name line k 2 (for_instr k) (λ a j. for_stays a k j) (for_goes k) (for_turns k) takes (for_names k) p n w (p + 1) s.number s.operands (omega (arith, e))
      (first_alone all f p n w begin s.number s.operands s.one) in
      let started : s.operands ≡ o + 2 = omega (arith, one.leaves, e) in
      let passed : t.operands ≡ s.operands - 2 + 2 = v.stands.leaves in
      let most : 2 ≤ s.operands = omega (arith, started) in
      let tested : t.operands ≡ o + 2 = omega (arith, passed, started) in
      let two = rb (inside_for 2 x) (p + 1 + 1) t.number t.operands b.at b.number b.operands b.front in
      let turned : b.operands ≡ o + 2 = omega (arith, two.leaves, tested) in
      let again_left : r ≡ b.operands - 2 = z.stands.leaves in
      let again_most : 2 ≤ b.operands = omega (arith, turned) in
      let left : r ≡ o = omega (arith, again_left, turned) in
      record {
        order = omega (arith, one.order, v.number, two.order, z.number);
        functions = functions_both all n s.number m one.functions (subst (λ j. Functions all j m) (sym v.number) (subst (λ j. Functions all t.number j) z.number two.functions));
        leaves = left;
        keeps = λ l h.
            let ls = leads_here f (p + 1) s.operands (with_index v.index (at_place (p + 1) test)) line t.operands v.stands in
            let lb = leads_here f b.at b.operands (with_index z.index (at_place b.at again)) line r z.stands in
            let lt = leads_front all f (p + 1 + 1) t.number t.operands block b.at b.number b.operands b.front lb in
            let inside = ways_for f b.at q o 2 x (sym d.next_place) (leads_as f q q r o refl left l) h in
            keeps_both f (length all) p (p + 1) q (one.keeps ls tt)
            (keeps_both f (length all) (p + 1) (p + 1 + 1) q
            (keeps_at f (length all) (p + 1) s.operands (with_index v.index (at_place (p + 1) test)) line t.operands (p + 1 + 1) v.stands refl most
            (leads_as f (p + 1 + 1) (p + 1 + 1) t.operands (s.operands - 2 + 2) refl passed lt)
            (leads_as f q (p + 1 + 1 + (length block + 1)) r (s.operands - 2 + 0) (omega (arith, block_ends, d.next_place)) (omega (arith, left, started)) l)
            (λ j. absurd (cc)) (slice_get_within f.names v.index name v.names))
            (keeps_both f (length all) (p + 1 + 1) b.at q (two.keeps lb (ways_as f b.at (o + 2) t.operands (inside_for 2 x) (sym tested) inside))
            (keeps_at f (length all) b.at b.operands (with_index z.index (at_place b.at again)) line r q z.stands d.next_place again_most tt
            (leads_as f (p + 1) (b.at - (length block + 1)) s.operands (b.operands - 2 + 2) (omega (arith, block_ends)) (omega (arith, started, turned)) ls)
            (λ j. absurd (cc)) (slice_get_within f.names z.index name z.names))));
      }

  pub each_rule : (at : Place) (name : Text) (body : Todo) (line k : ℕ) → 1 ≡ k → TodoRule all f body → DoingRule all f (g.ForEach at name body) line k
  each_rule at name body line k single rb x p n w o q m r e c =
      let block = todo_code (inside_for 1 x) body in
      let begin = i.ForEach (length block) in
      let again = i.EachNext 0 (length block) in
      let s = first_of all f p n w (draft.Plain begin line) (block ++ draft.Slot again line name ∷ []) q m r c in
      let v = plain_one all f p n w begin line s.number s.operands s.one in
      let b = parts all f (p + 1) s.number s.operands block (draft.Slot again line name ∷ []) q m r s.rest in
      let d = alone all f b.at b.number b.operands (draft.Slot again line name) q m r b.back in
      let z = slot_one all f b.at b.number b.operands again line name m r d.one in
      let block_ends : b.at ≡ p + 1 + length block = code_ends all f (p + 1) s.number s.operands block b.at b.number b.operands b.front in
      let begun : s.operands ≡ w = v.stands.leaves in
      let most : 1 ≤ w = omega (arith, e, single) in
      let started : s.operands ≡ o + 1 = omega (arith, begun, e, single) in
      let two = rb (inside_for 1 x) (p + 1) s.number s.operands b.at b.number b.operands b.front in
      let turned : b.operands ≡ o + 1 = omega (arith, two.leaves, started) in
      let again_left : r ≡ b.operands - 1 + 0 = z.stands.leaves in
      let again_most : 1 ≤ b.operands = omega (arith, turned) in
      let left : r ≡ o = omega (arith, again_left, turned) in
      record {
        order = omega (arith, v.number, two.order, z.number);
        functions = subst (λ j. Functions all j m) (sym v.number) (subst (λ j. Functions all s.number j) z.number two.functions);
        leaves = left;
        keeps = λ l h.
            let lb = leads_here f b.at b.operands (with_index z.index (at_place b.at again)) line r z.stands in
            let ls = leads_front all f (p + 1) s.number s.operands block b.at b.number b.operands b.front lb in
            let inside = ways_for f b.at q o 1 x (sym d.next_place) (leads_as f q q r o refl left l) h in
            keeps_both f (length all) p (p + 1) q
            (keeps_at f (length all) p w (at_place p begin) line s.operands (p + 1) v.stands refl most tt
            (leads_as f b.at (p + 1 + length block) b.operands (w - 1 + 1) block_ends (omega (arith, turned, e, single)) lb)
            (λ j. absurd (cc)) tt)
            (keeps_both f (length all) (p + 1) b.at q (two.keeps lb (ways_as f b.at (o + 1) s.operands (inside_for 1 x) (sym started) inside))
            (keeps_at f (length all) b.at b.operands (with_index z.index (at_place b.at again)) line r q z.stands d.next_place again_most
            (leads_as f q q r (b.operands - 1 + 0) refl again_left l)
            (leads_as f (p + 1) (b.at - length block) s.operands (b.operands - 1 + 1) (omega (arith, block_ends)) (omega (arith, started, turned)) ls)
            (λ j. absurd (cc)) (slice_get_within f.names z.index name z.names)));
      }
