-- The code of expressions keeps the rule.
use Rattle.std.proofs.Common.{◌≡◌, ℕ, suc, ◌+◌, ◌-◌, ◌<◌, ◌≤◌, Bool, true, false, List, [], ◌∷◌, ◌++◌, length, map, None, Some, refl, sym, ◌∙◌, arith, subst, if◌then◌else◌}
use Rattle.std.proofs.lemmas.List.{length-map}
use Rattle.std.proofs.lemmas.Option.{slice_get_within}
use Rattle.brs_tokens.specs.declared.place.Place.{Place}
use Rattle.brs_tokens.specs.declared.number.NumberValue.{NumberValue}
use Rattle.brs_tokens.specs.declared.number.NumberValue.TheVariants as value
use Rattle.brs_grammar.specs.Form as g
use Rattle.brs_grammar.specs.Form.{Text, Head, Form, Node, Forms, none, more}
use Rattle.brs_forms.specs.Words.{is_m, key_of, number_of}
use Rattle.brs_code.specs.declared.function.Function.{Function}
use Rattle.brs_code.specs.declared.instr.Instr.{Instr}
use Rattle.brs_code.specs.declared.instr.Instr.TheVariants as i
use Rattle.brs_code.specs.declared.instr.Operator.{Operator}
use Rattle.brs_code.specs.Instruction.{pops, goes_on, turn}
use Rattle.brs_code.specs.Rule.{LeadsTo, NamesExist}
use Rattle.code_drafts.specs.declared.draft.Draft.{Draft}
use Rattle.code_drafts.specs.declared.draft.Draft.TheVariants as draft
use Rattle.code_drafts.specs.DraftCode.{form_code, forms_code, head_draft, name_draft}
use Rattle.code_relation.specs.Heads.{count, number_instr, name_instr}
use Rattle.lowering_parts.specs.Places.{at_place, with_index}
use Rattle.code_lowering.specs.Lowered.{Stands, CodeOf}
use Rattle.code_lowering.proofs.Split.{parts, first_of, nothing, code_ends, plain_one, slot_one, word_one, words_one}
use Rattle.code_lowering.proofs.Heads.{alone}
use Rattle.brs_compiler.proofs.RuleParts.{Keeps, keeps_both, leads_front, leads_here, leads_as, Functions, functions_both, Ruled, ruled_as, ruled_none, ruled_both, ruled_one}

-- ---- what the code of a part keeps, wherever it stands

abbrev pub FormRule : List Function → Function → Form → Type 0
FormRule all f x = (p n o q m r : ℕ) → CodeOf all f p n o (form_code x) q m r → Ruled all f (Unit {0}) p n q m r (o + 1)

abbrev pub FormsRule : List Function → Function → Forms → Type 0
FormsRule all f xs = (p n o q m r : ℕ) → CodeOf all f p n o (forms_code xs) q m r → Ruled all f (Unit {0}) p n q m r (o + count xs)

-- a draft that takes k operands and leaves so many
abbrev pub OneRule : List Function → Function → Draft → (k leaves : ℕ) → Type 0
OneRule all f d k leaves = (p n o q m r : ℕ) → k ≤ o → CodeOf all f p n o (d ∷ []) q m r → Ruled all f (Unit {0}) p n q m r (o - k + leaves)

module _ (all : List Function) (f : Function) where
  pub no_forms_rule : FormsRule all f none
  no_forms_rule p n o q m r c =
      let z = nothing all f p n o q m r c in
      ruled_none all f (Unit {0}) p n q m r (o + 0) z.place z.number (omega (arith, z.operands))

  pub more_forms_rule : (x : Form) (xs : Forms) → FormRule all f x → FormsRule all f xs → FormsRule all f (more x xs)
  more_forms_rule x xs a b p n o q m r c =
      let s = parts all f p n o (form_code x) (forms_code xs) q m r c in
      let front = a p n o s.at s.number s.operands s.front in
      let back = b s.at s.number s.operands q m r s.back in
      ruled_as all f (Unit {0}) p n q m r (s.operands + count xs) (o + suc (count xs)) (omega (arith, front.leaves))
      (ruled_both all f (Unit {0}) p n s.at s.number s.operands q m r (o + 1) (s.operands + count xs) (forms_code xs) front s.back back)

  pub free_form_rule : (h : Head) (at : Place) (xs : Forms) → FormsRule all f xs → OneRule all f (head_draft h at.line (count xs)) (count xs) 1
      → (p n o q m r : ℕ) → CodeOf all f p n o (forms_code xs ++ head_draft h at.line (count xs) ∷ []) q m r → Ruled all f (Unit {0}) p n q m r (o + 1)
  free_form_rule h at xs a b p n o q m r c =
      let k = count xs in
      let d = head_draft h at.line k in
      let s = parts all f p n o (forms_code xs) (d ∷ []) q m r c in
      let front = a p n o s.at s.number s.operands s.front in
      let back = b s.at s.number s.operands q m r (omega (arith, front.leaves)) s.back in
      ruled_as all f (Unit {0}) p n q m r (s.operands - k + 1) (o + 1) (omega (arith, front.leaves))
      (ruled_both all f (Unit {0}) p n s.at s.number s.operands q m r (o + k) (s.operands - k + 1) (d ∷ []) front s.back back)

  -- ---- `and` and `or`

  pub tested_form_rule : (at : Place) (x y : Form) (test : ℕ → Instr) (operator : Operator)
      → ((p k : ℕ) → at_place p (test k) ≡ test (p + 1 + k))
      → ((a p o line r q e : ℕ) → Stands f p o (test e) line r → p + 1 ≡ q → 1 ≤ o → LeadsTo f.code q (o - 1 + 1) → LeadsTo f.code e (o - 1 + 1) → Keeps f a p q)
      → ((p o line r e : ℕ) → Stands f p o (test e) line r → r ≡ o - 1 + 1)
      → FormRule all f x → FormRule all f y → OneRule all f (draft.Plain (i.Binary operator) at.line) 2 1
      → (p n o q m r : ℕ) → CodeOf all f p n o ((form_code x ++ ((draft.Plain (test (length (form_code y) + 1)) at.line ∷ form_code y) ++ [])) ++ draft.Plain (i.Binary operator) at.line ∷ []) q m r
      → Ruled all f (Unit {0}) p n q m r (o + 1)
  tested_form_rule at x y test operator places keep left a b last p n o q m r c =
      let jump = draft.Plain (test (length (form_code y) + 1)) at.line in
      let apply = draft.Plain (i.Binary operator) at.line in
      let s = parts all f p n o (form_code x ++ (jump ∷ (form_code y ++ []))) (apply ∷ []) q m r c in
      let t = parts all f p n o (form_code x) (jump ∷ (form_code y ++ [])) s.at s.number s.operands s.front in
      let u = first_of all f t.at t.number t.operands jump (form_code y ++ []) s.at s.number s.operands t.back in
      let v = parts all f (t.at + 1) u.number u.operands (form_code y) [] s.at s.number s.operands u.rest in
      let z = nothing all f v.at v.number v.operands s.at s.number s.operands v.back in
      let w = plain_one all f t.at t.number t.operands (test (length (form_code y) + 1)) at.line u.number u.operands u.one in
      let here : Stands f t.at t.operands (test (t.at + 1 + (length (form_code y) + 1))) at.line u.operands =
      subst (λ j. Stands f t.at t.operands j at.line u.operands) (places t.at (length (form_code y) + 1)) w.stands in
      let one = alone all f s.at s.number s.operands apply q m r s.back in
      let ends : v.at ≡ t.at + 1 + length (form_code y) = code_ends all f (t.at + 1) u.number u.operands (form_code y) v.at v.number v.operands v.front in
      let to : q ≡ t.at + 1 + (length (form_code y) + 1) = omega (arith, ends, z.place, one.next_place) in
      let l = a p n o t.at t.number t.operands t.front in
      let under : u.operands ≡ t.operands - 1 + 1 = left t.at t.operands at.line u.operands (t.at + 1 + (length (form_code y) + 1)) here in
      let e = b (t.at + 1) u.number u.operands v.at v.number v.operands v.front in
      let two : 2 ≤ s.operands = omega (arith, l.leaves, under, e.leaves, z.operands) in
      let d = last s.at s.number s.operands q m r two s.back in
      let total : s.operands - 2 + 1 ≡ o + 1 = omega (arith, l.leaves, under, e.leaves, z.operands) in
      let result : r ≡ t.operands - 1 + 1 = omega (arith, d.leaves, l.leaves, under, e.leaves, z.operands) in
      record {
        order = omega (arith, l.order, w.number, e.order, z.number, d.order);
        functions = functions_both all n t.number m l.functions
            (subst (λ j. Functions all j m) (sym w.number) (functions_both all u.number v.number m e.functions (subst (λ j. Functions all j m) (sym z.number) d.functions)));
        leaves = d.leaves ∙ total;
        keeps = λ k h.
            let ks : LeadsTo f.code s.at s.operands = leads_front all f s.at s.number s.operands (apply ∷ []) q m r s.back k in
            let kv : LeadsTo f.code v.at v.operands = leads_as f s.at v.at s.operands v.operands (sym z.place) (sym z.operands) ks in
            let ku : LeadsTo f.code (t.at + 1) u.operands = leads_front all f (t.at + 1) u.number u.operands (form_code y) v.at v.number v.operands v.front kv in
            let kt : LeadsTo f.code t.at t.operands = leads_here f t.at t.operands (test (t.at + 1 + (length (form_code y) + 1))) at.line u.operands here in
            keeps_both f (length all) p t.at q (l.keeps kt h)
            (keeps_both f (length all) t.at (t.at + 1) q
            (keep (length all) t.at t.operands at.line u.operands (t.at + 1) (t.at + 1 + (length (form_code y) + 1)) here refl (omega (arith, l.leaves))
            (leads_as f (t.at + 1) (t.at + 1) u.operands (t.operands - 1 + 1) refl under ku) (leads_as f q (t.at + 1 + (length (form_code y) + 1)) r (t.operands - 1 + 1) to result k))
            (keeps_both f (length all) (t.at + 1) s.at q (subst (λ j. Keeps f (length all) (t.at + 1) j) z.place (e.keeps kv h)) (d.keeps k h)));
      }

  -- ---- heads

  -- an instruction that names nothing
  pub plain_rule : (x : Instr) (line k leaves : ℕ) → ((p : ℕ) → at_place p x ≡ x) → goes_on x ≡ Some leaves → turn x ≡ None → pops x ≡ k → NamesExist f (length all) x → OneRule all f (draft.Plain x line) k leaves
  plain_rule x line k leaves stays goes turns takes names p n o q m r most c =
      let a = alone all f p n o (draft.Plain x line) q m r c in
      let w = plain_one all f p n o x line m r a.one in
      ruled_one all f (Unit {0}) p n o x line q m r k leaves goes turns takes most names (subst (λ j. Stands f p o j line r) (stays p) w.stands) a.next_place w.number

  number_stays : (v : NumberValue) (p : ℕ) → at_place p (number_instr v) ≡ number_instr v
  number_stays (value.Integer x) p = refl
  number_stays (value.LongInteger x) p = refl

  number_goes : (v : NumberValue) → goes_on (number_instr v) ≡ Some 1
  number_goes (value.Integer x) = refl
  number_goes (value.LongInteger x) = refl

  number_turns : (v : NumberValue) → turn (number_instr v) ≡ None
  number_turns (value.Integer x) = refl
  number_turns (value.LongInteger x) = refl

  number_names : (v : NumberValue) → NamesExist f (length all) (number_instr v)
  number_names (value.Integer x) = tt
  number_names (value.LongInteger x) = tt

  pub number_rule : (t : Text) (line k : ℕ) → pops (number_instr (number_of t)) ≡ k → OneRule all f (draft.Plain (number_instr (number_of t)) line) k 1
  number_rule t line k takes = plain_rule (number_instr (number_of t)) line k 1 (number_stays (number_of t)) (number_goes (number_of t)) (number_turns (number_of t)) takes (number_names (number_of t))

  -- an instruction that names a text
  pub word_rule : (x : Instr) (text : List ℕ) (line k leaves : ℕ) (y : ℕ → Instr) → ((p j : ℕ) → with_index j (at_place p x) ≡ y j) → ((j : ℕ) → goes_on (y j) ≡ Some leaves) → ((j : ℕ) → turn (y j) ≡ None) → ((j : ℕ) → pops (y j) ≡ k)
      → ((j : ℕ) → j < length f.texts → NamesExist f (length all) (y j)) → OneRule all f (draft.Word x line text) k leaves
  word_rule x text line k leaves y is goes turns takes names p n o q m r most c =
      let a = alone all f p n o (draft.Word x line text) q m r c in
      let w = word_one all f p n o x line text m r a.one in
      ruled_one all f (Unit {0}) p n o (y w.index) line q m r k leaves (goes w.index) (turns w.index) (takes w.index) most (names w.index (slice_get_within f.texts w.index text w.names))
      (subst (λ j. Stands f p o j line r) (is p w.index) w.stands) a.next_place w.number

  -- an instruction that names a variable
  pub slot_rule : (x : Instr) (name : List ℕ) (line k leaves : ℕ) (y : ℕ → Instr) → ((p j : ℕ) → with_index j (at_place p x) ≡ y j) → ((j : ℕ) → goes_on (y j) ≡ Some leaves) → ((j : ℕ) → turn (y j) ≡ None) → ((j : ℕ) → pops (y j) ≡ k)
      → ((j : ℕ) → j < length f.names → NamesExist f (length all) (y j)) → OneRule all f (draft.Slot x line name) k leaves
  slot_rule x name line k leaves y is goes turns takes names p n o q m r most c =
      let a = alone all f p n o (draft.Slot x line name) q m r c in
      let w = slot_one all f p n o x line name m r a.one in
      ruled_one all f (Unit {0}) p n o (y w.index) line q m r k leaves (goes w.index) (turns w.index) (takes w.index) most (names w.index (slice_get_within f.names w.index name w.names))
      (subst (λ j. Stands f p o j line r) (is p w.index) w.stands) a.next_place w.number

  pub pairs_rule : (keys : List g.Key) (line k : ℕ) → length keys ≡ k → OneRule all f (draft.Words (i.MakePairs 0 k) line (map key_of keys)) k 1
  pairs_rule keys line k same p n o q m r most c =
      let a = alone all f p n o (draft.Words (i.MakePairs 0 k) line (map key_of keys)) q m r c in
      let w = words_one all f p n o (i.MakePairs 0 k) line (map key_of keys) m r a.one in
      let many : length (map key_of keys) ≡ length keys = length-map keys key_of in
      ruled_one all f (Unit {0}) p n o (i.MakePairs w.index k) line q m r k 1 refl refl refl most (omega (arith, w.within, many, same)) w.stands a.next_place w.number

  named_rule : (x : Text) (line k : ℕ) (b : Bool) → pops (if b then i.LoadM else i.Load 0) ≡ k → OneRule all f (if b then draft.Plain i.LoadM line else draft.Slot (i.Load 0) line x) k 1
  named_rule x line k true takes = plain_rule i.LoadM line k 1 (λ p. refl) refl refl takes tt
  named_rule x line k false takes = slot_rule (i.Load 0) x line k 1 i.Load (λ p j. refl) (λ j. refl) (λ j. refl) (λ j. takes) (λ j h. h)

  pub name_rule : (x : Text) (line k : ℕ) → pops (name_instr x 0) ≡ k → OneRule all f (name_draft x line) k 1
  name_rule x line k takes = named_rule x line k (is_m x) takes
