-- The instruction of a head does what the head does, whatever stands below its operands.
use Rattle.std.proofs.Common.{◌≡◌, ℕ, List, [], ◌∷◌, length, map, take, drop, Option, Some, None, Bool, true, false, cond, if◌then◌else◌, refl, sym, ap, ◌∙◌, subst}
use Rattle.std.specs.Prelude.{slice_get, reverse}
use Rattle.brs_tokens.specs.declared.place.Place.{Place}
use Rattle.brs_tokens.specs.declared.number.NumberValue.{NumberValue}
use Rattle.brs_tokens.specs.declared.number.NumberValue.TheVariants as value
use Rattle.brs_grammar.specs.declared.tree.ComparisonSign.{ComparisonSign}
use Rattle.brs_grammar.specs.declared.tree.ComparisonSign.TheVariants as cs
use Rattle.brs_grammar.specs.declared.tree.ShiftSign.{ShiftSign}
use Rattle.brs_grammar.specs.declared.tree.ShiftSign.TheVariants as ss
use Rattle.brs_grammar.specs.declared.tree.SumSign.{SumSign}
use Rattle.brs_grammar.specs.declared.tree.SumSign.TheVariants as us
use Rattle.brs_grammar.specs.declared.tree.ProductSign.{ProductSign}
use Rattle.brs_grammar.specs.declared.tree.ProductSign.TheVariants as ps
use Rattle.brs_grammar.specs.declared.tree.UpdateSign.{UpdateSign}
use Rattle.brs_grammar.specs.declared.tree.UpdateSign.TheVariants as ups
use Rattle.brs_grammar.specs.Form as g
use Rattle.brs_grammar.specs.Form.{Text, Head}
use Rattle.brs_forms.specs.Words as w
use Rattle.brs_forms.specs.Words.{readable, key_of, is_m}
use Rattle.chan_values.specs.declared.error_code.ErrorCode.TheVariants.{E5}
use Rattle.heap_meaning.specs.declared.plain.Plain.TheVariants as p
use Rattle.heap_meaning.specs.Values.{StoreValue, Scalar, Words, Reference}
use Rattle.heap_meaning.specs.Keys.{value_at_key}
use Rattle.heap_meaning.specs.Store.{Object, ArrayObject, MapObject, Store}
use Rattle.plain_operations.specs.declared.operator.Operator as plain
use Rattle.plain_operations.specs.declared.operator.Operator.TheVariants as po
use Rattle.plain_operations.specs.declared.operator.UnaryOperator.TheVariants as u
use Rattle.brs_code.specs.declared.function.Function as code
use Rattle.brs_code.specs.declared.instr.Instr.TheVariants as i
use Rattle.brs_code.specs.declared.instr.Operator.{Operator}
use Rattle.brs_code.specs.declared.instr.Operator.TheVariants as co
use Rattle.code_relation.specs.Heads.{head_instr, number_instr, comparison_operator, shift_operator, sum_operator, product_operator, update_operator}
use Rattle.code_relation.specs.Standing.{Names}
use Rattle.brs_meaning.specs.Program.{Program, Function}
use Rattle.brs_meaning.specs.Locals.{Home, Locals, local}
use Rattle.brs_meaning.specs.Given as t
use Rattle.brs_meaning.specs.Given.{Given, makes}
use Rattle.brs_meaning.specs.Names.{found, name_value}
use Rattle.brs_meaning.specs.Names as nm
use Rattle.brs_meaning.specs.Literals.{number_spelled}
use Rattle.brs_meaning.specs.Operators.{comparison, shift, sum, product, updating}
use Rattle.brs_meaning.specs.MethodNames.{node_method_named}
use Rattle.brs_meaning.specs.Calls as tc
use Rattle.brs_meaning.specs.Calls.{built_in_call}
use Rattle.brs_meaning.specs.Heads as th
use Rattle.brs_meaning.specs.Heads.{unary, binary, entries, member_of, index_of, contract}
use Rattle.brs_meaning.specs.Reduction as tr
use Rattle.machine_meaning.specs.Image as mi
use Rattle.machine_meaning.specs.Image.{Image, function_at, built_in_at}
use Rattle.machine_meaning.specs.Frame.{Operand, Holds, values, Frame}
use Rattle.machine_meaning.specs.Acted as a
use Rattle.machine_meaning.specs.Acted.{Acted}
use Rattle.machine_meaning.specs.Setting.{gives, with_text, function_named, slot_reads}
use Rattle.machine_meaning.specs.Calls as mc
use Rattle.machine_meaning.specs.Instructions.{operation, acted}
use Rattle.machine_meaning.specs.Stepping.{setting_of}
use Rattle.machine_match.specs.Compiled.{HeadIs}
use Rattle.machine_match.specs.Stands.{FunctionStands, CalleeStands, ImageStands, SlotsAre, seen_as, compiled}
use Rattle.machine_match.proofs.Words.{values_held}
use Rattle.machine_match.proofs.NoCalls.{NoCall, node_called_no, port_call_no, screen_call_no, built_in_no, method_no, found_no, binary_no, unary_no, member_of_no, index_of_no}

-- ---- operators

comparison_same : (s : ComparisonSign) → operation (comparison_operator s) ≡ comparison s
comparison_same cs.Equal = refl
comparison_same cs.NotEqual = refl
comparison_same cs.Less = refl
comparison_same cs.Greater = refl
comparison_same cs.LessEqual = refl
comparison_same cs.GreaterEqual = refl

shift_same : (s : ShiftSign) → operation (shift_operator s) ≡ shift s
shift_same ss.Left = refl
shift_same ss.Right = refl

sum_same : (s : SumSign) → operation (sum_operator s) ≡ sum s
sum_same us.Plus = refl
sum_same us.Minus = refl

product_same : (s : ProductSign) → operation (product_operator s) ≡ product s
product_same ps.Times = refl
product_same ps.Divide = refl
product_same ps.Modulo = refl

pub update_same : (s : UpdateSign) → operation (update_operator s) ≡ updating s
update_same ups.Plus = refl
update_same ups.Minus = refl
update_same ups.Times = refl
update_same ups.Divide = refl

pub by_values : (vs : List StoreValue) (P : List StoreValue → Type 0) → P vs → P (values (map Holds vs))
by_values vs P h = subst P (sym (values_held vs)) h

module _ (image : Image) (q : Program) (actor : ℕ) (homes : List Home) (frame : Frame) (source : Function) (locals : Locals) (store : Store) (stands : ImageStands image q) (function : FunctionStands image q frame.function source) (slots : SlotsAre frame.function frame.slots locals) where
  -- what an instruction does is what an expression gives
  abbrev pub Fits : Acted → Given → Type 0
  Fits does (t.Calls f m vs) = (g : code.Function) × FunctionStands image q g f × (does ≡ a.Calls g m vs)
  Fits does given = does ≡ gives (setting_of image actor homes frame) given

  fits_of : (given : Given) → NoCall given → Fits (gives (setting_of image actor homes frame) given) given
  fits_of (t.Gives v after) no_call = refl
  fits_of (t.Calls f m vs) no_call = absurd no_call
  fits_of (t.Wants request) no_call = refl
  fits_of (t.Fails e) no_call = refl

  -- ---- calls

  called_fits : (n : ℕ) (m : Option StoreValue) (vs : List StoreValue) → Fits (mc.called (setting_of image actor homes frame) n m vs store) (tc.called (tr.setting_of q actor homes (seen_as frame source locals)) n m vs store)
  called_fits n m vs = go (function_at image n) (q.function n) (stands.functions n) (built_in_at image n) (q.built_in n) (stands.built_ins n)
    where
      go : (o : Option code.Function) (f : Option Function) → CalleeStands image q o f → (b c : Option Text) → c ≡ b
          → Fits (elim o [ Some g ↦ a.Calls g m vs | None ↦ elim b [ Some name ↦ gives (setting_of image actor homes frame) (built_in_call actor name vs store) | None ↦ a.Faults E5 ] ])
          (elim f [ Some g ↦ t.Calls g m vs | None ↦ elim c [ Some name ↦ built_in_call actor name vs store | None ↦ t.Fails E5 ] ])
      go (Some g) (Some f) both b c same = (g, both, refl)
      go (Some g) None both b c same = absurd both
      go None (Some f) both b c same = absurd both
      go None None both None None same = refl
      go None None both None (Some y) same = cc
      go None None both (Some x) None same = cc
      go None None both (Some x) (Some y) same =
          let e : y ≡ x = cc in
          subst (λ z. Fits (gives (setting_of image actor homes frame) (built_in_call actor z vs store)) (built_in_call actor y vs store)) e (fits_of (built_in_call actor y vs store) (built_in_no actor y vs store))

  call_fits : (v : StoreValue) (vs : List StoreValue) → Fits (mc.call (setting_of image actor homes frame) v vs store) (tc.call (tr.setting_of q actor homes (seen_as frame source locals)) v vs store)
  call_fits (Scalar (p.Function n)) vs = called_fits n None vs
  call_fits _ vs = refl

  key_called_fits : (x : StoreValue) (held : Option StoreValue) (k : Text) (vs : List StoreValue)
      → Fits (mc.key_called (setting_of image actor homes frame) x held k vs store) (tc.key_called (tr.setting_of q actor homes (seen_as frame source locals)) x held k vs store)
  key_called_fits x (Some (Scalar (p.Function n))) k vs = called_fits n (Some x) vs
  key_called_fits x held k vs = fits_of _ (method_no x held k vs store)

  object_called_fits : (x : StoreValue) (o : Option Object) (k : Text) (vs : List StoreValue)
      → Fits (mc.object_called (setting_of image actor homes frame) x o k vs store) (tc.object_called (tr.setting_of q actor homes (seen_as frame source locals)) x o k vs store)
  object_called_fits x (Some (MapObject es)) k vs = key_called_fits x (value_at_key es k) k vs
  object_called_fits x o k vs = fits_of _ (method_no x None k vs store)

  member_call_fits : (x : StoreValue) (k : Text) (vs : List StoreValue)
      → Fits (mc.member_call (setting_of image actor homes frame) x k vs store) (tc.member_call (tr.setting_of q actor homes (seen_as frame source locals)) x k vs store)
  member_call_fits (Scalar p.Invalid) k vs = refl
  member_call_fits (Scalar (p.Node n)) k vs = fits_of _ (node_called_no (node_method_named k) n vs store)
  member_call_fits (Scalar (p.Port n)) k vs = fits_of _ (port_call_no k n vs)
  member_call_fits (Scalar p.Screen) k vs = fits_of _ (screen_call_no k vs store)
  member_call_fits (Reference n) k vs = object_called_fits (Reference n) (slice_get store n) k vs
  member_call_fits x k vs = fits_of _ (method_no x None k vs store)

  called_with_fits : (vs : List StoreValue) → Fits (mc.called_with (setting_of image actor homes frame) vs store) (th.called_with (tr.setting_of q actor homes (seen_as frame source locals)) vs store)
  called_with_fits [] = refl
  called_with_fits (f ∷ vs) = call_fits f vs

  member_called_with_fits : (k : Text) (vs : List StoreValue)
      → Fits (mc.member_called_with (setting_of image actor homes frame) k vs store) (th.member_called_with (tr.setting_of q actor homes (seen_as frame source locals)) k vs store)
  member_called_with_fits k [] = refl
  member_called_with_fits k (x ∷ vs) = member_call_fits x k vs

  -- ---- names

  pub function_same : (x : Text) → function_named (setting_of image actor homes frame) (Some x) ≡ nm.function_named (tr.setting_of q actor homes (seen_as frame source locals)) x
  function_same x = sym (
      ap (λ (o : Option ℕ). elim o as (λ z. Option StoreValue) [ Some n ↦ Some (Scalar (p.Function n)) | None ↦ elim (q.built_in_number x) as (λ z. Option StoreValue) [ Some n ↦ Some (Scalar (p.Function n)) | None ↦ None ] ]) (stands.scopes (tr.home_of homes frame.home).scope x)
      ∙ ap (λ (b : Option ℕ). elim (mi.scoped image (tr.home_of homes frame.home).scope x) as (λ z. Option StoreValue) [ Some n ↦ Some (Scalar (p.Function n)) | None ↦ elim b as (λ z. Option StoreValue) [ Some n ↦ Some (Scalar (p.Function n)) | None ↦ None ] ]) (stands.numbers x))

  pub reads_same : (n : ℕ) (x : Text) → slice_get frame.function.names n ≡ Some x → slot_reads (setting_of image actor homes frame) n ≡ name_value (tr.setting_of q actor homes (seen_as frame source locals)) x
  reads_same n x named =
      ap (λ (o : Option StoreValue). elim o as (λ z. Option StoreValue) [ Some v ↦ Some v | None ↦ function_named (setting_of image actor homes frame) (slice_get frame.function.names n) ]) (sym (slots n x named))
      ∙ ap (λ (o : Option StoreValue). elim (local x locals) as (λ z. Option StoreValue) [ Some v ↦ Some v | None ↦ o ]) (ap (function_named (setting_of image actor homes frame)) named ∙ function_same x)

  pub name_fits : (n : ℕ) (x : Text) → slice_get frame.function.names n ≡ Some x
      → gives (setting_of image actor homes frame) (found (slot_reads (setting_of image actor homes frame) n) store) ≡ gives (setting_of image actor homes frame) (found (name_value (tr.setting_of q actor homes (seen_as frame source locals)) x) store)
  name_fits n x named = ap (λ o. gives (setting_of image actor homes frame) (found o store)) (reads_same n x named)

  -- ---- heads

  number_fits : (v : NumberValue) (ops : List Operand) → Fits (acted (setting_of image actor homes frame) (number_instr v) ops store) (t.Gives (number_spelled v) store)
  number_fits (value.Integer n) ops = refl
  number_fits (value.LongInteger n) ops = refl

  binary_fits : (op : Operator) (o : plain.Operator) (vs : List StoreValue) → operation op ≡ o
      → Fits (gives (setting_of image actor homes frame) (binary (operation op) (values (map Holds vs)) store)) (binary o vs store)
  binary_fits op o vs same =
      by_values vs (λ l. Fits (gives (setting_of image actor homes frame) (binary (operation op) l store)) (binary o vs store))
      (subst (λ z. Fits (gives (setting_of image actor homes frame) (binary z vs store)) (binary o vs store)) (sym same) (fits_of _ (binary_no o vs store)))

  variable_fits : (x : Text) (n : ℕ) (ops : List Operand) (b : Bool) → is_m x ≡ b → (is_m x ≡ false → slice_get frame.function.names n ≡ Some x)
      → Fits (acted (setting_of image actor homes frame) (if b then i.LoadM else i.Load n) ops store) (cond b (t.Gives frame.m store) (found (name_value (tr.setting_of q actor homes (seen_as frame source locals)) x) store))
  variable_fits x n ops true e named = refl
  variable_fits x n ops false e named =
      let value = name_value (tr.setting_of q actor homes (seen_as frame source locals)) x in
      subst (λ does. Fits does (found value store)) (sym (name_fits n x (named e))) (fits_of (found value store) (found_no value store))

  pub head_fits : (h : Head) (at : Place) (vs : List StoreValue) (n : ℕ) → Names frame.function function.forms h at.line n → HeadIs (compiled function) h at (length vs)
      → Fits (acted (setting_of image actor homes frame) (head_instr h n (length vs)) (map Holds vs) store) (contract (tr.setting_of q actor homes (seen_as frame source locals)) h at vs store)
  head_fits (g.Number x) at vs n names is = number_fits (w.number_of x) (map Holds vs)
  head_fits (g.Quoted x) at vs n names is = ap (λ o. with_text o (λ x. gives (setting_of image actor homes frame) (t.Gives (Words x) store))) names
  head_fits (g.Truth b) at vs n names is = refl
  head_fits g.Invalid at vs n names is = refl
  head_fits (g.Name x) at vs n names is = variable_fits x n (map Holds vs) (is_m x) refl names
  head_fits g.Array at vs n names is = by_values vs (λ l. Fits (gives (setting_of image actor homes frame) (makes (ArrayObject (reverse l)) store)) (makes (ArrayObject (reverse vs)) store)) refl
  head_fits (g.Pairs keys) at vs n names is =
      let keys_are = ap (λ k. take k (drop n frame.function.texts)) (sym is) ∙ names in
      by_values vs (λ l. Fits (gives (setting_of image actor homes frame) (makes (MapObject (entries (take (length vs) (drop n frame.function.texts)) (reverse l) [])) store)) (makes (MapObject (entries (map key_of keys) (reverse vs) [])) store))
      (ap (λ ks. gives (setting_of image actor homes frame) (makes (MapObject (entries ks (reverse vs) [])) store)) keys_are)
  head_fits g.Negate at vs n names is = by_values vs (λ l. Fits (gives (setting_of image actor homes frame) (unary u.Negate l store)) (unary u.Negate vs store)) (fits_of _ (unary_no u.Negate vs store))
  head_fits g.Not at vs n names is = by_values vs (λ l. Fits (gives (setting_of image actor homes frame) (unary u.Not l store)) (unary u.Not vs store)) (fits_of _ (unary_no u.Not vs store))
  head_fits g.And at vs n names is = binary_fits co.And po.And vs refl
  head_fits g.Or at vs n names is = binary_fits co.Or po.Or vs refl
  head_fits (g.Compare sign) at vs n names is = binary_fits (comparison_operator sign) (comparison sign) vs (comparison_same sign)
  head_fits (g.Shift sign) at vs n names is = binary_fits (shift_operator sign) (shift sign) vs (shift_same sign)
  head_fits (g.Add sign) at vs n names is = binary_fits (sum_operator sign) (sum sign) vs (sum_same sign)
  head_fits (g.Multiply sign) at vs n names is = binary_fits (product_operator sign) (product sign) vs (product_same sign)
  head_fits (g.Member k) at vs n names is =
      subst (λ o. Fits (with_text o (λ k. gives (setting_of image actor homes frame) (member_of k (values (map Holds vs)) store))) (member_of (readable k) vs store)) (sym names)
      (by_values vs (λ l. Fits (gives (setting_of image actor homes frame) (member_of (readable k) l store)) (member_of (readable k) vs store)) (fits_of _ (member_of_no (readable k) vs store)))
  head_fits g.Index at vs n names is = by_values vs (λ l. Fits (gives (setting_of image actor homes frame) (index_of l store)) (index_of vs store)) (fits_of _ (index_of_no vs store))
  head_fits (g.CallMember k) at vs n names is =
      subst (λ o. Fits (with_text o (λ k. mc.member_called_with (setting_of image actor homes frame) k (reverse (values (map Holds vs))) store)) (th.member_called_with (tr.setting_of q actor homes (seen_as frame source locals)) (readable k) (reverse vs) store)) (sym names)
      (by_values vs (λ l. Fits (mc.member_called_with (setting_of image actor homes frame) (readable k) (reverse l) store) (th.member_called_with (tr.setting_of q actor homes (seen_as frame source locals)) (readable k) (reverse vs) store)) (member_called_with_fits (readable k) (reverse vs)))
  head_fits g.Call at vs n names is =
      by_values vs (λ l. Fits (mc.called_with (setting_of image actor homes frame) (reverse l) store) (th.called_with (tr.setting_of q actor homes (seen_as frame source locals)) (reverse vs) store)) (called_with_fits (reverse vs))
  head_fits (g.Anonymous kind params type body) at vs n names is = ap (λ m. gives (setting_of image actor homes frame) (t.Gives (Scalar (p.Function m)) store)) (sym (is n names))
