-- The call of a value, and of a number.
use Rattle.std.proofs.Common.{◌≡◌, ℕ, ◌-◌, ◌<◌, ◌≤◌, ◌^◌, List, [], ◌++◌, length, Option, Some, None, refl, sym, ap, ◌∙◌, arith, inl, inr}
use Rattle.std.specs.Prelude.{Bool, true, false, cond, codes, min, slice_get}
use Rattle.std.specs.Str.{bytes_eq}
use Rattle.std.proofs.lemmas.List.{length-append}
use Rattle.std.proofs.lemmas.Bool.{le-ltb}
use Rattle.std.proofs.lemmas.Option.{slice_get_past, slice_get_cases}
use Rattle.heap_meaning.specs.declared.plain.Plain.{Plain}
use Rattle.heap_meaning.specs.declared.plain.Plain.TheVariants as p
use Rattle.heap_meaning.specs.Values.{Value, StoreValue, Scalar}
use Rattle.heap_meaning.specs.Store.{Store}
use Rattle.heap_meaning.specs.Cells.{Content}
use Rattle.heap_meaning.specs.Stands.{Naming, meaning}
use Rattle.heap_meaning.specs.Heap.{Heap, content_at}
use Rattle.heap_meaning.specs.Reading.{plain_of}
use Rattle.heap_meaning.proofs.Showing.{Seen, sees_plain, sees_text, sees_array, sees_pairs, sees_message, sees}
use Rattle.object_operations.proofs.Seeing.{first_belongs}
use Rattle.object_operations.specs.Types.{type_row}
use Rattle.plain_operations.specs.Names.{function_named}
use Rattle.plain_operations.specs.declared.function.PlainFunction.{PlainFunction}
use Rattle.brs_code.specs.declared.code.Code.{Code}
use Rattle.brs_code.specs.Join.{function_count}
use Rattle.brs_builtins.specs.declared.operation.Operation.TheVariants as o
use Rattle.brs_meaning.specs.Given.{answered}
use Rattle.brs_meaning.specs.Calls.{plain_call}
use Rattle.brs_meaning.specs.WorldCalls.{create_object, wait}
use Rattle.machine_meaning.specs.Image.{Image, function_at, built_in_at}
use Rattle.machine_meaning.specs.Setting.{Setting}
use Rattle.machine_meaning.specs.Calls.{call}
use Rattle.call_decisions.specs.declared.built_in.BuiltInCall.TheVariants as b
use Rattle.call_decisions.specs.declared.function.FunctionCall.TheVariants as f
use Rattle.call_decisions.specs.Functions.{number_of, FunctionCallIs}
use Rattle.call_decisions.specs.BuiltIns.{function_or_nothing, built_in_called}
use Rattle.call_decisions.specs.CallRows.{number_acts, IsCallRow, built_in_gives, IsBuiltInRow}

-- ---- a value

plain_acts : (s : Setting) (arguments : List StoreValue) (store : Store) (plain : Plain) → call s (Scalar plain) arguments store ≡ number_acts (number_of (Some plain)) s arguments store
plain_acts s arguments store p.Invalid = refl
plain_acts s arguments store (p.Truth t) = refl
plain_acts s arguments store (p.Small i) = refl
plain_acts s arguments store (p.Big i) = refl
plain_acts s arguments store (p.Function i) = refl
plain_acts s arguments store (p.Node i) = refl
plain_acts s arguments store (p.Port i) = refl
plain_acts s arguments store p.Screen = refl

value_acts : (s : Setting) (arguments : List StoreValue) (store : Store) (name : Naming) (v : Value) (w : StoreValue) (content : Option Content) → Seen name store v w content → call s w arguments store ≡ number_acts (number_of (plain_of v)) s arguments store
value_acts s arguments store name _ _ _ (sees_plain {p = plain}) = plain_acts s arguments store plain
value_acts s arguments store name _ _ _ sees_text = refl
value_acts s arguments store name _ _ _ (sees_array g) = refl
value_acts s arguments store name _ _ _ (sees_pairs g) = refl
value_acts s arguments store name _ _ _ (sees_message g) = refl

pub call_row : (h : Heap) (v : Value) → IsCallRow h v (number_of (plain_of v))
call_row h v = λ name store before stands out s arguments.
    value_acts s arguments store name v (meaning name v) (content_at h v) (sees h name store before v stands (first_belongs h name store before v [] stands out))

-- ---- a number

abbrev all_functions : Image → ℕ
all_functions image = length (image.code.named ++ image.code.anonymous)

pub source_is : (code : Code) (image : Image) (n count : ℕ) → image.code ≡ code → count ≡ min (function_count code) (2 ^ 64 - 1) → n < count → FunctionCallIs image n f.Source
source_is code image n count same counted below =
    let l = length-append image.code.named image.code.anonymous in
    let e : function_count image.code ≡ function_count code = ap function_count same in
    let inside : n < all_functions image = omega arith in
    elim (slice_get_cases (image.code.named ++ image.code.anonymous) n).1 [
      | inl x ↦ (x.0, x.2)
      | inr x ↦ absurd (let y = x.0 in omega arith)
    ]

past : (code : Code) (image : Image) (n count : ℕ) → image.code ≡ code → count ≡ min (function_count code) (2 ^ 64 - 1) → n < 2 ^ 32 → count ≤ n → (function_at image n ≡ None) × (built_in_at image n ≡ slice_get image.built_ins (n - count)) × (count ≡ function_count image.code)
past code image n count same counted small above =
    let l = length-append image.code.named image.code.anonymous in
    let e : function_count image.code ≡ function_count code = ap function_count same in
    let exact : count ≡ function_count image.code = omega arith in (
      slice_get_past (image.code.named ++ image.code.anonymous) n (omega arith),
      ap (λ t. cond t None (slice_get image.built_ins (n - function_count image.code))) (le-ltb n (function_count image.code) (omega arith)) ∙ ap (λ c. slice_get image.built_ins (n - c)) (sym exact),
      exact,
    )

pub built_in_is : (code : Code) (image : Image) (n count built_ins : ℕ) → image.code ≡ code → count ≡ min (function_count code) (2 ^ 64 - 1) → length image.built_ins ≡ built_ins → n < 2 ^ 32 → count ≤ n → n - count < built_ins
    → FunctionCallIs image n (f.BuiltIn (n - count))
built_in_is code image n count built_ins same counted many small above inside = let q = past code image n count same counted small above in (q.0, omega arith, q.1)

pub nothing_is : (code : Code) (image : Image) (n count built_ins : ℕ) → image.code ≡ code → count ≡ min (function_count code) (2 ^ 64 - 1) → length image.built_ins ≡ built_ins → n < 2 ^ 32 → count ≤ n → built_ins ≤ n - count
    → FunctionCallIs image n f.Nothing
nothing_is code image n count built_ins same counted many small above outside = let q = past code image n count same counted small above in (q.0, q.1 ∙ slice_get_past image.built_ins (n - count) (omega arith))

-- ---- a built-in function

pub built_in_row : (name : List ℕ) → IsBuiltInRow name (built_in_called name)
built_in_row name = λ actor arguments store. go actor arguments store (bytes_eq name (codes "createobject")) (bytes_eq name (codes "wait")) (bytes_eq name (codes "type")) (function_named name)
  where
    go : (actor : ℕ) (arguments : List StoreValue) (store : Store) (x y z : Bool) (g : Option PlainFunction)
        → cond x (create_object actor arguments store) (cond y (wait actor arguments) (cond z (answered (type_row arguments store)) (plain_call g arguments store)))
        ≡ built_in_gives (cond x b.CreateObject (cond y b.Wait (cond z (b.Applies o.TypeName) (function_or_nothing g)))) actor arguments store
    go actor arguments store true y z g = refl
    go actor arguments store false true z g = refl
    go actor arguments store false false true g = refl
    go actor arguments store false false false (Some g) = refl
    go actor arguments store false false false None = refl
