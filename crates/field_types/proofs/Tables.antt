-- A list in which each item may stand behind those before it, with one item more.
use Rattle.std.proofs.Common.{◌≡◌, ℕ, zero, suc, Bool, true, false, List, [], ◌∷◌, ◌++◌, take, Option, Some, sym, subst}
use Rattle.std.specs.Prelude.{slice_get, if◌then◌else◌}
use Rattle.field_types.specs.declared.plans.KindPlan.{KindPlan}
use Rattle.field_types.specs.Plans.{IsNext, IsPlanTable}

follow : {A : Type 0} (P : List A → A → Type 0) (xs : List A) (y : A) → ((at : ℕ) (x : A) → slice_get xs at ≡ Some x → P (take at xs) x) → P xs y → (at : ℕ) (x : A) → slice_get (xs ++ y ∷ []) at ≡ Some x → P (take at (xs ++ y ∷ [])) x
follow P [] y each last zero x e = let same : y ≡ x = cc in subst (λ z. P [] z) same last
follow P [] y each last (suc at) x e = absurd cc
follow P (w ∷ xs) y each last zero x e = each zero x e
follow P (w ∷ xs) y each last (suc at) x e = follow (λ front. P (w ∷ front)) xs y (λ i z h. each (suc i) z h) last at x e

pub table_more : (plans : List KindPlan) (p : KindPlan) → IsPlanTable plans → IsNext plans p → IsPlanTable (plans ++ p ∷ [])
table_more plans p table next = record { each = follow IsNext plans p table.each next }

-- after a push that may have been refused
pub table_after : (grew : Bool) (seen plans after : List KindPlan) (p : KindPlan) → seen ≡ plans → after ≡ (if grew then plans ++ p ∷ [] else plans) → IsPlanTable plans → IsNext seen p → IsPlanTable after
table_after true seen plans after p e f table next = subst IsPlanTable (sym f) (table_more plans p table (subst (λ l. IsNext l p) e next))
table_after false seen plans after p e f table next = subst IsPlanTable (sym f) table
