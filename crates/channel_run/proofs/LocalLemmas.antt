-- The numbers of the locals after one was set.
use Rattle.std.proofs.Common.{◌≡◌, ℕ, ℤ, pos, Bool, true, false, cond, List, Option, Some, unwrap_or, refl, ap, ◌∙◌}
use Rattle.std.specs.Borrow.{Bor}
use Rattle.std.specs.BTreeMap as tree
use Rattle.std.specs.Ordering.{nat_cmp}
use Rattle.std.specs.Cmp.Lexicographic.{slice_cmp}
use Rattle.std.specs.Str.{bytes_eq}
use Rattle.std.proofs.lemmas.Map.Text.{btree_map_updates_str}
use Rattle.channel_run.specs.FirstLines.{set_number}
use Rattle.channel_run.specs.FirstLocals.{numbers_in}

same_function : {A B : Type 0} {f g : A → B} → ((x : A) → f x ≡ g x) → f ≡ g
same_function same = λ i. λ x. same x i

number_or_zero : (b : Bool) (number : ℤ) (o : Option ℤ) → unwrap_or (cond b (Some number) o) (pos 0) ≡ cond b number (unwrap_or o (pos 0))
number_or_zero true number o = refl
number_or_zero false number o = refl

pub numbers_set : (m n : tree.BTreeMap (Bor (List ℕ)) ℤ) (name : List ℕ) (number written : ℤ) → written ≡ number → tree.UpdatesBy (λ x y. slice_cmp nat_cmp x.now y.now) (λ k. slice_cmp nat_cmp name k.now) m n (Some written)
    → numbers_in n ≡ set_number (numbers_in m) name number
numbers_set m n name number written same updates =
    same_function (λ q. ap (λ o. unwrap_or o (pos 0)) (btree_map_updates_str name m n (Some written) updates q)
    ∙ number_or_zero (bytes_eq name q) written (tree.get_by (λ k. slice_cmp nat_cmp q k.now) m))
    ∙ ap (set_number (numbers_in m) name) same
