-- A walk along bases, a step at a time.
use Rattle.std.proofs.Common.{◌≡◌, ℕ, zero, suc, ◌-◌, ◌<◌, List, Option, Some, None, ap, ◌∙◌, arith, refl}
use Rattle.std.specs.Option.{option_or}
use Rattle.field_types.specs.declared.types.FieldType.{FieldType}
use Rattle.field_faults.specs.declared.rows.KindFields.{KindFields}
use Rattle.field_faults.specs.Rows.{item_at, from_row, field_along, own_field}

or_or : {A : Type 0} (a b c : Option A) → option_or (option_or a b) c ≡ option_or a (option_or b c)
or_or None b c = refl
or_or (Some x) b c = refl

at_end : (n : ℕ) (rows : List KindFields) (place : Option ℕ) (id : List ℕ) → item_at rows place ≡ None → field_along n rows place id ≡ None
at_end zero rows place id e = refl
at_end (suc n) rows place id e = ap (λ o. from_row o (λ row. option_or (field_along n rows row.base id) (own_field row id))) e

pub walk_ends : (n : ℕ) (rows : List KindFields) (place : Option ℕ) (id : List ℕ) (found : Option (Option FieldType)) → item_at rows place ≡ None → option_or (field_along n rows place id) found ≡ found
walk_ends n rows place id found e = ap (λ o. option_or o found) (at_end n rows place id e)

pub walk_goes_on : (n : ℕ) (rows : List KindFields) (place : Option ℕ) (id : List ℕ) (found : Option (Option FieldType)) (row : KindFields) → 0 < n → item_at rows place ≡ Some row
    → option_or (field_along n rows place id) found ≡ option_or (field_along (n - 1) rows row.base id) (option_or (own_field row id) found)
walk_goes_on zero rows place id found row h e = absurd (omega arith)
walk_goes_on (suc n) rows place id found row h e =
    let less : n ≡ suc n - 1 = omega arith in
    ap (λ o. option_or (from_row o (λ r. option_or (field_along n rows r.base id) (own_field r id))) found) e
    ∙ or_or (field_along n rows row.base id) (own_field row id) found
    ∙ ap (λ m. option_or (field_along m rows row.base id) (option_or (own_field row id) found)) less

pub ruleset walk_steps = (walk_ends, walk_goes_on)
