-- Texts that go last in a table.
use Rattle.std.proofs.Common.{◌≡◌, ℕ, ◌+◌, ◌<◌, ◌≤◌, List, [], ◌∷◌, ◌++◌, length, take, get_or, sym, ap, ◌∙◌, append_assoc}
use Rattle.std.proofs.lemmas.List.{append-nil, take_more, take_all}
use Rattle.lowering_parts.specs.declared.tables.Tables.{Tables}

pub texts_begin : (t : Tables) → t ≡ record t { texts = t.texts ++ [] }
texts_begin t = sym (ap (λ l. record t { texts = l }) (append-nil t.texts))

pub texts_more : (s t u : Tables) (xs : List (List ℕ)) (i : ℕ) (x : List ℕ) → i < length xs → x ≡ get_or xs i x → t ≡ record s { texts = s.texts ++ take i xs } → u ≡ record t { texts = t.texts ++ x ∷ [] }
    → u ≡ record s { texts = s.texts ++ take (i + 1) xs }
texts_more s t u xs i x h at was new =
    new ∙ ap (λ (z : Tables). record z { texts = z.texts ++ x ∷ [] }) was
    ∙ ap (λ l. record s { texts = l }) (append_assoc s.texts (take i xs) (x ∷ []) ∙ ap (λ y. s.texts ++ (take i xs ++ y ∷ [])) at ∙ ap (λ l. s.texts ++ l) (sym (take_more xs i x h)))

pub texts_all : (s t : Tables) (xs : List (List ℕ)) (i : ℕ) → length xs ≤ i → t ≡ record s { texts = s.texts ++ take i xs } → t ≡ record s { texts = s.texts ++ xs }
texts_all s t xs i h was = was ∙ ap (λ l. record s { texts = s.texts ++ l }) (take_all i xs h)
