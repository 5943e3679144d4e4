-- Pieces: each is read as it is written, and whatever is read is written so.
use Rattle.std.proofs.Common.{◌≡◌, ℕ, ◌<◌, ◌≤◌, Bool, true, false, not, ◌==◌, inl, inr, List, [], ◌∷◌, ◌++◌, length, length-append, codes, Some, None, Option, cond, refl, ap, sym, ◌∙◌, subst, append_assoc, arith}
use Rattle.std.specs.List.{list_all, flat_map}
use Rattle.std.proofs.lemmas.Bool.{eqb-true}
use Rattle.xml_pieces.specs.declared.piece.Piece.{Piece}
use Rattle.xml_pieces.specs.declared.piece.Piece.TheVariants as piece
use Rattle.xml_pieces.specs.Written as written
use Rattle.xml_pieces.specs.Written.{close_of, is_space, is_name_byte, differs, strip, tag, EndsFirst, MayStop, MayPrecede, StandsFirst, IsWritten, spelled, piece_of, text_of, Written, Declaration, Comment, Section, Opening, Closing, Between, Cut}
use Rattle.std.specs.Str.{is_utf8}
use Rattle.xml_pieces.specs.Reading.{and_then, behind, some_of, either_mark, checked, until, text_until, text, closing, a_piece, pure}
use Rattle.xml_pieces.proofs.Basics.{and_parts, and_then_some, done, done_parts, Stops, some_again, some_taken, strip_again, strip_taken, mark_taken, mark_first, mark_other, checked_again, checked_taken}
use Rattle.xml_pieces.proofs.Tags.{tag_shape, opening_again, opening_taken, closing_again, closing_taken}

-- ---- marks behind bytes

-- a mark that does not stand at the front of enough bytes does not stand there when more follow
strip_none : (mark xs rest : List ℕ) → strip mark xs ≡ None → length mark ≤ length xs → strip mark (xs ++ rest) ≡ None
unfolding strip
strip_none [] xs rest e fits = absurd (cc)
strip_none (c ∷ mark) [] rest e fits = absurd (omega arith)
strip_none (c ∷ mark) (x ∷ xs) rest e fits = at (x == c) e (λ f. strip_none mark xs rest f (omega arith))
  where
    at : (v : Bool) → cond v (strip mark xs) None ≡ None → (strip mark xs ≡ None → strip mark (xs ++ rest) ≡ None) → cond v (strip mark (xs ++ rest)) None ≡ None
    at true e ih = ih e
    at false e ih = refl

strip_less : (mark xs rest : List ℕ) → strip mark (xs ++ rest) ≡ None → strip mark xs ≡ None
unfolding strip
strip_less [] xs rest e = absurd (cc)
strip_less (c ∷ mark) [] rest e = refl
strip_less (c ∷ mark) (x ∷ xs) rest e = at (x == c) e (λ f. strip_less mark xs rest f)
  where
    at : (v : Bool) → cond v (strip mark (xs ++ rest)) None ≡ None → (strip mark (xs ++ rest) ≡ None → strip mark xs ≡ None) → cond v (strip mark xs) None ≡ None
    at true e ih = ih e
    at false e ih = refl

pub until_again : (c : ℕ) (cs inside rest : List ℕ) → EndsFirst (c ∷ cs) inside → until (c ∷ cs) (inside ++ (c ∷ cs ++ rest)) ≡ Some (inside, rest)
unfolding until
until_again c cs [] rest ends = let e = strip_again (c ∷ cs) rest in ap (λ z. behind z (λ r. Some ([], r)) (and_then (until (c ∷ cs) (cs ++ rest)) (λ more r. Some (c ∷ more, r)))) e
until_again c cs (b ∷ inside) rest ends =
    let fits : length (c ∷ cs) ≤ length (b ∷ (inside ++ c ∷ cs)) = omega (arith, length-append inside (c ∷ cs)) in
    let e = strip_none (c ∷ cs) (b ∷ (inside ++ c ∷ cs)) rest ends.0 fits in
    let shape : b ∷ ((inside ++ c ∷ cs) ++ rest) ≡ b ∷ (inside ++ (c ∷ cs ++ rest)) = ap (λ z. b ∷ z) (append_assoc inside (c ∷ cs) rest) in
    let e_ = subst (λ z. strip (c ∷ cs) z ≡ None) shape e in
    ap (λ z. behind z (λ r. Some ([], r)) (and_then (until (c ∷ cs) (inside ++ (c ∷ cs ++ rest))) (λ more r. Some (b ∷ more, r)))) e_
    ∙ ap (λ z. and_then z (λ more r. Some (b ∷ more, r))) (until_again c cs inside rest ends.1)

pub record UntilTaken (mark bs inside rest : List ℕ) : Type 0 where
  pub whole : bs ≡ inside ++ (mark ++ rest)
  pub ends : EndsFirst mark inside

pub until_taken : (mark bs inside rest : List ℕ) → until mark bs ≡ Some (inside, rest) → UntilTaken mark bs inside rest
unfolding until
until_taken mark [] inside rest e = absurd (cc)
until_taken mark (b ∷ bs) inside rest e = at (strip mark (b ∷ bs)) refl e (until_taken mark bs)
  where
    at : (o : Option (List ℕ)) → strip mark (b ∷ bs) ≡ o → behind o (λ r. done [] r) (and_then (until mark bs) (λ more r. Some (b ∷ more, r))) ≡ done inside rest
        → ((inside rest : List ℕ) → until mark bs ≡ Some (inside, rest) → UntilTaken mark bs inside rest) → UntilTaken mark (b ∷ bs) inside rest
    at (Some r) s e ih =
        let same = done_parts [] inside r rest e in
        let whole : b ∷ bs ≡ [] ++ (mark ++ rest) = strip_taken mark (b ∷ bs) r s ∙ ap (λ z. mark ++ z) same.1 in
        let first : UntilTaken mark (b ∷ bs) [] rest = record { whole = whole; ends = tt } in
        subst (λ z. UntilTaken mark (b ∷ bs) z rest) same.0 first
    at None s e ih =
        let x = and_then_some (until mark bs) (λ more r. done (b ∷ more) r) (inside, rest) e in
        let t = ih x.0.0 x.0.1 x.1 in
        let same = done_parts (b ∷ x.0.0) inside x.0.1 rest x.2 in
        let shape : b ∷ bs ≡ (b ∷ (x.0.0 ++ mark)) ++ x.0.1 = ap (λ z. b ∷ z) (t.whole ∙ sym (append_assoc x.0.0 mark x.0.1)) in
        let no = strip_less mark (b ∷ (x.0.0 ++ mark)) x.0.1 (subst (λ z. strip mark z ≡ None) shape s) in
        let whole : b ∷ bs ≡ (b ∷ x.0.0) ++ (mark ++ rest) = ap (λ z. b ∷ z) t.whole ∙ ap (λ z. b ∷ (x.0.0 ++ (mark ++ z))) same.1 in
        let here : UntilTaken mark (b ∷ bs) (b ∷ x.0.0) rest = record { whole = whole; ends = (no, t.ends) } in
        subst (λ z. UntilTaken mark (b ∷ bs) z rest) same.0 here

-- ---- text

text_stops : (rest : List ℕ) → MayStop rest → Stops (differs 60) rest
text_stops [] stops = tt
text_stops (b ∷ rest) stops = stops

stops_text : (rest : List ℕ) → Stops (differs 60) rest → MayStop rest
stops_text [] stops = tt
stops_text (b ∷ rest) stops = stops

no_mark : (b : ℕ) (u rest mark : List ℕ) → differs 60 b ≡ true → strip (60 ∷ mark) (b ∷ rest) ≡ None
unfolding strip differs
no_mark b u rest mark e = at (b == 60) e
  where
    at : (v : Bool) → not v ≡ true → cond v (strip mark rest) None ≡ None
    at true e = absurd (cc)
    at false e = refl

text_again : (u rest : List ℕ) → list_all (differs 60) u ≡ true → (u ≡ [] → ⊥) → is_utf8 u ≡ true → Stops (differs 60) rest → a_piece (u ++ rest) ≡ Some (text_of (list_all is_space u), rest)
unfolding a_piece either_mark text
text_again [] rest all some utf8 stops = absurd (some refl)
text_again (b ∷ u) rest all some utf8 stops =
    let here = (and_parts (differs 60 b) (list_all (differs 60) u) all).0 in
    let c = no_mark b u (u ++ rest) (codes "!--") here in
    let d = no_mark b u (u ++ rest) (codes "![CDATA[") here in
    let x = no_mark b u (u ++ rest) (codes "?xml") here in
    let e = no_mark b u (u ++ rest) (codes "/") here in
    let f = no_mark b u (u ++ rest) [] here in
    let t = some_again (differs 60) (b ∷ u) rest all some stops in
    simp (c, d, x, e, f, t, utf8)

-- ---- pieces

no_name_33 : is_name_byte 33 ≡ false
unfolding is_name_byte
no_name_33 = refl

no_name_63 : is_name_byte 63 ≡ false
unfolding is_name_byte
no_name_63 = refl

no_name_47 : is_name_byte 47 ≡ false
unfolding is_name_byte
no_name_47 = refl

unlike : (b c : ℕ) → is_name_byte b ≡ true → is_name_byte c ≡ false → (b == c) ≡ false
unlike b c is isnt = at (b == c) refl
  where
    at : (v : Bool) → (b == c) ≡ v → v ≡ false
    at true e = let same = eqb-true b c e in let bad = ap is_name_byte same in absurd (cc)
    at false e = refl

-- behind a <, a name begins no other piece than a tag
no_comment : (t rest : List ℕ) → list_all is_name_byte t ≡ true → (t ≡ [] → ⊥) → (strip (codes "<!--") (60 ∷ (t ++ rest)) ≡ None) × (strip (codes "<![CDATA[") (60 ∷ (t ++ rest)) ≡ None)
    × (strip (codes "<?xml") (60 ∷ (t ++ rest)) ≡ None) × (strip (codes "</") (60 ∷ (t ++ rest)) ≡ None)
unfolding strip
no_comment [] rest all some = absurd (some refl)
no_comment (b ∷ t) rest all some =
    let is = (and_parts (is_name_byte b) (list_all is_name_byte t) all).0 in
    let x = unlike b 33 is (no_name_33) in
    let y = unlike b 47 is (no_name_47) in
    let z = unlike b 63 is (no_name_63) in
    (rw x refl, rw x refl, rw z refl, rw y refl)

strip_one : (bs : List ℕ) → strip (codes "<") (60 ∷ bs) ≡ Some bs
unfolding strip
strip_one bs = refl

not_comment : (bs : List ℕ) → strip (codes "<!--") (codes "<![CDATA[" ++ bs) ≡ None
unfolding strip
not_comment bs = refl

not_close : (bs : List ℕ) → (strip (codes "<!--") (codes "</" ++ bs) ≡ None) × (strip (codes "<![CDATA[") (codes "</" ++ bs) ≡ None) × (strip (codes "<?xml") (codes "</" ++ bs) ≡ None)
unfolding strip
not_close bs = (refl, refl, refl)

not_declaration : (bs : List ℕ) → (strip (codes "<!--") (codes "<?xml" ++ bs) ≡ None) × (strip (codes "<![CDATA[") (codes "<?xml" ++ bs) ≡ None)
unfolding strip
not_declaration bs = (refl, refl)

until_text_again : (A : Type 0) (c : ℕ) (cs inside rest : List ℕ) (k : List ℕ → A) → EndsFirst (c ∷ cs) inside → is_utf8 inside ≡ true
    → and_then (until (c ∷ cs) ((inside ++ (c ∷ cs)) ++ rest)) (λ z. checked z k) ≡ Some (k inside, rest)
until_text_again A c cs inside rest k ends utf8 =
    ap (λ z. and_then (until (c ∷ cs) z) (λ z. checked z k)) (append_assoc inside (c ∷ cs) rest)
    ∙ ap (λ z. and_then z (λ z. checked z k)) (until_again c cs inside rest ends)
    ∙ checked_again inside k rest utf8

pub piece_again : (w : Written) (rest : List ℕ) → IsWritten w → MayPrecede w rest → a_piece (spelled w ++ rest) ≡ Some (piece_of w, rest)
unfolding a_piece
piece_again (Declaration inside) rest good stops =
    let more = (inside ++ codes "?>") ++ rest in
    let bs = codes "<?xml" ++ more in
    mark_other (codes "<!--") bs _ _ (not_declaration more).0
    ∙ mark_other (codes "<![CDATA[") bs _ _ (not_declaration more).1
    ∙ mark_first (codes "<?xml") bs more _ _ (strip_again (codes "<?xml") more)
    ∙ ap (λ z. and_then z (λ _. pure piece.Declaration)) (until_text_again (List ℕ) 63 (codes ">") inside rest (λ text. text) good.0 good.1)
piece_again (Comment inside) rest good stops =
    let more = (inside ++ codes "-->") ++ rest in
    mark_first (codes "<!--") (codes "<!--" ++ more) more _ _ (strip_again (codes "<!--") more)
    ∙ ap (λ z. and_then z (λ _. pure piece.Comment)) (until_text_again (List ℕ) 45 (codes "->") inside rest (λ text. text) good.0 good.1)
piece_again (Section inside) rest good stops =
    let more = (inside ++ codes "]]>") ++ rest in
    let bs = codes "<![CDATA[" ++ more in
    mark_other (codes "<!--") bs _ _ (not_comment more)
    ∙ mark_first (codes "<![CDATA[") bs more _ _ (strip_again (codes "<![CDATA[") more)
    ∙ until_text_again Piece 93 (codes "]>") inside rest (λ text. piece.Data text) good.0 good.1
piece_again (Opening t) rest good stops =
    let apart = no_comment t.name (flat_map written.attribute t.attributes ++ (t.space ++ (close_of t.empty ++ rest))) good.name good.some_name in
    let shape = sym (tag_shape t rest) in
    let bs = 60 ∷ (tag t ++ rest) in
    mark_other (codes "<!--") bs _ _ (subst (λ z. strip (codes "<!--") (60 ∷ z) ≡ None) shape apart.0)
    ∙ mark_other (codes "<![CDATA[") bs _ _ (subst (λ z. strip (codes "<![CDATA[") (60 ∷ z) ≡ None) shape apart.1)
    ∙ mark_other (codes "<?xml") bs _ _ (subst (λ z. strip (codes "<?xml") (60 ∷ z) ≡ None) shape apart.2)
    ∙ mark_other (codes "</") bs _ _ (subst (λ z. strip (codes "</") (60 ∷ z) ≡ None) shape apart.3)
    ∙ mark_first (codes "<") bs (tag t ++ rest) _ _ (strip_one (tag t ++ rest))
    ∙ opening_again t rest good
piece_again (Closing name space) rest good stops =
    let more = (name ++ (space ++ codes ">")) ++ rest in
    let shape : more ≡ name ++ (space ++ (codes ">" ++ rest)) = append_assoc name (space ++ codes ">") rest ∙ ap (λ z. name ++ z) (append_assoc space (codes ">") rest) in
    let bs = codes "</" ++ more in
    mark_other (codes "<!--") bs _ _ (not_close more).0
    ∙ mark_other (codes "<![CDATA[") bs _ _ (not_close more).1
    ∙ mark_other (codes "<?xml") bs _ _ (not_close more).2
    ∙ mark_first (codes "</") bs more _ _ (strip_again (codes "</") more)
    ∙ ap closing shape
    ∙ closing_again name space rest good.0 good.1 good.2
piece_again (Between text_) rest good stops = text_again text_ rest good.0 good.1 good.2 (text_stops rest stops)

record EndTaken (A : Type 0) (mark bs : List ℕ) (k : List ℕ → A) (x : A) (rest : List ℕ) : Type 0 where
  pub inside : List ℕ
  pub whole : bs ≡ (inside ++ mark) ++ rest
  pub ends : EndsFirst mark inside
  pub utf8 : is_utf8 inside ≡ true
  pub same : k inside ≡ x

end_taken : {A : Type 0} (mark bs : List ℕ) (k : List ℕ → A) (x : A) (rest : List ℕ) → and_then (until mark bs) (λ z. checked z k) ≡ Some (x, rest) → EndTaken A mark bs k x rest
end_taken mark bs k x rest e =
    let u = and_then_some (until mark bs) (λ z. checked z k) (x, rest) e in
    let t = until_taken mark bs u.0.0 u.0.1 u.1 in
    let c = checked_taken u.0.0 k u.0.1 x rest u.2 in
    record {
      inside = u.0.0;
      whole = t.whole ∙ ap (λ z. u.0.0 ++ (mark ++ z)) c.left ∙ sym (append_assoc u.0.0 mark rest);
      ends = t.ends;
      utf8 = c.utf8;
      same = c.same;
    }

pub piece_taken : (bs : List ℕ) (p : Piece) (rest : List ℕ) → a_piece bs ≡ Some (p, rest) → StandsFirst bs p rest
unfolding a_piece text
piece_taken bs p rest e = elim (mark_taken (codes "<!--") bs _ _ (p, rest) e) [
  | inl x ↦
      let u = and_then_some (text_until (codes "-->") x.0) (λ _. pure piece.Comment) (p, rest) x.2 in
      let t = end_taken (codes "-->") x.0 (λ text. text) u.0.0 u.0.1 u.1 in
      let same = done_parts piece.Comment p u.0.1 rest u.2 in
      record { written = Comment t.inside; whole = x.1 ∙ ap (λ z. codes "<!--" ++ z) (t.whole ∙ ap (λ z. (t.inside ++ codes "-->") ++ z) same.1); good = (t.ends, t.utf8); stops = tt; same = same.0 }
  | inr e ↦ elim (mark_taken (codes "<![CDATA[") bs _ _ (p, rest) e) [
    | inl x ↦
        let t = end_taken (codes "]]>") x.0 (λ text. piece.Data text) p rest x.2 in
        record { written = Section t.inside; whole = x.1 ∙ ap (λ z. codes "<![CDATA[" ++ z) t.whole; good = (t.ends, t.utf8); stops = tt; same = t.same }
    | inr e ↦ elim (mark_taken (codes "<?xml") bs _ _ (p, rest) e) [
      | inl x ↦
          let u = and_then_some (text_until (codes "?>") x.0) (λ _. pure piece.Declaration) (p, rest) x.2 in
          let t = end_taken (codes "?>") x.0 (λ text. text) u.0.0 u.0.1 u.1 in
          let same = done_parts piece.Declaration p u.0.1 rest u.2 in
          record { written = Declaration t.inside; whole = x.1 ∙ ap (λ z. codes "<?xml" ++ z) (t.whole ∙ ap (λ z. (t.inside ++ codes "?>") ++ z) same.1); good = (t.ends, t.utf8); stops = tt; same = same.0 }
      | inr e ↦ elim (mark_taken (codes "</") bs _ _ (p, rest) e) [
        | inl x ↦
            let c = closing_taken x.0 p rest x.2 in
            let shape : (c.name ++ (c.space ++ codes ">")) ++ rest ≡ c.name ++ (c.space ++ (codes ">" ++ rest)) = simp append_assoc in
            record { written = Closing c.name c.space; whole = x.1 ∙ ap (λ z. codes "</" ++ z) (c.whole ∙ sym shape); good = (c.good, c.some, c.spaces); stops = tt; same = sym c.same }
        | inr e ↦ elim (mark_taken (codes "<") bs _ _ (p, rest) e) [
          | inl x ↦
              let o = opening_taken x.0 p rest x.2 in
              record { written = Opening o.written; whole = x.1 ∙ ap (λ z. 60 ∷ z) o.whole; good = o.good; stops = tt; same = sym o.same }
          | inr e ↦
              let s = and_then_some (some_of (differs 60) bs) _ (p, rest) e in
              let t = some_taken (differs 60) bs s.0.0 s.0.1 s.1 in
              let c = checked_taken s.0.0 (λ text. text_of (list_all is_space text)) s.0.1 p rest s.2 in
              record {
                written = Between s.0.0;
                whole = t.whole ∙ ap (λ z. s.0.0 ++ z) c.left;
                good = (t.all, t.some, c.utf8);
                stops = subst MayStop c.left (stops_text s.0.1 t.stops);
                same = c.same;
              }
        ]
      ]
    ]
  ]
]

-- a piece has at least one byte
pub some_spelled : (w : Written) → IsWritten w → 0 < length (spelled w)
some_spelled (Declaration inside) good = omega arith
some_spelled (Comment inside) good = omega arith
some_spelled (Section inside) good = omega arith
some_spelled (Opening t) good = omega arith
some_spelled (Closing name space) good = omega arith
some_spelled (Between []) good = absurd (good.1 refl)
some_spelled (Between (b ∷ text_)) good = omega arith
