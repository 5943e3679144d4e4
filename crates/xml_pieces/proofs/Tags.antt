-- Tags and their attributes: what is written is read, and what is read was written so.
use Rattle.std.proofs.Common.{◌≡◌, ℕ, zero, suc, ◌<◌, ◌≤◌, Bool, true, false, ◌==◌, inl, inr, List, [], ◌∷◌, ◌++◌, length, length-append, map, codes, Some, None, cond, refl, ap, sym, ◌∙◌, subst, append_assoc, append-nil, arith}
use Rattle.std.specs.List.{list_all, flat_map}
use Rattle.std.proofs.lemmas.Bool.{eqb-true, eq-eqb}
use Rattle.xml_pieces.specs.declared.piece.AttributeText.{AttributeText}
use Rattle.xml_pieces.specs.declared.piece.Tag.{Tag}
use Rattle.xml_pieces.specs.declared.piece.Piece.{Piece}
use Rattle.xml_pieces.specs.declared.piece.Piece.TheVariants as piece
use Rattle.xml_pieces.specs.Written as written
use Rattle.xml_pieces.specs.Written.{is_space, is_name_byte, is_attribute_byte, is_quote, differs, strip, is_empty, are_distinct, Stretch, stretch, meant, is_allowed, WrittenAttribute, IsAttribute, AreAttributes, attribute_of, WrittenTag, IsTag, tag, tag_of, close_of, opening_of}
use Rattle.xml_pieces.specs.Reading.{Parser, and_then, bind, run, after, first, some_of, one, exactly, either_mark, text_at, value_from, quoted, attribute, attributes_from, close, opening, closing}
use Rattle.xml_pieces.proofs.Basics.{and_parts, or_parts, chosen, space_no_name, space_no_attribute, attribute_no_space, name_utf8, attribute_utf8, checked_taken, and_then_some, bind_some, done, done_parts, Stops, stops_through, stops_at, run_again, after_again, run_whole, run_all, not_empty, some_again, some_taken, exactly_again, exactly_taken, mark_taken}
use Rattle.xml_pieces.proofs.Values.{value_again, value_taken}
use Rattle.std.specs.Str.{is_utf8}

quote_no_space : (b : ℕ) → is_quote b ≡ true → is_space b ≡ false
unfolding is_quote is_space
quote_no_space b e = elim (or_parts (b == 34) (b == 39) e) [
  | inl h ↦ let is = eqb-true b 34 h in rw is refl
  | inr h ↦ let is = eqb-true b 39 h in rw is refl
]

pub stops_itself : (b : ℕ) (rest : List ℕ) → Stops (differs b) (b ∷ rest)
unfolding differs
stops_itself b rest = let e = eq-eqb b b refl in rw e refl

-- ---- values between quotes

pub quoted_again : (q : ℕ) (ss : List Stretch) (rest : List ℕ) → is_quote q ≡ true → list_all (differs q) (flat_map stretch ss) ≡ true → list_all is_allowed ss ≡ true → is_utf8 (flat_map meant ss) ≡ true
    → quoted (q ∷ (flat_map stretch ss ++ q ∷ rest)) ≡ Some (flat_map meant ss, rest)
unfolding quoted one
quoted_again q ss rest quote inside allowed utf8 =
    let r = run_again (differs q) (flat_map stretch ss) (q ∷ rest) inside (stops_itself q rest) in
    let a = after_again (differs q) (flat_map stretch ss) (q ∷ rest) inside (stops_itself q rest) in
    let x = exactly_again (q ∷ []) rest in
    let v = value_again (length (flat_map stretch ss)) [] ss (omega arith) allowed in
    simp (quote, r, a, x, v, utf8)

pub record QuotedTaken (bs v rest : List ℕ) : Type 0 where
  pub quote : ℕ
  pub parts : List Stretch
  pub whole : bs ≡ quote ∷ (flat_map stretch parts ++ quote ∷ rest)
  pub is : is_quote quote ≡ true
  pub inside : list_all (differs quote) (flat_map stretch parts) ≡ true
  pub allowed : list_all is_allowed parts ≡ true
  pub utf8 : is_utf8 (flat_map meant parts) ≡ true
  pub value : v ≡ flat_map meant parts

one_taken : (p : ℕ → Bool) (bs : List ℕ) (b : ℕ) (rest : List ℕ) → one p bs ≡ Some (b, rest) → (bs ≡ b ∷ rest) × (p b ≡ true)
unfolding one
one_taken p [] b rest e = absurd (cc)
one_taken p (c ∷ bs) b rest e = elim (chosen (p c) (done c bs) None (done b rest) e) [
  | inl x ↦ let same = done_parts c b bs rest x.1 in (ap (λ z. z ∷ bs) same.0 ∙ ap (λ z. b ∷ z) same.1, subst (λ z. p z ≡ true) same.0 x.0)
  | inr x ↦ absurd (cc)
]

pub quoted_taken : (bs v rest : List ℕ) → quoted bs ≡ Some (v, rest) → QuotedTaken bs v rest
unfolding quoted
quoted_taken bs v rest e =
    let a = and_then_some (one is_quote bs) _ (v, rest) e in
    let q = a.0.0 in
    let one = one_taken is_quote bs q a.0.1 a.1 in
    let b = and_then_some (exactly (q ∷ []) (after (differs q) a.0.1)) _ (v, rest) a.2 in
    let mark = exactly_taken (q ∷ []) (after (differs q) a.0.1) b.0.1 b.0.0 b.1 in
    let raw = run (differs q) a.0.1 in
    let c = bind_some (value_from (length raw) [] raw) (λ w. bind (text_at w) (λ text. done text b.0.1)) (v, rest) b.2 in
    let t = checked_taken c.0 (λ text. text) b.0.1 v rest c.2 in
    let w = value_taken (length raw) [] raw c.0 c.1 in
    record {
      quote = q;
      parts = w.parts;
      whole = one.0 ∙ ap (λ z. q ∷ z) (run_whole (differs q) a.0.1) ∙ ap (λ z. q ∷ (z ++ after (differs q) a.0.1)) w.whole ∙ ap (λ z. q ∷ (flat_map stretch w.parts ++ z)) mark ∙ ap (λ z. q ∷ (flat_map stretch w.parts ++ q ∷ z)) t.left;
      is = one.1;
      inside = subst (λ z. list_all (differs q) z ≡ true) w.whole (run_all (differs q) a.0.1);
      allowed = w.allowed;
      utf8 = subst (λ z. is_utf8 z ≡ true) w.value t.utf8;
      value = sym t.same ∙ w.value;
    }

-- ---- attributes

abbrev pub body : WrittenAttribute → List ℕ → List ℕ
body a rest = a.name ++ (a.before ++ 61 ∷ (a.after ++ a.quote ∷ (flat_map stretch a.value ++ a.quote ∷ rest)))

pub written_body : (a : WrittenAttribute) (rest : List ℕ) → written.attribute a ++ rest ≡ a.gap ++ body a rest
written_body a rest = simp append_assoc

stops_before : (u rest : List ℕ) → list_all is_space u ≡ true → Stops is_attribute_byte (u ++ 61 ∷ rest)
unfolding is_name_byte is_attribute_byte
stops_before u rest all = stops_through is_attribute_byte is_space u (61 ∷ rest) space_no_attribute all refl

equals_stops : (rest : List ℕ) → Stops is_space (61 ∷ rest)
unfolding is_space
equals_stops rest = refl

pub attribute_again : (a : WrittenAttribute) (rest : List ℕ) → IsAttribute a → attribute (body a rest) ≡ Some (attribute_of a, rest)
unfolding attribute
attribute_again a rest good =
    let quotes = a.quote ∷ (flat_map stretch a.value ++ a.quote ∷ rest) in
    let name = some_again is_attribute_byte a.name (a.before ++ 61 ∷ (a.after ++ quotes)) good.name good.some_name (stops_before a.before (a.after ++ quotes) good.before) in
    let before = after_again is_space a.before (61 ∷ (a.after ++ quotes)) good.before (equals_stops (a.after ++ quotes)) in
    let equals = exactly_again (codes "=") (a.after ++ quotes) in
    let after_ = after_again is_space a.after quotes good.after (quote_no_space a.quote good.quote) in
    let v = quoted_again a.quote a.value rest good.quote good.value good.allowed good.utf8 in
    let utf8 = attribute_utf8 a.name good.name in
    simp (name, before, equals, after_, v, utf8)

-- an attribute without the white space before it
pub record AttributeTaken (bs : List ℕ) (a : AttributeText) (rest : List ℕ) : Type 0 where
  pub name : List ℕ
  pub before : List ℕ
  pub after : List ℕ
  pub quote : ℕ
  pub value : List Stretch
  pub whole : bs ≡ name ++ (before ++ 61 ∷ (after ++ quote ∷ (flat_map stretch value ++ quote ∷ rest)))
  pub is_name : list_all is_attribute_byte name ≡ true
  pub some_name : name ≡ [] → ⊥
  pub is_before : list_all is_space before ≡ true
  pub is_after : list_all is_space after ≡ true
  pub is_quote : is_quote quote ≡ true
  pub is_value : list_all (differs quote) (flat_map stretch value) ≡ true
  pub allowed : list_all is_allowed value ≡ true
  pub utf8 : is_utf8 (flat_map meant value) ≡ true
  pub same : a ≡ record { name = name; value = flat_map meant value }

pub attribute_taken : (bs : List ℕ) (a : AttributeText) (rest : List ℕ) → attribute bs ≡ Some (a, rest) → AttributeTaken bs a rest
unfolding attribute
attribute_taken bs a rest e =
    let n = and_then_some (some_of is_attribute_byte bs) _ (a, rest) e in
    let name = some_taken is_attribute_byte bs n.0.0 n.0.1 n.1 in
    let m = and_then_some (exactly (codes "=") (after is_space n.0.1)) _ (a, rest) n.2 in
    let mark = exactly_taken (codes "=") (after is_space n.0.1) m.0.1 m.0.0 m.1 in
    let v = and_then_some (quoted (after is_space m.0.1)) _ (a, rest) m.2 in
    let value_ = quoted_taken (after is_space m.0.1) v.0.0 v.0.1 v.1 in
    let same = checked_taken n.0.0 (λ name. record { name = name; value = v.0.0 }) v.0.1 a rest v.2 in
    record {
      name = n.0.0;
      before = run is_space n.0.1;
      after = run is_space m.0.1;
      quote = value_.quote;
      value = value_.parts;
      whole =
          name.whole ∙ ap (λ z. n.0.0 ++ z) (run_whole is_space n.0.1 ∙ ap (λ z. run is_space n.0.1 ++ z)
          (mark ∙ ap (λ z. 61 ∷ z) (run_whole is_space m.0.1 ∙ ap (λ z. run is_space m.0.1 ++ z)
          (value_.whole ∙ ap (λ z. value_.quote ∷ (flat_map stretch value_.parts ++ value_.quote ∷ z)) same.left))));
      is_name = name.all;
      some_name = name.some;
      is_before = run_all is_space n.0.1;
      is_after = run_all is_space m.0.1;
      is_quote = value_.is;
      is_value = value_.inside;
      allowed = value_.allowed;
      utf8 = value_.utf8;
      same = sym same.same ∙ ap (λ z. record { name = n.0.0; value = z }) value_.value;
    }

first_name : (u rest : List ℕ) → list_all is_attribute_byte u ≡ true → (u ≡ [] → ⊥) → is_attribute_byte (first (u ++ rest)) ≡ true
first_name [] rest all some = absurd (some refl)
first_name (b ∷ u) rest all some = (and_parts (is_attribute_byte b) (list_all is_attribute_byte u) all).0

longer : (u rest : List ℕ) → (u ≡ [] → ⊥) → length rest < length (u ++ rest)
longer [] rest some = absurd (some refl)
longer (b ∷ u) rest some = omega (arith, length-append u rest)

no_shorter : (u rest : List ℕ) → length rest ≤ length (u ++ rest)
no_shorter u rest = omega (arith, length-append u rest)

rest_shorter : (a : WrittenAttribute) (rest : List ℕ) → IsAttribute a → length rest < length (a.gap ++ body a rest)
rest_shorter a rest good =
    let q = a.quote in
    let v = flat_map stretch a.value in
    let x1 = no_shorter v (q ∷ rest) in
    let x2 = no_shorter a.after (q ∷ (v ++ q ∷ rest)) in
    let x3 = no_shorter a.before (61 ∷ (a.after ++ q ∷ (v ++ q ∷ rest))) in
    let x4 = no_shorter a.name (a.before ++ 61 ∷ (a.after ++ q ∷ (v ++ q ∷ rest))) in
    let x5 = no_shorter a.gap (body a rest) in
    omega arith

-- what ends the attributes of a tag
pub record Ends (ending : List ℕ) : Type 0 where
  pub some : 0 < length ending
  pub no_name : is_attribute_byte (first ending) ≡ false
  pub no_space : Stops is_space ending

pub attributes_again : (n : ℕ) (found : List AttributeText) (as_ : List WrittenAttribute) (space ending : List ℕ)
    → length (flat_map written.attribute as_ ++ (space ++ ending)) ≤ n → AreAttributes as_ → list_all is_space space ≡ true → Ends ending
    → attributes_from n found (flat_map written.attribute as_ ++ (space ++ ending)) ≡ Some (found ++ map attribute_of as_, ending)
unfolding attributes_from
attributes_again zero found as_ space ending fits good spaces ends =
    absurd (omega (arith, no_shorter (flat_map written.attribute as_) (space ++ ending), no_shorter space ending, ends.some))
attributes_again (suc n) found [] space ending fits good spaces ends =
    let r = run_again is_space space ending spaces ends.no_space in
    let a = after_again is_space space ending spaces ends.no_space in
    let no = ends.no_name in
    let nil = append-nil found in
    simp (a, no, nil)
attributes_again (suc n) found (a ∷ more) space ending fits good spaces ends =
    let tail = flat_map written.attribute more ++ (space ++ ending) in
    let shape : flat_map written.attribute (a ∷ more) ++ (space ++ ending) ≡ a.gap ++ body a tail = append_assoc (written.attribute a) (flat_map written.attribute more) (space ++ ending) ∙ written_body a tail in
    let stops = stops_at is_space is_attribute_byte a.name (a.before ++ 61 ∷ (a.after ++ a.quote ∷ (flat_map stretch a.value ++ a.quote ∷ tail))) attribute_no_space good.0.name good.0.some_name in
    let gap = run_again is_space a.gap (body a tail) good.0.gap stops in
    let behind_ = after_again is_space a.gap (body a tail) good.0.gap stops in
    let name = first_name a.name (a.before ++ 61 ∷ (a.after ++ a.quote ∷ (flat_map stretch a.value ++ a.quote ∷ tail))) good.0.name good.0.some_name in
    let some = not_empty a.gap good.0.some_gap in
    let one_ = attribute_again a tail good.0 in
    let less : length tail ≤ n = omega (arith, rest_shorter a tail good.0, ap length shape) in
    let next = attributes_again n (found ++ attribute_of a ∷ []) more space ending less good.1 spaces ends in
    let together = append_assoc found (attribute_of a ∷ []) (map attribute_of more) in
    rw shape (simp (gap, behind_, name, some, one_, next, together))

-- what is taken as attributes
pub record AttributesTaken (found : List AttributeText) (bs : List ℕ) (all : List AttributeText) (rest : List ℕ) : Type 0 where
  pub attributes : List WrittenAttribute
  pub space : List ℕ
  pub whole : bs ≡ flat_map written.attribute attributes ++ (space ++ rest)
  pub good : AreAttributes attributes
  pub spaces : list_all is_space space ≡ true
  pub same : all ≡ found ++ map attribute_of attributes

some_bytes : (bs : List ℕ) → is_empty bs ≡ false → bs ≡ [] → ⊥
some_bytes [] e n = absurd (cc)
some_bytes (b ∷ bs) e n = absurd (cc)

next_attribute : (found : List AttributeText) (bs : List ℕ) (all : List AttributeText) (rest : List ℕ) (a : AttributeText) (mid : List ℕ) → is_empty (run is_space bs) ≡ false
    → AttributeTaken (after is_space bs) a mid → AttributesTaken (found ++ a ∷ []) mid all rest → AttributesTaken found bs all rest
next_attribute found bs all rest a mid some one_ more_ =
    let w : WrittenAttribute = record { gap = run is_space bs; name = one_.name; before = one_.before; after = one_.after; quote = one_.quote; value = one_.value } in
    let is : a ≡ attribute_of w = one_.same in
    let more = subst (λ z. AttributesTaken (found ++ z ∷ []) mid all rest) is more_ in
    record {
      attributes = w ∷ more.attributes;
      space = more.space;
      whole =
          run_whole is_space bs ∙ ap (λ z. run is_space bs ++ z) (one_.whole ∙ ap (body w) more.whole) ∙ sym (written_body w (flat_map written.attribute more.attributes ++ (more.space ++ rest)))
          ∙ sym (append_assoc (written.attribute w) (flat_map written.attribute more.attributes) (more.space ++ rest));
      good = (
        record {
          gap = run_all is_space bs;
          some_gap = some_bytes (run is_space bs) some;
          name = one_.is_name;
          some_name = one_.some_name;
          before = one_.is_before;
          after = one_.is_after;
          quote = one_.is_quote;
          value = one_.is_value;
          allowed = one_.allowed;
          utf8 = one_.utf8;
        },
        more.good,
      );
      spaces = more.spaces;
      same = more.same ∙ append_assoc found (attribute_of w ∷ []) (map attribute_of more.attributes);
    }

pub attributes_taken : (n : ℕ) (found : List AttributeText) (bs : List ℕ) (all : List AttributeText) (rest : List ℕ) → attributes_from n found bs ≡ Some (all, rest) → AttributesTaken found bs all rest
unfolding attributes_from
attributes_taken zero found bs all rest e =
    let same = done_parts found all bs rest e in
    record { attributes = []; space = []; whole = same.1; good = tt; spaces = refl; same = sym same.0 ∙ sym (append-nil found) }
attributes_taken (suc n) found bs all rest e =
    let more = after is_space bs in
    let gap = run is_space bs in
    let turn : AttributeText → Parser (List AttributeText) = λ a. attributes_from n (found ++ a ∷ []) in
    elim (chosen (is_attribute_byte (first more)) (cond (is_empty gap) None (and_then (attribute more) turn)) (done found more) (done all rest) e) [
      | inr x ↦
          let same = done_parts found all more rest x.1 in
          record { attributes = []; space = gap; whole = run_whole is_space bs ∙ ap (λ z. gap ++ z) same.1; good = tt; spaces = run_all is_space bs; same = sym same.0 ∙ sym (append-nil found) }
      | inl x ↦ elim (chosen (is_empty gap) None (and_then (attribute more) turn) (done all rest) x.1) [
        | inl y ↦ absurd (cc)
        | inr y ↦
            let a = and_then_some (attribute more) turn (all, rest) y.1 in
            let one_ = attribute_taken more a.0.0 a.0.1 a.1 in
            next_attribute found bs all rest a.0.0 a.0.1 y.0 one_ (attributes_taken n (found ++ a.0.0 ∷ []) a.0.1 all rest a.2)
      ]
    ]

-- ---- tags

close_ends : (e : Bool) (rest : List ℕ) → Ends (close_of e ++ rest)
unfolding is_name_byte is_attribute_byte is_space
close_ends true rest = record { some = omega arith; no_name = refl; no_space = refl }
close_ends false rest = record { some = omega arith; no_name = refl; no_space = refl }

close_stops : (e : Bool) (rest : List ℕ) → Stops is_name_byte (close_of e ++ rest)
unfolding is_name_byte
close_stops true rest = refl
close_stops false rest = refl

close_again : (e : Bool) (t : Tag) (rest : List ℕ) → close t (close_of e ++ rest) ≡ Some (opening_of e t, rest)
unfolding close either_mark exactly strip
close_again true t rest = refl
close_again false t rest = refl

record CloseTaken (t : Tag) (bs : List ℕ) (p : Piece) (rest : List ℕ) : Type 0 where
  pub empty : Bool
  pub whole : bs ≡ close_of empty ++ rest
  pub same : p ≡ opening_of empty t

close_taken : (t : Tag) (bs : List ℕ) (p : Piece) (rest : List ℕ) → close t bs ≡ Some (p, rest) → CloseTaken t bs p rest
unfolding close
close_taken t bs p rest e = elim (mark_taken (codes "/>") bs _ _ (p, rest) e) [
  | inl x ↦ let same = done_parts (opening_of true t) p x.0 rest x.2 in record { empty = true; whole = x.1 ∙ ap (λ z. codes "/>" ++ z) same.1; same = sym same.0 }
  | inr e ↦
      let m = and_then_some (exactly (codes ">") bs) _ (p, rest) e in
      let same = done_parts (opening_of false t) p m.0.1 rest m.2 in
      record { empty = false; whole = exactly_taken (codes ">") bs m.0.1 m.0.0 m.1 ∙ ap (λ z. codes ">" ++ z) same.1; same = sym same.0 }
]

pub tag_shape : (t : WrittenTag) (rest : List ℕ) → tag t ++ rest ≡ t.name ++ (flat_map written.attribute t.attributes ++ (t.space ++ (close_of t.empty ++ rest)))
tag_shape t rest = simp append_assoc

name_stops : (as_ : List WrittenAttribute) (space : List ℕ) (e : Bool) (rest : List ℕ) → AreAttributes as_ → list_all is_space space ≡ true
    → Stops is_name_byte (flat_map written.attribute as_ ++ (space ++ (close_of e ++ rest)))
name_stops [] space e rest good spaces = stops_through is_name_byte is_space space (close_of e ++ rest) space_no_name spaces (close_stops e rest)
name_stops (a ∷ more) space e rest good spaces =
    let tail = flat_map written.attribute more ++ (space ++ (close_of e ++ rest)) in
    let shape : flat_map written.attribute (a ∷ more) ++ (space ++ (close_of e ++ rest)) ≡ a.gap ++ body a tail = append_assoc (written.attribute a) (flat_map written.attribute more) (space ++ (close_of e ++ rest)) ∙ written_body a tail in
    subst (λ z. Stops is_name_byte z) (sym shape) (stops_at is_name_byte is_space a.gap (body a tail) space_no_name good.0.gap good.0.some_gap)

pub opening_again : (t : WrittenTag) (rest : List ℕ) → IsTag t → opening (tag t ++ rest) ≡ Some (opening_of t.empty (tag_of t), rest)
unfolding opening
opening_again t rest good =
    let ending = close_of t.empty ++ rest in
    let tail = flat_map written.attribute t.attributes ++ (t.space ++ ending) in
    let name = some_again is_name_byte t.name tail good.name good.some_name (name_stops t.attributes t.space t.empty rest good.attributes good.space) in
    let all = attributes_again (length tail) [] t.attributes t.space ending (omega arith) good.attributes good.space (close_ends t.empty rest) in
    let end_ = close_again t.empty (tag_of t) rest in
    let distinct = good.distinct in
    let utf8 = name_utf8 t.name good.name in
    rw (tag_shape t rest) (simp (name, all, distinct, utf8, end_))

pub record OpeningTaken (bs : List ℕ) (p : Piece) (rest : List ℕ) : Type 0 where
  pub written : WrittenTag
  pub whole : bs ≡ tag written ++ rest
  pub good : IsTag written
  pub same : p ≡ opening_of written.empty (tag_of written)

distinct_passed : (b : Bool) (name : List ℕ) (f : List ℕ → Parser Piece) (bs : List ℕ) (x : Piece × List ℕ) → cond b (bind (text_at name) (λ name. f name bs)) None ≡ Some x
    → (b ≡ true) × (f name bs ≡ Some x)
distinct_passed false name f bs x e = absurd (cc)
distinct_passed true name f bs x e = at (is_utf8 name) e
  where
    at : (v : Bool) → bind (cond v (Some name) None) (λ name. f name bs) ≡ Some x → (true ≡ true) × (f name bs ≡ Some x)
    at true e = (refl, e)
    at false e = absurd (cc)

pub opening_taken : (bs : List ℕ) (p : Piece) (rest : List ℕ) → opening bs ≡ Some (p, rest) → OpeningTaken bs p rest
unfolding opening
opening_taken bs p rest e =
    let n = and_then_some (some_of is_name_byte bs) _ (p, rest) e in
    let name = some_taken is_name_byte bs n.0.0 n.0.1 n.1 in
    let a = and_then_some (attributes_from (length n.0.1) [] n.0.1) _ (p, rest) n.2 in
    let all = attributes_taken (length n.0.1) [] n.0.1 a.0.0 a.0.1 a.1 in
    let go = distinct_passed (are_distinct a.0.0) n.0.0 (λ name. close (record { name = name; attributes = a.0.0 })) a.0.1 (p, rest) a.2 in
    let end_ = close_taken (record { name = n.0.0; attributes = a.0.0 }) a.0.1 p rest go.1 in
    let t : WrittenTag = record { name = n.0.0; attributes = all.attributes; space = all.space; empty = end_.empty } in
    record {
      written = t;
      whole = name.whole ∙ ap (λ z. n.0.0 ++ z) (all.whole ∙ ap (λ z. flat_map written.attribute all.attributes ++ (all.space ++ z)) end_.whole) ∙ sym (tag_shape t rest);
      good = record { name = name.all; some_name = name.some; attributes = all.good; distinct = subst (λ z. are_distinct z ≡ true) all.same go.0; space = all.spaces };
      same = end_.same ∙ ap (λ z. opening_of end_.empty (record { name = n.0.0; attributes = z })) all.same;
    }

-- ---- end tags

bracket_stops : (p : ℕ → Bool) (rest : List ℕ) → p 62 ≡ false → Stops p (codes ">" ++ rest)
bracket_stops p rest e = e

pub closing_again : (name space rest : List ℕ) → list_all is_name_byte name ≡ true → (name ≡ [] → ⊥) → list_all is_space space ≡ true
    → closing (name ++ (space ++ (codes ">" ++ rest))) ≡ Some (piece.End name, rest)
unfolding closing is_name_byte is_space
closing_again name space rest good some spaces =
    let n = some_again is_name_byte name (space ++ (codes ">" ++ rest)) good some (stops_through is_name_byte is_space space (codes ">" ++ rest) space_no_name spaces refl) in
    let a = after_again is_space space (codes ">" ++ rest) spaces refl in
    let m = exactly_again (codes ">") rest in
    let utf8 = name_utf8 name good in
    simp (n, a, m, utf8)

pub record ClosingTaken (bs : List ℕ) (p : Piece) (rest : List ℕ) : Type 0 where
  pub name : List ℕ
  pub space : List ℕ
  pub whole : bs ≡ name ++ (space ++ (codes ">" ++ rest))
  pub good : list_all is_name_byte name ≡ true
  pub some : name ≡ [] → ⊥
  pub spaces : list_all is_space space ≡ true
  pub same : p ≡ piece.End name

pub closing_taken : (bs : List ℕ) (p : Piece) (rest : List ℕ) → closing bs ≡ Some (p, rest) → ClosingTaken bs p rest
unfolding closing
closing_taken bs p rest e =
    let n = and_then_some (some_of is_name_byte bs) _ (p, rest) e in
    let name = some_taken is_name_byte bs n.0.0 n.0.1 n.1 in
    let m = and_then_some (exactly (codes ">") (after is_space n.0.1)) _ (p, rest) n.2 in
    let mark = exactly_taken (codes ">") (after is_space n.0.1) m.0.1 m.0.0 m.1 in
    let same = checked_taken n.0.0 (λ name. piece.End name) m.0.1 p rest m.2 in
    record {
      name = n.0.0;
      space = run is_space n.0.1;
      whole = name.whole ∙ ap (λ z. n.0.0 ++ z) (run_whole is_space n.0.1 ∙ ap (λ z. run is_space n.0.1 ++ z) (mark ∙ ap (λ z. codes ">" ++ z) same.left));
      good = name.all;
      some = name.some;
      spaces = run_all is_space n.0.1;
      same = sym same.same;
    }
