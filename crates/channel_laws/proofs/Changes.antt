-- What keeps the rule: the lines and labels of changes and their deliveries.
use Rattle.std.proofs.Common.{◌≡◌, ℕ, ◌+◌, Bool, false, cond, List, [], ◌∷◌, ◌++◌, refl, sym, ap, ◌∙◌, arith, zero-add, map}
use Rattle.std.specs.Prelude.{count_by}
use Rattle.std.proofs.lemmas.List.{append_assoc, append-nil}
use Rattle.std.proofs.lemmas.List.Sums.{sum_by_push, sum_by-cons}
use Rattle.chan_values.specs.declared.message.Message.{Message}
use Rattle.chan_values.specs.Tree.{Tree}
use Rattle.field_observers.specs.declared.target.Registration.{Registration}
use Rattle.trace_report.specs.declared.entry.EntryName.{EntryName}
use Rattle.brs_grammar.specs.Form.{Text}
use Rattle.world_meaning.specs.Core.{Next, Agenda, Deliveries}
use Rattle.channel_meaning.specs.History.{Line, Ended, Notified, Change, with_answer, delivered}
use Rattle.channel_laws.specs.Laws.{Delivery, delivery, notified, begun_where, begun_by}
use Rattle.channel_laws.specs.Rule.{AllPast, AreDelivered, IsLast}
use Rattle.channel_laws.proofs.Lists.{notified_append}

pub notified_same : (t : List Line) (x : Line) → notified (x ∷ []) ≡ [] → notified (t ++ x ∷ []) ≡ notified t
notified_same t x e = notified_append t (x ∷ []) ∙ ap (λ l. notified t ++ l) e ∙ append-nil (notified t)

-- a line that is about no delivery
pub said_deliveries : (x : Line) (G : List Agenda) (past cs : List Change) (t : List Line) → notified (x ∷ []) ≡ [] → AreDelivered G past cs t → AreDelivered G past cs (t ++ x ∷ [])
said_deliveries x G past cs t e h = record { zipped = h.zipped; waiting = h.waiting; all = h.all; count = λ p. ap (count_by p) (notified_same t x e) ∙ h.count p }

-- ---- sums over changes

begun_cons : (p : Delivery → Bool) (c : Change) (cs : List Change) → begun_by p (c ∷ cs) ≡ begun_where p c + begun_by p cs
begun_cons p c cs = sum_by-cons (begun_where p) c cs

begun_push : (p : Delivery → Bool) (cs : List Change) (c : Change) → begun_by p (cs ++ c ∷ []) ≡ begun_by p cs + begun_where p c
begun_push p cs c = sum_by_push (begun_where p) cs c

begun_both : (p : Delivery → Bool) (xs ys : List Change) → begun_by p (xs ++ ys) ≡ begun_by p xs + begun_by p ys
begun_both p [] ys = sym (zero-add (begun_by p ys))
begun_both p (c ∷ xs) ys =
    let a = begun_cons p c (xs ++ ys) in
    let b = begun_cons p c xs in
    let ih = begun_both p xs ys in
    omega (arith, a, b, ih)

begun_answered : (p : Delivery → Bool) (cs : List Change) → begun_by p (map with_answer cs) ≡ begun_by p cs
begun_answered p [] = refl
begun_answered p (c ∷ cs) = begun_cons p (with_answer c) (map with_answer cs) ∙ ap (λ k. begun_where p c + k) (begun_answered p cs) ∙ sym (begun_cons p c cs)

all_push : (cs : List Change) (c : Change) → AllPast cs → c.begun ≡ c.registrations → AllPast (cs ++ c ∷ [])
all_push [] c h e = (e, tt)
all_push (x ∷ cs) c h e = (h.0, all_push cs c h.1 e)

all_both : (xs ys : List Change) → AllPast xs → AllPast ys → AllPast (xs ++ ys)
all_both [] ys h k = k
all_both (x ∷ xs) ys h k = (h.0, all_both xs ys h.1 k)

all_answered : (cs : List Change) → AllPast cs → AllPast (map with_answer cs)
all_answered [] h = tt
all_answered (c ∷ cs) h = (h.0, all_answered cs h.1)

-- ---- the end of an entry

pub ended_deliveries : (n : EntryName) (past cs : List Change) (t : List Line) → AreDelivered [] past cs t → AreDelivered [] (past ++ map with_answer cs) [] (t ++ Ended n ∷ [])
ended_deliveries n past cs t h = record {
  zipped = tt;
  waiting = tt;
  all = all_both past (map with_answer cs) h.all (all_answered cs h.zipped);
  count = λ p.
      let a = ap (count_by p) (notified_same t (Ended n) refl) in
      let b = begun_both p past (map with_answer cs) in
      let e = begun_answered p cs in
      let k = h.count p in
      omega (arith, a, b, e, k);
}

-- ---- a change

abbrev pub new_change : ℕ → Text → Tree → List Registration → Change
new_change n f v rs = record { node = n; field = f; value = v; registrations = rs; begun = []; answered = false }

pub change_delivered : (n : ℕ) (f : Text) (v : Tree) (rs : List Registration) (busy : Bool) (message : Message) (next : Next) (G : List Agenda) (past cs : List Change) (t : List Line) → n ≡ message.node → f ≡ message.field → IsLast next G → AreDelivered G past cs t → AreDelivered (Deliveries busy message rs next ∷ G) past (new_change n f v rs ∷ cs) t
change_delivered n f v rs busy message next G past cs t en ef last h = record {
  zipped = (record { rest = refl; of_node = en; of_field = ef }, last, h.zipped);
  waiting = (refl, h.waiting);
  all = h.all;
  count = λ p.
      let a = begun_cons p (new_change n f v rs) cs in
      let k = h.count p in
      omega (arith, a, k);
}

-- one of an actor's own node, which has no deliveries
pub local_delivered : (n : ℕ) (f : Text) (v : Tree) (G : List Agenda) (past cs : List Change) (t : List Line) → AreDelivered G past cs t → AreDelivered G (past ++ with_answer (new_change n f v []) ∷ []) cs t
local_delivered n f v G past cs t h = record {
  zipped = h.zipped;
  waiting = h.waiting;
  all = all_push past (with_answer (new_change n f v [])) h.all refl;
  count = λ p.
      let a = begun_push p past (with_answer (new_change n f v [])) in
      let k = h.count p in
      omega (arith, a, k);
}

-- ---- a delivery, and an answer

same_weight : (x y : Bool) → x ≡ y → ◌≡◌ {A = ℕ} (cond x 1 0) (cond y 1 0)
same_weight x y e = ap (λ b. cond b 1 0) e

pub deliver_one : (r : Registration) (rest : List Registration) (busy now : Bool) (message : Message) (next : Next) (later : List Agenda) (past cs : List Change) (t : List Line) → AreDelivered (Deliveries busy message (r ∷ rest) next ∷ later) past cs t → AreDelivered (Deliveries now message rest next ∷ later) past (delivered r cs) (t ++ Notified message.node message.field r ∷ [])
deliver_one r rest busy now message next later past [] t d = absurd d.zipped
deliver_one r rest busy now message next later past (c ∷ cs) t d = record {
  zipped = (record { rest = append_assoc c.begun (r ∷ []) rest ∙ d.zipped.0.rest; of_node = d.zipped.0.of_node; of_field = d.zipped.0.of_field }, d.zipped.1, d.zipped.2);
  waiting = (d.waiting.0, d.waiting.1);
  all = d.all;
  count = λ p. ap (count_by p) (notified_append t (Notified message.node message.field r ∷ [])) ∙ sum_by_push (λ x. cond (p x) 1 0) (notified t) (delivery message.node message.field r) ∙ counted p (d.count p);
}
  where
    counted : (p : Delivery → Bool) → count_by p (notified t) ≡ begun_by p past + begun_by p (c ∷ cs) → count_by p (notified t) + cond (p (delivery message.node message.field r)) 1 0 ≡ begun_by p past + begun_by p (record c { begun = c.begun ++ r ∷ [] } ∷ cs)
    counted p e =
        let a = begun_cons p c cs in
        let b = begun_cons p (record c { begun = c.begun ++ r ∷ [] }) cs in
        let k = sum_by_push (λ x. cond (p (delivery c.node c.field x)) 1 0) c.begun r in
        let same = same_weight (p (delivery c.node c.field r)) (p (delivery message.node message.field r)) (ap (λ n. p (delivery n c.field r)) d.zipped.0.of_node ∙ ap (λ f. p (delivery message.node f r)) d.zipped.0.of_field) in
        omega (arith, a, b, k, same, e)

-- the newest change gets its answer once nothing is left of it
pub answered_one : (busy : Bool) (message : Message) (next : Next) (later : List Agenda) (past : List Change) (c : Change) (cs : List Change) (t : List Line) → AreDelivered (Deliveries busy message [] next ∷ later) past (c ∷ cs) t → AreDelivered later (past ++ with_answer c ∷ []) cs t
answered_one busy message next later past c cs t d = record {
  zipped = d.zipped.2;
  waiting = d.waiting.1;
  all = all_push past (with_answer c) d.all (sym (append-nil c.begun) ∙ d.zipped.0.rest);
  count = λ p.
      let a = begun_cons p c cs in
      let b = begun_push p past (with_answer c) in
      let e = d.count p in
      omega (arith, a, b, e);
}

-- a change that a task's last entry made stays until that entry has ended
pub left_one : (busy : Bool) (message : Message) (next : Next) (past : List Change) (c : Change) (cs : List Change) (t : List Line) → AreDelivered (Deliveries busy message [] next ∷ []) past (c ∷ cs) t → AreDelivered [] past (c ∷ cs) t
left_one busy message next past c cs t d = record {
  zipped = (sym (append-nil c.begun) ∙ d.zipped.0.rest, d.zipped.2);
  waiting = d.waiting;
  all = d.all;
  count = d.count;
}
