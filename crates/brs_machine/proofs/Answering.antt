-- Answers to an open want.
use Rattle.std.proofs.Common.{◌≡◌, ◌+◌, ◌<◌, List, [], ◌∷◌, ◌++◌, length, map, Result, refl, sym, ap, ◌∙◌, subst, arith}
use Rattle.std.specs.Prelude.{OnOk}
use Rattle.chan_values.specs.declared.error_code.ErrorCode.{ErrorCode}
use Rattle.chan_values.specs.declared.message.Message.{Message}
use Rattle.chan_values.specs.declared.portable.Portable.{Portable}
use Rattle.chan_values.specs.View.{tree_of}
use Rattle.copy_meaning.specs.Laying.{LaysDown, with_tree, value_of_tree}
use Rattle.heap_meaning.specs.Values.{Value, StoreValue, Reference}
use Rattle.heap_meaning.specs.Store.{MessageObject, Store}
use Rattle.heap_meaning.specs.Cells.{occurrence}
use Rattle.heap_meaning.specs.Stands.{Naming}
use Rattle.heap_meaning.specs.Heap.{Heap, Made, MakesObject}
use Rattle.heap_meaning.proofs.Steps.{stands_same}
use Rattle.brs_meaning.specs.Locals as l
use Rattle.machine_meaning.specs.Image.{Image}
use Rattle.machine_meaning.specs.Frame as mm
use Rattle.machine_meaning.specs.Stepping as st
use Rattle.machine_meaning.specs.Answering as s
use Rattle.frame_stack.specs.Frame.{Frame}
use Rattle.call_release.specs.References.{call_references}
use Rattle.frame_actions.proofs.Moving.{on_ok_then}
use Rattle.actor_meaning.specs.declared.outcome.Answer.{Answer}
use Rattle.actor_meaning.specs.declared.outcome.Answer.TheVariants as n
use Rattle.actor_meaning.specs.declared.phase.Phase.TheVariants.{Works, Waits, Fails}
use Rattle.actor_meaning.specs.View.{Actor, held, home_meaning, home_references, FrameIs, SuspendedAre, MachineIs}
use Rattle.actor_meaning.specs.Promises.{SeenAs, Resumes}
use Rattle.actor_meaning.proofs.Naming.{calls_same, homes_agree}
use Rattle.return_instructions.specs.Landed.{landed, Lands}
use Rattle.return_instructions.proofs.Landings.{landed_seen}
use Rattle.brs_machine.specs.Receiving.{Receives}

-- ---- the actor

module _ (image : Image) (h1 h2 : Heap) (old new : Actor) (v : Value) (r : Receives h1 old h2 new v) where
  seen : (name : Naming) (homes : List l.Home) (x : Frame) (frames : List Frame) (h : mm.Suspended) (below : List mm.Suspended) (store : Store) (w : StoreValue)
      → old.frames ≡ x ∷ frames → homes ≡ map (home_meaning name) old.homes → SuspendedAre image name (x ∷ frames) (h ∷ below)
      → Made name h1 store (held old) (λ k. occurrence k v + held old k) v w → SeenAs image h2 new homes (st.filled w h below) store
  seen name homes x frames h below store w e homes_are calls made =
      let lands = subst (λ fs. Lands v fs new.frames) e r.lands in
      let same = calls_same name made.naming (held old) made.agrees image (x ∷ frames) (h ∷ below) (λ k. let y : call_references k old.frames ≡ call_references k (x ∷ frames) = ap (call_references k) e in omega arith) calls in
      let before = stands_same made.naming h1.cells store (λ k. occurrence k v + held old k) (λ k. home_references k old.homes + (occurrence k v + call_references k old.frames)) made.stands (λ k. omega arith) in
      let after = r.settles made.naming store (λ k. home_references k old.homes) before in
      record {
        naming = made.naming;
        is = record {
          stands = stands_same made.naming h2.cells store (λ k. home_references k old.homes + call_references k new.frames) (held new) after (λ k. let y : home_references k new.homes ≡ home_references k old.homes = ap (home_references k) r.homes in omega arith);
          homes_are = homes_are ∙ sym (homes_agree name made.naming (held old) made.agrees old.homes (λ k. omega arith)) ∙ sym (ap (map (home_meaning made.naming)) r.homes);
          machine_is =
              subst (λ p. MachineIs image made.naming p new.frames (st.filled w h below)) (sym r.phase)
              (subst (λ fs. MachineIs image made.naming Works fs (st.filled w h below)) (sym lands)
              (subst (λ u. FrameIs image made.naming (landed x.head.landing v x) (st.landed u h.landing h.frame)) made.shows (landed_seen image made.naming x h v same.0), same.1));
        };
      }

  waited : (name : Naming) (homes : List l.Home) (frames : List Frame) (machine : mm.Machine) (store : Store) (w : StoreValue) → old.frames ≡ frames → 0 < length frames → homes ≡ map (home_meaning name) old.homes
      → MachineIs image name Waits frames machine → Made name h1 store (held old) (λ k. occurrence k v + held old k) v w → SeenAs image h2 new homes (s.received w machine) store
  waited name homes [] machine store w e there homes_are is made = absurd (omega arith)
  waited name homes (x ∷ frames) (mm.Waits (h ∷ below)) store w e there homes_are is made = seen name homes x frames h below store w e homes_are is made
  waited name homes (x ∷ frames) (mm.Waits []) store w e there homes_are is made = absurd is
  waited name homes (x ∷ frames) (mm.Works frame below) store w e there homes_are is made = absurd is
  waited name homes (x ∷ frames) (mm.Fails error h below) store w e there homes_are is made = absurd is

  module _ (h0 : Heap) (waits : old.phase ≡ Waits) (there : 0 < length old.frames) where
    pub value_resumed : (value : Portable) → LaysDown h0 h1 v (tree_of value) → Resumes image h0 old h2 new (n.Value value)
    value_resumed value lays = λ name homes machine store is.
        waited name homes old.frames machine (with_tree store (tree_of value)) (value_of_tree store (tree_of value)) refl there is.homes_are (subst (λ p. MachineIs image name p old.frames machine) waits is.machine_is)
        (lays name store (held old) (λ k. occurrence k v + held old k) is.stands (λ k. refl))

    pub message_resumed : (message : Message) → MakesObject h0 h1 v (MessageObject message) → Resumes image h0 old h2 new (n.Message message)
    message_resumed message makes = λ name homes machine store is.
        waited name homes old.frames machine (store ++ MessageObject message ∷ []) (Reference (length store)) refl there is.homes_are (subst (λ p. MachineIs image name p old.frames machine) waits is.machine_is)
        (makes name store (held old) (λ k. occurrence k v + held old k) is.stands (λ k. refl))

-- ---- as the calls answer

module _ {A E : Type 0} (r : Result A E) (h0 h1 h2 : Heap) (old new : Actor) (v : Value) (answer : Answer) (waits : old.phase ≡ Waits) (there : 0 < length old.frames) where
  pub value_answered : (value : Portable) → answer ≡ n.Value value → LaysDown h0 h1 v (tree_of value) → OnOk r (Receives h1 old h2 new v) → OnOk r ((image : Image) → Resumes image h0 old h2 new answer)
  value_answered value is lays receives = on_ok_then r (Receives h1 old h2 new v) ((image : Image) → Resumes image h0 old h2 new answer)
      (λ ok image. subst (Resumes image h0 old h2 new) (sym is) (value_resumed image h1 h2 old new v ok h0 waits there value lays)) receives

  pub message_answered : (message : Message) → answer ≡ n.Message message → MakesObject h0 h1 v (MessageObject message) → OnOk r (Receives h1 old h2 new v) → OnOk r ((image : Image) → Resumes image h0 old h2 new answer)
  message_answered message is makes receives = on_ok_then r (Receives h1 old h2 new v) ((image : Image) → Resumes image h0 old h2 new answer)
      (λ ok image. subst (Resumes image h0 old h2 new) (sym is) (message_resumed image h1 h2 old new v ok h0 waits there message makes)) receives

-- ---- an error

abbrev pub failing : ErrorCode → Actor → Actor
failing error a = record a { phase = Fails error }

fails_on : (image : Image) (name : Naming) (error : ErrorCode) (frames : List Frame) (machine : mm.Machine) → 0 < length frames → MachineIs image name Waits frames machine → MachineIs image name (Fails error) frames (s.failing error machine)
fails_on image name error [] machine there is = absurd (omega arith)
fails_on image name error (x ∷ frames) (mm.Waits (h ∷ below)) there is = (refl, is.0, is.1)
fails_on image name error (x ∷ frames) (mm.Waits []) there is = absurd is
fails_on image name error (x ∷ frames) (mm.Works frame below) there is = absurd is
fails_on image name error (x ∷ frames) (mm.Fails e h below) there is = absurd is

pub failure_answered : (heap : Heap) (old : Actor) (error : ErrorCode) (answer : Answer) → answer ≡ n.Failed error → old.phase ≡ Waits → 0 < length old.frames → (image : Image) → Resumes image heap old heap (failing error old) answer
failure_answered heap old error answer e waits there image = subst (Resumes image heap old heap (failing error old)) (sym e)
    (λ name homes machine store is. record {
      naming = name;
      is = record { stands = is.stands; homes_are = is.homes_are; machine_is = fails_on image name error old.frames machine there (subst (λ p. MachineIs image name p old.frames machine) waits is.machine_is) };
    })
