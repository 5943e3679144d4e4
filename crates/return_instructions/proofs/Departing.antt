-- A call that ended with a value, as whatever machine the actor is seen.
use Rattle.std.proofs.Common.{◌≡◌, ℕ, ◌+◌, ◌<◌, List, [], ◌∷◌, length, map, Option, Some, None, Err, refl, sym, ap, ◌∙◌, subst, arith}
use Rattle.std.specs.Prelude.{IfSome}
use Rattle.chan_values.specs.declared.place.Place.{Place}
use Rattle.chan_values.specs.declared.portable.Portable.{Portable}
use Rattle.chan_values.specs.Tree.{Tree}
use Rattle.chan_values.specs.View.{tree_of}
use Rattle.heap_meaning.specs.Values.{Value, StoreValue}
use Rattle.heap_meaning.specs.Store.{Store}
use Rattle.heap_meaning.specs.Cells.{occurrence}
use Rattle.heap_meaning.specs.Stands.{Naming, Outside, meaning, Stands}
use Rattle.heap_meaning.specs.Heap.{Heap, Belongs, Moves, no_references, references_of}
use Rattle.heap_meaning.proofs.Showing.{out_belongs}
use Rattle.copy_meaning.specs.Answers as a
use Rattle.copy_meaning.specs.Answers.{Answer, Answers, Leaves, unfolded}
use Rattle.copy_meaning.specs.Forms.{form_in}
use Rattle.copy_meaning.proofs.Answering.{one_answer, unfolded_leaves}
use Rattle.brs_copy.specs.Copies.{Copies}
use Rattle.brs_copy.specs.declared.leave.CopyFault.{CopyFault}
use Rattle.brs_copy.specs.declared.leave.CopyFault.TheVariants.{TooDeep, TooLarge, NoMemory}
use Rattle.brs_meaning.specs.Leaving.{copy_of, leaving}
use Rattle.brs_meaning.specs.Running as r
use Rattle.brs_meaning.specs.Locals as l
use Rattle.machine_meaning.specs.Image.{Image, place_at}
use Rattle.machine_meaning.specs.Frame as mm
use Rattle.machine_meaning.specs.Stepping as s
use Rattle.machine_meaning.specs.Stepping.{leave}
use Rattle.frame_stack.specs.declared.header.CallHead.{CallHead}
use Rattle.frame_stack.specs.declared.header.CallKind.{CallKind}
use Rattle.frame_stack.specs.declared.header.CallKind.TheVariants as k
use Rattle.frame_stack.specs.Frame.{Frame, innermost, calls_below}
use Rattle.call_release.specs.References.{call_references}
use Rattle.call_release.specs.Taken.{innermost_references}
use Rattle.actor_meaning.specs.View.{Home, kind_meaning, home_meaning, home_references, FrameIs, SuspendedAre}
use Rattle.actor_meaning.specs.Promises.{SeenAs}
use Rattle.instruction_effects.specs.Effects.{waiting}
use Rattle.return_instructions.specs.declared.leaving.Leaving.{Leaving}
use Rattle.return_instructions.specs.declared.leaving.Leaving.TheVariants as way
use Rattle.return_instructions.specs.Landed.{landed, Lands, Settles}
use Rattle.return_instructions.specs.Departed.{IsOut, IsRefusal, LeavesActor, LeftAs, Departs}
use Rattle.return_instructions.proofs.Landings.{landed_seen}

-- ---- what unfolds

-- the one answer is the value's copy, or that there is none
the_answer : (store : Store) (w : StoreValue) (answer : Answer) → Leaves store w answer → leaving store w ≡ copy_of answer
the_answer store w answer h = ap copy_of (one_answer (form_in store) 64 65536 w (unfolded store w) answer (unfolded_leaves store w) h)

is_copy : (store : Store) (w : StoreValue) (value : Portable) (place : Place) → Leaves store w (a.Copy (tree_of value)) → IsOut (leaving store w) place (way.Returned value)
is_copy store w value place h = subst (λ o. IsOut o place (way.Returned value)) (sym (the_answer store w (a.Copy (tree_of value)) h)) refl

no_copy : (store : Store) (w : StoreValue) (answer : Answer) (place : Place) → copy_of answer ≡ None → Leaves store w answer → IsOut (leaving store w) place (way.TooBig place)
no_copy store w answer place none h = subst (λ o. IsOut o place (way.TooBig place)) (sym (the_answer store w answer h ∙ none)) refl

pub copied_out : (heap : Heap) (u : Value) (place : Place) (value : Portable)
    → ((name : Naming) (store : Store) (outside : Outside) → Stands name heap.cells store outside → Belongs heap u → Leaves store (meaning name u) (a.Copy (tree_of value))) → LeavesActor heap u place (way.Returned value)
copied_out heap u place value copies = record { no_error = tt; is_out = λ name store outside s b. is_copy store (meaning name u) value place (copies name store outside s b) }

pub not_copied : (heap : Heap) (u : Value) (place : Place) (answer : Answer) → copy_of answer ≡ None
    → ((name : Naming) (store : Store) (outside : Outside) → Stands name heap.cells store outside → Belongs heap u → Leaves store (meaning name u) answer) → LeavesActor heap u place (way.TooBig place)
not_copied heap u place answer none copies = record { no_error = tt; is_out = λ name store outside s b. no_copy store (meaning name u) answer place none (copies name store outside s b) }

pub refused_out : (heap : Heap) (u : Value) (place : Place) (fault : CopyFault) (left : Leaving) → IsRefusal fault place left
    → ((name : Naming) (store : Store) (outside : Outside) → Stands name heap.cells store outside → Belongs heap u → Copies (form_in store) 64 65536 (meaning name u) (Err fault)) → LeavesActor heap u place left
refused_out heap u place NoMemory left is copies = absurd is
refused_out heap u place TooDeep left is copies = subst (λ x. LeavesActor heap u place x) (sym is) (not_copied heap u place a.TooDeep refl copies)
refused_out heap u place TooLarge left is copies = subst (λ x. LeavesActor heap u place x) (sym is) (not_copied heap u place a.TooLarge refl copies)

-- ---- the call that ended is taken back

module _ (name : Naming) (store : Store) (others : Outside) (u : Value) (x : Frame) (below : List Frame) where
  pub call_gone : (old mid : Heap) → Moves old mid (λ k. innermost_references k (x ∷ below)) no_references → Stands name old.cells store (λ k. others k + (occurrence k u + call_references k (x ∷ below)))
      → Stands name mid.cells store (λ k. others k + (occurrence k u + call_references k below))
  call_gone old mid moves s = moves name store (λ k. others k + (occurrence k u + call_references k (x ∷ below))) (λ k. others k + (occurrence k u + call_references k below)) s (λ k. omega arith)

  pub value_gone : (mid new : Heap) → Moves mid new (references_of u) no_references → Stands name mid.cells store (λ k. others k + (occurrence k u + call_references k below)) → Stands name new.cells store (λ k. others k + call_references k below)
  value_gone mid new moves s = moves name store (λ k. others k + (occurrence k u + call_references k below)) (λ k. others k + call_references k below) s (λ k. omega arith)

  pub value_belongs : (mid : Heap) → Stands name mid.cells store (λ k. others k + (occurrence k u + call_references k below)) → Belongs mid u
  value_belongs mid s = out_belongs mid name store (λ k. others k + (occurrence k u + call_references k below)) u s (λ k. omega arith)

-- ---- to the call below

module _ (image : Image) (number : ℕ) (own : List Home) (name : Naming) (homes : List l.Home) (store : Store) (new : Heap) (u : Value) (homes_are : homes ≡ map (home_meaning name) own) where
  received_by : (kind : r.Kind) (at : Place) (y : Frame) (others : List Frame) (waits : List mm.Suspended) → kind ≡ r.Inner → SuspendedAre image name (y ∷ others) waits
      → Stands name new.cells store (λ k. home_references k own + call_references k (landed y.head.landing u y ∷ others))
      → LeftAs image new number own (landed y.head.landing u y ∷ others) way.Went homes (leave kind (meaning name u) at waits store)
  received_by kind at y others [] inner seen stands = absurd seen
  received_by kind at y others (h ∷ waits) inner seen stands =
      subst (λ q. LeftAs image new number own (landed y.head.landing u y ∷ others) way.Went homes (leave q (meaning name u) at (h ∷ waits) store)) (sym inner)
      (tt, record { naming = name; is = record { stands = stands; homes_are = homes_are; machine_is = (landed_seen image name y h u seen.0, seen.1) } })

  -- ---- to the world

  shown_out : (o : Option Tree) (left : Leaving) (at : Place) (below : List Frame) (waits : List mm.Suspended) → IsOut o at left → SeenAs image new (waiting number own below) homes (mm.Waits waits) store
      → LeftAs image new number own below left homes (s.left o at waits store)
  shown_out (Some t) (way.Returned value) at below waits e seen = (e, seen)
  shown_out None (way.TooBig place) at below waits e seen = (e, seen)
  shown_out (Some t) way.Went at below waits e seen = absurd e
  shown_out (Some t) (way.TooBig place) at below waits e seen = absurd e
  shown_out (Some t) (way.Raises error) at below waits e seen = absurd e
  shown_out None way.Went at below waits e seen = absurd e
  shown_out None (way.Returned value) at below waits e seen = absurd e
  shown_out None (way.Raises error) at below waits e seen = absurd e

  -- the call has no call below it that gets the value
  out_row : (kind : CallKind) (at : Place) (below : List Frame) (waits : List mm.Suspended) → ((kind ≡ k.Inner) × (0 < length below) → ⊥) → SuspendedAre image name below waits
      → leave (kind_meaning kind) (meaning name u) at waits store ≡ s.left (leaving store (meaning name u)) at waits store
  out_row k.OnTop at below [] alone seen = refl
  out_row k.OnTop at below (h ∷ waits) alone seen = refl
  out_row k.Inner at [] [] alone seen = refl
  out_row k.Inner at [] (h ∷ waits) alone seen = absurd seen
  out_row k.Inner at (y ∷ others) waits alone seen = absurd (alone (refl, omega arith))

  sent_out : (kind : r.Kind) (own_kind : CallKind) (at : Place) (left : Leaving) (below : List Frame) (waits : List mm.Suspended) → kind ≡ kind_meaning own_kind → ((own_kind ≡ k.Inner) × (0 < length below) → ⊥) → SuspendedAre image name below waits
      → Stands name new.cells store (λ k. home_references k own + call_references k below) → IsOut (leaving store (meaning name u)) at left
      → LeftAs image new number own below left homes (leave kind (meaning name u) at waits store)
  sent_out kind own_kind at left below waits same alone seen stands out =
      subst (λ shown. LeftAs image new number own below left homes shown) (sym (ap (λ q. leave q (meaning name u) at waits store) same ∙ out_row own_kind at below waits alone seen))
      (shown_out (leaving store (meaning name u)) left at below waits out (record { naming = name; is = record { stands = stands; homes_are = homes_are; machine_is = seen } }))

kind_seen : (image : Image) (name : Naming) (x : Frame) (frame : mm.Frame) → FrameIs image name x frame → frame.kind ≡ kind_meaning x.head.kind
kind_seen image name x frame is = ap (λ (f : mm.Frame). f.kind) is.is

-- ---- the whole

pub handed_down : (old mid new : Heap) (before middle after : List Frame) (u : Value) (line : ℕ) (head : CallHead) → IfSome (innermost before) (λ x. head ≡ x.head) → Moves old mid (λ k. innermost_references k before) no_references → middle ≡ calls_below before
    → (head.kind ≡ k.Inner) × (0 < length middle) → Lands u middle after → Settles u mid middle new after → Departs u line old before new after way.Went
handed_down old mid new [] middle after u line head is moves rest gets lands settles = record { no_error = tt; is_left = λ image number own name homes frame below store stands homes_are seen. absurd seen }
handed_down old mid new (x ∷ []) middle after u line head is moves rest gets lands settles = let e : length middle ≡ 0 = ap length rest in let some = gets.1 in absurd (omega arith)
handed_down old mid new (x ∷ y ∷ others) middle after u line head is moves rest gets lands settles =
    let to : after ≡ landed y.head.landing u y ∷ others = subst (λ l. Lands u l after) rest lands in
    let inner : x.head.kind ≡ k.Inner = sym (ap (λ (h : CallHead). h.kind) is) ∙ gets.0 in
    let settled : Settles u mid (y ∷ others) new (landed y.head.landing u y ∷ others) = subst (λ l. Settles u mid (y ∷ others) new l) to (subst (λ l. Settles u mid l new after) rest settles) in
    subst (λ l. Departs u line old (x ∷ y ∷ others) new l way.Went) (sym to) (record {
      no_error = tt;
      is_left = λ image number own name homes frame waits store stands homes_are seen.
          received_by image number own name homes store new u homes_are frame.kind (place_at frame.function line) y others waits (kind_seen image name x frame seen.0 ∙ ap kind_meaning inner) seen.1
          (settled name store (λ k. home_references k own) (call_gone name store (λ k. home_references k own) u x (y ∷ others) old mid moves stands));
    })

place_is : (image : Image) (name : Naming) (x : Frame) (frame : mm.Frame) (head : CallHead) (line : ℕ) (place : Place) → FrameIs image name x frame → head ≡ x.head → place ≡ (record { path = head.path; line = line }) → place ≡ place_at frame.function line
place_is image name x frame head line place seen is e = e ∙ ap (λ (p : ℕ). record { path = p; line = line }) (ap (λ (h : CallHead). h.path) is ∙ seen.path)

pub handed_out : (old mid new : Heap) (before middle : List Frame) (u : Value) (line : ℕ) (head : CallHead) (place : Place) (left : Leaving) → 0 < length before → IfSome (innermost before) (λ x. head ≡ x.head) → Moves old mid (λ k. innermost_references k before) no_references
    → middle ≡ calls_below before → ((head.kind ≡ k.Inner) × (0 < length middle) → ⊥) → place ≡ (record { path = head.path; line = line }) → LeavesActor mid u place left → Moves mid new (references_of u) no_references
    → Departs u line old before new middle left
handed_out old mid new [] middle u line head place left there is moves rest alone at out gone = absurd (omega arith)
handed_out old mid new (x ∷ below) middle u line head place left there is moves rest alone at out gone =
    let apart : (x.head.kind ≡ k.Inner) × (0 < length below) → ⊥ = λ both. alone (ap (λ (h : CallHead). h.kind) is ∙ both.0, subst (λ (l : List Frame). 0 < length l) (sym rest) both.1) in
    subst (λ l. Departs u line old (x ∷ below) new l left) (sym rest) (record {
      no_error = out.no_error;
      is_left = λ image number own name homes frame waits store stands homes_are seen.
          let held : Stands name mid.cells store (λ k. home_references k own + (occurrence k u + call_references k below)) = call_gone name store (λ k. home_references k own) u x below old mid moves stands in
          let its : IsOut (leaving store (meaning name u)) place left = out.is_out name store (λ k. home_references k own + (occurrence k u + call_references k below)) held (value_belongs name store (λ k. home_references k own) u x below mid held) in
          sent_out image number own name homes store new u homes_are frame.kind x.head.kind (place_at frame.function line) left below waits (kind_seen image name x frame seen.0) apart seen.1
          (value_gone name store (λ k. home_references k own) u x below mid new gone held)
          (subst (λ p. IsOut (leaving store (meaning name u)) p left) (place_is image name x frame head line place seen.0 is at) its);
    })
