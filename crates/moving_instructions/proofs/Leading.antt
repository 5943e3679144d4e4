-- Instructions that lead on, and those that drop operands.
use Rattle.std.proofs.Common.{◌≡◌, ℕ, ◌<◌, List, [], length, drop, refl, ap}
use Rattle.heap_meaning.specs.Heap.{Heap}
use Rattle.brs_code.specs.declared.instr.Instr.TheVariants as i
use Rattle.machine_meaning.specs.Frame as mm
use Rattle.machine_meaning.specs.Acted.{Goes}
use Rattle.frame_stack.specs.Frame.{Frame, without_operands, changed}
use Rattle.frame_actions.specs.Actions.{at_place, dropped, Carries}
use Rattle.actor_meaning.specs.declared.outcome.Outcome.TheVariants.{Went}
use Rattle.actor_meaning.specs.Performed.{Performed}
use Rattle.actor_meaning.proofs.Moves.{place_seen, place_moved, operands_fewer}
use Rattle.moving_instructions.specs.Behind.{IsBehind}
use Rattle.moving_instructions.proofs.Going.{performs, behind_of, carries_place}

pub while_row : (heap : Heap) (before after : List Frame) (to : ℕ) → 0 < length before → IsBehind before to → after ≡ changed (at_place to) before → Performed heap before heap after Went i.While
while_row heap before after to there behind e = performs heap heap before after (at_place to) i.While there
    (λ x is image number name homes frame store f. record {
      slots = frame.slots;
      back = [];
      to = to;
      acts = ap (λ p. Goes frame.slots store [] p) (place_seen image name x frame to f (behind_of before x to behind is));
      seen = place_moved image name x frame to f;
    })
    (carries_place heap before after to e) e

pub again_row : (heap : Heap) (before after : List Frame) (to : ℕ) → 0 < length before → after ≡ changed (at_place to) before → Performed heap before heap after Went (i.Again to)
again_row heap before after to there e = performs heap heap before after (at_place to) (i.Again to) there
    (λ x is image number name homes frame store f. record { slots = frame.slots; back = []; to = to; acts = refl; seen = place_moved image name x frame to f })
    (carries_place heap before after to e) e

pub drop_row : (old new : Heap) (before after : List Frame) (to : ℕ) → 0 < length before → IsBehind before to → Carries old before new after → after ≡ changed (dropped 1 to) before → Performed old before new after Went i.Drop
drop_row old new before after to there behind carries e = performs old new before after (dropped 1 to) i.Drop there
    (λ x is image number name homes frame store f. record {
      slots = frame.slots;
      back = [];
      to = to;
      acts = ap (λ p. Goes frame.slots store [] p) (place_seen image name x frame to f (behind_of before x to behind is));
      seen = place_moved image name (without_operands 1 x) (mm.with_operands (drop 1 frame.operands) frame) to (operands_fewer image name x frame 1 f);
    })
    carries e

pub exit_row : (old new : Heap) (before after : List Frame) (n to : ℕ) → 0 < length before → Carries old before new after → after ≡ changed (dropped n to) before → Performed old before new after Went (i.Exit n to)
exit_row old new before after n to there carries e = performs old new before after (dropped n to) (i.Exit n to) there
    (λ x is image number name homes frame store f. record {
      slots = frame.slots;
      back = [];
      to = to;
      acts = refl;
      seen = place_moved image name (without_operands n x) (mm.with_operands (drop n frame.operands) frame) to (operands_fewer image name x frame n f);
    })
    carries e
