-- What ended many instructions, arm by arm.
use Rattle.std.proofs.Common.{◌≡◌, ℕ, ◌<◌, ◌-◌, false, List, [], ◌∷◌, Some, refl, sym, subst, ◌∙◌}
use Rattle.kilim_program.specs.declared.names.BoxName.{BoxName}
use Rattle.kilim_program.specs.declared.names.ClassId.{ClassId}
use Rattle.kilim_program.specs.declared.names.MethodId.{MethodId}
use Rattle.kilim_program.specs.declared.value.Value.TheVariants.{Ref, Box}
use Rattle.kilim_run_state.specs.declared.cause.EndCause.{EndCause}
use Rattle.kilim_run_state.specs.declared.cause.EndCause.TheVariants as cause
use Rattle.kilim_run_state.specs.Machine.{Activation}
use Rattle.kilim_run_machine.specs.Natives.{native_of, PutWait}
use Rattle.kilim_run_model.specs.State.{Setting}
use Rattle.kilim_run_model.specs.Lone.{Lone, Ends, asks_next, finish_next, opens_next}
use Rattle.kilim_replay_laws.specs.shared.Runs.{CanGo}
use Rattle.kilim_replay_laws.specs.Waiting.{waits_call}
use Rattle.kilim_replay_thread.specs.Comes.{CanAsk, HasRunOn}
use Rattle.kilim_replay_thread.specs.Live.{HasOperands, RoomIn, answered_in, behind_at, calls_in, ended_at, kept_for, lone_at, operands_in}
use Rattle.kilim_replay_thread.specs.Reach.{Ended, PutsThere, Stood, WaitsNowhere}
use Rattle.kilim_replay_thread.specs.Thread.{IsLast}
use Rattle.kilim_replay_thread.specs.declared.runs.Halted.TheVariants as halted
use Rattle.kilim_replay_thread.specs.declared.task.Live.{Live}
use Rattle.kilim_replay_thread.specs.declared.task.World.{World}
use Rattle.kilim_replay_thread.specs.Raises.{raised_at, thrown_at}
use Rattle.kilim_replay_thread.proofs.Reaching.{Led, Top, asks_at, ends_at, nowhere_at, opens_at, other_at, puts_at, raises_at, returns_at, spent_at, throws_at}

module _ (set : Setting) (t : ℕ) (w : World) (l : Live) (w' : World) (mid : Live) (can : CanGo set t (lone_at t w l)) (lt : l.done < set.limits.steps) where
  abbrev first : Lone
  first = lone_at t w l

  pub spent_arm : HasRunOn set.program set.limits.steps w l w' mid halted.Spent → Ended set t first w' cause.Spent
  spent_arm ran = by ran.ran.last
    where
      by : IsLast set.program (set.limits.steps - l.done) ran.steps ran.ran.calls ran.ran.heap halted.Spent ran.frames w'.heap → Ended set t first w' cause.Spent
      by s = spent_at set t w l w' mid can lt halted.Spent ran s.0 s.2

  pub opened_arm : HasRunOn set.program set.limits.steps w l w' mid halted.NewBox → Stood set t first w' mid (opens_next t (lone_at t w' mid) (answered_in mid.frames) mid.done mid.boxes) × RoomIn set.program mid.frames × WaitsNowhere set t (lone_at t w' mid).thread
  opened_arm ran = by ran.ran.calls refl ran.ran.last
    where
      by : (calls : List Activation) → ran.ran.calls ≡ calls → IsLast set.program (set.limits.steps - l.done) ran.steps calls ran.ran.heap halted.NewBox ran.frames w'.heap → Stood set t first w' mid (opens_next t (lone_at t w' mid) (answered_in mid.frames) mid.done mid.boxes) × RoomIn set.program mid.frames × WaitsNowhere set t (lone_at t w' mid).thread
      by [] e s = absurd s
      by (top ∷ below) e s =
          let at = opens_at set t w l w' mid can lt halted.NewBox ran (record { top = top; below = below; are = e; few = s.0 }) s.1.1 s.1.0 in
          let moves-are = s.1.0 in
          (at.0, at.1, nowhere_at set t w l w' mid can lt halted.NewBox ran (record { top = top; below = below; are = e; few = s.0 }) s.1.1 (λ m args frames w asks calls. absurd (let z = sym moves-are ∙ asks in cc)))

  pub returned_arm : HasRunOn set.program set.limits.steps w l w' mid halted.Returned → Stood set t first w' mid (finish_next set (lone_at t w' mid) mid.done mid.boxes (kept_for t w'.kept)) × WaitsNowhere set t (lone_at t w' mid).thread
  returned_arm ran = by ran.ran.calls refl ran.ran.last
    where
      by : (calls : List Activation) → ran.ran.calls ≡ calls → IsLast set.program (set.limits.steps - l.done) ran.steps calls ran.ran.heap halted.Returned ran.frames w'.heap → Stood set t first w' mid (finish_next set (lone_at t w' mid) mid.done mid.boxes (kept_for t w'.kept)) × WaitsNowhere set t (lone_at t w' mid).thread
      by [] e s = absurd s
      by (top ∷ below) e s =
          let moves-are = s.1.0 in (
            returns_at set t w l w' mid can lt halted.Returned ran (record { top = top; below = below; are = e; few = s.0 }) s.1.1 s.1.0,
            nowhere_at set t w l w' mid can lt halted.Returned ran (record { top = top; below = below; are = e; few = s.0 }) s.1.1 (λ m args frames w asks calls. absurd (let z = sym moves-are ∙ asks in cc)),
          )

  -- what is known at a built-in method, and what the thread does there
  pub record AtNative (id : MethodId) : Type 0 where
    pub stood : Stood set t first w' mid (asks_next set (behind_at t w' mid) (operands_in mid.frames) (native_of set.program id))
    pub knows : CanAsk set.program (native_of set.program id) (operands_in mid.frames) w' mid
    pub operands : HasOperands mid.frames
    pub other : waits_call (native_of set.program id) (operands_in mid.frames) ≡ false → WaitsNowhere set t (lone_at t w' mid).thread
    pub puts : (box : BoxName) (root : ℕ) → native_of set.program id ≡ Some PutWait → operands_in mid.frames ≡ Box box ∷ Ref root ∷ [] → PutsThere set (lone_at t w' mid).thread box root

  pub asked_arm : (id : MethodId) → HasRunOn set.program set.limits.steps w l w' mid (halted.Asks id) → AtNative id
  asked_arm id ran = by ran.ran.calls refl ran.ran.last
    where
      by : (calls : List Activation) → ran.ran.calls ≡ calls → IsLast set.program (set.limits.steps - l.done) ran.steps calls ran.ran.heap (halted.Asks id) ran.frames w'.heap → AtNative id
      by [] e s = absurd s
      by (top ∷ below) e s =
          let at = asks_at set t w l w' mid can lt (halted.Asks id) ran (record { top = top; below = below; are = e; few = s.0 }) s.1.1.1 id s.1.1.0 in
          let top-is : Top set t w l w' mid can lt (halted.Asks id) ran = record { top = top; below = below; are = e; few = s.0 } in
          record {
            stood = at.0;
            knows = at.1;
            operands = subst HasOperands (sym ran.are) s.1.0;
            other = λ other. other_at set t w l w' mid can lt (halted.Asks id) ran top-is s.1.1.1 id s.1.1.0 other;
            puts = λ box root native args. puts_at set t w l w' mid can lt (halted.Asks id) ran top-is s.1.1.1 id box root s.1.1.0 native args;
          }

  pub ended_arm : (why : EndCause) → HasRunOn set.program set.limits.steps w l w' mid (halted.Ended why) → Ended set t first w' why
  ended_arm why ran = by ran.ran.calls refl ran.ran.last
    where
      by : (calls : List Activation) → ran.ran.calls ≡ calls → IsLast set.program (set.limits.steps - l.done) ran.steps calls ran.ran.heap (halted.Ended why) ran.frames w'.heap → Ended set t first w' why
      by [] e s = absurd s
      by (top ∷ below) e s = ends_at set t w l w' mid can lt (halted.Ended why) ran top below why e s.0 s.1.0 s.1.1

  pub raised_arm : (why : EndCause) → HasRunOn set.program set.limits.steps w l w' mid (halted.Raised why) → Led set t first w' mid.done (raised_at set.program (lone_at t w' mid) (calls_in mid.frames) mid.done mid.boxes why)
  raised_arm why ran = by ran.ran.calls refl ran.ran.last
    where
      by : (calls : List Activation) → ran.ran.calls ≡ calls → IsLast set.program (set.limits.steps - l.done) ran.steps calls ran.ran.heap (halted.Raised why) ran.frames w'.heap → Led set t first w' mid.done (raised_at set.program (lone_at t w' mid) (calls_in mid.frames) mid.done mid.boxes why)
      by [] e s = absurd s
      by (top ∷ below) e s = raises_at set t w l w' mid can lt (halted.Raised why) ran top below e s.0 s.1.1 s.1.2 why s.1.0

  pub thrown_arm : (object : ℕ) (class : ClassId) (why : EndCause) → HasRunOn set.program set.limits.steps w l w' mid (halted.Thrown object class why) →
      Led set t first w' mid.done (thrown_at set.program (lone_at t w' mid) (calls_in mid.frames) mid.done mid.boxes object class why)
  thrown_arm object class why ran = by ran.ran.calls refl ran.ran.last
    where
      by : (calls : List Activation) → ran.ran.calls ≡ calls → IsLast set.program (set.limits.steps - l.done) ran.steps calls ran.ran.heap (halted.Thrown object class why) ran.frames w'.heap →
          Led set t first w' mid.done (thrown_at set.program (lone_at t w' mid) (calls_in mid.frames) mid.done mid.boxes object class why)
      by [] e s = absurd s
      by (top ∷ below) e s = throws_at set t w l w' mid can lt (halted.Thrown object class why) ran top below e s.0 s.1.1 s.1.2 object class why s.1.0
