-- One instruction of a frame that stands in variables of its own.
use Rattle.std.proofs.Common.{◌≡◌, ◌∙◌, refl, sym, ap, subst, ℕ, ◌+◌, ◌<◌, ◌≤◌, false, Bool, true, List, ◌∷◌, Some, drop}
use Rattle.std.specs.Prelude.{◌&&◌}
use Rattle.std.proofs.lemmas.Option.{same_Some}
use Rattle.kilim_program.specs.declared.class.Method.{Method}
use Rattle.kilim_program.specs.declared.instr.Instr.{Instr}
use Rattle.kilim_program.specs.Lengths.{fetched, first_place}
use Rattle.kilim_program.specs.Names.{method_at}
use Rattle.kilim_program.specs.Program.{Program}
use Rattle.kilim_run_state.specs.Machine.{Objects}
use Rattle.kilim_run_machine.specs.Does.{does}
use Rattle.kilim_run_machine.specs.Effect.{Effect, Goes}
use Rattle.kilim_run_machine.specs.Moves.{moves}
use Rattle.kilim_run_state.specs.declared.frames.frame.Frame.{Frame}
use Rattle.kilim_run_state.specs.declared.frames.frames.Frames.{Frames}
use Rattle.kilim_run_state.specs.frames.Calls.{activation, below_of, calls_of}
use Rattle.kilim_run_rows.specs.declared.outcome.Moved.{Moved}
use Rattle.kilim_run_rows.specs.declared.outcome.Moved.TheVariants.{Next, Jump, Made, Opened, Called, Asked, Returned, ReturnedValue, Raised, Thrown, Ended, NoMemory}
use Rattle.kilim_run_rows.specs.Outcome as outcome
use Rattle.kilim_run_rows.specs.Outcome.{SameFrame, Shows, height, is_stuck}
use Rattle.kilim_run_interp.specs.Step.{AreRoomy, IsWent}
use Rattle.kilim_run_interp.specs.Run.{IsFine}
use Rattle.kilim_fiber_steps.specs.Legs.{IsOpen, IsStill, standing}
use Rattle.kilim_fiber_steps.specs.Marks.{IsMarked}
use Rattle.kilim_fiber_steps.proofs.Doing.{act_fine, act_room, goes_at, put_at, shows_of, still_roomy}

abbrev pub at_place : Frame → ℕ → Frame
at_place f q = record f { pc = q }

still_at : (before after : Frame) (h k : Objects) (q : ℕ) → outcome.IsStill before after h k → outcome.IsStill (at_place before q) (at_place after q) h k
still_at before after h k q is = record { frame = ap (λ (f : Frame). at_place f q) is.frame; heap = is.heap }

-- no outcome speaks of the place in the frame
shows_at : (own : Method) (e : Effect) (next : ℕ) (moved : Moved) (before after : Frame) (h k : Objects) (q : ℕ) → Shows own e next moved before after h k → Shows own e next moved (at_place before q) (at_place after q) h k
shows_at own e next Next before after h k q shows = shows
shows_at own e next (Jump to) before after h k q shows = shows
shows_at own e next (Made at) before after h k q shows = record { object = shows.object; rest = shows.rest; stack = shows.stack; is = shows.is; fresh = shows.fresh; added = shows.added }
shows_at own e next Opened before after h k q shows = (shows.0, still_at before after h k q shows.1)
shows_at own e next (Called m n) before after h k q shows = (shows.0, shows.1, still_at before after h k q shows.2)
shows_at own e next (Asked m n) before after h k q shows = (shows.0, shows.1, still_at before after h k q shows.2)
shows_at own e next Returned before after h k q shows = (shows.0, still_at before after h k q shows.1)
shows_at own e next ReturnedValue before after h k q shows = (shows.0, shows.1, still_at before after h k q shows.2)
shows_at own e next (Raised cause) before after h k q shows = (shows.0, shows.1, shows.2, refl)
shows_at own e next (Thrown at class cause) before after h k q shows = (shows.0, shows.1, shows.2, refl)
shows_at own e next (Ended cause) before after h k q shows = shows
shows_at own e next NoMemory before after h k q shows = tt

module _ (p : Program) (own : Method) (frames : Frames) (before : Frame) (at : ℕ) (x : Objects) (code : List (ℕ × Instr)) (i : Instr) (next : ℕ)
    (fine : IsFine p (activation (standing own frames before at).top) (below_of frames) x) (roomy : AreRoomy p (standing own frames before at)) (there : method_at p before.method ≡ Some own)
    (is_code : code ≡ own.code) (found : fetched code own.code_length (first_place (drop at code) own.code_length) ≡ Some (i, next)) where
  here : first_place (drop at code) own.code_length ≡ first_place (drop at own.code) own.code_length
  here = ap (λ (c : List (ℕ × Instr)). first_place (drop at c) own.code_length) is_code

  pub near_fine : is_stuck (does p own i next before.locals before.stack.values x) ≡ false
  near_fine = act_fine p own (standing own frames before at) x code at i next fine roomy there is_code found here

  pub near_room : height (does p own i next before.locals before.stack.values x) ≤ before.stack.room
  near_room = act_room p own (standing own frames before at) x code at i next fine roomy there is_code found here

  module _ (after : Frame) (k : Objects) (same : SameFrame before after) where
    kept : SameFrame (standing own frames before at).top after
    kept = record { method = same.method; room = same.room }

    -- it goes on at the instruction of another number
    pub near_goes : (to number : ℕ) → does p own i next before.locals before.stack.values x ≡ Goes to after.locals after.stack.values k → to ≡ first_place (drop number own.code) own.code_length →
        IsWent (moves p (activation (standing own frames before at).top) (below_of frames) x) (calls_of (standing own frames after number)) x k
    near_goes to number shows is =
        let went : IsWent (moves p (activation (standing own frames before at).top) (below_of frames) x) (calls_of (put_at (standing own frames before at) after to)) x k =
        goes_at p own (standing own frames before at) x code at i next fine roomy there is_code found here after k kept to shows in
        subst (λ (q : ℕ). IsWent (moves p (activation (standing own frames before at).top) (below_of frames) x) (calls_of (put_at (standing own frames before at) after q)) x k) is went

    -- what came of it isn't settled yet
    pub near_open : (marks : List Bool) (live mark : Bool) (left : ℕ) (moved : Moved) → Shows own (does p own i next before.locals before.stack.values x) next moved before after x k →
        IsMarked own.code marks own.code_length (first_place (drop at own.code) own.code_length) mark → ((mark && live) ≡ true → 0 < left) →
        IsOpen p own marks live left (standing own frames before at) x mark moved next (standing own frames after at) k
    near_open marks live mark left moved shows is some = record {
      is = is;
      some = some;
      shows = shows_of p own (standing own frames before at) x code at i next fine roomy there is_code found here (at_place after (first_place (drop at own.code) own.code_length)) k (record { method = same.method; room = same.room }) moved
          (shows_at own (does p own i next before.locals before.stack.values x) next moved before after x k (first_place (drop at own.code) own.code_length) shows);
      same = sym same.method;
      below = refl;
    }

    pub near_roomy : (to : ℕ) → AreRoomy p (put_at (standing own frames before at) after to)
    near_roomy to = still_roomy p own (standing own frames before at) x code at i next fine roomy there is_code found here after k kept to

-- nothing was done
pub near_still : (own : Method) (frames : Frames) (before after : Frame) (at : ℕ) (h k : Objects) → outcome.IsStill before after h k → IsStill (standing own frames before at) (standing own frames after at) h k
near_still own frames before after at h k is = record { frames = ap (λ (f : Frame). calls_of (standing own frames f at)) is.frame; heap = is.heap }

-- a frame that is put back stands at its instruction
pub put_back_is : (own : Method) (frames : Frames) (frame : Frame) (at place : ℕ) (new : Frames) → new ≡ record frames { top = at_place frame place } → place ≡ first_place (drop at own.code) own.code_length → new ≡ standing own frames frame at
put_back_is own frames frame at place new is e = is ∙ ap (λ (q : ℕ). record frames { top = at_place frame q }) e

-- a frame that was taken out is the one that stood on top
pub begins : (own : Method) (f : Frames) (other : Frame) (at : ℕ) → first_place (drop at own.code) own.code_length ≡ f.top.pc → calls_of (standing own (record f { top = other }) f.top at) ≡ calls_of f
begins own f other at e = ap (λ (q : ℕ). record { method = f.top.method; place = q; locals = f.top.locals; stack = f.top.stack.values } ∷ below_of f) e

-- the instruction behind that of a number
pub behind_is : (own : Method) (code : List (ℕ × Instr)) (at next : ℕ) → code ≡ own.code → next ≡ at + 1 → first_place (drop (at + 1) code) own.code_length ≡ first_place (drop next own.code) own.code_length
behind_is own code at next is_code is = ap (λ (c : List (ℕ × Instr)). first_place (drop (at + 1) c) own.code_length) is_code ∙ ap (λ (n : ℕ). first_place (drop n own.code) own.code_length) (sym is)

pub place_is : (own : Method) (code : List (ℕ × Instr)) (at to : ℕ) → code ≡ own.code → first_place (drop at code) own.code_length ≡ to → to ≡ first_place (drop at own.code) own.code_length
place_is own code at to is_code is = sym is ∙ ap (λ (c : List (ℕ × Instr)). first_place (drop at c) own.code_length) is_code

-- among the method's own instructions
pub marked_own : (own : Method) (code : List (ℕ × Instr)) (marks : List Bool) (at : ℕ) (mark : Bool) → code ≡ own.code → IsMarked code marks own.code_length (first_place (drop at code) own.code_length) mark →
    IsMarked own.code marks own.code_length (first_place (drop at own.code) own.code_length) mark
marked_own own code marks at mark is_code is = subst (λ (c : List (ℕ × Instr)). IsMarked c marks own.code_length (first_place (drop at c) own.code_length) mark) is_code is

-- a place has one mark
pub same_mark : (code : List (ℕ × Instr)) (marks : List Bool) (end place : ℕ) (a b : Bool) → IsMarked code marks end place a → IsMarked code marks end place b → a ≡ b
same_mark code marks end place a b x y = sym x.is ∙ ap (λ (f : Instr × ℕ × Bool). f.2) (same_Some x.found y.found (sym x.at ∙ y.at)) ∙ y.is
