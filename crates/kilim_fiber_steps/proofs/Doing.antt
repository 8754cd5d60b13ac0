-- One instruction of the top frame, of a run that counts.
use Rattle.std.proofs.Common.{◌≡◌, ◌∙◌, sym, ap, subst, ℕ, ◌≤◌, false, List, Some, drop, arith}
use Rattle.kilim_program.specs.declared.class.Method.{Method}
use Rattle.kilim_program.specs.declared.instr.Instr.{Instr}
use Rattle.kilim_program.specs.Lengths.{fetched, first_place}
use Rattle.kilim_program.specs.Names.{method_at}
use Rattle.kilim_program.specs.Program.{Program}
use Rattle.kilim_run_state.specs.Machine.{Objects}
use Rattle.kilim_run_machine.specs.Does.{does}
use Rattle.kilim_run_machine.specs.Effect.{Effect, Goes}
use Rattle.kilim_run_machine.specs.Moves.{effect_of, moves}
use Rattle.kilim_run_state.specs.declared.frames.frame.Frame.{Frame}
use Rattle.kilim_run_state.specs.declared.frames.frames.Frames.{Frames}
use Rattle.kilim_run_state.specs.frames.Calls.{activation, below_of, calls_of}
use Rattle.kilim_run_rows.specs.declared.outcome.Moved.{Moved}
use Rattle.kilim_run_rows.specs.Outcome.{IsMade, SameFrame, Shows, height, is_stuck}
use Rattle.kilim_run_interp.specs.Step.{AreRoomy, IsWent, stack_limit}
use Rattle.kilim_run_interp.specs.Run.{IsFine}
use Rattle.kilim_run_interp.proofs.Reading.{effect_is, height_fits}
use Rattle.kilim_run_interp.proofs.Running.{went_made, went_on}

abbrev pub put_at : Frames → Frame → ℕ → Frames
put_at f after place = record f { top = record after { pc = place } }

module _ (p : Program) (own : Method) (f : Frames) (x : Objects) (code : List (ℕ × Instr)) (at : ℕ) (i : Instr) (next : ℕ)
    (fine : IsFine p (activation f.top) (below_of f) x) (roomy : AreRoomy p f) (there : method_at p f.top.method ≡ Some own)
    (is_code : code ≡ own.code) (found_at : fetched code own.code_length (first_place (drop at code) own.code_length) ≡ Some (i, next)) (place : first_place (drop at code) own.code_length ≡ f.top.pc) where
  found : fetched own.code own.code_length f.top.pc ≡ Some (i, next)
  found =
      let there_at : fetched code own.code_length f.top.pc ≡ Some (i, next) = subst (λ (q : ℕ). fetched code own.code_length q ≡ Some (i, next)) place found_at in
      subst (λ (c : List (ℕ × Instr)). fetched c own.code_length f.top.pc ≡ Some (i, next)) is_code there_at

  is : effect_of p (activation f.top) x ≡ does p own i next f.top.locals f.top.stack.values x
  is = effect_is p (activation f.top) x own i next there found

  pub act_fine : is_stuck (does p own i next f.top.locals f.top.stack.values x) ≡ false
  act_fine = ap is_stuck (sym is) ∙ fine.fine

  pub act_room : height (does p own i next f.top.locals f.top.stack.values x) ≤ f.top.stack.room
  act_room =
      let high = height_fits p (effect_of p (activation f.top) x) f.top.method (below_of f) fine.fits in
      let same = ap height is in
      let room = roomy.top in
      omega (arith, high, same, room)

  module _ (after : Frame) (k : Objects) (same : SameFrame f.top after) where
    pub goes_at : (to : ℕ) → does p own i next f.top.locals f.top.stack.values x ≡ Goes to after.locals after.stack.values k → IsWent (moves p (activation f.top) (below_of f) x) (calls_of (put_at f after to)) x k
    goes_at to shows = went_on p own i next f.top after (below_of f) x k there found same.method to shows

    pub goes_made : (name : ℕ) → IsMade (does p own i next f.top.locals f.top.stack.values x) next name after x k → IsWent (moves p (activation f.top) (below_of f) x) (calls_of (put_at f after next)) x k
    goes_made name made = went_made p own i next f.top after (below_of f) x k there found same.method name made

    pub shows_of : (moved : Moved) → Shows own (does p own i next f.top.locals f.top.stack.values x) next moved f.top after x k → Shows own (effect_of p (activation f.top) x) next moved f.top after x k
    shows_of moved shows = subst (λ (e : Effect). Shows own e next moved f.top after x k) (sym is) shows

    pub still_roomy : (to : ℕ) → AreRoomy p (put_at f after to)
    still_roomy to =
        let room = roomy.top in
        let limits : stack_limit p after.method ≡ stack_limit p f.top.method = ap (stack_limit p) same.method in
        let rooms = same.room in
        record { top = omega (arith, room, limits, rooms); below = roomy.below }

    pub kept_roomy : AreRoomy p (record f { top = after })
    kept_roomy =
        let room = roomy.top in
        let limits : stack_limit p after.method ≡ stack_limit p f.top.method = ap (stack_limit p) same.method in
        let rooms = same.room in
        record { top = omega (arith, room, limits, rooms); below = roomy.below }
