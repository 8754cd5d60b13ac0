use Rattle.std.proofs.Common.{◌≡◌, None, sym, subst}
use Rattle.kilim_fiber_spec.specs.Fibers.{executes_on}
use Rattle.kilim_program.specs.declared.value.Value.{Value}
use Rattle.kilim_fiber_body.specs.Body.{RoomyIn}
use Rattle.kilim_fiber_body.specs.Steps.{ReceiverThere}
use Rattle.kilim_fiber_body.specs.declared.body.Body.{Body}
use Rattle.kilim_fiber_body.proofs.Rewinding.{goes_on}
use Rattle.kilim_fiber_body.proofs.body.rewind.Goals as goal

pub execute_frames-requires-clause-there : goal.execute_frames-requires-clause-there
execute_frames-requires-clause-there c = subst (λ (v : Value). ReceiverThere c.args.body.now.heap v) (sym c.in-Ok.ensures) c.requires.there

pub execute_frames-requires-clause-made : goal.execute_frames-requires-clause-made
execute_frames-requires-clause-made c = subst (λ (v : Value). executes_on c.args.code.now.program c.args.body.now.heap v ≡ None → ⊥) (sym c.in-Ok.ensures) c.requires.made

pub returns-clause-comes : goal.returns-clause-comes
returns-clause-comes c =
    let begun = c.in-Ok-execute_frames.ensures.frames in
    goes_on c.args.code.now.program c.args.body.now c.stand_at.new.body c.in-Ok-execute_frames.frames c.resume.new.self c.in-Ok.receiver begun.0 c.in-Ok.ensures begun.1 begun.2 c.stand_at.ensures c.resume.ensures

pub returns-clause-roomy : goal.returns-clause-roomy
returns-clause-roomy c = subst (λ (b : Body). RoomyIn c.args.code.now.program b.frames) (sym c.stand_at.ensures) c.in-Ok-execute_frames.ensures.roomy
