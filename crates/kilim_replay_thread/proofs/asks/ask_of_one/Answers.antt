use Rattle.std.proofs.Common.{◌∷◌, [], Some, ap, subst}
use Rattle.kilim_program.specs.declared.value.Value.{Value}
use Rattle.kilim_type_sound.specs.Fits.{AreThere}
use Rattle.kilim_fiber_spec.specs.fiber_kin.Served.{gives_value}
use Rattle.kilim_fiber_steps.specs.records.natives.Natives.{meaning}
use Rattle.kilim_fiber_steps.specs.declared.records.natives.natives.Native.{Native}
use Rattle.kilim_replay_thread.proofs.Asking.{can_show}
use Rattle.kilim_replay_thread.proofs.asks.ask_of_one.Goals as goal

pub start-requires-clause-shown : goal.start-requires-clause-shown
start-requires-clause-shown c =
    can_show c.args.program.now c.args.world.now.heap c.in-Ref-value.root [] c.requires.can.heap
    (subst (λ (v : Value). AreThere c.args.world.now.heap (v ∷ [])) c.in-Ref-value.is c.requires.can.there)

pub start-requires-clause-begins : goal.start-requires-clause-begins
start-requires-clause-begins c = c.requires.can.begins c.in-Ref-value.root (ap (λ (n : Native). Some (meaning n)) c.in-Start.is) (ap (λ (v : Value). v ∷ []) c.in-Ref-value.is)

pub arg-requires-clause-room : goal.arg-requires-clause-room
arg-requires-clause-room c = c.requires.can.room (ap (λ (n : Native). gives_value (Some (meaning n))) c.in-Arg.is)
