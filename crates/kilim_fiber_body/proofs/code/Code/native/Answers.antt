use Rattle.std.proofs.Common.{◌≡◌, List, Option, Some, None, subst}
use Rattle.std.specs.Prelude.{IfSome, slice_get}
use Rattle.kilim_program.specs.declared.names.MethodId.{MethodId}
use Rattle.kilim_program.specs.Program.{Program}
use Rattle.kilim_run_machine.specs.Natives.{native_of}
use Rattle.kilim_fiber_steps.specs.records.natives.Natives.{meaning}
use Rattle.kilim_fiber_steps.specs.records.natives.Tables.{AreNatives}
use Rattle.kilim_fiber_steps.specs.declared.records.natives.natives.Native.{Native}
use Rattle.kilim_fiber_body.proofs.code.Code.native.Goals as goal

told : (W : Program) (table : List (Option Native)) (method : MethodId) (found : Option Native) → AreNatives W table → IfSome found (λ native. slice_get table method.0 ≡ Some (Some native)) → IfSome found (λ native. native_of W method ≡ Some (meaning native))
told W table method (Some native) tell has = tell method.0 native has
told W table method None tell has = tt

pub returns : goal.returns
returns c =
    told c.args.self.now.program c.args.self.now.natives.items c.args.method c.native_at.result c.args.self.now.natives_are
    (subst (λ (table : List (Option Native)). IfSome c.native_at.result (λ native. slice_get table c.args.method.0 ≡ Some (Some native))) c.as_slice.ensures.value c.native_at.ensures)
