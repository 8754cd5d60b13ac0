-- Tables of what is told by names.
use Rattle.std.specs.Prelude.{◌≡◌, ℕ, List, Option, Some, slice_get}
use Rattle.kilim_program.specs.declared.names.MethodId.{MethodId}
use Rattle.kilim_program.specs.Program.{Program}
use Rattle.kilim_program.specs.Members.{execute_of}
use Rattle.kilim_run_machine.specs.Natives.{native_of}
use Rattle.kilim_fiber_steps.specs.records.natives.Natives.{meaning}
use Rattle.kilim_fiber_steps.specs.declared.records.natives.natives.Native.{Native}

-- where the table has a built-in method for the method of that number, the method is that one
abbrev pub AreNatives : Program → List (Option Native) → Type 0
AreNatives W table = (at : ℕ) (native : Native) → slice_get table at ≡ Some (Some native) → native_of W (record { 0 = at }) ≡ Some (meaning native)

-- where the table has a method for the class of that number, it is the `execute` of the class's objects
abbrev pub AreExecutes : Program → List (Option MethodId) → Type 0
AreExecutes W table = (at : ℕ) (method : MethodId) → slice_get table at ≡ Some (Some method) → execute_of W (record { 0 = at }) ≡ Some method
