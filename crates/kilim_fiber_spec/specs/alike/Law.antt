-- What the instructions of a program and of its woven form do alike.
use Rattle.std.specs.Prelude.{◌≡◌, ℕ, Bool, List, Some, codes, slice_get}
use Rattle.kilim_program.specs.declared.names.MethodId.{MethodId}
use Rattle.kilim_program.specs.declared.ty.Ty.{Ty}
use Rattle.kilim_program.specs.Program.{Program}
use Rattle.kilim_program.specs.Members.{named_type}
use Rattle.kilim_run_machine.specs.Natives.{FiberMember}
use Rattle.kilim_run_model.specs.State.{Setting}
use Rattle.kilim_weave_spec.specs.Woven.{member}
use Rattle.kilim_fiber_spec.specs.Form.{Facts, Members, members_in_order}
use Rattle.kilim_fiber_spec.specs.Links.{Forms, code}
use Rattle.kilim_fiber_spec.specs.Serves.{Rows}
use Rattle.kilim_fiber_spec.specs.alike.Shares.{IsMember, SharesPauses, SharesRows, size_of}

-- Every row of the table: an old instruction that is no pausable call does the same in woven code, elsewhere and with other locals; a
-- pausable call does the same with the fiber as its last argument.
abbrev pub RowsAreAlike : Type 0
RowsAreAlike =
    (set : Setting) (W : Program) (marks : List (List Bool)) (form : Forms set W marks) → ((m : MethodId) → Facts set.program W (code set W marks) (form m)) →
    (fiber : Ty) → SharesRows set W → SharesPauses set W fiber → Rows set W marks form

-- The calls of the fiber's members that woven code makes reach those members.
abbrev pub MembersAreCalled : Type 0
MembersAreCalled =
    (P W : Program) (fiber : Ty) → named_type W (codes "kilim/Fiber") ≡ Some fiber →
    ((n : ℕ) (k : FiberMember) → slice_get members_in_order n ≡ Some k → IsMember W (member P n) (size_of k) k fiber) → Members P W
