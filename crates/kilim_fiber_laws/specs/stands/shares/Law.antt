-- A program and its woven form share what the rows of the table rest on.
use Rattle.std.specs.Prelude.{◌≡◌, ℕ, Bool, true, List, Some, codes, slice_get}
use Rattle.kilim_program.specs.declared.class.Form.TheVariants.{Plain}
use Rattle.kilim_program.specs.Keeps.{Keeps}
use Rattle.kilim_program.specs.Program.{Program}
use Rattle.kilim_program.specs.Members.{is_fit_main}
use Rattle.kilim_program.specs.Members.{named_type}
use Rattle.kilim_run_machine.specs.Natives.{FiberMember}
use Rattle.kilim_run_model.specs.State.{Setting}
use Rattle.kilim_type_spec.specs.Typed.{IsWellTyped}
use Rattle.kilim_weave_spec.specs.Form.{WovenForm}
use Rattle.kilim_weave_spec.specs.Woven.{fiber_ty, member}
use Rattle.kilim_fiber_spec.specs.Form.{members_in_order}
use Rattle.kilim_fiber_spec.specs.alike.Shares.{IsMember, SharesPauses, SharesRows, size_of}

-- Of a kept, well-typed program with a fit main class, and its woven form.
abbrev pub WovenShares : Type 0
WovenShares =
    (set : Setting) (W : Program) (counted : List (List Bool)) → Keeps set.program → set.program.form ≡ Plain → IsWellTyped set.program → is_fit_main set.program set.main ≡ true → WovenForm set.program W counted →
    SharesRows set W × SharesPauses set W (fiber_ty set.program)

-- The members of the fiber stand among its methods, and a call on the fiber selects them.
abbrev pub MembersStand : Type 0
MembersStand =
    (P W : Program) (counted : List (List Bool)) → Keeps P → P.form ≡ Plain → WovenForm P W counted →
    (named_type W (codes "kilim/Fiber") ≡ Some (fiber_ty P)) × ((n : ℕ) (k : FiberMember) → slice_get members_in_order n ≡ Some k → IsMember W (member P n) (size_of k) k (fiber_ty P))
