-- The woven machine does what the table of kilim_fiber_laws::woven_kin says, and so a fiber's history goes on.
use Rattle.std.specs.Prelude.{ℕ, Bool, List}
use Rattle.kilim_program.specs.Program.{Program}
use Rattle.kilim_run_journal.specs.declared.entry.Act.{Act}
use Rattle.kilim_run_model.specs.declared.deed.Deed.{Deed}
use Rattle.kilim_run_model.specs.State.{Setting}
use Rattle.kilim_fiber_laws.specs.woven_kin.history.History.{Does, Follows, Reaches, state_of}
use Rattle.kilim_fiber_laws.specs.woven_kin.Nexts.{next_of}
use Rattle.kilim_fiber_laws.specs.woven_kin.Standing.{Standing}
use Rattle.kilim_fiber_spec.specs.Fibers.{Woven_state, wstep}

-- A step of the machine is what the fiber does next.
abbrev pub MachineFollows : Type 0
MachineFollows = (set : Setting) (W : Program) (marks : List (List Bool)) (t : ℕ) (x : Standing) → Does set t (λ rest acts ps. wstep set W marks (state_of t x rest acts ps)) (next_of set W marks t x)

-- From where a fiber comes by its history it does what it does next, whatever the beginning is.
abbrev pub HistoryGoesOn : Type 0
HistoryGoesOn =
    (set : Setting) (W : Program) (marks : List (List Bool)) (t : ℕ) (first : List Deed → List ℕ → Woven_state) (deeds : List Deed) (acts : List Act) (x : Standing) →
    Reaches set W marks t first deeds acts x → Follows set W marks t first deeds acts (next_of set W marks t x)
