-- A woven fiber that stands is a state of the woven machine, with deeds and pauses to come; and what it comes to is told by its history: the
-- deeds of its course, and how often each `get` found its mailbox empty, and each put that waits found its mailbox full.
use Rattle.std.specs.Prelude.{◌≡◌, ℕ, suc, ◌+◌, Bool, List, [], ◌∷◌, ◌++◌, Some}
use Rattle.kilim_program.specs.declared.names.BoxName.{BoxName}
use Rattle.kilim_program.specs.declared.value.Value.TheVariants.{Null}
use Rattle.kilim_program.specs.Program.{Program}
use Rattle.kilim_run_journal.specs.declared.entry.Act.{Act}
use Rattle.kilim_run_journal.specs.declared.entry.Act.TheVariants as act
use Rattle.kilim_run_state.specs.declared.value.Object.{Object}
use Rattle.kilim_run_state.specs.declared.value.Token.{Token}
use Rattle.kilim_run_state.specs.Machine.{Activation}
use Rattle.kilim_run_state.specs.Trees.{OfMessage, built}
use Rattle.kilim_run_model.specs.Course.{plain}
use Rattle.kilim_run_model.specs.declared.deed.Deed.{Deed}
use Rattle.kilim_run_model.specs.State.{Setting}
use Rattle.kilim_fiber_laws.specs.woven_kin.Laws.{tree_came, tree_left}
use Rattle.kilim_fiber_laws.specs.woven_kin.Nexts.{Next, Goes, Puts, PutWaits, Bounds, Gets, Probes, Starts, Prints, Rests, Ends, Stands, with_result, PutsAgain, apart_at}
use Rattle.kilim_fiber_laws.specs.woven_kin.Standing.{Standing}
use Rattle.kilim_fiber_spec.specs.Acts.{Action, Lost, Wants, World}
use Rattle.kilim_fiber_spec.specs.Acts as action
use Rattle.kilim_fiber_spec.specs.Fibers.{Fib, Resting, WRun, WStop, Woven_state, wsteps}

-- ---- a fiber that stands, as a state of the machine

abbrev pub world_of : ℕ → Standing → List Deed → List Act → World
world_of t x deeds acts = record { task = t; heap = x.heap; next = x.next; kept = x.kept; deeds = deeds; acts = acts; done = x.done; boxes = x.boxes; aside = x.aside }

-- without a frame it rests
abbrev pub state_in : List Activation → Fib → World → List ℕ → Woven_state
state_in [] f w ps = Resting f w ps
state_in (top ∷ below) f w ps = WRun top.method top.place top.locals top.stack below f w ps

-- with these deeds to come, these acts done, and these pauses to come
abbrev pub state_of : ℕ → Standing → List Deed → List Act → List ℕ → Woven_state
state_of t x deeds acts ps = state_in x.frames x.fiber (world_of t x deeds acts) ps

-- ---- deeds

abbrev pub took : BoxName → ℕ → List Token → Deed
took box n shape = record { act = act.Take box n; taken = shape }

-- ---- what the machine comes to by one step, from each list of deeds to come, of acts done and of pauses to come

abbrev pub Outcome : Type 0
Outcome = List Deed → List Act → List ℕ → Woven_state

-- with no deed and no pause to come it is over right before the action, in the same heap, and the action isn't counted yet
abbrev pub StopsAt : Outcome → Action → Standing → Type 0
StopsAt out a y = (acts : List Act) (more : List ℕ) → (w : World) × (out [] acts (0 ∷ more) ≡ WStop (Wants a w)) × (w.acts ≡ acts) × (w.heap ≡ y.heap) × (w.next ≡ y.next) × (w.done + 1 ≡ y.done) × (w.aside ≡ y.aside)

-- with such a deed to come it stands so; a `get` and a put that waits use up what is left of their pauses, and no other action does
abbrev pub Leads : ℕ → Outcome → Deed → Standing → Type 0
Leads t out d y = (rest : List Deed) (acts : List Act) (ps : List ℕ) → out (d ∷ rest) acts ps ≡ state_of t y rest (d.act ∷ acts) ps

abbrev pub Takes : Setting → ℕ → Outcome → BoxName → Standing → Type 0
Takes set t out box y = (n : ℕ) (shape : List Token) (os : List Object) → built set.program OfMessage y.next shape ≡ Some os → Leads t out (took box n shape) (tree_came os y)

-- the machine's step is what a fiber that stands so does next
abbrev pub Does : Setting → ℕ → Outcome → Next → Type 0
Does set t out (Goes y) = (rest : List Deed) (acts : List Act) (ps : List ℕ) → out rest acts ps ≡ state_of t y rest acts ps
Does set t out (Rests y) = (rest : List Deed) (acts : List Act) (ps : List ℕ) → out rest acts ps ≡ state_of t y rest acts ps
Does set t out (Puts box root shape y) = StopsAt out (action.Puts box root shape) y × ((n : ℕ) → Leads t out (plain (act.Put box n shape)) (tree_left set.program root y))
Does set t out (PutWaits box root shape paused y) =
    StopsAt out (action.PutWaits box root shape) y
    × ((rest : List Deed) (acts : List Act) (k : ℕ) (ps : List ℕ) → out rest acts (suc k ∷ ps) ≡ state_of t (apart_at set.program root shape paused) rest acts (k ∷ ps))
    × ((n : ℕ) → Leads t (λ rest acts ps. out rest acts (0 ∷ ps)) (plain (act.Put box n shape)) (tree_left set.program root y))
Does set t out (PutsAgain box root shape full paused y) =
    StopsAt out (action.PutWaits box root shape) full
    × ((rest : List Deed) (acts : List Act) (k : ℕ) (ps : List ℕ) → out rest acts (suc k ∷ ps) ≡ state_of t paused rest acts (k ∷ ps))
    × ((n : ℕ) → Leads t (λ rest acts ps. out rest acts (0 ∷ ps)) (plain (act.Put box n shape)) y)
Does set t out (Bounds box most y) = StopsAt out (action.Bounds box most) y × Leads t out (plain (act.Bound box most)) y
Does set t out (Gets box paused y) =
    StopsAt out (action.Gets box) y
    × ((rest : List Deed) (acts : List Act) (k : ℕ) (ps : List ℕ) → out rest acts (suc k ∷ ps) ≡ state_of t paused rest acts (k ∷ ps))
    × Takes set t (λ rest acts ps. out rest acts (0 ∷ ps)) box y
Does set t out (Probes box y) = StopsAt out (action.Probes box) y × Leads t out (plain (act.Empty box)) (with_result (Some Null) y) × Takes set t out box y
Does set t out (Starts root shape y) = StopsAt out (action.Starts root shape) y × ((n : ℕ) → Leads t out (plain (act.Start n shape)) (tree_left set.program root y))
Does set t out (Prints token y) = StopsAt out (action.Prints token) y × Leads t out (plain (act.Print (token ∷ []))) y
Does set t out (Ends why) = (acts : List Act) (more : List ℕ) → (w : World) × (out [] acts (0 ∷ more) ≡ WStop (Wants (action.Ends why) w)) × (w.acts ≡ acts)
Does set t out Stands = (acts : List Act) (more : List ℕ) → out [] acts (0 ∷ more) ≡ WStop Lost

-- ---- history

-- A fiber that begins with `first`, whose deeds and pauses are told: with these deeds done, and these acts by them, it comes to stand so. For all
-- deeds and pauses that may still be to come there are pauses on its way with which it does.
abbrev pub Reaches : Setting → Program → List (List Bool) → ℕ → (List Deed → List ℕ → Woven_state) → List Deed → List Act → Standing → Type 0
Reaches set W marks t first deeds acts x =
    (rest : List Deed) (k : ℕ) (more : List ℕ) → (ps : List ℕ) × (j : ℕ) × (wsteps set W marks j (first (deeds ++ rest) ps) ≡ state_of t x rest acts (k ∷ more))

module _ (set : Setting) (W : Program) (marks : List (List Bool)) (t : ℕ) (first : List Deed → List ℕ → Woven_state) (deeds : List Deed) (acts : List Act) where
  -- for some pauses it is over right before the action, with no deed to come
  abbrev pub ComesTo : Action → Standing → Type 0
  ComesTo a y = (ps : List ℕ) × (j : ℕ) × (w : World) × (wsteps set W marks j (first deeds ps) ≡ WStop (Wants a w)) × (w.acts ≡ acts) × (w.heap ≡ y.heap) × (w.next ≡ y.next) × (w.done + 1 ≡ y.done) × (w.aside ≡ y.aside)

  -- behind the deed it comes to stand so
  abbrev pub GoesOn : Deed → Standing → Type 0
  GoesOn d y = Reaches set W marks t first (deeds ++ d ∷ []) (d.act ∷ acts) y

  abbrev pub GoesOnWith : BoxName → Standing → Type 0
  GoesOnWith box y = (n : ℕ) (shape : List Token) (os : List Object) → built set.program OfMessage y.next shape ≡ Some os → GoesOn (took box n shape) (tree_came os y)

  -- What comes of a fiber that does this next: where it goes on or rests it comes to stand so with the same deeds, and so where a `get` or a
  -- put that waits pauses; before an action it is over, and behind its deed it comes to stand as it does then. It is nowhere where no verified code
  -- comes, unless the machine is lost.
  abbrev pub Follows : Next → Type 0
  Follows (Goes y) = Reaches set W marks t first deeds acts y
  Follows (Rests y) = Reaches set W marks t first deeds acts y
  Follows (Puts box root shape y) = ComesTo (action.Puts box root shape) y × ((n : ℕ) → GoesOn (plain (act.Put box n shape)) (tree_left set.program root y))
  Follows (PutWaits box root shape paused y) = ComesTo (action.PutWaits box root shape) y × Reaches set W marks t first deeds acts (apart_at set.program root shape paused) × ((n : ℕ) → GoesOn (plain (act.Put box n shape)) (tree_left set.program root y))
  Follows (PutsAgain box root shape full paused y) = ComesTo (action.PutWaits box root shape) full × Reaches set W marks t first deeds acts paused × ((n : ℕ) → GoesOn (plain (act.Put box n shape)) y)
  Follows (Bounds box most y) = ComesTo (action.Bounds box most) y × GoesOn (plain (act.Bound box most)) y
  Follows (Gets box paused y) = ComesTo (action.Gets box) y × Reaches set W marks t first deeds acts paused × GoesOnWith box y
  Follows (Probes box y) = ComesTo (action.Probes box) y × GoesOn (plain (act.Empty box)) (with_result (Some Null) y) × GoesOnWith box y
  Follows (Starts root shape y) = ComesTo (action.Starts root shape) y × ((n : ℕ) → GoesOn (plain (act.Start n shape)) (tree_left set.program root y))
  Follows (Prints token y) = ComesTo (action.Prints token) y × GoesOn (plain (act.Print (token ∷ []))) y
  Follows (Ends why) = (ps : List ℕ) × (j : ℕ) × (w : World) × (wsteps set W marks j (first deeds ps) ≡ WStop (Wants (action.Ends why) w)) × (w.acts ≡ acts)
  Follows Stands = (ps : List ℕ) × (j : ℕ) × (wsteps set W marks j (first deeds ps) ≡ WStop Lost)
