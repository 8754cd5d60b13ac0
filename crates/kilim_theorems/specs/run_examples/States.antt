-- Small states: in four an object is shared, each in another way; in one none is.
use Rattle.std.specs.Prelude.{ℕ, true, false, List, [], ◌∷◌, None, length}
use Rattle.std.specs.FinMap.{empty, insert}
use Rattle.kilim_program.specs.BuiltIn.{class_type, method_id}
use Rattle.kilim_program.specs.declared.names.BoxName.{BoxName}
use Rattle.kilim_program.specs.declared.value.Value.{Value}
use Rattle.kilim_program.specs.declared.value.Value.TheVariants.{Ref}
use Rattle.kilim_run_state.specs.declared.value.Object.{Object}
use Rattle.kilim_run_state.specs.Machine.{Objects}
use Rattle.kilim_run_model.specs.Reach.{Liveness, Isolated}
use Rattle.kilim_run_model.specs.State.{Thread, Alive, State, Mailbox, empty_mailbox, with_mailbox}

-- an object with one field, and one without
abbrev pub holding : ℕ → Object
holding n = record { class = class_type 0; fields = (record { 0 = 0 }, Ref n) ∷ []; elements = [] }

abbrev pub leaf : Object
leaf = record { class = class_type 0; fields = []; elements = [] }

-- three objects: 0 holds 1, and 2 stands alone
abbrev pub three : Objects
three = insert (insert (insert empty 0 (holding 1)) 1 leaf) 2 leaf

-- a thread of one frame with this stack and these locals
abbrev pub thread_with : List Value → List Value → Thread
thread_with stack locals = Alive (record { method = method_id 0; place = 0; locals = locals; stack = stack } ∷ []) 0 0

abbrev pub stacked : ℕ → Thread
stacked n = thread_with (Ref n ∷ []) []

abbrev pub box : BoxName
box = record { task = 0; number = 0 }

-- these objects wait in one mailbox
abbrev pub waiting : List (ℕ × ℕ) → BoxName → Mailbox ℕ
waiting queue = with_mailbox (λ b. empty_mailbox) box (record { most = None; puts = length queue; queue = queue })

abbrev pub state_of : List Thread → List (ℕ × ℕ) → State
state_of threads queue = record { heap = three; next = 3; threads = threads; mailboxes = waiting queue; journal = []; kept = None }

-- each local is live, or none is
abbrev pub all_live : Liveness
all_live = record { top = λ m p k. true; below = λ m p k. true }

abbrev pub none_live : Liveness
none_live = record { top = λ m p k. false; below = λ m p k. false }

-- each local of a frame that waits is, and none of a frame on top
abbrev pub live_below : Liveness
live_below = record { top = λ m p k. false; below = λ m p k. true }

abbrev pub OnTwoStacks : Type 0
OnTwoStacks = Isolated all_live (state_of (stacked 1 ∷ stacked 1 ∷ []) []) → ⊥

-- 1 is below 0
abbrev pub BelowAnother : Type 0
BelowAnother = Isolated all_live (state_of (stacked 0 ∷ stacked 1 ∷ []) []) → ⊥

abbrev pub InALiveLocal : Type 0
InALiveLocal = Isolated all_live (state_of (stacked 1 ∷ thread_with [] (Ref 1 ∷ []) ∷ []) []) → ⊥

-- the frame on top has 0, and the one that waits below it has 1 in a local
abbrev pub two_frames : Thread
two_frames = Alive (record { method = method_id 0; place = 0; locals = Ref 0 ∷ []; stack = [] } ∷ record { method = method_id 0; place = 0; locals = Ref 1 ∷ []; stack = [] } ∷ []) 0 0

abbrev pub InALocalBelow : Type 0
InALocalBelow = Isolated live_below (state_of (stacked 1 ∷ two_frames ∷ []) []) → ⊥

abbrev pub OnAStackAndInAQueue : Type 0
OnAStackAndInAQueue = Isolated all_live (state_of (stacked 1 ∷ []) ((0, 0) ∷ [])) → ⊥

abbrev pub TwiceInAQueue : Type 0
TwiceInAQueue = Isolated all_live (state_of [] ((0, 1) ∷ (1, 1) ∷ [])) → ⊥

-- Each object has one who reaches it: 0 and 1 wait in the mailbox, 2 is on a stack. A local that isn't live reaches nothing.
abbrev pub parted : State
parted = state_of (thread_with [] (Ref 0 ∷ Ref 2 ∷ []) ∷ stacked 2 ∷ []) ((0, 0) ∷ [])

abbrev pub EachHasOne : Type 0
EachHasOne = Isolated none_live parted

pub record StatesAreJudged : Type 0 where
  pub on_two_stacks : OnTwoStacks
  pub below_another : BelowAnother
  pub in_a_live_local : InALiveLocal
  pub in_a_local_below : InALocalBelow
  pub on_a_stack_and_in_a_queue : OnAStackAndInAQueue
  pub twice_in_a_queue : TwiceInAQueue
  pub each_has_one : EachHasOne
