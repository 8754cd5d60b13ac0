-- What the simulation uses of the woven form of a method: facts by old place.
use Rattle.std.specs.Prelude.{◌-ℤ◌, ◌≡◌, ◌⊎◌, ℕ, ◌+◌, ◌==◌, ◌≤◌, ◌<◌, Bool, true, false, not, ◌&&◌, if◌then◌else◌, pos, List, [], ◌∷◌, Option, Some, None, slice_get}
use Rattle.kilim_program.specs.declared.class.Method.{Method}
use Rattle.kilim_program.specs.declared.instr.Instr.{Instr}
use Rattle.kilim_program.specs.declared.instr.Instr.TheVariants.{Aload, Ifeq, Lstore, Istore, Astore, Iinc, Invokevirtual, Invokestatic}
use Rattle.kilim_program.specs.declared.names.MethodId.{MethodId}
use Rattle.kilim_program.specs.declared.value.Value.{Value}
use Rattle.kilim_program.specs.declared.value.Value.TheVariants as value
use Rattle.kilim_program.specs.declared.verified.VType.{VType}
use Rattle.kilim_program.specs.Program.{Program}
use Rattle.kilim_run_state.specs.Machine.{Objects}
use Rattle.kilim_program.specs.Names.{method_at}
use Rattle.kilim_program.specs.Lengths.{ends_path}
use Rattle.kilim_run_machine.specs.Effect.{Asks}
use Rattle.kilim_run_machine.specs.Does.{does, table_target}
use Rattle.kilim_program.specs.Same.{argument_slots}
use Rattle.kilim_run_machine.specs.Moves.{slots_in}
use Rattle.kilim_run_interp.specs.Step.{stack_limit}
use Rattle.kilim_type_spec.specs.Step.{Types, peek, is_top}
use Rattle.kilim_type_spec.specs.Typed.{reads, Among, edges}
use Rattle.kilim_weave_spec.specs.Woven.{Plan, Item, Mark, Does, member, fiber_slot, moved_instr, load_fiber, calls_member, added, pausable_callee, saved, prologue, drop_result, leave, resume_code, resume_places}
use Rattle.kilim_fiber_spec.specs.Thread.{fetch}
use Rattle.kilim_run_machine.specs.Natives.{FiberMember, Pc, Down, Up, Save, Place, Restore, Receiver}
use Rattle.kilim_fiber_spec.specs.Fibers.{member_of}

-- ---- what stands from a place on

-- these items stand one behind the other; the next place is data
abbrev pub HasAt : (ℕ → Option (Instr × ℕ × Bool)) → ℕ → List Item → Type 0
HasAt code q [] = Unit {0}
HasAt code q (Mark label frame ∷ rest) = HasAt code q rest
HasAt code q (Does i size counted ∷ rest) = (nx : ℕ) × (code q ≡ Some (i, nx, counted)) × HasAt code nx rest

-- ---- live slots

-- the local that an instruction really sets: the second half of a long stays as it was
abbrev pub sets : Instr → ℕ → Bool
sets (Istore n) k = n == k
sets (Lstore n) k = n == k
sets (Astore n) k = n == k
sets (Iinc n by) k = n == k
sets _ k = false

-- a slot is among those that are saved
abbrev pub Among_slots : List (ℕ × VType) → ℕ → Type 0
Among_slots [] k = ⊥
Among_slots (e ∷ es) k = (e.0 ≡ k) ⊎ Among_slots es k

abbrev pub is_pausable : Program → MethodId → Bool
is_pausable p m = elim (method_at p m) [ None ↦ false | Some method ↦ method.pausable ]

-- the longest code (JVMS 4.7.3, and this profile's bound on woven code)
abbrev pub longest : ℕ
longest = 32767

-- ---- the form of one method, by old place. A method without pausable calls is moved by nothing.

module _ (P W : Program) (wfetch : MethodId → ℕ → Option (Instr × ℕ × Bool)) where
  pub record Form (m : MethodId) : Type 0 where
    -- what it was woven from; its program is P
    pub method : Method
    pub there : (a : Method) → method_at P m ≡ Some a → a ≡ method
    pub typing : ℕ → Types
    pub live : ℕ → ℕ → Bool
    pub at : ℕ → ℕ
    pub block_at : ℕ → ℕ
    -- whether it has pausable calls
    pub has_calls : Bool
    -- by the place of a pausable call: its number, the place of the call in its group, and that behind it
    pub number : ℕ → ℕ
    pub call_at : ℕ → ℕ
    pub up_at : ℕ → ℕ
    pub block : ℕ → ℕ

  abbrev pub plan : {m : MethodId} → Form m → Plan
  plan fm = record { program = P; method = fm.method; typing = fm.typing; live = fm.live; at = fm.at; block = fm.block_at }

  -- a local that is live and has a type
  abbrev pub shown : {m : MethodId} → Form m → ℕ → ℕ → Bool
  shown fm p k = fm.live p k && not (is_top (peek (fm.typing p).locals k))

  -- the beginning
  abbrev pub Starts : {m : MethodId} → Form m → Bool → Type 0
  Starts {m = m} fm true = (rest : List Item) × HasAt (wfetch m) 0 (prologue (plan fm) rest)
  Starts fm false = fm.at 0 ≡ 0

  -- the group of a pausable call, and its block
  pub record Group {m : MethodId} (fm : Form m) (p to : ℕ) (i : Instr) (callee : Method) : Type 0 where
    pub has_calls : fm.has_calls ≡ true
    pub pausable : is_pausable P m ≡ true
    pub down_at : ℕ
    pub load : wfetch m (fm.at p) ≡ Some (Aload (fiber_slot fm.method), down_at, false)
    pub down : wfetch m down_at ≡ Some (Invokevirtual (member P 1), fm.call_at p, false)
    pub call : wfetch m (fm.call_at p) ≡ Some (i, fm.up_at p, true)
    pub up_rest : List Item
    pub back_rest : List Item
    pub up : HasAt (wfetch m) (fm.up_at p) (load_fiber (plan fm) ∷ calls_member (plan fm) 2 ∷ added (Ifeq (fm.at to)) 3 ∷ drop_result callee.result (leave (plan fm) (fm.number p) callee p to up_rest))
    pub back : HasAt (wfetch m) (fm.block p) (resume_code (plan fm) callee p to back_rest)
    pub target : table_target (resume_places (plan fm) 1 fm.method.code) (pos (fm.number p) -ℤ pos 1) (fm.at 0) ≡ fm.block p
    -- what is live behind the call is saved; what is saved is live at the call, and it is a slot of the old method
    pub kept : (k : ℕ) → shown fm to k ≡ true → Among_slots (saved (plan fm) p to) k
    pub saves : (k : ℕ) → Among_slots (saved (plan fm) p to) k → shown fm p k ≡ true

  -- an old instruction that is no pausable call
  pub record Stays {m : MethodId} (fm : Form m) (p to : ℕ) (i : Instr) : Type 0 where
    pub next : ℕ
    pub is : wfetch m (fm.at p) ≡ Some (moved_instr fm.at i, next, true)
    pub goes : ends_path i ≡ false → next ≡ fm.at to

  pub record Facts {m : MethodId} (fm : Form m) : Type 0 where
    pub stays : (p to : ℕ) (i : Instr) → fetch P m p ≡ Some (i, to) → pausable_callee P i ≡ None → Stays fm p to i
    pub group : (p to : ℕ) (i : Instr) (callee : Method) → fetch P m p ≡ Some (i, to) → pausable_callee P i ≡ Some callee → Group fm p to i callee
    pub starts : Starts fm fm.has_calls
    -- what has calls is pausable, and what has none is moved by nothing
    pub calls_pausable : fm.has_calls ≡ true → is_pausable P m ≡ true
    pub unmoved : fm.has_calls ≡ false → (p : ℕ) → fm.at p ≡ p
    pub reads_shown : (p to k : ℕ) (i : Instr) → fetch P m p ≡ Some (i, to) → reads i k ≡ true → shown fm p k ≡ true
    pub flows : (p to q k : ℕ) (i : Instr) → fetch P m p ≡ Some (i, to) → Among (edges i to) q → shown fm q k ≡ true → (shown fm p k ≡ true) ⊎ (sets i k ≡ true)
    -- what is live at the beginning is an argument
    pub arguments : (k : ℕ) → shown fm 0 k ≡ true → k < argument_slots fm.method
    -- the woven method has the two locals more
    pub room : fm.has_calls ≡ true → fiber_slot fm.method + (if fm.method.is_static then 1 else 2) ≤ slots_in (method_at W m)
    -- a method without pausable calls has no fewer locals
    pub same_room : slots_in (method_at P m) ≤ slots_in (method_at W m)
    -- the woven method may have four values more on its stack, and one without pausable calls no fewer
    pub higher : fm.has_calls ≡ true → stack_limit P m + 4 ≤ stack_limit W m
    pub as_high : stack_limit P m ≤ stack_limit W m
    -- each instruction's place is followed by a greater one; added ones stand in code that isn't too long
    pub within : (q nx : ℕ) (i : Instr) → wfetch m q ≡ Some (i, nx, false) → nx ≤ longest
    pub grows : (q nx : ℕ) (i : Instr) (counted : Bool) → wfetch m q ≡ Some (i, nx, counted) → q < nx

-- ---- the members of the fiber, as calls that woven code makes

abbrev pub members_in_order : List FiberMember
members_in_order = Pc ∷ Down ∷ Up ∷ Save ∷ Save ∷ Save ∷ Place ∷ Restore ∷ Restore ∷ Restore ∷ Receiver ∷ []

abbrev pub takes_alone : FiberMember → Bool
takes_alone Save = false
takes_alone Place = false
takes_alone _ = true

pub record Members (P W : Program) : Type 0 where
  pub named : (n : ℕ) (k : FiberMember) → slice_get members_in_order n ≡ Some k → member_of W (member P n) ≡ Some k
  pub alone : (n : ℕ) (k : FiberMember) → slice_get members_in_order n ≡ Some k → takes_alone k ≡ true → (own : Method) (nx : ℕ) (l s : List Value) (heap : Objects) → does W own (Invokevirtual (member P n)) nx l (value.Fiber ∷ s) heap ≡ Asks (member P n) (value.Fiber ∷ []) nx l s heap
  pub save : (n : ℕ) → slice_get members_in_order n ≡ Some Save → (own : Method) (nx : ℕ) (v : Value) (l s : List Value) (heap : Objects) → does W own (Invokestatic (member P n)) nx l (value.Fiber ∷ v ∷ s) heap ≡ Asks (member P n) (v ∷ value.Fiber ∷ []) nx l s heap
  pub place : (own : Method) (nx : ℕ) (v y : Value) (l s : List Value) (heap : Objects) → does W own (Invokestatic (member P 6)) nx l (value.Fiber ∷ y ∷ v ∷ s) heap ≡ Asks (member P 6) (v ∷ y ∷ value.Fiber ∷ []) nx l s heap
