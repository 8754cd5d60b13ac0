-- Each frame stands behind the call that entered the frame above it.
use Rattle.std.specs.Prelude.{◌≡◌, ℕ, Bool, true, false, List, [], ◌∷◌, Option, Some, None, codes, drop, length, slice_get}
use Rattle.kilim_program.specs.declared.class.Method.{Method}
use Rattle.kilim_program.specs.declared.instr.Instr.{Instr}
use Rattle.kilim_program.specs.declared.instr.Instr.TheVariants as instr
use Rattle.kilim_program.specs.declared.names.ClassId.{ClassId}
use Rattle.kilim_program.specs.declared.names.MethodId.{MethodId}
use Rattle.kilim_program.specs.declared.ty.Ty.{Ty}
use Rattle.kilim_program.specs.declared.value.Value.{Value}
use Rattle.kilim_program.specs.declared.value.Value.TheVariants.{Box, Fiber, Null, Ref, Text}
use Rattle.kilim_program.specs.BuiltIn.{class_type}
use Rattle.kilim_program.specs.Fits.{fits_type}
use Rattle.kilim_program.specs.Names.{is_task, method_at}
use Rattle.kilim_program.specs.Program.{Program}
use Rattle.kilim_isolation_laws.specs.typed_threads.fine.Typed.{FitsAs}
use Rattle.kilim_type_sound.specs.Fits.{Classes, Holds, has_type, have_types}
use Rattle.kilim_type_sound.specs.Sound.{argument_types}
use Rattle.kilim_isolation_pauses.specs.Pausing.{called}
use Rattle.kilim_run_machine.specs.Does.{chosen, special}
use Rattle.kilim_program.specs.Members.{named_type}
use Rattle.kilim_program.specs.Members.{execute_of}
use Rattle.kilim_run_machine.specs.Natives.{is_built_in_constructor, is_text_method}
use Rattle.kilim_isolation_laws.specs.Laws.{IsRunOfAccepted}
use Rattle.kilim_run_model.specs.State.{Setting}
use Rattle.kilim_type_spec.specs.Step.{peek}
use Rattle.kilim_type_laws.specs.Laws.{typing_at}
use Rattle.kilim_weave_spec.specs.Woven.{first_of, taken}
use Rattle.kilim_fiber_spec.specs.lone.Law.{lone_at}
use Rattle.kilim_fiber_laws.specs.receivers.Law.{IsBegun}
use Rattle.kilim_fiber_spec.specs.Form.{is_pausable}
use Rattle.kilim_fiber_spec.specs.Thread.{At, Frame, Run, Stop, Thread, fetch, self_of, steps}

-- an object, a string, a mailbox or a fiber
abbrev pub is_object : Value → Bool
is_object (Ref n) = true
is_object (Text units) = true
is_object (Box box) = true
is_object Fiber = true
is_object v = false

-- of which class or array type it is, if it is of one
abbrev pub class_named : Program → Classes → Value → Option Ty
class_named p of (Ref n) = of n
class_named p of (Text units) = named_type p (codes "java/lang/String")
class_named p of (Box box) = named_type p (codes "kilim/Mailbox")
class_named p of Fiber = named_type p (codes "kilim/Fiber")
class_named p of v = None

module _ (p : Program) where
  -- how a call comes to the method c with the receiver y
  abbrev pub Target : Classes → Method → Instr → Method → MethodId → Value → Type 0
  Target of own (instr.Invokestatic id) named c y = (c ≡ id) × (y ≡ Null) × (named.is_static ≡ true) × (named.built_in ≡ false)
  Target of own (instr.Invokevirtual id) named c y =
      (named.is_static ≡ false) × (is_text_method p named ≡ false) × ((ty : Ty) × (class_named p of y ≡ Some ty) × (fits_type p ty (class_type named.owner.0) ≡ true) × (c ≡ chosen p named id ty))
  Target of own (instr.Invokespecial id) named c y = (named.is_static ≡ false) × (is_object y ≡ true) × (c ≡ special p own named id) × (is_built_in_constructor named ≡ false)
  Target of own i named c y = ⊥

  -- a frame of m that stands behind the call that entered a method c with the receiver y
  pub record Boundary (of : Classes) (c : MethodId) (y : Value) (m : MethodId) (to : ℕ) (l s : List Value) : Type 0 where
    pub own : Method
    pub there : method_at p m ≡ Some own
    pub from : ℕ
    pub i : Instr
    pub fetched : fetch p m from ≡ Some (i, to)
    pub named : Method
    pub names : called p i ≡ Some named
    pub target : Target of own i named c y
    pub callee : Method
    pub entered : method_at p c ≡ Some callee
    pub coded : callee.built_in ≡ false
    pub static : callee.is_static ≡ named.is_static
    pub params : callee.params ≡ named.params
    pub result : callee.result ≡ named.result
    pub stack : have_types p own of (drop (taken named) (typing_at p m from).stack) s ≡ true
    pub receiver : named.is_static ≡ false → has_type p own of (first_of (drop (length named.params) (typing_at p m from).stack)) y ≡ true
    pub slots : (k : ℕ) → Holds p own of (peek (typing_at p m from).locals k) (slice_get l k)

  -- the method c took arguments of its types, the receiver y first
  pub record Entered (of : Classes) (c : MethodId) (y : Value) : Type 0 where
    pub callee : Method
    pub there : method_at p c ≡ Some callee
    pub args : List Value
    pub takes : have_types p callee of (argument_types callee) args ≡ true
    pub self : y ≡ self_of p c args

  -- how the task's own frame began: with the `execute` of a task class, on an object of that class
  pub record Bottom (of : Classes) (kept : Option ℕ) (c : MethodId) (y : Value) : Type 0 where
    pub given : kept ≡ None
    pub class : ClassId
    pub task : is_task p class ≡ true
    pub begins : execute_of p class ≡ Some c
    pub name : ℕ
    pub self : y ≡ Ref name
    pub is : of name ≡ Some (class_type class.0)

  -- of a frame of the method c with the receiver y, and of those below
  abbrev pub AllCalled : Classes → Option ℕ → MethodId → Value → List Frame → Type 0
  AllCalled of kept c y [] = is_pausable p c ≡ true → Bottom of kept c y
  AllCalled of kept c y (At m q l s x ∷ b) = ((is_pausable p c ≡ true → Boundary of c y m q l s) × Entered of c y) × AllCalled of kept m x b

abbrev pub CalledAs : Setting → Classes → Thread → Type 0
CalledAs set of (Run m p l s x b w) = AllCalled set.program of w.kept m x b
CalledAs set of (Stop o) = Unit {0}

-- it fits these classes of names; all locals are wanted
abbrev pub TypedAs : Setting → Classes → Thread → Type 0
TypedAs set of (Run m p l s x b w) = FitsAs set (typing_at set.program) (λ id at k. true) of (lone_at m p l s b w)
TypedAs set of (Stop o) = Unit {0}

-- In an accepted program, whatever a task does: each frame below one of a pausable method stands behind a call that enters this method
-- with its receiver, and fits what verification says of the call's place; each method took arguments of its types; and the last frame, of
-- a pausable method, is of the task's `execute`.
abbrev pub CallsStand : Type 0
CallsStand = (set : Setting) → IsRunOfAccepted set → (first : Thread) → IsBegun set first → (n : ℕ) → (of : Classes) × TypedAs set of (steps set n first) × CalledAs set of (steps set n first)
