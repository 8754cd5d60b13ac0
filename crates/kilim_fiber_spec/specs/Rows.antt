-- What the two programs do alike.
use Rattle.std.specs.Prelude.{codes, ◌≡◌, ◌≢◌, ℕ, zero, suc, ◌<◌, true, false, List, [], ◌∷◌, ◌++◌, Option, Some, None, length}
use Rattle.std.specs.FinMap.{get}
use Rattle.kilim_program.specs.declared.class.Method.{Method}
use Rattle.kilim_program.specs.declared.instr.Instr.{Instr}
use Rattle.kilim_program.specs.declared.ty.Base.{Base}
use Rattle.kilim_program.specs.declared.ty.Base.TheVariants as base
use Rattle.kilim_run_state.specs.declared.value.Object.{Object}
use Rattle.kilim_program.specs.declared.value.Value.{Value}
use Rattle.kilim_program.specs.declared.value.Value.TheVariants as value
use Rattle.kilim_program.specs.Program.{Program}
use Rattle.kilim_run_state.specs.Machine.{Objects}
use Rattle.kilim_program.specs.Names.{method_at}
use Rattle.kilim_program.specs.declared.instr.Instr.TheVariants.{Invokevirtual}
use Rattle.kilim_program.specs.declared.ty.Ty.{Ty}
use Rattle.kilim_program.specs.BuiltIn.{class_type}
use Rattle.kilim_program.specs.Fits.{fits_type}
use Rattle.kilim_program.specs.Members.{named_type}
use Rattle.kilim_run_machine.specs.Effect.{Effect, Goes, Makes, Opens, Calls, Asks, Returns, Raises, Throws, Ends, Stuck}
use Rattle.kilim_fiber_spec.specs.Form.{is_pausable}
use Rattle.kilim_fiber_spec.specs.Fibers.{member_of}

-- the same effect elsewhere, and with other locals
abbrev pub elsewhere : (ℕ → ℕ) → List Value → Effect → Effect
elsewhere at wl (Goes q l s heap) = Goes (at q) wl s heap
elsewhere at wl (Makes o q l s heap) = Makes o (at q) wl s heap
elsewhere at wl (Opens q l s heap) = Opens (at q) wl s heap
elsewhere at wl (Calls c args q l s heap) = Calls c args (at q) wl s heap
elsewhere at wl (Asks c args q l s heap) = Asks c args (at q) wl s heap
elsewhere at wl (Returns v heap) = Returns v heap
elsewhere at wl (Raises cause) = Raises cause
elsewhere at wl (Throws object class cause) = Throws object class cause
elsewhere at wl (Ends cause) = Ends cause
elsewhere at wl Stuck = Stuck

-- the effect of a pausable call that gets the fiber as its last argument
abbrev pub handed : ℕ → List Value → Effect → Effect
handed q wl (Calls c args p l s heap) = Calls c (args ++ value.Fiber ∷ []) q wl s heap
handed q wl (Asks c args p l s heap) = Asks c (args ++ value.Fiber ∷ []) q wl s heap
handed q wl (Raises cause) = Raises cause
handed q wl (Ends cause) = Ends cause
handed q wl effect = Stuck

-- where an effect goes on, with which locals
abbrev pub goes_to : Effect → Option (ℕ × List Value)
goes_to (Goes q l s heap) = Some (q, l)
goes_to (Makes o q l s heap) = Some (q, l)
goes_to (Opens q l s heap) = Some (q, l)
goes_to (Calls c args q l s heap) = Some (q, l)
goes_to (Asks c args q l s heap) = Some (q, l)
goes_to effect = None

-- no object of a class that the unwoven program hasn't
abbrev pub is_old_base : Program → Base → Type 0
is_old_base p (base.Class c) = c.0 < length p.classes
is_old_base p b = Unit {0}

abbrev pub OldHeap : Program → Objects → Type 0
OldHeap p heap = (n : ℕ) (o : Object) → get heap n ≡ Some o → is_old_base p o.class.base

-- no value is the fiber
abbrev pub Clean : List Value → Type 0
Clean [] = Unit {0}
Clean (v ∷ vs) = (v ≢ value.Fiber) × Clean vs

-- ---- the receiver of a call on an object

-- of which class or array type a value is, if it is of one
abbrev pub class_if : Option Object → Option Ty
class_if None = None
class_if (Some object) = Some object.class

abbrev pub value_class : Program → Value → Objects → Option Ty
value_class p (value.Ref n) heap = class_if (get heap n)
value_class p (value.Text units) heap = named_type p (codes "java/lang/String")
value_class p (value.Box box) heap = named_type p (codes "kilim/Mailbox")
value_class p v heap = None

-- the stack below so many arguments
abbrev pub below_arguments : ℕ → List Value → List Value
below_arguments zero s = s
below_arguments (suc n) [] = []
below_arguments (suc n) (v ∷ s) = below_arguments n s

-- it is of the class of the method that is named, or of a class that fits it
abbrev pub Receives : Program → Instr → List Value → Objects → Type 0
Receives p (Invokevirtual id) s heap = (a : Method) → method_at p id ≡ Some a → (v : Value) (rest : List Value) → below_arguments (length a.params) s ≡ v ∷ rest → (ty : Ty) → value_class p v heap ≡ Some ty → fits_type p ty (class_type a.owner.0) ≡ true
Receives p i s heap = Unit {0}

-- no value on the stack is the fiber, and the receiver is one of the method that is named
pub record IsClean (p : Program) (i : Instr) (s : List Value) (heap : Objects) : Type 0 where
  pub clean : Clean s
  pub receives : Receives p i s heap
