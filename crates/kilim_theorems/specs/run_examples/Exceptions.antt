-- Exceptions, computed: which handler catches a division by zero, and what a task does that catches none. In each the thread on a heap of its
-- own and a woven fiber do the same.
use Rattle.std.specs.Prelude.{◌≡◌, ℕ, Bool, true, false, pos, List, [], ◌∷◌, Option, Some, None, codes}
use Rattle.std.specs.FinMap.{empty, insert}
use Rattle.kilim_program.specs.declared.class.Class.{Class}
use Rattle.kilim_program.specs.declared.class.Form.TheVariants.{Plain}
use Rattle.kilim_program.specs.declared.class.Handler.{Handler}
use Rattle.kilim_program.specs.declared.class.Method.{Method}
use Rattle.kilim_program.specs.declared.instr.Instr.{Instr}
use Rattle.kilim_program.specs.declared.instr.Instr.TheVariants.{Iconst, Idiv, Invokestatic, Ireturn, Pop, Return}
use Rattle.kilim_program.specs.declared.names.ClassId.{ClassId}
use Rattle.kilim_program.specs.declared.names.MethodId.{MethodId}
use Rattle.kilim_program.specs.declared.value.Value.{Value}
use Rattle.kilim_program.specs.declared.value.Value.TheVariants.{Int, Ref}
use Rattle.kilim_program.specs.BuiltIn.{built_in_classes, built_in_fields, built_in_methods, class_id, int_type, method_id}
use Rattle.kilim_program.specs.Program.{Program}
use Rattle.kilim_run_state.specs.declared.cause.EndCause.TheVariants.{Zero}
use Rattle.kilim_run_state.specs.Machine.{Activation, Objects}
use Rattle.kilim_run_state.specs.Objects.{new_object}
use Rattle.kilim_run_model.specs.Lone.{Lone, ended, next_move}
use Rattle.kilim_run_model.specs.Lone as thread
use Rattle.kilim_run_model.specs.Small.{small_method}
use Rattle.kilim_run_model.specs.State.{Alive, Setting}
use Rattle.kilim_fiber_spec.specs.Fibers.{new_fiber}
use Rattle.kilim_fiber_laws.specs.woven_kin.Nexts.{next_of}
use Rattle.kilim_fiber_laws.specs.woven_kin.Nexts as fiber
use Rattle.kilim_fiber_laws.specs.woven_kin.Standing.{Standing}

-- ---- three methods

abbrev pub arithmetic_exception : ClassId
arithmetic_exception = class_id 11

abbrev pub null_exception : ClassId
null_exception = class_id 12

abbrev pub runtime_exception : ClassId
runtime_exception = class_id 10

abbrev pub entry : ℕ → ℕ → ℕ → Option ClassId → Handler
entry start end at catch = record { start = start; end = end; at = at; catch = catch }

abbrev pub static_method : List ℕ → ℕ → List (ℕ × Instr) → List Handler → Method
static_method name len code handlers = record (small_method name false 2 0 len code) { is_static = true; result = Some int_type; handlers = handlers }

-- 1 divided by 0, without a table
abbrev pub divides : Method
divides = static_method (codes "d") 4 ((0, Iconst (pos 1)) ∷ (1, Iconst (pos 0)) ∷ (2, Idiv) ∷ (3, Ireturn) ∷ []) []

-- It calls that. Of its entries the first doesn't have the call's place, the second catches no such object, the third does, and so would the
-- fourth.
abbrev pub calls : Method
calls =
    static_method (codes "c") 7 ((0, Invokestatic (method_id 0)) ∷ (3, Ireturn) ∷ (4, Pop) ∷ (5, Iconst (pos 7)) ∷ (6, Ireturn) ∷ [])
    (entry 3 7 5 None ∷ entry 0 3 6 (Some null_exception) ∷ entry 0 3 4 (Some runtime_exception) ∷ entry 0 7 5 None ∷ [])

-- It divides itself: the range of the first entry ends before the place, the second catches, and so would the third.
abbrev pub tries : Method
tries =
    static_method (codes "t") 6 ((0, Iconst (pos 1)) ∷ (1, Iconst (pos 0)) ∷ (2, Idiv) ∷ (3, Ireturn) ∷ (4, Iconst (pos 0)) ∷ (5, Ireturn) ∷ [])
    (entry 0 2 5 None ∷ entry 2 3 4 (Some arithmetic_exception) ∷ entry 0 4 5 None ∷ [])

abbrev pub own_class : Class
own_class = record { name = codes "A"; superclass = Some (class_id 1); is_abstract = false; message = false; fields = []; methods = method_id 0 ∷ method_id 1 ∷ method_id 2 ∷ [] }

abbrev pub dividing : Program
dividing = record { classes = own_class ∷ built_in_classes 1 3; methods = divides ∷ calls ∷ tries ∷ built_in_methods 1; fields = built_in_fields 1; form = Plain }

abbrev pub nine_steps : Setting
nine_steps = record { program = dividing; main = class_id 0; limits = record { steps = 9; args = [] } }

-- ---- a thread and a fiber that stand alike

abbrev pub frame : ℕ → ℕ → List Value → Activation
frame method place stack = record { method = method_id method; place = place; locals = []; stack = stack }

-- right before a division by zero
abbrev pub about_to : ℕ → Activation
about_to method = frame method 2 (Int (pos 0) ∷ Int (pos 1) ∷ [])

-- with an exception alone on the stack
abbrev pub with_caught : ℕ → ℕ → Activation
with_caught method place = frame method place (Ref 0 ∷ [])

abbrev pub at_thread : List Activation → Objects → ℕ → ℕ → Lone
at_thread frames heap next done = record { heap = heap; next = next; thread = Alive frames done 0; kept = None }

abbrev pub at_fiber : List Activation → Objects → ℕ → ℕ → Standing
at_fiber frames heap next done = record { frames = frames; fiber = new_fiber; heap = heap; next = next; done = done; boxes = 0; kept = None; aside = [] }

-- each instruction counts
abbrev pub all_count : List (List Bool)
all_count = (true ∷ true ∷ true ∷ true ∷ []) ∷ (true ∷ true ∷ true ∷ true ∷ true ∷ []) ∷ (true ∷ true ∷ true ∷ true ∷ true ∷ true ∷ []) ∷ []

-- the exception, and nothing else
abbrev pub one_exception : Objects
one_exception = insert empty 0 (new_object dividing arithmetic_exception)

-- both go from there to here, where the exception is there and one instruction more is done
abbrev pub BothCatch : List Activation → List Activation → Type 0
BothCatch before after =
    (next_move nine_steps 0 (at_thread before empty 0 5) ≡ thread.Goes (at_thread after one_exception 1 6))
    × (next_of nine_steps dividing all_count 0 (at_fiber before empty 0 5) ≡ fiber.Goes (at_fiber after one_exception 1 6))

-- ---- what comes of it

-- by the first entry that has the place and catches the class
abbrev pub CaughtByFirst : Type 0
CaughtByFirst = BothCatch (about_to 2 ∷ []) (with_caught 2 4 ∷ [])

-- through a frame without a table, which is dropped; frames below the one that catches stay
abbrev pub CaughtBelow : Type 0
CaughtBelow = BothCatch (about_to 0 ∷ frame 1 3 [] ∷ []) (with_caught 1 4 ∷ []) × BothCatch (about_to 0 ∷ frame 1 3 [] ∷ frame 1 3 [] ∷ []) (with_caught 1 4 ∷ frame 1 3 [] ∷ [])

-- nothing catches: the task ends with the cause, and no object is made
abbrev pub Uncaught : Type 0
Uncaught =
    (next_move nine_steps 0 (at_thread (about_to 0 ∷ []) empty 0 5) ≡ thread.Ends Zero (ended (at_thread (about_to 0 ∷ []) empty 0 5) Zero))
    × (next_of nine_steps dividing all_count 0 (at_fiber (about_to 0 ∷ []) empty 0 5) ≡ fiber.Ends Zero)

pub record ExceptionsLand : Type 0 where
  pub caught_by_first : CaughtByFirst
  pub caught_below : CaughtBelow
  pub uncaught : Uncaught
