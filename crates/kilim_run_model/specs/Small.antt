-- The programs that run today: one task class, whose `execute` prints numbers.
use Rattle.std.specs.Prelude.{◌≡◌, ℕ, ◌+◌, ◌*◌, ◌<◌, ◌≤◌, ℤ, Bool, true, false, List, [], ◌∷◌, ◌++◌, Some, None, FitsSigned, map, length, codes}
use Rattle.std.specs.Int.{w8}
use Rattle.std.specs.List.{AllByRecursion}
use Rattle.kilim_run_state.specs.declared.cause.EndCause.TheVariants.{Done}
use Rattle.kilim_program.specs.declared.class.Class.{Class}
use Rattle.kilim_program.specs.declared.class.Method.{Method}
use Rattle.kilim_program.specs.declared.class.Program.{Program}
use Rattle.kilim_program.specs.declared.class.Form.TheVariants.{Plain}
use Rattle.kilim_program.specs.declared.instr.Instr.{Instr}
use Rattle.kilim_program.specs.declared.instr.Instr.TheVariants.{Aload, Bipush, Invokespecial, Invokestatic, Return}
use Rattle.kilim_program.specs.declared.ty.Qualifier.TheVariants.{Cuttable}
use Rattle.kilim_run_state.specs.declared.value.Token.TheVariants.{Int}
use Rattle.kilim_run_journal.specs.declared.entry.Act.TheVariants.{Print, End}
use Rattle.kilim_run_journal.specs.declared.entry.Entry.{Entry}
use Rattle.kilim_program.specs.BuiltIn.{class_id, method_id, built_in_classes, built_in_methods}
use Rattle.kilim_run_model.specs.State.{Setting}
use Rattle.kilim_run_model.specs.Runs.{Whole}
pub use Rattle.kilim_run_model.specs.declared.small_programs.Small.{Small}

-- the numbers of the built-in members that they call: `kilim/Task` is the fifth class behind the one of the file
abbrev pub task_class : ℕ
task_class = 5

abbrev pub task_constructor : ℕ
task_constructor = 6

abbrev pub print_int : ℕ
print_int = 15

-- aload_0, invokespecial kilim/Task.<init>()V, return
abbrev pub constructor_code : List (ℕ × Instr)
constructor_code = (0, Aload 0) ∷ (1, Invokespecial (method_id task_constructor)) ∷ (4, Return) ∷ []

-- bipush and invokestatic kilim/Sys.print(I)V for each number, and return, from a place on
abbrev pub print_code : ℕ → List ℤ → List (ℕ × Instr)
print_code at [] = (at, Return) ∷ []
print_code at (n ∷ ns) = (at, Bipush n) ∷ (at + 2, Invokestatic (method_id print_int)) ∷ print_code (at + 5) ns

-- a method of the class without parameters and result
abbrev pub small_method : List ℕ → Bool → ℕ → ℕ → ℕ → List (ℕ × Instr) → Method
small_method name pausable stack locals len code = record {
  name = name;
  owner = class_id 0;
  params = [];
  result = None;
  is_static = false;
  is_private = false;
  is_abstract = false;
  built_in = false;
  pausable = pausable;
  receiver = Cuttable;
  qualifiers = [];
  max_stack = stack;
  max_locals = locals;
  code_length = len;
  code = code;
  frames = [];
  handlers = [];
}

abbrev pub small_constructor : Small → Method
small_constructor s = small_method (codes "<init>") false s.constructor_stack s.constructor_locals 5 constructor_code

abbrev pub small_execute : Small → Method
small_execute s = small_method (codes "execute") true s.execute_stack s.execute_locals (5 * length s.prints + 1) (print_code 0 s.prints)

abbrev pub small_class : Small → Class
small_class s = record {
  name = s.name;
  superclass = Some (class_id task_class);
  is_abstract = false;
  message = false;
  fields = [];
  methods = method_id 0 ∷ method_id 1 ∷ [];
}

abbrev pub small_program : Small → Program
small_program s = record {
  classes = small_class s ∷ built_in_classes 1 2;
  methods = small_constructor s ∷ small_execute s ∷ built_in_methods 1;
  fields = [];
  form = Plain;
}

-- There is room for a word and a local at least, and the numbers are bytes.
pub record SmallFits (s : Small) : Type 0 where
  pub constructor_stack : 0 < s.constructor_stack
  pub constructor_locals : 0 < s.constructor_locals
  pub execute_stack : 0 < s.execute_stack
  pub execute_locals : 0 < s.execute_locals
  pub numbers : AllByRecursion (FitsSigned w8) s.prints

-- the program is that one
pub record IsSmallBy (p : Program) (s : Small) : Type 0 where
  pub is : p ≡ small_program s
  pub fits : SmallFits s

-- the run of that class, where a task may do so many instructions
abbrev pub small_setting : Small → ℕ → Setting
small_setting s steps = record { program = small_program s; main = class_id 0; limits = record { steps = steps; args = [] } }

abbrev pub print_entry : ℤ → Entry
print_entry n = record { task = 0; act = Print (Int n ∷ []) }

abbrev pub done_entry : Entry
done_entry = record { task = 0; act = End Done }

-- one line for each number, in order, and the end
abbrev pub small_journal : Small → List Entry
small_journal s = map print_entry s.prints ++ done_entry ∷ []

-- The constructor has three instructions, `execute` two for each number and one.
abbrev pub SmallRunIsWhole : Type 0
SmallRunIsWhole = (s : Small) (steps : ℕ) → 2 * length s.prints + 4 ≤ steps → Whole (small_setting s steps) (small_journal s)
