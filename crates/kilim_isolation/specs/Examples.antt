-- Worked examples, computed: what the paths of small methods give.
use Rattle.std.specs.Prelude.{◌≡◌, ℕ, Bool, true, false, List, [], ◌∷◌, ◌++◌, Some, None, Result, Ok, Err, codes, pos, map, slice_get}
use Rattle.kilim_program.specs.declared.class.Class.{Class}
use Rattle.kilim_program.specs.declared.class.Field.{Field}
use Rattle.kilim_program.specs.declared.class.Form.TheVariants.{Plain}
use Rattle.kilim_program.specs.declared.class.Handler.{Handler}
use Rattle.kilim_program.specs.declared.class.Method.{Method}
use Rattle.kilim_program.specs.declared.instr.Instr.{Instr}
use Rattle.kilim_program.specs.declared.instr.Instr.TheVariants.{AconstNull, Iconst, Aload, Iload, Astore, Dup, Getfield, Putfield, Invokevirtual, Invokespecial, Invokestatic, New, Return}
use Rattle.kilim_program.specs.declared.names.FieldId.{FieldId}
use Rattle.kilim_program.specs.declared.names.MethodId.{MethodId}
use Rattle.kilim_program.specs.declared.ty.Ty.{Ty}
use Rattle.kilim_program.specs.declared.ty.Qualifier.{Qualifier}
use Rattle.kilim_program.specs.declared.ty.Qualifier.TheVariants.{Cuttable, Free, Safe}
use Rattle.kilim_program.specs.declared.verified.Frame.{Frame}
use Rattle.kilim_program.specs.declared.verified.VType.TheVariants.{Object}
use Rattle.kilim_program.specs.Program.{Program}
use Rattle.kilim_program.specs.BuiltIn.{class_id, method_id, class_type, int_type, built_in_classes, built_in_fields, built_in_methods}
use Rattle.kilim_type_spec.specs.Typed.{frames_of, listed}
use Rattle.kilim_isolation_paths.specs.Folds.{folded}
use Rattle.kilim_isolation_paths.specs.declared.machine.Exit.{Exit}
use Rattle.kilim_isolation_paths.specs.declared.machine.Exit.TheVariants as exit
use Rattle.kilim_isolation_paths.specs.Paths.{Machine}
use Rattle.kilim_isolation_graph.specs.declared.graph.Graph.{Graph}
use Rattle.kilim_isolation.specs.Walks.{entry_graph, machine_of}

-- the graph at the last place of a path, or the place and the rule of the first fault
abbrev pub Walked : Type 0
Walked = Result (ℕ × Graph) (ℕ × ℕ)

-- with the step out of the last place, where that is a return
abbrev pub with_last : Machine Graph → Walked → Walked
with_last m (Err e) = Err e
with_last m (Ok last) = elim (m.moves last.0 last.1 (exit.To None)) [ Ok g ↦ Ok last | Err n ↦ Err (last.0, n) ]

abbrev pub walked_from : Program → Method → List (Exit × ℕ) → Result Graph ℕ → Walked
walked_from p m rest (Err n) = Err (0, n)
walked_from p m rest (Ok g) = folded (machine_of p m (map (listed m) (frames_of p m)) g) 0 g rest

-- a path of a method, by the method's number, with the edge to each place; it begins at place 0
abbrev pub along_edges : Program → ℕ → List (Exit × ℕ) → Walked
along_edges p k rest = elim (slice_get p.methods k) [ None ↦ Err (0, 0) | Some m ↦ walked_from p m rest (entry_graph p m) ]

-- where each instruction is done
abbrev pub goes : List ℕ → List (Exit × ℕ)
goes rest = map (λ n. (exit.To (Some n), n)) rest

abbrev pub along : Program → ℕ → List ℕ → Walked
along p k rest = along_edges p k (goes rest)

abbrev pub field_id : ℕ → FieldId
field_id n = record { 0 = n }

abbrev pub is_ok : Walked → Bool
is_ok (Ok g) = true
is_ok (Err e) = false

-- classes T (0), M (1) and N (2), the built-in ones from 3 on; methods: of T the constructor (0), execute (1), g (2) and
-- h (3), of M the constructor (4), of N the constructor (5), the built-in ones from 6 on
abbrev pub class : List ℕ → ℕ → Bool → List FieldId → List MethodId → Class
class name up message fields methods = record { name = name; superclass = Some (class_id up); is_abstract = false; message = message; fields = fields; methods = methods }

abbrev pub own_classes : List Class
own_classes =
    class (codes "T") 7 false (field_id 1 ∷ []) (method_id 0 ∷ method_id 1 ∷ method_id 2 ∷ method_id 3 ∷ [])
    ∷ class (codes "M") 3 true (field_id 2 ∷ []) (method_id 4 ∷ [])
    ∷ class (codes "N") 3 true (field_id 3 ∷ field_id 4 ∷ []) (method_id 5 ∷ [])
    ∷ []

abbrev pub field : List ℕ → Ty → ℕ → Field
field name ty owner = record { name = name; ty = ty; owner = class_id owner; is_static = false; is_private = false; constant = None }

abbrev pub own_fields : List Field
own_fields = field (codes "box") (class_type 8) 0 ∷ field (codes "v") int_type 1 ∷ field (codes "f") (class_type 2) 2 ∷ field (codes "v") int_type 2 ∷ []

abbrev pub method : List ℕ → ℕ → Bool → List Ty → Qualifier → List Qualifier → ℕ → List (ℕ × Instr) → Method
method name owner is_static params receiver qualifiers end code = record {
  name = name;
  owner = class_id owner;
  params = params;
  result = None;
  is_static = is_static;
  is_private = false;
  is_abstract = false;
  built_in = false;
  pausable = false;
  receiver = receiver;
  qualifiers = qualifiers;
  max_stack = 4;
  max_locals = 8;
  code_length = end;
  code = code;
  frames = [];
  handlers = [];
}

abbrev pub methods : ℕ → List (ℕ × Instr) → ℕ → List (ℕ × Instr) → List Method
methods execute_end execute g_end g =
    method (codes "<init>") 0 false [] Cuttable [] 5 ((0, Aload 0) ∷ (1, Invokespecial (method_id 10)) ∷ (4, Return) ∷ [])
    ∷ method (codes "execute") 0 false [] Cuttable [] execute_end execute
    ∷ method (codes "g") 0 true (class_type 2 ∷ []) Safe (Cuttable ∷ []) g_end g
    ∷ method (codes "h") 0 true (class_type 2 ∷ class_type 2 ∷ []) Safe (Cuttable ∷ Safe ∷ []) 1 ((0, Return) ∷ [])
    ∷ method (codes "<init>") 1 false (int_type ∷ []) Cuttable (Safe ∷ []) 10 ((0, Aload 0) ∷ (1, Invokespecial (method_id 6)) ∷ (4, Aload 0) ∷ (5, Iload 1) ∷ (6, Putfield (field_id 2)) ∷ (9, Return) ∷ [])
    ∷ method (codes "<init>") 2 false [] Cuttable [] 5 ((0, Aload 0) ∷ (1, Invokespecial (method_id 6)) ∷ (4, Return) ∷ [])
    ∷ built_in_methods 3

abbrev pub program : ℕ → List (ℕ × Instr) → ℕ → List (ℕ × Instr) → Program
program execute_end execute g_end g = record { classes = own_classes ++ built_in_classes 3 6; methods = methods execute_end execute g_end g; fields = built_in_fields 3 ++ own_fields; form = Plain }

abbrev pub none : List (ℕ × Instr)
none = (0, Return) ∷ []

abbrev pub code_put_then_use : List (ℕ × Instr)
code_put_then_use = (0, New (class_id 1)) ∷ (3, Dup) ∷ (4, Iconst (pos 1)) ∷ (5, Invokespecial (method_id 4)) ∷ (8, Astore 1) ∷ (9, Aload 0) ∷ (10, Getfield (field_id 1)) ∷ (13, Aload 1) ∷ (14, Invokevirtual (method_id 15)) ∷ (17, Aload 1) ∷ (18, Getfield (field_id 2)) ∷ (21, Invokestatic (method_id 19)) ∷ (24, Return) ∷ []

abbrev pub run_put_then_use : Walked
run_put_then_use = along (program 25 code_put_then_use 1 none) 1 (3 ∷ 4 ∷ 5 ∷ 8 ∷ 9 ∷ 10 ∷ 13 ∷ 14 ∷ 17 ∷ 18 ∷ [])

abbrev pub code_second_name : List (ℕ × Instr)
code_second_name = (0, New (class_id 2)) ∷ (3, Dup) ∷ (4, Invokespecial (method_id 5)) ∷ (7, Astore 1) ∷ (8, Aload 1) ∷ (9, Getfield (field_id 3)) ∷ (12, Astore 2) ∷ (13, Aload 1) ∷ (14, Getfield (field_id 3)) ∷ (17, Astore 3) ∷ (18, Aload 1) ∷ (19, AconstNull) ∷ (20, Putfield (field_id 3)) ∷ (23, Aload 0) ∷ (24, Getfield (field_id 1)) ∷ (27, Aload 2) ∷ (28, Invokevirtual (method_id 15)) ∷ (31, Aload 3) ∷ (32, Getfield (field_id 4)) ∷ (35, Invokestatic (method_id 19)) ∷ (38, Return) ∷ []

abbrev pub run_second_name : Walked
run_second_name = along (program 39 code_second_name 1 none) 1 (3 ∷ 4 ∷ 7 ∷ 8 ∷ 9 ∷ 12 ∷ 13 ∷ 14 ∷ 17 ∷ 18 ∷ 19 ∷ 20 ∷ 23 ∷ 24 ∷ 27 ∷ 28 ∷ 31 ∷ 32 ∷ [])

abbrev pub code_cut_and_put : List (ℕ × Instr)
code_cut_and_put = (0, New (class_id 2)) ∷ (3, Dup) ∷ (4, Invokespecial (method_id 5)) ∷ (7, Astore 1) ∷ (8, Aload 1) ∷ (9, Getfield (field_id 3)) ∷ (12, Astore 2) ∷ (13, Aload 2) ∷ (14, Getfield (field_id 3)) ∷ (17, Astore 3) ∷ (18, Aload 2) ∷ (19, AconstNull) ∷ (20, Putfield (field_id 3)) ∷ (23, Aload 1) ∷ (24, Aload 3) ∷ (25, Putfield (field_id 3)) ∷ (28, Aload 0) ∷ (29, Getfield (field_id 1)) ∷ (32, Aload 2) ∷ (33, Invokevirtual (method_id 15)) ∷ (36, Return) ∷ []

abbrev pub run_cut_and_put : Walked
run_cut_and_put = along (program 37 code_cut_and_put 1 none) 1 (3 ∷ 4 ∷ 7 ∷ 8 ∷ 9 ∷ 12 ∷ 13 ∷ 14 ∷ 17 ∷ 18 ∷ 19 ∷ 20 ∷ 23 ∷ 24 ∷ 25 ∷ 28 ∷ 29 ∷ 32 ∷ 33 ∷ 36 ∷ [])

abbrev pub code_into_itself : List (ℕ × Instr)
code_into_itself = (0, New (class_id 2)) ∷ (3, Dup) ∷ (4, Invokespecial (method_id 5)) ∷ (7, Astore 1) ∷ (8, Aload 1) ∷ (9, Aload 1) ∷ (10, Putfield (field_id 3)) ∷ (13, Return) ∷ []

abbrev pub run_into_itself : Walked
run_into_itself = along (program 14 code_into_itself 1 none) 1 (3 ∷ 4 ∷ 7 ∷ 8 ∷ 9 ∷ 10 ∷ 13 ∷ [])

abbrev pub code_cuttable_stored : List (ℕ × Instr)
code_cuttable_stored = (0, New (class_id 2)) ∷ (3, Dup) ∷ (4, Invokespecial (method_id 5)) ∷ (7, Astore 1) ∷ (8, Aload 1) ∷ (9, Aload 0) ∷ (10, Putfield (field_id 3)) ∷ (13, Return) ∷ []

abbrev pub run_cuttable_stored : Walked
run_cuttable_stored = along (program 1 none 14 code_cuttable_stored) 2 (3 ∷ 4 ∷ 7 ∷ 8 ∷ 9 ∷ 10 ∷ 13 ∷ [])

abbrev pub code_passed_twice : List (ℕ × Instr)
code_passed_twice = (0, New (class_id 2)) ∷ (3, Dup) ∷ (4, Invokespecial (method_id 5)) ∷ (7, Astore 1) ∷ (8, Aload 1) ∷ (9, Aload 1) ∷ (10, Invokestatic (method_id 3)) ∷ (13, Return) ∷ []

abbrev pub run_passed_twice : Walked
run_passed_twice = along (program 14 code_passed_twice 1 none) 1 (3 ∷ 4 ∷ 7 ∷ 8 ∷ 9 ∷ 10 ∷ 13 ∷ [])

abbrev pub code_new_message : List (ℕ × Instr)
code_new_message = (0, New (class_id 1)) ∷ (3, Dup) ∷ (4, Iconst (pos 1)) ∷ (5, Invokespecial (method_id 4)) ∷ (8, Astore 1) ∷ (9, Aload 0) ∷ (10, Getfield (field_id 1)) ∷ (13, Aload 1) ∷ (14, Invokevirtual (method_id 15)) ∷ (17, New (class_id 1)) ∷ (20, Dup) ∷ (21, Iconst (pos 2)) ∷ (22, Invokespecial (method_id 4)) ∷ (25, Astore 1) ∷ (26, Aload 1) ∷ (27, Getfield (field_id 2)) ∷ (30, Invokestatic (method_id 19)) ∷ (33, Return) ∷ []

abbrev pub run_new_message : Walked
run_new_message = along (program 34 code_new_message 1 none) 1 (3 ∷ 4 ∷ 5 ∷ 8 ∷ 9 ∷ 10 ∷ 13 ∷ 14 ∷ 17 ∷ 20 ∷ 21 ∷ 22 ∷ 25 ∷ 26 ∷ 27 ∷ 30 ∷ 33 ∷ [])

-- ---- handlers

-- the second method, `execute`, has these frames and this exception table
abbrev pub in_second : List (ℕ × Frame) → List Handler → List Method → List Method
in_second frames handlers (a ∷ b ∷ ms) = a ∷ record b { frames = frames; handlers = handlers } ∷ ms
in_second frames handlers ms = ms

abbrev pub catching : List (ℕ × Frame) → List Handler → Program → Program
catching frames handlers p = record p { methods = in_second frames handlers p.methods }

-- A message is put in the range of a handler that reads it.
abbrev pub code_put_and_catch : List (ℕ × Instr)
code_put_and_catch = (0, New (class_id 1)) ∷ (3, Dup) ∷ (4, Iconst (pos 1)) ∷ (5, Invokespecial (method_id 4)) ∷ (8, Astore 1) ∷ (9, Aload 0) ∷ (10, Getfield (field_id 1)) ∷ (13, Aload 1) ∷ (14, Invokevirtual (method_id 15)) ∷ (17, Return) ∷ (18, Astore 2) ∷ (19, Aload 1) ∷ (20, Getfield (field_id 2)) ∷ (23, Invokestatic (method_id 19)) ∷ (26, Return) ∷ []

abbrev pub program_put_and_catch : Program
program_put_and_catch =
    catching ((18, record { locals = Object (class_type 0) ∷ Object (class_type 1) ∷ []; stack = Object (class_type 3) ∷ [] }) ∷ []) (record { start = 9; end = 17; at = 18; catch = None } ∷ []) (program 27 code_put_and_catch 1 none)

-- the put raises: what was given is gone, in the handler too
abbrev pub run_put_raises : Walked
run_put_raises = along_edges program_put_and_catch 1 (goes (3 ∷ 4 ∷ 5 ∷ 8 ∷ 9 ∷ 10 ∷ 13 ∷ 14 ∷ []) ++ ((exit.Handler 18, 18) ∷ goes (19 ∷ 20 ∷ [])))

-- the instruction before it raises
abbrev pub run_caught_before : Walked
run_caught_before = along_edges program_put_and_catch 1 (goes (3 ∷ 4 ∷ 5 ∷ 8 ∷ 9 ∷ 10 ∷ 13 ∷ []) ++ ((exit.Handler 18, 18) ∷ goes (19 ∷ 20 ∷ 23 ∷ 26 ∷ [])))

-- A constructor of N stores its free parameter below its receiver, and calls the constructor of `java/lang/Object` with it.
abbrev pub in_sixth : Method → List Method → List Method
in_sixth m (a ∷ b ∷ c ∷ d ∷ e ∷ f ∷ ms) = a ∷ b ∷ c ∷ d ∷ e ∷ m ∷ ms
in_sixth m ms = ms

abbrev pub code_super_cuts : List (ℕ × Instr)
code_super_cuts = (0, Aload 0) ∷ (1, Aload 1) ∷ (2, Putfield (field_id 3)) ∷ (5, Aload 0) ∷ (6, Invokespecial (method_id 6)) ∷ (9, Aload 1) ∷ (10, Getfield (field_id 4)) ∷ (13, Invokestatic (method_id 19)) ∷ (16, Return) ∷ []

abbrev pub program_super_cuts : Program
program_super_cuts =
    let p = program 1 none 1 none in
    record p { methods = in_sixth (method (codes "<init>") 2 false (class_type 2 ∷ []) Cuttable (Free ∷ []) 17 code_super_cuts) p.methods }

abbrev pub run_super_cuts : Walked
run_super_cuts = along program_super_cuts 5 (1 ∷ 2 ∷ 5 ∷ 6 ∷ 9 ∷ 10 ∷ [])

-- what they say: a message put and used, the second name of a cut child, a child cut and put, a root into itself, a cuttable
-- parameter into a new object, one object passed as cuttable and safe, a variable with a new message; a put that raises, and what is
-- raised before it; what lay below the receiver of a call of `super`
pub record ExamplesHold : Type 0 where
  pub put_then_use : run_put_then_use ≡ Err (17, 2)
  pub second_name : run_second_name ≡ Err (31, 2)
  pub cut_and_put : is_ok run_cut_and_put ≡ true
  pub into_itself : run_into_itself ≡ Err (10, 4)
  pub cuttable_stored : run_cuttable_stored ≡ Err (10, 1)
  pub passed_twice : run_passed_twice ≡ Err (10, 5)
  pub new_message : is_ok run_new_message ≡ true
  pub put_raises : run_put_raises ≡ Err (19, 2)
  pub caught_before : is_ok run_caught_before ≡ true
  pub super_cuts : run_super_cuts ≡ Err (9, 2)
