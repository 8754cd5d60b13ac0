-- Examples: two small programs, and the first of them woven.
use Rattle.std.specs.Prelude.{ℕ, ◌+◌, Bool, true, false, ◌||◌, ◌&&◌, ◌==◌, nat_lt, nat_le, if◌then◌else◌, pos, List, [], ◌∷◌, ◌++◌, Some, None, codes, map}
use Rattle.kilim_program.specs.declared.class.Class.{Class}
use Rattle.kilim_program.specs.declared.class.Form.TheVariants.{Plain, Woven}
use Rattle.kilim_program.specs.declared.class.Method.{Method}
use Rattle.kilim_program.specs.declared.instr.Instr.{Instr}
use Rattle.kilim_program.specs.declared.instr.Instr.TheVariants.{Bipush, Ldc2W, Iconst, New, Dup, Invokespecial, Invokestatic, Invokevirtual, Iload, Aload, Istore, Astore, Putfield, Getfield, L2i, Ifeq, Goto, Tableswitch, Checkcast, Return}
use Rattle.kilim_program.specs.declared.names.MethodId.{MethodId}
use Rattle.kilim_program.specs.declared.ty.Qualifier.TheVariants.{Cuttable, Safe}
use Rattle.kilim_program.specs.declared.value.Value.TheVariants.{Long as LongValue}
use Rattle.kilim_program.specs.declared.verified.Frame.{Frame}
use Rattle.kilim_program.specs.declared.verified.VType.{VType}
use Rattle.kilim_program.specs.declared.verified.VType.TheVariants.{Top, Int, Long, Object}
use Rattle.kilim_program.specs.Program.{Program}
use Rattle.kilim_program.specs.BuiltIn.{class_id, class_type, int_type, method_id, built_in_classes_in, built_in_fields, built_in_methods_in}
use Rattle.kilim_weave_spec.specs.Woven.{Plan}
use Rattle.kilim_weave_spec.specs.Form.{plan_of}

abbrev pub sample_class : List ℕ → ℕ → Bool → List MethodId → Class
sample_class name up message methods =
    record { name = name; superclass = Some (class_id up); is_abstract = false; message = message; fields = []; methods = methods }

-- a method without arguments and result
abbrev pub sample_method : List ℕ → ℕ → Bool → (max_stack max_locals code_length : ℕ) → List (ℕ × Instr) → List (ℕ × Frame) → Method
sample_method name owner pausable max_stack max_locals code_length code frames =
    record { name = name; owner = class_id owner; params = []; result = None; is_static = false; is_private = false; is_abstract = false; built_in = false; pausable = pausable; receiver = Cuttable; qualifiers = []; max_stack = max_stack; max_locals = max_locals; code_length = code_length; code = code; frames = frames; handlers = [] }

abbrev pub sample_constructor : ℕ → (calls : ℕ) → Method
sample_constructor owner calls =
    sample_method (codes "<init>") owner false 1 1 5 ((0, Aload 0) ∷ (1, Invokespecial (method_id calls)) ∷ (4, Return) ∷ []) []

abbrev pub of_class : ℕ → VType
of_class n = Object (class_type n)

-- ---- a loop of one `yield`

-- the class T, a task, then the built-in classes from 1 on. Its methods: 0 the constructor, 1 `execute`; then the built-in ones from 2
-- on, of which 6 is the task's constructor and 18 is `yield`
abbrev pub loop_execute : Method
loop_execute =
    sample_method (codes "execute") 0 true 0 1 6
    ((0, Invokestatic (method_id 18)) ∷ (3, Goto 0) ∷ [])
    ((0, record { locals = of_class 0 ∷ []; stack = [] }) ∷ [])

abbrev pub loop : Program
loop = record {
  classes = sample_class (codes "T") 5 false (method_id 0 ∷ method_id 1 ∷ []) ∷ built_in_classes_in Plain 1 2;
  methods = sample_constructor 0 6 ∷ loop_execute ∷ built_in_methods_in Plain 1;
  fields = built_in_fields 1;
  form = Plain;
}

-- nothing is live: the local of `this` is never read
abbrev pub loop_plan : Plan
loop_plan = plan_of loop loop_execute (λ place slot. false) (λ place. if nat_lt place 3 then place + 28 else place + 46) (λ number. 52)

abbrev pub no_old_locals : Frame
no_old_locals = record { locals = Top ∷ Top ∷ of_class 19 ∷ of_class 0 ∷ []; stack = [] }

-- `execute`, woven: the fiber's members are the methods from 33 on
abbrev pub woven_loop_execute : Method
woven_loop_execute = record (sample_method (codes "execute") 0 true 4 4 55
    ((0, Aload 1) ∷ (1, Astore 2) ∷ (2, Aload 0) ∷ (3, Astore 3)
    ∷ (4, Aload 2) ∷ (5, Invokevirtual (method_id 45)) ∷ (8, Tableswitch 28 (pos 1) (52 ∷ []))
    ∷ (28, Aload 2) ∷ (29, Invokevirtual (method_id 46)) ∷ (32, Invokestatic (method_id 18))
    ∷ (35, Aload 2) ∷ (36, Invokevirtual (method_id 47)) ∷ (39, Ifeq 49)
    ∷ (42, Iconst (pos 1)) ∷ (43, Aload 3) ∷ (44, Aload 2) ∷ (45, Invokestatic (method_id 51)) ∷ (48, Return)
    ∷ (49, Goto 28)
    ∷ (52, Goto 28)
    ∷ [])
    ((28, no_old_locals) ∷ (49, no_old_locals) ∷ (52, no_old_locals) ∷ []))
    { params = class_type 19 ∷ []; qualifiers = Safe ∷ [] }

abbrev pub woven_loop : Program
woven_loop = record {
  classes = sample_class (codes "T") 5 false (method_id 0 ∷ method_id 1 ∷ []) ∷ built_in_classes_in Woven 1 2;
  methods = sample_constructor 0 6 ∷ woven_loop_execute ∷ built_in_methods_in Woven 1;
  fields = built_in_fields 1;
  form = Woven;
}

-- of `execute` the call and the old jump count
abbrev pub loop_marks : List Bool
loop_marks = false ∷ false ∷ false ∷ false ∷ false ∷ false ∷ false ∷ false ∷ false ∷ true ∷ false ∷ false ∷ false ∷ false ∷ false ∷ false ∷ false ∷ false ∷ true ∷ false ∷ []

-- built-in methods have no instructions
abbrev pub woven_loop_marks : List (List Bool)
woven_loop_marks = (true ∷ true ∷ true ∷ []) ∷ loop_marks ∷ map (λ m. []) (built_in_methods_in Woven 1)

-- ---- values across a pause

-- the classes A, a task, and N, a message, then the built-in ones from 2 on; N's field 0 is an int. The methods: 0 A's constructor,
-- 1 `execute`, 2 N's constructor; then the built-in ones from 3 on: 16 prints an int, 19 is `yield`
abbrev pub values_execute : Method
values_execute =
    sample_method (codes "execute") 0 true 5 4 43
    ((0, Bipush (pos 8)) ∷ (2, Ldc2W (LongValue (pos 7)))
    ∷ (5, New (class_id 1)) ∷ (8, Dup) ∷ (9, Invokespecial (method_id 2)) ∷ (12, Astore 3)
    ∷ (13, Aload 3) ∷ (14, Bipush (pos 6)) ∷ (16, Putfield (record { 0 = 1 }))
    ∷ (19, Iconst (pos 5)) ∷ (20, Istore 1)
    ∷ (21, Invokestatic (method_id 19))
    ∷ (24, Iload 1) ∷ (25, Invokestatic (method_id 16))
    ∷ (28, Aload 3) ∷ (29, Getfield (record { 0 = 1 })) ∷ (32, Invokestatic (method_id 16))
    ∷ (35, L2i) ∷ (36, Invokestatic (method_id 16))
    ∷ (39, Invokestatic (method_id 16))
    ∷ (42, Return)
    ∷ [])
    []

abbrev pub values : Program
values = record {
  classes = sample_class (codes "A") 6 false (method_id 0 ∷ method_id 1 ∷ []) ∷ record (sample_class (codes "N") 2 true (method_id 2 ∷ [])) { fields = record { 0 = 1 } ∷ [] } ∷ built_in_classes_in Plain 2 3;
  methods = sample_constructor 0 7 ∷ values_execute ∷ sample_constructor 1 3 ∷ built_in_methods_in Plain 2;
  fields = built_in_fields 2 ++ record { name = codes "v"; ty = int_type; owner = class_id 1; is_static = false; is_private = false; constant = None } ∷ [];
  form = Plain;
}

-- local 1 is written at 20 and read at 24, local 3 is written at 12 and read at 28 for the last time
abbrev pub values_live : ℕ → ℕ → Bool
values_live place slot = (slot == 1 && (nat_lt 20 place && nat_le place 24)) || (slot == 3 && (nat_lt 12 place && nat_le place 28))

abbrev pub values_plan : Plan
values_plan = plan_of values values_execute values_live (λ place. if nat_lt place 24 then place + 28 else place + 72) (λ number. 115)

-- `execute`, woven: an int and a long are below the call, an int and an object in locals. The fiber's members are the methods from 34 on.
abbrev pub woven_values : List (ℕ × Instr)
woven_values =
    (0, Aload 1) ∷ (1, Astore 4) ∷ (3, Aload 0) ∷ (4, Astore 5)
    ∷ (6, Aload 4) ∷ (8, Invokevirtual (method_id 46)) ∷ (11, Tableswitch 28 (pos 1) (115 ∷ []))
    ∷ (28, Bipush (pos 8)) ∷ (30, Ldc2W (LongValue (pos 7)))
    ∷ (33, New (class_id 1)) ∷ (36, Dup) ∷ (37, Invokespecial (method_id 2)) ∷ (40, Astore 3)
    ∷ (41, Aload 3) ∷ (42, Bipush (pos 6)) ∷ (44, Putfield (record { 0 = 1 }))
    ∷ (47, Iconst (pos 5)) ∷ (48, Istore 1)
    ∷ (49, Aload 4) ∷ (51, Invokevirtual (method_id 47)) ∷ (54, Invokestatic (method_id 19))
    ∷ (57, Aload 4) ∷ (59, Invokevirtual (method_id 48)) ∷ (62, Ifeq 96)
    ∷ (65, Aload 4) ∷ (67, Invokestatic (method_id 50))
    ∷ (70, Aload 4) ∷ (72, Invokestatic (method_id 49))
    ∷ (75, Iload 1) ∷ (76, Aload 4) ∷ (78, Invokestatic (method_id 49))
    ∷ (81, Aload 3) ∷ (82, Aload 4) ∷ (84, Invokestatic (method_id 51))
    ∷ (87, Iconst (pos 1)) ∷ (88, Aload 5) ∷ (90, Aload 4) ∷ (92, Invokestatic (method_id 52)) ∷ (95, Return)
    ∷ (96, Iload 1) ∷ (97, Invokestatic (method_id 16))
    ∷ (100, Aload 3) ∷ (101, Getfield (record { 0 = 1 })) ∷ (104, Invokestatic (method_id 16))
    ∷ (107, L2i) ∷ (108, Invokestatic (method_id 16))
    ∷ (111, Invokestatic (method_id 16))
    ∷ (114, Return)
    ∷ (115, Aload 4) ∷ (117, Invokevirtual (method_id 55)) ∷ (120, Checkcast (class_type 1)) ∷ (123, Astore 3)
    ∷ (124, Aload 4) ∷ (126, Invokevirtual (method_id 53)) ∷ (129, Istore 1)
    ∷ (130, Aload 4) ∷ (132, Invokevirtual (method_id 53))
    ∷ (135, Aload 4) ∷ (137, Invokevirtual (method_id 54))
    ∷ (140, Goto 49)
    ∷ []

abbrev pub values_frame : List VType → List VType → Frame
values_frame old stack = record { locals = old ++ (of_class 20 ∷ of_class 0 ∷ []); stack = stack }

abbrev pub woven_values_frames : List (ℕ × Frame)
woven_values_frames =
    (28, values_frame (Top ∷ Top ∷ Top ∷ Top ∷ []) [])
    ∷ (49, values_frame (Top ∷ Int ∷ Top ∷ of_class 1 ∷ []) (Int ∷ Long ∷ []))
    ∷ (96, values_frame (Top ∷ Int ∷ Top ∷ of_class 1 ∷ []) (Int ∷ Long ∷ []))
    ∷ (115, values_frame (Top ∷ Top ∷ Top ∷ Top ∷ []) [])
    ∷ []
