-- Examples, computed: which types are assignable, what single instructions make of types, and the first faults of small methods. Each
-- rule stands beside a near miss that passes.
use Rattle.std.specs.Prelude.{◌≡◌, ℕ, ◌+◌, Bool, true, false, pos, List, [], ◌∷◌, ◌++◌, Option, Some, None, Result, Ok, codes, length, map}
use Rattle.kilim_program.specs.declared.class.Handler.{Handler}
use Rattle.kilim_program.specs.declared.class.Method.{Method}
use Rattle.kilim_program.specs.declared.instr.Instr.{Instr}
use Rattle.kilim_program.specs.declared.instr.Instr.TheVariants.{Nop, Iconst, Lconst, Ldc, Ldc2W, Iload, Lload, Aload, Istore, Lstore, Astore, Iaload, Aaload, Aastore, Pop, Pop2, Dup, DupX1, DupX2, Dup2, Swap, Iadd, Ladd, Lshl, Iinc, I2l, IfAcmpeq, Ifeq, Goto, Ireturn, Areturn, Return, Getfield, Putfield, Getstatic, Invokevirtual, Invokespecial, Invokestatic, New, Anewarray, Checkcast, Ifnull}
use Rattle.kilim_program.specs.declared.names.ClassId.{ClassId}
use Rattle.kilim_program.specs.declared.ty.Base.TheVariants as base
use Rattle.kilim_program.specs.declared.value.Value.TheVariants.{Int as IntValue, Long as LongValue, Text}
use Rattle.kilim_program.specs.declared.verified.Frame.{Frame}
use Rattle.kilim_program.specs.declared.verified.VType.{VType}
use Rattle.kilim_program.specs.declared.verified.VType.TheVariants.{Top, Int, Long, Null, UninitThis, Uninit}
use Rattle.kilim_program.specs.Program.{Program}
use Rattle.kilim_program.specs.BuiltIn.{class_id, class_type, method_id}
use Rattle.kilim_type_spec.specs.Step.{Types, assignable, type_step}
use Rattle.kilim_type_spec.specs.Typed.{Live, listed, frames_of}
use Rattle.kilim_type_spec.specs.Faults.{rule_of, method_fault}
use Rattle.kilim_type_spec.specs.Samples.{own_methods, sample_class, m_class, n_class, p_class, q_class, object_class, string_class, message_class, sample, of_class, array, classes_array, with_code}

-- ---- assignability

abbrev pub assigns : VType × VType → Bool
assigns pair = assignable sample pair.0 pair.1

abbrev pub assigned : List (VType × VType)
assigned =
    (Int, Int) ∷ (Int, Top) ∷ (Long, Long) ∷ (Null, Null) ∷ (UninitThis, Top) ∷ (Uninit 3, Uninit 3) ∷ (UninitThis, UninitThis)
    ∷ (Null, of_class m_class) ∷ (Null, array 1 base.Int)
    ∷ (of_class n_class, of_class n_class) ∷ (of_class n_class, of_class m_class) ∷ (of_class n_class, of_class object_class)
    ∷ (of_class n_class, of_class message_class) ∷ (of_class message_class, of_class object_class)
    ∷ (array 1 base.Int, array 1 base.Int) ∷ (array 1 base.Int, of_class object_class) ∷ (array 2 base.Int, classes_array 1 object_class)
    ∷ (classes_array 1 n_class, classes_array 1 m_class) ∷ (classes_array 2 n_class, classes_array 2 message_class) ∷ (classes_array 3 p_class, classes_array 2 object_class)
    ∷ []

abbrev pub not_assigned : List (VType × VType)
not_assigned =
    (Int, Long) ∷ (Top, Int) ∷ (Long, Int) ∷ (Int, Null) ∷ (UninitThis, of_class p_class) ∷ (Uninit 3, Uninit 4) ∷ (Uninit 3, of_class m_class)
    ∷ (of_class m_class, Null) ∷ (Null, Int)
    ∷ (of_class m_class, of_class n_class) ∷ (of_class p_class, of_class m_class) ∷ (of_class object_class, of_class n_class)
    ∷ (of_class p_class, of_class message_class) ∷ (of_class object_class, of_class message_class)
    ∷ (array 1 base.Int, array 1 base.Long) ∷ (array 1 base.Int, of_class message_class) ∷ (array 1 base.Int, classes_array 1 object_class)
    ∷ (classes_array 1 m_class, classes_array 1 n_class) ∷ (classes_array 1 n_class, classes_array 2 m_class) ∷ (of_class object_class, classes_array 1 object_class)
    ∷ []

-- ---- single instructions

abbrev pub types : List VType → List VType → Types
types locals stack = record { locals = locals; stack = stack; unset = false }

-- in the method `run` of P, with four words of stack and three locals, whose code makes an M at place 3
abbrev pub host : Method
host = with_code ((0, Nop) ∷ (3, New (class_id m_class)) ∷ []) 6 []

-- the rule that fails; the stack is given from the top
abbrev pub breaks : Instr × Types → Option ℕ
breaks e = rule_of (type_step sample host 3 e.0 e.1)

abbrev pub on : Instr → List VType → Instr × Types
on i stack = (i, types [] stack)

abbrev pub with_locals : Instr → List VType → List VType → Instr × Types
with_locals i locals stack = (i, types locals stack)

abbrev pub passing : List (Instr × Types)
passing =
    on Iadd (Int ∷ Int ∷ []) ∷ on Ladd (Long ∷ Long ∷ []) ∷ on Lshl (Int ∷ Long ∷ [])
    ∷ on (Lconst (pos 0)) (Int ∷ Int ∷ []) ∷ on Dup (Int ∷ Int ∷ Int ∷ []) ∷ on Dup2 (Long ∷ []) ∷ on DupX2 (Int ∷ Long ∷ [])
    ∷ on Iaload (Int ∷ array 1 base.Int ∷ []) ∷ on Iaload (Int ∷ Null ∷ []) ∷ on Aaload (Int ∷ classes_array 1 m_class ∷ [])
    ∷ on Nop (Long ∷ Long ∷ Int ∷ []) ∷ on Pop (Int ∷ Long ∷ Long ∷ Int ∷ []) ∷ on (Istore 0) (Int ∷ Long ∷ Long ∷ Int ∷ []) ∷ on Aastore (Uninit 3 ∷ []) ∷ []

-- each instruction of `passing` but the last, which lacks two operands
abbrev pub passing_rules : List (Option ℕ)
passing_rules = None ∷ None ∷ None ∷ None ∷ None ∷ None ∷ None ∷ None ∷ None ∷ None ∷ None ∷ None ∷ None ∷ Some 3 ∷ []

-- rule 3
abbrev pub lacking : List (Instr × Types)
lacking = on Iadd (Int ∷ []) ∷ on Iadd (Long ∷ []) ∷ on Pop [] ∷ on Pop2 (Int ∷ []) ∷ on DupX2 (Long ∷ []) ∷ on Swap (Int ∷ []) ∷ on (Istore 0) [] ∷ on Ireturn [] ∷ on (Invokespecial (method_id 0)) [] ∷ []

-- rule 4: four words are there; what pushes nothing may stand on more
abbrev pub too_high : List (Instr × Types)
too_high =
    on (Lconst (pos 0)) (Int ∷ Int ∷ Int ∷ []) ∷ on Dup (Int ∷ Int ∷ Long ∷ []) ∷ on Dup2 (Int ∷ Long ∷ Int ∷ []) ∷ on Dup (Long ∷ Long ∷ []) ∷ on I2l (Int ∷ Int ∷ Long ∷ [])
    ∷ with_locals (Iload 0) (Top ∷ []) (Long ∷ Long ∷ []) ∷ on (Ldc (LongValue (pos 0))) (Long ∷ Long ∷ []) ∷ on (New (class_id q_class)) (Long ∷ Long ∷ []) ∷ on Aaload (Int ∷ array 1 base.Int ∷ Long ∷ Long ∷ []) ∷ []

-- rule 5
abbrev pub wrong_operands : List (Instr × Types)
wrong_operands =
    on Ladd (Int ∷ Int ∷ []) ∷ on Iadd (Int ∷ Null ∷ []) ∷ on Iaload (Int ∷ array 1 base.Short ∷ []) ∷ on Aaload (Int ∷ array 1 base.Int ∷ [])
    ∷ on (Getfield (record { 0 = 1 })) (of_class p_class ∷ []) ∷ on (Getfield (record { 0 = 1 })) (Uninit 3 ∷ []) ∷ on (Checkcast (class_type m_class)) (Uninit 3 ∷ [])
    ∷ on (Putfield (record { 0 = 2 })) (of_class p_class ∷ of_class m_class ∷ []) ∷ on (Istore 0) (Null ∷ []) ∷ on (Astore 0) (Int ∷ [])
    ∷ on (Invokevirtual (method_id 3)) (Null ∷ of_class p_class ∷ []) ∷ on Areturn (Int ∷ []) ∷ []

-- rule 6
abbrev pub wrong_locals : List (Instr × Types)
wrong_locals =
    with_locals (Iload 3) (Int ∷ Int ∷ Int ∷ []) [] ∷ with_locals (Iload 0) (Long ∷ Top ∷ []) [] ∷ with_locals (Aload 1) (Null ∷ []) [] ∷ with_locals (Lload 0) (Int ∷ []) []
    ∷ on (Lstore 2) (Long ∷ []) ∷ on (Istore 3) (Int ∷ []) ∷ with_locals (Iinc 0 (pos 1)) (Long ∷ []) [] ∷ []

-- rule 7
abbrev pub split_longs : List (Instr × Types)
split_longs = on Pop (Long ∷ []) ∷ on Dup (Long ∷ []) ∷ on Swap (Long ∷ []) ∷ on Pop2 (Int ∷ Long ∷ []) ∷ on DupX1 (Int ∷ Long ∷ []) ∷ []

-- rule 8: a private field of P is named from P in `passing_members`, here statically, and an instance method so
abbrev pub wrong_members : List (Instr × Types)
wrong_members = on (Getstatic (record { 0 = 3 })) [] ∷ on (Invokestatic (method_id 3)) (Int ∷ of_class p_class ∷ []) ∷ on (Invokevirtual (method_id 6)) (Long ∷ of_class p_class ∷ []) ∷ []

abbrev pub passing_members : List (Instr × Types)
passing_members =
    on (Getfield (record { 0 = 3 })) (of_class p_class ∷ []) ∷ on (Invokevirtual (method_id 3)) (Int ∷ of_class q_class ∷ []) ∷ on (Invokestatic (method_id 6)) (Long ∷ [])
    ∷ on (Invokespecial (method_id 2)) (of_class p_class ∷ []) ∷ on (Invokespecial (method_id 0)) (Uninit 3 ∷ []) ∷ on (New (class_id m_class)) [] ∷ on (Ldc (Text [])) [] ∷ on (Ldc2W (LongValue (pos 1))) [] ∷ []

-- rule 9, 10, 13, 14
abbrev pub others : List (Instr × Types)
others =
    on (Ldc (LongValue (pos 0))) [] ∷ on (Ldc2W (IntValue (pos 0))) [] ∷ on (Ifnull 0) (Uninit 3 ∷ []) ∷ on (IfAcmpeq 0) (Null ∷ UninitThis ∷ []) ∷ on (New (class_id m_class)) (Uninit 3 ∷ [])
    ∷ on (Invokespecial (method_id 1)) (Uninit 3 ∷ []) ∷ on (Invokespecial (method_id 0)) (of_class m_class ∷ []) ∷ on (New (class_id q_class)) [] ∷ on (New (class_id string_class)) []
    ∷ on (Anewarray (record { dims = 255; base = base.Int })) (Int ∷ []) ∷ on (Invokespecial (method_id 3)) (Int ∷ of_class p_class ∷ []) ∷ []

abbrev pub other_rules : List (Option ℕ)
other_rules = Some 9 ∷ Some 9 ∷ Some 10 ∷ Some 10 ∷ Some 10 ∷ Some 10 ∷ Some 10 ∷ Some 13 ∷ Some 13 ∷ Some 13 ∷ Some 14 ∷ []

-- a store into the second half of a long leaves no long; `new` takes the last object of its place out of the locals; a constructor
-- makes the object wherever it stands
abbrev pub made_of : Instr × Types → Result Types ℕ
made_of e = type_step sample host 3 e.0 e.1

-- ---- methods

abbrev pub framed : List VType → List VType → Frame
framed locals stack = record { locals = locals; stack = stack }

abbrev pub this : VType
this = of_class p_class

-- A loop with the frame at its head; without the frame; with a frame into which the flow doesn't fit; with one that stands at no instruction.
abbrev pub loop : List (ℕ × Instr)
loop = (0, Iconst (pos 0)) ∷ (1, Istore 1) ∷ (2, Iload 1) ∷ (3, Ifeq 2) ∷ (6, Return) ∷ []

abbrev pub loop_with : List (ℕ × Frame) → Option (ℕ × ℕ)
loop_with frames = method_fault sample (with_code loop 7 frames)

-- ---- exception tables

-- the class of what can be thrown, and `sample` with one below it
abbrev pub throwable_class : ℕ
throwable_class = object_class + 7

abbrev pub error_class : ℕ
error_class = length sample.classes

abbrev pub throwing : Program
throwing = record sample { classes = sample.classes ++ sample_class (codes "E") throwable_class false false [] ∷ [] }

-- local 1 is set from place 2 on; a handler begins at place 3
abbrev pub guarded : List (ℕ × Instr)
guarded = (0, Iconst (pos 0)) ∷ (1, Istore 1) ∷ (2, Return) ∷ (3, Pop) ∷ (4, Return) ∷ []

-- in a constructor, `this` is set from place 4 on; a handler begins at place 5
abbrev pub guarded_making : List (ℕ × Instr)
guarded_making = (0, Aload 0) ∷ (1, Invokespecial (method_id (length own_methods))) ∷ (4, Return) ∷ (5, Pop) ∷ (6, Return) ∷ []

abbrev pub over : ℕ → ℕ → ℕ → Option ClassId → Handler
over start end at catch = record { start = start; end = end; at = at; catch = catch }

-- with the frame at place 3
abbrev pub guarded_by : Handler → List VType → VType → Option (ℕ × ℕ)
guarded_by h locals caught = method_fault throwing (record (with_code guarded 5 ((3, framed locals (caught ∷ [])) ∷ [])) { handlers = h ∷ [] })

abbrev pub made_by : Handler → Option (ℕ × ℕ)
made_by h = method_fault throwing (record (with_code guarded_making 7 ((5, framed [] (of_class throwable_class ∷ [])) ∷ [])) { name = codes "<init>"; handlers = h ∷ [] })

-- place 0 sets local 1, which the handler at place 2 reads
abbrev pub storing : List Handler → Method
storing hs = record (with_code ((0, Istore 1) ∷ (1, Return) ∷ (2, Pop) ∷ (3, Iload 1) ∷ (4, Ireturn) ∷ []) 5 []) { handlers = hs }

pub record ExamplesHold : Type 0 where
  pub assigned_all : map assigns assigned ≡ map (λ pair. true) assigned
  pub assigned_none : map assigns not_assigned ≡ map (λ pair. false) not_assigned
  pub pass : map breaks passing ≡ passing_rules
  pub lack : map breaks lacking ≡ map (λ e. Some 3) lacking
  pub high : map breaks too_high ≡ map (λ e. Some 4) too_high
  pub operands : map breaks wrong_operands ≡ map (λ e. Some 5) wrong_operands
  pub locals : map breaks wrong_locals ≡ map (λ e. Some 6) wrong_locals
  pub splits : map breaks split_longs ≡ map (λ e. Some 7) split_longs
  pub members : map breaks wrong_members ≡ map (λ e. Some 8) wrong_members
  pub named : map breaks passing_members ≡ map (λ e. None) passing_members
  pub rest : map breaks others ≡ other_rules
  pub split_store : made_of (with_locals (Istore 1) (Long ∷ Top ∷ []) (Int ∷ [])) ≡ Ok (types (Top ∷ Int ∷ []) [])
  pub makes : made_of (with_locals (New (class_id m_class)) (Uninit 3 ∷ []) []) ≡ Ok (types (Top ∷ []) (Uninit 3 ∷ []))
  pub constructs : made_of (with_locals (Invokespecial (method_id 0)) (Uninit 3 ∷ []) (Uninit 3 ∷ Uninit 3 ∷ [])) ≡ Ok (types (of_class m_class ∷ []) (of_class m_class ∷ []))
  pub loops : loop_with ((2, framed (this ∷ Int ∷ []) []) ∷ []) ≡ None
  pub no_frame : loop_with [] ≡ Some (3, 2)
  pub no_flow : loop_with ((2, framed (this ∷ Long ∷ Top ∷ []) []) ∷ []) ≡ Some (1, 1)
  pub inside : loop_with ((2, framed (this ∷ Int ∷ []) []) ∷ (4, framed [] []) ∷ []) ≡ Some (4, 12)
  pub top_on_the_stack : loop_with ((2, framed (this ∷ Int ∷ []) (Top ∷ [])) ∷ []) ≡ Some (1, 1)
  pub too_many : method_fault sample (record (with_code ((0, Return) ∷ []) 1 []) { max_locals = 0 }) ≡ Some (0, 6)
  pub no_result : method_fault sample (with_code ((0, Iconst (pos 0)) ∷ (1, Ireturn) ∷ []) 2 []) ≡ Some (1, 11)
  pub dead_code : method_fault sample (with_code ((0, Return) ∷ (1, Return) ∷ []) 2 []) ≡ Some (0, 2)
  pub least : method_fault sample (with_code ((0, Iadd) ∷ (1, Goto 0) ∷ []) 4 ((1, framed [] (Top ∷ [])) ∷ [])) ≡ Some (0, 3)
  pub pushes_nothing : method_fault sample (with_code ((0, Return) ∷ (1, Nop) ∷ (2, Return) ∷ []) 3 ((1, framed [] (Int ∷ Int ∷ Int ∷ Int ∷ Int ∷ [])) ∷ [])) ≡ Some (1, 12)
  pub frames : map (listed (with_code loop 7 [])) (frames_of sample (with_code ((0, Iconst (pos 0)) ∷ (1, Return) ∷ []) 2 [])) ≡ framed (this ∷ Top ∷ Top ∷ []) [] ∷ framed (this ∷ Top ∷ Top ∷ []) (Int ∷ []) ∷ []
  pub caught : guarded_by (over 0 3 3 None) (this ∷ []) (of_class throwable_class) ≡ None
  pub caught_below : guarded_by (over 0 3 3 (Some (class_id error_class))) (this ∷ []) (of_class error_class) ≡ None
  pub caught_above : guarded_by (over 0 3 3 (Some (class_id error_class))) (this ∷ []) (of_class throwable_class) ≡ None
  pub not_narrowed : guarded_by (over 0 3 3 None) (this ∷ []) (of_class error_class) ≡ Some (0, 15)
  pub no_handler_frame : guarded_by (over 0 3 4 None) (this ∷ []) (of_class throwable_class) ≡ Some (0, 15)
  pub set_in_range : guarded_by (over 2 3 3 None) (this ∷ Int ∷ []) (of_class throwable_class) ≡ None
  pub not_yet_set : guarded_by (over 1 3 3 None) (this ∷ Int ∷ []) (of_class throwable_class) ≡ Some (1, 15)
  pub not_thrown : guarded_by (over 0 3 3 (Some (class_id p_class))) (this ∷ []) (of_class p_class) ≡ Some (0, 16)
  pub least_of_two : guarded_by (over 0 3 3 (Some (class_id p_class))) (this ∷ []) (of_class throwable_class) ≡ Some (0, 15)
  pub this_is_set : made_by (over 4 5 5 None) ≡ None
  pub this_is_unset : made_by (over 1 5 5 None) ≡ Some (1, 16)
  -- where an instruction in the range of a handler sets a local that the handler reads, the old value is read, too
  pub live_in_range : Live (storing (over 0 1 2 None ∷ [])) 1 0
  pub dead_before_it : Live (storing (over 1 2 2 None ∷ [])) 1 0 → ⊥
