-- Calls of pausable methods, and the rules 8, 10 and 11 (own, after Srinivasan and Mycroft, 2008).
--
-- 8 FreeReceiver: a pausable method has a free receiver. It is reported at place 0, of methods without code too.
-- 10 PausableInPlain: a method that isn't pausable calls one that is.
-- 11 UninitAcrossPause: a local, or an item of the stack below the arguments, isn't initialized at such a call.
use Rattle.std.specs.Prelude.{ℕ, ◌+◌, ◌-◌, Bool, true, false, not, ◌||◌, ◌&&◌, if◌then◌else◌, List, [], ◌∷◌, ◌++◌, Option, Some, None, length, take, slice_get}
use Rattle.std.specs.List.{list_any, flat_map}
use Rattle.kilim_program.specs.declared.class.Method.{Method}
use Rattle.kilim_program.specs.declared.instr.Instr.{Instr}
use Rattle.kilim_program.specs.declared.instr.Instr.TheVariants.{Invokevirtual, Invokespecial, Invokestatic}
use Rattle.kilim_program.specs.declared.names.MethodId.{MethodId}
use Rattle.kilim_program.specs.declared.ty.Qualifier.{Qualifier}
use Rattle.kilim_program.specs.declared.ty.Qualifier.TheVariants as qualifier
use Rattle.kilim_program.specs.declared.verified.Frame.{Frame}
use Rattle.kilim_program.specs.declared.verified.VType.{VType}
use Rattle.kilim_program.specs.Names.{method_at}
use Rattle.kilim_program.specs.Program.{Program}
use Rattle.kilim_type_spec.specs.Step.{is_unset}
use Rattle.kilim_type_spec.specs.TypedProgram.{TypedProgram}
use Rattle.kilim_isolation_pauses.specs.declared.report.Report.{Report}

abbrev pub is_free : Qualifier → Bool
is_free qualifier.Free = true
is_free qualifier.Cuttable = false
is_free qualifier.Safe = false

abbrev pub has_free_receiver : Method → Bool
has_free_receiver m = m.pausable && (not m.is_static && is_free m.receiver)

-- the method that a call names
abbrev pub called : Program → Instr → Option Method
called p (Invokevirtual id) = method_at p id
called p (Invokespecial id) = method_at p id
called p (Invokestatic id) = method_at p id
called p i = None

abbrev pub pauses : Option Method → Bool
pauses None = false
pauses (Some callee) = callee.pausable

abbrev pub pauses_in_plain : Program → Method → Instr → Bool
pauses_in_plain p m i = not m.pausable && pauses (called p i)

abbrev pub arguments_of : Method → ℕ
arguments_of callee = length callee.params + (if callee.is_static then 0 else 1)

-- the stack's bottom first; so many items are on its top
abbrev pub below : ℕ → Frame → List VType
below count frame = take (length frame.stack - count) frame.stack

abbrev pub uninitialized_below : Frame → Option Method → Bool
uninitialized_below f None = false
uninitialized_below f (Some callee) = callee.pausable && (list_any is_unset f.locals || list_any is_unset (below (arguments_of callee) f))

abbrev pub report_if : Bool → MethodId → (pc rule : ℕ) → List Report
report_if true id pc rule = record { method = id; pc = pc; rule = rule; path = [] } ∷ []
report_if false id pc rule = []

-- at an instruction, under the verified frame there
abbrev pub reports_at : Program → MethodId → Method → ℕ × Instr → Frame → List Report
reports_at p id m e f = report_if (pauses_in_plain p m e.1) id e.0 10 ++ report_if (uninitialized_below f (called p e.1)) id e.0 11

abbrev pub reports_along : Program → MethodId → Method → List (ℕ × Instr) → List Frame → List Report
reports_along p id m [] fs = []
reports_along p id m (e ∷ es) [] = []
reports_along p id m (e ∷ es) (f ∷ fs) = reports_at p id m e f ++ reports_along p id m es fs

-- of a method, in the order of place and rule
abbrev pub method_reports : Program → MethodId → Method → List Frame → List Report
method_reports p id m fs = report_if (has_free_receiver m) id 0 8 ++ reports_along p id m m.code fs

abbrev pub frames_at : TypedProgram → MethodId → List Frame
frames_at t id = elim (slice_get t.frames id.0) [ None ↦ [] | Some fs ↦ fs ]

abbrev pub reports_of : TypedProgram → MethodId → List Report
reports_of t id = elim (method_at t.program id) [ None ↦ [] | Some m ↦ method_reports t.program id m (frames_at t id) ]

-- the methods by class, and then by number
abbrev pub all_methods : Program → List MethodId
all_methods p = flat_map (λ class. class.methods) p.classes

-- of all methods, in the order of class, method, place and rule
abbrev pub pausing_reports : TypedProgram → List Report
pausing_reports t = flat_map (reports_of t) (all_methods t.program)

-- ---- the calls

abbrev pub call_if : Bool → MethodId → ℕ → List (MethodId × ℕ)
call_if true id pc = (id, pc) ∷ []
call_if false id pc = []

abbrev pub calls_along : Program → MethodId → List (ℕ × Instr) → List (MethodId × ℕ)
calls_along p id [] = []
calls_along p id (e ∷ es) = call_if (pauses (called p e.1)) id e.0 ++ calls_along p id es

abbrev pub calls_of : Program → MethodId → List (MethodId × ℕ)
calls_of p id = elim (method_at p id) [ None ↦ [] | Some m ↦ calls_along p id m.code ]

-- the pausable calls by class, method and place
abbrev pub pausable_calls : Program → List (MethodId × ℕ)
pausable_calls p = flat_map (calls_of p) (all_methods p)
