-- The declared frames of a method (JVMS 4.7.4), by slots.
use Rattle.std.specs.Prelude.{ℕ, ◌+◌, ◌-◌, ◌==◌, if◌then◌else◌, List, [], ◌∷◌, ◌++◌, length, take, map, Option, Some, None, option_map}
use Rattle.std.specs.List.{flat_map}
use Rattle.kilim_class_attributes.specs.declared.parts.frame.Frame.{Frame as FrameForm}
use Rattle.kilim_class_attributes.specs.declared.parts.frame.Frame.TheVariants.{Same, SameLocals1StackItem, SameLocals1StackItemExtended, Chop, SameExtended, Append, Full}
use Rattle.kilim_class_attributes.specs.declared.parts.frame.VerificationType.{VerificationType}
use Rattle.kilim_class_attributes.specs.declared.parts.frame.VerificationType.TheVariants as entry
use Rattle.kilim_class_attributes.specs.declared.attribute.Code.{Code}
use Rattle.kilim_class_attributes.specs.declared.attribute.CodeInfo.{CodeInfo}
use Rattle.kilim_class_attributes.specs.declared.attribute.CodeInfo.TheVariants.{StackMapTable, Raw}
use Rattle.kilim_class_file.specs.declared.class_file.ClassFile.{ClassFile}
use Rattle.kilim_class_pool.specs.declared.entry.Entry.{Entry as PoolEntry}
use Rattle.kilim_program.specs.declared.names.ClassId.{ClassId}
use Rattle.kilim_program.specs.declared.ty.Base.{Base}
use Rattle.kilim_program.specs.declared.ty.Base.TheVariants as base
use Rattle.kilim_program.specs.declared.ty.Ty.{Ty}
use Rattle.kilim_program.specs.declared.verified.Frame.{Frame}
use Rattle.kilim_program.specs.declared.verified.VType.{VType}
use Rattle.kilim_program.specs.declared.verified.VType.TheVariants.{Top, Int, Long, Null, UninitThis, Uninit, Object}
use Rattle.kilim_link_spec.specs.World.{World, DeclaredMethod, class_text}
use Rattle.kilim_link_spec.specs.Types.{method_text, typed, type_in, type_named, named_by, each_of, itself}
use Rattle.kilim_link_spec.specs.Qualified.{is_constructor_name, params_of}
use Rattle.kilim_link_spec.specs.Code.{applied}
pub use Rattle.kilim_link_spec.specs.declared.named.Entries.{Entries}

-- the frames of a StackMapTable
abbrev pub table_in : CodeInfo → List FrameForm
table_in (StackMapTable frames) = frames
table_in (Raw bytes) = []

-- the frames of code, of each such table
abbrev pub tables_in : Code → List FrameForm
tables_in code = flat_map (λ a. table_in a.info) code.attributes

-- ---- a slot in a program; there are no float and double types in one

-- the type of a slot in a program, where it is there (JVMS 4.7.4)
abbrev pub slot_in : World → List PoolEntry → VerificationType → Option VType
slot_in w pool entry.Top = Some Top
slot_in w pool entry.Integer = Some Int
slot_in w pool entry.Float = None
slot_in w pool entry.Double = None
slot_in w pool entry.Long = Some Long
slot_in w pool entry.Null = Some Null
slot_in w pool entry.UninitializedThis = Some UninitThis
slot_in w pool (entry.Object class) = option_map Object (type_named w (named_by (class_text pool class)))
slot_in w pool (entry.Uninitialized place) = Some (Uninit place)

-- The type with which an argument stands in the locals: int-like types are ints.
abbrev pub slot_of_base : Base → VType
slot_of_base base.Long = Long
slot_of_base (base.Class c) = Object (typed 0 (base.Class c))
slot_of_base b = Int

-- the same of a type, where an array is a reference
abbrev pub slot_of_type : Ty → VType
slot_of_type ty = if ty.dims == 0 then slot_of_base ty.base else Object ty

-- ---- the locals by entries, of which a long is one: those with which a method begins (JVMS 4.10.1.6)

-- `this`, which in a constructor isn't initialized yet
abbrev pub receiver_entry : ClassId → DeclaredMethod → List (Option VType)
receiver_entry c m =
    if m.is_static then []
    else (if is_constructor_name m.name then Some UninitThis ∷ [] else Some (Object (typed 0 (base.Class c))) ∷ [])

-- `this` and the arguments
abbrev pub entry_locals : World → ClassId → DeclaredMethod → List (Option VType)
entry_locals w c m = receiver_entry c m ++ map (λ f. option_map slot_of_type (type_in w f)) (params_of (method_text m.descriptor))

-- ---- what each frame says

-- the distance that a frame writes down
abbrev pub delta_of : FrameForm → ℕ
delta_of (Same delta) = delta
delta_of (SameLocals1StackItem delta item) = delta
delta_of (SameLocals1StackItemExtended delta item) = delta
delta_of (Chop count delta) = delta
delta_of (SameExtended delta) = delta
delta_of (Append delta locals) = delta
delta_of (Full delta locals stack) = delta

-- Behind a frame with these locals. A chop that takes away more of them than there are leaves none.
abbrev pub entries_of : World → List PoolEntry → List (Option VType) → FrameForm → Entries
entries_of w pool locals (Same delta) = record { locals = locals; stack = [] }
entries_of w pool locals (SameLocals1StackItem delta item) = record { locals = locals; stack = slot_in w pool item ∷ [] }
entries_of w pool locals (SameLocals1StackItemExtended delta item) = record { locals = locals; stack = slot_in w pool item ∷ [] }
entries_of w pool locals (Chop count delta) = record { locals = take (length locals - count) locals; stack = [] }
entries_of w pool locals (SameExtended delta) = record { locals = locals; stack = [] }
entries_of w pool locals (Append delta more) = record { locals = locals ++ map (slot_in w pool) more; stack = [] }
entries_of w pool locals (Full delta all stack) = record { locals = map (slot_in w pool) all; stack = map (slot_in w pool) stack }

-- in the locals of a frame a long takes two slots
abbrev pub local_slots : VType → List VType
local_slots Long = Long ∷ Top ∷ []
local_slots t = t ∷ []

-- a frame with these locals, by slots, and this stack
abbrev pub frame_with : List VType → List VType → Frame
frame_with locals stack = record { locals = flat_map local_slots locals; stack = stack }

-- the frame of entries, where all their types are there
abbrev pub frame_of : Entries → Option Frame
frame_of e = applied (option_map frame_with (each_of itself e.locals)) (each_of itself e.stack)

-- ---- all frames in order

-- The first frame stands at its delta, each next one at the place before, its delta and one more.
abbrev pub place_after : Option ℕ → ℕ → ℕ
place_after None delta = delta
place_after (Some at) delta = at + (delta + 1)

-- a frame with its place
abbrev pub placed_frame : ℕ → Entries → Option (ℕ × Frame)
placed_frame at e = option_map (λ frame. (at, frame)) (frame_of e)

-- the frames from one on, where the one before stood at a place and left these locals
unfoldable pub frames_from : World → List PoolEntry → Option ℕ → List (Option VType) → List FrameForm → List (Option (ℕ × Frame))
frames_from w pool before locals [] = []
frames_from w pool before locals (f ∷ fs) =
    let at = place_after before (delta_of f) in
    let e = entries_of w pool locals f in
    placed_frame at e ∷ frames_from w pool (Some at) e.locals fs

-- the declared frames of the code of a method, where all types are there
abbrev pub frames_in : World → ClassFile → ClassId → DeclaredMethod → Code → Option (List (ℕ × Frame))
frames_in w file c m code = each_of itself (frames_from w file.constant_pool None (entry_locals w c m) (tables_in code))
