-- The frames of a method that is given to a class builder (JVMS 4.7.4), all in the full form. A class number in them stands for the class
-- that the pool names at that index.
use Rattle.std.specs.Prelude.{ℕ, suc, ◌-◌, ◌==◌, Bool, true, false, if◌then◌else◌, List, [], ◌∷◌, ◌++◌, map, Option, Some, None, codes}
use Rattle.std.specs.List.{flat_map}
use Rattle.kilim_class_attributes.specs.declared.parts.frame.Frame.{Frame as Entered}
use Rattle.kilim_class_attributes.specs.declared.parts.frame.Frame.TheVariants.{Full as FullFrame}
use Rattle.kilim_class_attributes.specs.declared.parts.frame.VerificationType.{VerificationType}
use Rattle.kilim_class_attributes.specs.declared.parts.frame.VerificationType.TheVariants as slot
use Rattle.kilim_program.specs.declared.ty.Base.{Base}
use Rattle.kilim_program.specs.declared.ty.Base.TheVariants as base
use Rattle.kilim_program.specs.declared.ty.Ty.{Ty}
use Rattle.kilim_program.specs.declared.verified.Frame.{Frame}
use Rattle.kilim_program.specs.declared.verified.VType.{VType}
use Rattle.kilim_program.specs.declared.verified.VType.TheVariants.{Top, Int, Long, Null, UninitThis, Uninit, Object}
use Rattle.kilim_program.specs.Names.{array_descriptor}
use Rattle.kilim_class_file.specs.Parts.{text_of}
use Rattle.kilim_class_pool.specs.declared.entry.Entry.{Entry}
use Rattle.kilim_class_pool.specs.declared.entry.Entry.TheVariants.{Class}
use Rattle.kilim_class_pool.specs.Entries.{entry_at}
use Rattle.kilim_class_making.specs.pool_needs.Adding.{class_index}

-- ---- names

abbrev pub name_in : List Entry → Option Entry → List ℕ
name_in pool (Some (Class name)) = text_of pool name
name_in pool _ = []

-- the descriptor of a base (JVMS 4.3.2)
abbrev pub base_text : List Entry → Base → List ℕ
base_text pool base.Bool = codes "Z"
base_text pool base.Byte = codes "B"
base_text pool base.Char = codes "C"
base_text pool base.Short = codes "S"
base_text pool base.Int = codes "I"
base_text pool base.Long = codes "J"
base_text pool (base.Class c) = codes "L" ++ (name_in pool (entry_at pool c.0) ++ codes ";")

-- what the Class entry of an array holds: its descriptor (JVMS 4.4.1)
abbrev pub array_text : List Entry → Ty → List ℕ
array_text pool ty = array_descriptor ty.dims (base_text pool ty.base)

-- the arrays of frames in order, the locals before the stack
abbrev pub array_names : List Entry → VType → List (List ℕ)
array_names pool (Object ty) = if ty.dims == 0 then [] else array_text pool ty ∷ []
array_names pool v = []

abbrev pub frame_names : List Entry → Frame → List (List ℕ)
frame_names pool f = flat_map (array_names pool) f.locals ++ flat_map (array_names pool) f.stack

unfoldable pub frames_names : List Entry → List (ℕ × Frame) → List (List ℕ)
frames_names pool frames = flat_map (λ e. frame_names pool e.1) frames

-- ---- slots

abbrev pub class_number : Base → ℕ
class_number (base.Class c) = c.0
class_number b = 0

abbrev pub object_index : List Entry → Ty → ℕ
object_index pool ty = if ty.dims == 0 then class_number ty.base else class_index pool (array_text pool ty)

abbrev pub slot_type : List Entry → VType → VerificationType
slot_type pool Top = slot.Top
slot_type pool Int = slot.Integer
slot_type pool Long = slot.Long
slot_type pool Null = slot.Null
slot_type pool UninitThis = slot.UninitializedThis
slot_type pool (Uninit place) = slot.Uninitialized place
slot_type pool (Object ty) = slot.Object (object_index pool ty)

abbrev pub is_long : VType → Bool
is_long Long = true
is_long v = false

-- In the locals a long is one entry: the slot behind it isn't written.
abbrev pub written : (skips : Bool) → List VType → List VType
written skips [] = []
written true (v ∷ vs) = written false vs
written false (v ∷ vs) = v ∷ written (is_long v) vs

abbrev pub full_frame : List Entry → ℕ → Frame → Entered
full_frame pool delta f = FullFrame delta (map (slot_type pool) (written false f.locals)) (map (slot_type pool) f.stack)

-- `next` is the place behind that of the frame before
unfoldable pub full_frames : List Entry → (next : ℕ) → List (ℕ × Frame) → List Entered
full_frames pool next [] = []
full_frames pool next (e ∷ es) = full_frame pool (e.0 - next) e.1 ∷ full_frames pool (suc e.0) es
