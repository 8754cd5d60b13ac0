-- Declared frames, all in the full form (JVMS 4.7.4).
use Rattle.std.specs.Prelude.{ℕ, suc, ◌-◌, List, [], ◌∷◌, ◌++◌, map}
use Rattle.std.specs.List.{flat_map}
use Rattle.kilim_class_attributes.specs.declared.parts.frame.Frame.{Frame as FrameForm}
use Rattle.kilim_class_attributes.specs.declared.parts.frame.Frame.TheVariants.{Full}
use Rattle.kilim_class_attributes.specs.declared.parts.frame.VerificationType.{VerificationType}
use Rattle.kilim_class_attributes.specs.declared.parts.frame.VerificationType.TheVariants as slot
use Rattle.kilim_class_pool.specs.declared.entry.Entry.{Entry}
use Rattle.kilim_program.specs.declared.verified.Frame.{Frame}
use Rattle.kilim_program.specs.declared.verified.VType.{VType}
use Rattle.kilim_program.specs.declared.verified.VType.TheVariants.{Top, Int, Long, Null, UninitThis, Uninit, Object}
use Rattle.kilim_program.specs.Program.{Program}
use Rattle.kilim_class_making.specs.declared.pool_needs.need.Need.{Need}
use Rattle.kilim_class_making.specs.declared.pool_needs.need.Need.TheVariants.{AClass}
use Rattle.kilim_class_making.specs.pool_needs.Adding.{index_of}
use Rattle.kilim_weave_file_spec.specs.Texts.{type_name}

abbrev pub slot_type : Program → List Entry → VType → VerificationType
slot_type w pool Top = slot.Top
slot_type w pool Int = slot.Integer
slot_type w pool Long = slot.Long
slot_type w pool Null = slot.Null
slot_type w pool UninitThis = slot.UninitializedThis
slot_type w pool (Uninit place) = slot.Uninitialized place
slot_type w pool (Object ty) = slot.Object (index_of pool (AClass (type_name w ty)))

-- in the locals of a frame a long is one entry
abbrev pub entries : List VType → List VType
entries (Long ∷ half ∷ ts) = Long ∷ entries ts
entries (t ∷ ts) = t ∷ entries ts
entries [] = []

abbrev pub full_frame : Program → List Entry → ℕ → Frame → FrameForm
full_frame w pool delta f = Full delta (map (slot_type w pool) (entries f.locals)) (map (slot_type w pool) f.stack)

-- `next` is the place behind that of the frame before
unfoldable pub full_frames : Program → List Entry → (next : ℕ) → List (ℕ × Frame) → List FrameForm
full_frames w pool next [] = []
full_frames w pool next (e ∷ es) = full_frame w pool (e.0 - next) e.1 ∷ full_frames w pool (suc e.0) es

-- ---- what they need, the locals before the stack

abbrev pub type_needs : Program → VType → List Need
type_needs w (Object ty) = AClass (type_name w ty) ∷ []
type_needs w t = []

abbrev pub frame_needs : Program → Frame → List Need
frame_needs w f = flat_map (type_needs w) (f.locals ++ f.stack)

abbrev pub frames_needs : Program → List (ℕ × Frame) → List Need
frames_needs w frames = flat_map (λ e. frame_needs w e.1) frames
