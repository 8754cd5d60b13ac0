-- The frames of a method without a fault are frames of the program.
use Rattle.std.proofs.Common.{ℕ, zero, suc, ◌-◌, Bool, true, false, List, [], ◌∷◌, length, take, map, Option, Some, None, sym, option_map}
use Rattle.std.specs.Prelude.{if◌then◌else◌}
use Rattle.std.specs.List.{AllByRecursion}
use Rattle.std.proofs.lemmas.Bool.{false≢true}
use Rattle.kilim_class_attributes.specs.declared.parts.frame.Frame.{Frame as FrameForm}
use Rattle.kilim_class_attributes.specs.declared.parts.frame.Frame.TheVariants.{Same, SameLocals1StackItem, SameLocals1StackItemExtended, Chop, SameExtended, Append, Full}
use Rattle.kilim_class_attributes.specs.declared.parts.frame.VerificationType.{VerificationType}
use Rattle.kilim_class_attributes.specs.declared.parts.frame.VerificationType.TheVariants as entry
use Rattle.kilim_class_attributes.specs.declared.attribute.Code.{Code}
use Rattle.kilim_class_file.specs.declared.class_file.ClassFile.{ClassFile}
use Rattle.kilim_class_pool.specs.declared.entry.Entry.{Entry}
use Rattle.kilim_program.specs.declared.names.ClassId.{ClassId}
use Rattle.kilim_program.specs.declared.verified.Frame.{Frame}
use Rattle.kilim_program.specs.declared.verified.VType.{VType}
use Rattle.kilim_program.specs.declared.verified.VType.TheVariants.{Top, Int, Long, Null, UninitThis, Uninit, Object}
use Rattle.kilim_link_spec.specs.Frames.{slot_in, slot_of_type, receiver_entry, entry_locals, entries_of, delta_of, place_after, frame_of, frame_with, frames_from, frames_in, tables_in}
use Rattle.kilim_link_spec.specs.declared.named.Entries.{Entries}
use Rattle.kilim_link_spec.specs.Mentions.{mentions_of_slot}
use Rattle.kilim_link_spec.specs.Qualified.{is_constructor_name, params_of}
use Rattle.kilim_link_spec.specs.Types.{each_of, itself, named_by, type_named, type_in, method_text}
use Rattle.kilim_link_spec.specs.World.{World, class_text}
use Rattle.kilim_link_spec.specs.declared.view.DeclaredMethod.{DeclaredMethod}
use Rattle.kilim_link_laws.proofs.code_laws.Good.{Good}
use Rattle.kilim_link_laws.proofs.code_laws.Lists.{all_map}
use Rattle.kilim_link_laws.proofs.code_laws.Mentions.{FrameMentions}
use Rattle.kilim_link_laws.proofs.code_laws.Nothing.{all_front, all_rest}
use Rattle.kilim_link_laws.proofs.code_laws.There.{There, there, map_there, applied_there, each_there, AllThere, all_append, all_to_map}
use Rattle.kilim_link_laws.proofs.code_laws.TypesThere.{named_there}

abbrev pub Slots : Type 0
Slots = List (Option VType)

abbrev SlotsThere : Slots → Type 0
SlotsThere slots = AllThere itself slots

abbrev SlotMentions : World → List Entry → VerificationType → Type 0
SlotMentions w pool s = AllByRecursion (Good w) (mentions_of_slot pool s)

slot_there : (w : World) (pool : List Entry) (s : VerificationType) → SlotMentions w pool s → There (slot_in w pool s)
slot_there w pool entry.Top g = there Top
slot_there w pool entry.Integer g = there Int
slot_there w pool entry.Float g = absurd (false≢true (sym g.0.slot))
slot_there w pool entry.Double g = absurd (false≢true (sym g.0.slot))
slot_there w pool entry.Long g = there Long
slot_there w pool entry.Null g = there Null
slot_there w pool entry.UninitializedThis g = there UninitThis
slot_there w pool (entry.Object class) g = map_there Object (type_named w (named_by (class_text pool class))) (named_there w (named_by (class_text pool class)) g.0)
slot_there w pool (entry.Uninitialized place) g = there (Uninit place)

slots_there : (w : World) (pool : List Entry) (ss : List VerificationType) → AllByRecursion (SlotMentions w pool) ss → SlotsThere (map (slot_in w pool) ss)
slots_there w pool ss g = all_to_map (λ o. There o) (slot_in w pool) ss (all_map (SlotMentions w pool) (λ s. There (slot_in w pool s)) (slot_there w pool) ss g)

pub taken_there : {A : Type 0} (P : A → Type 0) (n : ℕ) (xs : List A) → AllByRecursion P xs → AllByRecursion P (take n xs)
taken_there P zero [] all = tt
taken_there P zero (x ∷ xs) all = tt
taken_there P (suc n) [] all = tt
taken_there P (suc n) (x ∷ xs) all = (all.0, taken_there P n xs all.1)

-- ---- one frame

record EntriesThere (e : Entries) : Type 0 where
  locals : SlotsThere e.locals
  stack : SlotsThere e.stack

entries_there : (w : World) (file : ClassFile) (locals : Slots) (f : FrameForm) → SlotsThere locals → FrameMentions (Good w) file f → EntriesThere (entries_of w file.constant_pool locals f)
entries_there w file locals (Same delta) l g = record { locals = l; stack = tt }
entries_there w file locals (SameLocals1StackItem delta item) l g = record { locals = l; stack = slots_there w file.constant_pool (item ∷ []) g }
entries_there w file locals (SameLocals1StackItemExtended delta item) l g = record { locals = l; stack = slots_there w file.constant_pool (item ∷ []) g }
entries_there w file locals (Chop count delta) l g = record { locals = taken_there (λ o. There o) (length locals - count) locals l; stack = tt }
entries_there w file locals (SameExtended delta) l g = record { locals = l; stack = tt }
entries_there w file locals (Append delta more) l g = record { locals = all_append (λ o. There o) locals (map (slot_in w file.constant_pool) more) l (slots_there w file.constant_pool more g); stack = tt }
entries_there w file locals (Full delta all stack) l g = record {
  locals = slots_there w file.constant_pool all (all_front (SlotMentions w file.constant_pool) all stack g);
  stack = slots_there w file.constant_pool stack (all_rest (SlotMentions w file.constant_pool) all stack g);
}

frame_there : (e : Entries) → EntriesThere e → There (frame_of e)
frame_there e t = applied_there (option_map frame_with (each_of itself e.locals)) (each_of itself e.stack) (map_there frame_with (each_of itself e.locals) (each_there itself e.locals t.locals)) (each_there itself e.stack t.stack)

-- ---- all frames

all_frames_there : (w : World) (file : ClassFile) (before : Option ℕ) (locals : Slots) (fs : List FrameForm) → SlotsThere locals → AllByRecursion (FrameMentions (Good w) file) fs → AllThere itself (frames_from w file.constant_pool before locals fs)
unfolding frames_from
all_frames_there w file before locals [] l g = tt
all_frames_there w file before locals (f ∷ fs) l g =
    let at = place_after before (delta_of f) in
    let e = entries_of w file.constant_pool locals f in
    let t = entries_there w file locals f l g.0 in
    (map_there (λ (frame : Frame). (at, frame)) (frame_of e) (frame_there e t), all_frames_there w file (Some at) e.locals fs t.locals g.1)

receiver_by : (c : ClassId) (m : DeclaredMethod) (static constructor : Bool) (a b : VType) → SlotsThere (if static then [] else (if constructor then Some a ∷ [] else Some b ∷ []))
receiver_by c m true constructor a b = tt
receiver_by c m false true a b = (there a, tt)
receiver_by c m false false a b = (there b, tt)

entry_there : (w : World) (c : ClassId) (m : DeclaredMethod) → AllThere (type_in w) (params_of (method_text m.descriptor)) → SlotsThere (entry_locals w c m)
entry_there w c m params =
    all_append (λ o. There o) (receiver_entry c m) (map (λ f. option_map slot_of_type (type_in w f)) (params_of (method_text m.descriptor))) (receiver_by c m m.is_static (is_constructor_name m.name) _ _)
    (all_to_map (λ o. There o) (λ f. option_map slot_of_type (type_in w f)) (params_of (method_text m.descriptor))
    (all_map (λ f. There (type_in w f)) (λ f. There (option_map slot_of_type (type_in w f))) (λ f t. map_there slot_of_type (type_in w f) t) (params_of (method_text m.descriptor)) params))

pub frames_there : (w : World) (file : ClassFile) (c : ClassId) (m : DeclaredMethod) (code : Code) → AllThere (type_in w) (params_of (method_text m.descriptor)) → AllByRecursion (FrameMentions (Good w) file) (tables_in code) → There (frames_in w file c m code)
frames_there w file c m code params g =
    each_there itself (frames_from w file.constant_pool None (entry_locals w c m) (tables_in code)) (all_frames_there w file None (entry_locals w c m) (tables_in code) (entry_there w c m params) g)
