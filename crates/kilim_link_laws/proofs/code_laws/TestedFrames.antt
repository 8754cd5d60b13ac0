-- The types that a frame of a linked method names pass a test.
use Rattle.std.proofs.Common.{◌≡◌, ℕ, ◌-◌, Bool, true, false, List, [], ◌∷◌, length, map, Option, Some, None, refl, ap, sym, subst, ◌∙◌, option_map}
use Rattle.std.specs.Prelude.{◌==◌, if◌then◌else◌}
use Rattle.std.specs.List.{list_all, flat_map, AllByRecursion}
use Rattle.std.proofs.lemmas.Bool.{and_from, eqb-true}
use Rattle.std.proofs.lemmas.List.Folds.{list_all-append}
use Rattle.std.proofs.lemmas.Option.{same_Some, none-some}
use Rattle.kilim_class_attributes.specs.declared.parts.frame.Frame.{Frame as FrameForm}
use Rattle.kilim_class_attributes.specs.declared.parts.frame.Frame.TheVariants.{Same, SameLocals1StackItem, SameLocals1StackItemExtended, Chop, SameExtended, Append, Full}
use Rattle.kilim_class_attributes.specs.declared.parts.frame.VerificationType.{VerificationType}
use Rattle.kilim_class_attributes.specs.declared.parts.frame.VerificationType.TheVariants as entry
use Rattle.kilim_class_attributes.specs.declared.attribute.Code.{Code}
use Rattle.kilim_class_file.specs.declared.class_file.ClassFile.{ClassFile}
use Rattle.kilim_class_pool.specs.declared.entry.Entry.{Entry}
use Rattle.kilim_class_descriptors.specs.declared.types.FieldText.{FieldText}
use Rattle.kilim_program.specs.declared.names.ClassId.{ClassId}
use Rattle.kilim_program.specs.declared.ty.Base.{Base}
use Rattle.kilim_program.specs.declared.ty.Base.TheVariants as base
use Rattle.kilim_program.specs.declared.ty.Ty.{Ty}
use Rattle.kilim_program.specs.declared.verified.Frame.{Frame}
use Rattle.kilim_program.specs.declared.verified.VType.{VType}
use Rattle.kilim_program.specs.declared.verified.VType.TheVariants.{Top, Int, Long, Null, UninitThis, Uninit, Object}
use Rattle.kilim_program.specs.Keeps.{types_of_slot, types_of_frame}
use Rattle.kilim_link_spec.specs.Frames.{slot_in, slot_of_type, slot_of_base, receiver_entry, entry_locals, entries_of, delta_of, place_after, placed_frame, frame_of, frame_with, local_slots, frames_from, frames_in, tables_in}
use Rattle.kilim_link_spec.specs.declared.named.Entries.{Entries}
use Rattle.kilim_link_spec.specs.Mentions.{mentions_of_slot}
use Rattle.kilim_link_spec.specs.declared.named.Mention.TheVariants.{OfClass}
use Rattle.kilim_link_spec.specs.Qualified.{is_constructor_name, params_of}
use Rattle.kilim_link_spec.specs.Types.{each_of, itself, named_by, type_named, type_in, typed, method_text}
use Rattle.kilim_link_spec.specs.declared.named.Named.{Named}
use Rattle.kilim_link_spec.specs.World.{World, class_text}
use Rattle.kilim_link_spec.specs.declared.view.DeclaredMethod.{DeclaredMethod}
use Rattle.kilim_link_laws.proofs.code_laws.FramesThere.{Slots, taken_there}
use Rattle.kilim_link_laws.proofs.code_laws.Tables.{applied_parts}
use Rattle.kilim_link_laws.proofs.code_laws.Lists.{first_and, all_map, each_of_all}
use Rattle.kilim_link_laws.proofs.code_laws.Mentions.{FrameMentions}
use Rattle.kilim_link_laws.proofs.code_laws.Nothing.{all_front, all_rest}
use Rattle.kilim_link_laws.proofs.code_laws.Rows.{mapped}
use Rattle.kilim_link_laws.proofs.code_laws.TestedTypes.{GoodMention, Tested, flat_passes, named_passes, one_passes}
use Rattle.kilim_link_laws.proofs.code_laws.There.{all_append, all_to_map}

-- a slot of a program
abbrev slot_passes : (Ty → Bool) → VType → Bool
slot_passes test v = list_all test (types_of_slot v)

abbrev SlotPasses : (Ty → Bool) → VType → Type 0
SlotPasses test v = slot_passes test v ≡ true

-- a slot, where it is one
abbrev IfSlotPasses : (Ty → Bool) → Option VType → Type 0
IfSlotPasses test o = (v : VType) → o ≡ Some v → SlotPasses test v

abbrev SlotsPass : (Ty → Bool) → Slots → Type 0
SlotsPass test slots = AllByRecursion (IfSlotPasses test) slots

given_slot : (test : Ty → Bool) (x : VType) → SlotPasses test x → IfSlotPasses test (Some x)
given_slot test x f v e = subst (SlotPasses test) (same_Some x v e) f

absent_slot : (test : Ty → Bool) → IfSlotPasses test None
absent_slot test v e = absurd (none-some v e)

-- ---- a frame of the slots

local_passes : (test : Ty → Bool) (v : VType) → SlotPasses test v → list_all (slot_passes test) (local_slots v) ≡ true
local_passes test Long f = refl
local_passes test (Object ty) f = and_from _ _ f refl
local_passes test Top f = refl
local_passes test Int f = refl
local_passes test Null f = refl
local_passes test UninitThis f = refl
local_passes test (Uninit place) f = refl

locals_pass : (test : Ty → Bool) (slots : Slots) (vs : List VType) → SlotsPass test slots → each_of itself slots ≡ Some vs → list_all test (flat_map types_of_slot (flat_map local_slots vs)) ≡ true
locals_pass test slots vs all e =
    let each = each_of_all itself (λ v. list_all (slot_passes test) (local_slots v)) slots vs (all_map (IfSlotPasses test) _ (λ o f v there. local_passes test v (f v there)) slots all) e in
    flat_passes test types_of_slot (flat_map local_slots vs) (flat_passes (slot_passes test) local_slots vs each)

stack_passes : (test : Ty → Bool) (slots : Slots) (vs : List VType) → SlotsPass test slots → each_of itself slots ≡ Some vs → list_all test (flat_map types_of_slot vs) ≡ true
stack_passes test slots vs all e = flat_passes test types_of_slot vs (each_of_all itself (slot_passes test) slots vs all e)

record EntriesPass (test : Ty → Bool) (e : Entries) : Type 0 where
  locals : SlotsPass test e.locals
  stack : SlotsPass test e.stack

frame_passes : (test : Ty → Bool) (e : Entries) (frame : Frame) → EntriesPass test e → frame_of e ≡ Some frame → list_all test (types_of_frame frame) ≡ true
frame_passes test e frame f there =
    let a = applied_parts (option_map frame_with (each_of itself e.locals)) (each_of itself e.stack) frame there in
    let m = mapped frame_with (each_of itself e.locals) a.fn a.fn_is in
    let is : frame_with m.x a.arg ≡ frame = ap (λ (make : List VType → Frame). make a.arg) m.is ∙ a.is in
    subst (λ x. list_all test (types_of_frame x) ≡ true) is
    (list_all-append test (flat_map types_of_slot (flat_map local_slots m.x)) (flat_map types_of_slot a.arg) ∙ and_from _ _ (locals_pass test e.locals m.x f.locals m.there) (stack_passes test e.stack a.arg f.stack a.arg_is))

placed_passes : (test : Ty → Bool) (at : ℕ) (e : Entries) (x : ℕ × Frame) → EntriesPass test e → placed_frame at e ≡ Some x → list_all test (types_of_frame x.1) ≡ true
placed_passes test at e x f there =
    let m = mapped (λ (frame : Frame). (at, frame)) (frame_of e) x there in
    subst (λ (y : ℕ × Frame). list_all test (types_of_frame y.1) ≡ true) m.is (frame_passes test e m.x f m.there)

base_slot_passes : (test : Ty → Bool) (b : Base) → test (typed 0 b) ≡ true → SlotPasses test (slot_of_base b)
base_slot_passes test base.Bool f = refl
base_slot_passes test base.Byte f = refl
base_slot_passes test base.Char f = refl
base_slot_passes test base.Short f = refl
base_slot_passes test base.Int f = refl
base_slot_passes test base.Long f = refl
base_slot_passes test (base.Class c) f = one_passes test (typed 0 (base.Class c)) f

argument_by : (test : Ty → Bool) (ty : Ty) (flat : Bool) → (ty.dims == 0) ≡ flat → test ty ≡ true → SlotPasses test (if flat then slot_of_base ty.base else Object ty)
argument_by test ty true is f = base_slot_passes test ty.base (subst (λ (n : ℕ). test (typed n ty.base) ≡ true) (eqb-true ty.dims 0 is) f)
argument_by test ty false is f = one_passes test ty f

module _ (w : World) (Good : FieldText → Type 0) (test : Ty → Bool) (tested : Tested w Good test) where
  abbrev GoodSlot : List Entry → VerificationType → Type 0
  GoodSlot pool s = AllByRecursion (GoodMention Good) (mentions_of_slot pool s)

  object_slot : (class : Named) → GoodMention Good (OfClass class) → IfSlotPasses test (option_map Object (type_named w class))
  object_slot class good v e = let m = mapped Object (type_named w class) v e in subst (SlotPasses test) m.is (one_passes test m.x (named_passes w Good test tested class m.x good m.there))

  made_slot : (pool : List Entry) (s : VerificationType) → GoodSlot pool s → IfSlotPasses test (slot_in w pool s)
  made_slot pool entry.Top good = given_slot test Top refl
  made_slot pool entry.Integer good = given_slot test Int refl
  made_slot pool entry.Float good = absent_slot test
  made_slot pool entry.Double good = absent_slot test
  made_slot pool entry.Long good = given_slot test Long refl
  made_slot pool entry.Null good = given_slot test Null refl
  made_slot pool entry.UninitializedThis good = given_slot test UninitThis refl
  made_slot pool (entry.Uninitialized place) good = given_slot test (Uninit place) refl
  made_slot pool (entry.Object class) good = object_slot (named_by (class_text pool class)) good.0

  made_slots : (pool : List Entry) (ss : List VerificationType) → AllByRecursion (GoodSlot pool) ss → SlotsPass test (map (slot_in w pool) ss)
  made_slots pool ss good = all_to_map (IfSlotPasses test) (slot_in w pool) ss (all_map (GoodSlot pool) (λ s. IfSlotPasses test (slot_in w pool s)) (made_slot pool) ss good)

  entries_pass : (file : ClassFile) (locals : Slots) (f : FrameForm) → SlotsPass test locals → FrameMentions (GoodMention Good) file f → EntriesPass test (entries_of w file.constant_pool locals f)
  entries_pass file locals (Same delta) l g = record { locals = l; stack = tt }
  entries_pass file locals (SameLocals1StackItem delta item) l g = record { locals = l; stack = made_slots file.constant_pool (item ∷ []) g }
  entries_pass file locals (SameLocals1StackItemExtended delta item) l g = record { locals = l; stack = made_slots file.constant_pool (item ∷ []) g }
  entries_pass file locals (Chop count delta) l g = record { locals = taken_there (IfSlotPasses test) (length locals - count) locals l; stack = tt }
  entries_pass file locals (SameExtended delta) l g = record { locals = l; stack = tt }
  entries_pass file locals (Append delta more) l g = record { locals = all_append (IfSlotPasses test) locals (map (slot_in w file.constant_pool) more) l (made_slots file.constant_pool more g); stack = tt }
  entries_pass file locals (Full delta all stack) l g = record {
    locals = made_slots file.constant_pool all (all_front (GoodSlot file.constant_pool) all stack g);
    stack = made_slots file.constant_pool stack (all_rest (GoodSlot file.constant_pool) all stack g);
  }

  frames_pass_from : (file : ClassFile) (before : Option ℕ) (locals : Slots) (fs : List FrameForm) (frames : List (ℕ × Frame)) → SlotsPass test locals → AllByRecursion (FrameMentions (GoodMention Good) file) fs
      → each_of itself (frames_from w file.constant_pool before locals fs) ≡ Some frames → list_all (λ x. list_all test (types_of_frame x.1)) frames ≡ true
  unfolding frames_from
  frames_pass_from file before locals [] frames l g e = subst (λ xs. list_all (λ (x : ℕ × Frame). list_all test (types_of_frame x.1)) xs ≡ true) (same_Some [] frames e) refl
  frames_pass_from file before locals (f ∷ fs) frames l g e =
      let at = place_after before (delta_of f) in
      let en = entries_of w file.constant_pool locals f in
      let t = entries_pass file locals f l g.0 in
      let h = first_and (placed_frame at en) (each_of itself (frames_from w file.constant_pool (Some at) en.locals fs)) frames e in
      subst (λ xs. list_all (λ (x : ℕ × Frame). list_all test (types_of_frame x.1)) xs ≡ true) (sym h.is)
      (and_from _ _ (placed_passes test at en h.x t h.first_is) (frames_pass_from file (Some at) en.locals fs h.xs t.locals g.1 h.others_are))

  argument_passes : (f : FieldText) → Good f → IfSlotPasses test (option_map slot_of_type (type_in w f))
  argument_passes f good v e =
      let m = mapped slot_of_type (type_in w f) v e in
      subst (SlotPasses test) m.is (argument_by test m.x (m.x.dims == 0) refl (tested.of_text f m.x good m.there))

  receiver_by : (c : ClassId) (static constructor : Bool) → test (typed 0 (base.Class c)) ≡ true → SlotsPass test (if static then [] else (if constructor then Some UninitThis ∷ [] else Some (Object (typed 0 (base.Class c))) ∷ []))
  receiver_by c true constructor own = tt
  receiver_by c false true own = (given_slot test UninitThis refl, tt)
  receiver_by c false false own = (given_slot test (Object (typed 0 (base.Class c))) (one_passes test (typed 0 (base.Class c)) own), tt)

  entry_passes : (c : ClassId) (m : DeclaredMethod) → test (typed 0 (base.Class c)) ≡ true → AllByRecursion Good (params_of (method_text m.descriptor)) → SlotsPass test (entry_locals w c m)
  entry_passes c m own good =
      let params = params_of (method_text m.descriptor) in
      let argument = λ (f : FieldText). option_map slot_of_type (type_in w f) in
      all_append (IfSlotPasses test) (receiver_entry c m) (map argument params) (receiver_by c m.is_static (is_constructor_name m.name) own)
      (all_to_map (IfSlotPasses test) argument params (all_map Good (λ f. IfSlotPasses test (argument f)) argument_passes params good))

  -- the frames of a method of a class that passes
  pub frames_pass : (file : ClassFile) (c : ClassId) (m : DeclaredMethod) (code : Code) (frames : List (ℕ × Frame)) → test (typed 0 (base.Class c)) ≡ true
      → AllByRecursion Good (params_of (method_text m.descriptor)) → AllByRecursion (FrameMentions (GoodMention Good) file) (tables_in code)
      → frames_in w file c m code ≡ Some frames → list_all test (flat_map (λ x. types_of_frame x.1) frames) ≡ true
  frames_pass file c m code frames own good g e =
      flat_passes test (λ (x : ℕ × Frame). types_of_frame x.1) frames (frames_pass_from file None (entry_locals w c m) (tables_in code) frames (entry_passes c m own good) g e)
