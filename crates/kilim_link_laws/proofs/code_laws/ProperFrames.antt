-- In the declared frames of a linked method each object is a class or an array, and each long in the locals has its half.
use Rattle.std.proofs.Common.{◌≡◌, ℕ, zero, suc, ◌-◌, Bool, true, false, List, [], ◌∷◌, length, map, Option, Some, None, refl, ap, sym, subst, ◌∙◌, option_map}
use Rattle.std.specs.Prelude.{◌==◌, if◌then◌else◌}
use Rattle.std.specs.List.{list_all, flat_map, AllByRecursion}
use Rattle.std.proofs.lemmas.Bool.{and_from, and_parts, false≢true}
use Rattle.std.proofs.lemmas.List.Folds.{list_all-append}
use Rattle.std.proofs.lemmas.Option.{same_Some, none-some}
use Rattle.kilim_class_attributes.specs.declared.parts.frame.Frame.{Frame as FrameForm}
use Rattle.kilim_class_attributes.specs.declared.parts.frame.Frame.TheVariants.{Same, SameLocals1StackItem, SameLocals1StackItemExtended, Chop, SameExtended, Append, Full}
use Rattle.kilim_class_attributes.specs.declared.parts.frame.VerificationType.{VerificationType}
use Rattle.kilim_class_attributes.specs.declared.parts.frame.VerificationType.TheVariants as entry
use Rattle.kilim_class_attributes.specs.declared.attribute.Code.{Code}
use Rattle.kilim_class_file.specs.declared.class_file.ClassFile.{ClassFile}
use Rattle.kilim_class_file.specs.declared.class_file.MemberInfo.{MemberInfo}
use Rattle.kilim_class_pool.specs.declared.entry.Entry.{Entry}
use Rattle.kilim_class_descriptors.specs.declared.types.FieldText.{FieldText}
use Rattle.kilim_program.specs.declared.class.Form.{Form}
use Rattle.kilim_program.specs.declared.class.Form.TheVariants.{Plain, Woven}
use Rattle.kilim_program.specs.declared.class.Method.{Method}
use Rattle.kilim_program.specs.declared.names.ClassId.{ClassId}
use Rattle.kilim_program.specs.declared.ty.Base.{Base}
use Rattle.kilim_program.specs.declared.ty.Base.TheVariants as base
use Rattle.kilim_program.specs.declared.ty.Ty.{Ty}
use Rattle.kilim_program.specs.declared.verified.Frame.{Frame}
use Rattle.kilim_program.specs.declared.verified.VType.{VType}
use Rattle.kilim_program.specs.declared.verified.VType.TheVariants.{Top, Int, Long, Null, UninitThis, Uninit, Object}
use Rattle.kilim_program.specs.BuiltIn.{built_in_methods_in}
use Rattle.kilim_program.specs.Keeps.{frame_is_proper, frames_are_proper, halves_stand, is_proper}
use Rattle.kilim_program.specs.Lengths.{is_reference, is_reference_type}
use Rattle.kilim_program.specs.Program.{Program}
use Rattle.kilim_link_spec.specs.Frames.{slot_in, slot_of_type, slot_of_base, receiver_entry, entry_locals, entries_of, delta_of, place_after, placed_frame, frame_of, frame_with, local_slots, frames_from, tables_in}
use Rattle.kilim_link_spec.specs.declared.named.Body.{Body}
use Rattle.kilim_link_spec.specs.declared.named.Entries.{Entries}
use Rattle.kilim_link_spec.specs.Laws.{LinkedInParts}
use Rattle.kilim_link_spec.specs.Linked.{no_body, body_in, code_attribute, linked_method}
use Rattle.kilim_link_spec.specs.LinksWell.{LinksWell}
use Rattle.kilim_link_spec.specs.Qualified.{is_constructor_name, params_of}
use Rattle.kilim_link_spec.specs.Types.{each_of, itself, method_text, named_by, type_named, type_in, typed}
use Rattle.kilim_link_spec.specs.World.{World, class_text, declared_method, world_of}
use Rattle.kilim_link_spec.specs.declared.view.DeclaredMethod.{DeclaredMethod}
use Rattle.kilim_link_laws.proofs.code_laws.FramesThere.{Slots, taken_there}
use Rattle.kilim_link_laws.proofs.code_laws.Lists.{first_and, all_from, each_file, each_of_all, members_pass}
use Rattle.kilim_link_laws.proofs.code_laws.Members.{body_parts, method_parts}
use Rattle.kilim_link_laws.proofs.code_laws.References.{is_reference_named, named_has_dims}
use Rattle.kilim_link_laws.proofs.code_laws.Rows.{mapped}
use Rattle.kilim_link_laws.proofs.code_laws.Tables.{applied_parts}
use Rattle.kilim_link_laws.proofs.code_laws.There.{all_append, all_to_map}
use Rattle.kilim_link_laws.specs.code_laws.Facts.{FramesAreProper}

-- ---- a slot

-- a slot, where it is one
abbrev IsProper : Option VType → Type 0
IsProper o = (v : VType) → o ≡ Some v → is_proper v ≡ true

abbrev AreProper : Slots → Type 0
AreProper slots = AllByRecursion IsProper slots

given : (x : VType) → is_proper x ≡ true → IsProper (Some x)
given x f v e = subst (λ y. is_proper y ≡ true) (same_Some x v e) f

absent : IsProper None
absent v e = absurd (none-some v e)

slot_proper : (w : World) (pool : List Entry) (s : VerificationType) → IsProper (slot_in w pool s)
slot_proper w pool entry.Top = given Top refl
slot_proper w pool entry.Integer = given Int refl
slot_proper w pool entry.Float = absent
slot_proper w pool entry.Double = absent
slot_proper w pool entry.Long = given Long refl
slot_proper w pool entry.Null = given Null refl
slot_proper w pool entry.UninitializedThis = given UninitThis refl
slot_proper w pool (entry.Uninitialized place) = given (Uninit place) refl
slot_proper w pool (entry.Object class) = λ v e.
    let named = named_by (class_text pool class) in
    let m = mapped Object (type_named w named) v e in
    subst (λ y. is_proper y ≡ true) m.is (is_reference_named w named m.x (named_has_dims (class_text pool class)) m.there)

slots_proper : (w : World) (pool : List Entry) (ss : List VerificationType) → AreProper (map (slot_in w pool) ss)
slots_proper w pool ss = all_to_map IsProper (slot_in w pool) ss (all_from _ (slot_proper w pool) ss)

-- ---- an argument

base_proper : (b : Base) → is_proper (slot_of_base b) ≡ true
base_proper base.Bool = refl
base_proper base.Byte = refl
base_proper base.Char = refl
base_proper base.Short = refl
base_proper base.Int = refl
base_proper base.Long = refl
base_proper (base.Class c) = refl

array_proper : (dims : ℕ) (b : Base) → (dims == 0) ≡ false → is_reference_type dims b ≡ true
array_proper zero b e = absurd (false≢true (sym e))
array_proper (suc n) b e = refl

argument_by : (ty : Ty) (flat : Bool) → (ty.dims == 0) ≡ flat → is_proper (if flat then slot_of_base ty.base else Object ty) ≡ true
argument_by ty true is = base_proper ty.base
argument_by ty false is = array_proper ty.dims ty.base is

argument_proper : (w : World) (f : FieldText) → IsProper (option_map slot_of_type (type_in w f))
argument_proper w f v e =
    let m = mapped slot_of_type (type_in w f) v e in
    subst (λ y. is_proper y ≡ true) m.is (argument_by m.x (m.x.dims == 0) refl)

receiver_proper : (c : ClassId) (static constructor : Bool) → AreProper (if static then [] else (if constructor then Some UninitThis ∷ [] else Some (Object (typed 0 (base.Class c))) ∷ []))
receiver_proper c true constructor = tt
receiver_proper c false true = (given UninitThis refl, tt)
receiver_proper c false false = (given (Object (typed 0 (base.Class c))) refl, tt)

entry_proper : (w : World) (c : ClassId) (m : DeclaredMethod) → AreProper (entry_locals w c m)
entry_proper w c m =
    let params = params_of (method_text m.descriptor) in
    let argument = λ (f : FieldText). option_map slot_of_type (type_in w f) in
    all_append IsProper (receiver_entry c m) (map argument params) (receiver_proper c m.is_static (is_constructor_name m.name)) (all_to_map IsProper argument params (all_from _ (argument_proper w) params))

-- ---- a frame

halves_are : (vs : List VType) → halves_stand (flat_map local_slots vs) ≡ true
halves_are [] = refl
halves_are (Long ∷ vs) = halves_are vs
halves_are (Top ∷ vs) = halves_are vs
halves_are (Int ∷ vs) = halves_are vs
halves_are (Null ∷ vs) = halves_are vs
halves_are (UninitThis ∷ vs) = halves_are vs
halves_are (Uninit place ∷ vs) = halves_are vs
halves_are (Object ty ∷ vs) = halves_are vs

locals_proper : (vs : List VType) → list_all is_proper vs ≡ true → list_all is_proper (flat_map local_slots vs) ≡ true
locals_proper [] all = refl
locals_proper (Long ∷ vs) all = locals_proper vs all
locals_proper (Top ∷ vs) all = locals_proper vs all
locals_proper (Int ∷ vs) all = locals_proper vs all
locals_proper (Null ∷ vs) all = locals_proper vs all
locals_proper (UninitThis ∷ vs) all = locals_proper vs all
locals_proper (Uninit place ∷ vs) all = locals_proper vs all
locals_proper (Object ty ∷ vs) all = let parts = and_parts (is_reference ty) (list_all is_proper vs) all in and_from _ _ parts.0 (locals_proper vs parts.1)

record EntriesProper (e : Entries) : Type 0 where
  locals : AreProper e.locals
  stack : AreProper e.stack

frame_proper : (e : Entries) (frame : Frame) → EntriesProper e → frame_of e ≡ Some frame → frame_is_proper frame ≡ true
frame_proper e frame f there =
    let a = applied_parts (option_map frame_with (each_of itself e.locals)) (each_of itself e.stack) frame there in
    let m = mapped frame_with (each_of itself e.locals) a.fn a.fn_is in
    let is : frame_with m.x a.arg ≡ frame = ap (λ (make : List VType → Frame). make a.arg) m.is ∙ a.is in
    let locals = locals_proper m.x (each_of_all itself is_proper e.locals m.x f.locals m.there) in
    let stack = each_of_all itself is_proper e.stack a.arg f.stack a.arg_is in
    subst (λ x. frame_is_proper x ≡ true) is (and_from _ _ locals (and_from _ _ stack (halves_are m.x)))

placed_proper : (at : ℕ) (e : Entries) (x : ℕ × Frame) → EntriesProper e → placed_frame at e ≡ Some x → frame_is_proper x.1 ≡ true
placed_proper at e x f there =
    let m = mapped (λ (frame : Frame). (at, frame)) (frame_of e) x there in
    subst (λ (y : ℕ × Frame). frame_is_proper y.1 ≡ true) m.is (frame_proper e m.x f m.there)

-- ---- all frames

entries_proper : (w : World) (pool : List Entry) (locals : Slots) (f : FrameForm) → AreProper locals → EntriesProper (entries_of w pool locals f)
entries_proper w pool locals (Same delta) l = record { locals = l; stack = tt }
entries_proper w pool locals (SameLocals1StackItem delta item) l = record { locals = l; stack = slots_proper w pool (item ∷ []) }
entries_proper w pool locals (SameLocals1StackItemExtended delta item) l = record { locals = l; stack = slots_proper w pool (item ∷ []) }
entries_proper w pool locals (Chop count delta) l = record { locals = taken_there IsProper (length locals - count) locals l; stack = tt }
entries_proper w pool locals (SameExtended delta) l = record { locals = l; stack = tt }
entries_proper w pool locals (Append delta more) l = record { locals = all_append IsProper locals (map (slot_in w pool) more) l (slots_proper w pool more); stack = tt }
entries_proper w pool locals (Full delta all stack) l = record { locals = slots_proper w pool all; stack = slots_proper w pool stack }

abbrev all_proper : List (ℕ × Frame) → Bool
all_proper frames = list_all (λ e. frame_is_proper e.1) frames

all_are : (w : World) (pool : List Entry) (before : Option ℕ) (locals : Slots) (fs : List FrameForm) (frames : List (ℕ × Frame)) → AreProper locals → each_of itself (frames_from w pool before locals fs) ≡ Some frames → all_proper frames ≡ true
unfolding frames_from
all_are w pool before locals [] frames l e = subst (λ xs. all_proper xs ≡ true) (same_Some [] frames e) refl
all_are w pool before locals (f ∷ fs) frames l e =
    let at = place_after before (delta_of f) in
    let en = entries_of w pool locals f in
    let t = entries_proper w pool locals f l in
    let h = first_and (placed_frame at en) (each_of itself (frames_from w pool (Some at) en.locals fs)) frames e in
    subst (λ xs. all_proper xs ≡ true) (sym h.is) (and_from _ _ (placed_proper at en h.x t h.first_is) (all_are w pool (Some at) en.locals fs h.xs t.locals h.others_are))

-- ---- all methods

body_proper : (w : World) (file : ClassFile) (c : ClassId) (method : MemberInfo) (code : Option Code) (body : Body) → body_in w file c method code ≡ Some body → all_proper body.frames ≡ true
body_proper w file c method None body e = subst (λ b. all_proper b.frames ≡ true) (same_Some no_body body e) refl
body_proper w file c method (Some code) body e =
    let b = body_parts w file c method code body e in
    let m = declared_method file method in
    subst (λ x. all_proper x.frames ≡ true) (sym b.is) (all_are w file.constant_pool None (entry_locals w c m) (tables_in code) b.frames (entry_proper w c m) b.frames_are)

method_proper : (w : World) (file : ClassFile) (c : ClassId) (method : MemberInfo) (y : Method) → linked_method w file c method ≡ Some y → frames_are_proper y ≡ true
unfolding frames_are_proper
method_proper w file c method y e =
    let m = method_parts w file c method y e in
    subst (λ x. all_proper x.frames ≡ true) (sym m.is) (body_proper w file c method (code_attribute method) m.body m.body_is)

built_in_proper : (form : Form) (n : ℕ) → list_all frames_are_proper (built_in_methods_in form n) ≡ true
unfolding frames_are_proper
built_in_proper Plain n = refl
built_in_proper Woven n = refl

module _ (in_parts : LinkedInParts) where
  each_method : (test : Method → Bool) → ((w : World) (file : ClassFile) (c : ClassId) (method : MemberInfo) (y : Method) → linked_method w file c method ≡ Some y → test y ≡ true)
      → ((form : Form) (n : ℕ) → list_all test (built_in_methods_in form n) ≡ true) → (files : List ClassFile) (form : Form) (p : Program) → LinksWell files form p → list_all test p.methods ≡ true
  each_method test own built_in files form p l =
      let parts = in_parts files form p l.linked in
      let w = world_of files form in
      let of_files = members_pass test (λ file. file.methods) (linked_method w) 0 files parts.methods (each_file _ (λ file c. all_from _ (own w file c) file.methods) 0 files) parts.methods_are in
      subst (λ q. list_all test q.methods ≡ true) (sym parts.is) (list_all-append test parts.methods (built_in_methods_in form (length files)) ∙ and_from _ _ of_files (built_in form (length files)))

  pub frames_are_proper_there : FramesAreProper
  frames_are_proper_there = each_method frames_are_proper method_proper built_in_proper
