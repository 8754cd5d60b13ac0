-- The places of frames increase: each stands behind the place of the one before.
use Rattle.std.proofs.Common.{◌≡◌, ℕ, ◌<◌, Bool, true, List, [], ◌∷◌, length, Option, Some, None, refl, ap, sym, subst, ◌∙◌, arith}
use Rattle.std.specs.Prelude.{option_map}
use Rattle.std.specs.List.{list_all}
use Rattle.std.proofs.lemmas.Bool.{and_from, lt-ltb}
use Rattle.std.proofs.lemmas.List.Folds.{list_all-append}
use Rattle.std.proofs.lemmas.Option.{same_Some, none-some}
use Rattle.kilim_class_attributes.specs.declared.parts.frame.Frame.{Frame as FrameForm}
use Rattle.kilim_class_attributes.specs.declared.attribute.Code.{Code}
use Rattle.kilim_class_file.specs.declared.class_file.ClassFile.{ClassFile}
use Rattle.kilim_class_file.specs.declared.class_file.MemberInfo.{MemberInfo}
use Rattle.kilim_class_pool.specs.declared.entry.Entry.{Entry}
use Rattle.kilim_program.specs.declared.class.Form.{Form}
use Rattle.kilim_program.specs.declared.class.Form.TheVariants.{Plain, Woven}
use Rattle.kilim_program.specs.declared.class.Method.{Method}
use Rattle.kilim_program.specs.declared.names.ClassId.{ClassId}
use Rattle.kilim_program.specs.declared.verified.Frame.{Frame}
use Rattle.kilim_program.specs.declared.verified.VType.{VType}
use Rattle.kilim_program.specs.BuiltIn.{built_in_methods_in}
use Rattle.kilim_program.specs.Lengths.{places_increase}
use Rattle.kilim_link_spec.specs.Laws.{LinkedInParts}
use Rattle.kilim_link_spec.specs.Linked.{no_body, body_in, code_attribute, linked_method}
use Rattle.kilim_link_spec.specs.declared.named.Body.{Body}
use Rattle.kilim_link_spec.specs.Frames.{frames_from, entries_of, placed_frame, place_after, delta_of, frame_of, entry_locals, tables_in}
use Rattle.kilim_link_spec.specs.Types.{each_of, itself}
use Rattle.kilim_link_spec.specs.World.{World, world_of, declared_method}
use Rattle.kilim_link_laws.proofs.code_laws.Lists.{first_and, all_from, each_file, members_pass}
use Rattle.kilim_link_laws.proofs.code_laws.Members.{body_parts, method_parts}
use Rattle.kilim_link_laws.specs.code_laws.Facts.{FramesIncrease}

-- the first frame stands behind that place, if there is one
abbrev IsBehind : Option ℕ → List (ℕ × Frame) → Type 0
IsBehind None frames = Unit {0}
IsBehind (Some at) [] = Unit {0}
IsBehind (Some at) (e ∷ es) = at < e.0

in_place : (at : ℕ) (frame : Option Frame) (e : ℕ × Frame) → option_map (λ (f : Frame). (at, f)) frame ≡ Some e → e.0 ≡ at
in_place at None e is = absurd (none-some e is)
in_place at (Some f) e is = ap (λ (x : ℕ × Frame). x.0) (sym (same_Some (at, f) e is))

behind : (before : Option ℕ) (delta : ℕ) (e : ℕ × Frame) (es : List (ℕ × Frame)) → e.0 ≡ place_after before delta → IsBehind before (e ∷ es)
behind None delta e es is = tt
behind (Some at) delta e es is = omega (arith, is)

one_more : (e : ℕ × Frame) (es : List (ℕ × Frame)) → IsBehind (Some e.0) es → places_increase es ≡ true → places_increase (e ∷ es) ≡ true
unfolding places_increase
one_more e [] b inc = refl
one_more e (next ∷ es) b inc = and_from _ _ (lt-ltb e.0 next.0 b) inc

nothing_behind : (before : Option ℕ) → IsBehind before []
nothing_behind None = tt
nothing_behind (Some at) = tt

abbrev Rise : Option ℕ → List (ℕ × Frame) → Type 0
Rise before frames = IsBehind before frames × (places_increase frames ≡ true)

rise_nothing : (before : Option ℕ) → Rise before []
unfolding places_increase
rise_nothing before = (nothing_behind before, refl)

rise : (w : World) (pool : List Entry) (before : Option ℕ) (locals : List (Option VType)) (fs : List FrameForm) (frames : List (ℕ × Frame)) → each_of itself (frames_from w pool before locals fs) ≡ Some frames → Rise before frames
unfolding frames_from
rise w pool before locals [] frames e = subst (λ zs. Rise before zs) (same_Some [] frames e) (rise_nothing before)
rise w pool before locals (f ∷ fs) frames e =
    let at = place_after before (delta_of f) in
    let en = entries_of w pool locals f in
    let g = first_and (placed_frame at en) (each_of itself (frames_from w pool (Some at) en.locals fs)) frames e in
    let r = rise w pool (Some at) en.locals fs g.xs g.others_are in
    let is = in_place at (frame_of en) g.x g.first_is in
    subst (λ zs. Rise before zs) (sym g.is) (behind before (delta_of f) g.x g.xs is, one_more g.x g.xs (subst (λ k. IsBehind (Some k) g.xs) (sym is) r.0) r.1)

none_increase : places_increase {A = Frame} [] ≡ true
unfolding places_increase
none_increase = refl

body_frames : (w : World) (file : ClassFile) (c : ClassId) (method : MemberInfo) (code : Option Code) (body : Body) → body_in w file c method code ≡ Some body → places_increase body.frames ≡ true
body_frames w file c method None body e = subst (λ b. places_increase b.frames ≡ true) (same_Some no_body body e) none_increase
body_frames w file c method (Some code) body e =
    let b = body_parts w file c method code body e in
    subst (λ x. places_increase x.frames ≡ true) (sym b.is) (rise w file.constant_pool None (entry_locals w c (declared_method file method)) (tables_in code) b.frames b.frames_are).1

method_frames : (w : World) (file : ClassFile) (c : ClassId) (method : MemberInfo) (y : Method) → linked_method w file c method ≡ Some y → places_increase y.frames ≡ true
method_frames w file c method y e =
    let m = method_parts w file c method y e in
    subst (λ x. places_increase x.frames ≡ true) (sym m.is) (body_frames w file c method (code_attribute method) m.body m.body_is)

built_in_frames : (form : Form) (n : ℕ) → list_all (λ m. places_increase m.frames) (built_in_methods_in form n) ≡ true
unfolding places_increase
built_in_frames Plain n = refl
built_in_frames Woven n = refl

module _ (in_parts : LinkedInParts) where
  pub frames_increase : FramesIncrease
  frames_increase files form p l =
      let parts = in_parts files form p l.linked in
      let w = world_of files form in
      let test : Method → Bool = λ m. places_increase m.frames in
      let own = members_pass test (λ file. file.methods) (linked_method w) 0 files parts.methods (each_file _ (λ file c. all_from _ (method_frames w file c) file.methods) 0 files) parts.methods_are in
      subst (λ q. list_all test q.methods ≡ true) (sym parts.is) (list_all-append test parts.methods (built_in_methods_in form (length files)) ∙ and_from _ _ own (built_in_frames form (length files)))
