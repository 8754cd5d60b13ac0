-- The last classes are the built-in ones, and of the other methods exactly the abstract ones have no code.
use Rattle.std.proofs.Common.{◌≡◌, ℕ, ◌<◌, Bool, true, false, ◌&&◌, ◌||◌, ◌==◌, not, List, [], ◌∷◌, ◌++◌, map, length, slice_get, Option, Some, None, filter, filter_map, is_some, refl, sym, ap, subst, ◌∙◌, ne_eqb, arith}
use Rattle.std.specs.List.{cons_option, list_all}
use Rattle.std.proofs.lemmas.Bool.{and_from, not_from_false}
use Rattle.std.proofs.lemmas.Option.{same_Some, none-some}
use Rattle.kilim_lemmas.proofs.Lists.{front_none, map_none, get_left}
use Rattle.kilim_class_attributes.specs.declared.attribute.Attribute.{Attribute}
use Rattle.kilim_class_attributes.specs.declared.attribute.Code.{Code}
use Rattle.kilim_class_attributes.specs.declared.attribute.Info.{Info}
use Rattle.kilim_class_attributes.specs.declared.attribute.Info.TheVariants as info
use Rattle.kilim_class_attributes.specs.declared.attribute.Place.TheVariants as place
use Rattle.kilim_class_attributes.specs.Attributes.{AttributeFits, InfoFits}
use Rattle.kilim_class_attributes.specs.Codes.{CodeFits}
use Rattle.kilim_class_attributes.specs.Lists.{EachAfter}
use Rattle.kilim_class_file.specs.declared.class_file.ClassFile.{ClassFile}
use Rattle.kilim_class_file.specs.declared.class_file.MemberInfo.{MemberInfo}
use Rattle.kilim_class_file.specs.Parts.{differs, has_code, has_its_code, is_bodiless, is_code}
use Rattle.kilim_class_file.specs.Text.{MethodFits}
use Rattle.kilim_class_pool.specs.declared.entry.Entry.{Entry}
use Rattle.kilim_program.specs.declared.class.Class.{Class}
use Rattle.kilim_program.specs.declared.class.Field.{Field}
use Rattle.kilim_program.specs.declared.class.Form.{Form}
use Rattle.kilim_program.specs.declared.class.Method.{Method}
use Rattle.kilim_program.specs.declared.names.ClassId.{ClassId}
use Rattle.kilim_program.specs.Program.{Program}
use Rattle.kilim_program.specs.BuiltIn.{built_in_classes_in, built_in_fields, built_in_methods_in, class_id}
use Rattle.kilim_program.specs.Keeps.{EndsBuiltIn}
use Rattle.kilim_program.specs.Same.{same_flag}
use Rattle.kilim_link_spec.specs.Code.{code_of, decoded}
use Rattle.kilim_link_spec.specs.Faults.{abstract_left, is_left_here}
use Rattle.kilim_link_spec.specs.Frames.{frames_in}
use Rattle.kilim_link_spec.specs.Laws.{LinkedInParts, NoProblem, NoneHasAProblem, NoneOfEachKind}
use Rattle.kilim_link_spec.specs.Linked.{body_in, body_with, code_attribute, code_in, first_of, handlers_in, linked_method, no_body, program_with}
use Rattle.kilim_link_spec.specs.declared.named.Body.{Body}
use Rattle.kilim_link_spec.specs.World.{World, acc_abstract, acc_native, declared_method, declared_methods, has_flag, methods_at, view_of_file, world_of}
use Rattle.kilim_link_spec.specs.declared.view.DeclaredMethod.{DeclaredMethod}
use Rattle.kilim_link_laws.specs.Facts.{BuiltInIsLast}
use Rattle.kilim_link_laws.proofs.Flags.{bodiless_is_abstract}
use Rattle.kilim_link_laws.proofs.LeftOut.{nothing_left_out}
use Rattle.kilim_link_laws.proofs.LinkedMembers.{LinkedMethod, bound, linked_method_is}
use Rattle.kilim_link_laws.proofs.Linking.{Linking, linking, none_passes, of_each}
use Rattle.kilim_link_laws.proofs.Lists.{all_by_places, mapped_at, none_at}
use Rattle.kilim_link_laws.proofs.Members.{member_made}
use Rattle.kilim_link_laws.proofs.Origins as origins
use Rattle.kilim_link_laws.proofs.Unique.{built_views}

-- ---- no problem

-- none is abstract where its class isn't, and none abstract is private or static
not_left_here : (w : World) (file : ClassFile) (c : ClassId) → NoProblem w file c → filter (is_left_here (has_flag acc_abstract file.access_flags)) (declared_methods w c) ≡ []
unfolding abstract_left
not_left_here w file c n = front_none _ _ (map_none _ _ n.none_abstract)

-- ---- code

code_by : (pool : List Entry) (i : Info) (rest : List Code) (code : Code) → InfoFits pool i → (first_of rest ≡ Some code → CodeFits pool code) → first_of (cons_option (code_in i) rest) ≡ Some code → CodeFits pool code
code_by pool (info.Code c) rest code fits later e = subst (CodeFits pool) (same_Some c code e) fits
code_by pool _ rest code fits later e = later e

-- a Code attribute that is found has a text
code_fits : (pool : List Entry) (before attributes : List Attribute) (code : Code) → EachAfter (AttributeFits pool place.Method) before attributes → first_of (filter_map (λ (a : Attribute). code_in a.info) attributes) ≡ Some code → CodeFits pool code
code_fits pool before [] code each e = absurd (none-some code e)
code_fits pool before (a ∷ attributes) code each e =
    code_by pool a.info (filter_map (λ (b : Attribute). code_in b.info) attributes) code each.0.info (code_fits pool (before ++ a ∷ []) attributes code each.1) e

found_by : (i : Info) (rest : List Code) (b : Bool) → is_some (first_of rest) ≡ b → is_some (first_of (cons_option (code_in i) rest)) ≡ (is_code i || b)
found_by (info.Code c) rest b e = refl
found_by _ rest b e = e

found_code : (attributes : List Attribute) → is_some (first_of (filter_map (λ (a : Attribute). code_in a.info) attributes)) ≡ has_code attributes
found_code [] = refl
found_code (a ∷ attributes) = found_by a.info (filter_map (λ (b : Attribute). code_in b.info) attributes) (has_code attributes) (found_code attributes)

-- a method without Code is abstract, and one with Code isn't
abstract_alone : (is_abstract : Bool) → differs is_abstract false ≡ true → is_abstract ≡ true
abstract_alone true e = refl
abstract_alone false e = e

concrete_with : (is_abstract : Bool) → differs is_abstract true ≡ true → is_abstract ≡ false
concrete_with true e = absurd (cc)
concrete_with false e = refl

body_by : (w : World) (file : ClassFile) (c : ClassId) (member : MemberInfo) (o : Option Code) (body : Body) (is_abstract : Bool) → body_in w file c member o ≡ Some body →
    ((code : Code) → o ≡ Some code → 0 < length code.code) → differs is_abstract (is_some o) ≡ true → same_flag (body.code_length == 0) is_abstract ≡ true
body_by w file c member None body is_abstract made some e =
    ap (λ (b : Body). same_flag (b.code_length == 0) is_abstract) (sym (same_Some no_body body made)) ∙ abstract_alone is_abstract e
body_by w file c member (Some code) body is_abstract made some e =
    let instrs = bound (code_of w file.constant_pool (decoded code.code)) _ body made in
    let handlers = bound (handlers_in w file.constant_pool code.exception_table) _ body instrs.is in
    let frames = bound (frames_in w file c (declared_method file member) code) _ body handlers.is in
    let size = some code refl in
    ap (λ (b : Body). same_flag (b.code_length == 0) is_abstract) (sym (same_Some (body_with code instrs.of handlers.of frames.of) body frames.is))
    ∙ (ap (λ (b : Bool). same_flag b is_abstract) (ne_eqb (length code.code) 0 (λ none. omega (arith, none, size)))
    ∙ not_from_false is_abstract (concrete_with is_abstract e))

left_here : (is_abstract class private static : Bool) → (is_abstract && (not class || (private || static))) ≡ false → not (is_abstract && (private || static)) ≡ true
left_here true true private static e = not_from_false _ e
left_here true false private static e = absurd (cc)
left_here false class private static e = refl

module _ (files : List ClassFile) (form : Form) (classes : List Class) (fields : List Field) (methods : List Method) (l : Linking files form classes fields methods) where
  abbrev w : World
  w = world_of files form

  abbrev p : Program
  p = program_with files form classes fields methods

  abbrev is_whole : Method → Bool
  is_whole m = not m.built_in && (same_flag (m.code_length == 0) m.is_abstract && not (m.is_abstract && (m.is_private || m.is_static)))

  pub file_methods : (n : ℕ) (file : ClassFile) → slice_get files n ≡ Some file → declared_methods w (class_id n) ≡ map (declared_method file) file.methods
  unfolding world_of
  file_methods n file there = ap methods_at (get_left (map view_of_file files) (built_views form) n (view_of_file file) (mapped_at view_of_file files n file there))

  pub methods_there : (n : ℕ) (file : ClassFile) (i : ℕ) (member : MemberInfo) → slice_get files n ≡ Some file → slice_get file.methods i ≡ Some member → slice_get (declared_methods w (class_id n)) i ≡ Some (declared_method file member)
  methods_there n file i member there inside = ap (λ (ds : List DeclaredMethod). slice_get ds i) (file_methods n file there) ∙ mapped_at (declared_method file) file.methods i member inside

  whole_body : (c : ℕ) (i : ℕ) (file : ClassFile) (member : MemberInfo) (method : Method) → slice_get files c ≡ Some file → slice_get file.methods i ≡ Some member → LinkedMethod w file (class_id c) member method → is_whole method ≡ true
  unfolding has_its_code
  whole_body c i file member method there inside made =
      let n = l.none c file there in
      let parts = (l.fit c file there).parts in
      let fits = of_each (MethodFits file.constant_pool) file.methods parts.methods.1 i member inside in
      let plain = none_at (λ (m : MemberInfo). has_flag acc_native m.access_flags) file.methods (nothing_left_out w file (class_id c) n).native i member inside in
      let is_abstract = has_flag acc_abstract member.access_flags in
      let own = ap (λ (b : Bool). differs b (is_some (code_attribute member))) (sym (bodiless_is_abstract member.access_flags plain))
      ∙ (ap (differs (is_bodiless member.access_flags)) (found_code member.attributes) ∙ fits.code) in
      let body = body_by w file (class_id c) member (code_attribute member) made.body is_abstract made.body_is (λ code is. (code_fits file.constant_pool [] member.attributes code fits.member.attributes.each is).some) own in
      let declared = none_passes (is_left_here (has_flag acc_abstract file.access_flags)) (declared_methods w (class_id c)) (not_left_here w file (class_id c) n) i (declared_method file member) (methods_there c file i member there inside) in
      ap is_whole (sym made.is) ∙ and_from _ _ body (left_here is_abstract (has_flag acc_abstract file.access_flags) (declared_method file member).is_private (declared_method file member).is_static declared)

  pub bodies : list_all is_whole methods ≡ true
  bodies = all_by_places is_whole methods (λ j method at.
      let m = member_made (λ file. file.methods) (linked_method w) files methods l.methods_are j method at in
      whole_body m.class m.place m.file m.member method m.file_at m.member_at (linked_method_is w m.file (class_id m.class) m.member method m.made))

  pub ends_built_in : EndsBuiltIn p
  ends_built_in =
      let count = origins.count files form classes fields methods l in
      record {
        own_classes = classes;
        own_methods = methods;
        own_fields = fields;
        classes = ap (λ (n : ℕ). classes ++ built_in_classes_in form n (length methods)) (sym count);
        methods = ap (λ (n : ℕ). methods ++ built_in_methods_in form n) (sym count);
        fields = ap (λ (n : ℕ). built_in_fields n ++ fields) (sym count);
        bodies = bodies;
      }

module _ (in_parts : LinkedInParts) (none_has : NoneHasAProblem) (of_each : NoneOfEachKind) where
  pub built_in_is_last_of : BuiltInIsLast
  built_in_is_last_of files form p well = linking in_parts none_has of_each EndsBuiltIn files form p well (ends_built_in files form)
