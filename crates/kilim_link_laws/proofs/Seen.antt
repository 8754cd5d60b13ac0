-- A method of a linked program, and the method as its class declares it in the world.
use Rattle.std.proofs.Common.{◌≡◌, ℕ, ◌+◌, Bool, true, ◌&&◌, List, [], ◌∷◌, map, length, slice_get, Option, Some, None, option_map, option_to_list, refl, ap, subst, ◌∙◌, ltb-true}
use Rattle.std.specs.List.{list_all}
use Rattle.std.proofs.lemmas.Bool.{and_parts}
use Rattle.kilim_lemmas.proofs.Lists.{get_some}
use Rattle.kilim_class_file.specs.declared.class_file.ClassFile.{ClassFile}
use Rattle.kilim_class_file.specs.declared.class_file.MemberInfo.{MemberInfo}
use Rattle.kilim_class_descriptors.specs.declared.types.BaseText.{BaseText}
use Rattle.kilim_class_descriptors.specs.declared.types.BaseText.TheVariants as text
use Rattle.kilim_class_descriptors.specs.declared.types.FieldText.{FieldText}
use Rattle.kilim_class_descriptors.specs.declared.types.MethodText.{MethodText}
use Rattle.kilim_class_descriptors.specs.Reading.{base_at, class_at, field_at, field_behind, param_at, params_at, result_at, whole_method}
use Rattle.kilim_program.specs.declared.class.Class.{Class}
use Rattle.kilim_program.specs.declared.class.Field.{Field}
use Rattle.kilim_program.specs.declared.class.Form.{Form}
use Rattle.kilim_program.specs.declared.class.Form.TheVariants.{Plain, Woven}
use Rattle.kilim_program.specs.declared.class.Method.{Method}
use Rattle.kilim_program.specs.declared.names.ClassId.{ClassId}
use Rattle.kilim_program.specs.declared.ty.Base.{Base}
use Rattle.kilim_program.specs.declared.ty.Base.TheVariants as base
use Rattle.kilim_program.specs.declared.ty.Ty.{Ty}
use Rattle.kilim_program.specs.BuiltIn.{built_in_classes_in, built_in_methods_in}
use Rattle.kilim_program.specs.Keeps.{has_base, has_type}
use Rattle.kilim_program.specs.Names.{class_name}
use Rattle.kilim_link_spec.specs.Qualified.{qualified}
use Rattle.kilim_link_spec.specs.Types.{base_in, method_text, result_in, type_in, typed, types_in, with_first}
use Rattle.kilim_link_spec.specs.World.{World, built_ins, class_of, declared_built_in, declared_method, method_descriptor, view_of_built_in, world_of}
use Rattle.kilim_link_spec.specs.declared.view.DeclaredMethod.{DeclaredMethod}
use Rattle.kilim_link_laws.proofs.LinkedMembers.{LinkedMethod}
use Rattle.kilim_link_laws.proofs.Linking.{Linking}
use Rattle.kilim_link_laws.proofs.Lists.{all_at}
use Rattle.kilim_link_laws.proofs.Outline as outline
use Rattle.kilim_link_laws.proofs.Outline.{map_same_at}
use Rattle.kilim_link_laws.proofs.Resolved.{Resolves}
use Rattle.kilim_link_laws.proofs.Shifted.{shift_base, shift_class, shift_method, shift_type}
use Rattle.kilim_link_laws.proofs.Unique.{class_of_is, number_at}

pub record Seen (w : World) (c : ClassId) (d : DeclaredMethod) (m : Method) : Type 0 where
  pub name : d.name ≡ m.name
  pub types : Resolves w d.descriptor m.params m.result
  pub static : d.is_static ≡ m.is_static
  pub private : d.is_private ≡ m.is_private
  pub abstracts : d.is_abstract ≡ m.is_abstract
  pub pausable : d.pausable ≡ m.pausable
  pub qualifiers : qualified w c d ≡ record { receiver = m.receiver; params = m.qualifiers }

-- ---- of a file

pub seen_own : (w : World) (file : ClassFile) (c : ClassId) (member : MemberInfo) (method : Method) → LinkedMethod w file c member method → Seen w c (declared_method file member) method
seen_own w file c member method m =
    subst (Seen w c (declared_method file member)) m.is (record {
      name = refl;
      types = record { text = m.text; text_is = m.text_is; params_are = m.params_are; result_is = m.result_is };
      static = refl;
      private = refl;
      abstracts = refl;
      pausable = refl;
      qualifiers = refl;
    })

-- ---- built in

abbrev base_text : Form → Base → BaseText
base_text form base.Bool = text.Bool
base_text form base.Byte = text.Byte
base_text form base.Char = text.Char
base_text form base.Short = text.Short
base_text form base.Int = text.Int
base_text form base.Long = text.Long
base_text form (base.Class c) = text.Class (class_name (built_ins form) c)

abbrev type_text : Form → Ty → FieldText
type_text form ty = record { dims = ty.dims; base = base_text form ty.base }

abbrev text_of : Form → Method → MethodText
text_of form m = record { params = map (type_text form) m.params; result = option_map (type_text form) m.result }

-- each descriptor is read as its types
texts_read : (form : Form) → map (λ (m : Method). method_text (method_descriptor (built_ins form) m)) (built_in_methods_in form 0) ≡ map (λ (m : Method). Some (text_of form m)) (built_in_methods_in form 0)
unfolding whole_method params_at param_at result_at field_at field_behind base_at class_at
texts_read Plain = refl
texts_read Woven = refl

abbrev types_there : Form → Method → Bool
types_there form m = list_all (has_type (built_ins form)) m.params && list_all (has_type (built_ins form)) (option_to_list m.result)

all_there : (form : Form) → list_all (types_there form) (built_in_methods_in form 0) ≡ true
all_there Plain = refl
all_there Woven = refl

module _ (files : List ClassFile) (form : Form) (classes : List Class) (fields : List Field) (methods : List Method) (l : Linking files form classes fields methods) where
  abbrev w : World
  w = world_of files form

  abbrev len : ℕ
  len = length files

  class_is : (c : ClassId) (class : Class) → slice_get (built_in_classes_in form 0 0) c.0 ≡ Some class → class_of w (class_name (built_ins form) c) ≡ Some (shift_class len c)
  class_is c class there =
      let v = view_of_built_in (built_ins form) class in
      ap (λ (o : Option Class). class_of w (elim o [ None ↦ [] | Some k ↦ k.name ])) there
      ∙ (class_of_is files form v.name ∙ number_at files form classes fields methods l (len + c.0) v (outline.built_view_at files form classes fields methods l c.0 class there))

  base_is : (b : Base) → has_base (built_ins form) b ≡ true → base_in w (base_text form b) ≡ Some (shift_base len b)
  base_is base.Bool has = refl
  base_is base.Byte has = refl
  base_is base.Char has = refl
  base_is base.Short has = refl
  base_is base.Int has = refl
  base_is base.Long has = refl
  base_is (base.Class c) has =
      let there = get_some (built_in_classes_in form 0 0) c.0 (ltb-true c.0 (length (built_in_classes_in form 0 0)) has) in
      ap (option_map base.Class) (class_is c there.0 there.1)

  type_is : (ty : Ty) → has_type (built_ins form) ty ≡ true → type_in w (type_text form ty) ≡ Some (shift_type len ty)
  type_is ty has = ap (option_map (typed ty.dims)) (base_is ty.base has)

  types_are : (tys : List Ty) → list_all (has_type (built_ins form)) tys ≡ true → types_in w (map (type_text form) tys) ≡ Some (map (shift_type len) tys)
  types_are [] has = refl
  types_are (ty ∷ tys) has =
      let parts = and_parts (has_type (built_ins form) ty) (list_all (has_type (built_ins form)) tys) has in
      ap (λ (o : Option Ty). with_first o (types_in w (map (type_text form) tys))) (type_is ty parts.0) ∙ ap (with_first (Some (shift_type len ty))) (types_are tys parts.1)

  result_is : (o : Option Ty) → list_all (has_type (built_ins form)) (option_to_list o) ≡ true → result_in w (option_map (type_text form) o) ≡ Some (option_map (shift_type len) o)
  result_is None has = refl
  result_is (Some ty) has = ap (option_map Some) (type_is ty (and_parts (has_type (built_ins form) ty) true has).0)

  pub seen_built_in : (c : ClassId) (k : ℕ) (m : Method) → slice_get (built_in_methods_in form 0) k ≡ Some m → Seen w c (declared_built_in (built_ins form) m) (shift_method len m)
  unfolding qualified
  seen_built_in c k m there =
      let read = map_same_at (λ (x : Method). method_text (method_descriptor (built_ins form) x)) (λ (x : Method). Some (text_of form x)) (built_in_methods_in form 0) (texts_read form) k m there in
      let has = and_parts (list_all (has_type (built_ins form)) m.params) (list_all (has_type (built_ins form)) (option_to_list m.result)) (all_at (types_there form) (built_in_methods_in form 0) (all_there form) k m there) in
      record {
        name = refl;
        types = record { text = text_of form m; text_is = read; params_are = types_are m.params has.0; result_is = result_is m.result has.1 };
        static = refl;
        private = refl;
        abstracts = refl;
        pausable = refl;
        qualifiers = refl;
      }
