-- A type in a world says its text: no two class names have one number.
use Rattle.std.proofs.Common.{◌≡◌, ℕ, true, ◌==◌, List, [], ◌∷◌, map, slice_get, Option, Some, None, option_map, refl, sym, ap, ◌∙◌, eqb-true}
use Rattle.std.proofs.lemmas.Bool.{and_parts}
use Rattle.std.proofs.lemmas.Option.{same_Some, none-some}
use Rattle.kilim_class_file.specs.declared.class_file.ClassFile.{ClassFile}
use Rattle.kilim_class_descriptors.specs.declared.types.BaseText.{BaseText}
use Rattle.kilim_class_descriptors.specs.declared.types.BaseText.TheVariants as text
use Rattle.kilim_class_descriptors.specs.declared.types.FieldText.{FieldText}
use Rattle.kilim_class_descriptors.specs.declared.types.MethodText.{MethodText}
use Rattle.kilim_class_descriptors.specs.Text.{field_text as text_of_field, method_text as text_of_method}
use Rattle.kilim_program.specs.declared.class.Form.{Form}
use Rattle.kilim_program.specs.declared.names.ClassId.{ClassId}
use Rattle.kilim_program.specs.declared.ty.Base.{Base}
use Rattle.kilim_program.specs.declared.ty.Base.TheVariants as base
use Rattle.kilim_program.specs.declared.ty.Ty.{Ty}
use Rattle.kilim_program.specs.Same.{same_base, same_result, same_type, same_types}
use Rattle.kilim_link_spec.specs.Types.{base_in, each_of, field_text, method_text, result_in, type_in, typed, types_in}
use Rattle.kilim_link_spec.specs.World.{World, class_of, world_of}
use Rattle.kilim_link_spec.specs.declared.view.ClassView.{ClassView}
use Rattle.kilim_link_laws.proofs.Descriptors.{field_text_is, method_text_is}
use Rattle.kilim_link_laws.proofs.Made.{first_of}
use Rattle.kilim_link_laws.proofs.Unique.{found_view, views}

-- ---- types that are the same

pub class_same : (a b : ClassId) → a.0 ≡ b.0 → a ≡ b
class_same a b e = ap (λ (n : ℕ). record { 0 = n }) e

pub base_same : (a b : Base) → same_base a b ≡ true → a ≡ b
base_same base.Bool base.Bool e = refl
base_same base.Byte base.Byte e = refl
base_same base.Char base.Char e = refl
base_same base.Short base.Short e = refl
base_same base.Int base.Int e = refl
base_same base.Long base.Long e = refl
base_same (base.Class a) (base.Class b) e = ap base.Class (class_same a b (eqb-true a.0 b.0 e))
base_same _ _ e = absurd (cc)

pub type_same : (a b : Ty) → same_type a b ≡ true → a ≡ b
type_same a b e =
    let parts = and_parts (a.dims == b.dims) (same_base a.base b.base) e in
    ap (λ (n : ℕ). typed n a.base) (eqb-true a.dims b.dims parts.0) ∙ ap (typed b.dims) (base_same a.base b.base parts.1)

pub types_same : (xs ys : List Ty) → same_types xs ys ≡ true → xs ≡ ys
types_same [] [] e = refl
types_same [] (y ∷ ys) e = absurd (cc)
types_same (x ∷ xs) [] e = absurd (cc)
types_same (x ∷ xs) (y ∷ ys) e =
    let parts = and_parts (same_type x y) (same_types xs ys) e in
    ap (λ (z : Ty). z ∷ xs) (type_same x y parts.0) ∙ ap (λ (zs : List Ty). y ∷ zs) (types_same xs ys parts.1)

pub result_same : (a b : Option Ty) → same_result a b ≡ true → a ≡ b
result_same None None e = refl
result_same None (Some b) e = absurd (cc)
result_same (Some a) None e = absurd (cc)
result_same (Some a) (Some b) e = ap Some (type_same a b e)

-- ---- the text of a type

abbrev name_of_view : Option ClassView → List ℕ
name_of_view None = []
name_of_view (Some v) = v.name

module _ (files : List ClassFile) (form : Form) where
  abbrev w : World
  w = world_of files form

  abbrev pub base_back : Base → BaseText
  base_back base.Bool = text.Bool
  base_back base.Byte = text.Byte
  base_back base.Char = text.Char
  base_back base.Short = text.Short
  base_back base.Int = text.Int
  base_back base.Long = text.Long
  base_back (base.Class c) = text.Class (name_of_view (slice_get (views files form) c.0))

  abbrev pub back : Ty → FieldText
  back ty = record { dims = ty.dims; base = base_back ty.base }

  class_back : (name : List ℕ) (b : Base) (o : Option ClassId) → class_of w name ≡ o → option_map base.Class o ≡ Some b → text.Class name ≡ base_back b
  class_back name b None is e = absurd (none-some b e)
  class_back name b (Some c) is e =
      let v = found_view files form name c is in
      ap text.Class (sym v.is ∙ ap name_of_view (sym v.at)) ∙ ap base_back (same_Some (base.Class c) b e)

  base_is : (x : BaseText) (b : Base) → base_in w x ≡ Some b → x ≡ base_back b
  base_is text.Bool b e = ap base_back (same_Some base.Bool b e)
  base_is text.Byte b e = ap base_back (same_Some base.Byte b e)
  base_is text.Char b e = ap base_back (same_Some base.Char b e)
  base_is text.Short b e = ap base_back (same_Some base.Short b e)
  base_is text.Int b e = ap base_back (same_Some base.Int b e)
  base_is text.Long b e = ap base_back (same_Some base.Long b e)
  base_is text.Float b e = absurd (none-some b e)
  base_is text.Double b e = absurd (none-some b e)
  base_is (text.Class name) b e = class_back name b (class_of w name) refl e

  type_by : (f : FieldText) (ty : Ty) (o : Option Base) → base_in w f.base ≡ o → option_map (typed f.dims) o ≡ Some ty → f ≡ back ty
  type_by f ty None is e = absurd (none-some ty e)
  type_by f ty (Some b) is e = ap (λ (x : BaseText). record { dims = f.dims; base = x }) (base_is f.base b is) ∙ ap back (same_Some (typed f.dims b) ty e)

  pub type_is : (f : FieldText) (ty : Ty) → type_in w f ≡ Some ty → f ≡ back ty
  type_is f ty e = type_by f ty (base_in w f.base) refl e

  pub types_are : (fs : List FieldText) (tys : List Ty) → types_in w fs ≡ Some tys → fs ≡ map back tys
  types_are [] tys e = ap (map back) (same_Some [] tys e)
  types_are (f ∷ fs) tys e =
      let parts = first_of (type_in w f) (each_of (type_in w) fs) tys e in
      ap (λ (x : FieldText). x ∷ fs) (type_is f parts.first parts.first_is)
      ∙ (ap (λ (xs : List FieldText). back parts.first ∷ xs) (types_are fs parts.rest parts.rest_is) ∙ ap (map back) (sym parts.is))

  result_by : (f : FieldText) (result : Option Ty) (o : Option Ty) → type_in w f ≡ o → option_map Some o ≡ Some result → Some f ≡ option_map back result
  result_by f result None is e = absurd (none-some result e)
  result_by f result (Some ty) is e = ap Some (type_is f ty is) ∙ ap (option_map back) (same_Some (Some ty) result e)

  pub result_is : (f : Option FieldText) (result : Option Ty) → result_in w f ≡ Some result → f ≡ option_map back result
  result_is None result e = ap (option_map back) (same_Some None result e)
  result_is (Some f) result e = result_by f result (type_in w f) refl e

-- ---- descriptors

-- a method's descriptor has these types
pub record Resolves (w : World) (descriptor : List ℕ) (params : List Ty) (result : Option Ty) : Type 0 where
  pub text : MethodText
  pub text_is : method_text descriptor ≡ Some text
  pub params_are : types_in w text.params ≡ Some params
  pub result_is : result_in w text.result ≡ Some result

abbrev back_to : List ClassFile → Form → List Ty → Option Ty → List ℕ
back_to files form params result = text_of_method (record { params = map (back files form) params; result = option_map (back files form) result })

-- it is the text of them
descriptor_is : (files : List ClassFile) (form : Form) (descriptor : List ℕ) (params : List Ty) (result : Option Ty) → Resolves (world_of files form) descriptor params result → descriptor ≡ back_to files form params result
descriptor_is files form descriptor params result r =
    method_text_is descriptor r.text r.text_is
    ∙ (ap (λ (fs : List FieldText). text_of_method (record { params = fs; result = r.text.result })) (types_are files form r.text.params params r.params_are)
    ∙ ap (λ (f : Option FieldText). text_of_method (record { params = map (back files form) params; result = f })) (result_is files form r.text.result result r.result_is))

-- the same types are those of the same text
pub same_descriptor : (files : List ClassFile) (form : Form) (d e : List ℕ) (params others : List Ty) (result other : Option Ty) → Resolves (world_of files form) d params result → Resolves (world_of files form) e others other →
    params ≡ others → result ≡ other → d ≡ e
same_descriptor files form d e params others result other r s same_params same =
    descriptor_is files form d params result r
    ∙ (ap (λ (ps : List Ty). back_to files form ps result) same_params
    ∙ (ap (back_to files form others) same ∙ sym (descriptor_is files form e others other s)))

-- and of a field's
pub same_field_text : (files : List ClassFile) (form : Form) (d e : List ℕ) (f g : FieldText) (a b : Ty) → field_text d ≡ Some f → field_text e ≡ Some g → type_in (world_of files form) f ≡ Some a → type_in (world_of files form) g ≡ Some b → a ≡ b → d ≡ e
same_field_text files form d e f g a b read also is too same =
    field_text_is d f read
    ∙ (ap text_of_field (type_is files form f a is ∙ (ap (back files form) same ∙ sym (type_is files form g b too))) ∙ sym (field_text_is e g also))

-- ---- one text has one list of types

pub same_types_of : (w : World) (d e : List ℕ) (params others : List Ty) (result other : Option Ty) → Resolves w d params result → Resolves w e others other → d ≡ e → (params ≡ others) × (result ≡ other)
same_types_of w d e params others result other r s same =
    let texts : r.text ≡ s.text = same_Some r.text s.text (sym r.text_is ∙ (ap method_text same ∙ s.text_is)) in (
      same_Some params others (sym r.params_are ∙ (ap (λ (t : MethodText). types_in w t.params) texts ∙ s.params_are)),
      same_Some result other (sym r.result_is ∙ (ap (λ (t : MethodText). result_in w t.result) texts ∙ s.result_is)),
    )
