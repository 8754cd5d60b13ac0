-- The types, fields and classes that good mentions name are there.
use Rattle.std.proofs.Common.{◌≡◌, ℕ, Bool, true, false, List, [], ◌∷◌, ◌++◌, Option, Some, None, refl, sym, subst, is_none}
use Rattle.std.specs.Prelude.{if◌then◌else◌}
use Rattle.std.specs.List.{flat_map, AllByRecursion}
use Rattle.std.proofs.lemmas.Bool.{false≢true}
use Rattle.kilim_class_descriptors.specs.declared.types.BaseText.{BaseText}
use Rattle.kilim_class_descriptors.specs.declared.types.BaseText.TheVariants as text
use Rattle.kilim_class_descriptors.specs.declared.types.FieldText.{FieldText}
use Rattle.kilim_class_descriptors.specs.declared.types.MethodText.{MethodText}
use Rattle.kilim_program.specs.declared.ty.Base.TheVariants as base
use Rattle.kilim_link_spec.specs.Faults.{is_float_base, is_no_method}
use Rattle.kilim_link_spec.specs.Mentions.{plain_names, types_mentioned}
use Rattle.kilim_link_spec.specs.declared.named.Mention.{Mention}
use Rattle.kilim_link_spec.specs.declared.named.Mention.TheVariants.{OfClass, OfElement, OfField, OfMethod}
use Rattle.kilim_link_spec.specs.Types.{field_text, method_text, base_in, type_in, types_in, result_in, type_named, typed, type_names, base_names, types_of_field, types_of_method, result_types}
use Rattle.kilim_link_spec.specs.declared.named.Named.{Named}
use Rattle.kilim_link_spec.specs.declared.named.Named.TheVariants.{AClass, AnArray, Malformed}
use Rattle.kilim_link_spec.specs.World.{World}
use Rattle.kilim_link_laws.proofs.code_laws.Good.{Good, NameIsGood, NoFloat}
use Rattle.kilim_link_laws.proofs.code_laws.Nothing.{all_front, all_rest}
use Rattle.kilim_link_laws.proofs.code_laws.There.{There, there, not_none_there, map_there, AllThere, each_there}

base_there : (w : World) (b : BaseText) → is_float_base b ≡ false → AllByRecursion (NameIsGood w) (base_names b) → There (base_in w b)
base_there w text.Bool float_free names = there base.Bool
base_there w text.Byte float_free names = there base.Byte
base_there w text.Char float_free names = there base.Char
base_there w text.Short float_free names = there base.Short
base_there w text.Int float_free names = there base.Int
base_there w text.Long float_free names = there base.Long
base_there w text.Float float_free names = absurd (false≢true (sym float_free))
base_there w text.Double float_free names = absurd (false≢true (sym float_free))
base_there w (text.Class name) float_free names = map_there base.Class _ names.0.there

pub type_there : (w : World) (f : FieldText) → NoFloat f → AllByRecursion (NameIsGood w) (type_names f) → There (type_in w f)
type_there w f float_free names = map_there (typed f.dims) (base_in w f.base) (base_there w f.base float_free names)

types_there : (w : World) (fs : List FieldText) → AllByRecursion NoFloat fs → AllByRecursion (NameIsGood w) (flat_map type_names fs) → AllThere (type_in w) fs
types_there w [] float_free names = tt
types_there w (f ∷ fs) float_free names =
    (type_there w f float_free.0 (all_front (NameIsGood w) (type_names f) (flat_map type_names fs) names), types_there w fs float_free.1 (all_rest (NameIsGood w) (type_names f) (flat_map type_names fs) names))

-- the types of a good mention
types_of_good : (w : World) (m : Mention) → Good w m → AllThere (type_in w) (types_mentioned m)
types_of_good w m g = types_there w (types_mentioned m) g.types (all_rest (NameIsGood w) (plain_names m) (flat_map type_names (types_mentioned m)) g.names)

nothing_if : (test : Bool) (x : List ℕ) → (if test then x ∷ [] else []) ≡ [] → test ≡ false
nothing_if true x e = absurd (cc)
nothing_if false x e = refl

-- ---- descriptors

pub record FieldThere (w : World) (descriptor : List ℕ) : Type 0 where
  pub text : FieldText
  pub is : field_text descriptor ≡ Some text
  pub ty : There (type_in w text)

pub field_there : (w : World) (descriptor : List ℕ) → Good w (OfField descriptor) → FieldThere w descriptor
field_there w descriptor g =
    let t = not_none_there (field_text descriptor) (nothing_if (is_none (field_text descriptor)) descriptor g.descriptors) in
    record { text = t.x; is = t.is; ty = (subst (λ o. AllThere (type_in w) (types_of_field o)) t.is (types_of_good w (OfField descriptor) g)).0 }

method_text_there : (n : ℕ) (o : Option MethodText) → is_no_method n o ≡ false → There o
method_text_there n None e = absurd (false≢true (sym e))
method_text_there n (Some m) e = there m

pub record MethodThere (w : World) (descriptor : List ℕ) : Type 0 where
  pub text : MethodText
  pub is : method_text descriptor ≡ Some text
  pub each_param : AllThere (type_in w) text.params
  pub params : There (types_in w text.params)
  pub result : There (result_in w text.result)

result_there : (w : World) (result : Option FieldText) → AllThere (type_in w) (result_types result) → There (result_in w result)
result_there w None all = there None
result_there w (Some f) all = map_there _ (type_in w f) all.0

pub method_there : (w : World) (slots : ℕ) (descriptor : List ℕ) → Good w (OfMethod slots descriptor) → MethodThere w descriptor
method_there w slots descriptor g =
    let t = method_text_there slots (method_text descriptor) (nothing_if (is_no_method slots (method_text descriptor)) descriptor g.descriptors) in
    let all : AllThere (type_in w) (t.x.params ++ result_types t.x.result) = subst (λ o. AllThere (type_in w) (types_of_method o)) t.is (types_of_good w (OfMethod slots descriptor) g) in
    let params = all_front (λ f. There (type_in w f)) t.x.params (result_types t.x.result) all in
    record {
      text = t.x;
      is = t.is;
      each_param = params;
      params = each_there (type_in w) t.x.params params;
      result = result_there w t.x.result (all_rest (λ f. There (type_in w f)) t.x.params (result_types t.x.result) all);
    }

-- ---- what class entries name

pub named_there : (w : World) (class : Named) → Good w (OfClass class) → There (type_named w class)
named_there w (AClass name) g = map_there _ _ g.names.0.there
named_there w (AnArray type) g = (types_of_good w (OfClass (AnArray type)) g).0
named_there w (Malformed name) g = let e = g.descriptors in absurd (cc)

pub element_there : (w : World) (class : Named) → Good w (OfElement class) → There (type_named w class)
element_there w (AClass name) g = map_there _ _ g.names.0.there
element_there w (AnArray type) g = type_there w type g.types.0 (all_front (NameIsGood w) (type_names type) [] g.names)
element_there w (Malformed name) g = let e = g.descriptors in absurd (cc)
