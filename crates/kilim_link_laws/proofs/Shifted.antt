-- The built-in methods where the first class has a number are those where it has number 0, with all class numbers so much higher.
use Rattle.std.proofs.Common.{◌≡◌, ℕ, ◌+◌, Bool, true, ◌&&◌, ◌==◌, List, [], ◌∷◌, map, slice_get, Option, Some, None, option_map, bytes_eq, refl, sym, ap, ◌∙◌, ⊎_elim, add-zero, eq-eqb, ne_eqb, arith}
use Rattle.std.proofs.lemmas.Bool.{cases_eq}
use Rattle.kilim_program.specs.declared.class.Form.{Form}
use Rattle.kilim_program.specs.declared.class.Form.TheVariants.{Plain, Woven}
use Rattle.kilim_program.specs.declared.class.Method.{Method}
use Rattle.kilim_program.specs.declared.names.ClassId.{ClassId}
use Rattle.kilim_program.specs.declared.ty.Base.{Base}
use Rattle.kilim_program.specs.declared.ty.Base.TheVariants as base
use Rattle.kilim_program.specs.declared.ty.Ty.{Ty}
use Rattle.kilim_program.specs.BuiltIn.{built_in_methods_in, class_id}
use Rattle.kilim_program.specs.Same.{all_differ, same_base, same_method, same_result, same_type, same_types}
use Rattle.kilim_link_laws.proofs.Lists.{origin}

abbrev pub shift_class : ℕ → ClassId → ClassId
shift_class first c = class_id (first + c.0)

abbrev pub shift_base : ℕ → Base → Base
shift_base first base.Bool = base.Bool
shift_base first base.Byte = base.Byte
shift_base first base.Char = base.Char
shift_base first base.Short = base.Short
shift_base first base.Int = base.Int
shift_base first base.Long = base.Long
shift_base first (base.Class c) = base.Class (shift_class first c)

abbrev pub shift_type : ℕ → Ty → Ty
shift_type first ty = record { dims = ty.dims; base = shift_base first ty.base }

abbrev pub shift_method : ℕ → Method → Method
shift_method first m = record m { owner = shift_class first m.owner; params = map (shift_type first) m.params; result = option_map (shift_type first) m.result }

pub methods_shifted : (form : Form) (first : ℕ) → built_in_methods_in form first ≡ map (shift_method first) (built_in_methods_in form 0)
methods_shifted Plain first = rw (add-zero) refl
methods_shifted Woven first = rw (add-zero) refl

-- ---- what is the same stays so

pub same_number_shifted : (first x y : ℕ) → (first + x == first + y) ≡ (x == y)
same_number_shifted first x y =
    ⊎_elim (λ (same : x ≡ y). eq-eqb (first + x) (first + y) (ap (λ (m : ℕ). first + m) same) ∙ sym (eq-eqb x y same))
    (λ (other : x ≡ y → ⊥). ne_eqb (first + x) (first + y) (λ e. other (omega (arith, e))) ∙ sym (ne_eqb x y other)) (cases_eq x y)

same_base_shifted : (first : ℕ) (a b : Base) → same_base (shift_base first a) (shift_base first b) ≡ same_base a b
same_base_shifted first (base.Class a) (base.Class b) = same_number_shifted first a.0 b.0
same_base_shifted first base.Bool base.Bool = refl
same_base_shifted first base.Byte base.Byte = refl
same_base_shifted first base.Char base.Char = refl
same_base_shifted first base.Short base.Short = refl
same_base_shifted first base.Int base.Int = refl
same_base_shifted first base.Long base.Long = refl
same_base_shifted first _ _ = refl

same_type_shifted : (first : ℕ) (a b : Ty) → same_type (shift_type first a) (shift_type first b) ≡ same_type a b
same_type_shifted first a b = ap (λ (t : Bool). a.dims == b.dims && t) (same_base_shifted first a.base b.base)

same_types_shifted : (first : ℕ) (xs ys : List Ty) → same_types (map (shift_type first) xs) (map (shift_type first) ys) ≡ same_types xs ys
same_types_shifted first [] [] = refl
same_types_shifted first [] (y ∷ ys) = refl
same_types_shifted first (x ∷ xs) [] = refl
same_types_shifted first (x ∷ xs) (y ∷ ys) =
    ap (λ (t : Bool). t && same_types (map (shift_type first) xs) (map (shift_type first) ys)) (same_type_shifted first x y)
    ∙ ap (λ (t : Bool). same_type x y && t) (same_types_shifted first xs ys)

same_result_shifted : (first : ℕ) (a b : Option Ty) → same_result (option_map (shift_type first) a) (option_map (shift_type first) b) ≡ same_result a b
same_result_shifted first None None = refl
same_result_shifted first None (Some b) = refl
same_result_shifted first (Some a) None = refl
same_result_shifted first (Some a) (Some b) = same_type_shifted first a b

pub same_method_shifted : (first : ℕ) (a b : Method) → same_method (shift_method first a) (shift_method first b) ≡ same_method a b
same_method_shifted first a b =
    ap (λ (t : Bool). t && (bytes_eq a.name b.name && (same_types (map (shift_type first) a.params) (map (shift_type first) b.params) && same_result (option_map (shift_type first) a.result) (option_map (shift_type first) b.result)))) (same_number_shifted first a.owner.0 b.owner.0)
    ∙ (ap (λ (t : Bool). a.owner.0 == b.owner.0 && (bytes_eq a.name b.name && (t && same_result (option_map (shift_type first) a.result) (option_map (shift_type first) b.result)))) (same_types_shifted first a.params b.params)
    ∙ ap (λ (t : Bool). a.owner.0 == b.owner.0 && (bytes_eq a.name b.name && (same_types a.params b.params && t))) (same_result_shifted first a.result b.result))

-- no two of them are the same
pub methods_differ : (form : Form) → all_differ same_method (built_in_methods_in form 0) ≡ true
methods_differ Plain = refl
methods_differ Woven = refl

-- what a built-in method is where the first class has number 0
pub record BuiltInMethod (form : Form) (first k : ℕ) (method : Method) : Type 0 where
  pub of : Method
  pub at : slice_get (built_in_methods_in form 0) k ≡ Some of
  pub is : shift_method first of ≡ method

pub built_in_method_of : (form : Form) (first k : ℕ) (method : Method) → slice_get (built_in_methods_in form first) k ≡ Some method → BuiltInMethod form first k method
built_in_method_of form first k method there =
    let o = origin (shift_method first) (built_in_methods_in form 0) k method (ap (λ (ms : List Method). slice_get ms k) (sym (methods_shifted form first)) ∙ there) in
    record { of = o.of; at = o.at; is = o.is }
