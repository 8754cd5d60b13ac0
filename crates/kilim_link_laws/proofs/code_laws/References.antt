-- What a class entry names is a class, or an array with a dimension at least.
use Rattle.std.proofs.Common.{◌≡◌, ℕ, zero, suc, ◌+◌, ◌<◌, ◌≤◌, Bool, true, false, List, [], ◌∷◌, length, Option, Some, None, Result, Ok, Err, refl, ap, sym, subst, arith}
use Rattle.std.specs.Prelude.{◌==◌, nat_lt, if◌then◌else◌}
use Rattle.std.proofs.lemmas.Option.{same_Some, none-some}
use Rattle.kilim_class_descriptors.specs.declared.types.BaseText.{BaseText}
use Rattle.kilim_class_descriptors.specs.declared.types.FieldText.{FieldText}
use Rattle.kilim_class_descriptors.specs.Exact.{spelled_by}
use Rattle.kilim_class_descriptors.specs.Reading.{all_of, base_at, field_at, field_behind, in_dims, whole_field, ◌>>=◌}
use Rattle.kilim_program.specs.declared.names.ClassId.{ClassId}
use Rattle.kilim_program.specs.declared.ty.Base.{Base}
use Rattle.kilim_program.specs.declared.ty.Base.TheVariants as base
use Rattle.kilim_program.specs.declared.ty.Ty.{Ty}
use Rattle.kilim_program.specs.Lengths.{is_reference, is_reference_type}
use Rattle.kilim_link_spec.specs.Types.{array_or_malformed, base_in, field_text, named_by, type_named, typed}
use Rattle.kilim_link_spec.specs.declared.named.Named.{Named}
use Rattle.kilim_link_spec.specs.declared.named.Named.TheVariants.{AClass, AnArray, Malformed}
use Rattle.kilim_link_spec.specs.World.{World, class_of}
use Rattle.kilim_link_laws.proofs.code_laws.Rows.{mapped}

-- ---- a descriptor that begins with `[`

abbrev Read : Type 0
Read = FieldText × List ℕ

in_dims_are : (dims : ℕ) (read : Result (BaseText × List ℕ) ℕ) (x : Read) → in_dims dims read ≡ Ok x → x.0.dims ≡ dims
in_dims_are dims (Ok b) x e = let is : (record { dims = dims; base = b.0 }, b.1) ≡ x = cc in ap (λ (y : Read). y.0.dims) (sym is)
in_dims_are dims (Err left) x e = absurd cc

module _ (dims : ℕ) (x : Read) where
  more_dims : (few : Bool) (behind : Result Read ℕ) (left : ℕ) → (behind ≡ Ok x → dims + 1 ≤ x.0.dims) → (if few then behind else Err left) ≡ Ok x → dims + 1 ≤ x.0.dims
  more_dims true behind left more e = more e
  more_dims false behind left more e = absurd cc

  either : (is_array : Bool) (array : Result Read ℕ) (element : Result (BaseText × List ℕ) ℕ) → (array ≡ Ok x → dims + 1 ≤ x.0.dims) → (if is_array then array else in_dims dims element) ≡ Ok x → dims ≤ x.0.dims
  either true array element more e = let above = more e in omega arith
  either false array element more e = let same = in_dims_are dims element x e in omega arith

dims_read : (dims : ℕ) (units : List ℕ) (x : Read) → field_behind dims units ≡ Ok x → dims ≤ x.0.dims
unfolding field_behind
dims_read dims [] x e = let same = in_dims_are dims (base_at []) x e in omega arith
dims_read dims (u ∷ rest) x e = either dims x (u == 91) _ (base_at (u ∷ rest)) (more_dims dims x (nat_lt dims 255) (field_behind (dims + 1) rest) _ (dims_read (dims + 1) rest x)) e

has_dims : (u : ℕ) (rest : List ℕ) (x : Read) → (u == 91) ≡ true → field_at (u ∷ rest) ≡ Ok x → 0 < x.0.dims
unfolding field_at field_behind
has_dims u rest x is e =
    let array : field_behind 1 rest ≡ Ok x = subst (λ (b : Bool). (if b then field_behind 1 rest else in_dims 0 (base_at (u ∷ rest))) ≡ Ok x) is e in
    let above = dims_read 1 rest x array in
    omega arith

all_is : (x : Read) (b : Bool) (left : ℕ) (f : FieldText) → (if b then Ok x.0 else Err left) ≡ Ok f → x.0 ≡ f
all_is x true left f e = cc
all_is x false left f e = absurd cc

-- what a whole text reads as is read of its front
record Whole (read : Result Read ℕ) (f : FieldText) : Type 0 where
  x : Read
  read_is : read ≡ Ok x
  is : x.0 ≡ f

whole_read : (read : Result Read ℕ) (f : FieldText) → (read >>= λ x. all_of x) ≡ Ok f → Whole read f
whole_read (Err left) f e = absurd cc
whole_read (Ok x) f e = record { x = x; read_is = refl; is = all_is x (length x.1 == 0) (length x.1) f e }

spelled_is : (read : Result FieldText ℕ) (f : FieldText) → spelled_by read ≡ Some f → read ≡ Ok f
spelled_is (Ok g) f e = ap Ok (same_Some g f e)
spelled_is (Err left) f e = absurd (none-some f e)

-- an array has a dimension at least
abbrev pub HasDims : Named → Type 0
HasDims (AnArray type) = 0 < type.dims
HasDims class = Unit {0}

array_has_dims : (u : ℕ) (rest : List ℕ) → (u == 91) ≡ true → (o : Option FieldText) → field_text (u ∷ rest) ≡ o → HasDims (array_or_malformed (u ∷ rest) o)
unfolding whole_field
array_has_dims u rest is None there = tt
array_has_dims u rest is (Some f) there =
    let whole = whole_read (field_at (u ∷ rest)) f (spelled_is (whole_field (u ∷ rest)) f there) in
    subst (λ (g : FieldText). 0 < g.dims) whole.is (has_dims u rest whole.x is whole.read_is)

named_by_test : (u : ℕ) (rest : List ℕ) (b : Bool) → (u == 91) ≡ b → HasDims (if b then array_or_malformed (u ∷ rest) (field_text (u ∷ rest)) else AClass (u ∷ rest))
named_by_test u rest true is = array_has_dims u rest is (field_text (u ∷ rest)) refl
named_by_test u rest false is = tt

pub named_has_dims : (name : List ℕ) → HasDims (named_by name)
named_has_dims [] = tt
named_has_dims (u ∷ rest) = named_by_test u rest (u == 91) refl

-- ---- the type that is named

array_is_reference : (dims : ℕ) (b : Base) → 0 < dims → is_reference_type dims b ≡ true
array_is_reference zero b above = absurd (omega arith)
array_is_reference (suc n) b above = refl

pub is_reference_named : (w : World) (class : Named) (ty : Ty) → HasDims class → type_named w class ≡ Some ty → is_reference ty ≡ true
is_reference_named w (AClass name) ty has e =
    let m = mapped (λ (c : ClassId). typed 0 (base.Class c)) (class_of w name) ty e in
    subst (λ t. is_reference t ≡ true) m.is refl
is_reference_named w (AnArray type) ty has e =
    let m = mapped (typed type.dims) (base_in w type.base) ty e in
    subst (λ t. is_reference t ≡ true) m.is (array_is_reference type.dims m.x has)
is_reference_named w (Malformed name) ty has e = absurd (none-some ty e)
