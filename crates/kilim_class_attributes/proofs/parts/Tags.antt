-- What follows the tag of an element value.
use Rattle.std.proofs.Common.{◌≡◌, ℕ, ◌==◌, Bool, true, false, cond, List, Result, Ok, Err, refl, sym, ap, ◌∙◌}
use Rattle.std.specs.Int.{w16}
use Rattle.kilim_class_grammar.specs.Reader.{Reader, made, number_at}
use Rattle.kilim_class_pool.specs.declared.entry.Entry.{Entry}
use Rattle.kilim_class_attributes.specs.declared.parts.fault.AttributeFault.{AttributeFault}
use Rattle.kilim_class_attributes.specs.declared.parts.index.EntryKind.{EntryKind}
use Rattle.kilim_class_attributes.specs.declared.parts.index.EntryKind.TheVariants.{Text}
use Rattle.kilim_class_attributes.specs.declared.parts.annotation.AnnotationPart.{AnnotationPart}
use Rattle.kilim_class_attributes.specs.declared.parts.annotation.AnnotationPart.TheVariants.{Constant, EnumConstant, Class, Nested, Array}
use Rattle.kilim_class_attributes.specs.parts.Indices.{index_at}
use Rattle.kilim_class_attributes.specs.parts.Annotations.{is_constant_tag, constant_kind, two_texts_at, value_behind}

pub made_ok : {F A B : Type 0} (make : A → B) (one : Reader F A) (bytes : List ℕ) (x : A) (rest : List ℕ) → one bytes ≡ Ok (x, rest) → made make one bytes ≡ Ok (make x, rest)
made_ok make one bytes x rest e = rw e

pub made_err : {F A B : Type 0} (make : A → B) (one : Reader F A) (bytes : List ℕ) (fault : F) → one bytes ≡ Err fault → made make one bytes ≡ Err fault
made_err make one bytes fault e = rw e

pub taken : {R : Type 0} (b : Bool) (x y : R) → b ≡ true → cond b x y ≡ x
taken b x y e = rw e

pub passed : {R : Type 0} (b : Bool) (x y : R) → b ≡ false → cond b x y ≡ y
passed b x y e = rw e

module _ (pool : List Entry) (ends : AttributeFault) (tag : ℕ) (bytes : List ℕ) where
  abbrev Gives : Result (AnnotationPart × List ℕ) AttributeFault → Type 0
  Gives read = value_behind pool ends tag bytes ≡ read

  module _ (kind : EntryKind) (is : is_constant_tag tag ≡ true) (kind_is : kind ≡ constant_kind tag) where
    constant : Gives (made (Constant tag) (index_at pool kind ends) bytes)
    unfolding value_behind
    constant = taken (is_constant_tag tag) _ _ is ∙ ap (λ (k : EntryKind). made (Constant tag) (index_at pool k ends) bytes) (sym kind_is)

    pub constant_ok : (index : ℕ) (rest : List ℕ) → index_at pool kind ends bytes ≡ Ok (index, rest) → Gives (Ok (Constant tag index, rest))
    constant_ok index rest e = constant ∙ made_ok (Constant tag) (index_at pool kind ends) bytes index rest e

    pub constant_err : (fault : AttributeFault) → index_at pool kind ends bytes ≡ Err fault → Gives (Err fault)
    constant_err fault e = constant ∙ made_err (Constant tag) (index_at pool kind ends) bytes fault e

  by_tag : (n : ℕ) (read : Result (AnnotationPart × List ℕ) AttributeFault) → tag ≡ n → value_behind pool ends n bytes ≡ read → Gives read
  by_tag n read e h = ap (λ (k : ℕ). value_behind pool ends k bytes) e ∙ h

  pub enum_ok : tag ≡ 101 → (class name : ℕ) (rest : List ℕ) → two_texts_at pool ends bytes ≡ Ok ((class, name), rest) → Gives (Ok (EnumConstant class name, rest))
  unfolding value_behind
  enum_ok is class name rest e = by_tag 101 (Ok (EnumConstant class name, rest)) is (made_ok (λ x. EnumConstant x.0 x.1) (two_texts_at pool ends) bytes (class, name) rest e)

  pub enum_err : tag ≡ 101 → (fault : AttributeFault) → two_texts_at pool ends bytes ≡ Err fault → Gives (Err fault)
  unfolding value_behind
  enum_err is fault e = by_tag 101 (Err fault) is (made_err (λ x. EnumConstant x.0 x.1) (two_texts_at pool ends) bytes fault e)

  pub class_ok : tag ≡ 99 → (descriptor : ℕ) (rest : List ℕ) → index_at pool Text ends bytes ≡ Ok (descriptor, rest) → Gives (Ok (Class descriptor, rest))
  unfolding value_behind
  class_ok is descriptor rest e = by_tag 99 (Ok (Class descriptor, rest)) is (made_ok Class (index_at pool Text ends) bytes descriptor rest e)

  pub class_err : tag ≡ 99 → (fault : AttributeFault) → index_at pool Text ends bytes ≡ Err fault → Gives (Err fault)
  unfolding value_behind
  class_err is fault e = by_tag 99 (Err fault) is (made_err Class (index_at pool Text ends) bytes fault e)

  pub nested_ok : tag ≡ 64 → Gives (Ok (Nested, bytes))
  unfolding value_behind
  nested_ok is = by_tag 64 (Ok (Nested, bytes)) is refl

  pub array_ok : tag ≡ 91 → (count : ℕ) (rest : List ℕ) → number_at ends w16 bytes ≡ Ok (count, rest) → Gives (Ok (Array count, rest))
  unfolding value_behind
  array_ok is count rest e = by_tag 91 (Ok (Array count, rest)) is (made_ok Array (number_at ends w16) bytes count rest e)

  pub array_err : tag ≡ 91 → (fault : AttributeFault) → number_at ends w16 bytes ≡ Err fault → Gives (Err fault)
  unfolding value_behind
  array_err is fault e = by_tag 91 (Err fault) is (made_err Array (number_at ends w16) bytes fault e)

  pub unknown : is_constant_tag tag ≡ false → (tag == 101) ≡ false → (tag == 99) ≡ false → (tag == 64) ≡ false → (tag == 91) ≡ false → Gives (Err ends)
  unfolding value_behind
  unknown constant enum class nested array =
      passed (is_constant_tag tag) _ _ constant ∙ (passed (tag == 101) _ _ enum ∙ (passed (tag == 99) _ _ class ∙ (passed (tag == 64) _ _ nested ∙ passed (tag == 91) _ _ array)))
