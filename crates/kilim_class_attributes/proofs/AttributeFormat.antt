-- Attributes both ways (JVMS 4.7).
use Rattle.std.proofs.Common.{◌≡◌, ℕ, ◌^◌, ◌<◌, List, length, Option, Some, None, Result, Ok, refl, subst, ◌∙◌}
use Rattle.std.specs.List.{AllByRecursion}
use Rattle.std.specs.Int.{w16}
use Rattle.kilim_class_grammar.specs.Reader.{filled}
use Rattle.kilim_class_grammar.specs.Spelling.{u2, list_text}
use Rattle.kilim_class_grammar.proofs.Bytes.{IsBytes, wide16}
use Rattle.kilim_class_grammar.proofs.Formats.{Format, well_is, refitted, so_many, filled_takes, filled_again}
use Rattle.kilim_class_pool.specs.declared.entry.Entry.{Entry}
use Rattle.kilim_class_attributes.specs.declared.parts.fault.AttributeFault.{AttributeFault}
use Rattle.kilim_class_attributes.specs.declared.parts.fault.AttributeFault.TheVariants as fault
use Rattle.kilim_class_attributes.specs.declared.parts.name.AttributeName.{AttributeName}
use Rattle.kilim_class_attributes.specs.declared.parts.name.AttributeName.TheVariants as name
use Rattle.kilim_class_attributes.specs.declared.parts.index.EntryKind.TheVariants as kind
use Rattle.kilim_class_attributes.specs.declared.parts.annotation.PartKind.TheVariants.{AnnotationList, ParameterCount}
use Rattle.kilim_class_attributes.specs.parts.Laws.{PartsAreSpelled}
use Rattle.kilim_class_attributes.specs.parts.Indices.{IndexFits}
use Rattle.kilim_class_attributes.specs.declared.attribute.Place.{Place}
use Rattle.kilim_class_attributes.specs.declared.attribute.Info.{Info}
use Rattle.kilim_class_attributes.specs.declared.attribute.Info.TheVariants.{ConstantValue, Code, StackMapTable, Exceptions, RuntimeVisibleAnnotations, RuntimeInvisibleAnnotations, RuntimeVisibleParameterAnnotations, RuntimeInvisibleParameterAnnotations, Raw}
use Rattle.kilim_class_attributes.specs.declared.attribute.Attribute.{Attribute}
use Rattle.kilim_class_attributes.specs.Lists.{as_a}
use Rattle.kilim_class_attributes.specs.Attributes.{info_text, attribute_text, attributes_text, info_form, repeats, InfoFits, AttributeFits, AttributesFit, exceptions_at, whole_parts, info_of, attribute_of, attribute_at, attributes_at}
use Rattle.kilim_class_attributes.proofs.Lists.{listed_format, as_ok}
use Rattle.kilim_class_attributes.proofs.Named.{Holds, by_name}
use Rattle.kilim_class_attributes.proofs.CodeFormat.{code_format}

module _ (given : PartsAreSpelled) (pool : List Entry) where
  exceptions_format : Format (list_text u2) (exceptions_at pool) (λ classes. (length classes < 2 ^ 16) × AllByRecursion (IndexFits pool kind.Class) classes)
  unfolding exceptions_at
  exceptions_format = so_many (given.indices pool kind.Class (fault.Length name.Exceptions)) (fault.Length name.Exceptions) w16 (2 ^ 16) wide16

  abbrev InfoHolds : Option AttributeName → List ℕ → Info → Type 0
  InfoHolds = Holds info_text info_form (InfoFits pool)

  -- what a reader takes from all of the bytes, in the dress of a variant
  module _ {A : Type 0} {text : A → List ℕ} {at : List ℕ → Result (A × List ℕ) AttributeFault} {Fits : A → Type 0} (one : Format text at Fits) (form : Option AttributeName) (own : AttributeFault) (make : A → Info)
      (formed : (x : A) → info_form (make x) ≡ form) (spelled : (x : A) → text x ≡ info_text (make x)) (fit : (x : A) → Fits x → InfoFits pool (make x)) where
    holds : (bytes : List ℕ) (i : Info) → IsBytes bytes → as_a make (filled own at bytes) ≡ Ok i → InfoHolds form bytes i
    holds bytes i fits e =
        let a = as_ok make (filled own at bytes) i e in
        let t = filled_takes one own bytes a.0 fits a.1 in
        subst (λ (x : Info). InfoHolds form bytes x) a.2 (record { spelled = t.0 ∙ spelled a.0; formed = formed a.0; fit = fit a.0 t.1 })

  content_takes : (f : Option AttributeName) (bytes : List ℕ) (i : Info) → IsBytes bytes → info_of pool f bytes ≡ Ok i → InfoHolds f bytes i
  unfolding info_of whole_parts
  content_takes None bytes i fits e = subst (λ (x : Info). InfoHolds None bytes x) (well_is {F = AttributeFault} (Raw bytes) i e) (record { spelled = refl; formed = refl; fit = fits })
  content_takes (Some name.ConstantValue) bytes i fits e = holds (given.indices pool kind.Constant (fault.Length name.ConstantValue)) (Some name.ConstantValue) (fault.Length name.ConstantValue) ConstantValue (λ x. refl) (λ x. refl) (λ x fit. fit) bytes i fits e
  content_takes (Some name.Code) bytes i fits e = holds (code_format given pool) (Some name.Code) (fault.Length name.Code) Code (λ x. refl) (λ x. refl) (λ x fit. fit) bytes i fits e
  content_takes (Some name.StackMapTable) bytes i fits e = holds (given.frames pool) (Some name.StackMapTable) (fault.Length name.StackMapTable) StackMapTable (λ x. refl) (λ x. refl) (λ x fit. fit) bytes i fits e
  content_takes (Some name.Exceptions) bytes i fits e = holds exceptions_format (Some name.Exceptions) (fault.Length name.Exceptions) Exceptions (λ x. refl) (λ x. refl) (λ x fit. fit) bytes i fits e
  content_takes (Some name.RuntimeVisibleAnnotations) bytes i fits e = holds (given.parts pool (fault.Length name.RuntimeVisibleAnnotations) AnnotationList) (Some name.RuntimeVisibleAnnotations) (fault.Length name.RuntimeVisibleAnnotations) RuntimeVisibleAnnotations (λ x. refl) (λ x. refl) (λ x fit. fit) bytes i fits e
  content_takes (Some name.RuntimeInvisibleAnnotations) bytes i fits e = holds (given.parts pool (fault.Length name.RuntimeInvisibleAnnotations) AnnotationList) (Some name.RuntimeInvisibleAnnotations) (fault.Length name.RuntimeInvisibleAnnotations) RuntimeInvisibleAnnotations (λ x. refl) (λ x. refl) (λ x fit. fit) bytes i fits e
  content_takes (Some name.RuntimeVisibleParameterAnnotations) bytes i fits e = holds (given.parts pool (fault.Length name.RuntimeVisibleParameterAnnotations) ParameterCount) (Some name.RuntimeVisibleParameterAnnotations) (fault.Length name.RuntimeVisibleParameterAnnotations) RuntimeVisibleParameterAnnotations (λ x. refl) (λ x. refl) (λ x fit. fit) bytes i fits e
  content_takes (Some name.RuntimeInvisibleParameterAnnotations) bytes i fits e = holds (given.parts pool (fault.Length name.RuntimeInvisibleParameterAnnotations) ParameterCount) (Some name.RuntimeInvisibleParameterAnnotations) (fault.Length name.RuntimeInvisibleParameterAnnotations) RuntimeInvisibleParameterAnnotations (λ x. refl) (λ x. refl) (λ x fit. fit) bytes i fits e

  content_again : (i : Info) → InfoFits pool i → info_of pool (info_form i) (info_text i) ≡ Ok i
  unfolding info_of whole_parts
  content_again (ConstantValue index) fit = rw (filled_again (given.indices pool kind.Constant (fault.Length name.ConstantValue)) (fault.Length name.ConstantValue) index fit) refl
  content_again (Code code) fit = rw (filled_again (code_format given pool) (fault.Length name.Code) code fit) refl
  content_again (StackMapTable frames) fit = rw (filled_again (given.frames pool) (fault.Length name.StackMapTable) frames fit) refl
  content_again (Exceptions classes) fit = rw (filled_again exceptions_format (fault.Length name.Exceptions) classes fit) refl
  content_again (RuntimeVisibleAnnotations parts) fit = rw (filled_again (given.parts pool (fault.Length name.RuntimeVisibleAnnotations) AnnotationList) (fault.Length name.RuntimeVisibleAnnotations) parts fit) refl
  content_again (RuntimeInvisibleAnnotations parts) fit = rw (filled_again (given.parts pool (fault.Length name.RuntimeInvisibleAnnotations) AnnotationList) (fault.Length name.RuntimeInvisibleAnnotations) parts fit) refl
  content_again (RuntimeVisibleParameterAnnotations parts) fit = rw (filled_again (given.parts pool (fault.Length name.RuntimeVisibleParameterAnnotations) ParameterCount) (fault.Length name.RuntimeVisibleParameterAnnotations) parts fit) refl
  content_again (RuntimeInvisibleParameterAnnotations parts) fit = rw (filled_again (given.parts pool (fault.Length name.RuntimeInvisibleParameterAnnotations) ParameterCount) (fault.Length name.RuntimeInvisibleParameterAnnotations) parts fit) refl
  content_again (Raw bytes) fit = refl

  module _ (place : Place) where
    attribute_format : (before : List Attribute) → Format attribute_text (attribute_at pool place before) (AttributeFits pool place before)
    unfolding attribute_at attribute_of
    attribute_format before =
        refitted (by_name pool place fault.Cut (λ n i. record { attribute_name_index = n; info = i }) (λ b. b.attribute_name_index) (λ b. b.info) (λ b. refl) (λ n i. refl) (λ n i. refl)
        info_text info_form (InfoFits pool) repeats (info_of pool) (λ f n bytes i formed fits e. content_takes f bytes i fits e) content_again before)
        (AttributeFits pool place before)
        (λ b fit. record { below = fit.below; form = fit.formed; once = fit.once; size = fit.size; info = fit.fit })
        (λ b fit. record { below = fit.below; formed = fit.form; once = fit.once; size = fit.size; fit = fit.info })

    pub attributes_format : Format attributes_text (attributes_at pool place) (AttributesFit pool place)
    unfolding attributes_at
    attributes_format = refitted (listed_format attribute_format fault.Cut) (AttributesFit pool place)
        (λ xs fit. record { count = fit.0; each = fit.1 }) (λ xs fit. (fit.count, fit.each))
