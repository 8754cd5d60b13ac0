-- Parts of attributes over a pool that grows.
use Rattle.std.proofs.Common.{◌≡◌, ◌==◌, ℕ, ◌++◌, Bool, true, false, cond, List, [], ◌∷◌, Option, Some, None, Ok, refl, sym, ap, ◌∙◌}
use Rattle.std.specs.List.{AllByRecursion}
use Rattle.kilim_class_pool.specs.declared.entry.Entry.{Entry}
use Rattle.kilim_class_pool.specs.Entries.{entry_at}
use Rattle.kilim_class_attributes.specs.declared.parts.annotation.AnnotationPart.{AnnotationPart}
use Rattle.kilim_class_attributes.specs.declared.parts.annotation.AnnotationPart.TheVariants.{Parameters, Annotations, Annotation, ElementName, Constant, EnumConstant, Class, Nested, Array}
use Rattle.kilim_class_attributes.specs.declared.parts.annotation.PartKind.{PartKind}
use Rattle.kilim_class_attributes.specs.declared.parts.annotation.PartKind.TheVariants.{ParameterCount, AnnotationList, OneAnnotation, Pair, Value}
use Rattle.kilim_class_attributes.specs.declared.parts.frame.Frame.{Frame}
use Rattle.kilim_class_attributes.specs.declared.parts.frame.Frame.TheVariants.{Same, SameLocals1StackItem, SameLocals1StackItemExtended, Chop, SameExtended, Append, Full}
use Rattle.kilim_class_attributes.specs.declared.parts.frame.VerificationType.{VerificationType}
use Rattle.kilim_class_attributes.specs.declared.parts.frame.VerificationType.TheVariants as type
use Rattle.kilim_class_attributes.specs.declared.parts.index.EntryKind.{EntryKind}
use Rattle.kilim_class_attributes.specs.declared.parts.index.EntryKind.TheVariants as kind
use Rattle.kilim_class_attributes.specs.declared.parts.name.AttributeName.{AttributeName}
use Rattle.kilim_class_attributes.specs.parts.Annotations.{PartFits, ValueFits, asks, constant_kind, PartsFit as AnnotationsFit}
use Rattle.kilim_class_attributes.specs.parts.Choices.{Sentence}
use Rattle.kilim_class_attributes.specs.parts.Frames.{FrameContentFits, FrameFits, FramesFit, TypeFits}
use Rattle.kilim_class_attributes.specs.parts.Indices.{IndexFits, has_kind, may_be_none, named_is}
use Rattle.kilim_class_attributes.specs.declared.attribute.Place.{Place}
use Rattle.kilim_class_attributes.specs.Forms.{form_at, form_by}
use Rattle.kilim_class_attributes.specs.Lists.{EachAfter}
use Rattle.kilim_class_making.specs.pool_needs.growth.Growth.{Extends}

-- ---- lists

pub all_mapped : {A : Type 0} (P Q : A → Type 0) → ((x : A) → P x → Q x) → (xs : List A) → AllByRecursion P xs → AllByRecursion Q xs
all_mapped P Q to [] all = tt
all_mapped P Q to (x ∷ xs) all = (to x all.0, all_mapped P Q to xs all.1)

pub each_mapped : {A : Type 0} (P Q : List A → A → Type 0) → ((before : List A) (x : A) → P before x → Q before x) → (before xs : List A) → EachAfter P before xs → EachAfter Q before xs
each_mapped P Q to before [] all = tt
each_mapped P Q to before (x ∷ xs) all = (to before x all.0, each_mapped P Q to (before ++ x ∷ []) xs all.1)

pub sentence_mapped : {A K : Type 0} (P Q : K → A → Type 0) (asks : A → List K) → ((kind : K) (x : A) → P kind x → Q kind x) → (kinds : List K) (xs : List A) → Sentence P asks kinds xs → Sentence Q asks kinds xs
sentence_mapped P Q asks to [] [] all = tt
sentence_mapped P Q asks to (kind ∷ kinds) [] all = absurd all
sentence_mapped P Q asks to [] (x ∷ xs) all = absurd all
sentence_mapped P Q asks to (kind ∷ kinds) (x ∷ xs) all = (to kind x all.0, sentence_mapped P Q asks to (asks x ++ kinds) xs all.1)

-- ---- what an index names

passes_by : (test : Option Entry → Bool) → test None ≡ false → (old new : List Entry) → Extends old new → (index : ℕ) (named : Option Entry) → entry_at old index ≡ named → test named ≡ true → test (entry_at new index) ≡ true
passes_by test none old new extends index None is passes = let never : false ≡ true = sym none ∙ passes in absurd (cc)
passes_by test none old new extends index (Some entry) is passes = ap test (extends index entry is) ∙ passes

-- a test that fails where no entry stands
pub passes_too : (test : Option Entry → Bool) → test None ≡ false → (old new : List Entry) → Extends old new → (index : ℕ) → test (entry_at old index) ≡ true → test (entry_at new index) ≡ true
passes_too test none old new extends index passes = passes_by test none old new extends index (entry_at old index) refl passes

module _ (old new : List Entry) (extends : Extends old new) where
  kind_by : (kind : EntryKind) (index : ℕ) (is_zero : Bool) → cond is_zero (may_be_none kind) (named_is kind (entry_at old index)) ≡ true → cond is_zero (may_be_none kind) (named_is kind (entry_at new index)) ≡ true
  kind_by kind index true is = is
  kind_by kind index false is = passes_too (named_is kind) refl old new extends index is

  has_kind_too : (kind : EntryKind) (index : ℕ) → has_kind old kind index ≡ true → has_kind new kind index ≡ true
  unfolding has_kind
  has_kind_too kind index is = kind_by kind index (index == 0) is

  pub index_too : (kind : EntryKind) (index : ℕ) → IndexFits old kind index → IndexFits new kind index
  index_too kind index fits = record { below = fits.below; there = has_kind_too kind index fits.there }

  -- ---- frames

  type_too : (t : VerificationType) → TypeFits old t → TypeFits new t
  type_too (type.Object class) fits = index_too kind.Class class fits
  type_too (type.Uninitialized place) fits = fits
  type_too _ fits = tt

  types_too : (types : List VerificationType) → AllByRecursion (TypeFits old) types → AllByRecursion (TypeFits new) types
  types_too types fits = all_mapped (TypeFits old) (TypeFits new) type_too types fits

  content_too : (frame : Frame) → FrameContentFits old frame → FrameContentFits new frame
  content_too (Same delta) fits = fits
  content_too (SameLocals1StackItem delta item) fits = type_too item fits
  content_too (SameLocals1StackItemExtended delta item) fits = (fits.0, type_too item fits.1)
  content_too (Chop absent delta) fits = fits
  content_too (SameExtended delta) fits = fits
  content_too (Append delta locals) fits = (fits.0, types_too locals fits.1)
  content_too (Full delta locals stack) fits = (fits.0, (types_too locals fits.1.0, types_too stack fits.1.1))

  pub frames_too : (frames : List Frame) → FramesFit old frames → FramesFit new frames
  frames_too frames fits = record {
    count = fits.count;
    each = all_mapped (FrameFits old) (FrameFits new) (λ frame of. (of.0, content_too frame of.1)) frames fits.each;
  }

  -- ---- annotations

  value_too : (part : AnnotationPart) → ValueFits old part → ValueFits new part
  value_too (Constant tag index) fits = (fits.0, index_too (constant_kind tag) index fits.1)
  value_too (EnumConstant t name) fits = (index_too kind.Text t fits.0, index_too kind.Text name fits.1)
  value_too (Class descriptor) fits = index_too kind.Text descriptor fits
  value_too Nested fits = tt
  value_too (Array count) fits = fits
  value_too _ fits = absurd fits

  part_too : (kind : PartKind) (part : AnnotationPart) → PartFits old kind part → PartFits new kind part
  part_too ParameterCount (Parameters count) fits = fits
  part_too AnnotationList (Annotations count) fits = fits
  part_too OneAnnotation (Annotation t count) fits = (index_too kind.Text t fits.0, fits.1)
  part_too Pair (ElementName name) fits = index_too kind.Text name fits
  part_too Value part fits = value_too part fits
  part_too _ part fits = absurd fits

  pub annotations_too : (kind : PartKind) (parts : List AnnotationPart) → AnnotationsFit old kind parts → AnnotationsFit new kind parts
  annotations_too kind parts fits = sentence_mapped (PartFits old) (PartFits new) asks part_too (kind ∷ []) parts fits

  -- ---- the name of an attribute

  form_by_too : (place : Place) (index : ℕ) (form : Option AttributeName) (named : Option Entry) → entry_at old index ≡ named → form_by place index named ≡ Ok form → form_by place index (entry_at new index) ≡ Ok form
  form_by_too place index form None is read = absurd (cc)
  form_by_too place index form (Some entry) is read = ap (form_by place index) (extends index entry is) ∙ read

  pub form_too : (place : Place) (index : ℕ) (form : Option AttributeName) → form_at old place index ≡ Ok form → form_at new place index ≡ Ok form
  unfolding form_at
  form_too place index form read = form_by_too place index form (entry_at old index) refl read
