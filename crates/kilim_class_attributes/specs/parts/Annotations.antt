-- The parts of annotations (JVMS 4.7.16 to 4.7.19): what each asks for, their text, which have one, and how they are
-- read.
use Rattle.std.specs.Prelude.{◌≡◌, ℕ, ◌<◌, ◌^◌, ◌==◌, Bool, true, ◌||◌, if◌then◌else◌, List, [], ◌∷◌, ◌++◌, length, replicate}
use Rattle.std.specs.List.{flat_map}
use Rattle.std.specs.Int.{w8, w16}
use Rattle.kilim_units.specs.Characters.{at_sign, upper_b, upper_c, upper_d, upper_f, upper_i, upper_j, upper_s, upper_z, left_bracket, lower_c, lower_e, lower_s}
use Rattle.kilim_class_grammar.specs.Reader.{Reader, number_at, given, both, made}
use Rattle.kilim_class_grammar.specs.Spelling.{u1, u2}
use Rattle.kilim_class_pool.specs.declared.entry.Entry.{Entry}
use Rattle.kilim_class_attributes.specs.declared.parts.fault.AttributeFault.{AttributeFault}
use Rattle.kilim_class_attributes.specs.declared.parts.index.EntryKind.{EntryKind}
use Rattle.kilim_class_attributes.specs.declared.parts.index.EntryKind.TheVariants as kind
use Rattle.kilim_class_attributes.specs.declared.parts.annotation.Asked.{Asked}
use Rattle.kilim_class_attributes.specs.declared.parts.annotation.PartKind.{PartKind}
use Rattle.kilim_class_attributes.specs.declared.parts.annotation.PartKind.TheVariants.{ParameterCount, AnnotationList, OneAnnotation, Pair, Value}
use Rattle.kilim_class_attributes.specs.declared.parts.annotation.AnnotationPart.{AnnotationPart}
use Rattle.kilim_class_attributes.specs.declared.parts.annotation.AnnotationPart.TheVariants.{Parameters, Annotations, Annotation, ElementName, Constant, EnumConstant, Class, Nested, Array}
use Rattle.kilim_class_attributes.specs.parts.Indices.{index_at, IndexFits}
use Rattle.kilim_class_attributes.specs.parts.Choices.{refused, tagged, sentence_at, Sentence}

-- ---- what a part asks for

abbrev so_many : PartKind → ℕ → Asked
so_many kind count = record { kind = kind; count = count }

abbrev pub asked : AnnotationPart → Asked
asked (Parameters count) = so_many AnnotationList count
asked (Annotations count) = so_many OneAnnotation count
asked (Annotation type count) = so_many Pair count
asked (ElementName name) = so_many Value 1
asked Nested = so_many OneAnnotation 1
asked (Array count) = so_many Value count
asked (Constant tag index) = so_many Value 0
asked (EnumConstant type name) = so_many Value 0
asked (Class descriptor) = so_many Value 0

abbrev pub kinds_of : Asked → List PartKind
kinds_of a = replicate a.count a.kind

abbrev pub asks : AnnotationPart → List PartKind
asks part = kinds_of (asked part)

-- ---- element values (JVMS 4.7.16.1)

-- the kind of the constant of a tag: B, C, I, S and Z; D; F; J
abbrev pub is_integer_tag : ℕ → Bool
is_integer_tag tag = tag == upper_b || (tag == upper_c || (tag == upper_i || (tag == upper_s || tag == upper_z)))

-- these, and s
abbrev pub is_constant_tag : ℕ → Bool
is_constant_tag tag = is_integer_tag tag || (tag == upper_d || (tag == upper_f || (tag == upper_j || tag == lower_s)))

abbrev pub constant_kind : ℕ → EntryKind
constant_kind tag =
    if is_integer_tag tag then kind.Integer
    else (if tag == upper_d then kind.Double
    else (if tag == upper_f then kind.Float
    else (if tag == upper_j then kind.Long
    else kind.Text)))

abbrev pub value_tag : AnnotationPart → ℕ
value_tag (Constant tag index) = tag
value_tag (EnumConstant type name) = lower_e
value_tag (Class descriptor) = lower_c
value_tag Nested = at_sign
value_tag (Array count) = left_bracket
value_tag _ = 0

abbrev pub behind_value_tag : AnnotationPart → List ℕ
behind_value_tag (Constant tag index) = u2 index
behind_value_tag (EnumConstant type name) = u2 type ++ u2 name
behind_value_tag (Class descriptor) = u2 descriptor
behind_value_tag (Array count) = u2 count
behind_value_tag _ = []

abbrev pub value_text : AnnotationPart → List ℕ
value_text part = u1 (value_tag part) ++ behind_value_tag part

abbrev pub part_text : AnnotationPart → List ℕ
part_text (Parameters count) = u1 count
part_text (Annotations count) = u2 count
part_text (Annotation type count) = u2 type ++ u2 count
part_text (ElementName name) = u2 name
part_text part = value_text part

abbrev pub parts_text : List AnnotationPart → List ℕ
parts_text parts = flat_map part_text parts

-- ---- parts that have a text

abbrev pub ValueFits : List Entry → AnnotationPart → Type 0
ValueFits pool (Constant tag index) = (is_constant_tag tag ≡ true) × IndexFits pool (constant_kind tag) index
ValueFits pool (EnumConstant type name) = IndexFits pool kind.Text type × IndexFits pool kind.Text name
ValueFits pool (Class descriptor) = IndexFits pool kind.Text descriptor
ValueFits pool Nested = Unit {0}
ValueFits pool (Array count) = count < 2 ^ 16
ValueFits pool _ = ⊥

abbrev pub PartFits : List Entry → PartKind → AnnotationPart → Type 0
PartFits pool ParameterCount (Parameters count) = count < 2 ^ 8
PartFits pool AnnotationList (Annotations count) = count < 2 ^ 16
PartFits pool OneAnnotation (Annotation type count) = IndexFits pool kind.Text type × (count < 2 ^ 16)
PartFits pool Pair (ElementName name) = IndexFits pool kind.Text name
PartFits pool Value part = ValueFits pool part
PartFits pool _ part = ⊥

-- one part of a kind, with all that it asks for
abbrev pub PartsFit : List Entry → PartKind → List AnnotationPart → Type 0
PartsFit pool kind parts = Sentence (PartFits pool) asks (kind ∷ []) parts

-- ---- reading; `ends` is the fault where the bytes of the attribute end, and at an unknown tag of an element value

unfoldable pub two_texts_at : List Entry → AttributeFault → Reader AttributeFault (ℕ × ℕ)
two_texts_at pool ends = both (index_at pool kind.Text ends) (index_at pool kind.Text ends)

unfoldable pub value_behind : List Entry → AttributeFault → ℕ → Reader AttributeFault AnnotationPart
value_behind pool ends tag bytes =
    if is_constant_tag tag then made (Constant tag) (index_at pool (constant_kind tag) ends) bytes
    else (if tag == lower_e then made (λ x. EnumConstant x.0 x.1) (two_texts_at pool ends) bytes
    else (if tag == lower_c then made Class (index_at pool kind.Text ends) bytes
    else (if tag == at_sign then given Nested bytes
    else (if tag == left_bracket then made Array (number_at ends w16) bytes
    else refused ends bytes))))

unfoldable pub value_at : List Entry → AttributeFault → Reader AttributeFault AnnotationPart
value_at pool ends = tagged ends (value_behind pool ends)

unfoldable pub annotation_at : List Entry → AttributeFault → Reader AttributeFault AnnotationPart
annotation_at pool ends = made (λ x. Annotation x.0 x.1) (both (index_at pool kind.Text ends) (number_at ends w16))

unfoldable pub part_at : List Entry → AttributeFault → PartKind → Reader AttributeFault AnnotationPart
part_at pool ends ParameterCount bytes = made Parameters (number_at ends w8) bytes
part_at pool ends AnnotationList bytes = made Annotations (number_at ends w16) bytes
part_at pool ends OneAnnotation bytes = annotation_at pool ends bytes
part_at pool ends Pair bytes = made ElementName (index_at pool kind.Text ends) bytes
part_at pool ends Value bytes = value_at pool ends bytes

unfoldable pub parts_at : List Entry → AttributeFault → PartKind → Reader AttributeFault (List AnnotationPart)
parts_at pool ends kind bytes = sentence_at ends (part_at pool ends) asks (length bytes) (kind ∷ []) bytes
