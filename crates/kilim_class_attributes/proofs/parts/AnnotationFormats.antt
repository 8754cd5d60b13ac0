-- The parts of annotations both ways (JVMS 4.7.16), one by one.
use Rattle.std.proofs.Common.{◌≡◌, ℕ, ◌+◌, ◌^◌, ◌<◌, true, eqb, List, [], ◌++◌, length, Ok, Err, refl, sym, ap, ◌∙◌, arith, inl, inr}
use Rattle.std.specs.Int.{w16}
use Rattle.std.proofs.lemmas.Bool.{eqb-true, or_cases}
use Rattle.std.proofs.lemmas.List.{length-append}
use Rattle.kilim_class_grammar.specs.Reader.{number_at, both}
use Rattle.kilim_class_grammar.specs.Spelling.{u2}
use Rattle.kilim_class_grammar.proofs.Bytes.{IsBytes}
use Rattle.kilim_class_grammar.proofs.Formats.{Format, n8, n16, pair, reworded, made_again_of}
use Rattle.kilim_class_pool.specs.declared.entry.Entry.{Entry}
use Rattle.kilim_class_attributes.specs.declared.parts.fault.AttributeFault.{AttributeFault}
use Rattle.kilim_class_attributes.specs.declared.parts.index.EntryKind.TheVariants as kind
use Rattle.kilim_class_attributes.specs.declared.parts.annotation.PartKind.{PartKind}
use Rattle.kilim_class_attributes.specs.declared.parts.annotation.PartKind.TheVariants.{ParameterCount, AnnotationList, OneAnnotation, Pair, Value}
use Rattle.kilim_class_attributes.specs.declared.parts.annotation.AnnotationPart.{AnnotationPart}
use Rattle.kilim_class_attributes.specs.declared.parts.annotation.AnnotationPart.TheVariants.{Parameters, Annotations, Annotation, ElementName, Constant, EnumConstant, Class, Nested, Array}
use Rattle.kilim_class_attributes.specs.parts.Indices.{index_at, IndexFits}
use Rattle.kilim_class_attributes.specs.parts.Annotations.{is_integer_tag, is_constant_tag, constant_kind, value_tag, behind_value_tag, value_text, part_text, ValueFits, PartFits, two_texts_at, value_behind, value_at, annotation_at, part_at}
use Rattle.kilim_class_attributes.proofs.parts.Choices.{Spelled, either, by_refused, by_given, by_made, Tagged, by_tag}
use Rattle.kilim_class_attributes.proofs.parts.Indices.{index_format}

-- such a tag is no other one
constant_tags : (tag : ℕ) → is_constant_tag tag ≡ true → tag < 2 ^ 8
constant_tags tag h =
    elim (or_cases (is_integer_tag tag) _ h) [
      | inl i ↦
          elim (or_cases (eqb tag 66) _ i) [
            | inl e ↦ let is = eqb-true tag 66 e in omega arith
            | inr n ↦
                elim (or_cases (eqb tag 67) _ n) [
                  | inl e ↦ let is = eqb-true tag 67 e in omega arith
                  | inr n ↦
                      elim (or_cases (eqb tag 73) _ n) [
                        | inl e ↦ let is = eqb-true tag 73 e in omega arith
                        | inr n ↦
                            elim (or_cases (eqb tag 83) _ n) [
                              | inl e ↦ let is = eqb-true tag 83 e in omega arith
                              | inr e ↦ let is = eqb-true tag 90 e in omega arith
                            ]
                      ]
                ]
          ]
      | inr n ↦
          elim (or_cases (eqb tag 68) _ n) [
            | inl e ↦ let is = eqb-true tag 68 e in omega arith
            | inr n ↦
                elim (or_cases (eqb tag 70) _ n) [
                  | inl e ↦ let is = eqb-true tag 70 e in omega arith
                  | inr n ↦
                      elim (or_cases (eqb tag 74) _ n) [
                        | inl e ↦ let is = eqb-true tag 74 e in omega arith
                        | inr e ↦ let is = eqb-true tag 115 e in omega arith
                      ]
                ]
          ]
    ]

module _ (pool : List Entry) (ends : AttributeFault) where
  two_texts_format : Format (λ (p : ℕ × ℕ). u2 p.0 ++ u2 p.1) (two_texts_at pool ends) (λ p. IndexFits pool kind.Text p.0 × IndexFits pool kind.Text p.1)
  unfolding two_texts_at
  two_texts_format = pair (index_format pool kind.Text ends) (index_format pool kind.Text ends)

  abbrev ValueOf : ℕ → AnnotationPart → Type 0
  ValueOf = Tagged ends value_tag behind_value_tag (value_behind pool ends) (ValueFits pool)

  value_low : (x : AnnotationPart) → ValueFits pool x → value_tag x < 2 ^ 8
  value_low (Constant tag index) fit = constant_tags tag fit.0
  value_low (EnumConstant type name) fit = omega arith
  value_low (Class descriptor) fit = omega arith
  value_low Nested fit = omega arith
  value_low (Array count) fit = omega arith
  value_low (Parameters count) fit = absurd fit
  value_low (Annotations count) fit = absurd fit
  value_low (Annotation type count) fit = absurd fit
  value_low (ElementName name) fit = absurd fit

  is_tag : (tag n : ℕ) → eqb tag n ≡ true → n ≡ tag
  is_tag tag n h = sym (eqb-true tag n h)

  value_spelled : (tag : ℕ) → tag < 2 ^ 8 → Spelled behind_value_tag (value_behind pool ends tag) (ValueOf tag)
  unfolding value_behind
  value_spelled tag lt =
      either (is_constant_tag tag) _ _ (λ h. by_made (index_format pool (constant_kind tag) ends) (Constant tag) (λ y fit. refl) (λ y fit. ((h, fit), refl))) (λ _.
      either (eqb tag 101) _ _ (λ h. by_made two_texts_format (λ x. EnumConstant x.0 x.1) (λ y fit. refl) (λ y fit. (fit, is_tag tag 101 h))) (λ _.
      either (eqb tag 99) _ _ (λ h. by_made (index_format pool kind.Text ends) Class (λ y fit. refl) (λ y fit. (fit, is_tag tag 99 h))) (λ _.
      either (eqb tag 64) _ _ (λ h. by_given Nested refl (tt, is_tag tag 64 h)) (λ _.
      either (eqb tag 91) _ _ (λ h. by_made (n16 ends) Array (λ y fit. refl) (λ y fit. (fit, is_tag tag 91 h))) (λ _.
      by_refused ends)))))

  value_again : (x : AnnotationPart) (rest : List ℕ) → ValueFits pool x → value_behind pool ends (value_tag x) (behind_value_tag x ++ rest) ≡ Ok (x, rest)
  unfolding value_behind
  value_again (Constant tag index) rest fit = rw fit.0 (made_again_of (index_format pool (constant_kind tag) ends) (Constant tag) index rest fit.1)
  value_again (EnumConstant type name) rest fit = made_again_of two_texts_format (λ x. EnumConstant x.0 x.1) (type, name) rest fit
  value_again (Class descriptor) rest fit = made_again_of (index_format pool kind.Text ends) Class descriptor rest fit
  value_again Nested rest fit = refl
  value_again (Array count) rest fit = made_again_of (n16 ends) Array count rest fit
  value_again (Parameters count) rest fit = absurd fit
  value_again (Annotations count) rest fit = absurd fit
  value_again (Annotation type count) rest fit = absurd fit
  value_again (ElementName name) rest fit = absurd fit

  value_format : Format value_text (value_at pool ends) (ValueFits pool)
  unfolding value_at
  value_format = by_tag ends value_tag behind_value_tag (value_behind pool ends) (ValueFits pool) value_low value_spelled value_again

  same_text : (x : AnnotationPart) → ValueFits pool x → value_text x ≡ part_text x
  same_text (Constant tag index) fit = refl
  same_text (EnumConstant type name) fit = refl
  same_text (Class descriptor) fit = refl
  same_text Nested fit = refl
  same_text (Array count) fit = refl
  same_text (Parameters count) fit = absurd fit
  same_text (Annotations count) fit = absurd fit
  same_text (Annotation type count) fit = absurd fit
  same_text (ElementName name) fit = absurd fit

  annotation_pair : Format (λ (p : ℕ × ℕ). u2 p.0 ++ u2 p.1) (both (index_at pool kind.Text ends) (number_at ends w16)) (λ p. IndexFits pool kind.Text p.0 × (p.1 < 2 ^ 16))
  annotation_pair = pair (index_format pool kind.Text ends) (n16 ends)

  part_spelled : (kind : PartKind) → Spelled part_text (part_at pool ends kind) (PartFits pool kind)
  unfolding part_at annotation_at
  part_spelled ParameterCount = by_made (n8 ends) Parameters (λ y fit. refl) (λ y fit. fit)
  part_spelled AnnotationList = by_made (n16 ends) Annotations (λ y fit. refl) (λ y fit. fit)
  part_spelled OneAnnotation = by_made annotation_pair (λ x. Annotation x.0 x.1) (λ y fit. refl) (λ y fit. fit)
  part_spelled Pair = by_made (index_format pool kind.Text ends) ElementName (λ y fit. refl) (λ y fit. fit)
  part_spelled Value = record { takes = (reworded value_format part_text same_text).takes }

  part_again : (kind : PartKind) (x : AnnotationPart) (rest : List ℕ) → PartFits pool kind x → part_at pool ends kind (part_text x ++ rest) ≡ Ok (x, rest)
  unfolding part_at annotation_at
  part_again ParameterCount (Parameters count) rest fit = made_again_of (n8 ends) Parameters count rest fit
  part_again AnnotationList (Annotations count) rest fit = made_again_of (n16 ends) Annotations count rest fit
  part_again OneAnnotation (Annotation type count) rest fit = made_again_of annotation_pair (λ x. Annotation x.0 x.1) (type, count) rest fit
  part_again Pair (ElementName name) rest fit = made_again_of (index_format pool kind.Text ends) ElementName name rest fit
  part_again Value x rest fit = (reworded value_format part_text same_text).again x rest fit
  part_again _ _ rest fit = absurd fit

  pub part_format : (kind : PartKind) → Format part_text (part_at pool ends kind) (PartFits pool kind)
  part_format kind = record { takes = (part_spelled kind).takes; again = part_again kind }

  -- a part has at least one byte
  pub part_some : (x : AnnotationPart) → 0 < length (part_text x)
  part_some (Parameters count) = omega arith
  part_some (Annotations count) = omega arith
  part_some (Annotation type count) = omega arith
  part_some (ElementName name) = omega arith
  part_some (Constant tag index) = omega arith
  part_some (EnumConstant type name) = omega arith
  part_some (Class descriptor) = omega arith
  part_some Nested = omega arith
  part_some (Array count) = omega arith

  -- no bytes are cut
  pub part_cut : (kind : PartKind) → part_at pool ends kind [] ≡ Err ends
  unfolding part_at annotation_at value_at index_at
  part_cut ParameterCount = refl
  part_cut AnnotationList = refl
  part_cut OneAnnotation = refl
  part_cut Pair = refl
  part_cut Value = refl

  -- what is behind a part is shorter
  pub part_shorter : (kind : PartKind) (bytes : List ℕ) (x : AnnotationPart) (rest : List ℕ) → IsBytes bytes → part_at pool ends kind bytes ≡ Ok (x, rest) → (length rest < length bytes) × IsBytes rest
  part_shorter kind bytes x rest fits e =
      let t = (part_format kind).takes bytes x rest fits e in
      let some = part_some x in
      let len : length bytes ≡ length (part_text x) + length rest = ap length t.0.parts ∙ length-append (part_text x) rest in
      (omega arith, t.0.rest_fits)
