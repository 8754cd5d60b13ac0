-- One more number.
use Rattle.std.proofs.Common.{◌≡◌, ℕ, ◌+◌, true, false, List, Option, Some, None, sym, ap, ◌∙◌, inl, inr, arith}
use Rattle.std.proofs.lemmas.Bool.{cases_Bool}
use Rattle.std.proofs.lemmas.Option.{same_Some}
use Rattle.kilim_lemmas.proofs.Options.{none_isnt}
use Rattle.kilim_link_inherited.specs.declared.signature.Signature.{Signature}
use Rattle.kilim_link_inherited.specs.Index.{same_signature}
use Rattle.kilim_link_inherited.specs.Numbers.{Apart, AllBelow, Keeps}
use Rattle.kilim_link_inherited.proofs.Signatures.{key_is}

module _ (before after : List ℕ → List ℕ → Option ℕ) (s : Signature) (fresh : ℕ) (none : before s.name s.descriptor ≡ None) (here : after s.name s.descriptor ≡ Some fresh)
    (others : (name descriptor : List ℕ) → same_signature s name descriptor ≡ false → after name descriptor ≡ before name descriptor) where
  module _ (name descriptor : List ℕ) (same : same_signature s name descriptor ≡ true) where
    by_key : (number : List ℕ → List ℕ → Option ℕ) → number s.name s.descriptor ≡ number name descriptor
    by_key number = ap (λ (q : Signature). number q.name q.descriptor) (key_is s name descriptor same)

    name_is : s.name ≡ name
    name_is = ap (λ (q : Signature). q.name) (key_is s name descriptor same)

    descriptor_is : s.descriptor ≡ descriptor
    descriptor_is = ap (λ (q : Signature). q.descriptor) (key_is s name descriptor same)

    fresh_is : (k : ℕ) → after name descriptor ≡ Some k → fresh ≡ k
    fresh_is k is = same_Some fresh k (sym here ∙ (by_key after ∙ is))

  pub kept : Keeps before after
  kept name descriptor k is =
      elim (cases_Bool (same_signature s name descriptor)) [
        | inl same ↦ none_isnt (before name descriptor) k (sym (by_key name descriptor same before) ∙ none) is
        | inr apart ↦ others name descriptor apart ∙ is
      ]

  module _ (below : AllBelow before fresh) where
    pub all_below : AllBelow after (fresh + 1)
    all_below name descriptor k is =
        elim (cases_Bool (same_signature s name descriptor)) [
          | inl same ↦ let e = fresh_is name descriptor same k is in omega arith
          | inr apart ↦ let lt = below name descriptor k (sym (others name descriptor apart) ∙ is) in omega arith
        ]

    not_both : (name descriptor name2 descriptor2 : List ℕ) (k : ℕ) → same_signature s name descriptor ≡ true → same_signature s name2 descriptor2 ≡ false → after name descriptor ≡ Some k → after name2 descriptor2 ≡ Some k → {A : Type 0} → A
    not_both name descriptor name2 descriptor2 k same apart one two =
        let e = fresh_is name descriptor same k one in
        let lt = below name2 descriptor2 k (sym (others name2 descriptor2 apart) ∙ two) in
        absurd (omega arith)

    pub all_apart : Apart before → Apart after
    all_apart were name descriptor name2 descriptor2 k one two =
        elim (cases_Bool (same_signature s name descriptor)) [
          | inl same ↦
              elim (cases_Bool (same_signature s name2 descriptor2)) [
                | inl same2 ↦ (sym (name_is name descriptor same) ∙ name_is name2 descriptor2 same2, sym (descriptor_is name descriptor same) ∙ descriptor_is name2 descriptor2 same2)
                | inr apart2 ↦ not_both name descriptor name2 descriptor2 k same apart2 one two
              ]
          | inr apart ↦
              elim (cases_Bool (same_signature s name2 descriptor2)) [
                | inl same2 ↦ not_both name2 descriptor2 name descriptor k same2 apart two one
                | inr apart2 ↦ were name descriptor name2 descriptor2 k (sym (others name descriptor apart) ∙ one) (sym (others name2 descriptor2 apart2) ∙ two)
              ]
        ]
