-- What is said by names is what is said by numbers.
use Rattle.std.proofs.Common.{◌≡◌, ℕ, zero, suc, ◌==◌, Bool, true, false, List, [], ◌∷◌, Option, Some, None, refl, sym, ap, ◌∙◌, inl, inr, rules}
use Rattle.std.specs.Prelude.{◌&&◌, if◌then◌else◌, slice_get}
use Rattle.std.specs.Str.{bytes_eq}
use Rattle.std.proofs.lemmas.Bool.{cases_Bool, and_from, eqb-true, eq-eqb, and_parts}
use Rattle.std.proofs.lemmas.Slice.Eq.{bytes_eq-Decides}
use Rattle.std.proofs.lemmas.Option.{same_Some}
use Rattle.kilim_lemmas.proofs.Options.{none_isnt}
use Rattle.kilim_lemmas.proofs.Texts.{text_is, same_text}
use Rattle.kilim_program.specs.declared.names.ClassId.{ClassId}
use Rattle.kilim_link_inherited.specs.declared.entry.Entry.{Entry}
use Rattle.kilim_link_inherited.specs.Inherited as numbers
use Rattle.kilim_link_inherited.specs.Inherited.{said_in, said_or, inherited}
use Rattle.kilim_link_inherited.specs.declared.signature.Signature.{Signature}
use Rattle.kilim_link_inherited.specs.Index.{same_signature}
use Rattle.kilim_link_inherited.specs.Numbers.{Apart}
use Rattle.kilim_link_inherited.specs.declared.said.Said.{Said}
use Rattle.kilim_link_inherited.specs.Keyed.{Keyed, AllKeyed}
use Rattle.kilim_link_inherited.specs.Nearest as names
use Rattle.kilim_link_inherited.specs.Nearest.{said_by, says, nearest}

chosen : (a b : Bool) (v w : Option ℕ) (x y : Option (Option ℕ)) → a ≡ b → v ≡ w → x ≡ y → (if a then Some v else x) ≡ (if b then Some w else y)
chosen true b v w x y is same rest = ap (λ (c : Bool). if c then Some v else x) is ∙ (ap (λ (u : Option ℕ). if b then Some u else x) same ∙ ap (λ (z : Option (Option ℕ)). if b then Some w else z) rest)
chosen false b v w x y is same rest = ap (λ (c : Bool). if c then Some v else x) is ∙ (ap (λ (u : Option ℕ). if b then Some u else x) same ∙ ap (λ (z : Option (Option ℕ)). if b then Some w else z) rest)

skipped : (a : Bool) (v : Option ℕ) (x : Option (Option ℕ)) → a ≡ false → x ≡ None → (if a then Some v else x) ≡ None
skipped true v x is none = absurd cc
skipped false v x is none = none

-- two names with descriptors that are the same have one number
by_name : (number : List ℕ → List ℕ → Option ℕ) (s : Signature) (name descriptor : List ℕ) → same_signature s name descriptor ≡ true → number s.name s.descriptor ≡ number name descriptor
by_name number s name descriptor same =
    let parts = and_parts (bytes_eq s.name name) (bytes_eq s.descriptor descriptor) same in
    ap (λ (n : List ℕ). number n s.descriptor) (text_is s.name name parts.0) ∙ ap (number name) (text_is s.descriptor descriptor parts.1)

are_same : (s : Signature) (name descriptor : List ℕ) → s.name ≡ name → s.descriptor ≡ descriptor → same_signature s name descriptor ≡ true
are_same s name descriptor n d = and_from (bytes_eq s.name name) (bytes_eq s.descriptor descriptor) (same_text s.name name n) (same_text s.descriptor descriptor d)

module _ (number : List ℕ → List ℕ → Option ℕ) (name descriptor : List ℕ) where
  -- a name without a number is none of these
  module _ (none : number name descriptor ≡ None) where
    isnt : (s : Signature) (k : ℕ) → number s.name s.descriptor ≡ Some k → same_signature s name descriptor ≡ false
    isnt s k key =
        elim (cases_Bool (same_signature s name descriptor)) [
          | inl same ↦ none_isnt (number name descriptor) k none (sym (by_name number s name descriptor same) ∙ key)
          | inr apart ↦ apart
        ]

    pub nothing_said : (ss : List Said) (es : List Entry) → Keyed number ss es → said_by ss name descriptor ≡ None
    nothing_said [] [] are = refl
    nothing_said (s ∷ ss) (e ∷ es) are = skipped (same_signature s.signature name descriptor) s.value (said_by ss name descriptor) (isnt s.signature e.key are.0) (nothing_said ss es are.1.1)
    nothing_said (s ∷ ss) [] are = absurd are
    nothing_said [] (e ∷ es) are = absurd are

    pub no_class_says : (sss : List (List Said)) (ess : List (List Entry)) (c : ℕ) → AllKeyed number sss ess → names.said_of (slice_get sss c) name descriptor ≡ None
    no_class_says [] ess c are = refl
    no_class_says (ss ∷ sss) (es ∷ ess) zero are = nothing_said ss es are.0
    no_class_says (ss ∷ sss) (es ∷ ess) (suc c) are = no_class_says sss ess c are.1
    no_class_says (ss ∷ sss) [] c are = absurd are

    pub none_is_nearest : (sss : List (List Said)) (ess : List (List Entry)) → AllKeyed number sss ess → (line : List ClassId) → nearest sss name descriptor line ≡ None
    none_is_nearest sss ess are [] = refl
    none_is_nearest sss ess are (c ∷ line) = ap (λ (o : Option (Option ℕ)). said_or o (nearest sss name descriptor line)) (no_class_says sss ess c.0 are) ∙ none_is_nearest sss ess are line

  -- a name with a number
  module _ (apart : Apart number) (k : ℕ) (has : number name descriptor ≡ Some k) where
    same_test : (s : Signature) (key : ℕ) → number s.name s.descriptor ≡ Some key → (key == k) ≡ same_signature s name descriptor
    same_test s key is =
        elim (cases_Bool (same_signature s name descriptor)) [
          | inl same ↦ eq-eqb key k (same_Some key k (sym is ∙ (by_name number s name descriptor same ∙ has))) ∙ sym same
          | inr other ↦
              elim (cases_Bool (key == k)) [
                | inl one ↦
                    let e : key ≡ k = eqb-true key k one in
                    let both = apart s.name s.descriptor name descriptor k (is ∙ ap (λ (j : ℕ). Some j) e) has in
                    one ∙ sym (are_same s name descriptor both.0 both.1)
                | inr differs ↦ differs ∙ sym other
              ]
        ]

    said_is : (ss : List Said) (es : List Entry) → Keyed number ss es → said_in es k ≡ said_by ss name descriptor
    said_is [] [] are = refl
    said_is (s ∷ ss) (e ∷ es) are =
        chosen (e.key == k) (same_signature s.signature name descriptor) e.value s.value (said_in es k) (said_by ss name descriptor) (same_test s.signature e.key are.0) are.1.0 (said_is ss es are.1.1)
    said_is (s ∷ ss) [] are = absurd are
    said_is [] (e ∷ es) are = absurd are

    pub class_says : (sss : List (List Said)) (ess : List (List Entry)) (c : ℕ) → AllKeyed number sss ess → numbers.said_of (slice_get ess c) k ≡ names.said_of (slice_get sss c) name descriptor
    class_says [] [] c are = refl
    class_says (ss ∷ sss) (es ∷ ess) zero are = said_is ss es are.0
    class_says (ss ∷ sss) (es ∷ ess) (suc c) are = class_says sss ess c are.1
    class_says (ss ∷ sss) [] c are = absurd are
    class_says [] (es ∷ ess) c are = absurd are

    pub nearest_is : (sss : List (List Said)) (ess : List (List Entry)) → AllKeyed number sss ess → (line : List ClassId) → inherited ess k line ≡ nearest sss name descriptor line
    nearest_is sss ess are [] = refl
    nearest_is sss ess are (c ∷ line) =
        ap (λ (o : Option (Option ℕ)). said_or o (inherited ess k line)) (class_says sss ess c.0 are)
        ∙ ap (said_or (says sss name descriptor c)) (nearest_is sss ess are line)
