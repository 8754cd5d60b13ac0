-- Numbers that something is inherited of are those of names.
use Rattle.std.proofs.Common.{◌≡◌, ℕ, zero, suc, ◌==◌, Bool, true, List, [], ◌∷◌, Option, Some, None, is_some, refl, sym, ap, ◌∙◌, ◌⊎◌, inl, inr}
use Rattle.std.specs.Prelude.{if◌then◌else◌, slice_get}
use Rattle.std.proofs.lemmas.Bool.{cases_Bool, eqb-true}
use Rattle.kilim_program.specs.declared.names.ClassId.{ClassId}
use Rattle.kilim_link_inherited.specs.declared.entry.Entry.{Entry}
use Rattle.kilim_link_inherited.specs.Inherited.{said_in, said_of, said_at, said_or, inherited}
use Rattle.kilim_link_inherited.specs.declared.said.Said.{Said}
use Rattle.kilim_link_inherited.specs.Keyed.{Keyed, AllKeyed}

-- what is inherited is said by some class
some_said : (o : Option (Option ℕ)) (later : Option ℕ) → is_some (said_or o later) ≡ true → (is_some o ≡ true) ⊎ (is_some later ≡ true)
some_said None later is = inr is
some_said (Some value) later is = inl refl

module _ (number : List ℕ → List ℕ → Option ℕ) (k : ℕ) where
  -- a name with its descriptor has the number
  abbrev pub IsNamed : Type 0
  IsNamed = (name : List ℕ) × (descriptor : List ℕ) × (number name descriptor ≡ Some k)

  in_entries : (ss : List Said) (es : List Entry) → Keyed number ss es → is_some (said_in es k) ≡ true → IsNamed
  in_entries [] [] are is = absurd cc
  in_entries (s ∷ ss) (e ∷ es) are is =
      elim (cases_Bool (e.key == k)) [
        | inl same ↦ (s.signature.name, s.signature.descriptor, are.0 ∙ ap (λ (j : ℕ). Some j) (eqb-true e.key k same))
        | inr other ↦ in_entries ss es are.1.1 (sym (ap (λ (b : Bool). is_some (if b then Some e.value else said_in es k)) other) ∙ is)
      ]
  in_entries (s ∷ ss) [] are is = absurd are
  in_entries [] (e ∷ es) are is = absurd are

  in_class : (sss : List (List Said)) (ess : List (List Entry)) (c : ℕ) → AllKeyed number sss ess → is_some (said_of (slice_get ess c) k) ≡ true → IsNamed
  in_class [] [] c are is = absurd cc
  in_class (ss ∷ sss) (es ∷ ess) zero are is = in_entries ss es are.0 is
  in_class (ss ∷ sss) (es ∷ ess) (suc c) are is = in_class sss ess c are.1 is
  in_class (ss ∷ sss) [] c are is = absurd are
  in_class [] (es ∷ ess) c are is = absurd are

  pub in_line : (sss : List (List Said)) (ess : List (List Entry)) → AllKeyed number sss ess → (line : List ClassId) → is_some (inherited ess k line) ≡ true → IsNamed
  in_line sss ess are [] is = absurd cc
  in_line sss ess are (c ∷ line) is =
      elim (some_said (said_at ess k c) (inherited ess k line) is) [
        | inl here ↦ in_class sss ess c.0 are here
        | inr later ↦ in_line sss ess are line later
      ]
