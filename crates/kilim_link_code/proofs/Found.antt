-- A member that is found for a reference in parts.
use Rattle.std.proofs.Common.{◌≡◌, refl, ℕ, List, Option, Some, None, Result, Ok, sym, ap, subst, ◌∙◌}
use Rattle.std.specs.Prelude.{IfOk}
use Rattle.kilim_program.specs.declared.instr.Instr.{Instr}
use Rattle.kilim_link_spec.specs.declared.fault.MemberOf.{MemberOf}
use Rattle.kilim_link_spec.specs.Code.{applied}

-- what was answered without a fault
ok_is : {A E : Type 0} (r : Result A E) (x y : A) → r ≡ Ok x → IfOk r (λ a. a ≡ y) → x ≡ y
ok_is r x y e is = subst (λ s. IfOk s (λ a. a ≡ y)) e is

none_applied : {A : Type 0} (row : Option (A → Instr)) → None ≡ applied row None
none_applied None = refl
none_applied (Some make) = refl

-- a member's instruction, where the member was found by parts
module _ {A E : Type 0} (find : MemberOf → Option A) (row : Option (A → Instr)) (r : Result (Option A) E) (found : Option A) (owner name descriptor : List ℕ) (b : MemberOf) where
  finds : r ≡ Ok found → IfOk r (λ o. o ≡ find (record { owner = owner; name = name; descriptor = descriptor })) → owner ≡ b.owner → name ≡ b.name → descriptor ≡ b.descriptor → found ≡ find b
  finds is e o n d =
      ok_is r found (find (record { owner = owner; name = name; descriptor = descriptor })) is e
      ∙ (ap (λ (k : List ℕ). find (record { owner = k; name = name; descriptor = descriptor })) o
      ∙ (ap (λ (k : List ℕ). find (record { owner = b.owner; name = k; descriptor = descriptor })) n
      ∙ ap (λ (k : List ℕ). find (record { owner = b.owner; name = b.name; descriptor = k })) d))

  pub by_parts : (a : A) → r ≡ Ok found → found ≡ Some a → IfOk r (λ o. o ≡ find (record { owner = owner; name = name; descriptor = descriptor }))
      → owner ≡ b.owner → name ≡ b.name → descriptor ≡ b.descriptor → applied row (Some a) ≡ applied row (find b)
  by_parts a is at e o n d = ap (applied row) (sym at ∙ finds is e o n d)

  pub none_by_parts : r ≡ Ok found → found ≡ None → IfOk r (λ o. o ≡ find (record { owner = owner; name = name; descriptor = descriptor }))
      → owner ≡ b.owner → name ≡ b.name → descriptor ≡ b.descriptor → None ≡ applied row (find b)
  none_by_parts is at e o n d = none_applied row ∙ ap (applied row) (sym at ∙ finds is e o n d)
