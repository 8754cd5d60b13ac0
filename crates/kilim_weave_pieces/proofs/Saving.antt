-- Saves and restores, one after the other.
use Rattle.std.proofs.Common.{◌≡◌, ℕ, ℤ, ◌+◌, List, [], ◌∷◌, map, refl, take, drop, reverse, slice_get, Some, ap, sym, ◌∙◌}
use Rattle.kilim_lemmas.proofs.Lists.{drop_next}
use Rattle.kilim_program.specs.declared.ty.Ty.{Ty}
use Rattle.kilim_program.specs.declared.verified.VType.{VType}
use Rattle.kilim_type_spec.specs.Step.{vtype}
use Rattle.kilim_weave_spec.specs.Woven.{Item, Plan, moved_pairs, added, dummies, dummy_of, restore, restore_local, restore_locals, restore_stack, save, save_local, save_locals, save_stack}
use Rattle.kilim_weave_pieces.proofs.Lists.{reverse_take}

module _ (x : Plan) (before now new : List Item) where
  pub save_more : (stack : List VType) (at : ℕ) (t : VType) → slice_get stack at ≡ Some t → now ≡ save_stack x (reverse (take at stack)) before → new ≡ save x t now → new ≡ save_stack x (reverse (take (at + 1) stack)) before
  save_more stack at t there is e = e ∙ (ap (λ (is : List Item). save x t is) is ∙ sym (ap (λ (ts : List VType). save_stack x ts before) (reverse_take stack at t there)))

  pub restore_more : (stack : List VType) (at : ℕ) (t : VType) → slice_get stack at ≡ Some t → restore_stack x (reverse (take (at + 1) stack)) now ≡ restore_stack x (reverse stack) before → new ≡ restore x t now → restore_stack x (reverse (take at stack)) new ≡ restore_stack x (reverse stack) before
  restore_more stack at t there is e = ap (λ (is : List Item). restore_stack x (reverse (take at stack)) is) e ∙ (sym (ap (λ (ts : List VType). restore_stack x ts now) (reverse_take stack at t there)) ∙ is)

  pub save_local_more : (locals : List (ℕ × VType)) (at : ℕ) (l : ℕ × VType) → slice_get locals at ≡ Some l → now ≡ save_locals x (drop (at + 1) locals) before → new ≡ save_local x l.0 l.1 now → new ≡ save_locals x (drop at locals) before
  save_local_more locals at l there is e = e ∙ (ap (λ (is : List Item). save_local x l.0 l.1 is) is ∙ sym (ap (λ (ls : List (ℕ × VType)). save_locals x ls before) (drop_next locals at l there)))

  pub restore_local_more : (locals : List (ℕ × VType)) (at : ℕ) (l : ℕ × VType) → slice_get locals at ≡ Some l → restore_locals x (drop at locals) now ≡ restore_locals x locals before → new ≡ restore_local x l.0 l.1 now → restore_locals x (drop (at + 1) locals) new ≡ restore_locals x locals before
  restore_local_more locals at l there is e = ap (λ (is : List Item). restore_locals x (drop (at + 1) locals) is) e ∙ (sym (ap (λ (ls : List (ℕ × VType)). restore_locals x ls now) (drop_next locals at l there)) ∙ is)

pub dummy_more : (before now new : List Item) (params : List Ty) (at : ℕ) (ty : Ty) → slice_get params at ≡ Some ty → now ≡ dummies (drop (at + 1) params) before → new ≡ added (dummy_of (vtype ty)) 1 ∷ now → new ≡ dummies (drop at params) before
dummy_more before now new params at ty there is e = e ∙ (ap (λ (is : List Item). added (dummy_of (vtype ty)) 1 ∷ is) is ∙ sym (ap (λ (ts : List Ty). dummies ts before) (drop_next params at ty there)))

pub pairs_are : (at : ℕ → ℕ) (pairs : List (ℤ × ℕ)) → map (λ (pair : ℤ × ℕ). let x : ℤ × ℕ = (pair.0, at pair.1) in x) pairs ≡ moved_pairs at pairs
pairs_are at [] = refl
pairs_are at (e ∷ es) = ap (λ (ps : List (ℤ × ℕ)). let x : ℤ × ℕ = (e.0, at e.1) in x ∷ ps) (pairs_are at es)
