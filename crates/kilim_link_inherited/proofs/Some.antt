-- Trees that have a value.
use Rattle.std.proofs.Common.{◌≡◌, ℕ, suc, ◌+◌, ◌*◌, ◌-◌, ◌/◌, ◌%◌, ◌<◌, Bool, List, Some, None, is_some, refl, ap, subst, ◌∙◌, arith, ◌⊎◌, inl, inr}
use Rattle.std.specs.Prelude.{if◌then◌else◌}
use Rattle.std.specs.List.{slice_get}
use Rattle.std.proofs.lemmas.Bool.{eq-eqb, ne_eqb}
use Rattle.kilim_link_inherited.specs.declared.node.Node.{Node}
use Rattle.kilim_link_inherited.specs.declared.node.Node.TheVariants.{Leaf, Branch}
use Rattle.kilim_link_inherited.specs.Trees.{side, value_at, HasSome}
use Rattle.kilim_link_inherited.proofs.Putting.{at_known, side_even, side_odd}

module _ (nodes : List Node) (tree : ℕ) where
  module _ (levels rest value : ℕ) (is : slice_get nodes tree ≡ Some (Leaf rest value)) where
    pub leaf_has : HasSome nodes levels tree
    leaf_has = (
      rest,
      ap is_some (at_known nodes levels tree rest (Some (Leaf rest value)) is ∙ ap (λ (b : Bool). if b then Some value else None) (eq-eqb rest rest refl)),
    )

  module _ (even odd : ℕ) (is : slice_get nodes tree ≡ Some (Branch even odd)) where
    at_side : (levels k : ℕ) → value_at nodes (suc levels) tree k ≡ value_at nodes levels (side even odd k) (k / 2)
    at_side levels k = at_known nodes (suc levels) tree k (Some (Branch even odd)) is

    even_has : (levels : ℕ) → HasSome nodes levels even → HasSome nodes (suc levels) tree
    even_has levels h =
        let k = 2 * h.0 + 0 in
        let half : k / 2 ≡ h.0 = omega arith in (
          k,
          ap is_some (at_side levels k ∙ (ap (λ (t : ℕ). value_at nodes levels t (k / 2)) (side_even even odd k (eq-eqb (k % 2) 0 (omega arith))) ∙ ap (value_at nodes levels even) half)) ∙ h.1,
        )

    odd_has : (levels : ℕ) → HasSome nodes levels odd → HasSome nodes (suc levels) tree
    odd_has levels h =
        let k = 2 * h.0 + 1 in
        let half : k / 2 ≡ h.0 = omega arith in (
          k,
          ap is_some (at_side levels k ∙ (ap (λ (t : ℕ). value_at nodes levels t (k / 2)) (side_odd even odd k (ne_eqb (k % 2) 0 (λ e. omega arith))) ∙ ap (value_at nodes levels odd) half)) ∙ h.1,
        )

    pub some_has : (levels below : ℕ) → 0 < levels → (below ≡ even) ⊎ (below ≡ odd) → HasSome nodes (levels - 1) below → HasSome nodes levels tree
    some_has levels below some (inl is) h =
        let e : suc (levels - 1) ≡ levels = omega arith in
        subst (λ (n : ℕ). HasSome nodes n tree) e (even_has (levels - 1) (subst (HasSome nodes (levels - 1)) is h))
    some_has levels below some (inr is) h =
        let e : suc (levels - 1) ≡ levels = omega arith in
        subst (λ (n : ℕ). HasSome nodes n tree) e (odd_has (levels - 1) (subst (HasSome nodes (levels - 1)) is h))
