-- A call that no rule refuses.
use Rattle.std.proofs.Common.{◌≡◌, ℕ, zero, suc, ◌<◌, Bool, true, false, true≢false, Option, Some, None, List, [], ◌∷◌, eqb, refl, ap, sym, subst, ◌∙◌, ◌⊎◌, inl, inr, arith}
use Rattle.kilim_isolation_laws.specs.forest.Heap.{Heap, IsForest}
use Rattle.kilim_isolation_laws.specs.forest.Relation.{Standing, Root, Inner, Safe, Gone, is_gone, is_safe, Label, Node, Named, Names, Owns, Relates, Frames}
use Rattle.kilim_isolation_laws.specs.forest.Steps.{IsTidy, Argument, Free, Cuttable, after_arguments, Qualifier, is_owned, entry_node, more_arguments, arguments, number_or, IsCall}
use Rattle.kilim_program.specs.declared.ty.Qualifier.TheVariants as qualifier
use Rattle.kilim_isolation_laws.proofs.forest.Paths.{some_is}
use Rattle.kilim_isolation_laws.proofs.forest.Store.{both_ways, is_same, is_not_same}
use Rattle.kilim_isolation_laws.proofs.forest.Less.{IsLess, lives}
use Rattle.kilim_isolation_laws.proofs.forest.View.{IsView}
use Rattle.kilim_isolation_laws.proofs.forest.Calls.{IsAfter_call}
use Rattle.kilim_isolation_laws.proofs.forest.Moves.{call_keeps}
use Rattle.kilim_isolation_laws.proofs.forest.Arguments.{IsLeft_behind, AllLeft_behind, arguments_behind, less_itself}

-- the kinds of a parameter's node
pub which : (q : Qualifier) → ((q ≡ (Some qualifier.Free)) ⊎ (q ≡ (Some qualifier.Cuttable))) ⊎ ((q ≡ (Some qualifier.Safe)) ⊎ (q ≡ None))
which (Some qualifier.Free) = inl (inl refl)
which (Some qualifier.Cuttable) = inl (inr refl)
which (Some qualifier.Safe) = inr (inl refl)
which None = inr (inr refl)

pub owned_region : (q : Qualifier) (k : ℕ) → (entry_node q k).head ≡ true → (is_owned q ≡ true) × ((entry_node q k).region ≡ suc k)
owned_region (Some qualifier.Free) k e = (refl, refl)
owned_region (Some qualifier.Cuttable) k e = (refl, refl)
owned_region (Some qualifier.Safe) k e = absurd (true≢false (sym e))
owned_region None k e = absurd (true≢false (sym e))

pub other_region : (q : Qualifier) (k : ℕ) → ((entry_node q k).region ≡ suc k) ⊎ ((entry_node q k).region ≡ 0)
other_region (Some qualifier.Free) k = inl refl
other_region (Some qualifier.Cuttable) k = inl refl
other_region (Some qualifier.Safe) k = inr refl
other_region None k = inr refl

pub not_owned_region : (q : Qualifier) (k : ℕ) → is_owned q ≡ false → (entry_node q k).region ≡ 0
not_owned_region (Some qualifier.Free) k e = absurd (true≢false e)
not_owned_region (Some qualifier.Cuttable) k e = absurd (true≢false e)
not_owned_region (Some qualifier.Safe) k e = refl
not_owned_region None k e = refl

pub no_parent : (q : Qualifier) (k : ℕ) (p : ℕ × Label) → (entry_node q k).parent ≡ Some p → ⊥
no_parent (Some qualifier.Free) k p e = absurd (cc)
no_parent (Some qualifier.Cuttable) k p e = absurd (cc)
no_parent (Some qualifier.Safe) k p e = absurd (cc)
no_parent None k p e = absurd (cc)

pub root_free : (q : Qualifier) (k : ℕ) → (entry_node q k).standing ≡ Root → q ≡ (Some qualifier.Free)
root_free (Some qualifier.Free) k e = refl
root_free (Some qualifier.Cuttable) k e = absurd (cc)
root_free (Some qualifier.Safe) k e = absurd (cc)
root_free None k e = absurd (cc)

pub owned_of : (q : Qualifier) (k : ℕ) → is_gone (entry_node q k).standing ≡ false → is_safe (entry_node q k).standing ≡ false → (q ≡ (Some qualifier.Free)) ⊎ (q ≡ (Some qualifier.Cuttable))
owned_of (Some qualifier.Free) k live safe = inl refl
owned_of (Some qualifier.Cuttable) k live safe = inr refl
owned_of (Some qualifier.Safe) k live safe = absurd (true≢false safe)
owned_of None k live safe = absurd (true≢false live)

-- what all arguments leave behind, each leaves
pub tail_behind : (h : Heap) (u after : Named) (q : Qualifier) (x : Option ℕ) (xs : List Argument) → AllLeft_behind h u after (more_arguments q x xs) → AllLeft_behind h u after xs
tail_behind h u after None None xs p = p
tail_behind h u after (Some qualifier.Free) None xs p = p
tail_behind h u after (Some qualifier.Cuttable) None xs p = p
tail_behind h u after (Some qualifier.Safe) None xs p = p
tail_behind h u after (Some qualifier.Free) (Some n) xs p = p.1
tail_behind h u after (Some qualifier.Cuttable) (Some n) xs p = p.1
tail_behind h u after (Some qualifier.Safe) (Some n) xs p = p
tail_behind h u after None (Some n) xs p = p

module _ (h : Heap) (u after : Named) (qual : ℕ → Qualifier) (arg : ℕ → Option ℕ) where
  pub behind_free : (count : ℕ) → AllLeft_behind h u after (arguments qual arg count) → (k n : ℕ) → k < count → qual k ≡ (Some qualifier.Free) → arg k ≡ Some n → IsLeft_behind h u after (Free n)
  behind_free zero p k n lt q e = absurd (omega arith)
  behind_free (suc count) p k n lt q e = elim (both_ways (eqb k count)) [
    | inl it ↦
        let is = is_same k count it in
        (subst (λ y. AllLeft_behind h u after (more_arguments (Some qualifier.Free) y (arguments qual arg count))) (ap arg (sym is) ∙ e)
        (subst (λ z. AllLeft_behind h u after (more_arguments z (arg count) (arguments qual arg count))) (ap qual (sym is) ∙ q) p)).0
    | inr other ↦
        let not = is_not_same k count other in
        let less : k < count = grind arith in
        behind_free count (tail_behind h u after (qual count) (arg count) (arguments qual arg count) p) k n less q e
  ]

  pub behind_cuttable : (count : ℕ) → AllLeft_behind h u after (arguments qual arg count) → (k n : ℕ) → k < count → qual k ≡ (Some qualifier.Cuttable) → arg k ≡ Some n → IsLeft_behind h u after (Cuttable n)
  behind_cuttable zero p k n lt q e = absurd (omega arith)
  behind_cuttable (suc count) p k n lt q e = elim (both_ways (eqb k count)) [
    | inl it ↦
        let is = is_same k count it in
        (subst (λ y. AllLeft_behind h u after (more_arguments (Some qualifier.Cuttable) y (arguments qual arg count))) (ap arg (sym is) ∙ e)
        (subst (λ z. AllLeft_behind h u after (more_arguments z (arg count) (arguments qual arg count))) (ap qual (sym is) ∙ q) p)).0
    | inr other ↦
        let not = is_not_same k count other in
        let less : k < count = grind arith in
        behind_cuttable count (tail_behind h u after (qual count) (arg count) (arguments qual arg count) p) k n less q e
  ]

module _ (IsPlace : ℕ → Label → Type 0) (h : Heap) (u : Named) (ls : List Named) (forest : IsForest h) (fs : Frames IsPlace h (u ∷ ls)) (tidy : IsTidy u.node) (fuel count : ℕ)
    (qual : ℕ → Qualifier) (arg value : ℕ → Option ℕ) (c : IsCall u count qual arg value) where
  abbrev pub entry : Named
  entry = record { node = λ k. entry_node (qual k) k; at = value }

  abbrev pub after : Named
  after = record { node = after_arguments fuel u.node (arguments qual arg count); at = u.at }

  abbrev pub of : ℕ → ℕ
  of k = number_or (arg k)

  pub behind : IsLess u after × AllLeft_behind h u after (arguments qual arg count)
  behind = arguments_behind IsPlace h u forest fs.0 tidy fuel u (less_itself u) (arguments qual arg count)

  -- an argument that stands for an object names a node
  pub named : (k o : ℕ) → value k ≡ Some o → (n : ℕ) × (arg k ≡ Some n) × Names u n o
  named k o e = by (arg k) refl
    where
      none_some : (m : Option ℕ) → m ≡ None → m ≡ Some o → ⊥
      none_some m e f = cc

      by : (x : Option ℕ) → arg k ≡ x → (n : ℕ) × (arg k ≡ Some n) × Names u n o
      by None is = absurd (none_some (value k) (c.none k is) e)
      by (Some n) is = (n, is, ((c.slots k n is).1, sym (c.slots k n is).0 ∙ e))

  pub of_is : (k n : ℕ) → arg k ≡ Some n → n ≡ of k
  of_is k n e = sym (ap number_or e)

  pub of_named : (k o : ℕ) → value k ≡ Some o → (arg k ≡ Some (of k)) × Names u (of k) o
  of_named k o e =
      let w = named k o e in
      (w.1 ∙ ap Some (of_is k w.0 w.1), subst (λ z. Names u z o) (of_is k w.0 w.1) w.2)

  pub view : IsView IsPlace h u entry of
  view = record {
    names = λ k o w. (of_named k o w.1).1;
    joins = λ j k o x wj wk same. elim (both_ways (eqb j k)) [
      | inl it ↦ ap (λ z. (entry.node z).region) (is_same j k it)
      | inr other ↦
          let safe = c.apart j k (of j) (of k) (is_not_same j k other) (of_named j o wj.1).0 (of_named k x wk.1).0 same in
          not_owned_region (qual j) j safe.0 ∙ sym (not_owned_region (qual k) k safe.1)
    ];
    heads = λ j k x hd lj wk same. inl (alone j k (owned_region (qual j) j hd).1 same);
    edges = λ n m l e ln lm. absurd (no_parent (qual m) m (n, l) e);
    roots = λ k o w root. c.free k (of k) (root_free (qual k) k root) (of_named k o w.1).0;
  }
    where
      alone : (j k : ℕ) → (entry.node j).region ≡ suc j → (entry.node j).region ≡ (entry.node k).region → j ≡ k
      alone j k e same = elim (other_region (qual k) k) [
        | inl f ↦
            let w = sym e ∙ same ∙ f in
            omega arith
        | inr f ↦
            let w = sym e ∙ same ∙ f in
            absurd (omega arith)
      ]

  pub owned : (k o : ℕ) → Owns entry k o → is_safe (u.node (of k)).standing ≡ false
  owned k o w = elim (owned_of (qual k) k w.0 w.1) [
    | inl free ↦ ap is_safe (c.free k (of k) free (of_named k o w.2).0)
    | inr cuttable ↦ c.cuttable k (of k) cuttable (of_named k o w.2).0
  ]

  pub bound : (k o : ℕ) → Owns entry k o → k < count
  bound k o w = elim (owned_of (qual k) k w.0 w.1) [ inl e ↦ c.within k (ap is_owned e) | inr e ↦ c.within k (ap is_owned e) ]

  pub gone_region : (k o m : ℕ) → Owns entry k o → qual k ≡ (Some qualifier.Free) → is_gone (after.node m).standing ≡ false → (u.node m).region ≡ (u.node (of k)).region → ⊥
  gone_region k o m w free live same = behind_free h u after qual arg count behind.1 k (of k) (bound k o w) free (of_named k o w.2).0 m live same

  pub after_is : IsAfter_call h u after entry of
  after_is = record {
    at = λ n. refl;
    lives = λ n e. lives IsPlace h u after behind.0 n e;
    free = λ k o m w root live same. gone_region k o m w (root_free (qual k) k root) live same;
    cuttable = λ k o m x w wm same. elim (owned_of (qual k) k w.0 w.1) [
      | inl free ↦ absurd (gone_region k o m w free wm.0 same)
      | inr cuttable ↦ (behind_cuttable h u after qual arg count behind.1 k (of k) (bound k o w) cuttable (of_named k o w.2).0).0 o m x (of_named k o w.2).1.1 wm same
    ];
    no_edge = λ k o m l w live_k e live. elim (owned_of (qual k) k w.0 w.1) [
      | inl free ↦ gone_region k o (of k) w free live_k refl
      | inr cuttable ↦ (behind_cuttable h u after qual arg count behind.1 k (of k) (bound k o w) cuttable (of_named k o w.2).0).1 m l e
    ];
  }

  -- a call that no rule refuses keeps the relation of all frames
  pub called : Frames IsPlace h (entry ∷ after ∷ ls)
  called = call_keeps IsPlace h u after entry of ls forest fs view owned behind.0 after_is
