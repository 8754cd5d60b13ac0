-- A new object, in a thread's heap under a new name and in the fiber's at a place that was free.
use Rattle.std.proofs.Common.{◌≡◌, ℕ, ◌+◌, ◌<◌, Bool, cond, Some, None, refl, sym, ap, subst, ◌∙◌, ◌≢◌, ◌⊎◌, inl, inr, arith}
use Rattle.std.proofs.lemmas.Bool.{eq-eqb, ne_eqb}
use Rattle.std.specs.Prelude.{◌==◌}
use Rattle.std.proofs.lemmas.Bool.Decides.{eqb_tells}
use Rattle.std.specs.FinMap.{get, insert}
use Rattle.std.proofs.lemmas.Option.{same_Some, none-some}
use Rattle.kilim_run_state.specs.declared.value.Object.{Object}
use Rattle.kilim_run_state.specs.Machine.{Objects}
use Rattle.kilim_run_model.specs.kin.Kin.{Names, ObjectsKin, Alike}
use Rattle.kilim_lemmas.proofs.Maps.{put_there, put_other}
use Rattle.kilim_run_model.proofs.kin.Kins.{object_up}
use Rattle.kilim_fiber_spec.specs.fiber_kin.Mine.{all_mine}

pub added : Names → ℕ → ℕ → Names
added of base y n = cond (n == base) (Some y) (of n)

module _ (of : Names) (base y : ℕ) where
  pub added_new : added of base y base ≡ Some y
  unfolding added
  added_new = ap (λ (b : Bool). cond b (Some y) (of base)) (eq-eqb base base refl)

  added_other : (n : ℕ) → n ≢ base → added of base y n ≡ of n
  unfolding added
  added_other n e = ap (λ (b : Bool). cond b (Some y) (of n)) (ne_eqb n base e)

  module _ (below : (n x : ℕ) → of n ≡ Some x → n < base) where
    pub added_old : (n x : ℕ) → of n ≡ Some x → added of base y n ≡ Some x
    added_old n x e = added_other n (λ d. let lt = below n x e in absurd (omega (arith, lt, d))) ∙ e

    pub added_bound : (n x : ℕ) → added of base y n ≡ Some x → n < base + 1
    added_bound n x e = elim (eqb_tells n base) [
      | inl d ↦ omega (arith, d.1)
      | inr d ↦ let lt = below n x (sym (added_other n d.1) ∙ e) in omega (arith, lt)
    ]

module _ (of : Names) (base y : ℕ) (below : (n x : ℕ) → of n ≡ Some x → n < base) (h k : Objects) (a : Alike of all_mine 0 k h k) (free : get k y ≡ None) (o q : Object) (kin : ObjectsKin of o q) where
  abbrev more : Names
  more = added of base y

  not_new : (x : ℕ) (r : Object) → get k x ≡ Some r → x ≢ y
  not_new x r e d = none-some r (sym free ∙ (sym (ap (get k) d) ∙ e))

  pub alike_made : Alike more all_mine 0 (insert k y q) (insert h base o) (insert k y q)
  alike_made = record {
    same = λ n r e. elim (eqb_tells n base) [
      | inl d ↦ (
        y,
        q,
        ap more d.1 ∙ added_new of base y,
        put_there k y q,
        subst (λ (z : Object). ObjectsKin more z q) (same_Some _ _ (sym (put_there h base o) ∙ (ap (get (insert h base o)) (sym d.1) ∙ e))) (object_up of more (added_old of base y below) o q kin),
        refl,
      )
      | inr d ↦
          let s = a.same n r (sym (put_other h base o n d.1) ∙ e) in (
            s.0,
            s.1,
            added_old of base y below n s.0 s.2,
            put_other k y q s.0 (not_new s.0 s.1 s.3) ∙ s.3,
            object_up of more (added_old of base y below) r s.1 s.4,
            refl,
          )
    ];
    apart = λ n m x r w c d f g.
        let side : (i : ℕ) (v : Object) → more i ≡ Some x → get (insert h base o) i ≡ Some v → ((i ≡ base) × (x ≡ y)) ⊎ ((x ≢ y) × (of i ≡ Some x) × (get h i ≡ Some v)) = λ i v e there. elim (eqb_tells i base) [
          | inl z ↦ inl (z.1, same_Some _ _ (sym e ∙ (ap more z.1 ∙ added_new of base y)))
          | inr z ↦
              let was = sym (put_other h base o i z.1) ∙ there in
              let s = a.same i v was in
              let named = sym (added_other of base y i z.1) ∙ e in
              inr (subst (λ (u : ℕ). u ≢ y) (same_Some _ _ (sym s.2 ∙ named)) (not_new s.0 s.1 s.3), named, was)
        ] in
        elim (side n r c f) [
          | inl u ↦ elim (side m w d g) [
            | inl v ↦ u.0 ∙ sym v.0
            | inr v ↦ absurd (v.0 u.1)
          ]
          | inr u ↦ elim (side m w d g) [
            | inl v ↦ absurd (u.0 v.1)
            | inr v ↦ a.apart n m x r w u.1 v.1 u.2 v.2
          ]
        ];
    rest = λ x. inl refl;
  }
