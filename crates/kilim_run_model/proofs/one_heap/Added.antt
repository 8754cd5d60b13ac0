-- A new object, in a thread's heap and in the shared one.
use Rattle.std.proofs.Common.{◌≡◌, ℕ, ◌+◌, ◌<◌, Bool, cond, Some, refl, sym, ap, subst, ◌∙◌, ◌≢◌, ◌⊎◌, inl, inr, arith}
use Rattle.std.proofs.lemmas.Bool.Decides.{eqb_tells}
use Rattle.std.proofs.lemmas.Bool.{eq-eqb, ne_eqb}
use Rattle.std.specs.Prelude.{◌==◌}
use Rattle.std.specs.FinMap.{get, insert}
use Rattle.kilim_run_state.specs.declared.value.Object.{Object}
use Rattle.kilim_run_state.specs.Machine.{Objects}
use Rattle.kilim_run_model.specs.kin.Kin.{Names, Owner, OfTask, OfNobody, ObjectsKin, Alike}
use Rattle.kilim_lemmas.proofs.Maps.{put_there, put_other}
use Rattle.std.proofs.lemmas.Option.{same_Some}
use Rattle.kilim_run_model.proofs.kin.Kins.{object_up}
use Rattle.kilim_run_model.proofs.one_heap.Owners.{task_nobody}

pub added : Names → ℕ → ℕ → Names
added of base y n = cond (n == base) (Some y) (of n)

pub added_owner : (ℕ → Owner) → ℕ → Owner → ℕ → Owner
added_owner owner y o x = cond (x == y) o (owner x)

pub owner_new : (owner : ℕ → Owner) (y : ℕ) (o : Owner) → added_owner owner y o y ≡ o
unfolding added_owner
owner_new owner y o = ap (λ (b : Bool). cond b o (owner y)) (eq-eqb y y refl)

pub owner_old : (owner : ℕ → Owner) (y : ℕ) (o : Owner) (x : ℕ) → x ≢ y → added_owner owner y o x ≡ owner x
unfolding added_owner
owner_old owner y o x n = ap (λ (b : Bool). cond b o (owner x)) (ne_eqb x y n)

-- only that object has changed its owner
pub owner_only : (owner : ℕ → Owner) (y t : ℕ) → owner y ≡ OfNobody → (x : ℕ) → (added_owner owner y (OfTask t) x ≡ owner x) ⊎ ((owner x ≡ OfNobody) × (added_owner owner y (OfTask t) x ≡ OfTask t))
owner_only owner y t free x = elim (eqb_tells x y) [
  | inl d ↦ inr (ap owner d.1 ∙ free, ap (added_owner owner y (OfTask t)) d.1 ∙ owner_new owner y (OfTask t))
  | inr d ↦ inl (owner_old owner y (OfTask t) x d.1)
]

module _ (of : Names) (base y : ℕ) where
  pub added_new : added of base y base ≡ Some y
  unfolding added
  added_new = ap (λ (b : Bool). cond b (Some y) (of base)) (eq-eqb base base refl)

  added_other : (n : ℕ) → n ≢ base → added of base y n ≡ of n
  unfolding added
  added_other n e = ap (λ (b : Bool). cond b (Some y) (of n)) (ne_eqb n base e)

  module _ (below : (n x : ℕ) → of n ≡ Some x → n < base) where
    pub added_old : (n x : ℕ) → of n ≡ Some x → added of base y n ≡ Some x
    added_old n x e = added_other n (λ d. let lt = below n x e in absurd (omega (arith, lt, d))) ∙ e

    pub added_bound : (n x : ℕ) → added of base y n ≡ Some x → n < base + 1
    added_bound n x e = elim (eqb_tells n base) [
      | inl d ↦ omega (arith, d.1)
      | inr d ↦ let lt = below n x (sym (added_other n d.1) ∙ e) in omega (arith, lt)
    ]

    module _ (owner : ℕ → Owner) (t : ℕ) (h k : Objects) (a : Alike of owner t k h k) (free : owner y ≡ OfNobody) (o q : Object) (kin : ObjectsKin of o q) where
      not_new : (x : ℕ) → owner x ≡ OfTask t → x ≢ y
      not_new x e d = task_nobody t (sym e ∙ (ap owner d ∙ free))

      pub alike_added : Alike (added of base y) (added_owner owner y (OfTask t)) t k (insert h base o) (insert k y q)
      alike_added = record {
        same = λ n r e. elim (eqb_tells n base) [
          | inl d ↦ (
            y,
            q,
            ap (added of base y) d.1 ∙ added_new,
            put_there k y q,
            subst (λ (z : Object). ObjectsKin (added of base y) z q) (same_Some _ _ (sym (put_there h base o) ∙ (ap (get (insert h base o)) (sym d.1) ∙ e))) (object_up of (added of base y) added_old o q kin),
            owner_new owner y (OfTask t),
          )
          | inr d ↦
              let s = a.same n r (sym (put_other h base o n d.1) ∙ e) in (
                s.0,
                s.1,
                added_old n s.0 s.2,
                put_other k y q s.0 (not_new s.0 s.5) ∙ s.3,
                object_up of (added of base y) added_old r s.1 s.4,
                owner_old owner y (OfTask t) s.0 (not_new s.0 s.5) ∙ s.5,
              )
        ];
        apart = λ n m x r w c d f g.
            let side : (i : ℕ) (v : Object) → added of base y i ≡ Some x → get (insert h base o) i ≡ Some v → ((i ≡ base) × (x ≡ y)) ⊎ ((x ≢ y) × (of i ≡ Some x) × (get h i ≡ Some v)) = λ i v e there. elim (eqb_tells i base) [
              | inl z ↦ inl (z.1, same_Some _ _ (sym e ∙ (ap (added of base y) z.1 ∙ added_new)))
              | inr z ↦
                  let was = sym (put_other h base o i z.1) ∙ there in
                  let s = a.same i v was in
                  let named = sym (added_other i z.1) ∙ e in
                  inr (subst (λ (u : ℕ). u ≢ y) (same_Some _ _ (sym s.2 ∙ named)) (not_new s.0 s.5), named, was)
            ] in
            elim (side n r c f) [
              | inl u ↦ elim (side m w d g) [
                | inl v ↦ u.0 ∙ sym v.0
                | inr v ↦ absurd (v.0 u.1)
              ]
              | inr u ↦ elim (side m w d g) [
                | inl v ↦ absurd (u.0 v.1)
                | inr v ↦ a.apart n m x r w u.1 v.1 u.2 v.2
              ]
            ];
        rest = λ x. elim (eqb_tells x y) [ inl d ↦ inr (ap (added_owner owner y (OfTask t)) d.1 ∙ owner_new owner y (OfTask t)) | inr d ↦ inl (put_other k y q x d.1) ];
      }
