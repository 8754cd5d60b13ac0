-- A map behind a change.
use Rattle.std.proofs.Common.{◌≡◌, ◌≢◌, ℕ, Bool, true, false, cond, Some, refl, sym, ap, ◌∙◌}
use Rattle.std.specs.FinMap.{FinMap, get, insert, get-insert, nat_cmp-IsAntisymmetric}
use Rattle.std.proofs.lemmas.Cmp.{nat_cmp_total}
use Rattle.std.specs.Ordering.{nat_cmp, eq_by_cmp, is_eq}
use Rattle.std.specs.Cmp.{nat_cmp_is}
use Rattle.std.specs.declared.cmp.Ordering.{Ordering}
use Rattle.std.specs.declared.cmp.Ordering.TheVariants.{Less, Equal, Greater}

ties_self : (k : ℕ) → eq_by_cmp nat_cmp k k ≡ true
ties_self k = ap is_eq (sym (nat_cmp_is k k Equal refl))

ties_not : (q k : ℕ) → q ≢ k → (b : Ordering) → nat_cmp q k ≡ b → is_eq b ≡ false
ties_not q k n Less e = refl
ties_not q k n Equal e = absurd (n (nat_cmp-IsAntisymmetric q k e))
ties_not q k n Greater e = refl

module _ {X : Type 0} where
  pub put_there : (m : FinMap nat_cmp X) (k : ℕ) (v : X) → get (insert m k v) k ≡ Some v
  put_there m k v = get-insert nat_cmp_total m k v k ∙ ap (λ (b : Bool). cond b (Some v) (get m k)) (ties_self k)

  pub put_other : (m : FinMap nat_cmp X) (k : ℕ) (v : X) (q : ℕ) → q ≢ k → get (insert m k v) q ≡ get m q
  put_other m k v q n = get-insert nat_cmp_total m k v q ∙ ap (λ (b : Bool). cond b (Some v) (get m q)) (ties_not q k n (nat_cmp q k) refl)
