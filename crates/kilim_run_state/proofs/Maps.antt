-- Maps from places to objects: what a look-up finds after a change.
use Rattle.std.proofs.Common.{◌≡◌, ℕ, ◌==◌, Bool, true, false, cond, Some, None, ap, ◌∙◌, rules}
use Rattle.std.specs.Ordering.{nat_cmp, eq_by_cmp}
use Rattle.std.specs.Cmp.{nat_cmp_total, unsigned_tied}
use Rattle.std.specs.FinMap.{get, insert, remove, same_map, get-insert, get-remove, nat_cmp-IsAntisymmetric}
use Rattle.kilim_run_state.specs.declared.value.Object.{Object}
use Rattle.kilim_run_state.specs.Machine.{Objects}

tied : (q k : ℕ) (b : Bool) → (q == k) ≡ b → eq_by_cmp nat_cmp q k ≡ b
tied q k b e = unsigned_tied q k ∙ e

same : (k : ℕ) → (k == k) ≡ true
same k = search rules

apart : (q k : ℕ) → (q ≡ k → ⊥) → (q == k) ≡ false
apart q k ne = search rules

pub got-there : (h : Objects) (k : ℕ) (o : Object) → get (insert h k o) k ≡ Some o
got-there h k o = get-insert nat_cmp_total h k o k ∙ ap (λ b. cond b (Some o) (get h k)) (tied k k true (same k))

pub got-other : (h : Objects) (k : ℕ) (o : Object) (q : ℕ) → (q ≡ k → ⊥) → get (insert h k o) q ≡ get h q
got-other h k o q ne = get-insert nat_cmp_total h k o q ∙ ap (λ b. cond b (Some o) (get h q)) (tied q k false (apart q k ne))

pub gone-there : (h : Objects) (k : ℕ) → get (remove h k) k ≡ None
gone-there h k = get-remove nat_cmp_total h k k ∙ ap (λ b. cond b None (get h k)) (tied k k true (same k))

pub gone-other : (h : Objects) (k q : ℕ) → (q ≡ k → ⊥) → get (remove h k) q ≡ get h q
gone-other h k q ne = get-remove nat_cmp_total h k q ∙ ap (λ b. cond b None (get h q)) (tied q k false (apart q k ne))

pub same_objects : (h k : Objects) → ((q : ℕ) → get h q ≡ get k q) → h ≡ k
same_objects h k is = same_map nat_cmp_total nat_cmp-IsAntisymmetric h k is
