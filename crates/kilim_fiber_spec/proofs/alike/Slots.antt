-- Local slots: reading behind a store.
use Rattle.std.proofs.Common.{◌≡◌, ◌≢◌, ℕ, zero, suc, ◌<◌, List, [], ◌∷◌, length, Some, refl, sym, arith}
use Rattle.std.specs.Prelude.{slice_get, slice_set}
use Rattle.kilim_program.specs.declared.value.Value.{Value}
use Rattle.kilim_lemmas.proofs.Lists as list

pub get_within : (l : List Value) (k : ℕ) → k < length l → (v : Value) × (slice_get l k ≡ Some v)
get_within [] k h = absurd (omega (arith, h))
get_within (a ∷ l) zero h = (a, refl)
get_within (a ∷ l) (suc k) h = get_within l k (omega (arith, h))

pub set_same : (l : List Value) (k : ℕ) (v : Value) → k < length l → slice_get (slice_set l k v) k ≡ Some v
set_same l k v h = let a = get_within l k h in list.set_there l k a.0 v a.1

pub set_other : (l : List Value) (k j : ℕ) (v : Value) → k ≢ j → slice_get (slice_set l k v) j ≡ slice_get l j
set_other l k j v h = list.set_other l k j v (λ e. h (sym e))
