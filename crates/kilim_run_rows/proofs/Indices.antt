-- An int as an index: where it is within a list, and where it is past it.
use Rattle.std.proofs.Common.{◌≡◌, sym, ap, refl, ℕ, zero, suc, ◌<◌, ◌≤◌, ℤ, pos, negsuc, true, false, true≢false, List, [], ◌∷◌, Option, Some, None, is_some, length, get_or, slice_get, arith}
use Rattle.std.specs.Prelude.{nat_abs, IsSome}
use Rattle.std.specs.FinMap.{get}
use Rattle.std.proofs.lemmas.Option.{slice_get_past}
use lib.Signed.{lt_z}
use Rattle.kilim_program.specs.Names.{◌>>=◌}
use Rattle.kilim_run_state.specs.declared.value.Object.{Object}
use Rattle.kilim_program.specs.declared.value.Value.{Value}
use Rattle.kilim_run_state.specs.Machine.{Objects}
use Rattle.kilim_run_machine.specs.Does.{table_target, target_or}
use Rattle.kilim_run_state.specs.Words.{element_at, length_at}
use Rattle.kilim_run_rows.specs.Outcome.{found_in}

no_number : (n : ℕ) → ◌≡◌ {A = Option ℕ} None (Some n) → ⊥
no_number n e = cc

same_number : (n k : ℕ) → ◌≡◌ {A = Option ℕ} (Some n) (Some k) → n ≡ k
same_number n k e = cc

within : (xs : List Value) (k : ℕ) → k < length xs → is_some (slice_get xs k) ≡ true
within [] k less = absurd (omega (arith, less))
within (x ∷ xs) zero less = refl
within (x ∷ xs) (suc k) less = within xs k (omega (arith, less))

element_there : (o : Option Object) (k size : ℕ) → (o >>= λ (x : Object). Some (length x.elements)) ≡ Some size → k < size → is_some (o >>= λ (x : Object). slice_get x.elements k) ≡ true
element_there None k size long less = absurd (no_number size long)
element_there (Some object) k size long less = let same = same_number (length object.elements) size long in within object.elements k (omega (arith, less, same))

element_past : (o : Option Object) (k size : ℕ) → (o >>= λ (x : Object). Some (length x.elements)) ≡ Some size → size ≤ k → (o >>= λ (x : Object). slice_get x.elements k) ≡ None
element_past None k size long past = refl
element_past (Some object) k size long past = let same = same_number (length object.elements) size long in slice_get_past object.elements k (omega (arith, past, same))

pub index_there : (h : Objects) (n : ℕ) (i : ℤ) (size : ℕ) → lt_z i (pos 0) ≡ false → length_at h n ≡ Some size → nat_abs i < size → (i ≡ pos (nat_abs i)) × IsSome (element_at h n (nat_abs i))
index_there h n (pos k) size low long less = (refl, element_there (get h n) k size long less)
index_there h n (negsuc k) size low long less = absurd (true≢false low)

pub index_past : (h : Objects) (n : ℕ) (i : ℤ) (size : ℕ) → length_at h n ≡ Some size → size ≤ nat_abs i → found_in h n i ≡ None
index_past h n (pos k) size long past = element_past (get h n) k size long past
index_past h n (negsuc k) size long past = refl

target_at : (targets : List ℕ) (k default : ℕ) → k < length targets → get_or targets k 0 ≡ target_or (slice_get targets k) default
target_at [] k default less = absurd (omega (arith, less))
target_at (to ∷ targets) zero default less = refl
target_at (to ∷ targets) (suc k) default less = target_at targets k default (omega (arith, less))

pub target_there : (targets : List ℕ) (i : ℤ) (default : ℕ) → lt_z i (pos 0) ≡ false → nat_abs i < length targets → get_or targets (nat_abs i) 0 ≡ table_target targets i default
target_there targets (pos k) default low less = target_at targets k default less
target_there targets (negsuc k) default low less = absurd (true≢false low)

pub target_past : (targets : List ℕ) (i : ℤ) (default : ℕ) → length targets ≤ nat_abs i → default ≡ table_target targets i default
target_past targets (pos k) default past = sym (ap (λ (to : Option ℕ). target_or to default) (slice_get_past targets k past))
target_past targets (negsuc k) default past = refl
