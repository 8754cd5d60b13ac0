-- A table grows by one entry.
use Rattle.std.proofs.Common.{◌≡◌, ℕ, zero, suc, ◌+◌, List, [], ◌∷◌, ◌++◌, Option, Some, length, length-append, refl, sym, ap, subst, ◌∙◌, arith}
use Rattle.std.specs.Prelude.{slice_get, IfSome}
use Rattle.std.proofs.lemmas.Option.{same_Some, none-some}
use Rattle.kilim_program.specs.declared.names.MethodId.{MethodId}
use Rattle.kilim_program.specs.Program.{Program}
use Rattle.kilim_program.specs.Members.{execute_of}
use Rattle.kilim_run_machine.specs.Natives.{native_of}
use Rattle.kilim_fiber_steps.specs.records.natives.Natives.{meaning}
use Rattle.kilim_fiber_steps.specs.records.natives.Tables.{AreExecutes, AreNatives}
use Rattle.kilim_fiber_steps.specs.declared.records.natives.natives.Native.{Native}

pub grown : {A : Type 0} (P : ℕ → A → Type 0) (table : List A) (one : A) → ((at : ℕ) (x : A) → slice_get table at ≡ Some x → P at x) → P (length table) one → (at : ℕ) (x : A) → slice_get (table ++ one ∷ []) at ≡ Some x → P at x
grown P [] one all here zero x e = subst (λ z. P 0 z) (same_Some _ _ e) here
grown P [] one all here (suc n) x e = absurd (none-some x e)
grown P (y ∷ ys) one all here zero x e = all zero x e
grown P (y ∷ ys) one all here (suc n) x e = grown (λ at. P (suc at)) ys one (λ at z d. all (suc at) z d) here n x e

-- the same of what stands in the entries that have something
pub told : {N : Type 0} (Q : ℕ → N → Type 0) (table : List (Option N)) (one : Option N) → ((at : ℕ) (n : N) → slice_get table at ≡ Some (Some n) → Q at n) → ((n : N) → one ≡ Some n → Q (length table) n) → (at : ℕ) (n : N) → slice_get (table ++ one ∷ []) at ≡ Some (Some n) → Q at n
told {N} Q table one all here at n e = grown (λ at x. (n : N) → x ≡ Some n → Q at n) table one (λ at x d n f. all at n (d ∙ ap Some f)) here at (Some n) e n refl

pub native_told : (W : Program) (table : List (Option Native)) (one : Option Native) (at : ℕ) → length table ≡ at → AreNatives W table → IfSome one (λ native. native_of W (record { 0 = at }) ≡ Some (meaning native)) → AreNatives W (table ++ one ∷ [])
native_told W table one at long tell has =
    told (λ at native. native_of W (record { 0 = at }) ≡ Some (meaning native)) table one tell
    (λ native e. subst (λ z. native_of W (record { 0 = z }) ≡ Some (meaning native)) (sym long) (subst (λ o. IfSome o (λ native. native_of W (record { 0 = at }) ≡ Some (meaning native))) e has))

pub execute_told : (W : Program) (table : List (Option MethodId)) (one : Option MethodId) (at : ℕ) → length table ≡ at → AreExecutes W table → one ≡ execute_of W (record { 0 = at }) → AreExecutes W (table ++ one ∷ [])
execute_told W table one at long tell has =
    told (λ at method. execute_of W (record { 0 = at }) ≡ Some method) table one tell
    (λ method e. subst (λ z. execute_of W (record { 0 = z }) ≡ Some method) (sym long) (sym has ∙ e))

pub one_longer : {A : Type 0} (table after : List A) (one : A) (at : ℕ) → after ≡ table ++ one ∷ [] → length table ≡ at → length after ≡ at + 1
one_longer table after one at e long = ap length e ∙ omega (arith, length-append table (one ∷ []), long)
