-- Types to which their own values alone may flow.
use Rattle.std.proofs.Common.{◌≡◌, ◌⊎◌, inl, inr, ℕ, Bool, true, false, refl, ap, sym, subst, eq-eqb}
use Rattle.std.specs.Prelude.{◌↔◌, IsTrue}
use Rattle.std.proofs.lemmas.Bool.{ne_eqb}
use Rattle.kilim_program.specs.declared.verified.VType.{VType}
use Rattle.kilim_program.specs.declared.verified.VType.TheVariants.{Top, Int, Long, Null, UninitThis, Uninit, Object}
use Rattle.kilim_program.specs.Program.{Program}
use Rattle.kilim_type_spec.specs.Step.{assignable}

abbrev pub takes_own : VType → Bool
takes_own Top = false
takes_own (Object ty) = false
takes_own _ = true

own_flows : (p : Program) (t : VType) → takes_own t ≡ true → true ≡ assignable p t t
own_flows p Top h = refl
own_flows p (Object ty) h = absurd (let z : false ≡ true = h in cc)
own_flows p Int h = refl
own_flows p Long h = refl
own_flows p Null h = refl
own_flows p UninitThis h = refl
own_flows p (Uninit a) h = sym (eq-eqb a a refl)

others_stay : (p : Program) (from to : VType) → (from ≡ to → ⊥) → takes_own to ≡ true → false ≡ assignable p from to
others_stay p from Top n h = absurd (let z : false ≡ true = h in cc)
others_stay p from (Object ty) n h = absurd (let z : false ≡ true = h in cc)
others_stay p Top Int n h = refl
others_stay p Int Int n h = absurd (n refl)
others_stay p Long Int n h = refl
others_stay p Null Int n h = refl
others_stay p UninitThis Int n h = refl
others_stay p (Uninit b) Int n h = refl
others_stay p (Object b) Int n h = refl
others_stay p Top Long n h = refl
others_stay p Int Long n h = refl
others_stay p Long Long n h = absurd (n refl)
others_stay p Null Long n h = refl
others_stay p UninitThis Long n h = refl
others_stay p (Uninit b) Long n h = refl
others_stay p (Object b) Long n h = refl
others_stay p Top Null n h = refl
others_stay p Int Null n h = refl
others_stay p Long Null n h = refl
others_stay p Null Null n h = absurd (n refl)
others_stay p UninitThis Null n h = refl
others_stay p (Uninit b) Null n h = refl
others_stay p (Object b) Null n h = refl
others_stay p Top UninitThis n h = refl
others_stay p Int UninitThis n h = refl
others_stay p Long UninitThis n h = refl
others_stay p Null UninitThis n h = refl
others_stay p UninitThis UninitThis n h = absurd (n refl)
others_stay p (Uninit b) UninitThis n h = refl
others_stay p (Object b) UninitThis n h = refl
others_stay p Top (Uninit a) n h = refl
others_stay p Int (Uninit a) n h = refl
others_stay p Long (Uninit a) n h = refl
others_stay p Null (Uninit a) n h = refl
others_stay p UninitThis (Uninit a) n h = refl
others_stay p (Uninit b) (Uninit a) n h = sym (ne_eqb b a (λ e. n (ap Uninit e)))
others_stay p (Object b) (Uninit a) n h = refl

pub flows_as_same : (p : Program) (from to : VType) (b : Bool) → IsTrue b ↔ (from ≡ to) → takes_own to ≡ true → b ≡ assignable p from to
flows_as_same p from to true same h = subst (λ (t : VType). true ≡ assignable p t to) (sym (same.0 refl)) (own_flows p to h)
flows_as_same p from to false same h = others_stay p from to (λ e. let z : false ≡ true = same.1 e in absurd (cc)) h

pub own_kinds : (t : VType) → (t ≡ Int) ⊎ ((t ≡ Long) ⊎ ((t ≡ Null) ⊎ ((t ≡ UninitThis) ⊎ ((a : ℕ) × (t ≡ Uninit a))))) → takes_own t ≡ true
own_kinds t (inl e) = ap takes_own e
own_kinds t (inr (inl e)) = ap takes_own e
own_kinds t (inr (inr (inl e))) = ap takes_own e
own_kinds t (inr (inr (inr (inl e)))) = ap takes_own e
own_kinds t (inr (inr (inr (inr e)))) = ap takes_own e.1
