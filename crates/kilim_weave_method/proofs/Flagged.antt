-- Flags for declared frames.
use Rattle.std.proofs.Common.{◌≡◌, ◌≢◌, ◌⊎◌, inl, inr, ◌≤◌, subst, eq-eqb, get_or-set_other, ℕ, zero, suc, ◌<◌, Bool, true, false, List, [], ◌∷◌, ◌++◌, length, get_or, set, drop, slice_get, Some, refl, ap, sym, ◌∙◌, arith, ◌+◌}
use Rattle.std.specs.Prelude.{◌==◌, if◌then◌else◌, is_some}
use Rattle.std.proofs.lemmas.Bool.{ne_eqb}
use Rattle.std.proofs.lemmas.List.{get_or-set_same}
use Rattle.kilim_lemmas.proofs.Lists.{drop_next}
use Rattle.kilim_program.specs.declared.verified.Frame.{Frame}
use Rattle.kilim_type_spec.specs.Step.{Types}
use Rattle.kilim_type_spec.specs.Typed.{frame_in, frame_types}
use Rattle.kilim_weave_method.specs.Flags.{AreFlags}

pub none_raised : (flags : List Bool) (k : ℕ) → get_or (flags ++ false ∷ []) k false ≡ get_or flags k false
none_raised [] zero = refl
none_raised [] (suc k) = refl
none_raised (b ∷ flags) zero = refl
none_raised (b ∷ flags) (suc k) = none_raised flags k

same_or : (a b : ℕ) → (a ≡ b) ⊎ (a ≢ b)
same_or zero zero = inl refl
same_or zero (suc b) = inr (λ e. omega (arith, e))
same_or (suc a) zero = inr (λ e. omega (arith, e))
same_or (suc a) (suc b) = elim (same_or a b) [ inl e ↦ inl (ap suc e) | inr n ↦ inr (λ e. n (let f : a ≡ b = omega (arith, e) in f)) ]

pub raised : (flags : List Bool) (at : ℕ) → at < length flags → (k : ℕ) → get_or (set flags at true) k false ≡ (if at == k then true else get_or flags k false)
raised flags at lt k = elim (same_or at k) [
  | inl e ↦
      ap (λ (n : ℕ). get_or (set flags at true) n false) (sym e)
      ∙ (get_or-set_same flags at true false lt ∙ sym (ap (λ (b : Bool). if b then true else get_or flags k false) (eq-eqb at k e)))
  | inr n ↦
      get_or-set_other flags at k true false (λ e. n (sym e)) ∙ sym (ap (λ (b : Bool). if b then true else get_or flags k false) (ne_eqb at k n))
]

past : (frames : List (ℕ × Frame)) (n : ℕ) → length frames ≤ n → drop n frames ≡ []
past [] zero le = refl
past [] (suc n) le = refl
past (f ∷ frames) zero le = absurd (omega arith)
past (f ∷ frames) (suc n) le = past frames n (omega arith)

pub no_flags : (frames : List (ℕ × Frame)) (flags : List Bool) → flags ≡ [] → AreFlags (drop (length frames) frames) flags
no_flags frames flags none =
    subst (λ (fs : List (ℕ × Frame)). AreFlags fs flags) (sym (past frames (length frames) (omega arith))) (record { each = λ place. ap (λ (bs : List Bool). get_or bs place false) none })

some_if : (b : Bool) (f : Types) (o : Bool) (rest : List (ℕ × Frame)) (k : ℕ) → o ≡ is_some (frame_in rest k) → (if b then true else o) ≡ is_some (if b then Some f else frame_in rest k)
some_if true f o rest k e = refl
some_if false f o rest k e = e

pub flag_more : (frames : List (ℕ × Frame)) (at : ℕ) (e : ℕ × Frame) (old new : List Bool) → slice_get frames at ≡ Some e → ((k : ℕ) → get_or new k false ≡ (if e.0 == k then true else get_or old k false))
    → AreFlags (drop (at + 1) frames) old → AreFlags (drop at frames) new
flag_more frames at e old new there is flags = record {
  each = λ place.
      is place
      ∙ (some_if (e.0 == place) (frame_types e.1) (get_or old place false) (drop (at + 1) frames) place (flags.each place)
      ∙ sym (ap (λ (fs : List (ℕ × Frame)). is_some (frame_in fs place)) (drop_next frames at e there)));
}
