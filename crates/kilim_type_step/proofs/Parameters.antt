-- The types with which a method begins.
use Rattle.std.proofs.Common.{◌≡◌, ℕ, ◌+◌, ◌<◌, ◌||◌, refl, ap, sym, ◌∙◌, arith, List, [], ◌∷◌, ◌++◌, length, drop, get_or}
use Rattle.std.proofs.lemmas.List.{drop_more, drop_all, append_assoc, append-nil}
use Rattle.std.specs.List.{list_any}
use Rattle.kilim_program.specs.declared.ty.Ty.{Ty}
use Rattle.kilim_program.specs.declared.verified.VType.{VType}
use Rattle.kilim_program.specs.declared.verified.VType.TheVariants.{Long, UninitThis}
use Rattle.kilim_type_spec.specs.Step.{is_same, is_unset_this, vtype}
use Rattle.kilim_type_spec.specs.Typed.{param_slots, slots_of_type}

slots_before : (t : VType) (rest : List VType) → slots_of_type t rest ≡ slots_of_type t [] ++ rest
slots_before Long rest = refl
slots_before t rest = refl

pub param_on : (tys : List Ty) (slots : List VType) (k : ℕ) (d : Ty) → k < length tys → (slots ++ slots_of_type (vtype (get_or tys k d)) []) ++ param_slots (drop (k + 1) tys) ≡ slots ++ param_slots (drop k tys)
param_on tys slots k d h =
    append_assoc slots (slots_of_type (vtype (get_or tys k d)) []) (param_slots (drop (k + 1) tys))
    ∙ ap (λ xs. slots ++ xs) (sym (ap param_slots (drop_more tys k d h) ∙ slots_before (vtype (get_or tys k d)) (param_slots (drop (k + 1) tys))))

pub params_end : (tys : List Ty) (slots : List VType) (k : ℕ) → k ≡ length tys → slots ++ param_slots (drop k tys) ≡ slots
params_end tys slots k e = ap (λ xs. slots ++ param_slots xs) (drop_all k tys (omega arith)) ∙ append-nil slots

same_unset : (t : VType) → is_same UninitThis t ≡ is_unset_this t
same_unset UninitThis = refl
same_unset t = refl

pub unset_among : (ts : List VType) → list_any (is_same UninitThis) ts ≡ list_any is_unset_this ts
unset_among [] = refl
unset_among (t ∷ ts) = ap (λ b. b || list_any (is_same UninitThis) ts) (same_unset t) ∙ ap (λ b. is_unset_this t || b) (unset_among ts)
