-- Well-typed code goes to places of its own, and ends.
use Rattle.std.proofs.Common.{◌≡◌, inl, inr, ℕ, Bool, true, false, List, [], ◌∷◌, Option, Some, None, refl, subst}
use Rattle.std.specs.List.{list_all}
use Rattle.std.proofs.lemmas.Bool.{and_parts, and_from}
use Rattle.std.proofs.lemmas.Bool.Decides.{eqb_tells}
use Rattle.kilim_program.specs.declared.class.Method.{Method}
use Rattle.kilim_program.specs.declared.instr.Instr.{Instr}
use Rattle.kilim_program.specs.declared.verified.Frame.{Frame}
use Rattle.kilim_program.specs.Lengths.{code_ends, ends_path, is_code_place, jump_targets, targets_stand}
use Rattle.kilim_program.specs.Program.{Program}
use Rattle.kilim_type_spec.specs.Step.{Types}
use Rattle.kilim_type_spec.specs.Typed.{Jumps, Typed, WellTyped, entry, frame_fits, frame_in, goes_on}

module _ (p : Program) (m : Method) where
  -- a declared frame stands at an instruction
  frame_place : (fs : List (ℕ × Frame)) (t : ℕ) (d : Types) → list_all (frame_fits m) fs ≡ true → frame_in fs t ≡ Some d → is_code_place m.code t ≡ true
  frame_place [] t d h e = absurd (cc)
  frame_place (f ∷ fs) t d h e =
      let q = and_parts (frame_fits m f) (list_all (frame_fits m) fs) h in
      elim (eqb_tells f.0 t) [
        | inl y ↦ subst (λ (z : ℕ). is_code_place m.code z ≡ true) y.1 (and_parts (is_code_place m.code f.0) _ q.0).0
        | inr y ↦ frame_place fs t d q.1 (let n = y.0 in rw n at e)
      ]

  jumps_there : (g : Types) (ts : List ℕ) → list_all (frame_fits m) m.frames ≡ true → Jumps p m g ts → list_all (is_code_place m.code) ts ≡ true
  jumps_there g [] h j = refl
  jumps_there g (t ∷ ts) h j = and_from (is_code_place m.code t) _ (frame_place m.frames t j.0.0 h j.0.1) (jumps_there g ts h j.1)

  walk_there : (flow : Option Types) (es : List (ℕ × Instr)) → list_all (frame_fits m) m.frames ≡ true → Typed p m flow es → list_all (λ e. list_all (is_code_place m.code) (jump_targets e.1)) es ≡ true
  walk_there flow [] h t = refl
  walk_there flow (e ∷ es) h t = and_from (list_all (is_code_place m.code) (jump_targets e.1)) _ (jumps_there t.2 (jump_targets e.1) h t.4) (walk_there (goes_on (ends_path e.1) t.2) es h t.5)

  ended : (b : Bool) (g : Types) → goes_on b g ≡ None → b ≡ true
  ended true g e = refl
  ended false g e = absurd (cc)

  walk_ends : (flow : Option Types) (es : List (ℕ × Instr)) → Typed p m flow es → code_ends es ≡ true
  unfolding code_ends
  walk_ends flow [] t = refl
  walk_ends flow (e ∷ []) t = ended (ends_path e.1) t.2 t.5
  walk_ends flow (e ∷ f ∷ es) t = walk_ends (goes_on (ends_path e.1) t.2) (f ∷ es) t.5

  pub typed_targets : WellTyped p m → targets_stand m.code ≡ true
  unfolding targets_stand
  typed_targets t = walk_there (Some (entry m)) m.code t.frames t.walk

  pub typed_ends : WellTyped p m → code_ends m.code ≡ true
  typed_ends t = walk_ends (Some (entry m)) m.code t.walk
