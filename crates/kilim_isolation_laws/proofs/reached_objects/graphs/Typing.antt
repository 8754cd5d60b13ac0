-- What flows along the code of a well-typed method.
use Rattle.std.proofs.Common.{◌≡◌, ℕ, ◌==◌, Bool, true, false, true≢false, ◌||◌, cond, List, [], ◌∷◌, Option, Some, None, Ok, refl, sym, ap, subst, ◌∙◌, inl, inr}
use Rattle.std.specs.List.{list_all}
use Rattle.kilim_program.specs.declared.class.Method.{Method}
use Rattle.kilim_program.specs.declared.instr.Instr.{Instr}
use Rattle.kilim_program.specs.declared.verified.Frame.{Frame}
use Rattle.kilim_program.specs.Program.{Program}
use Rattle.kilim_program.specs.Lengths.{fetched, first_place, jump_targets, ends_path, is_code_place}
use Rattle.kilim_type_spec.specs.Step.{Types, type_step}
use Rattle.kilim_type_spec.specs.Typed.{declared, frame_in, frame_types, frame_fits, entry, Among, Jumps, Here, goes_on, TypedBy, WellTypedBy}
use Rattle.kilim_isolation_laws.proofs.forest.Store.{both_ways, is_same}
use Rattle.kilim_isolation_laws.specs.reached_objects.graphs.Threads.{Becomes, TypesFlow}
use Rattle.kilim_isolation_laws.proofs.graph_rows.Settle.{and_left, and_right}

some_none : (g : Types) → Some g ≡ None → ⊥
some_none g e = cc

becomes_of : (p : Program) (g : Types) (d : Option Types) (f : Types) → Here p (Some g) d f → Becomes p g d f
becomes_of p g None f w = w
becomes_of p g (Some d) f w = w

module _ (p : Program) (m : Method) (typing : ℕ → Types) where
  behind : (end : ℕ) (g : Types) (es : List (ℕ × Instr)) → TypedBy p m typing (Some g) es → Becomes p g (declared m (first_place es end)) (typing (first_place es end))
  behind end g [] w = absurd (some_none g w)
  behind end g (e ∷ es) w = becomes_of p g (declared m e.0) (typing e.0) w.0

  instr_or : Option (Instr × ℕ) → Instr → Instr
  instr_or None d = d
  instr_or (Some x) d = x.0

  place_or : Option (Instr × ℕ) → ℕ → ℕ
  place_or None d = d
  place_or (Some x) d = x.1

  -- at the place of an instruction
  abbrev At : ℕ → Instr → ℕ → Type 0
  At pl i to = (g : Types) × (type_step p m pl i (typing pl) ≡ Ok g) × Jumps p m g (jump_targets i) × (ends_path i ≡ false → Becomes p g (declared m to) (typing to))

  walk_at : (code : List (ℕ × Instr)) (end : ℕ) (flow : Option Types) → TypedBy p m typing flow code → (pl : ℕ) (i : Instr) (to : ℕ) → fetched code end pl ≡ Some (i, to) → At pl i to
  unfolding instr_or place_or
  walk_at [] end flow w pl i to e = absurd (cc)
  walk_at (x ∷ code) end flow w pl i to e = elim (both_ways (x.0 == pl)) [
    | inl it ↦
        let found : ◌≡◌ {A = Option (Instr × ℕ)} (Some (x.1, first_place code end)) (Some (i, to)) = ap (λ b. cond b (Some (x.1, first_place code end)) (fetched code end pl)) (sym it) ∙ e in
        subst (λ z. At z i to) (is_same x.0 pl it) (subst (λ z. At x.0 z to) (ap (λ z. instr_or z i) found) (subst (λ z. At x.0 x.1 z) (ap (λ z. place_or z to) found)
        (w.1, w.2, w.3, λ on. behind end w.1 code (subst (λ b. TypedBy p m typing (goes_on b w.1) code) on w.4))))
    | inr other ↦ walk_at code end (goes_on (ends_path x.1) w.1) w.4 pl i to (ap (λ b. cond b (Some (x.1, first_place code end)) (fetched code end pl)) (sym other) ∙ e)
  ]

  declared_here : (flow d : Option Types) (t f : Types) → d ≡ Some t → Here p flow d f → f ≡ t
  declared_here flow None t f e w = absurd (cc)
  declared_here None (Some d) t f e w = w ∙ the d e
    where
      the : (z : Types) → Some z ≡ Some t → z ≡ t
      the z q = cc
  declared_here (Some g) (Some d) t f e w = w.0 ∙ the d e
    where
      the : (z : Types) → Some z ≡ Some t → z ≡ t
      the z q = cc

  declared_is : (code : List (ℕ × Instr)) (flow : Option Types) → TypedBy p m typing flow code → (q : ℕ) → is_code_place code q ≡ true → (t : Types) → declared m q ≡ Some t → typing q ≡ t
  declared_is [] flow w q e t d = absurd (true≢false (sym e))
  declared_is (x ∷ code) flow w q e t d = elim (both_ways (x.0 == q)) [
    | inl it ↦ subst (λ z. typing z ≡ t) (is_same x.0 q it) (declared_here flow (declared m x.0) t (typing x.0) (ap (declared m) (is_same x.0 q it) ∙ d) w.0)
    | inr other ↦ declared_is code (goes_on (ends_path x.1) w.1) w.4 q (ap (λ b. b || is_code_place code q) (sym other) ∙ e) t d
  ]

  -- a declared frame stands at an instruction
  stands : (frames : List (ℕ × Frame)) → list_all (frame_fits m) frames ≡ true → (q : ℕ) (t : Types) → frame_in frames q ≡ Some t → is_code_place m.code q ≡ true
  stands [] all q t e = absurd (cc)
  stands (x ∷ frames) all q t e = elim (both_ways (x.0 == q)) [
    | inl it ↦ ap (is_code_place m.code) (sym (is_same x.0 q it)) ∙ and_left (is_code_place m.code x.0) _ (and_left (frame_fits m x) (list_all (frame_fits m) frames) all)
    | inr other ↦ stands frames (and_right (frame_fits m x) (list_all (frame_fits m) frames) all) q t (ap (λ b. cond b (Some (frame_types x.1)) (frame_in frames q)) (sym other) ∙ e)
  ]

  jump_becomes : WellTypedBy p m typing → (g : Types) (ts : List ℕ) → Jumps p m g ts → (q : ℕ) → Among ts q → Becomes p g (declared m q) (typing q)
  jump_becomes w g [] js q a = absurd a
  jump_becomes w g (t ∷ ts) js q (inr a) = jump_becomes w g ts js.1 q a
  jump_becomes w g (t ∷ ts) js q (inl e) = subst (λ z. Becomes p g (declared m z) (typing z)) e
      (subst (λ z. Becomes p g z (typing t)) (sym js.0.1) (declared_is m.code (Some (entry m)) w.walk t (stands m.frames w.frames t js.0.0 js.0.1) js.0.0 js.0.1, js.0.2))

  edge_becomes : WellTypedBy p m typing → (i : Instr) (to : ℕ) (g : Types) → Jumps p m g (jump_targets i) → (b : Bool) → ends_path i ≡ b → (ends_path i ≡ false → Becomes p g (declared m to) (typing to)) → (q : ℕ) →
      Among (cond b (jump_targets i) (to ∷ jump_targets i)) q → Becomes p g (declared m q) (typing q)
  edge_becomes w i to g js true e next q a = jump_becomes w g (jump_targets i) js q a
  edge_becomes w i to g js false e next q (inl is) = subst (λ z. Becomes p g (declared m z) (typing z)) is (next e)
  edge_becomes w i to g js false e next q (inr a) = jump_becomes w g (jump_targets i) js q a

  begins : (code : List (ℕ × Instr)) → TypedBy p m typing (Some (entry m)) code → first_place code 1 ≡ 0 → Becomes p (entry m) (declared m 0) (typing 0)
  begins code w e = subst (λ z. Becomes p (entry m) (declared m z) (typing z)) e (behind 1 (entry m) code w)

  -- the frames of a well-typed method flow from each place to the next
  pub types_flow : WellTypedBy p m typing → first_place m.code 1 ≡ 0 → TypesFlow p m typing
  types_flow w starts = record {
    begins = begins m.code w.walk starts;
    goes = λ pl to i e.
        let a = walk_at m.code m.code_length (Some (entry m)) w.walk pl i to e in
        (a.0, a.1, λ q among. edge_becomes w i to a.0 a.2 (ends_path i) refl a.3 q among);
  }
