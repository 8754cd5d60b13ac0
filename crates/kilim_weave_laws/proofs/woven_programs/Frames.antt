-- The frames of a well-typed method, by place, are those of its walk.
use Rattle.std.proofs.Common.{◌≡◌, ℕ, ◌≤◌, Bool, cond, List, [], ◌∷◌, Option, Some, None, refl, sym, ap, subst, ◌∙◌, arith, ne_eqb, eq-eqb}
use Rattle.std.specs.Prelude.{unwrap_or}
use Rattle.kilim_program.specs.declared.class.Method.{Method}
use Rattle.kilim_program.specs.declared.instr.Instr.{Instr}
use Rattle.kilim_program.specs.Lengths.{first_place, ends_path}
use Rattle.kilim_program.specs.Program.{Program}
use Rattle.kilim_type_spec.specs.Step.{Types, type_step}
use Rattle.kilim_type_spec.specs.Typed.{AreHandled, Handles, HandlesBy, frames_of, declared, Here, goes_on, Typed, TypedBy, WellTyped, WellTypedBy, entry, arriving, no_types, flows_on, left_by, frames_from, frame_among, typing_of}
use Rattle.kilim_weave_laws.proofs.woven_types.OldFacts.{GrowsTo}

module _ (p : Program) (m : Method) where
  -- what is listed is what is typed
  abbrev pub Agree : (ℕ → Types) → List (ℕ × Instr) → List Types → Type 0
  Agree typing [] fs = Unit {0}
  Agree typing (e ∷ es) [] = ⊥
  Agree typing (e ∷ es) (f ∷ fs) = (typing e.0 ≡ f) × Agree typing es fs

  pub same_listed : (es : List (ℕ × Instr)) → GrowsTo m.code_length es → (flow : Option Types) (typing : ℕ → Types) → ((q : ℕ) → first_place es m.code_length ≤ q → typing q ≡ frame_among es (frames_from p m flow es) q) → Agree typing es (frames_from p m flow es)
  same_listed [] g flow typing same = tt
  same_listed (e ∷ es) g flow typing same =
      let f = unwrap_or (arriving flow (declared m e.0)) no_types in
      let rest = frames_from p m (left_by p m e (arriving flow (declared m e.0))) es in
      let up = g.0 in (
        same e.0 (omega arith) ∙ ap (λ (b : Bool). cond b f (frame_among es rest e.0)) (eq-eqb e.0 e.0 refl),
        same_listed es g.1 (left_by p m e (arriving flow (declared m e.0))) typing
            (λ q later. same q (omega (arith, up, later)) ∙ ap (λ (b : Bool). cond b f (frame_among es rest q)) (ne_eqb e.0 q (λ is. omega (arith, up, later, is)))),
      )

  pub arrives : (flow d : Option Types) (f : Types) → Here p flow d f → arriving flow d ≡ Some f
  arrives None None f h = absurd h
  arrives None (Some d) f h = ap (λ (z : Types). Some z) (sym h)
  arrives (Some g) None f h = ap (λ (z : Types). Some z) (sym h)
  arrives (Some g) (Some d) f h = ap (λ (z : Types). Some z) (sym h.0)

  by_listed : (es : List (ℕ × Instr)) (flow : Option Types) (typing : ℕ → Types) → Typed p m flow es → Agree typing es (frames_from p m flow es) → TypedBy p m typing flow es
  by_listed [] flow typing t a = t
  by_listed (e ∷ es) flow typing t a =
      let f = t.0 in
      let arrived = arrives flow (declared m e.0) f t.1 in
      let here : typing e.0 ≡ f = a.0 ∙ ap (λ (o : Option Types). unwrap_or o no_types) arrived in
      let left : left_by p m e (arriving flow (declared m e.0)) ≡ goes_on (ends_path e.1) t.2 =
      ap (left_by p m e) arrived ∙ ap (flows_on (ends_path e.1)) t.3 in (
        subst (λ (z : Types). Here p flow (declared m e.0) z) (sym here) t.1,
        t.2,
        ap (type_step p m e.0 e.1) here ∙ t.3,
        t.4,
        by_listed es (goes_on (ends_path e.1) t.2) typing t.5 (subst (λ (o : Option Types). Agree typing es (frames_from p m o es)) left a.1),
      )

  handled_listed : (es : List (ℕ × Instr)) (fs : List Types) (typing : ℕ → Types) → Handles p m es fs → Agree typing es fs → HandlesBy p m typing es
  handled_listed [] fs typing h a = tt
  handled_listed (e ∷ es) [] typing h a = absurd a
  handled_listed (e ∷ es) (f ∷ fs) typing h a = (subst (λ (z : Types). AreHandled p m e.0 z m.handlers) (sym a.0) h.0, handled_listed es fs typing h.1 a.1)

  pub by_place : GrowsTo m.code_length m.code → WellTyped p m → WellTypedBy p m (typing_of p m)
  unfolding typing_of
  by_place g t = record {
    arguments = t.arguments;
    frames = t.frames;
    walk = by_listed m.code (Some (entry m)) (typing_of p m) t.walk (same_listed m.code g (Some (entry m)) (typing_of p m) (λ q later. refl));
    handled = handled_listed m.code (frames_of p m) (typing_of p m) t.handled (same_listed m.code g (Some (entry m)) (typing_of p m) (λ q later. refl));
  }
