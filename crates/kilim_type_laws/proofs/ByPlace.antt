-- The frames of a well-typed method, by place.
use Rattle.std.proofs.Common.{◌≡◌, ℕ, Bool, cond, refl, ap, sym, ◌∙◌, subst, arith, List, [], ◌∷◌, Option, Some, None}
use Rattle.std.specs.Prelude.{unwrap_or}
use Rattle.std.proofs.lemmas.Bool.{eq-eqb, ne_eqb}
use Rattle.kilim_program.specs.declared.class.Method.{Method}
use Rattle.kilim_program.specs.declared.instr.Instr.{Instr}
use Rattle.kilim_program.specs.Lengths.{ends_path}
use Rattle.kilim_program.specs.Program.{Program}
use Rattle.kilim_program.specs.lookups.Places.{Above, Rising}
use Rattle.kilim_program.proofs.lookups.Rising.{code_rises}
use Rattle.kilim_type_spec.specs.Step.{Types, type_step}
use Rattle.kilim_type_spec.specs.Typed.{AreHandled, Handles, HandlesBy, Here, Typed, TypedBy, WellTyped, WellTypedBy, arriving, declared, entry, flows_on, frame_among, frames_from, frames_of, goes_on, left_by, no_types, typing_of}
use Rattle.kilim_type_laws.specs.Laws.{TypedByPlace, typing_in}

-- ---- frames by place are those of a list, one for each instruction

Agrees : (ℕ → Types) → List (ℕ × Instr) → List Types → Type 0
Agrees typing [] fs = Unit {0}
Agrees typing (e ∷ es) [] = ⊥
Agrees typing (e ∷ es) (f ∷ fs) = (typing e.0 ≡ f) × Agrees typing es fs

-- what stands before them changes nothing at later places
agrees_behind : (e : ℕ × Instr) (f : Types) (es rest : List (ℕ × Instr)) (fs more : List Types) → Above e.0 rest → Agrees (frame_among es fs) rest more → Agrees (frame_among (e ∷ es) (f ∷ fs)) rest more
unfolding Agrees
agrees_behind e f es [] fs more above agrees = tt
agrees_behind e f es (x ∷ rest) fs [] above agrees = agrees
agrees_behind e f es (x ∷ rest) fs (g ∷ more) above agrees = (
  ap (λ (b : Bool). cond b f (frame_among es fs x.0)) (ne_eqb e.0 x.0 (λ same. omega (arith, same, above.0))) ∙ agrees.0,
  agrees_behind e f es rest fs more above.1 agrees.1,
)

abbrev SameLength : List (ℕ × Instr) → List Types → Type 0
SameLength [] fs = Unit {0}
SameLength (e ∷ es) [] = ⊥
SameLength (e ∷ es) (f ∷ fs) = SameLength es fs

agrees : (es : List (ℕ × Instr)) (fs : List Types) → Rising es → SameLength es fs → Agrees (frame_among es fs) es fs
unfolding Agrees
agrees [] fs rising same = tt
agrees (e ∷ es) [] rising same = same
agrees (e ∷ es) (f ∷ fs) rising same = (
  ap (λ (b : Bool). cond b f (frame_among es fs e.0)) (eq-eqb e.0 e.0 refl),
  agrees_behind e f es es fs fs rising.0 (agrees es fs rising.1 same),
)

one_each : (p : Program) (m : Method) (flow : Option Types) (es : List (ℕ × Instr)) → SameLength es (frames_from p m flow es)
one_each p m flow [] = tt
one_each p m flow (e ∷ es) = one_each p m (left_by p m e (arriving flow (declared m e.0))) es

-- ---- the walk

arrives : (p : Program) (flow d : Option Types) (f : Types) → Here p flow d f → arriving flow d ≡ Some f
arrives p None (Some d) f h = ap (λ (x : Types). Option.Some x) (sym h)
arrives p (Some g) (Some d) f h = ap (λ (x : Types). Option.Some x) (sym h.0)
arrives p (Some g) None f h = ap (λ (x : Types). Option.Some x) (sym h)
arrives p None None f h = absurd h

module _ (p : Program) (m : Method) (typing : ℕ → Types) where
  by_place : (flow : Option Types) (es : List (ℕ × Instr)) → Agrees typing es (frames_from p m flow es) → Typed p m flow es → TypedBy p m typing flow es
  unfolding Agrees
  by_place flow [] agrees typed = typed
  by_place flow (e ∷ es) agrees typed =
      let f : Types = typed.0 in
      let arrived : arriving flow (declared m e.0) ≡ Some f = arrives p flow (declared m e.0) f typed.1 in
      let is : typing e.0 ≡ f = agrees.0 ∙ ap (λ (o : Option Types). unwrap_or o no_types) arrived in
      let left : left_by p m e (arriving flow (declared m e.0)) ≡ goes_on (ends_path e.1) typed.2 = ap (left_by p m e) arrived ∙ ap (flows_on (ends_path e.1)) typed.3 in (
        subst (λ (z : Types). Here p flow (declared m e.0) z) (sym is) typed.1,
        typed.2,
        ap (type_step p m e.0 e.1) is ∙ typed.3,
        typed.4,
        by_place (goes_on (ends_path e.1) typed.2) es (subst (λ (o : Option Types). Agrees typing es (frames_from p m o es)) left agrees.1) typed.5,
      )

  handled_by : (es : List (ℕ × Instr)) (fs : List Types) → Agrees typing es fs → Handles p m es fs → HandlesBy p m typing es
  unfolding Agrees
  handled_by [] fs agrees handled = tt
  handled_by (e ∷ es) [] agrees handled = absurd agrees
  handled_by (e ∷ es) (f ∷ fs) agrees handled = (subst (λ (z : Types). AreHandled p m e.0 z m.handlers) (sym agrees.0) handled.0, handled_by es fs agrees.1 handled.1)

of_method : (p : Program) (m : Method) → Rising m.code → WellTyped p m → WellTypedBy p m (typing_of p m)
unfolding typing_of
of_method p m rising well = record {
  arguments = well.arguments;
  frames = well.frames;
  walk = by_place p m (frame_among m.code (frames_of p m)) (Some (entry m)) m.code (agrees m.code (frames_of p m) rising (one_each p m (Some (entry m)) m.code)) well.walk;
  handled = handled_by p m (frame_among m.code (frames_of p m)) m.code (frames_of p m) (agrees m.code (frames_of p m) rising (one_each p m (Some (entry m)) m.code)) well.handled;
}

pub typed_by_place : TypedByPlace
typed_by_place p keeps well id m is code =
    subst (λ (o : Option Method). WellTypedBy p m (typing_in p o)) (sym is) (of_method p m (code_rises p id m keeps is) (well.methods id m is code))
