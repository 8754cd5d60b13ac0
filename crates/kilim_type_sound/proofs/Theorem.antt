-- Verified code never gets stuck.
use Rattle.std.proofs.Common.{◌≡◌, ℕ, Bool, true, false, cond, eqb, List, [], ◌∷◌, Option, Some, None, refl, sym, ap, subst, ◌∙◌}
use Rattle.std.specs.Prelude.{is_some}
use Rattle.kilim_program.specs.declared.class.Method.{Method}
use Rattle.kilim_program.specs.declared.instr.Instr.{Instr}
use Rattle.kilim_run_machine.specs.Does.{does}
use Rattle.kilim_program.specs.Lengths.{fetched, first_place}
use Rattle.kilim_run_machine.specs.Moves.{moves, move_by, effect_in, effect_found}
use Rattle.kilim_type_spec.specs.Step.{made_at, made_by}
use Rattle.kilim_program.specs.declared.names.ClassId.{ClassId}
use Rattle.kilim_program.specs.declared.value.Value.TheVariants.{Ref}
use Rattle.kilim_program.specs.BuiltIn.{class_type}
use Rattle.kilim_program.specs.Program.{Program}
use Rattle.kilim_run_state.specs.declared.cause.EndCause.{EndCause}
use Rattle.kilim_run_state.specs.Machine.{Activation, Objects}
use Rattle.kilim_run_machine.specs.Moves as move
use Rattle.kilim_run_machine.specs.Raising.{is_throwable}
use Rattle.kilim_type_spec.specs.Typed.{edges}
use Rattle.kilim_type_sound.specs.Caught.{ThrownIsThere}
use Rattle.kilim_type_sound.specs.Facts.{Facts}
use Rattle.kilim_type_sound.specs.Fits.{AreThere, BelowFit, Classes, Fits, FrameFits, IsThere, Nothing, Typing, Verified, Wanted, result_of}
use Rattle.kilim_type_sound.specs.Sound.{EffectFits, MoveFits}
use Rattle.kilim_type_sound.specs.Law.{MovesFit}
use Rattle.kilim_type_sound.proofs.Walk.{Stands, stands_at}
use Rattle.kilim_type_sound.proofs.Grounds.{facts_hold}
use Rattle.kilim_type_sound.proofs.Steps.{move_fits, thrown_there}
use Rattle.kilim_type_sound.proofs.Table.{table_fits}
use Rattle.kilim_type_sound.proofs.Narrowed.{narrows}

made_there : (es : List (ℕ × Instr)) (end at : ℕ) (i : Instr) (next : ℕ) → fetched es end at ≡ Some (i, next) → made_at es at ≡ made_by i
made_there [] end at i next e = absurd (cc)
made_there (x ∷ es) end at i next e = by (eqb x.0 at) e (made_there es end at i next)
  where
    by : (z : Bool) → cond z (Some (x.1, first_place es end)) (fetched es end at) ≡ Some (i, next) → (fetched es end at ≡ Some (i, next) → made_at es at ≡ made_by i) → cond z (made_by x.1) (made_at es at) ≡ made_by i
    by true e again = let pair : (x.1, first_place es end) ≡ (i, next) = cc in ap (λ (y : Instr × ℕ). made_by y.0) pair
    by false e again = again e

module _ (p : Program) (typing : Typing) (live : Wanted) (of : Classes) (facts : Facts p) (verified : Verified p typing live) (top : Activation) (below : List Activation) (h : Objects) (fits : Fits p typing live of (top ∷ below) h) (there : AreThere h top.stack) where
  frame : FrameFits p typing live of Nothing top
  frame = fits.frames.0

  callers : BelowFit p typing live of frame.method.result below
  callers = subst (λ (o : Option Method). BelowFit p typing live of (result_of o) below) frame.there fits.frames.1

  -- what is known of the instruction
  record Here (i : Instr) (next : ℕ) : Type 0 where
    is : fetched frame.method.code frame.method.code_length top.place ≡ Some (i, next)
    at : Stands p frame.method (typing top.method) top.place i next
    effect : EffectFits p frame.method of (live top.method) next top.locals h (edges i next) at.after (does p frame.method i next top.locals top.stack h)

  here : (i : Instr) (next : ℕ) → fetched frame.method.code frame.method.code_length top.place ≡ Some (i, next) → Here i next
  here i next e =
      let well = verified.typed top.method frame.method frame.there frame.code in
      let at : Stands p frame.method (typing top.method) top.place i next = stands_at p frame.method (typing top.method) well top.place i next e in
      record {
        is = e;
        at = at;
        effect = table_fits p facts narrows frame.method of h fits.heap (live top.method) top.place next (typing top.method top.place) at.after top.locals top.stack i
            (record { wants = verified.wants top.method frame.method frame.there top.place (i, next) e; locals = frame.locals; stack = frame.stack; there = there })
            (made_there frame.method.code frame.method.code_length top.place i next e)
            (verified.proper top.method frame.method frame.there top.place (i, next) e)
            at.step;
      }

  moved : (o : Option (Instr × ℕ)) → fetched frame.method.code frame.method.code_length top.place ≡ o → is_some o ≡ true → MoveFits p typing live of (move_by p (effect_found p frame.method top h o) top below)
  moved None e s = absurd (cc)
  moved (Some found) e s =
      let k = here found.0 found.1 e in
      move_fits p typing live verified facts.order of top below frame.method frame.there frame.code found.0 found.1 k.at k.is frame.locals callers h (does p frame.method found.0 found.1 top.locals top.stack h) k.effect

  pub all_move : MoveFits p typing live of (moves p top below h)
  unfolding moves
  all_move =
      subst (λ (o : Option Method). MoveFits p typing live of (move_by p (effect_in p top h o) top below)) (sym frame.there)
      (moved (fetched frame.method.code frame.method.code_length top.place) refl frame.stands)

  -- ---- what is thrown

  module _ (n : ℕ) (c : ClassId) (why : EndCause) where
    abbrev IsThrownHere : Type 0
    IsThrownHere = (of n ≡ Some (class_type c.0)) × (is_throwable p c ≡ true) × IsThere h (Ref n)

    threw : (o : Option (Instr × ℕ)) → fetched frame.method.code frame.method.code_length top.place ≡ o → is_some o ≡ true → move_by p (effect_found p frame.method top h o) top below ≡ move.Throws n c why → IsThrownHere
    threw None e s w = absurd (cc)
    threw (Some found) e s w =
        let k = here found.0 found.1 e in
        thrown_there p typing live verified facts.order of top below frame.method frame.there frame.code found.0 found.1 k.at k.is frame.locals callers h (does p frame.method found.0 found.1 top.locals top.stack h) k.effect n c why w

    pub all_threw : moves p top below h ≡ move.Throws n c why → IsThrownHere
    unfolding moves
    all_threw w =
        threw (fetched frame.method.code frame.method.code_length top.place) refl frame.stands
        (ap (λ (o : Option Method). move_by p (effect_in p top h o) top below) (sym frame.there) ∙ w)

pub moves_fit : MovesFit
moves_fit p typing live of facts verified top below h fits there = all_move p typing live of facts verified top below h fits there

pub thrown_is_there : ThrownIsThere
thrown_is_there p typing live of keeps verified top below h fits there n c why e = all_threw p typing live of (facts_hold p keeps) verified top below h fits there n c why e
