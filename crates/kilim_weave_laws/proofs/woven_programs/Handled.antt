-- Exception tables in the woven program: a method that can't pause keeps the rules of handlers, and one that can has no table.
use Rattle.std.proofs.Common.{◌≡◌, ℕ, Bool, true, not, ◌||◌, List, [], ◌∷◌, Option, Some, None, refl, sym, ap, subst, ◌∙◌}
use Rattle.kilim_program.specs.declared.class.Handler.{Handler}
use Rattle.kilim_program.specs.declared.class.Method.{Method}
use Rattle.kilim_program.specs.declared.instr.Instr.{Instr}
use Rattle.kilim_program.specs.declared.names.ClassId.{ClassId}
use Rattle.kilim_program.specs.declared.verified.VType.{VType}
use Rattle.kilim_program.specs.Handlers.{pauses_bare}
use Rattle.kilim_program.specs.Lengths.{ends_path}
use Rattle.kilim_program.specs.Names.{class_at, is_empty}
use Rattle.kilim_program.specs.Program.{Program}
use Rattle.kilim_type_laws.proofs.members.FromKeeps.{all_at}
use Rattle.kilim_type_spec.specs.Step.{Types, assignable, superclass_at}
use Rattle.kilim_type_spec.specs.Typed.{AreHandled, FlowsInto, Handles, IsCaught, Typed, arriving, catch_fits, caught_type, declared, flows_on, frames_from, goes_on, is_throwable, left_by}
use Rattle.kilim_weave_laws.specs.woven_types.Facts.{CallsNone}
use Rattle.kilim_weave_laws.specs.woven_types.Same.{Programs}
use Rattle.kilim_weave_laws.specs.woven_programs.Law.{NonePausesWithTable}
use Rattle.kilim_weave_laws.proofs.woven_types.Unchanged.{flows_same, step_same}
use Rattle.kilim_weave_laws.proofs.woven_programs.Frames.{arrives}

pub none_pauses_with_table : NonePausesWithTable
none_pauses_with_table p keeps id m at pausable =
    ap (λ (z : Bool). not z || is_empty m.handlers) (sym pausable) ∙ all_at pauses_bare p.methods id.0 m keeps.paused at

module _ (P W : Program) (m : Method) (assigns : (a b : VType) → assignable P a b ≡ true → assignable W a b ≡ true) (above : superclass_at (class_at W m.owner) ≡ superclass_at (class_at P m.owner)) (progs : Programs P W m m)
    (throwable : (c : ClassId) → is_throwable P c ≡ true → is_throwable W c ≡ true) where
  caught_same : (o : Option ClassId) → caught_type W o ≡ caught_type P o
  caught_same None = progs.throwable
  caught_same (Some c) = refl

  catch_kept : (o : Option ClassId) → catch_fits P o ≡ true → catch_fits W o ≡ true
  catch_kept None e = refl
  catch_kept (Some c) e = throwable c e

  caught_kept : (f : Types) (h : Handler) → IsCaught P m f h → IsCaught W m f h
  caught_kept f h c = record {
    frame = c.frame;
    there = c.there;
    flows = subst (λ (t : VType). FlowsInto W (record f { stack = t ∷ [] }) c.frame) (sym (caught_same h.catch)) (flows_same P W m assigns above progs (record f { stack = caught_type P h.catch ∷ [] }) c.frame c.flows);
    set = c.set;
  }

  each_kept : (at : ℕ) (f : Types) (hs : List Handler) → AreHandled P m at f hs → AreHandled W m at f hs
  each_kept at f [] all = tt
  each_kept at f (h ∷ hs) all = (record { within = λ covering. caught_kept f h (all.0.within covering); begins = λ first. catch_kept h.catch (all.0.begins first) }, each_kept at f hs all.1)

  pub handles_kept : (es : List (ℕ × Instr)) (flow : Option Types) → CallsNone P es → Typed P m flow es → Handles P m es (frames_from P m flow es) → Handles W m es (frames_from W m flow es)
  handles_kept [] flow none typed handled = tt
  handles_kept (e ∷ es) flow none typed handled =
      let arrived : arriving flow (declared m e.0) ≡ Some typed.0 = arrives P m flow (declared m e.0) typed.0 typed.1 in
      let before : left_by P m e (arriving flow (declared m e.0)) ≡ goes_on (ends_path e.1) typed.2 = ap (left_by P m e) arrived ∙ ap (flows_on (ends_path e.1)) typed.3 in
      let after : left_by W m e (arriving flow (declared m e.0)) ≡ goes_on (ends_path e.1) typed.2 =
      ap (left_by W m e) arrived ∙ ap (flows_on (ends_path e.1)) (step_same P W m assigns above progs e.0 e.1 typed.0 typed.2 none.0 typed.3) in (
        each_kept e.0 _ m.handlers handled.0,
        subst (λ (o : Option Types). Handles W m es (frames_from W m o es)) (sym after)
            (handles_kept es (goes_on (ends_path e.1) typed.2) none.1 typed.5 (subst (λ (o : Option Types). Handles P m es (frames_from P m o es)) before handled.1)),
      )
