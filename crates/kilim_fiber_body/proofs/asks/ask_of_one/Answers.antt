use Rattle.std.proofs.Common.{◌∷◌, [], Ok, Some, ap, refl, sym, ◌∙◌}
use Rattle.kilim_program.specs.declared.value.Value.{Value}
use Rattle.kilim_program.specs.declared.value.Value.TheVariants.{Int, Ref}
use Rattle.kilim_program.specs.Program.{Program}
use Rattle.kilim_run_machine.specs.Natives as native
use Rattle.kilim_run_state.specs.Shapes.{shape_of}
use Rattle.kilim_run_state.specs.Trees.{OfTask}
use Rattle.kilim_run_model.specs.Kept.{given}
use Rattle.kilim_run_state.specs.declared.run.Limits.{Limits}
use Rattle.kilim_run_model.specs.Lone.{arg_at}
use Rattle.kilim_fiber_laws.specs.woven_kin.Nexts.{arg_next, native_next, start_next}
use Rattle.kilim_fiber_body.specs.Body.{behind_at}
use Rattle.kilim_fiber_body.specs.Comes.{gives_result}
use Rattle.kilim_fiber_body.specs.declared.body.Came.TheVariants as came
use Rattle.kilim_fiber_steps.specs.records.natives.Natives.{meaning}
use Rattle.kilim_fiber_steps.specs.declared.records.natives.natives.Native.{Native}
use Rattle.kilim_fiber_steps.specs.declared.records.natives.natives.Native.TheVariants as code
use Rattle.kilim_fiber_body.proofs.Asking.{any_name, come_by, name_by, native_same}
use Rattle.kilim_fiber_body.proofs.asks.ask_of_one.Goals as goal

pub start-requires-clause-gives : goal.start-requires-clause-gives
start-requires-clause-gives c =
    c.requires.can.gives OfTask c.in-Ref.root
    (ap (λ (n : Native). given (Some (meaning n)) (c.args.value.now ∷ [])) c.in-Start.is
    ∙ ap (λ (v : Value). given (Some native.Start) (v ∷ [])) c.in-Ref.is)

pub returns-in-Ref : goal.returns-in-Ref
returns-in-Ref c = record {
  comes =
      λ set is-program is-limits.
      let l = behind_at 0 c.args.body.now in
      any_name c.args.body.now.heap (λ x. native_next set c.args.program.now (behind_at x c.args.body.now) (meaning c.args.native) (c.args.value.now ∷ [])) c.start.new.body c.start.result
      (come_by 0 c.start.new.body c.start.result _ _
      (ap (λ (p : Program). start_next l c.in-Ref.root (shape_of p l.heap c.in-Ref.root)) (sym is-program)
      ∙ native_same set c.args.program.now l c.args.native code.Start (c.args.value.now ∷ []) (Ref c.in-Ref.root ∷ []) c.in-Start.is (ap (λ (v : Value). v ∷ []) c.in-Ref.is))
      c.start.ensures.comes);
  roomy = c.start.ensures.roomy;
  counted = c.start.ensures.counted;
  room = c.start.ensures.room;
}

pub returns-in-Box-clause-comes : goal.returns-in-Box-clause-comes
returns-in-Box-clause-comes c = λ set is-program is-limits.
    any_name c.args.body.now.heap (λ x. native_next set c.args.program.now (behind_at x c.args.body.now) (meaning c.args.native) (c.args.value.now ∷ [])) c.args.body.now (Ok (came.Probes c.in-Box.mailbox))
    (sym (native_same set c.args.program.now (behind_at 0 c.args.body.now) c.args.native code.Getnb (c.args.value.now ∷ []) _ c.in-Getnb.is (ap (λ (v : Value). v ∷ []) c.in-Box.is)))

pub returns-in-Box-clause-room : goal.returns-in-Box-clause-room
returns-in-Box-clause-room c = c.requires.can.room (ap (λ (n : Native). gives_result (Some (meaning n))) c.in-Getnb.is)

pub arg-requires-clause-room : goal.arg-requires-clause-room
arg-requires-clause-room c = c.requires.can.room (ap (λ (n : Native). gives_result (Some (meaning n))) c.in-Arg.is)

pub returns-in-Print-clause-comes : goal.returns-in-Print-clause-comes
returns-in-Print-clause-comes c = λ set is-program is-limits.
    any_name c.args.body.now.heap (λ x. native_next set c.args.program.now (behind_at x c.args.body.now) (meaning c.args.native) (c.args.value.now ∷ [])) c.args.body.now c.print.result
    (come_by 0 c.args.body.now c.print.result _ _ (native_same set c.args.program.now (behind_at 0 c.args.body.now) c.args.native code.Print (c.args.value.now ∷ []) (c.args.value.now ∷ []) c.in-Print.is refl) c.print.ensures.comes)

pub returns-in-Int : goal.returns-in-Int
returns-in-Int c = record {
  comes =
      λ set is-program is-limits.
      name_by c.args.body.now.heap c.arg.new.body c.arg.result _ _ c.arg.ensures.comes
      (λ x. ap (λ (z : Limits). arg_next c.args.program.now (behind_at x c.args.body.now) (arg_at z.args c.in-Int.index)) (sym is-limits)
      ∙ native_same set c.args.program.now (behind_at x c.args.body.now) c.args.native code.Arg (c.args.value.now ∷ []) (Int c.in-Int.index ∷ []) c.in-Arg.is (ap (λ (v : Value). v ∷ []) c.in-Int.is));
  roomy = c.arg.ensures.roomy;
  counted = c.arg.ensures.counted;
  room = c.arg.ensures.room;
}
