use Rattle.std.proofs.Common.{Some, ap, ◌∙◌}
use Rattle.kilim_run_machine.specs.Natives as native
use Rattle.kilim_run_machine.specs.Natives.{native_of}
use Rattle.kilim_fiber_steps.specs.records.natives.Natives.{meaning, member_meant}
use Rattle.kilim_fiber_steps.specs.declared.records.natives.natives.Native.{Native}
use Rattle.kilim_fiber_laws.specs.woven_kin.Nexts.{asks_next}
use Rattle.kilim_fiber_body.specs.Body.{behind_at, operands_in}
use Rattle.kilim_fiber_body.specs.Comes.{gives_result}
use Rattle.kilim_fiber_body.proofs.Asking.{any_name, asked_same, come_by, known_by, name_by}
use Rattle.kilim_fiber_body.proofs.asks.ask.Goals as goal

pub ask_member-requires-clause-room : goal.ask_member-requires-clause-room
ask_member-requires-clause-room c = λ gives. c.requires.can.room (ap gives_result (c.in-Some.ensures ∙ ap (λ (n : Native). Some (meaning n)) c.in-OfFiber.is) ∙ gives)

pub returns-in-OfFiber-clause-comes : goal.returns-in-OfFiber-clause-comes
returns-in-OfFiber-clause-comes c = λ set is-program is-limits.
    any_name c.args.body.now.heap (λ x. asks_next set c.args.code.now.program (behind_at x c.args.body.now) (operands_in c.args.body.now.frames) (native_of c.args.code.now.program c.args.method)) c.ask_member.new.body c.ask_member.result
    (come_by 0 c.ask_member.new.body c.ask_member.result _ _
    (asked_same set c.args.code.now.program (behind_at 0 c.args.body.now) (operands_in c.args.body.now.frames) (native_of c.args.code.now.program c.args.method) (native.OfFiber (member_meant c.in-OfFiber.member)) (c.in-Some.ensures ∙ ap (λ (n : Native). Some (meaning n)) c.in-OfFiber.is))
    c.ask_member.ensures.comes)

pub ask_other-requires-clause-can : goal.ask_other-requires-clause-can
ask_other-requires-clause-can c = known_by c.args.code.now.plain c.args.code.now.program c.args.limits.now c.args.body.now (operands_in c.args.body.now.frames) (native_of c.args.code.now.program c.args.method) (meaning c.in-Some.native) c.in-Some.ensures c.requires.can

pub returns-in_default-native : goal.returns-in_default-native
returns-in_default-native c = record {
  comes =
      λ set is-program is-limits.
      name_by c.args.body.now.heap c.ask_other.new.body c.ask_other.result _ _ (c.ask_other.ensures.comes set is-program is-limits)
      (λ x. asked_same set c.args.code.now.program (behind_at x c.args.body.now) (operands_in c.args.body.now.frames) (native_of c.args.code.now.program c.args.method) (meaning c.in-Some.native) c.in-Some.ensures);
  roomy = c.ask_other.ensures.roomy;
  counted = c.ask_other.ensures.counted;
  room = c.ask_other.ensures.room;
}
