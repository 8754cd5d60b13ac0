use Rattle.std.proofs.Common.{◌≡◌, List, ap, sym, subst}
use Rattle.kilim_program.specs.declared.value.Value.{Value}
use Rattle.kilim_fiber_laws.specs.woven_kin.Nexts.{member_next}
use Rattle.kilim_fiber_body.specs.Body.{behind_at, operands_in}
use Rattle.kilim_fiber_steps.specs.declared.records.natives.natives.Member.{Member}
use Rattle.kilim_fiber_steps.specs.records.natives.Natives.{member_meant}
use Rattle.kilim_fiber_body.proofs.Asking.{come_by}
use Rattle.kilim_fiber_body.proofs.Called.{alone_args}
use Rattle.kilim_fiber_steps.specs.records.Members.{NotDone, did}
use Rattle.kilim_fiber_body.proofs.members.ask_member.Goals as goal

pub returns-in-Save : goal.returns-in-Save
returns-in-Save c = record {
  comes =
      come_by 0 c.save.new.body c.save.result _ _ (ap (λ (m : Member). member_next (member_meant m) (operands_in c.args.body.now.frames) (behind_at 0 c.args.body.now)) (sym c.in-Save.is)) c.save.ensures.comes;
  roomy = c.save.ensures.roomy;
  count = c.save.ensures.count;
  room = c.save.ensures.room;
}

pub ask_alone-requires-clause-done : goal.ask_alone-requires-clause-done
ask_alone-requires-clause-done c =
    let args = alone_args c.args.member (operands_in c.args.body.now.frames) c.args.body.now.records c.in_default.not-Save c.in_default.not-Place c.requires.done in
    subst (λ (z : List Value). did (member_meant c.args.member) z c.args.body.now.records ≡ NotDone → ⊥) args c.requires.done

pub returns-in_default : goal.returns-in_default
returns-in_default c = record {
  comes =
      come_by 0 c.ask_alone.new.body c.ask_alone.result _ _
      (ap (λ (args : List Value). member_next (member_meant c.args.member) args (behind_at 0 c.args.body.now)) (sym (alone_args c.args.member (operands_in c.args.body.now.frames) c.args.body.now.records c.in_default.not-Save c.in_default.not-Place c.requires.done)))
      c.ask_alone.ensures.comes;
  roomy = c.ask_alone.ensures.roomy;
  count = c.ask_alone.ensures.count;
  room = c.ask_alone.ensures.room;
}
