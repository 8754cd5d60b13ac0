use Rattle.std.proofs.Common.{◌∷◌, [], Some, refl, sym, ap, ◌∙◌}
use Rattle.kilim_program.specs.declared.value.Value.TheVariants.{Fiber}
use Rattle.kilim_fiber_laws.specs.woven_kin.Nexts.{Goes}
use Rattle.kilim_fiber_body.specs.Body.{behind_at}
use Rattle.kilim_fiber_steps.specs.records.natives.Natives.{member_meant}
use Rattle.kilim_fiber_body.proofs.Asking.{gives_by, member_by}
use Rattle.kilim_fiber_body.proofs.members.ask_alone.Goals as goal

pub pass_with-requires-clause-room : goal.pass_with-requires-clause-room
pass_with-requires-clause-room c = c.requires.room (gives_by (member_meant c.args.member) c.args.body.now.records c.result_of.new.records c.in-Ok.value c.in-Ok.ensures)

pub returns-clause-comes : goal.returns-clause-comes
returns-clause-comes c =
    member_by (member_meant c.args.member) (Fiber ∷ []) c.args.body.now.records c.result_of.new.records (Some c.in-Ok.value) (behind_at 0 c.args.body.now) c.in-Ok.ensures refl ∙ ap Goes (sym c.pass_with.ensures.stands)
