use Rattle.kilim_top.proofs.Replies.{main_of, without}
use Rattle.kilim_top.proofs.answer.program_ready.Goals as goal

pub returns-in-Ok-Some : goal.returns-in-Ok-Some
returns-in-Ok-Some c =
    main_of c.args.program c.in-Ok-Some.found c.as_slice-name.result.now c.args.start.main.items c.args.start.limits c.in-Ok-Some.class _ c.in-Ok-Some.field-0-is c.as_slice-name.ensures.value c.in-Ok-Some.ensures

pub returns-in-Ok-None : goal.returns-in-Ok-None
returns-in-Ok-None c =
    without c.args.program c.as_slice-name.result.now c.args.start.main.items c.args.start.limits c.without_main.result _ c.in-Ok-None.field-0-is c.as_slice-name.ensures.value c.in-Ok-None.ensures c.without_main.ensures
