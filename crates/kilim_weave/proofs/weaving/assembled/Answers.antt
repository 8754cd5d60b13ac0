use Rattle.kilim_weave.proofs.Whole.{keeps_woven, program_of, weaves}
use Rattle.kilim_weave.proofs.weaving.assembled.Goals as goal

pub invariant_of-program : goal.invariant_of-program
invariant_of-program c =
    (keeps_woven c.woven_is_kept.ensures c.pauses_are_kept.ensures c.woven_programs_are_typed.ensures c.args.typed.now c.keeps_program.ensures c.keeps_typed.ensures c.requires.accepted c.requires.plain c.requires.none (program_of c.args.classes c.args.methods.methods c.args.fields) c.args.methods.counted c.requires.form).0

pub returns : goal.returns
returns c =
    weaves c.woven_is_kept.ensures c.pauses_are_kept.ensures c.woven_programs_are_typed.ensures c.args.typed.now c.keeps_program.ensures c.keeps_typed.ensures c.requires.accepted c.requires.plain c.requires.none (record { program = program_of c.args.classes c.args.methods.methods c.args.fields; counted = c.args.methods.counted }) c.requires.form
