use Rattle.kilim_program.specs.declared.instr.Instr.TheVariants.{New, Newarray}
use Rattle.kilim_type_spec.specs.Step.{row}
use Rattle.kilim_type_step.proofs.Places.{instr_is}
use Rattle.kilim_type_step.proofs.makes.on_made.Goals as goal

pub returns-in-New : goal.returns-in-New
unfolding row
returns-in-New c = instr_is c.args.program.now c.args.method.now c.args.at c.args.instr.now (New c.in-New.class) c.args.state.now c.make.new.state c.make.result c.in-New.is c.make.ensures

pub returns-in-Newarray : goal.returns-in-Newarray
unfolding row
returns-in-Newarray c = instr_is c.args.program.now c.args.method.now c.args.at c.args.instr.now (Newarray c.in-Newarray.element) c.args.state.now c.apply.new.state c.apply.result c.in-Newarray.is c.apply.ensures
