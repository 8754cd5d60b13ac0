use Rattle.kilim_program.specs.declared.instr.Instr.TheVariants.{Iload, Lload, Aload, Istore, Lstore, Astore}
use Rattle.kilim_type_spec.specs.Step.{row}
use Rattle.kilim_type_step.proofs.Places.{instr_is}
use Rattle.kilim_type_step.proofs.locals.on_local.Goals as goal

pub returns-in-Iload : goal.returns-in-Iload
unfolding row
returns-in-Iload c = instr_is c.args.program.now c.args.method.now c.args.at c.args.instr.now (Iload c.in-Iload.slot) c.args.state.now c.load.new.state c.load.result c.in-Iload.is c.load.ensures

pub returns-in-Lload : goal.returns-in-Lload
unfolding row
returns-in-Lload c = instr_is c.args.program.now c.args.method.now c.args.at c.args.instr.now (Lload c.in-Lload.slot) c.args.state.now c.load-in-Lload.new.state c.load-in-Lload.result c.in-Lload.is c.load-in-Lload.ensures

pub returns-in-Aload : goal.returns-in-Aload
unfolding row
returns-in-Aload c = instr_is c.args.program.now c.args.method.now c.args.at c.args.instr.now (Aload c.in-Aload.slot) c.args.state.now c.load-in-Aload.new.state c.load-in-Aload.result c.in-Aload.is c.load-in-Aload.ensures

pub returns-in-Istore : goal.returns-in-Istore
unfolding row
returns-in-Istore c = instr_is c.args.program.now c.args.method.now c.args.at c.args.instr.now (Istore c.in-Istore.slot) c.args.state.now c.store.new.state c.store.result c.in-Istore.is c.store.ensures

pub returns-in-Lstore : goal.returns-in-Lstore
unfolding row
returns-in-Lstore c = instr_is c.args.program.now c.args.method.now c.args.at c.args.instr.now (Lstore c.in-Lstore.slot) c.args.state.now c.store-in-Lstore.new.state c.store-in-Lstore.result c.in-Lstore.is c.store-in-Lstore.ensures

pub returns-in-Astore : goal.returns-in-Astore
unfolding row
returns-in-Astore c = instr_is c.args.program.now c.args.method.now c.args.at c.args.instr.now (Astore c.in-Astore.slot) c.args.state.now c.store-in-Astore.new.state c.store-in-Astore.result c.in-Astore.is c.store-in-Astore.ensures
