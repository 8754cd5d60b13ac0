use Rattle.std.specs.Prelude.{codes}
use Rattle.kilim_run_rows.proofs.Classes.{named_is}
use Rattle.kilim_run_rows.proofs.types.type_of.Goals as goal

pub returns-in-Text : goal.returns-in-Text
returns-in-Text c = named_is c.args.program.now c.args.value.now c.args.heap.now (codes "java/lang/String") c.named_type.result (rw c.in-Text.is) c.named_type.ensures

pub returns-in-Box : goal.returns-in-Box
returns-in-Box c = named_is c.args.program.now c.args.value.now c.args.heap.now (codes "kilim/Mailbox") c.named_type-in-Box.result (rw c.in-Box.is) c.named_type-in-Box.ensures

pub returns-in-Fiber : goal.returns-in-Fiber
returns-in-Fiber c = named_is c.args.program.now c.args.value.now c.args.heap.now (codes "kilim/Fiber") c.named_type-in-Fiber.result (rw c.in-Fiber.is) c.named_type-in-Fiber.ensures
