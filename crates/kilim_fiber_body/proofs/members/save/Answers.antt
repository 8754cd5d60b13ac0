use Rattle.kilim_fiber_body.proofs.Called.{saved, there_by}
use Rattle.kilim_fiber_body.proofs.members.save.Goals as goal

pub take_value-value-requires-clause-two : goal.take_value-value-requires-clause-two
take_value-value-requires-clause-two c = (saved c.in-Some.frames c.args.body.now.frames c.args.body.now.records c.in-Some.is (there_by c.in-Some.frames c.args.body.now.frames c.in-Some.is c.requires.operands) c.requires.done).two

pub take_value-value-requires-clause-there : goal.take_value-value-requires-clause-there
take_value-value-requires-clause-there c = (saved c.in-Some.frames c.args.body.now.frames c.args.body.now.records c.in-Some.is (there_by c.in-Some.frames c.args.body.now.frames c.in-Some.is c.requires.operands) c.requires.done).there

pub take_value-value-requires-clause-last : goal.take_value-value-requires-clause-last
take_value-value-requires-clause-last c = (saved c.in-Some.frames c.args.body.now.frames c.args.body.now.records c.in-Some.is (there_by c.in-Some.frames c.args.body.now.frames c.in-Some.is c.requires.operands) c.requires.done).last
