use Rattle.kilim_fiber_body.proofs.Called.{placed, there_by}
use Rattle.kilim_fiber_body.proofs.members.place.Goals as goal

pub take_place-number-requires-clause-three : goal.take_place-number-requires-clause-three
take_place-number-requires-clause-three c = (placed c.in-Some.frames c.args.body.now.frames c.args.body.now.records c.in-Some.is (there_by c.in-Some.frames c.args.body.now.frames c.in-Some.is c.requires.operands) c.requires.done).three

pub take_place-number-requires-clause-there : goal.take_place-number-requires-clause-there
take_place-number-requires-clause-there c = (placed c.in-Some.frames c.args.body.now.frames c.args.body.now.records c.in-Some.is (there_by c.in-Some.frames c.args.body.now.frames c.in-Some.is c.requires.operands) c.requires.done).there

pub take_place-number-requires-clause-last : goal.take_place-number-requires-clause-last
take_place-number-requires-clause-last c = (placed c.in-Some.frames c.args.body.now.frames c.args.body.now.records c.in-Some.is (there_by c.in-Some.frames c.args.body.now.frames c.in-Some.is c.requires.operands) c.requires.done).last

pub take_place-number-requires-clause-first : goal.take_place-number-requires-clause-first
take_place-number-requires-clause-first c = (placed c.in-Some.frames c.args.body.now.frames c.args.body.now.records c.in-Some.is (there_by c.in-Some.frames c.args.body.now.frames c.in-Some.is c.requires.operands) c.requires.done).first
