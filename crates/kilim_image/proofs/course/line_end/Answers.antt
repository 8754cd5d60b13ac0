use Rattle.std.proofs.Common.{subst, take, length, true, ◌≡◌}
use Rattle.std.proofs.lemmas.List.{take_all}
use Rattle.kilim_image.specs.Lines.{is_inside}
use Rattle.kilim_image.proofs.Lines.{ends_at, goes_inside, is_all}
use Rattle.kilim_image.proofs.course.line_end.Goals as goal

pub returns-then-byte-eq10-clause-line : goal.returns-then-byte-eq10-clause-line
returns-then-byte-eq10-clause-line c = ends_at c.args.bytes.now c.loop-i.i c.loop-i-test.true c.loop-i.invariant c.if-byte-eq10.true

pub returns-clause-line : goal.returns-clause-line
returns-clause-line c = is_all c.args.bytes.now c.requires (subst (λ xs. is_inside xs ≡ true) (take_all c.loop-i.i c.args.bytes.now c.loop-i-test.false) c.loop-i.invariant)

pub loop-i-preserved : goal.loop-i-preserved
loop-i-preserved c = goes_inside c.args.bytes.now c.loop-i.i c.loop-i-test.true c.loop-i.invariant c.if-byte-eq10.false
