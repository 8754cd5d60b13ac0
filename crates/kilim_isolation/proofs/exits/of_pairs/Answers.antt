use Rattle.std.proofs.Common.{ℕ, ℤ, pos, Some, refl, arith}
use Rattle.kilim_isolation.proofs.Loops.{twice_mapped_end, twice_mapped_on}
use Rattle.kilim_isolation.proofs.exits.of_pairs.Goals as goal

pub loop-pair-preserved : goal.loop-pair-preserved
loop-pair-preserved c =
    twice_mapped_on Some (λ (p : ℤ × ℕ). p.1) c.loop-pair.exits c.push.new.self _ c.args.pairs.now c.loop-pair.pair-index _ (pos 0, 0) _ c.loop-pair-test.true refl c.loop-pair.invariant refl c.in-Ok-push.ensures.ok

pub returns : goal.returns
returns c = twice_mapped_end Some (λ (p : ℤ × ℕ). p.1) c.loop-pair.exits _ c.args.pairs.now c.loop-pair.pair-index (omega arith) c.loop-pair.invariant
