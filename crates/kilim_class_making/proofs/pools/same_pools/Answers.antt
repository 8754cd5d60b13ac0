use Rattle.std.proofs.Common.{◌≡◌, ◌<◌, arith}
use Rattle.kilim_class_pool.specs.Entries.{count_of}
use Rattle.kilim_class_making.proofs.Entries.{same_pools}
use Rattle.kilim_class_making.proofs.pools.same_pools.Goals as goal

pub returns : goal.returns
returns c = λ same.
    let count : count_of c.args.one.now ≡ count_of c.args.other.now = omega (arith, c.count-count.ensures, c.count.ensures, c.if-count.false) in
    same_pools c.args.one.now c.args.other.now count
    (λ k below. let passed : k < c.loop-index.index = omega (arith, below, c.count-count.ensures, c.loop-index-test.false) in c.loop-index.invariant k passed)
