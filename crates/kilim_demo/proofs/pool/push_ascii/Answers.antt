use Rattle.std.proofs.Common.{List, ℕ, ◌++◌, refl}
use Rattle.kilim_lemmas.proofs.Walks.{all_made}
use Rattle.kilim_demo.proofs.Loops.{copied_ahead}
use Rattle.kilim_demo.proofs.pool.push_ascii.Goals as goal

pub loop-byte-preserved : goal.loop-byte-preserved
loop-byte-preserved c =
    copied_ahead c.loop-byte.units.items c.push.new.self.items (c.args.units.now.items ++ c.args.ascii.now) c.args.ascii.now c.loop-byte.byte-index c.from.result c.loop-byte-test.true c.from.ensures c.loop-byte.invariant c.in-Ok.ensures.items

pub returns : goal.returns
returns c = all_made (λ (bytes : List ℕ). bytes) c.loop-byte.units.items (c.args.units.now.items ++ c.args.ascii.now) c.args.ascii.now c.loop-byte.byte-index refl c.loop-byte-test.false c.loop-byte.invariant
