use Rattle.std.proofs.Common.{List, ◌++◌, get_or, map, refl}
use Rattle.kilim_lemmas.proofs.Walks.{all_made}
use Rattle.kilim_demo.specs.declared.pool.Constant.{Constant}
use Rattle.kilim_demo.specs.Constants.{entry_of}
use Rattle.kilim_demo.proofs.Loops.{mapped_ahead}
use Rattle.kilim_demo.proofs.pool.add_all.Goals as goal

pub loop-constant-preserved : goal.loop-constant-preserved
loop-constant-preserved c =
    mapped_ahead entry_of c.loop-constant.pool c.add_constant.new.pool (c.args.pool.now ++ map entry_of c.args.constants.now) c.args.constants.now c.loop-constant.constant-index (get_or c.args.constants.now c.loop-constant.constant-index _) _
    c.loop-constant-test.true refl c.loop-constant.invariant c.in-Ok.ensures

pub returns : goal.returns
returns c = all_made (λ (constants : List Constant). map entry_of constants) c.loop-constant.pool (c.args.pool.now ++ map entry_of c.args.constants.now) c.args.constants.now c.loop-constant.constant-index refl c.loop-constant-test.false c.loop-constant.invariant
