use Rattle.kilim_weave_file.proofs.Pairs.{woven_so}
use Rattle.kilim_weave_file.proofs.weaving.weave.Goals as goal

pub returns : goal.returns
returns c =
    woven_so c.args.program.now c.args.file.now c.args.made.now c.weave_methods.new.made c.args.plains.now c.args.wovens.now c.args.counted.now c.push_needs.new.pool c.requires.same
    c.in-Ok.ensures c.in-Ok-weave_methods.ensures
