use Rattle.std.proofs.Common.{ap, sym}
use Rattle.kilim_weave_file_spec.specs.WovenFile.{woven_info}
use Rattle.kilim_weave_file.proofs.members.woven_info.Goals as goal

pub returns-in-Exceptions : goal.returns-in-Exceptions
returns-in-Exceptions c = sym (ap (woven_info c.args.program.now c.args.old.now c.args.pool.now c.args.method.now c.args.counted.now) c.in-Exceptions.is)

pub returns-in-RuntimeVisibleAnnotations : goal.returns-in-RuntimeVisibleAnnotations
returns-in-RuntimeVisibleAnnotations c = sym (ap (woven_info c.args.program.now c.args.old.now c.args.pool.now c.args.method.now c.args.counted.now) c.in-RuntimeVisibleAnnotations.is)

pub returns-in-RuntimeInvisibleAnnotations : goal.returns-in-RuntimeInvisibleAnnotations
returns-in-RuntimeInvisibleAnnotations c = sym (ap (woven_info c.args.program.now c.args.old.now c.args.pool.now c.args.method.now c.args.counted.now) c.in-RuntimeInvisibleAnnotations.is)
