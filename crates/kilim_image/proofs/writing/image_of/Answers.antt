use Rattle.std.proofs.Common.{arith}
use Rattle.kilim_image.specs.Text.{image_limit}
use Rattle.kilim_image.proofs.Sizes.{files_short, text_short}
use Rattle.kilim_image.proofs.writing.image_of.Goals as goal

pub push_image-requires-clause-short : goal.push_image-requires-clause-short
unfolding image_limit
push_image-requires-clause-short c = files_short c.args.run.now c.args.text.now c.in-Some.size c.in-Some.ensures (omega (arith, c.if-size-image_limit.false, c.image_limit.ensures))

pub push_image-requires-clause-text : goal.push_image-requires-clause-text
unfolding image_limit
push_image-requires-clause-text c = text_short c.args.run.now c.args.text.now c.in-Some.size c.in-Some.ensures (omega (arith, c.if-size-image_limit.false, c.image_limit.ensures))
