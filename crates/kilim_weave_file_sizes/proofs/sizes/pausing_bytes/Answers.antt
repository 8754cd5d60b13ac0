use Rattle.std.proofs.Common.{◌≡◌, ap, ◌∙◌}
use Rattle.kilim_weave_spec.specs.Weight.{calls_in}
use Rattle.kilim_weave_file_sizes.proofs.Products.{pausing_sum, sum_is}
use Rattle.kilim_weave_file_sizes.proofs.sizes.pausing_bytes.Goals as goal

pub returns : goal.returns
returns c =
    let calls : c.calls_in-calls.result ≡ calls_in c.args.program.now c.args.method.now.code = c.calls_in-calls.ensures.calls ∙ ap (calls_in c.args.program.now) c.as_slice.ensures in
    sum_is c.sum_of.result _ _ (pausing_sum c.in-Ok-weight.weight c.calls_in-calls.result c.in-Ok.number c.frame_bytes.result c.len-attributes.result _ _ _ _ _ c.in-Ok-weight.ensures calls c.in-Ok.ensures c.frame_bytes.ensures c.len-attributes.ensures) c.sum_of.ensures
