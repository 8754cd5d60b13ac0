use Rattle.std.proofs.Common.{◌∙◌, ◌++◌, ap}
use Rattle.std.specs.Int.{w16}
use Rattle.kilim_image.specs.Text.{block}
use Rattle.kilim_image.proofs.Sizes.{pushed_all}
use Rattle.kilim_image.proofs.writing.push_image.Goals as goal

pub returns : goal.returns
returns c =
    pushed_all c.args.into.now.items c.extend_from_slice.new.self.items c.push_u16.new.into.items c.push_u64.new.into.items c.push_args.new.into.items c.push_short_block.new.into.items c.push_files.new.into.items c.push_block.new.into.items
    c.args.run.now c.args.text.now c.in_ok-extend_from_slice.ensures.items c.in_ok-push_u16.ensures.ok c.in_ok-push_u64.ensures.ok c.in_ok-push_args.ensures (c.in_ok-push_short_block.ensures ∙ ap (λ bs. c.push_args.new.into.items ++ block w16 bs) c.as_slice.ensures) c.in_ok-push_files.ensures c.in_ok-push_block.ensures
