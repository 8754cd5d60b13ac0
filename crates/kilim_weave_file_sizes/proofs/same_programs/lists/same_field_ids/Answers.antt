use Rattle.std.proofs.Common.{rules}
use Rattle.kilim_weave_file_sizes.proofs.same_programs.Compared.{same_lists}
use Rattle.kilim_weave_file_sizes.proofs.same_programs.lists.same_field_ids.Goals as goal

pub returns : goal.returns
returns c = same_lists _ (λ a b h. search rules) c.args.one.now c.args.other.now c.eq.result c.eq.ensures
