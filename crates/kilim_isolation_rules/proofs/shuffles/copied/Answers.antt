use Rattle.std.proofs.Common.{◌∙◌}
use Rattle.kilim_isolation_rules.proofs.Pieces.{copied_by}
use Rattle.kilim_isolation_rules.proofs.shuffles.copied.Goals as goal

pub returns : goal.returns
returns c =
    c.from_vec.ensures
    ∙ copied_by c.args.count c.args.passed c.args.names.now c.first-copied.result.now c.behind-others.result.now c.first.result.now c.behind.result.now c.in-Ok.new.items c.extend_from_slice.new.self.items c.extend_from_slice-2.new.self.items
    c.extend_from_slice-3.new.self.items c.first-copied.ensures c.behind-others.ensures c.first.ensures c.behind.ensures c.in-Ok.ensures.items c.in-Ok-extend_from_slice.ensures.items c.in-Ok-extend_from_slice-2.ensures.items
    c.in-Ok-extend_from_slice-3.ensures.items
