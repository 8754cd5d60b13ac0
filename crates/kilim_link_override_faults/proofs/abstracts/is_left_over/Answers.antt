use Rattle.std.proofs.Common.{sym, ◌∙◌}
use Rattle.kilim_link_override_faults.proofs.Leaving.{not_left}
use Rattle.kilim_link_override_faults.proofs.abstracts.is_left_over.Goals as goal

pub returns : goal.returns
returns c =
    not_left c.args.world.now c.args.class c.args.nearer.now c.args.above c.args.method.now c.in_ok-signature.signature.name c.in_ok-signature.signature.descriptor
    c.in_ok-signature.ensures.name c.in_ok-signature.ensures.descriptor c.requires.behind c.requires.declared c.if-method.false (sym c.if-comes_from.false ∙ c.comes_from.ensures)
