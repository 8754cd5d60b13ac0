use Rattle.std.proofs.Common.{sym, ◌∙◌}
use Rattle.kilim_link_override_faults.proofs.Settling.{agrees_with_all}
use Rattle.kilim_link_override_faults.proofs.overrides.differs_above.Goals as goal

pub returns : goal.returns
returns c =
    agrees_with_all c.args.world.now c.args.class c.args.method.now c.requires.ordinary c.requires.shared c.in_ok-signature.signature.name c.in_ok-signature.signature.descriptor
    c.in_ok-signature.ensures.name c.in_ok-signature.ensures.descriptor c.requires.declared (sym c.if-has_apart.false ∙ c.has_apart.ensures)
