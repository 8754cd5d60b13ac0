use Rattle.std.proofs.Common.{◌∙◌, ap, sym, arith}
use Rattle.std.proofs.lemmas.List.{drop_all}
use Rattle.kilim_isolation_rules.specs.Fields.{known_child}
use Rattle.kilim_isolation_rules.proofs.fields.known_child.Goals as goal

pub returns : goal.returns
returns c = ap (λ nodes. known_child nodes c.loop-number.number c.args.holder c.args.field) (sym (drop_all c.loop-number.number c.args.nodes.now (omega arith))) ∙ c.loop-number.invariant
