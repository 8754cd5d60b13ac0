use Rattle.std.proofs.Common.{Option, ap, sym, ◌∙◌}
use Rattle.kilim_program.specs.declared.ty.Ty.{Ty}
use Rattle.kilim_weave_spec.specs.Woven as form
use Rattle.kilim_weave_pieces.specs.Items.{items_of}
use Rattle.kilim_weave_code.proofs.Putting.{on_ok}
use Rattle.kilim_weave_code.proofs.group.dummy_return.Goals as goal

pub returns-in-None : goal.returns-in-None
returns-in-None c = on_ok c.add.result (λ e. e ∙ ap (λ (o : Option Ty). form.dummy_return o (items_of c.args.items.now)) (sym c.in-None.is)) c.add.ensures
