use Rattle.std.proofs.Common.{◌++◌, ◌∙◌, ap}
use Rattle.kilim_run_board.proofs.waiting.parked.Parked.into_list.Goals as goal

pub returns : goal.returns
returns g c = c.in-Ok-append.ensures.items ∙ (ap (λ ws. ws ++ c.self.inside.apart.items) c.in-Ok.ensures ∙ ap (λ v. v.items) c.self.view_is)
