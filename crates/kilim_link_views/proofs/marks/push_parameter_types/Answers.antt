use Rattle.std.proofs.Common.{refl}
use Rattle.kilim_link_views.proofs.marks.push_parameter_types.Goals as goal

pub returns-in-Ok-push : goal.returns-in-Ok-push
returns-in-Ok-push c = rw (← c.in-Some.ensures, c.in-Ok-push.ensures.ok, c.in-Ok.ensures, c.as_slice.ensures) refl
