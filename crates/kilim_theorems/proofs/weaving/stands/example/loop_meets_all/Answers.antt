use Rattle.std.proofs.Common.{refl}
use Rattle.kilim_weave_spec.proofs.Loop.{loop_is_woven}
use Rattle.kilim_weave_spec.specs.Samples.{woven_loop, woven_loop_marks}
use Rattle.kilim_fiber_laws.proofs.stands.serves.Whole.{whole}
use Rattle.kilim_theorems.specs.weaving.stands.example.Example.{first, two_steps}
use Rattle.kilim_theorems.proofs.weaving.stands.example.Program.{loop_keeps, loop_is_typed, loop_pauses, loop_is_short, main_is_fit}
use Rattle.kilim_theorems.proofs.weaving.stands.example.States.{known}
use Rattle.kilim_theorems.proofs.weaving.stands.example.loop_meets_all.Goals as goal

pub returns : goal.returns
returns c = record {
  keeps = loop_keeps;
  plain = refl;
  typed = loop_is_typed;
  pauses = loop_pauses;
  short = loop_is_short;
  main = main_is_fit;
  woven = loop_is_woven;
  known = known;
  served = let w = whole two_steps woven_loop woven_loop_marks loop_keeps refl loop_is_typed loop_pauses loop_is_short main_is_fit loop_is_woven in (w.0, w.3 first (known w.0 w.1 w.2));
}
