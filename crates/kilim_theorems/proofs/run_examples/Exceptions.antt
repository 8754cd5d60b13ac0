-- Exceptions, computed.
use Rattle.std.proofs.Common.{refl}
use Rattle.kilim_run_machine.specs.Does.{does}
use Rattle.kilim_run_machine.specs.Moves.{moves}
use Rattle.kilim_run_model.specs.Lone.{next_move}
use Rattle.kilim_fiber_laws.specs.woven_kin.Nexts.{next_of}
use Rattle.kilim_theorems.specs.run_examples.Exceptions.{CaughtBelow, CaughtByFirst, ExceptionsLand, Uncaught}

caught_by_first : CaughtByFirst
unfolding next_move next_of moves does
caught_by_first = (refl, refl)

caught_below : CaughtBelow
unfolding next_move next_of moves does
caught_below = ((refl, refl), (refl, refl))

uncaught : Uncaught
unfolding next_move next_of moves does
uncaught = (refl, refl)

pub exceptions_land : ExceptionsLand
exceptions_land = record { caught_by_first = caught_by_first; caught_below = caught_below; uncaught = uncaught }
