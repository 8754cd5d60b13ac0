use Rattle.kilim_run_model.proofs.one_heap.OwnEnds.{no_own_tasks}
use Rattle.kilim_run_model.proofs.one_heap.Booking.{step_booked}
use Rattle.kilim_run_model.proofs.one_heap.moves_are_booked.Goals as goal

pub returns : goal.returns
returns c = λ setting m b t booked. step_booked setting (no_own_tasks setting) m b t booked
