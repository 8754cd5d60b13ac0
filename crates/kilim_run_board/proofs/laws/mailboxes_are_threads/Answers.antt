use Rattle.kilim_run_board.proofs.Threads as threads
use Rattle.kilim_run_board.proofs.laws.mailboxes_are_threads.Goals as goal

pub returns : goal.returns
returns c = λ setting journal s box new replay. threads.mailboxes_are_threads setting journal s box new replay
