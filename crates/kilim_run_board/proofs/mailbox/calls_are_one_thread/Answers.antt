use Rattle.kilim_run_board.proofs.mailbox.Queues as queues
use Rattle.kilim_run_board.proofs.mailbox.calls_are_one_thread.Goals as goal

pub returns : goal.returns
returns c = queues.calls_are_one_thread
