use Rattle.kilim_theorems.proofs.mailbox_histories.Histories.{one_history}
use Rattle.kilim_theorems.proofs.mailbox_histories.mailboxes_have_one_history.Goals as goal

pub returns : goal.returns
returns c = one_history c.bounds_are_new.ensures c.accepted_is_kept.ensures c.one_heap_is_many.ensures c.mailboxes_are_threads.ensures
