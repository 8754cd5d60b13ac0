-- A mailbox of a turn, as its entries and its messages say.
use Rattle.std.specs.Prelude.{ℕ, ◌<◌, List, length, map}
use Rattle.std.specs.List.{AllByRecursion}
use Rattle.std.specs.VecDeque.{deque_capacity}
use Rattle.kilim_program.specs.Program.{Program}
use Rattle.kilim_run_state.specs.declared.value.Token.{Token}
use Rattle.kilim_run_board.specs.fibers.Wishes.{IsMessage}
use Rattle.kilim_run_model.specs.State.{Mailbox}
use Rattle.kilim_mail_shard.specs.declared.post.Message.{Message}
use Rattle.kilim_mail_shard.specs.declared.post.Post.{Post}

abbrev pub shown : Message → ℕ × List Token
shown m = (m.number, m.shape.value)

-- the mailbox that its entries speak of, which holds shapes
abbrev pub mail_in : Post → Mailbox (List Token)
mail_in p = record { most = p.most; puts = p.puts; queue = map shown p.queue.items }

-- each message that waits has a tree of its shape, and is one that the program's declared types allow
abbrev pub MessagesStand : Program → List Message → Type 0
MessagesStand p ms = AllByRecursion (λ (m : Message). IsMessage p m.tree m.shape.value) ms

-- there is room for one more
abbrev pub HasRoom : Post → Type 0
HasRoom p = length p.queue.items < deque_capacity p.queue
