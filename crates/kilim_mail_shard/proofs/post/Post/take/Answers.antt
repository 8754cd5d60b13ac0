use Rattle.std.proofs.Common.{refl, ap}
use Rattle.std.specs.Prelude.{map}
use Rattle.kilim_mail_shard.specs.Post.{shown}
use Rattle.kilim_mail_shard.proofs.Posts.{take_after, message_first}
use Rattle.kilim_mail_shard.proofs.post.Post.take.Goals as goal

pub returns-in-Some-clause-some : goal.returns-in-Some-clause-some
returns-in-Some-clause-some c = λ box.
    take_after c.args.self.now (record { most = c.args.self.now.most; puts = c.args.self.now.puts; queue = c.pop_first.new.queue; clock = c.args.stamp }) box c.in-Some.message refl refl c.in-Some.ensures

pub returns-in-Some-clause-message : goal.returns-in-Some-clause-message
returns-in-Some-clause-message c = λ p stand. (message_first p c.args.self.now.queue.items c.pop_first.new.queue.items c.in-Some.message c.in-Some.ensures stand).0

pub returns-in-Some-clause-messages : goal.returns-in-Some-clause-messages
returns-in-Some-clause-messages c = λ p stand. (message_first p c.args.self.now.queue.items c.pop_first.new.queue.items c.in-Some.message c.in-Some.ensures stand).1

pub returns-in-Some-clause-first : goal.returns-in-Some-clause-first
returns-in-Some-clause-first c = ap (map shown) c.in-Some.ensures
