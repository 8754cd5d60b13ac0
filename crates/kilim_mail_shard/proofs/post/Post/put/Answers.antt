use Rattle.std.proofs.Common.{◌≡◌, ◌+◌, refl}
use Rattle.kilim_mail_shard.proofs.Posts.{put_after, messages_put}
use Rattle.kilim_mail_shard.proofs.post.Post.put.Goals as goal

pub returns-clause-put : goal.returns-clause-put
returns-clause-put c = λ box.
    put_after c.args.self.now (record { most = c.args.self.now.most; puts = c.args.self.now.puts + 1; queue = c.push_last.new.queue; clock = c.args.stamp }) box (record { number = c.args.self.now.puts; tree = c.args.tree; shape = c.of.result }) c.args.shape.now c.requires.free refl c.of.ensures refl refl c.push_last.ensures

pub returns-clause-messages : goal.returns-clause-messages
returns-clause-messages c = λ p stand is.
    messages_put p c.args.self.now.queue.items c.push_last.new.queue.items (record { number = c.args.self.now.puts; tree = c.args.tree; shape = c.of.result }) c.args.shape.now c.push_last.ensures c.of.ensures stand is
