use Rattle.std.proofs.Common.{◌≡◌, rules, Some, None, sym, ◌∙◌}
use Rattle.std.proofs.Common.{subst}
use Rattle.std.specs.Prelude.{map, List, []}
use Rattle.kilim_mail_shard.specs.Post.{MessagesStand}
use Rattle.kilim_mail_posts.proofs.Maps.{added, messages_in, none_stand}
use Rattle.kilim_mail_posts.proofs.posts.Posts.add.Goals as goal

pub returns-clause-same : goal.returns-clause-same
returns-clause-same c = added c.args.self.now (record { by_name = c.insert.new.self; alloc = c.args.self.now.alloc }) c.args.name c.reserve.new.self c.in-Ok-insert.ensures.updates c.requires (c.reserve.ensures.mail ∙ c.new-post.ensures.mail) (c.reserve.ensures.clock ∙ c.new-post.ensures.clock)

pub returns-clause-messages : goal.returns-clause-messages
returns-clause-messages c = λ p all.
    messages_in c.args.self.now (record { by_name = c.insert.new.self; alloc = c.args.self.now.alloc }) c.args.name c.reserve.new.self c.in-Ok-insert.ensures.updates p all (none_stand p c.reserve.new.self (c.reserve.ensures.mail ∙ c.new-post.ensures.mail))
