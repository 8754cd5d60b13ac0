use Rattle.std.proofs.Common.{◌≡◌, rules, Some, None, sym, ◌∙◌}
use Rattle.kilim_mail_posts.specs.Posts.{named}
use Rattle.kilim_mail_posts.proofs.Maps.{writes, messages_in, old_messages}
use Rattle.kilim_mail_posts.proofs.posts.Posts.bound.Goals as goal

pub returns-clause-writes : goal.returns-clause-writes
returns-clause-writes c = writes c.args.self.now (record { by_name = c.get_mut.follows.lender c.bound.new.self; alloc = c.args.self.now.alloc }) c.args.name c.bound.new.self ((c.get_mut.follows.holds c.bound.new.self).3 (search rules)) c.in-Some.post.now (sym c.in-Some.ensures.value) _ c.args.stamp (c.bound.ensures.bound c.args.name) c.bound.ensures.clock

pub returns-clause-messages : goal.returns-clause-messages
returns-clause-messages c = λ p all. messages_in c.args.self.now (record { by_name = c.get_mut.follows.lender c.bound.new.self; alloc = c.args.self.now.alloc }) c.args.name c.bound.new.self ((c.get_mut.follows.holds c.bound.new.self).3 (search rules)) p all (c.bound.ensures.messages p (old_messages c.args.self.now (record { by_name = c.get_mut.follows.lender c.bound.new.self; alloc = c.args.self.now.alloc }) c.args.name c.bound.new.self ((c.get_mut.follows.holds c.bound.new.self).3 (search rules)) c.in-Some.post.now (sym c.in-Some.ensures.value) p all))
