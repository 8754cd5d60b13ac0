use Rattle.std.proofs.Common.{◌≡◌, rules, Some, None, sym, ◌∙◌}
use Rattle.kilim_mail_posts.specs.Posts.{named}
use Rattle.kilim_mail_posts.proofs.Maps.{writes, messages_in, old_messages}
use Rattle.kilim_mail_posts.proofs.posts.Posts.put.Goals as goal

pub returns-clause-writes : goal.returns-clause-writes
returns-clause-writes c = writes c.args.self.now (record { by_name = c.get_mut.follows.lender c.put.new.self; alloc = c.args.self.now.alloc }) c.args.name c.put.new.self ((c.get_mut.follows.holds c.put.new.self).3 (search rules)) c.in-Some.post.now (sym c.in-Some.ensures.value) _ c.args.stamp (c.put.ensures.put c.args.name) c.put.ensures.clock

pub returns-clause-messages : goal.returns-clause-messages
returns-clause-messages c = λ p all is. messages_in c.args.self.now (record { by_name = c.get_mut.follows.lender c.put.new.self; alloc = c.args.self.now.alloc }) c.args.name c.put.new.self ((c.get_mut.follows.holds c.put.new.self).3 (search rules)) p all (c.put.ensures.messages p (old_messages c.args.self.now (record { by_name = c.get_mut.follows.lender c.put.new.self; alloc = c.args.self.now.alloc }) c.args.name c.put.new.self ((c.get_mut.follows.holds c.put.new.self).3 (search rules)) c.in-Some.post.now (sym c.in-Some.ensures.value) p all) is)
