use Rattle.std.proofs.Common.{◌≡◌, rules, Some, None, sym, ◌∙◌}
use Rattle.kilim_mail_posts.specs.Posts.{named}
use Rattle.kilim_mail_posts.proofs.Maps.{marks, messages_in, old_messages}
use Rattle.kilim_mail_posts.proofs.posts.Posts.mark.Goals as goal

pub returns-clause-marks : goal.returns-clause-marks
returns-clause-marks c = marks c.args.self.now (record { by_name = c.get_mut.follows.lender c.mark.new.self; alloc = c.args.self.now.alloc }) c.args.name c.mark.new.self ((c.get_mut.follows.holds c.mark.new.self).3 (search rules)) c.in-Some.post.now (sym c.in-Some.ensures.value) c.args.stamp c.mark.ensures.mail c.mark.ensures.clock

pub returns-clause-messages : goal.returns-clause-messages
returns-clause-messages c = λ p all. messages_in c.args.self.now (record { by_name = c.get_mut.follows.lender c.mark.new.self; alloc = c.args.self.now.alloc }) c.args.name c.mark.new.self ((c.get_mut.follows.holds c.mark.new.self).3 (search rules)) p all (c.mark.ensures.messages p (old_messages c.args.self.now (record { by_name = c.get_mut.follows.lender c.mark.new.self; alloc = c.args.self.now.alloc }) c.args.name c.mark.new.self ((c.get_mut.follows.holds c.mark.new.self).3 (search rules)) c.in-Some.post.now (sym c.in-Some.ensures.value) p all))
