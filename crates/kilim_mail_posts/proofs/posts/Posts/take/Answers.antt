use Rattle.std.proofs.Common.{◌≡◌, rules, Some, None, sym, ap, ◌∙◌}
use Rattle.std.specs.Prelude.{Option, [], IfSome}
use Rattle.kilim_run_journal.specs.declared.entry.Act.TheVariants.{Take}
use Rattle.kilim_mail_shard.specs.declared.post.Post.{Post}
use Rattle.kilim_mail_posts.specs.Posts.{named, box_in}
use Rattle.kilim_mail_posts.proofs.Maps.{writes, stays, messages_in, old_messages, some_both, none_both}
use Rattle.kilim_mail_posts.proofs.posts.Posts.take.Goals as goal

pub returns-in-Some-clause-some : goal.returns-in-Some-clause-some
returns-in-Some-clause-some c = some_both c.take.result (λ m allowed clock. writes c.args.self.now (record { by_name = c.get_mut.follows.lender c.take.new.self; alloc = c.args.self.now.alloc }) c.args.name c.take.new.self ((c.get_mut.follows.holds c.take.new.self).3 (search rules)) c.in-Some.post.now (sym c.in-Some.ensures.value) (Take c.args.name m.number) c.args.stamp (allowed c.args.name) clock) c.take.ensures.some c.take.ensures.clock

pub returns-in-Some-clause-message : goal.returns-in-Some-clause-message
returns-in-Some-clause-message c = some_both c.take.result (λ m is also p all. is p (old_messages c.args.self.now (record { by_name = c.get_mut.follows.lender c.take.new.self; alloc = c.args.self.now.alloc }) c.args.name c.take.new.self ((c.get_mut.follows.holds c.take.new.self).3 (search rules)) c.in-Some.post.now (sym c.in-Some.ensures.value) p all)) c.take.ensures.message c.take.ensures.message

pub returns-in-Some-clause-messages : goal.returns-in-Some-clause-messages
returns-in-Some-clause-messages c = λ p all. messages_in c.args.self.now (record { by_name = c.get_mut.follows.lender c.take.new.self; alloc = c.args.self.now.alloc }) c.args.name c.take.new.self ((c.get_mut.follows.holds c.take.new.self).3 (search rules)) p all (c.take.ensures.messages p (old_messages c.args.self.now (record { by_name = c.get_mut.follows.lender c.take.new.self; alloc = c.args.self.now.alloc }) c.args.name c.take.new.self ((c.get_mut.follows.holds c.take.new.self).3 (search rules)) c.in-Some.post.now (sym c.in-Some.ensures.value) p all))

pub returns-in-Some-clause-none : goal.returns-in-Some-clause-none
returns-in-Some-clause-none c = none_both c.take.result (λ e also. ap (λ (o : Option Post). (box_in o).mail.queue) (sym c.in-Some.ensures.value) ∙ e) c.take.ensures.none c.take.ensures.none

pub returns-in-Some-clause-same : goal.returns-in-Some-clause-same
returns-in-Some-clause-same c = none_both c.take.result (λ e also. stays c.args.self.now (record { by_name = c.get_mut.follows.lender c.take.new.self; alloc = c.args.self.now.alloc }) c.args.name c.take.new.self ((c.get_mut.follows.holds c.take.new.self).3 (search rules)) c.in-Some.post.now (sym c.in-Some.ensures.value) e.0 e.1) c.take.ensures.same c.take.ensures.same

pub returns-in-Some-clause-first : goal.returns-in-Some-clause-first
returns-in-Some-clause-first c = some_both c.take.result (λ m first also. (_, ap (λ (o : Option Post). (box_in o).mail.queue) (sym c.in-Some.ensures.value) ∙ first)) c.take.ensures.first c.take.ensures.first
