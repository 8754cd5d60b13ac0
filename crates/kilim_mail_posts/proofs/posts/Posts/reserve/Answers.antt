use Rattle.std.proofs.Common.{◌≡◌, ℕ, rules, subst, Some, None, sym, ◌∙◌}
use Rattle.std.specs.BTreeMap.{BTreeMap}
use Rattle.kilim_program.specs.Program.{Program}
use Rattle.kilim_mail_shard.specs.declared.post.Post.{Post}
use Rattle.kilim_mail_posts.specs.Posts.{named, AllMessages}
use Rattle.kilim_mail_posts.proofs.Maps.{stays, messages_in, old_messages}
use Rattle.std.proofs.lemmas.Result.{on_ok_weaker}
use Rattle.kilim_mail_posts.proofs.posts.Posts.reserve.Goals as goal

pub returns-in-Some-clause-same : goal.returns-in-Some-clause-same
returns-in-Some-clause-same c = stays c.args.self.now (record { by_name = c.get_mut.follows.lender c.reserve.new.self; alloc = c.args.self.now.alloc }) c.args.name c.reserve.new.self ((c.get_mut.follows.holds c.reserve.new.self).3 (search rules)) c.in-Some.post.now (sym c.in-Some.ensures.value) c.reserve.ensures.mail c.reserve.ensures.clock

pub returns-in-Some-clause-messages : goal.returns-in-Some-clause-messages
returns-in-Some-clause-messages c = λ p all. messages_in c.args.self.now (record { by_name = c.get_mut.follows.lender c.reserve.new.self; alloc = c.args.self.now.alloc }) c.args.name c.reserve.new.self ((c.get_mut.follows.holds c.reserve.new.self).3 (search rules)) p all (c.reserve.ensures.messages p (old_messages c.args.self.now (record { by_name = c.get_mut.follows.lender c.reserve.new.self; alloc = c.args.self.now.alloc }) c.args.name c.reserve.new.self ((c.get_mut.follows.holds c.reserve.new.self).3 (search rules)) c.in-Some.post.now (sym c.in-Some.ensures.value) p all))

pub returns-in-Some-clause-room : goal.returns-in-Some-clause-room
returns-in-Some-clause-room c = on_ok_weaker c.reserve.result (λ room. record { post = c.reserve.new.self; is-named = ((c.get_mut.follows.holds c.reserve.new.self).3 (search rules)).1; room = room }) c.reserve.ensures.room

pub returns-in-None-clause-messages : goal.returns-in-None-clause-messages
returns-in-None-clause-messages c =
    let same : c.get_mut.follows.lender-at-none ≡ c.args.self.now.by_name = search rules in
    subst (λ (b : BTreeMap (ℕ × ℕ) Post). (p : Program) → AllMessages p (record { by_name = b; alloc = c.args.self.now.alloc }) → AllMessages p c.add.new.self) same c.add.ensures.messages
