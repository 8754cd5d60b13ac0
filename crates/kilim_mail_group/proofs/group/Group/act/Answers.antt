use Rattle.std.proofs.Common.{◌≡◌, false, rules}
use Rattle.kilim_mail_group.proofs.Serving.{there_now, mine_now}
use Rattle.kilim_mail_group.proofs.group.Group.act.Goals as goal

pub act-requires-clause-there : goal.act-requires-clause-there
act-requires-clause-there g c = there_now c.self.inside.boxes c.args.self.now c.args.seat c.self.view_is c.requires.there

pub act-requires-clause-mine : goal.act-requires-clause-mine
act-requires-clause-mine g c =
    let going : c.self.inside.boxes.failed ≡ false = search rules in
    mine_now c.self.inside.boxes c.args.self.now c.args.seat c.args.name c.self.view_is c.requires.there (c.self.invariant going).stands.named c.requires.mine
