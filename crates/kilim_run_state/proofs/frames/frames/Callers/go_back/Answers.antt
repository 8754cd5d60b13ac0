use Rattle.std.proofs.Common.{◌≡◌, ◌∙◌, ◌+◌, ◌-◌, sym, arith}
use Rattle.kilim_run_state.proofs.frames.Levels.{taken_off}
use Rattle.kilim_run_state.proofs.frames.frames.Callers.go_back.Goals as goal

pub returns-clause-yes : goal.returns-clause-yes
returns-clause-yes c found =
    let long : c.self.inside.level ≡ (c.self.inside.level - 1) + 1 = omega (arith, c.if-self-eq0.false) in
    sym c.self.view_is ∙ taken_off c.self.inside.frames.items c.exchange.new.frames.items c.self.inside.level (c.self.inside.level - 1) c.exchange.new.top c.args.top.now long c.exchange.ensures.top c.exchange.ensures.frames
