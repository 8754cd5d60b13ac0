use Rattle.std.proofs.Common.{◌≤◌, length, arith}
use Rattle.std.proofs.lemmas.Grind.{common_steps}
use Rattle.std.proofs.lemmas.List.{take_rest}
use Rattle.kilim_run_state.proofs.frames.Backwards.{last_taken}
use Rattle.kilim_run_state.proofs.frames.stack.Stack.topmost.Goals as goal

pub returns : goal.returns
returns c =
    let less : c.args.count ≤ length c.self.inside.values.items = grind (arith, common_steps, c.requires, c.self.view_is) in
    let e = last_taken c.self.inside.values.items c.args.count less in
    grind (arith, common_steps, e, take_rest, c.deref.ensures.value, c.len.ensures, c.self.view_is)
