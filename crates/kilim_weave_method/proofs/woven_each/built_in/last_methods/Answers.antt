use Rattle.std.proofs.Common.{ℕ, ◌-◌, ◌≤◌, drop, length, arith}
use Rattle.std.proofs.lemmas.List.{length-drop, take_all}
use Rattle.kilim_weave_method.proofs.woven_each.built_in.last_methods.Goals as goal

pub returns : goal.returns
returns c =
    let methods = c.args.methods.now in
    let many = length-drop 43 methods in
    take_all (length methods - 43) (drop 43 methods) (omega (arith, many))
