use Rattle.std.proofs.Common.{◌<◌, ℕ, List, sym, subst}
use Rattle.kilim_isolation_paths.specs.declared.machine.Exit.{Exit}
use Rattle.kilim_isolation_paths.specs.Paths.{target}
use Rattle.std.specs.List.{AllByRecursion}
use Rattle.std.specs.Option.{IfSome}
use Rattle.kilim_isolation.proofs.Inside.{exits_inside}
use Rattle.kilim_isolation.proofs.machine.WalkMoves.exits.Goals as goal

pub returns-clause-within : goal.returns-clause-within
returns-clause-within c =
    subst (λ (xs : List Exit). AllByRecursion (λ (x : Exit). IfSome (target x) (λ q. q < c.args.self.now.method.now.code_length)) xs) (sym c.in-Ok.ensures)
    (exits_inside c.args.self.now.method.now c.args.place c.args.self.now.whole)
