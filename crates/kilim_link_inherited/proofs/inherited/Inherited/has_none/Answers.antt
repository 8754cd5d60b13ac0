use Rattle.std.proofs.Common.{◌≡◌, ℕ, true, is_some, rules, subst}
use Rattle.kilim_link_inherited.proofs.Inheriting.{some_key}
use Rattle.kilim_link_inherited.specs.Roots.{inherits, OnlyKeys}
use Rattle.kilim_link_inherited.proofs.inherited.Inherited.has_none.Goals as goal

pub returns-in-Some-clause-some : goal.returns-in-Some-clause-some
unfolding inherits
returns-in-Some-clause-some c = λ no.
    let has : (k : ℕ) × (is_some (inherits c.args.self.now c.args.class k) ≡ true) = search rules in
    let keys : OnlyKeys c.args.self.now = subst OnlyKeys c.self.view_is c.self.invariant in
    (has.0, some_key c.args.self.now c.args.class has.0 keys has.1, has.1)
