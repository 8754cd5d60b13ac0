use Rattle.std.proofs.Common.{◌-◌, length, sym, ◌∙◌, arith}
use Rattle.kilim_link_inherited.specs.Inherited.{up_in}
use Rattle.kilim_link_inherited.proofs.Fronts.{ends, comes_back, stands_on, goes_on, is_itself}
use Rattle.kilim_link_inherited.proofs.class_trees.push_front.Goals as goal

pub returns-in_default-superclass_in : goal.returns-in_default-superclass_in
returns-in_default-superclass_in c =
    let loop = c.loop-left in
    let ups = c.args.ups.now in
    ends ups c.args.roots.now c.args.class loop.at loop.classes c.push.new.self (length ups - loop.left) loop.invariant.classes_are loop.invariant.here c.in-Ok.ensures.ok (sym c.in_default-superclass_in.ensures)

pub returns-then-eq : goal.returns-then-eq
returns-then-eq c =
    let loop = c.loop-left in
    let ups = c.args.ups.now in
    comes_back ups c.args.roots.now c.args.class loop.at loop.classes c.push.new.self (length ups - loop.left) loop.invariant.classes_are loop.invariant.here c.in-Ok.ensures.ok (is_itself ups (up_in ups loop.at) c.in-Some.up c.args.class c.in-Some.ensures (sym c.eq.ensures ∙ c.if-eq.true))

pub returns-in-Some-root_of : goal.returns-in-Some-root_of
returns-in-Some-root_of c =
    let loop = c.loop-left in
    let ups = c.args.ups.now in
    stands_on ups c.args.roots.now c.args.class loop.at loop.classes c.push.new.self (length ups - loop.left) loop.invariant.classes_are loop.invariant.here c.in-Ok.ensures.ok c.in-Some.up c.in-Some-root_of.base (sym c.in-Some.ensures) (sym c.in-Some-root_of.ensures)

pub loop-left-preserved : goal.loop-left-preserved
loop-left-preserved c =
    let loop = c.loop-left in
    let ups = c.args.ups.now in
    let next = goes_on ups c.args.class loop.at c.in-Some.up loop.classes c.push.new.self loop.left c.loop-left-test.true loop.invariant.some loop.invariant.classes_are loop.invariant.here c.in-Ok.ensures.ok (sym c.in-Some.ensures) in
    record { some = omega arith; classes_are = next.0; here = next.1 }
