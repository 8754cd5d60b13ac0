use Rattle.std.proofs.Common.{◌≡◌, ◌∙◌, List, ℕ, IfOk, subst}
use Rattle.std.proofs.lemmas.List.{take_all}
use Rattle.kilim_class_builder.proofs.Loops.{copied}
use Rattle.kilim_class_builder.proofs.adding.ascii.Goals as goal

pub loop-byte-preserved : goal.loop-byte-preserved
loop-byte-preserved c =
    copied c.loop-byte.units.items c.push.new.self.items c.args.text.now c.loop-byte.byte-index c.from.result c.loop-byte-test.true c.from.ensures c.loop-byte.invariant c.in_ok-push.ensures.items

pub returns : goal.returns
returns c =
    subst (λ (text : List ℕ). IfOk c.from_vec.result (λ units. units ≡ text)) (c.loop-byte.invariant ∙ take_all c.loop-byte.byte-index c.args.text.now c.loop-byte-test.false) c.from_vec.ensures
