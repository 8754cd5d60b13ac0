use Rattle.std.proofs.Common.{get_or, refl, rules, ◌∙◌, ap, map}
use Rattle.std.specs.Int.{w64}
use Rattle.std.specs.Prelude.{FitsSigned}
use Rattle.std.proofs.lemmas.Int.{to_z-of_z}
use Rattle.std.proofs.lemmas.List.{take_all}
use Rattle.kilim_weave_file_spec.specs.Raw.{place_number}
use Rattle.kilim_weave_file.proofs.Loops.{mapped}
use Rattle.kilim_weave_file.proofs.forms.place_numbers.Goals as goal

pub loop-to-preserved : goal.loop-to-preserved
loop-to-preserved c =
    let fits : FitsSigned w64 c.from.result = search rules in
    mapped place_number c.loop-to.all.items c.push.new.self.items c.args.targets.now c.loop-to.to-index (get_or c.args.targets.now c.loop-to.to-index 0) 0 c.from.result
    c.loop-to-test.true refl c.loop-to.invariant c.from.ensures (simp to_z-of_z at c.in-Ok.ensures.items)

pub returns : goal.returns
returns c = rw c.from_vec.ensures (c.loop-to.invariant ∙ ap (map place_number) (take_all c.loop-to.to-index c.args.targets.now c.loop-to-test.false))
