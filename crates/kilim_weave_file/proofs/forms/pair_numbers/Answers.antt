use Rattle.std.proofs.Common.{get_or, refl, rules, ◌∙◌, ℤ, pos, ap, map}
use Rattle.std.specs.Int.{w32, w64}
use Rattle.std.specs.Prelude.{FitsSigned}
use Rattle.std.proofs.lemmas.Int.{to_z-of_z}
use Rattle.std.proofs.lemmas.List.{take_all}
use Rattle.kilim_weave_file_spec.specs.Raw.{pair_number}
use Rattle.kilim_weave_file.proofs.Loops.{mapped}
use Rattle.kilim_weave_file.proofs.forms.pair_numbers.Goals as goal

pub loop-pair-preserved : goal.loop-pair-preserved
loop-pair-preserved c =
    let pair = get_or c.args.pairs.now c.loop-pair.pair-index (pos 0, 0) in
    let low : FitsSigned w32 pair.0 = search rules in
    let fits : FitsSigned w64 c.from.result = search rules in
    mapped pair_number c.loop-pair.all.items c.push.new.self.items c.args.pairs.now c.loop-pair.pair-index pair (pos 0, 0) (pair.0, c.from.result)
    c.loop-pair-test.true refl c.loop-pair.invariant (ap (λ (n : ℤ). (pair.0, n)) c.from.ensures) (simp to_z-of_z at c.in-Ok.ensures.items)

pub returns : goal.returns
returns c = rw c.from_vec.ensures (c.loop-pair.invariant ∙ ap (map pair_number) (take_all c.loop-pair.pair-index c.args.pairs.now c.loop-pair-test.false))
