use Rattle.std.proofs.Common.{ℕ, List, length, ap, ◌∙◌}
use Rattle.std.proofs.lemmas.List.{take_all}
use Rattle.kilim_class_mutf8.specs.Spelling.{spelling}
use Rattle.kilim_link_file_faults.proofs.name.spelled_length.Goals as goal

pub returns : goal.returns
returns c = c.loop-unit.invariant.so_far ∙ ap (λ (us : List ℕ). length (spelling us)) (take_all c.loop-unit.unit-index c.args.units.now c.loop-unit-test.false)
