use Rattle.std.proofs.Common.{◌≡◌, ◌++◌, ◌+◌, ◌-◌}
use Rattle.kilim_weave_pieces.specs.Meant.{meant}
use Rattle.kilim_weave_code.proofs.Pieces.{from_block}
use Rattle.kilim_weave_code.proofs.whole.resume_places.Given as goal

abbrev pub invariant-loop-before : goal.invariant-loop-before
invariant-loop-before l = l.places ++ from_block (meant l.fn.plan) (l.before + 1) (l.fn.calls - l.before) ≡ from_block (meant l.fn.plan) 1 l.fn.calls
