use Rattle.std.proofs.Common.{◌≡◌, drop}
use Rattle.kilim_program.specs.Lengths.{is_code_place}
use Rattle.kilim_type_verify.proofs.frames.is_code_place.Given as goal

abbrev pub invariant-loop-index : goal.invariant-loop-index
invariant-loop-index l = is_code_place (drop l.index l.code) l.at ≡ is_code_place l.code l.at
