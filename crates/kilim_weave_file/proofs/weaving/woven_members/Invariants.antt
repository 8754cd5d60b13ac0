use Rattle.std.proofs.Common.{◌≡◌, ◌+◌, length, map}
use Rattle.kilim_weave_file_spec.specs.WovenFile.{pairs_of, woven_member}
use Rattle.kilim_weave_file.proofs.weaving.woven_members.Given as goal

abbrev pub invariant-loop-info : goal.invariant-loop-info
invariant-loop-info l =
    (l.at ≡ length l.yielded) × (l.all ≡ map (woven_member l.program l.file l.pool) (pairs_of l.yielded l.plains l.wovens l.counted)) × (l.at + length l.info-iterator.rest.items ≡ length l.fn.infos)
