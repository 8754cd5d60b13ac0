use Rattle.std.proofs.Common.{◌≡◌, ◌++◌, drop}
use Rattle.std.specs.List.{flat_map}
use Rattle.kilim_weave_file_spec.specs.WovenFile.{member_needs, pairs_of}
use Rattle.kilim_weave_file.proofs.weaving.push_members.Given as goal

abbrev pub invariant-loop-info : goal.invariant-loop-info
invariant-loop-info l =
    l.into ++ flat_map (member_needs l.program l.file) (pairs_of (drop l.info-index l.file.methods) l.ps l.ms l.cs)
    ≡ l.fn.into ++ flat_map (member_needs l.program l.file) (pairs_of l.file.methods l.plains l.wovens l.counted)
