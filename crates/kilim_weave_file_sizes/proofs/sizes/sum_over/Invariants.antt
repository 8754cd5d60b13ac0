use Rattle.std.proofs.Common.{◌≡◌, ◌+◌, drop}
use Rattle.std.specs.Prelude.{sum_by}
use Rattle.kilim_weave_file_sizes.specs.Parts.{measured}
use Rattle.kilim_weave_file_spec.specs.WovenFile.{MethodPair, pairs_of}
use Rattle.kilim_weave_file_sizes.proofs.sizes.sum_over.Given as goal

abbrev pub invariant-loop-info : goal.invariant-loop-info
invariant-loop-info l =
    l.sum + sum_by (λ (x : MethodPair). measured l.measure l.program x.info x.plain) (pairs_of (drop l.info-index l.infos) l.ps l.ms l.cs)
    ≡ sum_by (λ (x : MethodPair). measured l.measure l.program x.info x.plain) (pairs_of l.infos l.plains l.wovens l.counted)
