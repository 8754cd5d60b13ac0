use Rattle.std.proofs.Common.{◌≡◌, zero, ◌++◌, ◌≤◌, ◌*◌, drop}
use Rattle.kilim_link_spec.specs.Annotations.{outermost}
use Rattle.kilim_link_views.proofs.marks.outermost.Given as goal

-- what is still to come, where so many parts are passed over
abbrev pub invariant-loop-part : goal.invariant-loop-part
invariant-loop-part l = record {
  outer : l.outer ++ outermost l.pending (drop l.part-index l.parts) ≡ outermost zero l.parts;
  few : l.pending ≤ 65536 * l.part-index;
}
