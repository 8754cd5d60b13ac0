use Rattle.std.proofs.Common.{◌≡◌, Bool, drop}
use Rattle.std.specs.List.{flat_map}
use Rattle.kilim_link_spec.specs.declared.fault.LeftOutPart.{LeftOutPart}
use Rattle.kilim_link_spec.specs.Linked.{first_of}
use Rattle.kilim_link_spec.specs.LeftOut.{if_left}
use Rattle.kilim_link_file_faults.proofs.parts.first_held.Given as goal

abbrev pub invariant-loop-test : goal.invariant-loop-test
invariant-loop-test l = first_of (flat_map (λ (t : Bool × LeftOutPart). if_left t.0 t.1) (drop l.test-index l.tests)) ≡ first_of (flat_map (λ (t : Bool × LeftOutPart). if_left t.0 t.1) l.tests)
