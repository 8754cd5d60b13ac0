use Rattle.std.proofs.Common.{◌≡◌, drop}
use Rattle.std.specs.List.{filter_map, flat_map}
use Rattle.kilim_link_spec.specs.Linked.{code_attribute, first_of}
use Rattle.kilim_link_spec.specs.LeftOut.{decoded_in, left_out_op}
use Rattle.kilim_link_file_faults.proofs.methods.first_left_out.Given as goal

abbrev pub invariant-loop-method : goal.invariant-loop-method
invariant-loop-method l = first_of (flat_map (λ m. filter_map left_out_op (decoded_in (code_attribute m))) (drop l.method-index l.methods)) ≡ first_of (flat_map (λ m. filter_map left_out_op (decoded_in (code_attribute m))) l.methods)
