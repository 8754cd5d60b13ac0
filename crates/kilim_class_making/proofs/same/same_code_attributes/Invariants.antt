use Rattle.std.proofs.Common.{◌≡◌, ◌++◌, take}
use Rattle.kilim_class_making.proofs.same.same_code_attributes.Given as goal

abbrev pub invariant-loop-x : goal.invariant-loop-x
invariant-loop-x l = take l.x-index l.one ++ l.rest ≡ l.other
