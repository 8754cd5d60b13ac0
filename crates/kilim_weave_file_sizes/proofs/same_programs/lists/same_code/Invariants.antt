use Rattle.std.proofs.Common.{◌≡◌, ◌++◌, take}
use Rattle.kilim_weave_file_sizes.proofs.same_programs.lists.same_code.Given as goal

abbrev pub invariant-loop-x : goal.invariant-loop-x
invariant-loop-x l = take l.x-index l.one ++ l.rest ≡ l.other
