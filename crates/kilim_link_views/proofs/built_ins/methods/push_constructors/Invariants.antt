use Rattle.std.proofs.Common.{◌≡◌, ◌++◌, take}
use Rattle.kilim_program.specs.BuiltIn.{constructors_of}
use Rattle.kilim_link_views.proofs.built_ins.methods.push_constructors.Given as goal

abbrev pub invariant-loop-owner : goal.invariant-loop-owner
invariant-loop-owner l = l.methods ≡ l.fn.methods ++ constructors_of l.first (take l.owner-index l.owners)
