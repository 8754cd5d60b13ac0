use Rattle.std.proofs.Common.{◌≡◌, None, length}
use Rattle.kilim_program.specs.declared.names.ClassId.{ClassId}
use Rattle.kilim_link_inherited.specs.Roots.{root_at}
use Rattle.kilim_link_inherited.proofs.class_trees.no_roots.Given as goal

abbrev pub invariant-loop : goal.invariant-loop
invariant-loop l = record { none : (c : ClassId) → root_at l.roots c ≡ None; count : length l.roots ≡ l.counter }
