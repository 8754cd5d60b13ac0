-- What the ldc forms push.
use Rattle.std.proofs.Common.{◌≡◌, refl}
use Rattle.kilim_program.specs.declared.value.Value.{Value}
use Rattle.kilim_program.specs.declared.value.Value.TheVariants.{Int, Long, Text}
use Rattle.kilim_program.specs.Program.{Program}
use Rattle.kilim_type_spec.specs.Step.{Types, constant_row, long_constant_row}
use Rattle.kilim_isolation_graph.specs.declared.graph.Graph.{Graph}
use Rattle.kilim_isolation_rules.specs.Rules.{by_types, passed_by}

pub constant_passes : (p : Program) (value : Value) (g : Graph) (f : Types) → by_types g f (constant_row p value) ≡ passed_by 0 1 g
constant_passes p (Int n) g f = refl
constant_passes p (Text units) g f = refl
constant_passes p value g f = refl

pub long_constant_passes : (value : Value) (g : Graph) (f : Types) → by_types g f (long_constant_row value) ≡ passed_by 0 1 g
long_constant_passes (Long n) g f = refl
long_constant_passes value g f = refl
