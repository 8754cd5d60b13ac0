use Rattle.std.proofs.Common.{◌≡◌, drop}
use Rattle.std.specs.List.{list_any}
use Rattle.std.specs.Str.{bytes_eq}
use Rattle.kilim_link_spec.specs.World.{class_text}
use Rattle.kilim_link_views.proofs.names.is_any_named.Given as goal

abbrev pub invariant-loop-class : goal.invariant-loop-class
invariant-loop-class l = list_any (λ c. bytes_eq (class_text l.pool c) l.name) (drop l.class-index l.classes) ≡ list_any (λ c. bytes_eq (class_text l.pool c) l.name) l.classes
