use Rattle.std.proofs.Common.{◌≡◌, map, take}
use Rattle.kilim_link_spec.specs.World.{view_of_file}
use Rattle.kilim_link_world.proofs.views.file_views.Given as goal

abbrev pub invariant-loop-file : goal.invariant-loop-file
invariant-loop-file l = l.views ≡ map view_of_file (take l.file-index l.files)
