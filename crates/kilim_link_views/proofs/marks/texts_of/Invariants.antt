use Rattle.std.proofs.Common.{◌≡◌, map, take}
use Rattle.kilim_class_file.specs.Parts.{text_of}
use Rattle.kilim_link_views.proofs.marks.texts_of.Given as goal

abbrev pub invariant-loop-index : goal.invariant-loop-index
invariant-loop-index l = l.texts ≡ map (text_of l.pool) (take l.index-index l.indices)
