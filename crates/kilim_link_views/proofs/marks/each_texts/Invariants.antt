use Rattle.std.proofs.Common.{◌≡◌, map, take}
use Rattle.kilim_class_file.specs.Parts.{text_of}
use Rattle.kilim_link_views.proofs.marks.each_texts.Given as goal

abbrev pub invariant-loop-list : goal.invariant-loop-list
invariant-loop-list l = l.texts ≡ map (λ types. map (text_of l.pool) types) (take l.list-index l.lists)
