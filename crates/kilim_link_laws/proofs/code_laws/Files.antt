-- What is known of each file where there is no fault.
use Rattle.std.proofs.Common.{ℕ, suc, List, [], ◌∷◌}
use Rattle.std.specs.List.{AllByRecursion}
use Rattle.kilim_class_file.specs.declared.class_file.ClassFile.{ClassFile}
use Rattle.kilim_program.specs.BuiltIn.{class_id}
use Rattle.kilim_program.specs.declared.names.ClassId.{ClassId}
use Rattle.kilim_link_spec.specs.Laws.{NoProblem, NoneOfEachKind, EachIsWithout}
use Rattle.kilim_link_spec.specs.World.{World}
use Rattle.kilim_link_laws.proofs.code_laws.Lists.{EachFile}

pub each_without : (of_each_kind : NoneOfEachKind) (w : World) (n : ℕ) (files : List ClassFile) → EachIsWithout w n files → EachFile (NoProblem w) n files
each_without of_each_kind w n [] each = tt
each_without of_each_kind w n (file ∷ files) each = (of_each_kind w file (class_id n) each.0, each_without of_each_kind w (suc n) files each.1)

pub each_file_map : (P Q : ClassFile → ClassId → Type 0) → ((file : ClassFile) (c : ClassId) → P file c → Q file c) → (n : ℕ) (files : List ClassFile) → EachFile P n files → EachFile Q n files
each_file_map P Q of n [] each = tt
each_file_map P Q of n (file ∷ files) each = (of file (class_id n) each.0, each_file_map P Q of (suc n) files each.1)

-- what holds of each file
pub each_file_of : (F : ClassFile → Type 0) (Q : ClassFile → ClassId → Type 0) → ((file : ClassFile) (c : ClassId) → F file → Q file c) → (n : ℕ) (files : List ClassFile) → AllByRecursion F files → EachFile Q n files
each_file_of F Q of n [] all = tt
each_file_of F Q of n (file ∷ files) all = (of file (class_id n) all.0, each_file_of F Q of (suc n) files all.1)
