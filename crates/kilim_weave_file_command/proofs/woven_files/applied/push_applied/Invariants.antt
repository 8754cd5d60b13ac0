use Rattle.std.proofs.Common.{◌≡◌, ◌≤◌, ◌++◌, drop, length}
use Rattle.std.specs.List.{AllByRecursion}
use Rattle.kilim_class_file.specs.Text.{ClassFits}
use Rattle.kilim_weave_file_command.specs.woven_files.Parts.{methods_in}
use Rattle.kilim_weave_file_command.specs.woven_files.Sizes.{first_fault_in, first_size_fault}
use Rattle.kilim_weave_file_command.specs.woven_files.WovenFiles.{woven_by, woven_of}
use Rattle.kilim_weave_file_command.proofs.woven_files.applied.push_applied.Given as goal

abbrev pub invariant-loop-at : goal.invariant-loop-at
invariant-loop-at l = record {
  so_far : l.into ++ woven_by l.woven.program (drop l.at l.files) l.ps l.ms l.cs ≡ woven_of l.program l.woven l.files;
  fit : AllByRecursion ClassFits l.into;
  methods : methods_in (drop l.at l.files) ≤ length l.ps;
  woven : methods_in (drop l.at l.files) ≤ length l.ms;
  marks : methods_in (drop l.at l.files) ≤ length l.cs;
  none : first_fault_in l.program (drop l.at l.program.classes) (drop l.at l.files) l.ps ≡ first_size_fault l.program l.files;
}
