use Rattle.std.proofs.Common.{◌≡◌, take}
use Rattle.kilim_outside.specs.written.Written.{HasFiles, KeepsOtherFiles}
use Rattle.kilim_outside.proofs.written.writing.write_files.Given as goal

abbrev pub invariant-loop-file : goal.invariant-loop-file
invariant-loop-file g l = record {
  none : l.file-index ≡ 0 → g.F.Folder.contents l.folder ≡ g.F.Folder.contents l.fn.folder;
  has : HasFiles (g.F.Folder.contents l.folder) (take l.file-index l.files);
  others : KeepsOtherFiles (g.F.Folder.contents l.fn.folder) (g.F.Folder.contents l.folder) (take l.file-index l.files);
  faults : g.F.Folder.faults l.folder ≡ g.F.Folder.faults l.fn.folder;
}
