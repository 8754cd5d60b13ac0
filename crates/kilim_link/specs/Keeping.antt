-- Class files without a fault of linking are a program.
use Rattle.std.specs.Prelude.{◌≡◌, ◌≤◌, List, [], length}
use Rattle.std.specs.List.{AllByRecursion}
use Rattle.kilim_class_file.specs.declared.class_file.ClassFile.{ClassFile}
use Rattle.kilim_class_file.specs.Text.{ClassFits}
use Rattle.kilim_program.specs.declared.class.Form.{Form}
use Rattle.kilim_program.specs.Keeps.{Keeps}
use Rattle.kilim_program.specs.Program.{Program}
use Rattle.kilim_link_spec.specs.Faults.{link_faults}
use Rattle.kilim_link_spec.specs.Linked.{Linked}
use Rattle.kilim_link_spec.specs.LinksWell.{LinksWell}

-- A program to which files link, of which none has a fault, keeps the facts of programs.
abbrev pub LinksKeep : Type 0
LinksKeep = (files : List ClassFile) (form : Form) (p : Program) → LinksWell files form p → Keeps p

-- Files without a fault link to a program, and it keeps the facts of programs.
abbrev pub NoFaultIsAProgram : Type 0
NoFaultIsAProgram = (files : List ClassFile) (form : Form) → length files ≤ 1000 → AllByRecursion ClassFits files → link_faults files form ≡ [] → (p : Program) × Linked files form p × Keeps p
