-- How the parts of the stage hand on what they answer. No clause of `woven_files` cites what stands here.
use Rattle.std.specs.Prelude.{◌≡◌, ◌≤◌, ◌+◌, ℕ, List, [], ◌∷◌, length, map, Some, None}
use Rattle.kilim_program.specs.declared.class.Form.TheVariants as form
use Rattle.kilim_program.specs.declared.class.Method.{Method}
use Rattle.kilim_program.specs.Program.{Program}
use Rattle.kilim_class_file.specs.declared.class_file.ClassFile.{ClassFile}
use Rattle.kilim_link_spec.specs.Faults.{link_faults}
use Rattle.kilim_link_spec.specs.Linked.{Linked}
use Rattle.kilim_weave_file.specs.declared.fault.ApplyFault.{ApplyFault}
use Rattle.kilim_weave.specs.declared.weaving.Woven.{Woven}
use Rattle.kilim_weave_file_command.specs.declared.woven_files.made.WovenFile.{WovenFile}
use Rattle.kilim_weave_file_command.specs.woven_files.Reports.{IsSizeLine}
use Rattle.kilim_weave_file_command.specs.woven_files.Sizes.{first_size_fault, size_fault}
use Rattle.kilim_weave_file_command.specs.woven_files.WovenFiles.{AreOutputs, IsWovenProgramOf, woven_of}

-- the line of a class file that may get too large
pub record IsRefusedFor (p : Program) (file : ClassFile) (name : List ℕ) (methods : List Method) (text : List ℕ) : Type 0 where
  pub fault : ApplyFault
  pub is_fault : size_fault p file methods ≡ Some fault
  pub is_text : IsSizeLine name fault text

-- the line of the first that may get too large
pub record IsSizeReportIn (p : Program) (files : List ClassFile) (text : List ℕ) : Type 0 where
  pub class : List ℕ
  pub fault : ApplyFault
  pub first : first_size_fault p files ≡ Some (class, fault)
  pub is_text : IsSizeLine class fault text

-- the class files link in woven form to the program, without a fault
pub record LinksBack (files : List ClassFile) (program : Program) : Type 0 where
  pub none : link_faults files form.Woven ≡ []
  pub linked : Linked files form.Woven program

-- the woven files of a program and its woven form
pub record AreWovenFrom (p : Program) (w : Woven) (files : List ClassFile) (outputs : List WovenFile) : Type 0 where
  pub fit : first_size_fault p files ≡ None
  pub are_outputs : AreOutputs p p.classes (woven_of p w files) outputs
  pub links : IsWovenProgramOf (map (λ (o : WovenFile). o.bytes) outputs) w.program

-- how many methods class files have
abbrev pub methods_in : List ClassFile → ℕ
methods_in [] = 0
methods_in (file ∷ files) = length file.methods + methods_in files

-- There is a class for each class file; and for each of their methods one of the program, one of the woven program, and its marks.
pub record HasEach (p : Program) (w : Woven) (files : List ClassFile) : Type 0 where
  pub classes : length files ≤ length p.classes
  pub methods : methods_in files ≤ length p.methods
  pub woven : methods_in files ≤ length w.program.methods
  pub marks : methods_in files ≤ length w.counted
