-- What `link` answers.
use Rattle.std.specs.Prelude.{◌≡◌, ◌⊎◌, List, [], Option, Some, Result, Ok, Err}
use Rattle.kilim_class_file.specs.declared.class_file.ClassFile.{ClassFile}
use Rattle.kilim_program.specs.declared.class.Form.{Form}
use Rattle.kilim_program.specs.Program.{Program}
use Rattle.kilim_link_spec.specs.declared.fault.LinkFault.{LinkFault}
use Rattle.kilim_link_spec.specs.declared.fault.LinkFault.TheVariants as fault
use Rattle.kilim_link_spec.specs.Faults.{link_faults, first_fault}
use Rattle.kilim_link_spec.specs.Linked.{Linked, numbered, members, linked_class, linked_field, linked_method}
use Rattle.kilim_link_spec.specs.Types.{each_of, itself}
use Rattle.kilim_link_spec.specs.World.{world_of}
use Rattle.kilim_link.specs.declared.linking.Parts.{Parts}

-- the program to which files link, of which none has a fault; or the first fault, but for want of memory
abbrev pub IsLinkOf : List ClassFile → Form → Result Program LinkFault → Type 0
IsLinkOf files form (Ok p) = Linked files form p × (link_faults files form ≡ [])
IsLinkOf files form (Err found) = (found ≡ fault.Memory) ⊎ (first_fault files form ≡ Some found)

-- the classes, fields and methods that files make, and nothing left out
pub record Made (files : List ClassFile) (form : Form) (parts : Parts) : Type 0 where
  pub classes : each_of itself (numbered (linked_class (world_of files form)) 0 files) ≡ Some parts.classes
  pub fields : each_of itself (members (λ file. file.fields) (linked_field (world_of files form)) files) ≡ Some parts.fields
  pub methods : each_of itself (members (λ file. file.methods) (linked_method (world_of files form)) files) ≡ Some parts.methods
