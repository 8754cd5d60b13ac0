-- Laws of the definitions.
use Rattle.std.specs.Prelude.{◌≡◌, ℕ, suc, List, [], ◌∷◌, Some, None, Ok, Err}
use Rattle.kilim_class_code.specs.declared.fault.CodeFault.{CodeFault}
use Rattle.kilim_class_code.specs.Code.{Placed}
use Rattle.kilim_class_code.specs.Exact.{IsCode, HasFault, body_fault}
use Rattle.kilim_class_file.specs.declared.class_file.ClassFile.{ClassFile}
use Rattle.kilim_program.specs.declared.class.Class.{Class}
use Rattle.kilim_program.specs.declared.class.Field.{Field}
use Rattle.kilim_program.specs.declared.class.Form.{Form}
use Rattle.kilim_program.specs.declared.class.Method.{Method}
use Rattle.kilim_program.specs.declared.names.ClassId.{ClassId}
use Rattle.kilim_program.specs.Program.{Program}
use Rattle.kilim_program.specs.BuiltIn.{class_id}
use Rattle.kilim_link_spec.specs.Code.{decoded}
use Rattle.kilim_link_spec.specs.Faults.{first_fault, link_faults, problems_of, declared_twice, class_missing, circular, member_missing, left_out, both_kinds, field_kinds, override_differs, code_broken, descriptor_broken, super_kind, name_broken, abstract_left, handler_faults}
use Rattle.kilim_link_spec.specs.Linked.{Linked, linked_class, linked_field, linked_method, members, numbered, program_with}
use Rattle.kilim_link_spec.specs.Types.{each_of, itself}
use Rattle.kilim_link_spec.specs.World.{World, world_of}

-- What is decoded here is what `decode` of code arrays answers.
pub record DecodedIsDecode : Type 0 where
  pub whole : (bytes : List ℕ) (code : List Placed) → IsCode bytes code → body_fault code ≡ None → decoded bytes ≡ Ok code
  pub fault : (bytes : List ℕ) (fault : CodeFault) → HasFault bytes fault → decoded bytes ≡ Err fault

-- Where no fault is named there is none.
abbrev pub NoneIsNamed : Type 0
NoneIsNamed = (files : List ClassFile) (form : Form) → first_fault files form ≡ None → link_faults files form ≡ []

-- The parts of a program to which files link.
pub record Parts (files : List ClassFile) (form : Form) (p : Program) : Type 0 where
  pub classes : List Class
  pub fields : List Field
  pub methods : List Method
  pub classes_are : each_of itself (numbered (linked_class (world_of files form)) 0 files) ≡ Some classes
  pub fields_are : each_of itself (members (λ file. file.fields) (linked_field (world_of files form)) files) ≡ Some fields
  pub methods_are : each_of itself (members (λ file. file.methods) (linked_method (world_of files form)) files) ≡ Some methods
  pub is : p ≡ program_with files form classes fields methods

-- a program to which files link has these parts
abbrev pub LinkedInParts : Type 0
LinkedInParts = (files : List ClassFile) (form : Form) (p : Program) → Linked files form p → Parts files form p

-- A class without a problem has none of each kind.
pub record NoProblem (w : World) (file : ClassFile) (c : ClassId) : Type 0 where
  pub not_twice : declared_twice w file c ≡ []
  pub none_missing : class_missing w file c ≡ []
  pub not_circular : circular w file c ≡ []
  pub no_member_missing : member_missing w file c ≡ []
  pub none_left_out : left_out w file c ≡ []
  pub not_both : both_kinds w file c ≡ []
  pub fields_fit : field_kinds w file c ≡ []
  pub overrides_fit : override_differs w file c ≡ []
  pub code_is_whole : code_broken w file c ≡ []
  pub descriptors_are_whole : descriptor_broken w file c ≡ []
  pub super_fits : super_kind w file c ≡ []
  pub name_is_whole : name_broken w file c ≡ []
  pub none_abstract : abstract_left w file c ≡ []
  pub tables_stand : handler_faults w file c ≡ []

-- no class of some files, from this number on, has a problem
abbrev pub EachIsWithout : World → ℕ → List ClassFile → Type 0
EachIsWithout w n [] = Unit {0}
EachIsWithout w n (file ∷ files) = (problems_of w file (class_id n) ≡ []) × EachIsWithout w (suc n) files

-- Where there is no fault, no class has a problem.
abbrev pub NoneHasAProblem : Type 0
NoneHasAProblem = (files : List ClassFile) (form : Form) → link_faults files form ≡ [] → EachIsWithout (world_of files form) 0 files

-- so has a class without any problem
abbrev pub NoneOfEachKind : Type 0
NoneOfEachKind = (w : World) (file : ClassFile) (c : ClassId) → problems_of w file c ≡ [] → NoProblem w file c
