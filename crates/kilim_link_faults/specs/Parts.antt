-- Parts of the lists of problems, as the code goes over them.
use Rattle.std.specs.Prelude.{ℕ, Bool, not, List, ◌++◌, Option}
use Rattle.std.specs.List.{flat_map}
use Rattle.kilim_class_file.specs.declared.class_file.ClassFile.{ClassFile}
use Rattle.kilim_class_file.specs.declared.class_file.MemberInfo.{MemberInfo}
use Rattle.kilim_class_descriptors.specs.declared.types.FieldText.{FieldText}
use Rattle.kilim_program.specs.declared.names.ClassId.{ClassId}
use Rattle.kilim_program.specs.declared.ty.Ty.{Ty}
use Rattle.kilim_program.specs.Names.{◌>>=◌}
use Rattle.kilim_link_spec.specs.declared.fault.Problem.{Problem}
use Rattle.kilim_link_spec.specs.Faults.{may_hold, faults_in, left_out, both_kinds, field_kinds, override_differs, code_broken, descriptor_broken, super_kind, name_broken, abstract_left, handler_faults}
use Rattle.kilim_link_spec.specs.declared.fault.LinkFault.{LinkFault}
use Rattle.kilim_link_spec.specs.Linked.{numbered}
use Rattle.kilim_link_spec.specs.Types.{field_text, type_in}
use Rattle.kilim_link_spec.specs.World.{World, member_descriptor}

-- the type of a descriptor, where it is one and its class is there
abbrev pub type_of : World → Option FieldText → Option Ty
type_of w text = text >>= type_in w

-- a field that the kind of its class doesn't allow
abbrev pub holds_badly : World → ClassFile → ClassId → MemberInfo → Bool
holds_badly w file c f = not (may_hold w c (field_text (member_descriptor file f) >>= type_in w))

-- the last kinds of problems
abbrev pub last_kinds : World → ClassFile → ClassId → List Problem
last_kinds w file c = super_kind w file c ++ (name_broken w file c ++ (abstract_left w file c ++ handler_faults w file c))

-- and those before them
abbrev pub code_kinds : World → ClassFile → ClassId → List Problem
code_kinds w file c = override_differs w file c ++ (code_broken w file c ++ (descriptor_broken w file c ++ last_kinds w file c))

-- and those before these
abbrev pub later_kinds : World → ClassFile → ClassId → List Problem
later_kinds w file c = left_out w file c ++ (both_kinds w file c ++ (field_kinds w file c ++ code_kinds w file c))

-- ---- the faults of files

-- those of the files from a number on
abbrev pub faults_from : World → ℕ → List ClassFile → List LinkFault
faults_from w n files = flat_map (λ faults. faults) (numbered (faults_in w) n files)
