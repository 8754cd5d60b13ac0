-- The line of class files that don't link: the class, and its first problem. A name that is exactly `<init>` keeps its
-- brackets, whatever it names.
use Rattle.std.specs.Prelude.{ℕ, List, [], ◌++◌, codes}
use Rattle.std.specs.Fmt.{decimal}
use Rattle.kilim_class_code.specs.declared.fault.CodeFault.{CodeFault}
use Rattle.kilim_class_code.specs.declared.fault.CodeFault.TheVariants as code
use Rattle.kilim_link_spec.specs.declared.fault.LeftOutPart.{LeftOutPart}
use Rattle.kilim_link_spec.specs.declared.fault.LeftOutPart.TheVariants as part
use Rattle.kilim_link_spec.specs.declared.fault.MemberOf.{MemberOf}
use Rattle.kilim_link_spec.specs.declared.fault.Problem.{Problem}
use Rattle.kilim_link_spec.specs.declared.fault.Problem.TheVariants as problem
use Rattle.kilim_reports.specs.Names.{member_name_text, descriptor_text, method_text}

-- a left-out part by its word; an instruction by its number
abbrev pub part_word : LeftOutPart → List ℕ
part_word (part.Opcode number) = codes "opcode-" ++ decimal number
part_word part.Float = codes "float"
part_word part.ClassInitializer = codes "clinit"
part_word part.StaticField = codes "static-field"
part_word part.Synchronized = codes "synchronized"
part_word part.Native = codes "native"
part_word part.Interface = codes "interface"
part_word part.NoSuperFlag = codes "no-super-flag"
part_word part.PausableConstructor = codes "pausable-constructor"
part_word part.PausableHandlers = codes "pausable-handlers"
part_word part.TaskArray = codes "task-array"
part_word part.Fiber = codes "fiber"
part_word part.ParameterAnnotations = codes "parameter-annotations"

-- where a fault of code stands: the place of the instruction that has it; want of memory is no fault of code
abbrev pub fault_place : CodeFault → ℕ
fault_place (code.Op fault at) = at
fault_place (code.MidTarget at to) = at
fault_place (code.FallsOff at) = at
fault_place code.Memory = 0

-- the owner, a dot, and the member's name and descriptor, one behind the other
abbrev pub member_text : MemberOf → List ℕ
member_text m = member_name_text m.owner ++ (codes "." ++ (member_name_text m.name ++ descriptor_text m.descriptor))

abbrev pub problem_words : Problem → List ℕ
problem_words (problem.Twice name) = codes "twice " ++ member_name_text name
problem_words (problem.Missing name) = codes "missing " ++ member_name_text name
problem_words problem.Circular = codes "circular"
problem_words (problem.NoMember member) = codes "no-member " ++ member_text member
problem_words (problem.LeftOut part) = codes "left-out " ++ part_word part
problem_words problem.Both = codes "both"
problem_words (problem.FieldKind field) = codes "field-kind " ++ member_name_text field.name
problem_words (problem.OverrideDiffers method) = codes "override " ++ method_text method
problem_words (problem.Code method fault) = codes "code " ++ (method_text method ++ (codes " " ++ decimal (fault_place fault)))
problem_words (problem.Descriptor text) = codes "descriptor " ++ descriptor_text text
problem_words problem.SuperKind = codes "super"
problem_words problem.Name = codes "name"
problem_words (problem.AbstractLeft method) = codes "abstract " ++ method_text method
problem_words (problem.Handler method number) = codes "handler " ++ (method_text method ++ (codes " " ++ decimal number))

-- the line, with its line feed
abbrev pub link_line : List ℕ → Problem → List ℕ
link_line class of = codes "link " ++ (member_name_text class ++ (codes " " ++ (problem_words of ++ codes "\n")))
