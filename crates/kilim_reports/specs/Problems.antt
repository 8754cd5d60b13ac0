-- The words of a problem in two parts: its own word, and what is told of it.
use Rattle.std.specs.Prelude.{ℕ, List, [], ◌++◌, codes}
use Rattle.std.specs.Fmt.{decimal}
use Rattle.kilim_link_spec.specs.declared.fault.Problem.{Problem}
use Rattle.kilim_link_spec.specs.declared.fault.Problem.TheVariants as problem
use Rattle.kilim_reports.specs.LinkLines.{part_word, fault_place, member_text}
use Rattle.kilim_reports.specs.Names.{member_name_text, descriptor_text, method_text}

abbrev pub problem_word : Problem → List ℕ
problem_word (problem.Twice name) = codes "twice "
problem_word (problem.Missing name) = codes "missing "
problem_word problem.Circular = codes "circular"
problem_word (problem.NoMember member) = codes "no-member "
problem_word (problem.LeftOut part) = codes "left-out "
problem_word problem.Both = codes "both"
problem_word (problem.FieldKind field) = codes "field-kind "
problem_word (problem.OverrideDiffers method) = codes "override "
problem_word (problem.Code method fault) = []
problem_word (problem.Descriptor text) = codes "descriptor "
problem_word problem.SuperKind = codes "super"
problem_word problem.Name = codes "name"
problem_word (problem.AbstractLeft method) = codes "abstract "
problem_word (problem.Handler method number) = codes "handler "

abbrev pub problem_told : Problem → List ℕ
problem_told (problem.Twice name) = member_name_text name
problem_told (problem.Missing name) = member_name_text name
problem_told problem.Circular = []
problem_told (problem.NoMember member) = member_text member
problem_told (problem.LeftOut part) = part_word part
problem_told problem.Both = []
problem_told (problem.FieldKind field) = member_name_text field.name
problem_told (problem.OverrideDiffers method) = method_text method
problem_told (problem.Code method fault) = codes "code " ++ (method_text method ++ (codes " " ++ decimal (fault_place fault)))
problem_told (problem.Descriptor text) = descriptor_text text
problem_told problem.SuperKind = []
problem_told problem.Name = []
problem_told (problem.AbstractLeft method) = method_text method
problem_told (problem.Handler method number) = method_text method ++ (codes " " ++ decimal number)
