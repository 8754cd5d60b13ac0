-- The lines of faults in a program's methods. A name that is exactly `<init>` keeps its brackets.
use Rattle.std.specs.Prelude.{ℕ, List, [], ◌∷◌, ◌++◌, Option, Some, None, codes}
use Rattle.std.specs.Fmt.{decimal}
use Rattle.std.specs.List.{flat_map}
use Rattle.kilim_program.specs.declared.class.Method.{Method}
use Rattle.kilim_program.specs.declared.names.MethodId.{MethodId}
use Rattle.kilim_program.specs.Names.{class_name, method_at}
use Rattle.kilim_program.specs.Program.{Program}
use Rattle.kilim_link_spec.specs.World.{method_descriptor}
use Rattle.kilim_isolation_pauses.specs.declared.report.Report.{Report}
use Rattle.kilim_reports.specs.Names.{member_name_text, descriptor_text}

-- the class that declares it, and its name and descriptor
abbrev pub method_words : Program → Method → List ℕ
method_words p m = member_name_text (class_name p m.owner) ++ (codes " " ++ (member_name_text m.name ++ descriptor_text (method_descriptor p m)))

abbrev pub words_of : Program → Option Method → List ℕ
words_of p None = []
words_of p (Some m) = method_words p m

-- the places of a path, where it has some
abbrev pub places : List ℕ → List ℕ
places path = flat_map (λ at. codes " " ++ decimal at) path

abbrev pub path_words : List ℕ → List ℕ
path_words [] = []
path_words (at ∷ path) = codes " path" ++ places (at ∷ path)

-- a broken isolation rule or rule of pausing, with its line feed
abbrev pub fault_line : Program → Report → List ℕ
fault_line p r = codes "fault " ++ (words_of p (method_at p r.method) ++ (codes " " ++ (decimal r.pc ++ (codes " I" ++ (decimal r.rule ++ (path_words r.path ++ codes "\n"))))))

abbrev pub fault_lines : Program → List Report → List ℕ
fault_lines p rs = flat_map (fault_line p) rs

-- a broken rule of typing, with its line feed
abbrev pub type_line : Program → MethodId → (pc rule : ℕ) → List ℕ
type_line p id pc rule = codes "type " ++ (words_of p (method_at p id) ++ (codes " " ++ (decimal pc ++ (codes " rule " ++ (decimal rule ++ codes "\n")))))
