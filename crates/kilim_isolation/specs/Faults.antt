-- The faults of a program: what its rules' reports are.
--
-- The rules 1 to 7 and 9 are broken along paths (kilim_isolation_rules/specs/Rules.antt), 12 ShapeLimit where too many graphs
-- come to one place; 8, 10 and 11 stand in kilim_isolation_pauses/specs/Pausing.antt.
use Rattle.std.specs.Prelude.{◌≡◌, ℕ, Bool, true, false, ◌||◌, ◌&&◌, nat_lt, nat_eq, if◌then◌else◌, List, [], ◌∷◌, ◌++◌, Option, Some, None, Result, Ok, Err, map}
use Rattle.kilim_program.specs.declared.class.Method.{Method}
use Rattle.kilim_program.specs.declared.names.MethodId.{MethodId}
use Rattle.kilim_program.specs.declared.verified.Frame.{Frame}
use Rattle.kilim_program.specs.Names.{method_at}
use Rattle.kilim_program.specs.Program.{Program}
use Rattle.kilim_type_spec.specs.Typed.{has_code}
use Rattle.kilim_type_spec.specs.TypedProgram.{TypedProgram}
use Rattle.kilim_isolation_paths.specs.declared.report.Explored.{Explored}
use Rattle.kilim_isolation_paths.specs.declared.report.Explored.TheVariants.{Faults, Crowded}
use Rattle.kilim_isolation_paths.specs.declared.report.Report as paths
use Rattle.kilim_isolation_paths.specs.Answer.{IsAnswer}
use Rattle.kilim_isolation_graph.specs.declared.graph.Graph.{Graph}
use Rattle.kilim_isolation_pauses.specs.declared.report.Report.{Report}
use Rattle.kilim_isolation_pauses.specs.Pausing.{all_methods, frames_at, reports_of}
use Rattle.kilim_isolation.specs.Walks.{entry_graph, machine_of}

-- what the paths of a method give: every broken rule once, each with a path that breaks it, or a crowded place
abbrev pub report_of : MethodId → paths.Report → Report
report_of id r = record { method = id; pc = r.pc; rule = r.rule; path = r.path }

abbrev pub shown : MethodId → Explored → List Report
shown id (Faults rs) = map (report_of id) rs
shown id (Crowded pc) = record { method = id; pc = pc; rule = 12; path = [] } ∷ []

-- where the entry breaks rule 6, that alone; else what is found along the paths
abbrev pub ArePathReports : Program → MethodId → Method → List Frame → Result Graph ℕ → List Report → Type 0
ArePathReports p id m fs (Err n) rs = rs ≡ record { method = id; pc = 0; rule = n; path = 0 ∷ [] } ∷ []
ArePathReports p id m fs (Ok first) rs = (found : Explored) × IsAnswer (machine_of p m fs first) found × (rs ≡ shown id found)

-- a method without code has no paths
abbrev pub ArePathsIf : Bool → Program → MethodId → Method → List Frame → List Report → Type 0
ArePathsIf true p id m fs rs = ArePathReports p id m fs (entry_graph p m) rs
ArePathsIf false p id m fs rs = rs ≡ []

abbrev pub ArePathsOf : Program → MethodId → List Frame → Option Method → List Report → Type 0
ArePathsOf p id fs None rs = rs ≡ []
ArePathsOf p id fs (Some m) rs = ArePathsIf (has_code m) p id m fs rs

-- ---- reports of one method, of paths and others, in the order of place and rule

abbrev pub comes_before : Report → Report → Bool
comes_before a b = nat_lt a.pc b.pc || (nat_eq a.pc b.pc && nat_lt a.rule b.rule)

-- those that come before a report, and the others
abbrev pub earlier : Report → List Report → List Report
earlier r [] = []
earlier r (q ∷ qs) = if comes_before q r then q ∷ earlier r qs else []

abbrev pub later : Report → List Report → List Report
later r [] = []
later r (q ∷ qs) = if comes_before q r then later r qs else q ∷ qs

abbrev pub merged : List Report → List Report → List Report
merged [] qs = qs
merged (r ∷ rs) qs = earlier r qs ++ (r ∷ merged rs (later r qs))

-- all reports of a method: those of its paths among those of the rules 8, 10 and 11
abbrev pub AreReportsOf : TypedProgram → MethodId → List Report → Type 0
AreReportsOf t id rs = (walked : List Report) × ArePathsOf t.program id (frames_at t id) (method_at t.program id) walked × (rs ≡ merged walked (reports_of t id))

abbrev pub AreReportsOfAll : TypedProgram → List MethodId → List Report → Type 0
AreReportsOfAll t [] rs = rs ≡ []
AreReportsOfAll t (id ∷ ids) rs = (first : List Report) × (others : List Report) × AreReportsOf t id first × AreReportsOfAll t ids others × (rs ≡ first ++ others)

-- all reports of a program, by class, method, place and rule
unfoldable pub AreReports : TypedProgram → List Report → Type 0
AreReports t rs = AreReportsOfAll t (all_methods t.program) rs

-- no rule is broken
abbrev pub IsAccepted : TypedProgram → Type 0
IsAccepted t = AreReports t []
