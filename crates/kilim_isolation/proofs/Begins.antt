-- How methods begin, and what their paths give.
use Rattle.std.proofs.Common.{◌≡◌, ℕ, Bool, true, false, ◌||◌, List, [], ◌∷◌, Option, Some, None, Result, Ok, Err, refl, sym, ap, ◌∙◌, subst}
use Rattle.kilim_program.specs.declared.class.Method.{Method}
use Rattle.kilim_program.specs.declared.names.MethodId.{MethodId}
use Rattle.kilim_program.specs.declared.verified.Frame.{Frame}
use Rattle.kilim_program.specs.Names.{method_at}
use Rattle.kilim_program.specs.Program.{Program}
use Rattle.kilim_type_spec.specs.Step.{Types}
use Rattle.kilim_type_spec.specs.Typed.{declared, entry, has_code}
use Rattle.kilim_isolation_paths.specs.declared.report.Explored.{Explored}
use Rattle.kilim_isolation_paths.specs.Answer.{IsAnswer}
use Rattle.kilim_isolation_graph.specs.declared.graph.Graph.{Graph}
use Rattle.kilim_isolation_rules.specs.Marks.{any_mixes}
use Rattle.kilim_isolation_pauses.specs.declared.report.Report.{Report}
use Rattle.kilim_isolation.specs.Faults.{ArePathReports, ArePathsIf, ArePathsOf, shown}
use Rattle.kilim_isolation.specs.Walks.{entry_graph, entry_mixes, machine_of}

or_none : (b : Bool) → (b || false) ≡ b
or_none true = refl
or_none false = refl

pub mixes_declared : (p : Program) (m : Method) (d : Types) (mix : Bool) → Some d ≡ declared m 0 → mix ≡ any_mixes p (entry m).locals d.locals → mix ≡ entry_mixes p m (declared m 0)
mixes_declared p m d mix is e = e ∙ (sym (or_none (any_mixes p (entry m).locals d.locals)) ∙ ap (entry_mixes p m) is)

pub mixes_none : (p : Program) (m : Method) → None ≡ declared m 0 → false ≡ entry_mixes p m (declared m 0)
mixes_none p m is = ap (entry_mixes p m) is

pub found_reports : (p : Program) (id : MethodId) (m : Method) (fs : List Frame) (first : Graph) (found : Explored) (rs : List Report) → IsAnswer (machine_of p m fs first) found → rs ≡ shown id found → ArePathReports p id m fs (Ok first) rs
found_reports p id m fs first found rs answer is = (found, answer, is)

pub begun_reports : (p : Program) (id : MethodId) (m : Method) (fs : List Frame) (first : Graph) (rs : List Report) → entry_graph p m ≡ Ok first → ArePathReports p id m fs (Ok first) rs → ArePathReports p id m fs (entry_graph p m) rs
begun_reports p id m fs first rs begins are = subst (λ (r : Result Graph ℕ). ArePathReports p id m fs r rs) (sym begins) are

pub entry_reports : (p : Program) (id : MethodId) (m : Method) (fs : List Frame) (rs : List Report) → entry_graph p m ≡ Err 6 → rs ≡ record { method = id; pc = 0; rule = 6; path = 0 ∷ [] } ∷ [] → ArePathReports p id m fs (entry_graph p m) rs
entry_reports p id m fs rs begins is = subst (λ (r : Result Graph ℕ). ArePathReports p id m fs r rs) (sym begins) is

pub paths_none : (p : Program) (id : MethodId) (fs : List Frame) (rs : List Report) → None ≡ method_at p id → rs ≡ [] → ArePathsOf p id fs (method_at p id) rs
paths_none p id fs rs there is = subst (λ (o : Option Method). ArePathsOf p id fs o rs) there is

pub paths_empty : (p : Program) (id : MethodId) (m : Method) (fs : List Frame) (rs : List Report) → Some m ≡ method_at p id → has_code m ≡ false → rs ≡ [] → ArePathsOf p id fs (method_at p id) rs
paths_empty p id m fs rs there none is = subst (λ (o : Option Method). ArePathsOf p id fs o rs) there (subst (λ (b : Bool). ArePathsIf b p id m fs rs) (sym none) is)

pub paths_some : (p : Program) (id : MethodId) (m : Method) (fs : List Frame) (rs : List Report) → Some m ≡ method_at p id → has_code m ≡ true → ArePathReports p id m fs (entry_graph p m) rs → ArePathsOf p id fs (method_at p id) rs
paths_some p id m fs rs there coded are = subst (λ (o : Option Method). ArePathsOf p id fs o rs) there (subst (λ (b : Bool). ArePathsIf b p id m fs rs) (sym coded) are)
