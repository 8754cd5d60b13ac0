-- An accepted program has no reports.
use Rattle.std.proofs.Common.{◌≡◌, ◌≢◌, ◌∙◌, sym, refl, subst, ap, ℕ, Bool, true, false, List, [], ◌∷◌, ◌++◌, Option, Some, None, Result, Ok, Err}
use Rattle.kilim_lemmas.proofs.Lists.{append_none, not_none}
use Rattle.kilim_program.specs.declared.class.Method.{Method}
use Rattle.kilim_program.specs.declared.names.MethodId.{MethodId}
use Rattle.kilim_program.specs.declared.verified.Frame.{Frame}
use Rattle.kilim_program.specs.Names.{method_at}
use Rattle.kilim_program.specs.Program.{Program}
use Rattle.kilim_type_spec.specs.Typed.{has_code}
use Rattle.kilim_type_spec.specs.TypedProgram.{TypedProgram}
use Rattle.kilim_isolation_paths.specs.declared.report.Explored.{Explored}
use Rattle.kilim_isolation_paths.specs.declared.report.Explored.TheVariants.{Faults, Crowded}
use Rattle.kilim_isolation_paths.specs.declared.report.Report as paths
use Rattle.kilim_isolation_paths.specs.Answer.{AreFaults, IsAnswer, IsReported}
use Rattle.kilim_isolation_paths.specs.Folds.{FoldFails}
use Rattle.kilim_isolation_paths.specs.Paths.{Machine, IsCrowded, Has}
use Rattle.kilim_isolation_paths.proofs.Same.{fold_of}
use Rattle.kilim_isolation_graph.specs.declared.graph.Graph.{Graph}
use Rattle.kilim_isolation_pauses.specs.declared.report.Report.{Report}
use Rattle.kilim_isolation_pauses.specs.Pausing.{all_methods, frames_at, reports_of}
use Rattle.kilim_isolation.specs.Faults.{ArePathReports, ArePathsIf, ArePathsOf, AreReports, AreReportsOf, AreReportsOfAll, IsAccepted, earlier, later, merged, shown}
use Rattle.kilim_isolation.specs.Walks.{entry_graph, machine_of}

merged_none : (rs qs : List Report) → merged rs qs ≡ [] → (rs ≡ []) × (qs ≡ [])
merged_none [] qs e = (refl, e)
merged_none (r ∷ rs) qs e = absurd (not_none r (merged rs (later r qs)) ((append_none (earlier r qs) (r ∷ merged rs (later r qs)) e).1))

none_is_there : {A : Type 0} (x : A) → Has {X = A} [] x → ⊥
none_is_there x h = let e = h.1 in cc

none_reported : (pc rule : ℕ) → IsReported [] pc rule → ⊥
none_reported pc rule is = none_is_there is.0 is.1

-- where there is a right answer without a fault, each right answer is without one
same_answer : (m : Machine Graph) (id : MethodId) (found other : Explored) → IsAnswer m found → [] ≡ shown id found → IsAnswer m other → shown id other ≡ []
same_answer m id (Faults (r ∷ rs)) other is e also = absurd (cc)
same_answer m id (Crowded at) other is e also = absurd (cc)
same_answer m id (Faults []) (Crowded at) is e also = absurd (is.1 at also)
same_answer m id (Faults []) (Faults []) is e also = refl
same_answer m id (Faults []) (Faults (r ∷ rs)) is e also =
    let fold = fold_of m r.path r.pc r.rule also.0.fail.0 in
    absurd (none_reported r.pc r.rule (is.0.all fold.0 r.pc r.rule fold.1))

same_paths : (p : Program) (id : MethodId) (m : Method) (fs : List Frame) (g : Result Graph ℕ) (rs : List Report) → ArePathReports p id m fs g [] → ArePathReports p id m fs g rs → rs ≡ []
same_paths p id m fs (Err n) rs are also = absurd (cc)
same_paths p id m fs (Ok first) rs are also = also.2 ∙ same_answer (machine_of p m fs first) id are.0 also.0 are.1 are.2 also.1

same_if : (b : Bool) (p : Program) (id : MethodId) (m : Method) (fs : List Frame) (rs : List Report) → ArePathsIf b p id m fs [] → ArePathsIf b p id m fs rs → rs ≡ []
same_if true p id m fs rs are also = same_paths p id m fs (entry_graph p m) rs are also
same_if false p id m fs rs are also = also

same_of : (p : Program) (id : MethodId) (fs : List Frame) (m : Option Method) (rs : List Report) → ArePathsOf p id fs m [] → ArePathsOf p id fs m rs → rs ≡ []
same_of p id fs None rs are also = also
same_of p id fs (Some m) rs are also = same_if (has_code m) p id m fs rs are also

none_of_one : (t : TypedProgram) (id : MethodId) (rs : List Report) → AreReportsOf t id [] → AreReportsOf t id rs → rs ≡ []
none_of_one t id rs are also =
    let none = merged_none are.0 (reports_of t id) (sym are.2) in
    let walked = subst (λ (ws : List Report). ArePathsOf t.program id (frames_at t id) (method_at t.program id) ws) none.0 are.1 in
    let same = same_of t.program id (frames_at t id) (method_at t.program id) also.0 walked also.1 in
    also.2 ∙ (ap (λ (ws : List Report). merged ws (reports_of t id)) same ∙ none.1)

none_of_all : (t : TypedProgram) (ids : List MethodId) (none rs : List Report) → none ≡ [] → AreReportsOfAll t ids none → AreReportsOfAll t ids rs → rs ≡ []
none_of_all t [] none rs e are also = also
none_of_all t (id ∷ ids) none rs e are also =
    let parts = append_none are.0 are.1 (sym are.4 ∙ e) in
    let first = none_of_one t id also.0 (subst (λ (r : List Report). AreReportsOf t id r) parts.0 are.2) also.2 in
    let others = none_of_all t ids are.1 also.1 parts.1 are.3 also.3 in
    also.4 ∙ (ap (λ (r : List Report). r ++ also.1) first ∙ others)

pub no_reports : (t : TypedProgram) (rs : List Report) → IsAccepted t → AreReports t rs → rs ≡ []
unfolding AreReports
no_reports t rs is are = none_of_all t (all_methods t.program) [] rs refl is are
