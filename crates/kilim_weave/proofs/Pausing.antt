-- An accepted program has no report of the rules of pausing.
use Rattle.std.proofs.Common.{◌≡◌, ◌∙◌, sym, refl, ap, List, [], ◌∷◌, ◌++◌}
use Rattle.std.specs.List.{flat_map}
use Rattle.kilim_lemmas.proofs.Lists.{append_none, not_none}
use Rattle.kilim_program.specs.declared.names.MethodId.{MethodId}
use Rattle.kilim_type_spec.specs.TypedProgram.{TypedProgram}
use Rattle.kilim_isolation_pauses.specs.declared.report.Report.{Report}
use Rattle.kilim_isolation_pauses.specs.Pausing.{all_methods, pausing_reports, reports_of}
use Rattle.kilim_isolation.specs.Faults.{AreReports, AreReportsOf, AreReportsOfAll, IsAccepted, earlier, later, merged}

merged_none : (rs qs : List Report) → merged rs qs ≡ [] → qs ≡ []
merged_none [] qs e = e
merged_none (r ∷ rs) qs e = absurd (not_none r (merged rs (later r qs)) ((append_none (earlier r qs) (r ∷ merged rs (later r qs)) e).1))

none_of_one : (t : TypedProgram) (id : MethodId) (rs : List Report) → rs ≡ [] → AreReportsOf t id rs → reports_of t id ≡ []
none_of_one t id rs e are = merged_none are.0 (reports_of t id) (sym are.2 ∙ e)

none_of_all : (t : TypedProgram) (ids : List MethodId) (rs : List Report) → rs ≡ [] → AreReportsOfAll t ids rs → flat_map (reports_of t) ids ≡ []
none_of_all t [] rs e are = refl
none_of_all t (id ∷ ids) rs e are =
    let parts = append_none are.0 are.1 (sym are.4 ∙ e) in
    ap (λ (qs : List Report). qs ++ flat_map (reports_of t) ids) (none_of_one t id are.0 parts.0 are.2) ∙ none_of_all t ids are.1 parts.1 are.3

pub none_of_pausing : (t : TypedProgram) → IsAccepted t → pausing_reports t ≡ []
unfolding AreReports
none_of_pausing t accepted = none_of_all t (all_methods t.program) [] refl accepted
