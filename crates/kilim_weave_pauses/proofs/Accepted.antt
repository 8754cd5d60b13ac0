-- A program without a report is one without a report of the rules of pausing.
use Rattle.std.proofs.Common.{◌≡◌, List, [], ◌∷◌, ◌++◌, refl, sym, ap, ◌∙◌}
use Rattle.std.specs.List.{flat_map}
use Rattle.kilim_program.specs.declared.names.MethodId.{MethodId}
use Rattle.kilim_isolation.specs.Faults.{AreReports, AreReportsOfAll, earlier, later, merged}
use Rattle.kilim_lemmas.proofs.Lists.{front_none, rest_none}
use Rattle.kilim_isolation_pauses.specs.declared.report.Report.{Report}
use Rattle.kilim_isolation_pauses.specs.Pausing.{all_methods, pausing_reports, reports_of}
use Rattle.kilim_type_spec.specs.TypedProgram.{TypedProgram}
use Rattle.kilim_weave_pauses.proofs.Pauses.{kept, none_free}
use Rattle.kilim_weave_pauses.specs.Law.{AcceptedKeepsPauses, ReceiversAreHeld}

not_none : (r : Report) (rs : List Report) → r ∷ rs ≡ [] → ⊥
not_none r rs e = cc

merged_none : (rs qs : List Report) → merged rs qs ≡ [] → qs ≡ []
merged_none [] qs e = e
merged_none (r ∷ rs) qs e = absurd (not_none r (merged rs (later r qs)) (rest_none (earlier r qs) (r ∷ merged rs (later r qs)) e))

all_none : (t : TypedProgram) (ids : List MethodId) (rs : List Report) → AreReportsOfAll t ids rs → rs ≡ [] → flat_map (reports_of t) ids ≡ []
all_none t [] rs all e = refl
all_none t (id ∷ ids) rs all e =
    let whole = sym all.4 ∙ e in
    let first = merged_none all.2.0 (reports_of t id) (sym all.2.2 ∙ front_none all.0 all.1 whole) in
    ap (λ (xs : List Report). xs ++ flat_map (reports_of t) ids) first ∙ all_none t ids all.1 all.3 (rest_none all.0 all.1 whole)

none_reported : (t : TypedProgram) → AreReports t [] → pausing_reports t ≡ []
unfolding AreReports
none_reported t is = all_none t (all_methods t.program) [] is refl

pub accepted_keeps : AcceptedKeepsPauses
accepted_keeps t keeps typed is = kept t keeps typed (none_reported t is)

pub receivers_held : ReceiversAreHeld
receivers_held t keeps typed is id m at = none_free t keeps typed (none_reported t is) id m at
