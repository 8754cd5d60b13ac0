-- A program without a report.
use Rattle.std.proofs.Common.{◌≡◌, ◌∙◌, sym, refl, subst, ℕ, zero, suc, Bool, true, List, [], ◌∷◌, ◌++◌, Option, Some, Result, Ok, Err, slice_get}
use Rattle.kilim_program.specs.declared.class.Method.{Method}
use Rattle.kilim_program.specs.declared.names.MethodId.{MethodId}
use Rattle.kilim_program.specs.declared.verified.Frame.{Frame}
use Rattle.kilim_program.specs.Names.{method_at}
use Rattle.kilim_program.specs.Program.{Program}
use Rattle.kilim_type_spec.specs.Typed.{has_code}
use Rattle.kilim_type_spec.specs.TypedProgram.{TypedProgram}
use Rattle.kilim_isolation_paths.specs.declared.report.Explored.{Explored}
use Rattle.kilim_isolation_paths.specs.declared.report.Explored.TheVariants.{Faults, Crowded}
use Rattle.kilim_isolation_paths.specs.Answer.{AreFaults, IsAnswer}
use Rattle.kilim_isolation_paths.specs.Paths.{Machine, IsCrowded}
use Rattle.kilim_isolation_paths.proofs.Accepted.{accepted}
use Rattle.kilim_isolation_graph.specs.declared.graph.Graph.{Graph}
use Rattle.kilim_isolation_pauses.specs.declared.report.Report.{Report}
use Rattle.kilim_isolation_pauses.specs.Pausing.{all_methods, frames_at, reports_of}
use Rattle.kilim_isolation.specs.Faults.{ArePathReports, ArePathsIf, ArePathsOf, AreReports, AreReportsOf, AreReportsOfAll, IsAccepted, earlier, later, merged, shown}
use Rattle.kilim_isolation.specs.Laws.{GoesOn}
use Rattle.kilim_isolation.specs.Walks.{entry_graph, machine_of}

append_none : {A : Type 0} (xs ys : List A) → xs ++ ys ≡ [] → (xs ≡ []) × (ys ≡ [])
append_none [] ys e = (refl, e)
append_none (x ∷ xs) ys e = absurd (cc)

not_none : {A : Type 0} (x : A) (xs : List A) → x ∷ xs ≡ [] → ⊥
not_none x xs e = cc

merged_none : (rs qs : List Report) → merged rs qs ≡ [] → rs ≡ []
merged_none [] qs e = refl
merged_none (r ∷ rs) qs e = absurd (not_none r (merged rs (later r qs)) ((append_none (earlier r qs) (r ∷ merged rs (later r qs)) e).1))

shown_none : (id : MethodId) (found : Explored) → [] ≡ shown id found → found ≡ Faults []
shown_none id (Faults []) e = refl
shown_none id (Faults (r ∷ rs)) e = absurd (cc)
shown_none id (Crowded pc) e = absurd (cc)

answer_of : (m : Machine Graph) (found : Explored) → IsAnswer m found → found ≡ Faults [] → AreFaults m [] × ((place : ℕ) → IsCrowded m place → ⊥)
answer_of m found answer e = subst (λ (f : Explored). IsAnswer m f) e answer

paths_go : (p : Program) (id : MethodId) (m : Method) (fs : List Frame) (r : Result Graph ℕ) → entry_graph p m ≡ r → ArePathReports p id m fs r [] → GoesOn p m fs
paths_go p id m fs (Err n) e are = absurd (cc)
paths_go p id m fs (Ok first) e are =
    let w = answer_of (machine_of p m fs first) are.0 are.1 (shown_none id are.0 are.2) in
    record { first = first; begins = e; goes = λ at g to r x. accepted (machine_of p m fs first) at g to w.0 r x; few = w.1 }

one_goes : (t : TypedProgram) (id : MethodId) (m : Method) → AreReportsOf t id [] → method_at t.program id ≡ Some m → has_code m ≡ true → GoesOn t.program m (frames_at t id)
one_goes t id m are there coded =
    let none : are.0 ≡ [] = merged_none are.0 (reports_of t id) (sym are.2) in
    let a : ArePathsOf t.program id (frames_at t id) (method_at t.program id) [] = subst (λ (rs : List Report). ArePathsOf t.program id (frames_at t id) (method_at t.program id) rs) none are.1 in
    let b : ArePathsOf t.program id (frames_at t id) (Some m) [] = subst (λ (o : Option Method). ArePathsOf t.program id (frames_at t id) o []) there a in
    let c : ArePathsIf true t.program id m (frames_at t id) [] = subst (λ (d : Bool). ArePathsIf d t.program id m (frames_at t id) []) coded b in
    paths_go t.program id m (frames_at t id) (entry_graph t.program m) refl c

all_none : (t : TypedProgram) (ids : List MethodId) (rs : List Report) → AreReportsOfAll t ids rs → rs ≡ [] → (k : ℕ) (id : MethodId) → slice_get ids k ≡ Some id → AreReportsOf t id []
all_none t [] rs all e k id h = absurd (cc)
all_none t (x ∷ ids) rs all e zero id h =
    let none = append_none all.0 all.1 (sym all.4 ∙ e) in
    let same : x ≡ id = cc in
    subst (λ (i : MethodId). AreReportsOf t i []) same (subst (λ (r : List Report). AreReportsOf t x r) none.0 all.2)
all_none t (x ∷ ids) rs all e (suc k) id h = all_none t ids all.1 all.3 ((append_none all.0 all.1 (sym all.4 ∙ e)).1) k id h

pub goes_on : (t : TypedProgram) (k : ℕ) (id : MethodId) (m : Method) → IsAccepted t → slice_get (all_methods t.program) k ≡ Some id → method_at t.program id ≡ Some m → has_code m ≡ true → GoesOn t.program m (frames_at t id)
unfolding AreReports
goes_on t k id m is at there coded = one_goes t id m (all_none t (all_methods t.program) [] is refl k id at) there coded
