-- What the loops keep
use Rattle.std.proofs.Common.{◌≡◌, ℕ, ◌<◌, List, ◌∷◌, slice_get, Some, Option, reverse}
use Rattle.std.specs.List.{AllByRecursion, AllZip}
use Rattle.kilim_isolation_paths.specs.declared.machine.Exit.{Exit}
use Rattle.kilim_isolation_paths.specs.Paths.{Machine, Leads, target}
use Rattle.kilim_isolation_paths.specs.Search.{AreLinked, IsFound, IsDone, AreDone, IsAt, IsReportOf}
use Rattle.kilim_isolation_paths.specs.declared.store.Reached.{Reached}
use Rattle.kilim_isolation_paths.specs.declared.found.Found.{Found}
use Rattle.kilim_isolation_paths.specs.declared.report.Report.{Report}

-- the first n steps of the entry are taken in
abbrev pub DoneBelow : {S : Type 0} → Machine S → (es new : List (Reached S)) → List Found → ℕ → ℕ → Type 0
DoneBelow {S} m es new gs at n = (e : Reached S) → IsAt es at e → (k : ℕ) (to : Exit) → k < n → slice_get (m.exits e.place) k ≡ Some to → IsDone new gs e.place (target to) (m.moves e.place e.state to)

-- all steps of the first n entries are
abbrev pub DoneUpTo : {S : Type 0} → Machine S → List (Reached S) → List Found → ℕ → Type 0
DoneUpTo {S} m es gs n = (k : ℕ) (e : Reached S) → k < n → IsAt es k e → AreDone m es gs e

-- the path, read from its end, leads from the entry k to the entry at
abbrev pub LeadsBack : {S : Type 0} → List (Reached S) → ℕ → ℕ → List ℕ → Type 0
LeadsBack {S} es at k path = (m : Machine S) (e x : Reached S) → AreLinked m es → IsAt es k e → IsAt es at x → (rest : List ℕ) × (reverse path ≡ e.place ∷ rest) × Leads m e.place e.state rest x.place x.state

abbrev pub AreReportsOf : {S : Type 0} → List (Reached S) → List Found → List Found → List Report → Type 0
AreReportsOf {S} es all found rs = (m : Machine S) → AreLinked m es → AllByRecursion (IsFound m es) all → AllZip (IsReportOf m) found rs
