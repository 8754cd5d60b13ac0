-- What the search keeps
use Rattle.std.specs.Prelude.{◌≡◌, ℕ, zero, suc, ◌<◌, ◌≤◌, List, [], ◌∷◌, ◌++◌, Option, Some, None, Result, Ok, Err, slice_get, length, MatchOption, cond, nat_eq, Bool, true, nat_lt, ◌||◌, ◌&&◌}
use Rattle.std.specs.List.{AllByRecursion}
use Rattle.kilim_isolation_paths.specs.declared.machine.Exit.{Exit}
use Rattle.kilim_isolation_paths.specs.Paths.{Machine, Has, AreDifferent, IsCrowded, Fails, target}
use Rattle.kilim_isolation_paths.specs.declared.store.Reached.{Reached}
use Rattle.kilim_isolation_paths.specs.declared.found.Found.{Found}
use Rattle.kilim_isolation_paths.specs.declared.report.Report.{Report}
use Rattle.kilim_isolation_paths.specs.Stored.{Stored}

-- the states that were found at the place, in order
abbrev pub states_at : {S : Type 0} → ℕ → List (Reached S) → List S
states_at q [] = []
states_at q (e ∷ es) = cond (nat_eq e.place q) (e.state ∷ states_at q es) (states_at q es)

-- the first entry is the start, and each other one comes by a step from an earlier one
abbrev pub IsLinked : {S : Type 0} → Machine S → List (Reached S) → ℕ → Reached S → Type 0
IsLinked m es zero e = (e.place ≡ 0) × (e.state ≡ m.entry)
IsLinked {S} m es (suc k) e = (f : Reached S) × (e.from < suc k) × (slice_get es e.from ≡ Some f) × (x : Exit) × (target x ≡ Some e.place) × Has (m.exits f.place) x × (m.moves f.place f.state x ≡ Ok e.state)

abbrev pub AreLinked : {S : Type 0} → Machine S → List (Reached S) → Type 0
AreLinked {S} m es = (k : ℕ) (e : Reached S) → slice_get es k ≡ Some e → IsLinked m es k e

-- what is known of the entries
pub record Known {S : Type 0} (m : Machine S) (fits : ℕ → S → Type 0) (es : List (Reached S)) : Type 0 where
  pub linked : AreLinked m es
  pub different : (q : ℕ) → AreDifferent (states_at q es)
  pub within : AllByRecursion (λ e. e.place < m.size) es
  pub fit : AllByRecursion (λ e. fits e.place e.state) es
  pub start : Has (states_at 0 es) m.entry

abbrev pub AreFew : {S : Type 0} → List (Reached S) → Type 0
AreFew es = (q : ℕ) → length (states_at q es) ≤ 256

-- the fault was found by a step from its entry
abbrev pub IsFound : {S : Type 0} → Machine S → List (Reached S) → Found → Type 0
IsFound {S} m es f = (e : Reached S) × (to : Exit) × (slice_get es f.at ≡ Some e) × (e.place ≡ f.pc) × Has (m.exits e.place) to × (m.moves e.place e.state to ≡ Err f.rule)

-- the place comes first, then the rule
abbrev pub before : Found → Found → Bool
before f g = nat_lt f.pc g.pc || (nat_eq f.pc g.pc && nat_lt f.rule g.rule)

abbrev pub AreOrdered : List Found → Type 0
AreOrdered [] = Unit {0}
AreOrdered (f ∷ fs) = AllByRecursion (λ g. before f g ≡ true) fs × AreOrdered fs

abbrev pub IsNoted : List Found → ℕ → ℕ → Type 0
IsNoted fs pc rule = (k : ℕ) × (f : Found) × (slice_get fs k ≡ Some f) × (f.pc ≡ pc) × (f.rule ≡ rule)

-- the fault in its place, unless there is one with its place and rule
abbrev pub noted : List Found → Found → List Found
noted [] f = f ∷ []
noted (g ∷ gs) f = cond (before g f) (g ∷ noted gs f) (cond (before f g) (f ∷ g ∷ gs) (g ∷ gs))

-- a step from the place to there, or out, was taken in: its state is there, or its fault is noted
abbrev pub IsDone : {S : Type 0} → List (Reached S) → List Found → ℕ → Option ℕ → Result S ℕ → Type 0
IsDone es fs p None (Ok t) = Unit {0}
IsDone es fs p (Some q) (Ok t) = Has (states_at q es) t
IsDone es fs p to (Err rule) = IsNoted fs p rule

-- all steps of the entry were taken in
abbrev pub AreDone : {S : Type 0} → Machine S → List (Reached S) → List Found → Reached S → Type 0
AreDone m es fs e = (k : ℕ) (to : Exit) → slice_get (m.exits e.place) k ≡ Some to → IsDone es fs e.place (target to) (m.moves e.place e.state to)

-- what holds at each moment
pub record Good {S : Type 0} (m : Machine S) (fits : ℕ → S → Type 0) (s : Stored S) (fs : List Found) : Type 0 where
  pub known : Known m fits s.entries
  pub few : AreFew s.entries
  pub size : s.size ≡ m.size
  pub found : AllByRecursion (IsFound m s.entries) fs
  pub ordered : AreOrdered fs

-- nothing was lost
pub record Later {S : Type 0} (es new : List (Reached S)) (fs gs : List Found) : Type 0 where
  pub more : List (Reached S)
  pub is : new ≡ es ++ more
  pub noted : (pc rule : ℕ) → IsNoted fs pc rule → IsNoted gs pc rule

-- the entry stands at k
abbrev pub IsAt : {S : Type 0} → List (Reached S) → ℕ → Reached S → Type 0
IsAt es k e = slice_get es k ≡ Some e

-- after one step of the entry at k, or after all: full where a place has too many states
abbrev pub Took : {S : Type 0} → Machine S → (ℕ → S → Type 0) → Stored S → Stored S → List Found → List Found → ℕ → Exit → Option ℕ → Type 0
Took {S} m fits s t fs gs k to full =
    MatchOption full
    (Good m fits t gs × Later s.entries t.entries fs gs × ((e : Reached S) → IsAt s.entries k e → IsDone t.entries gs e.place (target to) (m.moves e.place e.state to)))
    (λ q. IsCrowded m q)

abbrev pub Visited : {S : Type 0} → Machine S → (ℕ → S → Type 0) → Stored S → Stored S → List Found → List Found → ℕ → Option ℕ → Type 0
Visited {S} m fits s t fs gs k full =
    MatchOption full
    (Good m fits t gs × Later s.entries t.entries fs gs × ((e : Reached S) → IsAt s.entries k e → AreDone m t.entries gs e))
    (λ q. IsCrowded m q)

-- every step of every entry was taken in, or a place has too many states
abbrev pub Searched : {S : Type 0} → Machine S → (ℕ → S → Type 0) → Stored S → List Found → Option ℕ → Type 0
Searched {S} m fits t gs full =
    MatchOption full
    (Good m fits t gs × ((k : ℕ) (e : Reached S) → IsAt t.entries k e → AreDone m t.entries gs e))
    (λ q. IsCrowded m q)

-- the report has the fault's place and rule, and a path that fails there
abbrev pub IsReportOf : {S : Type 0} → Machine S → Found → Report → Type 0
IsReportOf m f r = (r.pc ≡ f.pc) × (r.rule ≡ f.rule) × Fails m r.path r.pc r.rule
