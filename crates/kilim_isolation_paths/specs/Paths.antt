-- What the paths of a machine reach, and where they break a rule
use Rattle.std.specs.Prelude.{◌≡◌, ℕ, ◌<◌, List, [], ◌∷◌, Option, Some, None, Result, Ok, Err, slice_get, length, ◌≢◌}
use Rattle.std.specs.List.{AllByRecursion}
use Rattle.kilim_isolation_paths.specs.declared.machine.Exit.{Exit}
use Rattle.kilim_isolation_paths.specs.declared.machine.Exit.TheVariants as exit
use Rattle.kilim_isolation_paths.specs.declared.search.TheConstants.{MOST_STATES}

-- where an exit leads: to a place, or out
abbrev pub target : Exit → Option ℕ
target (exit.To to) = to
target (exit.Handler at) = Some at

-- At each place below size are exits. A step at a place, towards an exit, gives the next state or a rule that it breaks
pub record Machine (S : Type 0) : Type 0 where
  pub size : ℕ
  pub entry : S
  pub exits : ℕ → List Exit
  pub moves : ℕ → S → Exit → Result S ℕ

-- x is an element
abbrev pub Has : {X : Type 0} → List X → X → Type 0
Has xs x = (k : ℕ) × (slice_get xs k ≡ Some x)

-- from the place p with the state s the places `rest` follow edges, where one place may follow by several, and no step breaks a
-- rule; the last is q, and the state there is t
abbrev pub Leads : {S : Type 0} → Machine S → ℕ → S → List ℕ → ℕ → S → Type 0
Leads m p s [] q t = (p ≡ q) × (s ≡ t)
Leads {S} m p s (n ∷ rest) q t = (u : S) × (x : Exit) × (target x ≡ Some n) × Has (m.exits p) x × (m.moves p s x ≡ Ok u) × Leads m n u rest q t

-- the path begins at place 0, and leads to the place q with the state t
abbrev pub ArrivesBy : {S : Type 0} → Machine S → List ℕ → ℕ → S → Type 0
ArrivesBy m [] q t = ⊥
ArrivesBy m (p ∷ rest) q t = (p ≡ 0) × Leads m 0 m.entry rest q t

abbrev pub Reaches : {S : Type 0} → Machine S → ℕ → S → Type 0
Reaches m q t = (path : List ℕ) × ArrivesBy m path q t

-- the path leads to the place, and a step from there breaks the rule
abbrev pub Fails : {S : Type 0} → Machine S → List ℕ → ℕ → ℕ → Type 0
Fails {S} m path pc rule = (s : S) × (to : Exit) × ArrivesBy m path pc s × Has (m.exits pc) to × (m.moves pc s to ≡ Err rule)

abbrev pub AreDifferent : {S : Type 0} → List S → Type 0
AreDifferent [] = Unit {0}
AreDifferent (s ∷ ss) = AllByRecursion (λ t. s ≢ t) ss × AreDifferent ss

-- too many different states reach the place
pub record IsCrowded {S : Type 0} (m : Machine S) (place : ℕ) : Type 0 where
  pub states : List S
  pub many : MOST_STATES < length states
  pub different : AreDifferent states
  pub reached : AllByRecursion (Reaches m place) states
