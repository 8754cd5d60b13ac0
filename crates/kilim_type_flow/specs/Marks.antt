-- What the search for live locals keeps. No clause of a public call cites it.
use Rattle.std.specs.Prelude.{◌≡◌, ◌⊎◌, ◌==◌, ℕ, suc, ◌+◌, ◌<◌, Bool, true, false, List, [], ◌∷◌, Option, Some, None, length, get_or, slice_get, drop}
use Rattle.kilim_program.specs.declared.class.Method.{Method}
use Rattle.kilim_program.specs.declared.instr.Instr.{Instr}
use Rattle.kilim_program.specs.Lengths.{fetched, first_place}
use Rattle.kilim_type_spec.specs.Typed.{Among, Live, edges, handlers_at, reads, writes}

-- each of the first so many
abbrev pub EachUpTo : {X : Type 0} → ℕ → List X → (X → Type 0) → Type 0
EachUpTo {X} count xs P = (at : ℕ) (x : X) → at < count → slice_get xs at ≡ Some x → P x

-- ---- instructions

-- the local that an instruction reads
abbrev pub is_slot : Option ℕ → ℕ → Bool
is_slot None k = false
is_slot (Some slot) k = slot == k

-- every place of some code is below a number
abbrev pub EachBelow : ℕ → List (ℕ × Instr) → Type 0
EachBelow size code = (at : ℕ) (e : ℕ × Instr) → slice_get code at ≡ Some e → e.0 < size

-- so is every local that is read
abbrev pub EachReadBelow : ℕ → List (ℕ × Instr) → Type 0
EachReadBelow most code = (at k : ℕ) (e : ℕ × Instr) → slice_get code at ≡ Some e → reads e.1 k ≡ true → k < most

-- the locals that the first instructions read are marked
abbrev pub ReadMarked : ℕ → List Bool → List (ℕ × Instr) → Type 0
ReadMarked count marks code = (at k : ℕ) (e : ℕ × Instr) → at < count → slice_get code at ≡ Some e → reads e.1 k ≡ true → get_or marks k false ≡ true

-- ---- edges

-- where edges of some kind lead from an entry of the code, behind which the code goes on at a place
abbrev pub Tos : Type 0
Tos = ℕ × Instr → ℕ → List ℕ

abbrev pub flow_tos : Tos
flow_tos e to = edges e.1 to

abbrev pub caught_tos : Method → Tos
caught_tos m e to = handlers_at m.handlers e.0

-- an edge leads from a place to another
pub record Goes (tos : Tos) (m : Method) (p q : ℕ) : Type 0 where
  pub to : ℕ
  pub instr : Instr
  pub there : fetched m.code m.code_length p ≡ Some (instr, to)
  pub along : Among (tos (p, instr) to) q

-- the instruction at a place doesn't write a local
pub record Passes (m : Method) (k p : ℕ) : Type 0 where
  pub to : ℕ
  pub instr : Instr
  pub there : fetched m.code m.code_length p ≡ Some (instr, to)
  pub not_written : writes instr k ≡ false

-- the instruction at a place reads it
pub record Reads (m : Method) (k p : ℕ) : Type 0 where
  pub to : ℕ
  pub instr : Instr
  pub there : fetched m.code m.code_length p ≡ Some (instr, to)
  pub it : reads instr k ≡ true

-- ---- the places before each place

-- rows in which nothing stands
pub record AreEmpty (size : ℕ) (rows : List (List ℕ)) : Type 0 where
  pub long : length rows ≡ size
  pub none : (q : ℕ) → get_or rows q [] ≡ []

-- one place more before some places
pub record Further (p : ℕ) (tos : List ℕ) (rows news : List (List ℕ)) : Type 0 where
  pub same : length news ≡ length rows
  pub keeps : (q x : ℕ) → Among (get_or rows q []) x → Among (get_or news q []) x
  pub only : (q x : ℕ) → Among (get_or news q []) x → Among (get_or rows q []) x ⊎ ((x ≡ p) × Among tos q)
  pub there : (q : ℕ) → Among tos q → q < length rows → Among (get_or news q []) p

-- of the first instructions
pub record BeforeSoFar (tos : Tos) (m : Method) (size count : ℕ) (rows : List (List ℕ)) : Type 0 where
  pub long : length rows ≡ size
  pub sound : (p q : ℕ) → Among (get_or rows q []) p → Goes tos m p q
  pub each : (at : ℕ) (e : ℕ × Instr) (q : ℕ) → at < count → slice_get m.code at ≡ Some e → q < size → Among (tos e (first_place (drop (at + 1) m.code) m.code_length)) q → Among (get_or rows q []) e.0

pub record AreBefore (tos : Tos) (m : Method) (size : ℕ) (rows : List (List ℕ)) : Type 0 where
  pub long : length rows ≡ size
  pub sound : (p q : ℕ) → Among (get_or rows q []) p → Goes tos m p q
  pub each : (p q : ℕ) → q < size → Goes tos m p q → Among (get_or rows q []) p

-- ---- marks and work

abbrev pub unmarked : List Bool → ℕ
unmarked [] = 0
unmarked (true ∷ bs) = unmarked bs
unmarked (false ∷ bs) = suc (unmarked bs)

abbrev pub is_marked : List Bool → ℕ → Bool
is_marked marks p = get_or marks p false

-- more places are marked, such as P says, and each new one waits
pub record Grown (P : ℕ → Type 0) (marks : List Bool) (work : List ℕ) (marks' : List Bool) (work' : List ℕ) : Type 0 where
  pub same : length marks' ≡ length marks
  pub keeps : (x : ℕ) → is_marked marks x ≡ true → is_marked marks' x ≡ true
  pub only : (x : ℕ) → is_marked marks' x ≡ true → (is_marked marks x ≡ true) ⊎ P x
  pub stays : (x : ℕ) → Among work x → Among work' x
  pub waits : (x : ℕ) → Among work' x → Among work x ⊎ (is_marked marks' x ≡ true)
  pub news : (x : ℕ) → is_marked marks' x ≡ true → (is_marked marks x ≡ true) ⊎ Among work' x
  pub count : unmarked marks' + length work' ≡ unmarked marks + length work

-- the marks are of live places; what is before a marked place that no longer waits is marked, and where that is a handler all that it covers
pub record Marks (m : Method) (k : ℕ) (marks : List Bool) (work : List ℕ) : Type 0 where
  pub sound : (p : ℕ) → is_marked marks p ≡ true → Live m k p
  pub waits : (p : ℕ) → Among work p → is_marked marks p ≡ true
  pub closed : (p q : ℕ) → Goes flow_tos m p q → Passes m k p → is_marked marks q ≡ true → (is_marked marks p ≡ true) ⊎ Among work q
  pub caught : (p q : ℕ) → Goes (caught_tos m) m p q → is_marked marks q ≡ true → (is_marked marks p ≡ true) ⊎ Among work q

-- the places whose instructions read the local are marked, as far as the first instructions go
abbrev pub ReadsMarked : Method → (k count : ℕ) → List Bool → Type 0
ReadsMarked m k count marks = (at : ℕ) (e : ℕ × Instr) → at < count → slice_get m.code at ≡ Some e → reads e.1 k ≡ true → is_marked marks e.0 ≡ true

-- the places whose instructions don't write it
pub record Opens (m : Method) (k count : ℕ) (marks : List Bool) : Type 0 where
  pub sound : (p : ℕ) → is_marked marks p ≡ true → Passes m k p
  pub each : (at : ℕ) (e : ℕ × Instr) → at < count → slice_get m.code at ≡ Some e → writes e.1 k ≡ false → is_marked marks e.0 ≡ true

-- a column tells where a local is live
abbrev pub IsColumn : Method → ℕ → List Bool → Type 0
IsColumn m k marks = (p : ℕ) → ((is_marked marks p ≡ true → Live m k p) × (Live m k p → is_marked marks p ≡ true))

-- the first so many
abbrev pub AreColumns : Method → ℕ → List (List Bool) → Type 0
AreColumns m count columns = (k : ℕ) → k < count → IsColumn m k (get_or columns k [])

-- no instruction reads it
abbrev pub NoneReads : Method → ℕ → Type 0
NoneReads m k = (at : ℕ) (e : ℕ × Instr) → slice_get m.code at ≡ Some e → reads e.1 k ≡ true → ⊥
