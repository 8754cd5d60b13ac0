-- How the list of a method's edges grows. No clause of a public call cites it.
use Rattle.std.specs.Prelude.{◌≡◌, ℕ, ◌+◌, ◌<◌, ◌++◌, List, Some, map, slice_get, drop}
use Rattle.std.specs.List.{Contains}
use Rattle.std.specs.List.Sorted.{IsStrictlyIncreasing}
use Rattle.kilim_program.specs.declared.class.Method.{Method}
use Rattle.kilim_program.specs.declared.instr.Instr.{Instr}
use Rattle.kilim_program.specs.Lengths.{first_place}
use Rattle.kilim_type_spec.specs.Typed.{Among, edges, handlers_at}
use Rattle.kilim_type_flow.specs.Edges.{Has, Increases}

-- the same numbers, in increasing order
pub record InOrder (xs ys : List ℕ) : Type 0 where
  pub rises : IsStrictlyIncreasing ys
  pub keeps : (x : ℕ) → Contains xs x → Contains ys x
  pub adds_none : (x : ℕ) → Contains ys x → Contains xs x

abbrev pub from_to : ℕ → ℕ → ℕ × ℕ
from_to from to = (from, to)

-- where control goes from the entry of a number: on, or to a handler
abbrev pub edges_of : Method → ℕ → ℕ × Instr → List ℕ
edges_of m at e = edges e.1 (first_place (drop (at + 1) m.code) m.code_length) ++ handlers_at m.handlers e.0

-- the edges from the entry of a number come behind those that were there
pub record Further (m : Method) (at : ℕ) (old new : List (ℕ × ℕ)) : Type 0 where
  pub entry : ℕ × Instr
  pub there : slice_get m.code at ≡ Some entry
  pub tos : List ℕ
  pub order : InOrder (edges_of m at entry) tos
  pub is : new ≡ old ++ map (from_to entry.0) tos

-- the pair is an edge from one of the first entries
pub record FromEntry (m : Method) (count from to : ℕ) : Type 0 where
  pub at : ℕ
  pub below : at < count
  pub entry : ℕ × Instr
  pub there : slice_get m.code at ≡ Some entry
  pub place : entry.0 ≡ from
  pub along : Among (edges_of m at entry) to

-- those from the first entries
pub record EdgesUpTo (m : Method) (count : ℕ) (pairs : List (ℕ × ℕ)) : Type 0 where
  pub increases : Increases pairs
  pub sound : (from to : ℕ) → Has pairs from to → FromEntry m count from to
  pub each : (at to : ℕ) (entry : ℕ × Instr) → at < count → slice_get m.code at ≡ Some entry → Among (edges_of m at entry) to → Has pairs entry.0 to
