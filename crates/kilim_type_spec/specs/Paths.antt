-- The edges of a method, and the paths along them (JVMS 4.10.1.6: which instruction may come behind which, and which handler).
use Rattle.std.specs.Prelude.{◌≡◌, ℕ, List, [], ◌∷◌, Some, map}
use Rattle.kilim_program.specs.declared.class.Method.{Method}
use Rattle.kilim_program.specs.declared.instr.Instr.{Instr}
use Rattle.kilim_program.specs.Lengths.{fetched}
use Rattle.kilim_type_spec.specs.Typed.{Among, edges, handlers_at}

-- how control goes along an edge
pub data EdgeKind : Type 0 where
  -- the instruction is done, and goes on behind it or jumps
  Done : EdgeKind
  -- it raises or throws, and a handler in whose range it stands catches
  Raised : EdgeKind

pub record Edge : Type 0 where
  pub from : ℕ
  pub to : ℕ
  pub kind : EdgeKind

pub data IsEdge (m : Method) : Edge → Type 0 where
  Leads : (at next to : ℕ) (i : Instr) → fetched m.code m.code_length at ≡ Some (i, next) → Among (edges i next) to → IsEdge m (record { from = at; to = to; kind = Done })
  Catches : (at next to : ℕ) (i : Instr) → fetched m.code m.code_length at ≡ Some (i, next) → Among (handlers_at m.handlers at) to → IsEdge m (record { from = at; to = to; kind = Raised })

-- places that follow edges from a place on
abbrev pub Follows : Method → ℕ → List ℕ → Type 0
Follows m at [] = Unit {0}
Follows m at (to ∷ rest) = ((kind : EdgeKind) × IsEdge m (record { from = at; to = to; kind = kind })) × Follows m to rest
