-- What the first class of a line that says something of a member says.
use Rattle.std.specs.Prelude.{ℕ, if◌then◌else◌, List, [], ◌∷◌, Option, Some, None, slice_get}
use Rattle.kilim_program.specs.declared.names.ClassId.{ClassId}
use Rattle.kilim_link_inherited.specs.Inherited.{said_or}
use Rattle.kilim_link_inherited.specs.Index.{same_signature}
use Rattle.kilim_link_inherited.specs.declared.said.Said.{Said}

-- what is said of a name with its descriptor: what is first in the list
abbrev pub said_by : List Said → List ℕ → List ℕ → Option (Option ℕ)
said_by [] name descriptor = None
said_by (s ∷ ss) name descriptor = if same_signature s.signature name descriptor then Some s.value else said_by ss name descriptor

-- the same where there is a list
abbrev pub said_of : Option (List Said) → List ℕ → List ℕ → Option (Option ℕ)
said_of None name descriptor = None
said_of (Some ss) name descriptor = said_by ss name descriptor

-- what a class says, nothing past the end
abbrev pub says : List (List Said) → List ℕ → List ℕ → ClassId → Option (Option ℕ)
says said name descriptor c = said_of (slice_get said c.0) name descriptor

-- what the first class of a line says that says something
abbrev pub nearest : List (List Said) → List ℕ → List ℕ → List ClassId → Option ℕ
nearest said name descriptor [] = None
nearest said name descriptor (c ∷ line) = said_or (says said name descriptor c) (nearest said name descriptor line)
