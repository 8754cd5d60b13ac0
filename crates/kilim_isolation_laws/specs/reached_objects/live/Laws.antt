-- Live locals on the paths of accepted methods. Neither a heap nor a machine is spoken of.
use Rattle.std.specs.Prelude.{◌≡◌, ℕ, Bool, true, false, ◌||◌, List, [], ◌∷◌, Some}
use Rattle.kilim_program.specs.declared.class.Method.{Method}
use Rattle.kilim_program.specs.declared.names.MethodId.{MethodId}
use Rattle.kilim_program.specs.declared.verified.Frame.{Frame}
use Rattle.kilim_program.specs.declared.verified.VType.{VType}
use Rattle.kilim_program.specs.Keeps.{Keeps}
use Rattle.kilim_program.specs.Names.{method_at}
use Rattle.kilim_program.specs.Program.{Program}
use Rattle.kilim_type_spec.specs.Step.{Types, peek, is_int, is_long, is_top}
use Rattle.kilim_type_spec.specs.Typed.{Live, WellTypedBy, covers, has_code}
use Rattle.kilim_isolation_paths.specs.Paths.{Has, Reaches}
use Rattle.kilim_isolation_graph.specs.declared.graph.Graph.{Graph}
use Rattle.kilim_isolation_graph.specs.Graphs.{node_of, slot}
use Rattle.kilim_isolation_graph.specs.Nodes.{is_gone}
use Rattle.kilim_isolation.specs.Laws.{GoesOn}
use Rattle.kilim_isolation.specs.Walks.{machine_of, types_at}
use Rattle.kilim_isolation_rules.specs.Rules.{raised_deed}
use Rattle.kilim_program.specs.Lengths.{fetched}
use Rattle.kilim_program.specs.declared.class.Handler.{Handler}
use Rattle.kilim_program.specs.declared.instr.Instr.{Instr}

abbrev pub is_number : VType → Bool
is_number t = is_int t || is_long t

-- A method of the program, with code, that is well typed by the frames at its places and whose graphs go on along every path. The
-- frames over which the rules walk are given apart: in a typed program they are the listed ones.
pub record IsAcceptedBy (p : Program) (id : MethodId) (m : Method) (typing : ℕ → Types) (fs : List Frame) : Type 0 where
  pub keeps : Keeps p
  pub is : method_at p id ≡ Some m
  pub coded : has_code m ≡ true
  pub well : WellTypedBy p m typing
  pub goes : GoesOn p m fs

-- ---- live locals

-- a local has a type, and what it names wasn't given away and can't have moved
pub record IsThere (typing : ℕ → Types) (k at : ℕ) (g : Graph) : Type 0 where
  pub typed : is_top (peek (typing at).locals k) ≡ false
  pub lives : (n : ℕ) → slot g.locals k ≡ Some n → is_gone (node_of g n).standing ≡ false

-- A local that is live at a place, as some instruction reads it before it is written, is there in each graph that a path leads to
-- that place.
abbrev pub LiveIsThere : Type 0
LiveIsThere = (p : Program) (id : MethodId) (m : Method) (typing : ℕ → Types) (fs : List Frame) (a : IsAcceptedBy p id m typing fs) (k at : ℕ) → Live m k at → (g : Graph) → Reaches (machine_of p m fs a.goes.first) at g → IsThere typing k at g

-- a local that names a node is typed neither int nor long
abbrev pub NamedIsNoNumber : Type 0
NamedIsNoNumber = (p : Program) (id : MethodId) (m : Method) (typing : ℕ → Types) (fs : List Frame) (a : IsAcceptedBy p id m typing fs) (at : ℕ) (g : Graph) → Reaches (machine_of p m fs a.goes.first) at g → (k n : ℕ) → slot g.locals k ≡ Some n → is_number (peek (typing at).locals k) ≡ false

-- A local that is live at a handler whose range has an instruction: it has a type before the instruction, and what it names isn't gone
-- when the instruction raises. So it is with the call of a frame that waits.
pub record IsThereBelow (p : Program) (m : Method) (typing : ℕ → Types) (fs : List Frame) (k at : ℕ) (i : Instr) (g : Graph) : Type 0 where
  pub typed : is_top (peek (typing at).locals k) ≡ false
  pub lives : (n : ℕ) → slot (raised_deed p g (types_at m fs at) i).graph.locals k ≡ Some n → is_gone (node_of (raised_deed p g (types_at m fs at) i).graph n).standing ≡ false

abbrev pub LiveBelowIsThere : Type 0
LiveBelowIsThere = (p : Program) (id : MethodId) (m : Method) (typing : ℕ → Types) (fs : List Frame) (a : IsAcceptedBy p id m typing fs) (at to : ℕ) (i : Instr) → fetched m.code m.code_length at ≡ Some (i, to) → (h : Handler) → Has m.handlers h → covers h at ≡ true → (k : ℕ) → Live m k h.at → (g : Graph) → Reaches (machine_of p m fs a.goes.first) at g → IsThereBelow p m typing fs k at i g
