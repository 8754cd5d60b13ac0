-- A fiber whose heap has places that are used again does what the woven machine's does.
use Rattle.std.specs.Prelude.{◌≡◌, ◌+◌, ℕ, List, ◌∷◌, Some, length, false}
use Rattle.kilim_program.specs.declared.value.Value.TheVariants.{Ref}
use Rattle.kilim_program.specs.Program.{Program}
use Rattle.kilim_run_state.specs.declared.value.Object.{Object}
use Rattle.kilim_run_state.specs.declared.value.Token.{Token}
use Rattle.kilim_run_state.specs.Machine.{Objects, Activation}
use Rattle.kilim_run_machine.specs.Moves.{push_value}
use Rattle.kilim_run_state.specs.Trees.{Root, built, tree_names, without, with_objects}
use Rattle.kilim_run_model.specs.State.{Setting}
use Rattle.kilim_run_trees.specs.Moved.{TakenOut, PutIn}
use Rattle.kilim_run_interp.specs.Run.{IsFine}
use Rattle.kilim_fiber_spec.specs.fiber_kin.Acts.{IsGiven, IsSound}
use Rattle.kilim_fiber_laws.specs.woven_kin.Standing.{Standing}
use Rattle.kilim_fiber_laws.specs.woven_kin.Nexts.{next_of}
use Rattle.kilim_fiber_laws.specs.woven_kin.Alike.{Like, Giving, NextLike, IsWhole, HasFree, spends_at}

-- What the second fiber does next is what the first one does next.
abbrev pub NextsAlike : Type 0
NextsAlike = (set : Setting) (W : Program) (marks : _) (t : ℕ) (l f : Standing) → Like l f → IsWhole set W marks l → HasFree set W marks t f → NextLike set.program (next_of set W marks t l) (next_of set W marks t f)

-- Where the first one's next instruction isn't stuck and has room for what it leaves on the stack, neither is the second one's, and it has:
-- unless they are spent before it.
abbrev pub FineAlike : Type 0
FineAlike =
    (set : Setting) (W : Program) (marks : _) (l f : Standing) → Like l f → IsWhole set W marks l → ((top : Activation) (below : List Activation) → l.frames ≡ top ∷ below → spends_at set W marks l top ≡ false → IsFine W top below l.heap) →
    (top : Activation) (below : List Activation) → f.frames ≡ top ∷ below → spends_at set W marks f top ≡ false → IsFine W top below f.heap

-- without the tree at a name
abbrev pub tree_left : Program → ℕ → Standing → Standing
tree_left p n l = record l { heap = without l.heap (tree_names p l.heap n) }

-- A tree leaves both heaps, and what is left is alike.
abbrev pub TreesLeave : Type 0
TreesLeave = (p : Program) (root : Root) (n m : ℕ) (shape : List Token) (l f : Standing) → Giving p root n m shape l f → IsGiven p root f.heap m → (after : Objects) (tree : List Object) → TakenOut f.heap m after tree →
    Like (tree_left p n l) (record f { heap = after }) × IsSound p root tree shape

-- with a tree that came, whose root's name is on top of the stack
abbrev pub tree_came : List Object → Standing → Standing
tree_came os l = record l { frames = push_value (Ref l.next) l.frames; heap = with_objects l.heap l.next os; next = l.next + length os }

-- A sound tree comes into both heaps, and they are alike with it.
abbrev pub TreesCome : Type 0
TreesCome = (p : Program) (root : Root) (l f : Standing) (tree : List Object) (shape : List Token) (k : Objects) (x : ℕ) → Like l f → IsSound p root tree shape → PutIn f.heap tree k x →
    (os : List Object) × (built p root l.next shape ≡ Some os) × Like (tree_came os l) (record f { frames = push_value (Ref x) f.frames; heap = k })
