-- What a body is answered.
use Rattle.std.specs.Prelude.{◌≡◌, ℕ, List, Some}
use Rattle.kilim_program.specs.declared.value.Value.TheVariants.{Ref}
use Rattle.kilim_program.specs.Program.{Program}
use Rattle.kilim_run_state.specs.declared.value.Object.{Object}
use Rattle.kilim_run_state.specs.declared.value.Token.{Token}
use Rattle.kilim_run_state.specs.Shapes.{shape_of}
use Rattle.kilim_run_trees.specs.Moved.{PutIn, tree_heap}
use Rattle.kilim_fiber_laws.specs.woven_kin.Nexts.{counted, taken_at, with_result}
use Rattle.kilim_fiber_body.specs.Body.{behind_at, standing_at, RoomyIn}
use Rattle.kilim_fiber_body.specs.declared.body.Body.{Body}

-- a tree of that shape came into the heap, its root at that place, and nothing else is touched
pub record Received (p : Program) (old new : Body) (tree : List Object) (shape : List Token) (root : ℕ) : Type 0 where
  pub has : shape_of p (tree_heap tree) 0 ≡ Some shape
  pub put : PutIn old.heap tree new.heap root
  pub same : new ≡ record old { heap = new.heap }

-- the frames go on behind the `get` that took it
pub record HasTaken (p W : Program) (old new : Body) (tree : List Object) (shape : List Token) : Type 0 where
  pub mid : Body
  pub root : ℕ
  pub received : Received p old mid tree shape root
  pub stands : standing_at 0 new ≡ with_result (Some (Ref root)) (taken_at (behind_at 0 mid))
  pub roomy : RoomyIn W new.frames

-- and behind the `getnb` that found it
pub record HasFound (p W : Program) (old new : Body) (tree : List Object) (shape : List Token) : Type 0 where
  pub mid : Body
  pub root : ℕ
  pub received : Received p old mid tree shape root
  pub stands : standing_at 0 new ≡ with_result (Some (Ref root)) (counted (behind_at 0 mid))
  pub roomy : RoomyIn W new.frames
