-- The bodies with which tasks begin.
use Rattle.std.specs.Prelude.{◌≡◌, ℕ, List, [], ◌∷◌, Some, None, is_some, not}
use Rattle.std.specs.FinMap.{empty, insert}
use Rattle.kilim_program.specs.Program.{Program}
use Rattle.kilim_program.specs.declared.names.ClassId.{ClassId}
use Rattle.kilim_program.specs.declared.value.Value.TheVariants.{Ref, Fiber}
use Rattle.kilim_run_state.specs.declared.value.Object.{Object}
use Rattle.kilim_program.specs.Members.{constructor_of}
use Rattle.kilim_run_state.specs.Objects.{new_object}
use Rattle.kilim_run_trees.specs.Moved.{PutIn}
use Rattle.kilim_fiber_spec.specs.Fibers.{executes_on, new_fiber}
use Rattle.kilim_fiber_laws.specs.woven_kin.Nexts.{begun_with}
use Rattle.kilim_fiber_body.specs.Body.{calls_in, RoomyIn}
use Rattle.kilim_fiber_body.specs.declared.body.Body.{Body}

-- nothing is counted yet, and no frame is in a record; where there is no frame, its `execute` is built in
pub record IsFresh (W : Program) (b : Body) : Type 0 where
  pub roomy : RoomyIn W b.frames
  pub records : b.records ≡ new_fiber
  pub count : b.count ≡ 0
  pub boxes : b.boxes ≡ 0
  pub idle : b.idle ≡ not (is_some b.frames)
  pub apart : b.apart ≡ None

-- the body with which a task begins on a tree
pub record BodyBegins (W : Program) (tree : List Object) (b : Body) : Type 0 where
  pub root : ℕ
  pub put : PutIn empty tree b.heap root
  pub frames : begun_with W (executes_on W b.heap (Ref root)) (Ref root ∷ Fiber ∷ []) ≡ Some (calls_in b.frames)
  pub fresh : IsFresh W b
  pub kept : b.kept ≡ None

-- that of task 0
pub record BodyBoots (p W : Program) (main : ClassId) (b : Body) : Type 0 where
  pub root : ℕ
  pub heap : b.heap ≡ insert empty root (new_object p main)
  pub frames : begun_with W (constructor_of W main) (Ref root ∷ []) ≡ Some (calls_in b.frames)
  pub fresh : IsFresh W b
  pub kept : b.kept ≡ Some root
