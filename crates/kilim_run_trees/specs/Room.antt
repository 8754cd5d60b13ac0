-- Room for a tree.
use Rattle.std.specs.Prelude.{◌≡◌, ℕ, ◌≤◌, List, []}
use Rattle.kilim_run_state.specs.declared.value.Object.{Object}

-- its root, and the number of its objects
pub record RoomFor : Type 0 where
  pub root : ℕ
  pub count : ℕ

pub record HasRoom (count : ℕ) (objects : List Object) (objects_room : ℕ) (stack : List ℕ) (stack_room : ℕ) : Type 0 where
  pub no_objects : objects ≡ []
  pub objects_fit : count ≤ objects_room
  pub no_stack : stack ≡ []
  pub stack_fits : count ≤ stack_room
