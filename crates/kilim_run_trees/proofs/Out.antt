-- A tree has left a heap.
use Rattle.std.proofs.Common.{◌≡◌, ℕ, suc, ◌≤◌, List, [], ◌∷◌, length, refl, sym, ap, ◌∙◌, arith}
use Rattle.kilim_run_state.specs.declared.value.Object.{Object}
use Rattle.kilim_run_state.specs.Machine.{Objects}
use Rattle.kilim_run_state.specs.Shapes.{tree_limit}
use Rattle.kilim_run_trees.specs.Room.{RoomFor}
use Rattle.kilim_run_trees.specs.Walk.{objects, places}
use Rattle.kilim_run_trees.specs.Moved.{CanLeave, TakenOut, IsTreeList, at_places, renamed_all}
use Rattle.kilim_run_trees.specs.Steps.{Collected, Numbered}
use Rattle.kilim_run_trees.proofs.Walks.{one_tree}
use Rattle.kilim_run_trees.proofs.Taking.{objects_length}
use Rattle.kilim_run_trees.proofs.Shaped.{tree_shape}

pub out_long : (heap : Objects) (root : ℕ) (room : RoomFor) (after : Objects) (os : List Object) → CanLeave heap root room → Collected heap root after os → length os ≡ room.count
out_long heap root room after os can c =
    let same : c.entries ≡ can.entries = one_tree heap (root ∷ []) c.entries can.entries c.tree.leads c.tree.are_in can.tree.leads can.tree.are_in in
    omega (arith, ap length c.gathered, objects_length c.entries, ap length same, can.count)

pub small_room : (heap : Objects) (root : ℕ) (room : RoomFor) → CanLeave heap root room → room.count ≤ 65536
unfolding tree_limit
small_room heap root room can = can.small

pub taken_out : (heap : Objects) (root : ℕ) (after : Objects) (os tree : List Object) → Collected heap root after os → Numbered os tree → TakenOut heap root after tree
taken_out heap root after os tree c n =
    let same : renamed_all (at_places (places c.entries)) tree ≡ objects c.entries = n.same root c.entries c.tree.leads (sym c.gathered) ∙ c.gathered in
    record {
      entries = c.entries;
      was = c.tree;
      left = c.left;
      preorder = n.preorder;
      same = same;
      shape = tree_shape heap root tree c.entries n.preorder c.tree same;
    }

renamed_long : (f : ℕ → ℕ) (os : List Object) → length (renamed_all f os) ≡ length os
renamed_long f [] = refl
renamed_long f (o ∷ os) = ap suc (renamed_long f os)

pub tree_list : (heap : Objects) (root : ℕ) (room : RoomFor) (after : Objects) (os tree : List Object) → CanLeave heap root room → Collected heap root after os → Numbered os tree → IsTreeList tree
tree_list heap root room after os tree can c n =
    let same : renamed_all (at_places (places c.entries)) tree ≡ objects c.entries = n.same root c.entries c.tree.leads (sym c.gathered) ∙ c.gathered in
    record { preorder = n.preorder; small = omega (arith, out_long heap root room after os can c, can.small, ap length same, renamed_long (at_places (places c.entries)) tree, ap length c.gathered) }
