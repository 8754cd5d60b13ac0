-- A tree that a fiber gives away may leave, and it is sound.
use Rattle.std.proofs.Common.{◌≡◌, ◌∙◌, ℕ, ◌≤◌, List, ◌∷◌, [], Some, length, sym, subst}
use Rattle.std.specs.List.{AllByRecursion}
use Rattle.kilim_program.specs.Program.{Program}
use Rattle.kilim_run_state.specs.declared.value.Object.{Object}
use Rattle.kilim_run_state.specs.declared.value.Token.{Token}
use Rattle.kilim_run_state.specs.Machine.{Objects}
use Rattle.kilim_run_state.specs.Shapes.{tree_limit, shape_of}
use Rattle.kilim_run_state.specs.Trees.{Root}
use Rattle.kilim_run_state.specs.Places.{AllDiffer}
use Rattle.kilim_run_trees.specs.Room.{RoomFor}
use Rattle.kilim_run_trees.specs.Walk.{places}
use Rattle.kilim_run_trees.specs.Moved.{Fits, CanLeave, TakenOut}
use Rattle.kilim_run_trees.specs.Shaping.{Suits}
use Rattle.kilim_run_trees.proofs.Walks.{one_tree}
use Rattle.kilim_fiber_spec.specs.fiber_kin.Acts.{IsGiven, IsSound}
use Rattle.kilim_fiber_spec.proofs.fiber_kin.TakenTrees.{taken_suits, taken_sound}

module _ (p : Program) (root : Root) (heap : Objects) (m : ℕ) (given : IsGiven p root heap m) where
  module _ (room : RoomFor) (fits : Fits heap m room) where
    few : length fits.entries ≤ tree_limit
    few = subst (λ (z : ℕ). z ≤ tree_limit) (sym fits.count) fits.small

    -- where there is room for it, it may leave
    pub can_leave : CanLeave heap m room
    can_leave = record { same_root = fits.same_root; entries = fits.entries; tree = fits.tree; count = fits.count; once = given.once fits.entries fits.tree few; small = fits.small }

    -- and then its shape can be told
    pub out_suits : (after : Objects) (tree : List Object) → TakenOut heap m after tree → AllByRecursion (Suits p) tree
    out_suits after tree out =
        let same : fits.entries ≡ out.entries = one_tree heap (m ∷ []) fits.entries out.entries fits.tree.leads fits.tree.are_in out.was.leads out.was.are_in in
        taken_suits p root heap m given after tree out (subst (λ (es : List (ℕ × Object)). AllDiffer (places es)) same (given.once fits.entries fits.tree few))

  -- a tree with a shape is sound
  pub out_sound : (after : Objects) (tree : List Object) → TakenOut heap m after tree → (shape : List Token) → shape_of p heap m ≡ Some shape → IsSound p root tree shape
  out_sound after tree out shape has = (taken_sound p root heap m given after tree out (given.once out.entries out.was (given.small out.entries out.was shape has)) shape (out.shape p ∙ has)).1
