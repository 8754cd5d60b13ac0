-- For callers: that all is there below a tree's root, and that a tree for which there is room may leave.
use Rattle.std.proofs.Common.{◌≡◌, ℕ, List, [], ◌∷◌, ◌++◌, Option, Some, sym, ap, subst, ◌∙◌, rules}
use Rattle.std.specs.Prelude.{IsSome}
use Rattle.std.specs.FinMap.{get}
use Rattle.kilim_run_state.specs.declared.value.Object.{Object}
use Rattle.kilim_run_state.specs.Machine.{Objects}
use Rattle.kilim_run_state.specs.Places.{AllDiffer}
use Rattle.kilim_run_trees.specs.Room.{RoomFor}
use Rattle.kilim_run_trees.specs.Walk.{refs, Leads, AreIn, IsTree, AllThere, places}
use Rattle.kilim_run_trees.specs.Moved.{Fits, CanLeave}
use Rattle.kilim_run_trees.proofs.Walks.{one_object, one_tree}

some_is : (o : Option Object) (x : Object) → o ≡ Some x → IsSome o
some_is o x e = subst (λ (o : Option Object). IsSome o) (sym e) (search rules)

there : (heap : Objects) (from : List ℕ) (es fs : List (ℕ × Object)) (n : ℕ) (ns : List ℕ) → Leads from es (n ∷ ns) → AreIn heap es → Leads from fs [] → AreIn heap fs → IsSome (get heap n)
there heap from [] [] n ns h a k b = let e : [] ≡ n ∷ ns = sym k ∙ h in absurd cc
there heap from [] (f ∷ fs) n ns h a k b =
    let first : n ≡ f.0 = (subst (λ from. Leads from (f ∷ fs) []) h k).0 in
    some_is (get heap n) f.1 (ap (λ m. get heap m) first ∙ b.0)
there heap from (e ∷ es) [] n ns h a k b = absurd (subst (λ from. Leads from (e ∷ es) (n ∷ ns)) k h)
there heap [] (e ∷ es) (f ∷ fs) n ns h a k b = absurd h
there heap (m ∷ ms) (e ∷ es) (f ∷ fs) n ns h a k b =
    let same : f.1 ≡ e.1 = one_object heap f.0 e.0 f.1 e.1 (sym k.0 ∙ h.0) b.0 a.0 in
    there heap (refs e.1 ++ ms) es fs n ns h.1 a.1 (subst (λ o. Leads (refs o ++ ms) fs []) same k.1) b.1

-- below the root of a tree all is there
pub all_there : (heap : Objects) (root : ℕ) (entries : List (ℕ × Object)) → IsTree heap root entries → AllThere heap root
all_there heap root entries t es n ns h a = there heap (root ∷ []) es entries n ns h a t.leads t.are_in

-- a tree in which nothing is met twice may leave, where there is room for it
pub can_leave : (heap : Objects) (root : ℕ) (room : RoomFor) (entries : List (ℕ × Object)) → IsTree heap root entries → AllDiffer (places entries) → Fits heap root room → CanLeave heap root room
can_leave heap root room entries t once f = record {
  same_root = f.same_root;
  entries = f.entries;
  tree = f.tree;
  count = f.count;
  once = subst (λ es. AllDiffer (places es)) (one_tree heap (root ∷ []) entries f.entries t.leads t.are_in f.tree.leads f.tree.are_in) once;
  small = f.small;
}
