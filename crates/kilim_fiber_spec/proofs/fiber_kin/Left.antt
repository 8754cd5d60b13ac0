-- A tree that leaves the thread's heap and the fiber's.
use Rattle.std.proofs.Common.{◌≡◌, ℕ, List, [], ◌∷◌, Some, refl, sym, ap, subst, ◌∙◌, inl, inr}
use Rattle.std.specs.FinMap.{get, remove}
use Rattle.std.proofs.lemmas.Bool.Decides.{eqb_tells}
use Rattle.std.proofs.lemmas.Option.{none-some}
use Rattle.kilim_lemmas.proofs.Maps.{out_there, out_other}
use Rattle.kilim_program.specs.Program.{Program}
use Rattle.kilim_run_state.specs.declared.value.Object.{Object}
use Rattle.kilim_run_state.specs.declared.value.Token.{Token}
use Rattle.kilim_run_state.specs.Machine.{Objects}
use Rattle.kilim_run_state.specs.Shapes.{shape_of}
use Rattle.kilim_run_state.specs.Trees.{Root, tree_names, without}
use Rattle.kilim_run_model.specs.Kept.{IsIn}
use Rattle.kilim_run_model.specs.Lone.{Lone}
use Rattle.kilim_run_model.specs.Course.{tree_left}
use Rattle.kilim_run_model.specs.kin.Kin.{Names, Alike}
use Rattle.kilim_run_model.proofs.kin.trees.Shaped.{shape_kin}
use Rattle.kilim_run_model.proofs.one_heap.Given.{Named, AreThere, there_in, named_in}
use Rattle.kilim_run_trees.specs.Walk.{places}
use Rattle.kilim_run_trees.specs.Moved as moved
use Rattle.kilim_run_trees.specs.Moved.{TakenOut}
use Rattle.kilim_run_trees.proofs.Named.{names_are_places}
use Rattle.kilim_fiber_spec.specs.fiber_kin.Mine.{all_mine}
use Rattle.kilim_fiber_spec.specs.fiber_kin.Held.{Like}
use Rattle.kilim_fiber_spec.specs.fiber_kin.Acts.{Giving, IsGiven}
use Rattle.kilim_fiber_spec.proofs.fiber_kin.Trees.{tree_named, tree_there}

-- ---- heaps without some places

kept_without : (h : Objects) (ns : List ℕ) (n : ℕ) (o : Object) → get (without h ns) n ≡ Some o → (IsIn n ns → ⊥) × (get h n ≡ Some o)
kept_without h [] n o e = (λ i. i, e)
kept_without h (m ∷ ns) n o e = elim (eqb_tells n m) [
  | inl t ↦ absurd (none-some o (sym (ap (get (remove (without h ns) m)) t.1 ∙ out_there (without h ns) m) ∙ e))
  | inr t ↦
      let below = kept_without h ns n o (sym (out_other (without h ns) m n t.1) ∙ e) in
      (λ i. elim i [ inl z ↦ t.1 z | inr z ↦ below.0 z ], below.1)
]

pub left_other : (k : Objects) (xs : List ℕ) (x : ℕ) → (IsIn x xs → ⊥) → get (moved.without k xs) x ≡ get k x
left_other k [] x out = refl
left_other k (y ∷ xs) x out = left_other (remove k y) xs x (λ i. out (inr i)) ∙ out_other k y x (λ e. out (inl e))

module _ (of : Names) (h k : Objects) (a : Alike of all_mine 0 k h k) (ns xs : List ℕ) (there : AreThere h ns) (named : Named of ns xs) where
  alike_left : Alike of all_mine 0 (moved.without k xs) (without h ns) (moved.without k xs)
  alike_left = record {
    same = λ n o e.
        let out = kept_without h ns n o e in
        let s = a.same n o out.1 in
        let away : IsIn s.0 xs → ⊥ = λ i.
        let m = named_in of ns xs s.0 named i in
        let q = there_in h ns m.0 there m.1 in
        out.0 (subst (λ (z : ℕ). IsIn z ns) (a.apart m.0 n s.0 q.0 o m.2 s.2 q.1 out.1) m.1) in
        (s.0, s.1, s.2, left_other k xs s.0 away ∙ s.3, s.4, refl);
    apart = λ n m x o q c d f g. a.apart n m x o q c d (kept_without h ns n o f).1 (kept_without h ns m q g).1;
    rest = λ x. inl refl;
  }

-- ---- the tree

pub left_like : (p : Program) (root : Root) (n m : ℕ) (shape : List Token) (l f : Lone) → Giving p root n m shape l f → IsGiven p root f.heap m → (after : Objects) (tree : List Object) → TakenOut f.heap m after tree →
    Like (tree_left p n l) (record f { heap = after })
left_like p root n m shape l f g given after tree w =
    let ns = tree_names p l.heap n in
    let xs = places w.entries in
    let has : shape_of p f.heap m ≡ Some shape = sym (shape_kin p g.of all_mine 0 f.heap l.heap f.heap g.is.heaps n m g.named g.whole.intact) ∙ g.has in
    let at : tree_names p f.heap m ≡ xs = names_are_places p f.heap m w.entries w.was (given.suits w.entries w.was) (given.small w.entries w.was shape has) in
    let named : Named g.of ns xs = subst (Named g.of ns) at (tree_named p g.of l.heap f.heap g.is.heaps n m g.named g.whole.intact) in
    let alike = alike_left g.of l.heap f.heap g.is.heaps ns xs (tree_there p g.of l.heap f.heap g.is.heaps root n shape g.whole g.has) named in
    record {
      of = g.of;
      is = record {
        threads = g.is.threads;
        heaps = subst (λ (z : Objects). Alike g.of all_mine 0 z (without l.heap ns) z) (sym w.left) alike;
        kept = g.is.kept;
        below = g.is.below;
      };
    }
