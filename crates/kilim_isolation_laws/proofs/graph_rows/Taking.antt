-- A message is taken: its tree comes into the heap.
use Rattle.std.proofs.Common.{◌≡◌, ℕ, true, true≢false, List, [], ◌∷◌, map, length, Option, Some, None, refl, sym, ap, subst, ◌∙◌, ◌⊎◌, inl, inr}
use Rattle.std.specs.FinMap.{get}
use Rattle.kilim_program.specs.declared.class.Method.{Method}
use Rattle.kilim_run_state.specs.declared.value.Object.{Object}
use Rattle.kilim_program.specs.declared.value.Value.{Value}
use Rattle.kilim_program.specs.declared.value.Value.TheVariants.{Ref}
use Rattle.kilim_program.specs.declared.verified.VType.{VType}
use Rattle.kilim_program.specs.Program.{Program}
use Rattle.kilim_run_state.specs.Machine.{Objects}
use Rattle.kilim_type_spec.specs.Step.{Types, peek}
use Rattle.kilim_isolation_laws.specs.forest.Heap.{Below, Here, Then, IsMore_objects}
use Rattle.kilim_isolation_laws.specs.forest.Relation.{Named, Names, Relates, Frames}
use Rattle.kilim_isolation_laws.proofs.forest.Paths.{some_is}
use Rattle.kilim_isolation_laws.proofs.forest.Moves.{AllBelow}
use Rattle.kilim_isolation_graph.specs.declared.graph.Graph.{Graph}
use Rattle.kilim_isolation_graph.specs.Graphs.{slot, added}
use Rattle.kilim_isolation_rules.specs.Marks.{root_node}
use Rattle.kilim_isolation_laws.specs.graph_rows.Holds.{Tree, sort, Fits, named_sort, named_by, value_at, Waiting, waiting_named, Holds, HeapFits, trees, IsOf, Stuff, is_tree_object, is_tree_sort, held_at}
use Rattle.kilim_isolation_laws.specs.forest.Laws.{IsPlace}
use Rattle.kilim_isolation_laws.specs.graph_rows.Facts.{IsTaken, TakesKeep}
use Rattle.kilim_isolation_laws.specs.graph_rows.Outcome.{Left}
use Rattle.kilim_isolation_laws.proofs.graph_rows.Results.{IsNews, IsWithin, tree_comes}
use Rattle.kilim_isolation_laws.proofs.graph_rows.Heaps.{Grows, object_grows, slot_grows, some_same, more_frames, yes_or_no}
use Rattle.kilim_isolation_laws.proofs.graph_rows.Added.{slots_grow}
use Rattle.kilim_isolation_laws.proofs.graph_rows.Storing.{waits_grow}
use Rattle.kilim_isolation_laws.proofs.graph_rows.Giving.{from_held_at}

none_or_some : (x : Option Object) → (x ≡ None) ⊎ ((object : Object) × (x ≡ Some object))
none_or_some None = inl refl
none_or_some (Some object) = inr (object, refl)

module _ (p : Program) (m : Method) (f : Types) (g : Graph) (at : ℕ → Option ℕ) (h h' : Objects) (ls st : List Value) (below : List Waiting) (hd : Holds p m f g at h ls st below) (within : IsWithin g) (n dims : ℕ) (stuff : Stuff) (w : IsTaken p h h' n dims stuff) where
  not_there : (x : ℕ) → get h x ≡ None → (trees p h).has x ≡ true → ⊥
  not_there x e has = true≢false (sym has ∙ ap (is_tree_object p) e)

  grows : Grows p h h'
  grows o s f = (f.0, w.old o f.0 f.1, f.2)

  same_get : (x : ℕ) → (trees p h).has x ≡ true → get h' x ≡ get h x
  same_get x has = elim (none_or_some (get h x)) [ inl e ↦ absurd (not_there x e has) | inr s ↦ w.old x s.0 s.1 ∙ sym s.1 ]

  more : IsMore_objects (trees p h) (trees p h')
  more = record {
    kinds = λ x. yes_or_no ((trees p h).has x);
    there = λ x has. ap (is_tree_object p) (same_get x has) ∙ has;
    same = λ x i has. ap (λ z. held_at p z i) (same_get x has);
    apart = λ x i y no_tree e has. elim (none_or_some (get h x)) [
      | inl none ↦ not_there y (w.apart x i y none e) has
      | inr s ↦ true≢false (sym (from_held_at p (get h' x) i y e) ∙ ap (is_tree_object p) (w.old x s.0 s.1 ∙ sym s.1) ∙ no_tree)
    ];
  }

  fits' : HeapFits p h → HeapFits p h'
  fits' hf x object e = elim (none_or_some (get h x)) [
    | inl none ↦ w.fits x object none e
    | inr s ↦ object_grows p h h' grows object (hf x object (s.1 ∙ ap Some (some_same s.0 object (sym (w.old x s.0 s.1) ∙ e))))
  ]

  grown : Holds p m f g at h' ls st below
  grown = record {
    heap = fits' hd.heap;
    forest = w.forest;
    frames = more_frames (trees p h) (trees p h') hd.forest more (named_by g at) (map waiting_named below) hd.frames;
    tidy = hd.tidy;
    slots = record {
      on_stack = slots_grow p m h h' grows (named_by g at) (named_by g at) (length g.nodes) (length g.nodes) (λ k lt. refl) (λ k lt. lt) (λ k lt live. live) f.stack g.stack st hd.slots.on_stack;
      in_locals = λ k. slot_grows p h h' grows (named_by g at) (named_by g at) (length g.nodes) (length g.nodes) (λ j lt. refl) (λ j lt. lt) (λ j lt live. live) (sort p m (peek f.locals k)) (slot g.locals k) (value_at ls k) (hd.slots.in_locals k);
    };
    waits = waits_grow p h h' grows below hd.waits;
  }

  -- what is below the new root is new
  new_below : (x : ℕ) → Below (trees p h') n x → get h x ≡ None
  new_below x (Here e) = ap (get h) (sym e) ∙ w.fresh
  new_below x (Then q i b e) = w.apart q i x (new_below q b) e

  outside : (l : Named) → Relates IsPlace (trees p h) l → (o k x : ℕ) → Some n ≡ Some o → Names l k x → Below (trees p h') o x → ⊥
  outside l r o k x e named down = not_there x (new_below x (subst (λ z. Below (trees p h') z x) (sym (some_is n o e)) down)) (r.there k x named)

  lower : (ws : List Named) → Frames IsPlace (trees p h) ws → AllBelow (trees p h') (Some n) ws
  lower [] fs = tt
  lower (l ∷ ws) fs = ((λ o k x e named down. outside l fs.0 o k x e named down), lower ws fs.2)

  news : IsNews p h' (named_by g at) (Some n)
  news = record {
    there = λ o e. ap (λ z. is_tree_object p (get h' z)) (sym (some_is n o e)) ∙ ap (is_tree_object p) w.is.1 ∙ ap is_tree_sort w.is.2;
    top = λ o q i e edge. w.root q i (edge ∙ sym e);
    apart = λ o k x e named down. outside (named_by g at) hd.frames.0 o k x e named down;
  }

  pub taken_left : (t : VType) → sort p m t ≡ Tree dims stuff → Left p m (record f { stack = t ∷ f.stack }) (added (root_node g) g) h' ls (Ref n ∷ st) below
  taken_left t is = tree_comes p m f g at h' ls st below grown within t (Ref n) (subst (λ z. Fits p h' (named_sort z) (Ref n)) (sym is) (refl, λ o e. subst (λ z. IsOf p h' z (Tree dims stuff)) (some_is n o e) w.is))
      news (lower (map waiting_named below) hd.frames.2)

pub takes_keep : TakesKeep
takes_keep p m f g at h h' ls st below hd within n dims stuff w t is = taken_left p m f g at h h' ls st below hd within n dims stuff w t is
