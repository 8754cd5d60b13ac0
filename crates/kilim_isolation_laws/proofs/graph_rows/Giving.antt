-- A put or a start: the tree leaves the heap.
use Rattle.std.proofs.Common.{◌≡◌, ℕ, ◌+◌, ◌*◌, ◌<◌, true, false, true≢false, List, [], ◌∷◌, map, length, Option, Some, None, refl, sym, ap, subst, ◌∙◌, ◌⊎◌, inl, inr}
use Rattle.std.specs.FinMap.{get}
use Rattle.kilim_program.specs.declared.class.Method.{Method}
use Rattle.kilim_run_state.specs.declared.value.Object.{Object}
use Rattle.kilim_program.specs.declared.value.Value.{Value}
use Rattle.kilim_program.specs.declared.verified.VType.{VType}
use Rattle.kilim_program.specs.Program.{Program}
use Rattle.kilim_run_state.specs.Machine.{Objects}
use Rattle.kilim_run_machine.specs.Does.{element_type}
use Rattle.kilim_type_spec.specs.Step.{Types, peek}
use Rattle.kilim_isolation_laws.specs.forest.Heap.{Below, Here, Then, IsForest, IsWithout}
use Rattle.kilim_isolation_laws.specs.forest.Relation.{Root, is_gone, Node, Named, Names, Frames}
use Rattle.kilim_isolation_laws.specs.forest.Steps.{gone_node}
use Rattle.kilim_isolation_laws.specs.forest.Canonical.{node_at}
use Rattle.kilim_isolation_laws.proofs.forest.Less.{IsLess}
use Rattle.kilim_isolation_laws.proofs.forest.Moves.{put_keeps, gone_less}
use Rattle.kilim_isolation_graph.specs.declared.graph.Graph.{Graph}
use Rattle.kilim_isolation_graph.specs.Graphs.{slot, changed, node_of}
use Rattle.kilim_isolation_graph.specs.Nodes.{listed}
use Rattle.kilim_isolation_laws.specs.graph_rows.Holds.{Sort, Anything, Wide, Word, Own, Tree, sort, object_sort, type_sort, field_sort, Fits, unnamed, named_sort, refers, refers_in, SlotFits, AreSlots, named_by, value_at, Waiting, waiting_named, AllWait, Stands, HeapFits, ObjectFits, MayHold, trees, IsOf, tree_held, held_at, held_by, is_tree_object, is_tree_sort}
use Rattle.kilim_isolation_laws.specs.forest.Laws.{IsPlace}
use Rattle.kilim_isolation_laws.specs.graph_rows.Facts.{IsGivenAway, GivesKeep}
use Rattle.kilim_isolation_laws.specs.graph_rows.Outcome.{Left}
use Rattle.kilim_isolation_laws.proofs.graph_rows.Nodes.{listed_length, listed_live, listed_each, same_frames, same_tidy}
use Rattle.kilim_isolation_laws.proofs.graph_rows.Heaps.{half_odd}
use Rattle.kilim_isolation_laws.proofs.graph_rows.Reading.{tree_to, field_held}
use Rattle.kilim_isolation_laws.proofs.graph_rows.Calling.{less_tidy}

none_some : {A : Type 0} (x : A) → None ≡ Some x → ⊥
none_some x e = cc

pub from_held_at : (p : Program) (x : Option Object) (i y : ℕ) → held_at p x i ≡ Some y → is_tree_object p x ≡ true
from_held_at p None i y e = absurd (none_some y e)
from_held_at p (Some object) i y e = by (object_sort p object.class) e
  where
    by : (s : Sort) → tree_held object s i ≡ Some y → is_tree_sort s ≡ true
    by (Tree d x) f = refl
    by Anything f = absurd (none_some y f)
    by Wide f = absurd (none_some y f)
    by Word f = absurd (none_some y f)
    by Own f = absurd (none_some y f)

tree_of : (s : Sort) → is_tree_sort s ≡ true → s ≡ Own → ⊥
tree_of s e is = true≢false (sym e ∙ ap is_tree_sort is)

module _ (p : Program) (h h' : Objects) (o : ℕ) (w : IsGivenAway p h h' o) (forest : IsForest (trees p h)) (there : (trees p h).has o ≡ true) (top : (q i : ℕ) → (trees p h).to q i ≡ Some o → ⊥) where
  below_has : (x : ℕ) → Below (trees p h) o x → (trees p h).has x ≡ true
  below_has x (Here e) = ap (trees p h).has (sym e) ∙ there
  below_has x (Then q i b e) = (forest.there q i x e).1

  out_has : (x : ℕ) → Below (trees p h) o x → (trees p h').has x ≡ false
  out_has x b = ap (is_tree_object p) (w.out x b)

  pub without : IsWithout (trees p h) (trees p h') o
  without = record {
    out = λ x has b. true≢false (sym has ∙ out_has x b);
    rest = λ x has. elim (w.rest x) [ inl b ↦ inl b | inr e ↦ inr (ap (is_tree_object p) e ∙ has) ];
    from = λ q i x e. from_held_at p (get h' q) i x e;
    same = λ q i has. elim (w.rest q) [ inl b ↦ absurd (true≢false (sym has ∙ out_has q b)) | inr e ↦ ap (λ z. held_at p z i) e ];
  }

  of_stays : (x : ℕ) (s : Sort) → IsOf p h x s → (Below (trees p h) o x → ⊥) → IsOf p h' x s
  of_stays x s f not = elim (w.rest x) [ inl b ↦ absurd (not b) | inr e ↦ (f.0, e ∙ f.1, f.2) ]

  own_outside : (x : ℕ) → IsOf p h x Own → Below (trees p h) o x → ⊥
  own_outside x f b = tree_of (object_sort p f.0.class) (ap (is_tree_object p) (sym f.1) ∙ below_has x b) f.2

  -- a value whose objects stay
  fits_stays : (s : Sort) (v : Value) → Fits p h s v → ((x : ℕ) → refers v ≡ Some x → Below (trees p h) o x → s ≡ Own ⊎ ⊥) → Fits p h' s v
  fits_stays Anything v f out = tt
  fits_stays Wide v f out = f
  fits_stays Word v f out = f
  fits_stays Own v f out = (f.0, λ x e. of_stays x Own (f.1 x e) (own_outside x (f.1 x e)))
  fits_stays (Tree d y) v f out = (f.0, λ x e. of_stays x (Tree d y) (f.1 x e) (λ b. elim (out x e b) [ inl own ↦ tree_own own | inr no_way ↦ no_way ]))
    where
      tree_own : Tree d y ≡ Own → ⊥
      tree_own e = cc

  unnamed_stays : (s : Sort) (v : Value) → Fits p h (unnamed s) v → Fits p h' (unnamed s) v
  unnamed_stays Anything v f = tt
  unnamed_stays Wide v f = f
  unnamed_stays Word v f = f
  unnamed_stays (Tree d y) v f = f
  unnamed_stays Own v f = (f.0, λ x e. of_stays x Own (f.1 x e) (own_outside x (f.1 x e)))

  slot_stays : (u u' : Named) (count count' : ℕ) → ((n : ℕ) → u'.at n ≡ u.at n) → ((n : ℕ) → n < count → n < count') → ((n : ℕ) → is_gone (u'.node n).standing ≡ false → is_gone (u.node n).standing ≡ false) →
      ((n x : ℕ) → Names u' n x → (trees p h').has x ≡ true) → (s : Sort) (x : Option ℕ) (v : Value) → SlotFits p h u count s x v → SlotFits p h' u' count' s x v
  slot_stays u u' count count' at more lives has s None v f = unnamed_stays s v f
  slot_stays u u' count count' at more lives has s (Some n) v f = (
    f.0 ∙ sym (at n),
    more n f.1,
    λ live. fits_stays (named_sort s) v (f.2 (lives n live))
        (λ x e b. absurd (true≢false (sym (has n x (live, at n ∙ sym f.0 ∙ e)) ∙ out_has x b))),
  )

  slots_stay : (m : Method) (u u' : Named) (count count' : ℕ) → ((n : ℕ) → u'.at n ≡ u.at n) → ((n : ℕ) → n < count → n < count') → ((n : ℕ) → is_gone (u'.node n).standing ≡ false → is_gone (u.node n).standing ≡ false) →
      ((n x : ℕ) → Names u' n x → (trees p h').has x ≡ true) → (ts : List VType) (xs : List (Option ℕ)) (vs : List Value) → AreSlots p m h u count ts xs vs → AreSlots p m h' u' count' ts xs vs
  slots_stay m u u' count count' at more lives has [] [] [] s = tt
  slots_stay m u u' count count' at more lives has (t ∷ ts) (x ∷ xs) (v ∷ vs) s = (slot_stays u u' count count' at more lives has (sort p m t) x v s.0, slots_stay m u u' count count' at more lives has ts xs vs s.1)
  slots_stay m u u' count count' at more lives has [] [] (v ∷ vs) s = absurd s
  slots_stay m u u' count count' at more lives has [] (x ∷ xs) vs s = absurd s
  slots_stay m u u' count count' at more lives has (t ∷ ts) [] vs s = absurd s
  slots_stay m u u' count count' at more lives has (t ∷ ts) (x ∷ xs) [] s = absurd s

  -- what an object that stays holds, stays
  held_stays : (q i y : ℕ) → (Below (trees p h) o q → ⊥) → (trees p h).to q i ≡ Some y → Below (trees p h) o y → ⊥
  held_stays q i y not e (Here is) = top q i (e ∙ ap Some (sym is))
  held_stays q i y not e (Then k j b f) = not (subst (Below (trees p h) o) (forest.one y k q j i f e).0 b)

  value_stays : (holder s : Sort) (v : Value) (q i : ℕ) → (Below (trees p h) o q → ⊥) → (is_tree_sort holder ≡ true → refers v ≡ (trees p h).to q i) → Fits p h s v → MayHold holder s → Fits p h' s v
  value_stays (Tree d y) (Tree e z) v q i not held f may = fits_stays (Tree e z) v f (λ x r b. absurd (held_stays q i x not (sym (held refl) ∙ r) b))
  value_stays Anything (Tree e z) v q i not held f may = absurd may
  value_stays Wide (Tree e z) v q i not held f may = absurd may
  value_stays Word (Tree e z) v q i not held f may = absurd may
  value_stays Own (Tree e z) v q i not held f may = absurd may
  value_stays holder Own v q i not held f may = fits_stays Own v f (λ x r b. inl refl)
  value_stays holder Anything v q i not held f may = tt
  value_stays holder Wide v q i not held f may = f
  value_stays holder Word v q i not held f may = f

  pub heap_stays : HeapFits p h → HeapFits p h'
  heap_stays hf q object e = elim (w.rest q) [
    | inl b ↦ absurd (none_some object (sym (w.out q b) ∙ e))
    | inr same ↦ object_stays (sym same ∙ e)
  ]
    where
      not : Below (trees p h) o q → ⊥
      not b = none_some object (sym (w.out q b) ∙ e)

      tree_is : get h q ≡ Some object → is_tree_sort (object_sort p object.class) ≡ true → is_tree_object p (get h q) ≡ true
      tree_is was t = ap (is_tree_object p) was ∙ t

      object_stays : get h q ≡ Some object → ObjectFits p h' object
      object_stays was = record {
        fields = λ f v has. (
          value_stays (object_sort p object.class) (field_sort p f) v q (2 * f.0) not (λ t. field_held p h q object was (tree_is was t) f v has) ((hf q object was).fields f v has).0 ((hf q object was).fields f v has).1,
          ((hf q object was).fields f v has).1,
        );
        elements = λ k v has. (
          value_stays (object_sort p object.class) (type_sort p (element_type object.class)) v q (2 * k + 1) not
              (λ t. sym (tree_to p h q object was (tree_is was t) (2 * k + 1) ∙ ap (held_by object) (half_odd k) ∙ ap refers_in has)) ((hf q object was).elements k v has).0 ((hf q object was).elements k v has).1,
          ((hf q object was).elements k v has).1,
        );
      }

  pub waits_stay : (ws : List Waiting) → AllWait p h ws → Frames IsPlace (trees p h') (map waiting_named ws) → AllWait p h' ws
  waits_stay [] a fs = tt
  waits_stay (x ∷ ws) a fs = (
    record {
      slots = record {
        on_stack = slots_stay x.method (waiting_named x) (waiting_named x) (length x.graph.nodes) (length x.graph.nodes) (λ n. refl) (λ n lt. lt) (λ n live. live) (λ n y named. fs.0.there n y named) x.types.stack x.graph.stack x.stack a.0.slots.on_stack;
        in_locals = λ k. slot_stays (waiting_named x) (waiting_named x) (length x.graph.nodes) (length x.graph.nodes) (λ n. refl) (λ n lt. lt) (λ n live. live) (λ n y named. fs.0.there n y named) (sort p x.method (peek x.types.locals k)) (slot x.graph.locals k) (value_at x.locals k) (a.0.slots.in_locals k);
      };
      tidy = a.0.tidy;
      within = a.0.within;
    },
    waits_stay ws a.1 fs.2,
  )

module _ (p : Program) (m : Method) (f : Types) (g : Graph) (at : ℕ → Option ℕ) (h h' : Objects) (ls st : List Value) (below : List Waiting) (hd : Stands p m f g at h ls st below) (nb o : ℕ)
    (names : Names (named_by g at) nb o) (root : (node_at g.nodes nb).standing ≡ Root) (w : IsGivenAway p h h' o) where
  abbrev node : ℕ → Node
  node n = gone_node (node_of g) nb n

  there : (trees p h).has o ≡ true
  there = hd.holds.frames.0.there nb o names

  top : (q i : ℕ) → (trees p h).to q i ≡ Some o → ⊥
  top q i e = hd.holds.frames.0.whole nb o q i names root e

  kept : IsForest (trees p h') × Frames IsPlace (trees p h') (record { node = λ n. gone_node (node_of g) nb n; at = at } ∷ map waiting_named below)
  kept = put_keeps IsPlace (trees p h) (trees p h') (named_by g at) (map waiting_named below) hd.holds.forest hd.holds.frames nb o names root (without p h h' o w hd.holds.forest there top)

  less : IsLess (named_by g at) (record { node = λ n. gone_node (node_of g) nb n; at = at })
  less = gone_less (named_by g at) nb

  listed_frames : Frames IsPlace (trees p h') (record { node = node_at (listed node (length g.nodes)); at = at } ∷ map waiting_named below)
  listed_frames = same_frames IsPlace (trees p h') (record { node = λ n. gone_node (node_of g) nb n; at = at }) (record { node = node_at (listed node (length g.nodes)); at = at })
      (record { node = λ n live. (listed_live node (length g.nodes) n live).1; at = λ n live. refl }) (map waiting_named below) kept.1

  lives : (n : ℕ) → is_gone (node_at (listed node (length g.nodes)) n).standing ≡ false → is_gone (node_at g.nodes n).standing ≡ false
  lives n live =
      let a = ap (λ z. is_gone z.standing) (sym (listed_live node (length g.nodes) n live).1) ∙ live in
      ap is_gone (sym (less.standing n a)) ∙ a

  more : (n : ℕ) → n < length g.nodes → n < length (listed node (length g.nodes))
  more n lt = subst (λ k. n < k) (sym (listed_length node (length g.nodes))) lt

  -- the tree is given away
  pub given_left : (ts : List VType) (xs : List (Option ℕ)) (rest : List Value) → AreSlots p m h (named_by g at) (length g.nodes) ts xs rest →
      Left p m (record f { stack = ts }) (changed (gone_node (node_of g) nb) (record g { stack = xs })) h' ls rest below
  given_left ts xs rest s = (
    at,
    record {
      heap = heap_stays p h h' o w hd.holds.forest there top hd.holds.heap;
      forest = kept.0;
      frames = listed_frames;
      tidy = same_tidy node (node_at (listed node (length g.nodes))) (listed_each node (length g.nodes)) (less_tidy (named_by g at) (record { node = λ n. gone_node (node_of g) nb n; at = at }) less hd.holds.tidy);
      slots = record {
        on_stack = slots_stay p h h' o w hd.holds.forest there top m (named_by g at) (record { node = node_at (listed node (length g.nodes)); at = at }) (length g.nodes) (length (listed node (length g.nodes))) (λ n. refl) more lives
            (λ n x named. listed_frames.0.there n x named) ts xs rest s;
        in_locals = λ k. slot_stays p h h' o w hd.holds.forest there top (named_by g at) (record { node = node_at (listed node (length g.nodes)); at = at }) (length g.nodes) (length (listed node (length g.nodes))) (λ n. refl) more lives
            (λ n x named. listed_frames.0.there n x named) (sort p m (peek f.locals k)) (slot g.locals k) (value_at ls k) (hd.holds.slots.in_locals k);
      };
      waits = waits_stay p h h' o w hd.holds.forest there top below hd.holds.waits listed_frames.2;
    },
  )

pub gives_keep : GivesKeep
gives_keep p m f g at h h' ls st below hd nb o names root w ts xs rest s = given_left p m f g at h h' ls st below hd nb o names root w ts xs rest s
