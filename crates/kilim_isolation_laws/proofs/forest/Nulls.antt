-- Stores of null, the array's `take`, and the canonical form, for all frames.
use Rattle.std.proofs.Common.{◌≡◌, ℕ, Bool, true, false, true≢false, Option, Some, None, List, [], ◌∷◌, refl, ap, sym, subst, ◌∙◌, ◌⊎◌, inl, inr}
use Rattle.kilim_isolation_laws.specs.forest.Heap.{Heap, Below, Here, Then, IsUnder, IsForest, IsSet_at}
use Rattle.kilim_isolation_laws.specs.forest.Relation.{Standing, Root, Inner, is_gone, is_safe, Label, Node, Named, Names, Owns, Relates, Respects, RespectsAll, Frames}
use Rattle.kilim_isolation_laws.specs.forest.Steps.{IsTidy}
use Rattle.kilim_isolation_laws.proofs.forest.Paths.{some_is, one_step, below_of, under_below}
use Rattle.kilim_isolation_laws.proofs.forest.Forests.{cut_forest, cut_top, cut_path}
use Rattle.kilim_isolation_laws.proofs.forest.Frames.{respects_from, respects_kept, respects_each, lower_kept, cut_lower, cut_way, ComesFrom}
use Rattle.kilim_isolation_laws.proofs.forest.Cut.{IsPart, IsRest, IsCut_graph}
use Rattle.kilim_isolation_laws.proofs.forest.Store.{cut_named, store_cut, cut_graph, has_some, some_or}
use Rattle.kilim_isolation_laws.proofs.forest.Moves.{set_named, root_keeps, AllBelow}
use Rattle.kilim_isolation_laws.proofs.forest.View.{IsView, view_relates, respects_view}
use Rattle.kilim_isolation_laws.proofs.forest.Rest.{null_named, null_view, null_relates, outside}
use Rattle.kilim_isolation_laws.proofs.forest.Canon.{old, canonical_named, canonical_view, canonical_relates, is_node}

module _ (IsPlace : ℕ → Label → Type 0) (h h' : Heap) (u : Named) (ls : List Named) (forest : IsForest h) (fs : Frames IsPlace h (u ∷ ls)) (tidy : IsTidy u.node)
    (na a f fuel new : ℕ) (l : Label) (c : Option ℕ) (owns : Owns u na a)
    (fresh : (n : ℕ) → is_gone (u.node n).standing ≡ false → (u.node n).region ≡ new → ⊥)
    (child : (root : ℕ) → c ≡ Some root → ((u.node root).parent ≡ Some (na, l)) × ((place : ℕ) → IsPlace place l → place ≡ f))
    (s : IsSet_at h h' a f None) where
  abbrev pub emptied_named : Named
  emptied_named = cut_named IsPlace h h' u forest fs.0 tidy na a f fuel new l c (owns.0, owns.2) fresh child s

  pub graph : IsCut_graph h u emptied_named a f (has_some c) new (some_or c)
  graph = cut_graph IsPlace h h' u forest fs.0 tidy na a f fuel new l c (owns.0, owns.2) fresh child s c refl

  -- a place is emptied: a store of null
  pub empty_keeps : IsForest h' × Frames IsPlace h' (emptied_named ∷ ls)
  empty_keeps = (
    cut_forest h h' a f forest s,
    (
      store_cut IsPlace h h' u forest fs.0 tidy na a f fuel new l c (owns.0, owns.2) fresh child s,
      respects_each h h' u emptied_named (λ lo rs. respects_kept h h' emptied_named lo (cut_way IsPlace h h' a f forest u lo na owns rs s) (respects_from h u emptied_named lo (from lo) rs)) ls fs.1,
      lower_kept IsPlace h h' u (λ lo rs r. cut_lower IsPlace h h' a f forest u lo na owns rs s r) (λ lo rs. cut_way IsPlace h h' a f forest u lo na owns rs s) ls fs.1 fs.2,
    ),
  )
    where
      from : (lo : Named) (n o : ℕ) → Owns emptied_named n o → ComesFrom h u emptied_named lo n o
      from lo n o w = elim (graph.kinds n w.0) [
        | inl part ↦ inl (inr (
          na,
          a,
          owns,
          (elim part.below [
            | inl e ↦ one_step h a f o (sym part.cut ∙ ap u.at (sym e) ∙ w.2)
            | inr under ↦ under_below h a (under o w.2).0 o (one_step h a f (under o w.2).0 (under o w.2).1) (below_of h (under o w.2).0 o (under o w.2).2)
          ]),
        ))
        | inr rest ↦ inl (inl (n, (graph.lives n w.0, rest.safe w.1, w.2), rest.standing))
      ]

  -- `take` of an array: what was there is a root
  pub take_from_keeps : c ≡ None → (x k other : ℕ) → h.to a f ≡ Some x → IsTidy emptied_named.node → is_gone (emptied_named.node k).standing ≡ true →
      ((n : ℕ) → is_gone (emptied_named.node n).standing ≡ false → (emptied_named.node n).region ≡ other → ⊥) →
      Frames IsPlace h' (set_named emptied_named k (record { region = other; standing = Root; head = true; parent = None }) (Some x) ∷ ls)
  take_from_keeps no_child x k other was tidy1 free unused = root_keeps IsPlace h' emptied_named ls (cut_forest h h' a f forest s) empty_keeps.1 tidy1 k other (Some x) free unused
      (λ o e. s.same o ∙ ap h.has (sym (some_is x o e)) ∙ (forest.there a f x was).1)
      (λ o p i e edge. cut_top h h' a f forest s x was p i (edge ∙ sym e))
      (λ o n y e w down. elim (graph.kinds n w.0) [
        | inl part ↦ true≢false (sym part.some_part ∙ ap has_some no_child)
        | inr rest ↦ rest.outside y w.1 (under_y o y e down)
      ])
      (lower ls fs.1)
    where
      under_y : (o y : ℕ) → Some x ≡ Some o → Below h' o y → IsUnder h a y
      under_y o y e down = under_below h a x y (one_step h a f x was) (cut_path h h' a f forest s x y (subst (λ z. Below h' z y) (sym (some_is x o e)) down))

      lower : (los : List Named) → RespectsAll h u los → AllBelow h' (Some x) los
      lower [] rs = tt
      lower (lo ∷ los) rs = ((λ o m y e w down. rs.0.strictly na a m y owns w (under_y o y e down)), lower los rs.1)

-- a root that stands for null is stored: after the place was emptied
pub null_keeps : (IsPlace : ℕ → Label → Type 0) (h : Heap) (u : Named) (ls : List Named) (fs : Frames IsPlace h (u ∷ ls)) (na nb a f : ℕ) (l : Label) (names_a : Names u na a)
    (root : (u.node nb).standing ≡ Root) (null : u.at nb ≡ None) (head_b : (u.node nb).head ≡ true) (empty : h.to a f ≡ None) (place : IsPlace f l) →
    Frames IsPlace h (null_named IsPlace h u fs.0 na nb a f l names_a (ap is_gone root) null head_b empty place ∷ ls)
null_keeps IsPlace h u ls fs na nb a f l names_a root null head_b empty place = (
  null_relates IsPlace h u fs.0 na nb a f l names_a (ap is_gone root) null head_b empty place,
  respects_each h h u (null_named IsPlace h u fs.0 na nb a f l names_a (ap is_gone root) null head_b empty place)
      (λ lo rs. respects_view IsPlace h u (null_named IsPlace h u fs.0 na nb a f l names_a (ap is_gone root) null head_b empty place) lo (λ n. n)
      (null_view IsPlace h u fs.0 na nb a f l names_a (ap is_gone root) null head_b empty place) (λ n o w. ap (λ z. is_safe z.standing) (sym (outside IsPlace h u fs.0 na nb a f l names_a (ap is_gone root) null head_b empty place n o (w.0, w.2))) ∙ w.1) rs) ls fs.1,
  fs.2,
)

-- the canonical form of the top frame
pub canonical_keeps : (IsPlace : ℕ → Label → Type 0) (h : Heap) (nodes : List Node) (at : ℕ → Option ℕ) (slots : List ℕ) (ls : List Named) →
    Frames IsPlace h (old IsPlace h nodes at slots ∷ ls) → Frames IsPlace h (canonical_named IsPlace h nodes at slots ∷ ls)
canonical_keeps IsPlace h nodes at slots ls fs = (
  canonical_relates IsPlace h nodes at slots fs.0,
  respects_each h h (old IsPlace h nodes at slots) (canonical_named IsPlace h nodes at slots)
      (λ lo rs. respects_view IsPlace h (old IsPlace h nodes at slots) (canonical_named IsPlace h nodes at slots) lo _ (canonical_view IsPlace h nodes at slots) (λ n o w. ap (λ z. is_safe z.standing) (sym (is_node IsPlace h nodes at slots n w.0).1) ∙ w.1) rs) ls fs.1,
  fs.2,
)
