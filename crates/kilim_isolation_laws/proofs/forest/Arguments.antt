-- The graph after a call.
use Rattle.std.proofs.Common.{◌≡◌, ℕ, zero, suc, Bool, true, false, true≢false, Option, Some, None, List, [], ◌∷◌, Contains, eqb, refl, ap, sym, subst, ◌∙◌, ◌⊎◌, inl, inr, arith}
use Rattle.kilim_isolation_laws.specs.forest.Heap.{Heap, Below, Here, Then, IsUnder, IsForest}
use Rattle.kilim_isolation_laws.specs.forest.Relation.{Standing, Root, Inner, Gone, is_gone, is_safe, Label, Node, Named, Names, IsEdge, Relates, Owns}
use Rattle.kilim_isolation_laws.specs.forest.Steps.{negated, pick, either, climbs, is_left, no_parent, cut_node, gone_node, IsTidy, Argument, Free, Cuttable, after_argument, after_arguments}
use Rattle.kilim_isolation_laws.proofs.forest.Store.{both_ways, either_is, is_same, is_not_same, same_is, no_parent_is, climbs_is, Climbs, Stop, Rise, climb_under}
use Rattle.kilim_isolation_laws.proofs.forest.Paths.{some_is}
use Rattle.kilim_isolation_laws.proofs.forest.Less.{IsLess, less_relates, lives, was}
use Rattle.kilim_isolation_laws.proofs.forest.Moves.{gone_named, gone_less, gone_elsewhere}

abbrev pub with_nodes : Named → (ℕ → Node) → Named
with_nodes u g = record { node = g; at = u.at }

pub less_itself : (u : Named) → IsLess u u
less_itself u = record { at = λ n. refl; standing = λ n e. refl; region = λ n. refl; head = λ n. refl; edges = λ n m l e. e }

pub less_more : (u v w : Named) → IsLess u v → IsLess v w → IsLess u w
less_more u v w s t = record {
  at = λ n. t.at n ∙ s.at n;
  standing = λ n e. t.standing n e ∙ s.standing n (ap is_gone (sym (t.standing n e)) ∙ e);
  region = λ n. t.region n ∙ s.region n;
  head = λ n. t.head n ∙ s.head n;
  edges = λ n m l e. s.edges n m l (t.edges n m l e);
}

pub only_one : (m : Option ℕ) (y x : ℕ) → m ≡ Some y → m ≡ Some x → y ≡ x
only_one m y x e f = some_is y x (sym e ∙ f)

module _ (u : Named) (fuel a : ℕ) where
  abbrev pub below_named : Named
  below_named = record { node = λ n. cut_node u.node fuel a None 0 n; at = u.at }

  pub left_live : (n : ℕ) (b : Bool) → is_left u.node fuel a n ≡ b → is_gone (pick b (u.node n).standing Gone) ≡ false → is_left u.node fuel a n ≡ true
  left_live n true is e = is
  left_live n false is e = absurd (true≢false e)

  pub is_left_of : (n : ℕ) → is_gone (below_named.node n).standing ≡ false → is_left u.node fuel a n ≡ true
  is_left_of n e = left_live n (is_left u.node fuel a n) refl e

  pub below_less : IsLess u below_named
  below_less = record {
    at = λ n. refl;
    standing = λ n e. ap (λ b. pick b (u.node n).standing Gone) (is_left_of n e);
    region = λ n. refl;
    head = λ n. refl;
    edges = λ n m l e. (no_parent_is a (u.node m).parent n l e).0;
  }

-- what each argument leaves behind
abbrev pub IsLeft_behind : Heap → Named → Named → Argument → Type 0
IsLeft_behind h u after (Free k) = (m : ℕ) → is_gone (after.node m).standing ≡ false → (u.node m).region ≡ (u.node k).region → ⊥
IsLeft_behind h u after (Cuttable k) =
    ((o m x : ℕ) → u.at k ≡ Some o → Names after m x → (u.node m).region ≡ (u.node k).region → (m ≡ k) ⊎ (((u.node m).head ≡ true) ⊎ IsUnder h x o)) ×
    ((m : ℕ) (l : Label) → (after.node m).parent ≡ Some (k, l) → ⊥)

abbrev pub AllLeft_behind : Heap → Named → Named → List Argument → Type 0
AllLeft_behind h u after [] = Unit {0}
AllLeft_behind h u after (x ∷ xs) = IsLeft_behind h u after x × AllLeft_behind h u after xs

-- later steps only take away
pub later : (h : Heap) (u v w : Named) (x : Argument) → IsLess v w → IsLeft_behind h u v x → IsLeft_behind h u w x
later h u v w (Free k) t p = λ m e. p m (ap is_gone (sym (t.standing m e)) ∙ e)
later h u v w (Cuttable k) t p = ((λ o m x at wm. p.0 o m x at (ap is_gone (sym (t.standing m wm.0)) ∙ wm.0, sym (t.at m) ∙ wm.1)), (λ m l e. p.1 m l (t.edges k m l e)))

-- what was said of the graph before is said of the first one
pub earlier : (h : Heap) (u v w : Named) (x : Argument) → IsLess u v → IsLeft_behind h v w x → IsLeft_behind h u w x
earlier h u v w (Free k) s p = λ m e same. p m e (s.region m ∙ same ∙ sym (s.region k))
earlier h u v w (Cuttable k) s p = (
  (λ o m x at wm same. elim (p.0 o m x (s.at k ∙ at) wm (s.region m ∙ same ∙ sym (s.region k))) [
    | inl e ↦ inl e
    | inr (inl hd) ↦ inr (inl (sym (s.head m) ∙ hd))
    | inr (inr v1) ↦ inr (inr v1)
  ]),
  p.1,
)

pub all_earlier : (h : Heap) (u v w : Named) (xs : List Argument) → IsLess u v → AllLeft_behind h v w xs → AllLeft_behind h u w xs
all_earlier h u v w [] s p = tt
all_earlier h u v w (x ∷ xs) s p = (earlier h u v w x s p.0, all_earlier h u v w xs s p.1)

-- known parents lead to nodes of the tidy graph in any graph with fewer edges
pub fewer_climbs : (u v : Named) → IsLess u v → (k n : ℕ) → Climbs v.node k n → Climbs u.node k n
fewer_climbs u v s k n (Stop e) = Stop e
fewer_climbs u v s k n (Rise {n = z} m l e c) = Rise m l (s.edges m z l e) (fewer_climbs u v s k m c)

module _ (IsPlace : ℕ → Label → Type 0) (h : Heap) (first : Named) (forest : IsForest h) (r : Relates IsPlace h first) (tidy : IsTidy first.node) (fuel : ℕ) where
  -- one argument, in a graph that is less than the first one
  pub step_behind : (u : Named) → IsLess first u → (x : Argument) → IsLess u (with_nodes u (after_argument fuel u.node x)) × IsLeft_behind h u (with_nodes u (after_argument fuel u.node x)) x
  step_behind u s (Free k) = (gone_less u k, λ m e. gone_elsewhere u k m e)
  step_behind u s (Cuttable k) = (below_less u fuel k, ((λ o m x at wm same. by_left o m x at wm same), (λ m l e. (no_parent_is k (u.node m).parent k l e).1 refl)))
    where
      by_left : (o m x : ℕ) → u.at k ≡ Some o → Names (below_named u fuel k) m x → (u.node m).region ≡ (u.node k).region → (m ≡ k) ⊎ (((u.node m).head ≡ true) ⊎ IsUnder h x o)
      by_left o m x at wm same = elim (either_is (climbs u.node fuel k m) (either (u.node m).head (negated (eqb (u.node m).region (u.node k).region))) (is_left_of u fuel k m wm.0)) [
        | inl up ↦ climbed o m x k at wm (fewer_climbs first u s m k (climbs_is u.node fuel k m up))
        | inr rest ↦ elim (either_is (u.node m).head (negated (eqb (u.node m).region (u.node k).region)) rest) [
          | inl hd ↦ inr (inl hd)
          | inr other ↦ absurd (elsewhere (eqb (u.node m).region (u.node k).region) refl other)
        ]
      ]
        where
          climbed : (o m x n : ℕ) → u.at n ≡ Some o → Names (below_named u fuel k) m x → Climbs first.node m n → (m ≡ n) ⊎ (((u.node m).head ≡ true) ⊎ IsUnder h x o)
          climbed o m x n at wm (Stop e) = inl (sym e)
          climbed o m x n at wm (Rise {n = z} j l e c) =
              elim (climb_under IsPlace h first forest r tidy m z o (Rise j l e c) ((tidy.live j z l e).1, sym (s.at z) ∙ at)) [
                | inl is ↦ inl (sym is)
                | inr v ↦ inr (inr (subst (λ q. IsUnder h q o) (object m v.0 x v.1 wm) v.2))
              ]
            where
              object : (m y x : ℕ) → Names first m y → Names (below_named u fuel k) m x → y ≡ x
              object m y x w wm = only_one (first.at m) y x w.1 (sym (s.at m) ∙ wm.1)

          elsewhere : (b : Bool) → eqb (u.node m).region (u.node k).region ≡ b → negated b ≡ true → ⊥
          elsewhere true is w = true≢false (sym w)
          elsewhere false is w = is_not_same (u.node m).region (u.node k).region is same

  pub arguments_behind : (u : Named) → IsLess first u → (xs : List Argument) →
      IsLess u (with_nodes u (after_arguments fuel u.node xs)) × AllLeft_behind h u (with_nodes u (after_arguments fuel u.node xs)) xs
  arguments_behind u s [] = (less_itself u, tt)
  arguments_behind u s (x ∷ xs) =
      let one = step_behind u s x in
      let rest = arguments_behind (with_nodes u (after_argument fuel u.node x)) (less_more first u (with_nodes u (after_argument fuel u.node x)) s one.0) xs in (
        less_more u (with_nodes u (after_argument fuel u.node x)) (with_nodes u (after_arguments fuel (after_argument fuel u.node x) xs)) one.0 rest.0,
        (
          later h u (with_nodes u (after_argument fuel u.node x)) (with_nodes u (after_arguments fuel (after_argument fuel u.node x) xs)) x rest.0 one.1,
          all_earlier h u (with_nodes u (after_argument fuel u.node x)) (with_nodes u (after_arguments fuel (after_argument fuel u.node x) xs)) xs one.0 rest.1,
        ),
      )
