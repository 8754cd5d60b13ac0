-- The argument that a built-in method is given.
use Rattle.std.proofs.Common.{if◌then◌else◌, ◌≡◌, ℕ, Bool, true, false, true≢false, ◌&&◌, List, [], ◌∷◌, Option, Some, None, refl, sym, ap, subst, ◌∙◌, inl, inr}
use Rattle.std.specs.List.{list_any}
use Rattle.kilim_program.specs.declared.ty.Kind.{Kind}
use Rattle.kilim_program.specs.declared.ty.Kind.TheVariants as kind
use Rattle.kilim_program.specs.declared.ty.Qualifier.{Qualifier}
use Rattle.kilim_program.specs.declared.ty.Qualifier.TheVariants as qualifier
use Rattle.kilim_program.specs.declared.value.Value.{Value}
use Rattle.kilim_program.specs.Program.{Program}
use Rattle.kilim_program.specs.Kinds.{is_tree_kind, kind_of}
use Rattle.kilim_run_state.specs.Machine.{Objects}
use Rattle.kilim_isolation_laws.specs.forest.Canonical.{node_at}
use Rattle.kilim_isolation_laws.specs.forest.Relation.{Named, Names, Root}
use Rattle.kilim_isolation_graph.specs.declared.entry.Parameter.{Parameter}
use Rattle.kilim_isolation_graph.specs.declared.graph.Graph.{Graph}
use Rattle.kilim_isolation_graph.specs.Nodes.{is_root}
use Rattle.kilim_isolation_rules.specs.declared.deed.Passed.{Passed}
use Rattle.kilim_isolation_rules.specs.Calls.{arguments, is_free, is_not_free, is_owned, more_arguments, quality_in}
use Rattle.kilim_isolation_rules.specs.Marks.{names_no_root}
use Rattle.kilim_isolation_rules.specs.Steps.{Argument, Free}
use Rattle.kilim_isolation_laws.specs.graph_rows.Holds.{Fits, SlotFits, Tree, named_by, type_sort, unnamed}
use Rattle.kilim_isolation_laws.specs.graph_rows.Outcome.{ArgsFit, NoneFree}
use Rattle.kilim_isolation_laws.proofs.graph_rows.Fields.{tree_sort}
use Rattle.kilim_isolation_laws.proofs.graph_rows.Putting.{not_false, root_is}
use Rattle.kilim_isolation_laws.proofs.graph_rows.Settle.{or_left, or_right}
use Rattle.kilim_isolation_laws.specs.reached_objects.graphs.Threads.{Gives, NoneOwned}

no_argument : (q : Option Qualifier) (x : Option ℕ) (xs : List Argument) → is_owned q ≡ false → more_arguments q x xs ≡ xs
no_argument None x xs e = refl
no_argument (Some qualifier.Safe) x xs e = refl
no_argument (Some qualifier.Free) x xs e = absurd (true≢false e)
no_argument (Some qualifier.Cuttable) x xs e = absurd (true≢false e)

module _ (p : Program) (h : Objects) (u : Named) (count : ℕ) (g : Graph) (at : ℕ → Option ℕ) (named : u ≡ named_by g at) where
  none_given : (args : List Passed) (vs : List Value) (qs : List Parameter) → ArgsFit p h u count args vs qs → NoneOwned p qs → arguments p args ≡ []
  none_given [] [] [] f n = refl
  none_given (a ∷ args) (v ∷ vs) (q ∷ qs) f n = no_argument (quality_in p a) a.name (arguments p args) (ap is_owned (sym f.2) ∙ n.0) ∙ none_given args vs qs f.3 n.1
  none_given [] [] (q ∷ qs) f n = absurd f
  none_given [] (v ∷ vs) qs f n = absurd f
  none_given (a ∷ args) [] qs f n = absurd f
  none_given (a ∷ args) (v ∷ vs) [] f n = absurd f

  tree_kind : (b : Bool) (q : Qualifier) → (if◌then◌else◌ {A = Option Qualifier} b (Some q) None) ≡ Some qualifier.Free → b ≡ true
  tree_kind true q e = refl
  tree_kind false q e = absurd (cc)

  kind_is : (k : Kind) → is_tree_kind k ≡ true → k ≡ kind.Tree
  kind_is kind.Tree e = refl
  kind_is kind.Value e = absurd (true≢false (sym e))
  kind_is kind.Private e = absurd (true≢false (sym e))

  pub gives_name : (args : List Passed) (vs : List Value) (qs : List Parameter) → ArgsFit p h u count args vs qs → list_any (is_not_free p g) args ≡ false → (o : ℕ) → Gives p qs vs o →
      (nb : ℕ) × (arguments p args ≡ Free nb ∷ []) × Names u nb o × ((node_at g.nodes nb).standing ≡ Root)
  gives_name (a ∷ args) (v ∷ vs) (q ∷ qs) f free o (inr w) =
      let rest = gives_name args vs qs f.3 (or_right (is_not_free p g a) _ free) o w.1 in
      (rest.0, no_argument (quality_in p a) a.name (arguments p args) (ap is_owned (sym f.2) ∙ w.0) ∙ rest.1, rest.2, rest.3)
  gives_name (a ∷ args) (v ∷ vs) (q ∷ qs) f free o (inl w) = by a.name refl f.0
    where
      tree : kind_of p q.ty ≡ kind.Tree
      tree = kind_is (kind_of p q.ty) (tree_kind (is_tree_kind (kind_of p q.ty)) q.qualifier w.0)

      sort_is : (d : ℕ) × (s : Rattle.kilim_isolation_laws.specs.graph_rows.Holds.Stuff) × (type_sort p q.ty ≡ Tree d s)
      sort_is = tree_sort p q.ty tree

      by : (x : Option ℕ) → a.name ≡ x → SlotFits p h u count (type_sort p q.ty) a.name v → (nb : ℕ) × (arguments p (a ∷ args) ≡ Free nb ∷ []) × Names u nb o × ((node_at g.nodes nb).standing ≡ Root)
      by None e s = absurd (none_some (sym (subst (λ z. Fits p h (unnamed z) v) sort_is.2 (subst (λ z. SlotFits p h u count (type_sort p q.ty) z v) e s)).1 ∙ w.1))
        where
          none_some : None ≡ Some o → ⊥
          none_some z = cc
      by (Some nb) e s = (
        nb,
        ap (λ z. more_arguments z a.name (arguments p args)) (sym f.2 ∙ w.0) ∙ ap (λ z. more_arguments (Some qualifier.Free) z (arguments p args)) e ∙ ap (λ z. Free nb ∷ z) (none_given args vs qs f.3 w.2),
        (f.1 nb e, sym (subst (λ z. SlotFits p h u count (type_sort p q.ty) z v) e s).0 ∙ w.1),
        root_is (node_at g.nodes nb).standing (not_false (is_root (node_at g.nodes nb).standing)
            (ap (λ z. is_free z && names_no_root g (Some nb)) (sym (sym f.2 ∙ w.0)) ∙ ap (λ z. is_free (quality_in p a) && names_no_root g z) (sym e) ∙ or_left (is_not_free p g a) _ free)),
      )
  gives_name args vs [] f free o w = absurd w
  gives_name args [] (q ∷ qs) f free o w = absurd w
  gives_name [] (v ∷ vs) (q ∷ qs) f free o w = absurd f

-- where no parameter takes a tree away, none is given
pub no_gift : (p : Program) (qs : List Parameter) (vs : List Value) (o : ℕ) → NoneFree p qs → Gives p qs vs o → ⊥
no_gift p [] vs o free w = w
no_gift p (q ∷ qs) [] o free w = w
no_gift p (q ∷ qs) (v ∷ vs) o free (inl w) = free.0 w.0
no_gift p (q ∷ qs) (v ∷ vs) o free (inr w) = no_gift p qs vs o free.1 w.1
