-- A tree leaves the heap: exactly what is at and below its root.
use Rattle.std.proofs.Common.{◌≡◌, ◌⊎◌, inl, inr, ℕ, true, cond, List, [], ◌∷◌, Option, Some, None, refl, ap, ◌∙◌}
use Rattle.std.specs.Prelude.{count_by, nat_le}
use Rattle.std.specs.FinMap.{get, remove}
use Rattle.std.proofs.lemmas.Bool.Decides.{eqb_tells}
use Rattle.kilim_program.specs.declared.value.Value.TheVariants.{Ref}
use Rattle.kilim_program.specs.Names.{◌>>=◌}
use Rattle.kilim_program.specs.Program.{Program}
use Rattle.kilim_run_state.specs.declared.value.Token.{Token}
use Rattle.kilim_run_state.specs.Machine.{Objects}
use Rattle.kilim_run_state.specs.Shapes.{is_open, shape_by, shape_of, tree_limit, value_tokens}
use Rattle.kilim_run_state.specs.Trees.{tree_names, value_names, without}
use Rattle.kilim_run_model.specs.Kept.{IsIn}
use Rattle.kilim_isolation_laws.specs.graph_rows.Holds.{is_tree_object, is_tree_sort, trees}
use Rattle.kilim_lemmas.proofs.Maps.{out_there, out_other}
use Rattle.kilim_isolation_laws.specs.names.Laws.{GivenTreesLeave}
use Rattle.kilim_isolation_laws.proofs.names.Named.{all_named, below_names, once_named}

-- ---- a heap without some names

gone : (h : Objects) (ns : List ℕ) (x : ℕ) → IsIn x ns → get (without h ns) x ≡ None
gone h [] x i = absurd i
gone h (m ∷ ns) x i = elim (eqb_tells x m) [
  | inl t ↦ ap (get (remove (without h ns) m)) t.1 ∙ out_there (without h ns) m
  | inr t ↦ out_other (without h ns) m x t.1 ∙ gone h ns x (later i t.1)
]
  where
    later : (x ≡ m) ⊎ IsIn x ns → (x ≡ m → ⊥) → IsIn x ns
    later (inl e) n = absurd (n e)
    later (inr i) n = i

gone_or_same : (h : Objects) (ns : List ℕ) (x : ℕ) → IsIn x ns ⊎ (get (without h ns) x ≡ get h x)
gone_or_same h [] x = inr refl
gone_or_same h (m ∷ ns) x = elim (eqb_tells x m) [
  | inl t ↦ inl (inl t.1)
  | inr t ↦ elim (gone_or_same h ns x) [ inl i ↦ inl (inr i) | inr e ↦ inr (out_other (without h ns) m x t.1 ∙ e) ]
]

-- ---- a tree with a shape

record Read (p : Program) (h : Objects) (n : ℕ) : Type 0 where
  tokens : List Token
  is : value_tokens p (λ m. get h m) tree_limit (Ref n) ≡ Some tokens

read_of : (p : Program) (h : Objects) (n : ℕ) (shape : List Token) → shape_of p h n ≡ Some shape → Read p h n
unfolding shape_by
read_of p h n shape e = by (value_tokens p (λ m. get h m) tree_limit (Ref n)) refl e
  where
    by : (o : Option (List Token)) → value_tokens p (λ m. get h m) tree_limit (Ref n) ≡ o → (o >>= λ tokens. cond (nat_le (count_by is_open tokens) tree_limit) (Some tokens) None) ≡ Some shape → Read p h n
    by None is e = absurd (cc)
    by (Some tokens) is e = record { tokens = tokens; is = is }

pub given_trees_leave : GivenTreesLeave
unfolding tree_names
given_trees_leave p of h n shape keeps heap forest is e =
    let r = read_of p h n shape e in
    let has : (trees p h).has n ≡ true = ap (is_tree_object p) is.1 ∙ ap is_tree_sort is.2 in
    let ns = value_names p h tree_limit (Ref n) in (
      record {
        out = λ x b. gone h ns x (all_named p keeps of h heap forest tree_limit n r.tokens has r.is x b);
        rest = λ x. elim (gone_or_same h ns x) [ inl i ↦ inl (below_names p keeps of h heap forest tree_limit n x has i) | inr s ↦ inr s ];
      },
      once_named p keeps of h heap forest tree_limit n has,
    )
