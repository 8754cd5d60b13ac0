-- The root of a tree that came is there.
use Rattle.std.proofs.Common.{◌≡◌, ℕ, List, [], ◌∷◌, Option, Some, sym, ap, subst, ◌∙◌, rules}
use Rattle.std.specs.Prelude.{IsSome}
use Rattle.std.specs.FinMap.{get}
use Rattle.kilim_run_state.specs.declared.value.Object.{Object}
use Rattle.kilim_run_state.specs.Machine.{Objects}
use Rattle.kilim_run_state.specs.Words.{IsThere}
use Rattle.kilim_run_trees.specs.Walk.{Leads, AreIn}
use Rattle.kilim_run_trees.specs.Moved.{PutIn}

is_some_by : {A : Type 0} (o : Option A) (x : A) → o ≡ Some x → IsSome o
is_some_by o x e = subst (λ o. IsSome o) (sym e) (search rules)

first_there : (h : Objects) (root : ℕ) (es : List (ℕ × Object)) → Leads (root ∷ []) es [] → AreIn h es → IsThere h root
first_there h root [] leads are = let e : root ∷ [] ≡ [] = leads in absurd cc
first_there h root (e ∷ es) leads are = is_some_by (get h root) e.1 (ap (λ n. get h n) leads.0 ∙ are.0)

pub root_there : (h : Objects) (tree : List Object) (k : Objects) (root : ℕ) → PutIn h tree k root → IsThere k root
root_there h tree k root put = first_there k root put.entries put.now.leads put.now.are_in
