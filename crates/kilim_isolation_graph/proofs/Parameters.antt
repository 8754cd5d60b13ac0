-- Parameters, one by one.
use Rattle.std.proofs.Common.{◌≡◌, ℕ, zero, suc, ◌+◌, ◌<◌, ◌≤◌, List, [], ◌∷◌, ◌++◌, length, get_or, drop, refl, sym, ap, ◌∙◌, ◌⊎◌, inl, inr, arith, append_assoc, min, Option}
use Rattle.std.proofs.lemmas.List.{append-nil}
use Rattle.kilim_program.specs.declared.ty.Qualifier.{Qualifier}
use Rattle.kilim_program.specs.declared.ty.Ty.{Ty}
use Rattle.kilim_program.specs.Program.{Program}
use Rattle.kilim_isolation_graph.specs.declared.entry.Parameter.{Parameter}
use Rattle.kilim_isolation_graph.specs.declared.node.Node.{Node}
use Rattle.kilim_isolation_graph.specs.Entry.{declared_parameters, quality, quality_from, entry_node}
use Rattle.kilim_isolation_graph.specs.Nodes.{listed}
use Rattle.kilim_isolation_graph.proofs.Lists.{drop_at, drop_end, listed_push}

pub parameters_more : (tys : List Ty) (qs : List Qualifier) (old new total : List Parameter) (i : ℕ) (d : Ty) (e : Qualifier) → i < min (length tys) (length qs) →
    new ≡ old ++ record { ty = get_or tys i d; qualifier = get_or qs i e } ∷ [] →
    old ++ declared_parameters (drop i tys) (drop i qs) ≡ total → new ++ declared_parameters (drop (i + 1) tys) (drop (i + 1) qs) ≡ total
parameters_more tys qs old new total i d e lt is so_far =
    let lt_tys : i < length tys = omega arith in
    let lt_qs : i < length qs = omega arith in
    ap (λ v. v ++ declared_parameters (drop (i + 1) tys) (drop (i + 1) qs)) is
    ∙ (append_assoc old (record { ty = get_or tys i d; qualifier = get_or qs i e } ∷ []) (declared_parameters (drop (i + 1) tys) (drop (i + 1) qs))
    ∙ (sym (ap (λ ts. old ++ declared_parameters ts (drop i qs)) (drop_at tys i d lt_tys) ∙ ap (λ rs. old ++ declared_parameters (get_or tys i d ∷ drop (i + 1) tys) rs) (drop_at qs i e lt_qs)) ∙ so_far))

no_qualifiers : (tys : List Ty) → declared_parameters tys [] ≡ []
no_qualifiers [] = refl
no_qualifiers (ty ∷ tys) = refl

pub parameters_end : (tys : List Ty) (qs : List Qualifier) (old total : List Parameter) (i : ℕ) → min (length tys) (length qs) ≤ i →
    old ++ declared_parameters (drop i tys) (drop i qs) ≡ total → old ≡ total
parameters_end tys qs old total i le so_far = elim which [
  | inl a ↦ sym (append-nil old) ∙ (ap (λ ts. old ++ declared_parameters ts (drop i qs)) (sym (drop_end tys i a)) ∙ so_far)
  | inr b ↦ sym (append-nil old) ∙ (ap (λ ps. old ++ ps) (sym (no_qualifiers (drop i tys))) ∙ (ap (λ rs. old ++ declared_parameters (drop i tys) rs) (sym (drop_end qs i b)) ∙ so_far))
]
  where
    which : (length tys ≤ i) ⊎ (length qs ≤ i)
    which = grind arith

pub quality_at : (p : Program) (ps : List Parameter) (k : ℕ) (d : Parameter) → k < length ps → quality_from p ps k ≡ quality p (get_or ps k d).ty (get_or ps k d).qualifier
quality_at p [] k d lt = absurd (omega arith)
quality_at p (a ∷ ps) zero d lt = refl
quality_at p (a ∷ ps) (suc k) d lt = quality_at p ps k d (omega arith)

pub nodes_more : (p : Program) (ps : List Parameter) (k : ℕ) (d : Parameter) (q : Option Qualifier) (node : Node) (old new : List Node) → k < length ps →
    q ≡ quality p (get_or ps k d).ty (get_or ps k d).qualifier → node ≡ entry_node q k → new ≡ old ++ node ∷ [] →
    old ≡ listed (λ k. entry_node (quality_from p ps k) k) k → new ≡ listed (λ k. entry_node (quality_from p ps k) k) (k + 1)
nodes_more p ps k d q node old new lt quality_is node_is is so_far =
    is ∙ (ap (λ z. old ++ z ∷ []) (node_is ∙ ap (λ z. entry_node z k) (quality_is ∙ sym (quality_at p ps k d lt)))
    ∙ (ap (λ ns. ns ++ entry_node (quality_from p ps k) k ∷ []) so_far ∙ sym (listed_push (λ k. entry_node (quality_from p ps k) k) k)))
