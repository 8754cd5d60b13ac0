-- Lists of entries that grow at their end, by numbers that stay.
use Rattle.std.proofs.Common.{◌≡◌, ℕ, zero, suc, ◌+◌, ◌<◌, List, [], ◌∷◌, ◌++◌, length, get_or, take, Option, Some, refl, sym, ap, ◌∙◌, subst, arith}
use Rattle.kilim_lemmas.proofs.Lists.{take_at}
use Rattle.kilim_link_inherited.specs.declared.entry.Entry.{Entry}
use Rattle.kilim_link_inherited.specs.Numbers.{Keeps}
use Rattle.kilim_link_inherited.specs.declared.said.Said.{Said}
use Rattle.kilim_link_inherited.specs.Keyed.{Keyed, AllKeyed}

module _ (before after : List ℕ → List ℕ → Option ℕ) (keeps : Keeps before after) where
  pub keyed_kept : (ss : List Said) (es : List Entry) → Keyed before ss es → Keyed after ss es
  keyed_kept [] [] are = tt
  keyed_kept (s ∷ ss) (e ∷ es) are = (keeps s.signature.name s.signature.descriptor e.key are.0, (are.1.0, keyed_kept ss es are.1.1))
  keyed_kept (s ∷ ss) [] are = are
  keyed_kept [] (e ∷ es) are = are

  pub all_kept : (sss : List (List Said)) (ess : List (List Entry)) → AllKeyed before sss ess → AllKeyed after sss ess
  all_kept [] [] are = tt
  all_kept (ss ∷ sss) (es ∷ ess) are = (keyed_kept ss es are.0, all_kept sss ess are.1)
  all_kept (ss ∷ sss) [] are = are
  all_kept [] (es ∷ ess) are = are

module _ (number : List ℕ → List ℕ → Option ℕ) where
  pub keyed_length : (sss : List (List Said)) (ess : List (List Entry)) → AllKeyed number sss ess → length ess ≡ length sss
  keyed_length [] [] are = refl
  keyed_length (ss ∷ sss) (es ∷ ess) are = ap suc (keyed_length sss ess are.1)
  keyed_length (ss ∷ sss) [] are = absurd are
  keyed_length [] (es ∷ ess) are = absurd are

  pub keyed_more : (ss : List Said) (es : List Entry) (s : Said) (e : Entry) → Keyed number ss es → number s.signature.name s.signature.descriptor ≡ Some e.key → e.value ≡ s.value → Keyed number (ss ++ s ∷ []) (es ++ e ∷ [])
  keyed_more [] [] s e are key value = (key, (value, tt))
  keyed_more (t ∷ ss) (f ∷ es) s e are key value = (are.0, (are.1.0, keyed_more ss es s e are.1.1 key value))
  keyed_more (t ∷ ss) [] s e are key value = absurd are
  keyed_more [] (f ∷ es) s e are key value = absurd are

  pub all_more : (sss : List (List Said)) (ess : List (List Entry)) (ss : List Said) (es : List Entry) → AllKeyed number sss ess → Keyed number ss es → AllKeyed number (sss ++ ss ∷ []) (ess ++ es ∷ [])
  all_more [] [] ss es are keyed = (keyed, tt)
  all_more (ts ∷ sss) (fs ∷ ess) ss es are keyed = (are.0, all_more sss ess ss es are.1 keyed)
  all_more (ts ∷ sss) [] ss es are keyed = absurd are
  all_more [] (fs ∷ ess) ss es are keyed = absurd are

  -- one more of a list
  pub keyed_next : (ss : List Said) (i : ℕ) (s : Said) (es : List Entry) (e : Entry) → i < length ss → s ≡ get_or ss i s → Keyed number (take i ss) es → number s.signature.name s.signature.descriptor ≡ Some e.key → e.value ≡ s.value → Keyed number (take (i + 1) ss) (es ++ e ∷ [])
  keyed_next ss i s es e lt is are key value = subst (λ (ts : List Said). Keyed number ts (es ++ e ∷ [])) (sym (take_at ss i s lt is)) (keyed_more (take i ss) es s e are key value)

  pub all_next : (sss : List (List Said)) (i : ℕ) (ss : List Said) (ess : List (List Entry)) (es : List Entry) → i < length sss → ss ≡ get_or sss i ss → AllKeyed number (take i sss) ess → Keyed number ss es → AllKeyed number (take (i + 1) sss) (ess ++ es ∷ [])
  all_next sss i ss ess es lt is are keyed = subst (λ (ts : List (List Said)). AllKeyed number ts (ess ++ es ∷ [])) (sym (take_at sss i ss lt is)) (all_more (take i sss) ess ss es are keyed)
