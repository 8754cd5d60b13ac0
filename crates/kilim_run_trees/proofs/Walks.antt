-- Walks in preorder.
use Rattle.std.proofs.Common.{◌≡◌, ℕ, ◌+◌, ◌<◌, ◌≤◌, List, [], ◌∷◌, ◌++◌, Some, length, refl, sym, ap, subst, ◌∙◌, arith, length-append}
use Rattle.std.specs.FinMap.{get}
use Rattle.kilim_run_state.specs.declared.value.Object.{Object}
use Rattle.kilim_run_state.specs.Machine.{Objects}
use Rattle.kilim_run_trees.specs.Walk.{refs, Leads, AreIn}

pub leads_more : (from : List ℕ) (es : List (ℕ × Object)) (n : ℕ) (o : Object) (ns : List ℕ) → Leads from es (n ∷ ns) → Leads from (es ++ (n, o) ∷ []) (refs o ++ ns)
leads_more from [] n o ns h = subst (λ from. Leads from ((n, o) ∷ []) (refs o ++ ns)) (sym h) (refl, refl)
leads_more [] (e ∷ es) n o ns h = absurd h
leads_more (m ∷ ms) (e ∷ es) n o ns h = (h.0, leads_more (refs e.1 ++ ms) es n o ns h.1)

-- before the last object of a walk
pub leads_last : (from : List ℕ) (es : List (ℕ × Object)) (m : ℕ) (o : Object) (to : List ℕ) → Leads from (es ++ (m, o) ∷ []) to → (rest : List ℕ) × Leads from es (m ∷ rest) × (refs o ++ rest ≡ to)
leads_last [] [] m o to h = absurd h
leads_last (n ∷ ns) [] m o to h = (ns, ap (λ n. n ∷ ns) h.0, h.1)
leads_last [] (e ∷ es) m o to h = absurd h
leads_last (n ∷ ns) (e ∷ es) m o to h = let r = leads_last (refs e.1 ++ ns) es m o to h.1 in (r.0, (h.0, r.1), r.2)

pub leads_join : (from : List ℕ) (es fs : List (ℕ × Object)) (mid to : List ℕ) → Leads from es mid → Leads mid fs to → Leads from (es ++ fs) to
leads_join from [] fs mid to h k = subst (λ from. Leads from fs to) (sym h) k
leads_join [] (e ∷ es) fs mid to h k = absurd h
leads_join (n ∷ ns) (e ∷ es) fs mid to h k = (h.0, leads_join (refs e.1 ++ ns) es fs mid to h.1 k)

pub one_object : (heap : Objects) (m n : ℕ) (a b : Object) → m ≡ n → get heap m ≡ Some a → get heap n ≡ Some b → a ≡ b
one_object heap m n a b e p q = let r : get heap m ≡ Some b = subst (λ n. get heap n ≡ Some b) (sym e) q in let s : Some a ≡ Some b = sym p ∙ r in cc

-- fewer are pending than are still to come
pub leads_short : (from : List ℕ) (es : List (ℕ × Object)) → Leads from es [] → length from ≤ length es
leads_short from [] h = let e : length from ≡ 0 = ap length h in omega (arith, e)
leads_short [] (e ∷ es) h = absurd h
leads_short (n ∷ ns) (e ∷ es) h = omega (arith, leads_short (refs e.1 ++ ns) es h.1, length-append (refs e.1) ns)

-- of the whole walk as many are still to come as are pending, and more
pub leads_longer : (heap : Objects) (from : List ℕ) (es fs : List (ℕ × Object)) (n : ℕ) (ns : List ℕ) → Leads from es (n ∷ ns) → AreIn heap es → Leads from fs [] → AreIn heap fs → length es + length (n ∷ ns) ≤ length fs
leads_longer heap from [] fs n ns h a k b = let few = leads_short from fs k in let same : length from ≡ length (n ∷ ns) = ap length h in omega (arith, few, same)
leads_longer heap from (e ∷ es) [] n ns h a k b = absurd (subst (λ from. Leads from (e ∷ es) (n ∷ ns)) k h)
leads_longer heap [] (e ∷ es) (f ∷ fs) n ns h a k b = absurd h
leads_longer heap (m ∷ ms) (e ∷ es) (f ∷ fs) n ns h a k b =
    let same : f.1 ≡ e.1 = one_object heap f.0 e.0 f.1 e.1 (sym k.0 ∙ h.0) b.0 a.0 in
    let shorter = leads_longer heap (refs e.1 ++ ms) es fs n ns h.1 a.1 (subst (λ o. Leads (refs o ++ ms) fs []) same k.1) b.1 in
    omega (arith, shorter)

-- a place has one tree
pub one_tree : (heap : Objects) (from : List ℕ) (es fs : List (ℕ × Object)) → Leads from es [] → AreIn heap es → Leads from fs [] → AreIn heap fs → es ≡ fs
one_tree heap from [] [] h a k b = refl
one_tree heap from [] (f ∷ fs) h a k b = absurd (subst (λ from. Leads from (f ∷ fs) []) h k)
one_tree heap from (e ∷ es) [] h a k b = absurd (subst (λ from. Leads from (e ∷ es) []) k h)
one_tree heap [] (e ∷ es) (f ∷ fs) h a k b = absurd h
one_tree heap (m ∷ ms) (e ∷ es) (f ∷ fs) h a k b =
    let same_place : e.0 ≡ f.0 = sym h.0 ∙ k.0 in
    let same : f.1 ≡ e.1 = one_object heap f.0 e.0 f.1 e.1 (sym same_place) b.0 a.0 in
    let entry : e ≡ f = λ i. (same_place i, sym same i) in
    λ i. entry i ∷ one_tree heap (refs e.1 ++ ms) es fs h.1 a.1 (subst (λ o. Leads (refs o ++ ms) fs []) same k.1) b.1 i

pub in_more : (heap : Objects) (es : List (ℕ × Object)) (n : ℕ) (o : Object) → AreIn heap es → get heap n ≡ Some o → AreIn heap (es ++ (n, o) ∷ [])
in_more heap [] n o a g = (g, tt)
in_more heap (e ∷ es) n o a g = (a.0, in_more heap es n o a.1 g)

-- what a walk has met so far
pub record Met (heap : Objects) (root : ℕ) (pending : List ℕ) (count : ℕ) : Type 0 where
  pub entries : List (ℕ × Object)
  pub leads : Leads (root ∷ []) entries pending
  pub are_in : AreIn heap entries
  pub counted : length entries ≡ count

pub met_none : (heap : Objects) (root : ℕ) (pending : List ℕ) → pending ≡ root ∷ [] → Met heap root pending 0
met_none heap root pending e = record { entries = []; leads = sym e; are_in = tt; counted = refl }

pub met_more : (heap : Objects) (root n : ℕ) (ns : List ℕ) (o : Object) (count : ℕ) → Met heap root (n ∷ ns) count → get heap n ≡ Some o → Met heap root (refs o ++ ns) (count + 1)
met_more heap root n ns o count m g = record {
  entries = m.entries ++ (n, o) ∷ [];
  leads = leads_more (root ∷ []) m.entries n o ns m.leads;
  are_in = in_more heap m.entries n o m.are_in g;
  counted = omega (arith, m.counted, length-append m.entries ((n, o) ∷ []));
}
