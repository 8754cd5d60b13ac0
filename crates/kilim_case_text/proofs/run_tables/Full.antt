-- Heaps in which each object that is referred to is there.
use Rattle.std.proofs.Common.{◌≡◌, ℕ, Bool, true, false, cond, List, [], ◌∷◌, ◌++◌, Option, Some, None, refl, sym, ap, subst, ◌∙◌, rules}
use Rattle.std.specs.Prelude.{IsSome}
use Rattle.std.specs.List.{AllByRecursion}
use Rattle.std.specs.Ordering.{nat_cmp, eq_by_cmp}
use Rattle.std.specs.Cmp.{nat_cmp_total}
use Rattle.std.specs.FinMap.{get, insert, empty, get-insert, get-empty}
use Rattle.kilim_run_state.specs.declared.value.Object.{Object}
use Rattle.kilim_run_state.specs.Machine.{Objects}
use Rattle.kilim_run_state.proofs.Maps.{got-there}
use Rattle.kilim_run_trees.specs.Walk.{refs, Leads, AreIn, AllThere}
use Rattle.kilim_case_text.specs.run_tables.Chains.{IsFull, IsFullAt}

abbrev AreThere : Objects → List ℕ → Type 0
AreThere heap ns = AllByRecursion (λ m. IsSome (get heap m)) ns

some_is : (o : Option Object) (x : Object) → o ≡ Some x → IsSome o
some_is o x e = subst (λ (o : Option Object). IsSome o) (sym e) (search rules)

both_there : (heap : Objects) (ms ns : List ℕ) → AreThere heap ms → AreThere heap ns → AreThere heap (ms ++ ns)
both_there heap [] ns a b = b
both_there heap (m ∷ ms) ns a b = (a.0, both_there heap ms ns a.1 b)

all_below : (heap : Objects) → IsFull heap → (from : List ℕ) (es : List (ℕ × Object)) (n : ℕ) (ns : List ℕ) → AreThere heap from → Leads from es (n ∷ ns) → AreIn heap es → IsSome (get heap n)
all_below heap full from [] n ns t h a = (subst (λ ms. AreThere heap ms) h t).0
all_below heap full [] (e ∷ es) n ns t h a = absurd h
all_below heap full (m ∷ ms) (e ∷ es) n ns t h a = all_below heap full (refs e.1 ++ ms) es n ns (both_there heap (refs e.1) ms (full e.0 e.1 a.0) t.1) h.1 a.1

pub all_full : (heap : Objects) (root : ℕ) → IsFullAt heap root → AllThere heap root
all_full heap root f es n ns h a = all_below heap f.full (root ∷ []) es n ns (f.there, tt) h a

either : (b : Bool) (o : Object) (x : Option Object) → IsSome x → IsSome (cond b (Some o) x)
either true o x t = some_is (Some o) o refl
either false o x t = t

-- what was there is there after one more
stays : (h : Objects) (k : ℕ) (o : Object) (q : ℕ) → IsSome (get h q) → IsSome (get (insert h k o) q)
stays h k o q t = subst (λ (x : Option Object). IsSome x) (sym (get-insert nat_cmp_total h k o q)) (either (eq_by_cmp nat_cmp q k) o (get h q) t)

all_stay : (h : Objects) (k : ℕ) (o : Object) (ns : List ℕ) → AreThere h ns → AreThere (insert h k o) ns
all_stay h k o [] t = tt
all_stay h k o (n ∷ ns) t = (stays h k o n t.0, all_stay h k o ns t.1)

which : (heap : Objects) (b : Bool) (x : Option Object) (o p : Object) → cond b (Some o) x ≡ Some p → AreThere heap (refs o) → (x ≡ Some p → AreThere heap (refs p)) → AreThere heap (refs p)
which heap true x o p e t f = let same : Some o ≡ Some p = e in let equal : o ≡ p = cc in subst (λ p. AreThere heap (refs p)) equal t
which heap false x o p e t f = f e

full_more : (heap : Objects) (k : ℕ) (o : Object) → IsFull heap → AreThere (insert heap k o) (refs o) → IsFull (insert heap k o)
full_more heap k o full t n p e =
    which (insert heap k o) (eq_by_cmp nat_cmp n k) (get heap n) o p (sym (get-insert nat_cmp_total heap k o n) ∙ e) t (λ was. all_stay heap k o (refs p) (full n p was))

full_with : (heap after : Objects) (at : ℕ) (o : Object) → IsFull heap → AreThere (insert heap at o) (refs o) → after ≡ insert heap at o → IsFullAt after at
full_with heap after at o full t is = subst (λ h. IsFullAt h at) (sym is) (record { full = full_more heap at o full t; there = some_is (get (insert heap at o) at) o (got-there heap at o) })

pub full_alone : (heap after : Objects) (at : ℕ) (o : Object) → IsFull heap → refs o ≡ [] → after ≡ insert heap at o → IsFullAt after at
full_alone heap after at o full r is = full_with heap after at o full (subst (λ ns. AreThere (insert heap at o) ns) (sym r) tt) is

pub full_next : (heap after : Objects) (at last : ℕ) (o : Object) → IsFullAt heap last → refs o ≡ last ∷ last ∷ [] → after ≡ insert heap at o → IsFullAt after at
full_next heap after at last o f r is =
    let there = stays heap at o last f.there in
    full_with heap after at o f.full (subst (λ ns. AreThere (insert heap at o) ns) (sym r) (there, (there, tt))) is

pub full_itself : (heap after : Objects) (at : ℕ) (o : Object) → IsFullAt heap at → refs o ≡ at ∷ [] → after ≡ insert heap at o → IsFullAt after at
full_itself heap after at o f r is =
    full_with heap after at o f.full (subst (λ ns. AreThere (insert heap at o) ns) (sym r) (stays heap at o at f.there, tt)) is

none_full : (x : Option Object) (o : Object) → x ≡ None → x ≡ Some o → ⊥
none_full x o n e = let bad : ◌≡◌ {A = Option Object} None (Some o) = sym n ∙ e in cc

pub empty_full : (heap : Objects) → heap ≡ empty → IsFull heap
empty_full heap is n o e = absurd (none_full (get heap n) o (ap (λ h. get h n) is ∙ get-empty nat_cmp n) e)
