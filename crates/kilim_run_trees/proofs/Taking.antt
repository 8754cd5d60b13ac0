-- The objects of a tree leave a heap one by one.
use Rattle.std.proofs.Common.{◌≡◌, ℕ, ◌+◌, ◌<◌, ◌≤◌, List, [], ◌∷◌, ◌++◌, Some, length, refl, sym, ap, subst, ◌∙◌, arith, length-append, append_assoc, reverse}
use Rattle.std.proofs.lemmas.List.{length-reverse}
use Rattle.std.specs.List.{AllByRecursion}
use Rattle.std.specs.Prelude.{IsSome}
use Rattle.std.specs.FinMap.{get, remove}
use Rattle.kilim_run_state.specs.declared.value.Object.{Object}
use Rattle.kilim_run_state.specs.Machine.{Objects}
use Rattle.kilim_run_state.specs.Places.{AllDiffer}
use Rattle.kilim_run_trees.specs.Walk.{refs, Leads, AreIn, places, objects}
use Rattle.kilim_run_trees.specs.Moved.{without}
use Rattle.kilim_run_trees.specs.Steps.{CanCollect, Collected}
use Rattle.kilim_run_trees.proofs.Maps.{gone-other}
use Rattle.kilim_run_trees.proofs.Walks.{leads_more, leads_short, in_more}
use Rattle.kilim_run_trees.proofs.Stacks.{pop_reversed, push_reversed}
use Rattle.kilim_run_trees.proofs.Sizes.{empty_of}

pub without_last : (heap : Objects) (ns : List ℕ) (n : ℕ) → without heap (ns ++ n ∷ []) ≡ remove (without heap ns) n
without_last heap [] n = refl
without_last heap (m ∷ ms) n = without_last (remove heap m) ms n

pub without_other : (heap : Objects) (ns : List ℕ) (q : ℕ) → AllByRecursion (λ m. m ≡ q → ⊥) ns → get (without heap ns) q ≡ get heap q
without_other heap [] q a = refl
without_other heap (m ∷ ms) q a = without_other (remove heap m) ms q a.1 ∙ gone-other heap m q (λ e. a.0 (sym e))

pub places_more : (es : List (ℕ × Object)) (e : ℕ × Object) → places (es ++ e ∷ []) ≡ places es ++ e.0 ∷ []
places_more [] e = refl
places_more (f ∷ es) e = ap (λ ns. f.0 ∷ ns) (places_more es e)

pub objects_more : (es : List (ℕ × Object)) (e : ℕ × Object) → objects (es ++ e ∷ []) ≡ objects es ++ e.1 ∷ []
objects_more [] e = refl
objects_more (f ∷ es) e = ap (λ os. f.1 ∷ os) (objects_more es e)

pub objects_length : (es : List (ℕ × Object)) → length (objects es) ≡ length es
objects_length [] = refl
objects_length (e ∷ es) = omega (arith, objects_length es)

all_middle : (P : ℕ → Type 0) (xs : List ℕ) (y : ℕ) (ys : List ℕ) → AllByRecursion P (xs ++ y ∷ ys) → P y
all_middle P [] y ys a = a.0
all_middle P (x ∷ xs) y ys a = all_middle P xs y ys a.1

pub before_differ : (xs : List ℕ) (y : ℕ) (ys : List ℕ) → AllDiffer (xs ++ y ∷ ys) → AllByRecursion (λ x. x ≡ y → ⊥) xs
before_differ [] y ys d = tt
before_differ (x ∷ xs) y ys d = (all_middle (λ z. x ≡ z → ⊥) xs y ys d.0, before_differ xs y ys d.1)

-- what has left, and what is still to leave
pub record Taking (heap : Objects) (root : ℕ) (now : Objects) (pending : List ℕ) (os : List Object) (objects_room stack_room : ℕ) : Type 0 where
  pub met : List (ℕ × Object)
  pub rest : List (ℕ × Object)
  pub leads_met : Leads (root ∷ []) met pending
  pub leads_rest : Leads pending rest []
  pub met_in : AreIn heap met
  pub rest_in : AreIn heap rest
  pub once : AllDiffer (places met ++ places rest)
  pub left : now ≡ without heap (places met)
  pub gathered : os ≡ objects met
  pub objects_fit : length met + length rest ≤ objects_room
  pub stack_fits : length met + length rest ≤ stack_room

pub take_none : (heap : Objects) (root : ℕ) (objects_room stack_room : ℕ) → CanCollect heap root objects_room stack_room → Taking heap root heap (root ∷ []) [] objects_room stack_room
take_none heap root or sr c = record {
  met = [];
  rest = c.entries;
  leads_met = refl;
  leads_rest = c.tree.leads;
  met_in = tt;
  rest_in = c.tree.are_in;
  once = c.once;
  left = refl;
  gathered = refl;
  objects_fit = omega (arith, c.objects_fit);
  stack_fits = omega (arith, c.stack_fits);
}

-- the next object of a tree, and all after it
pub record Next (heap : Objects) (root : ℕ) (now : Objects) (at : ℕ) (ns : List ℕ) (os : List Object) (objects_room stack_room : ℕ) : Type 0 where
  pub object : Object
  pub there : get now at ≡ Some object
  pub objects_fit : length os < objects_room
  pub stack_fits : length ns + length (refs object) ≤ stack_room
  pub after : Taking heap root (remove now at) (refs object ++ ns) (os ++ object ∷ []) objects_room stack_room

next_of : (heap : Objects) (root : ℕ) (now : Objects) (at : ℕ) (ns : List ℕ) (os : List Object) (or sr : ℕ) (met rest : List (ℕ × Object)) →
    Leads (root ∷ []) met (at ∷ ns) → Leads (at ∷ ns) rest [] → AreIn heap met → AreIn heap rest → AllDiffer (places met ++ places rest) → now ≡ without heap (places met) → os ≡ objects met → length met + length rest ≤ or → length met + length rest ≤ sr →
    Next heap root now at ns os or sr
next_of heap root now at ns os or sr met [] lm lr mi ri once left gathered of sf = let e : at ∷ ns ≡ [] = lr in absurd (cc)
next_of heap root now at ns os or sr met (e ∷ rest) lm lr mi ri once left gathered of sf =
    let differ : AllByRecursion (λ x. x ≡ e.0 → ⊥) (places met) = before_differ (places met) e.0 (places rest) once in
    let was : get (without heap (places met)) e.0 ≡ Some e.1 = without_other heap (places met) e.0 differ ∙ ri.0 in
    let there : get now at ≡ Some e.1 = subst (λ n. get now n ≡ Some e.1) (sym lr.0) (ap (λ h. get h e.0) left ∙ was) in
    let place_is : at ≡ e.0 = lr.0 in
    let entry : (at, e.1) ≡ e = λ i. (place_is i, e.1) in
    let seen : List (ℕ × Object) = met ++ (at, e.1) ∷ [] in
    let seen_places : places seen ≡ places met ++ at ∷ [] = places_more met (at, e.1) in
    let all : places seen ++ places rest ≡ places met ++ e.0 ∷ places rest = ap (λ ns. ns ++ places rest) seen_places ∙ (append_assoc (places met) (at ∷ []) (places rest) ∙ ap (λ n. places met ++ n ∷ places rest) place_is) in
    record {
      object = e.1;
      there = there;
      objects_fit = omega (arith, of, ap length gathered, objects_length met);
      stack_fits = omega (arith, sf, leads_short (refs e.1 ++ ns) rest lr.1, length-append (refs e.1) ns);
      after = record {
        met = seen;
        rest = rest;
        leads_met = leads_more (root ∷ []) met at e.1 ns lm;
        leads_rest = lr.1;
        met_in = in_more heap met at e.1 mi (subst (λ n. get heap n ≡ Some e.1) (sym place_is) ri.0);
        rest_in = ri.1;
        once = subst AllDiffer (sym all) once;
        left = ap (λ h. remove h at) left ∙ (sym (without_last heap (places met) at) ∙ ap (without heap) (sym seen_places));
        gathered = ap (λ os. os ++ e.1 ∷ []) gathered ∙ sym (objects_more met (at, e.1));
        objects_fit = omega (arith, of, length-append met ((at, e.1) ∷ []));
        stack_fits = omega (arith, sf, length-append met ((at, e.1) ∷ []));
      };
    }

pub next_taken : (heap : Objects) (root : ℕ) (now : Objects) (at : ℕ) (stack rest : List ℕ) (os : List Object) (or sr : ℕ) → Taking heap root now (reverse stack) os or sr → stack ≡ rest ++ at ∷ [] → Next heap root now at (reverse rest) os or sr
next_taken heap root now at stack rest os or sr t e =
    let is : reverse stack ≡ at ∷ reverse rest = pop_reversed stack rest at e in
    next_of heap root now at (reverse rest) os or sr t.met t.rest (subst (Leads (root ∷ []) t.met) is t.leads_met) (subst (λ from. Leads from t.rest []) is t.leads_rest) t.met_in t.rest_in t.once t.left t.gathered t.objects_fit t.stack_fits

pub same_object : (heap : Objects) (at : ℕ) (a b : Object) → get heap at ≡ Some a → get heap at ≡ Some b → a ≡ b
same_object heap at a b p q = let s : Some a ≡ Some b = sym p ∙ q in cc

-- the state after it, in the words of the calls
pub taken_next : (heap : Objects) (root : ℕ) (now after : Objects) (at : ℕ) (stack rest pushed : List ℕ) (os os' : List Object) (o : Object) (or sr or' sr' : ℕ) →
    Taking heap root now (reverse stack) os or sr → stack ≡ rest ++ at ∷ [] → get now at ≡ Some o → after ≡ remove now at → pushed ≡ rest ++ reverse (refs o) → os' ≡ os ++ o ∷ [] → or' ≡ or → sr' ≡ sr →
    Taking heap root after (reverse pushed) os' or' sr'
taken_next heap root now after at stack rest pushed os os' o or sr or' sr' t e g a p q oe se =
    let n = next_taken heap root now at stack rest os or sr t e in
    let is : n.object ≡ o = same_object now at n.object o n.there g in
    let t1 : Taking heap root (remove now at) (refs o ++ reverse rest) (os ++ o ∷ []) or sr = subst (λ o. Taking heap root (remove now at) (refs o ++ reverse rest) (os ++ o ∷ []) or sr) is n.after in
    let t2 = subst (λ h. Taking heap root h (refs o ++ reverse rest) (os ++ o ∷ []) or sr) (sym a) t1 in
    let t3 = subst (λ s. Taking heap root after s (os ++ o ∷ []) or sr) (sym (push_reversed pushed rest (refs o) p)) t2 in
    let t4 = subst (λ os. Taking heap root after (reverse pushed) os or sr) (sym q) t3 in
    let t5 = subst (λ or. Taking heap root after (reverse pushed) os' or sr) (sym oe) t4 in
    subst (λ sr. Taking heap root after (reverse pushed) os' or' sr) (sym se) t5

pub there_next : (heap : Objects) (root : ℕ) (now : Objects) (at : ℕ) (stack rest : List ℕ) (os : List Object) (or sr : ℕ) → Taking heap root now (reverse stack) os or sr → stack ≡ rest ++ at ∷ [] → IsSome (get now at)
there_next heap root now at stack rest os or sr t e = let n = next_taken heap root now at stack rest os or sr t e in subst (λ v. IsSome v) (sym n.there) refl

pub room_next : (heap : Objects) (root : ℕ) (now : Objects) (at : ℕ) (stack rest : List ℕ) (os : List Object) (o : Object) (or sr : ℕ) → Taking heap root now (reverse stack) os or sr → stack ≡ rest ++ at ∷ [] → get now at ≡ Some o → (length os < or) × (length rest + length (refs o) ≤ sr)
room_next heap root now at stack rest os o or sr t e g =
    let n = next_taken heap root now at stack rest os or sr t e in
    let is : n.object ≡ o = same_object now at n.object o n.there g in
    (n.objects_fit, subst (λ o. length rest + length (refs o) ≤ sr) is (omega (arith, n.stack_fits, length-reverse rest)))

pub takes_first : (heap : Objects) (root : ℕ) (none stack : List ℕ) (os : List Object) (or sr sr' : ℕ) → CanCollect heap root or sr → none ≡ [] → stack ≡ none ++ root ∷ [] → os ≡ [] → sr' ≡ sr → Taking heap root heap (reverse stack) os or sr'
takes_first heap root none stack os or sr sr' c n s o r =
    let is : root ∷ [] ≡ reverse stack = sym (ap reverse (s ∙ ap (λ none. none ++ root ∷ []) n)) in
    let t1 = subst (λ from. Taking heap root heap from [] or sr) is (take_none heap root or sr c) in
    let t2 = subst (λ os. Taking heap root heap (reverse stack) os or sr) (sym o) t1 in
    subst (λ sr. Taking heap root heap (reverse stack) os or sr) (sym r) t2
