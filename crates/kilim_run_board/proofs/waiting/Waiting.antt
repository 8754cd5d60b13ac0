-- Queues of fibers, one for each thing that may be waited for, as one list.
use Rattle.std.proofs.Common.{◌≡◌, ℕ, ◌+◌, Bool, true, false, ◌&&◌, cond, ◌==◌, List, [], ◌∷◌, ◌++◌, Option, Some, None, refl, sym, ap, subst, ◌∙◌, inl, inr, arith}
use Rattle.std.specs.Prelude.{if◌then◌else◌, length, IfSome, IfNone, MatchOption}
use Rattle.std.specs.List.{AllByRecursion}
use Rattle.std.proofs.lemmas.Bool.Decides.{nat_tests}
use Rattle.std.specs.declared.cmp.Ordering.{Ordering}
use Rattle.std.specs.declared.cmp.Ordering.TheVariants.{Less, Equal, Greater}
use Rattle.std.specs.Ordering.{is_eq, match_ordering, nat_cmp, ordering_then}
use Rattle.std.specs.BTreeMap.{is_at, insert_entry}
use Rattle.std.specs.Map.{lookup, set_value, keys_of}
use Rattle.std.specs.List.Sorted.{IsStrictlySortedBy}
use Rattle.kilim_program.specs.declared.names.BoxName.{BoxName}
use Rattle.kilim_run_model.specs.State.{same_box}
use Rattle.kilim_run_model.specs.declared.waits.Waits.{Waits}
use Rattle.kilim_run_model.specs.declared.waits.Waits.TheVariants as wait
use Rattle.kilim_run_board.specs.Places.{same_wait}
use Rattle.kilim_run_board.specs.declared.waiting.parked.Waiter.{Waiter}
use Rattle.kilim_run_board.specs.waiting.Parked.{Key, wait_cmp, key_of, wait_of, at_wait, in_order, NobodyAt, StandsBehind}
use Rattle.kilim_run_board.specs.waiting.Parked.{woken}
use Rattle.kilim_run_board.proofs.waiting.Names.{both_ways, one_wait}
use Rattle.kilim_run_board.proofs.waiting.Named.{key_is}

-- ---- keys

abbrev test : Key → Key → Bool
test k = is_at (wait_cmp k)

same_number : (x y : ℕ) → (x == y) ≡ (y == x)
same_number x y = elim (both_ways (x == y)) [
  | inl is ↦ let e : (y == x) ≡ true = grind (arith, nat_tests) in is ∙ sym e
  | inr isnt ↦ let e : (y == x) ≡ false = grind (arith, nat_tests) in isnt ∙ sym e
]

turned : (a b : BoxName) → same_box a b ≡ same_box b a
turned a b = ap (λ y. y && (a.number == b.number)) (same_number a.task b.task) ∙ ap (λ y. (b.task == a.task) && y) (same_number a.number b.number)

both_named : (t n t' n' : ℕ) → is_eq (ordering_then (nat_cmp t t') (nat_cmp n n')) ≡ same_box (record { task = t; number = n }) (record { task = t'; number = n' })
both_named t n t' n' = key_is (record { task = t; number = n }) (record { task = t'; number = n' }) ∙ turned (record { task = t'; number = n' }) (record { task = t; number = n })

-- a key finds what is waited for by it
finds : (k l : Key) → test k l ≡ same_wait (wait_of k) (wait_of l)
finds (false, t, n) (false, t', n') = both_named t n t' n'
finds (false, t, n) (true, t', n') = refl
finds (true, t, n) (false, t', n') = refl
finds (true, t, n) (true, t', n') = both_named t n t' n'

key_back : (k : Key) → key_of (wait_of k) ≡ k
key_back (false, t, n) = refl
key_back (true, t, n) = refl

pub wait_back : (v : Waits) → wait_of (key_of v) ≡ v
wait_back (wait.Take box) = refl
wait_back (wait.Put box) = refl

-- ---- lists

joined : {A : Type 0} (a b c : List A) → a ++ (b ++ c) ≡ (a ++ b) ++ c
joined [] b c = refl
joined (x ∷ xs) b c = ap (λ l. x ∷ l) (joined xs b c)

some_is : {A : Type 0} (x y : A) → Some x ≡ Some y → x ≡ y
some_is x y e = cc

pub nothing_more : {A : Type 0} (xs : List A) → xs ++ [] ≡ xs
nothing_more [] = refl
nothing_more (x ∷ xs) = ap (λ l. x ∷ l) (nothing_more xs)

pub if_first : {A : Type 0} (o : Option A) (none : Type 0) (P T : A → Type 0) → MatchOption o none P → ((x : A) → P x → T x) → IfSome o T
if_first None none P T m f = tt
if_first (Some x) none P T m f = f x m

pub if_nothing : {A : Type 0} (o : Option A) (none : Type 0) (P : A → Type 0) (T : Type 0) → MatchOption o none P → (none → T) → IfNone o T
if_nothing None none P T m f = f m
if_nothing (Some x) none P T m f = tt

pub if_some : {A : Type 0} (o : Option A) (P T : A → Type 0) → IfSome o P → ((x : A) → P x → T x) → IfSome o T
if_some None P T m f = tt
if_some (Some x) P T m f = f x m

pub if_none : {A : Type 0} (o : Option A) (P T : Type 0) → IfNone o P → (P → T) → IfNone o T
if_none None P T m f = f m
if_none (Some x) P T m f = tt

module _ {F : Type 0} where
  nobody_apart : (v : Waits) (xs ys : List (Waiter F)) → NobodyAt v xs → NobodyAt v ys → NobodyAt v (xs ++ ys)
  nobody_apart v [] ys a b = b
  nobody_apart v (x ∷ xs) ys a b = (a.0, nobody_apart v xs ys a.1 b)

  at_other : (v other : Waits) (fs : List F) → same_wait v other ≡ false → NobodyAt v (at_wait other fs)
  at_other v other [] e = tt
  at_other v other (f ∷ fs) e = (e, at_other v other fs e)

  at_pushed : (v : Waits) (fs : List F) (f : F) (rest : List (Waiter F)) → at_wait v (fs ++ f ∷ []) ++ rest ≡ at_wait v fs ++ record { waits = v; fiber = f } ∷ rest
  at_pushed v [] f rest = refl
  at_pushed v (x ∷ xs) f rest = ap (λ l. record { waits = v; fiber = x } ∷ l) (at_pushed v xs f rest)

  -- ---- who is woken

  abbrev picked : Waiter F → List (Waiter F) → Option (Waiter F × List (Waiter F)) → Bool → Option (Waiter F × List (Waiter F))
  picked w ws o b = if b then Some (w, ws) else elim o [ None ↦ None | Some found ↦ Some (found.0, w ∷ found.1) ]

  abbrev past : List (Waiter F) → Option (Waiter F × List (Waiter F)) → Option (Waiter F × List (Waiter F))
  past xs None = None
  past xs (Some found) = Some (found.0, xs ++ found.1)

  past_none : (o : Option (Waiter F × List (Waiter F))) → o ≡ past [] o
  past_none None = refl
  past_none (Some x) = refl

  past_one : (w : Waiter F) (xs ws : List (Waiter F)) (o : Option (Waiter F × List (Waiter F))) → picked w ws (past xs o) false ≡ past (w ∷ xs) o
  past_one w xs ws None = refl
  past_one w xs ws (Some x) = refl

  -- nobody in front waits there
  woken_past : (v : Waits) (xs ys : List (Waiter F)) → NobodyAt v xs → woken v (xs ++ ys) ≡ past xs (woken v ys)
  woken_past v [] ys none = past_none (woken v ys)
  woken_past v (x ∷ xs) ys none =
      ap (picked x (xs ++ ys) (woken v (xs ++ ys))) none.0 ∙ (ap (λ o. picked x (xs ++ ys) o false) (woken_past v xs ys none.1) ∙ past_one x xs (xs ++ ys) (woken v ys))

  pub woken_apart : (v : Waits) (xs ys ys' : List (Waiter F)) (w : Waiter F) → NobodyAt v xs → woken v ys ≡ Some (w, ys') → woken v (xs ++ ys) ≡ Some (w, xs ++ ys')
  woken_apart v xs ys ys' w none e = woken_past v xs ys none ∙ ap (past xs) e

  pub woken_nobody : (v : Waits) (xs ys : List (Waiter F)) → NobodyAt v xs → woken v ys ≡ None → woken v (xs ++ ys) ≡ None
  woken_nobody v xs ys none e = woken_past v xs ys none ∙ ap (past xs) e

  -- one fewer waits then
  pub woken_fewer : (v : Waits) (ws : List (Waiter F)) (found : Waiter F × List (Waiter F)) → woken v ws ≡ Some found → length ws ≡ length found.1 + 1
  woken_fewer v [] found e = absurd (cc)
  woken_fewer v (w ∷ ws) found e = elim (both_ways (same_wait v w.waits)) [
    | inl is ↦ let s : (w, ws) ≡ found = some_is (w, ws) found (sym (ap (picked w ws (woken v ws)) is) ∙ e) in subst (λ (x : Waiter F × List (Waiter F)). length (w ∷ ws) ≡ length x.1 + 1) s (omega arith)
    | inr isnt ↦ below (woken v ws) refl (λ x g. woken_fewer v ws x g) (sym (ap (picked w ws (woken v ws)) isnt) ∙ e)
  ]
    where
      below : (o : Option (Waiter F × List (Waiter F))) → woken v ws ≡ o → ((x : Waiter F × List (Waiter F)) → woken v ws ≡ Some x → length ws ≡ length x.1 + 1) → picked w ws o false ≡ Some found → length (w ∷ ws) ≡ length found.1 + 1
      below None g again e = absurd (cc)
      below (Some x) g again e = let h = again x g in subst (λ (y : Waiter F × List (Waiter F)). length (w ∷ ws) ≡ length y.1 + 1) (some_is (x.0, w ∷ x.1) found e) (omega arith)

  pub behind_longer : (w : Waiter F) (ws ws' : List (Waiter F)) → StandsBehind w ws ws' → length ws' ≡ length ws + 1
  behind_longer w ws ws' s =
      let e = ap length s.was in
      let f = ap length s.is in
      let h = among s.before s.after w in omega arith
    where
      among : (xs ys : List (Waiter F)) (w : Waiter F) → length (xs ++ w ∷ ys) ≡ length (xs ++ ys) + 1
      among [] ys w = omega arith
      among (x ∷ xs) ys w = let h = among xs ys w in omega arith

  -- behind all of them
  pub at_the_end : (w : Waiter F) (xs ys zs : List (Waiter F)) → zs ≡ ys ++ w ∷ [] → StandsBehind w (xs ++ ys) (xs ++ zs)
  at_the_end w xs ys zs e = record { before = xs ++ ys; after = []; was = sym (nothing_more (xs ++ ys)); is = ap (λ l. xs ++ l) e ∙ joined xs ys (w ∷ []); last = tt }

  -- nothing stands behind what stands in order
  pub alone_behind : (w : Waiter F) (xs xs' ys : List (Waiter F)) → ys ≡ [] → StandsBehind w xs xs' → StandsBehind w (xs ++ ys) (xs' ++ ys)
  alone_behind w xs xs' ys none s =
      subst (λ l. StandsBehind w (xs ++ l) (xs' ++ l)) (sym none) (subst (λ l. StandsBehind w l (xs' ++ [])) (sym (nothing_more xs)) (subst (StandsBehind w xs) (sym (nothing_more xs')) s))

-- ---- queues in the order of their keys

module _ {F Q : Type 0} (items : Q → List F) where
  abbrev Entries : Type 0
  Entries = List (Key × Q)

  abbrev waiting : Entries → List (Waiter F)
  waiting es = in_order items es

  abbrev at_first : Key × Q → List (Waiter F)
  at_first e = at_wait (wait_of e.0) (items e.1)

  nobody_above : (k : Key) (es : Entries) → AllByRecursion (λ y. wait_cmp k y ≡ Less) (keys_of es) → NobodyAt (wait_of k) (waiting es)
  nobody_above k [] all = tt
  nobody_above k (e ∷ es) all =
      nobody_apart (wait_of k) (at_first e) (waiting es) (at_other (wait_of k) (wait_of e.0) (items e.1) (sym (finds k e.0) ∙ ap is_eq all.0)) (nobody_above k es all.1)

  -- behind its own queue stands nobody of it
  nobody_behind : (k : Key) (e : Key × Q) (es : Entries) → wait_of k ≡ wait_of e.0 → IsStrictlySortedBy wait_cmp (keys_of (e ∷ es)) → NobodyAt (wait_of k) (waiting es)
  unfolding IsStrictlySortedBy
  nobody_behind k e es name sorted =
      let same : e.0 ≡ k = sym (key_back e.0) ∙ (ap key_of (sym name) ∙ key_back k) in nobody_above k es (subst (λ l. AllByRecursion (λ y. wait_cmp l y ≡ Less) (keys_of es)) same sorted.0)

  sorted_below : (e : Key × Q) (es : Entries) → IsStrictlySortedBy wait_cmp (keys_of (e ∷ es)) → IsStrictlySortedBy wait_cmp (keys_of es)
  unfolding IsStrictlySortedBy
  sorted_below e es sorted = sorted.1

  name_is : (k : Key) (e : Key × Q) → test k e.0 ≡ true → wait_of k ≡ wait_of e.0
  name_is k e here = one_wait (wait_of k) (wait_of e.0) (sym (finds k e.0) ∙ here)

  abbrev found : Key → Entries → Option Q
  found k es = lookup (test k) es

  abbrev with_queue : Key → Entries → Q → Entries
  with_queue k es q = set_value (test k) es q

  found_here : (k : Key) (e : Key × Q) (es : Entries) (q : Q) → test k e.0 ≡ true → found k (e ∷ es) ≡ Some q → e.1 ≡ q
  found_here k e es q here is = some_is e.1 q (sym (ap (λ b. cond b (Some e.1) (found k es)) here) ∙ is)

  found_later : (k : Key) (e : Key × Q) (es : Entries) (o : Option Q) → test k e.0 ≡ false → found k (e ∷ es) ≡ o → found k es ≡ o
  found_later k e es o other is = sym (ap (λ b. cond b (Some e.1) (found k es)) other) ∙ is

  set_here : (k : Key) (e : Key × Q) (es : Entries) (q : Q) → test k e.0 ≡ true → waiting (with_queue k (e ∷ es) q) ≡ at_wait (wait_of e.0) (items q) ++ waiting es
  set_here k e es q here = ap (λ b. waiting (cond b ((e.0, q) ∷ es) (e ∷ with_queue k es q))) here

  set_later : (k : Key) (e : Key × Q) (es : Entries) (q : Q) → test k e.0 ≡ false → waiting (with_queue k (e ∷ es) q) ≡ at_first e ++ waiting (with_queue k es q)
  set_later k e es q other = ap (λ b. waiting (cond b ((e.0, q) ∷ es) (e ∷ with_queue k es q))) other

  -- the same fibers in it
  pub kept : (k : Key) (es : Entries) (q q' : Q) → found k es ≡ Some q → items q' ≡ items q → waiting (with_queue k es q') ≡ waiting es
  kept k [] q q' is same = refl
  kept k (e ∷ es) q q' is same = elim (both_ways (test k e.0)) [
    | inl here ↦ set_here k e es q' here ∙ ap (λ fs. at_wait (wait_of e.0) fs ++ waiting es) (same ∙ ap items (sym (found_here k e es q here is)))
    | inr other ↦ set_later k e es q' other ∙ ap (λ l. at_first e ++ l) (kept k es q q' (found_later k e es (Some q) other is) same)
  ]

  -- a new queue, in which nobody is
  pub opened : (k : Key) (es : Entries) (q : Q) → items q ≡ [] → lookup (is_at (wait_cmp k)) es ≡ None → waiting (insert_entry wait_cmp es k q) ≡ waiting es
  opened k [] q none new = ap (λ fs. at_wait (wait_of k) fs ++ []) none
  opened k (e ∷ es) q none new = by_order (wait_cmp k e.0) refl (λ g. opened k es q none g)
    where
      by_order : (o : Ordering) → wait_cmp k e.0 ≡ o → (lookup (is_at (wait_cmp k)) es ≡ None → waiting (insert_entry wait_cmp es k q) ≡ waiting es) → waiting (insert_entry wait_cmp (e ∷ es) k q) ≡ waiting (e ∷ es)
      by_order Less is again = ap (λ o. waiting (match_ordering o ((k, q) ∷ e ∷ es) ((e.0, q) ∷ es) (e ∷ insert_entry wait_cmp es k q))) is ∙ ap (λ fs. at_wait (wait_of k) fs ++ (at_first e ++ waiting es)) none
      by_order Equal is again = absurd (let f : Some e.1 ≡ None = sym (ap (λ o. cond (is_eq o) (Some e.1) (lookup (is_at (wait_cmp k)) es)) is) ∙ new in cc)
      by_order Greater is again =
          ap (λ o. waiting (match_ordering o ((k, q) ∷ e ∷ es) ((e.0, q) ∷ es) (e ∷ insert_entry wait_cmp es k q))) is
          ∙ ap (λ l. at_first e ++ l) (again (sym (ap (λ o. cond (is_eq o) (Some e.1) (lookup (is_at (wait_cmp k)) es)) is) ∙ new))

  -- one more at the end of its queue
  pub pushed : (k : Key) (es : Entries) (q q' : Q) (f : F) → IsStrictlySortedBy wait_cmp (keys_of es) → found k es ≡ Some q → items q' ≡ items q ++ f ∷ [] → StandsBehind (record { waits = wait_of k; fiber = f }) (waiting es) (waiting (with_queue k es q'))
  pushed k [] q q' f sorted is more = absurd (cc)
  pushed k (e ∷ es) q q' f sorted is more = elim (both_ways (test k e.0)) [
    | inl here ↦
        let name : wait_of k ≡ wait_of e.0 = name_is k e here in
        let fibers : items q' ≡ items e.1 ++ f ∷ [] = more ∙ ap (λ x. items x ++ f ∷ []) (sym (found_here k e es q here is)) in
        record {
          before = at_first e;
          after = waiting es;
          was = refl;
          is = set_here k e es q' here ∙ (ap (λ fs. at_wait (wait_of e.0) fs ++ waiting es) fibers ∙ (at_pushed (wait_of e.0) (items e.1) f (waiting es) ∙ ap (λ (b : Waits). at_first e ++ record { waits = b; fiber = f } ∷ waiting es) (sym name)));
          last = nobody_behind k e es name sorted;
        }
    | inr other ↦
        let h : StandsBehind (record { waits = wait_of k; fiber = f }) (waiting es) (waiting (with_queue k es q')) = pushed k es q q' f (sorted_below e es sorted) (found_later k e es (Some q) other is) more in
        record {
          before = at_first e ++ h.before;
          after = h.after;
          was = ap (λ l. at_first e ++ l) h.was ∙ joined (at_first e) h.before h.after;
          is = set_later k e es q' other ∙ (ap (λ l. at_first e ++ l) h.is ∙ joined (at_first e) h.before (record { waits = wait_of k; fiber = f } ∷ h.after));
          last = h.last;
        }
  ]

  -- the first of its queue goes
  pub popped : (k : Key) (es : Entries) (q q' : Q) (f : F) (rest : List (Waiter F)) → found k es ≡ Some q → items q ≡ f ∷ items q' →
      woken (wait_of k) (waiting es ++ rest) ≡ Some (record { waits = wait_of k; fiber = f }, waiting (with_queue k es q') ++ rest)
  popped k [] q q' f rest is first = absurd (cc)
  popped k (e ∷ es) q q' f rest is first = elim (both_ways (test k e.0)) [
    | inl here ↦
        let name : wait_of k ≡ wait_of e.0 = name_is k e here in
        let fibers : items e.1 ≡ f ∷ items q' = ap items (found_here k e es q here is) ∙ first in
        let behind : List (Waiter F) = (at_wait (wait_of e.0) (items q') ++ waiting es) ++ rest in
        ap (λ fs. woken (wait_of k) ((at_wait (wait_of e.0) fs ++ waiting es) ++ rest)) fibers
        ∙ (ap (picked (record { waits = wait_of e.0; fiber = f }) behind (woken (wait_of k) behind)) (sym (finds k e.0) ∙ here)
        ∙ (ap (λ l. Some (record { waits = wait_of e.0; fiber = f }, l ++ rest)) (sym (set_here k e es q' here))
        ∙ ap (λ (b : Waits). Some (record { waits = b; fiber = f }, waiting (with_queue k (e ∷ es) q') ++ rest)) (sym name)))
    | inr other ↦
        let none : NobodyAt (wait_of k) (at_first e) = at_other (wait_of k) (wait_of e.0) (items e.1) (sym (finds k e.0) ∙ other) in
        ap (woken (wait_of k)) (sym (joined (at_first e) (waiting es) rest))
        ∙ (woken_apart (wait_of k) (at_first e) (waiting es ++ rest) (waiting (with_queue k es q') ++ rest) (record { waits = wait_of k; fiber = f }) none (popped k es q q' f rest (found_later k e es (Some q) other is) first)
        ∙ ap (λ l. Some (record { waits = wait_of k; fiber = f }, l)) (joined (at_first e) (waiting (with_queue k es q')) rest ∙ ap (λ l. l ++ rest) (sym (set_later k e es q' other))))
  ]

  pub nobody_named : (k : Key) (es : Entries) → found k es ≡ None → NobodyAt (wait_of k) (waiting es)
  nobody_named k [] is = tt
  nobody_named k (e ∷ es) is = elim (both_ways (test k e.0)) [
    | inl here ↦ absurd (let f : Some e.1 ≡ None = sym (ap (λ b. cond b (Some e.1) (found k es)) here) ∙ is in cc)
    | inr other ↦ nobody_apart (wait_of k) (at_first e) (waiting es) (at_other (wait_of k) (wait_of e.0) (items e.1) (sym (finds k e.0) ∙ other)) (nobody_named k es (found_later k e es None other is))
  ]

  pub nobody_queued : (k : Key) (es : Entries) (q : Q) → IsStrictlySortedBy wait_cmp (keys_of es) → found k es ≡ Some q → items q ≡ [] → NobodyAt (wait_of k) (waiting es)
  nobody_queued k [] q sorted is none = tt
  nobody_queued k (e ∷ es) q sorted is none = elim (both_ways (test k e.0)) [
    | inl here ↦
        let fibers : items e.1 ≡ [] = ap items (found_here k e es q here is) ∙ none in
        nobody_apart (wait_of k) (at_first e) (waiting es) (subst (λ (fs : List F). NobodyAt (wait_of k) (at_wait (wait_of e.0) fs)) (sym fibers) tt) (nobody_behind k e es (name_is k e here) sorted)
    | inr other ↦ nobody_apart (wait_of k) (at_first e) (waiting es) (at_other (wait_of k) (wait_of e.0) (items e.1) (sym (finds k e.0) ∙ other)) (nobody_queued k es q (sorted_below e es sorted) (found_later k e es (Some q) other is) none)
  ]
