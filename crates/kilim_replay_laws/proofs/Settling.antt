-- Threads that have come to their next action, or to where they wait, one after the other.
use Rattle.std.proofs.Common.{◌≡◌, ℕ, zero, suc, ◌+◌, ◌<◌, ◌≤◌, Bool, true, false, cond, List, [], ◌∷◌, ◌++◌, Option, Some, None, length, take, drop, refl, sym, ap, subst, ◌∙◌, arith}
use Rattle.std.specs.Prelude.{◌&&◌, is_some, slice_get}
use Rattle.kilim_program.specs.declared.names.BoxName.{BoxName}
use Rattle.kilim_run_journal.specs.declared.entry.Entry.{Entry}
use Rattle.kilim_run_model.specs.State.{Setting, Mailbox, Thread, Alive, Ended, State}
use Rattle.kilim_run_model.specs.Lone.{Lone, get_at, next_move}
use Rattle.kilim_run_model.specs.Turn.{lone_of, moved, with_lone}
use Rattle.kilim_run_model.specs.Runs.{AtRest, all_at_rest, before_action, if_waits, is_at_rest, settled_from, wait_entry, waits_at, waits_from, where_empty, where_full}
use Rattle.kilim_run_model.specs.Course.{Quiet}
use Rattle.kilim_run_model.specs.declared.waits.Waits.{Waits}
use Rattle.kilim_run_model.specs.declared.waits.Waits.TheVariants as wait
use Rattle.kilim_isolation_laws.proofs.at_rest.Rest.{Keeps, before_keeps, settled_boxes, settled_others}
use Rattle.kilim_replay_laws.specs.Leads.{more}
use Rattle.kilim_replay_laws.specs.Verdicts.{all_settled, first_going}
use Rattle.kilim_replay_laws.proofs.Leads.{threads_lead}
use Rattle.kilim_replay_laws.proofs.One.{Halts, enough_before, halts_before, is_halt, next_halts}

-- ---- one thread

more_suc : (m n : ℕ) → more m (suc n) ≡ suc (more m n)
more_suc zero n = refl
more_suc (suc m) n = ap suc (more_suc m n)

no_less : (m n : ℕ) → n ≤ more m n
no_less zero n = omega arith
no_less (suc m) n = let z = no_less m n in omega (arith, z)

-- where it stands right before its next action, or waits, it has settled
pub settled_is : (set : Setting) (s : State) (t : ℕ) (th : Thread) (l : Lone) → slice_get s.threads t ≡ Some th → Quiet set t (lone_of s t th) l → is_halt (next_move set t l) ≡ true → before_action set (suc set.limits.steps) s t ≡ with_lone s t l
settled_is set s t th l at quiet halt =
    let leads = threads_lead set s t th l at quiet in
    let steps = set.limits.steps in
    let halts : Halts (with_lone s t l) (moved set (with_lone s t l) t) = subst (Halts (with_lone s t l)) (sym leads.next) (next_halts set (with_lone s t l) t (next_move set t l) halt) in
    sym (enough_before set (more leads.moves steps) s t (no_less leads.moves steps))
    ∙ (ap (λ (k : ℕ). before_action set k s t) (sym (more_suc leads.moves steps)) ∙ (leads.before (suc steps) ∙ halts_before set (suc steps) (with_lone s t l) t halts))

-- ---- lists in front

take_next : {A : Type 0} (xs : List A) (k : ℕ) (x : A) → slice_get xs k ≡ Some x → take (suc k) xs ≡ take k xs ++ x ∷ []
take_next [] k x e = absurd (cc)
take_next (y ∷ ys) zero x e = ap (λ z. z ∷ []) (same e)
  where
    same : Some y ≡ Some x → y ≡ x
    same f = cc
take_next (y ∷ ys) (suc k) x e = ap (λ zs. y ∷ zs) (take_next ys k x e)

drop_next : {A : Type 0} (xs : List A) (k : ℕ) (x : A) → slice_get xs k ≡ Some x → drop k xs ≡ x ∷ drop (suc k) xs
drop_next [] k x e = absurd (cc)
drop_next (y ∷ ys) zero x e = ap (λ z. z ∷ ys) (same e)
  where
    same : Some y ≡ Some x → y ≡ x
    same f = cc
drop_next (y ∷ ys) (suc k) x e = drop_next ys k x e

-- ---- the threads before a number have settled

module _ (set : Setting) (first : State) where
  pub record Settles (k : ℕ) (a : State) : Type 0 where
    pub ends : settled_from set (suc set.limits.steps) first 0 first.threads ≡ settled_from set (suc set.limits.steps) a k (drop k first.threads)

  pub begins : Settles 0 first
  begins = record { ends = refl }

  plus : (n : ℕ) → n + 1 ≡ suc n
  plus n = omega arith

  -- the thread of that number has settled too
  pub settles_on : (k : ℕ) (a : State) → Settles k a → (old : Thread) → slice_get first.threads k ≡ Some old → Settles (suc k) (before_action set (suc set.limits.steps) a k)
  settles_on k a before old was = record {
    ends =
        before.ends
        ∙ (ap (settled_from set (suc set.limits.steps) a k) (drop_next first.threads k old was)
        ∙ ap (λ (n : ℕ). settled_from set (suc set.limits.steps) (before_action set (suc set.limits.steps) a k) n (drop (suc k) first.threads)) (plus k));
  }

  all_dropped : (xs : List Thread) (k : ℕ) → length xs ≤ k → drop k xs ≡ []
  all_dropped [] zero le = refl
  all_dropped [] (suc k) le = refl
  all_dropped (x ∷ xs) zero le = absurd (omega (arith, le))
  all_dropped (x ∷ xs) (suc k) le = all_dropped xs k (omega (arith, le))

  -- all have
  pub settles_all : (k : ℕ) (a : State) → Settles k a → length first.threads ≤ k → all_settled set first ≡ a
  settles_all k a before few = before.ends ∙ ap (settled_from set (suc set.limits.steps) a k) (all_dropped first.threads k few)

-- ---- the threads before a number rest where all have settled

module _ (set : Setting) (f : State) where
  parts : (b c : Bool) → (b && c) ≡ true → (b ≡ true) × (c ≡ true)
  parts true c g = (refl, g)
  parts false c g = absurd (cc)

  none_more : (n : ℕ) → n + 0 ≡ n
  none_more n = omega arith

  one_more : (n m : ℕ) → n + suc m ≡ n + 1 + m
  one_more n m = omega arith

  all_more : (t : ℕ) (xs : List Thread) (x : Thread) → all_at_rest set f t xs ≡ true → is_at_rest set f (t + length xs) x ≡ true → all_at_rest set f t (xs ++ x ∷ []) ≡ true
  all_more t [] x e g = ap (λ (b : Bool). b && true) (subst (λ (n : ℕ). is_at_rest set f n x ≡ true) (none_more t) g)
  all_more t (y ∷ ys) x e g =
      let p = parts (is_at_rest set f t y) (all_at_rest set f (t + 1) ys) e in
      ap (λ (b : Bool). b && all_at_rest set f (t + 1) (ys ++ x ∷ [])) p.0 ∙ all_more (t + 1) ys x p.1 (subst (λ (n : ℕ). is_at_rest set f n x ≡ true) (one_more t (length ys)) g)

  nothing : (es : List Entry) → es ++ [] ≡ es
  nothing [] = refl
  nothing (e ∷ es) = ap (λ ds. e ∷ ds) (nothing es)

  joined : (xs ys zs : List Entry) → (xs ++ ys) ++ zs ≡ xs ++ (ys ++ zs)
  joined [] ys zs = refl
  joined (x ∷ xs) ys zs = ap (λ es. x ∷ es) (joined xs ys zs)

  waits_more : (t : ℕ) (xs : List Thread) (x : Thread) → waits_from set f t (xs ++ x ∷ []) ≡ waits_from set f t xs ++ wait_entry (t + length xs) (waits_at set f (t + length xs) x)
  waits_more t [] x = nothing (wait_entry t (waits_at set f t x)) ∙ ap (λ (n : ℕ). wait_entry n (waits_at set f n x)) (sym (none_more t))
  waits_more t (y ∷ ys) x =
      ap (λ (es : List Entry). wait_entry t (waits_at set f t y) ++ es) (waits_more (t + 1) ys x)
      ∙ (sym (joined (wait_entry t (waits_at set f t y)) (waits_from set f (t + 1) ys) (wait_entry (t + 1 + length ys) (waits_at set f (t + 1 + length ys) x)))
      ∙ ap (λ (n : ℕ). (wait_entry t (waits_at set f t y) ++ waits_from set f (t + 1) ys) ++ wait_entry n (waits_at set f n x)) (sym (one_more t (length ys))))

  taken : (xs : List Thread) (k : ℕ) (x : Thread) → slice_get xs k ≡ Some x → length (take k xs) ≡ k
  taken [] k x e = absurd (cc)
  taken (y ∷ ys) zero x e = refl
  taken (y ∷ ys) (suc k) x e = ap suc (taken ys k x e)

  counted : (xs : List Thread) (k : ℕ) (x : Thread) → slice_get xs k ≡ Some x → 0 + length (take k xs) ≡ k
  counted xs k x e = let z = taken xs k x e in omega (arith, z)

  -- those before that number rest, with these waits
  pub record RestBefore (k : ℕ) (waits : List Entry) : Type 0 where
    pub rest : all_at_rest set f 0 (take k f.threads) ≡ true
    pub known : waits ≡ waits_from set f 0 (take k f.threads)

  pub rest_begins : RestBefore 0 []
  rest_begins = record { rest = refl; known = refl }

  pub rest_on : (k : ℕ) (waits : List Entry) → RestBefore k waits → (th : Thread) → slice_get f.threads k ≡ Some th → is_at_rest set f k th ≡ true → RestBefore (suc k) (waits ++ wait_entry k (waits_at set f k th))
  rest_on k waits r th at rest = record {
    rest =
        ap (all_at_rest set f 0) (take_next f.threads k th at)
        ∙ all_more 0 (take k f.threads) th r.rest (subst (λ (n : ℕ). is_at_rest set f n th ≡ true) (sym (counted f.threads k th at)) rest);
    known =
        ap (λ (es : List Entry). es ++ wait_entry k (waits_at set f k th)) r.known
        ∙ sym (ap (waits_from set f 0) (take_next f.threads k th at)
        ∙ (waits_more 0 (take k f.threads) th
        ∙ ap (λ (n : ℕ). waits_from set f 0 (take k f.threads) ++ wait_entry n (waits_at set f n th)) (counted f.threads k th at)));
  }

  going_behind : (t : ℕ) (xs ys : List Thread) (x : Thread) → all_at_rest set f t xs ≡ true → is_at_rest set f (t + length xs) x ≡ false → first_going set f t (xs ++ x ∷ ys) ≡ Some (t + length xs)
  going_behind t [] ys x e g =
      ap (λ (b : Bool). cond b (first_going set f (t + 1) ys) (Some t)) (subst (λ (n : ℕ). is_at_rest set f n x ≡ false) (none_more t) g) ∙ ap (λ (n : ℕ). Some n) (sym (none_more t))
  going_behind t (y ∷ zs) ys x e g =
      let p = parts (is_at_rest set f t y) (all_at_rest set f (t + 1) zs) e in
      ap (λ (b : Bool). cond b (first_going set f (t + 1) (zs ++ x ∷ ys)) (Some t)) p.0
      ∙ (going_behind (t + 1) zs ys x p.1 (subst (λ (n : ℕ). is_at_rest set f n x ≡ false) (one_more t (length zs)) g) ∙ ap (λ (n : ℕ). Some n) (sym (one_more t (length zs))))

  part_at : (xs : List Thread) (j : ℕ) (x : Thread) → slice_get xs j ≡ Some x → xs ≡ take j xs ++ x ∷ drop (suc j) xs
  part_at [] j x e = absurd (cc)
  part_at (y ∷ ys) zero x e = ap (λ z. z ∷ ys) (same e)
    where
      same : Some y ≡ Some x → y ≡ x
      same f = cc
  part_at (y ∷ ys) (suc j) x e = ap (λ zs. y ∷ zs) (part_at ys j x e)

  -- that one doesn't
  pub goes_first : (k : ℕ) (waits : List Entry) → RestBefore k waits → (th : Thread) → slice_get f.threads k ≡ Some th → is_at_rest set f k th ≡ false → first_going set f 0 f.threads ≡ Some k
  goes_first k waits r th at goes =
      ap (first_going set f 0) (part_at f.threads k th at)
      ∙ (going_behind 0 (take k f.threads) (drop (suc k) f.threads) th r.rest (subst (λ (n : ℕ). is_at_rest set f n th ≡ false) (sym (counted f.threads k th at)) goes)
      ∙ ap (λ (n : ℕ). Some n) (counted f.threads k th at))

  all_taken : (xs : List Thread) (k : ℕ) → length xs ≤ k → take k xs ≡ xs
  all_taken [] zero le = refl
  all_taken [] (suc k) le = refl
  all_taken (x ∷ xs) zero le = absurd (omega (arith, le))
  all_taken (x ∷ xs) (suc k) le = ap (λ ys. x ∷ ys) (all_taken xs k (omega (arith, le)))

  -- all do
  pub rest_whole : (k : ℕ) (waits : List Entry) → RestBefore k waits → length f.threads ≤ k → (all_at_rest set f 0 f.threads ≡ true) × (waits ≡ waits_from set f 0 f.threads)
  rest_whole k waits r few = (ap (all_at_rest set f 0) (sym (all_taken f.threads k few)) ∙ r.rest, r.known ∙ ap (waits_from set f 0) (all_taken f.threads k few))

  pub all_rest : (first : State) → all_settled set first ≡ f → (waits : List Entry) → all_at_rest set f 0 f.threads ≡ true → waits ≡ waits_from set f 0 f.threads → AtRest set first waits
  all_rest first is waits rest known = record {
    moves = suc set.limits.steps;
    rest = ap (λ (s : State). all_at_rest set s 0 s.threads) is ∙ rest;
    waiting = known ∙ ap (λ (s : State). waits_from set s 0 s.threads) (sym is);
  }
