-- Who waits, over one heap and over many.
use Rattle.std.proofs.Common.{◌≡◌, ℕ, zero, suc, ◌+◌, Bool, true, false, cond, List, [], ◌∷◌, ◌++◌, length, Option, Some, None, refl, sym, ap, subst, ◌∙◌, arith, add-one}
use Rattle.std.specs.Prelude.{◌&&◌, ◌||◌, if◌then◌else◌, is_some, slice_get}
use Rattle.std.proofs.lemmas.Option.{same_Some, none-some}
use Rattle.kilim_program.specs.Program.{Program}
use Rattle.kilim_program.specs.declared.names.BoxName.{BoxName}
use Rattle.kilim_run_state.specs.declared.value.Token.{Token}
use Rattle.kilim_run_state.specs.Machine.{Objects}
use Rattle.kilim_run_journal.specs.declared.entry.Entry.{Entry}
use Rattle.kilim_run_model.specs.State.{Setting, Thread, Alive, Ended, State, Mailbox, is_full, is_full_at}
use Rattle.kilim_run_model.specs.Lone.{Lone, Next, Goes, Puts, PutWaits, Bounds, Gets, Probes, Starts, Prints, Ends, Stands, next_move, get_at}
use Rattle.kilim_run_model.specs.declared.waits.Waits.{Waits}
use Rattle.kilim_run_model.specs.declared.waits.Waits.TheVariants as wait
use Rattle.kilim_run_model.specs.Turn.{lone_of}
use Rattle.kilim_run_model.specs.Runs.{where_empty, wait_entry}
use Rattle.kilim_run_model.specs.Runs as shared
use Rattle.kilim_run_model.specs.Course.{Course, stands_at, has_ended}
use Rattle.kilim_run_model.specs.Moving.{Books}
use Rattle.kilim_run_model.specs.Moving as moving
use Rattle.kilim_run_model.specs.kin.Kin.{Names, Owner}
use Rattle.kilim_run_model.specs.one_heap.Lones.{ThreadKin, NextKin, IsWholeThread}
use Rattle.kilim_run_model.specs.one_heap.Parted.{Parted}
use Rattle.kilim_run_model.specs.one_heap.Tied.{Party, Queued, Tied}
use Rattle.kilim_run_model.specs.one_heap.Booked.{IsOf, Booked}
use Rattle.kilim_run_model.proofs.one_heap.Nexts.{next_kin}
use Rattle.kilim_run_model.proofs.one_heap.Booking.{is_act, action_is}
use Rattle.kilim_run_model.proofs.one_heap.Ends.{is_ended, still, ended_is}

get_kin : (p : Program) (owner : ℕ → Owner) (t : ℕ) (k0 : Objects) (x y : Next) → NextKin p owner t k0 x y → get_at x ≡ get_at y
get_kin p owner t k0 (Goes a) (Goes b) e = refl
get_kin p owner t k0 (Puts box n shape a) (Puts other m again b) e = refl
get_kin p owner t k0 (PutWaits box n shape a) (PutWaits other m again b) e = ap (λ (z : BoxName). Some (wait.Put z)) e.0
get_kin p owner t k0 (Bounds box most a) (Bounds other least b) e = refl
get_kin p owner t k0 (Gets box a) (Gets other b) e = ap (λ (z : BoxName). Some (wait.Take z)) e.0
get_kin p owner t k0 (Probes box a) (Probes other b) e = refl
get_kin p owner t k0 (Starts n shape a) (Starts m again b) e = refl
get_kin p owner t k0 (Prints token a) (Prints again b) e = refl
get_kin p owner t k0 (Ends why a) (Ends also b) e = refl
get_kin p owner t k0 Stands Stands e = refl
get_kin p owner t k0 _ _ e = absurd e

-- who stands at a get doesn't go on by itself
get_act : (x : Next) (box : Waits) → get_at x ≡ Some box → is_act x ≡ true
get_act (Goes a) box e = absurd (none-some box e)
get_act (Puts b n shape a) box e = refl
get_act (PutWaits b n shape a) box e = refl
get_act (Bounds b most a) box e = refl
get_act (Gets b a) box e = refl
get_act (Probes b a) box e = refl
get_act (Starts n shape a) box e = refl
get_act (Prints token a) box e = refl
get_act (Ends why a) box e = refl
get_act Stands box e = refl

threads_end : (of : Names) (a b : Thread) → ThreadKin of a b → is_ended a ≡ is_ended b
threads_end of (Alive fs d b) (Alive gs e c) w = refl
threads_end of (Ended c) (Ended d) w = refl
threads_end of _ _ w = absurd w

module _ (set : Setting) (m : Parted) (s : State) (tied : Tied set m s) (b : Books) (booked : Booked set m b) where
  empties : (box : BoxName) (i end : ℕ) (shapes : List (ℕ × List Token)) (names : List (ℕ × ℕ)) → Queued set.program tied.owner s.heap box end i shapes names → where_empty shapes box ≡ where_empty names box
  empties box i end [] [] w = refl
  empties box i end (a ∷ shapes) (c ∷ names) w = refl
  empties box i end [] (c ∷ names) w = absurd w
  empties box i end (a ∷ shapes) [] w = absurd w

  queued_length : (box : BoxName) (end i : ℕ) (shapes : List (ℕ × List Token)) (names : List (ℕ × ℕ)) → Queued set.program tied.owner s.heap box end i shapes names → length shapes ≡ length names
  queued_length box end i [] [] w = refl
  queued_length box end i (a ∷ shapes) (c ∷ names) w = ap suc (queued_length box end (suc i) shapes names w.1)
  queued_length box end i [] (c ∷ names) w = absurd w
  queued_length box end i (a ∷ shapes) [] w = absurd w

  full_both : (box : BoxName) → is_full (b.mailboxes box) ≡ is_full (s.mailboxes box)
  full_both box =
      let was = tied.by.boxes box in
      ap (λ (z : Mailbox (List Token)). is_full z) (sym (booked.mail box))
      ∙ (ap (λ (z : Option ℕ). is_full_at z (length (m.mailboxes box).queue)) was.most
      ∙ ap (is_full_at (s.mailboxes box).most) (queued_length box (s.mailboxes box).puts was.first (m.mailboxes box).queue (s.mailboxes box).queue was.queued))

  empty_both : (o : Option Waits) → moving.if_waits b o ≡ shared.if_waits s o
  empty_both None = refl
  empty_both (Some (wait.Take box)) =
      ap (λ (z : Mailbox (List Token)). where_empty z.queue box) (sym (booked.mail box))
      ∙ empties box (tied.by.boxes box).first (s.mailboxes box).puts (m.mailboxes box).queue (s.mailboxes box).queue (tied.by.boxes box).queued
  empty_both (Some (wait.Put box)) = ap (λ (z : Bool). cond z (Some box) None) (full_both box)

  -- one thread, on both sides
  pub record Sides (t : ℕ) (th : Thread) (c : Course) (k : Lone) : Type 0 where
    pub rest : shared.is_at_rest set s t th ≡ (has_ended c || is_some (moving.waits_at set b t k))
    pub waits : shared.waits_at set s t th ≡ (if has_ended c then None else moving.waits_at set b t k)

  module _ (t : ℕ) (l : Lone) (th : Thread) (c : Course) (of : IsOf set t c l) (party : Party tied.owner s t (Some l) (Some th)) (whole : IsWholeThread set l.heap l.thread) where
    same_get : get_at (next_move set t l) ≡ get_at (next_move set t (lone_of s t th))
    same_get = get_kin set.program tied.owner t s.heap (next_move set t l) (next_move set t (lone_of s t th)) (next_kin set party.0 tied.owner t l (lone_of s t th) party.1 whole)

    same_waits : is_act (next_move set t l) ≡ true → moving.waits_at set b t of.last ≡ shared.waits_at set s t th
    unfolding stands_at
    same_waits act =
        ap (λ (x : Next). moving.if_waits b (get_at x)) (action_is set t of.last l (next_move set t l) of.quiet refl act)
        ∙ (empty_both (get_at (next_move set t l)) ∙ ap (shared.if_waits s) same_get)

    ends_both : has_ended c ≡ is_ended th
    ends_both = ended_is set t c l of ∙ threads_end party.0 l.thread th party.1.threads

    sides_by : (x : Thread) → th ≡ x → is_act (next_move set t l) ≡ true → Sides t x c of.last
    sides_by (Ended why) e act =
        let ends : has_ended c ≡ true = ends_both ∙ ap is_ended e in
        record {
          rest = ap (λ (z : Bool). z || is_some (moving.waits_at set b t of.last)) (sym ends);
          waits = ap (λ (x : Next). shared.if_waits s (get_at x)) (still set t (lone_of s t (Ended why)) refl) ∙ ap (λ (z : Bool). cond z None (moving.waits_at set b t of.last)) (sym ends);
        }
    sides_by (Alive fs done boxes) e act =
        let ends : has_ended c ≡ false = ends_both ∙ ap is_ended e in
        let same : shared.waits_at set s t (Alive fs done boxes) ≡ moving.waits_at set b t of.last = ap (shared.waits_at set s t) (sym e) ∙ sym (same_waits act) in
        record {
          rest = ap is_some same ∙ ap (λ (z : Bool). z || is_some (moving.waits_at set b t of.last)) (sym ends);
          waits = same ∙ ap (λ (z : Bool). cond z None (moving.waits_at set b t of.last)) (sym ends);
        }

    pub sides : is_act (next_move set t l) ≡ true → Sides t th c of.last
    sides act = sides_by th refl act

    some_box : (o : Option Waits) → is_some (shared.if_waits s o) ≡ true → (box : Waits) × (o ≡ Some box)
    some_box None e = absurd (cc)
    some_box (Some box) e = (box, refl)

    acts_by : (x : Thread) → th ≡ x → shared.is_at_rest set s t x ≡ true → is_act (next_move set t l) ≡ true
    acts_by (Ended why) e rests =
        ap is_act (still set t l (threads_end party.0 l.thread th party.1.threads ∙ ap is_ended e))
    acts_by (Alive fs done boxes) e rests =
        let w = some_box (get_at (next_move set t (lone_of s t (Alive fs done boxes)))) rests in
        get_act (next_move set t l) w.0 (same_get ∙ (ap (λ (x : Thread). get_at (next_move set t (lone_of s t x))) e ∙ w.1))

    -- who rests over the one heap has no move of its own to make
    pub acts : shared.is_at_rest set s t th ≡ true → is_act (next_move set t l) ≡ true
    acts rests = acts_by th refl rests

  -- ---- all threads

  abbrev pub Rows : ℕ → List Thread → List Course → List Lone → Type 0
  Rows i [] [] [] = Unit {0}
  Rows i (th ∷ ths) (c ∷ cs) (k ∷ ks) = Sides i th c k × Rows (suc i) ths cs ks
  Rows i ths cs ks = ⊥

  pub rows : (i : ℕ) (ths : List Thread) (cs : List Course) (ks : List Lone) → length ths ≡ length cs → length ths ≡ length ks →
      ((j : ℕ) (th : Thread) (c : Course) (k : Lone) → slice_get ths j ≡ Some th → slice_get cs j ≡ Some c → slice_get ks j ≡ Some k → Sides (i + j) th c k) → Rows i ths cs ks
  rows i [] [] [] e d each = tt
  rows i (th ∷ ths) (c ∷ cs) (k ∷ ks) e d each = (
    subst (λ (n : ℕ). Sides n th c k) (let z : i + 0 ≡ i = omega arith in z) (each 0 th c k refl refl refl),
    rows (suc i) ths cs ks (omega (arith, e)) (omega (arith, d)) (λ j x y z p q r. subst (λ (n : ℕ). Sides n x y z) (let w : i + suc j ≡ suc i + j = omega arith in w) (each (suc j) x y z p q r)),
  )
  rows i [] [] (k ∷ ks) e d each = absurd (omega (arith, d))
  rows i [] (c ∷ cs) ks e d each = absurd (omega (arith, e))
  rows i (th ∷ ths) [] ks e d each = absurd (omega (arith, e))
  rows i (th ∷ ths) (c ∷ cs) [] e d each = absurd (omega (arith, d))

  pub all_rest : (i : ℕ) (ths : List Thread) (cs : List Course) (ks : List Lone) → Rows i ths cs ks → shared.all_at_rest set s i ths ≡ moving.all_at_rest set b i cs ks
  all_rest i [] [] [] w = refl
  all_rest i (th ∷ ths) (c ∷ cs) (k ∷ ks) w =
      ap (λ (z : Bool). z && shared.all_at_rest set s (i + 1) ths) w.0.rest
      ∙ (ap (λ (n : ℕ). (has_ended c || is_some (moving.waits_at set b i k)) && shared.all_at_rest set s n ths) (add-one i)
      ∙ ap (λ (z : Bool). (has_ended c || is_some (moving.waits_at set b i k)) && z) (all_rest (suc i) ths cs ks w.1))
  all_rest i [] [] (k ∷ ks) w = absurd w
  all_rest i [] (c ∷ cs) ks w = absurd w
  all_rest i (th ∷ ths) [] ks w = absurd w
  all_rest i (th ∷ ths) (c ∷ cs) [] w = absurd w

  pub all_wait : (i : ℕ) (ths : List Thread) (cs : List Course) (ks : List Lone) → Rows i ths cs ks → shared.waits_from set s i ths ≡ moving.waits_from set b i cs ks
  all_wait i [] [] [] w = refl
  all_wait i (th ∷ ths) (c ∷ cs) (k ∷ ks) w =
      ap (λ (z : Option BoxName). wait_entry i z ++ shared.waits_from set s (i + 1) ths) w.0.waits
      ∙ (ap (λ (n : ℕ). wait_entry i (if has_ended c then None else moving.waits_at set b i k) ++ shared.waits_from set s n ths) (add-one i)
      ∙ ap (λ (z : List Entry). wait_entry i (if has_ended c then None else moving.waits_at set b i k) ++ z) (all_wait (suc i) ths cs ks w.1))
  all_wait i [] [] (k ∷ ks) w = absurd w
  all_wait i [] (c ∷ cs) ks w = absurd w
  all_wait i (th ∷ ths) [] ks w = absurd w
  all_wait i (th ∷ ths) (c ∷ cs) [] w = absurd w

  both_true : (a c : Bool) → (a && c) ≡ true → (a ≡ true) × (c ≡ true)
  both_true true c e = (refl, e)
  both_true false c e = absurd (cc)

  pub each_rests : (i : ℕ) (ths : List Thread) → shared.all_at_rest set s i ths ≡ true → (j : ℕ) (th : Thread) → slice_get ths j ≡ Some th → shared.is_at_rest set s (i + j) th ≡ true
  each_rests i [] e j th is = absurd (none-some th is)
  each_rests i (x ∷ ths) e zero th is =
      subst (λ (n : ℕ). shared.is_at_rest set s n th ≡ true) (let z : i ≡ i + 0 = omega arith in z)
      (subst (λ (z : Thread). shared.is_at_rest set s i z ≡ true) (same_Some _ _ is) (both_true (shared.is_at_rest set s i x) (shared.all_at_rest set s (i + 1) ths) e).0)
  each_rests i (x ∷ ths) e (suc j) th is =
      subst (λ (n : ℕ). shared.is_at_rest set s n th ≡ true) (let z : (i + 1) + j ≡ i + suc j = omega arith in z)
      (each_rests (i + 1) ths (both_true (shared.is_at_rest set s i x) (shared.all_at_rest set s (i + 1) ths) e).1 j th is)
