-- Each thread moves until its next action, over one heap and over many.
use Rattle.std.proofs.Common.{◌≡◌, ◌≢◌, ℕ, zero, suc, ◌+◌, ◌<◌, Bool, true, false, cond, List, [], ◌∷◌, length, Option, Some, None, refl, sym, ap, subst, ◌∙◌, inl, inr, arith, ◌⊎◌}
use Rattle.std.specs.Prelude.{slice_get, nat_lt}
use Rattle.std.proofs.lemmas.Bool.Decides.{eqb_tells}
use Rattle.std.proofs.lemmas.Option.{same_Some, none-some}
use Rattle.kilim_lemmas.proofs.Lists.{set_there, set_other}
use Rattle.kilim_program.specs.declared.names.BoxName.{BoxName}
use Rattle.kilim_run_state.specs.declared.cause.EndCause.TheVariants as cause
use Rattle.kilim_run_state.specs.declared.value.Object.{Object}
use Rattle.kilim_run_state.specs.declared.value.Token.{Token}
use Rattle.kilim_run_state.specs.Trees.{OfMessage, built}
use Rattle.kilim_run_journal.specs.declared.entry.Act.{Act}
use Rattle.kilim_run_journal.specs.declared.entry.Act.TheVariants.{End}
use Rattle.kilim_run_model.specs.State.{Setting, Thread, State, is_full}
use Rattle.kilim_run_model.specs.Lone.{Lone, Next, Goes, Puts, PutWaits, Bounds, Gets, Probes, Starts, Prints, Ends, Stands, ended, next_move}
use Rattle.kilim_run_model.specs.Turn.{task_limit, moved}
use Rattle.kilim_run_model.specs.Runs as shared
use Rattle.kilim_run_model.specs.Course.{tree_left, lone_begun}
use Rattle.kilim_run_model.specs.declared.deed.Beginning.TheVariants.{Begun}
use Rattle.kilim_run_model.specs.Reach.{Liveness}
use Rattle.kilim_run_model.specs.Kept.{Kept}
use Rattle.kilim_run_model.proofs.Alone.{AreLeft, none_left, one_less, all_left}
use Rattle.kilim_run_model.specs.one_heap.Parted.{Parted, Parting, by_next, lone_parts, parts}
use Rattle.kilim_run_model.specs.one_heap.Parted as parted
use Rattle.kilim_run_model.proofs.one_heap.Booking.{is_act}
use Rattle.kilim_run_model.proofs.one_heap.Beside.{Beside, After, beside_moves, parts_same}

-- the thread makes at most so many moves, but not its next action
abbrev pub unless_acted : Parted → Option Act → Parted → Parted
unless_acted m None later = later
unless_acted m (Some act) later = m

unfoldable pub before_action : Setting → ℕ → Parted → ℕ → Parted
before_action set zero m t = m
before_action set (suc n) m t = unless_acted m (parts set m t).act (before_action set n (parts set m t).state t)

abbrev pub settled_from : Setting → ℕ → Parted → ℕ → List Thread → Parted
settled_from set n m t [] = m
settled_from set n m t (th ∷ ths) = settled_from set n (before_action set n m t) (t + 1) ths

strict : (u i : ℕ) → u < i + 1 → u ≢ i → u < i
strict zero zero less d = absurd (d refl)
strict zero (suc i) less d = omega arith
strict (suc u) zero less d = absurd (omega (arith, less))
strict (suc u) (suc i) less d = let w = strict u i (omega (arith, less)) (λ e. d (ap suc e)) in omega (arith, w)

-- ---- both settle alike

module _ (live : Liveness) (set : Setting) (kept : Kept live set) where
  before_by : (m mid : Parted) (s after : State) (t : ℕ) (later : Parted) (also : State) → Beside set m s → (Beside set mid after → Beside set later also) → (o : Option Act) → After set mid after t o →
      Beside set (unless_acted m o later) (shared.unless_acted s o also)
  before_by m mid s after t later also b go None w = go w
  before_by m mid s after t later also b go (Some act) w = b

  before_beside : (n : ℕ) (m : Parted) (s : State) (t : ℕ) → Beside set m s → Beside set (before_action set n m t) (shared.before_action set n s t)
  unfolding before_action shared.before_action
  before_beside zero m s t b = b
  before_beside (suc n) m s t b =
      let w = beside_moves live set kept m s t b in
      subst (λ (z : Option Act). Beside set (unless_acted m (parts set m t).act (before_action set n (parts set m t).state t)) (shared.unless_acted s z (shared.before_action set n (moved set s t).state t))) w.0
      (before_by m (parts set m t).state s (moved set s t).state t _ _ b (λ q. before_beside n (parts set m t).state (moved set s t).state t q) (parts set m t).act w.1)

  pub settled_beside : (n : ℕ) (m : Parted) (s : State) (t : ℕ) (ths : List Thread) → Beside set m s → Beside set (settled_from set n m t ths) (shared.settled_from set n s t ths)
  settled_beside n m s t [] b = b
  settled_beside n m s t (th ∷ ths) b = settled_beside n (before_action set n m t) (shared.before_action set n s t) (t + 1) ths (before_beside n m s t b)

-- ---- the journal stays

module _ (set : Setting) where
  unless_same : (m later : Parted) (o : Option Act) → later.journal ≡ m.journal → (unless_acted m o later).journal ≡ m.journal
  unless_same m later None e = e
  unless_same m later (Some act) e = refl

  before_same : (n : ℕ) (m : Parted) (t : ℕ) → (before_action set n m t).journal ≡ m.journal
  unfolding before_action
  before_same zero m t = refl
  before_same (suc n) m t = unless_same m (before_action set n (parts set m t).state t) (parts set m t).act (before_same n (parts set m t).state t ∙ parts_same set m t)

  pub settled_same : (n : ℕ) (m : Parted) (t : ℕ) (ths : List Thread) → (settled_from set n m t ths).journal ≡ m.journal
  settled_same n m t [] = refl
  settled_same n m t (th ∷ ths) = settled_same n (before_action set n m t) (t + 1) ths ∙ before_same n m t

-- ---- a thread at an act, or that stands still, makes no move of its own

abbrev pub Halts : Parted → Parting → Type 0
Halts m p = ((act : Act) × (p.act ≡ Some act)) ⊎ (p ≡ parted.quiet m)

module _ (set : Setting) (m : Parted) (t : ℕ) where
  takes_halts : (box : BoxName) (first : ℕ × List Token) (rest : List (ℕ × List Token)) (after : Lone) (o : Option (List Object)) → Halts m (parted.takes_built m t box first.0 rest after o)
  takes_halts box first rest after None = inr refl
  takes_halts box first rest after (Some os) = inl (_, refl)

  gets_halts : (box : BoxName) (after : Lone) (q : List (ℕ × List Token)) → Halts m (parted.gets set m t box after q)
  gets_halts box after [] = inr refl
  gets_halts box after (first ∷ rest) = takes_halts box first rest after (built set.program OfMessage after.next first.1)

  probes_halts : (box : BoxName) (after : Lone) (q : List (ℕ × List Token)) → Halts m (parted.probes set m t box after q)
  probes_halts box after [] = inl (_, refl)
  probes_halts box after (first ∷ rest) = takes_halts box first rest after (built set.program OfMessage after.next first.1)

  starts_so : (l : Lone) (shape : List Token) (o : Option Lone) → Halts m (parted.starts_with m (parted.with_lone m t l) shape o)
  starts_so l shape None = inr refl
  starts_so l shape (Some new) = inl (_, refl)

  starts_halts : (root : ℕ) (shape : List Token) (after : Lone) → Halts m (parted.starts set m t root shape after)
  starts_halts root shape after =
      elim (nat_lt (length m.lones) task_limit) as (λ (z : Bool). Halts m (cond z (parted.starts_with m (parted.with_lone m t (tree_left set.program root after)) shape (lone_begun set (Begun shape))) (parted.acted (parted.with_lone m t (ended after cause.Tasks)) (End cause.Tasks)))) [
        | true ↦ starts_so (tree_left set.program root after) shape (lone_begun set (Begun shape))
        | false ↦ inl (_, refl)
      ]

  next_halts : (x : Next) → is_act x ≡ true → Halts m (by_next set m t x)
  next_halts (Goes after) e = absurd (cc)
  next_halts (Puts box root shape after) e =
      elim (is_full (m.mailboxes box)) as (λ (z : Bool). Halts m (cond z (parted.acted (parted.with_lone m t (ended after cause.Full)) (End cause.Full)) (parted.puts (parted.with_lone m t (tree_left set.program root after)) box shape))) [
        | true ↦ inl (_, refl)
        | false ↦ inl (_, refl)
      ]
  next_halts (PutWaits box root shape after) e =
      elim (is_full (m.mailboxes box)) as (λ (z : Bool). Halts m (cond z (parted.quiet m) (parted.puts (parted.with_lone m t (tree_left set.program root after)) box shape))) [
        | true ↦ inr refl
        | false ↦ inl (_, refl)
      ]
  next_halts (Bounds box most after) e = inl (_, refl)
  next_halts (Gets box after) e = gets_halts box after (m.mailboxes box).queue
  next_halts (Probes box after) e = probes_halts box after (m.mailboxes box).queue
  next_halts (Starts root shape after) e = starts_halts root shape after
  next_halts (Prints token after) e = inl (_, refl)
  next_halts (Ends why after) e = inl (_, refl)
  next_halts Stands e = inr refl

  pub parts_by : (l : Lone) (x : Next) → slice_get m.lones t ≡ Some l → next_move set t l ≡ x → parts set m t ≡ by_next set m t x
  unfolding parts
  parts_by l x is e = ap (lone_parts set m t) is ∙ ap (by_next set m t) e

  pub parts_none : slice_get m.lones t ≡ None → parts set m t ≡ parted.quiet m
  unfolding parts
  parts_none e = ap (lone_parts set m t) e

  pub lone_halts : (l : Lone) → slice_get m.lones t ≡ Some l → is_act (next_move set t l) ≡ true → Halts m (parts set m t)
  lone_halts l is act = subst (Halts m) (sym (parts_by l (next_move set t l) is refl)) (next_halts (next_move set t l) act)

module _ (set : Setting) where
  stays : (n : ℕ) (m : Parted) (t : ℕ) → Halts m (parts set m t) → before_action set n m t ≡ m
  unfolding before_action
  stays zero m t h = refl
  stays (suc n) m t (inl h) = ap (λ (o : Option Act). unless_acted m o (before_action set n (parts set m t).state t)) h.1
  stays (suc n) m t (inr h) =
      ap (λ (p : Parting). unless_acted m p.act (before_action set n p.state t)) h ∙ stays n m t (inr h)

  -- the thread has come to its next action, or to where it stands still
  abbrev pub Stopped : Parted → ℕ → Type 0
  Stopped m t = (l : Lone) → slice_get m.lones t ≡ Some l → is_act (next_move set t l) ≡ true

  goes_before : (n : ℕ) (m : Parted) (t : ℕ) (l after : Lone) → slice_get m.lones t ≡ Some l → next_move set t l ≡ Goes after → before_action set (suc n) m t ≡ before_action set n (parted.with_lone m t after) t
  unfolding before_action
  goes_before n m t l after is e = ap (λ (p : Parting). unless_acted m p.act (before_action set n p.state t)) (parts_by set m t l (Goes after) is e)

  pub left_after : (t : ℕ) (l after : Lone) (k : ℕ) → AreLeft set.limits.steps (suc k) l.thread → next_move set t l ≡ Goes after → AreLeft set.limits.steps k after.thread
  unfolding next_move
  left_after t l after k left e = one_less set t l after l.thread k left e

  pub none_after : (t : ℕ) (l after : Lone) → AreLeft set.limits.steps 0 l.thread → next_move set t l ≡ Goes after → ⊥
  unfolding next_move
  none_after t l after left e = none_left set t l after l.thread left e

  next_is : (t : ℕ) (l : Lone) (x : Next) → next_move set t l ≡ x → ((after : Lone) × (next_move set t l ≡ Goes after)) ⊎ (is_act (next_move set t l) ≡ true)
  next_is t l (Goes after) e = inl (after, e)
  next_is t l (Puts box root shape after) e = inr (ap is_act e)
  next_is t l (PutWaits box root shape after) e = inr (ap is_act e)
  next_is t l (Bounds box most after) e = inr (ap is_act e)
  next_is t l (Gets box after) e = inr (ap is_act e)
  next_is t l (Probes box after) e = inr (ap is_act e)
  next_is t l (Starts root shape after) e = inr (ap is_act e)
  next_is t l (Prints token after) e = inr (ap is_act e)
  next_is t l (Ends why after) e = inr (ap is_act e)
  next_is t l Stands e = inr (ap is_act e)

  pub tells : (t : ℕ) (l : Lone) → ((after : Lone) × (next_move set t l ≡ Goes after)) ⊎ (is_act (next_move set t l) ≡ true)
  tells t l = next_is t l (next_move set t l) refl

  before_stops : (k : ℕ) (m : Parted) (t : ℕ) (l : Lone) → slice_get m.lones t ≡ Some l → AreLeft set.limits.steps k l.thread → Stopped (before_action set (suc k) m t) t
  before_stops zero m t l is left = elim (tells t l) [
    | inl e ↦ absurd (none_after t l e.0 left e.1)
    | inr e ↦ subst (λ (z : Parted). Stopped z t) (sym (stays 1 m t (lone_halts set m t l is e))) (λ y q. subst (λ (z : Lone). is_act (next_move set t z) ≡ true) (same_Some _ _ (sym is ∙ q)) e)
  ]
  before_stops (suc k) m t l is left = elim (tells t l) [
    | inl e ↦ subst (λ (z : Parted). Stopped z t) (sym (goes_before (suc k) m t l e.0 is e.1))
        (before_stops k (parted.with_lone m t e.0) t e.0 (set_there m.lones t l e.0 is) (left_after t l e.0 k left e.1))
    | inr e ↦ subst (λ (z : Parted). Stopped z t) (sym (stays (suc (suc k)) m t (lone_halts set m t l is e))) (λ y q. subst (λ (z : Lone). is_act (next_move set t z) ≡ true) (same_Some _ _ (sym is ∙ q)) e)
  ]

  stops_by : (m : Parted) (t : ℕ) (o : Option Lone) → slice_get m.lones t ≡ o → Stopped (before_action set (suc set.limits.steps) m t) t
  stops_by m t None e = λ l q. absurd (none-some l (sym e ∙ (ap (λ (z : Parted). slice_get z.lones t) (sym (stays (suc set.limits.steps) m t (inr (parts_none set m t e)))) ∙ q)))
  stops_by m t (Some l) e = before_stops set.limits.steps m t l e (all_left set.limits.steps l.thread)

  -- ---- the others stay where they are

  other_by : (m : Parted) (t u : ℕ) → t ≢ u → (o : Option Lone) → slice_get m.lones u ≡ o → (parts set m u).act ≡ None → slice_get (parts set m u).state.lones t ≡ slice_get m.lones t
  other_by m t u n None is e = ap (λ (p : Parting). slice_get p.state.lones t) (parts_none set m u is)
  other_by m t u n (Some l) is e = elim (tells u l) [
    | inl g ↦ ap (λ (p : Parting). slice_get p.state.lones t) (parts_by set m u l (Goes g.0) is g.1) ∙ set_other m.lones u t g.0 n
    | inr act ↦ elim (lone_halts set m u l is act) [
      | inl h ↦ absurd (none-some h.0 (sym e ∙ h.1))
      | inr h ↦ ap (λ (p : Parting). slice_get p.state.lones t) h
    ]
  ]

  unless_other : (m later : Parted) (t : ℕ) (o : Option Act) → (o ≡ None → slice_get later.lones t ≡ slice_get m.lones t) → slice_get (unless_acted m o later).lones t ≡ slice_get m.lones t
  unless_other m later t None e = e refl
  unless_other m later t (Some act) e = refl

  other_before : (n : ℕ) (m : Parted) (t u : ℕ) → t ≢ u → slice_get (before_action set n m u).lones t ≡ slice_get m.lones t
  unfolding before_action
  other_before zero m t u d = refl
  other_before (suc n) m t u d =
      unless_other m (before_action set n (parts set m u).state u) t (parts set m u).act (λ e. other_before n (parts set m u).state t u d ∙ other_by m t u d (slice_get m.lones u) refl e)

  pub all_stop : (m : Parted) (i : ℕ) (ths : List Thread) → ((t : ℕ) → t < i → Stopped m t) → (t : ℕ) → t < i + length ths → Stopped (settled_from set (suc set.limits.steps) m i ths) t
  all_stop m i [] before t lt = before t (omega (arith, lt))
  all_stop m i (th ∷ ths) before t lt =
      let n = suc set.limits.steps in
      all_stop (before_action set n m i) (i + 1) ths
      (λ u less. elim (eqb_tells u i) [
        | inl e ↦ subst (λ (z : ℕ). Stopped (before_action set n m i) z) (sym e.1) (stops_by m i (slice_get m.lones i) refl)
        | inr e ↦ λ l q. before u (strict u i less e.1) l (sym (other_before n m u i e.1) ∙ q)
      ]) t (omega (arith, lt))
