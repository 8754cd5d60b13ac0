-- Where the thread of a course goes, the thread beside the woven machine comes, with the deeds of the course to come.
use Rattle.std.proofs.Common.{◌≡◌, ℕ, zero, suc, Bool, true, false, List, [], ◌∷◌, ◌++◌, Option, Some, refl, sym, ap, subst, ◌∙◌}
use Rattle.std.proofs.lemmas.Bool.{false≢true}
use Rattle.std.proofs.lemmas.Option.{none-some}
use Rattle.kilim_program.specs.declared.names.MethodId.{MethodId}
use Rattle.kilim_program.specs.declared.value.Value.{Value}
use Rattle.kilim_run_journal.specs.declared.entry.Act.{Act}
use Rattle.kilim_run_journal.specs.declared.entry.Act.TheVariants.{Bound, Empty, End, Print, Put, Start, Take, Wait}
use Rattle.kilim_run_model.proofs.one_heap.Ends.{ended_is, is_ended, still}
use Rattle.kilim_run_model.specs.declared.deed.Beginning.{Beginning}
use Rattle.kilim_run_model.specs.declared.deed.Deed.{Deed}
use Rattle.kilim_run_model.specs.Course.{Course, Done, Follows, IsLone, Moves, Quiet, Stays, done_by, ends_in, is_end, next_action, next_or, next_within}
use Rattle.kilim_run_model.specs.Lone.{Lone, Next, next_move}
use Rattle.kilim_run_model.specs.Lone as next
use Rattle.kilim_run_model.specs.State.{Setting}
use Rattle.kilim_fiber_laws.proofs.courses.GoesOn.{follows_one}
use Rattle.kilim_fiber_spec.proofs.lone.Steps as rows
use Rattle.kilim_fiber_spec.specs.lone.Law.{IsActed, IsAt, IsBehind, IsDone, IsNext, lone_at}
use Rattle.kilim_fiber_spec.specs.Acts.{World, Apart}
use Rattle.kilim_fiber_spec.specs.Thread.{Frame, Run, Stop, Thread, step, steps}
use Rattle.kilim_fiber_laws.proofs.receivers.states.Worlds.{Shows, step_shows}
use Rattle.kilim_fiber_laws.specs.receivers.states.Law.{acts_of, world_at}

pub one_step : (set : Setting) (n : ℕ) (t : Thread) → steps set (suc n) t ≡ step set (steps set n t)
one_step set zero t = refl
one_step set (suc n) t = one_step set n (step set t)

-- ---- a thread that has ended

pub ended_quiet : (set : Setting) (k : ℕ) (a c : Lone) → is_ended a.thread ≡ true → Quiet set k a c → c ≡ a
ended_quiet set k a c e (Stays same) = sym same
ended_quiet set k a c e (Moves b q goes) = absurd (no (sym (still set k b (subst (λ (z : Lone). is_ended z.thread ≡ true) (sym (ended_quiet set k a b e q)) e)) ∙ goes))
  where
    no : next.Stands ≡ next.Goes c → ⊥
    no e = cc

-- ---- up to the next action

pub record Acting (set : Setting) (k : ℕ) (l : Lone) (x : Next) : Type 0 where
  pub here : Lone
  pub quiet : Quiet set k l here
  pub is : next_move set k here ≡ x

quiet_on : (set : Setting) (k : ℕ) (a b c : Lone) → Quiet set k a b → Quiet set k b c → Quiet set k a c
quiet_on set k a b c q (Stays e) = subst (λ (z : Lone). Quiet set k a z) e q
quiet_on set k a b c q (Moves d r goes) = Moves d (quiet_on set k a b d q r) goes

acts_within : (set : Setting) (k n : ℕ) (l : Lone) (d : Deed) (y : Done) (x : Next) → next_within set k n l ≡ x → done_by set x d ≡ Some y → Acting set k l x
acts_within set k zero l d y x e did = absurd (none-some y (ap (λ (z : Next). done_by set z d) e ∙ did))
acts_within set k (suc n) l d y x e did = by (next_move set k l) refl e (λ after same. acts_within set k n after d y x same did)
  where
    by : (z : Next) → next_move set k l ≡ z → next_or z (next_within set k n) ≡ x → ((after : Lone) → next_within set k n after ≡ x → Acting set k after x) → Acting set k l x
    by (next.Goes after) is same later =
        let a = later after same in
        record { here = a.here; quiet = quiet_on set k l after a.here (Moves l (Stays refl) is) a.quiet; is = a.is }
    by (next.Puts box root shape after) is same later = record { here = l; quiet = Stays refl; is = is ∙ same }
    by (next.PutWaits box root shape after) is same later = record { here = l; quiet = Stays refl; is = is ∙ same }
    by (next.Bounds box most after) is same later = record { here = l; quiet = Stays refl; is = is ∙ same }
    by (next.Gets box after) is same later = record { here = l; quiet = Stays refl; is = is ∙ same }
    by (next.Probes box after) is same later = record { here = l; quiet = Stays refl; is = is ∙ same }
    by (next.Starts root shape after) is same later = record { here = l; quiet = Stays refl; is = is ∙ same }
    by (next.Prints token after) is same later = record { here = l; quiet = Stays refl; is = is ∙ same }
    by (next.Ends why after) is same later = record { here = l; quiet = Stays refl; is = is ∙ same }
    by next.Stands is same later = record { here = l; quiet = Stays refl; is = is ∙ same }

pub acts_next : (set : Setting) (k : ℕ) (l : Lone) (d : Deed) (y : Done) → done_by set (next_action set k l) d ≡ Some y → Acting set k l (next_action set k l)
unfolding next_action
acts_next set k l d y did = acts_within set k (suc set.limits.steps) l d y (next_action set k l) refl did

-- what a deed does is an action
abbrev pub is_action : Next → Bool
is_action (next.Goes after) = false
is_action next.Stands = false
is_action n = true

-- ---- ends

pub ends_on : (ds : List Deed) (d : Deed) → ends_in (ds ++ d ∷ []) ≡ is_end d.act
ends_on [] d = refl
ends_on (x ∷ []) d = refl
ends_on (x ∷ y ∷ ds) d = ends_on (y ∷ ds) d

-- ---- along

module _ (set : Setting) (k : ℕ) where
  -- after so many steps of the thread there stands what comes next after `l`
  pub record Lands (l : Lone) (ds : List Deed) (acts : List Act) (t : Thread) : Type 0 where
    pub at : ℕ
    pub next : IsNext set ds acts k [] (next_move set k l) (steps set at t)
    pub world : Shows (world_at k l ds acts) (steps set at t)

  lands_run : (l : Lone) (ds : List Deed) (acts : List Act) (t : Thread) (n : ℕ) (m : MethodId) (p : ℕ) (ls s : List Value) (x : Value) (b : List Frame) (w : World) → steps set n t ≡ Run m p ls s x b w → IsAt l ds acts k [] (Run m p ls s x b w) → Lands l ds acts t
  lands_run l ds acts t n m p ls s x b w e is =
      let now : steps set (suc n) t ≡ step set (Run m p ls s x b w) = one_step set n t ∙ ap (step set) e in
      let world : w ≡ world_at k l ds acts =
      ap (λ (z : List Apart). record w { aside = z }) is.4
      ∙ ap (λ (z : ℕ). world_at z (lone_at m p ls s b w) w.deeds w.acts) is.3 ∙ ap (λ (z : Lone). world_at k z w.deeds w.acts) is.0 ∙ ap (λ (z : List Deed). world_at k l z w.acts) is.1 ∙ ap (λ (z : List Act). world_at k l ds z) is.2 in
      record {
        at = suc n;
        next =
            subst (λ (z : Thread). IsNext set ds acts k [] (next_move set k l) z) (sym now)
            (subst (λ (z : Lone). IsNext set ds acts k [] (next_move set k z) (step set (Run m p ls s x b w))) is.0
            (subst (λ (z : List Deed). IsNext set z acts k [] (next_move set k (lone_at m p ls s b w)) (step set (Run m p ls s x b w))) is.1
            (subst (λ (z : List Act). IsNext set w.deeds z k [] (next_move set k (lone_at m p ls s b w)) (step set (Run m p ls s x b w))) is.2
            (subst (λ (z : ℕ). IsNext set w.deeds w.acts z [] (next_move set z (lone_at m p ls s b w)) (step set (Run m p ls s x b w))) is.3
            (subst (λ (z : List Apart). IsNext set w.deeds w.acts w.task z (next_move set w.task (lone_at m p ls s b w)) (step set (Run m p ls s x b w))) is.4 (rows.steps set m p ls s x b w))))));
        world = subst (λ (z : Thread). Shows (world_at k l ds acts) z) (sym now) (subst (λ (v : World). Shows v (step set (Run m p ls s x b w))) world (step_shows set m p ls s x b w));
      }

  pub lands_at : (l : Lone) (ds : List Deed) (acts : List Act) (t : Thread) (n : ℕ) → IsAt l ds acts k [] (steps set n t) → Lands l ds acts t
  lands_at l ds acts t n is = by (steps set n t) refl is
    where
      by : (u : Thread) → steps set n t ≡ u → IsAt l ds acts k [] u → Lands l ds acts t
      by (Run m p ls s x b w) e is = lands_run l ds acts t n m p ls s x b w e is
      by (Stop o) e is = absurd is

  pub lands_quiet : (a c : Lone) (ds : List Deed) (acts : List Act) (t : Thread) → Quiet set k a c → Lands a ds acts t → Lands c ds acts t
  lands_quiet a c ds acts t (Stays e) lands = subst (λ (z : Lone). Lands z ds acts t) e lands
  lands_quiet a c ds acts t (Moves b q goes) lands =
      let there = lands_quiet a b ds acts t q lands in
      lands_at c ds acts t there.at (subst (λ (n : Next). IsNext set ds acts k [] n (steps set there.at t)) goes there.next)

  -- what a deed does
  pub next_acted : (n : Next) → is_action n ≡ true → (ds : List Deed) (acts : List Act) (t : Thread) → IsNext set ds acts k [] n t → IsActed set ds acts k [] n t
  next_acted (next.Goes after) e ds acts t is = absurd (false≢true e)
  next_acted (next.Puts box root shape after) e ds acts t is = is
  next_acted (next.PutWaits box root shape after) e ds acts t is = is
  next_acted (next.Bounds box most after) e ds acts t is = is
  next_acted (next.Gets box after) e ds acts t is = is
  next_acted (next.Probes box after) e ds acts t is = is
  next_acted (next.Starts root shape after) e ds acts t is = is
  next_acted (next.Prints token after) e ds acts t is = is
  next_acted (next.Ends why after) e ds acts t is = is
  next_acted next.Stands e ds acts t is = absurd (false≢true e)

  pub deed_acts : (n : Next) (d : Deed) (y : Done) → done_by set n d ≡ Some y → is_action n ≡ true
  deed_acts (next.Goes after) d y e = absurd (none-some y e)
  deed_acts (next.Puts box root shape after) d y e = refl
  deed_acts (next.PutWaits box root shape after) d y e = refl
  deed_acts (next.Bounds box most after) d y e = refl
  deed_acts (next.Gets box after) d y e = refl
  deed_acts (next.Probes box after) d y e = refl
  deed_acts (next.Starts root shape after) d y e = refl
  deed_acts (next.Prints token after) d y e = refl
  deed_acts (next.Ends why after) d y e = refl
  deed_acts next.Stands d y e = absurd (none-some y e)

  behind_at : (act : Act) → is_end act ≡ false → (ds : List Deed) (acts : List Act) (l : Lone) (t : Thread) → IsBehind act ds acts k [] l t → IsAt l ds (act ∷ acts) k [] t
  behind_at (Put c j z) e ds acts l t is = is
  behind_at (Take c j) e ds acts l t is = is
  behind_at (Empty c) e ds acts l t is = is
  behind_at (Start j z) e ds acts l t is = is
  behind_at (Print z) e ds acts l t is = is
  behind_at (End why) e ds acts l t is = absurd (false≢true (sym e))
  behind_at (Wait c) e ds acts l t is = is
  behind_at (Bound c j) e ds acts l t is = is

  -- the thread does that deed next
  pub does_deed : (here : Lone) (d : Deed) (rest : List Deed) (acts : List Act) (t : Thread) → (lands : Lands here (d ∷ rest) acts t) → (y : Done) → done_by set (next_move set k here) d ≡ Some y → IsBehind y.act rest acts k [] y.after (steps set lands.at t)
  does_deed here d rest acts t lands y did =
      subst (λ (o : Option Done). IsDone rest acts k [] o (steps set lands.at t)) did
      (next_acted (next_move set k here) (deed_acts (next_move set k here) d y did) (d ∷ rest) acts (steps set lands.at t) lands.next)

  -- nothing comes behind an end
  pub none_behind : (mid last : Lone) (x : Deed) (xs : List Deed) → is_ended mid.thread ≡ true → Follows set k mid (x ∷ xs) last → ⊥
  none_behind mid last x xs ended f =
      let z = acts_next set k mid x (record { act = x.act; after = f.0 }) f.1 in
      let same : z.here ≡ mid = ended_quiet set k mid z.here ended z.quiet in
      none-some _ (ap (λ (n : Next). done_by set n x) (sym (still set k mid ended) ∙ (ap (next_move set k) (sym same) ∙ z.is)) ∙ f.1)

  -- ---- all deeds

  module _ (b : Beginning) where
    abbrev pub course : List Deed → Course
    course ds = record { beginning = b; deeds = ds }

    pub follow : (ds es rest : List Deed) (l last : Lone) → IsLone set k (course es) l → Follows set k l ds last → is_ended last.thread ≡ false → (acts : List Act) (t : Thread) → Lands l (ds ++ rest) acts t → Lands last rest (acts_of ds acts) t
    follow [] es rest l last lone e alive acts t lands = subst (λ (z : Lone). Lands z rest acts t) e lands
    follow (d ∷ ds) es rest l last lone (mid, does, later) alive acts t lands = by (is_ended mid.thread) refl (λ more now. follow ds (es ++ d ∷ []) rest mid last more later alive (d.act ∷ acts) t now)
      where
        y : Done
        y = record { act = d.act; after = mid }

        a : Acting set k l (next_action set k l)
        a = acts_next set k l d y does

        did : done_by set (next_move set k a.here) d ≡ Some y
        did = ap (λ (z : Next). done_by set z d) a.is ∙ does

        more : IsLone set k (course (es ++ d ∷ [])) mid
        more = record { first = lone.first; begins = lone.begins; follows = follows_one set k lone.first l mid es d lone.follows does }

        there : Lands a.here (d ∷ ds ++ rest) acts t
        there = lands_quiet l a.here (d ∷ ds ++ rest) acts t a.quiet lands

        stops : (ds : List Deed) → Follows set k mid ds last → is_ended mid.thread ≡ true → ⊥
        stops [] e ended = false≢true (sym alive ∙ (ap (λ (z : Lone). is_ended z.thread) (sym e) ∙ ended))
        stops (x ∷ xs) f ended = none_behind mid last x xs ended f

        by : (z : Bool) → is_ended mid.thread ≡ z → (IsLone set k (course (es ++ d ∷ [])) mid → Lands mid (ds ++ rest) (d.act ∷ acts) t → Lands last rest (acts_of ds (d.act ∷ acts)) t) → Lands last rest (acts_of ds (d.act ∷ acts)) t
        by true e go = absurd (stops ds later e)
        by false e go =
            let no_end : is_end d.act ≡ false = sym (ends_on es d) ∙ (ended_is set k (course (es ++ d ∷ [])) mid (record { last = mid; is = more; quiet = Stays refl }) ∙ e) in
            go more
            (lands_at mid (ds ++ rest) (d.act ∷ acts) t there.at (behind_at d.act no_end (ds ++ rest) acts mid (steps set there.at t) (does_deed a.here d (ds ++ rest) acts t there y did)))
