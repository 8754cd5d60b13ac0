-- What a fiber does next is what the thread of its course does, and behind the deed it is a fiber of the further course.
use Rattle.std.proofs.Common.{◌≡◌, ℕ, ◌+◌, Bool, true, List, [], ◌∷◌, ◌++◌, Some, refl, sym, ap, subst, ◌∙◌, ◌<◌, ◌≤◌, arith}
use Rattle.kilim_program.specs.declared.names.BoxName.{BoxName}
use Rattle.kilim_program.specs.declared.value.Value.TheVariants.{Null, Ref}
use Rattle.kilim_program.specs.Program.{Program}
use Rattle.kilim_fiber_spec.proofs.fiber_kin.Deeds.{further_lone}
use Rattle.kilim_fiber_spec.proofs.fiber_kin.Trees.{is_given}
use Rattle.kilim_fiber_spec.specs.fiber_kin.Acts.{IsGiven}
use Rattle.kilim_run_journal.specs.declared.entry.Act.{Act}
use Rattle.kilim_run_journal.specs.declared.entry.Act.TheVariants as act
use Rattle.kilim_run_model.proofs.kin.Kins.{kin_push}
use Rattle.kilim_run_state.specs.declared.cause.EndCause.{EndCause}
use Rattle.kilim_run_state.specs.declared.value.Token.{Token}
use Rattle.kilim_run_machine.specs.Moves.{push_value}
use Rattle.kilim_run_state.specs.Trees.{OfMessage, OfTask, Root, built}
use Rattle.kilim_run_model.specs.Course.{Course, done_by, next_action, plain, received}
use Rattle.kilim_run_model.specs.Course as course
use Rattle.kilim_run_model.specs.declared.deed.Deed.{Deed}
use Rattle.kilim_run_model.specs.Lone.{Lone, pushed}
use Rattle.kilim_run_model.specs.Lone as thread
use Rattle.kilim_run_model.specs.Moving.{further}
use Rattle.kilim_run_model.specs.State.{Setting}
use Rattle.kilim_fiber_laws.proofs.Actions.{IsAction, is_left, next_is}
use Rattle.kilim_fiber_laws.proofs.Started.{has_started, is_wait}
use Rattle.kilim_fiber_laws.proofs.Given.{Whole, all_well, next_whole}
use Rattle.kilim_fiber_laws.proofs.Reached.{acts, along, first, is_fine, next_comes, next_like}
use Rattle.kilim_fiber_laws.specs.Fibers.{Holds, IsFiberOf, IsReached}
use Rattle.kilim_fiber_laws.specs.Laws.{NextFollows}
use Rattle.kilim_fiber_laws.specs.Nexts.{CanGiveAway, CanReceive, NextIs, CanWait}
use Rattle.kilim_fiber_laws.specs.Served.{CanServe}
use Rattle.kilim_fiber_laws.specs.woven_kin.history.History.{ComesTo, Follows, GoesOn, GoesOnWith, Reaches, took, world_of}
use Rattle.kilim_fiber_laws.proofs.woven_kin.Trees.{came, left, sound}
use Rattle.kilim_fiber_laws.specs.woven_kin.Alike.{ApartKin, Giving, Like, NextLike}
use Rattle.kilim_fiber_laws.specs.woven_kin.Laws.{tree_came, tree_left}
use Rattle.kilim_fiber_laws.specs.woven_kin.Nexts.{Next, Goes, Puts, Gets, Probes, Starts, Prints, Rests, Ends, Stands, next_of, with_result, PutWaits, Bounds, PutsAgain, apart_at}
use Rattle.kilim_fiber_laws.specs.woven_kin.Standing.{Standing}
use Rattle.kilim_fiber_spec.specs.Acts.{Action, Apart, World}
use Rattle.kilim_fiber_spec.specs.Acts as action
use Rattle.kilim_fiber_spec.specs.Fibers.{Woven_state}
use Rattle.kilim_fiber_spec.specs.Rooms.{IsWholeAt}
use Rattle.kilim_fiber_laws.proofs.receivers.states.Along.{acts_on}
use Rattle.kilim_fiber_laws.proofs.receivers.states.Worlds.{wanted_same}
use Rattle.kilim_fiber_laws.specs.receivers.states.Law.{StandsBefore, acts_of, world_at}

-- null on top of both stacks
null_like : (a g : Standing) → Like a g → Like (with_result (Some Null) a) (with_result (Some Null) g)
null_like a g like =
    let i = like.is in
    record { of = like.of; is = record { frames = kin_push like.of Null Null a.frames g.frames tt i.frames; fiber = i.fiber; heaps = i.heaps; done = i.done; boxes = i.boxes; kept = i.kept; aside = i.aside; below = i.below } }

module _ (set : Setting) (W : Program) (marks : List (List Bool)) (served : CanServe set W marks) (t : ℕ) (c : Course) (f : Standing) (is : IsFiberOf set W marks t c f) where
  abbrev p : Program
  p = set.program

  abbrev last : Lone
  last = is.lone

  abbrev x : Standing
  x = is.holds.at

  abbrev r : IsReached set W marks t c x
  r = is.holds.reached

  abbrev from : List Deed → List ℕ → Woven_state
  from = first set W marks served t c x r

  abbrev done : List Act
  done = acts set W marks served t c x r

  -- ---- further on, with the same deeds or one more

  still : (y g : Standing) → Like y g → Reaches set W marks t from c.deeds done y → Holds set W marks t c g
  still y g like reach = record { at = y; reached = record { begun = r.begun; begins = r.begins; comes = reach }; like = like }

  behind : (d : Deed) (mid : Lone) → done_by set (next_action set t last) d ≡ Some (record { act = d.act; after = mid }) → (y g : Standing) → GoesOn set W marks t from c.deeds done d y → Like y g → IsFiberOf set W marks t (further c d) g
  behind d mid does y g go like = record {
    lone = mid;
    is = further_lone set t c last d mid is.is does;
    holds = record {
      at = y;
      reached = record { begun = r.begun; begins = r.begins; comes = subst (λ (as1 : List Act). Reaches set W marks t from (c.deeds ++ d ∷ []) as1 y) (sym (acts_on c.deeds d [])) go };
      like = like;
    };
  }

  before : (a : Action) (y : Standing) → (comes : ComesTo set W marks t from c.deeds done a y) → StandsBefore set t c a comes.2
  before a y comes = ((along set W marks served t c x r comes.0).follows.wants a comes.2).0 ((comes.1, comes.3), comes.4)

  -- the action before which the machine is over is the thread's next one
  action_of : (a : Action) (y : Standing) → ComesTo set W marks t from c.deeds done a y → IsAction y.next a (next_action set t last)
  action_of a y comes = subst (λ (n : ℕ). IsAction n a (next_action set t last)) comes.6 (next_is set t c last is.is a comes.2 (before a y comes))

  -- and it is done where an instruction is left
  within : (a : Action) (y g : Standing) → (comes : ComesTo set W marks t from c.deeds done a y) → y.done ≡ g.done → comes.2.done < set.limits.steps → g.done ≤ set.limits.steps
  within a y g comes same left = let more = comes.7 in omega (arith, more, same, left)

  -- what may have to wait comes behind the first instruction
  begun : (a : Action) (y g : Standing) → (comes : ComesTo set W marks t from c.deeds done a y) → is_wait a ≡ true → y.done ≡ g.done → 1 < g.done
  begun a y g comes is same = let more = comes.7 in let some = has_started set t c a comes.2 (before a y comes) is in omega (arith, more, same, some)

  -- no other tree stands apart then
  alone : (a : Action) (y g : Standing) → (comes : ComesTo set W marks t from c.deeds done a y) → ApartKin y.aside g.aside → g.aside ≡ []
  alone a y g comes kin = none g.aside (subst (λ (ks : List Apart). ApartKin ks g.aside) (sym comes.8 ∙ (ap (λ (z : World). z.aside) (before a y comes).world ∙ wanted_same (λ (z : World). z.aside) (λ v. refl) a (world_at t (before a y comes).here [] (acts_of c.deeds [])))) kin)
    where
      none : (ks : List Apart) → ApartKin [] ks → ks ≡ []
      none [] e = refl
      none (k ∷ ks) e = absurd e

  -- ---- a tree leaves

  gives_away : (root : Root) (n m : ℕ) (shape : List Token) (deed : ℕ → Deed) (a g : Standing) → Giving p root n m shape a g → IsWholeAt p root a.heap n → (mid : Lone) → ((k : ℕ) → done_by set (next_action set t last) (deed k) ≡ Some (record { act = (deed k).act; after = mid }))
      → ((k : ℕ) → GoesOn set W marks t from c.deeds done (deed k) (tree_left p n a)) → CanGiveAway set W marks t c root m shape deed g
  gives_away root n m shape deed a g giving object mid does goes =
      let given : IsGiven p root g.heap m = is_given p root giving.of a.heap g.heap n m giving.is.heaps giving.named (all_well p root a.heap n object) object.tree in (
        given,
        λ heap tree out. (
          sound p root n m shape a g giving given heap tree out,
          λ k. behind (deed k) mid (does k) (tree_left p n a) (record g { heap = heap }) (goes k) (left p root n m shape a g giving given heap tree out),
        ),
      )

  -- ---- a tree comes

  receives : (box : BoxName) (a g : Standing) → Like a g → (mid : Lone) → mid.next ≡ a.next →
      ((n : ℕ) (shape : List Token) → done_by set (next_action set t last) (took box n shape) ≡ course.tree_came box n mid (built p OfMessage mid.next shape)) → GoesOnWith set W marks t from c.deeds done box a → CanReceive set W marks t c box g
  receives box a g like mid same does goes n tree shape heap m good put =
      let w = came p OfMessage a g tree shape heap m like good put in
      behind (took box n shape) (received mid w.objects) (does n shape ∙ (ap (λ (i : ℕ). course.tree_came box n mid (built p OfMessage i shape)) same ∙ ap (course.tree_came box n mid) w.builds))
      (tree_came w.objects a) (record g { frames = push_value (Ref m) g.frames; heap = heap }) (goes n shape w.objects w.builds) (record { of = w.of; is = w.is })

  -- ---- by what both do next

  abbrev Is : Next → Type 0
  Is next = NextIs set W marks t c last next

  put_so : (box : BoxName) (n m : ℕ) (shape : List Token) (a g : Standing) → Giving p OfMessage n m shape a g → IsWholeAt p OfMessage a.heap n → Follows set W marks t from c.deeds done (Puts box n shape a) → Is (Puts box m shape g)
  put_so box n m shape a g giving object r =
      let w = action_of (action.Puts box n shape) a r.0 in (
        (n, w.0, w.1),
        gives_away OfMessage n m shape (λ k. plain (act.Put box k shape)) a g giving object (course.tree_left p n w.0) (λ k. ap (λ (z : thread.Next). done_by set z (plain (act.Put box k shape))) w.1) r.1,
        within (action.Puts box n shape) a g r.0 giving.is.done (is_left set t c (action.Puts box n shape) r.0.2 (before (action.Puts box n shape) a r.0)),
      )

  -- while it waits, its tree stands apart on both sides
  waits : (n m : ℕ) (shape : List Token) (a g : Standing) → Giving p OfMessage n m shape a g → IsWholeAt p OfMessage a.heap n → Reaches set W marks t from c.deeds done (apart_at p n shape a) → CanWait set W marks t c m shape g
  waits n m shape a g giving object reach heap tree out root full =
      let given : IsGiven p OfMessage g.heap m = is_given p OfMessage giving.of a.heap g.heap n m giving.is.heaps giving.named (all_well p OfMessage a.heap n object) object.tree in
      let w = left p OfMessage n m shape a g giving given heap tree out in
      let i = w.is in
      still (apart_at p n shape a) (record g { heap = heap; aside = record { root = root; shape = shape; heap = full } ∷ g.aside })
      (record { of = w.of; is = record { frames = i.frames; fiber = i.fiber; heaps = i.heaps; done = i.done; boxes = i.boxes; kept = i.kept; aside = (refl, giving.is.aside); below = i.below } }) reach

  put_wait_so : (box : BoxName) (n m : ℕ) (shape : List Token) (paused q a g : Standing) → Giving p OfMessage n m shape paused q → Giving p OfMessage n m shape a g → IsWholeAt p OfMessage paused.heap n → IsWholeAt p OfMessage a.heap n →
      Follows set W marks t from c.deeds done (PutWaits box n shape paused a) → Is (PutWaits box m shape q g)
  put_wait_so box n m shape paused q a g rests giving resting object r =
      let w = action_of (action.PutWaits box n shape) a r.0 in (
        (n, w.0, w.1),
        waits n m shape paused q rests resting r.1,
        gives_away OfMessage n m shape (λ k. plain (act.Put box k shape)) a g giving object (course.tree_left p n w.0) (λ k. ap (λ (z : thread.Next). done_by set z (plain (act.Put box k shape))) w.1) r.2,
        within (action.PutWaits box n shape) a g r.0 giving.is.done (is_left set t c (action.PutWaits box n shape) r.0.2 (before (action.PutWaits box n shape) a r.0)),
        alone (action.PutWaits box n shape) a g r.0 giving.is.aside,
        begun (action.PutWaits box n shape) a g r.0 refl giving.is.done,
      )

  put_again_so : (box : BoxName) (n m : ℕ) (shape : List Token) (whole full paused q a g : Standing) → whole.done ≡ g.done → whole.aside ≡ a.aside → Like paused q → Like a g → Follows set W marks t from c.deeds done (PutsAgain box n shape whole paused a) → Is (PutsAgain box m shape full q g)
  put_again_so box n m shape whole full paused q a g same apart rests like r =
      let w = action_of (action.PutWaits box n shape) whole r.0 in (
        (n, w.0, w.1),
        still paused q rests r.1,
        λ k. behind (plain (act.Put box k shape)) (course.tree_left p n w.0) (ap (λ (z : thread.Next). done_by set z (plain (act.Put box k shape))) w.1) a g (r.2 k) like,
        within (action.PutWaits box n shape) whole g r.0 same (is_left set t c (action.PutWaits box n shape) r.0.2 (before (action.PutWaits box n shape) whole r.0)),
        alone (action.PutWaits box n shape) whole g r.0 (subst (λ (ks : List Apart). ApartKin ks g.aside) (sym apart) like.is.aside),
        begun (action.PutWaits box n shape) whole g r.0 refl same,
      )

  bound_so : (box : BoxName) (most : ℕ) (a g : Standing) → Like a g → Follows set W marks t from c.deeds done (Bounds box most a) → Is (Bounds box most g)
  bound_so box most a g like r =
      let w = action_of (action.Bounds box most) a r.0 in
      ((w.0, w.1), behind (plain (act.Bound box most)) w.0 (ap (λ (z : thread.Next). done_by set z (plain (act.Bound box most))) w.1) a g r.1 like, within (action.Bounds box most) a g r.0 like.is.done (is_left set t c (action.Bounds box most) r.0.2 (before (action.Bounds box most) a r.0)))

  start_so : (n m : ℕ) (shape : List Token) (a g : Standing) → Giving p OfTask n m shape a g → IsWholeAt p OfTask a.heap n → Follows set W marks t from c.deeds done (Starts n shape a) → Is (Starts m shape g)
  start_so n m shape a g giving object r =
      let w = action_of (action.Starts n shape) a r.0 in (
        (n, w.0, w.1),
        gives_away OfTask n m shape (λ k. plain (act.Start k shape)) a g giving object (course.tree_left p n w.0) (λ k. ap (λ (z : thread.Next). done_by set z (plain (act.Start k shape))) w.1) r.1,
        within (action.Starts n shape) a g r.0 giving.is.done (is_left set t c (action.Starts n shape) r.0.2 (before (action.Starts n shape) a r.0)),
      )

  get_so : (box : BoxName) (paused q a g : Standing) → Like paused q → Like a g → Follows set W marks t from c.deeds done (Gets box paused a) → Is (Gets box q g)
  get_so box paused q a g rests like r =
      let w = action_of (action.Gets box) a r.0 in
      ((w.0, w.1), still paused q rests r.1, receives box a g like w.0 w.2 (λ n shape. ap (λ (z : thread.Next). done_by set z (took box n shape)) w.1) r.2, within (action.Gets box) a g r.0 like.is.done (is_left set t c (action.Gets box) r.0.2 (before (action.Gets box) a r.0)), begun (action.Gets box) a g r.0 refl like.is.done)

  probe_so : (box : BoxName) (a g : Standing) → Like a g → Follows set W marks t from c.deeds done (Probes box a) → Is (Probes box g)
  probe_so box a g like r =
      let w = action_of (action.Probes box) a r.0 in (
        (w.0, w.1),
        behind (plain (act.Empty box)) (pushed Null w.0) (ap (λ (z : thread.Next). done_by set z (plain (act.Empty box))) w.1) (with_result (Some Null) a) (with_result (Some Null) g) r.1 (null_like a g like),
        receives box a g like w.0 w.2 (λ n shape. ap (λ (z : thread.Next). done_by set z (took box n shape)) w.1) r.2,
        within (action.Probes box) a g r.0 like.is.done (is_left set t c (action.Probes box) r.0.2 (before (action.Probes box) a r.0)),
      )

  print_so : (token : Token) (a g : Standing) → Like a g → Follows set W marks t from c.deeds done (Prints token a) → Is (Prints token g)
  print_so token a g like r =
      let w = action_of (action.Prints token) a r.0 in
      ((w.0, w.1), behind (plain (act.Print (token ∷ []))) w.0 (ap (λ (z : thread.Next). done_by set z (plain (act.Print (token ∷ [])))) w.1) a g r.1 like, within (action.Prints token) a g r.0 like.is.done (is_left set t c (action.Prints token) r.0.2 (before (action.Prints token) a r.0)))

  end_so : (why : EndCause) → Follows set W marks t from c.deeds done (Ends why) → Is (Ends why)
  end_so why r = next_is set t c last is.is (action.Ends why) r.2 (((along set W marks served t c x (is.holds.reached) r.0).follows.wants (action.Ends why) r.2).0 ((r.1, r.3), r.4))

  leads : (a b : Next) → NextLike p a b → Whole set W marks t a → Follows set W marks t from c.deeds done a → Is b
  leads (Goes a) (Goes g) like object r = still a g like r
  leads (Rests a) (Rests g) like object r = still a g like r
  leads (Puts box n shape a) (Puts other m again g) like object r =
      subst (λ (z : BoxName). Is (Puts z m again g)) like.0
      (subst (λ (z : List Token). Is (Puts box m z g)) like.1 (put_so box n m shape a g like.2 object r))
  leads (PutWaits box n shape paused a) (PutWaits other m again q g) like object r =
      subst (λ (z : BoxName). Is (PutWaits z m again q g)) like.0
      (subst (λ (z : List Token). Is (PutWaits box m z q g)) like.1 (put_wait_so box n m shape paused q a g like.2 like.3 object.0 object.1 r))
  leads (PutsAgain box n shape whole paused a) (PutsAgain other m again full q g) like object r =
      subst (λ (z : BoxName). Is (PutsAgain z m again full q g)) like.0
      (subst (λ (z : List Token). Is (PutsAgain box m z full q g)) like.1 (put_again_so box n m shape whole full paused q a g like.2 like.3 like.4 like.5 r))
  leads (Bounds box most a) (Bounds other least g) like object r = subst (λ (z : BoxName). Is (Bounds z least g)) like.0 (subst (λ (z : ℕ). Is (Bounds box z g)) like.1 (bound_so box most a g like.2 r))
  leads (Gets box paused a) (Gets other q g) like object r = subst (λ (z : BoxName). Is (Gets z q g)) like.0 (get_so box paused q a g like.1 like.2 r)
  leads (Probes box a) (Probes other g) like object r = subst (λ (z : BoxName). Is (Probes z g)) like.0 (probe_so box a g like.1 r)
  leads (Starts n shape a) (Starts m again g) like object r = subst (λ (z : List Token). Is (Starts m z g)) like.0 (start_so n m shape a g like.1 object r)
  leads (Prints token a) (Prints again g) like object r = subst (λ (z : Token). Is (Prints z g)) like.0 (print_so token a g like.1 r)
  leads (Ends why) (Ends also) like object r = subst (λ (z : EndCause). Is (Ends z)) like (end_so why r)
  leads Stands b like object r = absurd ((along set W marks served t c x (is.holds.reached) r.0).never_lost r.1 r.2)
  leads _ _ like object r = absurd like

pub next_follows : NextFollows
next_follows set W marks served t c f is free =
    let x = is.holds.at in
    let r = is.holds.reached in
    leads set W marks served t c f is (next_of set W marks t x) (next_of set W marks t f) (next_like set W marks served t c x r f is.holds.like free)
    (next_whole set W marks t x (world_of t x [] (acts set W marks served t c x r)) refl (0 ∷ []) (is_fine set W marks served t c x r)) (next_comes set W marks served t c x r)
