-- What is wanted where a body came to something.
use Rattle.std.proofs.Common.{◌≡◌, ◌<◌, ◌≤◌, ◌+◌, ◌^◌, nat_le, if◌then◌else◌, Bool, true, false, List, Option, Some, None, Result, Ok, Err, refl, sym, ap, subst, ◌∙◌, arith}
use Rattle.std.specs.Prelude.{IfOk}
use Rattle.std.proofs.lemmas.Option.{none-some}
use Rattle.kilim_program.specs.Program.{Program}
use Rattle.kilim_run_model.specs.declared.waits.Waits.{Waits}
use Rattle.kilim_program.specs.declared.names.ClassId.{ClassId}
use Rattle.kilim_run_state.specs.Trees.{OfMessage}
use Rattle.kilim_run_state.specs.declared.cause.EndCause.{EndCause}
use Rattle.kilim_run_state.specs.declared.cause.EndCause.TheVariants as cause
use Rattle.kilim_run_state.specs.declared.run.Limits.{Limits}
use Rattle.kilim_run_state.specs.declared.value.Object.{Object}
use Rattle.kilim_run_state.specs.declared.value.Token.{Token}
use Rattle.kilim_units.specs.declared.memory.NoMemory.{NoMemory}
use Rattle.kilim_run_model.specs.Course.{next_action, stands_at}
use Rattle.kilim_run_model.specs.Lone.{get_at}
use Rattle.kilim_fiber.proofs.Ends.{own_end, own_wish}
use Rattle.kilim_run_model.specs.State.{Setting}
use Rattle.kilim_fiber_spec.specs.fiber_kin.Acts.{IsSound}
use Rattle.kilim_run_board.specs.fibers.Fibers.{Asks, CanRun, Resumed, RestsRightly, StandsFor, StartsAtNone, StartsFresh}
use Rattle.kilim_run_board.specs.fibers.Wishes.{IsMessage, Wish, ToPut, ToPutWait, ToBound, ToTake, ToProbe, ToStart, ToPrint, ToEnd, Wishes, end_wish, wish_of}
use Rattle.kilim_run_board.specs.declared.fibers.Wants.{Wants}
use Rattle.kilim_run_board.specs.declared.fibers.Wants.TheVariants as wants
use Rattle.kilim_run_state.specs.declared.frames.frames.Frames.{Frames}
use Rattle.kilim_fiber_body.specs.Body.{standing_at, HasFrames, RoomIn, RoomyIn}
use Rattle.kilim_fiber_body.specs.Comes.{HasRoomFor}
use Rattle.kilim_fiber_body.specs.Reach.{IsReadyOn, IsWanting, Reaches}
use Rattle.kilim_fiber_body.specs.Steps.{setting_of}
use Rattle.kilim_fiber_body.specs.declared.body.Body.{Body}
use Rattle.kilim_fiber_body.specs.declared.body.Came.{Came}
use Rattle.kilim_fiber_body.specs.declared.body.Came.TheVariants as came
use Rattle.kilim_fiber_body.specs.declared.code.Code.{Code}
use Rattle.kilim_fiber_laws.specs.Fibers.{Holds}
use Rattle.kilim_fiber.specs.Calls.{EndsIdle, HasWanted, MayAsk, RestsAt, WantsBy, asks_by, is_rest}
use Rattle.kilim_fiber.specs.Clauses.{Resumes}
use Rattle.kilim_fiber.specs.Fiber.{task_of, course_of, wished, AskedOf, CameTo, CanGoOn, EndsNext, HoldsFiber, IsApart, ServesCode, StandsAs, idle_cause}
use Rattle.kilim_fiber.specs.declared.fiber.Asked.{Asked}
use Rattle.kilim_fiber.specs.declared.fiber.Fiber.{Fiber}
use Rattle.kilim_fiber.proofs.Beginning.{begun_course, begun_stands}
use Rattle.kilim_fiber.proofs.Bounding.{bounds_are_new}
use Rattle.kilim_fiber.proofs.Coming.{came_to, few_to, ready_on}

-- the setting of a run
same_setting : (set : Setting) (code : Code) (limits : Limits) (main : ClassId) → set.program ≡ code.plain → set.limits ≡ limits → set.main ≡ main → set ≡ setting_of code limits main
same_setting set code limits main e d f = λ i. record { program = e i; main = f i; limits = d i }

module _ (code : Code) (limits : Limits) (f : Fiber) (busy : f.idle ≡ false) where
  abbrev Stands : Setting → Type 0
  Stands set = StandsFor task_of course_of (HoldsFiber code.program code.counted) set f

  -- it isn't idle
  holds : (set : Setting) (s : Stands set) → Holds set code.program code.counted f.task (course_of f) (standing_at 0 f.body)
  holds set s = subst (λ (z : Bool). StandsAs code.program code.counted set f.task (course_of f) s.lone z f.body) busy s.held.body

  pub ready : CanRun task_of course_of (HoldsFiber code.program code.counted) ServesCode code limits f → IsReadyOn (setting_of code limits f.main) code.program code.counted f.task (standing_at 0 f.body)
  ready can =
      let set = can.set in
      let s = can.stands in
      subst (λ (z : Setting). IsReadyOn z code.program code.counted f.task (standing_at 0 f.body)) (same_setting set code limits f.main can.served.program can.is-limits s.held.is-main)
      (ready_on set code can.served f.task (course_of f) s.lone s.is (standing_at 0 f.body) (holds set s))

  abbrev Reached : Setting → Body → Came → Type 0
  Reached set new a = Reaches set code.program code.counted f.task (standing_at 0 f.body) new a

  pub came_by : (new : Body) (r : Result Came NoMemory) → IfOk r (λ a. Reached (setting_of code limits f.main) new a) → IfOk r (λ a. IsWanting a ≡ true) → IfOk r (λ a. HasRoomFor code.program new a) →
      (set : Setting) → ServesCode set code → set.limits ≡ limits → (s : Stands set) → IfOk r (λ a. CameTo code.program code.counted set f.task (course_of f) s.lone new a)
  came_by new (Ok a) reaches wants room set served is-limits s =
      came_to set code served f.task (course_of f) s.lone s.is (standing_at 0 f.body) (holds set s) f.body.apart refl s.held.apart new a
      (subst (λ (z : Setting). Reached z new a) (sym (same_setting set code limits f.main served.program is-limits s.held.is-main)) reaches) room wants
  came_by new (Err e) reaches wants room set served is-limits s = tt

-- where it asks something it has frames
frames_there : (W : Program) (new : Body) (o : Option Frames) → RoomIn W o → HasFrames o
frames_there W new (Some frames) room = tt
frames_there W new None room = room

frames_by : (W : Program) (new : Body) (a : Came) → HasRoomFor W new a → IsWanting a ≡ true → asks_by a ≡ true → HasFrames new.frames
frames_by W new (came.Puts box tree shape) room wants asks = room
frames_by W new (came.PutWaits box tree shape) room wants asks = room
frames_by W new (came.Bounds box most) room wants asks = room
frames_by W new (came.Takes box) room wants asks = frames_there W new new.frames room
frames_by W new (came.Probes box) room wants asks = frames_there W new new.frames room
frames_by W new (came.Starts tree shape) room wants asks = room
frames_by W new (came.Prints shape) room wants asks = room
frames_by W new came.On room wants asks = absurd (cc)
frames_by W new came.Rests room wants asks = absurd (cc)
frames_by W new (came.Ends why) room wants asks = absurd (cc)

module _ (code : Code) (limits : Limits) (f : Fiber) (busy : f.idle ≡ false) where
  -- and an instruction is left for that
  pub may_ask : CanRun task_of course_of (HoldsFiber code.program code.counted) ServesCode code limits f → (new : Body) (a : Came) → Reaches (setting_of code limits f.main) code.program code.counted f.task (standing_at 0 f.body) new a →
      HasRoomFor code.program new a → limits.steps < 2 ^ 64 → IsWanting a ≡ true → asks_by a ≡ true → MayAsk limits (record f { body = new })
  may_ask can new a reaches room small wants asks =
      let set = can.set in
      let s = can.stands in
      let same : set ≡ setting_of code limits f.main = same_setting set code limits f.main can.served.program can.is-limits s.held.is-main in
      let few : new.count + 1 ≤ set.limits.steps =
      few_to set code can.served f.task (course_of f) s.lone s.is (standing_at 0 f.body) (holds code limits f busy set s) new a
      (subst (λ (z : Setting). Reaches z code.program code.counted f.task (standing_at 0 f.body) new a) (sym same) reaches) wants asks in
      let steps : set.limits.steps ≡ limits.steps = ap (λ (l : Limits). l.steps) can.is-limits in
      record {
        frames = frames_by code.program new a room wants asks;
        few = omega (arith, few, steps);
        room = omega (arith, few, steps, small);
      }

-- ---- what `resume` gives

second : {A B : Type 0} → A × B → B
second (a, b) = b

on_ok : {A E : Type 0} (r : Result A E) (P Q : A → Type 0) → ((a : A) → P a → Q a) → IfOk r P → IfOk r Q
on_ok (Ok x) P Q go w = go x w
on_ok (Err x) P Q go w = tt

sound_message : (p : Program) (tree : List Object) (shape : List Token) → IsSound p OfMessage tree shape → IsMessage p tree shape
sound_message p tree shape s = record { has = s.has; allowed = s.allowed; formed = s.formed; suits = s.suits }

-- done at once, or spent
ends_by : (spent : Bool) → end_wish (if spent then cause.Spent else cause.Done) ≡ Some (ToEnd (if spent then cause.Spent else cause.Done))
ends_by true = refl
ends_by false = refl

module _ (code : Code) (limits : Limits) where
  abbrev Gives : Fiber → Fiber → Wants Fiber → Type 0
  Gives old new w = Resumes code limits old new w

  abbrev StandsIn : Setting → Fiber → Type 0
  StandsIn set f = StandsFor task_of course_of (HoldsFiber code.program code.counted) set f

  -- its `execute` is built in
  abbrev idle_end : EndCause
  idle_end = if nat_le limits.steps 0 then cause.Spent else cause.Done

  idle_wishes : (old : Fiber) → old.idle ≡ true → (set : Setting) → set.limits ≡ limits → StandsIn set old → Wishes set old.task (course_of old) (ToEnd idle_end)
  idle_wishes old idle set is-limits s =
      let held : EndsNext set old.task s.lone (idle_cause set) = subst (λ (z : Bool). StandsAs code.program code.counted set old.task (course_of old) s.lone z old.body) idle s.held.body in
      let why : idle_cause set ≡ idle_end = ap (λ (l : Limits). if nat_le l.steps 0 then cause.Spent else cause.Done) is-limits in
      record {
        lone = s.lone;
        is = s.is;
        next = ap wish_of held.1 ∙ (ap end_wish why ∙ ends_by (nat_le limits.steps 0));
      }

  -- no take of it was refused, and it counted no more than it may
  pub idle_unasked : (f : Fiber) → f.idle ≡ true → CanRun task_of course_of (HoldsFiber code.program code.counted) ServesCode code limits f → f.refused ≡ None
  unfolding stands_at
  idle_unasked f idle can = by f.refused refl
    where
      held : EndsNext can.set f.task can.stands.lone (idle_cause can.set)
      held = subst (λ (z : Bool). StandsAs code.program code.counted can.set f.task (course_of f) can.stands.lone z f.body) idle can.stands.held.body

      by : (o : Option Waits) → f.refused ≡ o → o ≡ None
      by None e = refl
      by (Some v) e = absurd (none-some v (sym (ap get_at held.1) ∙ (can.stands.held.refused v e).1))

  pub idle_gives : (old new : Fiber) (w : Wants Fiber) → old.idle ≡ true → EndsIdle limits old new w → Gives old new w
  idle_gives old new w idle e =
      subst (λ (z : Wants Fiber). Gives old new z) (sym e.ends)
      (subst (λ (z : Fiber). Gives old z (wants.End idle_end)) (sym e.same) (record {
        task = refl;
        course = refl;
        wants = λ set served is-limits s. idle_wishes old idle set is-limits s;
        rest = e.none;
        refused = e.none;
        fresh = tt;
        none = tt;
        counted = omega (arith);
        bounded = e.most;
      }))

  -- a body came to something
  module _ (f : Fiber) (b : Body) (busy : f.idle ≡ false) (roomy : RoomyIn code.program b.frames) (more : f.body.count ≤ b.count) (most : b.count ≤ limits.steps) where
    abbrev mid : Fiber
    mid = record f { body = b }

    abbrev Came_to : Came → Type 0
    Came_to a = (set : Setting) → ServesCode set code → set.limits ≡ limits → (s : StandsIn set f) → CameTo code.program code.counted set f.task (course_of f) s.lone b a

    abbrev rested : Asked → Fiber
    rested a = record f { body = b; asked = a; refused = None; rests = true }

    stands : (a : Asked) → 0 < b.count → (set : Setting) → set.limits ≡ limits → (s : StandsIn set f) → CameTo code.program code.counted set f.task (course_of f) s.lone b came.Rests → StandsIn set (rested a)
    stands a some set is-limits s here = record {
      lone = s.lone;
      is = s.is;
      held = record {
        body = subst (λ (z : Bool). StandsAs code.program code.counted set f.task (course_of f) s.lone z b) (sym busy) here.next;
        fresh = λ zero t. let never : ⊥ = omega (arith, some, zero) in absurd never;
        roomy = roomy;
        most = let same = ap (λ (l : Limits). l.steps) is-limits in omega (arith, most, same);
        is-main = s.held.is-main;
        apart = here.apart;
        refused = λ v e. absurd (none-some v e);
      };
    }

    -- it was refused
    refused_gives : (v : Waits) (a : Came) (new : Fiber) (w : Wants Fiber) → f.refused ≡ Some v → Came_to a → RestsAt v a mid new w → Gives f new w
    unfolding stands
    refused_gives v a new w refused comes e =
        let here = subst Came_to e.came-is comes in
        subst (λ (z : Wants Fiber). Gives f new z) (sym e.rests)
        (subst (λ (z : Fiber). Gives f z (wants.Rest (Some v))) (sym e.same) (record {
          task = refl;
          course = refl;
          wants = λ set served is-limits s.
              let before = s.held.refused v refused in
              let some = before.0 in
              record { stands = stands f.asked (omega (arith, some, more)) set is-limits s (here set served is-limits s); at = before.1 };
          rest = (refused, refl);
          refused = refl;
          fresh = tt;
          none = tt;
          counted = more;
          bounded = most;
        }))

    module _ (none : f.refused ≡ None) where
      abbrev now : Came → Asked → Fiber
      now a q = record f { body = b; asked = q; rests = is_rest a }

      asks : (a : Came) (q : Asked) (wish : Wish) → MayAsk limits mid → wished q ≡ Some wish → (set : Setting) → set.limits ≡ limits → (s : StandsIn set f) → wish_of (next_action set f.task s.lone) ≡ Some wish →
          CanGoOn code.program code.counted set f.task (course_of f) s.lone b (Some wish) → IsApart set.program b.apart → Asks task_of course_of (AskedOf code.program code.counted) set (now a q) wish
      asks a q wish may own set is-limits s next goes apart = record {
        wishes = record { lone = s.lone; is = s.is; next = next };
        is-asked = record {
          goes = subst (λ (z : Option Wish). CanGoOn code.program code.counted set f.task (course_of f) s.lone b z) (sym own) goes;
          wish = next ∙ sym own;
          busy = busy;
          frames = may.frames;
          roomy = roomy;
          few = let few = may.few in let same = ap (λ (l : Limits). l.steps) is-limits in omega (arith, few, same);
          room = may.room;
          is-main = s.held.is-main;
          apart = apart;
        };
      }

      -- each thing that it wants
      gives_by : (a : Came) (q : Asked) (w : Wants Fiber) → ((set : Setting) → ServesCode set code → set.limits ≡ limits → (s : StandsIn set f) → Resumed task_of course_of (HoldsFiber code.program code.counted) (AskedOf code.program code.counted) set (now a q) w) →
          RestsRightly (is_rest a) f.refused f.body.count b.count w → StartsFresh (λ f. f.rests) (λ f. f.refused) w → StartsAtNone (λ f. f.body.count) w → Gives f (now a q) w
      gives_by a q w wants rest fresh zero = record {
        task = refl;
        course = refl;
        wants = wants;
        rest = rest;
        refused = none;
        fresh = fresh;
        none = zero;
        counted = more;
        bounded = most;
      }

      wanting : (a : Came) (q : Asked) (w v : Wants Fiber) → w ≡ v → Gives f (now a q) v → Gives f (now a q) w
      wanting a q w v e g = subst (λ (z : Wants Fiber). Gives f (now a q) z) (sym e) g

      gives : (a : Came) (q : Asked) (w : Wants Fiber) → Came_to a → (is_rest a ≡ true → f.body.count < b.count) → (asks_by a ≡ true → MayAsk limits mid) → WantsBy code.program f.main a w q → Gives f (now a q) w
      gives came.On q w comes more-rested may e = absurd e
      gives (came.Puts box tree shape) q w comes more-rested may e =
          wanting (came.Puts box tree shape) q w (wants.Put box tree shape) e.0 (gives_by (came.Puts box tree shape) q (wants.Put box tree shape)
          (λ set served is-limits s. let at = comes set served is-limits s in let has = at.next in (asks (came.Puts box tree shape) q (ToPut box shape) (may refl) e.1 set is-limits s has.0 has.1 at.apart, sound_message set.program tree shape has.2)) none tt tt)
      gives (came.PutWaits box tree shape) q w comes more-rested may e =
          wanting (came.PutWaits box tree shape) q w (wants.PutWait box tree shape) e.0 (gives_by (came.PutWaits box tree shape) q (wants.PutWait box tree shape)
          (λ set served is-limits s. let at = comes set served is-limits s in let has = at.next in (asks (came.PutWaits box tree shape) q (ToPutWait box shape) (may refl) e.1 set is-limits s has.0 has.1 at.apart, sound_message set.program tree shape has.2)) none tt tt)
      gives (came.Bounds box most) q w comes more-rested may e =
          wanting (came.Bounds box most) q w (wants.Bound box most) e.0 (gives_by (came.Bounds box most) q (wants.Bound box most)
          (λ set served is-limits s. let at = comes set served is-limits s in let has = at.next in (asks (came.Bounds box most) q (ToBound box most) (may refl) e.1 set is-limits s has.0 has.1 at.apart, bounds_are_new set code.program code.counted served.can)) none tt tt)
      gives (came.Takes box) q w comes more-rested may e =
          wanting (came.Takes box) q w (wants.Take box) e.0 (gives_by (came.Takes box) q (wants.Take box)
          (λ set served is-limits s. let at = comes set served is-limits s in asks (came.Takes box) q (ToTake box) (may refl) e.1 set is-limits s at.next.0 (second at.next) at.apart) none tt tt)
      gives (came.Probes box) q w comes more-rested may e =
          wanting (came.Probes box) q w (wants.Probe box) e.0 (gives_by (came.Probes box) q (wants.Probe box)
          (λ set served is-limits s. let at = comes set served is-limits s in asks (came.Probes box) q (ToProbe box) (may refl) e.1 set is-limits s at.next.0 (second at.next) at.apart) none tt tt)
      gives (came.Starts tree shape) q w comes more-rested may e =
          let new = e.0 in
          let begun = e.3 in
          wanting (came.Starts tree shape) q w (wants.Start new shape) e.1 (gives_by (came.Starts tree shape) q (wants.Start new shape)
          (λ set served is-limits s.
          let at = comes set served is-limits s in let has = at.next in (
            asks (came.Starts tree shape) q (ToStart shape) (may refl) e.2 set is-limits s has.0 has.1 at.apart,
            begun_course code.program f.main tree shape new begun,
            begun_stands set code served f.main tree shape new s.held.is-main has.2 begun,
          )) none (begun.new.rests, begun.new.refused) (ap (λ (x : Body). x.count) begun.new.body ∙ begun.begins.fresh.count))
      gives (came.Prints shape) q w comes more-rested may e =
          wanting (came.Prints shape) q w (wants.Print shape) e.0 (gives_by (came.Prints shape) q (wants.Print shape)
          (λ set served is-limits s. let at = comes set served is-limits s in let has = at.next in asks (came.Prints shape) q (ToPrint shape) (may refl) e.1 set is-limits s has.0 has.1 at.apart) none tt tt)
      gives came.Rests q w comes more-rested may e =
          let lt = more-rested refl in
          wanting came.Rests q w (wants.Rest None) e (gives_by came.Rests q (wants.Rest None)
          (λ set served is-limits s.
          subst (λ (z : Option Waits). StandsIn set (record f { body = b; asked = q; refused = z; rests = true })) (sym none) (stands q (omega (arith, lt)) set is-limits s (comes set served is-limits s)))
          (none, lt, refl) tt tt)
      gives (came.Ends why) q w comes more-rested may e =
          wanting (came.Ends why) q w (wants.End why) e (gives_by (came.Ends why) q (wants.End why)
          (λ set served is-limits s. let has = (comes set served is-limits s).next in record { lone = s.lone; is = s.is; next = ap wish_of has.1 ∙ own_wish why (own_end set f.task s.lone why has.0 has.1) }) none tt tt)

  -- ---- the branches of the call

  came_gives : (f mid new : Fiber) (a : Came) (w : Wants Fiber) → f.idle ≡ false → mid ≡ record f { body = mid.body } → RoomyIn code.program mid.body.frames → f.body.count ≤ mid.body.count → mid.body.count ≤ limits.steps → mid.refused ≡ None →
      ((set : Setting) → ServesCode set code → set.limits ≡ limits → (s : StandsIn set f) → CameTo code.program code.counted set f.task (course_of f) s.lone mid.body a) → HasWanted code.program limits f.body.count a mid new w → Gives f new w
  came_gives f mid new a w busy same roomy more most none comes e =
      let had = subst (λ (m : Fiber). HasWanted code.program limits f.body.count a m new w) same e in
      subst (λ (z : Fiber). Gives f z w) (sym had.same)
      (gives f mid.body busy roomy more most (sym (ap (λ (m : Fiber). m.refused) same) ∙ none) a had.asked w comes had.rested had.may had.by)

  rest_gives : (f mid new : Fiber) (v : Waits) (a : Came) (w : Wants Fiber) → f.idle ≡ false → mid ≡ record f { body = mid.body } → RoomyIn code.program mid.body.frames → f.body.count ≤ mid.body.count → mid.body.count ≤ limits.steps → mid.refused ≡ Some v →
      ((set : Setting) → ServesCode set code → set.limits ≡ limits → (s : StandsIn set f) → CameTo code.program code.counted set f.task (course_of f) s.lone mid.body a) → RestsAt v a mid new w → Gives f new w
  rest_gives f mid new v a w busy same roomy more most refused comes e =
      refused_gives f mid.body busy roomy more most v a new w (sym (ap (λ (m : Fiber). m.refused) same) ∙ refused) comes (subst (λ (m : Fiber). RestsAt v a m new w) same e)

  pub want_ok : (f mid new : Fiber) (a : Came) (r : Result (Wants Fiber) NoMemory) → f.idle ≡ false → mid ≡ record f { body = mid.body } → RoomyIn code.program mid.body.frames → f.body.count ≤ mid.body.count → mid.body.count ≤ limits.steps → mid.refused ≡ None →
      ((set : Setting) → ServesCode set code → set.limits ≡ limits → (s : StandsIn set f) → CameTo code.program code.counted set f.task (course_of f) s.lone mid.body a) → IfOk r (λ w. HasWanted code.program limits f.body.count a mid new w) → IfOk r (λ w. Gives f new w)
  want_ok f mid new a r busy same roomy more most none comes e =
      on_ok r (λ w. HasWanted code.program limits f.body.count a mid new w) (λ w. Gives f new w) (λ w x. came_gives f mid new a w busy same roomy more most none comes x) e

  pub rest_ok : (f mid new : Fiber) (v : Waits) (a : Came) (r : Result (Wants Fiber) NoMemory) → f.idle ≡ false → mid ≡ record f { body = mid.body } → RoomyIn code.program mid.body.frames → f.body.count ≤ mid.body.count → mid.body.count ≤ limits.steps → mid.refused ≡ Some v →
      ((set : Setting) → ServesCode set code → set.limits ≡ limits → (s : StandsIn set f) → CameTo code.program code.counted set f.task (course_of f) s.lone mid.body a) → IfOk r (λ w. RestsAt v a mid new w) → IfOk r (λ w. Gives f new w)
  rest_ok f mid new v a r busy same roomy more most refused comes e =
      on_ok r (λ w. RestsAt v a mid new w) (λ w. Gives f new w) (λ w x. rest_gives f mid new v a w busy same roomy more most refused comes x) e
