-- What a task in hand comes to.
use Rattle.std.proofs.Common.{◌≡◌, ℕ, List, [], Option, Some, None, refl, sym, ap, subst, ◌∙◌}
use Rattle.std.specs.Prelude.{Result, Ok, Err, OnOk, IfOk}
use Rattle.kilim_run_state.specs.declared.cause.EndCause.{EndCause}
use Rattle.kilim_run_state.specs.declared.cause.EndCause.TheVariants as cause
use Rattle.kilim_run_state.specs.declared.value.Token.{Token}
use Rattle.kilim_run_journal.specs.declared.entry.Act.TheVariants.{Print, Start, End}
use Rattle.kilim_run_model.specs.State.{Setting}
use Rattle.kilim_run_model.specs.Lone.{Lone}
use Rattle.kilim_run_model.specs.Course.{Course, IsLone, plain}
use Rattle.kilim_run_model.specs.declared.deed.Beginning.{Beginning}
use Rattle.kilim_run_model.specs.declared.deed.Beginning.TheVariants.{Begun}
use Rattle.kilim_run_model.specs.Moving.{further}
use Rattle.kilim_run_model.specs.declared.deed.Deed.{Deed}
use Rattle.kilim_run_board.specs.declared.fibers.Answer.{Answer}
use Rattle.kilim_run_board.specs.declared.fibers.Answer.TheVariants as answer
use Rattle.kilim_run_board.specs.declared.fibers.Wants.{Wants}
use Rattle.kilim_run_board.specs.declared.fibers.Wants.TheVariants as wants
use Rattle.kilim_run_board.specs.fibers.Fibers.{StandsFor, Asks, Fits, Resumed, IsNewCourse}
use Rattle.kilim_run_board.specs.fibers.Wishes.{Wish, Wishes, ToStart, ToPrint, ToEnd}
use Rattle.kilim_mail_ledger.specs.Ledger.{Trace, trace_course, IsTrace}
use Rattle.kilim_mail_ledger.specs.Goings.{latest}
use Rattle.kilim_mail_notes.specs.Histories.{trace_of}
use Rattle.kilim_mail_notes.specs.declared.histories.History.{History}
use Rattle.kilim_mail_register.specs.declared.register.Started.{Started}
use Rattle.kilim_mail_register.specs.declared.register.Started.TheVariants as started
use Rattle.kilim_mail_register.specs.Register.{IsStarted}
use Rattle.kilim_mail_ready.specs.declared.body.Body.{Body}
use Rattle.kilim_mail_ready.specs.Ready.{FiberStands, BodyStands}
use Rattle.kilim_mail_group.specs.Group.{BodyAsks}
use Rattle.kilim_mail_group.proofs.Bodies.{answered, ended}
use Rattle.kilim_mail_worker.specs.declared.own.Own.{Own}
use Rattle.kilim_mail_worker.specs.Own.{BodyEnds, NotesAlone}
use Rattle.kilim_mail_worker.specs.Turns.{BodyWants, StartedStands, IsBirth}

module _ {F : Type 0} (task : F → ℕ) (course : F → Course) (holds asked : Setting → F → Lone → Type 0) (set : Setting) where
  -- ---- a fiber that stands for its task's history

  unanswered : (f : F) (c : Course) (a : Option Answer) → a ≡ None → FiberStands task course holds asked set f c a → (course f ≡ c) × StandsFor task course holds set f
  unanswered f c a none stands = subst (λ (x : Option Answer). FiberStands task course holds asked set f c x) none stands

  module _ (b : Body F) (none : b.pending ≡ None) (stands : BodyStands task course holds asked set b) where
    pub stands_for : StandsFor task course holds set b.fiber
    stands_for = (unanswered b.fiber (trace_course (trace_of b.history)) b.pending none stands.fiber).1

    -- and has run on
    module _ (f : F) (same : task f ≡ task b.fiber) (same-course : course f ≡ course b.fiber) where
      abbrev now : Body F
      now = record { fiber = f; clock = b.clock; pending = b.pending; history = b.history }

      own : course f ≡ trace_course (trace_of b.history)
      own = same-course ∙ (unanswered b.fiber (trace_course (trace_of b.history)) b.pending none stands.fiber).0

      asks : (wish : Wish) → Asks task course asked set f wish → BodyAsks task course asked set now wish
      asks wish is = record { trace = stands.trace; task-is = same ∙ stands.task-is; clock = stands.clock; same = own; asks = is }

      rests : StandsFor task course holds set f → BodyStands task course holds asked set now
      rests is = record {
        trace = stands.trace;
        task-is = same ∙ stands.task-is;
        clock = stands.clock;
        fiber = subst (λ (x : Option Answer). FiberStands task course holds asked set f (trace_course (trace_of b.history)) x) (sym none) (own, is);
      }

      ends : (why : EndCause) → Wishes set (task f) (course f) (ToEnd why) → BodyEnds set now why
      ends why is = record {
        trace = stands.trace;
        clock = stands.clock;
        wishes = subst (λ (t : ℕ). Wishes set t (trace_course (trace_of b.history)) (ToEnd why)) (same ∙ stands.task-is) (subst (λ (c : Course). Wishes set (task f) c (ToEnd why)) own is);
      }

      pub wanted : (w : Wants F) → Resumed task course holds asked set f w → BodyWants task course holds asked set now w
      wanted (wants.Put box tree shape) (is, message) = (asks _ is, message)
      wanted (wants.PutWait box tree shape) (is, message) = (asks _ is, message)
      wanted (wants.Bound box most) (is, new) = asks _ is
      wanted (wants.Take box) is = asks _ is
      wanted (wants.Probe box) is = asks _ is
      wanted (wants.Start new shape) (is, begins, fresh) = (asks _ is, begins, fresh)
      wanted (wants.Print shape) is = asks _ is
      wanted (wants.Rest None) is = rests is
      wanted (wants.Rest (Some waits)) is = rests is.stands
      wanted (wants.End why) is = ends why is

  pub pending_is : (b : Body F) (o : Option Answer) → b.pending ≡ o → BodyStands task course holds asked set b → BodyStands task course holds asked set (record { fiber = b.fiber; clock = b.clock; pending = o; history = b.history })
  pending_is b o is stands = subst (λ (x : Option Answer). BodyStands task course holds asked set (record { fiber = b.fiber; clock = b.clock; pending = x; history = b.history })) is stands

  -- ---- it is answered

  pub goes_on : (b : Body F) (a : Answer) (f : F) → b.pending ≡ None → BodyStands task course holds asked set (record { fiber = b.fiber; clock = b.clock; pending = Some a; history = b.history }) → task f ≡ task b.fiber →
      ((wish : Wish) (d : Deed) → Asks task course asked set b.fiber wish → Fits set.program wish a (Some d) → (course f ≡ further (course b.fiber) d) × StandsFor task course holds set f) →
      BodyStands task course holds asked set (record { fiber = f; clock = b.clock; pending = b.pending; history = b.history })
  goes_on b a f none stands same goes =
      let is = stands.fiber in
      let on = goes is.0 is.1 is.3 is.4 in
      record {
        trace = stands.trace;
        task-is = same ∙ stands.task-is;
        clock = stands.clock;
        fiber = subst (λ (x : Option Answer). FiberStands task course holds asked set f (trace_course (trace_of b.history)) x) (sym none) (on.0 ∙ sym is.2, on.1);
      }

  -- ---- what it prints

  pub printed : (o o' : Own) (old new : Body F) (shape : List Token) → BodyAsks task course asked set old (ToPrint shape) → NotesAlone o o' old new (Print shape) → BodyStands task course holds asked set (record { fiber = new.fiber; clock = new.clock; pending = Some answer.Done; history = new.history })
  printed o o' old new shape is n =
      answered task course asked set old new (record { stamp = n.stamp; full = None; deed = plain (Print shape) }) n.later n.history holds answer.Done (record { wish = ToPrint shape; asks = is; fits = refl }) n.fiber n.clock n.task

  -- ---- what it starts

  pub begun : (f : F) (number stamp : ℕ) (h : History) (c : Course) → task f ≡ number → course f ≡ c → IsNewCourse c → StandsFor task course holds set f → trace_of h ≡ record { task = number; stamp = stamp; beginning = c.beginning; past = [] } → BodyStands task course holds asked set (record { fiber = f; clock = stamp; pending = None; history = h })
  begun f number stamp h c number-is course-is new is history = record {
    trace = subst (λ (t : Trace). IsTrace set t) (sym history)
        (record {
          lone = is.lone;
          is = subst (λ (t : ℕ). IsLone set t (record { beginning = c.beginning; deeds = [] }) is.lone) number-is (subst (λ (x : Course). IsLone set (task f) x is.lone) same is.is);
          rises = tt;
          told = tt;
        });
    task-is = number-is ∙ sym (ap (λ (t : Trace). t.task) history);
    clock = ap (λ (t : Trace). latest t.stamp t.past) (sym history);
    fiber = (same ∙ ap trace_course (sym history), is);
  }
    where
      same : course f ≡ record { beginning = c.beginning; deeds = [] }
      same = course-is ∙ ap (λ (ds : List Deed). record { beginning = c.beginning; deeds = ds }) new

  pub starts_as : (b : Body F) (h : History) (shape : List Token) (s : Started) → BodyAsks task course asked set b (ToStart shape) → IsStarted (trace_of b.history) b.clock shape (trace_of h) s →
      StartedStands task course holds asked set (record { fiber = b.fiber; clock = b.clock; pending = b.pending; history = h }) s
  starts_as b h shape (started.Task number stamp history) is (later, grown, birth) =
      answered task course asked set b (record { fiber = b.fiber; clock = stamp; pending = b.pending; history = h }) (record { stamp = stamp; full = None; deed = plain (Start number shape) }) later grown holds (answer.Started number)
      (record { wish = ToStart shape; asks = is; fits = refl }) refl refl (ap (λ (t : Trace). t.task) grown)
  starts_as b h shape (started.OutOfTasks stamp) is (later, grown) =
      ended task course asked set b (record { fiber = b.fiber; clock = stamp; pending = b.pending; history = h }) (record { stamp = stamp; full = None; deed = plain (End cause.Tasks) }) later grown (ToStart shape) is refl

module _ {F : Type 0} (task : F → ℕ) (course : F → Course) (holds asked : Setting → F → Lone → Type 0) (Of : Setting → Type 0) (b : Body F) (f : F) (none : b.pending ≡ None) (stands : (set : Setting) → Of set → BodyStands task course holds asked set b) where
  -- what it wants, where it has run on
  pub resumed : {E : Type 0} (r : Result (Wants F) E) → OnOk r (task f ≡ task b.fiber) → OnOk r (course f ≡ course b.fiber) → ((set : Setting) → Of set → IfOk r (λ w. Resumed task course holds asked set f w)) →
      IfOk r (λ w. (set : Setting) → Of set → BodyWants task course holds asked set (record { fiber = f; clock = b.clock; pending = b.pending; history = b.history }) w)
  resumed (Ok w) same same-course wants = λ set is. wanted task course holds asked set b none (stands set is) f same same-course w (wants set is)
  resumed (Err e) same same-course wants = tt

pub is_birth : (old new : Trace) (clock : ℕ) (shape : List Token) (beginning : Beginning) (s : Started) → beginning ≡ Begun shape → IsStarted old clock shape new s → IsBirth beginning s
is_birth old new clock shape beginning (started.Task number stamp history) same (later, grown, birth) = birth ∙ ap (λ (b : Beginning). record { task = number; stamp = stamp; beginning = b; past = [] }) (sym same)
is_birth old new clock shape beginning (started.OutOfTasks stamp) same is = tt
