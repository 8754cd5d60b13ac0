-- What comes of an answer, for the thread of the fiber's course.
use Rattle.std.proofs.Common.{◌≡◌, ℕ, ◌<◌, ◌+◌, Bool, true, false, List, Option, Some, None, Result, Ok, Err, refl, sym, ap, subst, ◌∙◌, arith}
use Rattle.std.specs.Prelude.{OnOk}
use Rattle.std.proofs.lemmas.Option.{same_Some, none-some}
use Rattle.kilim_program.specs.Program.{Program}
use Rattle.kilim_program.specs.declared.names.BoxName.{BoxName}
use Rattle.kilim_program.specs.declared.value.Value.TheVariants.{Null, Ref}
use Rattle.kilim_run_journal.specs.declared.entry.Act.TheVariants as act
use Rattle.kilim_run_machine.specs.Moves.{push_value}
use Rattle.kilim_run_state.specs.Shapes.{shape_of}
use Rattle.kilim_run_state.specs.Trees.{OfMessage}
use Rattle.kilim_run_state.specs.declared.value.Object.{Object}
use Rattle.kilim_run_state.specs.declared.value.Token.{Token}
use Rattle.kilim_run_model.specs.State.{Setting}
use Rattle.kilim_run_model.specs.Lone.{Lone}
use Rattle.kilim_run_model.specs.Course.{Course, plain, IsLone, stands_at}
use Rattle.kilim_run_model.specs.declared.waits.Waits.{Waits}
use Rattle.kilim_run_model.specs.declared.waits.Waits.TheVariants as wait
use Rattle.kilim_run_model.specs.Moving.{further}
use Rattle.kilim_run_model.specs.declared.deed.Deed.{Deed}
use Rattle.kilim_run_trees.specs.Moved.{tree_heap}
use Rattle.kilim_fiber_spec.specs.fiber_kin.Acts.{IsSound}
use Rattle.kilim_run_board.specs.fibers.Fibers.{Asks, CanAnswer, CountsRightly, Fits, StandsFor}
use Rattle.kilim_run_board.specs.fibers.Wishes.{IsMessage, Wish, ToPut, ToPutWait, ToBound, ToTake, ToProbe, ToStart, ToPrint}
use Rattle.kilim_run_board.specs.declared.fibers.Answer.{Answer}
use Rattle.kilim_run_board.specs.declared.fibers.Answer.TheVariants as answer
use Rattle.kilim_fiber_laws.specs.woven_kin.history.History.{took}
use Rattle.kilim_fiber_laws.specs.woven_kin.Nexts.{counted, paused_at, taken_at, waiting_at, with_result}
use Rattle.kilim_fiber_laws.specs.woven_kin.Standing.{Standing}
use Rattle.kilim_fiber.proofs.Kept.{apart_same}
use Rattle.kilim_fiber_body.specs.Body.{aside_in, behind_at, standing_at, RoomIn, RoomyIn}
use Rattle.kilim_fiber_body.specs.declared.body.Body.{Body}
use Rattle.kilim_fiber_body.specs.declared.code.Code.{Code}
use Rattle.kilim_fiber_laws.specs.Fibers.{Holds}
use Rattle.kilim_fiber_laws.specs.Nexts.{Behind, CanReceive}
use Rattle.kilim_fiber.specs.Calls.{Answered, AnswerSuits, Found, IsAnswerTo, Noted, Passed, Refused, Taken, Waiting, takes_value}
use Rattle.kilim_fiber.specs.Clauses.{Went}
use Rattle.kilim_fiber.specs.Fiber.{task_of, course_of, wished, AskedOf, CanGoOn, HoldsFiber, IsApart, ServesCode, StandsAs}
use Rattle.kilim_fiber.specs.declared.fiber.Asked.{Asked}
use Rattle.kilim_fiber.specs.declared.fiber.Asked.TheVariants as asked
use Rattle.kilim_fiber.specs.declared.fiber.Fiber.{Fiber}

on_ok : {A E : Type 0} (r : Result A E) (P Q : Type 0) → (P → Q) → OnOk r P → OnOk r Q
on_ok (Ok x) P Q go w = go w
on_ok (Err x) P Q go w = w

-- what comes of an answer that is known, to what is known to be asked
pub answer_is : {A E : Type 0} (p W : Program) (q known : Asked) (a given : Answer) (old new : Fiber) (r : Result A E) → q ≡ known → a ≡ given → OnOk r (Answered p W known given old new) → OnOk r (Answered p W q a old new)
answer_is p W q known a given old new r e d w = subst (λ (z : Asked). OnOk r (Answered p W z a old new)) (sym e) (subst (λ (z : Answer). OnOk r (Answered p W known z old new)) (sym d) w)

pub answer_now : (p W : Program) (q known : Asked) (a given : Answer) (old new : Fiber) → q ≡ known → a ≡ given → Answered p W known given old new → Answered p W q a old new
answer_now p W q known a given old new e d w = subst (λ (z : Asked). Answered p W z a old new) (sym e) (subst (λ (z : Answer). Answered p W known z old new) (sym d) w)

-- ---- what may be answered

message_sound : (p : Program) (tree : List Object) (shape : List Token) → IsMessage p tree shape → IsSound p OfMessage tree shape
message_sound p tree shape s = record { has = s.has; allowed = s.allowed; formed = s.formed; suits = s.suits }

-- it is an answer to what was asked
fits_asked : (p : Program) (q : Asked) (wish : Wish) (a : Answer) (deed : Option Deed) → Some wish ≡ wished q → Fits p wish a deed → IsAnswerTo q a
fits_asked p asked.Nothing wish a deed e fits = absurd (none-some wish (sym e))
fits_asked p (asked.Put box shape) wish a deed e fits = put_fits a (subst (λ (z : Wish). Fits p z a deed) (same_Some _ _ e) fits)
  where
    put_fits : (a : Answer) → Fits p (ToPut box shape.value) a deed → IsAnswerTo (asked.Put box shape) a
    put_fits (answer.Sent n) f = tt
    put_fits _ f = absurd f
fits_asked p (asked.PutWait box shape) wish a deed e fits = wait_fits a (subst (λ (z : Wish). Fits p z a deed) (same_Some _ _ e) fits)
  where
    wait_fits : (a : Answer) → Fits p (ToPutWait box shape.value) a deed → IsAnswerTo (asked.PutWait box shape) a
    wait_fits (answer.Sent n) f = tt
    wait_fits (answer.Full tree same) f = tt
    wait_fits _ f = absurd f
fits_asked p (asked.Bound box most) wish a deed e fits = bound_fits a (subst (λ (z : Wish). Fits p z a deed) (same_Some _ _ e) fits)
  where
    bound_fits : (a : Answer) → Fits p (ToBound box most) a deed → IsAnswerTo (asked.Bound box most) a
    bound_fits answer.Done f = tt
    bound_fits _ f = absurd f
fits_asked p (asked.Take box) wish a deed e fits = take_fits a (subst (λ (z : Wish). Fits p z a deed) (same_Some _ _ e) fits)
  where
    take_fits : (a : Answer) → Fits p (ToTake box) a deed → IsAnswerTo (asked.Take box) a
    take_fits (answer.Message tree n) f = tt
    take_fits answer.Nothing f = tt
    take_fits _ f = absurd f
fits_asked p (asked.Probe box) wish a deed e fits = probe_fits a (subst (λ (z : Wish). Fits p z a deed) (same_Some _ _ e) fits)
  where
    probe_fits : (a : Answer) → Fits p (ToProbe box) a deed → IsAnswerTo (asked.Probe box) a
    probe_fits (answer.Message tree n) f = tt
    probe_fits answer.Nothing f = tt
    probe_fits _ f = absurd f
fits_asked p (asked.Start shape) wish a deed e fits = start_fits a (subst (λ (z : Wish). Fits p z a deed) (same_Some _ _ e) fits)
  where
    start_fits : (a : Answer) → Fits p (ToStart shape.value) a deed → IsAnswerTo (asked.Start shape) a
    start_fits (answer.Started n) f = tt
    start_fits _ f = absurd f
fits_asked p (asked.Print shape) wish a deed e fits = print_fits a (subst (λ (z : Wish). Fits p z a deed) (same_Some _ _ e) fits)
  where
    print_fits : (a : Answer) → Fits p (ToPrint shape.value) a deed → IsAnswerTo (asked.Print shape) a
    print_fits answer.Done f = tt
    print_fits _ f = absurd f

pub answers_asked : (code : Code) (old : Fiber) (a : Answer) (q : Asked) → q ≡ old.asked → CanAnswer task_of course_of (AskedOf code.program code.counted) ServesCode code old a → IsAnswerTo q a
answers_asked code old a q e can =
    let asks = can.asks in
    fits_asked can.set.program q can.wish a can.deed (sym asks.wishes.next ∙ (asks.is-asked.wish ∙ ap wished (sym e))) can.fits

-- ---- what comes of it

module _ (set : Setting) (code : Code) (old : Fiber) (x : Asked) (new : Fiber) (last : Lone) (is : IsLone set old.task (course_of old) last) (held : AskedOf code.program code.counted set old last) where
  abbrev p : Program
  p = set.program

  abbrev W : Program
  W = code.program

  abbrev marks : List (List Bool)
  marks = code.counted

  abbrev mid : Fiber
  mid = record old { asked = x; refused = None }

  further_is : (d : Deed) → Noted mid new d → course_of new ≡ further (course_of old) d
  further_is d n = λ i. record { beginning = n.beginning i; deeds = n.past i }

  abbrev IsBehind : Deed → Standing → Type 0
  IsBehind d f = Behind set W marks old.task (course_of old) d f

  -- it stands for the course with that deed
  stands : (d : Deed) (s : Standing) → Noted mid new d → standing_at 0 new.body ≡ s → RoomyIn W new.body.frames → s.done ≡ old.body.count + 1 → s.aside ≡ aside_in old.body.apart → IsBehind d s → StandsFor task_of course_of (HoldsFiber W marks) set new
  stands d s n e roomy one same w =
      let few = held.few in
      let count : new.body.count ≡ old.body.count + 1 = ap (λ (f : Standing). f.done) e ∙ one in
      let idle : new.idle ≡ false = n.idle ∙ held.busy in
      record {
        lone = w.lone;
        is = subst (λ (c : Course). IsLone set new.task c w.lone) (sym (further_is d n)) (subst (λ (t : ℕ). IsLone set t (further (course_of old) d) w.lone) (sym n.task) w.is);
        held = record {
          body = subst (λ (z : Bool). StandsAs W marks set new.task (course_of new) w.lone z new.body) (sym idle)
              (subst (λ (c : Course). Holds set W marks new.task c (standing_at 0 new.body)) (sym (further_is d n))
              (subst (λ (t : ℕ). Holds set W marks t (further (course_of old) d) (standing_at 0 new.body)) (sym n.task) (subst (λ (f : Standing). Holds set W marks old.task (further (course_of old) d) f) (sym e) w.holds)));
          fresh = λ zero t. let never : ⊥ = omega (arith, count, zero) in absurd never;
          roomy = roomy;
          most = omega (arith, few, count);
          is-main = held.is-main ∙ sym n.main;
          apart = apart_same set.program new.body.apart old.body.apart (ap (λ (f : Standing). f.aside) e ∙ same) held.apart;
          refused = λ v h. absurd (none-some v (sym n.refused ∙ h));
        };
      }

  -- with the deed that was made
  made : (wish : Wish) (d : Deed) (s : Standing) (deed : Option Deed) → deed ≡ Some d → ((before after : ℕ) (refused : Option Waits) → before < after → refused ≡ None → CountsRightly wish before after refused (Some d)) →
      Noted mid new d → standing_at 0 new.body ≡ s → RoomyIn W new.body.frames → s.done ≡ old.body.count + 1 → s.aside ≡ aside_in old.body.apart → IsBehind d s → Went code set old wish deed new
  made wish d s deed e counts n at roomy one same w =
      let few = held.few in
      let count : new.body.count ≡ old.body.count + 1 = ap (λ (f : Standing). f.done) at ∙ one in
      subst (λ (o : Option Deed). Went code set old wish o new) (sym e)
      (further_is d n, stands d s n at roomy one same w, counts old.body.count new.body.count new.refused (omega (arith, count)) n.refused, omega (arith, few, count))

  passed : (wish : Wish) (d : Deed) (s : Standing) (deed : Option Deed) → deed ≡ Some d → ((before after : ℕ) (refused : Option Waits) → before < after → refused ≡ None → CountsRightly wish before after refused (Some d)) →
      Passed W mid new d s → s.done ≡ old.body.count + 1 → s.aside ≡ aside_in old.body.apart → IsBehind d s → Went code set old wish deed new
  passed wish d s deed e counts w one same behind = made wish d s deed e counts w.noted w.stands w.roomy one same behind

  -- the message that was told is the one that came
  same_message : (tree : List Object) (shape given : List Token) → shape_of p (tree_heap tree) 0 ≡ Some given → IsMessage p tree shape → shape ≡ given
  same_message tree shape given e m = same_Some _ _ (sym m.has ∙ e)

  -- a body that received a tree, where it goes on
  as_pushed : (b : Body) (v : ℕ) → b ≡ record old.body { heap = b.heap } → with_result (Some (Ref v)) (taken_at (behind_at 0 b)) ≡ record (taken_at (behind_at 0 old.body)) { frames = push_value (Ref v) (taken_at (behind_at 0 old.body)).frames; heap = b.heap }
  as_pushed b v e = ap (λ (o : Body). with_result (Some (Ref v)) (taken_at (behind_at 0 o))) e

  as_found : (b : Body) (v : ℕ) → b ≡ record old.body { heap = b.heap } → with_result (Some (Ref v)) (counted (behind_at 0 b)) ≡ record (counted (behind_at 0 old.body)) { frames = push_value (Ref v) (counted (behind_at 0 old.body)).frames; heap = b.heap }
  as_found b v e = ap (λ (o : Body). with_result (Some (Ref v)) (counted (behind_at 0 o))) e

  take_came : (box : BoxName) (tree : List Object) (n : ℕ) (deed : Option Deed) → Taken p W mid new box tree n → CanReceive set W marks old.task (course_of old) box (taken_at (behind_at 0 old.body)) → Fits p (ToTake box) (answer.Message tree n) deed → Went code set old (ToTake box) deed new
  take_came box tree n deed w receive (shape, message, e) =
      let has = w.body in
      let same = same_message tree shape w.shape has.received.has message in
      let s = record (taken_at (behind_at 0 old.body)) { frames = push_value (Ref has.root) (taken_at (behind_at 0 old.body)).frames; heap = has.mid.heap } in
      made (ToTake box) (took box n w.shape) s deed (e ∙ ap (λ (z : List Token). Some (took box n z)) same) (λ b a r lt none. (lt, none)) w.noted
      (has.stands ∙ as_pushed has.mid has.root has.received.same) has.roomy refl refl
      (receive n tree w.shape has.mid.heap has.root (message_sound p tree w.shape (subst (IsMessage p tree) same message)) has.received.put)

  probe_came : (box : BoxName) (tree : List Object) (n : ℕ) (deed : Option Deed) → Found p W mid new box tree n → CanReceive set W marks old.task (course_of old) box (counted (behind_at 0 old.body)) → Fits p (ToProbe box) (answer.Message tree n) deed → Went code set old (ToProbe box) deed new
  probe_came box tree n deed w receive (shape, message, e) =
      let has = w.body in
      let same = same_message tree shape w.shape has.received.has message in
      let s = record (counted (behind_at 0 old.body)) { frames = push_value (Ref has.root) (counted (behind_at 0 old.body)).frames; heap = has.mid.heap } in
      made (ToProbe box) (took box n w.shape) s deed (e ∙ ap (λ (z : List Token). Some (took box n z)) same) (λ b a r lt none. (lt, none)) w.noted
      (has.stands ∙ as_found has.mid has.root has.received.same) has.roomy refl refl
      (receive n tree w.shape has.mid.heap has.root (message_sound p tree w.shape (subst (IsMessage p tree) same message)) has.received.put)

  -- it pauses at the take
  refused_so : (box : BoxName) (deed : Option Deed) → Refused W mid new box → Holds set W marks old.task (course_of old) (paused_at box (behind_at 0 old.body)) → stands_at set old.task last ≡ Some (wait.Take box) → 0 < old.body.count → deed ≡ None → Went code set old (ToTake box) deed new
  refused_so box deed w holds at some e =
      let few = held.few in
      let count : new.body.count ≡ old.body.count = ap (λ (f : Standing). f.done) w.stands in
      let idle : new.idle ≡ false = w.idle ∙ held.busy in
      let there : Holds set W marks new.task (course_of new) (standing_at 0 new.body) = subst (λ (c : Course). Holds set W marks new.task c (standing_at 0 new.body)) (sym w.course)
      (subst (λ (t : ℕ). Holds set W marks t (course_of old) (standing_at 0 new.body)) (sym w.task) (subst (λ (f : Standing). Holds set W marks old.task (course_of old) f) (sym w.stands) holds)) in
      let all : HoldsFiber W marks set new last = record {
        body = subst (λ (z : Bool). StandsAs W marks set new.task (course_of new) last z new.body) (sym idle) there;
        fresh = λ zero t. let never : ⊥ = omega (arith, count, zero, some) in absurd never;
        roomy = w.roomy;
        most = omega (arith, few, count);
        is-main = held.is-main ∙ sym w.main;
        apart = apart_same set.program new.body.apart old.body.apart (ap (λ (f : Standing). f.aside) w.stands) held.apart;
        refused = λ other d. (
          omega (arith, some, count),
          ap (λ (t : ℕ). stands_at set t last) w.task ∙ (at ∙ (sym w.refused ∙ d)),
        );
      } in
      let lone : IsLone set new.task (course_of new) last = subst (λ (c : Course). IsLone set new.task c last) (sym w.course) (subst (λ (t : ℕ). IsLone set t (course_of old) last) (sym w.task) is) in
      subst (λ (o : Option Deed). Went code set old (ToTake box) o new) (sym e) (w.course, record { lone = last; is = lone; held = all }, (count, w.refused), omega (arith, few, count))

  -- it pauses at the put
  waits_so : (box : BoxName) (tree : List Object) (shape : List Token) (deed : Option Deed) → Waiting W mid new box tree shape → Holds set W marks old.task (course_of old) (waiting_at box (behind_at 0 (record old.body { apart = Some (record { tree = tree; shape = shape }) }))) →
      stands_at set old.task last ≡ Some (wait.Put box) → 0 < old.body.count → IsMessage p tree shape → deed ≡ None → Went code set old (ToPutWait box shape) deed new
  waits_so box tree shape deed w holds at some message e =
      let few = held.few in
      let count : new.body.count ≡ old.body.count = ap (λ (f : Standing). f.done) w.stands in
      let idle : new.idle ≡ false = w.idle ∙ held.busy in
      let there : Holds set W marks new.task (course_of new) (standing_at 0 new.body) = subst (λ (c : Course). Holds set W marks new.task c (standing_at 0 new.body)) (sym w.course)
      (subst (λ (t : ℕ). Holds set W marks t (course_of old) (standing_at 0 new.body)) (sym w.task) (subst (λ (f : Standing). Holds set W marks old.task (course_of old) f) (sym w.stands) holds)) in
      let all : HoldsFiber W marks set new last = record {
        body = subst (λ (z : Bool). StandsAs W marks set new.task (course_of new) last z new.body) (sym idle) there;
        fresh = λ zero t. let never : ⊥ = omega (arith, count, zero, some) in absurd never;
        roomy = w.roomy;
        most = omega (arith, few, count);
        is-main = held.is-main ∙ sym w.main;
        apart = apart_same set.program new.body.apart (Some (record { tree = tree; shape = shape })) (ap (λ (f : Standing). f.aside) w.stands) message;
        refused = λ other d. (
          omega (arith, some, count),
          ap (λ (t : ℕ). stands_at set t last) w.task ∙ (at ∙ (sym w.refused ∙ d)),
        );
      } in
      let lone : IsLone set new.task (course_of new) last = subst (λ (c : Course). IsLone set new.task c last) (sym w.course) (subst (λ (t : ℕ). IsLone set t (course_of old) last) (sym w.task) is) in
      subst (λ (o : Option Deed). Went code set old (ToPutWait box shape) o new) (sym e) (w.course, record { lone = last; is = lone; held = all }, (count, w.refused), omega (arith, few, count))

  abbrev GoesOn : Option Wish → Type 0
  GoesOn w = CanGoOn W marks set old.task (course_of old) last old.body w

  -- each answer
  by_answer : (q : Asked) (a : Answer) (deed : Option Deed) → Answered p W q a mid new → GoesOn (wished q) → (wish : Wish) → Some wish ≡ wished q → Fits p wish a deed → Went code set old wish deed new
  by_answer (asked.Put box shape) (answer.Sent n) deed w go wish e fits =
      subst (λ (z : Wish). Fits p z (answer.Sent n) deed → Went code set old z deed new) (sym (same_Some _ _ e))
      (λ fit. passed (ToPut box shape.value) (plain (act.Put box n shape.value)) (counted (behind_at 0 old.body)) deed fit (λ b a r lt none. (lt, none)) w refl refl (go n)) fits
  by_answer (asked.PutWait box shape) (answer.Sent n) deed w go wish e fits =
      subst (λ (z : Wish). Fits p z (answer.Sent n) deed → Went code set old z deed new) (sym (same_Some _ _ e))
      (λ fit. passed (ToPutWait box shape.value) (plain (act.Put box n shape.value)) (taken_at (behind_at 0 old.body)) deed fit (λ b a r lt none. (lt, none)) w refl refl (go.1 n)) fits
  by_answer (asked.PutWait box shape) (answer.Full tree same) deed w go wish e fits =
      subst (λ (z : Wish). Fits p z (answer.Full tree same) deed → Went code set old z deed new) (sym (same_Some _ _ e))
      (λ fit.
      waits_so box tree shape.value deed (subst (λ (ts : List Token). Waiting W mid new box tree ts) fit.1 w) (go.0 tree) go.2 go.3 fit.2 fit.0) fits
  by_answer (asked.Bound box most) answer.Done deed w go wish e fits =
      subst (λ (z : Wish). Fits p z answer.Done deed → Went code set old z deed new) (sym (same_Some _ _ e))
      (λ fit. passed (ToBound box most) (plain (act.Bound box most)) (counted (behind_at 0 old.body)) deed fit (λ b a r lt none. (lt, none)) w refl refl go) fits
  by_answer (asked.Take box) (answer.Message tree n) deed w go wish e fits =
      subst (λ (z : Wish). Fits p z (answer.Message tree n) deed → Went code set old z deed new) (sym (same_Some _ _ e)) (λ fit. take_came box tree n deed w go.1 fit) fits
  by_answer (asked.Take box) answer.Nothing deed w go wish e fits =
      subst (λ (z : Wish). Fits p z answer.Nothing deed → Went code set old z deed new) (sym (same_Some _ _ e)) (λ fit. refused_so box deed w go.0 go.2 go.4 fit) fits
  by_answer (asked.Probe box) (answer.Message tree n) deed w go wish e fits =
      subst (λ (z : Wish). Fits p z (answer.Message tree n) deed → Went code set old z deed new) (sym (same_Some _ _ e)) (λ fit. probe_came box tree n deed w go.1 fit) fits
  by_answer (asked.Probe box) answer.Nothing deed w go wish e fits =
      subst (λ (z : Wish). Fits p z answer.Nothing deed → Went code set old z deed new) (sym (same_Some _ _ e))
      (λ fit. passed (ToProbe box) (plain (act.Empty box)) (with_result (Some Null) (counted (behind_at 0 old.body))) deed fit (λ b a r lt none. (lt, none)) w refl refl go.0) fits
  by_answer (asked.Start shape) (answer.Started n) deed w go wish e fits =
      subst (λ (z : Wish). Fits p z (answer.Started n) deed → Went code set old z deed new) (sym (same_Some _ _ e))
      (λ fit. passed (ToStart shape.value) (plain (act.Start n shape.value)) (counted (behind_at 0 old.body)) deed fit (λ b a r lt none. (lt, none)) w refl refl (go n)) fits
  by_answer (asked.Print shape) answer.Done deed w go wish e fits =
      subst (λ (z : Wish). Fits p z answer.Done deed → Went code set old z deed new) (sym (same_Some _ _ e))
      (λ fit. passed (ToPrint shape.value) (plain (act.Print shape.value)) (counted (behind_at 0 old.body)) deed fit (λ b a r lt none. (lt, none)) w refl refl go) fits
  by_answer q a deed w go wish e fits = absurd w

-- the clause of the call
pub goes : {A E : Type 0} (code : Code) (a : Answer) (old : Fiber) (x : Asked) (new : Fiber) (r : Result A E) (q : Asked) → q ≡ old.asked → OnOk r (Answered code.plain code.program q a (record old { asked = x; refused = None }) new) →
    (set : Setting) (wish : Wish) (deed : Option Deed) → ServesCode set code → Asks task_of course_of (AskedOf code.program code.counted) set old wish → Fits set.program wish a deed → OnOk r (Went code set old wish deed new)
goes code a old x new r q is w set wish deed served asks fits =
    let lone = asks.wishes.lone in
    let held = asks.is-asked in
    let named : Some wish ≡ wished q = sym asks.wishes.next ∙ (held.wish ∙ ap wished (sym is)) in
    on_ok r (Answered code.plain code.program q a (record old { asked = x; refused = None }) new) (Went code set old wish deed new)
    (λ done. by_answer set code old x new lone asks.wishes.is held q a deed (subst (λ (p : Program). Answered p code.program q a (record old { asked = x; refused = None }) new) (sym served.program) done)
    (subst (λ (z : Asked). CanGoOn code.program code.counted set old.task (course_of old) lone old.body (wished z)) (sym is) held.goes) wish named fits) w
