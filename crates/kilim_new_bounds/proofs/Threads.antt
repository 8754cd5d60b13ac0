-- A thread on a heap of its own, seen from one mailbox.
use Rattle.std.proofs.Common.{◌≡◌, ◌⊎◌, inl, inr, ℕ, zero, suc, ◌+◌, ◌<◌, ◌≤◌, ℤ, pos, negsuc, Bool, true, false, cond, eqb, List, [], ◌∷◌, length, Option, Some, None, refl, sym, ap, subst, ◌∙◌, arith}
use Rattle.std.specs.Prelude.{nat_le, nat_lt}
use Rattle.std.specs.FinMap.{insert}
use Rattle.std.proofs.lemmas.Bool.{and_parts, eqb-true}
use Rattle.kilim_program.specs.declared.class.Method.{Method}
use Rattle.kilim_program.specs.declared.names.BoxName.{BoxName}
use Rattle.kilim_program.specs.declared.names.ClassId.{ClassId}
use Rattle.kilim_program.specs.declared.names.MethodId.{MethodId}
use Rattle.kilim_program.specs.declared.ty.Ty.{Ty}
use Rattle.kilim_program.specs.declared.value.Value.{Value}
use Rattle.kilim_program.specs.declared.value.Value.TheVariants.{Int, Long, Null, Ref, Text, Box, Fiber}
use Rattle.kilim_program.specs.Members.{execute_of}
use Rattle.kilim_program.specs.Names.{method_at}
use Rattle.kilim_program.specs.Program.{Program}
use Rattle.kilim_program.specs.Same.{is_constructor}
use Rattle.kilim_run_state.specs.declared.cause.EndCause.{EndCause}
use Rattle.kilim_run_state.specs.declared.cause.EndCause.TheVariants as cause
use Rattle.kilim_run_state.specs.declared.value.Object.{Object}
use Rattle.kilim_run_state.specs.declared.value.Token.{Token}
use Rattle.kilim_run_state.specs.Machine.{Activation, Objects}
use Rattle.kilim_run_state.specs.Objects.{new_object}
use Rattle.kilim_run_state.specs.Shapes.{shape_of}
use Rattle.kilim_run_state.specs.Trees.{with_objects}
use Rattle.kilim_run_machine.specs.Does.{is_mailbox}
use Rattle.kilim_run_machine.specs.Moves.{Move, entered, moves, push_value}
use Rattle.kilim_run_machine.specs.Moves as move
use Rattle.kilim_run_machine.specs.Natives.{Native, native_of}
use Rattle.kilim_run_machine.specs.Natives as native
use Rattle.kilim_run_machine.specs.Raising.{index_at, other_index, raised_class, thrown, unwound}
use Rattle.kilim_run_model.specs.State.{Setting, Thread, Alive, Ended, begun_in, begun_on}
use Rattle.kilim_run_model.specs.Lone.{Lone, Next, Goes, Puts, PutWaits, Bounds, Gets, Probes, Starts, Prints, Ends, Stands, arg_at, arg_next, asks_next, begins_next, bound_next, box_limit, finish_next, frames_next, message_next, native_next, next_by, next_move, on_heap, opens_next, over, print_next, printed, pushed, put_next, put_wait_next, raised, start_next, thread_next, wait_next, went}
use Rattle.kilim_run_model.specs.Course.{received}
use Rattle.kilim_type_sound.specs.Caught.{HandlersKeep}
use Rattle.kilim_type_sound.specs.Facts.{Facts}
use Rattle.kilim_type_sound.specs.Fits.{AValue, AreThere, BelowFit, Classes, Fits, FrameFits, FramesFit, Nothing, StackFits, Wanted, result_awaited}
use Rattle.kilim_type_sound.specs.Sound.{AsksFit, MoveFits, TopStands}
use Rattle.kilim_type_sound.proofs.Caught.{all_handlers_keep, index_is, other_is}
use Rattle.kilim_type_sound.proofs.Grounds.{facts_hold}
use Rattle.kilim_type_sound.proofs.Raised.{of_has, raises_has, throws_has}
use Rattle.kilim_type_sound.proofs.Steps.{vtype_set}
use Rattle.kilim_type_sound.proofs.Theorem.{moves_fit, thrown_is_there}
use Rattle.kilim_type_spec.specs.Step.{vtype}
use Rattle.kilim_type_spec.specs.Typed.{has_code}
use Rattle.kilim_type_laws.specs.Laws.{typing_at}
use Rattle.kilim_isolation_laws.specs.typed_threads.fine.Typed.{FitsAs, IsVerified, StackIsThere, TopIsThere, frames_of}
use Rattle.kilim_isolation_laws.proofs.typed_threads.fine.Natives.{first, gives, native_gives}
use Rattle.kilim_new_bounds.proofs.Slots.{HeapSo, Mode, Away, Known, ObjectSo, StackSo, ValuesSo, good_slot, insert_so, is_box, known_fields, known_heap, known_values, slot_flows, value_so}
use Rattle.kilim_new_bounds.proofs.Effects.{first_is}
use Rattle.kilim_new_bounds.proofs.Calls.{new_plain}
use Rattle.kilim_new_bounds.proofs.Rows.{other_value}
use Rattle.kilim_new_bounds.proofs.Frames.{AllIs, AwaitsSo, Follows, FrameIs, FramesIs, InRange, Stage, Clear, Held, Open, good_at, heap_mode, mode_at, settled, thrown_is, unwound_is}
use Rattle.kilim_new_bounds.proofs.Moves.{AsksIs, Became, MoveIs, all_moved, entered_so, value_to}
use Rattle.kilim_new_bounds.proofs.Shapes.{ObjectsSo, TokensSo, shape_so, with_objects_so}

-- a mailbox that isn't unknown any more was made
abbrev pub Counts : BoxName → ℕ → Stage → ℕ → Type 0
Counts b t Clear boxes = Unit {0}
Counts b t (Held e at) boxes = b.task ≡ t → b.number < boxes
Counts b t Open boxes = b.task ≡ t → b.number < boxes

module _ (set : Setting) (sure : IsVerified set (typing_at set.program) (λ id at k. true)) (built : (id : MethodId) (callee : Method) → method_at set.program id ≡ Some callee → is_mailbox set.program callee.owner ≡ true → callee.built_in ≡ true) (bounds : (id : MethodId) (callee : Method) (k : Native) → method_at set.program id ≡ Some callee → native_of set.program id ≡ Some k → (is_constructor callee ≡ true → k ≡ native.Bound) × (k ≡ native.Bound → is_constructor callee ≡ true))
    (b : BoxName) where
  abbrev p : Program
  p = set.program

  abbrev wanted : Wanted
  wanted = λ id at k. true

  facts : Facts p
  facts = facts_hold p sure.keeps

  abbrev pub ThreadIs : ℕ → Stage → Objects → Thread → Type 0
  ThreadIs t st h (Alive frames done boxes) = AllIs p (typing_at p) b st frames h × Counts b t st boxes
  ThreadIs t st h (Ended why) = HeapSo b (heap_mode st) h

  abbrev pub LoneIs : ℕ → Stage → Lone → Type 0
  LoneIs t st l = ThreadIs t st l.heap l.thread

  -- a stage, from which the known one isn't left
  pub record Goes_on (t : ℕ) (st : Stage) (l : Lone) : Type 0 where
    pub stage : Stage
    pub known : st ≡ Open → stage ≡ Open
    pub alone : (b.task ≡ t → ⊥) → st ≡ Clear → stage ≡ Clear
    pub is : LoneIs t stage l

  abbrev Comes : ℕ → Stage → Lone → Type 0
  Comes t st after = (objects : List Object) → ObjectsSo b (heap_mode st) objects → LoneIs t st (received after objects)

  abbrev BoxGood : Stage → BoxName → Type 0
  BoxGood st box = value_so b (heap_mode st) (Box box) ≡ true

  abbrev pub NextIs : ℕ → Stage → Next → Type 0
  NextIs t st (Goes after) = (more : Classes) → FitsAs set (typing_at p) wanted more after → Goes_on t st after
  NextIs t st (Puts box root shape after) = BoxGood st box × TokensSo b (heap_mode st) shape × LoneIs t st after
  NextIs t st (PutWaits box root shape after) = BoxGood st box × TokensSo b (heap_mode st) shape × LoneIs t st after
  NextIs t st (Bounds box most after) = (((is_box b (Box box) ≡ true) × ((st ≡ Clear → ⊥) × (st ≡ Open → ⊥)) × LoneIs t Open after) ⊎ ((is_box b (Box box) ≡ false) × LoneIs t st after)) × (1 ≤ most)
  NextIs t st (Gets box after) = BoxGood st box × Comes t st after
  NextIs t st (Probes box after) = BoxGood st box × Comes t st after × LoneIs t st (pushed Null after)
  NextIs t st (Starts root shape after) = TokensSo b (heap_mode st) shape × LoneIs t st after
  NextIs t st (Prints token after) = LoneIs t st after
  NextIs t st (Ends why after) = LoneIs t st after
  NextIs t st Stands = Unit {0}

  counts_kept : (t : ℕ) (st k : Stage) (boxes : ℕ) → Follows p (typing_at p) b st k → Counts b t st boxes → Counts b t k boxes
  counts_kept t Clear k boxes f c = subst (λ (s : Stage). Counts b t s boxes) (sym (f.0 refl)) tt
  counts_kept t (Held e at) Clear boxes f c = tt
  counts_kept t (Held e at) (Held d q) boxes f c = c
  counts_kept t (Held e at) Open boxes f c = c
  counts_kept t Open k boxes f c = subst (λ (s : Stage). Counts b t s boxes) (sym (f.1 refl)) c

  counts_more : (t : ℕ) (st : Stage) (boxes : ℕ) → Counts b t st boxes → Counts b t st (boxes + 1)
  counts_more t Clear boxes c = tt
  counts_more t (Held e at) boxes c = λ s. let z = c s in omega (arith, z)
  counts_more t Open boxes c = λ s. let z = c s in omega (arith, z)

  went_on : (t : ℕ) (st : Stage) (l : Lone) (h : Objects) (frames : List Activation) (done boxes : ℕ) → Counts b t st boxes → Became p (typing_at p) b st frames h → Goes_on t st (record l { heap = h; thread = Alive frames done boxes })
  went_on t st l h frames done boxes c x = record { stage = x.stage; known = x.follows.1; alone = λ n. x.follows.0; is = (x.all, counts_kept t st x.stage boxes x.follows c) }

  same_goes : (t : ℕ) (st : Stage) (l : Lone) → LoneIs t st l → Goes_on t st l
  same_goes t st l x = record { stage = st; known = λ e. e; alone = λ n e. e; is = x }

  -- ---- what is raised

  keep : (id : MethodId) (m : Method) → method_at p id ≡ Some m → has_code m ≡ true → HandlersKeep p m (typing_at p id) (λ at k. true)
  keep id m at code = all_handlers_keep p (typing_at p) wanted sure.keeps sure.verified id m at code

  -- ---- where a method begins alone

  abbrev rested : Stage → Stage
  rested Clear = Clear
  rested (Held e at) = Clear
  rested Open = Open

  rested_open : (k : Stage) → k ≡ Open → rested k ≡ Open
  rested_open k e = ap rested e

  rested_clear : (k : Stage) → k ≡ Clear → rested k ≡ Clear
  rested_clear k e = ap rested e

  rested_heap : (k : Stage) (h : Objects) → HeapSo b (heap_mode k) h → HeapSo b (heap_mode (rested k)) h
  rested_heap Clear h a = a
  rested_heap (Held e at) h a = a
  rested_heap Open h a = a

  begun_one : (id : MethodId) (n : ℕ) (o : Option Method) (f : Activation) (fs : List Activation) → begun_in p id n o ≡ Some (f ∷ fs) → (entered p id (Ref n ∷ []) ≡ f) × (fs ≡ [])
  begun_one id n None f fs e = absurd (cc)
  begun_one id n (Some m) f fs e = by m.built_in e
    where
      head_of : List Activation → Activation
      head_of [] = entered p id (Ref n ∷ [])
      head_of (x ∷ xs) = x

      tail_of : List Activation → List Activation
      tail_of [] = []
      tail_of (x ∷ xs) = xs

      some_is : (x y : List Activation) → Some x ≡ Some y → x ≡ y
      some_is x y e = cc

      by : (z : Bool) → Some (cond z [] (entered p id (Ref n ∷ []) ∷ [])) ≡ Some (f ∷ fs) → (entered p id (Ref n ∷ []) ≡ f) × (fs ≡ [])
      by true e = absurd (cc)
      by false e = let s = some_is (entered p id (Ref n ∷ []) ∷ []) (f ∷ fs) e in (ap head_of s, sym (ap tail_of s))

  pub begun_frames : (h : Objects) (of : Classes) (n : ℕ) (o : Option MethodId) (f : Activation) (fs : List Activation) → begun_on p o n ≡ Some (f ∷ fs) → (st : Stage) → Fits p (typing_at p) wanted of (f ∷ fs) h → HeapSo b (heap_mode (rested st)) h → AllIs p (typing_at p) b (rested st) (f ∷ fs) h
  begun_frames h of n None f fs e st fits heap = absurd (cc)
  begun_frames h of n (Some id) f fs e st fits heap =
      let one = begun_one id n (method_at p id) f fs e in
      subst (λ (x : Activation). AllIs p (typing_at p) b (rested st) (x ∷ fs) h) one.0
      (subst (λ (xs : List Activation). AllIs p (typing_at p) b (rested st) (entered p id (Ref n ∷ []) ∷ xs) h) (sym one.1)
      (record { frames = (entered_at (rested st) refl (subst (λ (x : Activation). FrameFits p (typing_at p) wanted of Nothing x) (sym one.0) fits.frames.0), tt); heap = heap; range = in_range st }))
    where
      in_range : (k : Stage) → InRange (rested k) 1
      in_range Clear = tt
      in_range (Held e at) = tt
      in_range Open = tt

      entered_at : (k : Stage) → rested st ≡ k → FrameFits p (typing_at p) wanted of Nothing (entered p id (Ref n ∷ [])) → FrameIs p (typing_at p) b (mode_at k 0) Nothing (entered p id (Ref n ∷ []))
      entered_at Clear e fit = entered_so p (typing_at p) wanted sure.verified b Away (λ t. refl) (λ q z. absurd (cc)) id fit.method (Ref n ∷ []) fit.there fit.code (λ con. refl) (refl, tt)
      entered_at Open e fit = entered_so p (typing_at p) wanted sure.verified b Known (λ t. refl) (λ q z. absurd (cc)) id fit.method (Ref n ∷ []) fit.there fit.code (λ con. refl) (refl, tt)
      entered_at (Held d q) e fit = absurd (none st e)
        where
          none : (k : Stage) → rested k ≡ Held d q → ⊥
          none Clear e = absurd (cc)
          none (Held x y) e = absurd (cc)
          none Open e = absurd (cc)

  module _ (t : ℕ) (st : Stage) (l : Lone) (of : Classes) (done boxes : ℕ) (counts : Counts b t st boxes) where
    settles : (h : Objects) (frames left : List Activation) (n m : ℕ) → left ≡ frames → FramesIs p (typing_at p) b st Nothing left → HeapSo b (heap_mode st) h → Goes_on t st (record l { heap = h; next = n; thread = Alive frames m boxes })
    settles h frames left n m same fs heap =
        let x = settled p (typing_at p) b st Nothing frames h (subst (λ (z : List Activation). FramesIs p (typing_at p) b st Nothing z) same fs) heap in
        record { stage = x.stage; known = x.follows.1; alone = λ none. x.follows.0; is = (record { frames = x.frames; heap = x.heap; range = x.range }, counts_kept t st x.stage boxes x.follows counts) }

    made_heap : (h : Objects) (n : ℕ) (c : ClassId) → HeapSo b (heap_mode st) h → HeapSo b (heap_mode st) (insert h n (new_object p c))
    made_heap h n c heap = insert_so b (heap_mode st) h n (new_object p c) heap (new_made c)
      where
        new_made : (c : ClassId) → ObjectSo b (heap_mode st) (new_object p c)
        new_made c = new_plain p b (heap_mode st) c

    -- ---- built-in methods

    module _ (id : MethodId) (args : List Value) (frames : List Activation) (h : Objects) (fits : AsksFit p (typing_at p) wanted of id args frames h) (asks : AsksIs p (typing_at p) b st id args frames h) where
      abbrev after : Lone
      after = went (on_heap l h) frames done boxes

      same : asks.callee ≡ fits.callee
      same = some_same (method_at p id) asks.callee fits.callee asks.there fits.there
        where
          some_same : (o : Option Method) (x y : Method) → o ≡ Some x → o ≡ Some y → x ≡ y
          some_same o x y e f = cc

      result : (k : Native) → native_of p id ≡ Some k → asks.callee.result ≡ gives (first p sure.keeps sure.form) k
      result k known = native_gives p sure.keeps sure.form id asks.callee k asks.there (subst (λ (m : Method). m.built_in ≡ true) (sym same) fits.built_in) known

      raises_asked : (why : EndCause) → NextIs t st (raised p after why)
      raises_asked why = of_has (NextIs t st) p after why asks.heap (done + 1) boxes (λ c. unwound p c (Ref after.next) frames) (raised_class p other_index why) (λ c e f fs left more on.
          let known = facts.raised other_index other_is why c e in
          settles (insert h l.next (new_object p c)) (f ∷ fs) (unwound p c (Ref l.next) frames) (l.next + 1) (done + 1) left
          (unwound_is p (typing_at p) b wanted of keep c l.next known.0 st fits.callee.result frames (below frames fits.frames fits.stands) asks.unwinds) (made_heap h l.next c asks.heap))
        where
          below : (fs : List Activation) → FramesFit p (typing_at p) wanted of (result_awaited fits.callee.result) fs → TopStands p (typing_at p) wanted of fs → BelowFit p (typing_at p) wanted of fits.callee.result fs
          below [] a c = tt
          below (top ∷ rest) a c = (a.0, c, a.1)

      abbrev Answers : Type 0
      Answers = (is_constructor asks.callee ≡ true → first_is b args ≡ false) × ValuesSo b (heap_mode st) args × FramesIs p (typing_at p) b st (result_awaited asks.callee.result) frames

      abbrev Builds : Type 0
      Builds = (is_constructor asks.callee ≡ true) × (first_is b args ≡ true) × ((st ≡ Clear → ⊥) × (st ≡ Open → ⊥)) × FramesIs p (typing_at p) b Open (result_awaited asks.callee.result) frames

      -- a result comes on top
      comes_on : (k : Stage) (ty : Ty) (v : Value) (fs : List Activation) → value_so b (heap_mode k) v ≡ true → FramesFit p (typing_at p) wanted of (AValue (vtype ty)) fs → FramesIs p (typing_at p) b k (AValue (vtype ty)) fs → FramesIs p (typing_at p) b k Nothing (push_value v fs)
      comes_on k ty v [] e fit f = tt
      comes_on k ty v (top ∷ rest) e fit f = (record { locals = f.0.locals; stack = on_top (typing_at p top.method top.place).stack fit.0.method fit.0.stack f.0.stack; makes = f.0.makes }, f.1)
        where
          m : Mode
          m = mode_at k (length rest)

          on_top : (ts : List _) (own : Method) → StackFits p own of (AValue (vtype ty)) ts top.stack → AwaitsSo b m (AValue (vtype ty)) ts top.stack → StackSo b m ts (v ∷ top.stack)
          on_top [] own fit s = absurd s
          on_top (u ∷ ts) own fit s = (slot_flows p b m (vtype ty) u v fit.0 (good_slot b m (vtype ty) v (vtype_set ty) (value_to b (heap_mode k) m (λ box. sym (good_at k (length rest) box)) v e)), s)

      length_pushed : (v : Value) (fs : List Activation) → length (push_value v fs) ≡ length fs
      length_pushed v [] = refl
      length_pushed v (f ∷ fs) = refl

      without : (k : Native) → native_of p id ≡ Some k → gives (first p sure.keeps sure.form) k ≡ None → Answers → LoneIs t st after
      without k known none a = (record { frames = subst (λ (r : Option Ty). FramesIs p (typing_at p) b st (result_awaited r) frames) (result k known ∙ none) a.2; heap = asks.heap; range = asks.range }, counts)

      with_value : (k : Native) (ty : Ty) (v : Value) (after_heap : Objects) (n : ℕ) → native_of p id ≡ Some k → gives (first p sure.keeps sure.form) k ≡ Some ty → is_box b v ≡ false → HeapSo b (heap_mode st) after_heap → Answers → LoneIs t st (record after { heap = after_heap; next = n; thread = Alive (push_value v frames) (done + 1) boxes })
      with_value k ty v after_heap n known some other hs a =
          let r = result k known ∙ some in
          let fit : FramesFit p (typing_at p) wanted of (AValue (vtype ty)) frames = subst (λ (x : Option Ty). FramesFit p (typing_at p) wanted of (result_awaited x) frames) (sym (ap (λ (m : Method). m.result) same) ∙ r) fits.frames in (
            record {
              frames = comes_on st ty v frames (other_value b (heap_mode st) v other) fit (subst (λ (x : Option Ty). FramesIs p (typing_at p) b st (result_awaited x) frames) r a.2);
              heap = hs;
              range = subst (λ (j : ℕ). InRange st j) (sym (length_pushed v frames)) asks.range;
            },
            counts,
          )

      receives : (k : Native) (ty : Ty) → native_of p id ≡ Some k → gives (first p sure.keeps sure.form) k ≡ Some ty → Answers → Comes t st after
      receives k ty known some a objects os = with_value k ty (Ref l.next) (with_objects h l.next objects) (l.next + length objects) known some refl (with_objects_so b (heap_mode st) objects h l.next asks.heap os) a

      put_is : (box : BoxName) (root : ℕ) (o : Option (List Token)) → shape_of p h root ≡ o → BoxGood st box → LoneIs t st after → NextIs t st (put_next after box root o)
      put_is box root None e g f = asks.heap
      put_is box root (Some shape) e g f = (g, shape_so b (heap_mode st) p h root shape asks.heap e, f)

      put_wait_is : (box : BoxName) (root : ℕ) (o : Option (List Token)) → shape_of p h root ≡ o → BoxGood st box → LoneIs t st after → NextIs t st (put_wait_next after box root o)
      put_wait_is box root None e g f = asks.heap
      put_wait_is box root (Some shape) e g f = (g, shape_so b (heap_mode st) p h root shape asks.heap e, f)

      message_is : (box : BoxName) (v : Value) → BoxGood st box → LoneIs t st after → NextIs t st (message_next p after box v)
      message_is box Null g f = raises_asked cause.Null
      message_is box (Ref root) g f = put_is box root (shape_of p h root) refl g f
      message_is box (Int n) g f = tt
      message_is box (Long n) g f = tt
      message_is box (Text n) g f = tt
      message_is box (Box n) g f = tt
      message_is box Fiber g f = tt

      wait_is : (box : BoxName) (v : Value) → BoxGood st box → LoneIs t st after → NextIs t st (wait_next p after box v)
      wait_is box Null g f = raises_asked cause.Null
      wait_is box (Ref root) g f = put_wait_is box root (shape_of p h root) refl g f
      wait_is box (Int n) g f = tt
      wait_is box (Long n) g f = tt
      wait_is box (Text n) g f = tt
      wait_is box (Box n) g f = tt
      wait_is box Fiber g f = tt

      start_is : (root : ℕ) (o : Option (List Token)) → shape_of p h root ≡ o → LoneIs t st after → NextIs t st (start_next after root o)
      start_is root None e f = asks.heap
      start_is root (Some shape) e f = (shape_so b (heap_mode st) p h root shape asks.heap e, f)

      print_is : (o : Option Token) → LoneIs t st after → NextIs t st (print_next after o)
      print_is None f = tt
      print_is (Some token) f = f

      arg_is : (o : Option ℤ) → ((x : ℤ) → LoneIs t st (pushed (Int x) after)) → NextIs t st (arg_next p after o)
      arg_is None f = raises_asked cause.Index
      arg_is (Some x) f = λ more on. same_goes t st (pushed (Int x) after) (f x)

      bound_is : (box : BoxName) (x : ℤ) → (((is_box b (Box box) ≡ true) × ((st ≡ Clear → ⊥) × (st ≡ Open → ⊥)) × LoneIs t Open after) ⊎ ((is_box b (Box box) ≡ false) × LoneIs t st after)) → NextIs t st (bound_next p after box x)
      bound_is box (pos (suc n)) e = (e, omega arith)
      bound_is box (pos zero) e = raises_asked cause.Size
      bound_is box (negsuc n) e = raises_asked cause.Size

      bound_done : (box : BoxName) (rest : List Value) → native_of p id ≡ Some native.Bound → args ≡ Box box ∷ rest → Answers ⊎ Builds → ((is_box b (Box box) ≡ true) × ((st ≡ Clear → ⊥) × (st ≡ Open → ⊥)) × LoneIs t Open after) ⊎ ((is_box b (Box box) ≡ false) × LoneIs t st after)
      bound_done box rest known e (inl a) = inr (sym (ap (first_is b) e) ∙ a.0 ((bounds id asks.callee native.Bound asks.there known).1 refl), without native.Bound known refl a)
      bound_done box rest known e (inr a) = inl (
        sym (ap (first_is b) e) ∙ a.1,
        a.2,
        (
          record {
            frames = subst (λ (r : Option Ty). FramesIs p (typing_at p) b Open (result_awaited r) frames) (result native.Bound known) a.3;
            heap = known_heap b h;
            range = tt;
          },
          counted st a.2 counts,
        ),
      )
        where
          counted : (k : Stage) → (k ≡ Clear → ⊥) × (k ≡ Open → ⊥) → Counts b t k boxes → Counts b t Open boxes
          counted Clear n c = absurd (n.0 refl)
          counted (Held e at) n c = c
          counted Open n c = c

      -- where it is no bound, it isn't called on the mailbox while that is raw
      plain : (k : Native) → native_of p id ≡ Some k → (k ≡ native.Bound → ⊥) → Answers ⊎ Builds → Answers
      plain k known other (inl a) = a
      plain k known other (inr a) = absurd (other ((bounds id asks.callee k asks.there known).0 a.0))

      native_is : (k : Native) (own : List Value) → native_of p id ≡ Some k → args ≡ own → NextIs t st (native_next set after k own)
      native_is native.Execute (Ref q ∷ []) known e = λ more on. same_goes t st after (without native.Execute known refl (plain native.Execute known (λ z. absurd (cc)) asks.answers))
      native_is native.Start (Ref q ∷ []) known e = start_is q (shape_of p h q) refl (without native.Start known refl (plain native.Start known (λ z. absurd (cc)) asks.answers))
      native_is native.Put (Box box ∷ v ∷ []) known e = let a = plain native.Put known (λ z. absurd (cc)) asks.answers in message_is box v (subst (λ (vs : List Value). ValuesSo b (heap_mode st) vs) e a.1).0 (without native.Put known refl a)
      native_is native.PutWait (Box box ∷ v ∷ []) known e = let a = plain native.PutWait known (λ z. absurd (cc)) asks.answers in wait_is box v (subst (λ (vs : List Value). ValuesSo b (heap_mode st) vs) e a.1).0 (without native.PutWait known refl a)
      native_is native.Bound (Box box ∷ Int x ∷ []) known e = bound_is box x (bound_done box (Int x ∷ []) known e asks.answers)
      native_is native.Get (Box box ∷ []) known e = let a = plain native.Get known (λ z. absurd (cc)) asks.answers in ((subst (λ (vs : List Value). ValuesSo b (heap_mode st) vs) e a.1).0, receives native.Get _ known refl a)
      native_is native.Getnb (Box box ∷ []) known e = let a = plain native.Getnb known (λ z. absurd (cc)) asks.answers in ((subst (λ (vs : List Value). ValuesSo b (heap_mode st) vs) e a.1).0, receives native.Getnb _ known refl a, with_value native.Getnb _ Null h l.next known refl refl asks.heap a)
      native_is native.Print (v ∷ []) known e = print_is (printed v) (without native.Print known refl (plain native.Print known (λ z. absurd (cc)) asks.answers))
      native_is native.Yield [] known e = λ more on. same_goes t st after (without native.Yield known refl (plain native.Yield known (λ z. absurd (cc)) asks.answers))
      native_is native.ArgCount [] known e = λ more on. same_goes t st _ (with_value native.ArgCount _ (Int _) h l.next known refl refl asks.heap (plain native.ArgCount known (λ z. absurd (cc)) asks.answers))
      native_is native.Arg (Int i ∷ []) known e = arg_is (arg_at set.limits.args i) (λ x. with_value native.Arg _ (Int x) h l.next known refl refl asks.heap (plain native.Arg known (λ z. absurd (cc)) asks.answers))
      native_is _ _ known e = tt

      asked_is : (o : Option Native) → native_of p id ≡ o → NextIs t st (asks_next set after args o)
      asked_is None known = tt
      asked_is (Some k) known = native_is k args known refl

    -- ---- moves

    -- the mailbox that is made is the one, or another
    opened_is : (frames : List Activation) (h : Objects) → MoveIs p (typing_at p) b st (move.Opens frames h) → NextIs t st (opens_next t (on_heap l h) frames done boxes)
    opened_is frames h m = by (nat_lt boxes box_limit)
      where
        box : BoxName
        box = record { task = t; number = boxes }

        other : is_box b (Box box) ≡ false → Goes_on t st (record l { heap = h; thread = Alive (push_value (Box box) frames) (done + 1) (boxes + 1) })
        other n = let x = m.0 box n in record { stage = x.stage; known = x.follows.1; alone = λ none. x.follows.0; is = (x.all, counts_kept t st x.stage (boxes + 1) x.follows (counts_more t st boxes counts)) }

        its_own : is_box b (Box box) ≡ true → (b.task ≡ t) × (b.number ≡ boxes)
        its_own e = let s = and_parts (eqb b.task t) (eqb b.number boxes) e in (eqb-true b.task t s.0, eqb-true b.number boxes s.1)

        made : (k : Stage) → st ≡ k → Counts b t k boxes → is_box b (Box box) ≡ true → Goes_on t st (record l { heap = h; thread = Alive (push_value (Box box) frames) (done + 1) (boxes + 1) })
        made Clear e c y =
            let x = m.1 e box y in
            let s = its_own y in
            record { stage = x.stage; known = λ o. absurd (let z : Clear ≡ Open = sym e ∙ o in cc); alone = λ none. absurd (none s.0); is = (x.all, new_count x.stage (s.1)) }
          where
            new_count : (k : Stage) → b.number ≡ boxes → Counts b t k (boxes + 1)
            new_count Clear n = tt
            new_count (Held e at) n = λ z. omega (arith, n)
            new_count Open n = λ z. omega (arith, n)
        made (Held d q) e c y = absurd (let s = its_own y in let less = c s.0 in let n = s.1 in omega (arith, less, n))
        made Open e c y = absurd (let s = its_own y in let less = c s.0 in let n = s.1 in omega (arith, less, n))

        by_own : (z : Bool) → is_box b (Box box) ≡ z → Goes_on t st (record l { heap = h; thread = Alive (push_value (Box box) frames) (done + 1) (boxes + 1) })
        by_own true y = made st refl counts y
        by_own false n = other n

        by : (z : Bool) → NextIs t st (cond z (Goes (went (on_heap l h) (push_value (Box box) frames) done (boxes + 1))) (over (on_heap l h) cause.Boxes))
        by true = λ more on. by_own (is_box b (Box box)) refl
        by false = m.2

    -- `execute` begins on the object that was kept
    begins_is : (h : Objects) (n : ℕ) → HeapSo b (heap_mode st) h → (o : Option MethodId) (x : Option (List Activation)) → begun_on p o n ≡ x → NextIs t st (begins_next (on_heap l h) done boxes x)
    begins_is h n heap o None e = tt
    begins_is h n heap o (Some []) e = heap
    begins_is h n heap o (Some (f ∷ fs)) e = λ more on.
        let x = begun_frames h more n o f fs e st (record { frames = on.fits.frames; heap = on.fits.heap }) (rested_heap st h heap) in
        record { stage = rested st; known = rested_open st; alone = λ none. rested_clear st; is = (x, rested_counts st counts) }
      where
        rested_counts : (k : Stage) → Counts b t k boxes → Counts b t (rested k) boxes
        rested_counts Clear c = tt
        rested_counts (Held e at) c = tt
        rested_counts Open c = c

    finish_is : (h : Objects) → HeapSo b (heap_mode st) h → (o : Option ℕ) → NextIs t st (finish_next set (on_heap l h) done boxes o)
    finish_is h heap None = heap
    finish_is h heap (Some n) = begins_is h n heap (execute_of p set.main) (begun_on p (execute_of p set.main) n) refl

    object_on : (k : Stage) → Follows p (typing_at p) b st k → (o : Object) → ObjectSo b (heap_mode st) o → ObjectSo b (heap_mode k) o
    object_on Open f o e = (known_fields b o.fields, known_values b o.elements)
    object_on Clear f o e = closed st refl
      where
        closed : (k : Stage) → st ≡ k → ObjectSo b Away o
        closed Clear same = subst (λ (s : Stage). ObjectSo b (heap_mode s) o) same e
        closed (Held d q) same = subst (λ (s : Stage). ObjectSo b (heap_mode s) o) same e
        closed Open same = absurd (let z : Clear ≡ Open = f.1 same in cc)
    object_on (Held d q) f o e = closed st refl
      where
        closed : (k : Stage) → st ≡ k → ObjectSo b Away o
        closed Clear same = subst (λ (s : Stage). ObjectSo b (heap_mode s) o) same e
        closed (Held c r) same = subst (λ (s : Stage). ObjectSo b (heap_mode s) o) same e
        closed Open same = absurd (let z : Held d q ≡ Open = f.1 same in cc)

    move_is : (top : Activation) (below : List Activation) → Fits p (typing_at p) wanted of (top ∷ below) l.heap → AreThere l.heap top.stack → AllIs p (typing_at p) b st (top ∷ below) l.heap → (m : Move) → moves p top below l.heap ≡ m → MoveFits p (typing_at p) wanted of m → MoveIs p (typing_at p) b st m →
        NextIs t st (next_by set t l done boxes top below m)
    move_is top below f there all (move.Runs change frames h) equal typed x = λ more on. went_on t st l h frames (done + 1) boxes counts x
    move_is top below f there all (move.Makes object frames h) equal typed x = λ more on.
        let y = x.1 l.next in
        let z = y.all in
        record {
          stage = y.stage;
          known = y.follows.1;
          alone = λ none. y.follows.0;
          is = (record { frames = z.frames; heap = insert_so b (heap_mode y.stage) h l.next object z.heap (object_on y.stage y.follows object x.0); range = z.range }, counts_kept t st y.stage boxes y.follows counts);
        }
    move_is top below f there all (move.Opens frames h) equal typed x = opened_is frames h x
    move_is top below f there all (move.Asks id args frames h) equal typed x = asked_is id args frames h typed x (native_of p id) refl
    move_is top below f there all (move.Returns h) equal typed x = finish_is h x l.kept
    move_is top below f there all (move.Raises why) equal typed x = raises_has (NextIs t st) p l why all.heap done boxes top below (λ c e g gs left more on.
        let known = facts.raised (index_at p top) (index_is p top) why c e in
        settles (insert l.heap l.next (new_object p c)) (g ∷ gs) (thrown p c (Ref l.next) top below) (l.next + 1) (done + 1) left
        (thrown_is p (typing_at p) b wanted of keep c l.next known.0 st top below f.frames all.frames) (made_heap l.heap l.next c all.heap))
    move_is top below f there all (move.Throws object class why) equal typed x = throws_has (NextIs t st) p l why all.heap (done + 1) boxes (thrown p class (Ref object) top below) (λ g gs left more on.
        let known = thrown_is_there p (typing_at p) wanted of sure.keeps sure.verified top below l.heap f there object class why equal in
        settles l.heap (g ∷ gs) (thrown p class (Ref object) top below) l.next (done + 1) left (thrown_is p (typing_at p) b wanted of keep class object known.1 st top below f.frames all.frames) all.heap)
    move_is top below f there all (move.Ends why) equal typed x = all.heap
    move_is top below f there all move.Stuck equal typed x = tt

    frames_is : (frames : List Activation) → Fits p (typing_at p) wanted of frames l.heap → TopIsThere l.heap frames → AllIs p (typing_at p) b st frames l.heap → NextIs t st (frames_next set t l frames done boxes)
    frames_is [] f there all = all.heap
    frames_is (top ∷ below) f there all =
        move_is top below f there all (moves p top below l.heap) refl (moves_fit p (typing_at p) wanted of facts sure.verified top below l.heap f there)
        (all_moved p (typing_at p) wanted of facts sure.verified built b st top below l.heap f there all)

  pub next_is : (t : ℕ) (st : Stage) (l : Lone) (of : Classes) → FitsAs set (typing_at p) wanted of l → StackIsThere l → LoneIs t st l → NextIs t st (next_move set t l)
  unfolding next_move
  next_is t st l of on there x = by l.thread on.fits there x
    where
      alive : (z : Bool) (frames : List Activation) (done boxes : ℕ) → Fits p (typing_at p) wanted of frames l.heap → TopIsThere l.heap frames → AllIs p (typing_at p) b st frames l.heap × Counts b t st boxes → NextIs t st (cond z (over l cause.Spent) (frames_next set t l frames done boxes))
      alive true frames done boxes f there x = x.0.heap
      alive false frames done boxes f there x = frames_is t st l of done boxes x.1 frames f there x.0

      by : (th : Thread) → Fits p (typing_at p) wanted of (frames_of th) l.heap → TopIsThere l.heap (frames_of th) → ThreadIs t st l.heap th → NextIs t st (thread_next set t l th)
      by (Ended c) f there x = tt
      by (Alive frames done boxes) f there x = alive (nat_le set.limits.steps done) frames done boxes f there x
