-- The frames of a thread, seen from one mailbox: it stands nowhere; or in one frame, in the slots of what one `new` made; or it is known.
use Rattle.std.proofs.Common.{◌≡◌, ◌⊎◌, inl, inr, ℕ, suc, ◌<◌, ◌≤◌, Bool, true, false, cond, eqb, List, [], ◌∷◌, length, Option, Some, None, refl, sym, ap, subst, ◌∙◌, arith}
use Rattle.std.specs.Prelude.{not, slice_get, is_some, nat_lt}
use Rattle.std.specs.List.{list_any}
use Rattle.std.proofs.lemmas.Bool.{and_parts, ne_eqb, ltb-true, ltb-false}
use Rattle.kilim_program.specs.declared.class.Handler.{Handler}
use Rattle.kilim_program.specs.declared.class.Method.{Method}
use Rattle.kilim_program.specs.declared.instr.Instr.{Instr}
use Rattle.kilim_program.specs.declared.names.BoxName.{BoxName}
use Rattle.kilim_program.specs.declared.names.ClassId.{ClassId}
use Rattle.kilim_program.specs.declared.names.MethodId.{MethodId}
use Rattle.kilim_program.specs.declared.ty.Ty.{Ty}
use Rattle.kilim_program.specs.declared.value.Value.{Value}
use Rattle.kilim_program.specs.declared.value.Value.TheVariants as value
use Rattle.kilim_program.specs.declared.verified.VType.{VType}
use Rattle.kilim_program.specs.Lengths.{fetched}
use Rattle.kilim_program.specs.Names.{method_at}
use Rattle.kilim_program.specs.Program.{Program}
use Rattle.kilim_run_state.specs.Machine.{Activation, Objects}
use Rattle.kilim_run_machine.specs.Does.{is_mailbox}
use Rattle.kilim_run_machine.specs.Raising.{call_in, caught_behind, caught_by, caught_in, handler_of, is_throwable, lands, or_below, thrown, unwound}
use Rattle.kilim_type_spec.specs.Step.{Types, assignable, class_vtype, is_top, made_at, peek}
use Rattle.kilim_type_spec.specs.Typed.{FlowsInto, all_assignable, has_code}
use Rattle.kilim_type_sound.specs.Caught.{HandlersKeep}
use Rattle.kilim_type_sound.specs.Fits.{Awaited, Nothing, AValue, AReference, BelowFit, Classes, FramesFit, StandsAtCall, Typing, Wanted, result_awaited, result_of}
use Rattle.kilim_type_sound.proofs.Caught.{IsFound, found}
use Rattle.kilim_new_bounds.proofs.Slots.{HeapSo, LocalsSo, Mode, Away, Raw, Known, SlotSo, StackSo, good, known_heap, locals_known, slot_flows, stack_known}
use Rattle.kilim_new_bounds.proofs.Rows.{other_slot}

-- ---- where the mailbox stands among the frames of a thread, counted from the lowest

pub data Stage : Type 0 where
  Clear : Stage
  Held : (depth at : ℕ) → Stage
  Open : Stage

abbrev pub mode_at : Stage → ℕ → Mode
mode_at Clear d = Away
mode_at (Held e at) d = cond (eqb e d) (Raw at) Away
mode_at Open d = Known

abbrev pub heap_mode : Stage → Mode
heap_mode Clear = Away
heap_mode (Held e at) = Away
heap_mode Open = Known

abbrev pub InRange : Stage → ℕ → Type 0
InRange Clear n = Unit {0}
InRange (Held e at) n = e < n
InRange Open n = Unit {0}

-- what is good for the heap is good for each frame
pub good_at : (st : Stage) (d : ℕ) (box : Bool) → good (mode_at st d) box ≡ good (heap_mode st) box
good_at Clear d box = refl
good_at (Held e at) d box = by (eqb e d)
  where
    by : (z : Bool) → good (cond z (Raw at) Away) box ≡ not box
    by true = refl
    by false = refl
good_at Open d box = refl

-- ---- frames

abbrev pub AwaitsSo : BoxName → Mode → Awaited → List VType → List Value → Type 0
AwaitsSo b m Nothing ts vs = StackSo b m ts vs
AwaitsSo b m (AValue t) [] vs = ⊥
AwaitsSo b m (AValue t) (u ∷ ts) vs = StackSo b m ts vs
AwaitsSo b m (AReference c) [] vs = ⊥
AwaitsSo b m (AReference c) (u ∷ ts) vs = StackSo b m ts vs

module _ (p : Program) (typing : Typing) (b : BoxName) where
  -- the `new` whose slots it stands in makes a mailbox
  abbrev pub MakesIs : Mode → Activation → Type 0
  MakesIs m a = (q : ℕ) → m ≡ Raw q → (own : Method) → method_at p a.method ≡ Some own → (c : ClassId) → made_at own.code q ≡ Some c → is_mailbox p c ≡ true

  pub record FrameIs (m : Mode) (w : Awaited) (a : Activation) : Type 0 where
    pub locals : LocalsSo b m (typing a.method a.place).locals a.locals
    pub stack : AwaitsSo b m w (typing a.method a.place).stack a.stack
    pub makes : MakesIs m a

  -- by the types before the call behind which the frame stands
  abbrev pub StandsIs : Mode → Activation → Type 0
  StandsIs m a = (e : ℕ × Instr) → call_in (method_at p a.method) a.place ≡ Some e → LocalsSo b m (typing a.method e.0).locals a.locals

  abbrev pub BelowIs : Stage → Option Ty → List Activation → Type 0
  BelowIs st result [] = Unit {0}
  BelowIs st result (a ∷ as1) =
      FrameIs (mode_at st (length as1)) (result_awaited result) a × StandsIs (mode_at st (length as1)) a × BelowIs st (result_of (method_at p a.method)) as1

  -- what is known where an exception comes to them
  abbrev pub UnwindsIs : Stage → List Activation → Type 0
  UnwindsIs st [] = Unit {0}
  UnwindsIs st (a ∷ as1) = MakesIs (mode_at st (length as1)) a × StandsIs (mode_at st (length as1)) a × BelowIs st (result_of (method_at p a.method)) as1

  pub unwinds_of : (st : Stage) (result : Option Ty) (frames : List Activation) → BelowIs st result frames → UnwindsIs st frames
  unwinds_of st result [] is = tt
  unwinds_of st result (a ∷ as1) is = (is.0.makes, is.1, is.2)

  abbrev pub FramesIs : Stage → Awaited → List Activation → Type 0
  FramesIs st w [] = Unit {0}
  FramesIs st w (top ∷ below) = FrameIs (mode_at st (length below)) w top × BelowIs st (result_of (method_at p top.method)) below

  pub record AllIs (st : Stage) (fs : List Activation) (h : Objects) : Type 0 where
    pub frames : FramesIs st Nothing fs
    pub heap : HeapSo b (heap_mode st) h
    pub range : InRange st (length fs)

  -- ---- another stage

  pub below_alike : (st k : Stage) (n : ℕ) → ((d : ℕ) → d < n → mode_at st d ≡ mode_at k d) → (result : Option Ty) (below : List Activation) → length below ≤ n → BelowIs st result below → BelowIs k result below
  below_alike st k n same result [] le is = tt
  below_alike st k n same result (a ∷ as1) le is =
      let at = same (length as1) (let z = le in omega (arith, z)) in (
        subst (λ (m : Mode). FrameIs m (result_awaited result) a) at is.0,
        subst (λ (m : Mode). StandsIs m a) at is.1,
        below_alike st k n same (result_of (method_at p a.method)) as1 (let z = le in omega (arith, z)) is.2,
      )

  pub held_clear : (e at n : ℕ) → n ≤ e → (d : ℕ) → d < n → mode_at (Held e at) d ≡ mode_at Clear d
  held_clear e at n le d less = ap (λ (z : Bool). cond z (Raw at) Away) (ne_eqb e d (λ s. omega (arith, le, less, s)))

  frame_known : (w : Awaited) (a : Activation) → FrameIs Away w a → FrameIs Known w a
  frame_known w a f = record { locals = locals_known b (typing a.method a.place).locals a.locals f.locals; stack = by w (typing a.method a.place).stack f.stack; makes = λ q e. absurd (let z : Known ≡ Raw q = e in cc) }
    where
      by : (w : Awaited) (ts : List VType) → AwaitsSo b Away w ts a.stack → AwaitsSo b Known w ts a.stack
      by Nothing ts s = stack_known b ts a.stack s
      by (AValue t) [] s = s
      by (AValue t) (u ∷ ts) s = stack_known b ts a.stack s
      by (AReference c) [] s = s
      by (AReference c) (u ∷ ts) s = stack_known b ts a.stack s

  -- what is clear may be taken for known
  pub below_known : (result : Option Ty) (below : List Activation) → BelowIs Clear result below → BelowIs Open result below
  below_known result [] is = tt
  below_known result (a ∷ as1) is = (frame_known (result_awaited result) a is.0, (λ e at. locals_known b (typing a.method e.0).locals a.locals (is.1 e at)), below_known (result_of (method_at p a.method)) as1 is.2)

  pub frames_known : (w : Awaited) (frames : List Activation) → FramesIs Clear w frames → FramesIs Open w frames
  frames_known w [] is = tt
  frames_known w (top ∷ below) is = (frame_known w top is.0, below_known (result_of (method_at p top.method)) below is.1)

  pub all_known : (frames : List Activation) (h : Objects) → AllIs Clear frames h → AllIs Open frames h
  all_known frames h is = record { frames = frames_known Nothing frames is.frames; heap = known_heap b h; range = tt }

  -- ---- where frames are dropped

  -- a stage that isn't clear was none before
  abbrev pub Follows : Stage → Stage → Type 0
  Follows st k = (st ≡ Clear → k ≡ Clear) × (st ≡ Open → k ≡ Open)

  pub same_follows : (st : Stage) → Follows st st
  same_follows st = ((λ e. e), (λ e. e))

  pub record Settled (st : Stage) (w : Awaited) (fs : List Activation) (h : Objects) : Type 0 where
    pub stage : Stage
    pub follows : Follows st stage
    pub frames : FramesIs stage w fs
    pub heap : HeapSo b (heap_mode stage) h
    pub range : InRange stage (length fs)

  pub settled : (st : Stage) (w : Awaited) (frames : List Activation) (h : Objects) → FramesIs st w frames → HeapSo b (heap_mode st) h → Settled st w frames h
  settled Clear w frames h is heap = record { stage = Clear; follows = same_follows Clear; frames = is; heap = heap; range = tt }
  settled Open w frames h is heap = record { stage = Open; follows = same_follows Open; frames = is; heap = heap; range = tt }
  settled (Held e at) w frames h is heap = by (nat_lt e (length frames)) refl
    where
      cleared : (frames : List Activation) → length frames ≤ e → FramesIs (Held e at) w frames → FramesIs Clear w frames
      cleared [] le is = tt
      cleared (top ∷ below) le is = (
        subst (λ (m : Mode). FrameIs m w top) (held_clear e at (suc (length below)) le (length below) (omega arith)) is.0,
        below_alike (Held e at) Clear (length below) (held_clear e at (length below) (let z = le in omega (arith, z))) (result_of (method_at p top.method)) below (omega arith) is.1,
      )

      by : (z : Bool) → nat_lt e (length frames) ≡ z → Settled (Held e at) w frames h
      by true less = record { stage = Held e at; follows = same_follows (Held e at); frames = is; heap = heap; range = ltb-true e (length frames) less }
      by false less = record { stage = Clear; follows = ((λ q. refl), (λ q. absurd (let z : Held e at ≡ Open = q in cc))); frames = cleared frames (ltb-false e (length frames) less) is; heap = heap; range = tt }

  -- ---- flow

  abbrev pub Flow : Types → Types → Type 0
  Flow g f = (g ≡ f) ⊎ (FlowsInto p g f × (list_any is_top f.stack ≡ false))

  pub locals_flow : (m : Mode) (g f : Types) (ls : List Value) → Flow g f → LocalsSo b m g.locals ls → LocalsSo b m f.locals ls
  locals_flow m g f ls (inl e) s = subst (λ (z : Types). LocalsSo b m z.locals ls) e s
  locals_flow m g f ls (inr e) s = λ k. by k (slice_get ls k) (s k)
    where
      by : (k : ℕ) (o : Option Value) → SlotSo b m (peek g.locals k) o → SlotSo b m (peek f.locals k) o
      by k None d = tt
      by k (Some v) d = slot_flows p b m (peek g.locals k) (peek f.locals k) v (e.0.locals k) d

  pub stack_flows : (m : Mode) (ts us : List VType) (vs : List Value) → all_assignable p ts us ≡ true → StackSo b m ts vs → StackSo b m us vs
  stack_flows m [] [] vs a s = s
  stack_flows m [] (u ∷ us) vs a s = absurd (cc)
  stack_flows m (t ∷ ts) [] vs a s = absurd (cc)
  stack_flows m (t ∷ ts) (u ∷ us) [] a s = absurd s
  stack_flows m (t ∷ ts) (u ∷ us) (v ∷ vs) a s =
      let as1 = and_parts (assignable p t u) (all_assignable p ts us) a in
      (slot_flows p b m t u v as1.0 s.0, stack_flows m ts us vs as1.1 s.1)

  awaits_flow : (m : Mode) (w : Awaited) (ts us : List VType) (vs : List Value) → all_assignable p ts us ≡ true → AwaitsSo b m w ts vs → AwaitsSo b m w us vs
  awaits_flow m Nothing ts us vs a s = stack_flows m ts us vs a s
  awaits_flow m (AValue c) [] us vs a s = absurd s
  awaits_flow m (AReference c) [] us vs a s = absurd s
  awaits_flow m (AValue c) (t ∷ ts) [] vs a s = absurd (cc)
  awaits_flow m (AReference c) (t ∷ ts) [] vs a s = absurd (cc)
  awaits_flow m (AValue c) (t ∷ ts) (u ∷ us) vs a s = stack_flows m ts us vs (and_parts (assignable p t u) (all_assignable p ts us) a).1 s
  awaits_flow m (AReference c) (t ∷ ts) (u ∷ us) vs a s = stack_flows m ts us vs (and_parts (assignable p t u) (all_assignable p ts us) a).1 s

  pub stack_flow : (m : Mode) (w : Awaited) (g f : Types) (vs : List Value) → Flow g f → AwaitsSo b m w g.stack vs → AwaitsSo b m w f.stack vs
  stack_flow m w g f vs (inl e) s = subst (λ (z : Types). AwaitsSo b m w z.stack vs) e s
  stack_flow m w g f vs (inr e) s = awaits_flow m w g.stack f.stack vs e.0.stack s

  -- ---- exceptions

  module _ (live : Wanted) (of : Classes) (keep : (id : MethodId) (m : Method) → method_at p id ≡ Some m → has_code m ≡ true → HandlersKeep p m (typing id) (live id)) (c : ClassId) (n : ℕ) (throwable : is_throwable p c ≡ true) (st : Stage) where
    -- a frame at its handler
    landed : (m : Mode) (a : Activation) (own : Method) (there : method_at p a.method ≡ Some own) (code : has_code own ≡ true) (at next : ℕ) (i : Instr) → fetched own.code own.code_length at ≡ Some (i, next) → LocalsSo b m (typing a.method at).locals a.locals → MakesIs m a →
        (h : Handler) → IsFound p c at own.handlers h → FrameIs m Nothing (lands a (value.Ref n) h)
    landed m a own there code at next i here locals makes h f =
        let flow = (keep a.method own there code).flows at next i here h f.among f.covers_it c throwable f.catches_it in
        record {
          locals = locals_flow m (record (typing a.method at) { stack = class_vtype c ∷ [] }) (typing a.method h.at) a.locals (inr flow) locals;
          stack = stack_flow m Nothing (record (typing a.method at) { stack = class_vtype c ∷ [] }) (typing a.method h.at) (value.Ref n ∷ []) (inr flow) (other_slot b m (class_vtype c) (value.Ref n) refl refl, tt);
          makes = makes;
        }

    caught_or : (a : Activation) (at : ℕ) (hs : List Handler) (rest un : List Activation) → FramesIs st Nothing un → ((h : Handler) → IsFound p c at hs h → FramesIs st Nothing (lands a (value.Ref n) h ∷ rest)) → FramesIs st Nothing (or_below (caught_by a (value.Ref n) (handler_of p c at hs)) rest un)
    caught_or a at hs rest un w go = by (handler_of p c at hs) refl
      where
        by : (o : Option Handler) → handler_of p c at hs ≡ o → FramesIs st Nothing (or_below (caught_by a (value.Ref n) o) rest un)
        by None e = w
        by (Some h) e = go h (found p c at hs h e)

    call_is : (a : Activation) (one : StandsAtCall p typing live of a) → call_in (method_at p a.method) a.place ≡ Some one.call
    call_is a one = ap (λ (o : Option Method). call_in o a.place) one.there ∙ one.behind

    pub unwound_is : (result : Option Ty) (frames : List Activation) → BelowFit p typing live of result frames → UnwindsIs st frames → FramesIs st Nothing (unwound p c (value.Ref n) frames)
    unwound_is result [] fits is = tt
    unwound_is result (a ∷ rest) (frame, one, others) is =
        subst (λ z. FramesIs st Nothing (or_below (caught_behind p c (value.Ref n) a z) rest (unwound p c (value.Ref n) rest))) (sym (call_is a one))
        (subst (λ z. FramesIs st Nothing (or_below (caught_in p c (value.Ref n) a one.call.0 z) rest (unwound p c (value.Ref n) rest))) (sym one.there)
        (caught_or a one.call.0 one.method.handlers rest (unwound p c (value.Ref n) rest) (unwound_is (result_of (method_at p a.method)) rest others (unwinds_of st (result_of (method_at p a.method)) rest is.2))
        (λ h f. (landed (mode_at st (length rest)) a one.method one.there one.code one.call.0 a.place one.call.1 one.here (is.1 one.call (call_is a one)) is.0 h f, is.2))))

    pub thrown_is : (top : Activation) (below : List Activation) → FramesFit p typing live of Nothing (top ∷ below) → FramesIs st Nothing (top ∷ below) → FramesIs st Nothing (thrown p c (value.Ref n) top below)
    thrown_is top below (frame, others) is = by (fetched frame.method.code frame.method.code_length top.place) refl frame.stands
      where
        by : (o : Option (Instr × ℕ)) → fetched frame.method.code frame.method.code_length top.place ≡ o → is_some o ≡ true → FramesIs st Nothing (thrown p c (value.Ref n) top below)
        by None e s = absurd (cc)
        by (Some found) e s =
            subst (λ z. FramesIs st Nothing (or_below (caught_in p c (value.Ref n) top top.place z) below (unwound p c (value.Ref n) below))) (sym frame.there)
            (caught_or top top.place frame.method.handlers below (unwound p c (value.Ref n) below) (unwound_is (result_of (method_at p top.method)) below others (unwinds_of st (result_of (method_at p top.method)) below is.1))
            (λ h f. (landed (mode_at st (length below)) top frame.method frame.there frame.code top.place found.1 found.0 e is.0.locals is.0.makes h f, is.1)))
