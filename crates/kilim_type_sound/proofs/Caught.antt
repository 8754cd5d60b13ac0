-- Where an object is thrown, the frames that are left fit the frames of verification: the first entry that catches it is found, and what
-- is wanted at its handler is there before the instruction, or the call, that it covers.
use Rattle.std.proofs.Common.{◌≡◌, ℕ, suc, Bool, true, false, true≢false, cond, ◌&&◌, if◌then◌else◌, List, [], ◌∷◌, Option, Some, None, refl, sym, ap, subst, ◌∙◌, inl, inr}
use Rattle.std.specs.Prelude.{◌==◌, codes, is_some, slice_get}
use Rattle.std.specs.FinMap.{insert}
use Rattle.std.specs.List.{list_any}
use Rattle.std.proofs.lemmas.Bool.{and_from, and_parts, eq-eqb, or_left}
use Rattle.kilim_program.specs.declared.class.Handler.{Handler}
use Rattle.kilim_program.specs.declared.class.Method.{Method}
use Rattle.kilim_program.specs.declared.instr.Instr.{Instr}
use Rattle.kilim_program.specs.declared.instr.Instr.TheVariants.{Invokevirtual}
use Rattle.kilim_program.specs.declared.names.ClassId.{ClassId}
use Rattle.kilim_program.specs.declared.names.MethodId.{MethodId}
use Rattle.kilim_program.specs.declared.ty.Ty.{Ty}
use Rattle.kilim_program.specs.declared.value.Value.{Value}
use Rattle.kilim_program.specs.declared.value.Value.TheVariants.{Ref}
use Rattle.kilim_program.specs.declared.verified.VType.{VType}
use Rattle.kilim_program.specs.Program.{Program}
use Rattle.kilim_program.specs.BuiltIn.{class_type}
use Rattle.kilim_program.specs.Fits.{fits_type}
use Rattle.kilim_program.specs.Keeps.{Keeps}
use Rattle.kilim_program.specs.Lengths.{fetched, is_code_place}
use Rattle.kilim_program.specs.Names.{class_named, line_of, method_at}
use Rattle.kilim_run_state.specs.declared.cause.EndCause.{EndCause}
use Rattle.kilim_run_state.specs.Machine.{Activation, Objects}
use Rattle.kilim_run_state.specs.Objects.{new_object}
use Rattle.kilim_type_spec.specs.Step.{Types, assignable, class_vtype, is_top, vtype_of_class}
use Rattle.kilim_type_spec.specs.Typed.{FlowsInto, WellTypedBy, all_assignable, caught_type, declared, has_code}
use Rattle.kilim_type_laws.proofs.Edges.{caught_at}
use Rattle.kilim_type_laws.proofs.Handlers.{among_handlers}
use Rattle.kilim_type_sound.specs.Facts.{Facts, IsIndexName, Ordered}
use Rattle.kilim_type_sound.specs.Fits.{BelowFit, Classes, Fits, FrameFits, FramesFit, HeapFits, LocalsFit, Nothing, Typing, Verified, Wanted, has_type, have_types, is_of, result_awaited, result_of}
use Rattle.kilim_type_sound.specs.Law.{Extends, with_class}
use Rattle.kilim_type_sound.specs.Sound.{AsksFit, TopStands}
use Rattle.kilim_type_sound.proofs.Creation.{made_fits}
use Rattle.kilim_type_sound.proofs.Grounds.{facts_hold}
use Rattle.kilim_type_sound.proofs.Grown.{below_grown, frames_grown, grown_by, heap_added}
use Rattle.kilim_type_sound.proofs.Walk.{declared_in, flows_locals, flows_stack, is_there, through_type, typed_at}
use Rattle.kilim_run_machine.specs.Raising.{IsEntry, call_in, catches, catches_class, caught_behind, caught_by, caught_in, covers, handler_of, index_at, index_by, index_in, is_throwable, lands, or_below, other_index, raised_class, thrown, unwound}
use Rattle.kilim_type_sound.specs.Caught.{AllHandlersKeep, AllRaisesFit, HandlersKeep, ThrowsFit}

and_left : (a b : Bool) → (a && b) ≡ true → a ≡ true
and_left true b e = refl
and_left false b e = absurd (true≢false (sym e))

and_right : (a b : Bool) → (a && b) ≡ true → b ≡ true
and_right true b e = e
and_right false b e = absurd (true≢false (sym e))

pub record IsFound (p : Program) (c : ClassId) (at : ℕ) (hs : List Handler) (h : Handler) : Type 0 where
  pub among : IsEntry hs h
  pub covers_it : covers h at ≡ true
  pub catches_it : catches_class p h.catch c ≡ true

pub found : (p : Program) (c : ClassId) (at : ℕ) (hs : List Handler) (h : Handler) → handler_of p c at hs ≡ Some h → IsFound p c at hs h
found p c at [] h e = absurd (cc)
found p c at (k ∷ hs) h e = by (catches p c at k) refl (found p c at hs h) e
  where
    the : (a b : Handler) → Some a ≡ Some b → a ≡ b
    the a b e = cc

    by : (b : Bool) → catches p c at k ≡ b → (handler_of p c at hs ≡ Some h → IsFound p c at hs h) → (if b then Some k else handler_of p c at hs) ≡ Some h → IsFound p c at (k ∷ hs) h
    by true is go w =
        let same = the k h w in
        record { among = inl same; covers_it = ap (λ z. covers z at) (sym same) ∙ and_left (covers k at) (catches_class p k.catch c) is; catches_it = ap (λ (z : Handler). catches_class p z.catch c) (sym same) ∙ and_right (covers k at) (catches_class p k.catch c) is }
    by false is go w = let r = go w in record { among = inr r.among; covers_it = r.covers_it; catches_it = r.catches_it }

-- ---- what verification says of handlers

entry_place : (hs : List Handler) (h : Handler) → IsEntry hs h → (n : ℕ) × (slice_get hs n ≡ Some h)
entry_place [] h e = absurd e
entry_place (x ∷ hs) h (inl e) = (0, ap Some e)
entry_place (x ∷ hs) h (inr e) = let r = entry_place hs h e in (suc r.0, r.1)

module _ (p : Program) (facts : Facts p) where
  -- an object of a class that an entry catches is of the type that it catches
  catches_type : (o : Option ClassId) (c : ClassId) → is_throwable p c ≡ true → catches_class p o c ≡ true → assignable p (class_vtype c) (caught_type p o) ≡ true
  unfolding fits_type
  catches_type None c throwable e = let t = facts.caught c throwable in subst (λ (z : Option ClassId). assignable p (class_vtype c) (vtype_of_class z) ≡ true) (sym t.1) t.2
  catches_type (Some d) c throwable e = or_left (list_any (λ (k : ClassId). k.0 == d.0) (line_of p c)) _ e

  caught_no_top : (o : Option ClassId) → is_top (caught_type p o) ≡ false
  caught_no_top (Some d) = refl
  caught_no_top None = by (class_named p (codes "java/lang/Throwable"))
    where
      by : (z : Option ClassId) → is_top (vtype_of_class z) ≡ false
      by None = refl
      by (Some t) = refl

  stack_through : (m : Method) (t u : VType) (ds : List VType) → assignable p t u ≡ true → is_top u ≡ false → all_assignable p (u ∷ []) ds ≡ true → all_assignable p (t ∷ []) ds ≡ true
  stack_through m t u [] a n e = absurd (cc)
  stack_through m t u (d ∷ ds) a n e =
      let es = and_parts (assignable p u d) (all_assignable p [] ds) e in
      and_from (assignable p t d) (all_assignable p [] ds) (through_type p facts.order m (λ n. None) t u d a es.0 n) es.1

  caught_flows : (m : Method) (f d : Types) (o : Option ClassId) (c : ClassId) → is_throwable p c ≡ true → catches_class p o c ≡ true → FlowsInto p (record f { stack = caught_type p o ∷ [] }) d → FlowsInto p (record f { stack = class_vtype c ∷ [] }) d
  caught_flows m f d o c throwable e flow = record {
    locals = flow.locals;
    stack = stack_through m (class_vtype c) (caught_type p o) d.stack (catches_type o c throwable e) (caught_no_top o) flow.stack;
    unset = flow.unset;
  }

-- the frame that is declared at the handler of an instruction is the one there, and what is caught flows into it
pub record CaughtHere (p : Program) (m : Method) (typing : ℕ → Types) (at : ℕ) (h : Handler) : Type 0 where
  pub frame : Types
  pub there : declared m h.at ≡ Some frame
  pub is : typing h.at ≡ frame
  pub place : is_code_place m.code h.at ≡ true
  pub plain : list_any is_top frame.stack ≡ false
  pub flows : (c : ClassId) → is_throwable p c ≡ true → catches_class p h.catch c ≡ true → FlowsInto p (record (typing at) { stack = class_vtype c ∷ [] }) frame

pub caught_here : (p : Program) → Keeps p → (m : Method) (typing : ℕ → Types) → WellTypedBy p m typing → (at next : ℕ) (i : Instr) → fetched m.code m.code_length at ≡ Some (i, next) → (n : ℕ) (h : Handler) → slice_get m.handlers n ≡ Some h → covers h at ≡ true → CaughtHere p m typing at h
caught_here p keeps m typing well at next i here n h is covering =
    let c = caught_at p keeps m typing well at next n i h here is covering in
    let d = declared_in p m typing m.frames h.at c.frame well.frames c.there in
    record {
      frame = c.frame;
      there = c.there;
      is = typed_at p m typing well.frames _ m.code h.at c.frame well.walk d.place c.there;
      place = d.place;
      plain = d.plain;
      flows = λ k throwable catching. caught_flows p (facts_hold p keeps) m (typing at) c.frame h.catch k throwable catching c.flows;
    }

pub all_handlers_keep : AllHandlersKeep
all_handlers_keep p typing live keeps verified id m there code = record {
  wants = λ at next i here h among covering k w. let n = entry_place m.handlers h among in (verified.wants id m there at (i, next) here).caught h.at k (among_handlers m.handlers at n.0 h n.1 covering) w;
  flows = λ at next i here h among covering c throwable catching.
      let s = stood at next i here h among covering in
      (subst (λ (z : Types). FlowsInto p (record (typing id at) { stack = class_vtype c ∷ [] }) z) (sym s.is) (s.flows c throwable catching), subst (λ (z : Types). list_any is_top z.stack ≡ false) (sym s.is) s.plain);
  stands = λ at next i here h among covering. is_there m.code m.code_length h.at (stood at next i here h among covering).place;
}
  where
    stood : (at next : ℕ) (i : Instr) → fetched m.code m.code_length at ≡ Some (i, next) → (h : Handler) → IsEntry m.handlers h → covers h at ≡ true → CaughtHere p m (typing id) at h
    stood at next i here h among covering = let n = entry_place m.handlers h among in caught_here p keeps m (typing id) (verified.typed id m there code) at next i here n.0 h n.1 covering

-- ---- frames

module _ (p : Program) (typing : Typing) (live : Wanted) (of : Classes) (order : Ordered p) (keep : (id : MethodId) (m : Method) → method_at p id ≡ Some m → has_code m ≡ true → HandlersKeep p m (typing id) (live id)) (c : ClassId) (n : ℕ)
    (is : of n ≡ Some (class_type c.0)) (throwable : is_throwable p c ≡ true) where
  abbrev Fit : List Activation → Type 0
  Fit frames = FramesFit p typing live of Nothing frames

  typed : (m : Method) → have_types p m of (class_vtype c ∷ []) (Ref n ∷ []) ≡ true
  typed m =
      let here : has_type p m of (class_vtype c) (Ref n) ≡ true = ap (λ (o : Option Ty). is_of p o (class_type c.0)) is ∙ order.itself (class_type c.0) in
      ap (λ (b : Bool). b && true) here

  -- a frame at its handler
  landed : (a : Activation) (m : Method) (there : method_at p a.method ≡ Some m) (code : has_code m ≡ true) (at next : ℕ) (i : Instr) → fetched m.code m.code_length at ≡ Some (i, next) → LocalsFit p m of (live a.method at) (typing a.method at).locals a.locals →
      (h : Handler) → IsFound p c at m.handlers h → FrameFits p typing live of Nothing (lands a (Ref n) h)
  landed a m there code at next i here locals h f =
      let k = keep a.method m there code in
      let flow = k.flows at next i here h f.among f.covers_it c throwable f.catches_it in
      record {
        method = m;
        there = there;
        code = code;
        stands = k.stands at next i here h f.among f.covers_it;
        locals = flows_locals p order m of (live a.method h.at) (record (typing a.method at) { stack = class_vtype c ∷ [] }) (typing a.method h.at) a.locals (inr flow)
            (record { room = locals.room; slots = λ j w. locals.slots j (k.wants at next i here h f.among f.covers_it j w) });
        stack = flows_stack p order m of Nothing (record (typing a.method at) { stack = class_vtype c ∷ [] }) (typing a.method h.at) (Ref n ∷ []) (inr flow) (typed m);
      }

  caught_or : (a : Activation) (at : ℕ) (hs : List Handler) (rest un : List Activation) → Fit un → ((h : Handler) → IsFound p c at hs h → Fit (lands a (Ref n) h ∷ rest)) → Fit (or_below (caught_by a (Ref n) (handler_of p c at hs)) rest un)
  caught_or a at hs rest un w go = by (handler_of p c at hs) refl
    where
      by : (o : Option Handler) → handler_of p c at hs ≡ o → Fit (or_below (caught_by a (Ref n) o) rest un)
      by None e = w
      by (Some h) e = go h (found p c at hs h e)

  pub unwound_fit : (result : Option Ty) (frames : List Activation) → BelowFit p typing live of result frames → FramesFit p typing live of Nothing (unwound p c (Ref n) frames)
  unwound_fit result [] fits = tt
  unwound_fit result (a ∷ rest) (frame, one, others) =
      subst (λ z. Fit (or_below (caught_behind p c (Ref n) a (call_in z a.place)) rest (unwound p c (Ref n) rest))) (sym one.there)
      (subst (λ z. Fit (or_below (caught_behind p c (Ref n) a z) rest (unwound p c (Ref n) rest))) (sym one.behind)
      (subst (λ z. Fit (or_below (caught_in p c (Ref n) a one.call.0 z) rest (unwound p c (Ref n) rest))) (sym one.there)
      (caught_or a one.call.0 one.method.handlers rest (unwound p c (Ref n) rest) (unwound_fit (result_of (method_at p a.method)) rest others)
      (λ h f. (landed a one.method one.there one.code one.call.0 a.place one.call.1 one.here one.locals h f, others)))))

  pub thrown_fit : (top : Activation) (below : List Activation) → FramesFit p typing live of Nothing (top ∷ below) → FramesFit p typing live of Nothing (thrown p c (Ref n) top below)
  thrown_fit top below (frame, others) = by (fetched frame.method.code frame.method.code_length top.place) refl frame.stands
    where
      by : (o : Option (Instr × ℕ)) → fetched frame.method.code frame.method.code_length top.place ≡ o → is_some o ≡ true → FramesFit p typing live of Nothing (thrown p c (Ref n) top below)
      by None e s = absurd (cc)
      by (Some found) e s =
          subst (λ z. Fit (or_below (caught_in p c (Ref n) top top.place z) below (unwound p c (Ref n) below))) (sym frame.there)
          (caught_or top top.place frame.method.handlers below (unwound p c (Ref n) below) (unwound_fit (result_of (method_at p top.method)) below others)
          (λ h f. (landed top frame.method frame.there frame.code top.place found.1 found.0 e frame.locals h f, others)))

pub throws_fit : ThrowsFit
throws_fit p typing live of keeps verified top below h fits c n class throwable = record {
  frames = thrown_fit p typing live of (facts_hold p keeps).order (all_handlers_keep p typing live keeps verified) c n class throwable top below fits.frames;
  heap = fits.heap;
}

-- ---- what is raised

module _ (p : Program) (typing : Typing) (live : Wanted) (keeps : Keeps p) (verified : Verified p typing live) (c : ClassId) where
  facts : Facts p
  facts = facts_hold p keeps

  -- the new object
  pub record Made (of : Classes) (h : Objects) (n : ℕ) : Type 0 where
    pub grows : Extends of (with_class of n (class_type c.0))
    pub class : with_class of n (class_type c.0) n ≡ Some (class_type c.0)
    pub throwable : is_throwable p c ≡ true
    pub heap : HeapFits p (with_class of n (class_type c.0)) (insert h n (new_object p c))

  made : (index : List ℕ) → IsIndexName index → (why : EndCause) → raised_class p index why ≡ Some c → (of : Classes) (h : Objects) → HeapFits p of h → (n : ℕ) → of n ≡ None → Made of h n
  made index name why is of h heap n free =
      let r = facts.raised index name why c is in
      record {
        grows = grown_by p typing live facts of n (class_type c.0) free;
        class = ap (λ (z : Bool). cond z (Some (class_type c.0)) (of n)) (eq-eqb n n refl);
        throwable = r.0;
        heap = heap_added p typing live facts of (new_object p c) h n free (made_fits p of c r.1) heap;
      }

  raised_fits : (of : Classes) (top : Activation) (below : List Activation) (h : Objects) → Fits p typing live of (top ∷ below) h → (n : ℕ) → Made of h n → Fits p typing live (with_class of n (class_type c.0)) (thrown p c (Ref n) top below) (insert h n (new_object p c))
  raised_fits of top below h fits n made = record {
    frames = thrown_fit p typing live (with_class of n (class_type c.0)) facts.order (all_handlers_keep p typing live keeps verified) c n made.class made.throwable top below
        (frames_grown p of (with_class of n (class_type c.0)) made.grows typing live Nothing (top ∷ below) fits.frames);
    heap = made.heap;
  }

  -- a frame that asks is one that stands behind its call
  as_below : (of : Classes) (result : Option Ty) (frames : List Activation) → FramesFit p typing live of (result_awaited result) frames → TopStands p typing live of frames → BelowFit p typing live of result frames
  as_below of result [] fits stands = tt
  as_below of result (top ∷ below) fits stands = (fits.0, stands, fits.1)

  asked_fits : (of : Classes) (id : MethodId) (args : List Value) (frames : List Activation) (h : Objects) → AsksFit p typing live of id args frames h → (n : ℕ) → Made of h n → Fits p typing live (with_class of n (class_type c.0)) (unwound p c (Ref n) frames) (insert h n (new_object p c))
  asked_fits of id args frames h asks n made = record {
    frames = unwound_fit p typing live (with_class of n (class_type c.0)) facts.order (all_handlers_keep p typing live keeps verified) c n made.class made.throwable asks.callee.result frames
        (below_grown p of (with_class of n (class_type c.0)) made.grows typing live asks.callee.result frames (as_below of asks.callee.result frames asks.frames asks.stands));
    heap = made.heap;
  }

pub all_raises_fit : AllRaisesFit
all_raises_fit p typing live keeps verified = record {
  raised = λ of top below h fits index name why c is n free f fs e. subst (λ (frames : List Activation). Fits p typing live (with_class of n (class_type c.0)) frames (insert h n (new_object p c))) e
      (raised_fits p typing live keeps verified c of top below h fits n (made p typing live keeps verified c index name why is of h fits.heap n free));
  asked = λ of id args frames h asks index name why c is n free f fs e. subst (λ (frames : List Activation). Fits p typing live (with_class of n (class_type c.0)) frames (insert h n (new_object p c))) e
      (asked_fits p typing live keeps verified c of id args frames h asks n (made p typing live keeps verified c index name why is of h asks.heap n free));
}

-- ---- the class of an index past the end

index_by_is : (o : Option (Instr × ℕ)) → IsIndexName (index_by o)
index_by_is (Some (Invokevirtual m, next)) = inr (inl refl)
index_by_is found = inl refl

index_in_is : (o : Option Method) (place : ℕ) → IsIndexName (index_in o place)
index_in_is None place = inl refl
index_in_is (Some m) place = index_by_is (fetched m.code m.code_length place)

pub index_is : (p : Program) (a : Activation) → IsIndexName (index_at p a)
index_is p a = index_in_is (method_at p a.method) a.place

pub other_is : IsIndexName other_index
other_is = inr (inr refl)
