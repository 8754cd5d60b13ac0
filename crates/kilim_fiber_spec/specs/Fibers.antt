-- A woven fiber on a heap of its own, with a list of deeds and a list of pauses.
use Rattle.std.specs.Prelude.{ℕ, zero, suc, nat_lt, Bool, true, false, not, ◌&&◌, ◌==◌, if◌then◌else◌, pos, List, [], ◌∷◌, Option, Some, None, length, slice_get}
use Rattle.std.specs.FinMap.{get}
use Rattle.kilim_run_state.specs.declared.cause.EndCause.{EndCause}
use Rattle.kilim_run_state.specs.declared.cause.EndCause.TheVariants as cause
use Rattle.kilim_run_state.specs.declared.value.Token.{Token}
use Rattle.kilim_run_state.specs.Shapes.{shape_of}
use Rattle.kilim_run_journal.specs.declared.entry.Act.{Act}
use Rattle.kilim_run_journal.specs.declared.entry.Act.TheVariants.{Put}
use Rattle.kilim_run_model.specs.declared.deed.Deed.{Deed}
use Rattle.kilim_program.specs.declared.names.BoxName.{BoxName}
use Rattle.kilim_program.specs.declared.class.Method.{Method}
use Rattle.kilim_program.specs.declared.instr.Instr.{Instr}
use Rattle.kilim_program.specs.declared.names.MethodId.{MethodId}
use Rattle.kilim_run_state.specs.declared.value.Object.{Object}
use Rattle.kilim_program.specs.declared.value.Value.{Value}
use Rattle.kilim_program.specs.declared.value.Value.TheVariants.{Int, Null, Ref, Fiber, Box}
use Rattle.kilim_program.specs.Program.{Program}
use Rattle.kilim_run_state.specs.Machine.{Objects, Activation}
use Rattle.kilim_program.specs.Names.{◌>>=◌, method_at}
use Rattle.kilim_program.specs.Members.{execute_of}
use Rattle.kilim_run_machine.specs.Natives.{Native, native_of, FiberMember, Pc, Down, Up, Save, Place, Restore, Receiver}
use Rattle.kilim_run_machine.specs.Natives as native
use Rattle.kilim_run_machine.specs.Effect.{Effect, Goes, Makes, Opens, Calls, Asks, Returns, Raises, Throws, Ends, Stuck}
use Rattle.kilim_run_machine.specs.Does.{does}
use Rattle.kilim_run_machine.specs.Moves.{frame_limit, entered}
use Rattle.kilim_run_machine.specs.Raising.{index_at, other_index, raised_class, thrown, unwound}
use Rattle.kilim_program.specs.Lengths.{first_place}
use Rattle.kilim_run_model.specs.State.{Setting, class_of}
use Rattle.kilim_fiber_spec.specs.Acts.{Apart, World, Over, Astray, Lost, PutWaits, acting, apart, behind, counted, with_heap, ending, spending, makes, native_does, opens_box, together, thrown_to, raises}
pub use Rattle.kilim_fiber_spec.specs.Thread.{frame}
use Rattle.kilim_fiber_spec.specs.Thread.{push, own_of}

-- ---- the fiber

-- what is written down of a frame; the value that was saved last comes first
pub data Rec : Type 0 where
  Saved : (place : ℕ) (receiver : Value) (values : List Value) → Rec

-- the records of the levels below its own, the nearest first; that at its level; those of the deeper levels
pub data Fib : Type 0 where
  Fiber_at : (lower : List Rec) (here : Rec) (deeper : List Rec) (rewinding pausing : Bool) → Fib

abbrev pub empty_record : Rec
empty_record = Saved 0 Null []

abbrev pub new_fiber : Fib
new_fiber = Fiber_at [] empty_record [] false false

abbrev pub is_rewinding : Fib → Bool
is_rewinding (Fiber_at lo r de re pa) = re

-- a member of `kilim/Fiber`
abbrev pub as_member : Option Native → Option FiberMember
as_member (Some (native.OfFiber member)) = Some member
as_member n = None

abbrev pub member_of : Program → MethodId → Option FiberMember
member_of p m = as_member (native_of p m)

abbrev pub place_while : Bool → ℕ → ℕ
place_while true place = place
place_while false place = 0

-- `up` drops the record of the level that it leaves, but not while pausing
abbrev pub raised : Bool → List Rec → Rec → List Rec
raised true deeper r = r ∷ deeper
raised false deeper r = deeper

abbrev pub one_if : Bool → Value
one_if true = Int (pos 1)
one_if false = Int (pos 0)

-- What a member does, with its arguments; `go` goes on with a result, if there is one.
module _ {S : Type 0} (lost : S) (go : Fib → Option Value → S) where
  abbrev pub comes_down : Fib → S
  comes_down (Fiber_at lo r [] re pa) = go (Fiber_at (r ∷ lo) empty_record [] re pa) (Some Fiber)
  comes_down (Fiber_at lo r (d ∷ de) re pa) = go (Fiber_at (r ∷ lo) d de re pa) (Some Fiber)

  abbrev pub comes_up : Fib → S
  comes_up (Fiber_at [] r de re pa) = lost
  comes_up (Fiber_at (l ∷ lo) r de re pa) = go (Fiber_at lo l (raised pa de r) re pa) (Some (one_if pa))

  abbrev pub restores : Fib → S
  restores (Fiber_at lo (Saved p x []) de re pa) = lost
  restores (Fiber_at lo (Saved p x (v ∷ vs)) de re pa) = go (Fiber_at lo (Saved p x vs) de re pa) (Some v)

  abbrev pub gives_receiver : Fib → S
  gives_receiver (Fiber_at lo r [] re pa) = lost
  gives_receiver (Fiber_at lo r (Saved p x vs ∷ de) re pa) = go (Fiber_at lo r (Saved p x vs ∷ de) re pa) (Some x)

  abbrev pub gives_place : Fib → S
  gives_place (Fiber_at lo (Saved p x vs) de re pa) = go (Fiber_at lo (Saved p x vs) de re pa) (Some (Int (pos (place_while re p))))

  abbrev pub saves : Value → Fib → S
  saves v (Fiber_at lo (Saved p x vs) de re pa) = go (Fiber_at lo (Saved p x (v ∷ vs)) de re pa) None

  abbrev pub places : ℕ → Value → Fib → S
  places n y (Fiber_at lo (Saved p x vs) de re pa) = go (Fiber_at lo (Saved n y vs) de re pa) None

  abbrev pub member_does : FiberMember → List Value → Fib → S
  member_does Pc (Fiber ∷ []) f = gives_place f
  member_does Down (Fiber ∷ []) f = comes_down f
  member_does Up (Fiber ∷ []) f = comes_up f
  member_does Save (v ∷ Fiber ∷ []) f = saves v f
  member_does Place (Int (pos n) ∷ y ∷ Fiber ∷ []) f = places n y f
  member_does Restore (Fiber ∷ []) f = restores f
  member_does Receiver (Fiber ∷ []) f = gives_receiver f
  member_does member args f = lost

-- a leaf that pauses writes a record; a leaf while rewinding drops its record and ends the rewinding
abbrev pub pausing : Value → Fib → Fib
pausing v (Fiber_at lo r de re pa) = Fiber_at lo (Saved 0 v []) de false true

abbrev pub rewound : Fib → Fib
rewound (Fiber_at lo r de re pa) = Fiber_at lo empty_record de false pa

abbrev pub resumed : Fib → Fib
resumed (Fiber_at lo r de re pa) = Fiber_at lo r de true false

abbrev pub is_pausing : Fib → Bool
is_pausing (Fiber_at lo r de re pa) = pa

abbrev pub first_receiver : Fib → Value
first_receiver (Fiber_at lo (Saved p x vs) de re pa) = x

-- ---- the machine

pub data Woven_state : Type 0 where
  WRun : (m : MethodId) (place : ℕ) (locals stack : List Value) (below : List Activation) (f : Fib) (w : World) (pauses : List ℕ) → Woven_state
  Resting : Fib → World → (pauses : List ℕ) → Woven_state
  WStop : Over → Woven_state

-- the instruction at a place, the place behind it, and whether it counts
abbrev pub marked : List (ℕ × Instr) → List Bool → ℕ → ℕ → Option (Instr × ℕ × Bool)
marked (e ∷ es) (b ∷ bs) end p = if e.0 == p then Some (e.1, first_place es end, b) else marked es bs end p
marked _ _ end p = None

abbrev pub marks_of : List (List Bool) → MethodId → List Bool
marks_of marks m = elim (slice_get marks m.0) [ None ↦ [] | Some bs ↦ bs ]

abbrev pub wcode_in : List Bool → Option Method → ℕ → Option (Instr × ℕ × Bool)
wcode_in marks None p = None
wcode_in marks (Some method) p = marked method.code marks method.code_length p

-- the last argument is the fiber
abbrev pub before : Value → Option (List Value) → Option (List Value)
before v None = None
before v (Some vs) = Some (v ∷ vs)

abbrev pub without_fiber : List Value → Option (List Value)
without_fiber [] = None
without_fiber (v ∷ []) = elim v [ Fiber ↦ Some [] | _ ↦ None ]
without_fiber (v ∷ w ∷ vs) = before v (without_fiber (w ∷ vs))

-- the method `execute` of an object's class
abbrev pub executes_on : Program → Objects → Value → Option MethodId
executes_on p heap (Ref n) = get heap n >>= λ (object : Object). class_of object.class.base >>= λ c. execute_of p c
executes_on p heap v = None

-- `set` is that of the unwoven program: acts are matched as there. W is the woven program, with its counted marks.
module _ (set : Setting) (W : Program) (marks : List (List Bool)) where
  abbrev pub wfetch : MethodId → ℕ → Option (Instr × ℕ × Bool)
  wfetch m p = wcode_in (marks_of marks m) (method_at W m) p

  abbrev pub enter : MethodId → List Value → List Activation → Fib → World → List ℕ → Woven_state
  enter m args b f w ps = WRun m 0 (entered W m args).locals [] b f w ps

  -- an instruction counts where it is marked, and the fiber isn't rewinding
  abbrev pub tick : Bool → World → World
  tick true w = counted w
  tick false w = w

  -- `execute` begins behind the constructor of task 0
  abbrev pub wbegins_in : MethodId → ℕ → World → World → Fib → List ℕ → Option Method → Woven_state
  wbegins_in m n w after f ps None = WStop Lost
  wbegins_in m n w after f ps (Some method) = if method.built_in then ending set w WStop cause.Done else enter m (Ref n ∷ Fiber ∷ []) [] f after ps

  abbrev pub wbegins : ℕ → World → World → Fib → List ℕ → Option MethodId → Woven_state
  wbegins n w after f ps None = WStop Lost
  wbegins n w after f ps (Some m) = wbegins_in m n w after f ps (method_at W m)

  -- A started task begins with its `execute`. Where that is the built-in one, the task is done in its first move; but one that may do no
  -- instruction is spent, before anything else is looked at.
  abbrev pub wstarted_in : MethodId → ℕ → World → Fib → List ℕ → Option Method → Woven_state
  wstarted_in m n w f ps None = WStop Lost
  wstarted_in m n w f ps (Some method) = if method.built_in then spending set w WStop (ending set w WStop cause.Done) else enter m (Ref n ∷ Fiber ∷ []) [] f w ps

  abbrev pub wstarted : ℕ → World → Fib → List ℕ → Option MethodId → Woven_state
  wstarted n w f ps None = WStop Lost
  wstarted n w f ps (Some m) = wstarted_in m n w f ps (method_at W m)

  -- the last frame returned
  abbrev pub wfinishes : Fib → World → List ℕ → Option ℕ → Woven_state
  wfinishes f w ps None = if is_pausing f then Resting f w ps else ending set w WStop cause.Done
  wfinishes f w ps (Some n) = wbegins n w (record (counted w) { kept = None }) f ps (execute_of W set.main)

  abbrev pub wreturns : Bool → Option Value → List Activation → Fib → World → List ℕ → Woven_state
  wreturns counts v [] f w ps = wfinishes f w ps w.kept
  wreturns counts v (top ∷ b) f w ps = WRun top.method top.place top.locals (push v top.stack) b f (tick counts w) ps

  abbrev pub wcalls : Bool → MethodId → List Value → List Activation → Fib → World → List ℕ → Woven_state
  wcalls counts m args b f w ps = if nat_lt (length b) frame_limit then enter m args b f (tick counts w) ps else ending set w WStop cause.Depth

  abbrev pub wstands_at : Fib → List ℕ → Activation → List Activation → World → Woven_state
  wstands_at f ps top b w = WRun top.method top.place top.locals top.stack b f w ps

  -- something is wrong with a value of a built-in method, behind whose call the frames stand
  abbrev pub wraised_behind : List Activation → Fib → World → List ℕ → EndCause → Woven_state
  wraised_behind b f w ps why = raises set WStop (wstands_at f ps) (counted w) why W (λ c. unwound W c (Ref w.next) b) (raised_class W other_index why)

  -- the leaves
  module _ (go : Fib → World → List ℕ → Option Value → Woven_state) (raise : Fib → World → List ℕ → EndCause → Woven_state) where
    -- an empty mailbox is seen so many times
    abbrev pub gets : List Value → Value → Fib → World → List ℕ → Woven_state
    gets args box f w (suc k ∷ ps) = go (pausing box f) w (k ∷ ps) (Some Null)
    gets args box f w (zero ∷ ps) = spending set w WStop (native_does set w WStop (λ after v. go (rewound f) after ps v) (raise f w ps) native.Get args)
    gets args box f w [] = spending set w WStop (native_does set w WStop (λ after v. go (rewound f) after [] v) (raise f w []) native.Get args)

    abbrev pub getting : List Value → Fib → World → List ℕ → Woven_state
    getting (box ∷ []) f w ps = gets (box ∷ []) box f w ps
    getting args f w ps = WStop Lost

    -- A full mailbox is seen so many times: the tree leaves the heap at the first, and stands apart until the put is made.
    abbrev pub waits_on : BoxName → ℕ → Option (List Token) → Fib → World → ℕ → List ℕ → Woven_state
    waits_on box n None f w k ps = spending set w WStop (ending set w WStop cause.Large)
    waits_on box n (Some shape) f w k ps = go (pausing (Box box) f) (apart set n shape w) (k ∷ ps) None

    abbrev pub puts_now : List Value → Fib → World → List ℕ → Woven_state
    puts_now args f w ps = spending set w WStop (native_does set w WStop (λ after v. go (rewound f) after ps v) (raise f w ps) native.PutWait args)

    abbrev pub waits : List Value → Fib → World → List ℕ → Woven_state
    waits (Box box ∷ Ref n ∷ []) f w (suc k ∷ ps) = waits_on box n (shape_of set.program w.heap n) f w k ps
    waits (Box box ∷ Null ∷ []) f w ps = puts_now (Box box ∷ Null ∷ []) f w ps
    waits args f w (zero ∷ ps) = puts_now args f w ps
    waits args f w ps = puts_now args f w ps

    -- made again: its tree is what stands apart
    abbrev pub put_again : BoxName → List Token → Fib → World → World → List ℕ → Act → List Deed → Woven_state
    put_again box shape f w full ps (Put b k s) rest = go (rewound f) (record (behind set full WStop (Put box k shape) rest) { heap = w.heap }) ps None
    put_again box shape f w full ps act rest = WStop Astray

    abbrev pub puts_again : BoxName → Apart → Fib → World → World → List ℕ → Woven_state
    puts_again box kept f w full ps = spending set full WStop (acting set full WStop (PutWaits box kept.root kept.shape) (λ deed rest. put_again box kept.shape f w full ps deed.act rest))

    abbrev pub waits_again : BoxName → Apart → List Apart → Fib → World → List ℕ → Woven_state
    waits_again box kept others f w (suc k ∷ ps) = go (pausing (Box box) f) w (k ∷ ps) None
    waits_again box kept others f w (zero ∷ ps) = puts_again box kept f w (together kept.heap others w) ps
    waits_again box kept others f w [] = puts_again box kept f w (together kept.heap others w) []

    abbrev pub puts_kept : List Apart → List Value → Fib → World → List ℕ → Woven_state
    puts_kept (kept ∷ others) (Box box ∷ v ∷ []) f w ps = waits_again box kept others f w ps
    puts_kept kept args f w ps = WStop Lost

    abbrev pub putting : List Value → Fib → World → List ℕ → Woven_state
    putting (v ∷ u ∷ []) (Fiber_at lo r de true pa) w ps = puts_kept w.aside (v ∷ u ∷ []) (Fiber_at lo r de true pa) w ps
    putting (v ∷ u ∷ []) (Fiber_at lo r de false pa) w ps = waits (v ∷ u ∷ []) (Fiber_at lo r de false pa) w ps
    putting args f w ps = WStop Lost

    -- a first `yield` counts and pauses; one while rewinding returns
    abbrev pub yields : Fib → World → List ℕ → Woven_state
    yields (Fiber_at lo r de true pa) w ps = go (rewound (Fiber_at lo r de true pa)) w ps None
    yields (Fiber_at lo r de false pa) w ps = go (pausing Null (Fiber_at lo r de false pa)) (counted w) ps None

    abbrev pub yielding : List Value → Fib → World → List ℕ → Woven_state
    yielding [] f w ps = yields f w ps
    yielding args f w ps = WStop Lost

    abbrev pub handed_does : Native → Option (List Value) → Fib → World → List ℕ → Woven_state
    handed_does n None f w ps = WStop Lost
    handed_does native.Get (Some args) f w ps = getting args f w ps
    handed_does native.Yield (Some args) f w ps = yielding args f w ps
    handed_does native.PutWait (Some args) f w ps = putting args f w ps
    handed_does n (Some args) f w ps = native_does set w WStop (λ after v. go f after ps v) (raise f w ps) n args

    -- those that can pause get the fiber as their last argument
    abbrev pub wnative : Native → List Value → Fib → World → List ℕ → Woven_state
    wnative native.Get args f w ps = handed_does native.Get (without_fiber args) f w ps
    wnative native.Yield args f w ps = handed_does native.Yield (without_fiber args) f w ps
    wnative native.PutWait args f w ps = handed_does native.PutWait (without_fiber args) f w ps
    wnative native.Execute args f w ps = handed_does native.Execute (without_fiber args) f w ps
    wnative n args f w ps = native_does set w WStop (λ after v. go f after ps v) (raise f w ps) n args

    abbrev pub wnatives : Option Native → List Value → Fib → World → List ℕ → Woven_state
    wnatives None args f w ps = WStop Lost
    wnatives (Some n) args f w ps = wnative n args f w ps

    abbrev pub wasks : Option FiberMember → Option Native → List Value → Fib → World → List ℕ → Woven_state
    wasks (Some member) n args f w ps = member_does (WStop Lost) (λ f2 v. go f2 w ps v) member args f
    wasks None n args f w ps = wnatives n args f w ps

  -- `top` is the top frame
  abbrev pub weffect : Bool → Effect → Activation → List Activation → Fib → World → List ℕ → Woven_state
  weffect counts (Goes p l s heap) top b f w ps = WRun top.method p l s b f (tick counts (with_heap w heap)) ps
  weffect counts (Makes object p l s heap) top b f w ps = makes set w WStop (λ after v. WRun top.method p l (push v s) b f after ps) object (tick counts (with_heap w heap))
  weffect counts (Opens p l s heap) top b f w ps = opens_box set (with_heap w heap) WStop (λ after v. WRun top.method p l (push v s) b f after ps) (tick counts (with_heap w heap))
  weffect counts (Calls c args p l s heap) top b f w ps = wcalls counts c args (frame top.method p l s ∷ b) f (with_heap w heap) ps
  weffect counts (Asks c args p l s heap) top b f w ps =
      wasks (λ f2 after rest v. WRun top.method p l (push v s) b f2 after rest) (wraised_behind (frame top.method p l s ∷ b)) (member_of W c) (native_of W c) args f (with_heap w heap) ps
  weffect counts (Returns v heap) top b f w ps = wreturns counts v b f (with_heap w heap) ps
  weffect counts (Raises why) top b f w ps = raises set WStop (wstands_at f ps) (tick counts w) why W (λ c. thrown W c (Ref w.next) top b) (raised_class W (index_at W top) why)
  weffect counts (Throws n c why) top b f w ps = thrown_to set WStop (wstands_at f ps) (tick counts w) why (tick counts w) (thrown W c (Ref n) top b)
  weffect counts (Ends why) top b f w ps = ending set w WStop why
  weffect counts Stuck top b f w ps = WStop Lost

  abbrev pub spending_if : Bool → World → Woven_state → Woven_state
  spending_if true w go = spending set w WStop go
  spending_if false w go = go

  abbrev pub wfound : Option (Instr × ℕ × Bool) → Activation → List Activation → Fib → World → List ℕ → Woven_state
  wfound None top b f w ps = WStop Lost
  wfound (Some i) top b f w ps =
      let counts = i.2 && not (is_rewinding f) in
      spending_if counts w (weffect counts (does W (own_of W top.method) i.0 i.1 top.locals top.stack w.heap) top b f w ps)

  abbrev pub wresumes : Option MethodId → Fib → World → List ℕ → Woven_state
  wresumes None f w ps = WStop Lost
  wresumes (Some m) f w ps = enter m (first_receiver f ∷ Fiber ∷ []) [] (resumed f) w ps

  -- one microstep
  abbrev pub wstep : Woven_state → Woven_state
  wstep (WRun m p l s b f w ps) = wfound (wfetch m p) (frame m p l s) b f w ps
  wstep (Resting f w ps) = wresumes (executes_on W w.heap (first_receiver f)) f w ps
  wstep (WStop over) = WStop over

  abbrev pub wsteps : ℕ → Woven_state → Woven_state
  wsteps zero x = x
  wsteps (suc n) x = wsteps n (wstep x)
