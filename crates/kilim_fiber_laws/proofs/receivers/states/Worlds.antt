-- Where a step ends, it shows the world as it was before; but an exception is counted.
use Rattle.std.proofs.Common.{◌≡◌, cond, ℤ, ℕ, ◌+◌, Bool, true, false, List, [], ◌∷◌, length, Option, Some, None, refl, sym, ap, subst, zero, suc, pos, negsuc}
use Rattle.std.specs.Prelude.{nat_le, nat_lt}
use Rattle.kilim_program.specs.declared.class.Method.{Method}
use Rattle.kilim_program.specs.declared.instr.Instr.{Instr}
use Rattle.kilim_program.specs.declared.names.BoxName.{BoxName}
use Rattle.kilim_program.specs.declared.names.ClassId.{ClassId}
use Rattle.kilim_program.specs.declared.names.MethodId.{MethodId}
use Rattle.kilim_program.specs.declared.value.Value.{Value}
use Rattle.kilim_program.specs.declared.value.Value.TheVariants.{Box, Int, Null, Ref}
use Rattle.kilim_program.specs.Names.{method_at}
use Rattle.kilim_run_journal.specs.declared.entry.Act.{Act}
use Rattle.kilim_run_journal.specs.declared.entry.Act.TheVariants.{Empty, End, Put, Start, Take}
use Rattle.kilim_run_state.specs.declared.cause.EndCause.{EndCause}
use Rattle.kilim_run_state.specs.declared.cause.EndCause.TheVariants as cause
use Rattle.kilim_run_state.specs.declared.value.Object.{Object}
use Rattle.kilim_run_state.specs.declared.value.Token.{Token}
use Rattle.kilim_run_machine.specs.Does.{does}
use Rattle.kilim_run_machine.specs.Effect.{Asks, Calls, Effect, Ends, Goes, Makes, Opens, Raises, Throws, Returns, Stuck}
use Rattle.kilim_run_state.specs.Machine.{Activation, Objects}
use Rattle.kilim_run_state.specs.Objects.{new_object}
use Rattle.kilim_run_machine.specs.Raising.{index_at, other_index, raised_class}
use Rattle.kilim_fiber_spec.proofs.lone.Left.{raises_has, thrown_has}
use Rattle.kilim_fiber_spec.specs.Fibers.{frame}
use Rattle.kilim_fiber_laws.specs.receivers.states.Law.{ended_in, is_exception, wanted_in}
use Rattle.kilim_program.specs.Members.{execute_of}
use Rattle.kilim_run_machine.specs.Moves.{entered, frame_limit}
use Rattle.kilim_run_machine.specs.Natives.{Native, native_of}
use Rattle.kilim_run_machine.specs.Natives as native
use Rattle.kilim_run_state.specs.Shapes.{shape_of}
use Rattle.kilim_run_state.specs.Trees.{OfMessage, built}
use Rattle.kilim_run_model.specs.declared.deed.Deed.{Deed}
use Rattle.kilim_run_model.specs.Lone.{arg_at, box_limit, printed}
use Rattle.kilim_run_model.specs.State.{Setting}
use Rattle.kilim_fiber_laws.proofs.receivers.Heaps.{KeepsHeap, keeps_heap}
use Rattle.kilim_fiber_spec.specs.Acts.{Action, Astray, Finished, Lost, Over, Wants, World, acting, asks, counted, ending, gives_arg, last, native_does, prints, probe_by, put_by, puts, puts_value, receives, start_by, starts, take_by, with_heap, put_wait_by, put_waits, waits_value, bounds, raises, with_new}
use Rattle.kilim_fiber_spec.specs.Acts as action
use Rattle.kilim_fiber_spec.specs.Thread.{At, Frame, Run, Stop, Thread, begins, begins_in, effect_does, fetch, finishes, found_does, own_of, push, returns, self_of, step, left_at, left_behind, raised_behind, stands_at}

abbrev pub WorldIs : World → Over → Type 0
WorldIs w (Wants a v) = v ≡ wanted_in a w
WorldIs w (Finished why v) = v ≡ ended_in why w
WorldIs w Astray = Unit {0}
WorldIs w Lost = Unit {0}

abbrev pub Shows : World → Thread → Type 0
Shows w (Run m p l s x b v) = Unit {0}
Shows w (Stop o) = WorldIs w o

-- what doesn't read how many instructions are done reads the same of both worlds
pub ended_same : {A : Type 0} (f : World → A) → ((v : World) → f (counted v) ≡ f v) → (why : EndCause) (v : World) → f (ended_in why v) ≡ f v
ended_same f h why v = by (is_exception why)
  where
    by : (z : Bool) → f (cond z (counted v) v) ≡ f v
    by true = h v
    by false = refl

pub wanted_same : {A : Type 0} (f : World → A) → ((v : World) → f (counted v) ≡ f v) → (wish : Action) (v : World) → f (wanted_in wish v) ≡ f v
wanted_same f h (action.Ends why) v = ended_same f h why v
wanted_same f h wish v = refl

module _ (set : Setting) where
  -- the end in the world v
  module _ (w v : World) (why : EndCause) (e : v ≡ ended_in why w) where
    last_in : (rest : List Deed) → Shows w (last set v Stop why rest)
    last_in [] = e
    last_in (d ∷ rest) = tt

    ended_at : Shows w (ending set v Stop why)
    ended_at = by v.deeds
      where
        by : (ds : List Deed) → Shows w (elim ds [ [] ↦ Stop (Wants (action.Ends why) v) | deed ∷ rest ↦ last set v Stop why rest ])
        by [] = e
        by (d ∷ rest) = last_in rest

  -- what is raised goes on at a handler, or ends the task
  stands : (w : World) (f : Frame) (fs : List Frame) (after : World) → Shows w (stands_at set f fs after)
  stands w (At m p l s x) fs after = tt

  counts : (w : World) (why : EndCause) → is_exception why ≡ true → counted w ≡ ended_in why w
  counts w why is = sym (ap (λ (z : Bool). cond z (counted w) w) is)

  raised_at : (w : World) (why : EndCause) → is_exception why ≡ true → (left : ClassId → List Frame) (o : Option ClassId) → Shows w (raises set Stop (stands_at set) (counted w) why set.program left o)
  raised_at w why is left o = raises_has set (Shows w) (counted w) why (ended_at w (counted w) why (counts w why is)) set.program left o (λ c f fs e. stands w f fs (with_new (counted w) (new_object set.program c)))

  module _ (w : World) where
    acted : (wish : Action) → w ≡ wanted_in wish w → (k : Deed → List Deed → Thread) → ((d : Deed) (rest : List Deed) → Shows w (k d rest)) → Shows w (acting set w Stop wish k)
    acted wish e k h = by w.deeds
      where
        by : (ds : List Deed) → Shows w (elim ds [ [] ↦ Stop (Wants wish w) | deed ∷ rest ↦ k deed rest ])
        by [] = e
        by (d ∷ rest) = h d rest

    at_last : (why : EndCause) → is_exception why ≡ false → (rest : List Deed) → Shows w (last set w Stop why rest)
    at_last why is rest = last_in w w why (sym (ap (λ (z : Bool). cond z (counted w) w) is)) rest

    pub ended : (why : EndCause) → is_exception why ≡ false → Shows w (ending set w Stop why)
    ended why is = ended_at w w why (sym (ap (λ (z : Bool). cond z (counted w) w) is))

    module _ (m : MethodId) (q : ℕ) (l s : List Value) (x : Value) (b : List Frame) where
      abbrev go : World → Option Value → Thread
      go after v = Run m q l (push v s) x b after

      abbrev raise : EndCause → Thread
      raise = raised_behind set (At m q l s x ∷ b) w

      raise_so : (why : EndCause) → is_exception why ≡ true → Shows w (raise why)
      raise_so why is = raised_at w why is (λ c. left_behind set.program c (Ref w.next) (At m q l s x ∷ b)) (raised_class set.program other_index why)

      put_so : (box : BoxName) (shape : List Token) (n : ℕ) (act : Act) (rest : List Deed) → Shows w (put_by set w Stop go box shape n act rest)
      put_so box shape n (Put c k z) rest = tt
      put_so box shape n (End why) rest = at_last cause.Full refl rest
      put_so box shape n act rest = tt

      puts_so : (box : BoxName) (n : ℕ) (o : Option (List Token)) → Shows w (puts set w Stop go box n o)
      puts_so box n None = ended cause.Large refl
      puts_so box n (Some shape) = acted (action.Puts box n shape) refl (λ deed rest. put_by set w Stop go box shape n deed.act rest) (λ d rest. put_so box shape n d.act rest)

      message_so : (box : BoxName) (v : Value) → Shows w (puts_value set w Stop go raise box v)
      message_so box Null = raise_so cause.Null refl
      message_so box (Ref n) = puts_so box n (shape_of set.program w.heap n)
      message_so box v = tt

      put_wait_so : (box : BoxName) (shape : List Token) (n : ℕ) (act : Act) (rest : List Deed) → Shows w (put_wait_by set w Stop go box shape n act rest)
      put_wait_so box shape n (Put c k z) rest = tt
      put_wait_so box shape n act rest = tt

      put_waits_so : (box : BoxName) (n : ℕ) (o : Option (List Token)) → Shows w (put_waits set w Stop go box n o)
      put_waits_so box n None = ended cause.Large refl
      put_waits_so box n (Some shape) = acted (action.PutWaits box n shape) refl (λ deed rest. put_wait_by set w Stop go box shape n deed.act rest) (λ d rest. put_wait_so box shape n d.act rest)

      wait_so : (box : BoxName) (v : Value) → Shows w (waits_value set w Stop go raise box v)
      wait_so box Null = raise_so cause.Null refl
      wait_so box (Ref n) = put_waits_so box n (shape_of set.program w.heap n)
      wait_so box v = tt

      bound_so : (box : BoxName) (i : ℤ) → Shows w (bounds set w Stop go raise box i)
      bound_so box (pos (suc n)) = acted (action.Bounds box (suc n)) refl _ (λ d rest. tt)
      bound_so box (pos zero) = raise_so cause.Size refl
      bound_so box (negsuc n) = raise_so cause.Size refl

      start_so : (shape : List Token) (n : ℕ) (act : Act) (rest : List Deed) → Shows w (start_by set w Stop go shape n act rest)
      start_so shape n (Start t z) rest = tt
      start_so shape n (End why) rest = at_last cause.Tasks refl rest
      start_so shape n act rest = tt

      starts_so : (n : ℕ) (o : Option (List Token)) → Shows w (starts set w Stop go n o)
      starts_so n None = ended cause.Large refl
      starts_so n (Some shape) = acted (action.Starts n shape) refl (λ deed rest. start_by set w Stop go shape n deed.act rest) (λ d rest. start_so shape n d.act rest)

      receives_so : (act : Act) (rest : List Deed) (o : Option (List Object)) → Shows w (receives set w Stop go act rest o)
      receives_so act rest None = tt
      receives_so act rest (Some objects) = tt

      take_so : (box : BoxName) (taken : List Token) (act : Act) (rest : List Deed) → Shows w (take_by set w Stop go box taken act rest)
      take_so box taken (Take c k) rest = receives_so (Take box k) rest (built set.program OfMessage w.next taken)
      take_so box taken act rest = tt

      probe_so : (box : BoxName) (taken : List Token) (act : Act) (rest : List Deed) → Shows w (probe_by set w Stop go box taken act rest)
      probe_so box taken (Empty c) rest = tt
      probe_so box taken act rest = take_so box taken act rest

      prints_so : (o : Option Token) → Shows w (prints set w Stop go o)
      prints_so None = tt
      prints_so (Some t) = acted (action.Prints t) refl _ (λ d rest. tt)

      arg_so : (o : Option ℤ) → Shows w (gives_arg set w Stop go raise o)
      arg_so None = raise_so cause.Index refl
      arg_so (Some n) = tt

      does_so : (k : Native) (args : List Value) → Shows w (native_does set w Stop go raise k args)
      does_so native.Execute (Ref n ∷ []) = tt
      does_so native.Start (Ref n ∷ []) = starts_so n (shape_of set.program w.heap n)
      does_so native.Put (Box box ∷ message ∷ []) = message_so box message
      does_so native.PutWait (Box box ∷ message ∷ []) = wait_so box message
      does_so native.Bound (Box box ∷ Int i ∷ []) = bound_so box i
      does_so native.Get (Box box ∷ []) = acted (action.Gets box) refl _ (λ d rest. take_so box d.taken d.act rest)
      does_so native.Getnb (Box box ∷ []) = acted (action.Probes box) refl _ (λ d rest. probe_so box d.taken d.act rest)
      does_so native.Print (v ∷ []) = prints_so (printed v)
      does_so native.Yield [] = tt
      does_so native.ArgCount [] = tt
      does_so native.Arg (Int i ∷ []) = arg_so (arg_at set.limits.args i)
      does_so n args = tt

      asks_so : (o : Option Native) (args : List Value) → Shows w (asks set w Stop go raise o args)
      asks_so None args = tt
      asks_so (Some n) args = does_so n args

    -- the last frame returned
    finished : (o : Option ℕ) → Shows w (finishes set w o)
    finished None = ended cause.Done refl
    finished (Some n) = by (execute_of set.program set.main)
      where
        after : World
        after = record (counted w) { kept = None }

        at : (c : MethodId) (z : Bool) → Shows w (cond z (ending set w Stop cause.Done) (Run c 0 (entered set.program c (Ref n ∷ [])).locals [] (Ref n) [] after))
        at c true = ended cause.Done refl
        at c false = tt

        found : (c : MethodId) (y : Option Method) → Shows w (begins_in set c n w after y)
        found c None = tt
        found c (Some method) = at c method.built_in

        by : (y : Option MethodId) → Shows w (begins set n w after y)
        by None = tt
        by (Some c) = found c (method_at set.program c)

    returned : (v : Option Value) (b : List Frame) → Shows w (returns set v b w)
    returned v [] = finished w.kept
    returned v (At m p l s x ∷ b) = tt

  -- in the same heap
  same : (w : World) (h : Objects) → h ≡ w.heap → (t : Thread) → Shows (with_heap w h) t → Shows w t
  same w h e t shows = subst (λ (k : Objects). Shows (with_heap w k) t) e shows

  effects : (e : Effect) (top : Activation) (x : Value) (b : List Frame) (w : World) → KeepsHeap w.heap e → Shows w (effect_does set e top x b w)
  effects (Goes q l s h) top x b w k = tt
  effects (Makes o q l s h) top x b w k = tt
  effects (Opens q l s h) top x b w k = by (nat_lt w.boxes box_limit)
    where
      by : (z : Bool) → Shows w (cond z (Run top.method q l (Box (record { task = w.task; number = w.boxes }) ∷ s) x b (record (counted (with_heap w h)) { boxes = w.boxes + 1 })) (ending set (with_heap w h) Stop cause.Boxes))
      by true = tt
      by false = same w h k (ending set (with_heap w h) Stop cause.Boxes) (ended (with_heap w h) cause.Boxes refl)
  effects (Calls c args q l s h) top x b w k = by (nat_lt (length (At top.method q l s x ∷ b)) frame_limit)
    where
      by : (z : Bool) → Shows w (cond z (Run c 0 (entered set.program c args).locals [] (self_of set.program c args) (At top.method q l s x ∷ b) (counted (with_heap w h))) (ending set (with_heap w h) Stop cause.Depth))
      by true = tt
      by false = same w h k (ending set (with_heap w h) Stop cause.Depth) (ended (with_heap w h) cause.Depth refl)
  effects (Asks c args q l s h) top x b w k =
      same w h k (asks set (with_heap w h) Stop (λ after v. Run top.method q l (push v s) x b after) (raised_behind set (At top.method q l s x ∷ b) (with_heap w h)) (native_of set.program c) args) (asks_so (with_heap w h) top.method q l s x b (native_of set.program c) args)
  effects (Returns v h) top x b w k = same w h k (returns set v b (with_heap w h)) (returned (with_heap w h) v b)
  effects (Raises why) top x b w k = raised_at w why k (λ c. left_at set.program c (Ref w.next) top x b) (raised_class set.program (index_at set.program top) why)
  effects (Throws n c why) top x b w k = thrown_has set (Shows w) (counted w) why (ended_at w (counted w) why (counts w why k)) (counted w) (left_at set.program c (Ref n) top x b) (λ f fs e. stands w f fs (counted w))
  effects (Ends why) top x b w k = ended w why k
  effects Stuck top x b w k = tt

  pub step_shows : (m : MethodId) (p : ℕ) (l s : List Value) (x : Value) (b : List Frame) (w : World) → Shows w (step set (Run m p l s x b w))
  step_shows m p l s x b w = by (nat_le set.limits.steps w.done)
    where
      found : (o : Option (Instr × ℕ)) → Shows w (found_does set o (frame m p l s) x b w)
      found None = tt
      found (Some at) = effects (does set.program (own_of set.program m) at.0 at.1 l s w.heap) (frame m p l s) x b w (keeps_heap set.program (own_of set.program m) l at.1 s w.heap at.0)

      by : (z : Bool) → Shows w (cond z (ending set w Stop cause.Spent) (found_does set (fetch set.program m p) (frame m p l s) x b w))
      by true = ended w cause.Spent refl
      by false = found (fetch set.program m p)
