-- A built-in method with arguments that it takes comes to no lost state.
use Rattle.std.proofs.Common.{◌≡◌, ℕ, Bool, true, false, ℤ, List, [], ◌∷◌, Option, Some, None, refl, sym, subst, zero, suc, pos, negsuc}
use Rattle.kilim_program.specs.declared.names.BoxName.{BoxName}
use Rattle.kilim_program.specs.declared.value.Value.{Value}
use Rattle.kilim_program.specs.declared.value.Value.TheVariants.{Box, Int, Null, Ref}
use Rattle.kilim_run_journal.specs.declared.entry.Act.{Act}
use Rattle.kilim_run_journal.specs.declared.entry.Act.TheVariants.{Empty, End, Put, Start, Take}
use Rattle.kilim_run_state.specs.declared.cause.EndCause.{EndCause}
use Rattle.kilim_run_state.specs.declared.cause.EndCause.TheVariants as cause
use Rattle.kilim_run_state.specs.declared.value.Object.{Object}
use Rattle.kilim_run_state.specs.declared.value.Token.{Token}
use Rattle.kilim_run_machine.specs.Natives.{Native}
use Rattle.kilim_run_machine.specs.Natives as native
use Rattle.kilim_run_machine.specs.Raising.{other_index, raised_class}
use Rattle.kilim_run_state.specs.Objects.{new_object}
use Rattle.kilim_run_state.specs.Shapes.{shape_of}
use Rattle.kilim_run_state.specs.Trees.{OfMessage, built}
use Rattle.kilim_run_model.specs.declared.deed.Deed.{Deed}
use Rattle.kilim_run_model.specs.Lone.{arg_at, printed}
use Rattle.kilim_run_model.specs.State.{Setting}
use Rattle.kilim_fiber_spec.specs.Acts.{Action, Lost, Wants, World, acting, ending, gives_arg, last, native_does, prints, probe_by, put_by, puts, puts_value, receives, start_by, starts, take_by, put_wait_by, put_waits, waits_value, bounds, counted, with_new}
use Rattle.kilim_fiber_spec.specs.Acts as action
use Rattle.kilim_fiber_spec.proofs.lone.Left.{raises_has}
use Rattle.kilim_fiber_spec.specs.Thread.{At, Frame, Stop, Thread, left_behind, raised_behind, stands_at}

abbrev pub is_lost : Thread → Bool
is_lost (Stop Lost) = true
is_lost t = false

-- ---- what each of them takes

abbrev pub IsMessage : Value → Type 0
IsMessage Null = Unit {0}
IsMessage (Ref n) = Unit {0}
IsMessage v = ⊥

abbrev pub TakesSuch : Native → List Value → Type 0
TakesSuch native.Execute (Ref n ∷ []) = Unit {0}
TakesSuch native.Start (Ref n ∷ []) = Unit {0}
TakesSuch native.Put (Box box ∷ message ∷ []) = IsMessage message
TakesSuch native.PutWait (Box box ∷ message ∷ []) = IsMessage message
TakesSuch native.Bound (Box box ∷ Int i ∷ []) = Unit {0}
TakesSuch native.Get (Box box ∷ []) = Unit {0}
TakesSuch native.Getnb (Box box ∷ []) = Unit {0}
TakesSuch native.Print (v ∷ []) = (t : Token) × (printed v ≡ Some t)
TakesSuch native.Yield [] = Unit {0}
TakesSuch native.ArgCount [] = Unit {0}
TakesSuch native.Arg (Int i ∷ []) = Unit {0}
TakesSuch n args = ⊥

module _ (set : Setting) (w : World) (go : World → Option Value → Thread) (on : (after : World) (v : Option Value) → is_lost (go after v) ≡ false) (raise : EndCause → Thread) (raised : (why : EndCause) → is_lost (raise why) ≡ false) where
  acted : (wish : Action) (k : Deed → List Deed → Thread) → ((d : Deed) (rest : List Deed) → is_lost (k d rest) ≡ false) → is_lost (acting set w Stop wish k) ≡ false
  acted wish k h = by w.deeds
    where
      by : (ds : List Deed) → is_lost (elim ds [ [] ↦ Stop (Wants wish w) | deed ∷ rest ↦ k deed rest ]) ≡ false
      by [] = refl
      by (d ∷ rest) = h d rest

  at_last : (why : EndCause) (rest : List Deed) → is_lost (last set w Stop why rest) ≡ false
  at_last why [] = refl
  at_last why (d ∷ rest) = refl

  ended : (why : EndCause) → is_lost (ending set w Stop why) ≡ false
  ended why = acted (action.Ends why) (λ deed rest. last set w Stop why rest) (λ d rest. at_last why rest)

  put_so : (box : BoxName) (shape : List Token) (n : ℕ) (act : Act) (rest : List Deed) → is_lost (put_by set w Stop go box shape n act rest) ≡ false
  put_so box shape n (Put b k s) rest = on _ _
  put_so box shape n (End c) rest = at_last cause.Full rest
  put_so box shape n act rest = refl

  puts_so : (box : BoxName) (n : ℕ) (o : Option (List Token)) → is_lost (puts set w Stop go box n o) ≡ false
  puts_so box n None = ended cause.Large
  puts_so box n (Some shape) = acted (action.Puts box n shape) (λ deed rest. put_by set w Stop go box shape n deed.act rest) (λ d rest. put_so box shape n d.act rest)

  message_so : (box : BoxName) (v : Value) → IsMessage v → is_lost (puts_value set w Stop go raise box v) ≡ false
  message_so box Null t = raised cause.Null
  message_so box (Ref n) t = puts_so box n (shape_of set.program w.heap n)
  message_so box v t = absurd t

  put_wait_so : (box : BoxName) (shape : List Token) (n : ℕ) (act : Act) (rest : List Deed) → is_lost (put_wait_by set w Stop go box shape n act rest) ≡ false
  put_wait_so box shape n (Put b k s) rest = on _ _
  put_wait_so box shape n act rest = refl

  put_waits_so : (box : BoxName) (n : ℕ) (o : Option (List Token)) → is_lost (put_waits set w Stop go box n o) ≡ false
  put_waits_so box n None = ended cause.Large
  put_waits_so box n (Some shape) = acted (action.PutWaits box n shape) (λ deed rest. put_wait_by set w Stop go box shape n deed.act rest) (λ d rest. put_wait_so box shape n d.act rest)

  wait_so : (box : BoxName) (v : Value) → IsMessage v → is_lost (waits_value set w Stop go raise box v) ≡ false
  wait_so box Null t = raised cause.Null
  wait_so box (Ref n) t = put_waits_so box n (shape_of set.program w.heap n)
  wait_so box v t = absurd t

  bound_so : (box : BoxName) (i : ℤ) → is_lost (bounds set w Stop go raise box i) ≡ false
  bound_so box (pos (suc n)) = acted (action.Bounds box (suc n)) _ (λ d rest. on _ _)
  bound_so box (pos zero) = raised cause.Size
  bound_so box (negsuc n) = raised cause.Size

  start_so : (shape : List Token) (n : ℕ) (act : Act) (rest : List Deed) → is_lost (start_by set w Stop go shape n act rest) ≡ false
  start_so shape n (Start t s) rest = on _ _
  start_so shape n (End c) rest = at_last cause.Tasks rest
  start_so shape n act rest = refl

  starts_so : (n : ℕ) (o : Option (List Token)) → is_lost (starts set w Stop go n o) ≡ false
  starts_so n None = ended cause.Large
  starts_so n (Some shape) = acted (action.Starts n shape) (λ deed rest. start_by set w Stop go shape n deed.act rest) (λ d rest. start_so shape n d.act rest)

  receives_so : (act : Act) (rest : List Deed) (o : Option (List Object)) → is_lost (receives set w Stop go act rest o) ≡ false
  receives_so act rest None = refl
  receives_so act rest (Some objects) = on _ _

  take_so : (box : BoxName) (taken : List Token) (act : Act) (rest : List Deed) → is_lost (take_by set w Stop go box taken act rest) ≡ false
  take_so box taken (Take b k) rest = receives_so (Take box k) rest (built set.program OfMessage w.next taken)
  take_so box taken act rest = refl

  probe_so : (box : BoxName) (taken : List Token) (act : Act) (rest : List Deed) → is_lost (probe_by set w Stop go box taken act rest) ≡ false
  probe_so box taken (Empty b) rest = on _ _
  probe_so box taken act rest = take_so box taken act rest

  prints_so : (v : Value) (t : Token) → printed v ≡ Some t → is_lost (prints set w Stop go (printed v)) ≡ false
  prints_so v t e = subst (λ (o : Option Token). is_lost (prints set w Stop go o) ≡ false) (sym e) (acted (action.Prints t) _ (λ d rest. on _ _))

  arg_so : (o : Option ℤ) → is_lost (gives_arg set w Stop go raise o) ≡ false
  arg_so None = raised cause.Index
  arg_so (Some n) = on _ _

  pub does_so : (k : Native) (args : List Value) → TakesSuch k args → is_lost (native_does set w Stop go raise k args) ≡ false
  does_so native.Execute (Ref n ∷ []) t = on _ _
  does_so native.Start (Ref n ∷ []) t = starts_so n (shape_of set.program w.heap n)
  does_so native.Put (Box box ∷ message ∷ []) t = message_so box message t
  does_so native.PutWait (Box box ∷ message ∷ []) t = wait_so box message t
  does_so native.Bound (Box box ∷ Int i ∷ []) t = bound_so box i
  does_so native.Get (Box box ∷ []) t = acted (action.Gets box) _ (λ d rest. take_so box d.taken d.act rest)
  does_so native.Getnb (Box box ∷ []) t = acted (action.Probes box) _ (λ d rest. probe_so box d.taken d.act rest)
  does_so native.Print (v ∷ []) t = prints_so v t.0 t.1
  does_so native.Yield [] t = on _ _
  does_so native.ArgCount [] t = on _ _
  does_so native.Arg (Int i ∷ []) t = arg_so (arg_at set.limits.args i)
  does_so n args t = absurd t

-- what is raised goes on at a handler, or ends the task
pub raised_so : (set : Setting) (b : List Frame) (w : World) (why : EndCause) → is_lost (raised_behind set b w why) ≡ false
raised_so set b w why =
    raises_has set (λ t. is_lost t ≡ false) (counted w) why (ends (counted w)) set.program (λ c. left_behind set.program c (Ref w.next) b) (raised_class set.program other_index why) (λ c f fs e. stands f fs (with_new (counted w) (new_object set.program c)))
  where
    ends : (v : World) → is_lost (ending set v Stop why) ≡ false
    ends v = by v.deeds
      where
        last_so : (rest : List Deed) → is_lost (last set v Stop why rest) ≡ false
        last_so [] = refl
        last_so (d ∷ rest) = refl

        by : (ds : List Deed) → is_lost (elim ds [ [] ↦ Stop (Wants (action.Ends why) v) | deed ∷ rest ↦ last set v Stop why rest ]) ≡ false
        by [] = refl
        by (d ∷ rest) = last_so rest

    stands : (f : Frame) (fs : List Frame) (v : World) → is_lost (stands_at set f fs v) ≡ false
    stands (At m p l s x) fs v = refl
