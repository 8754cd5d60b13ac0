-- What a built-in method does leaves the object that a task keeps.
use Rattle.std.proofs.Common.{◌≡◌, ℕ, ℤ, List, [], ◌∷◌, Option, Some, None, refl, zero, suc, pos, negsuc}
use Rattle.kilim_program.specs.declared.names.BoxName.{BoxName}
use Rattle.kilim_program.specs.declared.value.Value.{Value}
use Rattle.kilim_program.specs.declared.value.Value.TheVariants.{Box, Int, Null, Ref}
use Rattle.kilim_run_journal.specs.declared.entry.Act.{Act}
use Rattle.kilim_run_journal.specs.declared.entry.Act.TheVariants.{Empty, End, Put, Start, Take}
use Rattle.kilim_run_state.specs.declared.cause.EndCause.{EndCause}
use Rattle.kilim_run_state.specs.declared.cause.EndCause.TheVariants as cause
use Rattle.kilim_run_state.specs.declared.value.Object.{Object}
use Rattle.kilim_run_state.specs.declared.value.Token.{Token}
use Rattle.kilim_run_machine.specs.Natives.{Native}
use Rattle.kilim_run_machine.specs.Natives as native
use Rattle.kilim_run_state.specs.Shapes.{shape_of}
use Rattle.kilim_run_state.specs.Trees.{OfMessage, built}
use Rattle.kilim_run_model.specs.declared.deed.Deed.{Deed}
use Rattle.kilim_run_model.specs.Lone.{arg_at, printed}
use Rattle.kilim_run_model.specs.State.{Setting}
use Rattle.kilim_fiber_spec.specs.Acts.{Action, Astray, Finished, Lost, Over, Wants, World, acting, asks, ending, gives_arg, last, native_does, prints, probe_by, put_by, puts, puts_value, receives, start_by, starts, take_by, put_wait_by, put_waits, waits_value, bounds}
use Rattle.kilim_fiber_spec.specs.Acts as action
use Rattle.kilim_fiber_spec.specs.Thread.{Stop, Thread}

-- what is so of all ends, and wherever the thread goes on with the same kept object
module _ (set : Setting) (Q : Thread → Type 0) (over : (o : Over) → Q (Stop o)) (w : World) where
  acted : (wish : Action) (k : Deed → List Deed → Thread) → ((d : Deed) (rest : List Deed) → Q (k d rest)) → Q (acting set w Stop wish k)
  acted wish k h = by w.deeds
    where
      by : (ds : List Deed) → Q (elim ds [ [] ↦ Stop (Wants wish w) | deed ∷ rest ↦ k deed rest ])
      by [] = over (Wants wish w)
      by (d ∷ rest) = h d rest

  at_last : (why : EndCause) (rest : List Deed) → Q (last set w Stop why rest)
  at_last why [] = over (Finished why w)
  at_last why (d ∷ rest) = over Astray

  pub ended : (why : EndCause) → Q (ending set w Stop why)
  ended why = acted (action.Ends why) (λ deed rest. last set w Stop why rest) (λ d rest. at_last why rest)

  module _ (go : World → Option Value → Thread) (on : (after : World) (v : Option Value) → after.kept ≡ w.kept → Q (go after v)) (raise : EndCause → Thread) (raised : (why : EndCause) → Q (raise why)) where
    put_so : (box : BoxName) (shape : List Token) (n : ℕ) (act : Act) (rest : List Deed) → Q (put_by set w Stop go box shape n act rest)
    put_so box shape n (Put b k s) rest = on _ _ refl
    put_so box shape n (End c) rest = at_last cause.Full rest
    put_so box shape n act rest = over Astray

    puts_so : (box : BoxName) (n : ℕ) (o : Option (List Token)) → Q (puts set w Stop go box n o)
    puts_so box n None = ended cause.Large
    puts_so box n (Some shape) = acted (action.Puts box n shape) (λ deed rest. put_by set w Stop go box shape n deed.act rest) (λ d rest. put_so box shape n d.act rest)

    message_so : (box : BoxName) (v : Value) → Q (puts_value set w Stop go raise box v)
    message_so box Null = raised cause.Null
    message_so box (Ref n) = puts_so box n (shape_of set.program w.heap n)
    message_so box v = over Lost

    put_wait_so : (box : BoxName) (shape : List Token) (n : ℕ) (act : Act) (rest : List Deed) → Q (put_wait_by set w Stop go box shape n act rest)
    put_wait_so box shape n (Put b k s) rest = on _ _ refl
    put_wait_so box shape n act rest = over Astray

    put_waits_so : (box : BoxName) (n : ℕ) (o : Option (List Token)) → Q (put_waits set w Stop go box n o)
    put_waits_so box n None = ended cause.Large
    put_waits_so box n (Some shape) = acted (action.PutWaits box n shape) (λ deed rest. put_wait_by set w Stop go box shape n deed.act rest) (λ d rest. put_wait_so box shape n d.act rest)

    wait_so : (box : BoxName) (v : Value) → Q (waits_value set w Stop go raise box v)
    wait_so box Null = raised cause.Null
    wait_so box (Ref n) = put_waits_so box n (shape_of set.program w.heap n)
    wait_so box v = over Lost

    bound_so : (box : BoxName) (i : ℤ) → Q (bounds set w Stop go raise box i)
    bound_so box (pos (suc n)) = acted (action.Bounds box (suc n)) _ (λ d rest. on _ _ refl)
    bound_so box (pos zero) = raised cause.Size
    bound_so box (negsuc n) = raised cause.Size

    start_so : (shape : List Token) (n : ℕ) (act : Act) (rest : List Deed) → Q (start_by set w Stop go shape n act rest)
    start_so shape n (Start t s) rest = on _ _ refl
    start_so shape n (End c) rest = at_last cause.Tasks rest
    start_so shape n act rest = over Astray

    starts_so : (n : ℕ) (o : Option (List Token)) → Q (starts set w Stop go n o)
    starts_so n None = ended cause.Large
    starts_so n (Some shape) = acted (action.Starts n shape) (λ deed rest. start_by set w Stop go shape n deed.act rest) (λ d rest. start_so shape n d.act rest)

    receives_so : (act : Act) (rest : List Deed) (o : Option (List Object)) → Q (receives set w Stop go act rest o)
    receives_so act rest None = over Astray
    receives_so act rest (Some objects) = on _ _ refl

    take_so : (box : BoxName) (taken : List Token) (act : Act) (rest : List Deed) → Q (take_by set w Stop go box taken act rest)
    take_so box taken (Take b k) rest = receives_so (Take box k) rest (built set.program OfMessage w.next taken)
    take_so box taken act rest = over Astray

    probe_so : (box : BoxName) (taken : List Token) (act : Act) (rest : List Deed) → Q (probe_by set w Stop go box taken act rest)
    probe_so box taken (Empty b) rest = on _ _ refl
    probe_so box taken act rest = take_so box taken act rest

    prints_so : (o : Option Token) → Q (prints set w Stop go o)
    prints_so None = over Lost
    prints_so (Some t) = acted (action.Prints t) _ (λ d rest. on _ _ refl)

    arg_so : (o : Option ℤ) → Q (gives_arg set w Stop go raise o)
    arg_so None = raised cause.Index
    arg_so (Some n) = on _ _ refl

    does_so : (k : Native) (args : List Value) → Q (native_does set w Stop go raise k args)
    does_so native.Execute (Ref n ∷ []) = on _ _ refl
    does_so native.Start (Ref n ∷ []) = starts_so n (shape_of set.program w.heap n)
    does_so native.Put (Box box ∷ message ∷ []) = message_so box message
    does_so native.PutWait (Box box ∷ message ∷ []) = wait_so box message
    does_so native.Bound (Box box ∷ Int i ∷ []) = bound_so box i
    does_so native.Get (Box box ∷ []) = acted (action.Gets box) _ (λ d rest. take_so box d.taken d.act rest)
    does_so native.Getnb (Box box ∷ []) = acted (action.Probes box) _ (λ d rest. probe_so box d.taken d.act rest)
    does_so native.Print (v ∷ []) = prints_so (printed v)
    does_so native.Yield [] = on _ _ refl
    does_so native.ArgCount [] = on _ _ refl
    does_so native.Arg (Int i ∷ []) = arg_so (arg_at set.limits.args i)
    does_so n args = over Lost

    pub asks_so : (o : Option Native) (args : List Value) → Q (asks set w Stop go raise o args)
    asks_so None args = over Lost
    asks_so (Some n) args = does_so n args
