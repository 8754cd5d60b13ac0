-- What a built-in method does is one outcome, whichever machine goes on with it.
use Rattle.std.proofs.Common.{◌≡◌, ℕ, ◌+◌, Bool, true, false, ℤ, List, [], ◌∷◌, Option, Some, None, refl, sym, ap, subst, ◌∙◌}
use Rattle.std.specs.Prelude.{zero, suc, pos, negsuc, nat_lt, if◌then◌else◌}
use Rattle.kilim_run_state.specs.declared.cause.EndCause.{EndCause}
use Rattle.kilim_run_state.specs.declared.cause.EndCause.TheVariants as cause
use Rattle.kilim_program.specs.declared.names.BoxName.{BoxName}
use Rattle.kilim_run_state.specs.declared.value.Object.{Object}
use Rattle.kilim_run_state.specs.declared.value.Token.{Token}
use Rattle.kilim_program.specs.declared.value.Value.{Value}
use Rattle.kilim_program.specs.declared.value.Value.TheVariants.{Int, Null, Ref, Box}
use Rattle.kilim_run_machine.specs.Natives.{Native}
use Rattle.kilim_run_machine.specs.Natives as native
use Rattle.kilim_run_journal.specs.declared.entry.Act.{Act}
use Rattle.kilim_run_journal.specs.declared.entry.Act.TheVariants.{Put, Take, Empty, Start, End}
use Rattle.kilim_run_model.specs.State.{Setting}
use Rattle.kilim_run_model.specs.declared.deed.Deed.{Deed}
use Rattle.kilim_run_state.specs.Shapes.{shape_of}
use Rattle.kilim_run_model.specs.Lone.{box_limit, printed, arg_at}
use Rattle.kilim_run_state.specs.Trees.{OfMessage, built}
use Rattle.kilim_fiber_spec.specs.Acts.{World, Over, Wants, Action, Puts, PutWaits, Bounds, Gets, Probes, Starts, Prints, Ends, acting, last, ending, put_by, puts, puts_value, put_wait_by, put_waits, waits_value, bounds, start_by, starts, receives, take_by, takes, probe_by, probes, prints, gives_arg, native_does, opens_box}

pub data Outcome : Type 0 where
  GoesOn : (after : World) (result : Option Value) → Outcome
  IsOver : Over → Outcome
  -- something is wrong with a value
  IsRaised : (cause : EndCause) → Outcome

abbrev pub fold : {S : Type 0} → (Over → S) → (World → Option Value → S) → (EndCause → S) → Outcome → S
fold over go raise (GoesOn after v) = go after v
fold over go raise (IsOver o) = over o
fold over go raise (IsRaised why) = raise why

-- one instruction more is done
abbrev pub Counts : World → Outcome → Type 0
Counts w (GoesOn after v) = after.done ≡ w.done + 1
Counts w (IsOver o) = Unit {0}
Counts w (IsRaised why) = Unit {0}

module _ {S : Type 0} (set : Setting) (w : World) (over : Over → S) where
  -- the end
  pub over_end : EndCause → Over
  over_end c = ending set w (λ (o : Over). o) c

  last_is : (c : EndCause) (rest : List Deed) → last set w over c rest ≡ over (last set w (λ (o : Over). o) c rest)
  last_is c [] = refl
  last_is c (t ∷ rest) = refl

  pub ending_is : (c : EndCause) → ending set w over c ≡ over (ending set w (λ (o : Over). o) c)
  ending_is c = by w.deeds
    where
      by : (deeds : List Deed) → elim deeds [ [] ↦ over (Wants (Ends c) w) | deed ∷ rest ↦ last set w over c rest ] ≡ over (elim deeds [ [] ↦ Wants (Ends c) w | deed ∷ rest ↦ last set w (λ (o : Over). o) c rest ])
      by [] = refl
      by (deed ∷ rest) = last_is c rest

module _ {S : Type 0} (set : Setting) (w : World) (over : Over → S) (go : World → Option Value → S) (raise : EndCause → S) where
  abbrev FO : Outcome → S
  FO = fold over go raise

  abbrev Same : S → Outcome → Type 0
  Same x o = (x ≡ FO o) × Counts w o

  end_same : (c : EndCause) → Same (ending set w over c) (ending set w IsOver c)
  end_same c = (ending_is set w over c ∙ sym (ap FO (ending_is set w IsOver c)), subst (λ (o : Outcome). Counts w o) (sym (ending_is set w IsOver c)) tt)

  if_same : (b : Bool) (x y : S) (o p : Outcome) → Same x o → Same y p → Same (if b then x else y) (if b then o else p)
  if_same true x y o p s r = s
  if_same false x y o p s r = r

  last_same : (c : EndCause) (rest : List Deed) → Same (last set w over c rest) (last set w IsOver c rest)
  last_same c [] = (refl, tt)
  last_same c (t ∷ rest) = (refl, tt)

  -- the next deed, whatever is made of it
  acting_same : (a : Action) (f : Deed → List Deed → S) (g : Deed → List Deed → Outcome) → ((d : Deed) (rest : List Deed) → Same (f d rest) (g d rest)) → Same (acting set w over a f) (acting set w IsOver a g)
  acting_same a f g h = by w.deeds
    where
      by : (deeds : List Deed) → Same (elim deeds [ [] ↦ over (Wants a w) | deed ∷ rest ↦ f deed rest ]) (elim deeds [ [] ↦ IsOver (Wants a w) | deed ∷ rest ↦ g deed rest ])
      by [] = (refl, tt)
      by (deed ∷ rest) = h deed rest

  put_same : (box : BoxName) (shape : List Token) (n : ℕ) (act : Act) (rest : List Deed) → Same (put_by set w over go box shape n act rest) (put_by set w IsOver GoesOn box shape n act rest)
  put_same box shape n (Put b k s) rest = (refl, refl)
  put_same box shape n (End c) rest = last_same cause.Full rest
  put_same box shape n act rest = (refl, tt)

  puts_same : (box : BoxName) (n : ℕ) (o : Option (List Token)) → Same (puts set w over go box n o) (puts set w IsOver GoesOn box n o)
  puts_same box n None = end_same cause.Large
  puts_same box n (Some shape) = acting_same (Puts box n shape) _ _ (λ d rest. put_same box shape n d.act rest)

  puts_value_same : (box : BoxName) (v : Value) → Same (puts_value set w over go raise box v) (puts_value set w IsOver GoesOn IsRaised box v)
  puts_value_same box Null = (refl, tt)
  puts_value_same box (Ref n) = puts_same box n (shape_of set.program w.heap n)
  puts_value_same box v = (refl, tt)

  put_wait_same : (box : BoxName) (shape : List Token) (n : ℕ) (act : Act) (rest : List Deed) → Same (put_wait_by set w over go box shape n act rest) (put_wait_by set w IsOver GoesOn box shape n act rest)
  put_wait_same box shape n (Put b k s) rest = (refl, refl)
  put_wait_same box shape n act rest = (refl, tt)

  put_waits_same : (box : BoxName) (n : ℕ) (o : Option (List Token)) → Same (put_waits set w over go box n o) (put_waits set w IsOver GoesOn box n o)
  put_waits_same box n None = end_same cause.Large
  put_waits_same box n (Some shape) = acting_same (PutWaits box n shape) _ _ (λ d rest. put_wait_same box shape n d.act rest)

  waits_value_same : (box : BoxName) (v : Value) → Same (waits_value set w over go raise box v) (waits_value set w IsOver GoesOn IsRaised box v)
  waits_value_same box Null = (refl, tt)
  waits_value_same box (Ref n) = put_waits_same box n (shape_of set.program w.heap n)
  waits_value_same box v = (refl, tt)

  bounds_same : (box : BoxName) (i : ℤ) → Same (bounds set w over go raise box i) (bounds set w IsOver GoesOn IsRaised box i)
  bounds_same box (pos (suc n)) = acting_same (Bounds box (suc n)) _ _ (λ d rest. (refl, refl))
  bounds_same box (pos zero) = (refl, tt)
  bounds_same box (negsuc n) = (refl, tt)

  start_same : (shape : List Token) (n : ℕ) (act : Act) (rest : List Deed) → Same (start_by set w over go shape n act rest) (start_by set w IsOver GoesOn shape n act rest)
  start_same shape n (Start t s) rest = (refl, refl)
  start_same shape n (End c) rest = last_same cause.Tasks rest
  start_same shape n act rest = (refl, tt)

  starts_same : (n : ℕ) (o : Option (List Token)) → Same (starts set w over go n o) (starts set w IsOver GoesOn n o)
  starts_same n None = end_same cause.Large
  starts_same n (Some shape) = acting_same (Starts n shape) _ _ (λ d rest. start_same shape n d.act rest)

  receives_same : (act : Act) (rest : List Deed) (o : Option (List Object)) → Same (receives set w over go act rest o) (receives set w IsOver GoesOn act rest o)
  receives_same act rest None = (refl, tt)
  receives_same act rest (Some objects) = (refl, refl)

  take_same : (box : BoxName) (taken : List Token) (act : Act) (rest : List Deed) → Same (take_by set w over go box taken act rest) (take_by set w IsOver GoesOn box taken act rest)
  take_same box taken (Take b k) rest = receives_same (Take box k) rest (built set.program OfMessage w.next taken)
  take_same box taken act rest = (refl, tt)

  pub takes_same : (box : BoxName) → Same (takes set w over go box) (takes set w IsOver GoesOn box)
  takes_same box = acting_same (Gets box) _ _ (λ d rest. take_same box d.taken d.act rest)

  probe_same : (box : BoxName) (taken : List Token) (act : Act) (rest : List Deed) → Same (probe_by set w over go box taken act rest) (probe_by set w IsOver GoesOn box taken act rest)
  probe_same box taken (Empty b) rest = (refl, refl)
  probe_same box taken act rest = take_same box taken act rest

  probes_same : (box : BoxName) → Same (probes set w over go box) (probes set w IsOver GoesOn box)
  probes_same box = acting_same (Probes box) _ _ (λ d rest. probe_same box d.taken d.act rest)

  prints_same : (o : Option Token) → Same (prints set w over go o) (prints set w IsOver GoesOn o)
  prints_same None = (refl, tt)
  prints_same (Some t) = acting_same (Prints t) _ _ (λ d rest. (refl, refl))

  arg_same : (o : Option ℤ) → Same (gives_arg set w over go raise o) (gives_arg set w IsOver GoesOn IsRaised o)
  arg_same None = (refl, tt)
  arg_same (Some n) = (refl, refl)

  -- one case distinction for all
  pub native_same : (n : Native) (args : List Value) → Same (native_does set w over go raise n args) (native_does set w IsOver GoesOn IsRaised n args)
  native_same native.Execute (Ref n ∷ []) = (refl, refl)
  native_same native.Start (Ref n ∷ []) = starts_same n (shape_of set.program w.heap n)
  native_same native.Put (Box box ∷ message ∷ []) = puts_value_same box message
  native_same native.PutWait (Box box ∷ message ∷ []) = waits_value_same box message
  native_same native.Bound (Box box ∷ Int i ∷ []) = bounds_same box i
  native_same native.Get (Box box ∷ []) = takes_same box
  native_same native.Getnb (Box box ∷ []) = probes_same box
  native_same native.Print (v ∷ []) = prints_same (printed v)
  native_same native.Yield [] = (refl, refl)
  native_same native.ArgCount [] = (refl, refl)
  native_same native.Arg (Int i ∷ []) = arg_same (arg_at set.limits.args i)
  native_same n args = (refl, tt)

  pub opens_same : (after : World) → after.done ≡ w.done + 1 → Same (opens_box set w over go after) (opens_box set w IsOver GoesOn after)
  opens_same after e = if_same (nat_lt w.boxes box_limit) _ _ _ _ (refl, e) (end_same cause.Boxes)
