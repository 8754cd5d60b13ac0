-- A step of the woven machine is what the fiber does next.
use Rattle.std.proofs.Common.{◌≡◌, ℕ, ◌+◌, ℤ, pos, Bool, true, false, cond, List, [], ◌∷◌, ◌++◌, length, Option, Some, None, refl, sym, ap, subst, ◌∙◌, zero, suc, negsuc}
use Rattle.std.specs.Prelude.{◌==◌, ◌&&◌, if◌then◌else◌, nat_le, nat_lt, not}
use Rattle.std.proofs.lemmas.Bool.{false≢true}
use Rattle.kilim_program.specs.declared.class.Method.{Method}
use Rattle.kilim_program.specs.declared.instr.Instr.{Instr}
use Rattle.kilim_program.specs.declared.names.BoxName.{BoxName}
use Rattle.kilim_program.specs.declared.names.MethodId.{MethodId}
use Rattle.kilim_program.specs.declared.value.Value.{Value}
use Rattle.kilim_program.specs.declared.value.Value.TheVariants.{Int, Null, Ref, Box, Fiber}
use Rattle.kilim_program.specs.Lengths.{fetched, first_place}
use Rattle.kilim_program.specs.Names.{method_at}
use Rattle.kilim_program.specs.Program.{Program}
use Rattle.kilim_run_journal.specs.declared.entry.Act.{Act}
use Rattle.kilim_run_journal.specs.declared.entry.Act.TheVariants as act
use Rattle.kilim_run_state.specs.declared.cause.EndCause.{EndCause}
use Rattle.kilim_run_state.specs.declared.cause.EndCause.TheVariants as cause
use Rattle.kilim_run_state.specs.declared.value.Object.{Object}
use Rattle.kilim_run_state.specs.declared.value.Token.{Token}
use Rattle.kilim_run_machine.specs.Does.{does}
use Rattle.kilim_run_machine.specs.Effect.{Effect}
use Rattle.kilim_run_machine.specs.Effect as effect
use Rattle.kilim_run_state.specs.Machine.{Objects, Activation}
use Rattle.kilim_program.specs.Members.{execute_of}
use Rattle.kilim_run_machine.specs.Moves.{Enters, Runs, effect_found, effect_in, effect_of, entered, frame_limit, goes_on, move_by, moves, push_result, receiver_of}
use Rattle.kilim_run_machine.specs.Moves as move
use Rattle.kilim_run_machine.specs.Natives.{Native, FiberMember, Pc, Down, Up, Save, Place, Restore, Receiver, native_of}
use Rattle.kilim_run_machine.specs.Natives as native
use Rattle.kilim_run_state.specs.Shapes.{shape_of}
use Rattle.kilim_run_model.specs.declared.deed.Deed.{Deed}
use Rattle.kilim_run_model.specs.Lone.{arg_at, box_limit, printed}
use Rattle.kilim_run_model.specs.State.{Setting}
use Rattle.kilim_fiber_laws.specs.woven_kin.history.History.{Does, Outcome, state_in, took, world_of}
use Rattle.kilim_fiber_laws.specs.woven_kin.history.Laws.{MachineFollows}
use Rattle.kilim_fiber_laws.specs.woven_kin.Nexts.{raised, raises as table_raises, thrown_to, counted as table_counted, with_new, Next, Goes, Gets, Rests, Ends, Stands, arg_next, asks_next, begins_next, begun_in, begun_with, found_next, finish_next, get_next, message_next, native_next, next_by, next_in, next_of, paused_at, print_next, put_next, resumes_next, spent_or, start_next, stood, taken_at, ticked, yield_next, put_wait_next, wait_next, bound_next, PutsAgain, first_wait, putw_next, wait_again, waiting_at}
use Rattle.kilim_fiber_laws.specs.woven_kin.Standing.{Standing}
use Rattle.kilim_fiber_spec.specs.Acts.{raises as acts_raises, thrown_to as acts_thrown_to, Lost, World, counted, ending, gives_arg, native_does, prints, puts, puts_value, receives, starts, with_heap, put_waits, bounds, Apart, Wants, together}
use Rattle.kilim_fiber_spec.specs.Acts as action
use Rattle.kilim_run_model.specs.Course.{plain}
use Rattle.kilim_run_machine.specs.Raising.{index_at, other_index, raised_class, thrown, unwound}
use Rattle.kilim_run_state.specs.Objects.{new_object}
use Rattle.kilim_program.specs.declared.names.ClassId.{ClassId}
use Rattle.kilim_fiber_spec.specs.Fibers.{frame, wraised_behind, wstands_at, Fib, Fiber_at, Resting, Saved, WRun, WStop, Woven_state, as_member, before, enter, executes_on, first_receiver, gets, handed_does, is_pausing, is_rewinding, marked, marks_of, member_does, rewound, spending_if, tick, wasks, wbegins, wbegins_in, wcode_in, weffect, wfetch, wfinishes, wfound, without_fiber, wnative, wreturns, wresumes, wstep, yields, put_again, puts_kept, putting, waits, waits_again, waits_on}
use Rattle.kilim_fiber_spec.specs.Thread.{own_in, own_of, push}

-- ---- the instruction at a place

-- a marked instruction stands in the code
marked_fetched : (es : List (ℕ × Instr)) (bs : List Bool) (end p : ℕ) (i : Instr) (nx : ℕ) (mk : Bool) → marked es bs end p ≡ Some (i, nx, mk) → fetched es end p ≡ Some (i, nx)
marked_fetched [] [] end p i nx mk h = absurd (cc)
marked_fetched [] (b ∷ bs) end p i nx mk h = absurd (cc)
marked_fetched (e ∷ es) [] end p i nx mk h = absurd (cc)
marked_fetched (e ∷ es) (b ∷ bs) end p i nx mk h = by (e.0 == p) h (λ k. marked_fetched es bs end p i nx mk k)
  where
    of : Option (Instr × ℕ × Bool) → Option (Instr × ℕ)
    of None = None
    of (Some z) = Some (z.0, z.1)

    by : (t : Bool) → (if t then Some (e.1, first_place es end, b) else marked es bs end p) ≡ Some (i, nx, mk) → (marked es bs end p ≡ Some (i, nx, mk) → fetched es end p ≡ Some (i, nx))
        → (if t then Some (e.1, first_place es end) else fetched es end p) ≡ Some (i, nx)
    by true h go = ap of h
    by false h go = go h

-- what it does is what the move looks at
effect_at : (W : Program) (bs : List Bool) (top : Activation) (h : Objects) (o : Option Method) (i : Instr) (nx : ℕ) (mk : Bool) → wcode_in bs o top.place ≡ Some (i, nx, mk) → does W (own_in o) i nx top.locals top.stack h ≡ effect_in W top h o
effect_at W bs top h None i nx mk e = absurd (cc)
effect_at W bs top h (Some own) i nx mk e = sym (ap (λ (z : Option (Instr × ℕ)). effect_found W own top h z) (marked_fetched own.code bs own.code_length top.place i nx mk e))

-- ---- arguments with the fiber behind them

abbrev all_but : Option (List Value) → List Value
all_but None = []
all_but (Some us) = us

one_more : (v : Value) (us vs : List Value) (o : Option (List Value)) → ((xs : List Value) → o ≡ Some xs → us ≡ xs ++ Fiber ∷ []) → before v o ≡ Some vs → v ∷ us ≡ vs ++ Fiber ∷ []
one_more v us vs None go e = absurd (cc)
one_more v us vs (Some xs) go e = ap (λ (z : List Value). v ∷ z) (go xs refl) ∙ ap (λ (z : Option (List Value)). all_but z ++ Fiber ∷ []) e

with_fiber : (args vs : List Value) → without_fiber args ≡ Some vs → args ≡ vs ++ Fiber ∷ []
with_fiber [] vs e = absurd (cc)
with_fiber (Fiber ∷ []) vs e = ap (λ (z : Option (List Value)). all_but z ++ Fiber ∷ []) e
with_fiber (v ∷ w ∷ us) vs e = one_more v (w ∷ us) vs (without_fiber (w ∷ us)) (λ xs d. with_fiber (w ∷ us) xs d) e
with_fiber (_ ∷ []) vs e = absurd (cc)

-- the receiver alone is left
abbrev is_object : Option (List Value) → Bool
is_object (Some (Ref n ∷ [])) = true
is_object o = false

abbrev is_one : Option (List Value) → Bool
is_one (Some (v ∷ [])) = true
is_one o = false

abbrev is_two : Option (List Value) → Bool
is_two (Some (v ∷ u ∷ [])) = true
is_two o = false

abbrev is_none : Option (List Value) → Bool
is_none (Some []) = true
is_none o = false

module _ (set : Setting) (W : Program) (marks : List (List Bool)) (t : ℕ) where
  abbrev Is : Outcome → Next → Type 0
  Is out next = Does set t out next

  -- ---- it ends

  ends_at : (z : Standing) (why : EndCause) → Is (λ rest acts ps. ending set (world_of t z rest acts) WStop why) (Ends why)
  ends_at z why acts more = (world_of t z [] acts, refl, refl)

  -- ---- exceptions

  left_so : (zc zn : Standing) (why : EndCause) (left : List Activation) → Is (λ rest acts ps. acts_thrown_to set WStop (wstands_at set W marks zn.fiber ps) (world_of t zc rest acts) why (world_of t zn rest acts) left) (thrown_to zn why left)
  left_so zc zn why [] = ends_at zc why
  left_so zc zn why (f ∷ fs) = λ rest acts ps. refl

  raises_so : (zc : Standing) (why : EndCause) (left : ClassId → List Activation) (o : Option ClassId) →
      Is (λ rest acts ps. acts_raises set WStop (wstands_at set W marks zc.fiber ps) (world_of t zc rest acts) why W left o) (table_raises W zc why left o)
  raises_so zc why left None = ends_at zc why
  raises_so zc why left (Some c) = left_so zc (with_new zc (new_object W c)) why (left c)

  -- a counted instruction is done where instructions are left
  spent : (counts : Bool) (x : Standing) (out : Outcome) (next : Next) → Is out next → Is (λ rest acts ps. spending_if set W marks counts (world_of t x rest acts) (out rest acts ps)) (spent_or set counts x.done next)
  spent false x out next e = e
  spent true x out next e = by (nat_le set.limits.steps x.done)
    where
      by : (z : Bool) → Is (λ rest acts ps. cond z (ending set (world_of t x rest acts) WStop cause.Spent) (out rest acts ps)) (cond z (Ends cause.Spent) next)
      by true = ends_at x cause.Spent
      by false = e

  -- ---- built-in methods, with the fiber behind the call

  module _ (z : Standing) (m : MethodId) (p : ℕ) (l s : List Value) (b : List Activation) where
    -- behind the call, with a result, if there is one
    abbrev at_call : Standing
    at_call = record z { frames = record { method = m; place = p; locals = l; stack = s } ∷ b }

    abbrev go : Fib → World → List ℕ → Option Value → Woven_state
    go f w ps v = WRun m p l (push v s) b f w ps

    abbrev here : List Deed → List Act → World
    here rest acts = world_of t z rest acts

    abbrev raise : Fib → World → List ℕ → EndCause → Woven_state
    raise = wraised_behind set W marks (frame m p l s ∷ b)

    raised_at : (why : EndCause) → Is (λ rest acts ps. raise z.fiber (here rest acts) ps why) (raised W at_call why)
    raised_at why = raises_so (table_counted at_call) why (λ c. unwound W c (Ref z.next) (frame m p l s ∷ b)) (raised_class W other_index why)

    -- where no verified code comes
    lost_so : (o : Option (List Value)) (n : Native) (args : List Value) → native_next set W at_call n args ≡ Stands → ((acts : List Act) (more : List ℕ) → handed_does set W marks go raise n o z.fiber (here [] acts) (0 ∷ more) ≡ WStop Lost) →
        Is (λ rest acts ps. handed_does set W marks go raise n o z.fiber (here rest acts) ps) (native_next set W at_call n args)
    lost_so o n args stands lost = subst (λ (y : Next). Is (λ rest acts ps. handed_does set W marks go raise n o z.fiber (here rest acts) ps) y) (sym stands) lost

    -- a built-in method without the fiber among its arguments
    abbrev Plainly : Native → List Value → Outcome
    Plainly n args rest acts ps = native_does set (here rest acts) WStop (λ after v. go z.fiber after ps v) (raise z.fiber (here rest acts) ps) n args

    put_so : (box : BoxName) (n : ℕ) (o : Option (List Token)) → Is (λ rest acts ps. puts set (here rest acts) WStop (λ after v. go z.fiber after ps v) box n o) (put_next at_call box n o)
    put_so box n None = ends_at z cause.Large
    put_so box n (Some shape) = (λ acts more. (here [] acts, refl, refl, refl, refl, refl, refl), λ k rest acts ps. refl)

    message_so : (box : BoxName) (v : Value) → Is (λ rest acts ps. puts_value set (here rest acts) WStop (λ after u. go z.fiber after ps u) (raise z.fiber (here rest acts) ps) box v) (message_next set.program W at_call box v)
    message_so box Null = raised_at cause.Null
    message_so box (Ref n) = put_so box n (shape_of set.program z.heap n)
    message_so box _ = λ acts more. refl

    -- a put that waits is made now
    abbrev put_now : List Deed → List Act → List ℕ → List Value → Woven_state
    put_now rest acts ps args = native_does set (here rest acts) WStop (λ after v. go (rewound z.fiber) after ps v) (raise z.fiber (here rest acts) ps) native.PutWait args

    put_wait_so : (box : BoxName) (n : ℕ) (o : Option (List Token)) → shape_of set.program z.heap n ≡ o → nat_le set.limits.steps z.done ≡ false →
        Is (λ rest acts ps. waits set W marks go raise (Box box ∷ Ref n ∷ []) z.fiber (here rest acts) ps) (put_wait_next set.program at_call box n o)
    put_wait_so box n None has left = λ acts more. (
      here [] acts,
      ap (λ (c : Bool). cond c (ending set (here [] acts) WStop cause.Spent) (put_now [] acts more (Box box ∷ Ref n ∷ []))) left ∙ ap (λ (o : Option (List Token)). put_waits set (here [] acts) WStop (λ after v. go (rewound z.fiber) after more v) box n o) has,
      refl,
    )
    put_wait_so box n (Some shape) has left = (
      λ acts more. (
        here [] acts,
        ap (λ (c : Bool). cond c (ending set (here [] acts) WStop cause.Spent) (put_now [] acts more (Box box ∷ Ref n ∷ []))) left ∙ ap (λ (o : Option (List Token)). put_waits set (here [] acts) WStop (λ after v. go (rewound z.fiber) after more v) box n o) has,
        refl,
        refl,
        refl,
        refl,
        refl,
      ),
      λ rest acts k ps. ap (λ (o : Option (List Token)). waits_on set W marks go raise box n o z.fiber (here rest acts) k ps) has,
      λ k rest acts ps.
          ap (λ (c : Bool). cond c (ending set (here (plain (act.Put box k shape) ∷ rest) acts) WStop cause.Spent) (put_now (plain (act.Put box k shape) ∷ rest) acts ps (Box box ∷ Ref n ∷ []))) left
          ∙ ap (λ (o : Option (List Token)). put_waits set (here (plain (act.Put box k shape) ∷ rest) acts) WStop (λ after v. go (rewound z.fiber) after ps v) box n o) has,
    )

    -- instructions are left
    spent_not : (out : Outcome) (next : Next) → nat_le set.limits.steps z.done ≡ false → Is out next → Is (λ rest acts ps. cond (nat_le set.limits.steps z.done) (ending set (here rest acts) WStop cause.Spent) (out rest acts ps)) next
    spent_not out next left is = subst (λ (c : Bool). Is (λ rest acts ps. cond c (ending set (here rest acts) WStop cause.Spent) (out rest acts ps)) next) (sym left) is

    wait_so : (box : BoxName) (v : Value) → nat_le set.limits.steps z.done ≡ false → Is (λ rest acts ps. waits set W marks go raise (Box box ∷ v ∷ []) z.fiber (here rest acts) ps) (wait_next set.program W at_call box v)
    wait_so box Null left =
        spent_not (λ rest acts ps. put_now rest acts ps (Box box ∷ Null ∷ [])) (raised W at_call cause.Null) left (raised_at cause.Null)
    wait_so box (Ref n) left = put_wait_so box n (shape_of set.program z.heap n) refl left
    wait_so box v left = λ acts more. ap (λ (c : Bool). cond c (ending set (here [] acts) WStop cause.Spent) (WStop Lost)) left

    first_so : (v u : Value) → nat_le set.limits.steps z.done ≡ false → Is (λ rest acts ps. waits set W marks go raise (v ∷ u ∷ []) z.fiber (here rest acts) ps) (first_wait set.program W at_call v u)
    first_so (Box box) u left = wait_so box u left
    first_so v u left = λ acts more. ap (λ (c : Bool). cond c (ending set (here [] acts) WStop cause.Spent) (WStop Lost)) left

    waits_so : (v u : Value) → Is (λ rest acts ps. waits set W marks go raise (v ∷ u ∷ []) z.fiber (here rest acts) ps) (spent_or set true z.done (first_wait set.program W at_call v u))
    waits_so v u = by (nat_le set.limits.steps z.done) refl
      where
        over : (xs : List Value) (acts : List Act) (more : List ℕ) → nat_le set.limits.steps z.done ≡ true → waits set W marks go raise xs z.fiber (here [] acts) (0 ∷ more) ≡ ending set (here [] acts) WStop cause.Spent
        over (Box box ∷ Ref n ∷ []) acts more e = ap (λ (c : Bool). cond c (ending set (here [] acts) WStop cause.Spent) (put_now [] acts more (Box box ∷ Ref n ∷ []))) e
        over (Box box ∷ Null ∷ []) acts more e = ap (λ (c : Bool). cond c (ending set (here [] acts) WStop cause.Spent) (put_now [] acts (0 ∷ more) (Box box ∷ Null ∷ []))) e
        over xs acts more e = ap (λ (c : Bool). cond c (ending set (here [] acts) WStop cause.Spent) (put_now [] acts more xs)) e

        by : (c : Bool) → nat_le set.limits.steps z.done ≡ c → Is (λ rest acts ps. waits set W marks go raise (v ∷ u ∷ []) z.fiber (here rest acts) ps) (cond c (Ends cause.Spent) (first_wait set.program W at_call v u))
        by true e = λ acts more. (here [] acts, over (v ∷ u ∷ []) acts more e, refl)
        by false e = first_so v u e

    -- made again
    again_left : (box : BoxName) (kept : Apart) (others : List Apart) → nat_le set.limits.steps z.done ≡ false → Is (λ rest acts ps. waits_again set W marks go raise box kept others z.fiber (here rest acts) ps)
        (PutsAgain box kept.root kept.shape (taken_at (record at_call { heap = kept.heap; aside = others })) (waiting_at box at_call) (taken_at (record at_call { aside = others })))
    again_left box kept others left = (
      λ acts more. (
        together kept.heap others (here [] acts),
        ap (λ (c : Bool). cond c (ending set (together kept.heap others (here [] acts)) WStop cause.Spent) (WStop (Wants (action.PutWaits box kept.root kept.shape) (together kept.heap others (here [] acts))))) left,
        refl,
        refl,
        refl,
        refl,
        refl,
      ),
      λ rest acts k ps. refl,
      λ k rest acts ps.
          ap (λ (c : Bool). cond c (ending set (together kept.heap others (here (plain (act.Put box k kept.shape) ∷ rest) acts)) WStop cause.Spent)
          (put_again set W marks go raise box kept.shape z.fiber (here (plain (act.Put box k kept.shape) ∷ rest) acts) (together kept.heap others (here (plain (act.Put box k kept.shape) ∷ rest) acts)) ps (act.Put box k kept.shape) rest)) left,
    )

    again_by : (box : BoxName) (kept : Apart) (others : List Apart) → Is (λ rest acts ps. waits_again set W marks go raise box kept others z.fiber (here rest acts) ps) (wait_again set at_call (Box box) (kept ∷ others))
    again_by box kept others = by (nat_le set.limits.steps z.done) refl
      where
        by : (c : Bool) → nat_le set.limits.steps z.done ≡ c → Is (λ rest acts ps. waits_again set W marks go raise box kept others z.fiber (here rest acts) ps)
            (cond c (Ends cause.Spent) (PutsAgain box kept.root kept.shape (taken_at (record at_call { heap = kept.heap; aside = others })) (waiting_at box at_call) (taken_at (record at_call { aside = others }))))
        by true e = λ acts more. (
          together kept.heap others (here [] acts),
          ap (λ (c : Bool). cond c (ending set (together kept.heap others (here [] acts)) WStop cause.Spent) (WStop (Wants (action.PutWaits box kept.root kept.shape) (together kept.heap others (here [] acts))))) e,
          refl,
        )
        by false e = again_left box kept others e

    again_so : (v u : Value) (kept : List Apart) → Is (λ rest acts ps. puts_kept set W marks go raise kept (v ∷ u ∷ []) z.fiber (here rest acts) ps) (wait_again set at_call v kept)
    again_so (Box box) u (kept ∷ others) = again_by box kept others
    again_so (Box box) u [] = λ acts more. refl
    again_so v u [] = λ acts more. refl
    again_so v u (kept ∷ others) = λ acts more. refl

    putting_so : (v u : Value) (f : Fib) → z.fiber ≡ f → Is (λ rest acts ps. putting set W marks go raise (v ∷ u ∷ []) f (here rest acts) ps) (putw_next set W (is_rewinding f) at_call v u)
    putting_so v u (Fiber_at lo r de true pa) e = subst (λ (g : Fib). Is (λ rest acts ps. puts_kept set W marks go raise z.aside (v ∷ u ∷ []) g (here rest acts) ps) (wait_again set at_call v z.aside)) e (again_so v u z.aside)
    putting_so v u (Fiber_at lo r de false pa) e = subst (λ (g : Fib). Is (λ rest acts ps. waits set W marks go raise (v ∷ u ∷ []) g (here rest acts) ps) (spent_or set true z.done (first_wait set.program W at_call v u))) e (waits_so v u)

    bound_so : (box : BoxName) (i : ℤ) → Is (λ rest acts ps. bounds set (here rest acts) WStop (λ after v. go z.fiber after ps v) (raise z.fiber (here rest acts) ps) box i) (bound_next W at_call box i)
    bound_so box (pos (suc n)) = (λ acts more. (here [] acts, refl, refl, refl, refl, refl, refl), λ rest acts ps. refl)
    bound_so box (pos zero) = raised_at cause.Size
    bound_so box (negsuc n) = raised_at cause.Size

    start_so : (n : ℕ) (o : Option (List Token)) → Is (λ rest acts ps. starts set (here rest acts) WStop (λ after v. go z.fiber after ps v) n o) (start_next at_call n o)
    start_so n None = ends_at z cause.Large
    start_so n (Some shape) = (λ acts more. (here [] acts, refl, refl, refl, refl, refl, refl), λ k rest acts ps. refl)

    print_so : (o : Option Token) → Is (λ rest acts ps. prints set (here rest acts) WStop (λ after v. go z.fiber after ps v) o) (print_next at_call o)
    print_so None = λ acts more. refl
    print_so (Some token) = (λ acts more. (here [] acts, refl, refl, refl, refl, refl, refl), λ rest acts ps. refl)

    arg_so : (o : Option ℤ) → Is (λ rest acts ps. gives_arg set (here rest acts) WStop (λ after v. go z.fiber after ps v) (raise z.fiber (here rest acts) ps) o) (arg_next W at_call o)
    arg_so None = raised_at cause.Index
    arg_so (Some n) = λ rest acts ps. refl

    -- a tree of the shape in the deed comes
    probe_so : (box : BoxName) → Is (Plainly native.Getnb (Box box ∷ [])) (native_next set W at_call native.Getnb (Box box ∷ []))
    probe_so box = (
      λ acts more. (here [] acts, refl, refl, refl, refl, refl, refl),
      λ rest acts ps. refl,
      λ n shape os e rest acts ps.
          ap (λ (o : Option (List Object)). receives set (here (took box n shape ∷ rest) acts) WStop (λ after v. go z.fiber after ps v) (act.Take box n) rest o) e,
    )

    -- a `get` of a mailbox, with instructions left
    mailbox_so : (box : BoxName) → nat_le set.limits.steps z.done ≡ false → Is (λ rest acts ps. gets set W marks go raise (Box box ∷ []) (Box box) z.fiber (here rest acts) ps) (Gets box (paused_at box at_call) (taken_at at_call))
    mailbox_so box left = (
      λ acts more. (here [] acts, ap (λ (c : Bool). cond c (ending set (here [] acts) WStop cause.Spent) (takes_by [] acts more)) left, refl, refl, refl, refl, refl),
      λ rest acts k ps. refl,
      λ n shape os e rest acts ps.
          ap (λ (c : Bool). cond c (ending set (here (took box n shape ∷ rest) acts) WStop cause.Spent) (takes_by (took box n shape ∷ rest) acts ps)) left
          ∙ ap (λ (o : Option (List Object)). receives set (here (took box n shape ∷ rest) acts) WStop (λ after v. go (rewound z.fiber) after ps v) (act.Take box n) rest o) e,
    )
      where
        takes_by : List Deed → List Act → List ℕ → Woven_state
        takes_by rest acts ps = native_does set (here rest acts) WStop (λ after v. go (rewound z.fiber) after ps v) (raise z.fiber (here rest acts) ps) native.Get (Box box ∷ [])

    -- of something else
    other_so : (v : Value) → nat_le set.limits.steps z.done ≡ false → Is (λ rest acts ps. gets set W marks go raise (v ∷ []) v z.fiber (here rest acts) ps) (get_next at_call v)
    other_so (Box box) left = mailbox_so box left
    other_so _ left = λ acts more. ap (λ (c : Bool). cond c (ending set (here [] acts) WStop cause.Spent) (WStop Lost)) left

    get_so : (v : Value) → Is (λ rest acts ps. gets set W marks go raise (v ∷ []) v z.fiber (here rest acts) ps) (spent_or set true z.done (get_next at_call v))
    get_so v = by (nat_le set.limits.steps z.done) refl
      where
        by : (c : Bool) → nat_le set.limits.steps z.done ≡ c → Is (λ rest acts ps. gets set W marks go raise (v ∷ []) v z.fiber (here rest acts) ps) (cond c (Ends cause.Spent) (get_next at_call v))
        by true e = λ acts more. (
          here [] acts,
          ap (λ (c : Bool). cond c (ending set (here [] acts) WStop cause.Spent) (native_does set (here [] acts) WStop (λ after u. go (rewound z.fiber) after more u) (raise z.fiber (here [] acts) more) native.Get (v ∷ []))) e,
          refl,
        )
        by false e = other_so v e

    yield_so : (f : Fib) → z.fiber ≡ f → Is (λ rest acts ps. yields set W marks go raise f (here rest acts) ps) (yield_next (is_rewinding f) (record at_call { fiber = f }))
    yield_so (Fiber_at lo r de true pa) e = λ rest acts ps. refl
    yield_so (Fiber_at lo r de false pa) e = λ rest acts ps. refl

    -- members of `kilim/Fiber`
    member_so : (member : FiberMember) (args : List Value) (f : Fib) →
        Is (λ rest acts ps. member_does (WStop Lost) (λ g v. go g (here rest acts) ps v) member args f) (member_does Stands (λ g v. Goes (record at_call { fiber = g; frames = push_result v at_call.frames })) member args f)
    member_so Pc (Fiber ∷ []) (Fiber_at lo (Saved q x vs) de re pa) = λ rest acts ps. refl
    member_so Down (Fiber ∷ []) (Fiber_at lo r [] re pa) = λ rest acts ps. refl
    member_so Down (Fiber ∷ []) (Fiber_at lo r (d ∷ de) re pa) = λ rest acts ps. refl
    member_so Up (Fiber ∷ []) (Fiber_at [] r de re pa) = λ acts more. refl
    member_so Up (Fiber ∷ []) (Fiber_at (k ∷ lo) r de re pa) = λ rest acts ps. refl
    member_so Save (v ∷ Fiber ∷ []) (Fiber_at lo (Saved q x vs) de re pa) = λ rest acts ps. refl
    member_so Place (Int (pos n) ∷ y ∷ Fiber ∷ []) (Fiber_at lo (Saved q x vs) de re pa) = λ rest acts ps. refl
    member_so Restore (Fiber ∷ []) (Fiber_at lo (Saved q x []) de re pa) = λ acts more. refl
    member_so Restore (Fiber ∷ []) (Fiber_at lo (Saved q x (v ∷ vs)) de re pa) = λ rest acts ps. refl
    member_so Receiver (Fiber ∷ []) (Fiber_at lo r [] re pa) = λ acts more. refl
    member_so Receiver (Fiber ∷ []) (Fiber_at lo r (Saved q x vs ∷ de) re pa) = λ rest acts ps. refl
    member_so _ _ _ = λ acts more. refl

    -- those that can pause have the fiber behind their arguments
    execute_stands : (args : List Value) → is_object (without_fiber args) ≡ false → native_next set W at_call native.Execute args ≡ Stands
    execute_stands (Ref n ∷ Fiber ∷ []) other = absurd (false≢true (sym other))
    execute_stands _ other = refl

    execute_so : (args : List Value) (o : Option (List Value)) → without_fiber args ≡ o → Is (λ rest acts ps. handed_does set W marks go raise native.Execute o z.fiber (here rest acts) ps) (native_next set W at_call native.Execute args)
    execute_so args (Some (Ref n ∷ [])) e =
        subst (λ (us : List Value). Is (λ rest acts ps. handed_does set W marks go raise native.Execute (Some (Ref n ∷ [])) z.fiber (here rest acts) ps) (native_next set W at_call native.Execute us)) (sym (with_fiber args (Ref n ∷ []) e)) (λ rest acts ps. refl)
    execute_so args o e = lost_so o native.Execute args (execute_stands args (ap is_object e)) (λ acts more. refl)

    get_stands : (args : List Value) → is_one (without_fiber args) ≡ false → native_next set W at_call native.Get args ≡ Stands
    get_stands (v ∷ Fiber ∷ []) other = absurd (false≢true (sym other))
    get_stands _ other = refl

    handed_get : (args : List Value) (o : Option (List Value)) → without_fiber args ≡ o → Is (λ rest acts ps. handed_does set W marks go raise native.Get o z.fiber (here rest acts) ps) (native_next set W at_call native.Get args)
    handed_get args (Some (v ∷ [])) e =
        subst (λ (us : List Value). Is (λ rest acts ps. handed_does set W marks go raise native.Get (Some (v ∷ [])) z.fiber (here rest acts) ps) (native_next set W at_call native.Get us)) (sym (with_fiber args (v ∷ []) e)) (get_so v)
    handed_get args o e = lost_so o native.Get args (get_stands args (ap is_one e)) (λ acts more. refl)

    lost_put : (o : Option (List Value)) → is_two o ≡ false → (f : Fib) (acts : List Act) (more : List ℕ) → handed_does set W marks go raise native.PutWait o f (here [] acts) (0 ∷ more) ≡ WStop Lost
    lost_put None e f acts more = refl
    lost_put (Some []) e f acts more = refl
    lost_put (Some (v ∷ [])) e f acts more = refl
    lost_put (Some (v ∷ u ∷ [])) e f acts more = absurd (false≢true (sym e))
    lost_put (Some (v ∷ u ∷ x ∷ vs)) e f acts more = refl

    put_stands : (args : List Value) → is_two (without_fiber args) ≡ false → native_next set W at_call native.PutWait args ≡ Stands
    put_stands (v ∷ u ∷ Fiber ∷ []) other = absurd (false≢true (sym other))
    put_stands _ other = refl

    handed_put : (args : List Value) (o : Option (List Value)) → without_fiber args ≡ o → Is (λ rest acts ps. handed_does set W marks go raise native.PutWait o z.fiber (here rest acts) ps) (native_next set W at_call native.PutWait args)
    handed_put args (Some (v ∷ u ∷ [])) e =
        subst (λ (us : List Value). Is (λ rest acts ps. handed_does set W marks go raise native.PutWait (Some (v ∷ u ∷ [])) z.fiber (here rest acts) ps) (native_next set W at_call native.PutWait us)) (sym (with_fiber args (v ∷ u ∷ []) e)) (putting_so v u z.fiber refl)
    handed_put args o e = lost_so o native.PutWait args (put_stands args (ap is_two e)) (λ acts more. lost_put o refl z.fiber acts more)

    yield_stands : (args : List Value) → is_none (without_fiber args) ≡ false → native_next set W at_call native.Yield args ≡ Stands
    yield_stands (Fiber ∷ []) other = absurd (false≢true (sym other))
    yield_stands _ other = refl

    handed_yield : (args : List Value) (o : Option (List Value)) → without_fiber args ≡ o → Is (λ rest acts ps. handed_does set W marks go raise native.Yield o z.fiber (here rest acts) ps) (native_next set W at_call native.Yield args)
    handed_yield args (Some []) e =
        subst (λ (us : List Value). Is (λ rest acts ps. handed_does set W marks go raise native.Yield (Some []) z.fiber (here rest acts) ps) (native_next set W at_call native.Yield us)) (sym (with_fiber args [] e)) (yield_so z.fiber refl)
    handed_yield args o e = lost_so o native.Yield args (yield_stands args (ap is_none e)) (λ acts more. refl)

    native_so : (n : Native) (args : List Value) → as_member (Some n) ≡ None → Is (λ rest acts ps. wnative set W marks go raise n args z.fiber (here rest acts) ps) (native_next set W at_call n args)
    native_so native.Execute args o = execute_so args (without_fiber args) refl
    native_so native.Get args o = handed_get args (without_fiber args) refl
    native_so native.Yield args o = handed_yield args (without_fiber args) refl
    native_so native.Start (Ref n ∷ []) o = start_so n (shape_of set.program z.heap n)
    native_so native.Put (Box box ∷ v ∷ []) o = message_so box v
    native_so native.PutWait args o = handed_put args (without_fiber args) refl
    native_so native.Bound (Box box ∷ Int i ∷ []) o = bound_so box i
    native_so native.Getnb (Box box ∷ []) o = probe_so box
    native_so native.Print (v ∷ []) o = print_so (printed v)
    native_so native.ArgCount [] o = λ rest acts ps. refl
    native_so native.Arg (Int i ∷ []) o = arg_so (arg_at set.limits.args i)
    native_so (native.OfFiber member) args o = absurd (cc)
    native_so _ _ o = λ acts more. refl

    asks_so : (n : Option Native) (args : List Value) → Is (λ rest acts ps. wasks set W marks go raise (as_member n) n args z.fiber (here rest acts) ps) (asks_next set W at_call args n)
    asks_so None args = λ acts more. refl
    asks_so (Some (native.OfFiber member)) args = member_so member args z.fiber
    asks_so (Some n) args = native_so n args refl

  -- ---- each effect

  module _ (x : Standing) (top : Activation) (below : List Activation) (counts : Bool) where
    abbrev now : List Deed → List Act → World
    now rest acts = world_of t x rest acts

    abbrev By : Effect → Type 0
    By e = Is (λ rest acts ps. weffect set W marks counts e top below x.fiber (now rest acts) ps) (next_by set W t counts x top below (move_by W e top below))

    goes : (c : Bool) (p : ℕ) (l s : List Value) (h : Objects) → Is (λ rest acts ps. WRun top.method p l s below x.fiber (tick set W marks c (with_heap (now rest acts) h)) ps) (Goes (ticked c (stood x (goes_on top p l s ∷ below) h)))
    goes true p l s h rest acts ps = refl
    goes false p l s h rest acts ps = refl

    makes : (c : Bool) (o : Object) (p : ℕ) (l s : List Value) (h : Objects) →
        Is (λ rest acts ps. weffect set W marks c (effect.Makes o p l s h) top below x.fiber (now rest acts) ps) (next_by set W t c x top below (move.Makes o (goes_on top p l s ∷ below) h))
    makes true o p l s h rest acts ps = refl
    makes false o p l s h rest acts ps = refl

    -- a new mailbox
    opened : (c : Bool) (p : ℕ) (l s : List Value) (h : Objects) →
        Is (λ rest acts ps. WRun top.method p l (Box (record { task = t; number = x.boxes }) ∷ s) below x.fiber (record (tick set W marks c (with_heap (now rest acts) h)) { boxes = x.boxes + 1 }) ps)
        (Goes (ticked c (record (stood x (goes_on top p l s ∷ below) h) { frames = goes_on top p l (Box (record { task = t; number = x.boxes }) ∷ s) ∷ below; boxes = x.boxes + 1 })))
    opened true p l s h rest acts ps = refl
    opened false p l s h rest acts ps = refl

    opens : (p : ℕ) (l s : List Value) (h : Objects) → By (effect.Opens p l s h)
    opens p l s h = by (nat_lt x.boxes box_limit)
      where
        by : (z : Bool) → Is (λ rest acts ps. cond z (WRun top.method p l (Box (record { task = t; number = x.boxes }) ∷ s) below x.fiber (record (tick set W marks counts (with_heap (now rest acts) h)) { boxes = x.boxes + 1 }) ps) (ending set (with_heap (now rest acts) h) WStop cause.Boxes))
            (cond z (Goes (ticked counts (record (stood x (goes_on top p l s ∷ below) h) { frames = goes_on top p l (Box (record { task = t; number = x.boxes }) ∷ s) ∷ below; boxes = x.boxes + 1 }))) (Ends cause.Boxes))
        by true = opened counts p l s h
        by false = ends_at (stood x below h) cause.Boxes

    entering : (c : Bool) (m : MethodId) (args : List Value) (fs : List Activation) (h : Objects) →
        Is (λ rest acts ps. enter set W marks m args fs x.fiber (tick set W marks c (with_heap (now rest acts) h)) ps) (Goes (ticked c (stood x (entered W m args ∷ fs) h)))
    entering true m args fs h rest acts ps = refl
    entering false m args fs h rest acts ps = refl

    calls : (m : MethodId) (args : List Value) (p : ℕ) (l s : List Value) (h : Objects) → By (effect.Calls m args p l s h)
    calls m args p l s h = by (nat_lt (length (goes_on top p l s ∷ below)) frame_limit)
      where
        by : (z : Bool) → Is (λ rest acts ps. cond z (enter set W marks m args (goes_on top p l s ∷ below) x.fiber (tick set W marks counts (with_heap (now rest acts) h)) ps) (ending set (with_heap (now rest acts) h) WStop cause.Depth))
            (next_by set W t counts x top below (cond z (move.Runs (Enters (receiver_of W m args)) (entered W m args ∷ goes_on top p l s ∷ below) h) (move.Ends cause.Depth)))
        by true = entering counts m args (goes_on top p l s ∷ below) h
        by false = ends_at (stood x below h) cause.Depth

    -- ---- a method returns

    back : (c : Bool) (v : Option Value) (caller : Activation) (fs : List Activation) (h : Objects) →
        Is (λ rest acts ps. WRun caller.method caller.place caller.locals (push v caller.stack) fs x.fiber (tick set W marks c (with_heap (now rest acts) h)) ps) (Goes (ticked c (stood x (push_result v (caller ∷ fs)) h)))
    back true None caller fs h rest acts ps = refl
    back true (Some v) caller fs h rest acts ps = refl
    back false None caller fs h rest acts ps = refl
    back false (Some v) caller fs h rest acts ps = refl

    -- the last one
    rests : (h : Objects) → Is (λ rest acts ps. wfinishes set W marks x.fiber (with_heap (now rest acts) h) ps None) (finish_next set W (record x { heap = h }) None)
    rests h = by (is_pausing x.fiber)
      where
        by : (z : Bool) → Is (λ rest acts ps. cond z (Resting x.fiber (with_heap (now rest acts) h) ps) (ending set (with_heap (now rest acts) h) WStop cause.Done)) (cond z (Rests (record x { heap = h; frames = [] })) (Ends cause.Done))
        by true = λ rest acts ps. refl
        by false = ends_at (stood x below h) cause.Done

    begins : (n : ℕ) (h : Objects) (o : Option MethodId) →
        Is (λ rest acts ps. wbegins set W marks n (with_heap (now rest acts) h) (record (counted (with_heap (now rest acts) h)) { kept = None }) x.fiber ps o) (begins_next (record x { heap = h }) (begun_with W o (Ref n ∷ Fiber ∷ [])))
    begins n h None = λ acts more. refl
    begins n h (Some m) = found (method_at W m)
      where
        by : (z : Bool) → Is (λ rest acts ps. cond z (ending set (with_heap (now rest acts) h) WStop cause.Done) (enter set W marks m (Ref n ∷ Fiber ∷ []) [] x.fiber (record (counted (with_heap (now rest acts) h)) { kept = None }) ps))
            (begins_next (record x { heap = h }) (Some (cond z [] (entered W m (Ref n ∷ Fiber ∷ []) ∷ []))))
        by true = ends_at (stood x below h) cause.Done
        by false = λ rest acts ps. refl

        found : (o : Option Method) → Is (λ rest acts ps. wbegins_in set W marks m n (with_heap (now rest acts) h) (record (counted (with_heap (now rest acts) h)) { kept = None }) x.fiber ps o) (begins_next (record x { heap = h }) (begun_in W m (Ref n ∷ Fiber ∷ []) o))
        found None = λ acts more. refl
        found (Some method) = by method.built_in

    finishes : (h : Objects) (o : Option ℕ) → Is (λ rest acts ps. wfinishes set W marks x.fiber (with_heap (now rest acts) h) ps o) (finish_next set W (record x { heap = h }) o)
    finishes h None = rests h
    finishes h (Some n) = begins n h (execute_of W set.main)

    returns : (v : Option Value) (h : Objects) (fs : List Activation) → Is (λ rest acts ps. wreturns set W marks counts v fs x.fiber (with_heap (now rest acts) h) ps) (next_by set W t counts x top below (move.returned v fs h))
    returns v h [] = finishes h x.kept
    returns v h (caller ∷ fs) = back counts v caller fs h

    raises : (c : Bool) (why : EndCause) → Is (λ rest acts ps. weffect set W marks c (effect.Raises why) top below x.fiber (now rest acts) ps) (next_by set W t c x top below (move.Raises why))
    raises true why = raises_so (ticked true x) why (λ k. thrown W k (Ref x.next) top below) (raised_class W (index_at W top) why)
    raises false why = raises_so x why (λ k. thrown W k (Ref x.next) top below) (raised_class W (index_at W top) why)

    throws : (c : Bool) (n : ℕ) (class : ClassId) (why : EndCause) → Is (λ rest acts ps. weffect set W marks c (effect.Throws n class why) top below x.fiber (now rest acts) ps) (next_by set W t c x top below (move.Throws n class why))
    throws true n class why = left_so (ticked true x) (ticked true x) why (thrown W class (Ref n) top below)
    throws false n class why = left_so x x why (thrown W class (Ref n) top below)

    by_effect : (e : Effect) → By e
    by_effect (effect.Goes p l s h) = goes counts p l s h
    by_effect (effect.Makes o p l s h) = makes counts o p l s h
    by_effect (effect.Opens p l s h) = opens p l s h
    by_effect (effect.Calls m args p l s h) = calls m args p l s h
    by_effect (effect.Asks m args p l s h) = asks_so (record x { heap = h }) top.method p l s below (native_of W m) args
    by_effect (effect.Returns v h) = returns v h below
    by_effect (effect.Raises why) = raises counts why
    by_effect (effect.Throws n c why) = throws counts n c why
    by_effect (effect.Ends why) = ends_at x why
    by_effect effect.Stuck = λ acts more. refl

  -- ---- the next instruction, or from a rest

  module _ (x : Standing) where
    resumes : (o : Option MethodId) → Is (λ rest acts ps. wresumes set W marks o x.fiber (world_of t x rest acts) ps) (resumes_next W x o)
    resumes None = λ acts more. refl
    resumes (Some m) = λ rest acts ps. refl

    found : (top : Activation) (below : List Activation) (o : Option (Instr × ℕ × Bool)) → wfetch set W marks top.method top.place ≡ o →
        Is (λ rest acts ps. wfound set W marks o top below x.fiber (world_of t x rest acts) ps) (found_next set W t x top below o)
    unfolding moves
    found top below None e = λ acts more. refl
    found top below (Some (i, nx, mk)) e =
        let counts : Bool = mk && not (is_rewinding x.fiber) in
        let same : does W (own_of W top.method) i nx top.locals top.stack x.heap ≡ effect_of W top x.heap = effect_at W (marks_of marks top.method) top x.heap (method_at W top.method) i nx mk e in
        spent counts x (λ rest acts ps. weffect set W marks counts (does W (own_of W top.method) i nx top.locals top.stack x.heap) top below x.fiber (world_of t x rest acts) ps) (next_by set W t counts x top below (moves W top below x.heap))
        (subst (λ (d : Effect). Is (λ rest acts ps. weffect set W marks counts (does W (own_of W top.method) i nx top.locals top.stack x.heap) top below x.fiber (world_of t x rest acts) ps) (next_by set W t counts x top below (move_by W d top below))) same
        (by_effect x top below counts (does W (own_of W top.method) i nx top.locals top.stack x.heap)))

    by_frames : (fs : List Activation) → Is (λ rest acts ps. wstep set W marks (state_in fs x.fiber (world_of t x rest acts) ps)) (next_in set W marks t x fs)
    by_frames [] = resumes (executes_on W x.heap (first_receiver x.fiber))
    by_frames (top ∷ below) = found top below (wfetch set W marks top.method top.place) refl

pub machine_follows : MachineFollows
unfolding next_of
machine_follows set W marks t x = by_frames set W marks t x x.frames
