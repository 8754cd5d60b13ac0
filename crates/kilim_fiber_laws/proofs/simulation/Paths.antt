-- Paths of the woven machine: joining them, and single instructions.
use Rattle.std.proofs.Common.{◌≡◌, ℕ, suc, ◌+◌, ◌<◌, ◌≤◌, Bool, true, false, not, ◌&&◌, ◌||◌, List, ◌∷◌, length, Option, Some, None, refl, sym, ap, subst, ◌∙◌, arith}
use Rattle.kilim_program.specs.declared.instr.Instr.{Instr}
use Rattle.kilim_program.specs.declared.names.MethodId.{MethodId}
use Rattle.kilim_program.specs.declared.value.Value.{Value}
use Rattle.kilim_program.specs.Program.{Program}
use Rattle.kilim_run_state.specs.Machine.{Activation, Objects}
use Rattle.kilim_run_machine.specs.Effect.{Effect, Goes, Calls, Asks}
use Rattle.kilim_run_machine.specs.Does.{does}
use Rattle.kilim_run_machine.specs.Natives.{Native, native_of}
use Rattle.kilim_run_machine.specs.Natives as native
use Rattle.kilim_run_state.specs.Trees.{Root}
use Rattle.kilim_run_model.specs.Kept.{given}
use Rattle.kilim_run_model.specs.State.{Setting}
use Rattle.kilim_weave_spec.specs.Woven.{Item}
use Rattle.kilim_fiber_spec.specs.Acts.{World}
use Rattle.kilim_fiber_spec.specs.Thread.{push, own_of}
use Rattle.kilim_run_machine.specs.Natives.{FiberMember}
use Rattle.kilim_fiber_spec.specs.Fibers.{Fib, as_member, is_pausing, is_rewinding, member_of, member_does, Woven_state, WRun, WStop, wfetch, wstep, wfound, weffect, spending_if, wasks, frame, wraised_behind}
use Rattle.kilim_fiber_spec.specs.Acts.{Lost}
use Rattle.kilim_fiber_spec.specs.Form.{HasAt}
use Rattle.kilim_fiber_spec.specs.Runs.{Comes, stop, idle, mark}
use Rattle.kilim_fiber_spec.specs.Rooms.{GivesWhole, HasRoom, MemberHasRoom}
use Rattle.kilim_type_sound.specs.Fits.{AreThere}
use Rattle.kilim_fiber_laws.specs.simulation.Throwing.{ThrowsNothing, behind_native}
use Rattle.kilim_fiber_laws.proofs.simulation.Still.{IsStill, PausesOn, StepIsKnown, member_still}
use Rattle.kilim_run_interp.specs.Step.{stack_limit}

-- ---- room on the stacks

pub none_given : (x : Root × ℕ) → None ≡ Some x → ⊥
none_given x e = cc

found_is : (x y : Instr × ℕ × Bool) → Some x ≡ Some y → x ≡ y
found_is x y e = cc

-- a member of the fiber gives nothing away
no_member : (k : FiberMember) → None ≡ Some k → ⊥
no_member k e = cc

pub keeps_all : (o : Option Native) (k : FiberMember) (args : List Value) (root : Root) (n : ℕ) → as_member o ≡ Some k → given o args ≡ Some (root, n) → ⊥
keeps_all None k args root n e g = no_member k e
keeps_all (Some (native.OfFiber member)) k args root n e g = none_given (root, n) g
keeps_all (Some native.Execute) k args root n e g = no_member k e
keeps_all (Some native.Start) k args root n e g = no_member k e
keeps_all (Some native.Put) k args root n e g = no_member k e
keeps_all (Some native.PutWait) k args root n e g = no_member k e
keeps_all (Some native.Bound) k args root n e g = no_member k e
keeps_all (Some native.Get) k args root n e g = no_member k e
keeps_all (Some native.Getnb) k args root n e g = no_member k e
keeps_all (Some native.Print) k args root n e g = no_member k e
keeps_all (Some native.Yield) k args root n e g = no_member k e
keeps_all (Some native.ArgCount) k args root n e g = no_member k e
keeps_all (Some native.Arg) k args root n e g = no_member k e

module _ (P W : Program) (m : MethodId) (b : List Activation) (now : Objects) where
  abbrev pub Roomy : Effect → Type 0
  Roomy e = HasRoom W e m b × MemberHasRoom W e m × GivesWhole P W now e

  pub goes_room : (q : ℕ) (l s : List Value) (heap : Objects) → length s ≤ stack_limit W m → Roomy (Goes q l s heap)
  goes_room q l s heap r = (record { unstuck = refl; fits = r; result = tt }, tt, tt)

  pub calls_room : (c : MethodId) (args : List Value) (q : ℕ) (l s : List Value) (heap : Objects) → length s ≤ stack_limit W m → Roomy (Calls c args q l s heap)
  calls_room c args q l s heap r = (record { unstuck = refl; fits = r; result = tt }, tt, tt)

  -- one that gives away what is whole
  pub giving_room : (c : MethodId) (args : List Value) (q : ℕ) (l s : List Value) (heap : Objects) → length s < stack_limit W m → GivesWhole P W now (Asks c args q l s heap) → Roomy (Asks c args q l s heap)
  giving_room c args q l s heap r gives = (record { unstuck = refl; fits = omega (arith, r); result = λ g. r }, λ k is. r, gives)

  pub asks_room : (c : MethodId) (args : List Value) (q : ℕ) (l s : List Value) (heap : Objects) → length s < stack_limit W m → ((root : Root) (n : ℕ) → given (native_of W c) args ≡ Some (root, n) → ⊥) → Roomy (Asks c args q l s heap)
  asks_room c args q l s heap r keeps = (record { unstuck = refl; fits = omega (arith, r); result = λ gives. r }, λ k is. r, λ root n e. absurd (keeps root n e))

module _ (set : Setting) (W : Program) (marks : List (List Bool)) (m : MethodId) (p : ℕ) (l s : List Value) (b : List Activation) (f : Fib) (w : World) (ps : List ℕ) (i : Instr) (nx : ℕ) (mk : Bool) (e : Effect) where
  -- where this instruction stands there, and does that
  pub next_room : wfetch set W marks m p ≡ Some (i, nx, mk) → does W (own_of W m) i nx l s w.heap ≡ e → Roomy set.program W m b w.heap e → PausesOn set W marks (WRun m p l s b f w ps)
      → ((is_pausing f || is_rewinding f) ≡ true → ThrowsNothing set W marks m b f w ps e) → StepIsKnown set W marks (WRun m p l s b f w ps)
  next_room h d r still calm = (
    λ j n c g.
        subst (λ (z : Instr × ℕ × Bool). Roomy set.program W m b w.heap (does W (own_of W m) z.0 z.1 l s w.heap)) (found_is (i, nx, mk) (j, n, c) (sym h ∙ g))
        (subst (λ (x : Effect). Roomy set.program W m b w.heap x) (sym d) r),
    still,
    λ on j n c g.
        subst (λ (z : Instr × ℕ × Bool). ThrowsNothing set W marks m b f w ps (does W (own_of W m) z.0 z.1 l s w.heap)) (found_is (i, nx, mk) (j, n, c) (sym h ∙ g))
        (subst (λ (x : Effect). ThrowsNothing set W marks m b f w ps x) (sym d) (calm on)),
  )

module _ (set : Setting) (W : Program) (marks : List (List Bool)) (most : ℕ) (Q : Woven_state → Type 0)
    (runs : (m : MethodId) (p : ℕ) (l s : List Value) (b : List Activation) (f : Fib) (w : World) (ps : List ℕ) → StepIsKnown set W marks (WRun m p l s b f w ps) → AreThere w.heap s → Q (WRun m p l s b f w ps)) where
  abbrev pub To : ℕ → Woven_state → ℕ → Woven_state → Type 0
  To c x d y = Comes set W marks most Q c x d y

  pub joins : {c d e : ℕ} {x y z : Woven_state} → To c x d y → To d y e z → To c x e z
  joins stop b = b
  joins (idle q a) b = idle q (joins a b)
  joins (mark q few m a) b = mark q few m (joins a b)

  -- the instruction there is done
  pub found : (m : MethodId) (p : ℕ) (l s : List Value) (b : List Activation) (f : Fib) (w : World) (ps : List ℕ) (i : Instr) (nx : ℕ) (mk counts : Bool) (e : Effect)
      → wfetch set W marks m p ≡ Some (i, nx, mk) → (mk && not (is_rewinding f)) ≡ counts → does W (own_of W m) i nx l s w.heap ≡ e
      → wstep set W marks (WRun m p l s b f w ps) ≡ spending_if set W marks counts w (weffect set W marks counts e (frame m p l s) b f w ps)
  found m p l s b f w ps i nx mk counts e h n d =
      ap (λ o. wfound set W marks o (frame m p l s) b f w ps) h
      ∙ ap (λ (c : Bool). spending_if set W marks c w (weffect set W marks c (does W (own_of W m) i nx l s w.heap) (frame m p l s) b f w ps)) n
      ∙ ap (λ (z : Effect). spending_if set W marks counts w (weffect set W marks counts z (frame m p l s) b f w ps)) d

  -- one uncounted instruction
  pub one : (c : ℕ) (m : MethodId) (p : ℕ) (l s : List Value) (b : List Activation) (f : Fib) (w : World) (ps : List ℕ) (i : Instr) (nx : ℕ) (mk : Bool) (e : Effect)
      → wfetch set W marks m p ≡ Some (i, nx, mk) → (mk && not (is_rewinding f)) ≡ false → does W (own_of W m) i nx l s w.heap ≡ e → Roomy set.program W m b w.heap e → AreThere w.heap s → (is_pausing f ≡ true → IsStill w ps (weffect set W marks false e (frame m p l s) b f w ps))
      → ((is_pausing f || is_rewinding f) ≡ true → ThrowsNothing set W marks m b f w ps e) → To c (WRun m p l s b f w ps) (suc c) (weffect set W marks false e (frame m p l s) b f w ps)
  one c m p l s b f w ps i nx mk e h n d r th still calm =
      idle (runs m p l s b f w ps (next_room set W marks m p l s b f w ps i nx mk e h d r (λ on. subst (λ (y : Woven_state). IsStill w ps y) (sym (found m p l s b f w ps i nx mk false e h n d)) (still on)) calm) th) (subst (λ (z : Woven_state). To (suc c) (wstep set W marks (WRun m p l s b f w ps)) (suc c) z) (found m p l s b f w ps i nx mk false e h n d) stop)

  -- a call of a member of the fiber
  pub calls : (c : ℕ) (m : MethodId) (p : ℕ) (l s s2 : List Value) (b : List Activation) (f : Fib) (w : World) (ps : List ℕ) (i : Instr) (nx : ℕ) (id : MethodId) (args : List Value) (k : FiberMember)
      → wfetch set W marks m p ≡ Some (i, nx, false) → does W (own_of W m) i nx l s w.heap ≡ Asks id args nx l s2 w.heap → member_of W id ≡ Some k → length s2 < stack_limit W m → AreThere w.heap s
      → To c (WRun m p l s b f w ps) (suc c) (member_does (WStop Lost) (λ (f2 : Fib) (v : Option Value). WRun m nx l (push v s2) b f2 w ps) k args f)
  calls c m p l s s2 b f w ps i nx id args k h d e r th =
      subst (λ (o : Option FiberMember). To c (WRun m p l s b f w ps) (suc c) (wasks set W marks (λ (f2 : Fib) (after : World) (rest : List ℕ) (v : Option Value). WRun m nx l (push v s2) b f2 after rest) (wraised_behind set W marks (frame m nx l s2 ∷ b)) o (native_of W id) args f w ps)) e
      (one c m p l s b f w ps i nx false (Asks id args nx l s2 w.heap) h refl d (asks_room set.program W m b w.heap id args nx l s2 w.heap r (λ root n g. keeps_all (native_of W id) k args root n e g)) th
      (λ on. subst (λ (o : Option FiberMember). IsStill w ps (wasks set W marks (λ (f2 : Fib) (after : World) (rest : List ℕ) (v : Option Value). WRun m nx l (push v s2) b f2 after rest) (wraised_behind set W marks (frame m nx l s2 ∷ b)) o (native_of W id) args f w ps)) (sym e) (member_still nx m l s2 b w ps k args f on))
      (λ on raise other. subst (λ (o : Option FiberMember). wasks set W marks (behind_native set W marks m nx l s2 b) raise o (native_of W id) args f w ps ≡ wasks set W marks (behind_native set W marks m nx l s2 b) other o (native_of W id) args f w ps) (sym e) refl))

  -- from x the machine comes to a place of m where `rest` stands, with at most as many instructions as there are places between
  pub record Reach (m : MethodId) (rest : List Item) (c q : ℕ) (x : Woven_state) (l s : List Value) (b : List Activation) (f : Fib) (w : World) (ps : List ℕ) : Type 0 where
    pub count : ℕ
    pub place : ℕ
    pub few : count + q ≤ c + place
    pub has : HasAt (wfetch set W marks m) place rest
    pub way : To c x count (WRun m place l s b f w ps)

  pub here : (m : MethodId) (rest : List Item) (c q : ℕ) (l s : List Value) (b : List Activation) (f : Fib) (w : World) (ps : List ℕ) → HasAt (wfetch set W marks m) q rest → Reach m rest c q (WRun m q l s b f w ps) l s b f w ps
  here m rest c q l s b f w ps has = record { count = c; place = q; few = omega arith; has = has; way = stop }

  -- one after the other
  pub then_reach : (m : MethodId) (mid rest : List Item) (c q : ℕ) (x : Woven_state) (l s l2 s2 : List Value) (b : List Activation) (f f2 : Fib) (w : World) (ps : List ℕ)
      → (r : Reach m mid c q x l s b f w ps) → Reach m rest r.count r.place (WRun m r.place l s b f w ps) l2 s2 b f2 w ps → Reach m rest c q x l2 s2 b f2 w ps
  then_reach m mid rest c q x l s l2 s2 b f f2 w ps r r2 =
      let a = r.few in let z = r2.few in
      record { count = r2.count; place = r2.place; few = omega (arith, a, z); has = r2.has; way = joins r.way r2.way }

  -- behind one instruction of m
  pub behind : (m : MethodId) (rest : List Item) (c q nx : ℕ) (x : Woven_state) (l s l2 s2 : List Value) (b : List Activation) (f f2 : Fib) (w : World) (ps : List ℕ)
      → q < nx → To c x (suc c) (WRun m nx l s b f w ps) → Reach m rest (suc c) nx (WRun m nx l s b f w ps) l2 s2 b f2 w ps → Reach m rest c q x l2 s2 b f2 w ps
  behind m rest c q nx x l s l2 s2 b f f2 w ps g way r =
      let z = r.few in
      record { count = r.count; place = r.place; few = omega (arith, g, z); has = r.has; way = joins way r.way }
