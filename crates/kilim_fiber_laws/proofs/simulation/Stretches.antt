-- Saves and restores: straight stretches of added code.
use Rattle.std.proofs.Common.{◌≡◌, ℕ, suc, ◌+◌, ◌<◌, ◌≤◌, Bool, false, not, ◌&&◌, List, [], ◌∷◌, length, Option, Some, None, refl, sym, ap, subst, ◌∙◌, arith}
use Rattle.std.specs.Prelude.{slice_get}
use Rattle.kilim_program.specs.declared.instr.Instr.{Instr}
use Rattle.kilim_program.specs.declared.instr.Instr.TheVariants as instr
use Rattle.kilim_program.specs.declared.names.MethodId.{MethodId}
use Rattle.kilim_program.specs.declared.value.Value.{Value}
use Rattle.kilim_program.specs.declared.value.Value.TheVariants as value
use Rattle.kilim_program.specs.declared.verified.VType.{VType}
use Rattle.kilim_program.specs.declared.verified.VType.TheVariants.{Top, Int, Long, Null, UninitThis, Uninit, Object}
use Rattle.kilim_program.specs.Program.{Program}
use Rattle.kilim_run_state.specs.Machine.{Activation}
use Rattle.kilim_run_machine.specs.Effect.{Goes, Asks, is_wide}
use Rattle.kilim_run_machine.specs.Does.{does}
use Rattle.kilim_run_model.specs.State.{Setting}
use Rattle.kilim_weave_spec.specs.Woven.{load_fiber, calls_static, Plan, Item, member, fiber_slot, save, save_stack, save_local, save_locals}
use Rattle.kilim_fiber_spec.specs.Acts.{World, Lost}
use Rattle.kilim_fiber_spec.specs.Thread.{push, own_of}
use Rattle.kilim_run_machine.specs.Natives.{FiberMember, Save}
use Rattle.kilim_fiber_spec.specs.Fibers.{Fib, Fiber_at, Rec, Saved, is_rewinding, member_of, member_does, Woven_state, WRun, WStop}
use Rattle.kilim_fiber_spec.specs.Form.{Facts, HasAt, Members, members_in_order}
use Rattle.kilim_fiber_spec.specs.Links.{kept_one, kept_stack, kept_slots, value_or, Fits, AllFit, SlotsFit, Forms, code, plan_of}
use Rattle.kilim_type_sound.specs.Fits.{AreThere}
use Rattle.kilim_fiber_laws.proofs.simulation.Still.{StepIsKnown}
use Rattle.kilim_run_interp.specs.Step.{stack_limit}
use Rattle.kilim_fiber_laws.proofs.simulation.Held.{all_there, fit_there}
use Rattle.kilim_fiber_laws.proofs.simulation.Added as add
use Rattle.kilim_fiber_laws.proofs.simulation.Paths as path

module _ (set : Setting) (W : Program) (marks : List (List Bool)) (most : ℕ) (Q : Woven_state → Type 0)
    (runs : (m : MethodId) (p : ℕ) (l s : List Value) (b : List Activation) (f : Fib) (w : World) (ps : List ℕ) → StepIsKnown set W marks (WRun m p l s b f w ps) → AreThere w.heap s → Q (WRun m p l s b f w ps))
    (members : Members set.program W) (form : Forms set W marks) (facts : (m : MethodId) → Facts set.program W (code set W marks) (form m)) (m : MethodId) where
  abbrev pub Reach : List Item → ℕ → ℕ → Woven_state → List Value → List Value → List Activation → Fib → World → List ℕ → Type 0
  Reach = path.Reach set W marks most Q runs m

  abbrev pub x : Plan
  x = plan_of set W marks form m

  abbrev pub has : ℕ → List Item → Type 0
  has q rest = HasAt (code set W marks m) q rest

  -- one old or added instruction that goes on
  pub goes : (rest : List Item) (c q nx : ℕ) (i : Instr) (mk : Bool) (l s l2 s2 l3 s3 : List Value) (b : List Activation) (f f3 : Fib) (w : World) (ps : List ℕ)
      → code set W marks m q ≡ Some (i, nx, mk) → (mk && not (is_rewinding f)) ≡ false → does W (own_of W m) i nx l s w.heap ≡ Goes nx l2 s2 w.heap → length s2 ≤ stack_limit W m → AreThere w.heap s
      → Reach rest (suc c) nx (WRun m nx l2 s2 b f w ps) l3 s3 b f3 w ps → Reach rest c q (WRun m q l s b f w ps) l3 s3 b f3 w ps
  goes rest c q nx i mk l s l2 s2 l3 s3 b f f3 w ps h n d low th r =
      path.behind set W marks most Q runs m rest c q nx (WRun m q l s b f w ps) l2 s2 l3 s3 b f f3 w ps ((facts m).grows q nx i mk h)
      (path.one set W marks most Q runs c m q l s b f w ps i nx mk (Goes nx l2 s2 w.heap) h n d (path.goes_room set.program W m b w.heap nx l2 s2 w.heap low) th (λ on. (on, refl, refl)) (λ on. tt)) r

  -- a call of a member of the fiber that goes on
  pub member_goes : (rest : List Item) (c q nx : ℕ) (i : Instr) (id : MethodId) (args : List Value) (k : FiberMember) (l s s2 l3 s3 : List Value) (b : List Activation) (f f2 f3 : Fib) (v : Option Value) (w : World) (ps : List ℕ)
      → code set W marks m q ≡ Some (i, nx, false) → does W (own_of W m) i nx l s w.heap ≡ Asks id args nx l s2 w.heap → member_of W id ≡ Some k
      → member_does (WStop Lost) (λ (g : Fib) (u : Option Value). WRun m nx l (push u s2) b g w ps) k args f ≡ WRun m nx l (push v s2) b f2 w ps → length s2 < stack_limit W m → AreThere w.heap s
      → Reach rest (suc c) nx (WRun m nx l (push v s2) b f2 w ps) l3 s3 b f3 w ps → Reach rest c q (WRun m q l s b f w ps) l3 s3 b f3 w ps
  member_goes rest c q nx i id args k l s s2 l3 s3 b f f2 f3 v w ps h d e t low th r =
      path.behind set W marks most Q runs m rest c q nx (WRun m q l s b f w ps) l (push v s2) l3 s3 b f2 f3 w ps ((facts m).grows q nx i false h)
      (subst (λ (z : Woven_state). path.To set W marks most Q runs c (WRun m q l s b f w ps) (suc c) z) t (path.calls set W marks most Q runs c m q l s s2 b f w ps i nx id args k h d e low th)) r

  -- the fiber on top of the stack
  pub fiber_goes : (rest : List Item) (c q nx : ℕ) (l s l3 s3 : List Value) (b : List Activation) (f f3 : Fib) (w : World) (ps : List ℕ)
      → slice_get l (fiber_slot x.method) ≡ Some value.Fiber → code set W marks m q ≡ Some (instr.Aload (fiber_slot x.method), nx, false) → length s < stack_limit W m → AreThere w.heap s
      → Reach rest (suc c) nx (WRun m nx l (value.Fiber ∷ s) b f w ps) l3 s3 b f3 w ps → Reach rest c q (WRun m q l s b f w ps) l3 s3 b f3 w ps
  fiber_goes rest c q nx l s l3 s3 b f f3 w ps e h low th r =
      goes rest c q nx (instr.Aload (fiber_slot x.method)) false l s l (value.Fiber ∷ s) l3 s3 b f f3 w ps h refl (add.aload W (own_of W m) nx l s w.heap (fiber_slot x.method) value.Fiber e add.fiber_is_reference) (omega (arith, low)) th r

  -- ---- saves

  saves_by : (n : ℕ) (rest : List Item) (c q : ℕ) (v : Value) (l s : List Value) (b : List Activation) (lo : List Rec) (p : ℕ) (y : Value) (vs : List Value) (de : List Rec) (re pa : Bool) (w : World) (ps : List ℕ)
      → slice_get members_in_order n ≡ Some Save → slice_get l (fiber_slot x.method) ≡ Some value.Fiber
      → has q (load_fiber x ∷ calls_static x n ∷ rest) → 2 + length s ≤ stack_limit W m → AreThere w.heap (v ∷ s)
      → Reach rest c q (WRun m q l (v ∷ s) b (Fiber_at lo (Saved p y vs) de re pa) w ps) l s b (Fiber_at lo (Saved p y (v ∷ vs)) de re pa) w ps
  saves_by n rest c q v l s b lo p y vs de re pa w ps k e h low th =
      fiber_goes rest c q h.0 l (v ∷ s) l s b (Fiber_at lo (Saved p y vs) de re pa) (Fiber_at lo (Saved p y (v ∷ vs)) de re pa) w ps e h.1 (omega (arith, low)) th
      (member_goes rest (suc c) h.0 h.2.0 (instr.Invokestatic (member set.program n)) (member set.program n) (v ∷ value.Fiber ∷ []) Save l (value.Fiber ∷ v ∷ s) s l s b
      (Fiber_at lo (Saved p y vs) de re pa) (Fiber_at lo (Saved p y (v ∷ vs)) de re pa) (Fiber_at lo (Saved p y (v ∷ vs)) de re pa) None w ps h.2.1
      (members.save n k (own_of W m) h.2.0 v l s w.heap) (members.named n Save k) refl (omega (arith, low)) (tt, th)
      (path.here set W marks most Q runs m rest (suc (suc c)) h.2.0 l s b (Fiber_at lo (Saved p y (v ∷ vs)) de re pa) w ps h.2.2))

  pub saves : (t : VType) (rest : List Item) (c q : ℕ) (v : Value) (l s : List Value) (b : List Activation) (lo : List Rec) (p : ℕ) (y : Value) (vs : List Value) (de : List Rec) (re pa : Bool) (w : World) (ps : List ℕ)
      → slice_get l (fiber_slot x.method) ≡ Some value.Fiber → Fits W w.heap t v → has q (save x t rest) → 2 + length s ≤ stack_limit W m → AreThere w.heap (v ∷ s)
      → Reach rest c q (WRun m q l (v ∷ s) b (Fiber_at lo (Saved p y vs) de re pa) w ps) l s b (Fiber_at lo (Saved p y (kept_one t v vs)) de re pa) w ps
  saves Int rest c q v l s b lo p y vs de re pa w ps e fit h low th = saves_by 3 rest c q v l s b lo p y vs de re pa w ps refl e h low th
  saves Long rest c q v l s b lo p y vs de re pa w ps e fit h low th = saves_by 4 rest c q v l s b lo p y vs de re pa w ps refl e h low th
  saves (Object ty) rest c q v l s b lo p y vs de re pa w ps e fit h low th = saves_by 5 rest c q v l s b lo p y vs de re pa w ps refl e h low th
  saves Null rest c q v l s b lo p y vs de re pa w ps e fit h low th =
      goes rest c q h.0 instr.Pop false l (v ∷ s) l s l s b (Fiber_at lo (Saved p y vs) de re pa) (Fiber_at lo (Saved p y vs) de re pa) w ps h.1 refl
      (add.pop W (own_of W m) h.0 l s w.heap v (ap is_wide fit)) (omega (arith, low)) th (path.here set W marks most Q runs m rest (suc c) h.0 l s b (Fiber_at lo (Saved p y vs) de re pa) w ps h.2)
  saves Top rest c q v l s b lo p y vs de re pa w ps e fit h low th = absurd fit
  saves UninitThis rest c q v l s b lo p y vs de re pa w ps e fit h low th = absurd fit
  saves (Uninit at) rest c q v l s b lo p y vs de re pa w ps e fit h low th = absurd fit

  pub saves_stack : (ts : List VType) (rest : List Item) (c q : ℕ) (l s : List Value) (b : List Activation) (lo : List Rec) (p : ℕ) (y : Value) (vs : List Value) (de : List Rec) (re pa : Bool) (w : World) (ps : List ℕ)
      → slice_get l (fiber_slot x.method) ≡ Some value.Fiber → AllFit W w.heap ts s → has q (save_stack x ts rest) → suc (length s) ≤ stack_limit W m
      → Reach rest c q (WRun m q l s b (Fiber_at lo (Saved p y vs) de re pa) w ps) l [] b (Fiber_at lo (Saved p y (kept_stack ts s vs)) de re pa) w ps
  saves_stack [] rest c q l [] b lo p y vs de re pa w ps e fit h low = path.here set W marks most Q runs m rest c q l [] b (Fiber_at lo (Saved p y vs) de re pa) w ps h
  saves_stack [] rest c q l (v ∷ s) b lo p y vs de re pa w ps e fit h low = absurd fit
  saves_stack (t ∷ ts) rest c q l [] b lo p y vs de re pa w ps e fit h low = absurd fit
  saves_stack (t ∷ ts) rest c q l (v ∷ s) b lo p y vs de re pa w ps e fit h low =
      let r = saves t (save_stack x ts rest) c q v l s b lo p y vs de re pa w ps e fit.0 h (omega (arith, low)) (all_there W w.heap (t ∷ ts) (v ∷ s) fit) in
      path.then_reach set W marks most Q runs m (save_stack x ts rest) rest c q _ l s l [] b _ _ w ps r
      (saves_stack ts rest r.count r.place l s b lo p y (kept_one t v vs) de re pa w ps e fit.1 r.has (omega (arith, low)))

  saves_local : (slot : ℕ) (t : VType) (rest : List Item) (c q : ℕ) (v : Value) (l : List Value) (b : List Activation) (lo : List Rec) (p : ℕ) (y : Value) (vs : List Value) (de : List Rec) (re pa : Bool) (w : World) (ps : List ℕ)
      → slice_get l (fiber_slot x.method) ≡ Some value.Fiber → slice_get l slot ≡ Some v → Fits W w.heap t v → has q (save_local x slot t rest) → 2 ≤ stack_limit W m
      → Reach rest c q (WRun m q l [] b (Fiber_at lo (Saved p y vs) de re pa) w ps) l [] b (Fiber_at lo (Saved p y (kept_one t v vs)) de re pa) w ps
  saves_local slot Int rest c q v l b lo p y vs de re pa w ps e g fit h low =
      goes rest c q h.0 (instr.Iload slot) false l [] l (v ∷ []) l [] b _ _ w ps h.1 refl
      (subst (λ (z : Value). does W (own_of W m) (instr.Iload slot) h.0 l [] w.heap ≡ Goes h.0 l (z ∷ []) w.heap) (sym fit.1) (add.iload W (own_of W m) h.0 l [] w.heap slot fit.0 (g ∙ ap Some fit.1))) (omega (arith, low)) tt
      (saves Int rest (suc c) h.0 v l [] b lo p y vs de re pa w ps e fit h.2 low (fit_there W w.heap Int v fit, tt))
  saves_local slot Long rest c q v l b lo p y vs de re pa w ps e g fit h low =
      goes rest c q h.0 (instr.Lload slot) false l [] l (v ∷ []) l [] b _ _ w ps h.1 refl
      (subst (λ (z : Value). does W (own_of W m) (instr.Lload slot) h.0 l [] w.heap ≡ Goes h.0 l (z ∷ []) w.heap) (sym fit.1) (add.lload W (own_of W m) h.0 l [] w.heap slot fit.0 (g ∙ ap Some fit.1))) (omega (arith, low)) tt
      (saves Long rest (suc c) h.0 v l [] b lo p y vs de re pa w ps e fit h.2 low (fit_there W w.heap Long v fit, tt))
  saves_local slot (Object ty) rest c q v l b lo p y vs de re pa w ps e g fit h low =
      goes rest c q h.0 (instr.Aload slot) false l [] l (v ∷ []) l [] b _ _ w ps h.1 refl
      (add.aload W (own_of W m) h.0 l [] w.heap slot v g fit.0) (omega (arith, low)) tt
      (saves (Object ty) rest (suc c) h.0 v l [] b lo p y vs de re pa w ps e fit h.2 low (fit_there W w.heap (Object ty) v fit, tt))
  saves_local slot Null rest c q v l b lo p y vs de re pa w ps e g fit h low = path.here set W marks most Q runs m rest c q l [] b (Fiber_at lo (Saved p y vs) de re pa) w ps h
  saves_local slot Top rest c q v l b lo p y vs de re pa w ps e g fit h low = absurd fit
  saves_local slot UninitThis rest c q v l b lo p y vs de re pa w ps e g fit h low = absurd fit
  saves_local slot (Uninit at) rest c q v l b lo p y vs de re pa w ps e g fit h low = absurd fit

  pub saves_locals : (es : List (ℕ × VType)) (rest : List Item) (c q : ℕ) (l : List Value) (b : List Activation) (lo : List Rec) (p : ℕ) (y : Value) (vs : List Value) (de : List Rec) (re pa : Bool) (w : World) (ps : List ℕ)
      → slice_get l (fiber_slot x.method) ≡ Some value.Fiber → SlotsFit W w.heap es l → has q (save_locals x es rest) → 2 ≤ stack_limit W m
      → Reach rest c q (WRun m q l [] b (Fiber_at lo (Saved p y vs) de re pa) w ps) l [] b (Fiber_at lo (Saved p y (kept_slots es l vs)) de re pa) w ps
  saves_locals [] rest c q l b lo p y vs de re pa w ps e fit h low = path.here set W marks most Q runs m rest c q l [] b (Fiber_at lo (Saved p y vs) de re pa) w ps h
  saves_locals (a ∷ es) rest c q l b lo p y vs de re pa w ps e fit h low =
      let r = saves_local a.0 a.1 (save_locals x es rest) c q (value_or (slice_get l a.0)) l b lo p y vs de re pa w ps e
      (fit.0.1 ∙ ap (λ (o : Option Value). Some (value_or o)) (sym fit.0.1)) (subst (λ (o : Option Value). Fits W w.heap a.1 (value_or o)) (sym fit.0.1) fit.0.2) h low in
      path.then_reach set W marks most Q runs m (save_locals x es rest) rest c q _ l [] l [] b _ _ w ps r
      (saves_locals es rest r.count r.place l b lo p y (kept_one a.1 (value_or (slice_get l a.0)) vs) de re pa w ps e fit.1 r.has low)
