-- Restores: the opposite order.
use Rattle.std.proofs.Common.{◌≡◌, inl, inr, ℕ, suc, ◌<◌, ◌≤◌, Bool, false, List, [], ◌∷◌, length, Option, Some, refl, sym, subst, ◌∙◌, arith}
use Rattle.std.specs.Prelude.{slice_get, slice_set}
use Rattle.std.proofs.lemmas.Option.{slice_get_within}
use Rattle.kilim_program.specs.declared.instr.Instr.TheVariants as instr
use Rattle.kilim_program.specs.declared.names.MethodId.{MethodId}
use Rattle.kilim_program.specs.declared.value.Value.{Value}
use Rattle.kilim_program.specs.declared.value.Value.TheVariants as value
use Rattle.kilim_program.specs.declared.verified.VType.{VType}
use Rattle.kilim_program.specs.declared.verified.VType.TheVariants.{Top, Int, Long, Null, UninitThis, Uninit, Object}
use Rattle.kilim_program.specs.Program.{Program}
use Rattle.kilim_run_state.specs.Machine.{Activation}
use Rattle.kilim_run_machine.specs.Effect.{Goes}
use Rattle.kilim_run_machine.specs.Does.{does}
use Rattle.kilim_run_model.specs.State.{Setting}
use Rattle.kilim_weave_spec.specs.Woven.{local_size, Plan, Item, member, fiber_slot, load_fiber, calls_member, added, restore, restore_stack, restore_local, restore_locals, store_of}
use Rattle.kilim_fiber_spec.specs.Acts.{World}
use Rattle.kilim_fiber_spec.specs.Thread.{own_of}
use Rattle.kilim_run_machine.specs.Natives.{Restore}
use Rattle.kilim_fiber_spec.specs.Fibers.{Fib, Fiber_at, Rec, Saved, Woven_state, WRun}
use Rattle.kilim_fiber_spec.specs.Form.{Facts, HasAt, Among_slots, Members, members_in_order}
use Rattle.kilim_fiber_spec.specs.Links.{kept_one, kept_stack, kept_slots, value_or, Fits, AllFit, SlotsFit, Forms, code, plan_of}
use Rattle.kilim_type_sound.specs.Fits.{AreThere}
use Rattle.kilim_fiber_laws.proofs.simulation.Still.{StepIsKnown}
use Rattle.kilim_run_interp.specs.Step.{stack_limit}
use Rattle.kilim_fiber_laws.proofs.simulation.Held.{all_there, fit_there}
use Rattle.kilim_fiber_laws.proofs.simulation.Added as add
use Rattle.kilim_fiber_laws.proofs.simulation.Paths as path
use Rattle.kilim_fiber_laws.proofs.simulation.Stretches as stretch
use Rattle.kilim_fiber_laws.proofs.simulation.Slots.{put_back, back_length, back_other, get_within}

module _ (set : Setting) (W : Program) (marks : List (List Bool)) (most : ℕ) (Q : Woven_state → Type 0)
    (runs : (m : MethodId) (p : ℕ) (l s : List Value) (b : List Activation) (f : Fib) (w : World) (ps : List ℕ) → StepIsKnown set W marks (WRun m p l s b f w ps) → AreThere w.heap s → Q (WRun m p l s b f w ps))
    (members : Members set.program W) (form : Forms set W marks) (facts : (m : MethodId) → Facts set.program W (code set W marks) (form m)) (m : MethodId) where
  abbrev pub Reach : List Item → ℕ → ℕ → Woven_state → List Value → List Value → List Activation → Fib → World → List ℕ → Type 0
  Reach = path.Reach set W marks most Q runs m

  abbrev pub x : Plan
  x = plan_of set W marks form m

  abbrev pub has : ℕ → List Item → Type 0
  has q rest = HasAt (code set W marks m) q rest

  restores_by : (n : ℕ) (rest : List Item) (c q : ℕ) (v : Value) (l s : List Value) (b : List Activation) (lo : List Rec) (p : ℕ) (y : Value) (vs : List Value) (de : List Rec) (re pa : Bool) (w : World) (ps : List ℕ)
      → slice_get members_in_order n ≡ Some Restore → slice_get l (fiber_slot x.method) ≡ Some value.Fiber → has q (load_fiber x ∷ calls_member x n ∷ rest) → suc (length s) ≤ stack_limit W m → AreThere w.heap s
      → Reach rest c q (WRun m q l s b (Fiber_at lo (Saved p y (v ∷ vs)) de re pa) w ps) l (v ∷ s) b (Fiber_at lo (Saved p y vs) de re pa) w ps
  restores_by n rest c q v l s b lo p y vs de re pa w ps k e h low th =
      stretch.fiber_goes set W marks most Q runs members form facts m rest c q h.0 l s l (v ∷ s) b (Fiber_at lo (Saved p y (v ∷ vs)) de re pa) (Fiber_at lo (Saved p y vs) de re pa) w ps e h.1 (omega (arith, low)) th
      (stretch.member_goes set W marks most Q runs members form facts m rest (suc c) h.0 h.2.0 (instr.Invokevirtual (member set.program n)) (member set.program n) (value.Fiber ∷ []) Restore l (value.Fiber ∷ s) s l (v ∷ s) b
      (Fiber_at lo (Saved p y (v ∷ vs)) de re pa) (Fiber_at lo (Saved p y vs) de re pa) (Fiber_at lo (Saved p y vs) de re pa) (Some v) w ps h.2.1
      (members.alone n Restore k refl (own_of W m) h.2.0 l s w.heap) (members.named n Restore k) refl (omega (arith, low)) (tt, th)
      (path.here set W marks most Q runs m rest (suc (suc c)) h.2.0 l (v ∷ s) b (Fiber_at lo (Saved p y vs) de re pa) w ps h.2.2))

  pub restores : (t : VType) (rest : List Item) (c q : ℕ) (v : Value) (l s : List Value) (b : List Activation) (lo : List Rec) (p : ℕ) (y : Value) (vs : List Value) (de : List Rec) (re pa : Bool) (w : World) (ps : List ℕ)
      → slice_get l (fiber_slot x.method) ≡ Some value.Fiber → Fits W w.heap t v → has q (restore x t rest) → suc (length s) ≤ stack_limit W m → AreThere w.heap s
      → Reach rest c q (WRun m q l s b (Fiber_at lo (Saved p y (kept_one t v vs)) de re pa) w ps) l (v ∷ s) b (Fiber_at lo (Saved p y vs) de re pa) w ps
  restores Int rest c q v l s b lo p y vs de re pa w ps e fit h low th = restores_by 7 rest c q v l s b lo p y vs de re pa w ps refl e h low th
  restores Long rest c q v l s b lo p y vs de re pa w ps e fit h low th = restores_by 8 rest c q v l s b lo p y vs de re pa w ps refl e h low th
  restores (Object ty) rest c q v l s b lo p y vs de re pa w ps e fit h low th =
      let r = restores_by 9 (added (instr.Checkcast ty) 3 ∷ rest) c q v l s b lo p y vs de re pa w ps refl e h low th in
      let g = r.has in
      path.then_reach set W marks most Q runs m (added (instr.Checkcast ty) 3 ∷ rest) rest c q _ l (v ∷ s) l (v ∷ s) b _ _ w ps r
      (stretch.goes set W marks most Q runs members form facts m rest r.count r.place g.0 (instr.Checkcast ty) false l (v ∷ s) l (v ∷ s) l (v ∷ s) b _ _ w ps g.1 refl (fit.1 (own_of W m) g.0 l s) (omega (arith, low)) (fit_there W w.heap (Object ty) v fit, th)
      (path.here set W marks most Q runs m rest (suc r.count) g.0 l (v ∷ s) b (Fiber_at lo (Saved p y vs) de re pa) w ps g.2))
  restores Null rest c q v l s b lo p y vs de re pa w ps e fit h low th =
      stretch.goes set W marks most Q runs members form facts m rest c q h.0 instr.AconstNull false l s l (v ∷ s) l (v ∷ s) b _ _ w ps h.1 refl
      (subst (λ (z : Value). does W (own_of W m) instr.AconstNull h.0 l s w.heap ≡ Goes h.0 l (z ∷ s) w.heap) (sym fit) (add.null_const W (own_of W m) h.0 l s w.heap)) (omega (arith, low)) th
      (path.here set W marks most Q runs m rest (suc c) h.0 l (v ∷ s) b (Fiber_at lo (Saved p y vs) de re pa) w ps h.2)
  restores Top rest c q v l s b lo p y vs de re pa w ps e fit h low th = absurd fit
  restores UninitThis rest c q v l s b lo p y vs de re pa w ps e fit h low th = absurd fit
  restores (Uninit at) rest c q v l s b lo p y vs de re pa w ps e fit h low th = absurd fit

  pub restores_stack : (ts : List VType) (rest : List Item) (c q : ℕ) (l s : List Value) (b : List Activation) (lo : List Rec) (p : ℕ) (y : Value) (vs : List Value) (de : List Rec) (re pa : Bool) (w : World) (ps : List ℕ)
      → slice_get l (fiber_slot x.method) ≡ Some value.Fiber → AllFit W w.heap ts s → has q (restore_stack x ts rest) → length s ≤ stack_limit W m
      → Reach rest c q (WRun m q l [] b (Fiber_at lo (Saved p y (kept_stack ts s vs)) de re pa) w ps) l s b (Fiber_at lo (Saved p y vs) de re pa) w ps
  restores_stack [] rest c q l [] b lo p y vs de re pa w ps e fit h low = path.here set W marks most Q runs m rest c q l [] b (Fiber_at lo (Saved p y vs) de re pa) w ps h
  restores_stack [] rest c q l (v ∷ s) b lo p y vs de re pa w ps e fit h low = absurd fit
  restores_stack (t ∷ ts) rest c q l [] b lo p y vs de re pa w ps e fit h low = absurd fit
  restores_stack (t ∷ ts) rest c q l (v ∷ s) b lo p y vs de re pa w ps e fit h low =
      let r = restores_stack ts (restore x t rest) c q l s b lo p y (kept_one t v vs) de re pa w ps e fit.1 h (omega (arith, low)) in
      path.then_reach set W marks most Q runs m (restore x t rest) rest c q _ l s l (v ∷ s) b _ _ w ps r
      (restores t rest r.count r.place v l s b lo p y vs de re pa w ps e fit.0 r.has (omega (arith, low)) (all_there W w.heap ts s fit.1))

  stores : (t : VType) (rest : List Item) (c q slot : ℕ) (v old : Value) (l : List Value) (b : List Activation) (f : Fib) (w : World) (ps : List ℕ)
      → slice_get l slot ≡ Some old → Fits W w.heap t v → has q (added (store_of slot t) (local_size slot) ∷ rest)
      → Reach rest c q (WRun m q l (v ∷ []) b f w ps) (slice_set l slot v) [] b f w ps
  stores t rest c q slot v old l b f w ps g fit h =
      stretch.goes set W marks most Q runs members form facts m rest c q h.0 (store_of slot t) false l (v ∷ []) (slice_set l slot v) [] (slice_set l slot v) [] b f f w ps h.1 refl
      (stores_does t v fit) (omega arith) (fit_there W w.heap t v fit, tt)
      (path.here set W marks most Q runs m rest (suc c) h.0 (slice_set l slot v) [] b f w ps h.2)
    where
      stores_does : (t : VType) (v : Value) → Fits W w.heap t v → does W (own_of W m) (store_of slot t) h.0 l (v ∷ []) w.heap ≡ Goes h.0 (slice_set l slot v) [] w.heap
      stores_does Int v fit = subst (λ (z : Value). does W (own_of W m) (instr.Istore slot) h.0 l (z ∷ []) w.heap ≡ Goes h.0 (slice_set l slot z) [] w.heap) (sym fit.1) (add.istore W (own_of W m) h.0 l [] w.heap slot fit.0 old g)
      stores_does Long v fit = subst (λ (z : Value). does W (own_of W m) (instr.Lstore slot) h.0 l (z ∷ []) w.heap ≡ Goes h.0 (slice_set l slot z) [] w.heap) (sym fit.1) (add.lstore W (own_of W m) h.0 l [] w.heap slot fit.0 old g)
      stores_does (Object ty) v fit = add.astore W (own_of W m) h.0 l [] w.heap slot v old g fit.0
      stores_does Null v fit = subst (λ (z : Value). does W (own_of W m) (instr.Astore slot) h.0 l (z ∷ []) w.heap ≡ Goes h.0 (slice_set l slot z) [] w.heap) (sym fit) (add.astore W (own_of W m) h.0 l [] w.heap slot value.Null old g add.null_is_reference)
      stores_does Top v fit = absurd fit
      stores_does UninitThis v fit = absurd fit
      stores_does (Uninit at) v fit = absurd fit

  pub not_self : {n : ℕ} → n < n → ⊥
  not_self h = omega (arith, h)

  pub restores_locals : (es : List (ℕ × VType)) (rest : List Item) (c q : ℕ) (from l : List Value) (b : List Activation) (lo : List Rec) (p : ℕ) (y : Value) (vs : List Value) (de : List Rec) (re pa : Bool) (w : World) (ps : List ℕ)
      → slice_get l (fiber_slot x.method) ≡ Some value.Fiber → ((k : ℕ) → Among_slots es k → k < fiber_slot x.method) → SlotsFit W w.heap es from → has q (restore_locals x es rest) → 1 ≤ stack_limit W m
      → Reach rest c q (WRun m q l [] b (Fiber_at lo (Saved p y (kept_slots es from vs)) de re pa) w ps) (put_back es from l) [] b (Fiber_at lo (Saved p y vs) de re pa) w ps
  restores_locals [] rest c q from l b lo p y vs de re pa w ps e g fit h low = path.here set W marks most Q runs m rest c q l [] b (Fiber_at lo (Saved p y vs) de re pa) w ps h
  restores_locals (a ∷ es) rest c q from l b lo p y vs de re pa w ps e g fit h low =
      let v = value_or (slice_get from a.0) in
      let l2 = put_back es from l in
      let store = added (store_of a.0 a.1) (local_size a.0) ∷ rest in
      let fv = subst (λ (o : Option Value). Fits W w.heap a.1 (value_or o)) (sym fit.0.1) fit.0.2 in
      let e2 = back_other es from l (fiber_slot x.method) (λ z. not_self (g (fiber_slot x.method) (inr z))) ∙ e in
      let n1 = g a.0 (inl refl) in
      let n2 = slice_get_within l (fiber_slot x.method) value.Fiber e in
      let n3 = back_length es from l in
      let r = restores_locals es (restore_local x a.0 a.1 rest) c q from l b lo p y (kept_one a.1 v vs) de re pa w ps e (λ k z. g k (inr z)) fit.1 h low in
      let r2 = restores a.1 store r.count r.place v l2 [] b lo p y vs de re pa w ps e2 fv r.has (omega (arith, low)) tt in
      let there = get_within l2 a.0 (omega (arith, n1, n2, n3)) in
      path.then_reach set W marks most Q runs m (restore_local x a.0 a.1 rest) rest c q _ l2 [] (slice_set l2 a.0 v) [] b _ _ w ps r
      (path.then_reach set W marks most Q runs m store rest r.count r.place _ l2 (v ∷ []) (slice_set l2 a.0 v) [] b _ _ w ps r2
      (stores a.1 rest r2.count r2.place a.0 v there.0 l2 b (Fiber_at lo (Saved p y vs) de re pa) w ps there.1 fv r2.has))
