-- Winding down: group after group, up to the rest.
use Rattle.std.proofs.Common.{◌≡◌, inl, inr, ℕ, suc, ◌+◌, ◌*◌, ◌≤◌, Bool, true, false, not, ◌&&◌, cond, pos, List, [], ◌∷◌, length, Option, Some, None, refl, sym, ap, subst, ◌∙◌, arith}
use Rattle.std.specs.Prelude.{slice_get, nat_le}
use Rattle.kilim_program.specs.declared.class.Method.{Method}
use Rattle.kilim_program.specs.declared.instr.Instr.{Instr}
use Rattle.kilim_program.specs.declared.instr.Instr.TheVariants as instr
use Rattle.kilim_program.specs.declared.names.MethodId.{MethodId}
use Rattle.kilim_program.specs.declared.ty.Ty.{Ty}
use Rattle.kilim_program.specs.declared.value.Value.{Value}
use Rattle.kilim_program.specs.declared.value.Value.TheVariants as value
use Rattle.kilim_program.specs.declared.verified.VType.{VType}
use Rattle.kilim_program.specs.declared.verified.VType.TheVariants.{Int, Long}
use Rattle.kilim_program.specs.Program.{Program}
use Rattle.kilim_run_state.specs.Machine.{Objects, Activation}
use Rattle.kilim_run_machine.specs.Natives.{Native}
use Rattle.kilim_run_machine.specs.Effect.{Goes, Returns, is_wide}
use Rattle.kilim_run_machine.specs.Does.{does}
use Rattle.kilim_run_model.specs.State.{Setting}
use Rattle.kilim_type_spec.specs.Step.{is_long, vtype}
use Rattle.kilim_weave_spec.specs.Woven.{local_size, Plan, Item, member, self_slot, load_fiber, calls_static, added, below, saved, save_locals, drop_result, leave, number_item, self_item, dummy_return, dummy_of, return_of, pop_of}
use Rattle.kilim_fiber_spec.specs.Acts.{World, Lost}
use Rattle.kilim_fiber_spec.specs.Thread.{push, own_of}
use Rattle.kilim_run_machine.specs.Natives.{Up, Place}
use Rattle.kilim_fiber_spec.specs.Fibers.{Fib, Fiber_at, Rec, Saved, is_rewinding, Woven_state, WRun, WStop, wreturns, wfinishes}
use Rattle.kilim_fiber_spec.specs.Form.{Facts, HasAt, Among_slots, Members, longest}
use Rattle.kilim_fiber_spec.specs.Links.{kept_stack, kept_slots, dummy_value, AllFit, SlotsFit, Drops, Link, Lk, method_of, self_of_link, left_overs, rev_onto, Target, Inner, Leaf, Forms, code, plan_of, w_frames, record_of, first_record, next_records, Holds, Good, Goods, Fit, AreReady, target_of, receiver_at, Chained, unwinding, at_rest}
use Rattle.kilim_type_sound.specs.Fits.{AreThere, IsThere}
use Rattle.kilim_fiber_laws.proofs.simulation.Still.{StepIsKnown, return_still}
use Rattle.kilim_run_interp.specs.Step.{CallerFits, stack_limit}
use Rattle.kilim_fiber_laws.proofs.simulation.Held.{MaybeThere, all_there, dummy_there, pushed_there}
use Rattle.kilim_fiber_laws.proofs.simulation.Tally as tally
use Rattle.kilim_fiber_laws.proofs.simulation.Added as add
use Rattle.kilim_fiber_laws.proofs.simulation.Paths as path
use Rattle.kilim_fiber_laws.proofs.simulation.Stretches as stretch

-- one value comes on top at most
pub push_low : (v : Option Value) (s : List Value) → length (push v s) ≤ suc (length s)
push_low None s = omega arith
push_low (Some v) s = omega arith

-- the number of links
abbrev pub count_of : List Link → ℕ
count_of [] = 0
count_of (k ∷ ks) = suc (count_of ks)

module _ (set : Setting) (W : Program) (marks : List (List Bool)) (most : ℕ) (Q : Woven_state → Type 0)
    (runs : (m : MethodId) (p : ℕ) (l s : List Value) (b : List Activation) (f : Fib) (w : World) (ps : List ℕ) → StepIsKnown set W marks (WRun m p l s b f w ps) → AreThere w.heap s → Q (WRun m p l s b f w ps))
    (members : Members set.program W) (form : Forms set W marks) (facts : (m : MethodId) → Facts set.program W (code set W marks) (form m)) where
  abbrev To : ℕ → Woven_state → ℕ → Woven_state → Type 0
  To c x d y = path.To set W marks most Q runs c x d y

  -- what a group returns while pausing, and the path there
  pub record Returned (m : MethodId) (c q : ℕ) (x : Woven_state) (b : List Activation) (f : Fib) (w : World) (ps : List ℕ) : Type 0 where
    pub result : Option Value
    pub drops : Drops (form m).method.result result
    pub held : MaybeThere w.heap result
    pub count : ℕ
    pub few : count + q ≤ c + longest
    pub way : To c x count (wreturns set W marks false result b f w ps)

  module _ (m : MethodId) where
    abbrev x : Plan
    x = plan_of set W marks form m

    abbrev has : ℕ → List Item → Type 0
    has q rest = HasAt (code set W marks m) q rest

    abbrev Reach : List Item → ℕ → ℕ → Woven_state → List Value → List Value → List Activation → Fib → World → List ℕ → Type 0
    Reach = path.Reach set W marks most Q runs m

    goes : (rest : List Item) (c q nx : ℕ) (i : Instr) (mk : Bool) (l s l2 s2 l3 s3 : List Value) (b : List Activation) (f f3 : Fib) (w : World) (ps : List ℕ)
        → code set W marks m q ≡ Some (i, nx, mk) → (mk && not (is_rewinding f)) ≡ false → does W (own_of W m) i nx l s w.heap ≡ Goes nx l2 s2 w.heap → length s2 ≤ stack_limit W m → AreThere w.heap s
        → Reach rest (suc c) nx (WRun m nx l2 s2 b f w ps) l3 s3 b f3 w ps → Reach rest c q (WRun m q l s b f w ps) l3 s3 b f3 w ps
    goes = stretch.goes set W marks most Q runs members form facts m

    here : (rest : List Item) (c q : ℕ) (l s : List Value) (b : List Activation) (f : Fib) (w : World) (ps : List ℕ) → has q rest → Reach rest c q (WRun m q l s b f w ps) l s b f w ps
    here = path.here set W marks most Q runs m

    -- the last instruction of a group
    returns_by : (t : VType) (rest : List Item) (c q : ℕ) (l : List Value) (b : List Activation) (f : Fib) (w : World) (ps : List ℕ)
        → has q (added (dummy_of t) 1 ∷ added (return_of t) 1 ∷ rest) → 1 ≤ stack_limit W m → CallerFits W b → w.kept ≡ None
        → To c (WRun m q l [] b f w ps) (suc (suc c)) (wreturns set W marks false (Some (dummy_value t)) b f w ps) × (suc (suc q) ≤ longest) × (is_wide (dummy_value t) ≡ is_long t)
    returns_by t rest c q l b f w ps h low caller kept =
        let g1 = (facts m).grows q h.0 (dummy_of t) false h.1 in
        let g2 = (facts m).grows h.0 h.2.0 (return_of t) false h.2.1 in
        let g3 = (facts m).within h.0 h.2.0 (return_of t) h.2.1 in (
          path.joins set W marks most Q runs
              (path.one set W marks most Q runs c m q l [] b f w ps (dummy_of t) h.0 false (Goes h.0 l (dummy_value t ∷ []) w.heap) h.1 refl (pushes t) (path.goes_room set.program W m b w.heap h.0 l (dummy_value t ∷ []) w.heap low) tt (λ on. (on, refl, refl)) (λ on. tt))
              (path.one set W marks most Q runs (suc c) m h.0 l (dummy_value t ∷ []) b f w ps (return_of t) h.2.0 false (Returns (Some (dummy_value t)) w.heap) h.2.1 refl (returns t) (record { unstuck = refl; fits = caller; result = tt }, tt, tt) (dummy_there w.heap t, tt) (return_still set W marks (Some (dummy_value t)) b f w ps kept) (λ on. tt)),
          tally.two_within q h.0 h.2.0 longest g1 g2 g3,
          wide t,
        )
      where
        pushes : (t : VType) → does W (own_of W m) (dummy_of t) h.0 l [] w.heap ≡ Goes h.0 l (dummy_value t ∷ []) w.heap
        pushes Int = add.iconst W (own_of W m) h.0 l [] w.heap (pos 0)
        pushes Long = add.lconst W (own_of W m) h.0 l [] w.heap (pos 0)
        pushes t = add.null_const W (own_of W m) h.0 l [] w.heap

        returns : (t : VType) → does W (own_of W m) (return_of t) h.2.0 l (dummy_value t ∷ []) w.heap ≡ Returns (Some (dummy_value t)) w.heap
        returns Int = add.ireturn_zero W (own_of W m) h.2.0 l [] w.heap
        returns Long = add.lreturn W (own_of W m) h.2.0 l [] w.heap (pos 0)
        returns t = add.areturn W (own_of W m) h.2.0 l [] w.heap

        wide : (t : VType) → is_wide (dummy_value t) ≡ is_long t
        wide Int = refl
        wide Long = refl
        wide t = refl

    returns_dummy : (result : Option Ty) (rest : List Item) (c q : ℕ) (l : List Value) (b : List Activation) (f : Fib) (w : World) (ps : List ℕ) → has q (dummy_return result rest) → 1 ≤ stack_limit W m → CallerFits W b → w.kept ≡ None
        → (v : Option Value) × Drops result v × (d : ℕ) × (d + q ≤ c + longest) × To c (WRun m q l [] b f w ps) d (wreturns set W marks false v b f w ps) × MaybeThere w.heap v
    returns_dummy None rest c q l b f w ps h low caller kept =
        let g1 = (facts m).grows q h.0 instr.Return false h.1 in
        let g3 = (facts m).within q h.0 instr.Return h.1 in
        (None, tt, suc c, tally.one_more c q h.0 longest g1 g3, path.one set W marks most Q runs c m q l [] b f w ps instr.Return h.0 false (Returns None w.heap) h.1 refl (add.return W (own_of W m) h.0 l [] w.heap) (record { unstuck = refl; fits = tt; result = tt }, tt, tt) tt (return_still set W marks None b f w ps kept) (λ on. tt), tt)
    returns_dummy (Some ty) rest c q l b f w ps h low caller kept =
        let r = returns_by (vtype ty) rest c q l b f w ps h low caller kept in
        let g = r.1 in
        (Some (dummy_value (vtype ty)), r.2, suc (suc c), tally.two_more c q longest g, r.0, dummy_there w.heap (vtype ty))

    numbers : (n : ℕ) (rest : List Item) (c q : ℕ) (l : List Value) (b : List Activation) (f : Fib) (w : World) (ps : List ℕ) → has q (number_item n ∷ rest) → 1 ≤ stack_limit W m
        → Reach rest c q (WRun m q l [] b f w ps) l (value.Int (pos n) ∷ []) b f w ps
    numbers n rest c q l b f w ps h low = by (nat_le n 5) (nat_le n 127) h
      where
        by : (a d : Bool) → has q ((cond a (added (instr.Iconst (pos n)) 1) (cond d (added (instr.Bipush (pos n)) 2) (added (instr.Sipush (pos n)) 3))) ∷ rest) → Reach rest c q (WRun m q l [] b f w ps) l (value.Int (pos n) ∷ []) b f w ps
        by true d h = goes rest c q h.0 (instr.Iconst (pos n)) false l [] l (value.Int (pos n) ∷ []) l (value.Int (pos n) ∷ []) b f f w ps h.1 refl (add.iconst W (own_of W m) h.0 l [] w.heap (pos n)) low tt (here rest (suc c) h.0 l (value.Int (pos n) ∷ []) b f w ps h.2)
        by false true h = goes rest c q h.0 (instr.Bipush (pos n)) false l [] l (value.Int (pos n) ∷ []) l (value.Int (pos n) ∷ []) b f f w ps h.1 refl (add.bipush W (own_of W m) h.0 l [] w.heap (pos n)) low tt (here rest (suc c) h.0 l (value.Int (pos n) ∷ []) b f w ps h.2)
        by false false h = goes rest c q h.0 (instr.Sipush (pos n)) false l [] l (value.Int (pos n) ∷ []) l (value.Int (pos n) ∷ []) b f f w ps h.1 refl (add.sipush W (own_of W m) h.0 l [] w.heap (pos n)) low tt (here rest (suc c) h.0 l (value.Int (pos n) ∷ []) b f w ps h.2)

    -- the frame's receiver, or null
    selves : (l0 l s : List Value) (y : Value) (rest : List Item) (c q : ℕ) (b : List Activation) (f : Fib) (w : World) (ps : List ℕ) → Holds set W marks form m l0 l y → has q (self_item x ∷ rest) → suc (length s) ≤ stack_limit W m → AreThere w.heap s
        → Reach rest c q (WRun m q l s b f w ps) l (y ∷ s) b f w ps
    selves l0 l s y rest c q b f w ps holds h low th = by (form m).method.is_static holds.self_there holds.self_none h
      where
        by : (a : Bool) → (a ≡ false → slice_get l (self_slot (form m).method) ≡ Some y) → (a ≡ true → y ≡ value.Null) → has q ((cond a (added instr.AconstNull 1) (added (instr.Aload (self_slot (form m).method)) (local_size (self_slot (form m).method)))) ∷ rest) → Reach rest c q (WRun m q l s b f w ps) l (y ∷ s) b f w ps
        by true a z h = goes rest c q h.0 instr.AconstNull false l s l (y ∷ s) l (y ∷ s) b f f w ps h.1 refl
            (subst (λ (u : Value). does W (own_of W m) instr.AconstNull h.0 l s w.heap ≡ Goes h.0 l (u ∷ s) w.heap) (sym (z refl)) (add.null_const W (own_of W m) h.0 l s w.heap)) low th (here rest (suc c) h.0 l (y ∷ s) b f w ps h.2)
        by false a z h = goes rest c q h.0 (instr.Aload (self_slot (form m).method)) false l s l (y ∷ s) l (y ∷ s) b f f w ps h.1 refl
            (add.aload W (own_of W m) h.0 l s w.heap (self_slot (form m).method) y (a refl) holds.is_reference) low th (here rest (suc c) h.0 l (y ∷ s) b f w ps h.2)

    -- the end of a group: saves, the place, the return
    leaves : (rest : List Item) (n : ℕ) (callee : Method) (from to : ℕ) (l0 l s : List Value) (y : Value) (c q : ℕ) (b : List Activation) (lo : List Rec) (p0 : ℕ) (y0 : Value) (de : List Rec) (re pa : Bool) (w : World) (ps : List ℕ)
        → Holds set W marks form m l0 l y → AllFit W w.heap (below x callee from) s → SlotsFit W w.heap (saved x from to) l → has q (leave x n callee from to rest) → length s + 4 ≤ stack_limit W m → CallerFits W b → IsThere w.heap y → w.kept ≡ None
        → Returned m c q (WRun m q l s b (Fiber_at lo (Saved p0 y0 []) de re pa) w ps) b (Fiber_at lo (Saved n y (kept_slots (saved x from to) l (kept_stack (below x callee from) s []))) de re pa) w ps
    leaves rest n callee from to l0 l s y c q b lo p0 y0 de re pa w ps holds fits slots h low caller self_there kept =
        returned (place_behind (self_behind (number_behind (locals_behind (stretch.saves_stack set W marks most Q runs members form facts m (below x callee from) (save_locals x (saved x from to) (number_item n ∷ self_item x ∷ load_fiber x ∷ calls_static x 6 ∷ dummy_return x.method.result rest)) c q l s b lo p0 y0 [] de re pa w ps holds.fiber fits h (tally.has_next (length s) (stack_limit W m) low))))))
      where
        locals_behind : Reach (save_locals x (saved x from to) (number_item n ∷ self_item x ∷ load_fiber x ∷ calls_static x 6 ∷ dummy_return x.method.result rest)) c q (WRun m q l s b (Fiber_at lo (Saved p0 y0 []) de re pa) w ps) l [] b (Fiber_at lo (Saved p0 y0 (kept_stack (below x callee from) s [])) de re pa) w ps → Reach (number_item n ∷ self_item x ∷ load_fiber x ∷ calls_static x 6 ∷ dummy_return x.method.result rest) c q (WRun m q l s b (Fiber_at lo (Saved p0 y0 []) de re pa) w ps) l [] b (Fiber_at lo (Saved p0 y0 (kept_slots (saved x from to) l (kept_stack (below x callee from) s []))) de re pa) w ps
        locals_behind r =
            path.then_reach set W marks most Q runs m (save_locals x (saved x from to) (number_item n ∷ self_item x ∷ load_fiber x ∷ calls_static x 6 ∷ dummy_return x.method.result rest)) (number_item n ∷ self_item x ∷ load_fiber x ∷ calls_static x 6 ∷ dummy_return x.method.result rest) c q (WRun m q l s b (Fiber_at lo (Saved p0 y0 []) de re pa) w ps) l [] l [] b (Fiber_at lo (Saved p0 y0 (kept_stack (below x callee from) s [])) de re pa) (Fiber_at lo (Saved p0 y0 (kept_slots (saved x from to) l (kept_stack (below x callee from) s []))) de re pa) w ps r
            (stretch.saves_locals set W marks most Q runs members form facts m (saved x from to) (number_item n ∷ self_item x ∷ load_fiber x ∷ calls_static x 6 ∷ dummy_return x.method.result rest) r.count r.place l b lo p0 y0 (kept_stack (below x callee from) s []) de re pa w ps holds.fiber slots r.has (tally.has_two (length s) (stack_limit W m) low))

        number_behind : Reach (number_item n ∷ self_item x ∷ load_fiber x ∷ calls_static x 6 ∷ dummy_return x.method.result rest) c q (WRun m q l s b (Fiber_at lo (Saved p0 y0 []) de re pa) w ps) l [] b (Fiber_at lo (Saved p0 y0 (kept_slots (saved x from to) l (kept_stack (below x callee from) s []))) de re pa) w ps → Reach (self_item x ∷ load_fiber x ∷ calls_static x 6 ∷ dummy_return x.method.result rest) c q (WRun m q l s b (Fiber_at lo (Saved p0 y0 []) de re pa) w ps) l (value.Int (pos n) ∷ []) b (Fiber_at lo (Saved p0 y0 (kept_slots (saved x from to) l (kept_stack (below x callee from) s []))) de re pa) w ps
        number_behind r = path.then_reach set W marks most Q runs m (number_item n ∷ self_item x ∷ load_fiber x ∷ calls_static x 6 ∷ dummy_return x.method.result rest) (self_item x ∷ load_fiber x ∷ calls_static x 6 ∷ dummy_return x.method.result rest) c q (WRun m q l s b (Fiber_at lo (Saved p0 y0 []) de re pa) w ps) l [] l (value.Int (pos n) ∷ []) b (Fiber_at lo (Saved p0 y0 (kept_slots (saved x from to) l (kept_stack (below x callee from) s []))) de re pa) (Fiber_at lo (Saved p0 y0 (kept_slots (saved x from to) l (kept_stack (below x callee from) s []))) de re pa) w ps r (numbers n (self_item x ∷ load_fiber x ∷ calls_static x 6 ∷ dummy_return x.method.result rest) r.count r.place l b (Fiber_at lo (Saved p0 y0 (kept_slots (saved x from to) l (kept_stack (below x callee from) s []))) de re pa) w ps r.has (tally.has_one (length s) (stack_limit W m) low))

        self_behind : Reach (self_item x ∷ load_fiber x ∷ calls_static x 6 ∷ dummy_return x.method.result rest) c q (WRun m q l s b (Fiber_at lo (Saved p0 y0 []) de re pa) w ps) l (value.Int (pos n) ∷ []) b (Fiber_at lo (Saved p0 y0 (kept_slots (saved x from to) l (kept_stack (below x callee from) s []))) de re pa) w ps → Reach (load_fiber x ∷ calls_static x 6 ∷ dummy_return x.method.result rest) c q (WRun m q l s b (Fiber_at lo (Saved p0 y0 []) de re pa) w ps) l (y ∷ value.Int (pos n) ∷ []) b (Fiber_at lo (Saved p0 y0 (kept_slots (saved x from to) l (kept_stack (below x callee from) s []))) de re pa) w ps
        self_behind r = path.then_reach set W marks most Q runs m (self_item x ∷ load_fiber x ∷ calls_static x 6 ∷ dummy_return x.method.result rest) (load_fiber x ∷ calls_static x 6 ∷ dummy_return x.method.result rest) c q (WRun m q l s b (Fiber_at lo (Saved p0 y0 []) de re pa) w ps) l (value.Int (pos n) ∷ []) l (y ∷ value.Int (pos n) ∷ []) b (Fiber_at lo (Saved p0 y0 (kept_slots (saved x from to) l (kept_stack (below x callee from) s []))) de re pa) (Fiber_at lo (Saved p0 y0 (kept_slots (saved x from to) l (kept_stack (below x callee from) s []))) de re pa) w ps r (selves l0 l (value.Int (pos n) ∷ []) y (load_fiber x ∷ calls_static x 6 ∷ dummy_return x.method.result rest) r.count r.place b (Fiber_at lo (Saved p0 y0 (kept_slots (saved x from to) l (kept_stack (below x callee from) s []))) de re pa) w ps holds r.has (tally.has_two (length s) (stack_limit W m) low) (tt, tt))

        place_behind : Reach (load_fiber x ∷ calls_static x 6 ∷ dummy_return x.method.result rest) c q (WRun m q l s b (Fiber_at lo (Saved p0 y0 []) de re pa) w ps) l (y ∷ value.Int (pos n) ∷ []) b (Fiber_at lo (Saved p0 y0 (kept_slots (saved x from to) l (kept_stack (below x callee from) s []))) de re pa) w ps → Reach (dummy_return x.method.result rest) c q (WRun m q l s b (Fiber_at lo (Saved p0 y0 []) de re pa) w ps) l [] b (Fiber_at lo (Saved n y (kept_slots (saved x from to) l (kept_stack (below x callee from) s []))) de re pa) w ps
        place_behind r =
            let g = r.has in
            path.then_reach set W marks most Q runs m (load_fiber x ∷ calls_static x 6 ∷ dummy_return x.method.result rest) (dummy_return x.method.result rest) c q (WRun m q l s b (Fiber_at lo (Saved p0 y0 []) de re pa) w ps) l (y ∷ value.Int (pos n) ∷ []) l [] b (Fiber_at lo (Saved p0 y0 (kept_slots (saved x from to) l (kept_stack (below x callee from) s []))) de re pa) (Fiber_at lo (Saved n y (kept_slots (saved x from to) l (kept_stack (below x callee from) s []))) de re pa) w ps r
            (stretch.fiber_goes set W marks most Q runs members form facts m (dummy_return x.method.result rest) r.count r.place g.0 l (y ∷ value.Int (pos n) ∷ []) l [] b (Fiber_at lo (Saved p0 y0 (kept_slots (saved x from to) l (kept_stack (below x callee from) s []))) de re pa) (Fiber_at lo (Saved n y (kept_slots (saved x from to) l (kept_stack (below x callee from) s []))) de re pa) w ps holds.fiber g.1 (tally.above_two (length s) (stack_limit W m) low) (self_there, (tt, tt))
            (stretch.member_goes set W marks most Q runs members form facts m (dummy_return x.method.result rest) (suc r.count) g.0 g.2.0 (instr.Invokestatic (member set.program 6)) (member set.program 6) (value.Int (pos n) ∷ y ∷ value.Fiber ∷ []) Place l (value.Fiber ∷ y ∷ value.Int (pos n) ∷ []) [] l [] b (Fiber_at lo (Saved p0 y0 (kept_slots (saved x from to) l (kept_stack (below x callee from) s []))) de re pa) (Fiber_at lo (Saved n y (kept_slots (saved x from to) l (kept_stack (below x callee from) s []))) de re pa) (Fiber_at lo (Saved n y (kept_slots (saved x from to) l (kept_stack (below x callee from) s []))) de re pa) None w ps g.2.1
            (members.place (own_of W m) g.2.0 (value.Int (pos n)) y l [] w.heap) (members.named 6 Place refl) refl (tally.above_none (length s) (stack_limit W m) low) (tt, (self_there, (tt, tt)))
            (here (dummy_return x.method.result rest) (suc (suc r.count)) g.2.0 l [] b (Fiber_at lo (Saved n y (kept_slots (saved x from to) l (kept_stack (below x callee from) s []))) de re pa) w ps g.2.2)))

        returned : Reach (dummy_return x.method.result rest) c q (WRun m q l s b (Fiber_at lo (Saved p0 y0 []) de re pa) w ps) l [] b (Fiber_at lo (Saved n y (kept_slots (saved x from to) l (kept_stack (below x callee from) s []))) de re pa) w ps → Returned m c q (WRun m q l s b (Fiber_at lo (Saved p0 y0 []) de re pa) w ps) b (Fiber_at lo (Saved n y (kept_slots (saved x from to) l (kept_stack (below x callee from) s []))) de re pa) w ps
        returned r =
            let z = returns_dummy x.method.result rest r.count r.place l b (Fiber_at lo (Saved n y (kept_slots (saved x from to) l (kept_stack (below x callee from) s []))) de re pa) w ps r.has (tally.has_one (length s) (stack_limit W m) low) caller kept in
            record {
              result = z.0;
              drops = z.1;
              held = z.5;
              count = z.2;
              few = tally.joined c q r.count r.place z.2 longest r.few z.3;
              way = path.joins set W marks most Q runs r.way z.4;
            }

    -- what the call gave is dropped
    drops : (result : Option Ty) (v : Option Value) (rest : List Item) (c q : ℕ) (l s : List Value) (b : List Activation) (f : Fib) (w : World) (ps : List ℕ) → Drops result v → has q (drop_result result rest) → length s ≤ stack_limit W m → AreThere w.heap (push v s)
        → Reach rest c q (WRun m q l (push v s) b f w ps) l s b f w ps
    drops None None rest c q l s b f w ps e h low th = here rest c q l s b f w ps h
    drops None (Some v) rest c q l s b f w ps e h low th = absurd e
    drops (Some ty) None rest c q l s b f w ps e h low th = absurd e
    drops (Some ty) (Some v) rest c q l s b f w ps e h low th = by (vtype ty) e h
      where
        by : (t : VType) → is_wide v ≡ is_long t → has q (added (pop_of t) 1 ∷ rest) → Reach rest c q (WRun m q l (v ∷ s) b f w ps) l s b f w ps
        by Long e h = goes rest c q h.0 instr.Pop2 false l (v ∷ s) l s l s b f f w ps h.1 refl (add.pop2 W (own_of W m) h.0 l s w.heap v e) low th (here rest (suc c) h.0 l s b f w ps h.2)
        by t e h = goes rest c q h.0 instr.Pop false l (v ∷ s) l s l s b f f w ps h.1 refl (add.pop W (own_of W m) h.0 l s w.heap v e) low th (here rest (suc c) h.0 l s b f w ps h.2)

  abbrev pub Drops_at : Link → Option Value → Type 0
  Drops_at (Lk m from to i callee s l wl self old was) v = Drops callee.result v

  slots_alike : (heap : Objects) (es : List (ℕ × VType)) (l wl : List Value) → ((k : ℕ) → Among_slots es k → slice_get l k ≡ slice_get wl k) → SlotsFit W heap es l → SlotsFit W heap es wl
  slots_alike heap [] l wl a fit = tt
  slots_alike heap (e ∷ es) l wl a fit = ((fit.0.0, sym (a e.0 (inl refl)) ∙ fit.0.1, fit.0.2), slots_alike heap es l wl (λ k z. a k (inr z)) fit.1)

  abbrev pub up_to : Link → ℕ
  up_to (Lk m from to i callee s l wl self old was) = (form m).up_at from

  -- a frame below has room for a result
  callers_fit : (links : List Link) → Goods set W marks form links → CallerFits W (w_frames set W marks form links)
  callers_fit [] gs = tt
  callers_fit (Lk m from to i callee s l wl self old was ∷ ks) gs =
      let low = gs.0.4 in
      let high = (facts m).higher ((facts m).group from to i callee gs.0.0 gs.0.1).has_calls in
      omega (arith, low, high)

  -- one frame is wound down
  pub unwinds_one : (target : Target) (y box : Value) (v : Option Value) (k : Link) (links ks : List Link) (c : ℕ) (w : World) (ps : List ℕ)
      → Good set W marks form k → Goods set W marks form links → Fit set W marks form w.heap target y k → Drops_at k v → MaybeThere w.heap v → w.kept ≡ None
      → Returned (method_of k) c (up_to k) (unwinding set W marks form box v k links ks w ps) (w_frames set W marks form links) (Fiber_at (left_overs links) (record_of set W marks form k) (first_record set W marks form box ks ∷ next_records set W marks form box ks) false true) w ps
  unwinds_one target y box v (Lk m from to i callee s l wl self old was) links ks c w ps good goods fit e held kept =
      let b = w_frames set W marks form links in
      let lo = left_overs links in
      let de = first_record set W marks form box ks ∷ next_records set W marks form box ks in
      let xx = plan_of set W marks form m in
      let g = (facts m).group from to i callee good.0 good.1 in
      let h = g.up in
      let low = good.4 in
      let high = (facts m).higher g.has_calls in
      let pushed = push_low v s in
      let sl = length s in
      let ps_length = length (push v s) in
      let old_limit = stack_limit set.program m in
      let limit = stack_limit W m in
      let below_limit = tally.pushed_below ps_length sl old_limit limit pushed low high in
      let th = pushed_there w.heap v s held (all_there W w.heap (below xx callee from) s fit.0) in
      let tail = leave xx ((form m).number from) callee from to g.up_rest in
      let f0 = Fiber_at (Saved old was [] ∷ lo) (first_record set W marks form box ks) (next_records set W marks form box ks) false true in
      let f1 = Fiber_at lo (Saved old was []) de false true in
      let q = (form m).up_at from in
      let d0 = drop_result callee.result tail in
      let r1 = stretch.fiber_goes set W marks most Q runs members form facts m d0 c q h.0 wl (push v s) wl (push v s) b f0 f1 w ps good.3.fiber h.1 below_limit th
      (stretch.member_goes set W marks most Q runs members form facts m d0 (suc c) h.0 h.2.0 (instr.Invokevirtual (member set.program 2)) (member set.program 2) (value.Fiber ∷ []) Up wl (value.Fiber ∷ push v s) (push v s) wl (push v s) b f0 f1 f1 (Some (value.Int (pos 1))) w ps h.2.1
      (members.alone 2 Up refl refl (own_of W m) h.2.0 wl (push v s) w.heap) (members.named 2 Up refl) refl below_limit (tt, th)
      (goes m d0 (suc (suc c)) h.2.0 h.2.2.0 (instr.Ifeq ((form m).at to)) false wl (value.Int (pos 1) ∷ push v s) wl (push v s) wl (push v s) b f1 f1 w ps h.2.2.1 refl
      (add.if_one W (own_of W m) h.2.2.0 wl (push v s) w.heap ((form m).at to)) (tally.pushed_within ps_length sl old_limit limit pushed low high) (tt, th) (here m d0 (suc (suc (suc c))) h.2.2.0 wl (push v s) b f1 w ps h.2.2.2))) in
      let r2 = drops m callee.result v tail r1.count r1.place wl s b f1 w ps e r1.has (tally.within sl old_limit limit low high) th in
      let z = leaves m g.up_rest ((form m).number from) callee from to l wl s self r2.count r2.place b lo old was de false true w ps good.3 fit.0 (slots_alike w.heap (saved xx from to) l wl good.2 fit.1) r2.has (tally.four_within sl old_limit limit low high) (callers_fit links goods) fit.7 kept in
      let far2 = tally.joined c q r1.count r1.place r2.count r2.place r1.few r2.few in
      record {
        result = z.result;
        drops = z.drops;
        held = z.held;
        count = z.count;
        few = tally.joined c q r2.count r2.place z.count longest far2 z.few;
        way = path.joins set W marks most Q runs r1.way (path.joins set W marks most Q runs r2.way z.way);
      }

  -- ---- all frames

  -- the results of the frames fit the calls below them
  abbrev pub ResultFits : Link → Link → Type 0
  ResultFits (Lk m from to i callee s l wl self old was) (Lk m2 from2 to2 i2 callee2 s2 l2 wl2 self2 old2 was2) = (form m).method.result ≡ callee2.result

  -- at rest: the frames that were k and those below it, from the bottom
  abbrev pub rests : Value → List Link → World → List ℕ → Woven_state
  rests box [] w ps = WStop Lost
  rests box (k ∷ ks) w ps = at_rest set W marks form box k ks w ps

  pub record Rested (leaf : Native) (box : Value) (k : Link) (links ks : List Link) (c : ℕ) (w : World) (ps : List ℕ) (x : Woven_state) : Type 0 where
    pub count : ℕ
    pub few : count ≤ c + (suc (count_of links)) * longest
    pub way : To c x count (rests box (rev_onto (k ∷ links) ks) w ps)

  next_frame : (box : Value) (v : Option Value) (k k2 : Link) (links ks : List Link) (w : World) (ps : List ℕ)
      → wreturns set W marks false v (w_frames set W marks form (k2 ∷ links)) (Fiber_at (left_overs (k2 ∷ links)) (record_of set W marks form k) (first_record set W marks form box ks ∷ next_records set W marks form box ks) false true) w ps ≡ unwinding set W marks form box v k2 links (k ∷ ks) w ps
  next_frame box v k (Lk m from to i callee s l wl self old was) links ks w ps = refl

  result_drops : (k k2 : Link) (target : Target) (y : Value) (heap : Objects) (v : Option Value) → Fit set W marks form heap (Inner (method_of k)) y k2 → Drops (form (method_of k)).method.result v → Drops_at k2 v
  result_drops k (Lk m from to i callee s l wl self old was) target y heap v fit d = subst (λ (t : Option Ty). Drops t v) fit.3.3 d

  pub unwinds : (leaf : Native) (box y : Value) (target : Target) (v : Option Value) (links : List Link) (k : Link) (ks : List Link) (c : ℕ) (w : World) (ps : List ℕ)
      → w.kept ≡ None → Good set W marks form k → Goods set W marks form links → AreReady set W marks form w.heap target y (k ∷ links) → Drops_at k v → MaybeThere w.heap v
      → Rested leaf box k links ks c w ps (unwinding set W marks form box v k links ks w ps)
  unwinds leaf box y target v [] k ks c w ps kept g gs r d held =
      let z = unwinds_one target y box v k [] ks c w ps g gs (fit_of target r) d held kept in
      let a = z.few in
      record {
        count = z.count;
        few = omega (arith, a);
        way = subst (λ (o : Woven_state). To c (unwinding set W marks form box v k [] ks w ps) z.count o)
            (ap (λ (o : Option ℕ). wfinishes set W marks (Fiber_at [] (record_of set W marks form k) (first_record set W marks form box ks ∷ next_records set W marks form box ks) false true) w ps o) kept) z.way;
      }
    where
      fit_of : (t : Target) → AreReady set W marks form w.heap t y (k ∷ []) → Fit set W marks form w.heap t y k
      fit_of (Inner c) r = r.0
      fit_of (Leaf n) r = r.0
  unwinds leaf box y target v (k2 ∷ links) k ks c w ps kept g gs r d held =
      let r2 = ready_tail target r in
      let z = unwinds_one target y box v k (k2 ∷ links) ks c w ps g gs r2.0 d held kept in
      let n = unwinds leaf box (self_of_link k) (Inner (method_of k)) z.result links k2 (k ∷ ks) z.count w ps kept gs.0 gs.1 r2.1 (result_drops k k2 target (self_of_link k) w.heap z.result r2.1.0 z.drops) z.held in
      let a = z.few in let a2 = n.few in
      record {
        count = n.count;
        few = omega (arith, a, a2);
        way = path.joins set W marks most Q runs (subst (λ (o : Woven_state). To c (unwinding set W marks form box v k (k2 ∷ links) ks w ps) z.count o) (next_frame box z.result k k2 links ks w ps) z.way) n.way;
      }
    where
      ready_tail : (t : Target) → AreReady set W marks form w.heap t y (k ∷ k2 ∷ links) → Fit set W marks form w.heap t y k × AreReady set W marks form w.heap (Inner (method_of k)) (self_of_link k) (k2 ∷ links)
      ready_tail (Inner c) r = (r.0, r.1)
      ready_tail (Leaf n) r = (r.0, r.1)

  -- the same chain from the bottom
  pub chained : (leaf : Native) (box : Value) (links : List Link) (k : Link) (ks : List Link) (heap : Objects)
      → Good set W marks form k → Goods set W marks form links → AreReady set W marks form heap (target_of set W marks form leaf ks) (receiver_at set W marks form box ks) (k ∷ links) → Chained set W marks form heap leaf box ks
      → Chained set W marks form heap leaf box (rev_onto (k ∷ links) ks)
  chained leaf box [] k ks heap g gs r c = ((g, fit_of ks r), c)
    where
      fit_of : (ks : List Link) → AreReady set W marks form heap (target_of set W marks form leaf ks) (receiver_at set W marks form box ks) (k ∷ []) → Fit set W marks form heap (target_of set W marks form leaf ks) (receiver_at set W marks form box ks) k
      fit_of [] r = r.0
      fit_of (k3 ∷ ks) r = r.0
  chained leaf box (k2 ∷ links) k ks heap g gs r c =
      let r2 = ready_tail ks r in
      chained leaf box links k2 (k ∷ ks) heap gs.0 gs.1 r2.1 ((g, r2.0), c)
    where
      ready_tail : (ks : List Link) → AreReady set W marks form heap (target_of set W marks form leaf ks) (receiver_at set W marks form box ks) (k ∷ k2 ∷ links) → Fit set W marks form heap (target_of set W marks form leaf ks) (receiver_at set W marks form box ks) k × AreReady set W marks form heap (Inner (method_of k)) (self_of_link k) (k2 ∷ links)
      ready_tail [] r = (r.0, r.1)
      ready_tail (k3 ∷ ks) r = (r.0, r.1)
