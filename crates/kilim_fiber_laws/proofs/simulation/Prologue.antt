-- The beginning of a woven method.
use Rattle.std.proofs.Common.{◌≡◌, ◌⊎◌, inl, inr, ℕ, zero, suc, ◌+◌, ◌<◌, ◌≤◌, Bool, true, false, leb, not, ◌&&◌, pos, List, [], ◌∷◌, ◌++◌, length, Some, refl, sym, ap, subst, ◌∙◌, arith}
use Rattle.std.specs.Prelude.{slice_get, slice_set, if◌then◌else◌, replicate, ◌-◌}
use Rattle.std.specs.Prelude.{◌-ℤ◌}
use Rattle.std.proofs.lemmas.Bool.Decides.{leb_tells}
use Rattle.std.proofs.lemmas.Option.{slice_get_within}
use Rattle.std.proofs.lemmas.List.{length-set, length-append, length-replicate}
use Rattle.kilim_program.specs.declared.instr.Instr.{Instr}
use Rattle.kilim_program.specs.declared.instr.Instr.TheVariants as instr
use Rattle.kilim_program.specs.declared.names.MethodId.{MethodId}
use Rattle.kilim_program.specs.declared.value.Value.{Value}
use Rattle.kilim_program.specs.declared.value.Value.TheVariants as value
use Rattle.kilim_program.specs.Program.{Program}
use Rattle.kilim_run_state.specs.Machine.{Activation}
use Rattle.kilim_program.specs.Names.{method_at}
use Rattle.kilim_run_machine.specs.Effect.{Goes}
use Rattle.kilim_run_machine.specs.Does.{does, table_target}
use Rattle.kilim_run_state.specs.Machine.{slots_of}
use Rattle.kilim_run_machine.specs.Moves.{slots_in, entered}
use Rattle.kilim_program.specs.Same.{argument_slots}
use Rattle.kilim_run_model.specs.State.{Setting}
use Rattle.kilim_weave_spec.specs.Woven.{local_size, Plan, Item, member, fiber_slot, load_fiber, calls_member, added, larger, keep_self, switch_item, resume_places}
use Rattle.kilim_fiber_spec.specs.Thread.{own_of}
use Rattle.kilim_fiber_spec.specs.Acts.{World}
use Rattle.kilim_run_machine.specs.Natives.{Pc}
use Rattle.kilim_fiber_spec.specs.Fibers.{Fib, Fiber_at, Rec, Saved, is_rewinding, place_while, Woven_state, WRun}
use Rattle.kilim_fiber_spec.specs.Form.{Facts, HasAt, Members, Starts}
use Rattle.kilim_fiber_spec.specs.Links.{IsReference, Forms, code, plan_of}
use Rattle.kilim_type_sound.specs.Fits.{AreThere, IsThere}
use Rattle.kilim_fiber_laws.proofs.simulation.Tally as tally
use Rattle.kilim_fiber_laws.proofs.simulation.Still.{StepIsKnown}
use Rattle.kilim_run_interp.specs.Step.{stack_limit}
use Rattle.kilim_fiber_laws.proofs.simulation.Added as add
use Rattle.kilim_fiber_laws.proofs.simulation.Paths as path
use Rattle.kilim_fiber_laws.proofs.simulation.Stretches as stretch
use Rattle.kilim_fiber_laws.proofs.simulation.Slots.{set_same, set_other, get_within}

pub larger_right : (a b : ℕ) → b ≤ larger a b
larger_right a b = by (leb_tells (suc a) b)
  where
    by : ((leb (suc a) b ≡ true) × (suc a ≤ b)) ⊎ ((leb (suc a) b ≡ false) × (b < suc a)) → b ≤ larger a b
    by (inl t) = subst (λ (z : Bool). b ≤ (if z then b else a)) (sym t.0) (omega arith)
    by (inr t) = let u = t.1 in subst (λ (z : Bool). b ≤ (if z then b else a)) (sym t.0) (omega (arith, u))

pub larger_left : (a b : ℕ) → a ≤ larger a b
larger_left a b = by (leb_tells (suc a) b)
  where
    by : ((leb (suc a) b ≡ true) × (suc a ≤ b)) ⊎ ((leb (suc a) b ≡ false) × (b < suc a)) → a ≤ larger a b
    by (inl t) = let u = t.1 in subst (λ (z : Bool). a ≤ (if z then b else a)) (sym t.0) (omega (arith, u))
    by (inr t) = subst (λ (z : Bool). a ≤ (if z then b else a)) (sym t.0) (omega arith)

-- ---- the locals with which a method begins

pub slots_append : (a b : List Value) → slots_of (a ++ b) ≡ slots_of a ++ slots_of b
slots_append [] b = refl
slots_append (value.Int n ∷ a) b = ap (λ (z : List Value). value.Int n ∷ z) (slots_append a b)
slots_append (value.Long n ∷ a) b = ap (λ (z : List Value). value.Long n ∷ value.Null ∷ z) (slots_append a b)
slots_append (value.Null ∷ a) b = ap (λ (z : List Value). value.Null ∷ z) (slots_append a b)
slots_append (value.Ref n ∷ a) b = ap (λ (z : List Value). value.Ref n ∷ z) (slots_append a b)
slots_append (value.Text t ∷ a) b = ap (λ (z : List Value). value.Text t ∷ z) (slots_append a b)
slots_append (value.Box t ∷ a) b = ap (λ (z : List Value). value.Box t ∷ z) (slots_append a b)
slots_append (value.Fiber ∷ a) b = ap (λ (z : List Value). value.Fiber ∷ z) (slots_append a b)

pub get_left : (a b : List Value) (k : ℕ) → k < length a → slice_get (a ++ b) k ≡ slice_get a k
get_left [] b k h = absurd (omega (arith, h))
get_left (v ∷ a) b zero h = refl
get_left (v ∷ a) b (suc k) h = get_left a b k (omega (arith, h))

pub get_middle : (a b : List Value) (v : Value) → slice_get (a ++ v ∷ b) (length a) ≡ Some v
get_middle [] b v = refl
get_middle (u ∷ a) b v = get_middle a b v

pub some_left : (a b : List Value) (k : ℕ) (v : Value) → slice_get a k ≡ Some v → slice_get (a ++ b) k ≡ Some v
some_left a b k v e = get_left a b k (slice_get_within a k v e) ∙ e

module _ (W : Program) (m : MethodId) (args : List Value) where
  pub entered_fiber : (n : ℕ) → length (slots_of args) ≡ n → slice_get (entered W m (args ++ value.Fiber ∷ [])).locals n ≡ Some value.Fiber
  entered_fiber n e =
      let rest = replicate (slots_in (method_at W m) - length (slots_of (args ++ value.Fiber ∷ []))) value.Null in
      some_left (slots_of (args ++ value.Fiber ∷ [])) rest n value.Fiber
      (subst (λ (z : List Value). slice_get z n ≡ Some value.Fiber) (sym (slots_append args (value.Fiber ∷ [])))
      (subst (λ (k : ℕ). slice_get (slots_of args ++ value.Fiber ∷ []) k ≡ Some value.Fiber) e (get_middle (slots_of args) [] value.Fiber)))

  pub entered_argument : (k : ℕ) → k < length (slots_of args) → slice_get (entered W m (args ++ value.Fiber ∷ [])).locals k ≡ slice_get (slots_of args) k
  entered_argument k h =
      let rest = replicate (slots_in (method_at W m) - length (slots_of (args ++ value.Fiber ∷ []))) value.Null in
      let e = slots_append args (value.Fiber ∷ []) in
      let n = length-append (slots_of args) (value.Fiber ∷ []) in
      get_left (slots_of (args ++ value.Fiber ∷ [])) rest k (subst (λ (z : List Value). k < length z) (sym e) (omega (arith, n, h)))
      ∙ subst (λ (z : List Value). slice_get z k ≡ slice_get (slots_of args) k) (sym e) (get_left (slots_of args) (value.Fiber ∷ []) k h)

pub entered_length : (W : Program) (m : MethodId) (args : List Value) → slots_in (method_at W m) ≤ length (entered W m args).locals
entered_length W m args =
    let a = length-append (slots_of args) (replicate (slots_in (method_at W m) - length (slots_of args)) value.Null) in
    let b = length-replicate (slots_in (method_at W m) - length (slots_of args)) value.Null in
    omega (arith, a, b)

pub entered_is : (W : Program) (m : MethodId) (args : List Value) → length (entered W m args).locals ≡ length (slots_of args) + (slots_in (method_at W m) - length (slots_of args))
entered_is W m args =
    let a = length-append (slots_of args) (replicate (slots_in (method_at W m) - length (slots_of args)) value.Null) in
    let b = length-replicate (slots_in (method_at W m) - length (slots_of args)) value.Null in
    omega (arith, a, b)

pub entered_plain : (p : Program) (m : MethodId) (args : List Value) (k : ℕ) → k < length (slots_of args) → slice_get (entered p m args).locals k ≡ slice_get (slots_of args) k
entered_plain p m args k h = get_left (slots_of args) (replicate (slots_in (method_at p m) - length (slots_of args)) value.Null) k h

pub more_slots : (args : List Value) → length (slots_of (args ++ value.Fiber ∷ [])) ≡ suc (length (slots_of args))
more_slots args =
    let e = slots_append args (value.Fiber ∷ []) in
    let n = length-append (slots_of args) (value.Fiber ∷ []) in
    subst (λ (z : List Value). length z ≡ suc (length (slots_of args))) (sym e) (omega (arith, n))

module _ (set : Setting) (W : Program) (marks : List (List Bool)) (most : ℕ) (Q : Woven_state → Type 0)
    (runs : (m : MethodId) (p : ℕ) (l s : List Value) (b : List Activation) (f : Fib) (w : World) (ps : List ℕ) → StepIsKnown set W marks (WRun m p l s b f w ps) → AreThere w.heap s → Q (WRun m p l s b f w ps))
    (members : Members set.program W) (form : Forms set W marks) (facts : (m : MethodId) → Facts set.program W (code set W marks) (form m)) (m : MethodId) where
  abbrev To : ℕ → Woven_state → ℕ → Woven_state → Type 0
  To c x d y = path.To set W marks most Q runs c x d y

  abbrev x : Plan
  x = plan_of set W marks form m

  abbrev has : ℕ → List Item → Type 0
  has q rest = HasAt (code set W marks m) q rest

  abbrev Reach : List Item → ℕ → ℕ → Woven_state → List Value → List Value → List Activation → Fib → World → List ℕ → Type 0
  Reach = path.Reach set W marks most Q runs m

  goes : (rest : List Item) (c q nx : ℕ) (i : Instr) (mk : Bool) (l s l2 s2 l3 s3 : List Value) (b : List Activation) (f f3 : Fib) (w : World) (ps : List ℕ)
      → code set W marks m q ≡ Some (i, nx, mk) → (mk && not (is_rewinding f)) ≡ false → does W (own_of W m) i nx l s w.heap ≡ Goes nx l2 s2 w.heap → length s2 ≤ stack_limit W m → AreThere w.heap s
      → Reach rest (suc c) nx (WRun m nx l2 s2 b f w ps) l3 s3 b f3 w ps → Reach rest c q (WRun m q l s b f w ps) l3 s3 b f3 w ps
  goes = stretch.goes set W marks most Q runs members form facts m

  here : (rest : List Item) (c q : ℕ) (l s : List Value) (b : List Activation) (f : Fib) (w : World) (ps : List ℕ) → has q rest → Reach rest c q (WRun m q l s b f w ps) l s b f w ps
  here = path.here set W marks most Q runs m

  abbrev pub L : ℕ
  L = fiber_slot (form m).method

  abbrev pub F : ℕ
  F = argument_slots (form m).method

  -- the two locals are set
  pub record Sets (y : Value) (l l2 : List Value) : Type 0 where
    pub fiber : slice_get l2 L ≡ Some value.Fiber
    pub self : (form m).method.is_static ≡ false → slice_get l2 (suc L) ≡ Some y
    pub others : (k : ℕ) → k < L → slice_get l2 k ≡ slice_get l k
    pub same_length : length l2 ≡ length l

  keeps_self : (y : Value) (l0 l : List Value) (rest : List Item) (c q : ℕ) (b : List Activation) (f : Fib) (w : World) (ps : List ℕ)
      → slice_get l L ≡ Some value.Fiber → ((k : ℕ) → k < L → slice_get l k ≡ slice_get l0 k) → length l ≡ length l0
      → ((form m).method.is_static ≡ false → slice_get l 0 ≡ Some y) → IsReference y → L + (if (form m).method.is_static then 1 else 2) ≤ length l → has q (keep_self x rest) → 1 ≤ stack_limit W m → IsThere w.heap y
      → (l2 : List Value) × Sets y l0 l2 × Reach rest c q (WRun m q l [] b f w ps) l2 [] b f w ps
  keeps_self y l0 l rest c q b f w ps e o n first is room h low self_there = by (form m).method.is_static (λ z. z) first room h
    where
      by : (a : Bool) → ((form m).method.is_static ≡ false → a ≡ false) → (a ≡ false → slice_get l 0 ≡ Some y) → L + (if a then 1 else 2) ≤ length l → has q (if a then rest else added (instr.Aload 0) 1 ∷ added (instr.Astore (suc L)) (local_size (suc L)) ∷ rest)
          → (l2 : List Value) × Sets y l0 l2 × Reach rest c q (WRun m q l [] b f w ps) l2 [] b f w ps
      by true z first room h = (l, record { fiber = e; self = λ u. absurd (cc (z u)); others = o; same_length = n }, here rest c q l [] b f w ps h)
      by false z first room h =
          let old = get_within l (suc L) (omega (arith, room)) in
          let l2 = slice_set l (suc L) y in (
            l2,
            record {
              fiber = set_other l (suc L) L y (λ u. omega (arith, u)) ∙ e;
              self = λ u. set_same l (suc L) y (omega (arith, room));
              others = λ k u. set_other l (suc L) k y (λ v. omega (arith, u, v)) ∙ o k u;
              same_length = length-set l (suc L) y ∙ n;
            },
            goes rest c q h.0 (instr.Aload 0) false l [] l (y ∷ []) l2 [] b f f w ps h.1 refl (add.aload W (own_of W m) h.0 l [] w.heap 0 y (first refl) is) (omega (arith, low)) tt
                (goes rest (suc c) h.0 h.2.0 (instr.Astore (suc L)) false l (y ∷ []) l2 [] l2 [] b f f w ps h.2.1 refl (add.astore W (own_of W m) h.2.0 l [] w.heap (suc L) y old.0 old.1 is) (omega (arith, low)) (self_there, tt)
                (here rest (suc (suc c)) h.2.0 l2 [] b f w ps h.2.2)),
          )

  -- where the switch goes, for a place in the record
  abbrev pub goes_by : ℕ → ℕ
  goes_by n = table_target (resume_places x 1 (form m).method.code) (pos n -ℤ pos 1) ((form m).at 0)

  pub by_zero : goes_by 0 ≡ (form m).at 0
  by_zero = refl

  pub record Started (y : Value) (l0 : List Value) (c : ℕ) (b : List Activation) (n : ℕ) (f : Fib) (w : World) (ps : List ℕ) : Type 0 where
    pub locals : List Value
    pub sets : Sets y l0 locals
    pub count : ℕ
    pub switch : ℕ
    pub last : ℕ
    pub is_switch : code set W marks m switch ≡ Some (instr.Tableswitch ((form m).at 0) (pos 1) (resume_places x 1 (form m).method.code), last, false)
    pub few : count ≤ c + last
    pub way : To c (WRun m 0 l0 [] b f w ps) count (WRun m (goes_by n) locals [] b f w ps)

  pub starts : (y : Value) (l0 : List Value) (c : ℕ) (b : List Activation) (lo : List Rec) (p0 : ℕ) (y0 : Value) (vs : List Value) (de : List Rec) (re pa : Bool) (w : World) (ps : List ℕ)
      → (form m).has_calls ≡ true → slice_get l0 F ≡ Some value.Fiber → ((form m).method.is_static ≡ false → slice_get l0 0 ≡ Some y) → IsReference y → slots_in (method_at W m) ≤ length l0 → IsThere w.heap y
      → Started y l0 c b (place_while re p0) (Fiber_at lo (Saved p0 y0 vs) de re pa) w ps
  starts y l0 c b lo p0 y0 vs de re pa w ps calls e first is room self_there =
      let h0 = subst (λ (a : Bool). Starts set.program W (code set W marks) (form m) a) calls (facts m).starts in
      let h = h0.1 in
      let old_limit = stack_limit set.program m in
      let limit = stack_limit W m in
      let f = Fiber_at lo (Saved p0 y0 vs) de re pa in
      let old = get_within l0 L (by_room (form m).method.is_static ((facts m).room calls)) in
      let l1 = slice_set l0 L value.Fiber in
      let rest = load_fiber x ∷ calls_member x 0 ∷ switch_item x ∷ h0.0 in
      keeps h0
      (goes (keep_self x rest) c 0 h.0 (instr.Aload F) false l0 [] l0 (value.Fiber ∷ []) l1 [] b f f w ps h.1 refl (add.aload W (own_of W m) h.0 l0 [] w.heap F value.Fiber e add.fiber_is_reference) (tally.has_one old_limit limit ((facts m).higher calls)) tt
      (goes (keep_self x rest) (suc c) h.0 h.2.0 (instr.Astore L) false l0 (value.Fiber ∷ []) l1 [] l1 [] b f f w ps h.2.1 refl (add.astore W (own_of W m) h.2.0 l0 [] w.heap L value.Fiber old.0 old.1 add.fiber_is_reference) (tally.none_within limit) (tt, tt)
      (here (keep_self x rest) (suc (suc c)) h.2.0 l1 [] b f w ps h.2.2)))
    where
      by_room : (a : Bool) → L + (if a then 1 else 2) ≤ slots_in (method_at W m) → L < length l0
      by_room true r = omega (arith, r, room)
      by_room false r = omega (arith, r, room)

      by_both : (a : Bool) → L + (if a then 1 else 2) ≤ slots_in (method_at W m) → length (slice_set l0 L value.Fiber) ≡ length l0 → L + (if a then 1 else 2) ≤ length (slice_set l0 L value.Fiber)
      by_both true r n = omega (arith, r, n, room)
      by_both false r n = omega (arith, r, n, room)

      not_zero : larger (form m).method.max_locals (suc F) ≡ 0 → ⊥
      not_zero e = let z = larger_right (form m).method.max_locals (suc F) in omega (arith, z, e)

      -- the way to the switch, by its parts
      ends : (h0 : Starts set.program W (code set W marks) (form m) true) (r1 : Reach (keep_self x (load_fiber x ∷ calls_member x 0 ∷ switch_item x ∷ h0.0)) c 0 (WRun m 0 l0 [] b (Fiber_at lo (Saved p0 y0 vs) de re pa) w ps) (slice_set l0 L value.Fiber) [] b (Fiber_at lo (Saved p0 y0 vs) de re pa) w ps) (l2 : List Value) → Sets y l0 l2
          → (t2 : Reach (load_fiber x ∷ calls_member x 0 ∷ switch_item x ∷ h0.0) r1.count r1.place (WRun m r1.place (slice_set l0 L value.Fiber) [] b (Fiber_at lo (Saved p0 y0 vs) de re pa) w ps) l2 [] b (Fiber_at lo (Saved p0 y0 vs) de re pa) w ps) → Reach (switch_item x ∷ h0.0) t2.count t2.place (WRun m t2.place l2 [] b (Fiber_at lo (Saved p0 y0 vs) de re pa) w ps) l2 (value.Int (pos (place_while re p0)) ∷ []) b (Fiber_at lo (Saved p0 y0 vs) de re pa) w ps → Started y l0 c b (place_while re p0) (Fiber_at lo (Saved p0 y0 vs) de re pa) w ps
      ends h0 r1 l2 sets t2 t3 =
          let u = t3.has in
          let sw = instr.Tableswitch ((form m).at 0) (pos 1) (resume_places x 1 (form m).method.code) in
          let far2 = tally.joined c 0 r1.count r1.place t2.count t2.place r1.few t2.few in
          let far3 = tally.joined c 0 t2.count t2.place t3.count t3.place far2 t3.few in
          record {
            locals = l2;
            sets = sets;
            count = suc t3.count;
            switch = t3.place;
            last = u.0;
            is_switch = u.1;
            few = tally.last_more c t3.count t3.place u.0 far3 ((facts m).grows t3.place u.0 sw false u.1);
            way = path.joins set W marks most Q runs r1.way (path.joins set W marks most Q runs t2.way (path.joins set W marks most Q runs t3.way
                (path.one set W marks most Q runs t3.count m t3.place l2 (value.Int (pos (place_while re p0)) ∷ []) b (Fiber_at lo (Saved p0 y0 vs) de re pa) w ps sw u.0 false (Goes (goes_by (place_while re p0)) l2 [] w.heap) u.1 refl
                (add.table W (own_of W m) u.0 l2 [] w.heap ((form m).at 0) (resume_places x 1 (form m).method.code) (place_while re p0))
                (path.goes_room set.program W m b w.heap (goes_by (place_while re p0)) l2 [] w.heap (tally.none_within (stack_limit W m))) (tt, tt) (λ on. (on, refl, refl)) (λ on. tt))));
          }

      asks : (h0 : Starts set.program W (code set W marks) (form m) true) (r1 : Reach (keep_self x (load_fiber x ∷ calls_member x 0 ∷ switch_item x ∷ h0.0)) c 0 (WRun m 0 l0 [] b (Fiber_at lo (Saved p0 y0 vs) de re pa) w ps) (slice_set l0 L value.Fiber) [] b (Fiber_at lo (Saved p0 y0 vs) de re pa) w ps) (l2 : List Value) → Sets y l0 l2
          → Reach (load_fiber x ∷ calls_member x 0 ∷ switch_item x ∷ h0.0) r1.count r1.place (WRun m r1.place (slice_set l0 L value.Fiber) [] b (Fiber_at lo (Saved p0 y0 vs) de re pa) w ps) l2 [] b (Fiber_at lo (Saved p0 y0 vs) de re pa) w ps → Started y l0 c b (place_while re p0) (Fiber_at lo (Saved p0 y0 vs) de re pa) w ps
      asks h0 r1 l2 sets t2 =
          let g = t2.has in
          let high = (facts m).higher calls in
          let old_limit = stack_limit set.program m in
          let limit = stack_limit W m in
          ends h0 r1 l2 sets t2
          (stretch.fiber_goes set W marks most Q runs members form facts m (switch_item x ∷ h0.0) t2.count t2.place g.0 l2 [] l2 (value.Int (pos (place_while re p0)) ∷ []) b (Fiber_at lo (Saved p0 y0 vs) de re pa) (Fiber_at lo (Saved p0 y0 vs) de re pa) w ps sets.fiber g.1 (tally.above_none old_limit limit high) tt
          (stretch.member_goes set W marks most Q runs members form facts m (switch_item x ∷ h0.0) (suc t2.count) g.0 g.2.0 (instr.Invokevirtual (member set.program 0)) (member set.program 0) (value.Fiber ∷ []) Pc l2 (value.Fiber ∷ []) [] l2 (value.Int (pos (place_while re p0)) ∷ []) b (Fiber_at lo (Saved p0 y0 vs) de re pa) (Fiber_at lo (Saved p0 y0 vs) de re pa) (Fiber_at lo (Saved p0 y0 vs) de re pa) (Some (value.Int (pos (place_while re p0)))) w ps g.2.1
          (members.alone 0 Pc refl refl (own_of W m) g.2.0 l2 [] w.heap) (members.named 0 Pc refl) refl (tally.above_none old_limit limit high) (tt, tt)
          (here (switch_item x ∷ h0.0) (suc (suc t2.count)) g.2.0 l2 (value.Int (pos (place_while re p0)) ∷ []) b (Fiber_at lo (Saved p0 y0 vs) de re pa) w ps g.2.2)))

      keeps : (h0 : Starts set.program W (code set W marks) (form m) true) → Reach (keep_self x (load_fiber x ∷ calls_member x 0 ∷ switch_item x ∷ h0.0)) c 0 (WRun m 0 l0 [] b (Fiber_at lo (Saved p0 y0 vs) de re pa) w ps) (slice_set l0 L value.Fiber) [] b (Fiber_at lo (Saved p0 y0 vs) de re pa) w ps → Started y l0 c b (place_while re p0) (Fiber_at lo (Saved p0 y0 vs) de re pa) w ps
      keeps h0 r1 =
          let room2 = (facts m).room calls in
          let le = length-set l0 L value.Fiber in
          let r2 = keeps_self y l0 (slice_set l0 L value.Fiber) (load_fiber x ∷ calls_member x 0 ∷ switch_item x ∷ h0.0) r1.count r1.place b (Fiber_at lo (Saved p0 y0 vs) de re pa) w ps (set_same l0 L value.Fiber (by_room (form m).method.is_static room2)) (λ k u. set_other l0 L k value.Fiber (λ v. omega (arith, u, v))) le
          (λ z. set_other l0 L 0 value.Fiber (λ v. not_zero v) ∙ first z) is (by_both (form m).method.is_static room2 le) r1.has (tally.has_one (stack_limit set.program m) (stack_limit W m) ((facts m).higher calls)) self_there in
          asks h0 r1 r2.0 r2.1 r2.2
