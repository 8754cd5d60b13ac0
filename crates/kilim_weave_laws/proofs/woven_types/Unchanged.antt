-- A method that isn't pausable is unchanged, and well typed in the woven program too.
use Rattle.kilim_weave_laws.specs.woven_types.Facts.{CallsNone}
use Rattle.std.proofs.Common.{◌≡◌, ℕ, Bool, true, false, List, [], ◌∷◌, length, drop, Option, Some, None, Result, Ok, refl, sym, ap, ◌∙◌, eqb}
use Rattle.std.specs.Prelude.{◌&&◌, ◌||◌, slice_get, nat_lt}
use Rattle.std.proofs.lemmas.Bool.{and_parts, and_from}
use Rattle.kilim_program.specs.declared.class.Method.{Method}
use Rattle.kilim_program.specs.declared.instr.Instr.{Instr}
use Rattle.kilim_program.specs.declared.instr.Instr.TheVariants.{Ldc, LdcW, Aastore, Checkcast, Instanceof, Getstatic, Getfield, Putfield, New, Invokestatic, Invokevirtual, Invokespecial, Athrow}
use Rattle.kilim_program.specs.declared.names.ClassId.{ClassId}
use Rattle.kilim_program.specs.declared.names.MethodId.{MethodId}
use Rattle.kilim_program.specs.declared.value.Value.{Value}
use Rattle.kilim_program.specs.declared.value.Value.TheVariants as value
use Rattle.kilim_program.specs.declared.verified.VType.{VType}
use Rattle.kilim_program.specs.declared.verified.VType.TheVariants.{Top, Int, Long, Null, UninitThis, Uninit, Object}
use Rattle.kilim_program.specs.Program.{Program}
use Rattle.kilim_program.specs.Lengths.{jump_targets, ends_path}
use Rattle.kilim_program.specs.Names.{class_at}
use Rattle.kilim_program.specs.Same.{is_constructor}
use Rattle.kilim_type_spec.specs.Step.{Types, peek, class_vtype, Operand, Is, AReference, Initialized, ArrayOf, References, AnArray, Own, References, meets, all_meet, assignable, Further, further, store, constructed, is_class, superclass_at, constant_row, field_row, static_row, virtual_row, special_row, special_by, special_fits, Row, Takes, Element, Shuffles, Loads, Stores, Adds, Makes, Constructs, Leaves, row, by_row, type_step}
use Rattle.kilim_type_spec.specs.Typed.{declared, FlowsInto, all_assignable, Jumps, Here, goes_on, Typed}
use Rattle.kilim_weave_spec.specs.Woven.{pausable_callee}
use Rattle.kilim_weave_laws.specs.woven_types.Same.{Programs}
use Rattle.kilim_weave_laws.proofs.woven_types.Moved.{passed, passes}
use Rattle.kilim_weave_laws.proofs.woven_types.Rows.{Settled}
use Rattle.kilim_weave_laws.proofs.woven_types.Old.{settled}

module _ (P W : Program) (m : Method) (assigns : (a b : VType) → assignable P a b ≡ true → assignable W a b ≡ true) (above : superclass_at (class_at W m.owner) ≡ superclass_at (class_at P m.owner)) (progs : Programs P W m m) where
  own_kept : (c : ClassId) (t : VType) → meets P (Own c) t ≡ true → meets W (Own c) t ≡ true
  unfolding meets
  own_kept c UninitThis h = refl
  own_kept c t h = assigns t (class_vtype c) h

  reference_same : (t : VType) → meets W AReference t ≡ meets P AReference t
  unfolding meets
  reference_same Null = refl
  reference_same t = refl

  array_same : (bases : _) (t : VType) → meets W (ArrayOf bases) t ≡ meets P (ArrayOf bases) t
  unfolding meets
  array_same bases Null = refl
  array_same bases t = refl

  references_same : (t : VType) → meets W References t ≡ meets P References t
  unfolding meets
  references_same Null = refl
  references_same t = refl

  any_same : (t : VType) → meets W AnArray t ≡ meets P AnArray t
  unfolding meets
  any_same Null = refl
  any_same t = refl

  meets_kept : (o : Operand) (t : VType) → meets P o t ≡ true → meets W o t ≡ true
  unfolding meets
  meets_kept (Is b) t h = assigns t b h
  meets_kept AReference t h = reference_same t ∙ h
  meets_kept Initialized t h = h
  meets_kept (ArrayOf bases) t h = array_same bases t ∙ h
  meets_kept References t h = references_same t ∙ h
  meets_kept AnArray t h = any_same t ∙ h
  meets_kept (Own c) t h = own_kept c t h

  all_kept : (os : List Operand) (s : List VType) → all_meet P os s ≡ true → all_meet W os s ≡ true
  all_kept [] s h = refl
  all_kept (o ∷ os) [] h = h
  all_kept (o ∷ os) (t ∷ s) h =
      let p = and_parts (meets P o t) (all_meet P os s) h in
      and_from (meets W o t) (all_meet W os s) (meets_kept o t p.0) (all_kept os s p.1)

  further_kept : {A : Type 0} (rs : List Further) (s : List VType) (go go' : Result A ℕ) (x : A) → further P rs s go ≡ Ok x → (go ≡ Ok x → go' ≡ Ok x) → further W rs s go' ≡ Ok x
  further_kept [] s go go' x e k = k e
  further_kept (r ∷ rs) s go go' x e k =
      let p = passed r.number (r.holds && all_meet P r.operands s) (further P rs s go) x e in
      let b = and_parts r.holds (all_meet P r.operands s) p.0 in
      passes r.number (r.holds && all_meet W r.operands s) (further W rs s go') x (and_from r.holds (all_meet W r.operands s) b.0 (all_kept r.operands s b.1)) (further_kept rs s go go' x p.1 k)

  constructed_kept : (class : ClassId) (gives : List VType) (after : List Further) (d : List VType) (f g : Types) → constructed P m class gives after d f ≡ Ok g → constructed W m class gives after d f ≡ Ok g
  constructed_kept class gives after (UninitThis ∷ s) f g e =
      let p = passed 10 _ _ g e in
      passes 10 _ _ g (ap (λ o. eqb class.0 m.owner.0 || is_class class o) above ∙ p.0) (further_kept after f.stack _ _ g p.1 (λ z. z))
  constructed_kept class gives after (Uninit q ∷ s) f g e = let p = passed 10 _ _ g e in passes 10 _ _ g p.0 (further_kept after f.stack _ _ g p.1 (λ z. z))
  constructed_kept class gives after [] f g e = e
  constructed_kept class gives after (Top ∷ s) f g e = e
  constructed_kept class gives after (Int ∷ s) f g e = e
  constructed_kept class gives after (Long ∷ s) f g e = e
  constructed_kept class gives after (Null ∷ s) f g e = e
  constructed_kept class gives after (Object ty ∷ s) f g e = e

  store_kept : (o : Operand) (slot : ℕ) (s : List VType) (f g : Types) → store P m o slot s f ≡ Ok g → store W m o slot s f ≡ Ok g
  store_kept o slot [] f g e = e
  store_kept o slot (t ∷ s) f g e = let p = passed 5 _ _ g e in passes 5 _ _ g (meets_kept o t p.0) p.1

  by_row_kept : (q : ℕ) (r : Row) (f g : Types) → by_row P m q r f ≡ Ok g → by_row W m q r f ≡ Ok g
  by_row_kept q (Takes takes gives also) f g e =
      let p3 = passed 3 _ _ g e in
      let p4 = passed 4 _ _ g p3.1 in
      let p5 = passed 5 _ _ g p4.1 in
      passes 3 _ _ g p3.0 (passes 4 _ _ g p4.0 (passes 5 _ _ g (all_kept takes f.stack p5.0) (further_kept also f.stack _ _ g p5.1 (λ z. z))))
  by_row_kept q Element f g e =
      let p3 = passed 3 _ _ g e in
      let p4 = passed 4 _ _ g p3.1 in
      let p5 = passed 5 _ _ g p4.1 in
      passes 3 _ _ g p3.0 (passes 4 _ _ g p4.0 (passes 5 _ _ g (all_kept (Is Int ∷ References ∷ []) f.stack p5.0) p5.1))
  by_row_kept q (Shuffles form) f g e = e
  by_row_kept q (Loads o slot) f g e =
      let p4 = passed 4 _ _ g e in
      let p6 = passed 6 _ _ g p4.1 in
      let b = and_parts (nat_lt slot m.max_locals) (meets P o (peek f.locals slot)) p6.0 in
      passes 4 _ _ g p4.0 (passes 6 _ _ g (and_from (nat_lt slot m.max_locals) (meets W o (peek f.locals slot)) b.0 (meets_kept o (peek f.locals slot) b.1)) p6.1)
  by_row_kept q (Stores o slot) f g e = store_kept o slot f.stack f g e
  by_row_kept q (Adds slot) f g e =
      let p6 = passed 6 _ _ g e in
      let b = and_parts (nat_lt slot m.max_locals) (meets P (Is Int) (peek f.locals slot)) p6.0 in
      passes 6 _ _ g (and_from (nat_lt slot m.max_locals) (meets W (Is Int) (peek f.locals slot)) b.0 (meets_kept (Is Int) (peek f.locals slot) b.1)) p6.1
  by_row_kept q (Makes may) f g e = e
  by_row_kept q (Constructs takes gives class before after) f g e =
      let p3 = passed 3 _ _ g e in
      let p4 = passed 4 _ _ g p3.1 in
      let p5 = passed 5 _ _ g p4.1 in
      passes 3 _ _ g p3.0 (passes 4 _ _ g p4.0 (passes 5 _ _ g (all_kept takes f.stack p5.0)
      (further_kept before f.stack _ _ g p5.1 (λ z. constructed_kept class gives after (drop (length takes) f.stack) f g z))))
  by_row_kept q (Leaves takes also) f g e =
      let p3 = passed 3 _ _ g e in
      let p5 = passed 5 _ _ g p3.1 in
      passes 3 _ _ g p3.0 (passes 5 _ _ g (all_kept takes f.stack p5.0) (further_kept also f.stack _ _ g p5.1 (λ z. z)))

  constant_same : (v : Value) → constant_row W v ≡ constant_row P v
  constant_same (value.Text units) = ap (λ t. Takes [] (t ∷ []) []) progs.text
  constant_same (value.Int n) = refl
  constant_same (value.Long n) = refl
  constant_same value.Null = refl
  constant_same (value.Ref n) = refl
  constant_same (value.Box n) = refl
  constant_same value.Fiber = refl

  special_same : (b : Bool) (id : MethodId) (callee : Method) → (b ≡ false → special_fits W m id callee ≡ special_fits P m id callee) → special_by b W m id callee ≡ special_by b P m id callee
  special_same true id callee e = refl
  special_same false id callee fits = let e = fits refl in rw e refl

  row_same : (i : Instr) → Settled P m i → row W m i ≡ row P m i
  unfolding row
  row_same (Ldc v) s = constant_same v
  row_same (LdcW v) s = constant_same v
  row_same Aastore s = ap (λ t. Takes (Is t ∷ Is Int ∷ References ∷ []) [] []) progs.object
  row_same (Checkcast ty) s = ap (λ t. Takes (Is t ∷ []) (Object ty ∷ []) []) progs.object
  row_same (Instanceof ty) s = ap (λ t. Takes (Is t ∷ []) (Int ∷ []) []) progs.object
  row_same Athrow s = ap (λ t. Takes (Is t ∷ []) [] []) progs.throwable
  row_same (Getstatic f) s = ap (λ fs. field_row (Getstatic f) m (slice_get fs f.0)) progs.fields
  row_same (Getfield f) s = ap (λ fs. field_row (Getfield f) m (slice_get fs f.0)) progs.fields
  row_same (Putfield f) s = ap (λ fs. field_row (Putfield f) m (slice_get fs f.0)) progs.fields
  row_same (New c) s = ap (λ b. Makes b) (progs.makes c)
  row_same (Invokestatic id) s = ap (static_row m) (progs.unchanged id s.0 s.1 s.2 ∙ sym s.1)
  row_same (Invokevirtual id) s = ap (virtual_row m) (progs.unchanged id s.0 s.1 s.2 ∙ sym s.1)
  row_same (Invokespecial id) s =
      let there = progs.unchanged id s.0 s.1 s.2 in
      ap (special_row W m id) there ∙ (special_same (is_constructor s.0) id s.0 (λ n. let h = s.3 n in progs.special id s.0 s.0 s.1 there n h.0 h.1 ∙ sym h.1) ∙ ap (special_row P m id) (sym s.1))
  row_same i s = refl

  all_assignable_kept : (ss ds : List VType) → all_assignable P ss ds ≡ true → all_assignable W ss ds ≡ true
  all_assignable_kept [] [] h = refl
  all_assignable_kept [] (d ∷ ds) h = h
  all_assignable_kept (s ∷ ss) [] h = h
  all_assignable_kept (s ∷ ss) (d ∷ ds) h =
      let p = and_parts (assignable P s d) (all_assignable P ss ds) h in
      and_from (assignable W s d) (all_assignable W ss ds) (assigns s d p.0) (all_assignable_kept ss ds p.1)

  pub flows_same : (f d : Types) → FlowsInto P f d → FlowsInto W f d
  flows_same f d h = record { locals = λ j. assigns (peek f.locals j) (peek d.locals j) (h.locals j); stack = all_assignable_kept f.stack d.stack h.stack; unset = h.unset }

  jumps_same : (g : Types) (ts : List ℕ) → Jumps P m g ts → Jumps W m g ts
  jumps_same g [] j = tt
  jumps_same g (t ∷ ts) j = ((j.0.0, j.0.1, flows_same g j.0.0 j.0.2), jumps_same g ts j.1)

  here_same : (was o : Option Types) (f : Types) → Here P was o f → Here W was o f
  here_same None (Some d) f h = h
  here_same (Some g) (Some d) f h = (h.0, flows_same g d h.1)
  here_same (Some g) None f h = h
  here_same None None f h = h

  -- an instruction that calls nothing pausable leaves the same
  pub step_same : (q : ℕ) (i : Instr) (f g : Types) → pausable_callee P i ≡ None → type_step P m q i f ≡ Ok g → type_step W m q i f ≡ Ok g
  step_same q i f g none e = by_row_kept q (row W m i) f g (ap (λ r. by_row P m q r f) (row_same i (settled P m q i f g none e)) ∙ e)

  pub unchanged : (es : List (ℕ × Instr)) (was : Option Types) → CallsNone P es → Typed P m was es → Typed W m was es
  unchanged [] was n t = t
  unchanged (e ∷ es) was n t = (
    t.0,
    here_same was (declared m e.0) t.0 t.1,
    t.2,
    step_same e.0 e.1 t.0 t.2 n.0 t.3,
    jumps_same t.2 (jump_targets e.1) t.4,
    unchanged es (goes_on (ends_path e.1) t.2) n.1 t.5,
  )
