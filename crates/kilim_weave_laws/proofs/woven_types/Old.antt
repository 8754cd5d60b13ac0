-- The step of an old instruction that is no pausable call, in woven code.
use Rattle.std.proofs.Common.{◌≡◌, ◌⊎◌, inl, inr, ℕ, suc, ◌≤◌, Bool, true, false, eqb, cond, List, [], ◌∷◌, Option, Some, None, Ok, refl, sym, ap, ◌∙◌, eq-eqb}
use Rattle.std.specs.Prelude.{◌||◌, not}
use Rattle.std.proofs.lemmas.Bool.{eqb-true, false≢true, and_parts}
use Rattle.std.proofs.lemmas.Bool.Decides.{eqb_tells}
use Rattle.kilim_program.specs.declared.class.Field.{Field}
use Rattle.kilim_program.specs.declared.class.Method.{Method}
use Rattle.kilim_program.specs.declared.instr.Instr.{Instr}
use Rattle.kilim_program.specs.declared.instr.Instr.TheVariants.{Ldc, LdcW, Ldc2W, Iload, Lload, Aload, Istore, Lstore, Astore, Iinc, Getstatic, Getfield, Putfield, Invokevirtual, Invokespecial, Invokestatic}
use Rattle.kilim_program.specs.declared.names.MethodId.{MethodId}
use Rattle.kilim_program.specs.declared.value.Value.{Value}
use Rattle.kilim_program.specs.declared.value.Value.TheVariants as value
use Rattle.kilim_program.specs.declared.verified.VType.{VType}
use Rattle.kilim_program.specs.declared.verified.VType.TheVariants.{Top, Int, Long, Null, UninitThis, Uninit, Object}
use Rattle.kilim_program.specs.Program.{Program}
use Rattle.kilim_program.specs.Names.{method_at, field_of}
use Rattle.kilim_program.specs.Same.{is_constructor}
use Rattle.kilim_type_spec.specs.Step.{Types, peek, is_long, is_same, meets, Is, AReference, constant_row, long_constant_row, missing, field_row, static_row, virtual_row, special_row, special_by, store, Row, row, by_row, type_step, may_name, special_fits}
use Rattle.kilim_type_spec.specs.Typed.{reads, writes}
use Rattle.kilim_weave_spec.specs.Woven.{moved_instr, if_there, pausable_callee, first_of}
use Rattle.kilim_weave_laws.specs.woven_types.Same.{Shared, Programs}
use Rattle.kilim_weave_laws.proofs.woven_types.Moved.{passed}
use Rattle.kilim_weave_laws.proofs.woven_types.Locals.{Covers}
use Rattle.kilim_weave_laws.proofs.woven_types.Crux.{plain, twin, RowReads, RowWrites, Firm, FirmRow, row_next}
use Rattle.kilim_weave_laws.proofs.woven_types.Rows.{Named, Settled, row_moved, Fitting}

no_callee : (m : Method) → Some m ≡ None → ⊥
no_callee m e = cc

-- rows that load nothing
Quiet : Program → Row → Type 0
Quiet P r = ((j : ℕ) → RowReads r j → ⊥) × FirmRow P r

module _ (P : Program) where
  quiet_constant : (v : Value) → Quiet P (constant_row P v)
  unfolding Quiet
  quiet_constant (value.Text units) = (λ j x. x, tt)
  quiet_constant (value.Int n) = (λ j x. x, tt)
  quiet_constant (value.Long n) = (λ j x. x, tt)
  quiet_constant value.Null = (λ j x. x, tt)
  quiet_constant (value.Ref n) = (λ j x. x, tt)
  quiet_constant (value.Box n) = (λ j x. x, tt)
  quiet_constant value.Fiber = (λ j x. x, tt)

  quiet_long : (v : Value) → Quiet P (long_constant_row v)
  unfolding Quiet
  quiet_long (value.Text units) = (λ j x. x, tt)
  quiet_long (value.Int n) = (λ j x. x, tt)
  quiet_long (value.Long n) = (λ j x. x, tt)
  quiet_long value.Null = (λ j x. x, tt)
  quiet_long (value.Ref n) = (λ j x. x, tt)
  quiet_long (value.Box n) = (λ j x. x, tt)
  quiet_long value.Fiber = (λ j x. x, tt)

  quiet_static : (f : _) (m : Method) (o : Option Field) → Quiet P (field_row (Getstatic f) m o)
  unfolding Quiet
  quiet_static f m None = (λ j x. x, tt)
  quiet_static f m (Some field) = (λ j x. x, tt)

  quiet_get : (f : _) (m : Method) (o : Option Field) → Quiet P (field_row (Getfield f) m o)
  unfolding Quiet
  quiet_get f m None = (λ j x. x, tt)
  quiet_get f m (Some field) = (λ j x. x, tt)

  quiet_put : (f : _) (m : Method) (o : Option Field) → Quiet P (field_row (Putfield f) m o)
  unfolding Quiet
  quiet_put f m None = (λ j x. x, tt)
  quiet_put f m (Some field) = (λ j x. x, tt)

  quiet_static_call : (m : Method) (o : Option Method) → Quiet P (static_row m o)
  unfolding Quiet
  quiet_static_call m None = (λ j x. x, tt)
  quiet_static_call m (Some callee) = (λ j x. x, tt)

  quiet_virtual_call : (m : Method) (o : Option Method) → Quiet P (virtual_row m o)
  unfolding Quiet
  quiet_virtual_call m None = (λ j x. x, tt)
  quiet_virtual_call m (Some callee) = (λ j x. x, tt)

  quiet_by : (b : Bool) (m : Method) (id : MethodId) (callee : Method) → Quiet P (special_by b P m id callee)
  unfolding Quiet
  quiet_by true m id callee = (λ j x. x, tt)
  quiet_by false m id callee = (λ j x. x, tt)

  quiet_special_call : (m : Method) (id : MethodId) (o : Option Method) → Quiet P (special_row P m id o)
  unfolding Quiet
  quiet_special_call m id (Some callee) = quiet_by (is_constructor callee) m id callee
  quiet_special_call m id None = (λ j x. x, tt)

  firm_int : Firm P (Is Int)
  unfolding meets
  firm_int Int h = (refl, refl)
  firm_int t h = absurd (false≢true h)

  firm_long : Firm P (Is Long)
  unfolding meets
  firm_long Long h = (refl, refl)
  firm_long t h = absurd (false≢true h)

  firm_reference : Firm P AReference
  unfolding meets
  firm_reference Null h = (refl, refl)
  firm_reference UninitThis h = (refl, refl)
  firm_reference (Uninit q) h = (refl, refl)
  firm_reference (Object ty) h = (refl, refl)
  firm_reference t h = absurd (false≢true h)

  -- what a row reads, its instruction reads
  pub firm_row : (m : Method) (i : Instr) → FirmRow P (row P m i)
  unfolding row Quiet
  firm_row m (Iload n) = firm_int
  firm_row m (Lload n) = firm_long
  firm_row m (Aload n) = firm_reference
  firm_row m (Ldc v) = (quiet_constant v).1
  firm_row m (LdcW v) = (quiet_constant v).1
  firm_row m (Ldc2W v) = (quiet_long v).1
  firm_row m (Getstatic f) = (quiet_static f m (field_of P f)).1
  firm_row m (Getfield f) = (quiet_get f m (field_of P f)).1
  firm_row m (Putfield f) = (quiet_put f m (field_of P f)).1
  firm_row m (Invokestatic id) = (quiet_static_call m (method_at P id)).1
  firm_row m (Invokevirtual id) = (quiet_virtual_call m (method_at P id)).1
  firm_row m (Invokespecial id) = (quiet_special_call m id (method_at P id)).1
  firm_row m i = tt

  pub row_reads : (m : Method) (i : Instr) (j : ℕ) → RowReads (row P m i) j → reads i j ≡ true
  unfolding row Quiet
  row_reads m (Iload n) j e = eq-eqb n j e
  row_reads m (Lload n) j e = eq-eqb n j e
  row_reads m (Aload n) j e = eq-eqb n j e
  row_reads m (Iinc n by) j e = eq-eqb n j e
  row_reads m (Ldc v) j e = absurd ((quiet_constant v).0 j e)
  row_reads m (LdcW v) j e = absurd ((quiet_constant v).0 j e)
  row_reads m (Ldc2W v) j e = absurd ((quiet_long v).0 j e)
  row_reads m (Getstatic f) j e = absurd ((quiet_static f m (field_of P f)).0 j e)
  row_reads m (Getfield f) j e = absurd ((quiet_get f m (field_of P f)).0 j e)
  row_reads m (Putfield f) j e = absurd ((quiet_put f m (field_of P f)).0 j e)
  row_reads m (Invokestatic id) j e = absurd ((quiet_static_call m (method_at P id)).0 j e)
  row_reads m (Invokevirtual id) j e = absurd ((quiet_virtual_call m (method_at P id)).0 j e)
  row_reads m (Invokespecial id) j e = absurd ((quiet_special_call m id (method_at P id)).0 j e)
  row_reads m i j e = absurd e

  -- what an instruction writes, its row writes
  long_top : (m : Method) (slot : ℕ) (fs : List VType) (f g : Types) → store P m (Is Long) slot fs f ≡ Ok g → is_long (first_of fs) ≡ true
  unfolding meets
  long_top m slot [] f g e = absurd (cc)
  long_top m slot (Long ∷ fs) f g e = refl
  long_top m slot (Top ∷ fs) f g e = absurd (cc)
  long_top m slot (Int ∷ fs) f g e = absurd (cc)
  long_top m slot (Null ∷ fs) f g e = absurd (cc)
  long_top m slot (UninitThis ∷ fs) f g e = absurd (cc)
  long_top m slot (Uninit q ∷ fs) f g e = absurd (cc)
  long_top m slot (Object ty ∷ fs) f g e = absurd (cc)

  either_slot : (n j : ℕ) → (eqb n j || eqb (suc n) j) ≡ true → (n ≡ j) ⊎ (suc n ≡ j)
  either_slot n j h = elim (eqb_tells n j) [ inl x ↦ inl x.1 | inr y ↦ inr (eqb-true (suc n) j (let e = y.0 in rw e at h)) ]

  pub row_writes : (m : Method) (q : ℕ) (i : Instr) (fl fs : List VType) (g : Types) (j : ℕ) → type_step P m q i (plain fl fs) ≡ Ok g → writes i j ≡ true → RowWrites (row P m i) fs j
  unfolding row
  row_writes m q (Istore n) fl fs g j e h = inl (eqb-true n j h)
  row_writes m q (Astore n) fl fs g j e h = inl (eqb-true n j h)
  row_writes m q (Iinc n by) fl fs g j e h = eqb-true n j h
  row_writes m q (Lstore n) fl fs g j e h = elim (either_slot n j h) [ inl x ↦ inl x | inr y ↦ inr (y, long_top m n fs (plain fl fs) g e) ]
  row_writes m q i fl fs g j e h = absurd (false≢true h)

  -- ---- an instruction that is none of a pausable call

  there : (id : MethodId) (o : Option Method) → method_at P id ≡ o → (o ≡ None → ⊥) → if_there o ≡ None → Named P id
  there id None e some n = absurd (some refl)
  there id (Some callee) e some n = (callee, e, plain_callee callee.pausable n)
    where
      plain_callee : (b : Bool) → cond b (Some callee) None ≡ None → b ≡ false
      plain_callee true h = absurd (no_callee callee h)
      plain_callee false h = refl

  missing_fails : (m : Method) (q : ℕ) (f g : Types) → by_row P m q missing f ≡ Ok g → ⊥
  missing_fails m q f g h =
      let p3 = passed 3 _ _ g h in
      let p8 = passed 8 false (Ok f) g p3.1 in
      let x : false ≡ true = p8.0 in
      absurd (false≢true x)

  -- what a call by invokespecial asked
  pub special_asks : (m : Method) (q : ℕ) (id : MethodId) (callee : Method) (f g : Types) → by_row P m q (special_by false P m id callee) f ≡ Ok g → (may_name m callee.is_private callee.owner ≡ true) × (special_fits P m id callee ≡ true)
  special_asks m q id callee f g e =
      let p3 = passed 3 _ _ g e in
      let p4 = passed 4 _ _ g p3.1 in
      let p5 = passed 5 _ _ g p4.1 in
      let p6 = passed 5 _ _ g p5.1 in
      let p8 = passed 8 _ _ g p6.1 in
      let p14 = passed 14 _ _ g p8.1 in
      ((and_parts (not callee.is_static) (may_name m callee.is_private callee.owner) (and_parts _ true p8.0).0).1, (and_parts _ true p14.0).0)

  fitting : (m : Method) (q : ℕ) (id : MethodId) (f g : Types) (o : Option Method) → method_at P id ≡ o → if_there o ≡ None → by_row P m q (special_row P m id o) f ≡ Ok g → Fitting P m id
  fitting m q id f g None at n e = absurd (missing_fails m q f g e)
  fitting m q id f g (Some callee) at n e =
      (callee, at, plain_callee callee.pausable n, λ c. special_asks m q id callee f g (ap (λ z. by_row P m q (special_by z P m id callee) f) (sym c) ∙ e))
    where
      plain_callee : (b : Bool) → cond b (Some callee) None ≡ None → b ≡ false
      plain_callee true h = absurd (no_callee callee h)
      plain_callee false h = refl

  pub settled : (m : Method) (q : ℕ) (i : Instr) (f g : Types) → pausable_callee P i ≡ None → type_step P m q i f ≡ Ok g → Settled P m i
  unfolding row
  settled m q (Invokestatic id) f g n e = there id (method_at P id) refl (λ none. absurd (let x = ap (λ o. by_row P m q (static_row m o) f) none in missing_fails m q f g (sym x ∙ e))) n
  settled m q (Invokevirtual id) f g n e = there id (method_at P id) refl (λ none. absurd (let x = ap (λ o. by_row P m q (virtual_row m o) f) none in missing_fails m q f g (sym x ∙ e))) n
  settled m q (Invokespecial id) f g n e = fitting m q id f g (method_at P id) refl n e
  settled m q i f g n e = tt

module _ (P W : Program) (m w : Method) (at : ℕ → ℕ) (same : Shared P W m w at) (progs : Programs P W m w) (E : ℕ → Type 0) (more : ℕ → VType) (apart : (j : ℕ) → E j → m.max_locals ≤ j) (steady : (j : ℕ) → E j → (t : VType) → is_same t (more j) ≡ false) where
  pub record After (S : ℕ → Type 0) (q : ℕ) (i : Instr) (fs cl : List VType) (g : Types) : Type 0 where
    pub fl' : List VType
    pub fs' : List VType
    pub cl' : List VType
    pub is : g ≡ plain fl' fs'
    pub steps : type_step W w (at q) (moved_instr at i) (twin at fs cl) ≡ Ok (twin at fs' cl')
    pub covers : Covers at S fl' cl'
    pub added : (j : ℕ) → E j → peek cl' j ≡ more j

  pub old_step : (S : ℕ → Type 0) (q : ℕ) (i : Instr) (fl fs cl : List VType) (g : Types) → pausable_callee P i ≡ None → ((j : ℕ) → reads i j ≡ true → S j) → Covers at S fl cl → ((j : ℕ) → E j → peek cl j ≡ more j) →
      type_step P m q i (plain fl fs) ≡ Ok g → After (λ j. S j ⊎ (writes i j ≡ true)) q i fs cl g
  old_step S q i fl fs cl g n r c a e =
      let t = row_next P W m w at same E more apart steady S q (row P m i) fl fs cl g (firm_row P m i) (λ j x. r j (row_reads P m i j x)) c a e in
      record {
        fl' = t.fl';
        fs' = t.fs';
        cl' = t.cl';
        is = t.is;
        steps = ap (λ z. by_row W w (at q) z (twin at fs cl)) (row_moved P W m w at same progs i (settled P m q i (plain fl fs) g n e)) ∙ t.steps;
        covers = λ j s top. t.covers j (either j s) top;
        added = t.added;
      }
    where
      either : (j : ℕ) → S j ⊎ (writes i j ≡ true) → S j ⊎ RowWrites (row P m i) fs j
      either j (inl s) = inl s
      either j (inr h) = inr (row_writes P m q i fl fs g j e h)
