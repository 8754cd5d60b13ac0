-- Stores into locals, and returns.
use Rattle.std.proofs.Common.{◌≡◌, ◌≢◌, ◌⊎◌, inl, inr, ℕ, suc, ℤ, Bool, true, false, eqb, List, [], ◌∷◌, map, length, drop, Option, Some, None, Result, Ok, refl, sym, ap, subst, ◌∙◌, ne_eqb}
use Rattle.std.specs.Prelude.{◌&&◌, ◌||◌, not, nat_lt, slice_get, slice_set, is_none}
use Rattle.std.proofs.lemmas.Bool.{and_parts, and_from}
use Rattle.std.proofs.lemmas.Bool.Decides.{eqb_tells}
use Rattle.kilim_program.specs.declared.class.Method.{Method}
use Rattle.kilim_program.specs.declared.instr.Instr.{Instr}
use Rattle.kilim_program.specs.declared.ty.Ty.{Ty}
use Rattle.kilim_program.specs.declared.value.Value.{Value}
use Rattle.kilim_program.specs.declared.value.Value.TheVariants as value
use Rattle.kilim_program.specs.declared.verified.VType.{VType}
use Rattle.kilim_program.specs.declared.verified.VType.TheVariants.{Top, Int, Long}
use Rattle.kilim_program.specs.Program.{Program}
use Rattle.kilim_program.specs.Same.{is_constructor}
use Rattle.kilim_run_state.specs.Machine.{Objects}
use Rattle.kilim_run_machine.specs.Effect.{Effect, Goes, Returns, with_some, as_int, as_long, on_int, on_long, on_reference}
use Rattle.kilim_run_machine.specs.Does.{narrowed_result}
use Rattle.kilim_type_spec.specs.Step.{Types, peek, stored, is_top, vtype, result_types, Operand, Is, AReference, Further, needs, rule, further, Stores, Adds, Leaves, by_row, meets, all_meet, has_operands, has_int, has_long, has_object, returns_object, is_int, is_long, is_object}
use Rattle.kilim_type_spec.specs.Typed.{reads, writes, edges, Among}
use Rattle.kilim_type_sound.specs.Fits.{Classes, has_type, have_types, Holds, HeapFits, AreThere}
use Rattle.kilim_type_sound.specs.Sound.{EffectFits}
use Rattle.kilim_type_sound.specs.Facts.{Ordered}
use Rattle.kilim_type_sound.proofs.Basics.{passed, ok_is, Furthers, furthers, taken, held, assigned}
use Rattle.kilim_type_sound.proofs.Words.{int_is, int_took, long_took, reference_is}
use Rattle.kilim_type_sound.proofs.Slots.{set_there, set_other, set_length, stored_half, IsTop}
use Rattle.kilim_type_sound.proofs.Rows.{Before, stores_of, Stored, store_there, met_int, met_long}

module _ (p : Program) (order : Ordered p) (m : Method) (of : Classes) (h : Objects) (heap : HeapFits p of h) (live : ℕ → ℕ → Bool) (at next : ℕ) (f g : Types) (ls vs : List Value) where
  abbrev B : Instr → Type 0
  B i = Before p m of h live at next f ls vs i

  abbrev After : Instr → Effect → Type 0
  After i e = EffectFits p m of live next ls h (edges i next) g e

  abbrev Stored1 : Operand → ℕ → Type 0
  Stored1 o n = Stored p order m of h heap live at next f g ls vs o n

  stores : (o : Operand) (n : ℕ) (i : Instr) (b : B i) → by_row p m at (Stores o n) f ≡ Ok g → Stored1 o n
  stores o n i b r = stores_of p order m of h heap live at next f g ls vs o n f.stack vs refl refl b.stack r

  module _ (i : Instr) (b : B i) (on : Among (edges i next) next) (n : ℕ) where
    there : (o : Operand) (x : Stored1 o n) → ((k : ℕ) → n ≢ k → IsTop (peek (stored f.locals n x.t) k) ⊎ (writes i k ≡ false)) → After i (with_some (slice_get ls n) (λ _. Goes next (slice_set ls n x.v) x.rest h))
    there o x only = store_there p order m of h heap live at next f g ls vs i b on n o x only

    pub istore_row : ((k : ℕ) → writes i k ≡ eqb n k) → by_row p m at (Stores (Is Int) n) f ≡ Ok g → After i (on_int vs (λ x rest. with_some (slice_get ls n) (λ _. Goes next (slice_set ls n (value.Int x)) rest h)))
    istore_row w r =
        let x = stores (Is Int) n i b r in
        let is = met_int p order m of h heap live at next f g ls vs x.t x.meet in
        subst (λ (ws : List Value). After i (on_int ws (λ x rest. with_some (slice_get ls n) (λ _. Goes next (slice_set ls n (value.Int x)) rest h)))) (sym x.vs_is)
        (by_value x.v (subst (λ (t : VType). has_type p m of t x.v ≡ true) is x.typed) x.rest (there (Is Int) x (λ k ne. inr (w k ∙ ne_eqb n k ne))))
      where
        by_value : (v : Value) → has_type p m of Int v ≡ true → (rest : List Value) → After i (with_some (slice_get ls n) (λ _. Goes next (slice_set ls n v) rest h)) → After i (as_int v (λ x. with_some (slice_get ls n) (λ _. Goes next (slice_set ls n (value.Int x)) rest h)))
        by_value (value.Int x) e rest k = k
        by_value (value.Long x) e rest k = absurd (cc)
        by_value value.Null e rest k = absurd (cc)
        by_value (value.Ref n) e rest k = absurd (cc)
        by_value (value.Text u) e rest k = absurd (cc)
        by_value (value.Box c) e rest k = absurd (cc)
        by_value value.Fiber e rest k = absurd (cc)

    pub lstore_row : ((k : ℕ) → writes i k ≡ (eqb n k || eqb (suc n) k)) → by_row p m at (Stores (Is Long) n) f ≡ Ok g → After i (on_long vs (λ x rest. with_some (slice_get ls n) (λ _. Goes next (slice_set ls n (value.Long x)) rest h)))
    lstore_row w r =
        let x = stores (Is Long) n i b r in
        let is = met_long p order m of h heap live at next f g ls vs x.t x.meet in
        subst (λ (ws : List Value). After i (on_long ws (λ x rest. with_some (slice_get ls n) (λ _. Goes next (slice_set ls n (value.Long x)) rest h)))) (sym x.vs_is)
        (by_value x.v (subst (λ (t : VType). has_type p m of t x.v ≡ true) is x.typed) x.rest (there (Is Long) x (λ k ne. elsewhere x.t is k ne)))
      where
        elsewhere : (t : VType) → t ≡ Long → (k : ℕ) → n ≢ k → IsTop (peek (stored f.locals n t) k) ⊎ (writes i k ≡ false)
        elsewhere t is k ne = elim (eqb_tells (suc n) k) [
          | inl z ↦ inl (ap (λ (u : VType). peek (stored f.locals n u) k) is ∙ (ap (λ (j : ℕ). peek (stored f.locals n Long) j) (sym z.1) ∙ stored_half f.locals n))
          | inr z ↦ inr (w k ∙ (ap (λ (c : Bool). c || eqb (suc n) k) (ne_eqb n k ne) ∙ z.0))
        ]

        by_value : (v : Value) → has_type p m of Long v ≡ true → (rest : List Value) → After i (with_some (slice_get ls n) (λ _. Goes next (slice_set ls n v) rest h)) → After i (as_long v (λ x. with_some (slice_get ls n) (λ _. Goes next (slice_set ls n (value.Long x)) rest h)))
        by_value (value.Long x) e rest k = k
        by_value (value.Int x) e rest k = absurd (cc)
        by_value value.Null e rest k = absurd (cc)
        by_value (value.Ref n) e rest k = absurd (cc)
        by_value (value.Text u) e rest k = absurd (cc)
        by_value (value.Box c) e rest k = absurd (cc)
        by_value value.Fiber e rest k = absurd (cc)

    pub astore_row : ((k : ℕ) → writes i k ≡ eqb n k) → by_row p m at (Stores AReference n) f ≡ Ok g → After i (on_reference vs (λ x rest. with_some (slice_get ls n) (λ _. Goes next (slice_set ls n x) rest h)))
    astore_row w r =
        let x = stores AReference n i b r in
        subst (λ (ws : List Value). After i (on_reference ws (λ x rest. with_some (slice_get ls n) (λ _. Goes next (slice_set ls n x) rest h)))) (sym x.vs_is)
        (reference_is p order m of h heap (After i) (λ c. tt) x.v (held p order m of AReference x.t x.v tt x.meet x.typed) (λ v. with_some (slice_get ls n) (λ _. Goes next (slice_set ls n v) x.rest h)) (there AReference x (λ k ne. inr (w k ∙ ne_eqb n k ne))))

    pub iinc_row : (op : ℤ → ℤ) → reads i n ≡ true → ((k : ℕ) → writes i k ≡ eqb n k) → by_row p m at (Adds n) f ≡ Ok g → After i (with_some (slice_get ls n) (λ v. as_int v (λ x. Goes next (slice_set ls n (value.Int (op x))) vs h)))
    iinc_row op read w r =
        let c = passed 6 (nat_lt n m.max_locals && meets p (Is Int) (peek f.locals n)) (Ok f) g r in
        let is = met_int p order m of h heap live at next f g ls vs (peek f.locals n) (and_parts (nat_lt n m.max_locals) (meets p (Is Int) (peek f.locals n)) c.0).1 in
        let here : Holds p m of Int (slice_get ls n) = subst (λ (t : VType). Holds p m of t (slice_get ls n)) is (b.locals.slots n (b.wants.read n read)) in
        subst (λ (z : Types). EffectFits p m of live next ls h (edges i next) z (with_some (slice_get ls n) (λ v. as_int v (λ x. Goes next (slice_set ls n (value.Int (op x))) vs h)))) (ok_is f g c.1)
        (by_slot is (slice_get ls n) refl here)
      where
        At : Effect → Type 0
        At e = EffectFits p m of live next ls h (edges i next) f e

        slots : peek f.locals n ≡ Int → (v : Value) (x : ℤ) → slice_get ls n ≡ Some v → (k : ℕ) → live next k ≡ true → Holds p m of (peek f.locals k) (slice_get (slice_set ls n (value.Int x)) k)
        slots is v x e k l = elim (eqb_tells n k) [
          | inl z ↦ subst (λ (j : ℕ). Holds p m of (peek f.locals j) (slice_get (slice_set ls n (value.Int x)) j)) z.1
              (subst (λ (t : VType). Holds p m of t (slice_get (slice_set ls n (value.Int x)) n)) (sym is) (subst (λ (o : Option Value). Holds p m of Int o) (sym (set_there ls n v (value.Int x) e)) refl))
          | inr z ↦ subst (λ (o : Option Value). Holds p m of (peek f.locals k) o) (sym (set_other ls n k (value.Int x) (λ q. z.1 (sym q)))) (b.locals.slots k (b.wants.flow next k on l (w k ∙ z.0)))
        ]

        by_slot : peek f.locals n ≡ Int → (o : Option Value) → slice_get ls n ≡ o → Holds p m of Int o → EffectFits p m of live next ls h (edges i next) f (with_some o (λ v. as_int v (λ x. Goes next (slice_set ls n (value.Int (op x))) vs h)))
        by_slot is None e d = absurd d
        by_slot is (Some v) e d = int_is p order m of h heap (λ z. EffectFits p m of live next ls h (edges i next) f z) (λ c. tt) v d (λ x. Goes next (slice_set ls n (value.Int (op x))) vs h)
            (λ x. record { among = on; locals = record { room = set_length ls n (value.Int (op x)) ∙ b.locals.room; slots = slots is v (op x) e }; stack = b.stack; heap = heap })

  -- ---- returns

  pub record Left (takes : List Operand) (also : List Further) : Type 0 where
    pub meet : all_meet p takes f.stack ≡ true
    pub also_hold : Furthers p also f.stack

  leaves : (takes : List Operand) (also : List Further) → by_row p m at (Leaves takes also) f ≡ Ok g → Left takes also
  leaves takes also r =
      let go : Result Types ℕ = rule 11 (not (f.unset && is_constructor m)) (Ok (record f { stack = [] })) in
      let a = passed 3 (has_operands (length takes) f.stack) (rule 5 (all_meet p takes f.stack) (further p also f.stack go)) g r in
      let c = passed 5 (all_meet p takes f.stack) (further p also f.stack go) g a.1 in
      record { meet = c.0; also_hold = (furthers p also f.stack go g c.1).0 }

  int_result : (o : Option Ty) (x : ℤ) → has_int o ≡ true → have_types p m of (result_types o) (narrowed_result o (value.Int x) ∷ []) ≡ true
  int_result None x e = absurd (cc)
  int_result (Some ty) x e = by_type (vtype ty) e
    where
      by_type : (t : VType) → is_int t ≡ true → have_types p m of (t ∷ []) (narrowed_result (Some ty) (value.Int x) ∷ []) ≡ true
      by_type Int e = refl
      by_type t e = absurd (cc)

  long_result : (o : Option Ty) (x : ℤ) → has_long o ≡ true → have_types p m of (result_types o) (value.Long x ∷ []) ≡ true
  long_result None x e = absurd (cc)
  long_result (Some ty) x e = by_type (vtype ty) e
    where
      by_type : (t : VType) → is_long t ≡ true → have_types p m of (t ∷ []) (value.Long x ∷ []) ≡ true
      by_type Long e = refl
      by_type t e = absurd (cc)

  no_result : (o : Option Ty) → is_none o ≡ true → have_types p m of (result_types o) [] ≡ true
  no_result None e = refl
  no_result (Some ty) e = absurd (cc)

  object_no_top : (t : VType) → is_object t ≡ true → is_top t ≡ false
  object_no_top Top e = absurd (cc)
  object_no_top t e = refl

  result_typed : (o : Option Ty) (u : VType) (ts : List VType) (v : Value) → has_object o ≡ true → all_meet p (map (λ t. Is t) (result_types o)) (u ∷ ts) ≡ true → has_type p m of u v ≡ true → have_types p m of (result_types o) (v ∷ []) ≡ true
  unfolding meets
  result_typed None u ts v e c k = absurd (cc)
  result_typed (Some ty) u ts v e c k =
      and_from (has_type p m of (vtype ty) v) true (assigned p order m of u (vtype ty) v (and_parts (meets p (Is (vtype ty)) u) true c).0 (object_no_top (vtype ty) e) k) refl

  module _ (i : Instr) (b : B i) where
    pub ireturn_row : by_row p m at (Leaves (Is Int ∷ []) (needs 11 (has_int m.result) ∷ [])) f ≡ Ok g → After i (on_int vs (λ x rest. Returns (Some (narrowed_result m.result (value.Int x))) h))
    ireturn_row r =
        let l = leaves (Is Int ∷ []) (needs 11 (has_int m.result) ∷ []) r in
        int_took p order m of h heap (After i) (λ c. tt) [] (drop 1 f.stack) vs (taken p order m of h (Is Int ∷ []) f.stack vs (tt, tt) l.meet b.stack b.there) _
        (λ x rest t. (int_result m.result x (and_parts (has_int m.result) true l.also_hold.0).0, heap))

    pub lreturn_row : by_row p m at (Leaves (Is Long ∷ []) (needs 11 (has_long m.result) ∷ [])) f ≡ Ok g → After i (on_long vs (λ x rest. Returns (Some (value.Long x)) h))
    lreturn_row r =
        let l = leaves (Is Long ∷ []) (needs 11 (has_long m.result) ∷ []) r in
        long_took p order m of h heap (After i) (λ c. tt) [] (drop 1 f.stack) vs (taken p order m of h (Is Long ∷ []) f.stack vs (tt, tt) l.meet b.stack b.there) _
        (λ x rest t. (long_result m.result x (and_parts (has_long m.result) true l.also_hold.0).0, heap))

    pub return_row : by_row p m at (Leaves [] (needs 11 (is_none m.result) ∷ [])) f ≡ Ok g → After i (Returns None h)
    return_row r =
        let l = leaves [] (needs 11 (is_none m.result) ∷ []) r in
        (no_result m.result (and_parts (is_none m.result) true l.also_hold.0).0, heap)

    pub areturn_row : by_row p m at (Leaves (AReference ∷ []) (returns_object m)) f ≡ Ok g → After i (on_reference vs (λ v rest. Returns (Some v) h))
    areturn_row r =
        let l = leaves (AReference ∷ []) (returns_object m) r in
        let also = and_parts (has_object m.result) (all_meet p (map (λ t. Is t) (result_types m.result)) f.stack) l.also_hold.1.0 in
        of_stack f.stack vs b.stack b.there l.meet also.1 also.0
      where
        of_stack : (ts : List VType) (ws : List Value) → have_types p m of ts ws ≡ true → AreThere h ws → all_meet p (AReference ∷ []) ts ≡ true → all_meet p (map (λ t. Is t) (result_types m.result)) ts ≡ true → has_object m.result ≡ true →
            After i (on_reference ws (λ v rest. Returns (Some v) h))
        of_stack [] ws k t a c e = absurd (cc)
        of_stack (u ∷ ts) [] k t a c e = absurd (cc)
        of_stack (u ∷ ts) (v ∷ ws) k t a c e =
            let ks = and_parts (has_type p m of u v) (have_types p m of ts ws) k in
            let as1 = and_parts (meets p AReference u) true a in
            reference_is p order m of h heap (After i) (λ c. tt) v (held p order m of AReference u v tt as1.0 ks.0) (λ v. Returns (Some v) h) (result_typed m.result u ts v e c ks.0, heap)
