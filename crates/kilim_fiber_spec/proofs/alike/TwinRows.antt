-- Old instructions that touch no local and ask nothing of the program: both sides do the same.
use Rattle.std.proofs.Common.{◌≡◌, ◌≢◌, ◌⊎◌, inl, inr, ℕ, ◌<◌, ◌≤◌, Bool, true, false, eqb, ℤ, List, [], ◌∷◌, length, Option, Some, None, refl, sym, ap, subst, ◌∙◌, arith}
use Rattle.std.specs.Prelude.{slice_get, slice_set}
use Rattle.std.proofs.lemmas.Option.{slice_get_within}
use Rattle.std.proofs.lemmas.Bool.{false≢true}
use Rattle.kilim_program.specs.declared.class.Method.{Method}
use Rattle.kilim_program.specs.declared.instr.Instr.{Instr}
use Rattle.kilim_program.specs.declared.instr.Instr.TheVariants as instr
use Rattle.kilim_program.specs.declared.names.MethodId.{MethodId}
use Rattle.kilim_program.specs.declared.value.Value.{Value}
use Rattle.kilim_program.specs.declared.value.Value.TheVariants as value
use Rattle.kilim_program.specs.Program.{Program}
use Rattle.kilim_run_state.specs.Machine.{Objects}
use Rattle.kilim_run_machine.specs.Effect.{Effect, Goes, Calls, Asks, Stuck}
use Rattle.kilim_run_machine.specs.Does.{does}
use Rattle.kilim_run_model.specs.State.{Setting}
use Rattle.kilim_weave_spec.specs.Woven.{fiber_slot, self_slot, moved_instr}
use Rattle.kilim_fiber_spec.specs.Thread.{fetch, own_of}
use Rattle.kilim_fiber_spec.specs.Form.{Facts}
use Rattle.kilim_fiber_spec.specs.Rows.{elsewhere, goes_to}
use Rattle.kilim_fiber_spec.specs.Serves.{Twins}
use Rattle.kilim_fiber_spec.specs.Links.{IsReference, Forms, code, shows, Alike, Held}
use Rattle.kilim_program.specs.Lengths.{ends_path}
use Rattle.kilim_type_spec.specs.Typed.{Among, edges, reads}
use Rattle.kilim_fiber_spec.specs.Form.{sets}
use Rattle.std.proofs.lemmas.Bool.{eq-eqb}
use Rattle.std.proofs.lemmas.Bool.Decides.{eqb_tells}
use Rattle.std.proofs.lemmas.List.{length-set}
use Rattle.std.specs.Prelude.{◌==◌}
use Rattle.std.specs.Int.{w32, int_wrapping_add}
use Rattle.kilim_program.specs.Lengths.{jump_targets}
use Rattle.kilim_run_machine.specs.Effect.{with_some, on_value, as_int, as_long, as_reference}
use Rattle.kilim_fiber_spec.proofs.alike.Slots.{set_same, set_other, get_within}
use Rattle.kilim_fiber_spec.proofs.alike.Effects.{is_simple, same_simple, e_some, e_int, e_long, e_reference}
use Rattle.kilim_fiber_spec.proofs.alike.Lands.{hushed, hushed_simple, lands, next_unused}

ends_moved : (at : ℕ → ℕ) (i : Instr) → ends_path (moved_instr at i) ≡ ends_path i
unfolding ends_path
ends_moved at (instr.Lookupswitch d es) = refl
ends_moved at i = refl

sets_none : (i : Instr) (k : ℕ) → is_simple i ≡ true → sets i k ≡ false
sets_none (instr.Istore n) k h = absurd (false≢true h)
sets_none (instr.Lstore n) k h = absurd (false≢true h)
sets_none (instr.Astore n) k h = absurd (false≢true h)
sets_none (instr.Iinc n j) k h = absurd (false≢true h)
sets_none i k h = refl

pub next_is : (W : Program) (own : Method) (at : ℕ → ℕ) (i : Instr) (to nx : ℕ) (wl s : List Value) (heap : Objects) → (ends_path i ≡ false → nx ≡ at to) → does W own (moved_instr at i) nx wl s heap ≡ does W own (moved_instr at i) (at to) wl s heap
next_is W own at i to nx wl s heap h = by (ends_path i) refl
  where
    by : (b : Bool) → ends_path i ≡ b → does W own (moved_instr at i) nx wl s heap ≡ does W own (moved_instr at i) (at to) wl s heap
    by true e = next_unused W own (moved_instr at i) nx (at to) wl s heap (ends_moved at i ∙ e)
    by false e = ap (λ (t : ℕ). does W own (moved_instr at i) t wl s heap) (h e)

no_calls : (e : Effect) (c : MethodId) (args : List Value) (q : ℕ) (l s : List Value) (heap : Objects) → hushed e ≡ e → e ≡ Calls c args q l s heap → ⊥
no_calls e c args q l s heap h g = let z : Stuck ≡ Calls c args q l s heap = ap hushed (sym g) ∙ h ∙ g in absurd (cc)

no_natives : (e : Effect) (c : MethodId) (args : List Value) (q : ℕ) (l s : List Value) (heap : Objects) → hushed e ≡ e → e ≡ Asks c args q l s heap → ⊥
no_natives e c args q l s heap h g = let z : Stuck ≡ Asks c args q l s heap = ap hushed (sym g) ∙ h ∙ g in absurd (cc)

abbrev pub is_load : Instr → Bool
is_load (instr.Iload n) = true
is_load (instr.Lload n) = true
is_load (instr.Aload n) = true
is_load i = false

abbrev place_of : ℕ → Option (ℕ × List Value) → ℕ
place_of d None = d
place_of d (Some z) = z.0

abbrev locals_of : List Value → Option (ℕ × List Value) → List Value
locals_of d None = d
locals_of d (Some z) = z.1

module _ (set : Setting) (W : Program) (marks : List (List Bool)) (form : Forms set W marks) (facts : (m : MethodId) → Facts set.program W (code set W marks) (form m)) where
  pub twins_simple : (m : MethodId) (p to nx : ℕ) (i : Instr) (l wl s : List Value) (x : Value) (heap : Objects) → fetch set.program m p ≡ Some (i, to) → (ends_path i ≡ false → nx ≡ (form m).at to) → is_simple i ≡ true
      → Alike set W marks form m p l wl → Held set W marks form (form m).has_calls m l wl x
      → Twins set W marks form m l wl x (does set.program (own_of set.program m) i to l s heap) (does W (own_of W m) (moved_instr (form m).at i) nx wl s heap)
  twins_simple m p to nx i l wl s x heap hf hn simple alike held =
      record {
        locals = wl;
        same = next_is W (own_of W m) (form m).at i to nx wl s heap hn ∙ same_simple set.program W (own_of set.program m) (own_of W m) (form m).at l wl to s heap i simple;
        alike = λ q l2 g k z.
            let a = lands set.program (own_of set.program m) l to s heap i (λ at. same_simple set.program set.program (own_of set.program m) (own_of set.program m) at l l to s heap i simple) q l2 g in
            ap (λ (ls : List Value). slice_get ls k) a.1 ∙ alike k (stays k ((facts m).flows p to q k i hf a.0 z));
        held = λ q l2 g.
            let a = lands set.program (own_of set.program m) l to s heap i (λ at. same_simple set.program set.program (own_of set.program m) (own_of set.program m) at l l to s heap i simple) q l2 g in
            subst (λ (ls : List Value). Held set W marks form (form m).has_calls m ls wl x) (sym a.1) held;
        calls = λ c args q l2 s2 h2 g. absurd (no_calls (does set.program (own_of set.program m) i to l s heap) c args q l2 s2 h2 (hushed_simple set.program (own_of set.program m) l to s heap i simple) g);
        natives = λ c args q l2 s2 h2 g. absurd (no_natives (does set.program (own_of set.program m) i to l s heap) c args q l2 s2 h2 (hushed_simple set.program (own_of set.program m) l to s heap i simple) g);
      }
    where
      stays : (k : ℕ) → (shows set W marks form m p k ≡ true) ⊎ (sets i k ≡ true) → shows set W marks form m p k ≡ true
      stays k (inl h) = h
      stays k (inr h) = absurd (false≢true (sym (sets_none i k simple) ∙ h))

  -- ---- loads

  pub load_same : (P Q : Program) (u v : Method) (at : ℕ → ℕ) (i : Instr) (to : ℕ) (l wl s : List Value) (heap : Objects) → ((k : ℕ) → reads i k ≡ true → slice_get l k ≡ slice_get wl k) → is_load i ≡ true
      → does Q v (moved_instr at i) (at to) wl s heap ≡ elsewhere at wl (does P u i to l s heap)
  unfolding does
  load_same P Q u v at (instr.Iload n) to l wl s heap h b = let e = sym (h n (eq-eqb n n refl)) in ap (λ (o : Option Value). with_some o (λ v. as_int v (λ z. Goes (at to) wl (value.Int z ∷ s) heap))) e ∙ simp (e_some, e_int)
  load_same P Q u v at (instr.Lload n) to l wl s heap h b = let e = sym (h n (eq-eqb n n refl)) in ap (λ (o : Option Value). with_some o (λ v. as_long v (λ z. Goes (at to) wl (value.Long z ∷ s) heap))) e ∙ simp (e_some, e_long)
  load_same P Q u v at (instr.Aload n) to l wl s heap h b = let e = sym (h n (eq-eqb n n refl)) in ap (λ (o : Option Value). with_some o (λ v. as_reference v (λ z. Goes (at to) wl (z ∷ s) heap))) e ∙ simp (e_some, e_reference)
  load_same P Q u v at i to l wl s heap h b = absurd (false≢true b)

  -- ---- stores

  length_held : (m : MethodId) (b : Bool) (l wl : List Value) (x : Value) → Held set W marks form b m l wl x → length l ≤ length wl
  length_held m true l wl x h = let a = slice_get_within wl (fiber_slot (form m).method) value.Fiber h.fiber in let c = h.within in omega (arith, a, c)
  length_held m false l wl x h = h.0

  held_store : (m : MethodId) (b : Bool) (l wl : List Value) (x : Value) (n : ℕ) (v : Value) → n < length l → Held set W marks form b m l wl x → Held set W marks form b m (slice_set l n v) (slice_set wl n v) x
  held_store m true l wl x n v g h =
      let c = h.within in
      let e = length-set l n v in
      record {
        fiber = set_other wl n (fiber_slot (form m).method) v (λ z. omega (arith, z, g, c)) ∙ h.fiber;
        self_there = λ z. set_other wl n (self_slot (form m).method) v (λ y. omega (arith, y, g, c)) ∙ h.self_there z;
        self_none = h.self_none;
        is_reference = h.is_reference;
        within = omega (arith, e, c);
      }
  held_store m false l wl x n v g h = let e = length-set l n v in let d = length-set wl n v in let few = h.0 in (omega (arith, e, d, few), λ plain. ap (λ (ls : List Value). slice_set ls n v) (h.1 plain))

  twins_store : (m : MethodId) (p to : ℕ) (i : Instr) (l wl r : List Value) (x : Value) (heap : Objects) (n : ℕ) (v : Value) (e d : Effect) → fetch set.program m p ≡ Some (i, to)
      → e ≡ Goes to (slice_set l n v) r heap → d ≡ Goes ((form m).at to) (slice_set wl n v) r heap → ((k : ℕ) → sets i k ≡ true → n ≡ k) → Among (edges i to) to → n < length l
      → Alike set W marks form m p l wl → Held set W marks form (form m).has_calls m l wl x → Twins set W marks form m l wl x e d
  twins_store m p to i l wl r x heap n v e d hf he hd only next within alike held =
      record {
        locals = slice_set wl n v;
        same = hd ∙ ap (elsewhere (form m).at (slice_set wl n v)) (sym he);
        alike = λ q l2 g k z.
            let pair = ap goes_to (sym he) ∙ g in
            let q1 = ap (place_of q) pair in
            ap (λ (ls : List Value). slice_get ls k) (sym (ap (locals_of l2) pair)) ∙ at_slot k (eqb_tells n k) ((facts m).flows p to q k i hf (subst (λ (t : ℕ). Among (edges i to) t) q1 next) z);
        held = λ q l2 g. subst (λ (ls : List Value). Held set W marks form (form m).has_calls m ls (slice_set wl n v) x) (ap (locals_of l2) (ap goes_to (sym he) ∙ g)) (held_store m (form m).has_calls l wl x n v within held);
        calls = λ c args q l2 s2 h2 g. let z : Goes to (slice_set l n v) r heap ≡ Calls c args q l2 s2 h2 = sym he ∙ g in absurd (cc);
        natives = λ c args q l2 s2 h2 g. let z : Goes to (slice_set l n v) r heap ≡ Asks c args q l2 s2 h2 = sym he ∙ g in absurd (cc);
      }
    where
      at_slot : (k : ℕ) → ((eqb n k ≡ true) × (n ≡ k)) ⊎ ((eqb n k ≡ false) × (n ≢ k)) → (shows set W marks form m p k ≡ true) ⊎ (sets i k ≡ true) → slice_get (slice_set l n v) k ≡ slice_get (slice_set wl n v) k
      at_slot k (inl t) h =
          let a = length_held m (form m).has_calls l wl x held in
          subst (λ (j : ℕ). slice_get (slice_set l n v) j ≡ slice_get (slice_set wl n v) j) t.1 (set_same l n v within ∙ sym (set_same wl n v (omega (arith, a, within))))
      at_slot k (inr t) (inl h) = set_other l n k v t.1 ∙ alike k h ∙ sym (set_other wl n k v t.1)
      at_slot k (inr t) (inr h) = absurd (t.1 (only k h))

  -- what a store needs: a value on the stack, and a slot
  int_there : (s : List Value) (go : ℤ → List Value → Effect) → on_value s (λ v r. as_int v (λ z. go z r)) ≢ Stuck → (z : ℤ) × (r : List Value) × (s ≡ value.Int z ∷ r)
  int_there [] go h = absurd (h refl)
  int_there (value.Int z ∷ r) go h = (z, r, refl)
  int_there (value.Long z ∷ r) go h = absurd (h refl)
  int_there (value.Null ∷ r) go h = absurd (h refl)
  int_there (value.Ref n ∷ r) go h = absurd (h refl)
  int_there (value.Text u ∷ r) go h = absurd (h refl)
  int_there (value.Box u ∷ r) go h = absurd (h refl)
  int_there (value.Fiber ∷ r) go h = absurd (h refl)

  long_there : (s : List Value) (go : ℤ → List Value → Effect) → on_value s (λ v r. as_long v (λ z. go z r)) ≢ Stuck → (z : ℤ) × (r : List Value) × (s ≡ value.Long z ∷ r)
  long_there [] go h = absurd (h refl)
  long_there (value.Long z ∷ r) go h = (z, r, refl)
  long_there (value.Int z ∷ r) go h = absurd (h refl)
  long_there (value.Null ∷ r) go h = absurd (h refl)
  long_there (value.Ref n ∷ r) go h = absurd (h refl)
  long_there (value.Text u ∷ r) go h = absurd (h refl)
  long_there (value.Box u ∷ r) go h = absurd (h refl)
  long_there (value.Fiber ∷ r) go h = absurd (h refl)

  slot_there : (l : List Value) (n : ℕ) (go : Value → Effect) → with_some (slice_get l n) go ≢ Stuck → (v : Value) × (slice_get l n ≡ Some v)
  slot_there l n go h = by (slice_get l n) refl
    where
      by : (o : Option Value) → slice_get l n ≡ o → (v : Value) × (slice_get l n ≡ Some v)
      by None e = absurd (h (ap (λ (o : Option Value). with_some o go) e))
      by (Some v) e = (v, e)

  same_eq : (n k : ℕ) → (n == k) ≡ true → n ≡ k
  same_eq n k h = by (eqb_tells n k)
    where
      by : ((eqb n k ≡ true) × (n ≡ k)) ⊎ ((eqb n k ≡ false) × (n ≢ k)) → n ≡ k
      by (inl t) = t.1
      by (inr t) = absurd (false≢true (sym t.0 ∙ h))

  pub twins_lstore : (m : MethodId) (p to nx n : ℕ) (l wl s : List Value) (x : Value) (heap : Objects) → fetch set.program m p ≡ Some (instr.Lstore n, to) → nx ≡ (form m).at to
      → Alike set W marks form m p l wl → Held set W marks form (form m).has_calls m l wl x → does set.program (own_of set.program m) (instr.Lstore n) to l s heap ≢ Stuck
      → Twins set W marks form m l wl x (does set.program (own_of set.program m) (instr.Lstore n) to l s heap) (does W (own_of W m) (instr.Lstore n) nx wl s heap)
  unfolding does ends_path jump_targets
  twins_lstore m p to nx n l wl s x heap hf hn alike held ok =
      let a = long_there s (λ z r. with_some (slice_get l n) (λ _. Goes to (slice_set l n (value.Long z)) r heap)) ok in
      let ok2 = subst (λ (st : List Value). does set.program (own_of set.program m) (instr.Lstore n) to l st heap ≢ Stuck) a.2 ok in
      let b = slot_there l n (λ _. Goes to (slice_set l n (value.Long a.0)) a.1 heap) ok2 in
      let w0 = slice_get_within l n b.0 b.1 in
      let w1 = length_held m (form m).has_calls l wl x held in
      let c = get_within wl n (omega (arith, w0, w1)) in
      twins_store m p to (instr.Lstore n) l wl a.1 x heap n (value.Long a.0) (does set.program (own_of set.program m) (instr.Lstore n) to l s heap) (does W (own_of W m) (instr.Lstore n) nx wl s heap) hf
      (ap (λ (st : List Value). does set.program (own_of set.program m) (instr.Lstore n) to l st heap) a.2 ∙ ap (λ (o : Option Value). with_some o (λ _. Goes to (slice_set l n (value.Long a.0)) a.1 heap)) b.1)
      (ap (λ (st : List Value). does W (own_of W m) (instr.Lstore n) nx wl st heap) a.2 ∙ ap (λ (o : Option Value). with_some o (λ _. Goes nx (slice_set wl n (value.Long a.0)) a.1 heap)) c.1 ∙ ap (λ (t : ℕ). Goes t (slice_set wl n (value.Long a.0)) a.1 heap) hn)
      (λ k h. same_eq n k h) (inl refl) w0 alike held

  pub twins_istore : (m : MethodId) (p to nx n : ℕ) (l wl s : List Value) (x : Value) (heap : Objects) → fetch set.program m p ≡ Some (instr.Istore n, to) → nx ≡ (form m).at to
      → Alike set W marks form m p l wl → Held set W marks form (form m).has_calls m l wl x → does set.program (own_of set.program m) (instr.Istore n) to l s heap ≢ Stuck
      → Twins set W marks form m l wl x (does set.program (own_of set.program m) (instr.Istore n) to l s heap) (does W (own_of W m) (instr.Istore n) nx wl s heap)
  unfolding does ends_path jump_targets
  twins_istore m p to nx n l wl s x heap hf hn alike held ok =
      let a = int_there s (λ z r. with_some (slice_get l n) (λ _. Goes to (slice_set l n (value.Int z)) r heap)) ok in
      let ok2 = subst (λ (st : List Value). does set.program (own_of set.program m) (instr.Istore n) to l st heap ≢ Stuck) a.2 ok in
      let b = slot_there l n (λ _. Goes to (slice_set l n (value.Int a.0)) a.1 heap) ok2 in
      let w0 = slice_get_within l n b.0 b.1 in
      let w1 = length_held m (form m).has_calls l wl x held in
      let c = get_within wl n (omega (arith, w0, w1)) in
      twins_store m p to (instr.Istore n) l wl a.1 x heap n (value.Int a.0) (does set.program (own_of set.program m) (instr.Istore n) to l s heap) (does W (own_of W m) (instr.Istore n) nx wl s heap) hf
      (ap (λ (st : List Value). does set.program (own_of set.program m) (instr.Istore n) to l st heap) a.2 ∙ ap (λ (o : Option Value). with_some o (λ _. Goes to (slice_set l n (value.Int a.0)) a.1 heap)) b.1)
      (ap (λ (st : List Value). does W (own_of W m) (instr.Istore n) nx wl st heap) a.2 ∙ ap (λ (o : Option Value). with_some o (λ _. Goes nx (slice_set wl n (value.Int a.0)) a.1 heap)) c.1 ∙ ap (λ (t : ℕ). Goes t (slice_set wl n (value.Int a.0)) a.1 heap) hn)
      (λ k h. same_eq n k h) (inl refl) w0 alike held

  reference_there : (s : List Value) (go : Value → List Value → Effect) → on_value s (λ v r. as_reference v (λ z. go z r)) ≢ Stuck → (v : Value) × (r : List Value) × (s ≡ v ∷ r) × IsReference v
  reference_there [] go h = absurd (h refl)
  reference_there (value.Int z ∷ r) go h = absurd (h refl)
  reference_there (value.Long z ∷ r) go h = absurd (h refl)
  reference_there (value.Null ∷ r) go h = (value.Null, r, refl, λ k. refl)
  reference_there (value.Ref n ∷ r) go h = (value.Ref n, r, refl, λ k. refl)
  reference_there (value.Text u ∷ r) go h = (value.Text u, r, refl, λ k. refl)
  reference_there (value.Box u ∷ r) go h = (value.Box u, r, refl, λ k. refl)
  reference_there (value.Fiber ∷ r) go h = (value.Fiber, r, refl, λ k. refl)

  pub twins_astore : (m : MethodId) (p to nx n : ℕ) (l wl s : List Value) (x : Value) (heap : Objects) → fetch set.program m p ≡ Some (instr.Astore n, to) → nx ≡ (form m).at to
      → Alike set W marks form m p l wl → Held set W marks form (form m).has_calls m l wl x → does set.program (own_of set.program m) (instr.Astore n) to l s heap ≢ Stuck
      → Twins set W marks form m l wl x (does set.program (own_of set.program m) (instr.Astore n) to l s heap) (does W (own_of W m) (instr.Astore n) nx wl s heap)
  unfolding does ends_path jump_targets
  twins_astore m p to nx n l wl s x heap hf hn alike held ok =
      let a = reference_there s (λ z r. with_some (slice_get l n) (λ _. Goes to (slice_set l n z) r heap)) ok in
      let e1 : does set.program (own_of set.program m) (instr.Astore n) to l s heap ≡ with_some (slice_get l n) (λ _. Goes to (slice_set l n a.0) a.1 heap) = ap (λ (st : List Value). does set.program (own_of set.program m) (instr.Astore n) to l st heap) a.2 ∙ a.3 (λ z. with_some (slice_get l n) (λ _. Goes to (slice_set l n z) a.1 heap)) in
      let b = slot_there l n (λ _. Goes to (slice_set l n a.0) a.1 heap) (subst (λ (z : Effect). z ≢ Stuck) e1 ok) in
      let w0 = slice_get_within l n b.0 b.1 in
      let w1 = length_held m (form m).has_calls l wl x held in
      let c = get_within wl n (omega (arith, w0, w1)) in
      twins_store m p to (instr.Astore n) l wl a.1 x heap n a.0 (does set.program (own_of set.program m) (instr.Astore n) to l s heap) (does W (own_of W m) (instr.Astore n) nx wl s heap) hf
      (e1 ∙ ap (λ (o : Option Value). with_some o (λ _. Goes to (slice_set l n a.0) a.1 heap)) b.1)
      (ap (λ (st : List Value). does W (own_of W m) (instr.Astore n) nx wl st heap) a.2 ∙ a.3 (λ z. with_some (slice_get wl n) (λ _. Goes nx (slice_set wl n z) a.1 heap)) ∙ ap (λ (o : Option Value). with_some o (λ _. Goes nx (slice_set wl n a.0) a.1 heap)) c.1 ∙ ap (λ (t : ℕ). Goes t (slice_set wl n a.0) a.1 heap) hn)
      (λ k h. same_eq n k h) (inl refl) w0 alike held

  int_in : (v : Value) (go : ℤ → Effect) → as_int v go ≢ Stuck → (z : ℤ) × (v ≡ value.Int z)
  int_in (value.Int z) go h = (z, refl)
  int_in (value.Long z) go h = absurd (h refl)
  int_in value.Null go h = absurd (h refl)
  int_in (value.Ref n) go h = absurd (h refl)
  int_in (value.Text u) go h = absurd (h refl)
  int_in (value.Box u) go h = absurd (h refl)
  int_in value.Fiber go h = absurd (h refl)

  -- `iinc` reads the local that it sets
  pub twins_iinc : (m : MethodId) (p to nx n : ℕ) (by : ℤ) (l wl s : List Value) (x : Value) (heap : Objects) → fetch set.program m p ≡ Some (instr.Iinc n by, to) → nx ≡ (form m).at to
      → Alike set W marks form m p l wl → Held set W marks form (form m).has_calls m l wl x → does set.program (own_of set.program m) (instr.Iinc n by) to l s heap ≢ Stuck
      → Twins set W marks form m l wl x (does set.program (own_of set.program m) (instr.Iinc n by) to l s heap) (does W (own_of W m) (instr.Iinc n by) nx wl s heap)
  unfolding does ends_path jump_targets
  twins_iinc m p to nx n by l wl s x heap hf hn alike held ok =
      let b = slot_there l n (λ v. as_int v (λ z. Goes to (slice_set l n (value.Int (int_wrapping_add w32 z by))) s heap)) ok in
      let e1 : does set.program (own_of set.program m) (instr.Iinc n by) to l s heap ≡ as_int b.0 (λ z. Goes to (slice_set l n (value.Int (int_wrapping_add w32 z by))) s heap) = ap (λ (o : Option Value). with_some o (λ v. as_int v (λ z. Goes to (slice_set l n (value.Int (int_wrapping_add w32 z by))) s heap))) b.1 in
      let a = int_in b.0 (λ z. Goes to (slice_set l n (value.Int (int_wrapping_add w32 z by))) s heap) (subst (λ (z : Effect). z ≢ Stuck) e1 ok) in
      let w0 = slice_get_within l n b.0 b.1 in
      let same = alike n ((facts m).reads_shown p to n (instr.Iinc n by) hf (eq-eqb n n refl)) in
      twins_store m p to (instr.Iinc n by) l wl s x heap n (value.Int (int_wrapping_add w32 a.0 by)) (does set.program (own_of set.program m) (instr.Iinc n by) to l s heap) (does W (own_of W m) (instr.Iinc n by) nx wl s heap) hf
      (e1 ∙ ap (λ (v : Value). as_int v (λ z. Goes to (slice_set l n (value.Int (int_wrapping_add w32 z by))) s heap)) a.1)
      (ap (λ (o : Option Value). with_some o (λ v. as_int v (λ z. Goes nx (slice_set wl n (value.Int (int_wrapping_add w32 z by))) s heap))) (sym same ∙ b.1)
      ∙ ap (λ (v : Value). as_int v (λ z. Goes nx (slice_set wl n (value.Int (int_wrapping_add w32 z by))) s heap)) a.1
      ∙ ap (λ (t : ℕ). Goes t (slice_set wl n (value.Int (int_wrapping_add w32 a.0 by))) s heap) hn)
      (λ k h. same_eq n k h) (inl refl) w0 alike held
