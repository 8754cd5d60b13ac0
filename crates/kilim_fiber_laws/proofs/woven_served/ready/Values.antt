-- What a frame holds fits its types in the woven program, too.
use Rattle.std.proofs.Common.{◌≡◌, cond, ℕ, suc, ◌+◌, Bool, true, false, List, [], ◌∷◌, Option, Some, None, refl, sym, ap, subst, ◌∙◌, arith}
use Rattle.std.specs.Prelude.{◌&&◌, codes, not, slice_get}
use Rattle.std.specs.List.{list_any}
use Rattle.std.proofs.lemmas.Bool.{and_parts, false≢true, not-true, or_parts}
use Rattle.kilim_program.specs.declared.class.Method.{Method}
use Rattle.kilim_program.specs.declared.ty.Ty.{Ty}
use Rattle.kilim_program.specs.declared.value.Value.{Value}
use Rattle.kilim_program.specs.declared.value.Value.TheVariants as value
use Rattle.kilim_program.specs.declared.verified.VType.{VType}
use Rattle.kilim_program.specs.declared.verified.VType.TheVariants.{Top, Int, Long, Null, UninitThis, Uninit, Object}
use Rattle.kilim_program.specs.Fits.{fits_type}
use Rattle.kilim_program.specs.Program.{Program}
use Rattle.kilim_type_sound.specs.Fits.{AreThere, Classes, HeapFits, Holds, IsThere, has_type, have_types, is_of}
use Rattle.kilim_run_state.specs.declared.cause.EndCause.TheVariants as cause
use Rattle.kilim_run_state.specs.declared.value.Object.{Object as HeapObject}
use Rattle.kilim_run_machine.specs.Does.{cast_fits, does}
use Rattle.kilim_run_machine.specs.Effect.{Goes, Raises, with_some}
use Rattle.kilim_program.specs.Members.{named_type}
use Rattle.kilim_run_state.specs.Machine.{Objects}
use Rattle.kilim_type_spec.specs.Step.{assignable, is_top, is_unset, peek}
use Rattle.kilim_weave_spec.specs.Woven.{saved_from}
use Rattle.kilim_fiber_spec.specs.alike.Shares.{Agree}
use Rattle.kilim_fiber_spec.specs.Links.{AllFit, Casts, Fits, IsReference, RefFits, SlotsFit}
use Rattle.kilim_fiber_spec.specs.Rows.{OldHeap, is_old_base}

module _ (P W : Program) (agree : Agree P W) (none : named_type P (codes "kilim/Fiber") ≡ None) (of : Classes) (h : Objects) (heap : HeapFits P of h) (old : OldHeap P h) (own : Method) where
  some_casts : (c ty : Ty) → is_old_base P c.base → fits_type P c ty ≡ true → cast_fits W (Some c) ty ≡ true
  some_casts c ty o e = (agree.casts c ty o).0 ∙ e

  goes : (ty : Ty) (v : Value) (nx : ℕ) (l s : List Value) (class : Option Ty) → cast_fits W class ty ≡ true → cond (cast_fits W class ty) (Goes nx l (v ∷ s) h) (Raises cause.Cast) ≡ Goes nx l (v ∷ s) h
  goes ty v nx l s class e = ap (λ (z : Bool). cond z (Goes nx l (v ∷ s) h) (Raises cause.Cast)) e

  -- a cast of what is of the type goes on
  casts : (ty : Ty) (v : Value) → IsThere h v → has_type P own of (Object ty) v ≡ true → Casts W h ty v
  unfolding does
  casts ty (value.Int x) t e = absurd (false≢true e)
  casts ty (value.Long x) t e = absurd (false≢true e)
  casts ty value.Null t e = λ other nx l s. refl
  casts ty (value.Ref n) t e = λ other nx l s.
      subst (λ (o : Option HeapObject). with_some o (λ object. cond (cast_fits W (Some object.class) ty) (Goes nx l (value.Ref n ∷ s) h) (Raises cause.Cast)) ≡ Goes nx l (value.Ref n ∷ s) h) (sym t.1)
      (goes ty (value.Ref n) nx l s (Some t.0.class) (some_casts t.0.class ty (old n t.0 t.1) (subst (λ (o : Option Ty). is_of P o ty ≡ true) (heap.classes n t.0 t.1) e)))
  casts ty (value.Text units) t e = by (named_type P (codes "java/lang/String")) refl e
    where
      by : (o : Option Ty) → named_type P (codes "java/lang/String") ≡ o → is_of P o ty ≡ true → Casts W h ty (value.Text units)
      by None at e = absurd (false≢true e)
      by (Some c) at e = λ other nx l s. goes ty (value.Text units) nx l s (named_type W (codes "java/lang/String")) (ap (λ (o : Option Ty). cast_fits W o ty) (agree.same_text ∙ at) ∙ some_casts c ty (agree.text c at) e)
  casts ty (value.Box box) t e = by (named_type P (codes "kilim/Mailbox")) refl e
    where
      by : (o : Option Ty) → named_type P (codes "kilim/Mailbox") ≡ o → is_of P o ty ≡ true → Casts W h ty (value.Box box)
      by None at e = absurd (false≢true e)
      by (Some c) at e = λ other nx l s. goes ty (value.Box box) nx l s (named_type W (codes "kilim/Mailbox")) (ap (λ (o : Option Ty). cast_fits W o ty) (agree.same_box ∙ at) ∙ some_casts c ty (agree.box c at) e)
  casts ty value.Fiber t e = absurd (false≢true (sym (ap (λ (o : Option Ty). is_of P o ty) none) ∙ e))

  references : (ty : Ty) (v : Value) → has_type P own of (Object ty) v ≡ true → IsReference v
  references ty (value.Int x) e = absurd (false≢true e)
  references ty (value.Long x) e = absurd (false≢true e)
  references ty value.Null e = λ go. refl
  references ty (value.Ref n) e = λ go. refl
  references ty (value.Text units) e = λ go. refl
  references ty (value.Box box) e = λ go. refl
  references ty value.Fiber e = λ go. refl

  top_never : (v : Value) → has_type P own of Top v ≡ true → ⊥
  top_never (value.Int x) e = false≢true e
  top_never (value.Long x) e = false≢true e
  top_never value.Null e = false≢true e
  top_never (value.Ref n) e = false≢true e
  top_never (value.Text units) e = false≢true e
  top_never (value.Box box) e = false≢true e
  top_never value.Fiber e = false≢true e

  int_now : (v : Value) → has_type P own of Int v ≡ true → Fits W h Int v
  int_now (value.Int x) e = (x, refl)
  int_now (value.Long x) e = absurd (false≢true e)
  int_now value.Null e = absurd (false≢true e)
  int_now (value.Ref n) e = absurd (false≢true e)
  int_now (value.Text units) e = absurd (false≢true e)
  int_now (value.Box box) e = absurd (false≢true e)
  int_now value.Fiber e = absurd (false≢true e)

  long_now : (v : Value) → has_type P own of Long v ≡ true → Fits W h Long v
  long_now (value.Int x) e = absurd (false≢true e)
  long_now (value.Long x) e = (x, refl)
  long_now value.Null e = absurd (false≢true e)
  long_now (value.Ref n) e = absurd (false≢true e)
  long_now (value.Text units) e = absurd (false≢true e)
  long_now (value.Box box) e = absurd (false≢true e)
  long_now value.Fiber e = absurd (false≢true e)

  null_now : (v : Value) → has_type P own of Null v ≡ true → v ≡ value.Null
  null_now (value.Int x) e = absurd (false≢true e)
  null_now (value.Long x) e = absurd (false≢true e)
  null_now value.Null e = refl
  null_now (value.Ref n) e = absurd (false≢true e)
  null_now (value.Text units) e = absurd (false≢true e)
  null_now (value.Box box) e = absurd (false≢true e)
  null_now value.Fiber e = absurd (false≢true e)

  pub fits_now : (t : VType) (v : Value) → has_type P own of t v ≡ true → is_unset t ≡ false → IsThere h v → Fits W h t v
  fits_now Top v e u t = absurd (top_never v e)
  fits_now Int v e u t = int_now v e
  fits_now Long v e u t = long_now v e
  fits_now Null v e u t = null_now v e
  fits_now (Object ty) v e u t = (references ty v e, casts ty v t e)
  fits_now UninitThis v e u t = absurd (false≢true (sym u))
  fits_now (Uninit at) v e u t = absurd (false≢true (sym u))

  -- a receiver
  pub ref_fits : (t : VType) (ty : Ty) → assignable P t (Object ty) ≡ true → (v : Value) → has_type P own of t v ≡ true → IsThere h v → RefFits W h t v
  ref_fits Null ty a v e t = null_now v e
  ref_fits (Object c) ty a v e t = (references c v e, casts c v t e)
  ref_fits Top ty a v e t = absurd (false≢true a)
  ref_fits Int ty a v e t = absurd (false≢true a)
  ref_fits Long ty a v e t = absurd (false≢true a)
  ref_fits UninitThis ty a v e t = absurd (false≢true a)
  ref_fits (Uninit at) ty a v e t = absurd (false≢true a)

  -- a stack, where nothing is unset
  pub all_fit : (ts : List VType) (vs : List Value) → have_types P own of ts vs ≡ true → list_any is_unset ts ≡ false → AreThere h vs → AllFit W h ts vs
  all_fit [] [] e u t = tt
  all_fit [] (v ∷ vs) e u t = absurd (false≢true e)
  all_fit (x ∷ ts) [] e u t = absurd (false≢true e)
  all_fit (x ∷ ts) (v ∷ vs) e u t =
      let es = and_parts (has_type P own of x v) (have_types P own of ts vs) e in
      let us = or_parts (is_unset x) (list_any is_unset ts) u in
      (fits_now x v es.0 us.0 t.0, all_fit ts vs es.1 us.1 t.1)

  -- the locals that are live behind a call, by their types at the call
  held_now : (t : VType) (o : Option Value) → is_top t ≡ false → is_unset t ≡ false → Holds P own of t o → ((v : Value) → o ≡ Some v → IsThere h v) → (v : Value) × (o ≡ Some v) × Fits W h t v
  held_now Top o top u e there = absurd (false≢true (sym top))
  held_now Int None top u e there = absurd e
  held_now Long None top u e there = absurd e
  held_now Null None top u e there = absurd e
  held_now UninitThis None top u e there = absurd e
  held_now (Uninit at) None top u e there = absurd e
  held_now (Object ty) None top u e there = absurd e
  held_now Int (Some v) top u e there = (v, refl, fits_now Int v e u (there v refl))
  held_now Long (Some v) top u e there = (v, refl, fits_now Long v e u (there v refl))
  held_now Null (Some v) top u e there = (v, refl, fits_now Null v e u (there v refl))
  held_now UninitThis (Some v) top u e there = (v, refl, fits_now UninitThis v e u (there v refl))
  held_now (Uninit at) (Some v) top u e there = (v, refl, fits_now (Uninit at) v e u (there v refl))
  held_now (Object ty) (Some v) top u e there = (v, refl, fits_now (Object ty) v e u (there v refl))

  one_slot : (live : ℕ → Bool) (l : List Value) (k : ℕ) (t : VType) (ts : List VType) → is_unset t ≡ false → Holds P own of t (slice_get l k) → (live k ≡ true → (v : Value) → slice_get l k ≡ Some v → IsThere h v) → SlotsFit W h (saved_from live (suc k) ts) l → SlotsFit W h (saved_from live k (t ∷ ts)) l
  one_slot live l k t ts u here there rest = by (live k && not (is_top t)) refl
    where
      by : (z : Bool) → live k && not (is_top t) ≡ z → SlotsFit W h (cond z ((k, t) ∷ saved_from live (suc k) ts) (saved_from live (suc k) ts)) l
      by true e = let es = and_parts (live k) (not (is_top t)) e in (held_now t (slice_get l k) (not-true (is_top t) es.1) u here (there es.0), rest)
      by false e = rest

  slots_from : (live : ℕ → Bool) (l : List Value) (k : ℕ) (ts : List VType) → list_any is_unset ts ≡ false → ((j : ℕ) → Holds P own of (peek ts j) (slice_get l (k + j))) → ((j : ℕ) → live j ≡ true → (v : Value) → slice_get l j ≡ Some v → IsThere h v) → SlotsFit W h (saved_from live k ts) l
  slots_from live l k [] u holds there = tt
  slots_from live l k (t ∷ ts) u holds there =
      let us = or_parts (is_unset t) (list_any is_unset ts) u in
      let e : k + 0 ≡ k = omega arith in
      one_slot live l k t ts us.0 (subst (λ (i : ℕ). Holds P own of t (slice_get l i)) e (holds 0)) (there k)
      (slots_from live l (suc k) ts us.1 (λ j. let d : k + suc j ≡ suc k + j = omega arith in subst (λ (i : ℕ). Holds P own of (peek ts j) (slice_get l i)) d (holds (suc j))) there)

  pub slots_fit : (live : ℕ → Bool) (l : List Value) (ts : List VType) → list_any is_unset ts ≡ false → ((j : ℕ) → Holds P own of (peek ts j) (slice_get l j)) → ((j : ℕ) → live j ≡ true → (v : Value) → slice_get l j ≡ Some v → IsThere h v) → SlotsFit W h (saved_from live 0 ts) l
  slots_fit live l ts u holds there = slots_from live l 0 ts u (λ j. let e : j ≡ 0 + j = omega arith in subst (λ (i : ℕ). Holds P own of (peek ts j) (slice_get l i)) e (holds j)) there
