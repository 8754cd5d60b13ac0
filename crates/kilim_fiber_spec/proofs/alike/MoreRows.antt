-- Old instructions that set no local, by what they do: loads, and those that ask the program.
use Rattle.std.proofs.Common.{◌≡◌, ◌≢◌, ◌⊎◌, inl, inr, ℕ, zero, suc, Bool, true, false, ℤ, pos, negsuc, List, [], ◌∷◌, length, Option, Some, None, refl, sym, ap, subst, ◌∙◌}
use Rattle.std.specs.Prelude.{slice_get, if◌then◌else◌}
use Rattle.std.proofs.lemmas.Bool.{false≢true}
use Rattle.std.specs.FinMap.{insert}
use Rattle.kilim_run_state.specs.declared.cause.EndCause.TheVariants as cause
use Rattle.kilim_program.specs.declared.class.Method.{Method}
use Rattle.kilim_program.specs.declared.instr.Instr.{Instr}
use Rattle.kilim_program.specs.declared.instr.Instr.TheVariants as instr
use Rattle.kilim_program.specs.declared.names.MethodId.{MethodId}
use Rattle.kilim_program.specs.declared.ty.Base.{Base}
use Rattle.kilim_program.specs.declared.ty.Base.TheVariants as base
use Rattle.kilim_program.specs.declared.ty.Ty.{Ty}
use Rattle.kilim_run_state.specs.declared.value.Object.{Object}
use Rattle.kilim_program.specs.declared.value.Value.{Value}
use Rattle.kilim_program.specs.declared.value.Value.TheVariants as value
use Rattle.kilim_program.specs.Program.{Program}
use Rattle.kilim_run_state.specs.Machine.{Objects}
use Rattle.kilim_program.specs.Names.{method_at}
use Rattle.kilim_run_machine.specs.Natives.{Native, native_of}
use Rattle.kilim_run_machine.specs.Effect.{Effect, Goes, Calls, Asks, Returns, Raises, Throws, Stuck}
use Rattle.kilim_run_machine.specs.Does.{does, throws_object}
use Rattle.kilim_run_machine.specs.Raising.{word_in, words}
use Rattle.kilim_run_model.specs.State.{Setting}
use Rattle.kilim_weave_spec.specs.Woven.{moved_instr}
use Rattle.kilim_fiber_spec.specs.alike.Shares.{Agree, PlainCallee}
use Rattle.kilim_fiber_spec.specs.Thread.{fetch, calls, own_of}
use Rattle.kilim_fiber_spec.specs.Fibers.{member_of}
use Rattle.kilim_fiber_spec.specs.Form.{Facts, is_pausable}
use Rattle.kilim_fiber_spec.specs.Rows.{elsewhere, OldHeap}
use Rattle.kilim_fiber_spec.specs.Serves.{Twins, is_pausing_native}
use Rattle.kilim_fiber_spec.specs.Links.{Forms, code, shows, Alike, Held}
use Rattle.std.specs.Prelude.{codes, reverse}
use Rattle.std.specs.FinMap.{get}
use Rattle.kilim_program.specs.declared.class.Field.{Field}
use Rattle.kilim_program.specs.declared.names.FieldId.{FieldId}
use Rattle.kilim_run_machine.specs.Effect.{with_some, on_constant, text_of, when, on_value, as_int, as_receiver, as_object, as_class, at_place, at_index, on_values}
use Rattle.kilim_program.specs.Members.{named_type}
use Rattle.kilim_run_machine.specs.Does.{calls_on, calls_method, chosen, special, calls_text, text_answers, unit_at, at_unit, takes_element, keeps_message, gives_message, cast_fits, is_instance, narrowed_to, narrowed_result, with_field, with_element, bit, element_type}
use Rattle.kilim_run_machine.specs.Natives.{is_built_in_constructor, is_text_method, is_handed_out, is_message_constructor, is_get_message}
use Rattle.kilim_run_state.specs.Shapes.{field_in}
use Rattle.kilim_program.specs.BuiltIn.{message_field}
use Rattle.std.specs.Str.{bytes_eq}
use Rattle.kilim_program.specs.Lengths.{ends_path}
use Rattle.kilim_fiber_spec.specs.Rows.{Clean, IsClean, below_arguments, class_if, is_old_base, value_class}
use Rattle.kilim_fiber_spec.specs.Form.{sets}
use Rattle.kilim_fiber_spec.proofs.alike.Effects.{e_constant, e_value, e_int, e_some, e_if, e_object}
use Rattle.kilim_fiber_spec.proofs.alike.Lands.{hushed, lands}
use Rattle.kilim_fiber_spec.proofs.alike.TwinRows.{next_is}

no_calls : (e : Effect) (c : MethodId) (args : List Value) (q : ℕ) (l s : List Value) (heap : Objects) → hushed e ≡ e → e ≡ Calls c args q l s heap → ⊥
no_calls e c args q l s heap h g = let z : Stuck ≡ Calls c args q l s heap = ap hushed (sym g) ∙ h ∙ g in absurd (cc)

no_natives : (e : Effect) (c : MethodId) (args : List Value) (q : ℕ) (l s : List Value) (heap : Objects) → hushed e ≡ e → e ≡ Asks c args q l s heap → ⊥
no_natives e c args q l s heap h g = let z : Stuck ≡ Asks c args q l s heap = ap hushed (sym g) ∙ h ∙ g in absurd (cc)

module _ (set : Setting) (W : Program) (marks : List (List Bool)) (form : Forms set W marks) (facts : (m : MethodId) → Facts set.program W (code set W marks) (form m)) where
  -- an instruction that sets no local and does the same wherever its targets are, and in both programs
  pub twins_of : (m : MethodId) (p to nx : ℕ) (i : Instr) (l wl s : List Value) (x : Value) (heap : Objects) → fetch set.program m p ≡ Some (i, to) → (ends_path i ≡ false → nx ≡ (form m).at to)
      → ((k : ℕ) → sets i k ≡ false)
      → ((c : MethodId) (args : List Value) (q : ℕ) (l2 s2 : List Value) (h2 : Objects) → does set.program (own_of set.program m) i to l s heap ≡ Calls c args q l2 s2 h2 → is_pausable set.program c ≡ false)
      → ((c : MethodId) (args : List Value) (q : ℕ) (l2 s2 : List Value) (h2 : Objects) → does set.program (own_of set.program m) i to l s heap ≡ Asks c args q l2 s2 h2 → (member_of W c ≡ None) × ((n : Native) → native_of set.program c ≡ Some n → is_pausing_native n ≡ false))
      → ((at : ℕ → ℕ) → does set.program (own_of set.program m) (moved_instr at i) (at to) l s heap ≡ elsewhere at l (does set.program (own_of set.program m) i to l s heap))
      → does W (own_of W m) (moved_instr (form m).at i) ((form m).at to) wl s heap ≡ elsewhere (form m).at wl (does set.program (own_of set.program m) i to l s heap)
      → Alike set W marks form m p l wl → Held set W marks form (form m).has_calls m l wl x
      → Twins set W marks form m l wl x (does set.program (own_of set.program m) i to l s heap) (does W (own_of W m) (moved_instr (form m).at i) nx wl s heap)
  twins_of m p to nx i l wl s x heap hf hn none calls natives own other alike held =
      record {
        locals = wl;
        same = next_is W (own_of W m) (form m).at i to nx wl s heap hn ∙ other;
        alike = λ q l2 g k z.
            let a = lands set.program (own_of set.program m) l to s heap i own q l2 g in
            ap (λ (ls : List Value). slice_get ls k) a.1 ∙ alike k (stays k ((facts m).flows p to q k i hf a.0 z));
        held = λ q l2 g.
            let a = lands set.program (own_of set.program m) l to s heap i own q l2 g in
            subst (λ (ls : List Value). Held set W marks form (form m).has_calls m ls wl x) (sym a.1) held;
        calls = calls;
        natives = natives;
      }
    where
      stays : (k : ℕ) → (shows set W marks form m p k ≡ true) ⊎ (sets i k ≡ true) → shows set W marks form m p k ≡ true
      stays k (inl h) = h
      stays k (inr h) = absurd (false≢true (sym (none k) ∙ h))

  -- and that calls nothing
  pub twins_by : (m : MethodId) (p to nx : ℕ) (i : Instr) (l wl s : List Value) (x : Value) (heap : Objects) → fetch set.program m p ≡ Some (i, to) → (ends_path i ≡ false → nx ≡ (form m).at to)
      → ((k : ℕ) → sets i k ≡ false) → hushed (does set.program (own_of set.program m) i to l s heap) ≡ does set.program (own_of set.program m) i to l s heap
      → ((at : ℕ → ℕ) → does set.program (own_of set.program m) (moved_instr at i) (at to) l s heap ≡ elsewhere at l (does set.program (own_of set.program m) i to l s heap))
      → does W (own_of W m) (moved_instr (form m).at i) ((form m).at to) wl s heap ≡ elsewhere (form m).at wl (does set.program (own_of set.program m) i to l s heap)
      → Alike set W marks form m p l wl → Held set W marks form (form m).has_calls m l wl x
      → Twins set W marks form m l wl x (does set.program (own_of set.program m) i to l s heap) (does W (own_of W m) (moved_instr (form m).at i) nx wl s heap)
  twins_by m p to nx i l wl s x heap hf hn none hush own other alike held =
      twins_of m p to nx i l wl s x heap hf hn none
      (λ c args q l2 s2 h2 g. absurd (no_calls (does set.program (own_of set.program m) i to l s heap) c args q l2 s2 h2 hush g))
      (λ c args q l2 s2 h2 g. absurd (no_natives (does set.program (own_of set.program m) i to l s heap) c args q l2 s2 h2 hush g))
      own other alike held

module _ (P Q : Program) (mine its : Method) (agree : Agree P Q) (at : ℕ → ℕ) (wl : List Value) (heap : Objects) (old : OldHeap P heap) where
  -- the class of a value that isn't the fiber
  e_class_at : (v : Value) (go ho : Option Ty → Effect) → (v ≢ value.Fiber) → ho None ≡ elsewhere at wl (go None)
      → ((c : Ty) → is_old_base P c.base → value_class P v heap ≡ Some c → ho (Some c) ≡ elsewhere at wl (go (Some c))) → as_class Q v heap ho ≡ elsewhere at wl (as_class P v heap go)
  e_class_at (value.Int x) go ho ne n h = refl
  e_class_at (value.Long x) go ho ne n h = refl
  e_class_at value.Null go ho ne n h = n
  e_class_at (value.Ref k) go ho ne n h = by (get heap k) refl
    where
      by : (o : Option Object) → get heap k ≡ o → with_some o (λ object. ho (Some object.class)) ≡ elsewhere at wl (with_some o (λ object. go (Some object.class)))
      by None e = refl
      by (Some object) e = h object.class (old k object e) (ap class_if e)
  e_class_at (value.Text u) go ho ne n h = ap ho agree.same_text ∙ by (named_type P (codes "java/lang/String")) refl
    where
      by : (o : Option Ty) → named_type P (codes "java/lang/String") ≡ o → ho o ≡ elsewhere at wl (go o)
      by None e = n
      by (Some ty) e = h ty (agree.text ty e) e
  e_class_at (value.Box u) go ho ne n h = ap ho agree.same_box ∙ by (named_type P (codes "kilim/Mailbox")) refl
    where
      by : (o : Option Ty) → named_type P (codes "kilim/Mailbox") ≡ o → ho o ≡ elsewhere at wl (go o)
      by None e = n
      by (Some ty) e = h ty (agree.box ty e) e
  e_class_at value.Fiber go ho ne n h = absurd (ne refl)

  e_class : (v : Value) (go ho : Option Ty → Effect) → (v ≢ value.Fiber) → ho None ≡ elsewhere at wl (go None) → ((c : Ty) → is_old_base P c.base → ho (Some c) ≡ elsewhere at wl (go (Some c))) → as_class Q v heap ho ≡ elsewhere at wl (as_class P v heap go)
  e_class v go ho ne n h = e_class_at v go ho ne n (λ c is_old e. h c is_old)

  pub same_cast : (ty : Ty) (to : ℕ) (l s : List Value) → Clean s → does Q its (instr.Checkcast ty) (at to) wl s heap ≡ elsewhere at wl (does P mine (instr.Checkcast ty) to l s heap)
  unfolding does
  same_cast ty to l [] c = refl
  same_cast ty to l (v ∷ r) c =
      e_class v (λ class. if cast_fits P class ty then Goes to l (v ∷ r) heap else Raises cause.Cast) (λ class. if cast_fits Q class ty then Goes (at to) wl (v ∷ r) heap else Raises cause.Cast) c.0 refl
      (λ k is_old. ap (λ (b : Bool). if b then Goes (at to) wl (v ∷ r) heap else Raises cause.Cast) (agree.casts k ty is_old).0 ∙ sym (e_if at wl (cast_fits P (Some k) ty) (Goes to l (v ∷ r) heap) (Raises cause.Cast)))

  pub same_instance : (ty : Ty) (to : ℕ) (l s : List Value) → Clean s → does Q its (instr.Instanceof ty) (at to) wl s heap ≡ elsewhere at wl (does P mine (instr.Instanceof ty) to l s heap)
  unfolding does
  same_instance ty to l [] c = refl
  same_instance ty to l (v ∷ r) c =
      e_class v (λ class. Goes to l (value.Int (bit (is_instance P class ty)) ∷ r) heap) (λ class. Goes (at to) wl (value.Int (bit (is_instance Q class ty)) ∷ r) heap) c.0 refl
      (λ k is_old. ap (λ (b : Bool). Goes (at to) wl (value.Int (bit b) ∷ r) heap) (agree.casts k ty is_old).1)

  pub same_put : (f : FieldId) (to : ℕ) (l s : List Value) → does Q its (instr.Putfield f) (at to) wl s heap ≡ elsewhere at wl (does P mine (instr.Putfield f) to l s heap)
  unfolding does
  same_put f to l s = let e = agree.fields f in
      ap (λ (o : Option Field). on_value s (λ v below. on_value below (λ u rest. as_object u heap (λ n object. with_some o (λ field. with_some (field_in object.fields f) (λ was. Goes (at to) wl rest (insert heap n (record object { fields = with_field object.fields f (narrowed_to field.ty v) })))))))) e
      ∙ simp (e_value, e_object, e_some)

  pub same_static_field : (f : FieldId) (to : ℕ) (l s : List Value) → does Q its (instr.Getstatic f) (at to) wl s heap ≡ elsewhere at wl (does P mine (instr.Getstatic f) to l s heap)
  unfolding does
  same_static_field f to l s = let e = agree.fields f in
      ap (λ (o : Option Field). with_some o (λ field. with_some field.constant (λ v. on_constant v (λ c. Goes (at to) wl (c ∷ s) heap)))) e
      ∙ simp (e_some, e_constant)

  same_thrown : (n dims : ℕ) (b : Base) → is_old_base P b → throws_object Q n dims b ≡ elsewhere at wl (throws_object P n dims b)
  same_thrown n zero (base.Class c) is_old = ap (λ (name : List ℕ). Throws n c (word_in words name)) (agree.names c is_old)
  same_thrown n zero b is_old = refl
  same_thrown n (suc d) b is_old = refl

  pub same_throw : (to : ℕ) (l s : List Value) → does Q its instr.Athrow (at to) wl s heap ≡ elsewhere at wl (does P mine instr.Athrow to l s heap)
  unfolding does
  same_throw to l [] = refl
  same_throw to l (value.Ref n ∷ r) = by (get heap n) refl
    where
      by : (o : Option Object) → get heap n ≡ o → with_some o (λ object. throws_object Q n object.class.dims object.class.base) ≡ elsewhere at wl (with_some o (λ object. throws_object P n object.class.dims object.class.base))
      by None e = refl
      by (Some object) e = same_thrown n object.class.dims object.class.base (old n object e)
  same_throw to l (v ∷ r) = refl

  pub same_ireturn : (to : ℕ) (l s : List Value) → its.result ≡ mine.result → does Q its instr.Ireturn (at to) wl s heap ≡ elsewhere at wl (does P mine instr.Ireturn to l s heap)
  unfolding does
  same_ireturn to l s e =
      ap (λ (r : Option Ty). on_value s (λ v rest. as_int v (λ x. Returns (Some (narrowed_result r (value.Int x))) heap))) e
      ∙ simp (e_value, e_int)

  -- word by word
  abbrev Eq : Effect → Effect → Type 0
  Eq d e = d ≡ elsewhere at wl e

  c_value : (s : List Value) (go ho : Value → List Value → Effect) → Clean s → ((v : Value) (r : List Value) → (v ≢ value.Fiber) → Clean r → Eq (ho v r) (go v r)) → Eq (on_value s ho) (on_value s go)
  c_value [] go ho c h = refl
  c_value (v ∷ r) go ho c h = h v r c.0 c.1

  c_values : (n : ℕ) (s : List Value) (go ho : List Value → List Value → Effect) → Clean s → ((vs r : List Value) → Clean r → Eq (ho vs r) (go vs r)) → Eq (on_values n s ho) (on_values n s go)
  c_values zero s go ho c h = h [] s c
  c_values (suc n) [] go ho c h = refl
  c_values (suc n) (v ∷ r) go ho c h = c_values n r (λ vs q. go (v ∷ vs) q) (λ vs q. ho (v ∷ vs) q) c.1 (λ vs q z. h (v ∷ vs) q z)

  -- with what stands below the arguments
  c_values_at : (n : ℕ) (s : List Value) (go ho : List Value → List Value → Effect) → Clean s → ((vs r : List Value) → below_arguments n s ≡ r → Clean r → Eq (ho vs r) (go vs r)) → Eq (on_values n s ho) (on_values n s go)
  c_values_at zero s go ho c h = h [] s refl c
  c_values_at (suc n) [] go ho c h = refl
  c_values_at (suc n) (v ∷ r) go ho c h = c_values_at n r (λ vs q. go (v ∷ vs) q) (λ vs q. ho (v ∷ vs) q) c.1 (λ vs q e z. h (v ∷ vs) q e z)

  c_value_at : (s : List Value) (go ho : Value → List Value → Effect) → Clean s → ((v : Value) (r : List Value) → s ≡ v ∷ r → (v ≢ value.Fiber) → Clean r → Eq (ho v r) (go v r)) → Eq (on_value s ho) (on_value s go)
  c_value_at [] go ho c h = refl
  c_value_at (v ∷ r) go ho c h = h v r refl c.0 c.1

  c_int : (v : Value) (go ho : ℤ → Effect) → ((z : ℤ) → Eq (ho z) (go z)) → Eq (as_int v ho) (as_int v go)
  c_int (value.Int z) go ho h = h z
  c_int v go ho h = refl

  c_object : (v : Value) (go ho : ℕ → Object → Effect) → ((n : ℕ) (o : Object) → Eq (ho n o) (go n o)) → Eq (as_object v heap ho) (as_object v heap go)
  c_object (value.Ref n) go ho h = by (get heap n)
    where
      by : (o : Option Object) → with_some o (λ object. ho n object) ≡ elsewhere at wl (with_some o (λ object. go n object))
      by None = refl
      by (Some object) = h n object
  c_object v go ho h = refl

  c_index : (vs : List Value) (i : ℤ) (go ho : ℕ → Value → Effect) → ((k : ℕ) (v : Value) → Eq (ho k v) (go k v)) → Eq (at_index vs i ho) (at_index vs i go)
  c_index vs (negsuc i) go ho h = refl
  c_index vs (pos i) go ho h = by (slice_get vs i)
    where
      by : (o : Option Value) → at_place o (ho i) ≡ elsewhere at wl (at_place o (go i))
      by None = refl
      by (Some v) = h i v

  c_receiver : (v : Value) (go ho : Value → Effect) → ((u : Value) → Eq (ho u) (go u)) → Eq (as_receiver v ho) (as_receiver v go)
  c_receiver (value.Int x) go ho h = refl
  c_receiver (value.Long x) go ho h = refl
  c_receiver value.Null go ho h = refl
  c_receiver (value.Ref n) go ho h = h (value.Ref n)
  c_receiver (value.Text u) go ho h = h (value.Text u)
  c_receiver (value.Box u) go ho h = h (value.Box u)
  c_receiver value.Fiber go ho h = h value.Fiber

  pub same_aastore : (to : ℕ) (l s : List Value) → Clean s → does Q its instr.Aastore (at to) wl s heap ≡ elsewhere at wl (does P mine instr.Aastore to l s heap)
  unfolding does
  same_aastore to l s c =
      c_value s (λ v above. on_value above (λ w below. as_int w (λ i. on_value below (λ u rest. as_object u heap (λ n object. at_index object.elements i (λ k old. as_class P v heap (λ class. if cast_fits P class (element_type object.class) then Goes to l rest (insert heap n (with_element object k v)) else Raises cause.Store)))))))
      (λ v above. on_value above (λ w below. as_int w (λ i. on_value below (λ u rest. as_object u heap (λ n object. at_index object.elements i (λ k old. as_class Q v heap (λ class. if cast_fits Q class (element_type object.class) then Goes (at to) wl rest (insert heap n (with_element object k v)) else Raises cause.Store))))))) c
      (λ v above ne c1. c_value above (λ w below. as_int w (λ i. on_value below (λ u rest. as_object u heap (λ n object. at_index object.elements i (λ k old. as_class P v heap (λ class. if cast_fits P class (element_type object.class) then Goes to l rest (insert heap n (with_element object k v)) else Raises cause.Store))))))
      (λ w below. as_int w (λ i. on_value below (λ u rest. as_object u heap (λ n object. at_index object.elements i (λ k old. as_class Q v heap (λ class. if cast_fits Q class (element_type object.class) then Goes (at to) wl rest (insert heap n (with_element object k v)) else Raises cause.Store)))))) c1
      (λ w below ne2 c2. c_int w (λ i. on_value below (λ u rest. as_object u heap (λ n object. at_index object.elements i (λ k old. as_class P v heap (λ class. if cast_fits P class (element_type object.class) then Goes to l rest (insert heap n (with_element object k v)) else Raises cause.Store)))))
      (λ i. on_value below (λ u rest. as_object u heap (λ n object. at_index object.elements i (λ k old. as_class Q v heap (λ class. if cast_fits Q class (element_type object.class) then Goes (at to) wl rest (insert heap n (with_element object k v)) else Raises cause.Store)))))
      (λ i. c_value below (λ u rest. as_object u heap (λ n object. at_index object.elements i (λ k old. as_class P v heap (λ class. if cast_fits P class (element_type object.class) then Goes to l rest (insert heap n (with_element object k v)) else Raises cause.Store))))
      (λ u rest. as_object u heap (λ n object. at_index object.elements i (λ k old. as_class Q v heap (λ class. if cast_fits Q class (element_type object.class) then Goes (at to) wl rest (insert heap n (with_element object k v)) else Raises cause.Store)))) c2
      (λ u rest ne3 c3. c_object u (λ n object. at_index object.elements i (λ k old. as_class P v heap (λ class. if cast_fits P class (element_type object.class) then Goes to l rest (insert heap n (with_element object k v)) else Raises cause.Store)))
      (λ n object. at_index object.elements i (λ k old. as_class Q v heap (λ class. if cast_fits Q class (element_type object.class) then Goes (at to) wl rest (insert heap n (with_element object k v)) else Raises cause.Store)))
      (λ n object. c_index object.elements i (λ k old. as_class P v heap (λ class. if cast_fits P class (element_type object.class) then Goes to l rest (insert heap n (with_element object k v)) else Raises cause.Store))
      (λ k old. as_class Q v heap (λ class. if cast_fits Q class (element_type object.class) then Goes (at to) wl rest (insert heap n (with_element object k v)) else Raises cause.Store))
      (λ k was. e_class v (λ class. if cast_fits P class (element_type object.class) then Goes to l rest (insert heap n (with_element object k v)) else Raises cause.Store)
      (λ class. if cast_fits Q class (element_type object.class) then Goes (at to) wl rest (insert heap n (with_element object k v)) else Raises cause.Store) ne refl
      (λ t is_old. ap (λ (b : Bool). if b then Goes (at to) wl rest (insert heap n (with_element object k v)) else Raises cause.Store) (agree.casts t (element_type object.class) is_old).0
      ∙ sym (e_if at wl (cast_fits P (Some t) (element_type object.class)) (Goes to l rest (insert heap n (with_element object k v))) (Raises cause.Store)))))))))

  -- ---- calls of methods that aren't pausable

  c_if : (b : Bool) (d1 d2 e1 e2 : Effect) → Eq d1 e1 → Eq d2 e2 → Eq (if b then d1 else d2) (if b then e1 else e2)
  c_if true d1 d2 e1 e2 h k = h
  c_if false d1 d2 e1 e2 h k = k

  keeps_same : (args : List Value) (to : ℕ) (l rest : List Value) → Eq (keeps_message args (at to) wl rest heap) (keeps_message args to l rest heap)
  keeps_same (v ∷ w ∷ []) to l rest =
      c_object v (λ n object. with_some (field_in object.fields message_field) (λ old. Goes to l rest (insert heap n (record object { fields = with_field object.fields message_field w }))))
      (λ n object. with_some (field_in object.fields message_field) (λ old. Goes (at to) wl rest (insert heap n (record object { fields = with_field object.fields message_field w }))))
      (λ n object. by n object (field_in object.fields message_field))
    where
      by : (n : ℕ) (object : Object) (o : Option Value) → Eq (with_some o (λ old. Goes (at to) wl rest (insert heap n (record object { fields = with_field object.fields message_field w })))) (with_some o (λ old. Goes to l rest (insert heap n (record object { fields = with_field object.fields message_field w }))))
      by n object None = refl
      by n object (Some was) = refl
  keeps_same [] to l rest = refl
  keeps_same (v ∷ []) to l rest = refl
  keeps_same (v ∷ w ∷ x ∷ vs) to l rest = refl

  gives_same : (args : List Value) (to : ℕ) (l rest : List Value) → Eq (gives_message args (at to) wl rest heap) (gives_message args to l rest heap)
  gives_same (v ∷ []) to l rest =
      c_object v (λ n object. with_some (field_in object.fields message_field) (λ w. Goes to l (w ∷ rest) heap)) (λ n object. with_some (field_in object.fields message_field) (λ w. Goes (at to) wl (w ∷ rest) heap))
      (λ n object. by (field_in object.fields message_field))
    where
      by : (o : Option Value) → Eq (with_some o (λ w. Goes (at to) wl (w ∷ rest) heap)) (with_some o (λ w. Goes to l (w ∷ rest) heap))
      by None = refl
      by (Some w) = refl
  gives_same [] to l rest = refl
  gives_same (v ∷ w ∷ vs) to l rest = refl

  -- of a method that is built in or not, and of the message or not
  abbrev by_kind : (built_in keeps gives : Bool) → MethodId → List Value → ℕ → List Value → List Value → Effect
  by_kind built_in keeps gives k args to l rest =
      if built_in then (if keeps then keeps_message args to l rest heap else (if gives then gives_message args to l rest heap else Asks k args to l rest heap)) else Calls k args to l rest heap

  kind_same : (built_in keeps gives : Bool) (k : MethodId) (args : List Value) (to : ℕ) (l rest : List Value) → Eq (by_kind built_in keeps gives k args (at to) wl rest) (by_kind built_in keeps gives k args to l rest)
  kind_same true true gives k args to l rest = keeps_same args to l rest
  kind_same true false true k args to l rest = gives_same args to l rest
  kind_same true false false k args to l rest = refl
  kind_same false keeps gives k args to l rest = refl

  -- the call of a method of P
  calls_same : (i : Instr) (id : MethodId) (a : Method) → PlainCallee P Q mine its i id a → (k : MethodId) (b : Method) → method_at P k ≡ Some b → (args : List Value) (to : ℕ) (l rest : List Value)
      → calls_method (method_at Q k) k args (at to) wl rest heap ≡ elsewhere at wl (calls_method (method_at P k) k args to l rest heap)
  calls_same i id a pc k b e args to l rest =
      let z = pc.built_in k b e in
      ap (λ (o : Option Method). calls_method o k args (at to) wl rest heap) z.1
      ∙ ap (λ (t : Bool). by_kind t (is_message_constructor z.0) (is_get_message z.0) k args (at to) wl rest) z.2.0
      ∙ ap (λ (t : Bool). by_kind b.built_in t (is_get_message z.0) k args (at to) wl rest) z.2.1
      ∙ ap (λ (t : Bool). by_kind b.built_in (is_message_constructor b) t k args (at to) wl rest) z.2.2
      ∙ kind_same b.built_in (is_message_constructor b) (is_get_message b) k args to l rest
      ∙ ap (λ (o : Option Method). elsewhere at wl (calls_method o k args to l rest heap)) (sym e)

  -- the answers of strings
  t_if : (b : Bool) (d1 d2 : Effect) → elsewhere at wl (if b then d1 else d2) ≡ (if b then elsewhere at wl d1 else elsewhere at wl d2)
  t_if true d1 d2 = refl
  t_if false d1 d2 = refl

  t_when : (b : Bool) (d e : Effect) → Eq d e → Eq (when b d) (when b e)
  t_when true d e h = h
  t_when false d e h = refl

  t_unit : (units : List ℕ) (i : ℤ) (go ho : Value → Effect) → ((v : Value) → Eq (ho v) (go v)) → Eq (unit_at units i ho) (unit_at units i go)
  t_unit units (negsuc i) go ho h = refl
  t_unit units (pos i) go ho h = by (slice_get units i)
    where
      by : (o : Option ℕ) → at_unit o ho ≡ elsewhere at wl (at_unit o go)
      by None = refl
      by (Some x) = h (value.Int (pos x))

  t_answers : (name units : List ℕ) (args : List Value) (go ho : Value → Effect) → ((v : Value) → Eq (ho v) (go v)) → Eq (text_answers name units args ho) (text_answers name units args go)
  t_answers name units [] go ho h = t_when (bytes_eq name (codes "length")) _ _ (h _)
  t_answers name units (v ∷ []) go ho h =
      c_if (bytes_eq name (codes "equals")) _ _ _ _ (h _) (t_when (bytes_eq name (codes "charAt")) _ _ (c_int v _ _ (λ i. t_unit units i go ho h)))
  t_answers name units (v ∷ w ∷ vs) go ho h = refl

  t_text : (a : Method) (args : List Value) (to : ℕ) (l rest : List Value) (receiver : Value) → Eq (calls_text a args (at to) wl rest heap receiver) (calls_text a args to l rest heap receiver)
  t_text a args to l rest receiver =
      c_receiver receiver (λ r. with_some (text_of r) (λ units. text_answers a.name units args (λ v. Goes to l (v ∷ rest) heap))) (λ r. with_some (text_of r) (λ units. text_answers a.name units args (λ v. Goes (at to) wl (v ∷ rest) heap)))
      (λ r. by (text_of r))
    where
      by : (o : Option (List ℕ)) → with_some o (λ units. text_answers a.name units args (λ v. Goes (at to) wl (v ∷ rest) heap)) ≡ elsewhere at wl (with_some o (λ units. text_answers a.name units args (λ v. Goes to l (v ∷ rest) heap)))
      by None = refl
      by (Some units) = t_answers a.name units args (λ v. Goes to l (v ∷ rest) heap) (λ v. Goes (at to) wl (v ∷ rest) heap) (λ v. refl)

  pub same_virtual : (id : MethodId) (a : Method) (to : ℕ) (l s : List Value) → PlainCallee P Q mine its (instr.Invokevirtual id) id a → IsClean P (instr.Invokevirtual id) s heap → does Q its (instr.Invokevirtual id) (at to) wl s heap ≡ elsewhere at wl (does P mine (instr.Invokevirtual id) to l s heap)
  unfolding does
  same_virtual id a to l s pc ready =
      ap (λ (o : Option Method). with_some o (λ method. on_values (length method.params) s (λ args below. on_value below (λ receiver rest. if is_text_method Q method then calls_text method (reverse args) (at to) wl rest heap receiver else as_class Q receiver heap (calls_on Q method id (reverse args) (at to) wl rest heap receiver))))) pc.unchanged
      ∙ ap (λ (t : Bool). on_values (length a.params) s (λ args below. on_value below (λ receiver rest. if t then calls_text a (reverse args) (at to) wl rest heap receiver else as_class Q receiver heap (calls_on Q a id (reverse args) (at to) wl rest heap receiver)))) pc.text
      ∙ c_values_at (length a.params) s (λ args below. on_value below (λ receiver rest. if is_text_method P a then calls_text a (reverse args) to l rest heap receiver else as_class P receiver heap (calls_on P a id (reverse args) to l rest heap receiver)))
      (λ args below. on_value below (λ receiver rest. if is_text_method P a then calls_text a (reverse args) (at to) wl rest heap receiver else as_class Q receiver heap (calls_on Q a id (reverse args) (at to) wl rest heap receiver))) ready.clean
      (λ vs r below c1. c_value_at r (λ receiver rest. if is_text_method P a then calls_text a (reverse vs) to l rest heap receiver else as_class P receiver heap (calls_on P a id (reverse vs) to l rest heap receiver))
      (λ receiver rest. if is_text_method P a then calls_text a (reverse vs) (at to) wl rest heap receiver else as_class Q receiver heap (calls_on Q a id (reverse vs) (at to) wl rest heap receiver)) c1
      (λ w rest top ne c2. c_if (is_text_method P a) _ _ _ _ (t_text a (reverse vs) to l rest w)
      (e_class_at w (calls_on P a id (reverse vs) to l rest heap w) (calls_on Q a id (reverse vs) (at to) wl rest heap w) ne refl
      (λ ty is_old class. ap (λ (k : MethodId). calls_method (method_at Q k) k (w ∷ reverse vs) (at to) wl rest heap) (pc.agrees refl ty is_old (ready.receives a pc.there w rest (below ∙ top) ty class))
      ∙ (let b = pc.selected ty in calls_same (instr.Invokevirtual id) id a pc (chosen P a id ty) b.0 b.1 (w ∷ reverse vs) to l rest)))))
      ∙ ap (λ (o : Option Method). elsewhere at wl (with_some o (λ method. on_values (length method.params) s (λ args below. on_value below (λ receiver rest. if is_text_method P method then calls_text method (reverse args) to l rest heap receiver else as_class P receiver heap (calls_on P method id (reverse args) to l rest heap receiver)))))) (sym pc.there)

  -- `kilim/Sys.take`
  takes_same : (to : ℕ) (l s : List Value) → Clean s → Eq (takes_element (at to) wl s heap) (takes_element to l s heap)
  takes_same to l s c =
      c_value s (λ w below. as_int w (λ i. on_value below (λ x rest. as_object x heap (λ n object. at_index object.elements i (λ k y. Goes to l (y ∷ rest) (insert heap n (with_element object k value.Null)))))))
      (λ w below. as_int w (λ i. on_value below (λ x rest. as_object x heap (λ n object. at_index object.elements i (λ k y. Goes (at to) wl (y ∷ rest) (insert heap n (with_element object k value.Null))))))) c
      (λ w below ne c1. c_int w _ _ (λ i. c_value below (λ x rest. as_object x heap (λ n object. at_index object.elements i (λ k y. Goes to l (y ∷ rest) (insert heap n (with_element object k value.Null)))))
      (λ x rest. as_object x heap (λ n object. at_index object.elements i (λ k y. Goes (at to) wl (y ∷ rest) (insert heap n (with_element object k value.Null))))) c1
      (λ x rest ne2 c2. c_object x _ _ (λ n object. c_index object.elements i _ _ (λ k y. refl)))))

  pub same_static : (id : MethodId) (a : Method) (to : ℕ) (l s : List Value) → PlainCallee P Q mine its (instr.Invokestatic id) id a → Clean s → does Q its (instr.Invokestatic id) (at to) wl s heap ≡ elsewhere at wl (does P mine (instr.Invokestatic id) to l s heap)
  unfolding does
  same_static id a to l s pc c =
      ap (λ (o : Option Method). with_some o (λ method. if is_handed_out Q method then on_values (length method.params) s (λ args rest. Asks id (reverse args) (at to) wl rest heap) else (if method.built_in then takes_element (at to) wl s heap else on_values (length method.params) s (λ args rest. Calls id (reverse args) (at to) wl rest heap)))) pc.unchanged
      ∙ ap (λ (t : Bool). if t then on_values (length a.params) s (λ args rest. Asks id (reverse args) (at to) wl rest heap) else (if a.built_in then takes_element (at to) wl s heap else on_values (length a.params) s (λ args rest. Calls id (reverse args) (at to) wl rest heap))) pc.handed_out
      ∙ c_if (is_handed_out P a) _ _ _ _ (c_values (length a.params) s (λ args rest. Asks id (reverse args) to l rest heap) (λ args rest. Asks id (reverse args) (at to) wl rest heap) c (λ vs r c1. refl))
      (c_if a.built_in _ _ _ _ (takes_same to l s c) (c_values (length a.params) s (λ args rest. Calls id (reverse args) to l rest heap) (λ args rest. Calls id (reverse args) (at to) wl rest heap) c (λ vs r c1. refl)))
      ∙ ap (λ (o : Option Method). elsewhere at wl (with_some o (λ method. if is_handed_out P method then on_values (length method.params) s (λ args rest. Asks id (reverse args) to l rest heap) else (if method.built_in then takes_element to l s heap else on_values (length method.params) s (λ args rest. Calls id (reverse args) to l rest heap))))) (sym pc.there)

  pub same_special : (id : MethodId) (a : Method) (to : ℕ) (l s : List Value) → PlainCallee P Q mine its (instr.Invokespecial id) id a → Clean s → does Q its (instr.Invokespecial id) (at to) wl s heap ≡ elsewhere at wl (does P mine (instr.Invokespecial id) to l s heap)
  unfolding does
  same_special id a to l s pc c =
      let b = pc.specials refl in
      ap (λ (o : Option Method). with_some o (λ method. if is_built_in_constructor method then on_value s (λ v rest. as_receiver v (λ receiver. Goes (at to) wl rest heap)) else on_values (length method.params) s (λ args below. on_value below (λ v rest. as_receiver v (λ receiver. calls_method (method_at Q (special Q its method id)) (special Q its method id) (receiver ∷ reverse args) (at to) wl rest heap))))) pc.unchanged
      ∙ ap (λ (k : MethodId). if is_built_in_constructor a then on_value s (λ v rest. as_receiver v (λ receiver. Goes (at to) wl rest heap)) else on_values (length a.params) s (λ args below. on_value below (λ v rest. as_receiver v (λ receiver. calls_method (method_at Q k) k (receiver ∷ reverse args) (at to) wl rest heap)))) (pc.agrees_special refl)
      ∙ c_if (is_built_in_constructor a) _ _ _ _
      (c_value s (λ v rest. as_receiver v (λ receiver. Goes to l rest heap)) (λ v rest. as_receiver v (λ receiver. Goes (at to) wl rest heap)) c (λ w rest ne c1. c_receiver w _ _ (λ x. refl)))
      (c_values (length a.params) s (λ args below. on_value below (λ v rest. as_receiver v (λ receiver. calls_method (method_at P (special P mine a id)) (special P mine a id) (receiver ∷ reverse args) to l rest heap)))
      (λ args below. on_value below (λ v rest. as_receiver v (λ receiver. calls_method (method_at Q (special P mine a id)) (special P mine a id) (receiver ∷ reverse args) (at to) wl rest heap))) c
      (λ vs r c1. c_value r (λ v rest. as_receiver v (λ receiver. calls_method (method_at P (special P mine a id)) (special P mine a id) (receiver ∷ reverse vs) to l rest heap))
      (λ v rest. as_receiver v (λ receiver. calls_method (method_at Q (special P mine a id)) (special P mine a id) (receiver ∷ reverse vs) (at to) wl rest heap)) c1
      (λ w rest ne c2. c_receiver w _ _ (λ x. calls_same (instr.Invokespecial id) id a pc (special P mine a id) b.0 b.1 (x ∷ reverse vs) to l rest))))
      ∙ ap (λ (o : Option Method). elsewhere at wl (with_some o (λ method. if is_built_in_constructor method then on_value s (λ v rest. as_receiver v (λ receiver. Goes to l rest heap)) else on_values (length method.params) s (λ args below. on_value below (λ v rest. as_receiver v (λ receiver. calls_method (method_at P (special P mine method id)) (special P mine method id) (receiver ∷ reverse args) to l rest heap)))))) (sym pc.there)
