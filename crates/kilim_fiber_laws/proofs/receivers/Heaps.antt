-- What an instruction does to the heap: it loses no object. And by what causes it raises, throws and ends.
use Rattle.std.proofs.Common.{◌≡◌, ◌≢◌, ◌⊎◌, inl, inr, cond, ℕ, zero, suc, Bool, true, false, eqb, ℤ, pos, negsuc, List, [], ◌∷◌, length, Option, Some, None, refl, sym, ap, ◌∙◌}
use Rattle.std.specs.Prelude.{codes, reverse, slice_get, nat_lt, if◌then◌else◌}
use Rattle.std.specs.FinMap.{get, insert}
use Rattle.std.specs.Str.{bytes_eq}
use Rattle.std.proofs.lemmas.Bool.{false≢true}
use Rattle.std.proofs.lemmas.Bool.Decides.{eqb_tells}
use Rattle.kilim_run_state.specs.declared.cause.EndCause.{EndCause}
use Rattle.kilim_run_state.specs.declared.cause.EndCause.TheVariants as cause
use Rattle.kilim_program.specs.declared.names.ClassId.{ClassId}
use Rattle.kilim_program.specs.declared.class.Method.{Method}
use Rattle.kilim_program.specs.declared.instr.Instr.{Instr}
use Rattle.kilim_program.specs.declared.instr.Instr.TheVariants as instr
use Rattle.kilim_program.specs.declared.names.MethodId.{MethodId}
use Rattle.kilim_program.specs.declared.ty.Base.{Base}
use Rattle.kilim_program.specs.declared.ty.Base.TheVariants as base
use Rattle.kilim_program.specs.declared.ty.Ty.{Ty}
use Rattle.kilim_run_state.specs.declared.value.Object.{Object}
use Rattle.kilim_program.specs.declared.value.Value.{Value}
use Rattle.kilim_program.specs.declared.value.Value.TheVariants.{Box, Fiber, Int, Long, Null, Ref, Text}
use Rattle.kilim_program.specs.Names.{class_name, field_of, method_at}
use Rattle.kilim_program.specs.Program.{Program}
use Rattle.kilim_run_state.specs.Machine.{Objects}
use Rattle.kilim_run_machine.specs.Effect.{Effect, Goes, Makes, Opens, Calls, Asks, Returns, Raises, Throws, Ends, Stuck, with_some, on_value, on_values, as_class, as_reference, as_receiver, as_int, as_long, when, wide_or, as_object, at_place, at_index, on_constant}
use Rattle.kilim_run_machine.specs.Does.{at_unit, calls_method, calls_on, calls_text, cast_fits, chosen, does, element_type, gives_message, keeps_message, makes_array, array_limit, special, takes_element, text_answers, throws_object, unit_at, with_element, with_field}
use Rattle.kilim_run_machine.specs.Natives.{is_built_in_constructor, is_get_message, is_handed_out, is_message_constructor, is_text_method}
use Rattle.kilim_run_machine.specs.Raising.{thrown_cause, word_in, words}
use Rattle.kilim_fiber_laws.specs.receivers.states.Law.{is_exception}
use Rattle.kilim_run_state.specs.Objects.{new_array}
use Rattle.kilim_run_state.specs.Shapes.{field_in}
use Rattle.kilim_program.specs.BuiltIn.{message_field}
use Rattle.kilim_type_sound.proofs.Maps.{put_other, put_there}
use Rattle.kilim_fiber_spec.proofs.alike.Effects.{is_simple}

-- what isn't the cause of an exception, or is one, is replaced
abbrev as_exception : EndCause → EndCause
as_exception why = if is_exception why then why else cause.Null

abbrev as_end : EndCause → EndCause
as_end why = if is_exception why then cause.Done else why

-- the same effect with another heap; what raises and throws has the cause of an exception, and what ends another one
abbrev reheap : Objects → Effect → Effect
reheap h (Goes p l s heap) = Goes p l s h
reheap h (Makes o p l s heap) = Makes o p l s h
reheap h (Opens p l s heap) = Opens p l s h
reheap h (Calls c args p l s heap) = Calls c args p l s h
reheap h (Asks c args p l s heap) = Asks c args p l s h
reheap h (Returns v heap) = Returns v h
reheap h (Raises why) = Raises (as_exception why)
reheap h (Throws n c why) = Throws n c (as_exception why)
reheap h (Ends why) = Ends (as_end why)
reheap h Stuck = Stuck

-- it stores into an object
abbrev is_store : Instr → Bool
is_store instr.Iastore = true
is_store instr.Lastore = true
is_store instr.Aastore = true
is_store instr.Bastore = true
is_store instr.Castore = true
is_store instr.Sastore = true
is_store (instr.Putfield f) = true
is_store i = false

abbrev is_call : Instr → Bool
is_call (instr.Invokevirtual m) = true
is_call (instr.Invokespecial m) = true
is_call (instr.Invokestatic m) = true
is_call i = false

r_value : (h : Objects) (s : List Value) (go : Value → List Value → Effect) → reheap h (on_value s go) ≡ on_value s (λ v r. reheap h (go v r))
r_value h [] go = refl
r_value h (v ∷ s) go = refl

r_int : (h : Objects) (v : Value) (go : ℤ → Effect) → reheap h (as_int v go) ≡ as_int v (λ x. reheap h (go x))
r_int h (Int x) go = refl
r_int h v go = refl

r_long : (h : Objects) (v : Value) (go : ℤ → Effect) → reheap h (as_long v go) ≡ as_long v (λ x. reheap h (go x))
r_long h (Long x) go = refl
r_long h v go = refl

r_some : {A : Type 0} (h : Objects) (o : Option A) (go : A → Effect) → reheap h (with_some o go) ≡ with_some o (λ x. reheap h (go x))
r_some h None go = refl
r_some h (Some x) go = refl

r_when : (h : Objects) (b : Bool) (e : Effect) → reheap h (when b e) ≡ when b (reheap h e)
r_when h true e = refl
r_when h false e = refl

r_wide : (h : Objects) (b : Bool) (d e : Effect) → reheap h (wide_or b d e) ≡ wide_or b (reheap h d) (reheap h e)
r_wide h true d e = refl
r_wide h false d e = refl

r_if : (h : Objects) (b : Bool) (d e : Effect) → reheap h (if b then d else e) ≡ (if b then reheap h d else reheap h e)
r_if h true d e = refl
r_if h false d e = refl

r_reference : (h : Objects) (v : Value) (go : Value → Effect) → reheap h (as_reference v go) ≡ as_reference v (λ x. reheap h (go x))
r_reference h (Int x) go = refl
r_reference h v go = refl

r_receiver : (h : Objects) (v : Value) (go : Value → Effect) → reheap h (as_receiver v go) ≡ as_receiver v (λ x. reheap h (go x))
r_receiver h (Int x) go = refl
r_receiver h v go = refl

r_object : (h : Objects) (v : Value) (heap : Objects) (go : ℕ → Object → Effect) → reheap h (as_object v heap go) ≡ as_object v heap (λ n o. reheap h (go n o))
r_object h (Ref n) heap go = r_some h (get heap n) (λ o. go n o)
r_object h v heap go = refl

r_place : (h : Objects) (o : Option Value) (go : Value → Effect) → reheap h (at_place o go) ≡ at_place o (λ v. reheap h (go v))
r_place h None go = refl
r_place h (Some v) go = refl

r_index : (h : Objects) (vs : List Value) (i : ℤ) (go : ℕ → Value → Effect) → reheap h (at_index vs i go) ≡ at_index vs i (λ k v. reheap h (go k v))
r_index h vs (pos i) go = r_place h (slice_get vs i) (go i)
r_index h vs (negsuc i) go = refl

r_constant : (h : Objects) (v : Value) (go : Value → Effect) → reheap h (on_constant v go) ≡ on_constant v (λ x. reheap h (go x))
r_constant h (Int x) go = refl
r_constant h (Long x) go = refl
r_constant h (Text x) go = refl
r_constant h v go = refl

r_array : (h : Objects) (ty : Ty) (v : Value) (n : ℤ) (nx : ℕ) (l s : List Value) → reheap h (makes_array ty v n nx l s h) ≡ makes_array ty v n nx l s h
unfolding array_limit
r_array h ty v (negsuc n) nx l s = refl
r_array h ty v (pos n) nx l s = r_if h (nat_lt array_limit n) (Ends cause.Large) (Makes (new_array ty v n) nx l s h)

r_class : (h : Objects) (p : Program) (v : Value) (heap : Objects) (go : Option Ty → Effect) → reheap h (as_class p v heap go) ≡ as_class p v heap (λ o. reheap h (go o))
r_class h p (Int x) heap go = refl
r_class h p (Long x) heap go = refl
r_class h p (Ref n) heap go = r_some h (get heap n) (λ object. go (Some object.class))
r_class h p v heap go = refl

r_unit : (h : Objects) (o : Option ℕ) (go : Value → Effect) → reheap h (at_unit o go) ≡ at_unit o (λ v. reheap h (go v))
r_unit h None go = refl
r_unit h (Some u) go = refl

r_units : (h : Objects) (units : List ℕ) (i : ℤ) (go : Value → Effect) → reheap h (unit_at units i go) ≡ unit_at units i (λ v. reheap h (go v))
r_units h units (pos i) go = r_unit h (slice_get units i) go
r_units h units (negsuc i) go = refl

r_answers : (name units : List ℕ) (args : List Value) (to : ℕ) (l s : List Value) (h : Objects) → reheap h (text_answers name units args (λ v. Goes to l (v ∷ s) h)) ≡ text_answers name units args (λ v. Goes to l (v ∷ s) h)
r_answers name units [] to l s h = r_when h (bytes_eq name (codes "length")) _
r_answers name units (v ∷ []) to l s h = simp (r_if, r_when, r_int, r_units)
r_answers name units (v ∷ w ∷ vs) to l s h = refl

r_text : (named : Method) (args : List Value) (to : ℕ) (l s : List Value) (h : Objects) (v : Value) → reheap h (calls_text named args to l s h v) ≡ calls_text named args to l s h v
r_text named args to l s h v = simp (r_receiver, r_some, r_answers)

-- a word is that of an exception
abbrev AllWords : List (List ℕ × EndCause) → Type 0
AllWords [] = Unit {0}
AllWords (e ∷ es) = (is_exception e.1 ≡ true) × AllWords es

word_so : (es : List (List ℕ × EndCause)) (name : List ℕ) → AllWords es → is_exception (word_in es name) ≡ true
word_so [] name all = refl
word_so (e ∷ es) name all = by (bytes_eq name e.0) (word_so es name all.1)
  where
    by : (z : Bool) → is_exception (word_in es name) ≡ true → is_exception (cond z e.1 (word_in es name)) ≡ true
    by true later = all.0
    by false later = later

thrown_so : (p : Program) (c : ClassId) → is_exception (thrown_cause p c) ≡ true
thrown_so p c = word_so words (class_name p c) (refl, (refl, (refl, (refl, (refl, (refl, (refl, (refl, tt))))))))

r_throws : (h : Objects) (p : Program) (n dims : ℕ) (b : Base) → reheap h (throws_object p n dims b) ≡ throws_object p n dims b
r_throws h p n zero (base.Class c) = ap (λ (z : Bool). Throws n c (cond z (thrown_cause p c) cause.Null)) (thrown_so p c)
r_throws h p n zero b = refl
r_throws h p n (suc d) b = refl

module _ (P : Program) (own : Method) (l : List Value) (to : ℕ) (s : List Value) (heap : Objects) where
  reheaped_simple : (i : Instr) → is_simple i ≡ true → is_store i ≡ false → reheap heap (does P own i to l s heap) ≡ does P own i to l s heap
  unfolding does
  reheaped_simple instr.Pop h k = simp (r_value, r_when)
  reheaped_simple instr.Dup h k = simp (r_value, r_when)
  reheaped_simple instr.DupX1 h k = simp (r_value, r_when)
  reheaped_simple instr.Swap h k = simp (r_value, r_when)
  reheaped_simple instr.Pop2 h k = simp (r_value, r_when, r_wide)
  reheaped_simple instr.DupX2 h k = simp (r_value, r_when, r_wide)
  reheaped_simple instr.Dup2 h k = simp (r_value, r_when, r_wide)
  reheaped_simple instr.Dup2X1 h k = simp (r_value, r_when, r_wide)
  reheaped_simple instr.Dup2X2 h k = simp (r_value, r_when, r_wide)
  reheaped_simple instr.Iadd h k = simp (r_value, r_int)
  reheaped_simple instr.Isub h k = simp (r_value, r_int)
  reheaped_simple instr.Imul h k = simp (r_value, r_int)
  reheaped_simple instr.Ishl h k = simp (r_value, r_int)
  reheaped_simple instr.Ishr h k = simp (r_value, r_int)
  reheaped_simple instr.Iushr h k = simp (r_value, r_int)
  reheaped_simple instr.Iand h k = simp (r_value, r_int)
  reheaped_simple instr.Ior h k = simp (r_value, r_int)
  reheaped_simple instr.Ixor h k = simp (r_value, r_int)
  reheaped_simple instr.Ineg h k = simp (r_value, r_int)
  reheaped_simple instr.I2b h k = simp (r_value, r_int)
  reheaped_simple instr.I2c h k = simp (r_value, r_int)
  reheaped_simple instr.I2s h k = simp (r_value, r_int)
  reheaped_simple instr.I2l h k = simp (r_value, r_int)
  reheaped_simple instr.Idiv h k = simp (r_value, r_int, r_if)
  reheaped_simple instr.Irem h k = simp (r_value, r_int, r_if)
  reheaped_simple instr.Ladd h k = simp (r_value, r_long)
  reheaped_simple instr.Lsub h k = simp (r_value, r_long)
  reheaped_simple instr.Lmul h k = simp (r_value, r_long)
  reheaped_simple instr.Land h k = simp (r_value, r_long)
  reheaped_simple instr.Lor h k = simp (r_value, r_long)
  reheaped_simple instr.Lxor h k = simp (r_value, r_long)
  reheaped_simple instr.Lneg h k = simp (r_value, r_long)
  reheaped_simple instr.L2i h k = simp (r_value, r_long)
  reheaped_simple instr.Lcmp h k = simp (r_value, r_long)
  reheaped_simple instr.Ldiv h k = simp (r_value, r_long, r_if)
  reheaped_simple instr.Lrem h k = simp (r_value, r_long, r_if)
  reheaped_simple instr.Lshl h k = simp (r_value, r_int, r_long)
  reheaped_simple instr.Lshr h k = simp (r_value, r_int, r_long)
  reheaped_simple instr.Lushr h k = simp (r_value, r_int, r_long)
  reheaped_simple instr.Iaload h k = simp (r_value, r_int, r_object, r_index)
  reheaped_simple instr.Baload h k = simp (r_value, r_int, r_object, r_index)
  reheaped_simple instr.Caload h k = simp (r_value, r_int, r_object, r_index)
  reheaped_simple instr.Saload h k = simp (r_value, r_int, r_object, r_index)
  reheaped_simple instr.Iastore h k = absurd (false≢true (sym k))
  reheaped_simple instr.Bastore h k = absurd (false≢true (sym k))
  reheaped_simple instr.Castore h k = absurd (false≢true (sym k))
  reheaped_simple instr.Sastore h k = absurd (false≢true (sym k))
  reheaped_simple instr.Laload h k = simp (r_value, r_int, r_object, r_index, r_long)
  reheaped_simple instr.Lastore h k = absurd (false≢true (sym k))
  reheaped_simple instr.Aaload h k = simp (r_value, r_int, r_object, r_index)
  reheaped_simple instr.Lreturn h k = simp (r_value, r_long)
  reheaped_simple instr.Areturn h k = simp (r_value, r_reference)
  reheaped_simple instr.Arraylength h k = simp (r_value, r_object)
  reheaped_simple (instr.Ifeq t) h k = simp (r_value, r_int)
  reheaped_simple (instr.Ifne t) h k = simp (r_value, r_int)
  reheaped_simple (instr.Iflt t) h k = simp (r_value, r_int)
  reheaped_simple (instr.Ifge t) h k = simp (r_value, r_int)
  reheaped_simple (instr.Ifgt t) h k = simp (r_value, r_int)
  reheaped_simple (instr.Ifle t) h k = simp (r_value, r_int)
  reheaped_simple (instr.IfIcmpeq t) h k = simp (r_value, r_int)
  reheaped_simple (instr.IfIcmpne t) h k = simp (r_value, r_int)
  reheaped_simple (instr.IfIcmplt t) h k = simp (r_value, r_int)
  reheaped_simple (instr.IfIcmpge t) h k = simp (r_value, r_int)
  reheaped_simple (instr.IfIcmpgt t) h k = simp (r_value, r_int)
  reheaped_simple (instr.IfIcmple t) h k = simp (r_value, r_int)
  reheaped_simple (instr.IfAcmpeq t) h k = simp (r_value, r_reference)
  reheaped_simple (instr.IfAcmpne t) h k = simp (r_value, r_reference)
  reheaped_simple (instr.Ifnull t) h k = simp (r_value, r_reference)
  reheaped_simple (instr.Ifnonnull t) h k = simp (r_value, r_reference)
  reheaped_simple (instr.Tableswitch default low targets) h k = simp (r_value, r_int)
  reheaped_simple (instr.Lookupswitch default pairs) h k = simp (r_value, r_int)
  reheaped_simple (instr.Getfield f) h k = simp (r_value, r_object, r_some)
  reheaped_simple (instr.Newarray b) h k = simp (r_value, r_int, r_array)
  reheaped_simple (instr.Anewarray ty) h k = simp (r_value, r_int, r_array)
  reheaped_simple (instr.Ldc v) h k = simp (r_constant)
  reheaped_simple (instr.LdcW v) h k = simp (r_constant)
  reheaped_simple (instr.Ldc2W v) h k = simp (r_constant)
  reheaped_simple (instr.Iload n) h k = absurd (false≢true h)
  reheaped_simple (instr.Lload n) h k = absurd (false≢true h)
  reheaped_simple (instr.Aload n) h k = absurd (false≢true h)
  reheaped_simple (instr.Istore n) h k = absurd (false≢true h)
  reheaped_simple (instr.Lstore n) h k = absurd (false≢true h)
  reheaped_simple (instr.Astore n) h k = absurd (false≢true h)
  reheaped_simple (instr.Iinc n x) h k = absurd (false≢true h)
  reheaped_simple (instr.Putfield f) h k = absurd (false≢true h)
  reheaped_simple (instr.Getstatic f) h k = absurd (false≢true h)
  reheaped_simple (instr.Invokevirtual m) h k = absurd (false≢true h)
  reheaped_simple (instr.Invokespecial m) h k = absurd (false≢true h)
  reheaped_simple (instr.Invokestatic m) h k = absurd (false≢true h)
  reheaped_simple (instr.New c) h k = absurd (false≢true h)
  reheaped_simple (instr.Checkcast ty) h k = absurd (false≢true h)
  reheaped_simple (instr.Instanceof ty) h k = absurd (false≢true h)
  reheaped_simple instr.Aastore h k = absurd (false≢true h)
  reheaped_simple instr.Ireturn h k = absurd (false≢true h)
  reheaped_simple instr.Athrow h k = absurd (false≢true h)
  reheaped_simple i h k = refl

-- ---- no object is lost

abbrev pub Grows : Objects → Objects → Type 0
Grows h k = (n : ℕ) (o : Object) → get h n ≡ Some o → (q : Object) × (get k n ≡ Some q)

same_grows : (h k : Objects) → k ≡ h → Grows h k
same_grows h k e = λ n o at. (o, ap (λ (x : Objects). get x n) e ∙ at)

-- an object that was there is put
put_grows : (h : Objects) (k : ℕ) (old now : Object) → get h k ≡ Some old → Grows h (insert h k now)
put_grows h k old now there = λ n o at. by n o at (eqb_tells n k)
  where
    by : (n : ℕ) (o : Object) → get h n ≡ Some o → ((eqb n k ≡ true) × (n ≡ k)) ⊎ ((eqb n k ≡ false) × (n ≢ k)) → (q : Object) × (get (insert h k now) n ≡ Some q)
    by n o at (inl e) = (now, ap (λ (j : ℕ). get (insert h k now) j) e.1 ∙ put_there h k now)
    by n o at (inr e) = (o, put_other h k now n e.1 ∙ at)

module _ (h : Objects) where
  -- Where it goes on, no object is lost; where it makes something, calls or returns, the heap is the same. What is raised or thrown has the
  -- cause of an exception, and what ends another one.
  abbrev pub KeepsHeap : Effect → Type 0
  KeepsHeap (Goes p l s k) = Grows h k
  KeepsHeap (Makes o p l s k) = k ≡ h
  KeepsHeap (Opens p l s k) = k ≡ h
  KeepsHeap (Calls c args p l s k) = k ≡ h
  KeepsHeap (Asks c args p l s k) = k ≡ h
  KeepsHeap (Returns v k) = k ≡ h
  KeepsHeap (Raises why) = is_exception why ≡ true
  KeepsHeap (Throws n c why) = is_exception why ≡ true
  KeepsHeap (Ends why) = is_exception why ≡ false
  KeepsHeap Stuck = Unit {0}

  heap_in : Effect → Objects
  heap_in (Goes p l s k) = k
  heap_in (Makes o p l s k) = k
  heap_in (Opens p l s k) = k
  heap_in (Calls c args p l s k) = k
  heap_in (Asks c args p l s k) = k
  heap_in (Returns v k) = k
  heap_in e = h

  cause_in : Effect → EndCause
  cause_in (Raises why) = why
  cause_in (Throws n c why) = why
  cause_in (Ends why) = why
  cause_in e = cause.Null

  raised_so : (why : EndCause) → as_exception why ≡ why → is_exception why ≡ true
  raised_so why e = by (is_exception why) refl
    where
      by : (z : Bool) → is_exception why ≡ z → is_exception why ≡ true
      by true is = is
      by false is = sym (ap is_exception (sym (ap (λ (z : Bool). cond z why cause.Null) is) ∙ e))

  ended_so : (why : EndCause) → as_end why ≡ why → is_exception why ≡ false
  ended_so why e = by (is_exception why) refl
    where
      by : (z : Bool) → is_exception why ≡ z → is_exception why ≡ false
      by true is = sym (ap is_exception (sym (ap (λ (z : Bool). cond z cause.Done why) is) ∙ e))
      by false is = is

  reheaped_keeps : (e : Effect) → reheap h e ≡ e → KeepsHeap e
  unfolding heap_in cause_in
  reheaped_keeps (Goes p l s k) e = same_grows h k (sym (ap heap_in e))
  reheaped_keeps (Makes o p l s k) e = sym (ap heap_in e)
  reheaped_keeps (Opens p l s k) e = sym (ap heap_in e)
  reheaped_keeps (Calls c args p l s k) e = sym (ap heap_in e)
  reheaped_keeps (Asks c args p l s k) e = sym (ap heap_in e)
  reheaped_keeps (Returns v k) e = sym (ap heap_in e)
  reheaped_keeps (Raises c) e = raised_so c (ap cause_in e)
  reheaped_keeps (Throws object class c) e = raised_so c (ap cause_in e)
  reheaped_keeps (Ends c) e = ended_so c (ap cause_in e)
  reheaped_keeps Stuck e = tt

  g_value : (s : List Value) (go : Value → List Value → Effect) → ((v : Value) (r : List Value) → KeepsHeap (go v r)) → KeepsHeap (on_value s go)
  g_value [] go k = tt
  g_value (v ∷ r) go k = k v r

  g_int : (v : Value) (go : ℤ → Effect) → ((x : ℤ) → KeepsHeap (go x)) → KeepsHeap (as_int v go)
  g_int (Int x) go k = k x
  g_int (Long x) go k = tt
  g_int Null go k = tt
  g_int (Ref n) go k = tt
  g_int (Text units) go k = tt
  g_int (Box box) go k = tt
  g_int Fiber go k = tt

  g_long : (v : Value) (go : ℤ → Effect) → ((x : ℤ) → KeepsHeap (go x)) → KeepsHeap (as_long v go)
  g_long (Int x) go k = tt
  g_long (Long x) go k = k x
  g_long Null go k = tt
  g_long (Ref n) go k = tt
  g_long (Text units) go k = tt
  g_long (Box box) go k = tt
  g_long Fiber go k = tt

  g_some : {A : Type 0} (o : Option A) (go : A → Effect) → ((x : A) → o ≡ Some x → KeepsHeap (go x)) → KeepsHeap (with_some o go)
  g_some None go k = tt
  g_some (Some x) go k = k x refl

  g_object : (v : Value) (go : ℕ → Object → Effect) → ((n : ℕ) (o : Object) → get h n ≡ Some o → KeepsHeap (go n o)) → KeepsHeap (as_object v h go)
  g_object (Int x) go k = tt
  g_object (Long x) go k = tt
  g_object Null go k = refl
  g_object (Ref n) go k = g_some (get h n) (λ object. go n object) (λ o at. k n o at)
  g_object (Text units) go k = tt
  g_object (Box box) go k = tt
  g_object Fiber go k = tt

  g_place : (o : Option Value) (go : Value → Effect) → ((v : Value) → KeepsHeap (go v)) → KeepsHeap (at_place o go)
  g_place None go k = refl
  g_place (Some v) go k = k v

  g_index : (vs : List Value) (i : ℤ) (go : ℕ → Value → Effect) → ((k : ℕ) (v : Value) → KeepsHeap (go k v)) → KeepsHeap (at_index vs i go)
  g_index vs (pos i) go k = g_place (slice_get vs i) (go i) (k i)
  g_index vs (negsuc i) go k = refl

  g_if : (b : Bool) (d e : Effect) → KeepsHeap d → KeepsHeap e → KeepsHeap (cond b d e)
  g_if true d e j k = j
  g_if false d e j k = k

  g_class : (p : Program) (v : Value) (go : Option Ty → Effect) → ((o : Option Ty) → KeepsHeap (go o)) → KeepsHeap (as_class p v h go)
  g_class p (Int x) go k = tt
  g_class p (Long x) go k = tt
  g_class p Null go k = k None
  g_class p (Ref n) go k = g_some (get h n) (λ object. go (Some object.class)) (λ o at. k (Some o.class))
  g_class p (Text units) go k = k _
  g_class p (Box box) go k = k _
  g_class p Fiber go k = k _

  g_values : (n : ℕ) (s : List Value) (go : List Value → List Value → Effect) → ((vs r : List Value) → KeepsHeap (go vs r)) → KeepsHeap (on_values n s go)
  g_values zero s go k = k [] s
  g_values (suc n) [] go k = tt
  g_values (suc n) (v ∷ s) go k = g_values n s (λ vs r. go (v ∷ vs) r) (λ vs r. k (v ∷ vs) r)

  g_receiver : (v : Value) (go : Value → Effect) → ((u : Value) → KeepsHeap (go u)) → KeepsHeap (as_receiver v go)
  g_receiver (Int x) go k = tt
  g_receiver (Long x) go k = tt
  g_receiver Null go k = refl
  g_receiver (Ref n) go k = k (Ref n)
  g_receiver (Text units) go k = k (Text units)
  g_receiver (Box box) go k = k (Box box)
  g_receiver Fiber go k = k Fiber

  -- the message of an exception
  g_keeps : (args : List Value) (to : ℕ) (l s : List Value) → KeepsHeap (keeps_message args to l s h)
  g_keeps [] to l s = tt
  g_keeps (v ∷ []) to l s = tt
  g_keeps (v ∷ w ∷ []) to l s = g_object v _ (λ n object at. g_some (field_in object.fields message_field) _ (λ old e. put_grows h n object (record object { fields = with_field object.fields message_field w }) at))
  g_keeps (v ∷ w ∷ x ∷ vs) to l s = tt

  g_gives : (args : List Value) (to : ℕ) (l s : List Value) → KeepsHeap (gives_message args to l s h)
  g_gives [] to l s = tt
  g_gives (v ∷ []) to l s = g_object v _ (λ n object at. g_some (field_in object.fields message_field) _ (λ x e. same_grows h h refl))
  g_gives (v ∷ w ∷ vs) to l s = tt

  -- a method that has a receiver
  g_method : (o : Option Method) (id : MethodId) (args : List Value) (to : ℕ) (l s : List Value) → KeepsHeap (calls_method o id args to l s h)
  g_method None id args to l s = tt
  g_method (Some m) id args to l s = g_if m.built_in _ _ (g_if (is_message_constructor m) _ _ (g_keeps args to l s) (g_if (is_get_message m) _ _ (g_gives args to l s) refl)) refl

  g_calls_on : (p : Program) (named : Method) (id : MethodId) (args : List Value) (to : ℕ) (l s : List Value) (v : Value) (o : Option Ty) → KeepsHeap (calls_on p named id args to l s h v o)
  g_calls_on p named id args to l s v None = refl
  g_calls_on p named id args to l s v (Some ty) = g_method (method_at p (chosen p named id ty)) (chosen p named id ty) (v ∷ args) to l s

  g_text : (named : Method) (args : List Value) (to : ℕ) (l s : List Value) (v : Value) → KeepsHeap (calls_text named args to l s h v)
  g_text named args to l s v = reheaped_keeps (calls_text named args to l s h v) (r_text named args to l s h v)

  -- an element is taken out
  g_take : (stack : List Value) (to : ℕ) (l : List Value) → KeepsHeap (takes_element to l stack h)
  g_take stack to l = g_value stack _ (λ i below. g_int i _ (λ j. g_value below _ (λ v rest. g_object v _ (λ n object at. g_index object.elements j _ (λ k old. put_grows h n object (with_element object k Null) at)))))

  -- an int, or a long, into an element
  g_element : (stack : List Value) (now : ℕ → Object → ℕ → Value → Object) (to : ℕ) (l : List Value) → KeepsHeap (on_value stack (λ i below. as_int i (λ j. on_value below (λ v rest. as_object v h (λ n object. at_index object.elements j (λ k old. Goes to l rest (insert h n (now n object k old))))))))
  g_element stack now to l = g_value stack _ (λ i below. g_int i _ (λ j. g_value below _ (λ v rest. g_object v _ (λ n object at. g_index object.elements j _ (λ k old. put_grows h n object (now n object k old) at)))))

module _ (P : Program) (own : Method) (l : List Value) (to : ℕ) (s : List Value) (heap : Objects) where
  others : (i : Instr) → is_simple i ≡ false → is_store i ≡ false → is_call i ≡ false → reheap heap (does P own i to l s heap) ≡ does P own i to l s heap
  unfolding does
  others (instr.Iload n) h k j = simp (r_some, r_int)
  others (instr.Lload n) h k j = simp (r_some, r_long)
  others (instr.Aload n) h k j = simp (r_some, r_reference)
  others (instr.Istore n) h k j = simp (r_value, r_int, r_some)
  others (instr.Lstore n) h k j = simp (r_value, r_long, r_some)
  others (instr.Astore n) h k j = simp (r_value, r_reference, r_some)
  others (instr.Iinc n x) h k j = simp (r_some, r_int)
  others (instr.Getstatic f) h k j = simp (r_some, r_constant)
  others instr.Ireturn h k j = simp (r_value, r_int)
  others (instr.New c) h k j = simp (r_if)
  others (instr.Checkcast ty) h k j = simp (r_value, r_class, r_if)
  others (instr.Instanceof ty) h k j = simp (r_value, r_class)
  others instr.Athrow h k j = simp (r_value, r_object, r_throws)
  others (instr.Putfield f) h k j = absurd (false≢true (sym k))
  others instr.Aastore h k j = absurd (false≢true (sym k))
  others (instr.Invokevirtual m) h k j = absurd (false≢true (sym j))
  others (instr.Invokespecial m) h k j = absurd (false≢true (sym j))
  others (instr.Invokestatic m) h k j = absurd (false≢true (sym j))
  others i h k j = absurd (false≢true (sym h))

  stores : (i : Instr) → is_store i ≡ true → KeepsHeap heap (does P own i to l s heap)
  unfolding does
  stores instr.Iastore k = g_value heap s _ (λ v above. g_int heap v _ (λ x. g_element heap above _ to l))
  stores instr.Bastore k = g_value heap s _ (λ v above. g_int heap v _ (λ x. g_element heap above _ to l))
  stores instr.Castore k = g_value heap s _ (λ v above. g_int heap v _ (λ x. g_element heap above _ to l))
  stores instr.Sastore k = g_value heap s _ (λ v above. g_int heap v _ (λ x. g_element heap above _ to l))
  stores instr.Lastore k = g_value heap s _ (λ v above. g_long heap v _ (λ x. g_element heap above _ to l))
  stores instr.Aastore k =
      g_value heap s _ (λ v above. g_value heap above _ (λ w below. g_int heap w _ (λ i. g_value heap below _ (λ x rest. g_object heap x _ (λ n object at. g_index heap object.elements i _ (λ k old.
      g_class heap P v _ (λ class. g_if heap (cast_fits P class (element_type object.class)) _ _ (put_grows heap n object _ at) refl)))))))
  stores (instr.Putfield f) k =
      g_value heap s _ (λ v below. g_value heap below _ (λ x rest. g_object heap x _ (λ n object at. g_some heap (field_of P f) _ (λ field e. g_some heap (field_in object.fields f) _ (λ old d. put_grows heap n object _ at)))))
  stores i k = absurd (false≢true k)

  statics : (id : MethodId) → KeepsHeap heap (does P own (instr.Invokestatic id) to l s heap)
  unfolding does
  statics id = g_some heap (method_at P id) _ (λ m at. g_if heap (is_handed_out P m) _ _ (g_values heap (length m.params) s (λ vs r. Asks id (reverse vs) to l r heap) (λ vs r. refl))
      (g_if heap m.built_in _ _ (g_take heap s to l) (g_values heap (length m.params) s (λ vs r. Calls id (reverse vs) to l r heap) (λ vs r. refl))))

  virtuals : (id : MethodId) → KeepsHeap heap (does P own (instr.Invokevirtual id) to l s heap)
  unfolding does
  virtuals id = g_some heap (method_at P id) _ (λ m at. g_values heap (length m.params) s _ (λ vs below. g_value heap below _ (λ v rest.
      g_if heap (is_text_method P m) _ _ (g_text heap m (reverse vs) to l rest v) (g_class heap P v _ (λ o. g_calls_on heap P m id (reverse vs) to l rest v o)))))

  specials : (id : MethodId) → KeepsHeap heap (does P own (instr.Invokespecial id) to l s heap)
  unfolding does
  specials id = g_some heap (method_at P id) _ (λ m at. g_if heap (is_built_in_constructor m) _ _ (g_value heap s _ (λ v rest. g_receiver heap v _ (λ u. same_grows heap heap refl)))
      (g_values heap (length m.params) s _ (λ vs below. g_value heap below _ (λ v rest. g_receiver heap v _ (λ u. g_method heap (method_at P (special P own m id)) (special P own m id) (u ∷ reverse vs) to l rest)))))

  pub keeps_heap : (i : Instr) → KeepsHeap heap (does P own i to l s heap)
  keeps_heap i = by (is_store i) (is_call i) (is_simple i) refl refl refl
    where
      call : (i : Instr) → is_call i ≡ true → KeepsHeap heap (does P own i to l s heap)
      call (instr.Invokevirtual id) e = virtuals id
      call (instr.Invokespecial id) e = specials id
      call (instr.Invokestatic id) e = statics id
      call i e = absurd (false≢true e)

      by : (a b c : Bool) → is_store i ≡ a → is_call i ≡ b → is_simple i ≡ c → KeepsHeap heap (does P own i to l s heap)
      by true b c x y z = stores i x
      by false true c x y z = call i y
      by false false true x y z = reheaped_keeps heap (does P own i to l s heap) (reheaped_simple P own l to s heap i z x)
      by false false false x y z = reheaped_keeps heap (does P own i to l s heap) (others i z x y)
