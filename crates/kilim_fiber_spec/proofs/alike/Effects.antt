-- An old instruction does the same elsewhere, with other locals, in the woven program.
use Rattle.std.proofs.Common.{◌≡◌, ℕ, zero, suc, Bool, true, false, ℤ, pos, negsuc, List, [], ◌∷◌, map, Option, Some, None, refl, ap}
use Rattle.std.specs.Prelude.{slice_get, nat_lt, if◌then◌else◌}
use Rattle.std.specs.Ordering.{int_eq}
use Rattle.std.specs.FinMap.{get}
use Rattle.kilim_run_state.specs.declared.cause.EndCause.TheVariants as cause
use Rattle.kilim_program.specs.declared.class.Method.{Method}
use Rattle.kilim_program.specs.declared.instr.Instr.{Instr}
use Rattle.kilim_program.specs.declared.instr.Instr.TheVariants as instr
use Rattle.kilim_program.specs.declared.ty.Ty.{Ty}
use Rattle.kilim_run_state.specs.declared.value.Object.{Object}
use Rattle.kilim_program.specs.declared.value.Value.{Value}
use Rattle.kilim_program.specs.declared.value.Value.TheVariants.{Int, Long, Ref, Text}
use Rattle.kilim_program.specs.Program.{Program}
use Rattle.kilim_run_state.specs.Machine.{Objects}
use Rattle.kilim_run_machine.specs.Effect.{Effect, Goes, Makes, Ends, with_some, on_value, on_values, as_reference, as_receiver, as_int, as_long, when, wide_or, as_object, at_place, at_index, on_constant}
use Rattle.kilim_run_machine.specs.Does.{does, place_if, table_target, target_or, makes_array, array_limit, match_target}
use Rattle.kilim_run_state.specs.Objects.{new_array}
use Rattle.kilim_weave_spec.specs.Woven.{moved_instr, moved_pairs}
use Rattle.kilim_fiber_spec.specs.Rows.{elsewhere}
use Rattle.std.proofs.lemmas.Bool.{false≢true}

module _ (at : ℕ → ℕ) (wl : List Value) where
  abbrev E : Effect → Effect
  E e = elsewhere at wl e

  pub e_value : (s : List Value) (go : Value → List Value → Effect) → elsewhere at wl (on_value s go) ≡ on_value s (λ v r. elsewhere at wl (go v r))
  e_value [] go = refl
  e_value (v ∷ s) go = refl

  pub e_values : (n : ℕ) (s : List Value) (go : List Value → List Value → Effect) → elsewhere at wl (on_values n s go) ≡ on_values n s (λ vs r. elsewhere at wl (go vs r))
  e_values zero s go = refl
  e_values (suc n) [] go = refl
  e_values (suc n) (v ∷ s) go = e_values n s (λ vs below. go (v ∷ vs) below)

  pub e_int : (v : Value) (go : ℤ → Effect) → elsewhere at wl (as_int v go) ≡ as_int v (λ x. elsewhere at wl (go x))
  e_int (Int x) go = refl
  e_int v go = refl

  pub e_long : (v : Value) (go : ℤ → Effect) → elsewhere at wl (as_long v go) ≡ as_long v (λ x. elsewhere at wl (go x))
  e_long (Long x) go = refl
  e_long v go = refl

  pub e_some : {A : Type 0} (o : Option A) (go : A → Effect) → elsewhere at wl (with_some o go) ≡ with_some o (λ x. elsewhere at wl (go x))
  e_some None go = refl
  e_some (Some x) go = refl

  pub e_when : (b : Bool) (e : Effect) → elsewhere at wl (when b e) ≡ when b (elsewhere at wl e)
  e_when true e = refl
  e_when false e = refl

  pub e_wide : (b : Bool) (d e : Effect) → elsewhere at wl (wide_or b d e) ≡ wide_or b (elsewhere at wl d) (elsewhere at wl e)
  e_wide true d e = refl
  e_wide false d e = refl

  pub e_if : (b : Bool) (d e : Effect) → elsewhere at wl (if b then d else e) ≡ (if b then elsewhere at wl d else elsewhere at wl e)
  e_if true d e = refl
  e_if false d e = refl

  pub e_reference : (v : Value) (go : Value → Effect) → elsewhere at wl (as_reference v go) ≡ as_reference v (λ x. elsewhere at wl (go x))
  e_reference (Int x) go = refl
  e_reference v go = refl

  pub e_receiver : (v : Value) (go : Value → Effect) → elsewhere at wl (as_receiver v go) ≡ as_receiver v (λ x. elsewhere at wl (go x))
  e_receiver (Int x) go = refl
  e_receiver v go = refl

  pub e_object : (v : Value) (heap : Objects) (go : ℕ → Object → Effect) → elsewhere at wl (as_object v heap go) ≡ as_object v heap (λ n o. elsewhere at wl (go n o))
  e_object (Ref n) heap go = e_some (get heap n) (λ o. go n o)
  e_object v heap go = refl

  pub e_place : (o : Option Value) (go : Value → Effect) → elsewhere at wl (at_place o go) ≡ at_place o (λ v. elsewhere at wl (go v))
  e_place None go = refl
  e_place (Some v) go = refl

  pub e_index : (vs : List Value) (i : ℤ) (go : ℕ → Value → Effect) → elsewhere at wl (at_index vs i go) ≡ at_index vs i (λ k v. elsewhere at wl (go k v))
  e_index vs (pos i) go = e_place (slice_get vs i) (go i)
  e_index vs (negsuc i) go = refl

  pub e_jump : (b : Bool) (t nx : ℕ) (l s : List Value) (heap : Objects) → elsewhere at wl (Goes (place_if b t nx) l s heap) ≡ Goes (place_if b (at t) (at nx)) wl s heap
  e_jump true t nx l s heap = refl
  e_jump false t nx l s heap = refl

  target_moved : (o : Option ℕ) (ts : List ℕ) (d i : ℕ) → at (target_or (slice_get ts i) d) ≡ target_or (slice_get (map at ts) i) (at d)
  target_moved o [] d i = refl
  target_moved o (t ∷ ts) d zero = refl
  target_moved o (t ∷ ts) d (suc i) = target_moved o ts d i

  pub e_table : (ts : List ℕ) (i : ℤ) (d : ℕ) (l s : List Value) (heap : Objects) → elsewhere at wl (Goes (table_target ts i d) l s heap) ≡ Goes (table_target (map at ts) i (at d)) wl s heap
  e_table ts (pos i) d l s heap = ap (λ (q : ℕ). Goes q wl s heap) (target_moved None ts d i)
  e_table ts (negsuc i) d l s heap = refl

  pub e_constant : (v : Value) (go : Value → Effect) → elsewhere at wl (on_constant v go) ≡ on_constant v (λ x. elsewhere at wl (go x))
  e_constant (Int x) go = refl
  e_constant (Long x) go = refl
  e_constant (Text x) go = refl
  e_constant v go = refl

  match_moved : (ps : List (ℤ × ℕ)) (a : ℤ) (d : ℕ) → at (match_target ps a d) ≡ match_target (moved_pairs at ps) a (at d)
  match_moved [] a d = refl
  match_moved (p ∷ ps) a d = by (int_eq p.0 a) (match_moved ps a d)
    where
      by : (b : Bool) → at (match_target ps a d) ≡ match_target (moved_pairs at ps) a (at d) → at (if b then p.1 else match_target ps a d) ≡ (if b then at p.1 else match_target (moved_pairs at ps) a (at d))
      by true e = refl
      by false e = e

  pub e_match : (ps : List (ℤ × ℕ)) (a : ℤ) (d : ℕ) (l s : List Value) (heap : Objects) → elsewhere at wl (Goes (match_target ps a d) l s heap) ≡ Goes (match_target (moved_pairs at ps) a (at d)) wl s heap
  e_match ps a d l s heap = ap (λ (q : ℕ). Goes q wl s heap) (match_moved ps a d)

-- touches no local, and asks nothing of the program or of its method
abbrev pub is_simple : Instr → Bool
is_simple (instr.Iload n) = false
is_simple (instr.Lload n) = false
is_simple (instr.Aload n) = false
is_simple (instr.Istore n) = false
is_simple (instr.Lstore n) = false
is_simple (instr.Astore n) = false
is_simple (instr.Iinc n k) = false
is_simple (instr.Putfield f) = false
is_simple (instr.Getstatic f) = false
is_simple instr.Ireturn = false
is_simple (instr.Invokevirtual m) = false
is_simple (instr.Invokespecial m) = false
is_simple (instr.Invokestatic m) = false
is_simple (instr.New c) = false
is_simple (instr.Checkcast ty) = false
is_simple (instr.Instanceof ty) = false
is_simple instr.Aastore = false
is_simple instr.Athrow = false
is_simple i = true

module _ (at : ℕ → ℕ) (wl : List Value) where
  pub e_array : (ty : Ty) (v : Value) (n : ℤ) (nx : ℕ) (l s : List Value) (heap : Objects) → elsewhere at wl (makes_array ty v n nx l s heap) ≡ makes_array ty v n (at nx) wl s heap
  unfolding array_limit
  e_array ty v (negsuc n) nx l s heap = refl
  e_array ty v (pos n) nx l s heap = e_if at wl (nat_lt array_limit n) (Ends cause.Large) (Makes (new_array ty v n) nx l s heap)

-- u and v are the methods in which the instruction stands
module _ (P W : Program) (u v : Method) (at : ℕ → ℕ) (l wl : List Value) (to : ℕ) (s : List Value) (heap : Objects) where
  abbrev Same : Instr → Type 0
  Same i = does W v (moved_instr at i) (at to) wl s heap ≡ elsewhere at wl (does P u i to l s heap)

  pub same_simple : (i : Instr) → is_simple i ≡ true → Same i
  unfolding does
  same_simple instr.Pop h = simp (e_value, e_when)
  same_simple instr.Dup h = simp (e_value, e_when)
  same_simple instr.DupX1 h = simp (e_value, e_when)
  same_simple instr.Swap h = simp (e_value, e_when)
  same_simple instr.Pop2 h = simp (e_value, e_when, e_wide)
  same_simple instr.DupX2 h = simp (e_value, e_when, e_wide)
  same_simple instr.Dup2 h = simp (e_value, e_when, e_wide)
  same_simple instr.Dup2X1 h = simp (e_value, e_when, e_wide)
  same_simple instr.Dup2X2 h = simp (e_value, e_when, e_wide)
  same_simple instr.Iadd h = simp (e_value, e_int)
  same_simple instr.Isub h = simp (e_value, e_int)
  same_simple instr.Imul h = simp (e_value, e_int)
  same_simple instr.Ishl h = simp (e_value, e_int)
  same_simple instr.Ishr h = simp (e_value, e_int)
  same_simple instr.Iushr h = simp (e_value, e_int)
  same_simple instr.Iand h = simp (e_value, e_int)
  same_simple instr.Ior h = simp (e_value, e_int)
  same_simple instr.Ixor h = simp (e_value, e_int)
  same_simple instr.Ineg h = simp (e_value, e_int)
  same_simple instr.I2b h = simp (e_value, e_int)
  same_simple instr.I2c h = simp (e_value, e_int)
  same_simple instr.I2s h = simp (e_value, e_int)
  same_simple instr.I2l h = simp (e_value, e_int)
  same_simple instr.Idiv h = simp (e_value, e_int, e_if)
  same_simple instr.Irem h = simp (e_value, e_int, e_if)
  same_simple instr.Ladd h = simp (e_value, e_long)
  same_simple instr.Lsub h = simp (e_value, e_long)
  same_simple instr.Lmul h = simp (e_value, e_long)
  same_simple instr.Land h = simp (e_value, e_long)
  same_simple instr.Lor h = simp (e_value, e_long)
  same_simple instr.Lxor h = simp (e_value, e_long)
  same_simple instr.Lneg h = simp (e_value, e_long)
  same_simple instr.L2i h = simp (e_value, e_long)
  same_simple instr.Lcmp h = simp (e_value, e_long)
  same_simple instr.Ldiv h = simp (e_value, e_long, e_if)
  same_simple instr.Lrem h = simp (e_value, e_long, e_if)
  same_simple instr.Lshl h = simp (e_value, e_int, e_long)
  same_simple instr.Lshr h = simp (e_value, e_int, e_long)
  same_simple instr.Lushr h = simp (e_value, e_int, e_long)
  same_simple instr.Iaload h = simp (e_value, e_int, e_object, e_index)
  same_simple instr.Baload h = simp (e_value, e_int, e_object, e_index)
  same_simple instr.Caload h = simp (e_value, e_int, e_object, e_index)
  same_simple instr.Saload h = simp (e_value, e_int, e_object, e_index)
  same_simple instr.Iastore h = simp (e_value, e_int, e_object, e_index)
  same_simple instr.Bastore h = simp (e_value, e_int, e_object, e_index)
  same_simple instr.Castore h = simp (e_value, e_int, e_object, e_index)
  same_simple instr.Sastore h = simp (e_value, e_int, e_object, e_index)
  same_simple instr.Laload h = simp (e_value, e_int, e_object, e_index, e_long)
  same_simple instr.Lastore h = simp (e_value, e_long, e_int, e_object, e_index)
  same_simple instr.Aaload h = simp (e_value, e_int, e_object, e_index)
  same_simple instr.Lreturn h = simp (e_value, e_long)
  same_simple instr.Areturn h = simp (e_value, e_reference)
  same_simple instr.Arraylength h = simp (e_value, e_object)
  same_simple (instr.Ifeq t) h = simp (e_value, e_int, e_jump)
  same_simple (instr.Ifne t) h = simp (e_value, e_int, e_jump)
  same_simple (instr.Iflt t) h = simp (e_value, e_int, e_jump)
  same_simple (instr.Ifge t) h = simp (e_value, e_int, e_jump)
  same_simple (instr.Ifgt t) h = simp (e_value, e_int, e_jump)
  same_simple (instr.Ifle t) h = simp (e_value, e_int, e_jump)
  same_simple (instr.IfIcmpeq t) h = simp (e_value, e_int, e_jump)
  same_simple (instr.IfIcmpne t) h = simp (e_value, e_int, e_jump)
  same_simple (instr.IfIcmplt t) h = simp (e_value, e_int, e_jump)
  same_simple (instr.IfIcmpge t) h = simp (e_value, e_int, e_jump)
  same_simple (instr.IfIcmpgt t) h = simp (e_value, e_int, e_jump)
  same_simple (instr.IfIcmple t) h = simp (e_value, e_int, e_jump)
  same_simple (instr.IfAcmpeq t) h = simp (e_value, e_reference, e_jump)
  same_simple (instr.IfAcmpne t) h = simp (e_value, e_reference, e_jump)
  same_simple (instr.Ifnull t) h = simp (e_value, e_reference, e_jump)
  same_simple (instr.Ifnonnull t) h = simp (e_value, e_reference, e_jump)
  same_simple (instr.Tableswitch default low targets) h = simp (e_value, e_int, e_table)
  same_simple (instr.Lookupswitch default pairs) h = simp (e_value, e_int, e_match)
  same_simple (instr.Getfield f) h = simp (e_value, e_object, e_some)
  same_simple (instr.Newarray b) h = simp (e_value, e_int, e_array)
  same_simple (instr.Anewarray ty) h = simp (e_value, e_int, e_array)
  same_simple (instr.Ldc v) h = simp (e_constant)
  same_simple (instr.LdcW v) h = simp (e_constant)
  same_simple (instr.Ldc2W v) h = simp (e_constant)
  same_simple (instr.Iload n) h = absurd (false≢true h)
  same_simple (instr.Lload n) h = absurd (false≢true h)
  same_simple (instr.Aload n) h = absurd (false≢true h)
  same_simple (instr.Istore n) h = absurd (false≢true h)
  same_simple (instr.Lstore n) h = absurd (false≢true h)
  same_simple (instr.Astore n) h = absurd (false≢true h)
  same_simple (instr.Iinc n k) h = absurd (false≢true h)
  same_simple (instr.Putfield f) h = absurd (false≢true h)
  same_simple (instr.Getstatic f) h = absurd (false≢true h)
  same_simple (instr.Invokevirtual m) h = absurd (false≢true h)
  same_simple (instr.Invokespecial m) h = absurd (false≢true h)
  same_simple (instr.Invokestatic m) h = absurd (false≢true h)
  same_simple (instr.New c) h = absurd (false≢true h)
  same_simple (instr.Checkcast ty) h = absurd (false≢true h)
  same_simple (instr.Instanceof ty) h = absurd (false≢true h)
  same_simple instr.Aastore h = absurd (false≢true h)
  same_simple instr.Ireturn h = absurd (false≢true h)
  same_simple instr.Athrow h = absurd (false≢true h)
  same_simple i h = refl
