-- Where an old instruction goes, that it leaves the locals as they are, and that it calls nothing.
use Rattle.std.proofs.Common.{◌≡◌, ◌≢◌, ◌⊎◌, inl, inr, ℕ, zero, suc, Bool, true, false, eqb, ℤ, pos, negsuc, List, [], ◌∷◌, map, Option, Some, None, refl, sym, ap, subst, ◌∙◌, arith}
use Rattle.std.specs.Prelude.{slice_get, nat_lt, if◌then◌else◌}
use Rattle.std.specs.FinMap.{get}
use Rattle.kilim_run_state.specs.declared.cause.EndCause.TheVariants as cause
use Rattle.kilim_program.specs.declared.class.Method.{Method}
use Rattle.kilim_program.specs.declared.instr.Instr.{Instr}
use Rattle.kilim_program.specs.declared.instr.Instr.TheVariants as instr
use Rattle.kilim_program.specs.declared.ty.Base.{Base}
use Rattle.kilim_program.specs.declared.ty.Base.TheVariants as base
use Rattle.kilim_program.specs.declared.ty.Ty.{Ty}
use Rattle.kilim_run_state.specs.declared.value.Object.{Object}
use Rattle.kilim_program.specs.declared.value.Value.{Value}
use Rattle.kilim_program.specs.declared.value.Value.TheVariants.{Int, Long, Ref, Text}
use Rattle.kilim_program.specs.Program.{Program}
use Rattle.kilim_run_state.specs.Machine.{Objects}
use Rattle.kilim_run_machine.specs.Effect.{Effect, Goes, Makes, Opens, Calls, Asks, Returns, Raises, Throws, Ends, Stuck, with_some, on_value, on_values, as_reference, as_receiver, as_int, as_long, when, wide_or, as_object, at_place, at_index, on_constant}
use Rattle.kilim_run_machine.specs.Does.{does, makes_array, array_limit, throws_object}
use Rattle.kilim_run_state.specs.Objects.{new_array}
use Rattle.kilim_weave_spec.specs.Woven.{moved_instr}
use Rattle.kilim_fiber_spec.specs.Rows.{elsewhere}
use Rattle.std.specs.Prelude.{◌==◌, ◌||◌}
use Rattle.std.proofs.lemmas.Bool.Decides.{eqb_tells}
use Rattle.kilim_program.specs.Lengths.{ends_path, jump_targets}
use Rattle.kilim_type_spec.specs.Typed.{Among, edges}
use Rattle.kilim_weave_spec.specs.Woven.{moved_pairs}
use Rattle.kilim_fiber_spec.specs.Rows.{goes_to}
use Rattle.kilim_fiber_spec.proofs.alike.Effects.{is_simple}
use Rattle.std.proofs.lemmas.Bool.{false≢true}

-- without calls
abbrev pub hushed : Effect → Effect
hushed (Calls c args q l s heap) = Stuck
hushed (Asks c args q l s heap) = Stuck
hushed e = e

pub q_value : (s : List Value) (go : Value → List Value → Effect) → hushed (on_value s go) ≡ on_value s (λ v r. hushed (go v r))
q_value [] go = refl
q_value (v ∷ s) go = refl

pub q_int : (v : Value) (go : ℤ → Effect) → hushed (as_int v go) ≡ as_int v (λ x. hushed (go x))
q_int (Int x) go = refl
q_int v go = refl

pub q_long : (v : Value) (go : ℤ → Effect) → hushed (as_long v go) ≡ as_long v (λ x. hushed (go x))
q_long (Long x) go = refl
q_long v go = refl

pub q_some : {A : Type 0} (o : Option A) (go : A → Effect) → hushed (with_some o go) ≡ with_some o (λ x. hushed (go x))
q_some None go = refl
q_some (Some x) go = refl

pub q_when : (b : Bool) (e : Effect) → hushed (when b e) ≡ when b (hushed e)
q_when true e = refl
q_when false e = refl

pub q_wide : (b : Bool) (d e : Effect) → hushed (wide_or b d e) ≡ wide_or b (hushed d) (hushed e)
q_wide true d e = refl
q_wide false d e = refl

pub q_if : (b : Bool) (d e : Effect) → hushed (if b then d else e) ≡ (if b then hushed d else hushed e)
q_if true d e = refl
q_if false d e = refl

pub q_reference : (v : Value) (go : Value → Effect) → hushed (as_reference v go) ≡ as_reference v (λ x. hushed (go x))
q_reference (Int x) go = refl
q_reference v go = refl

pub q_receiver : (v : Value) (go : Value → Effect) → hushed (as_receiver v go) ≡ as_receiver v (λ x. hushed (go x))
q_receiver (Int x) go = refl
q_receiver v go = refl

pub q_object : (v : Value) (heap : Objects) (go : ℕ → Object → Effect) → hushed (as_object v heap go) ≡ as_object v heap (λ n o. hushed (go n o))
q_object (Ref n) heap go = q_some (get heap n) (λ o. go n o)
q_object v heap go = refl

pub q_place : (o : Option Value) (go : Value → Effect) → hushed (at_place o go) ≡ at_place o (λ v. hushed (go v))
q_place None go = refl
q_place (Some v) go = refl

pub q_index : (vs : List Value) (i : ℤ) (go : ℕ → Value → Effect) → hushed (at_index vs i go) ≡ at_index vs i (λ k v. hushed (go k v))
q_index vs (pos i) go = q_place (slice_get vs i) (go i)
q_index vs (negsuc i) go = refl

pub q_constant : (v : Value) (go : Value → Effect) → hushed (on_constant v go) ≡ on_constant v (λ x. hushed (go x))
q_constant (Int x) go = refl
q_constant (Long x) go = refl
q_constant (Text x) go = refl
q_constant v go = refl

q_array : (ty : Ty) (v : Value) (n : ℤ) (nx : ℕ) (l s : List Value) (heap : Objects) → hushed (makes_array ty v n nx l s heap) ≡ makes_array ty v n nx l s heap
unfolding array_limit
q_array ty v (negsuc n) nx l s heap = refl
q_array ty v (pos n) nx l s heap = q_if (nat_lt array_limit n) (Ends cause.Large) (Makes (new_array ty v n) nx l s heap)

pub q_throws : (P : Program) (n dims : ℕ) (b : Base) → hushed (throws_object P n dims b) ≡ throws_object P n dims b
q_throws P n zero (base.Class c) = refl
q_throws P n zero b = refl
q_throws P n (suc d) b = refl

module _ (P : Program) (own : Method) (l : List Value) (to : ℕ) (s : List Value) (heap : Objects) where
  pub hushed_simple : (i : Instr) → is_simple i ≡ true → hushed (does P own i to l s heap) ≡ does P own i to l s heap
  unfolding does
  hushed_simple instr.Pop h = simp (q_value, q_when)
  hushed_simple instr.Dup h = simp (q_value, q_when)
  hushed_simple instr.DupX1 h = simp (q_value, q_when)
  hushed_simple instr.Swap h = simp (q_value, q_when)
  hushed_simple instr.Pop2 h = simp (q_value, q_when, q_wide)
  hushed_simple instr.DupX2 h = simp (q_value, q_when, q_wide)
  hushed_simple instr.Dup2 h = simp (q_value, q_when, q_wide)
  hushed_simple instr.Dup2X1 h = simp (q_value, q_when, q_wide)
  hushed_simple instr.Dup2X2 h = simp (q_value, q_when, q_wide)
  hushed_simple instr.Iadd h = simp (q_value, q_int)
  hushed_simple instr.Isub h = simp (q_value, q_int)
  hushed_simple instr.Imul h = simp (q_value, q_int)
  hushed_simple instr.Ishl h = simp (q_value, q_int)
  hushed_simple instr.Ishr h = simp (q_value, q_int)
  hushed_simple instr.Iushr h = simp (q_value, q_int)
  hushed_simple instr.Iand h = simp (q_value, q_int)
  hushed_simple instr.Ior h = simp (q_value, q_int)
  hushed_simple instr.Ixor h = simp (q_value, q_int)
  hushed_simple instr.Ineg h = simp (q_value, q_int)
  hushed_simple instr.I2b h = simp (q_value, q_int)
  hushed_simple instr.I2c h = simp (q_value, q_int)
  hushed_simple instr.I2s h = simp (q_value, q_int)
  hushed_simple instr.I2l h = simp (q_value, q_int)
  hushed_simple instr.Idiv h = simp (q_value, q_int, q_if)
  hushed_simple instr.Irem h = simp (q_value, q_int, q_if)
  hushed_simple instr.Ladd h = simp (q_value, q_long)
  hushed_simple instr.Lsub h = simp (q_value, q_long)
  hushed_simple instr.Lmul h = simp (q_value, q_long)
  hushed_simple instr.Land h = simp (q_value, q_long)
  hushed_simple instr.Lor h = simp (q_value, q_long)
  hushed_simple instr.Lxor h = simp (q_value, q_long)
  hushed_simple instr.Lneg h = simp (q_value, q_long)
  hushed_simple instr.L2i h = simp (q_value, q_long)
  hushed_simple instr.Lcmp h = simp (q_value, q_long)
  hushed_simple instr.Ldiv h = simp (q_value, q_long, q_if)
  hushed_simple instr.Lrem h = simp (q_value, q_long, q_if)
  hushed_simple instr.Lshl h = simp (q_value, q_int, q_long)
  hushed_simple instr.Lshr h = simp (q_value, q_int, q_long)
  hushed_simple instr.Lushr h = simp (q_value, q_int, q_long)
  hushed_simple instr.Iaload h = simp (q_value, q_int, q_object, q_index)
  hushed_simple instr.Baload h = simp (q_value, q_int, q_object, q_index)
  hushed_simple instr.Caload h = simp (q_value, q_int, q_object, q_index)
  hushed_simple instr.Saload h = simp (q_value, q_int, q_object, q_index)
  hushed_simple instr.Iastore h = simp (q_value, q_int, q_object, q_index)
  hushed_simple instr.Bastore h = simp (q_value, q_int, q_object, q_index)
  hushed_simple instr.Castore h = simp (q_value, q_int, q_object, q_index)
  hushed_simple instr.Sastore h = simp (q_value, q_int, q_object, q_index)
  hushed_simple instr.Laload h = simp (q_value, q_int, q_object, q_index, q_long)
  hushed_simple instr.Lastore h = simp (q_value, q_long, q_int, q_object, q_index)
  hushed_simple instr.Aaload h = simp (q_value, q_int, q_object, q_index)
  hushed_simple instr.Lreturn h = simp (q_value, q_long)
  hushed_simple instr.Areturn h = simp (q_value, q_reference)
  hushed_simple instr.Arraylength h = simp (q_value, q_object)
  hushed_simple (instr.Ifeq t) h = simp (q_value, q_int)
  hushed_simple (instr.Ifne t) h = simp (q_value, q_int)
  hushed_simple (instr.Iflt t) h = simp (q_value, q_int)
  hushed_simple (instr.Ifge t) h = simp (q_value, q_int)
  hushed_simple (instr.Ifgt t) h = simp (q_value, q_int)
  hushed_simple (instr.Ifle t) h = simp (q_value, q_int)
  hushed_simple (instr.IfIcmpeq t) h = simp (q_value, q_int)
  hushed_simple (instr.IfIcmpne t) h = simp (q_value, q_int)
  hushed_simple (instr.IfIcmplt t) h = simp (q_value, q_int)
  hushed_simple (instr.IfIcmpge t) h = simp (q_value, q_int)
  hushed_simple (instr.IfIcmpgt t) h = simp (q_value, q_int)
  hushed_simple (instr.IfIcmple t) h = simp (q_value, q_int)
  hushed_simple (instr.IfAcmpeq t) h = simp (q_value, q_reference)
  hushed_simple (instr.IfAcmpne t) h = simp (q_value, q_reference)
  hushed_simple (instr.Ifnull t) h = simp (q_value, q_reference)
  hushed_simple (instr.Ifnonnull t) h = simp (q_value, q_reference)
  hushed_simple (instr.Tableswitch default low targets) h = simp (q_value, q_int)
  hushed_simple (instr.Lookupswitch default pairs) h = simp (q_value, q_int)
  hushed_simple (instr.Getfield f) h = simp (q_value, q_object, q_some)
  hushed_simple (instr.Newarray b) h = simp (q_value, q_int, q_array)
  hushed_simple (instr.Anewarray ty) h = simp (q_value, q_int, q_array)
  hushed_simple (instr.Ldc v) h = simp (q_constant)
  hushed_simple (instr.LdcW v) h = simp (q_constant)
  hushed_simple (instr.Ldc2W v) h = simp (q_constant)
  hushed_simple (instr.Iload n) h = absurd (false≢true h)
  hushed_simple (instr.Lload n) h = absurd (false≢true h)
  hushed_simple (instr.Aload n) h = absurd (false≢true h)
  hushed_simple (instr.Istore n) h = absurd (false≢true h)
  hushed_simple (instr.Lstore n) h = absurd (false≢true h)
  hushed_simple (instr.Astore n) h = absurd (false≢true h)
  hushed_simple (instr.Iinc n k) h = absurd (false≢true h)
  hushed_simple (instr.Putfield f) h = absurd (false≢true h)
  hushed_simple (instr.Getstatic f) h = absurd (false≢true h)
  hushed_simple (instr.Invokevirtual m) h = absurd (false≢true h)
  hushed_simple (instr.Invokespecial m) h = absurd (false≢true h)
  hushed_simple (instr.Invokestatic m) h = absurd (false≢true h)
  hushed_simple (instr.New c) h = absurd (false≢true h)
  hushed_simple (instr.Checkcast ty) h = absurd (false≢true h)
  hushed_simple (instr.Instanceof ty) h = absurd (false≢true h)
  hushed_simple instr.Aastore h = absurd (false≢true h)
  hushed_simple instr.Ireturn h = absurd (false≢true h)
  hushed_simple instr.Athrow h = absurd (false≢true h)
  hushed_simple i h = refl

-- ---- where it goes: an instruction whose targets are moved by nothing does the same, so it goes to one of them

targets_same : (at : ℕ → ℕ) (ts : List ℕ) → ((q : ℕ) → Among ts q → at q ≡ q) → map at ts ≡ ts
targets_same at [] h = refl
targets_same at (t ∷ ts) h = let a = h t (inl refl) in let b = targets_same at ts (λ q z. h q (inr z)) in rw (a, b) refl

pairs_same : (at : ℕ → ℕ) (es : List (ℤ × ℕ)) → ((q : ℕ) → Among (map (λ (e : ℤ × ℕ). e.1) es) q → at q ≡ q) → moved_pairs at es ≡ es
pairs_same at [] h = refl
pairs_same at (e ∷ es) h = let a = h e.1 (inl refl) in let b = pairs_same at es (λ q z. h q (inr z)) in ap (λ (t : ℕ). (e.0, t) ∷ moved_pairs at es) a ∙ ap (λ (z : List (ℤ × ℕ)). e ∷ z) b

moved_same : (at : ℕ → ℕ) (i : Instr) → ((q : ℕ) → Among (jump_targets i) q → at q ≡ q) → moved_instr at i ≡ i
unfolding jump_targets
moved_same at (instr.Ifeq t) h = ap instr.Ifeq (h t (inl refl))
moved_same at (instr.Ifne t) h = ap instr.Ifne (h t (inl refl))
moved_same at (instr.Iflt t) h = ap instr.Iflt (h t (inl refl))
moved_same at (instr.Ifge t) h = ap instr.Ifge (h t (inl refl))
moved_same at (instr.Ifgt t) h = ap instr.Ifgt (h t (inl refl))
moved_same at (instr.Ifle t) h = ap instr.Ifle (h t (inl refl))
moved_same at (instr.IfIcmpeq t) h = ap instr.IfIcmpeq (h t (inl refl))
moved_same at (instr.IfIcmpne t) h = ap instr.IfIcmpne (h t (inl refl))
moved_same at (instr.IfIcmplt t) h = ap instr.IfIcmplt (h t (inl refl))
moved_same at (instr.IfIcmpge t) h = ap instr.IfIcmpge (h t (inl refl))
moved_same at (instr.IfIcmpgt t) h = ap instr.IfIcmpgt (h t (inl refl))
moved_same at (instr.IfIcmple t) h = ap instr.IfIcmple (h t (inl refl))
moved_same at (instr.IfAcmpeq t) h = ap instr.IfAcmpeq (h t (inl refl))
moved_same at (instr.IfAcmpne t) h = ap instr.IfAcmpne (h t (inl refl))
moved_same at (instr.Goto t) h = ap instr.Goto (h t (inl refl))
moved_same at (instr.Tableswitch d low ts) h = ap (λ (t : ℕ). instr.Tableswitch t low (map at ts)) (h d (inl refl)) ∙ ap (λ (z : List ℕ). instr.Tableswitch d low z) (targets_same at ts (λ q z. h q (inr z)))
moved_same at (instr.Lookupswitch d es) h = ap (λ (t : ℕ). instr.Lookupswitch t (moved_pairs at es)) (h d (inl refl)) ∙ ap (λ (z : List (ℤ × ℕ)). instr.Lookupswitch d z) (pairs_same at es (λ q z. h q (inr z)))
moved_same at (instr.Ifnull t) h = ap instr.Ifnull (h t (inl refl))
moved_same at (instr.Ifnonnull t) h = ap instr.Ifnonnull (h t (inl refl))
moved_same at (instr.GotoW t) h = ap instr.GotoW (h t (inl refl))
moved_same at i h = refl

-- an instruction past which control doesn't go has no use for the place behind it
pub next_unused : (P : Program) (own : Method) (i : Instr) (a b : ℕ) (l s : List Value) (heap : Objects) → ends_path i ≡ true → does P own i a l s heap ≡ does P own i b l s heap
unfolding does ends_path
next_unused P own (instr.Goto t) a b l s heap h = refl
next_unused P own (instr.GotoW t) a b l s heap h = refl
next_unused P own (instr.Tableswitch d low ts) a b l s heap h = refl
next_unused P own (instr.Lookupswitch d es) a b l s heap h = refl
next_unused P own instr.Ireturn a b l s heap h = refl
next_unused P own instr.Lreturn a b l s heap h = refl
next_unused P own instr.Areturn a b l s heap h = refl
next_unused P own instr.Return a b l s heap h = refl
next_unused P own instr.Athrow a b l s heap h = refl
next_unused P own i a b l s heap h = absurd (false≢true h)

is_among : List ℕ → ℕ → Bool
is_among [] q = false
is_among (t ∷ ts) q = (t == q) || is_among ts q

-- the places of a list stay, all others don't
keeps : List ℕ → ℕ → ℕ
keeps es q = if is_among es q then q else suc q

among_is : (es : List ℕ) (q : ℕ) → Among es q → is_among es q ≡ true
unfolding is_among
among_is [] q a = absurd a
among_is (t ∷ ts) q a = by (eqb_tells t q) a (λ b. among_is ts q b)
  where
    by : ((eqb t q ≡ true) × (t ≡ q)) ⊎ ((eqb t q ≡ false) × (t ≢ q)) → (t ≡ q) ⊎ Among ts q → (Among ts q → is_among ts q ≡ true) → ((t == q) || is_among ts q) ≡ true
    by (inl z) a go = ap (λ (b : Bool). b || is_among ts q) z.0
    by (inr z) (inl a) go = absurd (z.1 a)
    by (inr z) (inr a) go = ap (λ (b : Bool). b || is_among ts q) z.0 ∙ go a

is_among_tells : (es : List ℕ) (q : ℕ) → is_among es q ≡ true → Among es q
unfolding is_among
is_among_tells [] q e = absurd (cc)
is_among_tells (t ∷ ts) q e = by (eqb_tells t q) (λ h. is_among_tells ts q h)
  where
    by : ((eqb t q ≡ true) × (t ≡ q)) ⊎ ((eqb t q ≡ false) × (t ≢ q)) → (is_among ts q ≡ true → Among ts q) → (t ≡ q) ⊎ Among ts q
    by (inl z) go = inl z.1
    by (inr z) go = inr (go (ap (λ (b : Bool). b || is_among ts q) (sym z.0) ∙ e))

keeps_in : (es : List ℕ) (q : ℕ) → Among es q → keeps es q ≡ q
unfolding keeps
keeps_in es q a = ap (λ (b : Bool). if b then q else suc q) (among_is es q a)

keeps_tells : (es : List ℕ) (q : ℕ) → keeps es q ≡ q → Among es q
unfolding keeps
keeps_tells es q e = by (is_among es q) refl e
  where
    by : (b : Bool) → is_among es q ≡ b → (if b then q else suc q) ≡ q → Among es q
    by true h e = is_among_tells es q h
    by false h e = absurd (omega (arith, e))

abbrev place_in : ℕ → Option (ℕ × List Value) → ℕ
place_in d None = d
place_in d (Some z) = z.0

abbrev locals_in : List Value → Option (ℕ × List Value) → List Value
locals_in d None = d
locals_in d (Some z) = z.1

pub goes_elsewhere : (at : ℕ → ℕ) (wl : List Value) (e : Effect) (q : ℕ) (l : List Value) → goes_to e ≡ Some (q, l) → goes_to (elsewhere at wl e) ≡ Some (at q, wl)
goes_elsewhere at wl (Goes p k s heap) q l h = ap (λ (o : Option (ℕ × List Value)). Some (at (place_in q o), wl)) h
goes_elsewhere at wl (Makes o p k s heap) q l h = ap (λ (o : Option (ℕ × List Value)). Some (at (place_in q o), wl)) h
goes_elsewhere at wl (Opens p k s heap) q l h = ap (λ (o : Option (ℕ × List Value)). Some (at (place_in q o), wl)) h
goes_elsewhere at wl (Calls c args p k s heap) q l h = ap (λ (o : Option (ℕ × List Value)). Some (at (place_in q o), wl)) h
goes_elsewhere at wl (Asks c args p k s heap) q l h = ap (λ (o : Option (ℕ × List Value)). Some (at (place_in q o), wl)) h
goes_elsewhere at wl (Returns v heap) q l h = absurd (cc)
goes_elsewhere at wl (Raises c) q l h = absurd (cc)
goes_elsewhere at wl (Throws object class c) q l h = absurd (cc)
goes_elsewhere at wl (Ends c) q l h = absurd (cc)
goes_elsewhere at wl Stuck q l h = absurd (cc)

-- from "it does the same wherever its targets are": it goes to one of them, with its locals
pub lands : (P : Program) (own : Method) (l : List Value) (to : ℕ) (s : List Value) (heap : Objects) (i : Instr)
    → ((at : ℕ → ℕ) → does P own (moved_instr at i) (at to) l s heap ≡ elsewhere at l (does P own i to l s heap))
    → (q : ℕ) (k : List Value) → goes_to (does P own i to l s heap) ≡ Some (q, k) → Among (edges i to) q × (k ≡ l)
lands P own l to s heap i same q k g =
    let at = keeps (edges i to) in
    let e = goes_elsewhere (keeps (edges i to)) l (does P own i to l s heap) q k g in
    let all = sym g ∙ ap goes_to (sym (moved (ends_path i) refl)) ∙ ap goes_to (same (keeps (edges i to))) ∙ e in
    (keeps_tells (edges i to) q (sym (ap (place_in q) all)), ap (locals_in k) all)
  where
    moved : (b : Bool) → ends_path i ≡ b → does P own (moved_instr (keeps (edges i to)) i) (keeps (edges i to) to) l s heap ≡ does P own i to l s heap
    moved true h =
        ap (λ (z : Instr). does P own z (keeps (edges i to) to) l s heap) (moved_same (keeps (edges i to)) i (λ r a. keeps_in (edges i to) r (subst (λ (b : Bool). Among (if b then jump_targets i else to ∷ jump_targets i) r) (sym h) a)))
        ∙ next_unused P own i (keeps (edges i to) to) to l s heap h
    moved false h =
        ap (λ (z : Instr). does P own z (keeps (edges i to) to) l s heap) (moved_same (keeps (edges i to)) i (λ r a. keeps_in (edges i to) r (subst (λ (b : Bool). Among (if b then jump_targets i else to ∷ jump_targets i) r) (sym h) (inr a))))
        ∙ ap (λ (t : ℕ). does P own i t l s heap) (keeps_in (edges i to) to (subst (λ (b : Bool). Among (if b then jump_targets i else to ∷ jump_targets i) to) (sym h) (inl refl)))
