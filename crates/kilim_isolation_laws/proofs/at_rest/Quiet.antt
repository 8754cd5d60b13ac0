-- No instruction but a call asks a built-in method.
use Rattle.std.proofs.Common.{◌≡◌, ℕ, zero, suc, Bool, true, false, cond, ℤ, pos, negsuc, List, [], ◌∷◌, ◌++◌, Option, Some, None}
use Rattle.std.specs.Prelude.{nat_lt, not, slice_get}
use Rattle.std.specs.Ordering.{int_eq}
use Rattle.std.specs.FinMap.{get}
use Rattle.kilim_program.specs.declared.class.Method.{Method}
use Rattle.kilim_program.specs.Program.{Program}
use Rattle.kilim_program.specs.declared.instr.Instr.{Instr}
use Rattle.kilim_program.specs.declared.instr.Instr.TheVariants.{Nop, AconstNull, Iconst, Lconst, Bipush, Sipush, Ldc, LdcW, Ldc2W, Iload, Lload, Aload, Iaload, Laload, Aaload, Baload, Caload, Saload, Istore, Lstore, Astore, Iastore, Lastore, Aastore, Bastore, Castore, Sastore, Pop, Pop2, Dup, DupX1, DupX2, Dup2, Dup2X1, Dup2X2, Swap, Iadd, Ladd, Isub, Lsub, Imul, Lmul, Idiv, Ldiv, Irem, Lrem, Ineg, Lneg, Ishl, Lshl, Ishr, Lshr, Iushr, Lushr, Iand, Land, Ior, Lor, Ixor, Lxor, Iinc, I2l, L2i, I2b, I2c, I2s, Lcmp, Ifeq, Ifne, Iflt, Ifge, Ifgt, Ifle, IfIcmpeq, IfIcmpne, IfIcmplt, IfIcmpge, IfIcmpgt, IfIcmple, IfAcmpeq, IfAcmpne, Goto, Tableswitch, Lookupswitch, Ireturn, Lreturn, Areturn, Return, Getstatic, Getfield, Putfield, Invokevirtual, Invokespecial, Invokestatic, New, Newarray, Anewarray, Arraylength, Checkcast, Instanceof, Ifnull, Ifnonnull, GotoW, Athrow}
use Rattle.kilim_program.specs.declared.ty.Base.{Base}
use Rattle.kilim_program.specs.declared.ty.Base.TheVariants as base
use Rattle.kilim_program.specs.declared.ty.Ty.{Ty}
use Rattle.kilim_program.specs.declared.value.Value.{Value}
use Rattle.kilim_program.specs.declared.value.Value.TheVariants.{Int, Long, Null, Ref, Text, Box, Fiber}
use Rattle.kilim_run_state.specs.declared.value.Object.{Object}
use Rattle.kilim_run_state.specs.Machine.{Objects}
use Rattle.kilim_run_state.specs.Shapes.{field_in}
use Rattle.kilim_program.specs.Names.{field_of}
use Rattle.kilim_run_machine.specs.Effect.{Effect, Goes, Makes, Opens, Calls, Asks, Returns, Raises, Throws, Ends, Stuck, with_some, on_value, on_receiver, as_reference, as_receiver, as_int, as_long, on_int, on_two_ints, on_long, on_two_longs, is_wide, wide_or, on_word, on_two_words, on_reference, as_object, on_object, as_class, at_index, at_place, when, on_constant}
use Rattle.kilim_run_machine.specs.Does.{does, cast_fits, element_type, is_mailbox, makes_array, array_limit, throws_object}

abbrev pub AsksNothing : Effect → Type 0
AsksNothing (Goes place locals stack heap) = Unit {0}
AsksNothing (Makes object place locals stack heap) = Unit {0}
AsksNothing (Opens place locals stack heap) = Unit {0}
AsksNothing (Calls m args place locals stack heap) = Unit {0}
AsksNothing (Asks m args place locals stack heap) = ⊥
AsksNothing (Returns value heap) = Unit {0}
AsksNothing (Raises cause) = Unit {0}
AsksNothing (Throws object class cause) = Unit {0}
AsksNothing (Ends cause) = Unit {0}
AsksNothing Stuck = Unit {0}

-- it asks no built-in method
pub record NoAsk (e : Effect) : Type 0 where
  pub holds : AsksNothing e

-- ---- words

pub no_if : (b : Bool) (x y : Effect) → NoAsk x → NoAsk y → NoAsk (cond b x y)
no_if true x y p q = p
no_if false x y p q = q

pub no_when : (b : Bool) (x : Effect) → NoAsk x → NoAsk (when b x)
no_when true x p = p
no_when false x p = record { holds = tt }

no_wide : (b : Bool) (x y : Effect) → NoAsk x → NoAsk y → NoAsk (wide_or b x y)
no_wide true x y p q = p
no_wide false x y p q = q

pub no_some : {A : Type 0} (o : Option A) (go : A → Effect) → ((x : A) → NoAsk (go x)) → NoAsk (with_some o go)
no_some None go h = record { holds = tt }
no_some (Some x) go h = h x

pub no_value : (st : List Value) (go : Value → List Value → Effect) → ((v : Value) (rest : List Value) → NoAsk (go v rest)) → NoAsk (on_value st go)
no_value [] go h = record { holds = tt }
no_value (v ∷ rest) go h = h v rest

pub no_int : (v : Value) (go : ℤ → Effect) → ((x : ℤ) → NoAsk (go x)) → NoAsk (as_int v go)
no_int (Int x) go h = h x
no_int (Long x) go h = record { holds = tt }
no_int Null go h = record { holds = tt }
no_int (Ref n) go h = record { holds = tt }
no_int (Text units) go h = record { holds = tt }
no_int (Box box) go h = record { holds = tt }
no_int Fiber go h = record { holds = tt }

pub no_long : (v : Value) (go : ℤ → Effect) → ((x : ℤ) → NoAsk (go x)) → NoAsk (as_long v go)
no_long (Int x) go h = record { holds = tt }
no_long (Long x) go h = h x
no_long Null go h = record { holds = tt }
no_long (Ref n) go h = record { holds = tt }
no_long (Text units) go h = record { holds = tt }
no_long (Box box) go h = record { holds = tt }
no_long Fiber go h = record { holds = tt }

pub no_reference : (v : Value) (go : Value → Effect) → ((r : Value) → NoAsk (go r)) → NoAsk (as_reference v go)
no_reference (Int x) go h = record { holds = tt }
no_reference (Long x) go h = record { holds = tt }
no_reference Null go h = h Null
no_reference (Ref n) go h = h (Ref n)
no_reference (Text units) go h = h (Text units)
no_reference (Box box) go h = h (Box box)
no_reference Fiber go h = h Fiber

pub no_receiver : (v : Value) (go : Value → Effect) → ((r : Value) → NoAsk (go r)) → NoAsk (as_receiver v go)
no_receiver (Int x) go h = record { holds = tt }
no_receiver (Long x) go h = record { holds = tt }
no_receiver Null go h = record { holds = tt }
no_receiver (Ref n) go h = h (Ref n)
no_receiver (Text units) go h = h (Text units)
no_receiver (Box box) go h = h (Box box)
no_receiver Fiber go h = h Fiber

pub no_constant : (v : Value) (go : Value → Effect) → ((c : Value) → NoAsk (go c)) → NoAsk (on_constant v go)
no_constant (Int x) go h = h (Int x)
no_constant (Long x) go h = h (Long x)
no_constant Null go h = record { holds = tt }
no_constant (Ref n) go h = record { holds = tt }
no_constant (Text units) go h = h (Text units)
no_constant (Box box) go h = record { holds = tt }
no_constant Fiber go h = record { holds = tt }

pub no_on_int : (st : List Value) (go : ℤ → List Value → Effect) → ((x : ℤ) (rest : List Value) → NoAsk (go x rest)) → NoAsk (on_int st go)
no_on_int st go h = no_value st (λ v rest. as_int v (λ x. go x rest)) (λ v rest. no_int v (λ x. go x rest) (λ x. h x rest))

pub no_on_long : (st : List Value) (go : ℤ → List Value → Effect) → ((x : ℤ) (rest : List Value) → NoAsk (go x rest)) → NoAsk (on_long st go)
no_on_long st go h = no_value st (λ v rest. as_long v (λ x. go x rest)) (λ v rest. no_long v (λ x. go x rest) (λ x. h x rest))

no_two_ints : (st : List Value) (go : ℤ → ℤ → List Value → Effect) → ((a b : ℤ) (rest : List Value) → NoAsk (go a b rest)) → NoAsk (on_two_ints st go)
no_two_ints st go h = no_on_int st (λ b below. on_int below (λ a rest. go a b rest)) (λ b below. no_on_int below (λ a rest. go a b rest) (λ a rest. h a b rest))

no_two_longs : (st : List Value) (go : ℤ → ℤ → List Value → Effect) → ((a b : ℤ) (rest : List Value) → NoAsk (go a b rest)) → NoAsk (on_two_longs st go)
no_two_longs st go h = no_on_long st (λ b below. on_long below (λ a rest. go a b rest)) (λ b below. no_on_long below (λ a rest. go a b rest) (λ a rest. h a b rest))

no_on_reference : (st : List Value) (go : Value → List Value → Effect) → ((r : Value) (rest : List Value) → NoAsk (go r rest)) → NoAsk (on_reference st go)
no_on_reference st go h = no_value st (λ v rest. as_reference v (λ r. go r rest)) (λ v rest. no_reference v (λ r. go r rest) (λ r. h r rest))

pub no_on_receiver : (st : List Value) (go : Value → List Value → Effect) → ((r : Value) (rest : List Value) → NoAsk (go r rest)) → NoAsk (on_receiver st go)
no_on_receiver st go h = no_value st (λ v rest. as_receiver v (λ r. go r rest)) (λ v rest. no_receiver v (λ r. go r rest) (λ r. h r rest))

no_word : (st : List Value) (go : Value → List Value → Effect) → ((v : Value) (rest : List Value) → NoAsk (go v rest)) → NoAsk (on_word st go)
no_word st go h = no_value st (λ v rest. when (not (is_wide v)) (go v rest)) (λ v rest. no_when (not (is_wide v)) (go v rest) (h v rest))

no_two_words : (st : List Value) (go : List Value → List Value → Effect) → ((vs rest : List Value) → NoAsk (go vs rest)) → NoAsk (on_two_words st go)
no_two_words st go h =
    no_value st (λ v rest. wide_or (is_wide v) (go (v ∷ []) rest) (on_word rest (λ w below. go (v ∷ w ∷ []) below)))
    (λ v rest. no_wide (is_wide v) (go (v ∷ []) rest) (on_word rest (λ w below. go (v ∷ w ∷ []) below)) (h (v ∷ []) rest) (no_word rest (λ w below. go (v ∷ w ∷ []) below) (λ w below. h (v ∷ w ∷ []) below)))

pub no_object : (v : Value) (heap : Objects) (go : ℕ → Object → Effect) → ((n : ℕ) (object : Object) → NoAsk (go n object)) → NoAsk (as_object v heap go)
no_object (Int x) heap go h = record { holds = tt }
no_object (Long x) heap go h = record { holds = tt }
no_object Null heap go h = record { holds = tt }
no_object (Ref n) heap go h = no_some (get heap n) (λ object. go n object) (λ object. h n object)
no_object (Text units) heap go h = record { holds = tt }
no_object (Box box) heap go h = record { holds = tt }
no_object Fiber heap go h = record { holds = tt }

pub no_on_object : (st : List Value) (heap : Objects) (go : ℕ → Object → List Value → Effect) → ((n : ℕ) (object : Object) (rest : List Value) → NoAsk (go n object rest)) → NoAsk (on_object st heap go)
no_on_object st heap go h = no_value st (λ v rest. as_object v heap (λ n object. go n object rest)) (λ v rest. no_object v heap (λ n object. go n object rest) (λ n object. h n object rest))

no_class : (p : Program) (v : Value) (heap : Objects) (go : Option Ty → Effect) → ((class : Option Ty) → NoAsk (go class)) → NoAsk (as_class p v heap go)
no_class p (Int x) heap go h = record { holds = tt }
no_class p (Long x) heap go h = record { holds = tt }
no_class p Null heap go h = h None
no_class p (Ref n) heap go h = no_some (get heap n) (λ object. go (Some object.class)) (λ object. h (Some object.class))
no_class p (Text units) heap go h = h _
no_class p (Box box) heap go h = h _
no_class p Fiber heap go h = h _

no_place : (o : Option Value) (go : Value → Effect) → ((v : Value) → NoAsk (go v)) → NoAsk (at_place o go)
no_place None go h = record { holds = tt }
no_place (Some v) go h = h v

pub no_index : (elements : List Value) (i : ℤ) (go : ℕ → Value → Effect) → ((k : ℕ) (v : Value) → NoAsk (go k v)) → NoAsk (at_index elements i go)
no_index elements (negsuc i) go h = record { holds = tt }
no_index elements (pos i) go h = no_place _ (go i) (h i)

no_array : (ty : Ty) (v : Value) (n : ℤ) (next : ℕ) (locals rest : List Value) (heap : Objects) → NoAsk (makes_array ty v n next locals rest heap)
no_array ty v (negsuc n) next locals rest heap = record { holds = tt }
no_array ty v (pos n) next locals rest heap = no_if (nat_lt array_limit n) _ _ (record { holds = tt }) (record { holds = tt })

-- ---- rows

abbrev pub is_call : Instr → Bool
is_call (Invokevirtual m) = true
is_call (Invokespecial m) = true
is_call (Invokestatic m) = true
is_call i = false

no_throw : (p : Program) (n dims : ℕ) (b : Base) → NoAsk (throws_object p n dims b)
no_throw p n zero (base.Class c) = record { holds = tt }
no_throw p n zero b = record { holds = tt }
no_throw p n (suc d) b = record { holds = tt }

pub no_ask : (p : Program) (own : Method) (i : Instr) (next : ℕ) (locals stack : List Value) (heap : Objects) → is_call i ≡ false → NoAsk (does p own i next locals stack heap)
unfolding does
no_ask p own Nop next locals stack heap e = (record { holds = tt })
no_ask p own AconstNull next locals stack heap e = (record { holds = tt })
no_ask p own (Iconst n) next locals stack heap e = (record { holds = tt })
no_ask p own (Lconst n) next locals stack heap e = (record { holds = tt })
no_ask p own (Bipush n) next locals stack heap e = (record { holds = tt })
no_ask p own (Sipush n) next locals stack heap e = (record { holds = tt })
no_ask p own (Ldc v) next locals stack heap e = no_constant v _ (λ c. (record { holds = tt }))
no_ask p own (LdcW v) next locals stack heap e = no_constant v _ (λ c. (record { holds = tt }))
no_ask p own (Ldc2W v) next locals stack heap e = no_constant v _ (λ c. (record { holds = tt }))
no_ask p own (Iload n) next locals stack heap e = no_some (slice_get locals n) _ (λ v. no_int v _ (λ x. (record { holds = tt })))
no_ask p own (Lload n) next locals stack heap e = no_some (slice_get locals n) _ (λ v. no_long v _ (λ x. (record { holds = tt })))
no_ask p own (Aload n) next locals stack heap e = no_some (slice_get locals n) _ (λ v. no_reference v _ (λ x. (record { holds = tt })))
no_ask p own (Istore n) next locals stack heap e = no_on_int stack _ (λ x rest. no_some (slice_get locals n) _ (λ old. (record { holds = tt })))
no_ask p own (Lstore n) next locals stack heap e = no_on_long stack _ (λ x rest. no_some (slice_get locals n) _ (λ old. (record { holds = tt })))
no_ask p own (Astore n) next locals stack heap e = no_on_reference stack _ (λ x rest. no_some (slice_get locals n) _ (λ old. (record { holds = tt })))
no_ask p own (Iinc n k) next locals stack heap e = no_some (slice_get locals n) _ (λ v. no_int v _ (λ x. (record { holds = tt })))
no_ask p own Iaload next locals stack heap e = no_on_int stack _ (λ i below. no_on_object below heap _ (λ n object rest. no_index object.elements i _ (λ k v. no_int v _ (λ x. (record { holds = tt })))))
no_ask p own Laload next locals stack heap e = no_on_int stack _ (λ i below. no_on_object below heap _ (λ n object rest. no_index object.elements i _ (λ k v. no_long v _ (λ x. (record { holds = tt })))))
no_ask p own Aaload next locals stack heap e = no_on_int stack _ (λ i below. no_on_object below heap _ (λ n object rest. no_index object.elements i _ (λ k v. (record { holds = tt }))))
no_ask p own Baload next locals stack heap e = no_on_int stack _ (λ i below. no_on_object below heap _ (λ n object rest. no_index object.elements i _ (λ k v. no_int v _ (λ x. (record { holds = tt })))))
no_ask p own Caload next locals stack heap e = no_on_int stack _ (λ i below. no_on_object below heap _ (λ n object rest. no_index object.elements i _ (λ k v. no_int v _ (λ x. (record { holds = tt })))))
no_ask p own Saload next locals stack heap e = no_on_int stack _ (λ i below. no_on_object below heap _ (λ n object rest. no_index object.elements i _ (λ k v. no_int v _ (λ x. (record { holds = tt })))))
no_ask p own Iastore next locals stack heap e = no_on_int stack _ (λ x above. no_on_int above _ (λ i below. no_on_object below heap _ (λ n object rest. no_index object.elements i _ (λ k old. (record { holds = tt })))))
no_ask p own Lastore next locals stack heap e = no_on_long stack _ (λ x above. no_on_int above _ (λ i below. no_on_object below heap _ (λ n object rest. no_index object.elements i _ (λ k old. (record { holds = tt })))))
no_ask p own Aastore next locals stack heap e = no_value stack _ (λ v above. no_on_int above _ (λ i below. no_on_object below heap _ (λ n object rest. no_index object.elements i _ (λ k old. no_class p v heap _ (λ class. no_if (cast_fits p class (element_type object.class)) _ _ (record { holds = tt }) (record { holds = tt }))))))
no_ask p own Bastore next locals stack heap e = no_on_int stack _ (λ x above. no_on_int above _ (λ i below. no_on_object below heap _ (λ n object rest. no_index object.elements i _ (λ k old. (record { holds = tt })))))
no_ask p own Castore next locals stack heap e = no_on_int stack _ (λ x above. no_on_int above _ (λ i below. no_on_object below heap _ (λ n object rest. no_index object.elements i _ (λ k old. (record { holds = tt })))))
no_ask p own Sastore next locals stack heap e = no_on_int stack _ (λ x above. no_on_int above _ (λ i below. no_on_object below heap _ (λ n object rest. no_index object.elements i _ (λ k old. (record { holds = tt })))))
no_ask p own Pop next locals stack heap e = no_word stack _ (λ v rest. (record { holds = tt }))
no_ask p own Pop2 next locals stack heap e = no_two_words stack (λ vs rest. Goes next locals rest heap) (λ vs rest. (record { holds = tt }))
no_ask p own Dup next locals stack heap e = no_word stack _ (λ v rest. (record { holds = tt }))
no_ask p own DupX1 next locals stack heap e = no_word stack _ (λ v rest. no_word rest _ (λ w below. (record { holds = tt })))
no_ask p own DupX2 next locals stack heap e = no_word stack _ (λ v rest. no_two_words rest (λ ws r. Goes next locals (v ∷ (ws ++ v ∷ r)) heap) (λ w below. (record { holds = tt })))
no_ask p own Dup2 next locals stack heap e = no_two_words stack (λ vs rest. Goes next locals (vs ++ (vs ++ rest)) heap) (λ vs rest. (record { holds = tt }))
no_ask p own Dup2X1 next locals stack heap e = no_two_words stack (λ vs below. on_word below (λ w rest. Goes next locals (vs ++ w ∷ (vs ++ rest)) heap)) (λ vs rest. no_word rest _ (λ w below. (record { holds = tt })))
no_ask p own Dup2X2 next locals stack heap e = no_two_words stack (λ vs below. on_two_words below (λ ws rest. Goes next locals (vs ++ (ws ++ (vs ++ rest))) heap)) (λ vs rest. no_two_words rest (λ ws r. Goes next locals (vs ++ (ws ++ (vs ++ r))) heap) (λ w below. (record { holds = tt })))
no_ask p own Swap next locals stack heap e = no_word stack _ (λ v rest. no_word rest _ (λ w below. (record { holds = tt })))
no_ask p own Iadd next locals stack heap e = no_two_ints stack _ (λ a b rest. (record { holds = tt }))
no_ask p own Ladd next locals stack heap e = no_two_longs stack _ (λ a b rest. (record { holds = tt }))
no_ask p own Isub next locals stack heap e = no_two_ints stack _ (λ a b rest. (record { holds = tt }))
no_ask p own Lsub next locals stack heap e = no_two_longs stack _ (λ a b rest. (record { holds = tt }))
no_ask p own Imul next locals stack heap e = no_two_ints stack _ (λ a b rest. (record { holds = tt }))
no_ask p own Lmul next locals stack heap e = no_two_longs stack _ (λ a b rest. (record { holds = tt }))
no_ask p own Idiv next locals stack heap e = no_two_ints stack _ (λ a b rest. no_if (int_eq b (pos 0)) _ _ (record { holds = tt }) (record { holds = tt }))
no_ask p own Ldiv next locals stack heap e = no_two_longs stack _ (λ a b rest. no_if (int_eq b (pos 0)) _ _ (record { holds = tt }) (record { holds = tt }))
no_ask p own Irem next locals stack heap e = no_two_ints stack _ (λ a b rest. no_if (int_eq b (pos 0)) _ _ (record { holds = tt }) (record { holds = tt }))
no_ask p own Lrem next locals stack heap e = no_two_longs stack _ (λ a b rest. no_if (int_eq b (pos 0)) _ _ (record { holds = tt }) (record { holds = tt }))
no_ask p own Ineg next locals stack heap e = no_on_int stack _ (λ x rest. (record { holds = tt }))
no_ask p own Lneg next locals stack heap e = no_on_long stack _ (λ x rest. (record { holds = tt }))
no_ask p own Ishl next locals stack heap e = no_two_ints stack _ (λ a b rest. (record { holds = tt }))
no_ask p own Lshl next locals stack heap e = no_on_int stack _ (λ b below. no_on_long below _ (λ a rest. (record { holds = tt })))
no_ask p own Ishr next locals stack heap e = no_two_ints stack _ (λ a b rest. (record { holds = tt }))
no_ask p own Lshr next locals stack heap e = no_on_int stack _ (λ b below. no_on_long below _ (λ a rest. (record { holds = tt })))
no_ask p own Iushr next locals stack heap e = no_two_ints stack _ (λ a b rest. (record { holds = tt }))
no_ask p own Lushr next locals stack heap e = no_on_int stack _ (λ b below. no_on_long below _ (λ a rest. (record { holds = tt })))
no_ask p own Iand next locals stack heap e = no_two_ints stack _ (λ a b rest. (record { holds = tt }))
no_ask p own Land next locals stack heap e = no_two_longs stack _ (λ a b rest. (record { holds = tt }))
no_ask p own Ior next locals stack heap e = no_two_ints stack _ (λ a b rest. (record { holds = tt }))
no_ask p own Lor next locals stack heap e = no_two_longs stack _ (λ a b rest. (record { holds = tt }))
no_ask p own Ixor next locals stack heap e = no_two_ints stack _ (λ a b rest. (record { holds = tt }))
no_ask p own Lxor next locals stack heap e = no_two_longs stack _ (λ a b rest. (record { holds = tt }))
no_ask p own I2l next locals stack heap e = no_on_int stack _ (λ x rest. (record { holds = tt }))
no_ask p own L2i next locals stack heap e = no_on_long stack _ (λ x rest. (record { holds = tt }))
no_ask p own I2b next locals stack heap e = no_on_int stack _ (λ x rest. (record { holds = tt }))
no_ask p own I2c next locals stack heap e = no_on_int stack _ (λ x rest. (record { holds = tt }))
no_ask p own I2s next locals stack heap e = no_on_int stack _ (λ x rest. (record { holds = tt }))
no_ask p own Lcmp next locals stack heap e = no_two_longs stack _ (λ a b rest. (record { holds = tt }))
no_ask p own (Ifeq to) next locals stack heap e = no_on_int stack _ (λ x rest. (record { holds = tt }))
no_ask p own (Ifne to) next locals stack heap e = no_on_int stack _ (λ x rest. (record { holds = tt }))
no_ask p own (Iflt to) next locals stack heap e = no_on_int stack _ (λ x rest. (record { holds = tt }))
no_ask p own (Ifge to) next locals stack heap e = no_on_int stack _ (λ x rest. (record { holds = tt }))
no_ask p own (Ifgt to) next locals stack heap e = no_on_int stack _ (λ x rest. (record { holds = tt }))
no_ask p own (Ifle to) next locals stack heap e = no_on_int stack _ (λ x rest. (record { holds = tt }))
no_ask p own (IfIcmpeq to) next locals stack heap e = no_two_ints stack _ (λ a b rest. (record { holds = tt }))
no_ask p own (IfIcmpne to) next locals stack heap e = no_two_ints stack _ (λ a b rest. (record { holds = tt }))
no_ask p own (IfIcmplt to) next locals stack heap e = no_two_ints stack _ (λ a b rest. (record { holds = tt }))
no_ask p own (IfIcmpge to) next locals stack heap e = no_two_ints stack _ (λ a b rest. (record { holds = tt }))
no_ask p own (IfIcmpgt to) next locals stack heap e = no_two_ints stack _ (λ a b rest. (record { holds = tt }))
no_ask p own (IfIcmple to) next locals stack heap e = no_two_ints stack _ (λ a b rest. (record { holds = tt }))
no_ask p own (IfAcmpeq to) next locals stack heap e = no_on_reference stack _ (λ w below. no_on_reference below _ (λ v rest. (record { holds = tt })))
no_ask p own (IfAcmpne to) next locals stack heap e = no_on_reference stack _ (λ w below. no_on_reference below _ (λ v rest. (record { holds = tt })))
no_ask p own (Ifnull to) next locals stack heap e = no_on_reference stack _ (λ v rest. (record { holds = tt }))
no_ask p own (Ifnonnull to) next locals stack heap e = no_on_reference stack _ (λ v rest. (record { holds = tt }))
no_ask p own (Goto to) next locals stack heap e = (record { holds = tt })
no_ask p own (GotoW to) next locals stack heap e = (record { holds = tt })
no_ask p own (Tableswitch default low targets) next locals stack heap e = no_on_int stack _ (λ x rest. (record { holds = tt }))
no_ask p own (Lookupswitch default entries) next locals stack heap e = no_on_int stack _ (λ x rest. (record { holds = tt }))
no_ask p own Ireturn next locals stack heap e = no_on_int stack _ (λ x rest. (record { holds = tt }))
no_ask p own Lreturn next locals stack heap e = no_on_long stack _ (λ x rest. (record { holds = tt }))
no_ask p own Areturn next locals stack heap e = no_on_reference stack _ (λ v rest. (record { holds = tt }))
no_ask p own Return next locals stack heap e = (record { holds = tt })
no_ask p own (Getstatic f) next locals stack heap e = no_some (field_of p f) _ (λ field. no_some field.constant _ (λ v. no_constant v _ (λ c. (record { holds = tt }))))
no_ask p own (Getfield f) next locals stack heap e = no_on_object stack heap _ (λ n object rest. no_some (field_in object.fields f) _ (λ v. (record { holds = tt })))
no_ask p own (Putfield f) next locals stack heap e = no_value stack _ (λ v below. no_on_object below heap _ (λ n object rest. no_some (field_of p f) _ (λ field. no_some (field_in object.fields f) _ (λ old. (record { holds = tt })))))
no_ask p own (Invokevirtual m) next locals stack heap e = absurd (cc)
no_ask p own (Invokespecial m) next locals stack heap e = absurd (cc)
no_ask p own (Invokestatic m) next locals stack heap e = absurd (cc)
no_ask p own (New c) next locals stack heap e = no_if (is_mailbox p c) _ _ (record { holds = tt }) (record { holds = tt })
no_ask p own (Newarray b) next locals stack heap e = no_on_int stack _ (λ n rest. no_array _ _ n next locals rest heap)
no_ask p own (Anewarray ty) next locals stack heap e = no_on_int stack _ (λ n rest. no_array _ _ n next locals rest heap)
no_ask p own Arraylength next locals stack heap e = no_on_object stack heap _ (λ n object rest. (record { holds = tt }))
no_ask p own (Checkcast ty) next locals stack heap e = no_value stack _ (λ v rest. no_class p v heap _ (λ class. no_if (cast_fits p class ty) _ _ (record { holds = tt }) (record { holds = tt })))
no_ask p own (Instanceof ty) next locals stack heap e = no_value stack _ (λ v rest. no_class p v heap _ (λ class. (record { holds = tt })))
no_ask p own Athrow next locals stack heap e = no_on_object stack heap _ (λ n object rest. no_throw p n object.class.dims object.class.base)
