-- What an instruction leaves of a heap: each object that was there is there.
use Rattle.std.proofs.Common.{◌≡◌, ℕ, zero, suc, Bool, true, false, cond, ℤ, pos, negsuc, List, [], ◌∷◌, ◌++◌, Option, Some, None, inl, inr, refl, sym, subst, ◌∙◌}
use Rattle.std.specs.Prelude.{nat_lt, not, slice_get, reverse, length}
use Rattle.std.specs.Ordering.{int_eq}
use Rattle.std.specs.FinMap.{get, insert}
use Rattle.std.proofs.lemmas.Bool.Decides.{eqb_tells}
use Rattle.kilim_lemmas.proofs.Maps.{put_there, put_other}
use Rattle.kilim_program.specs.declared.class.Method.{Method}
use Rattle.kilim_program.specs.Program.{Program}
use Rattle.kilim_program.specs.declared.instr.Instr.{Instr}
use Rattle.kilim_program.specs.declared.instr.Instr.TheVariants.{Nop, AconstNull, Iconst, Lconst, Bipush, Sipush, Ldc, LdcW, Ldc2W, Iload, Lload, Aload, Iaload, Laload, Aaload, Baload, Caload, Saload, Istore, Lstore, Astore, Iastore, Lastore, Aastore, Bastore, Castore, Sastore, Pop, Pop2, Dup, DupX1, DupX2, Dup2, Dup2X1, Dup2X2, Swap, Iadd, Ladd, Isub, Lsub, Imul, Lmul, Idiv, Ldiv, Irem, Lrem, Ineg, Lneg, Ishl, Lshl, Ishr, Lshr, Iushr, Lushr, Iand, Land, Ior, Lor, Ixor, Lxor, Iinc, I2l, L2i, I2b, I2c, I2s, Lcmp, Ifeq, Ifne, Iflt, Ifge, Ifgt, Ifle, IfIcmpeq, IfIcmpne, IfIcmplt, IfIcmpge, IfIcmpgt, IfIcmple, IfAcmpeq, IfAcmpne, Goto, Tableswitch, Lookupswitch, Ireturn, Lreturn, Areturn, Return, Getstatic, Getfield, Putfield, Invokevirtual, Invokespecial, Invokestatic, New, Newarray, Anewarray, Arraylength, Checkcast, Instanceof, Ifnull, Ifnonnull, GotoW, Athrow}
use Rattle.kilim_program.specs.declared.ty.Base.{Base}
use Rattle.kilim_program.specs.declared.ty.Base.TheVariants as base
use Rattle.kilim_program.specs.declared.ty.Ty.{Ty}
use Rattle.kilim_program.specs.declared.value.Value.{Value}
use Rattle.kilim_program.specs.declared.value.Value.TheVariants.{Int, Long, Null, Ref, Text, Box, Fiber}
use Rattle.kilim_run_state.specs.declared.value.Object.{Object}
use Rattle.kilim_run_state.specs.Machine.{Objects}
use Rattle.kilim_run_state.specs.Shapes.{field_in}
use Rattle.kilim_program.specs.BuiltIn.{message_field}
use Rattle.kilim_program.specs.Names.{field_of}
use Rattle.kilim_run_machine.specs.Effect.{Effect, Goes, Makes, Opens, Calls, Asks, Returns, Raises, Throws, Ends, Stuck, with_some, on_value, on_values, on_receiver, as_reference, as_receiver, as_int, as_long, on_int, on_two_ints, on_long, on_two_longs, is_wide, wide_or, on_word, on_two_words, on_reference, as_object, on_object, as_class, at_index, at_place, when, on_constant}
use Rattle.kilim_run_machine.specs.Does.{does, cast_fits, element_type, is_mailbox, makes_array, array_limit, throws_object}
use Rattle.kilim_program.specs.declared.names.MethodId.{MethodId}
use Rattle.kilim_program.specs.Names.{method_at}
use Rattle.kilim_program.specs.Lengths.{fetched}
use Rattle.kilim_run_state.specs.Machine.{Activation}
use Rattle.kilim_run_machine.specs.Natives.{is_built_in_constructor, is_get_message, is_handed_out, is_message_constructor, is_text_method}
use Rattle.kilim_run_machine.specs.Effect.{text_of}
use Rattle.kilim_run_machine.specs.Does.{chosen, calls_method, calls_on, gives_message, keeps_message, special, calls_text, takes_element, text_answers, at_unit, unit_at}
use Rattle.kilim_run_machine.specs.Moves.{Move, effect_of, effect_in, effect_found, moves, move_by, returned, frame_limit}
use Rattle.kilim_run_machine.specs.Moves as move
use Rattle.kilim_run_state.specs.declared.cause.EndCause.TheVariants as cause

-- what is in the one is in the other
abbrev pub AllStay : Objects → Objects → Type 0
AllStay h k = (n : ℕ) (o : Object) → get h n ≡ Some o → (q : Object) × (get k n ≡ Some q)

module _ (h : Objects) where
  pub same : AllStay h h
  same n o e = (o, e)

  pub put : (m : ℕ) (x : Object) → AllStay h (insert h m x)
  put m x n o e = elim (eqb_tells n m) [
    | inl z ↦ (x, subst (λ (j : ℕ). get (insert h m x) j ≡ Some x) (sym z.1) (put_there h m x))
    | inr z ↦ (o, put_other h m x n z.1 ∙ e)
  ]

  -- Where an effect has no heap of its own, nothing is asked.
  abbrev pub HeapStays : Effect → Type 0
  HeapStays (Goes place locals stack heap) = AllStay h heap
  HeapStays (Makes object place locals stack heap) = AllStay h heap
  HeapStays (Opens place locals stack heap) = AllStay h heap
  HeapStays (Calls m args place locals stack heap) = AllStay h heap
  HeapStays (Asks m args place locals stack heap) = AllStay h heap
  HeapStays (Returns value heap) = AllStay h heap
  HeapStays (Raises cause) = AllStay h h
  HeapStays (Throws object class cause) = AllStay h h
  HeapStays (Ends cause) = AllStay h h
  HeapStays Stuck = AllStay h h

  pub record Stay (e : Effect) : Type 0 where
    pub holds : HeapStays e

  -- ---- words

  pub st_if : (b : Bool) (x y : Effect) → Stay x → Stay y → Stay (cond b x y)
  st_if true x y p q = p
  st_if false x y p q = q

  pub st_when : (b : Bool) (x : Effect) → Stay x → Stay (when b x)
  st_when true x p = p
  st_when false x p = record { holds = same }

  st_wide : (b : Bool) (x y : Effect) → Stay x → Stay y → Stay (wide_or b x y)
  st_wide true x y p q = p
  st_wide false x y p q = q

  pub st_some : {A : Type 0} (o : Option A) (go : A → Effect) → ((x : A) → Stay (go x)) → Stay (with_some o go)
  st_some None go f = record { holds = same }
  st_some (Some x) go f = f x

  pub st_value : (st : List Value) (go : Value → List Value → Effect) → ((v : Value) (rest : List Value) → Stay (go v rest)) → Stay (on_value st go)
  st_value [] go f = record { holds = same }
  st_value (v ∷ rest) go f = f v rest

  pub st_int : (v : Value) (go : ℤ → Effect) → ((x : ℤ) → Stay (go x)) → Stay (as_int v go)
  st_int (Int x) go f = f x
  st_int (Long x) go f = record { holds = same }
  st_int Null go f = record { holds = same }
  st_int (Ref n) go f = record { holds = same }
  st_int (Text units) go f = record { holds = same }
  st_int (Box box) go f = record { holds = same }
  st_int Fiber go f = record { holds = same }

  pub st_long : (v : Value) (go : ℤ → Effect) → ((x : ℤ) → Stay (go x)) → Stay (as_long v go)
  st_long (Int x) go f = record { holds = same }
  st_long (Long x) go f = f x
  st_long Null go f = record { holds = same }
  st_long (Ref n) go f = record { holds = same }
  st_long (Text units) go f = record { holds = same }
  st_long (Box box) go f = record { holds = same }
  st_long Fiber go f = record { holds = same }

  pub st_reference : (v : Value) (go : Value → Effect) → ((r : Value) → Stay (go r)) → Stay (as_reference v go)
  st_reference (Int x) go f = record { holds = same }
  st_reference (Long x) go f = record { holds = same }
  st_reference Null go f = f Null
  st_reference (Ref n) go f = f (Ref n)
  st_reference (Text units) go f = f (Text units)
  st_reference (Box box) go f = f (Box box)
  st_reference Fiber go f = f Fiber

  pub st_receiver : (v : Value) (go : Value → Effect) → ((r : Value) → Stay (go r)) → Stay (as_receiver v go)
  st_receiver (Int x) go f = record { holds = same }
  st_receiver (Long x) go f = record { holds = same }
  st_receiver Null go f = record { holds = same }
  st_receiver (Ref n) go f = f (Ref n)
  st_receiver (Text units) go f = f (Text units)
  st_receiver (Box box) go f = f (Box box)
  st_receiver Fiber go f = f Fiber

  pub st_constant : (v : Value) (go : Value → Effect) → ((c : Value) → Stay (go c)) → Stay (on_constant v go)
  st_constant (Int x) go f = f (Int x)
  st_constant (Long x) go f = f (Long x)
  st_constant Null go f = record { holds = same }
  st_constant (Ref n) go f = record { holds = same }
  st_constant (Text units) go f = f (Text units)
  st_constant (Box box) go f = record { holds = same }
  st_constant Fiber go f = record { holds = same }

  pub st_on_int : (st : List Value) (go : ℤ → List Value → Effect) → ((x : ℤ) (rest : List Value) → Stay (go x rest)) → Stay (on_int st go)
  st_on_int st go f = st_value st (λ v rest. as_int v (λ x. go x rest)) (λ v rest. st_int v (λ x. go x rest) (λ x. f x rest))

  pub st_on_long : (st : List Value) (go : ℤ → List Value → Effect) → ((x : ℤ) (rest : List Value) → Stay (go x rest)) → Stay (on_long st go)
  st_on_long st go f = st_value st (λ v rest. as_long v (λ x. go x rest)) (λ v rest. st_long v (λ x. go x rest) (λ x. f x rest))

  st_two_ints : (st : List Value) (go : ℤ → ℤ → List Value → Effect) → ((a b : ℤ) (rest : List Value) → Stay (go a b rest)) → Stay (on_two_ints st go)
  st_two_ints st go f = st_on_int st (λ b below. on_int below (λ a rest. go a b rest)) (λ b below. st_on_int below (λ a rest. go a b rest) (λ a rest. f a b rest))

  st_two_longs : (st : List Value) (go : ℤ → ℤ → List Value → Effect) → ((a b : ℤ) (rest : List Value) → Stay (go a b rest)) → Stay (on_two_longs st go)
  st_two_longs st go f = st_on_long st (λ b below. on_long below (λ a rest. go a b rest)) (λ b below. st_on_long below (λ a rest. go a b rest) (λ a rest. f a b rest))

  st_on_reference : (st : List Value) (go : Value → List Value → Effect) → ((r : Value) (rest : List Value) → Stay (go r rest)) → Stay (on_reference st go)
  st_on_reference st go f = st_value st (λ v rest. as_reference v (λ r. go r rest)) (λ v rest. st_reference v (λ r. go r rest) (λ r. f r rest))

  pub st_on_receiver : (st : List Value) (go : Value → List Value → Effect) → ((r : Value) (rest : List Value) → Stay (go r rest)) → Stay (on_receiver st go)
  st_on_receiver st go f = st_value st (λ v rest. as_receiver v (λ r. go r rest)) (λ v rest. st_receiver v (λ r. go r rest) (λ r. f r rest))

  st_word : (st : List Value) (go : Value → List Value → Effect) → ((v : Value) (rest : List Value) → Stay (go v rest)) → Stay (on_word st go)
  st_word st go f = st_value st (λ v rest. when (not (is_wide v)) (go v rest)) (λ v rest. st_when (not (is_wide v)) (go v rest) (f v rest))

  st_two_words : (st : List Value) (go : List Value → List Value → Effect) → ((vs rest : List Value) → Stay (go vs rest)) → Stay (on_two_words st go)
  st_two_words st go f =
      st_value st (λ v rest. wide_or (is_wide v) (go (v ∷ []) rest) (on_word rest (λ w below. go (v ∷ w ∷ []) below)))
      (λ v rest. st_wide (is_wide v) (go (v ∷ []) rest) (on_word rest (λ w below. go (v ∷ w ∷ []) below)) (f (v ∷ []) rest) (st_word rest (λ w below. go (v ∷ w ∷ []) below) (λ w below. f (v ∷ w ∷ []) below)))

  st_object : (v : Value) (heap : Objects) (go : ℕ → Object → Effect) → ((n : ℕ) (object : Object) → Stay (go n object)) → Stay (as_object v heap go)
  st_object (Int x) heap go f = record { holds = same }
  st_object (Long x) heap go f = record { holds = same }
  st_object Null heap go f = record { holds = same }
  st_object (Ref n) heap go f = st_some (get heap n) (λ object. go n object) (λ object. f n object)
  st_object (Text units) heap go f = record { holds = same }
  st_object (Box box) heap go f = record { holds = same }
  st_object Fiber heap go f = record { holds = same }

  pub st_on_object : (st : List Value) (heap : Objects) (go : ℕ → Object → List Value → Effect) → ((n : ℕ) (object : Object) (rest : List Value) → Stay (go n object rest)) → Stay (on_object st heap go)
  st_on_object st heap go f = st_value st (λ v rest. as_object v heap (λ n object. go n object rest)) (λ v rest. st_object v heap (λ n object. go n object rest) (λ n object. f n object rest))

  st_class : (p : Program) (v : Value) (heap : Objects) (go : Option Ty → Effect) → ((class : Option Ty) → Stay (go class)) → Stay (as_class p v heap go)
  st_class p (Int x) heap go f = record { holds = same }
  st_class p (Long x) heap go f = record { holds = same }
  st_class p Null heap go f = f None
  st_class p (Ref n) heap go f = st_some (get heap n) (λ object. go (Some object.class)) (λ object. f (Some object.class))
  st_class p (Text units) heap go f = f _
  st_class p (Box box) heap go f = f _
  st_class p Fiber heap go f = f _

  st_place : (o : Option Value) (go : Value → Effect) → ((v : Value) → Stay (go v)) → Stay (at_place o go)
  st_place None go f = record { holds = same }
  st_place (Some v) go f = f v

  pub st_index : (elements : List Value) (i : ℤ) (go : ℕ → Value → Effect) → ((k : ℕ) (v : Value) → Stay (go k v)) → Stay (at_index elements i go)
  st_index elements (negsuc i) go f = record { holds = same }
  st_index elements (pos i) go f = st_place _ (go i) (f i)

  st_array : (ty : Ty) (v : Value) (n : ℤ) (next : ℕ) (locals rest : List Value) → Stay (makes_array ty v n next locals rest h)
  st_array ty v (negsuc n) next locals rest = record { holds = same }
  st_array ty v (pos n) next locals rest = st_if (nat_lt array_limit n) _ _ (record { holds = same }) (record { holds = same })

  st_throw : (p : Program) (n dims : ℕ) (b : Base) → Stay (throws_object p n dims b)
  st_throw p n zero (base.Class c) = record { holds = same }
  st_throw p n zero b = record { holds = same }
  st_throw p n (suc d) b = record { holds = same }

  -- ---- rows

  abbrev pub is_call : Instr → Bool
  is_call (Invokevirtual m) = true
  is_call (Invokespecial m) = true
  is_call (Invokestatic m) = true
  is_call i = false

  pub st_ask : (p : Program) (own : Method) (i : Instr) (next : ℕ) (locals stack : List Value) → is_call i ≡ false → Stay (does p own i next locals stack h)
  unfolding does
  st_ask p own Nop next locals stack e = (record { holds = same })
  st_ask p own AconstNull next locals stack e = (record { holds = same })
  st_ask p own (Iconst n) next locals stack e = (record { holds = same })
  st_ask p own (Lconst n) next locals stack e = (record { holds = same })
  st_ask p own (Bipush n) next locals stack e = (record { holds = same })
  st_ask p own (Sipush n) next locals stack e = (record { holds = same })
  st_ask p own (Ldc v) next locals stack e = st_constant v _ (λ c. (record { holds = same }))
  st_ask p own (LdcW v) next locals stack e = st_constant v _ (λ c. (record { holds = same }))
  st_ask p own (Ldc2W v) next locals stack e = st_constant v _ (λ c. (record { holds = same }))
  st_ask p own (Iload n) next locals stack e = st_some (slice_get locals n) _ (λ v. st_int v _ (λ x. (record { holds = same })))
  st_ask p own (Lload n) next locals stack e = st_some (slice_get locals n) _ (λ v. st_long v _ (λ x. (record { holds = same })))
  st_ask p own (Aload n) next locals stack e = st_some (slice_get locals n) _ (λ v. st_reference v _ (λ x. (record { holds = same })))
  st_ask p own (Istore n) next locals stack e = st_on_int stack _ (λ x rest. st_some (slice_get locals n) _ (λ old. (record { holds = same })))
  st_ask p own (Lstore n) next locals stack e = st_on_long stack _ (λ x rest. st_some (slice_get locals n) _ (λ old. (record { holds = same })))
  st_ask p own (Astore n) next locals stack e = st_on_reference stack _ (λ x rest. st_some (slice_get locals n) _ (λ old. (record { holds = same })))
  st_ask p own (Iinc n k) next locals stack e = st_some (slice_get locals n) _ (λ v. st_int v _ (λ x. (record { holds = same })))
  st_ask p own Iaload next locals stack e = st_on_int stack _ (λ i below. st_on_object below h _ (λ n object rest. st_index object.elements i _ (λ k v. st_int v _ (λ x. (record { holds = same })))))
  st_ask p own Laload next locals stack e = st_on_int stack _ (λ i below. st_on_object below h _ (λ n object rest. st_index object.elements i _ (λ k v. st_long v _ (λ x. (record { holds = same })))))
  st_ask p own Aaload next locals stack e = st_on_int stack _ (λ i below. st_on_object below h _ (λ n object rest. st_index object.elements i _ (λ k v. (record { holds = same }))))
  st_ask p own Baload next locals stack e = st_on_int stack _ (λ i below. st_on_object below h _ (λ n object rest. st_index object.elements i _ (λ k v. st_int v _ (λ x. (record { holds = same })))))
  st_ask p own Caload next locals stack e = st_on_int stack _ (λ i below. st_on_object below h _ (λ n object rest. st_index object.elements i _ (λ k v. st_int v _ (λ x. (record { holds = same })))))
  st_ask p own Saload next locals stack e = st_on_int stack _ (λ i below. st_on_object below h _ (λ n object rest. st_index object.elements i _ (λ k v. st_int v _ (λ x. (record { holds = same })))))
  st_ask p own Iastore next locals stack e = st_on_int stack _ (λ x above. st_on_int above _ (λ i below. st_on_object below h _ (λ n object rest. st_index object.elements i _ (λ k old. (record { holds = put n _ })))))
  st_ask p own Lastore next locals stack e = st_on_long stack _ (λ x above. st_on_int above _ (λ i below. st_on_object below h _ (λ n object rest. st_index object.elements i _ (λ k old. (record { holds = put n _ })))))
  st_ask p own Aastore next locals stack e = st_value stack _ (λ v above. st_on_int above _ (λ i below. st_on_object below h _ (λ n object rest. st_index object.elements i _ (λ k old. st_class p v h _ (λ class. st_if (cast_fits p class (element_type object.class)) _ _ (record { holds = put n _ }) (record { holds = same }))))))
  st_ask p own Bastore next locals stack e = st_on_int stack _ (λ x above. st_on_int above _ (λ i below. st_on_object below h _ (λ n object rest. st_index object.elements i _ (λ k old. (record { holds = put n _ })))))
  st_ask p own Castore next locals stack e = st_on_int stack _ (λ x above. st_on_int above _ (λ i below. st_on_object below h _ (λ n object rest. st_index object.elements i _ (λ k old. (record { holds = put n _ })))))
  st_ask p own Sastore next locals stack e = st_on_int stack _ (λ x above. st_on_int above _ (λ i below. st_on_object below h _ (λ n object rest. st_index object.elements i _ (λ k old. (record { holds = put n _ })))))
  st_ask p own Pop next locals stack e = st_word stack _ (λ v rest. (record { holds = same }))
  st_ask p own Pop2 next locals stack e = st_two_words stack (λ vs rest. Goes next locals rest h) (λ vs rest. (record { holds = same }))
  st_ask p own Dup next locals stack e = st_word stack _ (λ v rest. (record { holds = same }))
  st_ask p own DupX1 next locals stack e = st_word stack _ (λ v rest. st_word rest _ (λ w below. (record { holds = same })))
  st_ask p own DupX2 next locals stack e = st_word stack _ (λ v rest. st_two_words rest (λ ws r. Goes next locals (v ∷ (ws ++ v ∷ r)) h) (λ w below. (record { holds = same })))
  st_ask p own Dup2 next locals stack e = st_two_words stack (λ vs rest. Goes next locals (vs ++ (vs ++ rest)) h) (λ vs rest. (record { holds = same }))
  st_ask p own Dup2X1 next locals stack e = st_two_words stack (λ vs below. on_word below (λ w rest. Goes next locals (vs ++ w ∷ (vs ++ rest)) h)) (λ vs rest. st_word rest _ (λ w below. (record { holds = same })))
  st_ask p own Dup2X2 next locals stack e = st_two_words stack (λ vs below. on_two_words below (λ ws rest. Goes next locals (vs ++ (ws ++ (vs ++ rest))) h)) (λ vs rest. st_two_words rest (λ ws r. Goes next locals (vs ++ (ws ++ (vs ++ r))) h) (λ w below. (record { holds = same })))
  st_ask p own Swap next locals stack e = st_word stack _ (λ v rest. st_word rest _ (λ w below. (record { holds = same })))
  st_ask p own Iadd next locals stack e = st_two_ints stack _ (λ a b rest. (record { holds = same }))
  st_ask p own Ladd next locals stack e = st_two_longs stack _ (λ a b rest. (record { holds = same }))
  st_ask p own Isub next locals stack e = st_two_ints stack _ (λ a b rest. (record { holds = same }))
  st_ask p own Lsub next locals stack e = st_two_longs stack _ (λ a b rest. (record { holds = same }))
  st_ask p own Imul next locals stack e = st_two_ints stack _ (λ a b rest. (record { holds = same }))
  st_ask p own Lmul next locals stack e = st_two_longs stack _ (λ a b rest. (record { holds = same }))
  st_ask p own Idiv next locals stack e = st_two_ints stack _ (λ a b rest. st_if (int_eq b (pos 0)) _ _ (record { holds = same }) (record { holds = same }))
  st_ask p own Ldiv next locals stack e = st_two_longs stack _ (λ a b rest. st_if (int_eq b (pos 0)) _ _ (record { holds = same }) (record { holds = same }))
  st_ask p own Irem next locals stack e = st_two_ints stack _ (λ a b rest. st_if (int_eq b (pos 0)) _ _ (record { holds = same }) (record { holds = same }))
  st_ask p own Lrem next locals stack e = st_two_longs stack _ (λ a b rest. st_if (int_eq b (pos 0)) _ _ (record { holds = same }) (record { holds = same }))
  st_ask p own Ineg next locals stack e = st_on_int stack _ (λ x rest. (record { holds = same }))
  st_ask p own Lneg next locals stack e = st_on_long stack _ (λ x rest. (record { holds = same }))
  st_ask p own Ishl next locals stack e = st_two_ints stack _ (λ a b rest. (record { holds = same }))
  st_ask p own Lshl next locals stack e = st_on_int stack _ (λ b below. st_on_long below _ (λ a rest. (record { holds = same })))
  st_ask p own Ishr next locals stack e = st_two_ints stack _ (λ a b rest. (record { holds = same }))
  st_ask p own Lshr next locals stack e = st_on_int stack _ (λ b below. st_on_long below _ (λ a rest. (record { holds = same })))
  st_ask p own Iushr next locals stack e = st_two_ints stack _ (λ a b rest. (record { holds = same }))
  st_ask p own Lushr next locals stack e = st_on_int stack _ (λ b below. st_on_long below _ (λ a rest. (record { holds = same })))
  st_ask p own Iand next locals stack e = st_two_ints stack _ (λ a b rest. (record { holds = same }))
  st_ask p own Land next locals stack e = st_two_longs stack _ (λ a b rest. (record { holds = same }))
  st_ask p own Ior next locals stack e = st_two_ints stack _ (λ a b rest. (record { holds = same }))
  st_ask p own Lor next locals stack e = st_two_longs stack _ (λ a b rest. (record { holds = same }))
  st_ask p own Ixor next locals stack e = st_two_ints stack _ (λ a b rest. (record { holds = same }))
  st_ask p own Lxor next locals stack e = st_two_longs stack _ (λ a b rest. (record { holds = same }))
  st_ask p own I2l next locals stack e = st_on_int stack _ (λ x rest. (record { holds = same }))
  st_ask p own L2i next locals stack e = st_on_long stack _ (λ x rest. (record { holds = same }))
  st_ask p own I2b next locals stack e = st_on_int stack _ (λ x rest. (record { holds = same }))
  st_ask p own I2c next locals stack e = st_on_int stack _ (λ x rest. (record { holds = same }))
  st_ask p own I2s next locals stack e = st_on_int stack _ (λ x rest. (record { holds = same }))
  st_ask p own Lcmp next locals stack e = st_two_longs stack _ (λ a b rest. (record { holds = same }))
  st_ask p own (Ifeq to) next locals stack e = st_on_int stack _ (λ x rest. (record { holds = same }))
  st_ask p own (Ifne to) next locals stack e = st_on_int stack _ (λ x rest. (record { holds = same }))
  st_ask p own (Iflt to) next locals stack e = st_on_int stack _ (λ x rest. (record { holds = same }))
  st_ask p own (Ifge to) next locals stack e = st_on_int stack _ (λ x rest. (record { holds = same }))
  st_ask p own (Ifgt to) next locals stack e = st_on_int stack _ (λ x rest. (record { holds = same }))
  st_ask p own (Ifle to) next locals stack e = st_on_int stack _ (λ x rest. (record { holds = same }))
  st_ask p own (IfIcmpeq to) next locals stack e = st_two_ints stack _ (λ a b rest. (record { holds = same }))
  st_ask p own (IfIcmpne to) next locals stack e = st_two_ints stack _ (λ a b rest. (record { holds = same }))
  st_ask p own (IfIcmplt to) next locals stack e = st_two_ints stack _ (λ a b rest. (record { holds = same }))
  st_ask p own (IfIcmpge to) next locals stack e = st_two_ints stack _ (λ a b rest. (record { holds = same }))
  st_ask p own (IfIcmpgt to) next locals stack e = st_two_ints stack _ (λ a b rest. (record { holds = same }))
  st_ask p own (IfIcmple to) next locals stack e = st_two_ints stack _ (λ a b rest. (record { holds = same }))
  st_ask p own (IfAcmpeq to) next locals stack e = st_on_reference stack _ (λ w below. st_on_reference below _ (λ v rest. (record { holds = same })))
  st_ask p own (IfAcmpne to) next locals stack e = st_on_reference stack _ (λ w below. st_on_reference below _ (λ v rest. (record { holds = same })))
  st_ask p own (Ifnull to) next locals stack e = st_on_reference stack _ (λ v rest. (record { holds = same }))
  st_ask p own (Ifnonnull to) next locals stack e = st_on_reference stack _ (λ v rest. (record { holds = same }))
  st_ask p own (Goto to) next locals stack e = (record { holds = same })
  st_ask p own (GotoW to) next locals stack e = (record { holds = same })
  st_ask p own (Tableswitch default low targets) next locals stack e = st_on_int stack _ (λ x rest. (record { holds = same }))
  st_ask p own (Lookupswitch default entries) next locals stack e = st_on_int stack _ (λ x rest. (record { holds = same }))
  st_ask p own Ireturn next locals stack e = st_on_int stack _ (λ x rest. (record { holds = same }))
  st_ask p own Lreturn next locals stack e = st_on_long stack _ (λ x rest. (record { holds = same }))
  st_ask p own Areturn next locals stack e = st_on_reference stack _ (λ v rest. (record { holds = same }))
  st_ask p own Return next locals stack e = (record { holds = same })
  st_ask p own (Getstatic f) next locals stack e = st_some (field_of p f) _ (λ field. st_some field.constant _ (λ v. st_constant v _ (λ c. (record { holds = same }))))
  st_ask p own (Getfield f) next locals stack e = st_on_object stack h _ (λ n object rest. st_some (field_in object.fields f) _ (λ v. (record { holds = same })))
  st_ask p own (Putfield f) next locals stack e = st_value stack _ (λ v below. st_on_object below h _ (λ n object rest. st_some (field_of p f) _ (λ field. st_some (field_in object.fields f) _ (λ old. (record { holds = put n _ })))))
  st_ask p own (Invokevirtual m) next locals stack e = absurd (cc)
  st_ask p own (Invokespecial m) next locals stack e = absurd (cc)
  st_ask p own (Invokestatic m) next locals stack e = absurd (cc)
  st_ask p own (New c) next locals stack e = st_if (is_mailbox p c) _ _ (record { holds = same }) (record { holds = same })
  st_ask p own (Newarray b) next locals stack e = st_on_int stack _ (λ n rest. st_array _ _ n next locals rest)
  st_ask p own (Anewarray ty) next locals stack e = st_on_int stack _ (λ n rest. st_array _ _ n next locals rest)
  st_ask p own Arraylength next locals stack e = st_on_object stack h _ (λ n object rest. (record { holds = same }))
  st_ask p own (Checkcast ty) next locals stack e = st_value stack _ (λ v rest. st_class p v h _ (λ class. st_if (cast_fits p class ty) _ _ (record { holds = same }) (record { holds = same })))
  st_ask p own (Instanceof ty) next locals stack e = st_value stack _ (λ v rest. st_class p v h _ (λ class. (record { holds = same })))
  st_ask p own Athrow next locals stack e = st_on_object stack h _ (λ n object rest. st_throw p n object.class.dims object.class.base)

  -- ---- calls

  unit_stays : (o : Option ℕ) (go : Value → Effect) → ((v : Value) → Stay (go v)) → Stay (at_unit o go)
  unit_stays None go f = record { holds = same }
  unit_stays (Some unit) go f = f _

  at_stays : (units : List ℕ) (i : ℤ) (go : Value → Effect) → ((v : Value) → Stay (go v)) → Stay (unit_at units i go)
  at_stays units (negsuc i) go f = record { holds = same }
  at_stays units (pos i) go f = unit_stays (slice_get units i) go f

  answers_stay : (name units : List ℕ) (args : List Value) (go : Value → Effect) → ((v : Value) → Stay (go v)) → Stay (text_answers name units args go)
  answers_stay name units [] go f = st_when _ _ (f _)
  answers_stay name units (v ∷ []) go f = st_if _ _ _ (f _) (st_when _ _ (st_int v _ (λ i. at_stays units i go f)))
  answers_stay name units (v ∷ w ∷ vs) go f = record { holds = same }

  text_stays : (named : Method) (args : List Value) (next : ℕ) (locals rest : List Value) (receiver : Value) → Stay (calls_text named args next locals rest h receiver)
  text_stays named args next locals rest receiver =
      st_receiver receiver _ (λ r. st_some (text_of r) _ (λ units. answers_stay named.name units args (λ v. Goes next locals (v ∷ rest) h) (λ v. record { holds = same })))

  take_stays : (next : ℕ) (locals stack : List Value) → Stay (takes_element next locals stack h)
  take_stays next locals stack = st_on_int stack _ (λ i below. st_on_object below h _ (λ n object rest. st_index object.elements i _ (λ j v. record { holds = put n _ })))

  values_stay : (n : ℕ) (st : List Value) (go : List Value → List Value → Effect) → ((vs rest : List Value) → Stay (go vs rest)) → Stay (on_values n st go)
  values_stay zero st go f = f [] st
  values_stay (suc n) st go f = st_value st (λ v rest. on_values n rest (λ vs below. go (v ∷ vs) below)) (λ v rest. values_stay n rest (λ vs below. go (v ∷ vs) below) (λ vs below. f (v ∷ vs) below))

  keeps_stays : (args : List Value) (next : ℕ) (locals rest : List Value) → Stay (keeps_message args next locals rest h)
  keeps_stays [] next locals rest = record { holds = same }
  keeps_stays (v ∷ []) next locals rest = record { holds = same }
  keeps_stays (v ∷ w ∷ []) next locals rest = st_object v h _ (λ n object. st_some (field_in object.fields message_field) _ (λ old. record { holds = put n _ }))
  keeps_stays (v ∷ w ∷ x ∷ xs) next locals rest = record { holds = same }

  gives_stays : (args : List Value) (next : ℕ) (locals rest : List Value) → Stay (gives_message args next locals rest h)
  gives_stays [] next locals rest = record { holds = same }
  gives_stays (v ∷ []) next locals rest = st_object v h _ (λ n object. st_some (field_in object.fields message_field) _ (λ w. record { holds = same }))
  gives_stays (v ∷ w ∷ ws) next locals rest = record { holds = same }

  method_stays : (o : Option Method) (m : MethodId) (args : List Value) (next : ℕ) (locals rest : List Value) → Stay (calls_method o m args next locals rest h)
  method_stays None m args next locals rest = record { holds = same }
  method_stays (Some method) m args next locals rest = st_if method.built_in _ _
      (st_if (is_message_constructor method) _ _ (keeps_stays args next locals rest) (st_if (is_get_message method) _ _ (gives_stays args next locals rest) (record { holds = same }))) (record { holds = same })

  class_stays : (p : Program) (named : Method) (m : MethodId) (args : List Value) (next : ℕ) (locals rest : List Value) (receiver : Value) (ty : Option Ty) → Stay (calls_on p named m args next locals rest h receiver ty)
  class_stays p named m args next locals rest receiver None = record { holds = same }
  class_stays p named m args next locals rest receiver (Some ty) = method_stays (method_at p (chosen p named m ty)) (chosen p named m ty) (receiver ∷ args) next locals rest

  call_stays : (p : Program) (own : Method) (i : Instr) (next : ℕ) (locals stack : List Value) → is_call i ≡ true → Stay (does p own i next locals stack h)
  unfolding does
  call_stays p own (Invokevirtual m) next locals stack e =
      st_some (method_at p m) _ (λ method. values_stay _ stack _ (λ args below. st_value below _ (λ receiver rest.
      st_if (is_text_method p method) _ _ (text_stays method (reverse args) next locals rest receiver) (st_class p receiver h _ (λ ty. class_stays p method m (reverse args) next locals rest receiver ty)))))
  call_stays p own (Invokespecial m) next locals stack e =
      st_some (method_at p m) _ (λ method. st_if (is_built_in_constructor method) _ _ (st_on_receiver stack _ (λ receiver rest. record { holds = same }))
      (values_stay _ stack _ (λ args below. st_on_receiver below _ (λ receiver rest. method_stays (method_at p (special p own method m)) (special p own method m) (receiver ∷ reverse args) next locals rest))))
  call_stays p own (Invokestatic m) next locals stack e =
      st_some (method_at p m) _ (λ method. st_if (is_handed_out p method) _ _ (values_stay (length method.params) stack (λ args rest. Asks m (reverse args) next locals rest h) (λ args rest. record { holds = same }))
      (st_if method.built_in _ _ (take_stays next locals stack) (values_stay (length method.params) stack (λ args rest. Calls m (reverse args) next locals rest h) (λ args rest. record { holds = same }))))
  call_stays p own i next locals stack e = absurd (cc)

  row_stays : (p : Program) (own : Method) (i : Instr) (b : Bool) → is_call i ≡ b → (next : ℕ) (locals stack : List Value) → Stay (does p own i next locals stack h)
  row_stays p own i true e next locals stack = call_stays p own i next locals stack e
  row_stays p own i false e next locals stack = st_ask p own i next locals stack e

  found_stays : (p : Program) (own : Method) (top : Activation) (found : Option (Instr × ℕ)) → Stay (effect_found p own top h found)
  found_stays p own top None = record { holds = same }
  found_stays p own top (Some found) = row_stays p own found.0 (is_call found.0) refl found.1 top.locals top.stack

  in_stays : (p : Program) (top : Activation) (o : Option Method) → Stay (effect_in p top h o)
  in_stays p top None = record { holds = same }
  in_stays p top (Some method) = found_stays p method top (fetched method.code method.code_length top.place)

  -- ---- moves

  abbrev pub MoveStays : Move → Type 0
  MoveStays (move.Runs change frames k) = AllStay h k
  MoveStays (move.Makes object frames k) = AllStay h k
  MoveStays (move.Opens frames k) = AllStay h k
  MoveStays (move.Asks m args frames k) = AllStay h k
  MoveStays (move.Returns k) = AllStay h k
  MoveStays m = Unit {0}

  called_stays : (z : Bool) (change : move.Change) (frames : List Activation) (k : Objects) (c : move.Change) → AllStay h k → MoveStays (cond z (move.Runs change frames k) (move.Ends cause.Depth))
  called_stays true change frames k c e = e
  called_stays false change frames k c e = tt

  returned_stays : (v : Option Value) (below : List Activation) (k : Objects) → AllStay h k → MoveStays (returned v below k)
  returned_stays v [] k e = e
  returned_stays v (a ∷ as1) k e = e

  by_stays : (p : Program) (e : Effect) (top : Activation) (below : List Activation) → HeapStays e → MoveStays (move_by p e top below)
  by_stays p (Goes place locals stack k) top below s = s
  by_stays p (Makes object place locals stack k) top below s = s
  by_stays p (Opens place locals stack k) top below s = s
  by_stays p (Calls m args place locals stack k) top below s = called_stays (nat_lt _ frame_limit) _ _ k move.Steps s
  by_stays p (Asks m args place locals stack k) top below s = s
  by_stays p (Returns v k) top below s = returned_stays v below k s
  by_stays p (Raises c) top below s = tt
  by_stays p (Throws object class c) top below s = tt
  by_stays p (Ends c) top below s = tt
  by_stays p Stuck top below s = tt

  pub moves_stay : (p : Program) (top : Activation) (below : List Activation) → MoveStays (moves p top below h)
  unfolding moves
  moves_stay p top below = by_stays p (effect_of p top h) top below (in_stays p top (method_at p top.method)).holds
