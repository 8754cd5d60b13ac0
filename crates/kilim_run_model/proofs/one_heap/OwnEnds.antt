-- No thread ends by itself for want of tasks, or at a full mailbox: that is decided at its start, or at its put.
use Rattle.std.proofs.Common.{◌≡◌, ℕ, zero, suc, ◌+◌, ℤ, pos, negsuc, Bool, true, false, not, cond, List, [], ◌∷◌, ◌++◌, length, reverse, Option, Some, None, refl, subst}
use Rattle.std.specs.Prelude.{slice_get, nat_lt, nat_le, codes}
use Rattle.std.specs.FinMap.{get}
use Rattle.std.specs.Ordering.{int_eq}
use Rattle.std.specs.Str.{bytes_eq}
use Rattle.kilim_program.specs.Program.{Program}
use Rattle.kilim_program.specs.declared.class.Field.{Field}
use Rattle.kilim_program.specs.declared.class.Method.{Method}
use Rattle.kilim_program.specs.declared.instr.Instr.{Instr}
use Rattle.kilim_program.specs.declared.instr.Instr.TheVariants as instr
use Rattle.kilim_program.specs.declared.names.BoxName.{BoxName}
use Rattle.kilim_program.specs.declared.names.MethodId.{MethodId}
use Rattle.kilim_program.specs.declared.ty.Base.{Base}
use Rattle.kilim_program.specs.declared.ty.Base.TheVariants as base
use Rattle.kilim_program.specs.declared.ty.Ty.{Ty}
use Rattle.kilim_program.specs.declared.value.Value.{Value}
use Rattle.kilim_program.specs.declared.value.Value.TheVariants.{Int, Long, Null, Ref, Text, Box, Fiber}
use Rattle.kilim_program.specs.BuiltIn.{message_field}
use Rattle.kilim_program.specs.Lengths.{fetched}
use Rattle.kilim_program.specs.Names.{class_name, method_at, field_of}
use Rattle.kilim_run_state.specs.declared.cause.EndCause.{EndCause}
use Rattle.kilim_run_state.specs.declared.cause.EndCause.TheVariants as cause
use Rattle.kilim_run_state.specs.declared.value.Object.{Object}
use Rattle.kilim_run_state.specs.declared.value.Token.{Token}
use Rattle.kilim_run_state.specs.Machine.{Objects, Activation}
use Rattle.kilim_program.specs.Members.{execute_of}
use Rattle.kilim_run_machine.specs.Natives.{Native, native_of, is_built_in_constructor, is_get_message, is_handed_out, is_message_constructor, is_text_method}
use Rattle.kilim_run_machine.specs.Natives as native
use Rattle.kilim_run_state.specs.Shapes.{field_in, shape_of}
use Rattle.kilim_run_machine.specs.Effect.{Effect, with_some, on_value, on_values, on_receiver, as_reference, as_receiver, as_int, as_long, on_int, on_two_ints, on_long, on_two_longs, is_wide, when, wide_or, on_word, on_two_words, on_reference, as_object, on_object, as_class, at_place, at_index, on_constant, text_of}
use Rattle.kilim_run_machine.specs.Effect as effect
use Rattle.kilim_run_machine.specs.Does.{does, makes_array, array_limit, calls_method, calls_on, chosen, gives_message, keeps_message, special, unit_at, at_unit, text_answers, calls_text, loads_int, stores_int, cast_fits, element_type, is_mailbox, throws_object}
use Rattle.kilim_run_machine.specs.Moves.{Move, receiver_of, push_value, moves, move_by, called, returned, entered, goes_on, frame_limit, effect_found, effect_in, effect_of}
use Rattle.kilim_run_machine.specs.Moves as move
use Rattle.kilim_run_model.specs.State.{Setting, Thread, Alive, Ended, begun_on}
use Rattle.kilim_run_model.specs.Lone.{Lone, Next, next_move, thread_next, frames_next, next_by, opens_next, finish_next, begins_next, asks_next, native_next, message_next, put_next, put_wait_next, wait_next, bound_next, start_next, print_next, printed, arg_next, arg_at, over, went, on_heap, box_limit}
use Rattle.kilim_run_model.specs.Lone as next
use Rattle.kilim_run_model.specs.Moving.{is_others, is_tasks}
use Rattle.kilim_run_model.proofs.Raised.{raised_has, raises_has, throws_has}
use Rattle.kilim_run_machine.specs.Raising.{thrown, word_in, words}

-- ---- effects

abbrev Fine : Effect → Type 0
Fine (effect.Raises c) = is_others c ≡ false
Fine (effect.Throws n k c) = is_others c ≡ false
Fine (effect.Ends c) = is_others c ≡ false
Fine e = Unit {0}

some_fine : {A : Type 0} (o : Option A) (go : A → Effect) → ((x : A) → Fine (go x)) → Fine (with_some o go)
some_fine None go each = tt
some_fine (Some x) go each = each x

value_fine : (vs : List Value) (go : Value → List Value → Effect) → ((v : Value) (rs : List Value) → Fine (go v rs)) → Fine (on_value vs go)
value_fine [] go each = tt
value_fine (v ∷ vs) go each = each v vs

values_fine : (n : ℕ) (vs : List Value) (go : List Value → List Value → Effect) → ((xs rs : List Value) → Fine (go xs rs)) → Fine (on_values n vs go)
values_fine zero vs go each = each [] vs
values_fine (suc n) vs go each = value_fine vs _ (λ v rs. values_fine n rs _ (λ xs below. each (v ∷ xs) below))

int_fine : (v : Value) (go : ℤ → Effect) → ((x : ℤ) → Fine (go x)) → Fine (as_int v go)
int_fine (Int a) go each = each a
int_fine (Long a) go each = tt
int_fine Null go each = tt
int_fine (Ref a) go each = tt
int_fine (Text a) go each = tt
int_fine (Box a) go each = tt
int_fine Fiber go each = tt

long_fine : (v : Value) (go : ℤ → Effect) → ((x : ℤ) → Fine (go x)) → Fine (as_long v go)
long_fine (Int a) go each = tt
long_fine (Long a) go each = each a
long_fine Null go each = tt
long_fine (Ref a) go each = tt
long_fine (Text a) go each = tt
long_fine (Box a) go each = tt
long_fine Fiber go each = tt

reference_fine : (v : Value) (go : Value → Effect) → ((w : Value) → Fine (go w)) → Fine (as_reference v go)
reference_fine (Int a) go each = tt
reference_fine (Long a) go each = tt
reference_fine Null go each = each Null
reference_fine (Ref a) go each = each (Ref a)
reference_fine (Text a) go each = each (Text a)
reference_fine (Box a) go each = each (Box a)
reference_fine Fiber go each = each Fiber

receiver_fine : (v : Value) (go : Value → Effect) → ((w : Value) → Fine (go w)) → Fine (as_receiver v go)
receiver_fine (Int a) go each = tt
receiver_fine (Long a) go each = tt
receiver_fine Null go each = refl
receiver_fine (Ref a) go each = each (Ref a)
receiver_fine (Text a) go each = each (Text a)
receiver_fine (Box a) go each = each (Box a)
receiver_fine Fiber go each = each Fiber

on_int_fine : (vs : List Value) (go : ℤ → List Value → Effect) → ((x : ℤ) (rs : List Value) → Fine (go x rs)) → Fine (on_int vs go)
on_int_fine vs go each = value_fine vs _ (λ v rs. int_fine v _ (λ x. each x rs))

on_two_ints_fine : (vs : List Value) (go : ℤ → ℤ → List Value → Effect) → ((x y : ℤ) (rs : List Value) → Fine (go x y rs)) → Fine (on_two_ints vs go)
on_two_ints_fine vs go each = on_int_fine vs _ (λ y below. on_int_fine below _ (λ x rs. each x y rs))

on_long_fine : (vs : List Value) (go : ℤ → List Value → Effect) → ((x : ℤ) (rs : List Value) → Fine (go x rs)) → Fine (on_long vs go)
on_long_fine vs go each = value_fine vs _ (λ v rs. long_fine v _ (λ x. each x rs))

on_two_longs_fine : (vs : List Value) (go : ℤ → ℤ → List Value → Effect) → ((x y : ℤ) (rs : List Value) → Fine (go x y rs)) → Fine (on_two_longs vs go)
on_two_longs_fine vs go each = on_long_fine vs _ (λ y below. on_long_fine below _ (λ x rs. each x y rs))

on_reference_fine : (vs : List Value) (go : Value → List Value → Effect) → ((v : Value) (rs : List Value) → Fine (go v rs)) → Fine (on_reference vs go)
on_reference_fine vs go each = value_fine vs _ (λ v rs. reference_fine v _ (λ w. each w rs))

on_receiver_fine : (vs : List Value) (go : Value → List Value → Effect) → ((v : Value) (rs : List Value) → Fine (go v rs)) → Fine (on_receiver vs go)
on_receiver_fine vs go each = value_fine vs _ (λ v rs. receiver_fine v _ (λ w. each w rs))

when_fine : (b : Bool) (e : Effect) → Fine e → Fine (when b e)
when_fine true e f = f
when_fine false e f = tt

wide_fine : (b : Bool) (e d : Effect) → Fine e → Fine d → Fine (wide_or b e d)
wide_fine true e d f g = f
wide_fine false e d f g = g

cond_fine : (b : Bool) (e d : Effect) → Fine e → Fine d → Fine (cond b e d)
cond_fine true e d f g = f
cond_fine false e d f g = g

word_fine : (vs : List Value) (go : Value → List Value → Effect) → ((v : Value) (rs : List Value) → Fine (go v rs)) → Fine (on_word vs go)
word_fine vs go each = value_fine vs _ (λ v rs. when_fine (not (is_wide v)) (go v rs) (each v rs))

two_words_fine : (vs : List Value) (go : List Value → List Value → Effect) → ((xs rs : List Value) → Fine (go xs rs)) → Fine (on_two_words vs go)
two_words_fine vs go each = value_fine vs _ (λ v rs. wide_fine (is_wide v) (go (v ∷ []) rs) (on_word rs (λ w below. go (v ∷ w ∷ []) below)) (each (v ∷ []) rs) (word_fine rs _ (λ w below. each (v ∷ w ∷ []) below)))

as_object_fine : (v : Value) (h : Objects) (go : ℕ → Object → Effect) → ((n : ℕ) (o : Object) → Fine (go n o)) → Fine (as_object v h go)
as_object_fine (Int a) h go each = tt
as_object_fine (Long a) h go each = tt
as_object_fine Null h go each = refl
as_object_fine (Ref n) h go each = some_fine (get h n) _ (λ o. each n o)
as_object_fine (Text a) h go each = tt
as_object_fine (Box a) h go each = tt
as_object_fine Fiber h go each = tt

object_fine : (vs : List Value) (h : Objects) (go : ℕ → Object → List Value → Effect) → ((n : ℕ) (o : Object) (rs : List Value) → Fine (go n o rs)) → Fine (on_object vs h go)
object_fine vs h go each = value_fine vs _ (λ v rs. as_object_fine v h _ (λ n o. each n o rs))

class_fine : (p : Program) (v : Value) (h : Objects) (go : Option Ty → Effect) → ((c : Option Ty) → Fine (go c)) → Fine (as_class p v h go)
class_fine p (Int a) h go each = tt
class_fine p (Long a) h go each = tt
class_fine p Null h go each = each None
class_fine p (Ref n) h go each = some_fine (get h n) _ (λ o. each (Some o.class))
class_fine p (Text a) h go each = each _
class_fine p (Box a) h go each = each _
class_fine p Fiber h go each = each _

place_fine : (o : Option Value) (go : Value → Effect) → ((v : Value) → Fine (go v)) → Fine (at_place o go)
place_fine None go each = refl
place_fine (Some v) go each = each v

index_fine : (es : List Value) (i : ℤ) (go : ℕ → Value → Effect) → ((k : ℕ) (v : Value) → Fine (go k v)) → Fine (at_index es i go)
index_fine es (negsuc i) go each = refl
index_fine es (pos i) go each = place_fine (slice_get es i) (go i) (each i)

constant_fine : (v : Value) (go : Value → Effect) → ((w : Value) → Fine (go w)) → Fine (on_constant v go)
constant_fine (Int a) go each = each (Int a)
constant_fine (Long a) go each = each (Long a)
constant_fine (Text a) go each = each (Text a)
constant_fine Null go each = tt
constant_fine (Ref n) go each = tt
constant_fine (Box a) go each = tt
constant_fine Fiber go each = tt

sized_fine : (ty : Ty) (v : Value) (n : ℤ) (next : ℕ) (ls rs : List Value) (h : Objects) → Fine (makes_array ty v n next ls rs h)
sized_fine ty v (negsuc n) next ls rs h = refl
sized_fine ty v (pos n) next ls rs h = cond_fine (nat_lt array_limit n) _ _ refl tt

keeps_fine : (args : List Value) (next : ℕ) (ls rs : List Value) (h : Objects) → Fine (keeps_message args next ls rs h)
keeps_fine [] next ls rs h = tt
keeps_fine (v ∷ []) next ls rs h = tt
keeps_fine (v ∷ w ∷ []) next ls rs h = as_object_fine v h _ (λ n o. some_fine (field_in o.fields message_field) _ (λ old. tt))
keeps_fine (v ∷ w ∷ x ∷ xs) next ls rs h = tt

gives_fine : (args : List Value) (next : ℕ) (ls rs : List Value) (h : Objects) → Fine (gives_message args next ls rs h)
gives_fine [] next ls rs h = tt
gives_fine (v ∷ []) next ls rs h = as_object_fine v h _ (λ n o. some_fine (field_in o.fields message_field) _ (λ w. tt))
gives_fine (v ∷ w ∷ ws) next ls rs h = tt

method_fine : (o : Option Method) (m : MethodId) (args : List Value) (next : ℕ) (ls rs : List Value) (h : Objects) → Fine (calls_method o m args next ls rs h)
method_fine None m args next ls rs h = tt
method_fine (Some method) m args next ls rs h =
    cond_fine method.built_in _ _ (cond_fine (is_message_constructor method) _ _ (keeps_fine args next ls rs h) (cond_fine (is_get_message method) _ _ (gives_fine args next ls rs h) tt)) tt

calls_fine : (p : Program) (named : Method) (m : MethodId) (args : List Value) (next : ℕ) (ls rs : List Value) (h : Objects) (v : Value) (c : Option Ty) → Fine (calls_on p named m args next ls rs h v c)
calls_fine p named m args next ls rs h v None = refl
calls_fine p named m args next ls rs h v (Some ty) = method_fine (method_at p (chosen p named m ty)) (chosen p named m ty) (v ∷ args) next ls rs h

at_unit_fine : (o : Option ℕ) (go : Value → Effect) → ((v : Value) → Fine (go v)) → Fine (at_unit o go)
at_unit_fine None go each = refl
at_unit_fine (Some u) go each = each (Int (pos u))

unit_fine : (units : List ℕ) (i : ℤ) (go : Value → Effect) → ((v : Value) → Fine (go v)) → Fine (unit_at units i go)
unit_fine units (negsuc i) go each = refl
unit_fine units (pos i) go each = at_unit_fine (slice_get units i) go each

answers_fine : (name units : List ℕ) (xs : List Value) (go : Value → Effect) → ((v : Value) → Fine (go v)) → Fine (text_answers name units xs go)
answers_fine name units [] go each = when_fine (bytes_eq name (codes "length")) _ (each _)
answers_fine name units (v ∷ []) go each = cond_fine (bytes_eq name (codes "equals")) _ _ (each _) (when_fine (bytes_eq name (codes "charAt")) _ (int_fine v _ (λ i. unit_fine units i go each)))
answers_fine name units (v ∷ w ∷ vs) go each = tt

texts_fine : (named : Method) (args : List Value) (next : ℕ) (ls rs : List Value) (h : Objects) (v : Value) → Fine (calls_text named args next ls rs h v)
texts_fine named args next ls rs h v = receiver_fine v _ (λ r. some_fine (text_of r) _ (λ units. answers_fine named.name units args _ (λ w. tt)))

-- none of the words is that of an end that others decide
abbrev NoOthers : List (List ℕ × EndCause) → Type 0
NoOthers [] = Unit {0}
NoOthers (e ∷ es) = (is_others e.1 ≡ false) × NoOthers es

named_fine : (es : List (List ℕ × EndCause)) (name : List ℕ) → NoOthers es → is_others (word_in es name) ≡ false
named_fine [] name a = refl
named_fine (e ∷ es) name a = elim (bytes_eq name e.0) as (λ (b : Bool). is_others (cond b e.1 (word_in es name)) ≡ false) [ true ↦ a.0 | false ↦ named_fine es name a.1 ]

throws_fine : (p : Program) (n dims : ℕ) (b : Base) → Fine (throws_object p n dims b)
throws_fine p n zero (base.Class c) = named_fine words (class_name p c) (refl, (refl, (refl, (refl, (refl, (refl, (refl, (refl, tt))))))))
throws_fine p n zero b = tt
throws_fine p n (suc d) b = tt

module _ (p : Program) (own : Method) (next : ℕ) (ls vs : List Value) (h : Objects) where
  loads_fine : Fine (loads_int next ls vs h)
  loads_fine = on_int_fine vs _ (λ i below. object_fine below h _ (λ n o rs. index_fine o.elements i _ (λ k v. int_fine v _ (λ x. tt))))

  stores_fine : Fine (stores_int next ls vs h)
  stores_fine = on_int_fine vs _ (λ x above. on_int_fine above _ (λ i below. object_fine below h _ (λ n o rs. index_fine o.elements i _ (λ k old. tt))))

  row : (i : Instr) → Fine (does p own i next ls vs h)
  unfolding does
  row instr.Nop = tt
  row instr.AconstNull = tt
  row (instr.Iconst n) = tt
  row (instr.Lconst n) = tt
  row (instr.Bipush n) = tt
  row (instr.Sipush n) = tt
  row (instr.Ldc v) = constant_fine v _ (λ c. tt)
  row (instr.LdcW v) = constant_fine v _ (λ c. tt)
  row (instr.Ldc2W v) = constant_fine v _ (λ c. tt)
  row (instr.Iload n) = some_fine (slice_get ls n) _ (λ v. int_fine v _ (λ x. tt))
  row (instr.Lload n) = some_fine (slice_get ls n) _ (λ v. long_fine v _ (λ x. tt))
  row (instr.Aload n) = some_fine (slice_get ls n) _ (λ v. reference_fine v _ (λ r. tt))
  row (instr.Istore n) = on_int_fine vs _ (λ x rs. some_fine (slice_get ls n) _ (λ o. tt))
  row (instr.Lstore n) = on_long_fine vs _ (λ x rs. some_fine (slice_get ls n) _ (λ o. tt))
  row (instr.Astore n) = on_reference_fine vs _ (λ v rs. some_fine (slice_get ls n) _ (λ o. tt))
  row (instr.Iinc n k) = some_fine (slice_get ls n) _ (λ v. int_fine v _ (λ x. tt))
  row instr.Iaload = loads_fine
  row instr.Baload = loads_fine
  row instr.Caload = loads_fine
  row instr.Saload = loads_fine
  row instr.Laload = on_int_fine vs _ (λ i below. object_fine below h _ (λ n o rs. index_fine o.elements i _ (λ k v. long_fine v _ (λ x. tt))))
  row instr.Aaload = on_int_fine vs _ (λ i below. object_fine below h _ (λ n o rs. index_fine o.elements i _ (λ k v. tt)))
  row instr.Iastore = on_int_fine vs _ (λ x above. on_int_fine above _ (λ i below. object_fine below h _ (λ n o rs. index_fine o.elements i _ (λ k old. tt))))
  row instr.Lastore = on_long_fine vs _ (λ x above. on_int_fine above _ (λ i below. object_fine below h _ (λ n o rs. index_fine o.elements i _ (λ k old. tt))))
  row instr.Aastore = value_fine vs _ (λ v above. on_int_fine above _ (λ i below. object_fine below h _ (λ n o rs. index_fine o.elements i _ (λ k old. class_fine p v h _ (λ c. cond_fine (cast_fits p c (element_type o.class)) _ _ tt refl)))))
  row instr.Bastore = stores_fine
  row instr.Castore = stores_fine
  row instr.Sastore = stores_fine
  row instr.Pop = word_fine vs _ (λ v rs. tt)
  row instr.Pop2 = two_words_fine vs (λ xs rs. effect.Goes next ls rs h) (λ xs rs. tt)
  row instr.Dup = word_fine vs _ (λ v rs. tt)
  row instr.DupX1 = word_fine vs _ (λ v below. word_fine below _ (λ w rs. tt))
  row instr.DupX2 = word_fine vs _ (λ v below. two_words_fine below (λ ws rs. effect.Goes next ls (v ∷ (ws ++ v ∷ rs)) h) (λ ws rs. tt))
  row instr.Dup2 = two_words_fine vs (λ xs rs. effect.Goes next ls (xs ++ (xs ++ rs)) h) (λ xs rs. tt)
  row instr.Dup2X1 = two_words_fine vs (λ xs below. on_word below (λ w rs. effect.Goes next ls (xs ++ w ∷ (xs ++ rs)) h)) (λ xs below. word_fine below _ (λ w rs. tt))
  row instr.Dup2X2 = two_words_fine vs (λ xs below. on_two_words below (λ ws rs. effect.Goes next ls (xs ++ (ws ++ (xs ++ rs))) h)) (λ xs below. two_words_fine below (λ ws rs. effect.Goes next ls (xs ++ (ws ++ (xs ++ rs))) h) (λ ws rs. tt))
  row instr.Swap = word_fine vs _ (λ v below. word_fine below _ (λ w rs. tt))
  row instr.Iadd = on_two_ints_fine vs _ (λ a b rs. tt)
  row instr.Isub = on_two_ints_fine vs _ (λ a b rs. tt)
  row instr.Imul = on_two_ints_fine vs _ (λ a b rs. tt)
  row instr.Ishl = on_two_ints_fine vs _ (λ a b rs. tt)
  row instr.Ishr = on_two_ints_fine vs _ (λ a b rs. tt)
  row instr.Iushr = on_two_ints_fine vs _ (λ a b rs. tt)
  row instr.Iand = on_two_ints_fine vs _ (λ a b rs. tt)
  row instr.Ior = on_two_ints_fine vs _ (λ a b rs. tt)
  row instr.Ixor = on_two_ints_fine vs _ (λ a b rs. tt)
  row instr.Ladd = on_two_longs_fine vs _ (λ a b rs. tt)
  row instr.Lsub = on_two_longs_fine vs _ (λ a b rs. tt)
  row instr.Lmul = on_two_longs_fine vs _ (λ a b rs. tt)
  row instr.Land = on_two_longs_fine vs _ (λ a b rs. tt)
  row instr.Lor = on_two_longs_fine vs _ (λ a b rs. tt)
  row instr.Lxor = on_two_longs_fine vs _ (λ a b rs. tt)
  row instr.Lcmp = on_two_longs_fine vs _ (λ a b rs. tt)
  row instr.Idiv = on_two_ints_fine vs _ (λ a b rs. cond_fine (int_eq b (pos 0)) _ _ refl tt)
  row instr.Irem = on_two_ints_fine vs _ (λ a b rs. cond_fine (int_eq b (pos 0)) _ _ refl tt)
  row instr.Ldiv = on_two_longs_fine vs _ (λ a b rs. cond_fine (int_eq b (pos 0)) _ _ refl tt)
  row instr.Lrem = on_two_longs_fine vs _ (λ a b rs. cond_fine (int_eq b (pos 0)) _ _ refl tt)
  row instr.Ineg = on_int_fine vs _ (λ a rs. tt)
  row instr.I2l = on_int_fine vs _ (λ a rs. tt)
  row instr.I2b = on_int_fine vs _ (λ a rs. tt)
  row instr.I2c = on_int_fine vs _ (λ a rs. tt)
  row instr.I2s = on_int_fine vs _ (λ a rs. tt)
  row instr.Lneg = on_long_fine vs _ (λ a rs. tt)
  row instr.L2i = on_long_fine vs _ (λ a rs. tt)
  row instr.Lshl = on_int_fine vs _ (λ b below. on_long_fine below _ (λ a rs. tt))
  row instr.Lshr = on_int_fine vs _ (λ b below. on_long_fine below _ (λ a rs. tt))
  row instr.Lushr = on_int_fine vs _ (λ b below. on_long_fine below _ (λ a rs. tt))
  row (instr.Ifeq to) = on_int_fine vs _ (λ a rs. tt)
  row (instr.Ifne to) = on_int_fine vs _ (λ a rs. tt)
  row (instr.Iflt to) = on_int_fine vs _ (λ a rs. tt)
  row (instr.Ifge to) = on_int_fine vs _ (λ a rs. tt)
  row (instr.Ifgt to) = on_int_fine vs _ (λ a rs. tt)
  row (instr.Ifle to) = on_int_fine vs _ (λ a rs. tt)
  row (instr.IfIcmpeq to) = on_two_ints_fine vs _ (λ a b rs. tt)
  row (instr.IfIcmpne to) = on_two_ints_fine vs _ (λ a b rs. tt)
  row (instr.IfIcmplt to) = on_two_ints_fine vs _ (λ a b rs. tt)
  row (instr.IfIcmpge to) = on_two_ints_fine vs _ (λ a b rs. tt)
  row (instr.IfIcmpgt to) = on_two_ints_fine vs _ (λ a b rs. tt)
  row (instr.IfIcmple to) = on_two_ints_fine vs _ (λ a b rs. tt)
  row (instr.IfAcmpeq to) = on_reference_fine vs _ (λ w below. on_reference_fine below _ (λ v rs. tt))
  row (instr.IfAcmpne to) = on_reference_fine vs _ (λ w below. on_reference_fine below _ (λ v rs. tt))
  row (instr.Ifnull to) = on_reference_fine vs _ (λ v rs. tt)
  row (instr.Ifnonnull to) = on_reference_fine vs _ (λ v rs. tt)
  row (instr.Goto to) = tt
  row (instr.GotoW to) = tt
  row (instr.Tableswitch default low targets) = on_int_fine vs _ (λ a rs. tt)
  row (instr.Lookupswitch default pairs) = on_int_fine vs _ (λ a rs. tt)
  row instr.Ireturn = on_int_fine vs _ (λ x rs. tt)
  row instr.Lreturn = on_long_fine vs _ (λ x rs. tt)
  row instr.Areturn = on_reference_fine vs _ (λ v rs. tt)
  row instr.Return = tt
  row (instr.Getstatic f) = some_fine (field_of p f) _ (λ (field : Field). some_fine field.constant _ (λ v. constant_fine v _ (λ c. tt)))
  row (instr.Getfield f) = object_fine vs h _ (λ n o rs. some_fine (field_in o.fields f) _ (λ v. tt))
  row (instr.Putfield f) = value_fine vs _ (λ v below. object_fine below h _ (λ n o rs. some_fine (field_of p f) _ (λ (field : Field). some_fine (field_in o.fields f) _ (λ old. tt))))
  row (instr.Invokevirtual m) = some_fine (method_at p m) _ (λ (method : Method). values_fine (length method.params) vs _ (λ args below. value_fine below _ (λ v rs. cond_fine (is_text_method p method) _ _ (texts_fine method (reverse args) next ls rs h v) (class_fine p v h _ (λ c. calls_fine p method m (reverse args) next ls rs h v c)))))
  row (instr.Invokespecial m) = some_fine (method_at p m) _ (λ (method : Method). cond_fine (is_built_in_constructor method) _ _ (on_receiver_fine vs _ (λ v rs. tt)) (values_fine (length method.params) vs _ (λ args below. on_receiver_fine below _ (λ v rs. method_fine (method_at p (special p own method m)) (special p own method m) (v ∷ reverse args) next ls rs h))))
  row (instr.Invokestatic m) = some_fine (method_at p m) _ (λ (method : Method). cond_fine (is_handed_out p method) _ _ (values_fine (length method.params) vs _ (λ args rs. tt)) (cond_fine method.built_in _ _ (on_int_fine vs _ (λ i below. object_fine below h _ (λ n o rs. index_fine o.elements i _ (λ k v. tt)))) (values_fine (length method.params) vs _ (λ args rs. tt))))
  row (instr.New c) = cond_fine (is_mailbox p c) _ _ tt tt
  row (instr.Newarray b) = on_int_fine vs _ (λ n rs. sized_fine _ _ n next ls rs h)
  row (instr.Anewarray ty) = on_int_fine vs _ (λ n rs. sized_fine _ _ n next ls rs h)
  row instr.Arraylength = object_fine vs h _ (λ n o rs. tt)
  row (instr.Checkcast ty) = value_fine vs _ (λ v rs. class_fine p v h _ (λ c. cond_fine (cast_fits p c ty) _ _ tt refl))
  row (instr.Instanceof ty) = value_fine vs _ (λ v rs. class_fine p v h _ (λ c. tt))
  row instr.Athrow = object_fine vs h _ (λ n o rs. throws_fine p n o.class.dims o.class.base)

-- ---- moves

abbrev MoveFine : Move → Type 0
MoveFine (move.Raises c) = is_others c ≡ false
MoveFine (move.Throws n k c) = is_others c ≡ false
MoveFine (move.Ends c) = is_others c ≡ false
MoveFine m = Unit {0}

called_fine : (p : Program) (m : MethodId) (args : List Value) (fs : List Activation) (h : Objects) → MoveFine (called p m args fs h)
called_fine p m args fs h = elim (nat_lt (length fs) frame_limit) as (λ (b : Bool). MoveFine (cond b (move.Runs (move.Enters (receiver_of p m args)) (entered p m args ∷ fs) h) (move.Ends cause.Depth))) [ true ↦ tt | false ↦ refl ]

returned_fine : (v : Option Value) (fs : List Activation) (h : Objects) → MoveFine (returned v fs h)
returned_fine v [] h = tt
returned_fine v (f ∷ fs) h = tt

effect_fine : (p : Program) (e : Effect) (top : Activation) (below : List Activation) → Fine e → MoveFine (move_by p e top below)
effect_fine p (effect.Goes a ls vs h) top below f = tt
effect_fine p (effect.Makes o a ls vs h) top below f = tt
effect_fine p (effect.Opens a ls vs h) top below f = tt
effect_fine p (effect.Calls m args a ls vs h) top below f = called_fine p m args (goes_on top a ls vs ∷ below) h
effect_fine p (effect.Asks m args a ls vs h) top below f = tt
effect_fine p (effect.Returns v h) top below f = returned_fine v below h
effect_fine p (effect.Raises c) top below f = f
effect_fine p (effect.Throws n k c) top below f = f
effect_fine p (effect.Ends c) top below f = f
effect_fine p effect.Stuck top below f = tt

found_fine : (p : Program) (own : Method) (top : Activation) (h : Objects) (o : Option (Instr × ℕ)) → Fine (effect_found p own top h o)
found_fine p own top h None = tt
found_fine p own top h (Some f) = row p own f.1 top.locals top.stack h f.0

in_fine : (p : Program) (top : Activation) (h : Objects) (m : Option Method) → Fine (effect_in p top h m)
in_fine p top h None = tt
in_fine p top h (Some m) = found_fine p m top h (fetched m.code m.code_length top.place)

moves_fine : (p : Program) (top : Activation) (below : List Activation) (h : Objects) → MoveFine (moves p top below h)
unfolding moves
moves_fine p top below h = effect_fine p (effect_of p top h) top below (in_fine p top h (method_at p top.method))

-- ---- what a thread does next

abbrev NextFine : Next → Type 0
NextFine (next.Ends c after) = is_others c ≡ false
NextFine x = Unit {0}

put_fine : (l : Lone) (box : BoxName) (n : ℕ) (o : Option (List Token)) → NextFine (put_next l box n o)
put_fine l box n None = refl
put_fine l box n (Some shape) = tt

message_fine : (p : Program) (l : Lone) (box : BoxName) (v : Value) → NextFine (message_next p l box v)
message_fine p l box Null = raised_has NextFine l cause.Null refl p (λ object f fs frames done boxes e. tt)
message_fine p l box (Ref n) = put_fine l box n (shape_of p l.heap n)
message_fine p l box v = tt

put_wait_fine : (l : Lone) (box : BoxName) (n : ℕ) (o : Option (List Token)) → NextFine (put_wait_next l box n o)
put_wait_fine l box n None = refl
put_wait_fine l box n (Some shape) = tt

wait_fine : (p : Program) (l : Lone) (box : BoxName) (v : Value) → NextFine (wait_next p l box v)
wait_fine p l box Null = raised_has NextFine l cause.Null refl p (λ object f fs frames done boxes e. tt)
wait_fine p l box (Ref n) = put_wait_fine l box n (shape_of p l.heap n)
wait_fine p l box v = tt

bound_fine : (p : Program) (l : Lone) (box : BoxName) (i : ℤ) → NextFine (bound_next p l box i)
bound_fine p l box (pos (suc i)) = tt
bound_fine p l box i = raised_has NextFine l cause.Size refl p (λ object f fs frames done boxes e. tt)

start_fine : (l : Lone) (n : ℕ) (o : Option (List Token)) → NextFine (start_next l n o)
start_fine l n None = refl
start_fine l n (Some shape) = tt

print_fine : (l : Lone) (o : Option Token) → NextFine (print_next l o)
print_fine l None = tt
print_fine l (Some t) = tt

arg_fine : (p : Program) (l : Lone) (o : Option ℤ) → NextFine (arg_next p l o)
arg_fine p l None = raised_has NextFine l cause.Index refl p (λ object f fs frames done boxes e. tt)
arg_fine p l (Some n) = tt

native_fine : (set : Setting) (l : Lone) (n : Native) (args : List Value) → NextFine (native_next set l n args)
native_fine set l native.Execute (Ref n ∷ []) = tt
native_fine set l native.Start (Ref n ∷ []) = start_fine l n (shape_of set.program l.heap n)
native_fine set l native.Put (Box box ∷ v ∷ []) = message_fine set.program l box v
native_fine set l native.PutWait (Box box ∷ v ∷ []) = wait_fine set.program l box v
native_fine set l native.Bound (Box box ∷ Int i ∷ []) = bound_fine set.program l box i
native_fine set l native.Get (Box box ∷ []) = tt
native_fine set l native.Getnb (Box box ∷ []) = tt
native_fine set l native.Print (v ∷ []) = print_fine l (printed v)
native_fine set l native.Yield [] = tt
native_fine set l native.ArgCount [] = tt
native_fine set l native.Arg (Int i ∷ []) = arg_fine set.program l (arg_at set.limits.args i)
native_fine set l n args = tt

asks_fine : (set : Setting) (l : Lone) (args : List Value) (o : Option Native) → NextFine (asks_next set l args o)
asks_fine set l args None = tt
asks_fine set l args (Some n) = native_fine set l n args

begins_fine : (l : Lone) (done boxes : ℕ) (o : Option (List Activation)) → NextFine (begins_next l done boxes o)
begins_fine l done boxes None = tt
begins_fine l done boxes (Some []) = refl
begins_fine l done boxes (Some (f ∷ fs)) = tt

finish_fine : (set : Setting) (l : Lone) (done boxes : ℕ) (o : Option ℕ) → NextFine (finish_next set l done boxes o)
finish_fine set l done boxes None = refl
finish_fine set l done boxes (Some n) = begins_fine l done boxes (begun_on set.program (execute_of set.program set.main) n)

opens_fine : (t : ℕ) (l : Lone) (fs : List Activation) (done boxes : ℕ) → NextFine (opens_next t l fs done boxes)
opens_fine t l fs done boxes = elim (nat_lt boxes box_limit) as (λ (b : Bool). NextFine (cond b (next.Goes (went l (push_value (Box (record { task = t; number = boxes })) fs) done (boxes + 1))) (over l cause.Boxes))) [ true ↦ tt | false ↦ refl ]

move_fine : (set : Setting) (t : ℕ) (l : Lone) (done boxes : ℕ) (top : Activation) (below : List Activation) (m : Move) → MoveFine m → NextFine (next_by set t l done boxes top below m)
move_fine set t l done boxes top below (move.Runs c fs h) f = tt
move_fine set t l done boxes top below (move.Makes o fs h) f = tt
move_fine set t l done boxes top below (move.Opens fs h) f = opens_fine t (on_heap l h) fs done boxes
move_fine set t l done boxes top below (move.Asks m args fs h) f = asks_fine set (went (on_heap l h) fs done boxes) args (native_of set.program m)
move_fine set t l done boxes top below (move.Returns h) f = finish_fine set (on_heap l h) done boxes l.kept
move_fine set t l done boxes top below (move.Raises c) f = raises_has NextFine l c f set.program done boxes top below (λ object g fs. tt)
move_fine set t l done boxes top below (move.Throws n k c) f = throws_has NextFine l c f (done + 1) boxes (thrown set.program k (Ref n) top below) (λ g fs. tt)
move_fine set t l done boxes top below (move.Ends c) f = f
move_fine set t l done boxes top below move.Stuck f = tt

frames_fine : (set : Setting) (t : ℕ) (l : Lone) (fs : List Activation) (done boxes : ℕ) → NextFine (frames_next set t l fs done boxes)
frames_fine set t l [] done boxes = refl
frames_fine set t l (top ∷ below) done boxes = move_fine set t l done boxes top below (moves set.program top below l.heap) (moves_fine set.program top below l.heap)

thread_fine : (set : Setting) (t : ℕ) (l : Lone) (th : Thread) → NextFine (thread_next set t l th)
thread_fine set t l (Ended c) = tt
thread_fine set t l (Alive fs done boxes) = elim (nat_le set.limits.steps done) as (λ (b : Bool). NextFine (cond b (over l cause.Spent) (frames_next set t l fs done boxes))) [ true ↦ refl | false ↦ frames_fine set t l fs done boxes ]

next_fine : (set : Setting) (t : ℕ) (l : Lone) → NextFine (next_move set t l)
unfolding next_move
next_fine set t l = thread_fine set t l l.thread

-- a thread's own end is never one that others decide
pub no_own_ends : (set : Setting) (t : ℕ) (l : Lone) (why : EndCause) (after : Lone) → next_move set t l ≡ next.Ends why after → is_others why ≡ false
no_own_ends set t l why after e = subst NextFine e (next_fine set t l)

not_tasks : (why : EndCause) → is_others why ≡ false → is_tasks why ≡ false
not_tasks cause.Tasks own = absurd (cc)
not_tasks why own = refl

pub no_own_tasks : (set : Setting) (t : ℕ) (l : Lone) (why : EndCause) (after : Lone) → next_move set t l ≡ next.Ends why after → is_tasks why ≡ false
no_own_tasks set t l why after e = not_tasks why (no_own_ends set t l why after e)
