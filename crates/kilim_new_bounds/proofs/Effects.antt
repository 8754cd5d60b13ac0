-- What an instruction does with the slots of its frame, seen from one mailbox, and words for how it takes its operands. Where it is stuck or
-- raises, nothing is said.
use Rattle.std.proofs.Common.{◌≡◌, ◌⊎◌, ℕ, ℤ, pos, negsuc, Bool, true, false, List, [], ◌∷◌, ◌++◌, length, drop, Option, Some, None, refl}
use mathlib.Core.List.{reverse_aux}
use Rattle.std.specs.Prelude.{◌&&◌, not, slice_get, reverse}
use Rattle.std.specs.FinMap.{get}
use Rattle.std.proofs.lemmas.Bool.{and_parts}
use Rattle.kilim_run_state.specs.declared.cause.EndCause.{EndCause}
use Rattle.kilim_program.specs.declared.class.Method.{Method}
use Rattle.kilim_program.specs.declared.names.BoxName.{BoxName}
use Rattle.kilim_program.specs.declared.names.MethodId.{MethodId}
use Rattle.kilim_program.specs.declared.ty.Ty.{Ty}
use Rattle.kilim_program.specs.declared.value.Value.{Value}
use Rattle.kilim_program.specs.declared.value.Value.TheVariants as value
use Rattle.kilim_program.specs.declared.verified.VType.{VType}
use Rattle.kilim_program.specs.declared.verified.VType.TheVariants.{Null, Uninit, Object}
use Rattle.kilim_program.specs.Names.{method_at}
use Rattle.kilim_program.specs.Program.{Program}
use Rattle.kilim_program.specs.Same.{is_constructor}
use Rattle.kilim_run_state.specs.declared.value.Object.{Object as HeapObject}
use Rattle.kilim_run_state.specs.Machine.{Objects}
use Rattle.kilim_run_machine.specs.Effect.{Effect, Goes, Makes, Opens, Calls, Asks, Returns, Raises, Throws, Ends, Stuck, with_some, on_value, on_values, as_reference, as_receiver, as_int, as_long, on_int, on_two_ints, on_long, on_two_longs, on_reference, on_receiver, as_object, on_object, as_class, at_place, at_index, on_constant}
use Rattle.kilim_type_spec.specs.Step.{Types, Operand, Is, AReference, Initialized, ArrayOf, References, AnArray, Own, all_meet, is_same, is_top, is_unset, meets, result_types}
use Rattle.kilim_new_bounds.proofs.Slots.{HeapSo, LocalsSo, Mode, Raw, Known, ObjectSo, StackSo, ValuesSo, is_box, slot_flows, slot_good, slot_so, so, value_so}

-- ---- frames

pub record FrameSo (b : BoxName) (m : Mode) (g : Types) (ls vs : List Value) : Type 0 where
  pub locals : LocalsSo b m g.locals ls
  pub stack : StackSo b m g.stack vs

-- types of what is still to come stand above those of what is there
pub record WaitsSo (b : BoxName) (m : Mode) (g : Types) (ls vs : List Value) : Type 0 where
  pub locals : LocalsSo b m g.locals ls
  pub result : Option Ty
  pub types : List VType
  pub is : g.stack ≡ result_types result ++ types
  pub stack : StackSo b m types vs

-- of all types but that of what the `new` there makes, what may stand in a slot still may
abbrev pub Renews : ℕ → Mode → Mode → Type 0
Renews at m k = (t : VType) → is_same (Uninit at) t ≡ false → (box : Bool) → so m box t ≡ true → so k box t ≡ true

pub record NewSo (b : BoxName) (m : Mode) (at : ℕ) (g : Types) (ls vs : List Value) : Type 0 where
  pub types : List VType
  pub is : g.stack ≡ Uninit at ∷ types
  pub rest : (k : Mode) → Renews at m k → LocalsSo b k g.locals ls × StackSo b k types vs

-- the type of a new array
pub record ArraySo (b : BoxName) (m : Mode) (g : Types) (ls vs : List Value) : Type 0 where
  pub type : VType
  pub set : is_unset type ≡ false
  pub types : List VType
  pub is : g.stack ≡ type ∷ types
  pub locals : LocalsSo b m g.locals ls
  pub stack : StackSo b m types vs

abbrev pub IsRaw : Mode → Type 0
IsRaw (Raw at) = Unit {0}
IsRaw m = ⊥

abbrev pub first_is : BoxName → List Value → Bool
first_is b [] = false
first_is b (v ∷ vs) = is_box b v

-- a constructor isn't called on the mailbox
abbrev pub NotBuilt : Program → BoxName → MethodId → List Value → Type 0
NotBuilt p b id args = (callee : Method) → method_at p id ≡ Some callee → is_constructor callee ≡ true → first_is b args ≡ false

abbrev pub ResultSo : BoxName → Mode → Option Value → Type 0
ResultSo b m None = Unit {0}
ResultSo b m (Some v) = value_so b m v ≡ true

-- the mailbox is initialized by this
pub record Builds (p : Program) (b : BoxName) (m : Mode) (g : Types) (id : MethodId) (args ls vs : List Value) : Type 0 where
  pub raw : IsRaw m
  pub constructs : (callee : Method) → method_at p id ≡ Some callee → is_constructor callee ≡ true
  pub first : first_is b args ≡ true
  pub waits : WaitsSo b Known g ls vs

abbrev pub EffectSo : Program → BoxName → Mode → ℕ → Types → Effect → Type 0
EffectSo p b m at g (Goes place ls vs h) = (FrameSo b m g ls vs ⊎ (IsRaw m × FrameSo b Known g ls vs)) × HeapSo b m h
EffectSo p b m at g (Makes object place ls vs h) = ObjectSo b m object × (NewSo b m at g ls vs ⊎ ArraySo b m g ls vs) × HeapSo b m h
EffectSo p b m at g (Opens place ls vs h) = NewSo b m at g ls vs × HeapSo b m h
EffectSo p b m at g (Calls id args place ls vs h) = NotBuilt p b id args × ValuesSo b m args × WaitsSo b m g ls vs × HeapSo b m h
EffectSo p b m at g (Asks id args place ls vs h) = ((NotBuilt p b id args × ValuesSo b m args × WaitsSo b m g ls vs) ⊎ Builds p b m g id args ls vs) × HeapSo b m h
EffectSo p b m at g (Returns v h) = ResultSo b m v × HeapSo b m h
EffectSo p b m at g (Raises c) = Unit {0}
EffectSo p b m at g (Throws object class c) = Unit {0}
EffectSo p b m at g (Ends c) = Unit {0}
EffectSo p b m at g Stuck = Unit {0}

-- ---- operands

-- what it takes is of an initialized type
abbrev pub plain : Operand → Bool
plain (Is t) = not (is_unset t) && not (is_top t)
plain (ArrayOf bases) = true
plain References = true
plain AnArray = true
plain o = false

abbrev pub HeldSo : BoxName → Mode → Operand → Value → Type 0
HeldSo b m o v = plain o ≡ true → value_so b m v ≡ true

abbrev pub TakenSo : BoxName → Mode → List Operand → List VType → List Value → Type 0
TakenSo b m [] ts vs = StackSo b m ts vs
TakenSo b m (o ∷ os) ts [] = ⊥
TakenSo b m (o ∷ os) ts (v ∷ vs) = HeldSo b m o v × TakenSo b m os ts vs

is_not : (b : Bool) → not b ≡ true → b ≡ false
is_not true e = absurd (cc)
is_not false e = refl

held_so : (p : Program) (b : BoxName) (m : Mode) (o : Operand) (t : VType) (v : Value) → meets p o t ≡ true → slot_so b m t v ≡ true → HeldSo b m o v
unfolding meets
held_so p b m (Is u) t v h e = λ q. let qs = and_parts (not (is_unset u)) (not (is_top u)) q in slot_good b m u v (is_not (is_unset u) qs.0) (is_not (is_top u) qs.1) (slot_flows p b m t u v h e)
held_so p b m (ArrayOf bases) Null v h e = λ q. slot_good b m Null v refl refl e
held_so p b m (ArrayOf bases) (Object ty) v h e = λ q. slot_good b m (Object ty) v refl refl e
held_so p b m References Null v h e = λ q. slot_good b m Null v refl refl e
held_so p b m References (Object ty) v h e = λ q. slot_good b m (Object ty) v refl refl e
held_so p b m AnArray Null v h e = λ q. slot_good b m Null v refl refl e
held_so p b m AnArray (Object ty) v h e = λ q. slot_good b m (Object ty) v refl refl e
held_so p b m (ArrayOf bases) t v h e = absurd (cc)
held_so p b m References t v h e = absurd (cc)
held_so p b m AnArray t v h e = absurd (cc)
held_so p b m AReference t v h e = λ q. absurd (let z : false ≡ true = q in cc)
held_so p b m Initialized t v h e = λ q. absurd (let z : false ≡ true = q in cc)
held_so p b m (Own c) t v h e = λ q. absurd (let z : false ≡ true = q in cc)

pub taken_so : (p : Program) (b : BoxName) (m : Mode) (os : List Operand) (ts : List VType) (vs : List Value) → all_meet p os ts ≡ true → StackSo b m ts vs → TakenSo b m os (drop (length os) ts) vs
taken_so p b m [] ts vs a s = s
taken_so p b m (o ∷ os) [] vs a s = absurd (cc)
taken_so p b m (o ∷ os) (t ∷ ts) [] a s = absurd s
taken_so p b m (o ∷ os) (t ∷ ts) (v ∷ vs) a s =
    let as1 = and_parts (meets p o t) (all_meet p os ts) a in
    (held_so p b m o t v as1.0 s.0, taken_so p b m os ts vs as1.1 s.1)

abbrev pub AllPlain : List Operand → Type 0
AllPlain [] = Unit {0}
AllPlain (o ∷ os) = (plain o ≡ true) × AllPlain os

-- ---- words

module _ (p : Program) (b : BoxName) (m : Mode) (h : Objects) (S : Effect → Type 0) (stuck : S Stuck) (raises : (c : EndCause) → S (Raises c)) where
  pub value_took : (o : Operand) (os : List Operand) (ts : List VType) (vs : List Value) → TakenSo b m (o ∷ os) ts vs → (go : Value → List Value → Effect) →
      ((v : Value) → HeldSo b m o v → (rest : List Value) → TakenSo b m os ts rest → S (go v rest)) → S (on_value vs go)
  value_took o os ts [] t go k = absurd t
  value_took o os ts (v ∷ vs) t go k = k v t.0 vs t.1

  pub int_is : (v : Value) (go : ℤ → Effect) → ((x : ℤ) → v ≡ value.Int x → S (go x)) → S (as_int v go)
  int_is (value.Int x) go k = k x refl
  int_is (value.Long x) go k = stuck
  int_is value.Null go k = stuck
  int_is (value.Ref n) go k = stuck
  int_is (value.Text u) go k = stuck
  int_is (value.Box x) go k = stuck
  int_is value.Fiber go k = stuck

  pub long_is : (v : Value) (go : ℤ → Effect) → ((x : ℤ) → v ≡ value.Long x → S (go x)) → S (as_long v go)
  long_is (value.Long x) go k = k x refl
  long_is (value.Int x) go k = stuck
  long_is value.Null go k = stuck
  long_is (value.Ref n) go k = stuck
  long_is (value.Text u) go k = stuck
  long_is (value.Box x) go k = stuck
  long_is value.Fiber go k = stuck

  pub reference_is : (v : Value) (go : Value → Effect) → S (go v) → S (as_reference v go)
  reference_is (value.Int x) go k = stuck
  reference_is (value.Long x) go k = stuck
  reference_is value.Null go k = k
  reference_is (value.Ref n) go k = k
  reference_is (value.Text u) go k = k
  reference_is (value.Box x) go k = k
  reference_is value.Fiber go k = k

  pub receiver_is : (v : Value) (go : Value → Effect) → S (go v) → S (as_receiver v go)
  receiver_is (value.Int x) go k = stuck
  receiver_is (value.Long x) go k = stuck
  receiver_is value.Null go k = raises _
  receiver_is (value.Ref n) go k = k
  receiver_is (value.Text u) go k = k
  receiver_is (value.Box x) go k = k
  receiver_is value.Fiber go k = k

  pub some_is : {A : Type 0} (o : Option A) (go : A → Effect) → ((x : A) → o ≡ Some x → S (go x)) → S (with_some o go)
  some_is None go k = stuck
  some_is (Some x) go k = k x refl

  pub object_is : (v : Value) (go : ℕ → HeapObject → Effect) → ((n : ℕ) (o : HeapObject) → get h n ≡ Some o → S (go n o)) → S (as_object v h go)
  object_is (value.Int x) go k = stuck
  object_is (value.Long x) go k = stuck
  object_is value.Null go k = raises _
  object_is (value.Ref n) go k = some_is (get h n) (go n) (k n)
  object_is (value.Text u) go k = stuck
  object_is (value.Box x) go k = stuck
  object_is value.Fiber go k = stuck

  pub class_is : (v : Value) (go : Option Ty → Effect) → ((c : Option Ty) → S (go c)) → S (as_class p v h go)
  class_is (value.Int x) go k = stuck
  class_is (value.Long x) go k = stuck
  class_is value.Null go k = k None
  class_is (value.Ref n) go k = some_is (get h n) (λ o. go (Some o.class)) (λ o e. k (Some o.class))
  class_is (value.Text u) go k = k _
  class_is (value.Box x) go k = k _
  class_is value.Fiber go k = k _

  pub index_is : (es : List Value) (i : ℤ) (go : ℕ → Value → Effect) → ((k : ℕ) (v : Value) → slice_get es k ≡ Some v → S (go k v)) → S (at_index es i go)
  index_is es (negsuc i) go k = raises _
  index_is es (pos i) go k = at (slice_get es i) refl
    where
      at : (o : Option Value) → slice_get es i ≡ o → S (at_place o (go i))
      at None e = raises _
      at (Some v) e = k i v e

  pub constant_is : (v : Value) (go : Value → Effect) → ((c : Value) → is_box b c ≡ false → S (go c)) → S (on_constant v go)
  constant_is (value.Int x) go k = k (value.Int x) refl
  constant_is (value.Long x) go k = k (value.Long x) refl
  constant_is (value.Text u) go k = k (value.Text u) refl
  constant_is value.Null go k = stuck
  constant_is (value.Ref n) go k = stuck
  constant_is (value.Box x) go k = stuck
  constant_is value.Fiber go k = stuck

  -- ---- taken from the stack

  pub int_took : (o : Operand) (os : List Operand) (ts : List VType) (vs : List Value) → TakenSo b m (o ∷ os) ts vs → (go : ℤ → List Value → Effect) →
      ((x : ℤ) (rest : List Value) → TakenSo b m os ts rest → S (go x rest)) → S (on_int vs go)
  int_took o os ts vs t go k = value_took o os ts vs t _ (λ v held rest r. int_is v _ (λ x e. k x rest r))

  pub two_ints : (o q : Operand) (os : List Operand) (ts : List VType) (vs : List Value) → TakenSo b m (o ∷ q ∷ os) ts vs → (go : ℤ → ℤ → List Value → Effect) →
      ((x y : ℤ) (rest : List Value) → TakenSo b m os ts rest → S (go x y rest)) → S (on_two_ints vs go)
  two_ints o q os ts vs t go k = int_took o (q ∷ os) ts vs t _ (λ y below r. int_took q os ts below r _ (λ x rest s. k x y rest s))

  pub long_took : (o : Operand) (os : List Operand) (ts : List VType) (vs : List Value) → TakenSo b m (o ∷ os) ts vs → (go : ℤ → List Value → Effect) →
      ((x : ℤ) (rest : List Value) → TakenSo b m os ts rest → S (go x rest)) → S (on_long vs go)
  long_took o os ts vs t go k = value_took o os ts vs t _ (λ v held rest r. long_is v _ (λ x e. k x rest r))

  pub two_longs : (o q : Operand) (os : List Operand) (ts : List VType) (vs : List Value) → TakenSo b m (o ∷ q ∷ os) ts vs → (go : ℤ → ℤ → List Value → Effect) →
      ((x y : ℤ) (rest : List Value) → TakenSo b m os ts rest → S (go x y rest)) → S (on_two_longs vs go)
  two_longs o q os ts vs t go k = long_took o (q ∷ os) ts vs t _ (λ y below r. long_took q os ts below r _ (λ x rest s. k x y rest s))

  pub reference_took : (o : Operand) (os : List Operand) (ts : List VType) (vs : List Value) → TakenSo b m (o ∷ os) ts vs → (go : Value → List Value → Effect) →
      ((v : Value) → HeldSo b m o v → (rest : List Value) → TakenSo b m os ts rest → S (go v rest)) → S (on_reference vs go)
  reference_took o os ts vs t go k = value_took o os ts vs t _ (λ v held rest r. reference_is v _ (k v held rest r))

  pub receiver_took : (o : Operand) (os : List Operand) (ts : List VType) (vs : List Value) → TakenSo b m (o ∷ os) ts vs → (go : Value → List Value → Effect) →
      ((v : Value) → HeldSo b m o v → (rest : List Value) → TakenSo b m os ts rest → S (go v rest)) → S (on_receiver vs go)
  receiver_took o os ts vs t go k = value_took o os ts vs t _ (λ v held rest r. receiver_is v _ (k v held rest r))

  pub object_took : (o : Operand) (os : List Operand) (ts : List VType) (vs : List Value) → TakenSo b m (o ∷ os) ts vs → (go : ℕ → HeapObject → List Value → Effect) →
      ((n : ℕ) (x : HeapObject) → get h n ≡ Some x → (rest : List Value) → TakenSo b m os ts rest → S (go n x rest)) → S (on_object vs h go)
  object_took o os ts vs t go k = value_took o os ts vs t _ (λ v held rest r. object_is v _ (λ n x e. k n x e rest r))

  -- ---- arguments

  pub values_took : (os qs : List Operand) → AllPlain os → (ts : List VType) (vs : List Value) → TakenSo b m (os ++ qs) ts vs → (go : List Value → List Value → Effect) →
      ((xs rest : List Value) → ValuesSo b m xs → TakenSo b m qs ts rest → S (go xs rest)) → S (on_values (length os) vs go)
  values_took [] qs all ts vs t go k = k [] vs tt t
  values_took (o ∷ os) qs all ts [] t go k = absurd t
  values_took (o ∷ os) qs all ts (v ∷ vs) t go k = values_took os qs all.1 ts vs t.1 (λ xs below. go (v ∷ xs) below) (λ xs rest e r. k (v ∷ xs) rest (t.0 all.0, e) r)

pub turned_so : (b : BoxName) (m : Mode) (xs ys : List Value) → ValuesSo b m xs → ValuesSo b m ys → ValuesSo b m (reverse_aux xs ys)
turned_so b m [] ys e d = d
turned_so b m (x ∷ xs) ys e d = turned_so b m xs (x ∷ ys) e.1 (e.0, d)

pub reversed_so : (b : BoxName) (m : Mode) (xs : List Value) → ValuesSo b m xs → ValuesSo b m (reverse xs)
reversed_so b m xs e = turned_so b m xs [] e tt
