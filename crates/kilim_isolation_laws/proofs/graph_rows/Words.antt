-- What an effect has to be, word by word.
use Rattle.std.proofs.Common.{◌≡◌, ℕ, ℤ, pos, negsuc, Bool, true, false, true≢false, not, cond, List, [], ◌∷◌, Option, Some, None, refl, sym, ap, ◌∙◌}
use Rattle.std.specs.Prelude.{slice_get}
use Rattle.std.specs.FinMap.{get}
use Rattle.kilim_run_state.specs.declared.cause.EndCause.TheVariants as cause
use Rattle.kilim_run_state.specs.declared.cause.EndCause.{EndCause}
use Rattle.kilim_program.specs.declared.ty.Ty.{Ty}
use Rattle.kilim_run_state.specs.declared.value.Object.{Object}
use Rattle.kilim_program.specs.declared.value.Value.{Value}
use Rattle.kilim_program.specs.declared.value.Value.TheVariants.{Int, Long, Null, Ref, Text, Box, Fiber}
use Rattle.kilim_program.specs.Program.{Program}
use Rattle.kilim_run_state.specs.Machine.{Objects}
use Rattle.kilim_run_machine.specs.Effect.{Effect, Raises, Ends, Stuck, with_some, on_value, as_reference, as_receiver, on_receiver, as_int, as_long, on_int, on_two_ints, on_long, on_two_longs, is_wide, when, wide_or, on_word, on_two_words, on_reference, as_object, on_object, as_class, at_place, at_index}
use Rattle.kilim_isolation_laws.specs.graph_rows.Facts.{class_in, class_of}
use Rattle.kilim_isolation_laws.specs.graph_rows.Holds.{refers}

-- what a reference is: an object of that class or array type, or none
pub data IsClass (heap : Objects) (v : Value) (class : Option Ty) : Type 0 where
  OfObject : (n : ℕ) (object : Object) → v ≡ Ref n → get heap n ≡ Some object → class ≡ Some object.class → IsClass heap v class
  OfNone : refers v ≡ None → is_wide v ≡ false → IsClass heap v class

module _ (P : Effect → Type 0) (stuck : P Stuck) (raises : (c : EndCause) → P (Raises c)) (ends : (c : EndCause) → P (Ends c)) where
  pub some_h : {A : Type 0} (x : Option A) (go : A → Effect) → ((a : A) → x ≡ Some a → P (go a)) → P (with_some x go)
  some_h None go w = stuck
  some_h (Some a) go w = w a refl

  pub cond_h : (b : Bool) (x y : Effect) → (b ≡ true → P x) → (b ≡ false → P y) → P (cond b x y)
  cond_h true x y yes_h no_h = yes_h refl
  cond_h false x y yes_h no_h = no_h refl

  pub value_h : (s : List Value) (go : Value → List Value → Effect) → ((v : Value) (rest : List Value) → s ≡ v ∷ rest → P (go v rest)) → P (on_value s go)
  value_h [] go w = stuck
  value_h (v ∷ rest) go w = w v rest refl

  pub int_h : (v : Value) (go : ℤ → Effect) → ((x : ℤ) → v ≡ Int x → P (go x)) → P (as_int v go)
  int_h (Int x) go w = w x refl
  int_h (Long x) go w = stuck
  int_h Null go w = stuck
  int_h (Ref n) go w = stuck
  int_h (Text units) go w = stuck
  int_h (Box box) go w = stuck
  int_h Fiber go w = stuck

  pub long_h : (v : Value) (go : ℤ → Effect) → ((x : ℤ) → v ≡ Long x → P (go x)) → P (as_long v go)
  long_h (Int x) go w = stuck
  long_h (Long x) go w = w x refl
  long_h Null go w = stuck
  long_h (Ref n) go w = stuck
  long_h (Text units) go w = stuck
  long_h (Box box) go w = stuck
  long_h Fiber go w = stuck

  pub on_int_h : (s : List Value) (go : ℤ → List Value → Effect) → ((x : ℤ) (rest : List Value) → s ≡ Int x ∷ rest → P (go x rest)) → P (on_int s go)
  on_int_h s go w = value_h s _ (λ v rest e. int_h v _ (λ x is. w x rest (e ∙ ap (λ z. z ∷ rest) is)))

  pub on_long_h : (s : List Value) (go : ℤ → List Value → Effect) → ((x : ℤ) (rest : List Value) → s ≡ Long x ∷ rest → P (go x rest)) → P (on_long s go)
  on_long_h s go w = value_h s _ (λ v rest e. long_h v _ (λ x is. w x rest (e ∙ ap (λ z. z ∷ rest) is)))

  pub two_ints_h : (s : List Value) (go : ℤ → ℤ → List Value → Effect) → ((a b : ℤ) (rest : List Value) → s ≡ Int b ∷ Int a ∷ rest → P (go a b rest)) → P (on_two_ints s go)
  two_ints_h s go w = on_int_h s _ (λ b below e. on_int_h below _ (λ a rest is. w a b rest (e ∙ ap (λ z. Int b ∷ z) is)))

  pub two_longs_h : (s : List Value) (go : ℤ → ℤ → List Value → Effect) → ((a b : ℤ) (rest : List Value) → s ≡ Long b ∷ Long a ∷ rest → P (go a b rest)) → P (on_two_longs s go)
  two_longs_h s go w = on_long_h s _ (λ b below e. on_long_h below _ (λ a rest is. w a b rest (e ∙ ap (λ z. Long b ∷ z) is)))

  pub reference_h : (v : Value) (go : Value → Effect) → (is_wide v ≡ false → P (go v)) → P (as_reference v go)
  reference_h (Int x) go w = stuck
  reference_h (Long x) go w = stuck
  reference_h Null go w = w refl
  reference_h (Ref n) go w = w refl
  reference_h (Text units) go w = w refl
  reference_h (Box box) go w = w refl
  reference_h Fiber go w = w refl

  pub on_reference_h : (s : List Value) (go : Value → List Value → Effect) → ((v : Value) (rest : List Value) → s ≡ v ∷ rest → is_wide v ≡ false → P (go v rest)) → P (on_reference s go)
  on_reference_h s go w = value_h s _ (λ v rest e. reference_h v _ (λ narrow. w v rest e narrow))

  pub receiver_h : (v : Value) (go : Value → Effect) → (is_wide v ≡ false → P (go v)) → P (as_receiver v go)
  receiver_h (Int x) go w = stuck
  receiver_h (Long x) go w = stuck
  receiver_h Null go w = raises cause.Null
  receiver_h (Ref n) go w = w refl
  receiver_h (Text units) go w = w refl
  receiver_h (Box box) go w = w refl
  receiver_h Fiber go w = w refl

  pub on_receiver_h : (s : List Value) (go : Value → List Value → Effect) → ((v : Value) (rest : List Value) → s ≡ v ∷ rest → is_wide v ≡ false → P (go v rest)) → P (on_receiver s go)
  on_receiver_h s go w = value_h s _ (λ v rest e. receiver_h v _ (λ narrow. w v rest e narrow))

  pub when_h : (b : Bool) (e : Effect) → (b ≡ true → P e) → P (when b e)
  when_h true e w = w refl
  when_h false e w = stuck

  narrow_is : (b : Bool) → not b ≡ true → b ≡ false
  narrow_is true e = absurd (true≢false (sym e))
  narrow_is false e = refl

  pub word_h : (s : List Value) (go : Value → List Value → Effect) → ((v : Value) (rest : List Value) → s ≡ v ∷ rest → is_wide v ≡ false → P (go v rest)) → P (on_word s go)
  word_h s go w = value_h s _ (λ v rest e. when_h (not (is_wide v)) _ (λ n. w v rest e (narrow_is (is_wide v) n)))

  wide_h : (b : Bool) (x y : Effect) → (b ≡ true → P x) → (b ≡ false → P y) → P (wide_or b x y)
  wide_h true x y a c = a refl
  wide_h false x y a c = c refl

  pub two_words_h : (s : List Value) (go : List Value → List Value → Effect) →
      ((v : Value) (rest : List Value) → s ≡ v ∷ rest → is_wide v ≡ true → P (go (v ∷ []) rest)) →
      ((v w : Value) (rest : List Value) → s ≡ v ∷ w ∷ rest → is_wide v ≡ false → is_wide w ≡ false → P (go (v ∷ w ∷ []) rest)) → P (on_two_words s go)
  two_words_h s go wide narrow = value_h s _ (λ v rest e. wide_h (is_wide v) _ _ (λ is. wide v rest e is)
      (λ is. word_h rest _ (λ w below e' no_w. narrow v w below (e ∙ ap (λ z. v ∷ z) e') is no_w)))

  pub as_object_h : (v : Value) (heap : Objects) (go : ℕ → Object → Effect) → ((n : ℕ) (object : Object) → v ≡ Ref n → get heap n ≡ Some object → P (go n object)) → P (as_object v heap go)
  as_object_h (Int x) heap go w = stuck
  as_object_h (Long x) heap go w = stuck
  as_object_h Null heap go w = raises cause.Null
  as_object_h (Ref n) heap go w = some_h (get heap n) _ (λ object e. w n object refl e)
  as_object_h (Text units) heap go w = stuck
  as_object_h (Box box) heap go w = stuck
  as_object_h Fiber heap go w = stuck

  pub object_h : (s : List Value) (heap : Objects) (go : ℕ → Object → List Value → Effect) →
      ((n : ℕ) (object : Object) (rest : List Value) → s ≡ Ref n ∷ rest → get heap n ≡ Some object → P (go n object rest)) → P (on_object s heap go)
  object_h s heap go w = value_h s _ (λ v rest e. as_object_h v heap _ (λ n object is there. w n object rest (e ∙ ap (λ z. z ∷ rest) is) there))

  pub class_h : (p : Program) (v : Value) (heap : Objects) (go : Option Ty → Effect) → ((class : Option Ty) → IsClass heap v class → P (go class)) → P (as_class p v heap go)
  class_h p (Int x) heap go w = stuck
  class_h p (Long x) heap go w = stuck
  class_h p Null heap go w = w None (OfNone refl refl)
  class_h p (Ref n) heap go w = some_h (get heap n) _ (λ object e. w (Some object.class) (OfObject n object refl e refl))
  class_h p (Text units) heap go w = w _ (OfNone refl refl)
  class_h p (Box box) heap go w = w _ (OfNone refl refl)
  class_h p Fiber heap go w = w _ (OfNone refl refl)

  place_h : (x : Option Value) (go : Value → Effect) → ((v : Value) → x ≡ Some v → P (go v)) → P (at_place x go)
  place_h None go w = raises cause.Index
  place_h (Some v) go w = w v refl

  pub index_h : (elements : List Value) (i : ℤ) (go : ℕ → Value → Effect) → ((k : ℕ) (v : Value) → slice_get elements k ≡ Some v → P (go k v)) → P (at_index elements i go)
  index_h elements (negsuc i) go w = raises cause.Index
  index_h elements (pos i) go w = place_h (slice_get elements i) (go i) (λ v e. w i v e)

  -- with the class that it is of
  pub class_of_h : (p : Program) (v : Value) (heap : Objects) (go : Option Ty → Effect) → ((class : Option Ty) → class_of p heap v ≡ class → P (go class)) → P (as_class p v heap go)
  class_of_h p (Int x) heap go w = stuck
  class_of_h p (Long x) heap go w = stuck
  class_of_h p Null heap go w = w None refl
  class_of_h p (Ref n) heap go w = some_h (get heap n) _ (λ object e. w (Some object.class) (ap class_in e))
  class_of_h p (Text units) heap go w = w _ refl
  class_of_h p (Box box) heap go w = w _ refl
  class_of_h p Fiber heap go w = w _ refl
