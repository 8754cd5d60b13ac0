-- What continuation words do where the operands are as they should be.
use Rattle.std.proofs.Common.{◌≡◌, ◌≢◌, ℕ, ℤ, pos, negsuc, Bool, true, false, List, [], ◌∷◌, ◌++◌, Option, Some, None, Result, Ok, Err, refl, sym, ap, subst, ◌∙◌}
use Rattle.std.specs.Prelude.{◌&&◌, not, slice_get}
use Rattle.std.specs.FinMap.{get}
use Rattle.std.proofs.lemmas.Bool.{and_parts, and_from}
use Rattle.kilim_run_state.specs.declared.cause.EndCause.{EndCause}
use Rattle.kilim_program.specs.declared.class.Method.{Method}
use Rattle.kilim_program.specs.declared.ty.Ty.{Ty}
use Rattle.kilim_run_state.specs.declared.value.Object.{Object as HeapObject}
use Rattle.kilim_program.specs.declared.value.Value.{Value}
use Rattle.kilim_program.specs.declared.value.Value.TheVariants as value
use Rattle.kilim_program.specs.declared.verified.VType.{VType}
use Rattle.kilim_program.specs.declared.verified.VType.TheVariants.{Top, Int, Long, Null, UninitThis, Uninit, Object}
use Rattle.kilim_program.specs.Program.{Program}
use Rattle.kilim_run_state.specs.Machine.{Objects}
use Rattle.kilim_run_machine.specs.Effect.{Effect, Raises, with_some, on_value, as_reference, as_receiver, as_int, as_long, on_int, on_two_ints, on_long, on_two_longs, is_wide, when, wide_or, on_word, on_two_words, on_reference, as_object, as_class, at_place, at_index}
use Rattle.kilim_type_spec.specs.Step.{Operand, Is, AReference, off, above, then_off}
use Rattle.kilim_type_sound.specs.Fits.{Classes, is_long_type, has_type, have_types, HeapFits, ObjectFits, IsThere}
use Rattle.kilim_type_sound.specs.Facts.{Ordered}
use Rattle.kilim_type_sound.proofs.Basics.{class_of, is_reference, HeldArray, Held, Taken}
use Rattle.kilim_type_sound.proofs.Steps.{wide_as}

module _ (p : Program) (order : Ordered p) (m : Method) (of : Classes) (h : Objects) (heap : HeapFits p of h) (S : Effect → Type 0) (ended : (c : EndCause) → S (Raises c)) where
  abbrev pub Took : List Operand → List VType → List Value → Type 0
  Took os ts vs = Taken p order m of h os ts vs

  pub value_took : (o : Operand) (os : List Operand) (ts : List VType) (vs : List Value) → Took (o ∷ os) ts vs → (go : Value → List Value → Effect) →
      ((v : Value) → Held p order m of o v → IsThere h v → (rest : List Value) → Took os ts rest → S (go v rest)) → S (on_value vs go)
  value_took o os ts [] t go k = absurd t
  value_took o os ts (v ∷ vs) t go k = k v t.0 t.1.0 vs t.1.1

  pub int_is : (v : Value) → has_type p m of Int v ≡ true → (go : ℤ → Effect) → ((x : ℤ) → S (go x)) → S (as_int v go)
  int_is (value.Int x) e go k = k x
  int_is (value.Long x) e go k = absurd (cc)
  int_is value.Null e go k = absurd (cc)
  int_is (value.Ref n) e go k = absurd (cc)
  int_is (value.Text u) e go k = absurd (cc)
  int_is (value.Box b) e go k = absurd (cc)
  int_is value.Fiber e go k = absurd (cc)

  pub long_is : (v : Value) → has_type p m of Long v ≡ true → (go : ℤ → Effect) → ((x : ℤ) → S (go x)) → S (as_long v go)
  long_is (value.Long x) e go k = k x
  long_is (value.Int x) e go k = absurd (cc)
  long_is value.Null e go k = absurd (cc)
  long_is (value.Ref n) e go k = absurd (cc)
  long_is (value.Text u) e go k = absurd (cc)
  long_is (value.Box b) e go k = absurd (cc)
  long_is value.Fiber e go k = absurd (cc)

  pub int_took : (os : List Operand) (ts : List VType) (vs : List Value) → Took (Is Int ∷ os) ts vs → (go : ℤ → List Value → Effect) →
      ((x : ℤ) (rest : List Value) → Took os ts rest → S (go x rest)) → S (on_int vs go)
  int_took os ts vs t go k = value_took (Is Int) os ts vs t _ (λ v e there rest r. int_is v e _ (λ x. k x rest r))

  pub two_ints : (os : List Operand) (ts : List VType) (vs : List Value) → Took (Is Int ∷ Is Int ∷ os) ts vs → (go : ℤ → ℤ → List Value → Effect) →
      ((x y : ℤ) (rest : List Value) → Took os ts rest → S (go x y rest)) → S (on_two_ints vs go)
  two_ints os ts vs t go k = int_took (Is Int ∷ os) ts vs t _ (λ y below r. int_took os ts below r _ (λ x rest q. k x y rest q))

  pub long_took : (os : List Operand) (ts : List VType) (vs : List Value) → Took (Is Long ∷ os) ts vs → (go : ℤ → List Value → Effect) →
      ((x : ℤ) (rest : List Value) → Took os ts rest → S (go x rest)) → S (on_long vs go)
  long_took os ts vs t go k = value_took (Is Long) os ts vs t _ (λ v e there rest r. long_is v e _ (λ x. k x rest r))

  pub two_longs : (os : List Operand) (ts : List VType) (vs : List Value) → Took (Is Long ∷ Is Long ∷ os) ts vs → (go : ℤ → ℤ → List Value → Effect) →
      ((x y : ℤ) (rest : List Value) → Took os ts rest → S (go x y rest)) → S (on_two_longs vs go)
  two_longs os ts vs t go k = long_took (Is Long ∷ os) ts vs t _ (λ y below r. long_took os ts below r _ (λ x rest q. k x y rest q))

  -- ---- references

  pub reference_is : (v : Value) → is_reference v ≡ true → (go : Value → Effect) → S (go v) → S (as_reference v go)
  reference_is (value.Int x) e go k = absurd (cc)
  reference_is (value.Long x) e go k = absurd (cc)
  reference_is value.Null e go k = k
  reference_is (value.Ref n) e go k = k
  reference_is (value.Text u) e go k = k
  reference_is (value.Box b) e go k = k
  reference_is value.Fiber e go k = k

  -- not null, or the task ends
  pub receiver_is : (v : Value) → is_reference v ≡ true → (go : Value → Effect) → ((v ≢ value.Null) → S (go v)) → S (as_receiver v go)
  receiver_is (value.Int x) e go k = absurd (cc)
  receiver_is (value.Long x) e go k = absurd (cc)
  receiver_is value.Null e go k = ended _
  receiver_is (value.Ref n) e go k = k (λ e. absurd (cc))
  receiver_is (value.Text u) e go k = k (λ e. absurd (cc))
  receiver_is (value.Box b) e go k = k (λ e. absurd (cc))
  receiver_is value.Fiber e go k = k (λ e. absurd (cc))

  pub reference_took : (os : List Operand) (ts : List VType) (vs : List Value) → Took (AReference ∷ os) ts vs → (go : Value → List Value → Effect) →
      ((v : Value) (rest : List Value) → Took os ts rest → S (go v rest)) → S (on_reference vs go)
  reference_took os ts vs t go k = value_took AReference os ts vs t _ (λ v e there rest r. reference_is v e _ (k v rest r))

  some_there : (n : ℕ) (o : HeapObject) → get h n ≡ Some o → (go : HeapObject → Effect) → S (go o) → S (with_some (get h n) go)
  some_there n o e go k = subst (λ (z : Option HeapObject). S (with_some z go)) (sym e) k

  pub array_is : (test : Ty → Bool) (v : Value) → HeldArray of test v → IsThere h v → (go : ℕ → HeapObject → Effect) →
      ((n : ℕ) (o : HeapObject) → get h n ≡ Some o → test o.class ≡ true → ObjectFits p of o → S (go n o)) → S (as_object v h go)
  array_is test (value.Int x) e there go k = absurd e
  array_is test (value.Long x) e there go k = absurd e
  array_is test value.Null e there go k = ended _
  array_is test (value.Ref n) e there go k = some_there n there.0 there.1 (go n) (k n there.0 there.1
      (let same : e.0 ≡ there.0.class = let z = e.1 in let w = heap.classes n there.0 there.1 in cc in subst (λ (c : Ty). test c ≡ true) same e.2) (heap.objects n there.0 there.1))
  array_is test (value.Text u) e there go k = absurd e
  array_is test (value.Box b) e there go k = absurd e
  array_is test value.Fiber e there go k = absurd e

  pub index_is : (es : List Value) (i : ℤ) (go : ℕ → Value → Effect) → ((k : ℕ) (v : Value) → slice_get es k ≡ Some v → S (go k v)) → S (at_index es i go)
  index_is es (negsuc i) go k = ended _
  index_is es (pos i) go k = at (slice_get es i) refl
    where
      at : (o : Option Value) → slice_get es i ≡ o → S (at_place o (go i))
      at None e = ended _
      at (Some v) e = k i v e

  pub class_is : (v : Value) → is_reference v ≡ true → IsThere h v → (go : Option Ty → Effect) → S (go (class_of p of v)) → S (as_class p v h go)
  class_is (value.Int x) e there go k = absurd (cc)
  class_is (value.Long x) e there go k = absurd (cc)
  class_is value.Null e there go k = k
  class_is (value.Ref n) e there go k = some_there n there.0 there.1 (λ o. go (Some o.class)) (subst (λ (c : Option Ty). S (go c)) (heap.classes n there.0 there.1) k)
  class_is (value.Text u) e there go k = k
  class_is (value.Box b) e there go k = k
  class_is value.Fiber e there go k = k

  -- ---- words of the stack

  one_above : (t : VType) (ts : List VType) → is_long_type t ≡ false → off 1 (t ∷ ts) ≡ Ok (t ∷ [], ts)
  one_above Long ts e = absurd (cc)
  one_above Top ts e = refl
  one_above Int ts e = refl
  one_above Null ts e = refl
  one_above UninitThis ts e = refl
  one_above (Uninit q) ts e = refl
  one_above (Object ty) ts e = refl

  pub have_both : (a b : List VType) (vs ws : List Value) → have_types p m of a vs ≡ true → have_types p m of b ws ≡ true → have_types p m of (a ++ b) (vs ++ ws) ≡ true
  have_both [] b [] ws e d = d
  have_both [] b (v ∷ vs) ws e d = absurd (cc)
  have_both (t ∷ a) b [] ws e d = absurd (cc)
  have_both (t ∷ a) b (v ∷ vs) ws e d =
      let es = and_parts (has_type p m of t v) (have_types p m of a vs) e in
      and_from (has_type p m of t v) (have_types p m of (a ++ b) (vs ++ ws)) es.0 (have_both a b vs ws es.1 d)

  module _ (s : List VType) where
    pub word_off : (ts : List VType) (vs : List Value) → have_types p m of ts vs ≡ true → (tgo : List VType → List VType → Result (List VType) ℕ) (go : Value → List Value → Effect) → then_off (off 1 ts) tgo ≡ Ok s →
        ((t : VType) (v : Value) → has_type p m of t v ≡ true → (us : List VType) (ws : List Value) → have_types p m of us ws ≡ true → tgo (t ∷ []) us ≡ Ok s → S (go v ws)) → S (on_word vs go)
    word_off [] vs e tgo go d k = absurd (cc)
    word_off (t ∷ ts) [] e tgo go d k = absurd (cc)
    word_off (t ∷ ts) (v ∷ vs) e tgo go d k = by_long (is_long_type t) refl
      where
        es : (has_type p m of t v ≡ true) × (have_types p m of ts vs ≡ true)
        es = and_parts (has_type p m of t v) (have_types p m of ts vs) e

        long_refused : (t : VType) → is_long_type t ≡ true → then_off (off 1 (t ∷ ts)) tgo ≡ Ok s → ⊥
        long_refused Long l d = absurd (cc)
        long_refused Top l d = absurd (cc)
        long_refused Int l d = absurd (cc)
        long_refused Null l d = absurd (cc)
        long_refused UninitThis l d = absurd (cc)
        long_refused (Uninit q) l d = absurd (cc)
        long_refused (Object ty) l d = absurd (cc)

        by_long : (b : Bool) → is_long_type t ≡ b → S (when (not (is_wide v)) (go v vs))
        by_long true l = absurd (long_refused t l d)
        by_long false l = subst (λ (b : Bool). S (when (not b) (go v vs))) (sym (wide_as p m of t v es.0 ∙ l))
            (k t v es.0 ts vs es.1 (subst (λ (r : Result (List VType × List VType) ℕ). then_off r tgo ≡ Ok s) (one_above t ts l) d))

    -- two words: a long, or two others
    two_above : (t u : VType) (ts : List VType) → is_long_type t ≡ false → is_long_type u ≡ false → off 2 (t ∷ u ∷ ts) ≡ Ok (t ∷ u ∷ [], ts)
    two_above Long u ts e d = absurd (cc)
    two_above Top u ts e d = ap (above Top) (one_above u ts d)
    two_above Int u ts e d = ap (above Int) (one_above u ts d)
    two_above Null u ts e d = ap (above Null) (one_above u ts d)
    two_above UninitThis u ts e d = ap (above UninitThis) (one_above u ts d)
    two_above (Uninit q) u ts e d = ap (above (Uninit q)) (one_above u ts d)
    two_above (Object ty) u ts e d = ap (above (Object ty)) (one_above u ts d)

    above_short : (t : VType) (ts : List VType) → is_long_type t ≡ false → off 2 (t ∷ ts) ≡ above t (off 1 ts)
    above_short Long ts e = absurd (cc)
    above_short Top ts e = refl
    above_short Int ts e = refl
    above_short Null ts e = refl
    above_short UninitThis ts e = refl
    above_short (Uninit q) ts e = refl
    above_short (Object ty) ts e = refl

    long_alone : (t : VType) → is_long_type t ≡ true → t ≡ Long
    long_alone Long e = refl
    long_alone Top e = absurd (cc)
    long_alone Int e = absurd (cc)
    long_alone Null e = absurd (cc)
    long_alone UninitThis e = absurd (cc)
    long_alone (Uninit q) e = absurd (cc)
    long_alone (Object ty) e = absurd (cc)

    above_off : (t : VType) (r : Result (List VType × List VType) ℕ) (tgo : List VType → List VType → Result (List VType) ℕ) → then_off (above t r) tgo ≡ Ok s → then_off r (λ a rest. tgo (t ∷ a) rest) ≡ Ok s
    above_off t (Ok parts) tgo d = d
    above_off t (Err n) tgo d = absurd (cc)

    pub words_off : (ts : List VType) (vs : List Value) → have_types p m of ts vs ≡ true → (tgo : List VType → List VType → Result (List VType) ℕ) (go : List Value → List Value → Effect) → then_off (off 2 ts) tgo ≡ Ok s →
        ((a : List VType) (xs : List Value) → have_types p m of a xs ≡ true → (us : List VType) (ws : List Value) → have_types p m of us ws ≡ true → tgo a us ≡ Ok s → S (go xs ws)) → S (on_two_words vs go)
    words_off [] vs e tgo go d k = absurd (cc)
    words_off (t ∷ ts) [] e tgo go d k = absurd (cc)
    words_off (t ∷ ts) (v ∷ vs) e tgo go d k = by_long (is_long_type t) refl
      where
        es : (has_type p m of t v ≡ true) × (have_types p m of ts vs ≡ true)
        es = and_parts (has_type p m of t v) (have_types p m of ts vs) e

        by_long : (b : Bool) → is_long_type t ≡ b → S (wide_or (is_wide v) (go (v ∷ []) vs) (on_word vs (λ w below. go (v ∷ w ∷ []) below)))
        by_long true l =
            let is = long_alone t l in
            subst (λ (b : Bool). S (wide_or b (go (v ∷ []) vs) (on_word vs (λ w below. go (v ∷ w ∷ []) below)))) (sym (wide_as p m of t v es.0 ∙ l))
            (k (Long ∷ []) (v ∷ []) (and_from (has_type p m of Long v) true (subst (λ (z : VType). has_type p m of z v ≡ true) is es.0) refl) ts vs es.1 (subst (λ (z : VType). then_off (off 2 (z ∷ ts)) tgo ≡ Ok s) is d))
        by_long false l =
            subst (λ (b : Bool). S (wide_or b (go (v ∷ []) vs) (on_word vs (λ w below. go (v ∷ w ∷ []) below)))) (sym (wide_as p m of t v es.0 ∙ l))
            (word_off ts vs es.1 (λ a rest. tgo (t ∷ a) rest) _ (above_off t (off 1 ts) tgo (subst (λ (r : Result (List VType × List VType) ℕ). then_off r tgo ≡ Ok s) (above_short t ts l) d))
            (λ u w h us ws r q. k (t ∷ u ∷ []) (v ∷ w ∷ []) (and_from (has_type p m of t v) (has_type p m of u w && true) es.0 (and_from (has_type p m of u w) true h refl)) us ws r q))
