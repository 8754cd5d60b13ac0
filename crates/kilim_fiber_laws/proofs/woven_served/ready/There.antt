-- What frames hold is in the heap: their stacks, and the locals that are live.
use Rattle.std.proofs.Common.{◌≡◌, inl, inr, ℕ, zero, suc, ◌+◌, Bool, true, List, [], ◌∷◌, Some, None, refl, subst, arith}
use Rattle.std.specs.Prelude.{slice_get}
use Rattle.std.specs.FinMap.{get}
use Rattle.kilim_program.specs.declared.value.Value.{Value}
use Rattle.kilim_program.specs.declared.value.Value.TheVariants as value
use Rattle.kilim_type_sound.specs.Fits.{AreThere, IsThere}
use Rattle.kilim_run_state.specs.declared.value.Object.{Object as HeapObject}
use Rattle.kilim_run_state.specs.Machine.{Activation, Objects}
use Rattle.kilim_run_model.specs.Reach.{FramesName, LiveNames, Liveness, LowerName, Names, SomeNames}

value_is : (x y : Value) → Some x ≡ Some y → x ≡ y
value_is x y e = cc

module _ (h : Objects) where
  value_there : (v : Value) → ((n : ℕ) → Names v n → (o : HeapObject) × (get h n ≡ Some o)) → IsThere h v
  value_there (value.Ref n) e = e n refl
  value_there (value.Int x) e = tt
  value_there (value.Long x) e = tt
  value_there value.Null e = tt
  value_there (value.Text units) e = tt
  value_there (value.Box box) e = tt
  value_there value.Fiber e = tt

  named_there : (vs : List Value) → ((n : ℕ) → SomeNames vs n → (o : HeapObject) × (get h n ≡ Some o)) → AreThere h vs
  named_there [] e = tt
  named_there (v ∷ vs) e = (value_there v (λ n s. e n (inl s)), named_there vs (λ n s. e n (inr s)))

  live_there : (f : ℕ → Bool) (i : ℕ) (vs : List Value) → ((n : ℕ) → LiveNames f i vs n → (o : HeapObject) × (get h n ≡ Some o)) → (j : ℕ) → f (i + j) ≡ true → (v : Value) → slice_get vs j ≡ Some v → IsThere h v
  live_there f i [] t j e v at = absurd (none at)
    where
      none : None ≡ Some v → ⊥
      none e = cc
  live_there f i (x ∷ vs) t zero e v at =
      let d : i + 0 ≡ i = omega arith in
      subst (λ (y : Value). IsThere h y) (value_is x v at) (value_there x (λ n names. t n (inl (subst (λ (k : ℕ). f k ≡ true) d e, names))))
  live_there f i (x ∷ vs) t (suc j) e v at =
      let d : i + suc j ≡ suc i + j = omega arith in
      live_there f (suc i) vs (λ n l. t n (inr l)) j (subst (λ (k : ℕ). f k ≡ true) d e) v at

  module _ (live : Liveness) where
    abbrev pub AllThere : List Activation → Type 0
    AllThere fs = (n : ℕ) → FramesName live fs n → (o : HeapObject) × (get h n ≡ Some o)

    -- the same, of frames that wait
    abbrev pub LowerThere : List Activation → Type 0
    LowerThere fs = (n : ℕ) → LowerName live fs n → (o : HeapObject) × (get h n ≡ Some o)

    pub stack_of : (a : Activation) (fs : List Activation) → AllThere (a ∷ fs) → AreThere h a.stack
    stack_of a fs t = named_there a.stack (λ n s. t n (inl s))

    pub local_of : (a : Activation) (fs : List Activation) → AllThere (a ∷ fs) → (j : ℕ) → live.top a.method a.place j ≡ true → (v : Value) → slice_get a.locals j ≡ Some v → IsThere h v
    local_of a fs t j e v at =
        let d : j ≡ 0 + j = omega arith in
        live_there (live.top a.method a.place) 0 a.locals (λ n l. t n (inr (inl l))) j (subst (λ (k : ℕ). live.top a.method a.place k ≡ true) d e) v at

    pub rest_of : (a : Activation) (fs : List Activation) → AllThere (a ∷ fs) → LowerThere fs
    rest_of a fs t = λ n f. t n (inr (inr f))

    pub lower_stack_of : (a : Activation) (fs : List Activation) → LowerThere (a ∷ fs) → AreThere h a.stack
    lower_stack_of a fs t = named_there a.stack (λ n s. t n (inl s))

    pub lower_local_of : (a : Activation) (fs : List Activation) → LowerThere (a ∷ fs) → (j : ℕ) → live.below a.method a.place j ≡ true → (v : Value) → slice_get a.locals j ≡ Some v → IsThere h v
    lower_local_of a fs t j e v at =
        let d : j ≡ 0 + j = omega arith in
        live_there (live.below a.method a.place) 0 a.locals (λ n l. t n (inr (inl l))) j (subst (λ (k : ℕ). live.below a.method a.place k ≡ true) d e) v at

    pub lower_rest_of : (a : Activation) (fs : List Activation) → LowerThere (a ∷ fs) → LowerThere fs
    lower_rest_of a fs t = λ n f. t n (inr (inr f))
