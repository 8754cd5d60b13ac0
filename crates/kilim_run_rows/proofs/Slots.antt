-- Slots and fields that an instruction names are there where it isn't stuck.
use Rattle.std.proofs.Common.{◌≡◌, ◌∙◌, sym, ap, ℕ, zero, suc, ◌<◌, ℤ, false, true≢false, List, [], ◌∷◌, Option, Some, None, length, slice_get, arith}
use Rattle.std.specs.Prelude.{slice_set}
use Rattle.std.specs.FinMap.{get, insert}
use Rattle.std.specs.Int.{w32, int_wrapping_add}
use Rattle.kilim_program.specs.declared.class.Field.{Field}
use Rattle.kilim_program.specs.declared.class.Method.{Method}
use Rattle.kilim_program.specs.declared.instr.Instr.TheVariants.{Iload, Lload, Aload, Istore, Lstore, Astore, Iinc, Getstatic, Putfield}
use Rattle.kilim_program.specs.declared.names.FieldId.{FieldId}
use Rattle.kilim_program.specs.declared.value.Value.{Value}
use Rattle.kilim_program.specs.declared.value.Value.TheVariants.{Int, Long, Null, Ref, Text, Box, Fiber}
use Rattle.kilim_program.specs.Program.{Program}
use Rattle.kilim_run_state.specs.declared.value.Object.{Object}
use Rattle.kilim_run_state.specs.Machine.{Objects}
use Rattle.kilim_run_state.specs.Shapes.{field_in}
use Rattle.kilim_run_machine.specs.Effect.{Effect, Goes, as_int, as_long, as_reference, on_constant, on_int, on_long, on_reference, with_some}
use Rattle.kilim_run_machine.specs.Does.{does, narrowed_to, with_field}
use Rattle.kilim_run_state.specs.frames.Stacked.{Stacked}
use Rattle.kilim_run_rows.specs.Outcome.{is_stuck}

slot_there : {A : Type 0} (xs : List A) (n : ℕ) (go : A → Effect) → is_stuck (with_some (slice_get xs n) go) ≡ false → n < length xs
slot_there [] n go fine = absurd (true≢false fine)
slot_there (x ∷ xs) zero go fine = omega arith
slot_there (x ∷ xs) (suc n) go fine = let less = slot_there xs n go fine in omega (arith, less)

of_int : (s : List Value) (go : ℤ → List Value → Effect) (P : Type 0) → ((x : ℤ) (rest : List Value) → is_stuck (go x rest) ≡ false → P) → is_stuck (on_int s go) ≡ false → P
of_int [] go P there fine = absurd (true≢false fine)
of_int (Int x ∷ rest) go P there fine = there x rest fine
of_int (Long x ∷ rest) go P there fine = absurd (true≢false fine)
of_int (Null ∷ rest) go P there fine = absurd (true≢false fine)
of_int (Ref n ∷ rest) go P there fine = absurd (true≢false fine)
of_int (Text units ∷ rest) go P there fine = absurd (true≢false fine)
of_int (Box box ∷ rest) go P there fine = absurd (true≢false fine)
of_int (Fiber ∷ rest) go P there fine = absurd (true≢false fine)

of_long : (s : List Value) (go : ℤ → List Value → Effect) (P : Type 0) → ((x : ℤ) (rest : List Value) → is_stuck (go x rest) ≡ false → P) → is_stuck (on_long s go) ≡ false → P
of_long [] go P there fine = absurd (true≢false fine)
of_long (Int x ∷ rest) go P there fine = absurd (true≢false fine)
of_long (Long x ∷ rest) go P there fine = there x rest fine
of_long (Null ∷ rest) go P there fine = absurd (true≢false fine)
of_long (Ref n ∷ rest) go P there fine = absurd (true≢false fine)
of_long (Text units ∷ rest) go P there fine = absurd (true≢false fine)
of_long (Box box ∷ rest) go P there fine = absurd (true≢false fine)
of_long (Fiber ∷ rest) go P there fine = absurd (true≢false fine)

of_reference : (s : List Value) (go : Value → List Value → Effect) (P : Type 0) → ((x : Value) (rest : List Value) → is_stuck (go x rest) ≡ false → P) → is_stuck (on_reference s go) ≡ false → P
of_reference [] go P there fine = absurd (true≢false fine)
of_reference (Int x ∷ rest) go P there fine = absurd (true≢false fine)
of_reference (Long x ∷ rest) go P there fine = absurd (true≢false fine)
of_reference (Null ∷ rest) go P there fine = there Null rest fine
of_reference (Ref n ∷ rest) go P there fine = there (Ref n) rest fine
of_reference (Text units ∷ rest) go P there fine = there (Text units) rest fine
of_reference (Box box ∷ rest) go P there fine = there (Box box) rest fine
of_reference (Fiber ∷ rest) go P there fine = there Fiber rest fine

module _ (p : Program) (own : Method) (n next : ℕ) (ls s : List Value) (h : Objects) where
  pub int_loaded : is_stuck (does p own (Iload n) next ls s h) ≡ false → n < length ls
  unfolding does
  int_loaded fine = slot_there ls n (λ (v : Value). as_int v (λ x. Goes next ls (Int x ∷ s) h)) fine

  pub long_loaded : is_stuck (does p own (Lload n) next ls s h) ≡ false → n < length ls
  unfolding does
  long_loaded fine = slot_there ls n (λ (v : Value). as_long v (λ x. Goes next ls (Long x ∷ s) h)) fine

  pub reference_loaded : is_stuck (does p own (Aload n) next ls s h) ≡ false → n < length ls
  unfolding does
  reference_loaded fine = slot_there ls n (λ (v : Value). as_reference v (λ r. Goes next ls (r ∷ s) h)) fine

  pub int_stored : is_stuck (does p own (Istore n) next ls s h) ≡ false → n < length ls
  unfolding does
  int_stored fine = of_int s (λ (x : ℤ) (rest : List Value). with_some (slice_get ls n) (λ (_ : Value). Goes next (slice_set ls n (Int x)) rest h)) (n < length ls) (λ x rest there. slot_there ls n (λ (_ : Value). Goes next (slice_set ls n (Int x)) rest h) there) fine

  pub long_stored : is_stuck (does p own (Lstore n) next ls s h) ≡ false → n < length ls
  unfolding does
  long_stored fine = of_long s (λ (x : ℤ) (rest : List Value). with_some (slice_get ls n) (λ (_ : Value). Goes next (slice_set ls n (Long x)) rest h)) (n < length ls) (λ x rest there. slot_there ls n (λ (_ : Value). Goes next (slice_set ls n (Long x)) rest h) there) fine

  pub reference_stored : is_stuck (does p own (Astore n) next ls s h) ≡ false → n < length ls
  unfolding does
  reference_stored fine = of_reference s (λ (x : Value) (rest : List Value). with_some (slice_get ls n) (λ (_ : Value). Goes next (slice_set ls n x) rest h)) (n < length ls) (λ x rest there. slot_there ls n (λ (_ : Value). Goes next (slice_set ls n x) rest h) there) fine

  pub increased : (k : ℤ) → is_stuck (does p own (Iinc n k) next ls s h) ≡ false → n < length ls
  unfolding does
  increased k fine = slot_there ls n (λ (v : Value). as_int v (λ x. Goes next (slice_set ls n (Int (int_wrapping_add w32 x k))) s h)) fine

-- ---- declared fields

declared_of : {A : Type 0} (o : Option Object) (xs : List A) (n : ℕ) (go : Object → A → Effect) → is_stuck (with_some o (λ (object : Object). with_some (slice_get xs n) (go object))) ≡ false → n < length xs
declared_of None xs n go fine = absurd (true≢false fine)
declared_of (Some object) xs n go fine = slot_there xs n (go object) fine

module _ (p : Program) (own : Method) (f : FieldId) (next : ℕ) (ls : List Value) (h : Objects) where
  pub declared_read : (s : List Value) → is_stuck (does p own (Getstatic f) next ls s h) ≡ false → f.0 < length p.fields
  unfolding does
  declared_read s fine = slot_there p.fields f.0 (λ (field : Field). with_some field.constant (λ v. on_constant v (λ c. Goes next ls (c ∷ s) h))) fine

  pub declared_written : (s t u : Stacked) (v : Value) (n : ℕ) → s ≡ record t { values = v ∷ t.values } → t ≡ record u { values = Ref n ∷ u.values } → is_stuck (does p own (Putfield f) next ls s.values h) ≡ false → f.0 < length p.fields
  unfolding does
  declared_written s t u v n first second fine =
      let go : Object → Field → Effect = λ (object : Object) (field : Field). with_some (field_in object.fields f) (λ old. Goes next ls u.values (insert h n (record object { fields = with_field object.fields f (narrowed_to field.ty v) }))) in
      let row : is_stuck (does p own (Putfield f) next ls s.values h) ≡ is_stuck (with_some (get h n) (λ (object : Object). with_some (slice_get p.fields f.0) (go object))) =
      ap (λ (x : Stacked). is_stuck (does p own (Putfield f) next ls x.values h)) first
      ∙ ap (λ (x : Stacked). is_stuck (does p own (Putfield f) next ls (v ∷ x.values) h)) second in
      declared_of (get h n) p.fields f.0 go (sym row ∙ fine)
