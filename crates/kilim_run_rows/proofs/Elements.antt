-- Elements that an instruction reads or writes, and the place out of bounds.
use Rattle.std.proofs.Common.{◌≡◌, ◌∙◌, sym, ap, refl, ℕ, ℤ, pos, negsuc, true, false, true≢false, List, ◌∷◌, Option, Some, None, is_some, slice_get}
use Rattle.std.specs.Prelude.{slice_set}
use Rattle.std.specs.FinMap.{get, insert}
use Rattle.kilim_program.specs.declared.class.Method.{Method}
use Rattle.kilim_program.specs.declared.instr.Instr.TheVariants.{Laload, Aaload, Iastore, Lastore}
use Rattle.kilim_program.specs.declared.value.Value.{Value}
use Rattle.kilim_program.specs.declared.value.Value.TheVariants.{Int, Long, Ref}
use Rattle.kilim_program.specs.Names.{◌>>=◌}
use Rattle.kilim_program.specs.Program.{Program}
use Rattle.kilim_run_state.specs.declared.cause.EndCause.TheVariants as cause
use Rattle.kilim_run_state.specs.declared.value.Object.{Object}
use Rattle.kilim_run_state.specs.Machine.{Objects}
use Rattle.kilim_run_machine.specs.Effect.{Effect, Goes, Raises, as_int, as_long, at_index, at_place, on_int, on_object, with_some}
use Rattle.kilim_run_machine.specs.Does.{does, loads_int, narrowed_int, stores_int, with_element}
use Rattle.kilim_run_state.specs.Words as words
use Rattle.kilim_run_state.specs.Words.{changed_to, element_at}
use Rattle.kilim_run_state.specs.frames.Stacked.{Stacked}
use Rattle.kilim_run_rows.specs.Outcome.{found_in, is_stuck}

raised_by : (o : Option Object) (k : ℕ) (go : Object → ℕ → Value → Effect) → is_stuck (with_some o (λ (object : Object). at_index object.elements (pos k) (go object))) ≡ false → (o >>= λ (x : Object). slice_get x.elements k) ≡ None →
    with_some o (λ (object : Object). at_index object.elements (pos k) (go object)) ≡ Raises cause.Index
raised_by None k go fine none = absurd (true≢false fine)
raised_by (Some object) k go fine none = ap (λ (v : Option Value). at_place v (go object k)) none

raised_below : (o : Option Object) (k : ℕ) (go : Object → ℕ → Value → Effect) → is_stuck (with_some o (λ (object : Object). at_index object.elements (negsuc k) (go object))) ≡ false → with_some o (λ (object : Object). at_index object.elements (negsuc k) (go object)) ≡ Raises cause.Index
raised_below None k go fine = absurd (true≢false fine)
raised_below (Some object) k go fine = refl

-- there is no such element
raised : (h : Objects) (n : ℕ) (i : ℤ) (go : Object → ℕ → Value → Effect) → is_stuck (with_some (get h n) (λ (object : Object). at_index object.elements i (go object))) ≡ false → found_in h n i ≡ None →
    with_some (get h n) (λ (object : Object). at_index object.elements i (go object)) ≡ Raises cause.Index
raised h n (pos k) go fine none = raised_by (get h n) k go fine none
raised h n (negsuc k) go fine none = raised_below (get h n) k go fine

placed : (v : Option Value) (e : Effect) → is_some v ≡ true → at_place v (λ old. e) ≡ e
placed None e there = absurd (true≢false (sym there))
placed (Some v) e there = refl

written_by : (o : Option Object) (h : Objects) (n k next : ℕ) (ls rest : List Value) (v : Value) → is_some (o >>= λ (x : Object). slice_get x.elements k) ≡ true →
    with_some o (λ (object : Object). at_index object.elements (pos k) (λ j old. Goes next ls rest (insert h n (with_element object j v)))) ≡ Goes next ls rest (changed_to h n o (λ (x : Object). record x { elements = slice_set x.elements k v }))
written_by None h n k next ls rest v there = absurd (true≢false (sym there))
written_by (Some object) h n k next ls rest v there = placed (slice_get object.elements k) (Goes next ls rest (insert h n (with_element object k v))) there

no_value : (v : Value) → ◌≡◌ {A = Option Value} None (Some v) → ⊥
no_value v e = cc

read_by : (o : Option Object) (k : ℕ) (v : Value) (go : Value → Effect) → (o >>= λ (x : Object). slice_get x.elements k) ≡ Some v → with_some o (λ (object : Object). at_index object.elements (pos k) (λ l w. go w)) ≡ go v
read_by None k v go there = absurd (no_value v there)
read_by (Some object) k v go there = ap (λ (w : Option Value). at_place w go) there

-- an array and an index on the stack
module _ (h : Objects) (s t u : Stacked) (i : ℤ) (n : ℕ) (first : s ≡ record t { values = Int i ∷ t.values }) (second : t ≡ record u { values = Ref n ∷ u.values }) where
  row : (go : List Value → ℕ → Object → ℕ → Value → Effect) → on_int s.values (λ j below. on_object below h (λ m object rest. at_index object.elements j (go rest m object))) ≡ with_some (get h n) (λ (object : Object). at_index object.elements i (go u.values n object))
  row go =
      ap (λ (x : Stacked). on_int x.values (λ j below. on_object below h (λ m object rest. at_index object.elements j (go rest m object)))) first
      ∙ ap (λ (x : Stacked). on_object x.values h (λ m object rest. at_index object.elements i (go rest m object))) second

  outside : (go : List Value → ℕ → Object → ℕ → Value → Effect) → is_stuck (on_int s.values (λ j below. on_object below h (λ m object rest. at_index object.elements j (go rest m object)))) ≡ false → found_in h n i ≡ None →
      on_int s.values (λ j below. on_object below h (λ m object rest. at_index object.elements j (go rest m object))) ≡ Raises cause.Index
  outside go fine none = row go ∙ raised h n i (go u.values n) (ap is_stuck (sym (row go)) ∙ fine) none

  pub no_int : (next : ℕ) (ls : List Value) → is_stuck (loads_int next ls s.values h) ≡ false → found_in h n i ≡ None → loads_int next ls s.values h ≡ Raises cause.Index
  no_int next ls fine none = outside (λ rest m object k v. as_int v (λ x. Goes next ls (Int x ∷ rest) h)) fine none

  pub no_long : (p : Program) (own : Method) (next : ℕ) (ls : List Value) → is_stuck (does p own Laload next ls s.values h) ≡ false → found_in h n i ≡ None → does p own Laload next ls s.values h ≡ Raises cause.Index
  unfolding does
  no_long p own next ls fine none = outside (λ rest m object k v. as_long v (λ x. Goes next ls (Long x ∷ rest) h)) fine none

  pub no_reference : (p : Program) (own : Method) (next : ℕ) (ls : List Value) → is_stuck (does p own Aaload next ls s.values h) ≡ false → found_in h n i ≡ None → does p own Aaload next ls s.values h ≡ Raises cause.Index
  unfolding does
  no_reference p own next ls fine none = outside (λ rest m object k v. Goes next ls (v ∷ rest) h) fine none

  -- a value on top of them, which is written
  pub no_int_place : (p : Program) (own : Method) (next : ℕ) (ls : List Value) (r : Stacked) (x : ℤ) → r ≡ record s { values = Int x ∷ s.values } → is_stuck (does p own Iastore next ls r.values h) ≡ false → found_in h n i ≡ None → does p own Iastore next ls r.values h ≡ Raises cause.Index
  unfolding does
  no_int_place p own next ls r x top fine none =
      let over = ap (λ (y : Stacked). does p own Iastore next ls y.values h) top in
      over ∙ outside (λ rest m object k old. Goes next ls rest (insert h m (with_element object k (Int x)))) (ap is_stuck (sym over) ∙ fine) none

  pub no_long_place : (p : Program) (own : Method) (next : ℕ) (ls : List Value) (r : Stacked) (x : ℤ) → r ≡ record s { values = Long x ∷ s.values } → is_stuck (does p own Lastore next ls r.values h) ≡ false → found_in h n i ≡ None → does p own Lastore next ls r.values h ≡ Raises cause.Index
  unfolding does
  no_long_place p own next ls r x top fine none =
      let over = ap (λ (y : Stacked). does p own Lastore next ls y.values h) top in
      over ∙ outside (λ rest m object k old. Goes next ls rest (insert h m (with_element object k (Long x)))) (ap is_stuck (sym over) ∙ fine) none

  pub no_narrow_place : (next : ℕ) (ls : List Value) (r : Stacked) (x : ℤ) → r ≡ record s { values = Int x ∷ s.values } → is_stuck (stores_int next ls r.values h) ≡ false → found_in h n i ≡ None → stores_int next ls r.values h ≡ Raises cause.Index
  no_narrow_place next ls r x top fine none =
      let over = ap (λ (y : Stacked). stores_int next ls y.values h) top in
      over ∙ outside (λ rest m object k old. Goes next ls rest (insert h m (with_element object k (Int (narrowed_int object.class.base x))))) (ap is_stuck (sym over) ∙ fine) none

  -- the value is written at its place
  written : (next k : ℕ) (ls : List Value) (v : Value) → i ≡ pos k → is_some (element_at h n k) ≡ true → on_int s.values (λ j below. on_object below h (λ m object rest. at_index object.elements j (λ l old. Goes next ls rest (insert h m (with_element object l v))))) ≡ Goes next ls u.values (words.with_element h n k v)
  written next k ls v is there =
      row (λ rest m object l old. Goes next ls rest (insert h m (with_element object l v)))
      ∙ (ap (λ (j : ℤ). with_some (get h n) (λ (object : Object). at_index object.elements j (λ l old. Goes next ls u.values (insert h n (with_element object l v))))) is ∙ written_by (get h n) h n k next ls u.values v there)

  pub int_written : (p : Program) (own : Method) (next k : ℕ) (ls : List Value) (r : Stacked) (x : ℤ) → r ≡ record s { values = Int x ∷ s.values } → i ≡ pos k → is_some (element_at h n k) ≡ true → does p own Iastore next ls r.values h ≡ Goes next ls u.values (words.with_element h n k (Int x))
  unfolding does
  int_written p own next k ls r x top is there = ap (λ (y : Stacked). does p own Iastore next ls y.values h) top ∙ written next k ls (Int x) is there

  pub long_written : (p : Program) (own : Method) (next k : ℕ) (ls : List Value) (r : Stacked) (x : ℤ) → r ≡ record s { values = Long x ∷ s.values } → i ≡ pos k → is_some (element_at h n k) ≡ true → does p own Lastore next ls r.values h ≡ Goes next ls u.values (words.with_element h n k (Long x))
  unfolding does
  long_written p own next k ls r x top is there = ap (λ (y : Stacked). does p own Lastore next ls y.values h) top ∙ written next k ls (Long x) is there

  -- what is read is put on top
  pub int_read : (next k : ℕ) (ls : List Value) (w : Stacked) (x : ℤ) → i ≡ pos k → element_at h n k ≡ Some (Int x) → w ≡ record u { values = Int x ∷ u.values } → loads_int next ls s.values h ≡ Goes next ls w.values h
  int_read next k ls w x is there pushed =
      let go : Value → Effect = λ (v : Value). as_int v (λ y. Goes next ls (Int y ∷ u.values) h) in
      row (λ rest m object l v. as_int v (λ y. Goes next ls (Int y ∷ rest) h))
      ∙ (ap (λ (j : ℤ). with_some (get h n) (λ (object : Object). at_index object.elements j (λ l v. go v))) is
      ∙ (read_by (get h n) k (Int x) go there ∙ ap (λ (y : Stacked). Goes next ls y.values h) (sym pushed)))

  pub long_read : (p : Program) (own : Method) (next k : ℕ) (ls : List Value) (w : Stacked) (x : ℤ) → i ≡ pos k → element_at h n k ≡ Some (Long x) → w ≡ record u { values = Long x ∷ u.values } → does p own Laload next ls s.values h ≡ Goes next ls w.values h
  unfolding does
  long_read p own next k ls w x is there pushed =
      let go : Value → Effect = λ (v : Value). as_long v (λ y. Goes next ls (Long y ∷ u.values) h) in
      row (λ rest m object l v. as_long v (λ y. Goes next ls (Long y ∷ rest) h))
      ∙ (ap (λ (j : ℤ). with_some (get h n) (λ (object : Object). at_index object.elements j (λ l v. go v))) is
      ∙ (read_by (get h n) k (Long x) go there ∙ ap (λ (y : Stacked). Goes next ls y.values h) (sym pushed)))
