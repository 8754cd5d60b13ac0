-- What an operation on two numbers leaves.
use Rattle.std.proofs.Common.{◌≡◌, ◌∙◌, sym, ap, ℕ, ℤ, pos, Bool, List, ◌∷◌}
use Rattle.std.specs.Prelude.{if◌then◌else◌}
use Rattle.std.specs.Ordering.{int_eq}
use Rattle.std.proofs.lemmas.Bool.Decides.{Decides-int_eq}
use Rattle.kilim_program.specs.declared.class.Method.{Method}
use Rattle.kilim_program.specs.declared.instr.Instr.TheVariants.{Lcmp}
use Rattle.kilim_program.specs.declared.value.Value.{Value}
use Rattle.kilim_program.specs.declared.value.Value.TheVariants.{Int, Long}
use Rattle.kilim_program.specs.Program.{Program}
use Rattle.kilim_run_state.specs.declared.cause.EndCause.TheVariants as cause
use Rattle.kilim_run_state.specs.Machine.{Objects}
use Rattle.kilim_run_machine.specs.Effect.{Goes, Raises, on_int, on_long}
use Rattle.kilim_run_machine.specs.Does.{compared, does, int_binary, int_division, long_binary, long_division, long_shift}
use Rattle.kilim_run_state.specs.frames.Stacked.{Stacked}
use Rattle.kilim_run_rows.proofs.Matches.{differ}

module _ (f : ℤ → ℤ → ℤ) (next : ℕ) (ls : List Value) (s t u w : Stacked) (h : Objects) (a b r : ℤ) where
  pub ints_left : s ≡ record t { values = Int b ∷ t.values } → t ≡ record u { values = Int a ∷ u.values } → w ≡ record u { values = Int r ∷ u.values } → r ≡ f a b → int_binary f next ls s.values h ≡ Goes next ls w.values h
  ints_left first second pushed is =
      ap (λ (x : Stacked). int_binary f next ls x.values h) first
      ∙ (ap (λ (x : Stacked). on_int x.values (λ y rest. Goes next ls (Int (f y b) ∷ rest) h)) second
      ∙ (ap (λ (y : ℤ). Goes next ls (Int y ∷ u.values) h) (sym is) ∙ ap (λ (x : Stacked). Goes next ls x.values h) (sym pushed)))

  pub longs_left : s ≡ record t { values = Long b ∷ t.values } → t ≡ record u { values = Long a ∷ u.values } → w ≡ record u { values = Long r ∷ u.values } → r ≡ f a b → long_binary f next ls s.values h ≡ Goes next ls w.values h
  longs_left first second pushed is =
      ap (λ (x : Stacked). long_binary f next ls x.values h) first
      ∙ (ap (λ (x : Stacked). on_long x.values (λ y rest. Goes next ls (Long (f y b) ∷ rest) h)) second
      ∙ (ap (λ (y : ℤ). Goes next ls (Long y ∷ u.values) h) (sym is) ∙ ap (λ (x : Stacked). Goes next ls x.values h) (sym pushed)))

  pub shift_left : s ≡ record t { values = Int b ∷ t.values } → t ≡ record u { values = Long a ∷ u.values } → w ≡ record u { values = Long r ∷ u.values } → r ≡ f a b → long_shift f next ls s.values h ≡ Goes next ls w.values h
  shift_left first second pushed is =
      ap (λ (x : Stacked). long_shift f next ls x.values h) first
      ∙ (ap (λ (x : Stacked). on_long x.values (λ y rest. Goes next ls (Long (f y b) ∷ rest) h)) second
      ∙ (ap (λ (y : ℤ). Goes next ls (Long y ∷ u.values) h) (sym is) ∙ ap (λ (x : Stacked). Goes next ls x.values h) (sym pushed)))

  -- ---- divisions

  divided : (b ≡ pos 0 → ⊥) → w ≡ record u { values = Int r ∷ u.values } → r ≡ f a b → (if int_eq b (pos 0) then Raises cause.Zero else Goes next ls (Int (f a b) ∷ u.values) h) ≡ Goes next ls w.values h
  divided other pushed is =
      ap (λ (c : Bool). if c then Raises cause.Zero else Goes next ls (Int (f a b) ∷ u.values) h) (differ (int_eq b (pos 0)) b (pos 0) (Decides-int_eq b (pos 0)) other)
      ∙ (ap (λ (y : ℤ). Goes next ls (Int y ∷ u.values) h) (sym is) ∙ ap (λ (x : Stacked). Goes next ls x.values h) (sym pushed))

  pub ints_divided : s ≡ record t { values = Int b ∷ t.values } → t ≡ record u { values = Int a ∷ u.values } → (b ≡ pos 0 → ⊥) → w ≡ record u { values = Int r ∷ u.values } → r ≡ f a b → int_division f next ls s.values h ≡ Goes next ls w.values h
  ints_divided first second other pushed is =
      ap (λ (x : Stacked). int_division f next ls x.values h) first
      ∙ (ap (λ (x : Stacked). on_int x.values (λ y rest. if int_eq b (pos 0) then Raises cause.Zero else Goes next ls (Int (f y b) ∷ rest) h)) second ∙ divided other pushed is)

  divided_long : (b ≡ pos 0 → ⊥) → w ≡ record u { values = Long r ∷ u.values } → r ≡ f a b → (if int_eq b (pos 0) then Raises cause.Zero else Goes next ls (Long (f a b) ∷ u.values) h) ≡ Goes next ls w.values h
  divided_long other pushed is =
      ap (λ (c : Bool). if c then Raises cause.Zero else Goes next ls (Long (f a b) ∷ u.values) h) (differ (int_eq b (pos 0)) b (pos 0) (Decides-int_eq b (pos 0)) other)
      ∙ (ap (λ (y : ℤ). Goes next ls (Long y ∷ u.values) h) (sym is) ∙ ap (λ (x : Stacked). Goes next ls x.values h) (sym pushed))

  pub longs_divided : s ≡ record t { values = Long b ∷ t.values } → t ≡ record u { values = Long a ∷ u.values } → (b ≡ pos 0 → ⊥) → w ≡ record u { values = Long r ∷ u.values } → r ≡ f a b → long_division f next ls s.values h ≡ Goes next ls w.values h
  longs_divided first second other pushed is =
      ap (λ (x : Stacked). long_division f next ls x.values h) first
      ∙ (ap (λ (x : Stacked). on_long x.values (λ y rest. if int_eq b (pos 0) then Raises cause.Zero else Goes next ls (Long (f y b) ∷ rest) h)) second ∙ divided_long other pushed is)

-- a comparison of two longs
pub longs_compared : (p : Program) (own : Method) (next : ℕ) (ls : List Value) (s t u w : Stacked) (h : Objects) (a b r : ℤ) → s ≡ record t { values = Long b ∷ t.values } → t ≡ record u { values = Long a ∷ u.values } → w ≡ record u { values = Int r ∷ u.values } → r ≡ compared a b → does p own Lcmp next ls s.values h ≡ Goes next ls w.values h
unfolding does
longs_compared p own next ls s t u w h a b r first second pushed is =
    ap (λ (x : Stacked). does p own Lcmp next ls x.values h) first
    ∙ (ap (λ (x : Stacked). on_long x.values (λ y rest. Goes next ls (Int (compared y b) ∷ rest) h)) second
    ∙ (ap (λ (y : ℤ). Goes next ls (Int y ∷ u.values) h) (sym is) ∙ ap (λ (x : Stacked). Goes next ls x.values h) (sym pushed)))
