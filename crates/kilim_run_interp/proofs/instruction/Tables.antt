-- What the rows of the table come to, by the operations that their instructions name.
use Rattle.std.proofs.Common.{◌≡◌, ◌⊎◌, inl, inr, refl, ap, ℕ, ◌<◌, false, true≢false, List, [], ◌∷◌, Option, Some, None, length, arith}
use Rattle.kilim_program.specs.declared.class.Method.{Method}
use Rattle.kilim_program.specs.declared.instr.Instr.{Instr}
use Rattle.kilim_program.specs.declared.instr.Instr.TheVariants.{Ladd, Lsub, Lmul, Land, Lor, Lxor, Ishl, Ishr, Iushr, Lshl, Lshr, Lushr, Ineg, I2b, I2c, I2s, Iaload, Baload, Caload, Saload, Bastore, Castore, Sastore, Ireturn, Lreturn, Areturn}
use Rattle.kilim_program.specs.declared.ty.Ty.{Ty}
use Rattle.kilim_program.specs.declared.value.Value.{Value}
use Rattle.kilim_program.specs.declared.value.Value.TheVariants.{Int, Long, Null, Ref, Text, Box, Fiber}
use Rattle.kilim_program.specs.Program.{Program}
use Rattle.kilim_run_state.specs.Machine.{Objects}
use Rattle.kilim_run_machine.specs.Effect.{Returns}
use Rattle.kilim_run_machine.specs.Does.{does, int_binary, int_unary, long_binary, long_shift, loads_int, narrowed_result, stores_int}
use Rattle.kilim_run_state.specs.frames.Stacked.{is_int}
use Rattle.kilim_run_rows.specs.declared.numbers.Binary.{Binary}
use Rattle.kilim_run_rows.specs.declared.numbers.Shift.{Shift}
use Rattle.kilim_run_rows.specs.declared.numbers.Unary.{Unary}
use Rattle.kilim_run_rows.specs.Operations.{long_of, int_shift, long_shift_of, int_of_one}
use Rattle.kilim_run_rows.specs.Outcome.{is_stuck, returned_by}
use Rattle.kilim_run_interp.specs.instruction.Operations.{binary_of, shift_of, unary_of}

pub two_longs_row : (p : Program) (own : Method) (i : Instr) (o : Binary) (next : ℕ) (ls s : List Value) (h : Objects) → o ≡ binary_of i → (i ≡ Ladd) ⊎ ((i ≡ Lsub) ⊎ ((i ≡ Lmul) ⊎ ((i ≡ Land) ⊎ ((i ≡ Lor) ⊎ (i ≡ Lxor))))) → does p own i next ls s h ≡ long_binary (long_of o) next ls s h
unfolding does
two_longs_row p own i o next ls s h names (inl e) = rw (names, e) refl
two_longs_row p own i o next ls s h names (inr (inl e)) = rw (names, e) refl
two_longs_row p own i o next ls s h names (inr (inr (inl e))) = rw (names, e) refl
two_longs_row p own i o next ls s h names (inr (inr (inr (inl e)))) = rw (names, e) refl
two_longs_row p own i o next ls s h names (inr (inr (inr (inr (inl e))))) = rw (names, e) refl
two_longs_row p own i o next ls s h names (inr (inr (inr (inr (inr e))))) = rw (names, e) refl

pub int_shift_row : (p : Program) (own : Method) (i : Instr) (o : Shift) (next : ℕ) (ls s : List Value) (h : Objects) → o ≡ shift_of i → (i ≡ Ishl) ⊎ ((i ≡ Ishr) ⊎ (i ≡ Iushr)) → does p own i next ls s h ≡ int_binary (int_shift o) next ls s h
unfolding does
int_shift_row p own i o next ls s h names (inl e) = rw (names, e) refl
int_shift_row p own i o next ls s h names (inr (inl e)) = rw (names, e) refl
int_shift_row p own i o next ls s h names (inr (inr e)) = rw (names, e) refl

pub long_shift_row : (p : Program) (own : Method) (i : Instr) (o : Shift) (next : ℕ) (ls s : List Value) (h : Objects) → o ≡ shift_of i → (i ≡ Lshl) ⊎ ((i ≡ Lshr) ⊎ (i ≡ Lushr)) → does p own i next ls s h ≡ long_shift (long_shift_of o) next ls s h
unfolding does
long_shift_row p own i o next ls s h names (inl e) = rw (names, e) refl
long_shift_row p own i o next ls s h names (inr (inl e)) = rw (names, e) refl
long_shift_row p own i o next ls s h names (inr (inr e)) = rw (names, e) refl

pub one_int_row : (p : Program) (own : Method) (i : Instr) (o : Unary) (next : ℕ) (ls s : List Value) (h : Objects) → o ≡ unary_of i → (i ≡ Ineg) ⊎ ((i ≡ I2b) ⊎ ((i ≡ I2c) ⊎ (i ≡ I2s))) → does p own i next ls s h ≡ int_unary (int_of_one o) next ls s h
unfolding does
one_int_row p own i o next ls s h names (inl e) = rw (names, e) refl
one_int_row p own i o next ls s h names (inr (inl e)) = rw (names, e) refl
one_int_row p own i o next ls s h names (inr (inr (inl e))) = rw (names, e) refl
one_int_row p own i o next ls s h names (inr (inr (inr e))) = rw (names, e) refl

pub int_load_row : (p : Program) (own : Method) (i : Instr) (next : ℕ) (ls s : List Value) (h : Objects) → (i ≡ Iaload) ⊎ ((i ≡ Baload) ⊎ ((i ≡ Caload) ⊎ (i ≡ Saload))) → does p own i next ls s h ≡ loads_int next ls s h
unfolding does
int_load_row p own i next ls s h (inl e) = rw e refl
int_load_row p own i next ls s h (inr (inl e)) = rw e refl
int_load_row p own i next ls s h (inr (inr (inl e))) = rw e refl
int_load_row p own i next ls s h (inr (inr (inr e))) = rw e refl

pub narrow_store_row : (p : Program) (own : Method) (i : Instr) (next : ℕ) (ls s : List Value) (h : Objects) → (i ≡ Bastore) ⊎ ((i ≡ Castore) ⊎ (i ≡ Sastore)) → does p own i next ls s h ≡ stores_int next ls s h
unfolding does
narrow_store_row p own i next ls s h (inl e) = rw e refl
narrow_store_row p own i next ls s h (inr (inl e)) = rw e refl
narrow_store_row p own i next ls s h (inr (inr e)) = rw e refl

-- ---- returns of a value

-- what is no int is returned as it is
kept : (r : Option Ty) (v : Value) → is_int v ≡ false → v ≡ narrowed_result r v
kept None v other = refl
kept (Some ty) (Int x) other = absurd (true≢false other)
kept (Some ty) (Long x) other = refl
kept (Some ty) Null other = refl
kept (Some ty) (Ref n) other = refl
kept (Some ty) (Text units) other = refl
kept (Some ty) (Box box) other = refl
kept (Some ty) Fiber other = refl

kept_on_top : (own : Method) (v : Value) (h : Objects) → is_int v ≡ false → Returns (Some v) h ≡ Returns (Some (narrowed_result own.result v)) h
kept_on_top own v h other = ap (λ (w : Value). Returns (Some w) h) (kept own.result v other)

int_returned : (p : Program) (own : Method) (next : ℕ) (ls s : List Value) (h : Objects) → is_stuck (does p own Ireturn next ls s h) ≡ false → (0 < length s) × (does p own Ireturn next ls s h ≡ Returns (returned_by own s) h)
unfolding does
int_returned p own next ls [] h fine = absurd (true≢false fine)
int_returned p own next ls (Int x ∷ rest) h fine = (omega arith, refl)
int_returned p own next ls (Long x ∷ rest) h fine = absurd (true≢false fine)
int_returned p own next ls (Null ∷ rest) h fine = absurd (true≢false fine)
int_returned p own next ls (Ref n ∷ rest) h fine = absurd (true≢false fine)
int_returned p own next ls (Text units ∷ rest) h fine = absurd (true≢false fine)
int_returned p own next ls (Box box ∷ rest) h fine = absurd (true≢false fine)
int_returned p own next ls (Fiber ∷ rest) h fine = absurd (true≢false fine)

long_returned : (p : Program) (own : Method) (next : ℕ) (ls s : List Value) (h : Objects) → is_stuck (does p own Lreturn next ls s h) ≡ false → (0 < length s) × (does p own Lreturn next ls s h ≡ Returns (returned_by own s) h)
unfolding does
long_returned p own next ls [] h fine = absurd (true≢false fine)
long_returned p own next ls (Int x ∷ rest) h fine = absurd (true≢false fine)
long_returned p own next ls (Long x ∷ rest) h fine = (omega arith, kept_on_top own (Long x) h refl)
long_returned p own next ls (Null ∷ rest) h fine = absurd (true≢false fine)
long_returned p own next ls (Ref n ∷ rest) h fine = absurd (true≢false fine)
long_returned p own next ls (Text units ∷ rest) h fine = absurd (true≢false fine)
long_returned p own next ls (Box box ∷ rest) h fine = absurd (true≢false fine)
long_returned p own next ls (Fiber ∷ rest) h fine = absurd (true≢false fine)

reference_returned : (p : Program) (own : Method) (next : ℕ) (ls s : List Value) (h : Objects) → is_stuck (does p own Areturn next ls s h) ≡ false → (0 < length s) × (does p own Areturn next ls s h ≡ Returns (returned_by own s) h)
unfolding does
reference_returned p own next ls [] h fine = absurd (true≢false fine)
reference_returned p own next ls (Int x ∷ rest) h fine = absurd (true≢false fine)
reference_returned p own next ls (Long x ∷ rest) h fine = absurd (true≢false fine)
reference_returned p own next ls (Null ∷ rest) h fine = (omega arith, kept_on_top own Null h refl)
reference_returned p own next ls (Ref n ∷ rest) h fine = (omega arith, kept_on_top own (Ref n) h refl)
reference_returned p own next ls (Text units ∷ rest) h fine = (omega arith, kept_on_top own (Text units) h refl)
reference_returned p own next ls (Box box ∷ rest) h fine = (omega arith, kept_on_top own (Box box) h refl)
reference_returned p own next ls (Fiber ∷ rest) h fine = (omega arith, kept_on_top own Fiber h refl)

pub value_returned : (p : Program) (own : Method) (i : Instr) (next : ℕ) (ls s : List Value) (h : Objects) → (i ≡ Ireturn) ⊎ ((i ≡ Lreturn) ⊎ (i ≡ Areturn)) → is_stuck (does p own i next ls s h) ≡ false → (0 < length s) × (does p own i next ls s h ≡ Returns (returned_by own s) h)
value_returned p own i next ls s h (inl e) fine = rw e (int_returned p own next ls s h (rw e at fine))
value_returned p own i next ls s h (inr (inl e)) fine = rw e (long_returned p own next ls s h (rw e at fine))
value_returned p own i next ls s h (inr (inr e)) fine = rw e (reference_returned p own next ls s h (rw e at fine))
