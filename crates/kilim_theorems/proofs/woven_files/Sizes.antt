-- The lengths of forms, and where they have a text.
use Rattle.std.proofs.Common.{◌≡◌, ℕ, zero, suc, ◌+◌, ◌<◌, ◌^◌, Bool, true, false, nat_lt, if◌then◌else◌, refl, arith, ltb-true}
use Rattle.kilim_class_code.specs.declared.opcodes.forms.OpForm.TheVariants as form
use Rattle.kilim_class_code.specs.declared.opcodes.instr.RawInstr.TheVariants as raw
use Rattle.kilim_class_code.specs.opcodes.Table.{form_of, rows}
use Rattle.kilim_class_code.specs.opcodes.Instr.{instr_len, InstrFits, HasForm}
use Rattle.kilim_weave_file_spec.specs.Raw.{local_form}

-- as the woven form says it
abbrev pub local_size : ℕ → ℕ
local_size slot = if nat_lt slot 4 then 1 else (if nat_lt slot 256 then 2 else 4)

size_by : (at short long slot : ℕ) (b c : Bool) → instr_len at (if b then raw.Plain (short + slot) else (if c then raw.Local long slot else raw.WideLocal long slot)) ≡ (if b then 1 else (if c then 2 else 4))
unfolding instr_len
size_by at short long slot true c = refl
size_by at short long slot false true = refl
size_by at short long slot false false = refl

fits_by : (at short long slot : ℕ) → ((k : ℕ) → k < 4 → HasForm (short + k) form.Plain) → HasForm long form.Local → slot < 2 ^ 16 → (b c : Bool) → nat_lt slot 4 ≡ b → nat_lt slot 256 ≡ c →
    InstrFits at (if b then raw.Plain (short + slot) else (if c then raw.Local long slot else raw.WideLocal long slot))
unfolding InstrFits
fits_by at short long slot plain local few true c lt lc = plain slot (ltb-true slot 4 lt)
fits_by at short long slot plain local few false true lt lc = (local, let less = ltb-true slot 256 lc in omega (arith, less))
fits_by at short long slot plain local few false false lt lc = (local, few)

pub local_fits : (at short long slot : ℕ) → ((k : ℕ) → k < 4 → HasForm (short + k) form.Plain) → HasForm long form.Local → slot < 2 ^ 16 → InstrFits at (local_form short long slot)
local_fits at short long slot plain local few = fits_by at short long slot plain local few (nat_lt slot 4) (nat_lt slot 256) refl refl

four : (k : ℕ) → k < 4 → HasForm (42 + k) form.Plain
unfolding form_of rows
four zero lt = refl
four (suc zero) lt = refl
four (suc (suc zero)) lt = refl
four (suc (suc (suc zero))) lt = refl
four (suc (suc (suc (suc n)))) lt = absurd (omega (arith, lt))

pub aload_fits : (at slot : ℕ) → slot < 2 ^ 16 → InstrFits at (local_form 42 25 slot)
unfolding form_of rows
aload_fits at slot few = local_fits at 42 25 slot four refl few
