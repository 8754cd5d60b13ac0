-- Reading at a place of the code.
use Rattle.std.proofs.Common.{◌≡◌, ℕ, ◌+◌, ◌-◌, ◌<◌, ◌≤◌, List, ◌++◌, length, drop, Result, Ok, Err, refl, sym, ap, ◌∙◌, arith}
use Rattle.std.proofs.lemmas.List.{length-append, length-drop, drop_at, drop-drop}
use Rattle.kilim_class_grammar.proofs.Bytes.{IsBytes, IsBytes-drop}
use Rattle.kilim_class_code.specs.declared.opcodes.fault.OpFault.{OpFault}
use Rattle.kilim_class_code.specs.declared.opcodes.instr.RawInstr.{RawInstr}
use Rattle.kilim_class_code.specs.opcodes.Instr.{instr_text, instr_len, InstrFits}
use Rattle.kilim_class_code.specs.opcodes.Reading.{instr_at}
use Rattle.kilim_class_code.specs.opcodes.Exact.{Stands}
use Rattle.kilim_class_code.proofs.opcodes.OneInstr.{instr_takes, instr_again}
use Rattle.kilim_class_code.proofs.opcodes.InstrLengths.{lengths}

module _ (code : List ℕ) (at : ℕ) (instr : RawInstr) (rest : List ℕ) (bytes : IsBytes code) (within : at < length code) (read : instr_at at (drop at code) ≡ Ok (instr, rest)) where
  pub shorter : length rest ≤ length code
  shorter =
      let t = instr_takes at (drop at code) instr rest (IsBytes-drop at code bytes) read in
      let e = ap length t.0.parts in
      omega (arith, length-append (instr_text at instr) rest, length-drop at code)

  pub stands : Stands code at instr (length code - length rest)
  stands =
      let t = instr_takes at (drop at code) instr rest (IsBytes-drop at code bytes) read in
      let e : length (drop at code) ≡ length (instr_text at instr ++ rest) = ap length t.0.parts in
      let behind : length code - length rest ≡ at + instr_len at instr = omega (arith, e, length-append (instr_text at instr) rest, length-drop at code, lengths at instr) in
      let size : length code - length rest ≡ at + length (instr_text at instr) = omega (arith, e, length-append (instr_text at instr) rest, length-drop at code) in
      let there : drop (length code - length rest) code ≡ rest =
      ap (λ (n : ℕ). drop n code) size
      ∙ (sym (drop-drop (length (instr_text at instr)) at code)
      ∙ (ap (drop (length (instr_text at instr))) t.0.parts ∙ drop_at (instr_text at instr) rest (length (instr_text at instr)) refl)) in
      record { fits = t.1; parts = t.0.parts ∙ ap (λ (r : List ℕ). instr_text at instr ++ r) (sym there); behind = behind }

abbrev read_so : RawInstr × List ℕ → Result (RawInstr × List ℕ) OpFault
read_so x = Ok x

one_value : (x y : RawInstr × List ℕ) → read_so x ≡ read_so y → x ≡ y
one_value x y e = cc

pub same_instr : (at : ℕ) (bytes : List ℕ) (instr : RawInstr) (rest : List ℕ) (other : RawInstr) (more : List ℕ) → instr_at at bytes ≡ Ok (instr, rest) → InstrFits at other → bytes ≡ instr_text at other ++ more → instr ≡ other
same_instr at bytes instr rest other more read fits e =
    let found : RawInstr × List ℕ = (instr, rest) in
    let expected : RawInstr × List ℕ = (other, more) in
    ap (λ (x : RawInstr × List ℕ). x.0) (one_value found expected (sym read ∙ (ap (instr_at at) e ∙ instr_again at other more fits)))

-- where no instruction begins, none is spelled
pub none_spelled : (at : ℕ) (bytes : List ℕ) (e : OpFault) (other : RawInstr) (more : List ℕ) → instr_at at bytes ≡ Err e → InstrFits at other → bytes ≡ instr_text at other ++ more → ⊥
none_spelled at bytes e other more read fits is =
    let expected : RawInstr × List ℕ = (other, more) in
    let both : read_so expected ≡ Err e = sym (ap (instr_at at) is ∙ instr_again at other more fits) ∙ read in
    cc
