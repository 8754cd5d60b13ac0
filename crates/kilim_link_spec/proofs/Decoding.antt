-- What is decoded is what bytes are the text of, and its first fault is that of code arrays.
use Rattle.std.proofs.Common.{◌≡◌, ℕ, zero, suc, ◌+◌, ◌-◌, ◌<◌, ◌≤◌, ℤ, List, [], ◌∷◌, ◌++◌, length, Option, Some, None, Result, Ok, Err, refl, sym, ap, subst, ◌∙◌, append_assoc, arith}
use Rattle.std.specs.Prelude.{◌≢◌}
use Rattle.std.proofs.lemmas.List.{append-nil, length-append}
use Rattle.kilim_class_grammar.specs.Reader.{◌>>=◌, with_fault}
use Rattle.kilim_class_code.specs.declared.opcodes.fault.OpFault.{OpFault}
use Rattle.kilim_class_code.specs.declared.opcodes.fault.OpFault.TheVariants as op
use Rattle.kilim_class_code.specs.declared.opcodes.instr.RawInstr.{RawInstr}
use Rattle.kilim_class_code.specs.declared.opcodes.instr.RawInstr.TheVariants.{Plain}
use Rattle.kilim_class_code.specs.opcodes.Instr.{instr_text, instr_len}
use Rattle.kilim_class_code.specs.opcodes.Reading.{instr_at}
use Rattle.kilim_class_code.specs.opcodes.Exact.{OneSpelling, Lengths}
use Rattle.kilim_class_code.specs.declared.fault.CodeFault.{CodeFault}
use Rattle.kilim_class_code.specs.declared.fault.CodeFault.TheVariants.{Op, MidTarget, FallsOff, Memory}
use Rattle.kilim_class_code.specs.Code.{Placed, placed_text, code_text, StandsFrom, falls_off}
use Rattle.kilim_class_code.specs.Exact.{IsCode, OpFails, TargetFails, EndFails, HasFault, target_or_end, body_fault, op_fault}
use Rattle.kilim_link_spec.specs.Code.{instrs_from, unless_fault, checked_body, decoded}
use Rattle.kilim_link_spec.specs.Laws.{DecodedIsDecode}

some_len : (at : ℕ) (instr : RawInstr) → 0 < instr_len at instr
unfolding instr_len
some_len at (Plain op) = omega arith
some_len at _ = omega arith

abbrev Answer : Type 0
Answer = Result (List Placed) CodeFault

-- the instruction in front of what follows it
abbrev put_front : Placed → Answer → Answer
put_front p r = r >>= λ others. Ok (p ∷ others)

abbrev after_first : ℕ → ℕ → ℕ → Result (RawInstr × List ℕ) OpFault → Answer
after_first t at len r = with_fault (op_fault at) r >>= λ first. instrs_from t (at + (len - length first.1)) first.1 >>= λ others. Ok ((at, first.0) ∷ others)

step : (t at : ℕ) (x : List ℕ) (r : Result (RawInstr × List ℕ) OpFault) → 0 < length x → instr_at at x ≡ r → instrs_from (suc t) at x ≡ after_first t at (length x) r
unfolding instrs_from
step t at [] r some e = absurd (omega (arith, some))
step t at (b ∷ bs) r some e = ap (after_first t at (length (b ∷ bs))) e

-- the instructions of a front before what is answered for the rest
abbrev prefixed : List Placed → Answer → Answer
prefixed code (Ok others) = Ok (code ++ others)
prefixed code (Err e) = Err e

prefixed_nil : (r : Answer) → prefixed [] r ≡ r
prefixed_nil (Ok others) = refl
prefixed_nil (Err e) = refl

prefixed_more : (p : Placed) (code : List Placed) (r : Answer) → put_front p (prefixed code r) ≡ prefixed (p ∷ code) r
prefixed_more p code (Ok others) = refl
prefixed_more p code (Err e) = refl

nothing_left : (u at : ℕ) → instrs_from u at [] ≡ Ok []
unfolding instrs_from
nothing_left zero at = refl
nothing_left (suc u) at = refl

module _ (spelling : OneSpelling) (lengths : Lengths) where
  -- an instruction at the front, with its place
  front : (at : ℕ) (p : Placed) (code : List Placed) (x : List ℕ) → p.0 ≡ at → code_text (p ∷ code) ++ x ≡ instr_text at p.1 ++ (code_text code ++ x)
  unfolding code_text
  front at p code x e = append_assoc (placed_text p) (code_text code) x ∙ ap (λ (k : ℕ). instr_text k p.1 ++ (code_text code ++ x)) e

  behind : (t at end : ℕ) (code : List Placed) (rest : List ℕ) (tail : Answer) → StandsFrom at code end → length (code_text code ++ rest) ≤ t →
      ((u : ℕ) → length rest ≤ u → instrs_from u end rest ≡ tail) → instrs_from t at (code_text code ++ rest) ≡ prefixed code tail
  unfolding StandsFrom code_text
  behind t at end [] rest tail is le ends = ap (λ (k : ℕ). instrs_from t k rest) is ∙ (ends t le ∙ sym (prefixed_nil tail))
  behind zero at end (p ∷ code) rest tail is le ends =
      let e = front at p code rest is.0 in
      absurd (omega (arith, le, ap length e, length-append (instr_text at p.1) (code_text code ++ rest), lengths at p.1, some_len at p.1))
  behind (suc t) at end (p ∷ code) rest tail is le ends =
      let more = code_text code ++ rest in
      let x = code_text (p ∷ code) ++ rest in
      let e : x ≡ instr_text at p.1 ++ more = front at p code rest is.0 in
      let len : length x ≡ instr_len at p.1 + length more = ap length e ∙ (length-append (instr_text at p.1) more ∙ ap (λ (k : ℕ). k + length more) (lengths at p.1)) in
      let some = some_len at p.1 in
      let there : instr_at at x ≡ Ok (p.1, more) = ap (instr_at at) e ∙ (spelling at).again p.1 more is.1 in
      let later = behind t (at + instr_len at p.1) end code rest tail is.2 (omega (arith, le, len, some)) ends in
      let next : at + (length x - length more) ≡ at + instr_len at p.1 = omega (arith, len) in
      step t at x (Ok (p.1, more)) (omega (arith, len, some)) there
      ∙ (ap (λ (k : ℕ). put_front (at, p.1) (instrs_from t k more)) next
      ∙ (ap (put_front (at, p.1)) later
      ∙ (prefixed_more (at, p.1) code tail
      ∙ ap (λ (k : ℕ). prefixed ((k, p.1) ∷ code) tail) (sym is.0))))

  all_read : (bytes : List ℕ) (code : List Placed) → IsCode bytes code → instrs_from (length bytes) 0 bytes ≡ Ok code
  all_read bytes code is =
      let text : code_text code ++ [] ≡ bytes = append-nil (code_text code) ∙ sym is.text in
      let read = behind (length bytes) 0 (length bytes) code [] (Ok []) is.stands (omega (arith, ap length text)) (λ u le. nothing_left u (length bytes)) in
      subst (λ (x : List ℕ). instrs_from (length bytes) 0 x ≡ Ok (code ++ [])) text read ∙ ap (λ (c : List Placed). Ok c) (append-nil code)

  body_read : (bytes : List ℕ) (code : List Placed) (fault : Option CodeFault) → IsCode bytes code → body_fault code ≡ fault → decoded bytes ≡ unless_fault code fault
  unfolding decoded
  body_read bytes code fault is e = ap checked_body (all_read bytes code is) ∙ ap (unless_fault code) e

  whole : (bytes : List ℕ) (code : List Placed) → IsCode bytes code → body_fault code ≡ None → decoded bytes ≡ Ok code
  whole bytes code is e = body_read bytes code None is e

  stops : (at u : ℕ) (rest : List ℕ) (fault : OpFault) → rest ≢ [] → instr_at at rest ≡ Err fault → length rest ≤ u → instrs_from u at rest ≡ Err (op_fault at fault)
  stops at u [] fault some there le = absurd (some refl)
  stops at zero (b ∷ rest) fault some there le = absurd (omega (arith, le))
  stops at (suc u) (b ∷ rest) fault some there le = step u at (b ∷ rest) (Err fault) (omega arith) there

  is_own : (at : ℕ) (fault : OpFault) → fault ≢ op.Memory → op_fault at fault ≡ Op fault at
  is_own at op.Memory own = absurd (own refl)
  is_own at (op.Unknown number) own = refl
  is_own at op.Cut own = refl
  is_own at (op.LeftOut number) own = refl

  op_fails : (bytes : List ℕ) (fault : OpFault) (at : ℕ) → OpFails bytes fault at → decoded bytes ≡ Err (Op fault at)
  unfolding decoded
  op_fails bytes fault at f =
      let read = behind (length bytes) 0 at f.front f.rest (Err (op_fault at fault)) f.stands (omega (arith, ap length f.parts)) (λ u le. stops at u f.rest fault f.some f.there le) in
      let all : instrs_from (length bytes) 0 bytes ≡ Err (op_fault at fault) = ap (instrs_from (length bytes) 0) f.parts ∙ read in
      ap checked_body all ∙ ap (λ (e : CodeFault). Err e) (is_own at fault f.own)

  target_fails : (bytes : List ℕ) (at : ℕ) (to : ℤ) → TargetFails bytes at to → decoded bytes ≡ Err (MidTarget at to)
  unfolding body_fault
  target_fails bytes at to f = body_read bytes f.code (Some (MidTarget at to)) f.is (ap (λ (m : Option (ℕ × ℤ)). target_or_end m (falls_off f.code)) f.mid)

  end_fails : (bytes : List ℕ) (at : ℕ) → EndFails bytes at → decoded bytes ≡ Err (FallsOff at)
  unfolding body_fault
  end_fails bytes at f =
      body_read bytes f.code (Some (FallsOff at)) f.is
      (ap (λ (m : Option (ℕ × ℤ)). target_or_end m (falls_off f.code)) f.targets ∙ ap (λ (l : Option ℕ). target_or_end None l) f.last)

  fails : (bytes : List ℕ) (fault : CodeFault) → HasFault bytes fault → decoded bytes ≡ Err fault
  unfolding HasFault
  fails bytes (Op fault at) f = op_fails bytes fault at f
  fails bytes (MidTarget at to) f = target_fails bytes at to f
  fails bytes (FallsOff at) f = end_fails bytes at f
  fails bytes Memory f = absurd f

  pub decoded_is_decode : DecodedIsDecode
  decoded_is_decode = record { whole = whole; fault = fails }
