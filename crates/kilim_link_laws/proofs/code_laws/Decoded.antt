-- What is decoded is what the bytes are the text of.
use Rattle.std.proofs.Common.{◌≡◌, ℕ, zero, suc, ◌+◌, ◌-◌, ◌<◌, ◌≤◌, List, [], ◌∷◌, ◌++◌, length, Option, Some, None, Result, Ok, Err, refl, ap, subst, ◌∙◌, arith}
use Rattle.std.proofs.lemmas.List.{length-append}
use Rattle.kilim_class_grammar.specs.Format.{IsBytes}
use Rattle.kilim_class_grammar.specs.Reader.{◌>>=◌, with_fault}
use Rattle.kilim_class_code.specs.declared.opcodes.instr.RawInstr.{RawInstr}
use Rattle.kilim_class_code.specs.declared.opcodes.instr.RawInstr.TheVariants.{Plain}
use Rattle.kilim_class_code.specs.opcodes.Instr.{instr_text, instr_len}
use Rattle.kilim_class_code.specs.opcodes.Reading.{instr_at}
use Rattle.kilim_class_code.specs.opcodes.Exact.{OneSpelling, Lengths}
use Rattle.kilim_class_code.specs.declared.fault.CodeFault.{CodeFault}
use Rattle.kilim_class_code.specs.Code.{Placed, code_text, StandsFrom}
use Rattle.kilim_class_code.specs.Exact.{IsCode, body_fault, op_fault}
use Rattle.kilim_link_spec.specs.Code.{instrs_from, unless_fault, checked_body, decoded}

abbrev pub ok : {A : Type 0} (F : Type 0) → A → Result A F
ok F x = Ok x

pub ok_is : {A F : Type 0} (x y : A) → ok F x ≡ ok F y → x ≡ y
ok_is x y e = cc

-- what is read, and what comes of it
pub record Bound {F A B : Type 0} (r : Result A F) (next : A → Result B F) (y : B) : Type 0 where
  pub x : A
  pub there : r ≡ Ok x
  pub then : next x ≡ Ok y

pub bound : {F A B : Type 0} (r : Result A F) (next : A → Result B F) (y : B) → (r >>= next) ≡ Ok y → Bound r next y
bound (Err f) next y e = absurd (cc)
bound (Ok x) next y e = record { x = x; there = refl; then = e }

pub without_fault : {F G A : Type 0} (to : G → F) (r : Result A G) (x : A) → with_fault to r ≡ Ok x → r ≡ Ok x
without_fault to (Err f) x e = absurd (cc)
without_fault to (Ok y) x e = ap (λ z. Ok z) (ok_is y x e)

some_len : (at : ℕ) (instr : RawInstr) → 0 < instr_len at instr
unfolding instr_len
some_len at (Plain op) = omega arith
some_len at _ = omega arith

-- instructions from a place on, whose text the bytes are
abbrev Reads : ℕ → List ℕ → List Placed → Type 0
Reads at bytes code = StandsFrom at code (at + length bytes) × (bytes ≡ code_text code)

nothing_read : (at : ℕ) → Reads at [] []
unfolding StandsFrom code_text
nothing_read at = (omega arith, refl)

-- code without a fault
pub record Whole (bytes : List ℕ) (code : List Placed) : Type 0 where
  pub is : IsCode bytes code
  pub none : body_fault code ≡ None

module _ (spelling : OneSpelling) (lengths : Lengths) where
  one_more : (at : ℕ) (bytes : List ℕ) (instr : RawInstr) (rest : List ℕ) (code : List Placed) → IsBytes bytes → instr_at at bytes ≡ Ok (instr, rest) → Reads (at + instr_len at instr) rest code → Reads at bytes ((at, instr) ∷ code)
  unfolding StandsFrom code_text
  one_more at bytes instr rest code are e r =
      let t = (spelling at).takes bytes instr rest are e in
      let len : length bytes ≡ instr_len at instr + length rest = ap length t.0.parts ∙ (length-append (instr_text at instr) rest ∙ ap (λ (k : ℕ). k + length rest) (lengths at instr)) in
      let end : (at + instr_len at instr) + length rest ≡ at + length bytes = omega (arith, len) in
      ((refl, t.1, subst (λ (k : ℕ). StandsFrom (at + instr_len at instr) code k) end r.0), t.0.parts ∙ ap (λ (more : List ℕ). instr_text at instr ++ more) r.1)

  read : (t at : ℕ) (bytes : List ℕ) (code : List Placed) → IsBytes bytes → length bytes ≤ t → instrs_from t at bytes ≡ Ok code → Reads at bytes code
  unfolding instrs_from
  read zero at [] code are le e = subst (λ c. Reads at [] c) (ok_is [] code e) (nothing_read at)
  read (suc t) at [] code are le e = subst (λ c. Reads at [] c) (ok_is [] code e) (nothing_read at)
  read zero at (b ∷ bs) code are le e = absurd (omega (arith, le))
  read (suc t) at (b ∷ bs) code are le e =
      let bytes = b ∷ bs in
      let with_others = λ (first : RawInstr × List ℕ) (others : List Placed). ok CodeFault ((at, first.0) ∷ others) in
      let with_first = λ (first : RawInstr × List ℕ). instrs_from t (at + (length bytes - length first.1)) first.1 >>= with_others first in
      let f = bound (with_fault (op_fault at) (instr_at at bytes)) with_first code e in
      let first = without_fault (op_fault at) (instr_at at bytes) f.x f.there in
      let g = bound (instrs_from t (at + (length bytes - length f.x.1)) f.x.1) (with_others f.x) code f.then in
      let taken = (spelling at).takes bytes f.x.0 f.x.1 are first in
      let len : length bytes ≡ instr_len at f.x.0 + length f.x.1 = ap length taken.0.parts ∙ (length-append (instr_text at f.x.0) f.x.1 ∙ ap (λ (k : ℕ). k + length f.x.1) (lengths at f.x.0)) in
      let some = some_len at f.x.0 in
      let next : at + (length bytes - length f.x.1) ≡ at + instr_len at f.x.0 = omega (arith, len) in
      let others = subst (λ (k : ℕ). instrs_from t k f.x.1 ≡ Ok g.x) next g.there in
      let later = read t (at + instr_len at f.x.0) f.x.1 g.x taken.0.rest_fits (omega (arith, le, len, some)) others in
      subst (λ c. Reads at bytes c) (ok_is ((at, f.x.0) ∷ g.x) code g.then) (one_more at bytes f.x.0 f.x.1 g.x are first later)

  by_fault : (bytes : List ℕ) (read_code code : List Placed) (fault : Option CodeFault) → body_fault read_code ≡ fault → IsCode bytes read_code → unless_fault read_code fault ≡ Ok code → Whole bytes code
  by_fault bytes read_code code None none is e = subst (λ c. Whole bytes c) (ok_is read_code code e) (record { is = is; none = none })
  by_fault bytes read_code code (Some fault) none is e = absurd (cc)

  by_reading : (bytes : List ℕ) (r : Result (List Placed) CodeFault) (code : List Placed) → IsBytes bytes → instrs_from (length bytes) 0 bytes ≡ r → checked_body r ≡ Ok code → Whole bytes code
  by_reading bytes (Err fault) code are there e = absurd (cc)
  by_reading bytes (Ok read_code) code are there e =
      let r = read (length bytes) 0 bytes read_code are (omega arith) there in
      let end : 0 + length bytes ≡ length bytes = omega arith in
      by_fault bytes read_code code (body_fault read_code) refl (record { stands = subst (λ (k : ℕ). StandsFrom 0 read_code k) end r.0; text = r.1 }) e

  pub decoded_stands : (bytes : List ℕ) (code : List Placed) → IsBytes bytes → decoded bytes ≡ Ok code → Whole bytes code
  unfolding decoded
  decoded_stands bytes code are e = by_reading bytes (instrs_from (length bytes) 0 bytes) code are refl e
