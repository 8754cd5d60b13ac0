-- One instruction: its reader takes just its text, and reads it again whatever follows.
use Rattle.std.proofs.Common.{◌≡◌, ◌&&◌, ℕ, ◌^◌, ◌<◌, ltb, leb, eqb, Bool, true, false, cond, ℤ, List, [], ◌∷◌, ◌++◌, Option, Some, None, Result, Ok, Err, refl, sym, ap, subst, ◌∙◌, append_assoc, arith}
use Rattle.std.specs.Prelude.{FitsSigned}
use Rattle.std.specs.Int.{w8, w16, w32}
use Rattle.std.specs.List.{find}
use Rattle.std.specs.Option.{option_map}
use Rattle.std.proofs.lemmas.Bool.{ltb-true, leb-true, eqb-true, and_parts}
use Rattle.kilim_class_grammar.specs.Reader.{◌>>=◌, made, tested}
use Rattle.kilim_class_grammar.specs.Spelling.{u1, u2}
use Rattle.kilim_class_grammar.proofs.Bytes.{IsBytes, Takes, Takes-then}
use Rattle.kilim_class_grammar.proofs.Formats.{Format, bind_ok, well_is, made_of, made_again_of, n8, n16, signed8, signed16, signed32, passed, pair, refitted}
use Rattle.kilim_class_code.specs.declared.opcodes.forms.OpForm.{OpForm}
use Rattle.kilim_class_code.specs.declared.opcodes.forms.OpForm.TheVariants as form
use Rattle.kilim_class_code.specs.declared.opcodes.fault.OpFault.{OpFault}
use Rattle.kilim_class_code.specs.declared.opcodes.fault.OpFault.TheVariants.{Cut}
use Rattle.kilim_class_code.specs.declared.opcodes.instr.RawInstr.{RawInstr}
use Rattle.kilim_class_code.specs.declared.opcodes.instr.RawInstr.TheVariants.{Plain, Byte, Short, Local, Constant, Index, Iinc, Jump, WideJump, NewArray, TableSwitch, LookupSwitch, WideLocal, WideIinc}
use Rattle.kilim_class_code.specs.opcodes.Table.{Row, rows, form_in, form_of}
use Rattle.kilim_class_code.specs.opcodes.Instr.{padding, wide_op, is_array_code, number_of, operands_text, instr_text, InstrFits, integer_text, target_text, padding_text}
use Rattle.kilim_class_code.specs.opcodes.Reading.{InstrReader, unsigned_at, integer_at, behind_zeros, zeros_at, table_at, lookup_at, array_fault, wide_operands_at, wide_at, operands_at, listed_at, instr_at}
use Rattle.kilim_class_code.proofs.opcodes.Listed.{same_at}
use Rattle.kilim_class_code.proofs.opcodes.Operands.{integer, target, padded}
use Rattle.kilim_class_code.proofs.opcodes.SwitchFormats.{table, table_made, table_reader, lookup, lookup_made, lookup_reader}

-- ---- of the table: numbers that are listed have one byte, and `wide` is one number

abbrev all_small : List Row → Bool
all_small [] = true
all_small (row ∷ others) = ltb row.1 256 && all_small others

row_small : (row : Row) (others : List Row) (op : ℕ) (layout : OpForm) (b : Bool) → (leb row.0 op && leb op row.1) ≡ b → ltb row.1 256 ≡ true → (form_in others op ≡ Some layout → op < 256)
    → option_map (λ (r : Row). r.2) (cond b (Some row) (find (λ (r : Row). leb r.0 op && leb op r.1) others)) ≡ Some layout → op < 256
row_small row others op layout true is small later e =
    let le = leb-true op row.1 (and_parts (leb row.0 op) (leb op row.1) is).1 in
    let lt = ltb-true row.1 256 small in
    omega arith
row_small row others op layout false is small later e = later e

small_in : (others : List Row) (op : ℕ) (layout : OpForm) → all_small others ≡ true → form_in others op ≡ Some layout → op < 256
small_in [] op layout small e = absurd cc
small_in (row ∷ others) op layout small e =
    let s = and_parts (ltb row.1 256) (all_small others) small in
    row_small row others op layout (leb row.0 op && leb op row.1) refl s.0 (λ h. small_in others op layout s.1 h) e

pub small_op : (op : ℕ) (layout : OpForm) → form_of op ≡ Some layout → op < 256
unfolding form_of rows
small_op op layout e = small_in rows op layout refl e

abbrev only_wide : ℕ → Option OpForm → Bool
only_wide op None = true
only_wide op (Some form.Wide) = eqb op wide_op
only_wide op (Some _) = true

wide_is : (op : ℕ) → op < 256 → form_of op ≡ Some form.Wide → op ≡ wide_op
unfolding form_of rows
wide_is op lt e =
    let all : only_wide op (form_of op) ≡ true = same_at (λ k. only_wide k (form_of k)) (λ k. true) 256 op refl lt in
    eqb-true op wide_op (sym (ap (only_wide op) e) ∙ all)

form_of_wide : form_of wide_op ≡ Some form.Wide
unfolding form_of rows
form_of_wide = refl

-- ---- switches: the same reading in two words

abbrev in_dress : {A B : Type 0} → (A → B) → A × List ℕ → Result (B × List ℕ) OpFault
in_dress make x = Ok (make x.0, x.1)

dressed_twice : {A B C : Type 0} (make : A → C) (dress : B → A) (r : Result (B × List ℕ) OpFault) → (r >>= in_dress (λ x. make (dress x))) ≡ ((r >>= in_dress dress) >>= in_dress make)
dressed_twice make dress (Err e) = refl
dressed_twice make dress (Ok x) = refl

behind_twice : {A B C : Type 0} (make : A → C) (dress : B → A) (one : InstrReader B) (z : Result (List ℕ) OpFault)
    → (z >>= λ rest. one rest >>= in_dress (λ x. make (dress x))) ≡ ((z >>= λ rest. one rest >>= in_dress dress) >>= in_dress make)
behind_twice make dress one (Err e) = refl
behind_twice make dress one (Ok rest) = dressed_twice make dress (one rest)

switch_read : {A B : Type 0} (op n : ℕ) (make : A → RawInstr) (dress : B → A) (one : InstrReader B) (bytes : List ℕ)
    → behind_zeros op n (made (λ x. make (dress x)) one) bytes ≡ made make (behind_zeros op n (made dress one)) bytes
switch_read op n make dress one bytes = behind_twice make dress one (zeros_at op n bytes)

abbrev table_instr : ℕ → (ℤ × ℤ) × List ℤ → RawInstr
table_instr op t = TableSwitch op t.0.0 t.0.1 t.1

table_read : (op at : ℕ) (bytes : List ℕ) → operands_at at op form.TableSwitch bytes ≡ made (table_instr op) (behind_zeros op (padding at) (made table_made (table_reader op at))) bytes
unfolding operands_at table_at
table_read op at bytes = switch_read op (padding at) (table_instr op) table_made (table_reader op at) bytes

abbrev lookup_instr : ℕ → ℤ × List (ℤ × ℤ) → RawInstr
lookup_instr op t = LookupSwitch op t.0 t.1

lookup_read : (op at : ℕ) (bytes : List ℕ) → operands_at at op form.LookupSwitch bytes ≡ made (lookup_instr op) (behind_zeros op (padding at) (made lookup_made (lookup_reader op at))) bytes
unfolding operands_at lookup_at
lookup_read op at bytes = switch_read op (padding at) (lookup_instr op) lookup_made (lookup_reader op at) bytes

-- ---- the parts that are tested

int8 : Format (integer_text w8) (integer_at w8) (FitsSigned w8)
int8 = integer w8 (2 ^ 8) signed8

int16 : Format (integer_text w16) (integer_at w16) (FitsSigned w16)
int16 = integer w16 (2 ^ 16) signed16

array_small : (code : ℕ) → is_array_code code ≡ true → code < 2 ^ 8
array_small code e = grind arith

array_code : (op : ℕ) → Format u1 (tested is_array_code (array_fault op) (unsigned_at w8)) (λ code. is_array_code code ≡ true)
array_code op = refitted (passed (n8 Cut) is_array_code (array_fault op)) (λ code. is_array_code code ≡ true) (λ code fits. fits.1) (λ code fits. (array_small code fits, fits))

-- ---- what is read is spelled so

record Behind (at op : ℕ) (bytes : List ℕ) (instr : RawInstr) (rest : List ℕ) : Type 0 where
  text : List ℕ
  spelled : u1 op ++ text ≡ instr_text at instr
  taken : Takes bytes text rest
  fits : InstrFits at instr

module _ (at op : ℕ) {A : Type 0} {text : A → List ℕ} {reader : InstrReader A} {Fits : A → Type 0} (one : Format text reader Fits) (make : A → RawInstr)
    (spelled : (x : A) → u1 op ++ text x ≡ instr_text at (make x)) (fitting : (x : A) → Fits x → InstrFits at (make x)) where
  taken_so : (bytes : List ℕ) (instr : RawInstr) (rest : List ℕ) → IsBytes bytes → made make reader bytes ≡ Ok (instr, rest) → Behind at op bytes instr rest
  taken_so bytes instr rest fits e =
      let m = made_of one make bytes instr rest fits e in
      subst (λ (y : RawInstr). Behind at op bytes y rest) m.1 (record { text = text m.0; spelled = spelled m.0; taken = m.2; fits = fitting m.0 m.3 })

abbrev plain_read : ℕ → List ℕ → RawInstr × List ℕ
plain_read op bytes = (Plain op, bytes)

wide_operands_take : (at op : ℕ) (layout : Option OpForm) → form_of op ≡ layout → (bytes : List ℕ) (instr : RawInstr) (rest : List ℕ) → IsBytes bytes → wide_operands_at op layout bytes ≡ Ok (instr, rest)
    → (text : List ℕ) × (u1 wide_op ++ (u1 op ++ text) ≡ instr_text at instr) × Takes bytes text rest × InstrFits at instr
unfolding wide_operands_at number_of operands_text padding_text instr_text InstrFits
wide_operands_take at op (Some form.Local) is bytes instr rest fits e =
    let m = made_of (n16 Cut) (WideLocal op) bytes instr rest fits e in
    subst (λ (y : RawInstr). (text : List ℕ) × (u1 wide_op ++ (u1 op ++ text) ≡ instr_text at y) × Takes bytes text rest × InstrFits at y) m.1 (u2 m.0, refl, m.2, (is, m.3))
wide_operands_take at op (Some form.Iinc) is bytes instr rest fits e =
    let m = made_of (pair (n16 Cut) int16) (λ x. WideIinc op x.0 x.1) bytes instr rest fits e in
    subst (λ (y : RawInstr). (text : List ℕ) × (u1 wide_op ++ (u1 op ++ text) ≡ instr_text at y) × Takes bytes text rest × InstrFits at y) m.1 (u2 m.0.0 ++ integer_text w16 m.0.1, refl, m.2, (is, m.3))
wide_operands_take at op _ is bytes instr rest fits e = absurd cc

wide_take : (at op : ℕ) → op ≡ wide_op → (bytes : List ℕ) (instr : RawInstr) (rest : List ℕ) → IsBytes bytes → wide_at bytes ≡ Ok (instr, rest) → Behind at op bytes instr rest
unfolding wide_at
wide_take at op is bytes instr rest fits e =
    let a = bind_ok (unsigned_at w8 bytes) (λ x. wide_operands_at x.0 (form_of x.0) x.1) (instr, rest) e in
    let t = (n8 Cut).takes bytes a.0.0 a.0.1 fits a.1 in
    let u = wide_operands_take at a.0.0 (form_of a.0.0) refl a.0.1 instr rest t.0.rest_fits a.2 in
    record {
      text = u1 a.0.0 ++ u.0;
      spelled = ap (λ (n : ℕ). u1 n ++ (u1 a.0.0 ++ u.0)) is ∙ u.1;
      taken = Takes-then bytes (u1 a.0.0) a.0.1 u.0 rest t.0 u.2;
      fits = u.3;
    }

operands_take : (at op : ℕ) → op < 256 → (layout : OpForm) → form_of op ≡ Some layout → (bytes : List ℕ) (instr : RawInstr) (rest : List ℕ) → IsBytes bytes → operands_at at op layout bytes ≡ Ok (instr, rest) → Behind at op bytes instr rest
unfolding operands_at number_of operands_text padding_text instr_text InstrFits
operands_take at op lt form.Plain is bytes instr rest fits e =
    subst (λ (q : RawInstr × List ℕ). Behind at op bytes q.0 q.1) (well_is {F = OpFault} (plain_read op bytes) (instr, rest) e)
    (record { text = []; spelled = refl; taken = record { parts = refl; rest_fits = fits }; fits = is })
operands_take at op lt form.Byte is bytes instr rest fits e = taken_so at op int8 (Byte op) (λ x. refl) (λ x h. (is, h)) bytes instr rest fits e
operands_take at op lt form.Short is bytes instr rest fits e = taken_so at op int16 (Short op) (λ x. refl) (λ x h. (is, h)) bytes instr rest fits e
operands_take at op lt form.Local is bytes instr rest fits e = taken_so at op (n8 Cut) (Local op) (λ x. refl) (λ x h. (is, h)) bytes instr rest fits e
operands_take at op lt form.Constant is bytes instr rest fits e = taken_so at op (n8 Cut) (Constant op) (λ x. refl) (λ x h. (is, h)) bytes instr rest fits e
operands_take at op lt form.Index is bytes instr rest fits e = taken_so at op (n16 Cut) (Index op) (λ x. refl) (λ x h. (is, h)) bytes instr rest fits e
operands_take at op lt form.Iinc is bytes instr rest fits e = taken_so at op (pair (n8 Cut) int8) (λ x. Iinc op x.0 x.1) (λ x. refl) (λ x h. (is, h)) bytes instr rest fits e
operands_take at op lt form.Jump is bytes instr rest fits e = taken_so at op (target op at w16 (2 ^ 16) signed16) (Jump op) (λ x. refl) (λ x h. (is, h)) bytes instr rest fits e
operands_take at op lt form.WideJump is bytes instr rest fits e = taken_so at op (target op at w32 (2 ^ 32) signed32) (WideJump op) (λ x. refl) (λ x h. (is, h)) bytes instr rest fits e
operands_take at op lt form.NewArray is bytes instr rest fits e = taken_so at op (array_code op) (NewArray op) (λ x. refl) (λ x h. (is, h)) bytes instr rest fits e
operands_take at op lt form.TableSwitch is bytes instr rest fits e =
    taken_so at op (padded (table op at) op (padding at)) (table_instr op) (λ x. refl) (λ x h. (is, h)) bytes instr rest fits (sym (table_read op at bytes) ∙ e)
operands_take at op lt form.LookupSwitch is bytes instr rest fits e =
    taken_so at op (padded (lookup op at) op (padding at)) (lookup_instr op) (λ x. refl) (λ x h. (is, h)) bytes instr rest fits (sym (lookup_read op at bytes) ∙ e)
operands_take at op lt form.Wide is bytes instr rest fits e = wide_take at op (wide_is op lt is) bytes instr rest fits e

listed_take : (at op : ℕ) → op < 256 → (layout : Option OpForm) → form_of op ≡ layout → (bytes : List ℕ) (instr : RawInstr) (rest : List ℕ) → IsBytes bytes → listed_at at op layout bytes ≡ Ok (instr, rest) → Behind at op bytes instr rest
listed_take at op lt None is bytes instr rest fits e = absurd cc
listed_take at op lt (Some layout) is bytes instr rest fits e = operands_take at op lt layout is bytes instr rest fits e

pub instr_takes : (at : ℕ) (bytes : List ℕ) (instr : RawInstr) (rest : List ℕ) → IsBytes bytes → instr_at at bytes ≡ Ok (instr, rest) → Takes bytes (instr_text at instr) rest × InstrFits at instr
unfolding instr_at
instr_takes at bytes instr rest fits e =
    let a = bind_ok (unsigned_at w8 bytes) (λ x. listed_at at x.0 (form_of x.0) x.1) (instr, rest) e in
    let t = (n8 Cut).takes bytes a.0.0 a.0.1 fits a.1 in
    let u = listed_take at a.0.0 t.1 (form_of a.0.0) refl a.0.1 instr rest t.0.rest_fits a.2 in
    (subst (λ (text : List ℕ). Takes bytes text rest) u.spelled (Takes-then bytes (u1 a.0.0) a.0.1 u.text rest t.0 u.taken), u.fits)

-- ---- what is spelled is read again

behind_op : (at op : ℕ) (layout : OpForm) (text rest : List ℕ) (instr : RawInstr) → form_of op ≡ Some layout → operands_at at op layout (text ++ rest) ≡ Ok (instr, rest)
    → instr_at at ((u1 op ++ text) ++ rest) ≡ Ok (instr, rest)
unfolding instr_at
behind_op at op layout text rest instr is h =
    ap (instr_at at) (append_assoc (u1 op) text rest) ∙ rw ((n8 Cut).again op (text ++ rest) (small_op op layout is), is) h

wide_again : (op : ℕ) (layout : OpForm) (text rest : List ℕ) (instr : RawInstr) → form_of op ≡ Some layout → wide_operands_at op (Some layout) (text ++ rest) ≡ Ok (instr, rest)
    → wide_at ((u1 op ++ text) ++ rest) ≡ Ok (instr, rest)
unfolding wide_at
wide_again op layout text rest instr is h =
    ap wide_at (append_assoc (u1 op) text rest) ∙ rw ((n8 Cut).again op (text ++ rest) (small_op op layout is), is) h

pub instr_again : (at : ℕ) (instr : RawInstr) (rest : List ℕ) → InstrFits at instr → instr_at at (instr_text at instr ++ rest) ≡ Ok (instr, rest)
unfolding operands_at wide_operands_at number_of operands_text padding_text instr_text InstrFits
instr_again at (Plain op) rest fits = behind_op at op form.Plain [] rest (Plain op) fits refl
instr_again at (Byte op n) rest fits = behind_op at op form.Byte (integer_text w8 n) rest (Byte op n) fits.0 (made_again_of int8 (Byte op) n rest fits.1)
instr_again at (Short op n) rest fits = behind_op at op form.Short (integer_text w16 n) rest (Short op n) fits.0 (made_again_of int16 (Short op) n rest fits.1)
instr_again at (Local op slot) rest fits = behind_op at op form.Local (u1 slot) rest (Local op slot) fits.0 (made_again_of (n8 Cut) (Local op) slot rest fits.1)
instr_again at (Constant op index) rest fits = behind_op at op form.Constant (u1 index) rest (Constant op index) fits.0 (made_again_of (n8 Cut) (Constant op) index rest fits.1)
instr_again at (Index op index) rest fits = behind_op at op form.Index (u2 index) rest (Index op index) fits.0 (made_again_of (n16 Cut) (Index op) index rest fits.1)
instr_again at (Iinc op slot n) rest fits =
    behind_op at op form.Iinc (u1 slot ++ integer_text w8 n) rest (Iinc op slot n) fits.0 (made_again_of (pair (n8 Cut) int8) (λ x. Iinc op x.0 x.1) (slot, n) rest fits.1)
instr_again at (Jump op to) rest fits = behind_op at op form.Jump (target_text w16 at to) rest (Jump op to) fits.0 (made_again_of (target op at w16 (2 ^ 16) signed16) (Jump op) to rest fits.1)
instr_again at (WideJump op to) rest fits = behind_op at op form.WideJump (target_text w32 at to) rest (WideJump op to) fits.0 (made_again_of (target op at w32 (2 ^ 32) signed32) (WideJump op) to rest fits.1)
instr_again at (NewArray op code) rest fits = behind_op at op form.NewArray (u1 code) rest (NewArray op code) fits.0 (made_again_of (array_code op) (NewArray op) code rest fits.1)
instr_again at (TableSwitch op default low targets) rest fits =
    behind_op at op form.TableSwitch _ rest (TableSwitch op default low targets) fits.0
    (table_read op at _ ∙ made_again_of (padded (table op at) op (padding at)) (table_instr op) ((default, low), targets) rest fits.1)
instr_again at (LookupSwitch op default pairs) rest fits =
    behind_op at op form.LookupSwitch _ rest (LookupSwitch op default pairs) fits.0
    (lookup_read op at _ ∙ made_again_of (padded (lookup op at) op (padding at)) (lookup_instr op) (default, pairs) rest fits.1)
instr_again at (WideLocal op slot) rest fits =
    behind_op at wide_op form.Wide (u1 op ++ u2 slot) rest (WideLocal op slot) form_of_wide
    (wide_again op form.Local (u2 slot) rest (WideLocal op slot) fits.0 (made_again_of (n16 Cut) (WideLocal op) slot rest fits.1))
instr_again at (WideIinc op slot n) rest fits =
    behind_op at wide_op form.Wide (u1 op ++ (u2 slot ++ integer_text w16 n)) rest (WideIinc op slot n) form_of_wide
    (wide_again op form.Iinc (u2 slot ++ integer_text w16 n) rest (WideIinc op slot n) fits.0 (made_again_of (pair (n16 Cut) int16) (λ x. WideIinc op x.0 x.1) (slot, n) rest fits.1))
