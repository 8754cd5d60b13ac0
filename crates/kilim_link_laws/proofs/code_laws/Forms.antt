-- What is read has the form of its number, whatever the numbers in the list are.
use Rattle.std.proofs.Common.{◌≡◌, ℕ, zero, suc, Bool, true, false, ℤ, List, [], ◌∷◌, length, Option, Some, None, Result, Ok, Err, refl, ap, sym, subst, ◌∙◌}
use Rattle.std.specs.Prelude.{◌-◌, ◌+◌}
use Rattle.std.specs.Int.{w8, w16, w32}
use Rattle.std.specs.List.{AllByRecursion}
use Rattle.kilim_class_grammar.specs.Reader.{Reader, ◌>>=◌, with_fault, checked, made, tested, both, followed, many}
use Rattle.kilim_class_code.specs.declared.opcodes.fault.OpFault.{OpFault}
use Rattle.kilim_class_code.specs.declared.opcodes.forms.OpForm.{OpForm}
use Rattle.kilim_class_code.specs.declared.opcodes.forms.OpForm.TheVariants as form
use Rattle.kilim_class_code.specs.declared.opcodes.instr.RawInstr.{RawInstr}
use Rattle.kilim_class_code.specs.declared.opcodes.instr.RawInstr.TheVariants as raw
use Rattle.kilim_class_code.specs.opcodes.Instr.{HasForm, is_array_code, padding}
use Rattle.kilim_class_code.specs.opcodes.Reading.{instr_at, listed_at, operands_at, wide_at, wide_operands_at, array_fault, behind_zeros, zeros_at, table_at, lookup_at, target_at, range_at, targets_in, count_at, pairs_at, unsigned_at, integer_at}
use Rattle.kilim_class_code.specs.opcodes.Table.{form_of}
use Rattle.kilim_class_code.specs.declared.fault.CodeFault.{CodeFault}
use Rattle.kilim_class_code.specs.Code.{Placed}
use Rattle.kilim_class_code.specs.Exact.{op_fault, body_fault}
use Rattle.kilim_link_spec.specs.Code.{instrs_from, decoded, checked_body, unless_fault}
use Rattle.kilim_link_laws.proofs.code_laws.Decoded.{ok, ok_is, bound, without_fault}

-- the number has the instruction's form
abbrev pub HasItsForm : RawInstr → Type 0
HasItsForm (raw.Plain op) = HasForm op form.Plain
HasItsForm (raw.Local op slot) = HasForm op form.Local
HasItsForm (raw.WideLocal op slot) = HasForm op form.Local
HasItsForm (raw.Jump op to) = HasForm op form.Jump
HasItsForm (raw.WideJump op to) = HasForm op form.WideJump
HasItsForm (raw.NewArray op code) = is_array_code code ≡ true
HasItsForm _ = Unit {0}

abbrev Read : Type 0
Read = RawInstr × List ℕ

abbrev Answer : Type 0
Answer = Result Read OpFault

-- what is made of a value that is read has its form, whatever the value
made_has : {A : Type 0} (make : A → RawInstr) (one : Reader OpFault A) (bytes : List ℕ) (x : Read) → ((a : A) → HasItsForm (make a)) → made make one bytes ≡ Ok x → HasItsForm x.0
made_has make one bytes x each e =
    let b = bound (one bytes) (λ y. ok OpFault (make y.0, y.1)) x e in
    subst (λ (r : Read). HasItsForm r.0) (ok_is (make b.x.0, b.x.1) x b.then) (each b.x.0)

checked_passes : {A : Type 0} (test : Bool) (fault : OpFault) (next : Result A OpFault) (x : A) → checked test fault next ≡ Ok x → (test ≡ true) × (next ≡ Ok x)
checked_passes true fault next x e = (refl, e)
checked_passes false fault next x e = absurd (cc)

array_has : (op : ℕ) (bytes : List ℕ) (x : Read) → made (raw.NewArray op) (tested is_array_code (array_fault op) (unsigned_at w8)) bytes ≡ Ok x → HasItsForm x.0
array_has op bytes x e =
    let b = bound (tested is_array_code (array_fault op) (unsigned_at w8) bytes) (λ y. ok OpFault (raw.NewArray op y.0, y.1)) x e in
    let a = bound (unsigned_at w8 bytes) (λ y. checked (is_array_code y.0) (array_fault op y.0) (ok OpFault y)) b.x b.there in
    let c = checked_passes (is_array_code a.x.0) (array_fault op a.x.0) (ok OpFault a.x) b.x a.then in
    let code : is_array_code b.x.0 ≡ true = subst (λ (y : ℕ × List ℕ). is_array_code y.0 ≡ true) (ok_is a.x b.x c.1) c.0 in
    subst (λ (r : Read). HasItsForm r.0) (ok_is (raw.NewArray op b.x.0, b.x.1) x b.then) code

table_has : (op at : ℕ) (bytes : List ℕ) (x : Read) → behind_zeros op (padding at) (table_at op at) bytes ≡ Ok x → HasItsForm x.0
unfolding table_at
table_has op at bytes x e =
    let b = bound (zeros_at op (padding at) bytes) (table_at op at) x e in
    let make = λ (a : (ℤ × (ℤ × ℤ)) × List ℤ). raw.TableSwitch op a.0.0 a.0.1.0 a.1 in
    made_has make (followed (both (target_at op at w32) (range_at op)) (λ head. many (target_at op at w32) (targets_in head.1))) b.x x (λ a. tt) b.then

lookup_has : (op at : ℕ) (bytes : List ℕ) (x : Read) → behind_zeros op (padding at) (lookup_at op at) bytes ≡ Ok x → HasItsForm x.0
unfolding lookup_at
lookup_has op at bytes x e =
    let b = bound (zeros_at op (padding at) bytes) (lookup_at op at) x e in
    let make = λ (a : (ℤ × ℕ) × List (ℤ × ℤ)). raw.LookupSwitch op a.0.0 a.1 in
    made_has make (followed (both (target_at op at w32) (count_at op)) (λ head. pairs_at op at head.1 None)) b.x x (λ a. tt) b.then

wide_operands_have : (op : ℕ) (layout : Option OpForm) (bytes : List ℕ) (x : Read) → form_of op ≡ layout → wide_operands_at op layout bytes ≡ Ok x → HasItsForm x.0
unfolding wide_operands_at
wide_operands_have op (Some form.Local) bytes x is e = made_has (raw.WideLocal op) (unsigned_at w16) bytes x (λ a. is) e
wide_operands_have op (Some form.Iinc) bytes x is e = made_has (λ (a : ℕ × ℤ). raw.WideIinc op a.0 a.1) (both (unsigned_at w16) (integer_at w16)) bytes x (λ a. tt) e
wide_operands_have op _ bytes x is e = absurd (cc)

wide_has : (bytes : List ℕ) (x : Read) → wide_at bytes ≡ Ok x → HasItsForm x.0
unfolding wide_at
wide_has bytes x e =
    let b = bound (unsigned_at w8 bytes) (λ op. wide_operands_at op.0 (form_of op.0) op.1) x e in
    wide_operands_have b.x.0 (form_of b.x.0) b.x.1 x refl b.then

operands_have : (at op : ℕ) (layout : OpForm) (bytes : List ℕ) (x : Read) → form_of op ≡ Some layout → operands_at at op layout bytes ≡ Ok x → HasItsForm x.0
unfolding operands_at
operands_have at op form.Plain bytes x is e = subst (λ (r : Read). HasItsForm r.0) (ok_is (raw.Plain op, bytes) x e) is
operands_have at op form.Byte bytes x is e = made_has (raw.Byte op) (integer_at w8) bytes x (λ a. tt) e
operands_have at op form.Short bytes x is e = made_has (raw.Short op) (integer_at w16) bytes x (λ a. tt) e
operands_have at op form.Local bytes x is e = made_has (raw.Local op) (unsigned_at w8) bytes x (λ a. is) e
operands_have at op form.Constant bytes x is e = made_has (raw.Constant op) (unsigned_at w8) bytes x (λ a. tt) e
operands_have at op form.Index bytes x is e = made_has (raw.Index op) (unsigned_at w16) bytes x (λ a. tt) e
operands_have at op form.Iinc bytes x is e = made_has (λ (a : ℕ × ℤ). raw.Iinc op a.0 a.1) (both (unsigned_at w8) (integer_at w8)) bytes x (λ a. tt) e
operands_have at op form.Jump bytes x is e = made_has (raw.Jump op) (target_at op at w16) bytes x (λ a. is) e
operands_have at op form.WideJump bytes x is e = made_has (raw.WideJump op) (target_at op at w32) bytes x (λ a. is) e
operands_have at op form.NewArray bytes x is e = array_has op bytes x e
operands_have at op form.TableSwitch bytes x is e = table_has op at bytes x e
operands_have at op form.LookupSwitch bytes x is e = lookup_has op at bytes x e
operands_have at op form.Wide bytes x is e = wide_has bytes x e

listed_has : (at op : ℕ) (layout : Option OpForm) (bytes : List ℕ) (x : Read) → form_of op ≡ layout → listed_at at op layout bytes ≡ Ok x → HasItsForm x.0
listed_has at op None bytes x is e = absurd (cc)
listed_has at op (Some layout) bytes x is e = operands_have at op layout bytes x is e

instr_has : (at : ℕ) (bytes : List ℕ) (x : Read) → instr_at at bytes ≡ Ok x → HasItsForm x.0
unfolding instr_at
instr_has at bytes x e =
    let b = bound (unsigned_at w8 bytes) (λ op. listed_at at op.0 (form_of op.0) op.1) x e in
    listed_has at b.x.0 (form_of b.x.0) b.x.1 x refl b.then

abbrev AllForms : List Placed → Type 0
AllForms code = AllByRecursion (λ (p : Placed). HasItsForm p.1) code

instrs_have : (t at : ℕ) (bytes : List ℕ) (code : List Placed) → instrs_from t at bytes ≡ Ok code → AllForms code
unfolding instrs_from
instrs_have zero at [] code e = subst AllForms (ok_is [] code e) tt
instrs_have (suc t) at [] code e = subst AllForms (ok_is [] code e) tt
instrs_have zero at (b ∷ bs) code e = subst AllForms (ok_is [] code e) tt
instrs_have (suc t) at (b ∷ bs) code e =
    let bytes = b ∷ bs in
    let with_others = λ (first : Read) (others : List Placed). ok CodeFault ((at, first.0) ∷ others) in
    let with_first = λ (first : Read). instrs_from t (at + (length bytes - length first.1)) first.1 >>= with_others first in
    let f = bound (with_fault (op_fault at) (instr_at at bytes)) with_first code e in
    let g = bound (instrs_from t (at + (length bytes - length f.x.1)) f.x.1) (with_others f.x) code f.then in
    let first = instr_has at bytes f.x (without_fault (op_fault at) (instr_at at bytes) f.x f.there) in
    subst AllForms (ok_is ((at, f.x.0) ∷ g.x) code g.then) (first, instrs_have t (at + (length bytes - length f.x.1)) f.x.1 g.x g.there)

by_fault : (code made : List Placed) (fault : Option CodeFault) → unless_fault made fault ≡ Ok code → AllForms made → AllForms code
by_fault code made None e all = subst AllForms (ok_is made code e) all
by_fault code made (Some fault) e all = absurd (cc)

by_reading : (turns : ℕ) (bytes : List ℕ) (r : Result (List Placed) CodeFault) (code : List Placed) → instrs_from turns 0 bytes ≡ r → checked_body r ≡ Ok code → AllForms code
by_reading turns bytes (Err fault) code there e = absurd (cc)
by_reading turns bytes (Ok made) code there e = by_fault code made (body_fault made) e (instrs_have turns 0 bytes made there)

-- each instruction of a code that is decoded has its form
pub decoded_forms : (bytes : List ℕ) (code : List Placed) → decoded bytes ≡ Ok code → AllByRecursion (λ (p : Placed). HasItsForm p.1) code
unfolding decoded
decoded_forms bytes code e = by_reading (length bytes) bytes (instrs_from (length bytes) 0 bytes) code refl e

without_body_fault : (made code : List Placed) (fault : Option CodeFault) → body_fault made ≡ fault → unless_fault made fault ≡ Ok code → body_fault code ≡ None
without_body_fault made code None is e = ap body_fault (sym (ok_is made code e)) ∙ is
without_body_fault made code (Some fault) is e = absurd (cc)

by_body : (r : Result (List Placed) CodeFault) (code : List Placed) → checked_body r ≡ Ok code → body_fault code ≡ None
by_body (Err fault) code e = absurd (cc)
by_body (Ok made) code e = without_body_fault made code (body_fault made) refl e

-- and the code has no fault of its body
pub decoded_body : (bytes : List ℕ) (code : List Placed) → decoded bytes ≡ Ok code → body_fault code ≡ None
unfolding decoded
decoded_body bytes code e = by_body (instrs_from (length bytes) 0 bytes) code e
