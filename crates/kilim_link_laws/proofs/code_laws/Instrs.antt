-- A linked instruction has the length, the targets and the end of the instruction that is written.
use Rattle.std.proofs.Common.{◌≡◌, ℕ, ◌+◌, ◌*◌, ◌^◌, ◌<◌, Bool, true, false, ℤ, pos, negsuc, ◌+ℤ◌, ◌-ℤ◌, ◌<ℤ◌, List, [], ◌∷◌, length, map, Option, Some, None, refl, sym, subst, arith}
use Rattle.std.specs.Prelude.{◌&&◌, ◌==◌, not, nat_lt, int_le, if◌then◌else◌, FitsSigned}
use Rattle.std.specs.Int.{w8, w16, w32}
use Rattle.std.specs.List.{AllByRecursion, list_all}
use Rattle.std.specs.Option.{option_map}
use Rattle.std.proofs.lemmas.Bool.{false≢true, and_from, or_left, or_right, lt-ltb, eq-eqb, eqb-true}
use Rattle.std.proofs.lemmas.Int.{ints}
use Rattle.std.proofs.lemmas.Option.{same_Some, none-some}
use Rattle.kilim_class_pool.specs.declared.entry.Entry.{Entry}
use Rattle.kilim_class_code.specs.declared.opcodes.forms.OpForm.{OpForm}
use Rattle.kilim_class_code.specs.declared.opcodes.forms.OpForm.TheVariants as form
use Rattle.kilim_class_code.specs.declared.opcodes.instr.RawInstr.{RawInstr}
use Rattle.kilim_class_code.specs.declared.opcodes.instr.RawInstr.TheVariants as raw
use Rattle.kilim_class_code.specs.opcodes.Instr.{padding, instr_len, high_of, InstrFits, TargetFits, PairsFit, IsAbove}
use Rattle.kilim_class_code.specs.opcodes.Table.{rows, form_of}
use Rattle.kilim_program.specs.declared.instr.Instr.{Instr}
use Rattle.kilim_program.specs.declared.instr.Instr.TheVariants.{Bipush, Sipush, Iinc, Tableswitch, Lookupswitch, Newarray, New}
use Rattle.kilim_program.specs.declared.names.ClassId.{ClassId}
use Rattle.kilim_program.specs.Lengths.{has_length, is_far, is_iinc_length, is_jump_length, is_loaded, is_local_length, is_primitive, is_reference, is_table, matches_increase}
use Rattle.kilim_link_spec.specs.Code.{instr_in, instr_with, typed_instr, applied, row, place_of, pair_in, plain_instrs, local_instrs, jump_instrs, field_instrs, method_instrs, type_instrs, constant_instrs, array_codes, operand_at, field_found, method_found}
use Rattle.kilim_link_spec.specs.declared.named.Operand.{Operand}
use Rattle.kilim_link_spec.specs.declared.named.Operand.TheVariants.{AConstant, AField, AMethod, AType}
use Rattle.kilim_link_spec.specs.Types.{each_of, type_named, class_named_by}
use Rattle.kilim_link_spec.specs.declared.named.Named.{Named}
use Rattle.kilim_link_spec.specs.World.{World}
use Rattle.kilim_link_laws.proofs.code_laws.Loaded.{IsLoaded, operand_loaded}
use Rattle.kilim_link_laws.proofs.code_laws.Lists.{all_map, first_and, each_of_all, each_of_length}
use Rattle.kilim_link_laws.proofs.code_laws.Tables.{lookup_parts, pair_parts, place_is, table_holds, table_parts, table_passes}
use Rattle.kilim_link_laws.proofs.code_laws.References.{HasDims, is_reference_named}
use Rattle.kilim_link_laws.proofs.code_laws.Rows.{rows_pass, forms_pass, mapped}

-- ---- what the number says: `ldc` alone has an index of one byte, `goto_w` alone a target of four

abbrev pub index_len : ℕ → ℕ
index_len number = if number == 18 then 2 else 3

abbrev pub number_fits : ℕ → OpForm → Bool
number_fits number form.Constant = index_len number == 2
number_fits number form.Index = index_len number == 3
number_fits number form.Jump = not (number == 200)
number_fits number form.WideJump = number == 200
number_fits number layout = true

pub has_number : (number : ℕ) (layout : OpForm) → form_of number ≡ Some layout → number_fits number layout ≡ true
unfolding form_of rows
has_number number layout e = forms_pass number_fits refl number layout e

-- ---- the length

abbrev Has : ℕ → ℕ → Instr → Type 0
Has at len instr = has_length at instr len ≡ true

plain_length : (at number : ℕ) (instr : Instr) → row plain_instrs number ≡ Some instr → Has at 1 instr
unfolding has_length
plain_length at number instr e = rows_pass (λ k i. has_length at i 1) plain_instrs refl number instr e

local_length : (at number len slot : ℕ) (instr : Instr) → is_local_length slot len ≡ true → applied (row local_instrs number) (Some slot) ≡ Some instr → Has at len instr
unfolding has_length
local_length at number len slot instr h e =
    table_holds (λ k i. Has at len i) local_instrs (Some slot) number instr
    (λ arg there. let same : is_local_length arg len ≡ true = subst (λ k. is_local_length k len ≡ true) (same_Some slot arg there) h in (same, (same, (same, (same, (same, (same, tt))))))) e

short_local : (slot : ℕ) → slot < 2 ^ 8 → is_local_length slot 2 ≡ true
short_local slot h = or_right (nat_lt slot 4 && 2 == 1) _ (or_left _ _ (and_from _ _ (lt-ltb slot 256 h) refl))

wide_local : (slot : ℕ) → is_local_length slot 4 ≡ true
wide_local slot = or_right (nat_lt slot 4 && 4 == 1) _ (or_right (nat_lt slot 256 && 4 == 2) _ refl)

at_least : (n : ℤ) → FitsSigned w8 n → int_le (negsuc 127) n ≡ true
at_least n h = grind (arith, ints)

at_most : (n : ℤ) → FitsSigned w8 n → int_le n (pos 127) ≡ true
at_most n h = grind (arith, ints)

short_iinc : (slot : ℕ) (n : ℤ) → slot < 2 ^ 8 → FitsSigned w8 n → is_iinc_length slot n 3 ≡ true
short_iinc slot n h fits = or_left _ _ (and_from _ _ (lt-ltb slot 256 h) (and_from _ _ (at_least n fits) (and_from _ _ (at_most n fits) refl)))

wide_iinc : (slot : ℕ) (n : ℤ) → is_iinc_length slot n 6 ≡ true
wide_iinc slot n = or_right _ _ refl

near : (at n : ℕ) → FitsSigned w16 (pos n -ℤ pos at) → is_jump_length at n 3 ≡ true
near at n fits = and_from _ _ (lt-ltb n (at + 32768) (omega (arith, ints))) (and_from _ _ (lt-ltb at (n + 32769) (omega (arith, ints))) refl)

abbrev IfJump : ℕ → ℕ → Instr → Type 0
IfJump at number instr = not (number == 200) ≡ true → Has at 3 instr

jump_length : (at number : ℕ) (to : ℤ) (instr : Instr) → FitsSigned w16 (to -ℤ pos at) → applied (row jump_instrs number) (place_of to) ≡ Some instr → IfJump at number instr
unfolding has_length
jump_length at number to instr fits e =
    table_holds (IfJump at) jump_instrs (place_of to) number instr
    (λ arg there.
    let j : is_jump_length at arg 3 ≡ true = near at arg (subst (λ z. FitsSigned w16 (z -ℤ pos at)) (sym (place_is to arg there)) fits) in
    let k = λ (h : true ≡ true). j in
    (k, (k, (k, (k, (k, (k, (k, (k, (k, (k, (k, (k, (k, (k, (k, (k, (k, ((λ h. absurd (false≢true h)), tt))))))))))))))))))) e

far : (at n : ℕ) → FitsSigned w32 (pos n -ℤ pos at) → is_far at n ≡ true
far at n fits = and_from _ _ (lt-ltb n (at + 2 ^ 31) (omega (arith, ints))) (lt-ltb at (n + (2 ^ 31 + 1)) (omega (arith, ints)))

far_by : (at n : ℕ) (to : ℤ) → pos n ≡ to → TargetFits w32 at to → is_far at n ≡ true
far_by at n to is fits = far at n (subst (λ z. FitsSigned w32 (z -ℤ pos at)) (sym is) fits.1)

abbrev IfWide : ℕ → ℕ → Instr → Type 0
IfWide at number instr = (number == 200) ≡ true → Has at 5 instr

wide_jump_length : (at number : ℕ) (to : ℤ) (instr : Instr) → TargetFits w32 at to → applied (row jump_instrs number) (place_of to) ≡ Some instr → IfWide at number instr
unfolding has_length
wide_jump_length at number to instr fits e =
    table_holds (IfWide at) jump_instrs (place_of to) number instr
    (λ arg there.
    let j : is_far at arg ≡ true = far_by at arg to (place_is to arg there) fits in
    let no = λ (is : false ≡ true). absurd (false≢true is) in
    (no, (no, (no, (no, (no, (no, (no, (no, (no, (no, (no, (no, (no, (no, (no, (no, (no, ((λ is. and_from _ _ j refl), tt))))))))))))))))))) e

array_length : (at code : ℕ) (instr : Instr) → option_map Newarray (row array_codes code) ≡ Some instr → Has at 2 instr
unfolding has_length
array_length at code instr e =
    let m = mapped Newarray (row array_codes code) instr e in
    subst (λ i. Has at 2 i) m.is (and_from _ _ (rows_pass (λ k b. is_primitive b) array_codes refl code m.x m.there) refl)

high_fits : (low : ℤ) (n : ℕ) → FitsSigned w32 ((low +ℤ pos n) -ℤ pos 1) → int_le (low +ℤ pos n) (pos (2 ^ 31)) ≡ true
high_fits low n fits = grind (arith, ints)

table_stands : (low : ℤ) (targets : List ℤ) (ts : List ℕ) → length ts ≡ length targets → 0 < length targets → FitsSigned w32 (high_of low targets) → is_table low ts ≡ true
table_stands low targets ts len some fits =
    and_from _ _ (lt-ltb 0 (length ts) (omega (arith, len, some))) (subst (λ (k : ℕ). int_le (low +ℤ pos k) (pos (2 ^ 31)) ≡ true) (sym len) (high_fits low (length targets) fits))

table_length : (at : ℕ) (default : ℕ) (low : ℤ) (ts : List ℕ) (n : ℕ) → length ts ≡ n → is_table low ts ≡ true → list_all (is_far at) (default ∷ ts) ≡ true → Has at (13 + padding at + 4 * n) (Tableswitch default low ts)
unfolding has_length
table_length at default low ts n len stands are =
    subst (λ k. Has at (13 + padding at + 4 * k) (Tableswitch default low ts)) len (and_from _ _ stands (and_from _ _ are (eq-eqb (13 + padding at + 4 * length ts) _ refl)))

lookup_length : (at : ℕ) (default : ℕ) (pairs : List (ℤ × ℕ)) (n : ℕ) → length pairs ≡ n → matches_increase pairs ≡ true → list_all (is_far at) (default ∷ map (λ pair. pair.1) pairs) ≡ true
    → Has at (9 + padding at + 8 * n) (Lookupswitch default pairs)
unfolding has_length
lookup_length at default pairs n len inc are =
    subst (λ k. Has at (9 + padding at + 8 * k) (Lookupswitch default pairs)) len (and_from _ _ inc (and_from _ _ are (eq-eqb (9 + padding at + 8 * length pairs) _ refl)))

-- ---- targets of a switch

all_far : (at : ℕ) (targets : List ℤ) (ts : List ℕ) → AllByRecursion (TargetFits w32 at) targets → each_of place_of targets ≡ Some ts → list_all (is_far at) ts ≡ true
all_far at targets ts fit e =
    each_of_all place_of (is_far at) targets ts (all_map (TargetFits w32 at) _ (λ to fits n there. far_by at n to (place_is to n there) fits) targets fit) e

-- ---- matches that increase

abbrev AreAbove : Option ℤ → List (ℤ × ℕ) → Type 0
AreAbove least [] = Unit {0}
AreAbove least (y ∷ ys) = IsAbove least y.0

not_below : (a b : ℤ) → a <ℤ b → not (int_le b a) ≡ true
not_below a b h = grind (arith, ints)

next_increases : (y : ℤ × ℕ) (ys : List (ℤ × ℕ)) → AreAbove (Some y.0) ys → matches_increase ys ≡ true → matches_increase (y ∷ ys) ≡ true
unfolding matches_increase
next_increases y [] above inc = refl
next_increases y (z ∷ zs) above inc = and_from _ _ (not_below y.0 z.0 above) inc

abbrev Increase : Option ℤ → List (ℤ × ℕ) → Type 0
Increase least ys = AreAbove least ys × (matches_increase ys ≡ true)

none_increases : (least : Option ℤ) → Increase least []
unfolding matches_increase
none_increases least = (tt, refl)

increase : (at : ℕ) (least : Option ℤ) (pairs : List (ℤ × ℤ)) (ys : List (ℤ × ℕ)) → PairsFit at least pairs → each_of pair_in pairs ≡ Some ys → Increase least ys
increase at least [] ys fit e = subst (λ zs. Increase least zs) (same_Some [] ys e) (none_increases least)
increase at least (pair ∷ pairs) ys fit e =
    let f = first_and (pair_in pair) (each_of pair_in pairs) ys e in
    let key = (pair_parts pair f.x f.first_is).key in
    let later = increase at (Some pair.0) pairs f.xs fit.1 f.others_are in
    let above : AreAbove (Some f.x.0) f.xs = subst (λ k. AreAbove (Some k) f.xs) key later.0 in
    subst (λ zs. Increase least zs) (sym f.is) (subst (λ k. IsAbove least k) key fit.0.0, next_increases f.x f.xs above later.1)

pairs_far : (at : ℕ) (least : Option ℤ) (pairs : List (ℤ × ℤ)) (ys : List (ℤ × ℕ)) → PairsFit at least pairs → each_of pair_in pairs ≡ Some ys → list_all (is_far at) (map (λ pair. pair.1) ys) ≡ true
pairs_far at least [] ys fit e = subst (λ zs. list_all (is_far at) (map (λ pair. pair.1) zs) ≡ true) (same_Some [] ys e) refl
pairs_far at least (pair ∷ pairs) ys fit e =
    let f = first_and (pair_in pair) (each_of pair_in pairs) ys e in
    let first = far_by at f.x.1 pair.1 (pair_parts pair f.x f.first_is).to fit.0.2 in
    subst (λ zs. list_all (is_far at) (map (λ pair. pair.1) zs) ≡ true) (sym f.is) (and_from _ _ first (pairs_far at (Some pair.0) pairs f.xs fit.1 f.others_are))

-- ---- an index

abbrev HasIndexed : ℕ → ℕ → Instr → Type 0
HasIndexed at number instr = Has at (index_len number) instr

new_length : (at : ℕ) (class : Option ClassId) (instr : Instr) → option_map New class ≡ Some instr → Has at 3 instr
unfolding has_length
new_length at class instr e = subst (λ i. Has at 3 i) (mapped New class instr e).is refl

typed_by : (w : World) (at number : ℕ) (class : Named) (instr : Instr) (is_new : Bool) → HasDims class → (number == 187) ≡ is_new
    → (if is_new then option_map New (class_named_by w class) else applied (row type_instrs number) (type_named w class)) ≡ Some instr → HasIndexed at number instr
unfolding has_length
typed_by w at number class instr true dims is e = subst (λ k. HasIndexed at k instr) (sym (eqb-true number 187 is)) (new_length at (class_named_by w class) instr e)
typed_by w at number class instr false dims is e =
    table_holds (HasIndexed at) type_instrs (type_named w class) number instr
    (λ arg there.
    let h : (is_reference arg && true) ≡ true = and_from _ _ (is_reference_named w class arg dims there) refl in
    (h, (h, (h, tt)))) e

typed_length : (w : World) (at number : ℕ) (class : Named) (instr : Instr) → HasDims class → typed_instr w number class ≡ Some instr → HasIndexed at number instr
typed_length w at number class instr dims e = typed_by w at number class instr (number == 187) dims refl e

index_length : (w : World) (at number : ℕ) (o : Option Operand) (instr : Instr) → IsLoaded o → instr_with w number o ≡ Some instr → HasIndexed at number instr
unfolding has_length
index_length w at number None instr is e = absurd (none-some instr e)
index_length w at number (Some (AConstant value)) instr is e =
    table_holds (HasIndexed at) constant_instrs (Some value) number instr
    (λ arg there.
    let h : (is_loaded arg && true) ≡ true = and_from _ _ (subst (λ v. is_loaded v ≡ true) (same_Some value arg there) is) refl in
    (h, (h, (h, tt)))) e
index_length w at number (Some (AField member)) instr is e = table_passes (λ k i. has_length at i (index_len k)) field_instrs (field_found w member) number instr (λ arg. refl) e
index_length w at number (Some (AMethod member)) instr is e = table_passes (λ k i. has_length at i (index_len k)) method_instrs (method_found w member) number instr (λ arg. refl) e
index_length w at number (Some (AType class)) instr is e = typed_length w at number class instr is e

index_has : (w : World) (at number index len : ℕ) (pool : List Entry) (instr : Instr) → (index_len number == len) ≡ true → instr_with w number (operand_at pool (number, index)) ≡ Some instr → Has at len instr
index_has w at number index len pool instr is e =
    subst (λ k. Has at k instr) (eqb-true (index_len number) len is) (index_length w at number (operand_at pool (number, index)) instr (operand_loaded pool (number, index)) e)

-- ---- all of them

given_length : (at len : ℕ) (x y : Instr) → Has at len x → Some x ≡ Some y → Has at len y
given_length at len x y h e = subst (λ i. Has at len i) (same_Some x y e) h

bipush_length : (at : ℕ) (n : ℤ) → Has at 2 (Bipush n)
unfolding has_length
bipush_length at n = refl

sipush_length : (at : ℕ) (n : ℤ) → Has at 3 (Sipush n)
unfolding has_length
sipush_length at n = refl

iinc_length : (at slot len : ℕ) (n : ℤ) → is_iinc_length slot n len ≡ true → Has at len (Iinc slot n)
unfolding has_length
iinc_length at slot len n h = h

pub has_its_length : (w : World) (pool : List Entry) (at : ℕ) (instr : RawInstr) (y : Instr) → InstrFits at instr → instr_in w pool instr ≡ Some y → has_length at y (instr_len at instr) ≡ true
unfolding InstrFits instr_in instr_len
has_its_length w pool at (raw.Plain number) y fits e = plain_length at number y e
has_its_length w pool at (raw.Byte number n) y fits e = given_length at 2 (Bipush n) y (bipush_length at n) e
has_its_length w pool at (raw.Short number n) y fits e = given_length at 3 (Sipush n) y (sipush_length at n) e
has_its_length w pool at (raw.Local number slot) y fits e = local_length at number 2 slot y (short_local slot fits.1) e
has_its_length w pool at (raw.Constant number index) y fits e = index_has w at number index 2 pool y (has_number number form.Constant fits.0) e
has_its_length w pool at (raw.Index number index) y fits e = index_has w at number index 3 pool y (has_number number form.Index fits.0) e
has_its_length w pool at (raw.Iinc number slot n) y fits e = given_length at 3 (Iinc slot n) y (iinc_length at slot 3 n (short_iinc slot n fits.1.0 fits.1.1)) e
has_its_length w pool at (raw.Jump number to) y fits e = jump_length at number to y fits.1.1 e (has_number number form.Jump fits.0)
has_its_length w pool at (raw.WideJump number to) y fits e = wide_jump_length at number to y fits.1 e (has_number number form.WideJump fits.0)
has_its_length w pool at (raw.NewArray number code) y fits e = array_length at code y e
has_its_length w pool at (raw.TableSwitch number default low targets) y fits e =
    let t = table_parts default low targets y e in
    let len = each_of_length place_of targets t.ts t.ts_are in
    let are = and_from _ _ (far_by at t.first default t.first_is fits.1.0) (all_far at targets t.ts fits.1.4 t.ts_are) in
    subst (λ i. Has at (13 + padding at + 4 * length targets) i) t.is (table_length at t.first low t.ts (length targets) len (table_stands low targets t.ts len fits.1.3 fits.1.2) are)
has_its_length w pool at (raw.LookupSwitch number default pairs) y fits e =
    let t = lookup_parts default pairs y e in
    let are = and_from _ _ (far_by at t.first default t.first_is fits.1.0) (pairs_far at None pairs t.ts fits.1.2 t.ts_are) in
    subst (λ i. Has at (9 + padding at + 8 * length pairs) i) t.is
    (lookup_length at t.first t.ts (length pairs) (each_of_length pair_in pairs t.ts t.ts_are) (increase at None pairs t.ts fits.1.2 t.ts_are).1 are)
has_its_length w pool at (raw.WideLocal number slot) y fits e = local_length at number 4 slot y (wide_local slot) e
has_its_length w pool at (raw.WideIinc number slot n) y fits e = given_length at 6 (Iinc slot n) y (iinc_length at slot 6 n (wide_iinc slot n)) e
