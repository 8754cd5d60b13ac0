-- A linked instruction goes where the written one goes, and ends a path where that one does.
use Rattle.std.proofs.Common.{◌≡◌, ℕ, Bool, true, false, ℤ, pos, List, [], ◌∷◌, map, Option, Some, None, refl, ap, sym, subst, ◌∙◌}
use Rattle.std.specs.Prelude.{◌||◌, ◌==◌, not, if◌then◌else◌}
use Rattle.std.specs.Option.{option_map}
use Rattle.std.proofs.lemmas.Bool.{false≢true}
use Rattle.std.proofs.lemmas.Option.{same_Some, none-some}
use Rattle.kilim_class_pool.specs.declared.entry.Entry.{Entry}
use Rattle.kilim_class_code.specs.declared.opcodes.forms.OpForm.TheVariants as form
use Rattle.kilim_class_code.specs.declared.opcodes.instr.RawInstr.{RawInstr}
use Rattle.kilim_class_code.specs.declared.opcodes.instr.RawInstr.TheVariants as raw
use Rattle.kilim_class_code.specs.opcodes.Instr.{InstrFits}
use Rattle.kilim_class_code.specs.Code.{targets_of, ends}
use Rattle.kilim_program.specs.declared.instr.Instr.{Instr}
use Rattle.kilim_program.specs.declared.instr.Instr.TheVariants.{Bipush, Sipush, Iinc, Tableswitch, Lookupswitch, Newarray, New}
use Rattle.kilim_program.specs.declared.names.ClassId.{ClassId}
use Rattle.kilim_program.specs.Names.{is_empty}
use Rattle.kilim_program.specs.Lengths.{jump_targets, ends_path}
use Rattle.kilim_link_spec.specs.Code.{instr_in, instr_with, applied, row, place_of, pair_in, plain_instrs, local_instrs, jump_instrs, field_instrs, method_instrs, type_instrs, constant_instrs, array_codes, operand_at, field_found, method_found}
use Rattle.kilim_link_spec.specs.declared.named.Operand.{Operand}
use Rattle.kilim_link_spec.specs.declared.named.Operand.TheVariants.{AConstant, AField, AMethod, AType}
use Rattle.kilim_link_spec.specs.Types.{each_of, type_named, class_named_by}
use Rattle.kilim_link_spec.specs.declared.named.Named.{Named}
use Rattle.kilim_link_spec.specs.World.{World}
use Rattle.kilim_link_laws.proofs.code_laws.Instrs.{has_number}
use Rattle.kilim_link_laws.proofs.code_laws.Tables.{either_way, lookup_parts, pair_parts, place_is, table_holds, table_parts, table_passes}
use Rattle.kilim_link_laws.proofs.code_laws.Lists.{first_and}
use Rattle.kilim_link_laws.proofs.code_laws.Rows.{rows_pass, mapped}

abbrev has_none : Instr → Bool
has_none y = is_empty (jump_targets y)

no_elements : {A : Type 0} (xs : List A) → is_empty xs ≡ true → xs ≡ []
no_elements [] e = refl
no_elements (x ∷ xs) e = absurd (false≢true e)

nowhere : (y : Instr) → has_none y ≡ true → map (λ n. pos n) (jump_targets y) ≡ []
nowhere y e = ap (map (λ n. pos n)) (no_elements (jump_targets y) e)

given_none : (x y : Instr) → has_none x ≡ true → Some x ≡ Some y → has_none y ≡ true
given_none x y h e = subst (λ i. has_none i ≡ true) (same_Some x y e) h

plain_none : (number : ℕ) (y : Instr) → row plain_instrs number ≡ Some y → has_none y ≡ true
unfolding jump_targets
plain_none number y e = rows_pass (λ k i. has_none i) plain_instrs refl number y e

local_none : (number slot : ℕ) (y : Instr) → applied (row local_instrs number) (Some slot) ≡ Some y → has_none y ≡ true
unfolding jump_targets
local_none number slot y e = table_passes (λ k i. has_none i) local_instrs (Some slot) number y (λ arg. refl) e

array_none : (code : ℕ) (y : Instr) → option_map Newarray (row array_codes code) ≡ Some y → has_none y ≡ true
unfolding jump_targets
array_none code y e = subst (λ i. has_none i ≡ true) (mapped Newarray (row array_codes code) y e).is refl

new_none : (class : Option ClassId) (y : Instr) → option_map New class ≡ Some y → has_none y ≡ true
unfolding jump_targets
new_none class y e = subst (λ i. has_none i ≡ true) (mapped New class y e).is refl

typed_by : (w : World) (number : ℕ) (class : Named) (y : Instr) (is_new : Bool) → (if is_new then option_map New (class_named_by w class) else applied (row type_instrs number) (type_named w class)) ≡ Some y → has_none y ≡ true
unfolding jump_targets
typed_by w number class y true e = new_none (class_named_by w class) y e
typed_by w number class y false e = table_passes (λ k i. has_none i) type_instrs (type_named w class) number y (λ arg. refl) e

index_none : (w : World) (number : ℕ) (o : Option Operand) (y : Instr) → instr_with w number o ≡ Some y → has_none y ≡ true
unfolding jump_targets
index_none w number None y e = absurd (none-some y e)
index_none w number (Some (AConstant value)) y e = table_passes (λ k i. has_none i) constant_instrs (Some value) number y (λ arg. refl) e
index_none w number (Some (AField member)) y e = table_passes (λ k i. has_none i) field_instrs (field_found w member) number y (λ arg. refl) e
index_none w number (Some (AMethod member)) y e = table_passes (λ k i. has_none i) method_instrs (method_found w member) number y (λ arg. refl) e
index_none w number (Some (AType class)) y e = typed_by w number class y (number == 187) e

-- ---- those that go somewhere

abbrev Goes : List ℤ → Instr → Type 0
Goes targets y = map (λ n. pos n) (jump_targets y) ≡ targets

jump_goes : (number : ℕ) (to : ℤ) (y : Instr) → applied (row jump_instrs number) (place_of to) ≡ Some y → Goes (to ∷ []) y
unfolding jump_targets
jump_goes number to y e =
    table_holds (λ k i. Goes (to ∷ []) i) jump_instrs (place_of to) number y
    (λ arg there.
    let h : pos arg ∷ [] ≡ to ∷ [] = ap (λ (z : ℤ). z ∷ []) (place_is to arg there) in
    (h, (h, (h, (h, (h, (h, (h, (h, (h, (h, (h, (h, (h, (h, (h, (h, (h, (h, tt))))))))))))))))))) e

targets_made : (targets : List ℤ) (ts : List ℕ) → each_of place_of targets ≡ Some ts → map (λ n. pos n) ts ≡ targets
targets_made [] ts e = ap (map (λ n. pos n)) (sym (same_Some [] ts e))
targets_made (to ∷ targets) ts e =
    let f = first_and (place_of to) (each_of place_of targets) ts e in
    ap (map (λ n. pos n)) f.is ∙ (ap (λ (z : ℤ). z ∷ map (λ n. pos n) f.xs) (place_is to f.x f.first_is) ∙ ap (λ (zs : List ℤ). to ∷ zs) (targets_made targets f.xs f.others_are))

pairs_made : (pairs : List (ℤ × ℤ)) (ts : List (ℤ × ℕ)) → each_of pair_in pairs ≡ Some ts → map (λ n. pos n) (map (λ pair. pair.1) ts) ≡ map (λ pair. pair.1) pairs
pairs_made [] ts e = ap (λ (xs : List (ℤ × ℕ)). map (λ n. pos n) (map (λ pair. pair.1) xs)) (sym (same_Some [] ts e))
pairs_made (pair ∷ pairs) ts e =
    let f = first_and (pair_in pair) (each_of pair_in pairs) ts e in
    ap (λ (xs : List (ℤ × ℕ)). map (λ n. pos n) (map (λ pair. pair.1) xs)) f.is
    ∙ (ap (λ (z : ℤ). z ∷ map (λ n. pos n) (map (λ pair. pair.1) f.xs)) (pair_parts pair f.x f.first_is).to ∙ ap (λ (zs : List ℤ). pair.1 ∷ zs) (pairs_made pairs f.xs f.others_are))

table_goes : (default low : ℤ) (first : ℕ) (targets : List ℤ) (ts : List ℕ) → pos first ≡ default → each_of place_of targets ≡ Some ts → Goes (default ∷ targets) (Tableswitch first low ts)
unfolding jump_targets
table_goes default low first targets ts is are = ap (λ (z : ℤ). z ∷ map (λ n. pos n) ts) is ∙ ap (λ (zs : List ℤ). default ∷ zs) (targets_made targets ts are)

lookup_goes : (default : ℤ) (first : ℕ) (pairs : List (ℤ × ℤ)) (ts : List (ℤ × ℕ)) → pos first ≡ default → each_of pair_in pairs ≡ Some ts → Goes (default ∷ map (λ pair. pair.1) pairs) (Lookupswitch first ts)
unfolding jump_targets
lookup_goes default first pairs ts is are = ap (λ (z : ℤ). z ∷ map (λ n. pos n) (map (λ pair. pair.1) ts)) is ∙ ap (λ (zs : List ℤ). default ∷ zs) (pairs_made pairs ts are)

bipush_none : (n : ℤ) → has_none (Bipush n) ≡ true
unfolding jump_targets
bipush_none n = refl

sipush_none : (n : ℤ) → has_none (Sipush n) ≡ true
unfolding jump_targets
sipush_none n = refl

iinc_none : (slot : ℕ) (n : ℤ) → has_none (Iinc slot n) ≡ true
unfolding jump_targets
iinc_none slot n = refl

-- each target of a linked instruction is one of the written one, in order
pub same_targets : (w : World) (pool : List Entry) (instr : RawInstr) (y : Instr) → instr_in w pool instr ≡ Some y → map (λ n. pos n) (jump_targets y) ≡ targets_of instr
unfolding instr_in targets_of
same_targets w pool (raw.Plain number) y e = nowhere y (plain_none number y e)
same_targets w pool (raw.Byte number n) y e = nowhere y (given_none (Bipush n) y (bipush_none n) e)
same_targets w pool (raw.Short number n) y e = nowhere y (given_none (Sipush n) y (sipush_none n) e)
same_targets w pool (raw.Local number slot) y e = nowhere y (local_none number slot y e)
same_targets w pool (raw.Constant number index) y e = nowhere y (index_none w number (operand_at pool (number, index)) y e)
same_targets w pool (raw.Index number index) y e = nowhere y (index_none w number (operand_at pool (number, index)) y e)
same_targets w pool (raw.Iinc number slot n) y e = nowhere y (given_none (Iinc slot n) y (iinc_none slot n) e)
same_targets w pool (raw.Jump number to) y e = jump_goes number to y e
same_targets w pool (raw.WideJump number to) y e = jump_goes number to y e
same_targets w pool (raw.NewArray number code) y e = nowhere y (array_none code y e)
same_targets w pool (raw.TableSwitch number default low targets) y e =
    let t = table_parts default low targets y e in
    subst (λ i. Goes (default ∷ targets) i) t.is (table_goes default low t.first targets t.ts t.first_is t.ts_are)
same_targets w pool (raw.LookupSwitch number default pairs) y e =
    let t = lookup_parts default pairs y e in
    subst (λ i. Goes (default ∷ map (λ pair. pair.1) pairs) i) t.is (lookup_goes default t.first pairs t.ts t.first_is t.ts_are)
same_targets w pool (raw.WideLocal number slot) y e = nowhere y (local_none number slot y e)
same_targets w pool (raw.WideIinc number slot n) y e = nowhere y (given_none (Iinc slot n) y (iinc_none slot n) e)

-- ---- the end of a path

abbrev is_return : ℕ → Bool
is_return op = op == 172 || op == 173 || op == 176 || op == 177 || op == 191

plain_ends : (number : ℕ) (y : Instr) → row plain_instrs number ≡ Some y → is_return number ≡ true → ends_path y ≡ true
unfolding ends_path
plain_ends number y e h = either_way (is_return number) (ends_path y) h (rows_pass (λ k i. not (is_return k) || ends_path i) plain_instrs refl number y e)

goto_ends : (number : ℕ) (to : ℤ) (y : Instr) → applied (row jump_instrs number) (place_of to) ≡ Some y → (number == 167) ≡ true → ends_path y ≡ true
unfolding ends_path
goto_ends number to y e h = either_way (number == 167) (ends_path y) h (table_passes (λ k i. not (k == 167) || ends_path i) jump_instrs (place_of to) number y (λ arg. refl) e)

wide_ends : (number : ℕ) (to : ℤ) (y : Instr) → applied (row jump_instrs number) (place_of to) ≡ Some y → (number == 200) ≡ true → ends_path y ≡ true
unfolding ends_path
wide_ends number to y e h = either_way (number == 200) (ends_path y) h (table_passes (λ k i. not (k == 200) || ends_path i) jump_instrs (place_of to) number y (λ arg. refl) e)

table_ends : (first : ℕ) (low : ℤ) (ts : List ℕ) → ends_path (Tableswitch first low ts) ≡ true
unfolding ends_path
table_ends first low ts = refl

lookup_ends : (first : ℕ) (ts : List (ℤ × ℕ)) → ends_path (Lookupswitch first ts) ≡ true
unfolding ends_path
lookup_ends first ts = refl

pub same_end : (w : World) (pool : List Entry) (at : ℕ) (instr : RawInstr) (y : Instr) → InstrFits at instr → instr_in w pool instr ≡ Some y → ends instr ≡ true → ends_path y ≡ true
unfolding instr_in ends InstrFits
same_end w pool at (raw.Plain number) y fits e h = plain_ends number y e h
same_end w pool at (raw.Jump number to) y fits e h = goto_ends number to y e h
same_end w pool at (raw.WideJump number to) y fits e h = wide_ends number to y e (has_number number form.WideJump fits.0)
same_end w pool at (raw.TableSwitch number default low targets) y fits e h =
    let t = table_parts default low targets y e in
    subst (λ i. ends_path i ≡ true) t.is (table_ends t.first low t.ts)
same_end w pool at (raw.LookupSwitch number default pairs) y fits e h =
    let t = lookup_parts default pairs y e in
    subst (λ i. ends_path i ≡ true) t.is (lookup_ends t.first t.ts)
same_end w pool at _ y fits e h = absurd (false≢true h)
