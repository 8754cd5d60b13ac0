-- Each instruction of a code without a fault is one of the program.
use Rattle.std.proofs.Common.{◌≡◌, ℕ, ◌<◌, Bool, true, false, ℤ, pos, negsuc, List, [], ◌∷◌, Option, Some, None, refl, ap, sym, subst, arith, is_some, is_none, option_map, option_and_then, ⊎_elim}
use Rattle.std.specs.Prelude.{◌||◌, ◌==◌, not, if◌then◌else◌}
use Rattle.std.specs.List.{AllByRecursion}
use Rattle.std.proofs.lemmas.Bool.Decides.{nat_tests}
use Rattle.std.proofs.lemmas.Bool.{or_cases, eqb-true, agree_below_at, false≢true}
use Rattle.std.proofs.lemmas.Option.{same_Some, none-some}
use Rattle.kilim_lemmas.proofs.Truth.{rest_is_false}
use Rattle.kilim_class_code.specs.Code.{Placed, targets_of, is_place}
use Rattle.kilim_class_file.specs.declared.class_file.ClassFile.{ClassFile}
use Rattle.kilim_class_pool.specs.declared.entry.Entry.{Entry}
use Rattle.kilim_class_pool.specs.Entries.{entry_at}
use Rattle.kilim_class_code.specs.declared.opcodes.forms.OpForm.{OpForm}
use Rattle.kilim_class_code.specs.declared.opcodes.forms.OpForm.TheVariants as form
use Rattle.kilim_class_code.specs.declared.opcodes.instr.RawInstr.{RawInstr}
use Rattle.kilim_class_code.specs.declared.opcodes.instr.RawInstr.TheVariants as raw
use Rattle.kilim_class_code.specs.opcodes.Instr.{is_array_code}
use Rattle.kilim_class_code.specs.opcodes.Table.{rows, form_of}
use Rattle.kilim_program.specs.declared.instr.Instr.TheVariants.{Bipush, Sipush, Iinc, New}
use Rattle.kilim_program.specs.declared.value.Value.{Value}
use Rattle.kilim_program.specs.declared.names.ClassId.{ClassId}
use Rattle.kilim_link_spec.specs.Code.{instr_in, instr_with, applied, row, place_of, pair_in, plain_instrs, local_instrs, jump_instrs, field_instrs, method_instrs, type_instrs, constant_instrs, array_codes, index_operand, index_in, operand_at, field_found, method_found, constant_ref, field_ref, method_ref, any_method_ref, class_ref, unless_array}
use Rattle.kilim_link_spec.specs.declared.named.Operand.{Operand}
use Rattle.kilim_link_spec.specs.declared.named.Operand.TheVariants.{AConstant, AField, AMethod, AType}
use Rattle.kilim_link_spec.specs.declared.fault.MemberOf.{MemberOf as MemberRef}
use Rattle.kilim_link_spec.specs.Faults.{is_fiber, bad_index, bad_operand, is_no_member, owner_lacks, class_lacks}
use Rattle.kilim_link_spec.specs.Mentions.{mentions_of_operand, members_of_operand, operand_of}
use Rattle.kilim_link_spec.specs.declared.named.Mention.TheVariants.{OfClass}
use Rattle.kilim_link_spec.specs.Qualified.{has_fiber}
use Rattle.kilim_link_spec.specs.Types.{named_by, each_of, type_named, class_named_by}
use Rattle.kilim_link_spec.specs.declared.named.Named.{Named}
use Rattle.kilim_link_spec.specs.declared.named.Named.TheVariants.{AClass, AnArray, Malformed}
use Rattle.kilim_link_spec.specs.World.{World, find_field, find_method, class_of}
use Rattle.kilim_link_laws.proofs.code_laws.Forms.{HasItsForm}
use Rattle.kilim_link_laws.proofs.code_laws.Good.{Good}
use Rattle.kilim_link_laws.proofs.code_laws.Tables.{either_way}
use Rattle.kilim_link_laws.proofs.code_laws.Lists.{all_map}
use Rattle.kilim_link_laws.proofs.code_laws.Nothing.{all_mapped}
use Rattle.kilim_link_laws.proofs.code_laws.Mentions.{InstrMentions}
use Rattle.kilim_link_laws.proofs.code_laws.Rows.{forms_pass, mapped}
use Rattle.kilim_link_laws.proofs.code_laws.There.{There, there, same_there, some_there, not_none_there, map_there, applied_there, each_there}
use Rattle.kilim_link_laws.proofs.code_laws.TypesThere.{named_there, element_there}

-- ---- tables

-- each number of a form has its row
abbrev has_row : ℕ → OpForm → Bool
has_row number form.Plain = is_some (row plain_instrs number)
has_row number form.Local = is_some (row local_instrs number)
has_row number form.Jump = is_some (row jump_instrs number)
has_row number form.WideJump = is_some (row jump_instrs number)
has_row number layout = true

row_there : (number : ℕ) (layout : OpForm) → form_of number ≡ Some layout → has_row number layout ≡ true
unfolding form_of rows
row_there number layout e = forms_pass has_row refl number layout e

array_below : (code : ℕ) → is_array_code code ≡ true → code < 12
array_below code e = grind (arith, nat_tests)

abbrev array_row : ℕ → Bool
array_row code = not (is_array_code code) || is_some (row array_codes code)

array_there : (code : ℕ) → is_array_code code ≡ true → There (row array_codes code)
array_there code e =
    some_there (row array_codes code) (either_way (is_array_code code) (is_some (row array_codes code)) e (agree_below_at array_row (λ k. true) 12 code refl (array_below code e)))

-- ---- places

abbrev pub IsPlace : ℤ → Type 0
IsPlace to = There (place_of to)

not_before : (code : List Placed) (n : ℕ) → is_place code (negsuc n) ≡ true → ⊥
unfolding is_place
not_before [] n e = false≢true e
not_before (p ∷ code) n e = not_before code n e

pub place_there : (code : List Placed) (to : ℤ) → is_place code to ≡ true → IsPlace to
place_there code (pos n) e = there n
place_there code (negsuc n) e = absurd (not_before code n e)

-- ---- what an index names

if_else : {A : Type 0} (P : Type 0) (test : Bool) (a b : Option A) (x : A) → (test ≡ true → a ≡ Some x → P) → (test ≡ false → b ≡ Some x → P) → (if test then a else b) ≡ Some x → P
if_else P true a b x here later e = here refl e
if_else P false a b x here later e = later refl e

of_two : (P : ℕ → Type 0) (n a b : ℕ) → P a → P b → (n == a || n == b) ≡ true → P n
of_two P n a b pa pb e = ⊎_elim (λ t. subst P (sym (eqb-true n a t)) pa) (λ t. subst P (sym (eqb-true n b t)) pb) (or_cases (n == a) (n == b) e)

of_three : (P : ℕ → Type 0) (n a b c : ℕ) → P a → P b → P c → (n == a || n == b || n == c) ≡ true → P n
of_three P n a b c pa pb pc e = ⊎_elim (λ t. of_two P n a b pa pb t) (λ t. subst P (sym (eqb-true n c t)) pc) (or_cases (n == a || n == b) (n == c) e)

abbrev is_plain : Named → Bool
is_plain (AClass name) = true
is_plain _ = false

-- the number of an instruction that takes such an operand has its row
abbrev operand_row : ℕ → Operand → Bool
operand_row n (AConstant value) = is_some (row constant_instrs n)
operand_row n (AField member) = is_some (row field_instrs n)
operand_row n (AMethod member) = is_some (row method_instrs n)
operand_row n (AType class) = if n == 187 then is_plain class else is_some (row type_instrs n)

abbrev HasRow : Operand → ℕ → Type 0
HasRow o n = operand_row n o ≡ true

record IsClass (class : Named) : Type 0 where
  name : List ℕ
  is : AClass name ≡ class

plain_class : (class : Option Named) (x : Named) → unless_array class ≡ Some x → is_plain x ≡ true
plain_class (Some (AClass name)) x e = ap is_plain (sym (same_Some (AClass name) x e))
plain_class None x e = absurd (none-some x e)
plain_class (Some (AnArray type)) x e = absurd (none-some x e)
plain_class (Some (Malformed name)) x e = absurd (none-some x e)

constant_row : (n : ℕ) (c : Option Value) (o : Operand) → (n == 18 || n == 19 || n == 20) ≡ true → option_map AConstant c ≡ Some o → HasRow o n
constant_row n c o t e = let m = mapped AConstant c o e in subst (λ x. HasRow x n) m.is (of_three (λ k. HasRow (AConstant m.x) k) n 18 19 20 refl refl refl t)

field_row : (n : ℕ) (c : Option MemberRef) (o : Operand) → (n == 178 || n == 180 || n == 181) ≡ true → option_map AField c ≡ Some o → HasRow o n
field_row n c o t e = let m = mapped AField c o e in subst (λ x. HasRow x n) m.is (of_three (λ k. HasRow (AField m.x) k) n 178 180 181 refl refl refl t)

virtual_row : (n : ℕ) (c : Option MemberRef) (o : Operand) → (n == 182) ≡ true → option_map AMethod c ≡ Some o → HasRow o n
virtual_row n c o t e = let m = mapped AMethod c o e in subst (λ x. HasRow x n) m.is (subst (λ k. HasRow (AMethod m.x) k) (sym (eqb-true n 182 t)) refl)

method_row : (n : ℕ) (c : Option MemberRef) (o : Operand) → (n == 183 || n == 184) ≡ true → option_map AMethod c ≡ Some o → HasRow o n
method_row n c o t e = let m = mapped AMethod c o e in subst (λ x. HasRow x n) m.is (of_two (λ k. HasRow (AMethod m.x) k) n 183 184 refl refl t)

new_row : (n : ℕ) (c : Option Named) (o : Operand) → (n == 187) ≡ true → option_map AType (unless_array c) ≡ Some o → HasRow o n
new_row n c o t e =
    let m = mapped AType (unless_array c) o e in
    subst (λ x. HasRow x n) m.is (subst (λ k. HasRow (AType m.x) k) (sym (eqb-true n 187 t)) (plain_class c m.x m.there))

type_row : (n : ℕ) (c : Option Named) (o : Operand) → (n == 189 || n == 192 || n == 193) ≡ true → option_map AType c ≡ Some o → HasRow o n
type_row n c o t e = let m = mapped AType c o e in subst (λ x. HasRow x n) m.is (of_three (λ k. HasRow (AType m.x) k) n 189 192 193 refl refl refl t)

has_operand_row : (pool : List Entry) (n : ℕ) (entry : Option Entry) (o : Operand) → index_operand pool n entry ≡ Some o → HasRow o n
has_operand_row pool n entry o e =
    if_else (HasRow o n) (n == 18 || n == 19 || n == 20) _ _ o (constant_row n (constant_ref pool entry) o)
    (λ t1. if_else (HasRow o n) (n == 178 || n == 180 || n == 181) _ _ o (field_row n (field_ref pool entry) o)
    (λ t2. if_else (HasRow o n) (n == 182) _ _ o (virtual_row n (method_ref pool entry) o)
    (λ t3. if_else (HasRow o n) (n == 183 || n == 184) _ _ o (method_row n (any_method_ref pool entry) o)
    (λ t4. if_else (HasRow o n) (n == 187) _ _ o (new_row n (class_ref pool entry) o)
    (λ t5. if_else (HasRow o n) (n == 189 || n == 192 || n == 193) _ None o (type_row n (class_ref pool entry) o) (λ t6 none. absurd (none-some o none))))))) e

-- ---- members and types

owner_found : {A : Type 0} (w : World) (find : ClassId → Option A) (class : Named) → Good w (OfClass class) → owner_lacks w (λ c. is_none (find c)) class ≡ false → There (option_and_then find (class_named_by w class))
owner_found w find (AnArray type) g e = absurd (false≢true (sym e))
owner_found w find (Malformed name) g e = absurd (false≢true (sym e))
owner_found w find (AClass name) g e =
    let lacks = λ (c : ClassId). is_none (find c) in
    let c = g.names.0.there in
    let found = rest_is_false (has_fiber w.form || not (is_fiber name)) (class_lacks lacks (class_of w name)) g.names.0.usable e in
    let one : lacks c.x ≡ false = subst (λ o. class_lacks lacks o ≡ false) c.is found in
    same_there (option_and_then find (class_of w name)) (find c.x) (ap (option_and_then find) c.is) (not_none_there (find c.x) one)

class_by_name : (w : World) (class : Named) → is_plain class ≡ true → Good w (OfClass class) → There (class_named_by w class)
class_by_name w (AClass name) plain g = g.names.0.there
class_by_name w (AnArray type) plain g = absurd (false≢true plain)
class_by_name w (Malformed name) plain g = absurd (false≢true plain)

abbrev TypeMentions : World → Bool → Named → Type 0
TypeMentions w makes_array class = AllByRecursion (Good w) (mentions_of_operand makes_array (Some (AType class)))

type_by_name : (w : World) (class : Named) (makes_array : Bool) → TypeMentions w makes_array class → There (type_named w class)
type_by_name w class true g = element_there w class g.0
type_by_name w class false g = named_there w class g.0

typed_there : (w : World) (n : ℕ) (class : Named) (is_new : Bool) → (n == 187) ≡ is_new → (if is_new then is_plain class else is_some (row type_instrs n)) ≡ true → TypeMentions w (n == 189) class
    → There (if is_new then option_map New (class_named_by w class) else applied (row type_instrs n) (type_named w class))
typed_there w n class true is has g = map_there New (class_named_by w class) (class_by_name w class has (subst (λ k. TypeMentions w (k == 189) class) (eqb-true n 187 is) g).0)
typed_there w n class false is has g = applied_there (row type_instrs n) (type_named w class) (some_there (row type_instrs n) has) (type_by_name w class (n == 189) g)

abbrev pub MembersThere : World → Option Operand → Type 0
MembersThere w o = AllByRecursion (λ m. is_no_member w m ≡ false) (members_of_operand o)

operand_there : (w : World) (n : ℕ) (o : Operand) → HasRow o n → AllByRecursion (Good w) (mentions_of_operand (n == 189) (Some o)) → MembersThere w (Some o) → There (instr_with w n (Some o))
operand_there w n (AConstant value) has g m = applied_there (row constant_instrs n) (Some value) (some_there (row constant_instrs n) has) (there value)
operand_there w n (AField member) has g m =
    applied_there (row field_instrs n) (field_found w member) (some_there (row field_instrs n) has) (owner_found w (λ c. find_field w c member.name member.descriptor) (named_by member.owner) g.0 m.0)
operand_there w n (AMethod member) has g m =
    applied_there (row method_instrs n) (method_found w member) (some_there (row method_instrs n) has) (owner_found w (λ c. find_method w c member.name member.descriptor) (named_by member.owner) g.0 m.0)
operand_there w n (AType class) has g m = typed_there w n class (n == 187) refl has g

some_operand : (p : Placed) (number : ℕ) (test : Bool) → bad_operand p number test ≡ [] → test ≡ true
some_operand p number true e = refl
some_operand p number false e = absurd (cc)

index_there : (w : World) (pool : List Entry) (p : Placed) (n index : ℕ) → bad_index pool p (Some (n, index)) ≡ [] → AllByRecursion (Good w) (mentions_of_operand (n == 189) (operand_at pool (n, index))) → MembersThere w (operand_at pool (n, index))
    → There (instr_with w n (operand_at pool (n, index)))
index_there w pool p n index bad g m =
    let o = some_there (operand_at pool (n, index)) (some_operand p n (is_some (operand_at pool (n, index))) bad) in
    same_there (instr_with w n (operand_at pool (n, index))) (instr_with w n (Some o.x)) (ap (instr_with w n) o.is)
    (operand_there w n o.x (has_operand_row pool n (entry_at pool index) o.x o.is) (subst (λ q. AllByRecursion (Good w) (mentions_of_operand (n == 189) q)) o.is g) (subst (MembersThere w) o.is m))

-- ---- the instruction

-- what is known of an instruction where there is no fault
pub record KnownInstr (w : World) (file : ClassFile) (p : Placed) : Type 0 where
  pub mentions : InstrMentions (Good w) file p
  pub form : HasItsForm p.1
  pub places : AllByRecursion IsPlace (targets_of p.1)
  pub index : bad_index file.constant_pool p (index_in p.1) ≡ []
  pub members : MembersThere w (operand_of file.constant_pool p.1)

pub instr_there : (w : World) (file : ClassFile) (at : ℕ) (instr : RawInstr) → KnownInstr w file (at, instr) → There (instr_in w file.constant_pool instr)
unfolding instr_in targets_of
instr_there w file at (raw.Plain number) k = some_there (row plain_instrs number) (row_there number form.Plain k.form)
instr_there w file at (raw.Byte number n) k = there (Bipush n)
instr_there w file at (raw.Short number n) k = there (Sipush n)
instr_there w file at (raw.Local number slot) k = applied_there (row local_instrs number) (Some slot) (some_there _ (row_there number form.Local k.form)) (there slot)
instr_there w file at (raw.Constant number index) k = index_there w file.constant_pool (at, raw.Constant number index) number index k.index k.mentions k.members
instr_there w file at (raw.Index number index) k = index_there w file.constant_pool (at, raw.Index number index) number index k.index k.mentions k.members
instr_there w file at (raw.Iinc number slot n) k = there (Iinc slot n)
instr_there w file at (raw.Jump number to) k = applied_there (row jump_instrs number) (place_of to) (some_there _ (row_there number form.Jump k.form)) k.places.0
instr_there w file at (raw.WideJump number to) k = applied_there (row jump_instrs number) (place_of to) (some_there _ (row_there number form.WideJump k.form)) k.places.0
instr_there w file at (raw.NewArray number code) k = map_there _ (row array_codes code) (array_there code k.form)
instr_there w file at (raw.TableSwitch number default low targets) k = applied_there _ (each_of place_of targets) (map_there _ (place_of default) k.places.0) (each_there place_of targets k.places.1)
instr_there w file at (raw.LookupSwitch number default pairs) k =
    applied_there _ (each_of pair_in pairs) (map_there _ (place_of default) k.places.0)
    (each_there pair_in pairs (all_map (λ pair. IsPlace pair.1) (λ pair. There (pair_in pair)) (λ pair t. map_there _ (place_of pair.1) t) pairs (all_mapped IsPlace (λ pair. pair.1) pairs k.places.1)))
instr_there w file at (raw.WideLocal number slot) k = applied_there (row local_instrs number) (Some slot) (some_there _ (row_there number form.Local k.form)) (there slot)
instr_there w file at (raw.WideIinc number slot n) k = there (Iinc slot n)
