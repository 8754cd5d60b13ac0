-- What the indices of needs name, and what old indices name in a pool that has grown.
use Rattle.std.proofs.Common.{◌≡◌, ℕ, Bool, true, false, ◌&&◌, ◌||◌, ◌==◌, if◌then◌else◌, List, [], ◌∷◌, ◌++◌, Option, Some, None, option_map, refl, sym, ap, subst, ◌∙◌}
use Rattle.std.specs.List.{AllByRecursion}
use Rattle.std.proofs.lemmas.Bool.{and_parts}
use Rattle.std.proofs.lemmas.Option.{none-some}
use Rattle.kilim_class_pool.specs.declared.entry.Entry.{Entry}
use Rattle.kilim_class_pool.specs.declared.entry.Entry.TheVariants.{Utf8, Integer, Float, Long, Double, Class, String, Fieldref, Methodref, InterfaceMethodref, NameAndType, MethodHandle, MethodType, InvokeDynamic}
use Rattle.kilim_class_pool.specs.Entries.{entry_at, is_utf8, is_class, is_name_and_type, is_member, refers_well}
use Rattle.kilim_class_file.specs.Parts.{text_of, units_in}
use Rattle.kilim_link_spec.specs.World.{class_text, name_in}
use Rattle.kilim_link_spec.specs.Code.{method_ref, class_ref, ref_with, index_operand, unless_array}
use Rattle.kilim_link_spec.specs.declared.named.Operand.{Operand}
use Rattle.kilim_link_spec.specs.declared.named.Operand.TheVariants.{AConstant, AField, AMethod, AType}
use Rattle.kilim_link_spec.specs.Types.{named_by}
use Rattle.kilim_link_spec.specs.declared.named.Named.{Named}
use Rattle.kilim_link_spec.specs.declared.fault.MemberOf.{MemberOf as MemberRef}
use Rattle.kilim_program.specs.declared.value.Value.{Value}
use Rattle.kilim_program.specs.declared.value.Value.TheVariants.{Text as TextValue}
use Rattle.kilim_class_making.specs.declared.pool_needs.need.Need.{Need}
use Rattle.kilim_class_making.specs.declared.pool_needs.need.Need.TheVariants.{AText, AClass, AMethod, ACall}
use Rattle.kilim_class_making.specs.pool_needs.Adding.{found, is_text, is_class_of, is_pair, is_ref, text_index, class_index, pair_index, ref_index, member_index, index_or_none, with_needs}
use Rattle.kilim_theorems.specs.woven_files.pool.Pools.{ClassesAreNamed, Names, PoolGrows, RefersWell, SameOperands}
use Rattle.kilim_class_making.proofs.pool_needs.Searching.{stays, found_passes}
use Rattle.kilim_theorems.proofs.woven_files.pool.Growing.{is_the_text, is_the_pair, is_the_ref, is_the_class, Has, HasAll, HasMember, HasCall, needs_added}

text_is : (pool : List Entry) (units : List ℕ) (index : ℕ) → found (is_text units) pool ≡ Some index → entry_at pool (text_index pool units) ≡ Some (Utf8 units)
text_is pool units index h = ap (λ o. entry_at pool (index_or_none o)) h ∙ is_the_text units (entry_at pool index) (found_passes (is_text units) pool index h)

pub text_at : (pool : List Entry) (index : ℕ) (units : List ℕ) → entry_at pool index ≡ Some (Utf8 units) → text_of pool index ≡ units
unfolding text_of
text_at pool index units h = ap units_in h

class_is : (pool : List Entry) (name : List ℕ) (index : ℕ) → found (is_class_of pool name) pool ≡ Some index → class_text pool (class_index pool name) ≡ name
unfolding class_text
class_is pool name index h =
    let c = is_the_class pool name (entry_at pool index) (found_passes (is_class_of pool name) pool index h) in
    ap (λ o. name_in pool (entry_at pool (index_or_none o))) h ∙ (ap (name_in pool) c.is ∙ text_at pool c.index name c.names)

class_ref_is : (pool : List Entry) (name : List ℕ) (index : ℕ) → found (is_class_of pool name) pool ≡ Some index → class_ref pool (entry_at pool (class_index pool name)) ≡ Some (named_by name)
class_ref_is pool name index h =
    let c = is_the_class pool name (entry_at pool index) (found_passes (is_class_of pool name) pool index h) in
    ap (λ o. class_ref pool (entry_at pool (index_or_none o))) h ∙ (ap (class_ref pool) c.is ∙ ap (λ t. Some (named_by t)) (text_at pool c.index name c.names))

member_is : (pool : List Entry) (c n d : ℕ) → HasMember pool c n d →
    method_ref pool (entry_at pool (member_index pool c n d)) ≡ Some (record { owner = class_text pool c; name = text_of pool n; descriptor = text_of pool d })
member_is pool c n d h =
    let pair : pair_index pool n d ≡ h.pair = ap index_or_none h.pair_at in
    let ref : member_index pool c n d ≡ h.ref = ap (ref_index pool c) pair ∙ ap index_or_none h.ref_at in
    ap (λ i. method_ref pool (entry_at pool i)) ref
    ∙ (ap (method_ref pool) (is_the_ref c h.pair (entry_at pool h.ref) (found_passes (is_ref c h.pair) pool h.ref h.ref_at))
    ∙ ap (ref_with pool c) (is_the_pair n d (entry_at pool h.pair) (found_passes (is_pair n d) pool h.pair h.pair_at)))

call_is : (pool : List Entry) (c n : ℕ) (d : List ℕ) → HasCall pool c n d →
    method_ref pool (entry_at pool (member_index pool c n (text_index pool d))) ≡ Some (record { owner = class_text pool c; name = text_of pool n; descriptor = d })
call_is pool c n d h =
    let index : text_index pool d ≡ h.text = ap index_or_none h.text_at in
    member_is pool c n (text_index pool d) (subst (HasMember pool c n) (sym index) h.member)
    ∙ ap (λ t. Some (record { owner = class_text pool c; name = text_of pool n; descriptor = t })) (text_at pool (text_index pool d) d (text_is pool d h.text h.text_at))

pub named : (pool : List Entry) (need : Need) → Has pool need → Names pool need
named pool (AText units) h = text_is pool units h.0 h.1
named pool (AClass name) h = (class_is pool name h.0 h.1, class_ref_is pool name h.0 h.1)
named pool (AMethod o n d) h =
    let class : class_index pool o ≡ h.class = ap index_or_none h.class_at in
    let name : text_index pool n ≡ h.text = ap index_or_none h.text_at in
    call_is pool (class_index pool o) (text_index pool n) d (subst (λ c. HasCall pool c (text_index pool n) d) (sym class) (subst (λ t. HasCall pool h.class t d) (sym name) h.call))
    ∙ (ap (λ t. Some (record { owner = t; name = text_of pool (text_index pool n); descriptor = d })) (class_is pool o h.class h.class_at)
    ∙ ap (λ t. Some (record { owner = o; name = t; descriptor = d })) (text_at pool (text_index pool n) n (text_is pool n h.text h.text_at)))
named pool (ACall c n d) h = call_is pool c n d h

all_named : (pool : List Entry) (needs : List Need) → HasAll pool needs → AllByRecursion (Names pool) needs
all_named pool [] h = tt
all_named pool (n ∷ ns) h = (named pool n h.0, all_named pool ns h.1)

pub grows : (old : List Entry) (needs : List Need) → ClassesAreNamed old → PoolGrows old needs (with_needs old needs)
grows old needs classes =
    let a = needs_added needs old classes in
    record {
      keeps = (λ index entry h. ap (λ p. entry_at p index) a.grown.is ∙ stays old a.grown.more index entry h);
      classes = a.grown.named;
      names = all_named (with_needs old needs) needs a.has;
    }

-- ---- what old entries name

utf8_there : (o : Option Entry) → is_utf8 o ≡ true → (units : List ℕ) × (o ≡ Some (Utf8 units))
utf8_there (Some (Utf8 units)) h = (units, refl)
utf8_there _ h = absurd (cc)

class_there : (o : Option Entry) → is_class o ≡ true → (name : ℕ) × (o ≡ Some (Class name))
class_there (Some (Class name)) h = (name, refl)
class_there _ h = absurd (cc)

pair_there : (o : Option Entry) → is_name_and_type o ≡ true → (n d : ℕ) × (o ≡ Some (NameAndType n d))
pair_there (Some (NameAndType n d)) h = (n, d, refl)
pair_there _ h = absurd (cc)

-- a text that is there is the same
text_stays : (old more : List Entry) (index : ℕ) → is_utf8 (entry_at old index) ≡ true → text_of (old ++ more) index ≡ text_of old index
text_stays old more index h =
    let t = utf8_there (entry_at old index) h in
    text_at (old ++ more) index t.0 (stays old more index (Utf8 t.0) t.1) ∙ sym (text_at old index t.0 t.1)

class_name : (old : List Entry) (name : ℕ) → refers_well old (Class name) ≡ true → is_utf8 (entry_at old name) ≡ true
unfolding refers_well
class_name old name h = h

pub class_named : (old : List Entry) (name : ℕ) → refers_well old (Class name) ≡ true → (units : List ℕ) × (entry_at old name ≡ Some (Utf8 units))
class_named old name h = utf8_there (entry_at old name) (class_name old name h)

pair_names : (old : List Entry) (n d : ℕ) → refers_well old (NameAndType n d) ≡ true → (is_utf8 (entry_at old n) && is_utf8 (entry_at old d)) ≡ true
unfolding refers_well
pair_names old n d h = h

pub class_text_stays : (old more : List Entry) (index : ℕ) → RefersWell old → is_class (entry_at old index) ≡ true → class_text (old ++ more) index ≡ class_text old index
unfolding class_text
class_text_stays old more index well h =
    let c = class_there (entry_at old index) h in
    ap (name_in (old ++ more)) (stays old more index (Class c.0) c.1)
    ∙ (text_stays old more c.0 (class_name old c.0 (well index (Class c.0) c.1)) ∙ sym (ap (name_in old) c.1))

-- a class and a member
ref_stays : (old more : List Entry) (class member : ℕ) → RefersWell old → is_member old class member ≡ true →
    ref_with (old ++ more) class (entry_at (old ++ more) member) ≡ ref_with old class (entry_at old member)
ref_stays old more class member well h =
    let parts = and_parts (is_class (entry_at old class)) (is_name_and_type (entry_at old member)) h in
    let p = pair_there (entry_at old member) parts.1 in
    let names = pair_names old p.0 p.1 (well member (NameAndType p.0 p.1) p.2) in
    let both = and_parts (is_utf8 (entry_at old p.0)) (is_utf8 (entry_at old p.1)) names in
    ap (ref_with (old ++ more) class) (stays old more member (NameAndType p.0 p.1) p.2)
    ∙ (ap (λ t. Some (record { owner = t; name = text_of (old ++ more) p.0; descriptor = text_of (old ++ more) p.1 })) (class_text_stays old more class well parts.0)
    ∙ (ap (λ t. Some (record { owner = class_text old class; name = t; descriptor = text_of (old ++ more) p.1 })) (text_stays old more p.0 both.0)
    ∙ (ap (λ t. Some (record { owner = class_text old class; name = text_of old p.0; descriptor = t })) (text_stays old more p.1 both.1)
    ∙ sym (ap (ref_with old class) p.2))))

-- `index_operand`, by what the entry is as a constant, a field, a method, any method, a class
abbrev by_kind : ℕ → Option Value → Option MemberRef → Option MemberRef → Option MemberRef → Option Named → Option Operand
by_kind number constant field method any class =
    if number == 18 || number == 19 || number == 20 then option_map AConstant constant
    else (if number == 178 || number == 180 || number == 181 then option_map AField field
    else (if number == 182 then option_map AMethod method
    else (if number == 183 || number == 184 then option_map AMethod any
    else (if number == 187 then option_map AType (unless_array class)
    else (if number == 189 || number == 192 || number == 193 then option_map AType class
    else None)))))

no_else : {A : Type 0} (b : Bool) (x : Option A) → x ≡ None → (if b then None else x) ≡ None
no_else true x h = refl
no_else false x h = h

no_operand : (old : List Entry) (number : ℕ) → index_operand old number None ≡ None
no_operand old number =
    no_else (number == 18 || number == 19 || number == 20) _ (no_else (number == 178 || number == 180 || number == 181) _ (no_else (number == 182) _ (no_else (number == 183 || number == 184) _ (no_else (number == 187) _ (no_else (number == 189 || number == 192 || number == 193) _ refl)))))

-- an entry that refers well names the same in the larger pool, whatever the instruction
operand_stays : (old more : List Entry) (number : ℕ) (e : Entry) → RefersWell old → refers_well old e ≡ true → index_operand (old ++ more) number (Some e) ≡ index_operand old number (Some e)
unfolding refers_well
operand_stays old more number (Utf8 units) well h = refl
operand_stays old more number (Integer n) well h = refl
operand_stays old more number (Float n) well h = refl
operand_stays old more number (Long n) well h = refl
operand_stays old more number (Double n) well h = refl
operand_stays old more number (Class name) well h =
    ap (λ t. by_kind number None None None None (Some (named_by t))) (text_stays old more name h)
operand_stays old more number (String text) well h =
    ap (λ t. by_kind number (Some (TextValue t)) None None None None) (text_stays old more text h)
operand_stays old more number (Fieldref class member) well h =
    ap (λ r. by_kind number None r None None None) (ref_stays old more class member well h)
operand_stays old more number (Methodref class member) well h =
    ap (λ r. by_kind number None None r r None) (ref_stays old more class member well h)
operand_stays old more number (InterfaceMethodref class member) well h =
    ap (λ r. by_kind number None None None r None) (ref_stays old more class member well h)
operand_stays old more number (NameAndType n d) well h = refl
operand_stays old more number (MethodHandle k n) well h = refl
operand_stays old more number (MethodType n) well h = refl
operand_stays old more number (InvokeDynamic b n) well h = refl

operand_at_stays : (old more : List Entry) (number index : ℕ) (o : Option Entry) → RefersWell old → entry_at old index ≡ o → (x : Operand) → index_operand old number o ≡ Some x → index_operand (old ++ more) number (entry_at (old ++ more) index) ≡ Some x
operand_at_stays old more number index None well is x h = absurd (none-some x (sym (no_operand old number) ∙ h))
operand_at_stays old more number index (Some e) well is x h =
    ap (index_operand (old ++ more) number) (stays old more index e is) ∙ (operand_stays old more number e well (well index e is) ∙ h)

pub same_operands : (old more : List Entry) → RefersWell old → SameOperands old (old ++ more)
same_operands old more well number index x h = operand_at_stays old more number index (entry_at old index) well refl x h

pub plain_text_stays : (old more : List Entry) (index : ℕ) → is_utf8 (entry_at old index) ≡ true → text_of (old ++ more) index ≡ text_of old index
plain_text_stays old more index h = text_stays old more index h

-- a member that refers well: its class, and its name
pub ref_texts : (old more : List Entry) (class member name descriptor : ℕ) → RefersWell old → is_member old class member ≡ true → entry_at old member ≡ Some (NameAndType name descriptor) →
    (class_text (old ++ more) class ≡ class_text old class) × (text_of (old ++ more) name ≡ text_of old name)
ref_texts old more class member n d well h is =
    let parts = and_parts (is_class (entry_at old class)) (is_name_and_type (entry_at old member)) h in
    let names = pair_names old n d (well member (NameAndType n d) is) in
    let both = and_parts (is_utf8 (entry_at old n)) (is_utf8 (entry_at old d)) names in
    (class_text_stays old more class well parts.0, text_stays old more n both.0)
