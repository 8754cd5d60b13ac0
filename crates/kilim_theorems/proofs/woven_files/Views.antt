-- What a class shows of itself is the same in woven form, but for the descriptors of the methods that pause.
use Rattle.std.proofs.Common.{◌≡◌, ℕ, zero, suc, Bool, true, false, not, ◌==◌, if◌then◌else◌, List, [], ◌∷◌, ◌++◌, map, Option, Some, refl, sym, ap, subst, ◌∙◌}
use Rattle.std.specs.List.{AllByRecursion, cons_option, filter_map, flat_map, list_any}
use Rattle.std.specs.Prelude.{codes, ◌||◌}
use Rattle.std.specs.Str.{bytes_eq}
use Rattle.kilim_class_attributes.specs.declared.parts.index.EntryKind.TheVariants as kind
use Rattle.kilim_class_attributes.specs.parts.Indices.{IndexFits, has_kind, named_is}
use Rattle.kilim_class_attributes.specs.declared.attribute.Attribute.{Attribute}
use Rattle.kilim_class_attributes.specs.declared.attribute.Info.{Info}
use Rattle.kilim_class_attributes.specs.declared.attribute.Info.TheVariants as info
use Rattle.kilim_class_attributes.specs.declared.attribute.Place.{Place}
use Rattle.kilim_class_attributes.specs.declared.attribute.Place.TheVariants as place
use Rattle.kilim_class_attributes.specs.Attributes.{AttributeFits, InfoFits}
use Rattle.kilim_class_attributes.specs.Lists.{EachAfter}
use Rattle.kilim_program.specs.Program.{Program}
use Rattle.kilim_program.specs.declared.class.Method.{Method}
use Rattle.kilim_class_file.specs.declared.class_file.ClassFile.{ClassFile}
use Rattle.kilim_class_file.specs.declared.class_file.MemberInfo.{MemberInfo}
use Rattle.kilim_class_file.specs.Parts.{text_of}
use Rattle.kilim_class_file.specs.Text.{MemberFits, MethodFits, Names as NamesKind, PartsFit}
use Rattle.kilim_class_pool.specs.declared.entry.Entry.{Entry}
use Rattle.kilim_class_pool.specs.declared.entry.Entry.TheVariants as entry
use Rattle.kilim_class_pool.specs.Entries.{entry_at, is_bad, is_class, is_utf8, refers_well, slot, slots_of}
use Rattle.kilim_class_pool.specs.Spelling.{PoolFits}
use Rattle.kilim_link_spec.specs.declared.view.DeclaredMethod.{DeclaredMethod}
use Rattle.kilim_link_spec.specs.World.{class_text, declared_field, declared_method, is_pausable, lists_pausable, member_descriptor, view_of_file}
use Rattle.kilim_class_making.specs.declared.pool_needs.need.Need.{Need}
use Rattle.kilim_class_making.specs.declared.pool_needs.need.Need.TheVariants.{AText}
use Rattle.kilim_class_making.specs.pool_needs.Adding.{text_index}
use Rattle.kilim_class_making.proofs.pool_needs.growth.Pools.{none_bad}
use Rattle.kilim_weave_file_spec.specs.Texts.{woven_descriptor}
use Rattle.kilim_weave_file_spec.specs.WovenFile.{MethodPair, attribute_with, info_needs, member_needs, rewritten, woven_attribute, woven_file, woven_info, woven_member, woven_pool}
use Rattle.kilim_theorems.specs.woven_files.Members.{AllSame, SameButFiber, pausing}
use Rattle.kilim_theorems.specs.woven_files.Views.{PairsAre, SameView, ViewsStay}
use Rattle.kilim_theorems.specs.woven_files.pool.Pools.{ClassesAreNamed, Names, RefersWell}
use Rattle.kilim_theorems.proofs.woven_files.pool.Growing.{Grown, needs_added}
use Rattle.kilim_theorems.proofs.woven_files.pool.Naming.{class_named, class_text_stays, grows, plain_text_stays, text_at}

-- ---- lists

all_behind : {A : Type 0} (P : A → Type 0) (xs ys : List A) → AllByRecursion P (xs ++ ys) → AllByRecursion P ys
all_behind P [] ys all = all
all_behind P (x ∷ xs) ys all = all_behind P xs ys all.1

map_same : {A B : Type 0} (f g : A → B) (P : A → Type 0) → ((x : A) → P x → f x ≡ g x) → (xs : List A) → AllByRecursion P xs → map f xs ≡ map g xs
map_same f g P same [] all = refl
map_same f g P same (x ∷ xs) all = λ i. same x all.0 i ∷ map_same f g P same xs all.1 i

any_same : {A : Type 0} (f g : A → Bool) (P : A → Type 0) → ((x : A) → P x → f x ≡ g x) → (xs : List A) → AllByRecursion P xs → list_any f xs ≡ list_any g xs
any_same f g P same [] all = refl
any_same f g P same (x ∷ xs) all = λ i. same x all.0 i || any_same f g P same xs all.1 i

-- ---- a pool that fits refers well

slot_passes : (P : Option Entry → Type 0) (slots : List (Option Entry)) (k : ℕ) (e : Entry) → AllByRecursion P slots → slot slots k ≡ Some e → P (Some e)
slot_passes P [] zero e all h = absurd (cc)
slot_passes P [] (suc k) e all h = absurd (cc)
slot_passes P (s ∷ ss) zero e all h = subst P h all.0
slot_passes P (s ∷ ss) (suc k) e all h = slot_passes P ss k e all.1 h

not_false : (b : Bool) → not b ≡ false → b ≡ true
not_false true is = refl
not_false false is = absurd (cc)

pub well_by : (pool : List Entry) → PoolFits pool → RefersWell pool
well_by pool fits zero e h = absurd (cc)
well_by pool fits (suc k) e h = not_false (refers_well pool e) (slot_passes (λ (s : Option Entry). is_bad pool s ≡ false) (slots_of pool) k e (none_bad pool fits.refer) h)

-- ---- over a pool that is larger

module _ (old new : List Entry) (well : RefersWell old) (grown : Grown old new) where
  text_same : (index : ℕ) → NamesKind is_utf8 old index → text_of new index ≡ text_of old index
  text_same index n = ap (λ (p : List Entry). text_of p index) grown.is ∙ plain_text_stays old grown.more index n.1

  class_same : (index : ℕ) → is_class (entry_at old index) ≡ true → class_text new index ≡ class_text old index
  class_same index n = ap (λ (p : List Entry). class_text p index) grown.is ∙ class_text_stays old grown.more index well n

  kind_class : (o : Option Entry) → named_is kind.Class o ≡ true → is_class o ≡ true
  kind_class (Some (entry.Class name)) e = refl
  kind_class _ e = absurd (cc)

  of_kind : (zero : Bool) (o : Option Entry) → (if zero then false else named_is kind.Class o) ≡ true → is_class o ≡ true
  of_kind true o e = absurd (cc)
  of_kind false o e = kind_class o e

  listed_same : (index : ℕ) → IndexFits old kind.Class index → class_text new index ≡ class_text old index
  unfolding has_kind
  listed_same index fits = class_same index (of_kind (index == 0) (entry_at old index) fits.there)

  -- an attribute says the same of pausing
  says_same : (i : Info) → InfoFits old i → lists_pausable new i ≡ lists_pausable old i
  says_same (info.Exceptions classes) fits =
      any_same (λ (c : ℕ). bytes_eq (class_text new c) (codes "kilim/Pausable")) (λ (c : ℕ). bytes_eq (class_text old c) (codes "kilim/Pausable")) (IndexFits old kind.Class)
      (λ c there. ap (λ (t : List ℕ). bytes_eq t (codes "kilim/Pausable")) (listed_same c there)) classes fits.1
  says_same (info.ConstantValue index) fits = refl
  says_same (info.Code code) fits = refl
  says_same (info.StackMapTable frames) fits = refl
  says_same (info.RuntimeVisibleAnnotations parts) fits = refl
  says_same (info.RuntimeInvisibleAnnotations parts) fits = refl
  says_same (info.RuntimeVisibleParameterAnnotations parts) fits = refl
  says_same (info.RuntimeInvisibleParameterAnnotations parts) fits = refl
  says_same (info.Raw bytes) fits = refl

  abbrev says : List Entry → List Attribute → Bool
  says pool attributes = list_any (λ (a : Attribute). lists_pausable pool a.info) attributes

  attributes_same : (at : Place) (before attributes : List Attribute) → EachAfter (AttributeFits old at) before attributes → says new attributes ≡ says old attributes
  attributes_same at before [] each = refl
  attributes_same at before (a ∷ more) each = λ i. says_same a.info each.0.info i || attributes_same at (before ++ a ∷ []) more each.1 i

  module _ (w : Program) (m : Method) (counted : List Bool) where
    abbrev kept : Attribute → Option Attribute
    kept a = woven_attribute w old new m counted a

    -- what is left of the attributes says the same
    left_same : (name : ℕ) (i : Info) → InfoFits old i → (more : List Attribute) (others : Bool) → says new more ≡ others → says new (cons_option (attribute_with name (woven_info w old new m counted i)) more) ≡ (lists_pausable old i || others)
    left_same name (info.Exceptions classes) fits more others e = λ k. says_same (info.Exceptions classes) fits k || e k
    left_same name (info.ConstantValue index) fits more others e = e
    left_same name (info.Code code) fits more others e = e
    left_same name (info.StackMapTable frames) fits more others e = e
    left_same name (info.RuntimeVisibleAnnotations parts) fits more others e = e
    left_same name (info.RuntimeInvisibleAnnotations parts) fits more others e = e
    left_same name (info.RuntimeVisibleParameterAnnotations parts) fits more others e = e
    left_same name (info.RuntimeInvisibleParameterAnnotations parts) fits more others e = e
    left_same name (info.Raw bytes) fits more others e = e

    rewritten_same : (at : Place) (before attributes : List Attribute) → EachAfter (AttributeFits old at) before attributes → says new (filter_map kept attributes) ≡ says old attributes
    rewritten_same at before [] each = refl
    rewritten_same at before (a ∷ more) each =
        left_same a.attribute_name_index a.info each.0.info (filter_map kept more) (says old more) (rewritten_same at (before ++ a ∷ []) more each.1)

-- ---- the file

module _ (w : Program) (file : ClassFile) (all : List MethodPair) (parts : PartsFit file) where
  abbrev old : List Entry
  old = file.constant_pool

  abbrev new : List Entry
  new = woven_pool w file all

  abbrev woven : ClassFile
  woven = woven_file w file all

  well : RefersWell old
  well = well_by old parts.pool

  named : ClassesAreNamed old
  named index name e = class_named old name (well index (entry.Class name) e)

  abbrev needs : List Need
  needs = flat_map (member_needs w file) all

  grown : Grown old new
  grown = (needs_added needs old named).grown

  names : AllByRecursion (Names new) needs
  names = (grows old needs named).names

  abbrev view : MemberInfo → DeclaredMethod
  view i = declared_method woven i

  -- a method that stays
  stays : (i : MemberInfo) → MethodFits old i → is_pausable old i ≡ false → SameButFiber woven_descriptor (declared_method file i) (view i)
  unfolding woven_file
  stays i fits none = record {
    name = text_same old new well grown i.name_index fits.member.name;
    pausable = attributes_same old new well grown place.Method [] i.attributes fits.member.attributes.each;
    descriptor = text_same old new well grown i.descriptor_index fits.member.descriptor ∙ sym (ap (λ (b : Bool). pausing woven_descriptor b (member_descriptor file i)) none);
  }

  -- one that pauses
  changes : (i : MemberInfo) (m : Method) (counted : List Bool) → MethodFits old i → is_pausable old i ≡ true → Names new (AText (woven_descriptor (member_descriptor file i))) →
      SameButFiber woven_descriptor (declared_method file i) (view (rewritten w file new m counted i))
  unfolding woven_file
  changes i m counted fits pauses there = record {
    name = text_same old new well grown i.name_index fits.member.name;
    pausable = rewritten_same old new well grown w m counted place.Method [] i.attributes fits.member.attributes.each;
    descriptor = text_at new (text_index new (woven_descriptor (member_descriptor file i))) (woven_descriptor (member_descriptor file i)) there ∙ sym (ap (λ (b : Bool). pausing woven_descriptor b (member_descriptor file i)) pauses);
  }

  front_need : (x : MethodPair) (rest : List Need) → x.plain.pausable ≡ true → AllByRecursion (Names new) (member_needs w file x ++ rest) → Names new (AText (woven_descriptor (member_descriptor file x.info)))
  front_need x rest e all = (subst (λ (b : Bool). AllByRecursion (Names new) ((if b then AText (woven_descriptor (member_descriptor file x.info)) ∷ flat_map (λ (a : Attribute). info_needs w file.constant_pool x.method x.counted a.info) x.info.attributes else []) ++ rest)) e all).0

  one : (i : MemberInfo) (x : MethodPair) (rest : List Need) (b : Bool) → x.info ≡ i → x.plain.pausable ≡ is_pausable old i → x.plain.pausable ≡ b → MethodFits old i → AllByRecursion (Names new) (member_needs w file x ++ rest) →
      SameButFiber woven_descriptor (declared_method file i) (view (woven_member w file new x))
  one i x rest true same pauses e fits all =
      subst (λ (j : MemberInfo). SameButFiber woven_descriptor (declared_method file i) (view j)) (ap (λ (b : Bool). if b then rewritten w file new x.method x.counted x.info else x.info) (sym e))
      (subst (λ (j : MemberInfo). SameButFiber woven_descriptor (declared_method file j) (view (rewritten w file new x.method x.counted x.info))) same
      (changes x.info x.method x.counted (subst (MethodFits old) (sym same) fits) (ap (is_pausable old) same ∙ (sym pauses ∙ e)) (front_need x rest e all)))
  one i x rest false same pauses e fits all =
      subst (λ (j : MemberInfo). SameButFiber woven_descriptor (declared_method file i) (view j)) (ap (λ (b : Bool). if b then rewritten w file new x.method x.counted x.info else x.info) (sym e))
      (subst (λ (j : MemberInfo). SameButFiber woven_descriptor (declared_method file i) (view j)) (sym same) (stays i fits (sym pauses ∙ e)))

  each : (is : List MemberInfo) (xs : List MethodPair) → AllByRecursion (MethodFits old) is → PairsAre file is xs → AllByRecursion (Names new) (flat_map (member_needs w file) xs) →
      AllSame woven_descriptor (map (declared_method file) is) (map view (map (woven_member w file new) xs))
  each [] [] fits pairs all = tt
  each [] (x ∷ xs) fits pairs all = absurd pairs
  each (i ∷ is) [] fits pairs all = absurd pairs
  each (i ∷ is) (x ∷ xs) fits pairs all =
      (one i x (flat_map (member_needs w file) xs) x.plain.pausable pairs.0 pairs.1 refl fits.0 all, each is xs fits.1 pairs.2 (all_behind (Names new) (member_needs w file x) (flat_map (member_needs w file) xs) all))

  field_same : (f : MemberInfo) → MemberFits old place.Field f → declared_field woven f ≡ declared_field file f
  unfolding woven_file
  field_same f fits = λ i. record { name = text_same old new well grown f.name_index fits.name i; descriptor = text_same old new well grown f.descriptor_index fits.descriptor i }

  pub view_stays : PairsAre file file.methods all → SameView (view_of_file file) (view_of_file woven)
  unfolding woven_file
  view_stays pairs = record {
    name = class_same old new well grown file.this_class parts.this_class.1;
    superclass = ap Some (class_same old new well grown file.super_class parts.super_class.1);
    is_marked =
        ap (list_any (λ (name : List ℕ). bytes_eq name (codes "kilim/Message")))
        (map_same (class_text new) (class_text old) (NamesKind is_class old) (λ c n. class_same old new well grown c n.1) file.interfaces parts.interfaces.1);
    is_abstract = refl;
    is_final = refl;
    is_built_in = refl;
    fields = map_same (declared_field woven) (declared_field file) (MemberFits old place.Field) field_same file.fields parts.fields.1;
    methods = each file.methods all parts.methods.1 pairs names;
  }

pub views_stay : ViewsStay
views_stay w file xs parts pairs = view_stays w file xs parts pairs
