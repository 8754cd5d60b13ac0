-- What is read as the parts of a class file is spelled so, and what is spelled is read again.
use Rattle.std.proofs.Common.{◌≡◌, ◌==◌, ℕ, ◌+◌, ◌^◌, ◌<◌, Bool, true, false, eqb, List, [], ◌∷◌, ◌++◌, length, Option, refl, sym, ap, ◌∙◌, append_assoc, arith}
use Rattle.std.specs.Prelude.{◌&&◌}
use Rattle.std.specs.List.{flat_map, AllByRecursion}
use Rattle.std.specs.Int.{w16}
use Rattle.std.proofs.lemmas.Bool.{eqb-true, eq-eqb, and_parts, and_from}
use Rattle.kilim_class_grammar.specs.Reader.{Reader}
use Rattle.kilim_class_grammar.specs.Spelling.{u2, u4, list_text}
use Rattle.kilim_class_grammar.proofs.Bytes.{wide16}
use Rattle.kilim_class_grammar.proofs.Formats.{Format, n16, n32, pair, follow, passed, dressed, reworded, refitted, faulted, so_many}
use Rattle.kilim_class_pool.specs.declared.entry.Entry.{Entry}
use Rattle.kilim_class_pool.specs.declared.fault.PoolFault.TheVariants as of_pool
use Rattle.kilim_class_pool.specs.Entries.{entry_at, is_utf8, is_class}
use Rattle.kilim_class_pool.specs.Spelling.{pool_text, PoolFits}
use Rattle.kilim_class_pool.specs.Reading.{pool_at}
use Rattle.kilim_class_attributes.specs.declared.attribute.Place.{Place}
use Rattle.kilim_class_attributes.specs.declared.attribute.Place.TheVariants as place
use Rattle.kilim_class_attributes.specs.declared.attribute.Attribute.{Attribute}
use Rattle.kilim_class_attributes.specs.Attributes.{attributes_text, AttributesFit, attributes_at}
use Rattle.kilim_class_file.specs.declared.class_file.MemberInfo.{MemberInfo}
use Rattle.kilim_class_file.specs.declared.class_file.ClassFile.{ClassFile}
use Rattle.kilim_class_file.specs.declared.fault.ClassFault.{ClassFault}
use Rattle.kilim_class_file.specs.declared.fault.ClassFault.TheVariants as fault
use Rattle.kilim_class_file.specs.Parts.{has_its_code, name_of}
use Rattle.kilim_class_file.specs.Text.{member_text, class_text, Names, MemberFits, MethodFits, ListFits, PartsFit}
use Rattle.kilim_class_file.specs.Reading.{pool_fault, attribute_fault, u2_at, index_at, class_index_at, utf8_index_at, attributes_in, member_of, member_at, field_at, method_at, list_at, magic_at, version_at, Front, front_at, names_at, Lists, lists_at, class_of, class_at}

module _ (pools : Format pool_text pool_at PoolFits) (lists : (pool : List Entry) (at : Place) → Format attributes_text (attributes_at pool at) (AttributesFit pool at)) (len : ℕ) where
  number : Format u2 (u2_at len) (λ n. n < 2 ^ 16)
  number = n16 (fault.Cut len)

  module _ (pool : List Entry) where
    index : (is_kind : Option Entry → Bool) → Format u2 (index_at len pool is_kind) (Names is_kind pool)
    unfolding index_at
    index is_kind = passed number (λ index. is_kind (entry_at pool index)) (λ index. fault.Pool (of_pool.BadIndex index))

    attributes : (at : Place) → Format attributes_text (attributes_in len pool at) (AttributesFit pool at)
    attributes at = faulted (lists pool at) (attribute_fault len)

    abbrev parts_of_member : MemberInfo → (ℕ × (ℕ × ℕ)) × List Attribute
    parts_of_member m = ((m.access_flags, (m.name_index, m.descriptor_index)), m.attributes)

    regroup : (a b c d : List ℕ) → ((a ++ (b ++ c)) ++ d) ≡ a ++ (b ++ (c ++ d))
    regroup a b c d = simp append_assoc

    member : (at : Place) → Format member_text (member_at len pool at) (MemberFits pool at)
    unfolding member_at
    member at =
        refitted
        (reworded
        (dressed (pair (pair number (pair (index is_utf8) (index is_utf8))) (attributes at)) member_of parts_of_member (λ y. refl) (λ x fits. refl))
        member_text (λ m fits. regroup (u2 m.access_flags) (u2 m.name_index) (u2 m.descriptor_index) (attributes_text m.attributes)))
        (MemberFits pool at)
        (λ m f. record { flags = f.0.0; name = f.0.1.0; descriptor = f.0.1.1; attributes = f.1 })
        (λ m f. ((f.flags, (f.name, f.descriptor)), f.attributes))

    method : Format member_text (method_at len pool) (MethodFits pool)
    unfolding method_at
    method =
        refitted (passed (member place.Method) has_its_code (λ method. fault.CodePresence (name_of pool method))) (MethodFits pool)
        (λ m f. record { member = f.0; code = f.1 }) (λ m f. (f.member, f.code))

    list : {A : Type 0} {text : A → List ℕ} {at : Reader ClassFault A} {Fits : A → Type 0} → Format text at Fits → Format (list_text text) (list_at len at) (ListFits Fits)
    list one = so_many one (fault.Cut len) w16 (2 ^ 16) wide16

    names_text : ℕ × (ℕ × ℕ) → List ℕ
    names_text n = u2 n.0 ++ (u2 n.1.0 ++ u2 n.1.1)

    NamesFit : ℕ × (ℕ × ℕ) → Type 0
    NamesFit n = (n.0 < 2 ^ 16) × (Names is_class pool n.1.0 × Names is_class pool n.1.1)

    names : Format names_text (names_at len pool) NamesFit
    unfolding names_at names_text NamesFit
    names = pair number (pair (index is_class) (index is_class))

    lists_text : Lists → List ℕ
    lists_text l = (list_text u2 l.0.0 ++ list_text member_text l.0.1) ++ (list_text member_text l.1.0 ++ attributes_text l.1.1)

    ListsFit : Lists → Type 0
    ListsFit l = (ListFits (Names is_class pool) l.0.0 × ListFits (MemberFits pool place.Field) l.0.1) × (ListFits (MethodFits pool) l.1.0 × AttributesFit pool place.Class l.1.1)

    all_lists : Format lists_text (lists_at len pool) ListsFit
    unfolding lists_at lists_text ListsFit
    all_lists = pair (pair (list (index is_class)) (list (member place.Field))) (pair (list method) (attributes place.Class))

  -- ---- magic number, version and pool

  magic : Format u4 (magic_at len) (λ n. (n < 2 ^ 32) × ((n == 0xCAFEBABE) ≡ true))
  unfolding magic_at
  magic = passed (n32 (fault.Cut len)) (λ n. n == 0xCAFEBABE) (λ n. fault.Magic)

  version : Format (λ (v : ℕ × ℕ). u2 v.0 ++ u2 v.1) (version_at len) (λ v. ((v.0 < 2 ^ 16) × (v.1 < 2 ^ 16)) × ((v.0 == 0 && v.1 == 52) ≡ true))
  unfolding version_at
  version = passed (pair number number) (λ v. v.0 == 0 && v.1 == 52) (λ v. fault.Version v.1 v.0)

  front_text : Front → List ℕ
  front_text x = (u4 x.0.0 ++ (u2 x.0.1.0 ++ u2 x.0.1.1)) ++ pool_text x.1

  FrontFits : Front → Type 0
  FrontFits x = (((x.0.0 < 2 ^ 32) × ((x.0.0 == 0xCAFEBABE) ≡ true)) × (((x.0.1.0 < 2 ^ 16) × (x.0.1.1 < 2 ^ 16)) × ((x.0.1.0 == 0 && x.0.1.1 == 52) ≡ true))) × PoolFits x.1

  front : Format front_text (front_at len) FrontFits
  unfolding front_at front_text FrontFits
  front = pair (pair magic version) (faulted pools (pool_fault len))

  -- ---- the parts of a file

  abbrev parts_of : ClassFile → Front × ((ℕ × (ℕ × ℕ)) × Lists)
  parts_of f = (((0xCAFEBABE, (f.minor_version, f.major_version)), f.constant_pool), ((f.access_flags, (f.this_class, f.super_class)), ((f.interfaces, f.fields), (f.methods, f.attributes))))

  abbrev whole_text : Front × ((ℕ × (ℕ × ℕ)) × Lists) → List ℕ
  whole_text x = front_text x.0 ++ (names_text x.0.1 x.1.0 ++ lists_text x.0.1 x.1.1)

  abbrev WholeFits : Front × ((ℕ × (ℕ × ℕ)) × Lists) → Type 0
  WholeFits x = FrontFits x.0 × (NamesFit x.0.1 x.1.0 × ListsFit x.0.1 x.1.1)

  magic_is : (x : Front × ((ℕ × (ℕ × ℕ)) × Lists)) → WholeFits x → parts_of (class_of x) ≡ x
  unfolding FrontFits
  magic_is x fits = ap (λ (m : ℕ). (((m, x.0.0.1), x.0.1), x.1)) (sym (eqb-true x.0.0.0 0xCAFEBABE fits.0.0.0.1))

  regroup_all : (m a b p f t s i g h r : List ℕ) → ((m ++ (a ++ b)) ++ p) ++ ((f ++ (t ++ s)) ++ ((i ++ g) ++ (h ++ r))) ≡ m ++ (a ++ (b ++ (p ++ (f ++ (t ++ (s ++ (i ++ (g ++ (h ++ r)))))))))
  regroup_all m a b p f t s i g h r = simp append_assoc

  whole_text_is : (f : ClassFile) → whole_text (parts_of f) ≡ class_text f
  unfolding front_text names_text lists_text
  whole_text_is f =
      regroup_all (u4 0xCAFEBABE) (u2 f.minor_version) (u2 f.major_version) (pool_text f.constant_pool) (u2 f.access_flags) (u2 f.this_class) (u2 f.super_class)
      (list_text u2 f.interfaces) (list_text member_text f.fields) (list_text member_text f.methods) (attributes_text f.attributes)

  parts_fit : (f : ClassFile) → WholeFits (parts_of f) → PartsFit f
  unfolding FrontFits NamesFit ListsFit
  parts_fit f fits =
      let v = and_parts (eqb f.minor_version 0) (eqb f.major_version 52) fits.0.0.1.1 in
      record {
        minor = eqb-true f.minor_version 0 v.0;
        major = eqb-true f.major_version 52 v.1;
        pool = fits.0.1;
        flags = fits.1.0.0;
        this_class = fits.1.0.1.0;
        super_class = fits.1.0.1.1;
        interfaces = fits.1.1.0.0;
        fields = fits.1.1.0.1;
        methods = fits.1.1.1.0;
        attributes = fits.1.1.1.1;
      }

  fit_parts : (f : ClassFile) → PartsFit f → WholeFits (parts_of f)
  unfolding FrontFits NamesFit ListsFit
  fit_parts f fits =
      let v = and_from (eqb f.minor_version 0) (eqb f.major_version 52) (eq-eqb f.minor_version 0 fits.minor) (eq-eqb f.major_version 52 fits.major) in
      let minor = fits.minor in
      let major = fits.major in
      ((((omega arith, refl), ((omega arith, omega arith), v)), fits.pool), ((fits.flags, (fits.this_class, fits.super_class)), ((fits.interfaces, fits.fields), (fits.methods, fits.attributes))))

  pub a_class : Format class_text (class_at len) PartsFit
  unfolding class_at
  a_class =
      refitted
      (reworded
      (dressed (follow front (λ x fits. pair (names x.1) (all_lists x.1))) class_of parts_of (λ y. refl) magic_is)
      class_text (λ f fits. whole_text_is f))
      PartsFit parts_fit fit_parts
