-- What stays of reading a class file, whatever follows, and which faults reading its parts may have.
use Rattle.std.proofs.Common.{◌≡◌, ◌⊎◌, ℕ, ◌==◌, List, [], ◌∷◌, ◌++◌, Option, Result, Ok, Err, refl, ap, inl, inr}
use Rattle.std.specs.Int.{w16, w32}
use Rattle.kilim_class_grammar.specs.Reader.{Reader, ◌>>=◌, checked, number_at, both, followed, made, tested, refaulted, counted}
use Rattle.kilim_class_grammar.specs.Fronts.{Stays, StaysRead, Faults, FaultsOf}
use Rattle.kilim_class_grammar.proofs.Fronts.{number_stays, both_stay, followed_stays, made_stays, tested_stays, counted_stay, refaulted_stays, number_faults, both_faults, followed_faults, made_faults, tested_faults, counted_faults, refaulted_faults}
use Rattle.kilim_class_pool.specs.declared.entry.Entry.{Entry}
use Rattle.kilim_class_pool.specs.declared.fault.PoolFault.{PoolFault}
use Rattle.kilim_class_pool.specs.declared.fault.PoolFault.TheVariants as of_pool
use Rattle.kilim_class_pool.specs.Entries.{entry_at, is_utf8, is_class}
use Rattle.kilim_class_pool.specs.Reading.{pool_at}
use Rattle.kilim_class_pool.specs.Fronts.{PoolStays, IsCut as IsPoolCut}
use Rattle.kilim_class_attributes.specs.declared.parts.fault.AttributeFault.{AttributeFault}
use Rattle.kilim_class_attributes.specs.declared.parts.fault.AttributeFault.TheVariants as of_attribute
use Rattle.kilim_class_attributes.specs.declared.attribute.Place.{Place}
use Rattle.kilim_class_attributes.specs.declared.attribute.Place.TheVariants as place
use Rattle.kilim_class_attributes.specs.Attributes.{attributes_at}
use Rattle.kilim_class_attributes.specs.Fronts.{AttributesStay, IsCut as IsAttributeCut}
use Rattle.kilim_class_attributes.specs.declared.attribute.Attribute.{Attribute}
use Rattle.kilim_class_file.specs.declared.class_file.MemberInfo.{MemberInfo}
use Rattle.kilim_class_file.specs.declared.fault.ClassFault.{ClassFault}
use Rattle.kilim_class_file.specs.declared.fault.ClassFault.TheVariants as fault
use Rattle.kilim_class_file.specs.Parts.{has_its_code, name_of}
use Rattle.kilim_class_file.specs.Reading.{pool_fault, attribute_fault, u2_at, index_at, class_index_at, utf8_index_at, attributes_in, member_of, member_at, field_at, method_at, list_at, magic_at, version_at, Front, front_at, names_at, Lists, lists_at, class_of, class_at}
use Rattle.kilim_class_file.specs.Faults.{IsOfPart}

-- ---- in a file of so many bytes, and in a longer one

module _ (len longer : ℕ) where
  abbrev pub IsCut : ClassFault → Type 0
  IsCut found = found ≡ fault.Cut len

  abbrev Stay : {A : Type 0} → (ℕ → Reader ClassFault A) → Type 0
  Stay one = StaysRead IsCut (one len) (one longer)

  number : Stay u2_at
  number = number_stays IsCut (fault.Cut len) (fault.Cut longer) refl w16

  index : (pool : List Entry) (is_kind : Option Entry → _) → Stay (λ n. index_at n pool is_kind)
  unfolding index_at
  index pool is_kind = tested_stays IsCut (u2_at len) (u2_at longer) number (λ index. is_kind (entry_at pool index)) (λ index. fault.Pool (of_pool.BadIndex index))

  listed : {A : Type 0} (one : ℕ → Reader ClassFault A) → Stay one → Stay (λ n. list_at n (one n))
  listed one h = counted_stay IsCut (one len) (one longer) h (fault.Cut len) (fault.Cut longer) refl w16

  pair : {A B : Type 0} (one : ℕ → Reader ClassFault A) (other : ℕ → Reader ClassFault B) → Stay one → Stay other → Stay (λ n. both (one n) (other n))
  pair one other h g = both_stay IsCut (one len) (one longer) h (other len) (other longer) g

  of_pool_cut : (found : PoolFault) → IsPoolCut found → IsCut (pool_fault len found)
  of_pool_cut found e = ap (pool_fault len) e

  of_pool_same : (found : PoolFault) → IsCut (pool_fault len found) ⊎ (pool_fault longer found ≡ pool_fault len found)
  of_pool_same of_pool.Cut = inl refl
  of_pool_same (of_pool.Tag index tag) = inr refl
  of_pool_same (of_pool.BadIndex index) = inr refl
  of_pool_same (of_pool.Text index) = inr refl
  of_pool_same of_pool.Memory = inr refl

  of_attribute_cut : (found : AttributeFault) → IsAttributeCut found → IsCut (attribute_fault len found)
  of_attribute_cut found e = ap (attribute_fault len) e

  of_attribute_same : (found : AttributeFault) → IsCut (attribute_fault len found) ⊎ (attribute_fault longer found ≡ attribute_fault len found)
  of_attribute_same of_attribute.Cut = inl refl
  of_attribute_same (of_attribute.Length name) = inr refl
  of_attribute_same (of_attribute.FrameTag tag) = inr refl
  of_attribute_same (of_attribute.BadIndex index) = inr refl
  of_attribute_same (of_attribute.Twice name) = inr refl
  of_attribute_same of_attribute.Memory = inr refl

  magic : Stay magic_at
  unfolding magic_at
  magic = tested_stays IsCut (number_at (fault.Cut len) w32) (number_at (fault.Cut longer) w32) (number_stays IsCut (fault.Cut len) (fault.Cut longer) refl w32) _ _

  version : Stay version_at
  unfolding version_at
  version = tested_stays IsCut (both (u2_at len) (u2_at len)) (both (u2_at longer) (u2_at longer)) (pair u2_at u2_at number number) _ _

  module _ (pool_stays : PoolStays) (attributes_stay : AttributesStay) where
    pools : Stay (λ n. refaulted (pool_fault n) pool_at)
    pools = refaulted_stays IsCut IsPoolCut (pool_fault len) (pool_fault longer) of_pool_cut of_pool_same pool_at pool_at pool_stays

    attributes : (pool : List Entry) (at : Place) → Stay (λ n. attributes_in n pool at)
    attributes pool at = refaulted_stays IsCut IsAttributeCut (attribute_fault len) (attribute_fault longer) of_attribute_cut of_attribute_same (attributes_at pool at) (attributes_at pool at) (attributes_stay pool at)

    member : (pool : List Entry) (at : Place) → Stay (λ n. member_at n pool at)
    unfolding member_at
    member pool at =
        let text : ℕ → Reader ClassFault ℕ = λ n. utf8_index_at n pool in
        let head : ℕ → Reader ClassFault (ℕ × (ℕ × ℕ)) = λ n. both (u2_at n) (both (text n) (text n)) in
        let is_head : Stay head = pair u2_at (λ n. both (text n) (text n)) number (pair text text (index pool is_utf8) (index pool is_utf8)) in
        let whole : ℕ → Reader ClassFault ((ℕ × (ℕ × ℕ)) × List Attribute) = λ n. both (head n) (attributes_in n pool at) in
        made_stays IsCut (whole len) (whole longer) (pair head (λ n. attributes_in n pool at) is_head (attributes pool at)) member_of

    method : (pool : List Entry) → Stay (λ n. method_at n pool)
    unfolding method_at
    method pool = tested_stays IsCut (member_at len pool place.Method) (member_at longer pool place.Method) (member pool place.Method) has_its_code (λ method. fault.CodePresence (name_of pool method))

    front : Stay front_at
    unfolding front_at
    front = pair (λ n. both (magic_at n) (version_at n)) (λ n. refaulted (pool_fault n) pool_at) (pair magic_at version_at magic version) pools

    names : (pool : List Entry) → Stay (λ n. names_at n pool)
    unfolding names_at
    names pool =
        let class : ℕ → Reader ClassFault ℕ = λ n. class_index_at n pool in
        pair u2_at (λ n. both (class n) (class n)) number (pair class class (index pool is_class) (index pool is_class))

    lists : (pool : List Entry) → Stay (λ n. lists_at n pool)
    unfolding lists_at
    lists pool =
        let classes : ℕ → Reader ClassFault (List ℕ) = λ n. list_at n (class_index_at n pool) in
        let fields : ℕ → Reader ClassFault (List MemberInfo) = λ n. list_at n (field_at n pool) in
        let methods : ℕ → Reader ClassFault (List MemberInfo) = λ n. list_at n (method_at n pool) in
        pair (λ n. both (classes n) (fields n)) (λ n. both (methods n) (attributes_in n pool place.Class))
        (pair classes fields (listed (λ n. class_index_at n pool) (index pool is_class)) (listed (λ n. field_at n pool) (member pool place.Field)))
        (pair methods (λ n. attributes_in n pool place.Class) (listed (λ n. method_at n pool) (method pool)) (attributes pool place.Class))

    pub class_stays : Stay class_at
    unfolding class_at
    class_stays =
        let behind : List Entry → ℕ → Reader ClassFault ((ℕ × (ℕ × ℕ)) × Lists) = λ pool n. both (names_at n pool) (lists_at n pool) in
        let whole : ℕ → Reader ClassFault (Front × ((ℕ × (ℕ × ℕ)) × Lists)) = λ n. followed (front_at n) (λ f. behind f.1 n) in
        made_stays IsCut (whole len) (whole longer)
        (followed_stays IsCut (front_at len) (front_at longer) front (λ f. behind f.1 len) (λ f. behind f.1 longer) (λ f. pair (λ n. names_at n f.1) (λ n. lists_at n f.1) (names f.1) (lists f.1)))
        class_of

-- ---- which faults the parts have

module _ (len : ℕ) where
  abbrev Is : ClassFault → Type 0
  Is found = IsOfPart len found

  number_is : FaultsOf Is (u2_at len)
  number_is = number_faults Is (fault.Cut len) refl w16

  index_is : (pool : List Entry) (is_kind : Option Entry → _) → FaultsOf Is (index_at len pool is_kind)
  unfolding index_at
  index_is pool is_kind = tested_faults Is (u2_at len) number_is (λ index. is_kind (entry_at pool index)) (λ index. fault.Pool (of_pool.BadIndex index)) (λ index. tt)

  listed_is : {A : Type 0} (one : Reader ClassFault A) → FaultsOf Is one → FaultsOf Is (list_at len one)
  listed_is one h = counted_faults Is one h (fault.Cut len) refl w16

  pool_is : (found : PoolFault) → Is (pool_fault len found)
  pool_is of_pool.Cut = refl
  pool_is (of_pool.Tag index tag) = tt
  pool_is (of_pool.BadIndex index) = tt
  pool_is (of_pool.Text index) = tt
  pool_is of_pool.Memory = tt

  attribute_is : (found : AttributeFault) → Is (attribute_fault len found)
  attribute_is of_attribute.Cut = refl
  attribute_is (of_attribute.Length name) = tt
  attribute_is (of_attribute.FrameTag tag) = tt
  attribute_is (of_attribute.BadIndex index) = tt
  attribute_is (of_attribute.Twice name) = tt
  attribute_is of_attribute.Memory = tt

  magic_is : FaultsOf Is (magic_at len)
  unfolding magic_at
  magic_is = tested_faults Is (number_at (fault.Cut len) w32) (number_faults Is (fault.Cut len) refl w32) _ _ (λ magic. tt)

  version_is : FaultsOf Is (version_at len)
  unfolding version_at
  version_is = tested_faults Is (both (u2_at len) (u2_at len)) (both_faults Is (u2_at len) number_is (u2_at len) number_is) _ _ (λ version. tt)

  front_is : FaultsOf Is (front_at len)
  unfolding front_at
  front_is =
      both_faults Is (both (magic_at len) (version_at len)) (both_faults Is (magic_at len) magic_is (version_at len) version_is)
      (refaulted (pool_fault len) pool_at) (refaulted_faults Is (pool_fault len) pool_is pool_at)

  module _ (pool : List Entry) where
    attributes_are : (at : Place) → FaultsOf Is (attributes_in len pool at)
    attributes_are at = refaulted_faults Is (attribute_fault len) attribute_is (attributes_at pool at)

    member_is : (at : Place) → FaultsOf Is (member_at len pool at)
    unfolding member_at
    member_is at =
        let text = utf8_index_at len pool in
        let head : Reader ClassFault (ℕ × (ℕ × ℕ)) = both (u2_at len) (both text text) in
        let is_head : FaultsOf Is head = both_faults Is (u2_at len) number_is (both text text) (both_faults Is text (index_is pool is_utf8) text (index_is pool is_utf8)) in
        made_faults Is (both head (attributes_in len pool at)) (both_faults Is head is_head (attributes_in len pool at) (attributes_are at)) member_of

    method_is : FaultsOf Is (method_at len pool)
    unfolding method_at
    method_is = tested_faults Is (member_at len pool place.Method) (member_is place.Method) has_its_code (λ method. fault.CodePresence (name_of pool method)) (λ method. tt)

    names_are : FaultsOf Is (names_at len pool)
    unfolding names_at
    names_are =
        let class = class_index_at len pool in
        both_faults Is (u2_at len) number_is (both class class) (both_faults Is class (index_is pool is_class) class (index_is pool is_class))

    lists_are : FaultsOf Is (lists_at len pool)
    unfolding lists_at
    lists_are =
        let classes : Reader ClassFault (List ℕ) = list_at len (class_index_at len pool) in
        let fields : Reader ClassFault (List MemberInfo) = list_at len (field_at len pool) in
        let methods : Reader ClassFault (List MemberInfo) = list_at len (method_at len pool) in
        both_faults Is (both classes fields) (both_faults Is classes (listed_is (class_index_at len pool) (index_is pool is_class)) fields (listed_is (field_at len pool) (member_is place.Field)))
        (both methods (attributes_in len pool place.Class)) (both_faults Is methods (listed_is (method_at len pool) method_is) (attributes_in len pool place.Class) (attributes_are place.Class))

  pub class_is : FaultsOf Is (class_at len)
  unfolding class_at
  class_is =
      made_faults Is (followed (front_at len) (λ f. both (names_at len f.1) (lists_at len f.1)))
      (followed_faults Is (front_at len) front_is (λ f. both (names_at len f.1) (lists_at len f.1)) (λ f. both_faults Is (names_at len f.1) (names_are f.1) (lists_at len f.1) (lists_are f.1)))
      class_of
