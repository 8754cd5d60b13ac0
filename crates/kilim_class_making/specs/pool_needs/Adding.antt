-- What a woven file needs of its pool, and the pool with it: entries are added at the end, in the order of first need.
use Rattle.std.specs.Prelude.{ℕ, suc, Bool, false, ◌&&◌, ◌==◌, List, [], ◌∷◌, ◌++◌, Option, Some, None, option_map}
use Rattle.std.specs.List.{position_from}
use Rattle.std.specs.Str.{bytes_eq}
use Rattle.kilim_class_pool.specs.declared.entry.Entry.{Entry}
use Rattle.kilim_class_pool.specs.declared.entry.Entry.TheVariants.{Utf8, Class, NameAndType, Methodref}
use Rattle.kilim_class_pool.specs.Entries.{slots_of, entry_at}
use Rattle.kilim_class_making.specs.declared.pool_needs.need.Need.{Need}
use Rattle.kilim_class_making.specs.declared.pool_needs.need.Need.TheVariants.{AText, AClass, AMethod, ACall}

-- ---- looking for an entry

abbrev pub Test : Type 0
Test = Option Entry → Bool

-- the first index whose entry passes
unfoldable pub found : Test → List Entry → Option ℕ
found test pool = option_map suc (position_from test 0 (slots_of pool))

abbrev pub index_or_none : Option ℕ → ℕ
index_or_none None = 0
index_or_none (Some index) = index

-- a text
abbrev pub is_text : List ℕ → Test
is_text units (Some (Utf8 other)) = bytes_eq other units
is_text units _ = false

-- a class by its name, whichever of several spellings it names
abbrev pub is_class_of : List Entry → List ℕ → Test
is_class_of pool name (Some (Class index)) = is_text name (entry_at pool index)
is_class_of pool name _ = false

abbrev pub is_pair : ℕ → ℕ → Test
is_pair name descriptor (Some (NameAndType n d)) = (n == name) && (d == descriptor)
is_pair name descriptor _ = false

abbrev pub is_ref : ℕ → ℕ → Test
is_ref class member (Some (Methodref c m)) = (c == class) && (m == member)
is_ref class member _ = false

abbrev pub text_index : List Entry → List ℕ → ℕ
text_index pool units = index_or_none (found (is_text units) pool)

abbrev pub class_index : List Entry → List ℕ → ℕ
class_index pool name = index_or_none (found (is_class_of pool name) pool)

abbrev pub pair_index : List Entry → ℕ → ℕ → ℕ
pair_index pool name descriptor = index_or_none (found (is_pair name descriptor) pool)

abbrev pub ref_index : List Entry → ℕ → ℕ → ℕ
ref_index pool class member = index_or_none (found (is_ref class member) pool)

-- ---- adding: where none passes, the entry is added at the end

abbrev pub unless_found : Option ℕ → List Entry → List Entry → List Entry
unless_found (Some index) old new = old
unless_found None old new = new

unfoldable pub with_text : List ℕ → List Entry → List Entry
with_text units pool = unless_found (found (is_text units) pool) pool (pool ++ Utf8 units ∷ [])

unfoldable pub with_pair : ℕ → ℕ → List Entry → List Entry
with_pair name descriptor pool = unless_found (found (is_pair name descriptor) pool) pool (pool ++ NameAndType name descriptor ∷ [])

unfoldable pub with_ref : ℕ → ℕ → List Entry → List Entry
with_ref class member pool = unless_found (found (is_ref class member) pool) pool (pool ++ Methodref class member ∷ [])

-- a class after the text of its name
abbrev pub class_added : List ℕ → List Entry → List Entry
class_added name pool = pool ++ Class (text_index pool name) ∷ []

abbrev pub class_behind : List ℕ → List Entry → List Entry
class_behind name pool = unless_found (found (is_class_of pool name) pool) pool (class_added name pool)

unfoldable pub with_class : List ℕ → List Entry → List Entry
with_class name pool = unless_found (found (is_class_of pool name) pool) pool (class_behind name (with_text name pool))

-- ---- needs

-- a name with its descriptor, of a class
abbrev pub with_member : ℕ → ℕ → ℕ → List Entry → List Entry
with_member class name descriptor pool =
    let p = with_pair name descriptor pool in
    with_ref class (pair_index p name descriptor) p

abbrev pub with_call : ℕ → ℕ → List ℕ → List Entry → List Entry
with_call class name descriptor pool =
    let p = with_text descriptor pool in
    with_member class name (text_index p descriptor) p

abbrev pub with_method : List ℕ → List ℕ → List ℕ → List Entry → List Entry
with_method owner name descriptor pool =
    let p = with_class owner pool in
    let q = with_text name p in
    with_call (class_index q owner) (text_index q name) descriptor q

unfoldable pub with_need : List Entry → Need → List Entry
with_need pool (AText units) = with_text units pool
with_need pool (AClass name) = with_class name pool
with_need pool (AMethod owner name descriptor) = with_method owner name descriptor pool
with_need pool (ACall class name descriptor) = with_call class name descriptor pool

-- The pool with all that is needed, in this order.
unfoldable pub with_needs : List Entry → List Need → List Entry
with_needs pool [] = pool
with_needs pool (n ∷ ns) = with_needs (with_need pool n) ns

-- the index of what is needed
abbrev pub member_index : List Entry → ℕ → ℕ → ℕ → ℕ
member_index pool class name descriptor = ref_index pool class (pair_index pool name descriptor)

abbrev pub index_of : List Entry → Need → ℕ
index_of pool (AText units) = text_index pool units
index_of pool (AClass name) = class_index pool name
index_of pool (AMethod owner name descriptor) = member_index pool (class_index pool owner) (text_index pool name) (text_index pool descriptor)
index_of pool (ACall class name descriptor) = member_index pool class name (text_index pool descriptor)
