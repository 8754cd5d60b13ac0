-- Trees: the names of a tree's objects, a heap without them, and a new tree of a shape.
use Rattle.std.specs.Prelude.{ℕ, zero, suc, ◌+◌, ◌-◌, ℤ, pos, negsuc, int_lt, Bool, true, false, not, ◌&&◌, ◌||◌, ◌==◌, if◌then◌else◌, List, [], ◌∷◌, ◌++◌, Option, Some, None, length, codes}
use Rattle.std.specs.Str.{bytes_eq}
use Rattle.std.specs.FinMap.{get, insert, remove}
use Rattle.kilim_program.specs.Program.{Program}
use Rattle.kilim_program.specs.declared.names.ClassId.{ClassId}
use Rattle.kilim_program.specs.declared.names.FieldId.{FieldId}
use Rattle.kilim_program.specs.declared.ty.Base.{Base}
use Rattle.kilim_program.specs.declared.ty.Base.TheVariants as base
use Rattle.kilim_program.specs.declared.ty.Ty.{Ty}
use Rattle.kilim_run_state.specs.declared.value.Object.{Object}
use Rattle.kilim_run_state.specs.declared.value.Token.{Token}
use Rattle.kilim_run_state.specs.declared.value.Token.TheVariants as token
use Rattle.kilim_program.specs.declared.value.Value.{Value}
use Rattle.kilim_program.specs.declared.value.Value.TheVariants.{Int, Long, Null, Ref, Text, Box}
use Rattle.kilim_run_state.specs.Machine.{Objects}
use Rattle.std.specs.Ordering.{int_eq}
use Rattle.kilim_program.specs.Names.{◌>>=◌, class_named, class_at, field_of, is_task}
use Rattle.kilim_program.specs.Members.{named_type}
use Rattle.kilim_program.specs.Fits.{fits_type}
use Rattle.kilim_program.specs.Kinds.{is_value_class}
use Rattle.kilim_run_state.specs.Shapes.{tree_limit, field_in, fields_in_order}

-- ---- the names in a tree, in preorder

abbrev pub joined_names : {A : Type 0} → (A → List ℕ) → List A → List ℕ
joined_names names [] = []
joined_names names (x ∷ xs) = names x ++ joined_names names xs

abbrev pub names_where : (Value → List ℕ) → Option Value → List ℕ
names_where names None = []
names_where names (Some v) = names v

-- the values that an object holds, in order
abbrev pub content_names : Program → (Value → List ℕ) → Object → List ℕ
content_names p names object =
    if object.class.dims == 0 then joined_names (λ f. names_where names (field_in object.fields f)) (fields_in_order p object.class.base) else joined_names names object.elements

abbrev pub names_in : Program → (Value → List ℕ) → Option Object → List ℕ
names_in p names None = []
names_in p names (Some object) = content_names p names object

-- as `value_tokens` meets them
abbrev pub value_names : Program → Objects → ℕ → Value → List ℕ
value_names p heap zero v = []
value_names p heap (suc depth) (Ref n) = n ∷ names_in p (value_names p heap depth) (get heap n)
value_names p heap (suc depth) v = []

unfoldable pub tree_names : Program → Objects → ℕ → List ℕ
tree_names p heap n = value_names p heap tree_limit (Ref n)

-- a heap without these
abbrev pub without : Objects → List ℕ → Objects
without heap [] = heap
without heap (n ∷ ns) = remove (without heap ns) n

-- a heap with these, one behind the other
abbrev pub with_objects : Objects → ℕ → List Object → Objects
with_objects heap base [] = heap
with_objects heap base (object ∷ objects) = with_objects (insert heap base object) (suc base) objects

-- ---- a tree of a shape, its objects in preorder

-- what was read: a value, the objects of its tree, and the tokens behind it
pub record Read : Type 0 where
  pub value : Value
  pub objects : List Object
  pub rest : List Token

pub record Reads : Type 0 where
  pub values : List Value
  pub objects : List Object
  pub rest : List Token

-- the type of an array's or an object's name: dimensions first
abbrev pub base_named : Program → List ℕ → Option Base
base_named p name =
    if bytes_eq name (codes "Z") then Some base.Bool
    else (if bytes_eq name (codes "B") then Some base.Byte
    else (if bytes_eq name (codes "C") then Some base.Char
    else (if bytes_eq name (codes "S") then Some base.Short
    else (if bytes_eq name (codes "I") then Some base.Int
    else (if bytes_eq name (codes "J") then Some base.Long
    else None)))))

abbrev pub class_base : Option ClassId → Option Base
class_base None = None
class_base (Some c) = Some (base.Class c)

abbrev pub type_with : ℕ → Option Base → Option Ty
type_with dims None = None
type_with dims (Some b) = Some (record { dims = dims; base = b })

-- the name of a class in a descriptor ends before the last unit, the `;`
abbrev pub before_end : List ℕ → List ℕ
before_end [] = []
before_end (c ∷ []) = []
before_end (c ∷ d ∷ cs) = c ∷ before_end (d ∷ cs)

-- `[` begins an array's descriptor, `L` that of a class (JVMS 4.3.2)
abbrev pub bracket : ℕ
bracket = 91

abbrev pub class_letter : ℕ
class_letter = 76

-- the type of that many dimensions and more, by the rest of its descriptor
abbrev pub array_named : Program → ℕ → List ℕ → Option Ty
array_named p dims [] = None
array_named p dims (c ∷ cs) =
    if c == bracket then array_named p (suc dims) cs
    else (if c == class_letter then type_with dims (class_base (class_named p (before_end cs))) else type_with dims (base_named p (c ∷ cs)))

-- an object's class, or the type of an array, by the name under which it is shown
unfoldable pub type_named : Program → List ℕ → Option Ty
type_named p [] = None
type_named p (c ∷ cs) = if c == bracket then array_named p 1 cs else type_with 0 (class_base (class_named p (c ∷ cs)))

abbrev pub with_keys : List FieldId → List Value → List (FieldId × Value)
with_keys [] vs = []
with_keys (f ∷ fs) [] = []
with_keys (f ∷ fs) (v ∷ vs) = (f, v) ∷ with_keys fs vs

abbrev pub object_of : Program → Ty → List Value → Object
object_of p ty values =
    if ty.dims == 0 then record { class = ty; fields = with_keys (fields_in_order p ty.base) values; elements = [] }
    else record { class = ty; fields = []; elements = values }

-- the object that is closed here; its content stands behind it
abbrev pub closed : Program → ℕ → Option Ty → Option Reads → Option Read
closed p base None reads = None
closed p base (Some ty) None = None
closed p base (Some ty) (Some reads) = Some (record { value = Ref base; objects = object_of p ty reads.values ∷ reads.objects; rest = reads.rest })

abbrev pub behind : Read → Option Reads → Option Reads
behind first None = None
behind first (Some others) = Some (record { values = first.value ∷ others.values; objects = first.objects ++ others.objects; rest = others.rest })

abbrev pub and_then : Option Read → (Read → Option Reads) → Option Reads
and_then None go = None
and_then (Some first) go = behind first (go first)

abbrev pub leaf : Value → List Token → Option Read
leaf v rest = Some (record { value = v; objects = []; rest = rest })

-- Values up to the close, where at most so many tokens are read. An object's first free name is `base`.
abbrev mutual
  pub read_value : Program → ℕ → ℕ → List Token → Option Read
  read_value p zero base ts = None
  read_value p (suc fuel) base [] = None
  read_value p (suc fuel) base (token.Int n ∷ ts) = leaf (Int n) ts
  read_value p (suc fuel) base (token.Long n ∷ ts) = leaf (Long n) ts
  read_value p (suc fuel) base (token.Null ∷ ts) = leaf Null ts
  read_value p (suc fuel) base (token.Text units ∷ ts) = leaf (Text units) ts
  read_value p (suc fuel) base (token.Box box ∷ ts) = leaf (Box box) ts
  read_value p (suc fuel) base (token.Close ∷ ts) = None
  read_value p (suc fuel) base (token.Open name ∷ ts) = closed p base (type_named p name) (read_values p fuel (suc base) ts)

  pub read_values : Program → ℕ → ℕ → List Token → Option Reads
  read_values p zero base ts = None
  read_values p (suc fuel) base [] = None
  read_values p (suc fuel) base (token.Close ∷ ts) = Some (record { values = []; objects = []; rest = ts })
  read_values p (suc fuel) base (t ∷ ts) = and_then (read_value p fuel base (t ∷ ts)) (λ first. read_values p fuel (base + length first.objects) first.rest)

-- ---- the shapes of trees that a program's declared types allow

-- what is still to come in an object that isn't closed yet
pub data Awaits : Type 0 where
  Fields : (types : List Ty) → Awaits
  Elements : (type : Ty) → Awaits

abbrev pub int_fits : Base → ℤ → Bool
int_fits base.Bool x = int_eq x (pos 0) || int_eq x (pos 1)
int_fits base.Byte x = not (int_lt x (negsuc 127)) && int_lt x (pos 128)
int_fits base.Char x = not (int_lt x (pos 0)) && int_lt x (pos 65536)
int_fits base.Short x = not (int_lt x (negsuc 32767)) && int_lt x (pos 32768)
int_fits base.Int x = true
int_fits b x = false

abbrev pub is_long : Base → Bool
is_long base.Long = true
is_long b = false

abbrev pub is_class : Base → Bool
is_class (base.Class c) = true
is_class b = false

abbrev pub is_of : Program → Option Ty → Ty → Bool
is_of p None ty = false
is_of p (Some c) ty = fits_type p c ty

-- a value that is no object
abbrev pub value_fits : Program → Ty → Token → Bool
value_fits p ty (token.Int x) = ty.dims == 0 && int_fits ty.base x
value_fits p ty (token.Long x) = ty.dims == 0 && is_long ty.base
value_fits p ty token.Null = not (ty.dims == 0) || is_class ty.base
value_fits p ty (token.Text units) = is_of p (named_type p (codes "java/lang/String")) ty
value_fits p ty (token.Box box) = is_of p (named_type p (codes "kilim/Mailbox")) ty
value_fits p ty t = false

abbrev pub field_types : Program → List FieldId → List Ty
field_types p [] = []
field_types p (f ∷ fs) = elim (field_of p f) [ None ↦ field_types p fs | Some field ↦ field.ty ∷ field_types p fs ]

abbrev pub content_types : Program → Ty → Awaits
content_types p ty = if ty.dims == 0 then Fields (field_types p (fields_in_order p ty.base)) else Elements (record ty { dims = ty.dims - 1 })

-- a class that isn't abstract, nor that of strings or of mailboxes, which are values; or an array
abbrev pub is_whole_class : Program → Ty → Bool
is_whole_class p ty =
    elim ty.base [ base.Class c ↦ (elim (class_at p c) [ None ↦ false | Some class ↦ (not class.is_abstract && not (is_value_class class.name)) || not (ty.dims == 0) ]) | _ ↦ not (ty.dims == 0) ]

abbrev pub awaited : List Awaits → Option (Ty × List Awaits)
awaited (Fields (ty ∷ tys) ∷ rest) = Some (ty, Fields tys ∷ rest)
awaited (Elements ty ∷ rest) = Some (ty, Elements ty ∷ rest)
awaited stack = None

abbrev pub opened : Program → Option Ty → Ty × List Awaits → Option (List Awaits)
opened p None next = None
opened p (Some ty) next = if fits_type p ty next.0 && is_whole_class p ty then Some (content_types p ty ∷ next.1) else None

abbrev pub closed_one : List Awaits → Option (List Awaits)
closed_one (Fields [] ∷ rest) = Some rest
closed_one (Elements ty ∷ rest) = Some rest
closed_one stack = None

abbrev pub behind_token : Program → List Awaits → Token → Option (List Awaits)
behind_token p stack token.Close = closed_one stack
behind_token p stack (token.Open name) = awaited stack >>= opened p (type_named p name)
behind_token p stack t = awaited stack >>= λ next. if value_fits p next.0 t then Some next.1 else None

abbrev pub is_complete : List Awaits → Bool
is_complete (Fields [] ∷ []) = true
is_complete stack = false

abbrev pub allowed_from : Program → Option (List Awaits) → List Token → Bool
allowed_from p None ts = false
allowed_from p (Some stack) [] = is_complete stack
allowed_from p (Some stack) (t ∷ ts) = allowed_from p (behind_token p stack t) ts

-- what the root of a tree has to be
pub data Root : Type 0 where
  OfMessage : Root
  OfTask : Root

abbrev pub is_root_class : Program → Root → ClassId → Bool
is_root_class p OfMessage c = elim (class_at p c) [ None ↦ false | Some class ↦ class.message ]
is_root_class p OfTask c = is_task p c

abbrev pub is_root : Program → Root → Ty → Bool
is_root p root ty = ty.dims == 0 && elim ty.base [ base.Class c ↦ is_root_class p root c | _ ↦ false ]

abbrev pub allowed_below : Program → Root → Option Ty → List Token → Bool
allowed_below p root None ts = false
allowed_below p root (Some ty) ts = is_root p root ty && (is_whole_class p ty && allowed_from p (Some (content_types p ty ∷ Fields [] ∷ [])) ts)

-- A shape of one object, whose fields and elements have values of their declared types; no object is of an abstract
-- class, a string or a mailbox.
unfoldable pub is_allowed : Program → Root → List Token → Bool
is_allowed p root (token.Open name ∷ ts) = allowed_below p root (type_named p name) ts
is_allowed p root ts = false

-- the objects of a tree of this shape, the root first, under the names from `base` on
abbrev pub root_alone : Option Read → Option (List Object)
root_alone None = None
root_alone (Some read) = Some read.objects

unfoldable pub built : Program → Root → ℕ → List Token → Option (List Object)
built p root base shape = if is_allowed p root shape then root_alone (read_value p (suc (length shape)) base shape) else None
