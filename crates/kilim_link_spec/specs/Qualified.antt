-- Qualifiers (own, after Srinivasan and Mycroft, "Kilim: Isolation-Typed Actors for Java", 2008).
use Rattle.std.specs.Prelude.{ℕ, Bool, true, false, ◌&&◌, ◌||◌, if◌then◌else◌, List, [], ◌∷◌, Option, Some, None, map, codes}
use Rattle.std.specs.List.{list_any, flat_map}
use Rattle.std.specs.Str.{bytes_eq}
use Rattle.kilim_class_descriptors.specs.declared.types.FieldText.{FieldText}
use Rattle.kilim_class_descriptors.specs.declared.types.MethodText.{MethodText}
use Rattle.kilim_program.specs.declared.class.Form.{Form}
use Rattle.kilim_program.specs.declared.class.Form.TheVariants.{Plain, Woven}
use Rattle.kilim_program.specs.declared.names.ClassId.{ClassId}
use Rattle.kilim_program.specs.declared.ty.Qualifier.{Qualifier}
use Rattle.kilim_program.specs.declared.ty.Qualifier.TheVariants.{Free, Cuttable, Safe}
use Rattle.kilim_program.specs.declared.ty.Ty.{Ty}
use Rattle.kilim_program.specs.Names.{is_task}
use Rattle.kilim_program.specs.Kinds.{class_kind, kind_of, is_tree_kind}
use Rattle.kilim_link_spec.specs.World.{World, DeclaredMethod, Marks, Stated, Annotated}
use Rattle.kilim_link_spec.specs.Types.{method_text, type_in}
pub use Rattle.kilim_link_spec.specs.declared.named.Qualified.{Qualified}

-- one of these annotations is of this type
abbrev pub names_one : List (List ℕ) → List ℕ → Bool
names_one types type = list_any (bytes_eq type) types

-- Free counts before Cuttable and Cuttable before Safe; without an annotation it is the default.
abbrev pub annotated_as : List (List ℕ) → Qualifier → Qualifier
annotated_as types default =
    if names_one types (codes "Lkilim/Free;") then Free
    else (if names_one types (codes "Lkilim/Cuttable;") then Cuttable
    else (if names_one types (codes "Lkilim/Safe;") then Safe
    else default))

-- ---- the receiver

-- in woven form `kilim/Fiber` is a class
abbrev pub has_fiber : Form → Bool
has_fiber Plain = false
has_fiber Woven = true

-- `execute()V`, in woven form also with the fiber as its argument
abbrev pub is_execute : Form → DeclaredMethod → Bool
is_execute form m =
    bytes_eq m.name (codes "execute")
    && (bytes_eq m.descriptor (codes "()V") || (has_fiber form && bytes_eq m.descriptor (codes "(Lkilim/Fiber;)V")))

-- In a task class the receiver of `execute` is cuttable, every other one is safe.
abbrev pub default_receiver : World → ClassId → DeclaredMethod → Qualifier
default_receiver w c m = if is_task w.outline c && is_execute w.form m then Cuttable else Safe

-- the name of a constructor (JVMS 2.9)
abbrev pub is_constructor_name : List ℕ → Bool
is_constructor_name name = bytes_eq name (codes "<init>")

-- A static method has no receiver: it is safe. That of a constructor is cuttable, always. A receiver that is no tree
-- is safe.
abbrev pub receiver_by : World → ClassId → DeclaredMethod → List (List ℕ) → Qualifier
receiver_by w c m types =
    if m.is_static then Safe
    else (if is_constructor_name m.name then Cuttable
    else (if is_tree_kind (class_kind w.outline c) then annotated_as types (default_receiver w c m)
    else Safe))

-- ---- parameters

-- a type that is there, and a tree
abbrev pub is_tree : World → Option Ty → Bool
is_tree w None = false
is_tree w (Some ty) = is_tree_kind (kind_of w.outline ty)

-- the qualifier of a parameter of this type, with these annotations on it
abbrev pub param_by : World → FieldText → List (List ℕ) → Qualifier
param_by w f types = if is_tree w (type_in w f) then annotated_as types Safe else Safe

-- what an attribute says of the first parameter
abbrev pub first_types : List (List (List ℕ)) → List (List ℕ)
first_types [] = []
first_types (types ∷ rest) = types

-- what it says of those behind that
abbrev pub behind_first : List (List (List ℕ)) → List (List (List ℕ))
behind_first [] = []
behind_first (types ∷ rest) = rest

-- the qualifiers of all parameters in order
abbrev pub params_by : World → List FieldText → List (List (List (List ℕ))) → List Qualifier
params_by w [] attributes = []
params_by w (f ∷ fs) attributes = param_by w f (flat_map first_types attributes) ∷ params_by w fs (map behind_first attributes)

-- the parameters of a descriptor; none where it is malformed
abbrev pub params_of : Option MethodText → List FieldText
params_of None = []
params_of (Some m) = m.params

-- ---- of a method that a class declares

-- those that are stated, or those by the annotations
abbrev pub qualified_by : World → ClassId → DeclaredMethod → Marks → Qualified
qualified_by w c m (Stated receiver params) = record { receiver = receiver; params = params }
qualified_by w c m (Annotated receiver params) = record { receiver = receiver_by w c m receiver; params = params_by w (params_of (method_text m.descriptor)) params }

-- The qualifiers of a method that a class declares.
unfoldable pub qualified : World → ClassId → DeclaredMethod → Qualified
qualified w c m = qualified_by w c m m.marks
