-- How the slots of a frame, its graph and the heap go together.
use Rattle.std.specs.Prelude.{◌≡◌, ◌⊎◌, ℕ, zero, suc, ◌<◌, Bool, true, false, List, [], ◌∷◌, Option, Some, None, length, map, slice_get}
use Rattle.std.specs.FinMap.{get}
use Rattle.kilim_program.specs.declared.ty.Base.TheVariants as base
use Rattle.kilim_program.specs.declared.ty.Kind.TheVariants as kind
use Rattle.kilim_program.specs.declared.verified.VType.TheVariants as vtype
use Rattle.kilim_type_spec.specs.Step as type
use Rattle.kilim_program.specs.declared.class.Field.{Field}
use Rattle.kilim_program.specs.declared.class.Method.{Method}
use Rattle.kilim_program.specs.declared.names.ClassId.{ClassId}
use Rattle.kilim_program.specs.declared.names.FieldId.{FieldId}
use Rattle.kilim_program.specs.declared.ty.Base.{Base}
use Rattle.kilim_program.specs.declared.ty.Kind.{Kind}
use Rattle.kilim_program.specs.declared.ty.Ty.{Ty}
use Rattle.kilim_run_state.specs.declared.value.Object.{Object}
use Rattle.kilim_program.specs.declared.value.Value.{Value}
use Rattle.kilim_program.specs.declared.value.Value.TheVariants.{Int, Long, Null, Ref, Text, Box, Fiber}
use Rattle.kilim_program.specs.declared.verified.VType.{VType}
use Rattle.kilim_program.specs.Program.{Program}
use Rattle.kilim_program.specs.BuiltIn.{class_type}
use Rattle.kilim_run_state.specs.Machine.{Objects}
use Rattle.kilim_program.specs.Names.{field_of}
use Rattle.kilim_program.specs.Kinds.{base_kind, kind_of}
use Rattle.kilim_run_machine.specs.Effect.{is_wide}
use Rattle.kilim_run_state.specs.Shapes.{field_in}
use Rattle.kilim_run_machine.specs.Does.{element_type}
use Rattle.kilim_type_spec.specs.Step.{Types, peek, assignable, made_at}
use Rattle.kilim_isolation_laws.specs.forest.Heap.{Heap, IsForest}
use Rattle.kilim_isolation_laws.specs.forest.Relation.{is_gone, Label, Named, Frames}
use Rattle.kilim_isolation_laws.specs.forest.Steps.{IsTidy}
use Rattle.kilim_isolation_laws.specs.forest.Steps.{IsNearly_tidy}
use Rattle.kilim_isolation_laws.specs.forest.Canonical.{node_at}
pub use Rattle.kilim_isolation_laws.specs.forest.Laws.{IsPlace}
use Rattle.kilim_isolation_graph.specs.declared.graph.Graph.{Graph}
use Rattle.kilim_isolation_graph.specs.Graphs.{slot}
use Rattle.kilim_isolation_rules.specs.Marks.{mixes, stack_lives}

-- ---- sorts: what a slot of a verified type may hold

-- what the innermost elements of an array are
pub data Stuff : Type 0 where
  Longs : Stuff
  Words : Stuff
  Trees : Stuff

pub data Sort : Type 0 where
  -- Top
  Anything : Sort
  Wide : Sort
  -- another value, or null
  Word : Sort
  -- null, a value, or a private object
  Own : Sort
  -- null, or a tree object of a class, or an array of so many dimensions
  Tree : (dims : ℕ) (stuff : Stuff) → Sort

abbrev pub stuff_of : Program → Base → Kind → Stuff
stuff_of p base.Long k = Longs
stuff_of p b kind.Tree = Trees
stuff_of p b k = Words

abbrev pub sort_by : Program → Ty → Kind → Sort
sort_by p ty kind.Value = Word
sort_by p ty kind.Private = Own
sort_by p ty kind.Tree = Tree ty.dims (stuff_of p ty.base (base_kind p ty.base))

abbrev pub object_sort : Program → Ty → Sort
object_sort p ty = sort_by p ty (kind_of p ty)

abbrev pub made_sort : Program → Option ClassId → Sort
made_sort p None = Anything
made_sort p (Some c) = object_sort p (class_type c.0)

unfoldable pub sort : Program → Method → VType → Sort
sort p m vtype.Top = Anything
sort p m vtype.Int = Word
sort p m vtype.Long = Wide
sort p m vtype.Null = Word
sort p m vtype.UninitThis = object_sort p (class_type m.owner.0)
sort p m (vtype.Uninit at) = made_sort p (made_at m.code at)
sort p m (vtype.Object ty) = object_sort p ty

-- of a field, an element, a parameter or a result
abbrev pub sort_of_vtype : Program → VType → Sort
sort_of_vtype p vtype.Int = Word
sort_of_vtype p vtype.Long = Wide
sort_of_vtype p (vtype.Object ty) = object_sort p ty
sort_of_vtype p t = Anything

abbrev pub type_sort : Program → Ty → Sort
type_sort p ty = sort_of_vtype p (type.vtype ty)

abbrev pub field_sort_of : Program → Option Field → Sort
field_sort_of p None = Word
field_sort_of p (Some field) = type_sort p field.ty

abbrev pub field_sort : Program → FieldId → Sort
field_sort p f = field_sort_of p (field_of p f)

-- ---- objects

-- the object that a value names
abbrev pub refers : Value → Option ℕ
refers (Ref n) = Some n
refers (Int x) = None
refers (Long x) = None
refers Null = None
refers (Text units) = None
refers (Box box) = None
refers Fiber = None

abbrev pub refers_in : Option Value → Option ℕ
refers_in None = None
refers_in (Some v) = refers v

abbrev pub IsOf : Program → Objects → ℕ → Sort → Type 0
IsOf p h o s = (object : Object) × (get h o ≡ Some object) × (object_sort p object.class ≡ s)

-- a value of a sort
abbrev pub Fits : Program → Objects → Sort → Value → Type 0
Fits p h Anything v = Unit {0}
Fits p h Wide v = is_wide v ≡ true
Fits p h Word v = (is_wide v ≡ false) × (refers v ≡ None)
Fits p h Own v = (is_wide v ≡ false) × ((o : ℕ) → refers v ≡ Some o → IsOf p h o Own)
Fits p h (Tree dims stuff) v = (is_wide v ≡ false) × ((o : ℕ) → refers v ≡ Some o → IsOf p h o (Tree dims stuff))

-- a tree holds no private objects, and a private object no trees
abbrev pub MayHold : Sort → Sort → Type 0
MayHold (Tree dims stuff) (Tree d x) = Unit {0}
MayHold holder (Tree d x) = ⊥
MayHold Own Own = Unit {0}
MayHold holder Own = ⊥
MayHold holder s = Unit {0}

pub record ObjectFits (p : Program) (h : Objects) (object : Object) : Type 0 where
  pub fields : (f : FieldId) (v : Value) → field_in object.fields f ≡ Some v → Fits p h (field_sort p f) v × MayHold (object_sort p object.class) (field_sort p f)
  pub elements : (k : ℕ) (v : Value) → slice_get object.elements k ≡ Some v →
      Fits p h (type_sort p (element_type object.class)) v × MayHold (object_sort p object.class) (type_sort p (element_type object.class))

abbrev pub HeapFits : Program → Objects → Type 0
HeapFits p h = (o : ℕ) (object : Object) → get h o ≡ Some object → ObjectFits p h object

-- ---- the heap seen for trees: fields stand at even places, elements at odd ones

-- half of a place, and whether it is odd
abbrev pub half : ℕ → Bool × ℕ
half zero = (false, 0)
half (suc zero) = (true, 0)
half (suc (suc n)) = ((half n).0, suc (half n).1)

abbrev pub field_id : ℕ → FieldId
field_id n = record { 0 = n }

abbrev pub held_by : Object → Bool × ℕ → Option ℕ
held_by object (false, n) = refers_in (field_in object.fields (field_id n))
held_by object (true, n) = refers_in (slice_get object.elements n)

abbrev pub tree_held : Object → Sort → ℕ → Option ℕ
tree_held object (Tree dims stuff) i = held_by object (half i)
tree_held object s i = None

abbrev pub held_at : Program → Option Object → ℕ → Option ℕ
held_at p None i = None
held_at p (Some object) i = tree_held object (object_sort p object.class) i

abbrev pub is_tree_sort : Sort → Bool
is_tree_sort (Tree dims stuff) = true
is_tree_sort s = false

abbrev pub is_tree_object : Program → Option Object → Bool
is_tree_object p None = false
is_tree_object p (Some object) = is_tree_sort (object_sort p object.class)

abbrev pub trees : Program → Objects → Heap
trees p h = record { has = λ o. is_tree_object p (get h o); to = λ o i. held_at p (get h o) i }

-- ---- slots

-- a tree in a slot that names no node is null
abbrev pub unnamed : Sort → Sort
unnamed (Tree dims stuff) = Word
unnamed s = s

-- what names a node is no private object
abbrev pub named_sort : Sort → Sort
named_sort Own = Word
named_sort s = s

-- A slot of a sort, what it names, and its value. Of a slot that names a gone node no more is known than that the value
-- is what the node stood for.
abbrev pub SlotFits : Program → Objects → Named → ℕ → Sort → Option ℕ → Value → Type 0
SlotFits p h u count s None v = Fits p h (unnamed s) v
SlotFits p h u count s (Some n) v = (refers v ≡ u.at n) × (n < count) × (is_gone (u.node n).standing ≡ false → Fits p h (named_sort s) v)

abbrev pub AreSlots : Program → Method → Objects → Named → ℕ → List VType → List (Option ℕ) → List Value → Type 0
AreSlots p m h u count [] [] [] = Unit {0}
AreSlots p m h u count (t ∷ ts) (x ∷ xs) (v ∷ vs) = SlotFits p h u count (sort p m t) x v × AreSlots p m h u count ts xs vs
AreSlots p m h u count ts xs vs = ⊥

-- the value of a local; one past the end is never read
abbrev pub value_at : List Value → ℕ → Value
value_at [] k = Null
value_at (v ∷ vs) zero = v
value_at (v ∷ vs) (suc k) = value_at vs k

abbrev pub named_by : Graph → (ℕ → Option ℕ) → Named
named_by g at = record { node = node_at g.nodes; at = at }

-- the slots of a frame, with its verified types and its graph; `at` gives the object that a node stands for
pub record SlotsFit (p : Program) (m : Method) (f : Types) (g : Graph) (at : ℕ → Option ℕ) (h : Objects) (locals stack : List Value) : Type 0 where
  pub on_stack : AreSlots p m h (named_by g at) (length g.nodes) f.stack g.stack stack
  pub in_locals : (k : ℕ) → SlotFits p h (named_by g at) (length g.nodes) (sort p m (peek f.locals k)) (slot g.locals k) (value_at locals k)

-- ---- frames

-- a frame that waits for the result of a call, with the graph right after the call
pub record Waiting : Type 0 where
  pub method : Method
  pub types : Types
  pub graph : Graph
  pub at : ℕ → Option ℕ
  pub locals : List Value
  pub stack : List Value

abbrev pub waiting_named : Waiting → Named
waiting_named w = named_by w.graph w.at

pub record WaitFits (p : Program) (h : Objects) (w : Waiting) : Type 0 where
  pub slots : SlotsFit p w.method w.types w.graph w.at h w.locals w.stack
  pub tidy : IsNearly_tidy (node_at w.graph.nodes)
  -- known parents are nodes of the graph
  pub within : (n k : ℕ) (l : Label) → (node_at w.graph.nodes k).parent ≡ Some (n, l) → n < length w.graph.nodes

abbrev pub AllWait : Program → Objects → List Waiting → Type 0
AllWait p h [] = Unit {0}
AllWait p h (w ∷ ws) = WaitFits p h w × AllWait p h ws

-- The top frame, those below it, and the heap. (The graph may be one that isn't canonical yet.)
pub record Holds (p : Program) (m : Method) (f : Types) (g : Graph) (at : ℕ → Option ℕ) (h : Objects) (locals stack : List Value) (below : List Waiting) : Type 0 where
  pub heap : HeapFits p h
  pub forest : IsForest (trees p h)
  pub frames : Frames IsPlace (trees p h) (named_by g at ∷ map waiting_named below)
  pub tidy : IsNearly_tidy (node_at g.nodes)
  pub slots : SlotsFit p m f g at h locals stack
  pub waits : AllWait p h below

-- A frame at a place, with the graph that comes there: in its canonical form, and nothing on the stack is gone.
pub record Stands (p : Program) (m : Method) (f : Types) (g : Graph) (at : ℕ → Option ℕ) (h : Objects) (locals stack : List Value) (below : List Waiting) : Type 0 where
  pub holds : Holds p m f g at h locals stack below
  pub tidy : IsTidy (node_at g.nodes)
  pub live : stack_lives g ≡ true

-- ---- what is asked of the program's classes

abbrev pub IsReference : Sort → Type 0
IsReference Own = Unit {0}
IsReference (Tree dims stuff) = Unit {0}
IsReference s = ⊥

-- a slot of one sort may become one of the other
abbrev pub FlowsTo : Sort → Sort → Type 0
FlowsTo s to = (to ≡ Anything) ⊎ ((s ≡ Word) × IsReference to ⊎ (s ≡ to))

abbrev pub KindsFlow : Program → Type 0
KindsFlow p = (m : Method) (t to : VType) → assignable p t to ≡ true → mixes p t to ≡ false → FlowsTo (sort p m t) (sort p m to)
