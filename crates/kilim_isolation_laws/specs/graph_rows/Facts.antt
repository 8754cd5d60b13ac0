-- Facts of a program that the rows rest on, and the laws of the rows that are proved.
use Rattle.std.specs.Prelude.{◌≡◌, ◌⊎◌, ◌<◌, ℕ, true, false, List, [], ◌∷◌, Option, Some, None, Ok, codes, length, slice_get}
use Rattle.std.specs.FinMap.{get}
use Rattle.std.specs.List.{list_all}
use Rattle.kilim_program.specs.declared.class.Method.{Method}
use Rattle.kilim_program.specs.declared.instr.Instr.{Instr}
use Rattle.kilim_program.specs.declared.names.ClassId.{ClassId}
use Rattle.kilim_program.specs.declared.names.FieldId.{FieldId}
use Rattle.kilim_program.specs.declared.names.MethodId.{MethodId}
use Rattle.kilim_program.specs.declared.ty.Ty.{Ty}
use Rattle.kilim_run_state.specs.declared.value.Object.{Object as HeapObject}
use Rattle.kilim_program.specs.declared.value.Value.{Value}
use Rattle.kilim_program.specs.declared.value.Value.TheVariants.{Ref}
use Rattle.kilim_program.specs.declared.verified.VType.{VType}
use Rattle.kilim_program.specs.Program.{Program}
use Rattle.kilim_program.specs.BuiltIn.{class_type, message_field, plain_type}
use Rattle.kilim_program.specs.Kinds.{class_kind, kind_of}
use Rattle.kilim_program.specs.declared.ty.Base.TheVariants as base
use Rattle.kilim_program.specs.declared.ty.Kind.TheVariants as kind
use Rattle.kilim_program.specs.declared.ty.Qualifier.TheVariants as qualifier
use Rattle.kilim_program.specs.declared.value.Value.TheVariants as value
use Rattle.kilim_program.specs.declared.verified.VType.TheVariants.{Int, Null, Object}
use Rattle.kilim_run_machine.specs.Effect.{is_wide}
use Rattle.kilim_program.specs.Members.{named_type}
use Rattle.kilim_run_machine.specs.Natives.{is_get_message, is_handed_out, is_message_constructor, is_text_method}
use Rattle.kilim_run_state.specs.Machine.{Objects}
use Rattle.kilim_program.specs.Names.{class_at, class_name, class_named, field_of, method_at}
use Rattle.kilim_program.specs.Keeps.{constant_fits}
use Rattle.kilim_program.specs.declared.class.Field.{Field}
use Rattle.kilim_program.specs.declared.instr.Instr.TheVariants.{Anewarray, Newarray}
use Rattle.std.specs.Str.{bytes_eq}
use Rattle.kilim_program.specs.Lengths.{fetched, is_primitive, is_reference}
use Rattle.kilim_run_machine.specs.Does.{does, chosen, special}
use Rattle.kilim_run_state.specs.Shapes.{field_in}
use Rattle.kilim_run_state.specs.Objects.{new_object}
use Rattle.kilim_type_spec.specs.Step.{Types, is_long, may_name, peek, special_fits, superclass_at, type_step, vtype}
use Rattle.kilim_type_spec.specs.Typed.{edges}
use Rattle.kilim_isolation_laws.specs.forest.Heap.{Below, IsForest}
use Rattle.kilim_isolation_laws.specs.forest.Relation.{Label, Names, Root}
use Rattle.kilim_isolation_laws.specs.forest.Steps.{gone_node}
use Rattle.kilim_isolation_laws.specs.forest.Canonical.{node_at}
use Rattle.kilim_isolation_graph.specs.declared.graph.Graph.{Graph}
use Rattle.kilim_program.specs.Same.{is_constructor, same_qualifier}
use Rattle.kilim_program.specs.Fits.{fits_type}
use Rattle.kilim_isolation_rules.specs.Rules.{moves, raised_deed}
use Rattle.kilim_isolation_graph.specs.Entry.{quality}
use Rattle.kilim_isolation_graph.specs.Graphs.{changed, node_of, added}
use Rattle.kilim_isolation_rules.specs.Marks.{root_node}
use Rattle.kilim_run_machine.specs.Raising.{is_throwable}
use Rattle.kilim_isolation_laws.specs.graph_rows.Holds.{Holds, Waiting, Stands, KindsFlow, MayHold, Stuff, Tree, Word, IsOf, ObjectFits, AreSlots, named_by, sort, object_sort, field_sort, type_sort, trees}
use Rattle.kilim_isolation_laws.specs.graph_rows.Outcome.{Left, EffectHolds}

-- the method that runs agrees with the one that the code names
pub record Agrees (p : Program) (named callee : Method) : Type 0 where
  pub params : callee.params ≡ named.params
  pub qualifiers : callee.qualifiers ≡ named.qualifiers
  pub result : callee.result ≡ named.result
  pub instance : callee.is_static ≡ false
  pub plain : is_constructor callee ≡ false
  pub quality_is : quality p (class_type callee.owner.0) callee.receiver ≡ quality p (class_type named.owner.0) named.receiver
  pub sort_is : type_sort p (class_type callee.owner.0) ≡ type_sort p (class_type named.owner.0)
  pub sized : length callee.qualifiers ≡ length callee.params

-- what a call on an object selects, and what invokespecial does
pub record ChoosesWell (p : Program) : Type 0 where
  pub selects : (id : MethodId) (named : Method) → method_at p id ≡ Some named → named.is_static ≡ false → is_constructor named ≡ false → (c : Ty) →
      fits_type p c (class_type named.owner.0) ≡ true → (callee : Method) × (method_at p (chosen p named id c) ≡ Some callee) × Agrees p named callee
  pub specials : (own : Method) (id : MethodId) (named : Method) → method_at p id ≡ Some named → named.is_static ≡ false → is_constructor named ≡ false → may_name own named.is_private named.owner ≡ true → special_fits p own id named ≡ true →
      (callee : Method) × (method_at p (special p own named id) ≡ Some callee) × Agrees p named callee

-- the element of an array of trees is taken out of it
pub record IsTake (p : Program) (named : Method) : Type 0 where
  pub class : ClassId
  pub params : named.params ≡ record { dims = 1; base = base.Class class } ∷ plain_type base.Int ∷ []
  pub result : named.result ≡ Some (class_type class.0)
  pub qualifiers : named.qualifiers ≡ qualifier.Cuttable ∷ qualifier.Safe ∷ []
  pub tree : class_kind p class ≡ kind.Tree

-- facts of a program's classes and members
pub record ProgramKeeps (p : Program) : Type 0 where
  pub flow : KindsFlow p
  pub through : (a b c : Ty) → fits_type p a b ≡ true → fits_type p b c ≡ true → fits_type p a c ≡ true
  pub choose : ChoosesWell p
  pub sized : (id : MethodId) (named : Method) → method_at p id ≡ Some named → length named.qualifiers ≡ length named.params
  pub may : (c : ClassId) (k : FieldId) (v : Value) → field_in (new_object p c).fields k ≡ Some v → MayHold (object_sort p (class_type c.0)) (field_sort p k)
  -- a method of strings answers an int
  pub texts : (id : MethodId) (named : Method) → method_at p id ≡ Some named → is_text_method p named ≡ true → named.is_static ≡ false → is_constructor named ≡ false →
      (ty : Ty) × (named.result ≡ Some ty) × (vtype ty ≡ Int) × (kind_of p ty ≡ kind.Value)
  -- the message of an exception is a value: as a field, as what is handed to be kept, and as what is given
  pub message : field_sort p message_field ≡ Word
  pub keeps_messages : (id : MethodId) (named : Method) → method_at p id ≡ Some named → is_message_constructor named ≡ true → (ty : Ty) × (named.params ≡ ty ∷ []) × (type_sort p ty ≡ Word)
  pub gives_messages : (id : MethodId) (named : Method) → method_at p id ≡ Some named → is_get_message named ≡ true →
      (ty : Ty) × (named.result ≡ Some ty) × (type_sort p ty ≡ Word) × (kind_of p ty ≡ kind.Value)
  -- a static built-in method that isn't handed out is `Sys.take`
  pub takes : (id : MethodId) (named : Method) → method_at p id ≡ Some named → named.built_in ≡ true → named.is_static ≡ true → is_handed_out p named ≡ false → IsTake p named
  -- a class that is found by the name of strings has it
  pub text : (c : ClassId) → class_named p (codes "java/lang/String") ≡ Some c → bytes_eq (class_name p c) (codes "java/lang/String") ≡ true
  -- a static field has a constant of its type
  pub constants : (x : FieldId) (field : Field) → field_of p x ≡ Some field → field.is_static ≡ true → constant_fits p field.ty field.constant ≡ true
  -- a superclass is of its subclass's sort, or it is private and has built-in methods alone
  pub above : (c up : ClassId) → superclass_at (class_at p c) ≡ Some up → (object_sort p (class_type up.0) ≡ object_sort p (class_type c.0)) ⊎
      ((class_kind p up ≡ kind.Private) × ((id : MethodId) (named : Method) → method_at p id ≡ Some named → named.owner.0 ≡ up.0 → named.built_in ≡ true))
  -- a built-in constructor gives nothing, has a cuttable receiver, and is handed nothing to keep
  pub constructors : (id : MethodId) (named : Method) → method_at p id ≡ Some named → named.built_in ≡ true → is_constructor named ≡ true →
      (named.result ≡ None) × (named.receiver ≡ qualifier.Cuttable) × (list_all (same_qualifier qualifier.Safe) named.qualifiers ≡ true)
  -- what can be thrown is private
  pub thrown : (c : ClassId) → is_throwable p c ≡ true → kind_of p (class_type c.0) ≡ kind.Private

-- ---- the classes of what lies on the stack

abbrev pub class_in : Option HeapObject → Option Ty
class_in None = None
class_in (Some object) = Some object.class

-- of which class or array type a value is; a number and null are of none
abbrev pub class_of : Program → Objects → Value → Option Ty
class_of p h (value.Int x) = None
class_of p h (value.Long x) = None
class_of p h value.Null = None
class_of p h (value.Ref n) = class_in (get h n)
class_of p h (value.Text units) = named_type p (codes "java/lang/String")
class_of p h (value.Box box) = named_type p (codes "kilim/Mailbox")
class_of p h value.Fiber = named_type p (codes "kilim/Fiber")

-- what is of that class may be of that verified type
abbrev pub IsOfType : Program → VType → Ty → Type 0
IsOfType p (Object ty) c = fits_type p c ty ≡ true
IsOfType p Null c = ⊥
IsOfType p t c = Unit {0}

abbrev pub AreOf : Program → Objects → List VType → List Value → Type 0
AreOf p h ts vs = (k : ℕ) (v : Value) (c : Ty) → slice_get vs k ≡ Some v → class_of p h v ≡ Some c → IsOfType p (peek ts k) c

-- the elements of a new array are of a primitive type, or of a class or array type
abbrev pub IsWhole : Instr → Type 0
IsWhole (Newarray element) = is_primitive element ≡ true
IsWhole (Anewarray ty) = is_reference ty ≡ true
IsWhole i = Unit {0}

-- what verification gives besides: an item of the stack is a long where its type is, and an object is of a class that its type allows
pub record IsVerified (p : Program) (h : Objects) (ts : List VType) (vs : List Value) (i : Instr) : Type 0 where
  pub words : (k : ℕ) (v : Value) → slice_get vs k ≡ Some v → is_long (peek ts k) ≡ is_wide v
  pub classes : AreOf p h ts vs
  pub whole : IsWhole i

-- ---- the laws

-- the heap without exactly the objects at and below one of them
pub record IsGivenAway (p : Program) (h h' : Objects) (o : ℕ) : Type 0 where
  pub out : (x : ℕ) → Below (trees p h) o x → get h' x ≡ None
  pub rest : (x : ℕ) → Below (trees p h) o x ⊎ (get h' x ≡ get h x)

-- a tree with that root came into the heap, under new names
pub record IsTaken (p : Program) (h h' : Objects) (n dims : ℕ) (stuff : Stuff) : Type 0 where
  pub old : (x : ℕ) (object : HeapObject) → get h x ≡ Some object → get h' x ≡ Some object
  pub fits : (x : ℕ) (object : HeapObject) → get h x ≡ None → get h' x ≡ Some object → ObjectFits p h' object
  pub forest : IsForest (trees p h')
  pub apart : (x i y : ℕ) → get h x ≡ None → (trees p h').to x i ≡ Some y → get h y ≡ None
  pub fresh : get h n ≡ None
  pub root : (q i : ℕ) → (trees p h').to q i ≡ Some n → ⊥
  pub is : IsOf p h' n (Tree dims stuff)

-- what an instruction leaves that the type step and the rules let pass, in a frame that stands
abbrev pub RowsHold : Type 0
RowsHold = (p : Program) → ProgramKeeps p → (m : Method) (pl to : ℕ) (f f1 : Types) (g g1 : Graph) (at : ℕ → Option ℕ) (h : Objects) (ls st : List Value) (below : List Waiting) (after : Option Types) (i : Instr) →
    Stands p m f g at h ls st below → IsVerified p h f.stack st i → type_step p m pl i f ≡ Ok f1 → moves p m g f i after ≡ Ok g1 → fetched m.code m.code_length pl ≡ Some (i, to) →
    EffectHolds p m (edges i to) f1 g1 at below h g.nodes to f (raised_deed p g f i).graph (does p m i to ls st h)

-- a put or a start
abbrev pub GivesKeep : Type 0
GivesKeep = (p : Program) (m : Method) (f : Types) (g : Graph) (at : ℕ → Option ℕ) (h h' : Objects) (ls st : List Value) (below : List Waiting) → Stands p m f g at h ls st below → (nb o : ℕ) → Names (named_by g at) nb o →
    (node_at g.nodes nb).standing ≡ Root → IsGivenAway p h h' o → (ts : List VType) (xs : List (Option ℕ)) (rest : List Value) → AreSlots p m h (named_by g at) (length g.nodes) ts xs rest →
    Left p m (record f { stack = ts }) (changed (gone_node (node_of g) nb) (record g { stack = xs })) h' ls rest below

-- a take
abbrev pub TakesKeep : Type 0
TakesKeep = (p : Program) (m : Method) (f : Types) (g : Graph) (at : ℕ → Option ℕ) (h h' : Objects) (ls st : List Value) (below : List Waiting) → Holds p m f g at h ls st below →
    ((n k : ℕ) (l : Label) → (node_at g.nodes k).parent ≡ Some (n, l) → n < length g.nodes) → (n dims : ℕ) (stuff : Stuff) → IsTaken p h h' n dims stuff → (t : VType) → sort p m t ≡ Tree dims stuff →
    Left p m (record f { stack = t ∷ f.stack }) (added (root_node g) g) h' ls (Ref n ∷ st) below
