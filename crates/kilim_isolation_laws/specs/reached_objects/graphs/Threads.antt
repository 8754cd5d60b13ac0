-- A thread's frames in accepted code: each stands with a graph that reaches its place, and each lower one waits for the result of a
-- call, with the graph right after the call.
use Rattle.std.specs.Prelude.{◌≡◌, ◌⊎◌, ℕ, Bool, true, false, List, [], ◌∷◌, ◌++◌, Option, Some, None, Ok}
use Rattle.std.specs.FinMap.{get, insert}
use Rattle.kilim_program.specs.declared.class.Handler.{Handler}
use Rattle.kilim_program.specs.declared.class.Method.{Method}
use Rattle.kilim_run_state.specs.declared.value.Object.{Object}
use Rattle.kilim_program.specs.declared.names.ClassId.{ClassId}
use Rattle.kilim_program.specs.declared.instr.Instr.{Instr}
use Rattle.kilim_program.specs.declared.names.BoxName.{BoxName}
use Rattle.kilim_program.specs.declared.names.MethodId.{MethodId}
use Rattle.kilim_program.specs.declared.ty.Kind.TheVariants as kind
use Rattle.kilim_program.specs.declared.ty.Qualifier.TheVariants as qualifier
use Rattle.kilim_program.specs.declared.ty.Ty.{Ty}
use Rattle.kilim_program.specs.declared.value.Value.{Value}
use Rattle.kilim_program.specs.declared.value.Value.TheVariants.{Box, Ref}
use Rattle.kilim_program.specs.declared.verified.Frame.{Frame}
use Rattle.kilim_program.specs.Program.{Program}
use Rattle.kilim_program.specs.BuiltIn.{built_in_constructor, class_id, class_type}
use Rattle.kilim_program.specs.Kinds.{kind_of}
use Rattle.kilim_program.specs.Lengths.{fetched}
use Rattle.kilim_program.specs.Names.{method_at}
use Rattle.kilim_run_state.specs.Machine.{Activation, Objects, stands_behind}
use Rattle.kilim_run_state.specs.Objects.{new_object}
use Rattle.kilim_run_machine.specs.Moves.{Move, entered, moves, push_value}
use Rattle.kilim_run_machine.specs.Moves as move
use Rattle.kilim_type_spec.specs.Step.{Types, class_vtype, peek, result_types, type_step}
use Rattle.kilim_type_spec.specs.Typed.{Among, FlowsInto, covers, declared, edges, entry, has_code, no_types}
use Rattle.kilim_isolation_laws.specs.forest.Heap.{IsForest}
use Rattle.kilim_isolation_laws.specs.forest.Relation.{Safe}
use Rattle.kilim_isolation_paths.specs.Paths.{Has, Reaches}
use Rattle.kilim_run_machine.specs.Raising.{catches_class, is_throwable, thrown, unwound}
use Rattle.kilim_isolation_graph.specs.declared.entry.Parameter.{Parameter}
use Rattle.kilim_isolation_graph.specs.declared.graph.Graph.{Graph}
use Rattle.kilim_isolation_graph.specs.Canonical.{canonical_at}
use Rattle.kilim_isolation_graph.specs.Entry.{parameters_of, quality}
use Rattle.kilim_isolation_rules.specs.Calls.{given_result, is_owned, handler_graph}
use Rattle.kilim_isolation_rules.specs.Marks.{flow_mixes, stack_lives}
use Rattle.kilim_isolation_rules.specs.Rules as rules
use Rattle.kilim_isolation_rules.specs.Rules.{deed, raised_deed}
use Rattle.kilim_isolation.specs.Walks.{declared_to, entry_graph, exits_by, machine_of}
use Rattle.kilim_isolation_laws.specs.graph_rows.Holds.{Fits, HeapFits, IsOf, ObjectFits, Own, Stands, held_by, sort, Tree, Trees, Waiting, object_sort, refers, trees, type_sort}
use Rattle.kilim_isolation_laws.specs.graph_rows.Facts.{IsGivenAway, IsTaken, IsVerified, ProgramKeeps}

-- the verified frames of each method, by place, and the frames over which the rules walk, in code order
abbrev pub Typings : Type 0
Typings = MethodId → ℕ → Types

abbrev pub Listed : Type 0
Listed = MethodId → List Frame

-- ---- what verification and the rules give

-- the frame at a place is the one that flows there, or the one that is declared there
abbrev pub Becomes : Program → Types → Option Types → Types → Type 0
Becomes p flow None f = f ≡ flow
Becomes p flow (Some d) f = (f ≡ d) × FlowsInto p flow d

pub record TypesFlow (p : Program) (m : Method) (typing : ℕ → Types) : Type 0 where
  pub begins : Becomes p (entry m) (declared m 0) (typing 0)
  pub goes : (at to : ℕ) (i : Instr) → fetched m.code m.code_length at ≡ Some (i, to) →
      (flow : Types) × (type_step p m at i (typing at) ≡ Ok flow) × ((next : ℕ) → Among (edges i to) next → Becomes p flow (declared m next) (typing next))

-- a graph that reaches a place passes the instruction there, on the way to an exit
pub record Passes (p : Program) (m : Method) (typing : ℕ → Types) (fs : List Frame) (first : Graph) (at : ℕ) (g : Graph) (i : Instr) (to : Option ℕ) : Type 0 where
  pub passed : rules.moves p m g (typing at) i (declared_to m to) ≡ Ok (deed p m g (typing at) i).graph
  pub arrives : (q : ℕ) → to ≡ Some q → Reaches (machine_of p m fs first) q (canonical_at (declared m q) (deed p m g (typing at) i).graph)

-- A handler that covers an instruction, with the locals' types before it: the graph along the edge reaches it, and what flows there, with an
-- object of a class that it catches alone on the stack, is assignable to the frame that is declared there and mixes no kinds.
pub record Handled (p : Program) (m : Method) (typing : ℕ → Types) (fs : List Frame) (first : Graph) (f : Types) (g : Graph) (hd : Handler) : Type 0 where
  pub reaches : Reaches (machine_of p m fs first) hd.at (canonical_at (declared m hd.at) g)
  pub types : (c : ClassId) → is_throwable p c ≡ true → catches_class p hd.catch c ≡ true → Becomes p (record f { stack = class_vtype c ∷ [] }) (declared m hd.at) (typing hd.at)
  pub flow : (c : ClassId) → is_throwable p c ≡ true → (d : Types) → declared m hd.at ≡ Some d → flow_mixes p (record f { stack = class_vtype c ∷ [] }) d ≡ false

pub record MethodKeeps (p : Program) (m : Method) (typing : ℕ → Types) (fs : List Frame) : Type 0 where
  pub flow : TypesFlow p m typing
  pub begins : (first : Graph) × (entry_graph p m ≡ Ok first)
  pub passes : (first : Graph) → entry_graph p m ≡ Ok first → (at : ℕ) (g : Graph) → Reaches (machine_of p m fs first) at g → (i : Instr) (next : ℕ) → fetched m.code m.code_length at ≡ Some (i, next) →
      (to : Option ℕ) → Has (exits_by i next) to → Passes p m typing fs first at g i to
  pub handled : (first : Graph) → entry_graph p m ≡ Ok first → (at : ℕ) (g : Graph) → Reaches (machine_of p m fs first) at g → (i : Instr) (next : ℕ) → fetched m.code m.code_length at ≡ Some (i, next) →
      (hd : Handler) → Has m.handlers hd → covers hd at ≡ true → Handled p m typing fs first (typing at) (raised_deed p g (typing at) i).graph hd
  -- the instruction behind which its next place stands is this one: places increase
  pub behind : (at next : ℕ) (i : Instr) → fetched m.code m.code_length at ≡ Some (i, next) → stands_behind m.code m.code_length next ≡ Some (at, i)

-- what is true of the program and of each method with code
pub record IsSound (p : Program) (typings : Typings) (listed : Listed) : Type 0 where
  pub keeps : ProgramKeeps p
  pub methods : (id : MethodId) (m : Method) → method_at p id ≡ Some m → has_code m ≡ true → MethodKeeps p m (typings id) (listed id)

-- ---- the frames

-- the top frame
pub record TopFits (p : Program) (typings : Typings) (listed : Listed) (h : Objects) (a : Activation) (below : List Waiting) (result : Option Ty) : Type 0 where
  pub method : Method
  pub is : method_at p a.method ≡ Some method
  pub coded : has_code method ≡ true
  pub gives : method.result ≡ result
  pub first : Graph
  pub begins : entry_graph p method ≡ Ok first
  pub graph : Graph
  pub reaches : Reaches (machine_of p method (listed a.method) first) a.place graph
  pub at : ℕ → Option ℕ
  pub stands : Stands p method (typings a.method a.place) graph at h a.locals a.stack below

-- A frame that waits for a result of that type: once it is there, the graph is one that reaches its place.
pub record Waits (p : Program) (typings : Typings) (listed : Listed) (a : Activation) (w : Waiting) (gets gives : Option Ty) : Type 0 where
  pub is : method_at p a.method ≡ Some w.method
  pub coded : has_code w.method ≡ true
  pub result : w.method.result ≡ gives
  pub locals : w.locals ≡ a.locals
  pub stack : w.stack ≡ a.stack
  pub first : Graph
  pub begins : entry_graph p w.method ≡ Ok first
  pub reaches : Reaches (machine_of p w.method (listed a.method) first) a.place (canonical_at (declared w.method a.place) (given_result p gets w.graph))
  pub types : Becomes p (record w.types { stack = result_types gets ++ w.types.stack }) (declared w.method a.place) (typings a.method a.place)
  pub flow : (d : Types) → declared w.method a.place ≡ Some d → flow_mixes p (record w.types { stack = result_types gets ++ w.types.stack }) d ≡ false
  pub live : stack_lives (given_result p gets w.graph) ≡ true
  -- at each handler that covers its call: the types of its locals before the call are of the same sorts as those behind it
  pub call : ℕ × Instr
  pub stands : stands_behind w.method.code w.method.code_length a.place ≡ Some call
  pub sorts : (k : ℕ) → sort p w.method (peek w.types.locals k) ≡ sort p w.method (peek (typings a.method call.0).locals k)
  pub handled : (hd : Handler) → Has w.method.handlers hd → covers hd call.0 ≡ true → Handled p w.method (typings a.method) (listed a.method) first (typings a.method call.0) (handler_graph w.graph) hd

-- The object that task 0 keeps stands below all frames: one safe node, which nothing changes.
abbrev pub keeper : ℕ → Waiting
keeper o = record {
  method = built_in_constructor (class_id 0);
  types = no_types;
  graph = record { locals = []; stack = []; nodes = record { region = 0; standing = Safe; head = false; parent = None } ∷ [] };
  at = λ n. Some o;
  locals = [];
  stack = [];
}

abbrev pub keepers : Option ℕ → List Waiting
keepers None = []
keepers (Some o) = keeper o ∷ []

abbrev pub AllWaitFor : Program → Typings → Listed → Option ℕ → List Activation → List Waiting → Option Ty → Type 0
AllWaitFor p typings listed kept [] ws gets = ws ≡ keepers kept
AllWaitFor p typings listed kept (a ∷ rest) [] gets = ⊥
AllWaitFor p typings listed kept (a ∷ rest) (w ∷ ws) gets = (gives : Option Ty) × Waits p typings listed a w gets gives × AllWaitFor p typings listed kept rest ws gives

pub record ThreadFits (p : Program) (typings : Typings) (listed : Listed) (kept : Option ℕ) (h : Objects) (top : Activation) (frames : List Activation) : Type 0 where
  pub below : List Waiting
  pub result : Option Ty
  pub top_fits : TopFits p typings listed h top below result
  pub waits : AllWaitFor p typings listed kept frames below result

-- no frame is left: the heap, and the object that is kept
pub record EndFits (p : Program) (kept : Option ℕ) (h : Objects) : Type 0 where
  pub heap : HeapFits p h
  pub forest : IsForest (trees p h)
  pub there : (o : ℕ) → kept ≡ Some o → (trees p h).has o ≡ true

abbrev pub FramesFit : Program → Typings → Listed → Option ℕ → Objects → List Activation → Type 0
FramesFit p typings listed kept h [] = EndFits p kept h
FramesFit p typings listed kept h (top ∷ frames) = ThreadFits p typings listed kept h top frames

-- ---- exceptions

-- an object that may be thrown: it is private
pub record IsThrown (p : Program) (h : Objects) (c : ClassId) (n : ℕ) : Type 0 where
  pub is : IsOf p h n Own
  pub own : object_sort p (class_type c.0) ≡ Own
  pub throwable : is_throwable p c ≡ true

-- where some frame catches, the frames from it on
abbrev pub CaughtFit : Program → Typings → Listed → Option ℕ → Objects → List Activation → Type 0
CaughtFit p typings listed kept h [] = Unit {0}
CaughtFit p typings listed kept h (top ∷ frames) = ThreadFits p typings listed kept h top frames

-- ---- a built-in method that is asked

-- none of these is handed on
abbrev pub NoneOwned : Program → List Parameter → Type 0
NoneOwned p [] = Unit {0}
NoneOwned p (q ∷ qs) = (is_owned (quality p q.ty q.qualifier) ≡ false) × NoneOwned p qs

-- the tree of that object is given away, and no other argument is handed on
abbrev pub Gives : Program → List Parameter → List Value → ℕ → Type 0
Gives p (q ∷ qs) (v ∷ vs) o = ((quality p q.ty q.qualifier ≡ Some qualifier.Free) × (refers v ≡ Some o) × NoneOwned p qs) ⊎ ((is_owned (quality p q.ty q.qualifier) ≡ false) × Gives p qs vs o)
Gives p qs vs o = ⊥

-- What comes of a built-in method: it gives nothing, a value, null, or a tree that comes into the heap; a tree that it is given leaves
-- the heap.
pub record AskFits (p : Program) (typings : Typings) (listed : Listed) (kept : Option ℕ) (id : MethodId) (args : List Value) (frames : List Activation) (h : Objects) : Type 0 where
  pub callee : Method
  pub is : method_at p id ≡ Some callee
  pub done : callee.result ≡ None → FramesFit p typings listed kept h frames
  pub answered : (ty : Ty) (v : Value) → callee.result ≡ Some ty → Fits p h (type_sort p ty) v → (kind_of p ty ≡ kind.Tree → refers v ≡ None) → FramesFit p typings listed kept h (push_value v frames)
  -- the tree that is given is whole: nothing holds it
  pub whole : (o : ℕ) → Gives p (parameters_of callee) args o → ((trees p h).has o ≡ true) × ((q i : ℕ) → (trees p h).to q i ≡ Some o → ⊥)
  pub gives : callee.result ≡ None → (o : ℕ) → Gives p (parameters_of callee) args o → (h' : Objects) → IsGivenAway p h h' o → FramesFit p typings listed kept h' frames
  -- it raises, with a new object: its frame stands behind the call, without the result
  pub raises : (c : ClassId) (n : ℕ) → get h n ≡ None → ObjectFits p (insert h n (new_object p c)) (new_object p c) → IsThrown p (insert h n (new_object p c)) c n → CaughtFit p typings listed kept (insert h n (new_object p c)) (unwound p c (Ref n) frames)
  pub comes : (ty : Ty) → callee.result ≡ Some ty → (h' : Objects) (n dims : ℕ) → (stuff : Rattle.kilim_isolation_laws.specs.graph_rows.Holds.Stuff) → IsTaken p h h' n dims stuff → type_sort p ty ≡ Tree dims stuff → kind_of p ty ≡ kind.Tree →
      FramesFit p typings listed kept h' (push_value (Ref n) frames)

-- ---- the laws

-- the top frame is of a method with code
abbrev pub TopIsCoded : Program → List Activation → Type 0
TopIsCoded p [] = Unit {0}
TopIsCoded p (top ∷ frames) = (m : Method) → method_at p top.method ≡ Some m → has_code m ≡ true

-- what a move leaves
abbrev pub MoveFits : Program → Typings → Listed → Option ℕ → Move → Type 0
MoveFits p typings listed kept (move.Runs change frames h) = TopIsCoded p frames → FramesFit p typings listed kept h frames
MoveFits p typings listed kept (move.Makes object frames h) = (n : ℕ) → get h n ≡ None → FramesFit p typings listed kept (insert h n object) (push_value (Ref n) frames)
MoveFits p typings listed kept (move.Opens frames h) = (box : BoxName) → FramesFit p typings listed kept h (push_value (Box box) frames)
MoveFits p typings listed kept (move.Asks id args frames h) = AskFits p typings listed kept id args frames h
MoveFits p typings listed kept (move.Returns h) = EndFits p kept h
MoveFits p typings listed kept (move.Raises cause) = Unit {0}
MoveFits p typings listed kept (move.Throws object class cause) = Unit {0}
MoveFits p typings listed kept (move.Ends cause) = Unit {0}
MoveFits p typings listed kept move.Stuck = Unit {0}

-- what verification says of the top frame
abbrev pub TopIsVerified : Program → Typings → Activation → Objects → Type 0
TopIsVerified p typings top h = (m : Method) (i : Instr) (next : ℕ) → method_at p top.method ≡ Some m → fetched m.code m.code_length top.place ≡ Some (i, next) → IsVerified p h (typings top.method top.place).stack top.stack i

-- each move of a thread of accepted code keeps its frames
abbrev pub MovesKeep : Type 0
MovesKeep = (p : Program) (typings : Typings) (listed : Listed) (kept : Option ℕ) (top : Activation) (frames : List Activation) (h : Objects) → IsSound p typings listed → TopIsVerified p typings top h →
    ThreadFits p typings listed kept h top frames → MoveFits p typings listed kept (moves p top frames h)

-- where an instruction of accepted code throws an object, the frames that are left fit
abbrev pub ThrowsKeep : Type 0
ThrowsKeep = (p : Program) (typings : Typings) (listed : Listed) (kept : Option ℕ) (top : Activation) (frames : List Activation) (h : Objects) → IsSound p typings listed → ThreadFits p typings listed kept h top frames →
    (m : Method) (i : Instr) (next : ℕ) → method_at p top.method ≡ Some m → fetched m.code m.code_length top.place ≡ Some (i, next) → (c : ClassId) (n : ℕ) → IsThrown p h c n →
    CaughtFit p typings listed kept h (thrown p c (Ref n) top frames)

-- a new private object that holds nothing changes no frame
abbrev pub NewObjectsKeep : Type 0
NewObjectsKeep = (p : Program) (typings : Typings) (listed : Listed) (kept : Option ℕ) (top : Activation) (frames : List Activation) (h : Objects) (n : ℕ) (ob : Object) → get h n ≡ None → ((z : Bool × ℕ) → held_by ob z ≡ None) →
    ObjectFits p (insert h n ob) ob → ThreadFits p typings listed kept h top frames → ThreadFits p typings listed kept (insert h n ob) top frames

-- A method without arguments begins on an object that is a tree: the constructor of the main class, whose object is kept, and `execute`.
-- What it may hand on is whole, and what is kept it may not hand on.
pub record BeginsOn (p : Program) (m : Method) (kept : Option ℕ) (h : Objects) (n : ℕ) : Type 0 where
  pub coded : has_code m ≡ true
  pub instance : m.is_static ≡ false
  pub plain : m.params ≡ []
  pub none : m.qualifiers ≡ []
  pub heap : HeapFits p h
  pub forest : IsForest (trees p h)
  pub is : IsOf p h n (Tree 0 Trees)
  pub owner : object_sort p (class_type m.owner.0) ≡ Tree 0 Trees
  pub whole : m.receiver ≡ qualifier.Free → (q i : ℕ) → (trees p h).to q i ≡ Some n → ⊥
  pub keeps : (o : ℕ) → kept ≡ Some o → (o ≡ n) × (m.receiver ≡ qualifier.Free → ⊥)

abbrev pub BeginningsKeep : Type 0
BeginningsKeep = (p : Program) (typings : Typings) (listed : Listed) (kept : Option ℕ) → IsSound p typings listed → (id : MethodId) (m : Method) (h : Objects) (n : ℕ) → method_at p id ≡ Some m → BeginsOn p m kept h n →
    FramesFit p typings listed kept h (entered p id (Ref n ∷ []) ∷ [])
