-- What an instruction of an accepted method has to leave.
use Rattle.std.specs.Prelude.{◌≡◌, ◌⊎◌, ℕ, false, List, [], ◌∷◌, ◌++◌, Option, Some, None, drop, length, map}
use Rattle.std.specs.FinMap.{get, insert}
use Rattle.std.specs.List.{list_any}
use Rattle.kilim_program.specs.declared.ty.Kind.TheVariants as kind
use Rattle.kilim_program.specs.declared.class.Method.{Method}
use Rattle.kilim_program.specs.declared.names.BoxName.{BoxName}
use Rattle.kilim_program.specs.declared.names.MethodId.{MethodId}
use Rattle.kilim_program.specs.declared.ty.Qualifier.TheVariants as qualifier
use Rattle.kilim_program.specs.declared.ty.Ty.{Ty}
use Rattle.kilim_program.specs.declared.value.Value.{Value}
use Rattle.kilim_program.specs.declared.value.Value.TheVariants.{Ref, Box}
use Rattle.kilim_program.specs.Program.{Program}
use Rattle.kilim_run_state.specs.Machine.{Objects}
use Rattle.kilim_program.specs.Names.{method_at}
use Rattle.kilim_run_machine.specs.Effect.{Effect, Goes, Makes, Opens, Calls, Asks, Returns, Raises, Throws, Ends, Stuck}
use Rattle.kilim_type_spec.specs.Step.{Types, result_types, peek}
use Rattle.kilim_type_spec.specs.Typed.{entry, Among}
use Rattle.kilim_isolation_laws.specs.forest.Relation.{Frames, Named, Names, Node, Root, is_gone}
use Rattle.kilim_program.specs.Kinds.{kind_of}
use Rattle.kilim_isolation_graph.specs.declared.graph.Graph.{Graph}
use Rattle.kilim_isolation_rules.specs.Calls.{after_call, given_result, is_not_free, quality_in, handler_graph}
use Rattle.kilim_isolation_rules.specs.declared.deed.Passed.{Passed}
use Rattle.kilim_isolation_graph.specs.declared.entry.Parameter.{Parameter}
use Rattle.kilim_isolation_graph.specs.Graphs.{node_of, popped}
use Rattle.kilim_isolation_graph.specs.Entry.{entry_nodes, parameters_of, quality}
use Rattle.kilim_isolation_laws.specs.graph_rows.Holds.{sort, AreSlots, Holds, IsPlace, Stands, WaitFits, Waiting, trees, waiting_named, named_by, SlotFits, type_sort, refers, Fits}

-- the frame holds, whatever its nodes stand for
abbrev pub Left : Program → Method → Types → Graph → Objects → List Value → List Value → List Waiting → Type 0
Left p m f g h locals stack below = (at : ℕ → Option ℕ) × Holds p m f g at h locals stack below

-- What is true once the caller's arguments are off its stack, and the method that runs has begun.
-- Along a handler edge of the call the caller's graph is that right after the arguments, and its locals have the sorts that they had before.
pub record CallHolds (p : Program) (m : Method) (f : Types) (g : Graph) (f0 : Types) (raised : Graph) (h : Objects) (id : MethodId) (args locals stack : List Value) (below : List Waiting) : Type 0 where
  pub callee : Method
  pub is : method_at p id ≡ Some callee
  pub caller : Waiting
  pub method : caller.method ≡ m
  pub locals_are : caller.locals ≡ locals
  pub stack_is : caller.stack ≡ stack
  pub types : f ≡ record caller.types { stack = result_types callee.result ++ caller.types.stack }
  pub graph : g ≡ given_result p callee.result caller.graph
  pub raised_is : raised ≡ handler_graph caller.graph
  pub sorts : (k : ℕ) → sort p m (peek caller.types.locals k) ≡ sort p m (peek f0.locals k)
  pub at : ℕ → Option ℕ
  pub entered : Holds p callee (entry callee) (entry_nodes p callee) at h (Rattle.kilim_run_machine.specs.Moves.entered p id args).locals [] (caller ∷ below)

-- a value that is returned: a tree is the root of a whole one, or null
abbrev pub ReturnHolds : Program → Method → Graph → (ℕ → Option ℕ) → Objects → Option Ty → Option Value → Type 0
ReturnHolds p m g at h None None = Unit {0}
ReturnHolds p m g at h None (Some v) = ⊥
ReturnHolds p m g at h (Some ty) None = ⊥
ReturnHolds p m g at h (Some ty) (Some v) = Fits p h (type_sort p ty) v × (kind_of p ty ≡ kind.Tree → (o : ℕ) → refers v ≡ Some o → (n : ℕ) × Names (named_by g at) n o × ((node_of g n).standing ≡ Root))

-- arguments with their values, and the parameters of the method that runs; none of them is gone
abbrev pub ArgsFit : Program → Objects → Named → ℕ → List Passed → List Value → List Parameter → Type 0
ArgsFit p h u count [] [] [] = Unit {0}
ArgsFit p h u count (a ∷ args) (v ∷ vs) (q ∷ qs) = SlotFits p h u count (type_sort p q.ty) a.name v × ((n : ℕ) → a.name ≡ Some n → is_gone (u.node n).standing ≡ false) × (quality p q.ty q.qualifier ≡ quality_in p a) × ArgsFit p h u count args vs qs
ArgsFit p h u count args vs qs = ⊥

-- no parameter takes a tree away
abbrev pub NoneFree : Program → List Parameter → Type 0
NoneFree p [] = Unit {0}
NoneFree p (q ∷ qs) = (quality p q.ty q.qualifier ≡ Some qualifier.Free → ⊥) × NoneFree p qs

-- what is passed to a method that takes a tree away: the caller's types are what they were, but for the arguments
pub record HandsOn (p : Program) (m : Method) (types kept : Types) (graph : Graph) (at : ℕ → Option ℕ) (h : Objects) (passed : List Passed) (callee : Method) (args stack : List Value) (takes : ℕ) : Type 0 where
  pub kept_is : kept ≡ record types { stack = drop takes types.stack }
  pub fits : ArgsFit p h (named_by graph at) (length graph.nodes) passed args (parameters_of callee)
  pub not_free : list_any (is_not_free p graph) passed ≡ false
  pub rest : AreSlots p m h (named_by graph at) (length graph.nodes) (drop takes types.stack) (drop takes graph.stack) stack

-- A built-in method was asked, with these arguments: the caller before the call, and with its graph right after the arguments, where it has
-- the types `kept`: those from before without the arguments, with the object initialized that a constructor has for its receiver. What the
-- method gives comes on top of the stack; a tree that it is given leaves the heap.
pub record NativeHolds (p : Program) (m : Method) (f : Types) (g : Graph) (f0 : Types) (raised : Graph) (h : Objects) (id : MethodId) (args locals stack : List Value) (below : List Waiting) : Type 0 where
  pub callee : Method
  pub is : method_at p id ≡ Some callee
  pub types : Types
  pub kept : Types
  pub graph : Graph
  pub at : ℕ → Option ℕ
  pub values : List Value
  pub stands : Stands p m types graph at h locals values below
  pub passed : List Passed
  pub takes : ℕ
  pub hands : HandsOn p m types kept graph at h passed callee args stack takes ⊎ NoneFree p (parameters_of callee)
  pub after : f ≡ record kept { stack = result_types callee.result ++ kept.stack }
  pub left : g ≡ given_result p callee.result (popped takes (after_call p passed graph))
  pub raised_is : raised ≡ handler_graph (popped takes (after_call p passed graph))
  pub sorts : (k : ℕ) → sort p m (peek kept.locals k) ≡ sort p m (peek f0.locals k)
  pub waits : WaitFits p h (record { method = m; types = kept; graph = popped takes (after_call p passed graph); at = at; locals = locals; stack = stack })
  pub frames : Frames IsPlace (trees p h) (named_by (after_call p passed graph) at ∷ map waiting_named below)

abbrev pub EffectHolds : Program → Method → List ℕ → Types → Graph → (ℕ → Option ℕ) → List Waiting → Objects → List Node → (to : ℕ) (f0 : Types) (raised : Graph) → Effect → Type 0
EffectHolds p m next f g at below h0 nodes to f0 raised (Goes place locals stack h) = Among next place × Left p m f g h locals stack below
EffectHolds p m next f g at below h0 nodes to f0 raised (Makes object place locals stack h) = Among next place × ((n : ℕ) → get h n ≡ None → Left p m f g (insert h n object) locals (Ref n ∷ stack) below)
EffectHolds p m next f g at below h0 nodes to f0 raised (Opens place locals stack h) = Among next place × ((box : BoxName) → Left p m f g h locals (Box box ∷ stack) below)
EffectHolds p m next f g at below h0 nodes to f0 raised (Calls id args place locals stack h) = Among next place × (place ≡ to) × CallHolds p m f g f0 raised h id args locals stack below
EffectHolds p m next f g at below h0 nodes to f0 raised (Asks id args place locals stack h) = Among next place × (place ≡ to) × NativeHolds p m f g f0 raised h id args locals stack below
EffectHolds p m next f g at below h0 nodes to f0 raised (Returns value h) = ReturnHolds p m g at h m.result value × (h ≡ h0) × (g.nodes ≡ nodes)
EffectHolds p m next f g at below h0 nodes to f0 raised (Raises cause) = Unit {0}
EffectHolds p m next f g at below h0 nodes to f0 raised (Throws object class cause) = Unit {0}
EffectHolds p m next f g at below h0 nodes to f0 raised (Ends cause) = Unit {0}
EffectHolds p m next f g at below h0 nodes to f0 raised Stuck = Unit {0}
