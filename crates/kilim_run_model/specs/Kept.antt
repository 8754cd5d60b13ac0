-- What accepted code keeps: whatever a thread reaches is in its own heap, and what it gives away next is a whole tree.
use Rattle.std.specs.Prelude.{◌≡◌, ℕ, ◌==◌, ◌⊎◌, true, List, [], ◌∷◌, Option, Some, None}
use Rattle.std.specs.FinMap.{get}
use Rattle.kilim_program.specs.Program.{Program}
use Rattle.kilim_program.specs.declared.names.FieldId.{FieldId}
use Rattle.kilim_run_state.specs.declared.value.Object.{Object}
use Rattle.kilim_run_state.specs.declared.value.Token.{Token}
use Rattle.kilim_program.specs.declared.value.Value.{Value}
use Rattle.kilim_program.specs.declared.value.Value.TheVariants.{Ref, Box, Fiber}
use Rattle.kilim_run_state.specs.Machine.{Objects, Activation}
use Rattle.kilim_program.specs.Members.{shown_name}
use Rattle.kilim_run_machine.specs.Natives.{Native, native_of}
use Rattle.kilim_run_machine.specs.Natives as native
use Rattle.kilim_run_machine.specs.Moves.{Move, moves}
use Rattle.kilim_run_machine.specs.Moves as move
use Rattle.kilim_run_state.specs.Shapes.{field_in, fields_in_order, shape_of}
use Rattle.kilim_run_state.specs.Trees.{Root, OfMessage, OfTask, is_allowed, tree_names, object_of, type_named}
use Rattle.kilim_run_model.specs.State.{Setting, Alive}
use Rattle.kilim_run_model.specs.Lone.{Lone}
use Rattle.kilim_run_model.specs.Course.{Course, IsLone, Quiet}
use Rattle.kilim_run_model.specs.Reach.{Liveness, OptionNames, Below}

-- ---- an object as its class declares it

-- each of these fields is found, with its value
abbrev pub Finds : List (FieldId × Value) → List FieldId → List Value → Type 0
Finds fields [] [] = Unit {0}
Finds fields (f ∷ fs) (v ∷ vs) = (field_in fields f ≡ Some v) × Finds fields fs vs
Finds fields fs vs = ⊥

-- just the fields of its class and superclasses, or the elements of its array; its type is found by its shown name
pub record IsFormed (p : Program) (o : Object) : Type 0 where
  pub named : type_named p (shown_name p o.class) ≡ Some o.class
  pub values : List Value
  pub is : o ≡ object_of p o.class values
  pub finds : (o.class.dims == 0) ≡ true → Finds o.fields (fields_in_order p o.class.base) values

-- ---- a tree that is given away

abbrev pub IsIn : ℕ → List ℕ → Type 0
IsIn n [] = ⊥
IsIn n (m ∷ ms) = (n ≡ m) ⊎ IsIn n ms

-- nothing stands twice
abbrev pub IsOnce : List ℕ → Type 0
IsOnce [] = Unit {0}
IsOnce (n ∷ ns) = (IsIn n ns → ⊥) × IsOnce ns

-- no object is met twice below it, and the declared types allow it
pub record IsGivenTree (p : Program) (root : Root) (heap : Objects) (n : ℕ) : Type 0 where
  pub once : IsOnce (tree_names p heap n)
  pub allowed : (shape : List Token) → shape_of p heap n ≡ Some shape → is_allowed p root shape ≡ true

-- the object that is put or started
abbrev pub given : Option Native → List Value → Option (Root × ℕ)
given (Some native.Put) (Box box ∷ Ref n ∷ []) = Some (OfMessage, n)
given (Some native.PutWait) (Box box ∷ Ref n ∷ []) = Some (OfMessage, n)
-- in woven form
given (Some native.PutWait) (Box box ∷ Ref n ∷ Fiber ∷ []) = Some (OfMessage, n)
given (Some native.Start) (Ref n ∷ []) = Some (OfTask, n)
given n args = None

abbrev pub GivesTree : Program → Objects → Move → Type 0
GivesTree p heap (move.Asks m args frames after) = (root : Root) (n : ℕ) → given (native_of p m) args ≡ Some (root, n) → IsGivenTree p root heap n
GivesTree p heap move = Unit {0}

-- ---- a thread on a heap of its own

-- `live` tells which locals are live, by method, place and slot.
pub record IsKept (live : Liveness) (setting : Setting) (l : Lone) : Type 0 where
  -- what is at or below an object that it reaches is in its heap
  pub there : (n x : ℕ) → OptionNames live (Some l.thread) l.kept n → Below l.heap n x → (o : Object) × (get l.heap x ≡ Some o)
  -- and is as its class declares
  pub formed : (n x : ℕ) (o : Object) → OptionNames live (Some l.thread) l.kept n → Below l.heap n x → get l.heap x ≡ Some o → IsFormed setting.program o
  -- what it puts or starts next is a tree, of whatever size
  pub gives : (top : Activation) (below : List Activation) (done boxes : ℕ) → l.thread ≡ Alive (top ∷ below) done boxes → GivesTree setting.program l.heap (moves setting.program top below l.heap)

-- Of each thread that there can be, right after the last deed of a course and after each further move of it without an action.
abbrev pub Kept : Liveness → Setting → Type 0
Kept live setting = (t : ℕ) (c : Course) (last l : Lone) → IsLone setting t c last → Quiet setting t last l → IsKept live setting l
