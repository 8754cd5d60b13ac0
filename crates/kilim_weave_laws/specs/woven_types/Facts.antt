-- What the proof that woven code is well typed rests on.
use Rattle.std.specs.Prelude.{◌≡◌, ◌⊎◌, ℕ, suc, ◌+◌, ◌≤◌, Bool, true, false, ◌||◌, if◌then◌else◌, List, [], ◌∷◌, ◌++◌, Option, Some, None, is_some, length}
use Rattle.std.specs.List.{list_all, list_any}
use Rattle.kilim_program.specs.declared.class.Method.{Method}
use Rattle.kilim_program.specs.declared.instr.Instr.{Instr}
use Rattle.kilim_program.specs.declared.names.MethodId.{MethodId}
use Rattle.kilim_program.specs.declared.ty.Base.TheVariants as base
use Rattle.kilim_program.specs.declared.ty.Ty.{Ty}
use Rattle.kilim_program.specs.declared.verified.Frame.{Frame}
use Rattle.kilim_program.specs.declared.verified.VType.{VType}
use Rattle.kilim_program.specs.declared.verified.VType.TheVariants.{Top, Int, Long, Null, Object}
use Rattle.kilim_program.specs.Program.{Program}
use Rattle.kilim_program.specs.Names.{is_empty, method_at}
use Rattle.kilim_program.specs.Lengths.{first_place}
use Rattle.kilim_program.specs.Same.{is_constructor}
use Rattle.kilim_type_spec.specs.Step.{Types, peek, words, is_long, is_top, is_unset_this, is_object, assignable, vtype, object_type}
use Rattle.kilim_type_spec.specs.Typed.{declared, frame_types, reads, writes, edges, Among}
use Rattle.kilim_weave_spec.specs.Woven.{Plan, fiber_class, fiber_ty, member, fiber_slot, old_frame, resume_frame, pausable_callee, count, below, Item, Mark, Does, label_stands, woven_items, added_types, lay, behind, lay_frames, Labelled}
use Rattle.kilim_weave_laws.specs.woven_types.Same.{Shared, Programs}

-- ---- built-in members

pub record Native (P W : Program) (id : MethodId) (params : List Ty) (result : Option Ty) (is_static : Bool) : Type 0 where
  pub method : Method
  pub there : method_at W id ≡ Some method
  pub has_params : method.params ≡ params
  pub has_result : method.result ≡ result
  pub has_static : method.is_static ≡ is_static
  pub is_public : method.is_private ≡ false
  pub has_owner : method.owner ≡ fiber_class P
  pub plain : is_constructor method ≡ false

abbrev pub int_ty : Ty
int_ty = record { dims = 0; base = base.Int }

abbrev pub long_ty : Ty
long_ty = record { dims = 0; base = base.Long }

-- a class or an array
abbrev pub is_reference : VType → Bool
is_reference (Object ty) = is_object (vtype ty)
is_reference t = false

pub record Members (P W : Program) : Type 0 where
  -- `java/lang/Object`
  pub object_ty : Ty
  pub is_class : vtype object_ty ≡ Object object_ty
  pub is_object : object_type W ≡ Object object_ty
  pub to_object : (ty : Ty) → is_reference (Object ty) ≡ true → assignable W (Object ty) (Object object_ty) ≡ true
  pub pc : Native P W (member P 0) [] (Some int_ty) false
  pub down : Native P W (member P 1) [] (Some (fiber_ty P)) false
  pub up : Native P W (member P 2) [] (Some int_ty) false
  pub save_int : Native P W (member P 3) (int_ty ∷ fiber_ty P ∷ []) None true
  pub save_long : Native P W (member P 4) (long_ty ∷ fiber_ty P ∷ []) None true
  pub save_object : Native P W (member P 5) (object_ty ∷ fiber_ty P ∷ []) None true
  pub place : Native P W (member P 6) (int_ty ∷ object_ty ∷ fiber_ty P ∷ []) None true
  pub rest_int : Native P W (member P 7) [] (Some int_ty) false
  pub rest_long : Native P W (member P 8) [] (Some long_ty) false
  pub rest_object : Native P W (member P 9) [] (Some object_ty) false
  pub receiver : Native P W (member P 10) [] (Some object_ty) false

-- ---- the old method

-- no pausable method is called
abbrev pub CallsNone : Program → List (ℕ × Instr) → Type 0
CallsNone p [] = Unit {0}
CallsNone p (e ∷ es) = (pausable_callee p e.1 ≡ None) × CallsNone p es

-- the three laws of live slots at an instruction
pub record LawsAt (live : ℕ → ℕ → Bool) (P : Program) (p to : ℕ) (i : Instr) : Type 0 where
  pub read : (k : ℕ) → reads i k ≡ true → live p k ≡ true
  pub flow : (q k : ℕ) → Among (edges i to) q → live q k ≡ true → (live p k ≡ true) ⊎ (writes i k ≡ true)
  pub kept : (callee : Method) → pausable_callee P i ≡ Some callee → (k : ℕ) → live p k ≡ true → live to k ≡ true

-- what can be saved: an int, a long, a null, a class or an array
abbrev pub is_savable : VType → Bool
is_savable Int = true
is_savable Long = true
is_savable Null = true
is_savable t = is_reference t

-- what can stand in a local at a pausable call
abbrev pub is_local_savable : VType → Bool
is_local_savable Top = true
is_local_savable t = is_savable t

-- at a pausable call nothing below the arguments and in the locals is uninitialized
pub record Savable (x : Plan) (callee : Method) (p : ℕ) : Type 0 where
  pub stack : list_all is_savable (below x callee p) ≡ true
  pub locals : (k : ℕ) → is_local_savable (peek (x.typing p).locals k) ≡ true
  -- a long has its second half behind it
  pub halves : (k : ℕ) → is_long (peek (x.typing p).locals k) ≡ true → (is_top (peek (x.typing p).locals (suc k)) ≡ true) × (suc (suc k) ≤ x.method.max_locals)

-- what holds at each place
pub record PlaceFacts (x : Plan) (e : ℕ × Instr) (to : ℕ) : Type 0 where
  pub laws : LawsAt x.live x.program e.0 to e.1
  pub room : words (x.typing e.0).stack ≤ x.method.max_stack
  pub within : length (x.typing e.0).locals ≤ x.method.max_locals
  pub set : (x.typing e.0).unset ≡ false
  pub no_this : list_any is_unset_this (x.typing e.0).locals ≡ false
  pub savable : (callee : Method) → pausable_callee x.program e.1 ≡ Some callee → Savable x callee e.0

abbrev pub Facts : Plan → List (ℕ × Instr) → Type 0
Facts x [] = Unit {0}
Facts x (e ∷ es) = PlaceFacts x e (first_place es x.method.code_length) × Facts x es

-- ---- the woven method

-- what is woven by a plan
pub record WovenMethod (x : Plan) (w : Method) : Type 0 where
  pub labels : Labelled x 0 (woven_items x)
  pub code : w.code ≡ lay 0 (woven_items x)
  pub code_length : w.code_length ≡ behind 0 (woven_items x)
  pub frames : w.frames ≡ lay_frames 0 (woven_items x)
  pub max_stack : w.max_stack ≡ x.method.max_stack + 4
  pub max_locals : w.max_locals ≡ fiber_slot x.method + length (added_types x)
  pub name : w.name ≡ x.method.name
  pub owner : w.owner ≡ x.method.owner
  pub params : w.params ≡ x.method.params ++ (fiber_ty x.program ∷ [])
  pub result : w.result ≡ x.method.result
  pub is_static : w.is_static ≡ x.method.is_static
  -- no method that can pause has an exception table
  pub handlers : is_empty w.handlers ≡ true
  pub had_none : is_empty x.method.handlers ≡ true

abbrev pub types_if : Option Frame → Option Types
types_if None = None
types_if (Some frame) = Some (frame_types frame)

-- the frames that are declared at the places of items, and their labels; `before` is that of a mark right before
abbrev pub Stands : Plan → Method → ℕ → Option Types → List Item → Type 0
Stands x w q before [] = Unit {0}
Stands x w q before (Mark label frame ∷ rest) = label_stands x q label × Stands x w q (types_if frame) rest
Stands x w q before (Does i size counted ∷ rest) = (declared w q ≡ before) × Stands x w (q + size q) None rest

-- where an old place has a mark, its new place has a declared frame
abbrev pub Marked : Plan → Method → Bool → List (ℕ × Instr) → Type 0
Marked x w first [] = Unit {0}
Marked x w first (e ∷ es) =
    ((first || (is_some (declared x.method e.0) || is_some (pausable_callee x.program e.1))) ≡ true → declared w (x.at e.0) ≡ Some (frame_types (old_frame x e.0)))
    × Marked x w (is_some (pausable_callee x.program e.1)) es

-- where a resume block stands, its frame is declared
abbrev pub Blocked : Plan → Method → (number : ℕ) → List (ℕ × Instr) → Type 0
Blocked x w number [] = Unit {0}
Blocked x w number (e ∷ es) =
    (is_some (pausable_callee x.program e.1) ≡ true → declared w (x.block number) ≡ Some (frame_types (resume_frame x)))
    × Blocked x w (count (pausable_callee x.program e.1) number) es

pub record Whole (x : Plan) (W : Program) (w : Method) : Type 0 where
  pub shared : Shared x.program W x.method w x.at
  pub progs : Programs x.program W x.method w
  pub members : Members x.program W
  -- each type is assignable to itself
  pub itself : (t : VType) → assignable x.program t t ≡ true
  pub room : w.max_stack ≡ x.method.max_stack + 4
  pub slots : fiber_slot x.method + (if x.method.is_static then 1 else 2) ≤ w.max_locals
  pub targets : (t : ℕ) (d : Types) → declared x.method t ≡ Some d → (x.typing t ≡ d) × (declared w (x.at t) ≡ Some (frame_types (old_frame x t)))
