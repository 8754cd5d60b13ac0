-- What an instruction leaves fits the frame of verification behind it.
use Rattle.std.specs.Prelude.{◌≡◌, ℕ, Bool, true, if◌then◌else◌, List, [], ◌∷◌, ◌++◌, Some, option_to_list, map, codes}
use Rattle.kilim_program.specs.declared.class.Method.{Method}
use Rattle.kilim_program.specs.declared.names.MethodId.{MethodId}
use Rattle.kilim_program.specs.declared.value.Value.{Value}
use Rattle.kilim_program.specs.declared.value.Value.TheVariants.{Ref}
use Rattle.kilim_program.specs.declared.verified.VType.{VType}
use Rattle.kilim_program.specs.Program.{Program}
use Rattle.kilim_program.specs.BuiltIn.{class_type}
use Rattle.kilim_run_state.specs.Machine.{Objects, Activation}
use Rattle.kilim_program.specs.Names.{method_at}
use Rattle.kilim_run_machine.specs.Effect.{Effect, Goes, Makes, Opens, Calls, Asks, Returns, Raises, Throws, Ends, Stuck}
use Rattle.kilim_program.specs.Members.{named_type}
use Rattle.kilim_run_machine.specs.Moves.{Move}
use Rattle.kilim_run_machine.specs.Raising.{is_throwable}
use Rattle.kilim_run_machine.specs.Moves as move
use Rattle.kilim_type_spec.specs.Step.{Types, vtype, result_types, class_vtype}
use Rattle.kilim_type_spec.specs.Typed.{Among, has_code, this_types}
use Rattle.kilim_type_sound.specs.Fits.{Classes, Typing, Wanted, Awaited, AReference, Nothing, result_awaited, StackFits, LocalsFit, HeapFits, ObjectFits, FramesFit, IsThere, StandsAtCall, have_types}

-- the arguments with which a method begins, the receiver first
abbrev pub argument_types : Method → List VType
argument_types m = this_types m ++ map vtype m.params

-- a native's receiver is initialized, and isn't null
abbrev pub native_types : Method → List VType
native_types m = (if m.is_static then [] else class_vtype m.owner ∷ []) ++ map vtype m.params

module _ (p : Program) (m : Method) (of : Classes) (live : ℕ → ℕ → Bool) (to : List ℕ) (g : Types) where
  -- the frame goes on there, and the stack gets this
  pub record GoesOn (awaited : Awaited) (place : ℕ) (ls vs : List Value) (h : Objects) : Type 0 where
    pub among : Among to place
    pub locals : LocalsFit p m of (live place) g.locals ls
    pub stack : StackFits p m of awaited g.stack vs
    pub heap : HeapFits p of h

-- with the place behind the instruction, and the locals and the heap before it
module _ (p : Program) (m : Method) (of : Classes) (live : ℕ → ℕ → Bool) (next : ℕ) (before : List Value) (now : Objects) (to : List ℕ) (g : Types) where
  -- a call stands behind itself, and changes no local
  pub record CallFits (id : MethodId) (args : List Value) (place : ℕ) (ls vs : List Value) (h : Objects) : Type 0 where
    pub callee : Method
    pub there : method_at p id ≡ Some callee
    pub code : has_code callee ≡ true
    pub arguments : have_types p callee of (argument_types callee) args ≡ true
    pub goes : GoesOn p m of live to g (result_awaited callee.result) place ls vs h
    pub behind : place ≡ next
    pub same : ls ≡ before

  pub record NativeFits (id : MethodId) (args : List Value) (place : ℕ) (ls vs : List Value) (h : Objects) : Type 0 where
    pub callee : Method
    pub there : method_at p id ≡ Some callee
    pub built_in : callee.built_in ≡ true
    pub arguments : have_types p callee of (native_types callee) args ≡ true
    pub goes : GoesOn p m of live to g (result_awaited callee.result) place ls vs h
    pub behind : place ≡ next
    pub same : ls ≡ before

  abbrev pub EffectFits : Effect → Type 0
  EffectFits (Goes place ls vs h) = GoesOn p m of live to g Nothing place ls vs h
  EffectFits (Makes object place ls vs h) = ObjectFits p of object × GoesOn p m of live to g (AReference (Some object.class)) place ls vs h
  EffectFits (Opens place ls vs h) = GoesOn p m of live to g (AReference (named_type p (codes "kilim/Mailbox"))) place ls vs h
  EffectFits (Calls id args place ls vs h) = CallFits id args place ls vs h
  EffectFits (Asks id args place ls vs h) = NativeFits id args place ls vs h
  EffectFits (Returns v h) = (have_types p m of (result_types m.result) (option_to_list v) ≡ true) × HeapFits p of h
  EffectFits (Raises cause) = Unit {0}
  EffectFits (Throws object class cause) = (of object ≡ Some (class_type class.0)) × (is_throwable p class ≡ true) × IsThere now (Ref object)
  EffectFits (Ends cause) = Unit {0}
  EffectFits Stuck = ⊥

-- ---- the task's move

-- the top frame stands behind its call
abbrev pub TopStands : Program → Typing → Wanted → Classes → List Activation → Type 0
TopStands p typing live of [] = Unit {0}
TopStands p typing live of (top ∷ below) = StandsAtCall p typing live of top

pub record AsksFit (p : Program) (typing : Typing) (live : Wanted) (of : Classes) (id : MethodId) (args : List Value) (calls : List Activation) (h : Objects) : Type 0 where
  pub callee : Method
  pub there : method_at p id ≡ Some callee
  pub built_in : callee.built_in ≡ true
  pub arguments : have_types p callee of (native_types callee) args ≡ true
  pub frames : FramesFit p typing live of (result_awaited callee.result) calls
  pub stands : TopStands p typing live of calls
  pub heap : HeapFits p of h

abbrev pub MoveFits : Program → Typing → Wanted → Classes → Move → Type 0
MoveFits p typing live of (move.Runs change frames h) = FramesFit p typing live of Nothing frames × HeapFits p of h
MoveFits p typing live of (move.Makes object frames h) = ObjectFits p of object × FramesFit p typing live of (AReference (Some object.class)) frames × HeapFits p of h
MoveFits p typing live of (move.Opens frames h) = FramesFit p typing live of (AReference (named_type p (codes "kilim/Mailbox"))) frames × HeapFits p of h
MoveFits p typing live of (move.Asks id args frames h) = AsksFit p typing live of id args frames h
MoveFits p typing live of (move.Returns h) = HeapFits p of h
MoveFits p typing live of (move.Raises cause) = Unit {0}
MoveFits p typing live of (move.Throws object class cause) = (of object ≡ Some (class_type class.0)) × (is_throwable p class ≡ true)
MoveFits p typing live of (move.Ends cause) = Unit {0}
MoveFits p typing live of move.Stuck = ⊥
