-- The same but for the names of objects: values, objects, frames, heaps, and what an instruction and a move do.
use Rattle.std.specs.Prelude.{◌≡◌, ℕ, List, [], ◌∷◌, Option, Some, None, ◌⊎◌}
use Rattle.std.specs.FinMap.{get}
use Rattle.kilim_program.specs.declared.names.BoxName.{BoxName}
use Rattle.kilim_program.specs.declared.names.ClassId.{ClassId}
use Rattle.kilim_run_state.specs.declared.cause.EndCause.{EndCause}
use Rattle.kilim_program.specs.declared.names.FieldId.{FieldId}
use Rattle.kilim_run_state.specs.declared.value.Object.{Object}
use Rattle.kilim_program.specs.declared.value.Value.{Value}
use Rattle.kilim_program.specs.declared.value.Value.TheVariants.{Int, Long, Null, Ref, Text, Box, Fiber}
use Rattle.kilim_run_state.specs.Machine.{Objects, Activation}
use Rattle.kilim_run_machine.specs.Effect.{Effect}
use Rattle.kilim_run_machine.specs.Effect as effect
use Rattle.kilim_run_machine.specs.Moves.{Change, Steps, Enters, Leaves, Move}
use Rattle.kilim_run_machine.specs.Moves as move

-- ---- values, objects and frames; `of` gives for a name of the own heap that of the shared one

abbrev pub Names : Type 0
Names = ℕ → Option ℕ

abbrev pub IsKin : Names → Value → Value → Type 0
IsKin of (Int a) (Int b) = a ≡ b
IsKin of (Long a) (Long b) = a ≡ b
IsKin of Null Null = Unit {0}
IsKin of (Ref n) (Ref x) = of n ≡ Some x
IsKin of (Text a) (Text b) = a ≡ b
IsKin of (Box a) (Box b) = a ≡ b
IsKin of Fiber Fiber = Unit {0}
IsKin of v w = ⊥

abbrev pub AreKin : Names → List Value → List Value → Type 0
AreKin of [] [] = Unit {0}
AreKin of (v ∷ vs) (w ∷ ws) = IsKin of v w × AreKin of vs ws
AreKin of vs ws = ⊥

abbrev pub FieldsKin : Names → List (FieldId × Value) → List (FieldId × Value) → Type 0
FieldsKin of [] [] = Unit {0}
FieldsKin of (e ∷ es) (d ∷ ds) = (e.0 ≡ d.0) × IsKin of e.1 d.1 × FieldsKin of es ds
FieldsKin of es ds = ⊥

pub record ObjectsKin (of : Names) (o q : Object) : Type 0 where
  pub class : o.class ≡ q.class
  pub fields : FieldsKin of o.fields q.fields
  pub elements : AreKin of o.elements q.elements

abbrev pub FramesKin : Names → List Activation → List Activation → Type 0
FramesKin of [] [] = Unit {0}
FramesKin of (f ∷ fs) (g ∷ gs) = (f.method ≡ g.method) × (f.place ≡ g.place) × AreKin of f.locals g.locals × AreKin of f.stack g.stack × FramesKin of fs gs
FramesKin of fs gs = ⊥

abbrev pub MaybeKin : Names → Option Value → Option Value → Type 0
MaybeKin of None None = Unit {0}
MaybeKin of (Some v) (Some w) = IsKin of v w
MaybeKin of v w = ⊥

abbrev pub NameKin : Names → Option ℕ → Option ℕ → Type 0
NameKin of None None = Unit {0}
NameKin of (Some n) (Some x) = of n ≡ Some x
NameKin of n x = ⊥

-- ---- whose an object of the shared heap is

pub data Owner : Type 0 where
  OfTask : (task : ℕ) → Owner
  OfPlace : (box : BoxName) (number : ℕ) → Owner
  OfNobody : Owner

-- What a heap of one's own and the shared one have to do with each other, after a few of a thread's changes: from
-- `k0` on, only objects of that task's have changed.
pub record Alike (of : Names) (owner : ℕ → Owner) (t : ℕ) (k0 h k : Objects) : Type 0 where
  pub same : (n : ℕ) (o : Object) → get h n ≡ Some o → (x : ℕ) × (q : Object) × (of n ≡ Some x) × (get k x ≡ Some q) × ObjectsKin of o q × (owner x ≡ OfTask t)
  pub apart : (n m x : ℕ) (o q : Object) → of n ≡ Some x → of m ≡ Some x → get h n ≡ Some o → get h m ≡ Some q → n ≡ m
  pub rest : (x : ℕ) → (get k x ≡ get k0 x) ⊎ (owner x ≡ OfTask t)

-- a thrown object, its class, and the end if nothing catches it
pub record ThrownKin (of : Names) (n x : ℕ) (k l : ClassId) (c d : EndCause) : Type 0 where
  pub object : of n ≡ Some x
  pub class : k ≡ l
  pub cause : c ≡ d

-- what the values name is good
abbrev pub IsHeld : (ℕ → Type 0) → Value → Type 0
IsHeld good (Ref n) = good n
IsHeld good v = Unit {0}

abbrev pub AreHeld : (ℕ → Type 0) → List Value → Type 0
AreHeld good [] = Unit {0}
AreHeld good (v ∷ vs) = IsHeld good v × AreHeld good vs

abbrev pub IsThere : Objects → ℕ → Type 0
IsThere h n = (o : Object) × (get h n ≡ Some o)

abbrev pub IsAmong : List Value → ℕ → Type 0
IsAmong [] n = ⊥
IsAmong (v ∷ vs) n = (v ≡ Ref n) ⊎ IsAmong vs n

-- in the heap, and named by one of these values
abbrev pub StandsIn : Objects → List Value → ℕ → Type 0
StandsIn h vs n = IsAmong vs n × IsThere h n

-- ---- effects and moves

module _ (good : ℕ → Type 0) (of : Names) (owner : ℕ → Owner) (t : ℕ) (h0 k0 : Objects) where
  abbrev pub EffectKin : Effect → Effect → Type 0
  EffectKin (effect.Goes a ls vs h) (effect.Goes b ms ws k) = (a ≡ b) × AreKin of ls ms × AreKin of vs ws × Alike of owner t k0 h k
  EffectKin (effect.Makes o a ls vs h) (effect.Makes q b ms ws k) = ObjectsKin of o q × (a ≡ b) × AreKin of ls ms × AreKin of vs ws × (h ≡ h0) × (k ≡ k0)
  EffectKin (effect.Opens a ls vs h) (effect.Opens b ms ws k) = (a ≡ b) × AreKin of ls ms × AreKin of vs ws × (h ≡ h0) × (k ≡ k0)
  EffectKin (effect.Calls m args a ls vs h) (effect.Calls n brgs b ms ws k) = (m ≡ n) × AreKin of args brgs × (a ≡ b) × AreKin of ls ms × AreKin of vs ws × (h ≡ h0) × (k ≡ k0)
  EffectKin (effect.Asks m args a ls vs h) (effect.Asks n brgs b ms ws k) = (m ≡ n) × AreKin of args brgs × (a ≡ b) × AreKin of ls ms × AreKin of vs ws × (h ≡ h0) × (k ≡ k0) × AreHeld good args
  EffectKin (effect.Returns v h) (effect.Returns w k) = MaybeKin of v w × (h ≡ h0) × (k ≡ k0)
  EffectKin (effect.Raises c) (effect.Raises d) = c ≡ d
  EffectKin (effect.Throws n k c) (effect.Throws x l d) = ThrownKin of n x k l c d
  EffectKin (effect.Ends c) (effect.Ends d) = c ≡ d
  EffectKin effect.Stuck effect.Stuck = Unit {0}
  EffectKin e d = ⊥

  abbrev pub ChangeKin : Change → Change → Type 0
  ChangeKin Steps Steps = Unit {0}
  ChangeKin (Enters v) (Enters w) = MaybeKin of v w
  ChangeKin Leaves Leaves = Unit {0}
  ChangeKin a b = ⊥

  abbrev pub MoveKin : Move → Move → Type 0
  MoveKin (move.Runs a fs h) (move.Runs b gs k) = ChangeKin a b × FramesKin of fs gs × Alike of owner t k0 h k
  MoveKin (move.Makes o fs h) (move.Makes q gs k) = ObjectsKin of o q × FramesKin of fs gs × (h ≡ h0) × (k ≡ k0)
  MoveKin (move.Opens fs h) (move.Opens gs k) = FramesKin of fs gs × (h ≡ h0) × (k ≡ k0)
  MoveKin (move.Asks m args fs h) (move.Asks n brgs gs k) = (m ≡ n) × AreKin of args brgs × FramesKin of fs gs × (h ≡ h0) × (k ≡ k0) × AreHeld good args
  MoveKin (move.Returns h) (move.Returns k) = (h ≡ h0) × (k ≡ k0)
  MoveKin (move.Raises c) (move.Raises d) = c ≡ d
  MoveKin (move.Throws n k c) (move.Throws x l d) = ThrownKin of n x k l c d
  MoveKin (move.Ends c) (move.Ends d) = c ≡ d
  MoveKin move.Stuck move.Stuck = Unit {0}
  MoveKin v w = ⊥
