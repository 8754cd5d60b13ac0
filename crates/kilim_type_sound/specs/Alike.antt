-- Two programs that catch alike. So it is in a fiber: methods that can't pause are in the woven program as they were, and may have exception
-- tables; their frames stand above those of methods that can pause, which have none.
use Rattle.std.specs.Prelude.{◌≡◌, true, List, [], ◌∷◌, ◌++◌, Some}
use Rattle.kilim_program.specs.declared.class.Handler.{Handler}
use Rattle.kilim_program.specs.declared.class.Method.{Method}
use Rattle.kilim_program.specs.declared.names.ClassId.{ClassId}
use Rattle.kilim_program.specs.declared.value.Value.{Value}
use Rattle.kilim_program.specs.Names.{is_empty, line_of, method_at}
use Rattle.kilim_program.specs.Program.{Program}
use Rattle.kilim_run_state.specs.Machine.{Activation}
use Rattle.kilim_run_machine.specs.Raising.{lands, thrown, unwound}

-- a frame of a method without an exception table
abbrev pub CatchesNone : Program → Activation → Type 0
CatchesNone p a = (m : Method) × (method_at p a.method ≡ Some m) × (is_empty m.handlers ≡ true)

abbrev pub AllCatchNone : Program → List Activation → Type 0
AllCatchNone p [] = Unit {0}
AllCatchNone p (a ∷ rest) = CatchesNone p a × AllCatchNone p rest

-- A pair of frames, one in each program: of a method that is in both, at one place, and with one stack. Their locals may differ.
pub record AreTwins (p w : Program) (x : Activation × Activation) : Type 0 where
  pub method : x.1.method ≡ x.0.method
  pub same : method_at w x.0.method ≡ method_at p x.0.method
  pub place : x.1.place ≡ x.0.place
  pub stack : x.1.stack ≡ x.0.stack

abbrev pub AllTwins : Program → Program → List (Activation × Activation) → Type 0
AllTwins p w [] = Unit {0}
AllTwins p w (x ∷ xs) = AreTwins p w x × AllTwins p w xs

-- the frames of pairs in the first program, and in the second
abbrev pub firsts : List (Activation × Activation) → List Activation
firsts [] = []
firsts (x ∷ xs) = x.0 ∷ firsts xs

abbrev pub seconds : List (Activation × Activation) → List Activation
seconds [] = []
seconds (x ∷ xs) = x.1 ∷ seconds xs

-- the frames below are kept where something is caught, and gone where nothing is
abbrev pub onto : (kept below : List Activation) → List Activation
onto [] below = []
onto (a ∷ rest) below = a ∷ (rest ++ below)

-- of these pairs some are gone, and the next one stands at a handler
pub record PairStands (thing : Value) (pairs : List (Activation × Activation)) (first second : Activation) (rest : List (Activation × Activation)) : Type 0 where
  pub gone : List (Activation × Activation)
  pub catching : Activation × Activation
  pub handler : Handler
  pub were : pairs ≡ gone ++ (catching ∷ rest)
  pub first_lands : first ≡ lands catching.0 thing handler
  pub second_lands : second ≡ lands catching.1 thing handler

-- nothing caught it, or a pair stands at one handler and those below it are as they were
abbrev pub PairsStand : Value → (pairs kept : List (Activation × Activation)) → Type 0
PairsStand thing pairs [] = Unit {0}
PairsStand thing pairs (x ∷ rest) = PairStands thing pairs x.0 x.1 rest

pub record TwinsAreLeft (thing : Value) (pairs : List (Activation × Activation)) (left left2 below below2 : List Activation) : Type 0 where
  pub kept : List (Activation × Activation)
  pub are : left ≡ onto (firsts kept) below
  pub are2 : left2 ≡ onto (seconds kept) below2
  pub stand : PairsStand thing pairs kept

pub record CaughtAlike : Type 0 where
  pub none_thrown : (p : Program) (c : ClassId) (thing : Value) (top : Activation) (below : List Activation) → CatchesNone p top → AllCatchNone p below → thrown p c thing top below ≡ []
  pub none_unwound : (p : Program) (c : ClassId) (thing : Value) (below : List Activation) → AllCatchNone p below → unwound p c thing below ≡ []
  pub thrown_alike : (p w : Program) (c : ClassId) (thing : Value) (x : Activation × Activation) (pairs : List (Activation × Activation)) (below below2 : List Activation) → line_of w c ≡ line_of p c → AreTwins p w x → AllTwins p w pairs → AllCatchNone p below → AllCatchNone w below2 →
      TwinsAreLeft thing (x ∷ pairs) (thrown p c thing x.0 (firsts pairs ++ below)) (thrown w c thing x.1 (seconds pairs ++ below2)) below below2
  pub unwound_alike : (p w : Program) (c : ClassId) (thing : Value) (pairs : List (Activation × Activation)) (below below2 : List Activation) → line_of w c ≡ line_of p c → AllTwins p w pairs → AllCatchNone p below → AllCatchNone w below2 →
      TwinsAreLeft thing pairs (unwound p c thing (firsts pairs ++ below)) (unwound w c thing (seconds pairs ++ below2)) below below2
