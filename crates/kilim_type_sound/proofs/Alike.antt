-- Two programs that catch alike.
use Rattle.std.proofs.Common.{◌≡◌, ℕ, Bool, true, true≢false, List, [], ◌∷◌, ◌++◌, Option, Some, None, refl, sym, ap, subst, ◌∙◌}
use Rattle.std.specs.Prelude.{◌&&◌, ◌==◌, if◌then◌else◌}
use Rattle.std.specs.List.{list_any}
use Rattle.kilim_program.specs.declared.class.Handler.{Handler}
use Rattle.kilim_program.specs.declared.class.Method.{Method}
use Rattle.kilim_program.specs.declared.instr.Instr.{Instr}
use Rattle.kilim_program.specs.declared.names.ClassId.{ClassId}
use Rattle.kilim_program.specs.declared.value.Value.{Value}
use Rattle.kilim_program.specs.Names.{is_empty, line_of, method_at}
use Rattle.kilim_program.specs.Program.{Program}
use Rattle.kilim_run_state.specs.Machine.{Activation}
use Rattle.kilim_run_machine.specs.Raising.{call_in, catches, catches_class, caught_behind, caught_by, caught_in, covers, handler_of, lands, or_below, thrown, unwound}
use Rattle.kilim_type_sound.specs.Alike.{AllCatchNone, AllTwins, AreTwins, CatchesNone, CaughtAlike, PairStands, PairsStand, TwinsAreLeft, firsts, onto, seconds}

-- ---- frames without tables catch nothing

module _ (p : Program) (c : ClassId) (v : Value) where
  by_none : (a : Activation) (at : ℕ) (hs : List Handler) → is_empty hs ≡ true → caught_by a v (handler_of p c at hs) ≡ None
  by_none a at [] e = refl
  by_none a at (h ∷ hs) e = absurd (true≢false (sym e))

  in_none : (a : Activation) (at : ℕ) → CatchesNone p a → caught_in p c v a at (method_at p a.method) ≡ None
  in_none a at n = ap (caught_in p c v a at) n.1 ∙ by_none a at n.0.handlers n.2

  behind_none : (a : Activation) (o : Option (ℕ × Instr)) → CatchesNone p a → caught_behind p c v a o ≡ None
  behind_none a None n = refl
  behind_none a (Some call) n = in_none a call.0 n

  none_unwound : (below : List Activation) → AllCatchNone p below → unwound p c v below ≡ []
  none_unwound [] all = refl
  none_unwound (a ∷ rest) all = ap (λ (o : Option Activation). or_below o rest (unwound p c v rest)) (behind_none a (call_in (method_at p a.method) a.place) all.0) ∙ none_unwound rest all.1

  none_thrown : (top : Activation) (below : List Activation) → CatchesNone p top → AllCatchNone p below → thrown p c v top below ≡ []
  none_thrown top below none all = ap (λ (o : Option Activation). or_below o below (unwound p c v below)) (in_none top top.place none) ∙ none_unwound below all

  -- so frames above them are unwound as if those weren't there
  or_onto : (o : Option Activation) (rest below un : List Activation) → or_below o (rest ++ below) (onto un below) ≡ onto (or_below o rest un) below
  or_onto None rest below un = refl
  or_onto (Some a) rest below un = refl

  onto_unwound : (fs below : List Activation) → AllCatchNone p below → unwound p c v (fs ++ below) ≡ onto (unwound p c v fs) below
  onto_unwound [] below all = none_unwound below all
  onto_unwound (a ∷ rest) below all =
      let o = caught_behind p c v a (call_in (method_at p a.method) a.place) in
      ap (or_below o (rest ++ below)) (onto_unwound rest below all) ∙ or_onto o rest below (unwound p c v rest)

  onto_thrown : (top : Activation) (fs below : List Activation) → AllCatchNone p below → thrown p c v top (fs ++ below) ≡ onto (thrown p c v top fs) below
  onto_thrown top fs below all =
      let o = caught_in p c v top top.place (method_at p top.method) in
      ap (or_below o (fs ++ below)) (onto_unwound fs below all) ∙ or_onto o fs below (unwound p c v fs)

-- ---- twins

module _ (p w : Program) (c : ClassId) (v : Value) (line : line_of w c ≡ line_of p c) where
  class_same : (o : Option ClassId) → catches_class w o c ≡ catches_class p o c
  class_same None = refl
  class_same (Some d) = ap (list_any (λ (e : ClassId). e.0 == d.0)) line

  handler_same : (at : ℕ) (hs : List Handler) → handler_of w c at hs ≡ handler_of p c at hs
  handler_same at [] = refl
  handler_same at (h ∷ hs) =
      ap (λ (b : Bool). if covers h at && b then Some h else handler_of w c at hs) (class_same h.catch) ∙ ap (λ (o : Option Handler). if catches p c at h then Some h else o) (handler_same at hs)

  -- both stand at one handler, or none does
  abbrev Both : Activation × Activation → Option Activation → Option Activation → Type 0
  Both x None None = Unit {0}
  Both x (Some a) (Some b) = (h : Handler) × (a ≡ lands x.0 v h) × (b ≡ lands x.1 v h)
  Both x _ _ = ⊥

  by_both : (x : Activation × Activation) (o : Option Handler) → Both x (caught_by x.0 v o) (caught_by x.1 v o)
  by_both x None = tt
  by_both x (Some h) = (h, refl, refl)

  in_both : (x : Activation × Activation) (at : ℕ) (o : Option Method) → Both x (caught_in p c v x.0 at o) (caught_in w c v x.1 at o)
  in_both x at None = tt
  in_both x at (Some m) = subst (λ (o : Option Handler). Both x (caught_by x.0 v (handler_of p c at m.handlers)) (caught_by x.1 v o)) (sym (handler_same at m.handlers)) (by_both x (handler_of p c at m.handlers))

  methods : (x : Activation × Activation) → AreTwins p w x → method_at w x.1.method ≡ method_at p x.0.method
  methods x t = ap (method_at w) t.method ∙ t.same

  at_both : (x : Activation × Activation) → AreTwins p w x → (at : ℕ) → Both x (caught_in p c v x.0 at (method_at p x.0.method)) (caught_in w c v x.1 at (method_at w x.1.method))
  at_both x t at = subst (λ (o : Option Method). Both x (caught_in p c v x.0 at (method_at p x.0.method)) (caught_in w c v x.1 at o)) (sym (methods x t)) (in_both x at (method_at p x.0.method))

  top_both : (x : Activation × Activation) → AreTwins p w x → Both x (caught_in p c v x.0 x.0.place (method_at p x.0.method)) (caught_in w c v x.1 x.1.place (method_at w x.1.method))
  top_both x t = subst (λ (at : ℕ). Both x (caught_in p c v x.0 x.0.place (method_at p x.0.method)) (caught_in w c v x.1 at (method_at w x.1.method))) (sym t.place) (at_both x t x.0.place)

  call_both : (x : Activation × Activation) → AreTwins p w x → (o : Option (ℕ × Instr)) → Both x (caught_behind p c v x.0 o) (caught_behind w c v x.1 o)
  call_both x t None = tt
  call_both x t (Some call) = at_both x t call.0

  behind_both : (x : Activation × Activation) → AreTwins p w x → Both x (caught_behind p c v x.0 (call_in (method_at p x.0.method) x.0.place)) (caught_behind w c v x.1 (call_in (method_at w x.1.method) x.1.place))
  behind_both x t =
      let calls : call_in (method_at w x.1.method) x.1.place ≡ call_in (method_at p x.0.method) x.0.place = ap (λ (o : Option Method). call_in o x.1.place) (methods x t) ∙ ap (call_in (method_at p x.0.method)) t.place in
      subst (λ (o : Option (ℕ × Instr)). Both x (caught_behind p c v x.0 (call_in (method_at p x.0.method) x.0.place)) (caught_behind w c v x.1 o)) (sym calls) (call_both x t (call_in (method_at p x.0.method) x.0.place))

  record Kept (pairs : List (Activation × Activation)) (un un2 : List Activation) : Type 0 where
    kept : List (Activation × Activation)
    are : un ≡ firsts kept
    are2 : un2 ≡ seconds kept
    stand : PairsStand v pairs kept

  one_more : (x : Activation × Activation) (pairs kept : List (Activation × Activation)) → PairsStand v pairs kept → PairsStand v (x ∷ pairs) kept
  one_more x pairs [] s = tt
  one_more x pairs (k ∷ rest) s = record {
    gone = x ∷ s.gone;
    catching = s.catching;
    handler = s.handler;
    were = ap (λ (xs : List (Activation × Activation)). x ∷ xs) s.were;
    first_lands = s.first_lands;
    second_lands = s.second_lands;
  }

  or_kept : (x : Activation × Activation) (pairs : List (Activation × Activation)) (o o2 : Option Activation) (un un2 : List Activation) → Both x o o2 → Kept pairs un un2 → Kept (x ∷ pairs) (or_below o (firsts pairs) un) (or_below o2 (seconds pairs) un2)
  or_kept x pairs None None un un2 both later = record { kept = later.kept; are = later.are; are2 = later.are2; stand = one_more x pairs later.kept later.stand }
  or_kept x pairs (Some a) (Some b) un un2 both later = record {
    kept = (a, b) ∷ pairs;
    are = refl;
    are2 = refl;
    stand = record { gone = []; catching = x; handler = both.0; were = refl; first_lands = both.1; second_lands = both.2 };
  }
  or_kept x pairs None (Some b) un un2 both later = absurd both
  or_kept x pairs (Some a) None un un2 both later = absurd both

  unwound_kept : (pairs : List (Activation × Activation)) → AllTwins p w pairs → Kept pairs (unwound p c v (firsts pairs)) (unwound w c v (seconds pairs))
  unwound_kept [] all = record { kept = []; are = refl; are2 = refl; stand = tt }
  unwound_kept (x ∷ pairs) all =
      or_kept x pairs (caught_behind p c v x.0 (call_in (method_at p x.0.method) x.0.place)) (caught_behind w c v x.1 (call_in (method_at w x.1.method) x.1.place)) (unwound p c v (firsts pairs)) (unwound w c v (seconds pairs)) (behind_both x all.0) (unwound_kept pairs all.1)

  thrown_kept : (x : Activation × Activation) (pairs : List (Activation × Activation)) → AreTwins p w x → AllTwins p w pairs → Kept (x ∷ pairs) (thrown p c v x.0 (firsts pairs)) (thrown w c v x.1 (seconds pairs))
  thrown_kept x pairs t all =
      or_kept x pairs (caught_in p c v x.0 x.0.place (method_at p x.0.method)) (caught_in w c v x.1 x.1.place (method_at w x.1.method)) (unwound p c v (firsts pairs)) (unwound w c v (seconds pairs)) (top_both x t) (unwound_kept pairs all)

pub caught_alike : CaughtAlike
caught_alike = record {
  none_thrown = λ p c thing top below none all. none_thrown p c thing top below none all;
  none_unwound = λ p c thing below all. none_unwound p c thing below all;
  thrown_alike = λ p w c thing x pairs below below2 line t all none none2. let k = thrown_kept p w c thing line x pairs t all in record {
    kept = k.kept;
    are = onto_thrown p c thing x.0 (firsts pairs) below none ∙ ap (λ (fs : List Activation). onto fs below) k.are;
    are2 = onto_thrown w c thing x.1 (seconds pairs) below2 none2 ∙ ap (λ (fs : List Activation). onto fs below2) k.are2;
    stand = k.stand;
  };
  unwound_alike = λ p w c thing pairs below below2 line all none none2. let k = unwound_kept p w c thing line pairs all in record {
    kept = k.kept;
    are = onto_unwound p c thing (firsts pairs) below none ∙ ap (λ (fs : List Activation). onto fs below) k.are;
    are2 = onto_unwound w c thing (seconds pairs) below2 none2 ∙ ap (λ (fs : List Activation). onto fs below2) k.are2;
    stand = k.stand;
  };
}
