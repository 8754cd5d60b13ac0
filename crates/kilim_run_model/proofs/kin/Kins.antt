-- Values, objects and frames that are the same but for names.
use Rattle.std.proofs.Common.{◌≡◌, ℕ, zero, suc, ◌-◌, List, [], ◌∷◌, ◌++◌, length, reverse, replicate, Option, Some, None, refl, ap, subst}
use mathlib.Core.List.{reverse_aux}
use Rattle.std.specs.Prelude.{slice_get, slice_set}
use Rattle.kilim_program.specs.declared.class.Program.{Program}
use Rattle.kilim_program.specs.declared.names.FieldId.{FieldId}
use Rattle.kilim_program.specs.declared.names.MethodId.{MethodId}
use Rattle.kilim_run_state.specs.declared.value.Object.{Object}
use Rattle.kilim_program.specs.declared.value.Value.{Value}
use Rattle.kilim_program.specs.declared.value.Value.TheVariants.{Int, Long, Null, Ref, Text, Box, Fiber}
use Rattle.kilim_run_state.specs.Machine.{Activation}
use Rattle.kilim_program.specs.Names.{method_at}
use Rattle.kilim_run_state.specs.Machine.{slots_of}
use Rattle.kilim_run_machine.specs.Moves.{slots_in, entered, push_value, push_result}
use Rattle.kilim_run_model.specs.kin.Kin.{Names, IsKin, AreKin, FieldsKin, ObjectsKin, FramesKin, MaybeKin, NameKin}

module _ (of more : Names) (up : (n x : ℕ) → of n ≡ Some x → more n ≡ Some x) where
  pub value_up : (v w : Value) → IsKin of v w → IsKin more v w
  value_up (Int a) (Int b) e = e
  value_up (Long a) (Long b) e = e
  value_up Null Null e = e
  value_up (Ref n) (Ref x) e = up n x e
  value_up (Text a) (Text b) e = e
  value_up (Box a) (Box b) e = e
  value_up Fiber Fiber e = e
  value_up _ _ e = absurd e

  pub values_up : (vs ws : List Value) → AreKin of vs ws → AreKin more vs ws
  values_up [] [] e = tt
  values_up (v ∷ vs) (w ∷ ws) e = (value_up v w e.0, values_up vs ws e.1)
  values_up _ _ e = absurd e

  pub fields_up : (es ds : List (FieldId × Value)) → FieldsKin of es ds → FieldsKin more es ds
  fields_up [] [] e = tt
  fields_up (a ∷ es) (b ∷ ds) e = (e.0, value_up a.1 b.1 e.1, fields_up es ds e.2)
  fields_up _ _ e = absurd e

  pub object_up : (o q : Object) → ObjectsKin of o q → ObjectsKin more o q
  object_up o q e = record { class = e.class; fields = fields_up o.fields q.fields e.fields; elements = values_up o.elements q.elements e.elements }

  pub frames_up : (fs gs : List Activation) → FramesKin of fs gs → FramesKin more fs gs
  frames_up [] [] e = tt
  frames_up (f ∷ fs) (g ∷ gs) e = (e.0, e.1, values_up f.locals g.locals e.2, values_up f.stack g.stack e.3, frames_up fs gs e.4)
  frames_up _ _ e = absurd e

  pub name_up : (n x : Option ℕ) → NameKin of n x → NameKin more n x
  name_up None None e = tt
  name_up (Some n) (Some x) e = up n x e
  name_up _ _ e = absurd e

module _ (of : Names) where
  pub kin_length : (vs ws : List Value) → AreKin of vs ws → length vs ≡ length ws
  kin_length [] [] e = refl
  kin_length (v ∷ vs) (w ∷ ws) e = ap suc (kin_length vs ws e.1)
  kin_length _ _ e = absurd e

  pub kin_append : (vs ws cs ds : List Value) → AreKin of vs ws → AreKin of cs ds → AreKin of (vs ++ cs) (ws ++ ds)
  kin_append [] [] cs ds e d = d
  kin_append (v ∷ vs) (w ∷ ws) cs ds e d = (e.0, kin_append vs ws cs ds e.1 d)
  kin_append _ _ cs ds e d = absurd e

  kin_turn : (vs ws cs ds : List Value) → AreKin of vs ws → AreKin of cs ds → AreKin of (reverse_aux vs cs) (reverse_aux ws ds)
  kin_turn [] [] cs ds e d = d
  kin_turn (v ∷ vs) (w ∷ ws) cs ds e d = kin_turn vs ws (v ∷ cs) (w ∷ ds) e.1 (e.0, d)
  kin_turn _ _ cs ds e d = absurd e

  pub kin_reverse : (vs ws : List Value) → AreKin of vs ws → AreKin of (reverse vs) (reverse ws)
  kin_reverse vs ws e = kin_turn vs ws [] [] e tt

  pub kin_replicate : (n : ℕ) (v w : Value) → IsKin of v w → AreKin of (replicate n v) (replicate n w)
  kin_replicate zero v w e = tt
  kin_replicate (suc n) v w e = (e, kin_replicate n v w e)

  pub kin_set : (vs ws : List Value) (i : ℕ) (v w : Value) → AreKin of vs ws → IsKin of v w → AreKin of (slice_set vs i v) (slice_set ws i w)
  kin_set [] [] i v w e d = tt
  kin_set (a ∷ vs) (b ∷ ws) zero v w e d = (d, e.1)
  kin_set (a ∷ vs) (b ∷ ws) (suc i) v w e d = (e.0, kin_set vs ws i v w e.1 d)
  kin_set _ _ i v w e d = absurd e

  pub kin_get : (vs ws : List Value) (i : ℕ) → AreKin of vs ws → MaybeKin of (slice_get vs i) (slice_get ws i)
  kin_get [] [] i e = tt
  kin_get (a ∷ vs) (b ∷ ws) zero e = e.0
  kin_get (a ∷ vs) (b ∷ ws) (suc i) e = kin_get vs ws i e.1
  kin_get _ _ i e = absurd e

  pub kin_slots : (vs ws : List Value) → AreKin of vs ws → AreKin of (slots_of vs) (slots_of ws)
  kin_slots [] [] e = tt
  kin_slots (Long a ∷ vs) (Long b ∷ ws) e = (e.0, (tt, kin_slots vs ws e.1))
  kin_slots (Int a ∷ vs) (Int b ∷ ws) e = (e.0, kin_slots vs ws e.1)
  kin_slots (Null ∷ vs) (Null ∷ ws) e = (e.0, kin_slots vs ws e.1)
  kin_slots (Ref a ∷ vs) (Ref b ∷ ws) e = (e.0, kin_slots vs ws e.1)
  kin_slots (Text a ∷ vs) (Text b ∷ ws) e = (e.0, kin_slots vs ws e.1)
  kin_slots (Box a ∷ vs) (Box b ∷ ws) e = (e.0, kin_slots vs ws e.1)
  kin_slots (Fiber ∷ vs) (Fiber ∷ ws) e = (e.0, kin_slots vs ws e.1)
  kin_slots [] (w ∷ ws) e = absurd e
  kin_slots (v ∷ vs) [] e = absurd e
  kin_slots (v ∷ vs) (w ∷ ws) e = absurd e.0

  pub kin_entered : (p : Program) (m : MethodId) (vs ws : List Value) (fs gs : List Activation) → AreKin of vs ws → FramesKin of fs gs → FramesKin of (entered p m vs ∷ fs) (entered p m ws ∷ gs)
  kin_entered p m vs ws fs gs e below =
      let slots = kin_slots vs ws e in
      let room = slots_in (method_at p m) in
      let same : room - length (slots_of vs) ≡ room - length (slots_of ws) = ap (λ (n : ℕ). room - n) (kin_length (slots_of vs) (slots_of ws) slots) in (
        refl,
        refl,
        kin_append (slots_of vs) (slots_of ws) _ _ slots (subst (λ (n : ℕ). AreKin of (replicate (room - length (slots_of vs)) Null) (replicate n Null)) same (kin_replicate (room - length (slots_of vs)) Null Null tt)),
        tt,
        below,
      )

  pub kin_push : (v w : Value) (fs gs : List Activation) → IsKin of v w → FramesKin of fs gs → FramesKin of (push_value v fs) (push_value w gs)
  kin_push v w [] [] e d = tt
  kin_push v w (f ∷ fs) (g ∷ gs) e d = (d.0, d.1, d.2, (e, d.3), d.4)
  kin_push v w _ _ e d = absurd d

  pub kin_result : (v w : Option Value) (fs gs : List Activation) → MaybeKin of v w → FramesKin of fs gs → FramesKin of (push_result v fs) (push_result w gs)
  kin_result None None fs gs e d = d
  kin_result (Some v) (Some w) fs gs e d = kin_push v w fs gs e d
  kin_result _ _ fs gs e d = absurd e

  pub frames_length : (fs gs : List Activation) → FramesKin of fs gs → length fs ≡ length gs
  frames_length [] [] e = refl
  frames_length (f ∷ fs) (g ∷ gs) e = ap suc (frames_length fs gs e.4)
  frames_length _ _ e = absurd e
