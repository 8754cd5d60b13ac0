-- The stacks of a thread of verified code have room for what comes on them.
use Rattle.std.proofs.Common.{◌≡◌, inl, inr, cond, eqb, ℕ, suc, ◌<◌, ◌≤◌, Bool, true, false, List, [], ◌∷◌, length, Option, Some, None, refl, sym, ap, subst, ◌∙◌, arith}
use Rattle.std.specs.Prelude.{◌||◌, is_some}
use Rattle.std.proofs.lemmas.Bool.{and_parts}
use Rattle.std.proofs.lemmas.Option.{same_Some}
use Rattle.kilim_program.specs.declared.class.Method.{Method}
use Rattle.kilim_program.specs.declared.instr.Instr.{Instr}
use Rattle.kilim_program.specs.declared.names.MethodId.{MethodId}
use Rattle.kilim_program.specs.declared.names.FieldId.{FieldId}
use Rattle.kilim_program.specs.declared.value.Value.{Value}
use Rattle.kilim_program.specs.declared.value.Value.TheVariants as value
use Rattle.kilim_program.specs.declared.verified.VType.{VType}
use Rattle.kilim_program.specs.Lengths.{fetched, first_place, is_code_place}
use Rattle.kilim_program.specs.Names.{method_at}
use Rattle.kilim_program.specs.Program.{Program}
use Rattle.kilim_fiber_spec.specs.fiber_kin.Mine.{all_mine}
use Rattle.kilim_fiber_spec.specs.fiber_kin.Served.{IsFineThread, ResultFits}
use Rattle.kilim_isolation_laws.proofs.typed_threads.fine.Fine.{fitting_is_fine}
use Rattle.kilim_isolation_laws.proofs.typed_threads.fine.Heights.{low_stack, some_size}
use Rattle.kilim_isolation_laws.specs.typed_threads.fine.Typed.{FitsAs, IsVerified}
use Rattle.kilim_type_sound.specs.Fits.{AreThere, Classes, IsThere, Typing, Wanted, has_type, have_types}
use Rattle.kilim_run_interp.specs.Step.{FitsStack, limit_in, stack_limit}
use Rattle.kilim_run_model.proofs.kin.Rows.{rows_kin}
use Rattle.kilim_run_model.specs.kin.Kin.{Alike, AreHeld, AreKin, EffectKin, FieldsKin, IsAmong, IsHeld, IsKin, StandsIn}
use Rattle.kilim_run_model.specs.kin.Kin as kin
use Rattle.kilim_run_model.proofs.one_heap.Wholes.{is_whole}
use Rattle.kilim_run_model.specs.one_heap.Lones.{WholeMove}
use Rattle.kilim_run_machine.specs.Does.{does}
use Rattle.kilim_run_rows.specs.Outcome.{is_stuck}
use Rattle.kilim_run_machine.specs.Effect.{Effect, Goes, Makes, Opens, Calls, Asks, Returns, Raises, Throws, Ends, Stuck}
use Rattle.kilim_run_state.specs.Machine.{Activation, Objects}
use Rattle.kilim_run_machine.specs.Moves.{effect_found, effect_in, effect_of, move_by, moves}
use Rattle.kilim_run_machine.specs.Natives.{Native, native_of}
use Rattle.kilim_run_machine.specs.Natives as native
use Rattle.kilim_run_state.specs.Trees.{OfMessage, OfTask, Root}
use Rattle.kilim_run_model.specs.Kept.{IsKept, given}
use Rattle.kilim_run_model.specs.Reach.{Liveness, Names, OptionNames, SomeNames}
use Rattle.kilim_run_model.specs.State.{Alive, Setting}
use Rattle.kilim_type_spec.specs.Step.{words}
use Rattle.kilim_type_spec.specs.Typed.{WellTypedBy}
use Rattle.kilim_fiber_spec.specs.lone.Law.{lone_at, lone_frames}
use Rattle.kilim_fiber_spec.specs.Acts.{World}
use Rattle.kilim_fiber_spec.specs.Fibers.{frame}
use Rattle.kilim_fiber_spec.specs.Rooms.{GivesWhole, HasRoom, ResultHasRoom, bare_frames}
use Rattle.kilim_fiber_spec.specs.Thread.{At, Frame, code_in, fetch, own_in, own_of}

-- ---- how many values there are

pub types_length : (p : Program) (m : Method) (of : Classes) (ts : List VType) (vs : List Value) → have_types p m of ts vs ≡ true → length vs ≤ words ts
types_length p m of [] [] e = omega arith
types_length p m of [] (v ∷ vs) e = absurd (cc)
types_length p m of (t ∷ ts) [] e = absurd (cc)
types_length p m of (t ∷ ts) (v ∷ vs) e =
    let rest = types_length p m of ts vs (and_parts (has_type p m of t v) (have_types p m of ts vs) e).1 in
    let one = some_size t in
    omega (arith, rest, one)

-- a place with an instruction
pub place_there : (es : List (ℕ × Instr)) (end at : ℕ) → is_some (fetched es end at) ≡ true → is_code_place es at ≡ true
place_there [] end at e = absurd (cc)
place_there (x ∷ es) end at e = by (eqb x.0 at) e (place_there es end at)
  where
    by : (z : Bool) → is_some (cond z (Some (x.1, first_place es end)) (fetched es end at)) ≡ true → (is_some (fetched es end at) ≡ true → is_code_place es at ≡ true) → (z || is_code_place es at) ≡ true
    by true e again = refl
    by false e again = again e

-- the typed stack at a place isn't higher than the method may have it
pub typing_low : (p : Program) (typing : Typing) (m : MethodId) (own : Method) → method_at p m ≡ Some own → WellTypedBy p own (typing m) → (at : ℕ) → is_some (fetched own.code own.code_length at) ≡ true → words (typing m at).stack ≤ stack_limit p m
typing_low p typing m own there well at found =
    subst (λ (o : Option Method). words (typing m at).stack ≤ limit_in o) (sym there) (low_stack p own (typing m) well at (place_there own.code own.code_length at found))

bare_is : (b : List Frame) → lone_frames b ≡ bare_frames b
bare_is [] = refl
bare_is (At m p l s x ∷ b) = ap (λ (fs : List Activation). frame m p l s ∷ fs) (bare_is b)

-- the setting where one instruction is left
abbrev one_left : Setting → World → Setting
one_left set w = record set { limits = record set.limits { steps = suc w.done } }

module _ (set : Setting) (m : MethodId) (p : ℕ) (l s : List Value) (w : World) (i : Instr) (to : ℕ) (f : fetch set.program m p ≡ Some (i, to)) where
  effect_is : effect_of set.program (frame m p l s) w.heap ≡ does set.program (own_of set.program m) i to l s w.heap
  effect_is = by (method_at set.program m) f
    where
      by : (o : Option Method) → code_in o p ≡ Some (i, to) → effect_in set.program (frame m p l s) w.heap o ≡ does set.program (own_in o) i to l s w.heap
      by None e = absurd (cc)
      by (Some own) e = ap (λ (z : Option (Instr × ℕ)). effect_found set.program own (frame m p l s) w.heap z) e

module _ (set : Setting) (typing : Typing) (wanted : Wanted) (is : IsVerified set typing wanted) (of : Classes) (m : MethodId) (p : ℕ) (l s : List Value) (b : List Frame) (w : World) (fits : FitsAs set typing wanted of (lone_at m p l s b w)) where
  pub low_of : length s ≤ stack_limit set.program m
  low_of =
      let top = fits.fits.frames.0 in
      let few = types_length set.program top.method of (typing m p).stack s top.stack in
      let low = typing_low set.program typing m top.method top.there (is.verified.typed m top.method top.there top.code) p top.stands in
      omega (arith, few, low)

  module _ (there : AreThere w.heap s) (i : Instr) (to : ℕ) (f : fetch set.program m p ≡ Some (i, to)) where
    -- what the instruction needs doesn't depend on how many are left
    fine : IsFineThread (one_left set w) (lone_at m p l s b w)
    fine = fitting_is_fine (one_left set w) typing wanted of (lone_at m p l s b w) (record { keeps = is.keeps; form = is.form; verified = is.verified }) (record { fits = fits.fits; fresh = fits.fresh; kept = fits.kept }) there

    left : w.done < (one_left set w).limits.steps
    left = omega arith

    result_room : (e : Effect) → effect_of set.program (frame m p l s) w.heap ≡ e → ResultHasRoom set.program e m
    unfolding moves
    result_room (Asks c args q l2 s2 heap) d = subst (λ (e : Effect). ResultFits (one_left set w) (move_by set.program e (frame m p l s) (lone_frames b))) d (fine.result (frame m p l s) (lone_frames b) w.done w.boxes refl left)
    result_room (Goes q l2 s2 heap) d = tt
    result_room (Makes object q l2 s2 heap) d = tt
    result_room (Opens q l2 s2 heap) d = tt
    result_room (Calls c args q l2 s2 heap) d = tt
    result_room (Returns v heap) d = tt
    result_room (Raises cause) d = tt
    result_room (Throws object class cause) d = tt
    result_room (Ends cause) d = tt
    result_room Stuck d = tt

    pub room_of : HasRoom set.program (does set.program (own_of set.program m) i to l s w.heap) m (bare_frames b)
    room_of = record {
      unstuck = subst (λ (e : Effect). is_stuck e ≡ false) (effect_is set m p l s w i to f) (fine.steps (frame m p l s) (lone_frames b) w.done w.boxes refl left).fine;
      fits = subst (λ (fs : List Activation). FitsStack set.program (does set.program (own_of set.program m) i to l s w.heap) m fs) (bare_is b)
          (subst (λ (e : Effect). FitsStack set.program e m (lone_frames b)) (effect_is set m p l s w i to f) (fine.steps (frame m p l s) (lone_frames b) w.done w.boxes refl left).fits);
      result = result_room (does set.program (own_of set.program m) i to l s w.heap) (effect_is set m p l s w i to f);
    }

-- ---- what is given away

-- under their own names
same_value : (v : Value) → IsKin (λ n. Some n) v v
same_value (value.Int x) = refl
same_value (value.Long x) = refl
same_value value.Null = tt
same_value (value.Ref n) = refl
same_value (value.Text units) = refl
same_value (value.Box box) = refl
same_value value.Fiber = tt

same_values : (vs : List Value) → AreKin (λ n. Some n) vs vs
same_values [] = tt
same_values (v ∷ vs) = (same_value v, same_values vs)

same_fields : (es : List (FieldId × Value)) → FieldsKin (λ n. Some n) es es
same_fields [] = tt
same_fields (e ∷ es) = (refl, same_value e.1, same_fields es)

same_heap : (h : Objects) → Alike (λ n. Some n) all_mine 0 h h h
same_heap h = record {
  same = λ n o e. (n, o, refl, e, record { class = refl; fields = same_fields o.fields; elements = same_values o.elements }, refl);
  apart = λ n m x o q e d a b. same_Some n m (e ∙ sym d);
  rest = λ x. inl refl;
}

held_of : (h : Objects) (s : List Value) → AreThere h s → AreHeld (kin.IsThere h) s
held_of h [] t = tt
held_of h (v ∷ vs) t = (by v t.0, held_of h vs t.1)
  where
    by : (v : Value) → IsThere h v → IsHeld (kin.IsThere h) v
    by (value.Ref n) t = t
    by (value.Int x) t = tt
    by (value.Long x) t = tt
    by value.Null t = tt
    by (value.Text units) t = tt
    by (value.Box box) t = tt
    by value.Fiber t = tt

among_names : (vs : List Value) (n : ℕ) → IsAmong vs n → SomeNames vs n
among_names [] n e = absurd e
among_names (v ∷ vs) n (inl e) = inl (subst (λ (z : Value). Names z n) (sym e) refl)
among_names (v ∷ vs) n (inr e) = inr (among_names vs n e)

none_given : (x : Root × ℕ) → None ≡ Some x → ⊥
none_given x e = cc

given_is : (a b : Root × ℕ) → Some a ≡ Some b → a ≡ b
given_is a b e = cc

-- what is given away stands among the arguments
given_among : (good : ℕ → Type 0) (o : Option Native) (args : List Value) (root : Root) (n : ℕ) → AreHeld good args → given o args ≡ Some (root, n) → good n
given_among good (Some native.Put) (value.Box box ∷ value.Ref k ∷ []) root n g e = subst good (ap (λ (z : Root × ℕ). z.1) (given_is (OfMessage, k) (root, n) e)) g.1.0
given_among good (Some native.PutWait) (value.Box box ∷ value.Ref k ∷ []) root n g e = subst good (ap (λ (z : Root × ℕ). z.1) (given_is (OfMessage, k) (root, n) e)) g.1.0
given_among good (Some native.PutWait) (value.Box box ∷ value.Ref k ∷ value.Fiber ∷ []) root n g e = subst good (ap (λ (z : Root × ℕ). z.1) (given_is (OfMessage, k) (root, n) e)) g.1.0
given_among good (Some native.Start) (value.Ref k ∷ []) root n g e = subst good (ap (λ (z : Root × ℕ). z.1) (given_is (OfTask, k) (root, n) e)) g.0
given_among good _ _ root n g e = absurd (none_given (root, n) e)

module _ (set : Setting) (live : Liveness) (m : MethodId) (p : ℕ) (l s : List Value) (b : List Frame) (w : World) (kept : IsKept live set (lone_at m p l s b w)) (fine : IsFineThread set (lone_at m p l s b w)) (there : AreThere w.heap s)
    (i : Instr) (to : ℕ) (f : fetch set.program m p ≡ Some (i, to)) where
  gives_by : (e : Effect) → does set.program (own_of set.program m) i to l s w.heap ≡ e → GivesWhole set.program set.program w.heap e
  unfolding moves
  gives_by (Asks c args q l2 s2 heap) d = λ root n g.
      let kin_is : EffectKin (StandsIn w.heap s) (λ n. Some n) all_mine 0 w.heap w.heap (Asks c args q l2 s2 heap) (Asks c args q l2 s2 heap) =
      subst (λ (e : Effect). EffectKin (StandsIn w.heap s) (λ n. Some n) all_mine 0 w.heap w.heap e e) d
      (rows_kin set.program (λ n. Some n) all_mine 0 w.heap w.heap (same_heap w.heap) (own_of set.program m) i to l l s s (same_values l) (same_values s) (held_of w.heap s there)) in
      let stands = given_among (StandsIn w.heap s) (native_of set.program c) args root n kin_is.7 g in
      let whole : WholeMove set.program w.heap (move_by set.program (Asks c args q l2 s2 heap) (frame m p l s) (lone_frames b)) =
      subst (λ (e : Effect). WholeMove set.program w.heap (move_by set.program e (frame m p l s) (lone_frames b))) (effect_is set m p l s w i to f ∙ d) (is_whole live (one_left set w) (lone_at m p l s b w) (record { there = kept.there; formed = kept.formed; gives = kept.gives }) (omega arith)).1 in
      record {
        tree = whole root n g;
        below = λ x under.
            let named : OptionNames live (Some (Alive (frame m p l s ∷ lone_frames b) w.done w.boxes)) w.kept n = inl (inl (among_names s n stands.0)) in
            let o = kept.there n x named under in
            record { object = o.0; there = o.1; formed = kept.formed n x o.0 named under o.1; shown = fine.shown x o.0 o.1 };
      }
  gives_by (Goes q l2 s2 heap) d = tt
  gives_by (Makes object q l2 s2 heap) d = tt
  gives_by (Opens q l2 s2 heap) d = tt
  gives_by (Calls c args q l2 s2 heap) d = tt
  gives_by (Returns v heap) d = tt
  gives_by (Raises cause) d = tt
  gives_by (Throws object class cause) d = tt
  gives_by (Ends cause) d = tt
  gives_by Stuck d = tt

  pub gives_of : GivesWhole set.program set.program w.heap (does set.program (own_of set.program m) i to l s w.heap)
  gives_of = gives_by (does set.program (own_of set.program m) i to l s w.heap) refl
