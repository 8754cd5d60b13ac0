-- Each old instruction that is no pausable call, on both sides.
use Rattle.std.proofs.Common.{◌≡◌, ◌≢◌, ℕ, Bool, true, false, List, Option, Some, None, refl, sym, ap, ◌∙◌}
use Rattle.std.specs.Prelude.{if◌then◌else◌}
use Rattle.kilim_program.specs.declared.class.Method.{Method}
use Rattle.kilim_program.specs.declared.instr.Instr.{Instr}
use Rattle.kilim_program.specs.declared.instr.Instr.TheVariants as instr
use Rattle.kilim_program.specs.declared.names.MethodId.{MethodId}
use Rattle.kilim_program.specs.declared.ty.Ty.{Ty}
use Rattle.kilim_run_state.specs.declared.value.Object.{Object}
use Rattle.kilim_program.specs.declared.value.Value.{Value}
use Rattle.kilim_program.specs.declared.value.Value.TheVariants as value
use Rattle.kilim_program.specs.Program.{Program}
use Rattle.kilim_run_state.specs.Machine.{Objects}
use Rattle.kilim_run_machine.specs.Effect.{Effect, Makes, Opens, Stuck}
use Rattle.kilim_run_machine.specs.Does.{does}
use Rattle.kilim_run_model.specs.State.{Setting}
use Rattle.kilim_weave_spec.specs.Woven.{pausable_callee, moved_instr}
use Rattle.kilim_fiber_spec.specs.alike.Shares.{SharesPauses, SharesRows}
use Rattle.kilim_fiber_spec.specs.Thread.{fetch, own_of}
use Rattle.kilim_fiber_spec.specs.Form.{Facts}
use Rattle.kilim_fiber_spec.specs.Rows.{elsewhere, OldHeap}
use Rattle.kilim_fiber_spec.specs.Serves.{Rows, Twins}
use Rattle.kilim_fiber_spec.specs.Links.{Forms, code, Alike, Held}
use Rattle.std.specs.FinMap.{get}
use Rattle.kilim_program.specs.declared.names.ClassId.{ClassId}
use Rattle.kilim_program.specs.declared.names.FieldId.{FieldId}
use Rattle.kilim_run_machine.specs.Effect.{as_class}
use Rattle.kilim_run_machine.specs.Does.{is_mailbox}
use Rattle.kilim_run_state.specs.Objects.{new_object}
use Rattle.kilim_program.specs.Lengths.{ends_path}
use Rattle.kilim_fiber_spec.specs.Rows.{IsClean}
use Rattle.kilim_fiber_spec.proofs.alike.Effects.{e_if}
use Rattle.kilim_fiber_spec.proofs.alike.Lands.{q_constant, hushed, q_value, q_int, q_long, q_some, q_if, q_reference, q_object, q_index, q_throws}
use Rattle.kilim_fiber_spec.proofs.alike.TwinRows.{next_is, is_load}
use Rattle.kilim_fiber_spec.proofs.alike.Hands.{hands}
use Rattle.kilim_fiber_spec.proofs.alike.Shapes.{shapes}
use Rattle.kilim_fiber_spec.proofs.alike.TwinRows as twin
use Rattle.kilim_fiber_spec.proofs.alike.MoreRows as more
use Rattle.std.proofs.lemmas.Bool.{false≢true}

q_class : (P : Program) (v : Value) (heap : Objects) (go : Option Ty → Effect) → hushed (as_class P v heap go) ≡ as_class P v heap (λ o. hushed (go o))
q_class P (value.Int x) heap go = refl
q_class P (value.Long x) heap go = refl
q_class P (value.Ref n) heap go = q_some (get heap n) (λ object. go (Some object.class))
q_class P v heap go = refl

module _ (set : Setting) (W : Program) (marks : List (List Bool)) (form : Forms set W marks) (facts : (m : MethodId) → Facts set.program W (code set W marks) (form m)) (shared : SharesRows set W) where
  abbrev P : Program
  P = set.program

  load_hushed : (own : Method) (i : Instr) (to : ℕ) (l s : List Value) (heap : Objects) → is_load i ≡ true → hushed (does P own i to l s heap) ≡ does P own i to l s heap
  unfolding does
  load_hushed own (instr.Iload n) to l s heap h = simp (q_some, q_int)
  load_hushed own (instr.Lload n) to l s heap h = simp (q_some, q_long)
  load_hushed own (instr.Aload n) to l s heap h = simp (q_some, q_reference)
  load_hushed own i to l s heap h = absurd (false≢true h)

  put_hushed : (own : Method) (f : FieldId) (to : ℕ) (l s : List Value) (heap : Objects) → hushed (does P own (instr.Putfield f) to l s heap) ≡ does P own (instr.Putfield f) to l s heap
  unfolding does
  put_hushed own f to l s heap = simp (q_value, q_object, q_some)

  static_field_hushed : (own : Method) (f : FieldId) (to : ℕ) (l s : List Value) (heap : Objects) → hushed (does P own (instr.Getstatic f) to l s heap) ≡ does P own (instr.Getstatic f) to l s heap
  unfolding does
  static_field_hushed own f to l s heap = simp (q_some, q_constant)

  ireturn_hushed : (own : Method) (to : ℕ) (l s : List Value) (heap : Objects) → hushed (does P own instr.Ireturn to l s heap) ≡ does P own instr.Ireturn to l s heap
  unfolding does
  ireturn_hushed own to l s heap = simp (q_value, q_int)

  cast_hushed : (own : Method) (ty : Ty) (to : ℕ) (l s : List Value) (heap : Objects) → hushed (does P own (instr.Checkcast ty) to l s heap) ≡ does P own (instr.Checkcast ty) to l s heap
  unfolding does
  cast_hushed own ty to l s heap = simp (q_value, q_class, q_if)

  instance_hushed : (own : Method) (ty : Ty) (to : ℕ) (l s : List Value) (heap : Objects) → hushed (does P own (instr.Instanceof ty) to l s heap) ≡ does P own (instr.Instanceof ty) to l s heap
  unfolding does
  instance_hushed own ty to l s heap = simp (q_value, q_class)

  aastore_hushed : (own : Method) (to : ℕ) (l s : List Value) (heap : Objects) → hushed (does P own instr.Aastore to l s heap) ≡ does P own instr.Aastore to l s heap
  unfolding does
  aastore_hushed own to l s heap = simp (q_value, q_int, q_object, q_index, q_class, q_if)

  throw_hushed : (own : Method) (to : ℕ) (l s : List Value) (heap : Objects) → hushed (does P own instr.Athrow to l s heap) ≡ does P own instr.Athrow to l s heap
  unfolding does
  throw_hushed own to l s heap = simp (q_value, q_object, q_throws)

  new_hushed : (own : Method) (c : ClassId) (to : ℕ) (l s : List Value) (heap : Objects) → hushed (does P own (instr.New c) to l s heap) ≡ does P own (instr.New c) to l s heap
  unfolding does
  new_hushed own c to l s heap = simp (q_if)

  new_same : (R : Program) (mine its : Method) (c : ClassId) → is_mailbox R c ≡ is_mailbox P c → new_object R c ≡ new_object P c → (at : ℕ → ℕ) (to : ℕ) (l wl s : List Value) (heap : Objects) → does R its (instr.New c) (at to) wl s heap ≡ elsewhere at wl (does P mine (instr.New c) to l s heap)
  unfolding does
  new_same R mine its c m z at to l wl s heap =
      ap (λ (b : Bool). if b then Opens (at to) wl s heap else Makes (new_object R c) (at to) wl s heap) m
      ∙ ap (λ (o : Object). if is_mailbox P c then Opens (at to) wl s heap else Makes o (at to) wl s heap) z
      ∙ sym (e_if at wl (is_mailbox P c) (Opens to l s heap) (Makes (new_object P c) to l s heap))

  pub twins : (m : MethodId) (p to nx : ℕ) (i : Instr) (l wl s : List Value) (x : Value) (heap : Objects) → fetch P m p ≡ Some (i, to) → pausable_callee P i ≡ None → (ends_path i ≡ false → nx ≡ (form m).at to)
      → OldHeap P heap → IsClean P i s heap → Alike set W marks form m p l wl → Held set W marks form (form m).has_calls m l wl x → does P (own_of P m) i to l s heap ≢ Stuck
      → Twins set W marks form m l wl x (does P (own_of P m) i to l s heap) (does W (own_of W m) (moved_instr (form m).at i) nx wl s heap)
  unfolding ends_path
  twins m p to nx (instr.Iload n) l wl s x heap hf hp hn old clean alike held ok =
      more.twins_by set W marks form facts m p to nx (instr.Iload n) l wl s x heap hf hn (λ k. refl) (load_hushed (own_of P m) (instr.Iload n) to l s heap refl)
      (λ at. twin.load_same set W marks form facts P P (own_of P m) (own_of P m) at (instr.Iload n) to l l s heap (λ k z. refl) refl)
      (twin.load_same set W marks form facts P W (own_of P m) (own_of W m) (form m).at (instr.Iload n) to l wl s heap (λ k z. alike k ((facts m).reads_shown p to k (instr.Iload n) hf z)) refl) alike held
  twins m p to nx (instr.Lload n) l wl s x heap hf hp hn old clean alike held ok =
      more.twins_by set W marks form facts m p to nx (instr.Lload n) l wl s x heap hf hn (λ k. refl) (load_hushed (own_of P m) (instr.Lload n) to l s heap refl)
      (λ at. twin.load_same set W marks form facts P P (own_of P m) (own_of P m) at (instr.Lload n) to l l s heap (λ k z. refl) refl)
      (twin.load_same set W marks form facts P W (own_of P m) (own_of W m) (form m).at (instr.Lload n) to l wl s heap (λ k z. alike k ((facts m).reads_shown p to k (instr.Lload n) hf z)) refl) alike held
  twins m p to nx (instr.Aload n) l wl s x heap hf hp hn old clean alike held ok =
      more.twins_by set W marks form facts m p to nx (instr.Aload n) l wl s x heap hf hn (λ k. refl) (load_hushed (own_of P m) (instr.Aload n) to l s heap refl)
      (λ at. twin.load_same set W marks form facts P P (own_of P m) (own_of P m) at (instr.Aload n) to l l s heap (λ k z. refl) refl)
      (twin.load_same set W marks form facts P W (own_of P m) (own_of W m) (form m).at (instr.Aload n) to l wl s heap (λ k z. alike k ((facts m).reads_shown p to k (instr.Aload n) hf z)) refl) alike held
  twins m p to nx (instr.Istore n) l wl s x heap hf hp hn old clean alike held ok = twin.twins_istore set W marks form facts m p to nx n l wl s x heap hf (hn refl) alike held ok
  twins m p to nx (instr.Lstore n) l wl s x heap hf hp hn old clean alike held ok = twin.twins_lstore set W marks form facts m p to nx n l wl s x heap hf (hn refl) alike held ok
  twins m p to nx (instr.Astore n) l wl s x heap hf hp hn old clean alike held ok = twin.twins_astore set W marks form facts m p to nx n l wl s x heap hf (hn refl) alike held ok
  twins m p to nx (instr.Iinc n k) l wl s x heap hf hp hn old clean alike held ok = twin.twins_iinc set W marks form facts m p to nx n k l wl s x heap hf (hn refl) alike held ok
  twins m p to nx (instr.Putfield f) l wl s x heap hf hp hn old clean alike held ok =
      more.twins_by set W marks form facts m p to nx (instr.Putfield f) l wl s x heap hf hn (λ k. refl) (put_hushed (own_of P m) f to l s heap)
      (λ at. more.same_put P P (own_of P m) (own_of P m) shared.self_agree at l heap old f to l s) (more.same_put P W (own_of P m) (own_of W m) shared.agree (form m).at wl heap old f to l s) alike held
  twins m p to nx (instr.Getstatic f) l wl s x heap hf hp hn old clean alike held ok =
      more.twins_by set W marks form facts m p to nx (instr.Getstatic f) l wl s x heap hf hn (λ k. refl) (static_field_hushed (own_of P m) f to l s heap)
      (λ at. more.same_static_field P P (own_of P m) (own_of P m) shared.self_agree at l heap old f to l s) (more.same_static_field P W (own_of P m) (own_of W m) shared.agree (form m).at wl heap old f to l s) alike held
  twins m p to nx instr.Ireturn l wl s x heap hf hp hn old clean alike held ok =
      more.twins_by set W marks form facts m p to nx instr.Ireturn l wl s x heap hf hn (λ k. refl) (ireturn_hushed (own_of P m) to l s heap)
      (λ at. more.same_ireturn P P (own_of P m) (own_of P m) shared.self_agree at l heap old to l s refl) (more.same_ireturn P W (own_of P m) (own_of W m) shared.agree (form m).at wl heap old to l s (shared.results m p (instr.Ireturn, to) hf)) alike held
  twins m p to nx (instr.Checkcast ty) l wl s x heap hf hp hn old clean alike held ok =
      more.twins_by set W marks form facts m p to nx (instr.Checkcast ty) l wl s x heap hf hn (λ k. refl) (cast_hushed (own_of P m) ty to l s heap)
      (λ at. more.same_cast P P (own_of P m) (own_of P m) shared.self_agree at l heap old ty to l s clean.clean) (more.same_cast P W (own_of P m) (own_of W m) shared.agree (form m).at wl heap old ty to l s clean.clean) alike held
  twins m p to nx (instr.Instanceof ty) l wl s x heap hf hp hn old clean alike held ok =
      more.twins_by set W marks form facts m p to nx (instr.Instanceof ty) l wl s x heap hf hn (λ k. refl) (instance_hushed (own_of P m) ty to l s heap)
      (λ at. more.same_instance P P (own_of P m) (own_of P m) shared.self_agree at l heap old ty to l s clean.clean) (more.same_instance P W (own_of P m) (own_of W m) shared.agree (form m).at wl heap old ty to l s clean.clean) alike held
  twins m p to nx instr.Aastore l wl s x heap hf hp hn old clean alike held ok =
      more.twins_by set W marks form facts m p to nx instr.Aastore l wl s x heap hf hn (λ k. refl) (aastore_hushed (own_of P m) to l s heap)
      (λ at. more.same_aastore P P (own_of P m) (own_of P m) shared.self_agree at l heap old to l s clean.clean) (more.same_aastore P W (own_of P m) (own_of W m) shared.agree (form m).at wl heap old to l s clean.clean) alike held
  twins m p to nx instr.Athrow l wl s x heap hf hp hn old clean alike held ok =
      more.twins_by set W marks form facts m p to nx instr.Athrow l wl s x heap hf hn (λ k. refl) (throw_hushed (own_of P m) to l s heap)
      (λ at. more.same_throw P P (own_of P m) (own_of P m) shared.self_agree at l heap old to l s) (more.same_throw P W (own_of P m) (own_of W m) shared.agree (form m).at wl heap old to l s) alike held
  twins m p to nx (instr.New c) l wl s x heap hf hp hn old clean alike held ok =
      let z = shared.makes m p to c hf in
      more.twins_by set W marks form facts m p to nx (instr.New c) l wl s x heap hf hn (λ k. refl) (new_hushed (own_of P m) c to l s heap)
      (λ at. new_same P (own_of P m) (own_of P m) c refl refl at to l l s heap) (new_same W (own_of P m) (own_of W m) c z.0 z.1 (form m).at to l wl s heap) alike held
  twins m p to nx (instr.Invokevirtual id) l wl s x heap hf hp hn old clean alike held ok =
      let z = shared.callees m p to (instr.Invokevirtual id) id hf refl hp in
      more.twins_of set W marks form facts m p to nx (instr.Invokevirtual id) l wl s x heap hf hn (λ k. refl) (shared.calls m p to (instr.Invokevirtual id) id l s heap hf refl hp clean) (shared.natives m p to (instr.Invokevirtual id) id l s heap hf refl hp clean)
      (λ at. more.same_virtual P P (own_of P m) (own_of P m) shared.self_agree at l heap old id z.0 to l s z.1 clean)
      (more.same_virtual P W (own_of P m) (own_of W m) shared.agree (form m).at wl heap old id z.0 to l s z.2 clean) alike held
  twins m p to nx (instr.Invokespecial id) l wl s x heap hf hp hn old clean alike held ok =
      let z = shared.callees m p to (instr.Invokespecial id) id hf refl hp in
      more.twins_of set W marks form facts m p to nx (instr.Invokespecial id) l wl s x heap hf hn (λ k. refl) (shared.calls m p to (instr.Invokespecial id) id l s heap hf refl hp clean) (shared.natives m p to (instr.Invokespecial id) id l s heap hf refl hp clean)
      (λ at. more.same_special P P (own_of P m) (own_of P m) shared.self_agree at l heap old id z.0 to l s z.1 clean.clean)
      (more.same_special P W (own_of P m) (own_of W m) shared.agree (form m).at wl heap old id z.0 to l s z.2 clean.clean) alike held
  twins m p to nx (instr.Invokestatic id) l wl s x heap hf hp hn old clean alike held ok =
      let z = shared.callees m p to (instr.Invokestatic id) id hf refl hp in
      more.twins_of set W marks form facts m p to nx (instr.Invokestatic id) l wl s x heap hf hn (λ k. refl) (shared.calls m p to (instr.Invokestatic id) id l s heap hf refl hp clean) (shared.natives m p to (instr.Invokestatic id) id l s heap hf refl hp clean)
      (λ at. more.same_static P P (own_of P m) (own_of P m) shared.self_agree at l heap old id z.0 to l s z.1 clean.clean)
      (more.same_static P W (own_of P m) (own_of W m) shared.agree (form m).at wl heap old id z.0 to l s z.2 clean.clean) alike held
  twins m p to nx i l wl s x heap hf hp hn old clean alike held ok = twin.twins_simple set W marks form facts m p to nx i l wl s x heap hf hn refl alike held

  -- ---- all that both programs do alike

  pub rows_from : (fiber : Ty) → SharesPauses set W fiber → Rows set W marks form
  rows_from fiber pauses = record {
    twins = λ m p to nx i l wl s x heap hf hp hn old clean alike held ok. twins m p to nx i l wl s x heap hf hp hn old clean alike held ok;
    hands = λ m p i callee to nx l wl s heap hf hp old clean.
        hands P W (own_of P m) (own_of W m) fiber pauses.shares i callee to nx l wl s heap hp
        (λ id a b e ha hpa hb. pauses.specials m p to id a b (hf ∙ ap (λ (j : Instr). Some (j, to)) e) ha hpa hb) old clean;
    shapes = λ m p i callee to l s heap hf hp clean.
        shapes P W fiber pauses.shares to l heap (own_of P m) (own_of W m) pauses.sound i callee s hp
        (λ id a b e ha hpa hb. pauses.specials m p to id a b (hf ∙ ap (λ (j : Instr). Some (j, to)) e) ha hpa hb) clean;
    natives = pauses.natives;
    same_natives = pauses.same_natives;
    same_slots = pauses.same_slots;
    pauses = pauses.pauses;
    catches = pauses.catches;
    begins = pauses.begins;
    begins_alike = pauses.begins_alike;
  }
