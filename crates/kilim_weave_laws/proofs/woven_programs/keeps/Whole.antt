-- The code of each woven method is whole.
use Rattle.kilim_weave_laws.proofs.woven_programs.keeps.Frames.{fits_proper, in_order}
use Rattle.kilim_weave_laws.proofs.woven_types.Codes.{whole_code}
use Rattle.kilim_weave_laws.proofs.woven_types.Laying.{Grows, items_sound}
use Rattle.kilim_program.specs.declared.ty.Qualifier.TheVariants.{Safe}
use Rattle.kilim_program.specs.declared.ty.Ty.{Ty}
use Rattle.std.proofs.lemmas.List.Sums.{sum_by-append}
use Rattle.std.specs.Str.{bytes_eq}
use Rattle.std.proofs.Common.{◌≡◌, ℕ, suc, ◌+◌, ◌-◌, ◌≤◌, Bool, true, false, eqb, not, List, [], ◌∷◌, Option, None, Some, refl, sym, ap, subst, ◌∙◌, arith, eq-eqb, eqb-true, le-leb, cond, length, length-append, ◌++◌}
use Rattle.std.specs.Prelude.{◌&&◌, ◌||◌, is_some, nat_lt, slice_get, sum_by, codes, nat_le}
use Rattle.std.specs.List.{list_all}
use Rattle.std.proofs.lemmas.Bool.{and_parts, and_from, lt-ltb, ltb-true}
use Rattle.kilim_program.specs.declared.class.Form.TheVariants.{Plain, Woven}
use Rattle.kilim_program.specs.declared.class.Handler.{Handler}
use Rattle.kilim_program.specs.declared.class.Method.{Method}
use Rattle.kilim_program.specs.declared.instr.Instr.{Instr}
use Rattle.kilim_program.specs.declared.names.ClassId.{ClassId}
use Rattle.kilim_program.specs.declared.names.MethodId.{MethodId}
use Rattle.kilim_program.specs.declared.verified.VType.{VType}
use Rattle.kilim_program.specs.declared.verified.VType.TheVariants.{Top, Int, Long, Null, UninitThis, Uninit, Object}
use Rattle.kilim_program.specs.BuiltIn.{fiber_classes, fiber_methods, method_id}
use Rattle.kilim_program.specs.Handlers.{pauses_bare, table_stands}
use Rattle.kilim_program.specs.Keeps.{Keeps, caught_there, code_is_whole, frame_is_proper, frames_are_proper, has_superclass, method_is_sound}
use Rattle.kilim_program.specs.Lengths.{code_ends, code_stands, first_place, has_length, is_code_place, jump_targets, targets_stand, places_increase}
use Rattle.kilim_program.specs.Names.{is_empty, method_at}
use Rattle.kilim_program.specs.Program.{Program}
use Rattle.kilim_program.specs.Same.{is_constructor, argument_slots, type_slots}
use Rattle.kilim_type_spec.specs.Step.{made_at, peek}
use Rattle.kilim_type_spec.specs.Typed.{IsWellTyped, frame_fits}
use Rattle.kilim_weave_spec.specs.Form.{AllWoven, IsWoven, WovenForm, first_class, first_method, has_calls, plan_of, woven_as}
use Rattle.kilim_weave_spec.specs.Weight.{calls_in}
use Rattle.kilim_weave_spec.specs.Woven.{Plan, Item, Mark, Does, behind, lay, woven_items, fiber_ty}
use Rattle.kilim_weave_laws.specs.woven_types.Theorem.{Weaving}
use Rattle.kilim_weave_laws.proofs.woven_types.OldFacts.{AllSane, GrowsTo}
use Rattle.kilim_weave_laws.proofs.woven_types.Sane.{sane, sane_item}
use Rattle.kilim_weave_laws.proofs.woven_types.Theorem.{frames_sane, proved}
use Rattle.kilim_type_laws.proofs.members.FromKeeps.{all_at}
use Rattle.kilim_weave_laws.specs.woven_programs.Law.{KeepsPauses}
use Rattle.kilim_weave_laws.proofs.woven_programs.Handled.{none_pauses_with_table}
use Rattle.kilim_weave_laws.proofs.woven_programs.Theorem.{weaving_of}
use Rattle.kilim_weave_laws.specs.woven_programs.keeps.Law.{MethodsKeep, NoneIsTooLong, WovenMethodsKeep, reach, NoneIsFull}
use Rattle.kilim_weave_laws.proofs.woven_programs.keeps.FromTypes.{typed_ends, typed_targets}
use Rattle.kilim_weave_laws.proofs.woven_programs.keeps.Items.{AllFit, AllReady, items_fit, okay}
use Rattle.kilim_weave_laws.proofs.woven_programs.keeps.Lengths.{near}

-- ---- laying out

grows : (items : List Item) (q : ℕ) → q ≤ behind q items
grows [] q = omega arith
grows (Mark label frame ∷ rest) q = grows rest q
grows (Does i size counted ∷ rest) q = let h = grows rest (q + size q) in omega (arith, h)

first_is : (items : List Item) (q : ℕ) → first_place (lay q items) (behind q items) ≡ q
first_is [] q = refl
first_is (Mark label frame ∷ rest) q = first_is rest q
first_is (Does i size counted ∷ rest) q = refl

place_within : (items : List Item) (q to : ℕ) → is_code_place (lay q items) to ≡ true → to ≤ behind q items
place_within [] q to h = absurd (cc)
place_within (Mark label frame ∷ rest) q to h = place_within rest q to h
place_within (Does i size counted ∷ rest) q to h = by (eqb q to) refl h (λ r. place_within rest (q + size q) to r)
  where
    by : (b : Bool) → eqb q to ≡ b → (b || is_code_place (lay (q + size q) rest) to) ≡ true → (is_code_place (lay (q + size q) rest) to ≡ true → to ≤ behind (q + size q) rest) → to ≤ behind (q + size q) rest
    by true is h again = let g = grows rest (q + size q) in let e = eqb-true q to is in omega (arith, g, e)
    by false is h again = again h

abbrev AllNear : List Item → Type 0
AllNear [] = Unit {0}
AllNear (Mark label frame ∷ rest) = AllNear rest
AllNear (Does i size counted ∷ rest) = (list_all near (jump_targets i) ≡ true) × AllNear rest

all_kept : {A : Type 0} (f g : A → Bool) → ((x : A) → f x ≡ true → g x ≡ true) → (xs : List A) → list_all f xs ≡ true → list_all g xs ≡ true
all_kept f g k [] e = refl
all_kept f g k (x ∷ xs) e = let p = and_parts (f x) (list_all f xs) e in and_from (g x) _ (k x p.0) (all_kept f g k xs p.1)

targets_near : (test : ℕ → Bool) (items : List Item) (q : ℕ) → ((to : ℕ) → test to ≡ true → near to ≡ true) → list_all (λ e. list_all test (jump_targets e.1)) (lay q items) ≡ true → AllNear items
targets_near test [] q k h = tt
targets_near test (Mark label frame ∷ rest) q k h = targets_near test rest q k h
targets_near test (Does i size counted ∷ rest) q k h =
    let p = and_parts (list_all test (jump_targets i)) _ h in
    (all_kept test near k (jump_targets i) p.0, targets_near test rest (q + size q) k p.1)

stands : (items : List Item) (q : ℕ) → behind q items ≤ reach → AllFit items → AllNear items → code_stands q (lay q items) (behind q items) ≡ true
unfolding code_stands
stands [] q le fit is = eq-eqb q q refl
stands (Mark label frame ∷ rest) q le fit is = stands rest q le fit is
stands (Does i size counted ∷ rest) q le fit is =
    let to = q + size q in
    let end = behind to rest in
    let g = grows rest to in
    let first = first_is rest to in
    let length_is : first_place (lay to rest) end - q ≡ size q = (let e = first in omega (arith, e)) in
    and_from (eqb q q) _ (eq-eqb q q refl)
    (and_from (has_length q i (first_place (lay to rest) end - q)) _ (ap (has_length q i) length_is ∙ fit.0 q (omega (arith, g, le)) is.0)
    (ap (λ (n : ℕ). code_stands n (lay to rest) end) first ∙ stands rest to le fit.1 is.1))

-- ---- what is ready

okay_of : (fresh : ℕ → Bool) (t : VType) → sane fresh t ≡ true → okay t ≡ true
okay_of fresh Top h = refl
okay_of fresh Int h = refl
okay_of fresh Long h = refl
okay_of fresh Null h = refl
okay_of fresh UninitThis h = refl
okay_of fresh (Uninit q) h = refl
okay_of fresh (Object ty) h = h

ready : (fresh : ℕ → Bool) (x : Plan) (plain : is_constructor x.method ≡ false) (at_new : (q : ℕ) → is_some (made_at x.method.code q) ≡ fresh q) (es : List (ℕ × Instr)) (at : ℕ) → code_stands at es x.method.code_length ≡ true →
    AllSane fresh x.program x.method plain at_new x.typing es → AllReady x es
unfolding code_stands
ready fresh x plain at_new [] at h s = tt
ready fresh x plain at_new (e ∷ es) at h s =
    let to = first_place es x.method.code_length in
    let p = and_parts (eqb e.0 at) _ h in
    let q = and_parts (has_length at e.1 (to - at)) _ p.1 in
    let here = eqb-true e.0 at p.0 in (
      record {
        length_is = subst (λ (n : ℕ). has_length n e.1 (to - n) ≡ true) (sym here) q.0;
        stack = all_kept (sane_item fresh) okay (λ t i. okay_of fresh t (and_parts (sane fresh t) _ i).0) (x.typing e.0).stack s.0.stack;
        locals = λ k. okay_of fresh (peek (x.typing e.0).locals k) (s.0.locals k);
      },
      ready fresh x plain at_new es to q.1 s.1,
    )

-- ---- one method

whole_woven : (x : Plan) (W : Program) (w : Method) (v : Weaving x W w) → nat_lt 0 (calls_in x.program x.method.code) ≡ true → w.code_length ≤ reach → code_is_whole w ≡ true
unfolding code_is_whole targets_stand
whole_woven x W w v some le =
    let typed = (proved x W w v).0 in
    let goes = typed_targets W w typed in
    let code = v.woven.code in
    let length_is = v.woven.code_length in
    let end_near : behind 0 (woven_items x) ≤ reach = (let e = length_is in omega (arith, e, le)) in
    let inside : (to : ℕ) → is_code_place w.code to ≡ true → near to ≡ true = λ to h. let b = place_within (woven_items x) 0 to (ap (λ (c : List (ℕ × Instr)). is_code_place c to) (sym code) ∙ h) in le-leb to reach (omega (arith, b, end_near)) in
    let fit = items_fit x some (ready _ x v.plain (λ q. refl) x.method.code 0 v.code (frames_sane x W w v)) in
    let close = targets_near (is_code_place w.code) (woven_items x) 0 inside (ap (λ (c : List (ℕ × Instr)). list_all (λ e. list_all (is_code_place w.code) (jump_targets e.1)) c) (sym code) ∙ goes) in
    and_from (code_stands 0 w.code w.code_length) _
    (ap (λ (c : List (ℕ × Instr)). code_stands 0 c w.code_length) code ∙ (ap (λ (n : ℕ). code_stands 0 (lay 0 (woven_items x)) n) length_is ∙ stands (woven_items x) 0 end_near fit close))
    (and_from (targets_stand w.code) _ goes (typed_ends W w typed))

-- ---- all of them

fiber_code : (n : ℕ) → list_all code_is_whole (fiber_methods Woven n) ≡ true
unfolding code_is_whole code_stands targets_stand code_ends
fiber_code n = refl

fiber_handlers : (n : ℕ) → list_all table_stands (fiber_methods Woven n) ≡ true
fiber_handlers n = refl

fiber_catches : (p : Program) (n : ℕ) → list_all (caught_there p) (fiber_methods Woven n) ≡ true
fiber_catches p n = refl

fiber_paused : (n : ℕ) → list_all pauses_bare (fiber_methods Woven n) ≡ true
fiber_paused n = refl

fiber_frames : (n : ℕ) → list_all (λ m. places_increase m.frames) (fiber_methods Woven n) ≡ true
unfolding places_increase
fiber_frames n = refl

fiber_types : (n : ℕ) → list_all frames_are_proper (fiber_methods Woven n) ≡ true
unfolding frames_are_proper
fiber_types n = refl

fiber_sound : (n : ℕ) → list_all method_is_sound (fiber_methods Woven n) ≡ true
unfolding method_is_sound
fiber_sound n = refl

same_grows : (x : Plan) (w : Method) (es : List (ℕ × Instr)) → GrowsTo x.method.code_length es → Grows x w es
same_grows x w [] g = tt
same_grows x w (e ∷ es) g = (g.0, same_grows x w es g.1)

module _ (P W : Program) (counted : List (List Bool)) (keeps : Keeps P) (plainly : P.form ≡ Plain) (typed : IsWellTyped P) (pauses : KeepsPauses P) (short : NoneIsTooLong P) (few : NoneIsFull P) (form : WovenForm P W counted) where
  has_some : (es : List (ℕ × Instr)) → nat_lt 0 (calls_in P es) ≡ true → not (is_empty es) ≡ true
  has_some [] e = absurd (cc)
  has_some (x ∷ es) e = refl

  whole_case : (id : MethodId) (a b : Method) (marks : List Bool) (z calls : Bool) → method_at P id ≡ Some a → a.pausable ≡ z → has_calls P a ≡ calls → woven_as z calls P a b marks → code_is_whole b ≡ true
  unfolding code_is_whole
  whole_case id a b marks false calls at is c w = ap code_is_whole w.0 ∙ all_at code_is_whole P.methods id.0 a keeps.code at
  whole_case id a b marks true false at is c w = ap code_is_whole w.0 ∙ all_at code_is_whole P.methods id.0 a keeps.code at
  whole_case id a b marks true true at is c w =
      let v = weaving_of P W counted keeps plainly form typed pauses id a at (has_some a.code c) b marks is w in
      let less = (proved (plan_of P a w.0 w.1 w.2) W b v).1 in
      let most = short id a at is c in
      whole_woven (plan_of P a w.0 w.1 w.2) W b v c (omega (arith, less, most))

  -- one that pauses has no table
  bare : (id : MethodId) (a : Method) → method_at P id ≡ Some a → a.pausable ≡ true → is_empty a.handlers ≡ true
  bare id a at pausable = none_pauses_with_table P keeps id a at pausable

  none_stand : (test : Handler → Bool) (hs : List Handler) → is_empty hs ≡ true → list_all test hs ≡ true
  none_stand test [] e = refl
  none_stand test (h ∷ hs) e = absurd (cc)

  handlers_case : (id : MethodId) (a b : Method) (marks : List Bool) (z calls : Bool) → method_at P id ≡ Some a → a.pausable ≡ z → woven_as z calls P a b marks → table_stands b ≡ true
  handlers_case id a b marks false calls at is w = ap table_stands w.0 ∙ all_at table_stands P.methods id.0 a keeps.handlers at
  handlers_case id a b marks true false at is w = ap table_stands w.0 ∙ all_at table_stands P.methods id.0 a keeps.handlers at
  handlers_case id a b marks true true at is w = ap table_stands w.4.method ∙ none_stand _ a.handlers (bare id a at is)

  paused_case : (id : MethodId) (a b : Method) (marks : List Bool) (z calls : Bool) → method_at P id ≡ Some a → woven_as z calls P a b marks → pauses_bare b ≡ true
  paused_case id a b marks false calls at w = ap pauses_bare w.0 ∙ all_at pauses_bare P.methods id.0 a keeps.paused at
  paused_case id a b marks true false at w = ap pauses_bare w.0 ∙ all_at pauses_bare P.methods id.0 a keeps.paused at
  paused_case id a b marks true true at w = ap pauses_bare w.4.method ∙ all_at pauses_bare P.methods id.0 a keeps.paused at

  -- the classes of the plain program are there
  class_kept : (o : Option ClassId) → has_superclass P o ≡ true → has_superclass W o ≡ true
  class_kept None e = refl
  class_kept (Some c) e =
      let less = ltb-true c.0 (length P.classes) e in
      let more = ap length form.classes ∙ length-append P.classes (fiber_classes Woven (first_class P) (first_method P)) in
      lt-ltb c.0 (length W.classes) (omega (arith, less, more))

  kept_there : (a : Method) → caught_there P a ≡ true → caught_there W a ≡ true
  kept_there a e = all_kept (λ (h : Handler). has_superclass P h.catch) (λ (h : Handler). has_superclass W h.catch) (λ h. class_kept h.catch) a.handlers e

  catches_case : (id : MethodId) (a b : Method) (marks : List Bool) (z calls : Bool) → method_at P id ≡ Some a → woven_as z calls P a b marks → caught_there W b ≡ true
  catches_case id a b marks false calls at w = ap (caught_there W) w.0 ∙ kept_there a (all_at (caught_there P) P.methods id.0 a keeps.catches at)
  catches_case id a b marks true false at w = ap (caught_there W) w.0 ∙ kept_there a (all_at (caught_there P) P.methods id.0 a keeps.catches at)
  catches_case id a b marks true true at w = ap (caught_there W) w.4.method ∙ kept_there a (all_at (caught_there P) P.methods id.0 a keeps.catches at)

  frames_case : (id : MethodId) (a b : Method) (marks : List Bool) (z calls : Bool) → method_at P id ≡ Some a → a.pausable ≡ z → has_calls P a ≡ calls → woven_as z calls P a b marks → places_increase b.frames ≡ true
  frames_case id a b marks false calls at is c w = ap (λ (m : Method). places_increase m.frames) w.0 ∙ all_at (λ m. places_increase m.frames) P.methods id.0 a keeps.frames at
  frames_case id a b marks true false at is c w = ap (λ (m : Method). places_increase m.frames) w.0 ∙ all_at (λ m. places_increase m.frames) P.methods id.0 a keeps.frames at
  frames_case id a b marks true true at is c w =
      let x = plan_of P a w.0 w.1 w.2 in
      let v = weaving_of P W counted keeps plainly form typed pauses id a at (has_some a.code c) b marks is w in
      let order = same_grows x b a.code (whole_code a v.code).grows in
      ap places_increase v.woven.frames ∙ in_order false (woven_items x) 0 (items_sound x b order)

  types_case : (id : MethodId) (a b : Method) (marks : List Bool) (z calls : Bool) → method_at P id ≡ Some a → a.pausable ≡ z → has_calls P a ≡ calls → woven_as z calls P a b marks → frames_are_proper b ≡ true
  unfolding frames_are_proper
  types_case id a b marks false calls at is c w = ap frames_are_proper w.0 ∙ all_at frames_are_proper P.methods id.0 a keeps.frame_types at
  types_case id a b marks true false at is c w = ap frames_are_proper w.0 ∙ all_at frames_are_proper P.methods id.0 a keeps.frame_types at
  types_case id a b marks true true at is c w =
      let v = weaving_of P W counted keeps plainly form typed pauses id a at (has_some a.code c) b marks is w in
      all_kept (frame_fits b) (λ e. frame_is_proper e.1) (fits_proper b) b.frames ((proved (plan_of P a w.0 w.1 w.2) W b v).0).frames

  sound_with : (a : Method) → method_is_sound a ≡ true → argument_slots a ≤ 254 → (b : Method) → b.qualifiers ≡ a.qualifiers ++ Safe ∷ [] → b.params ≡ a.params ++ fiber_ty P ∷ [] → b.is_static ≡ a.is_static → b.name ≡ a.name → b.pausable ≡ a.pausable → method_is_sound b ≡ true
  unfolding method_is_sound
  sound_with a h most b qs ps st name pausable =
      let p = and_parts (eqb (length a.qualifiers) (length a.params)) _ h in
      let q = and_parts (nat_le (argument_slots a) 255) _ p.1 in
      let e1 = ap length qs in
      let e2 = ap length ps in
      let l1 = length-append a.qualifiers (Safe ∷ []) in
      let l2 = length-append a.params (fiber_ty P ∷ []) in
      let same = eqb-true (length a.qualifiers) (length a.params) p.0 in
      let s1 = ap (λ (ts : List Ty). (cond b.is_static 0 1) + sum_by type_slots ts) ps in
      let s2 = ap (λ (z : Bool). (cond z 0 1) + sum_by type_slots (a.params ++ fiber_ty P ∷ [])) st in
      let s3 = sum_by-append type_slots a.params (fiber_ty P ∷ []) in
      let s4 : sum_by type_slots (fiber_ty P ∷ []) ≡ 1 = refl in
      and_from (eqb (length b.qualifiers) (length b.params)) _ (eq-eqb (length b.qualifiers) (length b.params) (omega (arith, e1, e2, l1, l2, same)))
      (and_from (nat_le (argument_slots b) 255) _ (le-leb (argument_slots b) 255 (omega (arith, s1, s2, s3, s4, most)))
      (ap (λ (n : List ℕ). not (bytes_eq n (codes "<init>") && b.pausable)) name ∙ (ap (λ (z : Bool). not (is_constructor a && z)) pausable ∙ q.1)))

  sound_case : (id : MethodId) (a b : Method) (marks : List Bool) (z calls : Bool) → method_at P id ≡ Some a → a.pausable ≡ z → has_calls P a ≡ calls → woven_as z calls P a b marks → method_is_sound b ≡ true
  sound_case id a b marks false calls at is c w = ap method_is_sound w.0 ∙ all_at method_is_sound P.methods id.0 a keeps.methods at
  sound_case id a b marks true false at is c w =
      sound_with a (all_at method_is_sound P.methods id.0 a keeps.methods at) (few id a at is) b (ap (λ (m : Method). m.qualifiers) w.0) (ap (λ (m : Method). m.params) w.0) (ap (λ (m : Method). m.is_static) w.0) (ap (λ (m : Method). m.name) w.0) (ap (λ (m : Method). m.pausable) w.0)
  sound_case id a b marks true true at is c w =
      let e = w.4.method in
      sound_with a (all_at method_is_sound P.methods id.0 a keeps.methods at) (few id a at is) b (ap (λ (m : Method). m.qualifiers) e) (ap (λ (m : Method). m.params) e) (ap (λ (m : Method). m.is_static) e) (ap (λ (m : Method). m.name) e) (ap (λ (m : Method). m.pausable) e)

  -- what holds of each woven method and of the fiber's, holds of all
  all_of : (test : Method → Bool) → list_all test (fiber_methods Woven (first_class P)) ≡ true →
      (ms ws : List Method) (cs : List (List Bool)) (before : ℕ) → AllWoven P ms ws cs → ((k : ℕ) (m : Method) → slice_get ms k ≡ Some m → method_at P (method_id (before + k)) ≡ Some m) →
      ((id : MethodId) (a b : Method) (marks : List Bool) → method_at P id ≡ Some a → IsWoven P a b marks → test b ≡ true) → list_all test ws ≡ true
  all_of test last [] ws cs before a there each = ap (list_all test) a.0 ∙ last
  all_of test last (m ∷ ms) [] cs before a there each = absurd a
  all_of test last (m ∷ ms) (w ∷ ws) [] before a there each = absurd a
  all_of test last (m ∷ ms) (w ∷ ws) (c ∷ cs) before a there each =
      and_from (test w) _ (each (method_id (before + 0)) m w c (there 0 m refl) a.0)
      (all_of test last ms ws cs (suc before) a.1 (λ k n e. let number : suc before + k ≡ before + suc k = omega arith in ap (λ (j : ℕ). method_at P (method_id j)) number ∙ there (suc k) n e) each)

  begins : (k : ℕ) (m : Method) → slice_get P.methods k ≡ Some m → method_at P (method_id (0 + k)) ≡ Some m
  begins k m e = let number : 0 + k ≡ k = omega arith in ap (λ (j : ℕ). slice_get P.methods j) number ∙ e

  pub keep : MethodsKeep W
  keep = record {
    code = all_of code_is_whole (fiber_code (first_class P)) P.methods W.methods counted 0 form.methods begins (λ id a b marks at is. whole_case id a b marks a.pausable (has_calls P a) at refl refl is);
    frames = all_of (λ m. places_increase m.frames) (fiber_frames (first_class P)) P.methods W.methods counted 0 form.methods begins (λ id a b marks at is. frames_case id a b marks a.pausable (has_calls P a) at refl refl is);
    frame_types = all_of frames_are_proper (fiber_types (first_class P)) P.methods W.methods counted 0 form.methods begins (λ id a b marks at is. types_case id a b marks a.pausable (has_calls P a) at refl refl is);
    methods = all_of method_is_sound (fiber_sound (first_class P)) P.methods W.methods counted 0 form.methods begins (λ id a b marks at is. sound_case id a b marks a.pausable (has_calls P a) at refl refl is);
    handlers = all_of table_stands (fiber_handlers (first_class P)) P.methods W.methods counted 0 form.methods begins (λ id a b marks at is. handlers_case id a b marks a.pausable (has_calls P a) at refl is);
    catches = all_of (caught_there W) (fiber_catches W (first_class P)) P.methods W.methods counted 0 form.methods begins (λ id a b marks at is. catches_case id a b marks a.pausable (has_calls P a) at is);
    paused = all_of pauses_bare (fiber_paused (first_class P)) P.methods W.methods counted 0 form.methods begins (λ id a b marks at is. paused_case id a b marks a.pausable (has_calls P a) at is);
  }

pub woven_methods : WovenMethodsKeep
woven_methods p w counted keeps plainly typed pauses short few form = keep p w counted keeps plainly typed pauses short few form
