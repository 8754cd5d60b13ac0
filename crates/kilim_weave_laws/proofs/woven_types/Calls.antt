-- A pausable call, with the fiber as its last argument.
use Rattle.std.proofs.Common.{◌≡◌, ℕ, ◌+◌, ◌≤◌, Bool, true, false, cond, List, [], ◌∷◌, ◌++◌, map, length, drop, Option, Some, None, Result, Ok, refl, sym, ap, subst, ◌∙◌, arith}
use Rattle.std.specs.Prelude.{◌&&◌, not, reverse, if◌then◌else◌}
use Rattle.std.proofs.lemmas.Bool.{and_parts, and_from, leb-true, not-true}
use Rattle.std.proofs.lemmas.List.{drop-map, length-map, map-append, reverse-append, length-append, length-reverse, append-nil}
use Rattle.kilim_program.specs.declared.class.Method.{Method}
use Rattle.kilim_program.specs.declared.instr.Instr.{Instr}
use Rattle.kilim_program.specs.declared.instr.Instr.TheVariants.{Invokevirtual, Invokespecial, Invokestatic}
use Rattle.kilim_program.specs.declared.names.MethodId.{MethodId}
use Rattle.kilim_program.specs.declared.ty.Ty.{Ty}
use Rattle.kilim_program.specs.declared.verified.VType.{VType}
use Rattle.kilim_program.specs.declared.verified.VType.TheVariants.{Top}
use Rattle.kilim_program.specs.Program.{Program}
use Rattle.kilim_program.specs.Names.{method_at}
use Rattle.kilim_program.specs.Same.{is_constructor}
use Rattle.kilim_type_spec.specs.Step.{Types, words, room_for, vtype, class_vtype, result_types, arguments, Operand, Is, Further, further, needs, may_name, also_own, static_rules, virtual_rules, special_rules, special_fits, special_by, special_row, static_row, virtual_row, meets, all_meet, Takes, row, by_row, type_step}
use Rattle.kilim_weave_spec.specs.Woven.{Plan, fiber, fiber_ty, moved_type, if_there, pausable_callee, taken}
use Rattle.kilim_weave_laws.specs.woven_types.Same.{Callee}
use Rattle.kilim_weave_laws.specs.woven_types.Facts.{Whole}
use Rattle.kilim_weave_laws.proofs.woven_types.Moved.{passed, passes, moved_operand}
use Rattle.kilim_weave_laws.proofs.woven_types.Moved as moved
use Rattle.kilim_weave_laws.proofs.woven_types.Nothing.{none_is}
use Rattle.kilim_weave_laws.proofs.woven_types.Crux.{plain, ok_same}
use Rattle.kilim_weave_laws.proofs.woven_types.Forms.{given_low}
use Rattle.kilim_weave_laws.proofs.woven_types.Rows.{moved_arguments, moved_results, moved_receiver}
use Rattle.kilim_weave_laws.proofs.woven_types.Added.{state}
use Rattle.kilim_weave_laws.proofs.woven_types.Added as add

-- what a call takes, by the method
abbrev pub receiver_operand : Method → List Operand
receiver_operand callee = if callee.is_static then [] else Is (class_vtype callee.owner) ∷ []

abbrev pub call_takes : Method → List Operand
call_takes callee = arguments callee ++ receiver_operand callee

length_operands : (tys : List Ty) → length (map (λ ty. Is (vtype ty)) tys) ≡ length tys
length_operands tys = length-map tys (λ ty. Is (vtype ty))

length_by : (b : Bool) (callee : Method) → length (arguments callee ++ cond b [] (Is (class_vtype callee.owner) ∷ [])) ≡ length callee.params + cond b 0 1
length_by true callee = length-append (arguments callee) [] ∙ ap (λ n. n + 0) (length-reverse (map (λ ty. Is (vtype ty)) callee.params) ∙ length_operands callee.params)
length_by false callee = length-append (arguments callee) (Is (class_vtype callee.owner) ∷ []) ∙ ap (λ n. n + 1) (length-reverse (map (λ ty. Is (vtype ty)) callee.params) ∙ length_operands callee.params)

pub length_takes : (callee : Method) → length (call_takes callee) ≡ taken callee
length_takes callee = length_by callee.is_static callee

moved_by : (at : ℕ → ℕ) (b : Bool) (callee : Method) → map (moved_operand at) (arguments callee ++ cond b [] (Is (class_vtype callee.owner) ∷ [])) ≡ arguments callee ++ cond b [] (Is (class_vtype callee.owner) ∷ [])
moved_by at true callee = map-append (moved_operand at) (arguments callee) [] ∙ ap (λ z. z ++ []) (moved_arguments at callee)
moved_by at false callee = moved_receiver at callee (class_vtype callee.owner) refl

moved_takes : (at : ℕ → ℕ) (callee : Method) → map (moved_operand at) (call_takes callee) ≡ call_takes callee
moved_takes at callee = moved_by at callee.is_static callee

module _ (x : Plan) (W : Program) (w : Method) (whole : Whole x W w) where
  -- the woven method takes the fiber above
  woven_arguments : (a b : Method) → Callee x.program a b → arguments b ≡ Is (fiber x.program) ∷ arguments a
  woven_arguments a b c =
      ap (λ ps. reverse (map (λ ty. Is (vtype ty)) ps)) c.params
      ∙ (ap reverse (map-append (λ ty. Is (vtype ty)) a.params (fiber_ty x.program ∷ []))
      ∙ reverse-append (map (λ ty. Is (vtype ty)) a.params) (Is (fiber x.program) ∷ []))

  pub record Call (i : Instr) (callee : Method) (fl fs cl : List VType) (g : Types) : Type 0 where
    pub meet : all_meet x.program (call_takes callee) fs ≡ true
    pub enough : taken callee ≤ length fs
    pub is : g ≡ plain fl (result_types callee.result ++ drop (taken callee) fs)
    pub room : words fs ≤ x.method.max_stack → words (result_types callee.result ++ drop (taken callee) fs) ≤ x.method.max_stack
    pub steps : (q : ℕ) → type_step W w q i (state cl (fiber x.program ∷ map (moved_type x.at) fs)) ≡ Ok (state cl (result_types callee.result ++ map (moved_type x.at) (drop (taken callee) fs)))

  -- further rules that hold in the old code hold in woven code
  abbrev pub Passes : List Further → List Further → List VType → Type 0
  Passes old new fs = (go go' : Result Types ℕ) (g y : Types) → further x.program old fs go ≡ Ok g → go' ≡ Ok y → (go ≡ Ok g) × (further W new (fiber x.program ∷ map (moved_type x.at) fs) go' ≡ Ok y)

  call_by : (q : ℕ) (i : Instr) (callee : Method) (old new : List Further) (fl fs cl : List VType) (g : Types) → Passes old new fs →
      row W w i ≡ Takes (Is (fiber x.program) ∷ call_takes callee) (result_types callee.result) new →
      by_row x.program x.method q (Takes (call_takes callee) (result_types callee.result) old) (plain fl fs) ≡ Ok g → Call i callee fl fs cl g
  call_by q i callee old new fl fs cl g pass is e =
      let mt = moved_type x.at in
      let takes = call_takes callee in
      let gives = result_types callee.result in
      let out = gives ++ drop (length takes) fs in
      let n = length_takes callee in
      let p3 = passed 3 _ _ g e in
      let p4 = passed 4 _ _ g p3.1 in
      let p5 = passed 5 _ _ g p4.1 in
      let long = leb-true (length takes) (length fs) p3.0 in
      let fine = pass (Ok (plain fl out)) (Ok (plain fl out)) g (plain fl out) p5.1 refl in
      let stack = drop-map mt (length takes) fs in
      let asked = ap (room_for w gives) stack ∙ (ap (λ z. room_for w z (map mt (drop (length takes) fs))) (sym (moved_results x.at callee.result)) ∙ moved.room_given x.program W x.method w x.at whole.shared gives (drop (length takes) fs) p4.0) in
      let meet = moved.all_met x.program W x.method w x.at whole.shared takes fs p5.0 in
      record {
        meet = p5.0;
        enough = omega (arith, long, n);
        is = sym (ok_same (plain fl out) g fine.0) ∙ ap (λ k. plain fl (gives ++ drop k fs)) n;
        room = λ few. subst (λ k. words (gives ++ drop k fs) ≤ x.method.max_stack) n (given_low x.method gives fs (length takes) p4.0 few);
        steps = λ p. add.asked_step x W w whole p i (Is (fiber x.program) ∷ takes) gives new cl (fiber x.program ∷ map mt fs) is
            (let l = length-map fs mt in omega (arith, long, l))
            asked
            (and_from (meets W (Is (fiber x.program)) (fiber x.program)) (all_meet W takes (map mt fs)) (add.fiber_meets x W w whole) (ap (λ os. all_meet W os (map mt fs)) (sym (moved_takes x.at callee)) ∙ meet))
            (pass (Ok (plain fl out)) _ g _ p5.1 refl).1
            ∙ ap (λ z. Ok (state cl (gives ++ z))) (stack ∙ ap (λ k. map mt (drop k fs)) n);
      }

  -- ---- the three calls

  abbrev pub Pausable : MethodId → Method → Type 0
  Pausable id callee = (method_at x.program id ≡ Some callee) × (callee.pausable ≡ true)

  if_named : (o : Option Method) (callee : Method) → if_there o ≡ Some callee → (o ≡ Some callee) × (callee.pausable ≡ true)
  if_named None callee e = absurd (cc)
  if_named (Some a) callee e = by a.pausable refl e
    where
      by : (b : Bool) → a.pausable ≡ b → cond b (Some a) None ≡ Some callee → (Some a ≡ Some callee) × (callee.pausable ≡ true)
      by true h e = (e, subst (λ (z : Method). z.pausable ≡ true) (some_same e) h)
        where
          from_some : Option Method → Method
          from_some None = a
          from_some (Some z) = z

          some_same : Some a ≡ Some callee → a ≡ callee
          some_same e = ap from_some e
      by false h e = absurd (cc)

  -- the row of the woven call, and what it passes
  static_passes : (callee b : Method) (fs : List VType) → Callee x.program callee b →
      Passes (needs 8 (callee.is_static && may_name x.method callee.is_private callee.owner) ∷ needs 10 (not (is_constructor callee)) ∷ []) (needs 8 (b.is_static && may_name w b.is_private b.owner) ∷ needs 10 (not (is_constructor b)) ∷ []) fs
  static_passes callee b fs c go go' g y e e' =
      let p8 = passed 8 _ _ g e in
      let p10 = passed 10 _ _ g p8.1 in
      (p10.1, passes 8 _ _ y (let r1 = c.is_static in let r2 = c.is_private in let r3 = c.owner in let r4 = whole.shared.owner in rw (r1, r2, r3, r4) p8.0) (passes 10 _ _ y (let r = c.plain_too in rw r refl) e'))

  virtual_passes : (callee b : Method) (fs : List VType) → Callee x.program callee b →
      Passes (needs 8 (not callee.is_static && may_name x.method callee.is_private callee.owner) ∷ needs 10 (not (is_constructor callee)) ∷ []) (needs 8 (not b.is_static && may_name w b.is_private b.owner) ∷ needs 10 (not (is_constructor b)) ∷ []) fs
  virtual_passes callee b fs c go go' g y e e' =
      let p8 = passed 8 _ _ g e in
      let p10 = passed 10 _ _ g p8.1 in
      (p10.1, passes 8 _ _ y (let r1 = c.is_static in let r2 = c.is_private in let r3 = c.owner in let r4 = whole.shared.owner in rw (r1, r2, r3, r4) p8.0) (passes 10 _ _ y (let r = c.plain_too in rw r refl) e'))

  -- the receiver of invokespecial is of the own class
  own_by : (n : ℕ) (os : List Operand) (fs : List VType) (owner : _) → all_meet x.program (map (λ o. Is Top) os ++ (Is (class_vtype owner) ∷ [])) fs ≡ true → all_meet W (map (λ o. Is Top) os ++ (Is (class_vtype owner) ∷ [])) (map (moved_type x.at) fs) ≡ true
  own_by n os fs owner h = ap (λ z. all_meet W z (map (moved_type x.at) fs)) (sym (same_any os)) ∙ moved.all_met x.program W x.method w x.at whole.shared (map (λ o. Is Top) os ++ (Is (class_vtype owner) ∷ [])) fs h
    where
      same_any : (os : List Operand) → map (moved_operand x.at) (map (λ o. Is Top) os ++ (Is (class_vtype owner) ∷ [])) ≡ map (λ o. Is Top) os ++ (Is (class_vtype owner) ∷ [])
      same_any [] = refl
      same_any (o ∷ os) = ap (λ z. Is Top ∷ z) (same_any os)

  special_passes : (id : MethodId) (callee b : Method) (fs : List VType) → Callee x.program callee b → special_fits W w id b ≡ special_fits x.program x.method id callee →
      Passes (also_own x.method callee ∷ needs 8 (not callee.is_static && may_name x.method callee.is_private callee.owner) ∷ needs 14 (special_fits x.program x.method id callee) ∷ [])
      (also_own w b ∷ needs 8 (not b.is_static && may_name w b.is_private b.owner) ∷ needs 14 (special_fits W w id b) ∷ []) fs
  unfolding meets
  special_passes id callee b fs c fits go go' g y e e' =
      let p5 = passed 5 _ _ g e in
      let p8 = passed 8 _ _ g p5.1 in
      let p14 = passed 14 _ _ g p8.1 in (
        p14.1,
        passes 5 _ _ y
            (ap (λ o. all_meet W (map (λ z. Is Top) (arguments b) ++ (Is (class_vtype o) ∷ [])) (fiber x.program ∷ map (moved_type x.at) fs)) whole.shared.owner
            ∙ (ap (λ z. all_meet W (map (λ u. Is Top) z ++ (Is (class_vtype x.method.owner) ∷ [])) (fiber x.program ∷ map (moved_type x.at) fs)) (woven_arguments callee b c)
            ∙ own_by 0 (arguments callee) fs x.method.owner p5.0))
            (passes 8 _ _ y (let r1 = c.is_static in let r2 = c.is_private in let r3 = c.owner in let r4 = whole.shared.owner in rw (r1, r2, r3, r4) p8.0)
            (passes 14 _ _ y (ap (λ z. z && true) fits ∙ p14.0) e')),
      )

  static_takes : (callee : Method) → callee.is_static ≡ true → arguments callee ≡ call_takes callee
  static_takes callee h = sym (append-nil (arguments callee)) ∙ ap (λ b. arguments callee ++ cond b [] (Is (class_vtype callee.owner) ∷ [])) (sym h)

  virtual_takes : (callee : Method) → not callee.is_static ≡ true → arguments callee ++ (Is (class_vtype callee.owner) ∷ []) ≡ call_takes callee
  virtual_takes callee h = ap (λ b. arguments callee ++ cond b [] (Is (class_vtype callee.owner) ∷ [])) (sym (not-true callee.is_static h))

  static_call : (q : ℕ) (id : MethodId) (callee : Method) (fl fs cl : List VType) (g : Types) → Pausable id callee → by_row x.program x.method q (static_row x.method (Some callee)) (plain fl fs) ≡ Ok g → Call (Invokestatic id) callee fl fs cl g
  unfolding row
  static_call q id callee fl fs cl g named e =
      let woven = whole.progs.changed id callee named.0 named.1 in
      let b = woven.0 in
      let c = woven.2 in
      let p3 = passed 3 _ _ g e in
      let p4 = passed 4 _ _ g p3.1 in
      let p5 = passed 5 _ _ g p4.1 in
      let p8 = passed 8 _ _ g p5.1 in
      let s = (and_parts callee.is_static (may_name x.method callee.is_private callee.owner) (and_parts _ true p8.0).0).0 in
      let t = static_takes callee s in
      call_by q (Invokestatic id) callee (static_rules x.method callee) (static_rules w b) fl fs cl g (static_passes callee b fs c)
      (ap (static_row w) woven.1 ∙ (ap (λ z. Takes z (result_types b.result) (static_rules w b)) (woven_arguments callee b c ∙ ap (λ z. Is (fiber x.program) ∷ z) t) ∙ ap (λ z. Takes (Is (fiber x.program) ∷ call_takes callee) (result_types z) (static_rules w b)) c.result))
      (ap (λ z. by_row x.program x.method q (Takes z (result_types callee.result) (static_rules x.method callee)) (plain fl fs)) (sym t) ∙ e)

  virtual_call : (q : ℕ) (id : MethodId) (callee : Method) (fl fs cl : List VType) (g : Types) → Pausable id callee → by_row x.program x.method q (virtual_row x.method (Some callee)) (plain fl fs) ≡ Ok g → Call (Invokevirtual id) callee fl fs cl g
  unfolding row
  virtual_call q id callee fl fs cl g named e =
      let woven = whole.progs.changed id callee named.0 named.1 in
      let b = woven.0 in
      let c = woven.2 in
      let p3 = passed 3 _ _ g e in
      let p4 = passed 4 _ _ g p3.1 in
      let p5 = passed 5 _ _ g p4.1 in
      let p8 = passed 8 _ _ g p5.1 in
      let s = (and_parts (not callee.is_static) (may_name x.method callee.is_private callee.owner) (and_parts _ true p8.0).0).0 in
      let t = virtual_takes callee s in
      call_by q (Invokevirtual id) callee (virtual_rules x.method callee) (virtual_rules w b) fl fs cl g (virtual_passes callee b fs c)
      (ap (virtual_row w) woven.1 ∙ (ap (λ z. Takes (z ++ (Is (class_vtype b.owner) ∷ [])) (result_types b.result) (virtual_rules w b)) (woven_arguments callee b c)
      ∙ (ap (λ z. Takes (Is (fiber x.program) ∷ (arguments callee ++ (Is (class_vtype z) ∷ []))) (result_types b.result) (virtual_rules w b)) c.owner
      ∙ (ap (λ z. Takes (Is (fiber x.program) ∷ z) (result_types b.result) (virtual_rules w b)) t ∙ ap (λ z. Takes (Is (fiber x.program) ∷ call_takes callee) (result_types z) (virtual_rules w b)) c.result))))
      (ap (λ z. by_row x.program x.method q (Takes z (result_types callee.result) (virtual_rules x.method callee)) (plain fl fs)) (sym t) ∙ e)

  special_call : (q : ℕ) (id : MethodId) (callee : Method) (fl fs cl : List VType) (g : Types) → Pausable id callee → by_row x.program x.method q (special_by false x.program x.method id callee) (plain fl fs) ≡ Ok g → Call (Invokespecial id) callee fl fs cl g
  unfolding row
  special_call q id callee fl fs cl g named e =
      let woven = whole.progs.changed id callee named.0 named.1 in
      let b = woven.0 in
      let c = woven.2 in
      let p3 = passed 3 _ _ g e in
      let p4 = passed 4 _ _ g p3.1 in
      let p5 = passed 5 _ _ g p4.1 in
      let p6 = passed 5 _ _ g p5.1 in
      let p8 = passed 8 _ _ g p6.1 in
      let p14 = passed 14 _ _ g p8.1 in
      let may = and_parts (not callee.is_static) (may_name x.method callee.is_private callee.owner) (and_parts _ true p8.0).0 in
      let s = may.0 in
      let fits = (and_parts _ true p14.0).0 in
      let t = virtual_takes callee s in
      call_by q (Invokespecial id) callee (special_rules x.program x.method id callee) (special_rules W w id b) fl fs cl g (special_passes id callee b fs c (whole.progs.special id callee b named.0 woven.1 c.plain may.1 fits ∙ sym fits))
      (ap (special_row W w id) woven.1 ∙ (ap (λ z. special_by z W w id b) c.plain_too ∙ (ap (λ z. Takes (z ++ (Is (class_vtype b.owner) ∷ [])) (result_types b.result) (special_rules W w id b)) (woven_arguments callee b c)
      ∙ (ap (λ z. Takes (Is (fiber x.program) ∷ (arguments callee ++ (Is (class_vtype z) ∷ []))) (result_types b.result) (special_rules W w id b)) c.owner
      ∙ (ap (λ z. Takes (Is (fiber x.program) ∷ z) (result_types b.result) (special_rules W w id b)) t ∙ ap (λ z. Takes (Is (fiber x.program) ∷ call_takes callee) (result_types z) (special_rules W w id b)) c.result)))))
      (ap (λ z. by_row x.program x.method q (Takes z (result_types callee.result) (special_rules x.program x.method id callee)) (plain fl fs)) (sym t) ∙ e)

  -- a pausable call takes and gives the same, with the fiber above
  pub calls : (q : ℕ) (i : Instr) (callee : Method) (fl fs cl : List VType) (g : Types) → pausable_callee x.program i ≡ Some callee → type_step x.program x.method q i (plain fl fs) ≡ Ok g → Call i callee fl fs cl g
  unfolding row
  calls q (Invokestatic id) callee fl fs cl g n e =
      let named = if_named (method_at x.program id) callee n in
      static_call q id callee fl fs cl g named (ap (λ o. by_row x.program x.method q (static_row x.method o) (plain fl fs)) (sym named.0) ∙ e)
  calls q (Invokevirtual id) callee fl fs cl g n e =
      let named = if_named (method_at x.program id) callee n in
      virtual_call q id callee fl fs cl g named (ap (λ o. by_row x.program x.method q (virtual_row x.method o) (plain fl fs)) (sym named.0) ∙ e)
  calls q (Invokespecial id) callee fl fs cl g n e =
      let named = if_named (method_at x.program id) callee n in
      let c = (whole.progs.changed id callee named.0 named.1).2 in
      special_call q id callee fl fs cl g named (ap (λ z. by_row x.program x.method q (special_by z x.program x.method id callee) (plain fl fs)) (sym c.plain) ∙ (ap (λ o. by_row x.program x.method q (special_row x.program x.method id o) (plain fl fs)) (sym named.0) ∙ e))
  calls q i callee fl fs cl g n e = absurd (none_is callee n)
