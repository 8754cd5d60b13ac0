-- The theorem, put together.
use Rattle.std.proofs.Common.{◌≡◌, ℕ, suc, ◌+◌, ◌≤◌, Bool, true, false, cond, List, [], ◌∷◌, ◌++◌, length, Option, Some, refl, sym, ap, subst, arith}
use Rattle.std.specs.Prelude.{◌&&◌, ◌-◌, nat_le, nat_lt, sum_by}
use Rattle.std.specs.List.{list_all}
use Rattle.std.proofs.lemmas.Bool.{and_parts, and_from, leb-true, le-leb, lt-ltb}
use Rattle.std.proofs.lemmas.List.{length-drop}
use Rattle.std.proofs.lemmas.List.Sums.{sum_by-append}
use Rattle.kilim_program.specs.declared.class.Method.{Method}
use Rattle.kilim_program.specs.declared.instr.Instr.{Instr}
use Rattle.kilim_program.specs.declared.verified.VType.{VType}
use Rattle.kilim_program.specs.declared.verified.VType.TheVariants.{Long, Top, Int, Null, UninitThis, Uninit, Object}
use Rattle.kilim_program.specs.Program.{Program}
use Rattle.kilim_program.specs.Lengths.{code_stands, has_length, is_jump_length}
use Rattle.kilim_program.specs.Lengths.{first_place}
use Rattle.kilim_program.specs.Same.{argument_slots, type_slots}
use Rattle.kilim_type_spec.specs.Step.{Types, size, words, class_vtype}
use Rattle.kilim_type_spec.specs.Typed.{WellTyped, TypedBy, entry}
use Rattle.kilim_type_laws.proofs.NoTable.{none_handles}
use Rattle.kilim_weave_spec.specs.Woven.{Plan, fiber, fiber_ty, fiber_slot, added_types, pausable_callee, below, taken}
use Rattle.kilim_weave_laws.specs.woven_types.Facts.{Whole, Facts, PlaceFacts}
use Rattle.kilim_weave_laws.specs.woven_types.Theorem.{Weaving}
use Rattle.kilim_weave_spec.specs.Weight.{weight}
use Rattle.kilim_weave_laws.proofs.woven_types.Flow.{is_larger}
use Rattle.kilim_weave_laws.proofs.woven_types.Laying.{Grows, woven_stands}
use Rattle.kilim_weave_laws.proofs.woven_types.Marks.{is_marked, targets}
use Rattle.kilim_weave_laws.proofs.woven_types.OldFacts.{all_frames, all_facts, GrowsTo, AllSane}
use Rattle.kilim_weave_laws.proofs.woven_types.Codes.{whole_code, makes_moved, news, new_places}
use Rattle.kilim_weave_laws.proofs.woven_types.Bound.{AllSizes, bound}
use Rattle.kilim_weave_laws.proofs.woven_types.Rule12.{woven_frames}
use Rattle.kilim_weave_laws.proofs.woven_types.Pieces.{called}
use Rattle.kilim_weave_laws.proofs.woven_types.Prologue.{woven_walk}

same_grows : (x : Plan) (w : Method) (es : List (ℕ × Instr)) → GrowsTo x.method.code_length es → Grows x w es
same_grows x w [] g = tt
same_grows x w (e ∷ es) g = (g.0, same_grows x w es g.1)

added_slots : (b : Bool) (t u : VType) → length (t ∷ cond b [] (u ∷ [])) ≡ cond b 1 2
added_slots true t u = refl
added_slots false t u = refl

words_least : (ts : List VType) → length ts ≤ words ts
words_least [] = omega arith
words_least (t ∷ ts) = let h = words_least ts in let s = one t in omega (arith, h, s)
  where
    one : (t : VType) → 1 ≤ size t
    one Long = omega arith
    one Top = omega arith
    one Int = omega arith
    one Null = omega arith
    one UninitThis = omega arith
    one (Uninit q) = omega arith
    one (Object ty) = omega arith

module _ (x : Plan) (W : Program) (w : Method) (v : Weaving x W w) where
  grows : Grows x w x.method.code
  grows = same_grows x w x.method.code (whole_code x.method v.code).grows

  whole : Whole x W w
  whole =
      let m = is_marked x w v.woven grows in
      let l = is_larger x.method.max_locals (suc (argument_slots x.method)) in
      let lower = l.0 in
      let most = v.woven.max_locals in
      let more = v.woven.max_stack in
      let slots = added_slots x.method.is_static (fiber x.program) (class_vtype x.method.owner) in
      let within : fiber_slot x.method + length (added_types x) ≤ w.max_locals = omega (arith, most) in
      record {
        shared = record {
          assigns = v.assigns;
          above = v.above;
          owner = v.woven.owner;
          result = v.woven.result;
          plain = v.plain;
          plain_too = v.plain_too;
          stack = omega (arith, more);
          locals = omega (arith, lower, most);
          differ = v.differ;
          made = makes_moved x w v.woven grows;
        };
        progs = v.programs;
        members = v.members;
        itself = v.itself;
        room = more;
        slots = subst (λ n. fiber_slot x.method + n ≤ w.max_locals) slots within;
        targets = targets x w (Some (entry x.method)) v.typed.walk v.typed.frames m.0;
      }

  pub frames_sane : AllSane (new_places x.method) x.program x.method v.plain (λ q. refl) x.typing x.method.code
  frames_sane = all_frames (new_places x.method) x v.plain (λ q. refl) v.typed.frames v.typed.arguments v.typed.walk v.casts (news x.program x.method v.plain (whole_code x.method v.code).grows)

  pub facts : Facts x x.method.code
  facts = all_facts (new_places x.method) x v.woven.had_none v.plain (λ q. refl) frames_sane v.live (whole_code x.method v.code).grows v.initialized

  call_sizes : (e : ℕ × Instr) (to : ℕ) (g : Types) → PlaceFacts x e to → (callee : Method) → pausable_callee x.program e.1 ≡ Some callee → Rattle.kilim_type_spec.specs.Step.type_step x.program x.method e.0 e.1 (x.typing e.0) ≡ Rattle.std.specs.Prelude.Ok g →
      length callee.params + length (below x callee e.0) ≤ x.method.max_stack
  call_sizes e to g f callee n step =
      let c = called x W w whole e to callee [] g n f.set step in
      let enough = c.enough in
      let least = words_least (x.typing e.0).stack in
      let room = f.room in
      let d = length-drop (taken callee) (x.typing e.0).stack in
      omega (arith, enough, least, room, d)

  sizes : (es : List (ℕ × Instr)) (at : ℕ) (was : Option Types) → code_stands at es x.method.code_length ≡ true → Grows x w es → Facts x es → TypedBy x.program x.method x.typing was es → AllSizes x es
  unfolding code_stands
  sizes [] at was c g f t = tt
  sizes (e ∷ es) at was c g f t =
      let to = first_place es x.method.code_length in
      let p1 = and_parts _ _ c in
      let p2 = and_parts _ _ p1.1 in
      let here = Rattle.std.proofs.lemmas.Bool.eqb-true e.0 at p1.0 in
      let up = g.0 in (
        record {
          ordered = omega (arith, up);
          length_is = subst (λ z. has_length z e.1 (to - z) ≡ true) (sym here) p2.0;
          stack = λ callee n. call_sizes e to t.1 f.0 callee n t.2;
          locals = f.0.within;
        },
        sizes es to _ p2.1 g.1 f.1 t.4,
      )

  -- rule 6 at place 0
  arguments_fit : nat_le (argument_slots w) w.max_locals ≡ true
  arguments_fit =
      let a = ap (λ ps. (cond w.is_static 0 1) + sum_by type_slots ps) v.woven.params in
      let b = ap (λ s. (cond s 0 1) + sum_by type_slots (x.method.params ++ (fiber_ty x.program ∷ []))) v.woven.is_static in
      let c = sum_by-append type_slots x.method.params (fiber_ty x.program ∷ []) in
      let d : sum_by type_slots (fiber_ty x.program ∷ []) ≡ 1 = refl in
      let l = (is_larger x.method.max_locals (suc (argument_slots x.method))).1 in
      let m = v.woven.max_locals in
      le-leb (argument_slots w) w.max_locals (omega (arith, a, b, c, d, l, m))

  pub proved : WellTyped W w × (w.code_length ≤ weight x.program x.method)
  proved =
      let m = is_marked x w v.woven grows in
      let begins = (whole_code x.method v.code).begins in
      let length_is = v.woven.code_length in
      let b = bound x (sizes x.method.code 0 (Some (entry x.method)) v.code grows facts v.typed.walk) begins in (
        record {
          arguments = arguments_fit;
          frames = woven_frames x w v.woven grows v.plain frames_sane;
          walk = woven_walk x W w whole v.woven v.typed.walk facts m.0 m.1 begins (woven_stands x w v.woven grows);
          handled = none_handles W w v.woven.handlers (Some (entry w)) w.code;
        },
        omega (arith, length_is, b),
      )

-- where code is at most 32,767 bytes long, each jump of three bytes fits
pub jump_fits : (at to most : ℕ) → at ≤ most → to ≤ most → most ≤ 32767 → is_jump_length at to 3 ≡ true
jump_fits at to most a b m =
    and_from (nat_lt to (at + 32768)) (nat_lt at (to + 32769) && true) (lt-ltb to (at + 32768) (omega (arith, a, b, m)))
    (and_from (nat_lt at (to + 32769)) true (lt-ltb at (to + 32769) (omega (arith, a, b, m))) refl)
