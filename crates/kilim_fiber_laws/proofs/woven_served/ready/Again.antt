-- The stack with which a call is made again isn't higher than verification says.
use Rattle.std.proofs.Common.{◌≡◌, ℕ, zero, suc, ◌+◌, ◌≤◌, Bool, true, false, List, [], ◌∷◌, ◌++◌, drop, length, Option, Some, Ok, subst, arith}
use Rattle.std.specs.Prelude.{if◌then◌else◌}
use Rattle.std.proofs.lemmas.Bool.{and_parts, false≢true}
use Rattle.std.proofs.lemmas.List.{length-append}
use Rattle.std.proofs.lemmas.Option.{none-some}
use Rattle.kilim_program.specs.declared.class.Method.{Method}
use Rattle.kilim_program.specs.declared.instr.Instr.{Instr}
use Rattle.kilim_program.specs.declared.instr.Instr.TheVariants as instr
use Rattle.kilim_program.specs.declared.ty.Ty.{Ty}
use Rattle.kilim_program.specs.declared.value.Value.{Value}
use Rattle.kilim_program.specs.declared.verified.VType.{VType}
use Rattle.kilim_program.specs.Program.{Program}
use Rattle.kilim_program.specs.Same.{is_constructor}
use Rattle.kilim_isolation_laws.proofs.typed_threads.fine.Heights.{some_size}
use Rattle.kilim_type_sound.proofs.Basics.{takes_inverse}
use Rattle.kilim_type_sound.specs.Fits.{Classes, have_types}
use Rattle.kilim_isolation_pauses.specs.Pausing.{called}
use Rattle.kilim_type_spec.specs.Step.{Is, Operand, Types, all_meet, arguments, by_row, class_vtype, meets, result_types, row, special_by, special_row, special_rules, static_row, static_rules, type_step, virtual_row, virtual_rules, vtype, words}
use Rattle.kilim_fiber_laws.proofs.courses.Roomy.{types_length}
use Rattle.kilim_weave_spec.specs.Woven.{taken}
use Rattle.kilim_fiber_laws.proofs.woven_served.ready.Receiver.{argument_count, static_static}
use Rattle.kilim_fiber_spec.specs.Links.{again, dummy_value, with_dummies, with_receiver}

dummies_length : (tys : List Ty) (s : List Value) → length (with_dummies tys s) ≡ length tys + length s
dummies_length [] s = omega arith
dummies_length (ty ∷ tys) s = let a = dummies_length tys (dummy_value (vtype ty) ∷ s) in omega (arith, a)

receiver_length : (z : Bool) (y : Value) (s : List Value) → length (with_receiver z y s) ≡ (if z then 0 else 1) + length s
receiver_length true y s = omega arith
receiver_length false y s = omega arith

again_length : (callee : Method) (y : Value) (s : List Value) → length (again callee y s) ≡ taken callee + length s
again_length callee y s =
    let a = dummies_length callee.params (with_receiver callee.is_static y s) in
    let b = receiver_length callee.is_static y s in
    omega (arith, a, b)

dropped : (n : ℕ) (ts : List VType) → n ≤ length ts → words (drop n ts) + n ≤ words ts
dropped zero ts h = omega arith
dropped (suc n) [] h = absurd (omega (arith, h))
dropped (suc n) (t ∷ ts) h = let a = dropped n ts (omega (arith, h)) in let one = some_size t in omega (arith, a, one)

meet_length : (p : Program) (ops : List Operand) (s : List VType) → all_meet p ops s ≡ true → length ops ≤ length s
meet_length p [] s e = omega arith
meet_length p (o ∷ ops) [] e = absurd (false≢true e)
meet_length p (o ∷ ops) (u ∷ s) e = let a = meet_length p ops s (and_parts (meets p o u) (all_meet p ops s) e).1 in omega (arith, a)

at_most_one : (z : Bool) → (if z then 0 else 1) ≤ 1
at_most_one true = omega arith
at_most_one false = omega arith

none_taken : (z : Bool) → z ≡ true → (if z then 0 else 1) ≤ 0
none_taken true e = omega arith
none_taken false e = absurd (false≢true e)

module _ (p : Program) (own : Method) (at : ℕ) (named : Method) (plain : is_constructor named ≡ false) (f g : Types) where
  with_object : all_meet p (arguments named ++ (Is (class_vtype named.owner) ∷ [])) f.stack ≡ true → taken named ≤ length f.stack
  with_object e =
      let a = meet_length p (arguments named ++ (Is (class_vtype named.owner) ∷ [])) f.stack e in
      let b = length-append (arguments named) (Is (class_vtype named.owner) ∷ []) in
      let c = argument_count named in
      let d = at_most_one named.is_static in
      omega (arith, a, b, c, d)

  -- its operands stand on the stack
  pub taken_there : (i : Instr) → called p i ≡ Some named → type_step p own at i f ≡ Ok g → taken named ≤ length f.stack
  unfolding row
  taken_there (instr.Invokevirtual id) there step =
      let e : by_row p own at (virtual_row own (Some named)) f ≡ Ok g = subst (λ (o : Option Method). by_row p own at (virtual_row own o) f ≡ Ok g) there step in
      with_object (takes_inverse p own at (arguments named ++ (Is (class_vtype named.owner) ∷ [])) (result_types named.result) (virtual_rules own named) f g e).meet
  taken_there (instr.Invokespecial id) there step =
      let e : by_row p own at (special_row p own id (Some named)) f ≡ Ok g = subst (λ (o : Option Method). by_row p own at (special_row p own id o) f ≡ Ok g) there step in
      let d : by_row p own at (special_by false p own id named) f ≡ Ok g = subst (λ (z : Bool). by_row p own at (special_by z p own id named) f ≡ Ok g) plain e in
      with_object (takes_inverse p own at (arguments named ++ (Is (class_vtype named.owner) ∷ [])) (result_types named.result) (special_rules p own id named) f g d).meet
  taken_there (instr.Invokestatic id) there step =
      let e : by_row p own at (static_row own (Some named)) f ≡ Ok g = subst (λ (o : Option Method). by_row p own at (static_row own o) f ≡ Ok g) there step in
      let a = meet_length p (arguments named) f.stack (takes_inverse p own at (arguments named) (result_types named.result) (static_rules own named) f g e).meet in
      let c = argument_count named in
      let d = none_taken named.is_static (static_static p own at named f g id there step) in
      omega (arith, a, c, d)
  taken_there i there step = absurd (none-some named there)

  -- so with dummies in place of its operands
  pub again_low : (of : Classes) (limit : ℕ) (i : Instr) (y : Value) (s : List Value) → called p i ≡ Some named → type_step p own at i f ≡ Ok g → words f.stack ≤ limit → have_types p own of (drop (taken named) f.stack) s ≡ true → length (again named y s) ≤ limit
  again_low of limit i y s there step low typed =
      let a = again_length named y s in
      let b = types_length p own of (drop (taken named) f.stack) s typed in
      let c = dropped (taken named) f.stack (taken_there i there step) in
      omega (arith, a, b, c, low)
