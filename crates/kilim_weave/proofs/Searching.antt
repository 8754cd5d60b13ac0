-- Where no method has a fault, none is too long, and none has too many arguments.
use Rattle.std.proofs.Common.{◌≡◌, inl, inr, ℕ, zero, suc, ◌≤◌, Bool, true, false, List, [], ◌∷◌, ◌++◌, length, Option, Some, None, slice_get, drop, ◌+◌, ◌*◌, refl, sym, ap, subst, ◌∙◌, arith, ltb-true}
use Rattle.std.specs.Prelude.{◌&&◌, ◌||◌, nat_lt}
use Rattle.std.specs.List.{flat_map}
use Rattle.std.proofs.lemmas.Bool.{ltb-false, or_parts}
use Rattle.kilim_class_mutf8.specs.Spelling.{spelling}
use Rattle.kilim_program.specs.declared.class.Class.{Class}
use Rattle.kilim_program.specs.declared.class.Method.{Method}
use Rattle.kilim_program.specs.declared.names.MethodId.{MethodId}
use Rattle.kilim_program.specs.Keeps.{Keeps}
use Rattle.kilim_program.specs.Names.{method_at}
use Rattle.kilim_program.specs.Program.{Program}
use Rattle.kilim_program.specs.Same.{argument_slots}
use Rattle.kilim_type_laws.proofs.members.ClassMethods.{IsAmong, among_left, among_right, owner_has}
use Rattle.kilim_lemmas.proofs.Lists.{get_some, drop_next}
use Rattle.kilim_link_spec.specs.World.{method_descriptor}
use Rattle.kilim_isolation_pauses.specs.Pausing.{all_methods}
use Rattle.kilim_weave_spec.specs.Form.{has_calls}
use Rattle.kilim_weave_spec.specs.Weight.{calls_in, switches_bytes, weight}
use Rattle.kilim_weave_laws.specs.woven_programs.keeps.Law.{NoneIsFull, NoneIsTooLong, reach}
use Rattle.kilim_weave_laws.proofs.woven_programs.Naming.{owner_there}
use Rattle.kilim_weave.specs.declared.fault.WeaveFault.{WeaveFault}
use Rattle.kilim_weave.specs.Faults.{fault_if, fault_if_there, fault_of, fault_of_method, first_fault, is_full, is_too_long, or_later, weave_fault}

-- ---- the first fault

pub or_none : (a b : Option WeaveFault) → or_later a b ≡ None → (a ≡ None) × (b ≡ None)
or_none None b h = (refl, h)
or_none (Some f) b h = absurd (cc)

none_among : (p : Program) (ids : List MethodId) (id : MethodId) → first_fault p ids ≡ None → IsAmong id ids → fault_of p id ≡ None
none_among p [] id h i = absurd i
none_among p (x ∷ ids) id h (inl e) = ap (fault_of p) e ∙ (or_none (fault_of p x) (first_fault p ids) h).0
none_among p (x ∷ ids) id h (inr i) = none_among p ids id (or_none (fault_of p x) (first_fault p ids) h).1 i

or_again : (a b c : Option WeaveFault) → or_later (or_later a b) c ≡ or_later a (or_later b c)
or_again None b c = refl
or_again (Some f) b c = refl

pub first_of_both : (p : Program) (xs ys : List MethodId) → first_fault p (xs ++ ys) ≡ or_later (first_fault p xs) (first_fault p ys)
first_of_both p [] ys = refl
first_of_both p (x ∷ xs) ys = ap (or_later (fault_of p x)) (first_of_both p xs ys) ∙ sym (or_again (fault_of p x) (first_fault p xs) (first_fault p ys))

-- ---- each method is a class's

among_classes : (cs : List Class) (k : ℕ) (c : Class) (id : MethodId) → slice_get cs k ≡ Some c → IsAmong id c.methods → IsAmong id (flat_map (λ class. class.methods) cs)
among_classes [] k c id e i = absurd (cc)
among_classes (x ∷ cs) zero c id e i = among_left id x.methods (flat_map (λ class. class.methods) cs) (subst (λ (z : Class). IsAmong id z.methods) (let s : c ≡ x = cc in s) i)
among_classes (x ∷ cs) (suc k) c id e i = among_right id x.methods (flat_map (λ class. class.methods) cs) (among_classes cs k c id e i)

none_of : (p : Program) → Keeps p → weave_fault p ≡ None → (id : MethodId) (m : Method) → method_at p id ≡ Some m → fault_if (is_too_long p m) (is_full p m) id (weight p m) ≡ None
none_of p keeps none id m at =
    let c = get_some p.classes m.owner.0 (ltb-true m.owner.0 (length p.classes) (owner_there p keeps id m at)) in
    let among = among_classes p.classes m.owner.0 c.0 id c.1 (owner_has p keeps id m at c.0 c.1) in
    sym (ap (fault_if_there p id) at) ∙ none_among p (all_methods p) id none among

if_none : (long full : Bool) (id : MethodId) (n : ℕ) → fault_if long full id n ≡ None → (long ≡ false) × (full ≡ false)
if_none true full id n h = absurd (cc)
if_none false true id n h = absurd (cc)
if_none false false id n h = (refl, refl)

and_false : (x y : Bool) → (x && y) ≡ false → x ≡ true → y ≡ false
and_false true y h e = h
and_false false y h e = absurd (cc)

not_above : (a b : ℕ) → nat_lt a b ≡ false → b ≤ a
not_above a b h = ltb-false a b h

pub none_too_long : (p : Program) → Keeps p → weave_fault p ≡ None → NoneIsTooLong p
unfolding reach
none_too_long p keeps none id m at pausable calls =
    let parts = if_none (is_too_long p m) (is_full p m) id (weight p m) (none_of p keeps none id m at) in
    not_above 32767 (weight p m) (and_false (has_calls p m) (nat_lt 32767 (weight p m)) parts.0 calls)

pub none_full : (p : Program) → Keeps p → weave_fault p ≡ None → NoneIsFull p
none_full p keeps none id m at pausable =
    let parts = if_none (is_too_long p m) (is_full p m) id (weight p m) (none_of p keeps none id m at) in
    let both = and_false m.pausable (nat_lt 254 (argument_slots m) || nat_lt 65522 (length (spelling (method_descriptor p m)))) parts.1 pausable in
    not_above 254 (argument_slots m) (or_parts (nat_lt 254 (argument_slots m)) (nat_lt 65522 (length (spelling (method_descriptor p m)))) both).0

-- ---- the search

past : {A : Type 0} (n : ℕ) (xs : List A) → length xs ≤ n → drop n xs ≡ []
past zero [] h = refl
past (suc n) [] h = refl
past zero (x ∷ xs) h = absurd (omega arith)
past (suc n) (x ∷ xs) h = past n xs (omega arith)

module _ (p : Program) (ids : List MethodId) where
  pub skipped : (k : ℕ) (id : MethodId) → slice_get ids k ≡ Some id → fault_of p id ≡ None → first_fault p ids ≡ first_fault p (drop k ids) → first_fault p ids ≡ first_fault p (drop (k + 1) ids)
  skipped k id there none is = is ∙ (ap (first_fault p) (drop_next ids k id there) ∙ ap (λ (o : Option WeaveFault). or_later o (first_fault p (drop (k + 1) ids))) none)

  pub is_first : (k : ℕ) (id : MethodId) (f : WeaveFault) → slice_get ids k ≡ Some id → fault_of p id ≡ Some f → first_fault p ids ≡ first_fault p (drop k ids) → Some f ≡ first_fault p ids
  is_first k id f there found is = sym (is ∙ (ap (first_fault p) (drop_next ids k id there) ∙ ap (λ (o : Option WeaveFault). or_later o (first_fault p (drop (k + 1) ids))) found))

  pub none_is_first : (k : ℕ) → length ids ≤ k → first_fault p ids ≡ first_fault p (drop k ids) → None ≡ first_fault p ids
  none_is_first k h is = sym (is ∙ ap (first_fault p) (past k ids h))

-- the methods of the classes from one on
abbrev pub methods_from : ℕ → List Class → List MethodId
methods_from k cs = flat_map (λ class. class.methods) (drop k cs)

module _ (p : Program) where
  one_class : (k : ℕ) (c : Class) → slice_get p.classes k ≡ Some c → first_fault p (methods_from k p.classes) ≡ or_later (first_fault p c.methods) (first_fault p (methods_from (k + 1) p.classes))
  one_class k c there = ap (λ (cs : List Class). first_fault p (flat_map (λ class. class.methods) cs)) (drop_next p.classes k c there) ∙ first_of_both p c.methods (methods_from (k + 1) p.classes)

  pub class_skipped : (k : ℕ) (c : Class) → slice_get p.classes k ≡ Some c → None ≡ first_fault p c.methods → weave_fault p ≡ first_fault p (methods_from k p.classes) → weave_fault p ≡ first_fault p (methods_from (k + 1) p.classes)
  class_skipped k c there none is = is ∙ (one_class k c there ∙ ap (λ (o : Option WeaveFault). or_later o (first_fault p (methods_from (k + 1) p.classes))) (sym none))

  pub class_is_first : (k : ℕ) (c : Class) (f : WeaveFault) → slice_get p.classes k ≡ Some c → Some f ≡ first_fault p c.methods → weave_fault p ≡ first_fault p (methods_from k p.classes) → Some f ≡ weave_fault p
  class_is_first k c f there found is = sym (is ∙ (one_class k c there ∙ ap (λ (o : Option WeaveFault). or_later o (first_fault p (methods_from (k + 1) p.classes))) (sym found)))

  pub no_class_is_first : (k : ℕ) → length p.classes ≤ k → weave_fault p ≡ first_fault p (methods_from k p.classes) → None ≡ weave_fault p
  no_class_is_first k h is = sym (is ∙ ap (λ (cs : List Class). first_fault p (flat_map (λ class. class.methods) cs)) (past k p.classes h))

-- ---- the fault of one method

pub method_fault : (p : Program) (m : Method) (id : MethodId) (calls w : ℕ) (long full : Bool) (o : Option WeaveFault) → calls ≡ calls_in p m.code → w ≡ m.code_length + (64 + (switches_bytes m.code + calls * (56 + 28 * (m.max_locals + m.max_stack)))) → long ≡ (nat_lt 0 calls && nat_lt 32767 w) → full ≡ is_full p m → o ≡ fault_if long full id w → o ≡ fault_of_method p id m
method_fault p m id calls w long full o counted weighs is_long is_full_so is =
    let wt : w ≡ weight p m = weighs ∙ ap (λ (n : ℕ). m.code_length + (64 + (switches_bytes m.code + n * (56 + 28 * (m.max_locals + m.max_stack))))) counted in
    let long_is : long ≡ is_too_long p m = is_long ∙ (ap (λ (n : ℕ). nat_lt 0 n && nat_lt 32767 w) counted ∙ ap (λ (n : ℕ). nat_lt 0 (calls_in p m.code) && nat_lt 32767 n) wt) in
    is ∙ (ap (λ (b : Bool). fault_if b full id w) long_is ∙ (ap (λ (b : Bool). fault_if (is_too_long p m) b id w) is_full_so ∙ ap (λ (n : ℕ). fault_if (is_too_long p m) (is_full p m) id n) wt))
