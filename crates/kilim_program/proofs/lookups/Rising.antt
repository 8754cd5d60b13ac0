-- The places of a program's code increase: no instruction has the length 0.
use Rattle.std.proofs.Common.{◌≡◌, ◌∙◌, sym, ap, refl, ℕ, zero, suc, ◌+◌, ◌-◌, ◌*◌, ◌<◌, ◌≤◌, ◌==◌, ℤ, pos, negsuc, Bool, true, false, ◌&&◌, ◌||◌, List, [], ◌∷◌, Some, length, map, slice_get, nat_lt, int_le, arith}
use Rattle.std.specs.List.{list_all}
use Rattle.std.proofs.lemmas.Bool.{and_parts}
use Rattle.kilim_program.specs.declared.class.Method.{Method}
use Rattle.kilim_program.specs.declared.instr.Instr.{Instr}
use Rattle.kilim_program.specs.declared.instr.Instr.TheVariants.{Iconst, Lconst, Bipush, Sipush, Ldc, LdcW, Ldc2W, Iload, Lload, Aload, Istore, Lstore, Astore, Iinc, Ifeq, Ifne, Iflt, Ifge, Ifgt, Ifle, IfIcmpeq, IfIcmpne, IfIcmplt, IfIcmpge, IfIcmpgt, IfIcmple, IfAcmpeq, IfAcmpne, Goto, Tableswitch, Lookupswitch, Getstatic, Getfield, Putfield, Invokevirtual, Invokespecial, Invokestatic, New, Newarray, Anewarray, Checkcast, Instanceof, Ifnull, Ifnonnull, GotoW}
use Rattle.kilim_program.specs.declared.names.MethodId.{MethodId}
use Rattle.kilim_program.specs.Program.{Program}
use Rattle.kilim_program.specs.Names.{method_at}
use Rattle.kilim_program.specs.Keeps.{Keeps, code_is_whole}
use Rattle.kilim_program.specs.Lengths.{has_length, is_loaded, is_local_length, is_iinc_length, is_jump_length, is_far, is_table, is_primitive, is_reference, matches_increase, switch_padding, code_stands, first_place}
use Rattle.kilim_program.specs.lookups.Places.{Above, Rising}

and_zero : (a b : Bool) → b ≡ false → (a && b) ≡ false
and_zero true b e = e
and_zero false b e = refl

or_zero : (a b : Bool) → a ≡ false → b ≡ false → (a || b) ≡ false
or_zero true b e f = e
or_zero false b e f = f

pub same_number : (a b : ℕ) → (a == b) ≡ true → a ≡ b
same_number a b e = grind (arith, e)

not_zero_by : (n : ℕ) (b : Bool) → (0 == n) ≡ b → 0 < n → b ≡ false
not_zero_by n true e more = absurd (let f = same_number 0 n e in omega (arith, f, more))
not_zero_by n false e more = refl

not_zero : (n : ℕ) → 0 < n → (0 == n) ≡ false
not_zero n more = not_zero_by n (0 == n) refl more

local_zero : (slot : ℕ) → is_local_length slot 0 ≡ false
local_zero slot = or_zero (nat_lt slot 4 && false) _ (and_zero (nat_lt slot 4) _ refl) (or_zero (nat_lt slot 256 && false) _ (and_zero (nat_lt slot 256) _ refl) refl)

iinc_zero : (slot : ℕ) (n : ℤ) → is_iinc_length slot n 0 ≡ false
iinc_zero slot n = or_zero (nat_lt slot 256 && (int_le (negsuc 127) n && (int_le n (pos 127) && false))) _ (and_zero (nat_lt slot 256) _ (and_zero (int_le (negsuc 127) n) _ (and_zero (int_le n (pos 127)) _ refl))) refl

jump_zero : (at to : ℕ) → is_jump_length at to 0 ≡ false
jump_zero at to = and_zero (nat_lt to (at + 32768)) _ (and_zero (nat_lt at (to + 32769)) _ refl)

no_length : (at : ℕ) (i : Instr) → has_length at i 0 ≡ false
unfolding has_length
no_length at (Iconst n) = and_zero (int_le (negsuc 0) n) _ (and_zero (int_le n (pos 5)) _ refl)
no_length at (Lconst n) = and_zero (int_le (pos 0) n) _ (and_zero (int_le n (pos 1)) _ refl)
no_length at (Bipush n) = refl
no_length at (Sipush n) = refl
no_length at (Ldc value) = and_zero (is_loaded value) _ refl
no_length at (LdcW value) = and_zero (is_loaded value) _ refl
no_length at (Ldc2W value) = and_zero (is_loaded value) _ refl
no_length at (Iload slot) = local_zero slot
no_length at (Lload slot) = local_zero slot
no_length at (Aload slot) = local_zero slot
no_length at (Istore slot) = local_zero slot
no_length at (Lstore slot) = local_zero slot
no_length at (Astore slot) = local_zero slot
no_length at (Iinc slot n) = iinc_zero slot n
no_length at (Ifeq to) = jump_zero at to
no_length at (Ifne to) = jump_zero at to
no_length at (Iflt to) = jump_zero at to
no_length at (Ifge to) = jump_zero at to
no_length at (Ifgt to) = jump_zero at to
no_length at (Ifle to) = jump_zero at to
no_length at (IfIcmpeq to) = jump_zero at to
no_length at (IfIcmpne to) = jump_zero at to
no_length at (IfIcmplt to) = jump_zero at to
no_length at (IfIcmpge to) = jump_zero at to
no_length at (IfIcmpgt to) = jump_zero at to
no_length at (IfIcmple to) = jump_zero at to
no_length at (IfAcmpeq to) = jump_zero at to
no_length at (IfAcmpne to) = jump_zero at to
no_length at (Goto to) = jump_zero at to
no_length at (Tableswitch default low targets) = and_zero (is_table low targets) _ (and_zero (list_all (is_far at) (default ∷ targets)) _ (not_zero (13 + switch_padding at + 4 * length targets) (omega arith)))
no_length at (Lookupswitch default pairs) = and_zero (matches_increase pairs) _ (and_zero (list_all (is_far at) (default ∷ map (λ (pair : ℤ × ℕ). pair.1) pairs)) _ (not_zero (9 + switch_padding at + 8 * length pairs) (omega arith)))
no_length at (Getstatic f) = refl
no_length at (Getfield f) = refl
no_length at (Putfield f) = refl
no_length at (Invokevirtual m) = refl
no_length at (Invokespecial m) = refl
no_length at (Invokestatic m) = refl
no_length at (New c) = refl
no_length at (Newarray element) = and_zero (is_primitive element) _ refl
no_length at (Anewarray element) = and_zero (is_reference element) _ refl
no_length at (Checkcast ty) = and_zero (is_reference ty) _ refl
no_length at (Instanceof ty) = and_zero (is_reference ty) _ refl
no_length at (Ifnull to) = jump_zero at to
no_length at (Ifnonnull to) = jump_zero at to
no_length at (GotoW to) = and_zero (is_far at to) _ refl
no_length at _ = refl

pub longer_by : (at n k : ℕ) (i : Instr) → n - at ≡ k → has_length at i k ≡ true → at < n
longer_by at n zero i e h = absurd (let f = no_length at i in cc)
longer_by at n (suc k) i e h = omega (arith, e)

AtLeast : ℕ → List (ℕ × Instr) → Type 0
AtLeast at [] = Unit {0}
AtLeast at (e ∷ es) = (at ≤ e.0) × AtLeast at es

above_all : (place at : ℕ) (es : List (ℕ × Instr)) → place < at → AtLeast at es → Above place es
unfolding AtLeast
above_all place at [] less h = tt
above_all place at (e ∷ es) less h = (omega (arith, less, h.0), above_all place at es less h.1)

lower : (at from : ℕ) (es : List (ℕ × Instr)) → at ≤ from → AtLeast from es → AtLeast at es
unfolding AtLeast
lower at from [] less h = tt
lower at from (e ∷ es) less h = (omega (arith, less, h.0), lower at from es less h.1)

record Risen (at : ℕ) (es : List (ℕ × Instr)) : Type 0 where
  rising : Rising es
  least : AtLeast at es

risen : (at : ℕ) (es : List (ℕ × Instr)) (end : ℕ) → code_stands at es end ≡ true → Risen at es
unfolding code_stands AtLeast
risen at [] end stands = record { rising = tt; least = tt }
risen at (e ∷ es) end stands =
    let here = and_parts (e.0 == at) _ stands in
    let long = and_parts (has_length at e.1 (first_place es end - at)) _ here.1 in
    let rest = risen (first_place es end) es end long.1 in
    let same : e.0 ≡ at = same_number e.0 at here.0 in
    let less : at < first_place es end = longer_by at (first_place es end) (first_place es end - at) e.1 refl long.0 in
    record { rising = (above_all e.0 (first_place es end) es (omega (arith, less, same)) rest.least, rest.rising); least = (omega (arith, same), lower at (first_place es end) es (omega (arith, less)) rest.least) }

pub all_there : {A : Type 0} (test : A → Bool) (xs : List A) (n : ℕ) (x : A) → list_all test xs ≡ true → slice_get xs n ≡ Some x → test x ≡ true
all_there test [] n x all there = absurd (cc)
all_there test (y ∷ xs) zero x all there = let e : y ≡ x = grind (arith, there) in ap test (sym e) ∙ (and_parts (test y) _ all).0
all_there test (y ∷ xs) (suc n) x all there = all_there test xs n x (and_parts (test y) _ all).1 there

pub code_rises : (p : Program) (m : MethodId) (method : Method) → Keeps p → method_at p m ≡ Some method → Rising method.code
unfolding code_is_whole
code_rises p m method keeps there = (risen 0 method.code method.code_length (and_parts (code_stands 0 method.code method.code_length) _ (all_there code_is_whole p.methods m.0 method keeps.code there)).0).rising
