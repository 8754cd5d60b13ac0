-- How long moved and added instructions are, in code within reach.
use Rattle.std.proofs.Common.{◌≡◌, ℕ, ℤ, suc, ◌+◌, ◌*◌, ◌^◌, ◌≤◌, Bool, true, false, cond, eqb, not, pos, ◌+ℤ◌, int_le, List, [], ◌∷◌, length, map, refl, sym, ap, subst, arith, eq-eqb, lt-ltb, leb-true}
use Rattle.std.specs.Prelude.{◌&&◌, ◌||◌, nat_le, nat_lt}
use Rattle.std.specs.List.{list_all}
use Rattle.std.proofs.lemmas.Bool.{and_parts, and_from}
use Rattle.std.proofs.lemmas.List.{length-map}
use Rattle.kilim_program.specs.declared.instr.Instr.{Instr}
use Rattle.kilim_program.specs.declared.instr.Instr.TheVariants.{Iload, Lload, Aload, Istore, Lstore, Astore, Ifeq, Ifne, Iflt, Ifge, Ifgt, Ifle, IfIcmpeq, IfIcmpne, IfIcmplt, IfIcmpge, IfIcmpgt, IfIcmple, IfAcmpeq, IfAcmpne, Goto, Tableswitch, Lookupswitch, Ifnull, Ifnonnull, GotoW}
use Rattle.kilim_program.specs.Lengths.{has_length, is_far, is_jump_length, is_local_length, is_table, jump_targets, matches_increase, switch_padding}
use Rattle.kilim_weave_spec.specs.Woven.{local_size, moved_instr, moved_pairs, old_size}
use Rattle.kilim_weave_laws.specs.woven_programs.keeps.Law.{reach}

pub reach_is : reach ≡ 32767
unfolding reach
reach_is = refl

-- a place that each jump reaches
abbrev pub near : ℕ → Bool
near to = nat_le to reach

local_by : (a b : Bool) → ((a && eqb (cond a 1 (cond b 2 4)) 1) || ((b && eqb (cond a 1 (cond b 2 4)) 2) || eqb (cond a 1 (cond b 2 4)) 4)) ≡ true
local_by true b = refl
local_by false true = refl
local_by false false = refl

pub local_fits : (slot : ℕ) → is_local_length slot (local_size slot) ≡ true
local_fits slot = local_by (nat_lt slot 4) (nat_lt slot 256)

pub jump_fits : (q to n : ℕ) → q ≤ reach → near to ≡ true → eqb n 3 ≡ true → is_jump_length q to n ≡ true
jump_fits q to n le is three =
    let r = reach_is in
    let t = leb-true to reach is in
    and_from (nat_lt to (q + 32768)) _ (lt-ltb to (q + 32768) (omega (arith, r, t))) (and_from (nat_lt q (to + 32769)) (eqb n 3) (lt-ltb q (to + 32769) (omega (arith, r, le))) three)

pub far_fits : (q to : ℕ) → q ≤ reach → near to ≡ true → is_far q to ≡ true
far_fits q to le is =
    let r = reach_is in
    let t = leb-true to reach is in
    and_from (nat_lt to (q + 2 ^ 31)) _ (lt-ltb to (q + 2 ^ 31) (omega (arith, r, t))) (lt-ltb q (to + (2 ^ 31 + 1)) (omega (arith, r, le)))

pub all_far : (q : ℕ) (ts : List ℕ) → q ≤ reach → list_all near ts ≡ true → list_all (is_far q) ts ≡ true
all_far q [] le h = refl
all_far q (t ∷ ts) le h = let p = and_parts (near t) (list_all near ts) h in and_from (is_far q t) _ (far_fits q t le p.0) (all_far q ts le p.1)

jump_moved : (p to n q to' : ℕ) → is_jump_length p to n ≡ true → q ≤ reach → list_all near (to' ∷ []) ≡ true → is_jump_length q to' n ≡ true
jump_moved p to n q to' h le is =
    let three = (and_parts (nat_lt p (to + 32769)) (eqb n 3) (and_parts (nat_lt to (p + 32768)) _ h).1).1 in
    jump_fits q to' n le (and_parts (near to') true is).0 three

pairs_length : (at : ℕ → ℕ) (es : List (ℤ × ℕ)) → length (moved_pairs at es) ≡ length es
pairs_length at [] = refl
pairs_length at (e ∷ es) = ap suc (pairs_length at es)

still_increase : (at : ℕ → ℕ) (es : List (ℤ × ℕ)) → matches_increase es ≡ true → matches_increase (moved_pairs at es) ≡ true
unfolding matches_increase
still_increase at [] h = refl
still_increase at (e ∷ []) h = refl
still_increase at (e ∷ f ∷ es) h = let p = and_parts (not (int_le f.0 e.0)) (matches_increase (f ∷ es)) h in and_from (not (int_le f.0 e.0)) _ p.0 (still_increase at (f ∷ es) p.1)

pub table_moved : (low : _) (targets ts : List ℕ) → length ts ≡ length targets → is_table low targets ≡ true → is_table low ts ≡ true
table_moved low targets ts len h = subst (λ (n : ℕ). (nat_lt 0 n && int_le (low +ℤ pos n) (pos (2 ^ 31))) ≡ true) (sym len) h

-- an old instruction at its new place
pub old_fits : (at : ℕ → ℕ) (i : Instr) (p n q : ℕ) → has_length p i n ≡ true → q ≤ reach → list_all near (jump_targets (moved_instr at i)) ≡ true → has_length q (moved_instr at i) (old_size i n q) ≡ true
unfolding has_length jump_targets
old_fits at (Iload slot) p n q h le is = local_fits slot
old_fits at (Lload slot) p n q h le is = local_fits slot
old_fits at (Aload slot) p n q h le is = local_fits slot
old_fits at (Istore slot) p n q h le is = local_fits slot
old_fits at (Lstore slot) p n q h le is = local_fits slot
old_fits at (Astore slot) p n q h le is = local_fits slot
old_fits at (Ifeq to) p n q h le is = jump_moved p to n q (at to) h le is
old_fits at (Ifne to) p n q h le is = jump_moved p to n q (at to) h le is
old_fits at (Iflt to) p n q h le is = jump_moved p to n q (at to) h le is
old_fits at (Ifge to) p n q h le is = jump_moved p to n q (at to) h le is
old_fits at (Ifgt to) p n q h le is = jump_moved p to n q (at to) h le is
old_fits at (Ifle to) p n q h le is = jump_moved p to n q (at to) h le is
old_fits at (IfIcmpeq to) p n q h le is = jump_moved p to n q (at to) h le is
old_fits at (IfIcmpne to) p n q h le is = jump_moved p to n q (at to) h le is
old_fits at (IfIcmplt to) p n q h le is = jump_moved p to n q (at to) h le is
old_fits at (IfIcmpge to) p n q h le is = jump_moved p to n q (at to) h le is
old_fits at (IfIcmpgt to) p n q h le is = jump_moved p to n q (at to) h le is
old_fits at (IfIcmple to) p n q h le is = jump_moved p to n q (at to) h le is
old_fits at (IfAcmpeq to) p n q h le is = jump_moved p to n q (at to) h le is
old_fits at (IfAcmpne to) p n q h le is = jump_moved p to n q (at to) h le is
old_fits at (Goto to) p n q h le is = jump_moved p to n q (at to) h le is
old_fits at (Ifnull to) p n q h le is = jump_moved p to n q (at to) h le is
old_fits at (Ifnonnull to) p n q h le is = jump_moved p to n q (at to) h le is
old_fits at (GotoW to) p n q h le is =
    and_from (is_far q (at to)) _ (far_fits q (at to) le (and_parts (near (at to)) true is).0) (and_parts (is_far p to) (eqb n 5) h).1
old_fits at (Tableswitch default low targets) p n q h le is =
    let table = (and_parts (is_table low targets) _ h).0 in
    let count = length-map targets at in
    and_from (is_table low (map at targets)) _ (table_moved low targets (map at targets) count table)
    (and_from (list_all (is_far q) (at default ∷ map at targets)) _ (all_far q (at default ∷ map at targets) le is) (eq-eqb (13 + (switch_padding q + 4 * length targets)) (13 + switch_padding q + 4 * length (map at targets)) (omega (arith, count))))
old_fits at (Lookupswitch default pairs) p n q h le is =
    let table = (and_parts (matches_increase pairs) _ h).0 in
    let count = pairs_length at pairs in
    and_from (matches_increase (moved_pairs at pairs)) _ (still_increase at pairs table)
    (and_from (list_all (is_far q) (at default ∷ map (λ pair. pair.1) (moved_pairs at pairs))) _ (all_far q (at default ∷ map (λ pair. pair.1) (moved_pairs at pairs)) le is) (eq-eqb (9 + (switch_padding q + 8 * length pairs)) (9 + switch_padding q + 8 * length (moved_pairs at pairs)) (omega (arith, count))))
old_fits at i p n q h le is = h
