-- The loop of one `yield`: nothing is live, its new places differ, and it is woven.
use Rattle.std.proofs.Common.{◌≡◌, ℕ, ◌+◌, Bool, true, false, cond, eqb, Option, Some, None, refl, sym, ap, subst, ltb-true, ltb-false, arith}
use Rattle.std.specs.Prelude.{nat_lt}
use Rattle.std.proofs.lemmas.Bool.{false≢true}
use Rattle.std.proofs.lemmas.Option.{none-some, same_Some}
use Rattle.kilim_program.specs.declared.instr.Instr.{Instr}
use Rattle.kilim_program.specs.declared.instr.Instr.TheVariants.{Goto, Invokestatic}
use Rattle.kilim_program.specs.Lengths.{fetched, jump_targets, ends_path}
use Rattle.kilim_program.specs.BuiltIn.{method_id}
use Rattle.kilim_program.specs.Fits.{fits_type}
use Rattle.kilim_type_spec.specs.Step.{meets, row, special_fits}
use Rattle.kilim_type_spec.specs.Typed.{Live, Catches, ReadsIt, GoesOn, reads, IsLive, typing_of}
use Rattle.kilim_weave_spec.specs.Form.{WovenForm}
use Rattle.kilim_weave_spec.specs.Samples.{loop_execute, loop_plan, loop, woven_loop, woven_loop_marks}

-- ---- nothing is live

abbrev behind : Instr → ℕ → Option (Instr × ℕ)
behind i to = Some (i, to)

same_instr : (j i : Instr) (a b : ℕ) → behind j a ≡ behind i b → j ≡ i
same_instr j i a b e = ap (λ (z : Instr × ℕ). z.0) (same_Some (j, a) (i, b) e)

-- no instruction of it reads a local
none_reads : (k p to : ℕ) (i : Instr) → fetched loop_execute.code loop_execute.code_length p ≡ Some (i, to) → reads i k ≡ true → ⊥
none_reads k p to i f r = first (eqb 0 p) f
  where
    second : (b : Bool) → cond b (behind (Goto 0) 6) None ≡ behind i to → ⊥
    second true e = false≢true (subst (λ z. reads z k ≡ true) (sym (same_instr (Goto 0) i 6 to e)) r)
    second false e = none-some (i, to) e

    first : (b : Bool) → cond b (behind (Invokestatic (method_id 18)) 3) (cond (eqb 3 p) (behind (Goto 0) 6) None) ≡ behind i to → ⊥
    first true e = false≢true (subst (λ z. reads z k ≡ true) (sym (same_instr (Invokestatic (method_id 18)) i 3 to e)) r)
    first false e = second (eqb 3 p) e

none_live : (k p : ℕ) → Live loop_execute k p → ⊥
none_live k p (ReadsIt q to i f r) = none_reads k q to i f r
none_live k p (GoesOn q to next i f w a l) = none_live k next l
none_live k p (Catches q to next i f a l) = none_live k next l

live_is_none : IsLive loop_execute (λ place slot. false)
live_is_none p k = (λ e. absurd (false≢true e), λ l. absurd (none_live k p l))

-- ---- new places

places_differ : (a b : ℕ) → loop_plan.at a ≡ loop_plan.at b → a ≡ b
places_differ a b e = by (nat_lt a 3) refl (nat_lt b 3) refl e
  where
    by : (x : Bool) → nat_lt a 3 ≡ x → (y : Bool) → nat_lt b 3 ≡ y → cond x (a + 28) (a + 46) ≡ cond y (b + 28) (b + 46) → a ≡ b
    by true u true v h = omega (arith, h)
    by true u false v h = let c = ltb-true a 3 u in let d = ltb-false b 3 v in omega (arith, h, c, d)
    by false u true v h = let c = ltb-false a 3 u in let d = ltb-true b 3 v in omega (arith, h, c, d)
    by false u false v h = omega (arith, h)

-- ---- the program

pub loop_is_woven : WovenForm loop woven_loop woven_loop_marks
unfolding jump_targets ends_path fits_type meets row special_fits typing_of
loop_is_woven = record {
  classes = refl;
  fields = refl;
  form = refl;
  methods = (
    (refl, refl),
    (
      (
        λ place slot. false,
        loop_plan.at,
        loop_plan.block,
        live_is_none,
        record { labels = (refl, (refl, (refl, tt))); differ = places_differ; method = refl; counts = refl },
      ),
      (
        (refl, refl),
        (
          (refl, refl),
          (
            (refl, refl),
            (
              (refl, refl),
              (
                (refl, refl),
                (
                  (refl, refl),
                  (
                    (refl, refl),
                    (
                      (refl, refl),
                      (
                        (refl, refl),
                        (
                          (refl, refl),
                          (
                            (refl, refl),
                            (
                              (refl, refl),
                              (
                                (refl, refl),
                                (
                                  (refl, refl),
                                  (
                                    (refl, refl),
                                    (
                                      (refl, refl),
                                      (
                                        (refl, refl),
                                        (
                                          (refl, refl),
                                          ((refl, refl), ((refl, refl), ((refl, refl), ((refl, refl), ((refl, refl), ((refl, refl), ((refl, refl), ((refl, refl), ((refl, refl), ((refl, refl), ((refl, refl), ((refl, refl), ((refl, refl), ((refl, refl), ((refl, refl), ((refl, refl), ((refl, refl), ((refl, refl), ((refl, refl), ((refl, refl), ((refl, refl), ((refl, refl), ((refl, refl), ((refl, refl), ((refl, refl), (refl, refl)))))))))))))))))))))))))),
                                        ),
                                      ),
                                    ),
                                  ),
                                ),
                              ),
                            ),
                          ),
                        ),
                      ),
                    ),
                  ),
                ),
              ),
            ),
          ),
        ),
      ),
    ),
  );
}
