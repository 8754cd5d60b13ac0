-- Where the switch at the beginning of a woven method goes.
use Rattle.std.proofs.Common.{◌≡◌, ◌≢◌, ◌⊎◌, inl, inr, ℕ, zero, suc, ◌+◌, ◌≤◌, Bool, true, false, eqb, cond, ℤ, pos, negsuc, List, [], ◌∷◌, Option, Some, None, refl, sym, ap, ◌∙◌, arith, ltb-true}
use Rattle.std.specs.Prelude.{slice_get, if◌then◌else◌, ◌==◌, is_some, ◌-◌, ◌-ℤ◌, nat_lt}
use Rattle.std.proofs.lemmas.Bool.Decides.{eqb_tells}
use Rattle.kilim_program.specs.declared.class.Method.{Method}
use Rattle.kilim_program.specs.declared.instr.Instr.{Instr}
use Rattle.kilim_run_machine.specs.Does.{table_target, target_or}
use Rattle.kilim_program.specs.Lengths.{first_place, fetched}
use Rattle.kilim_weave_spec.specs.Woven.{Plan, pausable_callee, count, resume_places}
use Rattle.kilim_fiber_laws.proofs.stands.Laid.{number_at}

at_least : (n : ℕ) → 1 ≤ n → nat_lt n 1 ≡ false
at_least n h = by (nat_lt n 1) refl
  where
    by : (b : Bool) → nat_lt n 1 ≡ b → nat_lt n 1 ≡ false
    by true e = let z = ltb-true n 1 e in absurd (omega (arith, z, h))
    by false e = e

one_less : (j : ℕ) → pos (suc j) -ℤ pos 1 ≡ pos j
one_less j =
    let e : suc j - 1 ≡ j = omega arith in
    ap (λ (b : Bool). cond b (negsuc (1 - suc (suc j))) (pos (suc j - 1))) (at_least (suc j) (omega arith)) ∙ ap pos e

abbrev value_of : Instr → Option (Instr × ℕ) → Instr
value_of z None = z
value_of z (Some y) = y.0

module _ (x : Plan) where
  abbrev pub num : ℕ → List (ℕ × Instr) → ℕ → ℕ
  num = number_at x

  pub no_less : (es : List (ℕ × Instr)) (k p : ℕ) → k ≤ num k es p
  no_less [] k p = omega arith
  no_less (d ∷ es) k p = by (d.0 == p) (pausable_callee x.program d.1) (λ n. no_less es n p)
    where
      by : (b : Bool) (o : Option Method) → ((n : ℕ) → n ≤ num n es p) → k ≤ (if b then k else num (count o k) es p)
      by true o go = omega arith
      by false None go = go k
      by false (Some c) go = let a = go (suc k) in omega (arith, a)

  -- the block of a pausable call stands in the switch at its number
  pub resume_slot : (es : List (ℕ × Instr)) (k j p to : ℕ) (i : Instr) (callee : Method) → fetched es x.method.code_length p ≡ Some (i, to) → pausable_callee x.program i ≡ Some callee → num k es p ≡ k + j
      → slice_get (resume_places x k es) j ≡ Some (x.block (k + j))
  resume_slot [] k j p to i callee e hp n = absurd (cc)
  resume_slot (d ∷ es) k j p to i callee e hp n =
      by (eqb_tells d.0 p) e n (λ k2 j2 e2 n2. resume_slot es k2 j2 p to i callee e2 hp n2)
    where
      goal : Option Method → ℕ → Type 0
      goal o j = slice_get (if is_some o then x.block k ∷ resume_places x (suc k) es else resume_places x k es) j ≡ Some (x.block (k + j))

      later : (o : Option Method) (j : ℕ) → num (count o k) es p ≡ k + j → ((k2 j2 : ℕ) → num k2 es p ≡ k2 + j2 → slice_get (resume_places x k2 es) j2 ≡ Some (x.block (k2 + j2)))
          → slice_get (if is_some o then x.block k ∷ resume_places x (suc k) es else resume_places x k es) j ≡ Some (x.block (k + j))
      later None j n go = go k j n
      later (Some c) zero n go = let a = no_less es (suc k) p in absurd (omega (arith, a, n))
      later (Some c) (suc j) n go = go (suc k) j (n ∙ omega arith) ∙ ap (λ (m : ℕ). Some (x.block m)) (omega arith)

      first : (o : Option Method) → o ≡ Some callee → (j : ℕ) → k ≡ k + j → slice_get (if is_some o then x.block k ∷ resume_places x (suc k) es else resume_places x k es) j ≡ Some (x.block (k + j))
      first None h j n = absurd (cc)
      first (Some c) h zero n = ap (λ (m : ℕ). Some (x.block m)) n
      first (Some c) h (suc j) n = absurd (omega (arith, n))

      by : ((eqb d.0 p ≡ true) × (d.0 ≡ p)) ⊎ ((eqb d.0 p ≡ false) × (d.0 ≢ p)) → (if d.0 == p then Some (d.1, first_place es x.method.code_length) else fetched es x.method.code_length p) ≡ Some (i, to)
          → (if d.0 == p then k else num (count (pausable_callee x.program d.1) k) es p) ≡ k + j
          → ((k2 j2 : ℕ) → fetched es x.method.code_length p ≡ Some (i, to) → num k2 es p ≡ k2 + j2 → slice_get (resume_places x k2 es) j2 ≡ Some (x.block (k2 + j2)))
          → slice_get (if is_some (pausable_callee x.program d.1) then x.block k ∷ resume_places x (suc k) es else resume_places x k es) j ≡ Some (x.block (k + j))
      by (inl t) e n go =
          let e2 = ap (λ (b : Bool). if b then Some (d.1, first_place es x.method.code_length) else fetched es x.method.code_length p) (sym t.0) ∙ e in
          let n2 = ap (λ (b : Bool). if b then k else num (count (pausable_callee x.program d.1) k) es p) (sym t.0) ∙ n in
          first (pausable_callee x.program d.1) (ap (pausable_callee x.program) (ap (value_of d.1) e2) ∙ hp) j n2
      by (inr t) e n go =
          let e2 = ap (λ (b : Bool). if b then Some (d.1, first_place es x.method.code_length) else fetched es x.method.code_length p) (sym t.0) ∙ e in
          let n2 = ap (λ (b : Bool). if b then k else num (count (pausable_callee x.program d.1) k) es p) (sym t.0) ∙ n in
          later (pausable_callee x.program d.1) j n2 (λ k2 j2 n3. go k2 j2 e2 n3)

  -- so the switch goes to the block
  pub target : (d p to j : ℕ) (i : Instr) (callee : Method) → fetched x.method.code x.method.code_length p ≡ Some (i, to) → pausable_callee x.program i ≡ Some callee → num 1 x.method.code p ≡ 1 + j
      → table_target (resume_places x 1 x.method.code) (pos (num 1 x.method.code p) -ℤ pos 1) d ≡ x.block (num 1 x.method.code p)
  target d p to j i callee e hp n =
      let s : num 1 x.method.code p ≡ suc j = n ∙ omega arith in
      ap (λ (m : ℕ). table_target (resume_places x 1 x.method.code) (pos m -ℤ pos 1) d) s
      ∙ ap (λ (z : ℤ). table_target (resume_places x 1 x.method.code) z d) (one_less j)
      ∙ ap (λ (o : Option ℕ). target_or o d) (resume_slot x.method.code 1 j p to i callee e hp n)
      ∙ ap x.block (sym n)
