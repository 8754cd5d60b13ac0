-- Which call stands before a place.
use Rattle.std.proofs.Common.{◌≡◌, cond, eqb, ℕ, ◌<◌, Bool, true, false, List, [], ◌∷◌, Option, Some, None, refl, sym, ap, subst, ◌∙◌, arith}
use Rattle.std.proofs.lemmas.Bool.{and_parts, eqb-true}
use Rattle.kilim_program.specs.declared.class.Method.{Method}
use Rattle.kilim_program.specs.declared.instr.Instr.{Instr}
use Rattle.kilim_program.specs.declared.names.MethodId.{MethodId}
use Rattle.kilim_program.specs.Keeps.{Keeps, code_is_whole}
use Rattle.kilim_program.specs.Lengths.{code_stands, fetched, first_place}
use Rattle.kilim_program.specs.Names.{method_at}
use Rattle.kilim_program.specs.Program.{Program}
use Rattle.kilim_type_laws.proofs.members.FromKeeps.{all_at}
use Rattle.kilim_fiber_spec.specs.Thread.{code_in, fetch}
use Rattle.kilim_weave_laws.proofs.woven_types.Codes.{whole_code}
use Rattle.kilim_weave_laws.proofs.woven_types.OldFacts.{GrowsTo}

none_is : (x : Instr × ℕ) → None ≡ Some x → ⊥
none_is x e = cc

pair_is : (x y : Instr × ℕ) → Some x ≡ Some y → x ≡ y
pair_is x y e = cc

-- an instruction's next place is behind the first one
later : (es : List (ℕ × Instr)) (end : ℕ) → GrowsTo end es → (a : ℕ) (i : Instr) (to : ℕ) → fetched es end a ≡ Some (i, to) → first_place es end < to
later [] end g a i to e = absurd (none_is (i, to) e)
later (x ∷ es) end g a i to e = by (eqb x.0 a) e (λ f. later es end g.1 a i to f)
  where
    by : (z : Bool) → cond z (Some (x.1, first_place es end)) (fetched es end a) ≡ Some (i, to) → (fetched es end a ≡ Some (i, to) → first_place es end < to) → x.0 < to
    by true e again = subst (λ (n : ℕ). x.0 < n) (ap (λ (y : Instr × ℕ). y.1) (pair_is (x.1, first_place es end) (i, to) e)) g.0
    by false e again = let l = again e in let m = g.0 in omega (arith, l, m)

one_before : (es : List (ℕ × Instr)) (end : ℕ) → GrowsTo end es → (a b : ℕ) (i j : Instr) (to : ℕ) → fetched es end a ≡ Some (i, to) → fetched es end b ≡ Some (j, to) → (a ≡ b) × (i ≡ j)
one_before [] end g a b i j to e f = absurd (none_is (i, to) e)
one_before (x ∷ es) end g a b i j to e f = by (eqb x.0 a) (eqb x.0 b) refl refl e f (λ p q. one_before es end g.1 a b i j to p q)
  where
    both : (z y : Bool) → eqb x.0 a ≡ z → eqb x.0 b ≡ y → z ≡ true → y ≡ true → a ≡ b
    both z y p q s t = sym (eqb-true x.0 a (p ∙ s)) ∙ eqb-true x.0 b (q ∙ t)

    place_is : (k : Instr) → ◌≡◌ {A = Option (Instr × ℕ)} (Some (x.1, first_place es end)) (Some (k, to)) → first_place es end ≡ to
    place_is k e = ap (λ (y : Instr × ℕ). y.1) (pair_is (x.1, first_place es end) (k, to) e)

    instr_is : (k : Instr) → ◌≡◌ {A = Option (Instr × ℕ)} (Some (x.1, first_place es end)) (Some (k, to)) → x.1 ≡ k
    instr_is k e = ap (λ (y : Instr × ℕ). y.0) (pair_is (x.1, first_place es end) (k, to) e)

    by : (z y : Bool) → eqb x.0 a ≡ z → eqb x.0 b ≡ y → cond z (Some (x.1, first_place es end)) (fetched es end a) ≡ Some (i, to) → cond y (Some (x.1, first_place es end)) (fetched es end b) ≡ Some (j, to) → (fetched es end a ≡ Some (i, to) → fetched es end b ≡ Some (j, to) → (a ≡ b) × (i ≡ j)) → (a ≡ b) × (i ≡ j)
    by true true p q e f again = (both true true p q refl refl, sym (instr_is i e) ∙ instr_is j f)
    by true false p q e f again = let l = later es end g.1 b j to f in let s = place_is i e in absurd (omega (arith, l, s))
    by false true p q e f again = let l = later es end g.1 a i to e in let s = place_is j f in absurd (omega (arith, l, s))
    by false false p q e f again = again e f

module _ (p : Program) (keeps : Keeps p) where
  stands : (m : MethodId) (method : Method) → method_at p m ≡ Some method → code_stands 0 method.code method.code_length ≡ true
  unfolding code_is_whole
  stands m method at = (and_parts (code_stands 0 method.code method.code_length) _ (all_at code_is_whole p.methods m.0 method keeps.code at)).0

  pub one_call : (m : MethodId) (a b : ℕ) (i j : Instr) (to : ℕ) → fetch p m a ≡ Some (i, to) → fetch p m b ≡ Some (j, to) → (a ≡ b) × (i ≡ j)
  one_call m a b i j to e f = by (method_at p m) refl e f
    where
      by : (o : Option Method) → method_at p m ≡ o → code_in o a ≡ Some (i, to) → code_in o b ≡ Some (j, to) → (a ≡ b) × (i ≡ j)
      by None at e f = absurd (none_is (i, to) e)
      by (Some method) at e f = one_before method.code method.code_length (whole_code method (stands m method at)).grows a b i j to e f
