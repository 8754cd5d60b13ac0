-- The mark of an instruction, by its number.
use Rattle.std.proofs.Common.{◌≡◌, ℕ, zero, suc, ◌<◌, Bool, cond, List, [], ◌∷◌, Option, Some, ap, sym, subst, ◌∙◌, arith, drop, length}
use Rattle.std.specs.Prelude.{slice_get}
use Rattle.std.proofs.lemmas.Bool.{eq-eqb, ne_eqb}
use Rattle.std.proofs.lemmas.Option.{same_Some, none-some}
use Rattle.kilim_program.specs.declared.class.Method.{Method}
use Rattle.kilim_program.specs.declared.instr.Instr.{Instr}
use Rattle.kilim_program.specs.declared.names.MethodId.{MethodId}
use Rattle.kilim_program.specs.Names.{method_at}
use Rattle.kilim_program.specs.Program.{Program}
use Rattle.kilim_program.specs.Lengths.{first_place}
use Rattle.kilim_program.specs.lookups.Places.{Above, Rising}
use Rattle.kilim_fiber_spec.specs.Fibers.{marked, marks_of, wcode_in}
use Rattle.kilim_fiber_steps.specs.Marks.{IsMark, IsMarked, IsNumber}

above_there : (p : ℕ) (code : List (ℕ × Instr)) (n : ℕ) (e : ℕ × Instr) → Above p code → slice_get code n ≡ Some e → p < e.0
above_there p [] n e a is = absurd (none-some e is)
above_there p (c ∷ cs) zero e a is = subst (λ (z : ℕ × Instr). p < z.0) (same_Some _ _ is) a.0
above_there p (c ∷ cs) (suc n) e a is = above_there p cs n e a.1 is

-- the first one, and those behind it
first_marked : (c : ℕ × Instr) (cs : List (ℕ × Instr)) (m : Bool) (ms : List Bool) (end p : ℕ) → c.0 ≡ p → marked (c ∷ cs) (m ∷ ms) end p ≡ Some (c.1, first_place cs end, m)
first_marked c cs m ms end p e = ap (λ (b : Bool). cond b (Some (c.1, first_place cs end, m)) (marked cs ms end p)) (eq-eqb c.0 p e)

later_marked : (c : ℕ × Instr) (cs : List (ℕ × Instr)) (m : Bool) (ms : List Bool) (end p : ℕ) → c.0 < p → marked (c ∷ cs) (m ∷ ms) end p ≡ marked cs ms end p
later_marked c cs m ms end p lt = ap (λ (b : Bool). cond b (Some (c.1, first_place cs end, m)) (marked cs ms end p)) (ne_eqb c.0 p (λ e. omega (arith, e, lt)))

pub marked_at : (code : List (ℕ × Instr)) (marks : List Bool) (end p n : ℕ) (e : ℕ × Instr) (b : Bool) → Rising code → slice_get code n ≡ Some e → slice_get marks n ≡ Some b → e.0 ≡ p → IsMarked code marks end p b
marked_at [] marks end p n e b r is has at = absurd (none-some e is)
marked_at (c ∷ cs) [] end p n e b r is has at = absurd (none-some b has)
marked_at (c ∷ cs) (m ∷ ms) end p zero e b r is has at = record {
  found = (c.1, first_place cs end, m);
  at = first_marked c cs m ms end p (ap (λ (z : ℕ × Instr). z.0) (same_Some _ _ is) ∙ at);
  is = same_Some _ _ has;
}
marked_at (c ∷ cs) (m ∷ ms) end p (suc n) e b r is has at =
    let w = marked_at cs ms end p n e b r.1 is has at in
    let lt : c.0 < p = subst (λ (z : ℕ). c.0 < z) at (above_there c.0 cs n e r.0 is) in
    record { found = w.found; at = later_marked c cs m ms end p lt ∙ w.at; is = w.is }

within : {A : Type 0} (xs : List A) (n : ℕ) (x : A) → slice_get xs n ≡ Some x → n < length xs
within [] n x is = absurd (none-some x is)
within (y ∷ ys) zero x is = omega arith
within (y ∷ ys) (suc n) x is = let less = within ys n x is in omega (arith, less)

pub first_at : (code : List (ℕ × Instr)) (end n : ℕ) (e : ℕ × Instr) → slice_get code n ≡ Some e → first_place (drop n code) end ≡ e.0
first_at [] end n e is = absurd (none-some e is)
first_at (c ∷ cs) end zero e is = ap (λ (z : ℕ × Instr). z.0) (same_Some _ _ is)
first_at (c ∷ cs) end (suc n) e is = first_at cs end n e is

pub is_number : (code : List (ℕ × Instr)) (marks : List Bool) (end p n : ℕ) (e : ℕ × Instr) (b : Bool) → Rising code → slice_get code n ≡ Some e → slice_get marks n ≡ Some b → e.0 ≡ p → IsNumber code marks end p n b
is_number code marks end p n e b rising is has at = record {
  within = within code n e is;
  stands = first_at code end n e is ∙ at;
  has = marked_at code marks end p n e b rising is has at;
}

pub number_here : (code : List (ℕ × Instr)) (marks : List Bool) (end n : ℕ) (e : ℕ × Instr) (b : Bool) → Rising code → slice_get code n ≡ Some e → slice_get marks n ≡ Some b → IsNumber code marks end (first_place (drop n code) end) n b
number_here code marks end n e b rising is has = is_number code marks end (first_place (drop n code) end) n e b rising is has (sym (first_at code end n e is))

-- the mark in a method is the one in the program
pub mark_in : (p : Program) (counted : List (List Bool)) (m : MethodId) (own : Method) (marks : List Bool) (place : ℕ) (mark : Bool) → method_at p m ≡ Some own → marks_of counted m ≡ marks →
    IsMarked own.code marks own.code_length place mark → IsMark p counted m place mark
mark_in p counted m own marks place mark there are is =
    let here : wcode_in (marks_of counted m) (Some own) place ≡ Some is.found = subst (λ (ms : List Bool). wcode_in ms (Some own) place ≡ Some is.found) (sym are) is.at in
    record { found = is.found; at = subst (λ (o : Option Method). wcode_in (marks_of counted m) o place ≡ Some is.found) (sym there) here; is = is.is }
