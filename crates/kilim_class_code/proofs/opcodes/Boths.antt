-- A part behind another one, and what is made of both.
use Rattle.std.proofs.Common.{◌≡◌, ℕ, List, Result, Ok, Err, ap, ◌∙◌}
use Rattle.kilim_class_grammar.specs.Reader.{◌>>=◌, both, followed, made}
use Rattle.kilim_class_code.specs.declared.opcodes.fault.OpFault.{OpFault}
use Rattle.kilim_class_code.specs.opcodes.Reading.{InstrReader}

abbrev Read : Type 0 → Type 0
Read A = Result (A × List ℕ) OpFault

module _ {A C : Type 0} (make : A → C) (one : InstrReader A) (bytes : List ℕ) where
  abbrev made_of_one : Read A → Read C
  made_of_one r = r >>= λ z. Ok (make z.0, z.1)

  pub made_one : (x : A) (rest : List ℕ) → one bytes ≡ Ok (x, rest) → made make one bytes ≡ Ok (make x, rest)
  made_one x rest e = ap made_of_one e

  pub made_fails : (fault : OpFault) → one bytes ≡ Err fault → made make one bytes ≡ Err fault
  made_fails fault e = ap made_of_one e

module _ {A B C : Type 0} (make : A × B → C) (one : InstrReader A) (bytes : List ℕ) (fault : OpFault) (e : one bytes ≡ Err fault) where
  pub followed_stops : (others : A → InstrReader B) → made make (followed one others) bytes ≡ Err fault
  followed_stops others = ap (λ (r : Read A). (r >>= λ (p : A × List ℕ). others p.0 p.1 >>= λ (y : B × List ℕ). Ok ((p.0, y.0), y.1)) >>= λ (z : (A × B) × List ℕ). Ok (make z.0, z.1)) e

  pub both_stops : (other : InstrReader B) → made make (both one other) bytes ≡ Err fault
  both_stops other = followed_stops (λ a. other)

module _ {A B C : Type 0} (make : A × B → C) (one : InstrReader A) (bytes : List ℕ) (x : A) (rest : List ℕ) (e : one bytes ≡ Ok (x, rest)) where
  abbrev pair_of : A → B × List ℕ → Read (A × B)
  pair_of a y = Ok ((a, y.0), y.1)

  abbrev made_from : (A × B) × List ℕ → Read C
  made_from z = Ok (make z.0, z.1)

  abbrev made_of : Read B → Read C
  made_of r = (r >>= pair_of x) >>= made_from

  abbrev behind : (A → InstrReader B) → A × List ℕ → Read (A × B)
  behind others p = others p.0 p.1 >>= pair_of p.0

  pub followed_made : (others : A → InstrReader B) (y : B) (after : List ℕ) → others x rest ≡ Ok (y, after) → made make (followed one others) bytes ≡ Ok (make (x, y), after)
  followed_made others y after f = ap (λ (r : Read A). (r >>= behind others) >>= made_from) e ∙ ap made_of f

  pub followed_fails : (others : A → InstrReader B) (fault : OpFault) → others x rest ≡ Err fault → made make (followed one others) bytes ≡ Err fault
  followed_fails others fault f = ap (λ (r : Read A). (r >>= behind others) >>= made_from) e ∙ ap made_of f

  pub both_made : (other : InstrReader B) (y : B) (after : List ℕ) → other rest ≡ Ok (y, after) → made make (both one other) bytes ≡ Ok (make (x, y), after)
  both_made other y after f = ap (λ (r : Read A). (r >>= behind (λ a. other)) >>= made_from) e ∙ ap made_of f

  pub both_fails : (other : InstrReader B) (fault : OpFault) → other rest ≡ Err fault → made make (both one other) bytes ≡ Err fault
  both_fails other fault f = ap (λ (r : Read A). (r >>= behind (λ a. other)) >>= made_from) e ∙ ap made_of f
