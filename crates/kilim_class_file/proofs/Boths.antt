-- A part behind another one.
use Rattle.std.proofs.Common.{◌≡◌, ℕ, List, Result, Ok, ap, ◌∙◌}
use Rattle.kilim_class_grammar.specs.Reader.{Reader, ◌>>=◌, both}

pub both_read : {F A B : Type 0} (one : Reader F A) (other : Reader F B) (bytes : List ℕ) (x : A) (rest : List ℕ) (y : B) (after : List ℕ) → one bytes ≡ Ok (x, rest) → other rest ≡ Ok (y, after)
    → both one other bytes ≡ Ok ((x, y), after)
both_read {F = F} {A = A} {B = B} one other bytes x rest y after e f =
    ap (λ (r : Result (A × List ℕ) F). r >>= λ p. other p.1 >>= λ q. Ok ((p.0, q.0), q.1)) e
    ∙ ap (λ (r : Result (B × List ℕ) F). r >>= λ q. Ok ((x, q.0), q.1)) f
