-- What a sink was given, piece after piece.
use Rattle.std.proofs.Common.{◌≡◌, ℕ, List, [], ◌++◌, Option, Some, None, sym, ap, ◌∙◌, append_assoc}
use Rattle.std.proofs.lemmas.List.{append-nil}
use Rattle.kilim_outside.specs.Causes.{Appended}

abbrev some : List ℕ → Option (List ℕ)
some bs = Some bs

same : (a b : List ℕ) → some a ≡ some b → a ≡ b
same a b e = cc

untold : (mid new : Option (List ℕ)) (ys : List ℕ) → mid ≡ None → Appended mid new ys → new ≡ None
untold None new ys p q = q
untold (Some mid) new ys p q = absurd cc

told : (old : List ℕ) (mid new : Option (List ℕ)) (xs ys : List ℕ) → mid ≡ Some (old ++ xs) → Appended mid new ys → new ≡ Some (old ++ (xs ++ ys))
told old None new xs ys p q = absurd cc
told old (Some mid) new xs ys p q =
    let e : mid ≡ old ++ xs = same mid (old ++ xs) p in
    q ∙ ap (λ (bs : List ℕ). Some bs) (ap (λ (bs : List ℕ). bs ++ ys) e ∙ append_assoc old xs ys)

pub more : (old mid new : Option (List ℕ)) (xs ys : List ℕ) → Appended old mid xs → Appended mid new ys → Appended old new (xs ++ ys)
more None mid new xs ys p q = untold mid new ys p q
more (Some old) mid new xs ys p q = told old mid new xs ys p q
