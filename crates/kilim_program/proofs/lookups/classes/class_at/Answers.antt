use Rattle.std.proofs.Common.{◌≡◌, ℕ, zero, suc, ◌<◌, ◌≤◌, List, [], ◌∷◌, length, Option, None, Some, sym, ap, ◌∙◌, arith}
use Rattle.std.specs.Prelude.{MatchOption, slice_get, slice_index_or}
use Rattle.std.specs.Option.{option_map}
use Rattle.std.specs.List.{HoldsAt}
use Rattle.std.proofs.lemmas.Option.{slice_get_past}
use Rattle.kilim_program.specs.declared.class.Class.{Class}
use Rattle.kilim_program.specs.Program.{Program}
use Rattle.kilim_program.proofs.lookups.classes.class_at.Goals as goal

there : {X : Type 0} (x : X) (xs : List X) (i : ℕ) → i < length xs → ((d : X) → x ≡ slice_index_or xs i d) → Some x ≡ slice_get xs i
there x [] i lt h = absurd (omega arith)
there x (y ∷ xs) zero lt h = ap (λ z. Some z) (h x)
there x (y ∷ xs) (suc i) lt h = there x xs i (omega arith) h

got : {X R : Type 0} (r : Option R) (now : R → X) (xs : List X) (i : ℕ) → MatchOption r (length xs ≤ i) (λ x. (i < length xs) × HoldsAt (λ y. now x ≡ y) xs i) → option_map now r ≡ slice_get xs i
got None now xs i h = sym (slice_get_past xs i h)
got (Some x) now xs i h = there (now x) xs i h.0 h.1

pub returns : goal.returns
returns c =
    got c.get.result (λ x. x.now) c.as_slice.result.now c.args.class.0 c.get.ensures.lookup.3
    ∙ (ap (λ (classes : List Class). slice_get classes c.args.class.0) c.as_slice.ensures ∙ ap (λ (p : Program). slice_get p.classes c.args.class.0) c.program.view_is)
