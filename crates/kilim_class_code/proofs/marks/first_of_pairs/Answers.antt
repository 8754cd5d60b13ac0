use Rattle.std.proofs.Common.{◌≡◌, ℤ, pos, get_or, List, map, true, false, refl, ap, sym, ◌∙◌, rules}
use Rattle.std.specs.Prelude.{not, FitsSigned}
use Rattle.std.specs.Int.{w64}
use Rattle.std.specs.List.{find}
use Rattle.std.proofs.lemmas.Int.{to_z-of_z}
use Rattle.kilim_class_code.specs.Marks.{is_marked}
use Rattle.kilim_class_code.proofs.Finding.{goes_on, is_found, is_none}
use Rattle.kilim_class_code.proofs.marks.first_of_pairs.Goals as goal

pub loop-pair-preserved : goal.loop-pair-preserved
loop-pair-preserved c =
    let to = (get_or c.args.pairs.now c.loop-pair.pair-index (pos 0, pos 0)).1 in
    let fits : FitsSigned w64 to = search rules in
    let marked : is_marked c.args.marks.now to ≡ true = sym (simp to_z-of_z at c.is_marked.ensures) ∙ c.if-not-is_marked.false in
    goes_on (λ (pairs : List (ℤ × ℤ)). find (λ n. not (is_marked c.args.marks.now n)) (map (λ (pair : ℤ × ℤ). pair.1) pairs)) (λ (pair : ℤ × ℤ). not (is_marked c.args.marks.now pair.1)) (λ (pair : ℤ × ℤ). pair.1) c.args.pairs.now c.loop-pair.pair-index c.loop-pair.invariant (pos 0, pos 0) c.loop-pair-test.true (λ x ys. refl) (ap not marked)

pub returns-then-not-is_marked : goal.returns-then-not-is_marked
returns-then-not-is_marked c =
    let to = (get_or c.args.pairs.now c.loop-pair.pair-index (pos 0, pos 0)).1 in
    let fits : FitsSigned w64 to = search rules in
    let marked : is_marked c.args.marks.now to ≡ false = sym (simp to_z-of_z at c.is_marked.ensures) ∙ c.if-not-is_marked.true in
    rw (to_z-of_z w64 to fits)
    (is_found (λ (pairs : List (ℤ × ℤ)). find (λ n. not (is_marked c.args.marks.now n)) (map (λ (pair : ℤ × ℤ). pair.1) pairs)) (λ (pair : ℤ × ℤ). not (is_marked c.args.marks.now pair.1)) (λ (pair : ℤ × ℤ). pair.1) c.args.pairs.now c.loop-pair.pair-index c.loop-pair.invariant (pos 0, pos 0) c.loop-pair-test.true (λ x ys. refl) (ap not marked))

pub returns : goal.returns
returns c = is_none (λ (pairs : List (ℤ × ℤ)). find (λ n. not (is_marked c.args.marks.now n)) (map (λ (pair : ℤ × ℤ). pair.1) pairs)) (λ (pair : ℤ × ℤ). not (is_marked c.args.marks.now pair.1)) (λ (pair : ℤ × ℤ). pair.1) c.args.pairs.now c.loop-pair.pair-index c.loop-pair.invariant refl c.loop-pair-test.false
