use Rattle.std.proofs.Common.{◌≡◌, ℤ, pos, get_or, List, true, false, refl, ap, sym, ◌∙◌, rules}
use Rattle.std.specs.Prelude.{not, FitsSigned}
use Rattle.std.specs.Int.{w64}
use Rattle.std.specs.List.{find}
use Rattle.std.proofs.lemmas.Int.{to_z-of_z}
use Rattle.kilim_class_code.specs.Marks.{is_marked}
use Rattle.kilim_class_code.proofs.Finding.{goes_on, is_found, is_none}
use Rattle.kilim_class_code.proofs.marks.first_of.Goals as goal

pub loop-to-preserved : goal.loop-to-preserved
loop-to-preserved c =
    let to = get_or c.args.targets.now c.loop-to.to-index (pos 0) in
    let fits : FitsSigned w64 to = search rules in
    let marked : is_marked c.args.marks.now to ≡ true = sym (simp to_z-of_z at c.is_marked.ensures) ∙ c.if-not-is_marked.false in
    goes_on (λ (ns : List ℤ). find (λ n. not (is_marked c.args.marks.now n)) ns) (λ (n : ℤ). not (is_marked c.args.marks.now n)) (λ (n : ℤ). n) c.args.targets.now c.loop-to.to-index c.loop-to.invariant (pos 0) c.loop-to-test.true (λ x ys. refl) (ap not marked)

pub returns-then-not-is_marked : goal.returns-then-not-is_marked
returns-then-not-is_marked c =
    let to = get_or c.args.targets.now c.loop-to.to-index (pos 0) in
    let fits : FitsSigned w64 to = search rules in
    let marked : is_marked c.args.marks.now to ≡ false = sym (simp to_z-of_z at c.is_marked.ensures) ∙ c.if-not-is_marked.true in
    rw (to_z-of_z w64 to fits)
    (is_found (λ (ns : List ℤ). find (λ n. not (is_marked c.args.marks.now n)) ns) (λ (n : ℤ). not (is_marked c.args.marks.now n)) (λ (n : ℤ). n) c.args.targets.now c.loop-to.to-index c.loop-to.invariant (pos 0) c.loop-to-test.true (λ x ys. refl) (ap not marked))

pub returns : goal.returns
returns c = is_none (λ (ns : List ℤ). find (λ n. not (is_marked c.args.marks.now n)) ns) (λ (n : ℤ). not (is_marked c.args.marks.now n)) (λ (n : ℤ). n) c.args.targets.now c.loop-to.to-index c.loop-to.invariant refl c.loop-to-test.false
