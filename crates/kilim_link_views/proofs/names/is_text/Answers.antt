use Rattle.std.proofs.Common.{◌≡◌, ℕ, ◌+◌, ◌<◌, List, ◌∷◌, length, drop, get_or, sym, ap, ◌∙◌, arith, ◌&&◌}
use Rattle.std.specs.Str.{bytes_eq}
use Rattle.std.proofs.lemmas.Bool.{eq-eqb}
use Rattle.std.proofs.lemmas.List.{drop_more}
use Rattle.kilim_link_views.proofs.names.is_text.Goals as goal

same_first : (x y : ℕ) (xs ys : List ℕ) → x ≡ y → bytes_eq (x ∷ xs) (y ∷ ys) ≡ bytes_eq xs ys
same_first x y xs ys e = ap (λ b. b && bytes_eq xs ys) (eq-eqb x y e)

one_less : (xs ys : List ℕ) (i : ℕ) → i < length xs → i < length ys → get_or xs i 0 ≡ get_or ys i 0 → bytes_eq (drop i xs) (drop i ys) ≡ bytes_eq (drop (i + 1) xs) (drop (i + 1) ys)
one_less xs ys i lx ly e =
    ap (λ (zs : List ℕ). bytes_eq zs (drop i ys)) (drop_more xs i 0 lx) ∙ (ap (λ (zs : List ℕ). bytes_eq (get_or xs i 0 ∷ drop (i + 1) xs) zs) (drop_more ys i 0 ly) ∙ same_first (get_or xs i 0) (get_or ys i 0) (drop (i + 1) xs) (drop (i + 1) ys) e)

pub loop-i-preserved : goal.loop-i-preserved
loop-i-preserved c =
    let lt : c.loop-i.i < length c.args.ascii.now = omega (arith, c.loop-i-test.true, c.if-units-ascii.false) in
    sym (one_less c.args.units.now c.args.ascii.now c.loop-i.i c.loop-i-test.true lt (c.if-unit-from.false ∙ c.from.ensures)) ∙ c.loop-i.invariant
