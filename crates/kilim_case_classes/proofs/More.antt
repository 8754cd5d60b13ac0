-- What holds of each element holds where there is one more.
use Rattle.std.proofs.Common.{◌≡◌, List, [], ◌∷◌, ◌++◌, sym, subst}
use Rattle.std.specs.List.{AllByRecursion}

module _ {A : Type 0} (P : A → Type 0) where
  one_more_of : (xs : List A) (x : A) → AllByRecursion P xs → P x → AllByRecursion P (xs ++ x ∷ [])
  one_more_of [] x all here = (here, tt)
  one_more_of (y ∷ xs) x all here = (all.0, one_more_of xs x all.1 here)

  pub one_more : (xs ys : List A) (x : A) → ys ≡ xs ++ x ∷ [] → AllByRecursion P xs → P x → AllByRecursion P ys
  one_more xs ys x is all here = subst (AllByRecursion P) (sym is) (one_more_of xs x all here)
