-- Words of which each writes an integer.
use Rattle.std.proofs.Common.{◌≡◌, ℕ, ℤ, Bool, true, false, ◌&&◌, List, [], ◌∷◌, Option, Some, None, refl, sym, ap, ◌∙◌, map}
use Rattle.std.specs.Prelude.{is_some, codes}
use Rattle.std.specs.List.{list_all}
use Rattle.kilim_command.specs.grammar.Numbers.{int_by}
use Rattle.kilim_command.specs.grammar.Parts.{is_int, numbers_or}
use Rattle.kilim_command.specs.grammar.Words.{ints_of, value_behind, with_first}
use Rattle.kilim_command.proofs.grammar.Mapped.{all_map}

first_some : (o : Option ℤ) (ns : Option (List ℤ)) → is_some (with_first o ns) ≡ (is_some o && is_some ns)
first_some None ns = refl
first_some (Some n) None = refl
first_some (Some n) (Some ns) = refl

all_some : (ws : List (List ℕ)) → list_all is_int ws ≡ is_some (ints_of ws)
all_some [] = refl
all_some (w ∷ ws) = ap (λ (b : Bool). is_int w && b) (all_some ws) ∙ sym (first_some (int_by w (value_behind (codes "-") w)) (ints_of ws))

some_taken : (o : Option (List ℤ)) → is_some o ≡ true → Some (numbers_or o) ≡ o
some_taken None e = absurd (cc)
some_taken (Some ns) e = refl

some_refused : (o : Option (List ℤ)) → is_some o ≡ false → None ≡ o
some_refused None e = refl
some_refused (Some ns) e = absurd (cc)

pub taken : {A : Type 0} (f : A → List ℕ) (xs : List A) (z : Bool) → z ≡ list_all (λ x. is_int (f x)) xs → z ≡ true → Some (numbers_or (ints_of (map f xs))) ≡ ints_of (map f xs)
taken f xs z e t = some_taken (ints_of (map f xs)) (sym (e ∙ all_map f is_int xs ∙ all_some (map f xs)) ∙ t)

pub refused : {A : Type 0} (f : A → List ℕ) (xs : List A) (z : Bool) → z ≡ list_all (λ x. is_int (f x)) xs → z ≡ false → None ≡ ints_of (map f xs)
refused f xs z e n = some_refused (ints_of (map f xs)) (sym (e ∙ all_map f is_int xs ∙ all_some (map f xs)) ∙ n)
