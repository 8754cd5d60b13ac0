-- Loops over the parts, and over the entries.
use Rattle.std.proofs.Common.{◌≡◌, List, [], ◌∷◌, ◌++◌, append-nil, append_assoc, length, refl, sym, ap, ◌∙◌}
use Rattle.std.specs.Prelude.{map}
use Rattle.kilim_mail_stamps.specs.declared.stamped.Stamped.{Stamped}
use Rattle.kilim_mail_stamps.specs.Stamps.{joined}

-- one part more is behind the others
pub joined_on : {A : Type 0} (items : A → List Stamped) (all all' goal : List Stamped) (part : A) (rest rest' : List A) → rest ≡ part ∷ rest' → all' ≡ all ++ items part → all ++ joined (map items rest) ≡ goal → all' ++ joined (map items rest') ≡ goal
joined_on items all all' goal part rest rest' e is inv =
    ap (λ xs. xs ++ joined (map items rest')) is ∙ (append_assoc all (items part) (joined (map items rest')) ∙ (ap (λ ps. all ++ joined (map items ps)) (sym e) ∙ inv))

pub joined_all : {A : Type 0} (items : A → List Stamped) (all goal : List Stamped) (rest : List A) → length rest ≡ 0 → all ++ joined (map items rest) ≡ goal → all ≡ goal
joined_all items all goal [] none inv = sym (append-nil all) ∙ inv
joined_all items all goal (x ∷ xs) none inv = absurd (cc)

pub mapped_on : {A B : Type 0} (f : A → B) (done done' goal : List B) (x : A) (rest rest' : List A) → rest ≡ x ∷ rest' → done' ≡ done ++ f x ∷ [] → done ++ map f rest ≡ goal → done' ++ map f rest' ≡ goal
mapped_on f done done' goal x rest rest' e is inv =
    ap (λ ys. ys ++ map f rest') is ∙ (append_assoc done (f x ∷ []) (map f rest') ∙ (ap (λ xs. done ++ map f xs) (sym e) ∙ inv))

pub mapped_all : {A B : Type 0} (f : A → B) (done goal : List B) (rest : List A) → length rest ≡ 0 → done ++ map f rest ≡ goal → done ≡ goal
mapped_all f done goal [] none inv = sym (append-nil done) ∙ inv
mapped_all f done goal (x ∷ xs) none inv = absurd (cc)
