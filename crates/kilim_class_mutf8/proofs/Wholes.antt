-- The units of bytes are those that they spell.
use Rattle.std.proofs.Common.{◌≡◌, ◌≢◌, ℕ, zero, suc, ◌+◌, ◌^◌, ◌<◌, ◌≤◌, List, [], ◌∷◌, ◌++◌, length, Option, Some, None, Result, Ok, Err, refl, sym, ap, subst, ◌∙◌, arith}
use Rattle.std.proofs.lemmas.List.{append-nil}
use Rattle.kilim_class_mutf8.specs.declared.unit.UnitFault.{UnitFault}
use Rattle.kilim_class_mutf8.specs.declared.unit.UnitFault.TheVariants as unit
use Rattle.kilim_class_mutf8.specs.Spelling.{spelling, unit_text, UnitsFit}
use Rattle.kilim_class_mutf8.specs.Reading.{unit_at}
use Rattle.kilim_class_mutf8.specs.Whole.{and_unit, unit_then, units_within, units_of, UnitsAreSpelled}
use Rattle.kilim_class_mutf8.proofs.OneUnit.{read, wrong, not_wrong, Taken, takes, again}
use Rattle.kilim_class_mutf8.proofs.Texts.{shorter, no_text}

abbrev just : List ℕ → Option (List ℕ)
just units = Some units

abbrev nothing : Option (List ℕ)
nothing = None

just_is : (a b : List ℕ) → just a ≡ just b → a ≡ b
just_is a b e = cc

not_just : (a : List ℕ) → nothing ≡ just a → ⊥
not_just a e = cc

one_more : (u : ℕ) (o : Option (List ℕ)) (units : List ℕ) → and_unit u o ≡ just units → (rest : List ℕ) × (o ≡ just rest) × (u ∷ rest ≡ units)
one_more u None units e = absurd (not_just units e)
one_more u (Some rest) units e = (rest, refl, just_is (u ∷ rest) units e)

abbrev Spelled : List ℕ → List ℕ → Type 0
Spelled bytes units = (bytes ≡ spelling units) × UnitsFit units

-- ---- what has units is spelled

unit_takes : (later : List ℕ → Option (List ℕ)) → ((bytes units : List ℕ) → later bytes ≡ just units → Spelled bytes units)
    → (bytes : List ℕ) (r : Result (ℕ × List ℕ) UnitFault) → unit_at bytes ≡ r → (units : List ℕ) → unit_then later r ≡ just units → Spelled bytes units
unit_takes later below bytes (Err fault) is units e = absurd (not_just units e)
unit_takes later below bytes (Ok x) is units e =
    let t = takes bytes x is in
    let more = one_more x.0 (later x.1) units e in
    let b = below x.1 more.0 more.1 in
    subst (λ (us : List ℕ). Spelled bytes us) more.2 (t.0 ∙ ap (λ (bs : List ℕ). unit_text x.0 ++ bs) b.0, (t.1, b.1))

within_takes : (n : ℕ) (bytes units : List ℕ) → units_within n bytes ≡ just units → Spelled bytes units
unfolding units_within
within_takes zero [] units e = subst (λ (us : List ℕ). Spelled [] us) (just_is [] units e) (refl, tt)
within_takes zero (b ∷ bytes) units e = absurd (not_just units e)
within_takes (suc n) [] units e = subst (λ (us : List ℕ). Spelled [] us) (just_is [] units e) (refl, tt)
within_takes (suc n) (b ∷ bytes) units e = unit_takes (units_within n) (within_takes n) (b ∷ bytes) (unit_at (b ∷ bytes)) refl units e

-- ---- what is spelled has these units

no_unit : (x : ℕ × List ℕ) → unit_at [] ≡ read x → ⊥
unfolding unit_at
no_unit x e = not_wrong unit.Cut x e

step : (n : ℕ) (bytes : List ℕ) (x : ℕ × List ℕ) → unit_at bytes ≡ read x → units_within (suc n) bytes ≡ and_unit x.0 (units_within n x.1)
unfolding units_within
step n [] x is = absurd (no_unit x is)
step n (b ∷ bytes) x is = ap (unit_then (units_within n)) is

within_again : (n : ℕ) (units : List ℕ) → UnitsFit units → length (spelling units) ≤ n → units_within n (spelling units) ≡ just units
unfolding units_within
within_again zero [] fit le = refl
within_again (suc n) [] fit le = refl
within_again zero (u ∷ units) fit le = absurd (omega (arith, shorter (spelling (u ∷ units)) u (spelling units) (again u (spelling units) fit.0)))
within_again (suc n) (u ∷ units) fit le =
    let less = shorter (spelling (u ∷ units)) u (spelling units) (again u (spelling units) fit.0) in
    let below : length (spelling units) ≤ n = omega arith in
    step n (spelling (u ∷ units)) (u, spelling units) (again u (spelling units) fit.0) ∙ ap (and_unit u) (within_again n units fit.1 below)

pub whole_takes : (bytes units : List ℕ) → units_of bytes ≡ just units → Spelled bytes units
unfolding units_of
whole_takes bytes units e = within_takes (length bytes) bytes units e

pub whole_again : (units : List ℕ) → UnitsFit units → units_of (spelling units) ≡ just units
unfolding units_of
whole_again units fit = within_again (length (spelling units)) units fit (omega arith)

pub units_are_spelled : UnitsAreSpelled
units_are_spelled = record { takes = whole_takes; again = whole_again }

-- ---- the ends of `read`

module _ (bytes us rest : List ℕ) (parts : bytes ≡ spelling us ++ rest) (fit : UnitsFit us) where
  pub all_units : rest ≡ [] → units_of bytes ≡ just us
  all_units nil = ap units_of (parts ∙ (ap (λ (r : List ℕ). spelling us ++ r) nil ∙ append-nil (spelling us))) ∙ whole_again us fit

  none_of : (e : UnitFault) → unit_at rest ≡ wrong e → rest ≢ [] → (o : Option (List ℕ)) → units_of bytes ≡ o → o ≡ None
  none_of e is some None eq = refl
  none_of e is some (Some vs) eq = let t = whole_takes bytes vs eq in absurd (no_text bytes us rest parts fit e is some vs t.1 t.0)

  pub no_units : (e : UnitFault) → unit_at rest ≡ wrong e → rest ≢ [] → units_of bytes ≡ None
  no_units e is some = none_of e is some (units_of bytes) refl
