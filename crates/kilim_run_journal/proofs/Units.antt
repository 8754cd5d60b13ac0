-- The units of names and texts: what a unit is written as, it is read as.
use Rattle.std.proofs.Common.{◌≡◌, ℕ, ◌/◌, ◌%◌, Bool, true, false, List, [], ◌∷◌, ◌++◌, refl, sym, ◌∙◌, inl, inr, append_assoc, arith}
use Rattle.std.specs.List.{flat_map, list_all}
use Rattle.std.proofs.lemmas.Bool.{both_ways, cases_Bool, and_from}
use Rattle.std.proofs.lemmas.Bool.Decides.{nat_tests}
use Rattle.std.proofs.lemmas.List.Folds.{list_all-append}
use Rattle.kilim_units.specs.NameText.{hex_digit, escape, stands_in_name, name_unit, name_text}
use Rattle.kilim_run_journal.specs.Fronts.{unit_text, is_in_word}
use Rattle.kilim_run_journal.specs.Text.{stands_in_text, text_unit}

unit_stands : (stands : ℕ → Bool) (u : ℕ) → stands u ≡ true → unit_text stands u ≡ u ∷ []
unit_stands stands u h = rw h refl

unit_escapes : (stands : ℕ → Bool) (u : ℕ) → stands u ≡ false → unit_text stands u ≡ escape u
unit_escapes stands u h = rw h refl

hex_differs : (d e : ℕ) → hex_digit d ≡ hex_digit e → d ≡ e
hex_differs d e h = grind (arith, nat_tests)

-- equal texts that begin with an escape begin with that of the same unit
escapes_differ : (u v : ℕ) (x y : List ℕ) → escape u ++ x ≡ escape v ++ y → (u ≡ v) × (x ≡ y)
escapes_differ u v x y e =
    let a : u / 4096 ≡ v / 4096 = hex_differs (u / 4096) (v / 4096) cc in
    let b : u / 256 % 16 ≡ v / 256 % 16 = hex_differs (u / 256 % 16) (v / 256 % 16) cc in
    let c : u / 16 % 16 ≡ v / 16 % 16 = hex_differs (u / 16 % 16) (v / 16 % 16) cc in
    let d : u % 16 ≡ v % 16 = hex_differs (u % 16) (v % 16) cc in
    (omega arith, cc)

-- the same of any unit, if a backslash doesn't stand for itself
unit_parted : (stands : ℕ → Bool) → stands 92 ≡ false → (u v : ℕ) (x y : List ℕ) → unit_text stands u ++ x ≡ unit_text stands v ++ y → (u ≡ v) × (x ≡ y)
unit_parted stands slash u v x y e =
    elim (cases_Bool (stands u)) [
      | inl hu ↦ elim (cases_Bool (stands v)) [
        | inl hv ↦
            let plain : u ∷ x ≡ v ∷ y = rw (unit_stands stands u hu, unit_stands stands v hv) at e in
            (cc plain, cc plain)
        | inr hv ↦
            let mixed : u ∷ x ≡ escape v ++ y = rw (unit_stands stands u hu, unit_escapes stands v hv) at e in
            let is_slash : u ≡ 92 = cc mixed in
            absurd (both_ways (stands 92) slash (rw is_slash at hu))
      ]
      | inr hu ↦ elim (cases_Bool (stands v)) [
        | inl hv ↦
            let mixed : escape u ++ x ≡ v ∷ y = rw (unit_escapes stands u hu, unit_stands stands v hv) at e in
            let is_slash : v ≡ 92 = cc mixed in
            absurd (both_ways (stands 92) slash (rw is_slash at hv))
        | inr hv ↦ escapes_differ u v x y (rw (unit_escapes stands u hu, unit_escapes stands v hv) at e)
      ]
    ]

-- what ends a text's units begins no unit's text
pub unit_goes_on : (stands : ℕ → Bool) (last : ℕ) → stands last ≡ false → (last ≡ 92 → ⊥) → (u : ℕ) (x y : List ℕ) → last ∷ x ≡ unit_text stands u ++ y → ⊥
unit_goes_on stands last ends other u x y e =
    elim (cases_Bool (stands u)) [
      | inl hu ↦
          let plain : last ∷ x ≡ u ∷ y = rw (unit_stands stands u hu) at e in
          let same : u ≡ last = cc plain in
          both_ways (stands last) ends (rw same at hu)
      | inr hu ↦
          let mixed : last ∷ x ≡ escape u ++ y = rw (unit_escapes stands u hu) at e in
          other (cc mixed)
    ]

-- equal texts that begin with units, and with what ends them, begin with the same units
units_parted : (stands : ℕ → Bool) → stands 92 ≡ false → (last : ℕ) → stands last ≡ false → (last ≡ 92 → ⊥) → (us vs x y : List ℕ) → flat_map (unit_text stands) us ++ (last ∷ x) ≡ flat_map (unit_text stands) vs ++ (last ∷ y) → (us ≡ vs) × (x ≡ y)
units_parted stands slash last ends other [] [] x y e = (refl, cc)
units_parted stands slash last ends other [] (v ∷ vs) x y e =
    absurd (unit_goes_on stands last ends other v x (flat_map (unit_text stands) vs ++ (last ∷ y)) (e ∙ append_assoc (unit_text stands v) (flat_map (unit_text stands) vs) (last ∷ y)))
units_parted stands slash last ends other (u ∷ us) [] x y e =
    absurd (unit_goes_on stands last ends other u y (flat_map (unit_text stands) us ++ (last ∷ x)) (sym e ∙ append_assoc (unit_text stands u) (flat_map (unit_text stands) us) (last ∷ x)))
units_parted stands slash last ends other (u ∷ us) (v ∷ vs) x y e =
    let grouped : unit_text stands u ++ (flat_map (unit_text stands) us ++ (last ∷ x)) ≡ unit_text stands v ++ (flat_map (unit_text stands) vs ++ (last ∷ y)) = sym (append_assoc (unit_text stands u) (flat_map (unit_text stands) us) (last ∷ x)) ∙ (e ∙ append_assoc (unit_text stands v) (flat_map (unit_text stands) vs) (last ∷ y)) in
    let first = unit_parted stands slash u v (flat_map (unit_text stands) us ++ (last ∷ x)) (flat_map (unit_text stands) vs ++ (last ∷ y)) grouped in
    let both = units_parted stands slash last ends other us vs x y first.1 in
    let head : u ≡ v = first.0 in
    let tail : us ≡ vs = both.0 in
    (cc, both.1)

-- the same of a name, which a parenthesis ends
pub names_parted : (us vs x y : List ℕ) → name_text us ++ (40 ∷ x) ≡ name_text vs ++ (40 ∷ y) → (us ≡ vs) × (x ≡ y)
names_parted us vs x y e = units_parted stands_in_name refl 40 refl (λ h. absurd cc) us vs x y e

-- the same of a text, which a quotation mark ends
pub texts_parted : (us vs x y : List ℕ) → flat_map text_unit us ++ (34 ∷ x) ≡ flat_map text_unit vs ++ (34 ∷ y) → (us ≡ vs) × (x ≡ y)
texts_parted us vs x y e = units_parted stands_in_text refl 34 refl (λ h. absurd cc) us vs x y e

hex_in_word : (d : ℕ) → is_in_word (hex_digit d) ≡ true
hex_in_word d = grind (arith, nat_tests)

stands_in_word : (u : ℕ) → stands_in_name u ≡ true → is_in_word u ≡ true
stands_in_word u h = grind (arith, nat_tests)

unit_in_word : (u : ℕ) → list_all is_in_word (name_unit u) ≡ true
unit_in_word u =
    elim (cases_Bool (stands_in_name u)) [
      | inl h ↦ rw (unit_stands stands_in_name u h, stands_in_word u h) refl
      | inr h ↦ rw (unit_escapes stands_in_name u h, hex_in_word (u / 4096), hex_in_word (u / 256 % 16), hex_in_word (u / 16 % 16), hex_in_word (u % 16)) refl
    ]

-- a name is part of one word
pub name_in_word : (us : List ℕ) → list_all is_in_word (name_text us) ≡ true
name_in_word [] = refl
name_in_word (u ∷ us) = list_all-append is_in_word (name_unit u) (name_text us) ∙ and_from _ _ (unit_in_word u) (name_in_word us)
