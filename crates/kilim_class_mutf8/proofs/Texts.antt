-- Bytes are the spelling of one list of units, or of some units and then of none.
use Rattle.std.proofs.Common.{◌≡◌, Bool, true, false, eqb, ℕ, ◌+◌, ◌-◌, ◌^◌, ◌<◌, List, [], ◌∷◌, ◌++◌, length, take, Result, Ok, Err, refl, sym, ap, subst, ◌∙◌, append_assoc, arith, inl, inr, ◌⊎◌}
use Rattle.std.specs.Prelude.{◌≢◌}
use Rattle.std.specs.List.{flat_map, AllByRecursion}
use Rattle.std.proofs.lemmas.List.{append-nil, take_at, length-append, nil_from_length}
use Rattle.std.proofs.lemmas.Bool.{cases_lt, eqb-true, cases_Bool}
use Rattle.kilim_lemmas.proofs.Truth.{differ}
use Rattle.kilim_class_mutf8.specs.declared.unit.UnitFault.{UnitFault}
use Rattle.kilim_class_mutf8.specs.declared.unit.UnitFault.TheVariants as unit
use Rattle.kilim_class_mutf8.specs.declared.fault.TextFault.{TextFault}
use Rattle.kilim_class_mutf8.specs.Spelling.{is_short, unit_text, spelling, UnitsFit}
use Rattle.kilim_class_mutf8.specs.Reading.{unit_at}
use Rattle.kilim_class_mutf8.specs.Text.{placed, HasFault, OneSpelling}
use Rattle.kilim_class_mutf8.proofs.OneUnit.{read, wrong, read_is, not_wrong, text_of_one, text_of_two, text_of_three, Taken, takes, again}

-- no unit begins there
abbrev pub Ends : List ℕ → Type 0
Ends rest = (e : UnitFault) × (unit_at rest ≡ wrong e)

pub nothing_ends : (rest : List ℕ) → rest ≡ [] → Ends rest
unfolding unit_at
nothing_ends rest e = (unit.Cut, ap unit_at e)

not_begun : (v : ℕ) (x more : List ℕ) → v < 2 ^ 16 → Ends x → x ≡ unit_text v ++ more → ⊥
not_begun v x more lt ends e = not_wrong ends.0 (v, more) (sym ends.1 ∙ (ap unit_at e ∙ again v more lt))

-- the units and what stands behind them are determined
pub same_parts : (us vs : List ℕ) (x y : List ℕ) → UnitsFit us → UnitsFit vs → Ends x → Ends y → spelling us ++ x ≡ spelling vs ++ y → (us ≡ vs) × (x ≡ y)
same_parts [] [] x y f g p q e = (refl, e)
same_parts [] (v ∷ vs) x y f g p q e = absurd (not_begun v x (spelling vs ++ y) g.0 p (e ∙ append_assoc (unit_text v) (spelling vs) y))
same_parts (u ∷ us) [] x y f g p q e = absurd (not_begun u y (spelling us ++ x) f.0 q (sym e ∙ append_assoc (unit_text u) (spelling us) x))
same_parts (u ∷ us) (v ∷ vs) x y f g p q e =
    let regrouped : unit_text u ++ (spelling us ++ x) ≡ unit_text v ++ (spelling vs ++ y) = sym (append_assoc (unit_text u) (spelling us) x) ∙ (e ∙ append_assoc (unit_text v) (spelling vs) y) in
    let both = read_is (u, spelling us ++ x) (v, spelling vs ++ y) (sym (again u (spelling us ++ x) f.0) ∙ (ap unit_at regrouped ∙ again v (spelling vs ++ y) g.0)) in
    let below = same_parts us vs x y f.1 g.1 p q (ap (λ (r : ℕ × List ℕ). r.1) both) in
    (ap (λ (r : ℕ × List ℕ). r.0 ∷ us) both ∙ ap (λ (xs : List ℕ). v ∷ xs) below.0, below.1)

-- ---- what `read` has done so far: these units, and the rest

module _ (bytes : List ℕ) (us : List ℕ) (rest : List ℕ) (parts : bytes ≡ spelling us ++ rest) (fit : UnitsFit us) where
  pub all_read : rest ≡ [] → (vs : List ℕ) → UnitsFit vs → bytes ≡ spelling vs → us ≡ vs
  all_read nil vs g e = (same_parts us vs rest [] fit g (nothing_ends rest nil) (nothing_ends [] refl) (sym parts ∙ (e ∙ sym (append-nil (spelling vs))))).0

  pub none_left : rest ≡ [] → (fault : TextFault) → HasFault bytes fault → ⊥
  none_left nil fault h = h.some (sym ((same_parts us h.units rest h.rest fit h.fit (nothing_ends rest nil) (h.unit_fault, h.there) (sym parts ∙ h.parts)).1) ∙ nil)

  pub has_fault : (e : UnitFault) → unit_at rest ≡ wrong e → rest ≢ [] → HasFault bytes (placed (length (spelling us)) e)
  has_fault e is some = record { units = us; rest = rest; unit_fault = e; fit = fit; parts = parts; some = some; there = is; is = refl }

  pub no_text : (e : UnitFault) → unit_at rest ≡ wrong e → rest ≢ [] → (vs : List ℕ) → UnitsFit vs → bytes ≡ spelling vs → ⊥
  no_text e is some vs g eq = some ((same_parts us vs rest [] fit g (e, is) (nothing_ends [] refl) (sym parts ∙ (eq ∙ sym (append-nil (spelling vs))))).1)

  one_error : (d e : UnitFault) → wrong d ≡ wrong e → d ≡ e
  one_error d e p = cc

  pub same_fault : (e : UnitFault) → unit_at rest ≡ wrong e → (fault : TextFault) → HasFault bytes fault → placed (length (spelling us)) e ≡ fault
  same_fault e is fault h =
      let s = same_parts us h.units rest h.rest fit h.fit (e, is) (h.unit_fault, h.there) (sym parts ∙ h.parts) in
      let same : e ≡ h.unit_fault = one_error e h.unit_fault (sym is ∙ (ap unit_at s.1 ∙ h.there)) in
      ap (λ (k : List ℕ). placed (length (spelling k)) e) s.0 ∙ (ap (placed (length (spelling h.units))) same ∙ sym h.is)

-- ---- the law

apart : (a b : List ℕ) → UnitsFit a → UnitsFit b → spelling a ≡ spelling b → a ≡ b
apart a b f g e = (same_parts a b [] [] f g (nothing_ends [] refl) (nothing_ends [] refl) (append-nil (spelling a) ∙ (e ∙ sym (append-nil (spelling b))))).0

pub one_spelling : OneSpelling
one_spelling = record {
  apart = apart;
  again = λ units others rest f g e. sym (apart units others f g (sym (take_at (spelling units) rest (length (spelling units)) refl) ∙ e));
}

-- ---- a step of reading

spelling_push : (us : List ℕ) (u : ℕ) → spelling (us ++ u ∷ []) ≡ spelling us ++ unit_text u
spelling_push [] u = append-nil (unit_text u)
spelling_push (v ∷ us) u = ap (λ (bs : List ℕ). unit_text v ++ bs) (spelling_push us u) ∙ sym (append_assoc (unit_text v) (spelling us) (unit_text u))

fit_push : (us : List ℕ) (u : ℕ) → UnitsFit us → u < 2 ^ 16 → UnitsFit (us ++ u ∷ [])
fit_push [] u fit lt = (lt, tt)
fit_push (v ∷ us) u fit lt = (fit.0, fit_push us u fit.1 lt)

pub one_more : (bytes : List ℕ) (us : List ℕ) (rest : List ℕ) (u : ℕ) (after : List ℕ) → bytes ≡ spelling us ++ rest → UnitsFit us → unit_at rest ≡ read (u, after) → (bytes ≡ spelling (us ++ u ∷ []) ++ after) × UnitsFit (us ++ u ∷ [])
one_more bytes us rest u after parts fit is =
    let t = takes rest (u, after) is in
    (parts ∙ (ap (λ (bs : List ℕ). spelling us ++ bs) t.0 ∙ (sym (append_assoc (spelling us) (unit_text u) after) ∙ ap (λ (bs : List ℕ). bs ++ after) (sym (spelling_push us u)))), fit_push us u fit t.1)

some_text : (u : ℕ) → 0 < length (unit_text u)
some_text u =
    elim (cases_Bool (is_short u)) [
      | inl t ↦ rw (text_of_one u t) (omega arith)
      | inr f ↦ elim (cases_lt u 0x800) [
        | inl small ↦ rw (text_of_two u f small) (omega arith)
        | inr large ↦ rw (text_of_three u large) (omega arith)
      ]
    ]

pub shorter : (rest : List ℕ) (u : ℕ) (after : List ℕ) → unit_at rest ≡ read (u, after) → length after < length rest
shorter rest u after is =
    let t = takes rest (u, after) is in
    let some = some_text u in
    let len = length-append (unit_text u) after in
    rw t.0 (omega arith)

pub filled : (rest : List ℕ) (b : Bool) → b ≡ eqb (length rest) 0 → b ≡ false → rest ≢ []
filled rest b e empty nil = differ b (e ∙ ap (λ (bs : List ℕ). eqb (length bs) 0) nil) empty

pub emptied : (rest : List ℕ) → true ≡ eqb (length rest) 0 → rest ≡ []
emptied rest e = nil_from_length rest (eqb-true (length rest) 0 (sym e))

pub place : (bytes us rest : List ℕ) → bytes ≡ spelling us ++ rest → length bytes - length rest ≡ length (spelling us)
place bytes us rest parts = let e = ap length parts in let len = length-append (spelling us) rest in omega arith
