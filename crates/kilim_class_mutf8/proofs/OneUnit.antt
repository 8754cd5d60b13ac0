-- One unit is read just from its spelling.
use Rattle.std.proofs.Common.{◌≡◌, ℕ, zero, suc, ◌+◌, ◌-◌, ◌*◌, ◌/◌, ◌%◌, ◌^◌, ◌<◌, ◌≤◌, Bool, true, false, cond, ltb, leb, eqb, List, [], ◌∷◌, ◌++◌, Result, Ok, Err, refl, sym, ap, subst, ◌∙◌, arith, inl, inr, ◌⊎◌}
use Rattle.std.specs.Prelude.{◌&&◌, ◌||◌}
use Rattle.std.proofs.lemmas.Bool.{cases_lt, lt-ltb, ltb-true, ltb-false, le-ltb, leb-true, leb-false, le-leb, lt-leb, eqb-true, eqb-false, eq-eqb, ne_eqb, and_parts, or_cases, cases_Bool}
use Rattle.kilim_lemmas.proofs.Truth.{differ}
use Rattle.kilim_class_mutf8.specs.declared.unit.UnitFault.{UnitFault}
use Rattle.kilim_class_mutf8.specs.declared.unit.UnitFault.TheVariants.{BadByte, Cut, SecondSpelling}
use Rattle.kilim_class_mutf8.specs.Spelling.{is_short, unit_text}
use Rattle.kilim_class_mutf8.specs.Reading.{continues, of_two, of_three, if_spelled, two_at, three_at, unit_at}

-- ---- tests

chosen : {A : Type 0} (b : Bool) (x y z : A) → cond b x y ≡ z → ((b ≡ true) × (x ≡ z)) ⊎ ((b ≡ false) × (y ≡ z))
chosen true x y z e = inl (refl, e)
chosen false x y z e = inr (refl, e)

within : (low high b : ℕ) → (leb low b && ltb b high) ≡ true → (low ≤ b) × (b < high)
within low high b e = let t = and_parts (leb low b) (ltb b high) e in (leb-true low b t.0, ltb-true b high t.1)

is_within : (low high b : ℕ) → low ≤ b → b < high → (leb low b && ltb b high) ≡ true
is_within low high b l h = rw (le-leb low b l, lt-ltb b high h) refl

above : (low high b : ℕ) → low ≤ b → high ≤ b → (leb low b && ltb b high) ≡ false
above low high b l h = rw (le-leb low b l, le-ltb b high h) refl

short : (u : ℕ) → 0 < u → u < 0x80 → is_short u ≡ true
short u l h = rw (lt-ltb 0 u l, lt-ltb u 0x80 h) refl

long : (u : ℕ) → 0x80 ≤ u → is_short u ≡ false
long u h = rw (lt-ltb 0 u (omega arith), le-ltb u 0x80 h) refl

abbrev pub read : ℕ × List ℕ → Result (ℕ × List ℕ) UnitFault
read x = Ok x

abbrev pub wrong : UnitFault → Result (ℕ × List ℕ) UnitFault
wrong e = Err e

pub read_is : (x y : ℕ × List ℕ) → read x ≡ read y → x ≡ y
read_is x y e = cc

pub not_wrong : (e : UnitFault) (x : ℕ × List ℕ) → wrong e ≡ read x → ⊥
not_wrong e x p = cc

-- ---- the three forms

pub text_of_one : (u : ℕ) → is_short u ≡ true → unit_text u ≡ u ∷ []
text_of_one u e = rw e refl

pub text_of_two : (u : ℕ) → is_short u ≡ false → u < 0x800 → unit_text u ≡ (0xC0 + u / 64) ∷ (0x80 + u % 64) ∷ []
text_of_two u e lt = rw (e, lt-ltb u 0x800 lt) refl

pub text_of_three : (u : ℕ) → 0x800 ≤ u → unit_text u ≡ (0xE0 + u / 4096) ∷ (0x80 + u / 64 % 64) ∷ (0x80 + u % 64) ∷ []
text_of_three u le = rw (long u (omega arith), le-ltb u 0x800 le) refl

zero_is_long : is_short 0 ≡ false
zero_is_long = refl

long_two : (u : ℕ) → (eqb u 0 || leb 0x80 u) ≡ true → is_short u ≡ false
long_two u e =
    elim (or_cases (eqb u 0) (leb 0x80 u) e) [
      | inl z ↦ subst (λ (n : ℕ). is_short n ≡ false) (sym (eqb-true u 0 z)) zero_is_long
      | inr h ↦ long u (leb-true 0x80 u h)
    ]

abbrev pub Taken : List ℕ → ℕ × List ℕ → Type 0
Taken bytes x = (bytes ≡ unit_text x.0 ++ x.1) × (x.0 < 2 ^ 16)

two_takes : (b : ℕ) (bytes : List ℕ) (x : ℕ × List ℕ) → 0xC0 ≤ b → b < 0xE0 → two_at b bytes ≡ read x → Taken (b ∷ bytes) x
unfolding two_at
two_takes b [] x low high e = absurd (not_wrong Cut x e)
two_takes b (c ∷ rest) x low high e =
    elim (chosen (continues c) _ (wrong (BadByte 1)) (read x) e) [
      | inr f ↦ absurd (not_wrong (BadByte 1) x f.1)
      | inl t ↦
          elim (chosen (eqb (of_two b c) 0 || leb 0x80 (of_two b c)) (read (of_two b c, rest)) (wrong SecondSpelling) (read x) t.1) [
            | inr f ↦ absurd (not_wrong SecondSpelling x f.1)
            | inl s ↦
                let r = within 0x80 0xC0 c t.0 in
                let u = of_two b c in
                let top : 0xC0 + u / 64 ≡ b = omega arith in
                let low : 0x80 + u % 64 ≡ c = omega arith in
                subst (λ (y : ℕ × List ℕ). Taken (b ∷ c ∷ rest) y) (read_is (u, rest) x s.1)
                (rw (text_of_two u (long_two u s.0) (omega arith), top, low) refl, omega arith)
          ]
    ]

three_takes : (b : ℕ) (bytes : List ℕ) (x : ℕ × List ℕ) → 0xE0 ≤ b → b < 0xF0 → three_at b bytes ≡ read x → Taken (b ∷ bytes) x
unfolding three_at
three_takes b [] x low high e = absurd (not_wrong Cut x e)
three_takes b (c ∷ []) x low high e = absurd (not_wrong Cut x e)
three_takes b (c ∷ d ∷ rest) x low high e =
    elim (chosen (continues c) _ (wrong (BadByte 1)) (read x) e) [
      | inr f ↦ absurd (not_wrong (BadByte 1) x f.1)
      | inl t ↦ elim (chosen (continues d) _ (wrong (BadByte 2)) (read x) t.1) [
        | inr f ↦ absurd (not_wrong (BadByte 2) x f.1)
        | inl v ↦
            elim (chosen (leb 0x800 (of_three b c d)) (read (of_three b c d, rest)) (wrong SecondSpelling) (read x) v.1) [
              | inr f ↦ absurd (not_wrong SecondSpelling x f.1)
              | inl s ↦
                  let r = within 0x80 0xC0 c t.0 in
                  let q = within 0x80 0xC0 d v.0 in
                  let u = of_three b c d in
                  let top : 0xE0 + u / 4096 ≡ b = omega arith in
                  let mid : 0x80 + u / 64 % 64 ≡ c = omega arith in
                  let last : 0x80 + u % 64 ≡ d = omega arith in
                  subst (λ (y : ℕ × List ℕ). Taken (b ∷ c ∷ d ∷ rest) y) (read_is (u, rest) x s.1)
                  (rw (text_of_three u (leb-true 0x800 u s.0), top, mid, last) refl, omega arith)
            ]
      ]
    ]

pub takes : (bytes : List ℕ) (x : ℕ × List ℕ) → unit_at bytes ≡ read x → Taken bytes x
unfolding unit_at
takes [] x e = absurd (not_wrong Cut x e)
takes (b ∷ rest) x e =
    elim (chosen (is_short b) (read (b, rest)) _ (read x) e) [
      | inl t ↦
          let r = and_parts (ltb 0 b) (ltb b 0x80) t.0 in
          let high = ltb-true b 0x80 r.1 in
          subst (λ (y : ℕ × List ℕ). Taken (b ∷ rest) y) (read_is (b, rest) x t.1) (rw (text_of_one b t.0) refl, omega arith)
      | inr f ↦ elim (chosen (leb 0xC0 b && ltb b 0xE0) (two_at b rest) _ (read x) f.1) [
        | inl t ↦ let r = within 0xC0 0xE0 b t.0 in two_takes b rest x r.0 r.1 t.1
        | inr g ↦ elim (chosen (leb 0xE0 b && ltb b 0xF0) (three_at b rest) (wrong (BadByte 0)) (read x) g.1) [
          | inl t ↦ let r = within 0xE0 0xF0 b t.0 in three_takes b rest x r.0 r.1 t.1
          | inr h ↦ absurd (not_wrong (BadByte 0) x h.1)
        ]
      ]
    ]

-- ---- what is spelled is read

-- a unit of two bytes is zero, or has too many bits for one
spelled_two : (u : ℕ) → is_short u ≡ false → (eqb u 0 || leb 0x80 u) ≡ true
spelled_two zero e = refl
spelled_two (suc u) e =
    elim (cases_lt (suc u) 0x80) [
      | inl lt ↦ absurd (differ (is_short (suc u)) (short (suc u) (omega arith) lt) e)
      | inr le ↦ rw (ne_eqb (suc u) 0 (λ z. omega arith)) (le-leb 0x80 (suc u) le)
    ]

again_one : (u : ℕ) (rest : List ℕ) → is_short u ≡ true → unit_at (u ∷ rest) ≡ read (u, rest)
unfolding unit_at
again_one u rest e = rw e refl

again_two : (u : ℕ) (rest : List ℕ) → is_short u ≡ false → u < 0x800 → unit_at ((0xC0 + u / 64) ∷ (0x80 + u % 64) ∷ rest) ≡ read (u, rest)
unfolding unit_at two_at
again_two u rest e lt =
    let b = 0xC0 + u / 64 in
    let c = 0x80 + u % 64 in
    let not_short : is_short b ≡ false = long b (omega arith) in
    let first : (leb 0xC0 b && ltb b 0xE0) ≡ true = is_within 0xC0 0xE0 b (omega arith) (omega arith) in
    let second : (leb 0x80 c && ltb c 0xC0) ≡ true = is_within 0x80 0xC0 c (omega arith) (omega arith) in
    let unit : of_two b c ≡ u = omega arith in
    rw (not_short, first, second, unit, spelled_two u e) refl

again_three : (u : ℕ) (rest : List ℕ) → 0x800 ≤ u → u < 2 ^ 16 → unit_at ((0xE0 + u / 4096) ∷ (0x80 + u / 64 % 64) ∷ (0x80 + u % 64) ∷ rest) ≡ read (u, rest)
unfolding unit_at three_at
again_three u rest low high =
    let b = 0xE0 + u / 4096 in
    let c = 0x80 + u / 64 % 64 in
    let d = 0x80 + u % 64 in
    let not_short : is_short b ≡ false = long b (omega arith) in
    let not_two : (leb 0xC0 b && ltb b 0xE0) ≡ false = above 0xC0 0xE0 b (omega arith) (omega arith) in
    let first : (leb 0xE0 b && ltb b 0xF0) ≡ true = is_within 0xE0 0xF0 b (omega arith) (omega arith) in
    let second : (leb 0x80 c && ltb c 0xC0) ≡ true = is_within 0x80 0xC0 c (omega arith) (omega arith) in
    let third : (leb 0x80 d && ltb d 0xC0) ≡ true = is_within 0x80 0xC0 d (omega arith) (omega arith) in
    let unit : of_three b c d ≡ u = omega arith in
    let spelled : leb 0x800 u ≡ true = le-leb 0x800 u low in
    rw (not_short, not_two, first, second, third, unit, spelled) refl

pub again : (u : ℕ) (rest : List ℕ) → u < 2 ^ 16 → unit_at (unit_text u ++ rest) ≡ read (u, rest)
again u rest lt =
    elim (cases_Bool (is_short u)) [
      | inl t ↦ rw (text_of_one u t) (again_one u rest t)
      | inr f ↦ elim (cases_lt u 0x800) [
        | inl small ↦ rw (text_of_two u f small) (again_two u rest f small)
        | inr large ↦ rw (text_of_three u large) (again_three u rest large lt)
      ]
    ]
