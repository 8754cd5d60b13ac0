-- What a reader takes from the front is what is spelled there, and what is spelled is read again, whatever follows:
-- for numbers, and for readers that are put together.
use Rattle.std.proofs.Common.{◌≡◌, ℕ, zero, suc, ◌^◌, ◌<◌, ◌≤◌, ℤ, Bool, true, false, cond, ltb, List, [], ◌∷◌, ◌++◌, length, take, drop, Result, Ok, Err, refl, sym, ap, subst, ◌∙◌, append_assoc, arith}
use Rattle.std.specs.Prelude.{FitsSigned}
use Rattle.std.proofs.Common.{rules}
use Rattle.std.proofs.lemmas.Int.{ints, to_z-of_z, of_z-to_z}
use Rattle.std.specs.List.{flat_map, AllByRecursion}
use Rattle.std.specs.Int.{Width, w8, w16, w32, w64, byte_len, from_be_bytes, to_be_bytes, cast_signed, cast_unsigned}
use Rattle.std.proofs.lemmas.Bool.{ltb-false, le-ltb}
use Rattle.std.proofs.lemmas.List.{take_at, drop_at, take-append-drop, length-append, length-take, append-nil}
use Rattle.kilim_class_grammar.specs.Reader.{Reader, ◌>>=◌, checked, number_at, signed_at, bytes_at, both, followed, made, tested, with_fault, refaulted, many, counted, is_empty, filled}
pub use Rattle.kilim_class_grammar.specs.Format.{Format}
use Rattle.kilim_class_grammar.specs.Spelling.{u1, u2, u4, two_u4, signed}
use Rattle.kilim_class_grammar.proofs.Bytes.{IsBytes, IsBytes-drop, IsBytes-take, Takes, Takes-then, IsWide, wide8, wide16, wide32, wide64}

abbrev pub well : {F A : Type 0} → A → Result A F
well x = Ok x

pub well_is : {F A : Type 0} (x y : A) → well {F = F} x ≡ well y → x ≡ y
well_is x y e = cc

-- the value of a step that didn't fail
pub bind_ok : {F A B : Type 0} (r : Result A F) (f : A → Result B F) (y : B) → (r >>= f) ≡ Ok y → (x : A) × (r ≡ Ok x) × (f x ≡ Ok y)
bind_ok (Err e) f y h = absurd cc
bind_ok (Ok x) f y h = (x, refl, h)

pub checked_ok : {F A : Type 0} (b : Bool) (fault : F) (r : Result A F) (y : A) → checked b fault r ≡ Ok y → (b ≡ true) × (r ≡ Ok y)
checked_ok true fault r y e = (refl, e)
checked_ok false fault r y e = absurd cc

present : {F A : Type 0} (b : Bool) (fault : F) (x y : A) → cond b (Err fault) (Ok x) ≡ well y → (b ≡ false) × (x ≡ y)
present true fault x y e = absurd cc
present false fault x y e = (refl, cc)

-- ---- numbers and bytes

module _ {F : Type 0} (cut : F) where
  number_takes : (w : Width) (limit : ℕ) (wide : IsWide w limit) (bytes : List ℕ) (n : ℕ) (rest : List ℕ) → IsBytes bytes → number_at cut w bytes ≡ Ok (n, rest) → Takes bytes (to_be_bytes w n) rest × (n < limit)
  number_takes w limit wide bytes n rest fits e =
      let g = present (ltb (length bytes) (byte_len w)) cut (from_be_bytes w (take (byte_len w) bytes), drop (byte_len w) bytes) (n, rest) e in
      let long : byte_len w ≤ length bytes = ltb-false _ _ g.0 in
      let n-is : from_be_bytes w (take (byte_len w) bytes) ≡ n = ap (λ (p : ℕ × List ℕ). p.0) g.1 in
      let rest-is : drop (byte_len w) bytes ≡ rest = ap (λ (p : ℕ × List ℕ). p.1) g.1 in
      let front : to_be_bytes w n ≡ take (byte_len w) bytes = rw (← n-is) (wide.back (take (byte_len w) bytes) (omega (arith, length-take (byte_len w) bytes)) (IsBytes-take (byte_len w) bytes fits)) in
      (record { parts = rw (front, ← rest-is) (sym (take-append-drop (byte_len w) bytes)); rest_fits = rw (← rest-is) (IsBytes-drop (byte_len w) bytes fits) }, rw (← n-is) (wide.below (take (byte_len w) bytes) (IsBytes-take (byte_len w) bytes fits)))

  number_again : (w : Width) (limit : ℕ) (wide : IsWide w limit) (n : ℕ) (rest : List ℕ) → n < limit → number_at cut w (to_be_bytes w n ++ rest) ≡ Ok (n, rest)
  number_again w limit wide n rest lt =
      let len = wide.len n in
      let long : ltb (length (to_be_bytes w n ++ rest)) (byte_len w) ≡ false = le-ltb _ _ (omega (arith, length-append (to_be_bytes w n) rest)) in
      rw (long, take_at (to_be_bytes w n) rest (byte_len w) len, drop_at (to_be_bytes w n) rest (byte_len w) len, wide.again n lt) refl

  pub number : (w : Width) (limit : ℕ) → IsWide w limit → Format (to_be_bytes w) (number_at cut w) (λ n. n < limit)
  number w limit wide = record { takes = number_takes w limit wide; again = number_again w limit wide }

  pub n8 : Format u1 (number_at cut w8) (λ n. n < 2 ^ 8)
  n8 = number w8 (2 ^ 8) wide8

  pub n16 : Format u2 (number_at cut w16) (λ n. n < 2 ^ 16)
  n16 = number w16 (2 ^ 16) wide16

  pub n32 : Format u4 (number_at cut w32) (λ n. n < 2 ^ 32)
  n32 = number w32 (2 ^ 32) wide32

  pub n64 : Format two_u4 (number_at cut w64) (λ n. n < 2 ^ 64)
  n64 = number w64 (2 ^ 64) wide64

  bytes_takes : (n : ℕ) (bytes xs rest : List ℕ) → IsBytes bytes → bytes_at cut n bytes ≡ Ok (xs, rest) → Takes bytes xs rest × ((length xs ≡ n) × IsBytes xs)
  bytes_takes n bytes xs rest fits e =
      let g = present (ltb (length bytes) n) cut (take n bytes, drop n bytes) (xs, rest) e in
      let long : n ≤ length bytes = ltb-false _ _ g.0 in
      subst (λ (q : List ℕ × List ℕ). Takes bytes q.0 q.1 × ((length q.0 ≡ n) × IsBytes q.0)) g.1
      (record { parts = sym (take-append-drop n bytes); rest_fits = IsBytes-drop n bytes fits }, (omega (arith, length-take n bytes), IsBytes-take n bytes fits))

  pub bytes_again : (n : ℕ) (xs rest : List ℕ) → length xs ≡ n → bytes_at cut n (xs ++ rest) ≡ Ok (xs, rest)
  bytes_again n xs rest len =
      let long : ltb (length (xs ++ rest)) n ≡ false = le-ltb _ _ (omega (arith, length-append xs rest)) in
      rw (long, take_at xs rest n len, drop_at xs rest n len) refl

  -- so many bytes, whatever they are
  pub raw : (n : ℕ) → Format (λ xs. xs) (bytes_at cut n) (λ xs. (length xs ≡ n) × IsBytes xs)
  raw n = record { takes = bytes_takes n; again = λ xs rest fits. bytes_again n xs rest fits.0 }

-- ---- signed numbers

-- the numbers of a width, and the signed ones of these bits
pub record IsSigned (w : Width) (limit : ℕ) : Type 0 where
  pub wide : IsWide w limit
  pub below : (z : ℤ) → FitsSigned w z → cast_unsigned w z < limit
  pub fits : (n : ℕ) → n < limit → FitsSigned w (cast_signed w n)
  pub back : (n : ℕ) → n < limit → cast_unsigned w (cast_signed w n) ≡ n
  pub there : (z : ℤ) → FitsSigned w z → cast_signed w (cast_unsigned w z) ≡ z

pub signed8 : IsSigned w8 (2 ^ 8)
signed8 = record { wide = wide8; below = λ z fits. omega (arith, ints); fits = λ n lt. search rules; back = λ n lt. of_z-to_z w8 n lt; there = λ z fits. to_z-of_z w8 z fits }

pub signed16 : IsSigned w16 (2 ^ 16)
signed16 = record { wide = wide16; below = λ z fits. omega (arith, ints); fits = λ n lt. search rules; back = λ n lt. of_z-to_z w16 n lt; there = λ z fits. to_z-of_z w16 z fits }

pub signed32 : IsSigned w32 (2 ^ 32)
signed32 = record { wide = wide32; below = λ z fits. omega (arith, ints); fits = λ n lt. search rules; back = λ n lt. of_z-to_z w32 n lt; there = λ z fits. to_z-of_z w32 z fits }

pub signed64 : IsSigned w64 (2 ^ 64)
signed64 = record { wide = wide64; below = λ z fits. omega (arith, ints); fits = λ n lt. search rules; back = λ n lt. of_z-to_z w64 n lt; there = λ z fits. to_z-of_z w64 z fits }

module _ {F : Type 0} (cut : F) (w : Width) (limit : ℕ) (is : IsSigned w limit) where
  signed_takes : (bytes : List ℕ) (z : ℤ) (rest : List ℕ) → IsBytes bytes → signed_at cut w bytes ≡ Ok (z, rest) → Takes bytes (signed w z) rest × FitsSigned w z
  signed_takes bytes z rest fits e =
      let a = bind_ok (number_at cut w bytes) (λ x. Ok (cast_signed w x.0, x.1)) (z, rest) e in
      let t = (number cut w limit is.wide).takes bytes a.0.0 a.0.1 fits a.1 in
      let found : ℤ × List ℕ = (cast_signed w a.0.0, a.0.1) in
      subst (λ (q : ℤ × List ℕ). Takes bytes (signed w q.0) q.1 × FitsSigned w q.0) (well_is {F = F} found (z, rest) a.2)
      (subst (λ (k : ℕ). Takes bytes (to_be_bytes w k) a.0.1) (sym (is.back a.0.0 t.1)) t.0, is.fits a.0.0 t.1)

  signed_again : (z : ℤ) (rest : List ℕ) → FitsSigned w z → signed_at cut w (signed w z ++ rest) ≡ Ok (z, rest)
  signed_again z rest fits = rw ((number cut w limit is.wide).again (cast_unsigned w z) rest (is.below z fits)) (ap (λ (y : ℤ). well {F = F} (y, rest)) (is.there z fits))

  pub signed_number : Format (signed w) (signed_at cut w) (FitsSigned w)
  signed_number = record { takes = signed_takes; again = signed_again }

-- nothing is left
pub no_more : (bytes : List ℕ) → is_empty bytes ≡ true → bytes ≡ []
no_more [] e = refl
no_more (b ∷ bytes) e = absurd cc

-- ---- readers put together

module _ {F A : Type 0} {text : A → List ℕ} {at : Reader F A} {Fits : A → Type 0} (one : Format text at Fits) where
  module _ {B : Type 0} {text' : A → B → List ℕ} {at' : A → Reader F B} {Fits' : A → B → Type 0} (other : (x : A) → Fits x → Format (text' x) (at' x) (Fits' x)) where
    followed_takes : (bytes : List ℕ) (p : A × B) (rest : List ℕ) → IsBytes bytes → followed at at' bytes ≡ Ok (p, rest) → Takes bytes (text p.0 ++ text' p.0 p.1) rest × (Fits p.0 × Fits' p.0 p.1)
    followed_takes bytes p rest fits e =
        let a = bind_ok (at bytes) (λ x. at' x.0 x.1 >>= λ y. Ok ((x.0, y.0), y.1)) (p, rest) e in
        let b = bind_ok (at' a.0.0 a.0.1) (λ y. Ok ((a.0.0, y.0), y.1)) (p, rest) a.2 in
        let t = one.takes bytes a.0.0 a.0.1 fits a.1 in
        let u = (other a.0.0 t.1).takes a.0.1 b.0.0 b.0.1 t.0.rest_fits b.1 in
        let pair : (A × B) × List ℕ = ((a.0.0, b.0.0), b.0.1) in
        subst (λ (q : (A × B) × List ℕ). Takes bytes (text q.0.0 ++ text' q.0.0 q.0.1) q.1 × (Fits q.0.0 × Fits' q.0.0 q.0.1)) (well_is {F = F} pair (p, rest) b.2)
        (Takes-then bytes (text a.0.0) a.0.1 (text' a.0.0 b.0.0) b.0.1 t.0 u.0, (t.1, u.1))

    followed_again : (p : A × B) (rest : List ℕ) → Fits p.0 × Fits' p.0 p.1 → followed at at' ((text p.0 ++ text' p.0 p.1) ++ rest) ≡ Ok (p, rest)
    followed_again p rest fits =
        ap (followed at at') (append_assoc (text p.0) (text' p.0 p.1) rest)
        ∙ rw (one.again p.0 (text' p.0 p.1 ++ rest) fits.0, (other p.0 fits.0).again p.1 rest fits.1) refl

    pub follow : Format (λ (p : A × B). text p.0 ++ text' p.0 p.1) (followed at at') (λ p. Fits p.0 × Fits' p.0 p.1)
    follow = record { takes = followed_takes; again = followed_again }

  module _ {B : Type 0} {text' : B → List ℕ} {at' : Reader F B} {Fits' : B → Type 0} (other : Format text' at' Fits') where
    pub pair : Format (λ (p : A × B). text p.0 ++ text' p.1) (both at at') (λ p. Fits p.0 × Fits' p.1)
    pair = follow {text' = λ x. text'} {at' = λ x. at'} {Fits' = λ x. Fits'} (λ x fits. other)

  -- the same text in other words
  pub reworded : (text' : A → List ℕ) → ((x : A) → Fits x → text x ≡ text' x) → Format text' at Fits
  reworded text' same = record {
    takes = λ bytes x rest fits e.
        let t = one.takes bytes x rest fits e in
        (record { parts = t.0.parts ∙ ap (λ (front : List ℕ). front ++ rest) (same x t.1); rest_fits = t.0.rest_fits }, t.1);
    again = λ x rest fits. ap at (ap (λ (front : List ℕ). front ++ rest) (sym (same x fits))) ∙ one.again x rest fits;
  }

  -- what has a text, in other words
  pub refitted : (Fits' : A → Type 0) → ((x : A) → Fits x → Fits' x) → ((x : A) → Fits' x → Fits x) → Format text at Fits'
  refitted Fits' there here = record {
    takes = λ bytes x rest fits e. let t = one.takes bytes x rest fits e in (t.0, there x t.1);
    again = λ x rest fits. one.again x rest (here x fits);
  }

  -- the same reader in other words
  pub reread : (at' : Reader F A) → ((bytes : List ℕ) → at' bytes ≡ at bytes) → Format text at' Fits
  reread at' same = record {
    takes = λ bytes x rest fits e. one.takes bytes x rest fits (sym (same bytes) ∙ e);
    again = λ x rest fits. same (text x ++ rest) ∙ one.again x rest fits;
  }

  -- the same faults in other words
  module _ {G : Type 0} (to : F → G) where
    no_fault : (r : Result (A × List ℕ) F) (y : A × List ℕ) → with_fault to r ≡ Ok y → r ≡ Ok y
    no_fault (Err fault) y e = absurd cc
    no_fault (Ok x) y e = ap (λ (z : A × List ℕ). Ok z) (well_is {F = G} x y e)

    pub faulted : Format text (refaulted to at) Fits
    faulted = record {
      takes = λ bytes x rest fits e. one.takes bytes x rest fits (no_fault (at bytes) (x, rest) e);
      again = λ x rest fits. ap (with_fault to) (one.again x rest fits);
    }

  -- the same values in another dress, which can be taken off
  module _ {B : Type 0} (make : A → B) (back : B → A) (made_back : (y : B) → make (back y) ≡ y) (back_made : (x : A) → Fits x → back (make x) ≡ x) where
    made_takes : (bytes : List ℕ) (y : B) (rest : List ℕ) → IsBytes bytes → made make at bytes ≡ Ok (y, rest) → Takes bytes (text (back y)) rest × Fits (back y)
    made_takes bytes y rest fits e =
        let a = bind_ok (at bytes) (λ x. Ok (make x.0, x.1)) (y, rest) e in
        let made : B × List ℕ = (make a.0.0, a.0.1) in
        subst (λ (q : B × List ℕ). Takes bytes (text (back q.0)) q.1 × Fits (back q.0)) (well_is {F = F} made (y, rest) a.2)
        (let t = one.takes bytes a.0.0 a.0.1 fits a.1 in subst (λ (x : A). Takes bytes (text x) a.0.1 × Fits x) (sym (back_made a.0.0 t.1)) t)

    made_again : (y : B) (rest : List ℕ) → Fits (back y) → made make at (text (back y) ++ rest) ≡ Ok (y, rest)
    made_again y rest fits = rw (one.again (back y) rest fits) (ap (λ (z : B). well {F = F} (z, rest)) (made_back y))

    pub dressed : Format (λ y. text (back y)) (made make at) (λ y. Fits (back y))
    dressed = record { takes = made_takes; again = made_again }

  -- a value that was made of another one
  pub made_of : {B : Type 0} (make : A → B) (bytes : List ℕ) (y : B) (rest : List ℕ) → IsBytes bytes → made make at bytes ≡ Ok (y, rest) → (x : A) × (make x ≡ y) × Takes bytes (text x) rest × Fits x
  made_of {B} make bytes y rest fits e =
      let a = bind_ok (at bytes) (λ x. Ok (make x.0, x.1)) (y, rest) e in
      let t = one.takes bytes a.0.0 a.0.1 fits a.1 in
      let made : B × List ℕ = (make a.0.0, a.0.1) in
      let is = well_is {F = F} made (y, rest) a.2 in
      (a.0.0, ap (λ (q : B × List ℕ). q.0) is, subst (λ (r : List ℕ). Takes bytes (text a.0.0) r) (ap (λ (q : B × List ℕ). q.1) is) t.0, t.1)

  pub made_again_of : {B : Type 0} (make : A → B) (x : A) (rest : List ℕ) → Fits x → made make at (text x ++ rest) ≡ Ok (make x, rest)
  made_again_of make x rest fits = rw (one.again x rest fits) refl

  -- values that pass a test
  module _ (test : A → Bool) (fault : A → F) where
    tested_takes : (bytes : List ℕ) (x : A) (rest : List ℕ) → IsBytes bytes → tested test fault at bytes ≡ Ok (x, rest) → Takes bytes (text x) rest × (Fits x × (test x ≡ true))
    tested_takes bytes x rest fits e =
        let a = bind_ok (at bytes) (λ y. checked (test y.0) (fault y.0) (Ok y)) (x, rest) e in
        let g = checked_ok (test a.0.0) (fault a.0.0) (Ok a.0) (x, rest) a.2 in
        let is = well_is {F = F} a.0 (x, rest) g.1 in
        let t = one.takes bytes a.0.0 a.0.1 fits a.1 in
        subst (λ (q : A × List ℕ). Takes bytes (text q.0) q.1 × (Fits q.0 × (test q.0 ≡ true))) is (t.0, (t.1, g.0))

    tested_again : (x : A) (rest : List ℕ) → Fits x × (test x ≡ true) → tested test fault at (text x ++ rest) ≡ Ok (x, rest)
    tested_again x rest fits = rw (one.again x rest fits.0, fits.1) refl

    pub passed : Format text (tested test fault at) (λ x. Fits x × (test x ≡ true))
    passed = record { takes = tested_takes; again = tested_again }

  -- so many of them
  many_takes : (n : ℕ) (bytes : List ℕ) (xs : List A) (rest : List ℕ) → IsBytes bytes → many at n bytes ≡ Ok (xs, rest) → Takes bytes (flat_map text xs) rest × ((length xs ≡ n) × AllByRecursion Fits xs)
  unfolding many
  many_takes zero bytes xs rest fits e =
      let none : List A × List ℕ = ([], bytes) in
      subst (λ (q : List A × List ℕ). Takes bytes (flat_map text q.0) q.1 × ((length q.0 ≡ 0) × AllByRecursion Fits q.0)) (well_is {F = F} none (xs, rest) e)
      (record { parts = refl; rest_fits = fits }, (refl, tt))
  many_takes (suc n) bytes xs rest fits e =
      let a = bind_ok (at bytes) (λ x. many at n x.1 >>= λ y. Ok (x.0 ∷ y.0, y.1)) (xs, rest) e in
      let b = bind_ok (many at n a.0.1) (λ y. Ok (a.0.0 ∷ y.0, y.1)) (xs, rest) a.2 in
      let t = one.takes bytes a.0.0 a.0.1 fits a.1 in
      let u = many_takes n a.0.1 b.0.0 b.0.1 t.0.rest_fits b.1 in
      let len : length (a.0.0 ∷ b.0.0) ≡ suc n = ap suc u.1.0 in
      let found : List A × List ℕ = (a.0.0 ∷ b.0.0, b.0.1) in
      subst (λ (q : List A × List ℕ). Takes bytes (flat_map text q.0) q.1 × ((length q.0 ≡ suc n) × AllByRecursion Fits q.0)) (well_is {F = F} found (xs, rest) b.2)
      (Takes-then bytes (text a.0.0) a.0.1 (flat_map text b.0.0) b.0.1 t.0 u.0, (len, (t.1, u.1.1)))

  many_again : (n : ℕ) (xs : List A) (rest : List ℕ) → (length xs ≡ n) × AllByRecursion Fits xs → many at n (flat_map text xs ++ rest) ≡ Ok (xs, rest)
  unfolding many
  many_again zero [] rest fits = refl
  many_again zero (x ∷ xs) rest fits = absurd (omega (arith, fits.0))
  many_again (suc n) [] rest fits = absurd (omega (arith, fits.0))
  many_again (suc n) (x ∷ xs) rest fits =
      let len : length xs ≡ n = omega (arith, fits.0) in
      ap (many at (suc n)) (append_assoc (text x) (flat_map text xs) rest)
      ∙ rw (one.again x (flat_map text xs ++ rest) fits.1.0, many_again n xs rest (len, fits.1.1)) refl

  pub several : (n : ℕ) → Format (flat_map text) (many at n) (λ xs. (length xs ≡ n) × AllByRecursion Fits xs)
  several n = record { takes = many_takes n; again = many_again n }

  -- a count of a width, and so many of them
  module _ (cut : F) (w : Width) (limit : ℕ) (wide : IsWide w limit) where
    counted_takes : (bytes : List ℕ) (xs : List A) (rest : List ℕ) → IsBytes bytes → counted cut w at bytes ≡ Ok (xs, rest) → Takes bytes (to_be_bytes w (length xs) ++ flat_map text xs) rest × ((length xs < limit) × AllByRecursion Fits xs)
    counted_takes bytes xs rest fits e =
        let a = bind_ok (number_at cut w bytes) (λ n. many at n.0 n.1) (xs, rest) e in
        let t = (number cut w limit wide).takes bytes a.0.0 a.0.1 fits a.1 in
        let u = many_takes a.0.0 a.0.1 xs rest t.0.rest_fits a.2 in
        let first : Takes bytes (to_be_bytes w (length xs)) a.0.1 = subst (λ (k : ℕ). Takes bytes (to_be_bytes w k) a.0.1) (sym u.1.0) t.0 in
        (Takes-then bytes (to_be_bytes w (length xs)) a.0.1 (flat_map text xs) rest first u.0, (subst (λ (k : ℕ). k < limit) (sym u.1.0) t.1, u.1.1))

    counted_again : (xs : List A) (rest : List ℕ) → (length xs < limit) × AllByRecursion Fits xs → counted cut w at ((to_be_bytes w (length xs) ++ flat_map text xs) ++ rest) ≡ Ok (xs, rest)
    counted_again xs rest fits =
        ap (counted cut w at) (append_assoc (to_be_bytes w (length xs)) (flat_map text xs) rest)
        ∙ rw ((number cut w limit wide).again (length xs) (flat_map text xs ++ rest) fits.0) (many_again (length xs) xs rest (refl, fits.1))

    pub so_many : Format (λ xs. to_be_bytes w (length xs) ++ flat_map text xs) (counted cut w at) (λ xs. (length xs < limit) × AllByRecursion Fits xs)
    so_many = record { takes = counted_takes; again = counted_again }

  -- ---- a value that takes just the bytes that are there

  module _ (own : F) where
    pub filled_takes : (bytes : List ℕ) (x : A) → IsBytes bytes → filled own at bytes ≡ Ok x → (bytes ≡ text x) × Fits x
    filled_takes bytes x fits e =
        let a = bind_ok (at bytes) (λ y. checked (is_empty y.1) own (Ok y.0)) x e in
        let g = checked_ok (is_empty a.0.1) own (Ok a.0.0) x a.2 in
        let t = one.takes bytes a.0.0 a.0.1 fits a.1 in
        let nothing : a.0.1 ≡ [] = no_more a.0.1 g.0 in
        let whole : bytes ≡ text a.0.0 = t.0.parts ∙ (ap (λ (r : List ℕ). text a.0.0 ++ r) nothing ∙ append-nil (text a.0.0)) in
        subst (λ (y : A). (bytes ≡ text y) × Fits y) (well_is {F = F} a.0.0 x g.1) (whole, t.1)

    pub filled_again : (x : A) → Fits x → filled own at (text x) ≡ Ok x
    filled_again x fits =
        let e : at (text x) ≡ Ok (x, []) = ap at (sym (append-nil (text x))) ∙ one.again x [] fits in
        rw e refl
