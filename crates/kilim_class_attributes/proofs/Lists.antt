-- Lists of values that know those before them, and bytes behind a name and a length, both ways.
use Rattle.std.proofs.Common.{◌≡◌, ℕ, zero, suc, ◌^◌, ◌<◌, List, [], ◌∷◌, ◌++◌, length, Result, Ok, Err, refl, sym, ap, subst, ◌∙◌, append_assoc}
use Rattle.std.specs.List.{flat_map}
use Rattle.std.specs.Int.{w16, w32}
use Rattle.std.proofs.lemmas.List.{append-nil}
use Rattle.kilim_class_grammar.specs.Reader.{Reader, ◌>>=◌, number_at, bytes_at}
use Rattle.kilim_class_grammar.specs.Spelling.{u2, u4, list_text}
use Rattle.kilim_class_grammar.proofs.Bytes.{IsBytes, Takes, Takes-then}
use Rattle.kilim_class_grammar.proofs.Formats.{Format, bind_ok, well, well_is, n16, n32, raw, bytes_again}
use Rattle.kilim_class_attributes.specs.Lists.{as_a, many_after, listed, EachAfter, named_bytes_at, named_text}

-- ---- values that know those before them

module _ {F A : Type 0} {text : A → List ℕ} {one : List A → Reader F A} {Fits : List A → A → Type 0} (each : (before : List A) → Format text (one before) (Fits before)) where
  -- values that stand behind those before
  pub record Follow (before : List A) (n : ℕ) (bytes : List ℕ) (all : List A) (rest : List ℕ) : Type 0 where
    pub more : List A
    pub is : all ≡ before ++ more
    pub takes : Takes bytes (flat_map text more) rest
    pub len : length more ≡ n
    pub fit : EachAfter Fits before more

  after_takes : (n : ℕ) (before : List A) (bytes : List ℕ) (all : List A) (rest : List ℕ) → IsBytes bytes → many_after one before n bytes ≡ Ok (all, rest) → Follow before n bytes all rest
  unfolding many_after
  after_takes zero before bytes all rest fits e =
      let here : List A × List ℕ = (before, bytes) in
      let is = well_is {F = F} here (all, rest) e in
      record {
        more = [];
        is = sym (ap (λ (q : List A × List ℕ). q.0) is) ∙ sym (append-nil before);
        takes = record { parts = ap (λ (q : List A × List ℕ). q.1) is; rest_fits = subst (λ (r : List ℕ). IsBytes r) (ap (λ (q : List A × List ℕ). q.1) is) fits };
        len = refl;
        fit = tt;
      }
  after_takes (suc n) before bytes all rest fits e =
      let a = bind_ok (one before bytes) (λ x. many_after one (before ++ x.0 ∷ []) n x.1) (all, rest) e in
      let t = (each before).takes bytes a.0.0 a.0.1 fits a.1 in
      let u = after_takes n (before ++ a.0.0 ∷ []) a.0.1 all rest t.0.rest_fits a.2 in
      record {
        more = a.0.0 ∷ u.more;
        is = u.is ∙ append_assoc before (a.0.0 ∷ []) u.more;
        takes = Takes-then bytes (text a.0.0) a.0.1 (flat_map text u.more) rest t.0 u.takes;
        len = ap suc u.len;
        fit = (t.1, u.fit);
      }

  after_again : (xs before : List A) (rest : List ℕ) → EachAfter Fits before xs → many_after one before (length xs) (flat_map text xs ++ rest) ≡ Ok (before ++ xs, rest)
  unfolding many_after
  after_again [] before rest fit = ap (λ (xs : List A). well {F = F} (xs, rest)) (sym (append-nil before))
  after_again (x ∷ xs) before rest fit =
      ap (many_after one before (length (x ∷ xs))) (append_assoc (text x) (flat_map text xs) rest)
      ∙ (rw ((each before).again x (flat_map text xs ++ rest) fit.0) (after_again xs (before ++ x ∷ []) rest fit.1)
      ∙ ap (λ (ys : List A). well {F = F} (ys, rest)) (append_assoc before (x ∷ []) xs))

  module _ (cut : F) where
    listed_takes : (bytes : List ℕ) (xs : List A) (rest : List ℕ) → IsBytes bytes → listed cut one bytes ≡ Ok (xs, rest) → Takes bytes (list_text text xs) rest × ((length xs < 2 ^ 16) × EachAfter Fits [] xs)
    unfolding listed
    listed_takes bytes xs rest fits e =
        let a = bind_ok (number_at cut w16 bytes) (λ n. many_after one [] n.0 n.1) (xs, rest) e in
        let t = (n16 cut).takes bytes a.0.0 a.0.1 fits a.1 in
        let u = after_takes a.0.0 [] a.0.1 xs rest t.0.rest_fits a.2 in
        let len : length xs ≡ a.0.0 = ap length u.is ∙ u.len in
        let first : Takes bytes (u2 (length xs)) a.0.1 = subst (λ (k : ℕ). Takes bytes (u2 k) a.0.1) (sym len) t.0 in
        let second : Takes a.0.1 (flat_map text xs) rest = subst (λ (ys : List A). Takes a.0.1 (flat_map text ys) rest) (sym u.is) u.takes in (
          Takes-then bytes (u2 (length xs)) a.0.1 (flat_map text xs) rest first second,
          (subst (λ (k : ℕ). k < 2 ^ 16) (sym len) t.1, subst (λ (ys : List A). EachAfter Fits [] ys) (sym u.is) u.fit),
        )

    listed_again : (xs : List A) (rest : List ℕ) → (length xs < 2 ^ 16) × EachAfter Fits [] xs → listed cut one (list_text text xs ++ rest) ≡ Ok (xs, rest)
    unfolding listed
    listed_again xs rest fit =
        ap (listed cut one) (append_assoc (u2 (length xs)) (flat_map text xs) rest)
        ∙ rw ((n16 cut).again (length xs) (flat_map text xs ++ rest) fit.0) (after_again xs [] rest fit.1)

    pub listed_format : Format (list_text text) (listed cut one) (λ xs. (length xs < 2 ^ 16) × EachAfter Fits [] xs)
    listed_format = record { takes = listed_takes; again = listed_again }

-- ---- bytes behind a name and a length

module _ {F : Type 0} (cut : F) where
  pub record IsNamed (x : ℕ × List ℕ) : Type 0 where
    pub below : x.0 < 2 ^ 16
    pub size : length x.1 < 2 ^ 32
    pub bytes : IsBytes x.1

  pub named_takes : (bytes : List ℕ) (x : ℕ × List ℕ) (rest : List ℕ) → IsBytes bytes → named_bytes_at cut bytes ≡ Ok (x, rest) → Takes bytes (named_text x.0 x.1) rest × IsNamed x
  unfolding named_bytes_at
  named_takes bytes x rest fits e =
      let a = bind_ok (number_at cut w16 bytes) (λ name. number_at cut w32 name.1 >>= λ size. bytes_at cut size.0 size.1 >>= λ content. Ok ((name.0, content.0), content.1)) (x, rest) e in
      let b = bind_ok (number_at cut w32 a.0.1) (λ size. bytes_at cut size.0 size.1 >>= λ content. Ok ((a.0.0, content.0), content.1)) (x, rest) a.2 in
      let d = bind_ok (bytes_at cut b.0.0 b.0.1) (λ content. Ok ((a.0.0, content.0), content.1)) (x, rest) b.2 in
      let t = (n16 cut).takes bytes a.0.0 a.0.1 fits a.1 in
      let u = (n32 cut).takes a.0.1 b.0.0 b.0.1 t.0.rest_fits b.1 in
      let v = (raw cut b.0.0).takes b.0.1 d.0.0 d.0.1 u.0.rest_fits d.1 in
      let second : Takes a.0.1 (u4 (length d.0.0)) b.0.1 = subst (λ (k : ℕ). Takes a.0.1 (u4 k) b.0.1) (sym v.1.0) u.0 in
      let size : length d.0.0 < 2 ^ 32 = subst (λ (k : ℕ). k < 2 ^ 32) (sym v.1.0) u.1 in
      let behind : Takes a.0.1 (u4 (length d.0.0) ++ d.0.0) d.0.1 = Takes-then a.0.1 (u4 (length d.0.0)) b.0.1 d.0.0 d.0.1 second v.0 in
      let found : (ℕ × List ℕ) × List ℕ = ((a.0.0, d.0.0), d.0.1) in
      subst (λ (q : (ℕ × List ℕ) × List ℕ). Takes bytes (named_text q.0.0 q.0.1) q.1 × IsNamed q.0) (well_is {F = F} found (x, rest) d.2)
      (Takes-then bytes (u2 a.0.0) a.0.1 (u4 (length d.0.0) ++ d.0.0) d.0.1 t.0 behind, record { below = t.1; size = size; bytes = v.1.1 })

  pub named_again : (name : ℕ) (content rest : List ℕ) → name < 2 ^ 16 → length content < 2 ^ 32 → named_bytes_at cut (named_text name content ++ rest) ≡ Ok ((name, content), rest)
  unfolding named_bytes_at
  named_again name content rest below size =
      ap (named_bytes_at cut) (append_assoc (u2 name) (u4 (length content) ++ content) rest ∙ ap (λ (t : List ℕ). u2 name ++ t) (append_assoc (u4 (length content)) content rest))
      ∙ rw ((n16 cut).again name (u4 (length content) ++ (content ++ rest)) below, (n32 cut).again (length content) (content ++ rest) size, bytes_again cut (length content) content rest refl) refl

-- ---- a value in another dress

module _ {F A B : Type 0} (make : A → B) where
  pub as_ok : (r : Result A F) (y : B) → as_a make r ≡ Ok y → (x : A) × (r ≡ Ok x) × (make x ≡ y)
  as_ok (Err e) y h = absurd cc
  as_ok (Ok x) y h = (x, refl, well_is {F = F} (make x) y h)
