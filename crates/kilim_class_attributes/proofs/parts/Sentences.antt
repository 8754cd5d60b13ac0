-- Sentences, part by part, as a loop reads them, and both ways.
use Rattle.std.proofs.Common.{◌≡◌, ℕ, zero, suc, ◌<◌, ◌≤◌, List, [], ◌∷◌, ◌++◌, length, Result, Ok, Err, refl, sym, ap, subst, ◌∙◌, append_assoc, arith, inr}
use Rattle.std.specs.List.{flat_map}
use Rattle.std.proofs.lemmas.List.{append-nil, length-append}
use Rattle.kilim_class_grammar.specs.Reader.{Reader, ◌>>=◌}
use Rattle.kilim_class_grammar.proofs.Bytes.{IsBytes, Takes, Takes-then}
use Rattle.kilim_class_grammar.proofs.Formats.{Format, bind_ok, well, well_is}
use Rattle.kilim_class_grammar.proofs.Loops.{with_front, FailsUnless}
use Rattle.kilim_class_attributes.specs.parts.Choices.{sentence_at, Sentence}

abbrev bad : {F A : Type 0} → F → Result A F
bad e = Err e

module _ {F A K : Type 0} (cut : F) (one : K → Reader F A) (asks : A → List K) where
  regroup : (front : List A) (x : A) (read : Result (List A × List ℕ) F) → with_front front (read >>= λ y. Ok (x ∷ y.0, y.1)) ≡ with_front (front ++ x ∷ []) read
  regroup front x (Err e) = refl
  regroup front x (Ok y) = ap (λ (xs : List A). Ok (xs, y.1)) (simp append_assoc)

  abbrev failed : F → Result (List A × List ℕ) F
  failed e = Err e

  fault_is : (e d : F) → bad {A = A × List ℕ} e ≡ bad d → e ≡ d
  fault_is e d h = cc

  -- what is still to come, with enough room, leads to the whole
  pub record LeadsTo (front : List A) (kinds : List K) (bytes : List ℕ) (total : Result (List A × List ℕ) F) : Type 0 where
    pub most : ℕ
    pub room : length bytes ≤ most
    pub so_far : with_front front (sentence_at cut one asks most kinds bytes) ≡ total

  advance : (front : List A) (kind : K) (kinds : List K) (bytes : List ℕ) (x : A) (after : List ℕ) (total : Result (List A × List ℕ) F) → length after < length bytes → one kind bytes ≡ Ok (x, after)
      → (most : ℕ) → length bytes ≤ most → with_front front (sentence_at cut one asks most (kind ∷ kinds) bytes) ≡ total → LeadsTo (front ++ x ∷ []) (asks x ++ kinds) after total
  unfolding sentence_at
  advance front kind kinds bytes x after total shorter h zero room so = absurd (omega arith)
  advance front kind kinds bytes x after total shorter h (suc most) room so =
      let step : with_front front (sentence_at cut one asks (suc most) (kind ∷ kinds) bytes) ≡ with_front (front ++ x ∷ []) (sentence_at cut one asks most (asks x ++ kinds) after) =
      rw h (regroup front x (sentence_at cut one asks most (asks x ++ kinds) after)) in
      record { most = most; room = omega arith; so_far = sym step ∙ so }

  pub goes_on : (front : List A) (kind : K) (kinds : List K) (bytes : List ℕ) (x : A) (after : List ℕ) (total : Result (List A × List ℕ) F) → length after < length bytes → one kind bytes ≡ Ok (x, after)
      → LeadsTo front (kind ∷ kinds) bytes total → LeadsTo (front ++ x ∷ []) (asks x ++ kinds) after total
  goes_on front kind kinds bytes x after total shorter h so = advance front kind kinds bytes x after total shorter h so.most so.room so.so_far

  ended : (e : F) (front : List A) (kind : K) (kinds : List K) (bytes : List ℕ) (most : ℕ) → (one kind [] ≡ Err cut) → one kind bytes ≡ Err e → length bytes ≤ most → with_front front (sentence_at cut one asks most (kind ∷ kinds) bytes) ≡ Err e
  unfolding sentence_at
  ended e front kind kinds [] zero none f room =
      let same : e ≡ cut = fault_is e cut (sym f ∙ none) in
      ap (λ (x : F). failed x) (sym same)
  ended e front kind kinds (b ∷ bytes) zero none f room = absurd (omega arith)
  ended e front kind kinds bytes (suc most) none f room = rw f refl

  pub stops : (memory e : F) (front : List A) (kind : K) (kinds : List K) (bytes : List ℕ) (total : Result (List A × List ℕ) F) → one kind [] ≡ Err cut → one kind bytes ≡ Err e
      → LeadsTo front (kind ∷ kinds) bytes total → FailsUnless memory e total
  stops memory e front kind kinds bytes total none f so = inr (sym so.so_far ∙ ended e front kind kinds bytes so.most none f so.room)

  pub is_done : (front : List A) (bytes : List ℕ) (total : Result (List A × List ℕ) F) → LeadsTo front [] bytes total → total ≡ Ok (front, bytes)
  unfolding sentence_at
  is_done front bytes total so =
      let e : with_front front (sentence_at cut one asks so.most [] bytes) ≡ well (front, bytes) = ap (λ (xs : List A). well {F = F} (xs, bytes)) (append-nil front) in
      sym so.so_far ∙ e

  module _ {text : A → List ℕ} {Fits : K → A → Type 0} (each : (kind : K) → Format text (one kind) (Fits kind)) (some : (x : A) → 0 < length (text x)) where
    pub takes : (most : ℕ) (kinds : List K) (bytes : List ℕ) (xs : List A) (rest : List ℕ) → IsBytes bytes → sentence_at cut one asks most kinds bytes ≡ Ok (xs, rest) → Takes bytes (flat_map text xs) rest × Sentence Fits asks kinds xs
    unfolding sentence_at
    takes most [] bytes xs rest fits e =
        let none : List A × List ℕ = ([], bytes) in
        subst (λ (q : List A × List ℕ). Takes bytes (flat_map text q.0) q.1 × Sentence Fits asks [] q.0) (well_is {F = F} none (xs, rest) e)
        (record { parts = refl; rest_fits = fits }, tt)
    takes zero (kind ∷ kinds) bytes xs rest fits e = absurd cc
    takes (suc most) (kind ∷ kinds) bytes xs rest fits e =
        let a = bind_ok (one kind bytes) (λ x. sentence_at cut one asks most (asks x.0 ++ kinds) x.1 >>= λ y. Ok (x.0 ∷ y.0, y.1)) (xs, rest) e in
        let b = bind_ok (sentence_at cut one asks most (asks a.0.0 ++ kinds) a.0.1) (λ y. Ok (a.0.0 ∷ y.0, y.1)) (xs, rest) a.2 in
        let t = (each kind).takes bytes a.0.0 a.0.1 fits a.1 in
        let u = takes most (asks a.0.0 ++ kinds) a.0.1 b.0.0 b.0.1 t.0.rest_fits b.1 in
        let found : List A × List ℕ = (a.0.0 ∷ b.0.0, b.0.1) in
        subst (λ (q : List A × List ℕ). Takes bytes (flat_map text q.0) q.1 × Sentence Fits asks (kind ∷ kinds) q.0) (well_is {F = F} found (xs, rest) b.2)
        (Takes-then bytes (text a.0.0) a.0.1 (flat_map text b.0.0) b.0.1 t.0 u.0, (t.1, u.1))

    pub again : (most : ℕ) (kinds : List K) (xs : List A) (rest : List ℕ) → length (flat_map text xs ++ rest) ≤ most → Sentence Fits asks kinds xs → sentence_at cut one asks most kinds (flat_map text xs ++ rest) ≡ Ok (xs, rest)
    unfolding sentence_at
    again most [] [] rest room fit = refl
    again most [] (x ∷ xs) rest room fit = absurd fit
    again most (kind ∷ kinds) [] rest room fit = absurd fit
    again zero (kind ∷ kinds) (x ∷ xs) rest room fit =
        let some_here = some x in let len = length-append (text x ++ flat_map text xs) rest in let len' = length-append (text x) (flat_map text xs) in absurd (omega arith)
    again (suc most) (kind ∷ kinds) (x ∷ xs) rest room fit =
        let some_here = some x in
        let len = length-append (text x) (flat_map text xs ++ rest) in
        let whole : (text x ++ flat_map text xs) ++ rest ≡ text x ++ (flat_map text xs ++ rest) = append_assoc (text x) (flat_map text xs) rest in
        let same = ap length whole in
        let less : length (flat_map text xs ++ rest) ≤ most = omega arith in
        ap (sentence_at cut one asks (suc most) (kind ∷ kinds)) whole
        ∙ rw ((each kind).again x (flat_map text xs ++ rest) fit.0, again most (asks x ++ kinds) xs rest less fit.1) refl
