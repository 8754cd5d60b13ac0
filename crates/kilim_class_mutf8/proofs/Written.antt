-- Units that are written one by one.
use Rattle.std.proofs.Common.{◌≡◌, Bool, true, false, ℕ, zero, suc, ◌+◌, ◌<◌, List, [], ◌∷◌, ◌++◌, length, take, get_or, Result, Ok, Err, is_err, sym, ap, ◌∙◌, append_assoc, add-one, arith}
use Rattle.std.specs.Prelude.{OnOk, OnErr}
use Rattle.std.proofs.Math.Seq.{take-append_seam}
use Rattle.std.proofs.lemmas.List.{append-nil}
use Rattle.kilim_class_mutf8.specs.Spelling.{unit_text, spelling}

next : (us : List ℕ) (i : ℕ) → i < length us → spelling (take i us) ++ unit_text (get_or us i 0) ≡ spelling (take (suc i) us)
next [] i lt = absurd (omega arith)
next (u ∷ us) zero lt = sym (append-nil (unit_text u))
next (u ∷ us) (suc i) lt =
    append_assoc (unit_text u) (spelling (take i us)) (unit_text (get_or us i 0)) ∙ ap (λ (bytes : List ℕ). unit_text u ++ bytes) (next us i (omega arith))

pub one_written : {T E : Type 0} (r : Result T E) (us : List ℕ) (i : ℕ) (old mid new : List ℕ) → i < length us → mid ≡ old ++ spelling (take i us) → OnOk r (new ≡ mid ++ unit_text (get_or us i 0)) → is_err r ≡ false → new ≡ old ++ spelling (take (i + 1) us)
one_written (Err e) us i old mid new lt parts more is = absurd (cc)
one_written (Ok v) us i old mid new lt parts more is =
    rw add-one
    (more ∙ (ap (λ (bytes : List ℕ). bytes ++ unit_text (get_or us i 0)) parts ∙ (append_assoc old (spelling (take i us)) (unit_text (get_or us i 0)) ∙ ap (λ (bytes : List ℕ). old ++ bytes) (next us i lt))))

-- bytes that are cut again where they ended
pub taken_back : {T E : Type 0} (r : Result T E) (old mid new x final : List ℕ) (n : ℕ) → n ≡ length old → mid ≡ old ++ x → OnErr r (new ≡ mid) → is_err r ≡ true → final ≡ take n new → final ≡ old
taken_back (Ok v) old mid new x final n len parts same is cut = absurd (cc)
taken_back (Err e) old mid new x final n len parts same is cut =
    cut ∙ (ap (take n) (same ∙ parts) ∙ (ap (λ (k : ℕ). take k (old ++ x)) len ∙ take-append_seam old x))
