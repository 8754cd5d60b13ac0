-- Parts whose form a tag tells: what a reader takes is what is spelled there.
use Rattle.std.proofs.Common.{◌≡◌, ℕ, ◌^◌, ◌<◌, Bool, true, false, cond, List, [], ◌++◌, Ok, refl, sym, ap, subst, ◌∙◌, append_assoc}
use Rattle.std.specs.Int.{w8}
use Rattle.kilim_class_grammar.specs.Reader.{Reader, number_at, given, made}
use Rattle.kilim_class_grammar.specs.Spelling.{u1}
use Rattle.kilim_class_grammar.proofs.Bytes.{IsBytes, Takes, Takes-then}
use Rattle.kilim_class_grammar.proofs.Formats.{Format, bind_ok, well_is, n8, made_of}
use Rattle.kilim_class_attributes.specs.parts.Choices.{refused, tagged}

-- what a reader takes from the front is spelled there
pub record Spelled {F A : Type 0} (text : A → List ℕ) (at : Reader F A) (Fits : A → Type 0) : Type 0 where
  pub takes : (bytes : List ℕ) (x : A) (rest : List ℕ) → IsBytes bytes → at bytes ≡ Ok (x, rest) → Takes bytes (text x) rest × Fits x

module _ {F A : Type 0} {text : A → List ℕ} {Fits : A → Type 0} where
  pub either : (b : Bool) (one other : Reader F A) → (b ≡ true → Spelled text one Fits) → (b ≡ false → Spelled text other Fits) → Spelled text (λ bytes. cond b (one bytes) (other bytes)) Fits
  either true one other p q = record { takes = (p refl).takes }
  either false one other p q = record { takes = (q refl).takes }

  pub by_refused : (fault : F) → Spelled text (refused fault) Fits
  by_refused fault = record { takes = λ bytes x rest fits e. absurd cc }

  pub by_given : (x : A) → text x ≡ [] → Fits x → Spelled text (given {F = F} x) Fits
  by_given x none fit = record {
    takes = λ bytes y rest fits e.
        let here : A × List ℕ = (x, bytes) in
        subst (λ (q : A × List ℕ). Takes bytes (text q.0) q.1 × Fits q.0) (well_is {F = F} here (y, rest) e)
        (record { parts = ap (λ (t : List ℕ). t ++ bytes) (sym none); rest_fits = fits }, fit);
  }

  pub by_made : {B : Type 0} {text' : B → List ℕ} {at : Reader F B} {Fits' : B → Type 0} (one : Format text' at Fits') (make : B → A)
      → ((y : B) → Fits' y → text' y ≡ text (make y)) → ((y : B) → Fits' y → Fits (make y)) → Spelled text (made make at) Fits
  by_made {B} {text'} {at} {Fits'} one make same there = record {
    takes = λ bytes x rest fits e.
        let m = made_of one make bytes x rest fits e in
        subst (λ (z : A). Takes bytes (text z) rest × Fits z) m.1
        (record { parts = m.2.parts ∙ ap (λ (t : List ℕ). t ++ rest) (same m.0 m.3); rest_fits = m.2.rest_fits }, there m.0 m.3);
  }

-- a tag, and what follows it
module _ {F A : Type 0} (cut : F) (tag_of : A → ℕ) (body : A → List ℕ) (behind : ℕ → Reader F A) (Fits : A → Type 0) where
  abbrev pub Tagged : ℕ → A → Type 0
  Tagged tag x = Fits x × (tag_of x ≡ tag)

  module _ (low : (x : A) → Fits x → tag_of x < 2 ^ 8) (spelled : (tag : ℕ) → tag < 2 ^ 8 → Spelled body (behind tag) (Tagged tag)) (goes : (x : A) (rest : List ℕ) → Fits x → behind (tag_of x) (body x ++ rest) ≡ Ok (x, rest)) where
    tagged_takes : (bytes : List ℕ) (x : A) (rest : List ℕ) → IsBytes bytes → tagged cut behind bytes ≡ Ok (x, rest) → Takes bytes (u1 (tag_of x) ++ body x) rest × Fits x
    tagged_takes bytes x rest fits e =
        let a = bind_ok (number_at cut w8 bytes) (λ tag. behind tag.0 tag.1) (x, rest) e in
        let t = (n8 cut).takes bytes a.0.0 a.0.1 fits a.1 in
        let u = (spelled a.0.0 t.1).takes a.0.1 x rest t.0.rest_fits a.2 in
        let first : Takes bytes (u1 (tag_of x)) a.0.1 = subst (λ (n : ℕ). Takes bytes (u1 n) a.0.1) (sym u.1.1) t.0 in
        (Takes-then bytes (u1 (tag_of x)) a.0.1 (body x) rest first u.0, u.1.0)

    tagged_again : (x : A) (rest : List ℕ) → Fits x → tagged cut behind ((u1 (tag_of x) ++ body x) ++ rest) ≡ Ok (x, rest)
    tagged_again x rest fit =
        ap (tagged cut behind) (append_assoc (u1 (tag_of x)) (body x) rest)
        ∙ rw ((n8 cut).again (tag_of x) (body x ++ rest) (low x fit)) (goes x rest fit)

    pub by_tag : Format (λ x. u1 (tag_of x) ++ body x) (tagged cut behind) Fits
    by_tag = record { takes = tagged_takes; again = tagged_again }
