-- What is answered for bytes that are the text of instructions.
use Rattle.std.proofs.Common.{◌≡◌, ℕ, List, length, None, refl, sym, ap, subst}
use Rattle.kilim_class_code.specs.Code.{Placed, StandsFrom, code_text}
use Rattle.kilim_class_code.specs.Exact.{BodyFits, IsCode, body_fault}

pub is_code : (bytes : List ℕ) (code : List Placed) → BodyFits code → bytes ≡ code_text code → IsCode bytes code
is_code bytes code fits e = record { stands = subst (λ n. StandsFrom 0 code n) (sym (ap length e)) fits.stands; text = e }

pub no_fault : (code : List Placed) → BodyFits code → body_fault code ≡ None
unfolding body_fault
no_fault code fits = rw (fits.targets, fits.last) refl
