-- Listed frames show the types of their places.
use Rattle.std.proofs.Common.{◌≡◌, ℕ, zero, suc, ◌≤◌, refl, arith, List, [], ◌∷◌, length}
use Rattle.std.proofs.lemmas.List.{reverse-reverse}
use Rattle.kilim_program.specs.declared.verified.VType.{VType}
use Rattle.kilim_type_spec.specs.Step.{peek}
use Rattle.kilim_type_spec.specs.Typed.{padded}
use Rattle.kilim_type_laws.specs.Laws.{ListedFramesShow}
use Rattle.kilim_type_laws.proofs.Rooms.{few_locals}

same_slot : (n : ℕ) (ts : List VType) (slot : ℕ) → length ts ≤ n → peek (padded n ts) slot ≡ peek ts slot
same_slot zero [] slot few = refl
same_slot zero (t ∷ ts) slot few = absurd (omega (arith, few))
same_slot (suc n) [] zero few = refl
same_slot (suc n) [] (suc slot) few = same_slot n [] slot (omega arith)
same_slot (suc n) (t ∷ ts) zero few = refl
same_slot (suc n) (t ∷ ts) (suc slot) few = same_slot n ts slot (omega (arith, few))

pub listed_frames_show : ListedFramesShow
listed_frames_show p m typing well at place =
    let few = few_locals p m typing well at place in
    (few, record { locals = λ slot. same_slot m.max_locals (typing at).locals slot few; stack = reverse-reverse (typing at).stack })
