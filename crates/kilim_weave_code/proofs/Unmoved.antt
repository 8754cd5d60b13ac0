-- Instructions without targets.
use Rattle.std.proofs.Common.{◌≡◌, ℕ, Bool, false, List, [], ◌∷◌, ℤ, map, Result, Ok, Err, refl, sym, ap, ◌∙◌}
use Rattle.std.specs.Prelude.{IfOk}
use Rattle.kilim_program.specs.declared.instr.Instr.{Instr}
use Rattle.kilim_program.specs.declared.instr.Instr.TheVariants.{Tableswitch, Lookupswitch, Ifeq, Ifne, Iflt, Ifge, Ifgt, Ifle, Goto, Ifnull, Ifnonnull, GotoW, IfIcmpeq, IfIcmpne, IfIcmplt, IfIcmpge, IfIcmpgt, IfIcmple, IfAcmpeq, IfAcmpne}
use Rattle.kilim_weave_spec.specs.Woven.{moved_instr, moved_pairs}
use Rattle.kilim_weave_pieces.specs.Items.{has_target, target_of, Moves}

-- One without a target stays.
pub unmoved : (at : ℕ → ℕ) (i : Instr) → has_target i ≡ false → moved_instr at i ≡ i
unmoved at (Ifeq to) h = absurd (cc)
unmoved at (Ifne to) h = absurd (cc)
unmoved at (Iflt to) h = absurd (cc)
unmoved at (Ifge to) h = absurd (cc)
unmoved at (Ifgt to) h = absurd (cc)
unmoved at (Ifle to) h = absurd (cc)
unmoved at (Goto to) h = absurd (cc)
unmoved at (Ifnull to) h = absurd (cc)
unmoved at (Ifnonnull to) h = absurd (cc)
unmoved at (GotoW to) h = absurd (cc)
unmoved at (IfIcmpeq to) h = absurd (cc)
unmoved at (IfIcmpne to) h = absurd (cc)
unmoved at (IfIcmplt to) h = absurd (cc)
unmoved at (IfIcmpge to) h = absurd (cc)
unmoved at (IfIcmpgt to) h = absurd (cc)
unmoved at (IfIcmple to) h = absurd (cc)
unmoved at (IfAcmpeq to) h = absurd (cc)
unmoved at (IfAcmpne to) h = absurd (cc)
unmoved at (Tableswitch default low targets) h = absurd (cc)
unmoved at (Lookupswitch default pairs) h = absurd (cc)
unmoved at i h = refl

-- One that moves by a place, as it is moved to that place.
pub moved_by : {E : Type 0} (r : Result Instr E) (at : ℕ → ℕ) (to : ℕ) (j : Instr) → at (target_of j) ≡ to → IfOk r (λ i. Moves to i j) → IfOk r (λ i. i ≡ moved_instr at j)
moved_by (Ok i) at to j e h = h at e
moved_by (Err x) at to j e h = tt

-- One that moves nowhere stays.
same_places : (places : List ℕ) → map (λ (place : ℕ). place) places ≡ places
same_places [] = refl
same_places (p ∷ ps) = ap (λ (qs : List ℕ). p ∷ qs) (same_places ps)

same_pairs : (pairs : List (ℤ × ℕ)) → moved_pairs (λ place. place) pairs ≡ pairs
same_pairs [] = refl
same_pairs (p ∷ ps) = ap (λ (qs : List (ℤ × ℕ)). p ∷ qs) (same_pairs ps)

moved_nowhere : (i : Instr) → moved_instr (λ place. place) i ≡ i
moved_nowhere (Tableswitch default low targets) = ap (Tableswitch default low) (same_places targets)
moved_nowhere (Lookupswitch default pairs) = ap (Lookupswitch default) (same_pairs pairs)
moved_nowhere i = refl

pub stays_by : {E : Type 0} (r : Result Instr E) (to : ℕ) (i : Instr) → to ≡ target_of i → IfOk r (λ j. Moves to j i) → IfOk r (λ j. j ≡ i)
stays_by (Ok j) to i is moves = moves (λ place. place) (sym is) ∙ moved_nowhere i
stays_by (Err x) to i is moves = tt
