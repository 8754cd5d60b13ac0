-- Bytes that are added piece by piece.
use Rattle.std.proofs.Common.{◌≡◌, ℕ, zero, suc, ◌+◌, ◌<◌, ℤ, Option, Some, Result, Ok, Err, List, [], ◌∷◌, ◌++◌, length, take, replicate, get_or, refl, sym, ap, subst, ◌∙◌, append_assoc, add-one, arith}
use Rattle.std.specs.Prelude.{OnOk}
use Rattle.std.specs.Int.{w32}
use Rattle.std.specs.List.{flat_map, AllByRecursion}
use Rattle.std.proofs.lemmas.List.{append-nil}
use Rattle.kilim_class_code.specs.declared.opcodes.instr.RawInstr.{RawInstr}
use Rattle.kilim_class_code.specs.opcodes.Instr.{TargetFits, PairsFit, operands_text}

pub joined : (old mid new x y : List ℕ) → mid ≡ old ++ x → new ≡ mid ++ y → new ≡ old ++ (x ++ y)
joined old mid new x y e f = f ∙ (ap (λ (m : List ℕ). m ++ y) e ∙ append_assoc old x y)

pub on_joined : {T E : Type 0} (r : Result T E) (old mid new x y : List ℕ) → mid ≡ old ++ x → OnOk r (new ≡ mid ++ y) → OnOk r (new ≡ old ++ (x ++ y))
on_joined (Ok v) old mid new x y e h = joined old mid new x y e h
on_joined (Err v) old mid new x y e h = tt

-- the operands of an instruction that is known to have this form
pub on_operands : {T E : Type 0} (r : Result T E) (old new : List ℕ) (at : ℕ) (instr known : RawInstr) → instr ≡ known → OnOk r (new ≡ old ++ operands_text at known) → OnOk r (new ≡ old ++ operands_text at instr)
on_operands r old new at instr known is h = subst (λ (i : RawInstr). OnOk r (new ≡ old ++ operands_text at i)) (sym is) h

abbrev zeros : ℕ → List ℕ
zeros n = replicate n 0

abbrev one_zero : List ℕ
one_zero = 0 ∷ []

-- so many zeros, and one more
zeros_more : (n : ℕ) → zeros n ++ one_zero ≡ zeros (suc n)
zeros_more zero = refl
zeros_more (suc n) = ap (λ (others : List ℕ). 0 ∷ others) (zeros_more n)

pub padded_more : (old now next : List ℕ) (n : ℕ) → now ≡ old ++ zeros n → next ≡ now ++ one_zero → next ≡ old ++ zeros (n + 1)
padded_more old now next n e f = rw add-one (joined old now next (zeros n) one_zero e f ∙ ap (λ (others : List ℕ). old ++ others) (zeros_more n))

pub target_fits : (at : ℕ) (targets : List ℤ) (i : ℕ) (d : ℤ) → AllByRecursion (TargetFits w32 at) targets → i < length targets → TargetFits w32 at (get_or targets i d)
target_fits at [] i d all lt = absurd (omega arith)
target_fits at (to ∷ targets) zero d all lt = all.0
target_fits at (to ∷ targets) (suc i) d all lt = target_fits at targets i d all.1 (omega arith)

pub pair_fits : (at : ℕ) (least : Option ℤ) (pairs : List (ℤ × ℤ)) (i : ℕ) (d : ℤ × ℤ) → PairsFit at least pairs → i < length pairs → TargetFits w32 at (get_or pairs i d).1
pair_fits at least [] i d all lt = absurd (omega arith)
pair_fits at least (pair ∷ pairs) zero d all lt = all.0.2
pair_fits at least (pair ∷ pairs) (suc i) d all lt = pair_fits at (Some pair.0) pairs i d all.1 (omega arith)

-- the texts of so many values, and that of one more
flat_map_next : {A : Type 0} (f : A → List ℕ) (xs : List A) (i : ℕ) (d : A) → i < length xs → flat_map f (take i xs) ++ f (get_or xs i d) ≡ flat_map f (take (suc i) xs)
flat_map_next f [] i d lt = absurd (omega arith)
flat_map_next f (x ∷ xs) zero d lt = sym (append-nil (f x))
flat_map_next f (x ∷ xs) (suc i) d lt =
    append_assoc (f x) (flat_map f (take i xs)) (f (get_or xs i d)) ∙ ap (λ (more : List ℕ). f x ++ more) (flat_map_next f xs i d (omega arith))

pub one_more : {A : Type 0} (f : A → List ℕ) (xs : List A) (i : ℕ) (d : A) (old mid new : List ℕ) → i < length xs → mid ≡ old ++ flat_map f (take i xs) → new ≡ mid ++ f (get_or xs i d) → new ≡ old ++ flat_map f (take (i + 1) xs)
one_more f xs i d old mid new lt e h =
    rw add-one (joined old mid new (flat_map f (take i xs)) (f (get_or xs i d)) e h ∙ ap (λ (texts : List ℕ). old ++ texts) (flat_map_next f xs i d lt))
