-- Steps of the loops.
use Rattle.std.proofs.Common.{◌≡◌, ℕ, suc, ◌+◌, ◌-◌, ◌<◌, ◌≤◌, List, [], ◌∷◌, ◌++◌, length, Option, Some, None, Result, Ok, Err, refl, sym, ap, ◌∙◌, append_assoc, arith}
use Rattle.std.proofs.lemmas.List.{append-nil}
use Rattle.kilim_class_descriptors.specs.declared.types.FieldText.{FieldText}
use Rattle.kilim_class_descriptors.specs.declared.fault.Stop.{Stop}
use Rattle.kilim_class_descriptors.specs.declared.fault.Stop.TheVariants.{Memory, Left}
use Rattle.kilim_class_descriptors.specs.Reading.{◌>>=◌, Fails, param_at, params_at}

-- a name that was read before, and the one that is still read
abbrev pub name_behind : List ℕ → Option (List ℕ × List ℕ) → Option (List ℕ × List ℕ)
name_behind front None = None
name_behind front (Some x) = Some (front ++ x.0, x.1)

abbrev read_as : List FieldText → List ℕ → Result (List FieldText × List ℕ) ℕ
read_as fs rest = Ok (fs, rest)

-- the parameters that were read before, and those that are still read
abbrev pub with_front : List FieldText → Result (List FieldText × List ℕ) ℕ → Result (List FieldText × List ℕ) ℕ
with_front front read = read >>= λ x. Ok (front ++ x.0, x.1)

regroup : (front : List FieldText) (f : FieldText) (read : Result (List FieldText × List ℕ) ℕ) → with_front front (read >>= λ x. Ok (f ∷ x.0, x.1)) ≡ with_front (front ++ f ∷ []) read
regroup front f (Ok x) = ap (λ (fs : List FieldText). read_as fs x.1) (simp append_assoc)
regroup front f (Err left) = refl

pub goes_on : (front : List FieldText) (count i : ℕ) (units : List ℕ) (f : FieldText) (after : List ℕ) (total : Result (List FieldText × List ℕ) ℕ) → i < count → param_at units ≡ Ok (Some f, after)
    → with_front front (params_at (count - i) units) ≡ total → with_front (front ++ f ∷ []) (params_at (count - (i + 1)) after) ≡ total
unfolding params_at
goes_on front count i units f after total lt h so_far =
    let k : count - i ≡ suc (count - (i + 1)) = omega arith in
    let step : with_front front (params_at (count - i) units) ≡ with_front (front ++ f ∷ []) (params_at (count - (i + 1)) after) = rw (k, h) (regroup front f (params_at (count - (i + 1)) after)) in
    sym step ∙ so_far

pub ends : (front : List FieldText) (count i : ℕ) (units after : List ℕ) (total : Result (List FieldText × List ℕ) ℕ) → i < count → param_at units ≡ Ok (None, after)
    → with_front front (params_at (count - i) units) ≡ total → total ≡ Ok (front, after)
unfolding params_at
ends front count i units after total lt h so_far =
    let k : count - i ≡ suc (count - (i + 1)) = omega arith in
    let step : with_front front (params_at (count - i) units) ≡ Ok (front, after) = rw (k, h) (ap (λ (fs : List FieldText). read_as fs after) (append-nil front)) in
    sym so_far ∙ step

pub stops : (e : Stop) (front : List FieldText) (count i : ℕ) (units : List ℕ) (total : Result (List FieldText × List ℕ) ℕ) → i < count → Fails e (param_at units)
    → with_front front (params_at (count - i) units) ≡ total → Fails e total
unfolding params_at
stops Memory front count i units total lt h so_far = tt
stops (Left left) front count i units total lt h so_far =
    let k : count - i ≡ suc (count - (i + 1)) = omega arith in
    let step : with_front front (params_at (count - i) units) ≡ Err left = rw (k, h) refl in
    sym so_far ∙ step

pub runs_out : (front : List FieldText) (count i : ℕ) (units : List ℕ) (total : Result (List FieldText × List ℕ) ℕ) → count ≤ i
    → with_front front (params_at (count - i) units) ≡ total → total ≡ Err (length units)
unfolding params_at
runs_out front count i units total le so_far =
    let k : count - i ≡ 0 = omega arith in
    let step : with_front front (params_at (count - i) units) ≡ Err (length units) = rw k refl in
    sym so_far ∙ step
