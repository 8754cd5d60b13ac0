-- What is read from the front is what is spelled there, and what is spelled is read again: types of methods.
use Rattle.std.proofs.Common.{◌≡◌, ℕ, zero, suc, ◌<◌, ◌≤◌, false, eqb, List, [], ◌∷◌, ◌++◌, length, Option, Some, None, Result, Ok, Err, refl, sym, ap, ◌∙◌, append_assoc, arith}
use Rattle.std.specs.Prelude.{replicate}
use Rattle.std.specs.List.{flat_map, AllByRecursion}
use Rattle.std.proofs.lemmas.Bool.{eqb-true}
use Rattle.std.proofs.lemmas.List.{append-nil, length-append}
use Rattle.kilim_class_descriptors.specs.declared.types.BaseText.{BaseText}
use Rattle.kilim_class_descriptors.specs.declared.types.BaseText.TheVariants.{Bool as Boolean, Byte, Char, Short, Int, Long, Float, Double, Class}
use Rattle.kilim_class_descriptors.specs.declared.types.FieldText.{FieldText}
use Rattle.kilim_class_descriptors.specs.declared.types.MethodText.{MethodText}
use Rattle.kilim_class_descriptors.specs.Text.{base_text, field_text, result_text, method_text, FieldFits, ResultFits, MethodFits}
use Rattle.kilim_class_descriptors.specs.Reading.{◌>>=◌, field_at, param_at, after_param, params_at, result_at, all_of, whole_method}
use Rattle.kilim_class_descriptors.proofs.Spelled.{Takes, TakesAll, Exactly, read, either, all_takes, FieldTakes, field_takes, field_again, all_read}

-- ---- a parameter, or the end of them

abbrev pub param_text : Option FieldText → List ℕ
param_text None = 41 ∷ []
param_text (Some f) = field_text f

abbrev pub ParamTakes : List ℕ → Result (Option FieldText × List ℕ) ℕ → Type 0
ParamTakes = Takes param_text ResultFits

abbrev pub ResultTakes : List ℕ → Result (Option FieldText × List ℕ) ℕ → Type 0
ResultTakes = Takes result_text ResultFits

some_takes : (text : Option FieldText → List ℕ) (units : List ℕ) (r : Result (FieldText × List ℕ) ℕ) → ((f : FieldText) → text (Some f) ≡ field_text f) → FieldTakes units r → Takes text ResultFits units (r >>= λ f. Ok (Some f.0, f.1))
some_takes text units (Ok x) same h = (h.0 ∙ ap (λ (t : List ℕ). t ++ x.1) (sym (same x.0)), h.1)
some_takes text units (Err left) same h = h

pub param_takes : (units : List ℕ) → ParamTakes units (param_at units)
unfolding param_at
param_takes [] = omega arith
param_takes (u ∷ rest) =
    either (ParamTakes (u ∷ rest)) (eqb u 41) _ _
    (λ e. (ap (λ (n : ℕ). n ∷ rest) (eqb-true u 41 e), tt))
    (λ e. some_takes param_text (u ∷ rest) (field_at (u ∷ rest)) (λ f. refl) (field_takes (u ∷ rest)))

pub result_takes : (units : List ℕ) → ResultTakes units (result_at units)
unfolding result_at
result_takes [] = omega arith
result_takes (u ∷ rest) =
    either (ResultTakes (u ∷ rest)) (eqb u 86) _ _
    (λ e. (ap (λ (n : ℕ). n ∷ rest) (eqb-true u 86 e), tt))
    (λ e. some_takes result_text (u ∷ rest) (field_at (u ∷ rest)) (λ f. refl) (field_takes (u ∷ rest)))

-- the text of a type starts with none of the signs that stand for something else
pub record Starts (text : List ℕ) : Type 0 where
  pub first : ℕ
  pub others : List ℕ
  pub parts : text ≡ first ∷ others
  pub no_end : eqb first 41 ≡ false
  pub no_void : eqb first 86 ≡ false

pub starts : (dims : ℕ) (b : BaseText) → Starts (replicate dims 91 ++ base_text b)
starts (suc n) b = record { first = 91; others = replicate n 91 ++ base_text b; parts = refl; no_end = refl; no_void = refl }
starts zero Boolean = record { first = 90; others = []; parts = refl; no_end = refl; no_void = refl }
starts zero Byte = record { first = 66; others = []; parts = refl; no_end = refl; no_void = refl }
starts zero Char = record { first = 67; others = []; parts = refl; no_end = refl; no_void = refl }
starts zero Short = record { first = 83; others = []; parts = refl; no_end = refl; no_void = refl }
starts zero Int = record { first = 73; others = []; parts = refl; no_end = refl; no_void = refl }
starts zero Long = record { first = 74; others = []; parts = refl; no_end = refl; no_void = refl }
starts zero Float = record { first = 70; others = []; parts = refl; no_end = refl; no_void = refl }
starts zero Double = record { first = 68; others = []; parts = refl; no_end = refl; no_void = refl }
starts zero (Class name) = record { first = 76; others = name ++ 59 ∷ []; parts = refl; no_end = refl; no_void = refl }

pub some_param : (f : FieldText) (rest : List ℕ) → FieldFits f → param_at (field_text f ++ rest) ≡ read (Some f) rest
unfolding param_at
some_param f rest fits =
    let s = starts f.dims f.base in
    let parts : field_text f ++ rest ≡ s.first ∷ (s.others ++ rest) = ap (λ (t : List ℕ). t ++ rest) s.parts in
    let one : field_at (s.first ∷ (s.others ++ rest)) ≡ read f rest = ap field_at (sym parts) ∙ field_again f rest fits in
    let step : param_at (s.first ∷ (s.others ++ rest)) ≡ read (Some f) rest = rw (s.no_end, one) refl in
    ap param_at parts ∙ step

pub some_result : (f : FieldText) (rest : List ℕ) → FieldFits f → result_at (field_text f ++ rest) ≡ read (Some f) rest
unfolding result_at
some_result f rest fits =
    let s = starts f.dims f.base in
    let parts : field_text f ++ rest ≡ s.first ∷ (s.others ++ rest) = ap (λ (t : List ℕ). t ++ rest) s.parts in
    let one : field_at (s.first ∷ (s.others ++ rest)) ≡ read f rest = ap field_at (sym parts) ∙ field_again f rest fits in
    let step : result_at (s.first ∷ (s.others ++ rest)) ≡ read (Some f) rest = rw (s.no_void, one) refl in
    ap result_at parts ∙ step

pub result_again : (r : Option FieldText) → ResultFits r → result_at (result_text r) ≡ read r []
unfolding result_at
result_again None fits = refl
result_again (Some f) fits = ap result_at (sym (append-nil (field_text f))) ∙ some_result f [] fits

-- ---- parameters

abbrev pub params_text : List FieldText → List ℕ
params_text fs = flat_map field_text fs ++ 41 ∷ []

abbrev pub ParamsTakes : List ℕ → Result (List FieldText × List ℕ) ℕ → Type 0
ParamsTakes = Takes params_text (AllByRecursion FieldFits)

pub regroup : (a b c d : List ℕ) → a ++ ((b ++ c) ++ d) ≡ ((a ++ b) ++ c) ++ d
regroup a b c d = simp append_assoc

more_takes : (units : List ℕ) (f : FieldText) (rest : List ℕ) (r : Result (List FieldText × List ℕ) ℕ) → units ≡ field_text f ++ rest → FieldFits f → ParamsTakes rest r → ParamsTakes units (r >>= λ x. Ok (f ∷ x.0, x.1))
more_takes units f rest (Ok x) parts fits h = (parts ∙ (ap (λ (t : List ℕ). field_text f ++ t) h.0 ∙ regroup (field_text f) (flat_map field_text x.0) (41 ∷ []) x.1), (fits, h.1))
more_takes units f rest (Err left) parts fits h = omega (arith, h, ap length parts, length-append (field_text f) rest)

after_takes : (units : List ℕ) (p : Result (Option FieldText × List ℕ) ℕ) (others : List ℕ → Result (List FieldText × List ℕ) ℕ) → ((rest : List ℕ) → ParamsTakes rest (others rest)) → ParamTakes units p → ParamsTakes units (p >>= λ x. after_param others x)
after_takes units (Err left) others each h = h
after_takes units (Ok (None, rest)) others each h = (h.0, tt)
after_takes units (Ok (Some f, rest)) others each h = more_takes units f rest (others rest) h.0 h.1 (each rest)

pub params_takes : (n : ℕ) (units : List ℕ) → ParamsTakes units (params_at n units)
unfolding params_at
params_takes zero units = omega arith
params_takes (suc n) units = after_takes units (param_at units) (params_at n) (λ rest. params_takes n rest) (param_takes units)

pub params_again : (n : ℕ) (fs : List FieldText) (rest : List ℕ) → length fs < n → AllByRecursion FieldFits fs → params_at n (params_text fs ++ rest) ≡ read fs rest
unfolding params_at param_at
params_again zero fs rest lt fits = absurd (omega (arith, lt))
params_again (suc n) [] rest lt fits = refl
params_again (suc n) (f ∷ fs) rest lt fits =
    let parts : params_text (f ∷ fs) ++ rest ≡ field_text f ++ (params_text fs ++ rest) = sym (regroup (field_text f) (flat_map field_text fs) (41 ∷ []) rest) in
    let one : param_at (params_text (f ∷ fs) ++ rest) ≡ read (Some f) (params_text fs ++ rest) = ap param_at parts ∙ some_param f (params_text fs ++ rest) fits.0 in
    ap (λ p. p >>= λ x. after_param (params_at n) x) one ∙ ap (λ r. r >>= λ x. read (f ∷ x.0) x.1) (params_again n fs rest (omega (arith, lt)) fits.1)

-- each parameter takes a unit
pub takes_units : (fs : List FieldText) → length fs ≤ length (flat_map field_text fs)
takes_units [] = omega arith
takes_units (f ∷ fs) = omega (arith, takes_units fs, length-append (field_text f) (flat_map field_text fs), ap length (starts f.dims f.base).parts)

-- ---- all units

behind_params : (units : List ℕ) (ps : List FieldText) (rest : List ℕ) (r : Result (Option FieldText × List ℕ) ℕ) → units ≡ 40 ∷ (params_text ps ++ rest) → AllByRecursion FieldFits ps → ResultTakes rest r → TakesAll method_text MethodFits units (r >>= λ x. all_of (record { params = ps; result = x.0 }, x.1))
behind_params units ps rest (Ok x) parts fits h =
    let front = flat_map field_text ps in
    let m : MethodText = record { params = ps; result = x.0 } in
    let again : (front ++ 41 ∷ []) ++ (result_text x.0 ++ x.1) ≡ (front ++ 41 ∷ result_text x.0) ++ x.1 = append_assoc front (41 ∷ []) (result_text x.0 ++ x.1) ∙ sym (append_assoc front (41 ∷ result_text x.0) x.1) in
    all_takes method_text MethodFits units (Ok (m, x.1))
    (parts ∙ ap (λ (t : List ℕ). 40 ∷ t) (ap (λ (t : List ℕ). params_text ps ++ t) h.0 ∙ again), (fits, h.1))
behind_params units ps rest (Err left) parts fits h = omega (arith, h, ap length parts, length-append (params_text ps) rest)

all_parts : (units : List ℕ) (r : Result (List FieldText × List ℕ) ℕ) → ParamsTakes units r → TakesAll method_text MethodFits (40 ∷ units) (r >>= λ ps. result_at ps.1 >>= λ x. all_of (record { params = ps.0; result = x.0 }, x.1))
all_parts units (Ok x) h = behind_params (40 ∷ units) x.0 x.1 (result_at x.1) (ap (λ (t : List ℕ). 40 ∷ t) h.0) h.1 (result_takes x.1)
all_parts units (Err left) h = omega (arith, h)

pub method_takes : (units : List ℕ) → TakesAll method_text MethodFits units (whole_method units)
unfolding whole_method
method_takes [] = omega arith
method_takes (u ∷ rest) =
    either (TakesAll method_text MethodFits (u ∷ rest)) (eqb u 40) _ _
    (λ e. rw (eqb-true u 40 e) (all_parts rest (params_at (length rest) rest) (params_takes (length rest) rest)))
    (λ e. omega arith)

pub method_again : (m : MethodText) → MethodFits m → whole_method (method_text m) ≡ all_read m
unfolding whole_method
method_again m fits =
    let front = flat_map field_text m.params in
    let rest = front ++ 41 ∷ result_text m.result in
    let parts : rest ≡ params_text m.params ++ result_text m.result = sym (append_assoc front (41 ∷ []) (result_text m.result)) in
    let long : length m.params < length rest = omega (arith, takes_units m.params, length-append front (41 ∷ result_text m.result)) in
    let one : params_at (length rest) rest ≡ read m.params (result_text m.result) = ap (params_at (length rest)) parts ∙ params_again (length rest) m.params (result_text m.result) long fits.0 in
    rw (one, result_again m.result fits.1) refl

pub whole : Exactly method_text MethodFits whole_method
whole = record { takes = method_takes; again = method_again }
