-- A text that reads as a descriptor is the text of what is read. (kilim_class_descriptors proves more, with no law to call.)
use Rattle.std.proofs.Common.{◌≡◌, ℕ, zero, suc, ◌+◌, Bool, true, false, cond, ltb, eqb, List, [], ◌∷◌, ◌++◌, length, Option, Some, None, Result, Ok, Err, refl, sym, ap, ◌∙◌, append_assoc, append-nil, arith}
use Rattle.std.specs.Prelude.{replicate}
use Rattle.std.specs.List.{flat_map}
use Rattle.std.proofs.lemmas.Bool.{eqb-true}
use Rattle.std.proofs.lemmas.Option.{same_Some, none-some}
use Rattle.kilim_class_descriptors.specs.declared.types.BaseText.{BaseText}
use Rattle.kilim_class_descriptors.specs.declared.types.BaseText.TheVariants.{Bool as Boolean, Byte, Char, Short, Int, Long, Float, Double}
use Rattle.kilim_class_descriptors.specs.declared.types.FieldText.{FieldText}
use Rattle.kilim_class_descriptors.specs.declared.types.MethodText.{MethodText}
use Rattle.kilim_class_descriptors.specs.Text.{base_text, result_text, field_text as text_of_field, method_text as text_of_method}
use Rattle.kilim_class_descriptors.specs.Reading.{◌>>=◌, after_param, all_of, base_at, class_at, class_of, field_at, field_behind, in_dims, param_at, params_at, result_at, split_name, whole_field, whole_method, with_unit}
use Rattle.kilim_link_spec.specs.Types.{field_text, method_text}
use Rattle.kilim_class_descriptors.specs.Exact.{spelled_by}

-- what was taken from the front is spelled there
abbrev Took : {A : Type 0} → (A → List ℕ) → List ℕ → Result (A × List ℕ) ℕ → Type 0
Took text units (Ok x) = units ≡ text x.0 ++ x.1
Took text units (Err left) = Unit {0}

-- all of the units are spelled so
abbrev TookAll : {A : Type 0} → (A → List ℕ) → List ℕ → Result A ℕ → Type 0
TookAll text units (Ok x) = units ≡ text x
TookAll text units (Err left) = Unit {0}

either : {A : Type 0} (P : A → Type 0) (b : Bool) (x y : A) → (b ≡ true → P x) → (b ≡ false → P y) → P (cond b x y)
either P true x y p q = p refl
either P false x y p q = q refl

empty : (us : List ℕ) → eqb (length us) 0 ≡ true → us ≡ []
empty [] e = refl
empty (u ∷ us) e = absurd (omega (arith, eqb-true (length (u ∷ us)) 0 e))

took_all : {A : Type 0} (text : A → List ℕ) (units : List ℕ) (r : Result (A × List ℕ) ℕ) → Took text units r → TookAll text units (r >>= λ x. all_of x)
took_all text units (Err left) h = tt
took_all text units (Ok x) h =
    either (TookAll text units) (eqb (length x.1) 0) (Ok x.0) (Err (length x.1))
    (λ e. h ∙ (ap (λ (us : List ℕ). text x.0 ++ us) (empty x.1 e) ∙ append-nil (text x.0)))
    (λ e. tt)

-- ---- bases

abbrev Splits : List ℕ → Option (List ℕ × List ℕ) → Type 0
Splits units None = Unit {0}
Splits units (Some x) = units ≡ x.0 ++ 59 ∷ x.1

with_unit_splits : (u : ℕ) (us : List ℕ) (s : Option (List ℕ × List ℕ)) → Splits us s → Splits (u ∷ us) (with_unit u s)
with_unit_splits u us None h = tt
with_unit_splits u us (Some x) h = ap (λ (t : List ℕ). u ∷ t) h

splits : (us : List ℕ) → Splits us (split_name us)
splits [] = tt
splits (u ∷ us) =
    either (Splits (u ∷ us)) (eqb u 59) (Some ([], us)) (with_unit u (split_name us))
    (λ e. ap (λ (n : ℕ). n ∷ us) (eqb-true u 59 e))
    (λ e. with_unit_splits u us (split_name us) (splits us))

class_takes : (units : List ℕ) (s : Option (List ℕ × List ℕ)) → Splits units s → Took base_text (76 ∷ units) (class_of units s)
class_takes units None h = tt
class_takes units (Some ([], rest)) h = tt
class_takes units (Some (u ∷ us, rest)) h = ap (λ (t : List ℕ). 76 ∷ t) (h ∙ sym (append_assoc (u ∷ us) (59 ∷ []) rest))

letter : (b : BaseText) (n u : ℕ) (rest : List ℕ) → base_text b ≡ n ∷ [] → eqb u n ≡ true → Took base_text (u ∷ rest) (Ok (b, rest))
letter b n u rest t e = rw (t, eqb-true u n e) refl

base_takes : (units : List ℕ) → Took base_text units (base_at units)
unfolding base_at class_at
base_takes [] = tt
base_takes (u ∷ rest) =
    let P = Took base_text (u ∷ rest) in
    either P (eqb u 90) _ _ (letter Boolean 90 u rest refl) (λ _.
    either P (eqb u 66) _ _ (letter Byte 66 u rest refl) (λ _.
    either P (eqb u 67) _ _ (letter Char 67 u rest refl) (λ _.
    either P (eqb u 83) _ _ (letter Short 83 u rest refl) (λ _.
    either P (eqb u 73) _ _ (letter Int 73 u rest refl) (λ _.
    either P (eqb u 74) _ _ (letter Long 74 u rest refl) (λ _.
    either P (eqb u 70) _ _ (letter Float 70 u rest refl) (λ _.
    either P (eqb u 68) _ _ (letter Double 68 u rest refl) (λ _.
    either P (eqb u 76) _ _ (λ e. rw (eqb-true u 76 e) (class_takes rest (split_name rest) (splits rest))) (λ _. tt)))))))))

-- ---- dimensions

dims_takes : (units : List ℕ) (dims : ℕ) (behind : List ℕ) (r : Result (BaseText × List ℕ) ℕ) → units ≡ replicate dims 91 ++ behind → Took base_text behind r → Took text_of_field units (in_dims dims r)
dims_takes units dims behind (Ok x) parts h = parts ∙ (ap (λ (t : List ℕ). replicate dims 91 ++ t) h ∙ sym (append_assoc (replicate dims 91) (base_text x.0) x.1))
dims_takes units dims behind (Err left) parts h = tt

one_more : (n : ℕ) (rest : List ℕ) → replicate n 91 ++ 91 ∷ rest ≡ replicate (n + 1) 91 ++ rest
one_more zero rest = refl
one_more (suc n) rest =
    let k : suc (n + 1) ≡ suc n + 1 = omega arith in
    ap (λ (t : List ℕ). 91 ∷ t) (one_more n rest) ∙ ap (λ (m : ℕ). replicate m 91 ++ rest) k

behind_takes : (units : List ℕ) (dims : ℕ) (behind : List ℕ) → units ≡ replicate dims 91 ++ behind → Took text_of_field units (field_behind dims behind)
unfolding field_behind
behind_takes units dims [] parts = dims_takes units dims [] (base_at []) parts (base_takes [])
behind_takes units dims (u ∷ rest) parts =
    either (Took text_of_field units) (eqb u 91) _ _
    (λ e. either (Took text_of_field units) (ltb dims 255) (field_behind (dims + 1) rest) (Err (length (u ∷ rest)))
    (λ f. behind_takes units (dims + 1) rest (parts ∙ (ap (λ (n : ℕ). replicate dims 91 ++ n ∷ rest) (eqb-true u 91 e) ∙ one_more dims rest)))
    (λ f. tt))
    (λ e. dims_takes units dims (u ∷ rest) (base_at (u ∷ rest)) parts (base_takes (u ∷ rest)))

field_takes : (units : List ℕ) → Took text_of_field units (field_at units)
unfolding field_at
field_takes units = behind_takes units 0 units refl

-- ---- parameters and results

abbrev param_text : Option FieldText → List ℕ
param_text None = 41 ∷ []
param_text (Some f) = text_of_field f

some_takes : (text : Option FieldText → List ℕ) (units : List ℕ) (r : Result (FieldText × List ℕ) ℕ) → ((f : FieldText) → text (Some f) ≡ text_of_field f) → Took text_of_field units r → Took text units (r >>= λ f. Ok (Some f.0, f.1))
some_takes text units (Ok x) same h = h ∙ ap (λ (t : List ℕ). t ++ x.1) (sym (same x.0))
some_takes text units (Err left) same h = tt

param_takes : (units : List ℕ) → Took param_text units (param_at units)
unfolding param_at
param_takes [] = tt
param_takes (u ∷ rest) =
    either (Took param_text (u ∷ rest)) (eqb u 41) _ _
    (λ e. ap (λ (n : ℕ). n ∷ rest) (eqb-true u 41 e))
    (λ e. some_takes param_text (u ∷ rest) (field_at (u ∷ rest)) (λ f. refl) (field_takes (u ∷ rest)))

result_takes : (units : List ℕ) → Took result_text units (result_at units)
unfolding result_at
result_takes [] = tt
result_takes (u ∷ rest) =
    either (Took result_text (u ∷ rest)) (eqb u 86) _ _
    (λ e. ap (λ (n : ℕ). n ∷ rest) (eqb-true u 86 e))
    (λ e. some_takes result_text (u ∷ rest) (field_at (u ∷ rest)) (λ f. refl) (field_takes (u ∷ rest)))

abbrev params_text : List FieldText → List ℕ
params_text fs = flat_map text_of_field fs ++ 41 ∷ []

regroup : (a b c d : List ℕ) → a ++ ((b ++ c) ++ d) ≡ ((a ++ b) ++ c) ++ d
regroup a b c d = simp append_assoc

more_takes : (units : List ℕ) (f : FieldText) (rest : List ℕ) (r : Result (List FieldText × List ℕ) ℕ) → units ≡ text_of_field f ++ rest → Took params_text rest r → Took params_text units (r >>= λ x. Ok (f ∷ x.0, x.1))
more_takes units f rest (Ok x) parts h = parts ∙ (ap (λ (t : List ℕ). text_of_field f ++ t) h ∙ regroup (text_of_field f) (flat_map text_of_field x.0) (41 ∷ []) x.1)
more_takes units f rest (Err left) parts h = tt

after_takes : (units : List ℕ) (p : Result (Option FieldText × List ℕ) ℕ) (others : List ℕ → Result (List FieldText × List ℕ) ℕ) → ((rest : List ℕ) → Took params_text rest (others rest)) → Took param_text units p → Took params_text units (p >>= λ x. after_param others x)
after_takes units (Err left) others each h = tt
after_takes units (Ok (None, rest)) others each h = h
after_takes units (Ok (Some f, rest)) others each h = more_takes units f rest (others rest) h (each rest)

params_takes : (n : ℕ) (units : List ℕ) → Took params_text units (params_at n units)
unfolding params_at
params_takes zero units = tt
params_takes (suc n) units = after_takes units (param_at units) (params_at n) (λ rest. params_takes n rest) (param_takes units)

behind_params : (units : List ℕ) (ps : List FieldText) (rest : List ℕ) (r : Result (Option FieldText × List ℕ) ℕ) → units ≡ 40 ∷ (params_text ps ++ rest) → Took result_text rest r → TookAll text_of_method units (r >>= λ x. all_of (record { params = ps; result = x.0 }, x.1))
behind_params units ps rest (Ok x) parts h =
    let front = flat_map text_of_field ps in
    let m : MethodText = record { params = ps; result = x.0 } in
    let again : (front ++ 41 ∷ []) ++ (result_text x.0 ++ x.1) ≡ (front ++ 41 ∷ result_text x.0) ++ x.1 = append_assoc front (41 ∷ []) (result_text x.0 ++ x.1) ∙ sym (append_assoc front (41 ∷ result_text x.0) x.1) in
    took_all text_of_method units (Ok (m, x.1)) (parts ∙ ap (λ (t : List ℕ). 40 ∷ t) (ap (λ (t : List ℕ). params_text ps ++ t) h ∙ again))
behind_params units ps rest (Err left) parts h = tt

all_parts : (units : List ℕ) (r : Result (List FieldText × List ℕ) ℕ) → Took params_text units r → TookAll text_of_method (40 ∷ units) (r >>= λ ps. result_at ps.1 >>= λ x. all_of (record { params = ps.0; result = x.0 }, x.1))
all_parts units (Ok x) h = behind_params (40 ∷ units) x.0 x.1 (result_at x.1) (ap (λ (t : List ℕ). 40 ∷ t) h) (result_takes x.1)
all_parts units (Err left) h = tt

method_takes : (units : List ℕ) → TookAll text_of_method units (whole_method units)
unfolding whole_method
method_takes [] = tt
method_takes (u ∷ rest) =
    either (TookAll text_of_method (u ∷ rest)) (eqb u 40) _ _
    (λ e. rw (eqb-true u 40 e) (all_parts rest (params_at (length rest) rest) (params_takes (length rest) rest)))
    (λ e. tt)

whole_takes : (units : List ℕ) → TookAll text_of_field units (whole_field units)
unfolding whole_field
whole_takes units = took_all text_of_field units (field_at units) (field_takes units)

-- ---- what is read

read_by : {A : Type 0} (text : A → List ℕ) (units : List ℕ) (r : Result A ℕ) (x : A) → TookAll text units r → spelled_by r ≡ Some x → units ≡ text x
read_by text units (Ok y) x h e = h ∙ ap text (same_Some y x e)
read_by text units (Err left) x h e = absurd (none-some x e)

pub field_text_is : (units : List ℕ) (f : FieldText) → field_text units ≡ Some f → units ≡ text_of_field f
field_text_is units f e = read_by text_of_field units (whole_field units) f (whole_takes units) e

pub method_text_is : (units : List ℕ) (m : MethodText) → method_text units ≡ Some m → units ≡ text_of_method m
method_text_is units m e = read_by text_of_method units (whole_method units) m (method_takes units) e
