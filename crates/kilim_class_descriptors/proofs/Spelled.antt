-- What is read from the front is what is spelled there, and what is spelled is read again: types of fields.
use Rattle.std.proofs.Common.{◌≡◌, ℕ, zero, suc, ◌+◌, ◌-◌, ◌^◌, ◌<◌, ◌≤◌, Bool, true, false, cond, ◌&&◌, ltb, eqb, List, [], ◌∷◌, ◌++◌, length, Option, Some, None, Result, Ok, Err, refl, sym, ap, subst, ◌∙◌, append_assoc, arith}
use Rattle.std.specs.Prelude.{not, replicate}
use Rattle.std.specs.List.{list_all}
use Rattle.std.proofs.lemmas.Bool.{ltb-true, lt-ltb, eqb-true, and_parts}
use Rattle.std.proofs.lemmas.List.{append-nil, length-append}
use Rattle.kilim_class_descriptors.specs.declared.types.BaseText.{BaseText}
use Rattle.kilim_class_descriptors.specs.declared.types.BaseText.TheVariants.{Bool as Boolean, Byte, Char, Short, Int, Long, Float, Double, Class}
use Rattle.kilim_class_descriptors.specs.declared.types.FieldText.{FieldText}
use Rattle.kilim_class_descriptors.specs.declared.fault.Stop.{Stop}
use Rattle.kilim_class_descriptors.specs.declared.fault.Stop.TheVariants.{Left}
use Rattle.kilim_class_descriptors.specs.Text.{base_text, field_text, BaseFits, FieldFits}
use Rattle.kilim_class_descriptors.specs.Exact.{StopsAt}
use Rattle.kilim_class_descriptors.specs.Reading.{◌>>=◌, Fails, with_unit, split_name, class_of, class_at, base_at, in_dims, field_behind, field_at, all_of, whole_field}

-- what a reader took is spelled so, and where it stopped no more is left than there was
abbrev pub Takes : {A : Type 0} → (A → List ℕ) → (A → Type 0) → List ℕ → Result (A × List ℕ) ℕ → Type 0
Takes text Fits units (Ok x) = (units ≡ text x.0 ++ x.1) × Fits x.0
Takes text Fits units (Err left) = left ≤ length units

-- the same of a reader of all units
abbrev pub TakesAll : {A : Type 0} → (A → List ℕ) → (A → Type 0) → List ℕ → Result A ℕ → Type 0
TakesAll text Fits units (Ok x) = (units ≡ text x) × Fits x
TakesAll text Fits units (Err left) = left ≤ length units

abbrev pub read : {A : Type 0} → A → List ℕ → Result (A × List ℕ) ℕ
read x rest = Ok (x, rest)

pub either : {A : Type 0} (P : A → Type 0) (b : Bool) (x y : A) → (b ≡ true → P x) → (b ≡ false → P y) → P (cond b x y)
either P true x y p q = p refl
either P false x y p q = q refl

not_true : (b : Bool) → not b ≡ true → b ≡ false
not_true true e = absurd cc
not_true false e = refl

empty : (us : List ℕ) → eqb (length us) 0 ≡ true → us ≡ []
empty [] e = refl
empty (u ∷ us) e = absurd (omega (arith, eqb-true (length (u ∷ us)) 0 e))

pub all_takes : {A : Type 0} (text : A → List ℕ) (Fits : A → Type 0) (units : List ℕ) (r : Result (A × List ℕ) ℕ) → Takes text Fits units r → TakesAll text Fits units (r >>= λ x. all_of x)
all_takes text Fits units (Err left) h = h
all_takes text Fits units (Ok x) h =
    either (TakesAll text Fits units) (eqb (length x.1) 0) (Ok x.0) (Err (length x.1))
    (λ e. (h.0 ∙ ap (λ (us : List ℕ). text x.0 ++ us) (empty x.1 e) ∙ append-nil (text x.0), h.1))
    (λ e. omega (arith, ap length h.0, length-append (text x.0) x.1))

-- ---- names

abbrev pub Splits : List ℕ → Option (List ℕ × List ℕ) → Type 0
Splits units None = list_all (λ u. not (eqb u 59)) units ≡ true
Splits units (Some x) = (units ≡ x.0 ++ 59 ∷ x.1) × (list_all (λ u. not (eqb u 59)) x.0 ≡ true)

with_unit_splits : (u : ℕ) (us : List ℕ) (s : Option (List ℕ × List ℕ)) → eqb u 59 ≡ false → Splits us s → Splits (u ∷ us) (with_unit u s)
with_unit_splits u us None e h = rw (e, h) refl
with_unit_splits u us (Some x) e h = (ap (λ (t : List ℕ). u ∷ t) h.0, rw (e, h.1) refl)

pub splits : (us : List ℕ) → Splits us (split_name us)
splits [] = refl
splits (u ∷ us) =
    either (Splits (u ∷ us)) (eqb u 59) (Some ([], us)) (with_unit u (split_name us))
    (λ e. (ap (λ (n : ℕ). n ∷ us) (eqb-true u 59 e), refl))
    (λ e. with_unit_splits u us (split_name us) e (splits us))

split_again : (name rest : List ℕ) → list_all (λ u. not (eqb u 59)) name ≡ true → split_name (name ++ 59 ∷ rest) ≡ Some (name, rest)
split_again [] rest h = refl
split_again (u ∷ us) rest h =
    let t = and_parts (not (eqb u 59)) (list_all (λ u. not (eqb u 59)) us) h in
    rw (not_true (eqb u 59) t.0, split_again us rest t.1) refl

-- ---- bases

abbrev BaseTakes : List ℕ → Result (BaseText × List ℕ) ℕ → Type 0
BaseTakes = Takes base_text BaseFits

class_takes : (units : List ℕ) (s : Option (List ℕ × List ℕ)) → Splits units s → BaseTakes (76 ∷ units) (class_of units s)
class_takes units None h = omega arith
class_takes units (Some ([], rest)) h = omega arith
class_takes units (Some (u ∷ us, rest)) h = (ap (λ (t : List ℕ). 76 ∷ t) (h.0 ∙ sym (append_assoc (u ∷ us) (59 ∷ []) rest)), (refl, h.1))

letter : (b : BaseText) (n u : ℕ) (rest : List ℕ) → base_text b ≡ n ∷ [] → BaseFits b → eqb u n ≡ true → BaseTakes (u ∷ rest) (Ok (b, rest))
letter b n u rest t fits e = (rw (t, eqb-true u n e) refl, fits)

pub base_takes : (units : List ℕ) → BaseTakes units (base_at units)
unfolding base_at class_at
base_takes [] = omega arith
base_takes (u ∷ rest) =
    let P = BaseTakes (u ∷ rest) in
    either P (eqb u 90) _ _ (letter Boolean 90 u rest refl tt) (λ _.
    either P (eqb u 66) _ _ (letter Byte 66 u rest refl tt) (λ _.
    either P (eqb u 67) _ _ (letter Char 67 u rest refl tt) (λ _.
    either P (eqb u 83) _ _ (letter Short 83 u rest refl tt) (λ _.
    either P (eqb u 73) _ _ (letter Int 73 u rest refl tt) (λ _.
    either P (eqb u 74) _ _ (letter Long 74 u rest refl tt) (λ _.
    either P (eqb u 70) _ _ (letter Float 70 u rest refl tt) (λ _.
    either P (eqb u 68) _ _ (letter Double 68 u rest refl tt) (λ _.
    either P (eqb u 76) _ _ (λ e. rw (eqb-true u 76 e) (class_takes rest (split_name rest) (splits rest))) (λ _.
    omega arith)))))))))

pub base_again : (b : BaseText) (rest : List ℕ) → BaseFits b → base_at (base_text b ++ rest) ≡ read b rest
unfolding base_at class_at
base_again Boolean rest fits = refl
base_again Byte rest fits = refl
base_again Char rest fits = refl
base_again Short rest fits = refl
base_again Int rest fits = refl
base_again Long rest fits = refl
base_again Float rest fits = refl
base_again Double rest fits = refl
base_again (Class []) rest fits = absurd (let t = fits.0 in cc)
base_again (Class (u ∷ us)) rest fits = rw (append_assoc us (59 ∷ []) rest, split_again (u ∷ us) rest fits.1) refl

-- ---- dimensions

abbrev pub FieldTakes : List ℕ → Result (FieldText × List ℕ) ℕ → Type 0
FieldTakes = Takes field_text FieldFits

dims_takes : (units : List ℕ) (dims : ℕ) (behind : List ℕ) (r : Result (BaseText × List ℕ) ℕ) → units ≡ replicate dims 91 ++ behind → dims < 2 ^ 8 → BaseTakes behind r → FieldTakes units (in_dims dims r)
dims_takes units dims behind (Ok x) parts lt h = (parts ∙ (ap (λ (t : List ℕ). replicate dims 91 ++ t) h.0 ∙ sym (append_assoc (replicate dims 91) (base_text x.0) x.1)), (lt, h.1))
dims_takes units dims behind (Err left) parts lt h = omega (arith, ap length parts, length-append (replicate dims 91) behind)

pub one_more : (n : ℕ) (rest : List ℕ) → replicate n 91 ++ 91 ∷ rest ≡ replicate (n + 1) 91 ++ rest
one_more zero rest = refl
one_more (suc n) rest =
    let k : suc (n + 1) ≡ suc n + 1 = omega arith in
    ap (λ (t : List ℕ). 91 ∷ t) (one_more n rest) ∙ ap (λ (m : ℕ). replicate m 91 ++ rest) k

behind_takes : (units : List ℕ) (dims : ℕ) (behind : List ℕ) → units ≡ replicate dims 91 ++ behind → dims < 2 ^ 8 → FieldTakes units (field_behind dims behind)
unfolding field_behind
behind_takes units dims [] parts lt = dims_takes units dims [] (base_at []) parts lt (base_takes [])
behind_takes units dims (u ∷ rest) parts lt =
    either (FieldTakes units) (eqb u 91) _ _
    (λ e. either (FieldTakes units) (ltb dims 255) (field_behind (dims + 1) rest) (Err (length (u ∷ rest)))
    (λ f. let few = ltb-true dims 255 f in behind_takes units (dims + 1) rest (parts ∙ (ap (λ (n : ℕ). replicate dims 91 ++ n ∷ rest) (eqb-true u 91 e) ∙ one_more dims rest)) (omega arith))
    (λ f. omega (arith, ap length parts, length-append (replicate dims 91) (u ∷ rest))))
    (λ e. dims_takes units dims (u ∷ rest) (base_at (u ∷ rest)) parts lt (base_takes (u ∷ rest)))

pub field_takes : (units : List ℕ) → FieldTakes units (field_at units)
unfolding field_at
field_takes units = behind_takes units 0 units refl (omega arith)

no_more : (k : ℕ) (b : BaseText) (rest : List ℕ) → field_behind k (base_text b ++ rest) ≡ in_dims k (base_at (base_text b ++ rest))
unfolding field_behind
no_more k Boolean rest = refl
no_more k Byte rest = refl
no_more k Char rest = refl
no_more k Short rest = refl
no_more k Int rest = refl
no_more k Long rest = refl
no_more k Float rest = refl
no_more k Double rest = refl
no_more k (Class name) rest = refl

behind_again : (n k : ℕ) (b : BaseText) (rest : List ℕ) → n + k < 2 ^ 8 → BaseFits b → field_behind k (replicate n 91 ++ (base_text b ++ rest)) ≡ read (record { dims = n + k; base = b }) rest
unfolding field_behind
behind_again zero k b rest lt fits = no_more k b rest ∙ (ap (λ r. in_dims k r) (base_again b rest fits) ∙ ap (λ (d : ℕ). read (record { dims = d; base = b }) rest) (omega arith))
behind_again (suc n) k b rest lt fits =
    let few : ltb k 255 ≡ true = lt-ltb k 255 (omega arith) in
    let again = behind_again n (k + 1) b rest (omega arith) fits in
    rw few (again ∙ ap (λ (d : ℕ). read (record { dims = d; base = b }) rest) (omega arith))

pub field_again : (f : FieldText) (rest : List ℕ) → FieldFits f → field_at (field_text f ++ rest) ≡ read f rest
unfolding field_at
field_again f rest fits =
    rw (append_assoc (replicate f.dims 91) (base_text f.base) rest) (behind_again f.dims 0 f.base rest (omega (arith, fits.0)) fits.1 ∙ ap (λ (d : ℕ). read (record { dims = d; base = f.base }) rest) (omega arith))

-- ---- all units

pub whole_takes : (units : List ℕ) → TakesAll field_text FieldFits units (whole_field units)
unfolding whole_field
whole_takes units = all_takes field_text FieldFits units (field_at units) (field_takes units)

abbrev pub all_read : {A : Type 0} → A → Result A ℕ
all_read x = Ok x

pub whole_again : (f : FieldText) → FieldFits f → whole_field (field_text f) ≡ all_read f
unfolding whole_field
whole_again f fits =
    let h : field_at (field_text f) ≡ read f [] = ap field_at (sym (append-nil (field_text f))) ∙ field_again f [] fits in
    rw h refl

pub record Exactly {A : Type 0} (text : A → List ℕ) (Fits : A → Type 0) (reader : List ℕ → Result A ℕ) : Type 0 where
  pub takes : (units : List ℕ) → TakesAll text Fits units (reader units)
  pub again : (x : A) → Fits x → reader (text x) ≡ all_read x

pub whole : Exactly field_text FieldFits whole_field
whole = record { takes = whole_takes; again = whole_again }

same_read : {A : Type 0} (r : Result A ℕ) (x y : A) → r ≡ all_read x → r ≡ all_read y → x ≡ y
same_read r x y p q = cc

no_stop : {A : Type 0} (r : Result A ℕ) (left : ℕ) (y : A) → r ≡ Err left → r ≡ all_read y → ⊥
no_stop r left y p q = absurd cc

-- what follows for the units of a given text
module _ {A : Type 0} {text : A → List ℕ} {Fits : A → Type 0} {reader : List ℕ → Result A ℕ} (exactly : Exactly text Fits reader) (units given : List ℕ) (same : units ≡ given) where
  pub found : (x : A) → reader units ≡ Ok x → Fits x × (given ≡ text x)
  found x e =
      let t : (units ≡ text x) × Fits x = subst (TakesAll text Fits units) e (exactly.takes units) in
      (t.1, sym same ∙ t.0)

  back : (y : A) → Fits y → given ≡ text y → reader units ≡ all_read y
  back y fits e = ap reader (same ∙ e) ∙ exactly.again y fits

  pub only : (x : A) → reader units ≡ Ok x → (y : A) → Fits y → given ≡ text y → x ≡ y
  only x read y fits e = same_read (reader units) x y read (back y fits e)

  module _ (e : Stop) (left : ℕ) (is : e ≡ Left left) (fails : Fails e (reader units)) where
    stopped : reader units ≡ Err left
    stopped = subst (λ s. Fails s (reader units)) is fails

    pub few : left ≤ length units
    few = subst (TakesAll text Fits units) stopped (exactly.takes units)

    pub never : (y : A) → Fits y → given ≡ text y → ⊥
    never y fits h = no_stop (reader units) left y stopped (back y fits h)

    pub stops : StopsAt given (reader given) (length units - left)
    stops = (left, ap reader (sym same) ∙ stopped, omega (arith, few, ap length same))
