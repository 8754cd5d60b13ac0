-- Where reading stops, one goes on from what was read, and none from that and the unit behind it: types of fields.
use Rattle.std.proofs.Common.{◌≡◌, ℕ, zero, suc, ◌+◌, ◌-◌, ◌^◌, ◌<◌, true, false, ltb, eqb, List, [], ◌∷◌, ◌++◌, length, take, Option, Some, None, Result, Ok, Err, refl, sym, ap, subst, ◌∙◌, append_assoc, arith}
use Rattle.std.specs.Prelude.{not, replicate}
use Rattle.std.specs.List.{list_all}
use Rattle.std.proofs.lemmas.Bool.{ltb-true, lt-ltb, eqb-true}
use Rattle.std.proofs.lemmas.List.{append-nil, length-append}
use Rattle.std.proofs.Math.Seq.{take-append_seam, take-append-add}
use Rattle.kilim_class_descriptors.specs.declared.types.BaseText.{BaseText}
use Rattle.kilim_class_descriptors.specs.declared.types.BaseText.TheVariants.{Int, Class}
use Rattle.kilim_class_descriptors.specs.declared.types.FieldText.{FieldText}
use Rattle.kilim_class_descriptors.specs.declared.fault.Stop.{Stop}
use Rattle.kilim_class_descriptors.specs.declared.fault.Stop.TheVariants.{Left}
use Rattle.kilim_class_descriptors.specs.Text.{base_text, field_text, BaseFits, FieldFits}
use Rattle.kilim_class_descriptors.specs.Exact.{IsFirstPlace}
use Rattle.kilim_class_descriptors.specs.Reading.{◌>>=◌, Fails, split_name, class_of, class_at, base_at, in_dims, field_behind, field_at, all_of, whole_field}
use Rattle.kilim_class_descriptors.proofs.Spelled.{read, either, one_more, Splits, splits, FieldTakes, field_takes, field_again, Exactly, never}

-- nothing is behind the front, or No holds of whatever begins with it and the unit behind it
abbrev pub Behind : (List ℕ → Type 0) → List ℕ → List ℕ → Type 0
Behind No front [] = Unit {0}
Behind No front (u ∷ more) = (other : List ℕ) → No (front ++ u ∷ other)

-- a text goes on from the front, and none from the unit behind it
pub record Place {A : Type 0} (text : A → List ℕ) (Fits : A → Type 0) (No : List ℕ → Type 0) (units : List ℕ) (left : ℕ) : Type 0 where
  pub front : List ℕ
  pub behind : List ℕ
  pub parts : units ≡ front ++ behind
  pub long : length behind ≡ left
  pub begun : A
  pub fits : Fits begun
  pub rest : List ℕ
  pub goes : text begun ≡ front ++ rest
  pub stuck : Behind No front behind

-- where it stopped is such a place
abbrev pub Halts : {A X : Type 0} → (A → List ℕ) → (A → Type 0) → (List ℕ → Type 0) → List ℕ → Result X ℕ → Type 0
Halts text Fits No units (Ok x) = Unit {0}
Halts text Fits No units (Err left) = Place text Fits No units left

abbrev pub IsStop : {X : Type 0} → Result X ℕ → Type 0
IsStop (Ok x) = ⊥
IsStop (Err left) = Unit {0}

-- they are the text of none
abbrev pub NoText : {A : Type 0} → (A → List ℕ) → (A → Type 0) → List ℕ → Type 0
NoText {A} text Fits us = (x : A) → Fits x → text x ≡ us → ⊥

-- us begins with the first of the units
abbrev pub Begins : List ℕ → List ℕ → Type 0
Begins [] us = ⊥
Begins (u ∷ rest) us = (t : List ℕ) × (us ≡ u ∷ t)

pub same_head : (a b : ℕ) (xs ys : List ℕ) → a ∷ xs ≡ b ∷ ys → a ≡ b
same_head a b xs ys e = cc

begins : (units front : List ℕ) (u : ℕ) (more other : List ℕ) → units ≡ front ++ u ∷ more → Begins units (front ++ u ∷ other)
begins [] [] u more other e = absurd cc
begins [] (f ∷ fs) u more other e = absurd cc
begins (v ∷ vs) [] u more other e = (other, ap (λ (n : ℕ). n ∷ other) (same_head u v more vs (sym e)))
begins (v ∷ vs) (f ∷ fs) u more other e = (fs ++ u ∷ other, ap (λ (n : ℕ). n ∷ (fs ++ u ∷ other)) (same_head f v (fs ++ u ∷ more) vs (sym e)))

regroup : (a b c d : List ℕ) → a ++ ((b ++ c) ++ d) ≡ (a ++ b) ++ (c ++ d)
regroup a b c d = simp append_assoc

carried : (No Not : List ℕ → Type 0) (pre units : List ℕ) → ((us : List ℕ) → Begins units us → No us → Not (pre ++ us)) → (front behind : List ℕ) → units ≡ front ++ behind → Behind No front behind → Behind Not (pre ++ front) behind
carried No Not pre units on front [] parts h = tt
carried No Not pre units on front (u ∷ more) parts h = λ other. subst Not (sym (append_assoc pre front (u ∷ other))) (on (front ++ u ∷ other) (begins units front u more other parts) (h other))

-- a place of a part is one of the whole
module _ {A B : Type 0} {inner : A → List ℕ} {Inner : A → Type 0} {No : List ℕ → Type 0} {text : B → List ℕ} {Fits : B → Type 0} {Not : List ℕ → Type 0} (pre units : List ℕ) (on : (us : List ℕ) → Begins units us → No us → Not (pre ++ us)) where
  pub carry : (left : ℕ) (all : List ℕ) → all ≡ pre ++ units → (wrap : A → B) → ((x : A) → Inner x → Fits (wrap x)) → (close : A → List ℕ) → ((x : A) → text (wrap x) ≡ pre ++ (inner x ++ close x)) → Place inner Inner No units left → Place text Fits Not all left
  carry left all parts wrap fit close spelled p = record {
    front = pre ++ p.front;
    behind = p.behind;
    parts = parts ∙ (ap (λ (t : List ℕ). pre ++ t) p.parts ∙ sym (append_assoc pre p.front p.behind));
    long = p.long;
    begun = wrap p.begun;
    fits = fit p.begun p.fits;
    rest = p.rest ++ close p.begun;
    goes = spelled p.begun ∙ (ap (λ (t : List ℕ). pre ++ (t ++ close p.begun)) p.goes ∙ regroup pre p.front p.rest (close p.begun));
    stuck = carried No Not pre units on p.front p.behind p.parts p.stuck;
  }

-- ---- bases

abbrev NoBase : List ℕ → Type 0
NoBase us = IsStop (base_at us)

abbrev BaseHalts : List ℕ → Result (BaseText × List ℕ) ℕ → Type 0
BaseHalts = Halts base_text BaseFits NoBase

some_class : (units : List ℕ) → list_all (λ u. not (eqb u 59)) units ≡ true → Place base_text BaseFits NoBase (76 ∷ units) 0
some_class [] h = record { front = 76 ∷ []; behind = []; parts = refl; long = refl; begun = Class (65 ∷ []); fits = (refl, refl); rest = 65 ∷ 59 ∷ []; goes = refl; stuck = tt }
some_class (u ∷ us) h = record { front = 76 ∷ u ∷ us; behind = []; parts = sym (append-nil (76 ∷ u ∷ us)); long = refl; begun = Class (u ∷ us); fits = (refl, h); rest = 59 ∷ []; goes = refl; stuck = tt }

class_halts : (units : List ℕ) (s : Option (List ℕ × List ℕ)) → Splits units s → BaseHalts (76 ∷ units) (class_of units s)
unfolding base_at class_at
class_halts units None h = some_class units h
class_halts units (Some ([], rest)) h = record { front = 76 ∷ []; behind = 59 ∷ rest; parts = ap (λ (t : List ℕ). 76 ∷ t) h.0; long = ap length (sym h.0); begun = Class (65 ∷ []); fits = (refl, refl); rest = 65 ∷ 59 ∷ []; goes = refl; stuck = λ other. tt }
class_halts units (Some (u ∷ us, rest)) h = tt

base_halts : (units : List ℕ) → BaseHalts units (base_at units)
unfolding base_at class_at
base_halts [] = record { front = []; behind = []; parts = refl; long = refl; begun = Int; fits = tt; rest = 73 ∷ []; goes = refl; stuck = tt }
base_halts (u ∷ rest) =
    let P = BaseHalts (u ∷ rest) in
    either P (eqb u 90) _ _ (λ _. tt) (λ a.
    either P (eqb u 66) _ _ (λ _. tt) (λ b.
    either P (eqb u 67) _ _ (λ _. tt) (λ c.
    either P (eqb u 83) _ _ (λ _. tt) (λ d.
    either P (eqb u 73) _ _ (λ _. tt) (λ e.
    either P (eqb u 74) _ _ (λ _. tt) (λ f.
    either P (eqb u 70) _ _ (λ _. tt) (λ g.
    either P (eqb u 68) _ _ (λ _. tt) (λ h.
    either P (eqb u 76) _ _ (λ l. rw (eqb-true u 76 l) (class_halts rest (split_name rest) (splits rest))) (λ i.
    record { front = []; behind = u ∷ rest; parts = refl; long = refl; begun = Int; fits = tt; rest = 73 ∷ []; goes = refl; stuck = λ other. rw (a, b, c, d, e, f, g, h, i) tt })))))))))

-- ---- dimensions

abbrev pub NoField : List ℕ → Type 0
NoField us = IsStop (field_at us)

abbrev pub FieldHalts : List ℕ → Result (FieldText × List ℕ) ℕ → Type 0
FieldHalts = Halts field_text FieldFits NoField

dims_read : (n k : ℕ) (us : List ℕ) → n + k < 2 ^ 8 → field_behind k (replicate n 91 ++ us) ≡ field_behind (n + k) us
unfolding field_behind
dims_read zero k us lt = ap (λ (d : ℕ). field_behind d us) (omega arith)
dims_read (suc n) k us lt =
    let few : ltb k 255 ≡ true = lt-ltb k 255 (omega arith) in
    rw few (dims_read n (k + 1) us (omega arith) ∙ ap (λ (d : ℕ). field_behind d us) (omega arith))

in_dims_stops : (dims : ℕ) (r : Result (BaseText × List ℕ) ℕ) → IsStop r → IsStop (in_dims dims r)
in_dims_stops dims (Ok x) h = h
in_dims_stops dims (Err left) h = tt

no_dim : (dims u : ℕ) (rest us : List ℕ) → dims < 2 ^ 8 → eqb u 91 ≡ false → Begins (u ∷ rest) us → NoBase us → NoField (replicate dims 91 ++ us)
unfolding field_at field_behind
no_dim dims u rest us lt e b h =
    let there : field_at (replicate dims 91 ++ u ∷ b.0) ≡ field_behind (dims + 0) (u ∷ b.0) = dims_read dims 0 (u ∷ b.0) (omega (arith, lt)) in
    let here : field_behind (dims + 0) (u ∷ b.0) ≡ in_dims (dims + 0) (base_at (u ∷ b.0)) = rw e refl in
    let stop = in_dims_stops (dims + 0) (base_at (u ∷ b.0)) (subst NoBase b.1 h) in
    subst (λ (t : List ℕ). NoField (replicate dims 91 ++ t)) (sym b.1) (subst (λ (r : Result (FieldText × List ℕ) ℕ). IsStop r) (sym (there ∙ here)) stop)

base_part : (units : List ℕ) (dims : ℕ) (behind : List ℕ) (r : Result (BaseText × List ℕ) ℕ) → units ≡ replicate dims 91 ++ behind → dims < 2 ^ 8 → ((us : List ℕ) → Begins behind us → NoBase us → NoField (replicate dims 91 ++ us)) → BaseHalts behind r → FieldHalts units (in_dims dims r)
base_part units dims behind (Ok x) parts lt on h = tt
base_part units dims behind (Err left) parts lt on h =
    carry (replicate dims 91) behind on left units parts (λ b. record { dims = dims; base = b }) (λ b fits. (lt, fits)) (λ b. []) (λ b. ap (λ (t : List ℕ). replicate dims 91 ++ t) (sym (append-nil (base_text b)))) h

-- one dimension too many
too_many : (dims u : ℕ) (other : List ℕ) → dims < 2 ^ 8 → eqb u 91 ≡ true → ltb dims 255 ≡ false → NoField (replicate dims 91 ++ u ∷ other)
unfolding field_at field_behind
too_many dims u other lt e f =
    let g : ltb (dims + 0) 255 ≡ false = ap (λ (d : ℕ). ltb d 255) (omega arith) ∙ f in
    let there : field_at (replicate dims 91 ++ u ∷ other) ≡ field_behind (dims + 0) (u ∷ other) = dims_read dims 0 (u ∷ other) (omega (arith, lt)) in
    let here : field_behind (dims + 0) (u ∷ other) ≡ Err (length (u ∷ other)) = rw (e, g) refl in
    subst (λ (r : Result (FieldText × List ℕ) ℕ). IsStop r) (sym (there ∙ here)) tt

behind_halts : (units : List ℕ) (dims : ℕ) (behind : List ℕ) → units ≡ replicate dims 91 ++ behind → dims < 2 ^ 8 → FieldHalts units (field_behind dims behind)
unfolding field_behind
behind_halts units dims [] parts lt = base_part units dims [] (base_at []) parts lt (λ us b. absurd b) (base_halts [])
behind_halts units dims (u ∷ rest) parts lt =
    either (FieldHalts units) (eqb u 91) _ _
    (λ e. either (FieldHalts units) (ltb dims 255) (field_behind (dims + 1) rest) (Err (length (u ∷ rest)))
    (λ f. let few = ltb-true dims 255 f in behind_halts units (dims + 1) rest (parts ∙ (ap (λ (n : ℕ). replicate dims 91 ++ n ∷ rest) (eqb-true u 91 e) ∙ one_more dims rest)) (omega arith))
    (λ f. record { front = replicate dims 91; behind = u ∷ rest; parts = parts; long = refl; begun = record { dims = dims; base = Int }; fits = (lt, tt); rest = 73 ∷ []; goes = refl; stuck = λ other. too_many dims u other lt e f }))
    (λ e. base_part units dims (u ∷ rest) (base_at (u ∷ rest)) parts lt (λ us. no_dim dims u rest us lt e) (base_halts (u ∷ rest)))

pub field_halts : (units : List ℕ) → FieldHalts units (field_at units)
unfolding field_at
field_halts units = behind_halts units 0 units refl (omega arith)

-- ---- all units

pub no_stop : {X : Type 0} (r : Result X ℕ) (x : X) → r ≡ Ok x → IsStop r → ⊥
no_stop (Ok y) x e h = h
no_stop (Err left) x e h = absurd cc

no_field : (us : List ℕ) → NoField us → NoText field_text FieldFits us
no_field us stop f fits e = no_stop (field_at us) (f, []) (ap field_at (sym (append-nil (field_text f) ∙ e)) ∙ field_again f [] fits) stop

abbrev pub rest_of : {A : Type 0} → Result (A × List ℕ) ℕ → List ℕ
rest_of (Ok x) = x.1
rest_of (Err left) = []

-- units are left over behind one that was read
pub left_over : {A : Type 0} (r : Result (A × List ℕ) ℕ) (x y : A) (u : ℕ) (other : List ℕ) → r ≡ read x (u ∷ other) → r ≡ read y [] → ⊥
left_over r x y u other p q =
    let e : u ∷ other ≡ [] = ap rest_of (sym p ∙ q) in
    absurd cc

behind_field : (f : FieldText) (rest : List ℕ) → FieldFits f → Behind (NoText field_text FieldFits) (field_text f) rest
behind_field f [] fits = tt
behind_field f (u ∷ more) fits = λ other g also e. left_over (field_at (field_text f ++ u ∷ other)) f g u other (field_again f (u ∷ other) fits) (ap field_at (sym (append-nil (field_text g) ∙ e)) ∙ field_again g [] also)

all_halts : (units : List ℕ) (r : Result (FieldText × List ℕ) ℕ) → FieldTakes units r → FieldHalts units r → Halts field_text FieldFits (NoText field_text FieldFits) units (r >>= λ x. all_of x)
all_halts units (Err left) t h = carry [] units (λ us b. no_field us) left units refl (λ f. f) (λ f fits. fits) (λ f. []) (λ f. sym (append-nil (field_text f))) h
all_halts units (Ok x) t h =
    either (Halts field_text FieldFits (NoText field_text FieldFits) units) (eqb (length x.1) 0) (Ok x.0) (Err (length x.1)) (λ e. tt) (λ e.
    record { front = field_text x.0; behind = x.1; parts = t.0; long = refl; begun = x.0; fits = t.1; rest = []; goes = sym (append-nil (field_text x.0)); stuck = behind_field x.0 x.1 t.1 })

pub whole_halts : (units : List ℕ) → Halts field_text FieldFits (NoText field_text FieldFits) units (whole_field units)
unfolding whole_field
whole_halts units = all_halts units (field_at units) (field_takes units) (field_halts units)

-- ---- the place

none_goes : {A : Type 0} (text : A → List ℕ) (Fits : A → Type 0) (front behind : List ℕ) → Behind (NoText text Fits) front behind → length front < length (front ++ behind) → (x : A) → Fits x → (rest : List ℕ) → text x ≡ take (length front + 1) (front ++ behind) ++ rest → ⊥
none_goes text Fits front [] stuck lt x fits rest e = absurd (omega (arith, lt, length-append front []))
none_goes text Fits front (u ∷ more) stuck lt x fits rest e = stuck rest x fits (e ∙ (ap (λ (t : List ℕ). t ++ rest) (take-append-add front (u ∷ more) 1) ∙ append_assoc front (u ∷ []) rest))

at_front : {A : Type 0} (text : A → List ℕ) (Fits : A → Type 0) (front behind : List ℕ) (x : A) → Fits x → (rest : List ℕ) → text x ≡ front ++ rest → Behind (NoText text Fits) front behind → NoText text Fits (front ++ behind) → IsFirstPlace text Fits (front ++ behind) (length front)
at_front text Fits front behind x fits rest e stuck never = record {
  inside = omega (arith, length-append front behind);
  begun = x;
  fits = fits;
  rest = rest;
  begins = e ∙ ap (λ (t : List ℕ). t ++ rest) (sym (take-append_seam front behind));
  none = none_goes text Fits front behind stuck;
  no_text = λ y also same. never y also (sym same);
}

pub first_place : {A : Type 0} (text : A → List ℕ) (Fits : A → Type 0) (units : List ℕ) (left : ℕ) → Place text Fits (NoText text Fits) units left → NoText text Fits units → IsFirstPlace text Fits units (length units - left)
first_place text Fits units left p never =
    let at : length p.front ≡ length units - left = omega (arith, ap length p.parts, length-append p.front p.behind, p.long) in
    let here = at_front text Fits p.front p.behind p.begun p.fits p.rest p.goes p.stuck (subst (NoText text Fits) p.parts never) in
    subst (IsFirstPlace text Fits units) at (subst (λ (us : List ℕ). IsFirstPlace text Fits us (length p.front)) (sym p.parts) here)

-- the place that a reader of all units names
module _ {A : Type 0} {text : A → List ℕ} {Fits : A → Type 0} {reader : List ℕ → Result A ℕ} (exactly : Exactly text Fits reader) (halts : (units : List ℕ) → Halts text Fits (NoText text Fits) units (reader units)) (units given : List ℕ) (same : units ≡ given) (e : Stop) (left : ℕ) (is : e ≡ Left left) (fails : Fails e (reader units)) where
  pub place : IsFirstPlace text Fits given (length units - left)
  place =
      let stopped : reader units ≡ Err left = subst (λ s. Fails s (reader units)) is fails in
      let here : Place text Fits (NoText text Fits) units left = subst (Halts text Fits (NoText text Fits) units) stopped (halts units) in
      let there = first_place text Fits units left here (λ y fits h. never exactly units given same e left is fails y fits (sym (h ∙ same))) in
      subst (λ (us : List ℕ). IsFirstPlace text Fits us (length units - left)) same there
