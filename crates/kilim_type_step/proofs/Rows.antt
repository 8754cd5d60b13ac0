-- Rows: operands of the code as those of the definitions, room, further rules.
use Rattle.std.proofs.Common.{◌≡◌, ℕ, zero, suc, ◌+◌, ◌-◌, ◌<◌, ◌≤◌, Bool, true, false, ◌&&◌, cond, refl, ap, sym, ◌∙◌, inl, inr, arith, List, [], ◌∷◌, ◌++◌, length, drop, get_or, slice_get, Some, None, Result, Err}
use Rattle.std.specs.Prelude.{nat_le}
use Rattle.std.proofs.lemmas.Bool.{cases_lt, lt-leb, le-leb}
use Rattle.std.proofs.lemmas.List.{length-map, drop_more, drop_all}
use Rattle.std.proofs.lemmas.Option.{slice_get_within, get_or_from_slice_get}
use Rattle.kilim_lemmas.proofs.Lists.{get_some}
use Rattle.kilim_program.specs.declared.class.Method.{Method}
use Rattle.kilim_program.specs.declared.verified.VType.{VType}
use Rattle.kilim_program.specs.declared.verified.VType.TheVariants.{Top}
use Rattle.kilim_program.specs.Program.{Program}
use Rattle.kilim_type_spec.specs.Step.{Types, Operand, Is, Further, all_meet, meets, further, rule, has_room, words, size}
use Rattle.kilim_type_step.specs.declared.operands.Taken.{Taken}
use Rattle.kilim_type_step.specs.declared.operands.Also.{Also}
use Rattle.kilim_type_step.specs.Answers.{failing}
use Rattle.kilim_type_step.specs.Operands.{operand_of, operands_of, further_of, furthers_of, anything}

pub operands_long : (ts : List Taken) → length (operands_of ts) ≡ length ts
operands_long ts = length-map ts operand_of

-- ---- room

le_after : (s w m : ℕ) → s ≤ m → nat_le w (m - s) ≡ nat_le (s + w) m
le_after s w m h = elim (cases_lt (m - s) w) [ inl lt ↦ lt-leb w (m - s) lt ∙ sym (lt-leb (s + w) m (omega arith)) | inr le ↦ le-leb w (m - s) le ∙ sym (le-leb (s + w) m (omega arith)) ]

pub room_left : (m : Method) (t : VType) (s : List VType) → size t ≤ m.max_stack → nat_le (words s) (m.max_stack - size t) ≡ has_room m (t ∷ s)
room_left m t s h = le_after (size t) (words s) m.max_stack h

pub no_room : (m : Method) (t : VType) (s : List VType) → m.max_stack < size t → has_room m (t ∷ s) ≡ false
no_room m t s h = lt-leb (size t + words s) m.max_stack (omega arith)

-- ---- operands

pub front_is : {A : Type 0} → (s : List A) (k : ℕ) (t : A) → slice_get s k ≡ Some t → drop k s ≡ t ∷ drop (k + 1) s
front_is s k t e = drop_more s k t (slice_get_within s k t e) ∙ ap (λ x. x ∷ drop (k + 1) s) (get_or_from_slice_get s k t t e)

-- the k-th operand is met: as many are left
pub meet_on : (p : Program) (ts : List Taken) (s : List VType) (k : ℕ) (d : Taken) (t : VType) → k < length ts → slice_get s k ≡ Some t → meets p (operand_of (get_or ts k d)) t ≡ true →
    all_meet p (operands_of (drop (k + 1) ts)) (drop (k + 1) s) ≡ all_meet p (operands_of (drop k ts)) (drop k s)
meet_on p ts s k d t h e m =
    sym (ap (λ (xs : List Taken). all_meet p (operands_of xs) (drop k s)) (drop_more ts k d h) ∙ ap (all_meet p (operands_of (get_or ts k d ∷ drop (k + 1) ts))) (front_is s k t e)
    ∙ ap (λ b. b && all_meet p (operands_of (drop (k + 1) ts)) (drop (k + 1) s)) m)

pub meet_fails : (p : Program) (ts : List Taken) (s : List VType) (k : ℕ) (d : Taken) (t : VType) → k < length ts → slice_get s k ≡ Some t → meets p (operand_of (get_or ts k d)) t ≡ false →
    all_meet p (operands_of (drop k ts)) (drop k s) ≡ false
meet_fails p ts s k d t h e m =
    ap (λ (xs : List Taken). all_meet p (operands_of xs) (drop k s)) (drop_more ts k d h) ∙ ap (all_meet p (operands_of (get_or ts k d ∷ drop (k + 1) ts))) (front_is s k t e)
    ∙ ap (λ b. b && all_meet p (operands_of (drop (k + 1) ts)) (drop (k + 1) s)) m

pub past : {A : Type 0} → (s : List A) (k : ℕ) → slice_get s k ≡ None → drop k s ≡ []
past s k e = elim (cases_lt k (length s)) [ inl h ↦ (let found = get_some s k h in let q : Some found.0 ≡ None = sym found.1 ∙ e in absurd (cc (q))) | inr h ↦ drop_all k s h ]

pub meet_lacks : (p : Program) (ts : List Taken) (s : List VType) (k : ℕ) (d : Taken) → k < length ts → slice_get s k ≡ None → all_meet p (operands_of (drop k ts)) (drop k s) ≡ false
meet_lacks p ts s k d h e = ap (λ (xs : List Taken). all_meet p (operands_of xs) (drop k s)) (drop_more ts k d h) ∙ ap (all_meet p (operands_of (get_or ts k d ∷ drop (k + 1) ts))) (past s k e)

-- ---- further rules

pub further_breaks : (p : Program) (rs : List Further) (s : List VType) (go : Result Types ℕ) (n : ℕ) → failing p rs s ≡ Some n → further p rs s go ≡ Err n
further_breaks p [] s go n e = absurd (cc)
further_breaks p (r ∷ rs) s go n e = by (r.holds && all_meet p r.operands s) (λ (x : failing p rs s ≡ Some n). further_breaks p rs s go n x) refl
  where
    by : (b : Bool) → (failing p rs s ≡ Some n → further p rs s go ≡ Err n) → (r.holds && all_meet p r.operands s) ≡ b → further p (r ∷ rs) s go ≡ Err n
    by true rest t = ap (λ b. rule r.number b (further p rs s go)) t ∙ rest (sym (ap (λ b. cond b (failing p rs s) (Some r.number)) t) ∙ e)
    by false rest t = ap (λ b. rule r.number b (further p rs s go)) t ∙ ap (λ k. Err k) (let q : Some r.number ≡ Some n = sym (ap (λ b. cond b (failing p rs s) (Some r.number)) t) ∙ e in cc)

pub further_holds : (p : Program) (rs : List Further) (s : List VType) (go : Result Types ℕ) → failing p rs s ≡ None → further p rs s go ≡ go
further_holds p [] s go e = refl
further_holds p (r ∷ rs) s go e = by (r.holds && all_meet p r.operands s) (λ (x : failing p rs s ≡ None). further_holds p rs s go x) refl
  where
    by : (b : Bool) → (failing p rs s ≡ None → further p rs s go ≡ go) → (r.holds && all_meet p r.operands s) ≡ b → further p (r ∷ rs) s go ≡ go
    by true rest t = ap (λ b. rule r.number b (further p rs s go)) t ∙ rest (sym (ap (λ b. cond b (failing p rs s) (Some r.number)) t) ∙ e)
    by false rest t = let q : Some r.number ≡ None = sym (ap (λ b. cond b (failing p rs s) (Some r.number)) t) ∙ e in absurd (cc (q))

-- one further rule is asked
abbrev pub asked : Program → Also → List VType → Bool
asked p a s = (further_of a).holds && all_meet p (further_of a).operands s

pub failing_on : (p : Program) (xs : List Also) (s : List VType) (k : ℕ) (d : Also) (b : Bool) → k < length xs → b ≡ asked p (get_or xs k d) s → b ≡ true →
    failing p (furthers_of (drop (k + 1) xs)) s ≡ failing p (furthers_of (drop k xs)) s
failing_on p xs s k d b h e t = sym (ap (λ (ys : List Also). failing p (furthers_of ys) s) (drop_more xs k d h)
    ∙ ap (λ x. cond x (failing p (furthers_of (drop (k + 1) xs)) s) (Some (further_of (get_or xs k d)).number)) (sym e ∙ t))

pub failing_at : (p : Program) (xs : List Also) (s : List VType) (k : ℕ) (d : Also) (b : Bool) → k < length xs → b ≡ asked p (get_or xs k d) s → b ≡ false →
    failing p (furthers_of (drop k xs)) s ≡ Some (further_of (get_or xs k d)).number
failing_at p xs s k d b h e f = ap (λ (ys : List Also). failing p (furthers_of ys) s) (drop_more xs k d h)
    ∙ ap (λ x. cond x (failing p (furthers_of (drop (k + 1) xs)) s) (Some (further_of (get_or xs k d)).number)) (sym e ∙ f)

-- ---- what stands below arguments

and_true : (b : Bool) → (b && true) ≡ b
and_true true = refl
and_true false = refl

assigned_top : (p : Program) (t : VType) → meets p (Is Top) t ≡ true
unfolding meets
assigned_top p t = refl

-- the first so many are anything
skip : (p : Program) (n : ℕ) (os : List Operand) (s : List VType) → n ≤ length s → all_meet p (anything n ++ os) s ≡ all_meet p os (drop n s)
skip p zero os s h = refl
skip p (suc n) os [] h = absurd (omega arith)
skip p (suc n) os (t ∷ s) h = ap (λ b. b && all_meet p (anything n ++ os) s) (assigned_top p t) ∙ skip p n os s (omega arith)

short : (p : Program) (n : ℕ) (o : Operand) (s : List VType) → length s ≤ n → all_meet p (anything n ++ (o ∷ [])) s ≡ false
short p zero o [] h = refl
short p zero o (t ∷ s) h = absurd (omega arith)
short p (suc n) o [] h = refl
short p (suc n) o (t ∷ s) h = ap (λ b. b && all_meet p (anything n ++ (o ∷ [])) s) (assigned_top p t) ∙ short p n o s (omega arith)

pub below_met : (p : Program) (n : ℕ) (o : Operand) (s : List VType) (t : VType) → slice_get s n ≡ Some t → all_meet p (anything n ++ (o ∷ [])) s ≡ meets p o t
below_met p n o s t e =
    let h : n < length s = slice_get_within s n t e in
    skip p n (o ∷ []) s (omega arith) ∙ ap (all_meet p (o ∷ [])) (front_is s n t e) ∙ and_true (meets p o t)

pub below_lacks : (p : Program) (n : ℕ) (o : Operand) (s : List VType) → slice_get s n ≡ None → all_meet p (anything n ++ (o ∷ [])) s ≡ false
below_lacks p n o s e = elim (cases_lt n (length s)) [ inl h ↦ (let found = get_some s n h in let q : Some found.0 ≡ None = sym found.1 ∙ e in absurd (cc (q))) | inr h ↦ short p n o s h ]

-- ---- the first rules of a row

pub stops_at_room : (a b : Bool) (x : Result Types ℕ) → a ≡ true → b ≡ false → rule 3 a (rule 4 b x) ≡ Err 4
stops_at_room a b x ea eb = ap (λ t. rule 3 t (rule 4 b x)) ea ∙ ap (λ t. rule 4 t x) eb

pub stops_at_operands : (a b c : Bool) (x : Result Types ℕ) → a ≡ true → b ≡ true → c ≡ false → rule 3 a (rule 4 b (rule 5 c x)) ≡ Err 5
stops_at_operands a b c x ea eb ec = ap (λ t. rule 3 t (rule 4 b (rule 5 c x))) ea ∙ ap (λ t. rule 4 t (rule 5 c x)) eb ∙ ap (λ t. rule 5 t x) ec

pub passes_three : (a b c : Bool) (x y : Result Types ℕ) → a ≡ true → b ≡ true → c ≡ true → x ≡ y → rule 3 a (rule 4 b (rule 5 c x)) ≡ y
passes_three a b c x y ea eb ec e = ap (λ t. rule 3 t (rule 4 b (rule 5 c x))) ea ∙ ap (λ t. rule 4 t (rule 5 c x)) eb ∙ ap (λ t. rule 5 t x) ec ∙ e

pub passes_two : (a b : Bool) (x y : Result Types ℕ) → a ≡ true → b ≡ true → x ≡ y → rule 3 a (rule 5 b x) ≡ y
passes_two a b x y ea eb e = ap (λ t. rule 3 t (rule 5 b x)) ea ∙ ap (λ t. rule 5 t x) eb ∙ e
