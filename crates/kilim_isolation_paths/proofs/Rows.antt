-- The rows of a store
use Rattle.std.proofs.Common.{◌≡◌, ◌≢◌, ℕ, zero, suc, ◌+◌, ◌<◌, ◌≤◌, List, [], ◌∷◌, ◌++◌, length, slice_get, Some, Option, refl, ap, sym, ◌∙◌, ◌⊎◌, inl, inr, arith, cond, nat_eq, true, false, Vec, set, slice_index_or}
use Rattle.std.specs.declared.alloc.Global.{Global}
use Rattle.std.proofs.lemmas.Option.{slice_get_within, slice_get_read, slice_get-get_or}
use Rattle.std.proofs.lemmas.Bool.{ne_eqb, eq-eqb, cases_lt}
use Rattle.kilim_isolation_paths.proofs.Lists.{get_push}
use Rattle.kilim_isolation_paths.specs.Paths.{Has}
use Rattle.kilim_isolation_paths.specs.Search.{states_at}
use Rattle.kilim_isolation_paths.specs.Stored.{positions, AreRows}
use Rattle.kilim_isolation_paths.specs.declared.store.Reached.{Reached}

pub positions_length : {S : Type 0} (q n : ℕ) (es : List (Reached S)) → length (positions q n es) ≡ length (states_at q es)
positions_length q n [] = refl
positions_length q n (e ∷ es) = elim (nat_eq e.place q) as (λ b. length (cond b (n ∷ positions q (suc n) es) (positions q (suc n) es)) ≡ length (cond b (e.state ∷ states_at q es) (states_at q es))) [
  | true ↦ ap suc (positions_length q (suc n) es)
  | false ↦ positions_length q (suc n) es
]

pub positions-push : {S : Type 0} (q n : ℕ) (es : List (Reached S)) (x : Reached S) → positions q n (es ++ x ∷ []) ≡ cond (nat_eq x.place q) (positions q n es ++ (n + length es) ∷ []) (positions q n es)
positions-push q n [] x = elim (nat_eq x.place q) as (λ b. cond b (n ∷ []) [] ≡ cond b ((n + 0) ∷ []) []) [ true ↦ ap (λ k. k ∷ []) (omega arith) | false ↦ refl ]
positions-push q n (e ∷ es) x =
    let r : positions q (suc n) (es ++ x ∷ []) ≡ cond (nat_eq x.place q) (positions q (suc n) es ++ (n + length (e ∷ es)) ∷ []) (positions q (suc n) es) = positions-push q (suc n) es x ∙ ap (λ k. cond (nat_eq x.place q) (positions q (suc n) es ++ k ∷ []) (positions q (suc n) es)) (omega arith) in
    let k = n + length (e ∷ es) in
    elim (nat_eq e.place q) as (λ b. cond b (n ∷ positions q (suc n) (es ++ x ∷ [])) (positions q (suc n) (es ++ x ∷ [])) ≡ cond (nat_eq x.place q) (cond b (n ∷ positions q (suc n) es) (positions q (suc n) es) ++ k ∷ []) (cond b (n ∷ positions q (suc n) es) (positions q (suc n) es))) [
      | true ↦ elim (nat_eq x.place q) as (λ c. (positions q (suc n) (es ++ x ∷ []) ≡ cond c (positions q (suc n) es ++ k ∷ []) (positions q (suc n) es)) → (n ∷ positions q (suc n) (es ++ x ∷ [])) ≡ cond c ((n ∷ positions q (suc n) es) ++ k ∷ []) (n ∷ positions q (suc n) es)) [ true ↦ λ h. ap (λ ks. n ∷ ks) h | false ↦ λ h. ap (λ ks. n ∷ ks) h ] r
      | false ↦ r
    ]

-- k is the place of an entry with this state, counted from n
pub record RowAt {S : Type 0} (n k : ℕ) (es : List (Reached S)) (state : Option S) : Type 0 where
  pub i : ℕ
  pub e : Reached S
  pub at : k ≡ n + i
  pub is : slice_get es i ≡ Some e
  pub has : state ≡ Some e.state

row_under : {S : Type 0} (n k : ℕ) (e : Reached S) (es : List (Reached S)) (state : Option S) → RowAt (suc n) k es state → RowAt n k (e ∷ es) state
row_under n k e es state r = record { i = suc r.i; e = r.e; at = omega arith; is = r.is; has = r.has }

row_first : {S : Type 0} (n k : ℕ) (e : Reached S) (es : List (Reached S)) (ps : List ℕ) (ss : List S) (j : ℕ) → ((i : ℕ) → slice_get ps i ≡ Some k → RowAt (suc n) k es (slice_get ss i)) → slice_get (n ∷ ps) j ≡ Some k → RowAt n k (e ∷ es) (slice_get (e.state ∷ ss) j)
row_first n k e es ps ss zero f h = let same : n ≡ k = cc in record { i = zero; e = e; at = omega arith; is = refl; has = refl }
row_first n k e es ps ss (suc j) f h = row_under n k e es (slice_get ss j) (f j h)

-- the j-th state of a place is that of the entry that its row names
pub row_at : {S : Type 0} (q n : ℕ) (es : List (Reached S)) (j k : ℕ) → slice_get (positions q n es) j ≡ Some k → RowAt n k es (slice_get (states_at q es) j)
row_at q n [] j k h = absurd (cc)
row_at q n (e ∷ es) j k h = elim (nat_eq e.place q) as (λ b. (slice_get (cond b (n ∷ positions q (suc n) es) (positions q (suc n) es)) j ≡ Some k) → RowAt n k (e ∷ es) (slice_get (cond b (e.state ∷ states_at q es) (states_at q es)) j)) [
  | true ↦ λ h. row_first n k e es (positions q (suc n) es) (states_at q es) j (λ i g. row_at q (suc n) es i k g) h
  | false ↦ λ h. row_under n k e es (slice_get (states_at q es) j) (row_at q (suc n) es j k h)
] h

pub row_within : {S : Type 0} (q : ℕ) (es : List (Reached S)) (j k : ℕ) → slice_get (positions q 0 es) j ≡ Some k → k < length es
row_within q es j k h = let r = row_at q 0 es j k h in let w = slice_get_within es r.i r.e r.is in omega arith

pub row_get : {S : Type 0} (q : ℕ) (es : List (Reached S)) (j k : ℕ) (e : Reached S) → slice_get (positions q 0 es) j ≡ Some k → slice_get es k ≡ Some e → slice_get (states_at q es) j ≡ Some e.state
row_get q es j k e h g =
    let r = row_at q 0 es j k h in
    let a : k ≡ r.i = omega arith in
    let same : r.e ≡ e = cc in
    r.has ∙ ap (λ (x : Reached _). Some x.state) same

pub row_is : {S : Type 0} (es : List (Reached S)) (rows : List (Vec ℕ Global)) (p : ℕ) (row : Vec ℕ Global) → AreRows es rows → p < length rows → row ≡ slice_index_or rows p row → row.items ≡ positions p 0 es
row_is es rows p row a h r = a p row (slice_get_read rows (length rows) p row refl h r)

get_set : {X : Type 0} (xs : List X) (p q : ℕ) (x y : X) → slice_get (set xs p x) q ≡ Some y → ((p ≡ q) × (x ≡ y)) ⊎ ((p ≢ q) × (slice_get xs q ≡ Some y))
get_set [] p q x y h = absurd (cc)
get_set (z ∷ xs) zero zero x y h = inl (refl, cc)
get_set (z ∷ xs) zero (suc q) x y h = inr (λ e. omega arith, h)
get_set (z ∷ xs) (suc p) zero x y h = inr (λ e. omega arith, h)
get_set (z ∷ xs) (suc p) (suc q) x y h = elim (get_set xs p q x y h) [ inl a ↦ inl (ap suc a.0, a.1) | inr b ↦ inr (λ e. b.0 (omega arith), b.1) ]

pub rows_pushed : {S : Type 0} (es new : List (Reached S)) (e : Reached S) (rows : List (Vec ℕ Global)) (at p : ℕ) (row next : Vec ℕ Global) → AreRows es rows → p < length rows → row ≡ slice_index_or rows p row → next.items ≡ row.items ++ at ∷ [] → at ≡ length es → new ≡ es ++ e ∷ [] → e.place ≡ p → AreRows new (set rows p next)
rows_pushed es new e rows at p row next a h r n t w s q x g =
    let old = row_is es rows p row a h r in
    let push = positions-push q 0 es e in
    elim (get_set rows p q next x g) [
      | inl i ↦ (let d : nat_eq e.place q ≡ true = eq-eqb e.place q (s ∙ i.0) in
          ap (λ (v : Vec ℕ Global). v.items) (sym i.1) ∙ n ∙ ap (λ ks. ks ++ at ∷ []) old ∙ ap (λ k. positions p 0 es ++ k ∷ []) (omega arith) ∙ ap (λ z. positions z 0 es ++ (0 + length es) ∷ []) i.0 ∙ sym (ap (λ ls. positions q 0 ls) w ∙ push ∙ ap (λ b. cond b (positions q 0 es ++ (0 + length es) ∷ []) (positions q 0 es)) d))
      | inr i ↦ (let d : nat_eq e.place q ≡ false = ne_eqb e.place q (λ z. i.0 (sym s ∙ z)) in
          a q x i.1 ∙ sym (ap (λ ls. positions q 0 ls) w ∙ push ∙ ap (λ b. cond b (positions q 0 es ++ (0 + length es) ∷ []) (positions q 0 es)) d))
    ]

-- a row that comes back as it was
pub rows_back : {S : Type 0} (es new : List (Reached S)) (rows : List (Vec ℕ Global)) (p : ℕ) (row next : Vec ℕ Global) → AreRows es rows → p < length rows → row ≡ slice_index_or rows p row → next.items ≡ row.items → new ≡ es → AreRows new (set rows p next)
rows_back es new rows p row next a h r n w q x g =
    let old = row_is es rows p row a h r in
    elim (get_set rows p q next x g) [
      | inl i ↦ ap (λ (v : Vec ℕ Global). v.items) (sym i.1) ∙ n ∙ old ∙ ap (λ z. positions z 0 es) i.0 ∙ sym (ap (λ ls. positions q 0 ls) w)
      | inr i ↦ a q x i.1 ∙ sym (ap (λ ls. positions q 0 ls) w)
    ]

-- after a push of an empty row
pub rows_empty : (rows : List (Vec ℕ Global)) (row : Vec ℕ Global) → ((q : ℕ) (x : Vec ℕ Global) → slice_get rows q ≡ Some x → x.items ≡ []) → row.items ≡ [] → (q : ℕ) (x : Vec ℕ Global) → slice_get (rows ++ row ∷ []) q ≡ Some x → x.items ≡ []
rows_empty rows row a e q x g = elim (get_push rows row q x g) [ inl h ↦ a q x h | inr h ↦ ap (λ (v : Vec ℕ Global). v.items) (sym h.1) ∙ e ]

pub row_reads : {S : Type 0} (q : ℕ) (es : List (Reached S)) (row : List ℕ) (j : ℕ) → row ≡ positions q 0 es → j < length row → slice_get (positions q 0 es) j ≡ Some (slice_index_or row j 0)
row_reads q es row j e h = ap (λ ks. slice_get ks j) (sym e) ∙ slice_get-get_or row j 0 h

pub row_step : {S : Type 0} (q : ℕ) (es : List (Reached S)) (k : ℕ) (x : S) (e : Reached S) → ((j : ℕ) → j < k → slice_get (states_at q es) j ≢ Some x) → slice_get (states_at q es) k ≡ Some e.state → (e.state ≡ x → ⊥) → (j : ℕ) → j < k + 1 → slice_get (states_at q es) j ≢ Some x
row_step q es k x e f g n j b h = elim (cases_lt j k) [
  | inl l ↦ f j l h
  | inr l ↦ (let s : j ≡ k = omega arith in let a : Some e.state ≡ Some x = sym g ∙ ap (λ i. slice_get (states_at q es) i) (sym s) ∙ h in n (cc))
]

pub row_none : {S : Type 0} (q : ℕ) (es : List (Reached S)) (row : List ℕ) (k : ℕ) (x : S) → row ≡ positions q 0 es → length row ≤ k → ((j : ℕ) → j < k → slice_get (states_at q es) j ≢ Some x) → Has (states_at q es) x → ⊥
row_none q es row k x e l f h =
    let n : length row ≡ length (states_at q es) = ap length e ∙ positions_length q 0 es in
    let w = slice_get_within (states_at q es) h.0 x h.1 in
    f h.0 (omega arith) h.1
