-- What the entries say of the paths
use Rattle.std.proofs.Common.{◌≡◌, ℕ, zero, suc, ◌+◌, ◌*◌, ◌<◌, ◌≤◌, List, [], ◌∷◌, ◌++◌, length, slice_get, Some, Ok, refl, ap, sym, ◌∙◌, subst, inl, inr, arith, cond, nat_eq, true, false, Bool, reverse}
use Rattle.std.specs.List.{AllByRecursion}
use Rattle.std.proofs.lemmas.List.{reverse-append}
use Rattle.std.proofs.lemmas.Option.{slice_get_within}
use Rattle.kilim_isolation_paths.proofs.Loops.{LeadsBack}
use Rattle.std.proofs.lemmas.Bool.{ne_eqb, eq-eqb, cases_eq}
use Rattle.kilim_isolation_paths.specs.declared.machine.Exit.{Exit}
use Rattle.kilim_isolation_paths.specs.Paths.{Has, Machine, Leads, ArrivesBy, Reaches, target}
use Rattle.kilim_isolation_paths.specs.Search.{states_at, AreLinked}
use Rattle.kilim_isolation_paths.specs.declared.store.Reached.{Reached}
use Rattle.kilim_isolation_paths.proofs.Lists.{get_some}

-- one step back along the entries
pub back : {S : Type 0} (m : Machine S) (es : List (Reached S)) (k : ℕ) (e f : Reached S) (rest : List ℕ) (q : ℕ) (t : S) → AreLinked m es → slice_get es (suc k) ≡ Some e → slice_get es e.from ≡ Some f → Leads m e.place e.state rest q t → Leads m f.place f.state (e.place ∷ rest) q t
back m es k e f rest q t l h g d =
    let i = l (suc k) e h in
    let same : i.0 ≡ f = cc in
    subst (λ (x : Reached _). Leads m x.place x.state (e.place ∷ rest) q t) same (e.state, i.3, i.4, i.5, i.6, d)

-- each entry is reached by a path
reached_below : {S : Type 0} (m : Machine S) (es : List (Reached S)) (n k : ℕ) (e : Reached S) (rest : List ℕ) (q : ℕ) (t : S) → AreLinked m es → k < n → slice_get es k ≡ Some e → Leads m e.place e.state rest q t → Reaches m q t
reached_below m es zero k e rest q t l b h d = absurd (omega arith)
reached_below m es (suc n) zero e rest q t l b h d =
    let i = l zero e h in
    (0 ∷ rest, (refl, subst (λ (x : ℕ). Leads m x m.entry rest q t) i.0 (subst (λ (x : _). Leads m e.place x rest q t) i.1 d)))
reached_below m es (suc n) (suc k) e rest q t l b h d =
    let i = l (suc k) e h in
    reached_below m es n e.from i.0 (e.place ∷ rest) q t l (omega arith) i.2 (e.state, i.3, i.4, i.5, i.6, d)

pub reached : {S : Type 0} (m : Machine S) (es : List (Reached S)) (k : ℕ) (e : Reached S) → AreLinked m es → slice_get es k ≡ Some e → Reaches m e.place e.state
reached m es k e l h = reached_below m es (suc k) k e [] e.place e.state l (omega arith) h (refl, refl)

-- where the states are closed under steps, a path stays among them
pub stays : {S : Type 0} (m : Machine S) (es : List (Reached S)) → ((p q : ℕ) (s t : S) (x : Exit) → target x ≡ Some q → Has (states_at p es) s → Has (m.exits p) x → m.moves p s x ≡ Ok t → Has (states_at q es) t) →
    (rest : List ℕ) (p : ℕ) (s : S) (q : ℕ) (t : S) → Has (states_at p es) s → Leads m p s rest q t → Has (states_at q es) t
stays m es c [] p s q t h d = subst (λ (x : ℕ). Has (states_at x es) t) d.0 (subst (λ (x : _). Has (states_at p es) x) d.1 h)
stays m es c (n ∷ rest) p s q t h d = stays m es c rest n d.0 q t (c p n s d.0 d.1 d.2 h d.3 d.4) d.5

pub states-push : {S : Type 0} (q : ℕ) (es : List (Reached S)) (e : Reached S) → states_at q (es ++ e ∷ []) ≡ cond (nat_eq e.place q) (states_at q es ++ e.state ∷ []) (states_at q es)
states-push q [] e = refl
states-push q (x ∷ es) e = elim (nat_eq x.place q) as (λ b. cond b (x.state ∷ states_at q (es ++ e ∷ [])) (states_at q (es ++ e ∷ [])) ≡ cond (nat_eq e.place q) (cond b (x.state ∷ states_at q es) (states_at q es) ++ e.state ∷ []) (cond b (x.state ∷ states_at q es) (states_at q es))) [
  | true ↦ elim (nat_eq e.place q) as (λ c. (states_at q (es ++ e ∷ []) ≡ cond c (states_at q es ++ e.state ∷ []) (states_at q es)) → (x.state ∷ states_at q (es ++ e ∷ [])) ≡ cond c ((x.state ∷ states_at q es) ++ e.state ∷ []) (x.state ∷ states_at q es)) [ true ↦ λ r. ap (λ ss. x.state ∷ ss) r | false ↦ λ r. ap (λ ss. x.state ∷ ss) r ] (states-push q es e)
  | false ↦ states-push q es e
]

-- how many entries stand at the places below n
total : {S : Type 0} → ℕ → List (Reached S) → ℕ
total zero es = zero
total (suc n) es = length (states_at n es) + total n es

total_past : {S : Type 0} (n : ℕ) (e : Reached S) (es : List (Reached S)) → n ≤ e.place → total n (e ∷ es) ≡ total n es
unfolding total
total_past zero e es h = refl
total_past (suc n) e es h =
    let r = total_past n e es (omega arith) in
    let d : nat_eq e.place n ≡ false = ne_eqb e.place n (λ x. omega arith) in
    rw (d, r)

total_cons : {S : Type 0} (n : ℕ) (e : Reached S) (es : List (Reached S)) → e.place < n → total n (e ∷ es) ≡ suc (total n es)
unfolding total
total_cons zero e es h = absurd (omega arith)
total_cons (suc n) e es h = elim (cases_eq e.place n) [
  | inl s ↦ (let d : nat_eq e.place n ≡ true = eq-eqb e.place n s in
      let r = total_past n e es (omega arith) in rw (d, r) (omega arith))
  | inr s ↦ (let d : nat_eq e.place n ≡ false = ne_eqb e.place n s in
      let r = total_cons n e es (omega arith) in rw (d, r) (omega arith))
]

total_none : (S : Type 0) (n : ℕ) → total {S = S} n [] ≡ zero
unfolding total
total_none S zero = refl
total_none S (suc n) = let r = total_none S n in omega arith

total_all : {S : Type 0} (n : ℕ) (es : List (Reached S)) → AllByRecursion (λ e. e.place < n) es → total n es ≡ length es
total_all n [] a = total_none _ n
total_all n (e ∷ es) a = total_cons n e es a.0 ∙ ap suc (total_all n es a.1)

total_few : {S : Type 0} (n : ℕ) (es : List (Reached S)) → ((q : ℕ) → length (states_at q es) ≤ 256) → total n es ≤ 256 * n
unfolding total
total_few zero es f = omega arith
total_few (suc n) es f = let r = total_few n es f in let h = f n in omega arith

-- so there are no more entries than 256 for each place
pub length_few : {S : Type 0} (size : ℕ) (es : List (Reached S)) → AllByRecursion (λ e. e.place < size) es → ((q : ℕ) → length (states_at q es) ≤ 256) → length es ≤ 256 * size
length_few size es a f = let r = total_few size es f in let e = total_all size es a in omega arith

-- an entry, and where it stands
pub record EntryOf {S : Type 0} (es : List (Reached S)) (q : ℕ) (t : S) : Type 0 where
  pub k : ℕ
  pub e : Reached S
  pub is : slice_get es k ≡ Some e
  pub place : e.place ≡ q
  pub state : e.state ≡ t

first_entry : {S : Type 0} (x : Reached S) (es : List (Reached S)) (q : ℕ) (t : S) → x.place ≡ q → Has (x.state ∷ states_at q es) t → (Has (states_at q es) t → EntryOf es q t) → EntryOf (x ∷ es) q t
first_entry x es q t s (zero, h) go = record { k = zero; e = x; is = refl; place = s; state = cc }
first_entry x es q t s (suc k, h) go = let r = go (k, h) in record { k = suc r.k; e = r.e; is = r.is; place = r.place; state = r.state }

-- a state that was found at a place has its entry
pub entry_of : {S : Type 0} (es : List (Reached S)) (q : ℕ) (t : S) → Has (states_at q es) t → EntryOf es q t
entry_of [] q t h = absurd (cc (h.1))
entry_of (x ∷ es) q t h = elim (cases_eq x.place q) [
  | inl s ↦ first_entry x es q t s (subst (λ (b : Bool). Has (cond b (x.state ∷ states_at q es) (states_at q es)) t) (eq-eqb x.place q s) h) (entry_of es q t)
  | inr s ↦ (let r = entry_of es q t (subst (λ (b : Bool). Has (cond b (x.state ∷ states_at q es) (states_at q es)) t) (ne_eqb x.place q s) h) in record { k = suc r.k; e = r.e; is = r.is; place = r.place; state = r.state })
]

pub back_within : {S : Type 0} (m : Machine S) (es : List (Reached S)) (k : ℕ) (e : Reached S) → AreLinked m es → slice_get es k ≡ Some e → 0 < k → (e.from < k) × (e.from < length es)
back_within m es zero e l h p = absurd (omega arith)
back_within m es (suc k) e l h p = let i = l (suc k) e h in (i.1, slice_get_within es e.from i.0 i.2)

-- the path goes one entry further back
pub leads_back : {S : Type 0} (es : List (Reached S)) (at k : ℕ) (e f : Reached S) (path more : List ℕ) → LeadsBack es at k path → slice_get es k ≡ Some e → 0 < k → slice_get es e.from ≡ Some f → more ≡ path ++ f.place ∷ [] → LeadsBack es at e.from more
leads_back es at zero e f path more b h p g w m x y l i j = absurd (omega arith)
leads_back es at (suc k) e f path more b h p g w m x y l i j =
    let c = b m e y l h j in
    let same : f ≡ x = cc in (
      e.place ∷ c.0,
      ap reverse w ∙ reverse-append path (f.place ∷ []) ∙ ap (λ (z : Reached _). z.place ∷ reverse path) same ∙ ap (λ ps. x.place ∷ ps) c.1,
      back m es k e x c.0 y.place y.state l h i c.2,
    )

pub arrives_first : {S : Type 0} (es : List (Reached S)) (at k : ℕ) (path whole : List ℕ) → LeadsBack es at k path → k ≤ 0 → k < length es → whole ≡ reverse path → (m : Machine S) (e : Reached S) → AreLinked m es → slice_get es at ≡ Some e → ArrivesBy m whole e.place e.state
arrives_first es at zero path whole b z w is m e l h =
    let f = get_some es zero w in
    let c = b m f.0 e l f.1 h in
    let i = l zero f.0 f.1 in
    let d : Leads m 0 m.entry c.0 e.place e.state = subst (λ (x : ℕ). Leads m x m.entry c.0 e.place e.state) i.0 (subst (λ (x : _). Leads m f.0.place x c.0 e.place e.state) i.1 c.2) in
    subst (λ ps. ArrivesBy m ps e.place e.state) (sym (is ∙ c.1)) (i.0, d)
arrives_first es at (suc k) path whole b z w is m e l h = absurd (omega arith)
