-- One pass more for each worker, and back.
use Rattle.std.proofs.Common.{◌≡◌, ◌≢◌, ℕ, zero, suc, ◌+◌, ◌<◌, ◌≤◌, Bool, true, false, ◌==◌, nat_lt, List, [], ◌∷◌, ◌++◌, append_assoc, append-nil, length, length-append, map, refl, sym, ap, subst, ◌∙◌, option_to_list, arith}
use Rattle.std.specs.Prelude.{slice_index_or, slice_set, Option, Some, None}
use Rattle.std.proofs.lemmas.Bool.Decides.{nat_tests}
use Rattle.kilim_run_turn.specs.declared.pass.Pass.{Pass}
use Rattle.kilim_run_turn.specs.Turns.{seat_of, IsOutside, AreAllAt}
use Rattle.kilim_mail_crew.specs.declared.crew.Worker.{Worker}
use Rattle.kilim_mail_crew.specs.Crew.{Table, own_of, AreOf, AreDealt, Collecting, IsBack, AllComeBack}

-- ---- lists in which one element changes

pub set_there : {A : Type 0} (xs : List A) (k : ℕ) (y d : A) → k < length xs → slice_index_or (slice_set xs k y) k d ≡ y
set_there [] k y d lt = absurd (omega arith)
set_there (x ∷ xs) zero y d lt = refl
set_there (x ∷ xs) (suc k) y d lt = set_there xs k y d (omega arith)

pub set_other : {A : Type 0} (xs : List A) (k j : ℕ) (y d : A) → j ≢ k → slice_index_or (slice_set xs k y) j d ≡ slice_index_or xs j d
set_other [] k j y d ne = refl
set_other (x ∷ xs) zero zero y d ne = absurd (ne refl)
set_other (x ∷ xs) zero (suc j) y d ne = refl
set_other (x ∷ xs) (suc k) zero y d ne = refl
set_other (x ∷ xs) (suc k) (suc j) y d ne = set_other xs k j y d (λ e. ne (ap suc e))

pub set_size : {A : Type 0} (xs : List A) (k : ℕ) (y : A) → length (slice_set xs k y) ≡ length xs
set_size [] k y = refl
set_size (x ∷ xs) zero y = refl
set_size (x ∷ xs) (suc k) y = ap suc (set_size xs k y)

pub any_default : {A : Type 0} (xs : List A) (k : ℕ) (d e : A) → k < length xs → slice_index_or xs k d ≡ slice_index_or xs k e
any_default [] k d e lt = absurd (omega arith)
any_default (x ∷ xs) zero d e lt = refl
any_default (x ∷ xs) (suc k) d e lt = any_default xs k d e (omega arith)

map_set : {A B : Type 0} (f : A → B) (xs : List A) (k : ℕ) (v d : A) → k < length xs → f v ≡ f (slice_index_or xs k d) → map f (slice_set xs k v) ≡ map f xs
map_set f [] k v d lt e = refl
map_set f (x ∷ xs) zero v d lt e = ap (λ y. y ∷ map f xs) e
map_set f (x ∷ xs) (suc k) v d lt e = ap (λ ys. f x ∷ ys) (map_set f xs k v d (omega arith) e)

at_seam : (xs ys : List Pass) (p d : Pass) → slice_index_or (xs ++ p ∷ ys) (length xs) d ≡ p
at_seam [] ys p d = refl
at_seam (x ∷ xs) ys p d = at_seam xs ys p d

get_front : {A : Type 0} (xs ys : List A) (k : ℕ) (d : A) → k < length xs → slice_index_or (xs ++ ys) k d ≡ slice_index_or xs k d
get_front [] ys k d lt = absurd (omega arith)
get_front (x ∷ xs) ys zero d lt = refl
get_front (x ∷ xs) ys (suc k) d lt = get_front xs ys k d (omega arith)

get_last : {A : Type 0} (xs : List A) (y d : A) → slice_index_or (xs ++ y ∷ []) (length xs) d ≡ y
get_last [] y d = refl
get_last (x ∷ xs) y d = get_last xs y d

one_more : (seat : ℕ) (ts : List (Table)) (t : Table) (ps : List Pass) (p : Pass) → AreOf seat ts ps → IsOutside t.table t.seats p → seat_of p ≡ seat → AreOf seat (ts ++ t ∷ []) (ps ++ p ∷ [])
one_more seat ts t ps p are is same = record {
  size = length-append ps (p ∷ []) ∙ (ap (λ (n : ℕ). n + 1) are.size ∙ sym (length-append ts (t ∷ [])));
  each = λ k d e lt. each k d e lt (nat_lt k (length ps)) refl;
  seats = λ k e lt. seats k e lt (nat_lt k (length ps)) refl;
}
  where
    each : (k : ℕ) (d : Table) (e : Pass) → k < length (ps ++ p ∷ []) → (b : Bool) → nat_lt k (length ps) ≡ b → IsOutside (slice_index_or (ts ++ t ∷ []) k d).table (slice_index_or (ts ++ t ∷ []) k d).seats (slice_index_or (ps ++ p ∷ []) k e)
    each k d e lt true q =
        let low : k < length ps = grind (arith, nat_tests) in
        let z = are.size in
        subst (λ (x : Table). IsOutside x.table x.seats (slice_index_or (ps ++ p ∷ []) k e)) (sym (get_front ts (t ∷ []) k d (omega arith)))
        (subst (λ (x : Pass). IsOutside (slice_index_or ts k d).table (slice_index_or ts k d).seats x) (sym (get_front ps (p ∷ []) k e low)) (are.each k d e low))
    each k d e lt false q =
        let high : length ps ≤ k = grind (arith, nat_tests) in
        let l = length-append ps (p ∷ []) in
        let same-k : length ps ≡ k = omega arith in
        let same-t : length ts ≡ k = sym are.size ∙ same-k in
        subst (λ (x : Table). IsOutside x.table x.seats (slice_index_or (ps ++ p ∷ []) k e)) (sym (subst (λ (n : ℕ). slice_index_or (ts ++ t ∷ []) n d ≡ t) same-t (get_last ts t d)))
        (subst (λ (x : Pass). IsOutside t.table t.seats x) (sym (subst (λ (n : ℕ). slice_index_or (ps ++ p ∷ []) n e ≡ p) same-k (get_last ps p e))) is)

    seats : (k : ℕ) (e : Pass) → k < length (ps ++ p ∷ []) → (b : Bool) → nat_lt k (length ps) ≡ b → seat_of (slice_index_or (ps ++ p ∷ []) k e) ≡ seat
    seats k e lt true q = let low : k < length ps = grind (arith, nat_tests) in ap seat_of (get_front ps (p ∷ []) k e low) ∙ are.seats k e low
    seats k e lt false q =
        let high : length ps ≤ k = grind (arith, nat_tests) in
        let l = length-append ps (p ∷ []) in
        let same-k : length ps ≡ k = omega arith in
        ap seat_of (subst (λ (n : ℕ). slice_index_or (ps ++ p ∷ []) n e ≡ p) same-k (get_last ps p e)) ∙ same

first_pass : (ps : List Pass) → 0 < length ps → Pass
first_pass [] lt = absurd (omega arith)
first_pass (p ∷ ps) lt = p

one_fewer : (seat : ℕ) (ts : List (Table)) (t : Table) (ps : List Pass) (p : Pass) → AreOf seat (ts ++ t ∷ []) (ps ++ p ∷ []) → AreOf seat ts ps × IsOutside t.table t.seats p × (seat_of p ≡ seat)
one_fewer seat ts t ps p are =
    let size : length ps ≡ length ts = let a = are.size in let b = length-append ps (p ∷ []) in let c = length-append ts (t ∷ []) in omega arith in
    let long = length-append ps (p ∷ []) in
    let last : length ps < length (ps ++ p ∷ []) = omega arith in (
      record {
        size = size;
        each = λ k d e lt. subst (λ (x : Table). IsOutside x.table x.seats (slice_index_or ps k e)) (get_front ts (t ∷ []) k d (omega arith))
            (subst (λ (x : Pass). IsOutside (slice_index_or (ts ++ t ∷ []) k d).table (slice_index_or (ts ++ t ∷ []) k d).seats x) (get_front ps (p ∷ []) k e lt) (are.each k d e (omega arith)));
        seats = λ k e lt. ap seat_of (sym (get_front ps (p ∷ []) k e lt)) ∙ are.seats k e (omega arith);
      },
      subst (λ (x : Table). IsOutside x.table x.seats p) (subst (λ (n : ℕ). slice_index_or (ts ++ t ∷ []) n t ≡ t) (sym size) (get_last ts t t))
          (subst (λ (x : Pass). IsOutside (slice_index_or (ts ++ t ∷ []) (length ps) t).table (slice_index_or (ts ++ t ∷ []) (length ps) t).seats x) (get_last ps p p) (are.each (length ps) t p last)),
      ap seat_of (sym (get_last ps p p)) ∙ are.seats (length ps) p last,
    )

module _ {L : Type 0} where
  -- the workers from the number of the passes that are left on have their pass
  pub record Dealing (ws0 : List (Worker L)) (ps0 : List Pass) (ws : List (Worker L)) (ps : List Pass) : Type 0 where
    pub size : length ws ≡ length ws0
    pub many : length ws0 ≡ length ps0
    pub rest : List Pass
    pub split : ps0 ≡ ps ++ rest
    pub before : (s : ℕ) (d : Worker L) → s < length ps → slice_index_or ws s d ≡ slice_index_or ws0 s d
    pub own : map own_of ws ≡ map own_of ws0
    pub after : (s : ℕ) (d : Worker L) (e : Pass) → length ps ≤ s → s < length ws → (slice_index_or ws s d).passes.items ≡ (slice_index_or ws0 s d).passes.items ++ slice_index_or ps0 s e ∷ []

  pub starts : (ws : List (Worker L)) (ps : List Pass) → length ws ≡ length ps → Dealing ws ps ws ps
  starts ws ps size = record {
    size = refl;
    many = size;
    rest = [];
    split = sym (append-nil ps);
    before = λ s d lt. refl;
    own = refl;
    after = λ s d e le lt. absurd (omega arith);
  }

  pub goes_on : (ws0 ws : List (Worker L)) (ps0 ps ps' : List Pass) (p : Pass) (w v : Worker L) (o : Option Pass) → Dealing ws0 ps0 ws ps → ps ≡ ps' ++ option_to_list o → o ≡ Some p → w ≡ slice_index_or ws (length ps') w → v.passes.items ≡ w.passes.items ++ p ∷ [] → v.own ≡ w.own →
      Dealing ws0 ps0 (slice_set ws (length ps') v) ps'
  goes_on ws0 ws ps0 ps ps' p w v o d popped some there more same-own = record {
    size = set_size ws (length ps') v ∙ d.size;
    many = d.many;
    rest = p ∷ d.rest;
    split = split;
    before = λ s e lt. set_other ws (length ps') s v e (λ same. absurd (omega arith)) ∙ d.before s e (let l = long in omega arith);
    own = map_set own_of ws (length ps') v w within (same-own ∙ ap own_of there) ∙ d.own;
    after = λ s e f le lt. by s e f le lt (s == length ps') refl;
  }
    where
      is : ps ≡ ps' ++ p ∷ []
      is = popped ∙ ap (λ (x : Option Pass). ps' ++ option_to_list x) some

      long : length ps ≡ length ps' + 1
      long = ap length is ∙ length-append ps' (p ∷ [])

      split : ps0 ≡ ps' ++ (p ∷ d.rest)
      split = d.split ∙ (ap (λ (xs : List Pass). xs ++ d.rest) is ∙ append_assoc ps' (p ∷ []) d.rest)

      within : length ps' < length ws
      within = let a = ap length split in let b = length-append ps' (p ∷ d.rest) in let m = d.many in let n = d.size in omega arith

      by : (s : ℕ) (e : Worker L) (f : Pass) → length ps' ≤ s → s < length (slice_set ws (length ps') v) → (b : Bool) → (s == length ps') ≡ b →
          (slice_index_or (slice_set ws (length ps') v) s e).passes.items ≡ (slice_index_or ws0 s e).passes.items ++ slice_index_or ps0 s f ∷ []
      by s e f le lt true q =
          let same : length ps' ≡ s = grind (arith, nat_tests) in
          let w-is : slice_index_or ws0 (length ps') e ≡ w = sym (d.before (length ps') e (let l = long in omega arith)) ∙ (any_default ws (length ps') e w within ∙ sym there) in
          let p-is : slice_index_or ps0 (length ps') f ≡ p = ap (λ (xs : List Pass). slice_index_or xs (length ps') f) split ∙ at_seam ps' d.rest p f in
          let here : (slice_index_or (slice_set ws (length ps') v) (length ps') e).passes.items ≡ (slice_index_or ws0 (length ps') e).passes.items ++ slice_index_or ps0 (length ps') f ∷ [] =
          ap (λ (x : Worker L). x.passes.items) (set_there ws (length ps') v e within)
          ∙ (more ∙ (ap (λ (x : Worker L). x.passes.items ++ p ∷ []) (sym w-is) ∙ ap (λ (x : Pass). (slice_index_or ws0 (length ps') e).passes.items ++ x ∷ []) (sym p-is))) in
          subst (λ (k : ℕ). (slice_index_or (slice_set ws (length ps') v) k e).passes.items ≡ (slice_index_or ws0 k e).passes.items ++ slice_index_or ps0 k f ∷ []) same here
      by s e f le lt false q =
          let l = long in
          let z = set_size ws (length ps') v in
          let over : length ps ≤ s = grind (arith, nat_tests) in
          ap (λ (x : Worker L). x.passes.items) (set_other ws (length ps') s v e (λ same. absurd (let h : (s == length ps') ≡ true = grind (arith, nat_tests) in let k : true ≡ false = sym h ∙ q in cc)))
          ∙ d.after s e f over (omega arith)

  -- ---- a row with one pass more

  pub dealt : (ws0 ws : List (Worker L)) (ps : List Pass) (ts : List (Table)) (t : Table) → Dealing ws0 ps ws [] → AreDealt ts ws0 → AreAllAt t.table t.seats ps → AreDealt (ts ++ t ∷ []) ws
  dealt ws0 ws ps ts t d old all = λ s e lt.
      let z = d.size in
      let m = d.many in
      let p = slice_index_or ps s (first_pass ps all.0) in
      subst (λ (xs : List Pass). AreOf s (ts ++ t ∷ []) xs) (sym (d.after s e (first_pass ps all.0) (let h : 0 ≤ s = omega arith in h) lt))
      (one_more s ts t (slice_index_or ws0 s e).passes.items p (old s e (omega arith)) (all.2 s (first_pass ps all.0) (omega arith)) (all.3 s (first_pass ps all.0) (omega arith)))

  -- ---- and back

  pub none_collected : (ws : List (Worker L)) (ps : List Pass) → ps ≡ [] → Collecting ws ws ps 0
  none_collected ws ps e = record {
    size = refl;
    many = ap length e;
    done = λ s d f lt. absurd (omega arith);
    left = λ s d le lt. refl;
    own = refl;
  }

  pub one_collected : (ws0 ws : List (Worker L)) (ps ps' : List Pass) (i : ℕ) (w v : Worker L) (p : Pass) → Collecting ws0 ws ps i → i < length ws → w ≡ slice_index_or ws i w → (slice_index_or ws i w).passes.items ≡ v.passes.items ++ p ∷ [] → ps' ≡ ps ++ p ∷ [] → v.own ≡ w.own →
      Collecting ws0 (slice_set ws i v) ps' (i + 1)
  one_collected ws0 ws ps ps' i w v p c lt there gave more same-own = record {
    size = set_size ws i v ∙ c.size;
    many = ap length more ∙ (length-append ps (p ∷ []) ∙ ap (λ (n : ℕ). n + 1) c.many);
    done = λ s d e less. done s d e less (s == i) refl;
    left = λ s d le less. set_other ws i s v d (λ same. absurd (omega arith)) ∙ c.left s d (omega arith) (let z = set_size ws i v in omega arith);
    own = map_set own_of ws i v w lt (same-own ∙ ap own_of there) ∙ c.own;
  }
    where
      done : (s : ℕ) (d : Worker L) (e : Pass) → s < i + 1 → (b : Bool) → (s == i) ≡ b → (slice_index_or ws0 s d).passes.items ≡ (slice_index_or (slice_set ws i v) s d).passes.items ++ slice_index_or ps' s e ∷ []
      done s d e less true q =
          let same : i ≡ s = grind (arith, nat_tests) in
          let old : slice_index_or ws0 i d ≡ slice_index_or ws i w = sym (c.left i d (let h : i ≤ i = omega arith in h) lt) ∙ any_default ws i d w lt in
          let last : slice_index_or ps' i e ≡ p = ap (λ (xs : List Pass). slice_index_or xs i e) more ∙ subst (λ (n : ℕ). slice_index_or (ps ++ p ∷ []) n e ≡ p) c.many (get_last ps p e) in
          let here : (slice_index_or ws0 i d).passes.items ≡ (slice_index_or (slice_set ws i v) i d).passes.items ++ slice_index_or ps' i e ∷ [] =
          ap (λ (x : Worker L). x.passes.items) old
          ∙ (gave ∙ (ap (λ (x : Worker L). x.passes.items ++ p ∷ []) (sym (set_there ws i v d lt)) ∙ ap (λ (x : Pass). (slice_index_or (slice_set ws i v) i d).passes.items ++ x ∷ []) (sym last))) in
          subst (λ (k : ℕ). (slice_index_or ws0 k d).passes.items ≡ (slice_index_or (slice_set ws i v) k d).passes.items ++ slice_index_or ps' k e ∷ []) same here
      done s d e less false q =
          let low : s < i = grind (arith, nat_tests) in
          let m = c.many in
          c.done s d e low
          ∙ (ap (λ (x : Worker L). x.passes.items ++ slice_index_or ps s e ∷ []) (sym (set_other ws i s v d (λ same. absurd (omega arith))))
          ∙ ap (λ (x : Pass). (slice_index_or (slice_set ws i v) s d).passes.items ++ x ∷ []) (sym (ap (λ (xs : List Pass). slice_index_or xs s e) more ∙ get_front ps (p ∷ []) s e (omega arith))))

  -- the passes that were given are all of the last turn, and the workers have those of the others
  pub collected : (ws0 ws : List (Worker L)) (ps : List Pass) (ts : List (Table)) (t : Table) (w : Worker L) → Collecting ws0 ws ps (length ws0) → AreDealt (ts ++ t ∷ []) ws0 → t.seats ≡ length ws0 → 0 < length ws0 →
      IsBack ts t ws ps
  collected ws0 ws ps ts t w c dealt seats some =
      let m = c.many in
      let z = c.size in
      record {
        passes = (omega arith, m ∙ sym seats, (λ k d lt. (each k w d (omega arith)).1), (λ k d lt. (each k w d (omega arith)).2));
        others = λ s d lt. (each s d (first_pass ps (omega arith)) (omega arith)).0;
      }
    where
      each : (s : ℕ) (d : Worker L) (e : Pass) → s < length ws0 → AreOf s ts (slice_index_or ws s d).passes.items × IsOutside t.table t.seats (slice_index_or ps s e) × (seat_of (slice_index_or ps s e) ≡ s)
      each s d e lt = one_fewer s ts t (slice_index_or ws s d).passes.items (slice_index_or ps s e) (subst (λ (xs : List Pass). AreOf s (ts ++ t ∷ []) xs) (c.done s d e lt) (dealt s d lt))

  first_worker : (ws : List (Worker L)) → 0 < length ws → Worker L
  first_worker [] lt = absurd (omega arith)
  first_worker (w ∷ ws) lt = w

  pub all_come_back : (ws0 ws : List (Worker L)) (ps : List Pass) → AllComeBack ws0 ws ps
  all_come_back ws0 ws ps turns turn taken dealt seats some = collected ws0 ws ps turns turn (first_worker ws0 some) taken dealt seats some
