-- What lines that are longer than there are classes say, and lines that end or go round a circle.
use Rattle.std.proofs.Common.{◌≡◌, ℕ, zero, suc, ◌+◌, ◌-◌, ◌<◌, ◌≤◌, min, List, [], ◌∷◌, ◌++◌, Option, Some, None, option_and_then, unwrap_or, length, refl, sym, ap, ◌∙◌, suc-add, zero-add, arith, inl, inr, ◌⊎◌}
use Rattle.std.proofs.lemmas.Bool.{cases_eq, cases_lt}
use Rattle.std.proofs.lemmas.Option.{slice_get_past}
use Rattle.kilim_program.specs.declared.names.ClassId.{ClassId}
use Rattle.kilim_link_inherited.specs.declared.entry.Entry.{Entry}
use Rattle.kilim_link_inherited.specs.Fronts.{class_after}
use Rattle.kilim_link_inherited.specs.Inherited.{said_of, said_at, said_or, inherited, up_in, line_up, line_in, from_above}

-- what was said, else what may be said later
abbrev pub first_or : Option (Option ℕ) → Option (Option ℕ) → Option (Option ℕ)
first_or None later = later
first_or (Some value) later = Some value

-- the first that is said in a line, none where nothing is said
abbrev pub first_in : List (List Entry) → ℕ → List ClassId → Option (Option ℕ)
first_in entries k [] = None
first_in entries k (c ∷ line) = first_or (said_at entries k c) (first_in entries k line)

-- ---- the pigeonhole principle
abbrev Found : (ℕ → ℕ) → ℕ → ℕ → Type 0
Found f n x = (i : ℕ) × ((i < n) × (f i ≡ x))

found_or_not : (f : ℕ → ℕ) (n x : ℕ) → Found f n x ⊎ ((i : ℕ) → i < n → f i ≡ x → ⊥)
found_or_not f zero x = inr (λ i lt e. omega arith)
found_or_not f (suc n) x =
    elim (cases_eq (f n) x) [
      | inl is ↦ inl (n, (omega arith, is))
      | inr isnt ↦
          elim (found_or_not f n x) [
            | inl found ↦ let lt = found.1.0 in inl (found.0, (omega arith, found.1.1))
            | inr none ↦ inr (λ i lt e. elim (cases_eq i n) [ inl last ↦ isnt (sym (ap f last) ∙ e) | inr other ↦ none i (omega arith) e ])
          ]
    ]

abbrev Twice : (ℕ → ℕ) → ℕ → Type 0
Twice f n = (i : ℕ) × ((j : ℕ) × ((i < j) × ((j < n) × (f i ≡ f j))))

-- the numbers above y, each less by one
abbrev closed_up : ℕ → ℕ → ℕ
closed_up y x = x - (1 - (1 - (x - y)))

-- other numbers than y stay apart
opened : (y a b : ℕ) → (a ≡ y → ⊥) → (b ≡ y → ⊥) → closed_up y a ≡ closed_up y b → a ≡ b
opened y a b p q e = omega arith

-- of more numbers than there are below m, two are the same
pigeonhole : (n m : ℕ) (f : ℕ → ℕ) → ((i : ℕ) → i < n → f i < m) → m < n → Twice f n
pigeonhole zero m f into lt = absurd (omega arith)
pigeonhole (suc n) zero f into lt = absurd (let p = into n (omega arith) in omega arith)
pigeonhole (suc n) (suc m) f into lt =
    elim (found_or_not f n (f n)) [
      | inl found ↦ let p = found.1.0 in (found.0, (n, (p, (omega arith, found.1.1))))
      | inr none ↦
          let last = into n (omega arith) in
          let two = pigeonhole n m (λ i. closed_up (f n) (f i)) (λ i p. let at = into i (omega arith) in let other = none i p in omega arith) (omega arith) in
          let p = two.1.1.0 in
          let q = two.1.1.1.0 in
          (two.0, (two.1.0, (p, (omega arith, opened (f n) (f two.0) (f two.1.0) (none two.0 (omega arith)) (none two.1.0 q) two.1.1.1.1))))
    ]

-- ---- what is said in parts of a line
said_joined : (x xs : Option (Option ℕ)) (later : Option ℕ) → said_or x (said_or xs later) ≡ said_or (first_or x xs) later
said_joined None xs later = refl
said_joined (Some value) xs later = refl

pub inherited_joined : (entries : List (List Entry)) (k : ℕ) (xs ys : List ClassId) → inherited entries k (xs ++ ys) ≡ said_or (first_in entries k xs) (inherited entries k ys)
inherited_joined entries k [] ys = refl
inherited_joined entries k (c ∷ xs) ys = ap (said_or (said_at entries k c)) (inherited_joined entries k xs ys) ∙ said_joined (said_at entries k c) (first_in entries k xs) (inherited entries k ys)

none_first : (x later : Option (Option ℕ)) → first_or x later ≡ None → (x ≡ None) × (later ≡ None)
none_first None later e = (refl, e)
none_first (Some value) later e = absurd cc

none_said : (x : Option (Option ℕ)) (later : Option ℕ) → x ≡ None → later ≡ None → said_or x later ≡ None
none_said None later e none = none
none_said (Some value) later e none = absurd cc

-- the number of a class, n where there is no class below n
abbrev number : ℕ → Option ClassId → ℕ
number n None = n
number n (Some c) = min c.0 n

number_up_to : (n : ℕ) (o : Option ClassId) → number n o ≤ n
number_up_to n None = omega arith
number_up_to n (Some c) = omega arith

same_class : (n : ℕ) (o p : Option ClassId) → number n o ≡ number n p → (number n o ≡ n → ⊥) → o ≡ p
same_class n None p e below = absurd (below refl)
same_class n (Some c) None e below = absurd (below e)
same_class n (Some c) (Some d) e below = let is : c.0 ≡ d.0 = omega arith in ap (λ (m : ℕ). let x : ClassId = record { 0 = m } in Some x) is

module _ (ups : List (Option ClassId)) where
  -- the line from there on, empty where there is no class
  abbrev line_from : ℕ → Option ClassId → List ClassId
  line_from n None = []
  line_from n (Some c) = line_up ups n c

  abbrev after_from : ℕ → Option ClassId → Option ClassId
  after_from m o = option_and_then (class_after ups m) o

  from_is : (n : ℕ) (o : Option ClassId) → elim o [ None ↦ [] | Some up ↦ line_up ups n up ] ≡ line_from n o
  from_is n None = refl
  from_is n (Some up) = refl

  line_more : (n : ℕ) (c : ClassId) → line_up ups (suc n) c ≡ c ∷ line_from n (up_in ups c)
  line_more n c = ap (λ (line : List ClassId). c ∷ line) (from_is n (up_in ups c))

  line_joined : (m n : ℕ) (o : Option ClassId) → line_from (m + n) o ≡ line_from m o ++ line_from n (after_from m o)
  line_joined m n None = refl
  line_joined zero n (Some c) = rw (zero-add n) refl
  line_joined (suc m) n (Some c) =
      let rest = ap (λ (line : List ClassId). c ∷ line) (line_joined m n (up_in ups c)) in
      let front = ap (λ (line : List ClassId). line ++ line_from n (after_from m (up_in ups c))) (line_more m c) in
      rw (suc-add m n) (line_more (m + n) c ∙ (rest ∙ sym front))

  after_joined : (m n : ℕ) (o : Option ClassId) → after_from (m + n) o ≡ after_from n (after_from m o)
  after_joined m n None = refl
  after_joined zero n (Some c) = rw (zero-add n) refl
  after_joined (suc m) n (Some c) = rw (suc-add m n) (after_joined m n (up_in ups c))

  module _ (entries : List (List Entry)) (k : ℕ) where
    -- what the first n classes from there on say
    abbrev told : ℕ → Option ClassId → Option ℕ
    told n o = inherited entries k (line_from n o)

    abbrev first_told : ℕ → Option ClassId → Option (Option ℕ)
    first_told n o = first_in entries k (line_from n o)

    told_joined : (m n total : ℕ) (o : Option ClassId) → total ≡ m + n → told total o ≡ said_or (first_told m o) (told n (after_from m o))
    told_joined m n total o is =
        ap (λ (t : ℕ). told t o) is
        ∙ (ap (inherited entries k) (line_joined m n o) ∙ inherited_joined entries k (line_from m o) (line_from n (after_from m o)))

    -- where the first m classes say nothing, fewer say nothing
    told_none : (m n : ℕ) (o : Option ClassId) → n ≤ m → first_told m o ≡ None → told n o ≡ None
    told_none m n None le e = refl
    told_none m zero (Some c) le e = refl
    told_none zero (suc n) (Some c) le e = absurd (omega arith)
    told_none (suc m) (suc n) (Some c) le e =
        let none = none_first (said_at entries k c) (first_told m (up_in ups c)) (sym (ap (first_in entries k) (line_more m c)) ∙ e) in
        ap (inherited entries k) (line_more n c)
        ∙ none_said (said_at entries k c) (told n (up_in ups c)) none.0 (told_none m n (up_in ups c) (omega arith) none.1)

    -- a circle of suc m classes: going round it again says nothing new
    module _ (o : Option ClassId) (m : ℕ) (round : after_from (suc m) o ≡ o) where
      once_more : (n : ℕ) → suc m ≤ n → told n o ≡ said_or (first_told (suc m) o) (told (n - suc m) o)
      once_more n le = told_joined (suc m) (n - suc m) n o (omega arith) ∙ ap (λ (p : Option ClassId). said_or (first_told (suc m) o) (told (n - suc m) p)) round

      silent : first_told (suc m) o ≡ None → (bound n : ℕ) → n ≤ bound → told n o ≡ None
      silent none zero n le = told_none (suc m) n o (omega arith) none
      silent none (suc bound) n le =
          elim (cases_lt n (suc m)) [
            | inl lt ↦ told_none (suc m) n o (omega arith) none
            | inr ge ↦ once_more n ge ∙ none_said (first_told (suc m) o) (told (n - suc m) o) none (silent none bound (n - suc m) (omega arith))
          ]

      told_by : (first : Option (Option ℕ)) → first_told (suc m) o ≡ first → (n : ℕ) → said_or first (told n o) ≡ said_or first None
      told_by None is n = silent is n n (omega arith)
      told_by (Some value) is n = refl

      told_round : (n p : ℕ) → suc m ≤ n → suc m ≤ p → told n o ≡ told p o
      told_round n p le more =
          let first = told_by (first_told (suc m) o) refl in
          once_more n le ∙ (first (n - suc m) ∙ (sym (first (p - suc m)) ∙ sym (once_more p more)))

    -- a line of n classes and one of one more, where there are no more than n
    module _ (n : ℕ) (fit : length ups ≤ n) (entries_fit : length entries ≤ n) (c : ClassId) where
      -- past the end nothing is said
      none_past : (t : ℕ) (o : Option ClassId) → number n o ≡ n → told t o ≡ None
      none_past t None e = refl
      none_past zero (Some d) e = refl
      none_past (suc t) (Some d) e =
          let above : up_in ups d ≡ None = ap (λ (o : Option (Option ClassId)). unwrap_or o None) (slice_get_past ups d.0 (omega arith)) in
          let here : said_at entries k d ≡ None = ap (λ (o : Option (List Entry)). said_of o k) (slice_get_past entries d.0 (omega arith)) in
          ap (inherited entries k) (line_more t d) ∙ none_said (said_at entries k d) (told t (up_in ups d)) here (ap (told t) above)

      -- what comes after the first i classes says the same, so the lines do
      same_after : (i : ℕ) → i ≤ n → told (suc n - i) (class_after ups i c) ≡ told (n - i) (class_after ups i c) → told (suc n) (Some c) ≡ told n (Some c)
      same_after i le same =
          told_joined i (suc n - i) (suc n) (Some c) (omega arith)
          ∙ (ap (said_or (first_told i (Some c))) same ∙ sym (told_joined i (n - i) n (Some c) (omega arith)))

      -- a class that is met twice is on a circle
      meets_twice : (i j : ℕ) → i < j → j ≤ n → class_after ups j c ≡ class_after ups i c → told (suc n) (Some c) ≡ told n (Some c)
      meets_twice i j lt le again =
          let m = j - suc i in
          let is : i + suc m ≡ j = omega arith in
          let round : after_from (suc m) (class_after ups i c) ≡ class_after ups i c = sym (after_joined i (suc m) (Some c)) ∙ (ap (λ (t : ℕ). class_after ups t c) is ∙ again) in
          same_after i (omega arith) (told_round (class_after ups i c) m round (suc n - i) (n - i) (omega arith) (omega arith))

      abbrev met : ℕ → ℕ
      met i = number n (class_after ups i c)

      -- either the line leaves the classes, or it meets one twice
      last_says_nothing : told (suc n) (Some c) ≡ told n (Some c)
      last_says_nothing =
          elim (found_or_not met (suc n) n) [
            | inl past ↦ same_after past.0 (let lt = past.1.0 in omega arith) (none_past (suc n - past.0) (class_after ups past.0 c) past.1.1 ∙ sym (none_past (n - past.0) (class_after ups past.0 c) past.1.1))
            | inr inside ↦
                let two = pigeonhole (suc n) n met (λ i lt. let le = number_up_to n (class_after ups i c) in let other = inside i lt in omega arith) (omega arith) in
                let lt = two.1.1.0 in
                let within = two.1.1.1.0 in
                meets_twice two.0 two.1.0 lt (omega arith) (same_class n (class_after ups two.1.0 c) (class_after ups two.0 c) (sym two.1.1.1.1) (inside two.1.0 within))
          ]

    pub joined : (c d : ClassId) (m n : ℕ) → class_after ups m c ≡ Some d → inherited entries k (line_up ups (m + n) c) ≡ inherited entries k (line_up ups m c ++ line_up ups n d)
    joined c d m n e = ap (inherited entries k) (line_joined m n (Some c) ∙ ap (λ (o : Option ClassId). line_up ups m c ++ line_from n o) e)

    module _ (fit : length entries ≤ length ups) where
      pub more_is_same : (c : ClassId) (extra : ℕ) → inherited entries k (line_up ups (length ups + extra) c) ≡ inherited entries k (line_in ups c)
      more_is_same c zero = let is : length ups + 0 ≡ length ups = omega arith in ap (λ (t : ℕ). told t (Some c)) is
      more_is_same c (suc extra) =
          let is : length ups + suc extra ≡ suc (length ups + extra) = omega arith in
          ap (λ (t : ℕ). told t (Some c)) is ∙ (last_says_nothing (length ups + extra) (omega arith) (omega arith) c ∙ more_is_same c extra)

      -- the first m classes of a line, and from there on as many as there are classes
      whole : (c : ClassId) (m : ℕ) → said_or (first_told m (Some c)) (told (length ups) (class_after ups m c)) ≡ told (length ups) (Some c)
      whole c m = sym (told_joined m (length ups) (length ups + m) (Some c) (omega arith)) ∙ more_is_same c m

      pub closed_is_same : (c : ClassId) (m : ℕ) → class_after ups (suc m) c ≡ Some c → inherited entries k (line_up ups (suc m) c) ≡ inherited entries k (line_in ups c)
      closed_is_same c m round = told_round (Some c) m round (suc m) (length ups + suc m) (omega arith) (omega arith) ∙ more_is_same c (suc m)

      pub ended_is_same : (c : ClassId) (m : ℕ) → class_after ups m c ≡ None → inherited entries k (line_up ups m c) ≡ inherited entries k (line_in ups c)
      ended_is_same c m e =
          let first = λ (o : Option ℕ). said_or (first_told m (Some c)) o in
          told_joined m 0 m (Some c) (omega arith) ∙ (ap first (ap (told 0) e ∙ sym (ap (told (length ups)) e)) ∙ whole c m)

      pub made_is_same : (c d : ClassId) (m : ℕ) → class_after ups m c ≡ Some d → said_or (first_in entries k (line_up ups m c)) (inherited entries k (line_in ups d)) ≡ inherited entries k (line_in ups c)
      made_is_same c d m e = ap (λ (o : Option ClassId). said_or (first_told m (Some c)) (told (length ups) o)) (sym e) ∙ whole c m

      above_told : (o : Option ClassId) → from_above (λ up. inherited entries k (line_in ups up)) o ≡ told (length ups) o
      above_told None = refl
      above_told (Some up) = refl

      pub one_more : (c : ClassId) → said_or (said_at entries k c) (from_above (λ up. inherited entries k (line_in ups up)) (up_in ups c)) ≡ inherited entries k (line_in ups c)
      one_more c =
          ap (said_or (said_at entries k c)) (above_told (up_in ups c))
          ∙ (ap (inherited entries k) (sym (line_more (length ups) c)) ∙ last_says_nothing (length ups) (omega arith) fit c)
