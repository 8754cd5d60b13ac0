-- Loops that append something for each element.
use Rattle.std.proofs.Common.{◌≡◌, ℕ, zero, suc, ◌+◌, ◌-◌, ◌<◌, ◌≤◌, Bool, true, false, List, [], ◌∷◌, ◌++◌, length, get_or, map, take, drop, drop-cons, refl, sym, ap, ◌∙◌, add-one, append_assoc, arith, ◌||◌}
use Rattle.std.specs.List.{flat_map, list_any}
use Rattle.std.proofs.Math.Seq.{take-length}
use Rattle.std.proofs.lemmas.List.{append-nil, drop_all}
use Rattle.kilim_program.specs.declared.class.Method.{Method}
use Rattle.kilim_class_file.specs.declared.class_file.MemberInfo.{MemberInfo}
use Rattle.kilim_weave_file_spec.specs.WovenFile.{MethodPair, pairs_of}

pub mapped_ahead : {X A : Type 0} (f : X → A) (now next whole : List A) (xs : List X) (i : ℕ) (x d : X) (y : A) → i < length xs → x ≡ get_or xs i d → now ++ map f (drop i xs) ≡ whole → y ≡ f x
    → next ≡ now ++ y ∷ [] → next ++ map f (drop (i + 1) xs) ≡ whole
mapped_ahead {X = X} {A = A} f now next whole xs i x d y lt is so_far made step =
    let rest : List A = map f (drop (suc i) xs) in
    rw add-one
    (ap (λ (t : List A). t ++ rest) step
    ∙ (append_assoc now (y ∷ []) rest
    ∙ (ap (λ (z : A). now ++ (z ∷ rest)) (made ∙ ap f is) ∙ (ap (λ (ys : List X). now ++ map f ys) (sym (drop-cons xs i d lt)) ∙ so_far))))

-- so many elements, and one more
next_one : {X A : Type 0} (f : X → A) (xs : List X) (i : ℕ) (d : X) → i < length xs → map f (take i xs) ++ f (get_or xs i d) ∷ [] ≡ map f (take (suc i) xs)
next_one f [] i d lt = absurd (omega arith)
next_one f (x ∷ xs) zero d lt = refl
next_one {A = A} f (x ∷ xs) (suc i) d lt = ap (λ (t : List A). f x ∷ t) (next_one f xs i d (omega arith))

pub mapped : {X A : Type 0} (f : X → A) (now next : List A) (xs : List X) (i : ℕ) (x d : X) (y : A) → i < length xs → x ≡ get_or xs i d → now ≡ map f (take i xs) → y ≡ f x
    → next ≡ now ++ y ∷ [] → next ≡ map f (take (i + 1) xs)
mapped {A = A} f now next xs i x d y lt is so_far made step =
    rw add-one (step ∙ (ap (λ (t : List A). t ++ y ∷ []) so_far ∙ (ap (λ (z : A). map f (take i xs) ++ z ∷ []) (made ∙ ap f is) ∙ next_one f xs i d lt)))

-- ---- whether one passes a test

module _ {A : Type 0} (test : A → Bool) (items xs : List A) (i : ℕ) (x : A) {whole : Bool} (b : Bool) (same : items ≡ xs) (lt : i < length items) (is : x ≡ get_or items i x) (answers : b ≡ test x) (so_far : list_any test (drop i xs) ≡ whole) where
  here : (b || list_any test (drop (suc i) xs)) ≡ whole
  here =
      ap (λ (c : Bool). c || list_any test (drop (suc i) xs)) (answers ∙ ap test is)
      ∙ (ap (λ (ys : List A). test (get_or items i x) || list_any test (drop (suc i) ys)) (sym same)
      ∙ (sym (ap (list_any test) (drop-cons items i x lt)) ∙ (ap (λ (ys : List A). list_any test (drop i ys)) same ∙ so_far)))

  pub found_at : b ≡ true → true ≡ whole
  found_at t = ap (λ (c : Bool). c || list_any test (drop (suc i) xs)) (sym t) ∙ here

  pub passed_at : b ≡ false → list_any test (drop (i + 1) xs) ≡ whole
  passed_at t = rw add-one (ap (λ (c : Bool). c || list_any test (drop (suc i) xs)) (sym t) ∙ here)

-- ---- loops over several lists

-- what stands behind the first element
abbrev pub behind_first : {A : Type 0} → List A → List A
behind_first xs = take (length xs - 1) (drop 1 xs)

all_behind : {A : Type 0} (x : A) (xs : List A) → behind_first (x ∷ xs) ≡ xs
all_behind x xs = let all : length (x ∷ xs) - 1 ≡ length xs = omega arith in rw all (take-length xs)

-- where one list has ended, there is no pair
none_more : {A : Type 0} (f : MethodPair → List A) (pairs : List MethodPair) (now whole : List A) → pairs ≡ [] → now ++ flat_map f pairs ≡ whole → now ≡ whole
none_more {A = A} f pairs now whole none so_far = sym (append-nil now) ∙ (ap (λ (ps : List MethodPair). now ++ flat_map f ps) (sym none) ∙ so_far)

pub no_plain : {A : Type 0} (f : MethodPair → List A) (infos : List MemberInfo) (ps ms : List Method) (cs : List (List Bool)) (now whole : List A) → length ps < 1 → now ++ flat_map f (pairs_of infos ps ms cs) ≡ whole → now ≡ whole
no_plain f [] ps ms cs now whole lt so_far = none_more f [] now whole refl so_far
no_plain f (i ∷ infos) [] ms cs now whole lt so_far = none_more f [] now whole refl so_far
no_plain f (i ∷ infos) (p ∷ ps) ms cs now whole lt so_far = absurd (omega (arith, lt))

pub no_woven : {A : Type 0} (f : MethodPair → List A) (infos : List MemberInfo) (ps ms : List Method) (cs : List (List Bool)) (now whole : List A) → length ms < 1 → now ++ flat_map f (pairs_of infos ps ms cs) ≡ whole → now ≡ whole
no_woven f [] ps ms cs now whole lt so_far = none_more f [] now whole refl so_far
no_woven f (i ∷ infos) [] ms cs now whole lt so_far = none_more f [] now whole refl so_far
no_woven f (i ∷ infos) (p ∷ ps) [] cs now whole lt so_far = none_more f [] now whole refl so_far
no_woven f (i ∷ infos) (p ∷ ps) (m ∷ ms) cs now whole lt so_far = absurd (omega (arith, lt))

pub no_counted : {A : Type 0} (f : MethodPair → List A) (infos : List MemberInfo) (ps ms : List Method) (cs : List (List Bool)) (now whole : List A) → length cs < 1 → now ++ flat_map f (pairs_of infos ps ms cs) ≡ whole → now ≡ whole
no_counted f [] ps ms cs now whole lt so_far = none_more f [] now whole refl so_far
no_counted f (i ∷ infos) [] ms cs now whole lt so_far = none_more f [] now whole refl so_far
no_counted f (i ∷ infos) (p ∷ ps) [] cs now whole lt so_far = none_more f [] now whole refl so_far
no_counted f (i ∷ infos) (p ∷ ps) (m ∷ ms) [] now whole lt so_far = none_more f [] now whole refl so_far
no_counted f (i ∷ infos) (p ∷ ps) (m ∷ ms) (c ∷ cs) now whole lt so_far = absurd (omega (arith, lt))

-- the methods of a file with those of the two programs, behind one method more
pub paired : {A : Type 0} (f : MethodPair → List A) (infos : List MemberInfo) (ps ms : List Method) (cs : List (List Bool)) (i : ℕ) (info d : MemberInfo) (p m : Method) (marks none : List Bool) (now next whole : List A)
    → i < length infos → info ≡ get_or infos i d → 1 ≤ length ps → p ≡ get_or ps 0 p → 1 ≤ length ms → m ≡ get_or ms 0 m → 1 ≤ length cs → marks ≡ get_or cs 0 none
    → next ≡ now ++ f (record { info = info; plain = p; method = m; counted = marks }) → now ++ flat_map f (pairs_of (drop i infos) ps ms cs) ≡ whole
    → next ++ flat_map f (pairs_of (drop (i + 1) infos) (behind_first ps) (behind_first ms) (behind_first cs)) ≡ whole
paired f infos [] ms cs i info d p m marks none now next whole lt is some_p is_p some_m is_m some_c is_c step so_far = absurd (omega arith)
paired f infos (q ∷ ps) [] cs i info d p m marks none now next whole lt is some_p is_p some_m is_m some_c is_c step so_far = absurd (omega arith)
paired f infos (q ∷ ps) (n ∷ ms) [] i info d p m marks none now next whole lt is some_p is_p some_m is_m some_c is_c step so_far = absurd (omega arith)
paired {A = A} f infos (q ∷ ps) (n ∷ ms) (c ∷ cs) i info d p m marks none now next whole lt is some_p is_p some_m is_m some_c is_c step so_far =
    let rest : List A = flat_map f (pairs_of (drop (suc i) infos) ps ms cs) in
    let tails : flat_map f (pairs_of (drop (suc i) infos) (behind_first (q ∷ ps)) (behind_first (n ∷ ms)) (behind_first (c ∷ cs))) ≡ rest =
    ap (λ (xs : List Method). flat_map f (pairs_of (drop (suc i) infos) xs (behind_first (n ∷ ms)) (behind_first (c ∷ cs)))) (all_behind q ps)
    ∙ (ap (λ (xs : List Method). flat_map f (pairs_of (drop (suc i) infos) ps xs (behind_first (c ∷ cs)))) (all_behind n ms) ∙ ap (λ (xs : List (List Bool)). flat_map f (pairs_of (drop (suc i) infos) ps ms xs)) (all_behind c cs)) in
    let one : f (record { info = info; plain = p; method = m; counted = marks }) ≡ f (record { info = get_or infos i d; plain = q; method = n; counted = c }) =
    ap (λ (x : MemberInfo). f (record { info = x; plain = p; method = m; counted = marks })) is
    ∙ (ap (λ (x : Method). f (record { info = get_or infos i d; plain = x; method = m; counted = marks })) is_p
    ∙ (ap (λ (x : Method). f (record { info = get_or infos i d; plain = q; method = x; counted = marks })) is_m ∙ ap (λ (x : List Bool). f (record { info = get_or infos i d; plain = q; method = n; counted = x })) is_c)) in
    rw add-one
    (ap (λ (t : List A). next ++ t) tails
    ∙ (ap (λ (t : List A). t ++ rest) step
    ∙ (append_assoc now (f (record { info = info; plain = p; method = m; counted = marks })) rest
    ∙ (ap (λ (t : List A). now ++ (t ++ rest)) one ∙ (ap (λ (xs : List MemberInfo). now ++ flat_map f (pairs_of xs (q ∷ ps) (n ∷ ms) (c ∷ cs))) (sym (drop-cons infos i d lt)) ∙ so_far)))))

-- Instructions with their marks: a marked one is the next of the old ones.
module _ {E P N : Type 0} (made : List E → List Bool → List P → List N) where
  pub of_old : (f : E → P → List N) → ((e : E) (es : List E) (marks : List Bool) (o : P) (olds : List P) → made (e ∷ es) (true ∷ marks) (o ∷ olds) ≡ f e o ++ made es marks olds)
      → (code : List E) (marks : List Bool) (olds : List P) (i : ℕ) (e d : E) (o : P) (later : List P) (now next whole : List N) → i < length code → e ≡ get_or code i d → 1 ≤ length marks → get_or marks 0 false ≡ true → 1 ≤ length olds → o ≡ get_or olds 0 o
      → later ≡ behind_first olds → next ≡ now ++ f e o → now ++ made (drop i code) marks olds ≡ whole → next ++ made (drop (i + 1) code) (behind_first marks) later ≡ whole
  of_old f first code [] olds i e d o later now next whole lt is some_m marked some_o is_o rest_is step so_far = absurd (omega arith)
  of_old f first code (false ∷ marks) olds i e d o later now next whole lt is some_m marked some_o is_o rest_is step so_far = absurd cc
  of_old f first code (true ∷ marks) [] i e d o later now next whole lt is some_m marked some_o is_o rest_is step so_far = absurd (omega arith)
  of_old f first code (true ∷ marks) (p ∷ olds) i e d o later now next whole lt is some_m marked some_o is_o rest_is step so_far =
      let rest : List N = made (drop (suc i) code) marks olds in
      rw add-one
      (ap (λ (ms : List Bool). next ++ made (drop (suc i) code) ms later) (all_behind true marks)
      ∙ (ap (λ (os : List P). next ++ made (drop (suc i) code) marks os) (rest_is ∙ all_behind p olds)
      ∙ (ap (λ (t : List N). t ++ rest) step
      ∙ (append_assoc now (f e o) rest
      ∙ (ap (λ (x : E). now ++ (f x o ++ rest)) is
      ∙ (ap (λ (x : P). now ++ (f (get_or code i d) x ++ rest)) is_o
      ∙ (ap (λ (t : List N). now ++ t) (sym (first (get_or code i d) (drop (suc i) code) marks p olds))
      ∙ (ap (λ (es : List E). now ++ made es (true ∷ marks) (p ∷ olds)) (sym (drop-cons code i d lt)) ∙ so_far))))))))

  pub of_added : (f : E → List N) → ((e : E) (es : List E) (marks : List Bool) (olds : List P) → made (e ∷ es) (false ∷ marks) olds ≡ f e ++ made es marks olds)
      → (code : List E) (marks : List Bool) (olds : List P) (i : ℕ) (e d : E) (later : List P) (now next whole : List N) → i < length code → e ≡ get_or code i d → 1 ≤ length marks → get_or marks 0 false ≡ false
      → later ≡ olds → next ≡ now ++ f e → now ++ made (drop i code) marks olds ≡ whole → next ++ made (drop (i + 1) code) (behind_first marks) later ≡ whole
  of_added f first code [] olds i e d later now next whole lt is some_m marked rest_is step so_far = absurd (omega arith)
  of_added f first code (true ∷ marks) olds i e d later now next whole lt is some_m marked rest_is step so_far = absurd cc
  of_added f first code (false ∷ marks) olds i e d later now next whole lt is some_m marked rest_is step so_far =
      let rest : List N = made (drop (suc i) code) marks olds in
      rw add-one
      (ap (λ (ms : List Bool). next ++ made (drop (suc i) code) ms later) (all_behind false marks)
      ∙ (ap (λ (os : List P). next ++ made (drop (suc i) code) marks os) rest_is
      ∙ (ap (λ (t : List N). t ++ rest) step
      ∙ (append_assoc now (f e) rest
      ∙ (ap (λ (x : E). now ++ (f x ++ rest)) is
      ∙ (ap (λ (t : List N). now ++ t) (sym (first (get_or code i d) (drop (suc i) code) marks olds))
      ∙ (ap (λ (es : List E). now ++ made es (false ∷ marks) olds) (sym (drop-cons code i d lt)) ∙ so_far)))))))
