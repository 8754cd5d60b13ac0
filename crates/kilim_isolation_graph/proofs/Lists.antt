-- Lists, and the words on them by recursion.
use Rattle.std.proofs.Common.{◌≡◌, ℕ, zero, suc, ◌+◌, ◌<◌, ◌≤◌, Bool, true, false, ◌||◌, List, [], ◌∷◌, ◌++◌, length, get_or, drop, drop-cons, reverse, Option, Some, None, refl, sym, ap, ◌∙◌, arith, append_assoc, eqb, if◌then◌else◌}
use Rattle.std.proofs.lemmas.List.{length-drop, nil_from_length, reverse-append}
use Rattle.kilim_program.specs.declared.verified.VType.{VType}
use Rattle.kilim_program.specs.declared.verified.VType.TheVariants.{Top}
use Rattle.kilim_type_spec.specs.Step.{peek}
use Rattle.kilim_isolation_graph.specs.declared.node.Node.{Node}
use Rattle.kilim_isolation_graph.specs.Graphs.{slot}
use Rattle.kilim_isolation_graph.specs.Nodes.{absent, node_at, listed}
use Rattle.kilim_isolation_graph.specs.Canonical.{is_among, firsts, named, kept_name, kept_names}

pub drop_at : {A : Type 0} (xs : List A) (i : ℕ) (d : A) → i < length xs → drop i xs ≡ get_or xs i d ∷ drop (i + 1) xs
drop_at xs i d lt =
    let n : suc i ≡ i + 1 = omega arith in
    drop-cons xs i d lt ∙ ap (λ (k : ℕ). get_or xs i d ∷ drop k xs) n

pub drop_end : {A : Type 0} (xs : List A) (i : ℕ) → length xs ≤ i → drop i xs ≡ []
drop_end xs i le = nil_from_length (drop i xs) (omega (arith, length-drop i xs))

pub peek_at : (ts : List VType) (k : ℕ) (d : VType) → k < length ts → get_or ts k d ≡ peek ts k
peek_at [] k d lt = absurd (omega arith)
peek_at (u ∷ ts) zero d lt = refl
peek_at (u ∷ ts) (suc k) d lt = peek_at ts k d (omega arith)

pub peek_past : (ts : List VType) (k : ℕ) → length ts ≤ k → Top ≡ peek ts k
peek_past [] k le = refl
peek_past (u ∷ ts) zero le = absurd (omega arith)
peek_past (u ∷ ts) (suc k) le = peek_past ts k (omega arith)

pub slot_is : (xs : List (Option ℕ)) (k : ℕ) (d : Option ℕ) → k < length xs → get_or xs k d ≡ slot xs k
slot_is [] k d lt = absurd (omega arith)
slot_is (x ∷ xs) zero d lt = refl
slot_is (x ∷ xs) (suc k) d lt = slot_is xs k d (omega arith)

pub slot_past : (xs : List (Option ℕ)) (k : ℕ) → length xs ≤ k → None ≡ slot xs k
slot_past [] k le = refl
slot_past (x ∷ xs) zero le = absurd (omega arith)
slot_past (x ∷ xs) (suc k) le = slot_past xs k (omega arith)

pub node_is : (ns : List Node) (k : ℕ) (d : Node) → k < length ns → get_or ns k d ≡ node_at ns k
node_is [] k d lt = absurd (omega arith)
node_is (m ∷ ns) zero d lt = refl
node_is (m ∷ ns) (suc k) d lt = node_is ns k d (omega arith)

pub node_past : (ns : List Node) (k : ℕ) → length ns ≤ k → absent ≡ node_at ns k
node_past [] k le = refl
node_past (m ∷ ns) zero le = absurd (omega arith)
node_past (m ∷ ns) (suc k) le = node_past ns k (omega arith)

-- ---- each number once

either_append : (b s x y : Bool) → s ≡ (x || y) → (b || s) ≡ ((b || x) || y)
either_append true s x y e = refl
either_append false s x y e = e

among_append : (w : ℕ) (xs ys : List ℕ) → is_among w (xs ++ ys) ≡ (is_among w xs || is_among w ys)
among_append w [] ys = refl
among_append w (x ∷ xs) ys = either_append (eqb x w) (is_among w (xs ++ ys)) (is_among w xs) (is_among w ys) (among_append w xs ys)

or_swap : (a b : Bool) → (a || b) ≡ (b || a)
or_swap true true = refl
or_swap true false = refl
or_swap false true = refl
or_swap false false = refl

or_none : (a : Bool) → (a || false) ≡ a
or_none true = refl
or_none false = refl

reverse_front : {A : Type 0} (x : A) (xs : List A) → reverse (x ∷ xs) ≡ reverse xs ++ x ∷ []
reverse_front x xs = reverse-append (x ∷ []) xs

pub reverse_push : {A : Type 0} (x : A) (xs : List A) → reverse (xs ++ x ∷ []) ≡ x ∷ reverse xs
reverse_push x xs = reverse-append xs (x ∷ [])

among_reverse : (w : ℕ) (xs : List ℕ) → is_among w (reverse xs) ≡ is_among w xs
among_reverse w [] = refl
among_reverse w (x ∷ xs) =
    ap (is_among w) (reverse_front x xs) ∙ (among_append w (reverse xs) (x ∷ []) ∙ (ap (λ b. b || is_among w (x ∷ [])) (among_reverse w xs) ∙ last (eqb x w) (is_among w xs)))
  where
    last : (b r : Bool) → (r || (b || false)) ≡ (b || r)
    last b r = ap (λ c. r || c) (or_none b) ∙ or_swap r b

pub firsts_more : (order xs : List ℕ) (i d : ℕ) (new total : List ℕ) → i < length xs → new ≡ (if is_among (get_or xs i d) order then order else order ++ get_or xs i d ∷ []) →
    order ++ firsts (reverse order) (drop i xs) ≡ total → new ++ firsts (reverse new) (drop (i + 1) xs) ≡ total
firsts_more order xs i d new total lt is so_far = ap (λ o. o ++ firsts (reverse o) (drop (i + 1) xs)) is ∙ by (is_among (get_or xs i d) order) refl
  where
    at : order ++ firsts (reverse order) (get_or xs i d ∷ drop (i + 1) xs) ≡ total
    at = ap (λ ys. order ++ firsts (reverse order) ys) (sym (drop_at xs i d lt)) ∙ so_far

    chosen : Bool → List ℕ
    chosen b = order ++ (if b then firsts (reverse order) (drop (i + 1) xs) else get_or xs i d ∷ firsts (get_or xs i d ∷ reverse order) (drop (i + 1) xs))

    by : (b : Bool) → is_among (get_or xs i d) order ≡ b →
        (if b then order else order ++ get_or xs i d ∷ []) ++ firsts (reverse (if b then order else order ++ get_or xs i d ∷ [])) (drop (i + 1) xs) ≡ total
    by true e = sym (ap chosen (among_reverse (get_or xs i d) order ∙ e)) ∙ at
    by false e =
        ap (λ seen. (order ++ get_or xs i d ∷ []) ++ firsts seen (drop (i + 1) xs)) (reverse_push (get_or xs i d) order)
        ∙ (append_assoc order (get_or xs i d ∷ []) (firsts (get_or xs i d ∷ reverse order) (drop (i + 1) xs)) ∙ (sym (ap chosen (among_reverse (get_or xs i d) order ∙ e)) ∙ at))

-- ---- names

named_append : (xs ys : List (Option ℕ)) → named (xs ++ ys) ≡ named xs ++ named ys
named_append [] ys = refl
named_append (None ∷ xs) ys = named_append xs ys
named_append (Some n ∷ xs) ys = ap (λ ns. n ∷ ns) (named_append xs ys)

pub named_both : (xs ys zs : List (Option ℕ)) (a b : List ℕ) → a ≡ [] ++ named xs → ys ≡ zs → b ≡ a ++ named ys → b ≡ named (xs ++ zs)
named_both xs ys zs a b e same f = f ∙ (ap (λ ns. ns ++ named ys) e ∙ (ap (λ v. named xs ++ named v) same ∙ sym (named_append xs zs)))

peek_drop : (ts : List VType) (i : ℕ) → peek (drop i ts) 0 ≡ peek ts i
peek_drop ts zero = refl
peek_drop [] (suc i) = refl
peek_drop (t ∷ ts) (suc i) = peek_drop ts i

drop_one : {A : Type 0} (ts : List A) (i : ℕ) → drop 1 (drop i ts) ≡ drop (suc i) ts
drop_one ts zero = refl
drop_one [] (suc i) = refl
drop_one (t ∷ ts) (suc i) = drop_one ts i

pub kept_more : (types : List VType) (slots old new : List (Option ℕ)) (i : ℕ) (d y : Option ℕ) (t : VType) (total : List (Option ℕ)) → i < length slots →
    t ≡ peek types i → y ≡ kept_name t (get_or slots i d) → new ≡ old ++ y ∷ [] →
    old ++ kept_names (drop i types) (drop i slots) ≡ total → new ++ kept_names (drop (i + 1) types) (drop (i + 1) slots) ≡ total
kept_more types slots old new i d y t total lt type name is so_far =
    ap (λ v. v ++ kept_names (drop (i + 1) types) (drop (i + 1) slots)) is
    ∙ (append_assoc old (y ∷ []) (kept_names (drop (i + 1) types) (drop (i + 1) slots))
    ∙ (ap (λ z. old ++ z ∷ kept_names (drop (i + 1) types) (drop (i + 1) slots)) (name ∙ ap (λ z. kept_name z (get_or slots i d)) (type ∙ sym (peek_drop types i)))
    ∙ (ap (λ ts. old ++ kept_name (peek (drop i types) 0) (get_or slots i d) ∷ kept_names ts (drop (i + 1) slots)) (ap (λ (k : ℕ). drop k types) one ∙ sym (drop_one types i))
    ∙ (ap (λ ys. old ++ kept_names (drop i types) ys) (sym (drop_at slots i d lt)) ∙ so_far))))
  where
    one : i + 1 ≡ suc i
    one = omega arith

-- ---- nodes by their numbers

listed_more : (node : ℕ → Node) (n : ℕ) → listed node (suc n) ≡ listed node n ++ node n ∷ []
listed_more node zero = refl
listed_more node (suc n) = ap (λ ns. node 0 ∷ ns) (listed_more (λ k. node (suc k)) n)

pub listed_push : (node : ℕ → Node) (n : ℕ) → listed node (n + 1) ≡ listed node n ++ node n ∷ []
listed_push node n = let one : n + 1 ≡ suc n = omega arith in ap (listed node) one ∙ listed_more node n
