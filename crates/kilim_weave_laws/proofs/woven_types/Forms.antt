-- How many words an instruction leaves: the pop, dup and swap forms, the load of an element, and what takes and gives.
use Rattle.std.proofs.Common.{◌≡◌, ℕ, zero, suc, ◌+◌, ◌≤◌, true, List, [], ◌∷◌, ◌++◌, drop, Result, Ok, Err, refl, sym, ap, arith}
use Rattle.std.proofs.lemmas.Bool.{leb-true, le-leb}
use Rattle.kilim_program.specs.declared.class.Method.{Method}
use Rattle.kilim_program.specs.declared.verified.VType.{VType}
use Rattle.kilim_program.specs.declared.verified.VType.TheVariants.{Top, Int, Long, Null, UninitThis, Uninit, Object}
use Rattle.kilim_type_spec.specs.Step.{size, words, room_for, Form, Drops, Copies, Swaps, form_adds, form_room, shuffled, element, off, above, then_off}
use Rattle.kilim_weave_laws.proofs.woven_types.Crux.{ok_same}

pub words_append : (a b : List VType) → words (a ++ b) ≡ words a + words b
words_append [] b = omega arith
words_append (t ∷ a) b = let h = words_append a b in omega (arith, h)

abbrev Parts : Type 0
Parts = List VType × List VType

above_parts : (t : VType) (q : Result Parts ℕ) (r : Parts) → above t q ≡ Ok r → (p : Parts) × (q ≡ Ok p) × (r.0 ≡ t ∷ p.0) × (r.1 ≡ p.1)
above_parts t (Ok p) r e = let same = sym (ok_same (t ∷ p.0, p.1) r e) in (p, refl, ap (λ (z : Parts). z.0) same, ap (λ (z : Parts). z.1) same)
above_parts t (Err n) r e = absurd (cc)

-- what is split off has so many words, and the rest the others
record Splits (n : ℕ) (s : List VType) (r : Parts) : Type 0 where
  pub all : words s ≡ words r.0 + words r.1
  pub first : words r.0 ≡ n

one_above : (t : VType) (n k total : ℕ) (s : List VType) (r : Parts) → size t ≡ k → total ≡ k + n → above t (off n s) ≡ Ok r → ((p : Parts) → off n s ≡ Ok p → Splits n s p) → Splits total (t ∷ s) r
one_above t n k total s r is sum e h =
    let b = above_parts t (off n s) r e in
    let below = h b.0 b.1 in
    let all = below.all in
    let first = below.first in
    let front = ap words b.2 in
    let behind = ap words b.3 in
    record { all = omega (arith, all, front, behind); first = omega (arith, first, front, is, sum) }

off_splits : (n : ℕ) (s : List VType) (r : Parts) → off n s ≡ Ok r → Splits n s r
off_splits zero s r e =
    let same = sym (ok_same ([], s) r e) in
    let front = ap (λ (z : Parts). words z.0) same in
    let behind = ap (λ (z : Parts). words z.1) same in
    record { all = omega (arith, front, behind); first = front }
off_splits (suc zero) [] r e = absurd (cc)
off_splits (suc (suc n)) [] r e = absurd (cc)
off_splits (suc zero) (Long ∷ s) r e = absurd (cc)
off_splits (suc (suc n)) (Long ∷ s) r e = one_above Long n 2 (suc (suc n)) s r refl (omega arith) e (off_splits n s)
off_splits (suc zero) (Top ∷ s) r e = one_above Top 0 1 1 s r refl refl e (off_splits zero s)
off_splits (suc zero) (Int ∷ s) r e = one_above Int 0 1 1 s r refl refl e (off_splits zero s)
off_splits (suc zero) (Null ∷ s) r e = one_above Null 0 1 1 s r refl refl e (off_splits zero s)
off_splits (suc zero) (UninitThis ∷ s) r e = one_above UninitThis 0 1 1 s r refl refl e (off_splits zero s)
off_splits (suc zero) (Uninit q ∷ s) r e = one_above (Uninit q) 0 1 1 s r refl refl e (off_splits zero s)
off_splits (suc zero) (Object ty ∷ s) r e = one_above (Object ty) 0 1 1 s r refl refl e (off_splits zero s)
off_splits (suc (suc n)) (Top ∷ s) r e = one_above Top (suc n) 1 (suc (suc n)) s r refl (omega arith) e (off_splits (suc n) s)
off_splits (suc (suc n)) (Int ∷ s) r e = one_above Int (suc n) 1 (suc (suc n)) s r refl (omega arith) e (off_splits (suc n) s)
off_splits (suc (suc n)) (Null ∷ s) r e = one_above Null (suc n) 1 (suc (suc n)) s r refl (omega arith) e (off_splits (suc n) s)
off_splits (suc (suc n)) (UninitThis ∷ s) r e = one_above UninitThis (suc n) 1 (suc (suc n)) s r refl (omega arith) e (off_splits (suc n) s)
off_splits (suc (suc n)) (Uninit q ∷ s) r e = one_above (Uninit q) (suc n) 1 (suc (suc n)) s r refl (omega arith) e (off_splits (suc n) s)
off_splits (suc (suc n)) (Object ty ∷ s) r e = one_above (Object ty) (suc n) 1 (suc (suc n)) s r refl (omega arith) e (off_splits (suc n) s)

then_parts : (q : Result Parts ℕ) (go : List VType → List VType → Result (List VType) ℕ) (t : List VType) → then_off q go ≡ Ok t → (p : Parts) × (q ≡ Ok p) × (go p.0 p.1 ≡ Ok t)
then_parts (Ok p) go t e = (p, refl, e)
then_parts (Err n) go t e = absurd (cc)

crossed_words : (a b rest : List VType) → words (b ++ (a ++ rest)) ≡ words a + (words b + words rest)
crossed_words a b rest = let x = words_append b (a ++ rest) in let y = words_append a rest in omega (arith, x, y)

copied_words : (a b rest : List VType) → words (a ++ (b ++ (a ++ rest))) ≡ words a + (words a + (words b + words rest))
copied_words a b rest = let x = words_append a (b ++ (a ++ rest)) in let y = crossed_words a b rest in omega (arith, x, y)

pub shuffled_words : (form : Form) (s t : List VType) → shuffled form s ≡ Ok t → words t ≤ words s + form_adds form
shuffled_words (Drops n) s t e =
    let p = then_parts (off n s) (λ a rest. Ok rest) t e in
    let all = (off_splits n s p.0 p.1).all in
    let is = ap words (ok_same p.0.1 t p.2) in
    omega (arith, all, is)
shuffled_words (Copies n passed) s t e =
    let p = then_parts (off n s) (λ a below. then_off (off passed below) (λ b rest. Ok (a ++ (b ++ (a ++ rest))))) t e in
    let q = then_parts (off passed p.0.1) (λ b rest. Ok (p.0.0 ++ (b ++ (p.0.0 ++ rest)))) t p.2 in
    let one = off_splits n s p.0 p.1 in
    let all = one.all in
    let first = one.first in
    let two = (off_splits passed p.0.1 q.0 q.1).all in
    let is = ap words (ok_same (p.0.0 ++ (q.0.0 ++ (p.0.0 ++ q.0.1))) t q.2) in
    let sum = copied_words p.0.0 q.0.0 q.0.1 in
    omega (arith, all, first, two, is, sum)
shuffled_words Swaps s t e =
    let p = then_parts (off 1 s) (λ a below. then_off (off 1 below) (λ b rest. Ok (b ++ (a ++ rest)))) t e in
    let q = then_parts (off 1 p.0.1) (λ b rest. Ok (b ++ (p.0.0 ++ rest))) t p.2 in
    let all = (off_splits 1 s p.0 p.1).all in
    let two = (off_splits 1 p.0.1 q.0 q.1).all in
    let is = ap words (ok_same (q.0.0 ++ (p.0.0 ++ q.0.1)) t q.2) in
    let sum = crossed_words p.0.0 q.0.0 q.0.1 in
    omega (arith, all, two, is, sum)

-- a stack that was low enough, and that passed the rule on room, is low enough behind the instruction
pub form_low : (m : Method) (form : Form) (s t : List VType) → shuffled form s ≡ Ok t → form_room m form (words s) ≡ true → words s ≤ m.max_stack → words t ≤ m.max_stack
form_low m (Drops n) s t e h few = let a = shuffled_words (Drops n) s t e in omega (arith, a, few)
form_low m (Copies n passed) s t e h few = let a = shuffled_words (Copies n passed) s t e in let b = leb-true (words s + n) m.max_stack h in omega (arith, a, b)
form_low m Swaps s t e h few = let a = shuffled_words Swaps s t e in omega (arith, a, few)

-- ---- what takes and gives

pub words_drop : (n : ℕ) (s : List VType) → words (drop n s) ≤ words s
words_drop zero s = omega arith
words_drop (suc n) [] = omega arith
words_drop (suc n) (t ∷ s) = let h = words_drop n s in omega (arith, h)

pub given_low : (m : Method) (gives s : List VType) (n : ℕ) → room_for m gives (drop n s) ≡ true → words s ≤ m.max_stack → words (gives ++ drop n s) ≤ m.max_stack
given_low m [] s n h few = let a = words_drop n s in omega (arith, a, few)
given_low m (t ∷ ts) s n h few = leb-true (words (t ∷ (ts ++ drop n s))) m.max_stack h

pub room_there : (m : Method) (gives below : List VType) → words (gives ++ below) ≤ m.max_stack → room_for m gives below ≡ true
room_there m [] below few = refl
room_there m (t ∷ ts) below few = le-leb (words (t ∷ (ts ++ below))) m.max_stack few

-- ---- the load of an element

pub some_size : (t : VType) → 1 ≤ size t
some_size Long = omega arith
some_size Top = omega arith
some_size Int = omega arith
some_size Null = omega arith
some_size UninitThis = omega arith
some_size (Uninit q) = omega arith
some_size (Object ty) = omega arith

few_size : (t : VType) → size t ≤ 2
few_size Long = omega arith
few_size Top = omega arith
few_size Int = omega arith
few_size Null = omega arith
few_size UninitThis = omega arith
few_size (Uninit q) = omega arith
few_size (Object ty) = omega arith

-- an element has no more words than the array and the index
element_words : (s : List VType) (t : VType) → element s ≡ Ok t → words (t ∷ drop 2 s) ≤ words s
element_words [] t e = absurd (cc)
element_words (i ∷ []) t e = absurd (cc)
element_words (i ∷ Null ∷ s) t e =
    let a = some_size i in
    let b = ap size (ok_same Null t e) in
    omega (arith, a, b)
element_words (i ∷ Object ty ∷ s) t e =
    let a = some_size i in
    let b = few_size t in
    omega (arith, a, b)
element_words (i ∷ Top ∷ s) t e = absurd (cc)
element_words (i ∷ Int ∷ s) t e = absurd (cc)
element_words (i ∷ Long ∷ s) t e = absurd (cc)
element_words (i ∷ UninitThis ∷ s) t e = absurd (cc)
element_words (i ∷ Uninit q ∷ s) t e = absurd (cc)

pub element_low : (m : Method) (s : List VType) (t : VType) → element s ≡ Ok t → words s ≤ m.max_stack → words (t ∷ drop 2 s) ≤ m.max_stack
element_low m s t e few = let a = element_words s t e in omega (arith, a, few)
