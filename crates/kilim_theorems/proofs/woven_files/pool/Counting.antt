-- How many entries are added: each is new, so there are no more of them than those that may be needed.
use Rattle.std.proofs.Common.{◌≡◌, ◌⊎◌, inl, inr, ℕ, zero, suc, ◌+◌, ◌≤◌, Bool, true, false, cond, List, [], ◌∷◌, ◌++◌, length, Option, Some, None, option_map, refl, sym, ap, subst, ◌∙◌, arith}
use Rattle.std.specs.List.{AllByRecursion, position_from}
use Rattle.std.proofs.lemmas.Option.{none-some}
use Rattle.kilim_class_pool.specs.declared.entry.Entry.{Entry}
use Rattle.kilim_class_pool.specs.declared.entry.Entry.TheVariants.{Utf8, Class, NameAndType, Methodref}
use Rattle.kilim_class_pool.specs.Entries.{slots_of, slots_of_entry, slot, entry_at, count_of, width_of}
use Rattle.kilim_class_pool.proofs.SlotLaws.{count_more, length_entry}
use Rattle.kilim_class_pool.proofs.AddLaws.{new_index}
use Rattle.kilim_class_making.specs.declared.pool_needs.need.Need.{Need}
use Rattle.kilim_class_making.specs.declared.pool_needs.need.Need.TheVariants.{AText, AClass, AMethod, ACall}
use Rattle.kilim_class_making.specs.pool_needs.Adding.{Test, found, is_text, is_class_of, is_pair, is_ref, text_index, class_index, pair_index, index_or_none, unless_found, with_text, with_pair, with_ref, with_class, class_added, class_behind, with_member, with_call, with_method, with_need, with_needs}
use Rattle.kilim_theorems.specs.woven_files.pool.Pools.{ClassesAreNamed, In, CoversMember, CoversCall, CoversClass, Covers}
use Rattle.std.proofs.lemmas.List.{append_assoc}
use Rattle.kilim_class_making.proofs.pool_needs.Searching.{stays, found_passes, found_stays}
use Rattle.kilim_theorems.proofs.woven_files.pool.Growing.{Grown, bytes_same, both_same, text_added, pair_added, ref_added, member_added, call_added, class_is_added, need_added, needs_added, class_stays}

-- ---- lists without repetition

-- a list with one place less
record Without (x : Entry) (ys : List Entry) : Type 0 where
  others : List Entry
  shorter : length ys ≡ suc (length others)
  keeps : (y : Entry) → In y ys → (y ≡ x) ⊎ In y others

keeps_there : (x y : Entry) (ys : List Entry) (w : Without x ys) (z : Entry) → (z ≡ y) ⊎ In z ys → (z ≡ x) ⊎ In z (y ∷ w.others)
keeps_there x y ys w z (inl e) = inr (inl e)
keeps_there x y ys w z (inr e) = by (w.keeps z e)
  where
    by : (z ≡ x) ⊎ In z w.others → (z ≡ x) ⊎ In z (y ∷ w.others)
    by (inl f) = inl f
    by (inr f) = inr (inr f)

keeps_here : (x y : Entry) (ys : List Entry) → x ≡ y → (z : Entry) → (z ≡ y) ⊎ In z ys → (z ≡ x) ⊎ In z ys
keeps_here x y ys e z (inl f) = inl (f ∙ sym e)
keeps_here x y ys e z (inr f) = inr f

without_by : (x y : Entry) (ys : List Entry) → (In x ys → Without x ys) → (x ≡ y) ⊎ In x ys → Without x (y ∷ ys)
without_by x y ys rest (inl e) = record { others = ys; shorter = refl; keeps = keeps_here x y ys e }
without_by x y ys rest (inr e) = let w = rest e in record { others = y ∷ w.others; shorter = ap suc w.shorter; keeps = keeps_there x y ys w }

without : (x : Entry) (ys : List Entry) → In x ys → Without x ys
without x [] h = absurd h
without x (y ∷ ys) h = without_by x y ys (λ g. without x ys g) h

-- each is in the cover, and not behind itself
abbrev pub Covered : List Entry → List Entry → Type 0
Covered cover [] = Unit {0}
Covered cover (x ∷ xs) = In x cover × (In x xs → ⊥) × Covered cover xs

narrow_by : (x y : Entry) (others : List Entry) → (y ≡ x → ⊥) → (y ≡ x) ⊎ In y others → In y others
narrow_by x y others differ (inl e) = absurd (differ e)
narrow_by x y others differ (inr e) = e

narrow : (x : Entry) (cover others : List Entry) → ((y : Entry) → In y cover → (y ≡ x) ⊎ In y others) → (xs : List Entry) → (In x xs → ⊥) → Covered cover xs → Covered others xs
narrow x cover others keeps [] fresh h = tt
narrow x cover others keeps (y ∷ ys) fresh h =
    (narrow_by x y others (λ e. fresh (inl (sym e))) (keeps y h.0), h.1, narrow x cover others keeps ys (λ g. fresh (inr g)) h.2)

pub no_more : (xs cover : List Entry) → Covered cover xs → length xs ≤ length cover
no_more [] cover h = omega arith
no_more (x ∷ xs) cover h =
    let w = without x cover h.0 in
    let less : length xs ≤ length w.others = no_more xs w.others (narrow x cover w.others w.keeps xs h.1 h.2) in
    let one = w.shorter in omega (arith, less, one)

-- ---- the pool and what was added, the last one first

pub data Adds (old : List Entry) : List Entry → List Entry → Type 0 where
  Begins : Adds old old []
  Adding : (pool added : List Entry) (e : Entry) → Adds old pool added → slots_of_entry e ≡ Some e ∷ [] → Adds old (pool ++ e ∷ []) (e ∷ added)

-- what was added has an index
index_there : (old pool added : List Entry) → Adds old pool added → (x : Entry) → In x added → (index : ℕ) × (entry_at pool index ≡ Some x)
index_there old pool2 added2 Begins x h = absurd h
index_there old pool2 added2 (Adding pool added e a plain) x (inl same) = (count_of pool, new_index pool e ∙ ap Some (sym same))
index_there old pool2 added2 (Adding pool added e a plain) x (inr h) = let i = index_there old pool added a x h in (i.0, stays pool (e ∷ []) i.0 x i.1)

width_one : (e : Entry) → slots_of_entry e ≡ Some e ∷ [] → width_of e ≡ 1
width_one e plain = sym (length_entry e) ∙ ap length plain

pub added_count : (old pool added : List Entry) → Adds old pool added → count_of pool ≡ count_of old + length added
added_count old pool2 added2 Begins = let e : count_of old ≡ count_of old + 0 = omega arith in e
added_count old pool2 added2 (Adding pool added e a plain) =
    let before = added_count old pool added a in
    let one = count_more pool e in
    let width = width_one e plain in
    let e2 : count_of (pool ++ e ∷ []) ≡ count_of old + suc (length added) = omega (arith, before, one, width) in e2

-- ---- what isn't found isn't there

none_by : (t : Test) (n : ℕ) (x : Option Entry) (xs : List (Option Entry)) → (b : Bool) → t x ≡ b → cond b (Some n) (position_from t (n + 1) xs) ≡ None → (t x ≡ false) × (position_from t (n + 1) xs ≡ None)
none_by t n x xs true is h = absurd (none-some n (sym h))
none_by t n x xs false is h = (is, h)

position_none : (t : Test) (n : ℕ) (xs : List (Option Entry)) (k : ℕ) (e : Entry) → position_from t n xs ≡ None → slot xs k ≡ Some e → t (Some e) ≡ true → ⊥
position_none t n [] k e none there passes = none-some e there
position_none t n (x ∷ xs) zero e none there passes = let p = none_by t n x xs (t x) refl none in let c : false ≡ true = sym p.0 ∙ (ap t there ∙ passes) in absurd (cc)
position_none t n (x ∷ xs) (suc k) e none there passes = position_none t (n + 1) xs k e (none_by t n x xs (t x) refl none).1 there passes

mapped_none : (o : Option ℕ) → option_map suc o ≡ None → o ≡ None
mapped_none None h = refl
mapped_none (Some n) h = absurd (none-some (suc n) (sym h))

not_found : (test : Test) (pool : List Entry) (index : ℕ) (e : Entry) → found test pool ≡ None → entry_at pool index ≡ Some e → test (Some e) ≡ true → ⊥
unfolding found
not_found test pool zero e none there passes = none-some e there
not_found test pool (suc k) e none there passes = position_none test 0 (slots_of pool) k e (mapped_none (position_from test 0 (slots_of pool)) none) there passes

-- ---- counted additions

pub record Counted (cover old pool : List Entry) : Type 0 where
  pub added : List Entry
  pub adds : Adds old pool added
  pub covered : Covered cover added

pub counted_most : (cover old pool : List Entry) → Counted cover old pool → count_of pool ≤ count_of old + length cover
counted_most cover old pool c =
    let count = added_count old pool c.added c.adds in
    let most = no_more c.added cover c.covered in
    omega (arith, count, most)

entry_counted : (cover old pool : List Entry) (test : Test) (e : Entry) → Counted cover old pool → slots_of_entry e ≡ Some e ∷ [] → test (Some e) ≡ true → In e cover →
    (o : Option ℕ) → found test pool ≡ o → Counted cover old (unless_found o pool (pool ++ e ∷ []))
entry_counted cover old pool test e c plain passes in_cover (Some index) is = c
entry_counted cover old pool test e c plain passes in_cover None is = record {
  added = e ∷ c.added;
  adds = Adding pool c.added e c.adds plain;
  covered = (in_cover, (λ h. let i = index_there old pool c.added c.adds e h in not_found test pool i.0 e is i.1 passes), c.covered);
}

text_counted : (cover old pool : List Entry) (units : List ℕ) → Counted cover old pool → In (Utf8 units) cover → Counted cover old (with_text units pool)
unfolding with_text
text_counted cover old pool units c h = entry_counted cover old pool (is_text units) (Utf8 units) c refl (bytes_same units) h (found (is_text units) pool) refl

pair_counted : (cover old pool : List Entry) (n d : ℕ) → Counted cover old pool → In (NameAndType n d) cover → Counted cover old (with_pair n d pool)
unfolding with_pair
pair_counted cover old pool n d c h = entry_counted cover old pool (is_pair n d) (NameAndType n d) c refl (both_same n d) h (found (is_pair n d) pool) refl

ref_counted : (cover old pool : List Entry) (k m : ℕ) → Counted cover old pool → In (Methodref k m) cover → Counted cover old (with_ref k m pool)
unfolding with_ref
ref_counted cover old pool k m c h = entry_counted cover old pool (is_ref k m) (Methodref k m) c refl (both_same k m) h (found (is_ref k m) pool) refl

-- ---- what covers a need, by the indices of the last pool

-- the last pool, of which this one is the front
abbrev Front : List Entry → List Entry → Type 0
Front pool new = (rest : List Entry) × (new ≡ pool ++ rest)

same_index : (test : Test) (pool new : List Entry) (index : ℕ) → Front pool new → found test pool ≡ Some index → index_or_none (found test pool) ≡ index_or_none (found test new)
same_index test pool new index front h = ap index_or_none (h ∙ sym (ap (found test) front.1 ∙ found_stays test pool front.0 index h))

front_of : (a b new : List Entry) → Grown a b → Front b new → Front a new
front_of a b new g f = (g.more ++ f.0, f.1 ∙ (ap (λ (xs : List Entry). xs ++ f.0) g.is ∙ append_assoc a g.more f.0))

member_counted : (cover old pool new : List Entry) (c n d : ℕ) → ClassesAreNamed pool → Front (with_member c n d pool) new → Counted cover old pool → CoversMember cover new c n d → Counted cover old (with_member c n d pool)
member_counted cover old pool new c n d named front k h =
    let p = with_pair n d pool in
    let pair = pair_added n d pool named in
    let ref = ref_added c (pair_index p n d) p pair.grown.named in
    let same : pair_index p n d ≡ pair_index new n d = same_index (is_pair n d) p new pair.index (front_of p (with_member c n d pool) new ref.grown front) pair.at in
    ref_counted cover old p c (pair_index p n d) (pair_counted cover old pool n d k h.0) (subst (λ i. In (Methodref c i) cover) (sym same) h.1)

call_counted : (cover old pool new : List Entry) (c n : ℕ) (d : List ℕ) → ClassesAreNamed pool → Front (with_call c n d pool) new → Counted cover old pool → CoversCall cover new c n d → Counted cover old (with_call c n d pool)
call_counted cover old pool new c n d named front k h =
    let t = with_text d pool in
    let text = text_added d pool named in
    let member = member_added c n (text_index t d) t text.grown.named in
    let same : text_index t d ≡ text_index new d = same_index (is_text d) t new text.index (front_of t (with_call c n d pool) new member.grown front) text.at in
    member_counted cover old t new c n (text_index t d) text.grown.named front (text_counted cover old pool d k h.0) (subst (CoversMember cover new c n) (sym same) h.1)

class_inner : (cover old p new : List Entry) (name : List ℕ) (index : ℕ) → found (is_text name) p ≡ Some index → Counted cover old p → In (Class (text_index new name)) cover →
    (o : Option ℕ) → found (is_class_of p name) p ≡ o → Front (unless_found o p (class_added name p)) new → Counted cover old (unless_found o p (class_added name p))
class_inner cover old p new name index text k h (Some i) is front = k
class_inner cover old p new name index text k h None is front =
    let e : Entry = Class (text_index p name) in
    let short : Front p new = (e ∷ front.0, front.1 ∙ append_assoc p (e ∷ []) front.0) in
    let same : text_index p name ≡ text_index new name = same_index (is_text name) p new index short text in
    let passes : is_class_of p name (Some e) ≡ true = ap (λ o. is_text name (entry_at p (index_or_none o))) text ∙ found_passes (is_text name) p index text in
    entry_counted cover old p (is_class_of p name) e k refl passes (subst (λ j. In (Class j) cover) (sym same) h) None is

class_outer : (cover old pool new : List Entry) (name : List ℕ) → ClassesAreNamed pool → Counted cover old pool → CoversClass cover new name →
    (o : Option ℕ) → found (is_class_of pool name) pool ≡ o → Front (unless_found o pool (class_behind name (with_text name pool))) new → Counted cover old (unless_found o pool (class_behind name (with_text name pool)))
class_outer cover old pool new name named k h (Some i) is front = k
class_outer cover old pool new name named k h None is front =
    let p = with_text name pool in
    let text = text_added name pool named in
    class_inner cover old p new name text.index text.at (text_counted cover old pool name k h.0) h.1 (found (is_class_of p name) p) refl front

class_counted : (cover old pool new : List Entry) (name : List ℕ) → ClassesAreNamed pool → Front (with_class name pool) new → Counted cover old pool → CoversClass cover new name → Counted cover old (with_class name pool)
unfolding with_class
class_counted cover old pool new name named front k h = class_outer cover old pool new name named k h (found (is_class_of pool name) pool) refl front

same_class : (pool new : List Entry) (name : List ℕ) (index : ℕ) → ClassesAreNamed pool → Front pool new → found (is_class_of pool name) pool ≡ Some index → class_index pool name ≡ class_index new name
same_class pool new name index named front h =
    ap index_or_none (h ∙ sym (ap (λ (p : List Entry). found (is_class_of p name) p) front.1 ∙ class_stays pool front.0 name index named h))

method_counted : (cover old pool new : List Entry) (o n d : List ℕ) → ClassesAreNamed pool → Front (with_method o n d pool) new → Counted cover old pool → Covers cover new (AMethod o n d) → Counted cover old (with_method o n d pool)
method_counted cover old pool new o n d named front k h =
    let p = with_class o pool in
    let class = class_is_added o pool named in
    let q = with_text n p in
    let text = text_added n p class.grown.named in
    let call = call_added (class_index q o) (text_index q n) d q text.grown.named in
    let front_q : Front q new = front_of q (with_method o n d pool) new call.grown front in
    let front_p : Front p new = front_of p q new text.grown front_q in
    let class_q : found (is_class_of q o) q ≡ Some class.index = ap (λ (x : List Entry). found (is_class_of x o) x) text.grown.is ∙ class_stays p text.grown.more o class.index class.grown.named class.at in
    let same_c : class_index q o ≡ class_index new o = same_class q new o class.index text.grown.named front_q class_q in
    let same_n : text_index q n ≡ text_index new n = same_index (is_text n) q new text.index front_q text.at in
    let here : Counted cover old q = text_counted cover old p n (class_counted cover old pool new o named front_p k h.0) h.1 in
    call_counted cover old q new (class_index q o) (text_index q n) d text.grown.named front here
    (subst (λ i. CoversCall cover new i (text_index q n) d) (sym same_c) (subst (λ i. CoversCall cover new (class_index new o) i d) (sym same_n) h.2))

need_counted : (cover old pool new : List Entry) (need : Need) → ClassesAreNamed pool → Front (with_need pool need) new → Counted cover old pool → Covers cover new need → Counted cover old (with_need pool need)
unfolding with_need
need_counted cover old pool new (AText units) named front k h = text_counted cover old pool units k h
need_counted cover old pool new (AClass name) named front k h = class_counted cover old pool new name named front k h
need_counted cover old pool new (AMethod o n d) named front k h = method_counted cover old pool new o n d named front k h
need_counted cover old pool new (ACall c n d) named front k h = call_counted cover old pool new c n d named front k h

needs_counted : (cover old new : List Entry) (needs : List Need) (pool : List Entry) → ClassesAreNamed pool → with_needs pool needs ≡ new → Counted cover old pool → AllByRecursion (Covers cover new) needs → Counted cover old (with_needs pool needs)
unfolding with_needs
needs_counted cover old new [] pool named is k h = k
needs_counted cover old new (n ∷ ns) pool named is k h =
    let first = need_added n pool named in
    let rest = needs_added ns (with_need pool n) first.grown.named in
    let front : Front (with_need pool n) new = (rest.grown.more, sym is ∙ rest.grown.is) in
    needs_counted cover old new ns (with_need pool n) first.grown.named is (need_counted cover old pool new n named front k h.0) h.1

-- Not more indices are added than there are entries that may be needed.
pub counted : (cover old : List Entry) (needs : List Need) → ClassesAreNamed old → AllByRecursion (Covers cover (with_needs old needs)) needs → count_of (with_needs old needs) ≤ count_of old + length cover
counted cover old needs named h =
    counted_most cover old (with_needs old needs) (needs_counted cover old (with_needs old needs) needs old named refl (record { added = []; adds = Begins; covered = tt }) h)
