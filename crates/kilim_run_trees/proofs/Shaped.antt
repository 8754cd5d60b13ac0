-- Other names of objects leave a shape as it is.
use Rattle.std.proofs.Common.{◌≡◌, ℕ, zero, suc, ◌+◌, ◌<◌, ◌==◌, Bool, true, false, List, [], ◌∷◌, ◌++◌, Option, Some, None, length, refl, sym, ap, subst, ◌∙◌, arith, get_or}
use Rattle.std.specs.Prelude.{count_by, nat_le, if◌then◌else◌}
use Rattle.std.specs.List.{AllByRecursion}
use Rattle.std.specs.FinMap.{get, insert}
use Rattle.kilim_program.specs.declared.class.Program.{Program}
use Rattle.kilim_program.specs.declared.names.FieldId.{FieldId}
use Rattle.kilim_run_state.specs.declared.value.Object.{Object}
use Rattle.kilim_run_state.specs.declared.value.Token.{Token}
use Rattle.kilim_run_state.specs.declared.value.Token.TheVariants as token
use Rattle.kilim_program.specs.declared.value.Value.{Value}
use Rattle.kilim_program.specs.declared.value.Value.TheVariants.{Int, Long, Null, Ref, Text, Box, Fiber}
use Rattle.kilim_run_state.specs.Machine.{Objects}
use Rattle.kilim_program.specs.Names.{◌>>=◌}
use Rattle.kilim_program.specs.Members.{shown_name}
use Rattle.kilim_run_state.specs.Shapes.{shape_of, shape_by, tree_limit, content_tokens, joined_tokens, field_in, fields_in_order, is_open}
use Rattle.kilim_run_trees.specs.Moved.{heap_tokens}
use Rattle.kilim_run_trees.specs.Walk.{value_refs, field_refs, element_refs, refs, renamed_value, renamed_fields, renamed_elements, renamed, Leads, AreIn, IsTree, IsPreorder, places, objects, numbered}
use Rattle.kilim_run_trees.specs.Moved.{at_places, renamed_all, as_heap, tree_heap}
use Rattle.kilim_run_trees.proofs.Maps.{got-there, got-other}

pub all_parts : (P : ℕ → Type 0) (xs ys : List ℕ) → AllByRecursion P (xs ++ ys) → AllByRecursion P xs × AllByRecursion P ys
all_parts P [] ys a = (tt, a)
all_parts P (x ∷ xs) ys a = let r = all_parts P xs ys a.1 in ((a.0, r.0), r.1)

pick : (t u : Value → Option (List Token)) (b : Bool) (x y : Value) (r s : Option Value) → t x ≡ u y → (r >>= t) ≡ (s >>= u) → ((if b then Some x else r) >>= t) ≡ ((if b then Some y else s) >>= u)
pick t u true x y r s e f = e
pick t u false x y r s e f = f

one_field : (In : ℕ → Type 0) (f : ℕ → ℕ) (t u : Value → Option (List Token)) → ((v : Value) → AllByRecursion In (value_refs v) → t v ≡ u (renamed_value f v)) → (fs : List (FieldId × Value)) (g : FieldId) → AllByRecursion In (field_refs fs) → (field_in fs g >>= t) ≡ (field_in (renamed_fields f fs) g >>= u)
one_field In f t u same [] g a = refl
one_field In f t u same (e ∷ es) g a =
    let r = all_parts In (value_refs e.1) (field_refs es) a in
    pick t u (e.0.0 == g.0) e.1 (renamed_value f e.1) (field_in es g) (field_in (renamed_fields f es) g) (same e.1 r.0) (one_field In f t u same es g r.1)

joined_fields : (In : ℕ → Type 0) (f : ℕ → ℕ) (t u : Value → Option (List Token)) → ((v : Value) → AllByRecursion In (value_refs v) → t v ≡ u (renamed_value f v)) → (fs : List (FieldId × Value)) → AllByRecursion In (field_refs fs) → (gs : List FieldId) → joined_tokens (λ g. field_in fs g >>= t) gs ≡ joined_tokens (λ g. field_in (renamed_fields f fs) g >>= u) gs
joined_fields In f t u same fs a [] = refl
joined_fields In f t u same fs a (g ∷ gs) = λ i. one_field In f t u same fs g a i >>= λ first. (joined_fields In f t u same fs a gs i >>= λ others. Some (first ++ others))

joined_elements : (In : ℕ → Type 0) (f : ℕ → ℕ) (t u : Value → Option (List Token)) → ((v : Value) → AllByRecursion In (value_refs v) → t v ≡ u (renamed_value f v)) → (vs : List Value) → AllByRecursion In (element_refs vs) → joined_tokens t vs ≡ joined_tokens u (renamed_elements f vs)
joined_elements In f t u same [] a = refl
joined_elements In f t u same (v ∷ vs) a = let r = all_parts In (value_refs v) (element_refs vs) a in λ i. same v r.0 i >>= λ first. (joined_elements In f t u same vs r.1 i >>= λ others. Some (first ++ others))

content_same : (In : ℕ → Type 0) (f : ℕ → ℕ) (p : Program) (t u : Value → Option (List Token)) → ((v : Value) → AllByRecursion In (value_refs v) → t v ≡ u (renamed_value f v)) → (o : Object) → AllByRecursion In (refs o) → content_tokens p t o ≡ content_tokens p u (renamed f o)
content_same In f p t u same o a =
    let r = all_parts In (field_refs o.fields) (element_refs o.elements) a in
    λ i. if o.class.dims == 0 then joined_fields In f t u same o.fields r.0 (fields_in_order p o.class.base) i else joined_elements In f t u same o.elements r.1 i

-- an object of one heap is in the other one under another name, and so is all that it refers to
abbrev pub Matches : (ℕ → Type 0) → (ℕ → ℕ) → Objects → Objects → Type 0
Matches In f h k = (n : ℕ) → In n → (o : Object) × (get h n ≡ Some o) × (get k (f n) ≡ Some (renamed f o)) × AllByRecursion In (refs o)

abbrev opened : Program → (Value → Option (List Token)) → Option Object → Option (List Token)
opened p t x = x >>= λ (object : Object). (content_tokens p t object >>= λ content. Some (token.Open (shown_name p object.class) ∷ (content ++ token.Close ∷ [])))

pub tokens_same : (In : ℕ → Type 0) (f : ℕ → ℕ) (p : Program) (h k : Objects) → Matches In f h k → (d : ℕ) (v : Value) → AllByRecursion In (value_refs v) → heap_tokens p h d v ≡ heap_tokens p k d (renamed_value f v)
tokens_same In f p h k m d (Int n) a = refl
tokens_same In f p h k m d (Long n) a = refl
tokens_same In f p h k m d Null a = refl
tokens_same In f p h k m d (Text units) a = refl
tokens_same In f p h k m d (Box box) a = refl
tokens_same In f p h k m d Fiber a = refl
tokens_same In f p h k m zero (Ref n) a = refl
tokens_same In f p h k m (suc d) (Ref n) a =
    let s = m n a.0 in
    let inner : content_tokens p (heap_tokens p h d) s.0 ≡ content_tokens p (heap_tokens p k d) (renamed f s.0) = content_same In f p (heap_tokens p h d) (heap_tokens p k d) (λ v b. tokens_same In f p h k m d v b) s.0 s.3 in
    ap (opened p (heap_tokens p h d)) s.1 ∙ ((λ i. inner i >>= λ content. Some (token.Open (shown_name p s.0.class) ∷ (content ++ token.Close ∷ []))) ∙ ap (opened p (heap_tokens p k d)) (sym s.2))

pub shape_same : (In : ℕ → Type 0) (f : ℕ → ℕ) (p : Program) (h k : Objects) → Matches In f h k → (n : ℕ) → In n → shape_of p h n ≡ shape_of p k (f n)
unfolding shape_by
shape_same In f p h k m n a = ap (λ x. x >>= λ tokens. if nat_le (count_by is_open tokens) tree_limit then Some tokens else None) (tokens_same In f p h k m tree_limit (Ref n) (a, tt))

-- ---- a tree on its own

plus_zero : (n : ℕ) → n ≡ n + 0
plus_zero n = omega arith

plus_suc : (n k : ℕ) → suc n + k ≡ n + suc k
plus_suc n k = omega arith

not_itself : (n k : ℕ) → (n + suc k ≡ n) → ⊥
not_itself n k e = absurd (omega arith)

pub tree_get : (os : List Object) (n j : ℕ) (d : Object) → j < length os → get (as_heap (numbered n os)) (n + j) ≡ Some (get_or os j d)
tree_get [] n j d lt = absurd (omega arith)
tree_get (o ∷ os) n zero d lt = ap (get (insert (as_heap (numbered (suc n) os)) n o)) (sym (plus_zero n)) ∙ got-there _ n o
tree_get (o ∷ os) n (suc j) d lt = let lt' : j < length os = omega arith in got-other _ n o (n + suc j) (not_itself n j) ∙ (ap (get (as_heap (numbered (suc n) os))) (sym (plus_suc n j)) ∙ tree_get os (suc n) j d lt')

pub closed : (os : List Object) (from : List ℕ) (k limit : ℕ) → limit ≡ k + length os → Leads from (numbered k os) [] → AllByRecursion (λ n. n < limit) from × AllByRecursion (λ o. AllByRecursion (λ n. n < limit) (refs o)) os
closed [] from k limit e h = (subst (AllByRecursion (λ n. n < limit)) (sym h) tt, tt)
closed (o ∷ os) [] k limit e h = absurd h
closed (o ∷ os) (n ∷ ns) k limit e h =
    let e' : limit ≡ suc k + length os = omega (arith, e) in
    let r = closed os (refs o ++ ns) (suc k) limit e' h.1 in
    let s = all_parts (λ n. n < limit) (refs o) ns r.0 in
    let here : n < limit = omega (arith, e, h.0) in
    ((here, s.1), (s.0, r.1))

two_lists : (x y : Object) (xs ys : List Object) → x ∷ xs ≡ y ∷ ys → (x ≡ y) × (xs ≡ ys)
two_lists x y xs ys e = (cc, cc)

-- each object of the tree is in the heap, at its place
pub picked : (In : ℕ → Type 0) (f : ℕ → ℕ) (heap : Objects) (os : List Object) (es : List (ℕ × Object)) (j : ℕ) (d : Object) → renamed_all f os ≡ objects es → AreIn heap es → AllByRecursion (λ o. AllByRecursion In (refs o)) os → j < length os →
    (get heap (at_places (places es) j) ≡ Some (renamed f (get_or os j d))) × AllByRecursion In (refs (get_or os j d))
picked In f heap [] es j d e a b lt = absurd (omega arith)
picked In f heap (o ∷ os) [] j d e a b lt = absurd (cc)
picked In f heap (o ∷ os) (x ∷ es) zero d e a b lt = (a.0 ∙ ap (λ o. Some o) (sym (two_lists (renamed f o) x.1 (renamed_all f os) (objects es) e).0), b.0)
picked In f heap (o ∷ os) (x ∷ es) (suc j) d e a b lt = let lt' : j < length os = omega arith in picked In f heap os es j d (two_lists (renamed f o) x.1 (renamed_all f os) (objects es) e).1 a.1 b.1 lt'

zero_plus : (j : ℕ) → j ≡ 0 + j
zero_plus j = omega arith

pub tree_matches : (heap : Objects) (tree : List Object) (es : List (ℕ × Object)) (d : Object) → IsPreorder tree → AreIn heap es → renamed_all (at_places (places es)) tree ≡ objects es → Matches (λ j. j < length tree) (at_places (places es)) (tree_heap tree) heap
tree_matches heap tree es d pre a e j lt =
    let c = closed tree (0 ∷ []) 0 (length tree) (zero_plus (length tree)) pre in
    let s = picked (λ j. j < length tree) (at_places (places es)) heap tree es j d e a c.1 lt in
    (get_or tree j d, ap (get (tree_heap tree)) (zero_plus j) ∙ tree_get tree 0 j d lt, s.0, s.1)

first_place : (root : ℕ) (es : List (ℕ × Object)) → Leads (root ∷ []) es [] → at_places (places es) 0 ≡ root
first_place root [] h = absurd (let e : root ∷ [] ≡ [] = h in cc)
first_place root (e ∷ es) h = sym h.0

any_object : (tree : List Object) → IsPreorder tree → Object
any_object [] h = absurd (let e : 0 ∷ [] ≡ [] = h in cc)
any_object (o ∷ os) h = o

not_nothing : (tree : List Object) → IsPreorder tree → 0 < length tree
not_nothing [] h = absurd (let e : 0 ∷ [] ≡ [] = h in cc)
not_nothing (o ∷ os) h = omega arith

-- a tree has the shape of the objects that it was
pub tree_shape : (heap : Objects) (root : ℕ) (tree : List Object) (es : List (ℕ × Object)) → IsPreorder tree → IsTree heap root es → renamed_all (at_places (places es)) tree ≡ objects es → (p : Program) → shape_of p (tree_heap tree) 0 ≡ shape_of p heap root
tree_shape heap root tree es pre t e p =
    shape_same (λ j. j < length tree) (at_places (places es)) p (tree_heap tree) heap (tree_matches heap tree es (any_object tree pre) pre t.are_in e) 0 (not_nothing tree pre) ∙ ap (shape_of p heap) (first_place root es t.leads)
