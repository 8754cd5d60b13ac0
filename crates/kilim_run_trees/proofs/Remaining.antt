-- One token after the other, of a tree that stays in its heap.
use Rattle.std.proofs.Common.{◌≡◌, ℕ, zero, suc, ◌+◌, ◌<◌, ◌≤◌, List, [], ◌∷◌, ◌++◌, Option, Some, None, length, refl, sym, ap, subst, ◌∙◌, arith, length-append, append_assoc, get_or, drop, drop-cons, add-one, reverse, rules}
use Rattle.std.specs.Prelude.{IsSome}
use Rattle.std.specs.List.{AllByRecursion}
use Rattle.std.specs.FinMap.{get}
use Rattle.kilim_program.specs.declared.class.Program.{Program}
use Rattle.kilim_program.specs.declared.names.FieldId.{FieldId}
use Rattle.kilim_program.specs.declared.value.Value.{Value}
use Rattle.kilim_program.specs.declared.value.Value.TheVariants.{Int, Long, Null, Ref, Text, Box, Fiber}
use Rattle.kilim_program.specs.Names.{◌>>=◌}
use Rattle.kilim_program.specs.Members.{shown_name}
use Rattle.kilim_run_state.specs.declared.value.Object.{Object}
use Rattle.kilim_run_state.specs.declared.value.Token.{Token}
use Rattle.kilim_run_state.specs.declared.value.Token.TheVariants as token
use Rattle.kilim_run_state.specs.Machine.{Objects}
use Rattle.kilim_run_state.specs.Shapes.{shape_of, tree_limit, content_tokens, joined_tokens}
use Rattle.kilim_run_trees.specs.Moved.{heap_tokens}
use Rattle.kilim_run_trees.specs.Shaping.{AllSuit, held}
use Rattle.kilim_run_trees.specs.Steps.{IsSize}
use Rattle.kilim_run_trees.specs.Emitted.{plain_tokens, Shows, Ends, all_shown, item_tokens}
use Rattle.kilim_run_trees.specs.Standing.{held_of, held_by, items_at, left_at, opening_at, opening_by, RefThere, EmitsAt, AreTokensAt, HasShapeAt}
use Rattle.kilim_run_trees.proofs.Tokens.{bind_some, joined_grows, joined_both, deeper, content_held, each_suits, has_shape}
use Rattle.kilim_run_trees.proofs.Emitting.{drop_all, held_long, in_fields, in_elements, joined_items, left_of, nothing_more, plain_next, turn_one}

-- ---- the values of an object

pub field_found : (o : Object) (fs : List (FieldId × Value)) (next : ℕ) (d : FieldId × Value) (v : Value) → fs ≡ o.fields → next < length fs → v ≡ (get_or fs next d).1 → (next < length (held o)) × (v ≡ get_or (held o) next v)
field_found o fs next d v fe n ve =
    let n' : next < length o.fields = subst (λ (xs : List (FieldId × Value)). next < length xs) fe n in (
      omega (arith, held_long o, n'),
      ve ∙ (ap (λ (xs : List (FieldId × Value)). (get_or xs next d).1) fe ∙ in_fields o.fields o.elements next d v n'),
    )

pub element_found : (o : Object) (vs : List Value) (next rest : ℕ) (v : Value) → vs ≡ o.elements → length o.fields + rest ≡ next → rest < length vs → v ≡ get_or vs rest v → (next < length (held o)) × (v ≡ get_or (held o) next v)
element_found o vs next rest v ve n r e =
    let r' : rest < length o.elements = subst (λ (xs : List Value). rest < length xs) ve r in (
      omega (arith, held_long o, r', n),
      e ∙ (ap (λ xs. get_or xs rest v) ve ∙ (in_elements o.fields o.elements rest v ∙ ap (λ k. get_or (held o) k v) n)),
    )

pub none_found : (o : Object) (next : ℕ) → length o.fields + length o.elements ≤ next → length (held o) ≤ next
none_found o next le = omega (arith, held_long o, le)

-- ---- the object at a place

pub holds : (heap : Objects) (n : ℕ) (o : Object) → get heap n ≡ Some o → held_of heap n ≡ held o
holds heap n o e = ap held_by e

begins : (p : Program) (heap : Objects) (n : ℕ) (o : Object) → get heap n ≡ Some o → opening_at p heap n ≡ token.Open (shown_name p o.class) ∷ []
begins p heap n o e = ap (opening_by p) e

some_of : {A : Type 0} (o : Option A) (x : A) → o ≡ Some x → IsSome o
some_of o x e = subst (λ o. IsSome o) (sym e) (search rules)

pub begins_with : (p : Program) (heap : Objects) (n : ℕ) (o : Object) (name : List ℕ) (old new : List Token) → get heap n ≡ Some o → name ≡ shown_name p o.class → new ≡ old ++ token.Open name ∷ [] → new ≡ old ++ opening_at p heap n
begins_with p heap n o name old new at is e = e ∙ ap (λ ts. old ++ ts) (ap (λ name. token.Open name ∷ []) is ∙ sym (begins p heap n o at))

-- ---- the steps

module _ (p : Program) (heap : Objects) (d : ℕ) where
  abbrev pub Rest : List (ℕ × ℕ) → List Token → Type 0
  Rest fs rest = left_at p heap d fs ≡ Some rest

  -- the values of the top object are done
  ends_next : (at next : ℕ) (fs : List (ℕ × ℕ)) (rest : List Token) → Rest ((at, next) ∷ fs) rest → length (held_of heap at) ≤ next → (rest' : List Token) × Rest fs rest' × (rest ≡ token.Close ∷ rest')
  ends_next at next fs rest r le =
      let none : drop next (held_of heap at) ≡ [] = drop_all (held_of heap at) next le in
      let r' : joined_tokens (item_tokens p heap d) (Ends ∷ items_at heap fs) ≡ Some rest = ap (λ vs. joined_tokens (item_tokens p heap d) (all_shown vs (Ends ∷ items_at heap fs))) (sym none) ∙ r in
      let b = bind_some (left_at p heap d fs) (λ others. Some (token.Close ∷ others)) rest r' in
      (b.0, b.1, let q : Some (token.Close ∷ b.0) ≡ Some rest = b.2 in let h : token.Close ∷ b.0 ≡ rest = cc in sym h)

  pub record NextValue (v : Value) (fs : List (ℕ × ℕ)) (rest : List Token) : Type 0 where
    pub own : List Token
    pub others : List Token
    pub shows : heap_tokens p heap d v ≡ Some own
    pub left : Rest fs others
    pub all : rest ≡ own ++ others

  value_next : (at next after : ℕ) (fs : List (ℕ × ℕ)) (rest : List Token) (v : Value) → Rest ((at, next) ∷ fs) rest → next < length (held_of heap at) → v ≡ get_or (held_of heap at) next v → after ≡ next + 1 → NextValue v ((at, after) ∷ fs) rest
  value_next at next after fs rest v r lt is af =
      let vs : List Value = held_of heap at in
      let more : drop next vs ≡ v ∷ drop after vs = drop-cons vs next v lt ∙ ((λ i. sym is i ∷ drop (suc next) vs) ∙ ap (λ k. v ∷ drop k vs) (sym (add-one next) ∙ sym af)) in
      let r' : joined_tokens (item_tokens p heap d) (Shows v ∷ items_at heap ((at, after) ∷ fs)) ≡ Some rest = ap (λ vs. joined_tokens (item_tokens p heap d) (all_shown vs (Ends ∷ items_at heap fs))) (sym more) ∙ r in
      let a = bind_some (heap_tokens p heap d v) (λ first. left_at p heap d ((at, after) ∷ fs) >>= λ others. Some (first ++ others)) rest r' in
      let b = bind_some (left_at p heap d ((at, after) ∷ fs)) (λ others. Some (a.0 ++ others)) rest a.2 in
      record { own = a.0; others = b.0; shows = a.1; left = b.1; all = let q : Some (a.0 ++ b.0) ≡ Some rest = b.2 in let h : a.0 ++ b.0 ≡ rest = cc in sym h }

-- an object begins
pub object_next : (p : Program) (heap : Objects) (d n : ℕ) (fs : List (ℕ × ℕ)) (own others : List Token) → AllSuit p heap → heap_tokens p heap d (Ref n) ≡ Some own → left_at p heap d fs ≡ Some others →
    ((o : Object) × (get heap n ≡ Some o)) × ((rest' : List Token) × (left_at p heap d ((n, 0) ∷ fs) ≡ Some rest') × (own ++ others ≡ opening_at p heap n ++ rest'))
object_next p heap zero n fs own others suit e l = absurd (cc)
object_next p heap (suc d) n fs own others suit e l =
    let a = bind_some (get heap n) (λ (object : Object). content_tokens p (heap_tokens p heap d) object >>= λ content. Some (token.Open (shown_name p object.class) ∷ (content ++ token.Close ∷ []))) own e in
    let b = bind_some (content_tokens p (heap_tokens p heap d) a.0) (λ content. Some (token.Open (shown_name p a.0.class) ∷ (content ++ token.Close ∷ []))) own a.2 in
    let content : joined_tokens (heap_tokens p heap d) (held a.0) ≡ Some b.0 = sym (content_held p (heap_tokens p heap d) a.0 (suit n a.0 a.1)) ∙ b.1 in
    let deep : joined_tokens (heap_tokens p heap (suc d)) (held_of heap n) ≡ Some b.0 = ap (joined_tokens (heap_tokens p heap (suc d))) (holds heap n a.0 a.1) ∙ joined_grows (heap_tokens p heap d) (heap_tokens p heap (suc d)) (λ v ts h. deeper p heap d v ts h) (held a.0) b.0 content in
    let closing : joined_tokens (item_tokens p heap (suc d)) (Ends ∷ items_at heap fs) ≡ Some (token.Close ∷ others) = joined_both (item_tokens p heap (suc d)) Ends (items_at heap fs) (token.Close ∷ []) others refl l in
    let own_is : token.Open (shown_name p a.0.class) ∷ (b.0 ++ token.Close ∷ []) ≡ own = let q : Some (token.Open (shown_name p a.0.class) ∷ (b.0 ++ token.Close ∷ [])) ≡ Some own = b.2 in cc in (
      (a.0, a.1),
      (
        b.0 ++ token.Close ∷ others,
        joined_items p heap (suc d) (held_of heap n) (Ends ∷ items_at heap fs) b.0 (token.Close ∷ others) deep closing,
        ap (λ own. own ++ others) (sym own_is) ∙ (ap (λ ts. token.Open (shown_name p a.0.class) ∷ ts) (append_assoc b.0 (token.Close ∷ []) others) ∙ ap (λ ts. ts ++ (b.0 ++ token.Close ∷ others)) (sym (begins p heap n a.0 a.1))),
      ),
    )

opening_long : (p : Program) (heap : Objects) (n : ℕ) (o : Object) → get heap n ≡ Some o → length (opening_at p heap n) ≡ 1
opening_long p heap n o e = ap length (begins p heap n o e)

-- ---- the loop

abbrev pub AreThereAt : Objects → List (ℕ × ℕ) → Type 0
AreThereAt heap fs = AllByRecursion (λ (f : ℕ × ℕ). IsSome (get heap f.0)) fs

pub record EmittingAt (p : Program) (heap : Objects) (d root : ℕ) (tokens : List Token) (fs : List (ℕ × ℕ)) : Type 0 where
  pub rest : List Token
  pub left : left_at p heap d fs ≡ Some rest
  pub all : heap_tokens p heap d (Ref root) ≡ Some (tokens ++ rest)
  pub there : AreThereAt heap fs

-- at the beginning
pub root_there : (p : Program) (heap : Objects) (d root : ℕ) (all : List Token) → AllSuit p heap → heap_tokens p heap d (Ref root) ≡ Some all → IsSome (get heap root)
root_there p heap d root all suit e = let o = (object_next p heap d root [] all [] suit e refl).0 in some_of (get heap root) o.0 o.1

pub emitting_first : (p : Program) (heap : Objects) (d root : ℕ) (all none tokens : List Token) (nof fs : List (ℕ × ℕ)) → AllSuit p heap → heap_tokens p heap d (Ref root) ≡ Some all → none ≡ [] → nof ≡ [] → tokens ≡ none ++ opening_at p heap root → fs ≡ nof ++ (root, 0) ∷ [] → EmittingAt p heap d root tokens (reverse fs)
emitting_first p heap d root all none tokens nof fs suit e n nf t f =
    let r = object_next p heap d root [] all [] suit e refl in
    let first : tokens ≡ opening_at p heap root = t ∙ ap (λ ts. ts ++ opening_at p heap root) n in
    let frames : reverse fs ≡ (root, 0) ∷ [] = ap reverse (f ∙ ap (λ xs. xs ++ (root, 0) ∷ []) nf) in
    record {
      rest = r.1.0;
      left = subst (λ (xs : List (ℕ × ℕ)). left_at p heap d xs ≡ Some r.1.0) (sym frames) r.1.1;
      all = e ∙ ap (λ ts. Some ts) (sym (nothing_more all) ∙ (r.1.2 ∙ ap (λ ts. ts ++ r.1.0) (sym first)));
      there = subst (AreThereAt heap) (sym frames) (some_of (get heap root) r.0.0 r.0.1, tt);
    }

-- the object of the top frame is there
pub top_there : (p : Program) (heap : Objects) (d root at next : ℕ) (tokens : List Token) (fs gs : List (ℕ × ℕ)) → EmittingAt p heap d root tokens (reverse fs) → fs ≡ gs ++ (at, next) ∷ [] → IsSome (get heap at)
top_there p heap d root at next tokens fs gs m f = (subst (AreThereAt heap) (turn_one fs (at, next) gs f) m.there).0

-- an object ends
pub emitting_end : (p : Program) (heap : Objects) (d root at next : ℕ) (tokens tokens' : List Token) (fs gs : List (ℕ × ℕ)) → EmittingAt p heap d root tokens (reverse fs) → fs ≡ gs ++ (at, next) ∷ [] → length (held_of heap at) ≤ next → tokens' ≡ tokens ++ token.Close ∷ [] →
    EmittingAt p heap d root tokens' (reverse gs) × (left_of (left_at p heap d (reverse gs)) < left_of (left_at p heap d (reverse fs)))
emitting_end p heap d root at next tokens tokens' fs gs m f le t =
    let left : left_at p heap d ((at, next) ∷ reverse gs) ≡ Some m.rest = subst (λ (xs : List (ℕ × ℕ)). left_at p heap d xs ≡ Some m.rest) (turn_one fs (at, next) gs f) m.left in
    let r = ends_next p heap d at next (reverse gs) m.rest left le in
    let own : tokens ++ m.rest ≡ tokens' ++ r.0 = ap (λ ts. tokens ++ ts) r.2 ∙ (sym (append_assoc tokens (token.Close ∷ []) r.0) ∙ ap (λ ts. ts ++ r.0) (sym t)) in
    (record { rest = r.0; left = r.1; all = m.all ∙ ap (λ ts. Some ts) own; there = (subst (AreThereAt heap) (turn_one fs (at, next) gs f) m.there).1 }, omega (arith, ap left_of r.1, ap left_of m.left, ap length r.2))

-- a value
pub record ValueAt (p : Program) (heap : Objects) (d root : ℕ) (v : Value) (tokens : List Token) (fs : List (ℕ × ℕ)) (long : ℕ) : Type 0 where
  pub own : List Token
  pub others : List Token
  pub shows : heap_tokens p heap d v ≡ Some own
  pub left : left_at p heap d fs ≡ Some others
  pub all : heap_tokens p heap d (Ref root) ≡ Some (tokens ++ (own ++ others))
  pub there : AreThereAt heap fs
  pub long_is : long ≡ length own + length others

pub value_at : (p : Program) (heap : Objects) (d root at next after : ℕ) (v : Value) (tokens : List Token) (fs gs hs : List (ℕ × ℕ)) → EmittingAt p heap d root tokens (reverse fs) → fs ≡ gs ++ (at, next) ∷ [] → next < length (held_of heap at) → v ≡ get_or (held_of heap at) next v → after ≡ next + 1 → hs ≡ gs ++ (at, after) ∷ [] →
    ValueAt p heap d root v tokens (reverse hs) (left_of (left_at p heap d (reverse fs)))
value_at p heap d root at next after v tokens fs gs hs m f lt is af h =
    let left : left_at p heap d ((at, next) ∷ reverse gs) ≡ Some m.rest = subst (λ (xs : List (ℕ × ℕ)). left_at p heap d xs ≡ Some m.rest) (turn_one fs (at, next) gs f) m.left in
    let r = value_next p heap d at next after (reverse gs) m.rest v left lt is af in
    let there = subst (AreThereAt heap) (turn_one fs (at, next) gs f) m.there in
    record {
      own = r.own;
      others = r.others;
      shows = r.shows;
      left = subst (λ (xs : List (ℕ × ℕ)). left_at p heap d xs ≡ Some r.others) (sym (turn_one hs (at, after) gs h)) r.left;
      all = m.all ∙ ap (λ ts. Some (tokens ++ ts)) r.all;
      there = subst (AreThereAt heap) (sym (turn_one hs (at, after) gs h)) (there.0, there.1);
      long_is = omega (arith, ap left_of m.left, ap length r.all, length-append r.own r.others);
    }

pub ref_there : (p : Program) (heap : Objects) (d root : ℕ) (v : Value) (tokens : List Token) (fs : List (ℕ × ℕ)) (long : ℕ) → AllSuit p heap → ValueAt p heap d root v tokens fs long → RefThere heap v
ref_there p heap d root (Int n) tokens fs long suit t = tt
ref_there p heap d root (Long n) tokens fs long suit t = tt
ref_there p heap d root Null tokens fs long suit t = tt
ref_there p heap d root (Ref n) tokens fs long suit t = let o = (object_next p heap d n fs t.own t.others suit t.shows t.left).0 in some_of (get heap n) o.0 o.1
ref_there p heap d root (Text units) tokens fs long suit t = tt
ref_there p heap d root (Box box) tokens fs long suit t = tt
ref_there p heap d root Fiber tokens fs long suit t = tt

after_plain : (p : Program) (heap : Objects) (d root : ℕ) (v : Value) (tokens tokens' : List Token) (fs gs : List (ℕ × ℕ)) (long : ℕ) → ((n : ℕ) → v ≡ Ref n → ⊥) → ValueAt p heap d root v tokens fs long → tokens' ≡ tokens ++ plain_tokens v → gs ≡ fs →
    EmittingAt p heap d root tokens' gs × (left_of (left_at p heap d gs) < long)
after_plain p heap d root v tokens tokens' fs gs long other t te ge =
    let own = plain_next p heap d v t.own other t.shows in
    let whole : tokens ++ (t.own ++ t.others) ≡ tokens' ++ t.others = sym (append_assoc tokens t.own t.others) ∙ ap (λ ts. ts ++ t.others) (ap (λ ts. tokens ++ ts) own.0 ∙ sym te) in
    let left : left_at p heap d gs ≡ Some t.others = subst (λ (xs : List (ℕ × ℕ)). left_at p heap d xs ≡ Some t.others) (sym ge) t.left in
    (record { rest = t.others; left = left; all = t.all ∙ ap (λ ts. Some ts) whole; there = subst (AreThereAt heap) (sym ge) t.there }, omega (arith, ap left_of left, t.long_is, own.1))

pub value_done : (p : Program) (heap : Objects) (d root : ℕ) (v : Value) (tokens tokens' : List Token) (hs is : List (ℕ × ℕ)) (long : ℕ) → AllSuit p heap → ValueAt p heap d root v tokens (reverse hs) long → EmitsAt p heap v tokens tokens' hs is →
    EmittingAt p heap d root tokens' (reverse is) × (left_of (left_at p heap d (reverse is)) < long)
value_done p heap d root (Int n) tokens tokens' hs is long suit t e = after_plain p heap d root (Int n) tokens tokens' (reverse hs) (reverse is) long (λ m q. absurd (cc)) t e.0 (ap reverse e.1)
value_done p heap d root (Long n) tokens tokens' hs is long suit t e = after_plain p heap d root (Long n) tokens tokens' (reverse hs) (reverse is) long (λ m q. absurd (cc)) t e.0 (ap reverse e.1)
value_done p heap d root Null tokens tokens' hs is long suit t e = after_plain p heap d root Null tokens tokens' (reverse hs) (reverse is) long (λ m q. absurd (cc)) t e.0 (ap reverse e.1)
value_done p heap d root (Text units) tokens tokens' hs is long suit t e = after_plain p heap d root (Text units) tokens tokens' (reverse hs) (reverse is) long (λ m q. absurd (cc)) t e.0 (ap reverse e.1)
value_done p heap d root (Box box) tokens tokens' hs is long suit t e = after_plain p heap d root (Box box) tokens tokens' (reverse hs) (reverse is) long (λ m q. absurd (cc)) t e.0 (ap reverse e.1)
value_done p heap d root Fiber tokens tokens' hs is long suit t e = absurd (let bad = t.shows in cc)
value_done p heap d root (Ref n) tokens tokens' hs is long suit t e =
    let r = object_next p heap d n (reverse hs) t.own t.others suit t.shows t.left in
    let frames : reverse is ≡ (n, 0) ∷ reverse hs = turn_one is (n, 0) hs e.1 in
    let left : left_at p heap d (reverse is) ≡ Some r.1.0 = subst (λ (xs : List (ℕ × ℕ)). left_at p heap d xs ≡ Some r.1.0) (sym frames) r.1.1 in
    let whole : tokens ++ (t.own ++ t.others) ≡ tokens' ++ r.1.0 = ap (λ ts. tokens ++ ts) r.1.2 ∙ (sym (append_assoc tokens (opening_at p heap n) r.1.0) ∙ ap (λ ts. ts ++ r.1.0) (sym e.0)) in
    (record { rest = r.1.0; left = left; all = t.all ∙ ap (λ ts. Some ts) whole; there = subst (AreThereAt heap) (sym frames) (some_of (get heap n) r.0.0 r.0.1, t.there) }, omega (arith, ap left_of left, t.long_is, ap length r.1.2, length-append t.own t.others, length-append (opening_at p heap n) r.1.0, opening_long p heap n r.0.0 r.0.1))

pub all_emitted : (p : Program) (heap : Objects) (d root : ℕ) (tokens : List Token) (fs : List (ℕ × ℕ)) → EmittingAt p heap d root tokens (reverse fs) → length fs ≡ 0 → heap_tokens p heap d (Ref root) ≡ Some tokens
all_emitted p heap d root tokens [] m e = let none : List Token = [] in let q : Some none ≡ Some m.rest = m.left in let h : none ≡ m.rest = cc in m.all ∙ ap (λ ts. Some ts) (ap (λ ts. tokens ++ ts) (sym h) ∙ nothing_more tokens)
all_emitted p heap d root tokens (f ∷ fs) m e = absurd (omega arith)

-- ---- the whole call

own_tokens : (p : Program) (heap : Objects) (root n : ℕ) → AllSuit p heap → IsSize heap root n → (ts : List Token) × (shape_of p heap root ≡ Some ts) × (heap_tokens p heap tree_limit (Ref root) ≡ Some ts)
own_tokens p heap root n suit s = has_shape p heap root s.entries (each_suits p heap suit s.entries s.tree.are_in) s.tree (omega (arith, s.small, s.count))

pub shape_there : (p : Program) (heap : Objects) (root n : ℕ) → AllSuit p heap → IsSize heap root n → HasShapeAt p heap root
shape_there p heap root n suit s = let t = own_tokens p heap root n suit s in record { suit = suit; tokens = t.0; are = t.2 }

pub shape_is : (p : Program) (heap : Objects) (root n : ℕ) (tokens : List Token) → AllSuit p heap → IsSize heap root n → AreTokensAt p heap root tokens → Some tokens ≡ shape_of p heap root
shape_is p heap root n tokens suit s are =
    let t = own_tokens p heap root n suit s in
    let q : Some t.0 ≡ Some tokens = sym t.2 ∙ are in
    let h : t.0 ≡ tokens = cc in
    sym (t.1 ∙ ap (λ ts. Some ts) h)
