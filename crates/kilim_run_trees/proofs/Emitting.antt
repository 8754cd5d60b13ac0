-- One token after the other.
use Rattle.std.proofs.Common.{◌≡◌, ℕ, zero, suc, ◌+◌, ◌<◌, ◌≤◌, List, [], ◌∷◌, ◌++◌, Option, Some, None, length, refl, sym, ap, subst, ◌∙◌, arith, length-append, append_assoc, get_or, drop, drop-cons, add-one, reverse}
use Rattle.std.proofs.lemmas.List.{reverse-append}
use Rattle.std.specs.FinMap.{get, insert, get-empty}
use Rattle.std.specs.Prelude.{Result, Ok, Err, IfOk}
use Rattle.std.specs.Ordering.{nat_cmp}
use Rattle.kilim_program.specs.declared.class.Program.{Program}
use Rattle.kilim_program.specs.declared.names.FieldId.{FieldId}
use Rattle.kilim_run_state.specs.declared.value.Object.{Object}
use Rattle.kilim_run_state.specs.declared.value.Token.{Token}
use Rattle.kilim_run_state.specs.declared.value.Token.TheVariants as token
use Rattle.kilim_program.specs.declared.value.Value.{Value}
use Rattle.kilim_program.specs.declared.value.Value.TheVariants.{Int, Long, Null, Ref, Text, Box, Fiber}
use Rattle.kilim_run_state.specs.Machine.{Objects}
use Rattle.kilim_program.specs.Names.{◌>>=◌, array_descriptor}
use Rattle.kilim_program.specs.Members.{shown_name}
use Rattle.kilim_run_state.specs.Shapes.{shape_of, tree_limit, content_tokens, joined_tokens}
use Rattle.kilim_run_trees.specs.Moved.{heap_tokens}
use Rattle.kilim_run_trees.specs.Walk.{numbered, AreIn}
use Rattle.std.specs.List.{AllByRecursion}
use Rattle.kilim_run_trees.proofs.Shaped.{tree_get}
use Rattle.kilim_run_trees.specs.Moved.{as_heap, tree_heap, IsTreeList}
use Rattle.kilim_run_trees.specs.Shaping.{held, field_values, Suits}
use Rattle.kilim_run_trees.specs.Emitted.{plain_tokens, held_at, Item, Shows, Ends, all_shown, items_of, item_tokens, to_come, brackets, opening, RefWithin, Emits, HasShape, AreTokens}
use Rattle.kilim_run_trees.proofs.Maps.{got-there, got-other}
use Rattle.kilim_run_trees.proofs.Tokens.{bind_some, joined_grows, joined_both, deeper, content_held, has_shape, EachSuits}

at_end : (k : ℕ) → brackets k ++ 91 ∷ [] ≡ brackets (suc k)
at_end zero = refl
at_end (suc k) = ap (λ xs. 91 ∷ xs) (at_end k)

pub brackets_more : (out after base : List ℕ) (k : ℕ) → out ≡ base ++ brackets k → after ≡ out ++ 91 ∷ [] → after ≡ base ++ brackets (k + 1)
brackets_more out after base k e a = a ∙ (ap (λ xs. xs ++ 91 ∷ []) e ∙ (append_assoc base (brackets k) (91 ∷ []) ∙ ap (λ xs. base ++ xs) (at_end k ∙ ap brackets (sym (add-one k)))))

pub array_brackets : (n : ℕ) (e : List ℕ) → array_descriptor n e ≡ brackets n ++ e
array_brackets zero e = refl
array_brackets (suc n) e = ap (λ xs. 91 ∷ xs) (array_brackets n e)

-- ---- the values of an object

pub held_out : (os : List Object) (at : ℕ) → length os ≤ at → held_at os at ≡ []
held_out [] at h = refl
held_out (o ∷ os) zero h = absurd (omega arith)
held_out (o ∷ os) (suc at) h = let h' : length os ≤ at = omega arith in held_out os at h'

pub held_in : (os : List Object) (at : ℕ) (o d : Object) → at < length os → o ≡ get_or os at d → held_at os at ≡ held o
held_in [] at o d lt e = absurd (omega arith)
held_in (p ∷ os) zero o d lt e = ap held (sym e)
held_in (p ∷ os) (suc at) o d lt e = let lt' : at < length os = omega arith in held_in os at o d lt' e

field_long : (es : List (FieldId × Value)) → length (field_values es) ≡ length es
field_long [] = refl
field_long (e ∷ es) = ap suc (field_long es)

pub in_fields : (es : List (FieldId × Value)) (vs : List Value) (n : ℕ) (d : FieldId × Value) (d' : Value) → n < length es → (get_or es n d).1 ≡ get_or (field_values es ++ vs) n d'
in_fields [] vs n d d' lt = absurd (omega arith)
in_fields (e ∷ es) vs zero d d' lt = refl
in_fields (e ∷ es) vs (suc n) d d' lt = let lt' : n < length es = omega arith in in_fields es vs n d d' lt'

zero_plus : (n : ℕ) → n ≡ 0 + n
zero_plus n = omega arith

suc_plus : (m n : ℕ) → suc (m + n) ≡ suc m + n
suc_plus m n = omega arith

pub in_elements : (es : List (FieldId × Value)) (vs : List Value) (n : ℕ) (d : Value) → get_or vs n d ≡ get_or (field_values es ++ vs) (length es + n) d
in_elements [] vs n d = ap (λ k. get_or vs k d) (zero_plus n)
in_elements (e ∷ es) vs n d = in_elements es vs n d ∙ ap (λ k. get_or (e.1 ∷ (field_values es ++ vs)) k d) (suc_plus (length es) n)

pub held_long : (o : Object) → length (held o) ≡ length o.fields + length o.elements
held_long o = omega (arith, length-append (field_values o.fields) o.elements, field_long o.fields)

pub field_found : (os : List Object) (at next : ℕ) (o : Object) (fs : List (FieldId × Value)) (d : FieldId × Value) (v : Value) → at < length os → o ≡ get_or os at o → fs ≡ o.fields → next < length fs → v ≡ (get_or fs next d).1 → (next < length (held_at os at)) × (v ≡ get_or (held_at os at) next v)
field_found os at next o fs d v lt oe fe n ve =
    let h : held_at os at ≡ held o = held_in os at o o lt oe in
    let n' : next < length o.fields = subst (λ (fs : List (FieldId × Value)). next < length fs) fe n in (
      subst (λ (vs : List Value). next < length vs) (sym h) (omega (arith, held_long o, n')),
      ve ∙ (ap (λ (fs : List (FieldId × Value)). (get_or fs next d).1) fe ∙ (in_fields o.fields o.elements next d v n' ∙ ap (λ vs. get_or vs next v) (sym h))),
    )

pub element_found : (os : List Object) (at next rest : ℕ) (o : Object) (vs : List Value) (v : Value) → at < length os → o ≡ get_or os at o → vs ≡ o.elements → length o.fields + rest ≡ next → rest < length vs → v ≡ get_or vs rest v → (next < length (held_at os at)) × (v ≡ get_or (held_at os at) next v)
element_found os at next rest o vs v lt oe ve n r e =
    let h : held_at os at ≡ held o = held_in os at o o lt oe in
    let r' : rest < length o.elements = subst (λ (vs : List Value). rest < length vs) ve r in (
      subst (λ (vs : List Value). next < length vs) (sym h) (omega (arith, held_long o, r', n)),
      e ∙ (ap (λ vs. get_or vs rest v) ve ∙ (in_elements o.fields o.elements rest v ∙ (ap (λ k. get_or (held o) k v) n ∙ ap (λ vs. get_or vs next v) (sym h)))),
    )

pub none_found : (os : List Object) (at next : ℕ) (o : Object) → at < length os → o ≡ get_or os at o → length o.fields + length o.elements ≤ next → length (held_at os at) ≤ next
none_found os at next o lt oe le = omega (arith, ap length (held_in os at o o lt oe), held_long o, le)

pub none_out : (os : List Object) (at next : ℕ) → length os ≤ at → length (held_at os at) ≤ next
none_out os at next le = omega (arith, ap length (held_out os at le))

pub ok_into : {A E : Type 0} (r : Result A E) (P Q : Type 0) → IfOk r (λ x. P) → (P → Q) → IfOk r (λ x. Q)
ok_into (Ok x) P Q p f = f p
ok_into (Err x) P Q p f = tt

pub ok_as : {A E : Type 0} (r : Result A E) (P Q : A → Type 0) → IfOk r P → ((x : A) → P x → Q x) → IfOk r Q
ok_as (Ok x) P Q p f = f x p
ok_as (Err x) P Q p f = tt

pub described : (old mid new base : List ℕ) (n : ℕ) → mid ≡ old ++ brackets n → new ≡ mid ++ base → new ≡ old ++ array_descriptor n base
described old mid new base n m e = e ∙ (ap (λ xs. xs ++ base) m ∙ (append_assoc old (brackets n) base ∙ ap (λ xs. old ++ xs) (sym (array_brackets n base))))

pub drop_all : {A : Type 0} (xs : List A) (n : ℕ) → length xs ≤ n → drop n xs ≡ []
drop_all [] zero h = refl
drop_all [] (suc n) h = refl
drop_all (x ∷ xs) zero h = absurd (omega arith)
drop_all (x ∷ xs) (suc n) h = let h' : length xs ≤ n = omega arith in drop_all xs n h'

none_plus : (n : ℕ) → n ≡ n + 0
none_plus n = omega arith

suc_plus' : (n k : ℕ) → suc n + k ≡ n + suc k
suc_plus' n k = omega arith

-- ---- what an object of the tree is

tree_none : (os : List Object) (n j : ℕ) → length os ≤ j → get (as_heap (numbered n os)) (n + j) ≡ None
tree_none [] n j h = get-empty nat_cmp (n + j)
tree_none (o ∷ os) n zero h = absurd (omega arith)
tree_none (o ∷ os) n (suc j) h = let h' : length os ≤ j = omega arith in got-other _ n o (n + suc j) (λ e. absurd (omega (arith, e))) ∙ (ap (get (as_heap (numbered (suc n) os))) (sym (suc_plus' n j)) ∙ tree_none os (suc n) j h')

-- an object of the tree that is found
pub record FoundAt (p : Program) (os : List Object) (n : ℕ) (o : Object) : Type 0 where
  pub within : n < length os
  pub holds : held_at os n ≡ held o
  pub begins : opening p os n ≡ token.Open (shown_name p o.class) ∷ []

found_from : (p : Program) (os : List Object) (n j : ℕ) (o : Object) → get (as_heap (numbered n os)) (n + j) ≡ Some o → FoundAt p os j o
found_from p [] n j o e = let none : None ≡ Some o = sym (get-empty nat_cmp (n + j)) ∙ e in absurd (cc)
found_from p (x ∷ os) n zero o e =
    let h : Some x ≡ Some o = sym (ap (get (insert (as_heap (numbered (suc n) os)) n x)) (sym (none_plus n)) ∙ got-there _ n x) ∙ e in
    let is : x ≡ o = cc in
    record { within = omega arith; holds = ap held is; begins = ap (λ (x : Object). token.Open (shown_name p x.class) ∷ []) is }
found_from p (x ∷ os) n (suc j) o e =
    let r = found_from p os (suc n) j o (ap (get (as_heap (numbered (suc n) os))) (suc_plus' n j) ∙ (sym (got-other _ n x (n + suc j) (λ e. absurd (omega (arith, e)))) ∙ e)) in
    record { within = omega (arith, r.within); holds = r.holds; begins = r.begins }

pub found_at : (p : Program) (os : List Object) (j : ℕ) (o : Object) → get (tree_heap os) j ≡ Some o → FoundAt p os j o
found_at p os j o e = found_from p os 0 j o (ap (get (tree_heap os)) (sym (zero_plus j)) ∙ e)

-- ---- the steps

abbrev pub Rest : Program → List Object → ℕ → List (ℕ × ℕ) → List Token → Type 0
Rest p os d fs rest = to_come p (tree_heap os) d os fs ≡ Some rest

pub shown_more : (vs ws : List Value) (v : Value) (after : List Item) → vs ≡ v ∷ ws → all_shown vs after ≡ Shows v ∷ all_shown ws after
shown_more vs ws v after e = ap (λ vs. all_shown vs after) e

-- the values of the top object are done
pub ends_next : (p : Program) (os : List Object) (d at next : ℕ) (fs : List (ℕ × ℕ)) (rest : List Token) → Rest p os d ((at, next) ∷ fs) rest → length (held_at os at) ≤ next → (rest' : List Token) × Rest p os d fs rest' × (rest ≡ token.Close ∷ rest')
ends_next p os d at next fs rest r le =
    let none : drop next (held_at os at) ≡ [] = drop_all (held_at os at) next le in
    let r' : joined_tokens (item_tokens p (tree_heap os) d) (Ends ∷ items_of os fs) ≡ Some rest = ap (λ vs. joined_tokens (item_tokens p (tree_heap os) d) (all_shown vs (Ends ∷ items_of os fs))) (sym none) ∙ r in
    let b = bind_some (to_come p (tree_heap os) d os fs) (λ others. Some (token.Close ∷ others)) rest r' in
    (b.0, b.1, let q : Some (token.Close ∷ b.0) ≡ Some rest = b.2 in let h : token.Close ∷ b.0 ≡ rest = cc in sym h)

pub record NextValue (p : Program) (os : List Object) (d : ℕ) (v : Value) (fs : List (ℕ × ℕ)) (rest : List Token) : Type 0 where
  pub own : List Token
  pub others : List Token
  pub shows : heap_tokens p (tree_heap os) d v ≡ Some own
  pub left : Rest p os d fs others
  pub all : rest ≡ own ++ others

pub value_next : (p : Program) (os : List Object) (d at next after : ℕ) (fs : List (ℕ × ℕ)) (rest : List Token) (v : Value) → Rest p os d ((at, next) ∷ fs) rest → next < length (held_at os at) → v ≡ get_or (held_at os at) next v → after ≡ next + 1 → NextValue p os d v ((at, after) ∷ fs) rest
value_next p os d at next after fs rest v r lt is af =
    let vs : List Value = held_at os at in
    let more : drop next vs ≡ v ∷ drop after vs = drop-cons vs next v lt ∙ ((λ i. sym is i ∷ drop (suc next) vs) ∙ ap (λ k. v ∷ drop k vs) (sym (add-one next) ∙ sym af)) in
    let r' : joined_tokens (item_tokens p (tree_heap os) d) (Shows v ∷ items_of os ((at, after) ∷ fs)) ≡ Some rest = ap (λ vs. joined_tokens (item_tokens p (tree_heap os) d) (all_shown vs (Ends ∷ items_of os fs))) (sym more) ∙ r in
    let a = bind_some (heap_tokens p (tree_heap os) d v) (λ first. to_come p (tree_heap os) d os ((at, after) ∷ fs) >>= λ others. Some (first ++ others)) rest r' in
    let b = bind_some (to_come p (tree_heap os) d os ((at, after) ∷ fs)) (λ others. Some (a.0 ++ others)) rest a.2 in
    record { own = a.0; others = b.0; shows = a.1; left = b.1; all = let q : Some (a.0 ++ b.0) ≡ Some rest = b.2 in let h : a.0 ++ b.0 ≡ rest = cc in sym h }

pub joined_items : (p : Program) (heap : Objects) (d : ℕ) (vs : List Value) (items : List Item) (c rest : List Token) → joined_tokens (heap_tokens p heap d) vs ≡ Some c → joined_tokens (item_tokens p heap d) items ≡ Some rest → joined_tokens (item_tokens p heap d) (all_shown vs items) ≡ Some (c ++ rest)
joined_items p heap d [] items c rest e f = let none : List Token = [] in let q : Some none ≡ Some c = e in let h : none ≡ c = cc in f ∙ ap (λ c. Some (c ++ rest)) h
joined_items p heap d (v ∷ vs) items c rest e f =
    let a = bind_some (heap_tokens p heap d v) (λ first. joined_tokens (heap_tokens p heap d) vs >>= λ others. Some (first ++ others)) c e in
    let b = bind_some (joined_tokens (heap_tokens p heap d) vs) (λ others. Some (a.0 ++ others)) c a.2 in
    let whole : a.0 ++ b.0 ≡ c = let q : Some (a.0 ++ b.0) ≡ Some c = b.2 in cc in
    joined_both (item_tokens p heap d) (Shows v) (all_shown vs items) a.0 (b.0 ++ rest) a.1 (joined_items p heap d vs items b.0 rest b.1 f)
    ∙ ap (λ ts. Some ts) (sym (append_assoc a.0 b.0 rest) ∙ ap (λ c. c ++ rest) whole)

-- an object begins
pub object_next : (p : Program) (os : List Object) (d n : ℕ) (fs : List (ℕ × ℕ)) (own others : List Token) → ((j : ℕ) (o : Object) → get (tree_heap os) j ≡ Some o → Suits p o) → heap_tokens p (tree_heap os) d (Ref n) ≡ Some own → Rest p os d fs others → (n < length os) × ((rest' : List Token) × Rest p os d ((n, 0) ∷ fs) rest' × (own ++ others ≡ opening p os n ++ rest'))
object_next p os zero n fs own others suit e l = absurd (cc)
object_next p os (suc d) n fs own others suit e l =
    let heap : Objects = tree_heap os in
    let a = bind_some (get heap n) (λ (object : Object). content_tokens p (heap_tokens p heap d) object >>= λ content. Some (token.Open (shown_name p object.class) ∷ (content ++ token.Close ∷ []))) own e in
    let b = bind_some (content_tokens p (heap_tokens p heap d) a.0) (λ content. Some (token.Open (shown_name p a.0.class) ∷ (content ++ token.Close ∷ []))) own a.2 in
    let f = found_at p os n a.0 a.1 in
    let content : joined_tokens (heap_tokens p heap d) (held a.0) ≡ Some b.0 = sym (content_held p (heap_tokens p heap d) a.0 (suit n a.0 a.1)) ∙ b.1 in
    let deep : joined_tokens (heap_tokens p heap (suc d)) (held_at os n) ≡ Some b.0 = ap (joined_tokens (heap_tokens p heap (suc d))) f.holds ∙ joined_grows (heap_tokens p heap d) (heap_tokens p heap (suc d)) (λ v ts h. deeper p heap d v ts h) (held a.0) b.0 content in
    let closing : joined_tokens (item_tokens p heap (suc d)) (Ends ∷ items_of os fs) ≡ Some (token.Close ∷ others) = joined_both (item_tokens p heap (suc d)) Ends (items_of os fs) (token.Close ∷ []) others refl l in
    let own_is : token.Open (shown_name p a.0.class) ∷ (b.0 ++ token.Close ∷ []) ≡ own = let q : Some (token.Open (shown_name p a.0.class) ∷ (b.0 ++ token.Close ∷ [])) ≡ Some own = b.2 in cc in (
      f.within,
      (
        b.0 ++ token.Close ∷ others,
        joined_items p heap (suc d) (held_at os n) (Ends ∷ items_of os fs) b.0 (token.Close ∷ others) deep closing,
        ap (λ own. own ++ others) (sym own_is) ∙ (ap (λ ts. token.Open (shown_name p a.0.class) ∷ ts) (append_assoc b.0 (token.Close ∷ []) others) ∙ ap (λ ts. ts ++ (b.0 ++ token.Close ∷ others)) (sym f.begins)),
      ),
    )

opening_is : (p : Program) (os : List Object) (at : ℕ) (o d : Object) → at < length os → o ≡ get_or os at d → opening p os at ≡ token.Open (shown_name p o.class) ∷ []
opening_is p [] at o d lt e = absurd (omega arith)
opening_is p (x ∷ os) zero o d lt e = ap (λ (x : Object). token.Open (shown_name p x.class) ∷ []) (sym e)
opening_is p (x ∷ os) (suc at) o d lt e = let lt' : at < length os = omega arith in opening_is p os at o d lt' e

one_token : (t : Token) (own : List Token) → Some (t ∷ []) ≡ Some own → (own ≡ t ∷ []) × (0 < length own)
one_token t own e = let h : t ∷ [] ≡ own = cc in (sym h, subst (λ (ts : List Token). 0 < length ts) h (omega arith))

-- a value that is no object
pub plain_next : (p : Program) (heap : Objects) (d : ℕ) (v : Value) (own : List Token) → ((n : ℕ) → v ≡ Ref n → ⊥) → heap_tokens p heap d v ≡ Some own → (own ≡ plain_tokens v) × (0 < length own)
plain_next p heap d (Int n) own other e = one_token (token.Int n) own e
plain_next p heap d (Long n) own other e = one_token (token.Long n) own e
plain_next p heap d Null own other e = one_token token.Null own e
plain_next p heap d (Ref n) own other e = absurd (other n refl)
plain_next p heap d (Text units) own other e = one_token (token.Text units) own e
plain_next p heap d (Box box) own other e = one_token (token.Box box) own e
plain_next p heap d Fiber own other e = absurd (cc)

pub begins_with : (p : Program) (os : List Object) (at : ℕ) (o d : Object) (name : List ℕ) (old new : List Token) → at < length os → o ≡ get_or os at d → name ≡ shown_name p o.class → new ≡ old ++ token.Open name ∷ [] → new ≡ old ++ opening p os at
begins_with p os at o d name old new lt oe n e = e ∙ ap (λ ts. old ++ ts) (ap (λ name. token.Open name ∷ []) n ∙ sym (opening_is p os at o d lt oe))

-- ---- the loop

abbrev pub left_of : Option (List Token) → ℕ
left_of None = 0
left_of (Some ts) = length ts

pub record Emitting (p : Program) (os : List Object) (d : ℕ) (tokens : List Token) (fs : List (ℕ × ℕ)) : Type 0 where
  pub rest : List Token
  pub left : Rest p os d fs rest
  pub all : heap_tokens p (tree_heap os) d (Ref 0) ≡ Some (tokens ++ rest)

abbrev pub AllFit : Program → List Object → Type 0
AllFit p os = (j : ℕ) (o : Object) → get (tree_heap os) j ≡ Some o → Suits p o

pub nothing_more : (tokens : List Token) → tokens ++ [] ≡ tokens
nothing_more [] = refl
nothing_more (t ∷ ts) = ap (λ xs. t ∷ xs) (nothing_more ts)

pub turn_one : (fs : List (ℕ × ℕ)) (f : ℕ × ℕ) (gs : List (ℕ × ℕ)) → fs ≡ gs ++ f ∷ [] → reverse fs ≡ f ∷ reverse gs
turn_one fs f gs e = ap reverse e ∙ reverse-append gs (f ∷ [])

-- at the beginning
pub emitting_first : (p : Program) (os : List Object) (d : ℕ) (all none tokens : List Token) (nof fs : List (ℕ × ℕ)) → AllFit p os → heap_tokens p (tree_heap os) d (Ref 0) ≡ Some all → none ≡ [] → nof ≡ [] → tokens ≡ none ++ opening p os 0 → fs ≡ nof ++ (0, 0) ∷ [] → Emitting p os d tokens (reverse fs)
emitting_first p os d all none tokens nof fs suit e n nf t f =
    let r = object_next p os d 0 [] all [] suit e refl in
    let first : tokens ≡ opening p os 0 = t ∙ ap (λ ts. ts ++ opening p os 0) n in
    let frames : reverse fs ≡ (0, 0) ∷ [] = ap reverse (f ∙ ap (λ xs. xs ++ (0, 0) ∷ []) nf) in
    record {
      rest = r.1.0;
      left = subst (λ (xs : List (ℕ × ℕ)). Rest p os d xs r.1.0) (sym frames) r.1.1;
      all = e ∙ ap (λ ts. Some ts) (sym (nothing_more all) ∙ (r.1.2 ∙ ap (λ ts. ts ++ r.1.0) (sym first)));
    }

pub first_within : (p : Program) (os : List Object) (d : ℕ) (all : List Token) → AllFit p os → heap_tokens p (tree_heap os) d (Ref 0) ≡ Some all → 0 < length os
first_within p os d all suit e = (object_next p os d 0 [] all [] suit e refl).0

-- an object ends
pub emitting_end : (p : Program) (os : List Object) (d at next : ℕ) (tokens tokens' : List Token) (fs gs : List (ℕ × ℕ)) → Emitting p os d tokens (reverse fs) → fs ≡ gs ++ (at, next) ∷ [] → length (held_at os at) ≤ next → tokens' ≡ tokens ++ token.Close ∷ [] → Emitting p os d tokens' (reverse gs) × (left_of (to_come p (tree_heap os) d os (reverse gs)) < left_of (to_come p (tree_heap os) d os (reverse fs)))
emitting_end p os d at next tokens tokens' fs gs m f le t =
    let left : Rest p os d ((at, next) ∷ reverse gs) m.rest = subst (λ (xs : List (ℕ × ℕ)). Rest p os d xs m.rest) (turn_one fs (at, next) gs f) m.left in
    let r = ends_next p os d at next (reverse gs) m.rest left le in
    let own : tokens ++ m.rest ≡ tokens' ++ r.0 = ap (λ ts. tokens ++ ts) r.2 ∙ (sym (append_assoc tokens (token.Close ∷ []) r.0) ∙ ap (λ ts. ts ++ r.0) (sym t)) in
    (record { rest = r.0; left = r.1; all = m.all ∙ ap (λ ts. Some ts) own }, omega (arith, ap left_of r.1, ap left_of m.left, ap length r.2))

-- a value
pub record ValueThere (p : Program) (os : List Object) (d : ℕ) (v : Value) (tokens : List Token) (fs : List (ℕ × ℕ)) (long : ℕ) : Type 0 where
  pub own : List Token
  pub others : List Token
  pub shows : heap_tokens p (tree_heap os) d v ≡ Some own
  pub left : Rest p os d fs others
  pub all : heap_tokens p (tree_heap os) d (Ref 0) ≡ Some (tokens ++ (own ++ others))
  pub long_is : long ≡ length own + length others

pub value_there : (p : Program) (os : List Object) (d at next after : ℕ) (v : Value) (tokens : List Token) (fs gs hs : List (ℕ × ℕ)) → Emitting p os d tokens (reverse fs) → fs ≡ gs ++ (at, next) ∷ [] → next < length (held_at os at) → v ≡ get_or (held_at os at) next v → after ≡ next + 1 → hs ≡ gs ++ (at, after) ∷ [] → ValueThere p os d v tokens (reverse hs) (left_of (to_come p (tree_heap os) d os (reverse fs)))
value_there p os d at next after v tokens fs gs hs m f lt is af h =
    let left : Rest p os d ((at, next) ∷ reverse gs) m.rest = subst (λ (xs : List (ℕ × ℕ)). Rest p os d xs m.rest) (turn_one fs (at, next) gs f) m.left in
    let r = value_next p os d at next after (reverse gs) m.rest v left lt is af in
    record {
      own = r.own;
      others = r.others;
      shows = r.shows;
      left = subst (λ (xs : List (ℕ × ℕ)). Rest p os d xs r.others) (sym (turn_one hs (at, after) gs h)) r.left;
      all = m.all ∙ ap (λ ts. Some (tokens ++ ts)) r.all;
      long_is = omega (arith, ap left_of m.left, ap length r.all, length-append r.own r.others);
    }

pub ref_within : (p : Program) (os : List Object) (d : ℕ) (v : Value) (tokens : List Token) (fs : List (ℕ × ℕ)) (long : ℕ) → AllFit p os → ValueThere p os d v tokens fs long → RefWithin v (length os)
ref_within p os d (Int n) tokens fs long suit t = tt
ref_within p os d (Long n) tokens fs long suit t = tt
ref_within p os d Null tokens fs long suit t = tt
ref_within p os d (Ref n) tokens fs long suit t = (object_next p os d n fs t.own t.others suit t.shows t.left).0
ref_within p os d (Text units) tokens fs long suit t = tt
ref_within p os d (Box box) tokens fs long suit t = tt
ref_within p os d Fiber tokens fs long suit t = tt

after_plain : (p : Program) (os : List Object) (d : ℕ) (v : Value) (tokens tokens' : List Token) (fs gs : List (ℕ × ℕ)) (long : ℕ) → ((n : ℕ) → v ≡ Ref n → ⊥) → ValueThere p os d v tokens fs long → tokens' ≡ tokens ++ plain_tokens v → gs ≡ fs → Emitting p os d tokens' gs × (left_of (to_come p (tree_heap os) d os gs) < long)
after_plain p os d v tokens tokens' fs gs long other t te ge =
    let own = plain_next p (tree_heap os) d v t.own other t.shows in
    let whole : tokens ++ (t.own ++ t.others) ≡ tokens' ++ t.others = sym (append_assoc tokens t.own t.others) ∙ ap (λ ts. ts ++ t.others) (ap (λ ts. tokens ++ ts) own.0 ∙ sym te) in
    let left : Rest p os d gs t.others = subst (λ (xs : List (ℕ × ℕ)). Rest p os d xs t.others) (sym ge) t.left in
    (record { rest = t.others; left = left; all = t.all ∙ ap (λ ts. Some ts) whole }, omega (arith, ap left_of left, t.long_is, own.1))

opening_long : (p : Program) (os : List Object) (n : ℕ) → n < length os → length (opening p os n) ≡ 1
opening_long p [] n lt = absurd (omega arith)
opening_long p (o ∷ os) zero lt = refl
opening_long p (o ∷ os) (suc n) lt = let lt' : n < length os = omega arith in opening_long p os n lt'

pub value_done : (p : Program) (os : List Object) (d : ℕ) (v : Value) (tokens tokens' : List Token) (hs is : List (ℕ × ℕ)) (long : ℕ) → AllFit p os → ValueThere p os d v tokens (reverse hs) long → Emits p os v tokens tokens' hs is → Emitting p os d tokens' (reverse is) × (left_of (to_come p (tree_heap os) d os (reverse is)) < long)
value_done p os d (Int n) tokens tokens' hs is long suit t e = after_plain p os d (Int n) tokens tokens' (reverse hs) (reverse is) long (λ m q. absurd (cc)) t e.0 (ap reverse e.1)
value_done p os d (Long n) tokens tokens' hs is long suit t e = after_plain p os d (Long n) tokens tokens' (reverse hs) (reverse is) long (λ m q. absurd (cc)) t e.0 (ap reverse e.1)
value_done p os d Null tokens tokens' hs is long suit t e = after_plain p os d Null tokens tokens' (reverse hs) (reverse is) long (λ m q. absurd (cc)) t e.0 (ap reverse e.1)
value_done p os d (Text units) tokens tokens' hs is long suit t e = after_plain p os d (Text units) tokens tokens' (reverse hs) (reverse is) long (λ m q. absurd (cc)) t e.0 (ap reverse e.1)
value_done p os d (Box box) tokens tokens' hs is long suit t e = after_plain p os d (Box box) tokens tokens' (reverse hs) (reverse is) long (λ m q. absurd (cc)) t e.0 (ap reverse e.1)
value_done p os d Fiber tokens tokens' hs is long suit t e = absurd (let bad = t.shows in cc)
value_done p os d (Ref n) tokens tokens' hs is long suit t e =
    let r = object_next p os d n (reverse hs) t.own t.others suit t.shows t.left in
    let frames : reverse is ≡ (n, 0) ∷ reverse hs = turn_one is (n, 0) hs e.1 in
    let left : Rest p os d (reverse is) r.1.0 = subst (λ (xs : List (ℕ × ℕ)). Rest p os d xs r.1.0) (sym frames) r.1.1 in
    let o = (object_next p os d n (reverse hs) t.own t.others suit t.shows t.left) in
    let whole : tokens ++ (t.own ++ t.others) ≡ tokens' ++ r.1.0 = ap (λ ts. tokens ++ ts) r.1.2 ∙ (sym (append_assoc tokens (opening p os n) r.1.0) ∙ ap (λ ts. ts ++ r.1.0) (sym e.0)) in
    (record { rest = r.1.0; left = left; all = t.all ∙ ap (λ ts. Some ts) whole }, omega (arith, ap left_of left, t.long_is, ap length r.1.2, length-append t.own t.others, length-append (opening p os n) r.1.0, opening_long p os n r.0))

pub all_emitted : (p : Program) (os : List Object) (d : ℕ) (tokens : List Token) (fs : List (ℕ × ℕ)) → Emitting p os d tokens (reverse fs) → length fs ≡ 0 → heap_tokens p (tree_heap os) d (Ref 0) ≡ Some tokens
all_emitted p os d tokens [] m e = let none : List Token = [] in let q : Some none ≡ Some m.rest = m.left in let h : none ≡ m.rest = cc in m.all ∙ ap (λ ts. Some ts) (ap (λ ts. tokens ++ ts) (sym h) ∙ nothing_more tokens)
all_emitted p os d tokens (f ∷ fs) m e = absurd (omega arith)

-- ---- the whole call

suits_from : (p : Program) (os : List Object) (n j : ℕ) (o : Object) → AllByRecursion (Suits p) os → get (as_heap (numbered n os)) (n + j) ≡ Some o → Suits p o
suits_from p [] n j o a e = let none : None ≡ Some o = sym (get-empty nat_cmp (n + j)) ∙ e in absurd (cc)
suits_from p (x ∷ os) n zero o a e =
    let h : Some x ≡ Some o = sym (ap (get (insert (as_heap (numbered (suc n) os)) n x)) (sym (none_plus n)) ∙ got-there _ n x) ∙ e in
    let is : x ≡ o = cc in
    subst (Suits p) is a.0
suits_from p (x ∷ os) n (suc j) o a e = suits_from p os (suc n) j o a.1 (ap (get (as_heap (numbered (suc n) os))) (suc_plus' n j) ∙ (sym (got-other _ n x (n + suc j) (λ e. absurd (omega (arith, e)))) ∙ e))

in_from : (heap : Objects) (os : List Object) (k : ℕ) → ((j : ℕ) (d : Object) → j < length os → get heap (k + j) ≡ Some (get_or os j d)) → AreIn heap (numbered k os)
in_from heap [] k f = tt
in_from heap (o ∷ os) k f =
    let first : 0 < length (o ∷ os) = omega arith in
    (ap (get heap) (none_plus k) ∙ f 0 o first, in_from heap os (suc k) (λ j d lt. let lt' : suc j < length (o ∷ os) = omega arith in ap (get heap) (suc_plus' k j) ∙ f (suc j) d lt'))

each_suit : (p : Program) (os : List Object) (k : ℕ) → AllByRecursion (Suits p) os → EachSuits p (numbered k os)
each_suit p [] k a = tt
each_suit p (o ∷ os) k a = (a.0, each_suit p os (suc k) a.1)

numbered_long : (k : ℕ) (os : List Object) → length (numbered k os) ≡ length os
numbered_long k [] = refl
numbered_long k (o ∷ os) = ap suc (numbered_long (suc k) os)

pub own_shape : (p : Program) (os : List Object) → IsTreeList os → AllByRecursion (Suits p) os → (ts : List Token) × (shape_of p (tree_heap os) 0 ≡ Some ts) × (heap_tokens p (tree_heap os) tree_limit (Ref 0) ≡ Some ts)
own_shape p os t a = has_shape p (tree_heap os) 0 (numbered 0 os) (each_suit p os 0 a) (record { leads = t.preorder; are_in = in_from (tree_heap os) os 0 (λ j d lt. tree_get os 0 j d lt) }) (omega (arith, t.small, numbered_long 0 os))

pub shape_there : (p : Program) (os objects : List Object) → IsTreeList os → AllByRecursion (Suits p) os → objects ≡ os → HasShape p objects
shape_there p os objects t a e = let s = own_shape p os t a in subst (HasShape p) (sym e) (record { suit = λ j o h. suits_from p os 0 j o a (ap (get (tree_heap os)) (sym (zero_plus j)) ∙ h); tokens = s.0; are = s.2 })

pub shape_is : (p : Program) (os objects : List Object) (tokens : List Token) → IsTreeList os → AllByRecursion (Suits p) os → objects ≡ os → AreTokens p objects tokens → shape_of p (tree_heap os) 0 ≡ Some tokens
shape_is p os objects tokens t a e are =
    let s = own_shape p os t a in
    let are' : heap_tokens p (tree_heap os) tree_limit (Ref 0) ≡ Some tokens = subst (λ os. AreTokens p os tokens) e are in
    let q : Some s.0 ≡ Some tokens = sym s.2 ∙ are' in
    let h : s.0 ≡ tokens = cc in
    s.1 ∙ ap (λ ts. Some ts) h
