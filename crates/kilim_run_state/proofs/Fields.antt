-- Fields by their names.
use Rattle.std.proofs.Common.{◌≡◌, ℕ, zero, suc, ◌+◌, ◌<◌, ◌==◌, Bool, true, false, List, [], ◌∷◌, ◌++◌, Option, Some, None, length, get_or, set, drop, take, refl, sym, ap, subst, ◌∙◌, arith, rules, drop-cons, add-one, true≢false}
use Rattle.std.specs.Prelude.{IsSome, slice_get, if◌then◌else◌}
use Rattle.std.specs.FinMap.{get, insert}
use Rattle.kilim_program.specs.declared.names.FieldId.{FieldId}
use Rattle.kilim_run_state.specs.declared.value.Object.{Object}
use Rattle.kilim_program.specs.declared.value.Value.{Value}
use Rattle.kilim_run_state.specs.Machine.{Objects}
use Rattle.kilim_program.specs.Names.{◌>>=◌}
use Rattle.kilim_run_state.specs.Shapes.{field_in}
use Rattle.kilim_run_state.specs.Places.{IsPlaceOf, IsArena, objects_from}
use Rattle.kilim_run_state.specs.Words.{with_field_in, changed, changed_one, changed_to, element_at, field_at}
use Rattle.kilim_run_state.proofs.Arena.{at_place, still_arena, now_replaced, found_in}

Fields : Type 0
Fields = List (FieldId × Value)

-- none of the first so many has that name
pub record NotBefore (fields : List (FieldId × Value)) (f : FieldId) (v : Value) (i : ℕ) : Type 0 where
  pub found : field_in fields f ≡ field_in (drop i fields) f
  pub put : with_field_in fields f v ≡ take i fields ++ with_field_in (drop i fields) f v

pub not_before_none : (fields : List (FieldId × Value)) (f : FieldId) (v : Value) → NotBefore fields f v 0
not_before_none fields f v = record { found = refl; put = refl }

passed : (e : FieldId × Value) (es : List (FieldId × Value)) (f : FieldId) (v : Value) (b : Bool) → (e.0.0 == f.0) ≡ b → b ≡ false → (field_in (e ∷ es) f ≡ field_in es f) × (with_field_in (e ∷ es) f v ≡ e ∷ with_field_in es f v)
passed e es f v b is no_name = (ap (λ b. if b then Some e.1 else field_in es f) (is ∙ no_name), ap (λ b. if b then (e.0, v) ∷ es else e ∷ with_field_in es f v) (is ∙ no_name))

met : (e : FieldId × Value) (es : List (FieldId × Value)) (f : FieldId) (v : Value) → (e.0.0 == f.0) ≡ true → (field_in (e ∷ es) f ≡ Some e.1) × (with_field_in (e ∷ es) f v ≡ (e.0, v) ∷ es)
met e es f v is = (ap (λ b. if b then Some e.1 else field_in es f) is, ap (λ b. if b then (e.0, v) ∷ es else e ∷ with_field_in es f v) is)

differs : (a b : ℕ) → (a ≡ b → ⊥) → (a == b) ≡ false
differs a b ne = search rules

same : (a b : ℕ) → a ≡ b → (a == b) ≡ true
same a b e = search rules

take_one : (xs : List (FieldId × Value)) (i : ℕ) (d : FieldId × Value) (ys : List (FieldId × Value)) → i < length xs → take i xs ++ get_or xs i d ∷ ys ≡ take (suc i) xs ++ ys
take_one [] i d ys lt = absurd (omega arith)
take_one (x ∷ xs) zero d ys lt = refl
take_one (x ∷ xs) (suc i) d ys lt = let lt' : i < length xs = omega arith in ap (λ zs. x ∷ zs) (take_one xs i d ys lt')

put_one : (xs : List (FieldId × Value)) (i : ℕ) (y : FieldId × Value) → i < length xs → take i xs ++ y ∷ drop (suc i) xs ≡ set xs i y
put_one [] i y lt = absurd (omega arith)
put_one (x ∷ xs) zero y lt = refl
put_one (x ∷ xs) (suc i) y lt = let lt' : i < length xs = omega arith in ap (λ zs. x ∷ zs) (put_one xs i y lt')

pub not_before_more : (fields : List (FieldId × Value)) (f : FieldId) (v : Value) (i : ℕ) (d : FieldId × Value) → NotBefore fields f v i → i < length fields → ((get_or fields i d).0.0 ≡ f.0 → ⊥) → NotBefore fields f v (i + 1)
not_before_more fields f v i d n lt ne =
    let here = drop-cons fields i d lt in
    let p = passed (get_or fields i d) (drop (suc i) fields) f v false (differs (get_or fields i d).0.0 f.0 ne) refl in
    let found : field_in fields f ≡ field_in (drop (suc i) fields) f = n.found ∙ (ap (λ es. field_in es f) here ∙ p.0) in
    let put : with_field_in fields f v ≡ take (suc i) fields ++ with_field_in (drop (suc i) fields) f v = n.put ∙ (ap (λ es. take i fields ++ with_field_in es f v) here ∙ (ap (λ es. take i fields ++ es) p.1 ∙ take_one fields i d (with_field_in (drop (suc i) fields) f v) lt)) in
    subst (NotBefore fields f v) (sym (add-one i)) (record { found = found; put = put })

pub found_here : (fields : List (FieldId × Value)) (f : FieldId) (v : Value) (i : ℕ) (d : FieldId × Value) → NotBefore fields f v i → i < length fields → (get_or fields i d).0.0 ≡ f.0 → (field_in fields f ≡ Some (get_or fields i d).1) × (with_field_in fields f v ≡ set fields i ((get_or fields i d).0, v))
found_here fields f v i d n lt e =
    let here = drop-cons fields i d lt in
    let m = met (get_or fields i d) (drop (suc i) fields) f v (same (get_or fields i d).0.0 f.0 e) in
    (n.found ∙ (ap (λ es. field_in es f) here ∙ m.0), n.put ∙ (ap (λ es. take i fields ++ with_field_in es f v) here ∙ (ap (λ es. take i fields ++ es) m.1 ∙ put_one fields i ((get_or fields i d).0, v) lt)))

one_item : (xs : List (FieldId × Value)) (i : ℕ) (d e : FieldId × Value) → i < length xs → get_or xs i d ≡ get_or xs i e
one_item [] i d e lt = absurd (omega arith)
one_item (x ∷ xs) zero d e lt = refl
one_item (x ∷ xs) (suc i) d e lt = let lt' : i < length xs = omega arith in one_item xs i d e lt'

pub place_found : (fields : List (FieldId × Value)) (f : FieldId) (i : ℕ) (d : FieldId × Value) → ((v : Value) → NotBefore fields f v i) → i < length fields → (get_or fields i d).0.0 ≡ f.0 → IsPlaceOf fields f i
place_found fields f i d n lt e = record {
  within = lt;
  found = λ d'. (found_here fields f d.1 i d (n d.1) lt e).0 ∙ ap (λ (x : FieldId × Value). Some x.1) (one_item fields i d d' lt);
  put = λ v d'. (found_here fields f v i d (n v) lt e).1 ∙ ap (λ (x : FieldId × Value). set fields i (x.0, v)) (one_item fields i d d' lt);
}

drop_over : (xs : List (FieldId × Value)) (i : ℕ) → i ≡ length xs → (drop i xs ≡ []) × (take i xs ≡ xs)
drop_over [] zero e = (refl, refl)
drop_over [] (suc i) e = absurd (omega arith)
drop_over (x ∷ xs) zero e = absurd (omega arith)
drop_over (x ∷ xs) (suc i) e = let e' : i ≡ length xs = omega arith in let r = drop_over xs i e' in (r.0, ap (λ zs. x ∷ zs) r.1)

nothing_after : (xs : List (FieldId × Value)) → xs ++ [] ≡ xs
nothing_after [] = refl
nothing_after (x ∷ xs) = ap (λ ys. x ∷ ys) (nothing_after xs)

pub found_nowhere : (fields : List (FieldId × Value)) (f : FieldId) (v : Value) (i : ℕ) → NotBefore fields f v i → i ≡ length fields → (field_in fields f ≡ None) × (fields ≡ with_field_in fields f v)
found_nowhere fields f v i n e =
    let r = drop_over fields i e in
    (n.found ∙ ap (λ es. field_in es f) r.0, sym (n.put ∙ ((λ j. r.1 j ++ with_field_in (r.0 j) f v) ∙ nothing_after fields)))

-- ---- an object that is changed in its place

pub changed_arena : (ps ps' : List (Option Object)) (fs : List ℕ) (q : ℕ) (g : Object → Object) (v : Option Object) (room : ℕ) → IsArena ps fs room → get_or ps q None ≡ v → IsSome v → ps' ≡ set ps q (changed_one g v) → IsArena ps' fs room
changed_arena ps ps' fs q g None room a e some p = absurd (true≢false (sym some))
changed_arena ps ps' fs q g (Some o) room a e some p = still_arena ps ps' fs q o (g o) room a e p

pub now_changed : (h : Objects) (ps ps' : List (Option Object)) (q : ℕ) (g : Object → Object) (v : Option Object) → objects_from 0 ps ≡ h → get_or ps q None ≡ v → IsSome v → ps' ≡ set ps q (changed_one g v) → objects_from 0 ps' ≡ changed h q g
now_changed h ps ps' q g None e there some p = absurd (true≢false (sym some))
now_changed h ps ps' q g (Some o) e there some p = now_replaced h ps ps' q o (g o) e there p ∙ ap (λ x. changed_to h q x g) (sym (found_in ps h q (Some o) e there))

same_place : (ps : List (Option Object)) (h : Objects) (q : ℕ) → objects_from 0 ps ≡ h → get h q ≡ get_or ps q None
same_place ps h q e = ap (λ (x : Objects). get x q) (sym e) ∙ at_place ps q

pub field_in_place : (ps : List (Option Object)) (h : Objects) (q : ℕ) (f : FieldId) → objects_from 0 ps ≡ h → IsSome (field_at h q f) → IsSome (get_or ps q None >>= λ (o : Object). field_in o.fields f)
field_in_place ps h q f e there = subst (λ (x : Option Object). IsSome (x >>= λ (o : Object). field_in o.fields f)) (same_place ps h q e) there

pub element_in_place : (ps : List (Option Object)) (h : Objects) (q n : ℕ) → objects_from 0 ps ≡ h → IsSome (element_at h q n) → IsSome (get_or ps q None >>= λ (o : Object). slice_get o.elements n)
element_in_place ps h q n e there = subst (λ (x : Option Object). IsSome (x >>= λ (o : Object). slice_get o.elements n)) (same_place ps h q e) there

pub some_within : (xs : List Value) (n : ℕ) → IsSome (slice_get xs n) → n < length xs
some_within [] n h = cc
some_within (x ∷ xs) zero h = omega arith
some_within (x ∷ xs) (suc n) h = let h' = some_within xs n h in omega arith

pub element_within : (h : Objects) (q n : ℕ) (o : Object) → get h q ≡ Some o → IsSome (element_at h q n) → n < length o.elements
element_within h q n o e there = some_within o.elements n (subst (λ (x : Option Object). IsSome (x >>= λ (o : Object). slice_get o.elements n)) e there)
