-- The tokens of one value are those of one tree in preorder, and no other tokens are.
use Rattle.std.proofs.Common.{◌≡◌, ℕ, zero, suc, true, List, [], ◌∷◌, ◌++◌, refl, ap, ◌∙◌, append_assoc}
use Rattle.kilim_run_state.specs.declared.value.Token.{Token}
use Rattle.kilim_run_state.specs.declared.value.Token.TheVariants.{Open, Close}
use Rattle.kilim_run_journal.specs.Readable.{ends_with_its_value, is_value, Values, Nothing, Plain, Object, preorder, IsPlain, ArePlain, IsSingle, IsOneValue, ShapesAreValues}
use Rattle.kilim_run_journal.proofs.Tokens.{nothing}

-- ---- from trees to tokens

plain_inside : (begun : ℕ) (t : Token) (ts : List Token) → IsPlain t → ends_with_its_value (suc begun) (t ∷ ts) ≡ ends_with_its_value (suc begun) ts
plain_inside begun (Open name) ts h = absurd h
plain_inside begun Close ts h = absurd h
plain_inside begun t ts h = refl

plain_alone : (t : Token) → IsPlain t → is_value (t ∷ []) ≡ true
plain_alone (Open name) h = absurd h
plain_alone Close h = absurd h
plain_alone t h = refl

object_tokens : (name : List ℕ) (fields after : Values) (ts : List Token) → preorder (Object name fields after) ++ ts ≡ Open name ∷ (preorder fields ++ Close ∷ (preorder after ++ ts))
object_tokens name fields after ts = simp append_assoc

-- values inside an object end none of those that have begun
values_inside : (values : Values) (begun : ℕ) (ts : List Token) → ArePlain values → ends_with_its_value (suc begun) (preorder values ++ ts) ≡ ends_with_its_value (suc begun) ts
values_inside Nothing begun ts h = refl
values_inside (Plain t after) begun ts h = plain_inside begun t (preorder after ++ ts) h.0 ∙ values_inside after begun ts h.1
values_inside (Object name fields after) begun ts h = ap (ends_with_its_value (suc begun)) (object_tokens name fields after ts) ∙ (values_inside fields (suc begun) (Close ∷ (preorder after ++ ts)) h.0 ∙ values_inside after begun ts h.1)

single_is_value : (value : Values) → ArePlain value → IsSingle value → is_value (preorder value) ≡ true
single_is_value Nothing h single = absurd single
single_is_value (Plain t Nothing) h single = plain_alone t h.0
single_is_value (Plain t after) h single = absurd single
single_is_value (Object name fields Nothing) h single = values_inside fields zero (Close ∷ []) h.0
single_is_value (Object name fields after) h single = absurd single

-- ---- from tokens to trees

-- tokens that end so many objects, each behind values of its own, and go on no further
abbrev Completes : ℕ → List Token → Type 0
Completes zero ts = ts ≡ []
Completes (suc begun) ts = (values : Values) × (rest : List Token) × (ts ≡ preorder values ++ Close ∷ rest) × ArePlain values × Completes begun rest

with_plain : (begun : ℕ) (t : Token) (ts : List Token) → IsPlain t → Completes (suc begun) ts → Completes (suc begun) (t ∷ ts)
with_plain begun t ts h c = (Plain t c.0, c.1, ap (λ (us : List Token). t ∷ us) c.2, (h, c.3), c.4)

with_object : (begun : ℕ) (name : List ℕ) (ts : List Token) → Completes (suc (suc begun)) ts → Completes (suc begun) (Open name ∷ ts)
with_object begun name ts c =
    let after = c.4 in
    let inner : ts ≡ preorder c.0 ++ Close ∷ c.1 = c.2 in
    let outer : c.1 ≡ preorder after.0 ++ Close ∷ after.1 = after.2 in
    (Object name c.0 after.0, after.1, rw (inner, outer) (simp append_assoc), (c.3, after.3), after.4)

-- the tokens that end behind objects that have begun are values, and the ends of those objects
completes : (begun : ℕ) (ts : List Token) → ends_with_its_value (suc begun) ts ≡ true → Completes (suc begun) ts
completes begun [] h = absurd cc
completes begun (Open name ∷ ts) h = with_object begun name ts (completes (suc begun) ts h)
completes zero (Close ∷ ts) h = (Nothing, ts, refl, tt, nothing ts h)
completes (suc begun) (Close ∷ ts) h = (Nothing, ts, refl, tt, completes begun ts h)
completes begun (t ∷ ts) h = with_plain begun t ts tt (completes begun ts h)

one_object : (name : List ℕ) (ts : List Token) → Completes 1 ts → IsOneValue (Open name ∷ ts)
one_object name ts c =
    let inner : ts ≡ preorder c.0 ++ Close ∷ c.1 = c.2 in
    let last : c.1 ≡ [] = c.4 in
    record { value = Object name c.0 Nothing; plain = (c.3, tt); single = tt; tokens = rw (inner, last) refl }

one_plain : (t : Token) (ts : List Token) → IsPlain t → ts ≡ [] → IsOneValue (t ∷ ts)
one_plain t ts h last = record { value = Plain t Nothing; plain = (h, tt); single = tt; tokens = rw last refl }

one_value : (shape : List Token) → is_value shape ≡ true → IsOneValue shape
one_value [] h = absurd cc
one_value (Open name ∷ ts) h = one_object name ts (completes zero ts h)
one_value (Close ∷ ts) h = absurd cc
one_value (t ∷ ts) h = one_plain t ts tt (nothing ts h)

-- the test of a shape tells whether it is one value in preorder
pub shapes_are_values : ShapesAreValues
shapes_are_values shape = (one_value shape, λ (one : IsOneValue shape). rw (← one.tokens) (single_is_value one.value one.plain one.single))
