-- The names of a tree's objects, as the definitions of a run have them, are the places of its objects in preorder.
use Rattle.std.proofs.Common.{◌≡◌, ℕ, zero, suc, ◌+◌, ◌≤◌, Bool, true, false, List, [], ◌∷◌, ◌++◌, Option, Some, length, map, refl, sym, ap, subst, ◌∙◌, arith, append_assoc, length-append}
use Rattle.std.specs.Prelude.{◌==◌, if◌then◌else◌}
use Rattle.std.specs.List.{AllByRecursion}
use Rattle.std.specs.FinMap.{get}
use Rattle.std.proofs.lemmas.List.{append-nil}
use Rattle.kilim_program.specs.Program.{Program}
use Rattle.kilim_program.specs.declared.names.FieldId.{FieldId}
use Rattle.kilim_program.specs.declared.value.Value.{Value}
use Rattle.kilim_program.specs.declared.value.Value.TheVariants.{Int, Long, Null, Ref, Text, Box, Fiber}
use Rattle.kilim_run_state.specs.declared.value.Object.{Object}
use Rattle.kilim_run_state.specs.Machine.{Objects}
use Rattle.kilim_run_state.specs.Shapes.{tree_limit, field_in, fields_in_order}
use Rattle.kilim_run_state.specs.Trees.{joined_names, names_where, content_names, names_in, value_names, tree_names}
use Rattle.kilim_run_trees.specs.Walk.{value_refs, element_refs, refs, Leads, IsTree, places}
use Rattle.kilim_run_trees.specs.Shaping.{held, Suits}
use Rattle.kilim_run_trees.proofs.Tokens.{EachSuits, held_refs}

abbrev ref_names : Program → Objects → ℕ → ℕ → List ℕ
ref_names p heap d n = value_names p heap d (Ref n)

names_map : (names : Value → List ℕ) (f : FieldId → Option Value) (xs : List FieldId) → joined_names (λ x. names_where names (f x)) xs ≡ joined_names (names_where names) (map f xs)
names_map names f [] = refl
names_map names f (x ∷ xs) = ap (λ ns. names_where names (f x) ++ ns) (names_map names f xs)

elements_map : (names : Value → List ℕ) (vs : List Value) → joined_names names vs ≡ joined_names (names_where names) (map (λ (v : Value). Some v) vs)
elements_map names [] = refl
elements_map names (v ∷ vs) = ap (λ ns. names v ++ ns) (elements_map names vs)

chosen : (b : Bool) (names : Value → List ℕ) (x y : List ℕ) (xs ys : List (Option Value)) → x ≡ joined_names (names_where names) xs → y ≡ joined_names (names_where names) ys → (if b then x else y) ≡ joined_names (names_where names) (if b then xs else ys)
chosen true names x y xs ys e f = e
chosen false names x y xs ys e f = f

content_held : (p : Program) (names : Value → List ℕ) (o : Object) → Suits p o → content_names p names o ≡ joined_names names (held o)
content_held p names o s =
    chosen (o.class.dims == 0) names (joined_names (λ f. names_where names (field_in o.fields f)) (fields_in_order p o.class.base)) (joined_names names o.elements) (map (field_in o.fields) (fields_in_order p o.class.base)) (map (λ (v : Value). Some v) o.elements) (names_map names (field_in o.fields) (fields_in_order p o.class.base)) (elements_map names o.elements)
    ∙ (ap (joined_names (names_where names)) s.in_order ∙ sym (elements_map names (held o)))

plain_names : (p : Program) (heap : Objects) (d : ℕ) (v : Value) → value_refs v ≡ [] → value_names p heap d v ≡ []
plain_names p heap zero v e = refl
plain_names p heap (suc d) (Ref n) e = absurd cc
plain_names p heap (suc d) v e = refl

one_plain : (p : Program) (heap : Objects) (d : ℕ) (v : Value) (vs : List Value) (ns : List ℕ) → value_refs v ≡ [] → joined_names (value_names p heap d) vs ≡ ns → joined_names (value_names p heap d) (v ∷ vs) ≡ ns
one_plain p heap d v vs ns none e = ap (λ own. own ++ joined_names (value_names p heap d) vs) (plain_names p heap d v none) ∙ e

held_names : (p : Program) (heap : Objects) (d : ℕ) (vs : List Value) → joined_names (value_names p heap d) vs ≡ joined_names (ref_names p heap d) (element_refs vs)
held_names p heap d [] = refl
held_names p heap d (Ref n ∷ vs) = ap (λ ns. value_names p heap d (Ref n) ++ ns) (held_names p heap d vs)
held_names p heap d (Int n ∷ vs) = one_plain p heap d (Int n) vs _ refl (held_names p heap d vs)
held_names p heap d (Long n ∷ vs) = one_plain p heap d (Long n) vs _ refl (held_names p heap d vs)
held_names p heap d (Null ∷ vs) = one_plain p heap d Null vs _ refl (held_names p heap d vs)
held_names p heap d (Text units ∷ vs) = one_plain p heap d (Text units) vs _ refl (held_names p heap d vs)
held_names p heap d (Box box ∷ vs) = one_plain p heap d (Box box) vs _ refl (held_names p heap d vs)
held_names p heap d (Fiber ∷ vs) = one_plain p heap d Fiber vs _ refl (held_names p heap d vs)

-- a walk from some places and others is a walk from the ones and then one from the others
record Split (xs ys : List ℕ) (es : List (ℕ × Object)) : Type 0 where
  front : List (ℕ × Object)
  back : List (ℕ × Object)
  both : es ≡ front ++ back
  first : Leads xs front []
  second : Leads ys back []

split_more : (x : ℕ) (xs ys : List ℕ) (e : ℕ × Object) (es : List (ℕ × Object)) → x ≡ e.0 → Split (refs e.1 ++ xs) ys es → Split (x ∷ xs) ys (e ∷ es)
split_more x xs ys e es is s = record { front = e ∷ s.front; back = s.back; both = ap (λ es. e ∷ es) s.both; first = (is, s.first); second = s.second }

split : (xs ys : List ℕ) (es : List (ℕ × Object)) → Leads (xs ++ ys) es [] → Split xs ys es
split [] ys es h = record { front = []; back = es; both = refl; first = refl; second = h }
split (x ∷ xs) ys [] h = absurd cc
split (x ∷ xs) ys (e ∷ es) h = split_more x xs ys e es h.0 (split (refs e.1 ++ xs) ys es (subst (λ from. Leads from es []) (sym (append_assoc (refs e.1) xs ys)) h.1))

all_front : (P : ℕ × Object → Type 0) (es fs : List (ℕ × Object)) → AllByRecursion P (es ++ fs) → AllByRecursion P es
all_front P [] fs a = tt
all_front P (e ∷ es) fs a = (a.0, all_front P es fs a.1)

all_back : (P : ℕ × Object → Type 0) (es fs : List (ℕ × Object)) → AllByRecursion P (es ++ fs) → AllByRecursion P fs
all_back P [] fs a = a
all_back P (e ∷ es) fs a = all_back P es fs a.1

places_append : (es fs : List (ℕ × Object)) → places (es ++ fs) ≡ places es ++ places fs
places_append [] fs = refl
places_append (e ∷ es) fs = ap (λ ns. e.0 ∷ ns) (places_append es fs)

abbrev IsThere : Objects → ℕ × Object → Type 0
IsThere heap e = get heap e.0 ≡ Some e.1

abbrev HasFields : Program → ℕ × Object → Type 0
HasFields p e = Suits p e.1

walked : (k : ℕ) (p : Program) (heap : Objects) (es : List (ℕ × Object)) (from : List ℕ) (d : ℕ) → length es ≤ k → Leads from es [] → AllByRecursion (IsThere heap) es → AllByRecursion (HasFields p) es → length es ≤ d → joined_names (ref_names p heap d) from ≡ places es
walked k p heap [] from d le h a s ld = ap (joined_names (ref_names p heap d)) h
walked k p heap (e ∷ es) [] d le h a s ld = absurd h
walked zero p heap (e ∷ es) (n ∷ ns) d le h a s ld = absurd (omega arith)
walked (suc k) p heap (e ∷ es) (n ∷ ns) zero le h a s ld = absurd (omega arith)
walked (suc k) p heap (e ∷ es) (n ∷ ns) (suc d) le h a s ld =
    let sp = split (refs e.1) ns es h.1 in
    let longs : length es ≡ length sp.front + length sp.back = ap length sp.both ∙ length-append sp.front sp.back in
    let are : AllByRecursion (IsThere heap) (sp.front ++ sp.back) = subst (AllByRecursion (IsThere heap)) sp.both a.1 in
    let suit : AllByRecursion (HasFields p) (sp.front ++ sp.back) = subst (AllByRecursion (HasFields p)) sp.both s.1 in
    let inner : joined_names (ref_names p heap d) (refs e.1) ≡ places sp.front = walked k p heap sp.front (refs e.1) d (omega arith) sp.first (all_front (IsThere heap) sp.front sp.back are) (all_front (HasFields p) sp.front sp.back suit) (omega arith) in
    let outer : joined_names (ref_names p heap (suc d)) ns ≡ places sp.back = walked k p heap sp.back ns (suc d) (omega arith) sp.second (all_back (IsThere heap) sp.front sp.back are) (all_back (HasFields p) sp.front sp.back suit) (omega arith) in
    let there : get heap n ≡ Some e.1 = ap (λ m. get heap m) h.0 ∙ a.0 in
    let content : content_names p (value_names p heap d) e.1 ≡ places sp.front = content_held p (value_names p heap d) e.1 s.0 ∙ (held_names p heap d (held e.1) ∙ (ap (joined_names (ref_names p heap d)) (held_refs e.1) ∙ inner)) in
    ap (λ o. (n ∷ names_in p (value_names p heap d) o) ++ joined_names (ref_names p heap (suc d)) ns) there
    ∙ (ap (λ c. (n ∷ c) ++ joined_names (ref_names p heap (suc d)) ns) content
    ∙ (ap (λ b. (n ∷ places sp.front) ++ b) outer
    ∙ (ap (λ m. m ∷ (places sp.front ++ places sp.back)) h.0
    ∙ ap (λ ns. e.0 ∷ ns) (sym (ap places sp.both ∙ places_append sp.front sp.back)))))

pub names_are_places : (p : Program) (heap : Objects) (root : ℕ) (entries : List (ℕ × Object)) → IsTree heap root entries → EachSuits p entries → length entries ≤ tree_limit → tree_names p heap root ≡ places entries
unfolding tree_names
names_are_places p heap root entries t s le =
    let all : joined_names (ref_names p heap tree_limit) (root ∷ []) ≡ places entries = walked (length entries) p heap entries (root ∷ []) tree_limit (omega arith) t.leads t.are_in s le in
    sym (append-nil (value_names p heap tree_limit (Ref root))) ∙ all
