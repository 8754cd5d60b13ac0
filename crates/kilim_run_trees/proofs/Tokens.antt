-- Trees and their tokens.
use Rattle.std.proofs.Common.{◌≡◌, ℕ, zero, suc, ◌+◌, ◌<◌, ◌≤◌, ◌==◌, Bool, true, false, cond, List, [], ◌∷◌, ◌++◌, Option, Some, None, length, refl, sym, ap, subst, ◌∙◌, arith, rules, length-append, append_assoc, map}
use Rattle.std.specs.Prelude.{count_by, nat_le, if◌then◌else◌}
use Rattle.std.specs.List.{AllByRecursion}
use Rattle.std.proofs.lemmas.List.Sums.{sum_by-cons}
use Rattle.std.specs.FinMap.{get}
use Rattle.kilim_program.specs.declared.class.Program.{Program}
use Rattle.kilim_program.specs.declared.names.FieldId.{FieldId}
use Rattle.kilim_run_state.specs.declared.value.Object.{Object}
use Rattle.kilim_run_state.specs.declared.value.Token.{Token}
use Rattle.kilim_run_state.specs.declared.value.Token.TheVariants as token
use Rattle.kilim_program.specs.declared.value.Value.{Value}
use Rattle.kilim_program.specs.declared.value.Value.TheVariants.{Int, Long, Null, Ref, Text, Box, Fiber}
use Rattle.kilim_run_state.specs.Machine.{Objects}
use Rattle.kilim_program.specs.Names.{◌>>=◌}
use Rattle.kilim_program.specs.Members.{shown_name}
use Rattle.kilim_run_state.specs.Shapes.{shape_of, shape_by, tree_limit, content_tokens, joined_tokens, field_in, fields_in_order, is_open}
use Rattle.kilim_run_trees.specs.Moved.{heap_tokens}
use Rattle.kilim_run_trees.specs.Walk.{value_refs, field_refs, element_refs, refs, Leads, AreIn, IsTree}
use Rattle.kilim_run_trees.specs.Shaping.{held, field_values, IsShown, Suits, AllSuit, SizesAgree}
use Rattle.kilim_run_trees.proofs.Numbering.{append_nothing}
use Rattle.kilim_run_trees.proofs.Walks.{leads_join}

pub bind_some : {A B : Type 0} (m : Option A) (k : A → Option B) (r : B) → (m >>= k) ≡ Some r → (a : A) × (m ≡ Some a) × (k a ≡ Some r)
bind_some None k r e = absurd (cc)
bind_some (Some a) k r e = (a, refl, e)

pub joined_grows : {A : Type 0} (t u : A → Option (List Token)) → ((x : A) (ts : List Token) → t x ≡ Some ts → u x ≡ Some ts) → (xs : List A) (ts : List Token) → joined_tokens t xs ≡ Some ts → joined_tokens u xs ≡ Some ts
joined_grows t u grows [] ts e = e
joined_grows t u grows (x ∷ xs) ts e =
    let a = bind_some (t x) (λ first. joined_tokens t xs >>= λ others. Some (first ++ others)) ts e in
    let b = bind_some (joined_tokens t xs) (λ others. Some (a.0 ++ others)) ts a.2 in
    ap (λ m. m >>= λ first. joined_tokens u xs >>= λ others. Some (first ++ others)) (grows x a.0 a.1) ∙ (ap (λ m. m >>= λ others. Some (a.0 ++ others)) (joined_grows t u grows xs b.0 b.1) ∙ b.2)

choice : (b : Bool) (x y x' y' : Option (List Token)) (c : List Token) → (x ≡ Some c → x' ≡ Some c) → (y ≡ Some c → y' ≡ Some c) → (if b then x else y) ≡ Some c → (if b then x' else y') ≡ Some c
choice true x y x' y' c f g e = f e
choice false x y x' y' c f g e = g e

content_grows : (p : Program) (t u : Value → Option (List Token)) → ((v : Value) (ts : List Token) → t v ≡ Some ts → u v ≡ Some ts) → (o : Object) (c : List Token) → content_tokens p t o ≡ Some c → content_tokens p u o ≡ Some c
content_grows p t u grows o c e =
    choice (o.class.dims == 0) (joined_tokens (λ f. field_in o.fields f >>= t) (fields_in_order p o.class.base)) (joined_tokens t o.elements) (joined_tokens (λ f. field_in o.fields f >>= u) (fields_in_order p o.class.base)) (joined_tokens u o.elements) c
    (joined_grows (λ f. field_in o.fields f >>= t) (λ f. field_in o.fields f >>= u) (λ f ts h. let a = bind_some (field_in o.fields f) t ts h in ap (λ m. m >>= u) a.1 ∙ grows a.0 ts a.2) (fields_in_order p o.class.base) c)
    (joined_grows t u grows o.elements c) e

abbrev pub opened : Program → (Value → Option (List Token)) → Option Object → Option (List Token)
opened p t x = x >>= λ (object : Object). (content_tokens p t object >>= λ content. Some (token.Open (shown_name p object.class) ∷ (content ++ token.Close ∷ [])))

-- deeper is no less
pub deeper : (p : Program) (heap : Objects) (d : ℕ) (v : Value) (ts : List Token) → heap_tokens p heap d v ≡ Some ts → heap_tokens p heap (suc d) v ≡ Some ts
deeper p heap d (Int n) ts e = e
deeper p heap d (Long n) ts e = e
deeper p heap d Null ts e = e
deeper p heap d (Text units) ts e = e
deeper p heap d (Box box) ts e = e
deeper p heap d Fiber ts e = e
deeper p heap zero (Ref n) ts e = absurd (cc)
deeper p heap (suc d) (Ref n) ts e =
    let a = bind_some (get heap n) (λ (object : Object). content_tokens p (heap_tokens p heap d) object >>= λ content. Some (token.Open (shown_name p object.class) ∷ (content ++ token.Close ∷ []))) ts e in
    let b = bind_some (content_tokens p (heap_tokens p heap d) a.0) (λ content. Some (token.Open (shown_name p a.0.class) ∷ (content ++ token.Close ∷ []))) ts a.2 in
    ap (opened p (heap_tokens p heap (suc d))) a.1 ∙ (ap (λ m. m >>= λ content. Some (token.Open (shown_name p a.0.class) ∷ (content ++ token.Close ∷ []))) (content_grows p (heap_tokens p heap d) (heap_tokens p heap (suc d)) (λ v ts h. deeper p heap d v ts h) a.0 b.0 b.1) ∙ b.2)

-- ---- an object's values

joined_map : {A : Type 0} (f : A → Option Value) (t : Value → Option (List Token)) (xs : List A) → joined_tokens (λ x. f x >>= t) xs ≡ joined_tokens (λ x. x >>= t) (map f xs)
joined_map f t [] = refl
joined_map f t (x ∷ xs) = ap (λ m. (f x >>= t) >>= λ first. m >>= λ others. Some (first ++ others)) (joined_map f t xs)

chosen : (b : Bool) (t : Value → Option (List Token)) (x y : Option (List Token)) (xs ys : List (Option Value)) → x ≡ joined_tokens (λ x. x >>= t) xs → y ≡ joined_tokens (λ x. x >>= t) ys → (if b then x else y) ≡ joined_tokens (λ x. x >>= t) (if b then xs else ys)
chosen true t x y xs ys e f = e
chosen false t x y xs ys e f = f

pub content_held : (p : Program) (t : Value → Option (List Token)) (o : Object) → Suits p o → content_tokens p t o ≡ joined_tokens t (held o)
content_held p t o s =
    chosen (o.class.dims == 0) t (joined_tokens (λ f. field_in o.fields f >>= t) (fields_in_order p o.class.base)) (joined_tokens t o.elements) (map (field_in o.fields) (fields_in_order p o.class.base)) (map (λ (v : Value). Some v) o.elements)
    (joined_map (field_in o.fields) t (fields_in_order p o.class.base)) (joined_map (λ (v : Value). Some v) t o.elements)
    ∙ (ap (joined_tokens (λ x. x >>= t)) s.in_order ∙ sym (joined_map (λ (v : Value). Some v) t (held o)))

-- ---- how many objects

abbrev pub opens : List Token → ℕ
opens [] = 0
opens (t ∷ ts) = cond (is_open t) 1 0 + opens ts

pub opens_counted : (ts : List Token) → count_by is_open ts ≡ opens ts
opens_counted [] = refl
opens_counted (t ∷ ts) = sum_by-cons (λ x. cond (is_open x) 1 0) t ts ∙ ap (λ n. cond (is_open t) 1 0 + n) (opens_counted ts)

pub opens_join : (xs ys : List Token) → opens (xs ++ ys) ≡ opens xs + opens ys
opens_join [] ys = omega arith
opens_join (t ∷ xs) ys = omega (arith, opens_join xs ys)

-- of the references alone, and of all values
abbrev pub ref_tokens : Program → Objects → ℕ → ℕ → Option (List Token)
ref_tokens p heap d n = heap_tokens p heap d (Ref n)

pub joined_split : {A : Type 0} (t : A → Option (List Token)) (xs ys : List A) (ts : List Token) → joined_tokens t (xs ++ ys) ≡ Some ts → (a : List Token) × (b : List Token) × (joined_tokens t xs ≡ Some a) × (joined_tokens t ys ≡ Some b) × (ts ≡ a ++ b)
joined_split t [] ys ts e = ([], ts, refl, e, refl)
joined_split t (x ∷ xs) ys ts e =
    let a = bind_some (t x) (λ first. joined_tokens t (xs ++ ys) >>= λ others. Some (first ++ others)) ts e in
    let b = bind_some (joined_tokens t (xs ++ ys)) (λ others. Some (a.0 ++ others)) ts a.2 in
    let r = joined_split t xs ys b.0 b.1 in
    let whole : a.0 ++ b.0 ≡ ts = let h : Some (a.0 ++ b.0) ≡ Some ts = b.2 in cc in
    (a.0 ++ r.0, r.1, ap (λ m. m >>= λ first. joined_tokens t xs >>= λ others. Some (first ++ others)) a.1 ∙ ap (λ m. m >>= λ others. Some (a.0 ++ others)) r.2, r.3, sym whole ∙ (ap (λ xs. a.0 ++ xs) r.4 ∙ sym (append_assoc a.0 r.0 r.1)))

pub joined_both : {A : Type 0} (t : A → Option (List Token)) (x : A) (xs : List A) (a b : List Token) → t x ≡ Some a → joined_tokens t xs ≡ Some b → joined_tokens t (x ∷ xs) ≡ Some (a ++ b)
joined_both t x xs a b e f = ap (λ m. m >>= λ first. joined_tokens t xs >>= λ others. Some (first ++ others)) e ∙ ap (λ m. m >>= λ others. Some (a ++ others)) f

plain_value : (t : Value → Option (List Token)) (r : ℕ → Option (List Token)) (v : Value) (vs : List Value) (one : List Token) (a : List Token) → t v ≡ Some one → opens one ≡ 0 → ((c : List Token) × (joined_tokens t vs ≡ Some c) × (opens c ≡ opens a)) → (c : List Token) × (joined_tokens t (v ∷ vs) ≡ Some c) × (opens c ≡ opens a)
plain_value t r v vs one a e z h = (one ++ h.0, joined_both t v vs one h.0 e h.1, omega (arith, opens_join one h.0, z, h.2))

pub held_tokens : (p : Program) (heap : Objects) (d : ℕ) (vs : List Value) (a : List Token) → AllByRecursion IsShown vs → joined_tokens (ref_tokens p heap d) (element_refs vs) ≡ Some a → (c : List Token) × (joined_tokens (heap_tokens p heap d) vs ≡ Some c) × (opens c ≡ opens a)
held_tokens p heap d [] a s e = (a, e, refl)
held_tokens p heap d (Int n ∷ vs) a s e = plain_value (heap_tokens p heap d) (ref_tokens p heap d) (Int n) vs (token.Int n ∷ []) a refl refl (held_tokens p heap d vs a s.1 e)
held_tokens p heap d (Long n ∷ vs) a s e = plain_value (heap_tokens p heap d) (ref_tokens p heap d) (Long n) vs (token.Long n ∷ []) a refl refl (held_tokens p heap d vs a s.1 e)
held_tokens p heap d (Null ∷ vs) a s e = plain_value (heap_tokens p heap d) (ref_tokens p heap d) Null vs (token.Null ∷ []) a refl refl (held_tokens p heap d vs a s.1 e)
held_tokens p heap d (Text units ∷ vs) a s e = plain_value (heap_tokens p heap d) (ref_tokens p heap d) (Text units) vs (token.Text units ∷ []) a refl refl (held_tokens p heap d vs a s.1 e)
held_tokens p heap d (Box box ∷ vs) a s e = plain_value (heap_tokens p heap d) (ref_tokens p heap d) (Box box) vs (token.Box box ∷ []) a refl refl (held_tokens p heap d vs a s.1 e)
held_tokens p heap d (Fiber ∷ vs) a s e = absurd s.0
held_tokens p heap d (Ref n ∷ vs) a s e =
    let x = bind_some (ref_tokens p heap d n) (λ first. joined_tokens (ref_tokens p heap d) (element_refs vs) >>= λ others. Some (first ++ others)) a e in
    let y = bind_some (joined_tokens (ref_tokens p heap d) (element_refs vs)) (λ others. Some (x.0 ++ others)) a x.2 in
    let h = held_tokens p heap d vs y.0 s.1 y.1 in
    let whole : x.0 ++ y.0 ≡ a = let q : Some (x.0 ++ y.0) ≡ Some a = y.2 in cc in
    (x.0 ++ h.0, joined_both (heap_tokens p heap d) (Ref n) vs x.0 h.0 x.1 h.1, omega (arith, opens_join x.0 h.0, opens_join x.0 y.0, h.2, ap opens whole))

held_refs_from : (es : List (FieldId × Value)) (vs : List Value) → element_refs (field_values es ++ vs) ≡ field_refs es ++ element_refs vs
held_refs_from [] vs = refl
held_refs_from (e ∷ es) vs = ap (λ ns. value_refs e.1 ++ ns) (held_refs_from es vs) ∙ sym (append_assoc (value_refs e.1) (field_refs es) (element_refs vs))

pub held_refs : (o : Object) → element_refs (held o) ≡ refs o
held_refs o = held_refs_from o.fields o.elements

-- ---- a tree has tokens, one opening for each object

abbrev pub EachSuits : Program → List (ℕ × Object) → Type 0
EachSuits p es = AllByRecursion (λ e. Suits p e.1) es

pub record HasTokens (p : Program) (heap : Objects) (d : ℕ) (from : List ℕ) (n : ℕ) : Type 0 where
  pub tokens : List Token
  pub joined : joined_tokens (ref_tokens p heap d) from ≡ Some tokens
  pub counted : opens tokens ≡ n

pub have_tokens : (p : Program) (heap : Objects) (es : List (ℕ × Object)) (from : List ℕ) (d : ℕ) → Leads from es [] → AreIn heap es → EachSuits p es → length es ≤ d → HasTokens p heap d from (length es)
have_tokens p heap [] from d h a s le = record { tokens = []; joined = ap (joined_tokens (ref_tokens p heap d)) h; counted = refl }
have_tokens p heap (e ∷ es) [] d h a s le = absurd h
have_tokens p heap (e ∷ es) (n ∷ ns) zero h a s le = absurd (omega arith)
have_tokens p heap (e ∷ es) (n ∷ ns) (suc d) h a s le =
    let le' : length es ≤ d = omega arith in
    let ih = have_tokens p heap es (refs e.1 ++ ns) d h.1 a.1 s.1 le' in
    let parts = joined_split (ref_tokens p heap d) (refs e.1) ns ih.tokens ih.joined in
    let c = held_tokens p heap d (held e.1) parts.0 s.0.shown (ap (joined_tokens (ref_tokens p heap d)) (held_refs e.1) ∙ parts.2) in
    let content : content_tokens p (heap_tokens p heap d) e.1 ≡ Some c.0 = content_held p (heap_tokens p heap d) e.1 s.0 ∙ c.1 in
    let there : get heap n ≡ Some e.1 = subst (λ m. get heap m ≡ Some e.1) (sym h.0) a.0 in
    let own : List Token = token.Open (shown_name p e.1.class) ∷ (c.0 ++ token.Close ∷ []) in
    let here : ref_tokens p heap (suc d) n ≡ Some own = ap (opened p (heap_tokens p heap d)) there ∙ ap (λ m. m >>= λ content. Some (token.Open (shown_name p e.1.class) ∷ (content ++ token.Close ∷ []))) content in
    let others : joined_tokens (ref_tokens p heap (suc d)) ns ≡ Some parts.1 = joined_grows (ref_tokens p heap d) (ref_tokens p heap (suc d)) (λ m ts q. deeper p heap d (Ref m) ts q) ns parts.1 parts.3 in
    record {
      tokens = own ++ parts.1;
      joined = joined_both (ref_tokens p heap (suc d)) n ns own parts.1 here others;
      counted = omega (arith, opens_join own parts.1, opens_join c.0 (token.Close ∷ []), c.2, ih.counted, ap opens parts.4, opens_join parts.0 parts.1);
    }

-- ---- tokens come from a tree

pub leads_beside : (from : List ℕ) (es : List (ℕ × Object)) (to ys : List ℕ) → Leads from es to → Leads (from ++ ys) es (to ++ ys)
leads_beside from [] to ys h = ap (λ ns. ns ++ ys) h
leads_beside [] (e ∷ es) to ys h = absurd h
leads_beside (n ∷ ns) (e ∷ es) to ys h = (h.0, subst (λ from. Leads from es (to ++ ys)) (append_assoc (refs e.1) ns ys) (leads_beside (refs e.1 ++ ns) es to ys h.1))

in_both : (heap : Objects) (es fs : List (ℕ × Object)) → AreIn heap es → AreIn heap fs → AreIn heap (es ++ fs)
in_both heap [] fs a b = b
in_both heap (e ∷ es) fs a b = (a.0, in_both heap es fs a.1 b)

pub record FromTree (heap : Objects) (from : List ℕ) (n : ℕ) : Type 0 where
  pub entries : List (ℕ × Object)
  pub leads : Leads from entries []
  pub are_in : AreIn heap entries
  pub counted : length entries ≡ n

-- beside each other
beside : (heap : Objects) (xs ys : List ℕ) (m n : ℕ) → FromTree heap xs m → FromTree heap ys n → FromTree heap (xs ++ ys) (m + n)
beside heap xs ys m n a b = record {
  entries = a.entries ++ b.entries;
  leads = leads_join (xs ++ ys) a.entries b.entries ys [] (leads_beside xs a.entries [] ys a.leads) b.leads;
  are_in = in_both heap a.entries b.entries a.are_in b.are_in;
  counted = omega (arith, length-append a.entries b.entries, a.counted, b.counted);
}

as_counted : (heap : Objects) (xs : List ℕ) (m n : ℕ) → m ≡ n → FromTree heap xs m → FromTree heap xs n
as_counted heap xs m n e t = subst (FromTree heap xs) e t

from_values : (heap : Objects) (t : Value → Option (List Token)) → ((v : Value) (ts : List Token) → t v ≡ Some ts → FromTree heap (value_refs v) (opens ts)) → (vs : List Value) (c : List Token) → joined_tokens t vs ≡ Some c → FromTree heap (element_refs vs) (opens c)
from_values heap t each [] c e = let none : List Token = [] in let q : none ≡ c = let r : Some none ≡ Some c = e in cc in record { entries = []; leads = refl; are_in = tt; counted = ap opens q }
from_values heap t each (v ∷ vs) c e =
    let a = bind_some (t v) (λ first. joined_tokens t vs >>= λ others. Some (first ++ others)) c e in
    let b = bind_some (joined_tokens t vs) (λ others. Some (a.0 ++ others)) c a.2 in
    let whole : a.0 ++ b.0 ≡ c = let q : Some (a.0 ++ b.0) ≡ Some c = b.2 in cc in
    as_counted heap (value_refs v ++ element_refs vs) (opens a.0 + opens b.0) (opens c) (sym (opens_join a.0 b.0) ∙ ap opens whole)
    (beside heap (value_refs v) (element_refs vs) (opens a.0) (opens b.0) (each v a.0 a.1) (from_values heap t each vs b.0 b.1))

no_objects : (heap : Objects) (one ts : List Token) → opens one ≡ 0 → Some one ≡ Some ts → FromTree heap [] (opens ts)
no_objects heap one ts z e = let q : one ≡ ts = cc in record { entries = []; leads = refl; are_in = tt; counted = sym z ∙ ap opens q }

pub from_tokens : (p : Program) (heap : Objects) → AllSuit p heap → (d : ℕ) (v : Value) (ts : List Token) → heap_tokens p heap d v ≡ Some ts → FromTree heap (value_refs v) (opens ts)
from_tokens p heap suit d (Int n) ts e = no_objects heap (token.Int n ∷ []) ts refl e
from_tokens p heap suit d (Long n) ts e = no_objects heap (token.Long n ∷ []) ts refl e
from_tokens p heap suit d Null ts e = no_objects heap (token.Null ∷ []) ts refl e
from_tokens p heap suit d (Text units) ts e = no_objects heap (token.Text units ∷ []) ts refl e
from_tokens p heap suit d (Box box) ts e = no_objects heap (token.Box box ∷ []) ts refl e
from_tokens p heap suit d Fiber ts e = absurd (cc)
from_tokens p heap suit zero (Ref n) ts e = absurd (cc)
from_tokens p heap suit (suc d) (Ref n) ts e =
    let a = bind_some (get heap n) (λ (object : Object). content_tokens p (heap_tokens p heap d) object >>= λ content. Some (token.Open (shown_name p object.class) ∷ (content ++ token.Close ∷ []))) ts e in
    let b = bind_some (content_tokens p (heap_tokens p heap d) a.0) (λ content. Some (token.Open (shown_name p a.0.class) ∷ (content ++ token.Close ∷ []))) ts a.2 in
    let inner = from_values heap (heap_tokens p heap d) (λ v ts h. from_tokens p heap suit d v ts h) (held a.0) b.0 (sym (content_held p (heap_tokens p heap d) a.0 (suit n a.0 a.1)) ∙ b.1) in
    let whole : token.Open (shown_name p a.0.class) ∷ (b.0 ++ token.Close ∷ []) ≡ ts = let q : Some (token.Open (shown_name p a.0.class) ∷ (b.0 ++ token.Close ∷ [])) ≡ Some ts = b.2 in cc in
    record {
      entries = (n, a.0) ∷ inner.entries;
      leads = (refl, subst (λ from. Leads from inner.entries []) (held_refs a.0 ∙ sym (append_nothing (refs a.0))) inner.leads);
      are_in = (a.1, inner.are_in);
      counted = omega (arith, inner.counted, ap opens whole, opens_join b.0 (token.Close ∷ []));
    }

-- ---- both together

pub each_suits : (p : Program) (heap : Objects) → AllSuit p heap → (es : List (ℕ × Object)) → AreIn heap es → EachSuits p es
each_suits p heap suit [] a = tt
each_suits p heap suit (e ∷ es) a = (suit e.0 e.1 a.0, each_suits p heap suit es a.1)

le_true : (m n : ℕ) → m ≤ n → nat_le m n ≡ true
le_true m n h = search rules

le_from : (m n : ℕ) → nat_le m n ≡ true → m ≤ n
le_from m n h = search rules

bounded : (b : Bool) (x ts : List Token) → (if b then Some x else None) ≡ Some ts → (b ≡ true) × (x ≡ ts)
bounded true x ts e = (refl, cc)
bounded false x ts e = absurd (cc)

-- a tree of at most so many objects has a shape
pub has_shape : (p : Program) (heap : Objects) (root : ℕ) (es : List (ℕ × Object)) → EachSuits p es → IsTree heap root es → length es ≤ tree_limit → (ts : List Token) × (shape_of p heap root ≡ Some ts) × (heap_tokens p heap tree_limit (Ref root) ≡ Some ts)
unfolding shape_by
has_shape p heap root es s t small =
    let h = have_tokens p heap es (root ∷ []) tree_limit t.leads t.are_in s small in
    let a = bind_some (ref_tokens p heap tree_limit root) (λ first. Some [] >>= λ others. Some (first ++ others)) h.tokens h.joined in
    let whole : a.0 ++ [] ≡ h.tokens = let q : Some (a.0 ++ []) ≡ Some h.tokens = a.2 in cc in
    let count : count_by is_open a.0 ≤ tree_limit = omega (arith, opens_counted a.0, h.counted, small, ap opens (sym (append_nothing a.0) ∙ whole)) in
    (a.0, ap (λ m. m >>= λ tokens. if nat_le (count_by is_open tokens) tree_limit then Some tokens else None) a.1 ∙ ap (λ b. if b then Some a.0 else None) (le_true (count_by is_open a.0) tree_limit count), a.1)

pub tree_of_shape : (p : Program) (heap : Objects) (root : ℕ) (ts : List Token) → AllSuit p heap → shape_of p heap root ≡ Some ts → (es : List (ℕ × Object)) × IsTree heap root es × (length es ≤ tree_limit)
unfolding shape_by
tree_of_shape p heap root ts suit e =
    let a = bind_some (heap_tokens p heap tree_limit (Ref root)) (λ tokens. if nat_le (count_by is_open tokens) tree_limit then Some tokens else None) ts e in
    let b = bounded (nat_le (count_by is_open a.0) tree_limit) a.0 ts a.2 in
    let t = from_tokens p heap suit tree_limit (Ref root) a.0 a.1 in
    (t.entries, record { leads = t.leads; are_in = t.are_in }, omega (arith, t.counted, opens_counted a.0, le_from (count_by is_open a.0) tree_limit b.0))

none_or_some : (x : Option (List Token)) → ((ts : List Token) → x ≡ Some ts → ⊥) → x ≡ None
none_or_some None f = refl
none_or_some (Some ts) f = absurd (f ts refl)

more_or_not : (m n : ℕ) → ((m ≤ n) → ⊥) → n < m
more_or_not m n f = omega arith

pub sizes_agree : SizesAgree
sizes_agree p heap root suit = (
  λ large. none_or_some (shape_of p heap root) (λ ts e. let t = tree_of_shape p heap root ts suit e in let h = large t.0 t.1 in absurd (omega (arith, h, t.2))),
  λ none entries tree. more_or_not (length entries) tree_limit (λ small. let h = has_shape p heap root entries (each_suits p heap suit entries tree.are_in) tree small in let bad : None ≡ Some h.0 = sym none ∙ h.1 in cc),
)
