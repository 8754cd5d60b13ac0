-- A shape gives the tree, but for names.
use Rattle.std.proofs.Common.{◌≡◌, ℕ, zero, suc, ◌+◌, ◌≤◌, Bool, true, false, cond, List, [], ◌∷◌, ◌++◌, length, Option, Some, None, refl, sym, ap, subst, ◌∙◌, inl, inr, arith, append_assoc, append-nil, length-append, add-zero, ◌==◌, count_by}
use Rattle.std.specs.Prelude.{nat_le, if◌then◌else◌}
use Rattle.std.proofs.lemmas.Bool.Decides.{eqb_tells}
use Rattle.std.proofs.lemmas.Bool.{ne_eqb}
use Rattle.std.specs.FinMap.{get}
use Rattle.kilim_program.specs.declared.class.Program.{Program}
use Rattle.kilim_program.specs.declared.names.FieldId.{FieldId}
use Rattle.kilim_program.specs.declared.ty.Ty.{Ty}
use Rattle.kilim_run_state.specs.declared.value.Object.{Object}
use Rattle.kilim_run_state.specs.declared.value.Token.{Token}
use Rattle.kilim_run_state.specs.declared.value.Token.TheVariants as token
use Rattle.kilim_program.specs.declared.value.Value.{Value}
use Rattle.kilim_program.specs.declared.value.Value.TheVariants.{Int, Long, Null, Ref, Text, Box, Fiber}
use Rattle.kilim_run_state.specs.Machine.{Objects}
use Rattle.kilim_program.specs.Names.{◌>>=◌}
use Rattle.kilim_program.specs.Members.{shown_name}
use Rattle.kilim_run_state.specs.Shapes.{tree_limit, field_in, joined_tokens, fields_in_order, content_tokens, value_tokens, shape_of, shape_by, is_open}
use Rattle.kilim_run_state.specs.Trees.{Root, joined_names, names_where, content_names, names_in, value_names, tree_names, Read, with_keys, object_of, type_named, closed, behind, and_then, leaf, read_value, read_values, root_alone, built}
use Rattle.kilim_run_model.specs.kin.Kin.{Names, IsKin, AreKin, FieldsKin, ObjectsKin}
use Rattle.kilim_run_model.specs.Kept.{Finds, IsFormed}
use Rattle.kilim_run_model.specs.kin.trees.TreeKin.{Copies, IsTree, names_from, AllValues, AllFields, IsIntact, IsWholeTree}
use Rattle.kilim_run_model.specs.kin.trees.Laws.{ShapesGive}
use Rattle.std.proofs.lemmas.Option.{same_Some, none-some}
use Rattle.kilim_run_model.proofs.kin.Kins.{value_up, values_up, object_up}
use Rattle.kilim_run_model.proofs.kin.trees.Copied.{copies_length, first_name, names_bounds}

-- ---- options

bind_some : {A B : Type 0} (o : Option A) (f : A → Option B) (y : B) → (o >>= f) ≡ Some y → (x : A) × (o ≡ Some x) × (f x ≡ Some y)
bind_some None f y e = absurd (none-some y e)
bind_some (Some x) f y e = (x, refl, e)

-- ---- names of a tree and of its parts

names_left : (base : ℕ) (xs ys : List ℕ) (n x : ℕ) → names_from base xs n ≡ Some x → names_from base (xs ++ ys) n ≡ Some x
names_left base [] ys n x e = absurd (none-some x e)
names_left base (z ∷ xs) ys n x e = elim (eqb_tells n base) [
  | inl t ↦ ap (λ (b : Bool). cond b (Some z) (names_from (suc base) (xs ++ ys) n)) t.0 ∙ (sym (ap (λ (b : Bool). cond b (Some z) (names_from (suc base) xs n)) t.0) ∙ e)
  | inr t ↦ ap (λ (b : Bool). cond b (Some z) (names_from (suc base) (xs ++ ys) n)) t.0 ∙ names_left (suc base) xs ys n x (sym (ap (λ (b : Bool). cond b (Some z) (names_from (suc base) xs n)) t.0) ∙ e)
]

names_right : (base : ℕ) (xs ys : List ℕ) (n x : ℕ) → names_from (base + length xs) ys n ≡ Some x → names_from base (xs ++ ys) n ≡ Some x
names_right base [] ys n x e = subst (λ (z : ℕ). names_from z ys n ≡ Some x) (add-zero base) e
names_right base (z ∷ xs) ys n x e =
    let le = (names_bounds (base + suc (length xs)) ys n x e).0 in
    ap (λ (b : Bool). cond b (Some z) (names_from (suc base) (xs ++ ys) n)) (ne_eqb n base (λ d. omega (arith, le, d)))
    ∙ names_right (suc base) xs ys n x (subst (λ (i : ℕ). names_from i ys n ≡ Some x) (let i : base + suc (length xs) ≡ suc base + length xs = omega arith in i) e)

module _ (of more : Names) (up : (n x : ℕ) → of n ≡ Some x → more n ≡ Some x) where
  copies_up : (h : Objects) (os : List Object) (ns : List ℕ) → Copies of h os ns → Copies more h os ns
  copies_up h [] [] c = tt
  copies_up h (o ∷ os) (n ∷ ns) c = (c.0, c.1, object_up of more up o c.0 c.2, copies_up h os ns c.3)
  copies_up h _ _ c = absurd c

copies_append : (of : Names) (h : Objects) (os qs : List Object) (ns ms : List ℕ) → Copies of h os ns → Copies of h qs ms → Copies of h (os ++ qs) (ns ++ ms)
copies_append of h [] qs [] ms c d = d
copies_append of h (o ∷ os) qs (n ∷ ns) ms c d = (c.0, c.1, c.2, copies_append of h os qs ns ms c.3 d)
copies_append of h [] qs (n ∷ ns) ms c d = absurd c
copies_append of h (o ∷ os) qs [] ms c d = absurd c

-- ---- an object is what its values make of it

module _ (p : Program) where
  found_tokens : (tokens : Value → Option (List Token)) (fields : List (FieldId × Value)) (fs : List FieldId) (vs : List Value) → Finds fields fs vs → joined_tokens (λ f. field_in fields f >>= tokens) fs ≡ joined_tokens tokens vs
  found_tokens tokens fields [] [] e = refl
  found_tokens tokens fields (f ∷ fs) (v ∷ vs) e =
      ap (λ z. (z >>= tokens) >>= λ first. joined_tokens (λ f. field_in fields f >>= tokens) fs >>= λ others. Some (first ++ others)) e.0
      ∙ ap (λ z. tokens v >>= λ first. z >>= λ others. Some (first ++ others)) (found_tokens tokens fields fs vs e.1)
  found_tokens tokens fields _ _ e = absurd e

  found_names : (names : Value → List ℕ) (fields : List (FieldId × Value)) (fs : List FieldId) (vs : List Value) → Finds fields fs vs → joined_names (λ f. names_where names (field_in fields f)) fs ≡ joined_names names vs
  found_names names fields [] [] e = refl
  found_names names fields (f ∷ fs) (v ∷ vs) e =
      ap (λ z. names_where names z ++ joined_names (λ f. names_where names (field_in fields f)) fs) e.0 ∙ ap (λ z. names v ++ z) (found_names names fields fs vs e.1)
  found_names names fields _ _ e = absurd e

  found_all : (holds : Value → Type 0) (fields : List (FieldId × Value)) (fs : List FieldId) (vs : List Value) → Finds fields fs vs → AllFields holds (with_keys fs vs) → AllValues holds vs
  found_all holds fields [] [] e a = tt
  found_all holds fields (f ∷ fs) (v ∷ vs) e a = (a.0, found_all holds fields fs vs e.1 a.1)
  found_all holds fields _ _ e a = absurd e

  keys_kin : (of : Names) (fs : List FieldId) (vs ws : List Value) → AreKin of vs ws → FieldsKin of (with_keys fs vs) (with_keys fs ws)
  keys_kin of [] vs ws e = tt
  keys_kin of (f ∷ fs) [] [] e = tt
  keys_kin of (f ∷ fs) (v ∷ vs) (w ∷ ws) e = (refl, e.0, keys_kin of fs vs ws e.1)
  keys_kin of (f ∷ fs) [] (w ∷ ws) e = absurd e
  keys_kin of (f ∷ fs) (v ∷ vs) [] e = absurd e

  object_of_kin : (of : Names) (ty : Ty) (vs ws : List Value) → AreKin of vs ws → ObjectsKin of (object_of p ty vs) (object_of p ty ws)
  object_of_kin of ty vs ws e = elim (ty.dims == 0) as (λ (b : Bool). ObjectsKin of (cond b (record { class = ty; fields = with_keys (fields_in_order p ty.base) vs; elements = [] }) (record { class = ty; fields = []; elements = vs }))
      (cond b (record { class = ty; fields = with_keys (fields_in_order p ty.base) ws; elements = [] }) (record { class = ty; fields = []; elements = ws }))) [
        | true ↦ record { class = refl; fields = keys_kin of (fields_in_order p ty.base) vs ws e; elements = tt }
        | false ↦ record { class = refl; fields = tt; elements = e }
      ]

  module _ (o : Object) (formed : IsFormed p o) where
    abbrev vs : List Value
    vs = formed.values

    abbrev keys : List FieldId
    keys = fields_in_order p o.class.base

    made : (b : Bool) → (o.class.dims == 0) ≡ b → o ≡ cond b (record { class = o.class; fields = with_keys keys vs; elements = [] }) (record { class = o.class; fields = []; elements = vs })
    made b e = formed.is ∙ ap (λ (z : Bool). cond z (record { class = o.class; fields = with_keys keys vs; elements = [] }) (record { class = o.class; fields = []; elements = vs })) e

    content_is : (tokens : Value → Option (List Token)) → content_tokens p tokens o ≡ joined_tokens tokens vs
    content_is tokens = by (o.class.dims == 0) refl
      where
        by : (b : Bool) → (o.class.dims == 0) ≡ b → content_tokens p tokens o ≡ joined_tokens tokens vs
        by true e = ap (λ (z : Bool). cond z (joined_tokens (λ f. field_in o.fields f >>= tokens) keys) (joined_tokens tokens o.elements)) e ∙ found_tokens tokens o.fields keys vs (formed.finds e)
        by false e = ap (λ (z : Bool). cond z (joined_tokens (λ f. field_in o.fields f >>= tokens) keys) (joined_tokens tokens o.elements)) e ∙ ap (λ (z : Object). joined_tokens tokens z.elements) (made false e)

    names_are : (names : Value → List ℕ) → content_names p names o ≡ joined_names names vs
    names_are names = by (o.class.dims == 0) refl
      where
        by : (b : Bool) → (o.class.dims == 0) ≡ b → content_names p names o ≡ joined_names names vs
        by true e = ap (λ (z : Bool). cond z (joined_names (λ f. names_where names (field_in o.fields f)) keys) (joined_names names o.elements)) e ∙ found_names names o.fields keys vs (formed.finds e)
        by false e = ap (λ (z : Bool). cond z (joined_names (λ f. names_where names (field_in o.fields f)) keys) (joined_names names o.elements)) e ∙ ap (λ (z : Object). joined_names names z.elements) (made false e)

    all_hold : (holds : Value → Type 0) → AllFields holds o.fields → AllValues holds o.elements → AllValues holds vs
    all_hold holds f d = by (o.class.dims == 0) refl
      where
        by : (b : Bool) → (o.class.dims == 0) ≡ b → AllValues holds vs
        by true e = found_all holds o.fields keys vs (formed.finds e) (subst (λ (z : Object). AllFields holds z.fields) (made true e) f)
        by false e = subst (λ (z : Object). AllValues holds z.elements) (made false e) d

-- ---- what was written is read

-- tokens that begin a value
is_start : List Token → Bool
is_start [] = false
is_start (token.Close ∷ ts) = false
is_start (t ∷ ts) = true

start_append : (ts rest : List Token) → is_start ts ≡ true → is_start (ts ++ rest) ≡ true
unfolding is_start
start_append [] rest e = absurd (cc)
start_append (token.Close ∷ ts) rest e = absurd (cc)
start_append (t ∷ ts) rest e = refl

has_some : (ts : List Token) → is_start ts ≡ true → 1 ≤ length ts
unfolding is_start
has_some [] e = absurd (cc)
has_some (t ∷ ts) e = omega arith

reads_first : (p : Program) (n base : ℕ) (ts : List Token) → is_start ts ≡ true → read_values p (suc n) base ts ≡ and_then (read_value p n base ts) (λ first. read_values p n (base + length first.objects) first.rest)
unfolding is_start
reads_first p n base [] e = absurd (cc)
reads_first p n base (token.Close ∷ ts) e = absurd (cc)
reads_first p n base (t ∷ ts) e = refl

module _ (p : Program) (h : Objects) where
  -- a value is read back
  record IsBack (d base n : ℕ) (v : Value) (ts rest : List Token) : Type 0 where
    value : Value
    objects : List Object
    is : read_value p n base (ts ++ rest) ≡ Some (record { value = value; objects = objects; rest = rest })
    kin : IsKin (names_from base (value_names p h d v)) value v
    copies : Copies (names_from base (value_names p h d v)) h objects (value_names p h d v)

  record AreBack (d base n : ℕ) (vs : List Value) (ts rest : List Token) : Type 0 where
    values : List Value
    objects : List Object
    is : read_values p n base (ts ++ token.Close ∷ rest) ≡ Some (record { values = values; objects = objects; rest = rest })
    kin : AreKin (names_from base (joined_names (value_names p h d) vs)) values vs
    copies : Copies (names_from base (joined_names (value_names p h d) vs)) h objects (joined_names (value_names p h d) vs)

  abbrev Back : ℕ → Type 0
  Back d = (v : Value) (ts : List Token) → value_tokens p (λ m. get h m) d v ≡ Some ts → IsIntact p h d v → (is_start ts ≡ true) × ((base n : ℕ) (rest : List Token) → length ts ≤ n → IsBack d base n v ts rest)

  all_back : (d : ℕ) → Back d → (vs : List Value) (ts : List Token) → joined_tokens (value_tokens p (λ m. get h m) d) vs ≡ Some ts → AllValues (IsIntact p h d) vs → (base n : ℕ) (rest : List Token) → suc (length ts) ≤ n → AreBack d base n vs ts rest
  all_back d back [] ts e a base zero rest le = absurd (omega (arith, le))
  all_back d back [] ts e a base (suc n) rest le = record {
    values = [];
    objects = [];
    kin = tt;
    copies = tt;
    is = ap (λ (z : List Token). read_values p (suc n) base (z ++ token.Close ∷ rest)) (sym (same_Some _ _ e));
  }
  all_back d back (v ∷ vs) ts e a base zero rest le = absurd (omega (arith, le))
  all_back d back (v ∷ vs) ts e a base (suc n) rest le =
      let first = bind_some (value_tokens p (λ m. get h m) d v) (λ first. joined_tokens (value_tokens p (λ m. get h m) d) vs >>= λ others. Some (first ++ others)) ts e in
      let others = bind_some (joined_tokens (value_tokens p (λ m. get h m) d) vs) (λ others. Some (first.0 ++ others)) ts first.2 in
      let ts_is : first.0 ++ others.0 ≡ ts = same_Some _ _ others.2 in
      let sum : length first.0 + length others.0 ≡ length ts = sym (length-append first.0 others.0) ∙ ap length ts_is in
      let b = back v first.0 first.1 a.0 in
      let some_length : 1 ≤ length first.0 = has_some first.0 b.0 in
      let one = b.1 base n (others.0 ++ token.Close ∷ rest) (omega (arith, sum, le)) in
      let ns = value_names p h d v in
      let ms = joined_names (value_names p h d) vs in
      let here : length one.objects ≡ length ns = copies_length (names_from base ns) h one.objects ns one.copies in
      let more = all_back d back vs others.0 others.1 a.1 (base + length one.objects) n rest (omega (arith, sum, le, some_length)) in
      let right : (i x : ℕ) → names_from (base + length one.objects) ms i ≡ Some x → names_from base (ns ++ ms) i ≡ Some x = λ i x w. names_right base ns ms i x (subst (λ (z : ℕ). names_from (base + z) ms i ≡ Some x) here w) in
      let left : (i x : ℕ) → names_from base ns i ≡ Some x → names_from base (ns ++ ms) i ≡ Some x = names_left base ns ms in
      record {
        values = one.value ∷ more.values;
        objects = one.objects ++ more.objects;
        is =
            ap (λ (z : List Token). read_values p (suc n) base (z ++ token.Close ∷ rest)) (sym ts_is)
            ∙ (ap (read_values p (suc n) base) (append_assoc first.0 others.0 (token.Close ∷ rest))
            ∙ (reads_first p n base (first.0 ++ (others.0 ++ token.Close ∷ rest)) (start_append first.0 (others.0 ++ token.Close ∷ rest) b.0)
            ∙ (ap (λ (z : Option Read). and_then z (λ first. read_values p n (base + length first.objects) first.rest)) one.is
            ∙ ap (behind (record { value = one.value; objects = one.objects; rest = others.0 ++ token.Close ∷ rest })) more.is)));
        kin = (value_up (names_from base ns) (names_from base (ns ++ ms)) left one.value v one.kin, values_up (names_from (base + length one.objects) ms) (names_from base (ns ++ ms)) right more.values vs more.kin);
        copies = copies_append (names_from base (ns ++ ms)) h one.objects more.objects ns ms (copies_up (names_from base ns) (names_from base (ns ++ ms)) left h one.objects ns one.copies)
            (copies_up (names_from (base + length one.objects) ms) (names_from base (ns ++ ms)) right h more.objects ms more.copies);
      }

  leaf_back : (d base n : ℕ) (v w : Value) (t : Token) (ts rest : List Token) → value_names p h d v ≡ [] → IsKin (names_from base []) w v → t ∷ [] ≡ ts → ((m : ℕ) → read_value p (suc m) base (t ∷ rest) ≡ leaf w rest) → length ts ≤ n → IsBack d base n v ts rest
  leaf_back d base zero v w t ts rest names kin e reads le = let l : 1 ≡ length ts = ap length e in absurd (omega (arith, l, le))
  leaf_back d base (suc n) v w t ts rest names kin e reads le = record {
    value = w;
    objects = [];
    is = ap (λ (z : List Token). read_value p (suc n) base (z ++ rest)) (sym e) ∙ reads n;
    kin = subst (λ (z : List ℕ). IsKin (names_from base z) w v) (sym names) kin;
    copies = subst (λ (z : List ℕ). Copies (names_from base z) h [] z) (sym names) tt;
  }

  no_names : (d : ℕ) (v : Value) → ((n : ℕ) → v ≡ Ref n → ⊥) → value_names p h d v ≡ []
  no_names zero v e = refl
  no_names (suc d) (Int a) e = refl
  no_names (suc d) (Long a) e = refl
  no_names (suc d) Null e = refl
  no_names (suc d) (Ref n) e = absurd (e n refl)
  no_names (suc d) (Text a) e = refl
  no_names (suc d) (Box a) e = refl
  no_names (suc d) Fiber e = refl

  begins_with : (t : Token) (ts : List Token) → is_start (t ∷ []) ≡ true → t ∷ [] ≡ ts → is_start ts ≡ true
  begins_with t ts s e = ap is_start (sym e) ∙ s

  names_tail : (base n : ℕ) (ms : List ℕ) (i x : ℕ) → names_from (suc base) ms i ≡ Some x → names_from base (n ∷ ms) i ≡ Some x
  names_tail base n ms i x e =
      let le = (names_bounds (suc base) ms i x e).0 in
      ap (λ (b : Bool). cond b (Some n) (names_from (suc base) ms i)) (ne_eqb i base (λ d. omega (arith, le, d))) ∙ e

  object_read : (d n : ℕ) (o : Object) (formed : IsFormed p o) (cs : List Token) → get h n ≡ Some o → value_names p h (suc d) (Ref n) ≡ n ∷ joined_names (value_names p h d) formed.values →
      (base m : ℕ) (rest : List Token) → suc (length cs + 1) ≤ m → ((f : ℕ) → suc (length cs) ≤ f → AreBack d (suc base) f formed.values cs rest) → IsBack (suc d) base m (Ref n) (token.Open (shown_name p o.class) ∷ (cs ++ token.Close ∷ [])) rest
  object_read d n o formed cs there names base zero rest le k = absurd (omega (arith, le))
  object_read d n o formed cs there names base (suc f) rest le k =
      let r = k f (omega (arith, le)) in
      let ms = joined_names (value_names p h d) formed.values in
      let up = names_tail base n ms in
      let made : Object = object_of p o.class r.values in
      let kin : ObjectsKin (names_from base (n ∷ ms)) made o =
      subst (λ (z : Object). ObjectsKin (names_from base (n ∷ ms)) made z) (sym formed.is) (object_of_kin p (names_from base (n ∷ ms)) o.class r.values formed.values (values_up (names_from (suc base) ms) (names_from base (n ∷ ms)) up r.values formed.values r.kin)) in
      let all : Copies (names_from base (n ∷ ms)) h (made ∷ r.objects) (n ∷ ms) = (o, there, kin, copies_up (names_from (suc base) ms) (names_from base (n ∷ ms)) up h r.objects ms r.copies) in
      record {
        value = Ref base;
        objects = made ∷ r.objects;
        is =
            ap (λ (z : List Token). closed p base (type_named p (shown_name p o.class)) (read_values p f (suc base) z)) (append_assoc cs (token.Close ∷ []) rest)
            ∙ (ap (λ (z : Option Ty). closed p base z (read_values p f (suc base) (cs ++ token.Close ∷ rest))) formed.named
            ∙ ap (closed p base (Some o.class)) r.is);
        kin = subst (λ (z : List ℕ). names_from base z base ≡ Some n) (sym names) (first_name base n ms);
        copies = subst (λ (z : List ℕ). Copies (names_from base z) h (made ∷ r.objects) z) (sym names) all;
      }

  -- an object, of whose content this is known
  object_back : (d : ℕ) → Back d → (n : ℕ) (ts : List Token) → value_tokens p (λ m. get h m) (suc d) (Ref n) ≡ Some ts → IsIntact p h (suc d) (Ref n) → (is_start ts ≡ true) × ((base m : ℕ) (rest : List Token) → length ts ≤ m → IsBack (suc d) base m (Ref n) ts rest)
  unfolding is_start
  object_back d back n ts e intact =
      let o = intact.0 in
      let formed = intact.2 in
      let name = shown_name p o.class in
      let there = bind_some (get h n) (λ (object : Object). content_tokens p (value_tokens p (λ m. get h m) d) object >>= λ content. Some (token.Open (shown_name p object.class) ∷ (content ++ token.Close ∷ []))) ts e in
      let same : there.0 ≡ o = same_Some _ _ (sym there.1 ∙ intact.1) in
      let of_o : (content_tokens p (value_tokens p (λ m. get h m) d) o >>= λ content. Some (token.Open name ∷ (content ++ token.Close ∷ []))) ≡ Some ts =
      ap (λ (z : Object). content_tokens p (value_tokens p (λ m. get h m) d) z >>= λ content. Some (token.Open (shown_name p z.class) ∷ (content ++ token.Close ∷ []))) (sym same) ∙ there.2 in
      let content = bind_some (content_tokens p (value_tokens p (λ m. get h m) d) o) (λ content. Some (token.Open name ∷ (content ++ token.Close ∷ []))) ts of_o in
      let ts_is : token.Open name ∷ (content.0 ++ token.Close ∷ []) ≡ ts = same_Some _ _ content.2 in
      let values : joined_tokens (value_tokens p (λ m. get h m) d) formed.values ≡ Some content.0 = sym (content_is p o formed (value_tokens p (λ m. get h m) d)) ∙ content.1 in
      let all = all_hold p o formed (IsIntact p h d) intact.3 intact.4 in
      let ms = joined_names (value_names p h d) formed.values in
      let names : value_names p h (suc d) (Ref n) ≡ n ∷ ms = ap (λ (z : List ℕ). n ∷ z) (ap (names_in p (value_names p h d)) intact.1 ∙ names_are p o formed (value_names p h d)) in
      let size : suc (length content.0 + 1) ≡ length ts = ap suc (sym (length-append content.0 (token.Close ∷ []))) ∙ ap length ts_is in (
        ap is_start (sym ts_is),
        λ base m rest le. subst (λ (z : List Token). IsBack (suc d) base m (Ref n) z rest) ts_is
            (object_read d n o formed content.0 intact.1 names base m rest (omega (arith, size, le)) (λ f g. all_back d back formed.values content.0 values all (suc base) f rest g)),
      )

  back_leaf : (d : ℕ) (v : Value) (ts : List Token) → ((n : ℕ) → v ≡ Ref n → ⊥) → value_tokens p (λ m. get h m) d v ≡ Some ts → (is_start ts ≡ true) × ((base n : ℕ) (rest : List Token) → length ts ≤ n → IsBack d base n v ts rest)
  unfolding is_start
  back_leaf d (Int a) ts not e = (begins_with (token.Int a) ts refl (same_Some _ _ e), λ base n rest le. leaf_back d base n (Int a) (Int a) (token.Int a) ts rest (no_names d (Int a) not) refl (same_Some _ _ e) (λ m. refl) le)
  back_leaf d (Long a) ts not e = (begins_with (token.Long a) ts refl (same_Some _ _ e), λ base n rest le. leaf_back d base n (Long a) (Long a) (token.Long a) ts rest (no_names d (Long a) not) refl (same_Some _ _ e) (λ m. refl) le)
  back_leaf d Null ts not e = (begins_with token.Null ts refl (same_Some _ _ e), λ base n rest le. leaf_back d base n Null Null token.Null ts rest (no_names d Null not) tt (same_Some _ _ e) (λ m. refl) le)
  back_leaf d (Ref n) ts not e = absurd (not n refl)
  back_leaf d (Text a) ts not e = (begins_with (token.Text a) ts refl (same_Some _ _ e), λ base n rest le. leaf_back d base n (Text a) (Text a) (token.Text a) ts rest (no_names d (Text a) not) refl (same_Some _ _ e) (λ m. refl) le)
  back_leaf d (Box a) ts not e = (begins_with (token.Box a) ts refl (same_Some _ _ e), λ base n rest le. leaf_back d base n (Box a) (Box a) (token.Box a) ts rest (no_names d (Box a) not) refl (same_Some _ _ e) (λ m. refl) le)
  back_leaf d Fiber ts not e = absurd (none-some ts e)

  back : (d : ℕ) → Back d
  back d (Int a) ts e i = back_leaf d (Int a) ts (λ n z. absurd (cc)) e
  back d (Long a) ts e i = back_leaf d (Long a) ts (λ n z. absurd (cc)) e
  back d Null ts e i = back_leaf d Null ts (λ n z. absurd (cc)) e
  back d (Text a) ts e i = back_leaf d (Text a) ts (λ n z. absurd (cc)) e
  back d (Box a) ts e i = back_leaf d (Box a) ts (λ n z. absurd (cc)) e
  back d Fiber ts e i = absurd (none-some ts e)
  back zero (Ref n) ts e i = absurd (none-some ts e)
  back (suc d) (Ref n) ts e i = object_back d (back d) n ts e i

  pub gives_tree : (root : Root) (n : ℕ) (shape : List Token) → IsWholeTree p root h n → shape_of p h n ≡ Some shape → IsTree p root h (tree_names p h n) shape
  unfolding shape_by tree_names built
  gives_tree root n shape whole e =
      let tokens = bind_some (value_tokens p (λ m. get h m) tree_limit (Ref n)) (λ tokens. if nat_le (count_by is_open tokens) tree_limit then Some tokens else None) shape e in
      let same : tokens.0 ≡ shape = fits tokens.0 (nat_le (count_by is_open tokens.0) tree_limit) tokens.2 in
      let b = back tree_limit (Ref n) shape (tokens.1 ∙ ap Some same) whole.intact in
      record {
        once = whole.once;
        copy = λ base.
            let r = b.1 base (suc (length shape)) [] (omega arith) in
            (r.objects, ap (λ (z : Bool). cond z (root_alone (read_value p (suc (length shape)) base shape)) None) (whole.allowed shape e) ∙ ap root_alone (ap (read_value p (suc (length shape)) base) (sym (append-nil shape)) ∙ r.is), r.copies);
      }
    where
      fits : (ts : List Token) (b : Bool) → cond b (Some ts) None ≡ Some shape → ts ≡ shape
      fits ts true d = same_Some _ _ d
      fits ts false d = absurd (none-some shape d)

pub shapes_give : (p : Program) → ShapesGive p
shapes_give p root h n shape whole e = gives_tree p h root n shape whole e
