-- What is at and below an object are the names of its tree.
use Rattle.std.proofs.Common.{◌≡◌, ◌⊎◌, inl, inr, ℕ, zero, suc, ◌+◌, ◌*◌, Bool, true, false, cond, eqb, List, [], ◌∷◌, ◌++◌, Option, Some, None, refl, sym, ap, subst, ◌∙◌, arith}
use Rattle.std.specs.Prelude.{slice_get}
use Rattle.std.specs.FinMap.{get}
use Rattle.std.proofs.lemmas.Bool.{eqb-true, ne_eqb}
use Rattle.kilim_program.specs.declared.names.ClassId.{ClassId}
use Rattle.kilim_program.specs.declared.names.FieldId.{FieldId}
use Rattle.kilim_program.specs.declared.ty.Base.{Base}
use Rattle.kilim_program.specs.declared.ty.Base.TheVariants as base
use Rattle.kilim_program.specs.declared.value.Value.{Value}
use Rattle.kilim_program.specs.declared.value.Value.TheVariants.{Int, Long, Null, Ref, Text, Box, Fiber}
use Rattle.kilim_program.specs.Keeps.{Keeps}
use Rattle.kilim_program.specs.Names.{◌>>=◌}
use Rattle.kilim_program.specs.Program.{Program}
use Rattle.kilim_run_state.specs.declared.value.Object.{Object}
use Rattle.kilim_run_state.specs.declared.value.Token.{Token}
use Rattle.kilim_run_state.specs.declared.value.Token.TheVariants as token
use Rattle.kilim_run_state.specs.Machine.{Objects}
use Rattle.kilim_program.specs.Members.{object_fields, shown_name}
use Rattle.kilim_run_state.specs.Shapes.{content_tokens, field_in, fields_in_order, joined_tokens, value_tokens}
use Rattle.kilim_run_state.specs.Trees.{content_names, joined_names, names_in, names_where, value_names}
use Rattle.kilim_run_model.specs.Kept.{IsIn, IsOnce}
use Rattle.kilim_isolation_laws.specs.forest.Heap.{Below, Heap, Here, IsForest, Then}
use Rattle.kilim_isolation_laws.proofs.forest.Paths.{joined, never_round, one_step, under_below}
use Rattle.kilim_type_sound.specs.Fits.{Classes, ContentFits, FieldsFit, HeapFits}
use Rattle.kilim_type_laws.proofs.members.ClassMethods.{IsAmong}
use Rattle.kilim_isolation_laws.specs.graph_rows.Holds.{Anything, Own, Sort, Tree, Wide, Word, field_id, half, held_at, held_by, is_tree_object, is_tree_sort, object_sort, refers_in, tree_held, trees}
use Rattle.kilim_isolation_laws.proofs.graph_rows.Heaps.{half_even, half_odd}
use Rattle.kilim_isolation_laws.proofs.tree_types.Apart.{AreApart, fields_apart}
use Rattle.kilim_isolation_laws.proofs.names.Joined.{child_in, child_tokens, in_child, look, once_held}

no_object : (x : ℕ) → Some x ≡ None → ⊥
no_object x e = cc

some_same : {A : Type 0} (x y : A) → Some x ≡ Some y → x ≡ y
some_same x y e = cc

-- ---- references

refers_ref : (o : Option Value) (x : ℕ) → refers_in o ≡ Some x → o ≡ Some (Ref x)
refers_ref None x e = absurd (cc)
refers_ref (Some (Ref n)) x e = ap (λ (k : ℕ). Some (Ref k)) (some_same n x e)
refers_ref (Some (Int n)) x e = absurd (cc)
refers_ref (Some (Long n)) x e = absurd (cc)
refers_ref (Some Null) x e = absurd (cc)
refers_ref (Some (Text u)) x e = absurd (cc)
refers_ref (Some (Box b)) x e = absurd (cc)
refers_ref (Some Fiber) x e = absurd (cc)

-- ---- fields

-- a field that is found is one of the class's
found_key : (p : Program) (of : Classes) (fs : List FieldId) (es : List (FieldId × Value)) → FieldsFit p of fs es → (f : FieldId) (v : Value) → field_in es f ≡ Some v → (k : ℕ) × (slice_get fs k ≡ Some f)
found_key p of [] [] fit f v e = absurd (cc)
found_key p of [] (x ∷ es) fit f v e = absurd fit
found_key p of (g ∷ fs) [] fit f v e = absurd fit
found_key p of (g ∷ fs) (x ∷ es) fit f v e = by (eqb x.0.0 f.0) refl e (λ later. found_key p of fs es fit.2 f v later)
  where
    by : (z : Bool) → eqb x.0.0 f.0 ≡ z → cond z (Some x.1) (field_in es f) ≡ Some v → (field_in es f ≡ Some v → (k : ℕ) × (slice_get fs k ≡ Some f)) → (k : ℕ) × (slice_get (g ∷ fs) k ≡ Some f)
    by true t e again = (0, ap (λ (h : FieldId). Some h) (sym fit.0) ∙ ap (λ (n : ℕ). Some (field_id n)) (eqb-true x.0.0 f.0 t))
    by false t e again = let r = again e in (suc r.0, r.1)

among_at : (fs : List FieldId) (k : ℕ) (f : FieldId) → slice_get fs k ≡ Some f → IsAmong f fs
among_at [] k f e = absurd (cc)
among_at (g ∷ fs) zero f e = inl (sym (some_same g f e))
among_at (g ∷ fs) (suc k) f e = inr (among_at fs k f e)

-- nothing stands at two places
apart_places : (fs : List FieldId) → AreApart fs → (j k : ℕ) (f : FieldId) → slice_get fs j ≡ Some f → slice_get fs k ≡ Some f → j ≡ k
apart_places [] a j k f s t = absurd (cc)
apart_places (g ∷ fs) a zero zero f s t = refl
apart_places (g ∷ fs) a zero (suc k) f s t = absurd (a.0 (subst (λ (x : FieldId). IsAmong x fs) (sym (some_same g f s)) (among_at fs k f t)))
apart_places (g ∷ fs) a (suc j) zero f s t = absurd (a.0 (subst (λ (x : FieldId). IsAmong x fs) (sym (some_same g f t)) (among_at fs j f s)))
apart_places (g ∷ fs) a (suc j) (suc k) f s t = ap suc (apart_places fs a.1 j k f s t)

picked_false : {A : Type 0} (z : Bool) (x y : A) → z ≡ false → cond z x y ≡ y
picked_false true x y e = absurd (cc)
picked_false false x y e = refl

module _ (p : Program) (keeps : Keeps p) (of : Classes) (h : Objects) (heap : HeapFits p of h) (forest : IsForest (trees p h)) where
  abbrev t : Heap
  t = trees p h

  abbrev names : ℕ → Value → List ℕ
  names d v = value_names p h d v

  abbrev tokens : ℕ → Value → Option (List Token)
  tokens d v = value_tokens p (look p h) d v

  -- ---- an object of a tree

  -- what is known of its content, where its names go so deep
  record Content (n d : ℕ) (o : Object) : Type 0 where
    down : (q : ℕ) → IsIn q (content_names p (names d) o) → (i : ℕ) × (y : ℕ) × (t.to n i ≡ Some y) × IsIn q (names d (Ref y))
    up : (q i y : ℕ) → t.to n i ≡ Some y → IsIn q (names d (Ref y)) → IsIn q (content_names p (names d) o)
    read : (i y : ℕ) (ts : List Token) → t.to n i ≡ Some y → content_tokens p (tokens d) o ≡ Some ts → (us : List Token) × (tokens d (Ref y) ≡ Some us)
    once : ((y q : ℕ) → t.has y ≡ true → IsIn q (names d (Ref y)) → Below t y q) → ((i y : ℕ) → t.to n i ≡ Some y → IsOnce (names d (Ref y))) → IsOnce (content_names p (names d) o)

  tree_is : (o : Object) (s : Sort) (i : ℕ) → is_tree_sort s ≡ true → tree_held o s i ≡ held_by o (half i)
  tree_is o s i e = by s e
    where
      by : (s : Sort) → is_tree_sort s ≡ true → tree_held o s i ≡ held_by o (half i)
      by (Tree dims stuff) e = refl
      by Anything e = absurd (cc)
      by Wide e = absurd (cc)
      by Word e = absurd (cc)
      by Own e = absurd (cc)

  module _ (n d : ℕ) (o : Object) (held : (i : ℕ) → t.to n i ≡ held_by o (half i)) where
    fields_content : (c : ClassId) → o.elements ≡ [] → FieldsFit p of (object_fields p c) o.fields → content_names p (names d) o ≡ joined_names (λ f. names_where (names d) (field_in o.fields f)) (object_fields p c) →
        content_tokens p (tokens d) o ≡ joined_tokens (λ f. field_in o.fields f >>= tokens d) (object_fields p c) → Content n d o
    fields_content c none fit as_names as_tokens = record {
      down = λ q i. let r = in_child p h t n d val place fs edge back apart q (subst (λ (ns : List ℕ). IsIn q ns) as_names i) in (r.slot, r.child, r.holds, r.is);
      up = λ q i y e is. subst (λ (ns : List ℕ). IsIn q ns) (sym as_names) (child_in p h t n d val place fs edge back apart q i y e is);
      read = λ i y ts e is. child_tokens p h t n d val place fs edge back apart i y ts e (sym as_tokens ∙ is);
      once = λ below each. subst (λ (ns : List ℕ). IsOnce ns) (sym as_names) (once_held p h t n d val place fs edge back apart forest below each);
    }
      where
        fs : List FieldId
        fs = object_fields p c

        val : FieldId → Option Value
        val f = field_in o.fields f

        place : ℕ → FieldId → ℕ
        place k f = 2 * f.0

        edge : (k : ℕ) (f : FieldId) (y : ℕ) → slice_get fs k ≡ Some f → val f ≡ Some (Ref y) → t.to n (place k f) ≡ Some y
        edge k f y at e = held (2 * f.0) ∙ (ap (held_by o) (half_even f.0) ∙ ap refers_in e)

        back_by : (b : Bool × ℕ) (x : ℕ) → held_by o b ≡ Some x → (k : ℕ) × (f : FieldId) × (slice_get fs k ≡ Some f) × (val f ≡ Some (Ref x))
        back_by (false, j) x e = let v = refers_ref (field_in o.fields (field_id j)) x e in let k = found_key p of fs o.fields fit (field_id j) (Ref x) v in (k.0, field_id j, k.1, v)
        back_by (true, j) x e = absurd (let none2 = ap (λ (vs : List Value). refers_in (slice_get vs j)) none in no_object x (sym e ∙ none2))

        back : (i x : ℕ) → t.to n i ≡ Some x → (k : ℕ) × (f : FieldId) × (slice_get fs k ≡ Some f) × (val f ≡ Some (Ref x))
        back i x e = back_by (half i) x (sym (held i) ∙ e)

        apart : (j k : ℕ) (a b : FieldId) → slice_get fs j ≡ Some a → slice_get fs k ≡ Some b → place j a ≡ place k b → j ≡ k
        apart j k a b s u e =
            let same : a.0 ≡ b.0 = omega (arith, e) in
            apart_places fs (fields_apart p keeps c) j k a s (u ∙ ap (λ (m : ℕ). Some (field_id m)) (sym same))

    elements_content : o.fields ≡ [] → content_names p (names d) o ≡ joined_names (names d) o.elements → content_tokens p (tokens d) o ≡ joined_tokens (tokens d) o.elements → Content n d o
    elements_content none as_names as_tokens = record {
      down = λ q i. let r = in_child p h t n d val place vs edge back apart q (subst (λ (ns : List ℕ). IsIn q ns) as_names i) in (r.slot, r.child, r.holds, r.is);
      up = λ q i y e is. subst (λ (ns : List ℕ). IsIn q ns) (sym as_names) (child_in p h t n d val place vs edge back apart q i y e is);
      read = λ i y ts e is. child_tokens p h t n d val place vs edge back apart i y ts e (sym as_tokens ∙ is);
      once = λ below each. subst (λ (ns : List ℕ). IsOnce ns) (sym as_names) (once_held p h t n d val place vs edge back apart forest below each);
    }
      where
        vs : List Value
        vs = o.elements

        val : Value → Option Value
        val v = Some v

        place : ℕ → Value → ℕ
        place k v = 2 * k + 1

        edge : (k : ℕ) (v : Value) (y : ℕ) → slice_get vs k ≡ Some v → val v ≡ Some (Ref y) → t.to n (place k v) ≡ Some y
        edge k v y at e = held (2 * k + 1) ∙ (ap (held_by o) (half_odd k) ∙ ap refers_in (at ∙ e))

        back_by : (b : Bool × ℕ) (x : ℕ) → held_by o b ≡ Some x → (k : ℕ) × (v : Value) × (slice_get vs k ≡ Some v) × (val v ≡ Some (Ref x))
        back_by (true, j) x e = (j, Ref x, refers_ref (slice_get o.elements j) x e, refl)
        back_by (false, j) x e = absurd (let none2 = ap (λ (es : List (FieldId × Value)). refers_in (field_in es (field_id j))) none in cc)

        back : (i x : ℕ) → t.to n i ≡ Some x → (k : ℕ) × (v : Value) × (slice_get vs k ≡ Some v) × (val v ≡ Some (Ref x))
        back i x e = back_by (half i) x (sym (held i) ∙ e)

        apart : (j k : ℕ) (a b : Value) → slice_get vs j ≡ Some a → slice_get vs k ≡ Some b → place j a ≡ place k b → j ≡ k
        apart j k a b s u e = omega (arith, e)

  content_by : (n d e : ℕ) (b : Base) (fields : List (FieldId × Value)) (elements : List Value) → ContentFits p of e b (record { class = record { dims = e; base = b }; fields = fields; elements = elements }) →
      ((i : ℕ) → t.to n i ≡ held_by (record { class = record { dims = e; base = b }; fields = fields; elements = elements }) (half i)) → Content n d (record { class = record { dims = e; base = b }; fields = fields; elements = elements })
  content_by n d zero (base.Class c) fields elements fit held = fields_content n d (record { class = record { dims = zero; base = base.Class c }; fields = fields; elements = elements }) held c fit.2 fit.1 refl refl
  content_by n d (suc e) b fields elements fit held =
      elements_content n d (record { class = record { dims = suc e; base = b }; fields = fields; elements = elements }) held fit.0
      (picked_false (eqb (suc e) 0) (joined_names (λ f. names_where (names d) (field_in fields f)) (fields_in_order p b)) (joined_names (names d) elements) (ne_eqb (suc e) 0 (λ z. omega (arith, z))))
      (picked_false (eqb (suc e) 0) (joined_tokens (λ f. field_in fields f >>= tokens d) (fields_in_order p b)) (joined_tokens (tokens d) elements) (ne_eqb (suc e) 0 (λ z. omega (arith, z))))
  content_by n d zero base.Bool fields elements fit held = absurd fit
  content_by n d zero base.Byte fields elements fit held = absurd fit
  content_by n d zero base.Char fields elements fit held = absurd fit
  content_by n d zero base.Short fields elements fit held = absurd fit
  content_by n d zero base.Int fields elements fit held = absurd fit
  content_by n d zero base.Long fields elements fit held = absurd fit

  -- the object at a name of a tree
  record There (n : ℕ) : Type 0 where
    object : Object
    at : get h n ≡ Some object
    content : (d : ℕ) → Content n d object

  there : (n : ℕ) → t.has n ≡ true → There n
  there n e = by (get h n) refl e
    where
      by : (o : Option Object) → get h n ≡ o → is_tree_object p o ≡ true → There n
      by None at e = absurd (cc)
      by (Some object) at e = record {
        object = object;
        at = at;
        content = λ d. content_by n d object.class.dims object.class.base object.fields object.elements (heap.objects n object at) (λ i. ap (λ (o : Option Object). held_at p o i) at ∙ tree_is object (object_sort p object.class) i e);
      }

  names_at : (d n : ℕ) (w : There n) → names (suc d) (Ref n) ≡ n ∷ content_names p (names d) w.object
  names_at d n w = ap (λ (o : Option Object). n ∷ names_in p (names d) o) w.at

  -- ---- names are below

  pub below_names : (d n q : ℕ) → t.has n ≡ true → IsIn q (names d (Ref n)) → Below t n q
  below_names zero n q has i = absurd i
  below_names (suc d) n q has i = by (subst (λ (ns : List ℕ). IsIn q ns) (names_at d n w) i) (λ y e j. below_names d y q e j)
    where
      w : There n
      w = there n has

      by : (q ≡ n) ⊎ IsIn q (content_names p (names d) w.object) → ((y : ℕ) → t.has y ≡ true → IsIn q (names d (Ref y)) → Below t y q) → Below t n q
      by (inl e) again = Here (sym e)
      by (inr j) again =
          let c = (w.content d).down q j in
          joined t n c.1 q (Then n c.0 (Here refl) c.2) (again c.1 (forest.there n c.0 c.1 c.2).1 c.3)

  -- ---- what is below is named

  record Tokens (d n : ℕ) (o : Object) : Type 0 where
    content : List Token
    is : content_tokens p (tokens d) o ≡ Some content

  content_read : (d n : ℕ) (ts : List Token) (w : There n) → tokens (suc d) (Ref n) ≡ Some ts → Tokens d n w.object
  content_read d n ts w e = by (content_tokens p (tokens d) w.object) refl (sym (ap (λ (o : Option Object). o >>= λ object. content_tokens p (tokens d) object >>= λ content. Some (token.Open (shown_name p object.class) ∷ (content ++ token.Close ∷ []))) w.at) ∙ e)
    where
      by : (r : Option (List Token)) → content_tokens p (tokens d) w.object ≡ r → (r >>= λ content. Some (token.Open (shown_name p w.object.class) ∷ (content ++ token.Close ∷ []))) ≡ Some ts → Tokens d n w.object
      by None is e = absurd (cc)
      by (Some content) is e = record { content = content; is = is }

  first_name : (d n : ℕ) (ts : List Token) → tokens d (Ref n) ≡ Some ts → IsIn n (names d (Ref n))
  first_name zero n ts e = absurd (cc)
  first_name (suc d) n ts e = inl refl

  pub names_closed : (d n : ℕ) (ts : List Token) (q i x : ℕ) → t.has n ≡ true → tokens d (Ref n) ≡ Some ts → IsIn q (names d (Ref n)) → t.to q i ≡ Some x → IsIn x (names d (Ref n))
  names_closed zero n ts q i x has e j edge = absurd (cc)
  names_closed (suc d) n ts q i x has e j edge =
      subst (λ (ns : List ℕ). IsIn x ns) (sym (names_at d n w)) (inr (by (subst (λ (ns : List ℕ). IsIn q ns) (names_at d n w) j) (λ y us has2 read inside. names_closed d y us q i x has2 read inside edge)))
    where
      w : There n
      w = there n has

      content : Tokens d n w.object
      content = content_read d n ts w e

      by : (q ≡ n) ⊎ IsIn q (content_names p (names d) w.object) → ((y : ℕ) (us : List Token) → t.has y ≡ true → tokens d (Ref y) ≡ Some us → IsIn q (names d (Ref y)) → IsIn x (names d (Ref y))) → IsIn x (content_names p (names d) w.object)
      by (inl same) again =
          let here : t.to n i ≡ Some x = subst (λ (m : ℕ). t.to m i ≡ Some x) same edge in
          let us = (w.content d).read i x content.content here content.is in
          (w.content d).up x i x here (first_name d x us.0 us.1)
      by (inr k) again =
          let c = (w.content d).down q k in
          let us = (w.content d).read c.0 c.1 content.content c.2 content.is in
          (w.content d).up x c.0 c.1 c.2 (again c.1 us.0 (forest.there n c.0 c.1 c.2).1 us.1 c.3)

  pub all_named : (d n : ℕ) (ts : List Token) → t.has n ≡ true → tokens d (Ref n) ≡ Some ts → (x : ℕ) → Below t n x → IsIn x (names d (Ref n))
  all_named d n ts has e x (Here same) = subst (λ (m : ℕ). IsIn m (names d (Ref n))) same (first_name d n ts e)
  all_named d n ts has e x (Then q i b edge) = names_closed d n ts q i x has e (all_named d n ts has e q b) edge

  -- ---- each once

  pub once_named : (d n : ℕ) → t.has n ≡ true → IsOnce (names d (Ref n))
  once_named zero n has = tt
  once_named (suc d) n has =
      subst (λ (ns : List ℕ). IsOnce ns) (sym (names_at d n w)) (away, (w.content d).once (λ y q e i. below_names d y q e i) (λ i y e. once_named d y (forest.there n i y e).1))
    where
      w : There n
      w = there n has

      away : IsIn n (content_names p (names d) w.object) → ⊥
      away i =
          let c = (w.content d).down n i in
          never_round t forest n (under_below t n c.1 n (one_step t n c.0 c.1 c.2) (below_names d c.1 n (forest.there n c.0 c.1 c.2).1 c.3))
