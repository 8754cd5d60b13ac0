-- Shapes without the names of objects, seen from one mailbox: what leaves a heap and what comes to one.
use Rattle.std.proofs.Common.{◌≡◌, inl, inr, ℕ, zero, suc, ◌+◌, Bool, true, false, cond, List, [], ◌∷◌, ◌++◌, length, Option, Some, None, refl, sym, ap, subst, ◌∙◌}
use Rattle.std.specs.Prelude.{nat_le, ◌==◌, count_by}
use Rattle.std.specs.FinMap.{get, insert, remove}
use Rattle.std.specs.List.{AllByRecursion}
use Rattle.std.proofs.lemmas.Bool.Decides.{eqb_tells}
use Rattle.kilim_program.specs.Names.{◌>>=◌}
use Rattle.kilim_program.specs.Program.{Program}
use Rattle.kilim_program.specs.declared.names.BoxName.{BoxName}
use Rattle.kilim_program.specs.declared.names.FieldId.{FieldId}
use Rattle.kilim_program.specs.declared.ty.Ty.{Ty}
use Rattle.kilim_program.specs.declared.value.Value.{Value}
use Rattle.kilim_program.specs.declared.value.Value.TheVariants as value
use Rattle.kilim_program.specs.Members.{shown_name}
use Rattle.kilim_run_state.specs.declared.value.Object.{Object}
use Rattle.kilim_run_state.specs.declared.value.Token.{Token}
use Rattle.kilim_run_state.specs.declared.value.Token.TheVariants as token
use Rattle.kilim_run_state.specs.Machine.{Objects}
use Rattle.kilim_run_state.specs.Shapes.{content_tokens, field_in, fields_in_order, is_open, joined_tokens, shape_by, shape_of, tree_limit, value_tokens}
use Rattle.kilim_run_state.specs.Trees.{Read, Reads, Root, and_then, behind, built, closed, is_allowed, object_of, read_value, read_values, root_alone, type_named, with_keys, with_objects, without}
use Rattle.kilim_run_model.specs.State.{same_box}
use Rattle.kilim_lemmas.proofs.Maps.{out_other, out_there}
use Rattle.kilim_new_bounds.proofs.Slots.{FieldsSo, HeapSo, Mode, ObjectSo, ValuesSo, field_so, good, insert_so, value_so}
use Rattle.kilim_new_bounds.proofs.Rows.{other_value}

abbrev pub is_box_token : BoxName → Token → Bool
is_box_token b (token.Box x) = same_box b x
is_box_token b t = false

abbrev pub TokensSo : BoxName → Mode → List Token → Type 0
TokensSo b m ts = AllByRecursion (λ (t : Token). good m (is_box_token b t) ≡ true) ts

abbrev pub ObjectsSo : BoxName → Mode → List Object → Type 0
ObjectsSo b m os = AllByRecursion (λ (o : Object). ObjectSo b m o) os

some_is : {A : Type 0} (x y : A) → Some x ≡ Some y → x ≡ y
some_is x y e = cc

record Bound {A B : Type 0} (o : Option A) (f : A → Option B) (y : B) : Type 0 where
  x : A
  is : o ≡ Some x
  gives : f x ≡ Some y

bound : {A B : Type 0} (o : Option A) (f : A → Option B) (y : B) → (o >>= f) ≡ Some y → Bound o f y
bound None f y e = absurd (cc)
bound (Some x) f y e = record { x = x; is = refl; gives = e }

module _ (b : BoxName) (m : Mode) where
  plain_token : (t : Token) → is_box_token b t ≡ false → good m (is_box_token b t) ≡ true
  plain_token t e = ap (good m) e ∙ by m
    where
      by : (m : Mode) → good m false ≡ true
      by m = other_value b m value.Null refl

  tokens_joined : (ts us : List Token) → TokensSo b m ts → TokensSo b m us → TokensSo b m (ts ++ us)
  tokens_joined [] us a c = c
  tokens_joined (t ∷ ts) us a c = (a.0, tokens_joined ts us a.1 c)

  tokens_by : (ts us : List Token) → Some ts ≡ Some us → TokensSo b m ts → TokensSo b m us
  tokens_by ts us e a = subst (TokensSo b m) (some_is ts us e) a

  -- ---- out of a heap

  all_tokens : {A : Type 0} (P : A → Type 0) (tokens : A → Option (List Token)) → ((x : A) (ts : List Token) → P x → tokens x ≡ Some ts → TokensSo b m ts) → (xs : List A) (ts : List Token) → AllByRecursion P xs → joined_tokens tokens xs ≡ Some ts → TokensSo b m ts
  all_tokens P tokens each [] ts all e = tokens_by [] ts e tt
  all_tokens P tokens each (x ∷ xs) ts all e =
      let a = bound (tokens x) (λ first. joined_tokens tokens xs >>= λ others. Some (first ++ others)) ts e in
      let r = bound (joined_tokens tokens xs) (λ others. Some (a.x ++ others)) ts a.gives in
      tokens_by (a.x ++ r.x) ts r.gives (tokens_joined a.x r.x (each x a.x all.0 a.is) (all_tokens P tokens each xs r.x all.1 r.is))

  abbrev Each : (Value → Option (List Token)) → Type 0
  Each tokens = (v : Value) (ts : List Token) → value_so b m v ≡ true → tokens v ≡ Some ts → TokensSo b m ts

  unit_all : {A : Type 0} (xs : List A) → AllByRecursion (λ (x : A). Unit {0}) xs
  unit_all [] = tt
  unit_all (x ∷ xs) = (tt, unit_all xs)

  content_so : (p : Program) (tokens : Value → Option (List Token)) → Each tokens → (o : Object) (ts : List Token) → ObjectSo b m o → content_tokens p tokens o ≡ Some ts → TokensSo b m ts
  content_so p tokens each o ts fit e = by (o.class.dims == 0) e
    where
      field : (f : FieldId) (us : List Token) → Unit {0} → (field_in o.fields f >>= tokens) ≡ Some us → TokensSo b m us
      field f us u e = let a = bound (field_in o.fields f) tokens us e in each a.x us (field_so b m o.fields f a.x fit.0 a.is) a.gives

      by : (z : Bool) → cond z (joined_tokens (λ f. field_in o.fields f >>= tokens) (fields_in_order p o.class.base)) (joined_tokens tokens o.elements) ≡ Some ts → TokensSo b m ts
      by true e = all_tokens (λ (f : FieldId). Unit {0}) (λ f. field_in o.fields f >>= tokens) field (fields_in_order p o.class.base) ts (unit_all (fields_in_order p o.class.base)) e
      by false e = all_tokens (λ (v : Value). value_so b m v ≡ true) tokens (λ v us fit e. each v us fit e) o.elements ts fit.1 e

  tokens_so : (p : Program) (h : Objects) → HeapSo b m h → (depth : ℕ) → Each (value_tokens p (λ n. get h n) depth)
  tokens_so p h heap depth (value.Int n) ts fit e = tokens_by (token.Int n ∷ []) ts e (plain_token (token.Int n) refl, tt)
  tokens_so p h heap depth (value.Long n) ts fit e = tokens_by (token.Long n ∷ []) ts e (plain_token (token.Long n) refl, tt)
  tokens_so p h heap depth value.Null ts fit e = tokens_by (token.Null ∷ []) ts e (plain_token token.Null refl, tt)
  tokens_so p h heap depth (value.Text units) ts fit e = tokens_by (token.Text units ∷ []) ts e (plain_token (token.Text units) refl, tt)
  tokens_so p h heap depth (value.Box box) ts fit e = tokens_by (token.Box box ∷ []) ts e (fit, tt)
  tokens_so p h heap depth value.Fiber ts fit e = absurd (cc)
  tokens_so p h heap zero (value.Ref n) ts fit e = absurd (cc)
  tokens_so p h heap (suc depth) (value.Ref n) ts fit e =
      let a = bound (get h n) (λ object. content_tokens p (value_tokens p (λ n. get h n) depth) object >>= λ content. Some (token.Open (shown_name p object.class) ∷ (content ++ token.Close ∷ []))) ts e in
      let c = bound (content_tokens p (value_tokens p (λ n. get h n) depth) a.x) (λ content. Some (token.Open (shown_name p a.x.class) ∷ (content ++ token.Close ∷ []))) ts a.gives in
      tokens_by (token.Open (shown_name p a.x.class) ∷ (c.x ++ token.Close ∷ [])) ts c.gives (
        plain_token (token.Open (shown_name p a.x.class)) refl,
        tokens_joined c.x (token.Close ∷ []) (content_so p (value_tokens p (λ n. get h n) depth) (tokens_so p h heap depth) a.x c.x (heap n a.x a.is) c.is) (plain_token token.Close refl, tt),
      )

  pub shape_so : (p : Program) (h : Objects) (n : ℕ) (ts : List Token) → HeapSo b m h → shape_of p h n ≡ Some ts → TokensSo b m ts
  unfolding shape_by
  shape_so p h n ts heap e =
      let a = bound (value_tokens p (λ m. get h m) tree_limit (value.Ref n)) (λ tokens. cond (nat_le (count_by is_open tokens) tree_limit) (Some tokens) None) ts e in
      picked (nat_le (count_by is_open a.x) tree_limit) a.x a.gives (tokens_so p h heap tree_limit (value.Ref n) a.x (other_value b m (value.Ref n) refl) a.is)
    where
      picked : (z : Bool) (x : List Token) → cond z (Some x) None ≡ Some ts → TokensSo b m x → TokensSo b m ts
      picked true x e a = tokens_by x ts e a
      picked false x e a = absurd (cc)

  -- ---- into a heap

  objects_joined : (os us : List Object) → ObjectsSo b m os → ObjectsSo b m us → ObjectsSo b m (os ++ us)
  objects_joined [] us a c = c
  objects_joined (o ∷ os) us a c = (a.0, objects_joined os us a.1 c)

  keys_so : (fs : List FieldId) (vs : List Value) → ValuesSo b m vs → FieldsSo b m (with_keys fs vs)
  keys_so [] vs a = tt
  keys_so (f ∷ fs) [] a = tt
  keys_so (f ∷ fs) (v ∷ vs) a = (a.0, keys_so fs vs a.1)

  made_so : (p : Program) (ty : Ty) (vs : List Value) → ValuesSo b m vs → ObjectSo b m (object_of p ty vs)
  made_so p ty vs a = by (ty.dims == 0)
    where
      by : (z : Bool) → ObjectSo b m (cond z (record { class = ty; fields = with_keys (fields_in_order p ty.base) vs; elements = [] }) (record { class = ty; fields = []; elements = vs }))
      by true = (keys_so (fields_in_order p ty.base) vs a, tt)
      by false = (tt, a)

  abbrev ReadSo : Option Read → Type 0
  ReadSo None = Unit {0}
  ReadSo (Some r) = (value_so b m r.value ≡ true) × ObjectsSo b m r.objects × TokensSo b m r.rest

  abbrev ReadsSo : Option Reads → Type 0
  ReadsSo None = Unit {0}
  ReadsSo (Some r) = ValuesSo b m r.values × ObjectsSo b m r.objects × TokensSo b m r.rest

  closed_so : (p : Program) (base : ℕ) (ty : Option Ty) (r : Option Reads) → ReadsSo r → ReadSo (closed p base ty r)
  closed_so p base None r a = tt
  closed_so p base (Some ty) None a = tt
  closed_so p base (Some ty) (Some r) a = (other_value b m (value.Ref base) refl, (made_so p ty r.values a.0, a.1), a.2)

  then_so : (r : Option Read) (go : Read → Option Reads) → ReadSo r → ((x : Read) → r ≡ Some x → ReadsSo (go x)) → ReadsSo (and_then r go)
  then_so None go a each = tt
  then_so (Some x) go a each = by (go x) (each x refl)
    where
      by : (o : Option Reads) → ReadsSo o → ReadsSo (behind x o)
      by None c = tt
      by (Some others) c = ((a.0, c.0), objects_joined x.objects others.objects a.1 c.1, c.2)

  abbrev OneRead : Program → ℕ → Type 0
  OneRead p fuel = (base : ℕ) (ts : List Token) → TokensSo b m ts → ReadSo (read_value p fuel base ts)

  abbrev AllRead : Program → ℕ → Type 0
  AllRead p fuel = (base : ℕ) (ts : List Token) → TokensSo b m ts → ReadsSo (read_values p fuel base ts)

  one_read : (p : Program) (fuel : ℕ) → AllRead p fuel → OneRead p (suc fuel)
  one_read p fuel all base [] a = tt
  one_read p fuel all base (token.Int n ∷ ts) a = (other_value b m (value.Int n) refl, tt, a.1)
  one_read p fuel all base (token.Long n ∷ ts) a = (other_value b m (value.Long n) refl, tt, a.1)
  one_read p fuel all base (token.Null ∷ ts) a = (other_value b m value.Null refl, tt, a.1)
  one_read p fuel all base (token.Text units ∷ ts) a = (other_value b m (value.Text units) refl, tt, a.1)
  one_read p fuel all base (token.Box box ∷ ts) a = (a.0, tt, a.1)
  one_read p fuel all base (token.Close ∷ ts) a = tt
  one_read p fuel all base (token.Open name ∷ ts) a = closed_so p base (type_named p name) (read_values p fuel (suc base) ts) (all (suc base) ts a.1)

  rest_so : (r : Option Read) (x : Read) → r ≡ Some x → ReadSo r → TokensSo b m x.rest
  rest_so None x e a = absurd (cc)
  rest_so (Some y) x e a = subst (λ (z : Read). TokensSo b m z.rest) (some_is y x e) a.2

  all_read : (p : Program) (fuel : ℕ) → OneRead p fuel → AllRead p fuel → AllRead p (suc fuel)
  all_read p fuel one all base [] a = tt
  all_read p fuel one all base (token.Close ∷ ts) a = (tt, tt, a.1)
  all_read p fuel one all base (token.Int n ∷ ts) a = then_so (read_value p fuel base (token.Int n ∷ ts)) _ (one base (token.Int n ∷ ts) a) (λ x e. all (base + length x.objects) x.rest (rest_so (read_value p fuel base (token.Int n ∷ ts)) x e (one base (token.Int n ∷ ts) a)))
  all_read p fuel one all base (token.Long n ∷ ts) a = then_so (read_value p fuel base (token.Long n ∷ ts)) _ (one base (token.Long n ∷ ts) a) (λ x e. all (base + length x.objects) x.rest (rest_so (read_value p fuel base (token.Long n ∷ ts)) x e (one base (token.Long n ∷ ts) a)))
  all_read p fuel one all base (token.Null ∷ ts) a = then_so (read_value p fuel base (token.Null ∷ ts)) _ (one base (token.Null ∷ ts) a) (λ x e. all (base + length x.objects) x.rest (rest_so (read_value p fuel base (token.Null ∷ ts)) x e (one base (token.Null ∷ ts) a)))
  all_read p fuel one all base (token.Text n ∷ ts) a = then_so (read_value p fuel base (token.Text n ∷ ts)) _ (one base (token.Text n ∷ ts) a) (λ x e. all (base + length x.objects) x.rest (rest_so (read_value p fuel base (token.Text n ∷ ts)) x e (one base (token.Text n ∷ ts) a)))
  all_read p fuel one all base (token.Box n ∷ ts) a = then_so (read_value p fuel base (token.Box n ∷ ts)) _ (one base (token.Box n ∷ ts) a) (λ x e. all (base + length x.objects) x.rest (rest_so (read_value p fuel base (token.Box n ∷ ts)) x e (one base (token.Box n ∷ ts) a)))
  all_read p fuel one all base (token.Open n ∷ ts) a = then_so (read_value p fuel base (token.Open n ∷ ts)) _ (one base (token.Open n ∷ ts) a) (λ x e. all (base + length x.objects) x.rest (rest_so (read_value p fuel base (token.Open n ∷ ts)) x e (one base (token.Open n ∷ ts) a)))

  read_so : (p : Program) (fuel : ℕ) → OneRead p fuel × AllRead p fuel
  read_so p zero = ((λ base ts a. tt), (λ base ts a. tt))
  read_so p (suc fuel) = let r = read_so p fuel in (one_read p fuel r.1, all_read p fuel r.0 r.1)

  pub built_so : (p : Program) (root : Root) (base : ℕ) (shape : List Token) (objects : List Object) → TokensSo b m shape → built p root base shape ≡ Some objects → ObjectsSo b m objects
  unfolding built
  built_so p root base shape objects a e = by (is_allowed p root shape) e
    where
      alone : (r : Option Read) → ReadSo r → root_alone r ≡ Some objects → ObjectsSo b m objects
      alone None c e = absurd (cc)
      alone (Some r) c e = subst (ObjectsSo b m) (some_is r.objects objects e) c.1

      by : (z : Bool) → cond z (root_alone (read_value p (suc (length shape)) base shape)) None ≡ Some objects → ObjectsSo b m objects
      by true e = alone (read_value p (suc (length shape)) base shape) ((read_so p (suc (length shape))).0 base shape a) e
      by false e = absurd (cc)

  pub with_objects_so : (objects : List Object) (h : Objects) (base : ℕ) → HeapSo b m h → ObjectsSo b m objects → HeapSo b m (with_objects h base objects)
  with_objects_so [] h base heap a = heap
  with_objects_so (o ∷ os) h base heap a = with_objects_so os (insert h base o) (suc base) (insert_so b m h base o heap a.0) a.1

  pub without_so : (h : Objects) (ns : List ℕ) → HeapSo b m h → HeapSo b m (without h ns)
  without_so h [] heap k o e = heap k o e
  without_so h (n ∷ ns) heap k o e = elim (eqb_tells n k) [
    | inl z ↦ absurd (let a = out_there (without h ns) n in let c = subst (λ (j : ℕ). get (remove (without h ns) n) j ≡ Some o) (sym z.1) e in cc)
    | inr z ↦ without_so h ns heap k o (sym (out_other (without h ns) n k (λ w. z.1 (sym w))) ∙ e)
  ]
