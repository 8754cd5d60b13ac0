-- The shape of a tree of objects that fit is one that the declared types allow.
use Rattle.std.proofs.Common.{◌≡◌, ℕ, zero, suc, ℤ, Bool, true, false, cond, eqb, List, [], ◌∷◌, ◌++◌, length, Option, Some, None, refl, sym, ap, subst, ◌∙◌, arith, append_assoc}
use Rattle.std.specs.Prelude.{◌&&◌, ◌||◌, not, ◌-◌, nat_le, codes, count_by}
use Rattle.std.specs.FinMap.{get}
use Rattle.std.specs.List.{list_all}
use Rattle.std.proofs.lemmas.Bool.{and_parts, and_from, eqb-true, ltb-true}
use Rattle.kilim_program.specs.declared.class.Class.{Class}
use Rattle.kilim_program.specs.declared.class.Field.{Field}
use Rattle.kilim_program.specs.declared.names.ClassId.{ClassId}
use Rattle.kilim_program.specs.declared.names.FieldId.{FieldId}
use Rattle.kilim_program.specs.declared.ty.Base.{Base}
use Rattle.kilim_program.specs.declared.ty.Base.TheVariants as base
use Rattle.kilim_program.specs.declared.ty.Ty.{Ty}
use Rattle.kilim_program.specs.declared.value.Value.{Value}
use Rattle.kilim_program.specs.declared.value.Value.TheVariants as value
use Rattle.kilim_program.specs.Program.{Program}
use Rattle.kilim_program.specs.Fits.{fits_type, is_reference_base}
use Rattle.kilim_program.specs.Keeps.{Keeps, has_base}
use Rattle.kilim_program.specs.Kinds.{is_value_class}
use Rattle.kilim_program.specs.Names.{◌>>=◌, class_at, field_of}
use Rattle.kilim_run_state.specs.declared.value.Object.{Object}
use Rattle.kilim_run_state.specs.declared.value.Token.{Token}
use Rattle.kilim_run_state.specs.declared.value.Token.TheVariants as token
use Rattle.kilim_program.specs.Members.{named_type}
use Rattle.kilim_run_state.specs.Machine.{Objects}
use Rattle.kilim_program.specs.Members.{is_concrete, object_fields, shown_name}
use Rattle.kilim_run_state.specs.Shapes.{content_tokens, field_in, fields_in_order, is_open, joined_tokens, shape_by, tree_limit, value_tokens}
use Rattle.kilim_run_state.specs.Trees.{Awaits, Fields, Elements, Root, allowed_below, allowed_from, awaited, behind_token, content_types, field_types, is_allowed, is_class, is_long, is_root, is_whole_class, opened, type_named, value_fits}
use Rattle.kilim_run_state.specs.Trees as trees
use Rattle.kilim_run_model.specs.Kept.{Finds}
use Rattle.kilim_type_sound.specs.Fits.{Classes, ContentFits, FieldFits, FieldsFit, HeapFits, ObjectFits, has_objects, is_long_base, is_of, is_value_of}
use Rattle.kilim_type_sound.specs.Fits as fits
use Rattle.kilim_lemmas.proofs.Lists.{get_some}
use Rattle.kilim_isolation_laws.specs.tree_types.Laws.{AreNamedPlainly, TreesAreAllowed}
use Rattle.kilim_isolation_laws.proofs.tree_types.Formed.{finds_of, objects_formed, values_of}

-- ---- words of two definitions that are the same

same_int : (b : Base) (x : ℤ) → trees.int_fits b x ≡ fits.int_fits b x
same_int base.Bool x = refl
same_int base.Byte x = refl
same_int base.Char x = refl
same_int base.Short x = refl
same_int base.Int x = refl
same_int base.Long x = refl
same_int (base.Class c) x = refl

same_long : (b : Base) → is_long b ≡ is_long_base b
same_long base.Bool = refl
same_long base.Byte = refl
same_long base.Char = refl
same_long base.Short = refl
same_long base.Int = refl
same_long base.Long = refl
same_long (base.Class c) = refl

same_class : (b : Base) → is_class b ≡ is_reference_base b
same_class base.Bool = refl
same_class base.Byte = refl
same_class base.Char = refl
same_class base.Short = refl
same_class base.Int = refl
same_class base.Long = refl
same_class (base.Class c) = refl

same_of : (p : Program) (o : Option Ty) (ty : Ty) → trees.is_of p o ty ≡ is_of p o ty
same_of p None ty = refl
same_of p (Some c) ty = refl

some_is : {A : Type 0} (x y : A) → Some x ≡ Some y → x ≡ y
some_is x y e = cc

-- ---- what a bind gives

record Bound {A B : Type 0} (o : Option A) (f : A → Option B) (y : B) : Type 0 where
  x : A
  is : o ≡ Some x
  gives : f x ≡ Some y

bound : {A B : Type 0} (o : Option A) (f : A → Option B) (y : B) → (o >>= f) ≡ Some y → Bound o f y
bound None f y e = absurd (cc)
bound (Some x) f y e = record { x = x; is = refl; gives = e }

-- ---- a class that isn't abstract, and an array's

whole_class : (p : Program) (c : ClassId) → has_objects p c ≡ true → is_whole_class p (record { dims = 0; base = base.Class c }) ≡ true
whole_class p c e = by (class_at p c) e
  where
    by : (o : Option Class) → (is_concrete o && not (is_value_class (elim o [ None ↦ [] | Some class ↦ class.name ]))) ≡ true →
        (elim o [ None ↦ false | Some class ↦ (not class.is_abstract && not (is_value_class class.name)) || not (eqb 0 0) ]) ≡ true
    by None e = e
    by (Some class) e = ap (λ (z : Bool). z || not (eqb 0 0)) e

or_true : (b : Bool) → (b || true) ≡ true
or_true true = refl
or_true false = refl

not_zero : (d : ℕ) → not (eqb (suc d) 0) ≡ true
not_zero d = by (eqb (suc d) 0) refl
  where
    by : (z : Bool) → eqb (suc d) 0 ≡ z → not z ≡ true
    by true e = absurd (let z = eqb-true (suc d) 0 e in omega (arith, z))
    by false e = refl

whole_array : (p : Program) (d : ℕ) (b : Base) → has_base p b ≡ true → is_whole_class p (record { dims = suc d; base = b }) ≡ true
whole_array p d (base.Class c) e =
    let there = get_some p.classes c.0 (ltb-true c.0 (length p.classes) e) in
    ap (λ (o : Option Class). elim o [ None ↦ false | Some class ↦ (not class.is_abstract && not (is_value_class class.name)) || not (eqb (suc d) 0) ]) there.1
    ∙ (ap (λ (z : Bool). (not there.0.is_abstract && not (is_value_class there.0.name)) || z) (not_zero d) ∙ or_true (not there.0.is_abstract && not (is_value_class there.0.name)))
whole_array p d base.Bool e = not_zero d
whole_array p d base.Byte e = not_zero d
whole_array p d base.Char e = not_zero d
whole_array p d base.Short e = not_zero d
whole_array p d base.Int e = not_zero d
whole_array p d base.Long e = not_zero d

whole_content : (p : Program) (of : Classes) (d : ℕ) (b : Base) (o : Object) → ContentFits p of d b o → is_whole_class p (record { dims = d; base = b }) ≡ true
whole_content p of zero (base.Class c) o fit = whole_class p c fit.0
whole_content p of (suc d) b o fit = whole_array p d b fit.2
whole_content p of zero base.Bool o fit = absurd fit
whole_content p of zero base.Byte o fit = absurd fit
whole_content p of zero base.Char o fit = absurd fit
whole_content p of zero base.Short o fit = absurd fit
whole_content p of zero base.Int o fit = absurd fit
whole_content p of zero base.Long o fit = absurd fit

-- ---- arrays

no_zero : (d : ℕ) (z : Bool) → eqb (suc d) 0 ≡ z → z ≡ false
no_zero d true e = absurd (let z = eqb-true (suc d) 0 e in omega (arith, z))
no_zero d false e = refl

picked_false : {A : Type 0} (z : Bool) (x y : A) → z ≡ false → cond z x y ≡ y
picked_false true x y e = absurd (cc)
picked_false false x y e = refl

array_types : (p : Program) (d : ℕ) (b : Base) → content_types p (record { dims = suc d; base = b }) ≡ Elements (record { dims = d; base = b })
array_types p d b =
    picked_false (eqb (suc d) 0) (Fields (field_types p (fields_in_order p b))) (Elements (record { dims = suc d - 1; base = b })) (no_zero d (eqb (suc d) 0) refl)
    ∙ ap (λ (n : ℕ). Elements (record { dims = n; base = b })) (let n : suc d - 1 ≡ d = omega arith in n)

-- ---- tokens

module _ (p : Program) (of : Classes) (h : Objects) (keeps : Keeps p) (plain : AreNamedPlainly p) (heap : HeapFits p of h) where
  abbrev look : ℕ → Option Object
  look n = get h n

  -- the tokens of a value of this type are taken where one is awaited
  abbrev Takes : (Value → Option (List Token)) → Value → Ty → Type 0
  Takes tokens v ty = (ts : List Token) → tokens v ≡ Some ts → (s rest : List Awaits) (more : List Token) → awaited s ≡ Some (ty, rest) → allowed_from p (Some s) (ts ++ more) ≡ allowed_from p (Some rest) more

  abbrev TakesAll : (Value → Option (List Token)) → Type 0
  TakesAll tokens = (v : Value) (ty : Ty) → is_value_of p of ty v ≡ true → Takes tokens v ty

  abbrev if_fits : Token → Ty × List Awaits → Option (List Awaits)
  if_fits t next = cond (value_fits p next.0 t) (Some next.1) None

  -- a value that is no object
  leaf_taken : (t : Token) (ty : Ty) → ((s : List Awaits) → behind_token p s t ≡ (awaited s >>= if_fits t)) → value_fits p ty t ≡ true → (ts : List Token) → Some (t ∷ []) ≡ Some ts → (s rest : List Awaits) (more : List Token) → awaited s ≡ Some (ty, rest) →
      allowed_from p (Some s) (ts ++ more) ≡ allowed_from p (Some rest) more
  leaf_taken t ty step fit ts is s rest more e =
      ap (λ (us : List Token). allowed_from p (Some s) (us ++ more)) (sym (some_is (t ∷ []) ts is))
      ∙ ap (λ (o : Option (List Awaits)). allowed_from p o more) (step s ∙ (ap (λ (o : Option (Ty × List Awaits)). o >>= if_fits t) e ∙ ap (λ (z : Bool). cond z (Some rest) None) fit))

  -- ---- fields and elements

  fields_taken : (tokens : Value → Option (List Token)) → TakesAll tokens → (all : List (FieldId × Value)) (fs : List FieldId) (es : List (FieldId × Value)) → FieldsFit p of fs es → Finds all fs (values_of es) →
      (ts : List Token) → joined_tokens (λ f. field_in all f >>= tokens) fs ≡ Some ts → (rest : List Awaits) (more : List Token) → allowed_from p (Some (Fields (field_types p fs) ∷ rest)) (ts ++ more) ≡ allowed_from p (Some (Fields [] ∷ rest)) more
  fields_taken tokens each all [] [] fit finds ts is rest more = ap (λ (us : List Token). allowed_from p (Some (Fields [] ∷ rest)) (us ++ more)) (sym (some_is [] ts is))
  fields_taken tokens each all [] (e ∷ es) fit finds ts is rest more = absurd fit
  fields_taken tokens each all (f ∷ fs) [] fit finds ts is rest more = absurd fit
  fields_taken tokens each all (f ∷ fs) (e ∷ es) fit finds ts is rest more =
      let a = bound (field_in all f >>= tokens) (λ first. joined_tokens (λ f. field_in all f >>= tokens) fs >>= λ others. Some (first ++ others)) ts is in
      let b = bound (joined_tokens (λ f. field_in all f >>= tokens) fs) (λ others. Some (a.x ++ others)) ts a.gives in
      let value : tokens e.1 ≡ Some a.x = sym (ap (λ (o : Option Value). o >>= tokens) finds.0) ∙ a.is in
      by (field_of p f) refl fit.1 a.x b.x value (some_is (a.x ++ b.x) ts b.gives) (fields_taken tokens each all fs es fit.2 finds.1 b.x b.is rest more)
    where
      by : (o : Option Field) → field_of p f ≡ o → FieldFits p of o e.1 → (first others : List Token) → tokens e.1 ≡ Some first → first ++ others ≡ ts → allowed_from p (Some (Fields (field_types p fs) ∷ rest)) (others ++ more) ≡ allowed_from p (Some (Fields [] ∷ rest)) more →
          allowed_from p (Some (Fields (field_types p (f ∷ fs)) ∷ rest)) (ts ++ more) ≡ allowed_from p (Some (Fields [] ∷ rest)) more
      by None at fit first others value is later = absurd fit
      by (Some field) at fit first others value is later =
          ap (λ (o : Option Field). allowed_from p (Some (Fields (elim o [ None ↦ field_types p fs | Some field ↦ field.ty ∷ field_types p fs ]) ∷ rest)) (ts ++ more)) at
          ∙ (ap (λ (us : List Token). allowed_from p (Some (Fields (field.ty ∷ field_types p fs) ∷ rest)) us) (ap (λ (us : List Token). us ++ more) (sym is) ∙ append_assoc first others more)
          ∙ (each e.1 field.ty fit first value (Fields (field.ty ∷ field_types p fs) ∷ rest) (Fields (field_types p fs) ∷ rest) (others ++ more) refl ∙ later))

  elements_taken : (tokens : Value → Option (List Token)) → TakesAll tokens → (ty : Ty) (vs : List Value) → list_all (is_value_of p of ty) vs ≡ true → (ts : List Token) → joined_tokens tokens vs ≡ Some ts → (rest : List Awaits) (more : List Token) →
      allowed_from p (Some (Elements ty ∷ rest)) (ts ++ more) ≡ allowed_from p (Some (Elements ty ∷ rest)) more
  elements_taken tokens each ty [] fit ts is rest more = ap (λ (us : List Token). allowed_from p (Some (Elements ty ∷ rest)) (us ++ more)) (sym (some_is [] ts is))
  elements_taken tokens each ty (v ∷ vs) fit ts is rest more =
      let f = and_parts (is_value_of p of ty v) (list_all (is_value_of p of ty) vs) fit in
      let a = bound (tokens v) (λ first. joined_tokens tokens vs >>= λ others. Some (first ++ others)) ts is in
      let b = bound (joined_tokens tokens vs) (λ others. Some (a.x ++ others)) ts a.gives in
      ap (λ (us : List Token). allowed_from p (Some (Elements ty ∷ rest)) us) (ap (λ (us : List Token). us ++ more) (sym (some_is (a.x ++ b.x) ts b.gives)) ∙ append_assoc a.x b.x more)
      ∙ (each v ty f.0 a.x a.is (Elements ty ∷ rest) (Elements ty ∷ rest) (b.x ++ more) refl ∙ elements_taken tokens each ty vs f.1 b.x b.is rest more)

  -- ---- an object

  abbrev ContentTaken : (Value → Option (List Token)) → Object → Type 0
  ContentTaken tokens o = (ts : List Token) → content_tokens p tokens o ≡ Some ts → (rest : List Awaits) (more : List Token) → allowed_from p (Some (content_types p o.class ∷ rest)) (ts ++ token.Close ∷ more) ≡ allowed_from p (Some rest) more

  content_taken : (tokens : Value → Option (List Token)) → TakesAll tokens → (d : ℕ) (b : Base) (fields : List (FieldId × Value)) (elements : List Value) →
      ContentFits p of d b (record { class = record { dims = d; base = b }; fields = fields; elements = elements }) →
      ((eqb d 0) ≡ true → Finds fields (fields_in_order p b) (values_of fields)) → ContentTaken tokens (record { class = record { dims = d; base = b }; fields = fields; elements = elements })
  content_taken tokens each zero (base.Class c) fields elements fit finds ts is rest more = fields_taken tokens each fields (object_fields p c) fields fit.1 (finds refl) ts is rest (token.Close ∷ more)
  content_taken tokens each (suc d) b fields elements fit finds ts is rest more =
      let e = sym (picked_false (eqb (suc d) 0) (joined_tokens (λ f. field_in fields f >>= tokens) (fields_in_order p b)) (joined_tokens tokens elements) (no_zero d (eqb (suc d) 0) refl)) ∙ is in
      ap (λ (a : Awaits). allowed_from p (Some (a ∷ rest)) (ts ++ token.Close ∷ more)) (array_types p d b) ∙ elements_taken tokens each (record { dims = d; base = b }) elements fit.1 ts e rest (token.Close ∷ more)
  content_taken tokens each zero base.Bool fields elements fit finds ts is rest more = absurd fit
  content_taken tokens each zero base.Byte fields elements fit finds ts is rest more = absurd fit
  content_taken tokens each zero base.Char fields elements fit finds ts is rest more = absurd fit
  content_taken tokens each zero base.Short fields elements fit finds ts is rest more = absurd fit
  content_taken tokens each zero base.Int fields elements fit finds ts is rest more = absurd fit
  content_taken tokens each zero base.Long fields elements fit finds ts is rest more = absurd fit

  -- an object's fields are found, where it has some
  found : (n : ℕ) (o : Object) → get h n ≡ Some o → (eqb o.class.dims 0) ≡ true → Finds o.fields (fields_in_order p o.class.base) (values_of o.fields)
  found n o at = by o.class.dims o.class.base refl (heap.objects n o at)
    where
      by : (d : ℕ) (b : Base) → o.class ≡ record { dims = d; base = b } → ContentFits p of d b o → (eqb d 0) ≡ true → Finds o.fields (fields_in_order p b) (values_of o.fields)
      by zero (base.Class c) is fit e = finds_of p keeps of c o.fields fit.1
      by (suc d) b is fit e = absurd (let z = eqb-true (suc d) 0 e in omega (arith, z))
      by zero base.Bool is fit e = absurd fit
      by zero base.Byte is fit e = absurd fit
      by zero base.Char is fit e = absurd fit
      by zero base.Short is fit e = absurd fit
      by zero base.Int is fit e = absurd fit
      by zero base.Long is fit e = absurd fit

  record Opened (depth n : ℕ) (ts : List Token) : Type 0 where
    object : Object
    at : get h n ≡ Some object
    content : List Token
    tokens : content_tokens p (value_tokens p look depth) object ≡ Some content
    is : ts ≡ token.Open (shown_name p object.class) ∷ (content ++ token.Close ∷ [])

  opens : (depth n : ℕ) (ts : List Token) → value_tokens p look (suc depth) (value.Ref n) ≡ Some ts → Opened depth n ts
  opens depth n ts e =
      let a = bound (look n) (λ object. content_tokens p (value_tokens p look depth) object >>= λ content. Some (token.Open (shown_name p object.class) ∷ (content ++ token.Close ∷ []))) ts e in
      let b = bound (content_tokens p (value_tokens p look depth) a.x) (λ content. Some (token.Open (shown_name p a.x.class) ∷ (content ++ token.Close ∷ []))) ts a.gives in
      record { object = a.x; at = a.is; content = b.x; tokens = b.is; is = sym (some_is _ ts b.gives) }

  whole : (n : ℕ) (o : Object) → get h n ≡ Some o → is_whole_class p o.class ≡ true
  whole n o at = whole_content p of o.class.dims o.class.base o (heap.objects n o at)

  value_taken : (depth : ℕ) → TakesAll (value_tokens p look depth)
  value_taken depth (value.Int x) ty fit ts is s rest more e = leaf_taken (token.Int x) ty (λ s. refl) (ap (λ (z : Bool). eqb ty.dims 0 && z) (same_int ty.base x) ∙ fit) ts is s rest more e
  value_taken depth (value.Long x) ty fit ts is s rest more e = leaf_taken (token.Long x) ty (λ s. refl) (ap (λ (z : Bool). eqb ty.dims 0 && z) (same_long ty.base) ∙ fit) ts is s rest more e
  value_taken depth value.Null ty fit ts is s rest more e = leaf_taken token.Null ty (λ s. refl) (ap (λ (z : Bool). not (eqb ty.dims 0) || z) (same_class ty.base) ∙ fit) ts is s rest more e
  value_taken depth (value.Text units) ty fit ts is s rest more e = leaf_taken (token.Text units) ty (λ s. refl) (same_of p (named_type p (codes "java/lang/String")) ty ∙ fit) ts is s rest more e
  value_taken depth (value.Box box) ty fit ts is s rest more e = leaf_taken (token.Box box) ty (λ s. refl) (same_of p (named_type p (codes "kilim/Mailbox")) ty ∙ fit) ts is s rest more e
  value_taken depth value.Fiber ty fit ts is s rest more e = absurd (cc)
  value_taken zero (value.Ref n) ty fit ts is s rest more e = absurd (cc)
  value_taken (suc depth) (value.Ref n) ty fit ts is s rest more e =
      let o = opens depth n ts is in
      let class = heap.classes n o.object o.at in
      let formed = objects_formed p of h keeps plain heap n o.object o.at in
      let fits : fits_type p o.object.class ty ≡ true = sym (ap (λ (c : Option Ty). is_of p c ty) class) ∙ fit in
      let both = and_from (fits_type p o.object.class ty) (is_whole_class p o.object.class) fits (whole n o.object o.at) in
      let step : behind_token p s (token.Open (shown_name p o.object.class)) ≡ Some (content_types p o.object.class ∷ rest) =
      ap (λ (a : Option (Ty × List Awaits)). a >>= opened p (type_named p (shown_name p o.object.class))) e
      ∙ (ap (λ (c : Option Ty). opened p c (ty, rest)) formed.named ∙ ap (λ (z : Bool). cond z (Some (content_types p o.object.class ∷ rest)) None) both) in
      ap (λ (us : List Token). allowed_from p (Some s) (us ++ more)) o.is
      ∙ (ap (λ (a : Option (List Awaits)). allowed_from p a ((o.content ++ token.Close ∷ []) ++ more)) step
      ∙ (ap (λ (us : List Token). allowed_from p (Some (content_types p o.object.class ∷ rest)) us) (append_assoc o.content (token.Close ∷ []) more)
      ∙ content_taken (value_tokens p look depth) (value_taken depth) o.object.class.dims o.object.class.base o.object.fields o.object.elements (heap.objects n o.object o.at) (found n o.object o.at) o.content o.tokens rest more))

  -- ---- the root

  root_allowed : (depth : ℕ) (root : Root) (n : ℕ) (ty : Ty) (shape : List Token) → of n ≡ Some ty → is_root p root ty ≡ true → value_tokens p look depth (value.Ref n) ≡ Some shape → is_allowed p root shape ≡ true
  unfolding is_allowed
  root_allowed zero root n ty shape class is e = absurd (cc)
  root_allowed (suc depth) root n ty shape class is e =
      let o = opens depth n shape e in
      let own = heap.classes n o.object o.at in
      let same : ty ≡ o.object.class = some_is ty o.object.class (sym class ∙ own) in
      let formed = objects_formed p of h keeps plain heap n o.object o.at in
      let below = content_taken (value_tokens p look depth) (value_taken depth) o.object.class.dims o.object.class.base o.object.fields o.object.elements (heap.objects n o.object o.at) (found n o.object o.at) o.content o.tokens (Fields [] ∷ []) [] in
      ap (λ (us : List Token). is_allowed p root us) o.is
      ∙ (ap (λ (c : Option Ty). allowed_below p root c (o.content ++ token.Close ∷ [])) formed.named
      ∙ and_from (is_root p root o.object.class) _ (subst (λ (t : Ty). is_root p root t ≡ true) same is) (and_from (is_whole_class p o.object.class) _ (whole n o.object o.at) below))

pub trees_allowed : TreesAreAllowed
unfolding shape_by
trees_allowed p of h keeps plain heap root n ty shape class is e =
    let a = bound (value_tokens p (λ m. get h m) tree_limit (value.Ref n)) (λ tokens. cond (nat_le (count_by is_open tokens) tree_limit) (Some tokens) None) shape e in
    root_allowed p of h keeps plain heap tree_limit root n ty shape class is (a.is ∙ picked (nat_le (count_by is_open a.x) tree_limit) a.x a.gives)
  where
    picked : (z : Bool) (x : List Token) → cond z (Some x) None ≡ Some shape → Some x ≡ Some shape
    picked true x e = e
    picked false x e = absurd (cc)
