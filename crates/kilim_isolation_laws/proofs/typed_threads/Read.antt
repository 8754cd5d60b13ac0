-- What is built of a shape that the declared types allow fits them.
use Rattle.std.proofs.Common.{◌≡◌, ℕ, zero, suc, ◌+◌, ◌<◌, ℤ, Bool, true, false, cond, eqb, List, [], ◌∷◌, ◌++◌, length, filter, Option, Some, None, refl, sym, ap, subst, ◌∙◌, arith}
use Rattle.std.specs.Prelude.{◌&&◌, ◌||◌, not, ◌-◌, slice_get, codes, if◌then◌else◌}
use Rattle.std.specs.List.{list_all}
use Rattle.std.proofs.lemmas.Bool.{and_parts, and_from, lt-ltb, ne_eqb}
use Rattle.kilim_program.specs.declared.class.Class.{Class}
use Rattle.kilim_program.specs.declared.class.Field.{Field}
use Rattle.kilim_program.specs.declared.names.ClassId.{ClassId}
use Rattle.kilim_program.specs.declared.names.FieldId.{FieldId}
use Rattle.kilim_program.specs.declared.ty.Base.{Base}
use Rattle.kilim_program.specs.declared.ty.Base.TheVariants as base
use Rattle.kilim_program.specs.declared.ty.Ty.{Ty}
use Rattle.kilim_program.specs.declared.value.Value.{Value}
use Rattle.kilim_program.specs.declared.value.Value.TheVariants as value
use Rattle.kilim_program.specs.Program.{Program}
use Rattle.kilim_program.specs.Fits.{fits_type, is_reference_base}
use Rattle.kilim_program.specs.Keeps.{has_base, has_class}
use Rattle.kilim_program.specs.Kinds.{is_value_class}
use Rattle.kilim_program.specs.Names.{◌>>=◌, class_at, field_of}
use Rattle.kilim_run_state.specs.declared.value.Object.{Object}
use Rattle.kilim_run_state.specs.declared.value.Token.{Token}
use Rattle.kilim_run_state.specs.declared.value.Token.TheVariants as token
use Rattle.kilim_program.specs.Members.{named_type}
use Rattle.kilim_program.specs.Members.{is_concrete, is_instance_field, object_fields}
use Rattle.kilim_run_state.specs.Shapes.{fields_in_order}
use Rattle.kilim_run_state.specs.Trees.{Awaits, Fields, Elements, Read, Reads, Root, allowed_below, allowed_from, and_then, awaited, behind, behind_token, built, closed, content_types, field_types, is_allowed, is_class, is_long, is_root, is_whole_class, leaf, object_of, opened, read_value, read_values, root_alone, type_named, value_fits, with_keys}
use Rattle.kilim_run_state.specs.Trees as trees
use Rattle.kilim_type_sound.specs.Fits.{Classes, ContentFits, FieldFits, FieldsFit, ObjectFits, has_objects, is_long_base, is_of, is_value_of}
use Rattle.kilim_type_sound.specs.Fits as fits

-- ---- words of two definitions that are the same

same_int : (b : Base) (x : ℤ) → fits.int_fits b x ≡ trees.int_fits b x
same_int base.Bool x = refl
same_int base.Byte x = refl
same_int base.Char x = refl
same_int base.Short x = refl
same_int base.Int x = refl
same_int base.Long x = refl
same_int (base.Class c) x = refl

same_long : (b : Base) → is_long_base b ≡ is_long b
same_long base.Bool = refl
same_long base.Byte = refl
same_long base.Char = refl
same_long base.Short = refl
same_long base.Int = refl
same_long base.Long = refl
same_long (base.Class c) = refl

same_class : (b : Base) → is_reference_base b ≡ is_class b
same_class base.Bool = refl
same_class base.Byte = refl
same_class base.Char = refl
same_class base.Short = refl
same_class base.Int = refl
same_class base.Long = refl
same_class (base.Class c) = refl

same_of : (p : Program) (o : Option Ty) (ty : Ty) → is_of p o ty ≡ trees.is_of p o ty
same_of p None ty = refl
same_of p (Some c) ty = refl

some_is : {A : Type 0} (x y : A) → Some x ≡ Some y → x ≡ y
some_is x y e = cc

-- ---- objects under names

-- these names, one behind the other, are of the classes of these objects
abbrev pub Placed : Classes → ℕ → List Object → Type 0
Placed of base [] = Unit {0}
Placed of base (o ∷ os) = (of base ≡ Some o.class) × Placed of (suc base) os

abbrev pub AllFit : Program → Classes → List Object → Type 0
AllFit p of [] = Unit {0}
AllFit p of (o ∷ os) = ObjectFits p of o × AllFit p of os

placed_parts : (of : Classes) (base : ℕ) (os qs : List Object) → Placed of base (os ++ qs) → Placed of base os × Placed of (base + length os) qs
placed_parts of base [] qs e = (tt, subst (λ (k : ℕ). Placed of k qs) (let z : base ≡ base + 0 = omega arith in z) e)
placed_parts of base (o ∷ os) qs e =
    let rest = placed_parts of (suc base) os qs e.1 in
    ((e.0, rest.0), subst (λ (k : ℕ). Placed of k qs) (let z : suc base + length os ≡ base + suc (length os) = omega arith in z) rest.1)

all_fit : (p : Program) (of : Classes) (os qs : List Object) → AllFit p of os → AllFit p of qs → AllFit p of (os ++ qs)
all_fit p of [] qs a b = b
all_fit p of (o ∷ os) qs a b = (a.0, all_fit p of os qs a.1 b)

-- ---- an object of values of its types

picked_false : {A : Type 0} (z : Bool) (x y : A) → z ≡ false → cond z x y ≡ y
picked_false true x y e = absurd (cc)
picked_false false x y e = refl

no_zero : (d : ℕ) → eqb (suc d) 0 ≡ false
no_zero d = ne_eqb (suc d) 0 (λ e. omega (arith, e))

or_false : (a : Bool) → (a || false) ≡ true → a ≡ true
or_false true e = refl
or_false false e = e

less_of_some : {A : Type 0} (xs : List A) (k : ℕ) (x : A) → slice_get xs k ≡ Some x → k < length xs
less_of_some [] k x e = absurd (cc)
less_of_some (y ∷ xs) zero x e = omega arith
less_of_some (y ∷ xs) (suc k) x e = let h = less_of_some xs k x e in omega (arith, h)

kept_all : (test : FieldId → Bool) (fs : List FieldId) → list_all test (filter test fs) ≡ true
kept_all test [] = refl
kept_all test (f ∷ fs) = by (test f) refl (kept_all test fs)
  where
    by : (z : Bool) → test f ≡ z → list_all test (filter test fs) ≡ true → list_all test (cond z (f ∷ filter test fs) (filter test fs)) ≡ true
    by true e rest = and_from (test f) (list_all test (filter test fs)) e rest
    by false e rest = rest

module _ (p : Program) where
  -- values as an open object awaits them
  abbrev TakenAll : Classes → Awaits → List Value → Type 0
  TakenAll of (Fields []) [] = Unit {0}
  TakenAll of (Fields []) (v ∷ vs) = ⊥
  TakenAll of (Fields (ty ∷ tys)) [] = ⊥
  TakenAll of (Fields (ty ∷ tys)) (v ∷ vs) = (is_value_of p of ty v ≡ true) × TakenAll of (Fields tys) vs
  TakenAll of (Elements ty) vs = list_all (is_value_of p of ty) vs ≡ true

  fields_fit : (of : Classes) (fs : List FieldId) (vs : List Value) → list_all (is_instance_field p) fs ≡ true → TakenAll of (Fields (field_types p fs)) vs → FieldsFit p of fs (with_keys fs vs)
  fields_fit of [] vs all e = tt
  fields_fit of (f ∷ fs) vs all e =
      let parts = and_parts (is_instance_field p f) (list_all (is_instance_field p) fs) all in
      by (field_of p f) refl vs parts.0 e (λ others rest. fields_fit of fs others parts.1 rest)
    where
      by : (o : Option Field) → field_of p f ≡ o → (vs : List Value) → (elim o [ None ↦ false | Some field ↦ not field.is_static ]) ≡ true → TakenAll of (Fields (elim o [ None ↦ field_types p fs | Some field ↦ field.ty ∷ field_types p fs ])) vs →
          ((vs : List Value) → TakenAll of (Fields (field_types p fs)) vs → FieldsFit p of fs (with_keys fs vs)) → FieldsFit p of (f ∷ fs) (with_keys (f ∷ fs) vs)
      by None is vs own e others = absurd (cc)
      by (Some field) is [] own e others = absurd e
      by (Some field) is (v ∷ vs) own e others = (refl, subst (λ (o : Option Field). FieldFits p of o v) (sym is) e.0, others vs e.1)

  pub whole_objects : (c : ClassId) → is_whole_class p (record { dims = 0; base = base.Class c }) ≡ true → has_objects p c ≡ true
  whole_objects c e = by (class_at p c) e
    where
      by : (o : Option Class) → (elim o [ None ↦ false | Some class ↦ (not class.is_abstract && not (is_value_class class.name)) || not (eqb 0 0) ]) ≡ true →
          (is_concrete o && not (is_value_class (elim o [ None ↦ [] | Some class ↦ class.name ]))) ≡ true
      by None e = e
      by (Some class) e = or_false (not class.is_abstract && not (is_value_class class.name)) e

  whole_base : (d : ℕ) (b : Base) → is_whole_class p (record { dims = suc d; base = b }) ≡ true → has_base p b ≡ true
  whole_base d (base.Class c) e = by (class_at p c) refl e
    where
      by : (o : Option Class) → class_at p c ≡ o → (elim o [ None ↦ false | Some class ↦ (not class.is_abstract && not (is_value_class class.name)) || not (eqb (suc d) 0) ]) ≡ true → has_class p c ≡ true
      by None is e = absurd (cc)
      by (Some class) is e = lt-ltb c.0 (length p.classes) (less_of_some p.classes c.0 class is)
  whole_base d base.Bool e = refl
  whole_base d base.Byte e = refl
  whole_base d base.Char e = refl
  whole_base d base.Short e = refl
  whole_base d base.Int e = refl
  whole_base d base.Long e = refl

  class_kept : (z : Bool) (ty : Ty) (vs : List Value) → (cond {A = Object} z (record { class = ty; fields = with_keys (fields_in_order p ty.base) vs; elements = [] }) (record { class = ty; fields = []; elements = vs })).class ≡ ty
  class_kept true ty vs = refl
  class_kept false ty vs = refl

  class_of_made : (ty : Ty) (vs : List Value) → (object_of p ty vs).class ≡ ty
  class_of_made ty vs = class_kept (eqb ty.dims 0) ty vs

  array_made : (d : ℕ) (b : Base) (vs : List Value) → object_of p (record { dims = suc d; base = b }) vs ≡ record { class = record { dims = suc d; base = b }; fields = []; elements = vs }
  array_made d b vs = picked_false (eqb (suc d) 0) (record { class = record { dims = suc d; base = b }; fields = with_keys (fields_in_order p b) vs; elements = [] }) (record { class = record { dims = suc d; base = b }; fields = []; elements = vs }) (no_zero d)

  array_types : (d : ℕ) (b : Base) → content_types p (record { dims = suc d; base = b }) ≡ Elements (record { dims = d; base = b })
  array_types d b =
      picked_false (eqb (suc d) 0) (Fields (field_types p (fields_in_order p b))) (Elements (record { dims = suc d - 1; base = b })) (no_zero d)
      ∙ ap (λ (n : ℕ). Elements (record { dims = n; base = b })) (let n : suc d - 1 ≡ d = omega arith in n)

  made_fits : (of : Classes) (d : ℕ) (b : Base) (vs : List Value) → is_whole_class p (record { dims = d; base = b }) ≡ true → TakenAll of (content_types p (record { dims = d; base = b })) vs → ObjectFits p of (object_of p (record { dims = d; base = b }) vs)
  made_fits of zero (base.Class c) vs whole e = (whole_objects c whole, fields_fit of (object_fields p c) vs (kept_all (is_instance_field p) _) e, refl)
  made_fits of (suc d) b vs whole e =
      subst (λ (o : Object). ObjectFits p of o) (sym (array_made d b vs)) (refl, subst (λ (a : Awaits). TakenAll of a vs) (array_types d b) e, whole_base d b whole)
  made_fits of zero base.Bool vs whole e = absurd (cc)
  made_fits of zero base.Byte vs whole e = absurd (cc)
  made_fits of zero base.Char vs whole e = absurd (cc)
  made_fits of zero base.Short vs whole e = absurd (cc)
  made_fits of zero base.Int vs whole e = absurd (cc)
  made_fits of zero base.Long vs whole e = absurd (cc)

  -- ---- reading

  not_none : (ts : List Token) → allowed_from p None ts ≡ true → ⊥
  not_none ts e = cc

  record ValueCame (base : ℕ) (ty : Ty) (after : List Awaits) (read : Read) : Type 0 where
    goes : allowed_from p (Some after) read.rest ≡ true
    fits : (of : Classes) → Placed of base read.objects → (is_value_of p of ty read.value ≡ true) × AllFit p of read.objects

  record ValuesCame (base : ℕ) (a : Awaits) (rest : List Awaits) (reads : Reads) : Type 0 where
    goes : allowed_from p (Some rest) reads.rest ≡ true
    fits : (of : Classes) → Placed of base reads.objects → TakenAll of a reads.values × AllFit p of reads.objects

  abbrev ValueComes : ℕ → Type 0
  ValueComes fuel = (base : ℕ) (ts : List Token) (s after : List Awaits) (ty : Ty) (read : Read) → awaited s ≡ Some (ty, after) → allowed_from p (Some s) ts ≡ true → read_value p fuel base ts ≡ Some read → ValueCame base ty after read

  abbrev ValuesCome : ℕ → Type 0
  ValuesCome fuel = (base : ℕ) (ts : List Token) (a : Awaits) (rest : List Awaits) (reads : Reads) → allowed_from p (Some (a ∷ rest)) ts ≡ true → read_values p fuel base ts ≡ Some reads → ValuesCame base a rest reads

  -- a value that is no object
  leaf_came : (base : ℕ) (t : Token) (v : Value) (ts : List Token) (s after : List Awaits) (ty : Ty) (read : Read) → awaited s ≡ Some (ty, after) →
      allowed_from p (awaited s >>= λ (next : Ty × List Awaits). if value_fits p next.0 t then Some next.1 else None) ts ≡ true → leaf v ts ≡ Some read → ((of : Classes) → value_fits p ty t ≡ true → is_value_of p of ty v ≡ true) → ValueCame base ty after read
  leaf_came base t v ts s after ty read at e is typed =
      by (value_fits p ty t) refl (sym (ap (λ (o : Option (Ty × List Awaits)). allowed_from p (o >>= λ (next : Ty × List Awaits). if value_fits p next.0 t then Some next.1 else None) ts) at) ∙ e)
    where
      by : (z : Bool) → value_fits p ty t ≡ z → allowed_from p (cond z (Some after) None) ts ≡ true → ValueCame base ty after read
      by true fit e = subst (λ (r : Read). ValueCame base ty after r) (some_is _ read is) (record { goes = e; fits = λ of placed. (typed of fit, tt) })
      by false fit e = absurd (not_none ts e)

  -- an object
  object_came : (fuel base : ℕ) → ValuesCome fuel → (name : List ℕ) (ts : List Token) (after : List Awaits) (ty : Ty) (read : Read) (o : Option Ty) → type_named p name ≡ o → allowed_from p (opened p o (ty, after)) ts ≡ true →
      closed p base o (read_values p fuel (suc base) ts) ≡ Some read → ValueCame base ty after read
  object_came fuel base values name ts after ty read None named e is = absurd (not_none ts e)
  object_came fuel base values name ts after ty read (Some found) named e is = by (fits_type p found ty && is_whole_class p found) refl (read_values p fuel (suc base) ts) refl e is
    where
      by : (z : Bool) → (fits_type p found ty && is_whole_class p found) ≡ z → (r : Option Reads) → read_values p fuel (suc base) ts ≡ r → allowed_from p (cond z (Some (content_types p found ∷ after)) None) ts ≡ true →
          closed p base (Some found) r ≡ Some read → ValueCame base ty after read
      by false both r rs e is = absurd (not_none ts e)
      by true both None rs e is = absurd (cc)
      by true both (Some reads) rs e is =
          let parts = and_parts (fits_type p found ty) (is_whole_class p found) both in
          let below = values (suc base) ts (content_types p found) after reads e rs in
          subst (λ (r : Read). ValueCame base ty after r) (some_is _ read is) (record {
            goes = below.goes;
            fits = λ of placed.
                let inner = below.fits of placed.1 in (
                  ap (λ (k : Option Ty). is_of p k ty) (placed.0 ∙ ap (λ (c : Ty). Some c) (class_of_made found reads.values)) ∙ parts.0,
                  (made_fits of found.dims found.base reads.values parts.1 inner.0, inner.1),
                );
          })

  value_step : (fuel : ℕ) → ValuesCome fuel → ValueComes (suc fuel)
  value_step fuel values base [] s after ty read at e is = absurd (cc)
  value_step fuel values base (token.Close ∷ ts) s after ty read at e is = absurd (cc)
  value_step fuel values base (token.Int x ∷ ts) s after ty read at e is = leaf_came base (token.Int x) (value.Int x) ts s after ty read at e is (λ of fit. ap (λ (z : Bool). eqb ty.dims 0 && z) (same_int ty.base x) ∙ fit)
  value_step fuel values base (token.Long x ∷ ts) s after ty read at e is = leaf_came base (token.Long x) (value.Long x) ts s after ty read at e is (λ of fit. ap (λ (z : Bool). eqb ty.dims 0 && z) (same_long ty.base) ∙ fit)
  value_step fuel values base (token.Null ∷ ts) s after ty read at e is = leaf_came base token.Null value.Null ts s after ty read at e is (λ of fit. ap (λ (z : Bool). not (eqb ty.dims 0) || z) (same_class ty.base) ∙ fit)
  value_step fuel values base (token.Text units ∷ ts) s after ty read at e is = leaf_came base (token.Text units) (value.Text units) ts s after ty read at e is (λ of fit. same_of p (named_type p (codes "java/lang/String")) ty ∙ fit)
  value_step fuel values base (token.Box box ∷ ts) s after ty read at e is = leaf_came base (token.Box box) (value.Box box) ts s after ty read at e is (λ of fit. same_of p (named_type p (codes "kilim/Mailbox")) ty ∙ fit)
  value_step fuel values base (token.Open name ∷ ts) s after ty read at e is =
      object_came fuel base values name ts after ty read (type_named p name) refl (sym (ap (λ (o : Option (Ty × List Awaits)). allowed_from p (o >>= opened p (type_named p name)) ts) at) ∙ e) is

  -- up to the close
  close_came : (base : ℕ) (ts : List Token) (a : Awaits) (rest : List Awaits) (reads : Reads) → allowed_from p (behind_token p (a ∷ rest) token.Close) ts ≡ true → Some (record { values = []; objects = []; rest = ts }) ≡ Some reads → ValuesCame base a rest reads
  close_came base ts (Fields []) rest reads e is = subst (λ (r : Reads). ValuesCame base (Fields []) rest r) (some_is _ reads is) (record { goes = e; fits = λ of placed. (tt, tt) })
  close_came base ts (Fields (ty ∷ tys)) rest reads e is = absurd (not_none ts e)
  close_came base ts (Elements ty) rest reads e is = subst (λ (r : Reads). ValuesCame base (Elements ty) rest r) (some_is _ reads is) (record { goes = e; fits = λ of placed. (refl, tt) })

  -- one more value
  more_came : (fuel base : ℕ) → ValueComes fuel → ValuesCome fuel → (ts : List Token) (a b : Awaits) (ty : Ty) (rest : List Awaits) (reads : Reads) → awaited (a ∷ rest) ≡ Some (ty, b ∷ rest) →
      ((of : Classes) (v : Value) (vs : List Value) → is_value_of p of ty v ≡ true → TakenAll of b vs → TakenAll of a (v ∷ vs)) → allowed_from p (Some (a ∷ rest)) ts ≡ true →
      and_then (read_value p fuel base ts) (λ first. read_values p fuel (base + length first.objects) first.rest) ≡ Some reads → ValuesCame base a rest reads
  more_came fuel base one many ts a b ty rest reads at join e is = by (read_value p fuel base ts) refl is
    where
      next : (first : Read) → ValueCame base ty (b ∷ rest) first → (o : Option Reads) → read_values p fuel (base + length first.objects) first.rest ≡ o → behind first o ≡ Some reads → ValuesCame base a rest reads
      next first came None r is = absurd (cc)
      next first came (Some others) r is =
          let later = many (base + length first.objects) first.rest b rest others came.goes r in
          subst (λ (x : Reads). ValuesCame base a rest x) (some_is _ reads is) (record {
            goes = later.goes;
            fits = λ of placed.
                let parts = placed_parts of base first.objects others.objects placed in
                let f = came.fits of parts.0 in
                let g = later.fits of parts.1 in
                (join of first.value others.values f.0 g.0, all_fit p of first.objects others.objects f.1 g.1);
          })

      by : (o : Option Read) → read_value p fuel base ts ≡ o → and_then o (λ first. read_values p fuel (base + length first.objects) first.rest) ≡ Some reads → ValuesCame base a rest reads
      by None r is = absurd (cc)
      by (Some first) r is = next first (one base ts (a ∷ rest) (b ∷ rest) ty first at e r) (read_values p fuel (base + length first.objects) first.rest) refl is

  some_came : (fuel base : ℕ) → ValueComes fuel → ValuesCome fuel → (t : Token) (ts : List Token) (a : Awaits) (rest : List Awaits) (reads : Reads) → (allowed_from p (behind_token p (Fields [] ∷ rest) t) ts ≡ true → ⊥) → allowed_from p (Some (a ∷ rest)) (t ∷ ts) ≡ true →
      and_then (read_value p fuel base (t ∷ ts)) (λ first. read_values p fuel (base + length first.objects) first.rest) ≡ Some reads → ValuesCame base a rest reads
  some_came fuel base one many t ts (Fields []) rest reads none e is = absurd (none e)
  some_came fuel base one many t ts (Fields (ty ∷ tys)) rest reads none e is = more_came fuel base one many (t ∷ ts) (Fields (ty ∷ tys)) (Fields tys) ty rest reads refl (λ of v vs f g. (f, g)) e is
  some_came fuel base one many t ts (Elements ty) rest reads none e is = more_came fuel base one many (t ∷ ts) (Elements ty) (Elements ty) ty rest reads refl (λ of v vs f g. and_from (is_value_of p of ty v) (list_all (is_value_of p of ty) vs) f g) e is

  values_step : (fuel : ℕ) → ValueComes fuel → ValuesCome fuel → ValuesCome (suc fuel)
  values_step fuel one many base [] a rest reads e is = absurd (cc)
  values_step fuel one many base (token.Close ∷ ts) a rest reads e is = close_came base ts a rest reads e is
  values_step fuel one many base (token.Int x ∷ ts) a rest reads e is = some_came fuel base one many (token.Int x) ts a rest reads (not_none ts) e is
  values_step fuel one many base (token.Long x ∷ ts) a rest reads e is = some_came fuel base one many (token.Long x) ts a rest reads (not_none ts) e is
  values_step fuel one many base (token.Null ∷ ts) a rest reads e is = some_came fuel base one many token.Null ts a rest reads (not_none ts) e is
  values_step fuel one many base (token.Text units ∷ ts) a rest reads e is = some_came fuel base one many (token.Text units) ts a rest reads (not_none ts) e is
  values_step fuel one many base (token.Box box ∷ ts) a rest reads e is = some_came fuel base one many (token.Box box) ts a rest reads (not_none ts) e is
  values_step fuel one many base (token.Open name ∷ ts) a rest reads e is = some_came fuel base one many (token.Open name) ts a rest reads (not_none ts) e is

  comes : (fuel : ℕ) → ValueComes fuel × ValuesCome fuel
  comes zero = ((λ base ts s after ty read at e is. absurd (cc)), (λ base ts a rest reads e is. absurd (cc)))
  comes (suc fuel) = let before = comes fuel in (value_step fuel before.1, values_step fuel before.0 before.1)

  -- ---- the tree

  -- the root, of a class of that kind that has objects, and all objects of its tree
  pub record IsBuilt (root : Root) (base : ℕ) (objects : List Object) : Type 0 where
    pub ty : Ty
    pub first : Object
    pub rest : List Object
    pub is : objects ≡ first ∷ rest
    pub class : first.class ≡ ty
    pub kind : is_root p root ty ≡ true
    pub whole : is_whole_class p ty ≡ true
    pub fits : (of : Classes) → Placed of base objects → AllFit p of objects

  root_built : (root : Root) (base fuel : ℕ) (ts : List Token) (objects : List Object) (o : Option Ty) → allowed_below p root o ts ≡ true → root_alone (closed p base o (read_values p fuel (suc base) ts)) ≡ Some objects → IsBuilt root base objects
  root_built root base fuel ts objects None e is = absurd (cc)
  root_built root base fuel ts objects (Some ty) e is = by (read_values p fuel (suc base) ts) refl is
    where
      by : (r : Option Reads) → read_values p fuel (suc base) ts ≡ r → root_alone (closed p base (Some ty) r) ≡ Some objects → IsBuilt root base objects
      by None rs is = absurd (cc)
      by (Some reads) rs is =
          let a = and_parts (is_root p root ty) _ e in
          let b = and_parts (is_whole_class p ty) _ a.1 in
          let below = (comes fuel).1 (suc base) ts (content_types p ty) (Fields [] ∷ []) reads b.1 rs in
          subst (λ (os : List Object). IsBuilt root base os) (some_is _ objects is) (record {
            ty = ty;
            first = object_of p ty reads.values;
            rest = reads.objects;
            is = refl;
            class = class_of_made ty reads.values;
            kind = a.0;
            whole = b.0;
            fits = λ of placed. let inner = below.fits of placed.1 in (made_fits of ty.dims ty.base reads.values b.0 inner.0, inner.1);
          })

  built_by : (root : Root) (base : ℕ) (shape : List Token) (objects : List Object) → is_allowed p root shape ≡ true → root_alone (read_value p (suc (length shape)) base shape) ≡ Some objects → IsBuilt root base objects
  unfolding is_allowed
  built_by root base (token.Open name ∷ ts) objects e is = root_built root base (length (token.Open name ∷ ts)) ts objects (type_named p name) e is
  built_by root base [] objects e is = absurd (cc)
  built_by root base (token.Close ∷ ts) objects e is = absurd (cc)
  built_by root base (token.Int n ∷ ts) objects e is = absurd (cc)
  built_by root base (token.Long n ∷ ts) objects e is = absurd (cc)
  built_by root base (token.Null ∷ ts) objects e is = absurd (cc)
  built_by root base (token.Text units ∷ ts) objects e is = absurd (cc)
  built_by root base (token.Box box ∷ ts) objects e is = absurd (cc)

  pub built_is : (root : Root) (base : ℕ) (shape : List Token) (objects : List Object) → built p root base shape ≡ Some objects → IsBuilt root base objects
  unfolding built
  built_is root base shape objects e = by (is_allowed p root shape) refl e
    where
      by : (z : Bool) → is_allowed p root shape ≡ z → cond z (root_alone (read_value p (suc (length shape)) base shape)) None ≡ Some objects → IsBuilt root base objects
      by true ok e = built_by root base shape objects ok e
      by false ok e = absurd (cc)
