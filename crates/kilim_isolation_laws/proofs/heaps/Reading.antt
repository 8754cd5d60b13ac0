-- What holds of values and objects that are read of a shape that the declared types allow, by induction: it holds of each value
-- that is no object, of an object of what its content is, and of one value more.
use Rattle.std.proofs.Common.{◌≡◌, ℕ, zero, suc, ◌+◌, Bool, true, false, cond, List, [], ◌∷◌, ◌++◌, length, Option, Some, None, refl, sym, ap, subst, ◌∙◌}
use Rattle.std.specs.Prelude.{◌&&◌, if◌then◌else◌}
use Rattle.std.proofs.lemmas.Bool.{and_parts}
use Rattle.kilim_program.specs.declared.ty.Ty.{Ty}
use Rattle.kilim_program.specs.declared.value.Value.{Value}
use Rattle.kilim_program.specs.declared.value.Value.TheVariants as value
use Rattle.kilim_program.specs.Fits.{fits_type}
use Rattle.kilim_program.specs.Names.{◌>>=◌}
use Rattle.kilim_program.specs.Program.{Program}
use Rattle.kilim_run_state.specs.declared.value.Object.{Object}
use Rattle.kilim_run_state.specs.declared.value.Token.{Token}
use Rattle.kilim_run_state.specs.declared.value.Token.TheVariants as token
use Rattle.kilim_run_state.specs.Trees.{Awaits, Fields, Elements, Read, Reads, Root, allowed_below, allowed_from, and_then, awaited, behind, behind_token, built, closed, content_types, is_allowed, is_root, is_whole_class, leaf, object_of, opened, read_value, read_values, root_alone, type_named, value_fits}

some_is : {A : Type 0} (x y : A) → Some x ≡ Some y → x ≡ y
some_is x y e = cc

-- a token that is a value, and no object
abbrev pub IsLeaf : Token → Value → Type 0
IsLeaf (token.Int x) v = v ≡ value.Int x
IsLeaf (token.Long x) v = v ≡ value.Long x
IsLeaf token.Null v = v ≡ value.Null
IsLeaf (token.Text units) v = v ≡ value.Text units
IsLeaf (token.Box box) v = v ≡ value.Box box
IsLeaf t v = ⊥

module _ (p : Program) (One : ℕ → Ty → Value → List Object → Type 0) (Many : ℕ → Awaits → List Value → List Object → Type 0)
    (leaves : (base : ℕ) (ty : Ty) (t : Token) (v : Value) → IsLeaf t v → value_fits p ty t ≡ true → One base ty v [])
    (opens : (base : ℕ) (ty found : Ty) (vs : List Value) (os : List Object) → fits_type p found ty ≡ true → is_whole_class p found ≡ true → Many (suc base) (content_types p found) vs os → One base ty (value.Ref base) (object_of p found vs ∷ os))
    (no_fields : (base : ℕ) → Many base (Fields []) [] []) (no_elements : (base : ℕ) (ty : Ty) → Many base (Elements ty) [] [])
    (fields : (base : ℕ) (ty : Ty) (tys : List Ty) (v : Value) (vs : List Value) (os qs : List Object) → One base ty v os → Many (base + length os) (Fields tys) vs qs → Many base (Fields (ty ∷ tys)) (v ∷ vs) (os ++ qs))
    (elements : (base : ℕ) (ty : Ty) (v : Value) (vs : List Value) (os qs : List Object) → One base ty v os → Many (base + length os) (Elements ty) vs qs → Many base (Elements ty) (v ∷ vs) (os ++ qs)) where
  not_none : (ts : List Token) → allowed_from p None ts ≡ true → ⊥
  not_none ts e = cc

  record ValueCame (base : ℕ) (ty : Ty) (after : List Awaits) (read : Read) : Type 0 where
    goes : allowed_from p (Some after) read.rest ≡ true
    holds : One base ty read.value read.objects

  record ValuesCame (base : ℕ) (a : Awaits) (rest : List Awaits) (reads : Reads) : Type 0 where
    goes : allowed_from p (Some rest) reads.rest ≡ true
    holds : Many base a reads.values reads.objects

  abbrev ValueComes : ℕ → Type 0
  ValueComes fuel = (base : ℕ) (ts : List Token) (s after : List Awaits) (ty : Ty) (read : Read) → awaited s ≡ Some (ty, after) → allowed_from p (Some s) ts ≡ true → read_value p fuel base ts ≡ Some read → ValueCame base ty after read

  abbrev ValuesCome : ℕ → Type 0
  ValuesCome fuel = (base : ℕ) (ts : List Token) (a : Awaits) (rest : List Awaits) (reads : Reads) → allowed_from p (Some (a ∷ rest)) ts ≡ true → read_values p fuel base ts ≡ Some reads → ValuesCame base a rest reads

  -- ---- one value

  leaf_came : (base : ℕ) (t : Token) (v : Value) (ts : List Token) (s after : List Awaits) (ty : Ty) (read : Read) → IsLeaf t v → awaited s ≡ Some (ty, after) →
      allowed_from p (awaited s >>= λ (next : Ty × List Awaits). if value_fits p next.0 t then Some next.1 else None) ts ≡ true → leaf v ts ≡ Some read → ValueCame base ty after read
  leaf_came base t v ts s after ty read same at e is =
      by (value_fits p ty t) refl (sym (ap (λ (o : Option (Ty × List Awaits)). allowed_from p (o >>= λ (next : Ty × List Awaits). if value_fits p next.0 t then Some next.1 else None) ts) at) ∙ e)
    where
      by : (z : Bool) → value_fits p ty t ≡ z → allowed_from p (cond z (Some after) None) ts ≡ true → ValueCame base ty after read
      by true fit e = subst (λ (r : Read). ValueCame base ty after r) (some_is _ read is) (record { goes = e; holds = leaves base ty t v same fit })
      by false fit e = absurd (not_none ts e)

  object_came : (fuel base : ℕ) → ValuesCome fuel → (ts : List Token) (after : List Awaits) (ty : Ty) (read : Read) (o : Option Ty) → allowed_from p (opened p o (ty, after)) ts ≡ true →
      closed p base o (read_values p fuel (suc base) ts) ≡ Some read → ValueCame base ty after read
  object_came fuel base values ts after ty read None e is = absurd (not_none ts e)
  object_came fuel base values ts after ty read (Some found) e is = by (fits_type p found ty && is_whole_class p found) refl (read_values p fuel (suc base) ts) refl e is
    where
      by : (z : Bool) → (fits_type p found ty && is_whole_class p found) ≡ z → (r : Option Reads) → read_values p fuel (suc base) ts ≡ r → allowed_from p (cond z (Some (content_types p found ∷ after)) None) ts ≡ true →
          closed p base (Some found) r ≡ Some read → ValueCame base ty after read
      by false both r rs e is = absurd (not_none ts e)
      by true both None rs e is = absurd (cc)
      by true both (Some reads) rs e is =
          let parts = and_parts (fits_type p found ty) (is_whole_class p found) both in
          let below = values (suc base) ts (content_types p found) after reads e rs in
          subst (λ (r : Read). ValueCame base ty after r) (some_is _ read is) (record { goes = below.goes; holds = opens base ty found reads.values reads.objects parts.0 parts.1 below.holds })

  value_step : (fuel : ℕ) → ValuesCome fuel → ValueComes (suc fuel)
  value_step fuel values base [] s after ty read at e is = absurd (cc)
  value_step fuel values base (token.Close ∷ ts) s after ty read at e is = absurd (cc)
  value_step fuel values base (token.Int x ∷ ts) s after ty read at e is = leaf_came base (token.Int x) (value.Int x) ts s after ty read refl at e is
  value_step fuel values base (token.Long x ∷ ts) s after ty read at e is = leaf_came base (token.Long x) (value.Long x) ts s after ty read refl at e is
  value_step fuel values base (token.Null ∷ ts) s after ty read at e is = leaf_came base token.Null value.Null ts s after ty read refl at e is
  value_step fuel values base (token.Text units ∷ ts) s after ty read at e is = leaf_came base (token.Text units) (value.Text units) ts s after ty read refl at e is
  value_step fuel values base (token.Box box ∷ ts) s after ty read at e is = leaf_came base (token.Box box) (value.Box box) ts s after ty read refl at e is
  value_step fuel values base (token.Open name ∷ ts) s after ty read at e is =
      object_came fuel base values ts after ty read (type_named p name) (sym (ap (λ (o : Option (Ty × List Awaits)). allowed_from p (o >>= opened p (type_named p name)) ts) at) ∙ e) is

  -- ---- values up to the close

  close_came : (base : ℕ) (ts : List Token) (a : Awaits) (rest : List Awaits) (reads : Reads) → allowed_from p (behind_token p (a ∷ rest) token.Close) ts ≡ true → Some (record { values = []; objects = []; rest = ts }) ≡ Some reads → ValuesCame base a rest reads
  close_came base ts (Fields []) rest reads e is = subst (λ (r : Reads). ValuesCame base (Fields []) rest r) (some_is _ reads is) (record { goes = e; holds = no_fields base })
  close_came base ts (Fields (ty ∷ tys)) rest reads e is = absurd (not_none ts e)
  close_came base ts (Elements ty) rest reads e is = subst (λ (r : Reads). ValuesCame base (Elements ty) rest r) (some_is _ reads is) (record { goes = e; holds = no_elements base ty })

  more_came : (fuel base : ℕ) → ValueComes fuel → ValuesCome fuel → (ts : List Token) (a b : Awaits) (ty : Ty) (rest : List Awaits) (reads : Reads) → awaited (a ∷ rest) ≡ Some (ty, b ∷ rest) →
      ((v : Value) (vs : List Value) (os qs : List Object) → One base ty v os → Many (base + length os) b vs qs → Many base a (v ∷ vs) (os ++ qs)) → allowed_from p (Some (a ∷ rest)) ts ≡ true →
      and_then (read_value p fuel base ts) (λ first. read_values p fuel (base + length first.objects) first.rest) ≡ Some reads → ValuesCame base a rest reads
  more_came fuel base one many ts a b ty rest reads at join e is = by (read_value p fuel base ts) refl is
    where
      next : (first : Read) → ValueCame base ty (b ∷ rest) first → (o : Option Reads) → read_values p fuel (base + length first.objects) first.rest ≡ o → behind first o ≡ Some reads → ValuesCame base a rest reads
      next first came None r is = absurd (cc)
      next first came (Some others) r is =
          let later = many (base + length first.objects) first.rest b rest others came.goes r in
          subst (λ (x : Reads). ValuesCame base a rest x) (some_is _ reads is) (record { goes = later.goes; holds = join first.value others.values first.objects others.objects came.holds later.holds })

      by : (o : Option Read) → read_value p fuel base ts ≡ o → and_then o (λ first. read_values p fuel (base + length first.objects) first.rest) ≡ Some reads → ValuesCame base a rest reads
      by None r is = absurd (cc)
      by (Some first) r is = next first (one base ts (a ∷ rest) (b ∷ rest) ty first at e r) (read_values p fuel (base + length first.objects) first.rest) refl is

  some_came : (fuel base : ℕ) → ValueComes fuel → ValuesCome fuel → (t : Token) (ts : List Token) (a : Awaits) (rest : List Awaits) (reads : Reads) → (allowed_from p (behind_token p (Fields [] ∷ rest) t) ts ≡ true → ⊥) → allowed_from p (Some (a ∷ rest)) (t ∷ ts) ≡ true →
      and_then (read_value p fuel base (t ∷ ts)) (λ first. read_values p fuel (base + length first.objects) first.rest) ≡ Some reads → ValuesCame base a rest reads
  some_came fuel base one many t ts (Fields []) rest reads none e is = absurd (none e)
  some_came fuel base one many t ts (Fields (ty ∷ tys)) rest reads none e is =
      more_came fuel base one many (t ∷ ts) (Fields (ty ∷ tys)) (Fields tys) ty rest reads refl (λ v vs os qs f g. fields base ty tys v vs os qs f g) e is
  some_came fuel base one many t ts (Elements ty) rest reads none e is = more_came fuel base one many (t ∷ ts) (Elements ty) (Elements ty) ty rest reads refl (λ v vs os qs f g. elements base ty v vs os qs f g) e is

  values_step : (fuel : ℕ) → ValueComes fuel → ValuesCome fuel → ValuesCome (suc fuel)
  values_step fuel one many base [] a rest reads e is = absurd (cc)
  values_step fuel one many base (token.Close ∷ ts) a rest reads e is = close_came base ts a rest reads e is
  values_step fuel one many base (token.Int x ∷ ts) a rest reads e is = some_came fuel base one many (token.Int x) ts a rest reads (not_none ts) e is
  values_step fuel one many base (token.Long x ∷ ts) a rest reads e is = some_came fuel base one many (token.Long x) ts a rest reads (not_none ts) e is
  values_step fuel one many base (token.Null ∷ ts) a rest reads e is = some_came fuel base one many token.Null ts a rest reads (not_none ts) e is
  values_step fuel one many base (token.Text units ∷ ts) a rest reads e is = some_came fuel base one many (token.Text units) ts a rest reads (not_none ts) e is
  values_step fuel one many base (token.Box box ∷ ts) a rest reads e is = some_came fuel base one many (token.Box box) ts a rest reads (not_none ts) e is
  values_step fuel one many base (token.Open name ∷ ts) a rest reads e is = some_came fuel base one many (token.Open name) ts a rest reads (not_none ts) e is

  comes : (fuel : ℕ) → ValueComes fuel × ValuesCome fuel
  comes zero = ((λ base ts s after ty read at e is. absurd (cc)), (λ base ts a rest reads e is. absurd (cc)))
  comes (suc fuel) = let before = comes fuel in (value_step fuel before.1, values_step fuel before.0 before.1)

  -- ---- the tree

  -- the root, of a class of that kind that has objects, and what holds of its content
  pub record IsBuilt (root : Root) (base : ℕ) (objects : List Object) : Type 0 where
    pub ty : Ty
    pub values : List Value
    pub rest : List Object
    pub is : objects ≡ object_of p ty values ∷ rest
    pub kind : is_root p root ty ≡ true
    pub whole : is_whole_class p ty ≡ true
    pub holds : Many (suc base) (content_types p ty) values rest

  root_built : (root : Root) (base fuel : ℕ) (ts : List Token) (objects : List Object) (o : Option Ty) → allowed_below p root o ts ≡ true → root_alone (closed p base o (read_values p fuel (suc base) ts)) ≡ Some objects → IsBuilt root base objects
  root_built root base fuel ts objects None e is = absurd (cc)
  root_built root base fuel ts objects (Some ty) e is = by (read_values p fuel (suc base) ts) refl is
    where
      by : (r : Option Reads) → read_values p fuel (suc base) ts ≡ r → root_alone (closed p base (Some ty) r) ≡ Some objects → IsBuilt root base objects
      by None rs is = absurd (cc)
      by (Some reads) rs is =
          let a = and_parts (is_root p root ty) _ e in
          let b = and_parts (is_whole_class p ty) _ a.1 in
          let below = (comes fuel).1 (suc base) ts (content_types p ty) (Fields [] ∷ []) reads b.1 rs in
          record { ty = ty; values = reads.values; rest = reads.objects; is = sym (some_is _ objects is); kind = a.0; whole = b.0; holds = below.holds }

  built_by : (root : Root) (base : ℕ) (shape : List Token) (objects : List Object) → is_allowed p root shape ≡ true → root_alone (read_value p (suc (length shape)) base shape) ≡ Some objects → IsBuilt root base objects
  unfolding is_allowed
  built_by root base (token.Open name ∷ ts) objects e is = root_built root base (length (token.Open name ∷ ts)) ts objects (type_named p name) e is
  built_by root base [] objects e is = absurd (cc)
  built_by root base (token.Close ∷ ts) objects e is = absurd (cc)
  built_by root base (token.Int n ∷ ts) objects e is = absurd (cc)
  built_by root base (token.Long n ∷ ts) objects e is = absurd (cc)
  built_by root base (token.Null ∷ ts) objects e is = absurd (cc)
  built_by root base (token.Text units ∷ ts) objects e is = absurd (cc)
  built_by root base (token.Box box ∷ ts) objects e is = absurd (cc)

  pub built_is : (root : Root) (base : ℕ) (shape : List Token) (objects : List Object) → built p root base shape ≡ Some objects → IsBuilt root base objects
  unfolding built
  built_is root base shape objects e = by (is_allowed p root shape) refl e
    where
      by : (z : Bool) → is_allowed p root shape ≡ z → cond z (root_alone (read_value p (suc (length shape)) base shape)) None ≡ Some objects → IsBuilt root base objects
      by true ok e = built_by root base shape objects ok e
      by false ok e = absurd (cc)
