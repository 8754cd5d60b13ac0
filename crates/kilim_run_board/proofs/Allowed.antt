-- A shape that the declared types allow is that of a tree, under whatever names.
use Rattle.std.proofs.Common.{◌≡◌, ℕ, zero, suc, ◌+◌, ◌<◌, ◌≤◌, Bool, true, false, ◌&&◌, List, [], ◌∷◌, ◌++◌, Option, Some, None, refl, sym, ap, ◌∙◌, arith, length}
use Rattle.std.specs.Prelude.{if◌then◌else◌}
use Rattle.kilim_program.specs.Program.{Program}
use Rattle.kilim_program.specs.declared.ty.Ty.{Ty}
use Rattle.kilim_program.specs.declared.value.Value.{Value}
use Rattle.kilim_program.specs.declared.value.Value.TheVariants as value
use Rattle.kilim_run_state.specs.declared.value.Object.{Object}
use Rattle.kilim_run_state.specs.declared.value.Token.{Token}
use Rattle.kilim_run_state.specs.declared.value.Token.TheVariants as token
use Rattle.kilim_program.specs.Names.{◌>>=◌}
use Rattle.kilim_run_state.specs.Trees.{Read, Reads, read_value, read_values, closed, behind, and_then, root_alone, Awaits, Fields, Elements, awaited, opened, behind_token, is_complete, allowed_from, allowed_below, content_types, value_fits, is_root, is_whole_class, Root, is_allowed, built, object_of, type_named}
use Rattle.kilim_program.specs.Fits.{fits_type}

-- ---- one token

complete_is_one : (stack : List Awaits) → is_complete stack ≡ true → length stack ≤ 1
complete_is_one [] e = omega arith
complete_is_one (a ∷ []) e = omega arith
complete_is_one (Fields [] ∷ b ∷ rest) e = absurd (cc)
complete_is_one (Fields (ty ∷ tys) ∷ b ∷ rest) e = absurd (cc)
complete_is_one (Elements ty ∷ b ∷ rest) e = absurd (cc)

not_none : (p : Program) (ts : List Token) → allowed_from p None ts ≡ true → ⊥
not_none p ts e = cc

-- a token that is no object stands where a value is awaited
abbrev IsLeaf : Program → Token → Type 0
IsLeaf p t = (stack : List Awaits) → behind_token p stack t ≡ (awaited stack >>= λ (next : Ty × List Awaits). if value_fits p next.0 t then Some next.1 else None)

if_allowed : (p : Program) (fits : Bool) (stack : List Awaits) (ts : List Token) → allowed_from p (if fits then Some stack else None) ts ≡ true → allowed_from p (Some stack) ts ≡ true
if_allowed p true stack ts e = e
if_allowed p false stack ts e = absurd (not_none p ts e)

leaf_state : (p : Program) (t : Token) (a : Awaits) (rest : List Awaits) (ts : List Token) → IsLeaf p t → allowed_from p (behind_token p (a ∷ rest) t) ts ≡ true → (after : Awaits) × (allowed_from p (Some (after ∷ rest)) ts ≡ true)
leaf_state p t (Fields []) rest ts leaf e = absurd (not_none p ts (sym (ap (λ o. allowed_from p o ts) (leaf (Fields [] ∷ rest))) ∙ e))
leaf_state p t (Fields (ty ∷ tys)) rest ts leaf e = (Fields tys, if_allowed p (value_fits p ty t) (Fields tys ∷ rest) ts (sym (ap (λ o. allowed_from p o ts) (leaf (Fields (ty ∷ tys) ∷ rest))) ∙ e))
leaf_state p t (Elements ty) rest ts leaf e = (Elements ty, if_allowed p (value_fits p ty t) (Elements ty ∷ rest) ts (sym (ap (λ o. allowed_from p o ts) (leaf (Elements ty ∷ rest))) ∙ e))

-- an object begins there
record Opens (p : Program) (name : List ℕ) (rest : List Awaits) (ts : List Token) : Type 0 where
  type : Ty
  is-type : type_named p name ≡ Some type
  after : Awaits
  goes : allowed_from p (Some (content_types p type ∷ after ∷ rest)) ts ≡ true

open_by : (p : Program) (name : List ℕ) (ty : Ty) (after : Awaits) (rest : List Awaits) (ts : List Token) (o : Option Ty) → type_named p name ≡ o → allowed_from p (opened p o (ty, after ∷ rest)) ts ≡ true → Opens p name rest ts
open_by p name ty after rest ts None is e = absurd (not_none p ts e)
open_by p name ty after rest ts (Some found) is e = record { type = found; is-type = is; after = after; goes = if_allowed p (fits_type p found ty && is_whole_class p found) (content_types p found ∷ after ∷ rest) ts e }

open_state : (p : Program) (name : List ℕ) (a : Awaits) (rest : List Awaits) (ts : List Token) → allowed_from p (behind_token p (a ∷ rest) (token.Open name)) ts ≡ true → Opens p name rest ts
open_state p name (Fields []) rest ts e = absurd (not_none p ts e)
open_state p name (Fields (ty ∷ tys)) rest ts e = open_by p name ty (Fields tys) rest ts (type_named p name) refl e
open_state p name (Elements ty) rest ts e = open_by p name ty (Elements ty) rest ts (type_named p name) refl e

-- it ends there
close_state : (p : Program) (a : Awaits) (rest : List Awaits) (ts : List Token) → allowed_from p (behind_token p (a ∷ rest) token.Close) ts ≡ true → allowed_from p (Some rest) ts ≡ true
close_state p (Fields []) rest ts e = e
close_state p (Fields (ty ∷ tys)) rest ts e = absurd (not_none p ts e)
close_state p (Elements ty) rest ts e = e

-- ---- each object that is open is closed

closes_all : (p : Program) (ts : List Token) (stack : List Awaits) → allowed_from p (Some stack) ts ≡ true → length stack ≤ suc (length ts)
closes_all p [] stack e = let h = complete_is_one stack e in omega arith
closes_all p (t ∷ ts) [] e = omega arith
closes_all p (token.Open name ∷ ts) (a ∷ rest) e = let s = open_state p name a rest ts e in let h = closes_all p ts (content_types p s.type ∷ s.after ∷ rest) s.goes in omega arith
closes_all p (token.Close ∷ ts) (a ∷ rest) e = let h = closes_all p ts rest (close_state p a rest ts e) in omega arith
closes_all p (token.Int n ∷ ts) (a ∷ rest) e = let s = leaf_state p (token.Int n) a rest ts (λ _. refl) e in let h = closes_all p ts (s.0 ∷ rest) s.1 in omega arith
closes_all p (token.Long n ∷ ts) (a ∷ rest) e = let s = leaf_state p (token.Long n) a rest ts (λ _. refl) e in let h = closes_all p ts (s.0 ∷ rest) s.1 in omega arith
closes_all p (token.Null ∷ ts) (a ∷ rest) e = let s = leaf_state p token.Null a rest ts (λ _. refl) e in let h = closes_all p ts (s.0 ∷ rest) s.1 in omega arith
closes_all p (token.Text units ∷ ts) (a ∷ rest) e = let s = leaf_state p (token.Text units) a rest ts (λ _. refl) e in let h = closes_all p ts (s.0 ∷ rest) s.1 in omega arith
closes_all p (token.Box box ∷ ts) (a ∷ rest) e = let s = leaf_state p (token.Box box) a rest ts (λ _. refl) e in let h = closes_all p ts (s.0 ∷ rest) s.1 in omega arith

-- ---- reading

-- what stands up to the close is read, and what is behind it is allowed below
record IsRead (p : Program) (fuel base : ℕ) (ts : List Token) (below : List Awaits) : Type 0 where
  reads : Reads
  is : read_values p fuel base ts ≡ Some reads
  goes : allowed_from p (Some below) reads.rest ≡ true
  less : length reads.rest < length ts

abbrev Reading : Program → ℕ → Type 0
Reading p fuel = (base : ℕ) (ts : List Token) (a b : Awaits) (rest : List Awaits) → allowed_from p (Some (a ∷ b ∷ rest)) ts ≡ true → length ts ≤ fuel + length rest → IsRead p fuel base ts (b ∷ rest)

close_read : (p : Program) (fuel base : ℕ) (ts : List Token) (a b : Awaits) (rest : List Awaits) → allowed_from p (Some (a ∷ b ∷ rest)) (token.Close ∷ ts) ≡ true → IsRead p (suc fuel) base (token.Close ∷ ts) (b ∷ rest)
close_read p fuel base ts a b rest e = record { reads = record { values = []; objects = []; rest = ts }; is = refl; goes = close_state p a (b ∷ rest) ts e; less = omega arith }

-- with no token for each close there is nothing to read
too_few : {A : Type 0} (p : Program) (ts : List Token) (a b : Awaits) (rest : List Awaits) → allowed_from p (Some (a ∷ b ∷ rest)) ts ≡ true → length ts ≤ length rest → A
too_few p ts a b rest e few = absurd (let h = closes_all p ts (a ∷ b ∷ rest) e in omega arith)

leaf_too_few : {A : Type 0} (p : Program) (t : Token) (ts : List Token) (a b : Awaits) (rest : List Awaits) → IsLeaf p t → allowed_from p (Some (a ∷ b ∷ rest)) (t ∷ ts) ≡ true → suc (length ts) ≤ suc (length rest) → A
leaf_too_few p t ts a b rest leaf e few = let s = leaf_state p t a (b ∷ rest) ts leaf e in too_few p ts s.0 b rest s.1 (omega arith)

leaf_read : (p : Program) (k base : ℕ) (t : Token) (v : Value) (ts : List Token) (a b : Awaits) (rest : List Awaits) → IsLeaf p t → Reading p (suc k) →
    (read_values p (suc (suc k)) base (t ∷ ts) ≡ behind (record { value = v; objects = []; rest = ts }) (read_values p (suc k) (base + 0) ts)) →
    allowed_from p (Some (a ∷ b ∷ rest)) (t ∷ ts) ≡ true → suc (length ts) ≤ suc (suc k) + length rest → IsRead p (suc (suc k)) base (t ∷ ts) (b ∷ rest)
leaf_read p k base t v ts a b rest leaf reading is e few =
    let s = leaf_state p t a (b ∷ rest) ts leaf e in
    let r : IsRead p (suc k) (base + 0) ts (b ∷ rest) = reading (base + 0) ts s.0 b rest s.1 (omega arith) in
    let shorter = r.less in
    record {
      reads = record { values = v ∷ r.reads.values; objects = [] ++ r.reads.objects; rest = r.reads.rest };
      is = is ∙ ap (behind (record { value = v; objects = []; rest = ts })) r.is;
      goes = r.goes;
      less = omega arith;
    }

open_read : (p : Program) (k base : ℕ) (name : List ℕ) (ts : List Token) (a b : Awaits) (rest : List Awaits) → Reading p k → Reading p (suc k) →
    allowed_from p (Some (a ∷ b ∷ rest)) (token.Open name ∷ ts) ≡ true → suc (length ts) ≤ suc (suc k) + length rest → IsRead p (suc (suc k)) base (token.Open name ∷ ts) (b ∷ rest)
open_read p k base name ts a b rest inner outer e few =
    let s = open_state p name a (b ∷ rest) ts e in
    let c : IsRead p k (suc base) ts (s.after ∷ b ∷ rest) = inner (suc base) ts (content_types p s.type) s.after (b ∷ rest) s.goes (omega arith) in
    let shorter = c.less in
    let first : Read = record { value = value.Ref base; objects = object_of p s.type c.reads.values ∷ c.reads.objects; rest = c.reads.rest } in
    let r : IsRead p (suc k) (base + length first.objects) c.reads.rest (b ∷ rest) = outer (base + length first.objects) c.reads.rest s.after b rest c.goes (omega arith) in
    let shorter-still = r.less in
    let opens : read_value p (suc k) base (token.Open name ∷ ts) ≡ Some first = ap (λ o. closed p base o (read_values p k (suc base) ts)) s.is-type ∙ ap (closed p base (Some s.type)) c.is in
    record {
      reads = record { values = first.value ∷ r.reads.values; objects = first.objects ++ r.reads.objects; rest = r.reads.rest };
      is = ap (λ (o : Option Read). and_then o (λ (x : Read). read_values p (suc k) (base + length x.objects) x.rest)) opens ∙ ap (behind first) r.is;
      goes = r.goes;
      less = omega arith;
    }

reading : (p : Program) (fuel : ℕ) → Reading p fuel
reading p zero base ts a b rest e few = too_few p ts a b rest e (omega arith)
reading p (suc zero) base [] a b rest e few = too_few p [] a b rest e (omega arith)
reading p (suc zero) base (token.Open name ∷ ts) a b rest e few = absurd (let s = open_state p name a (b ∷ rest) ts e in let h = closes_all p ts (content_types p s.type ∷ s.after ∷ b ∷ rest) s.goes in omega arith)
reading p (suc zero) base (token.Close ∷ ts) a b rest e few = close_read p zero base ts a b rest e
reading p (suc zero) base (token.Int n ∷ ts) a b rest e few = leaf_too_few p (token.Int n) ts a b rest (λ _. refl) e (omega arith)
reading p (suc zero) base (token.Long n ∷ ts) a b rest e few = leaf_too_few p (token.Long n) ts a b rest (λ _. refl) e (omega arith)
reading p (suc zero) base (token.Null ∷ ts) a b rest e few = leaf_too_few p token.Null ts a b rest (λ _. refl) e (omega arith)
reading p (suc zero) base (token.Text units ∷ ts) a b rest e few = leaf_too_few p (token.Text units) ts a b rest (λ _. refl) e (omega arith)
reading p (suc zero) base (token.Box box ∷ ts) a b rest e few = leaf_too_few p (token.Box box) ts a b rest (λ _. refl) e (omega arith)
reading p (suc (suc k)) base [] a b rest e few = absurd (let h = complete_is_one (a ∷ b ∷ rest) e in omega arith)
reading p (suc (suc k)) base (token.Open name ∷ ts) a b rest e few = open_read p k base name ts a b rest (reading p k) (reading p (suc k)) e few
reading p (suc (suc k)) base (token.Close ∷ ts) a b rest e few = close_read p (suc k) base ts a b rest e
reading p (suc (suc k)) base (token.Int n ∷ ts) a b rest e few = leaf_read p k base (token.Int n) (value.Int n) ts a b rest (λ _. refl) (reading p (suc k)) refl e few
reading p (suc (suc k)) base (token.Long n ∷ ts) a b rest e few = leaf_read p k base (token.Long n) (value.Long n) ts a b rest (λ _. refl) (reading p (suc k)) refl e few
reading p (suc (suc k)) base (token.Null ∷ ts) a b rest e few = leaf_read p k base token.Null value.Null ts a b rest (λ _. refl) (reading p (suc k)) refl e few
reading p (suc (suc k)) base (token.Text units ∷ ts) a b rest e few = leaf_read p k base (token.Text units) (value.Text units) ts a b rest (λ _. refl) (reading p (suc k)) refl e few
reading p (suc (suc k)) base (token.Box box ∷ ts) a b rest e few = leaf_read p k base (token.Box box) (value.Box box) ts a b rest (λ _. refl) (reading p (suc k)) refl e few

-- ---- the tree

second_of : (a b : Bool) → (a && b) ≡ true → b ≡ true
second_of true b e = e
second_of false b e = absurd (cc)

root_read : (p : Program) (root : Root) (base : ℕ) (name : List ℕ) (ts : List Token) (o : Option Ty) → type_named p name ≡ o → allowed_below p root o ts ≡ true →
    (objects : List Object) × (root_alone (read_value p (suc (suc (length ts))) base (token.Open name ∷ ts)) ≡ Some objects)
root_read p root base name ts None is e = absurd (cc)
root_read p root base name ts (Some ty) is e =
    let content : allowed_from p (Some (content_types p ty ∷ Fields [] ∷ [])) ts ≡ true = second_of (is_whole_class p ty) (allowed_from p (Some (content_types p ty ∷ Fields [] ∷ [])) ts) (second_of (is_root p root ty) (is_whole_class p ty && allowed_from p (Some (content_types p ty ∷ Fields [] ∷ [])) ts) e) in
    let r : IsRead p (suc (length ts)) (suc base) ts (Fields [] ∷ []) = reading p (suc (length ts)) (suc base) ts (content_types p ty) (Fields []) [] content (omega arith) in (
      object_of p ty r.reads.values ∷ r.reads.objects,
      ap (λ o. root_alone (closed p base o (read_values p (suc (length ts)) (suc base) ts))) is ∙ ap (λ o. root_alone (closed p base (Some ty) o)) r.is,
    )

allowed_read : (p : Program) (root : Root) (base : ℕ) (shape : List Token) → is_allowed p root shape ≡ true → (objects : List Object) × (root_alone (read_value p (suc (length shape)) base shape) ≡ Some objects)
unfolding is_allowed
allowed_read p root base [] e = absurd (cc)
allowed_read p root base (token.Open name ∷ ts) e = root_read p root base name ts (type_named p name) refl e
allowed_read p root base (token.Close ∷ ts) e = absurd (cc)
allowed_read p root base (token.Int n ∷ ts) e = absurd (cc)
allowed_read p root base (token.Long n ∷ ts) e = absurd (cc)
allowed_read p root base (token.Null ∷ ts) e = absurd (cc)
allowed_read p root base (token.Text units ∷ ts) e = absurd (cc)
allowed_read p root base (token.Box box ∷ ts) e = absurd (cc)

pub allowed_is_built : (p : Program) (root : Root) (base : ℕ) (shape : List Token) → is_allowed p root shape ≡ true → (objects : List Object) × (built p root base shape ≡ Some objects)
unfolding built
allowed_is_built p root base shape e =
    let r : (objects : List Object) × (root_alone (read_value p (suc (length shape)) base shape) ≡ Some objects) = allowed_read p root base shape e in
    (r.0, ap (λ b. if b then root_alone (read_value p (suc (length shape)) base shape) else None) e ∙ r.1)
