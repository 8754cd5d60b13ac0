-- The shape of an object is one object in preorder.
use Rattle.std.proofs.Common.{◌≡◌, ℕ, zero, suc, Bool, true, false, cond, List, [], ◌∷◌, ◌++◌, Option, Some, None, refl, sym, ap, ◌∙◌, append_assoc}
use Rattle.std.specs.Prelude.{nat_le, ◌==◌, count_by}
use Rattle.kilim_program.specs.Names.{◌>>=◌}
use Rattle.kilim_program.specs.Program.{Program}
use Rattle.kilim_program.specs.declared.names.FieldId.{FieldId}
use Rattle.kilim_program.specs.declared.value.Value.{Value}
use Rattle.kilim_program.specs.declared.value.Value.TheVariants as value
use Rattle.kilim_run_state.specs.declared.value.Object.{Object}
use Rattle.kilim_run_state.specs.declared.value.Token.{Token}
use Rattle.kilim_run_state.specs.declared.value.Token.TheVariants as token
use Rattle.kilim_program.specs.Members.{shown_name}
use Rattle.kilim_run_state.specs.Machine.{Objects}
use Rattle.kilim_run_state.specs.Shapes.{content_tokens, field_in, fields_in_order, is_open, joined_tokens, shape_by, shape_of, tree_limit, value_tokens}
use Rattle.kilim_run_journal.specs.Readable.{ends_with_its_value, is_object}
use Rattle.std.specs.FinMap.{get}

some_is : {A : Type 0} (x y : A) → Some x ≡ Some y → x ≡ y
some_is x y e = cc

record Bound {A B : Type 0} (o : Option A) (f : A → Option B) (y : B) : Type 0 where
  x : A
  is : o ≡ Some x
  gives : f x ≡ Some y

bound : {A B : Type 0} (o : Option A) (f : A → Option B) (y : B) → (o >>= f) ≡ Some y → Bound o f y
bound None f y e = absurd (cc)
bound (Some x) f y e = record { x = x; is = refl; gives = e }

-- inside of an object the tokens are passed over as whole values
abbrev Passes : List Token → Type 0
Passes ts = (b : ℕ) (more : List Token) → ends_with_its_value (suc b) (ts ++ more) ≡ ends_with_its_value (suc b) more

passes_by : (ts us : List Token) → Some ts ≡ Some us → Passes ts → Passes us
passes_by ts us e p b more = ap (λ (vs : List Token). ends_with_its_value (suc b) (vs ++ more)) (sym (some_is ts us e)) ∙ p b more

both_pass : (ts us : List Token) → Passes ts → Passes us → Passes (ts ++ us)
both_pass ts us p q b more = ap (λ (vs : List Token). ends_with_its_value (suc b) vs) (append_assoc ts us more) ∙ (p b (us ++ more) ∙ q b more)

joined_pass : {A : Type 0} (tokens : A → Option (List Token)) → ((x : A) (ts : List Token) → tokens x ≡ Some ts → Passes ts) → (xs : List A) (ts : List Token) → joined_tokens tokens xs ≡ Some ts → Passes ts
joined_pass tokens each [] ts e = passes_by [] ts e (λ b more. refl)
joined_pass tokens each (x ∷ xs) ts e =
    let a = bound (tokens x) (λ first. joined_tokens tokens xs >>= λ others. Some (first ++ others)) ts e in
    let r = bound (joined_tokens tokens xs) (λ others. Some (a.x ++ others)) ts a.gives in
    passes_by (a.x ++ r.x) ts r.gives (both_pass a.x r.x (each x a.x a.is) (joined_pass tokens each xs r.x r.is))

abbrev TokensPass : (Value → Option (List Token)) → Type 0
TokensPass tokens = (v : Value) (ts : List Token) → tokens v ≡ Some ts → Passes ts

content_pass : (p : Program) (tokens : Value → Option (List Token)) → TokensPass tokens → (o : Object) (ts : List Token) → content_tokens p tokens o ≡ Some ts → Passes ts
content_pass p tokens each o ts e = by (o.class.dims == 0) e
  where
    field : (f : FieldId) (us : List Token) → (field_in o.fields f >>= tokens) ≡ Some us → Passes us
    field f us e = let a = bound (field_in o.fields f) tokens us e in each a.x us a.gives

    by : (z : Bool) → cond z (joined_tokens (λ f. field_in o.fields f >>= tokens) (fields_in_order p o.class.base)) (joined_tokens tokens o.elements) ≡ Some ts → Passes ts
    by true e = joined_pass (λ f. field_in o.fields f >>= tokens) field (fields_in_order p o.class.base) ts e
    by false e = joined_pass tokens each o.elements ts e

-- what stands between the brackets of an object
record Between (p : Program) (ts : List Token) : Type 0 where
  name : List ℕ
  content : List Token
  passes : Passes content
  is : token.Open name ∷ (content ++ token.Close ∷ []) ≡ ts

opened : (p : Program) (look : ℕ → Option Object) (depth : ℕ) → TokensPass (value_tokens p look depth) → (n : ℕ) (ts : List Token) → value_tokens p look (suc depth) (value.Ref n) ≡ Some ts → Between p ts
opened p look depth each n ts e =
    let a = bound (look n) (λ object. content_tokens p (value_tokens p look depth) object >>= λ content. Some (token.Open (shown_name p object.class) ∷ (content ++ token.Close ∷ []))) ts e in
    let c = bound (content_tokens p (value_tokens p look depth) a.x) (λ content. Some (token.Open (shown_name p a.x.class) ∷ (content ++ token.Close ∷ []))) ts a.gives in
    record { name = shown_name p a.x.class; content = c.x; passes = content_pass p (value_tokens p look depth) each a.x c.x c.is; is = some_is _ ts c.gives }

value_pass : (p : Program) (look : ℕ → Option Object) (depth : ℕ) → TokensPass (value_tokens p look depth)
value_pass p look depth (value.Int n) ts e = passes_by _ ts e (λ b more. refl)
value_pass p look depth (value.Long n) ts e = passes_by _ ts e (λ b more. refl)
value_pass p look depth value.Null ts e = passes_by _ ts e (λ b more. refl)
value_pass p look depth (value.Text units) ts e = passes_by _ ts e (λ b more. refl)
value_pass p look depth (value.Box box) ts e = passes_by _ ts e (λ b more. refl)
value_pass p look depth value.Fiber ts e = absurd (cc)
value_pass p look zero (value.Ref n) ts e = absurd (cc)
value_pass p look (suc depth) (value.Ref n) ts e =
    let o = opened p look depth (value_pass p look depth) n ts e in
    passes_by _ ts (ap (λ (us : List Token). Some us) o.is) (λ b more. ap (λ (us : List Token). ends_with_its_value (suc (suc b)) us) (append_assoc o.content (token.Close ∷ []) more) ∙ o.passes (suc b) (token.Close ∷ more))

object_tokens : (p : Program) (look : ℕ → Option Object) (depth n : ℕ) (ts : List Token) → value_tokens p look depth (value.Ref n) ≡ Some ts → is_object ts ≡ true
object_tokens p look zero n ts e = absurd (cc)
object_tokens p look (suc depth) n ts e =
    let o = opened p look depth (value_pass p look depth) n ts e in
    ap is_object (sym o.is) ∙ o.passes 0 (token.Close ∷ [])

pub shape_is_object : (p : Program) (h : Objects) (n : ℕ) (ts : List Token) → shape_of p h n ≡ Some ts → is_object ts ≡ true
unfolding shape_by
shape_is_object p h n ts e =
    let a = bound (value_tokens p (λ m. get h m) tree_limit (value.Ref n)) (λ tokens. cond (nat_le (count_by is_open tokens) tree_limit) (Some tokens) None) ts e in
    object_tokens p (λ m. get h m) tree_limit n ts (a.is ∙ picked (nat_le (count_by is_open a.x) tree_limit) a.x a.gives)
  where
    picked : (z : Bool) (x : List Token) → cond z (Some x) None ≡ Some ts → Some x ≡ Some ts
    picked true x e = e
    picked false x e = absurd (cc)
