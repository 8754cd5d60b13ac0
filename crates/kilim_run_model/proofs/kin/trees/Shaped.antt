-- A tree has one shape, in the heap of a thread and in the shared one.
use Rattle.std.proofs.Common.{◌≡◌, ℕ, zero, suc, Bool, true, false, cond, List, [], ◌∷◌, ◌++◌, Option, Some, None, refl, sym, ap, subst, ◌∙◌, ◌==◌, count_by}
use Rattle.std.specs.Prelude.{nat_le, if◌then◌else◌}
use Rattle.std.specs.FinMap.{get}
use Rattle.kilim_program.specs.declared.class.Program.{Program}
use Rattle.kilim_program.specs.declared.names.FieldId.{FieldId}
use Rattle.kilim_program.specs.declared.ty.Ty.{Ty}
use Rattle.kilim_run_state.specs.declared.value.Object.{Object}
use Rattle.kilim_run_state.specs.declared.value.Token.{Token}
use Rattle.kilim_run_state.specs.declared.value.Token.TheVariants as token
use Rattle.kilim_program.specs.declared.value.Value.{Value}
use Rattle.kilim_program.specs.declared.value.Value.TheVariants.{Int, Long, Null, Ref, Text, Box, Fiber}
use Rattle.kilim_run_state.specs.Machine.{Objects}
use Rattle.kilim_program.specs.Names.{◌>>=◌}
use Rattle.kilim_program.specs.Members.{shown_name}
use Rattle.kilim_run_state.specs.Shapes.{tree_limit, field_in, joined_tokens, fields_in_order, content_tokens, value_tokens, shape_of, shape_by, is_open}
use Rattle.kilim_run_model.specs.kin.Kin.{Names, Owner, IsKin, AreKin, FieldsKin, ObjectsKin, Alike}
use Rattle.kilim_run_model.specs.kin.trees.TreeKin.{IsIntact, AllFields, AllValues}
use Rattle.std.proofs.lemmas.Option.{same_Some}

module _ (p : Program) (of : Names) (holds : Value → Type 0) (left right : Value → Option (List Token)) (one : (v w : Value) → IsKin of v w → holds v → left v ≡ right w) where
  field_kin : (f : FieldId) (es ds : List (FieldId × Value)) → FieldsKin of es ds → AllFields holds es → (field_in es f >>= left) ≡ (field_in ds f >>= right)
  field_kin f [] [] e d = refl
  field_kin f (a ∷ es) (b ∷ ds) e d =
      subst (λ (g : FieldId). (cond (a.0.0 == f.0) (Some a.1) (field_in es f) >>= left) ≡ (cond (g.0 == f.0) (Some b.1) (field_in ds f) >>= right)) e.0
      (elim (a.0.0 == f.0) as (λ (z : Bool). (cond z (Some a.1) (field_in es f) >>= left) ≡ (cond z (Some b.1) (field_in ds f) >>= right)) [
        | true ↦ one a.1 b.1 e.1 d.0
        | false ↦ field_kin f es ds e.2 d.1
      ])
  field_kin f _ _ e d = absurd e

  same_join : {A : Type 0} (l r : A → Option (List Token)) (xs : List A) → ((x : A) → l x ≡ r x) → joined_tokens l xs ≡ joined_tokens r xs
  same_join l r [] e = refl
  same_join l r (x ∷ xs) e = ap (λ z. z >>= λ first. joined_tokens l xs >>= λ others. Some (first ++ others)) (e x) ∙ ap (λ z. r x >>= λ first. z >>= λ others. Some (first ++ others)) (same_join l r xs e)

  values_kin : (vs ws : List Value) → AreKin of vs ws → AllValues holds vs → joined_tokens left vs ≡ joined_tokens right ws
  values_kin [] [] e d = refl
  values_kin (v ∷ vs) (w ∷ ws) e d =
      ap (λ z. z >>= λ first. joined_tokens left vs >>= λ others. Some (first ++ others)) (one v w e.0 d.0) ∙ ap (λ z. right w >>= λ first. z >>= λ others. Some (first ++ others)) (values_kin vs ws e.1 d.1)
  values_kin _ _ e d = absurd e

  content_kin : (o q : Object) → ObjectsKin of o q → AllFields holds o.fields → AllValues holds o.elements → content_tokens p left o ≡ content_tokens p right q
  content_kin o q e f d =
      subst (λ (c : Ty). content_tokens p left o ≡ cond (c.dims == 0) (joined_tokens (λ g. field_in q.fields g >>= right) (fields_in_order p c.base)) (joined_tokens right q.elements)) e.class
      (elim (o.class.dims == 0) as (λ (z : Bool). cond z (joined_tokens (λ g. field_in o.fields g >>= left) (fields_in_order p o.class.base)) (joined_tokens left o.elements)
      ≡ cond z (joined_tokens (λ g. field_in q.fields g >>= right) (fields_in_order p o.class.base)) (joined_tokens right q.elements)) [
        | true ↦ same_join _ _ (fields_in_order p o.class.base) (λ g. field_kin g o.fields q.fields e.fields f)
        | false ↦ values_kin o.elements q.elements e.elements d
      ])

closes : Program → Ty → List Token → Option (List Token)
closes p class content = Some (token.Open (shown_name p class) ∷ (content ++ token.Close ∷ []))

module _ (p : Program) (of : Names) (owner : ℕ → Owner) (t : ℕ) (k0 h k : Objects) (alike : Alike of owner t k0 h k) where
  tokens_kin : (d : ℕ) (v w : Value) → IsKin of v w → IsIntact p h d v → value_tokens p (λ m. get h m) d v ≡ value_tokens p (λ m. get k m) d w
  unfolding closes
  tokens_kin d (Int a) (Int b) e i = ap (λ (z : _). Some (token.Int z ∷ [])) e
  tokens_kin d (Long a) (Long b) e i = ap (λ (z : _). Some (token.Long z ∷ [])) e
  tokens_kin d Null Null e i = refl
  tokens_kin d (Text a) (Text b) e i = ap (λ (z : _). Some (token.Text z ∷ [])) e
  tokens_kin d (Box a) (Box b) e i = ap (λ (z : _). Some (token.Box z ∷ [])) e
  tokens_kin d Fiber Fiber e i = refl
  tokens_kin zero (Ref n) (Ref x) e i = refl
  tokens_kin (suc d) (Ref n) (Ref x) e i =
      let there = alike.same n i.0 i.1 in
      let at_x : get k x ≡ Some there.1 = subst (λ (z : ℕ). get k z ≡ Some there.1) (same_Some _ _ (sym there.2 ∙ e)) there.3 in
      ap (λ (z : Option Object). z >>= λ (object : Object). content_tokens p (value_tokens p (λ m. get h m) d) object >>= closes p object.class) i.1
      ∙ (ap (λ (z : Option (List Token)). z >>= closes p i.0.class) (content_kin p of (IsIntact p h d) (value_tokens p (λ m. get h m) d) (value_tokens p (λ m. get k m) d) (tokens_kin d) i.0 there.1 there.4 i.3 i.4)
      ∙ (ap (λ (c : Ty). content_tokens p (value_tokens p (λ m. get k m) d) there.1 >>= closes p c) there.4.class
      ∙ sym (ap (λ (z : Option Object). z >>= λ (object : Object). content_tokens p (value_tokens p (λ m. get k m) d) object >>= closes p object.class) at_x)))
  tokens_kin d _ _ e i = absurd e

  pub shape_kin : (n x : ℕ) → of n ≡ Some x → IsIntact p h tree_limit (Ref n) → shape_of p h n ≡ shape_of p k x
  unfolding shape_by
  shape_kin n x e i = ap (λ (z : Option (List Token)). z >>= λ (tokens : List Token). if nat_le (count_by is_open tokens) tree_limit then Some tokens else None) (tokens_kin tree_limit (Ref n) (Ref x) e i)
