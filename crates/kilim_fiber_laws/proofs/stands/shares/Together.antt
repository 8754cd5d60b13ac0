-- A program and its woven form share what the rows rest on.
use Rattle.std.proofs.Common.{◌≡◌, ◌⊎◌, inl, inr, ℕ, zero, suc, ◌<◌, Bool, true, false, eqb, not, ◌&&◌, ◌||◌, List, [], ◌∷◌, ◌++◌, map, length, Option, Some, None, refl, sym, ap, subst, ◌∙◌}
use Rattle.std.specs.Prelude.{slice_get, codes, if◌then◌else◌, reverse, filter}
use Rattle.std.specs.List.{flat_map}
use Rattle.std.specs.Str.{bytes_eq}
use Rattle.std.proofs.lemmas.Bool.{and_parts, false≢true}
use Rattle.std.proofs.lemmas.Option.{same_Some, slice_get_within}
use Rattle.kilim_program.specs.declared.class.Class.{Class}
use Rattle.kilim_program.specs.declared.class.Field.{Field}
use Rattle.kilim_program.specs.declared.class.Form.TheVariants.{Plain, Woven}
use Rattle.kilim_program.specs.declared.class.Method.{Method}
use Rattle.kilim_program.specs.declared.instr.Instr.{Instr}
use Rattle.kilim_program.specs.declared.instr.Instr.TheVariants as instr
use Rattle.kilim_program.specs.declared.names.ClassId.{ClassId}
use Rattle.kilim_program.specs.declared.names.FieldId.{FieldId}
use Rattle.kilim_program.specs.declared.names.MethodId.{MethodId}
use Rattle.kilim_program.specs.declared.ty.Base.TheVariants as base
use Rattle.kilim_program.specs.declared.value.Value.{Value}
use Rattle.kilim_program.specs.declared.value.Value.TheVariants.{Null}
use Rattle.kilim_program.specs.BuiltIn.{fiber_methods}
use Rattle.kilim_program.specs.Keeps.{Keeps, method_is_sound}
use Rattle.kilim_program.specs.Lengths.{fetched}
use Rattle.kilim_program.specs.Names.{◌>>=◌, class_name, fields_of, first_that, is_empty, is_task, line_of, method_at}
use Rattle.kilim_program.specs.Program.{Program}
use Rattle.kilim_program.specs.Same.{argument_slots, is_constructor, selected}
use Rattle.kilim_run_machine.specs.Does.{chosen, does, is_mailbox, special}
use Rattle.kilim_run_machine.specs.Effect.{Effect, Calls, Asks}
use Rattle.kilim_run_state.specs.Machine.{Objects}
use Rattle.kilim_program.specs.Members.{execute_of, is_fit_main, is_instance_field, is_task_execute, object_fields}
use Rattle.kilim_run_machine.specs.Moves.{slots_in}
use Rattle.kilim_run_machine.specs.Natives.{FiberMember, Native, OfFiber, is_built_in_constructor, is_handed_out, is_of_message, is_take, is_text_method, native_method, native_of, takes_object}
use Rattle.kilim_run_state.specs.Objects.{first_field, first_value, new_object}
use Rattle.kilim_run_model.specs.State.{Setting}
use Rattle.kilim_type_spec.specs.Step.{may_name, special_fits}
use Rattle.kilim_type_spec.specs.Typed.{IsWellTyped}
use Rattle.kilim_weave_spec.specs.Form.{AllWoven, IsWoven, WovenForm, first_class, has_calls}
use Rattle.kilim_weave_spec.specs.Woven.{fiber_ty, if_there, pausable_callee}
use Rattle.kilim_weave_laws.proofs.woven_programs.Methods.{Like, fibers, like}
use Rattle.kilim_weave_laws.proofs.woven_programs.Theorem as theorem
use Rattle.kilim_weave_laws.proofs.woven_programs.kinds.Lines as lines
use Rattle.kilim_fiber_spec.specs.Fibers.{as_member, member_of}
use Rattle.kilim_fiber_spec.specs.Form.{is_pausable}
use Rattle.kilim_fiber_spec.specs.Rows.{IsClean}
use Rattle.kilim_fiber_spec.specs.Serves.{CatchesAlike, is_pausing_native}
use Rattle.kilim_fiber_spec.specs.Thread.{code_in, fetch, own_in, own_of}
use Rattle.kilim_fiber_spec.specs.alike.Shares.{Agree, AlikeBuiltIn, Changed, PlainCallee, SharesPauses, SharesRows, named}
use Rattle.kilim_fiber_spec.proofs.alike.Handed.{asks_handed}
use Rattle.kilim_fiber_spec.proofs.alike.Hands.{callee_is}
use Rattle.kilim_fiber_laws.proofs.stands.shares.Bodies as code
use Rattle.kilim_fiber_laws.proofs.stands.shares.Bodies.{AllCalled, FitNative}
use Rattle.kilim_fiber_laws.proofs.stands.shares.Catching as catching
use Rattle.kilim_fiber_laws.proofs.stands.shares.Fibers as fibers_of
use Rattle.kilim_fiber_laws.proofs.stands.shares.Names as names
use Rattle.kilim_fiber_laws.proofs.stands.shares.Names.{Twin}

both_flat : {A : Type 0} (f g : ClassId → List A) → ((d : ClassId) → f d ≡ g d) → (ds : List ClassId) → flat_map f ds ≡ flat_map g ds
both_flat f g h [] = refl
both_flat f g h (d ∷ ds) = ap (λ xs. xs ++ flat_map f ds) (h d) ∙ ap (λ xs. g d ++ xs) (both_flat f g h ds)

falls : (z : Bool) → z ≡ false → (b c : Bool) → (b && (z && c)) ≡ false
falls true e b c = absurd (false≢true (sym e))
falls false e true c = refl
falls false e false c = refl

none_is : {A : Type 0} (a : A) → None ≡ Some a → ⊥
none_is a e = cc

plain_of : (o : Option Method) (a : Method) → o ≡ Some a → if_there o ≡ None → a.pausable ≡ false
plain_of o a e h = by a.pausable (sym (ap if_there e) ∙ h)
  where
    by : (b : Bool) → (if b then Some a else None) ≡ None → b ≡ false
    by true h = absurd (cc)
    by false h = refl

module _ (set : Setting) (W : Program) (counted : List (List Bool)) (keeps : Keeps set.program) (plainly : set.program.form ≡ Plain) (typed : IsWellTyped set.program) (form : WovenForm set.program W counted) where
  abbrev P : Program
  P = set.program

  abbrev twin : (id : MethodId) (a : Method) → method_at P id ≡ Some a → Twin P W id a
  twin id a at = names.twin P W counted keeps plainly form id a at

  -- the method in which an instruction stands
  there_of : (m : MethodId) (p : ℕ) (found : _) → fetch P m p ≡ Some found → (u : Method) × (method_at P m ≡ Some u) × (fetched u.code u.code_length p ≡ Some found)
  there_of m p found h = by (method_at P m) refl h
    where
      by : (o : Option Method) → method_at P m ≡ o → code_in o p ≡ Some found → (u : Method) × (method_at P m ≡ Some u) × (fetched u.code u.code_length p ≡ Some found)
      by None e h = absurd (cc)
      by (Some u) e h = (u, e, h)

  own_is : (m : MethodId) (u : Method) → method_at P m ≡ Some u → own_of P m ≡ u
  own_is m u e = ap own_in e

  -- ---- what both answer alike

  self_agree : Agree P P
  self_agree = record {
    fields = λ f. refl;
    casts = λ c ty h. (refl, refl);
    text = λ ty e. names.named_old P W counted keeps plainly form (codes "java/lang/String") ty e;
    box = λ ty e. names.named_old P W counted keeps plainly form (codes "kilim/Mailbox") ty e;
    same_text = refl;
    same_box = refl;
    names = λ c h. refl;
  }

  agree : Agree P W
  agree = record {
    fields = λ f. ap (λ (fs : List Field). slice_get fs f.0) form.fields;
    casts = λ c ty h. (names.fits_same P W counted keeps plainly form c ty h, names.fits_same P W counted keeps plainly form c ty h);
    text = λ ty e. names.named_old P W counted keeps plainly form (codes "java/lang/String") ty e;
    box = λ ty e. names.named_old P W counted keeps plainly form (codes "kilim/Mailbox") ty e;
    same_text = names.named_same P W counted keeps plainly form (codes "java/lang/String") refl;
    same_box = names.named_same P W counted keeps plainly form (codes "kilim/Mailbox") refl;
    names = λ c h. lines.name_same P W keeps (theorem.fiber_parts P W counted keeps plainly form) (names.grown P W counted keeps plainly form) c h;
  }

  results : (m : MethodId) (p : ℕ) (found : _) → fetch P m p ≡ Some found → (own_of W m).result ≡ (own_of P m).result
  results m p found h =
      let u = there_of m p found h in
      let t = twin m u.0 u.1 in
      ap (λ (o : Option Method). (own_in o).result) t.there ∙ t.like.result ∙ sym (ap (λ (o : Option Method). (own_in o).result) u.1)

  -- ---- new objects

  abbrev fields_in : Option Class → List FieldId
  fields_in None = []
  fields_in (Some class) = class.fields

  fields_same : (d : ClassId) → fields_of W d ≡ fields_of P d
  fields_same d = ap (λ (cs : List Class). fields_in (slice_get cs d.0)) (names.grown P W counted keeps plainly form) ∙ go P.classes d.0
    where
      one : (k : ℕ) → fields_in (slice_get (theorem.fiber_parts P W counted keeps plainly form ∷ []) k) ≡ []
      one zero = refl
      one (suc k) = refl

      go : (cs : List Class) (k : ℕ) → fields_in (slice_get (cs ++ theorem.fiber_parts P W counted keeps plainly form ∷ []) k) ≡ fields_in (slice_get cs k)
      go [] k = one k
      go (c ∷ cs) zero = refl
      go (c ∷ cs) (suc k) = go cs k

  object_same : (c : ClassId) → c.0 < length P.classes → new_object W c ≡ new_object P c
  object_same c h = ap (λ (fs : _). record { class = record { dims = 0; base = base.Class c }; fields = fs; elements = [] })
      (ap (λ (fs : List Field). map (λ (f : FieldId). (f, elim (slice_get fs f.0) [ None ↦ Null | Some field ↦ first_value field.ty ])) (object_fields W c)) form.fields
      ∙ ap (map (first_field P)) (ap (λ (fs : List Field). filter (λ (f : FieldId). elim (slice_get fs f.0) [ None ↦ false | Some field ↦ not field.is_static ]) (flat_map (fields_of W) (reverse (line_of W c)))) form.fields
      ∙ ap (filter (is_instance_field P)) (both_flat (fields_of W) (fields_of P) fields_same (reverse (line_of W c))
      ∙ ap (λ (ds : List ClassId). flat_map (fields_of P) (reverse ds)) (lines.whole_same P W keeps (theorem.fiber_parts P W counted keeps plainly form) (names.grown P W counted keeps plainly form) c h))))

  makes : (m : MethodId) (p to : ℕ) (c : ClassId) → fetch P m p ≡ Some (instr.New c, to) → (is_mailbox W c ≡ is_mailbox P c) × (new_object W c ≡ new_object P c)
  makes m p to c h =
      let u = there_of m p (instr.New c, to) h in
      let k = code.names_class P keeps typed m u.0 u.1 p to c u.2 in
      let less = slice_get_within P.classes c.0 k.0 k.1 in (
        ap (λ (n : List ℕ). bytes_eq n (codes "kilim/Mailbox")) (lines.name_same P W keeps (theorem.fiber_parts P W counted keeps plainly form) (names.grown P W counted keeps plainly form) c less),
        object_same c less,
      )

  -- ---- calls that aren't pausable

  built_in : (id : MethodId) (a : Method) → method_at P id ≡ Some a → (b : Method) × (method_at W id ≡ Some b) × AlikeBuiltIn b a
  built_in id a at = let t = twin id a at in (t.method, t.there, (t.built_in, names.keeps_same P W counted keeps plainly form id a t.method at t.like t.built_in, names.gives_same P W counted keeps plainly form a t.method t.like t.built_in))

  stays : (id : MethodId) (a : Method) → method_at P id ≡ Some a → a.pausable ≡ false → (method_at W id ≡ Some a) × Like P a a
  stays id a at e = let t = twin id a at in let s = t.stays e in (t.there ∙ ap (λ (z : Method). Some z) s, subst (λ (z : Method). Like P a z) s t.like)

  special_of : (m : MethodId) (p to : ℕ) (id : MethodId) (a b : Method) → fetch P m p ≡ Some (instr.Invokespecial id, to) → method_at P id ≡ Some a → Like P a b → names.Special P W counted keeps plainly form (own_of P m) (own_of W m) id a b
  special_of m p to id a b h at la =
      let u = there_of m p (instr.Invokespecial id, to) h in
      let t = twin m u.0 u.1 in
      let own = own_is m u.0 u.1 in
      let n = code.names_special P keeps typed m u.0 u.1 p to id u.2 in
      let same : n.0 ≡ a = same_Some n.0 a (sym n.1 ∙ at) in
      names.special_by P W counted keeps plainly form (own_of P m) (own_of W m) id a b at la
      (subst (λ (z : Method). z.owner.0 < length P.classes) (sym own) (names.owner_in P W counted keeps plainly form m u.0 u.1))
      (ap (λ (o : Option Method). (own_in o).owner) t.there ∙ t.like.owner ∙ sym (ap (λ (z : Method). z.owner) own))
      (subst (λ (z : Method). is_constructor a ≡ false → (may_name z a.is_private a.owner ≡ true) × (special_fits P z id a ≡ true)) (sym own)
      (subst (λ (z : Method). is_constructor z ≡ false → (may_name u.0 z.is_private z.owner ≡ true) × (special_fits P u.0 id z ≡ true)) same n.2))

  abbrev Both : MethodId → Instr → MethodId → Type 0
  Both m i id = (a : Method) × PlainCallee P P (own_of P m) (own_of P m) i id a × PlainCallee P W (own_of P m) (own_of W m) i id a

  callees : (m : MethodId) (p to : ℕ) (i : Instr) (id : MethodId) → fetch P m p ≡ Some (i, to) → named i ≡ Some id → pausable_callee P i ≡ None → Both m i id
  callees m p to (instr.Invokevirtual k) id h hn hp =
      let u = there_of m p (instr.Invokevirtual k, to) h in
      let n = code.names_virtual P keeps typed m u.0 u.1 p to k u.2 in
      let s = stays k n.0 n.1 (plain_of (method_at P k) n.0 n.1 hp) in
      subst (λ (z : MethodId). Both m (instr.Invokevirtual k) z) (same_Some k id hn) (
        n.0,
        record {
          there = n.1;
          unchanged = n.1;
          text = refl;
          handed_out = refl;
          agrees = λ z ty o f. refl;
          agrees_special = λ z. refl;
          selected = names.chosen_there P W counted keeps plainly form k n.0 n.1;
          specials = λ z. absurd (not_special k k z);
          built_in = λ j b e. (b, e, (refl, refl, refl));
        },
        record {
          there = n.1;
          unchanged = s.0;
          text = names.text_same P W counted keeps plainly form k n.0 n.0 n.1 s.1 refl;
          handed_out = names.handed_same P W counted keeps plainly form k n.0 n.1 s.1;
          agrees = λ z ty o f. names.chosen_same P W counted keeps plainly form k n.0 n.0 n.1 s.1 n.2 ty f;
          agrees_special = λ z. absurd (not_special k k z);
          selected = names.chosen_there P W counted keeps plainly form k n.0 n.1;
          specials = λ z. absurd (not_special k k z);
          built_in = built_in;
        },
      )
    where
      not_special : (j k : MethodId) → instr.Invokevirtual j ≡ instr.Invokespecial k → ⊥
      not_special j k e = absurd (cc)
  callees m p to (instr.Invokespecial k) id h hn hp =
      let u = there_of m p (instr.Invokespecial k, to) h in
      let n = code.names_special P keeps typed m u.0 u.1 p to k u.2 in
      let s = stays k n.0 n.1 (plain_of (method_at P k) n.0 n.1 hp) in
      let q = special_of m p to k n.0 n.0 h n.1 s.1 in
      subst (λ (z : MethodId). Both m (instr.Invokespecial k) z) (same_Some k id hn) (
        n.0,
        record {
          there = n.1;
          unchanged = n.1;
          text = refl;
          handed_out = refl;
          agrees = λ z ty o f. refl;
          agrees_special = λ z. refl;
          selected = names.chosen_there P W counted keeps plainly form k n.0 n.1;
          specials = λ z. (q.method, q.there);
          built_in = λ j b e. (b, e, (refl, refl, refl));
        },
        record {
          there = n.1;
          unchanged = s.0;
          text = names.text_same P W counted keeps plainly form k n.0 n.0 n.1 s.1 refl;
          handed_out = names.handed_same P W counted keeps plainly form k n.0 n.1 s.1;
          agrees = λ z ty o f. absurd (not_virtual k k z);
          agrees_special = λ z. q.agrees;
          selected = names.chosen_there P W counted keeps plainly form k n.0 n.1;
          specials = λ z. (q.method, q.there);
          built_in = built_in;
        },
      )
    where
      not_virtual : (j k : MethodId) → instr.Invokespecial j ≡ instr.Invokevirtual k → ⊥
      not_virtual j k e = absurd (cc)
  callees m p to (instr.Invokestatic k) id h hn hp =
      let u = there_of m p (instr.Invokestatic k, to) h in
      let n = code.names_static P keeps typed m u.0 u.1 p to k u.2 in
      let s = stays k n.0 n.1 (plain_of (method_at P k) n.0 n.1 hp) in
      subst (λ (z : MethodId). Both m (instr.Invokestatic k) z) (same_Some k id hn) (
        n.0,
        record {
          there = n.1;
          unchanged = n.1;
          text = refl;
          handed_out = refl;
          agrees = λ z ty o f. refl;
          agrees_special = λ z. refl;
          selected = names.chosen_there P W counted keeps plainly form k n.0 n.1;
          specials = λ z. absurd (not_special k k z);
          built_in = λ j b e. (b, e, (refl, refl, refl));
        },
        record {
          there = n.1;
          unchanged = s.0;
          text = names.text_same P W counted keeps plainly form k n.0 n.0 n.1 s.1 refl;
          handed_out = names.handed_same P W counted keeps plainly form k n.0 n.1 s.1;
          agrees = λ z ty o f. absurd (not_virtual k k z);
          agrees_special = λ z. absurd (not_special k k z);
          selected = names.chosen_there P W counted keeps plainly form k n.0 n.1;
          specials = λ z. absurd (not_special k k z);
          built_in = built_in;
        },
      )
    where
      not_special : (j k : MethodId) → instr.Invokestatic j ≡ instr.Invokespecial k → ⊥
      not_special j k e = absurd (cc)

      not_virtual : (j k : MethodId) → instr.Invokestatic j ≡ instr.Invokevirtual k → ⊥
      not_virtual j k e = absurd (cc)
  callees m p to i id h hn hp = absurd (none_is id hn)

  -- ---- what calls call

  -- a method of the program that pauses where another one does
  abbrev Pauses : Bool → MethodId → Type 0
  Pauses b c = (m : Method) × (method_at P c ≡ Some m) × (m.pausable ≡ b)

  called : (m : MethodId) (p to : ℕ) (i : Instr) (id : MethodId) (a : Method) (l s : List Value) (heap : Objects) → fetch P m p ≡ Some (i, to) → named i ≡ Some id → method_at P id ≡ Some a → IsClean P i s heap → AllCalled (Pauses a.pausable) (does P (own_of P m) i to l s heap)
  called m p to (instr.Invokevirtual k) id a l s heap h hn at clean =
      let e : k ≡ id = same_Some k id hn in
      let at_k = ap (method_at P) e ∙ at in
      let u = there_of m p (instr.Invokevirtual k, to) h in
      let n = code.names_virtual P keeps typed m u.0 u.1 p to k u.2 in
      let plain = ap is_constructor (same_Some a n.0 (sym at_k ∙ n.1)) ∙ n.2 in
      code.called_virtual (Pauses a.pausable) P to l heap (own_of P m) k a s at_k clean (λ ty fits x ex. (x, ex, names.chosen_pauses P W counted keeps plainly form k a at_k plain ty fits x ex))
  called m p to (instr.Invokespecial k) id a l s heap h hn at clean =
      let e : k ≡ id = same_Some k id hn in
      let at_k = ap (method_at P) e ∙ at in
      let q = special_of m p to k a (twin k a at_k).method h at_k (twin k a at_k).like in
      code.called_special (Pauses a.pausable) P to l heap (own_of P m) k a s at_k (λ x ex. (q.method, q.there, q.pausable))
  called m p to (instr.Invokestatic k) id a l s heap h hn at clean =
      let e : k ≡ id = same_Some k id hn in
      let at_k = ap (method_at P) e ∙ at in
      code.called_static (Pauses a.pausable) P to l heap (own_of P m) k a s at_k (a, at_k, refl)
  called m p to i id a l s heap h hn at clean = absurd (none_is id hn)

  -- a native that is asked for is none of the fiber's, and pauses where its method does
  asked : (c : MethodId) (m : Method) → method_at P c ≡ Some m → (member_of W c ≡ None) × ((n : Native) → native_of P c ≡ Some n → is_pausing_native n ≡ m.pausable)
  asked c m at =
      let t = twin c m at in
      let in_w : native_of W c ≡ native_method P m = ap (λ (o : Option Method). o >>= native_method W) t.there ∙ names.native_same P W counted keeps plainly form c m t.method at t.like t.built_in in
      let in_p : native_of P c ≡ native_method P m = ap (λ (o : Option Method). o >>= native_method P) at in
      (ap as_member in_w ∙ none (native_method P m) (code.native_fits P keeps plainly c m at), λ n e. pausing (native_method P m) (code.native_fits P keeps plainly c m at) n (sym in_p ∙ e))
    where
      none : (o : Option Native) → FitNative o m.pausable → as_member o ≡ None
      none None h = refl
      none (Some n) h = h.1

      pausing : (o : Option Native) → FitNative o m.pausable → (n : Native) → o ≡ Some n → is_pausing_native n ≡ m.pausable
      pausing None h n e = absurd (cc)
      pausing (Some k) h n e = ap is_pausing_native (sym (same_Some k n e)) ∙ h.0

  named_there : (m : MethodId) (p to : ℕ) (i : Instr) (id : MethodId) → fetch P m p ≡ Some (i, to) → named i ≡ Some id → (a : Method) × (method_at P id ≡ Some a)
  named_there m p to (instr.Invokevirtual k) id h hn =
      let u = there_of m p (instr.Invokevirtual k, to) h in
      let n = code.names_virtual P keeps typed m u.0 u.1 p to k u.2 in (n.0, ap (method_at P) (sym (same_Some k id hn)) ∙ n.1)
  named_there m p to (instr.Invokespecial k) id h hn =
      let u = there_of m p (instr.Invokespecial k, to) h in
      let n = code.names_special P keeps typed m u.0 u.1 p to k u.2 in (n.0, ap (method_at P) (sym (same_Some k id hn)) ∙ n.1)
  named_there m p to (instr.Invokestatic k) id h hn =
      let u = there_of m p (instr.Invokestatic k, to) h in
      let n = code.names_static P keeps typed m u.0 u.1 p to k u.2 in (n.0, ap (method_at P) (sym (same_Some k id hn)) ∙ n.1)
  named_there m p to i id h hn = absurd (none_is id hn)

  callee_by : (i : Instr) (id : MethodId) → named i ≡ Some id → pausable_callee P i ≡ if_there (method_at P id)
  callee_by (instr.Invokevirtual k) id hn = ap (λ (z : MethodId). if_there (method_at P z)) (same_Some k id hn)
  callee_by (instr.Invokespecial k) id hn = ap (λ (z : MethodId). if_there (method_at P z)) (same_Some k id hn)
  callee_by (instr.Invokestatic k) id hn = ap (λ (z : MethodId). if_there (method_at P z)) (same_Some k id hn)
  callee_by i id hn = absurd (none_is id hn)

  calls : (m : MethodId) (p to : ℕ) (i : Instr) (id : MethodId) (l s : List Value) (heap : Objects) → fetch P m p ≡ Some (i, to) → named i ≡ Some id → pausable_callee P i ≡ None → IsClean P i s heap
      → (c : MethodId) (args : List Value) (q : ℕ) (l2 s2 : List Value) (h2 : Objects) → does P (own_of P m) i to l s heap ≡ Calls c args q l2 s2 h2 → is_pausable P c ≡ false
  calls m p to i id l s heap h hn hp clean c args q l2 s2 h2 e =
      let a = named_there m p to i id h hn in
      let g = subst (λ (z : Effect). AllCalled (Pauses a.0.pausable) z) e (called m p to i id a.0 l s heap h hn a.1 clean) in
      ap (λ (o : Option Method). elim o [ None ↦ false | Some z ↦ z.pausable ]) g.1 ∙ g.2 ∙ plain_of (method_at P id) a.0 a.1 (sym (callee_by i id hn) ∙ hp)

  plain_natives : (m : MethodId) (p to : ℕ) (i : Instr) (id : MethodId) (l s : List Value) (heap : Objects) → fetch P m p ≡ Some (i, to) → named i ≡ Some id → pausable_callee P i ≡ None → IsClean P i s heap
      → (c : MethodId) (args : List Value) (q : ℕ) (l2 s2 : List Value) (h2 : Objects) → does P (own_of P m) i to l s heap ≡ Asks c args q l2 s2 h2 → (member_of W c ≡ None) × ((n : Native) → native_of P c ≡ Some n → is_pausing_native n ≡ false)
  plain_natives m p to i id l s heap h hn hp clean c args q l2 s2 h2 e =
      let a = named_there m p to i id h hn in
      let g = subst (λ (z : Effect). AllCalled (Pauses a.0.pausable) z) e (called m p to i id a.0 l s heap h hn a.1 clean) in
      let r = asked c g.0 g.1 in
      (r.0, λ n x. r.1 n x ∙ g.2 ∙ plain_of (method_at P id) a.0 a.1 (sym (callee_by i id hn) ∙ hp))

  pub shares_rows : SharesRows set W
  shares_rows = record { self_agree = self_agree; agree = agree; results = results; makes = makes; callees = callees; calls = calls; natives = plain_natives }

  -- ---- pausable calls

  no_constructor : (id : MethodId) (a : Method) → method_at P id ≡ Some a → a.pausable ≡ true → is_constructor a ≡ false
  unfolding method_is_sound
  no_constructor id a at is =
      let s = Rattle.kilim_type_laws.proofs.members.FromKeeps.all_at method_is_sound P.methods id.0 a keeps.methods at in
      let t = and_parts (eqb (length a.qualifiers) (length a.params)) _ s in
      not_both (is_constructor a) a.pausable (and_parts (Rattle.std.specs.Prelude.nat_le (argument_slots a) 255) _ t.1).1 is
    where
      not_both : (x y : Bool) → not (x && y) ≡ true → y ≡ true → x ≡ false
      not_both true true e h = absurd (false≢true e)
      not_both true false e h = absurd (false≢true h)
      not_both false y e h = refl

  sound : (id : MethodId) (a : Method) → method_at P id ≡ Some a → a.pausable ≡ true → (is_built_in_constructor a ≡ false) × (is_text_method P a ≡ false) × (is_handed_out P a ≡ a.built_in)
  sound id a at is = (falls (is_constructor a) (no_constructor id a at is) a.built_in (is_empty a.params), (by a.built_in refl).0, (by a.built_in refl).1)
    where
      by : (z : Bool) → a.built_in ≡ z → (is_text_method P a ≡ false) × (is_handed_out P a ≡ a.built_in)
      by true e = let f = code.fit P keeps plainly id a at e in (f.text is, f.handed_out is ∙ sym e)
      by false e = (
        ap (λ (z : Bool). z && bytes_eq (class_name P a.owner) (codes "java/lang/String")) e,
        ap (λ (z : Bool). z && not (is_built_in_constructor a || (is_text_method P a || (is_take P a || is_of_message a)))) e ∙ sym e,
      )

  -- nor is it of the message of an exception
  no_message : (id : MethodId) (a : Method) → method_at P id ≡ Some a → a.pausable ≡ true → is_of_message a ≡ false
  no_message id a at is = by a.built_in refl
    where
      by : (z : Bool) → a.built_in ≡ z → is_of_message a ≡ false
      by true e = asks_handed (class_name P a.owner) a ((sound id a at is).2 ∙ e)
      by false e = ap (λ (z : Bool). (z && (bytes_eq a.name (codes "<init>") && takes_object a.params)) || (z && bytes_eq a.name (codes "getMessage"))) e

  changed : (id : MethodId) (a : Method) → method_at P id ≡ Some a → a.pausable ≡ true → Changed P W (fiber_ty P) id a
  changed id a at is =
      let t = twin id a at in
      let b = t.method in
      let l = t.like in
      let k = no_constructor id a at is in
      let s = sound id a at is in
      let still : is_built_in_constructor t.method ≡ false = falls (is_constructor t.method) (ap (λ (n : List ℕ). bytes_eq n (codes "<init>")) l.name ∙ k) t.method.built_in (is_empty t.method.params) in
      let text = names.text_same P W counted keeps plainly form id a t.method at l t.built_in in
      let take = names.take_same P W counted keeps plainly form id a t.method at l t.built_in in
      let message = names.of_message_same P W counted keeps plainly form id a t.method at l t.built_in in
      record {
        method = t.method;
        there = t.there;
        params = l.params ∙ ap (λ (z : Bool). a.params ++ fibers P z) is;
        built_in = t.built_in;
        plain = s.0;
        still_plain = still;
        no_text = s.1;
        still_no_text = text ∙ s.1;
        handed_out = s.2;
        still_handed_out =
            ap (λ (z : Bool). z && not (is_built_in_constructor t.method || (is_text_method W t.method || (is_take W t.method || is_of_message t.method)))) t.built_in
            ∙ ap (λ (z : Bool). a.built_in && not (z || (is_text_method W t.method || (is_take W t.method || is_of_message t.method)))) (still ∙ sym s.0)
            ∙ ap (λ (z : Bool). a.built_in && not (is_built_in_constructor a || (z || (is_take W t.method || is_of_message t.method)))) text
            ∙ ap (λ (z : Bool). a.built_in && not (is_built_in_constructor a || (is_text_method P a || (z || is_of_message t.method)))) take
            ∙ ap (λ (z : Bool). a.built_in && not (is_built_in_constructor a || (is_text_method P a || (is_take P a || z)))) message ∙ s.2 ∙ sym t.built_in;
        agrees = λ ty o f. names.chosen_same P W counted keeps plainly form id a t.method at l k ty f;
        selected = λ ty f.
            let x = names.chosen_there P W counted keeps plainly form id a at ty in
            (x.0, x.1, no_message (chosen P a id ty) x.0 x.1 (names.chosen_pauses P W counted keeps plainly form id a at k ty f x.0 x.1 ∙ is));
      }

  pausing_natives : (m : MethodId) (p : ℕ) (i : Instr) (callee : Method) (to : ℕ) (l s s2 args : List Value) (heap : Objects) (c : MethodId) → fetch P m p ≡ Some (i, to) → pausable_callee P i ≡ Some callee → IsClean P i s heap → does P (own_of P m) i to l s heap ≡ Asks c args to l s2 heap
      → (member_of W c ≡ None) × ((n : Native) → native_of P c ≡ Some n → is_pausing_native n ≡ true)
  pausing_natives m p (instr.Invokevirtual k) callee to l s s2 args heap c h hp clean e =
      let a = callee_is P k callee hp in
      let g = subst (λ (z : Effect). AllCalled (Pauses a.0.pausable) z) e (called m p to (instr.Invokevirtual k) k a.0 l s heap h refl a.1 clean) in
      let r = asked c g.0 g.1 in (r.0, λ n x. r.1 n x ∙ g.2 ∙ a.2)
  pausing_natives m p (instr.Invokespecial k) callee to l s s2 args heap c h hp clean e =
      let a = callee_is P k callee hp in
      let g = subst (λ (z : Effect). AllCalled (Pauses a.0.pausable) z) e (called m p to (instr.Invokespecial k) k a.0 l s heap h refl a.1 clean) in
      let r = asked c g.0 g.1 in (r.0, λ n x. r.1 n x ∙ g.2 ∙ a.2)
  pausing_natives m p (instr.Invokestatic k) callee to l s s2 args heap c h hp clean e =
      let a = callee_is P k callee hp in
      let g = subst (λ (z : Effect). AllCalled (Pauses a.0.pausable) z) e (called m p to (instr.Invokestatic k) k a.0 l s heap h refl a.1 clean) in
      let r = asked c g.0 g.1 in (r.0, λ n x. r.1 n x ∙ g.2 ∙ a.2)
  pausing_natives m p i callee to l s s2 args heap c h hp clean e = absurd (none_is callee hp)

  pausing_calls : (m : MethodId) (p : ℕ) (i : Instr) (callee : Method) (to : ℕ) (l s s2 args : List Value) (heap : Objects) (c : MethodId) → fetch P m p ≡ Some (i, to) → pausable_callee P i ≡ Some callee → IsClean P i s heap → does P (own_of P m) i to l s heap ≡ Calls c args to l s2 heap
      → is_pausable P c ≡ true
  pausing_calls m p i callee to l s s2 args heap c h hp clean e = by i refl hp
    where
      of : (k : MethodId) → named i ≡ Some k → pausable_callee P i ≡ if_there (method_at P k) → is_pausable P c ≡ true
      of k hn same =
          let a = callee_is P k callee (sym same ∙ hp) in
          let g = subst (λ (z : Effect). AllCalled (Pauses a.0.pausable) z) e (called m p to i k a.0 l s heap h hn a.1 clean) in
          ap (λ (o : Option Method). elim o [ None ↦ false | Some z ↦ z.pausable ]) g.1 ∙ g.2 ∙ a.2

      by : (j : Instr) → i ≡ j → pausable_callee P j ≡ Some callee → is_pausable P c ≡ true
      by (instr.Invokevirtual k) is hj = of k (ap named is) (ap (pausable_callee P) is)
      by (instr.Invokespecial k) is hj = of k (ap named is) (ap (pausable_callee P) is)
      by (instr.Invokestatic k) is hj = of k (ap named is) (ap (pausable_callee P) is)
      by j is hj = absurd (none_is callee hj)

  same_natives : (c : MethodId) → member_of W c ≡ None → native_of W c ≡ native_of P c
  same_natives c none = by (method_at P c) refl
    where
      other : (o : Option Method) → method_at W c ≡ o → method_at P c ≡ None → native_of W c ≡ None
      other None e n = ap (λ (o : Option Method). o >>= native_method W) e
      other (Some b) e n =
          let f = fibers_of.other_is P W counted keeps plainly form c b n e in
          let is : native_of W c ≡ Some (OfFiber f.member) = ap (λ (o : Option Method). o >>= native_method W) e ∙ f.native in
          absurd (never f.member (sym (ap as_member is) ∙ none))
        where
          never : (k : FiberMember) → Some k ≡ None → ⊥
          never k x = absurd (cc)

      by : (o : Option Method) → method_at P c ≡ o → native_of W c ≡ native_of P c
      by None e = other (method_at W c) refl e ∙ sym (ap (λ (o : Option Method). o >>= native_method P) e)
      by (Some m) e =
          let t = twin c m e in
          ap (λ (o : Option Method). o >>= native_method W) t.there ∙ names.native_same P W counted keeps plainly form c m t.method e t.like t.built_in
          ∙ sym (ap (λ (o : Option Method). o >>= native_method P) e)

  same_slots : (c : MethodId) → is_pausable P c ≡ false → slots_in (method_at W c) ≡ slots_in (method_at P c)
  same_slots c none = by (method_at P c) refl
    where
      other : (o : Option Method) → method_at W c ≡ o → method_at P c ≡ None → slots_in (method_at W c) ≡ 0
      other None e n = ap slots_in e
      other (Some b) e n = ap slots_in e ∙ (fibers_of.other_is P W counted keeps plainly form c b n e).locals

      by : (o : Option Method) → method_at P c ≡ o → slots_in (method_at W c) ≡ slots_in (method_at P c)
      by None e = other (method_at W c) refl e ∙ sym (ap slots_in e)
      by (Some m) e =
          let plain : m.pausable ≡ false = sym (ap (λ (o : Option Method). elim o [ None ↦ false | Some z ↦ z.pausable ]) e) ∙ none in
          ap slots_in ((stays c m e plain).0 ∙ sym e)

  -- ---- exceptions

  catches : CatchesAlike P W
  catches = record {
    plain = (catching.tables P W counted keeps plainly form).plain;
    paused = catching.paused P W counted keeps plainly form;
    added = catching.added P W counted keeps plainly form;
    lines = (catching.tables P W counted keeps plainly form).lines;
    raised = catching.raised P W counted keeps plainly form;
    made = λ index why c e. let old = catching.raised_old P W counted keeps plainly form index why c e in (old, object_same c old);
  }

  -- ---- `execute`

  -- the first built-in `execute` of both programs
  record First (ms ws : List Method) (k : ℕ) : Type 0 where
    old : Method
    new : Method
    place : ℕ
    at : slice_get ms place ≡ Some old
    there : slice_get ws place ≡ Some new
    in_p : first_that is_task_execute ms ≡ Some old
    in_w : first_that is_task_execute ws ≡ Some new
    passes : is_task_execute old ≡ true

  alike : (a b : Method) (marks : List Bool) → IsWoven P a b marks → is_task_execute b ≡ is_task_execute a
  alike a b marks w =
      ap (λ (z : Bool). z && bytes_eq b.name (codes "execute")) (names.built_by P a b marks a.pausable (has_calls P a) w)
      ∙ ap (λ (n : List ℕ). a.built_in && bytes_eq n (codes "execute")) (like P a b marks w).name

  none_of_members : (n : ℕ) → first_that is_task_execute (fiber_methods Woven n) ≡ None
  none_of_members n = refl

  firsts : (ms ws : List Method) (cs : List (List Bool)) → AllWoven P ms ws cs → First ms ws 0 ⊎ ((first_that is_task_execute ms ≡ None) × (first_that is_task_execute ws ≡ None))
  firsts [] ws cs a = inr (refl, ap (first_that is_task_execute) a.0 ∙ none_of_members (first_class P))
  firsts (x ∷ ms) [] cs a = absurd a
  firsts (x ∷ ms) (w ∷ ws) [] a = absurd a
  firsts (x ∷ ms) (w ∷ ws) (c ∷ cs) a = by (is_task_execute x) refl (alike x w c a.0) (firsts ms ws cs a.1)
    where
      by : (z : Bool) → is_task_execute x ≡ z → is_task_execute w ≡ is_task_execute x → First ms ws 0 ⊎ ((first_that is_task_execute ms ≡ None) × (first_that is_task_execute ws ≡ None))
          → First (x ∷ ms) (w ∷ ws) 0 ⊎ ((first_that is_task_execute (x ∷ ms) ≡ None) × (first_that is_task_execute (w ∷ ws) ≡ None))
      by true e same rest = inl (record {
        old = x;
        new = w;
        place = 0;
        at = refl;
        there = refl;
        in_p = ap (λ (t : Bool). if t then Some x else first_that is_task_execute ms) e;
        in_w = ap (λ (t : Bool). if t then Some w else first_that is_task_execute ws) (same ∙ e);
        passes = e;
      })
      by false e same (inl f) = inl (record {
        old = f.old;
        new = f.new;
        place = suc f.place;
        at = f.at;
        there = f.there;
        in_p = ap (λ (t : Bool). if t then Some x else first_that is_task_execute ms) e ∙ f.in_p;
        in_w = ap (λ (t : Bool). if t then Some w else first_that is_task_execute ws) (same ∙ e) ∙ f.in_w;
        passes = f.passes;
      })
      by false e same (inr f) = inr (ap (λ (t : Bool). if t then Some x else first_that is_task_execute ms) e ∙ f.0, ap (λ (t : Bool). if t then Some w else first_that is_task_execute ws) (same ∙ e) ∙ f.1)

  module _ (class : ClassId) (task : is_task P class ≡ true) where
    -- what both find
    record Executes : Type 0 where
      found : MethodId
      method : Method
      in_p : execute_of P class ≡ Some found
      in_w : execute_of W class ≡ Some found
      there : method_at P found ≡ Some method
      pausable : method.pausable ≡ true

    executes : Executes ⊎ ((execute_of P class ≡ None) × (execute_of W class ≡ None))
    executes = by (firsts P.methods W.methods counted form.methods)
      where
        run : Program → Option Method → Option MethodId
        run R o = o >>= selected R class

        by : First P.methods W.methods 0 ⊎ ((first_that is_task_execute P.methods ≡ None) × (first_that is_task_execute W.methods ≡ None)) → Executes ⊎ ((execute_of P class ≡ None) × (execute_of W class ≡ None))
        by (inr n) = inr (ap (λ (o : Option Method). o >>= selected P class) n.0, ap (λ (o : Option Method). o >>= selected W class) n.1)
        by (inl f) =
            let id : MethodId = record { 0 = f.place } in
            let x = fibers_of.execute_is P W counted keeps plainly form (record { 0 = f.place }) f.old f.at f.passes in
            let t = twin (record { 0 = f.place }) f.old f.at in
            let same : t.method ≡ f.new = same_Some t.method f.new (sym t.there ∙ f.there) in
            let s = names.selected_same P W counted keeps plainly form (record { 0 = f.place }) f.old f.new f.at (subst (λ (z : Method). Like P f.old z) same t.like) x.public x.plain class
            (fibers_of.task_line P W counted keeps plainly form class f.old x task) in
            inl (record {
              found = s.0;
              method = s.3.method;
              in_p = ap (λ (o : Option Method). o >>= selected P class) f.in_p ∙ s.2;
              in_w = ap (λ (o : Option Method). o >>= selected W class) f.in_w ∙ s.1;
              there = s.3.there;
              pausable = s.3.pausable ∙ x.pausable;
            })

    execute_same : execute_of W class ≡ execute_of P class
    execute_same = by executes
      where
        by : Executes ⊎ ((execute_of P class ≡ None) × (execute_of W class ≡ None)) → execute_of W class ≡ execute_of P class
        by (inl x) = x.in_w ∙ sym x.in_p
        by (inr n) = n.1 ∙ sym n.0

    pub execute_pauses : (c : MethodId) (a : Method) → execute_of P class ≡ Some c → method_at P c ≡ Some a → a.pausable ≡ true
    execute_pauses c a e at = by executes
      where
        by : Executes ⊎ ((execute_of P class ≡ None) × (execute_of W class ≡ None)) → a.pausable ≡ true
        by (inl x) =
            let same : c ≡ x.found = same_Some c x.found (sym e ∙ x.in_p) in
            ap (λ (z : Method). z.pausable) (same_Some a x.method (sym at ∙ ap (method_at P) same ∙ x.there)) ∙ x.pausable
        by (inr n) = absurd (never (sym e ∙ n.0))
          where
            never : Some c ≡ None → ⊥
            never x = absurd (cc)

  module _ (main : is_fit_main P set.main ≡ true) where
    task : is_task P set.main ≡ true
    task = (and_parts (is_task P set.main) _ (and_parts _ _ main).1).0

    begins_alike : (c : MethodId) (a : Method) → execute_of P set.main ≡ Some c → method_at P c ≡ Some a → (b : Method) × (method_at W c ≡ Some b) × (b.built_in ≡ a.built_in) × (a.pausable ≡ true)
    begins_alike c a e at = let t = twin c a at in (t.method, t.there, t.built_in, execute_pauses set.main task c a e at)

    pub shares_pauses : SharesPauses set W (fiber_ty P)
    shares_pauses = record {
      shares = record {
        changed = changed;
        built_in = built_in;
        text = λ ty e. names.named_old P W counted keeps plainly form (codes "java/lang/String") ty e;
        box = λ ty e. names.named_old P W counted keeps plainly form (codes "kilim/Mailbox") ty e;
        same_text = names.named_same P W counted keeps plainly form (codes "java/lang/String") refl;
        same_box = names.named_same P W counted keeps plainly form (codes "kilim/Mailbox") refl;
      };
      specials = λ m p to id a b h at is bt.
          let t = twin id a at in
          let same : t.method ≡ b = same_Some t.method b (sym t.there ∙ bt) in
          let q = special_of m p to id a b h at (subst (λ (z : Method). Like P a z) same t.like) in
          record { agrees = q.agrees; there = (q.method, q.there, no_message (special P (own_of P m) a id) q.method q.there (q.pausable ∙ is)) };
      sound = sound;
      natives = pausing_natives;
      same_natives = same_natives;
      pauses = pausing_calls;
      same_slots = same_slots;
      catches = catches;
      begins = execute_same set.main task;
      begins_alike = begins_alike;
    }
