-- The rows of calls.
use Rattle.kilim_program.specs.BuiltIn.{class_id, class_type, message_field}
use Rattle.kilim_program.specs.Kinds.{class_kind, is_tree_kind, kind_of}
use Rattle.kilim_program.specs.Lengths.{jump_targets, ends_path}
use Rattle.kilim_program.specs.Names.{class_at, is_empty, method_at}
use Rattle.kilim_program.specs.Program.{Program}
use Rattle.kilim_program.specs.Same.{is_constructor, same_qualifier}
use Rattle.kilim_program.specs.declared.class.Method.{Method}
use Rattle.kilim_program.specs.declared.instr.Instr.TheVariants as instr
use Rattle.kilim_program.specs.declared.instr.Instr.{Instr}
use Rattle.kilim_program.specs.declared.names.ClassId.{ClassId}
use Rattle.kilim_program.specs.declared.names.MethodId.{MethodId}
use Rattle.kilim_program.specs.declared.ty.Kind.TheVariants as kind
use Rattle.kilim_program.specs.declared.ty.Qualifier.{Qualifier}
use Rattle.kilim_program.specs.declared.ty.Qualifier.TheVariants as qualifier
use Rattle.kilim_program.specs.declared.ty.Ty.{Ty}
use Rattle.kilim_program.specs.declared.value.Value.TheVariants.{Int}
use Rattle.kilim_program.specs.declared.value.Value.{Value}
use Rattle.kilim_program.specs.declared.verified.VType.TheVariants as vtype
use Rattle.kilim_program.specs.declared.verified.VType.{VType}
use Rattle.kilim_isolation_laws.proofs.forest.Store.{both_ways}
use Rattle.kilim_isolation_laws.specs.forest.Canonical.{node_at}
use Rattle.kilim_isolation_laws.specs.forest.Relation.{is_gone, Named}
use Rattle.kilim_isolation_laws.proofs.graph_rows.Calling.{ArgsMeet, PassedLive, after_within, call_holds, caller_holds, caller_slots}
use Rattle.kilim_isolation_laws.proofs.graph_rows.Invoke.{asked_left, begun_left as called_left, begun_live, begun_meet, instance_left, one_value, receiver_class, receiver_on_stack, rest_on_stack, text_left, cuttable, free, graph, shared}
use Rattle.kilim_isolation_laws.proofs.graph_rows.Invoking.{values_h, params_fit, arguments_are}
use Rattle.kilim_isolation_laws.proofs.graph_rows.Passed.{takes_passed, rule_passed, ok_is, further_passed}
use Rattle.kilim_isolation_laws.proofs.graph_rows.Plain.{IsStep, E, dropped}
use Rattle.kilim_isolation_laws.proofs.graph_rows.Heaps.{same_has}
use Rattle.kilim_isolation_laws.proofs.graph_rows.Putting.{grows, heap_fits, same_holds, same_trees}
use Rattle.kilim_isolation_laws.proofs.graph_rows.Reading.{slot_lives}
use Rattle.kilim_isolation_laws.proofs.graph_rows.Settle.{not_true, and_left, and_right}
use Rattle.kilim_isolation_laws.proofs.graph_rows.Words.{as_object_h, class_of_h, cond_h, some_h, value_h, on_receiver_h, receiver_h, when_h}
use Rattle.kilim_isolation_laws.specs.graph_rows.Facts.{AreOf, ProgramKeeps, class_of}
use Rattle.kilim_isolation_laws.specs.graph_rows.Holds.{AreSlots, Fits, Holds, SlotFits, SlotsFit, Waiting, Word, field_sort, made_sort, named_by, object_sort, refers, sort, value_at}
use Rattle.kilim_isolation_laws.specs.graph_rows.Outcome.{ArgsFit, Left, CallHolds, NativeHolds, NoneFree}
use Rattle.kilim_isolation_rules.specs.Calls.{parameters, receiver, all_passed, calls, calls_with, after_call, takes_from, given_result, call_raises, handler_graph}
use Rattle.kilim_isolation_rules.specs.Marks.{mixes, names_gone}
use Rattle.kilim_isolation_rules.specs.Rules.{deed, raised_deed}
use Rattle.kilim_isolation_rules.specs.declared.deed.Passed.{Passed}
use Rattle.kilim_run_machine.specs.Does.{calls_built_in, calls_method, calls_text, does, calls_on, keeps_message, with_field, chosen, special, text_answers, at_unit, unit_at, is_text, bit, int_length, takes_element}
use Rattle.kilim_run_machine.specs.Effect.{Effect, Calls, Asks, Goes, text_of}
use Rattle.kilim_run_state.specs.declared.value.Object.{Object}
use Rattle.kilim_run_state.specs.Shapes.{field_in}
use Rattle.std.specs.FinMap.{get, insert}
use Rattle.kilim_lemmas.proofs.Texts.{text_is}
use Rattle.kilim_run_state.specs.Machine.{Objects}
use Rattle.kilim_run_machine.specs.Natives.{is_built_in_constructor, is_get_message, is_handed_out, is_message_constructor, is_text_method}
use Rattle.kilim_isolation_graph.specs.Entry.{parameters_of, declared_parameters, quality}
use Rattle.kilim_isolation_graph.specs.Graphs.{slot, popped}
use Rattle.kilim_isolation_graph.specs.declared.graph.Graph.{Graph}
use Rattle.kilim_type_spec.specs.Step as type
use Rattle.kilim_type_spec.specs.Step.{Types, peek, Operand, Is, all_meet, arguments, class_vtype, by_row, row, virtual_row, virtual_rules, result_types, is_class, made_at, one_replaced, replaced, special_fits, special_rules, special_row, superclass_at, is_same}
use Rattle.kilim_type_spec.specs.Typed.{Among, edges}
use Rattle.std.proofs.Common.{◌==◌, ◌≡◌, ℕ, ℤ, pos, negsuc, zero, suc, ◌+◌, Bool, true, false, true≢false, not, ◌&&◌, ◌||◌, cond, List, [], ◌∷◌, ◌++◌, length, reverse, Option, Some, None, Ok, refl, sym, ap, subst, ◌∙◌, ◌⊎◌, inl, inr, arith}
use Rattle.std.proofs.lemmas.List.{length-reverse}
use Rattle.std.proofs.lemmas.Option.{same_Some}
use Rattle.std.specs.List.{list_all, list_any}
use Rattle.std.specs.Prelude.{codes, drop, take, slice_get}
use Rattle.std.specs.Str.{bytes_eq}

-- ---- a built-in constructor takes no tree away

not_free : (p : Program) (ty : Ty) (q : Qualifier) → (q ≡ qualifier.Free → ⊥) → quality p ty q ≡ Some qualifier.Free → ⊥
not_free p ty q other = by (is_tree_kind (kind_of p ty))
  where
    by : (b : Bool) → cond b (Some q) None ≡ Some qualifier.Free → ⊥
    by true e = other (same_Some q qualifier.Free e)
    by false e = absurd (cc)

safe_is : (q : Qualifier) → same_qualifier qualifier.Safe q ≡ true → q ≡ qualifier.Free → ⊥
safe_is qualifier.Free e w = absurd (true≢false (sym e))
safe_is qualifier.Cuttable e w = absurd (true≢false (sym e))
safe_is qualifier.Safe e w = absurd (cc)

safe_params : (p : Program) (tys : List Ty) (qs : List Qualifier) → list_all (same_qualifier qualifier.Safe) qs ≡ true → NoneFree p (declared_parameters tys qs)
safe_params p [] qs e = tt
safe_params p (ty ∷ tys) [] e = tt
safe_params p (ty ∷ tys) (q ∷ qs) e = (not_free p ty q (safe_is q (and_left (same_qualifier qualifier.Safe q) _ e)), safe_params p tys qs (and_right (same_qualifier qualifier.Safe q) _ e))

none_free : (p : Program) (named : Method) → named.receiver ≡ qualifier.Cuttable → list_all (same_qualifier qualifier.Safe) named.qualifiers ≡ true → NoneFree p (parameters_of named)
none_free p named receiver others = by named.is_static
  where
    cuttable_is : (q : Qualifier) → q ≡ qualifier.Cuttable → q ≡ qualifier.Free → ⊥
    cuttable_is q e w = let z : qualifier.Cuttable ≡ qualifier.Free = sym e ∙ w in absurd (cc)

    by : (b : Bool) → NoneFree p (cond b (declared_parameters named.params named.qualifiers) (record { ty = class_type named.owner.0; qualifier = named.receiver } ∷ declared_parameters named.params named.qualifiers))
    by true = safe_params p named.params named.qualifiers others
    by false = (not_free p (class_type named.owner.0) named.receiver (cuttable_is named.receiver receiver), safe_params p named.params named.qualifiers others)

-- ---- types that a constructor replaces

same_same : (old t : VType) → is_same old t ≡ true → t ≡ old
same_same vtype.UninitThis vtype.UninitThis e = refl
same_same (vtype.Uninit a) (vtype.Uninit b) e = ap vtype.Uninit (sym (Rattle.kilim_isolation_laws.proofs.forest.Store.is_same a b e))
same_same vtype.UninitThis vtype.Top e = absurd (true≢false (sym e))
same_same vtype.UninitThis vtype.Int e = absurd (true≢false (sym e))
same_same vtype.UninitThis vtype.Long e = absurd (true≢false (sym e))
same_same vtype.UninitThis vtype.Null e = absurd (true≢false (sym e))
same_same vtype.UninitThis (vtype.Uninit b) e = absurd (true≢false (sym e))
same_same vtype.UninitThis (vtype.Object ty) e = absurd (true≢false (sym e))
same_same (vtype.Uninit a) vtype.Top e = absurd (true≢false (sym e))
same_same (vtype.Uninit a) vtype.Int e = absurd (true≢false (sym e))
same_same (vtype.Uninit a) vtype.Long e = absurd (true≢false (sym e))
same_same (vtype.Uninit a) vtype.Null e = absurd (true≢false (sym e))
same_same (vtype.Uninit a) vtype.UninitThis e = absurd (true≢false (sym e))
same_same (vtype.Uninit a) (vtype.Object ty) e = absurd (true≢false (sym e))
same_same vtype.Top t e = absurd (true≢false (sym e))
same_same vtype.Int t e = absurd (true≢false (sym e))
same_same vtype.Long t e = absurd (true≢false (sym e))
same_same vtype.Null t e = absurd (true≢false (sym e))
same_same (vtype.Object ty) t e = absurd (true≢false (sym e))

module _ (p : Program) (m : Method) (old new : VType) (same : sort p m old ≡ sort p m new) where
  replaced_sort : (t : VType) → sort p m t ≡ sort p m (one_replaced (is_same old t) t new)
  replaced_sort t = by (is_same old t) refl
    where
      by : (b : Bool) → is_same old t ≡ b → sort p m t ≡ sort p m (one_replaced b t new)
      by true e = ap (sort p m) (same_same old t e) ∙ same
      by false e = refl

  replaced_peek : (ts : List VType) (k : ℕ) → sort p m (peek ts k) ≡ sort p m (peek (replaced old new ts) k)
  replaced_peek [] k = refl
  replaced_peek (t ∷ ts) zero = replaced_sort t
  replaced_peek (t ∷ ts) (suc k) = replaced_peek ts k

  replaced_slots : (h : Objects) (u : Named) (count : ℕ) (ts : List VType) (xs : List (Option ℕ)) (vs : List Value) → AreSlots p m h u count ts xs vs → AreSlots p m h u count (replaced old new ts) xs vs
  replaced_slots h u count [] [] [] s = tt
  replaced_slots h u count (t ∷ ts) (x ∷ xs) (v ∷ vs) s = (subst (λ z. SlotFits p h u count z x v) (replaced_sort t) s.0, replaced_slots h u count ts xs vs s.1)
  replaced_slots h u count [] [] (v ∷ vs) s = absurd s
  replaced_slots h u count [] (x ∷ xs) vs s = absurd s
  replaced_slots h u count (t ∷ ts) [] vs s = absurd s
  replaced_slots h u count (t ∷ ts) (x ∷ xs) [] s = absurd s

  replaced_fit : (f : Types) (unset : Bool) (ts : List VType) (g : Graph) (at : ℕ → Option ℕ) (h : Objects) (ls st : List Value) → SlotsFit p m (record f { stack = ts }) g at h ls st →
      SlotsFit p m (record { locals = replaced old new f.locals; stack = replaced old new ts; unset = unset }) g at h ls st
  replaced_fit f unset ts g at h ls st s = record {
    on_stack = replaced_slots h (named_by g at) (length g.nodes) ts g.stack st s.on_stack;
    in_locals = λ k. subst (λ z. SlotFits p h (named_by g at) (length g.nodes) z (slot g.locals k) (value_at ls k)) (replaced_peek f.locals k) (s.in_locals k);
  }

peek_drop : (n : ℕ) (ts : List VType) (t : VType) (rest : List VType) → drop n ts ≡ t ∷ rest → (peek ts n ≡ t) × (drop (suc n) ts ≡ rest)
peek_drop zero [] t rest e = absurd (cc)
peek_drop zero (x ∷ ts) t rest e = (first x ts e, more x ts e)
  where
    first : (x : VType) (ts : List VType) → x ∷ ts ≡ t ∷ rest → x ≡ t
    first x ts e = cc

    more : (x : VType) (ts : List VType) → x ∷ ts ≡ t ∷ rest → ts ≡ rest
    more x ts e = cc
peek_drop (suc n) [] t rest e = absurd (cc)
peek_drop (suc n) (x ∷ ts) t rest e = peek_drop n ts t rest e

-- what a constructor's call leaves of the types
pub record IsConstructed (p : Program) (m : Method) (named : Method) (f f1 : Types) (ts : List VType) : Type 0 where
  pub old : VType
  pub new : VType
  pub rest : List VType
  pub unset : Bool
  pub is : ts ≡ old ∷ rest
  pub types : f1 ≡ record { locals = replaced old new f.locals; stack = result_types named.result ++ replaced old new rest; unset = unset }
  pub same : sort p m old ≡ sort p m new
  -- the class that is made is the constructor's, or the constructor is of its superclass
  pub made : ClassId
  pub sort_is : sort p m old ≡ object_sort p (class_type made.0)
  pub owner : (named.owner.0 ≡ made.0) ⊎ ((up : ClassId) × (superclass_at (class_at p made) ≡ Some up) × (named.owner.0 ≡ up.0))

constructed_is : (p : Program) (m named : Method) (f f1 : Types) (also : List type.Further) (ts : List VType) → type.constructed p m named.owner (result_types named.result) also ts f ≡ Ok f1 → IsConstructed p m named f f1 ts
unfolding sort
constructed_is p m named f f1 also (vtype.UninitThis ∷ s) e =
    let a = rule_passed 10 (named.owner.0 == m.owner.0 || is_class named.owner (superclass_at (class_at p m.owner))) _ f1 e in
    record {
      old = vtype.UninitThis;
      new = class_vtype m.owner;
      rest = s;
      unset = false;
      is = refl;
      types = ok_is (record { locals = replaced vtype.UninitThis (class_vtype m.owner) f.locals; stack = result_types named.result ++ replaced vtype.UninitThis (class_vtype m.owner) s; unset = false }) f1 (further_passed p also f.stack _ f1 a.1);
      same = refl;
      made = m.owner;
      sort_is = refl;
      owner = by (superclass_at (class_at p m.owner)) refl a.0;
    }
  where
    by : (o : Option ClassId) → superclass_at (class_at p m.owner) ≡ o → (named.owner.0 == m.owner.0 || is_class named.owner o) ≡ true → (named.owner.0 ≡ m.owner.0) ⊎ ((up : ClassId) × (superclass_at (class_at p m.owner) ≡ Some up) × (named.owner.0 ≡ up.0))
    by o q w = elim (both_ways (named.owner.0 == m.owner.0)) [
      | inl same ↦ inl (Rattle.kilim_isolation_laws.proofs.forest.Store.is_same named.owner.0 m.owner.0 same)
      | inr other ↦ inr (above o q (ap (λ b. b || is_class named.owner o) (sym other) ∙ w))
    ]
      where
        above : (o : Option ClassId) → superclass_at (class_at p m.owner) ≡ o → is_class named.owner o ≡ true → (up : ClassId) × (superclass_at (class_at p m.owner) ≡ Some up) × (named.owner.0 ≡ up.0)
        above None q w = absurd (true≢false (sym w))
        above (Some up) q w = (up, q, Rattle.kilim_isolation_laws.proofs.forest.Store.is_same named.owner.0 up.0 w)
constructed_is p m named f f1 also (vtype.Uninit pl ∷ s) e =
    let a = rule_passed 10 (is_class named.owner (made_at m.code pl)) _ f1 e in
    let c = by (made_at m.code pl) refl a.0 in
    record {
      old = vtype.Uninit pl;
      new = class_vtype named.owner;
      rest = s;
      unset = f.unset;
      is = refl;
      types = ok_is (record f { locals = replaced (vtype.Uninit pl) (class_vtype named.owner) f.locals; stack = result_types named.result ++ replaced (vtype.Uninit pl) (class_vtype named.owner) s }) f1 (further_passed p also f.stack _ f1 a.1);
      same = c;
      made = named.owner;
      sort_is = c;
      owner = inl refl;
    }
  where
    by : (o : Option ClassId) → made_at m.code pl ≡ o → is_class named.owner o ≡ true → made_sort p (made_at m.code pl) ≡ object_sort p (class_type named.owner.0)
    by None q w = absurd (true≢false (sym w))
    by (Some c) q w = ap (made_sort p) q ∙ ap (λ n. object_sort p (class_type n)) (sym (Rattle.kilim_isolation_laws.proofs.forest.Store.is_same named.owner.0 c.0 w))
constructed_is p m named f f1 also [] e = absurd (cc)
constructed_is p m named f f1 also (vtype.Top ∷ s) e = absurd (cc)
constructed_is p m named f f1 also (vtype.Int ∷ s) e = absurd (cc)
constructed_is p m named f f1 also (vtype.Long ∷ s) e = absurd (cc)
constructed_is p m named f f1 also (vtype.Null ∷ s) e = absurd (cc)
constructed_is p m named f f1 also (vtype.Object ty ∷ s) e = absurd (cc)

-- a value in a field of an object, where what was there names nothing more than it does
left_written : (p : Program) (m : Method) (f : Types) (g : Graph) (h : Objects) (ls rest : List Value) (below : List Waiting) → Left p m f g h ls rest below → (n : ℕ) (object : Object) (there : get h n ≡ Some object) (old v : Value)
    (has : field_in object.fields message_field ≡ Some old) → Fits p h (field_sort p message_field) v → refers v ≡ refers old → Left p m f g (insert h n (record object { fields = with_field object.fields message_field v })) ls rest below
left_written p m f g h ls rest below left n object there old v has fit same = (
  left.0,
  same_holds p m f g left.0 h (insert h n (record object { fields = with_field object.fields message_field v })) ls rest below left.1 (grows p h n object there message_field old v has) (heap_fits p h n object there message_field old v has left.1.heap fit)
      (same_has p h n object (record object { fields = with_field object.fields message_field v }) there refl) (same_trees p h n object there message_field old v has (λ d x is. same)) f.stack g.stack rest left.1.slots.on_stack,
)

append_nil : (os : List Operand) → os ++ [] ≡ os
append_nil [] = refl
append_nil (o ∷ os) = ap (λ z. o ∷ z) (append_nil os)

module _ (p : Program) (k : ProgramKeeps p) (m : Method) (pl to : ℕ) (f f1 : Types) (g g1 : Graph) (at : ℕ → Option ℕ) (h : Objects) (ls st : List Value) (below : List Waiting) (after : Option Types) where
  abbrev EI : Instr → Effect → Type 0
  EI i e = E p m pl to f f1 g g1 at h ls st below after i e

  -- ---- invokevirtual

  module _ (id : MethodId) (s : IsStep p m pl to f f1 g g1 at h ls st below after (instr.Invokevirtual id)) (are : AreOf p h f.stack st) where
    module _ (named : Method) (is : method_at p id ≡ Some named) (vs : List Value) (r : Value) (rest : List Value) (e : st ≡ vs ++ r ∷ rest) (size : length vs ≡ length named.params) where
      typed : by_row p m pl (type.Takes (arguments named ++ (Is (class_vtype named.owner) ∷ [])) (result_types named.result) (virtual_rules m named)) f ≡ Ok f1
      unfolding row
      typed = subst (λ z. by_row p m pl (virtual_row m z) f ≡ Ok f1) is s.1

      taken : (all_meet p (arguments named ++ (Is (class_vtype named.owner) ∷ [])) f.stack ≡ true) × (f1 ≡ record f { stack = result_types named.result ++ drop (length (arguments named ++ (Is (class_vtype named.owner) ∷ []))) f.stack })
      taken = takes_passed p m pl (arguments named ++ (Is (class_vtype named.owner) ∷ [])) (result_types named.result) (virtual_rules m named) f f1 typed

      rules : type.further {A = Types} p (virtual_rules m named) f.stack (Ok (record f { stack = result_types named.result ++ drop (length (arguments named ++ (Is (class_vtype named.owner) ∷ []))) f.stack })) ≡ Ok f1
      rules =
          let a = rule_passed 3 (type.has_operands (length (arguments named ++ (Is (class_vtype named.owner) ∷ []))) f.stack) _ f1 typed in
          let b = rule_passed 4 (type.room_for m (result_types named.result) (drop (length (arguments named ++ (Is (class_vtype named.owner) ∷ []))) f.stack)) _ f1 a.1 in
          (rule_passed 5 (all_meet p (arguments named ++ (Is (class_vtype named.owner) ∷ [])) f.stack) _ f1 b.1).1

      instance : named.is_static ≡ false
      instance = not_true named.is_static (and_left (not named.is_static) (type.may_name m named.is_private named.owner)
          (and_left (not named.is_static && type.may_name m named.is_private named.owner) true (rule_passed 8 ((not named.is_static && type.may_name m named.is_private named.owner) && true) _ f1 rules).0))

      no_constructor : is_constructor named ≡ false
      no_constructor = not_true (is_constructor named) (and_left (not (is_constructor named)) true (rule_passed 10 (not (is_constructor named) && true) _ f1 (rule_passed 8 ((not named.is_static && type.may_name m named.is_private named.owner) && true) _ f1 rules).1).0)

      deed_is : deed p m g f (instr.Invokevirtual id) ≡ calls_with p named (all_passed named g f.stack) g
      unfolding deed
      deed_is = ap (calls p g f.stack) is

      raised_is : (raised_deed p g f (instr.Invokevirtual id)).graph ≡ handler_graph (after_call p (all_passed named g f.stack) g)
      unfolding raised_deed
      raised_is = ap (λ z. (call_raises p g f.stack z).graph) is

      edge : Among (edges (instr.Invokevirtual id) to) to
      unfolding ends_path jump_targets
      edge = inl refl

      chosen_left : (c : Ty) → class_of p h r ≡ Some c → EI (instr.Invokevirtual id) (calls_method (method_at p (chosen p named id c)) (chosen p named id c) (r ∷ reverse vs) to ls rest h)
      chosen_left c of =
          let w = k.choose.selects id named is instance no_constructor c
          (receiver_class p k m pl to f f1 g g1 at h ls st below after (instr.Invokevirtual id) s edge named (k.sized id named is) deed_is raised_is instance vs r rest e size no_constructor taken.0 taken.1 are c of) in
          subst (λ z. EI (instr.Invokevirtual id) (calls_method z (chosen p named id c) (r ∷ reverse vs) to ls rest h)) (sym w.1)
          (instance_left p k m pl to f f1 g g1 at h ls st below after (instr.Invokevirtual id) s edge named (k.sized id named is) deed_is raised_is instance vs r rest e size no_constructor taken.0 taken.1 w.0 (chosen p named id c) w.1 w.2)

      number_left : is_text_method p named ≡ true → (x : ℤ) → EI (instr.Invokevirtual id) (Goes to ls (Int x ∷ rest) h)
      number_left text x =
          let w = k.texts id named is text instance no_constructor in
          (edge, text_left p k m pl to f f1 g g1 at h ls st below after (instr.Invokevirtual id) s edge named (k.sized id named is) deed_is raised_is instance vs r rest e size no_constructor taken.0 taken.1 w.0 w.1 w.2 w.3 x)

      answers_h : ((x : ℤ) → EI (instr.Invokevirtual id) (Goes to ls (Int x ∷ rest) h)) → (units : List ℕ) (as1 : List Value) → EI (instr.Invokevirtual id) (text_answers named.name units as1 (λ v. Goes to ls (v ∷ rest) h))
      answers_h w units [] = when_h (EI (instr.Invokevirtual id)) tt (λ c. tt) (λ c. tt) (bytes_eq named.name (codes "length")) _ (λ q. w (int_length (length units)))
      answers_h w units (v ∷ []) = cond_h (EI (instr.Invokevirtual id)) tt (λ c. tt) (λ c. tt) (bytes_eq named.name (codes "equals")) _ _ (λ q. w (bit (is_text units (text_of v))))
          (λ q. when_h (EI (instr.Invokevirtual id)) tt (λ c. tt) (λ c. tt) (bytes_eq named.name (codes "charAt")) _ (λ q'. Rattle.kilim_isolation_laws.proofs.graph_rows.Words.int_h (EI (instr.Invokevirtual id)) tt (λ c. tt) (λ c. tt) v _ (λ i is_i. of_int i)))
        where
          of_unit : (o : Option ℕ) → EI (instr.Invokevirtual id) (at_unit o (λ v. Goes to ls (v ∷ rest) h))
          of_unit None = tt
          of_unit (Some unit) = w (pos unit)

          of_int : (i : ℤ) → EI (instr.Invokevirtual id) (unit_at units i (λ v. Goes to ls (v ∷ rest) h))
          of_int (negsuc i) = tt
          of_int (pos i) = of_unit (slice_get units i)
      answers_h w units (v ∷ u ∷ as1) = tt

      pub virtual_h : EI (instr.Invokevirtual id) (cond (is_text_method p named) (calls_text named (reverse vs) to ls rest h r) (Rattle.kilim_run_machine.specs.Effect.as_class p r h (calls_on p named id (reverse vs) to ls rest h r)))
      virtual_h = cond_h (EI (instr.Invokevirtual id)) tt (λ c. tt) (λ c. tt) (is_text_method p named) _ _
          (λ text. receiver_h (EI (instr.Invokevirtual id)) tt (λ c. tt) (λ c. tt) r _ (λ narrow. some_h (EI (instr.Invokevirtual id)) tt (λ c. tt) (λ c. tt) (text_of r) _ (λ units q. answers_h (number_left text) units (reverse vs))))
          (λ plain. class_of_h (EI (instr.Invokevirtual id)) tt (λ c. tt) (λ c. tt) p r h _ (λ class of. by class of))
        where
          by : (class : Option Ty) → class_of p h r ≡ class → EI (instr.Invokevirtual id) (calls_on p named id (reverse vs) to ls rest h r class)
          by None of = tt
          by (Some c) of = chosen_left c of

    pub invokevirtual_h : EI (instr.Invokevirtual id) (does p m (instr.Invokevirtual id) to ls st h)
    unfolding does
    invokevirtual_h = some_h (EI (instr.Invokevirtual id)) tt (λ c. tt) (λ c. tt) (method_at p id) _ (λ named is. values_h (EI (instr.Invokevirtual id)) tt (λ c. tt) (λ c. tt) (length named.params) st _ (λ vs under e size.
        value_h (EI (instr.Invokevirtual id)) tt (λ c. tt) (λ c. tt) under _ (λ r rest e'. virtual_h named is vs r rest (e ∙ ap (λ z. vs ++ z) e') size)))

  -- ---- invokespecial

  module _ (id : MethodId) (s : IsStep p m pl to f f1 g g1 at h ls st below after (instr.Invokespecial id)) where
    special_deed : (named : Method) → method_at p id ≡ Some named → deed p m g f (instr.Invokespecial id) ≡ calls_with p named (all_passed named g f.stack) g
    unfolding deed
    special_deed named is = ap (calls p g f.stack) is

    special_raised : (named : Method) → method_at p id ≡ Some named → (raised_deed p g f (instr.Invokespecial id)).graph ≡ handler_graph (after_call p (all_passed named g f.stack) g)
    unfolding raised_deed
    special_raised named is = ap (λ z. (call_raises p g f.stack z).graph) is

    special_edge : Among (edges (instr.Invokespecial id) to) to
    unfolding ends_path jump_targets
    special_edge = inl refl

    row_is : (named : Method) → method_at p id ≡ Some named → (b : Bool) → is_constructor named ≡ b → by_row p m pl (type.special_by b p m id named) f ≡ Ok f1
    unfolding row
    row_is named is b con = subst (λ z. by_row p m pl (type.special_by z p m id named) f ≡ Ok f1) con (subst (λ z. by_row p m pl (special_row p m id z) f ≡ Ok f1) is s.1)

    -- a method of a superclass, or a private one
    module _ (named : Method) (is : method_at p id ≡ Some named) (plain : is_constructor named ≡ false) (vs : List Value) (r : Value) (rest : List Value) (e : st ≡ vs ++ r ∷ rest) (size : length vs ≡ length named.params) where
      special_typed : by_row p m pl (type.Takes (arguments named ++ (Is (class_vtype named.owner) ∷ [])) (result_types named.result) (special_rules p m id named)) f ≡ Ok f1
      special_typed = row_is named is false plain

      special_taken : (all_meet p (arguments named ++ (Is (class_vtype named.owner) ∷ [])) f.stack ≡ true) × (f1 ≡ record f { stack = result_types named.result ++ drop (length (arguments named ++ (Is (class_vtype named.owner) ∷ []))) f.stack })
      special_taken = takes_passed p m pl (arguments named ++ (Is (class_vtype named.owner) ∷ [])) (result_types named.result) (special_rules p m id named) f f1 special_typed

      special_needs : type.further {A = Types} p (special_rules p m id named) f.stack (Ok (record f { stack = result_types named.result ++ drop (length (arguments named ++ (Is (class_vtype named.owner) ∷ []))) f.stack })) ≡ Ok f1
      special_needs =
          let a = rule_passed 3 (type.has_operands (length (arguments named ++ (Is (class_vtype named.owner) ∷ []))) f.stack) _ f1 special_typed in
          let b = rule_passed 4 (type.room_for m (result_types named.result) (drop (length (arguments named ++ (Is (class_vtype named.owner) ∷ []))) f.stack)) _ f1 a.1 in
          (rule_passed 5 (all_meet p (arguments named ++ (Is (class_vtype named.owner) ∷ [])) f.stack) _ f1 b.1).1

      passed_rules : (named.is_static ≡ false) × (special_fits p m id named ≡ true) × (type.may_name m named.is_private named.owner ≡ true)
      passed_rules =
          let a = rule_passed 5 (true && all_meet p (type.also_own m named).operands f.stack) _ f1 special_needs in
          let b = rule_passed 8 ((not named.is_static && type.may_name m named.is_private named.owner) && true) _ f1 a.1 in
          let c = rule_passed 14 (special_fits p m id named && true) _ f1 b.1 in
          (not_true named.is_static (and_left (not named.is_static) (type.may_name m named.is_private named.owner) (and_left (not named.is_static && type.may_name m named.is_private named.owner) true b.0)), and_left (special_fits p m id named) true c.0, and_right (not named.is_static) (type.may_name m named.is_private named.owner) (and_left (not named.is_static && type.may_name m named.is_private named.owner) true b.0))

      special_left : EI (instr.Invokespecial id) (calls_method (method_at p (special p m named id)) (special p m named id) (r ∷ reverse vs) to ls rest h)
      special_left =
          let w = k.choose.specials m id named is passed_rules.0 plain passed_rules.2 passed_rules.1 in
          subst (λ z. EI (instr.Invokespecial id) (calls_method z (special p m named id) (r ∷ reverse vs) to ls rest h)) (sym w.1)
          (instance_left p k m pl to f f1 g g1 at h ls st below after (instr.Invokespecial id) s special_edge named (k.sized id named is) (special_deed named is) (special_raised named is) passed_rules.0 vs r rest e size plain special_taken.0 special_taken.1 w.0 (special p m named id) w.1 w.2)

    -- a constructor
    module _ (named : Method) (is : method_at p id ≡ Some named) (con : is_constructor named ≡ true) (vs : List Value) (r : Value) (rest : List Value) (e : st ≡ vs ++ r ∷ rest) (size : length vs ≡ length named.params) where
      count : length (arguments named) ≡ length named.params
      count = ap length (arguments_are p m h (named_by g at) (length g.nodes) named) ∙ Rattle.kilim_isolation_laws.proofs.graph_rows.Invoke.length_map (reverse named.params) ∙ length-reverse named.params

      built : (all_meet p (arguments named) f.stack ≡ true) × (named.is_static ≡ false) × IsConstructed p m named f f1 (drop (length (arguments named)) f.stack)
      built =
          let a3 = rule_passed 3 (type.has_operands (suc (length (arguments named))) f.stack) _ f1 (row_is named is true con) in
          let a4 = rule_passed 4 (type.room_for m (result_types named.result) (drop (suc (length (arguments named))) f.stack)) _ f1 a3.1 in
          let a5 = rule_passed 5 (all_meet p (arguments named) f.stack) _ f1 a4.1 in
          let a8 = rule_passed 8 ((not named.is_static && type.may_name m named.is_private named.owner) && true) _ f1 a5.1 in (
            a5.0,
            not_true named.is_static (and_left (not named.is_static) (type.may_name m named.is_private named.owner) (and_left (not named.is_static && type.may_name m named.is_private named.owner) true a8.0)),
            constructed_is p m named f f1 (type.needs 14 (not named.is_abstract) ∷ []) (drop (length (arguments named)) f.stack) a8.1,
          )

      abbrev c : IsConstructed p m named f f1 (drop (length (arguments named)) f.stack)
      c = built.2

      on_top : (peek f.stack (length named.params) ≡ built.2.old) × (drop (takes_from named) f.stack ≡ built.2.rest)
      on_top =
          let w = peek_drop (length (arguments named)) f.stack built.2.old built.2.rest built.2.is in
          (ap (peek f.stack) (sym count) ∙ w.0, ap (λ n. drop n f.stack) (Rattle.kilim_isolation_laws.proofs.graph_rows.Invoke.takes_is p k m pl to f f1 g g1 at h ls st below after (instr.Invokespecial id) s special_edge named (k.sized id named is) (special_deed named is) (special_raised named is) built.1 vs r rest e size ∙ plus_one (length named.params) ∙ ap suc (sym count)) ∙ w.1)
        where
          plus_one : (n : ℕ) → n + 1 ≡ suc n
          plus_one n = omega arith

      abbrev types : Types
      types = record { locals = replaced built.2.old built.2.new f.locals; stack = replaced built.2.old built.2.new built.2.rest; unset = built.2.unset }

      receiver_here : SlotFits p h (named_by g at) (length g.nodes) (object_sort p (class_type built.2.made.0)) (slot g.stack (length named.params)) r
      receiver_here = subst (λ z. SlotFits p h (named_by g at) (length g.nodes) z (slot g.stack (length named.params)) r) (ap (sort p m) on_top.0 ∙ built.2.sort_is)
          (receiver_on_stack p k m pl to f f1 g g1 at h ls st below after (instr.Invokespecial id) s special_edge named (k.sized id named is) (special_deed named is) (special_raised named is) built.1 vs r rest e size)

      rest_here : AreSlots p m h (named_by g at) (length g.nodes) (drop (takes_from named) f.stack) (drop (takes_from named) g.stack) rest
      rest_here = rest_on_stack p k m pl to f f1 g g1 at h ls st below after (instr.Invokespecial id) s special_edge named (k.sized id named is) (special_deed named is) (special_raised named is) built.1 vs r rest e size

      live : PassedLive (named_by g at) (all_passed named g f.stack)
      live = begun_live p k m pl to f f1 g g1 at h ls st below after (instr.Invokespecial id) s special_edge named (k.sized id named is) (special_deed named is) (special_raised named is) built.1 vs r rest e size [] (ap (λ z. all_meet p z f.stack) (append_nil (arguments named)) ∙ built.0)

      meets_here : object_sort p (class_type built.2.made.0) ≡ object_sort p (class_type named.owner.0) → ArgsMeet p h (named_by g at) (length g.nodes) (all_passed named g f.stack) (r ∷ reverse vs) (parameters_of named)
      meets_here same = begun_meet p k m pl to f f1 g g1 at h ls st below after (instr.Invokespecial id) s special_edge named (k.sized id named is) (special_deed named is) (special_raised named is) built.1 vs r rest e size con [] (ap (λ z. all_meet p z f.stack) (append_nil (arguments named)) ∙ built.0)
          (subst (λ z. SlotFits p h (named_by g at) (length g.nodes) z (slot g.stack (length named.params)) r) same receiver_here)

      slots : SlotsFit p m (record { locals = replaced built.2.old built.2.new f.locals; stack = replaced built.2.old built.2.new built.2.rest; unset = built.2.unset })
          (popped (takes_from named) (after_call p (all_passed named g f.stack) g)) at h ls rest
      slots = replaced_fit p m built.2.old built.2.new built.2.same f built.2.unset built.2.rest (popped (takes_from named) (after_call p (all_passed named g f.stack) g)) at h ls rest
          (subst (λ z. SlotsFit p m (record f { stack = z }) (popped (takes_from named) (after_call p (all_passed named g f.stack) g)) at h ls rest) on_top.1
          (caller_slots p m f g at h ls st below s.0 (all_passed named g f.stack) live (free p k m pl to f f1 g g1 at h ls st below after (instr.Invokespecial id) s special_edge named (k.sized id named is) (special_deed named is) (special_raised named is)) (shared p k m pl to f f1 g g1 at h ls st below after (instr.Invokespecial id) s special_edge named (k.sized id named is) (special_deed named is) (special_raised named is)) (cuttable p k m pl to f f1 g g1 at h ls st below after (instr.Invokespecial id) s special_edge named (k.sized id named is) (special_deed named is) (special_raised named is)) (takes_from named) rest rest_here))

      same_sort : (named.built_in ≡ true → class_kind p named.owner ≡ kind.Private → ⊥) → object_sort p (class_type built.2.made.0) ≡ object_sort p (class_type named.owner.0)
      same_sort not_private = elim built.2.owner [
        | inl same ↦ ap (λ n. object_sort p (class_type n)) (sym same)
        | inr w ↦ elim (k.above built.2.made w.0 w.1) [
          | inl eq ↦ sym eq ∙ ap (λ n. object_sort p (class_type n)) (sym w.2)
          | inr priv ↦ absurd (not_private (priv.1 id named is w.2) (ap (λ n. class_kind p (class_id n)) w.2 ∙ priv.0))
        ]
      ]

      constructs_left : named.built_in ≡ false → EI (instr.Invokespecial id) (calls_method (method_at p (special p m named id)) (special p m named id) (r ∷ reverse vs) to ls rest h)
      constructs_left own = subst (λ z. EI (instr.Invokespecial id) (calls_method (method_at p z) z (r ∷ reverse vs) to ls rest h)) (sym itself)
          (subst (λ z. EI (instr.Invokespecial id) (calls_method z id (r ∷ reverse vs) to ls rest h)) (sym is)
          (subst (λ b. EI (instr.Invokespecial id) (cond b (calls_built_in named id (r ∷ reverse vs) to ls rest h) (Calls id (r ∷ reverse vs) to ls rest h))) (sym own) (special_edge, refl, call)))
        where
          itself : special p m named id ≡ id
          itself = ap (λ b. cond (b || named.owner.0 == m.owner.0) id (Rattle.kilim_run_machine.specs.Does.above_of p named id (Rattle.kilim_run_machine.specs.Does.superclass_of (class_at p m.owner)))) con

          same : object_sort p (class_type built.2.made.0) ≡ object_sort p (class_type named.owner.0)
          same = same_sort (λ b q. true≢false (sym b ∙ own))

          call : CallHolds p m f1 g1 f (raised_deed p g f (instr.Invokespecial id)).graph h id (r ∷ reverse vs) ls rest below
          call = call_holds p m f g at h ls st below s.0 (all_passed named g f.stack) (r ∷ reverse vs) named (meets_here same) (free p k m pl to f f1 g g1 at h ls st below after (instr.Invokespecial id) s special_edge named (k.sized id named is) (special_deed named is) (special_raised named is)) (shared p k m pl to f f1 g g1 at h ls st below after (instr.Invokespecial id) s special_edge named (k.sized id named is) (special_deed named is) (special_raised named is)) (cuttable p k m pl to f f1 g g1 at h ls st below after (instr.Invokespecial id) s special_edge named (k.sized id named is) (special_deed named is) (special_raised named is)) (k.sized id named is) id
              (record { locals = replaced built.2.old built.2.new f.locals; stack = replaced built.2.old built.2.new built.2.rest; unset = built.2.unset }) (takes_from named) rest f1 g1 is slots built.2.types (graph p k m pl to f f1 g g1 at h ls st below after (instr.Invokespecial id) s special_edge named (k.sized id named is) (special_deed named is) (special_raised named is)) (raised_deed p g f (instr.Invokespecial id)).graph (special_raised named is) (λ j. sym (replaced_peek p m built.2.old built.2.new built.2.same f.locals j))

      -- a built-in one that takes something is asked; it is given no tree
      constructor_asked : named.built_in ≡ true → EI (instr.Invokespecial id) (Asks id (r ∷ reverse vs) to ls rest h)
      constructor_asked own = (special_edge, refl, native)
        where
          facts : (named.result ≡ None) × (named.receiver ≡ qualifier.Cuttable) × (list_all (same_qualifier qualifier.Safe) named.qualifiers ≡ true)
          facts = k.constructors id named is own con

          hd : Holds p m (record f { stack = drop (takes_from named) f.stack }) (popped (takes_from named) (after_call p (all_passed named g f.stack) g)) at h ls rest below
          hd = caller_holds p m f g at h ls st below s.0 (all_passed named g f.stack) live (free p k m pl to f f1 g g1 at h ls st below after (instr.Invokespecial id) s special_edge named (k.sized id named is) (special_deed named is) (special_raised named is)) (shared p k m pl to f f1 g g1 at h ls st below after (instr.Invokespecial id) s special_edge named (k.sized id named is) (special_deed named is) (special_raised named is)) (cuttable p k m pl to f f1 g g1 at h ls st below after (instr.Invokespecial id) s special_edge named (k.sized id named is) (special_deed named is) (special_raised named is)) (takes_from named) rest rest_here

          native : NativeHolds p m f1 g1 f (raised_deed p g f (instr.Invokespecial id)).graph h id (r ∷ reverse vs) ls rest below
          native = record {
            callee = named;
            is = is;
            types = f;
            kept = record { locals = replaced built.2.old built.2.new f.locals; stack = replaced built.2.old built.2.new built.2.rest; unset = built.2.unset };
            graph = g;
            at = at;
            values = st;
            stands = s.0;
            passed = all_passed named g f.stack;
            takes = takes_from named;
            hands = inr (none_free p named facts.1 facts.2);
            after = built.2.types;
            left = graph p k m pl to f f1 g g1 at h ls st below after (instr.Invokespecial id) s special_edge named (k.sized id named is) (special_deed named is) (special_raised named is);
            raised_is = special_raised named is;
            sorts = λ j. sym (replaced_peek p m built.2.old built.2.new built.2.same f.locals j);
            waits = record {
              slots = slots;
              tidy = hd.tidy;
              within = after_within p m f g at h ls st below s.0 (all_passed named g f.stack) live (free p k m pl to f f1 g g1 at h ls st below after (instr.Invokespecial id) s special_edge named (k.sized id named is) (special_deed named is) (special_raised named is)) (shared p k m pl to f f1 g g1 at h ls st below after (instr.Invokespecial id) s special_edge named (k.sized id named is) (special_deed named is) (special_raised named is)) (cuttable p k m pl to f f1 g g1 at h ls st below after (instr.Invokespecial id) s special_edge named (k.sized id named is) (special_deed named is) (special_raised named is));
            };
            frames = hd.frames;
          }

      -- a built-in one changes the types alone, and what was known below the object
      module _ (here : named.built_in ≡ true) where
        none : named.result ≡ None
        none = (k.constructors id named is here con).0

        f_is : f1 ≡ record { locals = replaced built.2.old built.2.new f.locals; stack = replaced built.2.old built.2.new built.2.rest; unset = built.2.unset }
        f_is = built.2.types ∙ ap (λ z. record { locals = replaced built.2.old built.2.new f.locals; stack = result_types z ++ replaced built.2.old built.2.new built.2.rest; unset = built.2.unset }) none

        g_is : g1 ≡ popped (takes_from named) (after_call p (all_passed named g f.stack) g)
        g_is = graph p k m pl to f f1 g g1 at h ls st below after (instr.Invokespecial id) s special_edge named (k.sized id named is) (special_deed named is) (special_raised named is) ∙ ap (λ z. given_result p z (popped (takes_from named) (after_call p (all_passed named g f.stack) g))) none

        pub begun_left : Left p m f1 g1 h ls rest below
        begun_left =
            let hd = caller_holds p m f g at h ls st below s.0 (all_passed named g f.stack) live (free p k m pl to f f1 g g1 at h ls st below after (instr.Invokespecial id) s special_edge named (k.sized id named is) (special_deed named is) (special_raised named is)) (shared p k m pl to f f1 g g1 at h ls st below after (instr.Invokespecial id) s special_edge named (k.sized id named is) (special_deed named is) (special_raised named is)) (cuttable p k m pl to f f1 g g1 at h ls st below after (instr.Invokespecial id) s special_edge named (k.sized id named is) (special_deed named is) (special_raised named is)) (takes_from named) rest rest_here in (
              at,
              subst (λ z. Holds p m z g1 at h ls rest below) (sym f_is)
                  (subst (λ z. Holds p m (record { locals = replaced built.2.old built.2.new f.locals; stack = replaced built.2.old built.2.new built.2.rest; unset = built.2.unset }) z at h ls rest below) (sym g_is)
                  (record { heap = hd.heap; forest = hd.forest; frames = hd.frames; tidy = hd.tidy; waits = hd.waits; slots = slots })),
            )

        -- what keeps the message puts a value into a field
        message_kept : (args : List Value) → reverse vs ≡ args → is_message_constructor named ≡ true → EI (instr.Invokespecial id) (keeps_message (r ∷ args) to ls rest h)
        message_kept [] values keeps = tt
        message_kept (v ∷ w ∷ ws) values keeps = tt
        message_kept (v ∷ []) values keeps = as_object_h (EI (instr.Invokespecial id)) tt (λ c. tt) (λ c. tt) r h _ (λ n object is_at there.
            some_h (EI (instr.Invokespecial id)) tt (λ c. tt) (λ c. tt) (field_in object.fields message_field) _ (λ old has.
            (special_edge, left_written p m f1 g1 h ls rest below begun_left n object there old v has (subst (λ z. Fits p h z v) (sym k.message) (fit v values keeps)) (names_same n object there old v has (fit v values keeps)))))
          where
            fit : (v : Value) → reverse vs ≡ v ∷ [] → is_message_constructor named ≡ true → Fits p h Word v
            fit v values keeps =
                let one = k.keeps_messages id named is keeps in
                one_value p k m pl to f f1 g g1 at h ls st below after (instr.Invokespecial id) s special_edge named (k.sized id named is) (special_deed named is) (special_raised named is) built.1 vs r rest e size
                (ap (λ z. all_meet p z f.stack) (append_nil (arguments named)) ∙ built.0) one.0 one.1 one.2 v values

            names_same : (n : ℕ) (object : Object) → get h n ≡ Some object → (old v : Value) → field_in object.fields message_field ≡ Some old → Fits p h Word v → refers v ≡ refers old
            names_same n object there old v has word =
                let was : Fits p h Word old = subst (λ z. Fits p h z old) k.message ((s.0.holds.heap n object there).fields message_field old has).0 in
                word.1 ∙ sym was.1

        pub built_left : EI (instr.Invokespecial id) (calls_method (method_at p (special p m named id)) (special p m named id) (r ∷ reverse vs) to ls rest h)
        built_left = subst (λ z. EI (instr.Invokespecial id) (calls_method (method_at p z) z (r ∷ reverse vs) to ls rest h)) (sym itself)
            (subst (λ z. EI (instr.Invokespecial id) (calls_method z id (r ∷ reverse vs) to ls rest h)) (sym is)
            (subst (λ b. EI (instr.Invokespecial id) (cond b (calls_built_in named id (r ∷ reverse vs) to ls rest h) (Calls id (r ∷ reverse vs) to ls rest h))) (sym here)
            (cond_h (EI (instr.Invokespecial id)) tt (λ c. tt) (λ c. tt) (is_message_constructor named) _ _ (λ keeps. message_kept (reverse vs) refl keeps)
            (λ other. cond_h (EI (instr.Invokespecial id)) tt (λ c. tt) (λ c. tt) (is_get_message named) _ _ (λ get. absurd (no_message get)) (λ none_of. constructor_asked here)))))
          where
            itself : special p m named id ≡ id
            itself = ap (λ b. cond (b || named.owner.0 == m.owner.0) id (Rattle.kilim_run_machine.specs.Does.above_of p named id (Rattle.kilim_run_machine.specs.Does.superclass_of (class_at p m.owner)))) con

            no_message : is_get_message named ≡ true → ⊥
            no_message get =
                let name : named.name ≡ codes "getMessage" = text_is named.name (codes "getMessage") (and_right named.built_in _ get) in
                let no : false ≡ true = ap (λ (t : List ℕ). bytes_eq t (codes "<init>")) (sym name) ∙ con in
                cc

    no_params : (ps : List Ty) → is_empty ps ≡ true → ps ≡ []
    no_params [] e = refl
    no_params (x ∷ ps) e = absurd (true≢false (sym e))

    pub invokespecial_h : EI (instr.Invokespecial id) (does p m (instr.Invokespecial id) to ls st h)
    unfolding does
    invokespecial_h = some_h (EI (instr.Invokespecial id)) tt (λ c. tt) (λ c. tt) (method_at p id) _ (λ named is. cond_h (EI (instr.Invokespecial id)) tt (λ c. tt) (λ c. tt) (is_built_in_constructor named) _ _
        (λ own. on_receiver_h (EI (instr.Invokespecial id)) tt (λ c. tt) (λ c. tt) st _ (λ r rest e narrow.
        let con = and_left (is_constructor named) (is_empty named.params) (Rattle.kilim_isolation_laws.proofs.graph_rows.Settle.and_right named.built_in (is_constructor named && is_empty named.params) own) in
        let empty = no_params named.params (Rattle.kilim_isolation_laws.proofs.graph_rows.Settle.and_right (is_constructor named) (is_empty named.params) (Rattle.kilim_isolation_laws.proofs.graph_rows.Settle.and_right named.built_in (is_constructor named && is_empty named.params) own)) in
        (special_edge, begun_left named is con [] r rest e (sym (ap length empty)) (and_left named.built_in (is_constructor named && is_empty named.params) own))))
        (λ other. values_h (EI (instr.Invokespecial id)) tt (λ c. tt) (λ c. tt) (length named.params) st _ (λ vs under e size. on_receiver_h (EI (instr.Invokespecial id)) tt (λ c. tt) (λ c. tt) under _ (λ r rest e' narrow.
        by named is other vs r rest (e ∙ ap (λ z. vs ++ z) e') size (is_constructor named) refl))))
      where
        by : (named : Method) → method_at p id ≡ Some named → is_built_in_constructor named ≡ false → (vs : List Value) (r : Value) (rest : List Value) → st ≡ vs ++ r ∷ rest → length vs ≡ length named.params → (b : Bool) → is_constructor named ≡ b →
            EI (instr.Invokespecial id) (calls_method (method_at p (special p m named id)) (special p m named id) (r ∷ reverse vs) to ls rest h)
        by named is other vs r rest e size false plain = special_left named is plain vs r rest e size
        by named is other vs r rest e size true con = by_own named.built_in refl
          where
            by_own : (b : Bool) → named.built_in ≡ b → EI (instr.Invokespecial id) (calls_method (method_at p (special p m named id)) (special p m named id) (r ∷ reverse vs) to ls rest h)
            by_own false own = constructs_left named is con vs r rest e size own
            by_own true own = built_left named is con vs r rest e size own

  -- ---- invokestatic

  module _ (id : MethodId) (s : IsStep p m pl to f f1 g g1 at h ls st below after (instr.Invokestatic id)) where
    module _ (named : Method) (is : method_at p id ≡ Some named) where
      static_deed : deed p m g f (instr.Invokestatic id) ≡ calls_with p named (all_passed named g f.stack) g
      unfolding deed
      static_deed = ap (calls p g f.stack) is

      static_raised : (raised_deed p g f (instr.Invokestatic id)).graph ≡ handler_graph (after_call p (all_passed named g f.stack) g)
      unfolding raised_deed
      static_raised = ap (λ z. (call_raises p g f.stack z).graph) is

      static_edge : Among (edges (instr.Invokestatic id) to) to
      unfolding ends_path jump_targets
      static_edge = inl refl

      static_typed : by_row p m pl (type.Takes (arguments named) (result_types named.result) (type.static_rules m named)) f ≡ Ok f1
      unfolding row
      static_typed = subst (λ z. by_row p m pl (type.static_row m z) f ≡ Ok f1) is s.1

      static_taken : (all_meet p (arguments named) f.stack ≡ true) × (f1 ≡ record f { stack = result_types named.result ++ drop (length (arguments named)) f.stack })
      static_taken = takes_passed p m pl (arguments named) (result_types named.result) (type.static_rules m named) f f1 static_typed

      pub is_static : named.is_static ≡ true
      is_static =
          let a = rule_passed 3 (type.has_operands (length (arguments named)) f.stack) _ f1 static_typed in
          let b = rule_passed 4 (type.room_for m (result_types named.result) (drop (length (arguments named)) f.stack)) _ f1 a.1 in
          let c = rule_passed 5 (all_meet p (arguments named) f.stack) _ f1 b.1 in
          let d = rule_passed 8 ((named.is_static && type.may_name m named.is_private named.owner) && true) _ f1 c.1 in
          and_left named.is_static (type.may_name m named.is_private named.owner) (and_left (named.is_static && type.may_name m named.is_private named.owner) true d.0)

      count_is : length (arguments named) ≡ takes_from named
      count_is = ap length (arguments_are p m h (named_by g at) (length g.nodes) named) ∙ Rattle.kilim_isolation_laws.proofs.graph_rows.Invoke.length_map (reverse named.params) ∙ length-reverse named.params
          ∙ sym (ap (λ b. length named.params + cond b 0 1) is_static ∙ plus_zero (length named.params))
        where
          plus_zero : (n : ℕ) → n + 0 ≡ n
          plus_zero n = omega arith

      params_of : all_passed named g f.stack ≡ parameters named.params named.qualifiers (reverse (take (length named.params) g.stack)) (reverse (take (length named.params) f.stack))
      params_of = ap (λ b. cond b (parameters named.params named.qualifiers (reverse (take (length named.params) g.stack)) (reverse (take (length named.params) f.stack)))
          (receiver named (slot g.stack (length named.params)) (peek f.stack (length named.params)) ∷ parameters named.params named.qualifiers (reverse (take (length named.params) g.stack)) (reverse (take (length named.params) f.stack)))) is_static

      declared_of : parameters_of named ≡ declared_parameters named.params named.qualifiers
      declared_of = ap (λ b. cond b (declared_parameters named.params named.qualifiers) (record { ty = class_type named.owner.0; qualifier = named.receiver } ∷ declared_parameters named.params named.qualifiers)) is_static

      module _ (vs rest : List Value) (e : st ≡ vs ++ rest) (size : length vs ≡ length named.params) where
        on_stack : AreSlots p m h (named_by g at) (length g.nodes) f.stack g.stack (vs ++ rest)
        on_stack = subst (λ z. AreSlots p m h (named_by g at) (length g.nodes) f.stack g.stack z) e s.0.holds.slots.on_stack

        lives : (j n : ℕ) → slot g.stack j ≡ Some n → is_gone (node_at g.nodes n).standing ≡ false
        lives j n x = slot_lives g g.stack (not_true (list_any (names_gone g) g.stack) s.0.live) j n x

        drop_front : (xs ys : List Value) (n : ℕ) → length xs ≡ n → drop n (xs ++ ys) ≡ ys
        drop_front [] ys zero q = refl
        drop_front [] ys (suc n) q = absurd (omega arith)
        drop_front (x ∷ xs) ys zero q = absurd (omega arith)
        drop_front (x ∷ xs) ys (suc n) q = drop_front xs ys n (omega arith)

        static_asked : EI (instr.Invokestatic id) (Asks id (reverse vs) to ls rest h)
        static_asked = asked_left p k m pl to f f1 g g1 at h ls st below after (instr.Invokestatic id) s static_edge named (k.sized id named is) static_deed static_raised named id is (reverse vs)
            (subst (λ z. ArgsFit p h (named_by g at) (length g.nodes) z (reverse vs) (parameters_of named)) (sym params_of)
            (subst (ArgsFit p h (named_by g at) (length g.nodes) (parameters named.params named.qualifiers (reverse (take (length named.params) g.stack)) (reverse (take (length named.params) f.stack))) (reverse vs)) (sym declared_of)
            (params_fit p m h (named_by g at) (length g.nodes) k.flow named [] f.stack g.stack vs rest (ap (λ z. all_meet p z f.stack) (append_nil (arguments named)) ∙ static_taken.0) on_stack size (λ j n x. lives j n x) (k.sized id named is)
            (ap (λ z. list_any (λ (a : Passed). not a.is_begun && mixes p a.ty (vtype.Object a.into)) z) (sym params_of)
            ∙ Rattle.kilim_isolation_laws.proofs.graph_rows.Invoke.mixed p k m pl to f f1 g g1 at h ls st below after (instr.Invokestatic id) s static_edge named (k.sized id named is) static_deed static_raised))))
            (k.sized id named is) refl rest
            (subst (λ z. AreSlots p m h (named_by g at) (length g.nodes) (drop (takes_from named) f.stack) (drop (takes_from named) g.stack) z) (drop_front vs rest (takes_from named) (size ∙ sym (length-reverse named.params) ∙ sym (Rattle.kilim_isolation_laws.proofs.graph_rows.Invoke.length_map (reverse named.params)) ∙ sym (ap length (arguments_are p m h (named_by g at) (length g.nodes) named)) ∙ count_is))
            (dropped p m h (named_by g at) (length g.nodes) (takes_from named) f.stack g.stack (vs ++ rest) on_stack))
            (static_taken.1 ∙ ap (λ n. record f { stack = result_types named.result ++ drop n f.stack }) count_is)

        static_begun : EI (instr.Invokestatic id) (Calls id (reverse vs) to ls rest h)
        static_begun = called_left p k m pl to f f1 g g1 at h ls st below after (instr.Invokestatic id) s static_edge named (k.sized id named is) static_deed static_raised named id is (reverse vs)
            (subst (λ z. ArgsFit p h (named_by g at) (length g.nodes) z (reverse vs) (parameters_of named)) (sym params_of)
            (subst (ArgsFit p h (named_by g at) (length g.nodes) (parameters named.params named.qualifiers (reverse (take (length named.params) g.stack)) (reverse (take (length named.params) f.stack))) (reverse vs)) (sym declared_of)
            (params_fit p m h (named_by g at) (length g.nodes) k.flow named [] f.stack g.stack vs rest (ap (λ z. all_meet p z f.stack) (append_nil (arguments named)) ∙ static_taken.0) on_stack size (λ j n x. lives j n x) (k.sized id named is)
            (ap (λ z. list_any (λ (a : Passed). not a.is_begun && mixes p a.ty (vtype.Object a.into)) z) (sym params_of)
            ∙ Rattle.kilim_isolation_laws.proofs.graph_rows.Invoke.mixed p k m pl to f f1 g g1 at h ls st below after (instr.Invokestatic id) s static_edge named (k.sized id named is) static_deed static_raised))))
            (k.sized id named is) refl rest
            (subst (λ z. AreSlots p m h (named_by g at) (length g.nodes) (drop (takes_from named) f.stack) (drop (takes_from named) g.stack) z) (drop_front vs rest (takes_from named) (size ∙ sym (length-reverse named.params) ∙ sym (Rattle.kilim_isolation_laws.proofs.graph_rows.Invoke.length_map (reverse named.params)) ∙ sym (ap length (arguments_are p m h (named_by g at) (length g.nodes) named)) ∙ count_is))
            (dropped p m h (named_by g at) (length g.nodes) (takes_from named) f.stack g.stack (vs ++ rest) on_stack))
            (static_taken.1 ∙ ap (λ n. record f { stack = result_types named.result ++ drop n f.stack }) count_is)

    pub invokestatic_h : ((named : Method) → method_at p id ≡ Some named → named.is_static ≡ true → is_handed_out p named ≡ false → named.built_in ≡ true → EI (instr.Invokestatic id) (takes_element to ls st h)) →
        EI (instr.Invokestatic id) (does p m (instr.Invokestatic id) to ls st h)
    unfolding does
    invokestatic_h take_h = some_h (EI (instr.Invokestatic id)) tt (λ c. tt) (λ c. tt) (method_at p id) _ (λ named is. cond_h (EI (instr.Invokestatic id)) tt (λ c. tt) (λ c. tt) (is_handed_out p named) _ _
        (λ out. values_h (EI (instr.Invokestatic id)) tt (λ c. tt) (λ c. tt) (length named.params) st _ (λ vs rest e size.
        static_asked named is vs rest e size))
        (λ other. cond_h (EI (instr.Invokestatic id)) tt (λ c. tt) (λ c. tt) named.built_in _ _ (λ built. take_h named is (is_static named is) other built)
        (λ own. values_h (EI (instr.Invokestatic id)) tt (λ c. tt) (λ c. tt) (length named.params) st _ (λ vs rest e size.
        static_begun named is vs rest e size))))
