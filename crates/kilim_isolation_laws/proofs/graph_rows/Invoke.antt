-- Calls: the arguments on the stack, and the method that runs.
use Rattle.kilim_program.specs.BuiltIn.{class_type, message_field}
use Rattle.kilim_program.specs.declared.ty.Qualifier.{Qualifier}
use Rattle.kilim_program.specs.Fits.{fits_type}
use Rattle.kilim_program.specs.Names.{method_at}
use Rattle.kilim_program.specs.Program.{Program}
use Rattle.kilim_program.specs.Same.{is_constructor}
use Rattle.kilim_program.specs.declared.class.Method.{Method}
use Rattle.kilim_program.specs.declared.instr.Instr.{Instr}
use Rattle.kilim_program.specs.declared.names.MethodId.{MethodId}
use Rattle.kilim_program.specs.declared.ty.Ty.{Ty}
use Rattle.kilim_program.specs.declared.value.Value.{Value}
use Rattle.kilim_program.specs.declared.verified.VType.TheVariants as vtype
use Rattle.kilim_program.specs.declared.verified.VType.{VType}
use Rattle.kilim_isolation_laws.specs.forest.Canonical.{node_at}
use Rattle.kilim_isolation_laws.specs.forest.Relation.{is_gone}
use Rattle.kilim_isolation_laws.proofs.graph_rows.Calling.{ArgsMeet, Knows, PassedLive, argument_lives, call_holds, caller_holds, caller_slots, meet, native_holds}
use Rattle.kilim_isolation_laws.proofs.graph_rows.Fields.{slot_sort}
use Rattle.kilim_isolation_laws.proofs.graph_rows.Putting.{slot_value}
use Rattle.kilim_isolation_laws.proofs.graph_rows.Invoking.{params_fit, arguments_are}
use Rattle.kilim_isolation_laws.proofs.graph_rows.Passed.{moves_passed, IsPassed}
use Rattle.kilim_isolation_laws.proofs.graph_rows.Plain.{IsStep, E, dropped}
use Rattle.kilim_isolation_laws.proofs.graph_rows.Reading.{slot_peeked, slot_lives, met}
use Rattle.kilim_isolation_laws.proofs.graph_rows.Settle.{and_left, and_right, not_true, or_left, or_right, flow_slot}
use Rattle.kilim_isolation_laws.proofs.graph_rows.Words.{as_object_h, cond_h, some_h}
use Rattle.kilim_isolation_laws.specs.graph_rows.Facts.{Agrees, AreOf, IsOfType, ProgramKeeps, class_of}
use Rattle.kilim_isolation_laws.specs.graph_rows.Holds.{AreSlots, Fits, Holds, SlotFits, Waiting, Word, named_by, sort, type_sort, unnamed}
use Rattle.kilim_isolation_laws.specs.graph_rows.Outcome.{ArgsFit, Left}
use Rattle.kilim_isolation_rules.specs.Calls.{quality_in, parameters, receiver, all_passed, calls_with, after_call, takes_from, given_result, is_free, is_cuttable, shares, any_two, handler_graph}
use Rattle.kilim_isolation_rules.specs.Marks.{mixes, names_gone, names_no_root, names_safe, given}
use Rattle.kilim_isolation_rules.specs.Rules.{deed, raised_deed}
use Rattle.kilim_isolation_rules.specs.declared.deed.Deed.{Deed}
use Rattle.kilim_isolation_rules.specs.declared.deed.Passed.{Passed}
use Rattle.kilim_run_machine.specs.Does.{calls_method, gives_message}
use Rattle.kilim_run_machine.specs.Effect.{Asks, Calls}
use Rattle.kilim_run_machine.specs.Natives.{is_get_message, is_message_constructor}
use Rattle.kilim_run_state.specs.Shapes.{field_in}
use Rattle.kilim_run_state.specs.Machine.{Objects}
use Rattle.kilim_isolation_graph.specs.Entry.{quality, parameters_of, declared_parameters}
use Rattle.kilim_isolation_graph.specs.Graphs.{slot, popped}
use Rattle.kilim_isolation_graph.specs.declared.graph.Graph.{Graph}
use Rattle.kilim_type_spec.specs.Step as type
use Rattle.kilim_program.specs.Kinds.{is_tree_kind, kind_of}
use Rattle.kilim_program.specs.declared.ty.Kind.TheVariants as kind
use Rattle.kilim_program.specs.declared.value.Value.TheVariants.{Int}
use Rattle.kilim_type_spec.specs.Typed.{Among, edges}
use Rattle.kilim_type_spec.specs.Step.{Types, peek, assignable, Operand, Is, meets, all_meet, arguments, class_vtype, result_types}
use Rattle.std.proofs.Common.{◌≡◌, ℕ, ℤ, zero, suc, ◌+◌, Bool, true, false, true≢false, not, ◌&&◌, cond, List, [], ◌∷◌, ◌++◌, map, length, reverse, Option, Some, None, refl, sym, ap, subst, ◌∙◌, inl, inr, arith}
use Rattle.std.proofs.lemmas.List.{length-reverse}
use Rattle.std.specs.List.{list_any}
use Rattle.std.specs.Prelude.{drop, take, slice_get}

pub get_past : (vs : List Value) (v : Value) (rest : List Value) → slice_get (vs ++ v ∷ rest) (length vs) ≡ Some v
get_past [] v rest = refl
get_past (x ∷ vs) v rest = get_past vs v rest

pub operand_past : (os : List Operand) (o : Operand) (n : ℕ) → length os ≡ n → slice_get (os ++ o ∷ []) n ≡ Some o
operand_past [] o zero e = refl
operand_past [] o (suc n) e = absurd (omega arith)
operand_past (x ∷ os) o zero e = absurd (omega arith)
operand_past (x ∷ os) o (suc n) e = operand_past os o n (omega arith)

pub drop_past : (vs : List Value) (v : Value) (rest : List Value) (n : ℕ) → length vs + 1 ≡ n → drop n (vs ++ v ∷ rest) ≡ rest
drop_past [] v rest zero e = absurd (omega arith)
drop_past [] v rest (suc zero) e = refl
drop_past [] v rest (suc (suc n)) e = absurd (omega arith)
drop_past (x ∷ vs) v rest zero e = absurd (omega arith)
drop_past (x ∷ vs) v rest (suc n) e = drop_past vs v rest n (omega arith)

pub length_map : (tys : List Ty) → length (map (λ ty. Is (type.vtype ty)) tys) ≡ length tys
length_map [] = refl
length_map (ty ∷ tys) = ap suc (length_map tys)

pub length_more : (os : List Operand) (o : Operand) → length (os ++ o ∷ []) ≡ length os + 1
length_more [] o = omega arith
length_more (x ∷ os) o =
    let e = length_more os o in
    omega arith

-- ---- a call of a named method: what the code names, with the arguments that lie on the stack

module _ (p : Program) (k : ProgramKeeps p) (m : Method) (pl to : ℕ) (f f1 : Types) (g g1 : Graph) (at : ℕ → Option ℕ) (h : Objects) (ls st : List Value) (below : List Waiting) (after : Option Types) (i : Instr)
    (s : IsStep p m pl to f f1 g g1 at h ls st below after i) (edge : Among (edges i to) to) (named : Method) (sized : length named.qualifiers ≡ length named.params)
    (deed_is : deed p m g f i ≡ calls_with p named (all_passed named g f.stack) g) (raised_is : (raised_deed p g f i).graph ≡ handler_graph (after_call p (all_passed named g f.stack) g)) where
  passed : IsPassed p m g f i after g1
  passed = moves_passed p m g f i after g1 s.2

  abbrev args : List Passed
  args = all_passed named g f.stack

  pub free : list_any (λ (a : Passed). is_free (quality_in p a) && names_no_root g a.name) (all_passed named g f.stack) ≡ false
  free = ap (λ (z : Deed). z.not_free) (sym deed_is) ∙ passed.not_free

  pub shared : any_two (shares p g) (all_passed named g f.stack) ≡ false
  shared = ap (λ (z : Deed). z.shared) (sym deed_is) ∙ passed.shared

  pub cuttable : list_any (λ (a : Passed). is_cuttable (quality_in p a) && names_safe g a.name) (all_passed named g f.stack) ≡ false
  cuttable = ap (λ (z : Deed). z.not_cuttable) (sym deed_is) ∙ passed.not_cuttable

  pub mixed : list_any (λ (a : Passed). not a.is_begun && mixes p a.ty (vtype.Object a.into)) (all_passed named g f.stack) ≡ false
  mixed = ap (λ (z : Deed). z.mixed) (sym deed_is) ∙ passed.mixed

  pub graph : g1 ≡ given_result p named.result (popped (takes_from named) (after_call p (all_passed named g f.stack) g))
  graph = passed.graph ∙ ap (λ (z : Deed). z.graph) deed_is

  pub lives : (j n : ℕ) → slot g.stack j ≡ Some n → is_gone (node_at g.nodes n).standing ≡ false
  lives j n x = slot_lives g g.stack (not_true (list_any (names_gone g) g.stack) s.0.live) j n x

  met_by : (callee : Method) (vals : List Value) → ArgsFit p h (named_by g at) (length g.nodes) (all_passed named g f.stack) vals (parameters_of callee) → ArgsMeet p h (named_by g at) (length g.nodes) (all_passed named g f.stack) vals (parameters_of callee)
  met_by callee vals fits = meet p h (named_by g at) (length g.nodes) (all_passed named g f.stack) vals (parameters_of callee) fits

  live_by : (callee : Method) (vals : List Value) → ArgsFit p h (named_by g at) (length g.nodes) (all_passed named g f.stack) vals (parameters_of callee) → PassedLive (named_by g at) (all_passed named g f.stack)
  live_by callee vals fits = argument_lives p h (named_by g at) (length g.nodes) (all_passed named g f.stack) vals (parameters_of callee) (met_by callee vals fits)

  -- the method that runs is asked for, or begins
  module _ (callee : Method) (run : MethodId) (found : method_at p run ≡ Some callee) (vals : List Value) (fits : ArgsFit p h (named_by g at) (length g.nodes) (all_passed named g f.stack) vals (parameters_of callee))
      (size : length callee.qualifiers ≡ length callee.params) (result : callee.result ≡ named.result) (rest : List Value)
      (slots : AreSlots p m h (named_by g at) (length g.nodes) (drop (takes_from named) f.stack) (drop (takes_from named) g.stack) rest) (types : f1 ≡ record f { stack = result_types named.result ++ drop (takes_from named) f.stack }) where
    types_are : f1 ≡ record f { stack = result_types callee.result ++ drop (takes_from named) f.stack }
    types_are = types ∙ ap (λ z. record f { stack = result_types z ++ drop (takes_from named) f.stack }) (sym result)

    graph_is : g1 ≡ given_result p callee.result (popped (takes_from named) (after_call p (all_passed named g f.stack) g))
    graph_is = graph ∙ ap (λ z. given_result p z (popped (takes_from named) (after_call p (all_passed named g f.stack) g))) (sym result)

    pub asked_left : E p m pl to f f1 g g1 at h ls st below after i (Asks run vals to ls rest h)
    asked_left = (edge, refl, native_holds p m f g at h ls st below s.0 (all_passed named g f.stack) vals callee (met_by callee vals fits) free shared cuttable size fits run (takes_from named) rest f1 g1 found slots types_are graph_is (raised_deed p g f i).graph raised_is)

    pub begun_left : E p m pl to f f1 g g1 at h ls st below after i (Calls run vals to ls rest h)
    begun_left = (
      edge,
      refl,
      call_holds p m f g at h ls st below s.0 (all_passed named g f.stack) vals callee (met_by callee vals fits) free shared cuttable size run (record f { stack = drop (takes_from named) f.stack }) (takes_from named) rest f1 g1 found
          (caller_slots p m f g at h ls st below s.0 (all_passed named g f.stack) (live_by callee vals fits) free shared cuttable (takes_from named) rest slots) types_are graph_is (raised_deed p g f i).graph raised_is (λ j. refl),
    )

  -- a method whose result is a value answers at once
  pub answered : (callee : Method) (vals : List Value) → ArgsFit p h (named_by g at) (length g.nodes) (all_passed named g f.stack) vals (parameters_of callee) → (rest : List Value) →
      AreSlots p m h (named_by g at) (length g.nodes) (drop (takes_from named) f.stack) (drop (takes_from named) g.stack) rest → f1 ≡ record f { stack = result_types named.result ++ drop (takes_from named) f.stack } →
      (ty : Ty) → named.result ≡ Some ty → sort p m (type.vtype ty) ≡ Word → kind_of p ty ≡ kind.Value → (v : Value) → Fits p h Word v → Left p m f1 g1 h ls (v ∷ rest) below
  answered callee vals fits rest slots types ty result word value v fit =
      let hd = caller_holds p m f g at h ls st below s.0 (all_passed named g f.stack) (live_by callee vals fits) free shared cuttable (takes_from named) rest slots in (
        at,
        subst (λ z. Holds p m z g1 at h ls (v ∷ rest) below) (sym (types ∙ ap (λ z. record f { stack = result_types z ++ drop (takes_from named) f.stack }) result))
            (subst (λ z. Holds p m (record f { stack = type.vtype ty ∷ drop (takes_from named) f.stack }) z at h ls (v ∷ rest) below)
            (sym (graph ∙ ap (λ z. given_result p z (popped (takes_from named) (after_call p (all_passed named g f.stack) g))) result
            ∙ ap (λ z. given z (popped (takes_from named) (after_call p (all_passed named g f.stack) g))) value))
            (record { heap = hd.heap; forest = hd.forest; frames = hd.frames; tidy = hd.tidy; waits = hd.waits; slots = record { on_stack = (subst (λ z. Fits p h (unnamed z) v) (sym word) fit, hd.slots.on_stack); in_locals = hd.slots.in_locals } })),
      )

  -- ---- with a receiver

  module _ (instance : named.is_static ≡ false) (vs : List Value) (r : Value) (rest : List Value) (e : st ≡ vs ++ r ∷ rest) (size : length vs ≡ length named.params) where
    abbrev params : List Passed
    params = parameters named.params named.qualifiers (reverse (take (length named.params) g.stack)) (reverse (take (length named.params) f.stack))

    pub args_are : all_passed named g f.stack ≡ receiver named (slot g.stack (length named.params)) (peek f.stack (length named.params)) ∷ parameters named.params named.qualifiers (reverse (take (length named.params) g.stack)) (reverse (take (length named.params) f.stack))
    args_are = ap (λ b. cond b params (receiver named (slot g.stack (length named.params)) (peek f.stack (length named.params)) ∷ parameters named.params named.qualifiers (reverse (take (length named.params) g.stack)) (reverse (take (length named.params) f.stack)))) instance

    pub mixed_here : list_any (λ (a : Passed). not a.is_begun && mixes p a.ty (vtype.Object a.into)) (receiver named (slot g.stack (length named.params)) (peek f.stack (length named.params)) ∷ parameters named.params named.qualifiers (reverse (take (length named.params) g.stack)) (reverse (take (length named.params) f.stack))) ≡ false
    mixed_here = ap (λ z. list_any (λ (a : Passed). not a.is_begun && mixes p a.ty (vtype.Object a.into)) z) (sym args_are) ∙ mixed

    on_stack : AreSlots p m h (named_by g at) (length g.nodes) f.stack g.stack (vs ++ r ∷ rest)
    on_stack = subst (λ z. AreSlots p m h (named_by g at) (length g.nodes) f.stack g.stack z) e s.0.holds.slots.on_stack

    pub receiver_on_stack : SlotFits p h (named_by g at) (length g.nodes) (sort p m (peek f.stack (length named.params))) (slot g.stack (length named.params)) r
    receiver_on_stack = slot_peeked p m h (named_by g at) (length g.nodes) f.stack g.stack (vs ++ r ∷ rest) on_stack (length named.params) r (ap (slice_get (vs ++ r ∷ rest)) (sym size) ∙ get_past vs r rest)

    pub takes_is : takes_from named ≡ length named.params + 1
    takes_is = ap (λ b. length named.params + cond b 0 1) instance

    pub rest_on_stack : AreSlots p m h (named_by g at) (length g.nodes) (drop (takes_from named) f.stack) (drop (takes_from named) g.stack) rest
    rest_on_stack = subst (λ z. AreSlots p m h (named_by g at) (length g.nodes) (drop (takes_from named) f.stack) (drop (takes_from named) g.stack) z) (drop_past vs r rest (takes_from named) (ap (λ j. j + 1) size ∙ sym takes_is))
        (dropped p m h (named_by g at) (length g.nodes) (takes_from named) f.stack g.stack (vs ++ r ∷ rest) on_stack)

    -- the arguments behind the receiver
    params_here : (more : List Operand) → all_meet p (arguments named ++ more) f.stack ≡ true → ArgsFit p h (named_by g at) (length g.nodes) params (reverse vs) (declared_parameters named.params named.qualifiers)
    params_here more meets_all = params_fit p m h (named_by g at) (length g.nodes) k.flow named more f.stack g.stack vs (r ∷ rest) meets_all on_stack size (λ j n x. lives j n x) sized
        (or_right (not (is_constructor named) && mixes p (peek f.stack (length named.params)) (vtype.Object (class_type named.owner.0))) _ mixed_here)

    abbrev here : Passed
    here = receiver named (slot g.stack (length named.params)) (peek f.stack (length named.params))

    -- all arguments fit a method with these parameters, where the receiver does
    pub all_fit : (more : List Operand) → all_meet p (arguments named ++ more) f.stack ≡ true → (callee : Method) → parameters_of callee ≡ record { ty = class_type callee.owner.0; qualifier = callee.receiver } ∷ declared_parameters named.params named.qualifiers →
        SlotFits p h (named_by g at) (length g.nodes) (type_sort p (class_type callee.owner.0)) (slot g.stack (length named.params)) r →
        quality p (class_type callee.owner.0) callee.receiver ≡ quality_in p (receiver named (slot g.stack (length named.params)) (peek f.stack (length named.params))) →
        ArgsFit p h (named_by g at) (length g.nodes) (all_passed named g f.stack) (r ∷ reverse vs) (parameters_of callee)
    all_fit more meets_all callee callee_params fits same_quality = subst (λ z. ArgsFit p h (named_by g at) (length g.nodes) z (r ∷ reverse vs) (parameters_of callee)) (sym args_are)
        (subst (ArgsFit p h (named_by g at) (length g.nodes) (here ∷ params) (r ∷ reverse vs)) (sym callee_params) (fits, (λ n x. lives (length named.params) n x), same_quality, params_here more meets_all))

    -- those of a constructor of this class: where the class is no tree, it knows less of its receiver than is passed
    pub begun_meet : is_constructor named ≡ true → (more : List Operand) → all_meet p (arguments named ++ more) f.stack ≡ true →
        SlotFits p h (named_by g at) (length g.nodes) (type_sort p (class_type named.owner.0)) (slot g.stack (length named.params)) r →
        ArgsMeet p h (named_by g at) (length g.nodes) (all_passed named g f.stack) (r ∷ reverse vs) (parameters_of named)
    begun_meet con more meets_all fits = subst (λ z. ArgsMeet p h (named_by g at) (length g.nodes) z (r ∷ reverse vs) (parameters_of named)) (sym args_are)
        (subst (ArgsMeet p h (named_by g at) (length g.nodes) (here ∷ params) (r ∷ reverse vs)) (sym own_params) (
          fits,
          (λ n x. lives (length named.params) n x),
          knows (is_tree_kind (kind_of p (class_type named.owner.0))) refl,
          meet p h (named_by g at) (length g.nodes) params (reverse vs) (declared_parameters named.params named.qualifiers) (params_here more meets_all),
        ))
      where
        own_params : parameters_of named ≡ record { ty = class_type named.owner.0; qualifier = named.receiver } ∷ declared_parameters named.params named.qualifiers
        own_params = ap (λ b. cond b (declared_parameters named.params named.qualifiers) (record { ty = class_type named.owner.0; qualifier = named.receiver } ∷ declared_parameters named.params named.qualifiers)) instance

        passed_as : quality_in p (receiver named (slot g.stack (length named.params)) (peek f.stack (length named.params))) ≡ Some named.receiver
        passed_as = ap (λ b. cond b (Some named.receiver) (quality p (class_type named.owner.0) named.receiver)) con

        knows : (b : Bool) → is_tree_kind (kind_of p (class_type named.owner.0)) ≡ b →
            Knows (quality p (class_type named.owner.0) named.receiver) (quality_in p (receiver named (slot g.stack (length named.params)) (peek f.stack (length named.params))))
        knows true e = inl (ap (λ b. cond b (Some named.receiver) None) e ∙ sym passed_as)
        knows false e = inr (ap (λ b. cond b (Some named.receiver) None) e)

    -- the one argument, of a type whose values name nothing
    pub one_value : all_meet p (arguments named ++ []) f.stack ≡ true → (ty : Ty) → named.params ≡ ty ∷ [] → type_sort p ty ≡ Word → (v : Value) → reverse vs ≡ v ∷ [] → Fits p h Word v
    one_value meets_all ty one word v is =
        by params named.qualifiers (subst (λ z. ArgsFit p h (named_by g at) (length g.nodes) params (v ∷ []) (declared_parameters z named.qualifiers)) one
        (subst (λ z. ArgsFit p h (named_by g at) (length g.nodes) params z (declared_parameters named.params named.qualifiers)) is (params_here [] meets_all)))
      where
        by : (as1 : List Passed) (qs : List Qualifier) → ArgsFit p h (named_by g at) (length g.nodes) as1 (v ∷ []) (declared_parameters (ty ∷ []) qs) → Fits p h Word v
        by (a ∷ as1) (q ∷ qs) fit = slot_value p h (named_by g at) (length g.nodes) Word a.name v (subst (λ z. SlotFits p h (named_by g at) (length g.nodes) z a.name v) word fit.0) fit.1
        by (a ∷ as1) [] fit = absurd fit
        by [] qs fit = absurd (nothing qs fit)
          where
            nothing : (qs : List Qualifier) → ArgsFit p h (named_by g at) (length g.nodes) [] (v ∷ []) (declared_parameters (ty ∷ []) qs) → ⊥
            nothing [] fit = fit
            nothing (q ∷ qs) fit = fit

    -- no argument is gone, whatever the class of the receiver
    pub begun_live : (more : List Operand) → all_meet p (arguments named ++ more) f.stack ≡ true → PassedLive (named_by g at) (all_passed named g f.stack)
    begun_live more meets_all = subst (λ z. PassedLive (named_by g at) z) (sym args_are) at_place
      where
        at_place : PassedLive (named_by g at) (receiver named (slot g.stack (length named.params)) (peek f.stack (length named.params)) ∷ parameters named.params named.qualifiers (reverse (take (length named.params) g.stack)) (reverse (take (length named.params) f.stack)))
        at_place zero n e = lives (length named.params) n e
        at_place (suc j) n e = argument_lives p h (named_by g at) (length g.nodes) params (reverse vs) (declared_parameters named.params named.qualifiers)
            (meet p h (named_by g at) (length g.nodes) params (reverse vs) (declared_parameters named.params named.qualifiers) (params_here more meets_all)) j n e

    -- ---- the receiver is initialized: of the named class or of one below it

    module _ (plain : is_constructor named ≡ false) (met_all : all_meet p (arguments named ++ (Is (class_vtype named.owner) ∷ [])) f.stack ≡ true)
        (types : f1 ≡ record f { stack = result_types named.result ++ drop (length (arguments named ++ (Is (class_vtype named.owner) ∷ []))) f.stack }) where
      receiver_type : assignable p (peek f.stack (length named.params)) (class_vtype named.owner) ≡ true
      unfolding meets
      receiver_type = met p (arguments named ++ (Is (class_vtype named.owner) ∷ [])) f.stack (length named.params) (Is (class_vtype named.owner))
          (operand_past (arguments named) (Is (class_vtype named.owner)) (length named.params) (ap length (arguments_are p m h (named_by g at) (length g.nodes) named) ∙ length_map (reverse named.params) ∙ length-reverse named.params)) met_all

      receiver_mix : mixes p (peek f.stack (length named.params)) (vtype.Object (class_type named.owner.0)) ≡ false
      receiver_mix = ap (λ b. not b && mixes p (peek f.stack (length named.params)) (vtype.Object (class_type named.owner.0))) (sym plain)
          ∙ or_left (not (is_constructor named) && mixes p (peek f.stack (length named.params)) (vtype.Object (class_type named.owner.0))) _ mixed_here

      receiver_slot : SlotFits p h (named_by g at) (length g.nodes) (type_sort p (class_type named.owner.0)) (slot g.stack (length named.params)) r
      unfolding sort
      receiver_slot = flow_slot p h (named_by g at) (length g.nodes) (sort p m (peek f.stack (length named.params))) (sort p m (class_vtype named.owner)) (k.flow m (peek f.stack (length named.params)) (class_vtype named.owner) receiver_type receiver_mix)
          (slot g.stack (length named.params)) r receiver_on_stack

      fits : (callee : Method) → Agrees p named callee → ArgsFit p h (named_by g at) (length g.nodes) (all_passed named g f.stack) (r ∷ reverse vs) (parameters_of callee)
      fits callee a = all_fit (Is (class_vtype named.owner) ∷ []) met_all callee callee_params (subst (λ z. SlotFits p h (named_by g at) (length g.nodes) z (slot g.stack (length named.params)) r) (sym a.sort_is) receiver_slot)
          (a.quality_is ∙ ap (λ b. cond b (Some named.receiver) (quality p (class_type named.owner.0) named.receiver)) (sym plain))
        where
          callee_params : parameters_of callee ≡ record { ty = class_type callee.owner.0; qualifier = callee.receiver } ∷ declared_parameters named.params named.qualifiers
          callee_params = ap (λ b. cond b (declared_parameters callee.params callee.qualifiers) (record { ty = class_type callee.owner.0; qualifier = callee.receiver } ∷ declared_parameters callee.params callee.qualifiers)) a.instance
              ∙ ap (λ z. record { ty = class_type callee.owner.0; qualifier = callee.receiver } ∷ declared_parameters z callee.qualifiers) a.params
              ∙ ap (λ z. record { ty = class_type callee.owner.0; qualifier = callee.receiver } ∷ declared_parameters named.params z) a.qualifiers

      itself : Agrees p named named
      itself = record { params = refl; qualifiers = refl; result = refl; instance = instance; plain = plain; quality_is = refl; sort_is = refl; sized = sized }

      length_is : length (arguments named ++ (Is (class_vtype named.owner) ∷ [])) ≡ takes_from named
      length_is = length_more (arguments named) (Is (class_vtype named.owner)) ∙ ap (λ j. j + 1) (ap length (arguments_are p m h (named_by g at) (length g.nodes) named) ∙ length_map (reverse named.params) ∙ length-reverse named.params) ∙ sym takes_is

      left_types : f1 ≡ record f { stack = result_types named.result ++ drop (takes_from named) f.stack }
      left_types = types ∙ ap (λ j. record f { stack = result_types named.result ++ drop j f.stack }) length_is

      -- the message of an exception is a value
      message_left : (callee : Method) (run : MethodId) → method_at p run ≡ Some callee → Agrees p named callee → is_get_message callee ≡ true → (vals : List Value) → ArgsFit p h (named_by g at) (length g.nodes) (all_passed named g f.stack) vals (parameters_of callee) →
          E p m pl to f f1 g g1 at h ls st below after i (gives_message vals to ls rest h)
      message_left callee run found a get [] fit = tt
      message_left callee run found a get (v ∷ w ∷ ws) fit = tt
      message_left callee run found a get (v ∷ []) fit = as_object_h (E p m pl to f f1 g g1 at h ls st below after i) tt (λ c. tt) (λ c. tt) v h _ (λ n object is there.
          some_h (E p m pl to f f1 g g1 at h ls st below after i) tt (λ c. tt) (λ c. tt) (field_in object.fields message_field) _ (λ w has.
          let gives = k.gives_messages run callee found get in (
            edge,
            answered callee (v ∷ []) fit rest rest_on_stack left_types gives.0 (sym a.result ∙ gives.1) (slot_sort p m gives.0 ∙ gives.2) gives.3 w
                (subst (λ z. Fits p h z w) k.message ((s.0.holds.heap n object there).fields message_field w has).0),
          )))

      pub instance_left : (callee : Method) (run : MethodId) → method_at p run ≡ Some callee → Agrees p named callee → E p m pl to f f1 g g1 at h ls st below after i (calls_method (Some callee) run (r ∷ reverse vs) to ls rest h)
      instance_left callee run found a = cond_h (E p m pl to f f1 g g1 at h ls st below after i) tt (λ c. tt) (λ c. tt) callee.built_in _ _
          (λ built. cond_h (E p m pl to f f1 g g1 at h ls st below after i) tt (λ c. tt) (λ c. tt) (is_message_constructor callee) _ _
          (λ keeps. absurd (true≢false (sym (and_left (is_constructor callee) _ (and_right callee.built_in _ keeps)) ∙ a.plain)))
          (λ other. cond_h (E p m pl to f f1 g g1 at h ls st below after i) tt (λ c. tt) (λ c. tt) (is_get_message callee) _ _
          (λ get. message_left callee run found a get (r ∷ reverse vs) (fits callee a))
          (λ none. asked_left callee run found (r ∷ reverse vs) (fits callee a) a.sized a.result rest rest_on_stack left_types)))
          (λ own. begun_left callee run found (r ∷ reverse vs) (fits callee a) a.sized a.result rest rest_on_stack left_types)

      pub text_left : (ty : Ty) → named.result ≡ Some ty → type.vtype ty ≡ vtype.Int → kind_of p ty ≡ kind.Value → (x : ℤ) → Left p m f1 g1 h ls (Int x ∷ rest) below
      unfolding sort
      text_left ty result int value x = answered named (r ∷ reverse vs) (fits named itself) rest rest_on_stack left_types ty result (ap (sort p m) int) value (Int x) (refl, refl)

      -- the class of the receiver fits the named one
      pub receiver_class : AreOf p h f.stack st → (c : Ty) → class_of p h r ≡ Some c → fits_type p c (class_type named.owner.0) ≡ true
      receiver_class are c is = by (peek f.stack (length named.params)) receiver_type (are (length named.params) r c (ap (λ z. slice_get z (length named.params)) e ∙ ap (slice_get (vs ++ r ∷ rest)) (sym size) ∙ get_past vs r rest) is)
        where
          by : (t : VType) → assignable p t (class_vtype named.owner) ≡ true → IsOfType p t c → fits_type p c (class_type named.owner.0) ≡ true
          by vtype.Top a o = absurd (true≢false (sym a))
          by vtype.Int a o = absurd (true≢false (sym a))
          by vtype.Long a o = absurd (true≢false (sym a))
          by vtype.Null a o = absurd o
          by vtype.UninitThis a o = absurd (true≢false (sym a))
          by (vtype.Uninit pl') a o = absurd (true≢false (sym a))
          by (vtype.Object ty) a o = k.through c ty (class_type named.owner.0) o a
