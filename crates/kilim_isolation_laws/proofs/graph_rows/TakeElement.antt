-- `kilim/Sys.take`: the element of an array of trees, which is null from then on.
use Rattle.std.proofs.Common.{◌≡◌, ℕ, ◌+◌, ◌*◌, ◌<◌, ℤ, true, false, cond, ◌&&◌, List, [], ◌∷◌, ◌++◌, length, map, reverse, Option, Some, None, Ok, refl, sym, ap, subst, ◌∙◌, inl, inr}
use Rattle.std.specs.FinMap.{get}
use Rattle.std.specs.List.{list_any}
use Rattle.std.specs.Prelude.{drop, slice_get, take}
use Rattle.kilim_program.specs.declared.class.Method.{Method}
use Rattle.kilim_program.specs.declared.instr.Instr.TheVariants as instr
use Rattle.kilim_program.specs.declared.names.MethodId.{MethodId}
use Rattle.kilim_program.specs.declared.ty.Base.TheVariants as base
use Rattle.kilim_program.specs.declared.ty.Kind.TheVariants as kind
use Rattle.kilim_program.specs.declared.ty.Qualifier.TheVariants as qualifier
use Rattle.kilim_program.specs.declared.ty.Ty.{Ty}
use Rattle.kilim_program.specs.declared.value.Value.{Value}
use Rattle.kilim_program.specs.declared.value.Value.TheVariants.{Int, Null, Ref}
use Rattle.kilim_program.specs.declared.verified.VType.{VType}
use Rattle.kilim_program.specs.declared.verified.VType.TheVariants as vtype
use Rattle.kilim_program.specs.BuiltIn.{class_type, plain_type}
use Rattle.kilim_program.specs.Kinds.{class_kind, kind_of}
use Rattle.kilim_program.specs.Lengths.{ends_path, jump_targets}
use Rattle.kilim_program.specs.Names.{method_at}
use Rattle.kilim_program.specs.Program.{Program}
use Rattle.kilim_run_state.specs.declared.value.Object.{Object}
use Rattle.kilim_run_machine.specs.Does.{element_type, takes_element}
use Rattle.kilim_run_machine.specs.Effect.{Effect}
use Rattle.kilim_run_state.specs.Machine.{Objects}
use Rattle.kilim_type_spec.specs.Step as type
use Rattle.kilim_type_spec.specs.Step.{Is, Operand, Types, all_meet, arguments, assignable, by_row, meets, peek, result_types, row, type_step}
use Rattle.kilim_type_spec.specs.Typed.{Among, edges}
use Rattle.kilim_isolation_laws.specs.forest.Canonical.{node_at}
use Rattle.kilim_isolation_laws.specs.forest.Heap.{IsSet_at}
use Rattle.kilim_isolation_laws.specs.forest.Relation.{Element, Label, Names, Node, is_gone, is_safe}
use Rattle.kilim_isolation_laws.specs.forest.Laws.{IsPlace}
use Rattle.kilim_isolation_laws.proofs.forest.Moves.{AllBelow}
use Rattle.kilim_isolation_laws.proofs.forest.Store.{no_parent_is}
use Rattle.kilim_isolation_graph.specs.declared.graph.Graph.{Graph}
use Rattle.kilim_isolation_graph.specs.Entry.{quality}
use Rattle.kilim_isolation_graph.specs.Graphs.{added, changed, popped, slot}
use Rattle.kilim_isolation_rules.specs.declared.deed.Deed.{Deed}
use Rattle.kilim_isolation_rules.specs.Calls as rules
use Rattle.kilim_isolation_rules.specs.Calls.{after_call, all_passed, calls, calls_with, given_result, is_cuttable, parameters, quality_in, receiver, takes_from}
use Rattle.kilim_isolation_rules.specs.Fields.{child_by, cut}
use Rattle.kilim_isolation_rules.specs.Marks.{given, mixes, names_gone, names_safe, root_node}
use Rattle.kilim_isolation_rules.specs.Rules.{deed}
use Rattle.kilim_isolation_laws.specs.graph_rows.Facts.{IsTake, ProgramKeeps}
use Rattle.kilim_isolation_laws.specs.graph_rows.Holds.{AreSlots, Fits, Holds, IsOf, SlotFits, Sort, Stands, Tree, Trees, Waiting, is_tree_object, is_tree_sort, named_by, object_sort, refers, refers_in, held_by, half, sort, sort_by, trees, type_sort, waiting_named}
use Rattle.kilim_isolation_laws.specs.graph_rows.Outcome.{Left}
use Rattle.kilim_isolation_laws.proofs.graph_rows.Arrays.{array_after, array_fits, array_grows, element_set}
use Rattle.kilim_isolation_laws.proofs.graph_rows.Elements.{elements_same}
use Rattle.kilim_isolation_laws.proofs.graph_rows.Heaps.{half_odd, some_same}
use Rattle.kilim_isolation_laws.proofs.graph_rows.Nodes.{listed_each, listed_length, listed_live, live_within}
use Rattle.kilim_isolation_laws.proofs.graph_rows.Passed.{moves_passed, takes_passed}
use Rattle.kilim_isolation_laws.proofs.graph_rows.Plain.{E, IsStep, dropped}
use Rattle.kilim_isolation_laws.proofs.graph_rows.Reading.{slot_lives, tree_to}
use Rattle.kilim_isolation_laws.proofs.graph_rows.Results.{IsNews, IsWithin, tree_comes}
use Rattle.kilim_isolation_laws.proofs.graph_rows.Settle.{and_left, flow_slot, not_true, or_left, or_right}
use Rattle.kilim_isolation_laws.proofs.graph_rows.Storing.{null_holds, was_apart, was_lower, was_top}
use Rattle.kilim_isolation_laws.proofs.graph_rows.Words.{index_h, object_h, on_int_h}

module _ (p : Program) (k : ProgramKeeps p) (m : Method) (pl to : ℕ) (f f1 : Types) (g g1 : Graph) (at : ℕ → Option ℕ) (h : Objects) (ls st : List Value) (below : List Waiting) (after : Option Types) (id : MethodId)
    (s : IsStep p m pl to f f1 g g1 at h ls st below after (instr.Invokestatic id)) (named : Method) (is : method_at p id ≡ Some named) (static : named.is_static ≡ true) (w : IsTake p named) where
  abbrev messages : Ty
  messages = record { dims = 1; base = base.Class w.class }

  abbrev message : Ty
  message = class_type w.class.0

  abbrev EI : Effect → Type 0
  EI e = E p m pl to f f1 g g1 at h ls st below after (instr.Invokestatic id) e

  operands : arguments named ≡ Is vtype.Int ∷ Is (vtype.Object (record { dims = 1; base = base.Class w.class })) ∷ []
  operands = ap (λ ps. reverse (map (λ ty. Is (type.vtype ty)) ps)) w.params

  typed : (all_meet p (Is vtype.Int ∷ Is (vtype.Object (record { dims = 1; base = base.Class w.class })) ∷ []) f.stack ≡ true) × (f1 ≡ record f { stack = vtype.Object (class_type w.class.0) ∷ drop 2 f.stack })
  unfolding row
  typed =
      let t = takes_passed p m pl (arguments named) (result_types named.result) (type.static_rules m named) f f1 (subst (λ z. by_row p m pl (type.static_row m z) f ≡ Ok f1) is s.1) in (
        ap (λ z. all_meet p z f.stack) (sym operands) ∙ t.0,
        t.1 ∙ ap (λ z. record f { stack = result_types named.result ++ drop (length z) f.stack }) operands ∙ ap (λ z. record f { stack = result_types z ++ drop 2 f.stack }) w.result,
      )

  deed_is : deed p m g f (instr.Invokestatic id) ≡ calls_with p named (all_passed named g f.stack) g
  unfolding deed
  deed_is = ap (calls p g f.stack) is

  edge : Among (edges (instr.Invokestatic id) to) to
  unfolding ends_path jump_targets
  edge = inl refl

  messages_kind : kind_of p (record { dims = 1; base = base.Class w.class }) ≡ kind.Tree
  messages_kind = ap Rattle.kilim_program.specs.Kinds.array_kind w.tree

  messages_sort : object_sort p (record { dims = 1; base = base.Class w.class }) ≡ Tree 1 Trees
  messages_sort = ap (λ z. sort_by p (record { dims = 1; base = base.Class w.class }) z) messages_kind ∙ ap (λ z. Tree 1 (Rattle.kilim_isolation_laws.specs.graph_rows.Holds.stuff_of p (base.Class w.class) z)) w.tree

  message_sort : object_sort p (class_type w.class.0) ≡ Tree 0 Trees
  message_sort = ap (λ z. sort_by p (class_type w.class.0) z) w.tree ∙ ap (λ z. Tree 0 (Rattle.kilim_isolation_laws.specs.graph_rows.Holds.stuff_of p (base.Class w.class) z)) w.tree

  module _ (i : ℤ) (n : ℕ) (object : Object) (rest : List Value) (e : st ≡ Int i ∷ Ref n ∷ rest) (there : get h n ≡ Some object) (j : ℕ) (v : Value) (has : slice_get object.elements j ≡ Some v) where
    abbrev heap_after : Objects
    heap_after = array_after p h n object there j v Null has

    -- with the two items that lie on the stack
    module _ (t0 t1 : VType) (ts : List VType) (x0 x1 : Option ℕ) (xs : List (Option ℕ)) (ft : f.stack ≡ t0 ∷ t1 ∷ ts) (gt : g.stack ≡ x0 ∷ x1 ∷ xs) (slots : AreSlots p m h (named_by g at) (length g.nodes) (t0 ∷ t1 ∷ ts) (x0 ∷ x1 ∷ xs) (Int i ∷ Ref n ∷ rest)) where
      args_are : all_passed named g f.stack ≡ record { name = x1; ty = t1; into = record { dims = 1; base = base.Class w.class }; qualifier = qualifier.Cuttable; is_begun = false }
          ∷ record { name = x0; ty = t0; into = plain_type base.Int; qualifier = qualifier.Safe; is_begun = false } ∷ []
      args_are = ap (λ b. cond b (parameters named.params named.qualifiers (reverse (take (length named.params) g.stack)) (reverse (take (length named.params) f.stack)))
          (receiver named (slot g.stack (length named.params)) (peek f.stack (length named.params)) ∷ parameters named.params named.qualifiers (reverse (take (length named.params) g.stack)) (reverse (take (length named.params) f.stack)))) static
          ∙ ap (λ ps. parameters ps named.qualifiers (reverse (take (length ps) g.stack)) (reverse (take (length ps) f.stack))) w.params
          ∙ ap (λ qs. parameters (record { dims = 1; base = base.Class w.class } ∷ plain_type base.Int ∷ []) qs (reverse (take 2 g.stack)) (reverse (take 2 f.stack))) w.qualifiers
          ∙ ap (λ z. parameters (record { dims = 1; base = base.Class w.class } ∷ plain_type base.Int ∷ []) (qualifier.Cuttable ∷ qualifier.Safe ∷ []) (reverse (take 2 z)) (reverse (take 2 f.stack))) gt
          ∙ ap (λ z. parameters (record { dims = 1; base = base.Class w.class } ∷ plain_type base.Int ∷ []) (qualifier.Cuttable ∷ qualifier.Safe ∷ []) (x1 ∷ x0 ∷ []) (reverse (take 2 z))) ft

      quality_is : quality p (record { dims = 1; base = base.Class w.class }) qualifier.Cuttable ≡ Some qualifier.Cuttable
      quality_is = ap (λ z. cond (Rattle.kilim_program.specs.Kinds.is_tree_kind z) (Some qualifier.Cuttable) None) messages_kind

      passed : Rattle.kilim_isolation_laws.proofs.graph_rows.Passed.IsPassed p m g f (instr.Invokestatic id) after g1
      passed = moves_passed p m g f (instr.Invokestatic id) after g1 s.2

      mix : mixes p t1 (vtype.Object (record { dims = 1; base = base.Class w.class })) ≡ false
      mix = or_left (mixes p t1 (vtype.Object (record { dims = 1; base = base.Class w.class }))) _
          (ap (λ z. list_any (rules.is_mixed p) z) (sym args_are) ∙ ap (λ (z : Deed). z.mixed) (sym deed_is) ∙ passed.mixed)

      assigns : assignable p t1 (vtype.Object (record { dims = 1; base = base.Class w.class })) ≡ true
      unfolding meets
      assigns = and_left (assignable p t1 (vtype.Object (record { dims = 1; base = base.Class w.class }))) true
          (Rattle.kilim_isolation_laws.proofs.graph_rows.Settle.and_right (assignable p t0 vtype.Int) _ (ap (λ z. all_meet p (Is vtype.Int ∷ Is (vtype.Object (record { dims = 1; base = base.Class w.class })) ∷ []) z) (sym ft) ∙ typed.0))

      array : SlotFits p h (named_by g at) (length g.nodes) (Tree 1 Trees) x1 (Ref n)
      unfolding sort
      array = subst (λ z. SlotFits p h (named_by g at) (length g.nodes) z x1 (Ref n)) messages_sort
          (flow_slot p h (named_by g at) (length g.nodes) (sort p m t1) (sort p m (vtype.Object (record { dims = 1; base = base.Class w.class }))) (k.flow m t1 (vtype.Object (record { dims = 1; base = base.Class w.class })) assigns mix) x1 (Ref n) slots.1.0)

      lives : (a : ℕ) → x1 ≡ Some a → is_gone (node_at g.nodes a).standing ≡ false
      lives a q = slot_lives g g.stack (not_true (list_any (names_gone g) g.stack) s.0.live) 1 a (ap (λ z. slot z 1) gt ∙ q)

      -- the array's node
      module _ (a : ℕ) (at_a : x1 ≡ Some a) where
        array_node : SlotFits p h (named_by g at) (length g.nodes) (Tree 1 Trees) (Some a) (Ref n)
        array_node = subst (λ z. SlotFits p h (named_by g at) (length g.nodes) (Tree 1 Trees) z (Ref n)) at_a array

        array_of : IsOf p h n (Tree 1 Trees)
        array_of = (array_node.2 (lives a at_a)).1 n refl

        class_sort : object_sort p object.class ≡ Tree 1 Trees
        class_sort = ap (λ (o : Object). object_sort p o.class) (some_same object array_of.0 (sym there ∙ array_of.1)) ∙ array_of.2

        tree : is_tree_object p (get h n) ≡ true
        tree = ap (is_tree_object p) there ∙ ap is_tree_sort class_sort

        element_sort : type_sort p (element_type object.class) ≡ Tree 0 Trees
        element_sort = elements_same p object.class (record { dims = 1; base = base.Class w.class }) 0 1 Trees refl messages_sort class_sort ∙ message_sort

        not_safe : is_safe (node_at g.nodes a).standing ≡ false
        not_safe =
            let t = or_left (rules.is_not_cuttable p g (record { name = x1; ty = t1; into = record { dims = 1; base = base.Class w.class }; qualifier = qualifier.Cuttable; is_begun = false })) _
            (ap (λ z. list_any (rules.is_not_cuttable p g) z) (sym args_are) ∙ ap (λ (z : Deed). z.not_cuttable) (sym deed_is) ∙ passed.not_cuttable) in
            ap (λ q. is_cuttable q && names_safe g (Some a)) (sym quality_is) ∙ ap (λ z. is_cuttable (quality p (record { dims = 1; base = base.Class w.class }) qualifier.Cuttable) && names_safe g z) (sym at_a) ∙ t

        place : IsPlace (2 * j + 1) Element
        place = (j, refl)

        no_child : child_by g Element a ≡ None
        no_child = refl

        emptied : IsSet_at (trees p h) (trees p (array_after p h n object there j v Null has)) n (2 * j + 1) None
        emptied = element_set p h n object there j v Null has tree

        null_fits : Fits p h (type_sort p (element_type object.class)) Null
        null_fits = subst (λ z. Fits p h z Null) (sym element_sort) (refl, λ o q. absurd (cc))

        graph_after : Graph
        graph_after = changed (cut g Element a) (record g { stack = drop 2 g.stack })

        rest_slots : AreSlots p m h (named_by g at) (length g.nodes) (drop 2 f.stack) (drop 2 g.stack) rest
        rest_slots = subst (λ z. AreSlots p m h (named_by g at) (length g.nodes) (drop 2 f.stack) (drop 2 g.stack) z) (ap (drop 2) e) (dropped p m h (named_by g at) (length g.nodes) 2 f.stack g.stack st s.0.holds.slots.on_stack)

        hd : Holds p m (record f { stack = drop 2 f.stack }) (changed (cut g Element a) (record g { stack = drop 2 g.stack })) at (array_after p h n object there j v Null has) ls rest below
        hd = null_holds p m f g at h (array_after p h n object there j v Null has) ls st below s.0 Element a n (2 * j + 1) place (λ c q. absurd (cc)) (sym array_node.0) (lives a at_a) not_safe (array_grows p h n object there j v Null has)
            (array_fits p h n object there j v Null has s.0.holds.heap null_fits) (drop 2 f.stack) (drop 2 g.stack) rest rest_slots emptied

        within : IsWithin (changed (cut g Element a) (record g { stack = drop 2 g.stack }))
        within q y l par = elim (listed_each (cut g Element a) (length g.nodes) y) [
          | inl absent_is ↦ absurd (none_some (ap (λ (z : Node). z.parent) (sym absent_is) ∙ par))
          | inr cut_is ↦ subst (λ c. q < c) (sym (listed_length (cut g Element a) (length g.nodes)))
              (live_within g.nodes q (s.0.tidy.live q y l (no_parent_is a (node_at g.nodes y).parent q l (ap (λ (z : Node). z.parent) (sym cut_is) ∙ par)).0).0)
        ]
          where
            none_some : ◌≡◌ {A = Option (ℕ × Label)} None (Some (q, l)) → ⊥
            none_some z = cc

        was : (trees p h).to n (2 * j + 1) ≡ refers v
        was = tree_to p h n object there tree (2 * j + 1) ∙ ap (held_by object) (half_odd j) ∙ ap refers_in has

        v_fits : Fits p h (Tree 0 Trees) v
        v_fits = subst (λ z. Fits p h z v) element_sort ((s.0.holds.heap n object there).elements j v has).0

        v_after : Fits p (array_after p h n object there j v Null has) (Tree 0 Trees) v
        v_after = (v_fits.0, λ o q. array_grows p h n object there j v Null has o (Tree 0 Trees) (v_fits.1 o q))

        news : IsNews p (array_after p h n object there j v Null has) (named_by (changed (cut g Element a) (record g { stack = drop 2 g.stack })) at) (refers v)
        news = record {
          there = λ o q. ap (is_tree_object p) (v_after.1 o q).1 ∙ ap is_tree_sort (v_after.1 o q).2;
          top = λ o y z q held. was_top p m f g at h (array_after p h n object there j v Null has) ls st below s.0 Element a n (2 * j + 1) place (λ c q. absurd (cc)) (sym array_node.0) (lives a at_a) not_safe (array_grows p h n object there j v Null has)
              (array_fits p h n object there j v Null has s.0.holds.heap null_fits) (drop 2 f.stack) (drop 2 g.stack) rest rest_slots emptied o (was ∙ q) y z held;
          apart = λ o y z q names down. was_apart p m f g at h (array_after p h n object there j v Null has) ls st below s.0 Element a n (2 * j + 1) place (λ c q. absurd (cc)) (sym array_node.0) (lives a at_a) not_safe (array_grows p h n object there j v Null has)
              (array_fits p h n object there j v Null has s.0.holds.heap null_fits) (drop 2 f.stack) (drop 2 g.stack) rest rest_slots emptied no_child o (was ∙ q) y z
              (ap (λ (x : Node). is_gone x.standing) (sym (listed_live (cut g Element a) (length g.nodes) y names.0).1) ∙ names.0, names.1) down;
        }

        lower : AllBelow (trees p (array_after p h n object there j v Null has)) (refers v) (map waiting_named below)
        lower = by (refers v) refl
          where
            none_below : (los : List Rattle.kilim_isolation_laws.specs.forest.Relation.Named) → AllBelow (trees p (array_after p h n object there j v Null has)) None los
            none_below [] = tt
            none_below (l ∷ los) = ((λ o x y q names down. absurd (none_some o q)), none_below los)
              where
                none_some : (o : ℕ) → None ≡ Some o → ⊥
                none_some o q = cc

            by : (o : Option ℕ) → refers v ≡ o → AllBelow (trees p (array_after p h n object there j v Null has)) o (map waiting_named below)
            by None q = none_below (map waiting_named below)
            by (Some o) q = was_lower p m f g at h (array_after p h n object there j v Null has) ls st below s.0 Element a n (2 * j + 1) place (λ c q. absurd (cc)) (sym array_node.0) (lives a at_a) not_safe (array_grows p h n object there j v Null has)
                (array_fits p h n object there j v Null has s.0.holds.heap null_fits) (drop 2 f.stack) (drop 2 g.stack) rest rest_slots emptied o (was ∙ q)

        takes_is : takes_from named ≡ 2
        takes_is = ap (λ ps. length ps + cond named.is_static 0 1) w.params ∙ ap (λ b. 2 + cond b 0 1) static

        graph_is : g1 ≡ added (root_node (changed (cut g Element a) (record g { stack = drop 2 g.stack }))) (changed (cut g Element a) (record g { stack = drop 2 g.stack }))
        graph_is = passed.graph ∙ ap (λ (z : Deed). z.graph) deed_is ∙ ap (λ z. given_result p named.result (popped (takes_from named) (after_call p z g))) args_are
            ∙ ap (λ z. given_result p z (popped (takes_from named) (after_call p (record { name = x1; ty = t1; into = record { dims = 1; base = base.Class w.class }; qualifier = qualifier.Cuttable; is_begun = false }
            ∷ record { name = x0; ty = t0; into = plain_type base.Int; qualifier = qualifier.Safe; is_begun = false } ∷ []) g))) w.result
            ∙ ap (λ q. given_result p (Some (class_type w.class.0)) (popped (takes_from named) (rules.after_arguments (rules.more_arguments q x1 []) g))) quality_is
            ∙ ap (λ z. given_result p (Some (class_type w.class.0)) (popped (takes_from named) (rules.after_arguments (rules.more_arguments (Some qualifier.Cuttable) z []) g))) at_a
            ∙ ap (λ c. given_result p (Some (class_type w.class.0)) (popped c (changed (cut g Element a) g))) takes_is
            ∙ ap (λ z. given z (changed (cut g Element a) (record g { stack = drop 2 g.stack }))) w.tree

        message_type : sort p m (vtype.Object (class_type w.class.0)) ≡ Tree 0 Trees
        unfolding sort
        message_type = message_sort

        pub taken_out : Left p m f1 g1 (array_after p h n object there j v Null has) ls (v ∷ rest) below
        taken_out = subst (λ z. Left p m z g1 (array_after p h n object there j v Null has) ls (v ∷ rest) below) (sym typed.1)
            (subst (λ z. Left p m (record f { stack = vtype.Object (class_type w.class.0) ∷ drop 2 f.stack }) z (array_after p h n object there j v Null has) ls (v ∷ rest) below) (sym graph_is)
            (tree_comes p m (record f { stack = drop 2 f.stack }) (changed (cut g Element a) (record g { stack = drop 2 g.stack })) at (array_after p h n object there j v Null has) ls rest below hd within (vtype.Object (class_type w.class.0)) v
            (subst (λ z. Fits p (array_after p h n object there j v Null has) (Rattle.kilim_isolation_laws.specs.graph_rows.Holds.named_sort z) v) (sym message_type) v_after) news lower))

      by_name : (x : Option ℕ) → x1 ≡ x → Left p m f1 g1 (array_after p h n object there j v Null has) ls (v ∷ rest) below
      by_name None q = absurd (no_ref (subst (λ z. SlotFits p h (named_by g at) (length g.nodes) (Tree 1 Trees) z (Ref n)) q array).1)
        where
          no_ref : Some n ≡ None → ⊥
          no_ref z = cc
      by_name (Some a) q = taken_out a q

    by_stack : (ts : List VType) (xs : List (Option ℕ)) → f.stack ≡ ts → g.stack ≡ xs → AreSlots p m h (named_by g at) (length g.nodes) ts xs (Int i ∷ Ref n ∷ rest) → Left p m f1 g1 (array_after p h n object there j v Null has) ls (v ∷ rest) below
    by_stack [] [] ft gt q = absurd q
    by_stack [] (x ∷ xs) ft gt q = absurd q
    by_stack (t ∷ ts) [] ft gt q = absurd q
    by_stack (t ∷ []) (x ∷ []) ft gt q = absurd q.1
    by_stack (t ∷ []) (x ∷ y ∷ xs) ft gt q = absurd q.1
    by_stack (t ∷ u ∷ ts) (x ∷ []) ft gt q = absurd q.1
    by_stack (t ∷ u ∷ ts) (x ∷ y ∷ xs) ft gt q = by_name t u ts x y xs ft gt q y refl

  pub take_h : EI (takes_element to ls st h)
  take_h = on_int_h EI tt (λ c. tt) (λ c. tt) st _ (λ i under e. object_h EI tt (λ c. tt) (λ c. tt) under h _ (λ n object rest e' there. index_h EI tt (λ c. tt) (λ c. tt) object.elements i _ (λ j v has.
      (edge, by_stack i n object rest (e ∙ ap (λ z. Int i ∷ z) e') there j v has f.stack g.stack refl refl (subst (AreSlots p m h (named_by g at) (length g.nodes) f.stack g.stack) (e ∙ ap (λ z. Int i ∷ z) e') s.0.holds.slots.on_stack)))))
