-- What a thread whose frames stand gives away is a tree.
use Rattle.std.proofs.Common.{◌≡◌, inl, inr, ℕ, ◌+◌, Bool, true, false, cond, List, [], ◌∷◌, ◌++◌, map, Option, Some, None, refl, sym, ap, subst, ◌∙◌}
use Rattle.std.specs.Prelude.{◌||◌, ◌&&◌}
use Rattle.std.proofs.lemmas.Bool.{and_parts, false≢true}
use Rattle.kilim_program.specs.declared.class.Method.{Method}
use Rattle.kilim_program.specs.declared.names.ClassId.{ClassId}
use Rattle.kilim_program.specs.declared.names.MethodId.{MethodId}
use Rattle.kilim_program.specs.declared.ty.Kind.{Kind}
use Rattle.kilim_program.specs.declared.ty.Kind.TheVariants as kind
use Rattle.kilim_program.specs.declared.ty.Qualifier.{Qualifier}
use Rattle.kilim_program.specs.declared.ty.Qualifier.TheVariants as qualifier
use Rattle.kilim_program.specs.declared.ty.Ty.{Ty}
use Rattle.kilim_program.specs.declared.value.Value.{Value}
use Rattle.kilim_program.specs.declared.value.Value.TheVariants.{Ref, Box, Fiber}
use Rattle.kilim_program.specs.declared.names.BoxName.{BoxName}
use Rattle.kilim_program.specs.declared.verified.VType.{VType}
use Rattle.kilim_program.specs.BuiltIn.{class_id, class_type}
use Rattle.kilim_program.specs.Fits.{fits_type}
use Rattle.kilim_program.specs.Kinds.{class_kind, is_message, is_tree_kind, is_value_class}
use Rattle.kilim_program.specs.Names.{is_task}
use Rattle.kilim_program.specs.Program.{Program}
use Rattle.kilim_run_state.specs.Machine.{Activation, Objects}
use Rattle.kilim_run_machine.specs.Moves.{Move, moves}
use Rattle.kilim_run_machine.specs.Moves as move
use Rattle.kilim_run_machine.specs.Natives.{Native, native_of}
use Rattle.kilim_run_machine.specs.Natives as native
use Rattle.kilim_run_state.specs.Shapes.{tree_limit}
use Rattle.kilim_run_state.specs.Trees.{OfMessage, OfTask, Root, is_root, tree_names}
use Rattle.kilim_run_model.specs.State.{Setting, Thread}
use Rattle.kilim_run_model.specs.Kept.{GivesTree, IsGivenTree, given}
use Rattle.kilim_type_spec.specs.Step.{class_vtype, vtype}
use Rattle.kilim_type_laws.specs.Laws.{typing_at}
use Rattle.kilim_isolation_graph.specs.declared.entry.Parameter.{Parameter}
use Rattle.kilim_isolation_graph.specs.Entry.{declared_parameters, parameters_of, quality}
use Rattle.kilim_isolation_rules.specs.Calls.{is_owned}
use Rattle.kilim_isolation_laws.specs.forest.Heap.{IsForest}
use Rattle.kilim_type_sound.specs.Fits.{Classes, Fits, HeapFits, Wanted, has_type, have_types, is_of}
use Rattle.kilim_type_sound.specs.Sound.{AsksFit, native_types}
use Rattle.kilim_type_sound.specs.Sound as sound
use Rattle.kilim_type_sound.proofs.Grounds.{facts_hold}
use Rattle.kilim_type_sound.proofs.Theorem.{moves_fit}
use Rattle.kilim_isolation_laws.specs.graph_rows.Holds.{trees}
use Rattle.kilim_isolation_laws.specs.reached_objects.graphs.Threads.{AskFits, Gives, Listed, MoveFits}
use Rattle.kilim_isolation_laws.specs.typed_threads.fine.Typed.{IsVerified, TopIsThere, frames_of}
use Rattle.kilim_isolation_laws.proofs.typed_threads.fine.Natives.{first}
use Rattle.kilim_isolation_laws.specs.tree_types.Laws.{AreNamedPlainly}
use Rattle.kilim_isolation_laws.proofs.tree_types.Allowed.{trees_allowed}
use Rattle.kilim_isolation_laws.proofs.tree_types.Formed.{objects_formed}
use Rattle.kilim_isolation_laws.proofs.names.Named.{once_named}
use Rattle.kilim_isolation_laws.specs.states.Laws.{StatesGive}
use Rattle.kilim_isolation_laws.proofs.states.AskedHeap.{MoveStays, asking_stays}
use Rattle.kilim_isolation_laws.proofs.states.Roots.{message_root, message_tree, task_root, task_tree}
use Rattle.kilim_isolation_laws.proofs.states.Takers.{PutIs, StartIs, mailbox_name, native_takes}

none_given : (given : Root × ℕ) → None ≡ Some given → ⊥
none_given given e = cc

some_same : {A : Type 0} (x y : A) → Some x ≡ Some y → x ≡ y
some_same x y e = cc

-- ---- a value that is no tree isn't handed on

owned_value : (k : Kind) (q : Qualifier) → is_tree_kind k ≡ false → is_owned (cond (is_tree_kind k) (Some q) None) ≡ false
owned_value k q e = ap (λ (z : Bool). is_owned (cond z (Some q) None)) e

record OfClass (p : Program) (o : Option Ty) (ty : Ty) : Type 0 where
  class : Ty
  is : o ≡ Some class
  fits : fits_type p class ty ≡ true

of_class : (p : Program) (o : Option Ty) (ty : Ty) → is_of p o ty ≡ true → OfClass p o ty
of_class p None ty e = absurd (cc)
of_class p (Some c) ty e = record { class = c; is = refl; fits = e }

-- the parameters of an instance method
instance_parameters : (m : Method) → m.is_static ≡ false → parameters_of m ≡ record { ty = class_type m.owner.0; qualifier = m.receiver } ∷ declared_parameters m.params m.qualifiers
instance_parameters m e = ap (λ (z : Bool). cond z (declared_parameters m.params m.qualifiers) (record { ty = class_type m.owner.0; qualifier = m.receiver } ∷ declared_parameters m.params m.qualifiers)) e

instance_types : (m : Method) → m.is_static ≡ false → native_types m ≡ (class_vtype m.owner ∷ []) ++ map vtype m.params
instance_types m e = ap (λ (z : Bool). (cond z [] (class_vtype m.owner ∷ [])) ++ map vtype m.params) e

module _ (set : Setting) (wanted : Wanted) (listed : Listed) (of : Classes) (is : IsVerified set (typing_at set.program) wanted) (plain : AreNamedPlainly set.program) (h : Objects) (heap : HeapFits set.program of h) (forest : IsForest (trees set.program h)) where
  abbrev p : Program
  p = set.program

  abbrev n : ℕ
  n = first p is.keeps is.form

  given_tree : (root : Root) (q : ℕ) (class : Ty) → of q ≡ Some class → is_root p root class ≡ true → (trees p h).has q ≡ true → IsGivenTree p root h q
  unfolding tree_names
  given_tree root q class at kind has = record {
    once = once_named p is.keeps of h heap forest tree_limit q has;
    allowed = λ shape e. trees_allowed p of h is.keeps plain heap root q class shape at kind e;
  }

  module _ (id : MethodId) (args : List Value) (frames : List Activation) (k : Objects) (same : k ≡ h) (typed : AsksFit p (typing_at p) wanted of id args frames k) (kept : Option ℕ) (asks : AskFits p (typing_at p) listed kept id args frames k) where
    one_callee : asks.callee ≡ typed.callee
    one_callee = some_same asks.callee typed.callee (sym asks.is ∙ typed.there)

    whole : (q : ℕ) → Gives p (parameters_of typed.callee) args q → (trees p h).has q ≡ true
    whole q g = subst (λ (x : Objects). (trees p x).has q ≡ true) same (asks.whole q (subst (λ (m : Method). Gives p (parameters_of m) args q) (sym one_callee) g)).0

    put_gives : (box : BoxName) (q : ℕ) → args ≡ Box box ∷ Ref q ∷ [] → PutIs n typed.callee → IsGivenTree p OfMessage h q
    put_gives box q e put =
        let types : have_types p typed.callee of (native_types typed.callee) (Box box ∷ Ref q ∷ []) ≡ true = subst (λ (vs : List Value). have_types p typed.callee of (native_types typed.callee) vs ≡ true) e typed.arguments in
        let both : have_types p typed.callee of (class_vtype typed.callee.owner ∷ vtype (class_type (n + 2)) ∷ []) (Box box ∷ Ref q ∷ []) ≡ true =
        subst (λ (ts : List VType). have_types p typed.callee of ts (Box box ∷ Ref q ∷ []) ≡ true) (instance_types typed.callee put.instance ∙ ap (λ (tys : List Ty). class_vtype typed.callee.owner ∷ map vtype tys) put.params) types in
        let message = of_class p (of q) (class_type (n + 2)) (and_parts (is_of p (of q) (class_type (n + 2))) true (and_parts (has_type p typed.callee of (class_vtype typed.callee.owner) (Box box)) _ both).1).0 in
        given_tree OfMessage q message.class message.is (message_root p is.keeps is.form message.class message.fits) (whole q (subst (λ (vs : List Value). Gives p (parameters_of typed.callee) vs q) (sym e) (hands put)))
      where
        mailbox_is_no_tree : typed.callee.owner ≡ class_id (n + 5) → is_owned (quality p (class_type typed.callee.owner.0) typed.callee.receiver) ≡ false
        mailbox_is_no_tree own =
            owned_value (class_kind p typed.callee.owner) typed.callee.receiver
            (ap (λ (c : ClassId). is_tree_kind (class_kind p c)) own ∙ ap (λ (x : List ℕ). is_tree_kind (cond (is_value_class x) kind.Value (cond (is_task p (class_id (n + 5)) || is_message p (class_id (n + 5))) kind.Tree kind.Private))) (mailbox_name p is.keeps is.form))

        hands : PutIs n typed.callee → Gives p (parameters_of typed.callee) (Box box ∷ Ref q ∷ []) q
        hands put =
            subst (λ (qs : List Parameter). Gives p qs (Box box ∷ Ref q ∷ []) q)
            (sym (instance_parameters typed.callee put.instance ∙ (ap (λ (tys : List Ty). record { ty = class_type typed.callee.owner.0; qualifier = typed.callee.receiver } ∷ declared_parameters tys typed.callee.qualifiers) put.params
            ∙ ap (λ (as1 : List Qualifier). record { ty = class_type typed.callee.owner.0; qualifier = typed.callee.receiver } ∷ declared_parameters (class_type (n + 2) ∷ []) as1) put.qualifiers)))
            (inr (mailbox_is_no_tree put.owner, inl (ap (λ (k : Kind). cond (is_tree_kind k) (Some qualifier.Free) None) (message_tree p is.keeps is.form), refl, tt)))

    -- it takes no third argument
    too_many : (box : BoxName) (q : ℕ) → args ≡ Box box ∷ Ref q ∷ Fiber ∷ [] → PutIs n typed.callee → ⊥
    too_many box q e put =
        let types : have_types p typed.callee of (native_types typed.callee) (Box box ∷ Ref q ∷ Fiber ∷ []) ≡ true = subst (λ (vs : List Value). have_types p typed.callee of (native_types typed.callee) vs ≡ true) e typed.arguments in
        let both : have_types p typed.callee of (class_vtype typed.callee.owner ∷ vtype (class_type (n + 2)) ∷ []) (Box box ∷ Ref q ∷ Fiber ∷ []) ≡ true =
        subst (λ (ts : List VType). have_types p typed.callee of ts (Box box ∷ Ref q ∷ Fiber ∷ []) ≡ true) (instance_types typed.callee put.instance ∙ ap (λ (tys : List Ty). class_vtype typed.callee.owner ∷ map vtype tys) put.params) types in
        let rest = (and_parts (has_type p typed.callee of (class_vtype typed.callee.owner) (Box box)) (is_of p (of q) (class_type (n + 2)) && false) both).1 in
        false≢true (and_parts (is_of p (of q) (class_type (n + 2))) false rest).1

    start_gives : (q : ℕ) → args ≡ Ref q ∷ [] → native_of p id ≡ Some native.Start → IsGivenTree p OfTask h q
    start_gives q e known =
        let start : StartIs n typed.callee = native_takes p is.keeps is.form id typed.callee native.Start typed.there typed.built_in known in
        let types : have_types p typed.callee of (native_types typed.callee) (Ref q ∷ []) ≡ true = subst (λ (vs : List Value). have_types p typed.callee of (native_types typed.callee) vs ≡ true) e typed.arguments in
        let one : have_types p typed.callee of (class_vtype (class_id (n + 4)) ∷ []) (Ref q ∷ []) ≡ true =
        subst (λ (ts : List VType). have_types p typed.callee of ts (Ref q ∷ []) ≡ true)
        (instance_types typed.callee start.instance ∙ (ap (λ (tys : List Ty). class_vtype typed.callee.owner ∷ map vtype tys) start.params ∙ ap (λ (c : ClassId). class_vtype c ∷ []) start.owner)) types in
        let task = of_class p (of q) (class_type (n + 4)) (and_parts (is_of p (of q) (class_type (n + 4))) true one).0 in
        given_tree OfTask q task.class task.is (task_root p is.keeps is.form task.class task.fits) (whole q (subst (λ (vs : List Value). Gives p (parameters_of typed.callee) vs q) (sym e) (hands start)))
      where
        hands : StartIs n typed.callee → Gives p (parameters_of typed.callee) (Ref q ∷ []) q
        hands start =
            subst (λ (qs : List Parameter). Gives p qs (Ref q ∷ []) q)
            (sym (instance_parameters typed.callee start.instance ∙ (ap (λ (tys : List Ty). record { ty = class_type typed.callee.owner.0; qualifier = typed.callee.receiver } ∷ declared_parameters tys typed.callee.qualifiers) start.params
            ∙ (ap (λ (a : Qualifier). record { ty = class_type typed.callee.owner.0; qualifier = a } ∷ []) start.receiver ∙ ap (λ (c : ClassId). record { ty = class_type c.0; qualifier = qualifier.Free } ∷ []) start.owner))))
            (inl (ap (λ (k : Kind). cond (is_tree_kind k) (Some qualifier.Free) None) (task_tree p is.keeps is.form), refl, tt))

    asked_gives : (o : Option Native) → native_of p id ≡ o → (own : List Value) → args ≡ own → (root : Root) (q : ℕ) → given o own ≡ Some (root, q) → IsGivenTree p root h q
    asked_gives (Some native.Put) known (Box box ∷ Ref m ∷ []) e root q g = let w = some_same (OfMessage, m) (root, q) g in subst (λ (x : Root × ℕ). IsGivenTree p x.0 h x.1) w (put_gives box m e (native_takes p is.keeps is.form id typed.callee native.Put typed.there typed.built_in known))
    asked_gives (Some native.PutWait) known (Box box ∷ Ref m ∷ []) e root q g = let w = some_same (OfMessage, m) (root, q) g in subst (λ (x : Root × ℕ). IsGivenTree p x.0 h x.1) w (put_gives box m e (native_takes p is.keeps is.form id typed.callee native.PutWait typed.there typed.built_in known))
    asked_gives (Some native.PutWait) known (Box box ∷ Ref m ∷ Fiber ∷ []) e root q g = absurd (too_many box m e (native_takes p is.keeps is.form id typed.callee native.PutWait typed.there typed.built_in known))
    asked_gives (Some native.Start) known (Ref m ∷ []) e root q g = let w = some_same (OfTask, m) (root, q) g in subst (λ (x : Root × ℕ). IsGivenTree p x.0 h x.1) w (start_gives m e known)
    asked_gives _ known _ e root q g = absurd (none_given (root, q) g)

  move_gives : (kept : Option ℕ) (m : Move) → sound.MoveFits p (typing_at p) wanted of m → MoveFits p (typing_at p) listed kept m → MoveStays h m → GivesTree p h m
  move_gives kept (move.Asks id args frames k) typed asks same = λ root q g. asked_gives id args frames k same typed kept asks (native_of p id) refl args refl root q g
  move_gives kept (move.Runs change frames k) typed asks same = tt
  move_gives kept (move.Makes o frames k) typed asks same = tt
  move_gives kept (move.Opens frames k) typed asks same = tt
  move_gives kept (move.Returns k) typed asks same = tt
  move_gives kept (move.Raises c) typed asks same = tt
  move_gives kept (move.Throws object class c) typed asks same = tt
  move_gives kept (move.Ends c) typed asks same = tt
  move_gives kept move.Stuck typed asks same = tt

pub states_give : StatesGive
states_give set wanted listed of l is plain fits there frames next = record {
  formed = λ x o e. objects_formed set.program of l.heap is.keeps plain fits.fits.heap x o e;
  gives = λ top below done boxes e.
      let own : Fits set.program (typing_at set.program) wanted of (top ∷ below) l.heap = subst (λ (t : Thread). Fits set.program (typing_at set.program) wanted of (frames_of t) l.heap) e fits.fits in
      let stack = subst (λ (t : Thread). TopIsThere l.heap (frames_of t)) e there in
      move_gives set wanted listed of is plain l.heap fits.fits.heap (frames (top ∷ below) done boxes e).top_fits.stands.holds.forest l.kept (moves set.program top below l.heap)
      (moves_fit set.program (typing_at set.program) wanted of (facts_hold set.program is.keeps) is.verified top below l.heap own stack) (next top below done boxes e) (asking_stays set.program top below l.heap);
}
