-- What invokespecial may call, it may call in the woven program: the same method is found along the line of superclasses.
use Rattle.std.proofs.Common.{◌≡◌, ℕ, Bool, true, false, cond, eqb, not, List, [], ◌∷◌, ◌++◌, length, Option, Some, None, refl, sym, ap, subst, ◌∙◌, ltb-true}
use Rattle.std.specs.Prelude.{◌||◌}
use Rattle.std.specs.List.{list_all, list_any, flat_map}
use Rattle.std.proofs.lemmas.Bool.{and_parts, and_from}
use Rattle.kilim_program.specs.declared.class.Class.{Class}
use Rattle.kilim_program.specs.declared.class.Method.{Method}
use Rattle.kilim_program.specs.declared.names.ClassId.{ClassId}
use Rattle.kilim_program.specs.declared.names.MethodId.{MethodId}
use Rattle.kilim_program.specs.Keeps.{Keeps, class_ids_there, has_field, has_method, has_superclass, ids_are_places}
use Rattle.kilim_program.specs.Names.{class_at, first_that, line_of, line_up_to, method_at, methods_of}
use Rattle.kilim_program.specs.Program.{Program}
use Rattle.kilim_program.specs.Same.{answers, is_constructor, same_signature, selected}
use Rattle.kilim_type_spec.specs.Step.{is_above, is_abstract_there, may_name, selects, special_fits, superclass_at}
use Rattle.kilim_lemmas.proofs.Lists.{get_some}
use Rattle.kilim_type_laws.specs.members.Chosen.{IsChosen}
use Rattle.kilim_type_laws.proofs.members.Finding.{finds_chosen}
use Rattle.kilim_type_laws.proofs.members.FromKeeps.{all_at}
use Rattle.kilim_type_laws.proofs.members.SameNames.{named_alike}
use Rattle.kilim_weave_laws.proofs.woven_programs.ClassLists.{line_kept, methods_more, one_more}
use Rattle.kilim_weave_laws.proofs.woven_programs.Methods.{Like}
use Rattle.kilim_weave_laws.proofs.woven_programs.Naming.{back, forth, params_there}

first_kept : (there before after : MethodId → Bool) (xs zs : List MethodId) (f : MethodId) → list_all there xs ≡ true → ((x : MethodId) → there x ≡ true → after x ≡ true → before x ≡ true) → after f ≡ true →
    first_that before xs ≡ Some f → first_that after (xs ++ zs) ≡ Some f
first_kept there before after [] zs f all earlier goes e = absurd (cc)
first_kept there before after (x ∷ xs) zs f all earlier goes e =
    let p = and_parts (there x) (list_all there xs) all in
    by (before x) refl (after x) refl e p.0 (λ r. first_kept there before after xs zs f p.1 earlier goes r)
  where
    by : (b : Bool) → before x ≡ b → (a : Bool) → after x ≡ a → cond b (Some x) (first_that before xs) ≡ Some f → there x ≡ true → (first_that before xs ≡ Some f → first_that after (xs ++ zs) ≡ Some f) → cond a (Some x) (first_that after (xs ++ zs)) ≡ Some f
    by true is true same e here again = e
    by true is false same e here again = absurd (let s : x ≡ f = cc in let t : after x ≡ true = ap after s ∙ goes in cc)
    by false is true same e here again = absurd (let t : before x ≡ true = earlier x here same in cc)
    by false is false same e here again = again e

first_goes : (test : MethodId → Bool) (xs : List MethodId) (f : MethodId) → first_that test xs ≡ Some f → test f ≡ true
first_goes test [] f e = absurd (cc)
first_goes test (x ∷ xs) f e = by (test x) refl e (λ r. first_goes test xs f r)
  where
    by : (b : Bool) → test x ≡ b → cond b (Some x) (first_that test xs) ≡ Some f → (first_that test xs ≡ Some f → test f ≡ true) → test f ≡ true
    by true is e again = let s : x ≡ f = cc in subst (λ (z : MethodId). test z ≡ true) s is
    by false is e again = again e

all_joined : {A : Type 0} (test : A → Bool) (xs ys : List A) → list_all test xs ≡ true → list_all test ys ≡ true → list_all test (xs ++ ys) ≡ true
all_joined test [] ys a b = b
all_joined test (x ∷ xs) ys a b = let p = and_parts (test x) (list_all test xs) a in and_from (test x) _ p.0 (all_joined test xs ys p.1 b)

module _ (P W : Program) (keeps : Keeps P) (extra : Class) (grown : W.classes ≡ P.classes ++ extra ∷ [])
    (woven : (id : MethodId) (a : Method) → method_at P id ≡ Some a → (b : Method) × (method_at W id ≡ Some b) × Like P a b) where
  methods_by : (o : Option Class) → (c : ClassId) → class_at P c ≡ o → list_all (has_method P) (methods_of P c) ≡ true
  unfolding ids_are_places
  methods_by None c at = subst (λ (z : Option Class). list_all (has_method P) (elim z [ None ↦ [] | Some class ↦ class.methods ]) ≡ true) (sym at) refl
  methods_by (Some class) c at =
      let ids = (and_parts (list_all (class_ids_there P) P.classes) _ keeps.ids).0 in
      let one = all_at (class_ids_there P) P.classes c.0 class ids at in
      let two = (and_parts (has_superclass P class.superclass) _ one).1 in
      subst (λ (z : Option Class). list_all (has_method P) (elim z [ None ↦ [] | Some class ↦ class.methods ]) ≡ true) (sym at) (and_parts (list_all (has_field P) class.fields) _ two).1

  pub methods_there : (cs : List ClassId) → list_all (has_method P) (flat_map (methods_of P) cs) ≡ true
  methods_there [] = refl
  methods_there (c ∷ cs) = all_joined (has_method P) (methods_of P c) (flat_map (methods_of P) cs) (methods_by (class_at P c) c refl) (methods_there cs)

  module _ (id : MethodId) (a b : Method) (at : method_at P id ≡ Some a) (la : Like P a b) where
    pub answers_back : (x : MethodId) → has_method P x ≡ true → answers b (method_at W x) ≡ true → answers a (method_at P x) ≡ true
    answers_back x there e =
        let less = ltb-true x.0 (length P.methods) there in
        let o = get_some P.methods x.0 less in
        let w = woven x o.0 o.1 in
        let lo = w.2 in
        let p = and_parts (not w.0.is_private) (same_signature b w.0) (subst (λ (z : Option Method). answers b z ≡ true) w.1 e) in
        subst (λ (z : Option Method). answers a z ≡ true) (sym o.1)
        (and_from (not o.0.is_private) (same_signature a o.0) (ap not (sym lo.is_private) ∙ p.0)
        (back P a b o.0 w.0 la lo (params_there P keeps id a at) (params_there P keeps x o.0 o.1) p.1))

    pub answers_forth : (x : MethodId) (o : Method) → method_at P x ≡ Some o → a.pausable ≡ o.pausable → answers a (method_at P x) ≡ true → answers b (method_at W x) ≡ true
    answers_forth x o there pausable e =
        let w = woven x o there in
        let lo = w.2 in
        let p = and_parts (not o.is_private) (same_signature a o) (subst (λ (z : Option Method). answers a z ≡ true) there e) in
        subst (λ (z : Option Method). answers b z ≡ true) (sym w.1)
        (and_from (not w.0.is_private) (same_signature b w.0) (ap not lo.is_private ∙ p.0) (forth P a b o w.0 la lo (named_alike a o p.1) pausable))

    pub selected_kept : (up : ClassId) (f : MethodId) → selected P up a ≡ Some f → IsChosen P up a f → selected W up b ≡ Some f
    selected_kept up f is chosen =
        let line = flat_map (methods_of P) (line_of P up) in
        let more = methods_more P W extra grown (length P.classes) up in
        let goes = answers_forth f chosen.method chosen.there (sym chosen.pausable) (first_goes (λ (m : MethodId). answers a (method_at P m)) line f is) in
        subst (λ (n : ℕ). first_that (λ (m : MethodId). answers b (method_at W m)) (flat_map (methods_of W) (line_up_to W n up)) ≡ Some f) (sym (one_more P W extra grown))
        (subst (λ (ms : List MethodId). first_that (λ (m : MethodId). answers b (method_at W m)) ms ≡ Some f) (sym more.1)
        (first_kept (has_method P) (λ (m : MethodId). answers a (method_at P m)) (λ (m : MethodId). answers b (method_at W m)) line more.0 f (methods_there (line_of P up)) answers_back goes is))

    above_kept : (o : Option ClassId) → a.is_private ≡ false → is_constructor a ≡ false → is_above P o a ≡ true → is_above W o b ≡ true
    above_kept None public plain e = absurd (cc)
    above_kept (Some up) public plain e =
        let s = and_parts (list_any (λ (c : ClassId). eqb c.0 a.owner.0) (line_of P up)) (selects P (selected P up a)) e in
        let found = finds_chosen P id a up keeps at public plain s.0 in
        let chosen = found.2 in
        let w = woven found.0 chosen.method chosen.there in
        let concrete : not chosen.method.is_abstract ≡ true =
        sym (ap (λ (o : Option MethodId). selects P o) found.1 ∙ ap (λ (o : Option Method). not (is_abstract_there o)) chosen.there) ∙ s.1 in
        and_from (list_any (λ (c : ClassId). eqb c.0 b.owner.0) (line_of W up)) (selects W (selected W up b))
        (subst (λ (k : ClassId). list_any (λ (c : ClassId). eqb c.0 k.0) (line_of W up) ≡ true) (sym la.owner) (line_kept P W extra grown (λ (c : ClassId). eqb c.0 a.owner.0) up s.0))
        (ap (λ (o : Option MethodId). selects W o) (selected_kept up found.0 found.1 chosen)
        ∙ (ap (λ (o : Option Method). not (is_abstract_there o)) w.1 ∙ (ap not w.2.is_abstract ∙ concrete)))

    pub special_kept : (m v : Method) → v.owner ≡ m.owner → superclass_at (class_at W m.owner) ≡ superclass_at (class_at P m.owner) → is_constructor a ≡ false → may_name m a.is_private a.owner ≡ true →
        special_fits P m id a ≡ true → special_fits W v id b ≡ true
    unfolding special_fits
    special_kept m v owner above plain may fits =
        ap (λ (k : ClassId). cond (eqb k.0 v.owner.0) b.is_private (is_above W (superclass_at (class_at W v.owner)) b)) la.owner
        ∙ (ap (λ (k : ClassId). cond (eqb a.owner.0 k.0) b.is_private (is_above W (superclass_at (class_at W k)) b)) owner
        ∙ (ap (λ (z : Bool). cond (eqb a.owner.0 m.owner.0) z (is_above W (superclass_at (class_at W m.owner)) b)) la.is_private
        ∙ (ap (λ (o : Option ClassId). cond (eqb a.owner.0 m.owner.0) a.is_private (is_above W o b)) above
        ∙ by (eqb a.owner.0 m.owner.0) (superclass_at (class_at P m.owner)) may fits)))
      where
        or_false : (z : Bool) → (not z || false) ≡ true → z ≡ false
        or_false true e = absurd (cc)
        or_false false e = refl

        by : (z : Bool) (o : Option ClassId) → (not a.is_private || z) ≡ true → cond z a.is_private (is_above P o a) ≡ true → cond z a.is_private (is_above W o b) ≡ true
        by true o may e = e
        by false o may e = above_kept o (or_false a.is_private may) plain e
