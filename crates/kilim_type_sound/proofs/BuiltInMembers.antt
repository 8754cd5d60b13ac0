-- Static built-in methods that aren't handed out take the element of an array, and the methods of strings are three.
use Rattle.std.proofs.Common.{◌≡◌, ℕ, zero, suc, ◌+◌, Bool, true, false, List, [], ◌∷◌, ◌++◌, length, Option, Some, None, refl, ap, subst, ◌∙◌}
use Rattle.std.specs.Prelude.{not, slice_get, codes}
use Rattle.std.specs.List.{list_all, AllByRecursion}
use Rattle.std.proofs.lemmas.Bool.{and_parts}
use Rattle.kilim_program.specs.declared.class.Class.{Class}
use Rattle.kilim_program.specs.declared.class.Form.TheVariants.{Plain, Woven}
use Rattle.kilim_program.specs.declared.class.Form.{Form}
use Rattle.kilim_program.specs.declared.class.Method.{Method}
use Rattle.kilim_program.specs.declared.names.ClassId.{ClassId}
use Rattle.kilim_program.specs.declared.names.MethodId.{MethodId}
use Rattle.kilim_program.specs.declared.ty.Base.TheVariants as base
use Rattle.kilim_program.specs.declared.ty.Qualifier.TheVariants.{Safe}
use Rattle.kilim_program.specs.Program.{Program}
use Rattle.kilim_program.specs.BuiltIn.{built_in_classes_in, built_in_method, built_in_methods_in, class_id, class_type, fiber_methods, fiber_params, fiber_qualifiers, fiber_type, int_type, on_fiber, plain_type}
use Rattle.kilim_program.proofs.BuiltIns.{exceptions_too}
use Rattle.kilim_program.specs.Names.{class_name, method_at}
use Rattle.kilim_program.specs.Keeps.{Keeps}
use Rattle.kilim_run_machine.specs.Natives.{is_handed_out, is_handed_out_of}
use Rattle.kilim_lemmas.proofs.Lists.{get_right}
use Rattle.kilim_type_laws.proofs.members.FromKeeps.{all_weaker, own_body}
use Rattle.kilim_type_laws.proofs.members.ValueClasses.{all_of_at}

-- what `kilim/Sys.take` takes and gives
abbrev TakesElement : Method → Type 0
TakesElement m = (k : ClassId) × (m.params ≡ record { dims = 1; base = base.Class k } ∷ plain_type base.Int ∷ []) × (m.result ≡ Some (class_type k.0))

-- whether a method of a class of that name is handed out
abbrev hands : Method → List ℕ → Bool
hands m name = is_handed_out_of name m

abbrev TakesOnly : Program → Method → Type 0
TakesOnly p m = m.is_static ≡ true → is_handed_out p m ≡ false → TakesElement m

module _ (p : Program) where
  handed : (m : Method) (name : List ℕ) → class_name p m.owner ≡ name → hands m name ≡ true → TakesOnly p m
  handed m name is all static none = absurd (let f = subst (λ (n : List ℕ). hands m n ≡ false) is none in cc)

  module _ (n : ℕ) (sys : class_name p (class_id (n + 6)) ≡ codes "kilim/Sys") where
    takes_plain : AllByRecursion (TakesOnly p) (built_in_methods_in Plain n)
    takes_plain = (
      (λ s h. absurd (let z : false ≡ true = s in cc)),
      (
        (λ s h. absurd (let z : false ≡ true = s in cc)),
        (
          (λ s h. absurd (let z : false ≡ true = s in cc)),
          (
            (λ s h. absurd (let z : false ≡ true = s in cc)),
            (
              (λ s h. absurd (let z : false ≡ true = s in cc)),
              (
                (λ s h. absurd (let z : false ≡ true = s in cc)),
                (
                  (λ s h. absurd (let z : false ≡ true = s in cc)),
                  (
                    (λ s h. absurd (let z : false ≡ true = s in cc)),
                    (
                      (λ s h. absurd (let z : false ≡ true = s in cc)),
                      (
                        (λ s h. absurd (let z : false ≡ true = s in cc)),
                        (
                          (λ s h. absurd (let z : false ≡ true = s in cc)),
                          (
                            (λ s h. absurd (let z : false ≡ true = s in cc)),
                            (
                              (λ s h. absurd (let z : false ≡ true = s in cc)),
                              (
                                handed (built_in_method (codes "print") (class_id (n + 6)) ((int_type) ∷ []) None true false Safe (Safe ∷ [])) (codes "kilim/Sys") sys refl,
                                (
                                  handed (built_in_method (codes "print") (class_id (n + 6)) ((plain_type base.Long) ∷ []) None true false Safe (Safe ∷ [])) (codes "kilim/Sys") sys refl,
                                  (
                                    handed (built_in_method (codes "print") (class_id (n + 6)) ((class_type (n + 1)) ∷ []) None true false Safe (Safe ∷ [])) (codes "kilim/Sys") sys refl,
                                    (
                                      handed (built_in_method (codes "yield") (class_id (n + 6)) (fiber_params Plain n) None true true Safe (fiber_qualifiers Plain)) (codes "kilim/Sys") sys refl,
                                      (
                                        handed (built_in_method (codes "argCount") (class_id (n + 6)) [] (Some int_type) true false Safe []) (codes "kilim/Sys") sys refl,
                                        (
                                          handed (built_in_method (codes "arg") (class_id (n + 6)) (int_type ∷ []) (Some int_type) true false Safe (Safe ∷ [])) (codes "kilim/Sys") sys refl,
                                          (
                                            (λ s h. (class_id (n + 2), refl, refl)),
                                            exceptions_too (TakesOnly p) n [] (λ c s h. absurd (let z : false ≡ true = s in cc)) (λ c s h. absurd (let z : false ≡ true = s in cc)) (λ s h. absurd (let z : false ≡ true = s in cc)) tt,
                                          ),
                                        ),
                                      ),
                                    ),
                                  ),
                                ),
                              ),
                            ),
                          ),
                        ),
                      ),
                    ),
                  ),
                ),
              ),
            ),
          ),
        ),
      ),
    )

    takes_woven : class_name p (class_id (n + 18)) ≡ codes "kilim/Fiber" → AllByRecursion (TakesOnly p) (built_in_methods_in Woven n)
    takes_woven fiber = (
      (λ s h. absurd (let z : false ≡ true = s in cc)),
      (
        (λ s h. absurd (let z : false ≡ true = s in cc)),
        (
          (λ s h. absurd (let z : false ≡ true = s in cc)),
          (
            (λ s h. absurd (let z : false ≡ true = s in cc)),
            (
              (λ s h. absurd (let z : false ≡ true = s in cc)),
              (
                (λ s h. absurd (let z : false ≡ true = s in cc)),
                (
                  (λ s h. absurd (let z : false ≡ true = s in cc)),
                  (
                    (λ s h. absurd (let z : false ≡ true = s in cc)),
                    (
                      (λ s h. absurd (let z : false ≡ true = s in cc)),
                      (
                        (λ s h. absurd (let z : false ≡ true = s in cc)),
                        (
                          (λ s h. absurd (let z : false ≡ true = s in cc)),
                          (
                            (λ s h. absurd (let z : false ≡ true = s in cc)),
                            (
                              (λ s h. absurd (let z : false ≡ true = s in cc)),
                              (
                                handed (built_in_method (codes "print") (class_id (n + 6)) ((int_type) ∷ []) None true false Safe (Safe ∷ [])) (codes "kilim/Sys") sys refl,
                                (
                                  handed (built_in_method (codes "print") (class_id (n + 6)) ((plain_type base.Long) ∷ []) None true false Safe (Safe ∷ [])) (codes "kilim/Sys") sys refl,
                                  (
                                    handed (built_in_method (codes "print") (class_id (n + 6)) ((class_type (n + 1)) ∷ []) None true false Safe (Safe ∷ [])) (codes "kilim/Sys") sys refl,
                                    (
                                      handed (built_in_method (codes "yield") (class_id (n + 6)) (fiber_params Woven n) None true true Safe (fiber_qualifiers Woven)) (codes "kilim/Sys") sys refl,
                                      (
                                        handed (built_in_method (codes "argCount") (class_id (n + 6)) [] (Some int_type) true false Safe []) (codes "kilim/Sys") sys refl,
                                        (
                                          handed (built_in_method (codes "arg") (class_id (n + 6)) (int_type ∷ []) (Some int_type) true false Safe (Safe ∷ [])) (codes "kilim/Sys") sys refl,
                                          (
                                            (λ s h. (class_id (n + 2), refl, refl)),
                                            exceptions_too (TakesOnly p) n (fiber_methods Woven n) (λ c s h. absurd (let z : false ≡ true = s in cc)) (λ c s h. absurd (let z : false ≡ true = s in cc)) (λ s h. absurd (let z : false ≡ true = s in cc)) (
                                              (λ s h. absurd (let z : false ≡ true = s in cc)),
                                              (
                                                (λ s h. absurd (let z : false ≡ true = s in cc)),
                                                (
                                                  (λ s h. absurd (let z : false ≡ true = s in cc)),
                                                  (
                                                    handed (on_fiber n (codes "saveI") int_type) (codes "kilim/Fiber") fiber refl,
                                                    (
                                                      handed (on_fiber n (codes "saveJ") (plain_type base.Long)) (codes "kilim/Fiber") fiber refl,
                                                      (
                                                        handed (on_fiber n (codes "saveA") (class_type n)) (codes "kilim/Fiber") fiber refl,
                                                        (
                                                          handed (built_in_method (codes "place") (class_id (n + 18)) (int_type ∷ class_type n ∷ fiber_type n ∷ []) None true false Safe (Safe ∷ Safe ∷ Safe ∷ [])) (codes "kilim/Fiber") fiber refl,
                                                          (
                                                            (λ s h. absurd (let z : false ≡ true = s in cc)),
                                                            (
                                                              (λ s h. absurd (let z : false ≡ true = s in cc)),
                                                              (
                                                                (λ s h. absurd (let z : false ≡ true = s in cc)),
                                                                (
                                                                  (λ s h. absurd (let z : false ≡ true = s in cc)),
                                                                  tt,
                                                                ),
                                                              ),
                                                            ),
                                                          ),
                                                        ),
                                                      ),
                                                    ),
                                                  ),
                                                ),
                                              ),
                                            ),
                                          ),
                                        ),
                                      ),
                                    ),
                                  ),
                                ),
                              ),
                            ),
                          ),
                        ),
                      ),
                    ),
                  ),
                ),
              ),
            ),
          ),
        ),
      ),
    )

-- ---- a built-in method is one of the second list

pub built_in_at : (xs ys : List Method) (k : ℕ) (m : Method) → slice_get (xs ++ ys) k ≡ Some m → list_all (λ m. not m.built_in) xs ≡ true → m.built_in ≡ true → (j : ℕ) × (slice_get ys j ≡ Some m)
built_in_at [] ys k m at own is = (k, at)
built_in_at (x ∷ xs) ys zero m at own is = absurd (let s : x ≡ m = cc in let z = (and_parts (not x.built_in) (list_all (λ m. not m.built_in) xs) own).0 in let y = subst (λ (b : Bool). not b ≡ true) (ap (λ (q : Method). q.built_in) s ∙ is) z in cc)
built_in_at (x ∷ xs) ys (suc k) m at own is = built_in_at xs ys k m at (and_parts (not x.built_in) (list_all (λ m. not m.built_in) xs) own).1 is

-- ---- the names of the built-in classes

pub record NamedAt (form : Form) (a b k : ℕ) (name : List ℕ) : Type 0 where
  pub class : Class
  pub at : slice_get (built_in_classes_in form a b) k ≡ Some class
  pub is : class.name ≡ name

sys_at : (form : Form) (a b : ℕ) → NamedAt form a b 6 (codes "kilim/Sys")
sys_at Plain a b = record { class = _; at = refl; is = refl }
sys_at Woven a b = record { class = _; at = refl; is = refl }

pub fiber_at : (a b : ℕ) → NamedAt Woven a b 18 (codes "kilim/Fiber")
fiber_at a b = record { class = _; at = refl; is = refl }

module _ (p : Program) (keeps : Keeps p) where
  abbrev n : ℕ
  n = length keeps.built_in.own_classes

  pub named_at : (form : Form) → p.form ≡ form → (k : ℕ) (name : List ℕ) → NamedAt form n (length keeps.built_in.own_methods) k name → class_name p (class_id (n + k)) ≡ name
  named_at form is k name named =
      let there : slice_get p.classes (n + k) ≡ Some named.class =
      ap (λ (cs : List Class). slice_get cs (n + k)) keeps.built_in.classes
      ∙ (get_right keeps.built_in.own_classes (built_in_classes_in p.form n (length keeps.built_in.own_methods)) (n + k) k refl
      ∙ (ap (λ (f : Form). slice_get (built_in_classes_in f n (length keeps.built_in.own_methods)) k) is ∙ named.at)) in
      ap (λ (o : Option Class). elim o [ None ↦ [] | Some class ↦ class.name ]) there ∙ named.is

  all_take : (form : Form) → p.form ≡ form → AllByRecursion (TakesOnly p) (built_in_methods_in form n)
  all_take Plain is = takes_plain p n (named_at Plain is 6 (codes "kilim/Sys") (sys_at Plain n (length keeps.built_in.own_methods)))
  all_take Woven is = takes_woven p n (named_at Woven is 6 (codes "kilim/Sys") (sys_at Woven n (length keeps.built_in.own_methods))) (named_at Woven is 18 (codes "kilim/Fiber") (fiber_at n (length keeps.built_in.own_methods)))

  pub none_built_in : list_all (λ m. not m.built_in) keeps.built_in.own_methods ≡ true
  none_built_in = all_weaker p (own_body p) (λ m. not m.built_in) (λ m e. (and_parts (not m.built_in) _ e).0) keeps.built_in.own_methods keeps.built_in.bodies

  pub takes : (id : MethodId) (callee : Method) → method_at p id ≡ Some callee → callee.built_in ≡ true → callee.is_static ≡ true → is_handed_out p callee ≡ false → TakesElement callee
  takes id callee there own static none =
      let b = built_in_at keeps.built_in.own_methods (built_in_methods_in p.form n) id.0 callee (subst (λ (ms : List Method). slice_get ms id.0 ≡ Some callee) keeps.built_in.methods there) none_built_in own in
      all_of_at (TakesOnly p) (built_in_methods_in p.form n) (all_take p.form refl) b.0 callee b.1 static none
