-- A program to which class files link is plain.
use Rattle.std.proofs.Common.{◌≡◌, ◌≢◌, ℕ, zero, suc, Bool, true, false, List, [], ◌∷◌, Option, Some, None, refl, ap, ◌∙◌}
use Rattle.std.specs.Prelude.{not, slice_get, ◌==◌}
use Rattle.std.specs.List.{list_all}
use Rattle.std.proofs.lemmas.Bool.{and_parts, eq-eqb}
use Rattle.kilim_program.specs.declared.class.Class.{Class}
use Rattle.kilim_program.specs.declared.class.Form.TheVariants.{Plain}
use Rattle.kilim_program.specs.Keeps.{Keeps, begins_as_array, none_is_named_as_array}
use Rattle.kilim_program.specs.Names.{is_empty}
use Rattle.kilim_program.specs.Program.{Program}
use Rattle.kilim_class_file.specs.declared.class_file.ClassFile.{ClassFile}
use Rattle.kilim_link_spec.specs.Laws.{LinkedInParts}
use Rattle.kilim_link_spec.specs.LinksWell.{LinksWell}
use Rattle.kilim_link_laws.specs.Facts.{EachIsNamed, each_is_named}
use Rattle.kilim_run_model.specs.kin.trees.Laws.{IsPlain}
use Rattle.kilim_isolation_laws.specs.tree_types.Laws.{AreNamedPlainly}

same_test : {A : Type 0} (test : A → Bool) (x y : A) → Some y ≡ Some x → test y ≡ true → test x ≡ true
same_test test x y e t = cc

all_at : {A : Type 0} (test : A → Bool) (xs : List A) (k : ℕ) (x : A) → list_all test xs ≡ true → slice_get xs k ≡ Some x → test x ≡ true
all_at test [] k x all at = absurd (cc)
all_at test (y ∷ ys) zero x all at = same_test test x y at (and_parts (test y) (list_all test ys) all).0
all_at test (y ∷ ys) (suc k) x all at = all_at test ys k x (and_parts (test y) (list_all test ys) all).1 at

not_both : (b : Bool) → b ≡ true → not b ≡ true → ⊥
not_both true p q = cc
not_both false p q = cc

plain_of : (name : List ℕ) → not (is_empty name) ≡ true → not (begins_as_array name) ≡ true → IsPlain name
plain_of [] full array = absurd (cc)
plain_of (u ∷ us) full array = λ e. not_both (u == 91) (eq-eqb u 91 e) array

named_plainly : (p : Program) → each_is_named p ≡ true → none_is_named_as_array p ≡ true → AreNamedPlainly p
unfolding each_is_named none_is_named_as_array
named_plainly p full none c class at =
    plain_of class.name (all_at (λ (k : Class). not (is_empty k.name)) p.classes c.0 class full at) (all_at (λ (k : Class). not (begins_as_array k.name)) p.classes c.0 class none at)

pub linked_is_plain : LinkedInParts → EachIsNamed → (files : List ClassFile) (p : Program) → LinksWell files Plain p → Keeps p → (p.form ≡ Plain) × AreNamedPlainly p
linked_is_plain in_parts named files p well keeps =
    (ap (λ (q : Program). q.form) (in_parts files Plain p well.linked).is, named_plainly p (named files Plain p well) keeps.class_names)
