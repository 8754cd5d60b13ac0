-- Methods without annotations have the same qualifiers.
use Rattle.std.proofs.Common.{◌≡◌, Bool, true, false, refl, List, ℕ, [], ◌∷◌, ap, sym, ◌∙◌}
use Rattle.std.specs.Prelude.{◌&&◌, ◌||◌, not, if◌then◌else◌, codes}
use Rattle.std.specs.Str.{bytes_eq}
use Rattle.std.proofs.lemmas.Slice.Eq.{bytes_eq-Decides}
use Rattle.std.proofs.lemmas.Bool.{and_from}
use Rattle.kilim_lemmas.proofs.Texts.{text_is}
use Rattle.kilim_program.specs.declared.names.ClassId.{ClassId}
use Rattle.kilim_program.specs.declared.ty.Qualifier.{Qualifier}
use Rattle.kilim_program.specs.declared.ty.Qualifier.TheVariants.{Free, Cuttable, Safe}
use Rattle.kilim_program.specs.Kinds.{class_kind, is_tree_kind}
use Rattle.kilim_program.specs.Names.{is_task}
use Rattle.kilim_program.specs.Same.{same_qualifier, same_qualifiers}
use Rattle.kilim_link_spec.specs.Faults.{same_qualified}
use Rattle.kilim_link_spec.specs.Qualified.{qualified, qualified_by, receiver_by, params_by, params_of, is_constructor_name, has_fiber}
use Rattle.kilim_link_spec.specs.Types.{method_text}
use Rattle.kilim_link_spec.specs.World.{World}
use Rattle.kilim_link_spec.specs.declared.view.DeclaredMethod.{DeclaredMethod}
use Rattle.kilim_link_spec.specs.declared.view.Marks.{Marks}
use Rattle.kilim_link_spec.specs.declared.view.Marks.TheVariants.{Stated, Annotated}
use Rattle.kilim_link_override_faults.specs.Parts.{has_no_marks, is_unmarked, are_unmarked}

same_one : (q : Qualifier) → same_qualifier q q ≡ true
same_one Free = refl
same_one Cuttable = refl
same_one Safe = refl

same_all : (qs : List Qualifier) → same_qualifiers qs qs ≡ true
same_all [] = refl
same_all (q ∷ qs) = and_from (same_qualifier q q) (same_qualifiers qs qs) (same_one q) (same_all qs)

-- the tests for the receiver, by their outcomes: static, a constructor, a tree, a task, `execute` and its descriptor
safe_of : (s i t k e x : Bool) → not i ≡ true → not e ≡ true → (if s then Safe else (if i then Cuttable else (if t then (if k && (e && x) then Cuttable else Safe) else Safe))) ≡ Safe
safe_of true i t k e x ni ne = refl
safe_of false true t k e x ni ne = absurd cc
safe_of false false false k e x ni ne = refl
safe_of false false true k true x ni ne = absurd cc
safe_of false false true true false x ni ne = refl
safe_of false false true false false x ni ne = refl

receiver_is_safe : (w : World) (c : ClassId) (m : DeclaredMethod) → not (is_constructor_name m.name) ≡ true → not (bytes_eq m.name (codes "execute")) ≡ true → receiver_by w c m [] ≡ Safe
receiver_is_safe w c m ni ne =
    safe_of m.is_static (is_constructor_name m.name) (is_tree_kind (class_kind w.outline c)) (is_task w.outline c) (bytes_eq m.name (codes "execute"))
    (bytes_eq m.descriptor (codes "()V") || (has_fiber w.form && bytes_eq m.descriptor (codes "(Lkilim/Fiber;)V"))) ni ne

pub first_of_both : (a b : Bool) → (a && b) ≡ true → a ≡ true
first_of_both true b e = refl
first_of_both false b e = e

pub second_of_both : (a b : Bool) → (a && b) ≡ true → b ≡ true
second_of_both true b e = e
second_of_both false b e = absurd cc

safe_both : (p q : Qualifier) → p ≡ Safe → q ≡ Safe → same_qualifier p q ≡ true
safe_both p q ep eq = ap (λ x. same_qualifier x q) ep ∙ ap (same_qualifier Safe) eq

agree_by : (w : World) (c : ClassId) (m : DeclaredMethod) (d : ClassId) (o : DeclaredMethod) (a b : Marks) → has_no_marks a ≡ true → has_no_marks b ≡ true
    → receiver_by w c m [] ≡ Safe → receiver_by w d o [] ≡ Safe → m.descriptor ≡ o.descriptor → same_qualified (qualified_by w c m a) (qualified_by w d o b) ≡ true
agree_by w c m d o (Annotated [] []) (Annotated [] []) na nb rm ro same =
    and_from (same_qualifier (receiver_by w c m []) (receiver_by w d o [])) (same_qualifiers (params_by w (params_of (method_text m.descriptor)) []) (params_by w (params_of (method_text o.descriptor)) []))
    (safe_both (receiver_by w c m []) (receiver_by w d o []) rm ro)
    (ap (λ (t : List ℕ). same_qualifiers (params_by w (params_of (method_text m.descriptor)) []) (params_by w (params_of (method_text t)) [])) (sym same) ∙ same_all (params_by w (params_of (method_text m.descriptor)) []))
agree_by w c m d o (Annotated (x ∷ xs) ys) b na nb rm ro same = absurd cc
agree_by w c m d o (Annotated [] (y ∷ ys)) b na nb rm ro same = absurd cc
agree_by w c m d o (Stated r ps) b na nb rm ro same = absurd cc
agree_by w c m d o (Annotated [] []) (Annotated (x ∷ xs) ys) na nb rm ro same = absurd cc
agree_by w c m d o (Annotated [] []) (Annotated [] (y ∷ ys)) na nb rm ro same = absurd cc
agree_by w c m d o (Annotated [] []) (Stated r ps) na nb rm ro same = absurd cc

receiver_of : (w : World) (c : ClassId) (m : DeclaredMethod) → is_unmarked m ≡ true → receiver_by w c m [] ≡ Safe
receiver_of w c m u =
    let rest = second_of_both (has_no_marks m.marks) (not (bytes_eq m.name (codes "execute")) && not (is_constructor_name m.name)) u in
    receiver_is_safe w c m (second_of_both (not (bytes_eq m.name (codes "execute"))) (not (is_constructor_name m.name)) rest) (first_of_both (not (bytes_eq m.name (codes "execute"))) (not (is_constructor_name m.name)) rest)

pub agree : (w : World) (c : ClassId) (m : DeclaredMethod) (d : ClassId) (o : DeclaredMethod) → are_unmarked m o ≡ true → true ≡ same_qualified (qualified w c m) (qualified w d o)
unfolding qualified
agree w c m d o u =
    let um = first_of_both (is_unmarked m) (is_unmarked o && bytes_eq m.descriptor o.descriptor) u in
    let others = second_of_both (is_unmarked m) (is_unmarked o && bytes_eq m.descriptor o.descriptor) u in
    let uo = first_of_both (is_unmarked o) (bytes_eq m.descriptor o.descriptor) others in
    let e = second_of_both (is_unmarked o) (bytes_eq m.descriptor o.descriptor) others in
    sym (agree_by w c m d o m.marks o.marks
    (first_of_both (has_no_marks m.marks) (not (bytes_eq m.name (codes "execute")) && not (is_constructor_name m.name)) um)
    (first_of_both (has_no_marks o.marks) (not (bytes_eq o.name (codes "execute")) && not (is_constructor_name o.name)) uo)
    (receiver_of w c m um) (receiver_of w d o uo) (text_is m.descriptor o.descriptor e))
