-- Reports of methods, one after another.
use Rattle.std.proofs.Common.{◌≡◌, ℕ, ◌+◌, ◌<◌, List, [], ◌∷◌, ◌++◌, length, get_or, take, refl, sym, ap, ◌∙◌, subst, append_assoc}
use Rattle.std.specs.List.{flat_map}
use Rattle.std.proofs.lemmas.Grind.{flat_map-append}
use Rattle.std.proofs.lemmas.List.{append-nil, take_more}
use Rattle.kilim_program.specs.declared.class.Class.{Class}
use Rattle.kilim_program.specs.declared.names.MethodId.{MethodId}
use Rattle.kilim_type_spec.specs.TypedProgram.{TypedProgram}
use Rattle.kilim_isolation_pauses.specs.declared.report.Report.{Report}
use Rattle.kilim_isolation.specs.Faults.{AreReportsOf, AreReportsOfAll}

more_taken : {A : Type 0} (xs : List A) (k : ℕ) (x : A) → k < length xs → x ≡ get_or xs k x → take (k + 1) xs ≡ take k xs ++ x ∷ []
more_taken xs k x lt is = take_more xs k x lt ∙ ap (λ y. take k xs ++ y ∷ []) (sym is)

all_snoc : (t : TypedProgram) (ids : List MethodId) (id : MethodId) (rs more : List Report) → AreReportsOfAll t ids rs → AreReportsOf t id more → AreReportsOfAll t (ids ++ id ∷ []) (rs ++ more)
all_snoc t [] id rs more none one = (more, [], one, refl, ap (λ v. v ++ more) none ∙ sym (append-nil more))
all_snoc t (x ∷ ids) id rs more all one =
    (all.0, all.1 ++ more, all.2, all_snoc t ids id all.1 more all.3 one, ap (λ v. v ++ more) all.4 ∙ append_assoc all.0 all.1 more)

-- a turn of `push_each`
pub each_more : (t : TypedProgram) (done ids : List MethodId) (k : ℕ) (id : MethodId) (rs more new : List Report) → k < length ids → id ≡ get_or ids k id → AreReportsOf t id more → new ≡ rs ++ more →
    AreReportsOfAll t (done ++ take k ids) rs → AreReportsOfAll t (done ++ take (k + 1) ids) new
each_more t done ids k id rs more new lt is one added all =
    subst (λ (r : List Report). AreReportsOfAll t (done ++ take (k + 1) ids) r) (sym added)
    (subst (λ (xs : List MethodId). AreReportsOfAll t xs (rs ++ more)) (append_assoc done (take k ids) (id ∷ []) ∙ ap (λ v. done ++ v) (sym (more_taken ids k id lt is)))
    (all_snoc t (done ++ take k ids) id rs more all one))

abbrev methods_in : List Class → List MethodId
methods_in classes = flat_map (λ (class : Class). class.methods) classes

-- a turn of `all_reports`
pub class_more : (classes : List Class) (k : ℕ) (class : Class) → k < length classes → class ≡ get_or classes k class →
    flat_map (λ (c : Class). c.methods) (take k classes) ++ class.methods ≡ flat_map (λ (c : Class). c.methods) (take (k + 1) classes)
class_more classes k class lt is =
    sym (ap methods_in (more_taken classes k class lt is) ∙ (flat_map-append (λ (c : Class). c.methods) (take k classes) (class ∷ []) ∙ ap (λ v. methods_in (take k classes) ++ v) (append-nil class.methods)))
