-- Methods woven one by one are all woven.
use Rattle.std.proofs.Common.{◌≡◌, ℕ, ◌+◌, Bool, List, [], ◌∷◌, ◌++◌, map, refl, ap, sym, subst, ◌∙◌, take, slice_get, Some}
use Rattle.kilim_program.specs.declared.class.Form.TheVariants.{Woven}
use Rattle.kilim_program.specs.declared.class.Method.{Method}
use Rattle.kilim_program.specs.BuiltIn.{fiber_methods}
use Rattle.kilim_program.specs.Program.{Program}
use Rattle.kilim_weave_spec.specs.Form.{AllWoven, IsWoven, all_counted, first_class}
use Rattle.kilim_weave_method.proofs.Listing.{take_next}
use Rattle.kilim_weave_method.specs.woven_each.Each.{IsEachWoven}

pub each_more : (p : Program) (ms ws : List Method) (counted : List (List Bool)) (m w : Method) (marks : List Bool) → IsEachWoven p ms ws counted → IsWoven p m w marks → IsEachWoven p (ms ++ m ∷ []) (ws ++ w ∷ []) (counted ++ marks ∷ [])
each_more p [] [] [] m w marks each one = (one, tt)
each_more p [] [] (c ∷ cs) m w marks each one = absurd each
each_more p [] (v ∷ ws) cs m w marks each one = absurd each
each_more p (n ∷ ms) [] cs m w marks each one = absurd each
each_more p (n ∷ ms) (v ∷ ws) [] m w marks each one = absurd each
each_more p (n ∷ ms) (v ∷ ws) (c ∷ cs) m w marks each one = (each.0, each_more p ms ws cs m w marks each.1 one)

pub all_more : (p : Program) (ms : List Method) (at : ℕ) (m w : Method) (marks : List Bool) (ws ws' : List Method) (cs cs' : List (List Bool)) → slice_get ms at ≡ Some m → IsEachWoven p (take at ms) ws cs → IsWoven p m w marks
    → ws' ≡ ws ++ w ∷ [] → cs' ≡ cs ++ marks ∷ [] → IsEachWoven p (take (at + 1) ms) ws' cs'
all_more p ms at m w marks ws ws' cs cs' there each one methods counted =
    subst (λ (xs : List Method). IsEachWoven p xs ws' cs') (sym (take_next ms at m there))
    (subst (λ (xs : List Method). IsEachWoven p (take at ms ++ m ∷ []) xs cs') (sym methods)
    (subst (λ (xs : List (List Bool)). IsEachWoven p (take at ms ++ m ∷ []) (ws ++ w ∷ []) xs) (sym counted) (each_more p (take at ms) ws cs m w marks each one)))

all_of : (p : Program) (fs : List Method) → fs ≡ fiber_methods Woven (first_class p) → (ms ws : List Method) (counted : List (List Bool)) → IsEachWoven p ms ws counted → AllWoven p ms (ws ++ fs) (counted ++ map all_counted fs)
all_of p fs e [] [] [] each = (e, refl)
all_of p fs e [] [] (c ∷ cs) each = absurd each
all_of p fs e [] (v ∷ ws) cs each = absurd each
all_of p fs e (n ∷ ms) [] cs each = absurd each
all_of p fs e (n ∷ ms) (v ∷ ws) [] each = absurd each
all_of p fs e (n ∷ ms) (v ∷ ws) (c ∷ cs) each = (each.0, all_of p fs e ms ws cs each.1)

pub with_fiber_of : (p : Program) (fs ms ws ws' : List Method) (cs cs' : List (List Bool)) → fs ≡ fiber_methods Woven (first_class p) → IsEachWoven p ms ws cs → ws' ≡ ws ++ fs → cs' ≡ cs ++ map all_counted fs → AllWoven p ms ws' cs'
with_fiber_of p fs ms ws ws' cs cs' e each methods counted =
    subst (λ (xs : List Method). AllWoven p ms xs cs') (sym methods) (subst (λ (xs : List (List Bool)). AllWoven p ms (ws ++ fs) xs) (sym counted) (all_of p fs e ms ws cs each))

-- ---- all count

map_behind : {A B : Type 0} (f : A → B) (xs : List A) (x : A) → map f (xs ++ x ∷ []) ≡ map f xs ++ f x ∷ []
map_behind f [] x = refl
map_behind {A} {B} f (y ∷ xs) x = ap (λ (zs : List B). f y ∷ zs) (map_behind f xs x)

pub marks_more : (ms : List Method) (at : ℕ) (m : Method) (marks : List Bool) (all all' : List (List Bool)) → slice_get ms at ≡ Some m → all ≡ map all_counted (take at ms) → marks ≡ all_counted m → all' ≡ all ++ marks ∷ [] → all' ≡ map all_counted (take (at + 1) ms)
marks_more ms at m marks all all' there is one pushed =
    pushed
    ∙ (ap (λ (bs : List Bool). all ++ bs ∷ []) one
    ∙ (ap (λ (cs : List (List Bool)). cs ++ all_counted m ∷ []) is ∙ (sym (map_behind all_counted (take at ms) m) ∙ sym (ap (map all_counted) (take_next ms at m there)))))
