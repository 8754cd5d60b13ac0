-- Every method of a program is among its classes' methods.
use Rattle.std.proofs.Common.{◌≡◌, inl, inr, ℕ, zero, suc, refl, ap, sym, subst, List, [], ◌∷◌, ◌++◌, Option, Some, None, slice_get}
use Rattle.std.specs.List.{flat_map}
use Rattle.kilim_program.specs.declared.class.Class.{Class}
use Rattle.kilim_program.specs.declared.class.Method.{Method}
use Rattle.kilim_program.specs.declared.names.MethodId.{MethodId}
use Rattle.kilim_program.specs.Keeps.{Keeps}
use Rattle.kilim_program.specs.Names.{class_at, method_at}
use Rattle.kilim_program.specs.Program.{Program}
use Rattle.kilim_type_laws.proofs.members.ClassMethods.{IsAmong, owner_lists}
use Rattle.kilim_isolation_pauses.specs.Pausing.{all_methods}
use Rattle.kilim_isolation.proofs.Accepting.{goes_on}
use Rattle.kilim_isolation_laws.specs.reached_objects.walk.Laws.{EveryMethodGoes}

among_left : {A : Type 0} (x : A) (xs ys : List A) → IsAmong x xs → IsAmong x (xs ++ ys)
among_left x [] ys i = absurd i
among_left x (y ∷ xs) ys (inl e) = inl e
among_left x (y ∷ xs) ys (inr i) = inr (among_left x xs ys i)

among_right : {A : Type 0} (x : A) (xs ys : List A) → IsAmong x ys → IsAmong x (xs ++ ys)
among_right x [] ys i = i
among_right x (y ∷ xs) ys i = inr (among_right x xs ys i)

among_all : (classes : List Class) (n : ℕ) (class : Class) (id : MethodId) → slice_get classes n ≡ Some class → IsAmong id class.methods → IsAmong id (flat_map (λ (c : Class). c.methods) classes)
among_all [] n class id is i = absurd (cc)
among_all (c ∷ classes) zero class id is i = let same : c ≡ class = cc in among_left id c.methods (flat_map (λ (d : Class). d.methods) classes) (subst (λ (d : Class). IsAmong id d.methods) (sym same) i)
among_all (c ∷ classes) (suc n) class id is i = among_right id c.methods (flat_map (λ (d : Class). d.methods) classes) (among_all classes n class id is i)

some_place : {A : Type 0} (x : A) (xs : List A) → IsAmong x xs → (k : ℕ) × (slice_get xs k ≡ Some x)
some_place x [] i = absurd i
some_place {A} x (y ∷ xs) (inl e) = (0, ap (λ (z : A). Some z) (sym e))
some_place x (y ∷ xs) (inr i) = let later = some_place x xs i in (suc later.0, later.1)

listed_in : (p : Program) (id : MethodId) (n : ℕ) (o : Option Class) → slice_get p.classes n ≡ o → IsAmong id (elim o [ None ↦ [] | Some class ↦ class.methods ]) → IsAmong id (all_methods p)
listed_in p id n None is i = absurd i
listed_in p id n (Some class) is i = among_all p.classes n class id is i

pub is_listed : (p : Program) → Keeps p → (id : MethodId) (m : Method) → method_at p id ≡ Some m → (k : ℕ) × (slice_get (all_methods p) k ≡ Some id)
is_listed p keeps id m is = some_place id (all_methods p) (listed_in p id m.owner.0 (class_at p m.owner) refl (owner_lists p keeps id m is))

pub every_method_goes : EveryMethodGoes
every_method_goes t keeps accepted id m is coded =
    let at = is_listed t.program keeps id m is in
    goes_on t at.0 id m accepted at.1 is coded
