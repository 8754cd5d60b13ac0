-- The constructor that a class is begun with is a constructor, whose receiver is cuttable.
use Rattle.std.proofs.Common.{◌≡◌, ℕ, zero, suc, Bool, true, false, ◌&&◌, List, [], ◌∷◌, Option, Some, None, refl, sym, ap, subst, ◌∙◌}
use Rattle.std.specs.Prelude.{◌||◌, not, if◌then◌else◌, is_none, slice_get, codes}
use Rattle.std.specs.List.{list_all}
use Rattle.std.specs.Str.{bytes_eq}
use Rattle.std.proofs.lemmas.Bool.{and_parts}
use Rattle.kilim_program.specs.declared.class.Method.{Method}
use Rattle.kilim_program.specs.declared.names.ClassId.{ClassId}
use Rattle.kilim_program.specs.declared.names.MethodId.{MethodId}
use Rattle.kilim_program.specs.declared.ty.Qualifier.{Qualifier}
use Rattle.kilim_program.specs.declared.ty.Qualifier.TheVariants.{Free, Cuttable, Safe}
use Rattle.kilim_program.specs.Names.{method_at, methods_of, first_that, is_empty}
use Rattle.kilim_program.specs.Program.{Program}
use Rattle.kilim_program.specs.Same.{is_constructor, same_qualifier}
use Rattle.kilim_program.specs.Members.{is_plain_method}
use Rattle.kilim_link_laws.specs.code_laws.Facts.{cuts_its_receiver}
use Rattle.kilim_isolation_laws.specs.accepted_runs.begins.Begins.{MainBegins}

-- the first that passes a test passes it
passes_by : {A : Type 0} (test : A → Bool) (x y : A) (later : Option A) (b : Bool) → test x ≡ b → (later ≡ Some y → test y ≡ true) → (if b then Some x else later) ≡ Some y → test y ≡ true
passes_by test x y later true is rest e = let same : x ≡ y = cc in subst (λ z. test z ≡ true) same is
passes_by test x y later false is rest e = rest e

passes : {A : Type 0} (test : A → Bool) (xs : List A) (y : A) → first_that test xs ≡ Some y → test y ≡ true
passes test [] y e = absurd (cc)
passes test (x ∷ xs) y e = passes_by test x y (first_that test xs) (test x) refl (passes test xs y) e

all_at : {A : Type 0} (test : A → Bool) (xs : List A) (k : ℕ) (x : A) → list_all test xs ≡ true → slice_get xs k ≡ Some x → test x ≡ true
all_at test [] k x a e = absurd (cc)
all_at test (y ∷ xs) zero x a e = subst (λ z. test z ≡ true) (let s : y ≡ x = cc in s) (and_parts (test y) (list_all test xs) a).0
all_at test (y ∷ xs) (suc k) x a e = all_at test xs k x (and_parts (test y) (list_all test xs) a).1 e

first_part : (a b : Bool) → (a && b) ≡ true → a ≡ true
first_part true b e = refl
first_part false b e = e

plain_by : (p : Program) (id : MethodId) (m : Method) → method_at p id ≡ Some m → is_plain_method p (codes "<init>") id ≡ true → is_constructor m ≡ true
plain_by p id m at e =
    first_part (bytes_eq m.name (codes "<init>")) (is_empty m.params && is_none m.result)
    (sym (ap (λ (o : Option Method). elim o [ None ↦ false | Some method ↦ bytes_eq method.name (codes "<init>") && (is_empty method.params && is_none method.result) ]) at) ∙ e)

not_by : (static : Bool) → same_qualifier Free (if static then Safe else Cuttable) ≡ true → ⊥
not_by true e = cc
not_by false e = cc

or_second : (a b : Bool) → a ≡ true → (not a || b) ≡ true → b ≡ true
or_second true b is e = e
or_second false b is e = absurd (cc)

not_free : (m : Method) → is_constructor m ≡ true → cuts_its_receiver m ≡ true → m.receiver ≡ Free → ⊥
not_free m is cuts free =
    let own = or_second (is_constructor m) (same_qualifier m.receiver (if m.is_static then Safe else Cuttable)) is cuts in
    not_by m.is_static (subst (λ (q : Qualifier). same_qualifier q (if m.is_static then Safe else Cuttable) ≡ true) free own)

pub main_begins : (p : Program) → list_all cuts_its_receiver p.methods ≡ true → (main : ClassId) → MainBegins p main
main_begins p all main id m is at free =
    not_free m (plain_by p id m at (passes (is_plain_method p (codes "<init>")) (methods_of p main) id is)) (all_at cuts_its_receiver p.methods id.0 m all at) free
