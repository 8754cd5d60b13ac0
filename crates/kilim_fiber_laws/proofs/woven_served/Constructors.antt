-- The constructor of task 0 is the same method in the woven program.
use Rattle.std.proofs.Common.{◌≡◌, ◌≢◌, ℕ, Bool, true, false, List, [], ◌∷◌, Option, Some, None, refl, sym, ap, ◌∙◌}
use Rattle.std.specs.Prelude.{◌&&◌, codes, if◌then◌else◌, is_none}
use Rattle.std.specs.Str.{bytes_eq}
use Rattle.std.proofs.lemmas.Option.{slice_get_within}
use Rattle.kilim_program.specs.declared.class.Class.{Class}
use Rattle.kilim_program.specs.declared.class.Form.TheVariants.{Plain}
use Rattle.kilim_program.specs.declared.class.Method.{Method}
use Rattle.kilim_program.specs.declared.names.ClassId.{ClassId}
use Rattle.kilim_program.specs.declared.names.MethodId.{MethodId}
use Rattle.kilim_program.specs.Keeps.{Keeps}
use Rattle.kilim_program.specs.Names.{class_at, first_that, is_empty, method_at, methods_of}
use Rattle.kilim_program.specs.Program.{Program}
use Rattle.kilim_program.specs.Members.{constructor_of, is_plain_method}
use Rattle.kilim_fiber_laws.proofs.receivers.called.Called.{no_pause}
use Rattle.kilim_weave_spec.specs.Form.{WovenForm}
use Rattle.kilim_weave_laws.proofs.woven_programs.kinds.Lines as lines
use Rattle.kilim_weave_laws.proofs.woven_programs.Theorem as theorem
use Rattle.kilim_fiber_laws.specs.woven_served.Served.{ConstructorIsSame}
use Rattle.kilim_fiber_laws.proofs.stands.shares.Fibers as fibers_of
use Rattle.kilim_fiber_laws.proofs.stands.shares.Names as names

same_first : {A : Type 0} (test other : A → Bool) → ((x : A) → test x ≡ other x) → (xs : List A) → first_that test xs ≡ first_that other xs
same_first test other same [] = refl
same_first test other same (x ∷ xs) =
    ap (λ (z : Bool). if z then Some x else first_that test xs) (same x) ∙ ap (λ (o : Option _). if other x then Some x else o) (same_first test other same xs)

module _ (P W : Program) (counted : List (List Bool)) (keeps : Keeps P) (plainly : P.form ≡ Plain) (form : WovenForm P W counted) where
  abbrev Passes : Option Method → Bool
  Passes o = elim o [ None ↦ false | Some method ↦ bytes_eq method.name (codes "<init>") && (is_empty method.params && is_none method.result) ]

  named_else : (method : Method) → bytes_eq method.name (codes "<init>") ≡ false → Passes (Some method) ≡ false
  named_else method e = ap (λ (z : Bool). z && (is_empty method.params && is_none method.result)) e

  -- no constructor pauses
  stays : (id : MethodId) (a : Method) → method_at P id ≡ Some a → bytes_eq a.name (codes "<init>") ≡ true → a.pausable ≡ false
  stays id a at con = by a.pausable refl
    where
      by : (z : Bool) → a.pausable ≡ z → a.pausable ≡ false
      by true e = absurd (no_pause P keeps id a at con (ap (λ (o : Option Method). elim o [ None ↦ false | Some m ↦ m.pausable ]) at ∙ e))
      by false e = e

  same_test : (id : MethodId) → is_plain_method W (codes "<init>") id ≡ is_plain_method P (codes "<init>") id
  same_test id = by (method_at P id) refl
    where
      none : (o : Option Method) → method_at W id ≡ o → method_at P id ≡ None → Passes o ≡ false
      none None there at = refl
      none (Some b) there at = named_else b (fibers_of.other_is P W counted keeps plainly form id b at there).plain

      twin_by : (a : Method) → (at : method_at P id ≡ Some a) → (z : Bool) → bytes_eq a.name (codes "<init>") ≡ z → Passes (Some (names.twin P W counted keeps plainly form id a at).method) ≡ Passes (Some a)
      twin_by a at true e = ap (λ (m : Method). Passes (Some m)) ((names.twin P W counted keeps plainly form id a at).stays (stays id a at e))
      twin_by a at false e =
          let t = names.twin P W counted keeps plainly form id a at in
          named_else t.method (ap (λ (n : List ℕ). bytes_eq n (codes "<init>")) t.like.name ∙ e) ∙ sym (named_else a e)

      by : (o : Option Method) → method_at P id ≡ o → is_plain_method W (codes "<init>") id ≡ is_plain_method P (codes "<init>") id
      by None at = none (method_at W id) refl at ∙ sym (ap Passes at)
      by (Some a) at = ap Passes (names.twin P W counted keeps plainly form id a at).there ∙ (twin_by a at (bytes_eq a.name (codes "<init>")) refl ∙ sym (ap Passes at))

  same_constructor : (c : ClassId) → (class_at P c ≢ None) → constructor_of W c ≡ constructor_of P c
  same_constructor c there = by (class_at P c) refl
    where
      by : (o : Option Class) → class_at P c ≡ o → constructor_of W c ≡ constructor_of P c
      by None at = absurd (there at)
      by (Some class) at =
          let same = lines.class_same P W keeps (theorem.fiber_parts P W counted keeps plainly form) (names.grown P W counted keeps plainly form) c (slice_get_within P.classes c.0 class at) in
          ap (λ (o : Option Class). first_that (is_plain_method W (codes "<init>")) (elim o [ None ↦ [] | Some class ↦ class.methods ])) same ∙ same_first (is_plain_method W (codes "<init>")) (is_plain_method P (codes "<init>")) same_test (methods_of P c)

pub constructor_is_same : ConstructorIsSame
constructor_is_same P W counted keeps plainly form c there = same_constructor P W counted keeps plainly form c there
