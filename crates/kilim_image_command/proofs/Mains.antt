-- The main class.
use Rattle.std.proofs.Common.{◌≡◌, ℕ, Bool, true, false, cond, List, Option, Some, None, refl, sym, subst}
use Rattle.kilim_program.specs.declared.names.ClassId.{ClassId}
use Rattle.kilim_program.specs.Names.{class_named}
use Rattle.kilim_program.specs.Program.{Program}
use Rattle.kilim_program.specs.main_class.Main.{fit_class_named, if_fit}
use Rattle.kilim_program.specs.Members.{is_fit_main}

pub record Fit (p : Program) (o : Option ClassId) (c : ClassId) : Type 0 where
  pub named : o ≡ Some c
  pub fit : is_fit_main p c ≡ true

some_is : (a b : ClassId) → Some a ≡ Some b → a ≡ b
some_is a b e = cc

picked : (p : Program) (a c : ClassId) (b : Bool) → is_fit_main p a ≡ b → cond b (Some a) None ≡ Some c → Fit p (Some a) c
picked p a c true e same = let is = some_is a c same in record { named = same; fit = subst (λ (x : ClassId). is_fit_main p x ≡ true) is e }
picked p a c false e same = absurd (cc)

fit_in : (p : Program) (o : Option ClassId) (c : ClassId) → if_fit p o ≡ Some c → Fit p o c
fit_in p None c e = absurd (cc)
fit_in p (Some a) c e = picked p a c (is_fit_main p a) refl e

pub fit_named : (p : Program) (name : List ℕ) (c : ClassId) → fit_class_named p name ≡ Some c → Fit p (class_named p name) c
fit_named p name c e = fit_in p (class_named p name) c e

unpicked : (b : Bool) (c : ClassId) → b ≡ true → cond b (Some c) None ≡ None → ⊥
unpicked true c same e = cc
unpicked false c same e = cc

none_in : (p : Program) (o : Option ClassId) → if_fit p o ≡ None → (c : ClassId) → o ≡ Some c → is_fit_main p c ≡ true → ⊥
none_in p None e c same fit = cc
none_in p (Some a) e c same fit = let is = some_is a c same in unpicked (is_fit_main p a) a (subst (λ (x : ClassId). is_fit_main p x ≡ true) (sym is) fit) e

pub none_named : (p : Program) (name : List ℕ) → fit_class_named p name ≡ None → (c : ClassId) → class_named p name ≡ Some c → is_fit_main p c ≡ true → ⊥
none_named p name e = none_in p (class_named p name) e
