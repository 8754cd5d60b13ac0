-- The built-in methods at which a thread may pause: `get` of mailboxes, the put that waits, and `yield`.
use Rattle.std.proofs.Common.{◌≡◌, cond, ℕ, Bool, true, false, List, [], ◌∷◌, length, Some, None, refl, sym, subst, ◌∙◌}
use Rattle.kilim_run_machine.proofs.Named.{native_is_named}
use Rattle.std.specs.Prelude.{◌&&◌, codes}
use Rattle.std.specs.List.{AllByRecursion}
use Rattle.std.specs.Str.{bytes_eq}
use Rattle.std.proofs.lemmas.Bool.{and_parts, false≢true}
use Rattle.kilim_program.specs.declared.class.Form.TheVariants.{Plain}
use Rattle.kilim_program.specs.declared.class.Method.{Method}
use Rattle.kilim_program.specs.declared.names.MethodId.{MethodId}
use Rattle.kilim_program.specs.declared.ty.Ty.{Ty}
use Rattle.kilim_program.specs.BuiltIn.{built_in_methods_in}
use Rattle.kilim_program.specs.Keeps.{Keeps}
use Rattle.kilim_program.specs.Names.{class_name, method_at}
use Rattle.kilim_program.specs.Program.{Program}
use Rattle.kilim_program.proofs.BuiltIns.{exceptions_too}
use Rattle.kilim_isolation_laws.proofs.typed_threads.fine.Natives.{built_in_one}
use Rattle.kilim_run_machine.specs.Natives.{Native, native_method, native_named, natives}
use Rattle.kilim_run_machine.specs.Natives as native
use Rattle.kilim_program.specs.declared.value.Value.TheVariants.{Null}
use Rattle.kilim_fiber_spec.specs.Links.{dummy_value}
use Rattle.kilim_type_spec.specs.Step.{is_long, vtype}

native_is : (x y : Native) → Some x ≡ Some y → x ≡ y
native_is x y e = cc

none_native : (k : Native) → None ≡ Some k → ⊥
none_native k e = cc

-- the name under which a native is found
abbrev pub NamedAs : Native → List ℕ → List ℕ × List ℕ × Native → Type 0
NamedAs k name n = n.2 ≡ k → n.1 ≡ name

leaf_name : (ns : List (List ℕ × List ℕ × Native)) (k : Native) (name : List ℕ) → AllByRecursion (NamedAs k name) ns → (class mine : List ℕ) → native_named ns class mine ≡ Some k → bytes_eq mine name ≡ true
leaf_name [] k name all class mine e = absurd (none_native k e)
leaf_name (n ∷ ns) k name all class mine e = by (bytes_eq class n.0 && bytes_eq mine n.1) refl e (λ later. leaf_name ns k name all.1 class mine later)
  where
    by : (z : Bool) → bytes_eq class n.0 && bytes_eq mine n.1 ≡ z → cond z (Some n.2) (native_named ns class mine) ≡ Some k → (native_named ns class mine ≡ Some k → bytes_eq mine name ≡ true) → bytes_eq mine name ≡ true
    by true f e rest = subst (λ (x : List ℕ). bytes_eq mine x ≡ true) (all.0 (native_is n.2 k e)) (and_parts (bytes_eq class n.0) (bytes_eq mine n.1) f).1
    by false f e rest = rest e

-- ---- what they are like

abbrev pub IsGet : Method → Type 0
IsGet m = (m.params ≡ []) × (m.is_static ≡ false) × ((ty : Ty) × (m.result ≡ Some ty) × (is_long (vtype ty) ≡ false))

-- its one parameter is no number
abbrev pub IsPutWait : Method → Type 0
IsPutWait m = ((ty : Ty) × (m.params ≡ ty ∷ []) × (dummy_value (vtype ty) ≡ Null)) × (m.is_static ≡ false) × (m.result ≡ None)

abbrev pub IsYield : Method → Type 0
IsYield m = (m.params ≡ []) × (m.is_static ≡ true) × (m.result ≡ None)

pub GetAs : Method → Type 0
GetAs m = bytes_eq m.name (codes "get") ≡ true → IsGet m

pub WaitAs : Method → Type 0
WaitAs m = bytes_eq m.name (codes "putw") ≡ true → IsPutWait m

pub YieldAs : Method → Type 0
YieldAs m = bytes_eq m.name (codes "yield") ≡ true → IsYield m

other_get : (m : Method) → bytes_eq m.name (codes "get") ≡ false → GetAs m
unfolding GetAs
other_get m e = λ f. absurd (false≢true (sym e ∙ f))

other_wait : (m : Method) → bytes_eq m.name (codes "putw") ≡ false → WaitAs m
unfolding WaitAs
other_wait m e = λ f. absurd (false≢true (sym e ∙ f))

other_yield : (m : Method) → bytes_eq m.name (codes "yield") ≡ false → YieldAs m
unfolding YieldAs
other_yield m e = λ f. absurd (false≢true (sym e ∙ f))

this_get : (m : Method) → IsGet m → GetAs m
unfolding GetAs
this_get m e = λ f. e

this_wait : (m : Method) → IsPutWait m → WaitAs m
unfolding WaitAs
this_wait m e = λ f. e

this_yield : (m : Method) → IsYield m → YieldAs m
unfolding YieldAs
this_yield m e = λ f. e

all_get : (n : ℕ) → AllByRecursion GetAs (built_in_methods_in Plain n)
all_get n = (other_get _ refl, (other_get _ refl, (other_get _ refl, (other_get _ refl, (other_get _ refl, (other_get _ refl, (other_get _ refl, (other_get _ refl, (other_get _ refl, (other_get _ refl, (other_get _ refl, (this_get _ (refl, refl, (_, refl, refl)), (other_get _ refl, (other_get _ refl, (other_get _ refl, (other_get _ refl, (other_get _ refl, (other_get _ refl, (other_get _ refl, (other_get _ refl, exceptions_too (GetAs) n [] (λ c. other_get _ refl) (λ c. other_get _ refl) (other_get _ refl) tt))))))))))))))))))))

all_wait : (n : ℕ) → AllByRecursion WaitAs (built_in_methods_in Plain n)
all_wait n = (other_wait _ refl, (other_wait _ refl, (other_wait _ refl, (other_wait _ refl, (other_wait _ refl, (other_wait _ refl, (other_wait _ refl, (other_wait _ refl, (other_wait _ refl, (other_wait _ refl, (this_wait _ ((_, refl, refl), refl, refl), (other_wait _ refl, (other_wait _ refl, (other_wait _ refl, (other_wait _ refl, (other_wait _ refl, (other_wait _ refl, (other_wait _ refl, (other_wait _ refl, (other_wait _ refl, exceptions_too (WaitAs) n [] (λ c. other_wait _ refl) (λ c. other_wait _ refl) (other_wait _ refl) tt))))))))))))))))))))

all_yield : (n : ℕ) → AllByRecursion YieldAs (built_in_methods_in Plain n)
all_yield n = (other_yield _ refl, (other_yield _ refl, (other_yield _ refl, (other_yield _ refl, (other_yield _ refl, (other_yield _ refl, (other_yield _ refl, (other_yield _ refl, (other_yield _ refl, (other_yield _ refl, (other_yield _ refl, (other_yield _ refl, (other_yield _ refl, (other_yield _ refl, (other_yield _ refl, (other_yield _ refl, (this_yield _ (refl, refl, refl), (other_yield _ refl, (other_yield _ refl, (other_yield _ refl, exceptions_too (YieldAs) n [] (λ c. other_yield _ refl) (λ c. other_yield _ refl) (other_yield _ refl) tt))))))))))))))))))))

module _ (p : Program) (keeps : Keeps p) (form : p.form ≡ Plain) where
  built : (m : Method) (k : Native) → native_method p m ≡ Some k → (m.built_in ≡ true) × (native_named natives (class_name p m.owner) m.name ≡ Some k)
  built m k e = native_is_named (class_name p m.owner) m k e

  get_named : AllByRecursion (NamedAs native.Get (codes "get")) natives
  get_named = (λ e. absurd (cc), (λ e. absurd (cc), (λ e. absurd (cc), (λ e. absurd (cc), (λ e. absurd (cc), (λ e. refl, (λ e. absurd (cc), (λ e. absurd (cc), (λ e. absurd (cc), (λ e. absurd (cc), (λ e. absurd (cc), (λ e. absurd (cc), (λ e. absurd (cc), (λ e. absurd (cc), (λ e. absurd (cc), (λ e. absurd (cc), (λ e. absurd (cc), (λ e. absurd (cc), (λ e. absurd (cc), (λ e. absurd (cc), (λ e. absurd (cc), (λ e. absurd (cc), tt))))))))))))))))))))))

  wait_named : AllByRecursion (NamedAs native.PutWait (codes "putw")) natives
  wait_named = (λ e. absurd (cc), (λ e. absurd (cc), (λ e. absurd (cc), (λ e. refl, (λ e. absurd (cc), (λ e. absurd (cc), (λ e. absurd (cc), (λ e. absurd (cc), (λ e. absurd (cc), (λ e. absurd (cc), (λ e. absurd (cc), (λ e. absurd (cc), (λ e. absurd (cc), (λ e. absurd (cc), (λ e. absurd (cc), (λ e. absurd (cc), (λ e. absurd (cc), (λ e. absurd (cc), (λ e. absurd (cc), (λ e. absurd (cc), (λ e. absurd (cc), (λ e. absurd (cc), tt))))))))))))))))))))))

  yield_named : AllByRecursion (NamedAs native.Yield (codes "yield")) natives
  yield_named = (λ e. absurd (cc), (λ e. absurd (cc), (λ e. absurd (cc), (λ e. absurd (cc), (λ e. absurd (cc), (λ e. absurd (cc), (λ e. absurd (cc), (λ e. absurd (cc), (λ e. refl, (λ e. absurd (cc), (λ e. absurd (cc), (λ e. absurd (cc), (λ e. absurd (cc), (λ e. absurd (cc), (λ e. absurd (cc), (λ e. absurd (cc), (λ e. absurd (cc), (λ e. absurd (cc), (λ e. absurd (cc), (λ e. absurd (cc), (λ e. absurd (cc), (λ e. absurd (cc), tt))))))))))))))))))))))

  pub get_is : (id : MethodId) (m : Method) → method_at p id ≡ Some m → native_method p m ≡ Some native.Get → IsGet m
  unfolding GetAs
  get_is id m at e =
      let b = built m native.Get e in
      let all : GetAs m = built_in_one p keeps form GetAs (all_get (length keeps.built_in.own_classes)) id m at b.0 in
      all (leaf_name natives native.Get (codes "get") get_named (class_name p m.owner) m.name b.1)

  pub wait_is : (id : MethodId) (m : Method) → method_at p id ≡ Some m → native_method p m ≡ Some native.PutWait → IsPutWait m
  unfolding WaitAs
  wait_is id m at e =
      let b = built m native.PutWait e in
      let all : WaitAs m = built_in_one p keeps form WaitAs (all_wait (length keeps.built_in.own_classes)) id m at b.0 in
      all (leaf_name natives native.PutWait (codes "putw") wait_named (class_name p m.owner) m.name b.1)

  pub yield_is : (id : MethodId) (m : Method) → method_at p id ≡ Some m → native_method p m ≡ Some native.Yield → IsYield m
  unfolding YieldAs
  yield_is id m at e =
      let b = built m native.Yield e in
      let all : YieldAs m = built_in_one p keeps form YieldAs (all_yield (length keeps.built_in.own_classes)) id m at b.0 in
      all (leaf_name natives native.Yield (codes "yield") yield_named (class_name p m.owner) m.name b.1)
