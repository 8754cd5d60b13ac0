-- The calls of the fiber's members in woven code reach them.
use Rattle.std.proofs.Common.{◌≡◌, ℕ, zero, suc, ◌+◌, Bool, true, false, not, ◌&&◌, List, [], ◌∷◌, ◌++◌, length, length-append, Option, Some, None, refl, ap, subst, ◌∙◌, arith}
use Rattle.std.specs.Prelude.{slice_get, codes, if◌then◌else◌, ◌-◌}
use Rattle.std.specs.List.{flat_map}
use Rattle.std.specs.Str.{bytes_eq}
use Rattle.std.proofs.lemmas.Bool.{and_parts, false≢true}
use Rattle.std.proofs.lemmas.Option.{same_Some}
use Rattle.kilim_program.specs.declared.class.Class.{Class}
use Rattle.kilim_program.specs.declared.class.Form.{Form}
use Rattle.kilim_program.specs.declared.ty.Base.TheVariants as base
use Rattle.kilim_program.specs.declared.class.Form.TheVariants.{Plain, Woven}
use Rattle.kilim_program.specs.declared.class.Method.{Method}
use Rattle.kilim_program.specs.declared.names.ClassId.{ClassId}
use Rattle.kilim_program.specs.declared.names.MethodId.{MethodId}
use Rattle.kilim_program.specs.BuiltIn.{built_in_methods_in, class_id, fiber_methods, method_id}
use Rattle.kilim_program.specs.Keeps.{Keeps}
use Rattle.kilim_program.specs.Names.{◌>>=◌, class_at, class_name, first_that, line_up_to, method_at, methods_of}
use Rattle.kilim_program.specs.Program.{Program}
use Rattle.kilim_program.specs.Same.{answers, same_result, same_signature, same_types, selected}
use Rattle.kilim_run_machine.specs.Does.{chosen_by, chosen_on}
use Rattle.kilim_run_machine.specs.Natives.{FiberMember, Pc, Down, Up, Save, Place, Restore, Receiver, native_method}
use Rattle.kilim_type_laws.proofs.members.SameNames.{signature_itself}
use Rattle.kilim_weave_spec.specs.Form.{WovenForm, first_class, first_method}
use Rattle.kilim_weave_spec.specs.Woven.{fiber_ty, member}
use Rattle.kilim_weave_laws.proofs.woven_programs.ClassLists.{one_more}
use Rattle.kilim_weave_laws.proofs.woven_programs.Theorem as theorem
use Rattle.kilim_fiber_spec.specs.Fibers.{as_member}
use Rattle.kilim_fiber_spec.specs.Form.{members_in_order}
use Rattle.kilim_fiber_spec.specs.alike.Shares.{IsMember, size_of}
use Rattle.kilim_fiber_laws.proofs.stands.shares.Fibers.{FitMember}
use Rattle.kilim_fiber_laws.proofs.stands.shares.Fibers as fibers_of
use Rattle.kilim_fiber_laws.proofs.stands.shares.Names as names

-- ---- the first that passes, in a list of methods with their numbers

abbrev firsts : List (MethodId × Method) → List MethodId
firsts [] = []
firsts (z ∷ zs) = z.0 ∷ firsts zs

abbrev AllThere : Program → List (MethodId × Method) → Type 0
AllThere W [] = Unit {0}
AllThere W (z ∷ zs) = (method_at W z.0 ≡ Some z.1) × AllThere W zs

-- so many of them have other names
abbrev others : ℕ → List (MethodId × Method) → List ℕ → Bool
others zero zs name = true
others (suc n) [] name = true
others (suc n) (z ∷ zs) name = not (bytes_eq name z.1.name) && others n zs name

falls : (b : Bool) → (b && false) ≡ false
falls true = refl
falls false = refl

no_signature : (m x : Method) → not (bytes_eq m.name x.name) ≡ true → same_signature m x ≡ false
no_signature m x h = ap (λ (b : Bool). b && (same_types m.params x.params && same_result m.result x.result)) (flips (bytes_eq m.name x.name) h)
  where
    flips : (b : Bool) → not b ≡ true → b ≡ false
    flips true e = absurd (false≢true e)
    flips false e = refl

find : (W : Program) (zs : List (MethodId × Method)) (rest : List MethodId) (n : ℕ) (id : MethodId) (m : Method) → AllThere W zs → slice_get zs n ≡ Some (id, m) → others n zs m.name ≡ true → m.is_private ≡ false
    → first_that (λ (x : MethodId). answers m (method_at W x)) (firsts zs ++ rest) ≡ Some id
find W [] rest n id m all e o p = absurd (cc)
find W (z ∷ zs) rest zero id m all e o p =
    let s : z ≡ (id, m) = same_Some z (id, m) e in
    let at : method_at W z.0 ≡ Some m = all.0 ∙ ap (λ (y : MethodId × Method). Some y.1) s in
    ap (λ (b : Bool). if b then Some z.0 else first_that (λ (x : MethodId). answers m (method_at W x)) (firsts zs ++ rest)) (ap (answers m) at ∙ ap (λ (b : Bool). not b && same_signature m m) p ∙ signature_itself m)
    ∙ ap (λ (y : MethodId × Method). Some y.0) s
find W (z ∷ zs) rest (suc n) id m all e o p =
    let q = and_parts (not (bytes_eq m.name z.1.name)) (others n zs m.name) o in
    ap (λ (b : Bool). if b then Some z.0 else first_that (λ (x : MethodId). answers m (method_at W x)) (firsts zs ++ rest)) (ap (answers m) all.0 ∙ ap (λ (b : Bool). not z.1.is_private && b) (no_signature m z.1 q.0) ∙ falls (not z.1.is_private))
    ∙ find W zs rest n id m all.1 e q.1 p

module _ (P W : Program) (counted : List (List Bool)) (keeps : Keeps P) (plainly : P.form ≡ Plain) (form : WovenForm P W counted) where
  abbrev F : Class
  F = theorem.fiber_parts P W counted keeps plainly form

  -- the number of a member, among the methods of the fiber's class
  abbrev at_number : ℕ → MethodId
  at_number n = method_id (first_method P + (43 + n))

  many : length P.methods ≡ length keeps.built_in.own_methods + 43
  many = ap length keeps.built_in.methods
      ∙ (length-append keeps.built_in.own_methods (built_in_methods_in P.form (length keeps.built_in.own_classes)) ∙ ap (λ (f : Form). length keeps.built_in.own_methods + length (built_in_methods_in f (length keeps.built_in.own_classes))) plainly)

  number : (n : ℕ) → first_method P + (43 + n) ≡ length P.methods + n
  number n = let e : first_method P ≡ length P.methods - 43 = refl in let m = many in omega (arith, e, m)

  is_there : (n : ℕ) (m : Method) → slice_get (fiber_methods Woven (first_class P)) n ≡ Some m → method_at W (at_number n) ≡ Some m
  is_there n m e = ap (λ (k : ℕ). method_at W (method_id k)) (number n) ∙ (fibers_of.member_at P W counted keeps plainly form n m e).0

  abbrev pairs : ℕ → List Method → List (MethodId × Method)
  pairs n [] = []
  pairs n (m ∷ ms) = (at_number n, m) ∷ pairs (suc n) ms

  abbrev numbered : List (MethodId × Method)
  numbered = pairs 0 (fiber_methods Woven (first_class P))

  all_there : AllThere W numbered
  all_there =
      (is_there 0 _ refl, (is_there 1 _ refl, (is_there 2 _ refl, (is_there 3 _ refl, (is_there 4 _ refl, (is_there 5 _ refl, (is_there 6 _ refl, (is_there 7 _ refl, (is_there 8 _ refl, (is_there 9 _ refl, (is_there 10 _ refl, tt)))))))))))

  -- the line of the fiber's class, above it
  abbrev above : ℕ → List ClassId
  above n = elim (class_at W (class_id (length P.classes)) >>= λ (class : Class). class.superclass) [ None ↦ [] | Some up ↦ line_up_to W n up ]

  line_is : (m : Method) → selected W (class_id (length P.classes)) m ≡ first_that (λ (x : MethodId). answers m (method_at W x)) (firsts numbered ++ flat_map (methods_of W) (above (length P.classes)))
  line_is m =
      ap (λ (n : ℕ). first_that (λ (x : MethodId). answers m (method_at W x)) (flat_map (methods_of W) (line_up_to W n (class_id (length P.classes))))) (one_more P W F (names.grown P W counted keeps plainly form))
      ∙ ap (λ (ms : List MethodId). first_that (λ (x : MethodId). answers m (method_at W x)) (ms ++ flat_map (methods_of W) (above (length P.classes))))
      (ap (λ (o : Option Class). elim o [ None ↦ [] | Some class ↦ class.methods ]) (fibers_of.fiber_at P W counted keeps plainly form))

  abbrev named : class_name W (class_id (first_class P + 18)) ≡ codes "kilim/Fiber"
  named = fibers_of.fiber_name P W counted keeps plainly form

  -- a member
  of : (n size : ℕ) (k : FiberMember) (m : Method) → slice_get (fiber_methods Woven (first_class P)) n ≡ Some m → length m.params ≡ size → (f : FitMember W m) → f.member ≡ k → slice_get numbered n ≡ Some (at_number n, m) → others n numbered m.name ≡ true
      → IsMember W (member P n) size k (fiber_ty P)
  of n size k m e s f is at o =
      let there = (fibers_of.member_at P W counted keeps plainly form n m e).0 in
      let found = line_is m ∙ find W numbered (flat_map (methods_of W) (above (length P.classes))) n (at_number n) m all_there at o f.is_private in
      record {
        method = m;
        there = there;
        size_is = s;
        built_in = f.built_in;
        no_text = f.text;
        handed_out = f.handed_out;
        chosen_is = ap (λ (b : Bool). if b then member P n else chosen_on W m (member P n) 0 (base.Class (class_id (length P.classes)))) f.is_private
            ∙ ap (λ (o : Option MethodId). chosen_by o (member P n)) found ∙ ap method_id (number n);
        kind = ap as_member (ap (λ (o : Option Method). o >>= native_method W) there ∙ f.native) ∙ ap (λ (z : FiberMember). Some z) is;
      }

  abbrev Each : ℕ → FiberMember → Type 0
  Each n k = IsMember W (member P n) (size_of k) k (fiber_ty P)

  pub each : (n : ℕ) (k : FiberMember) → slice_get members_in_order n ≡ Some k → IsMember W (member P n) (size_of k) k (fiber_ty P)
  each zero k e = subst (Each 0) (same_Some Pc k e) (of 0 0 Pc _ refl refl (fibers_of.of_fiber W _ Pc named refl refl refl refl refl refl) refl refl refl)
  each (suc zero) k e = subst (Each 1) (same_Some Down k e) (of 1 0 Down _ refl refl (fibers_of.of_fiber W _ Down named refl refl refl refl refl refl) refl refl refl)
  each (suc (suc zero)) k e = subst (Each 2) (same_Some Up k e) (of 2 0 Up _ refl refl (fibers_of.of_fiber W _ Up named refl refl refl refl refl refl) refl refl refl)
  each (suc (suc (suc zero))) k e = subst (Each 3) (same_Some Save k e) (of 3 2 Save _ refl refl (fibers_of.of_fiber W _ Save named refl refl refl refl refl refl) refl refl refl)
  each (suc (suc (suc (suc zero)))) k e = subst (Each 4) (same_Some Save k e) (of 4 2 Save _ refl refl (fibers_of.of_fiber W _ Save named refl refl refl refl refl refl) refl refl refl)
  each (suc (suc (suc (suc (suc zero))))) k e = subst (Each 5) (same_Some Save k e) (of 5 2 Save _ refl refl (fibers_of.of_fiber W _ Save named refl refl refl refl refl refl) refl refl refl)
  each (suc (suc (suc (suc (suc (suc zero)))))) k e = subst (Each 6) (same_Some Place k e) (of 6 3 Place _ refl refl (fibers_of.of_fiber W _ Place named refl refl refl refl refl refl) refl refl refl)
  each (suc (suc (suc (suc (suc (suc (suc zero))))))) k e = subst (Each 7) (same_Some Restore k e) (of 7 0 Restore _ refl refl (fibers_of.of_fiber W _ Restore named refl refl refl refl refl refl) refl refl refl)
  each (suc (suc (suc (suc (suc (suc (suc (suc zero)))))))) k e = subst (Each 8) (same_Some Restore k e) (of 8 0 Restore _ refl refl (fibers_of.of_fiber W _ Restore named refl refl refl refl refl refl) refl refl refl)
  each (suc (suc (suc (suc (suc (suc (suc (suc (suc zero))))))))) k e = subst (Each 9) (same_Some Restore k e) (of 9 0 Restore _ refl refl (fibers_of.of_fiber W _ Restore named refl refl refl refl refl refl) refl refl refl)
  each (suc (suc (suc (suc (suc (suc (suc (suc (suc (suc zero)))))))))) k e = subst (Each 10) (same_Some Receiver k e) (of 10 0 Receiver _ refl refl (fibers_of.of_fiber W _ Receiver named refl refl refl refl refl refl) refl refl refl)
  each (suc (suc (suc (suc (suc (suc (suc (suc (suc (suc (suc n))))))))))) k e = absurd (cc)
