-- The methods of a woven program, one by one.
use Rattle.std.proofs.Common.{◌≡◌, ℕ, zero, suc, Bool, true, false, List, [], ◌∷◌, ◌++◌, length, Some, refl, sym, ap, subst, ◌∙◌, append-nil}
use Rattle.std.specs.Prelude.{slice_get}
use Rattle.kilim_program.specs.declared.class.Form.TheVariants.{Woven}
use Rattle.kilim_program.specs.declared.class.Method.{Method}
use Rattle.kilim_program.specs.declared.ty.Ty.{Ty}
use Rattle.kilim_program.specs.Program.{Program}
use Rattle.kilim_program.specs.BuiltIn.{fiber_methods}
use Rattle.kilim_weave_spec.specs.Form.{AllWoven, IsWoven, woven_as, has_calls, first_class}
use Rattle.kilim_weave_spec.specs.Woven.{fiber_ty}

module _ (P : Program) where
  pub record IsFound (ws : List Method) (k : ℕ) (m : Method) : Type 0 where
    pub woven : Method
    pub counted : List Bool
    pub there : slice_get ws k ≡ Some woven
    pub is : IsWoven P m woven counted

  pub woven_at : (ms ws : List Method) (cs : List (List Bool)) → AllWoven P ms ws cs → (k : ℕ) (m : Method) → slice_get ms k ≡ Some m → IsFound ws k m
  woven_at [] ws cs a k m e = absurd (cc)
  woven_at (x ∷ ms) [] cs a k m e = absurd a
  woven_at (x ∷ ms) (w ∷ ws) [] a k m e = absurd a
  woven_at (x ∷ ms) (w ∷ ws) (c ∷ cs) a zero m e = let s : x ≡ m = cc in record { woven = w; counted = c; there = refl; is = subst (λ (z : Method). IsWoven P z w c) s a.0 }
  woven_at (x ∷ ms) (w ∷ ws) (c ∷ cs) a (suc k) m e = let r = woven_at ms ws cs a.1 k m e in record { woven = r.woven; counted = r.counted; there = r.there; is = r.is }

  -- behind them stand the members of the fiber
  pub members_behind : (ms ws : List Method) (cs : List (List Bool)) → AllWoven P ms ws cs → (front : List Method) × (ws ≡ front ++ fiber_methods Woven (first_class P)) × (length front ≡ length ms)
  members_behind [] ws cs a = ([], a.0, refl)
  members_behind (x ∷ ms) [] cs a = absurd a
  members_behind (x ∷ ms) (w ∷ ws) [] a = absurd a
  members_behind (x ∷ ms) (w ∷ ws) (c ∷ cs) a = let r = members_behind ms ws cs a.1 in (w ∷ r.0, ap (λ (z : List Method). w ∷ z) r.1, ap suc r.2)

  -- ---- what a method and its woven form have in common

  abbrev pub fibers : Bool → List Ty
  fibers true = fiber_ty P ∷ []
  fibers false = []

  pub record Like (a b : Method) : Type 0 where
    pub name : b.name ≡ a.name
    pub owner : b.owner ≡ a.owner
    pub params : b.params ≡ a.params ++ fibers a.pausable
    pub result : b.result ≡ a.result
    pub is_static : b.is_static ≡ a.is_static
    pub is_private : b.is_private ≡ a.is_private
    pub is_abstract : b.is_abstract ≡ a.is_abstract

  like_by : (a b : Method) (counted : List Bool) (pausable calls : Bool) → a.pausable ≡ pausable → woven_as pausable calls P a b counted → Like a b
  like_by a b counted false calls is w = record {
    name = ap (λ (m : Method). m.name) w.0;
    owner = ap (λ (m : Method). m.owner) w.0;
    params = ap (λ (m : Method). m.params) w.0 ∙ (sym (append-nil a.params) ∙ ap (λ (z : Bool). a.params ++ fibers z) (sym is));
    result = ap (λ (m : Method). m.result) w.0;
    is_static = ap (λ (m : Method). m.is_static) w.0;
    is_private = ap (λ (m : Method). m.is_private) w.0;
    is_abstract = ap (λ (m : Method). m.is_abstract) w.0;
  }
  like_by a b counted true false is w = record {
    name = ap (λ (m : Method). m.name) w.0;
    owner = ap (λ (m : Method). m.owner) w.0;
    params = ap (λ (m : Method). m.params) w.0 ∙ ap (λ (z : Bool). a.params ++ fibers z) (sym is);
    result = ap (λ (m : Method). m.result) w.0;
    is_static = ap (λ (m : Method). m.is_static) w.0;
    is_private = ap (λ (m : Method). m.is_private) w.0;
    is_abstract = ap (λ (m : Method). m.is_abstract) w.0;
  }
  like_by a b counted true true is w =
      let e = w.4.method in
      record {
        name = ap (λ (m : Method). m.name) e;
        owner = ap (λ (m : Method). m.owner) e;
        params = ap (λ (m : Method). m.params) e ∙ ap (λ (z : Bool). a.params ++ fibers z) (sym is);
        result = ap (λ (m : Method). m.result) e;
        is_static = ap (λ (m : Method). m.is_static) e;
        is_private = ap (λ (m : Method). m.is_private) e;
        is_abstract = ap (λ (m : Method). m.is_abstract) e;
      }

  pub like : (a b : Method) (counted : List Bool) → IsWoven P a b counted → Like a b
  like a b counted w = like_by a b counted a.pausable (has_calls P a) refl w
