-- Woven forms of methods that agree, agree.
use Rattle.std.proofs.Common.{◌≡◌, ℕ, Bool, true, false, not, List, [], ◌∷◌, ◌++◌, Some, refl, sym, ap, ◌∙◌, append-nil}
use Rattle.std.specs.Prelude.{◌&&◌, ◌||◌, codes}
use Rattle.std.specs.Str.{bytes_eq}
use Rattle.std.proofs.lemmas.Bool.{and_parts, and_from}
use Rattle.kilim_program.specs.declared.class.Method.{Method}
use Rattle.kilim_program.specs.declared.ty.Qualifier.{Qualifier}
use Rattle.kilim_program.specs.declared.ty.Qualifier.TheVariants.{Free, Cuttable, Safe}
use Rattle.kilim_program.specs.Keeps.{agrees, agrees_with, has_type, overrides}
use Rattle.kilim_program.specs.Program.{Program}
use Rattle.kilim_program.specs.Same.{is_constructor, same_flag, same_qualifier, same_qualifiers, same_result, same_types}
use Rattle.kilim_weave_spec.specs.Form.{IsWoven, has_calls, woven_as}
use Rattle.kilim_type_laws.proofs.members.SameNames.{flag_is, qualifier_is, qualifiers_are}
use Rattle.kilim_weave_laws.proofs.woven_programs.Methods.{Like}
use Rattle.kilim_weave_laws.proofs.woven_programs.Naming.{back}
use Rattle.std.specs.List.{list_all}

abbrev safes : Bool → List Qualifier
safes true = Safe ∷ []
safes false = []

-- what else a method and its woven form have in common
pub record Kept (a b : Method) : Type 0 where
  pub pausable : b.pausable ≡ a.pausable
  pub receiver : b.receiver ≡ a.receiver
  pub qualifiers : b.qualifiers ≡ a.qualifiers ++ safes a.pausable

kept_by : (P : Program) (a b : Method) (marks : List Bool) (z calls : Bool) → a.pausable ≡ z → woven_as z calls P a b marks → Kept a b
kept_by P a b marks false calls is w = record {
  pausable = ap (λ (m : Method). m.pausable) w.0;
  receiver = ap (λ (m : Method). m.receiver) w.0;
  qualifiers = ap (λ (m : Method). m.qualifiers) w.0 ∙ (sym (append-nil a.qualifiers) ∙ ap (λ (z : Bool). a.qualifiers ++ safes z) (sym is));
}
kept_by P a b marks true false is w = record {
  pausable = ap (λ (m : Method). m.pausable) w.0;
  receiver = ap (λ (m : Method). m.receiver) w.0;
  qualifiers = ap (λ (m : Method). m.qualifiers) w.0 ∙ ap (λ (z : Bool). a.qualifiers ++ safes z) (sym is);
}
kept_by P a b marks true true is w =
    let e = w.4.method in
    record {
      pausable = ap (λ (m : Method). m.pausable) e;
      receiver = ap (λ (m : Method). m.receiver) e;
      qualifiers = ap (λ (m : Method). m.qualifiers) e ∙ ap (λ (z : Bool). a.qualifiers ++ safes z) (sym is);
    }

pub kept : (P : Program) (a b : Method) (marks : List Bool) → IsWoven P a b marks → Kept a b
kept P a b marks w = kept_by P a b marks a.pausable (has_calls P a) refl w

-- ---- agreeing

flag_itself : (a : Bool) → same_flag a a ≡ true
flag_itself true = refl
flag_itself false = refl

qualifier_itself : (a : Qualifier) → same_qualifier a a ≡ true
qualifier_itself Free = refl
qualifier_itself Cuttable = refl
qualifier_itself Safe = refl

qualifiers_itself : (xs : List Qualifier) → same_qualifiers xs xs ≡ true
qualifiers_itself [] = refl
qualifiers_itself (x ∷ xs) = and_from (same_qualifier x x) _ (qualifier_itself x) (qualifiers_itself xs)

agrees_by : (b v : Method) → b.pausable ≡ v.pausable → b.is_static ≡ v.is_static → b.receiver ≡ v.receiver → b.qualifiers ≡ v.qualifiers → agrees b v ≡ true
agrees_by b v p s r q =
    and_from (same_flag b.pausable v.pausable) _ (ap (λ (z : Bool). same_flag z v.pausable) p ∙ flag_itself v.pausable)
    (and_from (same_flag b.is_static v.is_static) _ (ap (λ (z : Bool). same_flag z v.is_static) s ∙ flag_itself v.is_static)
    (and_from (same_qualifier b.receiver v.receiver) _ (ap (λ (z : Qualifier). same_qualifier z v.receiver) r ∙ qualifier_itself v.receiver)
    (ap (λ (z : List Qualifier). same_qualifiers z v.qualifiers) q ∙ qualifiers_itself v.qualifiers)))

or_not : (x y : Bool) → (not x || y) ≡ true → x ≡ true → y ≡ true
or_not true y e x = e
or_not false y e x = absurd (cc)

or_by : (x y : Bool) → (x ≡ true → y ≡ true) → (not x || y) ≡ true
or_by true y h = h refl
or_by false y h = refl

module _ (P : Program) (a b o v : Method) (la : Like P a b) (lo : Like P o v) (ka : Kept a b) (ko : Kept o v) where
  overrides_back : list_all (has_type P) a.params ≡ true → list_all (has_type P) o.params ≡ true → overrides b v ≡ true → overrides a o ≡ true
  overrides_back ha ho e =
      let p = and_parts (not (is_constructor b)) _ e in
      let q = and_parts (not b.is_private) _ p.1 in
      let r = and_parts (not v.is_private) _ q.1 in
      and_from (not (is_constructor a)) _ (ap (λ (n : List ℕ). not (bytes_eq n (codes "<init>"))) (sym la.name) ∙ p.0)
      (and_from (not a.is_private) _ (ap not (sym la.is_private) ∙ q.0)
      (and_from (not o.is_private) _ (ap not (sym lo.is_private) ∙ r.0) (back P a b o v la lo ha ho r.1)))

  agrees_kept : agrees a o ≡ true → agrees b v ≡ true
  agrees_kept e =
      let p = and_parts (same_flag a.pausable o.pausable) _ e in
      let q = and_parts (same_flag a.is_static o.is_static) _ p.1 in
      let r = and_parts (same_qualifier a.receiver o.receiver) _ q.1 in
      let pausable = flag_is a.pausable o.pausable p.0 in
      agrees_by b v (ka.pausable ∙ (pausable ∙ sym ko.pausable)) (la.is_static ∙ (flag_is a.is_static o.is_static q.0 ∙ sym lo.is_static)) (ka.receiver ∙ (qualifier_is a.receiver o.receiver r.0 ∙ sym ko.receiver))
      (ka.qualifiers ∙ (ap (λ (qs : List Qualifier). qs ++ safes a.pausable) (qualifiers_are a.qualifiers o.qualifiers r.1) ∙ (ap (λ (z : Bool). o.qualifiers ++ safes z) pausable ∙ sym ko.qualifiers)))

  pub agreement : list_all (has_type P) a.params ≡ true → list_all (has_type P) o.params ≡ true → agrees_with a (Some o) ≡ true → agrees_with b (Some v) ≡ true
  agreement ha ho e = or_by (overrides b v) (agrees b v) (λ over. agrees_kept (or_not (overrides a o) (agrees a o) e (overrides_back ha ho over)))

-- ---- what overrides nothing

none_over : (x y z n r : Bool) → n ≡ false → not (not x && (not y && (not z && (n && r)))) ≡ true
none_over x y z true r e = absurd (cc)
none_over true y z false r e = refl
none_over false true z false r e = refl
none_over false false true false r e = refl
none_over false false false false r e = refl

or_first : (x y : Bool) → x ≡ true → (x || y) ≡ true
or_first true y e = refl
or_first false y e = absurd (cc)

pub other_name : (m v : Method) → bytes_eq m.name v.name ≡ false → agrees_with m (Some v) ≡ true
other_name m v e = or_first (not (overrides m v)) (agrees m v) (none_over (is_constructor m) m.is_private v.is_private (bytes_eq m.name v.name) (same_types m.params v.params && same_result m.result v.result) e)
