-- What a call finds for a named method is like it.
use Rattle.std.proofs.Common.{◌≡◌, ◌⊎◌, inl, inr, ℕ, ◌≤◌, Bool, true, false, eqb, List, length, Option, Some, None, refl, sym, ap, subst, ◌∙◌, arith}
use Rattle.std.specs.Prelude.{◌||◌, not, slice_get, codes}
use Rattle.std.specs.List.{list_any, list_all, flat_map}
use Rattle.std.specs.Str.{bytes_eq}
use Rattle.std.proofs.lemmas.Bool.{and_parts, and_from, eq-eqb}
use Rattle.kilim_program.specs.declared.class.Method.{Method}
use Rattle.kilim_program.specs.declared.names.ClassId.{ClassId}
use Rattle.kilim_program.specs.declared.names.MethodId.{MethodId}
use Rattle.kilim_program.specs.Program.{Program}
use Rattle.kilim_program.specs.Keeps.{Keeps, agrees, agrees_with, ancestors_of, names_differ, overrides, overriding_agrees}
use Rattle.kilim_program.specs.Names.{line_of, method_at, methods_of}
use Rattle.kilim_program.specs.Same.{all_differ, answers, is_constructor, same_field, same_flag, same_method, same_qualifier, same_qualifiers, same_signature, selected}
use Rattle.kilim_type_laws.proofs.members.FromKeeps.{all_at}
use Rattle.kilim_type_laws.specs.members.Chosen.{FindsChosen, IsChosen}
use Rattle.kilim_type_laws.proofs.members.SameNames.{AreNamedAlike, flag_is, named_alike, one_place, qualifier_is, qualifiers_are, signature_by, signature_itself, turned}
use Rattle.kilim_type_laws.proofs.members.ClassMethods.{IsFoundBelow, all_among, among_flat, found_below, names_owner, owner_lists}

-- what passes the test
pub record IsAnswer (p : Program) (named : Method) (f : MethodId) : Type 0 where
  pub method : Method
  pub there : method_at p f ≡ Some method
  pub public : method.is_private ≡ false
  pub same : same_signature named method ≡ true

not_is : (b : Bool) → not b ≡ true → b ≡ false
not_is true e = absurd (cc)
not_is false e = refl

pub answer_of : (p : Program) (named : Method) (f : MethodId) → answers named (method_at p f) ≡ true → IsAnswer p named f
answer_of p named f e = by (method_at p f) refl e
  where
    by : (o : Option Method) → method_at p f ≡ o → answers named o ≡ true → IsAnswer p named f
    by None there e = absurd (cc)
    by (Some m) there e = let s = and_parts (not m.is_private) (same_signature named m) e in record { method = m; there = there; public = not_is m.is_private s.0; same = s.1 }

record AreAlike (a b : Method) : Type 0 where
  pub is_static : a.is_static ≡ b.is_static
  pub pausable : a.pausable ≡ b.pausable
  pub receiver : a.receiver ≡ b.receiver
  pub qualifiers : a.qualifiers ≡ b.qualifiers

alike : (a b : Method) → agrees a b ≡ true → AreAlike a b
alike a b e =
    let s = and_parts (same_flag a.pausable b.pausable) _ e in
    let t = and_parts (same_flag a.is_static b.is_static) _ s.1 in
    let u = and_parts (same_qualifier a.receiver b.receiver) (same_qualifiers a.qualifiers b.qualifiers) t.1 in
    record { is_static = flag_is a.is_static b.is_static t.0; pausable = flag_is a.pausable b.pausable s.0; receiver = qualifier_is a.receiver b.receiver u.0; qualifiers = qualifiers_are a.qualifiers b.qualifiers u.1 }

module _ (p : Program) (keeps : Keeps p) (id : MethodId) (named : Method) (there : method_at p id ≡ Some named) (public : named.is_private ≡ false) (plain : is_constructor named ≡ false) where
  module _ (f : MethodId) (is : IsAnswer p named f) where
    pub same_names : AreNamedAlike is.method named
    same_names = turned named is.method (named_alike named is.method is.same)

    overriding : is_constructor is.method ≡ false → overrides is.method named ≡ true
    overriding c =
        and_from (not (is_constructor is.method)) _ (ap not c)
        (and_from (not is.method.is_private) _ (ap not is.public) (and_from (not named.is_private) _ (ap not public) (signature_by is.method named named same_names ∙ signature_itself named)))

    not_constructor : is_constructor is.method ≡ false
    not_constructor = ap (λ (n : List ℕ). bytes_eq n (codes "<init>")) same_names.name ∙ plain

    by_agreement : agrees_with is.method (Some named) ≡ true → AreAlike is.method named
    by_agreement e = alike is.method named (by (overrides is.method named) (overriding not_constructor) e)
      where
        by : (z : Bool) → z ≡ true → (not z || agrees is.method named) ≡ true → agrees is.method named ≡ true
        by true s e = e
        by false s e = absurd (cc)

    -- a method of a class below
    below : list_any (λ (d : ClassId). eqb d.0 named.owner.0) (ancestors_of p is.method.owner) ≡ true → AreAlike is.method named
    unfolding overriding_agrees
    below e =
        let all = all_at (λ (m : Method). list_all (λ (o : MethodId). agrees_with m (method_at p o)) (flat_map (methods_of p) (ancestors_of p m.owner))) p.methods f.0 is.method keeps.overriding is.there in
        let among = among_flat (methods_of p) (ancestors_of p is.method.owner) named.owner id e (owner_lists p keeps id named there) in
        by_agreement (subst (λ (o : Option Method). agrees_with is.method o ≡ true) there (all_among (λ (o : MethodId). agrees_with is.method (method_at p o)) (flat_map (methods_of p) (ancestors_of p is.method.owner)) id all among))

    -- the same one
    itself : is.method.owner.0 ≡ named.owner.0 → AreAlike is.method named
    unfolding names_differ
    itself e =
        let differ = (and_parts (all_differ same_field p.fields) _ (and_parts (all_differ (λ a b. bytes_eq a.name b.name) p.classes) _ keeps.names).1).1 in
        let one : same_method is.method named ≡ true = and_from (eqb is.method.owner.0 named.owner.0) _ (eq-eqb is.method.owner.0 named.owner.0 e) (signature_by is.method named named same_names ∙ signature_itself named) in
        let two : same_method named is.method ≡ true = and_from (eqb named.owner.0 is.method.owner.0) _ (eq-eqb named.owner.0 is.method.owner.0 (sym e)) is.same in
        let place = one_place same_method p.methods f.0 id.0 is.method named differ is.there there one two in
        let again : Some is.method ≡ Some named = sym is.there ∙ (ap (λ (k : ℕ). slice_get p.methods k) place ∙ there) in
        let same : is.method ≡ named = cc in
        record { is_static = ap (λ (m : Method). m.is_static) same; pausable = ap (λ (m : Method). m.pausable) same; receiver = ap (λ (m : Method). m.receiver) same; qualifiers = ap (λ (m : Method). m.qualifiers) same }

  module _ (c : ClassId) (in_line : list_any (λ (d : ClassId). eqb d.0 named.owner.0) (line_of p c) ≡ true) where
    answers_itself : answers named (method_at p id) ≡ true
    answers_itself = subst (λ (o : Option Method). answers named o ≡ true) (sym there) (and_from (not named.is_private) _ (ap not public) (signature_itself named))

    whole : length p.classes ≤ length p.classes
    whole = omega arith

    found : IsFoundBelow p (λ (m : MethodId). answers named (method_at p m)) (length p.classes) c named.owner
    found = found_below p (λ (m : MethodId). answers named (method_at p m)) named.owner id (owner_lists p keeps id named there) answers_itself (length p.classes) c whole in_line

    chosen_is : (r : IsFoundBelow p (λ (m : MethodId). answers named (method_at p m)) (length p.classes) c named.owner) → IsChosen p c named r.found
    chosen_is r =
        let a = answer_of p named r.found r.passes in
        let owner = names_owner p keeps r.owner r.found a.method a.there r.among in
        let names = same_names r.found a in
        let like = by r.found a (r.owner.0) owner r.below in
        record {
          method = a.method;
          there = a.there;
          name = names.name;
          params = names.params;
          result = names.result;
          is_static = like.is_static;
          pausable = like.pausable;
          receiver = like.receiver;
          qualifiers = like.qualifiers;
          in_line = subst (λ (k : ℕ). list_any (λ (d : ClassId). eqb d.0 k) (line_of p c) ≡ true) (sym owner) r.in_line;
        }
      where
        by : (f : MethodId) (a : IsAnswer p named f) (k : ℕ) → a.method.owner.0 ≡ k → (k ≡ named.owner.0) ⊎ (list_any (λ (d : ClassId). eqb d.0 named.owner.0) (ancestors_of p (record { 0 = k })) ≡ true) → AreAlike a.method named
        by f a k owner (inl e) = itself f a (owner ∙ e)
        by f a k owner (inr e) = below f a (subst (λ (j : ℕ). list_any (λ (d : ClassId). eqb d.0 named.owner.0) (ancestors_of p (record { 0 = j })) ≡ true) (sym owner) e)

    pub finds : (f : MethodId) × (selected p c named ≡ Some f) × IsChosen p c named f
    finds = (found.found, found.is, chosen_is found)

pub finds_chosen : FindsChosen
finds_chosen p id named c keeps there public plain in_line = finds p keeps id named there public plain c in_line
