-- An overriding method agrees with what it overrides.
use Rattle.std.proofs.Common.{◌≡◌, ℕ, ◌+◌, Bool, true, false, ◌&&◌, ◌||◌, not, nat_lt, List, [], ◌∷◌, map, length, slice_get, Option, Some, None, filter, bytes_eq, codes, refl, sym, ap, ◌∙◌, ltb-true, arith}
use Rattle.std.specs.List.{flat_map, list_all}
use Rattle.std.proofs.lemmas.Bool.{and_from, and_parts, both_ways, not-false, not-true, not_from_false, or_left, or_right}
use Rattle.kilim_lemmas.proofs.Lists.{map_none, get_some}
use Rattle.kilim_lemmas.proofs.Texts.{same_text}
use Rattle.kilim_lemmas.proofs.Truth.{rest_is_false}
use Rattle.kilim_class_file.specs.declared.class_file.ClassFile.{ClassFile}
use Rattle.kilim_program.specs.declared.class.Class.{Class}
use Rattle.kilim_program.specs.declared.class.Field.{Field}
use Rattle.kilim_program.specs.declared.class.Form.{Form}
use Rattle.kilim_program.specs.declared.class.Form.TheVariants.{Plain, Woven}
use Rattle.kilim_program.specs.declared.class.Method.{Method}
use Rattle.kilim_program.specs.declared.names.ClassId.{ClassId}
use Rattle.kilim_program.specs.declared.names.MethodId.{MethodId}
use Rattle.kilim_program.specs.Program.{Program}
use Rattle.kilim_program.specs.BuiltIn.{built_in_classes_in, built_in_methods_in, class_id}
use Rattle.kilim_program.specs.Keeps.{agrees as method_agrees, agrees_with, ancestors_of, overriding_agrees, overrides}
use Rattle.kilim_program.specs.Names.{class_at, method_at, methods_of}
use Rattle.kilim_program.specs.Same.{is_constructor, same_flag, same_signature}
use Rattle.kilim_link_spec.specs.Faults.{agrees, differs_from, override_differs, overrides_badly, same_qualified}
use Rattle.kilim_link_spec.specs.Laws.{LinkedInParts, NoProblem, NoneHasAProblem, NoneOfEachKind}
use Rattle.kilim_link_spec.specs.Linked.{linked_method, program_with}
use Rattle.kilim_link_spec.specs.Qualified.{is_constructor_name, qualified}
use Rattle.kilim_link_spec.specs.declared.named.Qualified.{Qualified}
use Rattle.kilim_link_spec.specs.World.{World, built_ins, declared_method, declared_methods, is_method, world_of}
use Rattle.kilim_link_spec.specs.declared.view.DeclaredMethod.{DeclaredMethod}
use Rattle.kilim_link_laws.specs.Facts.{OverridingAgrees}
use Rattle.kilim_link_laws.proofs.Bodies as bodies
use Rattle.kilim_link_laws.proofs.Differ.{same_signature_is}
use Rattle.kilim_link_laws.proofs.Flat.{all_append, all_flat, none_flat_at}
use Rattle.kilim_link_laws.proofs.LinkedMembers.{linked_method_is}
use Rattle.kilim_link_laws.proofs.Linking.{Linking, linking, none_passes}
use Rattle.kilim_link_laws.proofs.Lists.{Left, Right, Side, all_at, all_by_places, mapped_at, none_at, side}
use Rattle.kilim_link_laws.proofs.Members.{member_made}
use Rattle.kilim_link_laws.proofs.Origins as origins
use Rattle.kilim_link_laws.proofs.Origins.{built_in_of, length-built_in}
use Rattle.kilim_link_laws.proofs.Positions as positions
use Rattle.kilim_link_laws.proofs.Resolved.{same_descriptor}
use Rattle.kilim_link_laws.proofs.Seen.{Seen, seen_own}
use Rattle.kilim_link_laws.proofs.Shifted.{built_in_method_of, shift_class, shift_method}

-- ---- no problem

none_badly : (w : World) (file : ClassFile) (c : ClassId) → NoProblem w file c → filter (overrides_badly w c) (declared_methods w c) ≡ []
unfolding override_differs
none_badly w file c n = map_none _ _ n.overrides_fit

-- ---- two methods

record Overrides (a b : Method) : Type 0 where
  no_constructor : is_constructor a ≡ false
  not_private : a.is_private ≡ false
  other_not_private : b.is_private ≡ false
  same : same_signature a b ≡ true

overrides_is : (a b : Method) → overrides a b ≡ true → Overrides a b
overrides_is a b e =
    let first = and_parts (not (is_constructor a)) (not a.is_private && (not b.is_private && same_signature a b)) e in
    let second = and_parts (not a.is_private) (not b.is_private && same_signature a b) first.1 in
    let third = and_parts (not b.is_private) (same_signature a b) second.1 in
    record { no_constructor = not-true _ first.0; not_private = not-true _ second.0; other_not_private = not-true _ third.0; same = third.1 }

-- where it overrides, it agrees
agrees_where : (a b : Method) → (overrides a b ≡ true → method_agrees a b ≡ true) → agrees_with a (Some b) ≡ true
agrees_where a b agree = by (overrides a b) refl
  where
    by : (o : Bool) → overrides a b ≡ o → agrees_with a (Some b) ≡ true
    by true e = or_right (not (overrides a b)) (method_agrees a b) (agree e)
    by false e = or_left (not (overrides a b)) (method_agrees a b) (not_from_false (overrides a b) e)

-- what agrees as it is declared agrees in the program
agree_so : (w : World) (c d : ClassId) (dm other : DeclaredMethod) (a b : Method) → Seen w c dm a → Seen w d other b → agrees w c dm d other ≡ true → method_agrees a b ≡ true
agree_so w c d dm other a b s t e =
    let first = and_parts (same_flag dm.pausable other.pausable) (same_flag dm.is_static other.is_static && (not other.is_final && same_qualified (qualified w c dm) (qualified w d other))) e in
    let second = and_parts (same_flag dm.is_static other.is_static) (not other.is_final && same_qualified (qualified w c dm) (qualified w d other)) first.1 in
    let third = and_parts (not other.is_final) (same_qualified (qualified w c dm) (qualified w d other)) second.1 in
    let pausable : same_flag a.pausable b.pausable ≡ true = ap (λ (x : Bool). same_flag x b.pausable) (sym s.pausable) ∙ (ap (same_flag dm.pausable) (sym t.pausable) ∙ first.0) in
    let static : same_flag a.is_static b.is_static ≡ true = ap (λ (x : Bool). same_flag x b.is_static) (sym s.static) ∙ (ap (same_flag dm.is_static) (sym t.static) ∙ second.0) in
    let own : Qualified = record { receiver = a.receiver; params = a.qualifiers } in
    let its : Qualified = record { receiver = b.receiver; params = b.qualifiers } in
    let qualifiers : same_qualified own its ≡ true = ap (λ (x : Qualified). same_qualified x its) (sym s.qualifiers) ∙ (ap (same_qualified (qualified w c dm)) (sym t.qualifiers) ∙ third.1) in
    and_from (same_flag a.pausable b.pausable) (same_flag a.is_static b.is_static && same_qualified own its) pausable (and_from (same_flag a.is_static b.is_static) (same_qualified own its) static qualifiers)

-- ---- built-in methods, by their table

-- each is of a class that is there
owners_there : (form : Form) → list_all (λ (m : Method). nat_lt m.owner.0 (length (built_in_classes_in form 0 0))) (built_in_methods_in form 0) ≡ true
owners_there Plain = refl
owners_there Woven = refl

abbrev constructs : Option Method → Bool
constructs None = false
constructs (Some m) = is_constructor m

-- a built-in class with constructors alone
abbrev constructs_alone : Form → ClassId → Bool
constructs_alone form d = nat_lt d.0 (length (built_in_classes_in form 0 0)) && list_all (λ (id : MethodId). constructs (method_at (built_ins form) id)) (methods_of (built_ins form) d)

-- so a built-in method overrides nothing: it is a constructor, or those above its class are
overrides_none : Form → Method → Bool
overrides_none form m = is_constructor m || list_all (constructs_alone form) (ancestors_of (built_ins form) m.owner)

methods_open : (form : Form) → list_all (overrides_none form) (built_in_methods_in form 0) ≡ true
unfolding overrides_none
methods_open Plain = refl
methods_open Woven = refl

-- a constructor overrides nothing
constructor_agrees : (a : Method) → is_constructor a ≡ true → (o : Option Method) → agrees_with a o ≡ true
constructor_agrees a constructor None = refl
constructor_agrees a constructor (Some b) = agrees_where a b (λ e. absurd (both_ways (is_constructor a) (overrides_is a b e).no_constructor constructor))

-- nothing overrides a constructor
no_override : (a b : Method) → is_constructor b ≡ true → agrees_with a (Some b) ≡ true
no_override a b constructor = agrees_where a b (λ e.
    let o = overrides_is a b e in
    let same = same_signature_is a b o.same in
    absurd (both_ways (is_constructor a) o.no_constructor (ap (λ (name : List ℕ). bytes_eq name (codes "<init>")) same.names ∙ constructor)))

all_of : {A : Type 0} (test : A → Bool) (xs : List A) → ((x : A) → test x ≡ true) → list_all test xs ≡ true
all_of test [] each = refl
all_of test (x ∷ xs) each = and_from (test x) (list_all test xs) (each x) (all_of test xs each)

module _ (files : List ClassFile) (form : Form) (classes : List Class) (fields : List Field) (methods : List Method) (l : Linking files form classes fields methods) where
  abbrev w : World
  w = world_of files form

  abbrev p : Program
  p = program_with files form classes fields methods

  abbrev len : ℕ
  len = length files

  -- one that overrides, of an ancestor
  one_agrees : (c : ClassId) (dm : DeclaredMethod) (a : Method) → Seen w c dm a → overrides_badly w c dm ≡ false → (j : ℕ) (d : ClassId) → slice_get (ancestors_of w.outline c) j ≡ Some d →
      (i : ℕ) (other : DeclaredMethod) → slice_get (declared_methods w d) i ≡ Some other → (b : Method) → Seen w d other b → overrides a b ≡ true → method_agrees a b ≡ true
  one_agrees c dm a s badly j d above i other inside b t e =
      let o = overrides_is a b e in
      let same = same_signature_is a b o.same in
      let no_constructor : not (is_constructor_name dm.name) ≡ true = not_from_false _ (ap is_constructor_name s.name ∙ o.no_constructor) in
      let not_private : not dm.is_private ≡ true = not_from_false _ (s.private ∙ o.not_private) in
      let none = rest_is_false _ _ not_private (rest_is_false _ _ no_constructor badly) in
      let here = none_flat_at (λ (k : ClassId). map (λ (m : DeclaredMethod). (k, m)) (declared_methods w k)) (differs_from w c dm) (ancestors_of w.outline c) none j d above in
      let differs = none_at (differs_from w c dm) (map (λ (m : DeclaredMethod). (d, m)) (declared_methods w d)) here i (d, other) (mapped_at (λ (m : DeclaredMethod). (d, m)) (declared_methods w d) i other inside) in
      let other_open : not other.is_private ≡ true = not_from_false _ (t.private ∙ o.other_not_private) in
      let names : other.name ≡ dm.name = t.name ∙ (sym same.names ∙ sym s.name) in
      let descriptors : other.descriptor ≡ dm.descriptor = same_descriptor files form _ _ b.params a.params b.result a.result t.types s.types (sym same.params) (sym same.results) in
      let is_it : is_method dm.name dm.descriptor other ≡ true = and_from _ _ (same_text _ _ names) (same_text _ _ descriptors) in
      agree_so w c d dm other a b s t (not-false _ (rest_is_false _ _ is_it (rest_is_false _ _ other_open differs)))

  -- all of an ancestor
  all_agree : (c : ClassId) (dm : DeclaredMethod) (a : Method) → Seen w c dm a → overrides_badly w c dm ≡ false → (j : ℕ) (d : ClassId) → slice_get (ancestors_of w.outline c) j ≡ Some d →
      (o : Option Class) → class_at p d ≡ o → list_all (λ (id : MethodId). agrees_with a (method_at p id)) (elim o [ None ↦ [] | Some class ↦ class.methods ]) ≡ true
  all_agree c dm a s badly j d above None is = refl
  all_agree c dm a s badly j d above (Some class) is = all_by_places (λ (id : MethodId). agrees_with a (method_at p id)) class.methods (λ i id inside.
      let at = positions.seen_at files form classes fields methods l d.0 class is i id inside in
      ap (agrees_with a) at.method_is ∙ agrees_where a at.method (λ e. one_agrees c dm a s badly j d above i at.declared at.at at.method at.seen e))

  abbrev fits : Method → Bool
  fits m = list_all (λ (o : MethodId). agrees_with m (method_at p o)) (flat_map (methods_of p) (ancestors_of p m.owner))

  own_fits : (j : ℕ) (m : Method) → slice_get methods j ≡ Some m → fits m ≡ true
  own_fits j m there =
      let made = member_made (λ file. file.methods) (linked_method w) files methods l.methods_are j m there in
      let f = linked_method_is w made.file (class_id made.class) made.member m made.made in
      let c = class_id made.class in
      let dm = declared_method made.file made.member in
      let owner : m.owner ≡ c = ap (λ (x : Method). x.owner) (sym f.is) in
      let badly = none_passes (overrides_badly w c) (declared_methods w c) (none_badly w made.file c (l.none made.class made.file made.file_at)) made.place dm
      (bodies.methods_there files form classes fields methods l made.class made.file made.place made.member made.file_at made.member_at) in
      let a = origins.agree files form classes fields methods l in
      ap (λ (d : ClassId). list_all (λ (o : MethodId). agrees_with m (method_at p o)) (flat_map (methods_of p) (ancestors_of p d))) owner
      ∙ (ap (λ (ds : List ClassId). list_all (λ (o : MethodId). agrees_with m (method_at p o)) (flat_map (methods_of p) ds)) (sym (a.ancestors c))
      ∙ all_flat (methods_of p) (λ (o : MethodId). agrees_with m (method_at p o)) (ancestors_of w.outline c)
      (λ n d above. all_agree c dm m (seen_own w made.file c made.member m f) badly n d above (class_at p d) refl))

  -- of a built-in class that has constructors alone nothing is overridden
  class_open : (a : Method) (d : ClassId) → constructs_alone form d ≡ true → list_all (λ (id : MethodId). agrees_with a (method_at p id)) (methods_of p (shift_class len d)) ≡ true
  class_open a d alone =
      let parts = and_parts (nat_lt d.0 (length (built_in_classes_in form 0 0))) _ alone in
      let within = ltb-true d.0 (length (built_in_classes_in form 0 0)) parts.0 in
      let count = length-built_in form len (length methods) in
      let t = get_some (built_in_classes_in form len (length methods)) d.0 (omega (arith, within, count)) in
      let o = built_in_of form len (length methods) d.0 t.0 t.1 in
      let own : list_all (λ (id : MethodId). constructs (method_at (built_ins form) id)) o.of.methods ≡ true =
      ap (λ (c : Option Class). list_all (λ (id : MethodId). constructs (method_at (built_ins form) id)) (elim c [ None ↦ [] | Some class ↦ class.methods ])) (sym o.at) ∙ parts.1 in
      ap (λ (c : Option Class). list_all (λ (id : MethodId). agrees_with a (method_at p id)) (elim c [ None ↦ [] | Some class ↦ class.methods ])) (origins.built_at files form classes fields methods l d.0 t.0 t.1)
      ∙ all_by_places (λ (id : MethodId). agrees_with a (method_at p id)) t.0.methods (λ i id inside.
      let m = positions.built_at files form classes fields methods l d.0 t.0 t.1 o i id inside in
      let constructor = all_at (λ (e : MethodId). constructs (method_at (built_ins form) e)) o.of.methods own i m.id0 m.at in
      ap (agrees_with a) m.method_is ∙ no_override a (shift_method len m.of) (ap constructs (sym m.of_is) ∙ constructor))

  line_open : (a : Method) (ds : List ClassId) → list_all (constructs_alone form) ds ≡ true → list_all (λ (id : MethodId). agrees_with a (method_at p id)) (flat_map (methods_of p) (map (shift_class len) ds)) ≡ true
  line_open a [] alone = refl
  line_open a (d ∷ ds) alone =
      let parts = and_parts (constructs_alone form d) (list_all (constructs_alone form) ds) alone in
      all_append (λ (id : MethodId). agrees_with a (method_at p id)) (methods_of p (shift_class len d)) (flat_map (methods_of p) (map (shift_class len) ds)) (class_open a d parts.0) (line_open a ds parts.1)

  -- one of a built-in class
  fits_of_class : (m : Method) (c : ℕ) (class : Class) → slice_get (built_in_classes_in form len (length methods)) c ≡ Some class → m.owner ≡ class_id (len + c) → list_all (constructs_alone form) (ancestors_of (built_ins form) (class_id c)) ≡ true → fits m ≡ true
  fits_of_class m c class there owner alone =
      let q = built_in_of form len (length methods) c class there in
      ap (λ (d : ClassId). list_all (λ (id : MethodId). agrees_with m (method_at p id)) (flat_map (methods_of p) (ancestors_of p d))) owner
      ∙ (ap (λ (ds : List ClassId). list_all (λ (id : MethodId). agrees_with m (method_at p id)) (flat_map (methods_of p) ds)) (origins.built_ancestors files form classes fields methods l c q.of q.at)
      ∙ line_open m (ancestors_of (built_ins form) (class_id c)) alone)

  built_fits : (k : ℕ) (m : Method) → slice_get (built_in_methods_in form len) k ≡ Some m → fits m ≡ true
  unfolding overrides_none
  built_fits k m there = by (is_constructor (built_in_method_of form len k m there).of) refl
    where
      below : list_all (constructs_alone form) (ancestors_of (built_ins form) (built_in_method_of form len k m there).of.owner) ≡ true → fits m ≡ true
      below alone =
          let o = built_in_method_of form len k m there in
          let count = length-built_in form len (length methods) in
          let less = ltb-true o.of.owner.0 (length (built_in_classes_in form 0 0)) (all_at (λ (x : Method). nat_lt x.owner.0 (length (built_in_classes_in form 0 0))) (built_in_methods_in form 0) (owners_there form) k o.of o.at) in
          let class = get_some (built_in_classes_in form len (length methods)) o.of.owner.0 (omega (arith, count, less)) in
          fits_of_class m o.of.owner.0 class.0 class.1 (ap (λ (x : Method). x.owner) (sym o.is)) alone

      by : (z : Bool) → is_constructor (built_in_method_of form len k m there).of ≡ z → fits m ≡ true
      by true e =
          let o = built_in_method_of form len k m there in
          all_of (λ (id : MethodId). agrees_with m (method_at p id)) (flat_map (methods_of p) (ancestors_of p m.owner)) (λ id. constructor_agrees m (ap is_constructor (sym o.is) ∙ e) (method_at p id))
      by false e =
          let o = built_in_method_of form len k m there in
          let either = all_at (overrides_none form) (built_in_methods_in form 0) (methods_open form) k o.of o.at in
          below (sym (ap (λ (z : Bool). z || list_all (constructs_alone form) (ancestors_of (built_ins form) o.of.owner)) e) ∙ either)

  fits_by : (j : ℕ) (m : Method) → Side methods (built_in_methods_in form len) j m → fits m ≡ true
  fits_by j m (Left e) = own_fits j m e
  fits_by j m (Right k is e) = built_fits k m e

  pub overriding : overriding_agrees p ≡ true
  unfolding overriding_agrees
  overriding = all_by_places fits p.methods (λ j m there. fits_by j m (side methods (built_in_methods_in form len) j m there))

module _ (in_parts : LinkedInParts) (none_has : NoneHasAProblem) (of_each : NoneOfEachKind) where
  pub overriding_agrees_of : OverridingAgrees
  overriding_agrees_of files form p well = linking in_parts none_has of_each (λ q. overriding_agrees q ≡ true) files form p well (overriding files form)
