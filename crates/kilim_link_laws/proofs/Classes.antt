-- The facts of the classes of files that link well: ancestors, kinds and superclasses.
use Rattle.std.proofs.Common.{◌≡◌, ◌<◌, ℕ, ◌+◌, Bool, true, false, ◌&&◌, ◌||◌, ◌==◌, not, if◌then◌else◌, List, length, Option, Some, None, option_map, bytes_eq, codes, refl, sym, ap, ◌∙◌, arith}
use Rattle.std.specs.List.{list_all, list_any}
use Rattle.std.proofs.lemmas.Bool.{and_parts, not-false, not-true, not_from_false}
use Rattle.std.proofs.lemmas.Option.{same_Some, slice_get_within}
use Rattle.kilim_class_file.specs.declared.class_file.ClassFile.{ClassFile}
use Rattle.kilim_program.specs.declared.class.Class.{Class}
use Rattle.kilim_program.specs.declared.class.Field.{Field}
use Rattle.kilim_program.specs.declared.class.Form.{Form}
use Rattle.kilim_program.specs.declared.class.Form.TheVariants.{Plain, Woven}
use Rattle.kilim_program.specs.declared.class.Method.{Method}
use Rattle.kilim_program.specs.declared.names.ClassId.{ClassId}
use Rattle.kilim_program.specs.declared.ty.Kind.{Kind}
use Rattle.kilim_program.specs.Program.{Program}
use Rattle.kilim_program.specs.BuiltIn.{built_in_classes_in, class_id}
use Rattle.kilim_program.specs.Keeps.{ancestors_of, each_class_from, is_object, none_is_both, none_is_its_ancestor, superclass_fits, superclasses_fit}
use Rattle.kilim_program.specs.Kinds.{class_kind, is_message, is_private_kind}
use Rattle.kilim_program.specs.Names.{is_task}
use Rattle.kilim_link_spec.specs.Faults.{both_kinds, circular, is_circular, is_open_class, may_extend, super_kind}
use Rattle.kilim_link_spec.specs.Laws.{LinkedInParts, NoProblem, NoneHasAProblem, NoneOfEachKind}
use Rattle.kilim_link_spec.specs.Linked.{program_with}
use Rattle.kilim_link_spec.specs.World.{World, built_ins, class_of, super_name, view_at, world_of}
use Rattle.kilim_link_laws.specs.Facts.{NoneIsBoth, NoneIsItsAncestor, SuperclassesFit}
use Rattle.kilim_link_laws.proofs.Linking.{Linking, linking, not_so}
use Rattle.kilim_link_laws.proofs.Lists.{all_at}
use Rattle.kilim_link_laws.proofs.Origins as origins
use Rattle.kilim_link_laws.proofs.Origins.{ClassOrigin, OfBuiltIn, OfFile, built_in_of, each_by_places}
use Rattle.kilim_link_laws.proofs.Outline.{any_shifted, by_table, up_before}
use Rattle.kilim_link_laws.proofs.Shifted.{same_number_shifted, shift_class}

-- ---- no problem, of each kind

not_circular : (w : World) (file : ClassFile) (c : ClassId) → NoProblem w file c → list_any (λ d. d.0 == c.0) (ancestors_of w.outline c) ≡ false
unfolding circular is_circular
not_circular w file c n = not_so _ _ n.not_circular

not_both : (w : World) (file : ClassFile) (c : ClassId) → NoProblem w file c → (is_task w.outline c && is_message w.outline c) ≡ false
unfolding both_kinds
not_both w file c n = not_so _ _ n.not_both

pub extends : (w : World) (file : ClassFile) (c : ClassId) → NoProblem w file c → may_extend w c (class_of w (super_name file)) ≡ true
unfolding super_kind
extends w file c n = not-false _ (not_so _ _ n.super_fits)

fits_up : (w : World) (c up : ClassId) (o : Option ClassId) → o ≡ Some up → may_extend w c o ≡ true → superclass_fits w.outline c (Some up) ≡ true
fits_up w c up None is e = absurd (cc)
fits_up w c up (Some d) is e =
    ap (λ (f : ClassId). superclass_fits w.outline c (Some f)) (sym (same_Some d up is)) ∙ (and_parts (is_open_class (view_at w d)) (superclass_fits w.outline c (Some d)) e).1

-- ---- built-in classes, by their table

-- no message class of them is the task class
one_kind : (form : Form) → list_all (λ (class : Class). not (bytes_eq class.name (codes "kilim/Task") && class.message)) (built_in_classes_in form 0 0) ≡ true
one_kind Plain = refl
one_kind Woven = refl

-- none is its own ancestor, and each has a superclass that fits
none_own : (form : Form) → each_class_from (λ c class. not (list_any (λ (d : ClassId). d.0 == c.0) (ancestors_of (built_ins form) c))) 0 (built_in_classes_in form 0 0) ≡ true
none_own Plain = refl
none_own Woven = refl

supers_fit : (form : Form) → each_class_from (λ c class. superclass_fits (built_ins form) c class.superclass) 0 (built_in_classes_in form 0 0) ≡ true
supers_fit Plain = refl
supers_fit Woven = refl

module _ (files : List ClassFile) (form : Form) (classes : List Class) (fields : List Field) (methods : List Method) (l : Linking files form classes fields methods) where
  abbrev w : World
  w = world_of files form

  abbrev p : Program
  p = program_with files form classes fields methods

  abbrev len : ℕ
  len = length files

  abbrev built : List Class
  built = built_in_classes_in form len (length methods)

  -- ---- ancestors

  abbrev no_ancestor : ClassId → Bool
  no_ancestor c = not (list_any (λ d. d.0 == c.0) (ancestors_of p c))

  no_ancestor_by : (n : ℕ) (class : Class) → ClassOrigin files form (length methods) n class → no_ancestor (class_id n) ≡ true
  no_ancestor_by n class (OfFile file at made) =
      let a = origins.agree files form classes fields methods l in
      ap (λ (ds : List ClassId). not (list_any (λ d. d.0 == n) ds)) (sym (a.ancestors (class_id n))) ∙ not_from_false _ (not_circular w file (class_id n) (l.none n file at))
  no_ancestor_by n class (OfBuiltIn k is there) =
      let o = built_in_of form len (length methods) k class there in
      let own = not-true _ (by_table form (λ c class. not (list_any (λ (d : ClassId). d.0 == c.0) (ancestors_of (built_ins form) c))) (none_own form) k o.of o.at) in
      ap (λ (m : ℕ). no_ancestor (class_id m)) is
      ∙ (ap (λ (ds : List ClassId). not (list_any (λ d. d.0 == len + k) ds)) (origins.built_ancestors files form classes fields methods l k o.of o.at)
      ∙ not_from_false _ (any_shifted len (λ d. d.0 == len + k) (λ d. d.0 == k) (λ d. same_number_shifted len d.0 k) (ancestors_of (built_ins form) (class_id k)) ∙ own))

  pub ancestors : none_is_its_ancestor p ≡ true
  unfolding none_is_its_ancestor
  ancestors = each_by_places p (λ c class. no_ancestor c) (λ n class there. no_ancestor_by n class (origins.class_origin files form classes fields methods l n class there))

  -- ---- kinds

  abbrev one_of_both : ClassId → Bool
  one_of_both c = not (is_task p c && is_message p c)

  one_of_both_by : (n : ℕ) (class : Class) → ClassOrigin files form (length methods) n class → one_of_both (class_id n) ≡ true
  one_of_both_by n class (OfFile file at made) =
      let a = origins.agree files form classes fields methods l in
      ap (λ (b : Bool). not (b && is_message p (class_id n))) (sym (a.tasks (class_id n)))
      ∙ (ap (λ (b : Bool). not (is_task w.outline (class_id n) && b)) (sym (a.messages (class_id n)))
      ∙ not_from_false _ (not_both w file (class_id n) (l.none n file at)))
  one_of_both_by n class (OfBuiltIn k is there) =
      let o = built_in_of form len (length methods) k class there in
      ap (λ (m : ℕ). one_of_both (class_id m)) is
      ∙ (ap (λ (b : Bool). not (b && is_message p (class_id (len + k)))) (origins.built_task files form classes fields methods l k o.of o.at)
      ∙ (ap (λ (b : Bool). not (bytes_eq o.of.name (codes "kilim/Task") && b)) (origins.built_message files form classes fields methods l k class there o)
      ∙ all_at (λ (c : Class). not (bytes_eq c.name (codes "kilim/Task") && c.message)) (built_in_classes_in form 0 0) (one_kind form) k o.of o.at))

  pub both : none_is_both p ≡ true
  unfolding none_is_both
  both = each_by_places p (λ c class. one_of_both c) (λ n class there. one_of_both_by n class (origins.class_origin files form classes fields methods l n class there))

  -- ---- superclasses

  fits_shifted : (k : ℕ) → k < length (built_in_classes_in form 0 0) → (s : Option ClassId) → ((d : ClassId) → s ≡ Some d → d.0 < length (built_in_classes_in form 0 0)) →
      superclass_fits p (class_id (len + k)) (option_map (shift_class len) s) ≡ superclass_fits (built_ins form) (class_id k) s
  fits_shifted k within None there = ap (λ (name : List ℕ). bytes_eq name (codes "java/lang/Object")) (origins.name_shifted files form classes fields methods l (class_id k))
  fits_shifted k within (Some d) there =
      let c = class_id (len + k) in
      let up = shift_class len d in
      ap (λ (b : Bool). if b then is_object p up || is_message p up else not (is_private_kind (class_kind p c)) || is_private_kind (class_kind p up)) (origins.message_shifted files form classes fields methods l (class_id k))
      ∙ (ap (λ (name : List ℕ). if is_message (built_ins form) (class_id k) then bytes_eq name (codes "java/lang/Object") || is_message p up else not (is_private_kind (class_kind p c)) || is_private_kind (class_kind p up))
      (origins.name_shifted files form classes fields methods l d)
      ∙ (ap (λ (b : Bool). if is_message (built_ins form) (class_id k) then is_object (built_ins form) d || b else not (is_private_kind (class_kind p c)) || is_private_kind (class_kind p up))
      (origins.message_shifted files form classes fields methods l d)
      ∙ (ap (λ (z : Kind). if is_message (built_ins form) (class_id k) then is_object (built_ins form) d || is_message (built_ins form) d else not (is_private_kind z) || is_private_kind (class_kind p up))
      (origins.kind_shifted files form classes fields methods l k within)
      ∙ ap (λ (z : Kind). if is_message (built_ins form) (class_id k) then is_object (built_ins form) d || is_message (built_ins form) d else not (is_private_kind (class_kind (built_ins form) (class_id k))) || is_private_kind z)
      (origins.kind_shifted files form classes fields methods l d.0 (there d refl)))))

  fits_by : (n : ℕ) (class : Class) → ClassOrigin files form (length methods) n class → superclass_fits p (class_id n) class.superclass ≡ true
  fits_by n class (OfFile file at made) =
      let a = origins.agree files form classes fields methods l in
      ap (λ (k : Class). superclass_fits p (class_id n) k.superclass) (sym made.is)
      ∙ (sym (a.supers (class_id n) (Some made.up)) ∙ fits_up w (class_id n) made.up (class_of w (super_name file)) made.up_is (extends w file (class_id n) (l.none n file at)))
  fits_by n class (OfBuiltIn k is there) =
      let o = built_in_of form len (length methods) k class there in
      let within = slice_get_within (built_in_classes_in form 0 0) k o.of o.at in
      ap (λ (m : ℕ). superclass_fits p (class_id m) class.superclass) is
      ∙ (ap (λ (b : Class). superclass_fits p (class_id (len + k)) b.superclass) (sym o.is)
      ∙ (fits_shifted k within o.of.superclass (λ d up. let less = up_before form k o.of d o.at up in omega (arith, less, within))
      ∙ by_table form (λ c class. superclass_fits (built_ins form) c class.superclass) (supers_fit form) k o.of o.at))

  pub superclasses : superclasses_fit p ≡ true
  unfolding superclasses_fit
  superclasses = each_by_places p (λ c class. superclass_fits p c class.superclass) (λ n class there. fits_by n class (origins.class_origin files form classes fields methods l n class there))

module _ (in_parts : LinkedInParts) (none_has : NoneHasAProblem) (of_each : NoneOfEachKind) where
  pub none_is_its_ancestor_of : NoneIsItsAncestor
  none_is_its_ancestor_of files form p well = linking in_parts none_has of_each (λ q. none_is_its_ancestor q ≡ true) files form p well (ancestors files form)

  pub none_is_both_of : NoneIsBoth
  none_is_both_of files form p well = linking in_parts none_has of_each (λ q. none_is_both q ≡ true) files form p well (both files form)

  pub superclasses_fit_of : SuperclassesFit
  superclasses_fit_of files form p well = linking in_parts none_has of_each (λ q. superclasses_fit q ≡ true) files form p well (superclasses files form)
