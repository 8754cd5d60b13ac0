-- A class that isn't abstract neither declares nor inherits an abstract method.
use Rattle.std.proofs.Common.{◌≡◌, ℕ, zero, suc, ◌+◌, Bool, true, false, ◌&&◌, ◌||◌, not, nat_lt, List, [], ◌∷◌, ◌++◌, map, length, slice_get, Option, Some, None, filter, refl, sym, ap, ◌∙◌, ltb-true, arith}
use Rattle.std.specs.List.{flat_map, list_all, list_any}
use Rattle.std.proofs.lemmas.Bool.{and_left, and_parts, not-true, not_from_false, or_left, or_right}
use Rattle.std.proofs.lemmas.List.{length-append}
use Rattle.std.proofs.lemmas.Option.{slice_get_within}
use Rattle.kilim_lemmas.proofs.Lists.{front_none, rest_none, map_none, get_some}
use Rattle.kilim_class_file.specs.declared.class_file.ClassFile.{ClassFile}
use Rattle.kilim_program.specs.declared.class.Class.{Class}
use Rattle.kilim_program.specs.declared.class.Field.{Field}
use Rattle.kilim_program.specs.declared.class.Form.{Form}
use Rattle.kilim_program.specs.declared.class.Form.TheVariants.{Plain, Woven}
use Rattle.kilim_program.specs.declared.class.Method.{Method}
use Rattle.kilim_program.specs.declared.names.ClassId.{ClassId}
use Rattle.kilim_program.specs.declared.names.MethodId.{MethodId}
use Rattle.kilim_program.specs.Program.{Program}
use Rattle.kilim_program.specs.BuiltIn.{built_in_classes_in, built_in_methods_in, class_id}
use Rattle.kilim_program.specs.Keeps.{ancestors_of, each_class_from, is_left_abstract, is_same_id, line_above, none_is_left_abstract, superclass_of}
use Rattle.kilim_program.specs.Names.{class_at, line_of, line_up_to, method_at, methods_of}
use Rattle.kilim_program.specs.Same.{selected}
use Rattle.kilim_link_spec.specs.Faults.{abstract_left, is_left_here, left_above, left_inherited}
use Rattle.kilim_link_spec.specs.Laws.{LinkedInParts, NoProblem, NoneHasAProblem, NoneOfEachKind}
use Rattle.kilim_link_spec.specs.Linked.{program_with}
use Rattle.kilim_link_spec.specs.World.{World, acc_abstract, built_ins, declared_methods, has_flag, world_of}
use Rattle.kilim_link_laws.specs.Facts.{NoneIsLeftAbstract}
use Rattle.kilim_link_laws.proofs.Bared.{line_from, super_in}
use Rattle.kilim_link_laws.proofs.Bridge.{LinkedClass}
use Rattle.kilim_link_laws.proofs.Flat.{append_none}
use Rattle.kilim_link_laws.proofs.Linking.{Linking, linking, none_passes}
use Rattle.kilim_link_laws.proofs.Lists.{all_at, none_by_places}
use Rattle.kilim_link_laws.proofs.Nearer as nearer
use Rattle.kilim_link_laws.proofs.Origins as origins
use Rattle.kilim_link_laws.proofs.Origins.{ClassOrigin, OfBuiltIn, OfFile, built_in_of, each_by_places, length-built_in}
use Rattle.kilim_link_laws.proofs.Outline.{begins, by_table}
use Rattle.kilim_link_laws.proofs.Positions as positions
use Rattle.kilim_link_laws.proofs.Shifted.{shift_class, shift_method}

-- the lines of built-in classes are of such classes
lines_there : (form : Form) → each_class_from (λ c class. list_all (λ (d : ClassId). nat_lt d.0 (length (built_in_classes_in form 0 0))) (line_of (built_ins form) c)) 0 (built_in_classes_in form 0 0) ≡ true
lines_there Plain = refl
lines_there Woven = refl

and_true : (b : Bool) → (b && true) ≡ false → b ≡ false
and_true true e = e
and_true false e = e

-- no built-in method is abstract
none_abstract : (form : Form) → list_all (λ (m : Method). not m.is_abstract) (built_in_methods_in form 0) ≡ true
none_abstract Plain = refl
none_abstract Woven = refl

-- ---- lines

prefix_from : (p : Program) (n : ℕ) → ((c : ClassId) → (rest : List ClassId) × (line_up_to p (suc n) c ≡ line_up_to p n c ++ rest)) → (o : Option ClassId) → (rest : List ClassId) × (line_from p (suc n) o ≡ line_from p n o ++ rest)
prefix_from p n each None = ([], refl)
prefix_from p n each (Some up) = each up

-- a shorter line is the front of a longer one
line_prefix : (p : Program) (n : ℕ) (c : ClassId) → (rest : List ClassId) × (line_up_to p (suc n) c ≡ line_up_to p n c ++ rest)
line_prefix p zero c = (line_up_to p (suc zero) c, refl)
line_prefix p (suc n) c =
    let f = prefix_from p n (line_prefix p n) (super_in (class_at p c)) in
    (f.0, ap (λ (ds : List ClassId). c ∷ ds) f.1)

-- ---- no problem

record NoneLeft (w : World) (file : ClassFile) (c : ClassId) : Type 0 where
  here : filter (is_left_here (has_flag acc_abstract file.access_flags)) (declared_methods w c) ≡ []
  above : left_inherited w c (has_flag acc_abstract file.access_flags) ≡ []

none_left_of : (w : World) (file : ClassFile) (c : ClassId) → NoProblem w file c → NoneLeft w file c
unfolding abstract_left
none_left_of w file c n =
    let all = map_none _ _ n.none_abstract in
    let front = filter (is_left_here (has_flag acc_abstract file.access_flags)) (declared_methods w c) in
    let rest = left_inherited w c (has_flag acc_abstract file.access_flags) in
    record { here = front_none front rest all; above = rest_none front rest all }

module _ (files : List ClassFile) (form : Form) (classes : List Class) (fields : List Field) (methods : List Method) (l : Linking files form classes fields methods) where
  abbrev w : World
  w = world_of files form

  abbrev p : Program
  p = program_with files form classes fields methods

  abbrev len : ℕ
  len = length files

  abbrev left : ClassId → MethodId → Bool
  left c id = is_left_abstract p c id (method_at p id)

  more : (n : ℕ) × (length p.classes ≡ suc n)
  more =
      let b = begins form in
      let both = length-append classes (built_in_classes_in form len (length methods)) in
      let count = length-built_in form len (length methods) in
      let some = b.count in
      (length classes + b.more, omega (arith, both, count, some))

  -- ---- a class of a file

  own_left : (c : ClassId) (file : ClassFile) (class : Class) → class_at p c ≡ Some class → has_flag acc_abstract file.access_flags ≡ false →
      filter (is_left_here (has_flag acc_abstract file.access_flags)) (declared_methods w c) ≡ [] → list_any (left c) (methods_of p c) ≡ false
  own_left c file class is concrete here =
      ap (λ (o : Option Class). list_any (left c) (elim o [ None ↦ [] | Some k ↦ k.methods ])) is
      ∙ none_by_places (left c) class.methods (λ i id inside.
      let s = positions.seen_at files form classes fields methods l c.0 class is i id inside in
      let passes = none_passes (is_left_here (has_flag acc_abstract file.access_flags)) (declared_methods w c) here i s.declared s.at in
      let no_abstract : s.declared.is_abstract ≡ false = and_true s.declared.is_abstract (ap (λ (b : Bool). s.declared.is_abstract && (not b || (s.declared.is_private || s.declared.is_static))) (sym concrete) ∙ passes) in
      ap (is_left_abstract p c id) s.method_is ∙ and_left s.method.is_abstract (is_same_id id (selected p c s.method)) (sym s.seen.abstracts ∙ no_abstract))

  concrete_file : (n : ℕ) (file : ClassFile) (class : Class) → slice_get files n ≡ Some file → slice_get p.classes n ≡ Some class → LinkedClass w file (class_id n) class → has_flag acc_abstract file.access_flags ≡ false →
      list_any (left (class_id n)) (flat_map (methods_of p) (line_of p (class_id n))) ≡ false
  concrete_file n file class there is made concrete =
      let c = class_id n in
      let a = origins.agree files form classes fields methods l in
      let m = more in
      let up : class_at p c ≡ Some class = is in
      let super : class.superclass ≡ Some made.up = ap (λ (k : Class). k.superclass) (sym made.is) in
      let prefix = line_prefix p m.0 made.up in
      let rest = line_up_to p m.0 made.up in
      let line : line_of p c ≡ c ∷ rest =
      ap (λ (k : ℕ). line_up_to p k c) m.1
      ∙ (ap (λ (o : Option Class). c ∷ line_from p m.0 (super_in o)) up ∙ ap (λ (o : Option ClassId). c ∷ line_from p m.0 o) super) in
      let ancestors : ancestors_of w.outline c ≡ rest ++ prefix.0 =
      a.ancestors c ∙ (ap (λ (o : Option Class). line_above p (superclass_of o)) up ∙ (ap (line_above p) super
      ∙ (ap (λ (k : ℕ). line_up_to p k made.up) m.1 ∙ prefix.1))) in
      let left_none = none_left_of w file c (l.none n file there) in
      let above : left_above w (declared_methods w c) (rest ++ prefix.0) ≡ [] =
      ap (left_above w (declared_methods w c)) (sym ancestors) ∙ (ap (left_inherited w c) (sym concrete) ∙ left_none.above) in
      let own = own_left c file class up concrete left_none.here in
      let all : nearer.All files form classes fields methods l (declared_methods w c) (methods_of p c ++ []) = λ i d inside. nearer.among_left files form classes fields methods l (methods_of p c) [] d (nearer.all_of_class files form classes fields methods l c i d inside) in
      let none : list_any (left c) (methods_of p c ++ []) ≡ false = append_none (left c) (methods_of p c) [] own refl in
      ap (λ (ds : List ClassId). list_any (left c) (flat_map (methods_of p) ds)) line
      ∙ append_none (left c) (methods_of p c) (flat_map (methods_of p) rest) own (nearer.none_above files form classes fields methods l c (c ∷ []) (declared_methods w c) rest prefix.0 line all none above)

  -- ---- a built-in class

  built_none : (c : ClassId) (k : ℕ) (class : Class) → slice_get (built_in_classes_in form len (length methods)) k ≡ Some class → list_any (left c) (methods_of p (class_id (len + k))) ≡ false
  built_none c k class there =
      let o = built_in_of form len (length methods) k class there in
      ap (λ (x : Option Class). list_any (left c) (elim x [ None ↦ [] | Some y ↦ y.methods ])) (origins.built_at files form classes fields methods l k class there)
      ∙ none_by_places (left c) class.methods (λ i id inside.
      let m = positions.built_at files form classes fields methods l k class there o i id inside in
      let no_abstract = not-true _ (all_at (λ (x : Method). not x.is_abstract) (built_in_methods_in form 0) (none_abstract form) m.id0.0 m.of m.of_is) in
      ap (is_left_abstract p c id) m.method_is ∙ and_left m.of.is_abstract (is_same_id id (selected p c (shift_method len m.of))) no_abstract)

  line_none : (c : ClassId) (ds : List ClassId) → list_all (λ (d : ClassId). nat_lt d.0 (length (built_in_classes_in form 0 0))) ds ≡ true → list_any (left c) (flat_map (methods_of p) (map (shift_class len) ds)) ≡ false
  line_none c [] there = refl
  line_none c (d ∷ ds) there =
      let parts = and_parts (nat_lt d.0 (length (built_in_classes_in form 0 0))) _ there in
      let within = ltb-true d.0 (length (built_in_classes_in form 0 0)) parts.0 in
      let count = length-built_in form len (length methods) in
      let class = get_some (built_in_classes_in form len (length methods)) d.0 (omega (arith, within, count)) in
      append_none (left c) (methods_of p (shift_class len d)) (flat_map (methods_of p) (map (shift_class len) ds)) (built_none c d.0 class.0 class.1) (line_none c ds parts.1)

  -- ---- all classes

  abbrev fits : ClassId → Class → Bool
  fits c class = class.is_abstract || not (list_any (λ m. is_left_abstract p c m (method_at p m)) (flat_map (methods_of p) (line_of p c)))

  file_by : (n : ℕ) (file : ClassFile) (class : Class) → slice_get files n ≡ Some file → slice_get p.classes n ≡ Some class → LinkedClass w file (class_id n) class → (b : Bool) → has_flag acc_abstract file.access_flags ≡ b → fits (class_id n) class ≡ true
  file_by n file class there is made true e = or_left class.is_abstract _ (ap (λ (k : Class). k.is_abstract) (sym made.is) ∙ e)
  file_by n file class there is made false e = or_right class.is_abstract _ (not_from_false _ (concrete_file n file class there is made e))

  fits_by : (n : ℕ) (class : Class) → slice_get p.classes n ≡ Some class → ClassOrigin files form (length methods) n class → fits (class_id n) class ≡ true
  fits_by n class is (OfFile file at made) = file_by n file class at is made (has_flag acc_abstract file.access_flags) refl
  fits_by n class is (OfBuiltIn k place there) =
      let o = built_in_of form len (length methods) k class there in
      let within = slice_get_within (built_in_classes_in form 0 0) k o.of o.at in
      let none = ap (λ (ds : List ClassId). list_any (left (class_id (len + k))) (flat_map (methods_of p) ds)) (origins.built_line files form classes fields methods l k within)
      ∙ line_none (class_id (len + k)) (line_of (built_ins form) (class_id k))
      (by_table form (λ c class. list_all (λ (d : ClassId). nat_lt d.0 (length (built_in_classes_in form 0 0))) (line_of (built_ins form) c)) (lines_there form) k o.of o.at) in
      ap (λ (m : ℕ). fits (class_id m) class) place ∙ or_right class.is_abstract _ (not_from_false _ none)

  pub none_abstract_left : none_is_left_abstract p ≡ true
  unfolding none_is_left_abstract
  none_abstract_left = each_by_places p fits (λ n class is. fits_by n class is (origins.class_origin files form classes fields methods l n class is))

module _ (in_parts : LinkedInParts) (none_has : NoneHasAProblem) (of_each : NoneOfEachKind) where
  pub none_is_left_abstract_of : NoneIsLeftAbstract
  none_is_left_abstract_of files form p well = linking in_parts none_has of_each (λ q. none_is_left_abstract q ≡ true) files form p well (none_abstract_left files form)
