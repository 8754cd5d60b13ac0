-- The parts of a linked program, and the kinds of problems, taken apart.
use Rattle.std.proofs.Common.{◌≡◌, List, [], ◌∷◌, ◌++◌, Option, Some, None, map, ℕ, suc, refl}
use Rattle.kilim_program.specs.declared.class.Class.{Class}
use Rattle.kilim_program.specs.declared.class.Field.{Field}
use Rattle.kilim_program.specs.declared.class.Form.{Form}
use Rattle.kilim_program.specs.declared.class.Method.{Method}
use Rattle.kilim_program.specs.Names.{◌>>=◌}
use Rattle.kilim_program.specs.Program.{Program}
use Rattle.kilim_class_file.specs.declared.class_file.ClassFile.{ClassFile}
use Rattle.std.specs.List.{flat_map}
use Rattle.kilim_program.specs.BuiltIn.{class_id}
use Rattle.kilim_link_spec.specs.Faults.{faults_in, link_faults, problems_of}
use Rattle.kilim_link_spec.specs.Laws.{LinkedInParts, NoneOfEachKind, EachIsWithout, NoneHasAProblem}
use Rattle.kilim_link_spec.specs.Linked.{linked_class, linked_field, linked_method, members, numbered, program_of, program_with}
use Rattle.kilim_link_spec.specs.Types.{each_of, itself}
use Rattle.kilim_link_spec.specs.World.{World, world_of}

put_together : List ClassFile → Form → Option (List Class) → Option (List Field) → Option (List Method) → Option Program
put_together files form cs fs ms = cs >>= λ classes. fs >>= λ fields. ms >>= λ methods. Some (program_with files form classes fields methods)

-- what each of three that are there is
record Found (files : List ClassFile) (form : Form) (cs : Option (List Class)) (fs : Option (List Field)) (ms : Option (List Method)) (p : Program) : Type 0 where
  classes : List Class
  fields : List Field
  methods : List Method
  classes_are : cs ≡ Some classes
  fields_are : fs ≡ Some fields
  methods_are : ms ≡ Some methods
  is : p ≡ program_with files form classes fields methods

found : (files : List ClassFile) (form : Form) (cs : Option (List Class)) (fs : Option (List Field)) (ms : Option (List Method)) (p : Program) → put_together files form cs fs ms ≡ Some p → Found files form cs fs ms p
unfolding put_together
found files form None fs ms p e = absurd (cc)
found files form (Some cs) None ms p e = absurd (cc)
found files form (Some cs) (Some fs) None p e = absurd (cc)
found files form (Some cs) (Some fs) (Some ms) p e =
    record { classes = cs; fields = fs; methods = ms; classes_are = refl; fields_are = refl; methods_are = refl; is = cc }

pub linked_in_parts : LinkedInParts
unfolding program_of put_together
linked_in_parts files form p e =
    let w = world_of files form in
    let f = found files form (each_of itself (numbered (linked_class w) 0 files)) (each_of itself (members (λ file. file.fields) (linked_field w) files)) (each_of itself (members (λ file. file.methods) (linked_method w) files)) p e in
    record { classes = f.classes; fields = f.fields; methods = f.methods; classes_are = f.classes_are; fields_are = f.fields_are; methods_are = f.methods_are; is = f.is }

-- ---- nothing in lists one behind the other

front_none : {A : Type 0} → (xs ys : List A) → xs ++ ys ≡ [] → xs ≡ []
front_none [] ys e = refl
front_none (x ∷ xs) ys e = absurd (cc)

rest_none : {A : Type 0} → (xs ys : List A) → xs ++ ys ≡ [] → ys ≡ []
rest_none [] ys e = e
rest_none (x ∷ xs) ys e = absurd (cc)

pub none_of_each_kind : NoneOfEachKind
unfolding problems_of
none_of_each_kind w file c e =
    let r2 = rest_none _ _ e in
    let r3 = rest_none _ _ r2 in
    let r4 = rest_none _ _ r3 in
    let r5 = rest_none _ _ r4 in
    let r6 = rest_none _ _ r5 in
    let r7 = rest_none _ _ r6 in
    let r8 = rest_none _ _ r7 in
    let r9 = rest_none _ _ r8 in
    let r10 = rest_none _ _ r9 in
    let r11 = rest_none _ _ r10 in
    let r12 = rest_none _ _ r11 in
    let r13 = rest_none _ _ r12 in
    record {
      not_twice = front_none _ _ e;
      none_missing = front_none _ _ r2;
      not_circular = front_none _ _ r3;
      no_member_missing = front_none _ _ r4;
      none_left_out = front_none _ _ r5;
      not_both = front_none _ _ r6;
      fields_fit = front_none _ _ r7;
      overrides_fit = front_none _ _ r8;
      code_is_whole = front_none _ _ r9;
      descriptors_are_whole = front_none _ _ r10;
      super_fits = front_none _ _ r11;
      name_is_whole = front_none _ _ r12;
      none_abstract = front_none _ _ r13;
      tables_stand = rest_none _ _ r13;
    }

map_none : {A B : Type 0} → (f : A → B) (xs : List A) → map f xs ≡ [] → xs ≡ []
map_none f [] e = refl
map_none f (x ∷ xs) e = absurd (cc)

each_without : (w : World) (n : ℕ) (files : List ClassFile) → flat_map (λ faults. faults) (numbered (faults_in w) n files) ≡ [] → EachIsWithout w n files
each_without w n [] e = tt
each_without w n (file ∷ files) e = (map_none _ (problems_of w file (class_id n)) (front_none _ _ e), each_without w (suc n) files (rest_none _ _ e))

pub none_has_a_problem : NoneHasAProblem
unfolding link_faults
none_has_a_problem files form e = each_without (world_of files form) 0 files e
