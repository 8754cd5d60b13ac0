-- The classes of a program have the names that they have in the world of its files.
use Rattle.std.proofs.Common.{◌≡◌, ℕ, suc, ◌+◌, Bool, List, [], ◌∷◌, ◌++◌, length, map, Option, Some, None, refl, ap, sym, ◌∙◌, slice_get}
use Rattle.std.specs.Option.{option_map}
use Rattle.std.proofs.lemmas.Option.{slice_get-map, same_Some}
use Rattle.kilim_lemmas.proofs.Lists.{map_append}
use Rattle.kilim_class_file.specs.declared.class_file.ClassFile.{ClassFile}
use Rattle.kilim_program.specs.declared.class.Class.{Class}
use Rattle.kilim_program.specs.declared.class.Form.{Form}
use Rattle.kilim_program.specs.declared.class.Form.TheVariants.{Plain, Woven}
use Rattle.kilim_program.specs.declared.names.ClassId.{ClassId}
use Rattle.kilim_program.specs.BuiltIn.{class_id, built_in_classes_in}
use Rattle.kilim_program.specs.Names.{class_name}
use Rattle.kilim_program.specs.Program.{Program}
use Rattle.kilim_link_spec.specs.Laws.{Parts}
use Rattle.kilim_link_spec.specs.Linked.{linked_class, numbered}
use Rattle.kilim_link_spec.specs.Types.{each_of, itself}
use Rattle.kilim_link_spec.specs.World.{World, world_of, own_name, class_of, super_name, outlined, outline_with, is_message_by, view_of_file, view_of_built_in, built_ins}
use Rattle.kilim_link_spec.specs.declared.view.ClassView.{ClassView}
use Rattle.kilim_link_laws.proofs.code_laws.Lists.{first_and}
use Rattle.kilim_link_laws.proofs.code_laws.Members.{bound}

abbrev pub name_of : Class → List ℕ
name_of class = class.name

map_map : {A B C : Type 0} (f : B → C) (g : A → B) (h : A → C) → ((x : A) → f (g x) ≡ h x) → (xs : List A) → map f (map g xs) ≡ map h xs
map_map f g h same [] = refl
map_map f g h same (x ∷ xs) = ap (λ y. y ∷ map f (map g xs)) (same x) ∙ ap (λ ys. h x ∷ ys) (map_map f g h same xs)

outlined_names : (all : List ClassView) (mark : ClassId → ClassView → Bool) (n : ℕ) (vs : List ClassView) → map name_of (outlined all mark n vs) ≡ map (λ v. v.name) vs
outlined_names all mark n [] = refl
outlined_names all mark n (v ∷ vs) = ap (λ names. v.name ∷ names) (outlined_names all mark (n + 1) vs)

linked_name : (w : World) (file : ClassFile) (c : ClassId) (class : Class) → linked_class w file c ≡ Some class → class.name ≡ own_name file
linked_name w file c class e = let b = bound (class_of w (super_name file)) _ class e in ap name_of (sym (same_Some _ class b.then))

linked_names : (w : World) (n : ℕ) (files : List ClassFile) (classes : List Class) → each_of itself (numbered (linked_class w) n files) ≡ Some classes → map name_of classes ≡ map own_name files
linked_names w n [] classes e = ap (map name_of) (sym (same_Some [] classes e))
linked_names w n (file ∷ files) classes e =
    let f = first_and (linked_class w file (class_id n)) (each_of itself (numbered (linked_class w) (suc n) files)) classes e in
    ap (map name_of) f.is ∙ (ap (λ name. name ∷ map name_of f.xs) (linked_name w file (class_id n) f.x f.first_is) ∙ ap (λ names. own_name file ∷ names) (linked_names w (suc n) files f.xs f.others_are))

built_in_names : (form : Form) (n m : ℕ) → map name_of (built_in_classes_in form n m) ≡ map name_of (built_in_classes_in form 0 0)
built_in_names Plain n m = refl
built_in_names Woven n m = refl

outline_names : (files : List ClassFile) (form : Form) → map name_of (world_of files form).outline.classes ≡ map own_name files ++ map name_of (built_in_classes_in form 0 0)
unfolding world_of
outline_names files form =
    let own = map view_of_file files in
    let built = map (view_of_built_in (built_ins form)) (built_in_classes_in form 0 0) in
    let marked = outline_with form (own ++ built) (λ c v. v.is_marked) in
    outlined_names (own ++ built) (λ c v. is_message_by marked c) 0 (own ++ built)
    ∙ (map_append (λ v. v.name) own built
    ∙ (ap (λ names. names ++ map (λ v. v.name) built) (map_map (λ v. v.name) view_of_file own_name (λ file. refl) files)
    ∙ ap (λ names. map own_name files ++ names) (map_map (λ v. v.name) (view_of_built_in (built_ins form)) name_of (λ class. refl) (built_in_classes_in form 0 0))))

abbrev name_or_none : Option Class → List ℕ
name_or_none o = elim o [ None ↦ [] | Some class ↦ class.name ]

abbrev text_or_none : Option (List ℕ) → List ℕ
text_or_none None = []
text_or_none (Some name) = name

shown : (o : Option Class) → name_or_none o ≡ text_or_none (option_map name_of o)
shown None = refl
shown (Some class) = refl

named_at : (cs ds : List Class) (n : ℕ) → map name_of cs ≡ map name_of ds → name_or_none (slice_get cs n) ≡ name_or_none (slice_get ds n)
named_at cs ds n e =
    shown (slice_get cs n)
    ∙ (ap text_or_none (sym (slice_get-map name_of cs n) ∙ (ap (λ (names : List (List ℕ)). slice_get names n) e ∙ slice_get-map name_of ds n))
    ∙ sym (shown (slice_get ds n)))

pub program_names : (files : List ClassFile) (form : Form) (p : Program) → Parts files form p → map name_of p.classes ≡ map name_of (world_of files form).outline.classes
program_names files form p parts =
    ap (λ (q : Program). map name_of q.classes) parts.is
    ∙ (map_append name_of parts.classes (built_in_classes_in form (length files) (length parts.methods))
    ∙ (ap (λ names. names ++ map name_of (built_in_classes_in form (length files) (length parts.methods))) (linked_names (world_of files form) 0 files parts.classes parts.classes_are)
    ∙ (ap (λ names. map own_name files ++ names) (built_in_names form (length files) (length parts.methods)) ∙ sym (outline_names files form))))

-- A class has one name in a program and in the outline.
pub same_class_name : (files : List ClassFile) (form : Form) (p : Program) → Parts files form p → (c : ClassId) → class_name (world_of files form).outline c ≡ class_name p c
same_class_name files form p parts c = named_at (world_of files form).outline.classes p.classes c.0 (sym (program_names files form p parts))

view_names : (files : List ClassFile) (form : Form) → map name_of (world_of files form).outline.classes ≡ map (λ v. v.name) (world_of files form).classes
unfolding world_of
view_names files form =
    let views = map view_of_file files ++ map (view_of_built_in (built_ins form)) (built_in_classes_in form 0 0) in
    let marked = outline_with form views (λ c v. v.is_marked) in
    outlined_names views (λ c v. is_message_by marked c) 0 views
