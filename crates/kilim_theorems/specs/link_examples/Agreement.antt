-- Examples of how the faults of linking and the facts of programs agree: files without a fault link to programs that
-- keep them, and of files with a fault of a fact the program breaks one.
use Rattle.std.specs.Prelude.{◌≡◌, Bool, true, false, ◌&&◌, ◌||◌, not, ◌==◌, List, [], ◌∷◌, ◌++◌, Option, Some, None, is_some, codes}
use Rattle.std.specs.List.{list_all}
use Rattle.kilim_program.specs.declared.class.Form.{Form}
use Rattle.kilim_program.specs.declared.class.Form.TheVariants.{Plain, Woven}
use Rattle.kilim_program.specs.declared.class.Method.{Method}
use Rattle.kilim_program.specs.Program.{Program}
use Rattle.kilim_program.specs.Keeps.{ids_are_places, none_is_its_ancestor, code_is_whole, members_are_owned, names_differ, method_is_sound, overriding_agrees, none_is_left_abstract, none_is_both, no_task_arrays, superclasses_fit, own_classes_fit, fields_fit, constants_fit}
use Rattle.kilim_program.specs.Lengths.{places_increase}
use Rattle.kilim_program.specs.Same.{same_flag}
use Rattle.kilim_class_file.specs.declared.class_file.ClassFile.{ClassFile}
use Rattle.kilim_class_pool.specs.declared.entry.Entry.TheVariants as entry
use Rattle.kilim_link_spec.specs.Linked.{program_of}
use Rattle.kilim_link_spec.specs.Faults.{first_fault}
use Rattle.kilim_theorems.specs.link_examples.Examples.{file, file_with, object, p_name, p_file, member, texts, with_field, with_method, with_code}
use Rattle.kilim_theorems.specs.link_examples.Details.{task, q_name, m_name, nothing, returns, class_with, pair, message, holds, static_field, constant, of_interface, with_longs}

-- exactly the abstract methods of the files have no code, and these are neither private nor static
abbrev pub has_its_body : Method → Bool
has_its_body m = m.built_in || (same_flag (m.code_length == 0) m.is_abstract && not (m.is_abstract && (m.is_private || m.is_static)))

-- the facts of programs as one test, but for the built-in classes and what classes of the files are named and extend
abbrev pub keeps_other_facts : Program → Bool
keeps_other_facts p =
    ids_are_places p
    && (none_is_its_ancestor p
    && (list_all code_is_whole p.methods
    && (list_all (λ m. places_increase m.frames) p.methods
    && (list_all has_its_body p.methods
    && (members_are_owned p
    && (names_differ p
    && (list_all method_is_sound p.methods
    && (none_is_both p
    && (no_task_arrays p
    && (superclasses_fit p
    && (fields_fit p
    && (overriding_agrees p
    && (none_is_left_abstract p
    && constants_fit p)))))))))))))

-- and with that
abbrev pub keeps_facts : Program → Bool
keeps_facts p = own_classes_fit p && keeps_other_facts p

-- there is a program, and it keeps them, or doesn't
abbrev pub links_well : Option Program → Bool
links_well None = false
links_well (Some p) = keeps_facts p

abbrev pub links_badly : Option Program → Bool
links_badly None = false
links_badly (Some p) = not (keeps_facts p)

-- there is a program, and this fact alone is broken
abbrev pub breaks_own_classes : Option Program → Bool
breaks_own_classes None = false
breaks_own_classes (Some p) = not (own_classes_fit p) && keeps_other_facts p

-- ---- files without a fault

abbrev pub good_files : List (List ClassFile)
good_files =
    (p_file ∷ [])
    ∷ (static_field (constant 7) ∷ [])
    ∷ (of_interface 184 ∷ [])
    ∷ pair 0x0020 0x0001 returns 0x0001 returns
    ∷ pair 0x0020 0x0001 returns 0x000A returns
    ∷ pair 0x0420 0x0401 [] 0x0001 returns
    ∷ (message q_name object ∷ file p_name q_name [] ∷ [])
    ∷ (holds (message p_name object) (codes "[Lkilim/Message;") ∷ [])
    ∷ (class_with 0x0420 p_name object (with_longs 127) [] 0x0401 [] ∷ [])
    ∷ []

-- ---- files with a fault of a fact: circular, a task array, a task and a message, fields, overriding, the superclass,
-- abstract methods, a method twice, a class twice, too many slots, and a static field without its constant

abbrev pub bad_files : List (List ClassFile)
bad_files =
    (file p_name q_name [] ∷ file q_name p_name [] ∷ [])
    ∷ (with_code (3 ∷ 189 ∷ 0 ∷ 9 ∷ 87 ∷ 177 ∷ []) (entry.Utf8 task ∷ entry.Class 8 ∷ []) ∷ [])
    ∷ (record (file p_name task (entry.Utf8 (codes "kilim/Message") ∷ entry.Class 5 ∷ [])) { interfaces = 6 ∷ [] } ∷ [])
    ∷ (with_field (file p_name task (texts (codes "o") (codes "Ljava/lang/Object;"))) (member 0 []) ∷ [])
    ∷ (holds (message p_name object) (codes "Lkilim/Task;") ∷ [])
    ∷ (with_field (file p_name object (texts m_name (codes "Lkilim/Message;"))) (member 0 []) ∷ [])
    ∷ (with_method (file_with 0x0420 p_name task (texts (codes "execute") nothing)) (member 0x0401 []) ∷ [])
    ∷ pair 0x0020 0x0001 returns 0x0009 returns
    ∷ (file q_name object [] ∷ message p_name q_name ∷ [])
    ∷ (file p_name (codes "java/lang/String") [] ∷ [])
    ∷ pair 0x0420 0x0401 [] 0x0002 returns
    ∷ (class_with 0x0420 q_name object nothing [] 0x0401 [] ∷ file p_name q_name [] ∷ [])
    ∷ (class_with 0x0420 p_name object nothing [] 0x0408 [] ∷ [])
    ∷ (let p = with_code (177 ∷ []) [] in record p { methods = p.methods ++ p.methods } ∷ [])
    ∷ (let p = with_code (177 ∷ []) [] in p ∷ p ∷ [])
    ∷ (class_with 0x0420 p_name object (with_longs 128) [] 0x0401 [] ∷ [])
    ∷ (static_field [] ∷ [])
    ∷ []

-- ---- files with a class that is named `kilim/Fiber`, or extends a built-in class that none may extend

abbrev pub foreign_files : List (List ClassFile)
foreign_files =
    (file (codes "kilim/Fiber") object [] ∷ [])
    ∷ (file p_name (codes "kilim/Pausable") [] ∷ [])
    ∷ (file p_name (codes "kilim/Sys") [] ∷ [])
    ∷ []

-- in woven form there is one more
abbrev pub foreign_woven_files : List (List ClassFile)
foreign_woven_files = (file p_name (codes "kilim/Fiber") [] ∷ []) ∷ (file p_name (codes "kilim/Pausable") [] ∷ []) ∷ []

abbrev pub has_fault : Form → List ClassFile → Bool
has_fault form files = is_some (first_fault files form)

pub record FaultsAndFactsAgree : Type 0 where
  pub good : list_all (λ files. not (has_fault Plain files) && links_well (program_of files Plain)) good_files ≡ true
  pub bad : list_all (λ files. has_fault Plain files && links_badly (program_of files Plain)) bad_files ≡ true
  pub foreign : list_all (λ files. has_fault Plain files && breaks_own_classes (program_of files Plain)) foreign_files ≡ true
  pub foreign_woven : list_all (λ files. has_fault Woven files && breaks_own_classes (program_of files Woven)) foreign_woven_files ≡ true
