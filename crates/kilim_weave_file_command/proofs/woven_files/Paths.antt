-- No two woven files have one path.
use Rattle.std.proofs.Common.{◌≡◌, ◌≢◌, ◌≤◌, ℕ, Bool, true, false, not, List, [], ◌∷◌, ◌++◌, length, sym, ap, subst, ◌∙◌}
use Rattle.std.specs.Prelude.{codes}
use Rattle.std.specs.List.{AllByRecursion, list_any}
use Rattle.std.specs.Str.{bytes_eq}
use Rattle.std.specs.String.{string_bytes}
use Rattle.std.proofs.lemmas.Bool.{and_parts, not-true, or_parts}
use Rattle.std.proofs.lemmas.List.{append_cancel_left, append_cancel_right}
use Rattle.kilim_lemmas.proofs.Texts.{same_text}
use Rattle.kilim_link.specs.Keeping.{LinksKeep}
use Rattle.kilim_program.specs.declared.class.Class.{Class}
use Rattle.kilim_program.specs.declared.class.Form.TheVariants.{Plain}
use Rattle.kilim_program.specs.Keeps.{Keeps, names_differ}
use Rattle.kilim_program.specs.Program.{Program}
use Rattle.kilim_program.specs.Same.{all_differ}
use Rattle.kilim_class_file.specs.declared.class_file.ClassFile.{ClassFile}
use Rattle.kilim_link_spec.specs.LinksWell.{LinksWell}
use Rattle.kilim_stages.specs.ProgramOf.{IsProgramOf}
use Rattle.kilim_stages.proofs.Both.{all_fit, as_many}
use Rattle.kilim_weave_file_command.specs.declared.woven_files.made.WovenFile.{WovenFile}
use Rattle.kilim_weave_file_command.specs.woven_files.Laws.{HaveOwnPaths, OwnPaths}
use Rattle.kilim_weave_file_command.specs.woven_files.WovenFiles.{AreOutputs, path_of, utf16_of}

abbrev same_name : Class → Class → Bool
same_name a b = bytes_eq a.name b.name

both : (b : Bool) → b ≡ true → b ≡ false → ⊥
both b t f = cc

-- the names of files with one path
same_texts : (to a b : List ℕ) → path_of to a ≡ path_of to b → a ≡ b
same_texts to a b e = append_cancel_right a b (codes ".class") (append_cancel_left (codes "/") (a ++ codes ".class") (b ++ codes ".class") (append_cancel_left to (codes "/" ++ (a ++ codes ".class")) (codes "/" ++ (b ++ codes ".class")) e))

module _ (p : Program) (to : List ℕ) where
  apart : (c : Class) (o : WovenFile) → utf16_of (string_bytes o.name) ≡ c.name → (d : Class) (q : WovenFile) → utf16_of (string_bytes q.name) ≡ d.name → same_name c d ≡ false → path_of to (string_bytes o.name) ≢ path_of to (string_bytes q.name)
  apart c o is d q is_too differ = λ e.
      both (same_name c d) (same_text c.name d.name (sym is ∙ (ap utf16_of (same_texts to (string_bytes o.name) (string_bytes q.name) e) ∙ is_too))) differ

  none_same : (c : Class) (o : WovenFile) → utf16_of (string_bytes o.name) ≡ c.name → (ds : List Class) (fs : List ClassFile) (qs : List WovenFile) → list_any (same_name c) ds ≡ false → AreOutputs p ds fs qs →
      AllByRecursion (λ (other : WovenFile). path_of to (string_bytes o.name) ≢ path_of to (string_bytes other.name)) qs
  none_same c o is ds [] [] none are = tt
  none_same c o is (d ∷ ds) (f ∷ fs) (q ∷ qs) none are =
      let s = or_parts (same_name c d) (list_any (same_name c) ds) none in
      (apart c o is d q are.0.name s.0, none_same c o is ds fs qs s.1 are.1)
  none_same c o is [] (f ∷ fs) (q ∷ qs) none are = absurd are
  none_same c o is [] [] (q ∷ qs) none are = absurd are
  none_same c o is (d ∷ ds) [] (q ∷ qs) none are = absurd are
  none_same c o is [] (f ∷ fs) [] none are = absurd are
  none_same c o is (d ∷ ds) (f ∷ fs) [] none are = absurd are

  all_apart : (cs : List Class) (fs : List ClassFile) (os : List WovenFile) → all_differ same_name cs ≡ true → AreOutputs p cs fs os → HaveOwnPaths to os
  all_apart cs [] [] differ are = tt
  all_apart (c ∷ cs) (f ∷ fs) (o ∷ os) differ are =
      let s = and_parts (not (list_any (same_name c) cs)) (all_differ same_name cs) differ in
      (none_same c o are.0.name cs fs os (not-true _ s.0) are.1, all_apart cs fs os s.1 are.1)
  all_apart [] (f ∷ fs) (o ∷ os) differ are = absurd are
  all_apart [] [] (o ∷ os) differ are = absurd are
  all_apart (c ∷ cs) [] (o ∷ os) differ are = absurd are
  all_apart [] (f ∷ fs) [] differ are = absurd are
  all_apart (c ∷ cs) (f ∷ fs) [] differ are = absurd are

pub links_well : (files : List (List ℕ)) (p : Program) → length files ≤ 1000 → (is : IsProgramOf files p) → LinksWell is.classes Plain p
links_well files p few is = record {
  few = subst (λ (n : ℕ). n ≤ 1000) (sym (as_many files is.classes is.are_files)) few;
  fit = all_fit files is.classes is.are_files;
  none = is.none;
  linked = is.linked;
}

differ_in : (p : Program) → Keeps p → all_differ same_name p.classes ≡ true
unfolding names_differ
differ_in p keeps = (and_parts (all_differ same_name p.classes) _ keeps.names).0

pub own_paths : LinksKeep → OwnPaths
own_paths law files outputs to few is =
    let keeps = law is.accepted.of_files.classes Plain is.program (links_well files is.program few is.accepted.of_files) in
    all_apart is.program to is.program.classes _ outputs (differ_in is.program keeps) is.are_outputs
