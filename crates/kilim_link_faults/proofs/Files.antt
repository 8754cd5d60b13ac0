-- The faults of files one by one.
use Rattle.std.proofs.Common.{◌≡◌, ℕ, suc, ◌+◌, ◌<◌, ◌≤◌, ◌^◌, List, ◌++◌, length, get_or, drop, map, Option, Some, None, refl, sym, ap, ◌∙◌, arith}
use Rattle.std.proofs.lemmas.List.{length-append, length-map, at_drop_all}
use Rattle.kilim_lemmas.proofs.Lists.{drop_at}
use Rattle.kilim_class_file.specs.declared.class_file.ClassFile.{ClassFile}
use Rattle.kilim_program.specs.declared.class.Form.{Form}
use Rattle.kilim_program.specs.declared.class.Form.TheVariants.{Plain, Woven}
use Rattle.kilim_program.specs.BuiltIn.{class_id, built_in_classes_in}
use Rattle.kilim_link_spec.specs.World.{World, world_of, view_of_file, view_of_built_in, built_ins}
use Rattle.kilim_link_spec.specs.declared.fault.LinkFault.{LinkFault}
use Rattle.kilim_link_spec.specs.Faults.{faults_in, first_fault, link_faults}
use Rattle.kilim_link_spec.specs.Linked.{first_of}
use Rattle.kilim_link_faults.specs.Parts.{faults_from}
use Rattle.kilim_link_faults.proofs.Firsts.{here, later}

few_built_in : (form : Form) → length (built_in_classes_in form 0 0) ≤ 1000
few_built_in Plain = omega arith
few_built_in Woven = omega arith

pub few_classes : (w : World) (files : List ClassFile) (form : Form) → length files ≤ 1000 → w ≡ world_of files form → length w.classes < 2 ^ 32
unfolding world_of
few_classes w files form few is =
    let built = few_built_in form in
    let one : length w.classes ≡ length (map view_of_file files ++ map (view_of_built_in (built_ins form)) (built_in_classes_in form 0 0)) = ap (λ (v : World). length v.classes) is in
    let two = length-append (map view_of_file files) (map (view_of_built_in (built_ins form)) (built_in_classes_in form 0 0)) in
    let three = length-map files view_of_file in
    let four = length-map (built_in_classes_in form 0 0) (view_of_built_in (built_ins form)) in
    omega arith

pub in_own_form : (w : World) (files : List ClassFile) (form : Form) → w ≡ world_of files form → w ≡ world_of files w.form
unfolding world_of
in_own_form w files form is = is ∙ ap (world_of files) (sym (ap (λ (v : World). v.form) is))

pub starts : (w : World) (files : List ClassFile) (form : Form) → w ≡ world_of files form → first_of (faults_from w 0 files) ≡ first_fault files form
unfolding first_fault link_faults
starts w files form is = ap (λ (v : World). first_of (faults_from v 0 files)) is

module _ (w : World) (files : List ClassFile) (i : ℕ) (f : ClassFile) (r : Option LinkFault) (lt : i < length files) (is : f ≡ get_or files i f) (so_far : first_of (faults_from w i (drop i files)) ≡ r) where
  one : first_of (faults_in w f (class_id i) ++ faults_from w (i + 1) (drop (i + 1) files)) ≡ r
  one =
      let n : suc i ≡ i + 1 = omega arith in
      ap (λ (k : ℕ). first_of (faults_in w f (class_id i) ++ faults_from w k (drop (i + 1) files))) (sym n)
      ∙ (ap (λ fs. first_of (faults_from w i fs)) (sym (drop_at files i f lt is)) ∙ so_far)

  pub stops_at : (x : LinkFault) → Some x ≡ first_of (faults_in w f (class_id i)) → Some x ≡ r
  stops_at x found = here (faults_in w f (class_id i)) (faults_from w (i + 1) (drop (i + 1) files)) x found ∙ one

  pub goes_on : None ≡ first_of (faults_in w f (class_id i)) → first_of (faults_from w (i + 1) (drop (i + 1) files)) ≡ r
  goes_on none = later (faults_in w f (class_id i)) (faults_from w (i + 1) (drop (i + 1) files)) (first_of (faults_from w (i + 1) (drop (i + 1) files))) none refl ∙ one

pub ends : (w : World) (files : List ClassFile) (i : ℕ) (r : Option LinkFault) → length files ≤ i → first_of (faults_from w i (drop i files)) ≡ r → None ≡ r
ends w files i r le so_far = sym (at_drop_all (λ fs. first_of (faults_from w i fs)) files i le) ∙ so_far
