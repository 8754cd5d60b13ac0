-- How many classes and members there are.
use Rattle.std.proofs.Common.{ℕ, suc, ◌*◌, ◌<◌, ◌≤◌, ◌^◌, List, [], ◌∷◌, ◌++◌, length, map, lit≤, arith, length-append}
use Rattle.std.specs.Prelude.{sum_by}
use Rattle.std.specs.List.{AllByRecursion}
use Rattle.std.proofs.lemmas.List.{length-map}
use Rattle.std.proofs.lemmas.List.Sums.{sum_by-cons, sum_by-append}
use Rattle.kilim_class_file.specs.declared.class_file.ClassFile.{ClassFile}
use Rattle.kilim_class_file.specs.Text.{ClassFits}
use Rattle.kilim_program.specs.declared.class.Form.{Form}
use Rattle.kilim_program.specs.declared.class.Form.TheVariants.{Plain, Woven}
use Rattle.kilim_program.specs.BuiltIn.{built_in_classes_in}
use Rattle.kilim_link_spec.specs.declared.view.ClassView.{ClassView}
use Rattle.kilim_link_spec.specs.World.{built_ins, declared_field, declared_method, view_of_built_in, view_of_file}
use Rattle.kilim_link_world.specs.Agrees.{method_count, field_count}

abbrev built_in_list : Form → List ClassView
built_in_list form = map (view_of_built_in (built_ins form)) (built_in_classes_in form 0 0)

module _ (count : ClassView → ℕ) (few : (f : ClassFile) → ClassFits f → count (view_of_file f) ≤ 65536) where
  files_count : (files : List ClassFile) → AllByRecursion ClassFits files → sum_by count (map view_of_file files) ≤ length files * 65536
  files_count [] fits = lit≤ tt
  files_count (f ∷ files) fits =
      let first = few f fits.0 in
      let others = files_count files fits.1 in
      let all = sum_by-cons count (view_of_file f) (map view_of_file files) in
      omega arith

  total_fits : (files : List ClassFile) (more : List ClassView) → length files ≤ 1000 → AllByRecursion ClassFits files → sum_by count more ≤ 100 → suc (sum_by count (map view_of_file files ++ more)) < 2 ^ 32
  total_fits files more le fits small =
      let first = files_count files fits in
      let all = sum_by-append count (map view_of_file files) more in
      omega arith

few_methods : (f : ClassFile) → ClassFits f → method_count (view_of_file f) ≤ 65536
few_methods f fits = let len = length-map f.methods (declared_method f) in let lt = fits.parts.methods.0 in omega arith

few_fields : (f : ClassFile) → ClassFits f → field_count (view_of_file f) ≤ 65536
few_fields f fits = let len = length-map f.fields (declared_field f) in let lt = fits.parts.fields.0 in omega arith

few_built_in : (form : Form) → length (built_in_list form) ≤ 100
few_built_in Plain = lit≤ tt
few_built_in Woven = lit≤ tt

few_built_in_methods : (form : Form) → sum_by method_count (built_in_list form) ≤ 100
few_built_in_methods Plain = lit≤ tt
few_built_in_methods Woven = lit≤ tt

few_built_in_fields : (form : Form) → sum_by field_count (built_in_list form) ≤ 100
few_built_in_fields Plain = lit≤ tt
few_built_in_fields Woven = lit≤ tt

module _ (files : List ClassFile) (form : Form) (le : length files ≤ 1000) (fits : AllByRecursion ClassFits files) where
  pub classes_fit : length (map view_of_file files ++ built_in_list form) < 2 ^ 32
  classes_fit =
      let all = length-append (map view_of_file files) (built_in_list form) in
      let own = length-map files view_of_file in
      let more = few_built_in form in
      omega arith

  pub methods_fit : sum_by method_count (map view_of_file files ++ built_in_list form) < 2 ^ 32
  methods_fit = let less = total_fits method_count few_methods files (built_in_list form) le fits (few_built_in_methods form) in omega arith

  pub fields_fit : suc (sum_by field_count (map view_of_file files ++ built_in_list form)) < 2 ^ 32
  fields_fit = total_fits field_count few_fields files (built_in_list form) le fits (few_built_in_fields form)
