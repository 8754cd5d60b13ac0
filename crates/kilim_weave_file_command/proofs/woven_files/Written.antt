-- The files that are written.
use Rattle.std.proofs.Common.{◌≡◌, ℕ, zero, suc, Bool, ◌+◌, ◌≤◌, List, [], ◌∷◌, ◌++◌, length, map, take, drop, slice_get, Some, None, Result, Ok, refl, sym, ap, subst, ◌∙◌, arith}
use Rattle.std.specs.List.{AllByRecursion}
use Rattle.std.proofs.lemmas.Option.{none-some, same_Some}
use Rattle.kilim_program.specs.declared.class.Class.{Class}
use Rattle.kilim_program.specs.declared.class.Form.TheVariants.{Woven}
use Rattle.kilim_program.specs.declared.class.Method.{Method}
use Rattle.kilim_program.specs.Program.{Program}
use Rattle.kilim_class_file.specs.declared.class_file.ClassFile.{ClassFile}
use Rattle.kilim_class_file.specs.Text.{ClassFits}
use Rattle.kilim_link_spec.specs.declared.fault.LinkFault.{LinkFault}
use Rattle.kilim_stages.specs.ProgramOf.{AreFiles}
use Rattle.kilim_link.specs.Linking.{IsLinkOf}
use Rattle.kilim_weave_file_command.specs.declared.woven_files.made.WovenFile.{WovenFile}
use Rattle.kilim_weave_file_command.specs.woven_files.Parts.{LinksBack}
use Rattle.kilim_weave_file_command.specs.woven_files.WovenFiles.{AreOutputs, IsOutput, IsWovenProgramOf, woven_by}

next : (i : ℕ) → suc i ≡ i + 1
next i = omega arith

-- ---- one file more

module _ (p : Program) where
  more : (cs : List Class) (class : Class) (files : List ClassFile) (os : List WovenFile) (i : ℕ) (f : ClassFile) (o : WovenFile) → slice_get files i ≡ Some f → slice_get cs i ≡ Some class → AreOutputs p cs (take i files) os → IsOutput p class f o →
      AreOutputs p cs (take (suc i) files) (os ++ o ∷ [])
  more cs class [] os i f o there class_there are is = absurd (none-some f there)
  more [] class (g ∷ files) os i f o there class_there are is = absurd (none-some class class_there)
  more (c ∷ cs) class (g ∷ files) [] zero f o there class_there are is =
      (subst (λ (x : ClassFile). IsOutput p c x o) (sym (same_Some g f there)) (subst (λ (k : Class). IsOutput p k f o) (sym (same_Some c class class_there)) is), tt)
  more (c ∷ cs) class (g ∷ files) (q ∷ os) zero f o there class_there are is = absurd are
  more (c ∷ cs) class (g ∷ files) [] (suc i) f o there class_there are is = absurd are
  more (c ∷ cs) class (g ∷ files) (q ∷ os) (suc i) f o there class_there are is = (are.0, more cs class files os i f o there class_there are.1 is)

  pub outputs_more : (cs : List Class) (class : Class) (files : List ClassFile) (os new : List WovenFile) (i : ℕ) (f : ClassFile) (o : WovenFile) → slice_get files i ≡ Some f → slice_get cs i ≡ Some class → new ≡ os ++ o ∷ [] → IsOutput p class f o →
      AreOutputs p cs (take i files) os → AreOutputs p cs (take (i + 1) files) new
  outputs_more cs class files os new i f o there class_there pushed is are =
      subst (λ (n : ℕ). AreOutputs p cs (take n files) new) (next i)
      (subst (λ (ws : List WovenFile). AreOutputs p cs (take (suc i) files) ws) (sym pushed) (more cs class files os i f o there class_there are is))

  -- ---- what they link to

  are_files : (cs : List Class) (files : List ClassFile) (os : List WovenFile) → AreOutputs p cs files os → AllByRecursion ClassFits files → AreFiles (map (λ (o : WovenFile). o.bytes) os) files
  are_files cs [] [] are fit = tt
  are_files (c ∷ cs) (f ∷ files) (o ∷ os) are fit = (record { fits = fit.0; spelled = are.0.bytes }, are_files cs files os are.1 fit.1)
  are_files [] (f ∷ files) (o ∷ os) are fit = absurd are
  are_files [] [] (o ∷ os) are fit = absurd are
  are_files (c ∷ cs) [] (o ∷ os) are fit = absurd are
  are_files [] (f ∷ files) [] are fit = absurd are
  are_files (c ∷ cs) (f ∷ files) [] are fit = absurd are

  pub links_to : (w : Program) (cs : List Class) (files : List ClassFile) (os : List WovenFile) → AreOutputs p cs files os → AllByRecursion ClassFits files → LinksBack files w → IsWovenProgramOf (map (λ (o : WovenFile). o.bytes) os) w
  links_to w cs files os are fit back = record { classes = files; are_files = are_files cs files os are fit; none = back.none; linked = back.linked }

-- as many as there were
pub woven_length : (w : Program) (files : List ClassFile) (ps ms : List Method) (cs : List (List Bool)) → length (woven_by w files ps ms cs) ≡ length files
woven_length w [] ps ms cs = refl
woven_length w (f ∷ files) ps ms cs = ap suc (woven_length w files (drop (length f.methods) ps) (drop (length f.methods) ms) (drop (length f.methods) cs))

pub few_woven : (w : Program) (files made xs : List ClassFile) (ps ms : List Method) (cs : List (List Bool)) → xs ≡ made → made ≡ woven_by w files ps ms cs → length files ≤ 1000 → length xs ≤ 1000
few_woven w files made xs ps ms cs same is few = subst (λ (n : ℕ). n ≤ 1000) (sym (ap length (same ∙ is) ∙ woven_length w files ps ms cs)) few

pub few_classes : (w : Program) (files made xs : List ClassFile) (ps ms : List Method) (cs : List (List Bool)) (classes : List Class) → xs ≡ made → made ≡ woven_by w files ps ms cs → length files ≤ length classes → length xs ≤ length classes
few_classes w files made xs ps ms cs classes same is few = subst (λ (n : ℕ). n ≤ length classes) (sym (ap length (same ∙ is) ∙ woven_length w files ps ms cs)) few

-- ---- what class files link to

links_as_ok : (files : List ClassFile) (p : Program) → IsLinkOf files Woven (Ok p) → LinksBack files p
links_as_ok files p is = record { none = is.1; linked = is.0 }

pub links_as : (files : List ClassFile) (p : Program) (r : Result Program LinkFault) → IsLinkOf files Woven r → r ≡ Ok p → LinksBack files p
links_as files p r is same = links_as_ok files p (subst (IsLinkOf files Woven) same is)
