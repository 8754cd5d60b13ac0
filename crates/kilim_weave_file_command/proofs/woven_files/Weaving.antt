-- The class files of a program, woven one after the other.
use Rattle.std.proofs.Common.{◌≡◌, ℕ, zero, suc, ◌+◌, ◌≤◌, List, [], ◌∷◌, ◌++◌, length, take, drop, slice_get, Bool, Option, Some, None, Result, Ok, Err, refl, sym, ap, subst, ◌∙◌, arith}
use Rattle.std.proofs.lemmas.List.{append_assoc, append-nil}
use Rattle.std.specs.Prelude.{IfOk}
use Rattle.std.specs.List.{AllByRecursion}
use Rattle.std.proofs.lemmas.Option.{none-some, same_Some}
use Rattle.kilim_program.specs.declared.class.Class.{Class}
use Rattle.kilim_program.specs.declared.class.Method.{Method}
use Rattle.kilim_program.specs.Program.{Program}
use Rattle.kilim_class_file.specs.declared.class_file.ClassFile.{ClassFile}
use Rattle.kilim_stages.specs.declared.refusal.Refusal.{Refusal}
use Rattle.kilim_stages.specs.Parts.{IfReport}
use Rattle.kilim_stages.proofs.Parts.{reported as told}
use Rattle.kilim_weave_file.specs.declared.fault.ApplyFault.{ApplyFault}
use Rattle.kilim_weave_file_spec.specs.WovenFile.{pairs_of, woven_file}
use Rattle.kilim_weave_file_command.specs.woven_files.Parts.{IsRefusedFor, IsSizeReportIn}
use Rattle.kilim_weave_file_command.specs.woven_files.Sizes.{first_fault_in, first_size_fault, or_later, size_fault}
use Rattle.kilim_weave_file_command.specs.woven_files.WovenFiles.{woven_by}
use Rattle.kilim_weave_file_command.proofs.woven_files.Sizes.{fault_take, pairs_take}

-- ---- lists

pub drop_end : {A : Type 0} (xs : List A) (i : ℕ) → length xs ≤ i → drop i xs ≡ []
drop_end [] zero le = refl
drop_end [] (suc i) le = refl
drop_end (x ∷ xs) zero le = absurd (omega (arith, le))
drop_end (x ∷ xs) (suc i) le = drop_end xs i (omega (arith, le))

next : (i : ℕ) → suc i ≡ i + 1
next i = omega arith

drop_behind : {A : Type 0} (xs : List A) (i : ℕ) (x : A) → slice_get xs i ≡ Some x → drop i xs ≡ x ∷ drop (suc i) xs
drop_behind [] i x e = absurd (none-some x e)
drop_behind {A} (y ∷ xs) zero x e = ap (λ (z : A). z ∷ xs) (same_Some y x e)
drop_behind (y ∷ xs) (suc i) x e = drop_behind xs i x e

pub drop_there : {A : Type 0} (xs : List A) (i : ℕ) (x : A) → slice_get xs i ≡ Some x → drop i xs ≡ x ∷ drop (i + 1) xs
drop_there {A} xs i x e = drop_behind xs i x e ∙ ap (λ (n : ℕ). x ∷ drop n xs) (next i)

module _ {A : Type 0} (P : A → Type 0) where
  one_more_of : (xs : List A) (x : A) → AllByRecursion P xs → P x → AllByRecursion P (xs ++ x ∷ [])
  one_more_of [] x all here = (here, tt)
  one_more_of (y ∷ xs) x all here = (all.0, one_more_of xs x all.1 here)

  pub one_more : (xs ys : List A) (x : A) → ys ≡ xs ++ x ∷ [] → AllByRecursion P xs → P x → AllByRecursion P ys
  one_more xs ys x is all here = subst (AllByRecursion P) (sym is) (one_more_of xs x all here)

  pub all_there : (xs : List A) (i : ℕ) (x : A) → AllByRecursion P xs → slice_get xs i ≡ Some x → P x
  all_there [] i x all e = absurd (none-some x e)
  all_there (y ∷ xs) zero x all e = subst P (same_Some y x e) all.0
  all_there (y ∷ xs) (suc i) x all e = all_there xs i x all.1 e

-- ---- one class file, with its class and the methods that are left

module _ (p w : Program) (files : List ClassFile) (i : ℕ) (file : ClassFile) (class : Class) (there : slice_get files i ≡ Some file) (class_there : slice_get p.classes i ≡ Some class) (n : ℕ) (n_is : n ≡ length file.methods) (ps : List Method) where
  first_is : (o : Option ApplyFault) → size_fault p file ps ≡ o → first_fault_in p (drop i p.classes) (drop i files) ps ≡ or_later class.name o (first_fault_in p (drop (i + 1) p.classes) (drop (i + 1) files) (drop n ps))
  first_is o is =
      ap (λ (cs : List Class). first_fault_in p cs (drop i files) ps) (drop_there p.classes i class class_there)
      ∙ (ap (λ (fs : List ClassFile). first_fault_in p (class ∷ drop (i + 1) p.classes) fs ps) (drop_there files i file there)
      ∙ (ap (λ (f : Option ApplyFault). or_later class.name f (first_fault_in p (drop (i + 1) p.classes) (drop (i + 1) files) (drop (length file.methods) ps))) is
      ∙ ap (λ (k : ℕ). or_later class.name o (first_fault_in p (drop (i + 1) p.classes) (drop (i + 1) files) (drop k ps))) (sym n_is)))

  pub faultless : (later : List Method) → later ≡ drop n ps → size_fault p file ps ≡ None → first_fault_in p (drop i p.classes) (drop i files) ps ≡ first_size_fault p files → first_fault_in p (drop (i + 1) p.classes) (drop (i + 1) files) later ≡ first_size_fault p files
  faultless later is none so_far = ap (λ (ms : List Method). first_fault_in p (drop (i + 1) p.classes) (drop (i + 1) files) ms) is ∙ (sym (first_is None none) ∙ so_far)

  pub reported : (text : List ℕ) → IsRefusedFor p file class.name ps text → first_fault_in p (drop i p.classes) (drop i files) ps ≡ first_size_fault p files → IsSizeReportIn p files text
  reported text r so_far = record { class = class.name; fault = r.fault; first = sym so_far ∙ first_is (Some r.fault) r.is_fault; is_text = r.is_text }

  module _ (ms : List Method) (cs : List (List Bool)) where
    one_is : (one : ClassFile) → one ≡ woven_file w file (pairs_of file.methods ps ms cs) → one ∷ woven_by w (drop (i + 1) files) (drop n ps) (drop n ms) (drop n cs) ≡ woven_by w (drop i files) ps ms cs
    one_is one is =
        ap (λ (f : ClassFile). f ∷ woven_by w (drop (i + 1) files) (drop n ps) (drop n ms) (drop n cs)) is
        ∙ (ap (λ (k : ℕ). woven_file w file (pairs_of file.methods ps ms cs) ∷ woven_by w (drop (i + 1) files) (drop k ps) (drop k ms) (drop k cs)) n_is
        ∙ ap (λ (fs : List ClassFile). woven_by w fs ps ms cs) (sym (drop_there files i file there)))

    pub woven_more : (made new all : List ClassFile) (one : ClassFile) (lps lms : List Method) (lcs : List (List Bool)) → lps ≡ drop n ps → lms ≡ drop n ms → lcs ≡ drop n cs → new ≡ made ++ one ∷ [] →
        one ≡ woven_file w file (pairs_of file.methods ps ms cs) → made ++ woven_by w (drop i files) ps ms cs ≡ all → new ++ woven_by w (drop (i + 1) files) lps lms lcs ≡ all
    woven_more made new all one lps lms lcs a b c pushed is so_far =
        ap (λ (xs : List ClassFile). xs ++ woven_by w (drop (i + 1) files) lps lms lcs) pushed
        ∙ (append_assoc made (one ∷ []) (woven_by w (drop (i + 1) files) lps lms lcs)
        ∙ (ap (λ (x : List Method). made ++ one ∷ woven_by w (drop (i + 1) files) x lms lcs) a
        ∙ (ap (λ (x : List Method). made ++ one ∷ woven_by w (drop (i + 1) files) (drop n ps) x lcs) b
        ∙ (ap (λ (x : List (List Bool)). made ++ one ∷ woven_by w (drop (i + 1) files) (drop n ps) (drop n ms) x) c
        ∙ (ap (λ (xs : List ClassFile). made ++ xs) (one_is one is) ∙ so_far)))))

-- ---- the end

ended : (p : Program) (classes : List Class) (ps : List Method) → first_fault_in p classes [] ps ≡ None
ended p [] ps = refl
ended p (c ∷ cs) ps = refl

pub none_refused : (p : Program) (files : List ClassFile) (i : ℕ) (classes : List Class) (ps : List Method) → length files ≤ i → first_fault_in p classes (drop i files) ps ≡ first_size_fault p files → first_size_fault p files ≡ None
none_refused p files i classes ps le so_far = sym so_far ∙ (ap (λ (fs : List ClassFile). first_fault_in p classes fs ps) (drop_end files i le) ∙ ended p classes ps)

-- ---- the methods of one class file, of those that are left

module _ (p w : Program) (file : ClassFile) (n : ℕ) (ps qs ms ns : List Method) (cs ds : List (List Bool)) (n_is : n ≡ length file.methods) (qs_are : qs ≡ take n ps) where
  own_plains : qs ≡ take (length file.methods) ps
  own_plains = qs_are ∙ ap (λ (k : ℕ). take k ps) n_is

  own_fault : size_fault p file qs ≡ size_fault p file ps
  own_fault = ap (size_fault p file) own_plains ∙ fault_take p file ps

  pub made_of : ns ≡ take n ms → ds ≡ take n cs → (r : Result ClassFile Refusal) → IfOk r (λ f. f ≡ woven_file w file (pairs_of file.methods qs ns ds)) → IfOk r (λ f. f ≡ woven_file w file (pairs_of file.methods ps ms cs))
  made_of ns_are ds_are (Err e) is = tt
  made_of ns_are ds_are (Ok f) is =
      is
      ∙ ap (woven_file w file)
      (ap (λ (x : List Method). pairs_of file.methods x ns ds) own_plains
      ∙ (ap (λ (x : List Method). pairs_of file.methods (take (length file.methods) ps) x ds) (ns_are ∙ ap (λ (k : ℕ). take k ms) n_is)
      ∙ (ap (λ (x : List (List Bool)). pairs_of file.methods (take (length file.methods) ps) (take (length file.methods) ms) x) (ds_are ∙ ap (λ (k : ℕ). take k cs) n_is)
      ∙ pairs_take file.methods ps ms cs)))

  pub none_of : (r : Result ClassFile Refusal) → IfOk r (λ f. size_fault p file qs ≡ None) → IfOk r (λ f. size_fault p file ps ≡ None)
  none_of (Err e) none = tt
  none_of (Ok f) none = sym own_fault ∙ none

  pub report_of : (name : List ℕ) (r : Result ClassFile Refusal) → IfReport r (IsRefusedFor p file name qs) → IfReport r (IsRefusedFor p file name ps)
  report_of name r said = told r (λ text x. record { fault = x.fault; is_fault = sym own_fault ∙ x.is_fault; is_text = x.is_text }) said
