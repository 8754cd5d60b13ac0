-- All of the bytes are a class file.
use Rattle.std.proofs.Common.{◌≡◌, ℕ, ◌-◌, ◌<◌, ◌≤◌, Bool, true, false, cond, ltb, List, [], ◌∷◌, ◌++◌, length, Result, Ok, Err, refl, sym, ap, subst, ◌∙◌, arith, inl, inr}
use Rattle.std.specs.Prelude.{IfOk, MatchResult}
use Rattle.std.proofs.lemmas.Bool.{ltb-false, le-ltb}
use Rattle.std.proofs.lemmas.List.{append-nil}
use Rattle.kilim_class_grammar.specs.Reader.{◌>>=◌, checked, is_empty, ReadsUnless}
use Rattle.kilim_class_grammar.specs.Format.{IsBytes}
use Rattle.kilim_class_grammar.proofs.Formats.{Format, well, well_is, bind_ok, checked_ok, no_more}
use Rattle.kilim_class_pool.specs.declared.entry.Entry.{Entry}
use Rattle.kilim_class_pool.specs.Spelling.{pool_text, PoolFits}
use Rattle.kilim_class_pool.specs.Reading.{pool_at}
use Rattle.kilim_class_attributes.specs.declared.attribute.Place.{Place}
use Rattle.kilim_class_attributes.specs.Attributes.{attributes_text, AttributesFit, attributes_at}
use Rattle.kilim_class_file.specs.declared.class_file.ClassFile.{ClassFile}
use Rattle.kilim_class_file.specs.declared.fault.ClassFault.{ClassFault}
use Rattle.kilim_class_file.specs.declared.fault.ClassFault.TheVariants as fault
use Rattle.kilim_class_file.specs.Text.{class_text, PartsFit, ClassFits, size_limit}
use Rattle.kilim_class_file.specs.Reading.{class_at, ended, read_class}
use Rattle.kilim_class_file.specs.Law.{ClassFilesAreSpelled}
use Rattle.kilim_class_file.proofs.ClassFormat.{a_class}

abbrev failed : ClassFault → Result ClassFile ClassFault
failed e = Err e

no_file : (e : ClassFault) (file : ClassFile) → failed e ≡ well file → ⊥
no_file e file p = cc

small_enough : (b : Bool) (r : Result ClassFile ClassFault) (file : ClassFile) → cond b (Err fault.TooLarge) r ≡ Ok file → (b ≡ false) × (r ≡ Ok file)
small_enough true r file e = absurd cc
small_enough false r file e = (refl, e)

module _ (pools : Format pool_text pool_at PoolFits) (lists : (pool : List Entry) (at : Place) → Format attributes_text (attributes_at pool at) (AttributesFit pool at)) where
  takes : (bytes : List ℕ) (file : ClassFile) → IsBytes bytes → read_class bytes ≡ Ok file → (bytes ≡ class_text file) × ClassFits file
  unfolding read_class
  takes bytes file fits e =
      let g = small_enough (ltb size_limit (length bytes)) (class_at (length bytes) bytes >>= ended bytes) file e in
      let a = bind_ok (class_at (length bytes) bytes) (ended bytes) file g.1 in
      let h = checked_ok (is_empty a.0.1) (fault.Extra (length bytes - length a.0.1)) (Ok a.0.0) file a.2 in
      let t = (a_class pools lists (length bytes)).takes bytes a.0.0 a.0.1 fits a.1 in
      let nothing : a.0.1 ≡ [] = no_more a.0.1 h.0 in
      let whole : bytes ≡ class_text a.0.0 = t.0.parts ∙ (ap (λ (r : List ℕ). class_text a.0.0 ++ r) nothing ∙ append-nil (class_text a.0.0)) in
      let small : length (class_text a.0.0) ≤ size_limit = subst (λ (k : List ℕ). length k ≤ size_limit) whole (ltb-false size_limit (length bytes) g.0) in
      let has_text : ClassFits a.0.0 = record { parts = t.1; size = small } in
      subst (λ (f : ClassFile). (bytes ≡ class_text f) × ClassFits f) (well_is {F = ClassFault} a.0.0 file h.1) (whole, has_text)

  again : (file : ClassFile) → ClassFits file → read_class (class_text file) ≡ Ok file
  unfolding read_class
  again file fits =
      let bytes = class_text file in
      let e : class_at (length bytes) bytes ≡ Ok (file, []) = ap (class_at (length bytes)) (sym (append-nil bytes)) ∙ (a_class pools lists (length bytes)).again file [] fits.parts in
      rw (le-ltb size_limit (length bytes) fits.size, e) refl

  pub are_spelled : ClassFilesAreSpelled
  are_spelled = record { takes = takes; again = again }

-- ---- what a call answers that reads so

module _ (law : ClassFilesAreSpelled) (bytes : List ℕ) where
  pub found : (r : Result ClassFile ClassFault) → IsBytes bytes → ReadsUnless fault.Memory (λ file. file) r (read_class bytes) → IfOk r (λ file. (bytes ≡ class_text file) × ClassFits file)
  found (Ok file) fits read = law.takes bytes file fits read
  found (Err e) fits read = tt

  pub only : (r : Result ClassFile ClassFault) (file : ClassFile) → ReadsUnless fault.Memory (λ file. file) r (read_class bytes) → ClassFits file → bytes ≡ class_text file → MatchResult r (λ read. read ≡ file) (λ e. e ≡ fault.Memory)
  only (Ok read) file is fits e = well_is {F = ClassFault} read file (sym is ∙ (ap read_class e ∙ law.again file fits))
  only (Err d) file (inl m) fits e = m
  only (Err d) file (inr f) fits e = absurd (no_file d file (sym f ∙ (ap read_class e ∙ law.again file fits)))
