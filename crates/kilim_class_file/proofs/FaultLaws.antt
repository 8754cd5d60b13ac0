-- What each fault of reading a class file says of its bytes.
use Rattle.std.proofs.Common.{◌≡◌, ◌≢◌, ◌⊎◌, ℕ, ◌-◌, ◌<◌, ◌≤◌, Bool, true, false, cond, ltb, List, [], ◌∷◌, ◌++◌, length, Result, Ok, Err, refl, sym, ap, subst, ◌∙◌, arith, inl, inr}
use Rattle.std.specs.Prelude.{IfErr}
use Rattle.std.proofs.lemmas.Bool.{ltb-true, ltb-false, lt-ltb, le-ltb, cases_lt}
use Rattle.std.proofs.lemmas.List.{length-append, append-nil}
use Rattle.kilim_class_grammar.specs.Reader.{◌>>=◌, checked, is_empty, ReadsUnless}
use Rattle.kilim_class_grammar.specs.Format.{IsBytes, Format}
use Rattle.kilim_class_grammar.specs.Fronts.{Stays, StaysRead, Faults, FaultsOf}
use Rattle.kilim_class_grammar.proofs.Formats.{well, well_is}
use Rattle.kilim_class_grammar.proofs.Fronts.{front_is_cut, faulty, fault_is}
use Rattle.kilim_class_pool.specs.Fronts.{PoolStays}
use Rattle.kilim_class_attributes.specs.Fronts.{AttributesStay}
use Rattle.kilim_class_file.specs.declared.class_file.ClassFile.{ClassFile}
use Rattle.kilim_class_file.specs.declared.fault.ClassFault.{ClassFault}
use Rattle.kilim_class_file.specs.declared.fault.ClassFault.TheVariants as fault
use Rattle.kilim_class_file.specs.Text.{class_text, PartsFit, ClassFits, size_limit}
use Rattle.kilim_class_file.specs.Reading.{class_at, ended, read_class}
use Rattle.kilim_class_file.specs.Law.{PartsAreSpelled}
use Rattle.kilim_class_file.specs.Faults.{IsOfPart, HasExtra, Says, FaultsAreTrue}
use Rattle.kilim_class_file.proofs.Fronts.{IsCut, class_stays, class_is}

abbrev Read : Type 0
Read = Result (ClassFile × List ℕ) ClassFault

-- ---- what the parts answer, and what is answered of all of the bytes: there may be too many

abbrev if_large : Bool → Result ClassFile ClassFault → Result ClassFile ClassFault
if_large large r = cond large (Err fault.TooLarge) r

says_of_part : (bytes : List ℕ) (found : ClassFault) → IsOfPart (length bytes) found → Says bytes found
unfolding Says
says_of_part bytes fault.Magic h = h
says_of_part bytes (fault.Version major minor) h = h
says_of_part bytes (fault.Pool held) h = h
says_of_part bytes (fault.Attribute held) h = h
says_of_part bytes (fault.Extra at) h = absurd h
says_of_part bytes (fault.Cut at) h = h
says_of_part bytes fault.TooLarge h = absurd h
says_of_part bytes (fault.CodePresence method) h = h
says_of_part bytes fault.Memory h = h

is_some : (rest : List ℕ) → is_empty rest ≡ false → rest ≢ []
is_some [] e = absurd cc
is_some (b ∷ rest) e = λ h. cc

not_empty : (rest : List ℕ) → rest ≢ [] → is_empty rest ≡ false
not_empty [] some = absurd (some refl)
not_empty (b ∷ rest) some = refl

failed_is : (e f : ClassFault) → faulty {A = ClassFile} e ≡ faulty f → e ≡ f
failed_is e f h = fault_is {A = ClassFile} e f h

module _ (spelled : PartsAreSpelled) where
  -- ---- what a fault says

  extra_of : (bytes : List ℕ) (x : ClassFile × List ℕ) → IsBytes bytes → class_at (length bytes) bytes ≡ Ok x → is_empty x.1 ≡ false → HasExtra bytes (length bytes - length x.1)
  extra_of bytes x fits read left =
      let t = (spelled (length bytes)).takes bytes x.0 x.1 fits read in
      let len = ap length t.0.parts in
      let sum = length-append (class_text x.0) x.1 in
      record { file = x.0; rest = x.1; fits = t.1; parts = t.0.parts; some = is_some x.1 left; place = omega arith }

  said_behind : (bytes : List ℕ) (x : ClassFile × List ℕ) (empty : Bool) (found : ClassFault) → (empty ≡ false → HasExtra bytes (length bytes - length x.1)) → checked empty (fault.Extra (length bytes - length x.1)) (Ok x.0) ≡ Err found → Says bytes found
  unfolding Says
  said_behind bytes x true found extra e = absurd (let h : well {F = ClassFault} x.0 ≡ Err found = e in cc)
  said_behind bytes x false found extra e = subst (Says bytes) (failed_is (fault.Extra (length bytes - length x.1)) found e) (extra refl)

  said_by : (bytes : List ℕ) (found : ClassFault) (r : Read) → IsBytes bytes → class_at (length bytes) bytes ≡ r → Faults (IsOfPart (length bytes)) r → (r >>= ended bytes) ≡ Err found → Says bytes found
  said_by bytes found (Ok x) fits read h e = said_behind bytes x (is_empty x.1) found (λ left. extra_of bytes x fits read left) e
  said_by bytes found (Err fault) fits read h e = subst (Says bytes) (failed_is fault found e) (says_of_part bytes fault h)

  said : (bytes : List ℕ) (found : ClassFault) (large : Bool) → ltb size_limit (length bytes) ≡ large → IsBytes bytes → if_large large (class_at (length bytes) bytes >>= ended bytes) ≡ Err found → Says bytes found
  unfolding Says
  said bytes found true big fits e = subst (Says bytes) (failed_is fault.TooLarge found e) (ltb-true size_limit (length bytes) big)
  said bytes found false big fits e = said_by bytes found (class_at (length bytes) bytes) fits refl (class_is (length bytes) bytes) e

  says : (bytes : List ℕ) (found : ClassFault) → IsBytes bytes → read_class bytes ≡ Err found → Says bytes found
  unfolding read_class
  says bytes found fits e = said bytes found (ltb size_limit (length bytes)) refl fits e

  -- ---- what comes to a fault

  large : (bytes : List ℕ) → (size_limit < length bytes) → read_class bytes ≡ Err fault.TooLarge
  unfolding read_class
  large bytes lt = rw (lt-ltb size_limit (length bytes) lt) refl

  beyond : (bytes : List ℕ) (at : ℕ) → length bytes ≤ size_limit → HasExtra bytes at → read_class bytes ≡ Err (fault.Extra at)
  unfolding read_class
  beyond bytes at le h =
      let read : class_at (length bytes) bytes ≡ Ok (h.file, h.rest) = ap (class_at (length bytes)) h.parts ∙ (spelled (length bytes)).again h.file h.rest h.fits in
      let len = ap length h.parts in
      let sum = length-append (class_text h.file) h.rest in
      let place : length bytes - length h.rest ≡ at = omega (arith, h.place) in
      rw (le-ltb size_limit (length bytes) le, read, not_empty h.rest h.some) (ap (λ (n : ℕ). Err (fault.Extra n)) place)

  module _ (pool_stays : PoolStays) (attributes_stay : AttributesStay) where
    fronts : (file : ClassFile) (front more : List ℕ) → ClassFits file → class_text file ≡ front ++ more → more ≢ [] → read_class front ≡ Err (fault.Cut (length front))
    unfolding read_class
    fronts file front more fits e some =
        let all = length (front ++ more) in
        let sum = length-append front more in
        let same = ap length e in
        let read : class_at all (front ++ more) ≡ Ok (file, []) = ap (class_at all) (sym e ∙ sym (append-nil (class_text file))) ∙ (spelled all).again file [] fits.parts in
        let f = front_is_cut (IsCut (length front) all) more some file (class_at (length front) front) (class_at all (front ++ more)) (class_stays (length front) all pool_stays attributes_stay front more) read in
        rw (le-ltb size_limit (length front) (omega (arith, fits.size)), f.1) (ap (λ fault. Err fault) f.2)

    abbrev Broken : List ℕ → List ℕ → ClassFault → Type 0
    Broken bytes more found = (found ≡ fault.Cut (length bytes)) ⊎ (((at : ℕ) × (found ≡ fault.Extra at)) ⊎ (read_class (bytes ++ more) ≡ Err found))

    broken_behind : (bytes more : List ℕ) (x : ClassFile × List ℕ) (empty : Bool) (found : ClassFault) → checked empty (fault.Extra (length bytes - length x.1)) (Ok x.0) ≡ Err found → Broken bytes more found
    broken_behind bytes more x true found e = absurd (let h : well {F = ClassFault} x.0 ≡ Err found = e in cc)
    broken_behind bytes more x false found e = inr (inl (length bytes - length x.1, sym (failed_is (fault.Extra (length bytes - length x.1)) found e)))

    longer_is : (bytes : List ℕ) (found : ClassFault) → length bytes ≤ size_limit → class_at (length bytes) bytes ≡ Err found → read_class bytes ≡ Err found
    unfolding read_class
    longer_is bytes found le e = rw (le-ltb size_limit (length bytes) le, e) refl

    broken_by : (bytes more : List ℕ) (found : ClassFault) (r : Read) → length (bytes ++ more) ≤ size_limit → Stays (IsCut (length bytes) (length (bytes ++ more))) more r (class_at (length (bytes ++ more)) (bytes ++ more)) → (r >>= ended bytes) ≡ Err found → Broken bytes more found
    broken_by bytes more found (Ok x) le h e = broken_behind bytes more x (is_empty x.1) found e
    broken_by bytes more found (Err fault) le (inl cut) e = inl (sym (failed_is fault found e) ∙ cut)
    broken_by bytes more found (Err fault) le (inr h) e = inr (inr (longer_is (bytes ++ more) fault le h ∙ e))

    small_read : (bytes : List ℕ) → length bytes ≤ size_limit → read_class bytes ≡ (class_at (length bytes) bytes >>= ended bytes)
    unfolding read_class
    small_read bytes le = rw (le-ltb size_limit (length bytes) le) refl

    broken : (bytes more : List ℕ) (found : ClassFault) → length (bytes ++ more) ≤ size_limit → read_class bytes ≡ Err found → Broken bytes more found
    broken bytes more found le e =
        let sum = length-append bytes more in
        broken_by bytes more found (class_at (length bytes) bytes) le (class_stays (length bytes) (length (bytes ++ more)) pool_stays attributes_stay bytes more) (sym (small_read bytes (omega arith)) ∙ e)

    pub faults_are_true : FaultsAreTrue
    faults_are_true = record { says = says; large = large; beyond = beyond; fronts = fronts; broken = broken }

-- ---- what a call answers that reads so

module _ (law : FaultsAreTrue) (bytes : List ℕ) where
  pub told : (r : Result ClassFile ClassFault) → IsBytes bytes → ReadsUnless fault.Memory (λ file. file) r (read_class bytes) → IfErr r (Says bytes)
  unfolding Says
  told (Ok file) fits read = tt
  told (Err found) fits (inl m) = subst (Says bytes) (sym m) tt
  told (Err found) fits (inr e) = law.says bytes found fits e
