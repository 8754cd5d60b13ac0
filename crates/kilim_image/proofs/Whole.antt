-- All of the bytes are an image.
use Rattle.std.proofs.Common.{◌≡◌, ◌⊎◌, ◌==◌, ℕ, ◌-◌, ◌≤◌, Bool, true, false, cond, List, [], ◌∷◌, ◌++◌, length, take, drop, Result, Ok, Err, refl, sym, ap, subst, ◌∙◌, arith, inl, inr}
use Rattle.std.specs.Prelude.{nat_le, nat_lt}
use Rattle.std.specs.Int.{Width, w8, w16, w32, w64, cast_signed}
use Rattle.std.specs.List.{AllByRecursion}
use Rattle.std.proofs.lemmas.Bool.{le-leb, leb-true}
use Rattle.std.proofs.lemmas.List.{append-nil}
use Rattle.kilim_class_grammar.specs.Reader.{◌>>=◌, both, bytes_at, checked, followed, is_empty, number_at, signed_at}
use Rattle.kilim_class_grammar.specs.Format.{IsBytes}
use Rattle.kilim_class_grammar.specs.Fronts.{Faults, FaultsOf}
use Rattle.kilim_class_grammar.proofs.Formats.{well, well_is, bind_ok, checked_ok, no_more}
use Rattle.kilim_class_grammar.proofs.Fronts.{both_faults, checked_faults, counted_faults, followed_faults, made_faults, number_faults, tested_faults, then_faults}
use Rattle.kilim_run_journal.specs.declared.entry.Entry.{Entry}
use Rattle.kilim_run_journal.specs.Readable.{HasOneJournal, IsReadable, JournalFits}
use Rattle.kilim_run_journal.specs.Text.{journal_text}
use Rattle.kilim_image.specs.declared.image.Run.{Run}
use Rattle.kilim_image.specs.declared.fault.ImageFault.{ImageFault}
use Rattle.kilim_image.specs.declared.fault.ImageFault.TheVariants as fault
use Rattle.kilim_image.specs.Journal.{ImageFits, IsDeed, IsDeedFault, IsImageFault}
use Rattle.kilim_image.specs.Lines.{AreDeeds}
use Rattle.kilim_image.specs.Text.{image_text, image_limit, is_right, version, PartsFit, RunFits}
use Rattle.kilim_image.specs.Reading.{Held, args_at, begins_well, block_at, ended, files_at, held_of, image_at, magic_at, parts_at, read_image, version_at}
use Rattle.kilim_image.specs.Laws.{ImagesAreSpelled, OneImage, PartsAreSpelled}

module _ (spelled : PartsAreSpelled) where
  takes : (bytes : List ℕ) (held : Held) → IsBytes bytes → read_image bytes ≡ Ok held → (bytes ≡ image_text held.0 held.1) × RunFits held.0 held.1
  unfolding read_image
  takes bytes held fits e =
      let g = checked_ok (nat_le (length bytes) image_limit) fault.TooLarge (image_at bytes >>= ended bytes) held e in
      let a = bind_ok (image_at bytes) (ended bytes) held g.1 in
      let h = checked_ok (is_empty a.0.1) (fault.Extra (length bytes - length a.0.1)) (checked (is_right a.0.0.0) fault.Number (Ok a.0.0)) held a.2 in
      let k = checked_ok (is_right a.0.0.0) fault.Number (Ok a.0.0) held h.1 in
      let t = spelled.takes bytes a.0.0 a.0.1 fits a.1 in
      let nothing : a.0.1 ≡ [] = no_more a.0.1 h.0 in
      let whole : bytes ≡ image_text a.0.0.0 a.0.0.1 = t.0.parts ∙ (ap (λ (r : List ℕ). image_text a.0.0.0 a.0.0.1 ++ r) nothing ∙ append-nil (image_text a.0.0.0 a.0.0.1)) in
      let small : length (image_text a.0.0.0 a.0.0.1) ≤ image_limit = subst (λ (k : List ℕ). length k ≤ image_limit) whole (leb-true (length bytes) image_limit g.0) in
      let has_text : RunFits a.0.0.0 a.0.0.1 = record { parts = t.1; right = k.0; size = small } in
      subst (λ (f : Held). (bytes ≡ image_text f.0 f.1) × RunFits f.0 f.1) (well_is {F = ImageFault} a.0.0 held k.1) (whole, has_text)

  again : (held : Held) → RunFits held.0 held.1 → read_image (image_text held.0 held.1) ≡ Ok held
  unfolding read_image
  again held fits =
      let bytes = image_text held.0 held.1 in
      let e : image_at bytes ≡ Ok (held, []) = ap image_at (sym (append-nil bytes)) ∙ spelled.again held [] fits.parts in
      let small : nat_le (length bytes) image_limit ≡ true = le-leb (length bytes) image_limit fits.size in
      rw (small, e, fits.right) refl

  pub are_spelled : ImagesAreSpelled
  are_spelled = record { takes = takes; again = again }

-- ---- which faults the bytes have, before the journal is looked at

abbrev IsOfBytes : ImageFault → Type 0
IsOfBytes (fault.Journal n) = ⊥
IsOfBytes f = Unit {0}

bytes_by : (b : Bool) (x : List ℕ × List ℕ) → Faults {F = ImageFault} {A = List ℕ × List ℕ} IsOfBytes (cond b (Err fault.Cut) (Ok x))
bytes_by true x = tt
bytes_by false x = tt

bytes_fault : (n : ℕ) → FaultsOf IsOfBytes (bytes_at fault.Cut n)
bytes_fault n bytes = bytes_by (nat_lt (length bytes) n) (take n bytes, drop n bytes)

block_faults : (w : Width) → FaultsOf IsOfBytes (block_at w)
unfolding block_at
block_faults w = made_faults IsOfBytes (followed (number_at fault.Cut w) (bytes_at fault.Cut)) (followed_faults IsOfBytes (number_at fault.Cut w) (number_faults IsOfBytes fault.Cut tt w) (bytes_at fault.Cut) bytes_fault) (λ x. x.1)

args_faults : FaultsOf IsOfBytes args_at
unfolding args_at
args_faults = counted_faults IsOfBytes (signed_at fault.Cut w32) (λ bytes. then_faults IsOfBytes (number_at fault.Cut w32 bytes) (λ x. Ok (cast_signed w32 x.0, x.1)) (number_faults IsOfBytes fault.Cut tt w32 bytes) (λ x. tt)) fault.Cut tt w8

files_faults : FaultsOf IsOfBytes files_at
unfolding files_at
files_faults = counted_faults IsOfBytes (block_at w32) (block_faults w32) fault.Cut tt w16

parts_faults : FaultsOf IsOfBytes parts_at
unfolding parts_at
parts_faults =
    both_faults IsOfBytes (both (number_at fault.Cut w64) args_at) (both_faults IsOfBytes (number_at fault.Cut w64) (number_faults IsOfBytes fault.Cut tt w64) args_at args_faults)
    (both (block_at w16) (both files_at (block_at w32)))
    (both_faults IsOfBytes (block_at w16) (block_faults w16) (both files_at (block_at w32)) (both_faults IsOfBytes files_at files_faults (block_at w32) (block_faults w32)))

magic_faults : FaultsOf IsOfBytes magic_at
unfolding magic_at
magic_faults bytes = checked_faults IsOfBytes (begins_well bytes) fault.Magic (bytes_at fault.Cut 4 bytes) tt (bytes_fault 4 bytes)

version_faults : FaultsOf IsOfBytes version_at
unfolding version_at
version_faults = tested_faults IsOfBytes (number_at fault.Cut w16) (number_faults IsOfBytes fault.Cut tt w16) (λ v. v == version) fault.Version (λ v. tt)

image_faults : FaultsOf IsOfBytes image_at
unfolding image_at
image_faults =
    made_faults IsOfBytes (both (both magic_at version_at) parts_at)
    (both_faults IsOfBytes (both magic_at version_at) (both_faults IsOfBytes magic_at magic_faults version_at version_faults) parts_at parts_faults) (λ x. held_of x.1)

read_faults : (bytes : List ℕ) → Faults IsOfBytes (read_image bytes)
unfolding read_image
read_faults bytes =
    checked_faults IsOfBytes (nat_le (length bytes) image_limit) fault.TooLarge (image_at bytes >>= ended bytes) tt
    (then_faults IsOfBytes (image_at bytes) (ended bytes) (image_faults bytes)
    (λ x. checked_faults IsOfBytes (is_empty x.1) (fault.Extra (length bytes - length x.1)) (checked (is_right x.0.0) fault.Number (Ok x.0)) tt (checked_faults IsOfBytes (is_right x.0.0) fault.Number (Ok x.0) tt tt)))

-- ---- what a call answers that reads so

abbrev failed : ImageFault → Result Held ImageFault
failed e = Err e

no_image : (e : ImageFault) (held : Held) → failed e ≡ well held → ⊥
no_image e held p = cc

pub says_of : (bytes : List ℕ) (f : ImageFault) → (f ≡ fault.Memory) ⊎ (read_image bytes ≡ Err f) → IsImageFault bytes f
says_of bytes f (inl m) = subst (IsImageFault bytes) (sym m) tt
says_of bytes f (inr e) = by f e (subst (Faults IsOfBytes) e (read_faults bytes))
  where
    by : (g : ImageFault) → read_image bytes ≡ Err g → IsOfBytes g → IsImageFault bytes g
    by fault.TooLarge e of = e
    by fault.Magic e of = e
    by (fault.Version v) e of = e
    by fault.Cut e of = e
    by (fault.Extra at) e of = e
    by fault.Number e of = e
    by (fault.Journal n) e of = absurd of
    by fault.Memory e of = tt

pub says_of_journal : (bytes : List ℕ) (held : Held) (f : ImageFault) → read_image bytes ≡ Ok held → IsDeedFault held.1 f → IsImageFault bytes f
says_of_journal bytes held (fault.Journal n) read bad = (held, read, bad)
says_of_journal bytes held fault.Memory read bad = tt
says_of_journal bytes held fault.TooLarge read bad = absurd bad
says_of_journal bytes held fault.Magic read bad = absurd bad
says_of_journal bytes held (fault.Version v) read bad = absurd bad
says_of_journal bytes held fault.Cut read bad = absurd bad
says_of_journal bytes held (fault.Extra at) read bad = absurd bad
says_of_journal bytes held fault.Number read bad = absurd bad

module _ (law : ImagesAreSpelled) (bytes : List ℕ) where
  pub found : (held : Held) (journal : List Entry) → IsBytes bytes → read_image bytes ≡ Ok held → AreDeeds held.1 journal → ImageFits held.0 journal × (bytes ≡ image_text held.0 (journal_text journal))
  found held journal fits read deeds =
      let t = law.takes bytes held fits read in
      (record { run_fits = subst (RunFits held.0) deeds.is_text t.1; each = deeds.each }, t.0 ∙ ap (image_text held.0) deeds.is_text)

  pub same_held : (held : Held) (run : Run) (journal : List Entry) → read_image bytes ≡ Ok held → ImageFits run journal → bytes ≡ image_text run (journal_text journal) → held ≡ (run, journal_text journal)
  same_held held run journal read fits is = well_is {F = ImageFault} held (run, journal_text journal) (sym read ∙ (ap read_image is ∙ law.again (run, journal_text journal) fits.run_fits))

  pub same_deeds : (held : Held) (run : Run) (journal : List Entry) → read_image bytes ≡ Ok held → ImageFits run journal → bytes ≡ image_text run (journal_text journal) → AreDeeds held.1 journal
  same_deeds held run journal read fits is = record { each = fits.each; is_text = ap (λ (h : Held). h.1) (same_held held run journal read fits is) }

  pub same_run : (held : Held) (run : Run) (journal : List Entry) → read_image bytes ≡ Ok held → ImageFits run journal → bytes ≡ image_text run (journal_text journal) → held.0 ≡ run
  same_run held run journal read fits is = ap (λ (h : Held). h.0) (same_held held run journal read fits is)

  pub only_memory : (f : ImageFault) (run : Run) (journal : List Entry) → (f ≡ fault.Memory) ⊎ (read_image bytes ≡ Err f) → ImageFits run journal → bytes ≡ image_text run (journal_text journal) → f ≡ fault.Memory
  only_memory f run journal (inl m) fits is = m
  only_memory f run journal (inr e) fits is = absurd (no_image f (run, journal_text journal) (sym e ∙ (ap read_image is ∙ law.again (run, journal_text journal) fits.run_fits)))

readable : (es : List Entry) → AllByRecursion IsDeed es → IsReadable es
readable [] h = tt
readable (e ∷ es) h = (h.0.0.0, readable es h.1)

in_range : (es : List Entry) → AllByRecursion IsDeed es → JournalFits es
in_range [] h = tt
in_range (e ∷ es) h = (h.0.0.1, in_range es h.1)

pub one_image : ImagesAreSpelled → HasOneJournal → OneImage
one_image law texts run journal other entries f g same =
    let e : well {F = ImageFault} (run, journal_text journal) ≡ well (other, journal_text entries) = sym (law.again (run, journal_text journal) f.run_fits) ∙ (ap read_image same ∙ law.again (other, journal_text entries) g.run_fits) in
    let held : (run, journal_text journal) ≡ (other, journal_text entries) = well_is {F = ImageFault} (run, journal_text journal) (other, journal_text entries) e in
    (ap (λ (h : Held). h.0) held, texts journal entries (readable journal f.each) (readable entries g.each) (in_range journal f.each) (in_range entries g.each) (ap (λ (h : Held). h.1) held))
