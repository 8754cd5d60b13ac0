-- What is read as an image is spelled so, and what is spelled is read again.
use Rattle.std.proofs.Common.{◌≡◌, ◌==◌, ℕ, ◌^◌, ◌<◌, ℤ, Bool, true, false, eqb, List, [], ◌∷◌, ◌++◌, length, take, Result, Ok, refl, sym, ap, subst, ◌∙◌, append_assoc, arith}
use Rattle.std.specs.Prelude.{◌&&◌, FitsSigned, nat_eq}
use Rattle.std.specs.List.{flat_map, starts_with, AllByRecursion}
use Rattle.std.specs.Int.{Width, w8, w16, w32, w64, to_be_bytes}
use Rattle.std.proofs.lemmas.Bool.{and_parts, eqb-true}
use Rattle.std.proofs.lemmas.List.{take_all, take_at}
use Rattle.kilim_class_grammar.specs.Reader.{bytes_at, checked, number_at}
use Rattle.kilim_class_grammar.specs.Spelling.{u1, u2, two_u4, signed}
use Rattle.kilim_class_grammar.proofs.Bytes.{IsBytes, IsWide, Takes, wide8, wide16, wide32}
use Rattle.kilim_class_grammar.proofs.Formats.{Format, n16, n32, n64, number, raw, bytes_again, pair, follow, passed, dressed, reworded, refitted, so_many, signed32, signed_number, checked_ok}
use Rattle.kilim_image.specs.declared.image.Run.{Run}
use Rattle.kilim_image.specs.declared.fault.ImageFault.{ImageFault}
use Rattle.kilim_image.specs.declared.fault.ImageFault.TheVariants as fault
use Rattle.kilim_image.specs.Text.{magic, version, block, args_text, files_text, parts_text, image_text, BlockFits, PartsFit}
use Rattle.kilim_image.specs.Reading.{begins_well, magic_at, version_at, block_at, args_at, files_at, Parts, parts_at, Held, parts_of, held_of, image_at}
use Rattle.kilim_image.specs.Laws.{PartsAreSpelled}

-- ---- the magic number

-- four bytes that are a front of it are the number
four_are : (bytes : List ℕ) → length bytes ≡ 4 → starts_with nat_eq magic (take 4 bytes) ≡ true → bytes ≡ magic
four_are [] len e = absurd (omega arith)
four_are (a ∷ []) len e = absurd (omega arith)
four_are (a ∷ b ∷ []) len e = absurd (omega arith)
four_are (a ∷ b ∷ c ∷ []) len e = absurd (omega arith)
four_are (a ∷ b ∷ c ∷ d ∷ []) len e =
    let one = and_parts (eqb a 75) (eqb b 73 && (eqb c 76 && (eqb d 77 && true))) e in
    let two = and_parts (eqb b 73) (eqb c 76 && (eqb d 77 && true)) one.1 in
    let three = and_parts (eqb c 76) (eqb d 77 && true) two.1 in
    let four = and_parts (eqb d 77) true three.1 in
    let w : a ≡ 75 = eqb-true a 75 one.0 in
    let x : b ≡ 73 = eqb-true b 73 two.0 in
    let y : c ≡ 76 = eqb-true c 76 three.0 in
    let z : d ≡ 77 = eqb-true d 77 four.0 in
    λ i. w i ∷ x i ∷ y i ∷ z i ∷ []
four_are (a ∷ b ∷ c ∷ d ∷ f ∷ more) len e = absurd (omega arith)

-- the first four bytes are those that were read
front_is : (bytes xs rest : List ℕ) → length xs ≡ 4 → bytes ≡ xs ++ rest → take 4 bytes ≡ take 4 xs
front_is bytes xs rest len parts = ap (take 4) parts ∙ (take_at xs rest 4 len ∙ sym (take_all 4 xs (omega (arith, len))))

a_magic : Format (λ xs. xs) magic_at (λ xs. xs ≡ magic)
unfolding magic_at begins_well
a_magic = record {
  takes = λ bytes xs rest fits e.
      let g = checked_ok (begins_well bytes) fault.Magic (bytes_at fault.Cut 4 bytes) (xs, rest) e in
      let t = (raw fault.Cut 4).takes bytes xs rest fits g.1 in
      (t.0, four_are xs t.1.0 (subst (λ (front : List ℕ). starts_with nat_eq magic front ≡ true) (front_is bytes xs rest t.1.0 t.0.parts) g.0));
  again = λ xs rest fits. subst (λ (m : List ℕ). magic_at (m ++ rest) ≡ Ok (m, rest)) (sym fits) (bytes_again fault.Cut 4 magic rest refl);
}

-- ---- numbers and blocks

a_version : Format u2 version_at (λ n. (n < 2 ^ 16) × ((n == version) ≡ true))
unfolding version_at
a_version = passed (n16 fault.Cut) (λ v. v == version) fault.Version

module _ (w : Width) (limit : ℕ) (wide : IsWide w limit) where
  counted_bytes : ℕ × List ℕ → Type 0
  counted_bytes x = (x.0 < limit) × ((length x.1 ≡ x.0) × IsBytes x.1)

  same_count : (x : ℕ × List ℕ) → counted_bytes x → (length x.1, x.1) ≡ x
  unfolding counted_bytes
  same_count x fits = ap (λ (n : ℕ). (n, x.1)) fits.1.0

  a_block : Format (block w) (block_at w) (BlockFits limit)
  unfolding block_at counted_bytes
  a_block =
      refitted (dressed (follow (number fault.Cut w limit wide) (λ n fits. raw fault.Cut n)) (λ x. x.1) (λ (bytes : List ℕ). (length bytes, bytes)) (λ y. refl) same_count)
      (BlockFits limit) (λ bytes f. (f.0, f.1.1)) (λ bytes f. (f.0, (refl, f.1)))

some_args : Format args_text args_at (λ args. (length args < 2 ^ 8) × AllByRecursion (FitsSigned w32) args)
unfolding args_at
some_args = so_many (signed_number fault.Cut w32 (2 ^ 32) signed32) fault.Cut w8 (2 ^ 8) wide8

some_files : Format files_text files_at (λ files. (length files < 2 ^ 16) × AllByRecursion (BlockFits (2 ^ 32)) files)
unfolding files_at
some_files = so_many (a_block w32 (2 ^ 32) wide32) fault.Cut w16 (2 ^ 16) wide16

-- ---- all parts

text_of_parts : Parts → List ℕ
text_of_parts x = (two_u4 x.0.0 ++ args_text x.0.1) ++ (block w16 x.1.0 ++ (files_text x.1.1.0 ++ block w32 x.1.1.1))

FitParts : Parts → Type 0
FitParts x =
    ((x.0.0 < 2 ^ 64) × ((length x.0.1 < 2 ^ 8) × AllByRecursion (FitsSigned w32) x.0.1))
    × (BlockFits (2 ^ 16) x.1.0 × (((length x.1.1.0 < 2 ^ 16) × AllByRecursion (BlockFits (2 ^ 32)) x.1.1.0) × BlockFits (2 ^ 32) x.1.1.1))

all_parts : Format text_of_parts parts_at FitParts
unfolding parts_at text_of_parts FitParts
all_parts = pair (pair (n64 fault.Cut) some_args) (pair (a_block w16 (2 ^ 16) wide16) (pair some_files (a_block w32 (2 ^ 32) wide32)))

abbrev Whole : Type 0
Whole = (List ℕ × ℕ) × Parts

abbrev whole_text : Whole → List ℕ
whole_text x = (x.0.0 ++ u2 x.0.1) ++ text_of_parts x.1

abbrev WholeFits : Whole → Type 0
WholeFits x = ((x.0.0 ≡ magic) × ((x.0.1 < 2 ^ 16) × ((x.0.1 == version) ≡ true))) × FitParts x.1

abbrev whole_of : Held → Whole
whole_of held = ((magic, version), parts_of held)

whole_is : (x : Whole) → WholeFits x → whole_of (held_of x.1) ≡ x
whole_is x fits =
    ap (λ (m : List ℕ). ((m, version), x.1)) (sym fits.0.0)
    ∙ ap (λ (n : ℕ). ((x.0.0, n), x.1)) (sym (eqb-true x.0.1 version fits.0.1.1))

regroup : (m v s a b f t : List ℕ) → (m ++ v) ++ ((s ++ a) ++ (b ++ (f ++ t))) ≡ m ++ (v ++ (s ++ (a ++ (b ++ (f ++ t)))))
regroup m v s a b f t = simp append_assoc

whole_text_is : (held : Held) → whole_text (whole_of held) ≡ image_text held.0 held.1
unfolding text_of_parts
whole_text_is held = regroup magic (u2 version) (two_u4 held.0.steps) (args_text held.0.args) (block w16 held.0.main) (files_text held.0.files) (block w32 held.1)

parts_fit : (held : Held) → WholeFits (whole_of held) → PartsFit held.0 held.1
unfolding FitParts
parts_fit held f = record { steps = f.1.0.0; args = f.1.0.1; main = f.1.1.0; files = f.1.1.1.0; journal = f.1.1.1.1 }

fit_parts : (held : Held) → PartsFit held.0 held.1 → WholeFits (whole_of held)
unfolding FitParts
fit_parts held f = ((refl, (omega arith, refl)), ((f.steps, f.args), (f.main, (f.files, f.journal))))

pub an_image : PartsAreSpelled
unfolding image_at
an_image =
    refitted
    (reworded (dressed (pair (pair a_magic a_version) all_parts) (λ x. held_of x.1) whole_of (λ y. refl) whole_is)
    (λ (held : Held). image_text held.0 held.1) (λ held fits. whole_text_is held))
    (λ (held : Held). PartsFit held.0 held.1) parts_fit fit_parts
