-- What is read as an entry is spelled so, and what is spelled is read again.
use Rattle.std.proofs.Common.{◌≡◌, ℕ, ◌^◌, ◌<◌, Bool, true, false, cond, eqb, List, ◌++◌, length, Option, Some, None, Result, Ok, Err, refl, sym, ap, subst, ◌∙◌, append_assoc, arith}
use Rattle.std.specs.Int.{w8, w16, w32, w64}
use Rattle.std.proofs.lemmas.Bool.{eqb-true}
use Rattle.kilim_class_grammar.specs.Reader.{Reader, ◌>>=◌, checked, number_at, bytes_at, made}
use Rattle.kilim_class_grammar.specs.Spelling.{u1, u2}
use Rattle.kilim_class_grammar.proofs.Bytes.{IsBytes, Takes, Takes-then}
use Rattle.kilim_class_grammar.proofs.Formats.{Format, well, well_is, bind_ok, checked_ok, n8, n16, n32, n64, signed32, signed64, signed_number, raw, bytes_again, pair, made_of, made_again_of}
use Rattle.kilim_class_mutf8.specs.Spelling.{spelling, UnitsFit}
use Rattle.kilim_class_mutf8.specs.Whole.{units_of, UnitsAreSpelled}
use Rattle.kilim_class_pool.specs.declared.entry.Entry.{Entry}
use Rattle.kilim_class_pool.specs.declared.entry.Entry.TheVariants.{Utf8, Integer, Float, Long, Double, Class, String, Fieldref, Methodref, InterfaceMethodref, NameAndType, MethodHandle, MethodType, InvokeDynamic}
use Rattle.kilim_class_pool.specs.declared.fault.PoolFault.{PoolFault}
use Rattle.kilim_class_pool.specs.declared.fault.PoolFault.TheVariants as pool
use Rattle.kilim_class_pool.specs.Entries.{is_wide}
use Rattle.kilim_class_pool.specs.Spelling.{pair_text, string_text, tag_of, content_text, entry_text, PairFits, EntryFits}
use Rattle.kilim_class_pool.specs.Reading.{or_text, text_at, pair_at, index_at, handle_at, reference_at, content_at, has_room, entry_at_index}

abbrev Fault : Type 0
Fault = PoolFault

-- ---- the parts of an entry

abbrev StringFits : List ℕ → Type 0
StringFits units = UnitsFit units × (length (spelling units) < 2 ^ 16)

index : Format u2 index_at (λ n. n < 2 ^ 16)
index = n16 pool.Cut

two : Format (λ (p : ℕ × ℕ). pair_text p.0 p.1) pair_at (λ p. PairFits p.0 p.1)
unfolding pair_at
two = pair (n16 pool.Cut) (n16 pool.Cut)

handle : Format (λ (p : ℕ × ℕ). u1 p.0 ++ u2 p.1) handle_at (λ p. (p.0 < 2 ^ 8) × (p.1 < 2 ^ 16))
unfolding handle_at
handle = pair (n8 pool.Cut) (n16 pool.Cut)

a_text : (place : ℕ) (o : Option (List ℕ)) (units : List ℕ) → or_text place o ≡ Ok units → o ≡ Some units
a_text place (Some us) units e = ap (λ (xs : List ℕ). Some xs) (well_is {F = Fault} us units e)
a_text place None units e = absurd cc

abbrev failed : {A : Type 0} → Fault → Result A Fault
failed e = Err e

not_read : (e : Fault) (x : Entry × List ℕ) → failed e ≡ well x → ⊥
not_read e x p = cc

module _ (law : UnitsAreSpelled) where
  string_takes : (place : ℕ) (bytes units rest : List ℕ) → IsBytes bytes → text_at place bytes ≡ Ok (units, rest) → Takes bytes (string_text units) rest × StringFits units
  unfolding text_at
  string_takes place bytes units rest fits e =
      let a = bind_ok (number_at pool.Cut w16 bytes) (λ n. bytes_at pool.Cut n.0 n.1 >>= λ t. or_text place (units_of t.0) >>= λ us. Ok (us, t.1)) (units, rest) e in
      let b = bind_ok (bytes_at pool.Cut a.0.0 a.0.1) (λ t. or_text place (units_of t.0) >>= λ us. Ok (us, t.1)) (units, rest) a.2 in
      let d = bind_ok (or_text place (units_of b.0.0)) (λ us. Ok (us, b.0.1)) (units, rest) b.2 in
      let t = (n16 pool.Cut).takes bytes a.0.0 a.0.1 fits a.1 in
      let u = (raw pool.Cut a.0.0).takes a.0.1 b.0.0 b.0.1 t.0.rest_fits b.1 in
      let s = law.takes b.0.0 d.0 (a_text place (units_of b.0.0) d.0 d.1) in
      let len : a.0.0 ≡ length (spelling d.0) = sym u.1.0 ∙ ap length s.0 in
      let first : Takes bytes (u2 (length (spelling d.0))) a.0.1 = subst (λ (k : ℕ). Takes bytes (u2 k) a.0.1) len t.0 in
      let second : Takes a.0.1 (spelling d.0) b.0.1 = subst (λ (c : List ℕ). Takes a.0.1 c b.0.1) s.0 u.0 in
      let found : List ℕ × List ℕ = (d.0, b.0.1) in
      let small : length (spelling d.0) < 2 ^ 16 = subst (λ (k : ℕ). k < 2 ^ 16) len t.1 in
      subst (λ (q : List ℕ × List ℕ). Takes bytes (string_text q.0) q.1 × StringFits q.0) (well_is {F = Fault} found (units, rest) d.2)
      (Takes-then bytes (u2 (length (spelling d.0))) a.0.1 (spelling d.0) b.0.1 first second, (s.1, small))

  string_again : (place : ℕ) (units rest : List ℕ) → StringFits units → text_at place (string_text units ++ rest) ≡ Ok (units, rest)
  unfolding text_at
  string_again place units rest fits =
      ap (text_at place) (append_assoc (u2 (length (spelling units))) (spelling units) rest)
      ∙ rw ((n16 pool.Cut).again (length (spelling units)) (spelling units ++ rest) fits.1, bytes_again pool.Cut (length (spelling units)) (spelling units) rest refl, law.again units fits.0) refl

  string : (place : ℕ) → Format string_text (text_at place) StringFits
  string place = record { takes = string_takes place; again = string_again place }

  -- ---- what follows a tag

  -- what was read behind a tag
  record Got (tag : ℕ) (bytes : List ℕ) (y : Entry) (rest : List ℕ) : Type 0 where
    took : Takes bytes (content_text y) rest
    fit : EntryFits y
    is : tag_of y ≡ tag

  choose : {A G : Type 0} (b : Bool) (x y z : A) → cond b x y ≡ z → (b ≡ true → x ≡ z → G) → (y ≡ z → G) → G
  choose true x y z e here there = here refl e
  choose false x y z e here there = there e

  -- one row of the table
  module _ {A : Type 0} {text : A → List ℕ} {at : Reader Fault A} {Fits : A → Type 0} (one : Format text at Fits) (make : A → Entry) where
    arm : (t : ℕ) (same_text : (x : A) → text x ≡ content_text (make x)) (same_fits : (x : A) → Fits x → EntryFits (make x)) (is : (x : A) → tag_of (make x) ≡ t)
        → (tag : ℕ) (bytes : List ℕ) (y : Entry) (rest : List ℕ) → IsBytes bytes → eqb tag t ≡ true → made make at bytes ≡ Ok (y, rest) → Got tag bytes y rest
    arm t same_text same_fits is tag bytes y rest fits e h =
        let m = made_of one make bytes y rest fits h in
        subst (λ (z : Entry). Got tag bytes z rest) m.1
        (record { took = subst (λ (front : List ℕ). Takes bytes front rest) (same_text m.0) m.2; fit = same_fits m.0 m.3; is = is m.0 ∙ sym (eqb-true tag t e) })

  reference_takes : (place tag : ℕ) (bytes : List ℕ) (y : Entry) (rest : List ℕ) → IsBytes bytes → reference_at place tag bytes ≡ Ok (y, rest) → Got tag bytes y rest
  unfolding reference_at
  reference_takes place tag bytes y rest fits e =
      choose (eqb tag 7) _ _ _ e (arm index Class 7 (λ x. refl) (λ x f. f) (λ x. refl) tag bytes y rest fits) (λ e.
      choose (eqb tag 8) _ _ _ e (arm index String 8 (λ x. refl) (λ x f. f) (λ x. refl) tag bytes y rest fits) (λ e.
      choose (eqb tag 9) _ _ _ e (arm two (λ p. Fieldref p.0 p.1) 9 (λ x. refl) (λ x f. f) (λ x. refl) tag bytes y rest fits) (λ e.
      choose (eqb tag 10) _ _ _ e (arm two (λ p. Methodref p.0 p.1) 10 (λ x. refl) (λ x f. f) (λ x. refl) tag bytes y rest fits) (λ e.
      choose (eqb tag 11) _ _ _ e (arm two (λ p. InterfaceMethodref p.0 p.1) 11 (λ x. refl) (λ x f. f) (λ x. refl) tag bytes y rest fits) (λ e.
      choose (eqb tag 12) _ _ _ e (arm two (λ p. NameAndType p.0 p.1) 12 (λ x. refl) (λ x f. f) (λ x. refl) tag bytes y rest fits) (λ e.
      choose (eqb tag 15) _ _ _ e (arm handle (λ p. MethodHandle p.0 p.1) 15 (λ x. refl) (λ x f. f) (λ x. refl) tag bytes y rest fits) (λ e.
      choose (eqb tag 16) _ _ _ e (arm index MethodType 16 (λ x. refl) (λ x f. f) (λ x. refl) tag bytes y rest fits) (λ e.
      choose (eqb tag 18) _ _ _ e (arm two (λ p. InvokeDynamic p.0 p.1) 18 (λ x. refl) (λ x f. f) (λ x. refl) tag bytes y rest fits) (λ e.
      absurd (not_read (pool.Tag place tag) (y, rest) e))))))))))

  content_takes : (place tag : ℕ) (bytes : List ℕ) (y : Entry) (rest : List ℕ) → IsBytes bytes → content_at place tag bytes ≡ Ok (y, rest) → Got tag bytes y rest
  unfolding content_at
  content_takes place tag bytes y rest fits e =
      choose (eqb tag 1) _ _ _ e (arm (string place) Utf8 1 (λ x. refl) (λ x f. f) (λ x. refl) tag bytes y rest fits) (λ e.
      choose (eqb tag 3) _ _ _ e (arm (signed_number pool.Cut w32 (2 ^ 32) signed32) Integer 3 (λ x. refl) (λ x f. f) (λ x. refl) tag bytes y rest fits) (λ e.
      choose (eqb tag 4) _ _ _ e (arm (n32 pool.Cut) Float 4 (λ x. refl) (λ x f. f) (λ x. refl) tag bytes y rest fits) (λ e.
      choose (eqb tag 5) _ _ _ e (arm (signed_number pool.Cut w64 (2 ^ 64) signed64) Long 5 (λ x. refl) (λ x f. f) (λ x. refl) tag bytes y rest fits) (λ e.
      choose (eqb tag 6) _ _ _ e (arm (n64 pool.Cut) Double 6 (λ x. refl) (λ x f. f) (λ x. refl) tag bytes y rest fits) (λ e.
      reference_takes place tag bytes y rest fits e)))))

  content_again : (place : ℕ) (x : Entry) (rest : List ℕ) → EntryFits x → content_at place (tag_of x) (content_text x ++ rest) ≡ Ok (x, rest)
  unfolding content_at reference_at
  content_again place (Utf8 units) rest fits = made_again_of (string place) Utf8 units rest fits
  content_again place (Integer n) rest fits = made_again_of (signed_number pool.Cut w32 (2 ^ 32) signed32) Integer n rest fits
  content_again place (Float bits) rest fits = made_again_of (n32 pool.Cut) Float bits rest fits
  content_again place (Long n) rest fits = made_again_of (signed_number pool.Cut w64 (2 ^ 64) signed64) Long n rest fits
  content_again place (Double bits) rest fits = made_again_of (n64 pool.Cut) Double bits rest fits
  content_again place (Class name) rest fits = made_again_of index Class name rest fits
  content_again place (String text) rest fits = made_again_of index String text rest fits
  content_again place (Fieldref class member) rest fits = made_again_of two (λ p. Fieldref p.0 p.1) (class, member) rest fits
  content_again place (Methodref class member) rest fits = made_again_of two (λ p. Methodref p.0 p.1) (class, member) rest fits
  content_again place (InterfaceMethodref class member) rest fits = made_again_of two (λ p. InterfaceMethodref p.0 p.1) (class, member) rest fits
  content_again place (NameAndType name descriptor) rest fits = made_again_of two (λ p. NameAndType p.0 p.1) (name, descriptor) rest fits
  content_again place (MethodHandle kind named) rest fits = made_again_of handle (λ p. MethodHandle p.0 p.1) (kind, named) rest fits
  content_again place (MethodType descriptor) rest fits = made_again_of index MethodType descriptor rest fits
  content_again place (InvokeDynamic bootstrap member) rest fits = made_again_of two (λ p. InvokeDynamic p.0 p.1) (bootstrap, member) rest fits

  -- ---- an entry, where there is room for its indices

  abbrev pub RoomFor : Bool → Entry → Type 0
  RoomFor room x = is_wide x ≡ true → room ≡ true

  roomy : (room : Bool) (x : Entry) → RoomFor room x → has_room room (tag_of x) ≡ true
  roomy true x fits = refl
  roomy false (Long n) fits = absurd (let e = fits refl in cc)
  roomy false (Double n) fits = absurd (let e = fits refl in cc)
  roomy false (Utf8 units) fits = refl
  roomy false (Integer n) fits = refl
  roomy false (Float bits) fits = refl
  roomy false (Class name) fits = refl
  roomy false (String text) fits = refl
  roomy false (Fieldref class member) fits = refl
  roomy false (Methodref class member) fits = refl
  roomy false (InterfaceMethodref class member) fits = refl
  roomy false (NameAndType name descriptor) fits = refl
  roomy false (MethodHandle kind named) fits = refl
  roomy false (MethodType descriptor) fits = refl
  roomy false (InvokeDynamic bootstrap member) fits = refl

  has_its_room : (room : Bool) (x : Entry) → has_room room (tag_of x) ≡ true → RoomFor room x
  has_its_room true x e w = refl
  has_its_room false (Long n) e w = e
  has_its_room false (Double n) e w = e
  has_its_room false (Utf8 units) e w = w
  has_its_room false (Integer n) e w = w
  has_its_room false (Float bits) e w = w
  has_its_room false (Class name) e w = w
  has_its_room false (String text) e w = w
  has_its_room false (Fieldref class member) e w = w
  has_its_room false (Methodref class member) e w = w
  has_its_room false (InterfaceMethodref class member) e w = w
  has_its_room false (NameAndType name descriptor) e w = w
  has_its_room false (MethodHandle kind named) e w = w
  has_its_room false (MethodType descriptor) e w = w
  has_its_room false (InvokeDynamic bootstrap member) e w = w

  tag_below : (x : Entry) → tag_of x < 2 ^ 8
  tag_below (Utf8 units) = omega arith
  tag_below (Integer n) = omega arith
  tag_below (Float bits) = omega arith
  tag_below (Long n) = omega arith
  tag_below (Double bits) = omega arith
  tag_below (Class name) = omega arith
  tag_below (String text) = omega arith
  tag_below (Fieldref class member) = omega arith
  tag_below (Methodref class member) = omega arith
  tag_below (InterfaceMethodref class member) = omega arith
  tag_below (NameAndType name descriptor) = omega arith
  tag_below (MethodHandle kind named) = omega arith
  tag_below (MethodType descriptor) = omega arith
  tag_below (InvokeDynamic bootstrap member) = omega arith

  module _ (place : ℕ) (room : Bool) where
    entry_takes : (bytes : List ℕ) (x : Entry) (rest : List ℕ) → IsBytes bytes → entry_at_index place room bytes ≡ Ok (x, rest) → Takes bytes (entry_text x) rest × (EntryFits x × RoomFor room x)
    unfolding entry_at_index
    entry_takes bytes x rest fits e =
        let a = bind_ok (number_at pool.Cut w8 bytes) (λ tag. checked (has_room room tag.0) (pool.BadIndex place) (content_at place tag.0 tag.1)) (x, rest) e in
        let g = checked_ok (has_room room a.0.0) (pool.BadIndex place) (content_at place a.0.0 a.0.1) (x, rest) a.2 in
        let t = (n8 pool.Cut).takes bytes a.0.0 a.0.1 fits a.1 in
        let u = content_takes place a.0.0 a.0.1 x rest t.0.rest_fits g.1 in
        let first : Takes bytes (u1 (tag_of x)) a.0.1 = subst (λ (k : ℕ). Takes bytes (u1 k) a.0.1) (sym u.is) t.0 in
        let roomed : has_room room (tag_of x) ≡ true = ap (has_room room) u.is ∙ g.0 in
        (Takes-then bytes (u1 (tag_of x)) a.0.1 (content_text x) rest first u.took, (u.fit, has_its_room room x roomed))

    entry_again : (x : Entry) (rest : List ℕ) → EntryFits x × RoomFor room x → entry_at_index place room (entry_text x ++ rest) ≡ Ok (x, rest)
    unfolding entry_at_index
    entry_again x rest fits =
        ap (entry_at_index place room) (append_assoc (u1 (tag_of x)) (content_text x) rest)
        ∙ rw ((n8 pool.Cut).again (tag_of x) (content_text x ++ rest) (tag_below x), roomy room x fits.1) (content_again place x rest fits.0)

    pub an_entry : Format entry_text (entry_at_index place room) (λ x. EntryFits x × RoomFor room x)
    an_entry = record { takes = entry_takes; again = entry_again }
