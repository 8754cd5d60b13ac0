-- Frames and their types both ways (JVMS 4.7.4).
use Rattle.std.proofs.Common.{◌≡◌, ◌≢◌, ℕ, ◌+◌, ◌-◌, ◌^◌, ◌<◌, ◌≤◌, true, false, ltb, eqb, List, [], ◌∷◌, ◌++◌, length, Ok, refl, sym, arith}
use Rattle.std.specs.List.{AllByRecursion}
use Rattle.std.specs.Int.{w16}
use Rattle.std.proofs.lemmas.Bool.{ltb-false, ltb-true, lt-ltb, le-ltb, eqb-true, eqb-false, ne_eqb}
use Rattle.kilim_class_grammar.specs.Reader.{number_at, many}
use Rattle.kilim_class_grammar.specs.Spelling.{u2}
use Rattle.kilim_class_grammar.proofs.Bytes.{IsBytes, wide16}
use Rattle.kilim_class_grammar.proofs.Formats.{Format, n16, pair, several, so_many, refitted, made_again_of}
use Rattle.kilim_class_pool.specs.declared.entry.Entry.{Entry}
use Rattle.kilim_class_attributes.specs.declared.parts.fault.AttributeFault.TheVariants as fault
use Rattle.kilim_class_attributes.specs.declared.parts.index.EntryKind.TheVariants.{Class}
use Rattle.kilim_class_attributes.specs.declared.parts.frame.VerificationType.{VerificationType}
use Rattle.kilim_class_attributes.specs.declared.parts.frame.VerificationType.TheVariants.{Top, Integer, Float, Double, Long, Null, UninitializedThis, Object, Uninitialized}
use Rattle.kilim_class_attributes.specs.declared.parts.frame.Frame.{Frame}
use Rattle.kilim_class_attributes.specs.declared.parts.frame.Frame.TheVariants.{Same, SameLocals1StackItem, SameLocals1StackItemExtended, Chop, SameExtended, Append, Full}
use Rattle.kilim_class_attributes.specs.parts.Frames.{type_tag, behind_type_tag, type_text, TypeFits, types_text, frame_tag, counted_types_text, behind_frame_tag, frame_text, frames_text, FrameIsSized, TypesFit, FrameFits, FramesAreSized, FramesFit, ends, type_behind, type_at, delta_and_type_at, counted_types_at, appended_at, full_at, frame_behind, frame_at, frames_at}
use Rattle.kilim_class_attributes.proofs.parts.Choices.{Spelled, either, by_refused, by_given, by_made, Tagged, by_tag}
use Rattle.kilim_class_attributes.proofs.parts.Indices.{index_format}

-- ---- verification types

module _ (pool : List Entry) where
  abbrev TypeOf : ℕ → VerificationType → Type 0
  TypeOf = Tagged ends type_tag behind_type_tag (type_behind pool) (TypeFits pool)

  low_tag : (x : VerificationType) → TypeFits pool x → type_tag x < 2 ^ 8
  low_tag Top fit = omega arith
  low_tag Integer fit = omega arith
  low_tag Float fit = omega arith
  low_tag Double fit = omega arith
  low_tag Long fit = omega arith
  low_tag Null fit = omega arith
  low_tag UninitializedThis fit = omega arith
  low_tag (Object class) fit = omega arith
  low_tag (Uninitialized place) fit = omega arith

  is_tag : (tag n : ℕ) → eqb tag n ≡ true → n ≡ tag
  is_tag tag n h = sym (eqb-true tag n h)

  type_spelled : (tag : ℕ) → tag < 2 ^ 8 → Spelled behind_type_tag (type_behind pool tag) (TypeOf tag)
  unfolding type_behind
  type_spelled tag lt =
      either (eqb tag 0) _ _ (λ h. by_given Top refl (tt, is_tag tag 0 h)) (λ _.
      either (eqb tag 1) _ _ (λ h. by_given Integer refl (tt, is_tag tag 1 h)) (λ _.
      either (eqb tag 2) _ _ (λ h. by_given Float refl (tt, is_tag tag 2 h)) (λ _.
      either (eqb tag 3) _ _ (λ h. by_given Double refl (tt, is_tag tag 3 h)) (λ _.
      either (eqb tag 4) _ _ (λ h. by_given Long refl (tt, is_tag tag 4 h)) (λ _.
      either (eqb tag 5) _ _ (λ h. by_given Null refl (tt, is_tag tag 5 h)) (λ _.
      either (eqb tag 6) _ _ (λ h. by_given UninitializedThis refl (tt, is_tag tag 6 h)) (λ _.
      either (eqb tag 7) _ _ (λ h. by_made (index_format pool Class ends) Object (λ y fit. refl) (λ y fit. (fit, is_tag tag 7 h))) (λ _.
      either (eqb tag 8) _ _ (λ h. by_made (n16 ends) Uninitialized (λ y fit. refl) (λ y fit. (fit, is_tag tag 8 h))) (λ _.
      by_refused (fault.FrameTag tag))))))))))

  type_again : (x : VerificationType) (rest : List ℕ) → TypeFits pool x → type_behind pool (type_tag x) (behind_type_tag x ++ rest) ≡ Ok (x, rest)
  unfolding type_behind
  type_again Top rest fit = refl
  type_again Integer rest fit = refl
  type_again Float rest fit = refl
  type_again Double rest fit = refl
  type_again Long rest fit = refl
  type_again Null rest fit = refl
  type_again UninitializedThis rest fit = refl
  type_again (Object class) rest fit = made_again_of (index_format pool Class ends) Object class rest fit
  type_again (Uninitialized place) rest fit = made_again_of (n16 ends) Uninitialized place rest fit

  pub type_format : Format type_text (type_at pool) (TypeFits pool)
  unfolding type_at
  type_format = by_tag ends type_tag behind_type_tag (type_behind pool) (TypeFits pool) low_tag type_spelled type_again

  delta_and_type_format : Format (λ (p : ℕ × VerificationType). u2 p.0 ++ type_text p.1) (delta_and_type_at pool) (λ p. (p.0 < 2 ^ 16) × TypeFits pool p.1)
  unfolding delta_and_type_at
  delta_and_type_format = pair (n16 ends) type_format

  counted_types_format : Format counted_types_text (counted_types_at pool) (λ types. (length types < 2 ^ 16) × TypesFit pool types)
  unfolding counted_types_at
  counted_types_format = so_many type_format ends w16 (2 ^ 16) wide16

  appended_format : (count : ℕ) → Format (λ (p : ℕ × List VerificationType). u2 p.0 ++ types_text p.1) (appended_at pool count) (λ p. (p.0 < 2 ^ 16) × ((length p.1 ≡ count) × TypesFit pool p.1))
  unfolding appended_at
  appended_format count = pair (n16 ends) (several type_format count)

  full_format : Format (λ (p : ℕ × (List VerificationType × List VerificationType)). u2 p.0 ++ (counted_types_text p.1.0 ++ counted_types_text p.1.1)) (full_at pool)
      (λ p. (p.0 < 2 ^ 16) × (((length p.1.0 < 2 ^ 16) × TypesFit pool p.1.0) × ((length p.1.1 < 2 ^ 16) × TypesFit pool p.1.1)))
  unfolding full_at
  full_format = pair (n16 ends) (pair counted_types_format counted_types_format)

  -- ---- frames

  abbrev FrameOf : ℕ → Frame → Type 0
  FrameOf = Tagged ends frame_tag behind_frame_tag (frame_behind pool) (FrameFits pool)

  frame_low : (x : Frame) → FrameFits pool x → frame_tag x < 2 ^ 8
  frame_low (Same delta) fit = omega (arith, fit.0)
  frame_low (SameLocals1StackItem delta item) fit = omega (arith, fit.0)
  frame_low (SameLocals1StackItemExtended delta item) fit = omega arith
  frame_low (Chop absent delta) fit = omega arith
  frame_low (SameExtended delta) fit = omega arith
  frame_low (Append delta locals) fit = omega (arith, fit.0.1)
  frame_low (Full delta locals stack) fit = omega arith

  frame_spelled : (tag : ℕ) → tag < 2 ^ 8 → Spelled behind_frame_tag (frame_behind pool tag) (FrameOf tag)
  unfolding frame_behind
  frame_spelled tag lt =
      either (ltb tag 64) _ _ (λ h. by_given (Same tag) refl ((ltb-true _ _ h, tt), refl)) (λ n1.
      either (ltb tag 128) _ _ (λ h. by_made type_format (SameLocals1StackItem (tag - 64)) (λ y fit. refl) (λ y fit.
      let a : 64 ≤ tag = ltb-false _ _ n1 in let b : tag < 128 = ltb-true _ _ h in
      ((omega arith, fit), omega arith))) (λ n2.
      either (ltb tag 247) _ _ (λ h. by_refused (fault.FrameTag tag)) (λ n3.
      either (eqb tag 247) _ _ (λ h. by_made delta_and_type_format (λ x. SameLocals1StackItemExtended x.0 x.1) (λ y fit. refl) (λ y fit. ((tt, fit), is_tag tag 247 h))) (λ n4.
      either (ltb tag 251) _ _ (λ h. by_made (n16 ends) (Chop (251 - tag)) (λ y fit. refl) (λ y fit.
      let a : 247 ≤ tag = ltb-false _ _ n3 in let b : tag < 251 = ltb-true _ _ h in let d : tag ≢ 247 = eqb-false _ _ n4 in
      (((omega arith, omega arith), fit), omega arith))) (λ n5.
      either (eqb tag 251) _ _ (λ h. by_made (n16 ends) SameExtended (λ y fit. refl) (λ y fit. ((tt, fit), is_tag tag 251 h))) (λ n6.
      either (ltb tag 255) _ _ (λ h. by_made (appended_format (tag - 251)) (λ x. Append x.0 x.1) (λ y fit. refl) (λ y fit.
      let a : 251 ≤ tag = ltb-false _ _ n5 in let b : tag < 255 = ltb-true _ _ h in let d : tag ≢ 251 = eqb-false _ _ n6 in
      let len : length y.1 ≡ tag - 251 = fit.1.0 in
      (((omega arith, omega arith), (fit.0, fit.1.1)), omega arith))) (λ n7.
      by_made full_format (λ x. Full x.0 x.1.0 x.1.1) (λ y fit. refl) (λ y fit.
      let a : 255 ≤ tag = ltb-false _ _ n7 in
      (((fit.1.0.0, fit.1.1.0), (fit.0, (fit.1.0.1, fit.1.1.1))), omega arith)))))))))

  frame_again : (x : Frame) (rest : List ℕ) → FrameFits pool x → frame_behind pool (frame_tag x) (behind_frame_tag x ++ rest) ≡ Ok (x, rest)
  unfolding frame_behind
  frame_again (Same delta) rest fit = rw (lt-ltb delta 64 fit.0) refl
  frame_again (SameLocals1StackItem delta item) rest fit =
      let low : delta < 64 = fit.0 in
      let e1 : ltb (64 + delta) 64 ≡ false = le-ltb _ _ (omega arith) in
      let e2 : ltb (64 + delta) 128 ≡ true = lt-ltb _ _ (omega arith) in
      let back : (64 + delta) - 64 ≡ delta = omega arith in
      rw (e1, e2, back) (made_again_of type_format (SameLocals1StackItem delta) item rest fit.1)
  frame_again (SameLocals1StackItemExtended delta item) rest fit = made_again_of delta_and_type_format (λ x. SameLocals1StackItemExtended x.0 x.1) (delta, item) rest fit.1
  frame_again (Chop absent delta) rest fit =
      let some : 0 < absent = fit.0.0 in let few : absent < 4 = fit.0.1 in
      let e1 : ltb (251 - absent) 64 ≡ false = le-ltb _ _ (omega arith) in
      let e2 : ltb (251 - absent) 128 ≡ false = le-ltb _ _ (omega arith) in
      let e3 : ltb (251 - absent) 247 ≡ false = le-ltb _ _ (omega arith) in
      let e4 : eqb (251 - absent) 247 ≡ false = ne_eqb _ _ (λ e. omega arith) in
      let e5 : ltb (251 - absent) 251 ≡ true = lt-ltb _ _ (omega arith) in
      let back : 251 - (251 - absent) ≡ absent = omega arith in
      rw (e1, e2, e3, e4, e5, back) (made_again_of (n16 ends) (Chop absent) delta rest fit.1)
  frame_again (SameExtended delta) rest fit = made_again_of (n16 ends) SameExtended delta rest fit.1
  frame_again (Append delta locals) rest fit =
      let some : 0 < length locals = fit.0.0 in let few : length locals < 4 = fit.0.1 in
      let e1 : ltb (251 + length locals) 64 ≡ false = le-ltb _ _ (omega arith) in
      let e2 : ltb (251 + length locals) 128 ≡ false = le-ltb _ _ (omega arith) in
      let e3 : ltb (251 + length locals) 247 ≡ false = le-ltb _ _ (omega arith) in
      let e4 : eqb (251 + length locals) 247 ≡ false = ne_eqb _ _ (λ e. omega arith) in
      let e5 : ltb (251 + length locals) 251 ≡ false = le-ltb _ _ (omega arith) in
      let e6 : eqb (251 + length locals) 251 ≡ false = ne_eqb _ _ (λ e. omega arith) in
      let e7 : ltb (251 + length locals) 255 ≡ true = lt-ltb _ _ (omega arith) in
      let back : (251 + length locals) - 251 ≡ length locals = omega arith in
      rw (e1, e2, e3, e4, e5, e6, e7, back) (made_again_of (appended_format (length locals)) (λ x. Append x.0 x.1) (delta, locals) rest (fit.1.0, (refl, fit.1.1)))
  frame_again (Full delta locals stack) rest fit = made_again_of full_format (λ x. Full x.0 x.1.0 x.1.1) (delta, (locals, stack)) rest (fit.1.0, ((fit.0.0, fit.1.1.0), (fit.0.1, fit.1.1.1)))

  pub frame_format : Format frame_text (frame_at pool) (FrameFits pool)
  unfolding frame_at
  frame_format = by_tag ends frame_tag behind_frame_tag (frame_behind pool) (FrameFits pool) frame_low frame_spelled frame_again

  pub frames_format : Format frames_text (frames_at pool) (FramesFit pool)
  unfolding frames_at
  frames_format = refitted (so_many frame_format ends w16 (2 ^ 16) wide16) (FramesFit pool)
      (λ frames fit. record { count = fit.0; each = fit.1 }) (λ frames fit. (fit.count, fit.each))

  each_sized : (frames : List Frame) → AllByRecursion (FrameFits pool) frames → AllByRecursion FrameIsSized frames
  each_sized [] fit = tt
  each_sized (frame ∷ frames) fit = (fit.0.0, each_sized frames fit.1)

  pub frames_sized : (frames : List Frame) → FramesFit pool frames → FramesAreSized frames
  frames_sized frames fit = record { count = fit.count; each = each_sized frames fit.each }

  -- what was read can be written
  pub read_sized : (bytes : List ℕ) (count : ℕ) (behind : List ℕ) (frames : List Frame) (rest : List ℕ) → IsBytes bytes → number_at ends w16 bytes ≡ Ok (count, behind) → many (frame_at pool) count behind ≡ Ok (frames, rest) → FramesAreSized frames
  unfolding frames_at
  read_sized bytes count behind frames rest fits n e =
      let read : frames_at pool bytes ≡ Ok (frames, rest) = rw n e in
      frames_sized frames (frames_format.takes bytes frames rest fits read).1
