-- The Code attribute both ways (JVMS 4.7.3).
use Rattle.std.proofs.Common.{◌≡◌, ◌⊎◌, ℕ, ◌^◌, ◌<◌, Bool, true, false, ltb, List, ◌++◌, length, Option, Some, None, Ok, refl, sym, ap, subst, ◌∙◌, append_assoc, arith, inl, inr}
use Rattle.std.specs.Prelude.{◌&&◌}
use Rattle.std.specs.List.{AllByRecursion}
use Rattle.std.specs.Int.{w16, w32}
use Rattle.std.proofs.lemmas.Bool.{ltb-true, lt-ltb}
use Rattle.kilim_class_grammar.specs.Reader.{Reader, number_at, bytes_at, followed, made, tested, filled}
use Rattle.kilim_class_grammar.specs.Spelling.{u2, u4, list_text}
use Rattle.kilim_class_grammar.proofs.Bytes.{IsBytes, Takes, wide16}
use Rattle.kilim_class_grammar.proofs.Formats.{Format, well_is, n16, n32, raw, bytes_again, pair, follow, passed, made_of, dressed, refitted, so_many, filled_takes, filled_again}
use Rattle.kilim_class_pool.specs.declared.entry.Entry.{Entry}
use Rattle.kilim_class_pool.specs.declared.entry.Entry.TheVariants as entry
use Rattle.kilim_class_pool.specs.Entries.{entry_at}
use Rattle.kilim_class_attributes.specs.declared.parts.fault.AttributeFault.{AttributeFault}
use Rattle.kilim_class_attributes.specs.declared.parts.fault.AttributeFault.TheVariants as fault
use Rattle.kilim_class_attributes.specs.declared.parts.name.AttributeName.{AttributeName}
use Rattle.kilim_class_attributes.specs.declared.parts.name.AttributeName.TheVariants as name
use Rattle.kilim_class_attributes.specs.declared.parts.index.EntryKind.TheVariants.{CatchType}
use Rattle.kilim_class_attributes.specs.parts.Names.{named}
use Rattle.kilim_class_attributes.specs.parts.Frames.{frames_at}
use Rattle.kilim_class_attributes.specs.parts.Laws.{PartsAreSpelled}
use Rattle.kilim_class_attributes.specs.declared.attribute.Place.TheVariants as place
use Rattle.kilim_class_attributes.specs.declared.attribute.CodeInfo.{CodeInfo}
use Rattle.kilim_class_attributes.specs.declared.attribute.CodeInfo.TheVariants.{StackMapTable, Raw}
use Rattle.kilim_class_attributes.specs.declared.attribute.CodeAttribute.{CodeAttribute}
use Rattle.kilim_class_attributes.specs.Forms.{form_in, form_of, form_by, form_at}
use Rattle.kilim_class_attributes.specs.Codes.{code_info_text, code_attribute_text, handler_text, code_text, code_info_form, code_repeats, CodeInfoFits, CodeAttributeFits, HandlerFits, CodeFits, ends, code_info_of, code_attribute_of, code_attribute_at, is_code_length, code_bytes_at, two_at, handler_at, handlers_at, code_at}
use Rattle.kilim_class_attributes.proofs.Lists.{listed_format, as_ok}
use Rattle.kilim_class_attributes.proofs.Named.{Holds, by_name}

-- ---- attributes in code

in_code : (n : Option AttributeName) → (form_in place.Code n ≡ None) ⊎ (form_in place.Code n ≡ Some name.StackMapTable)
in_code None = inl refl
in_code (Some name.ConstantValue) = inl refl
in_code (Some name.Code) = inl refl
in_code (Some name.StackMapTable) = inr refl
in_code (Some name.Exceptions) = inl refl
in_code (Some name.RuntimeVisibleAnnotations) = inl refl
in_code (Some name.RuntimeInvisibleAnnotations) = inl refl
in_code (Some name.RuntimeVisibleParameterAnnotations) = inl refl
in_code (Some name.RuntimeInvisibleParameterAnnotations) = inl refl

code_forms : (index : ℕ) (e : Option Entry) (f : Option AttributeName) → form_by place.Code index e ≡ Ok f → (f ≡ None) ⊎ (f ≡ Some name.StackMapTable)
unfolding form_of
code_forms index (Some (entry.Utf8 units)) f h =
    subst (λ (g : Option AttributeName). (g ≡ None) ⊎ (g ≡ Some name.StackMapTable)) (well_is {F = AttributeFault} (form_in place.Code (named units)) f h) (in_code (named units))
code_forms index _ f h = absurd cc

module _ (given : PartsAreSpelled) (pool : List Entry) where
  abbrev CodeHolds : Option AttributeName → List ℕ → CodeInfo → Type 0
  CodeHolds = Holds code_info_text code_info_form (CodeInfoFits pool)

  holds_raw : (bytes : List ℕ) (i : CodeInfo) → IsBytes bytes → code_info_of pool None bytes ≡ Ok i → CodeHolds None bytes i
  unfolding code_info_of
  holds_raw bytes i fits e = subst (λ (x : CodeInfo). CodeHolds None bytes x) (well_is {F = AttributeFault} (Raw bytes) i e) (record { spelled = refl; formed = refl; fit = fits })

  holds_frames : (bytes : List ℕ) (i : CodeInfo) → IsBytes bytes → code_info_of pool (Some name.StackMapTable) bytes ≡ Ok i → CodeHolds (Some name.StackMapTable) bytes i
  unfolding code_info_of
  holds_frames bytes i fits e =
      let a = as_ok StackMapTable (filled (fault.Length name.StackMapTable) (frames_at pool) bytes) i e in
      let t = filled_takes (given.frames pool) (fault.Length name.StackMapTable) bytes a.0 fits a.1 in
      subst (λ (x : CodeInfo). CodeHolds (Some name.StackMapTable) bytes x) a.2 (record { spelled = t.0; formed = refl; fit = t.1 })

  content_takes : (f : Option AttributeName) (n : ℕ) (bytes : List ℕ) (i : CodeInfo) → form_at pool place.Code n ≡ Ok f → IsBytes bytes → code_info_of pool f bytes ≡ Ok i → CodeHolds f bytes i
  unfolding form_at
  content_takes f n bytes i formed fits e =
      elim (code_forms n (entry_at pool n) f formed) [
        | inl none ↦
            subst (λ (g : Option AttributeName). CodeHolds g bytes i) (sym none) (holds_raw bytes i fits (subst (λ (g : Option AttributeName). code_info_of pool g bytes ≡ Ok i) none e))
        | inr some ↦
            subst (λ (g : Option AttributeName). CodeHolds g bytes i) (sym some) (holds_frames bytes i fits (subst (λ (g : Option AttributeName). code_info_of pool g bytes ≡ Ok i) some e))
      ]

  content_again : (i : CodeInfo) → CodeInfoFits pool i → code_info_of pool (code_info_form i) (code_info_text i) ≡ Ok i
  unfolding code_info_of
  content_again (StackMapTable frames) fit = rw (filled_again (given.frames pool) (fault.Length name.StackMapTable) frames fit) refl
  content_again (Raw bytes) fit = refl

  code_attribute_format : (before : List CodeAttribute) → Format code_attribute_text (code_attribute_at pool before) (CodeAttributeFits pool before)
  unfolding code_attribute_at code_attribute_of
  code_attribute_format before =
      refitted (by_name pool place.Code ends (λ n i. record { attribute_name_index = n; info = i }) (λ b. b.attribute_name_index) (λ b. b.info) (λ b. refl) (λ n i. refl) (λ n i. refl)
      code_info_text code_info_form (CodeInfoFits pool) code_repeats (code_info_of pool) content_takes content_again before)
      (CodeAttributeFits pool before)
      (λ b fit. record { below = fit.below; form = fit.formed; once = fit.once; size = fit.size; info = fit.fit })
      (λ b fit. record { below = fit.below; formed = fit.form; once = fit.once; size = fit.size; fit = fit.info })

  -- ---- handlers

  two_format : Format (λ (p : ℕ × ℕ). u2 p.0 ++ u2 p.1) two_at (λ p. (p.0 < 2 ^ 16) × (p.1 < 2 ^ 16))
  two_format = pair (n16 ends) (n16 ends)

  handler_format : Format handler_text (handler_at pool) (HandlerFits pool)
  unfolding handler_at
  handler_format =
      refitted (dressed (pair two_format (pair (n16 ends) (given.indices pool CatchType ends)))
      (λ x. record { start_pc = x.0.0; end_pc = x.0.1; handler_pc = x.1.0; catch_type = x.1.1 })
      (λ h. ((h.start_pc, h.end_pc), (h.handler_pc, h.catch_type))) (λ h. refl) (λ x fit. refl))
      (HandlerFits pool)
      (λ h fit. record { start = fit.0.0; end = fit.0.1; place = fit.1.0; caught = fit.1.1 })
      (λ h fit. ((fit.start, fit.end), (fit.place, fit.caught)))

  handlers_format : Format (list_text handler_text) (handlers_at pool) (λ hs. (length hs < 2 ^ 16) × AllByRecursion (HandlerFits pool) hs)
  unfolding handlers_at
  handlers_format = so_many handler_format ends w16 (2 ^ 16) wide16

  -- ---- the code itself

  pub record IsCode (code : List ℕ) : Type 0 where
    pub some : 0 < length code
    pub few : length code < 65536
    pub bytes : IsBytes code

  both_pass : (a b : Bool) → (a && b) ≡ true → (a ≡ true) × (b ≡ true)
  both_pass true b e = (refl, e)
  both_pass false b e = absurd cc

  abbrev sized_code : Reader AttributeFault (ℕ × List ℕ)
  sized_code = followed (tested is_code_length (λ n. ends) (number_at ends w32)) (bytes_at ends)

  sized_format : Format (λ (p : ℕ × List ℕ). u4 p.0 ++ p.1) sized_code (λ p. ((p.0 < 2 ^ 32) × (is_code_length p.0 ≡ true)) × ((length p.1 ≡ p.0) × IsBytes p.1))
  sized_format = follow (passed (n32 ends) is_code_length (λ n. ends)) {text' = λ n xs. xs} {at' = bytes_at ends} {Fits' = λ n xs. (length xs ≡ n) × IsBytes xs} (λ n fit. raw ends n)

  code_bytes_takes : (bytes code rest : List ℕ) → IsBytes bytes → code_bytes_at bytes ≡ Ok (code, rest) → Takes bytes (u4 (length code) ++ code) rest × IsCode code
  unfolding code_bytes_at
  code_bytes_takes bytes code rest fits e =
      let m = made_of sized_format (λ x. x.1) bytes code rest fits e in
      let len : length code ≡ m.0.0 = ap length (sym m.1) ∙ m.3.1.0 in
      let p = both_pass (ltb 0 m.0.0) (ltb m.0.0 65536) m.3.0.1 in
      let low : 0 < m.0.0 = ltb-true _ _ p.0 in
      let high : m.0.0 < 65536 = ltb-true _ _ p.1 in (
        subst (λ (k : ℕ). Takes bytes (u4 k ++ code) rest) (sym len) (subst (λ (c : List ℕ). Takes bytes (u4 m.0.0 ++ c) rest) m.1 m.2),
        record { some = omega arith; few = omega arith; bytes = subst IsBytes m.1 m.3.1.1 },
      )

  code_bytes_again : (code rest : List ℕ) → IsCode code → code_bytes_at ((u4 (length code) ++ code) ++ rest) ≡ Ok (code, rest)
  unfolding code_bytes_at
  code_bytes_again code rest fit =
      let low : ltb 0 (length code) ≡ true = lt-ltb _ _ fit.some in
      let high : ltb (length code) 65536 ≡ true = lt-ltb _ _ fit.few in
      let size : length code < 2 ^ 32 = omega (arith, fit.few) in
      ap (made (λ x. x.1) sized_code) (append_assoc (u4 (length code)) code rest)
      ∙ rw ((n32 ends).again (length code) (code ++ rest) size, low, high, bytes_again ends (length code) code rest refl) refl

  code_bytes_format : Format (λ code. u4 (length code) ++ code) code_bytes_at IsCode
  code_bytes_format = record { takes = code_bytes_takes; again = code_bytes_again }

  pub code_format : Format code_text (code_at pool) (CodeFits pool)
  unfolding code_at
  code_format =
      refitted (dressed (pair two_format (pair code_bytes_format (pair handlers_format (listed_format code_attribute_format ends))))
      (λ x. record { max_stack = x.0.0; max_locals = x.0.1; code = x.1.0; exception_table = x.1.1.0; attributes = x.1.1.1 })
      (λ c. ((c.max_stack, c.max_locals), (c.code, (c.exception_table, c.attributes)))) (λ c. refl) (λ x fit. refl))
      (CodeFits pool)
      (λ c fit. record { max_stack = fit.0.0; max_locals = fit.0.1; some = fit.1.0.some; few = fit.1.0.few; bytes = fit.1.0.bytes; handlers = fit.1.1.0.0; each_handler = fit.1.1.0.1; count = fit.1.1.1.0; each = fit.1.1.1.1 })
      (λ c fit. ((fit.max_stack, fit.max_locals), (record { some = fit.some; few = fit.few; bytes = fit.bytes }, ((fit.handlers, fit.each_handler), (fit.count, fit.each)))))
