-- The body of a woven method links to that of the woven program.
use Rattle.std.proofs.Common.{◌≡◌, ℕ, Bool, true, false, if◌then◌else◌, List, [], ◌∷◌, ◌++◌, length, Option, Some, None, option_map, Ok, codes, refl, sym, ap, subst, ◌∙◌}
use Rattle.std.specs.List.{AllByRecursion, flat_map}
use Rattle.std.proofs.lemmas.List.{append-nil}
use Rattle.std.proofs.lemmas.Option.{none-some, same_Some}
use Rattle.kilim_class_attributes.specs.declared.attribute.Code.{Code}
use Rattle.kilim_class_attributes.specs.declared.attribute.CodeAttribute.{CodeAttribute}
use Rattle.kilim_class_attributes.specs.declared.parts.frame.Frame.{Frame as FrameForm}
use Rattle.kilim_class_code.specs.Code.{Placed, code_text, falls_off}
use Rattle.kilim_class_code.specs.Exact.{BodyFits, body_fault, target_or_end}
use Rattle.kilim_class_file.specs.declared.class_file.ClassFile.{ClassFile}
use Rattle.kilim_class_file.specs.declared.class_file.MemberInfo.{MemberInfo}
use Rattle.kilim_class_pool.specs.declared.entry.Entry.{Entry}
use Rattle.kilim_class_code.specs.declared.opcodes.instr.RawInstr.{RawInstr}
use Rattle.kilim_class_code.specs.declared.opcodes.instr.RawInstr.TheVariants as raw
use Rattle.kilim_program.specs.declared.class.Handler.{Handler}
use Rattle.kilim_program.specs.declared.instr.Instr.{Instr}
use Rattle.kilim_program.specs.declared.names.ClassId.{ClassId}
use Rattle.kilim_program.specs.declared.verified.Frame.{Frame}
use Rattle.kilim_program.specs.declared.verified.VType.{VType}
use Rattle.kilim_class_attributes.specs.declared.attribute.CodeInfo.TheVariants as part
use Rattle.kilim_link_spec.specs.Mentions.{instrs_if}
use Rattle.kilim_program.specs.Program.{Program}
use Rattle.kilim_program.specs.Names.{is_empty}
use Rattle.kilim_link_spec.specs.World.{World, declared_method}
use Rattle.kilim_program.specs.Names.{◌>>=◌}
use Rattle.kilim_link_spec.specs.Types.{each_of, itself, with_first}
use Rattle.kilim_link_spec.specs.Code.{instr_in, decoded, code_of, placed_in}
use Rattle.kilim_link_spec.specs.Frames.{frames_from, frames_in, table_in, entry_locals}
use Rattle.kilim_link_spec.specs.Laws.{DecodedIsDecode}
use Rattle.kilim_link_spec.specs.Linked.{body_with, body_in, handlers_in}
use Rattle.kilim_class_making.specs.pool_needs.Adding.{text_index}
use Rattle.kilim_theorems.specs.woven_files.pool.Pools.{SameOperands}
use Rattle.kilim_weave_file_spec.specs.Raw.{raw_code}
use Rattle.kilim_weave_file_spec.specs.FullFrames.{full_frames}
use Rattle.kilim_theorems.specs.woven_files.Resolving.{WorldsAgree}
use Rattle.kilim_weave_file_spec.specs.WovenFile.{MethodPair, woven_code, woven_bytes, table_by, old_table, has_calls}
use Rattle.kilim_theorems.proofs.woven_files.Instrs.{code_back, kept_index}
use Rattle.kilim_theorems.proofs.woven_files.FramesBack.{frames_back}
use Rattle.kilim_theorems.specs.woven_files.Standing.{CallsNone, FrameFound, Increase, CodeCallsNone, CodeStands, FramesStand}

-- ---- code that is kept

pub same_back : (w : Program) (u v : World) → WorldsAgree w u v → (old pool : List Entry) → SameOperands old pool → (r : RawInstr) (i : Instr) → CallsNone w i → instr_in u old r ≡ Some i → instr_in v pool r ≡ Some i
unfolding instr_in
same_back w u v agree old pool same (raw.Constant number index) i none h = kept_index w u v agree old pool same number index i none h
same_back w u v agree old pool same (raw.Index number index) i none h = kept_index w u v agree old pool same number index i none h
same_back w u v agree old pool same (raw.Plain number) i none h = h
same_back w u v agree old pool same (raw.Byte number n) i none h = h
same_back w u v agree old pool same (raw.Short number n) i none h = h
same_back w u v agree old pool same (raw.Local number slot) i none h = h
same_back w u v agree old pool same (raw.WideLocal number slot) i none h = h
same_back w u v agree old pool same (raw.Iinc number slot n) i none h = h
same_back w u v agree old pool same (raw.WideIinc number slot n) i none h = h
same_back w u v agree old pool same (raw.Jump number to) i none h = h
same_back w u v agree old pool same (raw.WideJump number to) i none h = h
same_back w u v agree old pool same (raw.NewArray number code) i none h = h
same_back w u v agree old pool same (raw.TableSwitch number default low targets) i none h = h
same_back w u v agree old pool same (raw.LookupSwitch number default pairs) i none h = h

-- an instruction with its place
placed_by : (w : Program) (u v : World) → WorldsAgree w u v → (old pool : List Entry) → SameOperands old pool → (r : Placed) (e : ℕ × Instr) → CallsNone w e.1 → (o : Option Instr) → instr_in u old r.1 ≡ o → option_map (λ i. (r.0, i)) o ≡ Some e → placed_in v pool r ≡ Some e
placed_by w u v agree old pool same r e none None is h = absurd (none-some e h)
placed_by w u v agree old pool same r e none (Some i) is h =
    let x = same_Some (r.0, i) e h in
    ap (option_map (λ j. (r.0, j))) (same_back w u v agree old pool same r.1 i (subst (λ (z : ℕ × Instr). CallsNone w z.1) (sym x) none) is) ∙ h

kept_by : (w : Program) (u v : World) → WorldsAgree w u v → (old pool : List Entry) → SameOperands old pool → (r : Placed) (rs : List Placed) (code : List (ℕ × Instr)) → CodeCallsNone w code →
    ((more : List (ℕ × Instr)) → CodeCallsNone w more → each_of (placed_in u old) rs ≡ Some more → each_of (placed_in v pool) rs ≡ Some more) →
    (o : Option (ℕ × Instr)) (os : Option (List (ℕ × Instr))) → placed_in u old r ≡ o → each_of (placed_in u old) rs ≡ os → with_first o os ≡ Some code → each_of (placed_in v pool) (r ∷ rs) ≡ Some code
kept_by w u v agree old pool same r rs code none rest None os fo fs h = absurd (none-some code h)
kept_by w u v agree old pool same r rs code none rest (Some e) None fo fs h = absurd (none-some code h)
kept_by w u v agree old pool same r rs code none rest (Some e) (Some es) fo fs h =
    let x : e ∷ es ≡ code = same_Some (e ∷ es) code h in
    let n : CodeCallsNone w (e ∷ es) = subst (CodeCallsNone w) (sym x) none in
    ap (λ o. with_first o (each_of (placed_in v pool) rs)) (placed_by w u v agree old pool same r e n.0 (instr_in u old r.1) refl fo)
    ∙ (ap (with_first (Some e)) (rest es n.1 fs) ∙ h)

pub code_kept : (w : Program) (u v : World) → WorldsAgree w u v → (old pool : List Entry) → SameOperands old pool → (rs : List Placed) (code : List (ℕ × Instr)) → CodeCallsNone w code →
    each_of (placed_in u old) rs ≡ Some code → each_of (placed_in v pool) rs ≡ Some code
code_kept w u v agree old pool same [] code none h = h
code_kept w u v agree old pool same (r ∷ rs) code none h =
    kept_by w u v agree old pool same r rs code none (λ more n g. code_kept w u v agree old pool same rs more n g) (placed_in u old r) (each_of (placed_in u old) rs) refl refl h

-- ---- code that is woven is read again

pub text_decoded : DecodedIsDecode → (code : List Placed) → BodyFits code → decoded (code_text code) ≡ Ok code
unfolding body_fault
text_decoded law code fits = law.whole (code_text code) code (record { stands = fits.stands; text = refl }) (ap (λ t. target_or_end t (falls_off code)) fits.targets ∙ ap (target_or_end None) fits.last)

woven_by : DecodedIsDecode → (w : Program) (u v : World) (old pool : List Entry) (at : ℕ → ℕ) (x : MethodPair) (code : Code) → (s : CodeStands w u v old pool at x code) → (b : Bool) → has_calls w x.method ≡ b →
    code_of v pool (decoded (if b then code_text (raw_code w old pool x.method.code x.counted s.olds) else code.code)) ≡ Some x.method.code
woven_by law w u v old pool at x code s true is =
    let h = s.woven is in
    ap (code_of v pool) (text_decoded law (raw_code w old pool x.method.code x.counted s.olds) h.0) ∙ code_back w u v s.agree old pool s.same s.texts at x.method.code x.counted s.olds h.1
woven_by law w u v old pool at x code s false is =
    let h = s.kept is in
    ap (code_of v pool) s.decoded_is ∙ code_kept w u v s.agree old pool s.same s.olds x.method.code h.0 h.1

pub woven_code_back : DecodedIsDecode → (w : Program) (u v : World) (old pool : List Entry) (at : ℕ → ℕ) (x : MethodPair) (code : Code) → CodeStands w u v old pool at x code → code_of v pool (decoded (woven_bytes w old pool x.method x.counted code)) ≡ Some x.method.code
woven_code_back law w u v old pool at x code s =
    ap (λ r. code_of v pool (decoded (if has_calls w x.method then code_text (raw_code w old pool x.method.code x.counted (instrs_if r)) else code.code))) s.decoded_is
    ∙ woven_by law w u v old pool at x code s (has_calls w x.method) refl

-- ---- frames

one_table : (frames : List FrameForm) → frames ++ [] ≡ frames
one_table frames = append-nil frames

-- without a table that is there: one where there are frames
table_if : Program → List Entry → List (ℕ × Frame) → List CodeAttribute
table_if w pool frames = if is_empty frames then [] else record { attribute_name_index = text_index pool (codes "StackMapTable"); info = part.StackMapTable (full_frames w pool 0 frames) } ∷ []

table_by_frames : (v : World) (w : Program) (pool : List Entry) (locals : List (Option VType)) (frames : List (ℕ × Frame)) → Increase 0 frames → AllByRecursion (λ (e : ℕ × Frame). FrameFound v w pool e.1) frames →
    each_of itself (frames_from v pool None locals (flat_map (λ (a : CodeAttribute). table_in a.info) (table_if w pool frames))) ≡ Some frames
unfolding frames_from table_if
table_by_frames v w pool locals [] i f = refl
table_by_frames v w pool locals (e ∷ es) i f =
    ap (λ fs. each_of itself (frames_from v pool None locals fs)) (one_table (full_frames w pool 0 (e ∷ es))) ∙ frames_back v w pool None 0 locals (e ∷ es) refl i f

table_back : (v : World) (w : Program) (pool : List Entry) (x : MethodPair) (locals : List (Option VType)) → FramesStand v w pool x → (o : Option ℕ) →
    each_of itself (frames_from v pool None locals (flat_map (λ (a : CodeAttribute). table_in a.info) (table_by w pool o x.method))) ≡ Some x.method.frames
unfolding table_if
table_back v w pool x locals s (Some name) =
    ap (λ fs. each_of itself (frames_from v pool None locals fs)) (one_table (full_frames w pool 0 x.method.frames)) ∙ frames_back v w pool None 0 locals x.method.frames refl s.increase s.found
table_back v w pool x locals s None = table_by_frames v w pool locals x.method.frames s.increase s.found

-- ---- the body

pub body_back : DecodedIsDecode → (w : Program) (u v : World) (file : ClassFile) (c : ClassId) (method : MemberInfo) (old : List Entry) (at : ℕ → ℕ) (x : MethodPair) (code : Code) →
    CodeStands w u v old file.constant_pool at x code → FramesStand v w file.constant_pool x → x.method.code_length ≡ length (woven_bytes w old file.constant_pool x.method x.counted code) →
    body_in v file c method (Some (woven_code w old file.constant_pool x.method x.counted code)) ≡ Some (record { max_stack = x.method.max_stack; max_locals = x.method.max_locals; code_length = x.method.code_length; code = x.method.code; frames = x.method.frames; handlers = x.method.handlers })
body_back law w u v file c method old at x code s f size =
    let pool = file.constant_pool in
    let frames : Option (List (ℕ × Frame)) = frames_in v file c (declared_method file method) (woven_code w old pool x.method x.counted code) in
    let woven : Code = woven_code w old pool x.method x.counted code in
    let table : Option (List Handler) = handlers_in v pool code.exception_table in
    let none : table ≡ Some x.method.handlers = ap (handlers_in v pool) s.rows ∙ ap (λ hs. Some hs) (sym s.handlers) in
    ap (λ i. i >>= λ instrs. table >>= λ hs. frames >>= λ fs. Some (body_with woven instrs hs fs)) (woven_code_back law w u v old pool at x code s)
    ∙ (ap (λ t. t >>= λ hs. frames >>= λ fs. Some (body_with woven x.method.code hs fs)) none
    ∙ (ap (λ g. g >>= λ fs. Some (body_with woven x.method.code x.method.handlers fs)) (table_back v w pool x (entry_locals v c (declared_method file method)) f (old_table code))
    ∙ ap (λ n. Some (record { max_stack = x.method.max_stack; max_locals = x.method.max_locals; code_length = n; code = x.method.code; frames = x.method.frames; handlers = x.method.handlers })) (sym size)))
