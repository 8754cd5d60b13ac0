-- What a method comes to, part by part.
use Rattle.std.proofs.Common.{◌≡◌, ℕ, List, length, Option, Some, None, Result, refl, sym, ap, subst, ◌∙◌}
use Rattle.std.specs.Prelude.{IfOk}
use Rattle.kilim_class_attributes.specs.declared.attribute.Code.{Code}
use Rattle.kilim_class_file.specs.declared.class_file.ClassFile.{ClassFile}
use Rattle.kilim_class_file.specs.declared.class_file.MemberInfo.{MemberInfo}
use Rattle.kilim_program.specs.declared.class.Handler.{Handler}
use Rattle.kilim_program.specs.declared.class.Method.{Method}
use Rattle.kilim_program.specs.declared.instr.Instr.{Instr}
use Rattle.kilim_program.specs.declared.names.ClassId.{ClassId}
use Rattle.kilim_program.specs.declared.ty.Ty.{Ty}
use Rattle.kilim_program.specs.declared.verified.Frame.{Frame}
use Rattle.kilim_program.specs.Names.{◌>>=◌}
use Rattle.kilim_class_descriptors.specs.declared.types.MethodText.{MethodText}
use Rattle.kilim_link_spec.specs.Code.{code_of, decoded}
use Rattle.kilim_link_spec.specs.Frames.{frames_in}
use Rattle.kilim_link_spec.specs.Linked.{body_in, body_with, code_attribute, handlers_in, linked_method, method_with}
use Rattle.kilim_link_spec.specs.Types.{method_text, result_in, types_in}
use Rattle.kilim_link_spec.specs.World.{World, declared_method}
use Rattle.kilim_link_spec.specs.declared.view.DeclaredMethod.{DeclaredMethod}
use Rattle.kilim_link_spec.specs.declared.named.Body.{Body}

-- ---- of its code

module _ (w : World) (file : ClassFile) (c : ClassId) (method : MemberInfo) (declared : DeclaredMethod) (declared_is : declared ≡ declared_method file method) (code : Code) where
  abbrev Parts : Type 0
  Parts = Option (List (ℕ × Instr) × List Handler)

  abbrev Frames : Type 0
  Frames = Option (List (ℕ × Frame))

  abbrev body : Parts → Frames → Option Body
  body parts frames = do
    x ← parts
    fs ← frames
    Some (body_with code x.0 x.1 fs)

  abbrev counted : ℕ → List (ℕ × Instr) → List Handler → List (ℕ × Frame) → Body
  counted count instrs handlers frames =
      record { max_stack = code.max_stack; max_locals = code.max_locals; code_length = count; code = instrs; frames = frames; handlers = handlers }

  abbrev both : Option (List (ℕ × Instr)) → Option (List Handler) → Parts
  both instrs handlers = do
    is ← instrs
    hs ← handlers
    Some (is, hs)

  abbrev apart : Option (List (ℕ × Instr)) → Option (List Handler) → Frames → Option Body
  apart instrs handlers frames = do
    is ← instrs
    hs ← handlers
    fs ← frames
    Some (body_with code is hs fs)

  one_by_one : (instrs : Option (List (ℕ × Instr))) (handlers : Option (List Handler)) (frames : Frames) → body (both instrs handlers) frames ≡ apart instrs handlers frames
  one_by_one None handlers frames = refl
  one_by_one (Some is) None frames = refl
  one_by_one (Some is) (Some hs) frames = refl

  abbrev Are : Parts → Type 0
  Are parts = parts ≡ both (code_of w file.constant_pool (decoded code.code)) (handlers_in w file.constant_pool code.exception_table)

  whole : (parts : Parts) → Are parts → body parts (frames_in w file c declared code) ≡ body_in w file c method (Some code)
  whole parts are =
      let instrs = code_of w file.constant_pool (decoded code.code) in
      let handlers = handlers_in w file.constant_pool code.exception_table in
      ap (λ (x : Parts). body x (frames_in w file c declared code)) are
      ∙ (one_by_one instrs handlers (frames_in w file c declared code)
      ∙ ap (λ (m : DeclaredMethod). apart instrs handlers (frames_in w file c m code)) declared_is)

  pub no_parts : (parts : Parts) → Are parts → parts ≡ None → None ≡ body_in w file c method (Some code)
  no_parts parts are none = ap (λ (x : Parts). body x (frames_in w file c declared code)) (sym none) ∙ whole parts are

  module _ (found : Parts) (are : Are found) (instrs : List (ℕ × Instr)) (handlers : List Handler) (there : found ≡ Some (instrs, handlers)) where
    with_frames : body (Some (instrs, handlers)) (frames_in w file c declared code) ≡ body_in w file c method (Some code)
    with_frames = ap (λ (x : Parts). body x (frames_in w file c declared code)) (sym there) ∙ whole found are

    pub no_frames : None ≡ frames_in w file c declared code → None ≡ body_in w file c method (Some code)
    no_frames none = ap (body (Some (instrs, handlers))) none ∙ with_frames

    pub has_body : (count : ℕ) (frames : List (ℕ × Frame)) → count ≡ length code.code → Some frames ≡ frames_in w file c declared code → Some (counted count instrs handlers frames) ≡ body_in w file c method (Some code)
    has_body count frames count_is fs = ap (λ (n : ℕ). Some (counted n instrs handlers frames)) count_is ∙ (ap (body (Some (instrs, handlers))) fs ∙ with_frames)

-- ---- of its types and its body

module _ (w : World) (file : ClassFile) (c : ClassId) (method : MemberInfo) (declared : DeclaredMethod) (declared_is : declared ≡ declared_method file method) (text : MethodText) (text_is : Some text ≡ method_text declared.descriptor) where
  abbrev made : Option (List Ty) → Option (Option Ty) → Option Body → Option Method
  made types gives found = do
    params ← types
    result ← gives
    b ← found
    Some (method_with w file c method params result b)

  all_made : made (types_in w text.params) (result_in w text.result) (body_in w file c method (code_attribute method)) ≡ linked_method w file c method
  all_made =
      let here : Some text ≡ method_text (declared_method file method).descriptor = text_is ∙ ap (λ (m : DeclaredMethod). method_text m.descriptor) declared_is in
      ap (λ (t : Option MethodText). t >>= λ (t : MethodText). made (types_in w t.params) (result_in w t.result) (body_in w file c method (code_attribute method))) here

  without_result : (types : Option (List Ty)) (found : Option Body) → None ≡ made types None found
  without_result None found = refl
  without_result (Some params) found = refl

  pub no_result : None ≡ result_in w text.result → None ≡ linked_method w file c method
  no_result none =
      without_result (types_in w text.params) (body_in w file c method (code_attribute method))
      ∙ (ap (λ (r : Option (Option Ty)). made (types_in w text.params) r (body_in w file c method (code_attribute method))) none ∙ all_made)

  pub no_types : None ≡ types_in w text.params → None ≡ linked_method w file c method
  no_types none = ap (λ (ts : Option (List Ty)). made ts (result_in w text.result) (body_in w file c method (code_attribute method))) none ∙ all_made

  module _ (params : List Ty) (gives : Option Ty) (types_are : Some params ≡ types_in w text.params) (gives_is : Some gives ≡ result_in w text.result) where
    with_types : made (Some params) (Some gives) (body_in w file c method (code_attribute method)) ≡ linked_method w file c method
    with_types =
        ap (λ (r : Option (Option Ty)). made (Some params) r (body_in w file c method (code_attribute method))) gives_is
        ∙ (ap (λ (ts : Option (List Ty)). made ts (result_in w text.result) (body_in w file c method (code_attribute method))) types_are ∙ all_made)

    pub no_body : None ≡ body_in w file c method (code_attribute method) → None ≡ linked_method w file c method
    no_body none = ap (made (Some params) (Some gives)) none ∙ with_types

    pub has_all : (body : Body) → Some body ≡ body_in w file c method (code_attribute method) → Some (method_with w file c method params gives body) ≡ linked_method w file c method
    has_all found is = ap (made (Some params) (Some gives)) is ∙ with_types
