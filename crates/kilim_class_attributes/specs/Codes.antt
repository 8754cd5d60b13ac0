-- The Code attribute (JVMS 4.7.3): its text, which have one, and how it is read.
use Rattle.std.specs.Prelude.{◌≡◌, ℕ, ◌<◌, ◌^◌, nat_lt, Bool, true, false, ◌&&◌, List, [], ◌++◌, length, Option, Some, None, Result, Ok}
use Rattle.std.specs.List.{list_any, AllByRecursion}
use Rattle.std.specs.Int.{w16, w32}
use Rattle.kilim_class_grammar.specs.Format.{IsBytes}
use Rattle.kilim_class_grammar.specs.Reader.{Reader, ◌>>=◌, number_at, bytes_at, both, followed, made, tested, counted, filled}
use Rattle.kilim_class_grammar.specs.Spelling.{u2, u4, list_text}
use Rattle.kilim_class_pool.specs.declared.entry.Entry.{Entry}
use Rattle.kilim_class_attributes.specs.declared.parts.fault.AttributeFault.{AttributeFault}
use Rattle.kilim_class_attributes.specs.declared.parts.fault.AttributeFault.TheVariants as fault
use Rattle.kilim_class_attributes.specs.declared.parts.name.AttributeName.{AttributeName}
use Rattle.kilim_class_attributes.specs.declared.parts.name.AttributeName.TheVariants as name
use Rattle.kilim_class_attributes.specs.declared.parts.index.EntryKind.TheVariants.{CatchType}
use Rattle.kilim_class_attributes.specs.parts.Indices.{index_at, IndexFits}
use Rattle.kilim_class_attributes.specs.parts.Frames.{frames_text, FramesAreSized, FramesFit, frames_at}
use Rattle.kilim_class_attributes.specs.declared.attribute.Place.TheVariants as place
use Rattle.kilim_class_attributes.specs.declared.attribute.ExceptionHandler.{ExceptionHandler}
use Rattle.kilim_class_attributes.specs.declared.attribute.CodeInfo.{CodeInfo}
use Rattle.kilim_class_attributes.specs.declared.attribute.CodeInfo.TheVariants.{StackMapTable, Raw}
use Rattle.kilim_class_attributes.specs.declared.attribute.CodeAttribute.{CodeAttribute}
use Rattle.kilim_class_attributes.specs.declared.attribute.Code.{Code}
use Rattle.kilim_class_attributes.specs.Lists.{turned, as_a, listed, EachAfter, named_bytes_at, named_text}
use Rattle.kilim_class_attributes.specs.Forms.{form_at, unless_twice}

-- ---- text

abbrev pub code_info_text : CodeInfo → List ℕ
code_info_text (StackMapTable frames) = frames_text frames
code_info_text (Raw bytes) = bytes

abbrev pub code_attribute_text : CodeAttribute → List ℕ
code_attribute_text attribute = named_text attribute.attribute_name_index (code_info_text attribute.info)

abbrev pub handler_text : ExceptionHandler → List ℕ
handler_text handler = (u2 handler.start_pc ++ u2 handler.end_pc) ++ (u2 handler.handler_pc ++ u2 handler.catch_type)

abbrev pub code_text : Code → List ℕ
code_text code =
    (u2 code.max_stack ++ u2 code.max_locals)
    ++ ((u4 (length code.code) ++ code.code)
    ++ (list_text handler_text code.exception_table ++ list_text code_attribute_text code.attributes))

-- ---- those that have a text

-- the numbers that their Rust types leave open
abbrev pub CodeInfoIsSized : CodeInfo → Type 0
CodeInfoIsSized (StackMapTable frames) = FramesAreSized frames
CodeInfoIsSized (Raw bytes) = Unit {0}

pub record CodeAttributeIsSized (attribute : CodeAttribute) : Type 0 where
  pub size : length (code_info_text attribute.info) < 2 ^ 32
  pub info : CodeInfoIsSized attribute.info

pub record CodeIsSized (code : Code) : Type 0 where
  pub size : length code.code < 2 ^ 32
  pub handlers : length code.exception_table < 2 ^ 16
  pub count : length code.attributes < 2 ^ 16
  pub each : AllByRecursion CodeAttributeIsSized code.attributes

abbrev pub code_info_form : CodeInfo → Option AttributeName
code_info_form (StackMapTable frames) = Some name.StackMapTable
code_info_form (Raw bytes) = None

-- whether an attribute has this form, the one in code that may stand once
abbrev pub code_info_is : AttributeName → CodeInfo → Bool
code_info_is name.StackMapTable (StackMapTable frames) = true
code_info_is _ _ = false

abbrev pub code_repeats : AttributeName → List CodeAttribute → Bool
code_repeats form before = list_any (λ a. code_info_is form a.info) before

abbrev pub CodeInfoFits : List Entry → CodeInfo → Type 0
CodeInfoFits pool (StackMapTable frames) = FramesFit pool frames
CodeInfoFits pool (Raw bytes) = IsBytes bytes

pub record CodeAttributeFits (pool : List Entry) (before : List CodeAttribute) (attribute : CodeAttribute) : Type 0 where
  pub below : attribute.attribute_name_index < 2 ^ 16
  pub form : form_at pool place.Code attribute.attribute_name_index ≡ Ok (code_info_form attribute.info)
  pub once : unless_twice code_repeats (code_info_form attribute.info) before ≡ Ok (code_info_form attribute.info)
  pub size : length (code_info_text attribute.info) < 2 ^ 32
  pub info : CodeInfoFits pool attribute.info

pub record HandlerFits (pool : List Entry) (handler : ExceptionHandler) : Type 0 where
  pub start : handler.start_pc < 2 ^ 16
  pub end : handler.end_pc < 2 ^ 16
  pub place : handler.handler_pc < 2 ^ 16
  pub caught : IndexFits pool CatchType handler.catch_type

pub record CodeFits (pool : List Entry) (code : Code) : Type 0 where
  pub max_stack : code.max_stack < 2 ^ 16
  pub max_locals : code.max_locals < 2 ^ 16
  pub some : 0 < length code.code
  pub few : length code.code < 65536
  pub bytes : IsBytes code.code
  pub handlers : length code.exception_table < 2 ^ 16
  pub each_handler : AllByRecursion (HandlerFits pool) code.exception_table
  pub count : length code.attributes < 2 ^ 16
  pub each : EachAfter (CodeAttributeFits pool) [] code.attributes

-- ---- reading, in the bytes of a Code attribute

abbrev pub ends : AttributeFault
ends = fault.Length name.Code

-- what an attribute of a form holds
unfoldable pub code_info_of : List Entry → Option AttributeName → List ℕ → Result CodeInfo AttributeFault
code_info_of pool (Some name.StackMapTable) bytes = as_a StackMapTable (filled (fault.Length name.StackMapTable) (frames_at pool) bytes)
code_info_of pool _ bytes = Ok (Raw bytes)

-- The name comes first, then whether the attribute stands twice, and then what it holds.
unfoldable pub code_attribute_of : List Entry → List CodeAttribute → ℕ × List ℕ → Result CodeAttribute AttributeFault
code_attribute_of pool before x = do
  form ← form_at pool place.Code x.0
  once ← unless_twice code_repeats form before
  info ← code_info_of pool once x.1
  Ok (record { attribute_name_index = x.0; info = info })

unfoldable pub code_attribute_at : List Entry → List CodeAttribute → Reader AttributeFault CodeAttribute
code_attribute_at pool before = turned (code_attribute_of pool before) (named_bytes_at ends)

-- 1 to 65,535 bytes
abbrev pub is_code_length : ℕ → Bool
is_code_length n = nat_lt 0 n && nat_lt n 65536

unfoldable pub code_bytes_at : Reader AttributeFault (List ℕ)
code_bytes_at = made (λ x. x.1) (followed (tested is_code_length (λ n. ends) (number_at ends w32)) (bytes_at ends))

abbrev pub two_at : Reader AttributeFault (ℕ × ℕ)
two_at = both (number_at ends w16) (number_at ends w16)

unfoldable pub handler_at : List Entry → Reader AttributeFault ExceptionHandler
handler_at pool =
    made (λ x. record { start_pc = x.0.0; end_pc = x.0.1; handler_pc = x.1.0; catch_type = x.1.1 })
    (both two_at (both (number_at ends w16) (index_at pool CatchType ends)))

unfoldable pub handlers_at : List Entry → Reader AttributeFault (List ExceptionHandler)
handlers_at pool = counted ends w16 (handler_at pool)

unfoldable pub code_at : List Entry → Reader AttributeFault Code
code_at pool =
    made (λ x. record { max_stack = x.0.0; max_locals = x.0.1; code = x.1.0; exception_table = x.1.1.0; attributes = x.1.1.1 })
    (both two_at (both code_bytes_at (both (handlers_at pool) (listed ends (code_attribute_at pool)))))
