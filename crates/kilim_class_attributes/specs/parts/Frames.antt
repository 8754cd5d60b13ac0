-- The frames of a StackMapTable (JVMS 4.7.4): their text, which have one, and how they are read.
use Rattle.std.specs.Prelude.{ℕ, ◌+◌, ◌-◌, ◌<◌, ◌^◌, ◌==◌, nat_lt, if◌then◌else◌, List, [], ◌++◌, length}
use Rattle.std.specs.List.{flat_map, AllByRecursion}
use Rattle.std.specs.Int.{w16}
use Rattle.kilim_class_grammar.specs.Reader.{Reader, number_at, given, both, made, many, counted}
use Rattle.kilim_class_grammar.specs.Spelling.{u1, u2}
use Rattle.kilim_class_pool.specs.declared.entry.Entry.{Entry}
use Rattle.kilim_class_attributes.specs.declared.parts.fault.AttributeFault.{AttributeFault}
use Rattle.kilim_class_attributes.specs.declared.parts.fault.AttributeFault.TheVariants as fault
use Rattle.kilim_class_attributes.specs.declared.parts.name.AttributeName.TheVariants.{StackMapTable}
use Rattle.kilim_class_attributes.specs.declared.parts.index.EntryKind.TheVariants.{Class}
use Rattle.kilim_class_attributes.specs.declared.parts.frame.VerificationType.{VerificationType}
use Rattle.kilim_class_attributes.specs.declared.parts.frame.VerificationType.TheVariants.{Top, Integer, Float, Double, Long, Null, UninitializedThis, Object, Uninitialized}
use Rattle.kilim_class_attributes.specs.declared.parts.frame.Frame.{Frame}
use Rattle.kilim_class_attributes.specs.declared.parts.frame.Frame.TheVariants.{Same, SameLocals1StackItem, SameLocals1StackItemExtended, Chop, SameExtended, Append, Full}
use Rattle.kilim_class_attributes.specs.parts.Indices.{index_at, IndexFits}
use Rattle.kilim_class_attributes.specs.parts.Choices.{refused, tagged}

-- ---- verification types

abbrev pub type_tag : VerificationType → ℕ
type_tag Top = 0
type_tag Integer = 1
type_tag Float = 2
type_tag Double = 3
type_tag Long = 4
type_tag Null = 5
type_tag UninitializedThis = 6
type_tag (Object class) = 7
type_tag (Uninitialized place) = 8

abbrev pub behind_type_tag : VerificationType → List ℕ
behind_type_tag (Object class) = u2 class
behind_type_tag (Uninitialized place) = u2 place
behind_type_tag _ = []

abbrev pub type_text : VerificationType → List ℕ
type_text type = u1 (type_tag type) ++ behind_type_tag type

abbrev pub TypeFits : List Entry → VerificationType → Type 0
TypeFits pool (Object class) = IndexFits pool Class class
TypeFits pool (Uninitialized place) = place < 2 ^ 16
TypeFits pool _ = Unit {0}

abbrev pub types_text : List VerificationType → List ℕ
types_text types = flat_map type_text types

-- ---- frames

abbrev pub frame_tag : Frame → ℕ
frame_tag (Same delta) = delta
frame_tag (SameLocals1StackItem delta item) = 64 + delta
frame_tag (SameLocals1StackItemExtended delta item) = 247
frame_tag (Chop absent delta) = 251 - absent
frame_tag (SameExtended delta) = 251
frame_tag (Append delta locals) = 251 + length locals
frame_tag (Full delta locals stack) = 255

abbrev pub counted_types_text : List VerificationType → List ℕ
counted_types_text types = u2 (length types) ++ types_text types

abbrev pub behind_frame_tag : Frame → List ℕ
behind_frame_tag (Same delta) = []
behind_frame_tag (SameLocals1StackItem delta item) = type_text item
behind_frame_tag (SameLocals1StackItemExtended delta item) = u2 delta ++ type_text item
behind_frame_tag (Chop absent delta) = u2 delta
behind_frame_tag (SameExtended delta) = u2 delta
behind_frame_tag (Append delta locals) = u2 delta ++ types_text locals
behind_frame_tag (Full delta locals stack) = u2 delta ++ (counted_types_text locals ++ counted_types_text stack)

abbrev pub frame_text : Frame → List ℕ
frame_text frame = u1 (frame_tag frame) ++ behind_frame_tag frame

abbrev pub frames_text : List Frame → List ℕ
frames_text frames = u2 (length frames) ++ flat_map frame_text frames

-- the numbers of a frame that its Rust type leaves open
abbrev pub FrameIsSized : Frame → Type 0
FrameIsSized (Same delta) = delta < 64
FrameIsSized (SameLocals1StackItem delta item) = delta < 64
FrameIsSized (SameLocals1StackItemExtended delta item) = Unit {0}
FrameIsSized (Chop absent delta) = (0 < absent) × (absent < 4)
FrameIsSized (SameExtended delta) = Unit {0}
FrameIsSized (Append delta locals) = (0 < length locals) × (length locals < 4)
FrameIsSized (Full delta locals stack) = (length locals < 2 ^ 16) × (length stack < 2 ^ 16)

abbrev pub TypesFit : List Entry → List VerificationType → Type 0
TypesFit pool types = AllByRecursion (TypeFits pool) types

-- what stands behind the tag: numbers of their widths, and types that fit
abbrev pub FrameContentFits : List Entry → Frame → Type 0
FrameContentFits pool (Same delta) = Unit {0}
FrameContentFits pool (SameLocals1StackItem delta item) = TypeFits pool item
FrameContentFits pool (SameLocals1StackItemExtended delta item) = (delta < 2 ^ 16) × TypeFits pool item
FrameContentFits pool (Chop absent delta) = delta < 2 ^ 16
FrameContentFits pool (SameExtended delta) = delta < 2 ^ 16
FrameContentFits pool (Append delta locals) = (delta < 2 ^ 16) × TypesFit pool locals
FrameContentFits pool (Full delta locals stack) = (delta < 2 ^ 16) × (TypesFit pool locals × TypesFit pool stack)

abbrev pub FrameFits : List Entry → Frame → Type 0
FrameFits pool frame = FrameIsSized frame × FrameContentFits pool frame

pub record FramesAreSized (frames : List Frame) : Type 0 where
  pub count : length frames < 2 ^ 16
  pub each : AllByRecursion FrameIsSized frames

pub record FramesFit (pool : List Entry) (frames : List Frame) : Type 0 where
  pub count : length frames < 2 ^ 16
  pub each : AllByRecursion (FrameFits pool) frames

-- ---- reading, in the bytes of a StackMapTable

abbrev pub ends : AttributeFault
ends = fault.Length StackMapTable

unfoldable pub type_behind : List Entry → ℕ → Reader AttributeFault VerificationType
type_behind pool tag bytes =
    if tag == 0 then given Top bytes
    else (if tag == 1 then given Integer bytes
    else (if tag == 2 then given Float bytes
    else (if tag == 3 then given Double bytes
    else (if tag == 4 then given Long bytes
    else (if tag == 5 then given Null bytes
    else (if tag == 6 then given UninitializedThis bytes
    else (if tag == 7 then made Object (index_at pool Class ends) bytes
    else (if tag == 8 then made Uninitialized (number_at ends w16) bytes
    else refused (fault.FrameTag tag) bytes))))))))

unfoldable pub type_at : List Entry → Reader AttributeFault VerificationType
type_at pool = tagged ends (type_behind pool)

unfoldable pub delta_and_type_at : List Entry → Reader AttributeFault (ℕ × VerificationType)
delta_and_type_at pool = both (number_at ends w16) (type_at pool)

unfoldable pub counted_types_at : List Entry → Reader AttributeFault (List VerificationType)
counted_types_at pool = counted ends w16 (type_at pool)

unfoldable pub appended_at : List Entry → ℕ → Reader AttributeFault (ℕ × List VerificationType)
appended_at pool count = both (number_at ends w16) (many (type_at pool) count)

unfoldable pub full_at : List Entry → Reader AttributeFault (ℕ × (List VerificationType × List VerificationType))
full_at pool = both (number_at ends w16) (both (counted_types_at pool) (counted_types_at pool))

-- tags 128 to 246 are of no frame
unfoldable pub frame_behind : List Entry → ℕ → Reader AttributeFault Frame
frame_behind pool tag bytes =
    if nat_lt tag 64 then given (Same tag) bytes
    else (if nat_lt tag 128 then made (SameLocals1StackItem (tag - 64)) (type_at pool) bytes
    else (if nat_lt tag 247 then refused (fault.FrameTag tag) bytes
    else (if tag == 247 then made (λ x. SameLocals1StackItemExtended x.0 x.1) (delta_and_type_at pool) bytes
    else (if nat_lt tag 251 then made (Chop (251 - tag)) (number_at ends w16) bytes
    else (if tag == 251 then made SameExtended (number_at ends w16) bytes
    else (if nat_lt tag 255 then made (λ x. Append x.0 x.1) (appended_at pool (tag - 251)) bytes
    else made (λ x. Full x.0 x.1.0 x.1.1) (full_at pool) bytes))))))

unfoldable pub frame_at : List Entry → Reader AttributeFault Frame
frame_at pool = tagged ends (frame_behind pool)

unfoldable pub frames_at : List Entry → Reader AttributeFault (List Frame)
frames_at pool = counted ends w16 (frame_at pool)
