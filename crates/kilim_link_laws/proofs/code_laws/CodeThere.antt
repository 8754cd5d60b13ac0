-- The code of a method without a fault is code of the program.
use Rattle.std.proofs.Common.{◌≡◌, ℕ, Bool, true, false, ◌==◌, if◌then◌else◌, List, [], ◌∷◌, Option, Some, None, option_map, Result, Ok, Err, refl, subst}
use Rattle.std.specs.List.{flat_map, AllByRecursion}
use Rattle.kilim_class_attributes.specs.declared.attribute.Code.{Code}
use Rattle.kilim_class_attributes.specs.declared.attribute.ExceptionHandler.{ExceptionHandler}
use Rattle.kilim_class_code.specs.declared.fault.CodeFault.{CodeFault}
use Rattle.kilim_class_code.specs.declared.fault.CodeFault.TheVariants as code
use Rattle.kilim_class_code.specs.Code.{Placed, targets_of, is_place}
use Rattle.kilim_class_code.specs.Exact.{TargetsArePlaces}
use Rattle.kilim_class_file.specs.declared.class_file.ClassFile.{ClassFile}
use Rattle.kilim_class_file.specs.declared.class_file.MemberInfo.{MemberInfo}
use Rattle.kilim_class_pool.specs.declared.entry.Entry.{Entry}
use Rattle.kilim_class_code.specs.declared.opcodes.fault.OpFault.TheVariants as op
use Rattle.kilim_program.specs.declared.instr.Instr.{Instr}
use Rattle.kilim_program.specs.declared.names.ClassId.{ClassId}
use Rattle.kilim_link_spec.specs.Code.{decoded, code_of, index_in, placed_in, instr_in}
use Rattle.kilim_link_spec.specs.Faults.{bad_index, begins_as_array, code_fault, decoded_in, left_out_op}
use Rattle.kilim_link_spec.specs.Linked.{body_in, body_with, catch_of, first_of, handler_in, handler_with, handlers_in, no_body}
use Rattle.kilim_link_spec.specs.Frames.{frames_in}
use Rattle.kilim_link_spec.specs.Mentions.{instrs_in, instrs_if, frames_if, operand_of, rows_if}
use Rattle.kilim_link_spec.specs.declared.named.Mention.TheVariants.{OfClass}
use Rattle.kilim_link_spec.specs.declared.named.Named.{Named}
use Rattle.kilim_link_spec.specs.declared.named.Named.TheVariants.{AClass}
use Rattle.kilim_link_spec.specs.Qualified.{params_of}
use Rattle.kilim_link_spec.specs.Types.{method_text, named_by, type_in}
use Rattle.kilim_link_spec.specs.World.{World, class_of, class_text, declared_method, member_descriptor}
use Rattle.kilim_link_laws.proofs.code_laws.Codes.{no_body_fault}
use Rattle.kilim_link_laws.proofs.code_laws.Forms.{HasItsForm, decoded_forms, decoded_body}
use Rattle.kilim_link_laws.proofs.code_laws.FramesThere.{frames_there}
use Rattle.kilim_link_laws.proofs.code_laws.Good.{Good}
use Rattle.kilim_link_laws.proofs.code_laws.InstrsThere.{KnownInstr, IsPlace, MembersThere, instr_there, place_there}
use Rattle.kilim_link_laws.proofs.code_laws.Lists.{all_both, all_map}
use Rattle.kilim_link_laws.proofs.code_laws.Mentions.{InstrMentions, FrameMentions, RowMentions}
use Rattle.kilim_link_laws.proofs.code_laws.Nothing.{flat_map_none}
use Rattle.kilim_link_laws.proofs.code_laws.There.{There, there, map_there, next_there, each_there, AllThere}

-- ---- decoded

abbrev Answer : Type 0
Answer = Result (List Placed) CodeFault

record IsDecoded (r : Answer) : Type 0 where
  instrs : List Placed
  is : r ≡ Ok instrs

is_decoded : (pool : List Entry) (r : Answer) → code_fault pool r ≡ None → left_out_op r ≡ None → IsDecoded r
is_decoded pool (Ok instrs) e f = record { instrs = instrs; is = refl }
is_decoded pool (Err (code.Op (op.LeftOut number) at)) e f = absurd (cc)
is_decoded pool (Err (code.Op op.Memory at)) e f = absurd (cc)
is_decoded pool (Err (code.Op (op.Unknown number) at)) e f = absurd (cc)
is_decoded pool (Err (code.Op op.Cut at)) e f = absurd (cc)
is_decoded pool (Err (code.MidTarget at to)) e f = absurd (cc)
is_decoded pool (Err (code.FallsOff at)) e f = absurd (cc)
is_decoded pool (Err code.Memory) e f = absurd (cc)

none_first : {A : Type 0} (xs : List A) → first_of xs ≡ None → xs ≡ []
none_first [] e = refl
none_first (x ∷ xs) e = absurd (cc)

-- ---- exception tables

-- an entry names no array
abbrev pub NoArray : ClassFile → ExceptionHandler → Type 0
NoArray file row = begins_as_array (class_text file.constant_pool row.catch_type) ≡ false

named_plainly : (u : ℕ) (us : List ℕ) → (u == 91) ≡ false → named_by (u ∷ us) ≡ AClass (u ∷ us)
named_plainly u us e = rw e refl

-- a class that is named, and no array, is there
class_there : (w : World) (text : List ℕ) → begins_as_array text ≡ false → Good w (OfClass (named_by text)) → There (class_of w text)
class_there w [] e g = g.names.0.there
class_there w (u ∷ us) e g = (subst (λ (n : Named). Good w (OfClass n)) (named_plainly u us e) g).names.0.there

catch_by : (w : World) (text : List ℕ) (z : Bool) → begins_as_array text ≡ false → AllByRecursion (Good w) (if z then [] else OfClass (named_by text) ∷ []) → There (if z then Some None else option_map Some (class_of w text))
catch_by w text true e g = there None
catch_by w text false e g = map_there Some (class_of w text) (class_there w text e g.0)

handlers_there : (w : World) (file : ClassFile) (rows : List ExceptionHandler) → AllByRecursion (RowMentions (Good w) file) rows → AllByRecursion (NoArray file) rows → There (handlers_in w file.constant_pool rows)
handlers_there w file rows mentions no_arrays =
    let pool = file.constant_pool in
    let one = λ (row : ExceptionHandler) (g : RowMentions (Good w) file row) (e : NoArray file row).
    map_there (handler_with row) (catch_of w pool row.catch_type) (catch_by w (class_text pool row.catch_type) (row.catch_type == 0) e g) in
    each_there (handler_in w pool) rows (all_both (RowMentions (Good w) file) (NoArray file) (λ row. There (handler_in w pool row)) one rows mentions no_arrays)

-- ---- what is known of a method's code where there is no fault

pub record KnownCode (w : World) (file : ClassFile) (attribute : Option Code) : Type 0 where
  pub mentions : AllByRecursion (InstrMentions (Good w) file) (instrs_in attribute)
  pub members : AllByRecursion (λ (p : Placed). MembersThere w (operand_of file.constant_pool p.1)) (instrs_in attribute)
  pub rows : AllByRecursion (RowMentions (Good w) file) (rows_if attribute)
  pub no_arrays : AllByRecursion (NoArray file) (rows_if attribute)
  pub frames : AllByRecursion (FrameMentions (Good w) file) (frames_if attribute)
  pub faults : AllByRecursion (λ r. code_fault file.constant_pool r ≡ None) (decoded_in attribute)
  pub left_out : AllByRecursion (λ r. left_out_op r ≡ None) (decoded_in attribute)

module _ (places : TargetsArePlaces) where
  -- each target is a place
  all_places : (bytes : List ℕ) (instrs : List Placed) → decoded bytes ≡ Ok instrs → AllByRecursion (λ (p : Placed). AllByRecursion IsPlace (targets_of p.1)) instrs
  all_places bytes instrs e =
      let one = λ (p : Placed) (all : AllByRecursion (λ to. is_place instrs to ≡ true) (targets_of p.1)). all_map (λ to. is_place instrs to ≡ true) IsPlace (place_there instrs) (targets_of p.1) all in
      all_map (λ (p : Placed). AllByRecursion (λ to. is_place instrs to ≡ true) (targets_of p.1)) (λ (p : Placed). AllByRecursion IsPlace (targets_of p.1)) one instrs (places instrs (no_body_fault instrs (decoded_body bytes instrs e)).targets)

  record Half (w : World) (file : ClassFile) (p : Placed) : Type 0 where
    mentions : InstrMentions (Good w) file p
    members : MembersThere w (operand_of file.constant_pool p.1)

  record OtherHalf (file : ClassFile) (p : Placed) : Type 0 where
    form : HasItsForm p.1
    places_are : AllByRecursion IsPlace (targets_of p.1)

  known_instrs : (w : World) (file : ClassFile) (bytes : List ℕ) (instrs : List Placed) → decoded bytes ≡ Ok instrs → AllByRecursion (InstrMentions (Good w) file) instrs
      → AllByRecursion (λ (p : Placed). MembersThere w (operand_of file.constant_pool p.1)) instrs → code_fault file.constant_pool (Ok instrs) ≡ None → AllByRecursion (KnownInstr w file) instrs
  known_instrs w file bytes instrs e mentions members faultless =
      let half = all_both (InstrMentions (Good w) file) (λ (p : Placed). MembersThere w (operand_of file.constant_pool p.1)) (Half w file) (λ p m n. record { mentions = m; members = n }) instrs mentions members in
      let other = all_both (λ (p : Placed). HasItsForm p.1) (λ (p : Placed). AllByRecursion IsPlace (targets_of p.1)) (OtherHalf file) (λ p f t. record { form = f; places_are = t }) instrs (decoded_forms bytes instrs e) (all_places bytes instrs e) in
      let bad = λ (p : Placed). bad_index file.constant_pool p (index_in p.1) in
      let index = flat_map_none bad instrs (none_first (flat_map bad instrs) faultless) in
      let both = all_both (Half w file) (OtherHalf file) (λ p. bad p ≡ [] → KnownInstr w file p)
      (λ p h o i. record { mentions = h.mentions; form = o.form; places = o.places_are; index = i; members = h.members }) instrs half other in
      all_both (λ p. bad p ≡ [] → KnownInstr w file p) (λ p. bad p ≡ []) (KnownInstr w file) (λ p f i. f i) instrs both index

  code_there : (w : World) (file : ClassFile) (bytes : List ℕ) (r : Answer) → decoded bytes ≡ r → AllByRecursion (InstrMentions (Good w) file) (instrs_if r)
      → AllByRecursion (λ (p : Placed). MembersThere w (operand_of file.constant_pool p.1)) (instrs_if r) → code_fault file.constant_pool r ≡ None → left_out_op r ≡ None → There (code_of w file.constant_pool r)
  code_there w file bytes (Err fault) is mentions members faultless left = let d = is_decoded file.constant_pool (Err fault) faultless left in let e = d.is in absurd (cc)
  code_there w file bytes (Ok instrs) is mentions members faultless left =
      let known = known_instrs w file bytes instrs is mentions members faultless in
      each_there (placed_in w file.constant_pool) instrs
      (all_map (KnownInstr w file) (λ p. There (placed_in w file.constant_pool p)) (λ p k. map_there (λ (instr : Instr). (p.0, instr)) (instr_in w file.constant_pool p.1) (instr_there w file p.0 p.1 k)) instrs known)

  pub body_there : (w : World) (file : ClassFile) (c : ClassId) (method : MemberInfo) (attribute : Option Code) → AllThere (type_in w) (params_of (method_text (member_descriptor file method))) → KnownCode w file attribute → There (body_in w file c method attribute)
  body_there w file c method None params k = there no_body
  body_there w file c method (Some code) params k =
      let frames = frames_there w file c (declared_method file method) code params k.frames in
      next_there (code_of w file.constant_pool (decoded code.code)) _ (code_there w file code.code (decoded code.code) refl k.mentions k.members k.faults.0 k.left_out.0)
      (λ instrs is. next_there (handlers_in w file.constant_pool code.exception_table) _ (handlers_there w file code.exception_table k.rows k.no_arrays)
      (λ handlers hs. next_there (frames_in w file c (declared_method file method) code) (λ fs. Some (body_with code instrs handlers fs)) frames (λ fs are. there (body_with code instrs handlers fs))))
