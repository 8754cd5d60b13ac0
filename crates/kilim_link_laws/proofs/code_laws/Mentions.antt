-- What holds of each mention of a file holds of those of its parts.
use Rattle.std.proofs.Common.{ℕ, List, ◌++◌, map}
use Rattle.std.specs.List.{flat_map, AllByRecursion}
use Rattle.kilim_class_attributes.specs.declared.attribute.ExceptionHandler.{ExceptionHandler}
use Rattle.kilim_class_attributes.specs.declared.parts.frame.Frame.{Frame as FrameForm}
use Rattle.kilim_class_attributes.specs.declared.parts.frame.VerificationType.{VerificationType}
use Rattle.kilim_class_code.specs.Code.{Placed}
use Rattle.kilim_class_file.specs.declared.class_file.ClassFile.{ClassFile}
use Rattle.kilim_class_file.specs.declared.class_file.MemberInfo.{MemberInfo}
use Rattle.kilim_link_spec.specs.Linked.{code_attribute}
use Rattle.kilim_link_spec.specs.Mentions.{mentions_of, mentions_of_method, mentions_of_instr, mentions_of_row, mentions_of_slot, instrs_of, rows_if, frames_if, slots_of_frame, this_slots}
use Rattle.kilim_link_spec.specs.declared.named.Mention.{Mention}
use Rattle.kilim_link_spec.specs.declared.named.Mention.TheVariants.{OfClass, OfField, OfMethod}
use Rattle.kilim_link_spec.specs.declared.named.Named.TheVariants.{AClass}
use Rattle.kilim_link_spec.specs.World.{super_name, interface_names, member_descriptor}
use Rattle.kilim_link_laws.proofs.code_laws.Lists.{all_map}
use Rattle.kilim_link_laws.proofs.code_laws.Nothing.{all_front, all_rest, all_mapped, all_flat}

abbrev pub InstrMentions : (Mention → Type 0) → ClassFile → Placed → Type 0
InstrMentions P file p = AllByRecursion P (mentions_of_instr file.constant_pool p.1)

abbrev pub RowMentions : (Mention → Type 0) → ClassFile → ExceptionHandler → Type 0
RowMentions P file row = AllByRecursion P (mentions_of_row file.constant_pool row)

abbrev pub FrameMentions : (Mention → Type 0) → ClassFile → FrameForm → Type 0
FrameMentions P file f = AllByRecursion (λ (s : VerificationType). AllByRecursion P (mentions_of_slot file.constant_pool s)) (slots_of_frame f)

pub record MethodMentions (P : Mention → Type 0) (file : ClassFile) (method : MemberInfo) : Type 0 where
  pub own : P (OfMethod (this_slots method) (member_descriptor file method))
  pub code : AllByRecursion (InstrMentions P file) (instrs_of method)
  pub rows : AllByRecursion (RowMentions P file) (rows_if (code_attribute method))
  pub frames : AllByRecursion (FrameMentions P file) (frames_if (code_attribute method))

pub record FileMentions (P : Mention → Type 0) (file : ClassFile) : Type 0 where
  pub superclass : P (OfClass (AClass (super_name file)))
  pub fields : AllByRecursion (λ (f : MemberInfo). P (OfField (member_descriptor file f))) file.fields
  pub methods : AllByRecursion (MethodMentions P file) file.methods

method_mentions : (P : Mention → Type 0) (file : ClassFile) (method : MemberInfo) → AllByRecursion P (mentions_of_method file method) → MethodMentions P file method
method_mentions P file method all =
    let pool = file.constant_pool in
    let code = λ (p : Placed). mentions_of_instr pool p.1 in
    let slots = λ (f : FrameForm). flat_map (mentions_of_slot pool) (slots_of_frame f) in
    let frames = frames_if (code_attribute method) in
    let rows = rows_if (code_attribute method) in
    let in_code = flat_map code (instrs_of method) in
    let in_rows = flat_map (mentions_of_row pool) rows in
    let in_frames = flat_map slots frames in
    let behind = all_rest P in_code (in_rows ++ in_frames) all.1 in
    record {
      own = all.0;
      code = all_flat P code (instrs_of method) (all_front P in_code (in_rows ++ in_frames) all.1);
      rows = all_flat P (mentions_of_row pool) rows (all_front P in_rows in_frames behind);
      frames = all_map (λ f. AllByRecursion P (slots f)) (FrameMentions P file) (λ f each. all_flat P (mentions_of_slot pool) (slots_of_frame f) each) frames
          (all_flat P slots frames (all_rest P in_rows in_frames behind));
    }

pub file_mentions : (P : Mention → Type 0) (file : ClassFile) → AllByRecursion P (mentions_of file) → FileMentions P file
unfolding mentions_of
file_mentions P file all =
    let interfaces = map (λ (name : List ℕ). OfClass (AClass name)) (interface_names file) in
    let fields = map (λ (f : MemberInfo). OfField (member_descriptor file f)) file.fields in
    let methods = flat_map (mentions_of_method file) file.methods in
    let behind = all_rest P interfaces (fields ++ methods) all.1 in
    record {
      superclass = all.0;
      fields = all_mapped P (λ (f : MemberInfo). OfField (member_descriptor file f)) file.fields (all_front P fields methods behind);
      methods = all_map (λ m. AllByRecursion P (mentions_of_method file m)) (MethodMentions P file) (method_mentions P file) file.methods
          (all_flat P (mentions_of_method file) file.methods (all_rest P fields methods behind));
    }
