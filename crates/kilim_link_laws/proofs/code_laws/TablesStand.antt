-- Each entry of the exception table of a linked method is one of its instructions.
use Rattle.std.proofs.Common.{◌≡◌, ℕ, ◌==◌, Bool, true, false, ◌&&◌, ◌||◌, not, List, [], ◌∷◌, length, slice_get, Option, Some, None, Result, Ok, Err, refl, sym, ap, subst, ◌∙◌}
use Rattle.std.specs.Prelude.{nat_lt}
use Rattle.std.specs.List.{list_all, AllByRecursion}
use Rattle.std.proofs.lemmas.Bool.{and_from, or_parts}
use Rattle.std.proofs.lemmas.List.Folds.{list_all-append}
use Rattle.std.proofs.lemmas.Option.{same_Some, none-some}
use Rattle.kilim_lemmas.proofs.Lists.{map_none}
use Rattle.kilim_class_attributes.specs.declared.attribute.Code.{Code}
use Rattle.kilim_class_attributes.specs.declared.attribute.ExceptionHandler.{ExceptionHandler}
use Rattle.kilim_class_code.specs.declared.fault.CodeFault.{CodeFault}
use Rattle.kilim_class_code.specs.Code.{Placed}
use Rattle.kilim_class_file.specs.declared.class_file.ClassFile.{ClassFile}
use Rattle.kilim_class_file.specs.declared.class_file.MemberInfo.{MemberInfo}
use Rattle.kilim_class_pool.specs.declared.entry.Entry.{Entry}
use Rattle.kilim_program.specs.declared.class.Class.{Class}
use Rattle.kilim_program.specs.declared.class.Field.{Field}
use Rattle.kilim_program.specs.declared.class.Form.{Form}
use Rattle.kilim_program.specs.declared.class.Form.TheVariants.{Plain, Woven}
use Rattle.kilim_program.specs.declared.class.Handler.{Handler}
use Rattle.kilim_program.specs.declared.class.Method.{Method}
use Rattle.kilim_program.specs.declared.instr.Instr.{Instr}
use Rattle.kilim_program.specs.declared.names.ClassId.{ClassId}
use Rattle.kilim_program.specs.BuiltIn.{built_in_methods_in, class_id}
use Rattle.kilim_link_spec.specs.Code.{code_of, decoded, instr_in, placed_in}
use Rattle.kilim_link_spec.specs.Faults.{bad_rows, begins_as_array, begins_at, handler_faults, is_bad_row, numbers_that, row_faults, row_stands}
use Rattle.kilim_link_spec.specs.Frames.{frames_in}
use Rattle.kilim_link_spec.specs.Laws.{LinkedInParts, NoProblem, NoneHasAProblem, NoneOfEachKind}
use Rattle.kilim_link_spec.specs.Linked.{body_in, body_with, catch_of, code_attribute, handler_in, handler_with, handlers_in, linked_method, no_body, program_with}
use Rattle.kilim_link_spec.specs.Mentions.{instrs_if, instrs_in, instrs_of}
use Rattle.kilim_link_spec.specs.Types.{each_of}
use Rattle.kilim_link_spec.specs.declared.named.Body.{Body}
use Rattle.kilim_link_spec.specs.World.{World, class_text, declared_method, world_of}
use Rattle.kilim_program.specs.Handlers.{entry_stands, table_stands}
use Rattle.kilim_program.specs.Lengths.{is_code_place}
use Rattle.kilim_link_laws.specs.code_laws.Facts.{TablesStand}
use Rattle.kilim_link_laws.proofs.LinkedMembers.{LinkedMethod, bound, linked_method_is}
use Rattle.kilim_link_laws.proofs.Linking.{Linking, linking, of_each}
use Rattle.kilim_link_laws.proofs.Lists.{all_by_places}
use Rattle.kilim_link_laws.proofs.Members.{member_made}
use Rattle.kilim_link_laws.proofs.code_laws.Lists.{all_map, each_of_all, first_and}
use Rattle.kilim_link_laws.proofs.code_laws.Nothing.{flat_map_none, no_numbers}
use Rattle.kilim_link_laws.proofs.code_laws.Rows.{mapped}

-- ---- places

-- linked instructions stand where those of the file do
same_places : (w : World) (pool : List Entry) (placed : List Placed) (es : List (ℕ × Instr)) → each_of (placed_in w pool) placed ≡ Some es → (at : ℕ) → begins_at placed at ≡ is_code_place es at
same_places w pool [] es e at = ap (λ ys. is_code_place ys at) (same_Some [] es e)
same_places w pool (p ∷ ps) es e at =
    let g = first_and (placed_in w pool p) (each_of (placed_in w pool) ps) es e in
    let m = mapped (λ (instr : Instr). (p.0, instr)) (instr_in w pool p.1) g.x g.first_is in
    ap (λ (b : Bool). (p.0 == at) || b) (same_places w pool ps g.xs g.others_are at)
    ∙ (ap (λ (y : ℕ × Instr). (y.0 == at) || is_code_place g.xs at) m.is ∙ ap (λ ys. is_code_place ys at) (sym g.is))

is_so : (b : Bool) → not b ≡ false → b ≡ true
is_so true e = refl
is_so false e = absurd (cc)

-- ---- entries

abbrev stands : Bool → Bool → Bool → Bool → Bool → Bool
stands starts ends at_end less handles = starts && ((ends || at_end) && (less && handles))

module _ (w : World) (pool : List Entry) (code : Code) (placed : List Placed) (es : List (ℕ × Instr)) (made : each_of (placed_in w pool) placed ≡ Some es) where
  entry : (row : ExceptionHandler) (h : Handler) → handler_in w pool row ≡ Some h → is_bad_row pool code placed row ≡ false → entry_stands es (length code.code) h ≡ true
  entry row h e good =
      let m = mapped (handler_with row) (catch_of w pool row.catch_type) h e in
      let at_end = row.end_pc == length code.code in
      let less = nat_lt row.start_pc row.end_pc in
      let same = same_places w pool placed es made in
      let whole = is_so (row_stands code placed row) (or_parts (not (row_stands code placed row)) (begins_as_array (class_text pool row.catch_type)) good).0 in
      subst (λ (x : Handler). entry_stands es (length code.code) x ≡ true) m.is
      (ap (λ (b : Bool). stands b (is_code_place es row.end_pc) at_end less (is_code_place es row.handler_pc)) (sym (same row.start_pc))
      ∙ (ap (λ (b : Bool). stands (begins_at placed row.start_pc) b at_end less (is_code_place es row.handler_pc)) (sym (same row.end_pc))
      ∙ (ap (λ (b : Bool). stands (begins_at placed row.start_pc) (begins_at placed row.end_pc) at_end less b) (sym (same row.handler_pc)) ∙ whole)))

  entries : (rows : List ExceptionHandler) (hs : List Handler) → each_of (handler_in w pool) rows ≡ Some hs → numbers_that (is_bad_row pool code placed) 0 rows ≡ [] → list_all (entry_stands es (length code.code)) hs ≡ true
  entries rows hs are none =
      each_of_all (handler_in w pool) (entry_stands es (length code.code)) rows hs
      (all_map (λ row. is_bad_row pool code placed row ≡ false) (λ row. (h : Handler) → handler_in w pool row ≡ Some h → entry_stands es (length code.code) h ≡ true) (λ row good h e. entry row h e good) rows
      (no_numbers (is_bad_row pool code placed) 0 rows none)) are

table_by : (w : World) (pool : List Entry) (code : Code) (r : Result (List Placed) CodeFault) (es : List (ℕ × Instr)) (hs : List Handler) → code_of w pool r ≡ Some es → handlers_in w pool code.exception_table ≡ Some hs →
    numbers_that (is_bad_row pool code (instrs_if r)) 0 code.exception_table ≡ [] → list_all (entry_stands es (length code.code)) hs ≡ true
table_by w pool code (Err fault) es hs made are none = absurd (none-some es made)
table_by w pool code (Ok placed) es hs made are none = entries w pool code placed es made code.exception_table hs are none

abbrev body_stands : Body → Bool
body_stands body = list_all (entry_stands body.code body.code_length) body.handlers

body_table : (w : World) (file : ClassFile) (c : ClassId) (member : MemberInfo) (o : Option Code) (body : Body) → body_in w file c member o ≡ Some body → bad_rows file.constant_pool (instrs_in o) o ≡ [] → body_stands body ≡ true
body_table w file c member None body made none = ap body_stands (sym (same_Some no_body body made))
body_table w file c member (Some code) body made none =
    let instrs = bound (code_of w file.constant_pool (decoded code.code)) _ body made in
    let handlers = bound (handlers_in w file.constant_pool code.exception_table) _ body instrs.is in
    let frames = bound (frames_in w file c (declared_method file member) code) _ body handlers.is in
    ap body_stands (sym (same_Some (body_with code instrs.of handlers.of frames.of) body frames.is))
    ∙ table_by w file.constant_pool code (decoded code.code) instrs.of handlers.of instrs.at handlers.at none

-- ---- all methods

no_bad_row : (w : World) (file : ClassFile) (c : ClassId) → NoProblem w file c → AllByRecursion (λ m. bad_rows file.constant_pool (instrs_of m) (code_attribute m) ≡ []) file.methods
unfolding handler_faults
no_bad_row w file c n =
    all_map (λ m. row_faults file m ≡ []) (λ m. bad_rows file.constant_pool (instrs_of m) (code_attribute m) ≡ []) (λ m e. map_none _ _ e) file.methods (flat_map_none (row_faults file) file.methods n.tables_stand)

built_in_tables : (form : Form) (n : ℕ) → list_all table_stands (built_in_methods_in form n) ≡ true
built_in_tables Plain n = refl
built_in_tables Woven n = refl

module _ (files : List ClassFile) (form : Form) (classes : List Class) (fields : List Field) (methods : List Method) (l : Linking files form classes fields methods) where
  abbrev w : World
  w = world_of files form

  method_table : (c i : ℕ) (file : ClassFile) (member : MemberInfo) (method : Method) → slice_get files c ≡ Some file → slice_get file.methods i ≡ Some member → LinkedMethod w file (class_id c) member method → table_stands method ≡ true
  method_table c i file member method there inside made =
      let none = of_each (λ m. bad_rows file.constant_pool (instrs_of m) (code_attribute m) ≡ []) file.methods (no_bad_row w file (class_id c) (l.none c file there)) i member inside in
      ap table_stands (sym made.is) ∙ body_table w file (class_id c) member (code_attribute member) made.body made.body_is none

  own_tables : list_all table_stands methods ≡ true
  own_tables = all_by_places table_stands methods (λ j method at.
      let m = member_made (λ file. file.methods) (linked_method w) files methods l.methods_are j method at in
      method_table m.class m.place m.file m.member method m.file_at m.member_at (linked_method_is w m.file (class_id m.class) m.member method m.made))

  all_tables : list_all table_stands (program_with files form classes fields methods).methods ≡ true
  all_tables = list_all-append table_stands methods (built_in_methods_in form (length files)) ∙ and_from _ _ own_tables (built_in_tables form (length files))

module _ (in_parts : LinkedInParts) (none_has : NoneHasAProblem) (of_each : NoneOfEachKind) where
  pub tables_stand : TablesStand
  tables_stand files form p well = linking in_parts none_has of_each (λ q. list_all table_stands q.methods ≡ true) files form p well (all_tables files form)
