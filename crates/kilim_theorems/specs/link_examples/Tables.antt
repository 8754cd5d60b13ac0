-- Examples of exception tables of methods that don't pause: which entries stand, what they catch, and what they link to (JVMS 4.7.3, 4.9.1).
use Rattle.std.specs.Prelude.{◌≡◌, ℕ, List, [], ◌∷◌, map, take, Option, Some, None, option_map, codes}
use Rattle.kilim_class_attributes.specs.declared.attribute.Attribute.{Attribute}
use Rattle.kilim_class_attributes.specs.declared.attribute.ExceptionHandler.{ExceptionHandler}
use Rattle.kilim_class_attributes.specs.declared.attribute.Info.TheVariants as info
use Rattle.kilim_class_file.specs.declared.class_file.ClassFile.{ClassFile}
use Rattle.kilim_class_pool.specs.declared.entry.Entry.TheVariants as entry
use Rattle.kilim_program.specs.declared.class.Form.TheVariants.{Plain}
use Rattle.kilim_program.specs.declared.class.Handler.{Handler}
use Rattle.kilim_program.specs.declared.names.ClassId.{ClassId}
use Rattle.kilim_program.specs.BuiltIn.{class_id}
use Rattle.kilim_link_spec.specs.declared.fault.Problem.TheVariants as problem
use Rattle.kilim_link_spec.specs.Linked.{program_of}
use Rattle.kilim_theorems.specs.link_examples.Examples.{p_name, object, Named}
use Rattle.kilim_theorems.specs.link_examples.Details.{Fits, class_with, m_name, nothing}

-- ---- a static method `m()V`: `sipush 7` at 0, `pop` at 3, `return` at 4; it has 5 bytes

abbrev pub row : ℕ → ℕ → ℕ → ℕ → ExceptionHandler
row start end at catch = record { start_pc = start; end_pc = end; handler_pc = at; catch_type = catch }

abbrev pub code_with : List ExceptionHandler → Attribute
code_with rows = record { attribute_name_index = 7; info = info.Code (record { max_stack = 1; max_locals = 0; code = 17 ∷ 0 ∷ 7 ∷ 87 ∷ 177 ∷ []; exception_table = rows; attributes = [] }) }

-- with this table; at 9 of its pool stands the class `X`, which isn't given, at 11 an array, and at 13 a class of exceptions
abbrev pub tabled : List ExceptionHandler → ClassFile
tabled rows =
    class_with 0x0020 p_name object nothing
    (entry.Utf8 (codes "X") ∷ entry.Class 8 ∷ entry.Utf8 (codes "[LP;") ∷ entry.Class 10 ∷ entry.Utf8 (codes "java/lang/ArithmeticException") ∷ entry.Class 12 ∷ [])
    0x0008 (code_with rows ∷ [])

abbrev pub Stands : ExceptionHandler → Type 0
Stands r = Fits (tabled (r ∷ []) ∷ []) Plain

-- that entry of the table may not be
abbrev pub IsBad : List ExceptionHandler → ℕ → Type 0
IsBad rows n = Named (tabled rows ∷ []) p_name (problem.Handler (record { name = m_name; descriptor = nothing }) n)

abbrev pub Bad : ExceptionHandler → Type 0
Bad r = IsBad (r ∷ []) 0

-- ---- places: a range begins at an instruction, and ends behind that at one or with the code; a handler is an instruction

abbrev pub PlacesStand : Type 0
PlacesStand = Stands (row 0 3 4 0) × Stands (row 0 5 4 0) × Stands (row 3 4 0 0) × Stands (row 4 5 4 0)

abbrev pub RangesAreBad : Type 0
RangesAreBad = Bad (row 1 4 4 0) × Bad (row 5 5 4 0) × Bad (row 0 2 4 0) × Bad (row 0 6 4 0) × Bad (row 3 3 4 0) × Bad (row 4 3 0 0)

abbrev pub HandlersAreBad : Type 0
HandlersAreBad = Bad (row 0 4 1 0) × Bad (row 0 4 5 0)

-- the first entry that may not be, counted from 0
abbrev pub FirstIsTold : Type 0
FirstIsTold = IsBad (row 0 5 4 0 ∷ row 0 4 1 0 ∷ row 1 4 4 0 ∷ []) 1

-- ---- catch types: a class, which is given or built in; no array

abbrev pub TypesStand : Type 0
TypesStand = Stands (row 0 5 4 13) × Bad (row 0 5 4 11) × Named (tabled (row 0 5 4 9 ∷ []) ∷ []) p_name (problem.Missing (codes "X"))

-- ---- what it links to: the same entries in their order

abbrev pub tables_of : List ClassFile → Option (List (List Handler))
tables_of files = option_map (λ p. map (λ m. m.handlers) (take 1 p.methods)) (program_of files Plain)

abbrev pub handler : ℕ → ℕ → ℕ → Option ClassId → Handler
handler start end at catch = record { start = start; end = end; at = at; catch = catch }

abbrev pub TableIsLinked : Type 0
TableIsLinked = tables_of (tabled (row 0 5 4 13 ∷ row 3 4 0 0 ∷ []) ∷ []) ≡ Some ((handler 0 5 4 (Some (class_id 11)) ∷ handler 3 4 0 None ∷ []) ∷ [])

pub record TablesHold : Type 0 where
  pub places_stand : PlacesStand
  pub ranges_are_bad : RangesAreBad
  pub handlers_are_bad : HandlersAreBad
  pub first_is_told : FirstIsTold
  pub types_stand : TypesStand
  pub table_is_linked : TableIsLinked
