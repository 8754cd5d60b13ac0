-- What decoded code is answered as.
use Rattle.std.specs.Prelude.{List, Result, Ok, Err}
use Rattle.kilim_class_code.specs.declared.body.Body.{Body}
use Rattle.kilim_class_code.specs.declared.fault.CodeFault.{CodeFault}
use Rattle.kilim_class_code.specs.Code.{Placed}

-- the instructions of a code array, or its fault
abbrev pub code_found : Result Body CodeFault → Result (List Placed) CodeFault
code_found (Ok body) = Ok body.code
code_found (Err fault) = Err fault
