-- The names of the attributes that are read into parts (JVMS 4.7).
use Rattle.std.specs.Prelude.{ℕ, if◌then◌else◌, List, Option, Some, None, codes}
use Rattle.std.specs.Str.{bytes_eq}
use Rattle.kilim_class_attributes.specs.declared.parts.name.AttributeName.{AttributeName}
use Rattle.kilim_class_attributes.specs.declared.parts.name.AttributeName.TheVariants.{ConstantValue, Code, StackMapTable, Exceptions, RuntimeVisibleAnnotations, RuntimeInvisibleAnnotations, RuntimeVisibleParameterAnnotations, RuntimeInvisibleParameterAnnotations}

abbrev pub name_text : AttributeName → List ℕ
name_text ConstantValue = codes "ConstantValue"
name_text Code = codes "Code"
name_text StackMapTable = codes "StackMapTable"
name_text Exceptions = codes "Exceptions"
name_text RuntimeVisibleAnnotations = codes "RuntimeVisibleAnnotations"
name_text RuntimeInvisibleAnnotations = codes "RuntimeInvisibleAnnotations"
name_text RuntimeVisibleParameterAnnotations = codes "RuntimeVisibleParameterAnnotations"
name_text RuntimeInvisibleParameterAnnotations = codes "RuntimeInvisibleParameterAnnotations"

-- the name that has these units
unfoldable pub named : List ℕ → Option AttributeName
named units =
    if bytes_eq units (codes "ConstantValue") then Some ConstantValue
    else (if bytes_eq units (codes "Code") then Some Code
    else (if bytes_eq units (codes "StackMapTable") then Some StackMapTable
    else (if bytes_eq units (codes "Exceptions") then Some Exceptions
    else (if bytes_eq units (codes "RuntimeVisibleAnnotations") then Some RuntimeVisibleAnnotations
    else (if bytes_eq units (codes "RuntimeInvisibleAnnotations") then Some RuntimeInvisibleAnnotations
    else (if bytes_eq units (codes "RuntimeVisibleParameterAnnotations") then Some RuntimeVisibleParameterAnnotations
    else (if bytes_eq units (codes "RuntimeInvisibleParameterAnnotations") then Some RuntimeInvisibleParameterAnnotations
    else None)))))))
