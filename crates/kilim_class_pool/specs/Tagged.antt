-- Entries of one index and entries of two, by their tags.
use Rattle.std.specs.Prelude.{ℕ, ◌==◌, Bool, ◌||◌, if◌then◌else◌}
use Rattle.kilim_class_pool.specs.declared.entry.Entry.{Entry}
use Rattle.kilim_class_pool.specs.declared.entry.Entry.TheVariants.{Class, String, Fieldref, Methodref, InterfaceMethodref, NameAndType, MethodType, InvokeDynamic}

abbrev pub is_single : ℕ → Bool
is_single tag = tag == 7 || (tag == 8 || tag == 16)

abbrev pub single : ℕ → ℕ → Entry
single tag index = if tag == 7 then Class index else (if tag == 8 then String index else MethodType index)

abbrev pub is_paired : ℕ → Bool
is_paired tag = tag == 9 || (tag == 10 || (tag == 11 || (tag == 12 || tag == 18)))

abbrev pub paired : ℕ → ℕ × ℕ → Entry
paired tag p =
    if tag == 9 then Fieldref p.0 p.1
    else (if tag == 10 then Methodref p.0 p.1
    else (if tag == 11 then InterfaceMethodref p.0 p.1
    else (if tag == 12 then NameAndType p.0 p.1
    else InvokeDynamic p.0 p.1)))
