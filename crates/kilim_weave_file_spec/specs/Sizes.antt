-- How many entries the pool of a woven class file may have, and how long the file may be (own).
use Rattle.std.specs.Prelude.{ℕ, suc, ◌+◌, ◌*◌, nat_lt, if◌then◌else◌, List, [], ◌∷◌, length, sum_by}
use Rattle.kilim_class_mutf8.specs.Spelling.{spelling}
use Rattle.kilim_class_pool.specs.Entries.{count_of}
use Rattle.kilim_program.specs.declared.class.Class.{Class}
use Rattle.kilim_program.specs.declared.class.Field.{Field}
use Rattle.kilim_program.specs.declared.class.Method.{Method}
use Rattle.kilim_program.specs.Program.{Program}
use Rattle.kilim_program.specs.Names.{descriptor}
use Rattle.kilim_class_file.specs.declared.class_file.ClassFile.{ClassFile}
use Rattle.kilim_class_file.specs.Text.{class_text as file_text}
use Rattle.kilim_link_spec.specs.World.{method_descriptor}
use Rattle.kilim_weave_spec.specs.Weight.{calls_in, weight}
use Rattle.kilim_weave_file_spec.specs.WovenFile.{MethodPair}

-- ---- entries

-- the types of a frame, each with its name, and what a call names
abbrev pub entries_at_call : Method → ℕ
entries_at_call m = 8 + 2 * (m.max_locals + m.max_stack)

-- for its entry and for each pausable call
abbrev pub method_entries : Program → Method → ℕ
method_entries p m = if m.pausable then entries_at_call m * suc (calls_in p m.code) else 0

-- beside those of the methods: the members of the fiber, and the name StackMapTable
abbrev pub other_entries : ℕ
other_entries = 64

abbrev pub methods_entries : Program → List MethodPair → ℕ
methods_entries p xs = sum_by (λ x. method_entries p x.plain) xs

-- what the entries may be that weaving adds
abbrev pub added_entries : Program → List MethodPair → ℕ
added_entries p xs = other_entries + methods_entries p xs

-- The greatest count of indices that the woven pool may have.
unfoldable pub pool_sum : Program → ClassFile → List MethodPair → ℕ
pool_sum p file xs = count_of file.constant_pool + added_entries p xs

-- ---- bytes

abbrev pub larger : ℕ → ℕ → ℕ
larger a b = if nat_lt a b then b else a

-- the length of a text in modified UTF-8 (JVMS 4.4.7)
abbrev pub spelled_length : List ℕ → ℕ
spelled_length units = length (spelling units)

abbrev pub class_longest : List Class → ℕ → ℕ
class_longest [] n = n
class_longest (c ∷ cs) n = class_longest cs (larger n (spelled_length c.name))

abbrev pub method_longest : Program → List Method → ℕ → ℕ
method_longest p [] n = n
method_longest p (m ∷ ms) n = method_longest p ms (larger (larger n (spelled_length m.name)) (spelled_length (method_descriptor p m)))

abbrev pub field_longest : Program → List Field → ℕ → ℕ
field_longest p [] n = n
field_longest p (f ∷ fs) n = field_longest p fs (larger (larger n (spelled_length f.name)) (spelled_length (descriptor p f.ty)))

-- the greatest length of a class name, a member's name or a descriptor
unfoldable pub longest_text : Program → ℕ
longest_text p = field_longest p p.fields (method_longest p p.methods (class_longest p.classes 0))

-- a frame: its tag and counts, and each of its slots
abbrev pub frame_bytes : Method → ℕ
frame_bytes m = 28 + 3 * (m.max_locals + m.max_stack)

abbrev pub frames_number : Program → Method → ℕ
frames_number p m = length m.frames + (4 * calls_in p m.code + 1)

-- code, frames, and two bytes for each attribute, which may be of parameter annotations
abbrev pub method_bytes : Program → MethodPair → ℕ
method_bytes p x =
    if x.plain.pausable then weight p x.plain + (64 + (8 * calls_in p x.plain.code + (frames_number p x.plain * frame_bytes x.plain + 2 * length x.info.attributes)))
    else 0

-- for each entry that may be added: a text, and what else an entry has
abbrev pub entry_bytes : ℕ → ℕ
entry_bytes longest = longest + 280

-- What the length of the woven file's text is not above.
unfoldable pub file_size : Program → ClassFile → List MethodPair → ℕ
file_size p file xs = length (file_text file) + (added_entries p xs * entry_bytes (longest_text p) + sum_by (method_bytes p) xs)
