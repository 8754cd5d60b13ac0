-- Parts of the bounds, named for the functions that make them.
use Rattle.std.specs.Prelude.{ℕ, ◌+◌, ◌*◌, if◌then◌else◌, length}
use Rattle.kilim_program.specs.declared.class.Method.{Method}
use Rattle.kilim_program.specs.Program.{Program}
use Rattle.kilim_class_file.specs.declared.class_file.MemberInfo.{MemberInfo}
use Rattle.kilim_weave_spec.specs.Weight.{calls_in, weight}
use Rattle.kilim_weave_file_sizes.specs.declared.sizes.Measure.{Measure}
use Rattle.kilim_weave_file_sizes.specs.declared.sizes.Measure.TheVariants.{Entries, Bytes}
use Rattle.kilim_weave_file_spec.specs.Sizes.{frame_bytes, frames_number, method_entries}

abbrev pub product : ℕ × ℕ → ℕ
product factors = factors.0 * factors.1

-- the bytes that a method may become longer by
abbrev pub bytes_of : Program → MemberInfo → Method → ℕ
bytes_of p info m =
    if m.pausable then weight p m + (64 + (8 * calls_in p m.code + (frames_number p m * frame_bytes m + 2 * length info.attributes)))
    else 0

abbrev pub measured : Measure → Program → MemberInfo → Method → ℕ
measured Entries p info m = method_entries p m
measured Bytes p info m = bytes_of p info m
