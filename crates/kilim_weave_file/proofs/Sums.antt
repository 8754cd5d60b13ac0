-- The two bounds, by their parts.
use Rattle.std.proofs.Common.{◌≡◌, ℕ, ◌+◌, ◌*◌, Bool, List, length, ap, ◌∙◌}
use Rattle.std.specs.Prelude.{sum_by}
use Rattle.kilim_program.specs.declared.class.Method.{Method}
use Rattle.kilim_program.specs.Program.{Program}
use Rattle.kilim_class_file.specs.declared.class_file.ClassFile.{ClassFile}
use Rattle.kilim_class_file.specs.declared.class_file.MemberInfo.{MemberInfo}
use Rattle.kilim_class_file.specs.Text.{class_text as file_text}
use Rattle.kilim_class_pool.specs.Entries.{count_of}
use Rattle.kilim_weave_file_spec.specs.Sizes.{added_entries, entry_bytes, file_size, longest_text, method_bytes, pool_sum}
use Rattle.kilim_weave_file_spec.specs.WovenFile.{pairs_of}

pub sum_is : (p : Program) (file : ClassFile) (infos : List MemberInfo) (ps ms : List Method) (cs : List (List Bool)) (count added sum : ℕ) → infos ≡ file.methods → count ≡ count_of file.constant_pool →
    added ≡ added_entries p (pairs_of infos ps ms cs) → sum ≡ count + added → sum ≡ pool_sum p file (pairs_of file.methods ps ms cs)
unfolding pool_sum
sum_is p file infos ps ms cs count added sum same counted more is =
    is ∙ (ap (λ n. n + added) counted ∙ ap (λ n. count_of file.constant_pool + n) (more ∙ ap (λ (xs : List MemberInfo). added_entries p (pairs_of xs ps ms cs)) same))

pub size_is : (p : Program) (file : ClassFile) (infos : List MemberInfo) (ps ms : List Method) (cs : List (List Bool)) (old longest added methods size : ℕ) → infos ≡ file.methods → old ≡ length (file_text file) → longest ≡ longest_text p →
    added ≡ added_entries p (pairs_of infos ps ms cs) → methods ≡ sum_by (method_bytes p) (pairs_of infos ps ms cs) → size ≡ old + (added * entry_bytes longest + methods) → size ≡ file_size p file (pairs_of file.methods ps ms cs)
unfolding file_size
size_is p file infos ps ms cs old longest added methods size same text most more bytes is =
    let a : added ≡ added_entries p (pairs_of file.methods ps ms cs) = more ∙ ap (λ (xs : List MemberInfo). added_entries p (pairs_of xs ps ms cs)) same in
    let b : methods ≡ sum_by (method_bytes p) (pairs_of file.methods ps ms cs) = bytes ∙ ap (λ (xs : List MemberInfo). sum_by (method_bytes p) (pairs_of xs ps ms cs)) same in
    is ∙ (ap (λ n. n + (added * entry_bytes longest + methods)) text
    ∙ (ap (λ n. length (file_text file) + (n * entry_bytes longest + methods)) a
    ∙ (ap (λ n. length (file_text file) + (added_entries p (pairs_of file.methods ps ms cs) * entry_bytes n + methods)) most
    ∙ ap (λ n. length (file_text file) + (added_entries p (pairs_of file.methods ps ms cs) * entry_bytes (longest_text p) + n)) b)))
