-- The sums that bound a woven file ask for the file's part and the plain one of a method alone.
use Rattle.std.proofs.Common.{◌≡◌, ℕ, ◌+◌, ◌*◌, ◌≤◌, ◌<◌, Bool, cond, nat_lt, List, [], ◌∷◌, length, take, Some, None, refl, sym, ap, subst, ◌∙◌, arith}
use Rattle.std.specs.List.{fold}
use Rattle.std.specs.Prelude.{sum_by}
use Rattle.std.proofs.lemmas.Bool.{le-ltb, lt-ltb}
use Rattle.kilim_program.specs.declared.class.Method.{Method}
use Rattle.kilim_program.specs.Program.{Program}
use Rattle.kilim_class_file.specs.declared.class_file.ClassFile.{ClassFile}
use Rattle.kilim_class_file.specs.declared.class_file.MemberInfo.{MemberInfo}
use Rattle.kilim_class_file.specs.Text.{class_text, size_limit}
use Rattle.kilim_class_pool.specs.Entries.{count_of}
use Rattle.kilim_weave_file.specs.Applied.{most_entries}
use Rattle.kilim_weave_file.specs.Applied as apply
use Rattle.kilim_weave_file.specs.declared.fault.ApplyFault.{ApplyFault}
use Rattle.kilim_weave_file.specs.declared.fault.ApplyFault.TheVariants.{FileTooLarge, Memory, PoolFull}
use Rattle.kilim_weave_file_spec.specs.Sizes.{added_entries, entry_bytes, file_size, longest_text, method_bytes, method_entries, methods_entries, other_entries, pool_sum}
use Rattle.kilim_weave_file_spec.specs.WovenFile.{MethodPair, pairs_of}
use Rattle.kilim_weave_file_command.specs.woven_files.Parts.{IsRefusedFor}
use Rattle.kilim_weave_file_command.specs.woven_files.Reports.{IsSizeLine}
use Rattle.kilim_weave_file_command.specs.woven_files.Sizes.{fault_by, plain_pairs, size_fault}

-- ---- the next methods, as many as there are

pub plain_take : (is : List MemberInfo) (ms : List Method) → plain_pairs is (take (length is) ms) ≡ plain_pairs is ms
plain_take [] ms = refl
plain_take (i ∷ is) [] = refl
plain_take (i ∷ is) (m ∷ ms) = ap (λ (xs : List MethodPair). record { info = i; plain = m; method = m; counted = [] } ∷ xs) (plain_take is ms)

pub pairs_take : (is : List MemberInfo) (ps ms : List Method) (cs : List (List Bool)) → pairs_of is (take (length is) ps) (take (length is) ms) (take (length is) cs) ≡ pairs_of is ps ms cs
pairs_take [] ps ms cs = refl
pairs_take (i ∷ is) [] ms cs = refl
pairs_take (i ∷ is) (p ∷ ps) [] cs = refl
pairs_take (i ∷ is) (p ∷ ps) (m ∷ ms) [] = refl
pairs_take (i ∷ is) (p ∷ ps) (m ∷ ms) (c ∷ cs) = ap (λ (xs : List MethodPair). record { info = i; plain = p; method = m; counted = c } ∷ xs) (pairs_take is ps ms cs)

pub fault_take : (p : Program) (file : ClassFile) (ms : List Method) → size_fault p file (take (length file.methods) ms) ≡ size_fault p file ms
fault_take p file ms = ap (λ (xs : List MethodPair). fault_by (pool_sum p file xs) (file_size p file xs)) (plain_take file.methods ms)

-- ---- sums

abbrev SumsAreSame : (MethodPair → ℕ) → Type 0
SumsAreSame f = (i : MemberInfo) (p m : Method) (c : List Bool) → f (record { info = i; plain = p; method = m; counted = c }) ≡ f (record { info = i; plain = p; method = p; counted = [] })

same_fold : (f : MethodPair → ℕ) → SumsAreSame f → (n : ℕ) (is : List MemberInfo) (ps ms : List Method) (cs : List (List Bool)) → length is ≡ length ps → length is ≡ length ms → length is ≡ length cs →
    fold (λ (a : ℕ) (x : MethodPair). a + f x) n (pairs_of is ps ms cs) ≡ fold (λ (a : ℕ) (x : MethodPair). a + f x) n (plain_pairs is ps)
same_fold f same n [] ps ms cs a b c = refl
same_fold f same n (i ∷ is) [] ms cs a b c = absurd (omega (arith, a))
same_fold f same n (i ∷ is) (p ∷ ps) [] cs a b c = absurd (omega (arith, b))
same_fold f same n (i ∷ is) (p ∷ ps) (m ∷ ms) [] a b c = absurd (omega (arith, c))
same_fold f same n (i ∷ is) (p ∷ ps) (m ∷ ms) (k ∷ cs) a b c =
    ap (λ (d : ℕ). fold (λ (a : ℕ) (x : MethodPair). a + f x) (n + d) (pairs_of is ps ms cs)) (same i p m k)
    ∙ same_fold f same (n + f (record { info = i; plain = p; method = p; counted = [] })) is ps ms cs (omega (arith, a)) (omega (arith, b)) (omega (arith, c))

same_sum : (f : MethodPair → ℕ) → SumsAreSame f → (is : List MemberInfo) (ps ms : List Method) (cs : List (List Bool)) → length is ≡ length ps → length is ≡ length ms → length is ≡ length cs → sum_by f (pairs_of is ps ms cs) ≡ sum_by f (plain_pairs is ps)
same_sum f same is ps ms cs a b c = same_fold f same 0 is ps ms cs a b c

entries_are : (p : Program) → SumsAreSame (λ x. method_entries p x.plain)
entries_are p i q m c = refl

bytes_are : (p : Program) → SumsAreSame (method_bytes p)
bytes_are p i q m c = refl

-- ---- faults

fault_none : (sum size : ℕ) → sum ≤ most_entries → size ≤ size_limit → fault_by sum size ≡ None
fault_none sum size a b =
    ap (λ (z : Bool). cond z (Some (PoolFull sum)) (cond (nat_lt size_limit size) (Some (FileTooLarge size)) None)) (le-ltb most_entries sum a)
    ∙ ap (λ (z : Bool). cond z (Some (FileTooLarge size)) None) (le-ltb size_limit size b)

fault_pool : (sum size : ℕ) → most_entries < sum → fault_by sum size ≡ Some (PoolFull sum)
fault_pool sum size a = ap (λ (z : Bool). cond z (Some (PoolFull sum)) (cond (nat_lt size_limit size) (Some (FileTooLarge size)) None)) (lt-ltb most_entries sum a)

fault_size : (sum size : ℕ) → sum ≤ most_entries → size_limit < size → fault_by sum size ≡ Some (FileTooLarge size)
fault_size sum size a b =
    ap (λ (z : Bool). cond z (Some (PoolFull sum)) (cond (nat_lt size_limit size) (Some (FileTooLarge size)) None)) (le-ltb most_entries sum a)
    ∙ ap (λ (z : Bool). cond z (Some (FileTooLarge size)) None) (lt-ltb size_limit size b)

module _ (p : Program) (file : ClassFile) (ps ms : List Method) (cs : List (List Bool)) (a : length file.methods ≡ length ps) (b : length file.methods ≡ length ms) (c : length file.methods ≡ length cs) where
  entries_same : methods_entries p (pairs_of file.methods ps ms cs) ≡ methods_entries p (plain_pairs file.methods ps)
  entries_same = same_sum (λ x. method_entries p x.plain) (entries_are p) file.methods ps ms cs a b c

  bytes_same : sum_by (method_bytes p) (pairs_of file.methods ps ms cs) ≡ sum_by (method_bytes p) (plain_pairs file.methods ps)
  bytes_same = same_sum (method_bytes p) (bytes_are p) file.methods ps ms cs a b c

  sum_same : pool_sum p file (pairs_of file.methods ps ms cs) ≡ pool_sum p file (plain_pairs file.methods ps)
  unfolding pool_sum
  sum_same = ap (λ (n : ℕ). count_of file.constant_pool + (other_entries + n)) entries_same

  size_same : file_size p file (pairs_of file.methods ps ms cs) ≡ file_size p file (plain_pairs file.methods ps)
  unfolding file_size
  size_same =
      ap (λ (n : ℕ). length (class_text file) + ((other_entries + n) * entry_bytes (longest_text p) + sum_by (method_bytes p) (pairs_of file.methods ps ms cs))) entries_same
      ∙ ap (λ (n : ℕ). length (class_text file) + (added_entries p (plain_pairs file.methods ps) * entry_bytes (longest_text p) + n)) bytes_same

  fault_same : fault_by (pool_sum p file (pairs_of file.methods ps ms cs)) (file_size p file (pairs_of file.methods ps ms cs)) ≡ size_fault p file ps
  fault_same = ap (λ (n : ℕ). fault_by n (file_size p file (pairs_of file.methods ps ms cs))) sum_same ∙ ap (λ (n : ℕ). fault_by (pool_sum p file (plain_pairs file.methods ps)) n) size_same

  pub fits_none : apply.Fit p file (pairs_of file.methods ps ms cs) → size_fault p file ps ≡ None
  fits_none fit = sym fault_same ∙ fault_none _ _ fit.0 fit.1

  pub refused_for : (class : List ℕ) (fault : ApplyFault) (text : List ℕ) → apply.Refused p file (pairs_of file.methods ps ms cs) fault → IsSizeLine class fault text → IsRefusedFor p file class ps text
  refused_for class (PoolFull n) text r line = record {
    fault = PoolFull n;
    is_fault = sym fault_same ∙ (fault_pool _ _ (subst (λ (k : ℕ). most_entries < k) r.0 r.1) ∙ ap (λ (k : ℕ). Some (PoolFull k)) (sym r.0));
    is_text = line;
  }
  refused_for class (FileTooLarge n) text r line = record {
    fault = FileTooLarge n;
    is_fault = sym fault_same ∙ (fault_size _ _ r.1 (subst (λ (k : ℕ). size_limit < k) r.0 r.2) ∙ ap (λ (k : ℕ). Some (FileTooLarge k)) (sym r.0));
    is_text = line;
  }
  refused_for class Memory text r line = absurd line
