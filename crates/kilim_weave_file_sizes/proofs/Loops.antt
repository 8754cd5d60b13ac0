-- Loops over the elements of a list.
use Rattle.std.proofs.Common.{◌≡◌, ℕ, suc, ◌+◌, ◌-◌, ◌<◌, ◌≤◌, Bool, true, false, if◌then◌else◌, List, [], ◌∷◌, ◌++◌, length, get_or, take, drop, drop-cons, add-one, append_assoc, refl, sym, ap, ◌∙◌, arith}
use Rattle.std.proofs.lemmas.List.{append-nil, drop_all}
use Rattle.std.specs.Prelude.{sum_by}
use Rattle.std.specs.List.{flat_map}
use Rattle.std.proofs.Math.Seq.{take-length}
use Rattle.std.proofs.lemmas.List.Sums.{sum_by-cons}
use Rattle.kilim_program.specs.declared.class.Method.{Method}
use Rattle.kilim_program.specs.declared.instr.Instr.{Instr}
use Rattle.kilim_program.specs.Program.{Program}
use Rattle.kilim_class_file.specs.declared.class_file.MemberInfo.{MemberInfo}
use Rattle.kilim_weave_spec.specs.Weight.{calls_in, one_more}
use Rattle.kilim_weave_spec.specs.Woven.{pausable_callee}
use Rattle.kilim_weave_file_spec.specs.Raw.{is_pausable_call}
use Rattle.kilim_weave_file_spec.specs.WovenFile.{MethodPair, pairs_of}
use Rattle.kilim_weave_file_sizes.proofs.PausableCalls.{one_more_is}

by_test : (b : Bool) (count next rest here whole : ℕ) → next ≡ (if b then suc count else count) → here ≡ (if b then suc rest else rest) → count + here ≡ whole → next + rest ≡ whole
by_test true count next rest here whole made there so_far = omega arith
by_test false count next rest here whole made there so_far = omega arith

-- what is still to come, behind one element more
pub passed : {X N M : Type 0} (rest : List X → N → M) (next : N → X → N) → ((x : X) (xs : List X) (n : N) → rest (x ∷ xs) n ≡ rest xs (next n x)) → (xs : List X) (i : ℕ) (x d : X) (n m : N) (whole : M) → i < length xs → x ≡ get_or xs i d
    → m ≡ next n x → rest (drop i xs) n ≡ whole → rest (drop (i + 1) xs) m ≡ whole
passed rest next steps xs i x d n m whole lt is made so_far =
    rw add-one
    (ap (rest (drop (suc i) xs)) made
    ∙ (sym (steps x (drop (suc i) xs) n)
    ∙ (ap (λ z. rest (z ∷ drop (suc i) xs) n) is ∙ (ap (λ ys. rest ys n) (sym (drop-cons xs i d lt)) ∙ so_far))))

pub summed : {X : Type 0} (size : X → ℕ) (total : List X → ℕ) → ((x : X) (xs : List X) → total (x ∷ xs) ≡ size x + total xs) → (xs : List X) (i : ℕ) (x d : X) (sum next whole : ℕ) → i < length xs → x ≡ get_or xs i d
    → next ≡ sum + size x → sum + total (drop i xs) ≡ whole → next + total (drop (i + 1) xs) ≡ whole
summed {X = X} size total first xs i x d sum next whole lt is made so_far =
    let rest : ℕ = total (drop (suc i) xs) in
    let there : total (drop i xs) ≡ size x + rest = ap total (drop-cons xs i d lt) ∙ (first (get_or xs i d) (drop (suc i) xs) ∙ ap (λ (z : X). size z + rest) (sym is)) in
    rw add-one (omega (arith, there, made, so_far))

-- what stands behind the first element
abbrev pub behind_first : {A : Type 0} → List A → List A
behind_first xs = take (length xs - 1) (drop 1 xs)

pub all_behind : {A : Type 0} (x : A) (xs : List A) → behind_first (x ∷ xs) ≡ xs
all_behind x xs = let all : length (x ∷ xs) - 1 ≡ length xs = omega arith in rw all (take-length xs)

-- where one list has ended, there is no pair
pub no_plain : (infos : List MemberInfo) (ps ms : List Method) (cs : List (List Bool)) → length ps < 1 → pairs_of infos ps ms cs ≡ []
no_plain [] ps ms cs lt = refl
no_plain (i ∷ infos) [] ms cs lt = refl
no_plain (i ∷ infos) (p ∷ ps) ms cs lt = absurd (omega arith)

pub no_woven : (infos : List MemberInfo) (ps ms : List Method) (cs : List (List Bool)) → length ms < 1 → pairs_of infos ps ms cs ≡ []
no_woven [] ps ms cs lt = refl
no_woven (i ∷ infos) [] ms cs lt = refl
no_woven (i ∷ infos) (p ∷ ps) [] cs lt = refl
no_woven (i ∷ infos) (p ∷ ps) (m ∷ ms) cs lt = absurd (omega arith)

pub no_counted : (infos : List MemberInfo) (ps ms : List Method) (cs : List (List Bool)) → length cs < 1 → pairs_of infos ps ms cs ≡ []
no_counted [] ps ms cs lt = refl
no_counted (i ∷ infos) [] ms cs lt = refl
no_counted (i ∷ infos) (p ∷ ps) [] cs lt = refl
no_counted (i ∷ infos) (p ∷ ps) (m ∷ ms) [] lt = refl
no_counted (i ∷ infos) (p ∷ ps) (m ∷ ms) (c ∷ cs) lt = absurd (omega arith)

-- the methods of a file with those of the two programs, behind one method more
pub paired : (size : MemberInfo → Method → ℕ) (infos : List MemberInfo) (ps ms : List Method) (cs : List (List Bool)) (i : ℕ) (info d : MemberInfo) (p : Method) (sum next whole : ℕ)
    → i < length infos → info ≡ get_or infos i d → 1 ≤ length ps → p ≡ get_or ps 0 p → 1 ≤ length ms → 1 ≤ length cs → next ≡ sum + size info p
    → sum + sum_by (λ (x : MethodPair). size x.info x.plain) (pairs_of (drop i infos) ps ms cs) ≡ whole
    → next + sum_by (λ (x : MethodPair). size x.info x.plain) (pairs_of (drop (i + 1) infos) (behind_first ps) (behind_first ms) (behind_first cs)) ≡ whole
paired size infos [] ms cs i info d p sum next whole lt is some_p is_p some_m some_c made so_far = absurd (omega arith)
paired size infos (q ∷ ps) [] cs i info d p sum next whole lt is some_p is_p some_m some_c made so_far = absurd (omega arith)
paired size infos (q ∷ ps) (m ∷ ms) [] i info d p sum next whole lt is some_p is_p some_m some_c made so_far = absurd (omega arith)
paired size infos (q ∷ ps) (m ∷ ms) (c ∷ cs) i info d p sum next whole lt is some_p is_p some_m some_c made so_far =
    let f = λ (x : MethodPair). size x.info x.plain in
    let rest : List MethodPair = pairs_of (drop (suc i) infos) ps ms cs in
    let first : MethodPair = record { info = get_or infos i d; plain = q; method = m; counted = c } in
    let there : pairs_of (drop i infos) (q ∷ ps) (m ∷ ms) (c ∷ cs) ≡ first ∷ rest = ap (λ (xs : List MemberInfo). pairs_of xs (q ∷ ps) (m ∷ ms) (c ∷ cs)) (drop-cons infos i d lt) in
    let all : sum_by f (pairs_of (drop i infos) (q ∷ ps) (m ∷ ms) (c ∷ cs)) ≡ size (get_or infos i d) q + sum_by f rest = ap (sum_by f) there ∙ sum_by-cons f first rest in
    let one : size info p ≡ size (get_or infos i d) q = ap (λ (x : MemberInfo). size x p) is ∙ ap (size (get_or infos i d)) is_p in
    let same : sum_by f (pairs_of (drop (suc i) infos) (behind_first (q ∷ ps)) (behind_first (m ∷ ms)) (behind_first (c ∷ cs))) ≡ sum_by f rest =
    ap (λ (xs : List Method). sum_by f (pairs_of (drop (suc i) infos) xs (behind_first (m ∷ ms)) (behind_first (c ∷ cs)))) (all_behind q ps)
    ∙ (ap (λ (xs : List Method). sum_by f (pairs_of (drop (suc i) infos) ps xs (behind_first (c ∷ cs)))) (all_behind m ms) ∙ ap (λ (xs : List (List Bool)). sum_by f (pairs_of (drop (suc i) infos) ps ms xs)) (all_behind c cs)) in
    rw add-one (omega (arith, all, made, one, same, so_far))

-- the calls of so many instructions, and of one more
pub counted : (p : Program) (code : List (ℕ × Instr)) (i : ℕ) (x d : ℕ × Instr) (b : Bool) (count next : ℕ) → i < length code → x ≡ get_or code i d → b ≡ is_pausable_call p x.1 → next ≡ (if b then suc count else count)
    → count + calls_in p (drop i code) ≡ calls_in p code → next + calls_in p (drop (i + 1) code) ≡ calls_in p code
counted p code i x d b count next lt is tested made so_far =
    let rest : ℕ = calls_in p (drop (suc i) code) in
    let there : calls_in p (drop i code) ≡ (if b then suc rest else rest) =
    ap (calls_in p) (drop-cons code i d lt)
    ∙ (ap (λ (e : ℕ × Instr). one_more (pausable_callee p e.1) rest) (sym is) ∙ (one_more_is p x.1 rest ∙ ap (λ (t : Bool). if t then suc rest else rest) (sym tested))) in
    rw add-one (by_test b count next rest (calls_in p (drop i code)) (calls_in p code) made there so_far)
