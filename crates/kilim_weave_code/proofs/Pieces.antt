-- The old code and the resume blocks, from the end.
use Rattle.std.proofs.Common.{Bor, ◌≡◌, ℕ, zero, suc, ◌+◌, ◌-◌, ◌<◌, ◌≤◌, Bool, List, [], ◌∷◌, ◌++◌, take, drop, slice_get, Option, Some, None, refl, ap, sym, ◌∙◌, arith, append_assoc}
use Rattle.std.specs.Prelude.{is_some, if◌then◌else◌}
use Rattle.std.specs.Option.{option_copied}
use Rattle.kilim_lemmas.proofs.Lists.{drop_next}
use Rattle.kilim_program.specs.declared.class.Method.{Method}
use Rattle.kilim_program.specs.declared.instr.Instr.{Instr}
use Rattle.kilim_program.specs.Lengths.{first_place}
use Rattle.kilim_program.specs.Program.{Program}
use Rattle.kilim_weave_spec.specs.Weight.{calls_in, one_more}
use Rattle.kilim_weave_spec.specs.Woven.{Item, Plan, block, blocks, count, pausable_callee, piece, pieces, resume_places}
use Rattle.kilim_weave_pieces.specs.Shown.{calls_one, first_here}
use Rattle.kilim_weave_pieces.proofs.Lists.{take_next}

-- ---- how many calls

more : (o : Option Method) (a b : ℕ) → one_more o (a + b) ≡ one_more o a + b
more None a b = refl
more (Some m) a b = omega arith

calls_append : (p : Program) (xs ys : List (ℕ × Instr)) → calls_in p (xs ++ ys) ≡ calls_in p xs + calls_in p ys
calls_append p [] ys = omega arith
calls_append p (x ∷ xs) ys = ap (one_more (pausable_callee p x.1)) (calls_append p xs ys) ∙ more (pausable_callee p x.1) (calls_in p xs) (calls_in p ys)

one_is : (o : Option Method) (n : ℕ) → n + one_more o 0 ≡ count o n
one_is None n = omega arith
one_is (Some m) n = omega arith

pub calls_next : (p : Program) (code : List (ℕ × Instr)) (at : ℕ) (e : ℕ × Instr) → slice_get code at ≡ Some e → calls_in p (take (at + 1) code) ≡ count (pausable_callee p e.1) (calls_in p (take at code))
calls_next p code at e there =
    ap (calls_in p) (take_next code at e there) ∙ (calls_append p (take at code) (e ∷ []) ∙ one_is (pausable_callee p e.1) (calls_in p (take at code)))

suc_count : (o : Option Method) (n : ℕ) → 1 + count o n ≡ count o (1 + n)
suc_count None n = refl
suc_count (Some m) n = omega arith

count_same : (o : Option Method) (a b : ℕ) → count o a ≡ count o b → a ≡ b
count_same None a b h = h
count_same (Some m) a b h = omega (arith, h)

-- the number of the calls before an instruction, by that behind it
pub number_is : (p : Program) (code : List (ℕ × Instr)) (at n n' : ℕ) (e : ℕ × Instr) → slice_get code at ≡ Some e → n ≡ 1 + calls_in p (take (at + 1) code) → count (pausable_callee p e.1) n' ≡ n → n' ≡ 1 + calls_in p (take at code)
number_is p code at n n' e there is before =
    count_same (pausable_callee p e.1) n' (1 + calls_in p (take at code))
    (before ∙ (is ∙ (ap (λ (k : ℕ). 1 + k) (calls_next p code at e there) ∙ suc_count (pausable_callee p e.1) (calls_in p (take at code)))))

pub first_is : (p : Program) (code : List (ℕ × Instr)) (at : ℕ) (e : ℕ × Instr) → 0 < at → slice_get code (at - 1) ≡ Some e → is_some (pausable_callee p e.1) ≡ first_here p code at
first_is p code at e lt there =
    let one : suc (at - 1) ≡ at = omega arith in
    sym (ap (first_here p code) (sym one) ∙ ap (calls_one p) there)

pub copied_some : (o : Option (Bor Method)) → is_some (option_copied o) ≡ is_some o
copied_some None = refl
copied_some (Some m) = refl

-- ---- piece by piece

module _ (x : Plan) where
  first_behind : (at : ℕ) (e : ℕ × Instr) → slice_get x.method.code at ≡ Some e → first_here x.program x.method.code (at + 1) ≡ is_some (pausable_callee x.program e.1)
  first_behind at e there = let one : at + 1 ≡ suc at = omega arith in ap (first_here x.program x.method.code) one ∙ ap (calls_one x.program) there

  pub piece_more : (at number number' next : ℕ) (e : ℕ × Instr) (o : Option Method) (before now new : List Item) → slice_get x.method.code at ≡ Some e → o ≡ pausable_callee x.program e.1 → count o number' ≡ number
      → next ≡ first_place (drop (at + 1) x.method.code) x.method.code_length
      → now ≡ pieces x (first_here x.program x.method.code (at + 1)) number (drop (at + 1) x.method.code) before
      → new ≡ piece o x (first_here x.program x.method.code at) number' e.0 next e.1 now
      → new ≡ pieces x (first_here x.program x.method.code at) number' (drop at x.method.code) before
  piece_more at number number' next e o before now new there is_o counts is_next is e_new =
      let code = x.method.code in
      let first = first_here x.program code at in
      let rest = drop (at + 1) code in
      let behind : first_here x.program code (at + 1) ≡ is_some (pausable_callee x.program e.1) = first_behind at e there in
      let now_is : now ≡ pieces x (is_some (pausable_callee x.program e.1)) (count (pausable_callee x.program e.1) number') rest before =
      is ∙ (ap (λ (b : Bool). pieces x b number rest before) behind ∙ ap (λ (n : ℕ). pieces x (is_some (pausable_callee x.program e.1)) n rest before) (sym counts ∙ ap (λ (q : Option Method). count q number') is_o)) in
      e_new ∙ (ap (λ (q : Option Method). piece q x first number' e.0 next e.1 now) is_o
      ∙ (ap (λ (n : ℕ). piece (pausable_callee x.program e.1) x first number' e.0 n e.1 now) is_next
      ∙ (ap (λ (items : List Item). piece (pausable_callee x.program e.1) x first number' e.0 (first_place rest x.method.code_length) e.1 items) now_is
      ∙ sym (ap (λ (es : List (ℕ × Instr)). pieces x first number' es before) (drop_next code at e there)))))

  pub block_more : (at number number' next : ℕ) (e : ℕ × Instr) (o : Option Method) (now new : List Item) → slice_get x.method.code at ≡ Some e → o ≡ pausable_callee x.program e.1 → count o number' ≡ number
      → next ≡ first_place (drop (at + 1) x.method.code) x.method.code_length
      → now ≡ blocks x number (drop (at + 1) x.method.code)
      → new ≡ block o x number' e.0 next now
      → new ≡ blocks x number' (drop at x.method.code)
  block_more at number number' next e o now new there is_o counts is_next is e_new =
      let code = x.method.code in
      let rest = drop (at + 1) code in
      let now_is : now ≡ blocks x (count (pausable_callee x.program e.1) number') rest = is ∙ ap (λ (n : ℕ). blocks x n rest) (sym counts ∙ ap (λ (q : Option Method). count q number') is_o) in
      e_new ∙ (ap (λ (q : Option Method). block q x number' e.0 next now) is_o
      ∙ (ap (λ (n : ℕ). block (pausable_callee x.program e.1) x number' e.0 n now) is_next
      ∙ (ap (λ (items : List Item). block (pausable_callee x.program e.1) x number' e.0 (first_place rest x.method.code_length) items) now_is
      ∙ sym (ap (λ (es : List (ℕ × Instr)). blocks x number' es) (drop_next code at e there)))))

-- ---- the places of the resume blocks

abbrev pub from_block : Plan → (number calls : ℕ) → List ℕ
from_block x number zero = []
from_block x number (suc calls) = x.block number ∷ from_block x (suc number) calls

places_if : (x : Plan) (number : ℕ) (o : Option Method) (es : List (ℕ × Instr)) → ((n : ℕ) → resume_places x n es ≡ from_block x n (calls_in x.program es))
    → (if is_some o then x.block number ∷ resume_places x (suc number) es else resume_places x number es) ≡ from_block x number (one_more o (calls_in x.program es))
places_if x number None es h = h number
places_if x number (Some m) es h = ap (λ (ps : List ℕ). x.block number ∷ ps) (h (suc number))

pub places_are : (x : Plan) (number : ℕ) (es : List (ℕ × Instr)) → resume_places x number es ≡ from_block x number (calls_in x.program es)
places_are x number [] = refl
places_are x number (e ∷ es) = places_if x number (pausable_callee x.program e.1) es (λ n. places_are x n es)

pub block_pushed : (x : Plan) (k n : ℕ) (q : ℕ) (done all : List ℕ) → k < n → q ≡ x.block (k + 1) → done ++ from_block x (k + 1) (n - k) ≡ all → (done ++ q ∷ []) ++ from_block x (k + 1 + 1) (n - (k + 1)) ≡ all
block_pushed x k n q done all lt is h =
    let one : n - k ≡ suc (n - (k + 1)) = omega arith in
    let next : suc (k + 1) ≡ k + 1 + 1 = omega arith in
    append_assoc done (q ∷ []) (from_block x (k + 1 + 1) (n - (k + 1)))
    ∙ (ap (λ (u : ℕ). done ++ u ∷ from_block x (k + 1 + 1) (n - (k + 1))) is
    ∙ (ap (λ (j : ℕ). done ++ x.block (k + 1) ∷ from_block x j (n - (k + 1))) (sym next)
    ∙ (ap (λ (j : ℕ). done ++ from_block x (k + 1) j) (sym one) ∙ h)))

none_behind : (xs : List ℕ) → xs ++ [] ≡ xs
none_behind [] = refl
none_behind (x ∷ xs) = ap (λ (zs : List ℕ). x ∷ zs) (none_behind xs)

pub places_done : (x : Plan) (k n : ℕ) (done all : List ℕ) → n ≤ k → done ++ from_block x (k + 1) (n - k) ≡ all → done ≡ all
places_done x k n done all le h =
    let none : n - k ≡ 0 = omega arith in
    sym (none_behind done) ∙ (ap (λ (j : ℕ). done ++ from_block x (k + 1) j) (sym none) ∙ h)

pub calls_more : (p : Program) (code : List (ℕ × Instr)) (at n n' : ℕ) (e : ℕ × Instr) (o : Option Method) → slice_get code at ≡ Some e → o ≡ pausable_callee p e.1 → n' ≡ count o n → n ≡ calls_in p (take at code) → n' ≡ calls_in p (take (at + 1) code)
calls_more p code at n n' e o there is_o is h = is ∙ (ap (λ (q : Option Method). count q n) is_o ∙ (ap (count (pausable_callee p e.1)) h ∙ sym (calls_next p code at e there)))
