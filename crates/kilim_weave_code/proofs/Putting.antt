-- What was put before other items, part by part.
use Rattle.std.proofs.Common.{◌≡◌, ℕ, ◌+◌, ◌*◌, Some, pos, true, false, List, [], ◌∷◌, ◌++◌, length, map, take, get_or, Result, Ok, Err, refl, ap, ◌∙◌, add-one, ◌<◌, zero, suc, arith}
use Rattle.std.specs.Prelude.{OnOk}
use Rattle.kilim_program.specs.declared.class.Method.{Method}
use Rattle.kilim_program.specs.declared.instr.Instr.{Instr}
use Rattle.kilim_program.specs.declared.instr.Instr.TheVariants.{Ifeq, Tableswitch}
use Rattle.kilim_program.specs.Lengths.{switch_padding}
use Rattle.kilim_weave_spec.specs.Woven.{Item, Mark, Does, Old, Plan, added, calls_member, drop_result, group, leave, load_fiber, old_frame, resume_places, switch_item}

-- what follows where all was put
pub on_ok : {A E P Q : Type 0} (r : Result A E) → (P → Q) → OnOk r P → OnOk r Q
on_ok (Ok x) go p = go p
on_ok (Err x) go p = p

pub group_is : (x : Plan) (number : ℕ) (callee : Method) (place next : ℕ) (i : Instr) (rest a b c d e f : List Item) (q : ℕ) → a ≡ leave x number callee place next rest → b ≡ drop_result callee.result a → q ≡ x.at next
    → c ≡ added (Ifeq q) 3 ∷ b → d ≡ load_fiber x ∷ calls_member x 2 ∷ c → e ≡ load_fiber x ∷ calls_member x 1 ∷ Does i (λ place. 3) true ∷ d → f ≡ Mark (Old place) (Some (old_frame x place)) ∷ e → f ≡ group x number callee place next i rest
group_is x number callee place next i rest a b c d e f q is_a is_b is_q is_c is_d is_e is_f =
    is_f
    ∙ ap (λ (items : List Item). Mark (Old place) (Some (old_frame x place)) ∷ items)
    (is_e
    ∙ ap (λ (items : List Item). load_fiber x ∷ calls_member x 1 ∷ Does i (λ place. 3) true ∷ items)
    (is_d
    ∙ ap (λ (items : List Item). load_fiber x ∷ calls_member x 2 ∷ items)
    (is_c ∙ (ap (λ (k : ℕ). added (Ifeq k) 3 ∷ b) is_q ∙ ap (λ (items : List Item). added (Ifeq (x.at next)) 3 ∷ items) (is_b ∙ ap (drop_result callee.result) is_a)))))

pub switch_is : (x : Plan) (default count : ℕ) (targets : List ℕ) (rest new : List Item) → default ≡ x.at 0 → targets ≡ resume_places x 1 x.method.code → count ≡ length targets
    → new ≡ Does (Tableswitch default (pos 1) targets) (λ place. 13 + (switch_padding place + 4 * count)) false ∷ rest → new ≡ switch_item x ∷ rest
switch_is x default count targets rest new is_default are is_count is =
    is
    ∙ (ap (λ (n : ℕ). Does (Tableswitch default (pos 1) targets) (λ place. 13 + (switch_padding place + 4 * n)) false ∷ rest) is_count
    ∙ (ap (λ (n : ℕ). Does (Tableswitch n (pos 1) targets) (λ place. 13 + (switch_padding place + 4 * length targets)) false ∷ rest) is_default
    ∙ ap (λ (ts : List ℕ). Does (Tableswitch (x.at 0) (pos 1) ts) (λ place. 13 + (switch_padding place + 4 * length ts)) false ∷ rest) are))

-- one place more
next_one : (f : ℕ → ℕ) (xs : List ℕ) (i d : ℕ) → i < length xs → map f (take i xs) ++ f (get_or xs i d) ∷ [] ≡ map f (take (suc i) xs)
next_one f [] i d lt = absurd (omega arith)
next_one f (x ∷ xs) zero d lt = refl
next_one f (x ∷ xs) (suc i) d lt = ap (λ (t : List ℕ). f x ∷ t) (next_one f xs i d (omega arith))

pub place_more : (f : ℕ → ℕ) (now next xs : List ℕ) (i d y : ℕ) → i < length xs → now ≡ map f (take i xs) → y ≡ f (get_or xs i d) → next ≡ now ++ y ∷ [] → next ≡ map f (take (i + 1) xs)
place_more f now next xs i d y lt so_far made step =
    rw add-one (step ∙ (ap (λ (t : List ℕ). t ++ y ∷ []) so_far ∙ (ap (λ (z : ℕ). map f (take i xs) ++ z ∷ []) made ∙ next_one f xs i d lt)))
