-- Stages that are drawn one after the other.
use Rattle.std.proofs.Common.{◌≡◌, ℕ, zero, suc, ◌+◌, ◌-◌, ◌%◌, ◌<◌, ◌≤◌, List, [], ◌∷◌, ◌++◌, append_assoc, append-nil, length, refl, sym, ap, subst, ◌∙◌, arith}
use Rattle.rand_pcg.specs.Lcg.{Lcg}
use Rattle.kilim_demo.specs.declared.draws.Operation.{Operation}
use Rattle.kilim_demo.specs.declared.draws.Plan.{Plan}
use Rattle.kilim_demo.specs.declared.draws.Stage.{Stage}
use Rattle.kilim_demo.specs.Plan.{drawn, operation_of, plan_from, stage_drawn, stages_drawn}

left : (count i : ℕ) → i < count → suc (count - (i + 1)) ≡ count - i
left count i lt = omega arith

none_left : (count i : ℕ) → count ≤ i → 0 ≡ count - i
none_left count i le = omega arith

pub drawn_more : (count i : ℕ) (done now whole : List Stage) (g next : Lcg) (stage : Stage) → i < count → (stage, next) ≡ stage_drawn g → now ≡ done ++ stage ∷ [] → done ++ stages_drawn (count - i) g ≡ whole →
    now ++ stages_drawn (count - (i + 1)) next ≡ whole
drawn_more count i done now whole g next stage lt e pushed so_far =
    ap (λ ys. ys ++ stages_drawn (count - (i + 1)) next) pushed
    ∙ (append_assoc done (stage ∷ []) (stages_drawn (count - (i + 1)) next)
    ∙ (ap (λ (pair : Stage × Lcg). done ++ (pair.0 ∷ stages_drawn (count - (i + 1)) pair.1)) e
    ∙ (ap (λ n. done ++ stages_drawn n g) (left count i lt) ∙ so_far)))

pub drawn_all : (count i : ℕ) (done whole : List Stage) (g : Lcg) → count ≤ i → done ++ stages_drawn (count - i) g ≡ whole → done ≡ whole
drawn_all count i done whole g le so_far = sym (append-nil done) ∙ (ap (λ n. done ++ stages_drawn n g) (none_left count i le) ∙ so_far)

pub drawn_length : (count : ℕ) (g : Lcg) → length (stages_drawn count g) ≡ count
drawn_length zero g = refl
drawn_length (suc n) g = ap suc (drawn_length n (stage_drawn g).1)

-- ---- two draws, and what is made of them

pub stage_is : (g h last : Lcg) (first second n : ℕ) (op : Operation) → (first, h) ≡ drawn g → (second, last) ≡ drawn h → op ≡ operation_of (first % 3) → n ≡ second % 100 → (record { operation = op; number = n }, last) ≡ stage_drawn g
unfolding stage_drawn
stage_is g h last first second n op a b is rest =
    ap (λ (o : Operation). let s : Stage = record { operation = o; number = n } in (s, last)) is
    ∙ (ap (λ (k : ℕ). let s : Stage = record { operation = operation_of (first % 3); number = k } in (s, last)) rest
    ∙ (ap (λ (d : ℕ × Lcg). let s : Stage = record { operation = operation_of (first % 3); number = d.0 % 100 } in (s, d.1)) b
    ∙ ap (λ (d : ℕ × Lcg). let s : Stage = record { operation = operation_of (d.0 % 3); number = (drawn d.1).0 % 100 } in (s, (drawn d.1).1)) a))

pub plan_is : (g h last : Lcg) (first second : ℕ) (m : ℕ) (stages : List Stage) → (first, h) ≡ drawn g → (second, last) ≡ drawn h → m ≡ 1 + second % 1000 → stages ≡ stages_drawn (1 + first % 15) last →
    record { messages = m; stages = stages } ≡ plan_from g
unfolding plan_from
plan_is g h last first second m stages a b is made =
    ap (λ (n : ℕ). let p : Plan = record { messages = n; stages = stages } in p) is
    ∙ (ap (λ (xs : List Stage). let p : Plan = record { messages = 1 + second % 1000; stages = xs } in p) made
    ∙ (ap (λ (d : ℕ × Lcg). let p : Plan = record { messages = 1 + d.0 % 1000; stages = stages_drawn (1 + first % 15) d.1 } in p) b
    ∙ ap (λ (d : ℕ × Lcg). let p : Plan = record { messages = 1 + (drawn d.1).0 % 1000; stages = stages_drawn (1 + d.0 % 15) (drawn d.1).1 } in p) a))

few_stages : (n : ℕ) → 1 + n % 15 ≤ 15
few_stages n = omega arith

pub few_drawn : (n : ℕ) (g : Lcg) (stages : List Stage) → stages ≡ stages_drawn (1 + n % 15) g → length stages ≤ 15
few_drawn n g stages made = let P : ℕ → Type 0 = λ k. k ≤ 15 in subst P (sym (ap length made ∙ drawn_length (1 + n % 15) g)) (few_stages n)
