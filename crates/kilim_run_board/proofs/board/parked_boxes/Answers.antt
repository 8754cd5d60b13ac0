use Rattle.std.proofs.Common.{◌≡◌, ◌∙◌, refl, sym, ap, subst, arith, ℕ, zero, suc, ◌-◌, ◌<◌, ◌==◌, Bool, true, false, List, [], ◌∷◌, ◌++◌, Option, Some, None, length, take, drop, get_or}
use Rattle.std.proofs.lemmas.Bool.Decides.{nat_tests}
use Rattle.std.specs.Prelude.{if◌then◌else◌, slice_set, slice_index_or, replicate}
use Rattle.std.proofs.Math.Seq.{drop-cons}
use Rattle.std.proofs.lemmas.List.{length-set, get_or-set_other}
use Rattle.std.proofs.lemmas.Grind.{get_or-set_at}
use Rattle.kilim_program.specs.declared.names.BoxName.{BoxName}
use Rattle.kilim_run_board.specs.declared.waiting.parked.Waiter.{Waiter}
use Rattle.kilim_run_board.specs.Board.{AreBoxes, box_of}
use Rattle.kilim_run_board.proofs.Closing.{none_boxed}
use Rattle.kilim_run_board.proofs.board.parked_boxes.Goals as goal

read_box : (x : Bool) (k t : ℕ) (boxes : List (Option BoxName)) (v r : Option BoxName) → (k == t) ≡ x → t < length boxes → slice_index_or boxes t None ≡ r → slice_index_or (slice_set boxes k v) t None ≡ if x then v else r
read_box true k t boxes v r h lt e = let same : t ≡ k = grind (arith, nat_tests, h) in get_or-set_at boxes k t v None same (omega (arith, same, lt))
read_box false k t boxes v r h lt e = get_or-set_other boxes k t v None (λ same. grind (arith, nat_tests, h, same)) ∙ e

one_box : {F : Type 0} (task : F → ℕ) (w : Waiter F) (ws : List (Waiter F)) (tasks k : ℕ) (boxes now : List (Option BoxName)) → AreBoxes task ws tasks boxes → k ≡ task w.fiber → now ≡ slice_set boxes k (Some (box_of w.waits)) → AreBoxes task (w ∷ ws) tasks now
one_box task w ws tasks k boxes now b is e = record {
  each = ap length e ∙ (length-set boxes k (Some (box_of w.waits)) ∙ b.each);
  at = λ t lt. ap (λ l. slice_index_or l t None) e ∙ read_box (task w.fiber == t) k t boxes (Some (box_of w.waits)) _ (ap (λ n. n == t) is) (omega (arith, lt, b.each)) (b.at t lt);
}

one_less : {A : Type 0} (ws : List A) (left : ℕ) (w : A) → 0 < left → left - 1 < length ws → w ≡ get_or ws (left - 1) w → drop (left - 1) ws ≡ w ∷ drop left ws
one_less ws left w some lt is =
    let next : suc (left - 1) ≡ left = omega (arith, some) in
    drop-cons ws (left - 1) w lt ∙ (ap (λ u. u ∷ drop (suc (left - 1)) ws) (sym is) ∙ ap (λ n. w ∷ drop n ws) next)

take_none : {A : Type 0} (n : ℕ) (l : List A) → l ≡ [] → take n l ≡ []
take_none zero l e = refl
take_none (suc n) [] e = refl
take_none (suc n) (x ∷ l) e = absurd (cc)

resized : {A : Type 0} (n m : ℕ) (x : A) (old now : List A) → now ≡ take n old ++ replicate (n - m) x → old ≡ [] → m ≡ 0 → now ≡ replicate n x
resized n m x old now e none nothing =
    let z : n - m ≡ n = omega (arith, nothing) in
    e ∙ (ap (λ l. l ++ replicate (n - m) x) (take_none n old none) ∙ ap (λ k. replicate k x) z)

pub loop-left-preserved : goal.loop-left-preserved
loop-left-preserved g c =
    let w = c.index-waiters-left.result in
    let boxes = one_box g.F.Fibers.task_of w (drop c.loop-left.left c.args.waiters.now) c.args.tasks c.task.result c.loop-left.boxes.items c.set_box.new.boxes.items c.loop-left.invariant.0 c.task.ensures (c.set_box.ensures ∙ ap (λ m. slice_set c.loop-left.boxes.items c.task.result (Some m)) c.box_of.ensures) in
    (subst (λ ws. AreBoxes g.F.Fibers.task_of ws c.args.tasks c.set_box.new.boxes.items) (sym (one_less c.args.waiters.now c.loop-left.left w c.loop-left-test.true (omega (arith, c.loop-left-test.true, c.loop-left.invariant.1)) c.index-waiters-left.is)) boxes, omega (arith, c.loop-left.invariant.1))

pub loop-left-init : goal.loop-left-init
loop-left-init g c = (none_boxed g.F.Fibers.task_of c.args.waiters.now c.args.tasks (length c.args.waiters.now) c.resize.new.self.items (resized c.args.tasks _ None c.new-boxes.result.items c.resize.new.self.items c.in-Ok.ensures.items c.new-boxes.ensures.items c.new-boxes.ensures.len) refl, omega arith)
