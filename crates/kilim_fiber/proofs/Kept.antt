-- What waits to be put is a message, whatever else the fiber did.
use Rattle.std.proofs.Common.{◌≡◌, ◌≢◌, ◌≤◌, ℕ, suc, List, [], ◌∷◌, Option, Some, None, refl, sym, ap, subst, ◌∙◌, arith}
use Rattle.std.specs.FinMap.{empty, get, get-empty, insert}
use Rattle.std.proofs.lemmas.Option.{none-some, same_Some}
use Rattle.kilim_lemmas.proofs.Maps.{put_other, put_there}
use Rattle.kilim_program.specs.Program.{Program}
use Rattle.kilim_run_state.specs.declared.value.Object.{Object}
use Rattle.kilim_run_state.specs.declared.value.Token.{Token}
use Rattle.kilim_run_state.specs.Machine.{Objects}
use Rattle.kilim_run_trees.specs.Moved.{as_heap, tree_heap}
use Rattle.kilim_run_trees.specs.Walk.{numbered}
use Rattle.kilim_run_board.specs.fibers.Wishes.{IsMessage}
use Rattle.kilim_fiber_spec.specs.Acts.{Apart}
use Rattle.kilim_fiber_body.specs.Body.{aside_in}
use Rattle.kilim_fiber_body.specs.declared.body.Apart as body
use Rattle.kilim_fiber.specs.Fiber.{IsApart}

-- ---- a tree is known by its heap

placed : (k : ℕ) (xs ys : List Object) → ((n : ℕ) → k ≤ n → get (as_heap (numbered k xs)) n ≡ get (as_heap (numbered k ys)) n) → xs ≡ ys
placed k [] [] e = refl
placed k [] (y ∷ ys) e = absurd (none-some y (sym (get-empty _ k) ∙ (e k (omega arith) ∙ put_there (as_heap (numbered (suc k) ys)) k y)))
placed k (x ∷ xs) [] e = absurd (none-some x (sym (get-empty _ k) ∙ (sym (e k (omega arith)) ∙ put_there (as_heap (numbered (suc k) xs)) k x)))
placed k (x ∷ xs) (y ∷ ys) e =
    let first : x ≡ y = same_Some _ _ (sym (put_there (as_heap (numbered (suc k) xs)) k x) ∙ (e k (omega arith) ∙ put_there (as_heap (numbered (suc k) ys)) k y)) in
    let rest : xs ≡ ys = placed (suc k) xs ys (λ n more.
    let other : n ≢ k = λ same. omega (arith, more, same) in
    let fewer : k ≤ n = omega (arith, more) in
    sym (put_other (as_heap (numbered (suc k) xs)) k x n other) ∙ (e n fewer ∙ put_other (as_heap (numbered (suc k) ys)) k y n other)) in
    ap (λ (o : Object). o ∷ xs) first ∙ ap (λ (os : List Object). y ∷ os) rest

pub tree_same : (xs ys : List Object) → tree_heap xs ≡ tree_heap ys → xs ≡ ys
tree_same xs ys e = placed 0 xs ys (λ n more. ap (λ (h : Objects). get h n) e)

-- ---- what stands apart is what stood apart

abbrev shape_of_first : List Apart → List Token
shape_of_first [] = []
shape_of_first (k ∷ ks) = k.shape

abbrev heap_of_first : List Apart → Objects
heap_of_first [] = empty
heap_of_first (k ∷ ks) = k.heap

pub apart_same : (p : Program) (o q : Option body.Apart) → aside_in o ≡ aside_in q → IsApart p q → IsApart p o
apart_same p None q e is = tt
apart_same p (Some a) None e is = absurd (cc)
apart_same p (Some a) (Some b) e is =
    let tree : a.tree ≡ b.tree = tree_same a.tree b.tree (ap heap_of_first e) in
    let shape : a.shape ≡ b.shape = ap shape_of_first e in
    subst (λ (z : List Object). IsMessage p z a.shape) (sym tree) (subst (λ (z : List Token). IsMessage p b.tree z) (sym shape) is)

-- the message that comes from there
pub apart_is : (p : Program) (q : Option body.Apart) (kept : Apart) (others : List Apart) (tree : List Object) (shape : List Token) → aside_in q ≡ kept ∷ others → shape ≡ kept.shape → tree_heap tree ≡ kept.heap → IsApart p q → IsMessage p tree shape
apart_is p None kept others tree shape e d h is = absurd (cc)
apart_is p (Some b) kept others tree shape e d h is =
    let same : tree ≡ b.tree = tree_same tree b.tree (h ∙ sym (ap heap_of_first e)) in
    let shapes : shape ≡ b.shape = d ∙ sym (ap shape_of_first e) in
    subst (λ (z : List Object). IsMessage p z shape) (sym same) (subst (λ (z : List Token). IsMessage p b.tree z) (sym shapes) is)
