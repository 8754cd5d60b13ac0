-- Names of mailboxes, and what is waited for there.
use Rattle.std.proofs.Common.{◌≡◌, ℕ, Bool, true, false, refl, ap, ◌∙◌, ◌⊎◌, inl, inr, arith}
use Rattle.std.proofs.lemmas.Bool.Decides.{nat_tests}
use Rattle.kilim_program.specs.declared.names.BoxName.{BoxName}
use Rattle.kilim_run_model.specs.State.{same_box}
use Rattle.kilim_run_model.specs.declared.waits.Waits.{Waits}
use Rattle.kilim_run_model.specs.declared.waits.Waits.TheVariants as wait
use Rattle.kilim_run_board.specs.Places.{same_wait}

pub both_ways : (b : Bool) → (b ≡ true) ⊎ (b ≡ false)
both_ways true = inl refl
both_ways false = inr refl

named : ℕ → ℕ → BoxName
named t n = record { task = t; number = n }

pub same_name : (a b : BoxName) → same_box a b ≡ true → a ≡ b
unfolding named
same_name a b e =
    let f : a.task ≡ b.task = grind (arith, nat_tests) in
    let g : a.number ≡ b.number = grind (arith, nat_tests) in
    ap (λ t. named t a.number) f ∙ ap (λ n. named b.task n) g

pub box_itself : (a : BoxName) → same_box a a ≡ true
box_itself a = grind (arith, nat_tests)

pub one_wait : (v w : Waits) → same_wait v w ≡ true → v ≡ w
one_wait (wait.Take a) (wait.Take b) e = ap wait.Take (same_name a b e)
one_wait (wait.Put a) (wait.Put b) e = ap wait.Put (same_name a b e)
one_wait (wait.Take a) (wait.Put b) e = absurd (cc)
one_wait (wait.Put a) (wait.Take b) e = absurd (cc)

pub wait_itself : (w : Waits) → same_wait w w ≡ true
wait_itself (wait.Take box) = box_itself box
wait_itself (wait.Put box) = box_itself box
