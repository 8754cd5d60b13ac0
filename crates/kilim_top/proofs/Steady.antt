-- Where nothing outside fails, no status of a fault is answered.
use Rattle.std.proofs.Common.{◌≡◌, ◌⊎◌, ℕ, List, [], Option, Some, None, refl, ap, inl, inr, arith}
use Rattle.std.specs.Prelude.{IfSome}
use Rattle.kilim_outside.specs.Causes.{Rose}
use Rattle.kilim_outside.specs.Files.{Files}
use Rattle.kilim_command.specs.grammar.Words.{Request}
use Rattle.kilim_top.specs.Outcome.{HasReport, IsFit, Outside, Promises, ReadFailed, shown}
use Rattle.kilim_top.proofs.TopLaws.{faulty, not_still, six}

calm : Rose 0 0 → ⊥
calm rose = omega (arith, rose)

module _ (request : Option Request) (old new : Outside) (still : new.failed ≡ old.failed) (quiet : Rose old.faults new.faults → ⊥) where
  no_read : (request : Option Request) → ReadFailed request old.failed new.failed → ⊥
  no_read None failed = failed
  no_read (Some work) failed = not_still new.failed old.failed _ failed.2 still

  no_fault : (status : ℕ) → Promises request old new status → (status ≡ 0) ⊎ ((status ≡ 1) ⊎ ((status ≡ 2) ⊎ (status ≡ 5)))
  no_fault status p =
      six status p.known (λ e. inl e) (λ e. inr (inl e)) (λ e. inr (inr (inl e))) (λ e. absurd (no_read request (p.only_unread e)))
      (λ e. let w = p.only_unwritten e in absurd (faulty w.0.made w.0.text old new w.0.how_far w.1 still quiet)) (λ e. inr (inr (inr e)))

some_of : (status : ℕ) → (status ≡ 0) ⊎ ((status ≡ 1) ⊎ ((status ≡ 2) ⊎ (status ≡ 5))) → (Some status ≡ None) ⊎ ((Some status ≡ Some 0) ⊎ ((Some status ≡ Some 1) ⊎ ((Some status ≡ Some 2) ⊎ (Some status ≡ Some 5))))
some_of status (inl e) = inr (inl (ap (λ (n : ℕ). Some n) e))
some_of status (inr (inl e)) = inr (inr (inl (ap (λ (n : ℕ). Some n) e)))
some_of status (inr (inr (inl e))) = inr (inr (inr (inl (ap (λ (n : ℕ). Some n) e))))
some_of status (inr (inr (inr e))) = inr (inr (inr (inr (ap (λ (n : ℕ). Some n) e))))

two_of : (a b status : ℕ) → (status ≡ a) ⊎ (status ≡ b) → (Some status ≡ None) ⊎ ((Some status ≡ Some a) ⊎ (Some status ≡ Some b))
two_of a b status (inl e) = inr (inl (ap (λ (n : ℕ). Some n) e))
two_of a b status (inr e) = inr (inr (ap (λ (n : ℕ). Some n) e))

pub complete : (request : Option Request) (contents now_contents : Option Files) (w now_w : Option (List ℕ)) (result : Option ℕ) → IfSome result (λ status. Promises request (shown contents [] w 0) (shown now_contents [] now_w 0) status) → IsFit contents request →
    (result ≡ None) ⊎ ((result ≡ Some 0) ⊎ (result ≡ Some 5))
complete request contents now_contents w now_w None p fit = inl refl
complete request contents now_contents w now_w (Some status) p fit = two_of 0 5 status (p.complete fit refl calm)

pub reported : (request : Option Request) (contents now_contents : Option Files) (w now_w : Option (List ℕ)) (result : Option ℕ) → IfSome result (λ status. Promises request (shown contents [] w 0) (shown now_contents [] now_w 0) status) → HasReport contents request →
    (result ≡ None) ⊎ ((result ≡ Some 1) ⊎ (result ≡ Some 5))
reported request contents now_contents w now_w None p has = inl refl
reported request contents now_contents w now_w (Some status) p has = two_of 1 5 status (p.reported has refl calm)

-- of memory that tells all
pub steady : (request : Option Request) (contents now_contents : Option Files) (w now_w : Option (List ℕ)) (result : Option ℕ) → IfSome result (λ status. Promises request (shown contents [] w 0) (shown now_contents [] now_w 0) status) →
    (result ≡ None) ⊎ ((result ≡ Some 0) ⊎ ((result ≡ Some 1) ⊎ ((result ≡ Some 2) ⊎ (result ≡ Some 5))))
steady request contents now_contents w now_w None p = inl refl
steady request contents now_contents w now_w (Some status) p = some_of status (no_fault request (shown contents [] w 0) (shown now_contents [] now_w 0) refl calm status p)
