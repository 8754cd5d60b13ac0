-- Who waits: one more, and the first less.
use Rattle.std.proofs.Common.{◌≡◌, ℕ, suc, ◌+◌, ◌<◌, Bool, true, false, cond, List, [], ◌∷◌, ◌++◌, Option, Some, None, length, refl, sym, ap, subst, ◌∙◌, inl, inr, arith}
use Rattle.std.specs.Prelude.{if◌then◌else◌}
use Rattle.std.specs.List.{AllByRecursion}
use Rattle.kilim_run_model.specs.declared.waits.Waits.{Waits}
use Rattle.kilim_run_board.specs.Places.{same_wait}
use Rattle.kilim_run_board.specs.declared.waiting.parked.Waiter.{Waiter}
use Rattle.kilim_run_board.specs.waiting.Parked.{StandsBehind, woken}
use Rattle.kilim_run_board.proofs.waiting.Names.{both_ways, one_wait}
use Rattle.kilim_mail_stamps.specs.Merging.{weigh}
use Rattle.kilim_mail_stamps.proofs.Weights.{weigh_append}
use Rattle.kilim_mail_ledger.specs.declared.items.Item.{Item}
use Rattle.kilim_mail_ledger.specs.Ledger.{items_of}
use Rattle.kilim_mail_notes.specs.Histories.{trace_of}
use Rattle.kilim_mail_group.specs.declared.boxes.Sleeper.{Sleeper}
use Rattle.kilim_mail_group.specs.Group.{held}

abbrev pub Waiting : Type 0 → Type 0
Waiting F = Waiter (Sleeper F)

abbrev Found : Type 0 → Type 0
Found F = Waiting F × List (Waiting F)

module _ {F : Type 0} where
  abbrev picked : Waiting F → List (Waiting F) → Option (Found F) → Bool → Option (Found F)
  picked w ws o b = if b then Some (w, ws) else elim o [ None ↦ None | Some found ↦ Some (found.0, w ∷ found.1) ]

  abbrev weighed : (Item → ℕ) → Waiting F → ℕ
  weighed h w = weigh h (items_of (trace_of w.fiber.body.history))

  -- ---- the first that waits for it goes

  pub record IsTaken (v : Waits) (P : Waiting F → Type 0) (ws : List (Waiting F)) (found : Found F) : Type 0 where
    pub at : v ≡ found.0.waits
    pub one : AllByRecursion P ws → P found.0
    pub others : AllByRecursion P ws → AllByRecursion P found.1
    pub many : length ws ≡ suc (length found.1)
    pub weighs : (h : Item → ℕ) → weigh h (held ws) ≡ weigh h (held found.1) + weighed h found.0

  taken_now : (v : Waits) (P : Waiting F → Type 0) (w : Waiting F) (ws : List (Waiting F)) → same_wait v w.waits ≡ true → IsTaken v P (w ∷ ws) (w, ws)
  taken_now v P w ws is = record {
    at = one_wait v w.waits is;
    one = λ all. all.0;
    others = λ all. all.1;
    many = refl;
    weighs = λ h. let a = weigh_append h (items_of (trace_of w.fiber.body.history)) (held ws) in omega arith;
  }

  taken_later : (v : Waits) (P : Waiting F → Type 0) (w : Waiting F) (ws : List (Waiting F)) (found : Found F) → IsTaken v P ws found → IsTaken v P (w ∷ ws) (found.0, w ∷ found.1)
  taken_later v P w ws found is = record {
    at = is.at;
    one = λ all. is.one all.1;
    others = λ all. (all.0, is.others all.1);
    many = ap suc is.many;
    weighs = λ h.
        let a = weigh_append h (items_of (trace_of w.fiber.body.history)) (held ws) in
        let b = weigh_append h (items_of (trace_of w.fiber.body.history)) (held found.1) in
        let c = is.weighs h in
        omega arith;
  }

  pub is_taken : (v : Waits) (P : Waiting F → Type 0) (ws : List (Waiting F)) (found : Found F) → woken v ws ≡ Some found → IsTaken v P ws found
  is_taken v P [] found e = absurd (cc)
  is_taken v P (w ∷ ws) found e = elim (both_ways (same_wait v w.waits)) [
    | inl is ↦ subst (λ (x : Found F). IsTaken v P (w ∷ ws) x) (some_is (w, ws) found (sym (ap (picked w ws (woken v ws)) is) ∙ e)) (taken_now v P w ws is)
    | inr isnt ↦ below (woken v ws) refl (λ x g. is_taken v P ws x g) (sym (ap (picked w ws (woken v ws)) isnt) ∙ e)
  ]
    where
      some_is : (x y : Found F) → Some x ≡ Some y → x ≡ y
      some_is x y e = cc

      below : (o : Option (Found F)) → woken v ws ≡ o → ((x : Found F) → woken v ws ≡ Some x → IsTaken v P ws x) → picked w ws o false ≡ Some found → IsTaken v P (w ∷ ws) found
      below None g again f = absurd (cc)
      below (Some x) g again f = subst (λ (y : Found F). IsTaken v P (w ∷ ws) y) (some_is (x.0, w ∷ x.1) found f) (taken_later v P w ws x (again x g))

  -- nobody waits for it
  pub nobody : (v : Waits) (P : Waiting F → Type 0) (ws : List (Waiting F)) → woken v ws ≡ None → AllByRecursion (λ (w : Waiting F). same_wait v w.waits ≡ true → P w) ws
  nobody v P [] e = tt
  nobody v P (w ∷ ws) e = elim (both_ways (same_wait v w.waits)) [
    | inl is ↦ absurd (let h : Some (w, ws) ≡ None = sym (ap (picked w ws (woken v ws)) is) ∙ e in cc)
    | inr isnt ↦ ((λ is. absurd (let h : true ≡ false = sym is ∙ isnt in cc)), nobody v P ws (below (woken v ws) (sym (ap (picked w ws (woken v ws)) isnt) ∙ e)))
  ]
    where
      below : (o : Option (Found F)) → picked w ws o false ≡ None → o ≡ None
      below None f = refl
      below (Some x) f = absurd (cc)

  -- ---- one more waits

  all_among : (P : Waiting F → Type 0) (xs ys : List (Waiting F)) (y : Waiting F) → AllByRecursion P (xs ++ ys) → P y → AllByRecursion P (xs ++ y ∷ ys)
  all_among P [] ys y all py = (py, all)
  all_among P (x ∷ xs) ys y all py = (all.0, all_among P xs ys y all.1 py)

  pub all_behind : (P : Waiting F → Type 0) (w : Waiting F) (ws ws' : List (Waiting F)) → StandsBehind w ws ws' → AllByRecursion P ws → P w → AllByRecursion P ws'
  all_behind P w ws ws' s all one = subst (AllByRecursion P) (sym s.is) (all_among P s.before s.after w (subst (AllByRecursion P) s.was all) one)

  held_among : (h : Item → ℕ) (w : Waiting F) (xs ys : List (Waiting F)) → weigh h (held (xs ++ w ∷ ys)) ≡ weigh h (held (xs ++ ys)) + weighed h w
  held_among h w [] ys = let a = weigh_append h (items_of (trace_of w.fiber.body.history)) (held ys) in omega arith
  held_among h w (x ∷ xs) ys =
      let r = held_among h w xs ys in
      let a = weigh_append h (items_of (trace_of x.fiber.body.history)) (held (xs ++ w ∷ ys)) in
      let b = weigh_append h (items_of (trace_of x.fiber.body.history)) (held (xs ++ ys)) in
      omega arith

  pub held_behind : (h : Item → ℕ) (w : Waiting F) (ws ws' : List (Waiting F)) → StandsBehind w ws ws' → weigh h (held ws') ≡ weigh h (held ws) + weighed h w
  held_behind h w ws ws' s =
      let a : weigh h (held ws') ≡ weigh h (held (s.before ++ w ∷ s.after)) = ap (λ (xs : List (Waiting F)). weigh h (held xs)) s.is in
      let b : weigh h (held ws) ≡ weigh h (held (s.before ++ s.after)) = ap (λ (xs : List (Waiting F)). weigh h (held xs)) s.was in
      let c = held_among h w s.before s.after in
      omega arith

  length_among : (w : Waiting F) (xs ys : List (Waiting F)) → length (xs ++ w ∷ ys) ≡ suc (length (xs ++ ys))
  length_among w [] ys = refl
  length_among w (x ∷ xs) ys = ap suc (length_among w xs ys)

  pub length_behind : (w : Waiting F) (ws ws' : List (Waiting F)) → StandsBehind w ws ws' → length ws' ≡ suc (length ws)
  length_behind w ws ws' s = ap length s.is ∙ (length_among w s.before s.after ∙ ap (λ (xs : List (Waiting F)). suc (length xs)) (sym s.was))
