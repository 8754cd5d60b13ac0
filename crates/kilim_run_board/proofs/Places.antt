-- Each change of the board keeps where the tasks are.
use Rattle.std.proofs.Common.{◌≡◌, ℕ, ◌+◌, ◌<◌, ◌≤◌, Bool, true, false, ◌&&◌, not, cond, ◌==◌, List, [], ◌∷◌, Option, Some, None, refl, sym, ap, ◌∙◌, ◌⊎◌, inl, inr}
use Rattle.std.proofs.Common.{arith}
use Rattle.std.specs.Prelude.{count_by}
use Rattle.std.proofs.lemmas.List.Sums.{sum_by-cons}
use Rattle.std.proofs.lemmas.List.Sorted.{sum_by-IsPermutation}
use Rattle.std.specs.Prelude.{IsPermutation}
use Rattle.kilim_run_model.specs.declared.waits.Waits.{Waits}
use Rattle.kilim_run_board.proofs.waiting.Names.{both_ways, one_wait, wait_itself}
use Rattle.kilim_run_board.specs.Places.{same_wait, Spot, Ready, Lent, Parked, Place, is_task, is_out_spot, is_out, is_parked_spot, is_parked_at, is_at, is_astray_in, is_astray, is_coming, Stood}
use Rattle.std.proofs.lemmas.Bool.Decides.{nat_tests}

-- ---- counting

pub front : (p : Place → Bool) (x : Place) (xs : List Place) → count_by p (x ∷ xs) ≡ cond (p x) 1 0 + count_by p xs
front p x xs = sum_by-cons (λ y. cond (p y) 1 0) x xs

pub shuffled : (p : Place → Bool) (xs ys : List Place) → IsPermutation xs ys → count_by p ys ≡ count_by p xs
shuffled p xs ys same = sum_by-IsPermutation (λ y. cond (p y) 1 0) xs ys same

pub front_yes : (p : Place → Bool) (x : Place) (xs : List Place) → p x ≡ true → count_by p (x ∷ xs) ≡ 1 + count_by p xs
front_yes p x xs e = front p x xs ∙ ap (λ b. cond b 1 0 + count_by p xs) e

pub front_no : (p : Place → Bool) (x : Place) (xs : List Place) → p x ≡ false → count_by p (x ∷ xs) ≡ count_by p xs
front_no p x xs e = let f : count_by p (x ∷ xs) ≡ 0 + count_by p xs = front p x xs ∙ ap (λ b. cond b 1 0 + count_by p xs) e in omega arith

abbrev pub bit : Bool → ℕ
bit b = cond b 1 0

-- tests that agree on all tasks but one count alike where that one isn't
pub agree : (t : ℕ) (p q : Place → Bool) → ((x : Place) → (x.task == t) ≡ false → p x ≡ q x) → (xs : List Place) → count_by (is_task t) xs ≡ 0 → count_by p xs ≡ count_by q xs
agree t p q same [] e = refl
agree t p q same (x ∷ xs) e =
    elim (both_ways (x.task == t)) [
      | inl is ↦ absurd (let f : count_by (is_task t) (x ∷ xs) ≡ 1 + count_by (is_task t) xs = front_yes (is_task t) x xs is in omega arith)
      | inr isnt ↦
          let f : count_by (is_task t) (x ∷ xs) ≡ count_by (is_task t) xs = front_no (is_task t) x xs isnt in
          front p x xs ∙ (ap (λ b. cond b 1 0 + count_by p xs) (same x isnt) ∙ (ap (λ n. cond (q x) 1 0 + n) (agree t p q same xs (sym f ∙ e)) ∙ sym (front q x xs)))
    ]

fewer : (p q : Place → Bool) → ((x : Place) → q x ≡ false → p x ≡ false) → (xs : List Place) → count_by p xs ≤ count_by q xs
fewer p q less [] = omega arith
fewer p q less (x ∷ xs) =
    let h : count_by p xs ≤ count_by q xs = fewer p q less xs in
    elim (both_ways (q x)) [
      | inl is ↦ elim (both_ways (p x)) [
        | inl also ↦ let f = front_yes p x xs also in let g = front_yes q x xs is in omega arith
        | inr not_p ↦ let f = front_no p x xs not_p in let g = front_yes q x xs is in omega arith
      ]
      | inr isnt ↦ let f = front_no p x xs (less x isnt) in let g = front_no q x xs isnt in omega arith
    ]

-- ---- what is waited for

-- where a task stands is one place
pub one_place : (s : Option Waits) (w : Waits) → is_at s w ≡ true → s ≡ Some w
one_place None w e = absurd (cc)
one_place (Some v) w e = ap (λ x. Some x) (sym (one_wait w v e))

-- ---- changes

-- Who may wait still may; and of each wait but one there is less due, by who acts at it, or nothing is due.
pub record Leaves (may may' : Waits → Bool) (due due' : Waits → ℕ) (stands : Option Waits) (w0 : Waits) : Type 0 where
  pub still : (w : Waits) → may w ≡ true → may' w ≡ true
  pub others : (w : Waits) → same_wait w w0 ≡ false → (due' w + bit (is_at stands w) ≤ due w) ⊎ (due' w ≤ 0)

-- of that one there is one more due at the most, and who acts doesn't stand there
pub record Changes (may may' : Waits → Bool) (due due' : Waits → ℕ) (stands : Option Waits) (w0 : Waits) : Type 0 where
  pub leaves : Leaves may may' due due' stands w0
  pub away : is_at stands w0 ≡ false
  pub one : due' w0 ≤ due w0 + 1

module _ (alive : ℕ → Bool) (stands : ℕ → Option Waits) (may : Waits → Bool) (due : Waits → ℕ) where
  pub stood_shuffled : (xs ys : List Place) → IsPermutation xs ys → Stood alive stands may due xs → Stood alive stands may due ys
  stood_shuffled xs ys same s = record {
    placed = λ t. shuffled (is_task t) xs ys same ∙ s.placed t;
    astray = shuffled (is_astray stands) xs ys same ∙ s.astray;
    held = λ w some. let parked = shuffled (is_parked_at w) xs ys same in s.held w (omega arith);
    served = λ w some. let parked = shuffled (is_parked_at w) xs ys same in let coming = shuffled (is_coming stands w) xs ys same in
        let h : due w ≤ count_by (is_coming stands w) xs = s.served w (omega arith) in omega arith;
  }

  -- the task in front is nowhere else, and hasn't ended
  pub only_there : (x : Place) (rest : List Place) → Stood alive stands may due (x ∷ rest) → count_by (is_task x.task) rest ≡ 0
  only_there x rest s =
      let f : count_by (is_task x.task) (x ∷ rest) ≡ 1 + count_by (is_task x.task) rest = front_yes (is_task x.task) x rest (grind (arith, nat_tests)) in
      elim (both_ways (alive x.task)) [
        | inl is ↦ let g : count_by (is_task x.task) (x ∷ rest) ≡ 1 = s.placed x.task ∙ ap (λ b. cond b 1 0) is in omega arith
        | inr isnt ↦ let g : count_by (is_task x.task) (x ∷ rest) ≡ 0 = s.placed x.task ∙ ap (λ b. cond b 1 0) isnt in omega arith
      ]

  pub is_alive : (x : Place) (rest : List Place) → Stood alive stands may due (x ∷ rest) → alive x.task ≡ true
  is_alive x rest s =
      let f : count_by (is_task x.task) (x ∷ rest) ≡ 1 + count_by (is_task x.task) rest = front_yes (is_task x.task) x rest (grind (arith, nat_tests)) in
      elim (both_ways (alive x.task)) [
        | inl is ↦ is
        | inr isnt ↦ absurd (let g : count_by (is_task x.task) (x ∷ rest) ≡ 0 = s.placed x.task ∙ ap (λ b. cond b 1 0) isnt in omega arith)
      ]

  -- a ready task is lent, or a lent one is ready again
  pub lent : (t : ℕ) (rest : List Place) → Stood alive stands may due (record { spot = Ready; task = t } ∷ rest) → Stood alive stands may due (record { spot = Lent; task = t } ∷ rest)
  lent t rest s = record { placed = s.placed; astray = s.astray; held = s.held; served = s.served }

  pub given_back : (t : ℕ) (rest : List Place) → Stood alive stands may due (record { spot = Lent; task = t } ∷ rest) → Stood alive stands may due (record { spot = Ready; task = t } ∷ rest)
  given_back t rest s = record { placed = s.placed; astray = s.astray; held = s.held; served = s.served }

  -- a lent task is parked where it stands and may wait, and nothing is due
  pub parked : (t : ℕ) (w : Waits) (rest : List Place) → is_at (stands t) w ≡ true → may w ≡ true → due w ≡ 0 →
      Stood alive stands may due (record { spot = Lent; task = t } ∷ rest) → Stood alive stands may due (record { spot = Parked w; task = t } ∷ rest)
  parked t w rest at-it can none s = record {
    placed = s.placed;
    astray = front_no (is_astray stands) (record { spot = Parked w; task = t }) rest (ap not at-it) ∙ (sym (front_no (is_astray stands) (record { spot = Lent; task = t }) rest refl) ∙ s.astray);
    held = λ v some. elim (both_ways (same_wait v w)) [
      | inl is ↦ ap may (one_wait v w is) ∙ can
      | inr isnt ↦
          let here : count_by (is_parked_at v) (record { spot = Parked w; task = t } ∷ rest) ≡ count_by (is_parked_at v) rest = front_no (is_parked_at v) (record { spot = Parked w; task = t }) rest isnt in
          let there : count_by (is_parked_at v) (record { spot = Lent; task = t } ∷ rest) ≡ count_by (is_parked_at v) rest = front_no (is_parked_at v) (record { spot = Lent; task = t }) rest refl in
          s.held v (omega arith)
    ];
    served = λ v some. elim (both_ways (same_wait v w)) [
      | inl is ↦ let e : due v ≡ 0 = ap due (one_wait v w is) ∙ none in omega arith
      | inr isnt ↦
          let here : count_by (is_parked_at v) (record { spot = Parked w; task = t } ∷ rest) ≡ count_by (is_parked_at v) rest = front_no (is_parked_at v) (record { spot = Parked w; task = t }) rest isnt in
          let there : count_by (is_parked_at v) (record { spot = Lent; task = t } ∷ rest) ≡ count_by (is_parked_at v) rest = front_no (is_parked_at v) (record { spot = Lent; task = t }) rest refl in
          let h : due v ≤ count_by (is_coming stands v) (record { spot = Lent; task = t } ∷ rest) = s.served v (omega arith) in
          let other : is_at (stands t) v ≡ false = ap (λ o. is_at o v) (one_place (stands t) w at-it) ∙ isnt in
          let before = front_no (is_coming stands v) (record { spot = Lent; task = t }) rest other in
          let after = front_no (is_coming stands v) (record { spot = Parked w; task = t }) rest refl in
          omega arith
    ];
  }

  module _ (stands' : ℕ → Option Waits) (may' : Waits → Bool) (due' : Waits → ℕ) (t : ℕ) (others : (u : ℕ) → (u == t) ≡ false → stands' u ≡ stands u) where
    rest_astray : (rest : List Place) → count_by (is_task t) rest ≡ 0 → count_by (is_astray stands') rest ≡ count_by (is_astray stands) rest
    rest_astray rest none = agree t (is_astray stands') (is_astray stands) (λ x isnt. ap (is_astray_in x.spot) (others x.task isnt)) rest none

    rest_coming : (w : Waits) (rest : List Place) → count_by (is_task t) rest ≡ 0 → count_by (is_coming stands' w) rest ≡ count_by (is_coming stands w) rest
    rest_coming w rest none = agree t (is_coming stands' w) (is_coming stands w) (λ x isnt. ap (λ o. is_out x && is_at o w) (others x.task isnt)) rest none

    -- a lent task acts, and no more is due anywhere
    pub acts : (rest : List Place) → ((w : Waits) → may w ≡ true → may' w ≡ true) → ((w : Waits) → (due' w + bit (is_at (stands t) w) ≤ due w) ⊎ (due' w ≤ 0)) →
        Stood alive stands may due (record { spot = Lent; task = t } ∷ rest) → Stood alive stands' may' due' (record { spot = Lent; task = t } ∷ rest)
    acts rest still no_more s =
        let none : count_by (is_task t) rest ≡ 0 = only_there (record { spot = Lent; task = t }) rest s in record {
          placed = s.placed;
          astray = front_no (is_astray stands') (record { spot = Lent; task = t }) rest refl ∙ (rest_astray rest none ∙ (sym (front_no (is_astray stands) (record { spot = Lent; task = t }) rest refl) ∙ s.astray));
          held = λ w some. still w (s.held w some);
          served = λ w some.
              let h : due w ≤ count_by (is_coming stands w) (record { spot = Lent; task = t } ∷ rest) = s.served w some in
              let before : count_by (is_coming stands w) (record { spot = Lent; task = t } ∷ rest) ≡ bit (is_at (stands t) w) + count_by (is_coming stands w) rest = front (is_coming stands w) (record { spot = Lent; task = t }) rest in
              let after = front (is_coming stands' w) (record { spot = Lent; task = t }) rest in
              let same = rest_coming w rest none in
              elim (no_more w) [ inl fewer ↦ omega arith | inr nothing ↦ omega arith ];
        }

    -- what becomes of a task that is in no place
    pub unseen : (places : List Place) → count_by (is_task t) places ≡ 0 → ((w : Waits) → may w ≡ true → may' w ≡ true) → ((w : Waits) → due' w ≤ due w) → Stood alive stands may due places → Stood alive stands' may' due' places
    unseen places none still less s = record {
      placed = s.placed;
      astray = rest_astray places none ∙ s.astray;
      held = λ w some. still w (s.held w some);
      served = λ w some. let h : due w ≤ count_by (is_coming stands w) places = s.served w some in let k = less w in let e = rest_coming w places none in omega arith;
    }

    module _ (w0 : Waits) where
      -- A lent task acts, and more is due where nobody is parked: a message where nobody takes, or a free place where nobody puts.
      pub alone : Leaves may may' due due' (stands t) w0 → (rest : List Place) → count_by (is_parked_at w0) rest ≡ 0 →
          Stood alive stands may due (record { spot = Lent; task = t } ∷ rest) → Stood alive stands' may' due' (record { spot = Lent; task = t } ∷ rest)
      alone c rest nobody s =
          let none : count_by (is_task t) rest ≡ 0 = only_there (record { spot = Lent; task = t }) rest s in record {
            placed = s.placed;
            astray = front_no (is_astray stands') (record { spot = Lent; task = t }) rest refl ∙ (rest_astray rest none ∙ (sym (front_no (is_astray stands) (record { spot = Lent; task = t }) rest refl) ∙ s.astray));
            held = λ w some. c.still w (s.held w some);
            served = λ w some. elim (both_ways (same_wait w w0)) [
              | inl is ↦ absurd (
                  let e : count_by (is_parked_at w) rest ≡ 0 = ap (λ x. count_by (is_parked_at x) rest) (one_wait w w0 is) ∙ nobody in
                  let f = front_no (is_parked_at w) (record { spot = Lent; task = t }) rest refl in omega arith)
              | inr isnt ↦
                  let h : due w ≤ count_by (is_coming stands w) (record { spot = Lent; task = t } ∷ rest) = s.served w some in
                  let before : count_by (is_coming stands w) (record { spot = Lent; task = t } ∷ rest) ≡ bit (is_at (stands t) w) + count_by (is_coming stands w) rest = front (is_coming stands w) (record { spot = Lent; task = t }) rest in
                  let after = front (is_coming stands' w) (record { spot = Lent; task = t }) rest in
                  let alike = rest_coming w rest none in
                  elim (c.others w isnt) [ inl less ↦ omega arith | inr nothing ↦ omega arith ]
            ];
          }

      -- the same where the first that is parked there is ready then
      pub wakes : Changes may may' due due' (stands t) w0 → (u : ℕ) (rest : List Place) →
          Stood alive stands may due (record { spot = Lent; task = t } ∷ record { spot = Parked w0; task = u } ∷ rest) →
          Stood alive stands' may' due' (record { spot = Lent; task = t } ∷ record { spot = Ready; task = u } ∷ rest)
      wakes c u rest s =
          let x : Place = record { spot = Lent; task = t } in
          let y : Place = record { spot = Parked w0; task = u } in
          let z : Place = record { spot = Ready; task = u } in
          let none : count_by (is_task t) (y ∷ rest) ≡ 0 = only_there x (y ∷ rest) s in
          let none-z : count_by (is_task t) (z ∷ rest) ≡ 0 = none in
          let astray-x : count_by (is_astray stands) (x ∷ y ∷ rest) ≡ count_by (is_astray stands) (y ∷ rest) = front_no (is_astray stands) x (y ∷ rest) refl in
          let astray-y : count_by (is_astray stands) (y ∷ rest) ≡ cond (not (is_at (stands u) w0)) 1 0 + count_by (is_astray stands) rest = front (is_astray stands) y rest in
          let at-it : is_at (stands u) w0 ≡ true = elim (both_ways (is_at (stands u) w0)) [
            | inl is ↦ is
            | inr isnt ↦ absurd (let e = ap (λ b. cond (not b) 1 0 + count_by (is_astray stands) rest) isnt in let f = s.astray in omega arith)
          ] in
          record {
            placed = s.placed;
            astray =
                let f = front_no (is_astray stands') x (z ∷ rest) refl in
                let g = front_no (is_astray stands') z rest refl in
                let h = s.astray in
                let same-rest = rest_astray (z ∷ rest) none-z in
                let k = front_no (is_astray stands) z rest refl in
                omega arith;
            held = λ w some.
                let parked-x = front_no (is_parked_at w) x (y ∷ rest) refl in
                let parked-z = front_no (is_parked_at w) x (z ∷ rest) refl in
                let away-z : count_by (is_parked_at w) (z ∷ rest) ≡ count_by (is_parked_at w) rest = front_no (is_parked_at w) z rest refl in
                let at-y = front (is_parked_at w) y rest in
                c.leaves.still w (s.held w (omega arith));
            served = λ w some.
                let before : count_by (is_coming stands w) (x ∷ y ∷ rest) ≡ bit (is_at (stands t) w) + count_by (is_coming stands w) (y ∷ rest) = front (is_coming stands w) x (y ∷ rest) in
                let before-y = front_no (is_coming stands w) y rest refl in
                let after = front (is_coming stands' w) x (z ∷ rest) in
                let alike = rest_coming w (z ∷ rest) none-z in
                let after-z : count_by (is_coming stands w) (z ∷ rest) ≡ cond (is_at (stands u) w) 1 0 + count_by (is_coming stands w) rest = front (is_coming stands w) z rest in
                let parked-x = front_no (is_parked_at w) x (y ∷ rest) refl in
                elim (both_ways (same_wait w w0)) [
                  | inl is ↦
                      let e : w ≡ w0 = one_wait w w0 is in
                      let here : count_by (is_parked_at w) (y ∷ rest) ≡ 1 + count_by (is_parked_at w) rest = front_yes (is_parked_at w) y rest is in
                      let h : due w ≤ count_by (is_coming stands w) (x ∷ y ∷ rest) = s.served w (omega arith) in
                      let counts : bit (is_at (stands u) w) ≡ 1 = ap (λ v. bit (is_at (stands u) v)) e ∙ ap bit at-it in
                      let far : bit (is_at (stands t) w) ≡ 0 = ap (λ v. bit (is_at (stands t) v)) e ∙ ap bit c.away in
                      let m : due w ≡ due w0 = ap due e in
                      let m' : due' w ≡ due' w0 = ap due' e in
                      let one = c.one in
                      omega arith
                  | inr isnt ↦
                      let away-y : count_by (is_parked_at w) (y ∷ rest) ≡ count_by (is_parked_at w) rest = front_no (is_parked_at w) y rest isnt in
                      let away-z : count_by (is_parked_at w) (z ∷ rest) ≡ count_by (is_parked_at w) rest = front_no (is_parked_at w) z rest refl in
                      let parked-z = front_no (is_parked_at w) x (z ∷ rest) refl in
                      let h : due w ≤ count_by (is_coming stands w) (x ∷ y ∷ rest) = s.served w (omega arith) in
                      elim (c.leaves.others w isnt) [ inl less ↦ omega arith | inr nothing ↦ omega arith ]
                ];
          }

  -- a lent task ends
  pub ended : (alive' : ℕ → Bool) (t : ℕ) (rest : List Place) → alive' t ≡ false → ((u : ℕ) → (u == t) ≡ false → alive' u ≡ alive u) → ((w : Waits) → (is_at (stands t) w ≡ false) ⊎ (due w ≡ 0)) →
      Stood alive stands may due (record { spot = Lent; task = t } ∷ rest) → Stood alive' stands may due rest
  ended alive' t rest over others away s =
      let x : Place = record { spot = Lent; task = t } in
      let none : count_by (is_task t) rest ≡ 0 = only_there x rest s in record {
        placed = λ u. elim (both_ways (u == t)) [
          | inl is ↦ let e : u ≡ t = grind (arith, nat_tests) in ap (λ v. count_by (is_task v) rest) e ∙ (none ∙ sym (ap (λ v. cond (alive' v) 1 0) e ∙ ap (λ b. cond b 1 0) over))
          | inr isnt ↦ let isnt-x : (x.task == u) ≡ false = grind (arith, nat_tests) in sym (front_no (is_task u) x rest isnt-x) ∙ (s.placed u ∙ ap (λ b. cond b 1 0) (sym (others u isnt)))
        ];
        astray = sym (front_no (is_astray stands) x rest refl) ∙ s.astray;
        held = λ w some. let f = front_no (is_parked_at w) x rest refl in s.held w (omega arith);
        served = λ w some.
            let f = front_no (is_parked_at w) x rest refl in
            let h : due w ≤ count_by (is_coming stands w) (x ∷ rest) = s.served w (omega arith) in
            elim (away w) [
              | inl elsewhere ↦ let g = front_no (is_coming stands w) x rest elsewhere in omega arith
              | inr nothing ↦ omega arith
            ];
      }

  -- less is due
  pub less_due : (due' : Waits → ℕ) (places : List Place) → ((w : Waits) → due' w ≤ due w) → Stood alive stands may due places → Stood alive stands may due' places
  less_due due' places less s = record {
    placed = s.placed;
    astray = s.astray;
    held = s.held;
    served = λ w some. let h : due w ≤ count_by (is_coming stands w) places = s.served w some in let k = less w in omega arith;
  }

  -- a new task is ready
  pub comes : (alive' : ℕ → Bool) (k : ℕ) (places : List Place) → alive k ≡ false → alive' k ≡ true → ((u : ℕ) → (u == k) ≡ false → alive' u ≡ alive u) →
      Stood alive stands may due places → Stood alive' stands may due (record { spot = Ready; task = k } ∷ places)
  comes alive' k places new is-there others s =
      let x : Place = record { spot = Ready; task = k } in record {
        placed = λ u. elim (both_ways (u == k)) [
          | inl is ↦
              let e : u ≡ k = grind (arith, nat_tests) in
              let is-x : (x.task == u) ≡ true = grind (arith, nat_tests) in
              let f = front_yes (is_task u) x places is-x in
              let g : count_by (is_task u) places ≡ 0 = s.placed u ∙ ap (λ v. cond (alive v) 1 0) e ∙ ap (λ b. cond b 1 0) new in
              let h : bit (alive' u) ≡ 1 = ap (λ v. bit (alive' v)) e ∙ ap bit is-there in omega arith
          | inr isnt ↦ let isnt-x : (x.task == u) ≡ false = grind (arith, nat_tests) in front_no (is_task u) x places isnt-x ∙ (s.placed u ∙ ap (λ b. cond b 1 0) (sym (others u isnt)))
        ];
        astray = front_no (is_astray stands) x places refl ∙ s.astray;
        held = λ w some. let f = front_no (is_parked_at w) x places refl in s.held w (omega arith);
        served = λ w some.
            let f = front_no (is_parked_at w) x places refl in
            let h : due w ≤ count_by (is_coming stands w) places = s.served w (omega arith) in
            let g = front (is_coming stands w) x places in omega arith;
      }

  -- ---- at rest

  -- Where nothing is ready and nothing is lent, each task that hasn't ended stands where it may wait, and nothing is due there.
  abbrev IsParked : ℕ → List Place → Type 0
  IsParked t places = (w : Waits) × (is_at (stands t) w ≡ true) × (0 < count_by (is_parked_at w) places)

  is_parked_later : (t : ℕ) (x : Place) (xs : List Place) → IsParked t xs → IsParked t (x ∷ xs)
  is_parked_later t x xs h = let f = front (is_parked_at h.0) x xs in (h.0, h.1, omega arith)

  found_in : (t : ℕ) (x : Place) (xs : List Place) (s : Spot) → s ≡ x.spot → bit (is_out x) ≡ 0 → bit (is_astray stands x) ≡ 0 → (x.task == t) ≡ true → IsParked t (x ∷ xs)
  found_in t x xs Ready e no_out no_astray is = absurd (let f : 1 ≡ bit (is_out x) = ap (λ y. bit (is_out_spot y)) e in omega arith)
  found_in t x xs Lent e no_out no_astray is = absurd (let f : 1 ≡ bit (is_out x) = ap (λ y. bit (is_out_spot y)) e in omega arith)
  found_in t x xs (Parked w) e no_out no_astray is =
      let here : x.task ≡ t = grind (arith, nat_tests) in
      let strays : bit (not (is_at (stands t) w)) ≡ bit (is_astray stands x) = ap (λ u. bit (not (is_at (stands u) w))) (sym here) ∙ ap (λ y. bit (is_astray_in y (stands x.task))) e in
      elim (both_ways (is_at (stands t) w)) [
        | inl at-it ↦
            let p : is_parked_at w x ≡ true = ap (is_parked_spot w) (sym e) ∙ wait_itself w in
            let f = front_yes (is_parked_at w) x xs p in (w, at-it, omega arith)
        | inr isnt ↦ absurd (let g : 1 ≡ bit (not (is_at (stands t) w)) = ap (λ b. bit (not b)) (sym isnt) in omega arith)
      ]

  found_parked : (t : ℕ) (places : List Place) → count_by is_out places ≡ 0 → count_by (is_astray stands) places ≡ 0 → 0 < count_by (is_task t) places → IsParked t places
  found_parked t [] no_out no_astray there = absurd (omega arith)
  found_parked t (x ∷ xs) no_out no_astray there =
      let out : count_by is_out (x ∷ xs) ≡ bit (is_out x) + count_by is_out xs = front is_out x xs in
      let stray : count_by (is_astray stands) (x ∷ xs) ≡ bit (is_astray stands x) + count_by (is_astray stands) xs = front (is_astray stands) x xs in
      elim (both_ways (x.task == t)) [
        | inl is ↦ found_in t x xs x.spot refl (omega arith) (omega arith) is
        | inr isnt ↦ let f = front_no (is_task t) x xs isnt in is_parked_later t x xs (found_parked t xs (omega arith) (omega arith) (omega arith))
      ]

  pub at_rest : (t : ℕ) (places : List Place) → count_by is_out places ≡ 0 → alive t ≡ true → Stood alive stands may due places →
      (w : Waits) × (stands t ≡ Some w) × (due w ≡ 0) × (may w ≡ true)
  at_rest t places no_out is-alive s =
      let there : count_by (is_task t) places ≡ 1 = s.placed t ∙ ap (λ b. cond b 1 0) is-alive in
      let h : IsParked t places = found_parked t places no_out s.astray (omega arith) in
      let few : due h.0 ≤ count_by (is_coming stands h.0) places = s.served h.0 h.2 in
      let none : count_by (is_coming stands h.0) places ≤ count_by is_out places = fewer (is_coming stands h.0) is_out (λ x isnt. ap (λ b. b && is_at (stands x.task) h.0) isnt) places in
      (h.0, one_place (stands t) h.0 h.1, omega arith, s.held h.0 h.2)
