-- What a put, a take and a bound change of what is due, and what is due where a task has to wait.
use Rattle.std.proofs.Common.{◌≡◌, ℕ, zero, suc, ◌+◌, ◌-◌, ◌≤◌, Bool, true, false, List, [], ◌∷◌, ◌++◌, Option, Some, None, length, refl, sym, ap, ◌∙◌, ◌⊎◌, inl, inr, arith}
use Rattle.std.specs.Prelude.{is_some, if◌then◌else◌}
use Rattle.std.proofs.lemmas.Bool.Decides.{nat_tests}
use Rattle.kilim_program.specs.declared.names.BoxName.{BoxName}
use Rattle.kilim_run_state.specs.declared.value.Token.{Token}
use Rattle.kilim_run_model.specs.State.{same_box, bounded, with_mailbox, with_message, with_queue, is_full, is_full_at}
use Rattle.kilim_run_model.specs.declared.waits.Waits.{Waits}
use Rattle.kilim_run_model.specs.declared.waits.Waits.TheVariants as wait
use Rattle.kilim_run_board.specs.Places.{same_wait, is_at}
use Rattle.kilim_run_board.specs.Board.{may_wait, room_at, due_in}
use Rattle.kilim_run_board.specs.waiting.Mailboxes.{Post}
use Rattle.kilim_run_board.proofs.Places.{Changes, Leaves, bit}
use Rattle.kilim_run_board.proofs.waiting.Names.{both_ways, same_name, box_itself}
use Rattle.kilim_run_board.proofs.waiting.Lists.{length_pushed}

-- ---- free places

pub no_room_full : (most : Option ℕ) (n : ℕ) → is_some most ≡ true → room_at most n ≡ 0 → is_full_at most n ≡ true
no_room_full None n some e = absurd (cc)
no_room_full (Some most) n some e = let le : most ≤ n = omega arith in grind (arith, nat_tests)

pub full_no_room : (most : Option ℕ) (n : ℕ) → is_full_at most n ≡ true → (room_at most n ≡ 0) × (is_some most ≡ true)
full_no_room None n e = absurd (cc)
full_no_room (Some most) n e = let le : most ≤ n = grind (arith, nat_tests) in (omega arith, refl)

less_room : (most : Option ℕ) (n b : ℕ) → b ≤ 1 → is_full_at most n ≡ false → (room_at most (suc n) + b ≤ room_at most n) ⊎ (room_at most (suc n) ≤ 0)
less_room None n b few e = inr (omega arith)
less_room (Some most) n b few e = by_room (most - n) refl
  where
    by_room : (r : ℕ) → most - n ≡ r → (most - suc n + b ≤ most - n) ⊎ (most - suc n ≤ 0)
    by_room zero e = inr (omega arith)
    by_room (suc r) e = inl (omega arith)

more_room : (most : Option ℕ) (n : ℕ) → room_at most n ≤ room_at most (suc n) + 1
more_room None n = omega arith
more_room (Some most) n = omega arith

bit_few : (b : Bool) → bit b ≤ 1
bit_few true = omega arith
bit_few false = omega arith

-- ---- where a task stands that acts

stands_apart : (s : Option Waits) (w0 w : Waits) → (s ≡ None) ⊎ (s ≡ Some w0) → same_wait w w0 ≡ false → is_at s w ≡ false
stands_apart s w0 w (inl e) apart = ap (λ o. is_at o w) e
stands_apart s w0 w (inr e) apart = ap (λ o. is_at o w) e ∙ apart

module _ (stopped : Bool) (posts : BoxName → Post) (box : BoxName) where
  abbrev queued : Post → ℕ
  queued post = if stopped then 0 else length post.queue

  abbrev roomy : Post → ℕ
  roomy post = if stopped then 0 else room_at post.most (length post.queue)

  here : (post : Post) (b : BoxName) → same_box b box ≡ true → with_mailbox posts box post b ≡ post
  here post b e = ap (λ y. if y then post else posts b) e

  there : (post : Post) (b : BoxName) → same_box b box ≡ false → with_mailbox posts box post b ≡ posts b
  there post b e = ap (λ y. if y then post else posts b) e

  -- what is due at another mailbox is as before
  elsewhere : (post : Post) (s : Option Waits) (w0 : Waits) → (s ≡ None) ⊎ (s ≡ Some w0) → (f : Post → ℕ) (b : BoxName) (w : Waits) → same_box b box ≡ false → same_wait w w0 ≡ false → f (with_mailbox posts box post b) + bit (is_at s w) ≤ f (posts b)
  elsewhere post s w0 stands f b w other apart =
      let e : f (with_mailbox posts box post b) ≡ f (posts b) = ap f (there post b other) in
      let far : bit (is_at s w) ≡ 0 = ap bit (stands_apart s w0 w stands apart) in
      omega arith

  may_stay : (post : Post) → (is_some (posts box).most ≡ true → is_some post.most ≡ true) → (w : Waits) → may_wait posts w ≡ true → may_wait (with_mailbox posts box post) w ≡ true
  may_stay post more (wait.Take b) e = refl
  may_stay post more (wait.Put b) e = by (both_ways (same_box b box))
    where
      by : (same_box b box ≡ true) ⊎ (same_box b box ≡ false) → is_some (with_mailbox posts box post b).most ≡ true
      by (inl is) = ap (λ (x : Post). is_some x.most) (here post b is) ∙ more (ap (λ z. is_some (posts z).most) (sym (same_name b box is)) ∙ e)
      by (inr isnt) = ap (λ (x : Post). is_some x.most) (there post b isnt) ∙ e

  -- ---- a put

  module _ (shape : List Token) (s : Option Waits) (stands : (s ≡ None) ⊎ (s ≡ Some (wait.Put box))) (free : is_full (posts box) ≡ false) where
    abbrev put_post : Post
    put_post = with_message (posts box) shape

    one_more : (z : Bool) → (if z then 0 else length ((posts box).queue ++ ((posts box).puts, shape) ∷ [])) ≤ (if z then 0 else length (posts box).queue) + 1
    one_more true = omega arith
    one_more false = let f = length_pushed (posts box).queue ((posts box).puts, shape) in omega arith

    one_less : (z : Bool) (b : BoxName) → ((if z then 0 else room_at (posts box).most (length ((posts box).queue ++ ((posts box).puts, shape) ∷ []))) + bit (is_at s (wait.Put b)) ≤ (if z then 0 else room_at (posts box).most (length (posts box).queue)))
        ⊎ ((if z then 0 else room_at (posts box).most (length ((posts box).queue ++ ((posts box).puts, shape) ∷ []))) ≤ 0)
    one_less true b = inr (omega arith)
    one_less false b =
        let f : room_at (posts box).most (length ((posts box).queue ++ ((posts box).puts, shape) ∷ [])) ≡ room_at (posts box).most (suc (length (posts box).queue)) = ap (room_at (posts box).most) (length_pushed (posts box).queue ((posts box).puts, shape)) in
        elim (less_room (posts box).most (length (posts box).queue) (bit (is_at s (wait.Put b))) (bit_few (is_at s (wait.Put b))) free) [
          | inl less ↦ inl (omega arith)
          | inr none ↦ inr (omega arith)
        ]

    putting : (b : BoxName) → same_box b box ≡ true → (roomy (with_mailbox posts box put_post b) + bit (is_at s (wait.Put b)) ≤ roomy (posts b)) ⊎ (roomy (with_mailbox posts box put_post b) ≤ 0)
    putting b is =
        let before : roomy (posts b) ≡ roomy (posts box) = ap (λ z. roomy (posts z)) (same_name b box is) in
        let after : roomy (with_mailbox posts box put_post b) ≡ roomy put_post = ap roomy (here put_post b is) in
        elim (one_less stopped b) [
          | inl less ↦ inl (omega arith)
          | inr none ↦ inr (omega arith)
        ]

    put_others : (w : Waits) → same_wait w (wait.Take box) ≡ false → (due_in stopped (with_mailbox posts box put_post) w + bit (is_at s w) ≤ due_in stopped posts w) ⊎ (due_in stopped (with_mailbox posts box put_post) w ≤ 0)
    put_others (wait.Take b) apart = inl (elsewhere put_post s (wait.Put box) stands queued b (wait.Take b) apart refl)
    put_others (wait.Put b) apart = elim (both_ways (same_box b box)) [
      | inl is ↦ putting b is
      | inr isnt ↦ inl (elsewhere put_post s (wait.Put box) stands roomy b (wait.Put b) isnt isnt)
    ]

    pub put_changes : Changes (may_wait posts) (may_wait (with_mailbox posts box put_post)) (due_in stopped posts) (due_in stopped (with_mailbox posts box put_post)) s (wait.Take box)
    put_changes = record {
      leaves = record { still = may_stay put_post (λ e. e); others = put_others };
      away = stands_apart s (wait.Put box) (wait.Take box) stands refl;
      one = let e : queued (with_mailbox posts box put_post box) ≡ queued put_post = ap queued (here put_post box (box_itself box)) in let f = one_more stopped in omega arith;
    }

  -- ---- a take

  module _ (first : ℕ × List Token) (queue : List (ℕ × List Token)) (s : Option Waits) (stands : (s ≡ None) ⊎ (s ≡ Some (wait.Take box))) (some : (posts box).queue ≡ first ∷ queue) where
    abbrev took_post : Post
    took_post = with_queue (posts box) queue

    one_freed : (z : Bool) → (if z then 0 else room_at (posts box).most (length queue)) ≤ (if z then 0 else room_at (posts box).most (length (posts box).queue)) + 1
    one_freed true = omega arith
    one_freed false =
        let before : room_at (posts box).most (length (posts box).queue) ≡ room_at (posts box).most (suc (length queue)) = ap (λ (q : List (ℕ × List Token)). room_at (posts box).most (length q)) some in
        let more = more_room (posts box).most (length queue) in omega arith

    one_fewer : (z : Bool) (b : BoxName) → ((if z then 0 else length queue) + bit (is_at s (wait.Take b)) ≤ (if z then 0 else length (posts box).queue)) ⊎ ((if z then 0 else length queue) ≤ 0)
    one_fewer true b = inr (omega arith)
    one_fewer false b =
        let before : length (posts box).queue ≡ suc (length queue) = ap (λ (q : List (ℕ × List Token)). length q) some in
        let few = bit_few (is_at s (wait.Take b)) in inl (omega arith)

    taking : (b : BoxName) → same_box b box ≡ true → (queued (with_mailbox posts box took_post b) + bit (is_at s (wait.Take b)) ≤ queued (posts b)) ⊎ (queued (with_mailbox posts box took_post b) ≤ 0)
    taking b is =
        let before : queued (posts b) ≡ queued (posts box) = ap (λ z. queued (posts z)) (same_name b box is) in
        let after : queued (with_mailbox posts box took_post b) ≡ queued took_post = ap queued (here took_post b is) in
        elim (one_fewer stopped b) [
          | inl less ↦ inl (omega arith)
          | inr none ↦ inr (omega arith)
        ]

    take_others : (w : Waits) → same_wait w (wait.Put box) ≡ false → (due_in stopped (with_mailbox posts box took_post) w + bit (is_at s w) ≤ due_in stopped posts w) ⊎ (due_in stopped (with_mailbox posts box took_post) w ≤ 0)
    take_others (wait.Put b) apart = inl (elsewhere took_post s (wait.Take box) stands roomy b (wait.Put b) apart refl)
    take_others (wait.Take b) apart = elim (both_ways (same_box b box)) [
      | inl is ↦ taking b is
      | inr isnt ↦ inl (elsewhere took_post s (wait.Take box) stands queued b (wait.Take b) isnt isnt)
    ]

    pub take_changes : Changes (may_wait posts) (may_wait (with_mailbox posts box took_post)) (due_in stopped posts) (due_in stopped (with_mailbox posts box took_post)) s (wait.Put box)
    take_changes = record {
      leaves = record { still = may_stay took_post (λ e. e); others = take_others };
      away = stands_apart s (wait.Take box) (wait.Put box) stands refl;
      one = let e : roomy (with_mailbox posts box took_post box) ≡ roomy took_post = ap roomy (here took_post box (box_itself box)) in let f = one_freed stopped in omega arith;
    }

  -- ---- a bound

  module _ (most : ℕ) (s : Option Waits) (stands : s ≡ None) where
    abbrev bound_post : Post
    bound_post = bounded (posts box) most

    same_queue : (b : BoxName) → queued (with_mailbox posts box bound_post b) ≡ queued (posts b)
    same_queue b = elim (both_ways (same_box b box)) [
      | inl is ↦ ap queued (here bound_post b is) ∙ ap (λ z. queued (posts z)) (sym (same_name b box is))
      | inr isnt ↦ ap queued (there bound_post b isnt)
    ]

    bound_others : (w : Waits) → same_wait w (wait.Put box) ≡ false → (due_in stopped (with_mailbox posts box bound_post) w + bit (is_at s w) ≤ due_in stopped posts w) ⊎ (due_in stopped (with_mailbox posts box bound_post) w ≤ 0)
    bound_others (wait.Take b) apart = inl (let e = same_queue b in let far : bit (is_at s (wait.Take b)) ≡ 0 = ap (λ o. bit (is_at o (wait.Take b))) stands in omega arith)
    bound_others (wait.Put b) apart = inl (elsewhere bound_post s (wait.Put box) (inl stands) roomy b (wait.Put b) apart apart)

    pub bound_leaves : Leaves (may_wait posts) (may_wait (with_mailbox posts box bound_post)) (due_in stopped posts) (due_in stopped (with_mailbox posts box bound_post)) s (wait.Put box)
    bound_leaves = record { still = may_stay bound_post (λ e. refl); others = bound_others }
