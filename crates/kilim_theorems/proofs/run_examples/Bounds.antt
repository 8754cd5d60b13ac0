-- Mailboxes with a bound at their edges.
use Rattle.std.proofs.Common.{◌≡◌, ℕ, ◌+◌, ◌≤◌, Bool, true, false, cond, List, [], ◌∷◌, ◌++◌, Option, Some, None, length, length-append, refl, ap, ◌∙◌, arith}
use Rattle.std.proofs.lemmas.Bool.Decides.{nat_tests}
use Rattle.std.specs.Prelude.{nat_le, pos}
use Rattle.kilim_program.specs.declared.names.BoxName.{BoxName}
use Rattle.kilim_run_state.specs.declared.cause.EndCause.TheVariants.{Full}
use Rattle.kilim_run_state.specs.declared.value.Token.{Token}
use Rattle.kilim_run_state.specs.Machine.{Activation}
use Rattle.kilim_run_journal.specs.declared.entry.Act.TheVariants.{End}
use Rattle.kilim_run_model.specs.State.{Mailbox, is_full_at, Alive}
use Rattle.kilim_run_model.specs.Lone.{Next, put_next, put_wait_next, get_at, ended, next_move}
use Rattle.kilim_run_model.specs.Turn.{acted, quiet, puts, lone_of, with_lone}
use Rattle.kilim_run_model.specs.Runs.{if_waits}
use Rattle.kilim_theorems.specs.run_examples.Bounds.{BoundsAtEdges, PutsWhereFull, NullThenLargeThenFull, WhoWaitsToPut}

puts_where_full : PutsWhereFull
puts_where_full setting s t box root shape after = (
  λ e. ap (λ (b : Bool). cond b (acted (with_lone s t (ended after Full)) (End Full)) (puts (with_lone s t after) box root shape)) e,
  λ e. ap (λ (b : Bool). cond b (quiet s) (puts (with_lone s t after) box root shape)) e,
  λ e. ap (λ (b : Bool). cond b (acted (with_lone s t (ended after Full)) (End Full)) (puts (with_lone s t after) box root shape)) e,
  λ e. ap (λ (b : Bool). cond b (quiet s) (puts (with_lone s t after) box root shape)) e,
)

null_then_large : NullThenLargeThenFull
null_then_large setting after box n = (
  refl,
  λ e. ap (put_wait_next after box n) e,
  λ e. ap (put_next after box n) e,
  λ shape e. ap (put_wait_next after box n) e,
)

-- one more message
stays_full : (most : Option ℕ) (queue more : List (ℕ × ℕ)) → is_full_at most (length queue) ≡ true → is_full_at most (length (queue ++ more)) ≡ true
stays_full None queue more e = e
stays_full (Some most) queue more e = let n = length-append queue more in let le : most ≤ length queue = grind (arith, nat_tests, e) in grind (arith, nat_tests, n, le)

who_waits : WhoWaitsToPut
who_waits setting s t box root shape frames done boxes after = (
  λ stands full. ap (λ (next : Next). if_waits s (get_at next)) stands ∙ ap (λ (b : Bool). cond b (Some box) None) full,
  λ stands room. ap (λ (next : Next). if_waits s (get_at next)) stands ∙ ap (λ (b : Bool). cond b (Some box) None) room,
  λ stands. ap (λ (next : Next). if_waits s (get_at next)) stands,
)

pub bounds_at_edges : BoundsAtEdges
bounds_at_edges = record {
  when_full = (λ n queue. refl, refl, refl, refl, refl);
  bound_alone = λ m most. (refl, refl, refl);
  least_bound = λ setting after box. (refl, refl, refl, refl);
  bound_is_an_action = λ setting s t box most after. refl;
  puts_where_full = puts_where_full;
  null_then_large_then_full = null_then_large;
  put_makes_no_room = λ s box root shape m. (refl, stays_full m.most m.queue ((m.puts, root) ∷ []));
  who_waits_to_put = who_waits;
}
