-- The machine at its edges.
use Rattle.std.proofs.Common.{◌≡◌, ℕ, ◌<◌, ◌≤◌, Bool, true, cond, List, [], ◌∷◌, Option, Some, None, length, refl, ap, ◌∙◌, arith}
use Rattle.std.specs.Prelude.{◌==◌, ◌&&◌, ℤ, pos, nat_lt, nat_le, count_by}
use Rattle.std.proofs.lemmas.Bool.{lt-leb, le-leb, lt-ltb, le-ltb, eq-eqb}
use Rattle.kilim_run_state.specs.declared.cause.EndCause.TheVariants.{Depth, Spent, Tasks, Boxes, Done, Index, Large, Null, Zero}
use Rattle.kilim_run_state.specs.declared.value.Token.{Token}
use Rattle.kilim_program.specs.declared.value.Value.TheVariants as value
use Rattle.kilim_program.specs.declared.names.BoxName.{BoxName}
use Rattle.kilim_program.specs.Names.{◌>>=◌}
use Rattle.kilim_run_journal.specs.declared.entry.Act.TheVariants.{Start, End}
use Rattle.kilim_run_state.specs.Machine.{Activation}
use Rattle.kilim_run_machine.specs.Moves.{Move, called, entered, receiver_of, Enters}
use Rattle.kilim_run_machine.specs.Moves as move
use Rattle.kilim_run_state.specs.Shapes.{tree_limit, is_open, shape_by}
use Rattle.kilim_run_model.specs.State.{Alive, same_box, with_queue, execute_frames, Setting, Thread, State}
use Rattle.kilim_run_model.specs.Lone.{Next, Goes, ended, pushed, narrowed, over, frames_next, next_move, get_at, put_next, start_next, arg_next, arg_at, Lone, thread_next, message_next}
use Rattle.kilim_run_model.proofs.Raised.{raised_over, raises_over}
use Rattle.kilim_run_model.specs.declared.waits.Waits.TheVariants as wait
use Rattle.kilim_run_model.specs.Turn.{acted, lone_of, with_lone, starts_with, moved_by}
use Rattle.kilim_run_model.specs.Runs.{where_empty, if_waits, waits_at}
use Rattle.kilim_run_model.specs.Edges.{EdgesHold, FirstIsTaken, LastFrame, LastTask, LargestTree, LastStep, NullThenLargeThenTasks, Arguments, WhoWaits}

last_frame : LastFrame
last_frame p m args frames heap = (
  λ e. ap (λ (n : ℕ). cond (nat_lt n 512) (move.Runs (Enters (receiver_of p m args)) (entered p m args ∷ frames) heap) (move.Ends Depth)) e,
  λ e. ap (λ (n : ℕ). cond (nat_lt n 512) (move.Runs (Enters (receiver_of p m args)) (entered p m args ∷ frames) heap) (move.Ends Depth)) e,
)

last_task : LastTask
last_task setting s t root shape after = (
  λ frames n begins count few.
      let room : length s.threads < 10000 = omega arith in
      ap (λ (b : Bool). (cond b (starts_with s shape (with_lone s t after) (execute_frames setting.program after.heap root)) (acted (with_lone s t (ended after Tasks)) (End Tasks))).act) (lt-ltb (length s.threads) 10000 room)
      ∙ (ap (λ (f : Option (List Activation)). (starts_with s shape (with_lone s t after) f).act) begins
      ∙ ap (λ (k : ℕ). Some (Start k shape)) count),
  λ count.
      let full : 10000 ≤ length s.threads = omega arith in
      ap (λ (b : Bool). cond b (starts_with s shape (with_lone s t after) (execute_frames setting.program after.heap root)) (acted (with_lone s t (ended after Tasks)) (End Tasks))) (le-ltb (length s.threads) 10000 full),
)

limit_is : tree_limit ≡ 65536
unfolding tree_limit
limit_is = refl

-- the tokens where there are as many objects at most
abbrev few_tokens : List Token → ℕ → ℕ → Option (List Token)
few_tokens tokens count most = cond (nat_le count most) (Some tokens) None

largest_tree : LargestTree
unfolding shape_by
largest_tree p look n tokens has =
    let shaped : shape_by p look n ≡ few_tokens tokens (count_by is_open tokens) 65536 =
    ap (λ (found : Option (List Token)). found >>= λ (ts : List Token). few_tokens ts (count_by is_open ts) tree_limit) has ∙ ap (few_tokens tokens (count_by is_open tokens)) limit_is in (
      λ count. shaped ∙ ap (λ (k : ℕ). few_tokens tokens k 65536) count,
      λ count. shaped ∙ ap (λ (k : ℕ). few_tokens tokens k 65536) count,
    )

last_step : LastStep
last_step setting t l frames done boxes = (
  λ last. let left : done < setting.limits.steps = omega arith in ap (λ (b : Bool). cond b (over l Spent) (frames_next setting t l frames done boxes)) (lt-leb setting.limits.steps done left),
  λ none. ap (λ (b : Bool). cond b (over l Spent) (frames_next setting t l frames done boxes)) (le-leb setting.limits.steps done none),
)

null_then_large : NullThenLargeThenTasks
null_then_large setting s t after box n = (
  refl,
  λ e. ap (put_next after box n) e,
  λ e. ap (λ (shape : Option (List Token)). moved_by setting s t (start_next after n shape)) e,
)

arguments : Arguments
arguments setting after a b e = (
  ap (λ (args : List ℤ). arg_next setting.program after (arg_at args (pos 1))) e,
  ap (λ (args : List ℤ). arg_next setting.program after (arg_at args (pos 2))) e,
  refl,
  ap (λ (args : List ℤ). Goes (pushed (value.Int (narrowed (length args))) after)) e,
)

who_waits : WhoWaits
unfolding next_move
who_waits setting s t box frames done boxes = (
  λ after stands.
      let asks : waits_at setting s t (Alive frames done boxes) ≡ if_waits s (Some (wait.Take box)) = ap (λ (next : Next). if_waits s (get_at next)) stands in
      (λ none. asks ∙ ap (λ (queue : List (ℕ × ℕ)). where_empty queue box) none, λ first rest some. asks ∙ ap (λ (queue : List (ℕ × ℕ)). where_empty queue box) some),
  λ none.
      let l = lone_of s t (Alive frames done boxes) in
      ap (λ (b : Bool). if_waits s (get_at (cond b (over l Spent) (frames_next setting t l frames done boxes)))) (le-leb setting.limits.steps done none),
)

same_box_is : (box : BoxName) → same_box box box ≡ true
same_box_is box = ap (λ (b : Bool). b && (box.number == box.number)) (eq-eqb box.task box.task refl) ∙ eq-eqb box.number box.number refl

first_is_taken : FirstIsTaken
first_is_taken s t box after a b =
    (refl, ap (λ (b' : Bool). (cond b' (with_queue (s.mailboxes box) ((8, b) ∷ [])) (s.mailboxes box)).queue) (same_box_is box))

pub edges : EdgesHold
edges = record {
  last_mailbox = λ t l frames done. (refl, refl);
  last_frame = last_frame;
  last_task = last_task;
  largest_tree = largest_tree;
  last_step = last_step;
  first_in_first_out = λ a b. refl;
  first_is_taken = first_is_taken;
  box_is_empty = λ s t box after. (refl, refl);
  null_then_large_then_tasks = null_then_large;
  arguments = arguments;
  raised_ends = λ setting s t l object top f below fs done boxes. (
    λ none. ap (moved_by setting s t) (raised_over setting.program none l Null),
    λ none. raises_over setting.program none l Zero done boxes top below,
    refl,
    refl,
  );
  endings = λ setting t l frame done boxes. (refl, refl, refl, refl);
  value_is_printed = λ n x units. (refl, refl, refl, refl, refl);
  who_waits = who_waits;
}
