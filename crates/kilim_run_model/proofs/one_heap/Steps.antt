-- One move: of a thread of the one heap, and of the same thread on its own heap.
use Rattle.std.proofs.Common.{◌≡◌, ◌≢◌, ℕ, zero, suc, ◌+◌, ◌<◌, ◌≤◌, Bool, true, false, cond, List, [], ◌∷◌, ◌++◌, length, Option, Some, None, refl, sym, ap, subst, ◌∙◌, inl, inr, arith, add-one}
use Rattle.std.specs.Prelude.{slice_get, slice_set, ◌==◌, nat_lt}
use Rattle.std.specs.FinMap.{empty, get, insert, get-empty}
use Rattle.std.proofs.lemmas.Bool.Decides.{eqb_tells}
use Rattle.std.proofs.lemmas.Bool.{ne_eqb}
use Rattle.std.proofs.lemmas.Option.{same_Some, none-some}
use Rattle.kilim_lemmas.proofs.Lists.{set_length, get_last}
use Rattle.kilim_lemmas.proofs.Maps.{put_there, put_other}
use Rattle.kilim_program.specs.Program.{Program}
use Rattle.kilim_program.specs.declared.names.BoxName.{BoxName}
use Rattle.kilim_program.specs.declared.names.MethodId.{MethodId}
use Rattle.kilim_program.specs.declared.ty.Ty.{Ty}
use Rattle.kilim_program.specs.declared.value.Value.{Value}
use Rattle.kilim_program.specs.declared.value.Value.TheVariants.{Null, Ref}
use Rattle.kilim_program.specs.Names.{◌>>=◌}
use Rattle.kilim_run_state.specs.declared.cause.EndCause.{EndCause}
use Rattle.kilim_run_state.specs.declared.cause.EndCause.TheVariants as cause
use Rattle.kilim_run_state.specs.declared.value.Object.{Object}
use Rattle.kilim_run_state.specs.declared.value.Token.{Token}
use Rattle.kilim_run_state.specs.Machine.{Objects, Activation}
use Rattle.kilim_program.specs.Members.{execute_of}
use Rattle.kilim_run_state.specs.Trees.{Root, OfMessage, tree_names, value_names, names_in, without, with_objects, built}
use Rattle.kilim_run_state.specs.Trees as trees
use Rattle.kilim_run_state.specs.Shapes.{tree_limit}
use Rattle.kilim_run_journal.specs.declared.entry.Act.TheVariants.{Put, Take, Start, Print, End}
use Rattle.kilim_run_model.specs.State.{Setting, Thread, Alive, Ended, State, Mailbox, begun_on, class_of, execute_frames, with_message, with_queue, with_mailbox, is_full, is_full_at}
use Rattle.kilim_run_model.specs.Lone.{Lone, Next, pushed, pushed_on, ended, next_move}
use Rattle.kilim_run_model.specs.Lone as next
use Rattle.kilim_run_model.specs.Turn.{Moved, kept_by, lone_of, task_limit, moved_by, thread_moved, moved}
use Rattle.kilim_run_model.specs.Turn as shared
use Rattle.kilim_run_model.specs.Course.{received, tree_left, lone_in, lone_built}
use Rattle.kilim_run_model.specs.Kept.{IsIn}
use Rattle.kilim_run_model.specs.kin.Kin.{Names, Owner, OfTask, OfPlace, OfNobody, IsKin, NameKin, Alike}
use Rattle.kilim_run_model.proofs.kin.Kins.{kin_push, frames_up, name_up}
use Rattle.kilim_run_model.specs.kin.trees.TreeKin.{Copies, IsTree, names_from}
use Rattle.kilim_run_model.specs.kin.trees.Laws.{ShapesGive}
use Rattle.kilim_run_model.proofs.kin.trees.Copied.{first_name}
use Rattle.kilim_run_model.specs.one_heap.Lones.{ThreadKin, LonesKin, Onward, Before, Giving, NextKin, IsWholeThread}
use Rattle.kilim_run_model.specs.one_heap.Parted.{Parted, by_next, lone_parts, parts}
use Rattle.kilim_run_model.specs.one_heap.Parted as parted
use Rattle.kilim_run_model.specs.one_heap.Tied.{Party, Queued, Boxes, TiedBy, Tied, Match}
use Rattle.kilim_run_model.proofs.one_heap.Owners.{Spares, marked, marked_in, marked_out, tree_kept, queued_kept, same_task, same_place, same_number, task_place, task_nobody, place_nobody}
use Rattle.kilim_run_model.proofs.one_heap.Given.{AreThere, Named, copies_there, named_there, owned_there, tree_moved, alike_without}
use Rattle.kilim_run_model.proofs.one_heap.Taken.{joined, joined_old, joined_new, joined_first, joined_bound, alike_taken}
use Rattle.kilim_run_model.proofs.one_heap.Ties.{rebased, spared, boxes_one, box_kept, queued_more, tied_after, tied_as}
use Rattle.kilim_run_model.proofs.one_heap.Nexts.{MaybeFrames, begun_kin, next_kin}

-- ---- threads under more names, and with one more value

thread_pushed : (of : Names) (v w : Value) (y z : Thread) → IsKin of v w → ThreadKin of y z → ThreadKin of (pushed_on v y) (pushed_on w z)
thread_pushed of v w (Alive fs d b) (Alive gs e c) k q = (kin_push of v w fs gs k q.0, q.1, q.2)
thread_pushed of v w (Ended c) (Ended d) k q = q
thread_pushed of v w _ _ k q = absurd q

thread_up : (of more : Names) → ((n x : ℕ) → of n ≡ Some x → more n ≡ Some x) → (y z : Thread) → ThreadKin of y z → ThreadKin more y z
thread_up of more up (Alive fs d b) (Alive gs e c) q = (frames_up of more up fs gs q.0, q.1, q.2)
thread_up of more up (Ended c) (Ended d) q = q
thread_up of more up _ _ q = absurd q

-- ---- the root of a tree

root_of_tree : (p : Program) (h : Objects) (n : ℕ) → (rest : List ℕ) × (tree_names p h n ≡ n ∷ rest)
unfolding tree_names tree_limit
root_of_tree p h n = (names_in p (value_names p h 65535) (get h n), refl)

root_named : (of : Names) (n y : ℕ) (rest xs : List ℕ) → Named of (n ∷ rest) xs → of n ≡ Some y → (ys : List ℕ) × (xs ≡ y ∷ ys)
root_named of n y rest [] w e = absurd w
root_named of n y rest (x ∷ xs) w e = (xs, ap (λ (z : ℕ). z ∷ xs) (same_Some _ _ (sym w.0 ∙ e)))

with_below : (h : Objects) (base : ℕ) (os : List Object) (n : ℕ) → n < base → get (with_objects h base os) n ≡ get h n
with_below h base [] n lt = refl
with_below h base (o ∷ os) n lt = with_below (insert h base o) (suc base) os n (omega (arith, lt)) ∙ put_other h base o n (λ e. omega (arith, lt, e))

-- ---- a new thread

longer : {A : Type 0} (xs : List A) (z : A) → length (xs ++ z ∷ []) ≡ suc (length xs)
longer [] z = refl
longer (w ∷ xs) z = ap suc (longer xs z)

end_other : {A : Type 0} (xs : List A) (y : A) (j : ℕ) → j ≢ length xs → slice_get (xs ++ y ∷ []) j ≡ slice_get xs j
end_other [] y zero n = absurd (n refl)
end_other [] y (suc j) n = refl
end_other (z ∷ xs) y zero n = refl
end_other (z ∷ xs) y (suc j) n = end_other xs y j (λ e. n (ap suc e))

past_end : {A : Type 0} (xs : List A) → slice_get xs (length xs) ≡ None
past_end [] = refl
past_end (z ∷ xs) = past_end xs

tied_more : (set : Setting) (m : Parted) (s : State) (owner : ℕ → Owner) (tied : TiedBy set owner m s) (l : Lone) (y : Thread) →
    ((of : Names) × LonesKin of owner (length s.threads) s.heap l (lone_of s (length s.threads) y)) →
    TiedBy set owner (record m { lones = m.lones ++ l ∷ [] }) (record s { threads = s.threads ++ y ∷ [] })
tied_more set m s owner tied l y party =
    let last : slice_get (m.lones ++ l ∷ []) (length s.threads) ≡ Some l = ap (slice_get (m.lones ++ l ∷ [])) (sym tied.count) ∙ get_last m.lones l in
    record {
      fresh = tied.fresh;
      count = longer m.lones l ∙ (ap suc tied.count ∙ sym (longer s.threads y));
      parties = λ u. elim (eqb_tells u (length s.threads)) [
        | inl e ↦ subst (λ (v : ℕ). Party owner s v (slice_get (m.lones ++ l ∷ []) v) (slice_get (s.threads ++ y ∷ []) v)) (sym e.1)
            (subst (λ (z : Option Lone). Party owner s (length s.threads) z (slice_get (s.threads ++ y ∷ []) (length s.threads))) (sym last)
            (subst (λ (z : Option Thread). Party owner s (length s.threads) (Some l) z) (sym (get_last s.threads y)) party))
        | inr e ↦ subst (λ (z : Option Lone). Party owner s u z (slice_get (s.threads ++ y ∷ []) u)) (sym (end_other m.lones l u (λ d. e.1 (d ∙ tied.count))))
            (subst (λ (z : Option Thread). Party owner s u (slice_get m.lones u) z) (sym (end_other s.threads y u e.1)) (tied.parties u))
      ];
      boxes = tied.boxes;
      journal = tied.journal;
    }

class_execute : Program → Ty → Option MethodId
class_execute p ty = class_of ty.base >>= λ c. execute_of p c

frames_begin : (p : Program) (h : Objects) (n : ℕ) (o : Object) → get h n ≡ Some o → execute_frames p h n ≡ begun_on p (class_execute p o.class) n
unfolding class_execute
frames_begin p h n o e = ap (λ (z : Option Object). begun_on p (z >>= λ (object : Object). class_of object.class.base >>= λ c. execute_of p c) n) e

at_zero : (ths : List Thread) (t : ℕ) → length ths ≡ 0 → slice_get ths t ≡ None
at_zero [] t d = refl
at_zero (z ∷ ths) t d = absurd (omega (arith, d))

module _ (set : Setting) (gives : ShapesGive set.program) (m : Parted) (s : State) (tied : Tied set m s) (t : ℕ) (a : Lone) (x : Thread) (is_lone : slice_get m.lones t ≡ Some a) (is_thread : slice_get s.threads t ≡ Some x) where
  abbrev p : Program
  p = set.program

  abbrev owner : ℕ → Owner
  owner = tied.owner

  -- what isn't the thread's, nor nobody's, is spared
  abbrev SparesOthers : (ℕ → Owner) → Objects → Type 0
  SparesOthers later k = (w : Owner) → (w ≡ OfTask t → ⊥) → (w ≡ OfNobody → ⊥) → Spares owner s.heap later k w

  mail_kept : (later : ℕ → Owner) (k : Objects) → SparesOthers later k → (box : BoxName) → Boxes p later k box (m.mailboxes box) (s.mailboxes box)
  mail_kept later k spares box = box_kept p owner later s.heap k box (m.mailboxes box) (s.mailboxes box) (λ i. spares (OfPlace box i) (λ e. task_place t box i (sym e)) (λ e. place_nobody box i e)) (tied.by.boxes box)

  others_kept : (later : ℕ → Owner) (k : Objects) → SparesOthers later k → (u : ℕ) → u ≢ t → Spares owner s.heap later k (OfTask u)
  others_kept later k spares u n = spares (OfTask u) (λ e. n (same_task u t e)) (λ e. task_nobody u e)

  -- ---- a move that reaches no other

  onward : (b c : Lone) → Onward owner t s.heap b c → Tied set (parted.with_lone m t b) (shared.with_lone s t c)
  onward b c o =
      let spares = spared o.of owner o.later t s.heap b c o.only o.kin in
      record {
        owner = o.later;
        by = tied_after set m s tied t a x is_lone is_thread b c o.later m.mailboxes s.mailboxes o.kin.free (others_kept o.later c.heap spares) o.of (rebased o.of o.later t s.heap b c o.kin) (mail_kept o.later c.heap spares);
      }

  of_before : (b c : Lone) → Before owner t s.heap b c → Onward owner t s.heap b c
  of_before b c e = record { of = e.of; later = owner; only = λ z. inl refl; kin = e.kin }

  -- with a result that is no object
  pushed_kin : (v w : Value) (b c : Lone) (e : Before owner t s.heap b c) → IsKin e.of v w → Onward owner t s.heap (pushed v b) (pushed w c)
  pushed_kin v w b c e k = record {
    of = e.of;
    later = owner;
    only = λ z. inl refl;
    kin = record { threads = thread_pushed e.of v w b.thread c.thread k e.kin.threads; heaps = e.kin.heaps; kept = e.kin.kept; below = e.kin.below; free = e.kin.free; keeps = e.kin.keeps };
  }

  ended_kin : (why : EndCause) (of : Names) (b c : Lone) → LonesKin of owner t s.heap b c → Onward owner t s.heap (ended b why) (ended c why)
  ended_kin why of b c e = record {
    of = of;
    later = owner;
    only = λ z. inl refl;
    kin = record { threads = refl; heaps = e.heaps; kept = tt; below = e.below; free = e.free; keeps = λ n. refl };
  }

  -- ---- a take

  take_kin : (box : BoxName) (b c : Lone) → Before owner t s.heap b c → (i : ℕ) (first : ℕ × List Token) (rest : List (ℕ × List Token)) (name : ℕ × ℕ) (names : List (ℕ × ℕ)) →
      Queued p owner s.heap box (s.mailboxes box).puts i (first ∷ rest) (name ∷ names) → Match set (parted.takes set m t box b first rest) (shared.takes s t box c name names)
  take_kin box b c before i first rest name names w =
      let of = before.of in
      let kin = rebased of owner t s.heap b c before.kin in
      let spares0 = spared of owner owner t s.heap b c (λ z. inl refl) before.kin in
      let place = w.0.2 in
      let xs = name.1 ∷ place.0 in
      let here : (z : ℕ) → IsIn z xs → get c.heap z ≡ get s.heap z = λ z d. (spares0 (OfPlace box i) (λ e. task_place t box i (sym e)) (λ e. place_nobody box i e) z (place.2 z d)).1 in
      let tree : IsTree p OfMessage c.heap xs first.1 = tree_kept owner owner s.heap c.heap p OfMessage xs first.1 here place.1 in
      let cp = tree.copy b.next in
      let os = cp.0 in
      let apart : (z : ℕ) → IsIn z xs → owner z ≡ OfTask t → ⊥ = λ z d f. task_place t box i (sym f ∙ place.2 z d) in
      let more = joined (names_from b.next xs) of in
      let mine = marked owner xs (OfTask t) in
      let up = joined_old of owner t b.next b.heap c.heap kin.heaps kin.below os xs tree.once cp.2 apart in
      let spares : (o : Owner) → (o ≡ OfPlace box i → ⊥) → (o ≡ OfTask t → ⊥) → (o ≡ OfNobody → ⊥) → Spares owner s.heap mine c.heap o =
      λ o not other some z e. (marked_out owner xs (OfTask t) z (λ d. not (sym e ∙ place.2 z d)) ∙ e, (spares0 o other some z e).1) in
      let free : (z : ℕ) → c.next ≤ z → mine z ≡ OfNobody = λ z le. marked_out owner xs (OfTask t) z (λ d. place_nobody box i (sym (place.2 z d) ∙ kin.free z le)) ∙ kin.free z le in
      subst (λ (z : Option (List Object)). Match set (parted.takes_built m t box first.0 rest b z) (shared.takes s t box c name names)) (sym cp.1) (
        ap (λ (j : ℕ). Some (Take box j)) (w.0.0 ∙ sym w.0.1),
        tied_as set _ _ mine (tied_after set m s tied t a x is_lone is_thread (received b os) (pushed (Ref name.1) c) mine
            (with_mailbox m.mailboxes box (with_queue (m.mailboxes box) rest)) (with_mailbox s.mailboxes box (with_queue (s.mailboxes box) names))
            free
            (λ u n. spares (OfTask u) (λ e. task_place u box i e) (λ e. n (same_task u t e)) (λ e. task_nobody u e))
            more
            (record {
              threads = thread_pushed more (Ref b.next) (Ref name.1) b.thread c.thread
                  (joined_new of owner t b.next b.heap c.heap kin.heaps kin.below os xs tree.once cp.2 apart b.next name.1 (first_name b.next name.1 place.0)) (thread_up of more up b.thread c.thread kin.threads);
              heaps = alike_taken of owner t b.next b.heap c.heap kin.heaps kin.below os xs tree.once cp.2 apart;
              kept = name_up of more up b.kept c.kept kin.kept;
              below = joined_bound of owner t b.next b.heap c.heap kin.heaps kin.below os xs tree.once cp.2 apart;
              free = free;
              keeps = kin.keeps;
            })
            (boxes_one p mine c.heap m.mailboxes s.mailboxes box _ _
            (record {
              most = (tied.by.boxes box).most;
              counts = (tied.by.boxes box).counts;
              first = suc i;
              queued = queued_kept owner mine s.heap c.heap p box (s.mailboxes box).puts (suc i) rest names
                  (λ j le. spares (OfPlace box j) (λ e. let same = same_number box box j i e in absurd (omega (arith, le, same))) (λ e. task_place t box j (sym e)) (λ e. place_nobody box j e)) w.1;
            })
            (λ d n. box_kept p owner mine s.heap c.heap d (m.mailboxes d) (s.mailboxes d) (λ j. spares (OfPlace d j) (λ e. n (same_place d box j i e)) (λ e. task_place t d j (sym e)) (λ e. place_nobody d j e)) (tied.by.boxes d)))),
      )

  gets_kin : (box : BoxName) (b c : Lone) → Before owner t s.heap b c → (i : ℕ) (shapes : List (ℕ × List Token)) (names : List (ℕ × ℕ)) → Queued p owner s.heap box (s.mailboxes box).puts i shapes names →
      Match set (parted.gets set m t box b shapes) (shared.gets s t box c names)
  gets_kin box b c e i [] [] w = (refl, tied)
  gets_kin box b c e i (first ∷ rest) (name ∷ names) w = take_kin box b c e i first rest name names w
  gets_kin box b c e i [] (name ∷ names) w = absurd w
  gets_kin box b c e i (first ∷ rest) [] w = absurd w

  probes_kin : (box : BoxName) (b c : Lone) → Before owner t s.heap b c → (i : ℕ) (shapes : List (ℕ × List Token)) (names : List (ℕ × ℕ)) → Queued p owner s.heap box (s.mailboxes box).puts i shapes names →
      Match set (parted.probes set m t box b shapes) (shared.probes s t box c names)
  probes_kin box b c e i [] [] w = (refl, onward (pushed Null b) (pushed Null c) (pushed_kin Null Null b c e tt))
  probes_kin box b c e i (first ∷ rest) (name ∷ names) w = take_kin box b c e i first rest name names w
  probes_kin box b c e i [] (name ∷ names) w = absurd w
  probes_kin box b c e i (first ∷ rest) [] w = absurd w

  -- ---- a tree that leaves

  -- the tree below a name, in both heaps
  record Leaves (root : Root) (n y : ℕ) (shape : List Token) (b c : Lone) (of : Names) : Type 0 where
    ys : List ℕ
    there : AreThere b.heap (tree_names p b.heap n)
    named : Named of (tree_names p b.heap n) (y ∷ ys)
    tree : IsTree p root c.heap (y ∷ ys) shape

  leaves : (root : Root) (n y : ℕ) (shape : List Token) (b c : Lone) (g : Giving p root owner t s.heap n y shape b c) → Leaves root n y shape b c g.of
  leaves root n y shape b c g =
      let ns = tree_names p b.heap n in
      let first = root_of_tree p b.heap n in
      let tree = gives root b.heap n shape g.whole g.has in
      let cp = tree.copy 0 in
      let there = copies_there (names_from 0 ns) b.heap cp.0 ns cp.2 in
      let xs = named_there g.of owner t s.heap b.heap c.heap g.kin.heaps ns there in
      let r = root_named g.of n y first.0 xs.0 (subst (λ (z : List ℕ). Named g.of z xs.0) first.1 xs.1) g.named in
      let named : Named g.of ns (y ∷ r.0) = subst (λ (z : List ℕ). Named g.of ns z) r.1 xs.1 in
      record { ys = r.0; there = there; named = named; tree = tree_moved g.of owner t s.heap b.heap c.heap g.kin.heaps p root ns (y ∷ r.0) shape there named tree }

  module _ (root : Root) (n y : ℕ) (shape : List Token) (b c : Lone) (g : Giving p root owner t s.heap n y shape b c) (to : Owner) where
    abbrev l : Leaves root n y shape b c g.of
    l = leaves root n y shape b c g

    abbrev xs : List ℕ
    xs = y ∷ l.ys

    abbrev later : ℕ → Owner
    later = marked owner xs to

    mine : (z : ℕ) → IsIn z xs → owner z ≡ OfTask t
    mine z i = owned_there g.of owner t s.heap b.heap c.heap g.kin.heaps (tree_names p b.heap n) xs z l.there l.named i

    spares_gone : SparesOthers later c.heap
    spares_gone w other some z e =
        (marked_out owner xs to z (λ i. other (sym e ∙ mine z i)) ∙ e, (spared g.of owner owner t s.heap b c (λ q. inl refl) g.kin w other some z e).1)

    free_gone : (z : ℕ) → c.next ≤ z → later z ≡ OfNobody
    free_gone z le = marked_out owner xs to z (λ i. task_nobody t (sym (mine z i) ∙ g.kin.free z le)) ∙ g.kin.free z le

    kin_gone : LonesKin g.of later t c.heap (tree_left p n b) c
    kin_gone = record {
      threads = g.kin.threads;
      heaps = alike_without g.of owner t s.heap b.heap c.heap g.kin.heaps to (tree_names p b.heap n) xs l.there l.named;
      kept = g.kin.kept;
      below = g.kin.below;
      free = free_gone;
      keeps = g.kin.keeps;
    }

    tied_gone : (letters : BoxName → Mailbox (List Token)) (boxes : BoxName → Mailbox ℕ) → ((box : BoxName) → Boxes p later c.heap box (letters box) (boxes box)) →
        TiedBy set later (record (parted.with_lone m t (tree_left p n b)) { mailboxes = letters }) (record (shared.with_lone s t c) { mailboxes = boxes })
    tied_gone letters boxes boxed = tied_after set m s tied t a x is_lone is_thread (tree_left p n b) c later letters boxes free_gone (others_kept later c.heap spares_gone) g.of kin_gone boxed

  put_kin : (box : BoxName) (n y : ℕ) (shape : List Token) (b c : Lone) → Giving p OfMessage owner t s.heap n y shape b c →
      Match set (parted.puts (parted.with_lone m t (tree_left p n b)) box shape) (shared.puts (shared.with_lone s t c) box y shape)
  put_kin box n y shape b c g =
      let puts = (s.mailboxes box).puts in
      let to = OfPlace box puts in
      let was = tied.by.boxes box in
      let at = later OfMessage n y shape b c g to in
      let spares = spares_gone OfMessage n y shape b c g to in
      let kept_queue = queued_kept owner at s.heap c.heap p box puts was.first (m.mailboxes box).queue (s.mailboxes box).queue (λ j le. spares (OfPlace box j) (λ d. task_place t box j (sym d)) (λ d. place_nobody box j d)) was.queued in (
        ap (λ (i : ℕ). Some (Put box i shape)) was.counts,
        tied_as set _ _ at (tied_gone OfMessage n y shape b c g to (with_mailbox m.mailboxes box (with_message (m.mailboxes box) shape)) (with_mailbox s.mailboxes box (with_message (s.mailboxes box) y))
            (boxes_one p at c.heap m.mailboxes s.mailboxes box _ _
            (record {
              most = was.most;
              counts = ap (λ (i : ℕ). i + 1) was.counts;
              first = was.first;
              queued = subst (λ (i : ℕ). Queued p at c.heap box i was.first ((m.mailboxes box).queue ++ ((m.mailboxes box).puts, shape) ∷ []) ((s.mailboxes box).queue ++ (puts, y) ∷ [])) (sym (add-one puts))
                  (queued_more p at c.heap box puts was.first (m.mailboxes box).queue (s.mailboxes box).queue (m.mailboxes box).puts shape y kept_queue was.counts (l OfMessage n y shape b c g to).ys (l OfMessage n y shape b c g to).tree
                  (λ z i. marked_in owner (xs OfMessage n y shape b c g to) to z i));
            })
            (λ d e. mail_kept at c.heap spares d))),
      )

  -- ---- a start

  module _ (n y : ℕ) (shape : List Token) (b c : Lone) (g : Giving p trees.OfTask owner t s.heap n y shape b c) where
    abbrev new : ℕ
    new = length s.threads

    abbrev gone : Leaves trees.OfTask n y shape b c g.of
    gone = leaves trees.OfTask n y shape b c g

    abbrev ones : List ℕ
    ones = y ∷ gone.ys

    abbrev Begun : Option (List Activation) → Option (List Activation) → List Object → Type 0
    Begun f h os = Match set (parted.starts_with m (parted.with_lone m t (tree_left p n b)) shape (lone_in (with_objects empty 0 os) (length os) None f)) (shared.starts_with s shape (shared.with_lone s t c) h)

    starts_kin : (os : List Object) → Copies (names_from 0 ones) c.heap os ones → (f h : Option (List Activation)) → MaybeFrames (joined (names_from 0 ones) (λ i. None)) f h → Begun f h os
    starts_kin os copies None None e = (refl, tied)
    starts_kin os copies (Some fs) (Some gs) e =
        let to = OfTask new in
        let other : t ≢ new = λ d. none-some x (sym (past_end s.threads) ∙ (ap (slice_get s.threads) (sym d) ∙ is_thread)) in
        let apart : (z : ℕ) → IsIn z ones → owner z ≡ OfTask new → ⊥ = λ z i f. other (same_task t new (sym (mine trees.OfTask n y shape b c g to z i) ∙ f)) in
        let of0 : Names = λ i. None in
        let bound0 : (i z : ℕ) → of0 i ≡ Some z → i < 0 = λ i z d. absurd (none-some z d) in
        let alike0 : Alike of0 owner new c.heap empty c.heap = record { same = λ i o d. absurd (none-some o (sym (get-empty _ i) ∙ d)); apart = λ i j z o q v w d f. absurd (none-some z v); rest = λ z. inl refl } in
        let at = later trees.OfTask n y shape b c g to in
        let mid = tied_gone trees.OfTask n y shape b c g to m.mailboxes s.mailboxes (mail_kept at c.heap (spares_gone trees.OfTask n y shape b c g to)) in
        let same : length (slice_set s.threads t c.thread) ≡ new = set_length s.threads t c.thread in
        let not_zero : new ≢ 0 = λ d. none-some x (sym (at_zero s.threads t d) ∙ is_thread) in
        let no_kept : kept_by (shared.with_lone s t c) new ≡ None = ap (λ (z : Bool). cond z (cond (t == 0) c.kept s.kept) None) (ne_eqb new 0 not_zero) in
        let first : Lone = record { heap = with_objects empty 0 os; next = length os; thread = Alive fs 0 0; kept = None } in (
          ap (λ (i : ℕ). Some (Start i shape)) tied.by.count,
          tied_as set _ _ at (tied_more set _ _ at mid first (Alive gs 0 0)
              (subst (λ (v : ℕ). (of : Names) × LonesKin of at v c.heap first (lone_of (shared.with_lone s t c) v (Alive gs 0 0))) (sym same) (
                joined (names_from 0 ones) of0,
                record {
                  threads = (e, refl, refl);
                  heaps = alike_taken of0 owner new 0 empty c.heap alike0 bound0 os ones gone.tree.once copies apart;
                  kept = subst (λ (z : Option ℕ). NameKin (joined (names_from 0 ones) of0) None z) (sym no_kept) tt;
                  below = λ i z d. let lt = joined_bound of0 owner new 0 empty c.heap alike0 bound0 os ones gone.tree.once copies apart i z d in omega (arith, lt);
                  free = free_gone trees.OfTask n y shape b c g to;
                  keeps = λ d. no_kept;
                },
              ))),
        )
    starts_kin os copies _ _ e = absurd e

    with_root : (os : List Object) → Copies (names_from 0 ones) c.heap os ones → Match set (parted.starts_with m (parted.with_lone m t (tree_left p n b)) shape (lone_built p (Some os))) (shared.starts_with s shape (shared.with_lone s t c) (execute_frames p c.heap y))
    with_root [] copies = absurd copies
    with_root (o ∷ os) copies =
        let h = with_objects empty 0 (o ∷ os) in
        let root : get h 0 ≡ Some o = with_below (insert empty 0 o) 1 os 0 (omega arith) ∙ put_there empty 0 o in
        let names = joined (names_from 0 ones) (λ i. None) in
        subst (λ (z : Option (List Activation)). Begun z (execute_frames p c.heap y) (o ∷ os)) (sym (frames_begin p h 0 o root))
        (subst (λ (z : Option (List Activation)). Begun (begun_on p (class_execute p o.class) 0) z (o ∷ os))
        (ap (λ (ty : Ty). begun_on p (class_execute p ty) y) copies.2.class ∙ sym (frames_begin p c.heap y copies.0 copies.1))
        (starts_kin (o ∷ os) copies _ _ (begun_kin p names 0 y (joined_first 0 y gone.ys (λ i. None)) (class_execute p o.class))))

    begun_start : Match set (parted.starts_with m (parted.with_lone m t (tree_left p n b)) shape (lone_built p (built p trees.OfTask 0 shape))) (shared.starts_with s shape (shared.with_lone s t c) (execute_frames p c.heap y))
    begun_start =
        let cp = gone.tree.copy 0 in
        subst (λ (z : Option (List Object)). Match set (parted.starts_with m (parted.with_lone m t (tree_left p n b)) shape (lone_built p z)) (shared.starts_with s shape (shared.with_lone s t c) (execute_frames p c.heap y))) (sym cp.1)
        (with_root cp.0 cp.2)

    start_kin : Match set (parted.starts set m t n shape b) (shared.starts set s t y shape c)
    start_kin =
        subst (λ (i : ℕ). Match set (parted.starts set m t n shape b)
        (cond (nat_lt i task_limit) (shared.starts_with s shape (shared.with_lone s t c) (execute_frames p c.heap y)) (shared.acted (shared.with_lone s t (ended c cause.Tasks)) (End cause.Tasks)))) tied.by.count
        (elim (nat_lt (length m.lones) task_limit) as (λ (z : Bool). Match set
        (cond z (parted.starts_with m (parted.with_lone m t (tree_left p n b)) shape (lone_built p (built p trees.OfTask 0 shape))) (parted.acted (parted.with_lone m t (ended b cause.Tasks)) (End cause.Tasks)))
        (cond z (shared.starts_with s shape (shared.with_lone s t c) (execute_frames p c.heap y)) (shared.acted (shared.with_lone s t (ended c cause.Tasks)) (End cause.Tasks)))) [
          | true ↦ begun_start
          | false ↦ (refl, onward (ended b cause.Tasks) (ended c cause.Tasks) (ended_kin cause.Tasks g.of b c g.kin))
        ])

  -- ---- all moves

  queued_length : (box : BoxName) (end i : ℕ) (xs : List (ℕ × List Token)) (ys : List (ℕ × ℕ)) → Queued p owner s.heap box end i xs ys → length xs ≡ length ys
  queued_length box end i [] [] q = refl
  queued_length box end i (first ∷ shapes) (one ∷ names) q = ap suc (queued_length box end (suc i) shapes names q.1)
  queued_length box end i [] (one ∷ names) q = absurd q
  queued_length box end i (first ∷ shapes) [] q = absurd q

  full_same : (box : BoxName) → is_full (m.mailboxes box) ≡ is_full (s.mailboxes box)
  full_same box =
      let was = tied.by.boxes box in
      ap (λ (z : Option ℕ). is_full_at z (length (m.mailboxes box).queue)) was.most ∙ ap (is_full_at (s.mailboxes box).most) (queued_length box (s.mailboxes box).puts was.first (m.mailboxes box).queue (s.mailboxes box).queue was.queued)

  puts_kin : (box : BoxName) (n y : ℕ) (shape : List Token) (b c : Lone) → Giving p OfMessage owner t s.heap n y shape b c → Match set (by_next set m t (next.Puts box n shape b)) (moved_by set s t (next.Puts box y shape c))
  puts_kin box n y shape b c g =
      subst (λ (z : Bool). Match set (by_next set m t (next.Puts box n shape b)) (cond z (shared.acted (shared.with_lone s t (ended c cause.Full)) (End cause.Full)) (shared.puts (shared.with_lone s t c) box y shape))) (full_same box)
      (elim (is_full (m.mailboxes box)) as (λ (z : Bool). Match set
      (cond z (parted.acted (parted.with_lone m t (ended b cause.Full)) (End cause.Full)) (parted.puts (parted.with_lone m t (tree_left p n b)) box shape))
      (cond z (shared.acted (shared.with_lone s t (ended c cause.Full)) (End cause.Full)) (shared.puts (shared.with_lone s t c) box y shape))) [
        | true ↦ (refl, onward (ended b cause.Full) (ended c cause.Full) (ended_kin cause.Full g.of b c g.kin))
        | false ↦ put_kin box n y shape b c g
      ])

  wait_kin : (box : BoxName) (n y : ℕ) (shape : List Token) (b c : Lone) → Giving p OfMessage owner t s.heap n y shape b c → Match set (by_next set m t (next.PutWaits box n shape b)) (moved_by set s t (next.PutWaits box y shape c))
  wait_kin box n y shape b c g =
      subst (λ (z : Bool). Match set (by_next set m t (next.PutWaits box n shape b)) (cond z (shared.quiet s) (shared.puts (shared.with_lone s t c) box y shape))) (full_same box)
      (elim (is_full (m.mailboxes box)) as (λ (z : Bool). Match set
      (cond z (parted.quiet m) (parted.puts (parted.with_lone m t (tree_left p n b)) box shape))
      (cond z (shared.quiet s) (shared.puts (shared.with_lone s t c) box y shape))) [
        | true ↦ (refl, tied)
        | false ↦ put_kin box n y shape b c g
      ])

  bounds_kin : (box : BoxName) (most : ℕ) (b c : Lone) → Before owner t s.heap b c → Match set (by_next set m t (next.Bounds box most b)) (moved_by set s t (next.Bounds box most c))
  bounds_kin box most b c e =
      let w = onward b c (of_before b c e) in
      let was = w.by.boxes box in (
        refl,
        record {
          owner = w.owner;
          by = record {
            fresh = w.by.fresh;
            count = w.by.count;
            parties = w.by.parties;
            boxes = boxes_one p w.owner c.heap m.mailboxes s.mailboxes box _ _ (record { most = refl; counts = was.counts; first = was.first; queued = was.queued }) (λ d f. w.by.boxes d);
            journal = w.by.journal;
          };
        },
      )

  moved_kin : (v w : Next) → NextKin p owner t s.heap v w → Match set (by_next set m t v) (moved_by set s t w)
  moved_kin (next.Goes b) (next.Goes c) e = (refl, onward b c e)
  moved_kin (next.Puts box n shape b) (next.Puts other y again c) e =
      subst (λ (z : BoxName). Match set (by_next set m t (next.Puts box n shape b)) (moved_by set s t (next.Puts z y again c))) e.0
      (subst (λ (z : List Token). Match set (by_next set m t (next.Puts box n shape b)) (moved_by set s t (next.Puts box y z c))) e.1 (puts_kin box n y shape b c e.2))
  moved_kin (next.PutWaits box n shape b) (next.PutWaits other y again c) e =
      subst (λ (z : BoxName). Match set (by_next set m t (next.PutWaits box n shape b)) (moved_by set s t (next.PutWaits z y again c))) e.0
      (subst (λ (z : List Token). Match set (by_next set m t (next.PutWaits box n shape b)) (moved_by set s t (next.PutWaits box y z c))) e.1 (wait_kin box n y shape b c e.2))
  moved_kin (next.Bounds box most b) (next.Bounds other least c) e =
      subst (λ (z : BoxName). Match set (by_next set m t (next.Bounds box most b)) (moved_by set s t (next.Bounds z least c))) e.0
      (subst (λ (z : ℕ). Match set (by_next set m t (next.Bounds box most b)) (moved_by set s t (next.Bounds box z c))) e.1 (bounds_kin box most b c e.2))
  moved_kin (next.Gets box b) (next.Gets other c) e =
      subst (λ (z : BoxName). Match set (by_next set m t (next.Gets box b)) (moved_by set s t (next.Gets z c))) e.0
      (gets_kin box b c e.1 (tied.by.boxes box).first (m.mailboxes box).queue (s.mailboxes box).queue (tied.by.boxes box).queued)
  moved_kin (next.Probes box b) (next.Probes other c) e =
      subst (λ (z : BoxName). Match set (by_next set m t (next.Probes box b)) (moved_by set s t (next.Probes z c))) e.0
      (probes_kin box b c e.1 (tied.by.boxes box).first (m.mailboxes box).queue (s.mailboxes box).queue (tied.by.boxes box).queued)
  moved_kin (next.Starts n shape b) (next.Starts y again c) e =
      subst (λ (z : List Token). Match set (by_next set m t (next.Starts n shape b)) (moved_by set s t (next.Starts y z c))) e.0 (start_kin n y shape b c e.1)
  moved_kin (next.Prints token b) (next.Prints again c) e = (ap (λ (z : Token). Some (Print (z ∷ []))) e.0, onward b c (of_before b c e.1))
  moved_kin (next.Ends why b) (next.Ends other c) e = (ap (λ (z : EndCause). Some (End z)) e.0, onward b c (of_before b c e.1))
  moved_kin next.Stands next.Stands e = (refl, tied)
  moved_kin _ _ e = absurd e

module _ (set : Setting) (gives : ShapesGive set.program) (m : Parted) (s : State) (tied : Tied set m s) (t : ℕ) where
  option_moved : (a : Option Lone) (x : Option Thread) → slice_get m.lones t ≡ a → slice_get s.threads t ≡ x → Party tied.owner s t a x → ((l : Lone) → slice_get m.lones t ≡ Some l → IsWholeThread set l.heap l.thread) →
      Match set (lone_parts set m t a) (thread_moved set s t x)
  option_moved None None is_lone is_thread e whole = (refl, tied)
  option_moved (Some a) (Some x) is_lone is_thread e whole =
      moved_kin set gives m s tied t a x is_lone is_thread (next_move set t a) (next_move set t (lone_of s t x)) (next_kin set e.0 tied.owner t a (lone_of s t x) e.1 (whole a is_lone))
  option_moved _ _ is_lone is_thread e whole = absurd e

  -- One move of the parted machine, and one of the shared machine.
  pub step : ((l : Lone) → slice_get m.lones t ≡ Some l → IsWholeThread set l.heap l.thread) → Match set (parts set m t) (moved set s t)
  unfolding parts moved
  step whole = option_moved (slice_get m.lones t) (slice_get s.threads t) refl refl (tied.by.parties t) whole
