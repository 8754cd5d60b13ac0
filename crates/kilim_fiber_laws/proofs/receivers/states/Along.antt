-- Along its steps, the thread has done some deeds of a course of its own: each says the act that was done, where the deed that was to come
-- may have said another.
use Rattle.std.proofs.Common.{◌≡◌, ℕ, zero, suc, true, List, [], ◌∷◌, ◌++◌, Option, Some, None, refl, sym, ap, subst, ◌∙◌}
use Rattle.kilim_run_journal.specs.declared.entry.Act.{Act}
use Rattle.kilim_run_journal.specs.declared.entry.Act.TheVariants.{Bound, Empty, End, Print, Put, Start, Take, Wait}
use Rattle.kilim_run_model.proofs.one_heap.Booking.{action_is, is_act}
use Rattle.kilim_run_model.specs.one_heap.Booked.{IsOf}
use Rattle.kilim_run_state.specs.declared.cause.EndCause.{EndCause}
use Rattle.kilim_run_state.specs.declared.value.Token.{Token}
use Rattle.kilim_run_model.specs.declared.deed.Beginning.{Beginning}
use Rattle.kilim_run_model.specs.declared.deed.Deed.{Deed}
use Rattle.kilim_run_model.specs.Course.{Course, Done, IsLone, Moves, Stays, done_by}
use Rattle.kilim_run_model.specs.Lone.{Lone, Next, next_move}
use Rattle.kilim_run_model.specs.Lone as next
use Rattle.kilim_run_model.specs.State.{Setting}
use Rattle.kilim_fiber_laws.proofs.courses.GoesOn.{done_again, follows_one, told}
use Rattle.kilim_fiber_spec.proofs.lone.Steps.{steps}
use Rattle.kilim_fiber_spec.specs.lone.Law.{IsActed, IsAt, IsBehind, IsDone, IsLast, IsNext, IsWanted, lone_at, wanted}
use Rattle.kilim_fiber_spec.specs.Acts.{Action, Astray, Finished, Lost, Over, Wants, World, Apart}
use Rattle.kilim_fiber_spec.specs.Thread.{Frame, Run, Stop, Thread, step}
use Rattle.kilim_fiber_spec.specs.Thread as thread
use Rattle.kilim_fiber_laws.proofs.receivers.states.Worlds.{Shows, WorldIs, step_shows}
use Rattle.kilim_fiber_laws.specs.receivers.states.Law.{ended_in, wanted_in, IsAlong, Likewise, StandsBefore, acts_of, world_at}

-- ---- lists of deeds

likewise_on : (xs ys : List Deed) (x y : Deed) → Likewise xs ys → x.taken ≡ y.taken → Likewise (xs ++ x ∷ []) (ys ++ y ∷ [])
likewise_on [] [] x y l e = (e, tt)
likewise_on [] (b ∷ ys) x y l e = absurd l
likewise_on (a ∷ xs) [] x y l e = absurd l
likewise_on (a ∷ xs) (b ∷ ys) x y l e = (l.0, likewise_on xs ys x y l.1 e)

pub acts_on : (xs : List Deed) (d : Deed) (acts : List Act) → acts_of (xs ++ d ∷ []) acts ≡ d.act ∷ acts_of xs acts
acts_on [] d acts = refl
acts_on (x ∷ xs) d acts = acts_on xs d (x.act ∷ acts)

pub first_same : (a b : Act) (as1 bs : List Act) → a ∷ as1 ≡ b ∷ bs → a ≡ b
first_same a b as1 bs e = cc

pub rest_same : (a b : Act) (as1 bs : List Act) → a ∷ as1 ≡ b ∷ bs → as1 ≡ bs
rest_same a b as1 bs e = cc

pub deed_same : (x y : Deed) → x.act ≡ y.act → x.taken ≡ y.taken → x ≡ y
deed_same x y a t = ap (λ (z : Act). record { act = z; taken = x.taken }) a ∙ ap (λ (z : List Token). record { act = y.act; taken = z }) t

-- of like deeds with the same acts each is the same
pub same_deeds : (xs ys : List Deed) (as1 bs : List Act) → Likewise xs ys → acts_of ys bs ≡ acts_of xs as1 → (bs ≡ as1) × (ys ≡ xs)
same_deeds [] [] as1 bs l e = (e, refl)
same_deeds [] (y ∷ ys) as1 bs l e = absurd l
same_deeds (x ∷ xs) [] as1 bs l e = absurd l
same_deeds (x ∷ xs) (y ∷ ys) as1 bs l e =
    let z = same_deeds xs ys (x.act ∷ as1) (y.act ∷ bs) l.1 e in
    let same : y ≡ x = deed_same y x (first_same y.act x.act bs as1 z.0) (sym l.0) in
    (rest_same y.act x.act bs as1 z.0, ap (λ (d : Deed). d ∷ ys) same ∙ ap (λ (ds : List Deed). x ∷ ds) z.1)

pub append_append : (xs : List Deed) (d : Deed) (ys : List Deed) → (xs ++ d ∷ []) ++ ys ≡ xs ++ d ∷ ys
append_append [] d ys = refl
append_append (x ∷ xs) d ys = ap (λ (ds : List Deed). x ∷ ds) (append_append xs d ys)

pub append_none : (xs : List Deed) → xs ++ [] ≡ xs
append_none [] = refl
append_none (x ∷ xs) = ap (λ (ds : List Deed). x ∷ ds) (append_none xs)

-- ---- along the steps

module _ (set : Setting) (k : ℕ) (b : Beginning) (ds0 : List Deed) where
  abbrev pub course : List Deed → Course
  course ds = record { beginning = b; deeds = ds }

  -- the thread of a course stands so on its way
  abbrev pub Held : Lone → List Deed → List Act → Type 0
  Held l left acts = IsAlong set k (course ds0) l left acts

  pub record Before (a : Action) (w : World) : Type 0 where
    pub done : List Deed
    pub like : Likewise ds0 done
    pub before : StandsBefore set k (course done) a w

  pub record Ends (why : EndCause) (w : World) : Type 0 where
    pub done : List Deed
    pub were : List Deed
    pub final : Deed
    pub like : Likewise were done
    pub all : were ++ final ∷ [] ≡ ds0
    pub here : Lone
    pub of : IsOf set k (course done) here
    pub after : Lone
    pub ends : done_by set (next_move set k here) (record { act = End why; taken = final.taken }) ≡ Some (record { act = End why; after = after })
    pub world : w ≡ ended_in why (world_at k here (final ∷ []) (acts_of done []))

  abbrev pub Along : Thread → Type 0
  Along (Run m p l s x below w) = (w.task ≡ k) × (w.aside ≡ []) × Held (lone_at m p l s below w) w.deeds w.acts
  Along (Stop (Wants a w)) = Before a w
  Along (Stop (Finished why w)) = Ends why w
  Along (Stop Astray) = Unit {0}
  Along (Stop Lost) = Unit {0}

  over : (o : Over) (t : Thread) → Along (Stop o) → t ≡ Stop o → Along t
  over o t along e = subst Along (sym e) along

  shown : (o : Over) (w : World) (t : Thread) → Shows w t → t ≡ Stop o → WorldIs w o
  shown o w t shows e = subst (λ (z : Thread). Shows w z) e shows

  module _ (l : Lone) (acts : List Act) where
    moved : (after : Lone) → next_move set k l ≡ next.Goes after → (ds : List Deed) → Held l ds acts → (t : Thread) → IsAt after ds acts k [] t → Along t
    moved after e ds held (Stop o) is = absurd is
    moved after e ds held (Run m p ls s x below w) is = (
      is.3,
      is.4,
      record {
        done = held.done;
        were = held.were;
        like = held.like;
        all = ap (λ (z : List Deed). held.were ++ z) is.1 ∙ held.all;
        acted = is.2 ∙ held.acted;
        of = record { last = held.of.last; is = held.of.is; quiet = Moves l held.of.quiet (e ∙ ap (λ (z : Lone). next.Goes z) (sym is.0)) };
      },
    )

    -- a deed that is no end
    acted_on : (n : Next) → next_move set k l ≡ n → is_act n ≡ true → (d : Deed) (rest : List Deed) → Held l (d ∷ rest) acts → (y : Done) → done_by set n d ≡ Some y → (t : Thread) → IsAt y.after rest (y.act ∷ acts) k [] t → Along t
    acted_on n e is d rest held y did (Stop o) at = absurd at
    acted_on n e is d rest held y did (Run m p ls s x below w) at =
        let now = ap (λ (z : Next). done_by set z (told d y)) (action_is set k held.of.last l n held.of.quiet e is) ∙ done_again set n d y did in
        let more : IsLone set k (course (held.done ++ told d y ∷ [])) y.after =
        record { first = held.of.is.first; begins = held.of.is.begins; follows = follows_one set k held.of.is.first held.of.last y.after held.done (told d y) held.of.is.follows now } in (
          at.3,
          at.4,
          record {
            done = held.done ++ told d y ∷ [];
            were = held.were ++ d ∷ [];
            like = likewise_on held.were held.done d (told d y) held.like refl;
            all = ap (λ (z : List Deed). (held.were ++ d ∷ []) ++ z) at.1 ∙ (append_append held.were d rest ∙ held.all);
            acted = at.2 ∙ (ap (λ (z : List Act). y.act ∷ z) held.acted ∙ sym (acts_on held.done (told d y) []));
            of = record { last = y.after; is = more; quiet = Stays (sym at.0) };
          },
        )

    -- the last deed
    last_on : (n : Next) → next_move set k l ≡ n → (d : Deed) (rest : List Deed) → Held l (d ∷ rest) acts → (y : Done) → done_by set n d ≡ Some y → (why : EndCause) → y.act ≡ End why → (t : Thread) → Shows (world_at k l (d ∷ rest) acts) t → IsLast why rest t → Along t
    last_on n e d (x ∷ rest) held y did why act t shows is = over Astray t tt is
    last_on n e d [] held y did why act t shows is =
        over (Finished why is.0) t
        (record {
          done = held.done;
          were = held.were;
          final = d;
          like = held.like;
          all = held.all;
          here = l;
          of = held.of;
          after = y.after;
          ends = ap (λ (z : Next). done_by set z (record { act = End why; taken = d.taken })) e ∙ (subst (λ (a : Act). done_by set n (record { act = a; taken = d.taken }) ≡ Some (record { act = a; after = y.after })) act (done_again set n d y did));
          world = shown (Finished why is.0) (world_at k l (d ∷ []) acts) t shows is.1 ∙ ap (λ (z : List Act). ended_in why (world_at k l (d ∷ []) z)) held.acted;
        }) is.1

    behind : (n : Next) → next_move set k l ≡ n → is_act n ≡ true → (d : Deed) (rest : List Deed) → Held l (d ∷ rest) acts → (y : Done) → done_by set n d ≡ Some y → (act : Act) → y.act ≡ act → (t : Thread) → Shows (world_at k l (d ∷ rest) acts) t → IsBehind act rest acts k [] y.after t → Along t
    behind n e is d rest held y did (End why) same t shows at = last_on n e d rest held y did why same t shows at
    behind n e is d rest held y did (Put c j z) same t shows at = acted_on n e is d rest held y did t (subst (λ (a : Act). IsAt y.after rest (a ∷ acts) k [] t) (sym same) at)
    behind n e is d rest held y did (Take c j) same t shows at = acted_on n e is d rest held y did t (subst (λ (a : Act). IsAt y.after rest (a ∷ acts) k [] t) (sym same) at)
    behind n e is d rest held y did (Empty c) same t shows at = acted_on n e is d rest held y did t (subst (λ (a : Act). IsAt y.after rest (a ∷ acts) k [] t) (sym same) at)
    behind n e is d rest held y did (Start j z) same t shows at = acted_on n e is d rest held y did t (subst (λ (a : Act). IsAt y.after rest (a ∷ acts) k [] t) (sym same) at)
    behind n e is d rest held y did (Print z) same t shows at = acted_on n e is d rest held y did t (subst (λ (a : Act). IsAt y.after rest (a ∷ acts) k [] t) (sym same) at)
    behind n e is d rest held y did (Wait c) same t shows at = acted_on n e is d rest held y did t (subst (λ (a : Act). IsAt y.after rest (a ∷ acts) k [] t) (sym same) at)
    behind n e is d rest held y did (Bound c j) same t shows at = acted_on n e is d rest held y did t (subst (λ (a : Act). IsAt y.after rest (a ∷ acts) k [] t) (sym same) at)

    done_on : (n : Next) → next_move set k l ≡ n → is_act n ≡ true → (d : Deed) (rest : List Deed) → Held l (d ∷ rest) acts → (o : Option Done) → done_by set n d ≡ o → (t : Thread) → Shows (world_at k l (d ∷ rest) acts) t → IsDone rest acts k [] o t → Along t
    done_on n e is d rest held None did t shows at = over Astray t tt at
    done_on n e is d rest held (Some y) did t shows at = behind n e is d rest held y did y.act refl t shows at

    -- no deed is left
    wanted_on : (n : Next) → next_move set k l ≡ n → Held l [] acts → (o : Option (Action × Option Lone)) → wanted n ≡ o → (t : Thread) → Shows (world_at k l [] acts) t → IsWanted o t → Along t
    wanted_on n e held None w t shows is = absurd is
    wanted_on n e held (Some wish) w t shows is =
        over (Wants wish.0 is.0) t
        (record {
          done = held.done;
          like = subst (λ (z : List Deed). Likewise z held.done) (sym (append_none held.were) ∙ held.all) held.like;
          before = record {
            here = l;
            of = held.of;
            after = wish.1;
            wants = ap wanted e ∙ w;
            world = shown (Wants wish.0 is.0) (world_at k l [] acts) t shows is.1 ∙ ap (λ (z : List Act). wanted_in wish.0 (world_at k l [] z)) held.acted;
          };
        }) is.1

    acts_at : (n : Next) → next_move set k l ≡ n → is_act n ≡ true → (ds : List Deed) → Held l ds acts → (t : Thread) → Shows (world_at k l ds acts) t → IsActed set ds acts k [] n t → Along t
    acts_at n e is [] held t shows at = wanted_on n e held (wanted n) refl t shows at
    acts_at n e is (d ∷ rest) held t shows at = done_on n e is d rest held (done_by set n d) refl t shows at

    -- what comes next is along, too
    pub next_along : (ds : List Deed) → Held l ds acts → (n : Next) → next_move set k l ≡ n → (t : Thread) → Shows (world_at k l ds acts) t → IsNext set ds acts k [] n t → Along t
    next_along ds held (next.Goes after) e t shows at = moved after e ds held t at
    next_along ds held (next.Puts box root shape after) e t shows at = acts_at (next.Puts box root shape after) e refl ds held t shows at
    next_along ds held (next.PutWaits box root shape after) e t shows at = acts_at (next.PutWaits box root shape after) e refl ds held t shows at
    next_along ds held (next.Bounds box most after) e t shows at = acts_at (next.Bounds box most after) e refl ds held t shows at
    next_along ds held (next.Gets box after) e t shows at = acts_at (next.Gets box after) e refl ds held t shows at
    next_along ds held (next.Probes box after) e t shows at = acts_at (next.Probes box after) e refl ds held t shows at
    next_along ds held (next.Starts root shape after) e t shows at = acts_at (next.Starts root shape after) e refl ds held t shows at
    next_along ds held (next.Prints token after) e t shows at = acts_at (next.Prints token after) e refl ds held t shows at
    next_along ds held (next.Ends why after) e t shows at = acts_at (next.Ends why after) e refl ds held t shows at
    next_along ds held next.Stands e t shows at = over Lost t tt at

  step_along : (t : Thread) → Along t → Along (step set t)
  step_along (Stop o) along = along
  step_along (Run m p l s x below w) along =
      next_along (lone_at m p l s below w) w.acts w.deeds along.2 (next_move set k (lone_at m p l s below w)) refl (step set (Run m p l s x below w))
      (subst (λ (j : ℕ). Shows (world_at j (lone_at m p l s below w) w.deeds w.acts) (step set (Run m p l s x below w))) along.0
      (subst (λ (v : World). Shows v (step set (Run m p l s x below w))) (ap (λ (z : List Apart). record w { aside = z }) along.1) (step_shows set m p l s x below w)))
      (subst (λ (j : ℕ). IsNext set w.deeds w.acts j [] (next_move set j (lone_at m p l s below w)) (step set (Run m p l s x below w))) along.0
      (subst (λ (z : List Apart). IsNext set w.deeds w.acts w.task z (next_move set w.task (lone_at m p l s below w)) (step set (Run m p l s x below w))) along.1 (steps set m p l s x below w)))

  pub steps_along : (n : ℕ) (t : Thread) → Along t → Along (thread.steps set n t)
  steps_along zero t along = along
  steps_along (suc n) t along = steps_along n (step set t) (step_along t along)
