-- A task's history goes on by what its thread asks.
use Rattle.std.proofs.Common.{◌≡◌, ℕ, ◌<◌, Bool, true, false, List, [], ◌∷◌, ◌++◌, Option, Some, None, refl, sym, ap, subst, ◌∙◌}
use Rattle.kilim_program.specs.declared.names.BoxName.{BoxName}
use Rattle.kilim_run_state.specs.declared.cause.EndCause.{EndCause}
use Rattle.kilim_run_state.specs.declared.cause.EndCause.TheVariants as cause
use Rattle.kilim_run_state.specs.declared.value.Token.{Token}
use Rattle.kilim_run_journal.specs.declared.entry.Act.{Act}
use Rattle.kilim_run_journal.specs.declared.entry.Act.TheVariants.{End}
use Rattle.kilim_lemmas.proofs.Lists.{map_append}
use Rattle.kilim_run_model.specs.State.{Setting}
use Rattle.kilim_run_model.specs.Lone.{Lone, Next, Goes, Puts, PutWaits, Bounds, Gets, Probes, Starts, Prints, Ends, Stands, get_at}
use Rattle.kilim_run_model.specs.Course.{Course, IsLone, next_action, stands_at, plain, is_end, ends_in, has_ended}
use Rattle.kilim_run_model.specs.Moving.{further}
use Rattle.kilim_run_model.specs.declared.deed.Deed.{Deed}
use Rattle.kilim_run_model.specs.declared.waits.Waits.{Waits}
use Rattle.kilim_run_model.specs.declared.waits.Waits.TheVariants as wait
use Rattle.kilim_run_model.proofs.Alone.{one_lone}
use Rattle.kilim_run_board.proofs.Deeds.{IsDone, end_is, put_done, waiting_done, bound_done, take_done, probe_done, empty_done, start_done, full_done, filled_done, print_done, end_done}
use Rattle.kilim_run_board.proofs.Replays.{lone_on, some_injective, ends_pushed}
use Rattle.kilim_run_board.specs.fibers.Wishes.{Wish, ToPut, ToPutWait, ToBound, ToTake, ToProbe, ToStart, ToPrint, ToEnd, Wishes, wish_of, end_wish}
use Rattle.kilim_run_board.specs.fibers.Fibers.{Fits}
use Rattle.kilim_run_board.specs.declared.fibers.Answer.{Answer}
use Rattle.kilim_run_board.specs.declared.fibers.Answer.TheVariants as answer
use Rattle.kilim_mail_stamps.specs.Stamps.{Tells}
use Rattle.kilim_mail_ledger.specs.declared.items.Dated.{Dated}
use Rattle.kilim_mail_ledger.specs.Ledger.{Trace, RisesFrom, deeds_of, trace_course, TellsPast, IsTrace}
use Rattle.kilim_mail_ledger.specs.Goings.{latest, longer, HistoriesGoOn, EndsBy, HistoriesEnd, AsksFor, AskersStand}

-- ---- what an answer does

module _ (set : Setting) (n : Next) where
  done_as : (d e : Deed) → d ≡ e → IsDone set n e → IsDone set n d
  done_as d e is done = subst (λ (x : Deed). IsDone set n x) (sym is) done

  some_done : (d e : Deed) → Some d ≡ Some e → IsDone set n e → IsDone set n d
  some_done d e is done = done_as d e (some_injective d e is) done

  fits_done : (wish : Wish) (a : Answer) (d : Deed) → wish_of n ≡ Some wish → Fits set.program wish a (Some d) → IsDone set n d
  fits_done (ToPut box shape) (answer.Sent k) d is fits = some_done d _ fits (put_done set n box shape k is)
  fits_done (ToPutWait box shape) (answer.Sent k) d is fits = some_done d _ fits (waiting_done set n box shape k is)
  fits_done (ToPutWait box shape) (answer.Full tree same) d is fits = absurd (let h = fits.0 in cc)
  fits_done (ToBound box most) answer.Done d is fits = some_done d _ fits (bound_done set n box most is)
  fits_done (ToTake box) (answer.Message tree k) d is fits = some_done d _ fits.2 (take_done set n box fits.0 k is fits.1.allowed)
  fits_done (ToTake box) answer.Nothing d is fits = absurd (cc)
  fits_done (ToProbe box) (answer.Message tree k) d is fits = some_done d _ fits.2 (probe_done set n box fits.0 k is fits.1.allowed)
  fits_done (ToProbe box) answer.Nothing d is fits = some_done d _ fits (empty_done set n box is)
  fits_done (ToStart shape) (answer.Started k) d is fits = some_done d _ fits (start_done set n shape k is)
  fits_done (ToPrint shape) answer.Done d is fits = some_done d _ fits (print_done set n shape is)
  fits_done wish a d is fits = absurd fits

  ends_done : (wish : Wish) (full : Option BoxName) (d : Deed) → wish_of n ≡ Some wish → EndsBy wish full d → IsDone set n d
  ends_done (ToEnd why) full d is ends = done_as d _ ends (end_done set n why is)
  ends_done (ToStart shape) full d is ends = done_as d _ ends (full_done set n shape is)
  ends_done (ToPut box shape) full d is ends = done_as d _ ends.0 (filled_done set n box shape is)
  ends_done wish full d is ends = absurd ends

-- an answer makes no end
going : (d e : Deed) → Some d ≡ Some e → is_end e.act ≡ false → is_end d.act ≡ false
going d e is not = ap (λ (x : Deed). is_end x.act) (some_injective d e is) ∙ not

fits_going : (set : Setting) (wish : Wish) (a : Answer) (d : Deed) → Fits set.program wish a (Some d) → is_end d.act ≡ false
fits_going set (ToPut box shape) (answer.Sent k) d fits = going d _ fits refl
fits_going set (ToPutWait box shape) (answer.Sent k) d fits = going d _ fits refl
fits_going set (ToPutWait box shape) (answer.Full tree same) d fits = absurd (let h = fits.0 in cc)
fits_going set (ToBound box most) answer.Done d fits = going d _ fits refl
fits_going set (ToTake box) (answer.Message tree k) d fits = going d _ fits.2 refl
fits_going set (ToTake box) answer.Nothing d fits = absurd (cc)
fits_going set (ToProbe box) (answer.Message tree k) d fits = going d _ fits.2 refl
fits_going set (ToProbe box) answer.Nothing d fits = going d _ fits refl
fits_going set (ToStart shape) (answer.Started k) d fits = going d _ fits refl
fits_going set (ToPrint shape) answer.Done d fits = going d _ fits refl
fits_going set wish a d fits = absurd fits

-- ---- the history with it

rises_on : (n : ℕ) (past : List Dated) (d : Dated) → RisesFrom n past → latest n past < d.stamp → RisesFrom n (past ++ d ∷ [])
rises_on n [] d r lt = (lt, tt)
rises_on n (x ∷ past) d (h, r) lt = (h, rises_on x.stamp past d r lt)

tells_on : (set : Setting) (t : ℕ) (c : Course) (past : List Dated) (d : Dated) → TellsPast set t c past → ((c' : Course) → c' ≡ record { beginning = c.beginning; deeds = c.deeds ++ deeds_of past } → Tells set t c' d.full d.deed.act) → TellsPast set t c (past ++ d ∷ [])
tells_on set t c [] d told here = (here c (ap (λ (ds : List Deed). record { beginning = c.beginning; deeds = ds }) (sym (none c.deeds))), tt)
  where
    none : (ds : List Deed) → ds ++ [] ≡ ds
    none [] = refl
    none (x ∷ xs) = ap (λ (ys : List Deed). x ∷ ys) (none xs)
tells_on set t c (x ∷ past) d (h, told) here =
    (h, tells_on set t (further c x.deed) past d told (λ c' is. here c' (is ∙ ap (λ (ds : List Deed). record { beginning = c.beginning; deeds = ds }) (assoc c.deeds (deeds_of past)))))
  where
    assoc : (ds es : List Deed) → (ds ++ x.deed ∷ []) ++ es ≡ ds ++ (x.deed ∷ es)
    assoc [] es = refl
    assoc (y ∷ ds) es = ap (λ (ys : List Deed). y ∷ ys) (assoc ds es)

module _ (set : Setting) (trace : Trace) (wish : Wish) (d : Dated) (is : IsTrace set trace) (wishes : Wishes set trace.task (trace_course trace) wish) (later : latest trace.stamp trace.past < d.stamp) where
  goes_on : IsDone set (next_action set trace.task wishes.lone) d.deed → Tells set trace.task (trace_course trace) d.full d.deed.act → IsTrace set (longer trace d)
  goes_on done told = record {
    lone = done.0;
    is = subst (λ (ds : List Deed). IsLone set trace.task (record { beginning = trace.beginning; deeds = ds }) done.0) (sym (map_append (λ (x : Dated). x.deed) trace.past (d ∷ []))) (lone_on set trace.task (trace_course trace) wishes.lone done.0 d.deed wishes.is done.1);
    rises = rises_on trace.stamp trace.past d is.rises later;
    told = tells_on set trace.task (record { beginning = trace.beginning; deeds = [] }) trace.past d is.told (λ c' e. subst (λ (x : Course). Tells set trace.task x d.full d.deed.act) (sym e) told);
  }

  over : is_end d.deed.act ≡ true → has_ended (trace_course (longer trace d)) ≡ true
  over e = ap ends_in (map_append (λ (x : Dated). x.deed) trace.past (d ∷ [])) ∙ (ends_pushed (deeds_of trace.past) d.deed ∙ e)

pub histories_go_on : HistoriesGoOn
histories_go_on set trace wish a d is wishes fits later =
    goes_on set trace wish d is wishes later (fits_done set (next_action set trace.task wishes.lone) wish a d.deed wishes.next fits)
    (λ full. absurd (let h : false ≡ true = sym (fits_going set wish a d.deed fits) ∙ ap is_end full in cc))

-- a thread that ends by itself, or at a start, puts nothing then
abbrev put_box : BoxName → Wish → BoxName
put_box other (ToPut box shape) = box
put_box other w = other

abbrev is_put : Wish → Bool
is_put (ToPut box shape) = true
is_put w = false

puts_wish : (set : Setting) (t : ℕ) (c : Course) (wish : Wish) (w : Wishes set t c wish) (l : Lone) → IsLone set t c l → (box : BoxName) (root : ℕ) (shape : List Token) (after : Lone) → next_action set t l ≡ Puts box root shape after → wish ≡ ToPut box shape
puts_wish set t c wish w l is box root shape after next =
    let same : w.lone ≡ l = one_lone set t c w.lone l w.is is in
    some_injective wish (ToPut box shape) (sym w.next ∙ (ap (λ (x : Lone). wish_of (next_action set t x)) same ∙ ap wish_of next))

tells_end : (set : Setting) (t : ℕ) (c : Course) (wish : Wish) (w : Wishes set t c wish) (full : Option BoxName) (d : Deed) → EndsBy wish full d → Tells set t c full d.act
tells_end set t c (ToPut box shape) w full d ends e l is b root s after next =
    let same : ToPut box shape ≡ ToPut b s = puts_wish set t c (ToPut box shape) w l is b root s after next in
    ends.1 ∙ ap Some (ap (put_box box) same)
tells_end set t c (ToEnd why) w full d ends e l is b root s after next = absurd (let h : false ≡ true = ap is_put (puts_wish set t c (ToEnd why) w l is b root s after next) in cc)
tells_end set t c (ToStart shape) w full d ends e l is b root s after next = absurd (let h : false ≡ true = ap is_put (puts_wish set t c (ToStart shape) w l is b root s after next) in cc)
tells_end set t c wish w full d ends e l is b root s after next = absurd ends

ends_end : (wish : Wish) (full : Option BoxName) (d : Deed) → EndsBy wish full d → is_end d.act ≡ true
ends_end (ToPut box shape) full d ends = ap (λ (x : Deed). is_end x.act) ends.0
ends_end (ToEnd why) full d ends = ap (λ (x : Deed). is_end x.act) ends
ends_end (ToStart shape) full d ends = ap (λ (x : Deed). is_end x.act) ends
ends_end wish full d ends = absurd ends

pub histories_end : HistoriesEnd
histories_end set trace wish d is wishes ends later = (
  goes_on set trace wish d is wishes later (ends_done set (next_action set trace.task wishes.lone) wish d.full d.deed wishes.next ends) (tells_end set trace.task (trace_course trace) wish wishes d.full d.deed ends),
  over set trace wish d is wishes later (ends_end wish d.full d.deed ends),
)

-- ---- who asks for what may not be there

asks_at : (n : Next) (wish : Wish) (w : Waits) → wish_of n ≡ Some wish → AsksFor wish w → get_at n ≡ Some w
asks_at (Gets b l) wish w e asks = take wish (some_injective (ToTake b) wish e) asks
  where
    take : (v : Wish) → ToTake b ≡ v → AsksFor v w → Some (wait.Take b) ≡ Some w
    take v same asks' = let h : AsksFor (ToTake b) w = subst (λ (x : Wish). AsksFor x w) (sym same) asks' in ap Some (sym h)
asks_at (PutWaits b r s l) wish w e asks = put wish (some_injective (ToPutWait b s) wish e) asks
  where
    put : (v : Wish) → ToPutWait b s ≡ v → AsksFor v w → Some (wait.Put b) ≡ Some w
    put v same asks' = let h : AsksFor (ToPutWait b s) w = subst (λ (x : Wish). AsksFor x w) (sym same) asks' in ap Some (sym h)
asks_at (Goes l) wish w e asks = absurd (cc)
asks_at (Puts b r s l) wish w e asks = absurd (let h : AsksFor (ToPut b s) w = subst (λ (x : Wish). AsksFor x w) (sym (some_injective (ToPut b s) wish e)) asks in h)
asks_at (Bounds b most l) wish w e asks = absurd (let h : AsksFor (ToBound b most) w = subst (λ (x : Wish). AsksFor x w) (sym (some_injective (ToBound b most) wish e)) asks in h)
asks_at (Probes b l) wish w e asks = absurd (let h : AsksFor (ToProbe b) w = subst (λ (x : Wish). AsksFor x w) (sym (some_injective (ToProbe b) wish e)) asks in h)
asks_at (Starts r s l) wish w e asks = absurd (let h : AsksFor (ToStart s) w = subst (λ (x : Wish). AsksFor x w) (sym (some_injective (ToStart s) wish e)) asks in h)
asks_at (Prints s l) wish w e asks = absurd (let h : AsksFor (ToPrint (s ∷ [])) w = subst (λ (x : Wish). AsksFor x w) (sym (some_injective (ToPrint (s ∷ [])) wish e)) asks in h)
asks_at (Ends why l) wish w e asks = absurd (let h : AsksFor (ToEnd why) w = subst (λ (x : Wish). AsksFor x w) (end_is why wish e).0 asks in h)
asks_at Stands wish w e asks = absurd (cc)

pub askers_stand : AskersStand
unfolding stands_at
askers_stand set t c wish w wishes asks l is =
    let same : wishes.lone ≡ l = one_lone set t c wishes.lone l wishes.is is in
    asks_at (next_action set t l) wish w (sym (ap (λ (x : Lone). wish_of (next_action set t x)) same) ∙ wishes.next) asks
