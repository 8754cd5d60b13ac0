-- One act more on a mailbox of a turn.
use Rattle.std.proofs.Common.{◌≡◌, ℕ, zero, suc, ◌+◌, ◌<◌, ◌≤◌, Bool, true, false, ◌==◌, cond, List, [], ◌∷◌, ◌++◌, append-nil, Option, Some, None, refl, sym, ap, subst, ◌∙◌, arith}
use Rattle.std.specs.Prelude.{◌&&◌, not, if◌then◌else◌, filter}
use Rattle.std.proofs.lemmas.Bool.Decides.{nat_tests}
use Rattle.kilim_run_state.specs.declared.cause.EndCause.{EndCause}
use Rattle.kilim_program.specs.declared.names.BoxName.{BoxName}
use Rattle.kilim_run_state.specs.declared.value.Token.{Token}
use Rattle.kilim_run_journal.specs.declared.entry.Act.{Act}
use Rattle.kilim_run_journal.specs.declared.entry.Act.TheVariants.{Put, Take, Empty, Bound, Start, Print, End, Wait}
use Rattle.kilim_run_model.specs.State.{Mailbox, empty_mailbox, with_message, with_queue, bounded, is_full, same_box}
use Rattle.kilim_mail_stamps.specs.declared.stamped.Stamped.{Stamped}
use Rattle.kilim_mail_stamps.specs.Stamps.{box_in, is_that, is_on, mail_taken, mail_empty, mail_after, MailFrom, Rises, shape_put}
use Rattle.kilim_mail_stamps.specs.Leading.{RunsTo}
use Rattle.kilim_mail_ledger.specs.Mailboxes.{Box, with_box, UpTo, BoxStands, AllStand, ActsAreNoted, HaveShapes, WaitingAreKnown}
use Rattle.kilim_mail_stamps.proofs.Order.{kept, passed}
use Rattle.kilim_mail_stamps.proofs.Steps.{some_is, both_true, same_name, same_self, KnownPut, KnownPuts}
use Rattle.kilim_mail_stamps.proofs.Begins.{Left, known_puts}

pub filter_append : {A : Type 0} (p : A → Bool) (xs ys : List A) → filter p (xs ++ ys) ≡ filter p xs ++ filter p ys
filter_append p [] ys = refl
filter_append p (x ∷ xs) ys = at (p x) (filter_append p xs ys)
  where
    at : (b : Bool) → filter p (xs ++ ys) ≡ filter p xs ++ filter p ys → cond b (x ∷ filter p (xs ++ ys)) (filter p (xs ++ ys)) ≡ cond b (x ∷ filter p xs) (filter p xs) ++ filter p ys
    at true e = ap (λ zs. x ∷ zs) e
    at false e = e

pub rises_more : (n : ℕ) (xs : List Stamped) (s : Stamped) → Rises xs → UpTo n xs → n < s.stamp → Rises (xs ++ s ∷ [])
rises_more n [] s r u lt = tt
rises_more n (x ∷ []) s r (le, u) lt = (omega arith, tt)
rises_more n (x ∷ y ∷ xs) s (h, r) (le, u) lt = (h, rises_more n (y ∷ xs) s r u lt)

pub upto_more : (n : ℕ) (xs : List Stamped) (s : Stamped) → UpTo n xs → n < s.stamp → UpTo s.stamp (xs ++ s ∷ [])
upto_more n [] s u lt = ((let h : s.stamp ≤ s.stamp = omega arith in h), tt)
upto_more n (x ∷ xs) s (le, u) lt = (omega arith, upto_more n xs s u lt)

runs_more : (m mid last : Mailbox (List Token)) (ss : List Stamped) (s : Stamped) → RunsTo m ss mid → mail_after mid s.entry.act ≡ Some last → RunsTo m (ss ++ s ∷ []) last
runs_more m mid last [] s e is = (last, ap (λ x. mail_after x s.entry.act) e ∙ is, refl)
runs_more m mid last (x ∷ ss) s (next, h, r) is = (next, h, runs_more next mid last ss s r is)

-- what leads to a mailbox is a run of it
pub is_run : (m last : Mailbox (List Token)) (ss : List Stamped) → RunsTo m ss last → MailFrom m ss
is_run m last [] r = tt
is_run m last (x ∷ ss) (next, h, r) = (next, h, is_run next last ss r)

pub acts_are_noted : ActsAreNoted
acts_are_noted log boxes box s next stand name now later x = by (same_box x box) refl
  where
    on : (y : BoxName) → is_on y s ≡ same_box y box
    on y = ap (is_that y) name

    here : BoxStands box (log ++ s ∷ []) (record { mail = next; clock = s.stamp })
    here =
        let e : filter (is_on box) (log ++ s ∷ []) ≡ filter (is_on box) log ++ s ∷ [] = filter_append (is_on box) log (s ∷ []) ∙ ap (λ (zs : List Stamped). filter (is_on box) log ++ zs) (kept (is_on box) s [] (on box ∙ same_self box)) in
        let old = stand box in
        record {
          rises = subst (λ (zs : List Stamped). Rises zs) (sym e) (rises_more (boxes box).clock (filter (is_on box) log) s old.rises old.upto later);
          upto = subst (λ (zs : List Stamped). UpTo s.stamp zs) (sym e) (upto_more (boxes box).clock (filter (is_on box) log) s old.upto later);
          run = subst (λ (zs : List Stamped). RunsTo empty_mailbox zs next) (sym e) (runs_more empty_mailbox (boxes box).mail next (filter (is_on box) log) s old.run now);
        }

    elsewhere : (y : BoxName) → same_box y box ≡ false → BoxStands y (log ++ s ∷ []) (boxes y)
    elsewhere y isnt =
        let e : filter (is_on y) (log ++ s ∷ []) ≡ filter (is_on y) log = filter_append (is_on y) log (s ∷ []) ∙ (ap (λ (zs : List Stamped). filter (is_on y) log ++ zs) (passed (is_on y) s [] (on y ∙ isnt)) ∙ append-nil (filter (is_on y) log)) in
        let old = stand y in
        record {
          rises = subst (λ (zs : List Stamped). Rises zs) (sym e) old.rises;
          upto = subst (λ (zs : List Stamped). UpTo (boxes y).clock zs) (sym e) old.upto;
          run = subst (λ (zs : List Stamped). RunsTo empty_mailbox zs (boxes y).mail) (sym e) old.run;
        }

    by : (b : Bool) → same_box x box ≡ b → BoxStands x (log ++ s ∷ []) (if same_box x box then record { mail = next; clock = s.stamp } else boxes x)
    by true e = subst (λ (b : Bool). BoxStands x (log ++ s ∷ []) (if b then record { mail = next; clock = s.stamp } else boxes x)) (sym e)
        (subst (λ (y : BoxName). BoxStands y (log ++ s ∷ []) (record { mail = next; clock = s.stamp })) (sym (same_name x box e)) here)
    by false e = subst (λ (b : Bool). BoxStands x (log ++ s ∷ []) (if b then record { mail = next; clock = s.stamp } else boxes x)) (sym e) (elsewhere x e)

-- ---- the shapes of what waits

module _ (log : List Stamped) where
  shapes_pushed : (box : BoxName) (qs : List (ℕ × List Token)) (n : ℕ) (shape : List Token) → HaveShapes log box qs → shape_put box n log ≡ shape → HaveShapes log box (qs ++ (n, shape) ∷ [])
  shapes_pushed box [] n shape k e = (e, tt)
  shapes_pushed box (q ∷ qs) n shape (h, k) e = (h, shapes_pushed box qs n shape k e)

  shapes_after : (box : BoxName) (m next : Mailbox (List Token)) (full : Option BoxName) (act : Act) → mail_after m act ≡ Some next →
      is_that box (box_in full act) ≡ true → KnownPut log act → HaveShapes log box m.queue → HaveShapes log box next.queue
  shapes_after box m next full (Put b n shape) e is there known = by (n == m.puts && not (is_full m)) refl
    where
      by : (x : Bool) → (n == m.puts && not (is_full m)) ≡ x → HaveShapes log box next.queue
      by true f =
          let front : (n == m.puts) ≡ true = (both_true (n == m.puts) (not (is_full m)) f).0 in
          let same : n ≡ m.puts = grind (arith, nat_tests) in
          let g : with_message m shape ≡ next = some_is _ next (sym (ap (λ (x : Bool). if x then Some (with_message m shape) else None) f) ∙ e) in
          let b-is : box ≡ b = same_name box b is in
          let here : shape_put box m.puts log ≡ shape = ap (λ (x : BoxName). shape_put x m.puts log) b-is ∙ (ap (λ (k : ℕ). shape_put b k log) (sym same) ∙ there) in
          subst (λ (y : Mailbox (List Token)). HaveShapes log box y.queue) g (shapes_pushed box m.queue m.puts shape known here)
      by false f = absurd (let h : None ≡ Some next = sym (ap (λ (x : Bool). if x then Some (with_message m shape) else None) f) ∙ e in cc)
  shapes_after box m next full (Take b n) e is there known = by m.queue refl
    where
      at : (first : ℕ × List Token) (rest : List (ℕ × List Token)) → m.queue ≡ first ∷ rest → (x : Bool) → (first.0 == n) ≡ x → HaveShapes log box next.queue
      at first rest q true f =
          let g : with_queue m rest ≡ next = some_is _ next (sym (ap (mail_taken m n) q ∙ ap (λ (x : Bool). if x then Some (with_queue m rest) else None) f) ∙ e) in
          let k : HaveShapes log box (first ∷ rest) = subst (λ (qs : List (ℕ × List Token)). HaveShapes log box qs) q known in
          subst (λ (y : Mailbox (List Token)). HaveShapes log box y.queue) g k.1
      at first rest q false f = absurd (let h : None ≡ Some next = sym (ap (mail_taken m n) q ∙ ap (λ (x : Bool). if x then Some (with_queue m rest) else None) f) ∙ e in cc)

      by : (qs : List (ℕ × List Token)) → m.queue ≡ qs → HaveShapes log box next.queue
      by [] q = absurd (let h : None ≡ Some next = sym (ap (mail_taken m n) q) ∙ e in cc)
      by (first ∷ rest) q = at first rest q (first.0 == n) refl
  shapes_after box m next full (Empty b) e is there known = by m.queue refl
    where
      by : (qs : List (ℕ × List Token)) → m.queue ≡ qs → HaveShapes log box next.queue
      by [] q = let g : m ≡ next = some_is m next (sym (ap (mail_empty m) q) ∙ e) in subst (λ (y : Mailbox (List Token)). HaveShapes log box y.queue) g known
      by (first ∷ rest) q = absurd (let h : None ≡ Some next = sym (ap (mail_empty m) q) ∙ e in cc)
  shapes_after box m next full (Bound b n) e is there known = subst (λ (y : Mailbox (List Token)). HaveShapes log box y.queue) (some_is (bounded m n) next e) known
  shapes_after box m next full (End why) e is there known = by (is_full m) refl
    where
      by : (x : Bool) → is_full m ≡ x → HaveShapes log box next.queue
      by true f = subst (λ (y : Mailbox (List Token)). HaveShapes log box y.queue) (some_is m next (sym (ap (λ (x : Bool). if x then Some m else None) f) ∙ e)) known
      by false f = absurd (let h : None ≡ Some next = sym (ap (λ (x : Bool). if x then Some m else None) f) ∙ e in cc)
  shapes_after box m next full act e is there known = absurd (cc)

  shapes_stay : (box : BoxName) (ss : List Stamped) (m last : Mailbox (List Token)) → KnownPuts log ss → HaveShapes log box m.queue → RunsTo m (filter (is_on box) ss) last → HaveShapes log box last.queue
  shapes_stay box [] m last puts known run = subst (λ (y : Mailbox (List Token)). HaveShapes log box y.queue) run known
  shapes_stay box (s ∷ ss) m last (put, puts) known run = by (is_on box s) refl (λ n k r. shapes_stay box ss n last puts k r)
    where
      by : (b : Bool) → is_on box s ≡ b → ((n : Mailbox (List Token)) → HaveShapes log box n.queue → RunsTo n (filter (is_on box) ss) last → HaveShapes log box last.queue) → HaveShapes log box last.queue
      by true e later =
          let r : RunsTo m (s ∷ filter (is_on box) ss) last = subst (λ (zs : List Stamped). RunsTo m zs last) (kept (is_on box) s ss e) run in
          later r.0 (shapes_after box m r.0 s.full s.entry.act r.1 e put known) r.2
      by false e later = later m known (subst (λ (zs : List Stamped). RunsTo m zs last) (passed (is_on box) s ss e) run)

pub waiting_are_known : WaitingAreKnown
waiting_are_known log boxes stand x =
    shapes_stay log x log empty_mailbox (boxes x).mail
    (known_puts log (λ box. empty_mailbox) log (record { boxes = λ box. is_run empty_mailbox (boxes box).mail (filter (is_on box) log) (stand box).run; shapes = λ box n le. refl }))
    tt (stand x).run
