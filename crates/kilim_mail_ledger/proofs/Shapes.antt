-- The shape beside a take stays as the log of a turn grows: what is taken was put before.
use Rattle.std.proofs.Common.{◌≡◌, ℕ, zero, suc, ◌+◌, ◌<◌, Bool, true, false, ◌==◌, cond, List, [], ◌∷◌, ◌++◌, append_assoc, Option, Some, None, refl, sym, ap, subst, ◌∙◌, arith}
use Rattle.std.specs.Prelude.{◌&&◌, ◌||◌, not, if◌then◌else◌, filter}
use Rattle.std.proofs.lemmas.Bool.Decides.{nat_tests}
use Rattle.kilim_program.specs.declared.names.BoxName.{BoxName}
use Rattle.kilim_run_state.specs.declared.value.Token.{Token}
use Rattle.kilim_run_journal.specs.declared.entry.Act.{Act}
use Rattle.kilim_run_journal.specs.declared.entry.Act.TheVariants.{Put, Take, Empty, Start, Print, End, Wait, Bound}
use Rattle.kilim_run_model.specs.State.{Mailbox, empty_mailbox, with_message, with_queue, bounded, is_full, same_box}
use Rattle.kilim_mail_stamps.specs.declared.stamped.Stamped.{Stamped}
use Rattle.kilim_mail_ledger.specs.declared.items.Item.{Item}
use Rattle.kilim_mail_stamps.specs.Stamps.{box_in, is_that, is_on, mail_put, mail_taken, mail_empty, mail_after, put_shape, shape_put, deed_in}
use Rattle.kilim_mail_ledger.specs.declared.items.Item.TheVariants.{Did}
use Rattle.kilim_mail_stamps.specs.Merging.{weigh}
use Rattle.kilim_mail_ledger.specs.Ledger.{born_items, entry_items}
use Rattle.kilim_mail_stamps.specs.Leading.{RunsTo}
use Rattle.kilim_mail_ledger.specs.Mailboxes.{ItemsStay}
use Rattle.kilim_mail_stamps.proofs.Order.{kept, passed}
use Rattle.kilim_mail_stamps.proofs.Steps.{some_is, both_true, same_name, same_self}
use Rattle.kilim_run_model.specs.declared.deed.Deed.{Deed}

-- it is the put of that number
abbrev is_put : BoxName → ℕ → Act → Bool
is_put box n (Put b k shape) = same_box box b && n == k
is_put box n act = false

abbrev found : BoxName → ℕ → List Stamped → Bool
found box n [] = false
found box n (s ∷ ss) = is_put box n s.entry.act || found box n ss

more_here : (box : BoxName) (n : ℕ) (act : Act) (left more : List Token) (f : Bool) → (is_put box n act || f) ≡ true → (f ≡ true → more ≡ left) → put_shape box n act more ≡ put_shape box n act left
more_here box n (Put b k shape) left more f is later = by (same_box box b && n == k) refl
  where
    by : (x : Bool) → (same_box box b && n == k) ≡ x → (if same_box box b && n == k then shape else more) ≡ (if same_box box b && n == k then shape else left)
    by true e = ap (λ (x : Bool). if x then shape else more) e ∙ sym (ap (λ (x : Bool). if x then shape else left) e)
    by false e =
        let g : f ≡ true = sym (ap (λ (x : Bool). x || f) e) ∙ is in
        ap (λ (x : Bool). if x then shape else more) e ∙ (later g ∙ sym (ap (λ (x : Bool). if x then shape else left) e))
more_here box n (Take b k) left more f is later = later is
more_here box n (Empty b) left more f is later = later is
more_here box n (Start k shape) left more f is later = later is
more_here box n (Print shape) left more f is later = later is
more_here box n (End why) left more f is later = later is
more_here box n (Wait b) left more f is later = later is
more_here box n (Bound b k) left more f is later = later is

-- a put that is there counts before all that comes later
pub shape_more : (box : BoxName) (n : ℕ) (xs ys : List Stamped) → found box n xs ≡ true → shape_put box n (xs ++ ys) ≡ shape_put box n xs
shape_more box n [] ys is = absurd (cc)
shape_more box n (x ∷ xs) ys is = more_here box n x.entry.act (shape_put box n xs) (shape_put box n (xs ++ ys)) (found box n xs) is (λ f. shape_more box n xs ys f)

found_right : (box : BoxName) (n : ℕ) (xs ys : List Stamped) → found box n ys ≡ true → found box n (xs ++ ys) ≡ true
found_right box n [] ys is = is
found_right box n (x ∷ xs) ys is = ap (λ (b : Bool). is_put box n x.entry.act || b) (found_right box n xs ys is) ∙ or_true (is_put box n x.entry.act)
  where
    or_true : (b : Bool) → (b || true) ≡ true
    or_true true = refl
    or_true false = refl

module _ (all : List Stamped) where
  abbrev PutFound : Act → Type 0
  PutFound (Put b n shape) = found b n all ≡ true
  PutFound act = Unit {0}

  abbrev TakeFound : Act → Type 0
  TakeFound (Take b n) = found b n all ≡ true
  TakeFound act = Unit {0}

  abbrev PutsFound : List Stamped → Type 0
  PutsFound [] = Unit {0}
  PutsFound (s ∷ ss) = PutFound s.entry.act × PutsFound ss

  abbrev QueueFound : BoxName → List (ℕ × List Token) → Type 0
  QueueFound box [] = Unit {0}
  QueueFound box (q ∷ qs) = (found box q.0 all ≡ true) × QueueFound box qs

  queue_pushed : (box : BoxName) (qs : List (ℕ × List Token)) (n : ℕ) (shape : List Token) → QueueFound box qs → found box n all ≡ true → QueueFound box (qs ++ (n, shape) ∷ [])
  queue_pushed box [] n shape f is = (is, tt)
  queue_pushed box (q ∷ qs) n shape (h, f) is = (h, queue_pushed box qs n shape f is)

  found_step : (box : BoxName) (m next : Mailbox (List Token)) (full : Option BoxName) (act : Act) → mail_after m act ≡ Some next → is_that box (box_in full act) ≡ true → PutFound act → QueueFound box m.queue → QueueFound box next.queue × TakeFound act
  found_step box m next full (Put b n shape) e is put queue = by (n == m.puts && not (is_full m)) refl
    where
      by : (x : Bool) → (n == m.puts && not (is_full m)) ≡ x → QueueFound box next.queue × Unit {0}
      by true f =
          let front : (n == m.puts) ≡ true = (both_true (n == m.puts) (not (is_full m)) f).0 in
          let same : n ≡ m.puts = grind (arith, nat_tests) in
          let g : with_message m shape ≡ next = some_is _ next (sym (ap (λ (x : Bool). if x then Some (with_message m shape) else None) f) ∙ e) in
          let there : found box m.puts all ≡ true = ap (λ (x : BoxName). found x m.puts all) (same_name box b is) ∙ (ap (λ (k : ℕ). found b k all) (sym same) ∙ put) in
          (subst (λ (y : Mailbox (List Token)). QueueFound box y.queue) g (queue_pushed box m.queue m.puts shape queue there), tt)
      by false f = absurd (let h : None ≡ Some next = sym (ap (λ (x : Bool). if x then Some (with_message m shape) else None) f) ∙ e in cc)
  found_step box m next full (Take b n) e is put queue = by m.queue refl
    where
      at : (first : ℕ × List Token) (rest : List (ℕ × List Token)) → m.queue ≡ first ∷ rest → (x : Bool) → (first.0 == n) ≡ x → QueueFound box next.queue × (found b n all ≡ true)
      at first rest q true f =
          let same : first.0 ≡ n = grind (arith, nat_tests) in
          let g : with_queue m rest ≡ next = some_is _ next (sym (ap (mail_taken m n) q ∙ ap (λ (x : Bool). if x then Some (with_queue m rest) else None) f) ∙ e) in
          let k : QueueFound box (first ∷ rest) = subst (λ (qs : List (ℕ × List Token)). QueueFound box qs) q queue in
          (subst (λ (y : Mailbox (List Token)). QueueFound box y.queue) g k.1, ap (λ (x : BoxName). found x n all) (sym (same_name box b is)) ∙ (ap (λ (j : ℕ). found box j all) (sym same) ∙ k.0))
      at first rest q false f = absurd (let h : None ≡ Some next = sym (ap (mail_taken m n) q ∙ ap (λ (x : Bool). if x then Some (with_queue m rest) else None) f) ∙ e in cc)

      by : (qs : List (ℕ × List Token)) → m.queue ≡ qs → QueueFound box next.queue × (found b n all ≡ true)
      by [] q = absurd (let h : None ≡ Some next = sym (ap (mail_taken m n) q) ∙ e in cc)
      by (first ∷ rest) q = at first rest q (first.0 == n) refl
  found_step box m next full (Empty b) e is put queue = by m.queue refl
    where
      by : (qs : List (ℕ × List Token)) → m.queue ≡ qs → QueueFound box next.queue × Unit {0}
      by [] q = let g : m ≡ next = some_is m next (sym (ap (mail_empty m) q) ∙ e) in (subst (λ (y : Mailbox (List Token)). QueueFound box y.queue) g queue, tt)
      by (first ∷ rest) q = absurd (let h : None ≡ Some next = sym (ap (mail_empty m) q) ∙ e in cc)
  found_step box m next full (Bound b n) e is put queue = (subst (λ (y : Mailbox (List Token)). QueueFound box y.queue) (some_is (bounded m n) next e) queue, tt)
  found_step box m next full (End why) e is put queue = by (is_full m) refl
    where
      by : (x : Bool) → is_full m ≡ x → QueueFound box next.queue × Unit {0}
      by true f = (subst (λ (y : Mailbox (List Token)). QueueFound box y.queue) (some_is m next (sym (ap (λ (x : Bool). if x then Some m else None) f) ∙ e)) queue, tt)
      by false f = absurd (let h : None ≡ Some next = sym (ap (λ (x : Bool). if x then Some m else None) f) ∙ e in cc)
  found_step box m next full act e is put queue = absurd (cc)

  -- what one mailbox's entries take was put
  abbrev TakesOf : BoxName → List Stamped → Type 0
  TakesOf box [] = Unit {0}
  TakesOf box (s ∷ ss) = (is_on box s ≡ true → TakeFound s.entry.act) × TakesOf box ss

  takes_of : (box : BoxName) (ss : List Stamped) (m last : Mailbox (List Token)) → PutsFound ss → QueueFound box m.queue → RunsTo m (filter (is_on box) ss) last → TakesOf box ss
  takes_of box [] m last puts queue run = tt
  takes_of box (s ∷ ss) m last (put, puts) queue run = by (is_on box s) refl (λ n q r. takes_of box ss n last puts q r)
    where
      by : (b : Bool) → is_on box s ≡ b → ((n : Mailbox (List Token)) → QueueFound box n.queue → RunsTo n (filter (is_on box) ss) last → TakesOf box ss) → (is_on box s ≡ true → TakeFound s.entry.act) × TakesOf box ss
      by true e later =
          let r : RunsTo m (s ∷ filter (is_on box) ss) last = subst (λ (zs : List Stamped). RunsTo m zs last) (kept (is_on box) s ss e) run in
          let f = found_step box m r.0 s.full s.entry.act r.1 e put queue in
          ((λ is. f.1), later r.0 f.0 r.2)
      by false e later = ((λ is. absurd (let h : true ≡ false = sym is ∙ e in cc)), later m queue (subst (λ (zs : List Stamped). RunsTo m zs last) (passed (is_on box) s ss e) run))

puts_found : (done ss : List Stamped) → PutsFound (done ++ ss) ss
puts_found done [] = tt
puts_found done (s ∷ ss) = (at s.entry.act refl, subst (λ (zs : List Stamped). PutsFound zs ss) (append_assoc done (s ∷ []) ss) (puts_found (done ++ s ∷ []) ss))
  where
    at : (act : Act) → s.entry.act ≡ act → PutFound (done ++ (s ∷ ss)) act
    at (Put b n shape) e =
        let self : (n == n) ≡ true = grind (arith, nat_tests) in
        let here : is_put b n s.entry.act ≡ true = ap (is_put b n) e ∙ (ap (λ (x : Bool). x && n == n) (same_self b) ∙ self) in
        found_right b n done (s ∷ ss) (ap (λ (x : Bool). x || found b n ss) here)
    at (Take b n) e = tt
    at (Empty b) e = tt
    at (Start n shape) e = tt
    at (Print shape) e = tt
    at (End why) e = tt
    at (Wait b) e = tt
    at (Bound b n) e = tt

deed_same : (log ys : List Stamped) (act : Act) → TakeFound log act → deed_in (log ++ ys) act ≡ deed_in log act
deed_same log ys (Take b n) is = ap (λ (shape : List Token). record { act = Take b n; taken = shape }) (shape_more b n log ys is)
deed_same log ys (Put b n shape) is = refl
deed_same log ys (Empty b) is = refl
deed_same log ys (Start n shape) is = refl
deed_same log ys (Print shape) is = refl
deed_same log ys (End why) is = refl
deed_same log ys (Wait b) is = refl
deed_same log ys (Bound b n) is = refl

take_found : (log : List Stamped) (full : Option BoxName) (act : Act) → ((box : BoxName) → is_that box (box_in full act) ≡ true → TakeFound log act) → TakeFound log act
take_found log full (Take b n) h = h b (same_self b)
take_found log full (Put b n shape) h = tt
take_found log full (Empty b) h = tt
take_found log full (Start n shape) h = tt
take_found log full (Print shape) h = tt
take_found log full (End why) h = tt
take_found log full (Wait b) h = tt
take_found log full (Bound b n) h = tt

-- The items of a turn's entries stay what they are as its log grows.
pub items_stay : (h : Item → ℕ) (log ys ss : List Stamped) → ((box : BoxName) → TakesOf log box ss) → weigh (λ (s : Stamped). weigh h (entry_items (log ++ ys) s)) ss ≡ weigh (λ (s : Stamped). weigh h (entry_items log s)) ss
items_stay h log ys [] takes = refl
items_stay h log ys (s ∷ ss) takes =
    let here : deed_in (log ++ ys) s.entry.act ≡ deed_in log s.entry.act = deed_same log ys s.entry.act (take_found log s.full s.entry.act (λ box is. (takes box).0 is)) in
    let one : weigh h (entry_items (log ++ ys) s) ≡ weigh h (entry_items log s) = ap (λ (d : Deed). h (Did s.entry.task (record { stamp = s.stamp; full = s.full; deed = d })) + weigh h (born_items s.stamp s.entry.act)) here in
    let rest = items_stay h log ys ss (λ box. (takes box).1) in
    omega arith

pub items_of_log_stay : ItemsStay
items_of_log_stay h log more boxes stand = items_stay h log more log (λ box. takes_of log box log empty_mailbox (boxes box).mail (puts_found [] log) tt (stand box).run)
