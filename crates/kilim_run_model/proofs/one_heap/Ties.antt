-- One thread has moved: the others, and what waits in mailboxes, are as they were.
use Rattle.std.proofs.Common.{◌≡◌, ℕ, suc, ◌≤◌, Bool, true, false, cond, List, [], ◌∷◌, ◌++◌, Option, Some, None, refl, sym, ap, subst, ◌∙◌, ◌≢◌, ◌⊎◌, inl, inr}
use Rattle.std.proofs.lemmas.Bool.Decides.{eqb_tells}
use Rattle.std.proofs.lemmas.Bool.{ne_eqb}
use Rattle.std.specs.Prelude.{slice_get, slice_set, ◌==◌, ◌&&◌}
use Rattle.kilim_lemmas.proofs.Lists.{set_there, set_other, set_length}
use Rattle.kilim_program.specs.Program.{Program}
use Rattle.kilim_program.specs.declared.names.BoxName.{BoxName}
use Rattle.kilim_run_state.specs.declared.value.Token.{Token}
use Rattle.kilim_run_state.specs.Machine.{Objects}
use Rattle.kilim_run_state.specs.Trees.{OfMessage}
use Rattle.kilim_run_model.specs.State.{Setting, Thread, State, Mailbox, same_box}
use Rattle.kilim_run_model.specs.Lone.{Lone}
use Rattle.kilim_run_model.specs.Turn.{kept_by, with_lone}
use Rattle.kilim_run_model.specs.Kept.{IsIn}
use Rattle.kilim_run_model.specs.kin.Kin.{Names, Owner, OfTask, OfPlace, OfNobody, NameKin}
use Rattle.kilim_run_model.specs.kin.trees.TreeKin.{IsTree}
use Rattle.kilim_run_model.specs.one_heap.Lones.{LonesKin}
use Rattle.kilim_run_model.specs.one_heap.Parted.{Parted}
use Rattle.kilim_run_model.specs.one_heap.Tied.{Party, Queued, Boxes, TiedBy, Tied}
use Rattle.kilim_run_model.proofs.one_heap.Owners.{Spares, alike_kept, queued_kept}

-- ---- what a thread's own changes leave to the others

-- the heap from here on
pub rebased : (of : Names) (owner : ℕ → Owner) (t : ℕ) (k0 : Objects) (a b : Lone) → LonesKin of owner t k0 a b → LonesKin of owner t b.heap a b
rebased of owner t k0 a b kin = record {
  threads = kin.threads;
  heaps = record { same = kin.heaps.same; apart = kin.heaps.apart; rest = λ x. inl refl };
  kept = kin.kept;
  below = kin.below;
  free = kin.free;
  keeps = kin.keeps;
}

-- objects of another owner are his still, and as they were
pub spared : (of : Names) (owner later : ℕ → Owner) (t : ℕ) (k0 : Objects) (a b : Lone) → ((x : ℕ) → (later x ≡ owner x) ⊎ ((owner x ≡ OfNobody) × (later x ≡ OfTask t))) → LonesKin of later t k0 a b →
    (w : Owner) → (w ≡ OfTask t → ⊥) → (w ≡ OfNobody → ⊥) → Spares owner k0 later b.heap w
spared of owner later t k0 a b only kin w other some x e = elim (only x) [
  | inl d ↦ (d ∙ e, elim (kin.heaps.rest x) [ inl z ↦ z | inr z ↦ absurd (other (sym e ∙ (sym d ∙ z))) ])
  | inr d ↦ absurd (some (sym e ∙ d.0))
]

-- ---- mailboxes by their names

box_is : (a b : BoxName) → a.task ≡ b.task → a.number ≡ b.number → a ≡ b
box_is a b e d = λ i. record { task = e i; number = d i }

pub box_tells : (a b : BoxName) → ((same_box a b ≡ true) × (a ≡ b)) ⊎ ((same_box a b ≡ false) × (a ≢ b))
box_tells a b = elim (eqb_tells a.task b.task) [
  | inl e ↦ elim (eqb_tells a.number b.number) [
    | inl d ↦ inl (ap (λ (z : Bool). z && (a.number == b.number)) e.0 ∙ d.0, box_is a b e.1 d.1)
    | inr d ↦ inr (ap (λ (z : Bool). z && (a.number == b.number)) e.0 ∙ d.0, λ z. d.1 (ap (λ (c : BoxName). c.number) z))
  ]
  | inr e ↦ inr (ap (λ (z : Bool). z && (a.number == b.number)) e.0, λ z. e.1 (ap (λ (c : BoxName). c.task) z))
]

pub boxes_one : (p : Program) (later : ℕ → Owner) (k : Objects) (ms : BoxName → Mailbox (List Token)) (ss : BoxName → Mailbox ℕ) (box : BoxName) (shapes : Mailbox (List Token)) (names : Mailbox ℕ) →
    Boxes p later k box shapes names → ((b : BoxName) → b ≢ box → Boxes p later k b (ms b) (ss b)) →
    (b : BoxName) → Boxes p later k b (cond (same_box b box) shapes (ms b)) (cond (same_box b box) names (ss b))
boxes_one p later k ms ss box shapes names here others b = elim (box_tells b box) [
  | inl e ↦ subst (λ (z : Bool). Boxes p later k b (cond z shapes (ms b)) (cond z names (ss b))) (sym e.0) (subst (λ (c : BoxName). Boxes p later k c shapes names) (sym e.1) here)
  | inr e ↦ subst (λ (z : Bool). Boxes p later k b (cond z shapes (ms b)) (cond z names (ss b))) (sym e.0) (others b e.1)
]

pub box_kept : (p : Program) (owner later : ℕ → Owner) (k l : Objects) (box : BoxName) (shapes : Mailbox (List Token)) (names : Mailbox ℕ) → ((i : ℕ) → Spares owner k later l (OfPlace box i)) → Boxes p owner k box shapes names → Boxes p later l box shapes names
box_kept p owner later k l box shapes names spares b = record { most = b.most; counts = b.counts; first = b.first; queued = queued_kept owner later k l p box names.puts b.first shapes.queue names.queue (λ j e. spares j) b.queued }

pub queued_more : (p : Program) (owner : ℕ → Owner) (k : Objects) (box : BoxName) (end i : ℕ) (shapes : List (ℕ × List Token)) (names : List (ℕ × ℕ)) (number : ℕ) (shape : List Token) (y : ℕ) →
    Queued p owner k box end i shapes names → number ≡ end → (xs : List ℕ) → IsTree p OfMessage k (y ∷ xs) shape → ((z : ℕ) → IsIn z (y ∷ xs) → owner z ≡ OfPlace box end) →
    Queued p owner k box (suc end) i (shapes ++ (number, shape) ∷ []) (names ++ (end, y) ∷ [])
queued_more p owner k box end i [] [] number shape y w e xs tree owned = ((e ∙ sym w, sym w, (xs, tree, λ z d. owned z d ∙ ap (OfPlace box) (sym w))), ap suc w)
queued_more p owner k box end i (a ∷ shapes) (b ∷ names) number shape y w e xs tree owned = (w.0, queued_more p owner k box end (suc i) shapes names number shape y w.1 e xs tree owned)
queued_more p owner k box end i [] (b ∷ names) number shape y w e xs tree owned = absurd w
queued_more p owner k box end i (a ∷ shapes) [] number shape y w e xs tree owned = absurd w

-- ---- the state after a move of one thread

module _ (set : Setting) (m : Parted) (s : State) (tied : Tied set m s) (t : ℕ) (a : Lone) (x : Thread) (is_lone : slice_get m.lones t ≡ Some a) (is_thread : slice_get s.threads t ≡ Some x)
    (b c : Lone) (later : ℕ → Owner) (letters : BoxName → Mailbox (List Token)) (boxes : BoxName → Mailbox ℕ) where
  abbrev pub parted_after : Parted
  parted_after = record { lones = slice_set m.lones t b; mailboxes = letters; journal = m.journal }

  abbrev pub state_after : State
  state_after = record (with_lone s t c) { mailboxes = boxes }

  abbrev no_name : Option ℕ
  no_name = None

  kept_here : ((t ≡ 0 → ⊥) → c.kept ≡ None) → kept_by state_after t ≡ c.kept
  kept_here keeps = elim (eqb_tells t 0) [
    | inl e ↦ ap (λ (z : Bool). cond z (cond z c.kept s.kept) no_name) e.0
    | inr e ↦ ap (λ (z : Bool). cond z (cond (t == 0) c.kept s.kept) no_name) e.0 ∙ sym (keeps e.1)
  ]

  kept_there : (u : ℕ) → u ≢ t → kept_by state_after u ≡ kept_by s u
  kept_there u n = elim (eqb_tells t 0) [
    | inl e ↦ ap (λ (z : Bool). cond z (cond (t == 0) c.kept s.kept) no_name) (ne_eqb u 0 (λ d. n (d ∙ sym e.1))) ∙ sym (ap (λ (z : Bool). cond z s.kept no_name) (ne_eqb u 0 (λ d. n (d ∙ sym e.1))))
    | inr e ↦ ap (λ (z : Bool). cond (u == 0) (cond z c.kept s.kept) no_name) e.0
  ]

  other_kept : (u : ℕ) (l : Option Lone) (y : Option Thread) → u ≢ t → ((z : ℕ) → c.next ≤ z → later z ≡ OfNobody) → Spares tied.owner s.heap later c.heap (OfTask u) → Party tied.owner s u l y → Party later state_after u l y
  other_kept u None None n fresh spares w = tt
  other_kept u (Some l) (Some y) n fresh spares w = (
    w.0,
    record {
      threads = w.1.threads;
      heaps = alike_kept tied.owner later s.heap c.heap w.0 u l.heap spares w.1.heaps;
      kept = subst (λ (z : Option ℕ). NameKin w.0 l.kept z) (sym (kept_there u n)) w.1.kept;
      below = w.1.below;
      free = fresh;
      keeps = λ d. kept_there u n ∙ w.1.keeps d;
    },
  )
  other_kept u _ _ n fresh spares w = absurd w

  pub tied_after : ((z : ℕ) → c.next ≤ z → later z ≡ OfNobody) → ((u : ℕ) → u ≢ t → Spares tied.owner s.heap later c.heap (OfTask u)) → (of : Names) → LonesKin of later t c.heap b c →
      ((box : BoxName) → Boxes set.program later c.heap box (letters box) (boxes box)) → TiedBy set later parted_after state_after
  tied_after fresh others of kin boxed = record {
    fresh = fresh;
    count = set_length m.lones t b ∙ (tied.by.count ∙ sym (set_length s.threads t c.thread));
    parties = λ u. elim (eqb_tells u t) [
      | inl e ↦ subst (λ (v : ℕ). Party later state_after v (slice_get (slice_set m.lones t b) v) (slice_get (slice_set s.threads t c.thread) v)) (sym e.1)
          (subst (λ (z : Option Lone). Party later state_after t z (slice_get (slice_set s.threads t c.thread) t)) (sym (set_there m.lones t a b is_lone))
          (subst (λ (z : Option Thread). Party later state_after t (Some b) z) (sym (set_there s.threads t x c.thread is_thread)) (
            of,
            record {
              threads = kin.threads;
              heaps = kin.heaps;
              kept = subst (λ (z : Option ℕ). NameKin of b.kept z) (sym (kept_here kin.keeps)) kin.kept;
              below = kin.below;
              free = kin.free;
              keeps = λ d. kept_here kin.keeps ∙ kin.keeps d;
            },
          )))
      | inr e ↦ subst (λ (z : Option Lone). Party later state_after u z (slice_get (slice_set s.threads t c.thread) u)) (sym (set_other m.lones t u b e.1))
          (subst (λ (z : Option Thread). Party later state_after u (slice_get m.lones u) z) (sym (set_other s.threads t u c.thread e.1))
          (other_kept u (slice_get m.lones u) (slice_get s.threads u) e.1 fresh (others u e.1) (tied.by.parties u)))
    ];
    boxes = boxed;
    journal = tied.by.journal;
  }

pub tied_as : (set : Setting) (m : Parted) (s : State) (owner : ℕ → Owner) → TiedBy set owner m s → Tied set m s
tied_as set m s owner by = record { owner = owner; by = by }
