-- Acts, entries and journals: what each is written as, it is read as.
use Rattle.std.proofs.Common.{◌≡◌, ℕ, ◌+◌, ◌*◌, ◌<◌, ◌^◌, Bool, true, false, ◌&&◌, List, [], ◌∷◌, ◌++◌, get_or, refl, sym, ap, ◌∙◌, append_assoc, arith}
use Rattle.std.specs.Prelude.{if◌then◌else◌, ◌==◌, codes}
use Rattle.std.specs.List.{list_all}
use Rattle.std.specs.Fmt.{decimal}
use Rattle.std.proofs.lemmas.List.{append_cancel_left}
use Rattle.kilim_run_state.specs.declared.value.Token.{Token}
use Rattle.kilim_run_state.specs.declared.value.Token.TheVariants.{Open}
use Rattle.kilim_run_state.specs.declared.cause.EndCause.{EndCause}
use Rattle.kilim_run_state.specs.declared.cause.EndCause.TheVariants.{Done, Spent, Depth, Null, Index, Size, Large, Cast, Store, Zero, Boxes, Tasks, Full, Thrown}
use Rattle.kilim_run_state.specs.Cause.{word_of}
use Rattle.kilim_run_journal.specs.declared.entry.Act.{Act}
use Rattle.kilim_run_journal.specs.declared.entry.Act.TheVariants.{Put, Take, Empty, Start, Print, End, Wait, Bound}
use Rattle.kilim_run_journal.specs.declared.entry.Entry.{Entry}
use Rattle.kilim_run_journal.specs.Text.{box_text, shape_text, act_text, entry_text, journal_text}
use Rattle.kilim_run_journal.specs.Readable.{is_value, is_object, is_plain_value, is_readable_act, ActFits, HasOneJournal}
use Rattle.kilim_run_journal.proofs.Parted.{parted, decimals_parted}
use Rattle.kilim_run_journal.specs.Fronts.{is_in_word}
use Rattle.kilim_run_journal.proofs.Tokens.{boxes_parted, tokens_parted}

-- ---- causes

abbrev same_word : List ℕ → List ℕ → Bool
same_word [] [] = true
same_word [] (d ∷ ds) = false
same_word (c ∷ cs) [] = false
same_word (c ∷ cs) (d ∷ ds) = c == d && same_word cs ds

abbrev named : List EndCause → List ℕ → EndCause
named [] word = Done
named (c ∷ cs) word = if same_word (word_of c) word then c else named cs word

-- all causes
abbrev pub causes : List EndCause
causes = Done ∷ Spent ∷ Depth ∷ Null ∷ Index ∷ Size ∷ Large ∷ Cast ∷ Store ∷ Zero ∷ Boxes ∷ Tasks ∷ Full ∷ Thrown ∷ []

-- the cause that a word stands for
abbrev cause_of : List ℕ → EndCause
cause_of word = named causes word

cause_again : (c : EndCause) → cause_of (word_of c) ≡ c
cause_again Done = refl
cause_again Spent = refl
cause_again Depth = refl
cause_again Null = refl
cause_again Index = refl
cause_again Size = refl
cause_again Large = refl
cause_again Cast = refl
cause_again Store = refl
cause_again Zero = refl
cause_again Boxes = refl
cause_again Tasks = refl
cause_again Full = refl
cause_again Thrown = refl

-- a cause is one word
-- a cause is one word
pub same_cause : (c d : EndCause) → word_of c ≡ word_of d → c ≡ d
same_cause c d e = sym (cause_again c) ∙ (ap cause_of e ∙ cause_again d)

pub cause_in_word : (c : EndCause) → list_all is_in_word (word_of c) ≡ true
cause_in_word Done = refl
cause_in_word Spent = refl
cause_in_word Depth = refl
cause_in_word Null = refl
cause_in_word Index = refl
cause_in_word Size = refl
cause_in_word Large = refl
cause_in_word Cast = refl
cause_in_word Store = refl
cause_in_word Zero = refl
cause_in_word Boxes = refl
cause_in_word Tasks = refl
cause_in_word Full = refl
cause_in_word Thrown = refl

-- equal texts that begin with a cause and a line feed begin with the same cause
causes_parted : (c d : EndCause) (x y : List ℕ) → word_of c ++ (10 ∷ x) ≡ word_of d ++ (10 ∷ y) → (c ≡ d) × (x ≡ y)
causes_parted c d x y e =
    let both = parted is_in_word (word_of c) (word_of d) (10 ∷ x) (10 ∷ y) (cause_in_word c) (cause_in_word d) refl refl e in
    (sym (cause_again c) ∙ (ap cause_of both.0 ∙ cause_again d), cc both.1)

-- ---- acts

object_is_value : (shape : List Token) → is_object shape ≡ true → is_value shape ≡ true
object_is_value [] h = absurd cc
object_is_value (Open name ∷ ts) h = h
object_is_value (t ∷ ts) h = absurd cc

plain_is_value : (shape : List Token) → is_plain_value shape ≡ true → is_value shape ≡ true
plain_is_value [] h = absurd cc
plain_is_value (Open name ∷ ts) h = absurd cc
plain_is_value (t ∷ ts) h = h

-- the first two letters of an act, as one number
abbrev first_two : List ℕ → ℕ
first_two text = 256 * get_or text 0 0 + get_or text 1 0

three_grouped : (b n t x : List ℕ) → (b ++ (codes " #" ++ (n ++ (codes " " ++ t)))) ++ x ≡ b ++ (codes " #" ++ (n ++ (codes " " ++ (t ++ x))))
three_grouped b n t x = simp append_assoc

two_grouped : (b n x : List ℕ) → (b ++ (codes " #" ++ n)) ++ x ≡ b ++ (codes " #" ++ (n ++ x))
two_grouped b n x = simp append_assoc

bound_grouped : (b n x : List ℕ) → (b ++ (codes " " ++ n)) ++ x ≡ b ++ (codes " " ++ (n ++ x))
bound_grouped b n x = simp append_assoc

task_grouped : (n t x : List ℕ) → (n ++ (codes " " ++ t)) ++ x ≡ n ++ (codes " " ++ (t ++ x))
task_grouped n t x = simp append_assoc

-- equal texts that begin with an act and a line feed begin with the same act
acts_parted : (a b : Act) (x y : List ℕ) → is_readable_act a ≡ true → is_readable_act b ≡ true → ActFits a → ActFits b → act_text a ++ (10 ∷ x) ≡ act_text b ++ (10 ∷ y) → (a ≡ b) × (x ≡ y)
acts_parted (Put box n shape) (Put other m second) x y ha hb fa fb e =
    let left = three_grouped (box_text box) (decimal n) (shape_text shape) (10 ∷ x) in
    let right = three_grouped (box_text other) (decimal m) (shape_text second) (10 ∷ y) in
    let boxes = boxes_parted box other (codes " #" ++ (decimal n ++ (codes " " ++ (shape_text shape ++ (10 ∷ x))))) (codes " #" ++ (decimal m ++ (codes " " ++ (shape_text second ++ (10 ∷ y))))) fa.0 fb.0 refl refl (sym left ∙ (append_cancel_left (codes "put ") _ _ e ∙ right)) in
    let numbers = decimals_parted n m (codes " " ++ (shape_text shape ++ (10 ∷ x))) (codes " " ++ (shape_text second ++ (10 ∷ y))) fa.1 fb.1 refl refl (append_cancel_left (codes " #") _ _ boxes.1) in
    let shapes = tokens_parted 0 false shape second x y (object_is_value shape ha) (object_is_value second hb) fa.2 fb.2 (append_cancel_left (codes " ") _ _ numbers.1) in
    (λ i. Put (boxes.0 i) (numbers.0 i) (shapes.0 i), shapes.1)
acts_parted (Take box n) (Take other m) x y ha hb fa fb e =
    let left = two_grouped (box_text box) (decimal n) (10 ∷ x) in
    let right = two_grouped (box_text other) (decimal m) (10 ∷ y) in
    let boxes = boxes_parted box other (codes " #" ++ (decimal n ++ (10 ∷ x))) (codes " #" ++ (decimal m ++ (10 ∷ y))) fa.0 fb.0 refl refl (sym left ∙ (append_cancel_left (codes "take ") _ _ e ∙ right)) in
    let numbers = decimals_parted n m (10 ∷ x) (10 ∷ y) fa.1 fb.1 refl refl (append_cancel_left (codes " #") _ _ boxes.1) in
    (λ i. Take (boxes.0 i) (numbers.0 i), cc numbers.1)
acts_parted (Empty box) (Empty other) x y ha hb fa fb e =
    let boxes = boxes_parted box other (10 ∷ x) (10 ∷ y) fa fb refl refl (append_cancel_left (codes "empty ") _ _ e) in
    (ap Empty boxes.0, cc boxes.1)
acts_parted (Start task shape) (Start other second) x y ha hb fa fb e =
    let left = task_grouped (decimal task) (shape_text shape) (10 ∷ x) in
    let right = task_grouped (decimal other) (shape_text second) (10 ∷ y) in
    let tasks = decimals_parted task other (codes " " ++ (shape_text shape ++ (10 ∷ x))) (codes " " ++ (shape_text second ++ (10 ∷ y))) (omega arith) (omega arith) refl refl (sym left ∙ (append_cancel_left (codes "start ") _ _ e ∙ right)) in
    let shapes = tokens_parted 0 false shape second x y (object_is_value shape ha) (object_is_value second hb) fa.1 fb.1 (append_cancel_left (codes " ") _ _ tasks.1) in
    (λ i. Start (tasks.0 i) (shapes.0 i), shapes.1)
acts_parted (Print shape) (Print second) x y ha hb fa fb e =
    let shapes = tokens_parted 0 false shape second x y (plain_is_value shape ha) (plain_is_value second hb) fa fb (append_cancel_left (codes "print ") _ _ e) in
    (ap Print shapes.0, shapes.1)
acts_parted (End cause) (End other) x y ha hb fa fb e =
    let causes = causes_parted cause other x y (append_cancel_left (codes "end ") _ _ e) in
    (ap End causes.0, causes.1)
acts_parted (Wait box) (Wait other) x y ha hb fa fb e =
    let boxes = boxes_parted box other (10 ∷ x) (10 ∷ y) fa fb refl refl (append_cancel_left (codes "waits ") _ _ e) in
    (ap Wait boxes.0, cc boxes.1)
acts_parted (Bound box n) (Bound other m) x y ha hb fa fb e =
    let left = bound_grouped (box_text box) (decimal n) (10 ∷ x) in
    let right = bound_grouped (box_text other) (decimal m) (10 ∷ y) in
    let boxes = boxes_parted box other (codes " " ++ (decimal n ++ (10 ∷ x))) (codes " " ++ (decimal m ++ (10 ∷ y))) fa.0 fb.0 refl refl (sym left ∙ (append_cancel_left (codes "bound ") _ _ e ∙ right)) in
    let numbers = decimals_parted n m (10 ∷ x) (10 ∷ y) (omega arith) (omega arith) refl refl (append_cancel_left (codes " ") _ _ boxes.1) in
    (λ i. Bound (boxes.0 i) (numbers.0 i), cc numbers.1)
acts_parted a b x y ha hb fa fb e = absurd (omega (arith, ap first_two e))

-- ---- entries and journals

entry_grouped : (n a x : List ℕ) → (n ++ (codes " " ++ (a ++ codes "\n"))) ++ x ≡ n ++ (codes " " ++ (a ++ (10 ∷ x)))
entry_grouped n a x = simp append_assoc

-- equal texts that begin with an entry begin with the same entry
pub entries_parted : (d f : Entry) (x y : List ℕ) → is_readable_act d.act ≡ true → is_readable_act f.act ≡ true → (d.task < 2 ^ 32) × ActFits d.act → (f.task < 2 ^ 32) × ActFits f.act → entry_text d ++ x ≡ entry_text f ++ y → (d ≡ f) × (x ≡ y)
entries_parted d f x y hd hf gd gf e =
    let grouped : decimal d.task ++ (codes " " ++ (act_text d.act ++ (10 ∷ x))) ≡ decimal f.task ++ (codes " " ++ (act_text f.act ++ (10 ∷ y))) = sym (entry_grouped (decimal d.task) (act_text d.act) x) ∙ (e ∙ entry_grouped (decimal f.task) (act_text f.act) y) in
    let tasks = decimals_parted d.task f.task (codes " " ++ (act_text d.act ++ (10 ∷ x))) (codes " " ++ (act_text f.act ++ (10 ∷ y))) (omega arith) (omega arith) refl refl grouped in
    let acts = acts_parted d.act f.act x y hd hf gd.1 gf.1 (append_cancel_left (codes " ") _ _ tasks.1) in
    (λ i. record { task = tasks.0 i; act = acts.0 i }, acts.1)

not_nothing : (a : List ℕ) (c : ℕ) (x : List ℕ) → a ++ (c ∷ x) ≡ [] → ⊥
not_nothing [] c x e = cc
not_nothing (d ∷ a) c x e = cc

pub entry_is_some : (d : Entry) (x : List ℕ) → entry_text d ++ x ≡ [] → ⊥
entry_is_some d x e = not_nothing (decimal d.task) 32 (act_text d.act ++ (10 ∷ x)) (sym (entry_grouped (decimal d.task) (act_text d.act) x) ∙ e)

-- no two journals have one text
pub has_one_journal : HasOneJournal
has_one_journal [] [] hd hf gd gf e = refl
has_one_journal [] (f ∷ fs) hd hf gd gf e = absurd (entry_is_some f (journal_text fs) (sym e))
has_one_journal (d ∷ ds) [] hd hf gd gf e = absurd (entry_is_some d (journal_text ds) e)
has_one_journal (d ∷ ds) (f ∷ fs) hd hf gd gf e =
    let first = entries_parted d f (journal_text ds) (journal_text fs) hd.0 hf.0 gd.0 gf.0 e in
    let head : d ≡ f = first.0 in
    let tail : ds ≡ fs = has_one_journal ds fs hd.1 hf.1 gd.1 gf.1 first.1 in
    cc
