-- Words that are owned, and their bytes.
use Rattle.std.proofs.Common.{◌≡◌, ℕ, ℤ, suc, Bool, ◌&&◌, nat_lt, nat_le, List, [], ◌∷◌, ◌++◌, Option, Some, None, true, false, cond, ◌+◌, ◌<◌, zero, slice_index_or, refl, sym, ap, subst, ◌∙◌, length, map, take, drop, append_assoc, arith}
use Rattle.std.specs.Prelude.{codes}
use Rattle.std.specs.List.{list_all}
use Rattle.kilim_command.specs.declared.grammar.options.Values.{Values}
use Rattle.kilim_command.specs.grammar.Numbers.{int_by}
use Rattle.kilim_command.specs.grammar.Parts.{Tells, numbers_or}
use Rattle.kilim_command.specs.grammar.Words.{Request, are_files, args_in, default_steps, demo_request, demo_with, entries_option, file_in, image_option, is_demo_option, is_file, is_option, is_replay_option, is_resume_option, is_save_option, is_weave_option, journal_option, main_option, most_entries, most_number, most_steps, most_workers, number_of, number_option, number_or, replay_of, replay_with, resume_request, resume_with, run_of, run_with, save_of, save_with, steps_option, text_in, to_option, value_behind, value_or, values_of, weave_of, weave_with, with_first, ints_of, workers_option}

pub all_map : {A B : Type 0} (f : A → B) (test : B → Bool) (xs : List A) → list_all (λ x. test (f x)) xs ≡ list_all test (map f xs)
all_map f test [] = refl
all_map f test (x ∷ xs) = ap (λ b. test (f x) && b) (all_map f test xs)

pub length_map : {A B : Type 0} (f : A → B) (xs : List A) → length (map f xs) ≡ length xs
length_map f [] = refl
length_map f (x ∷ xs) = ap suc (length_map f xs)

-- the words that name files, as the code tests them
pub are_words : {A : Type 0} (f : A → List ℕ) (xs : List A) → (nat_lt 0 (length xs) && (nat_le (length xs) 1000 && list_all (λ x. is_file (f x)) xs)) ≡ are_files (map f xs)
are_words f xs =
    ap (λ (n : ℕ). nat_lt 0 n && (nat_le n 1000 && list_all (λ x. is_file (f x)) xs)) (sym (length_map f xs))
    ∙ ap (λ (b : Bool). nat_lt 0 (length (map f xs)) && (nat_le (length (map f xs)) 1000 && b)) (all_map f is_file xs)

-- numbers that were read, before those behind them
abbrev pub behind_ints : List ℤ → Option (List ℤ) → Option (List ℤ)
behind_ints done None = None
behind_ints done (Some others) = Some (done ++ others)

-- ---- the values of an option, word by word

values_more : (front : List ℕ) (ws : List (List ℕ)) (w : List ℕ) → values_of front (ws ++ w ∷ []) ≡ values_of front ws ++ value_or (value_behind front w) []
values_more front [] w = refl
values_more front (v ∷ ws) w = by (value_behind front v) (values_more front ws w)
  where
    by : (o : Option (List ℕ)) → values_of front (ws ++ w ∷ []) ≡ values_of front ws ++ value_or (value_behind front w) [] → value_or o (values_of front (ws ++ w ∷ [])) ≡ value_or o (values_of front ws) ++ value_or (value_behind front w) []
    by None e = e
    by (Some x) e = ap (λ (vs : List (List ℕ)). x ∷ vs) e

take_map : {A B : Type 0} (f : A → B) (xs : List A) (i : ℕ) (x : A) → x ≡ slice_index_or xs i x → i < length xs → map f (take (i + 1) xs) ≡ map f (take i xs) ++ f x ∷ []
take_map f [] i x is lt = absurd (omega (arith, lt))
take_map {A} {B} f (y ∷ xs) zero x is lt = ap (λ (z : A). f z ∷ []) (sym is)
take_map {A} {B} f (y ∷ xs) (suc i) x is lt = ap (λ (n : ℕ). map f (take n (y ∷ xs))) (let n : suc i + 1 ≡ suc (i + 1) = omega arith in n) ∙ ap (λ (zs : List B). f y ∷ zs) (take_map f xs i x is (omega (arith, lt)))

pub values_on : {A : Type 0} (f : A → List ℕ) (front : List ℕ) (ws : List A) (i : ℕ) (w : A) (bytes : List ℕ) (found next : Values) → w ≡ slice_index_or ws i w → i < length ws → bytes ≡ f w →
    ((vs : List (List ℕ)) → Tells found vs → Tells next (vs ++ value_or (value_behind front bytes) [])) → Tells found (values_of front (map f (take i ws))) → Tells next (values_of front (map f (take (i + 1) ws)))
values_on f front ws i w bytes found next is lt same step told =
    subst (λ (vs : List (List ℕ)). Tells next vs) (sym (ap (values_of front) (take_map f ws i w is lt) ∙ values_more front (map f (take i ws)) (f w)))
    (subst (λ (b : List ℕ). Tells next (values_of front (map f (take i ws)) ++ value_or (value_behind front b) [])) same (step (values_of front (map f (take i ws))) told))

-- ---- what `run` is asked

abbrev asked_run : (options files behind : List (List ℕ)) → Option Request
asked_run o f b = run_with f (text_in (values_of main_option o)) (number_or 1 most_workers (values_of workers_option o)) (number_or default_steps most_steps (values_of steps_option o)) (args_in b)

pub run_refused : (o f b : List (List ℕ)) (z : Bool) → z ≡ (list_all is_option o && are_files f) → z ≡ false → None ≡ run_of o f b
run_refused o f b z e n = sym (ap (λ (y : Bool). cond y (asked_run o f b) None) (sym e ∙ n))

pub run_taken : (o f b : List (List ℕ)) (z : Bool) (r : Option Request) → z ≡ (list_all is_option o && are_files f) → z ≡ true → r ≡ asked_run o f b → r ≡ run_of o f b
run_taken o f b z r e n s = s ∙ sym (ap (λ (y : Bool). cond y (asked_run o f b) None) (sym e ∙ n))

pub with_same : (f : List (List ℕ)) (m m' : Option (List ℕ)) (w w' s s' : Option ℕ) (a a' : Option (List ℤ)) → m ≡ m' → w ≡ w' → s ≡ s' → a ≡ a' → run_with f m w s a ≡ run_with f m' w' s' a'
with_same f m m' w w' s s' a a' p q r t =
    ap (λ (x : Option (List ℕ)). run_with f x w s a) p ∙ (ap (λ (x : Option ℕ). run_with f m' x s a) q ∙ (ap (λ (x : Option ℕ). run_with f m' w' x a) r ∙ ap (λ (x : Option (List ℤ)). run_with f m' w' s' x) t))

-- ---- what `replay` is asked

abbrev asked_replay : (options files behind : List (List ℕ)) → Option Request
asked_replay o f b = replay_with f (text_in (values_of main_option o)) (file_in (values_of journal_option o)) (number_or default_steps most_steps (values_of steps_option o)) (args_in b)

pub replay_refused : (o f b : List (List ℕ)) (z : Bool) → z ≡ (list_all is_replay_option o && are_files f) → z ≡ false → None ≡ replay_of o f b
replay_refused o f b z e n = sym (ap (λ (y : Bool). cond y (asked_replay o f b) None) (sym e ∙ n))

pub replay_taken : (o f b : List (List ℕ)) (z : Bool) (r : Option Request) → z ≡ (list_all is_replay_option o && are_files f) → z ≡ true → r ≡ asked_replay o f b → r ≡ replay_of o f b
replay_taken o f b z r e n s = s ∙ sym (ap (λ (y : Bool). cond y (asked_replay o f b) None) (sym e ∙ n))

pub replay_same : (f : List (List ℕ)) (m m' j j' : Option (List ℕ)) (s s' : Option ℕ) (a a' : Option (List ℤ)) → m ≡ m' → j ≡ j' → s ≡ s' → a ≡ a' → replay_with f m j s a ≡ replay_with f m' j' s' a'
replay_same f m m' j j' s s' a a' p q r t =
    ap (λ (x : Option (List ℕ)). replay_with f x j s a) p ∙ (ap (λ (x : Option (List ℕ)). replay_with f m' x s a) q ∙ (ap (λ (x : Option ℕ). replay_with f m' j' x a) r ∙ ap (λ (x : Option (List ℤ)). replay_with f m' j' s' x) t))

-- ---- what `save` is asked

abbrev asked_save : (options files behind : List (List ℕ)) → Option Request
asked_save o f b = save_with f (text_in (values_of main_option o)) (file_in (values_of image_option o)) (number_of most_entries (values_of entries_option o)) (number_or default_steps most_steps (values_of steps_option o)) (args_in b)

pub save_refused : (o f b : List (List ℕ)) (z : Bool) → z ≡ (list_all is_save_option o && are_files f) → z ≡ false → None ≡ save_of o f b
save_refused o f b z e n = sym (ap (λ (y : Bool). cond y (asked_save o f b) None) (sym e ∙ n))

pub save_taken : (o f b : List (List ℕ)) (z : Bool) (r : Option Request) → z ≡ (list_all is_save_option o && are_files f) → z ≡ true → r ≡ asked_save o f b → r ≡ save_of o f b
save_taken o f b z r e n s = s ∙ sym (ap (λ (y : Bool). cond y (asked_save o f b) None) (sym e ∙ n))

pub save_same : (f : List (List ℕ)) (m m' i i' : Option (List ℕ)) (k k' s s' : Option ℕ) (a a' : Option (List ℤ)) → m ≡ m' → i ≡ i' → k ≡ k' → s ≡ s' → a ≡ a' → save_with f m i k s a ≡ save_with f m' i' k' s' a'
save_same f m m' i i' k k' s s' a a' p q u r t =
    ap (λ (x : Option (List ℕ)). save_with f x i k s a) p ∙ (ap (λ (x : Option (List ℕ)). save_with f m' x k s a) q ∙
    (ap (λ (x : Option ℕ). save_with f m' i' x s a) u ∙ (ap (λ (x : Option ℕ). save_with f m' i' k' x a) r ∙ ap (λ (x : Option (List ℤ)). save_with f m' i' k' s' x) t)))

-- ---- what `resume` is asked

abbrev asked_resume : List (List ℕ) → Option Request
asked_resume ws = resume_with (file_in (values_of image_option ws)) (number_or 1 most_workers (values_of workers_option ws))

pub resume_refused : (ws : List (List ℕ)) (z : Bool) → z ≡ list_all is_resume_option ws → z ≡ false → None ≡ resume_request ws
resume_refused ws z e n = sym (ap (λ (y : Bool). cond y (asked_resume ws) None) (sym e ∙ n))

pub resume_taken : (ws : List (List ℕ)) (z : Bool) (r : Option Request) (image : Option (List ℕ)) (workers : Option ℕ) → z ≡ list_all is_resume_option ws → z ≡ true → r ≡ resume_with image workers →
    image ≡ file_in (values_of image_option ws) → workers ≡ number_or 1 most_workers (values_of workers_option ws) → r ≡ resume_request ws
resume_taken ws z r image workers e n s a b =
    s ∙ (ap (λ (x : Option (List ℕ)). resume_with x workers) a ∙ (ap (λ (x : Option ℕ). resume_with (file_in (values_of image_option ws)) x) b ∙ sym (ap (λ (y : Bool). cond y (asked_resume ws) None) (sym e ∙ n))))

-- ---- what `demo` is asked

abbrev asked_demo : List (List ℕ) → Option Request
asked_demo ws = demo_with (number_of most_number (values_of number_option ws)) (number_or 1 most_workers (values_of workers_option ws))

pub demo_refused : (ws : List (List ℕ)) (z : Bool) → z ≡ list_all is_demo_option ws → z ≡ false → None ≡ demo_request ws
demo_refused ws z e n = sym (ap (λ (y : Bool). cond y (asked_demo ws) None) (sym e ∙ n))

pub demo_taken : (ws : List (List ℕ)) (z : Bool) (r : Option Request) (number workers : Option ℕ) → z ≡ list_all is_demo_option ws → z ≡ true → r ≡ demo_with number workers →
    number ≡ number_of most_number (values_of number_option ws) → workers ≡ number_or 1 most_workers (values_of workers_option ws) → r ≡ demo_request ws
demo_taken ws z r number workers e n s a b =
    s ∙ (ap (λ (x : Option ℕ). demo_with x workers) a ∙ (ap (λ (x : Option ℕ). demo_with (number_of most_number (values_of number_option ws)) x) b ∙ sym (ap (λ (y : Bool). cond y (asked_demo ws) None) (sym e ∙ n))))

-- ---- what `weave` is asked

pub weave_refused : (o f : List (List ℕ)) (z : Bool) → z ≡ (list_all is_weave_option o && are_files f) → z ≡ false → None ≡ weave_of o f
weave_refused o f z e n = sym (ap (λ (y : Bool). cond y (weave_with f (text_in (values_of to_option o))) None) (sym e ∙ n))

pub weave_taken : (o f : List (List ℕ)) (z : Bool) (to : Option (List ℕ)) (r : Option Request) → z ≡ (list_all is_weave_option o && are_files f) → z ≡ true → to ≡ text_in (values_of to_option o) → r ≡ weave_with f to → r ≡ weave_of o f
weave_taken o f z to r e n t s =
    s ∙ (ap (weave_with f) t ∙ sym (ap (λ (y : Bool). cond y (weave_with f (text_in (values_of to_option o))) None) (sym e ∙ n)))

-- ---- the integers of words, one after the other

drop_at : {A : Type 0} (xs : List A) (i : ℕ) (x : A) → x ≡ slice_index_or xs i x → i < length xs → drop i xs ≡ x ∷ drop (i + 1) xs
drop_at [] i x is lt = absurd (omega (arith, lt))
drop_at {A} (y ∷ xs) zero x is lt = ap (λ (z : A). z ∷ xs) (sym is)
drop_at (y ∷ xs) (suc i) x is lt = drop_at xs i x is (omega (arith, lt)) ∙ ap (λ (n : ℕ). x ∷ drop n (y ∷ xs)) (let n : suc (i + 1) ≡ suc i + 1 = omega arith in n)

ints_first : {A : Type 0} (f : A → List ℕ) (xs : List A) (i : ℕ) (x : A) (bytes : List ℕ) (o : Option ℤ) → x ≡ slice_index_or xs i x → i < length xs → bytes ≡ f x → o ≡ int_by bytes (value_behind (codes "-") bytes) →
    with_first o (ints_of (map f (drop (i + 1) xs))) ≡ ints_of (map f (drop i xs))
ints_first {A} f xs i x bytes o is lt same read =
    ap (λ (p : Option ℤ). with_first p (ints_of (map f (drop (i + 1) xs)))) (read ∙ ap (λ (b : List ℕ). int_by b (value_behind (codes "-") b)) same)
    ∙ sym (ap (λ (ys : List A). ints_of (map f ys)) (drop_at xs i x is lt))

behind_more : (done : List ℤ) (n : ℤ) (rest : Option (List ℤ)) → behind_ints (done ++ n ∷ []) rest ≡ behind_ints done (with_first (Some n) rest)
behind_more done n None = refl
behind_more done n (Some ns) = ap (λ (all : List ℤ). Some all) (append_assoc done (n ∷ []) ns)

-- one integer more
pub ints_on : {A : Type 0} (f : A → List ℕ) (xs : List A) (i : ℕ) (x : A) (bytes : List ℕ) (n : ℤ) (done now : List ℤ) → x ≡ slice_index_or xs i x → i < length xs → bytes ≡ f x → Some n ≡ int_by bytes (value_behind (codes "-") bytes) → now ≡ done ++ n ∷ [] →
    behind_ints done (ints_of (map f (drop i xs))) ≡ ints_of (map f xs) → behind_ints now (ints_of (map f (drop (i + 1) xs))) ≡ ints_of (map f xs)
ints_on f xs i x bytes n done now is lt same read pushed was =
    ap (λ (ns : List ℤ). behind_ints ns (ints_of (map f (drop (i + 1) xs)))) pushed
    ∙ (behind_more done n (ints_of (map f (drop (i + 1) xs))) ∙ (ap (behind_ints done) (ints_first f xs i x bytes (Some n) is lt same read) ∙ was))

none_of : (done : List ℤ) (o all : Option (List ℤ)) → o ≡ None → behind_ints done o ≡ all → [] ≡ numbers_or all
none_of done o all none e = ap numbers_or (sym (ap (behind_ints done) none) ∙ e)

-- a word that writes none
pub ints_stop : {A : Type 0} (f : A → List ℕ) (xs : List A) (i : ℕ) (x : A) (bytes : List ℕ) (done : List ℤ) → x ≡ slice_index_or xs i x → i < length xs → bytes ≡ f x → None ≡ int_by bytes (value_behind (codes "-") bytes) →
    behind_ints done (ints_of (map f (drop i xs))) ≡ ints_of (map f xs) → [] ≡ numbers_or (ints_of (map f xs))
ints_stop f xs i x bytes done is lt same read was = none_of done (ints_of (map f (drop i xs))) (ints_of (map f xs)) (sym (ints_first f xs i x bytes None is lt same read)) was
