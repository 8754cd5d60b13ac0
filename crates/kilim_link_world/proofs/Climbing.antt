-- Lines of superclasses, and which classes stand in them.
use Rattle.std.proofs.Common.{◌≡◌, ℕ, zero, suc, ◌<◌, Bool, true, false, List, [], ◌∷◌, length, map, Option, Some, None, Result, Ok, Err, refl, sym, ap, ◌∙◌, inl, inr, arith}
use Rattle.std.specs.Prelude.{◌==◌, ◌||◌, ◌++◌, codes, IfOk, if◌then◌else◌, is_some, option_map, slice_get, unwrap_or}
use Rattle.std.specs.List.{list_any}
use Rattle.std.specs.Str.{bytes_eq}
use Rattle.std.proofs.lemmas.Bool.{cases_Bool, cases_lt, eqb-true}
use Rattle.std.proofs.lemmas.List.{length-map}
use Rattle.std.proofs.lemmas.Option.{slice_get-map, slice_get_past, slice_get_within}
use Rattle.kilim_lemmas.proofs.Lists.{any_same}
use Rattle.kilim_program.specs.declared.class.Class.{Class}
use Rattle.kilim_program.specs.declared.names.ClassId.{ClassId}
use Rattle.kilim_program.specs.Keeps.{superclass_of}
use Rattle.kilim_program.specs.Kinds.{is_marked}
use Rattle.kilim_program.specs.Names.{class_at, line_of, line_up_to}
use Rattle.kilim_program.specs.Program.{Program}
use Rattle.kilim_link_inherited.specs.declared.entry.Entry.{Entry}
use Rattle.kilim_link_inherited.specs.Trees.{Forest}
use Rattle.kilim_link_inherited.specs.Inherited.{inherited, line_in, line_up, said_at, said_of, said_or, up_in}
use Rattle.kilim_link_inherited.specs.Roots.{inherits, IsRight}
use Rattle.kilim_link_world.specs.Agrees.{each_below}
use Rattle.kilim_link_world.specs.Outlining.{mark_at}
use Rattle.kilim_link_world.specs.Superclasses.{AreSuperclasses, mark_entries, own_key}
use Rattle.kilim_link_world.proofs.Below.{get_below, length_below}
use Rattle.kilim_link_world.proofs.Upward.{line_rest, rest_is}

-- ---- the superclass of each class

up_of : (o : Option Class) → unwrap_or (option_map (λ class. class.superclass) o) None ≡ superclass_of o
up_of None = refl
up_of (Some class) = refl

module _ (p : Program) (ups : List (Option ClassId)) (are : (c : ClassId) → up_in ups c ≡ superclass_of (class_at p c)) where
  goes_on : (n : ℕ) → ((up : ClassId) → line_up ups n up ≡ line_up_to p n up) → (o : Option ClassId) → elim o [ None ↦ [] | Some up ↦ line_up ups n up ] ≡ line_rest p n o
  goes_on n same None = refl
  goes_on n same (Some up) = same up

  same_line : (n : ℕ) (c : ClassId) → line_up ups n c ≡ line_up_to p n c
  same_line zero c = refl
  same_line (suc n) c =
      ap (λ (ds : List ClassId). c ∷ ds) (goes_on n (same_line n) (up_in ups c) ∙ (ap (line_rest p n) (are c) ∙ sym (rest_is p n (class_at p c))))

pub superclasses_are : (p : Program) (ups : List (Option ClassId)) → ups ≡ map (λ class. class.superclass) p.classes → AreSuperclasses p ups
superclasses_are p ups is =
    let up_is : (c : ClassId) → up_in ups c ≡ superclass_of (class_at p c) =
    λ c. ap (λ (us : List (Option ClassId)). up_in us c) is ∙ (ap (λ (o : Option (Option ClassId)). unwrap_or o None) (slice_get-map (λ class. class.superclass) p.classes c.0) ∙ up_of (class_at p c)) in
    let len : length ups ≡ length p.classes = ap length is ∙ length-map p.classes (λ class. class.superclass) in
    record {
      one_each = len;
      up_is = up_is;
      line_is = λ c. ap (λ (n : ℕ). line_up ups n c) len ∙ same_line p ups up_is (length p.classes) c;
    }

pub superclasses_ok : {E : Type 0} (p : Program) (result : Result (List (Option ClassId)) E) → IfOk result (λ ups. ups ≡ map (λ class. class.superclass) p.classes) → IfOk result (λ ups. AreSuperclasses p ups)
superclasses_ok p (Ok ups) is = superclasses_are p ups is
superclasses_ok p (Err fault) is = tt

there : (classes : List Class) (k : ℕ) (up : ClassId) (o : Option Class) → slice_get classes k ≡ o → superclass_of o ≡ Some up → k < length classes
there classes k up None is has = absurd cc
there classes k up (Some class) is has = slice_get_within classes k class is

-- a class that has a superclass is there
pub class_within : (p : Program) (c up : ClassId) → superclass_of (class_at p c) ≡ Some up → c.0 < length p.classes
class_within p c up has = there p.classes c.0 up (class_at p c) refl has

-- ---- whether any class of a line passes a test, where those say something that do

by_test : (passes : Bool) (later : Option ℕ) (any : Bool) → is_some later ≡ any → is_some (said_or (if passes then Some (Some 0) else None) later) ≡ (passes || any)
by_test true later any same = refl
by_test false later any same = same

pub any_says : (test : ClassId → Bool) (entries : List (List Entry)) (k : ℕ) → ((c : ClassId) → said_at entries k c ≡ (if test c then Some (Some 0) else None)) → (line : List ClassId) → is_some (inherited entries k line) ≡ list_any test line
any_says test entries k says [] = refl
any_says test entries k says (c ∷ line) =
    ap (λ (o : Option (Option ℕ)). is_some (said_or o (inherited entries k line))) (says c)
    ∙ by_test (test c) (inherited entries k line) (list_any test line) (any_says test entries k says line)

-- ---- where classes say that they are marked

mark_said : (o : Option Bool) → said_of (option_map mark_entries o) 0 ≡ (if unwrap_or o false then Some (Some 0) else None)
mark_said None = refl
mark_said (Some true) = refl
mark_said (Some false) = refl

pub marks_are : (own : List Bool) (ups : List (Option ClassId)) (it : Forest) → IsRight ups (map mark_entries own) it → (c : ClassId) → is_some (inherits it c 0) ≡ list_any (mark_at own) (line_in ups c)
marks_are own ups it right c =
    ap (λ (o : Option ℕ). is_some o) (right.inherited_is c 0)
    ∙ any_says (mark_at own) (map mark_entries own) 0 (λ d. ap (λ (o : Option (List Entry)). said_of o 0) (slice_get-map mark_entries own d.0) ∙ mark_said (slice_get own d.0)) (line_in ups c)

pub same_below : {A : Type 0} (f g : ℕ → A) → ((k : ℕ) → f k ≡ g k) → (n : ℕ) → each_below f n ≡ each_below g n
same_below f g same zero = refl
same_below f g same (suc n) = ap (λ xs. xs ++ f n ∷ []) (same_below f g same n) ∙ ap (λ x. each_below g n ++ x ∷ []) (same n)

-- what holds of a class by its record passes down a line of superclasses as the marks do
pub passed_down : (p : Program) (of_one : Class → Bool) (test : ClassId → Bool) → ((c : ClassId) → unwrap_or (option_map of_one (class_at p c)) false ≡ test c) → (own : List Bool) → own ≡ map of_one p.classes → (c : ClassId)
    → list_any (mark_at own) (line_in (map (λ class. class.superclass) p.classes) c) ≡ list_any test (line_of p c)
passed_down p of_one test tests own is c =
    let ups : List (Option ClassId) = map (λ class. class.superclass) p.classes in
    let are = superclasses_are p ups refl in
    any_same (mark_at own) test (λ d. ap (λ (ms : List Bool). mark_at ms d) is ∙ (ap (λ (o : Option Bool). unwrap_or o false) (slice_get-map of_one p.classes d.0) ∙ tests d)) (line_in ups c)
    ∙ ap (list_any test) (are.line_is c)

pub for_each : {A B E : Type 0} (result : Result A E) (x : A) (make : B → A) → ((b : B) → x ≡ make b) → IfOk result (λ found. found ≡ x) → IfOk result (λ found. (b : B) → found ≡ make b)
for_each (Ok found) x make same is = λ b. is ∙ same b
for_each (Err fault) x make same is = tt

pub task_named : (o : Option Class) → unwrap_or (option_map (λ class. bytes_eq class.name (codes "kilim/Task")) o) false ≡ bytes_eq (elim o [ None ↦ [] | Some class ↦ class.name ]) (codes "kilim/Task")
task_named None = refl
task_named (Some class) = refl

pub message_marked : (o : Option Class) → unwrap_or (option_map (λ class. class.message) o) false ≡ is_marked o
message_marked None = refl
message_marked (Some class) = refl

-- ---- where each class says its own number

own_said : (count k : ℕ) (c : ClassId) → k < count → said_at (each_below own_key count) k c ≡ (if c.0 == k then Some (Some 0) else None)
own_said count k c lt =
    elim (cases_lt c.0 count) [
      | inl within ↦ ap (λ (o : Option (List Entry)). said_of o k) (get_below own_key count c.0 within)
      | inr past ↦
          let out : slice_get (each_below own_key count) c.0 ≡ None = slice_get_past (each_below own_key count) c.0 (let len = length_below own_key count in omega arith) in
          let isnt : (c.0 == k) ≡ false =
          elim (cases_Bool (c.0 == k)) [
            | inl is ↦ (let same : c.0 ≡ k = eqb-true c.0 k is in absurd (omega arith))
            | inr isnt ↦ isnt
          ] in
          ap (λ (o : Option (List Entry)). said_of o k) out ∙ sym (ap (λ (b : Bool). if b then Some (Some 0) else None) isnt)
    ]

pub lineages_are : (p : Program) (ups : List (Option ClassId)) (it : Forest) (count : ℕ) → AreSuperclasses p ups → IsRight ups (each_below own_key count) it → (c : ClassId) (k : ℕ) → k < count → is_some (inherits it c k) ≡ list_any (λ d. d.0 == k) (line_of p c)
lineages_are p ups it count are right c k lt =
    ap (λ (o : Option ℕ). is_some o) (right.inherited_is c k)
    ∙ (any_says (λ d. d.0 == k) (each_below own_key count) k (λ d. own_said count k d lt) _
    ∙ ap (list_any (λ d. d.0 == k)) (are.line_is c))
