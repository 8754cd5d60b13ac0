-- The methods at distances from a first one, one by one.
use Rattle.std.proofs.Common.{◌≡◌, ℕ, ◌+◌, ◌<◌, List, [], ◌∷◌, ◌++◌, length, take, get_or, refl, sym, ap, ◌∙◌, append_assoc, add-one}
use Rattle.std.proofs.Math.Seq.{take-suc}
use Rattle.kilim_program.specs.BuiltIn.{built_in_constructor, class_id, constructors_of, message_constructor, method_id, methods_from}
use Rattle.kilim_program.specs.declared.class.Method.{Method}

from_append : (first : ℕ) (xs : List ℕ) (n : ℕ) → methods_from first (xs ++ n ∷ []) ≡ methods_from first xs ++ method_id (first + n) ∷ []
from_append first [] n = refl
from_append first (x ∷ xs) n = ap (λ ids. method_id (first + x) ∷ ids) (from_append first xs n)

-- one more distance
pub from_more : (first : ℕ) (xs : List ℕ) (i d : ℕ) → i < length xs → methods_from first (take (i + 1) xs) ≡ methods_from first (take i xs) ++ method_id (first + get_or xs i d) ∷ []
from_more first xs i d lt = rw add-one (ap (methods_from first) (take-suc xs i d lt)) ∙ from_append first (take i xs) (get_or xs i d)

-- ---- constructors at distances from the first class

abbrev two_of : ℕ → ℕ → List Method
two_of first n = built_in_constructor (class_id (first + n)) ∷ message_constructor first (class_id (first + n)) ∷ []

constructors_behind : (first : ℕ) (ns : List ℕ) (n : ℕ) → constructors_of first (ns ++ n ∷ []) ≡ constructors_of first ns ++ two_of first n
constructors_behind first [] n = refl
constructors_behind first (k ∷ ns) n = ap (λ (ms : List Method). two_of first k ++ ms) (constructors_behind first ns n)

-- two more in a loop that appends them
pub two_constructors : (first : ℕ) (ns : List ℕ) (i d : ℕ) (before now next : List Method) → i < length ns → now ≡ before ++ constructors_of first (take i ns)
    → next ≡ now ++ built_in_constructor (class_id (first + get_or ns i d)) ∷ message_constructor first (class_id (first + get_or ns i d)) ∷ []
    → next ≡ before ++ constructors_of first (take (i + 1) ns)
two_constructors first ns i d before now next lt so_far step =
    let last : List Method = two_of first (get_or ns i d) in
    step
    ∙ (ap (λ (ms : List Method). ms ++ last) so_far
    ∙ (append_assoc before (constructors_of first (take i ns)) last
    ∙ ap (λ (ms : List Method). before ++ ms) (sym (rw add-one (ap (constructors_of first) (take-suc ns i d lt)) ∙ constructors_behind first (take i ns) (get_or ns i d)))))
