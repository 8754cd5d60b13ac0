-- What is so of the constructors of each class of exceptions and of `getMessage`, is so of all their methods; and what a table of classes
-- says of each.
use Rattle.std.proofs.Common.{◌≡◌, ℕ, zero, suc, ◌+◌, Bool, true, false, ◌||◌, List, [], ◌∷◌, ◌++◌, slice_get, Some, codes, refl, sym, ap, ◌∙◌, arith}
use Rattle.std.specs.List.{list_all, list_any, AllByRecursion}
use Rattle.std.specs.Str.{bytes_eq}
use Rattle.std.proofs.lemmas.Slice.Eq.{bytes_eq-Decides}
use Rattle.std.proofs.lemmas.Bool.{and_parts}
use Rattle.std.proofs.lemmas.Option.{none-some, same_Some}
use Rattle.kilim_program.specs.declared.class.Class.{Class}
use Rattle.kilim_program.specs.declared.class.Method.{Method}
use Rattle.kilim_program.specs.declared.names.ClassId.{ClassId}
use Rattle.kilim_program.specs.BuiltIn.{built_in_constructor, class_id, constructors_of, exception_methods, exception_numbers, exception_rows, get_message, is_exception, message_constructor}
use Rattle.kilim_program.specs.Keeps.{each_class_from}

constructors_too : (P : Method → Type 0) (first : ℕ) (ns : List ℕ) (rest : List Method) → ((c : ClassId) → P (built_in_constructor c)) → ((c : ClassId) → P (message_constructor first c))
    → AllByRecursion P rest → AllByRecursion P (constructors_of first ns ++ rest)
constructors_too P first [] rest each told all = all
constructors_too P first (n ∷ ns) rest each told all = (each (class_id (first + n)), (told (class_id (first + n)), constructors_too P first ns rest each told all))

pub exceptions_too : (P : Method → Type 0) (first : ℕ) (rest : List Method) → ((c : ClassId) → P (built_in_constructor c)) → ((c : ClassId) → P (message_constructor first c))
    → P (get_message first) → AllByRecursion P rest → AllByRecursion P (exception_methods first ++ rest)
exceptions_too P first rest each told message all =
    (each (class_id (first + 7)), (told (class_id (first + 7)), (message, constructors_too P first exception_numbers rest each told all)))

-- and where something is known of each of their classes
constructors_by : (P : Method → Type 0) (Q : ℕ → Type 0) (first : ℕ) (ns : List ℕ) (rest : List Method) → AllByRecursion Q ns → ((k : ℕ) → Q k → P (built_in_constructor (class_id (first + k))))
    → ((k : ℕ) → Q k → P (message_constructor first (class_id (first + k)))) → AllByRecursion P rest → AllByRecursion P (constructors_of first ns ++ rest)
constructors_by P Q first [] rest known each told all = all
constructors_by P Q first (n ∷ ns) rest known each told all = (each n known.0, (told n known.0, constructors_by P Q first ns rest known.1 each told all))

pub exceptions_by : (P : Method → Type 0) (Q : ℕ → Type 0) (first : ℕ) (rest : List Method) → AllByRecursion Q (7 ∷ exception_numbers) → ((k : ℕ) → Q k → P (built_in_constructor (class_id (first + k))))
    → ((k : ℕ) → Q k → P (message_constructor first (class_id (first + k)))) → P (get_message first) → AllByRecursion P rest → AllByRecursion P (exception_methods first ++ rest)
exceptions_by P Q first rest known each told message all = (each 7 known.0, (told 7 known.0, (message, constructors_by P Q first exception_numbers rest known.1 each told all)))

-- what is so of their names
by_rows : (test : List ℕ → Bool) (rows : List (List ℕ × ℕ)) (name : List ℕ) → list_all (λ (row : List ℕ × ℕ). test row.0) rows ≡ true → list_any (λ (row : List ℕ × ℕ). bytes_eq name row.0) rows ≡ true → test name ≡ true
by_rows test [] name all any = absurd (cc)
by_rows test (row ∷ rows) name all any =
    let parts = and_parts (test row.0) (list_all (λ (row : List ℕ × ℕ). test row.0) rows) all in
    by (bytes_eq name row.0) refl any parts.0 (by_rows test rows name parts.1)
  where
    by : (z : Bool) → bytes_eq name row.0 ≡ z → (z || list_any (λ (row : List ℕ × ℕ). bytes_eq name row.0) rows) ≡ true → test row.0 ≡ true → (list_any (λ (row : List ℕ × ℕ). bytes_eq name row.0) rows ≡ true → test name ≡ true) → test name ≡ true
    by true is any passes again = ap test ((bytes_eq-Decides name row.0).0 is) ∙ passes
    by false is any passes again = again any

pub exception_name : (test : List ℕ → Bool) (name : List ℕ) → test (codes "java/lang/Throwable") ≡ true → list_all (λ (row : List ℕ × ℕ). test row.0) exception_rows ≡ true → is_exception name ≡ true → test name ≡ true
exception_name test name first all is = by (bytes_eq name (codes "java/lang/Throwable")) refl is
  where
    by : (z : Bool) → bytes_eq name (codes "java/lang/Throwable") ≡ z → (z || list_any (λ (row : List ℕ × ℕ). bytes_eq name row.0) exception_rows) ≡ true → test name ≡ true
    by true e any = ap test ((bytes_eq-Decides name (codes "java/lang/Throwable")).0 e) ∙ first
    by false e any = by_rows test exception_rows name all any

pub each_class_at : (test : ClassId → Class → Bool) (n : ℕ) (classes : List Class) → each_class_from test n classes ≡ true → (k : ℕ) (class : Class) → slice_get classes k ≡ Some class → test (class_id (n + k)) class ≡ true
each_class_at test n [] all k class there = absurd (none-some class there)
each_class_at test n (other ∷ classes) all zero class there =
    let number : n + 0 ≡ n = omega arith in
    ap (λ (m : ℕ). test (class_id m) class) number ∙ (ap (test (class_id n)) (sym (same_Some other class there)) ∙ (and_parts (test (class_id n) other) (each_class_from test (suc n) classes) all).0)
each_class_at test n (other ∷ classes) all (suc k) class there =
    let number : n + suc k ≡ suc n + k = omega arith in
    ap (λ (m : ℕ). test (class_id m) class) number ∙ each_class_at test (suc n) classes (and_parts (test (class_id n) other) (each_class_from test (suc n) classes) all).1 k class there
