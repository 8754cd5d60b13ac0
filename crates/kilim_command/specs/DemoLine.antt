-- The line that the demo writes, of a journal (own).
use Rattle.std.specs.Prelude.{ℕ, ℤ, pos, ◌+◌, Bool, true, false, List, [], ◌∷◌, ◌++◌, codes, count_by}
use Rattle.std.specs.Fmt.{decimal, signed_decimal}
use Rattle.std.specs.Int.{int_wrapping_add, w64}
use Rattle.kilim_run_journal.specs.declared.entry.Act.{Act}
use Rattle.kilim_run_journal.specs.declared.entry.Act.TheVariants.{Put, Take, Start, Print}
use Rattle.kilim_run_journal.specs.declared.entry.Entry.{Entry}
use Rattle.kilim_run_state.specs.declared.value.Token.{Token}
use Rattle.kilim_run_state.specs.declared.value.Token.TheVariants.{Int}

abbrev pub is_start : Act → Bool
is_start (Start task shape) = true
is_start _ = false

abbrev pub is_put : Act → Bool
is_put (Put box n shape) = true
is_put _ = false

abbrev pub is_take : Act → Bool
is_take (Take box n) = true
is_take _ = false

abbrev pub is_print : Act → Bool
is_print (Print shape) = true
is_print _ = false

abbrev pub how_many : (Act → Bool) → List Entry → ℕ
how_many test journal = count_by (λ e. test e.act) journal

-- A printed int is added, as `ladd` adds (JVMS 6.5): what passes 64 bits wraps.
abbrev pub with_token : ℤ → List Token → ℤ
with_token sum (Int n ∷ []) = int_wrapping_add w64 sum n
with_token sum _ = sum

abbrev pub with_act : ℤ → Act → ℤ
with_act sum (Print shape) = with_token sum shape
with_act sum _ = sum

abbrev pub sum_from : ℤ → List Entry → ℤ
sum_from sum [] = sum
sum_from sum (e ∷ es) = sum_from (with_act sum e.act) es

-- the number of the demo, how many tasks there were, and how many puts
unfoldable pub front_of : (number tasks puts : ℕ) → List ℕ
front_of number tasks puts = codes "demo " ++ (decimal number ++ (codes " tasks " ++ (decimal tasks ++ (codes " puts " ++ decimal puts))))

-- how many takes there were, how many prints, and the sum of the printed ints
unfoldable pub back_of : (takes prints : ℕ) (sum : ℤ) → List ℕ
back_of takes prints sum = codes " takes " ++ (decimal takes ++ (codes " prints " ++ (decimal prints ++ (codes " sum " ++ (signed_decimal sum ++ codes "\n")))))

-- there is one task more than starts
unfoldable pub demo_line : ℕ → List Entry → List ℕ
demo_line number journal = front_of number (how_many is_start journal + 1) (how_many is_put journal) ++ back_of (how_many is_take journal) (how_many is_print journal) (sum_from (pos 0) journal)
