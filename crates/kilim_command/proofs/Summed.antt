-- Entries counted and summed one after the other.
use Rattle.std.proofs.Common.{◌≡◌, ℕ, ℤ, ◌+◌, ◌<◌, List, ◌++◌, length, drop, get_or, sym, ap, ◌∙◌}
use Rattle.kilim_lemmas.proofs.Lists.{drop_at}
use Rattle.kilim_run_journal.specs.declared.entry.Entry.{Entry}
use Rattle.std.specs.Prelude.{pos}
use Rattle.kilim_command.specs.declared.line.Kind.TheVariants as kind
use Rattle.kilim_command.specs.Kinds.{is_of}
use Rattle.kilim_command.specs.DemoLine.{back_of, demo_line, front_of, how_many, is_print, is_put, is_start, is_take, sum_from, with_act}

-- the line, by what was counted
pub line_is : (number tasks puts takes prints : ℕ) (sum : ℤ) (journal : List Entry) (front back text : List ℕ) → tasks ≡ how_many is_start journal + 1 → puts ≡ how_many (is_of kind.Put) journal → takes ≡ how_many (is_of kind.Take) journal →
    prints ≡ how_many (is_of kind.Print) journal → sum ≡ sum_from (pos 0) journal → front ≡ front_of number tasks puts → back ≡ back_of takes prints sum → text ≡ front ++ back → text ≡ demo_line number journal
unfolding demo_line
line_is number tasks puts takes prints sum journal front back text a b c d e f g h =
    h
    ∙ (ap (λ (x : List ℕ). x ++ back) (f ∙ (ap (λ (n : ℕ). front_of number n puts) a ∙ ap (λ (n : ℕ). front_of number (how_many is_start journal + 1) n) b))
    ∙ ap (λ (x : List ℕ). front_of number (how_many is_start journal + 1) (how_many is_put journal) ++ x)
    (g ∙ (ap (λ (n : ℕ). back_of n prints sum) c ∙ (ap (λ (n : ℕ). back_of (how_many is_take journal) n sum) d ∙ ap (λ (z : ℤ). back_of (how_many is_take journal) (how_many is_print journal) z) e))))
