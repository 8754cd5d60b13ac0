-- What images come to.
use Rattle.std.specs.Prelude.{◌≡◌, ℕ, List, Result, Ok}
use Rattle.kilim_class_grammar.specs.Format.{IsBytes, Format}
use Rattle.kilim_run_journal.specs.declared.entry.Entry.{Entry}
use Rattle.kilim_run_journal.specs.Text.{journal_text}
use Rattle.kilim_image.specs.declared.image.Run.{Run}
use Rattle.kilim_image.specs.Text.{image_text, PartsFit, RunFits}
use Rattle.kilim_image.specs.Reading.{Held, image_at, read_image}
use Rattle.kilim_image.specs.Journal.{ImageFits}

-- what is read is spelled so and has a text, and what has a text is read again
pub record ImagesAreSpelled : Type 0 where
  pub takes : (bytes : List ℕ) (held : Held) → IsBytes bytes → read_image bytes ≡ Ok held → (bytes ≡ image_text held.0 held.1) × RunFits held.0 held.1
  pub again : (held : Held) → RunFits held.0 held.1 → read_image (image_text held.0 held.1) ≡ Ok held

-- the same of an image, whatever follows
abbrev pub PartsAreSpelled : Type 0
PartsAreSpelled = Format (λ (held : Held). image_text held.0 held.1) image_at (λ (held : Held). PartsFit held.0 held.1)

-- no two images have one text
abbrev pub OneImage : Type 0
OneImage = (run : Run) (journal : List Entry) (other : Run) (entries : List Entry) → ImageFits run journal → ImageFits other entries
    → image_text run (journal_text journal) ≡ image_text other (journal_text entries) → (run ≡ other) × (journal ≡ entries)
