-- What is reported of an image and its bytes.
use Rattle.std.specs.Prelude.{◌≡◌, ◌≢◌, ℕ, ◌<◌, List, length}
use Rattle.kilim_image.specs.Journal.{ImageFits, IsImageFault}
use Rattle.kilim_image.specs.Text.{image_limit, image_text}
use Rattle.kilim_image.specs.declared.fault.ImageFault.{ImageFault}
use Rattle.kilim_image.specs.declared.fault.ImageFault.TheVariants as fault
use Rattle.kilim_image.specs.declared.image.Run.{Run}
use Rattle.kilim_run_journal.specs.Text.{journal_text}
use Rattle.kilim_run_journal.specs.declared.entry.Entry.{Entry}
use Rattle.kilim_image_command.specs.Lines.{fault_line, size_line}

-- the bytes are those of the image of a run that was stopped with that journal
pub record IsImageOf (bytes : List ℕ) (run : Run) (journal : List Entry) : Type 0 where
  pub fits : ImageFits run journal
  pub spelled : bytes ≡ image_text run (journal_text journal)

-- the bytes are no image, and this is the line of the first fault
pub record IsFaultReport (bytes report : List ℕ) : Type 0 where
  pub found : ImageFault
  pub known : found ≢ fault.Memory
  pub is : IsImageFault bytes found
  pub none : (run : Run) (journal : List Entry) → IsImageOf bytes run journal → ⊥
  pub is_text : report ≡ fault_line found

-- the image has too many bytes, and this is the line of their number
pub record IsSizeReport (run : Run) (text report : List ℕ) : Type 0 where
  pub size : ℕ
  pub is : size ≡ length (image_text run text)
  pub many : image_limit < size
  pub is_text : report ≡ size_line size
