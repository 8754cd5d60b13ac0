-- Indices both ways.
use Rattle.std.proofs.Common.{List}
use Rattle.kilim_class_grammar.specs.Spelling.{u2}
use Rattle.kilim_class_grammar.proofs.Formats.{Format, n16, passed, refitted}
use Rattle.kilim_class_pool.specs.declared.entry.Entry.{Entry}
use Rattle.kilim_class_attributes.specs.declared.parts.fault.AttributeFault.{AttributeFault}
use Rattle.kilim_class_attributes.specs.declared.parts.fault.AttributeFault.TheVariants.{BadIndex}
use Rattle.kilim_class_attributes.specs.declared.parts.index.EntryKind.{EntryKind}
use Rattle.kilim_class_attributes.specs.parts.Indices.{has_kind, index_at, IndexFits}

pub index_format : (pool : List Entry) (kind : EntryKind) (cut : AttributeFault) → Format u2 (index_at pool kind cut) (IndexFits pool kind)
unfolding index_at
index_format pool kind cut =
    refitted (passed (n16 cut) (has_kind pool kind) BadIndex) (IndexFits pool kind)
    (λ index fit. record { below = fit.0; there = fit.1 }) (λ index fit. (fit.below, fit.there))
