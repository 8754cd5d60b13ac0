-- What an attribute holds, by its form.
use Rattle.std.proofs.Common.{◌≡◌, ℕ, List, Option, Some, Result, sym, ap, subst, ◌∙◌}
use Rattle.kilim_class_grammar.specs.Reader.{ReadsUnless}
use Rattle.kilim_class_pool.specs.declared.entry.Entry.{Entry}
use Rattle.kilim_class_attributes.specs.declared.parts.fault.AttributeFault.{AttributeFault}
use Rattle.kilim_class_attributes.specs.declared.parts.fault.AttributeFault.TheVariants as fault
use Rattle.kilim_class_attributes.specs.declared.parts.name.AttributeName.{AttributeName}
use Rattle.kilim_class_attributes.specs.declared.attribute.Info.{Info}
use Rattle.kilim_class_attributes.specs.Attributes.{info_of}

-- `read` is what is read in a form: it is asked for at the form of this attribute
pub by_form : (pool : List Entry) (bytes : List ℕ) (found : Result Info AttributeFault) (asked : Option AttributeName) (form name : AttributeName) (read : AttributeName → Result Info AttributeFault)
    → asked ≡ Some form → form ≡ name → read name ≡ info_of pool (Some name) bytes
    → ReadsUnless fault.Memory (λ x. x) found (read form) → ReadsUnless fault.Memory (λ x. x) found (info_of pool asked bytes)
by_form pool bytes found asked form name read is named same reads =
    let there : read form ≡ info_of pool asked bytes =
    ap read named ∙ (same ∙ ap (λ (o : Option AttributeName). info_of pool o bytes) (sym (is ∙ ap (λ (n : AttributeName). Some n) named))) in
    subst (λ (r : Result Info AttributeFault). ReadsUnless fault.Memory (λ x. x) found r) there reads
