-- When two signatures are one.
use Rattle.std.proofs.Common.{◌≡◌, Bool, true, false, List, ℕ, refl, ap, ◌∙◌, rules}
use Rattle.std.specs.Prelude.{◌&&◌}
use Rattle.std.specs.Ordering.{is_eq, nat_cmp, ordering_then}
use Rattle.std.specs.declared.cmp.Ordering.{Ordering}
use Rattle.std.specs.declared.cmp.Ordering.TheVariants.{Less, Equal, Greater}
use Rattle.std.specs.Cmp.Lexicographic.{slice_cmp}
use Rattle.std.specs.Str.{bytes_eq}
use Rattle.std.proofs.lemmas.Map.Text.{is_eq-slice_cmp}
use Rattle.std.proofs.lemmas.Slice.Eq.{bytes_eq-Decides}
use Rattle.std.proofs.lemmas.Bool.{and_parts}
use Rattle.kilim_lemmas.proofs.Orders.{both_eq}
use Rattle.kilim_link_inherited.specs.declared.signature.Signature.{Signature}
use Rattle.kilim_link_inherited.specs.Index.{signature_cmp, same_signature}

pub same_is : (s q : Signature) → is_eq (signature_cmp s q) ≡ same_signature s q.name q.descriptor
same_is s q = both_eq (slice_cmp nat_cmp s.name q.name) (slice_cmp nat_cmp s.descriptor q.descriptor) ∙ rw (is_eq-slice_cmp s.name q.name, is_eq-slice_cmp s.descriptor q.descriptor) refl

pub key_is : (s : Signature) (name descriptor : List ℕ) → same_signature s name descriptor ≡ true → s ≡ record { name = name; descriptor = descriptor }
key_is s name descriptor e =
    let p = and_parts (bytes_eq s.name name) (bytes_eq s.descriptor descriptor) e in
    let n : s.name ≡ name = search (rules, bytes_eq-Decides) in
    let d : s.descriptor ≡ descriptor = search (rules, bytes_eq-Decides) in
    ap (λ (x : List ℕ). record s { name = x }) n ∙ ap (λ (x : List ℕ). record { name = name; descriptor = x }) d
