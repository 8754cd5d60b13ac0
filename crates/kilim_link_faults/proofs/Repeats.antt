-- Members that were met before.
use Rattle.std.proofs.Common.{◌≡◌, ℕ, ◌+◌, ◌<◌, Bool, true, false, List, ◌∷◌, length, get_or, take, drop, reverse, Option, Some, refl, sym, ap, ◌∙◌, rules, arith}
use Rattle.std.specs.Prelude.{◌&&◌}
use Rattle.std.specs.Ordering.{is_eq, nat_cmp, ordering_then}
use Rattle.std.specs.declared.cmp.Ordering.{Ordering}
use Rattle.std.specs.declared.cmp.Ordering.TheVariants.{Less, Equal, Greater}
use Rattle.std.specs.Cmp.Lexicographic.{slice_cmp}
use Rattle.std.specs.List.{list_any}
use Rattle.std.specs.Str.{bytes_eq}
use Rattle.std.proofs.lemmas.Map.Text.{is_eq-slice_cmp}
use Rattle.std.proofs.lemmas.Slice.Eq.{bytes_eq-Decides}
use Rattle.std.proofs.lemmas.Bool.{and_parts}
use Rattle.kilim_lemmas.proofs.Texts.{text_turned}
use Rattle.kilim_lemmas.proofs.Lists.{drop_at}
use Rattle.kilim_lemmas.proofs.Orders.{both_eq}
use Rattle.kilim_class_file.specs.declared.class_file.ClassFile.{ClassFile}
use Rattle.kilim_class_file.specs.declared.class_file.MemberInfo.{MemberInfo}
use Rattle.kilim_link_spec.specs.World.{member_name, member_descriptor}
use Rattle.kilim_link_spec.specs.Faults.{repeated, same_member}
use Rattle.kilim_link_spec.specs.Linked.{first_of}
use Rattle.kilim_link_inherited.specs.declared.signature.Signature.{Signature}
use Rattle.kilim_link_inherited.specs.Index.{signature_cmp, same_signature}
use Rattle.kilim_link_faults.specs.Seen.{met_in}
use Rattle.kilim_link_faults.proofs.Firsts.{reverse_at}

pub same_is : (s q : Signature) → is_eq (signature_cmp s q) ≡ same_signature s q.name q.descriptor
same_is s q = both_eq (slice_cmp nat_cmp s.name q.name) (slice_cmp nat_cmp s.descriptor q.descriptor) ∙ rw (is_eq-slice_cmp s.name q.name, is_eq-slice_cmp s.descriptor q.descriptor) refl

pub key_is : (s : Signature) (name descriptor : List ℕ) → same_signature s name descriptor ≡ true → s ≡ record { name = name; descriptor = descriptor }
key_is s name descriptor e =
    let p = and_parts (bytes_eq s.name name) (bytes_eq s.descriptor descriptor) e in
    let n : s.name ≡ name = search (rules, bytes_eq-Decides) in
    let d : s.descriptor ≡ descriptor = search (rules, bytes_eq-Decides) in
    ap (λ (x : List ℕ). record s { name = x }) n ∙ ap (λ (x : List ℕ). record { name = name; descriptor = x }) d

pub turned_is : (s : Signature) (name descriptor : List ℕ) → (bytes_eq name s.name && bytes_eq descriptor s.descriptor) ≡ same_signature s name descriptor
turned_is s name descriptor = ap (λ (b : Bool). b && bytes_eq descriptor s.descriptor) (text_turned name s.name) ∙ ap (λ (b : Bool). bytes_eq s.name name && b) (text_turned descriptor s.descriptor)

module _ (file : ClassFile) (ms : List MemberInfo) (i : ℕ) (x : MemberInfo) (r : Option MemberInfo) (b : Bool) (lt : i < length ms) (is : x ≡ get_or ms i x)
    (so_far : first_of (repeated (same_member file) (reverse (take i ms)) (drop i ms)) ≡ r) (answers : b ≡ met_in file (reverse (take i ms)) (member_name file x) (member_descriptor file x)) where
  abbrev front : List MemberInfo
  front = reverse (take i ms)

  unrolled : first_of (repeated (same_member file) front (x ∷ drop (i + 1) ms)) ≡ r
  unrolled = ap (λ xs. first_of (repeated (same_member file) front xs)) (sym (drop_at ms i x lt is)) ∙ so_far

  again : list_any (same_member file x) front ≡ true → first_of (repeated (same_member file) front (x ∷ drop (i + 1) ms)) ≡ Some x
  again t = rw t refl

  fresh : list_any (same_member file x) front ≡ false → first_of (repeated (same_member file) front (x ∷ drop (i + 1) ms)) ≡ first_of (repeated (same_member file) (x ∷ front) (drop (i + 1) ms))
  fresh t = rw t refl

  pub found_again : b ≡ true → Some x ≡ r
  found_again t = sym (again (sym answers ∙ t)) ∙ unrolled

  pub is_fresh : b ≡ false → first_of (repeated (same_member file) (reverse (take (i + 1) ms)) (drop (i + 1) ms)) ≡ r
  is_fresh t = ap (λ xs. first_of (repeated (same_member file) xs (drop (i + 1) ms))) (reverse_at ms i x lt is) ∙ (sym (fresh (sym answers ∙ t)) ∙ unrolled)
