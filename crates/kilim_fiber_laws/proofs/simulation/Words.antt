-- What is raised for a cause is of a class with which a task ends by that cause, also where it was thrown on.
use Rattle.std.proofs.Common.{◌≡◌, inl, inr, ℕ, suc, ◌+◌, Bool, true, false, List, [], ◌∷◌, Option, Some, None, refl, sym, ap, ◌∙◌, arith}
use Rattle.std.specs.Prelude.{codes, if◌then◌else◌, slice_get}
use Rattle.std.specs.Str.{bytes_eq}
use Rattle.std.proofs.lemmas.Option.{none-some, same_Some}
use Rattle.kilim_lemmas.proofs.Texts.{text_is}
use Rattle.kilim_program.specs.declared.class.Class.{Class}
use Rattle.kilim_program.specs.declared.names.ClassId.{ClassId}
use Rattle.kilim_program.specs.Names.{class_from, class_name, class_named}
use Rattle.kilim_program.specs.Program.{Program}
use Rattle.kilim_run_state.specs.declared.cause.EndCause.{EndCause}
use Rattle.kilim_run_state.specs.declared.cause.EndCause.TheVariants as cause
use Rattle.kilim_run_machine.specs.Raising.{raised_class, thrown_cause, word_in, words}
use Rattle.kilim_type_sound.specs.Facts.{IsIndexName}

-- a class that is found by its name
record IsNamed (cs : List Class) (name : List ℕ) (n : ℕ) (c : ClassId) : Type 0 where
  k : ℕ
  number : c.0 ≡ n + k
  class : Class
  there : slice_get cs k ≡ Some class
  named : class.name ≡ name

named_from : (cs : List Class) (name : List ℕ) (n : ℕ) (c : ClassId) → class_from cs name n ≡ Some c → IsNamed cs name n c
named_from [] name n c e = absurd (none-some c e)
named_from (d ∷ cs) name n c e = by (bytes_eq d.name name) refl (named_from cs name (suc n) c) e
  where
    by : (b : Bool) → bytes_eq d.name name ≡ b → (class_from cs name (suc n) ≡ Some c → IsNamed cs name (suc n) c) → (if b then Some (record { 0 = n }) else class_from cs name (suc n)) ≡ Some c → IsNamed (d ∷ cs) name n c
    by true is go e =
        let first : ClassId = record { 0 = n } in
        let same : c.0 ≡ n = ap (λ (z : ClassId). z.0) (sym (same_Some first c e)) in
        record { k = 0; number = omega (arith, same); class = d; there = refl; named = text_is d.name name is }
    by false is go e =
        let r = go e in
        let number = r.number in
        record { k = suc r.k; number = omega (arith, number); class = r.class; there = r.there; named = r.named }

pub named_is : (p : Program) (name : List ℕ) (c : ClassId) → class_named p name ≡ Some c → class_name p c ≡ name
named_is p name c e =
    let r = named_from p.classes name 0 c e in
    let at : c.0 ≡ r.k = let z = r.number in omega (arith, z) in
    ap (λ (o : Option Class). elim o [ None ↦ [] | Some class ↦ class.name ]) (ap (slice_get p.classes) at ∙ r.there) ∙ r.named

-- of an index: of an array, of a text, or another
index_word : (p : Program) (name : List ℕ) → IsIndexName name → (c : ClassId) → class_named p name ≡ Some c → thrown_cause p c ≡ cause.Index
index_word p name (inl is) c e = ap (word_in words) (named_is p name c e ∙ is)
index_word p name (inr (inl is)) c e = ap (word_in words) (named_is p name c e ∙ is)
index_word p name (inr (inr is)) c e = ap (word_in words) (named_is p name c e ∙ is)

pub raised_word : (p : Program) (index : List ℕ) → IsIndexName index → (why : EndCause) (c : ClassId) → raised_class p index why ≡ Some c → thrown_cause p c ≡ why
raised_word p index is cause.Null c e = ap (word_in words) (named_is p (codes "java/lang/NullPointerException") c e)
raised_word p index is cause.Index c e = index_word p index is c e
raised_word p index is cause.Size c e = ap (word_in words) (named_is p (codes "java/lang/NegativeArraySizeException") c e)
raised_word p index is cause.Cast c e = ap (word_in words) (named_is p (codes "java/lang/ClassCastException") c e)
raised_word p index is cause.Store c e = ap (word_in words) (named_is p (codes "java/lang/ArrayStoreException") c e)
raised_word p index is cause.Zero c e = ap (word_in words) (named_is p (codes "java/lang/ArithmeticException") c e)
raised_word p index is why c e = absurd (none-some c e)
