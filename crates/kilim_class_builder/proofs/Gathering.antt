-- Attributes put one behind the other are the attributes of a method.
use Rattle.std.proofs.Common.{◌≡◌, ℕ, List, [], ◌++◌, Option, Result, Ok, Err, refl, sym, ap, ◌∙◌, append_assoc}
use Rattle.std.specs.Prelude.{string_bytes}
use Rattle.kilim_class_attributes.specs.declared.attribute.Attribute.{Attribute}
use Rattle.kilim_class_file.specs.declared.class_file.MemberInfo.{MemberInfo}
use Rattle.kilim_class_pool.specs.declared.entry.Entry.{Entry}
use Rattle.kilim_class_pool.specs.declared.fault.AddFault.{AddFault}
use Rattle.kilim_class_grammar.specs.Reader.{◌>>=◌}
use Rattle.kilim_class_builder.specs.declared.source.MethodSource.{MethodSource}
use Rattle.kilim_class_builder.specs.Adding.{text_added}
use Rattle.kilim_class_builder.specs.Gathered.{appended, gathered, head_added, marks_added}
use Rattle.kilim_class_builder.specs.Members.{attributes_added, code_added, exceptions_added, listed, member, method_added, parameters_added, receiver_added, utf16_of}

-- what adding comes to
abbrev Added : Type 0 → Type 0
Added A = Result (A × List Entry) AddFault

abbrev Adder : Type 0
Adder = List Entry → Added (Option Attribute)

four : (a b c d : List Attribute) → ((a ++ b) ++ c) ++ d ≡ a ++ (b ++ (c ++ d))
four a b c d = append_assoc (a ++ b) c d ∙ append_assoc a b (c ++ d)

abbrev with_code : Adder → Added MemberInfo → Added MemberInfo
with_code code added = added >>= λ head. appended head.0.attributes (code head.1) >>= λ all. Ok (record head.0 { attributes = all.0 }, all.1)

abbrev with_all : (flags name descriptor : ℕ) → Added (List Attribute) → Added MemberInfo
with_all flags name descriptor added = added >>= λ all. Ok (member flags name descriptor all.0, all.1)

module _ (flags name descriptor : ℕ) (code : Adder) where
  fourth : (a b c : Option Attribute) (d : Added (Option Attribute)) →
      with_all flags name descriptor (appended ((listed a ++ listed b) ++ listed c) d) ≡ with_all flags name descriptor (d >>= λ x. Ok (listed a ++ (listed b ++ (listed c ++ listed x.0)), x.1))
  fourth a b c (Err e) = refl
  fourth a b c (Ok x) = ap (λ all. Ok (member flags name descriptor all, x.1)) (four (listed a) (listed b) (listed c) (listed x.0))

  third : (a b : Option Attribute) (c : Added (Option Attribute)) →
      with_code code (with_all flags name descriptor (appended (listed a ++ listed b) c)) ≡ with_all flags name descriptor (c >>= λ z. code z.1 >>= λ x. Ok (listed a ++ (listed b ++ (listed z.0 ++ listed x.0)), x.1))
  third a b (Err e) = refl
  third a b (Ok z) = fourth a b z.0 (code z.1)

  second : (a : Option Attribute) (b : Added (Option Attribute)) (c : Adder) →
      with_code code (with_all flags name descriptor (appended (listed a) b >>= λ y. appended y.0 (c y.1)))
      ≡ with_all flags name descriptor (b >>= λ y. c y.1 >>= λ z. code z.1 >>= λ x. Ok (listed a ++ (listed y.0 ++ (listed z.0 ++ listed x.0)), x.1))
  second a (Err e) c = refl
  second a (Ok y) c = third a y.0 (c y.1)

  first : (a : Added (Option Attribute)) (b c : Adder) →
      with_code code (with_all flags name descriptor (appended [] a >>= λ w. appended w.0 (b w.1) >>= λ y. appended y.0 (c y.1)))
      ≡ with_all flags name descriptor (a >>= λ w. b w.1 >>= λ y. c y.1 >>= λ z. code z.1 >>= λ x. Ok (listed w.0 ++ (listed y.0 ++ (listed z.0 ++ listed x.0)), x.1))
  first (Err e) b c = refl
  first (Ok w) b c = second w.0 (b w.1) c

module _ (m : MethodSource) where
  abbrev code_of : Adder
  code_of pool = code_added m.flags m.max_stack m.max_locals m.code.items m.frames.items pool

  abbrev head_of : ℕ → ℕ × List Entry → Added MemberInfo
  head_of name d = marks_added m [] d.1 >>= λ marks. Ok (member m.flags name d.0 marks.0, marks.1)

  abbrev method_of : ℕ → ℕ × List Entry → Added MemberInfo
  method_of name d = attributes_added m d.1 >>= λ all. Ok (member m.flags name d.0 all.0, all.1)

  attributes_so : (name : ℕ) (d : ℕ × List Entry) → with_code code_of (head_of name d) ≡ method_of name d
  unfolding marks_added attributes_added
  attributes_so name d = first m.flags name d.0 code_of (exceptions_added m.pausable d.1) (receiver_added m.receiver) (parameters_added m.qualifiers.items)

  described : (name : ℕ) (d : Added ℕ) → with_code code_of (d >>= head_of name) ≡ (d >>= method_of name)
  described name (Err e) = refl
  described name (Ok d) = attributes_so name d

  named : (n : Added ℕ) → with_code code_of (n >>= λ x. text_added (utf16_of (string_bytes m.descriptor)) x.1 >>= head_of x.0)
      ≡ (n >>= λ x. text_added (utf16_of (string_bytes m.descriptor)) x.1 >>= method_of x.0)
  named (Err e) = refl
  named (Ok x) = described x.0 (text_added (utf16_of (string_bytes m.descriptor)) x.1)

pub as_gathered : (m : MethodSource) (pool : List Entry) → method_added m pool ≡ gathered m pool
unfolding method_added gathered head_added
as_gathered m pool = sym (named m (text_added (utf16_of (string_bytes m.name)) pool))
