-- How long old instructions are in woven code.
use Rattle.std.proofs.Common.{◌≡◌, ℕ, ℤ, true, false, List, length, refl, ap, sym, ◌∙◌}
use Rattle.kilim_program.specs.declared.instr.Instr.{Instr}
use Rattle.kilim_program.specs.declared.instr.Instr.TheVariants.{Iload, Lload, Aload, Istore, Lstore, Astore, Tableswitch, Lookupswitch}
use Rattle.kilim_weave_spec.specs.Woven.{old_size}
use Rattle.kilim_weave_pieces.specs.declared.item.Size.TheVariants.{Fixed, Lookup}
use Rattle.kilim_weave_pieces.specs.Items.{is_kept, size_of}

pub lookup_sized : (i : Instr) (default : ℕ) (pairs : List (ℤ × ℕ)) (count n : ℕ) → i ≡ Lookupswitch default pairs → count ≡ length pairs → size_of (Lookup count) ≡ old_size i n
lookup_sized i default pairs count n is e = ap (λ (k : ℕ). size_of (Lookup k)) e ∙ sym (ap (λ (j : Instr). old_size j n) is)

pub kept_sized : (i : Instr) (n : ℕ) → is_kept i ≡ true → size_of (Fixed n) ≡ old_size i n
kept_sized (Iload slot) n h = absurd (cc)
kept_sized (Lload slot) n h = absurd (cc)
kept_sized (Aload slot) n h = absurd (cc)
kept_sized (Istore slot) n h = absurd (cc)
kept_sized (Lstore slot) n h = absurd (cc)
kept_sized (Astore slot) n h = absurd (cc)
kept_sized (Tableswitch default low targets) n h = absurd (cc)
kept_sized (Lookupswitch default pairs) n h = absurd (cc)
kept_sized i n h = refl

-- no other instruction changes its length
pub none_other : (i : Instr) → is_kept i ≡ false → ((n : ℕ) → i ≡ Iload n → ⊥) → ((n : ℕ) → i ≡ Lload n → ⊥) → ((n : ℕ) → i ≡ Aload n → ⊥) → ((n : ℕ) → i ≡ Istore n → ⊥) → ((n : ℕ) → i ≡ Lstore n → ⊥) → ((n : ℕ) → i ≡ Astore n → ⊥) →
    ((d : ℕ) (l : ℤ) (ts : List ℕ) → i ≡ Tableswitch d l ts → ⊥) → ((d : ℕ) (ps : List (ℤ × ℕ)) → i ≡ Lookupswitch d ps → ⊥) → ⊥
none_other (Iload n) h a b c d e f g k = a n refl
none_other (Lload n) h a b c d e f g k = b n refl
none_other (Aload n) h a b c d e f g k = c n refl
none_other (Istore n) h a b c d e f g k = d n refl
none_other (Lstore n) h a b c d e f g k = e n refl
none_other (Astore n) h a b c d e f g k = f n refl
none_other (Tableswitch d l ts) h a b c q e f g k = g d l ts refl
none_other (Lookupswitch d ps) h a b c q e f g k = k d ps refl
none_other i h a b c d e f g k = cc
