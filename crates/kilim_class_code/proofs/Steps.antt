-- Reading instruction behind instruction.
use Rattle.std.proofs.Common.{◌≡◌, ℕ, zero, suc, ◌+◌, ◌<◌, ◌≤◌, List, [], ◌∷◌, ◌++◌, length, get_or, take, drop, add-one, refl, sym, ap, subst, ◌∙◌, append_assoc, arith}
use Rattle.std.specs.Prelude.{◌≢◌}
use Rattle.std.proofs.Math.Seq.{take-suc}
use Rattle.std.proofs.lemmas.List.{append-nil, length-append, length-drop, nil_from_length}
use Rattle.kilim_class_code.specs.declared.opcodes.instr.RawInstr.{RawInstr}
use Rattle.kilim_class_code.specs.declared.opcodes.instr.RawInstr.TheVariants.{Plain}
use Rattle.kilim_class_code.specs.opcodes.Instr.{instr_text, instr_len, InstrFits}
use Rattle.kilim_class_code.specs.opcodes.Exact.{Lengths}
use Rattle.kilim_class_code.specs.Code.{Placed, placed_text, code_text, StandsFrom}
use Rattle.kilim_class_code.specs.Exact.{IsCode}
use Rattle.kilim_class_code.specs.Marks.{PlacesBelow}

pub some_len : (at : ℕ) (instr : RawInstr) → 0 < instr_len at instr
unfolding instr_len
some_len at (Plain op) = omega arith
some_len at _ = omega arith

pub stands_push : (from : ℕ) (code : List Placed) (at : ℕ) (instr : RawInstr) (next : ℕ) → StandsFrom from code at → InstrFits at instr → next ≡ at + instr_len at instr → StandsFrom from (code ++ (at, instr) ∷ []) next
unfolding StandsFrom
stands_push from [] at instr next is fits e = (sym is, subst (λ (k : ℕ). InstrFits k instr) (sym is) fits, subst (λ (k : ℕ). k + instr_len k instr ≡ next) (sym is) (sym e))
stands_push from (p ∷ code) at instr next is fits e = (is.0, is.1, stands_push (from + instr_len from p.1) code at instr next is.2 fits e)

text_push : (code : List Placed) (p : Placed) → code_text (code ++ p ∷ []) ≡ code_text code ++ placed_text p
unfolding code_text
text_push [] p = append-nil (placed_text p)
text_push (q ∷ code) p = ap (λ (bs : List ℕ). placed_text q ++ bs) (text_push code p) ∙ sym (append_assoc (placed_text q) (code_text code) (placed_text p))

-- so many instructions, and one more
pub one_more : (now next : List ℕ) (code : List Placed) (i : ℕ) (p : Placed) → i < length code → p ≡ get_or code i p → now ≡ code_text (take i code) → next ≡ now ++ placed_text p → next ≡ code_text (take (i + 1) code)
one_more now next code i p lt is so_far step =
    let front : take (i + 1) code ≡ take i code ++ p ∷ [] = rw add-one (take-suc code i p lt ∙ ap (λ (q : Placed). take i code ++ q ∷ []) (sym is)) in
    step ∙ (ap (λ (bytes : List ℕ). bytes ++ placed_text p) so_far ∙ (sym (text_push (take i code) p) ∙ ap code_text (sym front)))

pub text_more : (bytes : List ℕ) (code : List Placed) (at : ℕ) (instr : RawInstr) (next : ℕ) → bytes ≡ code_text code ++ drop at bytes → drop at bytes ≡ instr_text at instr ++ drop next bytes → bytes ≡ code_text (code ++ (at, instr) ∷ []) ++ drop next bytes
text_more bytes code at instr next e f =
    e ∙ (ap (λ (bs : List ℕ). code_text code ++ bs) f
    ∙ (sym (append_assoc (code_text code) (instr_text at instr) (drop next bytes)) ∙ ap (λ (bs : List ℕ). bs ++ drop next bytes) (sym (text_push code (at, instr)))))

pub begins : StandsFrom 0 [] 0
unfolding StandsFrom
begins = refl

pub begins_text : (bytes : List ℕ) → bytes ≡ code_text [] ++ drop 0 bytes
unfolding code_text
begins_text bytes = refl

pub some_left : (bytes : List ℕ) (at : ℕ) → at < length bytes → drop at bytes ≢ []
some_left bytes at lt e = let none : length (drop at bytes) ≡ 0 = ap length e in omega (arith, length-drop at bytes, none)

module _ (lengths : Lengths) where
  pub ends_at : (from : ℕ) (code : List Placed) (end : ℕ) → StandsFrom from code end → end ≡ from + length (code_text code)
  unfolding StandsFrom code_text
  ends_at from [] end is = omega (arith, is)
  ends_at from (p ∷ code) end is =
      let later = ends_at (from + instr_len from p.1) code end is.2 in
      let first : length (placed_text p) ≡ instr_len from p.1 = lengths p.0 p.1 ∙ ap (λ (k : ℕ). instr_len k p.1) is.0 in
      omega (arith, later, first, length-append (placed_text p) (code_text code))

  pub all_read : (bytes : List ℕ) (code : List Placed) (at : ℕ) → length bytes ≤ at → StandsFrom 0 code at → bytes ≡ code_text code ++ drop at bytes → IsCode bytes code
  all_read bytes code at le is e =
      let none : drop at bytes ≡ [] = nil_from_length (drop at bytes) (omega (arith, length-drop at bytes)) in
      let text : bytes ≡ code_text code = e ∙ (ap (λ (bs : List ℕ). code_text code ++ bs) none ∙ append-nil (code_text code)) in
      let end : at ≡ length bytes = omega (arith, ends_at 0 code at is, ap length text) in
      record { stands = subst (λ (k : ℕ). StandsFrom 0 code k) end is; text = text }

-- the places lie before the end
pub places_below : (from : ℕ) (code : List Placed) (end : ℕ) → StandsFrom from code end → PlacesBelow end code × (from ≤ end)
unfolding StandsFrom
places_below from [] end is = (tt, omega (arith, is))
places_below from (p ∷ code) end is =
    let later = places_below (from + instr_len from p.1) code end is.2 in
    ((omega (arith, is.0, later.1, some_len from p.1), later.0), omega (arith, later.1))

-- each instruction has a text at its place
fits_at : (from : ℕ) (code : List Placed) (end i : ℕ) (d : Placed) → StandsFrom from code end → i < length code → InstrFits (get_or code i d).0 (get_or code i d).1
unfolding StandsFrom
fits_at from [] end i d is lt = absurd (omega arith)
fits_at from (p ∷ code) end zero d is lt = subst (λ (k : ℕ). InstrFits k p.1) (sym is.0) is.1
fits_at from (p ∷ code) end (suc i) d is lt = fits_at (from + instr_len from p.1) code end i d is.2 (omega arith)

pub item_fits : (code : List Placed) (end i : ℕ) (p : Placed) → p ≡ get_or code i p → StandsFrom 0 code end → i < length code → InstrFits p.0 p.1
item_fits code end i p is stands lt = subst (λ (q : Placed). InstrFits q.0 q.1) (sym is) (fits_at 0 code end i p stands lt)
