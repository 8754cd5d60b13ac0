-- Words of a stack with their types, in step: a long is two words for both.
use Rattle.std.proofs.Common.{◌≡◌, ℕ, Bool, true, false, List, [], ◌∷◌, ◌++◌, Result, Ok, Err, refl, sym, subst, ◌∙◌}
use Rattle.std.specs.Prelude.{not}
use Rattle.std.proofs.lemmas.Bool.{and_parts}
use Rattle.kilim_program.specs.declared.class.Method.{Method}
use Rattle.kilim_program.specs.declared.names.BoxName.{BoxName}
use Rattle.kilim_program.specs.declared.value.Value.{Value}
use Rattle.kilim_program.specs.declared.verified.VType.{VType}
use Rattle.kilim_program.specs.declared.verified.VType.TheVariants.{Top, Int, Long, Null, UninitThis, Uninit, Object}
use Rattle.kilim_program.specs.Program.{Program}
use Rattle.kilim_run_machine.specs.Effect.{Effect, is_wide, on_two_words, on_word, when, wide_or}
use Rattle.kilim_type_spec.specs.Step.{above, off, then_off}
use Rattle.kilim_type_sound.specs.Fits.{Classes, has_type, have_types, is_long_type}
use Rattle.kilim_type_sound.proofs.Steps.{wide_as}
use Rattle.kilim_new_bounds.proofs.Slots.{Mode, StackSo, slot_so}

abbrev pub Pair : BoxName → Mode → VType → Value → Type 0
Pair b m t v = (slot_so b m t v ≡ true) × (is_wide v ≡ is_long_type t)

abbrev pub Paired : BoxName → Mode → List VType → List Value → Type 0
Paired b m [] [] = Unit {0}
Paired b m [] (v ∷ vs) = ⊥
Paired b m (t ∷ ts) [] = ⊥
Paired b m (t ∷ ts) (v ∷ vs) = Pair b m t v × Paired b m ts vs

pub paired : (p : Program) (own : Method) (of : Classes) (b : BoxName) (m : Mode) (ts : List VType) (vs : List Value) → have_types p own of ts vs ≡ true → StackSo b m ts vs → Paired b m ts vs
paired p own of b m [] [] h s = tt
paired p own of b m [] (v ∷ vs) h s = s
paired p own of b m (t ∷ ts) [] h s = s
paired p own of b m (t ∷ ts) (v ∷ vs) h s =
    let hs = and_parts (has_type p own of t v) (have_types p own of ts vs) h in
    ((s.0, wide_as p own of t v hs.0), paired p own of b m ts vs hs.1 s.1)

pub unpaired : (b : BoxName) (m : Mode) (ts : List VType) (vs : List Value) → Paired b m ts vs → StackSo b m ts vs
unpaired b m [] [] s = tt
unpaired b m [] (v ∷ vs) s = s
unpaired b m (t ∷ ts) [] s = s
unpaired b m (t ∷ ts) (v ∷ vs) s = (s.0.0, unpaired b m ts vs s.1)

pub both_paired : (b : BoxName) (m : Mode) (ts us : List VType) (vs ws : List Value) → Paired b m ts vs → Paired b m us ws → Paired b m (ts ++ us) (vs ++ ws)
both_paired b m [] us [] ws s r = r
both_paired b m [] us (v ∷ vs) ws s r = absurd s
both_paired b m (t ∷ ts) us [] ws s r = absurd s
both_paired b m (t ∷ ts) us (v ∷ vs) ws s r = (s.0, both_paired b m ts us vs ws s.1 r)

long_alone : (t : VType) → is_long_type t ≡ true → t ≡ Long
long_alone Long e = refl
long_alone Top e = absurd (cc)
long_alone Int e = absurd (cc)
long_alone Null e = absurd (cc)
long_alone UninitThis e = absurd (cc)
long_alone (Uninit q) e = absurd (cc)
long_alone (Object ty) e = absurd (cc)

one_above : (t : VType) (ts : List VType) → is_long_type t ≡ false → off 1 (t ∷ ts) ≡ Ok (t ∷ [], ts)
one_above Long ts e = absurd (cc)
one_above Top ts e = refl
one_above Int ts e = refl
one_above Null ts e = refl
one_above UninitThis ts e = refl
one_above (Uninit q) ts e = refl
one_above (Object ty) ts e = refl

above_short : (t : VType) (ts : List VType) → is_long_type t ≡ false → off 2 (t ∷ ts) ≡ above t (off 1 ts)
above_short Long ts e = absurd (cc)
above_short Top ts e = refl
above_short Int ts e = refl
above_short Null ts e = refl
above_short UninitThis ts e = refl
above_short (Uninit q) ts e = refl
above_short (Object ty) ts e = refl

long_refused : (s : List VType) (t : VType) (ts : List VType) (tgo : List VType → List VType → Result (List VType) ℕ) → is_long_type t ≡ true → then_off (off 1 (t ∷ ts)) tgo ≡ Ok s → ⊥
long_refused s Long ts tgo l d = absurd (cc)
long_refused s Top ts tgo l d = absurd (cc)
long_refused s Int ts tgo l d = absurd (cc)
long_refused s Null ts tgo l d = absurd (cc)
long_refused s UninitThis ts tgo l d = absurd (cc)
long_refused s (Uninit q) ts tgo l d = absurd (cc)
long_refused s (Object ty) ts tgo l d = absurd (cc)

above_off : (s : List VType) (t : VType) (r : Result (List VType × List VType) ℕ) (tgo : List VType → List VType → Result (List VType) ℕ) → then_off (above t r) tgo ≡ Ok s → then_off r (λ a rest. tgo (t ∷ a) rest) ≡ Ok s
above_off s t (Ok parts) tgo d = d
above_off s t (Err n) tgo d = absurd (cc)

module _ (b : BoxName) (m : Mode) (S : Effect → Type 0) (s : List VType) where
  pub word_off : (ts : List VType) (vs : List Value) → Paired b m ts vs → (tgo : List VType → List VType → Result (List VType) ℕ) (go : Value → List Value → Effect) → then_off (off 1 ts) tgo ≡ Ok s →
      ((t : VType) (v : Value) → Pair b m t v → (us : List VType) (ws : List Value) → Paired b m us ws → tgo (t ∷ []) us ≡ Ok s → S (go v ws)) → S (on_word vs go)
  word_off [] vs e tgo go d k = absurd (cc)
  word_off (t ∷ ts) [] e tgo go d k = absurd e
  word_off (t ∷ ts) (v ∷ vs) e tgo go d k = by (is_long_type t) refl
    where
      by : (z : Bool) → is_long_type t ≡ z → S (when (not (is_wide v)) (go v vs))
      by true l = absurd (long_refused s t ts tgo l d)
      by false l = subst (λ (z : Bool). S (when (not z) (go v vs))) (sym (e.0.1 ∙ l))
          (k t v e.0 ts vs e.1 (subst (λ (r : Result (List VType × List VType) ℕ). then_off r tgo ≡ Ok s) (one_above t ts l) d))

  -- two words: a long, or two others
  pub words_off : (ts : List VType) (vs : List Value) → Paired b m ts vs → (tgo : List VType → List VType → Result (List VType) ℕ) (go : List Value → List Value → Effect) → then_off (off 2 ts) tgo ≡ Ok s →
      ((a : List VType) (xs : List Value) → Paired b m a xs → (us : List VType) (ws : List Value) → Paired b m us ws → tgo a us ≡ Ok s → S (go xs ws)) → S (on_two_words vs go)
  words_off [] vs e tgo go d k = absurd (cc)
  words_off (t ∷ ts) [] e tgo go d k = absurd e
  words_off (t ∷ ts) (v ∷ vs) e tgo go d k = by (is_long_type t) refl
    where
      by : (z : Bool) → is_long_type t ≡ z → S (wide_or (is_wide v) (go (v ∷ []) vs) (on_word vs (λ w below. go (v ∷ w ∷ []) below)))
      by true l =
          let is = long_alone t l in
          subst (λ (z : Bool). S (wide_or z (go (v ∷ []) vs) (on_word vs (λ w below. go (v ∷ w ∷ []) below)))) (sym (e.0.1 ∙ l))
          (k (Long ∷ []) (v ∷ []) (subst (λ (u : VType). Pair b m u v) is e.0, tt) ts vs e.1 (subst (λ (u : VType). then_off (off 2 (u ∷ ts)) tgo ≡ Ok s) is d))
      by false l =
          subst (λ (z : Bool). S (wide_or z (go (v ∷ []) vs) (on_word vs (λ w below. go (v ∷ w ∷ []) below)))) (sym (e.0.1 ∙ l))
          (word_off ts vs e.1 (λ a rest. tgo (t ∷ a) rest) _ (above_off s t (off 1 ts) tgo (subst (λ (r : Result (List VType × List VType) ℕ). then_off r tgo ≡ Ok s) (above_short t ts l) d))
          (λ u w f us ws r q. k (t ∷ u ∷ []) (v ∷ w ∷ []) (e.0, (f, tt)) us ws r q))
