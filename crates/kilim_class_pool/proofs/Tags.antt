-- What follows a tag, by groups of tags.
use Rattle.std.proofs.Common.{◌≡◌, ℕ, ◌==◌, Bool, true, false, ◌||◌, List, Result, Ok, Err, refl, sym, subst}
use Rattle.std.proofs.lemmas.Bool.{eqb-true}
use Rattle.kilim_class_grammar.specs.Reader.{made}
use Rattle.kilim_class_pool.specs.declared.entry.Entry.{Entry}
use Rattle.kilim_class_pool.specs.declared.entry.Entry.TheVariants.{MethodHandle}
use Rattle.kilim_class_pool.specs.declared.fault.PoolFault.{PoolFault}
use Rattle.kilim_class_pool.specs.declared.fault.PoolFault.TheVariants as pool
use Rattle.kilim_class_pool.specs.Reading.{index_at, pair_at, handle_at, reference_at}
use Rattle.kilim_class_pool.specs.Tagged.{is_single, single, is_paired, paired}

abbrev Read : Type 0
Read = Result (Entry × List ℕ) PoolFault

by : (n tag : ℕ) (one other : ℕ → Read) → (tag == n) ≡ true → one n ≡ other n → one tag ≡ other tag
by n tag one other h e = subst (λ (k : ℕ). one k ≡ other k) (sym (eqb-true tag n h)) e

either : (a b : Bool) {P : Type 0} → (a || b) ≡ true → (a ≡ true → P) → (b ≡ true → P) → P
either true b h one other = one refl
either false b h one other = other h

neither : (a b : Bool) → (a || b) ≡ false → (a ≡ false) × (b ≡ false)
neither true b h = absurd (cc)
neither false b h = (refl, h)

pub single_is : (index tag : ℕ) (bytes : List ℕ) → is_single tag ≡ true → reference_at index tag bytes ≡ made (single tag) index_at bytes
unfolding reference_at
single_is index tag bytes h =
    let one = λ (k : ℕ). reference_at index k bytes in
    let other = λ (k : ℕ). made (single k) index_at bytes in
    either (tag == 7) (tag == 8 || tag == 16) h (λ e. by 7 tag one other e refl) (λ g.
    either (tag == 8) (tag == 16) g (λ e. by 8 tag one other e refl) (λ e. by 16 tag one other e refl))

pub paired_is : (index tag : ℕ) (bytes : List ℕ) → is_paired tag ≡ true → reference_at index tag bytes ≡ made (paired tag) pair_at bytes
unfolding reference_at
paired_is index tag bytes h =
    let one = λ (k : ℕ). reference_at index k bytes in
    let other = λ (k : ℕ). made (paired k) pair_at bytes in
    either (tag == 9) (tag == 10 || (tag == 11 || (tag == 12 || tag == 18))) h (λ e. by 9 tag one other e refl) (λ g.
    either (tag == 10) (tag == 11 || (tag == 12 || tag == 18)) g (λ e. by 10 tag one other e refl) (λ f.
    either (tag == 11) (tag == 12 || tag == 18) f (λ e. by 11 tag one other e refl) (λ d.
    either (tag == 12) (tag == 18) d (λ e. by 12 tag one other e refl) (λ e. by 18 tag one other e refl))))

pub handle_is : (index tag : ℕ) (bytes : List ℕ) → tag ≡ 15 → reference_at index tag bytes ≡ made (λ p. MethodHandle p.0 p.1) handle_at bytes
unfolding reference_at
handle_is index tag bytes h = subst (λ (k : ℕ). reference_at index k bytes ≡ made (λ p. MethodHandle p.0 p.1) handle_at bytes) (sym h) refl

pub none_is : (index tag : ℕ) (bytes : List ℕ) → is_single tag ≡ false → is_paired tag ≡ false → (tag == 15) ≡ false → reference_at index tag bytes ≡ Err (pool.Tag index tag)
unfolding reference_at
none_is index tag bytes s p handle =
    let a = neither (tag == 7) (tag == 8 || tag == 16) s in
    let b = neither (tag == 8) (tag == 16) a.1 in
    let d = neither (tag == 9) (tag == 10 || (tag == 11 || (tag == 12 || tag == 18))) p in
    let e = neither (tag == 10) (tag == 11 || (tag == 12 || tag == 18)) d.1 in
    let f = neither (tag == 11) (tag == 12 || tag == 18) e.1 in
    let g = neither (tag == 12) (tag == 18) f.1 in
    rw (a.0, b.0, b.1, d.0, e.0, f.0, g.0, g.1, handle) refl
