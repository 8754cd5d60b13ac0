-- Attributes both ways, whatever they hold: the name, whether one stands twice, and what it holds.
use Rattle.std.proofs.Common.{◌≡◌, ℕ, ◌^◌, ◌<◌, Bool, true, false, cond, List, ◌++◌, length, Option, Some, None, Result, Ok, Err, sym, ap, subst, ◌∙◌}
use Rattle.kilim_class_grammar.specs.Reader.{◌>>=◌}
use Rattle.kilim_class_grammar.proofs.Bytes.{IsBytes, Takes}
use Rattle.kilim_class_grammar.proofs.Formats.{Format, bind_ok, well, well_is}
use Rattle.kilim_class_pool.specs.declared.entry.Entry.{Entry}
use Rattle.kilim_class_attributes.specs.declared.parts.fault.AttributeFault.{AttributeFault}
use Rattle.kilim_class_attributes.specs.declared.parts.fault.AttributeFault.TheVariants as fault
use Rattle.kilim_class_attributes.specs.declared.parts.name.AttributeName.{AttributeName}
use Rattle.kilim_class_attributes.specs.declared.attribute.Place.{Place}
use Rattle.kilim_class_attributes.specs.Lists.{turned, named_bytes_at, named_text}
use Rattle.kilim_class_attributes.specs.Forms.{form_at, unless_twice}
use Rattle.kilim_class_attributes.proofs.Lists.{IsNamed, named_takes, named_again}

abbrev Form : Type 0
Form = Option AttributeName

of_test : (repeated : Bool) (name : AttributeName) (once : Form) → cond repeated (Err (fault.Twice name)) (Ok (Some name)) ≡ well {F = AttributeFault} once → Some name ≡ once
of_test true name once e = absurd cc
of_test false name once e = well_is {F = AttributeFault} (Some name) once e

same_form : {B : Type 0} (repeats : AttributeName → List B → Bool) (form once : Form) (before : List B) → unless_twice repeats form before ≡ Ok once → form ≡ once
same_form repeats None once before e = well_is {F = AttributeFault} None once e
same_form repeats (Some name) once before e = of_test (repeats name before) name once e

-- what an attribute of a form holds is spelled so
module _ {I : Type 0} (text : I → List ℕ) (form : I → Form) (Fits : I → Type 0) where
  pub record Holds (f : Form) (bytes : List ℕ) (i : I) : Type 0 where
    pub spelled : bytes ≡ text i
    pub formed : form i ≡ f
    pub fit : Fits i

module _ {I B : Type 0} (pool : List Entry) (place : Place) (index : B → ℕ) (info : B → I) (text : I → List ℕ) (form : I → Form) (Fits : I → Type 0) (repeats : AttributeName → List B → Bool) where
  pub record NamedFits (before : List B) (b : B) : Type 0 where
    pub below : index b < 2 ^ 16
    pub formed : form_at pool place (index b) ≡ Ok (form (info b))
    pub once : unless_twice repeats (form (info b)) before ≡ Ok (form (info b))
    pub size : length (text (info b)) < 2 ^ 32
    pub fit : Fits (info b)

module _ {I B : Type 0} (pool : List Entry) (place : Place) (cut : AttributeFault) (make : ℕ → I → B) (index : B → ℕ) (info : B → I) (whole : (b : B) → make (index b) (info b) ≡ b) (index_is : (n : ℕ) (i : I) → index (make n i) ≡ n) (info_is : (n : ℕ) (i : I) → info (make n i) ≡ i)
    (text : I → List ℕ) (form : I → Form) (Fits : I → Type 0) (repeats : AttributeName → List B → Bool) (content : Form → List ℕ → Result I AttributeFault) where
  -- what an attribute is made of
  abbrev pub attribute_by : List B → ℕ × List ℕ → Result B AttributeFault
  attribute_by before x = form_at pool place x.0 >>= λ f. unless_twice repeats f before >>= λ once. content once x.1 >>= λ i. Ok (make x.0 i)

  module _ (takes : (f : Form) (n : ℕ) (bytes : List ℕ) (i : I) → form_at pool place n ≡ Ok f → IsBytes bytes → content f bytes ≡ Ok i → Holds text form Fits f bytes i) (again : (i : I) → Fits i → content (form i) (text i) ≡ Ok i) (before : List B) where
    made_so : (x : ℕ × List ℕ) (b : B) → IsNamed cut x → attribute_by before x ≡ Ok b → (x.0 ≡ index b) × (x.1 ≡ text (info b)) × NamedFits pool place index info text form Fits repeats before b
    made_so x b named e =
        let p = bind_ok (form_at pool place x.0) (λ f. unless_twice repeats f before >>= λ once. content once x.1 >>= λ i. Ok (make x.0 i)) b e in
        let q = bind_ok (unless_twice repeats p.0 before) (λ once. content once x.1 >>= λ i. Ok (make x.0 i)) b p.2 in
        let r = bind_ok (content q.0 x.1) (λ i. Ok (make x.0 i)) b q.2 in
        let is : make x.0 r.0 ≡ b = well_is {F = AttributeFault} (make x.0 r.0) b r.2 in
        let same : p.0 ≡ q.0 = same_form repeats p.0 q.0 before q.1 in
        let h : Holds text form Fits p.0 x.1 r.0 = takes p.0 x.0 x.1 r.0 p.1 named.bytes (subst (λ (f : Form). content f x.1 ≡ Ok r.0) (sym same) r.1) in
        let n : x.0 ≡ index b = sym (index_is x.0 r.0) ∙ ap index is in
        let i : r.0 ≡ info b = sym (info_is x.0 r.0) ∙ ap info is in
        let spelled : x.1 ≡ text (info b) = h.spelled ∙ ap text i in
        let f : p.0 ≡ form (info b) = sym h.formed ∙ ap form i in (
          n,
          spelled,
          record {
            below = subst (λ (k : ℕ). k < 2 ^ 16) n named.below;
            formed = subst (λ (k : ℕ). form_at pool place k ≡ Ok (form (info b))) n (p.1 ∙ ap (λ (g : Form). well {F = AttributeFault} g) f);
            once = subst (λ (g : Form). unless_twice repeats g before ≡ Ok g) f (q.1 ∙ ap (λ (g : Form). well {F = AttributeFault} g) (sym same));
            size = subst (λ (t : List ℕ). length t < 2 ^ 32) spelled named.size;
            fit = subst Fits i h.fit;
          },
        )

    by_takes : (bytes : List ℕ) (b : B) (rest : List ℕ) → IsBytes bytes → turned (attribute_by before) (named_bytes_at cut) bytes ≡ Ok (b, rest) → Takes bytes (named_text (index b) (text (info b))) rest × NamedFits pool place index info text form Fits repeats before b
    by_takes bytes b rest fits e =
        let p = bind_ok (named_bytes_at cut bytes) (λ x. attribute_by before x.0 >>= λ y. Ok (y, x.1)) (b, rest) e in
        let q = bind_ok (attribute_by before p.0.0) (λ y. Ok (y, p.0.1)) (b, rest) p.2 in
        let found : B × List ℕ = (q.0, p.0.1) in
        let is = well_is {F = AttributeFault} found (b, rest) q.2 in
        let t = named_takes cut bytes p.0.0 p.0.1 fits p.1 in
        let m = made_so p.0.0 q.0 t.1 q.1 in
        let first : Takes bytes (named_text (index q.0) (text (info q.0))) p.0.1 =
        subst (λ (c : List ℕ). Takes bytes (named_text (index q.0) c) p.0.1) m.1 (subst (λ (n : ℕ). Takes bytes (named_text n p.0.0.1) p.0.1) m.0 t.0) in
        subst (λ (z : B × List ℕ). Takes bytes (named_text (index z.0) (text (info z.0))) z.1 × NamedFits pool place index info text form Fits repeats before z.0) is (first, m.2)

    by_again : (b : B) (rest : List ℕ) → NamedFits pool place index info text form Fits repeats before b → turned (attribute_by before) (named_bytes_at cut) (named_text (index b) (text (info b)) ++ rest) ≡ Ok (b, rest)
    by_again b rest fit =
        rw (named_again cut (index b) (text (info b)) rest fit.below fit.size, fit.formed, fit.once, again (info b) fit.fit) (ap (λ (z : B). well {F = AttributeFault} (z, rest)) (whole b))

    pub by_name : Format (λ b. named_text (index b) (text (info b))) (turned (attribute_by before) (named_bytes_at cut)) (NamedFits pool place index info text form Fits repeats before)
    by_name = record { takes = by_takes; again = by_again }
