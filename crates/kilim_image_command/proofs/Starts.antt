-- The program of class files with its main class.
use Rattle.std.proofs.Common.{◌≡◌, ◌+◌, ◌<◌, ◌≤◌, ◌∙◌, ℕ, zero, suc, List, [], ◌∷◌, ◌++◌, Some, None, Result, Ok, Err, append-nil, append_assoc, length, length-append, map, drop, refl, sym, ap, subst, inl, inr, arith}
use Rattle.std.specs.Prelude.{IfOk, codes}
use Rattle.std.specs.Fmt.{decimal}
use Rattle.kilim_program.specs.Names.{class_named}
use Rattle.kilim_program.specs.Members.{is_fit_main}
use Rattle.kilim_program.specs.Program.{Program}
use Rattle.kilim_stages.proofs.Parts.{refused, reported}
use Rattle.kilim_stages.specs.Accepted.{IsAcceptedOf}
use Rattle.kilim_stages.specs.Parts.{IfReport, Refused}
use Rattle.kilim_stages.specs.declared.refusal.Refusal.{Refusal}
use Rattle.kilim_stages.specs.declared.woven_stage.stage.WovenProgram.{WovenProgram}
use Rattle.kilim_stages.specs.woven_stage.Reports.{IsWovenReport}
use Rattle.kilim_stages.specs.woven_stage.Stage.{IsWovenOf}
use Rattle.kilim_weave.specs.Weaves.{Weaves}
use Rattle.kilim_weave.specs.declared.weaving.Woven.{Woven}
use Rattle.kilim_image_command.proofs.Mains.{fit_named, none_named}
use Rattle.kilim_image_command.specs.Parts.{HasClass, HasNoClass, IsStarted}
use Rattle.kilim_image_command.specs.Programs.{IsStart, IsStartReport, names_from}
use Rattle.kilim_image_command.specs.declared.programs.Started.{Started}

module _ (names : List (List ℕ)) (name : List ℕ) (files : List (List ℕ)) where
  start_of : (p : WovenProgram) (s : Started) → IsWovenOf files p.plain p.woven → HasClass p name s → IsStarted name files s
  start_of p s of has =
      let f = fit_named p.plain name s.main has.found in
      let start : IsStart name files p.plain s.main = record { accepted = of.accepted; weavable = of.none; named = f.named; fit = f.fit } in
      record {
        start = subst (λ (q : Program). IsStart name files q s.main) (sym has.plain) start;
        weaves = subst (λ (q : Program). Weaves q s.woven) (sym has.plain) (subst (λ (w : Woven). Weaves p.plain w) (sym has.woven) of.weaves);
      }

  pub started_of : (p : WovenProgram) (r : Result Started Refusal) → IsWovenOf files p.plain p.woven → IfOk r (HasClass p name) → IfOk r (IsStarted name files)
  started_of p (Ok s) of has = start_of p s of has
  started_of p (Err e) of has = tt

  pub without_class : (p : WovenProgram) (r : Result Started Refusal) → IsWovenOf files p.plain p.woven → IfReport r (HasNoClass p name) → IfReport r (IsStartReport names name files)
  without_class p r of said =
      reported r (λ text has. inr (inr (record { program = p.plain; accepted = of.accepted; weavable = of.none; none = none_named p.plain name has.none; is_text = has.is_text }))) said

  woven_report : (text : List ℕ) → IsWovenReport names files text → IsStartReport names name files text
  woven_report text (inl stage) = inl stage
  woven_report text (inr method) = inr (inl method)

  pub not_woven : (r : Refusal) → Refused r (IsWovenReport names files) → Refused r (IsStartReport names name files)
  not_woven r said = refused r woven_report said

-- ---- the names of an image's files

names_more : (n : ℕ) (files : List (List ℕ)) (file : List ℕ) (others : List (List ℕ)) → files ≡ file ∷ others → names_from n files ≡ (codes "#" ++ decimal n) ∷ names_from (n + 1) others
names_more n files file others e = ap (names_from n) e

drop_here : (files : List (List ℕ)) (at : ℕ) → at < length files → (file : List ℕ) × (drop at files ≡ file ∷ drop (at + 1) files)
drop_here [] at lt = absurd (omega (arith, lt))
drop_here (f ∷ files) zero lt = (f, refl)
drop_here (f ∷ files) (suc at) lt = let r = drop_here files at (omega (arith, lt)) in let k : suc at + 1 ≡ suc (at + 1) = omega arith in (r.0, r.1 ∙ ap (λ (n : ℕ). r.0 ∷ drop n (f ∷ files)) (sym k))

pub one_name : {A : Type 0} (g : A → List ℕ) (files : List (List ℕ)) (at : ℕ) (names now : List A) (name : A) → at < length files → now ≡ names ++ name ∷ [] → g name ≡ codes "#" ++ decimal (at + 1) →
    map g names ++ names_from (at + 1) (drop at files) ≡ names_from 1 files → map g now ++ names_from (at + 1 + 1) (drop (at + 1) files) ≡ names_from 1 files
one_name {A} g files at names now name lt pushed is so_far =
    let here = drop_here files at lt in
    ap (λ (xs : List A). map g xs ++ names_from (at + 1 + 1) (drop (at + 1) files)) pushed
    ∙ (more names ∙ (ap (λ (n : List ℕ). map g names ++ n ∷ names_from (at + 1 + 1) (drop (at + 1) files)) is
    ∙ (ap (λ (ns : List (List ℕ)). map g names ++ ns) (sym (names_more (at + 1) (drop at files) here.0 (drop (at + 1) files) here.1)) ∙ so_far)))
  where
    more : (xs : List A) → map g (xs ++ name ∷ []) ++ names_from (at + 1 + 1) (drop (at + 1) files) ≡ map g xs ++ g name ∷ names_from (at + 1 + 1) (drop (at + 1) files)
    more [] = refl
    more (x ∷ xs) = ap (λ (ns : List (List ℕ)). g x ∷ ns) (more xs)

none_left : (files : List (List ℕ)) (at : ℕ) → length files ≤ at → drop at files ≡ []
none_left [] zero le = refl
none_left [] (suc at) le = refl
none_left (f ∷ files) zero le = absurd (omega (arith, le))
none_left (f ∷ files) (suc at) le = none_left files at (omega (arith, le))

pub all_names : {A : Type 0} (g : A → List ℕ) (files : List (List ℕ)) (at : ℕ) (names : List A) → length files ≤ at → map g names ++ names_from (at + 1) (drop at files) ≡ names_from 1 files → map g names ≡ names_from 1 files
all_names g files at names le so_far = sym (append-nil (map g names)) ∙ (ap (λ (fs : List (List ℕ)). map g names ++ names_from (at + 1) fs) (sym (none_left files at le)) ∙ so_far)
