-- Reading the parts of annotations with a list of what is still to come.
use Rattle.std.proofs.Common.{◌≡◌, ℕ, ◌-◌, ◌<◌, ◌≤◌, List, [], ◌∷◌, ◌++◌, length, replicate, Result, Ok, Err, refl, sym, ap, subst, ◌∙◌, arith}
use Rattle.kilim_class_grammar.proofs.Bytes.{IsBytes}
use Rattle.kilim_class_grammar.proofs.Loops.{with_front, FailsUnless}
use Rattle.kilim_class_pool.specs.declared.entry.Entry.{Entry}
use Rattle.kilim_class_attributes.specs.declared.parts.fault.AttributeFault.{AttributeFault}
use Rattle.kilim_class_attributes.specs.declared.parts.fault.AttributeFault.TheVariants.{Memory}
use Rattle.kilim_class_attributes.specs.declared.parts.annotation.Asked.{Asked}
use Rattle.kilim_class_attributes.specs.declared.parts.annotation.PartKind.{PartKind}
use Rattle.kilim_class_attributes.specs.declared.parts.annotation.AnnotationPart.{AnnotationPart}
use Rattle.kilim_class_attributes.specs.parts.Choices.{sentence_at}
use Rattle.kilim_class_attributes.specs.parts.Annotations.{asked, asks, part_at, parts_at}
use Rattle.kilim_class_attributes.proofs.parts.AnnotationFormats.{part_shorter, part_cut}
use Rattle.kilim_class_attributes.proofs.parts.Pending.{pending, pending_last, first_kind}
use Rattle.kilim_class_attributes.proofs.parts.Sentences.{LeadsTo, goes_on, stops, is_done}

no_front : {F A : Type 0} (read : Result (List A × List ℕ) F) → with_front [] read ≡ read
no_front (Err e) = refl
no_front (Ok x) = refl

module _ (pool : List Entry) (ends : AttributeFault) (kind : PartKind) (bytes : List ℕ) where
  abbrev Leads : List AnnotationPart → List PartKind → List ℕ → Type 0
  Leads front kinds rest = LeadsTo ends (part_at pool ends) asks front kinds rest (parts_at pool ends kind bytes)

  pub begins : Leads [] (pending (record { kind = kind; count = 1 } ∷ [])) bytes
  unfolding parts_at
  begins = record { most = length bytes; room = omega arith; so_far = no_front (sentence_at ends (part_at pool ends) asks (length bytes) (kind ∷ []) bytes) }

  module _ (front : List AnnotationPart) (to_come popped : List Asked) (next : Asked) (rest : List ℕ) (is : to_come ≡ popped ++ next ∷ []) (some : 0 < next.count) (leads : Leads front (pending to_come) rest) where
    others : List PartKind
    others = replicate (next.count - 1) next.kind ++ pending popped

    next_first : pending to_come ≡ next.kind ∷ others
    unfolding others
    next_first = ap pending is ∙ (pending_last popped next ∙ ap (λ (kinds : List PartKind). kinds ++ pending popped) (first_kind next.kind next.count some))

    leads_next : Leads front (next.kind ∷ others) rest
    leads_next = subst (λ (kinds : List PartKind). Leads front kinds rest) next_first leads

    pub fails : (e : AttributeFault) → part_at pool ends next.kind rest ≡ Err e → FailsUnless Memory e (parts_at pool ends kind bytes)
    fails e f = stops ends (part_at pool ends) asks Memory e front next.kind others rest (parts_at pool ends kind bytes) (part_cut pool ends next.kind) f leads_next

    module _ (part : AnnotationPart) (after : List ℕ) (fit : IsBytes rest) (read : part_at pool ends next.kind rest ≡ Ok (part, after)) where
      pub behind : (length after < length rest) × IsBytes after
      behind = part_shorter pool ends next.kind rest part after fit read

      after_part : Leads (front ++ part ∷ []) (asks part ++ others) after
      after_part = goes_on ends (part_at pool ends) asks front next.kind others rest part after (parts_at pool ends kind bytes) behind.0 read leads_next

      pub leads_on : (now : List Asked) (parts : List AnnotationPart) → now ≡ (popped ++ (record next { count = next.count - 1 }) ∷ []) ++ asked part ∷ [] → parts ≡ front ++ part ∷ [] → Leads parts (pending now) after
      unfolding others
      leads_on now parts now_is parts_is =
          let less : Asked = record next { count = next.count - 1 } in
          let first : List Asked = popped ++ less ∷ [] in
          let a : pending first ≡ others = pending_last popped less in
          let b : pending now ≡ asks part ++ others = ap pending now_is ∙ (pending_last first (asked part) ∙ ap (λ (kinds : List PartKind). asks part ++ kinds) a) in
          subst (λ (kinds : List PartKind). Leads parts kinds after) (sym b) (subst (λ (ps : List AnnotationPart). Leads ps (asks part ++ others) after) (sym parts_is) after_part)

  -- one of a kind of which none is left
  pub skips : (front : List AnnotationPart) (to_come popped : List Asked) (next : Asked) (rest : List ℕ) → to_come ≡ popped ++ next ∷ [] → next.count ≤ 0 → Leads front (pending to_come) rest → Leads front (pending popped) rest
  skips front to_come popped next rest is none leads =
      let zero : next.count ≡ 0 = omega arith in
      let kinds_are : pending to_come ≡ pending popped =
      ap pending is ∙ (pending_last popped next ∙ ap (λ (n : ℕ). replicate n next.kind ++ pending popped) zero) in
      subst (λ (kinds : List PartKind). Leads front kinds rest) kinds_are leads

  nothing : (to_come : List Asked) → length to_come ≡ 0 → to_come ≡ []
  nothing [] e = refl
  nothing (x ∷ xs) e = absurd (omega arith)

  pub all_read : (front : List AnnotationPart) (to_come : List Asked) (rest : List ℕ) → length to_come ≡ 0 → Leads front (pending to_come) rest → parts_at pool ends kind bytes ≡ Ok (front, rest)
  all_read front to_come rest e leads =
      is_done ends (part_at pool ends) asks front rest (parts_at pool ends kind bytes) (subst (λ (kinds : List PartKind). Leads front kinds rest) (ap pending (nothing to_come e)) leads)
