-- What follows the tag of a verification type and the tag of a frame.
use Rattle.std.proofs.Common.{◌≡◌, ℕ, ◌-◌, ◌<◌, ◌≤◌, ◌==◌, false, List, Ok, Err, ◌∙◌, arith}
use Rattle.std.specs.Prelude.{nat_lt}
use Rattle.std.specs.Int.{w16}
use Rattle.std.proofs.lemmas.Bool.{lt-ltb, le-ltb, ne_eqb}
use Rattle.kilim_class_grammar.specs.Reader.{made, number_at}
use Rattle.kilim_class_pool.specs.declared.entry.Entry.{Entry}
use Rattle.kilim_class_attributes.specs.declared.parts.fault.AttributeFault.TheVariants as fault
use Rattle.kilim_class_attributes.specs.declared.parts.frame.Frame.TheVariants.{Same, SameLocals1StackItem, Chop, Append, Full}
use Rattle.kilim_class_attributes.specs.parts.Frames.{ends, type_behind, type_at, appended_at, full_at, frame_behind}
use Rattle.kilim_class_attributes.proofs.parts.Tags.{taken, passed}

module _ (pool : List Entry) (tag : ℕ) (bytes : List ℕ) where
  pub no_type : 7 ≤ tag → (tag == 7) ≡ false → (tag == 8) ≡ false → type_behind pool tag bytes ≡ Err (fault.FrameTag tag)
  unfolding type_behind
  no_type high object place =
      passed (tag == 0) _ _ (ne_eqb tag 0 (λ e. omega arith)) ∙ (passed (tag == 1) _ _ (ne_eqb tag 1 (λ e. omega arith)) ∙ (passed (tag == 2) _ _ (ne_eqb tag 2 (λ e. omega arith))
      ∙ (passed (tag == 3) _ _ (ne_eqb tag 3 (λ e. omega arith)) ∙ (passed (tag == 4) _ _ (ne_eqb tag 4 (λ e. omega arith)) ∙ (passed (tag == 5) _ _ (ne_eqb tag 5 (λ e. omega arith))
      ∙ (passed (tag == 6) _ _ (ne_eqb tag 6 (λ e. omega arith)) ∙ (passed (tag == 7) _ _ object ∙ passed (tag == 8) _ _ place)))))))

  pub same_is : tag < 64 → frame_behind pool tag bytes ≡ Ok (Same tag, bytes)
  unfolding frame_behind
  same_is lt = taken (nat_lt tag 64) _ _ (lt-ltb tag 64 lt)

  pub item_is : 64 ≤ tag → tag < 128 → frame_behind pool tag bytes ≡ made (SameLocals1StackItem (tag - 64)) (type_at pool) bytes
  unfolding frame_behind
  item_is low lt = passed (nat_lt tag 64) _ _ (le-ltb tag 64 low) ∙ taken (nat_lt tag 128) _ _ (lt-ltb tag 128 lt)

  pub no_frame : 64 ≤ tag → 128 ≤ tag → tag < 247 → frame_behind pool tag bytes ≡ Err (fault.FrameTag tag)
  unfolding frame_behind
  no_frame low items lt = passed (nat_lt tag 64) _ _ (le-ltb tag 64 low) ∙ (passed (nat_lt tag 128) _ _ (le-ltb tag 128 items) ∙ taken (nat_lt tag 247) _ _ (lt-ltb tag 247 lt))

  module _ (low : 64 ≤ tag) (items : 128 ≤ tag) (others : 247 ≤ tag) (item : (tag == 247) ≡ false) where
    pub chop_is : tag < 251 → frame_behind pool tag bytes ≡ made (Chop (251 - tag)) (number_at ends w16) bytes
    unfolding frame_behind
    chop_is lt =
        passed (nat_lt tag 64) _ _ (le-ltb tag 64 low) ∙ (passed (nat_lt tag 128) _ _ (le-ltb tag 128 items) ∙ (passed (nat_lt tag 247) _ _ (le-ltb tag 247 others)
        ∙ (passed (tag == 247) _ _ item ∙ taken (nat_lt tag 251) _ _ (lt-ltb tag 251 lt))))

    module _ (chops : 251 ≤ tag) (same : (tag == 251) ≡ false) where
      pub append_is : tag < 255 → frame_behind pool tag bytes ≡ made (λ x. Append x.0 x.1) (appended_at pool (tag - 251)) bytes
      unfolding frame_behind
      append_is lt =
          passed (nat_lt tag 64) _ _ (le-ltb tag 64 low) ∙ (passed (nat_lt tag 128) _ _ (le-ltb tag 128 items) ∙ (passed (nat_lt tag 247) _ _ (le-ltb tag 247 others)
          ∙ (passed (tag == 247) _ _ item ∙ (passed (nat_lt tag 251) _ _ (le-ltb tag 251 chops) ∙ (passed (tag == 251) _ _ same ∙ taken (nat_lt tag 255) _ _ (lt-ltb tag 255 lt))))))

      pub full_is : 255 ≤ tag → frame_behind pool tag bytes ≡ made (λ x. Full x.0 x.1.0 x.1.1) (full_at pool) bytes
      unfolding frame_behind
      full_is all =
          passed (nat_lt tag 64) _ _ (le-ltb tag 64 low) ∙ (passed (nat_lt tag 128) _ _ (le-ltb tag 128 items) ∙ (passed (nat_lt tag 247) _ _ (le-ltb tag 247 others)
          ∙ (passed (tag == 247) _ _ item ∙ (passed (nat_lt tag 251) _ _ (le-ltb tag 251 chops) ∙ (passed (tag == 251) _ _ same ∙ passed (nat_lt tag 255) _ _ (le-ltb tag 255 all))))))
