use Rattle.std.proofs.Common.{◌∙◌, ◌-◌, ℕ, ap, sym}
use Rattle.kilim_weave_pieces.specs.declared.item.Size.TheVariants.{Fixed}
use Rattle.kilim_weave_pieces.specs.Items.{size_of}
use Rattle.kilim_weave_code.proofs.Sizes.{kept_sized, lookup_sized, none_other}
use Rattle.kilim_weave_code.proofs.moved.old_size.Goals as goal

pub returns-then-is_kept : goal.returns-then-is_kept
returns-then-is_kept c =
    ap (λ (k : ℕ). size_of (Fixed k)) c.saturating_sub.ensures ∙ kept_sized c.args.instr.now (c.args.next - c.args.place) (sym c.is_kept.ensures ∙ c.if-is_kept.true)

pub returns-in_ok-count-in-Lookupswitch : goal.returns-in_ok-count-in-Lookupswitch
returns-in_ok-count-in-Lookupswitch c =
    lookup_sized c.args.instr.now _ _ c.in_ok-count-in-Lookupswitch.count (c.args.next - c.args.place) c.in-Lookupswitch.is (c.in_ok-count-in-Lookupswitch.ensures ∙ c.len-in-Lookupswitch.ensures)

pub unreachable-requires : goal.unreachable-requires
unreachable-requires c =
    none_other c.args.instr.now (sym c.is_kept.ensures ∙ c.if-is_kept.false) c.in_default.not-Iload c.in_default.not-Lload c.in_default.not-Aload c.in_default.not-Istore c.in_default.not-Lstore c.in_default.not-Astore c.in_default.not-Tableswitch c.in_default.not-Lookupswitch
