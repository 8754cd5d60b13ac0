use Rattle.std.proofs.Common.{◌≡◌, ℕ, ◌∷◌, [], ◌+◌, length, arith, refl, ap, ◌∙◌}
use Rattle.kilim_run_turn.specs.Rule.{Lies}
use Rattle.kilim_run_turn.specs.Views.{opener, made_more, next_worker}
use Rattle.kilim_run_turn.specs.Steps.{Sat}
use Rattle.kilim_run_turn.proofs.Keeps.{splits}
use Rattle.kilim_run_turn.proofs.Passes.{made_next}
use Rattle.kilim_run_turn.proofs.opening.hand_out.Goals as goal

pub split_seat-requires : goal.split_seat-requires
split_seat-requires g c = let w = c.requires.at.words in let r = c.requires.seats in (
  c.loop-number.invariant.0 ∙ c.requires.at.same,
  omega arith,
  splits (Lies g.B.Cells.cells) (length (g.B.Cells.cells c.args.shelf.now.key.value)) _ _ _ _ _ _ (ap (λ m. m.0) c.loop-number.invariant.1) (omega arith),
)

pub loop-number-preserved : goal.loop-number-preserved
loop-number-preserved g c =
    let v = c.loop-number.invariant in
    let s = c.split_seat.ensures in
    let b = c.into_badge-badge.ensures in
    let p = c.push_reserved.ensures in
    let room = v.3 in
    let kept = p.capacity in
    let len = c.loop-number.passes.ok in (
      s.0 ∙ v.0,
      s.2 ∙ ap (λ (m : Sat _). (made_more m.0, m.1)) v.1,
      p.len ∙ ap (λ n. n + 1) v.2,
      omega arith,
      made_next _ _ _ c.loop-number.number _ c.loop-number.passes.items c.push_reserved.new.self.items _ v.4 p.items (omega (arith, len, v.2)) (record {
        same = b.0 ∙ (s.3 ∙ (v.0 ∙ c.requires.at.same));
        number = refl;
        knows = b.2 ∙ (ap (λ (m : Sat _). m.0 ∷ []) s.4 ∙ ap (λ (m : Sat _). next_worker m.0 ∷ []) v.1);
      }),
    )

pub returns-clause-opening : goal.returns-clause-opening
returns-clause-opening g c =
    let all : c.loop-number.number ≡ c.args.seats = omega arith in
    c.loop-number.invariant.1 ∙ ap (λ (n : ℕ). (opener c.args.shelf.now.table_id c.args.seats n (g.B.Cells.cells c.args.shelf.now.key.value), [])) all
