use Rattle.std.proofs.Common.{◌≡◌, true, is_some, List, Option, ℕ, sym, subst}
use Rattle.kilim_program.specs.declared.names.ClassId.{ClassId}
use Rattle.kilim_link_inherited.specs.Fronts.{IsFront, said_onto}
use Rattle.kilim_link_inherited.specs.Roots.{root_at, Keeps, Sound}
use Rattle.kilim_link_inherited.specs.Trees.{Makes, Has, Fits, value_at, key_levels}
use Rattle.kilim_link_inherited.proofs.Inheriting.{base_inside, base_fits, sound_more, root_keeps, root_makes}
use Rattle.kilim_link_inherited.proofs.class_trees.make_tree.Goals as goal

pub put_classes-requires-clause-inside : goal.put_classes-requires-clause-inside
put_classes-requires-clause-inside c =
    let ups = c.args.ups.now in
    let made = c.in-Ok.front in
    let front : IsFront ups c.args.roots.now c.args.class made.classes made.base = subst (λ (rs : List (Option ℕ)). IsFront ups rs c.args.class made.classes made.base) c.as_slice-2.ensures c.in-Ok.ensures in
    base_inside ups c.args.entries.now c.requires.said c.args.nodes.now c.args.roots.now c.requires.sound c.args.class front.count made.base front.base_is

pub put_classes-requires-clause-fits : goal.put_classes-requires-clause-fits
put_classes-requires-clause-fits c =
    let ups = c.args.ups.now in
    let made = c.in-Ok.front in
    let front : IsFront ups c.args.roots.now c.args.class made.classes made.base = subst (λ (rs : List (Option ℕ)). IsFront ups rs c.args.class made.classes made.base) c.as_slice-2.ensures c.in-Ok.ensures in
    base_fits ups c.args.entries.now c.requires.said c.args.nodes.now c.args.roots.now c.requires.sound c.args.class front.count made.base front.base_is

pub returns-clause-sound : goal.returns-clause-sound
returns-clause-sound c =
    let ups = c.args.ups.now in
    let entries = c.args.entries.now in
    let nodes = c.args.nodes.now in
    let roots = c.args.roots.now in
    let new = c.put_classes.new.nodes in
    let class = c.args.class in
    let made = c.in-Ok.front in
    let root = c.in-Ok-put_classes.root in
    let front : IsFront ups roots class made.classes made.base = subst (λ (rs : List (Option ℕ)). IsFront ups rs class made.classes made.base) c.as_slice-2.ensures c.in-Ok.ensures in
    let puts : Makes nodes new root × Has new key_levels root (λ k. said_onto entries k made.classes (value_at nodes key_levels made.base k)) × Fits new key_levels root
    = subst (λ (cs : List ClassId). Makes nodes new root × Has new key_levels root (λ k. said_onto entries k cs (value_at nodes key_levels made.base k)) × Fits new key_levels root) c.as_slice-3.ensures c.in-Ok-put_classes.ensures in
    subst (λ (rs : List (Option ℕ)). Sound ups entries new rs) (sym c.set_root.ensures) (sound_more ups entries c.requires.said nodes roots c.requires.sound new class made.classes made.base root front puts.0 puts.1 puts.2)

pub returns-clause-kept : goal.returns-clause-kept
returns-clause-kept c = subst (λ (rs : List (Option ℕ)). Keeps c.args.roots.now rs) (sym c.set_root.ensures) (root_keeps c.args.roots.now c.args.class c.in-Ok-put_classes.root)

pub returns-clause-made : goal.returns-clause-made
returns-clause-made c = λ lt. subst (λ (rs : List (Option ℕ)). is_some (root_at rs c.args.class) ≡ true) (sym c.set_root.ensures) (root_makes c.args.roots.now c.args.class c.in-Ok-put_classes.root lt)
