use Rattle.kilim_link.proofs.laws.no_fault_is_a_program.Goals as goal

pub returns : goal.returns
returns c = λ files form few fit none.
    let p = c.no_fault_links.ensures files form none in
    (p.0, p.1, c.links_keep.ensures files form p.0 (record { few = few; fit = fit; none = none; linked = p.1 }))
