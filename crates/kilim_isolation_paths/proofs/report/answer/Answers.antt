use Rattle.std.proofs.Common.{ℕ, subst, sym, List, Option, None}
use Rattle.std.specs.List.{AllByRecursion, AllZip}
use Rattle.kilim_isolation_paths.specs.Search.{IsFound, Searched, IsReportOf}
use Rattle.kilim_isolation_paths.specs.declared.found.Found.{Found}
use Rattle.kilim_isolation_paths.proofs.Ends.{faults}
use Rattle.kilim_isolation_paths.proofs.report.answer.Goals as goal

pub reports-requires-clause-linked : goal.reports-requires-clause-linked
reports-requires-clause-linked g c =
    let m = g.M.Moves.means c.args.machine.now in
    let s : Searched m (g.M.Moves.fits c.args.machine.now) c.search.new.store c.search.new.found.items None = subst (λ (o : Option ℕ). Searched m (g.M.Moves.fits c.args.machine.now) c.search.new.store c.search.new.found.items o) c.in_default-full.is c.in-Ok.ensures in
    (m, s.0.known.linked)

pub reports-requires-clause-found : goal.reports-requires-clause-found
reports-requires-clause-found g c =
    let m = g.M.Moves.means c.args.machine.now in
    let s : Searched m (g.M.Moves.fits c.args.machine.now) c.search.new.store c.search.new.found.items None = subst (λ (o : Option ℕ). Searched m (g.M.Moves.fits c.args.machine.now) c.search.new.store c.search.new.found.items o) c.in_default-full.is c.in-Ok.ensures in
    (m, subst (λ (fs : List Found). AllByRecursion (IsFound m c.search.new.store.entries) fs) (sym c.as_slice.ensures.value) s.0.found)

pub returns-in-Ok-reports : goal.returns-in-Ok-reports
returns-in-Ok-reports g c =
    let m = g.M.Moves.means c.args.machine.now in
    let s : Searched m (g.M.Moves.fits c.args.machine.now) c.search.new.store c.search.new.found.items None = subst (λ (o : Option ℕ). Searched m (g.M.Moves.fits c.args.machine.now) c.search.new.store c.search.new.found.items o) c.in_default-full.is c.in-Ok.ensures in
    let fs : AllByRecursion (IsFound m c.search.new.store.entries) c.as_slice.result.now = subst (λ (fs : List Found). AllByRecursion (IsFound m c.search.new.store.entries) fs) (sym c.as_slice.ensures.value) s.0.found in
    let zs : AllZip (IsReportOf m) c.search.new.found.items c.in-Ok-reports.reports = subst (λ (fs : List Found). AllZip (IsReportOf m) fs c.in-Ok-reports.reports) c.as_slice.ensures.value (c.in-Ok-reports.ensures m s.0.known.linked fs) in
    faults m (g.M.Moves.fits c.args.machine.now) c.search.new.store c.search.new.found.items c.in-Ok-reports.reports s.0 s.1 zs
