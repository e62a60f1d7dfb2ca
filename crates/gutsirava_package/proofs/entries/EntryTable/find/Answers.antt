-- What the target of the entry gives is what the entries do.
use Rattle.std.proofs.Common.{◌≡◌, List, Option, Some, option_map, ℕ}
use Rattle.std.specs.Borrow.{Bor}
use Rattle.std.proofs.lemmas.Result.{IfOk-weaker}
use Rattle.gutsirava_package.specs.Entries.{IsFoundIn, given, shown}
use Rattle.gutsirava_package.specs.declared.lookup.Located.{Located}
use Rattle.gutsirava_package.proofs.EntryLemmas.{entry-gives}
use Rattle.gutsirava_package.proofs.entries.EntryTable.find.Goals as goal

pub returns-clause-found : goal.returns-clause-found
returns-clause-found c =
    let entries = c.args.self.now.entries in
    let found = c.in-Some.found in
    let target = c.in-Some-target.target.now in
    let is = rw c.in-Some.is at c.in_ok-found.ensures in
    IfOk-weaker c.locate.result
    (λ (located : Option Located). given target (option_map (λ (star : Bor (List ℕ)). star.now) found.star) ≡ Some (option_map shown located))
    (IsFoundIn entries c.args.name.now c.args.loader)
    (λ located gives. entry-gives entries c.args.name.now c.args.loader found target located is c.in-Some-target.ensures gives)
    c.locate.ensures.gives
