use Rattle.std.proofs.Common.{◌<◌, [], length, ap, refl, sym, ◌∙◌, subst, arith}
use Rattle.std.specs.Prelude.{slice_get}
use Rattle.std.proofs.lemmas.Option.{slice_get_within}
use Rattle.bundle_link_index.specs.Given.{AddsMissing}
use Rattle.bundle_link_index.specs.Programs.{IsTableOf}
use Rattle.bundle_link_targets.specs.Meant.{AnyMeans}
use Rattle.bundle_link_targets.specs.Found.{targets_in}
use Rattle.bundle_link_targets.specs.Handed.{AreMeanings, AreMeaningsOf}
use Rattle.bundle_link_tables.specs.Used.{uses_of}
use Rattle.bundle_link_targets.proofs.CallPlaceLemmas.{fills-past, slice_get-past}
use Rattle.bundle_link_targets.proofs.SymbolLemmas.{map-none-back as map-none}
use Rattle.bundle_link_targets.proofs.ListLemmas.{map-some}
use Rattle.bundle_link_targets.proofs.meant.Meant.add_uses_in.Goals as goal

pub returns-in_ok-add_uses-in-Some-clause-right : goal.returns-in_ok-add_uses-in-Some-clause-right
returns-in_ok-add_uses-in-Some-clause-right c = λ p is ready.
    let kinds = c.args.kinds.now in
    let m = c.args.which in
    let at = map-some (λ its. its.tables) (slice_get kinds.modules.now m) c.in-Some.tables (sym c.tables.ensures ∙ c.in-Some.is) in
    let same = ap (λ t. t.now) at.2 in
    let table = subst (IsTableOf p m) same (ready.tables m at.0 at.1) in
    subst (λ l. AddsMissing (targets_in c.args.self.now.targets) (AnyMeans p m l) (targets_in c.add_uses.new.self.targets)) table.uses (c.in_ok-add_uses-in-Some.ensures.right p is ready table)

pub returns-in_ok-add_uses-in-Some-clause-meanings : goal.returns-in_ok-add_uses-in-Some-clause-meanings
returns-in_ok-add_uses-in-Some-clause-meanings c = λ p is ready long.
    let kinds = c.args.kinds.now in
    let m = c.args.which in
    let at = map-some (λ its. its.tables) (slice_get kinds.modules.now m) c.in-Some.tables (sym c.tables.ensures ∙ c.in-Some.is) in
    let same = ap (λ t. t.now) at.2 in
    let table = subst (IsTableOf p m) same (ready.tables m at.0 at.1) in
    let within : m < length c.args.self.now.meanings.items = omega (arith, long, slice_get_within kinds.modules.now m at.0 at.1) in
    c.in_ok-add_uses-in-Some.ensures.meanings p is ready table within

pub returns-in-None-clause-meanings : goal.returns-in-None-clause-meanings
returns-in-None-clause-meanings c = λ p is ready long.
    let kinds = c.args.kinds.now in
    let m = c.args.which in
    let none = map-none (λ its. its.tables) (slice_get kinds.modules.now m) (sym c.tables.ensures ∙ c.in-None.is) in
    fills-past (AreMeaningsOf p) m c.args.self.now.meanings.items c.args.self.now.meanings.items refl
    (omega (arith, long, slice_get-past kinds.modules.now m none))
    (subst (λ tree. AreMeanings p m (uses_of tree) []) (sym (ready.trees m none)) tt)
