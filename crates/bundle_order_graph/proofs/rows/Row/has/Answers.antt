use Rattle.std.proofs.Common.{◌≡◌, ◌/◌, ◌≤◌, length, get_or, rules}
use Rattle.std.proofs.lemmas.Bool.{false≢true}
use Rattle.bundle_order_graph.proofs.BitLemmas.{Has-test, Has-past}
use Rattle.bundle_order_graph.proofs.rows.Row.has.Goals as goal

pub returns-in-Some : goal.returns-in-Some
returns-in-Some c =
    let e : c.in-Some.word.now ≡ get_or c.args.self.now (c.args.position / 64) 0 = search rules in
    Has-test c.args.self.now c.args.position c.in-Some.word.now e

pub returns-in-None : goal.returns-in-None
returns-in-None c =
    let past : length c.args.self.now ≤ c.args.position / 64 = search rules in
    (λ t. absurd (false≢true t), λ h. absurd (Has-past c.args.self.now c.args.position past h))
